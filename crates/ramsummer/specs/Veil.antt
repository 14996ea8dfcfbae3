-- V11, order 10 for a host, over lists of display_calls through the entries or by lines: what is written beyond the prefix of an object (02:
-- head) shows in no answer to a viewer.
use Rattle.std.specs.Prelude.{ℕ, true, List, [], ◌∷◌, map, ◌≡◌, length, Ok}
use Rattle.ledger.specs.Objects.{Reply}
use Rattle.ledger.specs.Ledger.{Sent, fresh}
use Rattle.ledger.specs.Limits.{is_allowed}
use Rattle.ledger.specs.Veil.{veils, to_viewers, seen_in}
use Rattle.ledger.specs.Views.{display_calls}
use Rattle.ledger.specs.declared.Limits.{Limits}
use Rattle.ledger.specs.declared.Request.{Request}
use Rattle.record.specs.Reading.{fresh_pool, whole_small, whole_large}
use Rattle.record.specs.declared.Pool.{Pool}
use Rattle.by_value.specs.Told.{Loans, Told}
use Rattle.ramsummer.specs.Steps.{Asked, frame_asked, bytes_asked, is_heard, tells, Action, asks}
use Rattle.ramsummer.specs.Demands.{HostRuns}

-- one of the fourteen display_calls, by its own entry or by a line, with what the host lends for its answer
pub record HostCall : Type 0 where
  pub asked : Asked
  pub loans : Loans
  pub request : Request
  pub count : ℕ
  pub heard : is_heard asked loans ≡ true
  pub yields : frame_asked asked ≡ Ok (request, count)

abbrev pub action_for : HostCall → Action
action_for c = asks c.asked c.loans

abbrev pub sent_of : HostCall → Sent
sent_of c = record { request = c.request; bytes = bytes_asked c.asked }

-- what the host is told of these answers to its display_calls
unfoldable pub told_all : List HostCall → List Reply → List Told
told_all [] ys = []
told_all (c ∷ cs) [] = []
told_all (c ∷ cs) (y ∷ ys) = tells c.asked y c.loans ∷ told_all cs ys

-- A host's list of display_calls on a fresh pool of allowed figures, with stores as long as the blocks need and any bytes in them
pub record HostRun (limits : Limits) (cs : List HostCall) (ts : List Told) : Type 0 where
  pub allowed : is_allowed limits ≡ true
  pub small : List ℕ
  pub large : List ℕ
  pub small_whole : length small ≡ whole_small limits
  pub large_whole : length large ≡ whole_large limits
  pub pool : Pool
  pub small_after : List ℕ
  pub large_after : List ℕ
  pub runs : HostRuns (fresh_pool limits) small large (map action_for cs) ts pool small_after large_after

-- There is one for every list of a host's display_calls and all figures that a site may choose; and the two lists of `Views`, which have one
-- veil and are not answered alike, are a host's: the claim is about something.
pub record SomeHostRun (limits : Limits) (cs : List HostCall) : Type 0 where
  pub told : List Told
  pub run : HostRun limits cs told

pub record HostRunsExist : Type 0 where
  pub every : (limits : Limits) → is_allowed limits ≡ true → (cs : List HostCall) → SomeHostRun limits cs
  pub first : List HostCall
  pub second : List HostCall
  pub first_calls : map sent_of first ≡ display_calls 6 7 8
  pub second_calls : map sent_of second ≡ display_calls 9 10 11

-- Two lists of a host's display_calls that differ only in bytes written beyond prefixes:
pub record Discreetly (limits : Limits) (cs ds : List HostCall) (ts us : List Told) : Type 0 where
  pub answers : List Reply
  pub others : List Reply
  -- all that it is told in either are the answers to its display_calls;
  pub told : ts ≡ told_all cs answers
  pub told_others : us ≡ told_all ds others
  pub count : length answers ≡ length cs
  pub count_others : length others ≡ length ds
  -- of these the ones to viewers, and all reports, are the same,
  pub viewers : to_viewers (fresh limits) (map sent_of cs) answers ≡ to_viewers (fresh limits) (map sent_of ds) others
  -- and every other at its place, but for what a task that is no viewer reads beyond a prefix.
  pub same : seen_in (fresh limits) (map sent_of cs) answers ≡ seen_in (fresh limits) (map sent_of ds) others

abbrev pub HostDiscreet : Type 0
HostDiscreet =
    (limits : Limits) (cs ds : List HostCall) (ts us : List Told) → HostRun limits cs ts → HostRun limits ds us
    → veils (fresh limits) (map sent_of cs) ≡ veils (fresh limits) (map sent_of ds) → Discreetly limits cs ds ts us
