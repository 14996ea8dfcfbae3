-- A host's display_calls are told the ledger's answers, of which the claim of the veil holds.
use Prim.Native.Nat.{ℕ, suc}
use native.Mathlib.Omega.{arith}
use mathlib.Core.Bool.{true≢false}
use mathlib.Core.List.{List, [], ◌∷◌, map}
use mathlib.Core.Logic.{◌≢◌}
use mathlib.Core.Option.{Option, none, some}
use mathlib.Core.Path.{◌≡◌, refl, sym, ap, ap₂, ◌∙◌}
use borrow.Author.Tests.{ltb-true}
use lib.Dec.{ltb}
use lib.ListN.{length}
use Rattle.std.specs.Prelude.{Ok}
use Rattle.lists.proofs.Cases.{by_test}
use Rattle.ledger.specs.Objects.{Reply}
use Rattle.ledger.specs.Rules.{reply_to}
use Rattle.ledger.specs.Ledger.{Ledger, Sent, fresh, reply_by, verdict_on, reply, reply_to_request, after_request, replies}
use Rattle.ledger.specs.Numbers.{answer_number}
use Rattle.ledger.specs.Views.{display_calls}
use Rattle.ledger.proofs.Veil.{discreet}
use Rattle.ledger.specs.declared.Call.{Call}
use Rattle.ledger.specs.declared.Call.TheVariants.{Join, Schedule, Make, Refresh, Read, Write, Batch, Release}
use Rattle.ledger.specs.declared.Limits.{Limits}
use Rattle.ledger.specs.declared.Refusal.{Refusal}
use Rattle.ledger.specs.declared.Request.{Request}
use Rattle.ledger.specs.declared.Request.TheVariants.{Use, Report, Remaining}
use Rattle.record.specs.declared.Pool.{Pool}
use Rattle.calls.specs.Contract.{Same, Obeys}
use Rattle.demands.specs.Demands.{Runs}
use Rattle.demands.proofs.Outlives.{every_list_from_fresh}
use Rattle.by_value.specs.Told.{Loans, lent_numbers, Told}
use Rattle.ramsummer.specs.Steps.{Asked, entry, line, bytes_asked, tells, Gives}
use Rattle.by_value.proofs.Replies.{refusal_in_lem}
use Rattle.ramsummer.specs.Demands.{HostRuns, told_of_all}
use Rattle.ramsummer.specs.Veil.{HostCall, action_for, sent_of, told_all, HostRun, HostRunsExist, HostDiscreet}
use Rattle.ramsummer.proofs.Demands.{Held, made, framed, runs_follow}

-- what the ledger tells of such a list
all_told : (cs : List HostCall) (L : Ledger) → told_of_all (some L) (map action_for cs) ≡ told_all cs (replies L (map sent_of cs))
unfolding told_of_all told_all replies
all_told [] L = refl
all_told (c ∷ cs) L = rw (c.heard, c.yields) (ap₂ ◌∷◌ refl (all_told cs _))

told_by_lem : {limits : Limits} {cs : List HostCall} {ts : List Told} → HostRun limits cs ts → ts ≡ told_all cs (replies (fresh limits) (map sent_of cs))
told_by_lem {limits} {cs} r =
    (runs_follow r.runs (some (fresh limits)) (record { so = made limits r.allowed r.small r.large r.small_whole r.large_whole })).0
    ∙ all_told cs (fresh limits)

-- each call has its answer
as_many : (cs : List HostCall) (L : Ledger) → length (replies L (map sent_of cs)) ≡ length cs
unfolding replies
as_many [] L = refl
as_many (c ∷ cs) L = ap suc (as_many cs _)

pub host_discreet : HostDiscreet
host_discreet limits cs ds ts us a b e =
    record {
      answers = replies (fresh limits) (map sent_of cs);
      others = replies (fresh limits) (map sent_of ds);
      told = told_by_lem a;
      told_others = told_by_lem b;
      count = as_many cs (fresh limits);
      count_others = as_many ds (fresh limits);
      viewers = discreet.viewers limits (map sent_of cs) (map sent_of ds) e;
      same = discreet.same limits (map sent_of cs) (map sent_of ds) e;
    }

-- Every list of a host's display_calls can be run. Of the ledger's replies only that of a read has bytes;
without_bytes_lem : (L : Ledger) (call : Call) (new : List ℕ) → (reply_to call L.memory).bytes ≡ [] → (reply L call new).bytes ≡ []
unfolding reply
without_bytes_lem L call new e = by (verdict_on L call new)
  where
    by : (v : Option Refusal) → (reply_by v (reply_to call L.memory)).bytes ≡ []
    by none = e
    by (some r) = refl

module _ {p p' : Pool} {small large small' large' : List ℕ} {y : Reply} (L : Ledger) where
  silent : (call : Call) (new : List ℕ) → (reply_to call L.memory).bytes ≡ [] → y ≡ reply L call new → y.bytes ≢ [] → Same p small large p' small' large'
  silent call new r e n = absurd (n (ap (λ (z : Reply). z.bytes) e ∙ without_bytes_lem L call new r))

  -- so one that has bytes leaves record and stores,
  with_bytes_lem : (request : Request) (new : List ℕ) → Obeys request new p small large y p' small' large' → y ≡ reply_to_request L request new → y.bytes ≢ []
      → Same p small large p' small' large'
  unfolding reply_to
  with_bytes_lem (Use (Join task share)) new o e n = silent (Join task share) new refl e n
  with_bytes_lem (Use (Schedule event task)) new o e n = silent (Schedule event task) new refl e n
  with_bytes_lem (Use (Make task kind extension size prefix)) new o e n = silent (Make task kind extension size prefix) new refl e n
  with_bytes_lem (Use (Refresh task kind extension handle)) new o e n = silent (Refresh task kind extension handle) new refl e n
  with_bytes_lem (Use (Read task handle)) new o e n = o.left
  with_bytes_lem (Use (Write task handle offset)) new o e n = silent (Write task handle offset) new refl e n
  with_bytes_lem (Use (Batch task kind extension)) new o e n = silent (Batch task kind extension) new refl e n
  with_bytes_lem (Use (Release task handle)) new o e n = silent (Release task handle) new refl e n
  with_bytes_lem Report new o e n = o.left
  with_bytes_lem (Remaining task handle) new o e n = o.left

  refused_same : {request : Request} {new : List ℕ} → Obeys request new p small large y p' small' large' → answer_number y.answer ≢ 0
      → Same p small large p' small' large'
  refused_same o n = let (why, r) = refusal_in_lem y.answer n in let kept = o.keeps why r in (kept.same_pool, (kept.same_small, kept.same_large))

  -- and so does one that is told by any number but 0.
  told_same : (asked : Asked) (loans : Loans) (request : Request) → Obeys request (bytes_asked asked) p small large y p' small' large'
      → y ≡ reply_to_request L request (bytes_asked asked) → (tells asked y loans).number ≢ 0 → Same p small large p' small' large'
  told_same (entry asked bytes) loans request o e n =
      by_test (ltb (length loans.buffer) (length y.bytes))
      (λ h. with_bytes_lem request bytes o e (λ z. absurd (omega (arith, ltb-true (length loans.buffer) (length y.bytes) h, ap (λ (bs : List ℕ). length bs) z))))
      (λ h. refused_same o (rw h at n))
  told_same (line text) loans request o e n = refused_same o n

  host_gives : (c : HostCall) → Obeys c.request (bytes_asked c.asked) p small large y p' small' large'
      → y ≡ reply_to_request L c.request (bytes_asked c.asked) → Gives c.asked c.loans p small large (tells c.asked y c.loans) p' small' large'
  host_gives c o e =
      record {
        unheard = λ u. absurd (true≢false (sym c.heard ∙ u));
        heard = λ u. (y, rw c.yields o, refl);
        kept = λ n. let (a, (b, d)) = told_same c.asked c.loans c.request o e n in (a, b, d);
      }

acted : (cs : List HostCall) (L : Ledger) {p p' : Pool} {small small' large large' : List ℕ} {ys : List Reply} → Held L p small large
    → Runs p small large (map sent_of cs) ys p' small' large' → HostRuns p small large (map action_for cs) (told_all cs ys) p' small' large'
unfolding told_all
acted [] L b Runs.done = HostRuns.done
acted (c ∷ cs) L b (Runs.call o rest) =
    let (same, after) = framed (some L) (Ok (c.request, c.count)) (bytes_asked c.asked) (record { so = b }) o in
    HostRuns.step (host_gives L c o same) (acted cs (after_request L c.request (bytes_asked c.asked)) after.so rest)

-- a call by its own entry, with no loan
by_entry : Sent → HostCall
by_entry s = record { asked = entry (some s.request) s.bytes; loans = lent_numbers []; request = s.request; count = 0; heard = refl; yields = refl }

pub host_runs_exist : HostRunsExist
unfolding by_entry
host_runs_exist =
    record {
      every = λ limits may cs.
          let s = every_list_from_fresh limits may (map sent_of cs) in
          let r = s.run in
          record {
            told = told_all cs r.replies;
            run =
                record {
                  allowed = may;
                  small = r.small;
                  large = r.large;
                  small_whole = r.small_whole;
                  large_whole = r.large_whole;
                  pool = s.pool;
                  small_after = s.small;
                  large_after = s.large;
                  runs = acted cs (fresh limits) (made limits may r.small r.large r.small_whole r.large_whole) r.runs;
                };
          };
      first = map by_entry (display_calls 6 7 8);
      second = map by_entry (display_calls 9 10 11);
      first_calls = refl;
      second_calls = refl;
    }
