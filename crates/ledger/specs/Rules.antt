-- The rules of each call in one place: what refuses it, what it answers and leaves where it is carried out, and what it asks of the book.
use Rattle.std.specs.Prelude.{ℕ, ◌+◌, Bool, true, not, cond, ◌&&◌, List, [], ◌∷◌, ◌++◌, map, leb, ltb, length, set}
use Rattle.lists.specs.Tests.{all}
use Rattle.ledger.specs.Limits.{is_small}
use Rattle.ledger.specs.Tasks.{task_at, is_tested, advances, clocks_after, entered, joined}
use Rattle.ledger.specs.Expirations.{Expiration, due_after, lasting, released, set_on_each}
use Rattle.ledger.specs.Objects.{Memory, with_clocks, with_objects, with_shares, with_pinned, Reply, plain, zeroed, bytes_for, object_at, written, makers_after, shares_after, handles_of, stands, standing, pinned_by, unpinned}
use Rattle.ledger.specs.Shares.{is_full, is_short_of, is_at_limit}
use Rattle.ledger.specs.Refusals.{Test, no_such_task, task_present, task_absent, task_waiting, task_running, only_views, extension_too_long, length_out_of_range, prefix_too_long, handles_spent, no_free_block, no_free_expiration, handle_not_given, object_gone, outside_object, batch_out_of_range, only_make_pins, not_pinned, sum_differs, reserve_above_limit, reserve_not_free, at_limit, some_not_given, some_gone, no_room_for}
use Rattle.ledger.specs.declared.Answer.TheVariants.{Done, Advanced, Handle, Bytes}
use Rattle.ledger.specs.declared.Event.{Event}
use Rattle.ledger.specs.declared.Event.TheVariants.{Leave, Block, Resume, Tick, View}
use Rattle.ledger.specs.declared.Call.{Call}
use Rattle.ledger.specs.declared.Call.TheVariants.{Join, Schedule, Make, Refresh, Read, Write, Batch, Release}

-- The rule of a call. R32: `tests` refuse it, in their order. Where none holds, `reply` is its answer, and `memory` and `expirations` are
-- what it makes of these. H9: `asks` is what a use must find in the book when the call comes.
pub record Rule : Type 0 where
  pub tests : List Test
  pub reply : Memory → Reply
  pub memory : Memory → Memory
  pub expirations : Memory → List Expiration → List Expiration
  pub asks : Memory → List Expiration → Bool

-- R37 to R39, R49
abbrev pub event_tests : Event → ℕ → List Test
event_tests Leave task = no_such_task task ∷ task_absent task ∷ []
event_tests Block task = no_such_task task ∷ task_absent task ∷ task_waiting task ∷ only_views task ∷ []
event_tests Resume task = no_such_task task ∷ task_absent task ∷ task_running task ∷ []
event_tests Tick task = no_such_task task ∷ task_absent task ∷ task_waiting task ∷ only_views task ∷ []
event_tests View task = no_such_task task ∷ task_present task ∷ []

-- the list is the bytes of a write, or the handles of a batch
abbrev pub rule_of : Call → List ℕ → Rule
-- R36, Q1, H25
rule_of (Join task share) new =
    record {
      tests = no_such_task task ∷ task_present task ∷ reserve_above_limit share ∷ reserve_not_free task share ∷ [];
      reply = λ m. plain Done;
      memory = λ m. with_shares (set m.shares task share) (with_clocks (entered task joined m.clocks) m);
      expirations = λ m xs. xs;
      asks = λ m book. not (is_short_of m.limits m.shares (standing book m.objects) task share);
    }
-- leave, block, resume, tick and view. O26, E12, Q2, Q3, H13
rule_of (Schedule event task) new =
    record {
      tests = event_tests event task;
      reply = λ m. plain (cond (is_tested event) (Advanced (advances event task m.clocks)) Done);
      memory = λ m.
          with_clocks (clocks_after event task m.clocks)
          (with_objects (makers_after event task m.objects) (with_shares (shares_after event task m.shares) m));
      expirations = λ m xs. lasting event task (advances event task m.clocks) (clocks_after event task m.clocks) xs;
      asks = λ m book. true;
    }
-- R40, O12 to O14, E23, H10
rule_of (Make task kind extension size prefix) new =
    record {
      tests =
          no_such_task task ∷ task_absent task ∷ task_waiting task ∷ only_views task ∷ extension_too_long kind extension ∷ length_out_of_range size
          ∷ prefix_too_long size prefix ∷ handles_spent ∷ at_limit task size ∷ no_free_block task size ∷ no_free_expiration ∷ [];
      reply = λ m. plain (Handle (m.given + 1));
      memory = λ m. record {
        limits = m.limits;
        clocks = m.clocks;
        given = m.given + 1;
        objects = m.objects ++ (zeroed task (m.given + 1) size prefix ∷ []);
        shares = m.shares;
        pinned = pinned_by kind (m.given + 1) m.pinned;
      };
      expirations = λ m xs. record { handle = m.given + 1; due = due_after m.clocks task kind extension } ∷ xs;
      asks = λ m book.
          let os = standing book m.objects in
          not (is_at_limit (is_small size) m.shares os task)
          && (not (is_full (is_small size) m.shares os m.limits task) && ltb (length book) m.limits.expirations);
    }
-- R41, O17, H11
rule_of (Refresh task kind extension handle) new =
    record {
      tests =
          no_such_task task ∷ task_absent task ∷ task_waiting task ∷ only_views task ∷ only_make_pins kind ∷ extension_too_long kind extension
          ∷ handle_not_given handle ∷ object_gone handle ∷ no_free_expiration ∷ [];
      reply = λ m. plain Done;
      memory = λ m. m;
      expirations = λ m xs. record { handle = handle; due = due_after m.clocks task kind extension } ∷ xs;
      asks = λ m book. stands book handle && ltb (length book) m.limits.expirations;
    }
-- R42, O18, O25, V5, H12
rule_of (Read task handle) new =
    record {
      tests = no_such_task task ∷ task_absent task ∷ task_waiting task ∷ handle_not_given handle ∷ object_gone handle ∷ sum_differs handle ∷ [];
      reply = λ m. record { answer = Bytes; bytes = bytes_for (task_at m.clocks task).state (object_at handle m.objects) };
      memory = λ m. m;
      expirations = λ m xs. xs;
      asks = λ m book. stands book handle;
    }
-- R43, O20, O35, H12
rule_of (Write task handle offset) new =
    record {
      tests =
          no_such_task task ∷ task_absent task ∷ task_waiting task ∷ only_views task ∷ handle_not_given handle ∷ object_gone handle
          ∷ sum_differs handle ∷ outside_object handle offset (length new) ∷ [];
      reply = λ m. plain Done;
      memory = λ m. with_objects (map (written handle offset new) m.objects) m;
      expirations = λ m xs. xs;
      asks = λ m book. stands book handle;
    }
-- R47, O32, H22
rule_of (Batch task kind extension) new =
    let handles = handles_of new in
    record {
      tests =
          no_such_task task ∷ task_absent task ∷ task_waiting task ∷ only_views task ∷ batch_out_of_range (length handles) ∷ only_make_pins kind
          ∷ extension_too_long kind extension ∷ some_not_given handles ∷ some_gone handles ∷ no_room_for (length handles) ∷ [];
      reply = λ m. plain Done;
      memory = λ m. m;
      expirations = λ m xs. set_on_each (due_after m.clocks task kind extension) handles xs;
      asks = λ m book. all (stands book) handles && leb (length book + length handles) m.limits.expirations;
    }
-- R48, E24, H23
rule_of (Release task handle) new =
    record {
      tests = no_such_task task ∷ task_absent task ∷ task_waiting task ∷ only_views task ∷ handle_not_given handle ∷ object_gone handle ∷ not_pinned handle ∷ [];
      reply = λ m. plain Done;
      memory = λ m. with_pinned (unpinned handle m.pinned) m;
      expirations = λ m xs. released handle xs;
      asks = λ m book. stands book handle;
    }

-- the five parts of a call's rule by their names; the reply does not look at the bytes
unfoldable pub tests_of : Call → List ℕ → List Test
tests_of call new = (rule_of call new).tests

unfoldable pub reply_to : Call → Memory → Reply
reply_to call m = (rule_of call []).reply m

unfoldable pub memory_after : Call → List ℕ → Memory → Memory
memory_after call new m = (rule_of call new).memory m

unfoldable pub expirations_after : Call → List ℕ → Memory → List Expiration → List Expiration
expirations_after call new m xs = (rule_of call new).expirations m xs

unfoldable pub is_in_time_and_bounds : Memory → List Expiration → Call → List ℕ → Bool
is_in_time_and_bounds m book call new = (rule_of call new).asks m book
