-- The global time advances in exactly the accepted ticks, blocks and leaves after which it waits for nobody while some task runs.
use Prim.Native.Nat.{ℕ, ◌+◌}
use native.Mathlib.Omega.{arith}
use mathlib.Core.Bool.{cond, not, ◌||◌, ◌&&◌}
use mathlib.Core.List.{List, [], ◌∷◌}
use mathlib.Core.Option.{Option, none, some}
use mathlib.Core.Path.{◌≡◌, refl, sym, ◌∙◌}
use Rattle.lists.specs.Tests.{all}
use Rattle.lists.proofs.Bits.{no_bits}
use Rattle.lists.proofs.Cases.{by_test, not_and_not}
use Rattle.ledger.specs.Tasks.{Task, Clocks, is_running, all_ticked, tasks_after, advances, clocks_after, entered}
use Rattle.ledger.specs.Objects.{Memory}
use Rattle.ledger.specs.Rules.{memory_after, expirations_after}
use Rattle.ledger.specs.Ledger.{Ledger, Sent, settled, after_by, verdict_on, next, after_request, after_all}
use Rattle.ledger.specs.Awaited.{is_awaited, is_nobody_awaited, is_accepted, is_last_awaited, brings_advance, advances_in, global_of, Awaited}
use Rattle.ledger.specs.declared.Call.{Call}
use Rattle.ledger.specs.declared.Call.TheVariants.{Join, Schedule, Make, Refresh, Read, Write, Batch, Release}
use Rattle.ledger.specs.declared.Event.{Event}
use Rattle.ledger.specs.declared.Refusal.{Refusal}
use Rattle.ledger.specs.declared.Request.{Request}
use Rattle.ledger.specs.declared.Request.TheVariants.{Use, Report, Remaining}
use Rattle.ledger.proofs.Kept.{kept_all}

-- all that run have ticked exactly where nobody is awaited
none_awaited : (ts : List Task) → all (λ (t : Task). not (is_running t.state) || t.ticked) ts ≡ all (λ (t : Task). not (is_awaited t)) ts
none_awaited [] = refl
none_awaited (t ∷ ts) = rw (not_and_not (is_running t.state) t.ticked, none_awaited ts)

ticked_awaited : (ts : List Task) → all_ticked ts ≡ is_nobody_awaited ts
unfolding all_ticked is_nobody_awaited
ticked_awaited ts = rw (none_awaited ts, no_bits is_awaited ts)

tested : (event : Event) (task : ℕ) (clocks : Clocks) → advances event task clocks ≡ is_last_awaited (Schedule event task) clocks
unfolding advances is_last_awaited
tested event task clocks = rw (ticked_awaited (tasks_after event task clocks))

-- what a call that is carried out makes of the global time
carried : (call : Call) (new : List ℕ) (m : Memory) → (memory_after call new m).clocks.global ≡ m.clocks.global + cond (is_last_awaited call m.clocks) 1 0
unfolding memory_after clocks_after entered is_last_awaited
carried (Join task share) new m = omega arith
carried (Schedule event task) new m =
    rw (← tested event task m.clocks) (by_test (advances event task m.clocks) (λ e. rw e) (λ e. rw e (omega arith)))
carried (Make task kind extension size prefix) new m = omega arith
carried (Refresh task kind extension handle) new m = omega arith
carried (Read task handle) new m = omega arith
carried (Write task handle offset) new m = omega arith
carried (Batch task kind extension) new m = omega arith
carried (Release task handle) new m = omega arith

one : (L : Ledger) (request : Request) (new : List ℕ) → global_of (after_request L request new) ≡ global_of L + cond (brings_advance L request new) 1 0
unfolding next
one L Report new = omega arith
one L (Remaining task handle) new = omega arith
one L (Use call) new = by (verdict_on L call new)
  where
    by : (v : Option Refusal)
        → global_of (after_by v (settled (memory_after call new L.memory) (expirations_after call new L.memory L.expirations)) L)
        ≡ global_of L + cond (is_accepted v && is_last_awaited call L.memory.clocks) 1 0
    by none = carried call new L.memory
    by (some r) = omega arith

every : (L : Ledger) (ss : List Sent) → global_of (after_all L ss) ≡ global_of L + advances_in L ss
unfolding after_all advances_in
every L [] = omega arith
every L (s ∷ ss) = rw (every (after_request L s.request s.bytes) ss, one L s.request s.bytes) (omega arith)

pub awaited : Awaited
awaited = record { test = tested; one = one; every = every; between = λ limits ss. sym (ticked_awaited _) ∙ (kept_all limits ss).clocks.unticked }
