-- E20 of the pool, over lists of calls: waiting eats none of a task's global expirations in the record.
use Rattle.std.specs.Prelude.{ℕ, ◌-◌, ◌≤◌, Bool, true, false, List, [], ◌∷◌, ◌++◌, ◌≡◌}
use Rattle.ledger.specs.Tasks.{Clocks, advances}
use Rattle.ledger.specs.Expirations.{Expiration, by_global, remaining}
use Rattle.ledger.specs.Ledger.{Ledger, Sent, fresh, after_sent, after_all}
use Rattle.ledger.specs.Outlives.{happens, move_in, set_in, left_in}
use Rattle.ledger.specs.PutOff.{global_one, LeftWith, waits_after}
use Rattle.ledger.specs.declared.Event.{Event}
use Rattle.ledger.specs.declared.Limits.{Limits}
use Rattle.record.specs.declared.Pool.{Pool}
use Rattle.demands.specs.Outlives.{FreshRun, SomeRun, Shows}

-- Calls from fresh on, and then an accepted event that makes the global time advance; before it a global expiration stood, between these
-- others.
pub record AtAdvance : Type 0 where
  pub limits : Limits
  pub earlier : List Sent
  pub call : Sent
  pub event : Event
  pub task : ℕ
  pub happened : move_in (after_all (fresh limits) earlier) call.request call.bytes ≡ happens event task
  pub advanced : advances event task (after_all (fresh limits) earlier).memory.clocks ≡ true
  pub handle : ℕ
  pub setter : ℕ
  pub at : ℕ
  pub front : List Expiration
  pub back : List Expiration
  pub among : (after_all (fresh limits) earlier).expirations ≡ front ++ (global_one handle setter at ∷ back)

abbrev pub before : AtAdvance → Ledger
before a = after_all (fresh a.limits) a.earlier

abbrev pub clocks_before : AtAdvance → Clocks
clocks_before a = (before a).memory.clocks

abbrev pub units_before : AtAdvance → ℕ
units_before a = remaining (clocks_before a) (by_global a.setter a.at)

-- what the call leaves of some expirations, and so of all others
abbrev pub left_at : AtAdvance → List Expiration → List Expiration
left_at a xs = left_in (before a) a.call.request a.call.bytes xs

abbrev pub others_at : AtAdvance → List Expiration
others_at a = set_in (before a) a.call.request a.call.bytes ++ (left_at a a.front ++ left_at a a.back)

-- the record has it with so many units, and the others
pub record ShownWith (a : AtAdvance) (p' : Pool) (small' large' : List ℕ) (count : ℕ) : Type 0 where
  pub left : LeftWith a.event a.task (clocks_before a) (global_one a.handle a.setter a.at) count
  pub shows : Shows p' small' large' (after_sent (before a) a.call) (left.one ∷ others_at a)

-- all these calls, the event the last of them, and whether the setter waits then
abbrev pub calls_to : AtAdvance → List Sent
calls_to a = a.earlier ++ (a.call ∷ [])

abbrev pub waits_then : AtAdvance → Bool
waits_then a = waits_after a.event a.task (clocks_before a) a.setter

pub record PoolWaitingEatsNothing : Type 0 where
  -- where its setter waits after the event it has all the units that it had,
  pub waits : (a : AtAdvance) (p' : Pool) (small' large' : List ℕ) → FreshRun a.limits (calls_to a) p' small' large'
      → waits_then a ≡ true → ShownWith a p' small' large' (units_before a)
  -- and else one less, or it ends with its last: the record has the others alone.
  pub counts : (a : AtAdvance) (p' : Pool) (small' large' : List ℕ) → FreshRun a.limits (calls_to a) p' small' large'
      → waits_then a ≡ false → 2 ≤ units_before a → ShownWith a p' small' large' (units_before a - 1)
  pub ends : (a : AtAdvance) (p' : Pool) (small' large' : List ℕ) → FreshRun a.limits (calls_to a) p' small' large'
      → waits_then a ≡ false → units_before a ≡ 1 → Shows p' small' large' (after_sent (before a) a.call) (others_at a)

-- None of the three is empty: a run comes to such an advance.
pub record AdvancesApply : Type 0 where
  pub waits : (a : AtAdvance) × SomeRun a.limits (calls_to a) × (waits_then a ≡ true)
  pub counts : (a : AtAdvance) × SomeRun a.limits (calls_to a) × (waits_then a ≡ false) × (units_before a ≡ 2)
  pub ends : (a : AtAdvance) × SomeRun a.limits (calls_to a) × (waits_then a ≡ false) × (units_before a ≡ 1)
