-- What make and refresh may take of a well-formed record, and that nothing there is touched by it.
use Prim.Native.Nat.{ℕ, ◌+◌, ◌-◌, ◌%◌, ◌≤◌, ◌<◌}
use native.Mathlib.Omega.{arith}
use mathlib.Core.Bool.{Bool, true, false, false≢true, and-eq-true_iff}
use mathlib.Core.List.{List}
use mathlib.Core.Path.{◌≡◌}
use borrow.Author.Tests.{eqb-true, leb-true, le-leb, lt-leb, lt-ltb, ne_eqb}
use lib.Dec.{eqb, leb}
use lib.ListN.{length, get_or, set}
use lib.Seq.{get_or-set_other}
use Rattle.lists.specs.Tests.{any, All}
use Rattle.lists.proofs.Cases.{by_test, and₃}
use Rattle.lists.proofs.All.{all_get_or}
use Rattle.lists.proofs.Tables.{all_from→All}
use Rattle.ledger.specs.Limits.{capacity, task_count, large_size, counter_range, is_small}
use Rattle.ledger.specs.Tasks.{is_absent}
use Rattle.ledger.specs.declared.Limits.{Limits}
use Rattle.record.specs.Codes.{due_by, state_of, due_of, is_dated, units_left, absent_entry, free_block, free_entry, local_code, global_code, departed_code}
use Rattle.record.specs.Reading.{is_small_block, Typed}
use Rattle.record.specs.WellFormed.{is_fit_due, is_fit_entry, is_naming, is_sized_for, is_prefixed, is_fit_block, is_block}
use Rattle.record.specs.declared.TaskEntry.{TaskEntry}
use Rattle.record.specs.Tables.{BlockEntry, ExpirationEntry, Tables}
use Rattle.record.specs.declared.GlobalTime.{GlobalTime}
use Rattle.record.specs.declared.Due.{Due}
use Rattle.record.specs.declared.Due.TheVariants.{Free, Local, Global, Pinned, Unknown}
use Rattle.record.proofs.Facts.{Fit, fit_local, fit_global}

-- the task may set an expiration with this extension
pub record MaySet (task extension : ℕ) (p : Tables) : Type 0 where
  pub known : task < task_count
  pub present : is_absent (state_of (get_or p.tasks task absent_entry).state) ≡ false
  pub short : extension ≤ p.limits.extension
  pub most : extension ≤ capacity.extension

-- any free entry of the expirations, of those that the figures allow
pub record SlotFree (limits : Limits) (slot : ℕ) (xs : List ExpirationEntry) : Type 0 where
  pub listed : slot < length xs
  pub free : (get_or xs slot free_entry).clock ≡ 0
  pub below : slot < limits.expirations

-- O10: a free block of the right store, for an object of a size in range
pub record PlaceFree (limits : Limits) (place size : ℕ) (blocks : List BlockEntry) : Type 0 where
  pub listed : place < length blocks
  pub free : (get_or blocks place free_block).handle ≡ 0
  pub store : is_small_block place ≡ is_small size
  pub its : is_block limits place ≡ true
  pub least : 1 ≤ size
  pub most : size ≤ large_size

-- the block that a make leaves there
abbrev pub new_block : ℕ → ℕ → ℕ → ℕ → BlockEntry
new_block maker given size prefix = record { handle = given + 1; length = size; sum = 0; maker = maker; prefix = prefix }

-- a free entry has no expiration
pub slot_due : {limits : Limits} (slot : ℕ) (xs : List ExpirationEntry) → SlotFree limits slot xs → due_of (get_or xs slot free_entry) ≡ Free
unfolding due_by
slot_due slot xs entry = rw entry.free

-- the clock of a task is its own
pub local_due : (task due : ℕ) → task < task_count → due_by (local_code + task) due ≡ Local task (record { 0 = due })
unfolding due_by
local_due task due known =
    let same : local_code + task - local_code ≡ task = omega arith in
    rw (ne_eqb (local_code + task) 0 (λ e. omega arith), lt-leb global_code (local_code + task) (omega arith), le-leb local_code (local_code + task) (omega arith), lt-ltb (local_code + task) global_code (omega arith), same)

-- and that of the global time has its setter
pub global_due : (task due : ℕ) → task < task_count → due_by (global_code + task) due ≡ Global task (record { 0 = due })
unfolding due_by
global_due task due known =
    let same : global_code + task - global_code ≡ task = omega arith in
    rw (ne_eqb (global_code + task) 0 (λ e. omega arith), le-leb global_code (global_code + task) (omega arith), le-leb (global_code + task) departed_code (omega arith), same)

-- units left right after they are set: no counter goes round in so few
pub units_set : (now units : ℕ) → now < counter_range → units ≤ capacity.extension + 2 → units_left ((now + units) % counter_range) now ≡ units
unfolding counter_range
units_set now units range few = omega arith

pub clock_range : (p : Tables) → Typed p → (task : ℕ) → (get_or p.tasks task absent_entry).clock.0 < counter_range
unfolding counter_range
clock_range p types task = all_get_or (λ (e : TaskEntry). e.clock.0 < counter_range) absent_entry (omega arith) p.tasks types.clocks task

-- a fit expiration names a block in use
pub fit_used : (limits : Limits) (setter : TaskEntry) (global : GlobalTime) (used : Bool) (due : Due) → is_fit_due limits setter global used due ≡ true → is_dated due ≡ true
    → used ≡ true
unfolding is_fit_due
fit_used limits setter global used Free fit dated = absurd (false≢true dated)
fit_used limits setter global used (Local task at) fit dated = (fit_local limits setter global used task at fit).naming
fit_used limits setter global used (Global task at) fit dated = (fit_global limits setter global used task at fit).naming
fit_used limits setter global used (Pinned due) fit dated = ((and-eq-true_iff used _).0 fit).0
fit_used limits setter global used Unknown fit dated = absurd (false≢true dated)

-- so its block stays as it is when a free one is taken
pub block_stays : (limits : Limits) (tasks : List TaskEntry) (global : GlobalTime) (blocks : List BlockEntry) (place : ℕ) (b : BlockEntry)
    → (get_or blocks place free_block).handle ≡ 0 → (e : ExpirationEntry) → is_fit_entry limits tasks global blocks e ≡ true → is_dated (due_of e) ≡ true
    → get_or (set blocks place b) e.block free_block ≡ get_or blocks e.block free_block
block_stays limits tasks global blocks place b free e fit dated =
    let used = fit_used limits _ global _ (due_of e) fit dated in
    get_or-set_other blocks place e.block b free_block (λ at. false≢true (rw (at, free) at used))

-- what a fit block in use has
pub fit_block : (given : ℕ) (xs : List ExpirationEntry) (i : ℕ) (b : BlockEntry) → is_fit_block given xs i b ≡ true → eqb b.handle 0 ≡ false
    → (any (is_naming i) xs ≡ true) × (is_sized_for i b.length ≡ true) × (is_prefixed b ≡ true) × (leb b.handle given ≡ true)
unfolding is_fit_block
fit_block given xs i b fit used =
    let (shaped, numbered) = (and-eq-true_iff _ _).0 (rw used at fit) in
    let (named, sized, prefixed) = and₃ (any (is_naming i) xs) _ _ shaped in
    (named, sized, prefixed, numbered)

-- so every handle is one that was given, or none
pub blocks_given : (p : Tables) → Fit p → All (λ (b : BlockEntry). b.handle ≤ p.given) p.blocks
blocks_given p fit =
    all_from→All _ _
    (λ i b fits.
    by_test (eqb b.handle 0)
    (λ z. omega (arith, eqb-true b.handle 0 z))
    (λ z. leb-true b.handle p.given (fit_block p.given p.expirations i b fits z).3))
    0 p.blocks fit.blocks
