-- What a well-formed record has, part by part.
use Rattle.std.proofs.Common.{◌≡◌, ℕ, ◌+◌, ◌<◌, ◌≤◌, Bool, true, false, not, ◌&&◌, ◌||◌, eqb, ◌≢◌, map, get_or, refl, ltb-true, leb-true}
use mathlib.Core.Bool.{and-eq-true_iff}
use borrow.Author.Tests.{not-true, eqb-false}
use Rattle.lists.specs.Tests.{any, all}
use Rattle.lists.specs.Tables.{all_from}
use Rattle.lists.proofs.Cases.{and₃}
use Rattle.lists.proofs.Tables.{all_from_at}
use Rattle.ledger.specs.Limits.{is_allowed, task_count}
use Rattle.ledger.specs.Tasks.{is_absent, all_ticked}
use Rattle.ledger.specs.Expirations.{departed}
use Rattle.ledger.specs.declared.Limits.{Limits}
use Rattle.record.specs.Codes.{state_of, task_of, units_left, free_block}
use Rattle.record.specs.Shares.{is_shared}
use Rattle.record.specs.WellFormed.{is_fit_task, is_fit_due, is_fit_entry, is_naming, is_sized_for, is_fit_block, is_distinct, is_pinned_once, handle_of, is_block, is_block_at, is_entry_at, is_bounded, is_consistent, is_well_formed}
use Rattle.record.specs.declared.TaskEntry.{TaskEntry}
use Rattle.record.specs.declared.LocalTime.{LocalTime}
use Rattle.record.specs.declared.GlobalTime.{GlobalTime}
use Rattle.record.specs.declared.Due.TheVariants.{Local, Global}
use Rattle.record.specs.Tables.{Tables}

pub record Fit (p : Tables) : Type 0 where
  pub tasks : all is_fit_task p.tasks ≡ true
  pub unticked : all_ticked (map task_of p.tasks) ≡ false
  pub entries : all (is_fit_entry p.limits p.tasks p.global p.blocks) p.expirations ≡ true
  pub blocks : all_from 0 (is_fit_block p.given p.expirations) p.blocks ≡ true
  pub distinct : is_distinct (map handle_of p.blocks) ≡ true
  pub once : is_pinned_once p.expirations ≡ true
  pub allowed : is_allowed p.limits ≡ true
  pub listed : all_from 0 (is_block_at p.limits) p.blocks ≡ true
  pub counted : all_from 0 (is_entry_at p.limits) p.expirations ≡ true

pub fit_parts : (p : Tables) → is_well_formed p ≡ true → Fit p
unfolding is_well_formed is_consistent is_bounded
fit_parts p e =
    let (rest, shared) = (and-eq-true_iff _ _).0 e in
    let (rest, bounded) = (and-eq-true_iff _ _).0 rest in
    let (listed, counted) = (and-eq-true_iff _ _).0 bounded in
    let (rest, allowed) = (and-eq-true_iff _ _).0 rest in
    let (abcde, once) = (and-eq-true_iff _ _).0 rest in
    let (abcd, distinct) = (and-eq-true_iff _ _).0 abcde in
    let (abc, blocks) = (and-eq-true_iff _ _).0 abcd in
    let (ab, entries) = (and-eq-true_iff _ _).0 abc in
    let (tasks, unticked) = (and-eq-true_iff _ _).0 ab in
    record {
      tasks = tasks;
      unticked = not-true _ unticked;
      entries = entries;
      blocks = blocks;
      distinct = distinct;
      once = once;
      allowed = allowed;
      listed = listed;
      counted = counted;
    }

-- and its shares
abbrev pub Shared : Tables → Type 0
Shared p = is_shared p.limits p.tasks p.shares p.blocks ≡ true

pub shared_part : (p : Tables) → is_well_formed p ≡ true → Shared p
unfolding is_well_formed
shared_part p e = ((and-eq-true_iff (is_consistent p && is_allowed p.limits && is_bounded p.limits p.blocks p.expirations) _).0 e).1

pub fit_whole : (p : Tables) → Fit p → Shared p → is_well_formed p ≡ true
unfolding is_well_formed is_consistent is_bounded
fit_whole p f shared = rw (shared, f.tasks, f.unticked, f.entries, f.blocks, f.distinct, f.once, f.allowed, f.listed, f.counted)

-- what a fit local expiration has, by its setter's entry and whether it names a block in use
pub record FitLocal (limits : Limits) (setter : TaskEntry) (used : Bool) (task left : ℕ) : Type 0 where
  pub naming : used ≡ true
  pub known : task < task_count
  pub present : is_absent (state_of setter.state) ≡ false
  pub ahead : 1 ≤ left
  pub within : left ≤ limits.extension + 1

pub fit_local : (limits : Limits) (setter : TaskEntry) (global : GlobalTime) (used : Bool) (task : ℕ) (at : LocalTime)
    → is_fit_due limits setter global used (Local task at) ≡ true → FitLocal limits setter used task (units_left at.0 setter.clock.0)
unfolding is_fit_due
fit_local limits setter global used task at e =
    let (abc, d) = (and-eq-true_iff _ _).0 e in
    let (ab, present) = (and-eq-true_iff _ _).0 abc in
    let (naming, known) = (and-eq-true_iff _ _).0 ab in
    let (ahead, within) = (and-eq-true_iff _ _).0 d in
    record {
      naming = naming;
      known = ltb-true _ _ known;
      present = not-true _ present;
      ahead = leb-true _ _ ahead;
      within = leb-true _ _ within;
    }

-- and a fit global one
pub record FitGlobal (limits : Limits) (setter : TaskEntry) (used : Bool) (task left : ℕ) : Type 0 where
  pub naming : used ≡ true
  pub there : (eqb task departed || not (is_absent (state_of setter.state))) ≡ true
  pub ahead : 1 ≤ left
  pub within : left ≤ limits.extension + 2

pub fit_global : (limits : Limits) (setter : TaskEntry) (global : GlobalTime) (used : Bool) (task : ℕ) (at : GlobalTime)
    → is_fit_due limits setter global used (Global task at) ≡ true → FitGlobal limits setter used task (units_left at.0 global.0)
unfolding is_fit_due
fit_global limits setter global used task at e =
    let (naming, there, d) = and₃ used _ _ e in
    let (ahead, within) = (and-eq-true_iff _ _).0 d in
    record { naming = naming; there = there; ahead = leb-true _ _ ahead; within = leb-true _ _ within }

-- and a block in use of a well-formed record
pub record FitUsed (p : Tables) (block : ℕ) : Type 0 where
  pub used : (get_or p.blocks block free_block).handle ≢ 0
  pub named : any (is_naming block) p.expirations ≡ true
  pub sized : is_sized_for block (get_or p.blocks block free_block).length ≡ true
  pub prefixed : (get_or p.blocks block free_block).prefix ≤ (get_or p.blocks block free_block).length
  pub numbered : (get_or p.blocks block free_block).handle ≤ p.given
  pub listed : is_block p.limits block ≡ true

pub fit_used : {p : Tables} → Fit p → (block : ℕ) → eqb (get_or p.blocks block free_block).handle 0 ≡ false → FitUsed p block
unfolding is_fit_block
fit_used {p} f block used =
    let fits = all_from_at (is_fit_block p.given p.expirations) free_block (λ i. refl) p.blocks f.blocks block in
    let (shaped, numbered) = (and-eq-true_iff _ _).0 (rw used at fits) in
    let (named, sized, prefixed) = and₃ (any (is_naming block) p.expirations) _ _ shaped in
    record { used = eqb-false _ 0 used; named = named; sized = sized; prefixed = leb-true _ _ prefixed; numbered = leb-true _ _ numbered; listed = rw used at (all_from_at (is_block_at p.limits) free_block (λ i. refl) p.blocks f.listed block) }
