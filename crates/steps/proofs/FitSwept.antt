-- A sweep leaves a well-formed record well-formed: what it keeps has units left and a block.
use Prim.Native.Nat.{ℕ, suc, ◌+◌, ◌<◌}
use native.Mathlib.Omega.{arith}
use mathlib.Core.Bool.{Bool, true, false, false≢true, cond, not, ◌&&◌, ◌||◌, and-eq-true_iff, or-true}
use mathlib.Core.List.{List, [], ◌∷◌, map}
use mathlib.Core.Path.{◌≡◌, refl, sym, ap, subst, ◌∙◌}
use borrow.Author.Tests.{not-true, leb-true, le-leb, eq-eqb, eqb-true}
use lib.Dec.{eqb, leb, ltb}
use lib.ListN.{get_or}
use Rattle.lists.specs.Tests.{any, all}
use Rattle.lists.specs.Tables.{map_from}
use Rattle.lists.proofs.Cases.{by_test, and₃, or_map, or_else, not_map}
use Rattle.lists.proofs.Tests.{passes_map, passes_found}
use Rattle.lists.proofs.Tables.{all_from_map_from}
use Rattle.ledger.specs.Limits.{task_count, counter_range}
use Rattle.ledger.specs.Tasks.{is_absent, all_ticked}
use Rattle.ledger.specs.Expirations.{departed}
use Rattle.ledger.specs.declared.Limits.{Limits}
use Rattle.record.specs.Codes.{state_of, due_by, task_of, due_of, is_dated, is_pinned_due, setter_of, units_left, absent_entry, free_block}
use Rattle.record.specs.WellFormed.{is_used, is_fit_task, is_ahead, is_fit_due, is_fit_entry, is_naming, is_sized_for, is_prefixed, is_fit_block, is_distinct, handle_of}
use Rattle.record.specs.declared.TaskEntry.{TaskEntry}
use Rattle.record.specs.Tables.{BlockEntry, ExpirationEntry, Tables}
use Rattle.record.specs.declared.LocalTime.{LocalTime}
use Rattle.record.specs.declared.GlobalTime.{GlobalTime}
use Rattle.record.specs.declared.Due.{Due}
use Rattle.record.specs.declared.Due.TheVariants.{Free, Local, Global, Pinned, Unknown}
use Rattle.record.proofs.Facts.{Fit}
use Rattle.steps.proofs.KeptBlocks.{kept_block_lem}
use Rattle.steps.specs.Events.{next_time, advanced_time, late_entry, is_lasting, is_kept, passed_entry, kept_block, swept}
use Rattle.steps.proofs.Late.{late_setter, late_due, late_due_lem, late_pinned}
use Rattle.steps.proofs.PinnedOnce.{once_map}
use Rattle.steps.proofs.Bounded.{kept_listed, counted_map}
use Rattle.steps.proofs.FitTasks.{Later, later_next, StaysPresent, OthersStayPresent}

-- what is due is ahead still if it was, by no more than the most
abbrev pub StaysAhead : ℕ → ℕ → ℕ → ℕ → Type 0
StaysAhead most due before after = is_ahead most (units_left due before) ≡ true → is_ahead most (units_left due after) ≡ true

-- it is while it has units left
left_ahead : (most due before after : ℕ) → Later before after → ltb 0 (units_left due after) ≡ true → StaysAhead most due before after
left_ahead most due before after l k e =
    let left = units_left due before in
    let (least, bound) = (and-eq-true_iff (leb 1 left) (leb left most)).0 e in
    rw (k, le-leb (units_left due after) most (omega (arith, l due (leb-true 1 left least), leb-true left most bound)))

-- an expiration by a task's clock stays fit while the task is present and it is ahead
pub local_fits : (limits : Limits) (before after : TaskEntry) (global later : GlobalTime) (used : Bool) (setter : ℕ) (at : LocalTime)
    → StaysPresent (StaysAhead (limits.extension + 1) at.0) before after
    → is_fit_due limits before global used (Local setter at) ≡ true → is_fit_due limits after later used (Local setter at) ≡ true
unfolding is_fit_due
local_fits limits before after global later used setter at f e =
    let (named, present, left) = and₃ (used && ltb setter task_count) _ _ e in
    let (stays, ahead) = f (not-true _ present) in
    rw (named, stays, ahead left)

-- one that is put off at an advance has the units that it had
put_off_left : (at now : ℕ) → now < counter_range → units_left (next_time at) (next_time now) ≡ units_left at now
unfolding counter_range
put_off_left at now r = omega arith

-- by the global time, put off or not, what lasts is ahead still
late_ahead : (most : ℕ) (advanced waits : Bool) (at : ℕ) (global : GlobalTime) → global.0 < counter_range → (let after = advanced_time advanced global in
    let due = cond (advanced && waits) (next_time at) at in
    ltb 0 (units_left due after.0) ≡ true → is_ahead most (units_left at global.0) ≡ true → is_ahead most (units_left due after.0) ≡ true)
late_ahead most true true at global r k e = rw (put_off_left at global.0 r) e
late_ahead most true false at global r k e = left_ahead _ at _ _ (later_next _ r) k e
late_ahead most false waits at global r k e = e

-- the setter is there still, or departed
late_there : (leaver setter : ℕ) (before tasks : List TaskEntry) → OthersStayPresent leaver before tasks
    → (eqb setter departed || not (is_absent (state_of (get_or before setter absent_entry).state))) ≡ true
    → (let late = late_setter leaver setter in eqb late departed || not (is_absent (state_of (get_or tasks late absent_entry).state))) ≡ true
late_there leaver setter before tasks follows e =
    by_test (eqb setter leaver)
    (λ own. rw own)
    (λ other.
    by_test (eqb setter departed)
    (λ gone. rw (other, gone))
    (λ here. rw (other, here, (follows setter other (not-true _ (rw here at e))).0)))

-- one that lasts stays fit as the times go on
module _ (limits : Limits) (leaver : ℕ) (advanced : Bool) (before tasks : List TaskEntry) (global : GlobalTime)
    (follows : OthersStayPresent leaver before tasks) (range : global.0 < counter_range) where
  abbrev after : GlobalTime
  after = advanced_time advanced global

  lasting_fits : (used : Bool) (due : Due) → is_fit_due limits (get_or before (setter_of due) absent_entry) global used due ≡ true
      → (let late = late_due leaver advanced tasks due in
      is_lasting leaver (get_or tasks (setter_of late) absent_entry) after late ≡ true → is_fit_due limits (get_or tasks (setter_of late) absent_entry) after used late ≡ true)
  unfolding is_fit_due
  lasting_fits used Free e k = refl
  lasting_fits used (Local setter at) e k =
      let (other, left) = (and-eq-true_iff _ _).0 k in
      local_fits limits (get_or before setter absent_entry) (get_or tasks setter absent_entry) global after used setter at
      (λ present. let (stays, clock) = follows setter (not-true _ other) present in (stays, left_ahead _ at.0 _ _ clock left)) e
  lasting_fits used (Global setter at) e k =
      let (named, there, ahead) = and₃ used _ _ e in
      rw (named, late_there leaver setter before tasks follows there, late_ahead (limits.extension + 2) advanced _ at.0 global range k ahead)
  lasting_fits used (Pinned due) e k = e
  lasting_fits used Unknown e k = e

-- only an expiration in use looks at its block
pub used_fits : (limits : Limits) (setter : TaskEntry) (global : GlobalTime) (before after : Bool) (due : Due) → (is_dated due ≡ true → after ≡ before)
    → is_fit_due limits setter global before due ≡ true → is_fit_due limits setter global after due ≡ true
unfolding is_fit_due
used_fits limits setter global before after Free f e = refl
used_fits limits setter global before after (Local task at) f e = rw (f refl) e
used_fits limits setter global before after (Global task at) f e = rw (f refl) e
used_fits limits setter global before after (Pinned due) f e = rw (f refl) e
used_fits limits setter global before after Unknown f e = e

-- entries stay fit by blocks that are as they were where an entry names them
pub named_fits : (limits : Limits) (tasks : List TaskEntry) (global : GlobalTime) (before after : List BlockEntry) (xs : List ExpirationEntry)
    → ((block : ℕ) → any (is_naming block) xs ≡ true → get_or after block free_block ≡ get_or before block free_block)
    → all (is_fit_entry limits tasks global before) xs ≡ true → all (is_fit_entry limits tasks global after) xs ≡ true
named_fits limits tasks global before after xs same =
    passes_found (λ (e x : ExpirationEntry). is_naming e.block x) xs
    (λ e named. used_fits limits _ global _ _ (due_of e) (λ dated. rw (same e.block (named (rw (dated, eq-eqb e.block e.block refl))))))

-- a block that is kept is named
pub kept_fits : (given : ℕ) (xs ys : List ExpirationEntry) (block : ℕ) (b : BlockEntry) → is_fit_block given xs block b ≡ true
    → is_fit_block given ys block (kept_block ys block b) ≡ true
unfolding is_fit_block
kept_fits given xs ys block b h =
    by_test (any (is_naming block) ys)
    (λ n. rw n (or_map (not (is_used b)) (λ e.
    let (shaped, numbered) = (and-eq-true_iff (any (is_naming block) xs && is_sized_for block b.length && is_prefixed b) _).0 e in
    let (named, sized, prefixed) = and₃ (any (is_naming block) xs) _ _ shaped in
    rw (sized, prefixed, numbered)) h))
    (λ n. rw n)

-- no block gets a handle
kept_handles : (xs : List ExpirationEntry) (handle : ℕ) → eqb handle 0 ≡ false → (block : ℕ) (bs : List BlockEntry)
    → any (eqb handle) (map handle_of (map_from block (kept_block xs) bs)) ≡ true → any (eqb handle) (map handle_of bs) ≡ true
kept_handles xs handle z block [] e = e
kept_handles xs handle z block (b ∷ bs) e =
    by_test (any (is_naming block) xs)
    (λ n. or_map (eqb handle b.handle) (kept_handles xs handle z (suc block) bs) (rw n at e))
    (λ n. rw (kept_handles xs handle z (suc block) bs (rw (n, z) at e), or-true))

-- so no two get the same
pub kept_distinct : (xs : List ExpirationEntry) (block : ℕ) (bs : List BlockEntry) → is_distinct (map handle_of bs) ≡ true
    → is_distinct (map handle_of (map_from block (kept_block xs) bs)) ≡ true
kept_distinct xs block [] e = refl
kept_distinct xs block (b ∷ bs) e =
    let (new, rest) = (and-eq-true_iff (eqb b.handle 0 || not (any (eqb b.handle) (map handle_of bs))) _).0 e in
    let tail = kept_distinct xs (suc block) bs rest in
    by_test (any (is_naming block) xs)
    (λ n. rw (n, tail, or_else (eqb b.handle 0) (λ z. not_map (kept_handles xs b.handle z (suc block) bs)) new))
    (λ n. rw n tail)

-- The record after a sweep with these tasks and this time
module _ (leaver : ℕ) (advanced : Bool) (tasks : List TaskEntry) (p : Tables)
    (follows : OthersStayPresent leaver p.tasks tasks) (range : p.global.0 < counter_range) where
  abbrev time : GlobalTime
  time = advanced_time advanced p.global

  -- what it keeps is fit, with its block as it was
  entry_fits : (e : ExpirationEntry) → is_fit_entry p.limits p.tasks p.global p.blocks e ≡ true
      → is_fit_entry p.limits tasks time p.blocks (passed_entry leaver advanced tasks time e) ≡ true
  unfolding is_fit_due due_by
  entry_fits e h =
      let x = late_entry leaver advanced tasks e in
      let late = late_due_lem leaver advanced tasks e in
      let used = is_used (get_or p.blocks e.block free_block) in
      by_test (is_kept leaver tasks time x)
      (λ k. rw k
      (subst (λ due. is_fit_due p.limits (get_or tasks (setter_of due) absent_entry) time used due ≡ true) (sym late)
      (lasting_fits p.limits leaver advanced p.tasks tasks p.global follows range used (due_of e) h
      (subst (λ due. is_lasting leaver (get_or tasks (setter_of due) absent_entry) time due ≡ true) late k))))
      (λ k. rw k)

  -- and on its block, pinned only where it was
  passed_block : (e : ExpirationEntry) → (passed_entry leaver advanced tasks time e).block ≡ e.block
  passed_block e = by_test (is_kept leaver tasks time (late_entry leaver advanced tasks e)) (λ k. rw k) (λ k. rw k)

  passed_pinned : (e : ExpirationEntry) → is_pinned_due (due_of (passed_entry leaver advanced tasks time e)) ≡ true → is_pinned_due (due_of e) ≡ true
  unfolding due_by
  passed_pinned e p =
      by_test (is_kept leaver tasks time (late_entry leaver advanced tasks e))
      (λ k. sym (late_pinned leaver advanced tasks (due_of e)) ∙ ap is_pinned_due (sym (late_due_lem leaver advanced tasks e)) ∙ rw k at p)
      (λ k. absurd (false≢true (rw k at p)))

  -- and free where it was
  passed_free : (e : ExpirationEntry) → eqb e.clock 0 ≡ true → eqb (passed_entry leaver advanced tasks time e).clock 0 ≡ true
  passed_free e z = by_test (is_kept leaver tasks time (late_entry leaver advanced tasks e)) (λ k. rw (k, eqb-true e.clock 0 z)) (λ k. rw k)

  -- its parts are fit
  pub fit_swept : Fit p → all is_fit_task tasks ≡ true → all_ticked (map task_of tasks) ≡ false → Fit (swept leaver advanced tasks time p)
  unfolding swept
  fit_swept f fits unticked =
      let global = time in
      let kept = passed_entry leaver advanced tasks time in
      let xs = map kept p.expirations in
      record {
        tasks = fits;
        unticked = unticked;
        entries =
            named_fits p.limits tasks global p.blocks (map_from 0 (kept_block xs) p.blocks) xs (kept_block_lem xs p.blocks)
            (passes_map _ kept entry_fits p.expirations f.entries);
        blocks = all_from_map_from _ _ _ (kept_fits p.given p.expirations xs) 0 p.blocks f.blocks;
        distinct = kept_distinct xs 0 p.blocks f.distinct;
        once = once_map kept passed_block passed_pinned p.expirations f.once;
        allowed = f.allowed;
        listed = all_from_map_from _ _ _ (kept_listed p.limits xs) 0 p.blocks f.listed;
        counted = counted_map p.limits kept passed_free 0 p.expirations f.counted;
      }
