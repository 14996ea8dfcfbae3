-- Events: what is left ages.
use Prim.Native.Nat.{ℕ, ◌-◌, ◌<◌}
use native.Mathlib.Omega.{arith}
use mathlib.Core.Bool.{Bool, true, false, cond, not, ◌&&◌}
use mathlib.Core.List.{List, map, map-map}
use mathlib.Core.Logic.{◌≢◌}
use mathlib.Core.Path.{◌≡◌, refl, sym, ap, subst, ◌∙◌}
use borrow.Author.Tests.{not-true, eqb-false}
use lib.Dec.{eqb, ltb}
use lib.ListN.{length, get_or, length-set, length-map, get_or-map}
use Rattle.lists.specs.Tables.{read_by}
use Rattle.lists.specs.Tests.{filter, All}
use Rattle.lists.proofs.All.{all_imp, all_map, all_filter, at_set, map_same, all_every}
use Rattle.lists.proofs.Cases.{cond_same}
use Rattle.ledger.specs.Compared.{Left, local_left, Shown, left_of, shown}
use Rattle.ledger.specs.Expirations.{DueTime, by_local, by_global, pinned, Expiration, remaining, is_set_by, is_live, put_off, deserted, each_due, still_live, lasting}
use Rattle.ledger.specs.Ledger.{Ledger, carried_out}
use Rattle.ledger.specs.Limits.{task_count}
use Rattle.ledger.specs.Objects.{Object, orphaned, makers_after}
use Rattle.ledger.specs.Rules.{memory_after, expirations_after}
use Rattle.ledger.specs.Tasks.{Task, Clocks, task_at, absent_task, is_absent, is_tested, moved, unticked, advances, clocks_after}
use Rattle.ledger.proofs.Aging.{aged, ledger_ages, clock_after_lem}
use Rattle.ledger.proofs.KeptTasks.{tasks_after_lem}
use Rattle.ledger.specs.declared.Call.TheVariants.{Schedule}
use Rattle.ledger.specs.declared.Event.{Event}
use Rattle.ledger.specs.declared.Event.TheVariants.{Leave, Block, Resume, Tick, View}
use Rattle.ledger.specs.declared.Limits.{Limits}
use Rattle.sheet.specs.Sheet.{Sheet, taken}
use Rattle.sheet.proofs.Follows.{Present, Fine, Follows, known, stay}

-- the setter is there still, but for the leaver
abbrev IsStaying : Event → ℕ → ℕ → Type 0
IsStaying Leave task i = i ≢ task
IsStaying Block task i = Unit
IsStaying Resume task i = Unit
IsStaying View task i = Unit
IsStaying Tick task i = Unit

moved_there : (event : Event) (task i : ℕ) (c : Clocks) → IsStaying event task i → is_absent (task_at c i).state ≡ false → i ≡ task → is_absent (moved event (task_at c task)).state ≡ false
unfolding moved
moved_there Leave task i c d p q = absurd (d q)
moved_there Block task i c d p q = refl
moved_there Resume task i c d p q = refl
moved_there View task i c d p q = refl
moved_there Tick task i c d p q = subst (λ (j : ℕ). is_absent (task_at c j).state ≡ false) q p

there_after : (event : Event) (task : ℕ) (c : Clocks) (i : ℕ) → IsStaying event task i → is_absent (task_at c i).state ≡ false → is_absent (task_at (clocks_after event task c) i).state ≡ false
there_after event task c i d p =
    tasks_after_lem (λ (ts : List Task). is_absent (get_or ts i absent_task).state ≡ false)
    (λ ts h. ap (λ (t : Task). is_absent t.state) (get_or-map unticked ts i absent_task) ∙ h)
    event task c (at_set (λ (t : Task). is_absent t.state ≡ false) c.tasks task i absent_task (moved_there event task i c d p) p)

module _ (c : Clocks) (given : ℕ) where
  put_there : (advanced : Bool) (at : Clocks) (due : DueTime) → Present c due → Present c (put_off advanced at due)
  unfolding put_off
  put_there advanced at (by_local setter due) p = p
  put_there advanced at (by_global setter due) p = tt
  put_there advanced at pinned p = tt

  deserted_there : (task : ℕ) (due : DueTime) → Present c due → Present c (deserted task due)
  unfolding deserted
  deserted_there task (by_local setter due) p = p
  deserted_there task (by_global setter due) p = tt
  deserted_there task pinned p = tt

  fine_due : (g : DueTime → DueTime) → ((due : DueTime) → Present c due → Present c (g due)) → (xs : List Expiration) → All (Fine c given) xs → All (Fine c given) (each_due g xs)
  fine_due g f xs each = all_map (Fine c given) _ xs (all_imp (λ x h. record { first = h.first; last = h.last; there = f x.due h.there }) xs each)

  fine_live : (advanced : Bool) (at : Clocks) (xs : List Expiration) → All (Fine c given) xs → All (Fine c given) (still_live advanced at xs)
  fine_live advanced at xs each = all_filter (is_live at) (λ x e h. h) (each_due (put_off advanced at) xs) (fine_due (put_off advanced at) (put_there advanced at) xs each)

module _ (task : ℕ) (c : Clocks) (given : ℕ) where
  stays_there : (event : Event) → ((i : ℕ) → IsStaying event task i) → (due : DueTime) → Present c due → Present (clocks_after event task c) due
  stays_there event d (by_local setter at) p = there_after event task c setter (d setter) p
  stays_there event d (by_global setter at) p = tt
  stays_there event d pinned p = tt

  fine_stays : (event : Event) → ((i : ℕ) → IsStaying event task i) → (xs : List Expiration) → All (Fine c given) xs → All (Fine (clocks_after event task c) given) xs
  fine_stays event d xs each = all_imp (λ x h. record { first = h.first; last = h.last; there = stays_there event d x.due h.there }) xs each

  other_there : (due : DueTime) → not (is_set_by task due) ≡ true → Present c due → Present (clocks_after Leave task c) due
  other_there (by_local setter at) e p = there_after Leave task c setter (eqb-false setter task (not-true _ e)) p
  other_there (by_global setter at) e p = tt
  other_there pinned e p = tt

  fine_after : (event : Event) (xs : List Expiration) → All (Fine c given) xs
      → All (Fine (clocks_after event task c) given) (lasting event task (advances event task c) (clocks_after event task c) xs)
  unfolding lasting
  fine_after Leave xs each =
      let others : List Expiration = filter (λ (x : Expiration). not (is_set_by task x.due)) xs in
      let left : All (Fine (clocks_after Leave task c) given) others =
      all_filter (λ (x : Expiration). not (is_set_by task x.due)) (λ x e h. record { first = h.first; last = h.last; there = other_there x.due e h.there }) xs each in
      fine_live (clocks_after Leave task c) given (advances Leave task c) (clocks_after Leave task c) (each_due (deserted task) others)
      (fine_due (clocks_after Leave task c) given (deserted task) (deserted_there (clocks_after Leave task c) given task) others left)
  fine_after Block xs each = fine_live (clocks_after Block task c) given (advances Block task c) (clocks_after Block task c) xs (fine_stays Block (λ i. tt) xs each)
  fine_after Resume xs each = fine_stays Resume (λ i. tt) xs each
  fine_after View xs each = fine_stays View (λ i. tt) xs each
  fine_after Tick xs each = fine_live (clocks_after Tick task c) given (advances Tick task c) (clocks_after Tick task c) xs (fine_stays Tick (λ i. tt) xs each)

  -- a resume moves no time
  resumed_clock : (setter : ℕ) → (task_at (clocks_after Resume task c) setter).clock ≡ (task_at c setter).clock
  unfolding moved
  resumed_clock setter = clock_after_lem Resume task c setter ∙ cond_same (eqb setter task && ltb task (length c.tasks)) (task_at c setter).clock

  resumed_due : (due : DueTime) → left_of (clocks_after Resume task c) due ≡ left_of c due
  unfolding left_of remaining clocks_after advances
  resumed_due (by_local setter at) = ap (λ (n : ℕ). local_left setter (at - n)) (resumed_clock setter)
  resumed_due (by_global setter at) = refl
  resumed_due pinned = refl

  resumed_all : (xs : List Expiration) → map (shown (clocks_after Resume task c)) (lasting Resume task (advances Resume task c) (clocks_after Resume task c) xs) ≡ map (shown c) xs
  unfolding lasting
  resumed_all xs =
      map_same (shown (clocks_after Resume task c)) (shown c) xs
      (all_every _ (λ x. ap (λ (l : Left). record { handle = x.handle; left = l }) (resumed_due x.due)) xs)

  -- what is left after any event but a view
  left_after : (event : Event) → event ≢ View → task < length c.tasks → (xs : List Expiration)
      → cond (is_tested event) (read_by (aged event task c) (map (shown c) xs)) (map (shown c) xs)
      ≡ map (shown (clocks_after event task c)) (lasting event task (advances event task c) (clocks_after event task c) xs)
  left_after Leave n l xs = sym (ledger_ages Leave task c refl l xs)
  left_after Block n l xs = sym (ledger_ages Block task c refl l xs)
  left_after Tick n l xs = sym (ledger_ages Tick task c refl l xs)
  left_after Resume n l xs = sym (resumed_all xs)
  left_after View n l xs = absurd (n refl)

makers_known : (event : Event) (task : ℕ) (os : List Object) → map known (makers_after event task os) ≡ map known os
unfolding makers_after
makers_known Leave task os = map-map known (orphaned task) os
makers_known Block task os = refl
makers_known Resume task os = refl
makers_known View task os = refl
makers_known Tick task os = refl

pub events : (limits : Limits) (s : Sheet) (L : Ledger) (f : Follows limits s L) (new : List ℕ) (event : Event) (task : ℕ) → event ≢ View → task < task_count
    → Follows limits (taken s (Schedule event task) new) (carried_out L (Schedule event task) new)
unfolding taken memory_after expirations_after
events limits s L f new event task n l =
    let c = L.memory.clocks in
    stay limits s L f (Schedule event task) new (taken s (Schedule event task) new) refl tt refl
    (tasks_after_lem (λ (ts : List Task). length ts ≡ task_count) (λ ts n. length-map ts unticked ∙ n) event task c (rw length-set f.sixteen))
    (ap (clocks_after event task) f.clocks)
    (aged_by_lem s.clocks s.lefts f.clocks f.lefts ∙ left_after task c L.memory.given event n (omega (arith, l, f.sixteen)) L.expirations)
    refl refl (makers_known event task L.memory.objects)
    (fine_after task c L.memory.given event L.expirations f.each)
  where
    aged_by_lem : (clocks : Clocks) (lefts : List Shown) → clocks ≡ L.memory.clocks → lefts ≡ map (shown L.memory.clocks) L.expirations
        → cond (is_tested event) (read_by (aged event task clocks) lefts) lefts
        ≡ cond (is_tested event) (read_by (aged event task L.memory.clocks) (map (shown L.memory.clocks) L.expirations)) (map (shown L.memory.clocks) L.expirations)
    aged_by_lem clocks lefts p q = rw (p, q)
