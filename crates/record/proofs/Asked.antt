-- An expiration asked by the code of its clock.
use Rattle.std.proofs.Common.{◌≡◌, ℕ, ◌+◌, ◌-◌, ◌<◌, Bool, true, false, ◌&&◌, eqb, ltb, leb, sym, ◌∙◌, arith, lt-ltb, eq-eqb, ne_eqb, eqb-true, le-leb, leb-true}
use mathlib.Core.Bool.{false≢true, and-eq-true_iff}
use borrow.Author.Tests.{eqb-false}
use Rattle.lists.proofs.Cases.{by_test}
use Rattle.ledger.specs.Limits.{task_count}
use Rattle.record.specs.Codes.{is_global_clock, due_by, local_code, global_code, pinned_code}
use Rattle.record.specs.declared.Due.{Due}
use Rattle.record.specs.declared.Due.TheVariants.{Free, Local, Global, Pinned, Unknown}

-- a clock of the global time is none of the tasks', nor free
pub global_code_lem : (clock : ℕ) → is_global_clock clock ≡ true → eqb clock 0 ≡ false
global_code_lem clock g = ne_eqb clock 0 (λ e. omega (arith, leb-true global_code clock ((and-eq-true_iff _ _).0 g).0))

-- the code of a task's clock
local_code_lem : (clock task : ℕ) → (leb local_code clock && ltb clock global_code) ≡ true → eqb clock (local_code + task) ≡ eqb (clock - local_code) task
local_code_lem clock task l =
    let least = leb-true local_code clock ((and-eq-true_iff _ _).0 l).0 in
    by_test (eqb (clock - local_code) task)
    (λ t. rw t (eq-eqb clock (local_code + task) (omega (arith, eqb-true (clock - local_code) task t))))
    (λ t. rw t (ne_eqb clock (local_code + task) (λ e. eqb-false (clock - local_code) task t (omega arith))))

-- and no other
other_code : (clock task : ℕ) → task < task_count → (leb local_code clock && ltb clock global_code) ≡ false → eqb clock (local_code + task) ≡ false
other_code clock task known l =
    ne_eqb clock (local_code + task) (λ e. false≢true (sym l ∙ rw (e, le-leb local_code (local_code + task) (omega arith), lt-ltb (local_code + task) global_code (omega arith))))

-- what is asked of an expiration by its clock: f of its due is h of whether it goes by the one clock that is asked for
module _ {ℓ} {A : Type ℓ} (f : Due → A) (h : Bool → A) (clock due : ℕ) (free : f Free ≡ h false) (pinned : f (Pinned due) ≡ h false) (unknown : f Unknown ≡ h false) where
  -- by the global time
  pub by_global_clock : ((setter : ℕ) → f (Global setter (record { 0 = due })) ≡ h true) → ((setter : ℕ) → f (Local setter (record { 0 = due })) ≡ h false)
      → h (is_global_clock clock) ≡ f (due_by clock due)
  unfolding due_by
  by_global_clock global local =
      by_test (is_global_clock clock)
      (λ g. rw (g, global_code_lem clock g, global (clock - global_code)))
      (λ g.
      by_test (eqb clock 0)
      (λ z. rw (g, z, free))
      (λ z.
      by_test (leb local_code clock && ltb clock global_code)
      (λ l. rw (g, z, l, local (clock - local_code)))
      (λ l. by_test (eqb clock pinned_code) (λ p. rw (g, z, l, p, pinned)) (λ p. rw (g, z, l, p, unknown)))))

  -- by a task's clock
  pub by_task_clock : (task : ℕ) → task < task_count → ((setter : ℕ) → f (Local setter (record { 0 = due })) ≡ h (eqb setter task))
      → ((setter : ℕ) → f (Global setter (record { 0 = due })) ≡ h false) → h (eqb clock (local_code + task)) ≡ f (due_by clock due)
  unfolding due_by
  by_task_clock task known local global =
      by_test (eqb clock 0)
      (λ z. rw (z, ne_eqb clock (local_code + task) (λ e. omega (arith, eqb-true clock 0 z)), free))
      (λ z.
      by_test (is_global_clock clock)
      (λ g. rw (z, g, ne_eqb clock (local_code + task) (λ e. omega (arith, leb-true global_code clock ((and-eq-true_iff _ _).0 g).0)), global (clock - global_code)))
      (λ g.
      by_test (leb local_code clock && ltb clock global_code)
      (λ l. rw (z, g, l, local_code_lem clock task l, local (clock - local_code)))
      (λ l.
      let other = other_code clock task known l in
      by_test (eqb clock pinned_code) (λ p. rw (z, g, l, p, other, pinned)) (λ p. rw (z, g, l, p, other, unknown)))))
