-- What ends, by the number of a clock.
use Rattle.std.proofs.Common.{◌≡◌, ℕ, ◌+◌, ◌-◌, ◌<◌, true, false, ◌&&◌, ◌||◌, eqb, ltb, leb, List, sym, ◌∙◌, arith, lt-ltb, eq-eqb, ne_eqb, eqb-true, le-leb, leb-true}
use mathlib.Core.Bool.{false≢true, and-eq-true_iff, and-false, and-true, or-false}
use Rattle.lists.proofs.Cases.{by_test, same_test}
use Rattle.ledger.specs.Limits.{task_count}
use Rattle.record.specs.Codes.{is_global_clock, due_by, local_code, global_code, pinned_code}
use Rattle.endings.specs.Ending.{is_ending_at, is_own_at, is_own_ending_at, is_its_over_at}
use Rattle.endings.specs.declared.Passing.{Passing}

-- of the codes of the tasks' clocks this task's alone
own_code : (clock task : ℕ) → (leb local_code clock && ltb clock global_code) ≡ true → eqb (clock - local_code) task ≡ eqb clock (local_code + task)
own_code clock task l =
    let least = leb-true local_code clock ((and-eq-true_iff _ _).0 l).0 in
    same_test _ _
    (λ e. eq-eqb clock (local_code + task) (omega (arith, eqb-true (clock - local_code) task e)))
    (λ e. eq-eqb (clock - local_code) task (omega (arith, eqb-true clock (local_code + task) e)))

module _ (t : Passing) (dues : List ℕ) where
  -- all of a leaver's own, and else what is over
  pub own_leaving : t.leaves ≡ true → (k clock : ℕ) → is_own_at (local_code + t.task) k clock ≡ is_own_ending_at t dues k clock
  own_leaving e k clock = rw (e, and-true)

  pub own_staying : t.leaves ≡ false → (k clock : ℕ) → is_its_over_at (is_own_at (local_code + t.task) k) t.local.0 dues k clock ≡ is_own_ending_at t dues k clock
  own_staying e k clock = rw e

module _ (t : Passing) (dues : List ℕ) (known : t.task < task_count) where
  -- by its task's clock, or by the global time where that has advanced
  by_clocks : (k clock : ℕ) → (is_own_ending_at t dues k clock || t.advanced && is_its_over_at is_global_clock t.global.0 dues k clock) ≡ is_ending_at t dues k clock
  unfolding due_by
  by_clocks k clock =
      by_test (eqb clock 0)
      (λ z. rw (eqb-true clock 0 z, ne_eqb 0 (local_code + t.task) (λ e. omega arith), and-false))
      (λ z.
      by_test (is_global_clock clock)
      (λ g. rw (z, g, ne_eqb clock (local_code + t.task) (λ e. omega (arith, leb-true global_code clock ((and-eq-true_iff _ _).0 g).0))))
      (λ g.
      by_test (leb local_code clock && ltb clock global_code)
      (λ l. rw (z, g, l, own_code clock t.task l, and-false, or-false))
      (λ l.
      let other = ne_eqb clock (local_code + t.task) (λ e. false≢true (sym l ∙ rw (e, le-leb local_code (local_code + t.task) (omega arith), lt-ltb (local_code + t.task) global_code (omega arith)))) in
      by_test (eqb clock pinned_code) (λ p. rw (z, g, l, p, other, and-false)) (λ p. rw (z, g, l, p, other, and-false)))))

  pub not_advanced : t.advanced ≡ false → (k clock : ℕ) → is_own_ending_at t dues k clock ≡ is_ending_at t dues k clock
  not_advanced e k clock = rw (← by_clocks k clock, e, or-false)

  pub advanced : t.advanced ≡ true → (k clock : ℕ) → (is_own_ending_at t dues k clock || is_its_over_at is_global_clock t.global.0 dues k clock) ≡ is_ending_at t dues k clock
  advanced e k clock = rw (← by_clocks k clock, e)
