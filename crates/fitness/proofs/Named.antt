-- Blocks tested by flags that say which are named, which tells of the expirations too that they name blocks in use.
use Rattle.std.proofs.Common.{◌≡◌, ℕ, ◌<◌, Bool, true, false, not, ◌&&◌, ◌||◌, eqb, ltb, leb, List, length, get_or, sym, refl, ◌∙◌, true≢false, zero-add, arith, ltb-false, ltb-true, lt-ltb, eq-eqb, eqb-true}
use mathlib.Core.Bool.{beq, false≢true, and-eq-true_iff}
use lib.ListN.{get_or-eq_default}
use Rattle.lists.specs.Tests.{any, all}
use Rattle.lists.specs.Tables.{all_from}
use Rattle.lists.proofs.All.{all_true, found}
use Rattle.lists.proofs.Cases.{by_test, refuted, same_test}
use Rattle.lists.proofs.Tables.{all_from_each, all_from_within}
use Rattle.lists.proofs.Tests.{passes_imp, passes_found}
use Rattle.record.specs.Codes.{due_of, is_dated, setter_of, absent_entry, free_block}
use Rattle.record.specs.WellFormed.{is_used, is_fit_due, is_fit_entry, is_naming, is_sized_for, is_prefixed, is_fit_block}
use Rattle.fitness.specs.Checks.{Names, is_fit_block_in}
use Rattle.record.specs.declared.TaskEntry.{TaskEntry}
use Rattle.record.specs.Tables.{BlockEntry, ExpirationEntry}
use Rattle.record.specs.declared.GlobalTime.{GlobalTime}
use Rattle.record.specs.declared.Due.{Due}
use Rattle.record.specs.declared.Due.TheVariants.{Free, Local, Global, Pinned, Unknown}
use Rattle.ledger.specs.declared.Limits.{Limits}

-- an entry by itself: it names a block that there is
abbrev pub is_fit_alone : Limits → List TaskEntry → GlobalTime → ExpirationEntry → Bool
is_fit_alone limits tasks global e = is_fit_due limits (get_or tasks (setter_of (due_of e)) absent_entry) global (ltb e.block 96) (due_of e)

-- only an expiration in use looks at its block
fit_by : (limits : Limits) (setter : TaskEntry) (global : GlobalTime) (before after : Bool) (due : Due) → (is_dated due ≡ true → before ≡ true → after ≡ true)
    → is_fit_due limits setter global before due ≡ true → is_fit_due limits setter global after due ≡ true
unfolding is_fit_due
fit_by limits setter global before after Free f e = refl
fit_by limits setter global true after (Local task at) f e = rw (f refl refl) e
fit_by limits setter global false after (Local task at) f e = absurd (false≢true e)
fit_by limits setter global true after (Global task at) f e = rw (f refl refl) e
fit_by limits setter global false after (Global task at) f e = absurd (false≢true e)
fit_by limits setter global true after (Pinned due) f e = rw (f refl refl) e
fit_by limits setter global false after (Pinned due) f e = absurd (false≢true e)
fit_by limits setter global before after Unknown f e = e

-- and what it says of it holds
fit_says : (limits : Limits) (setter : TaskEntry) (global : GlobalTime) (used : Bool) (due : Due) → is_fit_due limits setter global used due ≡ true → is_dated due ≡ true
    → used ≡ true
unfolding is_fit_due
fit_says limits setter global used Free e d = absurd (false≢true d)
fit_says limits setter global true (Local task at) e d = refl
fit_says limits setter global false (Local task at) e d = e
fit_says limits setter global true (Global task at) e d = refl
fit_says limits setter global false (Global task at) e d = e
fit_says limits setter global true (Pinned due) e d = refl
fit_says limits setter global false (Pinned due) e d = e
fit_says limits setter global used Unknown e d = absurd (false≢true d)

-- one block: z is whether it is free, n whether it is named, s, p and g whether its length, prefix and handle are fit
block_by_flag : (z n s p g : Bool) → (not (not z) || (n && s && p && g)) ≡ true → (n ≡ true → not z ≡ true)
    → (beq (not z) n && (not (not z) || (s && p && g))) ≡ true
block_by_flag true true s p g e h = h refl
block_by_flag true false s p g e h = refl
block_by_flag false true s p g e h = e
block_by_flag false false s p g e h = absurd (false≢true e)

flag_fits : (z n s p g : Bool) → (beq (not z) n && (not (not z) || (s && p && g))) ≡ true → (not (not z) || (n && s && p && g)) ≡ true
flag_fits true n s p g e = refl
flag_fits false true s p g e = e
flag_fits false false s p g e = absurd (false≢true e)

flag_used : (z n r : Bool) → (beq (not z) n && r) ≡ true → n ≡ true → not z ≡ true
flag_used true true r e h = e
flag_used true false r e h = h
flag_used false n r e h = refl

module _ (limits : Limits) (tasks : List TaskEntry) (global : GlobalTime) (given : ℕ) (blocks : List BlockEntry) (xs : List ExpirationEntry) (size : length blocks ≡ 96)
  where
    -- what is asked of a block
    abbrev is_free : ℕ → Bool
    is_free k = eqb (get_or blocks k free_block).handle 0

    abbrev is_sized : ℕ → Bool
    is_sized k = is_sized_for k (get_or blocks k free_block).length

    abbrev has_prefix : ℕ → Bool
    has_prefix k = is_prefixed (get_or blocks k free_block)

    abbrev is_given : ℕ → Bool
    is_given k = leb (get_or blocks k free_block).handle given

    -- past the last block is none in use
    used_within : (k : ℕ) → is_used (get_or blocks k free_block) ≡ true → k < 96
    used_within k e =
        by_test (ltb k 96)
        (ltb-true k 96)
        (λ t. absurd (false≢true (rw (get_or-eq_default blocks free_block {n = k} (omega (arith, ltb-false k 96 t))) at e)))

    -- an entry that is not fit by itself is not fit
    pub not_alone : all (is_fit_alone limits tasks global) xs ≡ false → all (is_fit_entry limits tasks global blocks) xs ≡ false
    not_alone e =
        refuted _
        (λ t.
        true≢false
        (sym
        (passes_imp
        (λ x. fit_by limits _ global _ _ (due_of x) (λ dated used. lt-ltb x.block 96 (used_within x.block used)))
        xs t)
        ∙ e))

    -- where the entries are fit, the blocks that they name are in use
    naming_used : all (is_fit_entry limits tasks global blocks) xs ≡ true → (k : ℕ) → any (is_naming k) xs ≡ true → is_used (get_or blocks k free_block) ≡ true
    naming_used f k e =
        found (is_naming k)
        (λ x n h.
        let (dated, same) = (and-eq-true_iff (is_dated (due_of x)) _).0 n in
        let used : is_used (get_or blocks x.block free_block) ≡ true = fit_says limits _ global _ (due_of x) h dated in
        rw (eqb-true x.block k same) at used)
        xs e (all_true _ xs f)

    module _ {named : List Bool} (names : Names named xs) where
      to : (all (is_fit_entry limits tasks global blocks) xs && all_from 0 (is_fit_block given xs) blocks) ≡ true
          → all_from 0 (is_fit_block_in given named) blocks ≡ true
      unfolding is_fit_block
      to e =
          let (f, b) = (and-eq-true_iff _ (all_from 0 (is_fit_block given xs) blocks)).0 e in
          all_from_each (is_fit_block_in given named) free_block 0 blocks
          (λ k l.
          let fits = rw (zero-add k) at (all_from_within (is_fit_block given xs) free_block 0 blocks b k l) in
          rw (zero-add k, names.so k (omega arith))
          (block_by_flag (is_free k) (any (is_naming k) xs) (is_sized k) (has_prefix k) (is_given k) fits (naming_used f k)))

      -- where the flags are right, a block that is named is in use
      flag_means : all_from 0 (is_fit_block_in given named) blocks ≡ true → (k : ℕ) → k < 96 → any (is_naming k) xs ≡ true
          → is_used (get_or blocks k free_block) ≡ true
      flag_means b k l n =
          let fits = all_from_within (is_fit_block_in given named) free_block 0 blocks b k (omega arith) in
          flag_used (is_free k) (get_or named k false) _ (rw (zero-add k) at fits) (names.so k l ∙ n)

      from : all (is_fit_alone limits tasks global) xs ≡ true → all_from 0 (is_fit_block_in given named) blocks ≡ true
          → (all (is_fit_entry limits tasks global blocks) xs && all_from 0 (is_fit_block given xs) blocks) ≡ true
      unfolding is_fit_block
      from alone b =
          (and-eq-true_iff _ _).1 (
            passes_found (λ (x y : ExpirationEntry). is_naming x.block y) xs
                (λ x member.
                fit_by limits _ global _ _ (due_of x)
                (λ dated within. flag_means b x.block (ltb-true _ _ within) (member (rw (dated, eq-eqb x.block x.block refl)))))
                alone,
            all_from_each (is_fit_block given xs) free_block 0 blocks (λ k l.
                let fits = all_from_within (is_fit_block_in given named) free_block 0 blocks b k l in
                rw (zero-add k)
                (flag_fits (is_free k) (any (is_naming k) xs) (is_sized k) (has_prefix k) (is_given k)
                (rw (zero-add k, names.so k (omega arith)) at fits))),
          )

      pub named_right : all (is_fit_alone limits tasks global) xs ≡ true
          → (all (is_fit_entry limits tasks global blocks) xs && all_from 0 (is_fit_block given xs) blocks) ≡ all_from 0 (is_fit_block_in given named) blocks
      named_right alone = same_test _ _ to (from alone)
