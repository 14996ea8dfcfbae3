-- The tables after a release, and what it asks of a well-formed record.
use Rattle.record.specs.declared.ExpirationTable.{ExpirationTable}
use Rattle.record.specs.declared.BlockTable.{BlockTable}
use Rattle.std.proofs.Common.{◌≡◌, ℕ, ◌<◌, Bool, true, cond, eqb, ◌≢◌, List, length, get_or, set, sym, refl, ◌∙◌, arith, length-set, get_or-set_other, get_or-set_same, ne_eqb, eqb-true}
use mathlib.Core.Bool.{and-eq-true_iff, and-false}
use borrow.Author.Tests.{eqb-false}
use Rattle.lists.specs.Tests.{any}
use Rattle.lists.proofs.Cases.{by_test, cond_same}
use Rattle.record.specs.Tables.{entries_of, tables_by, lent, Sized, block_entries, expiration_entries}
use Rattle.record.specs.WellFormed.{is_naming, is_pin_on, is_well_formed}
use Rattle.record.specs.declared.Head.{Head}
use Rattle.record.proofs.Columns.{block_at}
use Rattle.record.proofs.Facts.{fit_parts, fit_used}
use Rattle.expirations.specs.Naming.{is_named_at}
use Rattle.expirations.specs.Places.{SomeBetween, Changed}
use Rattle.expirations.specs.Standing.{is_dated_at}
use Rattle.expirations.proofs.Pins.{pinned_clock, sized_with}
use Rattle.expirations.proofs.Places.{asked_at}
use Rattle.expirations.proofs.Tables.{asked_naming, naming_asked}
use Rattle.endings.specs.Unpinning.{unpinned_at, AllNamed, Releases}
use Rattle.endings.proofs.Tables.{freed_blocks, sized_after, freed_entries}

-- the tables after it is ended, and the handle of its block given up where none names that
module _ {block : ℕ} {cs ns cs' hs : List ℕ} (c : length cs ≡ expiration_entries) (n : length ns ≡ expiration_entries) (s : Changed 0 (unpinned_at block ns) 0 expiration_entries cs cs') (known : block < block_entries) (h : length hs ≡ block_entries) (w : AllNamed hs cs ns) where
  -- an entry that names another block names it still
  still_named : (k i : ℕ) → k ≢ block → i < expiration_entries → is_named_at cs ns k i ≡ true → is_named_at cs' ns k i ≡ true
  still_named k i other m e =
      let names = eqb-true (get_or ns i 0) k ((and-eq-true_iff (is_dated_at cs i) (eqb (get_or ns i 0) k)).0 e).1 in
      let kept = ne_eqb (get_or ns i 0) block (λ f. other (sym names ∙ f)) in
      rw (s.inside i (omega arith) m, kept, and-false) e

  -- so another block that is in use is named still
  others_named : (ds : List ℕ) → length ds ≡ expiration_entries → (k : ℕ) → k < block_entries → k ≢ block
      → get_or hs k 0 ≡ cond (any (is_naming k) (entries_of cs' ns ds)) (get_or hs k 0) 0
  others_named ds d k l other =
      by_test (eqb (get_or hs k 0) 0)
      (λ z. rw (eqb-true (get_or hs k 0) 0 z) (sym (cond_same (any (is_naming k) (entries_of cs' ns ds)) 0)))
      (λ z.
      let (i, least, m, e) = (w.so k l (eqb-false (get_or hs k 0) 0 z)).some refl in
      rw (← asked_naming (sized_after s (sized_with c n d)) k (asked_at (is_named_at cs' ns k) i least m (still_named k i other m e))) refl)

  pub releases : {r : Bool} {handle : ℕ} → SomeBetween (is_named_at cs' ns block) 0 expiration_entries r → handle ≡ cond r (get_or hs block 0) 0
      → Releases block ns hs cs (set hs block handle) cs'
  releases {handle = handle} f e =
      record {
        handles_size = simp length-set h;
        clocks_size = s.size ∙ c;
        entries = λ ds d. freed_entries s (sized_with c n d) (is_pin_on block) (λ k clock. rw (pinned_clock clock (get_or ds k 0)));
        blocks = λ ls ds l d.
            freed_blocks (entries_of cs' ns ds) ls h l
            (record {
              ordered = omega arith;
              size = simp length-set refl;
              before = λ k m. absurd (omega arith);
              inside = λ k a b.
                  by_test (eqb k block)
                  (λ t. rw (eqb-true k block t, get_or-set_same hs block handle 0 (omega arith), ← asked_naming (sized_after s (sized_with c n d)) block f) e)
                  (λ t. get_or-set_other hs block k handle 0 (eqb-false k block t) ∙ others_named ds d k b (eqb-false k block t));
              after = λ k m. get_or-set_other hs block k handle 0 (omega arith);
            });
      }

-- the blocks in use of a well-formed record are named
pub well_named : (h : Head) {b : BlockTable} {x : ExpirationTable} → Sized b x → is_well_formed (lent h b x) ≡ true → AllNamed b.handles x.clocks x.named
unfolding tables_by
well_named h {b} {x} sized w = record {
  so = λ block l used.
      let e = block_at b.handles b.extents sized.blocks.of_handles sized.blocks.of_extents block in
      naming_asked sized.entries block (fit_used (fit_parts (lent h b x) w) block (rw e (ne_eqb (get_or b.handles block 0) 0 used))).named;
}
