-- A record's facts are those of the ledger that it reads as, and so its verdict on every call is the ledger's.
use Prim.Native.Nat.{ℕ}
use mathlib.Core.Bool.{Bool, true, false, false≢true, cond, ◌&&◌}
use mathlib.Core.List.{List}
use mathlib.Core.Path.{◌≡◌, sym, ap, fun_ext, ◌∙◌}
use borrow.Author.Tests.{not-true, eqb-true}
use lib.Dec.{eqb}
use Rattle.lists.specs.Sums.{total}
use Rattle.lists.specs.Tests.{any}
use Rattle.lists.proofs.All.{all_imp, all_true, All→none, none→All}
use Rattle.lists.proofs.Cases.{by_test}
use Rattle.ledger.specs.Expirations.{Expiration, is_of, is_pin_of}
use Rattle.ledger.specs.Objects.{object_at, is_intact, stands}
use Rattle.ledger.specs.Refusals.{Facts, Test, verdict, as_verdict}
use Rattle.ledger.specs.Compared.{view_of}
use Rattle.ledger.specs.Ledger.{Ledger, facts_in}
use Rattle.ledger.proofs.Standing.{gone_object}
use Rattle.record.specs.Codes.{due_of, is_dated}
use Rattle.record.specs.Reading.{is_whole_small, is_whole_large, record_view, Typed, Reads}
use Rattle.record.specs.Tables.{Tables}
use Rattle.record.specs.WellFormed.{is_pin_on}
use Rattle.record.proofs.Facts.{Fit}
use Rattle.steps.specs.Facts.{is_here, is_summed, facts_by, verdict_with, verdict_by}
use Rattle.steps.specs.Objects.{place_of, block_of}
use Rattle.steps.proofs.Finding.{Found, gone_alike, found, objects_stand}
use Rattle.steps.proofs.Pinning.{pinned_alike}
use Rattle.steps.proofs.ReadObjects.{shown_stands}
use Rattle.steps.proofs.ReadTasks.{state_alike}
use Rattle.steps.proofs.Rooms.{entries_alike}
use Rattle.steps.proofs.Shares.{full_alike, limit_alike, scant_alike}
use Rattle.steps.proofs.StoreBytes.{both_whole}
use Rattle.steps.proofs.Taken.{fit_used}

-- who does not stand has no pinned expiration
none_pinned : (handle : ℕ) (xs : List Expiration) → stands xs handle ≡ false → any (is_pin_of handle) xs ≡ false
none_pinned handle xs gone = All→none _ xs (all_imp (λ x e. rw e) xs (none→All (is_of handle) xs gone))

module _ {p : Tables} {small large : List ℕ} {L : Ledger} (typed : Typed p) (fit : Fit p) (reads : Reads p small large L) where
  -- no expiration is of handle 0, since each names a block in use
  not_zero : stands L.expirations 0 ≡ false
  unfolding record_view view_of
  not_zero =
      sym (shown_stands p.tasks p.global p.blocks p.expirations fit.distinct L.memory.clocks L.expirations
      reads.alike.expirations 0)
      ∙ All→none _ p.expirations
      (all_imp (λ e h. by_test (is_dated (due_of e)) (λ d. rw d (not-true _ (fit_used _ _ _ _ (due_of e) h d))) (λ d. rw d)) p.expirations
      (all_true _ p.expirations fit.entries))

  -- 12
  pub stands_alike : (handle : ℕ) → stands L.expirations handle ≡ is_here p.blocks handle
  stands_alike handle =
      by_test (eqb handle 0) (λ z. rw (z, eqb-true handle 0 z) not_zero)
      (λ n. rw (n, gone_alike fit reads handle n typed) (by_test (stands L.expirations handle) (λ s. rw s) (λ s. rw s)))

  -- an object that stands is in its block; one that is gone has nothing
  module _ (handle : ℕ) where
    here : is_here p.blocks handle ≡ true → Found p.limits small large p.blocks handle (object_at handle L.memory.objects)
    here h =
        by_test (eqb handle 0) (λ z. absurd (false≢true (rw z at h))) (λ n. found fit reads handle n (stands_alike handle ∙ h))

    -- 13
    size_alike : (object_at handle L.memory.objects).size ≡ cond (is_here p.blocks handle) (block_of handle p.blocks).length 0
    size_alike =
        by_test (is_here p.blocks handle) (λ h. rw (h, (here h).size))
        (λ g. rw (g, gone_object L.expirations handle L.memory.objects (stands_alike handle ∙ g) (objects_stand fit reads)))

    -- 22
    pins_alike : any (eqb handle) L.memory.pinned
        ≡ (is_here p.blocks handle && any (is_pin_on (place_of handle p.blocks)) p.expirations)
    pins_alike =
        by_test (is_here p.blocks handle)
        (λ h. by_test (eqb handle 0) (λ z. absurd (false≢true (rw z at h)))
        (λ n. rw h (pinned_alike fit reads handle n (stands_alike handle ∙ h))))
        (λ g. rw g (reads.pins handle ∙ none_pinned handle L.expirations (stands_alike handle ∙ g)))

    -- 23
    sum_alike : is_whole_small p.limits small ≡ true → is_whole_large p.limits large ≡ true
        → is_intact (object_at handle L.memory.objects) ≡ is_summed small large p.blocks handle
    unfolding total
    sum_alike s l =
        by_test (is_here p.blocks handle)
        (λ h. rw (
          h,
          (here h).bytes
              (both_whole p.limits fit.allowed small large s l (block_of handle p.blocks).length),
          (here h).sum,
        ))
        (λ g. rw (g, gone_object L.expirations handle L.memory.objects (stands_alike handle ∙ g) (objects_stand fit reads)))

  -- all facts, but for the bytes'
  facts_alike : facts_in L ≡ facts_by (facts_in L).is_intact p
  unfolding record_view view_of
  facts_alike =
      rw (
        fun_ext (λ task. sym (state_alike p.tasks L.memory.clocks reads.alike.tasks task)),
        fun_ext size_alike,
        fun_ext pins_alike,
        fun_ext stands_alike,
        entries_alike fit reads,
        fun_ext (λ store. fun_ext (limit_alike reads store)),
        fun_ext (λ store. fun_ext (full_alike reads store)),
        fun_ext (λ task. fun_ext (scant_alike reads task)),
        sym reads.alike.given,
        sym reads.alike.limits,
      )

  -- by tests that look at no bytes, whatever the stores
  pub verdict_alike : (ts : List Test) → ((i j : ℕ → Bool) → verdict (facts_by i p) ts ≡ verdict (facts_by j p) ts)
      → as_verdict (verdict (facts_in L) ts) ≡ verdict_by ts p
  unfolding verdict_with
  verdict_alike ts blind = ap (λ (f : Facts). as_verdict (verdict f ts)) facts_alike ∙ ap as_verdict (blind _ _)

  -- by any tests, with both stores as long as the blocks need
  pub verdict_with_lem : is_whole_small p.limits small ≡ true → is_whole_large p.limits large ≡ true → (ts : List Test)
      → as_verdict (verdict (facts_in L) ts) ≡ verdict_with small large ts p
  unfolding verdict_with
  verdict_with_lem s l ts =
      ap (λ (f : Facts). as_verdict (verdict f ts))
      (facts_alike ∙ ap (λ (i : ℕ → Bool). facts_by i p) (fun_ext (λ handle. sum_alike handle s l)))
