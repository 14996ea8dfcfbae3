-- The parts of the test in their order, each of which alone can refuse a record.
use Rattle.record.specs.declared.ExpirationTable.{ExpirationTable}
use Rattle.record.specs.declared.BlockTable.{BlockTable}
use Rattle.std.proofs.Common.{◌≡◌, Bool, true, false, ◌&&◌, List, map, length, sym, ap, ◌∙◌}
use mathlib.Core.Bool.{false≢true}
use Rattle.lists.specs.Tests.{all}
use Rattle.lists.specs.Tables.{all_from}
use Rattle.lists.proofs.Cases.{by_test}
use Rattle.ledger.specs.Tasks.{all_ticked}
use Rattle.record.specs.Codes.{task_of}
use Rattle.record.specs.Tables.{BlockEntry, ExpirationEntry, tables_by, lent, Sized, block_list, expiration_list}
use Rattle.record.specs.WellFormed.{is_fit_task, is_fit_entry, is_fit_block, is_distinct, is_pinned_once, is_consistent}
use Rattle.record.specs.declared.Head.{Head}
use Rattle.record.proofs.Columns.{length_blocks, handles_of_lem}
use Rattle.fitness.specs.Checks.{is_coded, is_timely, Names, is_fit_block_in}
use Rattle.fitness.proofs.Named.{is_fit_alone, not_alone, named_right}
use Rattle.fitness.proofs.Alone.{by_parts}

module _ (h : Head) {blocks : BlockTable} {expirations : ExpirationTable} (sized : Sized blocks expirations) where
  abbrev is_fit : Bool
  is_fit = is_consistent (lent h blocks expirations)

  abbrev bs : List BlockEntry
  bs = block_list blocks

  abbrev xs : List ExpirationEntry
  xs = expiration_list expirations

  size : length bs ≡ 96
  size = length_blocks blocks.handles blocks.extents sized.blocks.of_handles sized.blocks.of_extents

  pub unfit_tasks : all is_fit_task h.tasks ≡ false → false ≡ is_fit
  unfolding is_consistent tables_by
  unfit_tasks e = rw e

  pub fit_tasks : is_fit ≡ true → all is_fit_task h.tasks ≡ true
  fit_tasks e = by_test (all is_fit_task h.tasks) (λ t. t) (λ t. absurd (false≢true (unfit_tasks t ∙ e)))

  module _ (tasks : all is_fit_task h.tasks ≡ true) where
    pub all_have_ticked : all_ticked (map task_of h.tasks) ≡ true → false ≡ is_fit
    unfolding is_consistent tables_by
    all_have_ticked e = rw (tasks, e)

    module _ (unticked : all_ticked (map task_of h.tasks) ≡ false) where
      rest : is_fit
          ≡ (all (is_fit_entry h.limits h.tasks h.global bs) xs && all_from 0 (is_fit_block h.given xs) bs && is_distinct blocks.handles && is_pinned_once xs)
      unfolding is_consistent tables_by
      rest = rw (tasks, unticked, handles_of_lem blocks.handles blocks.extents sized.blocks.of_handles sized.blocks.of_extents)

      not_by_itself : all (is_fit_alone h.limits h.tasks h.global) xs ≡ false → false ≡ is_fit
      not_by_itself e = sym (rest ∙ rw (not_alone h.limits h.tasks h.global h.given bs xs size e))

      pub not_coded : all is_coded xs ≡ false → false ≡ is_fit
      not_coded e = not_by_itself (by_parts h.limits h.tasks h.global xs ∙ rw e)

      module _ (coded : all is_coded xs ≡ true) where
        alone : all (is_fit_alone h.limits h.tasks h.global) xs ≡ all (is_timely h.limits h.tasks h.global) xs
        alone = by_parts h.limits h.tasks h.global xs ∙ rw coded

        pub not_timely : all (is_timely h.limits h.tasks h.global) xs ≡ false → false ≡ is_fit
        not_timely e = not_by_itself (alone ∙ e)

        -- past all tests of expirations
        pub by_blocks : {flags : List Bool} → all (is_timely h.limits h.tasks h.global) xs ≡ true → Names flags xs
            → is_fit ≡ (all_from 0 (is_fit_block_in h.given flags) bs && is_distinct blocks.handles && is_pinned_once xs)
        by_blocks e names =
            rest ∙ ap (λ (b : Bool). b && is_distinct blocks.handles && is_pinned_once xs) (named_right h.limits h.tasks h.global h.given bs xs size names (alone ∙ e))
