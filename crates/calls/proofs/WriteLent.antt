-- Read and write on lent tables, by what was found.
use Rattle.record.specs.declared.ExpirationTable.{ExpirationTable}
use Rattle.record.specs.declared.BlockTable.{BlockTable}
use Rattle.objects.specs.declared.Part.{Part}
use Rattle.std.specs.Prelude.{Result, Ok, Err}
use Prim.Native.Nat.{ℕ, ◌+◌, ◌<◌}
use mathlib.Core.List.{List, []}
use mathlib.Core.Path.{◌≡◌, sym, ap, ◌∙◌}
use lib.ListN.{length, get_or, set, length-set}
use Rattle.ledger.specs.Rules.{tests_of}
use Rattle.ledger.specs.declared.Answer.TheVariants.{Done}
use Rattle.ledger.specs.declared.Answer.TheVariants.{Refused as RefusedAnswer}
use Rattle.ledger.specs.declared.Call.TheVariants.{Read, Write}
use Rattle.ledger.specs.declared.Refusal.{Refusal}
use Rattle.ledger.specs.declared.Request.TheVariants.{Use}
use Rattle.stores.specs.Places.{InBlock, small_after, large_after, sum_at, sum_after}
use Rattle.record.specs.Reading.{HeadTyped, Typed}
use Rattle.record.specs.Tables.{BlockEntry, Sized, length_in, with_sum, tables_by, tables_of, lent, pooled, block_entries, block_list, expiration_list, BlocksSized}
use Rattle.record.proofs.Columns.{block_at, extents_set, entry_summed}
use Rattle.record.specs.declared.Head.{Head}
use Rattle.steps.specs.Facts.{verdict_with}
use Rattle.steps.specs.Objects.{place_in, place_of, written_pool}
use Rattle.objects.specs.Outcomes.{bytes_in, shown_in}
use Rattle.objects.proofs.Outcomes.{bytes_accepted}
use Rattle.objects.proofs.Laws.{place_of_lem}
use Rattle.calls.specs.Contract.{Ready, Locates, Writes}
use Rattle.calls.proofs.Lent.{tables_of_lem, lent_typed}
use Rattle.calls.proofs.Meets.{locates, write_kept, write_in, write_sum, write_found}

module _ {h : Head} {blocks : BlockTable} {expirations : ExpirationTable} (types : HeadTyped h) (sized : Sized blocks expirations) where
  of_entries : Typed (tables_of (pooled h blocks expirations))
  of_entries = lent_typed h blocks expirations types sized.blocks sized.entries

  here : (handle : ℕ) → place_in handle blocks.handles ≡ place_of handle (tables_of (pooled h blocks expirations)).blocks
  unfolding tables_of tables_by
  here = place_of_lem blocks.handles blocks.extents sized.blocks.of_handles sized.blocks.of_extents

  -- where a read finds its object
  pub read_locates : (task handle : ℕ) {small large : List ℕ} → Ready (Use (Read task handle)) (pooled h blocks expirations) small large
      → (f : Result Part Refusal) → f ≡ shown_in small large (tests_of (Read task handle) []) task handle (lent h blocks expirations)
      → Locates task handle (pooled h blocks expirations) small large f
  read_locates task handle ready f so = locates of_entries ready f (rw (tables_of_lem h blocks expirations) so)

  module _ (task handle offset : ℕ) (new : List ℕ) {small large : List ℕ} (ready : Ready (Use (Write task handle offset)) (pooled h blocks expirations) small large)
      (f : Result Part Refusal) (so : f ≡ bytes_in small large (tests_of (Write task handle offset) new) handle (lent h blocks expirations)) where
    found : f ≡ bytes_in small large (tests_of (Write task handle offset) new) handle (tables_of (pooled h blocks expirations))
    found = rw (tables_of_lem h blocks expirations) so

    pub write_refused_lent : {why : Refusal} → f ≡ Err why
        → Writes task handle offset new (pooled h blocks expirations) small large (RefusedAnswer why) (pooled h blocks expirations) small large
    write_refused_lent {why} g = write_kept of_entries ready (here handle) new f found why g

    module _ {part : Part} (at : f ≡ Ok part) where
      place_count : (place_of handle (block_list blocks) ≡ part.block) × (length_in (get_or blocks.extents part.block 0) ≡ part.length)
      unfolding tables_by
      place_count =
          let v = verdict_with small large (tests_of (Write task handle offset) new) (lent h blocks expirations) in
          let (_, place, size, _) = bytes_accepted handle (lent h blocks expirations) v (sym so ∙ at) in
          (place, ap (λ (b : BlockEntry). b.length) (sym (block_at blocks.handles blocks.extents sized.blocks.of_handles sized.blocks.of_extents part.block)) ∙ rw (← place) size)

      -- the block is one that there is,
      pub write_listed : part.block < block_entries
      write_listed = (write_in of_entries ready (here handle) new f found at).known

      -- the bytes lie in it, and its sum agrees
      pub write_within : InBlock small large part.block (offset + length new)
      write_within = write_in of_entries ready (here handle) new f found at

      pub write_agrees : part.sum ≡ sum_at small large part.block
      write_agrees = write_sum of_entries ready (here handle) new f found at

      -- the tables that are left are those of the written record
      written_left : (after : ℕ) → after ≡ sum_after small large part.block offset new
          → tables_of (pooled h (record { handles = blocks.handles; extents = set blocks.extents part.block (with_sum (get_or blocks.extents part.block 0) after) }) expirations) ≡ written_pool handle offset new small large (tables_of (pooled h blocks expirations))
      unfolding tables_of tables_by written_pool
      written_left after e =
          let (place, size) = place_count in
          rw (extents_set blocks.handles blocks.extents part.block (with_sum (get_or blocks.extents part.block 0) after), place, block_at blocks.handles blocks.extents sized.blocks.of_handles sized.blocks.of_extents part.block, ← e)
          (ap (λ (b : BlockEntry). tables_by h (set (block_list blocks) part.block b) (expiration_list expirations))
          (entry_summed (get_or blocks.handles part.block 0) (get_or blocks.extents part.block 0) after))

      pub write_done_lent : {small' large' : List ℕ} (after : ℕ) → after ≡ sum_after small large part.block offset new
          → small' ≡ small_after part.block offset new small → large' ≡ large_after part.block offset new large
          → BlocksSized (record { handles = blocks.handles; extents = set blocks.extents part.block (with_sum (get_or blocks.extents part.block 0) after) })
          × Writes task handle offset new (pooled h blocks expirations) small large Done (pooled h (record { handles = blocks.handles; extents = set blocks.extents part.block (with_sum (get_or blocks.extents part.block 0) after) }) expirations) small' large'
      write_done_lent after e s l = (
        record { of_handles = sized.blocks.of_handles; of_extents = rw length-set sized.blocks.of_extents },
        rw (s, l) (write_found of_entries ready (here handle) new f found at (written_left after e) (rw (← e))),
      )
