-- What a write makes of the reading: the object of the block has the new bytes and their sum, and all else is as it was.
use Prim.Native.Nat.{ℕ, ◌+◌, ◌≤◌}
use native.Mathlib.Nat.{le_trans}
use mathlib.Core.Bool.{true}
use mathlib.Core.List.{List, map}
use mathlib.Core.Logic.{◌≢◌}
use mathlib.Core.Path.{◌≡◌, refl, sym, ap, subst, ◌∙◌}
use borrow.Author.Tests.{eqb-true, ne_eqb}
use lib.Dec.{eqb}
use lib.ListN.{length, get_or}
use Rattle.lists.proofs.Cases.{by_test}
use Rattle.lists.proofs.Filters.{filter_map}
use Rattle.ledger.specs.Expirations.{Expiration}
use Rattle.ledger.specs.Objects.{Object, with_objects, written, stands, standing}
use Rattle.ledger.specs.Rules.{memory_after, expirations_after}
use Rattle.ledger.specs.Ledger.{Ledger, settled}
use Rattle.ledger.specs.declared.Call.TheVariants.{Write}
use Rattle.record.specs.Codes.{free_block}
use Rattle.record.specs.Reading.{is_whole_small, is_whole_large, size_of, Typed, Reads}
use Rattle.record.specs.Tables.{Tables}
use Rattle.record.proofs.Facts.{Fit}
use Rattle.record.proofs.Distinct.{handle_at, same_handle}
use Rattle.stores.specs.Places.{InBlock, small_after, large_after, sum_after}
use Rattle.steps.proofs.Finding.{object_of, every_object_stands}
use Rattle.steps.proofs.StoreBytes.{used_in_block}
use Rattle.steps.proofs.ReadChanged.{object_after, in_place, changed_sizes, changed_reads}
use Rattle.steps.specs.Objects.{with_block_sum}

-- a write changes no handle, and so nothing of what stands
standing_written : (handle offset : ℕ) (new : List ℕ) (ys : List Expiration) (os : List Object)
    → standing ys (map (written handle offset new) os) ≡ map (written handle offset new) (standing ys os)
unfolding written
standing_written handle offset new ys os = filter_map (λ (o : Object). stands ys o.handle) (written handle offset new) os

-- New bytes within the object of a block in use, of whole stores.
module _ (p : Tables) (small large : List ℕ) (L : Ledger) (fit : Fit p) (types : Typed p) (reads : Reads p small large L)
    (small_whole_lem : is_whole_small p.limits small ≡ true) (large_whole_lem : is_whole_large p.limits large ≡ true) (block offset : ℕ) (new : List ℕ)
    (used : handle_at p.blocks block ≢ 0) (within : offset + length new ≤ (get_or p.blocks block free_block).length) where
  abbrev rewritten : Object → Object
  rewritten = written (handle_at p.blocks block) offset new

  abbrev sum' : ℕ
  sum' = sum_after small large block offset new

  -- an object lies in its block
  inside : offset + length new ≤ size_of block
  inside = le_trans within (used_in_block p.limits fit.allowed small large small_whole_lem large_whole_lem p fit block refl (ne_eqb _ 0 used)).within

  pub written_place : InBlock small large block (offset + length new)
  written_place = in_place p small large fit small_whole_lem large_whole_lem block offset new used inside

  pub written_sizes : (length (small_after block offset new small) ≡ length small) × (length (large_after block offset new large) ≡ length large)
  written_sizes = changed_sizes p small large fit small_whole_lem large_whole_lem block offset new used inside

  -- the block's object has the new bytes and their sum: no other block has its handle
  each_written : (j : ℕ) → handle_at p.blocks j ≢ 0 → rewritten (object_of small large p.blocks j) ≡ object_after p small large block offset new sum' j
  unfolding written
  each_written j u =
      rw (same_handle p.blocks fit.distinct block j used) (by_test (eqb j block) (λ e. rw (e, eqb-true j block e)) (λ e. rw e))

  -- every object stood before the write, and so it does after it
  all_stand : map rewritten L.memory.objects ≡ standing L.expirations (map rewritten L.memory.objects)
  all_stand =
      let os = L.memory.objects in
      sym (standing_written _ offset new L.expirations os ∙ ap (λ (qs : List Object). map rewritten qs) (every_object_stands fit reads))

  -- the record with the new sum and the new stores reads as the ledger after the write
  pub written_reads : (task : ℕ)
      → let call = Write task (handle_at p.blocks block) offset in
      Reads (with_block_sum block (sum_after small large block offset new) p) (small_after block offset new small) (large_after block offset new large)
      (settled (memory_after call new L.memory) (expirations_after call new L.memory L.expirations))
  unfolding memory_after expirations_after written
  written_reads task =
      let m = L.memory in
      subst
      (λ (os : List Object).
      Reads (with_block_sum block sum' p) (small_after block offset new small) (large_after block offset new large)
      (record { memory = with_objects os m; expirations = L.expirations }))
      all_stand
      (changed_reads p small large fit small_whole_lem large_whole_lem block offset new used inside sum' rewritten (λ o. refl) each_written reads)
