-- Make, refresh, read and write on a well-formed record follow the ledger that it reads as.
use Prim.Native.Nat.{ℕ, ◌+◌, ◌≤◌}
use mathlib.Core.Bool.{true, false}
use mathlib.Core.List.{List, []}
use mathlib.Core.Logic.{◌≢◌}
use mathlib.Core.Path.{◌≡◌, refl, subst, ◌∙◌}
use native.Mathlib.Nat.{le_refl, le_trans}
use borrow.Author.Tests.{not-true, eqb-false}
use lib.Dec.{eqb}
use lib.ListN.{length, get_or, replicate}
use Rattle.lists.proofs.Cases.{by_test}
use Rattle.ledger.specs.Tasks.{task_at, is_viewing}
use Rattle.ledger.specs.Objects.{bytes_for, object_at, stands}
use Rattle.ledger.specs.Rules.{memory_after, expirations_after, tests_of}
use Rattle.ledger.specs.Remaining.{remaining_life}
use Rattle.ledger.specs.Ledger.{Ledger, settled}
use Rattle.ledger.specs.Compared.{view_of}
use Rattle.ledger.specs.declared.State.{State}
use Rattle.ledger.specs.declared.Kind.{Kind}
use Rattle.ledger.specs.declared.Call.{Call}
use Rattle.ledger.specs.declared.Call.TheVariants.{Make, Refresh, Write}
use Rattle.stores.specs.Places.{InBlock, small_after, large_after}
use Rattle.record.specs.Codes.{free_block}
use Rattle.record.specs.Reading.{is_whole_small, is_whole_large, block_bytes, record_view, Typed, Reads, size_of}
use Rattle.record.specs.WellFormed.{is_well_formed}
use Rattle.record.specs.Tables.{Tables}
use Rattle.record.proofs.Distinct.{handle_at}
use Rattle.record.proofs.Facts.{fit_parts, shared_part, fit_whole, fit_used}
use Rattle.steps.specs.Facts.{is_here, verdict_with, verdict_by}
use Rattle.steps.specs.Objects.{place_of, block_of, free_place, state_in, shown_length, made_pool, refreshed_pool, written_pool}
use Rattle.steps.specs.Remaining.{life_in}
use Rattle.steps.proofs.Chosen.{Renewed, make_takes, here_found, write_intact}
use Rattle.steps.proofs.Finding.{Found, found}
use Rattle.steps.proofs.ReadTasks.{state_alike}
use Rattle.steps.proofs.Remaining.{life_alike}
use Rattle.steps.proofs.Verdicts.{stands_alike}
use Rattle.steps.proofs.StoreBytes.{both_whole, whole_block, used_in_block, first_bytes, made_bytes}
use Rattle.stores.proofs.Places.{first_bytes as first_of}
use Rattle.steps.proofs.FitMade.{fit_made, fit_refreshed}
use Rattle.steps.proofs.ReadMade.{made_reads, refreshed_reads}
use Rattle.steps.proofs.Summed.{fit_summed, shared_summed}
use Rattle.steps.proofs.SharesMade.{shared_made}
use Rattle.steps.proofs.ReadWritten.{written_place, written_sizes, written_reads}
use Rattle.std.specs.Prelude.{Ok}

-- the ledger after a call that it carries out
abbrev pub carried : Call → List ℕ → Ledger → Ledger
carried call new L = settled (memory_after call new L.memory) (expirations_after call new L.memory L.expirations)

module _ {p : Tables} {small large : List ℕ} {L : Ledger} (w : is_well_formed p ≡ true) (types : Typed p) (reads : Reads p small large L) where
  -- an object that has a block stands,
  pub handle_stands : (handle : ℕ) → is_here p.blocks handle ≡ true → (eqb handle 0 ≡ false) × (stands L.expirations handle ≡ true)
  handle_stands handle h = ((here_found handle p.blocks h).0, stands_alike types (fit_parts p w) reads handle ∙ h)

  -- in a block in use
  place_found : (handle : ℕ) → is_here p.blocks handle ≡ true
      → Found p.limits small large p.blocks handle (object_at handle L.memory.objects)
  place_found handle h = let (nonzero, standing) = handle_stands handle h in found (fit_parts p w) reads handle nonzero standing

  -- and with the life that the ledger gives it
  pub read_life : (task handle : ℕ) → is_here p.blocks handle ≡ true
      → life_in task (place_of handle p.blocks) p.tasks p.global p.expirations ≡ remaining_life task handle L.memory.clocks L.expirations
  read_life task handle h =
      let (nonzero, standing) = handle_stands handle h in
      life_alike (fit_parts p w) reads task handle nonzero standing

  pub same_given : p.given ≡ L.memory.given
  unfolding record_view view_of
  same_given = reads.alike.given

  pub make_fits : (task : ℕ) (kind : Kind) (extension size prefix : ℕ) → verdict_by (tests_of (Make task kind extension size prefix) []) p
      ≡ Ok tt
      → is_well_formed (made_pool task kind extension size prefix p) ≡ true
  unfolding made_pool
  make_fits task kind extension size prefix v =
      let fit = fit_parts p w in
      let taken = make_takes task kind extension size prefix p fit types v in
      fit_whole _ (fit_made p fit types kind task extension size prefix _ _ taken.may taken.prefixed taken.block taken.entry) (shared_made p fit types kind task extension size prefix (taken) (shared_part p w))

  pub refresh_fits : (task : ℕ) (kind : Kind) (extension handle : ℕ) → Renewed task kind extension handle p
      → is_well_formed (refreshed_pool task kind extension handle p) ≡ true
  unfolding refreshed_pool
  refresh_fits task kind extension handle renewed =
      fit_whole _
      (fit_refreshed p (fit_parts p w) types kind task extension _ _ renewed.may renewed.entry
      (place_found handle renewed.here).used renewed.plain)
      (shared_part p w)

  pub write_fits : (handle offset : ℕ) (new : List ℕ) → is_well_formed (written_pool handle offset new small large p) ≡ true
  unfolding written_pool
  write_fits handle offset new = fit_whole _ (fit_summed _ _ p (fit_parts p w)) (shared_summed _ _ p (shared_part p w))

  pub refresh_reads : (task : ℕ) (kind : Kind) (extension handle : ℕ) → Renewed task kind extension handle p
      → Reads (refreshed_pool task kind extension handle p) small large (carried (Refresh task kind extension handle) [] L)
  unfolding refreshed_pool
  refresh_reads task kind extension handle renewed =
      refreshed_reads p small large L (fit_parts p w) types reads kind task extension _ _ renewed.may renewed.entry handle
      (place_found handle renewed.here).its renewed.plain

  -- with both stores as long as the blocks need
  module _ (small_whole_lem : is_whole_small p.limits small ≡ true) (large_whole_lem : is_whole_large p.limits large ≡ true) where
    pub make_reads : (task : ℕ) (kind : Kind) (extension size prefix : ℕ) → verdict_by (tests_of (Make task kind extension size prefix) []) p
        ≡ Ok tt
        → (let place = free_place p.limits size p.blocks in
        let zeros : List ℕ = replicate (size_of place) 0 in
        Reads (made_pool task kind extension size prefix p) (small_after place 0 zeros small) (large_after place 0 zeros large)
        (carried (Make task kind extension size prefix) [] L))
    unfolding made_pool
    make_reads task kind extension size prefix v =
        let taken = make_takes task kind extension size prefix p (fit_parts p w) types v in
        made_reads p small large _ _ L (fit_parts p w) types reads kind task extension size prefix _ _ taken.may taken.block taken.entry
        small_whole_lem large_whole_lem (made_bytes p.limits (fit_parts p w).allowed small large small_whole_lem large_whole_lem _ taken.block.its)

    -- a read that is accepted, and a write, finds the object in a block,
    module _ (handle : ℕ) (h : is_here p.blocks handle ≡ true) where
      in_use : eqb (handle_at p.blocks (place_of handle p.blocks)) 0 ≡ false
      in_use = not-true _ (place_found handle h).used

      -- which lies in its store, and the object's bytes with it
      pub intact_block : InBlock small large (place_of handle p.blocks) (size_of (place_of handle p.blocks))
      intact_block = whole_block p.limits (fit_parts p w).allowed small large small_whole_lem large_whole_lem _ (fit_used (fit_parts p w) _ in_use).listed

      own_place : InBlock small large (place_of handle p.blocks) (block_of handle p.blocks).length
      own_place = used_in_block p.limits (fit_parts p w).allowed small large small_whole_lem large_whole_lem p (fit_parts p w) _ refl in_use

      -- and so does what of them is shown
      pub shown_place : (state : State) → InBlock small large (place_of handle p.blocks) (shown_length state (block_of handle p.blocks))
      shown_place state =
          first_of own_place _
          (le_trans (by_test (is_viewing state) (λ e. rw e (fit_used (fit_parts p w) _ in_use).prefixed) (λ e. rw e (le_refl _))) own_place.within)

    module _ (task handle : ℕ) (h : is_here p.blocks handle ≡ true) where
      -- those are what the ledger answers
      pub read_bytes : bytes_for (task_at L.memory.clocks task).state (object_at handle L.memory.objects)
          ≡ block_bytes small large (place_of handle p.blocks) (shown_length (state_in p.tasks task) (block_of handle p.blocks))
      unfolding record_view view_of
      read_bytes =
          let here = place_found handle h in
          let bytes = here.bytes (both_whole p.limits (fit_parts p w).allowed small large small_whole_lem large_whole_lem (block_of handle p.blocks).length) in
          let first =
          first_bytes p.limits (fit_parts p w).allowed small large small_whole_lem large_whole_lem _ _
          (shown_place handle h (task_at L.memory.clocks task).state) in
          rw (state_alike p.tasks L.memory.clocks reads.alike.tasks task)
          (by_test (is_viewing (task_at L.memory.clocks task).state)
          (λ e. rw (e, bytes, here.prefix) (rw e at first))
          (λ e. rw (e, bytes, here.size) (rw e at first)))

    -- a write that is accepted lies in a block in use
    module _ (task handle offset : ℕ) (new : List ℕ)
        (v : verdict_with small large (tests_of (Write task handle offset) new) p ≡ Ok tt) where
      here : Found p.limits small large p.blocks handle (object_at handle L.memory.objects)
      here = place_found handle (write_intact task handle offset new small large p v).0.here

      used : handle_at p.blocks (place_of handle p.blocks) ≢ 0
      used = eqb-false _ 0 (not-true _ here.used)

      within : offset + length new ≤ (get_or p.blocks (place_of handle p.blocks) free_block).length
      within = (write_intact task handle offset new small large p v).1

      pub write_place : InBlock small large (place_of handle p.blocks) (offset + length new)
      write_place = written_place p small large L (fit_parts p w) types reads small_whole_lem large_whole_lem _ offset new used within

      pub write_sizes : (let place = place_of handle p.blocks in
          (length (small_after place offset new small) ≡ length small) × (length (large_after place offset new large) ≡ length large))
      write_sizes = written_sizes p small large L (fit_parts p w) types reads small_whole_lem large_whole_lem _ offset new used within

      pub write_reads : (let place = place_of handle p.blocks in
          Reads (written_pool handle offset new small large p) (small_after place offset new small) (large_after place offset new large)
          (carried (Write task handle offset) new L))
      unfolding written_pool
      write_reads =
          let place = place_of handle p.blocks in
          subst
          (λ (h : ℕ).
          Reads (written_pool handle offset new small large p) (small_after place offset new small) (large_after place offset new large)
          (carried (Write task h offset) new L))
          here.its (written_reads p small large L (fit_parts p w) types reads small_whole_lem large_whole_lem place offset new used within task)
