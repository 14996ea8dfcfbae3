-- A release on a well-formed record follows the ledger that it reads as.
use Prim.Native.Nat.{ℕ}
use mathlib.Core.Bool.{true, false≢true}
use mathlib.Core.List.{List, [], map}
use mathlib.Core.Path.{◌≡◌, refl}
use lib.Dec.{eqb}
use Rattle.lists.specs.Tables.{map_from}
use Rattle.lists.proofs.Cases.{by_test}
use Rattle.lists.proofs.Tests.{passes_map}
use Rattle.lists.proofs.Tables.{all_from_map_from}
use Rattle.lists.proofs.Permutations.{read_by_perm}
use Rattle.ledger.specs.Rules.{memory_after, expirations_after}
use Rattle.ledger.specs.Ledger.{Ledger}
use Rattle.ledger.specs.Compared.{view_of}
use Rattle.ledger.specs.declared.Call.TheVariants.{Release}
use Rattle.ledger.proofs.KeptPins.{pins_carried}
use Rattle.record.specs.Codes.{due_by, due_of, is_pinned_due}
use Rattle.record.specs.Reading.{record_view, Typed, Reads}
use Rattle.record.specs.Tables.{ExpirationEntry, Tables}
use Rattle.record.specs.WellFormed.{is_fit_due, is_fit_entry, is_pin_on, is_well_formed}
use Rattle.record.proofs.Facts.{Fit, fit_parts, shared_part, fit_whole}
use Rattle.ledger.proofs.KeptShares.{shares_filter}
use Rattle.steps.proofs.Shares.{shared_kept, kept_shared}
use Rattle.steps.specs.Events.{kept_block}
use Rattle.steps.specs.Facts.{is_here}
use Rattle.steps.specs.Objects.{place_of, unpinned_entry, released_pool}
use Rattle.steps.specs.Staying.{Stays}
use Rattle.steps.proofs.EventsFollow.{reads_with}
use Rattle.steps.proofs.FitSwept.{named_fits, kept_fits, kept_distinct}
use Rattle.steps.proofs.KeptBlocks.{kept_block_lem}
use Rattle.steps.proofs.ObjectsFollow.{carried, handle_stands}
use Rattle.steps.proofs.PinnedOnce.{once_map}
use Rattle.steps.proofs.Pinning.{others, ledger_others, record_others, its_handle, its_used}
use Rattle.steps.proofs.ReadObjects.{freed_shown}
use Rattle.steps.proofs.Staying.{kept_stays}
use Rattle.steps.proofs.Bounded.{kept_listed, counted_map}

-- an entry after the release of a block stays fit, on its block, and pinned only where it was
module _ (block : ℕ) where
  unpinned_block : (e : ExpirationEntry) → (unpinned_entry block e).block ≡ e.block
  unpinned_block e = by_test (is_pin_on block e) (λ q. rw q) (λ q. rw q)

  unpinned_pinned : (e : ExpirationEntry) → is_pinned_due (due_of (unpinned_entry block e)) ≡ true → is_pinned_due (due_of e) ≡ true
  unfolding due_by
  unpinned_pinned e p = by_test (is_pin_on block e) (λ q. absurd (false≢true (rw q at p))) (λ q. rw q at p)

  unpinned_free : (e : ExpirationEntry) → eqb e.clock 0 ≡ true → eqb (unpinned_entry block e).clock 0 ≡ true
  unpinned_free e z = by_test (is_pin_on block e) (λ q. rw q) (λ q. rw q z)

  unpinned_fits : (p : Tables) (e : ExpirationEntry) → is_fit_entry p.limits p.tasks p.global p.blocks e ≡ true
      → is_fit_entry p.limits p.tasks p.global p.blocks (unpinned_entry block e) ≡ true
  unfolding is_fit_due due_by
  unpinned_fits p e h = by_test (is_pin_on block e) (λ q. rw q) (λ q. rw q h)

-- the record after a release
pub fit_released : (handle : ℕ) (p : Tables) → Fit p → Fit (released_pool handle p)
unfolding released_pool
fit_released handle p f =
    let block = place_of handle p.blocks in
    let kept = unpinned_entry block in
    let xs = map kept p.expirations in
    record {
      tasks = f.tasks;
      unticked = f.unticked;
      entries =
          named_fits p.limits p.tasks p.global p.blocks (map_from 0 (kept_block xs) p.blocks) xs (kept_block_lem xs p.blocks)
          (passes_map _ kept (unpinned_fits block p) p.expirations f.entries);
      blocks = all_from_map_from _ _ _ (kept_fits p.given p.expirations xs) 0 p.blocks f.blocks;
      distinct = kept_distinct xs 0 p.blocks f.distinct;
      once = once_map kept (unpinned_block block) (unpinned_pinned block) p.expirations f.once;
      allowed = f.allowed;
      listed = all_from_map_from _ _ _ (kept_listed p.limits xs) 0 p.blocks f.listed;
      counted = counted_map p.limits kept (unpinned_free block) 0 p.expirations f.counted;
    }

pub release_stays : (handle : ℕ) (p : Tables) → Stays p (released_pool handle p)
unfolding released_pool
release_stays handle p = kept_stays p _

module _ {p : Tables} {small large : List ℕ} {L : Ledger} (w : is_well_formed p ≡ true) (types : Typed p) (reads : Reads p small large L)
    (task handle : ℕ) (here : is_here p.blocks handle ≡ true) where
  pub release_reads : Reads (released_pool handle p) small large (carried (Release task handle) [] L)
  unfolding released_pool record_view view_of memory_after expirations_after
  release_reads =
      let fit = fit_parts p w in
      let (nonzero, Stands-on) = handle_stands w types reads handle here in
      let block = place_of handle p.blocks in
      let xs = map (unpinned_entry block) p.expirations in
      reads_with p small large L fit reads p.tasks p.global _ xs L.memory.clocks _ _ reads.alike.shares
      (pins_carried L.memory L.expirations (Release task handle) [] tt reads.pins)
      (record { tasks = reads.alike.tasks; global = reads.alike.global })
      (rw (record_others fit block (its_used fit reads handle nonzero Stands-on), its_handle fit reads handle nonzero Stands-on, ledger_others L.memory.clocks handle L.expirations)
      (read_by_perm (others handle) reads.alike.expirations))
      refl (freed_shown p.tasks p.global p.blocks xs)

  pub release_fits : is_well_formed (released_pool handle p) ≡ true
  unfolding released_pool memory_after
  release_fits =
      fit_whole _ (fit_released handle p (fit_parts p w))
      (kept_shared release_reads types.shares (shares_filter _ (shared_kept reads types.shares (shared_part p w))))
