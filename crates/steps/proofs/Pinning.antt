-- The pinned expiration of an object is the one that names its block, in the record as in the ledger.
use Prim.Native.Nat.{ℕ}
use mathlib.Core.Bool.{Bool, true, false, cond, ◌&&◌, or-false, and-true, and-false}
use mathlib.Core.List.{List, [], ◌∷◌, map, append-nil}
use mathlib.Core.Logic.{◌≢◌}
use mathlib.Core.Path.{◌≡◌, refl, sym, ap, ◌∙◌}
use borrow.Author.Tests.{eqb-false}
use lib.Dec.{eqb}
use Rattle.lists.specs.Tests.{any}
use Rattle.lists.specs.Tables.{read_by}
use Rattle.lists.proofs.All.{all_every}
use Rattle.lists.proofs.Cases.{by_test}
use Rattle.lists.proofs.Counts.{any_map, any_same}
use Rattle.lists.proofs.Permutations.{any_perm}
use Rattle.lists.proofs.Tables.{read_by_same, read_by_map, read_by_read_by, map_filter_as_read, any_read_by}
use Rattle.ledger.specs.Tasks.{Clocks}
use Rattle.ledger.specs.Expirations.{DueTime, by_local, by_global, pinned, Expiration, is_pinned, is_pin_of, released}
use Rattle.ledger.specs.Compared.{Left, local_left, global_left, pinned_left, Shown, left_of, shown, view_of}
use Rattle.ledger.specs.Objects.{stands}
use Rattle.ledger.specs.Ledger.{Ledger}
use Rattle.record.specs.Codes.{due_by, due_of, is_pinned_due}
use Rattle.record.specs.Reading.{shown_due, shown_entry, record_view, Reads}
use Rattle.record.specs.Tables.{ExpirationEntry, Tables}
use Rattle.record.specs.WellFormed.{is_pin_on}
use Rattle.record.specs.declared.TaskEntry.{TaskEntry}
use Rattle.record.specs.declared.GlobalTime.{GlobalTime}
use Rattle.record.specs.declared.Due.{Due}
use Rattle.record.specs.declared.Due.TheVariants.{Free, Local, Global, Pinned, Unknown}
use Rattle.record.proofs.Distinct.{handle_at, same_handle}
use Rattle.record.proofs.Facts.{Fit}
use Rattle.steps.specs.Objects.{place_of, unpinned_entry}
use Rattle.steps.proofs.Finding.{found}

-- what is shown of a pinned expiration of the object with this handle
abbrev is_pinned_left : Left → Bool
is_pinned_left (local_left setter units) = false
is_pinned_left (global_left setter units) = false
is_pinned_left pinned_left = true

abbrev is_pin_shown : ℕ → Shown → Bool
is_pin_shown handle s = eqb s.handle handle && is_pinned_left s.left

-- the ledger's side
left_pinned : (clocks : Clocks) (due : DueTime) → is_pinned_left (left_of clocks due) ≡ is_pinned due
unfolding left_of
left_pinned clocks (by_local setter at) = refl
left_pinned clocks (by_global setter at) = refl
left_pinned clocks pinned = refl

ledger_pins : (clocks : Clocks) (handle : ℕ) (ys : List Expiration) → any (is_pin_shown handle) (map (shown clocks) ys) ≡ any (is_pin_of handle) ys
ledger_pins clocks handle ys =
    any_map (is_pin_shown handle) (shown clocks) ys
    ∙ any_same _ (is_pin_of handle) ys (all_every _ (λ y. rw (left_pinned clocks y.due)) ys)

-- all but the pinned one of an object
abbrev pub others : ℕ → Shown → List Shown
others handle s = cond (is_pin_shown handle s) [] (s ∷ [])

pub ledger_others : (clocks : Clocks) (handle : ℕ) (ys : List Expiration)
    → map (shown clocks) (released handle ys) ≡ read_by (others handle) (map (shown clocks) ys)
unfolding released
ledger_others clocks handle ys =
    rw (map_filter_as_read, read_by_map)
    (read_by_same _ _ ys
    (all_every _ (λ y. rw (left_pinned clocks y.due) (by_test (is_pin_of handle y) (λ e. rw e) (λ e. rw e))) ys))

-- the record's side: what an entry shows, by the handle of its block
module _ (tasks : List TaskEntry) (global : GlobalTime) (g h : ℕ) where
  shown_pins : (due : Due) → any (is_pin_shown h) (shown_due tasks global g due) ≡ (is_pinned_due due && eqb g h)
  unfolding shown_due
  shown_pins Free = refl
  shown_pins (Local setter at) = rw (and-false (eqb g h))
  shown_pins (Global setter at) = rw (and-false (eqb g h))
  shown_pins (Pinned due) = rw (and-true (eqb g h)) (or-false (eqb g h))
  shown_pins Unknown = refl

  shown_others : (due : Due) → read_by (others h) (shown_due tasks global g due) ≡ cond (is_pinned_due due && eqb g h) [] (shown_due tasks global g due)
  unfolding shown_due
  shown_others Free = refl
  shown_others (Local setter at) = rw (and-false (eqb g h))
  shown_others (Global setter at) = rw (and-false (eqb g h))
  shown_others (Pinned due) = rw (and-true (eqb g h), append-nil)
  shown_others Unknown = refl

module _ {p : Tables} (fit : Fit p) (block : ℕ) (used : handle_at p.blocks block ≢ 0) where
  abbrev handle : ℕ
  handle = handle_at p.blocks block

  -- an entry is of the block just where its own block has the block's handle
  own_block : (e : ExpirationEntry) → eqb (handle_at p.blocks e.block) handle ≡ eqb e.block block
  own_block e = same_handle p.blocks fit.distinct block e.block used

  record_pins : any (is_pin_shown handle) (read_by (shown_entry p.tasks p.global p.blocks) p.expirations) ≡ any (is_pin_on block) p.expirations
  record_pins =
      any_read_by (is_pin_shown handle) (shown_entry p.tasks p.global p.blocks) p.expirations
      ∙ any_same _ (is_pin_on block) p.expirations
      (all_every _
      (λ e. shown_pins p.tasks p.global (handle_at p.blocks e.block) handle (due_of e) ∙ ap (λ (b : Bool). is_pinned_due (due_of e) && b) (own_block e))
      p.expirations)

  -- what the entries show after the release
  unpinned_shown : (e : ExpirationEntry)
      → shown_entry p.tasks p.global p.blocks (unpinned_entry block e) ≡ read_by (others handle) (shown_entry p.tasks p.global p.blocks e)
  unfolding due_by shown_due
  unpinned_shown e =
      by_test (is_pin_on block e) (λ q. rw q) (λ q. rw q)
      ∙ ap (λ (b : Bool). cond (is_pinned_due (due_of e) && b) [] (shown_entry p.tasks p.global p.blocks e)) (sym (own_block e))
      ∙ sym (shown_others p.tasks p.global (handle_at p.blocks e.block) handle (due_of e))

  pub record_others : read_by (shown_entry p.tasks p.global p.blocks) (map (unpinned_entry block) p.expirations)
      ≡ read_by (others handle) (read_by (shown_entry p.tasks p.global p.blocks) p.expirations)
  record_others = rw (read_by_map, read_by_read_by) (read_by_same _ _ p.expirations (all_every _ unpinned_shown p.expirations))

module _ {p : Tables} {small large : List ℕ} {L : Ledger} (fit : Fit p) (reads : Reads p small large L) (handle : ℕ)
    (nonzero : eqb handle 0 ≡ false) (standing : stands L.expirations handle ≡ true) where
  abbrev place : ℕ
  place = place_of handle p.blocks

  pub its_handle : handle_at p.blocks place ≡ handle
  its_handle = (found fit reads handle nonzero standing).its

  pub its_used : handle_at p.blocks place ≢ 0
  its_used = rw its_handle (eqb-false handle 0 nonzero)

  -- 22 comes out the same
  pub pinned_alike : any (eqb handle) L.memory.pinned ≡ any (is_pin_on place) p.expirations
  unfolding record_view view_of
  pinned_alike =
      reads.pins handle ∙ sym (ledger_pins L.memory.clocks handle L.expirations)
      ∙ sym (any_perm (is_pin_shown handle) reads.alike.expirations)
      ∙ rw its_handle at (record_pins fit place its_used)
