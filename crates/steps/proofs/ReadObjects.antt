-- The objects of a record whose unnamed blocks are freed: those that stand in the ledger.
use Prim.Native.Nat.{ℕ, ◌<◌}
use mathlib.Core.Bool.{Bool, true, false, cond, ◌&&◌, or-false}
use mathlib.Core.List.{List, map, Permᴰ}
use mathlib.Core.Logic.{◌≢◌}
use mathlib.Core.Path.{◌≡◌, refl, sym, ap, fun_ext, ◌∙◌}
use borrow.Author.Tests.{eqb-false, eq-eqb}
use lib.Dec.{eqb}
use Rattle.lists.specs.Tests.{any, filter}
use Rattle.lists.specs.Tables.{read_by, read_from, map_from}
use Rattle.lists.proofs.Cases.{by_test}
use Rattle.lists.proofs.All.{all_imp, all_members}
use Rattle.lists.proofs.Counts.{any_map}
use Rattle.lists.proofs.Pairwise.{pairwise_filter}
use Rattle.lists.proofs.Filters.{filter_map}
use Rattle.lists.proofs.Permutations.{any_perm, filter_perm}
use Rattle.lists.proofs.Tables.{read_by_same, any_read_by, read_from_same, read_from_map_from, filter_read_from}
use Rattle.ledger.specs.Tasks.{Clocks}
use Rattle.ledger.specs.Expirations.{Expiration}
use Rattle.ledger.specs.Objects.{Object, stands, standing}
use Rattle.ledger.specs.Compared.{Shown, shown, shown_object}
use Rattle.ledger.specs.Kept.{Ascending}
use Rattle.record.specs.Codes.{due_of, is_dated, free_block, freed_block}
use Rattle.record.specs.Reading.{shown_due, shown_entry, object_in}
use Rattle.record.specs.WellFormed.{is_naming, is_distinct, handle_of}
use Rattle.record.specs.declared.TaskEntry.{TaskEntry}
use Rattle.record.specs.Tables.{BlockEntry, ExpirationEntry}
use Rattle.record.specs.declared.GlobalTime.{GlobalTime}
use Rattle.record.specs.declared.Due.{Due}
use Rattle.record.specs.declared.Due.TheVariants.{Free, Local, Global, Pinned, Unknown}
use Rattle.record.proofs.Distinct.{handle_at, same_handle}
use Rattle.steps.proofs.KeptBlocks.{kept_block_lem}
use Rattle.steps.specs.Events.{kept_block}

-- an expiration of the object with this handle
abbrev is_shown_of : ℕ → Shown → Bool
is_shown_of handle s = eqb s.handle handle

-- an entry in use shows its block's handle, another none
shown_handle : (tasks : List TaskEntry) (global : GlobalTime) (g h : ℕ) (due : Due)
    → any (is_shown_of h) (shown_due tasks global g due) ≡ (is_dated due && eqb g h)
unfolding shown_due
shown_handle tasks global g h Free = refl
shown_handle tasks global g h (Local setter at) = or-false (eqb g h)
shown_handle tasks global g h (Global setter at) = or-false (eqb g h)
shown_handle tasks global g h (Pinned due) = or-false (eqb g h)
shown_handle tasks global g h Unknown = refl

-- so what it shows depends on that handle only where it is in use
pub same_shown : (tasks : List TaskEntry) (global : GlobalTime) (g h : ℕ) (due : Due) → (is_dated due ≡ true → g ≡ h)
    → shown_due tasks global g due ≡ shown_due tasks global h due
unfolding shown_due
same_shown tasks global g h Free e = refl
same_shown tasks global g h (Local setter at) e = rw (e refl)
same_shown tasks global g h (Global setter at) e = rw (e refl)
same_shown tasks global g h (Pinned due) e = rw (e refl)
same_shown tasks global g h Unknown e = refl

-- an entry in use names its block
names_own : (e : ExpirationEntry) → is_dated (due_of e) ≡ true → is_naming e.block e ≡ true
names_own e dated = rw (dated, eq-eqb e.block e.block refl)

-- the entries show what they showed: those in use name blocks that are kept
pub freed_shown : (tasks : List TaskEntry) (global : GlobalTime) (blocks : List BlockEntry) (xs : List ExpirationEntry)
    → read_by (shown_entry tasks global (map_from 0 (kept_block xs) blocks)) xs ≡ read_by (shown_entry tasks global blocks) xs
freed_shown tasks global blocks xs =
    read_by_same _ _ xs
    (all_imp
    (λ e some. same_shown tasks global _ _ (due_of e) (λ dated. ap handle_of (kept_block_lem xs blocks e.block (some (is_naming e.block) (names_own e dated)))))
    xs (all_members xs))

-- a block keeps its object, if that passes what decides on the block
object_kept : (small large : List ℕ) (i : ℕ) (b : BlockEntry) (kept : Bool) (p : ℕ → Bool) → (b.handle ≢ 0 → kept ≡ p b.handle)
    → object_in small large i (cond kept b (freed_block b)) ≡ filter (λ (o : Object). p o.handle) (object_in small large i b)
unfolding object_in
object_kept small large i b true p e = by_test (eqb b.handle 0) (λ z. rw z) (λ z. rw (z, ← e (eqb-false b.handle 0 z)))
object_kept small large i b false p e = by_test (eqb b.handle 0) (λ z. rw z) (λ z. rw (z, ← e (eqb-false b.handle 0 z)))

abbrev is_standing : List Expiration → Object → Bool
is_standing ys o = stands ys o.handle

-- Entries of distinct blocks that read as the ledger's expirations: the blocks in use that they name are those of the objects that stand.
module _ (tasks : List TaskEntry) (global : GlobalTime) (blocks : List BlockEntry) (xs : List ExpirationEntry)
    (distinct : is_distinct (map handle_of blocks) ≡ true) (clocks : Clocks) (ys : List Expiration)
    (alike : Permᴰ (read_by (shown_entry tasks global blocks) xs) (map (shown clocks) ys)) where
  -- an object stands just where an entry in use names a block with its handle
  pub shown_stands : (handle : ℕ) → any (λ (e : ExpirationEntry). is_dated (due_of e) && eqb (handle_at blocks e.block) handle) xs ≡ stands ys handle
  shown_stands handle =
      let is_its = is_shown_of handle in
      ap (λ (p : ExpirationEntry → Bool). any p xs) (fun_ext (λ e. sym (shown_handle tasks global (handle_at blocks e.block) handle (due_of e))))
      ∙ sym (any_read_by is_its (shown_entry tasks global blocks) xs) ∙ any_perm is_its alike ∙ any_map is_its (shown clocks) ys

  -- a block in use is named just where its object stands
  pub named_stands : (i : ℕ) → handle_at blocks i ≢ 0 → any (is_naming i) xs ≡ stands ys (handle_at blocks i)
  named_stands i used =
      ap (λ (p : ExpirationEntry → Bool). any p xs) (fun_ext (λ e. rw (same_handle blocks distinct i e.block used)))
      ∙ shown_stands (handle_at blocks i)

  -- the objects in the blocks that are left are those that stand
  freed_objects : (small large : List ℕ)
      → read_from 0 (object_in small large) (map_from 0 (kept_block xs) blocks) ≡ standing ys (read_from 0 (object_in small large) blocks)
  freed_objects small large =
      read_from_map_from 0 (object_in small large) (kept_block xs) blocks
      ∙ read_from_same free_block _ _ blocks (λ i. object_kept small large i _ _ (stands ys) (named_stands i))
      ∙ sym (filter_read_from (is_standing ys) 0 (object_in small large) blocks)

  -- what is left of the record's objects is what stands of the ledger's
  pub objects_alike : (small large : List ℕ) (is_whole : ℕ → Bool) (os : List Object)
      → Permᴰ (map (shown_object is_whole) (read_from 0 (object_in small large) blocks)) (map (shown_object is_whole) os)
      → Permᴰ (map (shown_object is_whole) (read_from 0 (object_in small large) (map_from 0 (kept_block xs) blocks))) (map (shown_object is_whole) (standing ys os))
  objects_alike small large is_whole os same =
      rw (freed_objects small large, ← filter_map (is_standing ys) (shown_object is_whole) os, ← filter_map (is_standing ys) (shown_object is_whole) (read_from 0 (object_in small large) blocks))
      (filter_perm (is_standing ys) same)

-- the objects that stand are in order still
pub standing_ascending : (ys : List Expiration) (os : List Object) → Ascending os → Ascending (standing ys os)
standing_ascending ys os h = pairwise_filter (λ (o p : Object). o.handle < p.handle) (is_standing ys) os h
