-- There is room in the record for one more object or expiration just where there is in the ledger; report counts the same of both.
use Prim.Native.Nat.{ℕ, ◌+◌, ◌≤◌, ◌<◌}
use native.Mathlib.Nat.{zero-add}
use native.Mathlib.Omega.{arith}
use mathlib.Core.Bool.{Bool, true, false, false≢true, cond, not, ◌&&◌}
use mathlib.Core.List.{List, [], ◌++◌}
use mathlib.Core.Path.{◌≡◌, refl, sym, ap, ◌∙◌}
use borrow.Author.Tests.{leb-false, lt-leb, lt-ltb, le-ltb, ltb-true, ltb-false}
use lib.Dec.{eqb, leb, ltb}
use lib.ListN.{length, get_or, take, drop, length-take, length-drop, length-map, get_or-eq_default}
use lib.Seq.{length-take-le, get_or-take, get_or-drop, take-take}
use Rattle.lists.specs.Tests.{count, All}
use Rattle.lists.specs.Tables.{read_from, first_from}
use Rattle.lists.proofs.Cases.{by_test}
use Rattle.lists.proofs.All.{all_imp, all_true}
use Rattle.lists.proofs.Counts.{count_map, count_same}
use Rattle.lists.proofs.Filters.{count_parts}
use Rattle.lists.proofs.First.{first_full, count_before}
use Rattle.lists.proofs.Permutations.{length_perm, count_perm}
use Rattle.lists.proofs.Blocks.{drop_take}
use Rattle.lists.proofs.Tables.{all_from_at, all_places, read_from_split, length_read_from, length_read_by}
use Rattle.ledger.specs.Limits.{capacity, is_small}
use Rattle.ledger.proofs.Figures.{allowed}
use Rattle.ledger.specs.Objects.{Object, small_ones, large_ones, usage}
use Rattle.ledger.specs.Compared.{shown, shown_object, view_of}
use Rattle.ledger.specs.Ledger.{Ledger}
use Rattle.ledger.specs.declared.Limits.{Limits}
use Rattle.record.specs.Codes.{due_by, due_of, is_dated, free_block, local_code, global_code, pinned_code, is_global_clock}
use Rattle.record.specs.Reading.{is_small_block, is_whole, shown_due, object_in, record_view, Typed, Reads}
use Rattle.record.specs.WellFormed.{is_used, is_fit_due, is_fit_entry, is_block, is_block_at}
use Rattle.record.specs.declared.TaskEntry.{TaskEntry}
use Rattle.record.specs.Tables.{BlockEntry, ExpirationEntry, Tables}
use Rattle.record.specs.declared.GlobalTime.{GlobalTime}
use Rattle.record.specs.declared.Due.{Due}
use Rattle.record.specs.declared.Due.TheVariants.{Free, Local, Global, Pinned, Unknown}
use Rattle.record.proofs.Facts.{Fit}
use Rattle.ledger.specs.Shares.{blocks_in, used_in}
use Rattle.record.specs.Shares.{taken_but}
use Rattle.record.proofs.Exists.{sized_small, fit_tables_read}
use Rattle.steps.specs.Objects.{is_free_block, end_for, free_place, is_free_entry, standing_in}
use Rattle.steps.specs.Facts.{is_filled}
use Rattle.steps.specs.Usage.{usage_of}
use Rattle.steps.proofs.Finding.{each_used}
use Rattle.steps.proofs.Shares.{taken_alike}

-- a block in use has one object
objects_counted : (small large : List ℕ) (i : ℕ) (bs : List BlockEntry) → length (read_from i (object_in small large) bs) ≡ count is_used bs
unfolding object_in
objects_counted small large =
    length_read_from is_used (object_in small large) (λ i b. by_test (is_free_block b) (λ z. rw z) (λ z. rw z))

-- an entry in use shows one expiration
shown_once : (tasks : List TaskEntry) (global : GlobalTime) (handle : ℕ) (due : Due)
    → length (shown_due tasks global handle due) ≡ cond (is_dated due) 1 0
unfolding shown_due
shown_once tasks global handle Free = refl
shown_once tasks global handle (Local setter at) = refl
shown_once tasks global handle (Global setter at) = refl
shown_once tasks global handle (Pinned due) = refl
shown_once tasks global handle Unknown = refl

-- a fit entry is free or in use
fit_dated : (limits : Limits) (tasks : List TaskEntry) (global : GlobalTime) (blocks : List BlockEntry) (e : ExpirationEntry)
    → is_fit_entry limits tasks global blocks e ≡ true → is_dated (due_of e) ≡ not (is_free_entry e)
unfolding is_fit_due due_by
fit_dated limits tasks global blocks e fit =
    by_test (eqb e.clock 0)
    (λ z. rw z)
    (λ z.
    by_test (is_global_clock e.clock)
    (λ g. rw (z, g))
    (λ g. by_test (leb local_code e.clock && ltb e.clock global_code) (λ l. rw (z, g, l)) (λ l. by_test (eqb e.clock pinned_code) (λ p. rw (z, g, l, p)) (λ p. absurd (false≢true (rw (z, g, l, p) at fit))))))

-- the entries of the small store's blocks, and those of the large one's
abbrev small_part : List BlockEntry → List BlockEntry
small_part bs = take capacity.small bs

abbrev large_part : List BlockEntry → List BlockEntry
large_part bs = drop capacity.small bs

-- the objects in them
abbrev in_small : List ℕ → List ℕ → List BlockEntry → List Object
in_small small large bs = read_from 0 (object_in small large) (small_part bs)

abbrev in_large : List ℕ → List ℕ → List BlockEntry → List Object
in_large small large bs = read_from capacity.small (object_in small large) (large_part bs)

module _ {p : Tables} {small large : List ℕ} {L : Ledger} (fit : Fit p) (reads : Reads p small large L) where
  -- those of the small store are small, those of the large one large
  all_small : All (λ (o : Object). is_small o.size ≡ true) (in_small small large p.blocks)
  all_small =
      let n = capacity.small in
      all_places _ free_block (object_in small large) 0 (small_part p.blocks)
      (λ i h.
      let within : i < n = omega (arith, length-take n p.blocks) in
      rw (zero-add, get_or-take n p.blocks i free_block within)
      (each_used fit small large _ i (λ f. sized_small i (get_or p.blocks i free_block).length f.sized ∙ lt-ltb i n within)))

  all_large : All (λ (o : Object). is_small o.size ≡ false) (in_large small large p.blocks)
  all_large =
      let n = capacity.small in
      all_places _ free_block (object_in small large) n (large_part p.blocks)
      (λ i h.
      rw (get_or-drop n p.blocks i free_block)
      (each_used fit small large _ (n + i) (λ f. sized_small (n + i) (get_or p.blocks (n + i) free_block).length f.sized ∙ le-ltb (n + i) n (omega arith))))

  -- a count of objects by their size is the same of ledger and record
  count_alike : (r : ℕ → Bool)
      → count (λ (o : Object). r o.size) L.memory.objects
      ≡ count (λ (o : Object). r o.size) (in_small small large p.blocks ++ in_large small large p.blocks)
  unfolding record_view view_of
  count_alike r =
      sym (count_map _ (shown_object (is_whole p.limits small large)) L.memory.objects) ∙ sym (count_perm _ reads.alike.objects)
      ∙ count_map (λ (o : Object). r o.size) (shown_object (is_whole p.limits small large)) (read_from 0 (object_in small large) p.blocks)
      ∙ ap (count _) (rw zero-add at (read_from_split 0 (object_in small large) capacity.small p.blocks))

  -- so the objects of either store are as many as its blocks in use
  stored : (small_ones L.memory.objects ≡ count is_used (small_part p.blocks))
      × (large_ones L.memory.objects ≡ count is_used (large_part p.blocks))
  stored =
      let bs = p.blocks in
      let (front, back) = count_parts (λ (o : Object). is_small o.size) (in_small small large bs) (in_large small large bs) all_small all_large in (
        count_alike is_small ∙ front ∙ objects_counted small large 0 (small_part bs),
        count_alike (λ size. not (is_small size)) ∙ back ∙ objects_counted small large capacity.small (large_part bs),
      )

  -- none past the figures is in use
  free_past : (block : ℕ) → is_block p.limits block ≡ false → is_free_block (get_or p.blocks block free_block) ≡ true
  free_past block past =
      let listed = all_from_at (is_block_at p.limits) free_block (λ i. refl) p.blocks fit.listed block in
      by_test (is_free_block (get_or p.blocks block free_block)) (λ z. z) (λ z. absurd (false≢true (rw (z, past) at listed)))

  past_small_lem : (k : ℕ) → p.limits.small ≤ k → is_free_block (get_or (small_part p.blocks) k free_block) ≡ true
  past_small_lem k h =
      by_test (is_small_block k)
      (λ s. rw (get_or-take capacity.small p.blocks k free_block (ltb-true _ _ s)) (free_past k (rw s (le-ltb k p.limits.small h))))
      (λ s.
      let end : length (small_part p.blocks) ≤ k = simp length-take (omega (arith, ltb-false k capacity.small s)) in
      rw (get_or-eq_default (small_part p.blocks) free_block end))

  past_large_lem : (k : ℕ) → p.limits.large ≤ k → is_free_block (get_or (large_part p.blocks) k free_block) ≡ true
  past_large_lem k h =
      let n = capacity.small in
      rw (get_or-drop n p.blocks k free_block)
      (free_past (n + k) (rw (le-ltb (n + k) n (omega arith)) (le-ltb (n + k) (n + p.limits.large) (omega arith))))

  -- so there is a free one in a store just where fewer are in use than it has
  small_room : Typed p → leb p.limits.small (small_ones L.memory.objects) ≡ leb p.limits.small (first_from 0 is_free_block (take p.limits.small p.blocks))
  small_room typed =
      let n = p.limits.small in
      let may = allowed p.limits fit.allowed in
      let part = take n p.blocks in
      let whole : length part ≡ n = length-take-le n p.blocks (omega (arith, typed.blocks, may.most_small)) in
      let same = stored.0 ∙ count_before is_free_block free_block n (small_part p.blocks) past_small_lem ∙ ap (count is_used) (take-take n capacity.small p.blocks may.most_small) in
      rw same (rw (zero-add, whole) at (first_full is_free_block 0 part))

  large_room : Typed p → leb p.limits.large (large_ones L.memory.objects)
      ≡ leb (capacity.small + p.limits.large) (first_from capacity.small is_free_block (drop capacity.small (take (capacity.small + p.limits.large) p.blocks)))
  large_room typed =
      let n = p.limits.large in
      let may = allowed p.limits fit.allowed in
      let part = take n (large_part p.blocks) in
      let whole : length part ≡ n = length-take-le n (large_part p.blocks) (rw (length-drop, typed.blocks) (omega (arith, may.most_large))) in
      let same = stored.1 ∙ count_before is_free_block free_block n (large_part p.blocks) past_large_lem in
      rw (same, drop_take capacity.small n p.blocks) (rw whole at (first_full is_free_block capacity.small part))

  pub block_room : Typed p → (size : ℕ)
      → leb (blocks_in L.memory.limits (is_small size)) (used_in (is_small size) L.memory.objects) ≡ leb (end_for p.limits size) (free_place p.limits size p.blocks)
  unfolding free_place record_view view_of
  block_room typed size =
      rw (← reads.alike.limits)
      (by_test (is_small size) (λ e. rw e (small_room typed)) (λ e. rw e (large_room typed)))

  -- expirations are as many as entries in use
  pub entries_alike : length L.expirations ≡ standing_in p.expirations
  unfolding record_view view_of
  entries_alike =
      sym (length-map L.expirations (shown L.memory.clocks)) ∙ sym (length_perm reads.alike.expirations)
      ∙ length_read_by _ _ (λ e. shown_once p.tasks p.global _ (due_of e)) p.expirations
      ∙ count_same _ (λ (e : ExpirationEntry). not (is_free_entry e)) p.expirations
      (all_imp (fit_dated p.limits p.tasks p.global p.blocks) p.expirations (all_true _ p.expirations fit.entries))

  pub usage_alike : usage L.memory L.expirations ≡ usage_of p
  unfolding usage usage_of record_view view_of
  usage_alike = rw (stored.0, stored.1, entries_alike, reads.alike.given)

-- so where a block is left for a task, there is a free one
pub room_left : (p : Tables) → Fit p → Typed p → (task size : ℕ) → is_filled (is_small size) p.limits p.shares p.blocks task ≡ false
    → leb (end_for p.limits size) (free_place p.limits size p.blocks) ≡ false
unfolding taken_but record_view view_of
room_left p fit types task size e =
    let (L, reads) = fit_tables_read p types fit [] [] in
    let os = L.memory.objects in
    let few = leb-false (blocks_in p.limits (is_small size)) (taken_but (is_small size) p.shares p.blocks task) e in
    let blocks : blocks_in L.memory.limits (is_small size) ≡ blocks_in p.limits (is_small size) = ap (λ (limits : Limits). blocks_in limits (is_small size)) (sym reads.alike.limits) in
    sym (block_room fit reads types size) ∙ lt-leb (blocks_in L.memory.limits (is_small size)) (used_in (is_small size) os) (omega (arith, few, taken_alike reads (is_small size), blocks))
