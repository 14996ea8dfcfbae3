-- A record whose blocks have lost a maker: all else is as it was, and it reads as the ledger whose objects have.
use Prim.Native.Nat.{ℕ, suc}
use native.Mathlib.Omega.{arith}
use mathlib.Core.Bool.{Bool, true, false, true≢false}
use mathlib.Core.List.{List, [], ◌∷◌, map, map-map, map-id}
use mathlib.Core.Path.{◌≡◌, refl, sym, ap, fun_ext, ◌∙◌}
use borrow.Author.Tests.{eqb-true}
use lib.Dec.{eqb}
use lib.ListN.{length, get_or, set, length-map, length-set, get_or-map}
use Rattle.lists.specs.Tests.{any, all}
use Rattle.lists.specs.Tables.{read_from, map_from, all_from}
use Rattle.lists.proofs.All.{all_every, all_map, map_same}
use Rattle.lists.proofs.Cases.{by_test}
use Rattle.lists.proofs.Permutations.{map_perm}
use Rattle.lists.proofs.Tables.{read_by_same, map_from_map, all_from_map_from}
use Rattle.ledger.specs.Limits.{task_count}
use Rattle.ledger.specs.Objects.{Object, no_share, orphaned, makers_after, shares_after}
use Rattle.ledger.specs.Compared.{shown_object, view_of}
use Rattle.ledger.specs.Kept.{Ascending}
use Rattle.ledger.specs.Ledger.{Ledger}
use Rattle.ledger.specs.declared.Share.{Share}
use Rattle.ledger.specs.declared.Event.{Event}
use Rattle.ledger.specs.declared.Event.TheVariants.{Leave, Block, Resume, Tick, View}
use Rattle.record.specs.Codes.{free_block}
use Rattle.record.specs.Reading.{shown_entry, object_in, record_view, is_whole, Typed, Reads}
use Rattle.record.specs.Tables.{BlockEntry, ExpirationEntry, Tables}
use Rattle.record.specs.WellFormed.{is_fit_entry, is_naming, is_fit_block, is_block_at, handle_of}
use Rattle.record.proofs.Facts.{Fit}
use Rattle.record.proofs.Distinct.{handle_at}
use Rattle.steps.specs.Events.{kept_block, leaver_of, orphaned_block, orphaned_pool}
use Rattle.steps.specs.Staying.{Stays}

-- who leaves
abbrev pub is_leaving : Event → Bool
is_leaving Leave = true
is_leaving Block = false
is_leaving Resume = false
is_leaving View = false
is_leaving Tick = false

-- where nobody does
pub orphaned_nobody : (b : BlockEntry) → orphaned_block task_count b ≡ b
orphaned_nobody b = by_test (eqb b.maker task_count) (λ e. rw (e, ← eqb-true b.maker task_count e)) (λ e. rw e)

pub nobody_left : (bs : List BlockEntry) → map (orphaned_block task_count) bs ≡ bs
nobody_left bs = map_same (orphaned_block task_count) (λ b. b) bs (all_every _ orphaned_nobody bs) ∙ map-id bs

with_blocks : List BlockEntry → Tables → Tables
with_blocks bs p =
    record { limits = p.limits; tasks = p.tasks; global = p.global; given = p.given; shares = p.shares; blocks = bs; expirations = p.expirations }

pub orphaned_none : (event : Event) (task : ℕ) (p : Tables) → is_leaving event ≡ false → orphaned_pool event task p ≡ p
unfolding orphaned_pool shares_after with_blocks
orphaned_none Leave task p e = absurd (true≢false e)
orphaned_none Block task p e = ap (λ (bs : List BlockEntry). with_blocks bs p) (nobody_left p.blocks)
orphaned_none Resume task p e = ap (λ (bs : List BlockEntry). with_blocks bs p) (nobody_left p.blocks)
orphaned_none View task p e = ap (λ (bs : List BlockEntry). with_blocks bs p) (nobody_left p.blocks)
orphaned_none Tick task p e = ap (λ (bs : List BlockEntry). with_blocks bs p) (nobody_left p.blocks)

-- the shares stay as many
pub shares_counted : (event : Event) (task : ℕ) (shares : List Share) → length (shares_after event task shares) ≡ length shares
unfolding shares_after
shares_counted Leave task shares = length-set shares task no_share
shares_counted Block task shares = refl
shares_counted Resume task shares = refl
shares_counted View task shares = refl
shares_counted Tick task shares = refl

module _ (leaver : ℕ) where
  -- what a block has but for its maker
  kept_field : (field : BlockEntry → ℕ) → ((b : BlockEntry) → field (orphaned_block leaver b) ≡ field b) → field free_block ≡ 0 → (bs : List BlockEntry) (i : ℕ)
      → field (get_or (map (orphaned_block leaver) bs) i free_block) ≡ field (get_or bs i free_block)
  kept_field field same none bs i =
      sym (get_or-map field (map (orphaned_block leaver) bs) i free_block)
      ∙ ap (λ (ns : List ℕ). get_or ns i (field free_block)) (map-map field (orphaned_block leaver) bs ∙ map_same _ field bs (all_every _ same bs))
      ∙ get_or-map field bs i free_block

  pub orphaned_handle : (bs : List BlockEntry) (i : ℕ) → handle_at (map (orphaned_block leaver) bs) i ≡ handle_at bs i
  orphaned_handle = kept_field handle_of (λ b. refl) refl

  pub orphaned_length : (bs : List BlockEntry) (i : ℕ) → (get_or (map (orphaned_block leaver) bs) i free_block).length ≡ (get_or bs i free_block).length
  orphaned_length = kept_field (λ (b : BlockEntry). b.length) (λ b. refl) refl

  block_fits : (given : ℕ) (xs : List ExpirationEntry) (i : ℕ) (b : BlockEntry) → is_fit_block given xs i b ≡ true → is_fit_block given xs i (orphaned_block leaver b) ≡ true
  unfolding is_fit_block
  block_fits given xs i b =
      λ h. h

  all_blocks : (test : ℕ → BlockEntry → Bool) → ((i : ℕ) (b : BlockEntry) → test i b ≡ true → test i (orphaned_block leaver b) ≡ true) → (bs : List BlockEntry)
      → all_from 0 test bs ≡ true → all_from 0 test (map (orphaned_block leaver) bs) ≡ true
  all_blocks test passes bs h = rw (← map_from_map 0 (orphaned_block leaver) bs) (all_from_map_from test test (λ i. orphaned_block leaver) passes 0 bs h)

  same_fit : (p : Tables) (e : ExpirationEntry) → is_fit_entry p.limits p.tasks p.global (map (orphaned_block leaver) p.blocks) e ≡ is_fit_entry p.limits p.tasks p.global p.blocks e
  same_fit p e = rw (orphaned_handle p.blocks e.block)

  -- the objects in the blocks
  objects_orphaned : (small large : List ℕ) (i : ℕ) (bs : List BlockEntry)
      → read_from i (object_in small large) (map (orphaned_block leaver) bs) ≡ map (orphaned leaver) (read_from i (object_in small large) bs)
  unfolding object_in
  objects_orphaned small large i [] = refl
  objects_orphaned small large i (b ∷ bs) =
      by_test (eqb b.handle 0) (λ z. rw z (objects_orphaned small large (suc i) bs)) (λ z. rw (z, objects_orphaned small large (suc i) bs))

  -- what is freed is so with its maker or without
  pub kept_orphaned : (xs : List ExpirationEntry) (i : ℕ) (bs : List BlockEntry)
      → map_from i (kept_block xs) (map (orphaned_block leaver) bs) ≡ map (orphaned_block leaver) (map_from i (kept_block xs) bs)
  kept_orphaned xs i [] = refl
  kept_orphaned xs i (b ∷ bs) =
      by_test (any (is_naming i) xs) (λ n. rw (n, kept_orphaned xs (suc i) bs)) (λ n. rw (n, kept_orphaned xs (suc i) bs))

  ascending_orphaned : (os : List Object) → Ascending os → Ascending (map (orphaned leaver) os)
  ascending_orphaned [] a = tt
  ascending_orphaned (o ∷ os) (l, a) = (all_map _ (orphaned leaver) os l, ascending_orphaned os a)

module _ (event : Event) (task : ℕ) (p : Tables) where
  abbrev leaver : ℕ
  leaver = leaver_of event task

  pub typed_orphaned : Typed p → Typed (orphaned_pool event task p)
  unfolding orphaned_pool
  typed_orphaned t =
      record {
        tasks = t.tasks;
        shares = shares_counted event task p.shares ∙ t.shares;
        blocks = length-map p.blocks (orphaned_block leaver) ∙ t.blocks;
        expirations = t.expirations;
        clocks = t.clocks;
        global = t.global;
        given = t.given;
      }

  pub fit_orphaned : Fit p → Fit (orphaned_pool event task p)
  unfolding orphaned_pool
  fit_orphaned f =
      record {
        tasks = f.tasks;
        unticked = f.unticked;
        entries = ap (λ (test : ExpirationEntry → _). all test p.expirations) (fun_ext (same_fit leaver p)) ∙ f.entries;
        blocks = all_blocks leaver (is_fit_block p.given p.expirations) (block_fits leaver p.given p.expirations) p.blocks f.blocks;
        distinct = rw (map-map handle_of (orphaned_block leaver) p.blocks) f.distinct;
        once = f.once;
        allowed = f.allowed;
        listed = all_blocks leaver (is_block_at p.limits) (λ i b h. h) p.blocks f.listed;
        counted = f.counted;
      }

  pub stays_orphaned : Stays p (orphaned_pool event task p)
  unfolding orphaned_pool
  stays_orphaned =
      record { limits = refl; given = omega arith; same = λ block used given. (orphaned_handle leaver p.blocks block, orphaned_length leaver p.blocks block) }

-- the ledger with these shares and objects
abbrev pub with_makers : Event → ℕ → Ledger → Ledger
with_makers event task L =
    let m = L.memory in
    record {
      memory =
          record {
            limits = m.limits;
            clocks = m.clocks;
            given = m.given;
            objects = makers_after event task m.objects;
            shares = shares_after event task m.shares;
            pinned = m.pinned;
          };
      expirations = L.expirations;
    }

module _ {p : Tables} {small large : List ℕ} {L : Ledger} (task : ℕ) (reads : Reads p small large L) where
  same : (event : Event) → is_leaving event ≡ false → Reads (orphaned_pool event task p) small large L
  same event e = rw (orphaned_none event task p e) reads

  pub reads_orphaned : (event : Event) → Reads (orphaned_pool event task p) small large (with_makers event task L)
  unfolding orphaned_pool makers_after shares_after record_view view_of
  reads_orphaned Leave =
      let is_whole = is_whole p.limits small large in
      let moved : (os : List Object) → map (shown_object is_whole) (map (orphaned task) os) ≡ map (orphaned task) (map (shown_object is_whole) os) =
      λ os. map-map (shown_object is_whole) (orphaned task) os ∙ sym (map-map (orphaned task) (shown_object is_whole) os) in
      record {
        alike =
            record {
              limits = reads.alike.limits;
              tasks = reads.alike.tasks;
              global = reads.alike.global;
              given = reads.alike.given;
              shares = ap (λ (s : List Share). set s task no_share) reads.alike.shares;
              objects =
                  rw (objects_orphaned task small large 0 p.blocks, moved (read_from 0 (object_in small large) p.blocks), moved L.memory.objects)
                  (map_perm (orphaned task) reads.alike.objects);
              expirations =
                  rw (read_by_same (shown_entry p.tasks p.global (map (orphaned_block task) p.blocks)) (shown_entry p.tasks p.global p.blocks) p.expirations
                  (all_every _ (λ e. rw (orphaned_handle task p.blocks e.block)) p.expirations))
                  reads.alike.expirations;
            };
        ascending = ascending_orphaned task L.memory.objects reads.ascending;
        pins = reads.pins;
      }
  reads_orphaned Block = same Block refl
  reads_orphaned Resume = same Resume refl
  reads_orphaned View = same View refl
  reads_orphaned Tick = same Tick refl
