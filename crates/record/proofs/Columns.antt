-- The entries of the record's tables by their columns: what is at a place, what a store leaves, and a column by itself.
use Rattle.std.proofs.Common.{◌≡◌, ℕ, ◌<◌, ◌≤◌, ltb, List, map, length, get_or, set, sym, ap, ◌∙◌, map-id, arith, ltb-false, ltb-true}
use mathlib.Core.List.{map-map}
use lib.ListN.{length-map, get_or-eq_default, get_or-map}
use lib.Seq.{set-get_or}
use Rattle.lists.specs.Columns.{◌⊛◌}
use Rattle.lists.proofs.Cases.{by_test}
use Rattle.lists.proofs.Columns.{length-⊛, at-⊛, set-⊛, map-⊛, unseen-⊛}
use Rattle.lists.proofs.Tables.{map_set}
use Rattle.record.specs.Codes.{free_block, free_entry}
use Rattle.record.specs.Tables.{BlockEntry, ExpirationEntry, length_range, maker_range, length_in, sum_in, maker_in, prefix_in, extent_of, with_sum, with_maker, block_entry, expiration_entry, blocks_of, entries_of}

-- two columns of as many
module _ {n : ℕ} (hs ls : List ℕ) (a : length hs ≡ n) (b : length ls ≡ n) where
  pub length_blocks : length (blocks_of hs ls) ≡ n
  unfolding blocks_of
  length_blocks = length-⊛ (map block_entry hs) ls (length-map hs block_entry ∙ a ∙ sym b) ∙ b

  pub block_at : (i : ℕ) → get_or (blocks_of hs ls) i free_block ≡ block_entry (get_or hs i 0) (get_or ls i 0)
  unfolding blocks_of
  block_at i =
      by_test (ltb i n)
      (λ t.
      let within : i < length ls = omega (arith, ltb-true i n t) in
      at-⊛ (map block_entry hs) ls i (block_entry 0) 0 free_block (length-map hs block_entry ∙ a ∙ sym b) within
      ∙ ap (λ (f : ℕ → BlockEntry). f (get_or ls i 0)) (get_or-map block_entry hs i 0))
      (λ t.
      let past : n ≤ i = ltb-false i n t in
      rw (get_or-eq_default hs 0 {n = i} (omega arith), get_or-eq_default ls 0 {n = i} (omega arith))
      (get_or-eq_default (blocks_of hs ls) free_block {n = i} (omega (arith, length_blocks))))

  -- the handles by themselves
  pub handles_of_lem : map (λ (b : BlockEntry). b.handle) (blocks_of hs ls) ≡ hs
  unfolding blocks_of
  handles_of_lem = map-⊛ _ (map block_entry hs) ls ∙ rw map-map (unseen-⊛ (λ h. h) hs ls (a ∙ sym b) ∙ map-id hs)

pub blocks_set : (hs ls : List ℕ) (i h l : ℕ) → blocks_of (set hs i h) (set ls i l) ≡ set (blocks_of hs ls) i (block_entry h l)
unfolding blocks_of
blocks_set hs ls i h l = rw map_set (set-⊛ (map block_entry hs) ls i (block_entry h) l)

-- one column stored
pub handles_set : (hs ls : List ℕ) (i h : ℕ) → blocks_of (set hs i h) ls ≡ set (blocks_of hs ls) i (block_entry h (get_or ls i 0))
handles_set hs ls i h = rw (set-get_or ls i 0) at (blocks_set hs ls i h (get_or ls i 0))

pub extents_set : (hs ls : List ℕ) (i l : ℕ) → blocks_of hs (set ls i l) ≡ set (blocks_of hs ls) i (block_entry (get_or hs i 0) l)
extents_set hs ls i l = rw (set-get_or hs i 0) at (blocks_set hs ls i (get_or hs i 0) l)

-- what an extent is made of can be read out of it
pub entry_of : (handle size sum maker prefix : ℕ) → size < length_range → maker < maker_range → prefix < length_range
    → block_entry handle (extent_of size sum maker prefix) ≡ record { handle = handle; length = size; sum = sum; maker = maker; prefix = prefix }
entry_of handle size sum maker prefix h m p =
    rw (of_length, of_sum, of_maker_lem, of_prefix)
  where
    of_length : length_in (extent_of size sum maker prefix) ≡ size
    of_length = omega arith

    of_sum : sum_in (extent_of size sum maker prefix) ≡ sum
    of_sum = omega arith

    of_maker_lem : maker_in (extent_of size sum maker prefix) ≡ maker
    of_maker_lem = omega arith

    of_prefix : prefix_in (extent_of size sum maker prefix) ≡ prefix
    of_prefix = omega arith

-- and so can another sum,
pub entry_summed : (handle extent sum : ℕ)
    → block_entry handle (with_sum extent sum)
    ≡ record { handle = handle; length = length_in extent; sum = sum; maker = maker_in extent; prefix = prefix_in extent }
entry_summed handle extent sum =
    rw (of_length, of_sum, of_maker_lem, of_prefix)
  where
    of_length : length_in (with_sum extent sum) ≡ length_in extent
    of_length = omega arith

    of_sum : sum_in (with_sum extent sum) ≡ sum
    of_sum = omega arith

    of_maker_lem : maker_in (with_sum extent sum) ≡ maker_in extent
    of_maker_lem = omega arith

    of_prefix : prefix_in (with_sum extent sum) ≡ prefix_in extent
    of_prefix = omega arith

-- and another maker
pub entry_made : (handle extent maker : ℕ) → maker < maker_range
    → block_entry handle (with_maker extent maker)
    ≡ record { handle = handle; length = length_in extent; sum = sum_in extent; maker = maker; prefix = prefix_in extent }
entry_made handle extent maker m =
    rw (of_length, of_sum, of_maker_lem, of_prefix)
  where
    of_length : length_in (with_maker extent maker) ≡ length_in extent
    of_length = omega arith

    of_sum : sum_in (with_maker extent maker) ≡ sum_in extent
    of_sum = omega arith

    of_maker_lem : maker_in (with_maker extent maker) ≡ maker
    of_maker_lem = omega arith

    of_prefix : prefix_in (with_maker extent maker) ≡ prefix_in extent
    of_prefix = omega arith

-- three columns of as many
module _ {n : ℕ} (cs bs ds : List ℕ) (a : length cs ≡ n) (b : length bs ≡ n) (d : length ds ≡ n) where
  two : length (map expiration_entry cs ⊛ bs) ≡ n
  two = length-⊛ (map expiration_entry cs) bs (length-map cs expiration_entry ∙ a ∙ sym b) ∙ b

  pub length_entries : length (entries_of cs bs ds) ≡ n
  unfolding entries_of
  length_entries = length-⊛ (map expiration_entry cs ⊛ bs) ds (two ∙ sym d) ∙ d

  pub entry_at : (i : ℕ) → get_or (entries_of cs bs ds) i free_entry ≡ expiration_entry (get_or cs i 0) (get_or bs i 0) (get_or ds i 0)
  unfolding entries_of
  entry_at i =
      by_test (ltb i n)
      (λ t.
      let within : i < n = ltb-true i n t in
      at-⊛ (map expiration_entry cs ⊛ bs) ds i (expiration_entry 0 0) 0 free_entry (two ∙ sym d) (omega arith)
      ∙ ap (λ (f : ℕ → ExpirationEntry). f (get_or ds i 0))
      (at-⊛ (map expiration_entry cs) bs i (expiration_entry 0) 0 (expiration_entry 0 0) (length-map cs expiration_entry ∙ a ∙ sym b) (omega arith)
      ∙ ap (λ (f : ℕ → ℕ → ExpirationEntry). f (get_or bs i 0)) (get_or-map expiration_entry cs i 0)))
      (λ t.
      let past : n ≤ i = ltb-false i n t in
      rw (get_or-eq_default cs 0 {n = i} (omega arith), get_or-eq_default bs 0 {n = i} (omega arith), get_or-eq_default ds 0 {n = i} (omega arith))
      (get_or-eq_default (entries_of cs bs ds) free_entry {n = i} (omega (arith, length_entries))))

  unnamed : map {B = ℕ → ℕ} (λ (f : ℕ → ExpirationEntry) (d : ℕ). (f d).clock) (map expiration_entry cs ⊛ bs) ≡ map {B = ℕ → ℕ} (λ (c d : ℕ). c) cs
  unnamed = map-⊛ _ (map expiration_entry cs) bs ∙ rw map-map (unseen-⊛ (λ c x. c) cs bs (a ∙ sym b))

  -- the clocks by themselves
  pub clocks_of : map (λ (e : ExpirationEntry). e.clock) (entries_of cs bs ds) ≡ cs
  unfolding entries_of
  clocks_of =
      map-⊛ _ (map expiration_entry cs ⊛ bs) ds
      ∙ ap (λ fs. fs ⊛ ds) unnamed
      ∙ unseen-⊛ (λ c. c) cs ds (a ∙ sym d) ∙ map-id cs

pub entries_set : (cs bs ds : List ℕ) (i c b d : ℕ)
    → entries_of (set cs i c) (set bs i b) (set ds i d) ≡ set (entries_of cs bs ds) i (expiration_entry c b d)
unfolding entries_of
entries_set cs bs ds i c b d =
    rw (map_set, set-⊛ (map expiration_entry cs) bs i (expiration_entry c) b) (set-⊛ (map expiration_entry cs ⊛ bs) ds i (expiration_entry c b) d)

-- one column stored
pub clocks_set : (cs bs ds : List ℕ) (i c : ℕ) → entries_of (set cs i c) bs ds ≡ set (entries_of cs bs ds) i (expiration_entry c (get_or bs i 0) (get_or ds i 0))
clocks_set cs bs ds i c = rw (set-get_or bs i 0, set-get_or ds i 0) at (entries_set cs bs ds i c (get_or bs i 0) (get_or ds i 0))
