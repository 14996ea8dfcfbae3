-- What was changed by places, as the tables have it.
use Rattle.std.proofs.Common.{◌≡◌, ℕ, Bool, true, false, cond, List, map, length, get_or, sym, refl, ap, ◌∙◌, arith, ext_get_or}
use lib.ListN.{length-map, get_or-map}
use Rattle.lists.specs.Tables.{map_from}
use Rattle.lists.specs.Tests.{any}
use Rattle.lists.proofs.Cases.{cond_same}
use Rattle.lists.proofs.Tables.{length_map_from}
use Rattle.record.specs.Codes.{due_of, free_block, free_entry, freed_block, freed_entry}
use Rattle.record.specs.Tables.{ExpirationEntry, block_entry, expiration_entry, blocks_of, entries_of, SizedEntries, block_entries, expiration_entries}
use Rattle.record.specs.WellFormed.{is_naming}
use Rattle.record.specs.declared.TaskEntry.{TaskEntry}
use Rattle.record.proofs.Columns.{length_blocks, block_at}
use Rattle.steps.specs.Events.{kept_block}
use Rattle.steps.proofs.KeptBlocks.{block_left}
use Rattle.expirations.specs.Naming.{NamedFlags}
use Rattle.expirations.specs.Places.{Changed}
use Rattle.expirations.proofs.Places.{changed_same}
use Rattle.expirations.proofs.Tables.{size_of, entry_of, asked_entries, asked_naming}
use Rattle.endings.specs.Ending.{is_ending, ended_entry, Ended, Ends}
use Rattle.endings.specs.Late.{late_in}
use Rattle.endings.specs.Releasing.{kept_by_flag}
use Rattle.endings.specs.declared.Passing.{Passing}

-- a block with its handle or without
kept_entry_lem : (flag : Bool) (handle extent : ℕ)
    → block_entry (cond flag handle 0) extent ≡ cond flag (block_entry handle extent) (freed_block (block_entry handle extent))
kept_entry_lem true handle extent = refl
kept_entry_lem false handle extent = refl

-- the blocks after the handles of those are given up that no entry names
pub freed_blocks : {hs hs' : List ℕ} (xs : List ExpirationEntry) (ls : List ℕ) → length hs ≡ block_entries → length ls ≡ block_entries
    → Changed 0 (λ block handle. cond (any (is_naming block) xs) handle 0) 0 block_entries hs hs' → blocks_of hs' ls ≡ map_from 0 (kept_block xs) (blocks_of hs ls)
freed_blocks {hs} {hs'} xs ls h l z =
    let blocks = blocks_of hs ls in
    let size = length_blocks hs' ls (z.size ∙ h) l in
    ext_get_or free_block (blocks_of hs' ls) (map_from 0 (kept_block xs) blocks)
    (size ∙ sym (length_map_from 0 (kept_block xs) blocks ∙ length_blocks hs ls h l))
    (λ k m.
    rw (block_at hs' ls (z.size ∙ h) l k, z.inside k (omega arith) (omega arith), block_left xs blocks k, block_at hs ls h l k)
    (kept_entry_lem (any (is_naming k) xs) (get_or hs k 0) (get_or ls k 0)))

-- those that no flag is set for
released : {cs ns ds hs hs' : List ℕ} {flags : List Bool} (ls : List ℕ) → NamedFlags cs ns expiration_entries flags → Changed 0 (kept_by_flag flags) 0 block_entries hs hs'
    → SizedEntries cs ns ds → length hs ≡ block_entries → length ls ≡ block_entries → blocks_of hs' ls ≡ map_from 0 (kept_block (entries_of cs ns ds)) (blocks_of hs ls)
released {cs} {ns} {ds} ls s z sized h l = freed_blocks (entries_of cs ns ds) ls h l (changed_same z (λ k a b. rw (asked_naming sized k (s.so k b))))

-- an entry by whether it ends
ended_entry_lem : (ends : Bool) (clock block due : ℕ)
    → expiration_entry (cond ends 0 clock) block due ≡ cond ends (freed_entry (expiration_entry clock block due)) (expiration_entry clock block due)
ended_entry_lem true clock block due = refl
ended_entry_lem false clock block due = refl

-- the table after the clocks of all are made anew
module _ {f : ℕ → ℕ → ℕ} {cs ns ds cs' : List ℕ} (s : Changed 0 f 0 expiration_entries cs cs') (sized : SizedEntries cs ns ds) where
  pub sized_after : SizedEntries cs' ns ds
  sized_after = record { of_clocks = s.size ∙ sized.of_clocks; of_named = sized.of_named; of_dues = sized.of_dues }

  -- where those of entries that pass are freed
  pub freed_entries : (p : ExpirationEntry → Bool) → ((k clock : ℕ) → f k clock ≡ cond (p (expiration_entry clock (get_or ns k 0) (get_or ds k 0))) 0 clock)
      → entries_of cs' ns ds ≡ map (λ (e : ExpirationEntry). cond (p e) (freed_entry e) e) (entries_of cs ns ds)
  freed_entries p e =
      let xs = entries_of cs ns ds in
      let size = size_of sized_after in
      let kept : ExpirationEntry → ExpirationEntry = λ x. cond (p x) (freed_entry x) x in
      let x : ℕ → ExpirationEntry = λ k. expiration_entry (get_or cs k 0) (get_or ns k 0) (get_or ds k 0) in
      ext_get_or free_entry (entries_of cs' ns ds) (map kept xs)
      (size ∙ sym (length-map xs kept ∙ size_of sized))
      (λ k m.
      entry_of sized_after k
      ∙ rw (s.inside k (omega arith) (omega arith), e k (get_or cs k 0)) (ended_entry_lem (p (x k)) (get_or cs k 0) (get_or ns k 0) (get_or ds k 0))
      ∙ ap kept (sym (entry_of sized k))
      ∙ sym (get_or-map kept xs k free_entry)
      ∙ ap (get_or (map kept xs) k) (cond_same (p free_entry) free_entry))

module _ (t : Passing) {cs ns ds cs' : List ℕ} {r : Bool} (s : Ended t ds 0 expiration_entries cs cs' r) (sized : SizedEntries cs ns ds) where
  sized' : SizedEntries cs' ns ds
  sized' = sized_after s.changed sized

  -- the entries after what is over is ended
  ended_entries : entries_of cs' ns ds ≡ map (ended_entry t) (entries_of cs ns ds)
  ended_entries = freed_entries s.changed sized (λ (e : ExpirationEntry). is_ending t (due_of e)) (λ k clock. refl)

  -- and whether any was
  ended_any : r ≡ any (λ (e : ExpirationEntry). is_ending t (due_of e)) (entries_of cs ns ds)
  ended_any = asked_entries sized _ (λ k. refl) s.asked

  -- of what a leave and an advance make of other entries
  module _ {tasks : List TaskEntry} {cs₀ ds₀ hs : List ℕ} (late : entries_of cs ns ds ≡ late_in t tasks (entries_of cs₀ ns ds₀)) (h : length hs ≡ block_entries) where
    -- where any was, blocks are released
    pub ends_some : {hs' : List ℕ} {flags : List Bool} → r ≡ true → NamedFlags cs' ns expiration_entries flags → Changed 0 (kept_by_flag flags) 0 block_entries hs hs'
        → Ends t tasks ns ds₀ hs cs₀ hs' cs' ds
    ends_some e f z =
        record {
          handles_size = z.size ∙ h;
          clocks_size = sized'.of_clocks;
          dues_size = sized'.of_dues;
          entries = ended_entries ∙ ap (map (ended_entry t)) late;
          blocks = λ ls l. rw (← late, ← ended_any, e) (released ls f z sized' h l);
        }

    -- and else nothing changes
    pub ends_none : r ≡ false → Ends t tasks ns ds₀ hs cs₀ hs cs' ds
    ends_none e =
        record {
          handles_size = h;
          clocks_size = sized'.of_clocks;
          dues_size = sized'.of_dues;
          entries = ended_entries ∙ ap (map (ended_entry t)) late;
          blocks = λ ls l. rw (← late, ← ended_any, e);
        }
