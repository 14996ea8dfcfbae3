-- A new sum in the entry of a block: handles and lengths are as they were, and so is all that goes by them.
use Prim.Native.Nat.{ℕ, ◌-◌}
use mathlib.Core.Bool.{Bool, true, false, ◌&&◌, and-eq-true_iff}
use lib.Dec.{leb}
use mathlib.Core.List.{List, map}
use mathlib.Core.Path.{◌≡◌, refl, sym, ap, fun_ext, ◌∙◌}
use lib.ListN.{get_or}
use Rattle.lists.specs.Tests.{all, count}
use Rattle.lists.specs.Tables.{read_by, all_from}
use Rattle.lists.proofs.All.{all_every}
use Rattle.lists.proofs.Counts.{count_map}
use Rattle.lists.proofs.Sums.{sum_same}
use Rattle.ledger.specs.Limits.{task_count}
use Rattle.ledger.specs.Shares.{quota_in, blocks_in}
use Rattle.lists.proofs.Replacing.{kept_at, kept_map}
use Rattle.lists.proofs.Tables.{read_by_same, all_from_at, all_from_set}
use Rattle.record.specs.Codes.{free_block}
use Rattle.record.specs.Shares.{is_taken, is_made_by, made_in, all_unmet_in, spoken_in, is_fit_share, is_known, is_shared_in, is_shared}
use Rattle.ledger.specs.Objects.{no_share}
use Rattle.ledger.specs.declared.Share.{Share}
use Rattle.lists.proofs.Tests.{passes_at, passes_set}
use Rattle.record.specs.Reading.{shown_entry}
use Rattle.record.specs.WellFormed.{is_fit_block, is_fit_entry, is_block_at, handle_of}
use Rattle.record.specs.Tables.{BlockEntry, ExpirationEntry, Tables}
use Rattle.record.proofs.Facts.{Fit, Shared}
use Rattle.record.proofs.Distinct.{handle_at}
use Rattle.steps.specs.Objects.{summed_block, with_block_sum}

module _ (place sum : ℕ) (p : Tables) where
  abbrev new_entry : BlockEntry
  new_entry = summed_block sum (get_or p.blocks place free_block)

  pub summed_handle : (i : ℕ) → handle_at (with_block_sum place sum p).blocks i ≡ handle_at p.blocks i
  summed_handle = kept_at handle_of free_block p.blocks place new_entry refl

  pub summed_length : (i : ℕ) → (get_or (with_block_sum place sum p).blocks i free_block).length ≡ (get_or p.blocks i free_block).length
  summed_length = kept_at (λ (b : BlockEntry). b.length) free_block p.blocks place new_entry refl

  -- the expirations show what they showed, and are as fit as they were: they go by the handles of their blocks
  pub summed_shown : read_by (shown_entry p.tasks p.global (with_block_sum place sum p).blocks) p.expirations
      ≡ read_by (shown_entry p.tasks p.global p.blocks) p.expirations
  summed_shown = read_by_same _ _ p.expirations (all_every _ (λ e. rw (summed_handle e.block)) p.expirations)

  same_fit : (e : ExpirationEntry) → is_fit_entry p.limits p.tasks p.global (with_block_sum place sum p).blocks e ≡ is_fit_entry p.limits p.tasks p.global p.blocks e
  same_fit e = rw (summed_handle e.block)

  pub fit_summed : Fit p → Fit (with_block_sum place sum p)
  unfolding is_fit_block
  fit_summed f =
      record {
        tasks = f.tasks;
        unticked = f.unticked;
        entries = ap (λ (test : ExpirationEntry → _). all test p.expirations) (fun_ext same_fit) ∙ f.entries;
        blocks =
            all_from_set (is_fit_block p.given p.expirations) p.blocks place new_entry
            (all_from_at (is_fit_block p.given p.expirations) free_block (λ i. refl) p.blocks f.blocks place) f.blocks;
        distinct = rw (kept_map handle_of free_block p.blocks place new_entry refl) f.distinct;
        once = f.once;
        allowed = f.allowed;
        listed =
            all_from_set (is_block_at p.limits) p.blocks place new_entry
            (all_from_at (is_block_at p.limits) free_block (λ i. refl) p.blocks f.listed place) f.listed;
        counted = f.counted;
      }

  -- and so are the shares: they go by handles, lengths and makers
  abbrev unsummed : BlockEntry → BlockEntry
  unsummed b = summed_block 0 b

  counts_still : (is : BlockEntry → Bool) → ((b : BlockEntry) → is (unsummed b) ≡ is b) → count is (with_block_sum place sum p).blocks ≡ count is p.blocks
  counts_still is same =
      let by : (bs : List BlockEntry) → count is bs ≡ count is (map unsummed bs) =
      λ bs. sym (count_map is unsummed bs ∙ ap (λ (test : BlockEntry → Bool). count test bs) (fun_ext same)) in
      by (with_block_sum place sum p).blocks ∙ ap (count is) (kept_map unsummed free_block p.blocks place new_entry refl) ∙ sym (by p.blocks)

  store_summed : (store : Bool) → is_shared_in store p.limits p.shares (with_block_sum place sum p).blocks ≡ is_shared_in store p.limits p.shares p.blocks
  unfolding is_shared_in all_unmet_in made_in is_taken
  store_summed store =
      let made : (task : ℕ) → made_in store (with_block_sum place sum p).blocks task ≡ made_in store p.blocks task = λ task. counts_still (is_made_by store task) (λ b. refl) in
      let all : all_unmet_in store p.shares (with_block_sum place sum p).blocks ≡ all_unmet_in store p.shares p.blocks =
      sum_same task_count _ _ (λ task. ap (λ (n : ℕ). (quota_in store (get_or p.shares task no_share)).reserve - n) (made task)) in
      rw (counts_still (is_taken store) (λ b. refl), all)
      (ap (λ (within : ℕ → Share → Bool). leb (spoken_in store p.shares p.blocks) (blocks_in p.limits store) && all_from 0 within p.shares)
      (fun_ext (λ task. fun_ext (λ s. ap (λ (n : ℕ). leb n (quota_in store s).limit) (made task)))))

  pub shared_summed : Shared p → Shared (with_block_sum place sum p)
  unfolding is_shared
  shared_summed shared =
      let (rest, large) = (and-eq-true_iff _ (is_shared_in false p.limits p.shares p.blocks)).0 shared in
      let (rest, small) = (and-eq-true_iff _ (is_shared_in true p.limits p.shares p.blocks)).0 rest in
      let (fits, known) = (and-eq-true_iff (all_from 0 (is_fit_share p.tasks) p.shares) _).0 rest in
      let still = passes_set is_known p.blocks place new_entry known (passes_at is_known p.blocks place free_block known refl) in
      rw (fits, still, store_summed true ∙ small, store_summed false ∙ large)
