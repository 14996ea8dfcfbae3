-- A fresh record is well-formed and reads as the fresh ledger.
use Rattle.std.proofs.Common.{◌≡◌, ℕ, Bool, true, ◌&&◌, leb, List, replicate, refl, ◌∙◌, zero-le, le-leb}
use mathlib.Core.Bool.{and-true}
use mathlib.Core.List.Permᴰ
use Rattle.lists.specs.Sums.{sum_below}
use Rattle.ledger.specs.Limits.{counter_range, task_count, is_allowed}
use Rattle.ledger.specs.Tasks.{fresh_clocks, all_ticked}
use Rattle.ledger.specs.Objects.{fresh_memory, no_share}
use Rattle.ledger.specs.Ledger.{fresh}
use Rattle.ledger.specs.Compared.{view_of}
use Rattle.ledger.specs.declared.Limits.{Limits}
use Rattle.record.specs.Tables.{block_entries, blocks_of, entries_of, tables_by, tables_of}
use Rattle.record.specs.Codes.{due_by, absent_entry}
use Rattle.record.specs.Reading.{shown_due, object_in, record_view, Reads, fresh_pool}
use Rattle.record.specs.Shares.{is_taken, made_in, all_unmet_in, is_shared_in, is_shared}
use Rattle.record.specs.WellFormed.{is_fit_task, is_fit_due, is_fit_block, is_bounded, is_consistent, is_well_formed}

pub fresh_reads : (limits : Limits) (small large : List ℕ) → Reads (tables_of (fresh_pool limits)) small large (fresh limits)
unfolding fresh_pool tables_of tables_by blocks_of entries_of record_view object_in shown_due due_by view_of fresh fresh_memory fresh_clocks counter_range
fresh_reads limits small large =
    record {
      alike = record { limits = refl; tasks = refl; global = refl; given = refl; shares = refl; objects = Permᴰ.nil; expirations = Permᴰ.nil };
      ascending = tt;
      pins = λ handle. refl;
    }

-- nobody has made anything, and nothing is held back
both : (a b : Bool) → a ≡ true → b ≡ true → (a && true) && (b && true) ≡ true
both a b h k = rw (h, k)

fresh_shared : (limits : Limits)
    → is_shared limits (replicate task_count absent_entry) (replicate task_count no_share) (blocks_of (replicate block_entries 0) (replicate block_entries 0)) ≡ true
unfolding blocks_of is_shared is_shared_in is_taken made_in all_unmet_in sum_below
fresh_shared limits = both (leb 0 limits.small) (leb 0 limits.large) (le-leb 0 limits.small zero-le) (le-leb 0 limits.large zero-le)

-- just where a site may choose its figures
pub fresh_fit : (limits : Limits) → is_well_formed (tables_of (fresh_pool limits)) ≡ is_allowed limits
unfolding fresh_pool tables_of tables_by blocks_of entries_of is_well_formed is_consistent is_fit_task all_ticked is_fit_due due_by is_fit_block is_bounded
fresh_fit limits = rw (fresh_shared limits, and-true (is_allowed limits), and-true (is_allowed limits))

pub fresh_well_formed : (limits : Limits) → is_allowed limits ≡ true → is_well_formed (tables_of (fresh_pool limits)) ≡ true
fresh_well_formed limits may = fresh_fit limits ∙ may
