-- Each row computes.
use Rattle.std.proofs.Common.{refl}
use Rattle.lists.specs.Sums.{sum_below}
use Rattle.ledger.specs.Limits.{counter_range}
use Rattle.ledger.specs.Tasks.{all_ticked}
use Rattle.record.specs.Codes.{due_by}
use Rattle.record.specs.Shares.{is_taken, made_in, all_unmet_in, is_shared_in}
use Rattle.record.specs.WellFormed.{is_fit_task, is_fit_due, is_fit_block}
use Rattle.record.specs.FitRows.{FitRows}

pub fit_rows : FitRows
unfolding all_ticked is_fit_task is_fit_due is_fit_block due_by counter_range sum_below is_taken made_in all_unmet_in is_shared_in
fit_rows =
    record {
      names_the_block = refl;
      names_no_block = refl;
      unknown_code = refl;
      named_and_given = refl;
      not_named = refl;
      not_given = refl;
      no_bytes = refl;
      small_length = refl;
      past_small = refl;
      below_large = refl;
      large_length = refl;
      past_large = refl;
      handle_once = refl;
      handle_twice = refl;
      due_this_tick = refl;
      due_this_advance = refl;
      absent_set_local = refl;
      absent_set_global = refl;
      departed_set_global = refl;
      absent_fits = refl;
      absent_at_one = refl;
      waiting_ticked = refl;
      pinned_at_none = refl;
      pinned_at_one = refl;
      pinned_each = refl;
      pinned_twice = refl;
      one_tick = refl;
      two_ticks = refl;
      two_advances = refl;
      three_advances = refl;
      first_small = refl;
      second_small = refl;
      first_large = refl;
      second_large = refl;
      first_entry = refl;
      second_entry = refl;
      absent_with_nothing = refl;
      absent_with_a_limit = refl;
      viewer_with_nothing = refl;
      viewer_with_a_limit = refl;
      reserve_at_limit = refl;
      reserve_above_limit = refl;
      made_by_departed = refl;
      made_by_nobody = refl;
      one_reserve = refl;
      met_reserve = refl;
      two_reserves = refl;
      taken_reserve = refl;
      at_limit = refl;
      above_limit = refl;
      prefix_of_all = refl;
      prefix_past_the_end = refl;
      viewer_fits = refl;
      viewer_ticked = refl;
      fifth_state = refl;
      ticked_beside_viewer = refl;
      viewers_alone = refl;
      viewer_set_local = refl;
      viewer_set_global = refl;
    }
