-- The trials of order 7 hold: the checker computes one test over the table, and what passes it holds.
use mathlib.Core.Bool.{Bool, ◌&&◌}
use mathlib.Core.List.{[], ◌∷◌, map}
use mathlib.Core.Path.{refl}
use lib.Dec.{T, eqb, eqb→eq}
use lib.ListN.{length}
use Rattle.lists.specs.Sums.{total, sum_below}
use Rattle.lists.specs.Blocks.{overwritten}
use Rattle.lists.specs.Tests.{all}
use Rattle.lists.proofs.Tests.{both, same_by, same_by→eq, all→All}
use Rattle.ledger.specs.Limits.{standard, last_handle}
use Rattle.ledger.specs.Tasks.{fresh_clocks, moved, all_ticked, tasks_after, advances, clocks_after, entered}
use Rattle.ledger.specs.Expirations.{by_global, due_after, remaining, put_off, deserted, lasting, released, set_on_each}
use Rattle.ledger.specs.Objects.{fresh_memory, object_at, written, makers_after, shares_after, handles_of}
use Rattle.ledger.specs.Shares.{made, unmet, is_full, is_short, is_at_limit}
use Rattle.ledger.specs.Refusals.{verdict}
use Rattle.ledger.specs.Rules.{memory_after, expirations_after, tests_of}
use Rattle.ledger.specs.Ledger.{fresh, next, after_all}
use Rattle.ledger.specs.Outlives.{move_of, move_in, set_in, followed, is_tick_of, count_of, Setting, is_round, never_waits, Stretch, are_rounds}
use Rattle.ledger.specs.OutlivesRows.{Part, Trial, trials, sorts, all_calls, set_by, ledger_of, TrialHolds, TrialsHold, ClaimsApply}
use Rattle.ledger.specs.Rows.{join, tick, make}
use Rattle.ledger.specs.declared.Kind.TheVariants.{Global}

-- a trial's four equations as a test
passes : Trial → Bool
passes t =
    eqb (length (set_by t)) t.set
    && (same_by eqb (sorts (ledger_of t) (set_by t) t.parts) (map (λ (r : Part). r.sort) t.parts)
    && (eqb (count_of (is_tick_of 0) (ledger_of t) (all_calls t)) t.ticks && eqb (length (followed (ledger_of t) (all_calls t) (set_by t))) t.left))

passing_holds : (t : Trial) → T (passes t) → TrialHolds t
unfolding passes
passing_holds t p =
    let (set, rest) = both (eqb (length (set_by t)) t.set) _ p in
    let (parts, figures) = both (same_by eqb (sorts (ledger_of t) (set_by t) t.parts) (map (λ (r : Part). r.sort) t.parts)) _ rest in
    let (ticks, left) = both (eqb (count_of (is_tick_of 0) (ledger_of t) (all_calls t)) t.ticks) _ figures in
    record { set = eqb→eq _ _ set; parts = same_by→eq eqb eqb→eq _ _ parts; ticks = eqb→eq _ _ ticks; left = eqb→eq _ _ left }

all_pass : T (all passes trials)
unfolding passes trials fresh next after_all tests_of verdict move_of move_in set_in followed count_of is_round never_waits
    fresh_memory object_at written overwritten total memory_after expirations_after handles_of set_on_each due_after remaining put_off deserted lasting released
    fresh_clocks moved all_ticked tasks_after advances clocks_after entered makers_after shares_after sum_below made unmet is_full is_short is_at_limit
    standard last_handle
all_pass = tt

pub trials_hold : TrialsHold
unfolding trials
trials_hold = record { twelve = refl; each = all→All passes passing_holds trials all_pass }

-- task 0 makes an object with a global expiration of extension 1, two tasks being there
setting : Setting
unfolding fresh next after_all tests_of verdict set_in fresh_memory memory_after expirations_after due_after fresh_clocks moved all_ticked tasks_after advances clocks_after entered makers_after shares_after sum_below made unmet is_full is_short is_at_limit standard last_handle lasting
setting =
    record {
      limits = standard;
      earlier = join 0 ∷ join 1 ∷ [];
      call = make 0 Global 1 4;
      setter = 0;
      extension = 1;
      expiration = record { handle = 1; due = by_global 0 3 };
      due = refl;
      front = [];
      back = [];
      among = refl;
    }

pub claims_apply : ClaimsApply
unfolding setting fresh next after_all tests_of verdict move_of move_in set_in followed count_of is_round never_waits are_rounds
    fresh_memory memory_after expirations_after due_after remaining put_off lasting
    fresh_clocks moved all_ticked tasks_after advances clocks_after entered makers_after shares_after sum_below made unmet is_full is_short is_at_limit
    standard last_handle
claims_apply =
    let round : Stretch = record { between = []; round = tick 0 ∷ tick 1 ∷ [] } in
    record {
      ticks = (setting, tick 0 ∷ tick 1 ∷ [], refl, refl);
      rounds = (setting, round ∷ round ∷ round ∷ [], refl, refl);
    }
