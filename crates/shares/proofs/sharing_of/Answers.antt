-- By the counts of either store's places.
use Prim.Native.Nat.{ℕ}
use mathlib.Core.Bool.{true, false}
use mathlib.Core.List.{List}
use mathlib.Core.Path.{◌≡◌}
use borrow.Author.Rules.{rules}
use lib.ListN.{length}
use Rattle.record.specs.Tables.{blocks_of}
use Rattle.record.proofs.Types.{head_typed}
use Rattle.handles.specs.Handles.{UsedIn}
use Rattle.shares.specs.Holdings.{HoldsBoth, LengthsFit}
use Rattle.shares.proofs.Held.{told_by_lem, holds, known_so}
use Rattle.shares.proofs.Shared.{shared_so}
use Rattle.shares.proofs.sharing_of.Goals as goal

pub returns : goal.returns
returns c =
    let tallied = c.tally_both-tallies.ensures in
    let h = c.args.h in
    let size : length c.args.extents.now ≡ 96 = search rules in
    let held : (handles : List ℕ) → UsedIn handles c.args.used.now → LengthsFit (blocks_of handles c.args.extents.now)
    → HoldsBoth h.shares (blocks_of handles c.args.extents.now) (record { small = c.holding_by-small.result; large = c.holding_by-large.result })
    = λ handles u placed.
    let told = told_by_lem u size in
    record {
      small = holds told placed true tallied.small c.first-small_made.ensures c.count-small_count.ensures h.shares c.holding_by-small.ensures;
      large = holds told placed false tallied.large c.first-large_made.ensures c.count-large_count.ensures h.shares c.holding_by-large.ensures;
    } in
    record {
      shared = λ handles u placed.
          let told = told_by_lem u size in
          let both = held handles u placed in
          rw (c.all_clear.ensures, c.is_known.ensures, c.is_known-2.ensures, c.is_shared_in.ensures, c.is_shared_in-2.ensures, known_so told placed true tallied.small c.first-small_made.ensures c.count-small_count.ensures, known_so told placed false tallied.large c.first-large_made.ensures c.count-large_count.ensures)
          (shared_so h.limits h.tasks h.shares (blocks_of handles c.args.extents.now) (head_typed h _ c.well_formed.0).shares both.small both.large);
      held = held;
    }
