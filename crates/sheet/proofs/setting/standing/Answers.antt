-- Two counts, each no more than the turns.
use Rattle.std.proofs.Common.{Bool, false, not, ◌&&◌, eqb, get_or, rules}
use Rattle.sheet.proofs.Set.{tally_start, tally_turn, tally_end, tally_fits, flag_at, flags_size}
use Rattle.sheet.proofs.setting.standing.Goals as goal

pub loop-i-init : goal.loop-i-init
loop-i-init c =
    let a = c.args in (
      tally_start _ _ (flags_size (λ (b : Bool). b) a.smalls.now a.counts.now c.requires.0),
      tally_start _ _ (flags_size not a.smalls.now a.counts.now c.requires.0),
    )

pub overflow_add-small : goal.overflow_add-small
overflow_add-small c =
    tally_fits (get_or c.args.smalls.now c.loop-i.i false && not (eqb (get_or c.args.counts.now c.loop-i.i 0) 0)) c.loop-i.invariant.0 (search rules) c.requires.1

pub overflow_add-large : goal.overflow_add-large
overflow_add-large c =
    tally_fits (not (get_or c.args.smalls.now c.loop-i.i false) && not (eqb (get_or c.args.counts.now c.loop-i.i 0) 0)) c.loop-i.invariant.1 (search rules) c.requires.1

pub loop-i-preserved : goal.loop-i-preserved
loop-i-preserved c =
    let (small, large) = c.loop-i.invariant in
    let a = c.args in (
      tally_turn small (search rules) (flag_at (λ (b : Bool). b) a.smalls.now a.counts.now c.loop-i.i c.requires.0 (search rules)),
      tally_turn large (search rules) (flag_at not a.smalls.now a.counts.now c.loop-i.i c.requires.0 (search rules)),
    )

pub returns : goal.returns
returns c = let (small, large) = c.loop-i.invariant in (tally_end small (search rules), tally_end large (search rules))
