use Prim.Native.Nat.{◌-◌}
use mathlib.Core.Path.{◌≡◌}
use lib.ListN.{length}
use Rattle.record.specs.Tables.{Sized, pooled}
use Rattle.script.proofs.Running.{Running}
use Rattle.script.proofs.run_on.Given as goal

-- Each line turns the run on: refused with nothing changed, or carried out by the one dispatch.
abbrev pub invariant-loop-out : goal.invariant-loop-out
invariant-loop-out l = record {
  run : Running l.initial.p l.initial.small l.initial.large l.script l.start l.initial.out (pooled l.head l.p.blocks l.p.expirations) l.small l.large l.out l.bytes l.lines.next l.written;
  sized : Sized l.p.blocks l.p.expirations;
  whole : l.lines.script.now ≡ l.script;
}

abbrev pub decreases-loop-out : goal.decreases-loop-out
decreases-loop-out l = length l.script - l.lines.next
