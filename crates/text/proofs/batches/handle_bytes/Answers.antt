-- The loop stores the handles' bytes one after the other.
use mathlib.Core.Path.{refl}
use native.Mathlib.Omega.{arith}
use borrow.Author.Rules.{rules}
use lib.ListN.{length-take}
use Rattle.text.proofs.HandleBytes.{stored_start, stored_room, stored_turn, stored_end, enough}
use Rattle.text.proofs.batches.handle_bytes.Goals as goal

pub loop-handle-init : goal.loop-handle-init
loop-handle-init c = stored_start _ _ refl (simp length-take (omega (arith, c.min.ensures)))

pub store_handle-count-requires : goal.store_handle-count-requires
store_handle-count-requires c = stored_room c.loop-handle.invariant (search rules)

pub loop-handle-preserved : goal.loop-handle-preserved
loop-handle-preserved c = stored_turn c.loop-handle.invariant (search rules) c.store_handle-count.ensures

pub returns : goal.returns
returns c = stored_end c.loop-handle.invariant c.args.handles.now (enough _ c.min.ensures) (search rules)
