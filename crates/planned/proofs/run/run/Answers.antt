-- What the lemmas on joins and steps say.
use Rattle.std.proofs.Common.{arith, ap, sym, subst, ◌∙◌, length}
use Rattle.std.proofs.Math.ListN.{length-map, length-take}
use Rattle.lists.specs.Tests.{All}
use Rattle.ledger.specs.Plans.{ready, joins}
use Rattle.ledger.specs.Ledger.{after_all}
use Rattle.planned.specs.Bounds.{step_count, Bounded}
use Rattle.planned.proofs.Running.{plan_length, joins_next, ready_next, joined, all_ready, still_bounded, reads_next, tracks_next, refilled}
use Rattle.planned.proofs.run.run.Goals as goal

pub loop-task-init : goal.loop-task-init
unfolding joins after_all
loop-task-init c = record { joined = c.fresh-site.ensures; tracks = c.new-tracks.ensures }

pub overflow_cast-task : goal.overflow_cast-task
overflow_cast-task c = let most = plan_length c.args.plan.now c.requires in omega arith

pub push-requires : goal.push-requires
push-requires c = let most = plan_length c.args.plan.now c.requires in
    let size = ap length c.loop-task.invariant.tracks ∙ length-map _ ready in
    (omega arith, rw size (simp length-take (omega arith)))

pub loop-task-preserved : goal.loop-task-preserved
loop-task-preserved c = record {
  joined = joins_next _ _ _ c.loop-task-test.true _ c.loop-task.invariant.joined c.send.ensures;
  tracks =
      c.push.ensures.items ∙ rw (c.loop-task.invariant.tracks, c.ready.ensures) (ready_next _ _ _ c.loop-task-test.true);
}

pub loop-step-init : goal.loop-step-init
loop-step-init c = record {
  reads = joined _ _ c.loop-task-test.false c.loop-task.site c.loop-task.invariant.joined;
  tracks = c.loop-task.invariant.tracks ∙ all_ready _ _ c.loop-task-test.false;
}

pub take_step-requires-clause-bounded : goal.take_step-requires-clause-bounded
take_step-requires-clause-bounded c =
    subst (All (Bounded step_count)) (sym (c.as_mut_slice.ensures.value ∙ c.loop-step.invariant.tracks))
    (still_bounded _ _ c.requires (omega arith))

pub loop-step-preserved : goal.loop-step-preserved
loop-step-preserved c =
    let same = c.as_mut_slice.ensures.value ∙ c.loop-step.invariant.tracks in
    record {
      reads = reads_next _ _ same c.take_step.ensures c.loop-step.invariant.reads;
      tracks = refilled _ _ (c.take_step.auto.tracks ∙ ap length c.as_mut_slice.ensures.value) ∙ tracks_next _ _ same c.take_step.ensures c.loop-step.invariant.reads;
    }
