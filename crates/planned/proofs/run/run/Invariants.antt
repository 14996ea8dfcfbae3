-- The channels so far have joined, and then a step in each turn.
use Rattle.std.proofs.Common.{◌≡◌, take, map}
use Rattle.ledger.specs.Limits.{standard}
use Rattle.ledger.specs.Ledger.{fresh, after_all}
use Rattle.ledger.specs.Plans.{joins, ready, run}
use Rattle.planned.specs.Planned.{ReadsAs}
use Rattle.planned.proofs.run.run.Given as goal

abbrev pub invariant-loop-task : goal.invariant-loop-task
invariant-loop-task l = record {
  joined : ReadsAs l.site (after_all (fresh standard) (joins 0 (take l.task l.plan)));
  tracks : l.tracks.items ≡ map ready (take l.task l.plan);
}

abbrev pub invariant-loop-step : goal.invariant-loop-step
invariant-loop-step l = record {
  reads : ReadsAs l.site (run standard l.plan l.step).ledger;
  tracks : l.tracks.items ≡ (run standard l.plan l.step).tracks;
}
