-- 15, 14, or the call itself.
use Rattle.tested.proofs.Tested.{unfit_served, bare_ready, wrong_served, stored_ready, lent_holds}
use Rattle.tested.proofs.requests.call.Goals as goal

pub returns-in_default : goal.returns-in_default
returns-in_default c =
    rw c.refused.ensures (unfit_served c.requires c.fitness_of.ensures c.in_default.is)

-- no store is touched
pub call-requires : goal.call-requires
call-requires c = (
  c.requires,
  bare_ready c.requires c.fitness_of.ensures c.in-Some.is c.is_stored.ensures (rw c.if-not-is_stored.true),
  lent_holds c.fitness_of.ensures c.in-Some.is c.args.request,
)

-- one is
pub returns-then-not-are_whole : goal.returns-then-not-are_whole
returns-then-not-are_whole c =
    rw c.refused-then-not-are_whole.ensures
    (wrong_served c.requires c.fitness_of.ensures c.in-Some.is c.is_stored.ensures (rw c.if-not-is_stored.false) c.are_whole.ensures (rw c.if-not-are_whole.true))

pub call-requires-2 : goal.call-requires-2
call-requires-2 c = (
  c.requires,
  stored_ready c.requires c.fitness_of.ensures c.in-Some.is c.is_stored.ensures (rw c.if-not-is_stored.false) c.are_whole.ensures (rw c.if-not-are_whole.false),
  lent_holds c.fitness_of.ensures c.in-Some.is c.args.request,
)
