-- The figures first, since the other parts go by them; then all but the shares, by which blocks are known to be placed.
use Rattle.std.proofs.Common.{sym, ◌∙◌}
use Rattle.fitness.proofs.Judged.{not_allowed, not_consistent, judged, shared, not_shared}
use Rattle.fitness.proofs.Whole.{fit_tasks}
use Rattle.fitness.proofs.fitness_of.Goals as goal

pub returns-then-not-is_allowed : goal.returns-then-not-is_allowed
returns-then-not-is_allowed c = not_allowed _ _ _ (sym c.is_allowed.ensures ∙ c.if-not-is_allowed.true)

pub returns-then-not-is_consistent : goal.returns-then-not-is_consistent
returns-then-not-is_consistent c = not_consistent _ _ _ (sym c.is_consistent.ensures ∙ c.if-not-is_consistent.true)

pub sharing_of-sharing-requires : goal.sharing_of-sharing-requires
sharing_of-sharing-requires c = fit_tasks c.args.h c.requires (sym c.is_consistent.ensures ∙ c.if-not-is_consistent.false)

pub returns-then-fit : goal.returns-then-fit
returns-then-fit c = shared _ _ _ (judged c.args.h _ _ (sym c.is_allowed.ensures ∙ c.if-not-is_allowed.false) (sym c.is_consistent.ensures ∙ c.if-not-is_consistent.false)
    (c.is_bounded.ensures.so c.args.blocks.now.extents c.args.expirations.now.named c.args.expirations.now.dues c.requires.blocks.of_extents c.requires.entries.of_named c.requires.entries.of_dues)
    (record { size = c.requires.blocks.of_handles; so = c.used_of-used.ensures }) c.sharing_of-sharing.ensures) c.if-fit.true

pub returns-else-fit : goal.returns-else-fit
returns-else-fit c = not_shared _ _ _ (judged c.args.h _ _ (sym c.is_allowed.ensures ∙ c.if-not-is_allowed.false) (sym c.is_consistent.ensures ∙ c.if-not-is_consistent.false)
    (c.is_bounded.ensures.so c.args.blocks.now.extents c.args.expirations.now.named c.args.expirations.now.dues c.requires.blocks.of_extents c.requires.entries.of_named c.requires.entries.of_dues)
    (record { size = c.requires.blocks.of_handles; so = c.used_of-used.ensures }) c.sharing_of-sharing.ensures) c.if-fit.false
