-- What has its bytes, as far as the task is shown it.
use Prim.Native.Nat.{ℕ, ◌<◌}
use mathlib.Core.List.{List, []}
use mathlib.Core.Path.{◌≡◌, sym, ◌∙◌}
use borrow.Author.Rules.{rules}
use lib.ListN.{get_or}
use Rattle.std.specs.Prelude.{Ok}
use Rattle.ledger.specs.Limits.{task_count}
use Rattle.ledger.specs.Rules.{tests_of}
use Rattle.ledger.specs.declared.Call.TheVariants.{Read}
use Rattle.record.specs.Codes.{free_block}
use Rattle.record.specs.Tables.{Tables, tables_by, lent, block_entries}
use Rattle.steps.specs.Facts.{verdict_with}
use Rattle.steps.proofs.Chosen.{here_listed, read_intact}
use Rattle.objects.specs.Outcomes.{bytes_in}
use Rattle.objects.specs.declared.Part.{Part}
use Rattle.objects.proofs.Outcomes.{bytes_accepted, entry_at}
use Rattle.objects.proofs.finding.find_for_read.Goals as goal

-- the task is one of the sixteen, the block one of the blocks', and the length its object's
known : (task handle : ℕ) (small large : List ℕ) (p : Tables) {part : Part}
    → bytes_in small large (tests_of (Read task handle) []) handle p ≡ Ok part
    → (task < task_count) × (part.block < block_entries) × ((get_or p.blocks part.block free_block).length ≡ part.length)
known task handle small large p e =
    let (v, place, size, sum) = bytes_accepted handle p (verdict_with small large (tests_of (Read task handle) []) p) e in
    let k = read_intact task handle small large p v in
    (k.known, rw (← place) (here_listed handle p.blocks k.here), rw (← place) size)

pub bounds-tasks-task : goal.bounds-tasks-task
unfolding tests_of
bounds-tasks-task c =
    let a = c.args in
    let p = lent a.h a.blocks.now a.expirations.now in
    let h = known a.task a.handle a.small.now a.large.now p (sym c.find_bytes.ensures ∙ c.in_ok-part.was) in
    search rules

pub offset_bounds-blocks-part : goal.offset_bounds-blocks-part
unfolding tests_of
offset_bounds-blocks-part c =
    let a = c.args in
    let p = lent a.h a.blocks.now a.expirations.now in
    let h = known a.task a.handle a.small.now a.large.now p (sym c.find_bytes.ensures ∙ c.in_ok-part.was) in
    search rules

pub bounds-blocks-part : goal.bounds-blocks-part
unfolding tests_of
bounds-blocks-part c =
    let a = c.args in
    let p = lent a.h a.blocks.now a.expirations.now in
    let h = known a.task a.handle a.small.now a.large.now p (sym c.find_bytes.ensures ∙ c.in_ok-part.was) in
    search rules

pub returns-in_err-part : goal.returns-in_err-part
unfolding tests_of
returns-in_err-part c = rw (← c.find_bytes.ensures, c.in_err-part.was) (search rules)

pub returns-then-is_viewing : goal.returns-then-is_viewing
unfolding tables_by tests_of
returns-then-is_viewing c =
    rw (← c.find_bytes.ensures, c.in_ok-part.was, ← c.is_viewing.ensures, c.if-is_viewing.true, entry_at c.args.h c.requires.0, c.prefix_in.ensures)

pub returns-else-is_viewing : goal.returns-else-is_viewing
unfolding tables_by tests_of
returns-else-is_viewing c =
    let a = c.args in
    let p = lent a.h a.blocks.now a.expirations.now in
    let h = known a.task a.handle a.small.now a.large.now p (sym c.find_bytes.ensures ∙ c.in_ok-part.was) in
    rw (← c.find_bytes.ensures, c.in_ok-part.was, ← c.is_viewing.ensures, c.if-is_viewing.false, h.2)
