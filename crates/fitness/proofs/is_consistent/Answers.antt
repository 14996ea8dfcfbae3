-- The parts in their order: each is refused at its own return.
use Rattle.record.specs.declared.ExpirationTable.{ExpirationTable}
use Rattle.record.specs.declared.BlockTable.{BlockTable}
use Rattle.std.proofs.Common.{◌≡◌, List, Bool, true, false, ◌&&◌, map, sym, ◌∙◌}
use Rattle.std.specs.List.{fold, zip}
use Rattle.lists.specs.Tests.{all}
use Rattle.lists.specs.Tables.{all_from}
use Rattle.ledger.specs.Tasks.{all_ticked}
use Rattle.record.specs.Codes.{task_of}
use Rattle.record.specs.Tables.{lent, Sized, block_list, expiration_list, EntriesSized}
use Rattle.record.specs.WellFormed.{is_fit_task, is_distinct, is_pinned_once, is_consistent}
use Rattle.record.specs.declared.Head.{Head}
use Rattle.fitness.specs.Checks.{is_coded_by, is_fit_block_in, AllCoded, AllTimely, Flags}
use Rattle.fitness.proofs.Alone.{coded_by, coded_times, names_by}
use Rattle.fitness.proofs.Whole.{unfit_tasks, all_have_ticked, not_coded, not_timely, by_blocks}
use Rattle.fitness.proofs.is_consistent.Goals as goal

-- past all tests of expirations, by the flags of the blocks that they name
by_flags : {h : Head} {blocks : BlockTable} {expirations : ExpirationTable} → Sized blocks expirations → all is_fit_task h.tasks ≡ true
    → all_ticked (map task_of h.tasks) ≡ false → {codes timely : Bool} → AllCoded expirations.clocks expirations.named codes → codes ≡ true → AllTimely h expirations.clocks expirations.dues timely → timely ≡ true
    → {flags : List Bool} → Flags expirations.clocks expirations.named flags
    → is_consistent (lent h blocks expirations)
    ≡ (all_from 0 (is_fit_block_in h.given flags) (block_list blocks) && is_distinct blocks.handles && is_pinned_once (expiration_list expirations))
by_flags {h} {expirations = expirations} z f u c ce t te flags =
    let coded = sym (c.so expirations.dues z.entries.of_dues) ∙ ce in
    by_blocks h z f u coded (sym (t.so expirations.named z.entries.of_named) ∙ te) (names_by z.entries coded flags)

-- what the test of the codes says
coded : {expirations : ExpirationTable} {r : Bool} → EntriesSized expirations
    → r ≡ fold (λ fit codes. fit && is_coded_by codes.0 codes.1) true (zip expirations.clocks expirations.named) → AllCoded expirations.clocks expirations.named r
coded {expirations} z e = coded_by expirations.clocks expirations.named _ z.of_clocks z.of_named e

pub returns-then-not-all_fit_tasks : goal.returns-then-not-all_fit_tasks
returns-then-not-all_fit_tasks c = unfit_tasks c.args.h c.requires.0 (sym c.all_fit_tasks.ensures ∙ c.if-not-all_fit_tasks.true)

pub returns-then-all_ticked : goal.returns-then-all_ticked
returns-then-all_ticked c =
    all_have_ticked c.args.h c.requires.0 (sym c.all_fit_tasks.ensures ∙ c.if-not-all_fit_tasks.false) (sym c.all_ticked.ensures ∙ c.if-all_ticked.true)

pub returns-then-not-all_coded : goal.returns-then-not-all_coded
returns-then-not-all_coded c =
    not_coded c.args.h c.requires.0 (sym c.all_fit_tasks.ensures ∙ c.if-not-all_fit_tasks.false) (sym c.all_ticked.ensures ∙ c.if-all_ticked.false)
    (sym ((coded c.requires.0.entries c.all_coded.ensures).so c.args.expirations.now.dues c.requires.0.entries.of_dues) ∙ c.if-not-all_coded.true)

pub all_timely-requires : goal.all_timely-requires
all_timely-requires c = (
  coded_times c.requires.0.entries (sym ((coded c.requires.0.entries c.all_coded.ensures).so c.args.expirations.now.dues c.requires.0.entries.of_dues) ∙ c.if-not-all_coded.false),
  c.requires.1,
  sym c.all_fit_tasks.ensures ∙ c.if-not-all_fit_tasks.false,
)

pub returns-then-not-all_timely : goal.returns-then-not-all_timely
returns-then-not-all_timely c =
    not_timely c.args.h c.requires.0 (sym c.all_fit_tasks.ensures ∙ c.if-not-all_fit_tasks.false) (sym c.all_ticked.ensures ∙ c.if-all_ticked.false)
    (sym ((coded c.requires.0.entries c.all_coded.ensures).so c.args.expirations.now.dues c.requires.0.entries.of_dues) ∙ c.if-not-all_coded.false)
    (sym (c.all_timely.ensures.so c.args.expirations.now.named c.requires.0.entries.of_named) ∙ c.if-not-all_timely.true)

pub returns-then-not-check_blocks : goal.returns-then-not-check_blocks
returns-then-not-check_blocks c =
    sym
    (by_flags c.requires.0 (sym c.all_fit_tasks.ensures ∙ c.if-not-all_fit_tasks.false) (sym c.all_ticked.ensures ∙ c.if-all_ticked.false)
    (coded c.requires.0.entries c.all_coded.ensures) c.if-not-all_coded.false c.all_timely.ensures c.if-not-all_timely.false c.flags_of-flags.ensures
    ∙ rw (sym c.check_blocks.ensures ∙ c.if-not-check_blocks.true))

-- and last by handles and pins
pub returns : goal.returns
returns c =
    rw (c.distinct.ensures, c.pinned_once.ensures.so c.args.expirations.now.dues c.requires.0.entries.of_dues)
    (sym
    (by_flags c.requires.0 (sym c.all_fit_tasks.ensures ∙ c.if-not-all_fit_tasks.false) (sym c.all_ticked.ensures ∙ c.if-all_ticked.false)
    (coded c.requires.0.entries c.all_coded.ensures) c.if-not-all_coded.false c.all_timely.ensures c.if-not-all_timely.false c.flags_of-flags.ensures
    ∙ rw (sym c.check_blocks.ensures ∙ c.if-not-check_blocks.false)))
