-- By the table where the block that it tells has the handle, else by the search.
use mathlib.Core.Path.{refl}
use borrow.Author.Rules.{rules}
use Rattle.refusals.proofs.Firsts.{first_told}
use Rattle.refusals.proofs.table.locate_by.Goals as goal

pub returns-then-handles-block : goal.returns-then-handles-block
returns-then-handles-block c = first_told _ c.requires (search rules) c.byte_of-at.ensures refl c.if-handles-block.true
