-- Kind by kind, with what the time so many units later is.
use Rattle.expirations.proofs.entry_for.Goals as goal

pub returns-in-Local : goal.returns-in-Local
returns-in-Local c = rw (c.in-Local.is, c.after.ensures)

pub returns-in-Global : goal.returns-in-Global
returns-in-Global c = rw (c.in-Global.is, c.after-in-Global.ensures)
