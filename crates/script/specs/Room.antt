-- The claim of K (order 11 of document 02) for a script that is run: lines that yield no call are passed over.
use Rattle.std.specs.Prelude.{ℕ, true, List, map, ◌↔◌, ◌≡◌, length}
use Rattle.lists.specs.Tests.{All}
use Rattle.ledger.specs.Objects.{Reply}
use Rattle.ledger.specs.Limits.{is_allowed}
use Rattle.ledger.specs.Room.{as_read, peaks, Fits, HasRoom}
use Rattle.ledger.specs.declared.Limits.{Limits}
use Rattle.record.specs.Reading.{fresh_pool, whole_small, whole_large}
use Rattle.record.specs.declared.Pool.{Pool}
use Rattle.frames.specs.Scripts.{calls_of}
use Rattle.text.specs.Lines.{lines_of}
use Rattle.script.specs.Output.{LinesRun}

-- K8: a script, and one that is written as it is read: with reserves 0 and limits 255 in every join. From a fresh pool no line of the
-- second is answered 9 or 10 exactly when the pool has the room that the first needs.
abbrev pub ScriptHasRoom : Type 0
ScriptHasRoom =
    (limits : Limits) → is_allowed limits ≡ true → (small large : List ℕ) → length small ≡ whole_small limits → length large ≡ whole_large limits
    → (script written : List ℕ) → calls_of written ≡ map as_read (calls_of script)
    → (ys : List Reply) (p' : Pool) (small' large' : List ℕ) → LinesRun (fresh_pool limits) small large (lines_of written) ys p' small' large'
    → All HasRoom ys ↔ Fits limits (peaks limits (calls_of script))
