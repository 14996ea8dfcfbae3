-- Both halves.
use Rattle.std.proofs.Common.{◌≡◌, length, sym, rules}
use Rattle.record.specs.Tables.{expiration_entries}
use Rattle.expirations.proofs.Counting.{halves}
use Rattle.expirations.proofs.standing.Goals as goal

pub returns : goal.returns
returns c = rw (c.standing_in.ensures, c.standing_in-2.ensures) (let clocks = c.args.clocks.now in let size : length clocks ≡ expiration_entries = search rules in sym (halves clocks size))
