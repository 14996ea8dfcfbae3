-- The code goes by its constants: what it tests of a block is what the largest figures say.
use Rattle.std.proofs.Common.{◌≡◌, ℕ, ◌<◌, ◌≤◌, true, false, le-ltb, lt-ltb}
use Rattle.ledger.specs.Limits.{capacity}
use Rattle.record.specs.Reading.{is_small_block}

pub small_block : {block : ℕ} → block < capacity.small → is_small_block block ≡ true
small_block h = lt-ltb _ _ h

pub large_block : {block : ℕ} → capacity.small ≤ block → is_small_block block ≡ false
large_block h = le-ltb _ _ h
