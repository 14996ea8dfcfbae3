-- For whom the global time waits, by a record's entries, is what the ledger that it reads as says (T19).
use Rattle.std.proofs.Common.{◌≡◌, ℕ, List, map, ap, ◌∙◌}
use Rattle.lists.proofs.Bits.{bits_map}
use Rattle.ledger.specs.Awaited.{is_awaited, awaited_of, awaited_bits}
use Rattle.ledger.specs.Compared.{wrapped_task, view_of}
use Rattle.ledger.specs.Ledger.{Ledger}
use Rattle.record.specs.Codes.{task_of}
use Rattle.record.specs.Pools.{Reads}
use Rattle.record.specs.Reading.{record_view}
use Rattle.record.specs.Tables.{tables_by, tables_of}
use Rattle.record.specs.declared.Pool.{Pool}

pub awaited_read : (p : Pool) {small large : List ℕ} (L : Ledger) → Reads p small large L → awaited_of (map task_of p.head.tasks) ≡ awaited_bits L
unfolding record_view view_of tables_by tables_of
awaited_read p L r = ap awaited_of r.alike.tasks ∙ bits_map is_awaited wrapped_task L.memory.clocks.tasks
