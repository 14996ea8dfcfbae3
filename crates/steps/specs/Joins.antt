-- What a join changes of a record (order 9 of document 02), as a function of its entries.
use Rattle.std.specs.Prelude.{ℕ, set}
use Rattle.ledger.specs.declared.Share.{Share}
use Rattle.record.specs.Tables.{Tables}
use Rattle.record.specs.declared.TaskEntry.{TaskEntry}

-- T9
abbrev pub joined_entry : TaskEntry
joined_entry = record { state = 1; ticked = 0; clock = record { 0 = 0 } }

-- T9, Q1
unfoldable pub joined_pool : ℕ → Share → Tables → Tables
joined_pool task share p =
    record {
      limits = p.limits;
      tasks = set p.tasks task joined_entry;
      global = p.global;
      given = p.given;
      shares = set p.shares task share;
      blocks = p.blocks;
      expirations = p.expirations;
    }
