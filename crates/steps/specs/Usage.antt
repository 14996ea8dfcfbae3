-- What report counts of a record.
use Rattle.std.specs.Prelude.{take, drop}
use Rattle.lists.specs.Tests.{count}
use Rattle.ledger.specs.Limits.{capacity}
use Rattle.ledger.specs.declared.Usage.{Usage}
use Rattle.record.specs.WellFormed.{is_used}
use Rattle.record.specs.Tables.{Tables}
use Rattle.steps.specs.Objects.{standing_in}

-- blocks in use of either store, entries in use, handles given
unfoldable pub usage_of : Tables → Usage
usage_of p =
    record {
      small = count is_used (take capacity.small p.blocks);
      large = count is_used (drop capacity.small p.blocks);
      expirations = standing_in p.expirations;
      given = p.given;
    }
