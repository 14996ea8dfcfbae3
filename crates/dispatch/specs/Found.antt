-- What a read gives back, and the record by value that what any call gives back stands for.
use Rattle.record.specs.declared.ExpirationTable.{ExpirationTable}
use Rattle.record.specs.declared.BlockTable.{BlockTable}
use Rattle.ledger.specs.declared.Refusal.{Refusal}
use Rattle.objects.specs.declared.Part.{Part}
use Rattle.std.specs.Prelude.{Result, Ok, Err}
use Rattle.ledger.specs.declared.Answer.TheVariants.{Bytes}
use Rattle.calls.specs.Served.{Called}
use Rattle.record.specs.Tables.{pooled}
use Rattle.record.specs.declared.Head.{Head}
use Rattle.calls.specs.Engine.{refused_by}
use Rattle.calls.specs.declared.Step.{Step}

-- what a read gives back
abbrev pub where_found : Result Part Refusal → Head → Step
where_found (Ok part) h = record { head = h; answer = Bytes; block = part.block; length = part.length }
where_found (Err why) h = refused_by why h

-- what a caller by value is given, with the tables that were left
abbrev pub given_back : Step → BlockTable → ExpirationTable → Called
given_back r blocks expirations =
    record { answer = r.answer; pool = pooled r.head blocks expirations; block = r.block; length = r.length }
