-- What leave, block and tick tell a host.
use Rattle.std.specs.Prelude.{ℕ}
use mir.Val.{bool_byte}
use Rattle.ledger.specs.declared.Answer.{Answer}
use Rattle.ledger.specs.declared.Answer.TheVariants.{Refused, Done, Advanced, Handle, Bytes, Counted, Lasts}

-- whether time advanced, where an answer tells it; else the number that was lent for it
abbrev pub advance_or : ℕ → Answer → ℕ
advance_or old (Refused why) = old
advance_or old Done = old
advance_or old (Advanced b) = bool_byte b
advance_or old (Handle handle) = old
advance_or old Bytes = old
advance_or old (Counted usage) = old
advance_or old (Lasts life) = old
