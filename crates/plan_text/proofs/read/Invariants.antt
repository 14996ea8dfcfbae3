-- What is read of the whole is what is read of the rest.
use Rattle.std.proofs.Common.{◌≡◌, drop}
use Rattle.plan_text.specs.Reading.{read_from, plan_of, channels_of, Sized}
use Rattle.plan_text.proofs.read.Given as goal

abbrev pub invariant-loop-byte : goal.invariant-loop-byte
invariant-loop-byte l = record {
  told : plan_of l.text ≡ read_from l.line (channels_of l.plan) (drop l.byte-index l.text);
  sized : Sized l.plan;
}
