-- One digit after the other.
use Prim.Native.Nat.{◌%◌}
use mathlib.Core.Bool.{◌&&◌}
use mathlib.Core.Path.{◌∙◌}
use lib.Dec.{eqb}
use lib.ListN.{length}
use Rattle.std.proofs.Common.{rules}
use Rattle.std.proofs.lemmas.Iterator.{YieldsList-from_slice}
use Rattle.std.proofs.lemmas.Iterator.Consumers.{fold_from_yields_List}
use Rattle.text.specs.Hex.{is_digit}
use Rattle.text.proofs.Digits.{tested_digits}
use Rattle.text.proofs.hex.is_hex.Goals as goal

pub returns : goal.returns
returns c =
    let line = c.args.line.now in
    fold_from_yields_List _ (λ ok d. ok && is_digit d) _ c.fold.result c.fold.ensures.ran (YieldsList-from_slice line cc) (λ ok d b q k. search rules)
    ∙ tested_digits (eqb (length line % 2) 0) line
