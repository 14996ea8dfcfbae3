-- From the first bytes of the input to all of it.
use Rattle.std.proofs.Common.{◌≡◌, ℕ, List, take, ap, ◌∙◌, subst, IfSome, Some, None, OnOk, Ok, Err, Result}
use Rattle.std.specs.declared.option.Option.{Option}
use Rattle.std.specs.Io.KnownBytes.{Appends}
use Rattle.planned.specs.Output.{output_of}
use Rattle.plan.specs.Program.{written_for}

pub output_written : {E : Type 0} (r : Result (Unit {0}) E) (known old new : Option (List ℕ)) (text bytes : List ℕ)
    → IfSome known (λ input. text ≡ take 433 input) → bytes ≡ output_of text → OnOk r (Appends old new bytes)
    → OnOk r (IfSome known (λ input. Appends old new (written_for input)))
output_written (Err e) known old new text bytes first shown w = tt
output_written (Ok v) None old new text bytes first shown w = tt
output_written (Ok v) (Some input) old new text bytes first shown w = subst (Appends old new) (shown ∙ ap output_of first) w
