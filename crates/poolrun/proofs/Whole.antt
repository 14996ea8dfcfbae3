-- From the first bytes of the input to all of it: whether they are too many is told by one byte more than a script may have.
use Rattle.std.proofs.Common.{◌≡◌, ◌≤◌, ◌<◌, ℕ, List, length, take, min, arith, sym, ◌∙◌, IfSome, Some, None, OnOk, Ok, Err, Result, nat_le, true, false}
use Rattle.std.specs.declared.option.Option.{Option}
use Rattle.std.proofs.lemmas.Bool.{le-leb, lt-leb}
use Rattle.std.proofs.lemmas.List.{length-take, take_all}
use Rattle.std.specs.Io.KnownBytes.{Appends}
use Rattle.ledger.specs.Limits.{standard}
use Rattle.script.specs.Output.{output_of}
use Rattle.poolrun.specs.Program.{too_long, written_for}

pub long_output : {E : Type 0} (r : Result (Unit {0}) E) (known old new : Option (List ℕ)) (items : List ℕ)
    → IfSome known (λ text. items ≡ take 65537 text) → 65536 < length items → OnOk r (Appends old new too_long)
    → OnOk r (IfSome known (λ text. Appends old new (written_for text)))
long_output (Err e) known old new items first long w = tt
long_output (Ok v) None old new items first long w = tt
long_output (Ok v) (Some text) old new items first long w =
    let most : length items ≡ min 65537 (length text) = rw first (length-take 65537 text) in
    let longer : nat_le (length text) 65536 ≡ false = lt-leb (length text) 65536 (omega (arith, most, long)) in
    rw longer w

pub short_output : {E : Type 0} (r : Result (Unit {0}) E) (known old new : Option (List ℕ)) (script : List ℕ)
    → IfSome known (λ text. script ≡ take 65537 text) → length script ≤ 65536 → OnOk r (Appends old new (output_of standard script))
    → OnOk r (IfSome known (λ text. Appends old new (written_for text)))
short_output (Err e) known old new script first short w = tt
short_output (Ok v) None old new script first short w = tt
short_output (Ok v) (Some text) old new script first short w =
    let most : length script ≡ min 65537 (length text) = rw first (length-take 65537 text) in
    let shorter : length text ≤ 65536 = omega (arith, most, short) in
    let all : script ≡ text = first ∙ take_all 65537 text (omega (arith, shorter)) in
    let fits : nat_le (length text) 65536 ≡ true = le-leb (length text) 65536 shorter in
    rw (fits, sym all) w
