-- By the size, then the kind.
use mathlib.Core.Path.{◌≡◌, refl}
use borrow.Author.Rules.{rules}
use Rattle.std.specs.Prelude.{Ok, Err}
use Rattle.ledger.specs.Numbers.{kind_of}
use Rattle.frames.specs.Frames.{make}
use Rattle.frames.proofs.Frames.{other_size, wrong_kind, own, own_size}
use Rattle.frames.proofs.requests.make.Goals as goal

pub returns-in_err-sized : goal.returns-in_err-sized
returns-in_err-sized c = other_size make c.args.line.now refl (search rules) (search rules)

pub returns-in_err-kind : goal.returns-in_err-kind
returns-in_err-kind c = let line = c.args.line.now in
    let wrong : kind_of c.byte_at.result ≡ Err c.in_err-kind.field-0.0 = search rules in
    wrong_kind make line (own make line refl (search rules)) c.byte_at.result wrong (search rules) (rw (← c.byte_at.ensures, wrong))

pub returns : goal.returns
returns c =
    let known : kind_of c.byte_at.result ≡ Ok c.in_ok-kind.kind = search rules in
    own_size make c.args.line.now refl (search rules) (rw (← c.byte_at.ensures, known, c.byte_at-task.ensures, c.byte_at-extension.ensures, c.short_at-length.ensures, c.short_at-prefix.ensures))
