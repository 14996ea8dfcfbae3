-- By the size, then the kind.
use Prim.Native.Nat.{ℕ, ◌-◌, ◌/◌, ◌%◌, ◌≤◌}
use mathlib.Core.List.{List}
use mathlib.Core.Bool.{true}
use mathlib.Core.Path.{◌≡◌}
use borrow.Author.Rules.{rules}
use borrow.Author.Tests.{eq-eqb, ne_eqb}
use lib.ListN.{length}
use Rattle.std.specs.Prelude.{Ok, Err}
use Rattle.ledger.specs.Numbers.{kind_of}
use Rattle.frames.specs.Frames.{batch, is_size_of}
use Rattle.frames.proofs.Frames.{too_short_lem, wrong_tail, of_size, wrong_size, wrong_kind, right_size}
use Rattle.frames.proofs.requests.batch.Goals as goal
use Rattle.frames.proofs.requests.batch.Goals.{then-size-lt-BATCH_HEAD-via-then-size-lt-BATCH_HEAD, then-size-lt-BATCH_HEAD-via-else-size-lt-BATCH_HEAD+then-size-ne0}

-- the two tests of the size are passed
sized : (line : List ℕ) → 4 ≤ length line / 2 → (length line / 2 - 4) % 4 ≡ 0 → is_size_of batch (length line / 2) ≡ true
sized line low whole = of_size batch (length line / 2) low (eq-eqb ((length line / 2 - 4) % 4) 0 whole)

pub returns-then-size-lt-BATCH_HEAD : goal.returns-then-size-lt-BATCH_HEAD
returns-then-size-lt-BATCH_HEAD c = let line = c.args.line.now in
    wrong_size batch line (elim c.then-size-lt-BATCH_HEAD.branch [
      | then-size-lt-BATCH_HEAD-via-then-size-lt-BATCH_HEAD w ↦ too_short_lem batch _ w.if-size-lt-BATCH_HEAD.true
      | then-size-lt-BATCH_HEAD-via-else-size-lt-BATCH_HEAD+then-size-ne0 w ↦
          wrong_tail batch (length line / 2) (ne_eqb ((length line / 2 - 4) % 4) 0 w.if-size-ne0.true)
    ])

pub returns-in_err-kind : goal.returns-in_err-kind
returns-in_err-kind c =
    let wrong : kind_of c.byte_at.result ≡ Err c.in_err-kind.field-0.0 = search rules in
    wrong_kind batch c.args.line.now (sized _ c.if-size-lt-BATCH_HEAD.false c.if-size-ne0.false) c.byte_at.result wrong (search rules) (rw (← c.byte_at.ensures, wrong))

pub returns : goal.returns
returns c =
    let known : kind_of c.byte_at.result ≡ Ok c.in_ok-kind.kind = search rules in
    right_size batch c.args.line.now (sized _ c.if-size-lt-BATCH_HEAD.false c.if-size-ne0.false)
    (rw (← c.byte_at.ensures, known, c.byte_at-task.ensures, c.byte_at-extension.ensures))
    c.min.ensures
