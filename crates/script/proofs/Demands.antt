-- The whole output of a script, and what it leaves: its parts are one run of all its lines, and that follows the ledger.
use Prim.Native.Nat.{ℕ}
use mathlib.Core.List.{List, [], ◌++◌}
use mathlib.Core.Path.{◌≡◌, refl, sym, ap, ◌∙◌}
use borrow.Author.Tests.{eq-eqb}
use lib.ListN.{drop}
use Rattle.ledger.specs.Objects.{Reply}
use Rattle.ledger.specs.Ledger.{fresh}
use Rattle.record.specs.Reading.{fresh_pool}
use Rattle.record.specs.declared.Pool.{Pool}
use Rattle.record.proofs.FreshReads.{fresh_reads, fresh_well_formed}
use Rattle.text.specs.Lines.{lines_of}
use Rattle.text.proofs.Scripts.{lines_end}
use Rattle.script.specs.Output.{answer_lines, LinesRun, done, InParts, ended, part, WholeOutput}
use Rattle.script.proofs.Lines.{lines_keep, lines_follow, runs_on, answer_lines_on}

whole_run : {script : List ℕ} {p p' : Pool} {small small' large large' : List ℕ} {at : ℕ} {whole : List ℕ} → InParts script p small large at whole p' small' large'
    → (ys : List Reply) × LinesRun p small large (lines_of (drop at script)) ys p' small' large' × (whole ≡ answer_lines ys)
unfolding answer_lines
whole_run {script} {at = at} (ended e) = rw (lines_end script at e) ([], done, refl)
whole_run (part c rest) =
    let (ys, run, so) = whole_run rest in
    (c.replies ++ ys, rw c.between (runs_on c.run run), ap (λ (bs : List ℕ). answer_lines c.replies ++ bs) so ∙ sym (answer_lines_on c.replies ys))

pub whole_output : WholeOutput
unfolding fresh_pool
whole_output limits may small large s l script whole p' small' large' w =
    let (ys, run, so) = whole_run w in
    let fit = fresh_well_formed limits may in
    let (same, left) = lines_follow run fit (rw (eq-eqb _ _ s, eq-eqb _ _ l)) (fresh limits) (fresh_reads limits small large) in
    (so ∙ ap answer_lines same, left, (lines_keep run).fit fit)
