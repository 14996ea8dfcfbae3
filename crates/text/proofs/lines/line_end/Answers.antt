-- The place that the search finds, or the end.
use Prim.Native.Nat.{◌-◌}
use native.Mathlib.Omega.{arith}
use mathlib.Core.Path.{◌≡◌, ◌∙◌}
use lib.ListN.{length, drop, length-drop}
use lib.Seq.{take_all}
use Rattle.std.proofs.Common.{rules}
use Rattle.std.specs.Prelude.{position}
use Rattle.std.proofs.lemmas.Iterator.{YieldsList-from_slice}
use Rattle.std.proofs.lemmas.Iterator.Search.{position_from_yields_List}
use Rattle.text.specs.Lines.{is_lf}
use Rattle.text.proofs.Scripts.{found_line}
use Rattle.text.proofs.lines.line_end.Goals as goal

pub returns : goal.returns
returns c =
    let script = c.args.script.now in
    let at = c.args.at in
    let rest = drop at script in
    let whole : c.iter.result.rest.now ≡ rest = c.iter.ensures.rest ∙ take_all (length script - at) rest (simp length-drop (omega arith)) in
    let found : c.position-length.result ≡ position is_lf rest =
    position_from_yields_List is_lf _ _ c.position-length.result c.position-length.ensures.ran (YieldsList-from_slice rest whole) (λ x b q k. search rules) in
    rw (c.unwrap_or.ensures, found, take_all (length script - at) rest (simp length-drop (omega arith))) (found_line script at)
