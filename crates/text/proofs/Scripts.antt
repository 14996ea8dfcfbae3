-- The line finder goes through exactly the lines of a script.
use Prim.Native.Nat.{ℕ, suc, ◌+◌, ◌-◌, ◌≤◌, ◌<◌}
use native.Mathlib.Nat.{sub_self, zero-add, add-zero}
use native.Mathlib.Numerals.{add-one}
use native.Mathlib.Omega.{arith}
use borrow.Author.Tests.{ltb-true, ltb-false}
use mathlib.Core.List.{List, [], ◌∷◌}
use mathlib.Core.Bool.{Bool}
use mathlib.Core.Path.{◌≡◌, ap}
use lib.Dec.{ltb}
use lib.ListN.{length, take, drop, length-drop, drop_of_length-le}
use lib.Seq.{drop-drop}
use Rattle.std.specs.Prelude.{position, unwrap_or}
use Rattle.std.specs.List.{position_from}
use Rattle.std.proofs.lemmas.Iterator.Adapters.{position_from-zero}
use Rattle.lists.specs.Tables.{first_from}
use Rattle.lists.proofs.Cases.{by_test}
use Rattle.lists.proofs.First.{first_counted}
use Rattle.lists.proofs.Searches.{first_least, first_most}
use Rattle.text.specs.Lines.{is_lf, lines_of, line_end, line_after, line_at}
use Rattle.text.specs.declared.lines.Line.{Line}

-- the place that a search finds, or the length, is where the first that passes stands
found_from : (p : ℕ → Bool) (i : ℕ) (xs : List ℕ) → unwrap_or (position_from p i xs) (i + length xs) ≡ first_from i p xs
found_from p i [] = add-zero i
found_from p i (x ∷ xs) =
    let next : i + suc (length xs) ≡ suc i + length xs = omega arith in
    by_test (p x) (λ e. rw e) (λ e. rw (e, next, add-one) (found_from p (suc i) xs))

pub found_line : (script : List ℕ) (at : ℕ) → let rest = drop at script in at + unwrap_or (position is_lf rest) (length rest) ≡ line_end script at
found_line script at =
    let rest = drop at script in
    rw (position_from-zero is_lf rest, first_counted is_lf at rest) (ap (λ (n : ℕ). at + n) (rw zero-add at (found_from is_lf 0 rest)))

-- a line ends in the script
pub end_within : (script : List ℕ) (at : ℕ) → at ≤ length script → (at ≤ line_end script at) × (line_end script at ≤ length script)
end_within script at h =
    (first_least is_lf at (drop at script), omega (arith, first_most is_lf at (drop at script), length-drop at script))

pub line_lies : (script : List ℕ) (at : ℕ) {line : Line} → line ≡ line_at script at → at ≤ length script → (line.start ≤ line.end) × (line.end ≤ length script)
line_lies script at e h = rw e (end_within script at h)

one_on : (i : ℕ) → suc i - i ≡ 1
one_on i = omega arith

-- the first line, and the lines after it
first_line : (i : ℕ) (script : List ℕ) → 0 < length script → lines_of script
    ≡ take (first_from i is_lf script - i) script ∷ lines_of (drop (suc (first_from i is_lf script - i)) script)
first_line i [] h = absurd (omega arith)
first_line i (c ∷ []) h = by_test (is_lf c) (λ e. rw (e, sub_self)) (λ e. rw (e, one_on i))
first_line i (c ∷ d ∷ script) h =
    let end = first_from (suc i) is_lf (d ∷ script) in
    let next : end - i ≡ suc (end - suc i) = omega (arith, first_least is_lf (suc i) (d ∷ script)) in
    by_test (is_lf c) (λ e. rw (e, sub_self)) (λ e. rw (e, next, first_line (suc i) (d ∷ script) (omega arith)))

-- the lines from the place after a line's end on are those from the next line on
after_end : (script : List ℕ) (end : ℕ) → lines_of (drop (end + 1) script) ≡ lines_of (drop (line_after script end) script)
after_end script end =
    by_test (ltb end (length script)) (λ e. rw e)
    (λ e. let past = ltb-false _ _ e in rw (e, drop_of_length-le script {i = end} past, drop_of_length-le script {i = end + 1} (omega (arith, past))))

-- the line at a place, and the lines from the next one on
pub lines_on : (script : List ℕ) (at : ℕ) → at < length script → lines_of (drop at script)
    ≡ take ((line_at script at).end - at) (drop at script) ∷ lines_of (drop (line_at script at).next script)
lines_on script at h =
    let end = line_end script at in
    let next : at + suc (end - at) ≡ end + 1 = omega (arith, end_within script at (omega arith)) in
    rw (← after_end script end, ← next, ← drop-drop) (first_line at (drop at script) (simp length-drop (omega arith)))

-- the next line starts further on, and in the script or at its end
pub next_within : (script : List ℕ) (at : ℕ) → at < length script → (at < (line_at script at).next) × ((line_at script at).next ≤ length script)
next_within script at h =
    let end = line_end script at in
    let within = end_within script at (omega arith) in
    by_test (ltb end (length script)) (λ e. rw e (omega (arith, within), omega (arith, ltb-true end (length script) e)))
    (λ e. rw e (omega (arith, within, ltb-false end (length script) e), omega (arith, within)))

-- none at the end
pub lines_end : (script : List ℕ) (at : ℕ) → length script ≤ at → lines_of (drop at script) ≡ []
lines_end script at h = rw (drop_of_length-le script {i = at} h)
