-- Row by row.
use Rattle.std.proofs.Common.{◌≡◌, ℕ, ◌≤◌, get_or}
use Rattle.lists.proofs.Loops.{Mapped}
use Rattle.sheet.specs.Passes.{Gives}
use Rattle.sheet.proofs.passes.remake.Given as goal

-- the rows that are left are as they were, and those before are as any function makes them that the closure computes
abbrev pub invariant-loop-i : goal.invariant-loop-i
invariant-loop-i g l = ((k : ℕ) → l.i ≤ k → get_or l.units k 0 ≡ get_or l.initial.units k 0)
    × ((f : ℕ → ℕ → ℕ) → Gives (λ clock left r. g.F.Fn.post l.anew (clock, (left, tt)) r) f
    → Mapped (λ j u. f (get_or l.clocks j 0) u) l.initial.units l.i-end l.i l.units)
