-- A script's answers, written a buffer at a time.
use Rattle.std.proofs.Common.{◌≡◌, ℕ, List, [], ◌++◌, length, take, refl, sym, ◌∙◌, append_assoc, append-nil, subst, arith}
use Rattle.std.proofs.Common.{drop, ◌+◌, ◌≤◌}
use Rattle.std.proofs.lemmas.List.{take-append-le}
use Rattle.record.proofs.FreshReads.{fresh_well_formed}
use Rattle.std.proofs.Math.Seq.{take-length}
use Rattle.lists.specs.Blocks.{overwritten}
use Rattle.ledger.specs.Limits.{standard}
use Rattle.ledger.proofs.Figures.{standard_allowed}
use Rattle.record.specs.Reading.{fresh_pool, whole_small, whole_large}
use Rattle.record.specs.declared.Pool.{Pool}
use Rattle.text.specs.Hex.{Puts}
use Rattle.script.specs.Output.{Runnable, Continues, InParts, ended, part, answer_lines, output_of}
use Rattle.script.specs.declared.Ran.{Ran}
use Rattle.script.proofs.Demands.{whole_output}

-- What is left of a run from here is, after what is written so far, the run from fresh.
pub record GoesOn (script small₀ large₀ so_far : List ℕ) (p : Pool) (small large : List ℕ) (at : ℕ) : Type 0 where
  pub then : (rest : List ℕ) (p' : Pool) (small' large' : List ℕ) → InParts script p small large at rest p' small' large'
      → InParts script (fresh_pool standard) small₀ large₀ 0 (so_far ++ rest) p' small' large'

pub goes_from_fresh : (script small large : List ℕ) (p : Pool) → p ≡ fresh_pool standard → GoesOn script small large [] p small large 0
goes_from_fresh script small large p e = rw e (record { then = λ rest p' small' large' w. w })

pub goes_further : {script small₀ large₀ so_far small large small' large' out out' : List ℕ} {p : Pool} {at : ℕ} {r : Ran}
    → GoesOn script small₀ large₀ so_far p small large at → (c : Continues p small large script at r small' large' out out')
    → GoesOn script small₀ large₀ (so_far ++ answer_lines c.replies) r.pool small' large' r.next
goes_further {script} {small₀} {large₀} {so_far} so c =
    record {
      then = λ rest p'' small'' large'' w.
          subst (λ (bs : List ℕ). InParts script (fresh_pool standard) small₀ large₀ 0 bs p'' small'' large'')
          (sym (append_assoc so_far (answer_lines c.replies) rest)) (so.then _ p'' small'' large'' (part c w));
    }

pub goes_to_end : {script small₀ large₀ so_far small large : List ℕ} {p : Pool} {at : ℕ} → length small₀ ≡ whole_small standard
    → length large₀ ≡ whole_large standard → GoesOn script small₀ large₀ so_far p small large at → length script ≤ at
    → so_far ≡ output_of standard script
goes_to_end {script} {small₀} {large₀} {so_far} {small} {large} {p} s l so end =
    sym (append-nil so_far) ∙ (whole_output standard standard_allowed small₀ large₀ s l script _ p small large (so.then [] p small large (ended end))).0

-- new bytes at the start of a buffer are its first ones
pub taken : {new old after : List ℕ} {n : ℕ} → Puts 0 new old after n → take n after ≡ new
unfolding overwritten
taken {new} {old} {n = n} p =
    let e : n ≡ length new = omega (arith, p.next) in
    rw (p.bytes, e) (take-append-le (length new) new (drop (0 + length new) old) (omega arith) ∙ take-length new)

-- 01's lengths
small_bytes : whole_small standard ≡ 2048
unfolding standard
small_bytes = refl

large_bytes : whole_large standard ≡ 8192
unfolding standard
large_bytes = refl

pub begins : (p : Pool) (small large script : List ℕ) → p ≡ fresh_pool standard → length small ≡ 2048 → length large ≡ 8192
    → Runnable p small large script 0
unfolding fresh_pool
begins p small large script e s l =
    rw e (record { fit = fresh_well_formed standard standard_allowed; small_whole = s ∙ sym small_bytes; large_whole = l ∙ sym large_bytes; within = omega arith })

pub ends : {script small₀ large₀ so_far small large : List ℕ} {p : Pool} {at : ℕ} → length small₀ ≡ 2048 → length large₀ ≡ 8192
    → GoesOn script small₀ large₀ so_far p small large at → length script ≤ at → so_far ≡ output_of standard script
ends s l = goes_to_end (s ∙ sym small_bytes) (l ∙ sym large_bytes)
