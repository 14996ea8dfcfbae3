-- What calls do on the pool: calls after calls, and none.
use mathlib.Core.Path.{refl}
use Rattle.ledger.specs.Ledger.{Ledger}
use Rattle.planned.specs.Planned.{Acts}
use Rattle.planned.specs.declared.site.Site.{Site}

pub acts_on : {A B : Type 0} {f g : Ledger → Ledger} {a : Ledger → A} {b : Ledger → B} {s s' s'' : Site} {x : A} {y : B}
    → Acts f a s x s' → Acts g b s' y s'' → Acts (λ (L : Ledger). g (f L)) (λ (L : Ledger). b (f L)) s y s''
acts_on p q = record { leaves = λ L reads. q.leaves _ (p.leaves L reads); told = λ L reads. q.told _ (p.leaves L reads) }

pub none_acts : {A : Type 0} {s : Site} {x : A} → Acts (λ (L : Ledger). L) (λ (L : Ledger). x) s x s
none_acts = record { leaves = λ L reads. reads; told = λ L reads. refl }
