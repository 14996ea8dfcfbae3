-- One list of calls after another: what it leaves, and whether some call of a sort is refused.
use mathlib.Core.Bool.{Bool, ◌&&◌, ◌||◌, or_assoc}
use mathlib.Core.List.{List, [], ◌∷◌, ◌++◌}
use mathlib.Core.Path.{◌≡◌, refl, sym}
use Rattle.ledger.specs.Numbers.{is_refusal}
use Rattle.ledger.specs.Ledger.{Ledger, Sent, reply_to_request, after_sent, replies, after_all}
use Rattle.ledger.specs.PlansClaim.{some_refused}
use Rattle.ledger.specs.declared.Request.{Request}

pub after_append : (ss more : List Sent) (L : Ledger) → after_all L (ss ++ more) ≡ after_all (after_all L ss) more
unfolding after_all
after_append [] more L = refl
after_append (s ∷ ss) more L = after_append ss more (after_sent L s)

pub refused_append : (sort : Request → Bool) (ss more : List Sent) (L : Ledger)
    → some_refused sort (ss ++ more) (replies L (ss ++ more))
    ≡ (some_refused sort ss (replies L ss) || some_refused sort more (replies (after_all L ss) more))
unfolding after_all replies some_refused
refused_append sort [] more L = refl
refused_append sort (s ∷ ss) more L =
    let M = after_sent L s in
    rw (refused_append sort ss more M)
    (sym (or_assoc (sort s.request && is_refusal (reply_to_request L s.request s.bytes).answer)
    (some_refused sort ss (replies M ss))
    (some_refused sort more (replies (after_all M ss) more))))
