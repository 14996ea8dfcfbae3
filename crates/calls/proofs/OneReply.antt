-- A call has one reply: by 15, by 14, or by the ledger that a fit record reads as.
use mathlib.Core.Bool.{true, false≢true}
use mathlib.Core.Path.{◌≡◌, sym, ◌∙◌}
use Rattle.lists.proofs.Cases.{by_test}
use Rattle.record.specs.Pools.{is_well_formed}
use Rattle.record.proofs.Exists.{every_fit_record_reads}
use Rattle.stores.specs.Lengths.{are_whole}
use Rattle.calls.specs.Contract.{is_stored, OneReply}

pub one_reply : OneReply
one_reply request new p small large types y y₂ p' p'' small' small'' large' large'' o o₂ =
    by_test (is_well_formed p)
    (λ fit. by_test (is_stored request) (by_stores fit) (λ unstored. by_ledger fit (λ stored. absurd (false≢true (sym unstored ∙ stored)))))
    (λ unfit. (o.unfit unfit).refused ∙ sym (o₂.unfit unfit).refused)
  where
    by_ledger : is_well_formed p ≡ true → (is_stored request ≡ true → are_whole p.head.limits small large ≡ true) → y ≡ y₂
    by_ledger fit whole =
        let (L, reads) = every_fit_record_reads p types fit small large in
        o.answers (record { fit = fit; whole = whole }) L reads ∙ sym (o₂.answers (record { fit = fit; whole = whole }) L reads)

    by_stores : is_well_formed p ≡ true → is_stored request ≡ true → y ≡ y₂
    by_stores fit stored =
        by_test (are_whole p.head.limits small large)
        (λ whole. by_ledger fit (λ s. whole))
        (λ part. (o.wrong fit stored part).refused ∙ sym (o₂.wrong fit stored part).refused)
