-- A turn by what it is: the calls that were made are those of the turn.
use Rattle.std.specs.Prelude.{Option, is_none}
use Prim.Native.Nat.{ℕ, ◌+◌}
use mathlib.Core.Bool.{cond}
use mathlib.Core.List.{[], ◌∷◌}
use mathlib.Core.Path.{◌≡◌, refl, sym, ap, subst, ◌∙◌}
use Rattle.ledger.specs.Ledger.{Ledger, next, after_all}
use Rattle.ledger.specs.Plans.{turn_of, made_by, opened_by, opened, closing, turn_calls, with_poll, with_reply, with_quit, track_after}
use Rattle.ledger.specs.declared.Answer.{Answer}
use Rattle.ledger.specs.declared.Call.{Call}
use Rattle.ledger.specs.declared.Call.TheVariants.{Schedule, Write}
use Rattle.ledger.specs.declared.Event.{Event}
use Rattle.ledger.specs.declared.Event.TheVariants.{Resume, Tick}
use Rattle.ledger.specs.declared.plans.Poll.{Poll}
use Rattle.ledger.specs.declared.plans.Track.{Track}
use Rattle.ledger.specs.declared.plans.Turn.{Turn}
use Rattle.ledger.specs.declared.plans.Turn.TheVariants.{Rests, Begins, Replied, Quits}
use Rattle.planned.specs.Planned.{ReadsAs, Sends, Takes}
use Rattle.planned.specs.declared.site.Site.{Site}

module _ (step task : ℕ) (t : Track) {w : Turn} (is : w ≡ turn_of t.channel step t.poll) where
  pub rests : (s : Site) → w ≡ Rests → Takes step task t s t s
  unfolding turn_calls track_after after_all
  rests s e = rw (sym is ∙ e) (record { leaves = λ L reads. reads; told = λ L reads. refl })

  module _ {s s₁ s₂ : Site} {answer last : Answer} where
    pub begins : w ≡ Begins → {call : Call} → call ≡ made_by t.channel task → Sends call [] s answer s₁ → {poll : Option Poll}
        → poll ≡ opened_by step answer → {event : Event} → event ≡ closing poll → Sends (Schedule event task) [] s₁ last s₂
        → {more : ℕ} → more ≡ cond (is_none poll) 1 0
        → Takes step task t s
        (record { channel = t.channel; poll = poll; replies = t.replies; quits = t.quits; refusals = t.refusals + more }) s₂
    unfolding turn_calls track_after after_all
    begins e {call} makes m {poll} opens {event} closes o {more} adds =
        let m' : Sends (made_by t.channel task) [] s answer s₁ = rw (← makes) m in
        let same : (L : Ledger) → ReadsAs s L → poll ≡ opened L step task t.channel =
        λ L reads. opens ∙ ap (opened_by step) (m'.told L reads) in
        rw (sym is ∙ e) (record {
          leaves = λ L reads.
              subst (λ (q : Event). ReadsAs s₂ (next (next L (made_by t.channel task) []) (Schedule q task) []))
              (closes ∙ ap closing (same L reads)) (o.leaves _ (m'.leaves L reads));
          told = λ L reads. rw adds (ap (λ (q : Option Poll). with_poll q t) (same L reads));
        })

    pub quits : w ≡ Quits → Sends (Schedule Resume task) [] s answer s₁ → Sends (Schedule Tick task) [] s₁ last s₂
        → Takes step task t s (with_quit t) s₂
    unfolding turn_calls track_after after_all
    quits e r o =
        rw (sym is ∙ e) (record { leaves = λ L reads. o.leaves _ (r.leaves L reads); told = λ L reads. refl })

    pub replies : {handle : ℕ} → w ≡ Replied handle → Sends (Schedule Resume task) [] s answer s₁
        → Sends (Write task handle 0) (1 ∷ []) s₁ last s₂ → {s₃ : Site} {end : Answer} → Sends (Schedule Tick task) [] s₂ end s₃
        → Takes step task t s (with_reply t) s₃
    unfolding turn_calls track_after after_all
    replies e r p o =
        rw (sym is ∙ e) (record { leaves = λ L reads. o.leaves _ (p.leaves _ (r.leaves L reads)); told = λ L reads. refl })
