-- How a call meets its contract: by 15, by 14, by a refusal of the ledger's, or carried out.
use Prim.Native.Nat.{ℕ}
use mathlib.Core.Bool.{Bool, true, false, not, ◌&&◌, true≢false, false≢true, and-eq-true_iff}
use mathlib.Core.List.{List, []}
use mathlib.Core.Path.{◌≡◌, refl, sym, ap, ◌∙◌}
use borrow.Author.Tests.{not-true, not-false}
use lib.ListN.{length}
use Rattle.ledger.specs.Objects.{Reply, plain}
use Rattle.ledger.specs.Rules.{reply_to}
use Rattle.ledger.specs.Ledger.{Ledger, verdict_on, reply, next, reply_to_request, after_request}
use Rattle.ledger.specs.declared.Answer.{Answer}
use Rattle.ledger.specs.declared.Answer.TheVariants.{Refused}
use Rattle.ledger.specs.Numbers.{is_refusal}
use Rattle.ledger.specs.Refusals.{as_verdict}
use Rattle.ledger.proofs.Passed.{accepted_none, refused_some}
use Rattle.ledger.specs.declared.Call.{Call}
use Rattle.ledger.specs.declared.Refusal.{Refusal}
use Rattle.ledger.specs.declared.Refusal.TheVariants.{WrongStoreLength, NotWellFormed}
use Rattle.ledger.specs.declared.Request.{Request}
use Rattle.ledger.specs.declared.Call.TheVariants.{Join, Schedule, Make, Refresh, Read, Write, Batch, Release}
use Rattle.ledger.specs.declared.Request.TheVariants.{Use, Report, Remaining}
use Rattle.record.specs.Tables.{tables_of}
use Rattle.record.specs.Pools.{is_well_formed, Reads}
use Rattle.record.specs.declared.Pool.{Pool}
use Rattle.steps.specs.Staying.{Stays}
use Rattle.steps.proofs.ObjectsFollow.{carried}
use Rattle.steps.proofs.Staying.{same_stays}
use Rattle.stores.specs.Lengths.{are_whole, TellsWhole}
use Rattle.calls.specs.Contract.{Leaves, is_stored, Ready, Refuses, Obeys, Follows}
use Rattle.std.specs.Prelude.{Ok, Err}

-- what was refused for one reason was not for another
kept : (p : Pool) (small large : List ℕ) (r why : Refusal) → Refused r ≡ Refused why → Refuses why p small large (plain (Refused r)) p small large
kept p small large r why e = record { refused = ap plain e; same_pool = refl; same_small = refl; same_large = refl }

-- a refusal leaves record and stores
pub nothing : (request : Request) (new : List ℕ) (p : Pool) (small large : List ℕ) (why : Refusal) → Leaves request new p small large (Refused why) p small large
nothing (Use (Join task share)) new p small large why = (refl, refl)
nothing (Use (Schedule event task)) new p small large why = (refl, refl)
nothing (Use (Make task kind extension size prefix)) new p small large why = (refl, (refl, refl))
nothing (Use (Refresh task kind extension handle)) new p small large why = (refl, refl)
nothing (Use (Read task handle)) new p small large why = (refl, (refl, refl))
nothing (Use (Write task handle offset)) new p small large why = (refl, (refl, refl))
nothing (Use (Batch task kind extension)) new p small large why = (refl, refl)
nothing (Use (Release task handle)) new p small large why = (refl, refl)
nothing Report new p small large why = (refl, (refl, refl))
nothing (Remaining task handle) new p small large why = (refl, (refl, refl))

module _ (request : Request) (new : List ℕ) (p : Pool) (small large : List ℕ) where
  pub unfit_obeys : is_well_formed p ≡ false → Obeys request new p small large (plain (Refused NotWellFormed)) p small large
  unfit_obeys u =
      record {
        unfit = λ e. kept p small large NotWellFormed NotWellFormed refl;
        wrong = λ w s e. absurd (true≢false (sym w ∙ u));
        answers = λ r L reads. absurd (true≢false (sym r.fit ∙ u));
        leaves = λ r L reads. absurd (true≢false (sym r.fit ∙ u));
        fits = λ w. w;
        keeps = kept p small large NotWellFormed;
        stays = same_stays refl refl refl;
        sizes = (refl, refl);
        left = nothing request new p small large NotWellFormed;
      }

-- the two tests, as the code makes them: of the record, then of stores that the request touches
module _ {request : Request} {p : Pool} {small large : List ℕ} {fit stored whole : Bool} (f : fit ≡ is_well_formed p) (passed : not fit ≡ false)
    (s : stored ≡ is_stored request) (tells : TellsWhole p.head.limits (length small) (length large) whole) where
  pub wrong_obeys : {new : List ℕ} → stored && not whole ≡ true → Obeys request new p small large (plain (Refused WrongStoreLength)) p small large
  wrong_obeys refused =
      let w : is_well_formed p ≡ true = sym f ∙ not-false fit passed in
      let (touched, wrong) = (and-eq-true_iff stored (not whole)).0 refused in
      let n : are_whole p.head.limits small large ≡ false = sym (tells small large refl refl) ∙ not-true whole wrong in
      record {
        unfit = λ u. absurd (true≢false (sym w ∙ u));
        wrong = λ v t e. kept p small large WrongStoreLength WrongStoreLength refl;
        answers = λ r L reads. absurd (true≢false (sym (r.whole (sym s ∙ touched)) ∙ n));
        leaves = λ r L reads. absurd (true≢false (sym (r.whole (sym s ∙ touched)) ∙ n));
        fits = λ v. v;
        keeps = kept p small large WrongStoreLength;
        stays = same_stays refl refl refl;
        sizes = (refl, refl);
        left = nothing request _ p small large WrongStoreLength;
      }

  pub ready : stored && not whole ≡ false → Ready request p small large
  ready passed-too =
      record {
        fit = sym f ∙ not-false fit passed;
        whole = λ touched. sym (tells small large refl refl) ∙ not-false whole (rw (s, touched) at passed-too);
      }

module _ (call : Call) (new : List ℕ) (p : Pool) (small large : List ℕ) (w : is_well_formed p ≡ true)
    (whole : is_stored (Use call) ≡ true → are_whole p.head.limits small large ≡ true) where
  pub refused_obeys : (r : Refusal) → ((L : Ledger) → Reads p small large L → as_verdict (verdict_on L call new) ≡ Err r)
      → Obeys (Use call) new p small large (plain (Refused r)) p small large
  unfolding reply next
  refused_obeys r v =
      record {
        unfit = λ u. absurd (true≢false (sym w ∙ u));
        wrong = λ x s n. absurd (true≢false (sym (whole s) ∙ n));
        answers = λ r L reads. rw (refused_some (verdict_on L call new) (v L reads));
        leaves = λ r L reads. rw (refused_some (verdict_on L call new) (v L reads)) reads;
        fits = λ x. w;
        keeps = kept p small large r;
        stays = same_stays refl refl refl;
        sizes = (refl, refl);
        left = nothing (Use call) new p small large r;
      }

  pub carried_obeys : (y : Reply) (p' : Pool) (small' large' : List ℕ) → is_refusal y.answer ≡ false
      → ((L : Ledger) → Reads p small large L → as_verdict (verdict_on L call new) ≡ Ok tt)
      → ((L : Ledger) → Reads p small large L → y ≡ reply_to call L.memory)
      → ((L : Ledger) → Reads p small large L → Reads p' small' large' (carried call new L))
      → is_well_formed p' ≡ true → Stays (tables_of p) (tables_of p') → (length small' ≡ length small) × (length large' ≡ length large)
      → Leaves (Use call) new p small large y.answer p' small' large'
      → Obeys (Use call) new p small large y p' small' large'
  unfolding reply next
  carried_obeys y p' small' large' accepted v answers leaves fits stays sizes left =
      record {
        unfit = λ u. absurd (true≢false (sym w ∙ u));
        wrong = λ x s n. absurd (true≢false (sym (whole s) ∙ n));
        answers = λ r L reads. rw (accepted_none (verdict_on L call new) (v L reads)) (answers L reads);
        leaves = λ r L reads. rw (accepted_none (verdict_on L call new) (v L reads)) (leaves L reads);
        fits = λ x. fits;
        keeps = λ why e. absurd (false≢true (sym accepted ∙ ap is_refusal e));
        stays = stays;
        sizes = sizes;
        left = left;
      }

-- a request that touches no store and changes nothing: what it tells is the ledger's
pub tells_obeys : (request : Request) (p : Pool) → is_well_formed p ≡ true → is_stored request ≡ false → ((L : Ledger) → after_request L request [] ≡ L) → (answer : Answer)
    → ((small large : List ℕ) (L : Ledger) → Reads p small large L → plain answer ≡ reply_to_request L request [])
    → ((small large : List ℕ) → Leaves request [] p small large answer p small large) → Follows request p answer p
tells_obeys request p w unstored same answer answers left small large =
    record {
      unfit = λ u. absurd (true≢false (sym w ∙ u));
      wrong = λ x s n. absurd (false≢true (sym unstored ∙ s));
      answers = λ r L reads. answers small large L reads;
      leaves = λ r L reads. rw (same L) reads;
      fits = λ x. w;
      keeps = λ why e. record { refused = ap plain e; same_pool = refl; same_small = refl; same_large = refl };
      stays = same_stays refl refl refl;
      sizes = (refl, refl);
      left = left small large;
    }
