-- The dispatch: what each call promises serves its request.
use Prim.Native.Nat.{ℕ}
use native.Mathlib.Omega.{arith}
use mathlib.Core.List.{List, []}
use mathlib.Core.Path.{◌≡◌, refl, ◌∙◌}
use Rattle.ledger.specs.Objects.{Reply, plain}
use Rattle.ledger.specs.Rules.{memory_after, expirations_after, tests_of}
use Rattle.ledger.specs.Ledger.{Ledger, reply, next, reply_to_request, after_request}
use Rattle.ledger.specs.declared.Answer.{Answer}
use Rattle.ledger.specs.declared.Answer.TheVariants.{Refused as RefusedAnswer}
use Rattle.ledger.specs.declared.Call.TheVariants.{Join, Schedule, Make, Refresh, Write, Batch, Release}
use Rattle.ledger.specs.declared.Event.{Event}
use Rattle.ledger.specs.declared.Share.{Share}
use Rattle.ledger.specs.declared.Event.TheVariants.{Leave, Block, Resume, Tick, View}
use Rattle.ledger.specs.declared.Kind.{Kind}
use Rattle.ledger.specs.declared.Refusal.{Refusal}
use Rattle.ledger.specs.declared.Request.{Request}
use Rattle.ledger.specs.declared.Request.TheVariants.{Use, Report, Remaining}
use Rattle.record.specs.Reading.{block_bytes}
use Rattle.record.specs.declared.Pool.{Pool}
use Rattle.calls.specs.Contract.{Leaves, Obeys, FollowsWith, Follows, Makes, Writes}
use Rattle.calls.specs.Served.{without_bytes, Serves}

pub no_bytes_lem : (small large : List ℕ) → block_bytes small large 0 0 ≡ []
unfolding block_bytes
no_bytes_lem small large = refl

-- a call with other bytes, which come to the same
pub whatever_bytes : {request : Request} {old : List ℕ} {p p' : Pool} {small large small' large' : List ℕ} {y : Reply} (new : List ℕ)
    → ((L : Ledger) → reply_to_request L request old ≡ reply_to_request L request new)
    → ((L : Ledger) → after_request L request old ≡ after_request L request new)
    → (Leaves request old p small large y.answer p' small' large' → Leaves request new p small large y.answer p' small' large')
    → Obeys request old p small large y p' small' large' → Obeys request new p small large y p' small' large'
whatever_bytes new same then also o =
    record {
      unfit = o.unfit;
      wrong = o.wrong;
      answers = λ r L reads. o.answers r L reads ∙ same L;
      leaves = λ r L reads. rw (← then L) (o.leaves r L reads);
      fits = o.fits;
      keeps = o.keeps;
      stays = o.stays;
      sizes = o.sizes;
      left = also o.left;
    }

no_bytes_scheduled : (event : Event) (task : ℕ) (new : List ℕ) (L : Ledger)
    → (reply L (Schedule event task) [] ≡ reply L (Schedule event task) new) × (next L (Schedule event task) [] ≡ next L (Schedule event task) new)
unfolding reply next tests_of memory_after expirations_after
no_bytes_scheduled Leave task new L = (refl, refl)
no_bytes_scheduled Block task new L = (refl, refl)
no_bytes_scheduled Resume task new L = (refl, refl)
no_bytes_scheduled View task new L = (refl, refl)
no_bytes_scheduled Tick task new L = (refl, refl)

-- a call that hands back no bytes
pub serves_plain : {request : Request} {new : List ℕ} {p p' : Pool} {small large small' large' : List ℕ} {answer : Answer}
    → Obeys request new p small large (plain answer) p' small' large'
    → Serves request new p small large (without_bytes answer p') small' large'
serves_plain {small' = small'} {large' = large'} o =
    record { obeys = rw (no_bytes_lem small' large') o; inside = λ l. absurd (omega arith) }

pub refused_serves : {request : Request} {new : List ℕ} {p : Pool} {small large : List ℕ} {why : Refusal}
    → Obeys request new p small large (plain (RefusedAnswer why)) p small large
    → Serves request new p small large (without_bytes (RefusedAnswer why) p) small large
refused_serves {request} {new} {p} {small} {large} {why} o = serves_plain o

module _ (new : List ℕ) (p : Pool) (small large : List ℕ) where
  pub schedule_serves : (event : Event) (task : ℕ) (answer : Answer) (p' : Pool) → Follows (Use (Schedule event task)) p answer p'
      → Serves (Use (Schedule event task)) new p small large (without_bytes answer p') small large
  schedule_serves event task answer p' f =
      let same = no_bytes_scheduled event task new in
      serves_plain (whatever_bytes new (λ L. (same L).0) (λ L. (same L).1) (λ b. b) (f small large))

  pub join_serves : (task : ℕ) (share : Share) (answer : Answer) (p' : Pool) → Follows (Use (Join task share)) p answer p'
      → Serves (Use (Join task share)) new p small large (without_bytes answer p') small large
  unfolding reply next tests_of memory_after expirations_after
  join_serves task share answer p' f = serves_plain (whatever_bytes new (λ L. refl) (λ L. refl) (λ b. b) (f small large))

  pub refresh_serves : (task : ℕ) (kind : Kind) (extension handle : ℕ) (answer : Answer) (p' : Pool)
      → Follows (Use (Refresh task kind extension handle)) p answer p'
      → Serves (Use (Refresh task kind extension handle)) new p small large (without_bytes answer p') small large
  unfolding reply next tests_of memory_after expirations_after
  refresh_serves task kind extension handle answer p' f = serves_plain (whatever_bytes new (λ L. refl) (λ L. refl) (λ b. b) (f small large))

  pub batch_serves : (task : ℕ) (kind : Kind) (extension : ℕ) (answer : Answer) (p' : Pool) → FollowsWith (Use (Batch task kind extension)) new p answer p'
      → Serves (Use (Batch task kind extension)) new p small large (without_bytes answer p') small large
  batch_serves task kind extension answer p' f = serves_plain (f small large)

  pub release_serves : (task handle : ℕ) (answer : Answer) (p' : Pool) → Follows (Use (Release task handle)) p answer p'
      → Serves (Use (Release task handle)) new p small large (without_bytes answer p') small large
  unfolding reply next tests_of memory_after expirations_after
  release_serves task handle answer p' f = serves_plain (whatever_bytes new (λ L. refl) (λ L. refl) (λ b. b) (f small large))

  pub report_serves : (answer : Answer) → Follows Report p answer p → Serves Report new p small large (without_bytes answer p) small large
  report_serves answer f = serves_plain (whatever_bytes new (λ L. refl) (λ L. refl) (λ b. b) (f small large))

  pub life_serves : (task handle : ℕ) (answer : Answer) → Follows (Remaining task handle) p answer p
      → Serves (Remaining task handle) new p small large (without_bytes answer p) small large
  life_serves task handle answer f = serves_plain (whatever_bytes new (λ L. refl) (λ L. refl) (λ b. b) (f small large))

  pub make_serves : (task : ℕ) (kind : Kind) (extension size prefix : ℕ) (answer : Answer) (p' : Pool) (small' large' : List ℕ)
      → Makes task kind extension size prefix p small large answer p' small' large'
      → Serves (Use (Make task kind extension size prefix)) new p small large (without_bytes answer p') small' large'
  unfolding reply next tests_of memory_after expirations_after
  make_serves task kind extension size prefix answer p' small' large' m = serves_plain (whatever_bytes new (λ L. refl) (λ L. refl) (λ b. b) m)

  pub write_serves : (task handle offset : ℕ) (answer : Answer) (p' : Pool) (small' large' : List ℕ)
      → Writes task handle offset new p small large answer p' small' large'
      → Serves (Use (Write task handle offset)) new p small large (without_bytes answer p') small' large'
  write_serves task handle offset answer p' small' large' w = serves_plain w
