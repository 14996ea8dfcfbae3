-- The arms of the dispatch: what each call promises on lent tables serves its request.
use Rattle.record.specs.declared.ExpirationTable.{ExpirationTable}
use Rattle.record.specs.declared.BlockTable.{BlockTable}
use Rattle.ledger.specs.declared.Refusal.{Refusal}
use Rattle.objects.specs.declared.Part.{Part}
use Rattle.std.specs.Prelude.{Result, Ok, Err}
use Prim.Native.Nat.{ℕ}
use mathlib.Core.List.{List, []}
use mathlib.Core.Path.{◌≡◌, refl}
use Rattle.ledger.specs.Rules.{memory_after, expirations_after, tests_of}
use Rattle.ledger.specs.Ledger.{reply, next}
use Rattle.ledger.specs.declared.Answer.{Answer}
use Rattle.ledger.specs.declared.Answer.TheVariants.{Counted}
use Rattle.ledger.specs.declared.Call.{Call}
use Rattle.ledger.specs.declared.Call.TheVariants.{Join, Schedule, Make, Refresh, Read, Write, Batch, Release}
use Rattle.ledger.specs.declared.Event.{Event}
use Rattle.ledger.specs.declared.Share.{Share}
use Rattle.ledger.specs.declared.Kind.{Kind}
use Rattle.ledger.specs.declared.Request.{Request}
use Rattle.ledger.specs.declared.Request.TheVariants.{Use, Report, Remaining}
use Rattle.record.specs.Reading.{HeadTyped}
use Rattle.record.specs.Tables.{BlockEntry, Sized, tables_of, lent, pooled, block_list, expiration_list, BlocksSized, EntriesSized}
use Rattle.record.specs.declared.Head.{Head}
use Rattle.record.specs.declared.Pool.{Pool}
use Rattle.expirations.specs.Standing.{standing_of}
use Rattle.objects.specs.Outcomes.{shown_in}
use Rattle.objects.specs.Usage.{usage_in}
use Rattle.objects.proofs.Laws.{usage_of_lem}
use Rattle.calls.specs.Contract.{Ready, FollowsWith, Follows, Makes, Locates, Writes}
use Rattle.calls.specs.Served.{Serves}
use Rattle.calls.specs.Engine.{step_of, FollowsBeside, FollowsAlone}
use Rattle.ledger.specs.Limits.{is_small}
use Rattle.shares.specs.Holdings.{Holds, HoldsBoth}
use Rattle.shares.specs.declared.Holding.{Holding}
use Rattle.shares.specs.declared.Holdings.{Holdings}
use Rattle.dispatch.specs.Needs.{holding_for, HoldsFor}
use Rattle.dispatch.specs.Found.{where_found, given_back}
use Rattle.calls.specs.declared.Step.{Step}
use Rattle.expirations.proofs.Counting.{standing_of_lem}
use Rattle.calls.proofs.Reported.{report_obeys}
use Rattle.calls.proofs.Served.{whatever_bytes, serves_plain, schedule_serves, join_serves, refresh_serves, batch_serves, release_serves, make_serves, write_serves, report_serves, life_serves}
use Rattle.calls.proofs.WriteLent.{read_locates}

-- a read gives back where its object is
module _ (new : List ℕ) (h : Head) (blocks : BlockTable) (expirations : ExpirationTable) (small large : List ℕ) where
  abbrev lent_pool : Pool
  lent_pool = pooled h blocks expirations

  pub read_serves : (task handle : ℕ) (f : Result Part Refusal) → Locates task handle lent_pool small large f
      → Serves (Use (Read task handle)) new lent_pool small large (given_back (where_found f h) blocks expirations) small large
  unfolding reply next tests_of memory_after expirations_after
  read_serves task handle (Err why) l = serves_plain (whatever_bytes new (λ L. refl) (λ L. refl) (λ b. b) l.reads)
  read_serves task handle (Ok part) l =
      record {
        obeys = whatever_bytes new (λ L. refl) (λ L. refl) (λ b. b) l.reads;
        inside = λ some. l.inside part refl;
      }

-- what is ready for a request is ready for the one that it is
pub ready_for : {request other : Request} {p : Pool} {small large : List ℕ} → Ready request p small large → request ≡ other → Ready other p small large
ready_for ready is = rw is at ready

-- and a make has the holding of its store
pub holds_made : (shares : List Share) (blocks : List BlockEntry) (holdings : Holdings) {call : Call} {task : ℕ} {kind : Kind} {extension size prefix : ℕ}
    → call ≡ Make task kind extension size prefix → HoldsFor (Use call) shares blocks holdings → {holding : Holding} → holding ≡ holding_for holdings size
    → Holds (is_small size) shares blocks holding
holds_made shares blocks holdings is holds so = rw so (rw is at holds)

-- what a call on these tables and stores owes
abbrev Served : Request → List ℕ → Head → BlockTable → ExpirationTable → List ℕ → List ℕ → Step
    → BlockTable → ExpirationTable → List ℕ → List ℕ → Type 0
Served request new h blocks expirations small large r blocks' expirations' small' large' =
    Sized blocks' expirations'
    × Serves request new (pooled h blocks expirations) small large (given_back r blocks' expirations') small' large'

module _ (new : List ℕ) {h : Head} {blocks : BlockTable} {expirations : ExpirationTable} (sized : Sized blocks expirations) {small large : List ℕ} {call : Call}
    (ready : Ready (Use call) (pooled h blocks expirations) small large) {r : Step} where
  pub schedule_arm : {event : Event} {task : ℕ} → call ≡ Schedule event task → {answer : Answer} {h' : Head} {blocks' : BlockTable} {expirations' : ExpirationTable}
      → FollowsBeside (Use (Schedule event task)) h blocks expirations answer h' blocks' expirations' → r ≡ step_of answer h'
      → Served (Use call) new h blocks expirations small large r blocks' expirations' small large
  schedule_arm {event} {task} is f so =
      rw (is, so) (f.sized, schedule_serves new _ small large event task _ _ (f.follows ready.fit))

  pub join_arm : {task : ℕ} {share : Share} → call ≡ Join task share → {holdings : Holdings} → HoldsFor (Use call) h.shares (block_list blocks) holdings → {answer : Answer} {h' : Head}
      → FollowsAlone (λ blocks. HoldsBoth h.shares blocks holdings) (Use (Join task share)) h answer h' → r ≡ step_of answer h'
      → Served (Use call) new h blocks expirations small large r blocks expirations small large
  join_arm {task} {share} is holds f so =
      rw (is, so) (sized, join_serves new _ small large task share _ _ (f.follows blocks expirations sized (rw is at holds) ready.fit))

  pub refresh_arm : {task : ℕ} {kind : Kind} {extension handle : ℕ} → call ≡ Refresh task kind extension handle → {answer : Answer} {h' : Head} {expirations' : ExpirationTable}
      → EntriesSized expirations'
      × Follows (Use (Refresh task kind extension handle)) (pooled h blocks expirations) answer (pooled h' blocks expirations')
      → r ≡ step_of answer h' → Served (Use call) new h blocks expirations small large r blocks expirations' small large
  refresh_arm {task} {kind} {extension} {handle} is (entries, f) so =
      rw (is, so) (
        record { blocks = sized.blocks; entries = entries },
        refresh_serves new _ small large task kind extension handle _ _ f,
      )

  pub release_arm : {task handle : ℕ} → call ≡ Release task handle → {answer : Answer} {h' : Head} {blocks' : BlockTable} {expirations' : ExpirationTable}
      → Sized blocks' expirations' × Follows (Use (Release task handle)) (pooled h blocks expirations) answer (pooled h' blocks' expirations')
      → r ≡ step_of answer h' → Served (Use call) new h blocks expirations small large r blocks' expirations' small large
  release_arm {task} {handle} is (sized', f) so = rw (is, so) (sized', release_serves new _ small large task handle _ _ f)

  pub batch_arm : {task : ℕ} {kind : Kind} {extension : ℕ} → call ≡ Batch task kind extension → {answer : Answer} {h' : Head} {expirations' : ExpirationTable}
      → EntriesSized expirations'
      × FollowsWith (Use (Batch task kind extension)) new (pooled h blocks expirations) answer (pooled h' blocks expirations')
      → r ≡ step_of answer h' → Served (Use call) new h blocks expirations small large r blocks expirations' small large
  batch_arm {task} {kind} {extension} is (entries, f) so =
      rw (is, so) (record { blocks = sized.blocks; entries = entries }, batch_serves new _ small large task kind extension _ _ f)

  pub make_arm : {task : ℕ} {kind : Kind} {extension size prefix : ℕ} → call ≡ Make task kind extension size prefix → {answer : Answer} {h' : Head} {blocks' : BlockTable} {expirations' : ExpirationTable} {small' large' : List ℕ}
      → Sized blocks' expirations'
      × Makes task kind extension size prefix (pooled h blocks expirations) small large answer (pooled h' blocks' expirations') small' large'
      → r ≡ step_of answer h' → Served (Use call) new h blocks expirations small large r blocks' expirations' small' large'
  make_arm {task} {kind} {extension} {size} {prefix} is (sized', m) so =
      rw (is, so) (sized', make_serves new _ small large task kind extension size prefix _ _ _ _ m)

  pub read_arm : HeadTyped h → {task handle : ℕ} → call ≡ Read task handle → {f : Result Part Refusal}
      → f ≡ shown_in small large (tests_of (Read task handle) []) task handle (lent h blocks expirations) → r ≡ where_found f h
      → Served (Use call) new h blocks expirations small large r blocks expirations small large
  read_arm types {task} {handle} is {f} found so =
      rw (is, so) (sized, read_serves new h blocks expirations small large task handle f (read_locates types sized task handle (rw is at ready) f found))

  pub write_arm : {task handle offset : ℕ} → call ≡ Write task handle offset → {answer : Answer} {blocks' : BlockTable} {small' large' : List ℕ}
      → BlocksSized blocks'
      × Writes task handle offset new (pooled h blocks expirations) small large answer (pooled h blocks' expirations) small' large'
      → r ≡ step_of answer h → Served (Use call) new h blocks expirations small large r blocks' expirations small' large'
  write_arm {task} {handle} {offset} is {answer} (size, w) so =
      rw (is, so) (
        record { blocks = size; entries = sized.entries },
        write_serves new _ small large task handle offset answer _ _ _ w,
      )

-- report, remaining life, and any request by its call
module _ (new : List ℕ) {h : Head} {blocks : BlockTable} {expirations : ExpirationTable} (sized : Sized blocks expirations) {small large : List ℕ} {request : Request}
    (ready : Ready request (pooled h blocks expirations) small large) {r : Step} where
  pub report_arm : request ≡ Report → r ≡ step_of (Counted (usage_in h.given blocks.handles (standing_of expirations.clocks))) h
      → Served request new h blocks expirations small large r blocks expirations small large
  unfolding tables_of
  report_arm is so =
      let figures = usage_of_lem blocks.handles blocks.extents sized.blocks.of_handles sized.blocks.of_extents h (expiration_list expirations) in
      rw (is, so, standing_of_lem sized.entries, figures)
      (sized, report_serves new (pooled h blocks expirations) small large _ (report_obeys (pooled h blocks expirations) ready.fit))

  pub life_arm : {task handle : ℕ} → request ≡ Remaining task handle → {answer : Answer}
      → Follows (Remaining task handle) (pooled h blocks expirations) answer (pooled h blocks expirations) → r ≡ step_of answer h
      → Served request new h blocks expirations small large r blocks expirations small large
  life_arm {task} {handle} is {answer} f so = rw (is, so) (sized, life_serves new _ small large task handle answer f)

  pub use_arm : {call : Call} → request ≡ Use call → {blocks' : BlockTable} {expirations' : ExpirationTable} {small' large' : List ℕ}
      → Served (Use call) new h blocks expirations small large r blocks' expirations' small' large'
      → Served request new h blocks expirations small large r blocks' expirations' small' large'
  use_arm is s = rw is s
