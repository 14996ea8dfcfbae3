-- What the calls on lent tables promise, by the record that has this head and these tables.
use Rattle.record.specs.declared.ExpirationTable.{ExpirationTable}
use Rattle.record.specs.declared.BlockTable.{BlockTable}
use Rattle.record.specs.declared.GlobalTime.{GlobalTime}
use Rattle.record.specs.declared.TaskEntry.{TaskEntry}
use Rattle.ledger.specs.declared.Refusal.{Refusal}
use Rattle.ledger.specs.declared.Life.{Life}
use Rattle.std.specs.Prelude.{ℕ, Bool, true, cond, List, ◌≡◌, set, Ok, Err, Result}
use Rattle.ledger.specs.declared.Answer.{Answer}
use Rattle.ledger.specs.declared.Answer.TheVariants.{Refused as RefusedAnswer, Lasts}
use Rattle.ledger.specs.declared.Request.{Request}
use Rattle.ledger.specs.declared.Share.{Share}
use Rattle.ledger.specs.Objects.{no_share}
use Rattle.record.specs.Tables.{BlockEntry, pooled, Sized, block_list}
use Rattle.record.specs.Pools.{is_well_formed}
use Rattle.record.specs.declared.Head.{Head}
use Rattle.steps.specs.Joins.{joined_entry}
use Rattle.calls.specs.Contract.{Follows}
use Rattle.calls.specs.declared.Step.{Step}

-- what a call gives back that hands back no bytes
abbrev pub step_of : Answer → Head → Step
step_of answer h = record { head = h; answer = answer; block = 0; length = 0 }

-- none are handed back
abbrev pub Bare : Step → Type 0
Bare s = s ≡ step_of s.answer s.head

-- a call that is refused
abbrev pub refused_by : Refusal → Head → Step
refused_by why h = step_of (RefusedAnswer why) h

-- the remaining life that was found, or why nothing was
abbrev pub life_found : Result Life Refusal → Answer
life_found (Ok life) = Lasts life
life_found (Err why) = RefusedAnswer why

abbrev pub with_given : Head → ℕ → Head
with_given h given = record { limits = h.limits; tasks = h.tasks; global = h.global; given = given; shares = h.shares }

-- with the tasks and the time that an event leaves
abbrev pub with_times : Head → List TaskEntry → GlobalTime → Head
with_times h tasks global = record { limits = h.limits; tasks = tasks; global = global; given = h.given; shares = h.shares }

-- Q2: the shares once a task has left
abbrev pub shares_left : Bool → ℕ → List Share → List Share
shares_left leaves task shares = cond leaves (set shares task no_share) shares

-- T9, Q1: with a task that has joined
abbrev pub joined_head : Head → ℕ → Share → Head
joined_head h task share =
    record { limits = h.limits; tasks = set h.tasks task joined_entry; global = h.global; given = h.given; shares = set h.shares task share }

-- A call that touches no store.
pub record FollowsBeside (request : Request) (h : Head) (blocks : BlockTable) (expirations : ExpirationTable) (answer : Answer) (h' : Head) (blocks' : BlockTable) (expirations' : ExpirationTable)
    : Type 0 where
  pub sized : Sized blocks' expirations'
  pub follows : is_well_formed (pooled h blocks expirations) ≡ true
      → Follows request (pooled h blocks expirations) answer (pooled h' blocks' expirations')

-- A call that changes the head alone, whatever tables stand beside it, of whose blocks so much is known.
pub record FollowsAlone (Known : List BlockEntry → Type 0) (request : Request) (h : Head) (answer : Answer) (h' : Head) : Type 0 where
  pub follows : (blocks : BlockTable) (expirations : ExpirationTable) → Sized blocks expirations → Known (block_list blocks)
      → is_well_formed (pooled h blocks expirations) ≡ true
      → Follows request (pooled h blocks expirations) answer (pooled h' blocks expirations)
