-- The rules L4 to L8: what is compared of a ledger, for a record with its stores to be read against.
use Rattle.std.specs.Prelude.{ℕ, ◌%◌, Bool, cond, ◌≡◌}
use mathlib.Core.List.{List, [], map, Permᴰ}
use Rattle.ledger.specs.Limits.{counter_range}
use Rattle.ledger.specs.Tasks.{Task, Clocks}
use Rattle.ledger.specs.Expirations.{DueTime, by_local, by_global, pinned, Expiration, remaining}
use Rattle.ledger.specs.Objects.{Object, with_bytes}
use Rattle.ledger.specs.Ledger.{Ledger}
use Rattle.ledger.specs.declared.Limits.{Limits}
use Rattle.ledger.specs.declared.Share.{Share}

-- L5: a time by its remainder
abbrev pub wrapped : ℕ → ℕ
wrapped n = n % counter_range

abbrev pub wrapped_task : Task → Task
wrapped_task t = record { state = t.state; ticked = t.ticked; clock = wrapped t.clock }

-- L6: an expiration by its kind, its setter or that it departed, and what remains; of a pinned one there is no more
pub data Left : Type 0 where
  local_left : (setter units : ℕ) → Left
  global_left : (setter units : ℕ) → Left
  pinned_left : Left

pub record Shown : Type 0 where
  pub handle : ℕ
  pub left : Left

unfoldable pub left_of : Clocks → DueTime → Left
left_of clocks (by_local setter at) = local_left setter (remaining clocks (by_local setter at))
left_of clocks (by_global setter at) = global_left setter (remaining clocks (by_global setter at))
left_of clocks pinned = pinned_left

abbrev pub shown : Clocks → Expiration → Shown
shown clocks x = record { handle = x.handle; left = left_of clocks x.due }

-- L7: bytes only where the store is whole; is_whole says of a size whether its store is as long as the blocks need
abbrev pub shown_object : (ℕ → Bool) → Object → Object
shown_object is_whole o = with_bytes (cond (is_whole o.size) o.bytes []) o.sum o

pub record View : Type 0 where
  pub limits : Limits
  pub tasks : List Task
  pub global : ℕ
  pub given : ℕ
  pub shares : List Share
  pub objects : List Object
  pub expirations : List Shown

unfoldable pub view_of : (ℕ → Bool) → Ledger → View
view_of is_whole L =
    let m = L.memory in
    record {
      limits = m.limits;
      tasks = map wrapped_task m.clocks.tasks;
      global = wrapped m.clocks.global;
      given = m.given;
      shares = m.shares;
      objects = map (shown_object is_whole) m.objects;
      expirations = map (shown m.clocks) L.expirations;
    }

-- L8: the figures are compared as they are; places are free, and so is the order of expirations
pub record Alike (v w : View) : Type 0 where
  pub limits : v.limits ≡ w.limits
  pub tasks : v.tasks ≡ w.tasks
  pub global : v.global ≡ w.global
  pub given : v.given ≡ w.given
  pub shares : v.shares ≡ w.shares
  pub objects : Permᴰ v.objects w.objects
  pub expirations : Permᴰ v.expirations w.expirations
