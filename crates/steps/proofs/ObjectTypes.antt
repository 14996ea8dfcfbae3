-- A value of the record's type stays one under a make that is accepted, and under a refresh, a write and a release.
use Prim.Native.Nat.{ℕ, ◌<◌}
use native.Mathlib.Omega.{arith}
use mathlib.Core.List.{List}
use mathlib.Core.Path.{◌∙◌}
use lib.ListN.{length-set, length-map}
use Rattle.lists.proofs.Tables.{length_map_from}
use Rattle.ledger.specs.Limits.{last_handle, counter_range}
use Rattle.ledger.specs.declared.Kind.{Kind}
use Rattle.record.specs.Reading.{Typed}
use Rattle.record.specs.Tables.{ExpirationEntry, Tables}
use Rattle.steps.specs.Objects.{with_entry, with_object, made_pool, refreshed_pool, written_pool, released_pool}

typed_entry : (slot : ℕ) (e : ExpirationEntry) (p : Tables) → Typed p → Typed (with_entry slot e p)
typed_entry slot e p types =
    record {
      tasks = types.tasks;
      shares = types.shares;
      blocks = types.blocks;
      expirations = rw length-set types.expirations;
      clocks = types.clocks;
      global = types.global;
      given = types.given;
    }

pub typed_made : (task : ℕ) (kind : Kind) (extension size prefix : ℕ) (p : Tables) → Typed p → p.given < last_handle
    → Typed (made_pool task kind extension size prefix p)
unfolding made_pool last_handle counter_range
typed_made task kind extension size prefix p types unspent =
    typed_entry _ _ (with_object _ _ size prefix p)
    (record {
      tasks = types.tasks;
      shares = types.shares;
      blocks = rw length-set types.blocks;
      expirations = types.expirations;
      clocks = types.clocks;
      global = types.global;
      given = omega (arith, unspent);
    })

pub typed_refreshed : (task : ℕ) (kind : Kind) (extension handle : ℕ) (p : Tables) → Typed p
    → Typed (refreshed_pool task kind extension handle p)
unfolding refreshed_pool
typed_refreshed task kind extension handle p types = typed_entry _ _ p types

pub typed_written : (handle offset : ℕ) (new small large : List ℕ) (p : Tables) → Typed p → Typed (written_pool handle offset new small large p)
unfolding written_pool
typed_written handle offset new small large p types =
    record {
      tasks = types.tasks;
      shares = types.shares;
      blocks = rw length-set types.blocks;
      expirations = types.expirations;
      clocks = types.clocks;
      global = types.global;
      given = types.given;
    }

pub typed_released : (handle : ℕ) (p : Tables) → Typed p → Typed (released_pool handle p)
unfolding released_pool
typed_released handle p types =
    record {
      tasks = types.tasks;
      shares = types.shares;
      blocks = length_map_from 0 _ p.blocks ∙ types.blocks;
      expirations = length-map p.expirations _ ∙ types.expirations;
      clocks = types.clocks;
      global = types.global;
      given = types.given;
    }
