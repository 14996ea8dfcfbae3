-- The record's global time is the ledger's by its remainder, and its tasks are the ledger's: so what is claimed of the ledger holds of it.
use Prim.Native.Nat.{ℕ, ◌+◌}
use native.Mathlib.Omega.{arith}
use mathlib.Core.List.{List, map}
use mathlib.Core.Path.{◌≡◌, ap, ◌∙◌}
use Rattle.lists.proofs.Bits.{bits_map}
use Rattle.lists.proofs.Counts.{any_map}
use Rattle.ledger.specs.Limits.{counter_range}
use Rattle.ledger.specs.Tasks.{Task, fresh_clocks, is_running}
use Rattle.ledger.specs.Objects.{fresh_memory}
use Rattle.ledger.specs.Ledger.{Ledger, fresh}
use Rattle.ledger.specs.Compared.{wrapped, wrapped_task, view_of}
use Rattle.ledger.specs.Awaited.{is_awaited, is_nobody_awaited, global_of}
use Rattle.ledger.proofs.Awaited.{awaited}
use Rattle.record.specs.Codes.{task_of}
use Rattle.record.specs.Pools.{Reads}
use Rattle.record.specs.Reading.{record_view}
use Rattle.record.specs.Tables.{tables_by, tables_of}
use Rattle.record.specs.declared.Pool.{Pool}
use Rattle.demands.specs.Awaited.{PoolAwaited}
use Rattle.demands.proofs.Outlives.{fresh_follows}

module _ (p : Pool) {small large : List ℕ} {L : Ledger} (reads : Reads p small large L) where
  global_read : p.head.global.0 ≡ wrapped (global_of L)
  unfolding record_view view_of tables_of tables_by
  global_read = reads.alike.global

  tasks_read : map task_of p.head.tasks ≡ map wrapped_task L.memory.clocks.tasks
  unfolding record_view view_of tables_of tables_by
  tasks_read = reads.alike.tasks

  nobody_read : is_nobody_awaited (map task_of p.head.tasks) ≡ is_nobody_awaited L.memory.clocks.tasks
  unfolding is_nobody_awaited
  nobody_read = let ts = L.memory.clocks.tasks in rw (tasks_read, any_map (λ (t : Task). is_running t.state) wrapped_task ts, bits_map is_awaited wrapped_task ts)

-- a counter that wraps counts on
wrapped_on : (n k : ℕ) → wrapped (n + k) ≡ wrapped (wrapped n + k)
unfolding counter_range
wrapped_on n k = omega arith

pub pool_awaited : PoolAwaited
unfolding fresh fresh_memory fresh_clocks
pool_awaited =
    record {
      one = λ request new p small large y p' small' large' o ready L reads.
          global_read p' (o.leaves ready L reads) ∙ ap wrapped (awaited.one L request new) ∙ wrapped_on (global_of L) _ ∙ rw (global_read p reads);
      every = λ limits ss p' small' large' r. global_read p' (fresh_follows r).1 ∙ ap wrapped (awaited.every (fresh limits) ss ∙ omega arith);
      between = λ limits ss p' small' large' r. nobody_read p' (fresh_follows r).1 ∙ awaited.between limits ss;
    }
