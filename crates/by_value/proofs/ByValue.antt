-- A batch as a host sends it.
use Prim.Native.Nat.{ℕ}
use mathlib.Core.List.{List}
use lib.ListN.{take}
use Rattle.ledger.specs.declared.Answer.{Answer}
use Rattle.ledger.specs.declared.Call.TheVariants.{Batch}
use Rattle.ledger.specs.declared.Kind.{Kind}
use Rattle.ledger.specs.declared.Request.TheVariants.{Use}
use Rattle.record.specs.declared.Pool.{Pool}
use Rattle.calls.specs.Contract.{FollowsWith}
use Rattle.calls.proofs.Served.{whatever_bytes}
use Rattle.text.specs.HandleBytes.{handle_bytes, HandsOn}
use Rattle.text.specs.declared.batches.Handed.{Handed}
use Rattle.text.proofs.HandleBytes.{handles_enough}

-- a batch with the host's handles as bytes, of which no more are handed on than are enough
pub handles_sent : {task : ℕ} {kind : Kind} {extension : ℕ} {handles : List ℕ} {r : Handed} → HandsOn handles r → {p p' : Pool} {answer : Answer}
    → FollowsWith (Use (Batch task kind extension)) (take r.count r.bytes) p answer p'
    → FollowsWith (Use (Batch task kind extension)) (handle_bytes handles) p answer p'
handles_sent on f small large =
    whatever_bytes _ (λ L. (handles_enough L _ _ _ _ _ on.front).0) (λ L. (handles_enough L _ _ _ _ _ on.front).1) (λ b. b) (f small large)
