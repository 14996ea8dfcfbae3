-- Order 9 of the pool: by demand 2 it reads and answers as the ledger.
use Prim.Native.Nat.{ℕ, ◌+◌, ◌≤◌}
use native.Mathlib.Omega.{arith}
use mathlib.Core.Bool.{Bool, true}
use mathlib.Core.List.{List}
use mathlib.Core.Path.{◌≡◌, refl, sym, ap, ◌∙◌}
use Rattle.lists.proofs.Cases.{by_test}
use Rattle.ledger.specs.Limits.{is_small}
use Rattle.ledger.specs.Shares.{quota_of, used_in, made, unmet, all_unmet}
use Rattle.ledger.specs.Objects.{Reply}
use Rattle.ledger.specs.Ledger.{Ledger, fresh, reply, after_all}
use Rattle.ledger.specs.declared.Answer.{Answer}
use Rattle.ledger.specs.declared.Answer.TheVariants.{Refused}
use Rattle.ledger.specs.declared.Call.TheVariants.{Make}
use Rattle.ledger.specs.declared.Refusal.TheVariants.{WrongStoreLength, NoFreeBlock, AtLimit}
use Rattle.ledger.proofs.Reserves.{reserves}
use Rattle.record.proofs.Facts.{shared_part}
use Rattle.record.specs.Reading.{Reads}
use Rattle.record.specs.Shares.{made_in, quota_at, unmet_in, spoken_in}
use Rattle.record.specs.Tables.{Tables, tables_of}
use Rattle.stores.specs.Lengths.{are_whole}
use Rattle.steps.proofs.Shares.{inactive_nothing, shares_alike, taken_alike, made_alike, unmet_alike, all_alike}
use Rattle.demands.specs.Reserves.{PoolReserves}
use Rattle.demands.proofs.Outlives.{fresh_follows}

not_nine : Refused WrongStoreLength ≡ Refused NoFreeBlock → ⊥
not_nine e = let z : ◌≡◌ {A = ℕ} 0 1 = cc in omega arith

not_limit : Refused WrongStoreLength ≡ Refused AtLimit → ⊥
not_limit e = let z : ◌≡◌ {A = ℕ} 0 1 = cc in omega arith

-- a record that reads as a ledger has of its stores what the ledger has
module _ {t : Tables} {small large : List ℕ} {L : Ledger} (reads : Reads t small large L) (store : Bool) where
  room_reads : {blocks : ℕ} → used_in store L.memory.objects + all_unmet store L.memory.shares L.memory.objects ≤ blocks
      → spoken_in store t.shares t.blocks ≤ blocks
  room_reads l = rw (taken_alike reads store, all_alike reads store) l

  below_reads : (task : ℕ) → made store L.memory.objects task ≤ (quota_of store L.memory.shares L.memory.objects task).limit
      → made_in store t.blocks task ≤ (quota_at store t.shares t.blocks task).limit
  below_reads task l = rw (made_alike reads store task, shares_alike reads) l

  ordered_reads : (task : ℕ)
      → (quota_of store L.memory.shares L.memory.objects task).reserve ≤ (quota_of store L.memory.shares L.memory.objects task).limit
      → (quota_at store t.shares t.blocks task).reserve ≤ (quota_at store t.shares t.blocks task).limit
  ordered_reads task l = rw (shares_alike reads) l

  unmet_reads : (task : ℕ) → 1 ≤ unmet_in store t.shares t.blocks task → 1 ≤ unmet store L.memory.shares L.memory.objects task
  unmet_reads task l = rw (unmet_alike reads store task) at l

  unmet_read : (task : ℕ) → 1 ≤ unmet store L.memory.shares L.memory.objects task → 1 ≤ unmet_in store t.shares t.blocks task
  unmet_read task l = rw (unmet_alike reads store task) l

pub pool_reserves : PoolReserves
pool_reserves =
    record {
      room = λ limits ss p small large r store. room_reads (fresh_follows r).1 store (reserves.room limits ss store);
      below = λ limits ss p small large r store task l. below_reads (fresh_follows r).1 store task (reserves.below limits ss store task l);
      ordered = λ limits ss p small large r store task. ordered_reads (fresh_follows r).1 store task (reserves.ordered limits ss store task);
      inactive = λ limits ss p small large r task a. inactive_nothing (tables_of p) (shared_part (tables_of p) (fresh_follows r).2) task a;
      never = λ limits ss p small large r task kind extension size prefix new short y p' small' large' o.
          let (_, reads, fit) = fresh_follows r in
          let N = after_all (fresh limits) ss in
          let (nine, limit) = reserves.never limits ss task kind extension size prefix new (unmet_reads reads (is_small size) task short) in
          let told : (why : Answer) → (are_whole p.head.limits small large ≡ true → y.answer ≡ why → ⊥) → (Refused WrongStoreLength ≡ why → ⊥) → y.answer ≡ why → ⊥ =
          λ why ready wrong e. by_test (are_whole p.head.limits small large)
          (λ w. ready w e)
          (λ w. wrong (sym (ap (λ (y : Reply). y.answer) (o.wrong fit refl w).refused) ∙ e)) in
          let answered : are_whole p.head.limits small large ≡ true → y ≡ reply N (Make task kind extension size prefix) new = λ w. o.answers (record { fit = fit; whole = λ u. w }) N reads in (
            told (Refused NoFreeBlock) (λ w e. nine (ap (λ (y : Reply). y.answer) (sym (answered w)) ∙ e)) not_nine,
            told (Refused AtLimit) (λ w e. limit (ap (λ (y : Reply). y.answer) (sym (answered w)) ∙ e)) not_limit,
          );
      applies = λ p small large r. unmet_read (fresh_follows r).1 true 0 reserves.applies;
    }
