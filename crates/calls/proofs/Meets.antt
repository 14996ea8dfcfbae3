-- Make, refresh, read and write after 15 and 14: what the record's functions give meets the contracts.
use Rattle.objects.specs.declared.Part.{Part}
use Prim.Native.Nat.{ℕ, ◌+◌}
use native.Mathlib.Omega.{arith}
use mathlib.Core.Bool.{true, and-eq-true_iff}
use mathlib.Core.List.{List, []}
use mathlib.Core.Path.{◌≡◌, refl, sym, ap, ◌∙◌}
use lib.ListN.{length, get_or, replicate}
use Rattle.lists.specs.Sums.{total}
use Rattle.ledger.specs.Objects.{plain}
use Rattle.ledger.specs.Refusals.{verdict, Verdict}
use Rattle.ledger.specs.Rules.{tests_of}
use Rattle.ledger.specs.declared.Kind.{Kind}
use Rattle.ledger.specs.declared.Answer.TheVariants.{Done, Handle, Bytes, Refused as RefusedAnswer}
use Rattle.ledger.specs.declared.Call.TheVariants.{Make, Read, Write}
use Rattle.ledger.specs.declared.Refusal.{Refusal}
use Rattle.ledger.specs.declared.Request.TheVariants.{Use}
use Rattle.ledger.specs.declared.Limits.{Limits}
use Rattle.stores.specs.Places.{InBlock, small_after, large_after, sum_at, sum_after}
use Rattle.stores.proofs.Places.{in_block, whole_block}
use Rattle.stores.proofs.Changes.{bytes_changed}
use Rattle.record.specs.Reading.{is_whole_small, is_whole_large, block_bytes, Typed, size_of}
use Rattle.record.specs.Tables.{tables_by, tables_of}
use Rattle.record.specs.WellFormed.{is_block}
use Rattle.record.proofs.Facts.{fit_parts}
use Rattle.record.specs.declared.Pool.{Pool}
use Rattle.steps.specs.Facts.{verdict_with, verdict_by}
use Rattle.steps.specs.Objects.{place_in, place_of, free_place, state_in, shown_length, made_pool, written_pool}
use Rattle.objects.specs.Outcomes.{bytes_by, bytes_in, shown_of, shown_in}
use Rattle.objects.proofs.Outcomes.{bytes_refused, bytes_accepted}
use Rattle.steps.proofs.ObjectsFollow.{shown_place, write_place}
use Rattle.record.proofs.Exists.{every_fit_record_reads}
use Rattle.record.specs.Codes.{free_block}
use Rattle.steps.proofs.Chosen.{make_takes, read_intact, write_intact}
use Rattle.calls.specs.Contract.{Ready, Obeys, Makes, Locates, ReadsBack, summed, Writes}
use Rattle.calls.proofs.Outcomes.{blind_refused, seen_refused, make_done, read_done, write_done}
use Rattle.stores.specs.Lengths.{are_whole}
use Rattle.std.specs.Prelude.{Ok, Err, Result}

-- both stores, each by itself
pub halves : (limits : Limits) (small large : List ℕ) → are_whole limits small large ≡ true → (is_whole_small limits small ≡ true) × (is_whole_large limits large ≡ true)
halves limits small large = (and-eq-true_iff (is_whole_small limits small) (is_whole_large limits large)).0

-- the figures of a record by its entries
pub limits_of : (p : Pool) → (tables_of p).limits ≡ p.head.limits
unfolding tables_of tables_by
limits_of p = refl

-- both stores by the record's entries
pub table_halves : (p : Pool) (small large : List ℕ) → are_whole p.head.limits small large ≡ true
    → (is_whole_small (tables_of p).limits small ≡ true) × (is_whole_large (tables_of p).limits large ≡ true)
table_halves p small large whole = rw (limits_of p) (halves p.head.limits small large whole)

-- a read that is refused finds no block
pub refused_locates : (task handle : ℕ) (p : Pool) (small large : List ℕ) (r : Refusal)
    → Obeys (Use (Read task handle)) [] p small large (plain (RefusedAnswer r)) p small large
    → Locates task handle p small large (Err r)
refused_locates task handle p small large r o =
    record {
      reads = o;
      inside = λ part f. let z : ◌≡◌ {A = ℕ} 0 1 = cc in absurd (omega arith);
      summed = λ part f. let z : ◌≡◌ {A = ℕ} 0 1 = cc in absurd (omega arith);
    }

module _ {task handle : ℕ} {p : Pool} {small large : List ℕ} {f : Result Part Refusal} (l : Locates task handle p small large f) where
  pub read_refusal : {why : Refusal} → f ≡ Err why → ReadsBack task handle p small large (RefusedAnswer why) []
  read_refusal e = rw e at l.reads

  pub read_part : {part : Part} → f ≡ Ok part → ReadsBack task handle p small large Bytes (block_bytes small large part.block part.length)
  read_part e = rw e at l.reads

-- make, refused or carried out
module _ {task : ℕ} {kind : Kind} {extension size prefix : ℕ} {p : Pool} {small large : List ℕ} (types : Typed (tables_of p))
    (ready : Ready (Use (Make task kind extension size prefix)) p small large) where
  pub place_known : verdict_by (tests_of (Make task kind extension size prefix) []) (tables_of p) ≡ Ok tt
      → is_block p.head.limits (free_place p.head.limits size (tables_of p).blocks) ≡ true
  place_known v = rw (limits_of p) at (make_takes task kind extension size prefix (tables_of p) (fit_parts (tables_of p) ready.fit) types v).block.its

  pub block_in_lem : (block : ℕ) → is_block p.head.limits block ≡ true → InBlock small large block (size_of block)
  block_in_lem block known =
      let (small_whole_lem, large_whole_lem) = halves p.head.limits small large (ready.whole refl) in
      in_block p.head.limits (rw (limits_of p) at (fit_parts (tables_of p) ready.fit).allowed) small_whole_lem large_whole_lem known (omega arith)

  -- refused: no block is taken
  pub make_kept : (why : Refusal) → verdict_by (tests_of (Make task kind extension size prefix) []) (tables_of p) ≡ Err why
      → Makes task kind extension size prefix p small large (RefusedAnswer why) p small large
  unfolding tests_of verdict
  make_kept why v = blind_refused p types ready.fit small large (Make task kind extension size prefix) [] (λ i j. refl) ready.whole v

  -- accepted: the block is cleared
  pub make_cleared : {p' : Pool} (place : ℕ) → place ≡ free_place p.head.limits size (tables_of p).blocks → get_or p.blocks.handles place 0 ≡ 0 → get_or p'.blocks.handles place 0 ≡ p.head.given + 1
      → tables_of p' ≡ made_pool task kind extension size prefix (tables_of p)
      → verdict_by (tests_of (Make task kind extension size prefix) []) (tables_of p) ≡ Ok tt → {small' large' : List ℕ}
      → small' ≡ small_after place 0 (replicate (size_of place) 0) small → large' ≡ large_after place 0 (replicate (size_of place) 0) large
      → Makes task kind extension size prefix p small large (Handle (p.head.given + 1)) p' small' large'
  make_cleared {p'} place at free holds left v s l =
      rw (s, l, at)
      (rw (limits_of p) at
      (make_done p types ready.fit small large (ready.whole refl) task kind extension size prefix left v (rw (limits_of p) (place_known v)) (rw (limits_of p, ← at) free) (rw (limits_of p, ← at) holds)))

-- an object that is found, or why not
module _ {task handle : ℕ} {p : Pool} {small large : List ℕ} (types : Typed (tables_of p)) (ready : Ready (Use (Read task handle)) p small large) where
  locates_by : (v : Verdict) → verdict_with small large (tests_of (Read task handle) []) (tables_of p) ≡ v
      → Locates task handle p small large (shown_of task (tables_of p) (bytes_by v handle (tables_of p)))
  locates_by (Ok _) e =
      record {
        reads = read_done p types ready.fit small large (ready.whole refl) task handle e;
        inside = λ part f.
            let b : place_of handle (tables_of p).blocks ≡ part.block = cc in
            let n : shown_length (state_in (tables_of p).tasks task) (get_or (tables_of p).blocks (place_of handle (tables_of p).blocks) free_block) ≡ part.length = cc in
            let (small_whole_lem, large_whole_lem) = table_halves p small large (ready.whole refl) in
            let (L, reads) = every_fit_record_reads p types ready.fit small large in
            rw (← n, ← b) (shown_place ready.fit types reads small_whole_lem large_whole_lem handle
            (read_intact task handle small large (tables_of p) e).here (state_in (tables_of p).tasks task));
        summed = λ part f.
            let b : place_of handle (tables_of p).blocks ≡ part.block = cc in
            let n : (get_or (tables_of p).blocks (place_of handle (tables_of p).blocks) free_block).sum ≡ part.sum = cc in
            rw (← n, ← b) (sym (read_intact task handle small large (tables_of p) e).summed);
      }
  locates_by (Err r) e =
      refused_locates task handle p small large r
      (seen_refused p types ready.fit small large (ready.whole refl) (Read task handle) [] e)

  pub locates : (f : Result Part Refusal) → f ≡ shown_in small large (tests_of (Read task handle) []) task handle (tables_of p)
      → Locates task handle p small large f
  locates f e = rw e (locates_by (verdict_with small large (tests_of (Read task handle) []) (tables_of p)) refl)

module _ {task handle offset : ℕ} {p : Pool} {small large : List ℕ} (types : Typed (tables_of p)) (ready : Ready (Use (Write task handle offset)) p small large)
    (here : place_in handle p.blocks.handles ≡ place_of handle (tables_of p).blocks) (new : List ℕ) where
  module _ (f : Result Part Refusal) (so : f ≡ bytes_in small large (tests_of (Write task handle offset) new) handle (tables_of p)) where
    pub write_kept : (why : Refusal) → f ≡ Err why → Writes task handle offset new p small large (RefusedAnswer why) p small large
    write_kept why g =
        seen_refused p types ready.fit small large (ready.whole refl) (Write task handle offset) new
        (bytes_refused handle (tables_of p) _ (sym so ∙ g))

    module _ {part : Part} (g : f ≡ Ok part) where
      accepted : (verdict_with small large (tests_of (Write task handle offset) new) (tables_of p) ≡ Ok tt)
          × (place_of handle (tables_of p).blocks ≡ part.block)
          × ((get_or (tables_of p).blocks (place_of handle (tables_of p).blocks) free_block).length ≡ part.length)
          × ((get_or (tables_of p).blocks (place_of handle (tables_of p).blocks) free_block).sum ≡ part.sum)
      accepted = bytes_accepted handle (tables_of p) _ (sym so ∙ g)

      -- the bytes lie in the object's block, whose sum agrees
      pub write_in : InBlock small large part.block (offset + length new)
      write_in =
          let (small_whole_lem, large_whole_lem) = table_halves p small large (ready.whole refl) in
          let (L, reads) = every_fit_record_reads p types ready.fit small large in
          rw (← accepted.1) (write_place ready.fit types reads small_whole_lem large_whole_lem task handle offset new accepted.0)

      pub write_sum : part.sum ≡ sum_at small large part.block
      write_sum =
          rw (← accepted.1, ← accepted.3) (sym (write_intact task handle offset new small large (tables_of p) accepted.0).0.summed)

      -- the sum that is left is that of the bytes which are there then
      sum_left : sum_at (small_after part.block offset new small) (large_after part.block offset new large) part.block ≡ sum_after small large part.block offset new
      sum_left =
          let q = write_in in
          let whole : InBlock small large part.block (size_of part.block) = whole_block q in
          ap total ((bytes_changed offset new q).block_bytes_lem (size_of part.block) whole q.within)

      -- carried out: the record is that with the new sum
      pub write_found : {p' : Pool} → tables_of p' ≡ written_pool handle offset new small large (tables_of p) → p' ≡ summed part.block (sum_after small large part.block offset new) p
          → Writes task handle offset new p small large Done p' (small_after part.block offset new small) (large_after part.block offset new large)
      write_found {p'} left same =
          let place : place_in handle p.blocks.handles ≡ part.block = here ∙ accepted.1 in
          rw (← accepted.1)
          (write_done p types ready.fit small large (ready.whole refl) task handle offset new left accepted.0
          (rw accepted.1 (record { in_small = rw place; in_large = rw place; in_record = rw (place, sum_left) same })))
