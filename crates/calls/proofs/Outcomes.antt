-- Each call of objects on a well-formed record with what it tests by, refused or carried out, meets its contract.
use Prim.Native.Nat.{ℕ, ◌+◌}
use mathlib.Core.Bool.{Bool, true, false≢true, and-eq-true_iff}
use mathlib.Core.List.{List, []}
use mathlib.Core.Path.{◌≡◌, refl, ◌∙◌}
use lib.ListN.{get_or, replicate}
use Rattle.ledger.specs.Objects.{plain, handles_of}
use Rattle.ledger.specs.Ledger.{Ledger, verdict_on}
use Rattle.ledger.specs.Refusals.{verdict, as_verdict}
use Rattle.ledger.specs.Rules.{reply_to, memory_after, expirations_after, tests_of}
use Rattle.ledger.specs.declared.Kind.{Kind}
use Rattle.ledger.specs.declared.Answer.TheVariants.{Done, Handle, Bytes, Refused as RefusedAnswer}
use Rattle.ledger.specs.declared.Call.{Call}
use Rattle.ledger.specs.declared.Call.TheVariants.{Make, Refresh, Read, Write, Batch, Release}
use Rattle.ledger.specs.declared.Refusal.{Refusal}
use Rattle.ledger.specs.declared.Request.TheVariants.{Use}
use Rattle.stores.specs.Places.{small_after, large_after}
use Rattle.record.specs.Reading.{is_whole_small, is_whole_large, block_bytes, Typed, size_of}
use Rattle.record.specs.Tables.{tables_by, tables_of}
use Rattle.record.specs.Pools.{is_well_formed, Reads}
use Rattle.record.specs.WellFormed.{is_block}
use Rattle.record.specs.declared.Pool.{Pool}
use Rattle.record.proofs.Facts.{fit_parts}
use Rattle.record.proofs.Exists.{every_fit_record_reads}
use Rattle.steps.specs.Facts.{facts_by, verdict_with, verdict_by}
use Rattle.steps.specs.Objects.{place_of, block_of, free_place, state_in, shown_length, made_pool, refreshed_pool, batched_pool, written_pool, released_pool}
use Rattle.steps.proofs.Chosen.{Renewed, make_takes, refresh_takes, release_known, read_intact}
use Rattle.steps.proofs.Finding.{every_object_stands}
use Rattle.steps.proofs.StoreBytes.{made_bytes}
use Rattle.steps.proofs.Staying.{same_stays, make_stays, refresh_stays, write_stays}
use Rattle.steps.proofs.Verdicts.{verdict_alike, verdict_with_lem}
use Rattle.steps.proofs.ObjectsFollow.{same_given, make_fits, make_reads, refresh_fits, refresh_reads, read_bytes, write_fits, write_sizes, write_reads}
use Rattle.steps.proofs.Batches.{batch_fits, batch_reads, batch_stays}
use Rattle.steps.proofs.Releases.{release_fits, release_reads, release_stays}
use Rattle.calls.specs.Contract.{is_stored, Obeys, Written}
use Rattle.stores.specs.Lengths.{are_whole}
use Rattle.calls.proofs.Promises.{refused_obeys, carried_obeys}
use Rattle.std.specs.Prelude.{Ok, Err}

module _ (p : Pool) (types : Typed (tables_of p)) (w : is_well_formed p ≡ true) (small large : List ℕ) where
  -- the ledger that the record reads as with these stores
  some : (L : Ledger) × Reads p small large L
  some = every_fit_record_reads p types w small large

  -- the ledger's verdict on a call that looks at no bytes is the record's, and so is its refusal
  module _ (call : Call) (new : List ℕ)
      (blind : (i j : ℕ → Bool) → verdict (facts_by i (tables_of p)) (tests_of call new)
      ≡ verdict (facts_by j (tables_of p)) (tests_of call new)) where
    pub blind_alike : {L : Ledger} → Reads p small large L → as_verdict (verdict_on L call new) ≡ verdict_by (tests_of call new) (tables_of p)
    blind_alike reads = verdict_alike types (fit_parts (tables_of p) w) reads (tests_of call new) blind

    pub blind_refused : (is_stored (Use call) ≡ true → are_whole p.head.limits small large ≡ true) → {r : Refusal}
        → verdict_by (tests_of call new) (tables_of p) ≡ Err r
        → Obeys (Use call) new p small large (plain (RefusedAnswer r)) p small large
    blind_refused whole v = refused_obeys call new p small large w whole _ (λ L reads. blind_alike reads ∙ v)

  -- refresh, whatever the stores
  module _ (task : ℕ) (kind : Kind) (extension handle : ℕ) where
    renewed : verdict_by (tests_of (Refresh task kind extension handle) []) (tables_of p) ≡ Ok tt
        → Renewed task kind extension handle (tables_of p)
    renewed v = refresh_takes task kind extension handle (tables_of p) (fit_parts (tables_of p) w) types v

    pub refresh_done : {p' : Pool} → tables_of p' ≡ refreshed_pool task kind extension handle (tables_of p)
        → verdict_by (tests_of (Refresh task kind extension handle) []) (tables_of p) ≡ Ok tt
        → Obeys (Use (Refresh task kind extension handle)) [] p small large (plain Done) p' small large
    unfolding reply_to tests_of verdict
    refresh_done {p'} left v =
        carried_obeys _ [] p small large w (λ s. absurd (false≢true s)) (plain Done) p' small large refl
        (λ L reads. blind_alike (Refresh task kind extension handle) [] (λ i j. refl) reads ∙ v)
        (λ L reads. refl) (λ L reads. rw left (refresh_reads w types reads task kind extension handle (renewed v)))
        (rw left (refresh_fits w types some.1 task kind extension handle (renewed v)))
        (rw left (refresh_stays task kind extension handle (tables_of p))) (refl, refl) (refl, refl)

  -- batch, whatever the stores
  module _ (task : ℕ) (kind : Kind) (extension : ℕ) (new : List ℕ) where
    pub batch_done : {p' : Pool} → tables_of p' ≡ batched_pool task kind extension (handles_of new) (tables_of p)
        → verdict_by (tests_of (Batch task kind extension) new) (tables_of p) ≡ Ok tt
        → Obeys (Use (Batch task kind extension)) new p small large (plain Done) p' small large
    unfolding reply_to tests_of verdict
    batch_done {p'} left v =
        carried_obeys _ new p small large w (λ s. absurd (false≢true s)) (plain Done) p' small large refl
        (λ L reads. blind_alike (Batch task kind extension) new (λ i j. refl) reads ∙ v)
        (λ L reads. refl) (λ L reads. rw left (batch_reads w types reads task kind extension new v))
        (rw left (batch_fits w types some.1 task kind extension new v)) (rw left (batch_stays task kind extension (handles_of new) (tables_of p))) (refl, refl) (refl, refl)

  -- release, whatever the stores
  module _ (task handle : ℕ) where
    pub release_done : {p' : Pool} → tables_of p' ≡ released_pool handle (tables_of p)
        → verdict_by (tests_of (Release task handle) []) (tables_of p) ≡ Ok tt
        → Obeys (Use (Release task handle)) [] p small large (plain Done) p' small large
    unfolding reply_to tests_of verdict
    release_done {p'} left v =
        carried_obeys _ [] p small large w (λ s. absurd (false≢true s)) (plain Done) p' small large refl
        (λ L reads. blind_alike (Release task handle) [] (λ i j. refl) reads ∙ v)
        (λ L reads. refl) (λ L reads. rw left (release_reads w types reads task handle (release_known task handle (tables_of p) v).here))
        (rw left (release_fits w types some.1 task handle (release_known task handle (tables_of p) v).here))
        (rw left (release_stays handle (tables_of p))) (refl, refl) (refl, refl)

  -- the calls that test 14 first
  module _ (whole : are_whole p.head.limits small large ≡ true) where
    small_whole_lem : is_whole_small (tables_of p).limits small ≡ true
    unfolding tables_of tables_by
    small_whole_lem = ((and-eq-true_iff (is_whole_small p.head.limits small) (is_whole_large p.head.limits large)).0 whole).0

    large_whole_lem : is_whole_large (tables_of p).limits large ≡ true
    unfolding tables_of tables_by
    large_whole_lem = ((and-eq-true_iff (is_whole_small p.head.limits small) (is_whole_large p.head.limits large)).0 whole).1

    -- on one that looks at them too
    module _ (call : Call) (new : List ℕ) where
      seen_alike : {L : Ledger} → Reads p small large L → as_verdict (verdict_on L call new)
          ≡ verdict_with small large (tests_of call new) (tables_of p)
      seen_alike reads = verdict_with_lem types (fit_parts (tables_of p) w) reads small_whole_lem large_whole_lem (tests_of call new)

      pub seen_refused : {r : Refusal} → verdict_with small large (tests_of call new) (tables_of p) ≡ Err r
          → Obeys (Use call) new p small large (plain (RefusedAnswer r)) p small large
      seen_refused v = refused_obeys call new p small large w (λ s. whole) _ (λ L reads. seen_alike reads ∙ v)

    module _ (task : ℕ) (kind : Kind) (extension size prefix : ℕ) where
      pub make_done : {p' : Pool} → tables_of p' ≡ made_pool task kind extension size prefix (tables_of p)
          → verdict_by (tests_of (Make task kind extension size prefix) []) (tables_of p) ≡ Ok tt
          → (let place = free_place (tables_of p).limits size (tables_of p).blocks in
          is_block (tables_of p).limits place ≡ true → get_or p.blocks.handles place 0 ≡ 0 → get_or p'.blocks.handles place 0 ≡ p.head.given + 1
          → (let zeros : List ℕ = replicate (size_of place) 0 in
          Obeys (Use (Make task kind extension size prefix)) [] p small large (plain (Handle (p.head.given + 1))) p' (small_after place 0 zeros small) (large_after place 0 zeros large)))
      unfolding reply_to tables_of tables_by tests_of verdict
      make_done {p'} left v known free holds =
          let fit = fit_parts (tables_of p) w in
          let taken = make_takes task kind extension size prefix (tables_of p) fit types v in
          let bytes = made_bytes (tables_of p).limits fit.allowed small large small_whole_lem large_whole_lem _ taken.block.its in
          carried_obeys _ [] p small large w (λ s. whole) (plain (Handle (p.head.given + 1))) p' _ _ refl
          (λ L reads. blind_alike (Make task kind extension size prefix) [] (λ i j. refl) reads ∙ v)
          (λ L reads. rw (same_given w types reads))
          (λ L reads. rw left (make_reads w types reads small_whole_lem large_whole_lem task kind extension size prefix v))
          (rw left (make_fits w types some.1 task kind extension size prefix v)) (rw left (make_stays task kind extension size prefix (tables_of p) taken.block.listed))
          (bytes.small_size_lem, bytes.large_size_lem)
          (_, record { known = known; free = free; holds = holds; small_cleared = refl; large_cleared = refl })

    module _ (task handle : ℕ) where
      pub read_done : verdict_with small large (tests_of (Read task handle) []) (tables_of p) ≡ Ok tt
          → Obeys (Use (Read task handle)) [] p small large
          (record { answer = Bytes; bytes = block_bytes small large (place_of handle (tables_of p).blocks) (shown_length (state_in (tables_of p).tasks task) (block_of handle (tables_of p).blocks)) }) p small large
      unfolding reply_to memory_after expirations_after
      read_done v =
          carried_obeys _ [] p small large w (λ s. whole) _ p small large refl
          (λ L reads. seen_alike (Read task handle) [] reads ∙ v)
          (λ L reads. rw (read_bytes w types reads small_whole_lem large_whole_lem task handle
          (read_intact task handle small large (tables_of p) v).here))
          (λ L reads. rw (every_object_stands (fit_parts (tables_of p) w) reads) reads) w (same_stays refl refl refl) (refl, refl) (refl, (refl, refl))

      module _ (offset : ℕ) (new : List ℕ) where
        pub write_done : {p' : Pool} → tables_of p' ≡ written_pool handle offset new small large (tables_of p)
            → verdict_with small large (tests_of (Write task handle offset) new) (tables_of p) ≡ Ok tt
            → Written handle offset new p small large p'
            (small_after (place_of handle (tables_of p).blocks) offset new small) (large_after (place_of handle (tables_of p).blocks) offset new large)
            → Obeys (Use (Write task handle offset)) new p small large (plain Done) p'
            (small_after (place_of handle (tables_of p).blocks) offset new small) (large_after (place_of handle (tables_of p).blocks) offset new large)
        unfolding reply_to
        write_done {p'} left v done =
            carried_obeys _ new p small large w (λ s. whole) (plain Done) p' _ _ refl
            (λ L reads. seen_alike (Write task handle offset) new reads ∙ v)
            (λ L reads. refl) (λ L reads. rw left (write_reads w types reads small_whole_lem large_whole_lem task handle offset new v))
            (rw left (write_fits w types some.1 handle offset new)) (rw left (write_stays handle offset new small large (tables_of p)))
            (write_sizes w types some.1 small_whole_lem large_whole_lem task handle offset new v) done
