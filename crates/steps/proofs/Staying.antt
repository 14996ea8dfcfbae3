-- Objects that stand on stay in their blocks: an event only frees blocks, a make sets one that was free, a refresh none, a write the sum of
-- one.
use Prim.Native.Nat.{ℕ, ◌<◌}
use native.Mathlib.Omega.{arith}
use mathlib.Core.Bool.{Bool}
use mathlib.Core.List.{List}
use mathlib.Core.Logic.{◌≢◌}
use mathlib.Core.Path.{◌≡◌, refl, sym, ap, ◌∙◌}
use borrow.Author.Tests.{eqb-true, eqb-false, eq-eqb, ne_eqb}
use lib.Dec.{eqb}
use lib.ListN.{length, get_or}
use lib.Seq.{get_or-set_same, get_or-set_other}
use Rattle.lists.specs.Tests.{any}
use Rattle.lists.specs.Tables.{map_from}
use Rattle.lists.proofs.Cases.{by_test}
use Rattle.ledger.specs.Tasks.{is_tested}
use Rattle.ledger.specs.declared.Event.{Event}
use Rattle.ledger.specs.declared.Kind.{Kind}
use Rattle.record.specs.Codes.{free_block}
use Rattle.record.specs.WellFormed.{is_naming}
use Rattle.record.specs.declared.TaskEntry.{TaskEntry}
use Rattle.record.specs.declared.GlobalTime.{GlobalTime}
use Rattle.record.specs.declared.Pool.{Pool}
use Rattle.record.specs.Tables.{ExpirationEntry, Tables, tables_by, tables_of}
use Rattle.record.proofs.Facts.{fit_parts, fit_used}
use Rattle.record.proofs.Distinct.{handle_at, same_handle}
use Rattle.steps.specs.Events.{verdict_at, kept_block, swept, orphaned_pool, moved_pool, pool_after, outcome_by, scheduled}
use Rattle.steps.specs.Objects.{free_place, made_pool, refreshed_pool, written_pool}
use Rattle.steps.specs.Staying.{Stays, OneBlock}
use Rattle.steps.proofs.KeptBlocks.{block_left}
use Rattle.steps.proofs.Orphans.{stays_orphaned}
use Rattle.steps.proofs.Summed.{summed_handle, summed_length}
use Rattle.ledger.specs.Refusals.{Verdict}
use Rattle.std.specs.Prelude.{Ok, Err}

-- blocks that are the same, and no handle more
pub same_stays : {p p' : Tables} → p'.limits ≡ p.limits → p'.blocks ≡ p.blocks → p'.given ≡ p.given → Stays p p'
same_stays l e g = record { limits = l; given = omega (arith, g); same = λ block used given. rw e (refl, refl) }

-- no call changes the figures
pub limits_stay : (p p' : Pool) → Stays (tables_of p) (tables_of p') → p'.head.limits ≡ p.head.limits
unfolding tables_of tables_by
limits_stay p p' s = s.limits

-- one call after another
pub stays_on : {p p' p'' : Tables} → Stays p p' → Stays p' p'' → Stays p p''
stays_on {p} {p'} a b =
    record {
      limits = b.limits ∙ a.limits;
      given = omega (arith, a.given, b.given);
      same = λ block used given.
          let later = b.same block used (omega (arith, given, a.given)) in
          let earlier = a.same block (rw later.0 at used) (rw later.0 at given) in
          (later.0 ∙ earlier.0, later.1 ∙ earlier.1);
    }

-- a block that nothing names is freed
pub kept_stays : (p : Tables) {tasks : List TaskEntry} {global : GlobalTime} (xs : List ExpirationEntry)
    → Stays p (record { limits = p.limits; tasks = tasks; global = global; given = p.given; shares = p.shares; blocks = map_from 0 (kept_block xs) p.blocks; expirations = xs })
kept_stays p xs =
    record {
      limits = refl;
      given = omega arith;
      same = λ block.
          rw (block_left xs p.blocks block)
          (by_test (any (is_naming block) xs) (λ named. rw named (λ used given. (refl, refl))) (λ none. rw none (λ used given. absurd (omega arith))));
    }

-- by an event
swept_stays : (leaver : ℕ) (advanced : Bool) (tasks : List TaskEntry) (global : GlobalTime) (p : Tables) → Stays p (swept leaver advanced tasks global p)
unfolding swept
swept_stays leaver advanced tasks global p = kept_stays p _

moved_stays : (event : Event) (task : ℕ) (p : Tables) → Stays p (moved_pool event task p)
unfolding moved_pool
moved_stays event task p = by_test (is_tested event) (λ t. rw t (swept_stays _ _ _ _ p)) (λ t. rw t (same_stays refl refl refl))

stays_by : (v : Verdict) (event : Event) (task : ℕ) (p : Tables) → Stays p (outcome_by v event task p).pool
unfolding pool_after
stays_by (Ok _) event task p = stays_on (stays_orphaned event task p) (moved_stays event task (orphaned_pool event task p))
stays_by (Err r) event task p = same_stays refl refl refl

pub event_stays : (event : Event) (task : ℕ) (p : Tables) → Stays p (scheduled event task p).pool
unfolding scheduled
event_stays event task p = stays_by (verdict_at event task p.tasks) event task p

-- a make: the one block that it sets has a handle that was not given
pub make_stays : (task : ℕ) (kind : Kind) (extension size prefix : ℕ) (p : Tables) → free_place p.limits size p.blocks < length p.blocks
    → Stays p (made_pool task kind extension size prefix p)
unfolding made_pool
make_stays task kind extension size prefix p listed =
    let place = free_place p.limits size p.blocks in
    record {
      limits = refl;
      given = omega arith;
      same = λ block.
          by_test (eqb block place)
          (λ here. rw (eqb-true block place here, get_or-set_same p.blocks place _ free_block listed) (λ used given. absurd (omega arith)))
          (λ other. rw (get_or-set_other p.blocks place block _ free_block (eqb-false block place other)) (λ used given. (refl, refl)));
    }

pub refresh_stays : (task : ℕ) (kind : Kind) (extension handle : ℕ) (p : Tables) → Stays p (refreshed_pool task kind extension handle p)
unfolding refreshed_pool
refresh_stays task kind extension handle p = same_stays refl refl refl

-- a write: the block that it sets has another sum only
pub write_stays : (handle offset : ℕ) (new small large : List ℕ) (p : Tables) → Stays p (written_pool handle offset new small large p)
unfolding written_pool
write_stays handle offset new small large p =
    record { limits = refl; given = omega arith; same = λ block used given. (summed_handle _ _ p block, summed_length _ _ p block) }

-- an object that stands on has one block
pub one_block : OneBlock
one_block p p' w stays before after used its =
    let fit = fit_parts p w in
    let held : handle_at p.blocks before ≢ 0 = λ z. omega (arith, used, z) in
    let numbered = (fit_used fit before (ne_eqb (handle_at p.blocks before) 0 held)).numbered in
    let same = stays.same after (omega (arith, its, used)) (omega (arith, its, numbered)) in
    let there : handle_at p.blocks after ≡ handle_at p.blocks before = sym same.0 ∙ its in
    let here = eqb-true after before (sym (same_handle p.blocks fit.distinct before after held) ∙ eq-eqb _ _ there) in
    (here, same.1 ∙ ap (λ (i : ℕ). (get_or p.blocks i free_block).length) here)
