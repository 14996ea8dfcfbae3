-- Bytes change by accepted makes and writes alone: what a call leaves tells it of one action, and the lists follow.
use Prim.Native.Nat.{ℕ, ◌+◌}
use mathlib.Core.Bool.{Bool, true, false, false≢true, true≢false, ◌||◌}
use mathlib.Core.List.{List}
use mathlib.Core.Path.{◌≡◌, refl, sym, ap, ◌∙◌}
use borrow.Author.Tests.{eqb-true, eqb-false}
use lib.Dec.{eqb}
use lib.ListN.{length, get_or}
use Rattle.std.specs.Prelude.{Ok, Err}
use Rattle.lists.specs.Tests.{any}
use Rattle.lists.proofs.Blocks.{get_or_overwritten}
use Rattle.lists.proofs.Cases.{by_test}
use Rattle.ledger.specs.Ledger.{Frame}
use Rattle.ledger.specs.Numbers.{is_refusal}
use Rattle.ledger.specs.Objects.{Reply}
use Rattle.ledger.specs.declared.Call.TheVariants.{Join, Schedule, Make, Refresh, Read, Write, Batch, Release}
use Rattle.ledger.specs.declared.Kind.{Kind}
use Rattle.ledger.specs.declared.Request.TheVariants.{Use, Report, Remaining}
use Rattle.record.specs.Reading.{is_small_block}
use Rattle.record.specs.declared.Pool.{Pool}
use Rattle.stores.specs.Places.{start_of, small_after, large_after}
use Rattle.calls.specs.Contract.{Same, LeavesMade, LeavesWritten}
use Rattle.calls.specs.Served.{IsReplyTo}
use Rattle.by_value.specs.Told.{Loans, Told}
use Rattle.ramsummer.specs.Steps.{Asked, frame_asked, bytes_asked, is_heard, Gives, Action, asks, renews, awaits, shares, Acts}
use Rattle.ramsummer.specs.Demands.{HostRuns}
use Rattle.ramsummer.specs.Bytes.{PutsIn, clears, writes, StoresLeft, stay, put, is_reached, byte_at, Unreached, is_renewal, is_look_of, is_look, BytesStay}

module _ (asked : Asked) (loans : Loans) (t : Told) (p p' : Pool) (small large small' large' : List ℕ) where
  -- an answer's stores, where 0 is told, by the frame that was asked
  module _ (zero : t.number ≡ 0) where
    made : {task : ℕ} {kind : Kind} {extension size prefix count : ℕ} → frame_asked asked ≡ Ok (Use (Make task kind extension size prefix), count)
        → length small' ≡ length small → length large' ≡ length large
        → (refused : Bool) → LeavesMade refused p small large p' small' large' → StoresLeft (asks asked loans) t p small large p' small' large'
    made e m n true (a, (s, l)) = stay s l
    made e m n false (block, q) = put block 0 _ (clears e zero q.known q.free q.holds) q.small_cleared q.large_cleared m n

    written : {task handle offset count : ℕ} → frame_asked asked ≡ Ok (Use (Write task handle offset), count)
        → length small' ≡ length small → length large' ≡ length large
        → (refused : Bool) → LeavesWritten refused handle offset (bytes_asked asked) p small large p' small' large'
        → StoresLeft (asks asked loans) t p small large p' small' large'
    written e m n true (a, (s, l)) = stay s l
    written e m n false q = put _ _ _ (writes e zero) q.in_small q.in_large m n

    stored : (frame : Frame) → frame_asked asked ≡ frame → (y : Reply) → IsReplyTo frame (bytes_asked asked) p small large y p' small' large'
        → StoresLeft (asks asked loans) t p small large p' small' large'
    stored (Ok (Use (Join task share), count)) e y o = stay o.left.0 o.left.1
    stored (Ok (Use (Schedule event task), count)) e y o = stay o.left.0 o.left.1
    stored (Ok (Use (Make task kind extension size prefix), count)) e y o = made e o.sizes.0 o.sizes.1 (is_refusal y.answer) o.left
    stored (Ok (Use (Refresh task kind extension handle), count)) e y o = stay o.left.0 o.left.1
    stored (Ok (Use (Read task handle), count)) e y o = stay o.left.1.0 o.left.1.1
    stored (Ok (Use (Write task handle offset), count)) e y o = written e o.sizes.0 o.sizes.1 (is_refusal y.answer) o.left
    stored (Ok (Use (Batch task kind extension), count)) e y o = stay o.left.0 o.left.1
    stored (Ok (Use (Release task handle), count)) e y o = stay o.left.0 o.left.1
    stored (Ok (Report, count)) e y o = stay o.left.1.0 o.left.1.1
    stored (Ok (Remaining task handle, count)) e y o = stay o.left.1.0 o.left.1.1
    stored (Err why) e y r = stay r.same_small r.same_large

  -- a look
  looked : (frame : Frame) → is_look_of frame ≡ true → (y : Reply) → IsReplyTo frame (bytes_asked asked) p small large y p' small' large' → Same p small large p' small' large'
  looked (Ok (Use (Join task share), count)) k y o = absurd (false≢true k)
  looked (Ok (Use (Schedule event task), count)) k y o = absurd (false≢true k)
  looked (Ok (Use (Make task kind extension size prefix), count)) k y o = absurd (false≢true k)
  looked (Ok (Use (Refresh task kind extension handle), count)) k y o = absurd (false≢true k)
  looked (Ok (Use (Read task handle), count)) k y o = o.left
  looked (Ok (Use (Write task handle offset), count)) k y o = absurd (false≢true k)
  looked (Ok (Use (Batch task kind extension), count)) k y o = absurd (false≢true k)
  looked (Ok (Use (Release task handle), count)) k y o = absurd (false≢true k)
  looked (Ok (Report, count)) k y o = o.left
  looked (Ok (Remaining task handle, count)) k y o = o.left
  looked (Err why) k y r = (r.same_pool, (r.same_small, r.same_large))

  module _ (g : Gives asked loans p small large t p' small' large') where
    -- a number that is not 0
    refused : eqb t.number 0 ≡ false → Same p small large p' small' large'
    refused n = let (a, s, l) = g.kept (eqb-false _ _ n) in (a, (s, l))

    unheard : is_heard asked loans ≡ false → eqb t.number 0 ≡ false
    unheard h = rw (g.unheard h)

    asked_stores : StoresLeft (asks asked loans) t p small large p' small' large'
    asked_stores =
        by_test (eqb t.number 0)
        (λ n.
        by_test (is_heard asked loans)
        (λ h. let (y, r, told) = g.heard h in stored (eqb-true _ _ n) (frame_asked asked) refl y r)
        (λ h. absurd (true≢false (sym n ∙ unheard h))))
        (λ n. let (a, (s, l)) = refused n in stay s l)

    asked_looks : is_look_of (frame_asked asked) ≡ true → Same p small large p' small' large'
    asked_looks k =
        by_test (is_heard asked loans)
        (λ h. let (y, r, told) = g.heard h in looked (frame_asked asked) k y r)
        (λ h. refused (unheard h))

each : (d : Action) (t : Told) (p p' : Pool) (small large small' large' : List ℕ) → is_renewal d ≡ false → Acts d p small large t p' small' large'
    → StoresLeft d t p small large p' small' large'
each (asks asked loans) t p p' small large small' large' k g = asked_stores asked loans t p p' small large small' large' g
each (renews limits new_small new_large whole) t p p' small large small' large' k g = absurd (true≢false k)
each (awaits old) t p p' small large small' large' k g = stay g.same_small g.same_large
each (shares task old) t p p' small large small' large' k g = stay g.same_small g.same_large

looking : (d : Action) (t : Told) (p p' : Pool) (small large small' large' : List ℕ) → is_look d ≡ true → Acts d p small large t p' small' large'
    → Same p small large p' small' large'
looking (asks asked loans) t p p' small large small' large' k g = asked_looks asked loans t p p' small large small' large' g k
looking (renews limits new_small new_large whole) t p p' small large small' large' k g = absurd (false≢true k)
looking (awaits old) t p p' small large small' large' k g = (g.same_pool, (g.same_small, g.same_large))
looking (shares task old) t p p' small large small' large' k g = (g.same_pool, (g.same_small, g.same_large))

-- a byte that an action does not reach
byte_stays : {d : Action} {t : Told} {p p' : Pool} {small large small' large' : List ℕ} (ofSmall : Bool) (at : ℕ) → StoresLeft d t p small large p' small' large'
    → ((block offset : ℕ) (bytes : List ℕ) → PutsIn d t p p' block offset bytes → is_reached ofSmall at block offset (length bytes) ≡ false)
    → byte_at ofSmall small' large' at ≡ byte_at ofSmall small large at
unfolding small_after large_after
byte_stays ofSmall at (stay s l) past = rw (s, l)
byte_stays {small = small} true at (put block offset bytes q s l m n) past =
    by_test (is_small_block block)
    (λ b. let here = rw b at s in
    ap (λ xs. get_or xs at 0) here ∙ get_or_overwritten (start_of block + offset) bytes small (sym (ap length here) ∙ m) at 0 (rw b at (past block offset bytes q)))
    (λ b. ap (λ xs. get_or xs at 0) (rw b at s))
byte_stays {large = large} false at (put block offset bytes q s l m n) past =
    by_test (is_small_block block)
    (λ b. ap (λ xs. get_or xs at 0) (rw b at l))
    (λ b. let here = rw b at l in
    ap (λ xs. get_or xs at 0) here ∙ get_or_overwritten (start_of block + offset) bytes large (sym (ap length here) ∙ n) at 0 (rw b at (past block offset bytes q)))

neither : (a b : Bool) → (a || b) ≡ false → (a ≡ false) × (b ≡ false)
neither true b e = absurd (true≢false e)
neither false b e = (refl, e)

every : {p p' : Pool} {small small' large large' : List ℕ} {ds : List Action} {ts : List Told} (run : HostRuns p small large ds ts p' small' large')
    → any is_renewal ds ≡ false → (ofSmall : Bool) (at : ℕ) → Unreached ofSmall at run → byte_at ofSmall small' large' at ≡ byte_at ofSmall small large at
every HostRuns.done none ofSmall at past = refl
every (HostRuns.step {d = d} {ds = ds} acts rest) none ofSmall at (here, later) =
    let (first, others) = neither (is_renewal d) (any is_renewal ds) none in
    every rest others ofSmall at later ∙ byte_stays ofSmall at (each d _ _ _ _ _ _ _ first acts) here

pub bytes_stay : BytesStay
bytes_stay = record { each = each; every = every; looking = looking }
