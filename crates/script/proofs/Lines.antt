-- Lines carried out one after the other: what they keep, and that they follow the ledger.
use Prim.Native.Nat.{ℕ}
use mathlib.Core.Bool.{true}
use mathlib.Core.List.{List, [], ◌∷◌, ◌++◌, append_assoc}
use mathlib.Core.Path.{◌≡◌, refl, ap₂, ◌∙◌}
use lib.ListN.{length}
use Rattle.std.specs.Prelude.{Ok, Err}
use Rattle.ledger.specs.Objects.{Reply}
use Rattle.ledger.specs.Ledger.{Ledger, reply_to_frame, after_frame, Frame}
use Rattle.record.specs.Pools.{is_well_formed, Reads}
use Rattle.record.specs.declared.Pool.{Pool}
use Rattle.stores.specs.Lengths.{are_whole}
use Rattle.calls.specs.Contract.{Ready}
use Rattle.steps.proofs.Staying.{limits_stay}
use Rattle.frames.specs.Frames.{frame_of}
use Rattle.calls.specs.Served.{IsReplyTo}
use Rattle.script.specs.Output.{after_line, replies_to_lines, after_lines, answer_lines, LinesRun, done, carried}

-- A well-formed record stays so, and figures and the stores' lengths are the same.
pub record Keeps (p : Pool) (small large : List ℕ) (p' : Pool) (small' large' : List ℕ) : Type 0 where
  pub fit : is_well_formed p ≡ true → is_well_formed p' ≡ true
  pub limits : p'.head.limits ≡ p.head.limits
  pub sizes : (length small' ≡ length small) × (length large' ≡ length large)

keeps_all : {p : Pool} {small large : List ℕ} → Keeps p small large p small large
keeps_all = record { fit = λ w. w; limits = refl; sizes = (refl, refl) }

-- What a frame makes of a record with its stores: it keeps that, and follows the ledger where they are whole.
record Turn (frame : Frame) (bytes : List ℕ) (p : Pool) (small large : List ℕ) (y : Reply) (p' : Pool) (small' large' : List ℕ) : Type 0 where
  keeps : Keeps p small large p' small' large'
  follows : is_well_formed p ≡ true → are_whole p.head.limits small large ≡ true → (L : Ledger) → Reads p small large L
      → (y ≡ reply_to_frame L frame bytes) × Reads p' small' large' (after_frame L frame bytes)

turn : (frame : Frame) {bytes : List ℕ} {p p' : Pool} {small small' large large' : List ℕ} {y : Reply} → IsReplyTo frame bytes p small large y p' small' large'
    → Turn frame bytes p small large y p' small' large'
turn (Ok (request, count)) {p = p} {small = small} {large = large} o =
    record {
      keeps = record { fit = o.fits; limits = limits_stay _ _ o.stays; sizes = o.sizes };
      follows = λ w whole L reads.
          let ready : Ready request p small large = record { fit = w; whole = λ e. whole } in (o.answers ready L reads, o.leaves ready L reads);
    }
turn (Err why) r =
    rw (r.same_pool, r.same_small, r.same_large) (record { keeps = keeps_all; follows = λ w whole L reads. (r.refused, reads) })

pub lines_keep : {p p' : Pool} {small small' large large' : List ℕ} {lines : List (List ℕ)} {ys : List Reply} → LinesRun p small large lines ys p' small' large'
    → Keeps p small large p' small' large'
lines_keep done = keeps_all
lines_keep (carried {line = line} o rest) =
    let first = (turn (frame_of line) o).keeps in
    let others = lines_keep rest in
    record {
      fit = λ w. others.fit (first.fit w);
      limits = others.limits ∙ first.limits;
      sizes = (others.sizes.0 ∙ first.sizes.0, others.sizes.1 ∙ first.sizes.1);
    }

-- from any well-formed record that reads as a ledger, with whole stores
pub lines_follow : {p p' : Pool} {small small' large large' : List ℕ} {lines : List (List ℕ)} {ys : List Reply} → LinesRun p small large lines ys p' small' large'
    → is_well_formed p ≡ true → are_whole p.head.limits small large ≡ true → (L : Ledger) → Reads p small large L
    → (ys ≡ replies_to_lines L lines) × Reads p' small' large' (after_lines L lines)
unfolding replies_to_lines after_lines
lines_follow done w whole L reads = (refl, reads)
lines_follow (carried {line = line} o rest) w whole L reads =
    let t = turn (frame_of line) o in
    let k = t.keeps in
    let (same, after) = t.follows w whole L reads in
    let (others, left) = lines_follow rest (k.fit w) (rw (k.sizes.0, k.sizes.1, k.limits) whole) (after_line L line) after in
    (ap₂ ◌∷◌ same others, left)

-- lines after lines
pub runs_on : {p p' p'' : Pool} {small small' small'' large large' large'' : List ℕ} {lines lines' : List (List ℕ)} {ys ys' : List Reply}
    → LinesRun p small large lines ys p' small' large' → LinesRun p' small' large' lines' ys' p'' small'' large''
    → LinesRun p small large (lines ++ lines') (ys ++ ys') p'' small'' large''
runs_on done later = later
runs_on (carried o rest) later = carried o (runs_on rest later)

pub answer_lines_on : (ys ys' : List Reply) → answer_lines (ys ++ ys') ≡ answer_lines ys ++ answer_lines ys'
unfolding answer_lines
answer_lines_on [] ys' = refl
answer_lines_on (y ∷ ys) ys' = rw (answer_lines_on ys ys', append_assoc)
