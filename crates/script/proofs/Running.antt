-- A script run line by line: what holds before each line, what a line makes of it, and what is left at the end.
use Prim.Native.Nat.{ℕ, ◌+◌, ◌-◌, ◌≤◌, ◌<◌}
use native.Mathlib.Omega.{arith}
use mathlib.Core.Bool.{true}
use mathlib.Core.List.{List, [], ◌∷◌, ◌++◌, append_assoc, append-nil}
use mathlib.Core.Path.{◌≡◌, refl, ◌∙◌}
use borrow.Author.Tests.{eq-eqb, ltb-true, ltb-false}
use lib.Dec.{ltb}
use lib.ListN.{length, take, drop}
use denote.Ref.{Bor}
use Rattle.std.specs.Prelude.{Option, Some, None, Ok, Err}
use Rattle.lists.specs.Blocks.{overwritten}
use Rattle.lists.proofs.Blocks.{length_overwritten}
use Rattle.lists.proofs.Cases.{by_test}
use Rattle.ledger.specs.Ledger.{Frame}
use Rattle.ledger.specs.Limits.{large_size}
use Rattle.ledger.specs.Objects.{Reply}
use Rattle.ledger.specs.declared.Answer.TheVariants.{Refused}
use Rattle.ledger.specs.declared.Refusal.{Refusal}
use Rattle.ledger.specs.declared.Request.{Request}
use Rattle.record.specs.Tables.{tables_by, tables_of, block_list}
use Rattle.record.specs.declared.Pool.{Pool}
use Rattle.record.proofs.Facts.{fit_parts}
use Rattle.shares.specs.Holdings.{LengthsFit}
use Rattle.shares.proofs.Placing.{placed_fit}
use Rattle.stores.specs.Lengths.{are_whole}
use Rattle.calls.specs.Contract.{Ready}
use Rattle.calls.specs.Served.{Called, reply_of, Serves, IsReplyTo}
use Rattle.answers.specs.Answers.{answer_line, longest_answer}
use Rattle.frames.specs.Frames.{frame_of, payload_of, Decodes}
use Rattle.text.specs.Hex.{Puts}
use Rattle.text.specs.Lines.{lines_of, line_at}
use Rattle.text.proofs.Puts.{puts_on}
use Rattle.frames.proofs.Payloads.{payload_front}
use Rattle.text.proofs.Scripts.{lines_on, next_within}
use Rattle.script.specs.Output.{answer_lines, Runnable, LinesRun, done, carried, Continues}
use Rattle.text.specs.Reader.{line_in, Steps}
use Rattle.text.specs.declared.reader.Reader.{Reader}
use Rattle.script.proofs.Lines.{Keeps, lines_keep, runs_on, answer_lines_on}

-- the stores are as long as the blocks need
stores_whole : {p : Pool} {small large script : List ℕ} {at : ℕ} → Runnable p small large script at → are_whole p.head.limits small large ≡ true
stores_whole r = rw (eq-eqb _ _ r.small_whole, eq-eqb _ _ r.large_whole)

pub ready : {p : Pool} {small large script : List ℕ} {at : ℕ} (request : Request) → Runnable p small large script at → Ready request p small large
ready request r = record { fit = r.fit; whole = λ e. stores_whole r }

-- what is in use has a length of its block's store
pub placed : {p : Pool} {small large script : List ℕ} {at : ℕ} → Runnable p small large script at → LengthsFit (block_list p.blocks)
unfolding tables_of tables_by
placed {p} r = placed_fit (fit_parts (tables_of p) r.fit)

-- a reader's step at a place of a script: its line, and where the next one starts
pub record Stepped (script : List ℕ) (at : ℕ) (line : List ℕ) (after : Reader) : Type 0 where
  pub more : at < length script
  pub line_is : line ≡ line_in script at
  pub next : after.next ≡ (line_at script at).next
  pub whole : after.script.now ≡ script

module _ (reader : Reader) {after : Reader} {found : Option (Bor (List ℕ))} {script : List ℕ} (s : Steps reader found after) (whole : reader.script.now ≡ script) where
  pub stepped : {line : Bor (List ℕ)} → found ≡ Some line → Stepped script reader.next line.now after
  stepped e =
      let (more, line, same, next) = rw e at s in
      record { more = rw whole at more; line_is = line ∙ rw whole; next = next ∙ rw whole; whole = rw same whole }

  pub at_end : found ≡ None → (length script ≤ reader.next) × (after ≡ reader)
  at_end e = let (none, same) = rw e at s in (rw whole at none, same)

-- a line that was read: a run of one
module _ {line old new : List ℕ} {frame : Frame} (d : Decodes line old frame new) {p : Pool} {small large : List ℕ} where
  one_run : {f : Frame} → frame ≡ f → {y : Reply} {p' : Pool} {small' large' : List ℕ} → IsReplyTo f (payload_of line) p small large y p' small' large'
      → LinesRun p small large (line ∷ []) (y ∷ []) p' small' large'
  one_run e {y} {p'} {small'} {large'} o =
      let replied : IsReplyTo (frame_of line) (payload_of line) p small large y p' small' large' = rw (← d.frame, e) o in carried replied done

  pub refused_run : {why : Refusal} → frame ≡ Err why → {none : List ℕ} → none ≡ []
      → LinesRun p small large (line ∷ []) (record { answer = Refused why; bytes = none } ∷ []) p small large
  refused_run e z = one_run e (record { refused = rw z; same_pool = refl; same_small = refl; same_large = refl })

  pub served_run : {request : Request} {count : ℕ} → frame ≡ Ok (request, count)
      → {r : Called} {small' large' : List ℕ} → Serves request (take count new) p small large r small' large'
      → LinesRun p small large (line ∷ []) (reply_of r small' large' ∷ []) r.pool small' large'
  served_run e s = one_run e (rw (payload_front (rw e at d)) at s.obeys)

-- What holds before each line.
pub record Running (p₀ : Pool) (small₀ large₀ script : List ℕ) (start : ℕ) (out₀ : List ℕ) (p : Pool) (small large out bytes : List ℕ) (at written : ℕ) : Type 0 where
  pub begun : Runnable p₀ small₀ large₀ script start
  pub lines : List (List ℕ)
  pub replies : List Reply
  pub run : LinesRun p₀ small₀ large₀ lines replies p small large
  pub between : lines_of (drop start script) ≡ lines ++ lines_of (drop at script)
  pub put : Puts 0 (answer_lines replies) out₀ out written
  pub size : length out ≡ length out₀
  pub fits : written ≤ length out
  pub from : start ≤ at
  pub within : at ≤ length script
  pub unmoved : at ≡ start → written ≡ 0
  pub buffer : length bytes ≡ large_size

pub run_starts : {p : Pool} {small large script : List ℕ} {start : ℕ} (out bytes : List ℕ) → Runnable p small large script start → length bytes ≡ large_size
    → Running p small large script start out p small large out bytes start 0
unfolding overwritten answer_lines
run_starts out bytes r b =
    record {
      begun = r;
      lines = [];
      replies = [];
      run = done;
      between = refl;
      put = record { bytes = refl; next = refl };
      size = refl;
      fits = omega arith;
      from = omega arith;
      within = r.within;
      unmoved = λ e. refl;
      buffer = b;
    }

module _ {p₀ : Pool} {small₀ large₀ script : List ℕ} {start : ℕ} {out₀ : List ℕ} {p : Pool} {small large out bytes : List ℕ} {at written : ℕ}
    (run : Running p₀ small₀ large₀ script start out₀ p small large out bytes at written) where
  pub run_keeps : Keeps p₀ small₀ large₀ p small large
  run_keeps = lines_keep run.run

  pub run_runnable : Runnable p small large script at
  run_runnable =
      record {
        fit = run_keeps.fit run.begun.fit;
        small_whole = rw run_keeps.limits (run_keeps.sizes.0 ∙ run.begun.small_whole);
        large_whole = rw run_keeps.limits (run_keeps.sizes.1 ∙ run.begun.large_whole);
        within = run.within;
      }

  -- there is room for an answer
  pub run_room : longest_answer ≤ length out - written → written + longest_answer ≤ length out
  run_room h = omega (arith, run.fits, h)

  -- a line brings the end nearer
  pub run_nears : at < length script → {next : ℕ} → next ≡ (line_at script at).next → length script - next < length script - at
  run_nears more e = omega (arith, e, next_within script at more, more)

  pub run_turns : at < length script → {line : List ℕ} → line ≡ line_in script at → {y : Reply} {p' : Pool} {small' large' : List ℕ}
      → LinesRun p small large (line ∷ []) (y ∷ []) p' small' large'
      → written + length (answer_line y.answer y.bytes) ≤ length out
      → {out' : List ℕ} {written' : ℕ} → Puts written (answer_line y.answer y.bytes) out out' written'
      → {next : ℕ} → next ≡ (line_at script at).next → {bytes' : List ℕ} → length bytes' ≡ large_size
      → Running p₀ small₀ large₀ script start out₀ p' small' large' out' bytes' next written'
  unfolding answer_lines
  run_turns more same_line {y} one room {out'} put {next} e b =
      let answer = answer_line y.answer y.bytes in
      let on = next_within script at more in
      let same : length out' ≡ length out = rw put.bytes (length_overwritten written answer out room) in
      let far = run.put.next in
      record {
        begun = run.begun;
        lines = run.lines ++ (line_in script at ∷ []);
        replies = run.replies ++ (y ∷ []);
        run = runs_on run.run (rw same_line at one);
        between = run.between ∙ rw (lines_on script at more, e, append_assoc);
        put = rw (answer_lines_on run.replies (y ∷ []), append-nil) (puts_on run.put put (omega (arith, far, run.size)));
        size = same ∙ run.size;
        fits = omega (arith, put.next, same);
        from = omega (arith, run.from, on.0, e);
        within = rw e on.1;
        unmoved = λ f. absurd (omega (arith, run.from, on.0, e));
        buffer = b;
      }

  ends : (at ≡ start → start < length script → longest_answer ≤ length out₀ → ⊥)
      → Continues p₀ small₀ large₀ script start (record { pool = p; next = at; written = written }) small large out₀ out
  ends stop =
      record {
        runnable = run_runnable;
        lines = run.lines;
        replies = run.replies;
        run = run.run;
        between = run.between;
        put = run.put;
        moves = λ more room.
            by_test (ltb start at) (λ e. ltb-true start at e)
            (λ e. absurd (stop (omega (arith, ltb-false start at e, run.from)) more room));
      }

  -- no line is left, or no room
  pub run_ends : length script ≤ at → Continues p₀ small₀ large₀ script start (record { pool = p; next = at; written = written }) small large out₀ out
  run_ends h = ends (λ same more room. omega arith)

  pub run_fills : length out - written < longest_answer
      → Continues p₀ small₀ large₀ script start (record { pool = p; next = at; written = written }) small large out₀ out
  run_fills h = ends (λ same more room. omega (arith, run.unmoved same, run.size))
