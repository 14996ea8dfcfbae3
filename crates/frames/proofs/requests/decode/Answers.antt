-- A request's bytes come back in the part that was lent.
use Prim.Native.Nat.{ℕ, ◌≤◌}
use mathlib.Core.List.{List}
use native.Mathlib.Omega.{arith}
use mathlib.Core.Path.{◌≡◌, sym, ◌∙◌}
use borrow.Author.Rules.{rules}
use lib.ListN.{length}
use lib.Seq.{length-take-le}
use Rattle.std.specs.Prelude.{Ok, Err}
use Rattle.lists.specs.Blocks.{overwritten}
use Rattle.frames.specs.Frames.{frame_of}
use Rattle.ledger.specs.Limits.{large_size}
use Rattle.ledger.specs.declared.Request.{Request}
use Rattle.frames.proofs.Payloads.{requested, payload_put, no_payload}
use Rattle.frames.proofs.requests.decode.Goals as goal

-- the buffer has room for a request's bytes
room : (line bytes : List ℕ) {request : Request} {count : ℕ} → large_size ≤ length bytes → frame_of line ≡ Ok (request, count)
    → count ≤ length bytes
room line bytes h e = omega (arith, (requested _ e).most)

pub returns-in_err-request : goal.returns-in_err-request
unfolding overwritten
returns-in_err-request c =
    let e : frame_of c.args.line.now ≡ Err c.in_err-request.field-0.0 = search rules in
    let same : c.from_residual.result ≡ Err c.in_err-request.field-0.0 = search rules in
    record { frame = same ∙ sym e; bytes = rw (no_payload _ e) }

pub slice_bounds-spell_last-end : goal.slice_bounds-spell_last-end
slice_bounds-spell_last-end c = let e : frame_of c.args.line.now ≡ Ok (c.in_ok-request.request, c.in_ok-request.count) = search rules in room _ _ c.requires e

pub slice_bounds-spell_last-end-2 : goal.slice_bounds-spell_last-end-2
slice_bounds-spell_last-end-2 c =
    let e : frame_of c.args.line.now ≡ Ok (c.in_ok-request.request, c.in_ok-request.count) = search rules in sym (length-take-le _ _ (room _ _ c.requires e))

pub spell_last-requires : goal.spell_last-requires
spell_last-requires c =
    let e : frame_of c.args.line.now ≡ Ok (c.in_ok-request.request, c.in_ok-request.count) = search rules in
    let r = requested _ e in
    rw (length-take-le _ _ (room _ _ c.requires e)) (record { hex = r.hex; enough = omega (arith, r.within) }, r.most)

pub returns : goal.returns
returns c =
    let e : frame_of c.args.line.now ≡ Ok (c.in_ok-request.request, c.in_ok-request.count) = search rules in
    record { frame = sym e; bytes = payload_put _ _ _ e c.requires c.spell_last.ensures }
