-- The flags of the bytes before the rest, and of the first ones of a group.
use Rattle.std.proofs.Common.{refl, length, ap, ◌∙◌, arith, length-append, rules}
use Rattle.std.proofs.lemmas.List.{nil_from_length}
use Rattle.fitness.proofs.Marks.{left_start, left_in, left_past, left_end}
use Rattle.fitness.proofs.codes.marks.Goals as goal

pub loop-eight-init : goal.loop-eight-init
loop-eight-init c = let e = c.into_iter-eight-iterator.ensures.into_iter_gives in
    let r = c.chunks_exact-eight-items.ensures.rest in
    let s = c.chunks_exact-eight-items.ensures.size in
    rw (e, r, s) (search rules, search rules, left_start c.args.bytes.now)

pub loop-byte-init : goal.loop-byte-init
loop-byte-init c = let e = c.in-Some.ensures.steps in
    let m = c.loop-eight.invariant in
    let size = ap length e.1.0 ∙ length-append c.in-Some.eight.now c.next.new.self.rest.now in
    (e.0 ∙ m.0, omega (arith, size, e.1.1, m.0, m.1), rw e.1.0 at m.2)

pub loop-eight-smaller : goal.loop-eight-smaller
loop-eight-smaller c = let e = c.in-Some.ensures.steps in
    let size = ap length e.1.0 ∙ length-append c.in-Some.eight.now c.next.new.self.rest.now in
    omega (arith, size, e.1.1, c.loop-eight.invariant.0)

pub loop-eight-preserved : goal.loop-eight-preserved
loop-eight-preserved c = let m = c.loop-byte.invariant in (m.0, m.1, left_past _ _ m.2 c.loop-byte-test.false)

pub loop-byte-preserved : goal.loop-byte-preserved
loop-byte-preserved c = let m = c.loop-byte.invariant in (m.0, m.1, left_in c.next.new.self.rest.now c.in-Some.eight.now m.2 (search rules) refl)

pub returns : goal.returns
returns c = let e = c.in-None.ensures.steps in
    let m = c.loop-eight.invariant in
    left_end (rw (nil_from_length c.loop-eight.eight-iterator.rest.now (omega (arith, e.1.0, m.0, m.1))) at m.2)
