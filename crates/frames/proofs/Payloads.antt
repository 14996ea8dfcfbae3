-- What a line shows that gives a request, and the bytes that come with it.
use Prim.Native.Nat.{ℕ, ◌+◌, ◌-◌, ◌/◌, ◌≤◌}
use native.Mathlib.Nat.{zero-add}
use native.Mathlib.Omega.{arith}
use mathlib.Core.Bool.{true}
use mathlib.Core.List.{List, [], ◌++◌}
use mathlib.Core.Option.{Option, none, some}
use mathlib.Core.Path.{◌≡◌, refl, sym, ap, ◌∙◌}
use borrow.Author.Tests.{leb-true}
use lib.ListN.{length, get_or, take, drop, length-drop}
use lib.Seq.{length-take-le, take_all, drop-drop}
use Rattle.std.specs.Prelude.{Result, Ok, Err}
use Rattle.lists.specs.Blocks.{overwritten}
use Rattle.lists.proofs.Blocks.{take_new}
use Rattle.lists.proofs.Cases.{by_test}
use Rattle.ledger.specs.Ledger.{Frame}
use Rattle.ledger.specs.declared.Kind.{Kind}
use Rattle.ledger.specs.declared.Refusal.{Refusal}
use Rattle.ledger.specs.declared.Request.{Request}
use Rattle.ledger.specs.Limits.{large_size}
use Rattle.text.specs.Fields.{fields_at}
use Rattle.text.specs.HandleBytes.{most_handle_bytes}
use Rattle.ledger.specs.Numbers.{kind_of}
use Rattle.frames.specs.Frames.{Operation, join, schedule, make, refresh, read, write, report, remaining, batch, release, widths_of, head_size, Tail, bytes_up_to, any_handles, tail_of, is_tail, is_size_of, handed_on, with_kind, request_of, frame_with, frame_as, operations, operation_in, frame_by, frame_in, frame_of, last_bytes, payload_of, Decodes, operation_of}
use Rattle.text.specs.Hex.{is_hex, bytes_of}
use Rattle.text.proofs.Digits.{length_bytes}
use Rattle.text.proofs.Puts.{start_within}
use Rattle.frames.proofs.Frames.{sizes}

apart : {refusal : Refusal} {request : Request} {count : ℕ} → ◌≡◌ {A = Frame} (Err refusal) (Ok (request, count)) → ⊥
apart e = let z : ◌≡◌ {A = ℕ} 0 1 = cc in omega arith

-- the last bytes of a list are the last of its end, which has as many
pub last_after : (bytes : List ℕ) (n count : ℕ) → n + count ≤ length bytes → last_bytes count bytes ≡ last_bytes count (drop n bytes)
last_after bytes n count h =
    let places : length bytes - count ≡ n + (length bytes - n - count) = omega arith in
    rw (length-drop n bytes, drop-drop (length bytes - n - count) n bytes, places)

-- what is handed on at most
abbrev most_handed : Tail → ℕ
most_handed (bytes_up_to most) = most
most_handed any_handles = most_handle_bytes

most_handed_lem : (o : Operation) → most_handed (tail_of o) ≤ large_size
most_handed_lem join = omega arith
most_handed_lem (schedule event) = omega arith
most_handed_lem make = omega arith
most_handed_lem refresh = omega arith
most_handed_lem read = omega arith
most_handed_lem write = omega arith
most_handed_lem report = omega arith
most_handed_lem remaining = omega arith
most_handed_lem batch = omega arith
most_handed_lem release = omega arith

pub handed_on_lem : (tail : Tail) (count : ℕ) → is_tail tail count ≡ true → (handed_on tail count ≤ most_handed tail) × (handed_on tail count ≤ count)
handed_on_lem (bytes_up_to most) count e = (leb-true count most e, omega arith)
handed_on_lem any_handles count e = (omega arith, omega arith)

-- the operation of a request that values make
module _ {request : Request} where
  with_kind_lem : (o : Operation) (byte : Result Kind Refusal) (by : Kind → Request) → ((kind : Kind) → operation_of (by kind) ≡ o)
      → with_kind byte by ≡ some request → operation_of request ≡ o
  with_kind_lem o (Ok kind) by h e = let k = h kind in cc
  with_kind_lem o (Err why) by h e = cc

  operation_of_lem : (o : Operation) (values : List ℕ) → request_of o values ≡ some request → operation_of request ≡ o
  operation_of_lem join values e = cc
  operation_of_lem (schedule event) values e = cc
  operation_of_lem make values e = with_kind_lem make (kind_of (get_or values 1 0)) _ (λ kind. refl) e
  operation_of_lem refresh values e = with_kind_lem refresh (kind_of (get_or values 1 0)) _ (λ kind. refl) e
  operation_of_lem read values e = cc
  operation_of_lem write values e = cc
  operation_of_lem report values e = cc
  operation_of_lem remaining values e = cc
  operation_of_lem batch values e = with_kind_lem batch (kind_of (get_or values 1 0)) _ (λ kind. refl) e
  operation_of_lem release values e = cc

-- what the size of a frame shows that gives a request: the bytes after its fields may follow, and so many of them are handed on
record Brought (size : ℕ) (o : Operation) (count : ℕ) : Type 0 where
  head : head_size o ≤ size
  tail : is_tail (tail_of o) (size - head_size o) ≡ true
  handed : handed_on (tail_of o) (size - head_size o) ≡ count

module _ (bytes : List ℕ) {request : Request} {count : ℕ} where
  brought_with : (r : Option Request) (n : ℕ) → frame_with r n ≡ Ok (request, count) → (r ≡ some request) × (n ≡ count)
  brought_with none n e = absurd (apart e)
  brought_with (some r) n e =
      let same : ◌≡◌ {A = Request × ℕ} (r, n) (request, count) = cc in
      (ap (λ (p : Request × ℕ). some p.0) same, ap (λ (p : Request × ℕ). p.1) same)

  brought_as : (o : Operation) → frame_as o bytes ≡ Ok (request, count) → Brought (length bytes) (operation_of request) count
  unfolding frame_as
  brought_as o e =
      let values = fields_at 1 (widths_of o) bytes in
      by_test (is_size_of o (length bytes))
      (λ s. let (low, tail) = sizes o (length bytes) s in
      let (r, n) = brought_with (request_of o values) (handed_on (tail_of o) (length bytes - head_size o)) (rw s at e) in
      rw (operation_of_lem o values r) (record { head = low; tail = tail; handed = n }))
      (λ s. absurd (apart (rw s at e)))

  brought_by : (o : Option Operation) → frame_by o bytes ≡ Ok (request, count) → Brought (length bytes) (operation_of request) count
  brought_by none e = absurd (apart e)
  brought_by (some o) e = brought_as o e

-- what a line shows that gives a request: it brings at most the bytes of the largest object, and no more than follow its fields
pub record Requested (line : List ℕ) (o : Operation) (count : ℕ) : Type 0 where
  pub hex : is_hex line ≡ true
  pub handed : handed_on (tail_of o) (length line / 2 - head_size o) ≡ count
  pub most : count ≤ large_size
  pub within : head_size o + count ≤ length line / 2
  pub payload : payload_of line ≡ drop (length line / 2 - count) (bytes_of line)
  pub counted : length (payload_of line) ≡ count

pub requested : (line : List ℕ) {request : Request} {count : ℕ} → frame_of line ≡ Ok (request, count)
    → Requested line (operation_of request) count
unfolding frame_of frame_in payload_of
requested line {request} {count} e =
    let o = operation_of request in
    by_test (is_hex line)
    (λ h. let b = rw length_bytes at (brought_by (bytes_of line) (operation_in operations (get_or (bytes_of line) 0 0)) (rw h at e)) in
    let (most, few) = handed_on_lem (tail_of o) (length line / 2 - head_size o) b.tail in
    record {
      hex = h;
      handed = b.handed;
      most = omega (arith, most_handed_lem o, b.handed);
      within = omega (arith, b.head, b.handed);
      payload = rw (e, length_bytes line);
      counted = rw e (simp (length-drop, length_bytes) (omega (arith, b.handed)));
    })
    (λ h. absurd (apart (rw h at e)))

-- the bytes of a request at the start of a buffer
pub payload_put : (line old part : List ℕ) {request : Request} {count : ℕ} → frame_of line ≡ Ok (request, count) → large_size ≤ length old
    → part ≡ drop (length line / 2 - length (take count old)) (bytes_of line) → part ++ drop count old ≡ overwritten 0 (payload_of line) old
unfolding overwritten
payload_put line old part {count = count} e room p =
    let r = requested line e in
    rw (p, length-take-le count old (omega (arith, r.most)), ← r.payload, zero-add, r.counted)

pub no_payload : (line : List ℕ) {refusal : Refusal} → frame_of line ≡ Err refusal → payload_of line ≡ []
unfolding payload_of
no_payload line e = rw e

-- a request's bytes, as they are found in the buffer
pub payload_front : {line old new : List ℕ} {request : Request} {count : ℕ} → Decodes line old (Ok (request, count)) new
    → take count new ≡ payload_of line
payload_front {line} {old} {count = count} d =
    let r = requested line (sym d.frame) in
    rw (d.bytes, take_new count (payload_of line) old (omega (arith, r.counted))) (take_all count (payload_of line) (omega (arith, r.counted)))

-- the bytes of a request are in the buffer
pub bytes_in_lem : {line old new : List ℕ} {frame : Frame} → Decodes line old frame new → {request : Request} {count : ℕ}
    → frame ≡ Ok (request, count) → count ≤ length new
bytes_in_lem {line} {old} d e = rw d.bytes (omega (arith, (requested line (sym d.frame ∙ e)).counted, start_within (payload_of line) old))
