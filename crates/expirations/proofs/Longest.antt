-- The most units left on entries, one more entry and group at a time, in bytes; and that they are the units themselves.
use Rattle.std.proofs.Common.{◌≡◌, ℕ, ◌+◌, ◌*◌, ◌%◌, ◌<◌, ◌≤◌, max, Bool, true, false, cond, ◌&&◌, eqb, List, [], ◌∷◌, ◌++◌, get_or, take, drop, sym, refl, ap, ◌∙◌, ap₂, add-zero, add_assoc, arith, take-append-drop, take_all, take-take}
use Rattle.lists.specs.Most.{most}
use Rattle.lists.proofs.Loops.{Scanned, scanned_from, scanned_turn, scanned_past, scanned_end}
use Rattle.lists.proofs.Most.{most_append}
use Rattle.ledger.specs.Limits.{task_count}
use Rattle.ledger.specs.declared.Life.{Life}
use Rattle.record.specs.Codes.{is_global_clock, units_left, local_code, absent_entry, free_entry}
use Rattle.record.specs.Tables.{ExpirationEntry, expiration_entry, entries_of, SizedEntries, expiration_entries, byte_values, group_size, group_count}
use Rattle.record.specs.declared.Head.{Head}
use Rattle.record.proofs.Asked.{by_task_clock, by_global_clock}
use Rattle.steps.specs.Remaining.{left_local, left_global, life_in, LifeWithin}
use Rattle.expirations.specs.Remaining.{local_on, global_on, longest, units_in}
use Rattle.expirations.specs.declared.remaining.Query.{Query}
use Rattle.expirations.specs.declared.remaining.Units.{Units}
use Rattle.expirations.proofs.Tables.{size_of, entry_of}

abbrev pub units : ℕ → ℕ → Units
units local global = record { local = local; global = global }

abbrev life : ℕ → ℕ → Life
life local global = record { local = local; global = global }

abbrev units_of : Query → ExpirationEntry → Units
units_of q e = units (local_on q e) (global_on q e)

-- the byte of an entry that names the block and goes by the clock; of any other it is 0
byte_of : (on by : Bool) (left : ℕ) {n : ℕ} → cond by left 0 ≡ n → cond (on && by) (left % byte_values) 0 ≡ cond on n 0 % byte_values
byte_of true true left e = ap (λ (n : ℕ). n % byte_values) e
byte_of true false left e = ap (λ (n : ℕ). n % byte_values) e
byte_of false by left e = refl

module _ (q : Query) where
  module _ (clock block due : ℕ) where
    counted_local : q.task < task_count
        → cond (eqb block q.block && eqb clock (local_code + q.task)) (units_left due q.local.0 % byte_values) 0 ≡ local_on q (expiration_entry clock block due)
    counted_local known =
        let left = units_left due q.local.0 in
        byte_of (eqb block q.block) (eqb clock (local_code + q.task)) left
        (by_task_clock (left_local q.task q.local) (λ b. cond b left 0) clock due refl refl refl q.task known (λ s. refl) (λ s. refl))

    counted_global : cond (eqb block q.block && is_global_clock clock) (units_left due q.global.0 % byte_values) 0 ≡ global_on q (expiration_entry clock block due)
    counted_global =
        let left = units_left due q.global.0 in
        byte_of (eqb block q.block) (is_global_clock clock) left
        (by_global_clock (left_global q.global) (λ b. cond b left 0) clock due refl refl refl (λ s. refl) (λ s. refl))

  longest_none : (a : Units) → longest a (units_in q []) ≡ a
  longest_none a = ap₂ units (omega arith) (omega arith)

  longest_next : (a : Units) (e : ExpirationEntry) (xs : List ExpirationEntry)
      → longest a (units_in q (e ∷ xs)) ≡ longest (longest a (units_of q e)) (units_in q xs)
  longest_next a e xs = ap₂ units (omega arith) (omega arith)

  -- an entry that names another block
  longest_other : (a : Units) (e : ExpirationEntry) → eqb e.block q.block ≡ false → longest a (units_of q e) ≡ a
  longest_other a e h = rw h (ap₂ units (omega arith) (omega arith))

  units_append : (xs ys : List ExpirationEntry) → units_in q (xs ++ ys) ≡ longest (units_in q xs) (units_in q ys)
  units_append xs ys = ap₂ units (most_append _ xs ys) (most_append _ xs ys)

-- the most so far: of n entries, those before the i-th are looked at
pub record Longest (q : Query) (xs : List ExpirationEntry) (from n : ℕ) (start : Units) (i : ℕ) (a : Units) : Type 0 where
  pub so : Scanned (longest start (units_in q (drop from (take (from + n) xs)))) xs (from + n) (from + i) (λ ys. longest a (units_in q ys))

module _ {q : Query} {cs ns ds : List ℕ} (sized : SizedEntries cs ns ds) {from n : ℕ} where
  pub longest_start : (a : Units) → from + n ≤ expiration_entries → Longest q (entries_of cs ns ds) from n a 0 a
  longest_start a h = record { so = rw (add-zero from) (scanned_from (λ ys. longest a (units_in q ys)) (entries_of cs ns ds) (from + n) from (omega arith) (omega (arith, size_of sized))) }

  -- one more
  longest_one : {start a b : Units} {i : ℕ} → Longest q (entries_of cs ns ds) from n start i a → i < n
      → b ≡ longest a (units_of q (expiration_entry (get_or cs (from + i) 0) (get_or ns (from + i) 0) (get_or ds (from + i) 0)))
      → Longest q (entries_of cs ns ds) from n start (i + 1) b
  longest_one {a = a} {i = i} s h e =
      record {
        so =
            rw (← add_assoc from i 1)
            (scanned_turn _ free_entry s.so (omega arith) (λ ys. longest_next q a (get_or (entries_of cs ns ds) (from + i) free_entry) ys ∙ rw (entry_of sized (from + i), e)));
      }

  -- the same by its numbers: of each figure what is left of the due number, and whether that counts
  pub longest_turn : {start a : Units} {i : ℕ} → q.task < task_count → Longest q (entries_of cs ns ds) from n start i a → i < n
      → {by : Bool} {left counted local left' counted' global : ℕ}
      → left ≡ units_left (get_or ds (from + i) 0) q.local.0 % byte_values
      → counted ≡ cond (eqb (get_or ns (from + i) 0) q.block && eqb (get_or cs (from + i) 0) (local_code + q.task)) left 0
      → local ≡ max a.local counted
      → left' ≡ units_left (get_or ds (from + i) 0) q.global.0 % byte_values
      → by ≡ is_global_clock (get_or cs (from + i) 0)
      → counted' ≡ cond (eqb (get_or ns (from + i) 0) q.block && by) left' 0
      → global ≡ max a.global counted'
      → Longest q (entries_of cs ns ds) from n start (i + 1) (units local global)
  longest_turn {a = a} {i = i} known s h l c m l' g c' m' =
      let clock = get_or cs (from + i) 0 in
      let block = get_or ns (from + i) 0 in
      let due = get_or ds (from + i) 0 in
      longest_one s h
      (ap₂ units
      (m ∙ ap (max a.local) (c ∙ rw l (counted_local q clock block due known)))
      (m' ∙ ap (max a.global) (c' ∙ rw (g, l') (counted_global q clock block due))))

  pub longest_end : {start a : Units} {i : ℕ} → Longest q (entries_of cs ns ds) from n start i a → n ≤ i
      → a ≡ longest start (units_in q (drop from (take (from + n) (entries_of cs ns ds))))
  longest_end {a = a} s h = sym (longest_none q a) ∙ scanned_end s.so (omega arith)

-- entries none of which names the block
pub longest_past : (q : Query) {cs ns ds : List ℕ} → SizedEntries cs ns ds → (a : Units) (from n : ℕ) → from + n ≤ expiration_entries
    → ((k : ℕ) → from ≤ k → k < from + n → eqb (get_or ns k 0) q.block ≡ false)
    → a ≡ longest a (units_in q (drop from (take (from + n) (entries_of cs ns ds))))
longest_past q {cs} {ns} {ds} sized a from n h none =
    let xs = entries_of cs ns ds in
    let s =
    scanned_past free_entry n (longest_start {q = q} sized {from = from} {n = n} a h).so (omega arith)
    (λ k l b ys.
    longest_next q a (get_or xs k free_entry) ys
    ∙ ap (λ (u : Units). longest u (units_in q ys)) (longest_other q a (get_or xs k free_entry) (rw (entry_of sized k) (none k (omega arith) (omega arith))))) in
    sym (longest_none q a) ∙ scanned_end s (omega arith)

-- group by group
pub groups_turn : (q : Query) (xs : List ExpirationEntry) {a b : Units} (from to : ℕ) → from ≤ to → a ≡ units_in q (take from xs)
    → b ≡ longest a (units_in q (drop from (take to xs))) → b ≡ units_in q (take to xs)
groups_turn q xs from to h e f =
    f
    ∙ ap (λ (u : Units). longest u (units_in q (drop from (take to xs)))) (e ∙ ap (units_in q) (sym (take-take from to xs h)))
    ∙ sym (units_append q (take from (take to xs)) (drop from (take to xs)))
    ∙ ap (units_in q) (take-append-drop from (take to xs))

-- where the most fits a byte, bytes hold it
most_byte {ℓ} : {A : Type ℓ} (f : A → ℕ) (xs : List A) → most f xs < byte_values → most (λ (x : A). f x % byte_values) xs ≡ most f xs
most_byte f [] h = refl
most_byte f (x ∷ xs) h = rw (most_byte f xs (omega arith)) (omega arith)

-- after all groups, the remaining life
pub life_end : (h : Head) (task block : ℕ) {cs ns ds : List ℕ} → SizedEntries cs ns ds → LifeWithin (life_in task block h.tasks h.global (entries_of cs ns ds))
    → (u : Units) (g : ℕ) → group_count ≤ g
    → u ≡ units_in (record { task = task; local = (get_or h.tasks task absent_entry).clock; global = h.global; block = block }) (take (g * group_size) (entries_of cs ns ds))
    → record { local = u.local; global = u.global } ≡ life_in task block h.tasks h.global (entries_of cs ns ds)
unfolding life_in
life_end h task block {cs} {ns} {ds} sized within u g all e =
    let xs = entries_of cs ns ds in
    rw (take_all (g * group_size) xs (omega (arith, size_of sized))) at (ap (λ (u : Units). life u.local u.global) e)
    ∙ ap₂ life (most_byte _ xs (omega (arith, within.local))) (most_byte _ xs (omega (arith, within.global)))
