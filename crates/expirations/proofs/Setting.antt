-- Entries set one after the other, each in the first free one.
use Rattle.record.specs.declared.ExpirationTable.{ExpirationTable}
use Rattle.std.proofs.Common.{◌≡◌, ℕ, ◌+◌, ◌-◌, ◌<◌, ◌≤◌, false, List, [], ◌∷◌, ◌++◌, map, length, get_or, take, set, sym, refl, ap, ◌∙◌, ap₂, add-one, arith, take-suc, ne_eqb}
use Rattle.lists.proofs.First.{first_set, count_first}
use Rattle.lists.proofs.Tables.{map_set}
use Rattle.ledger.specs.declared.Kind.{Kind}
use Rattle.ledger.specs.declared.Kind.TheVariants.{Local, Global, Pinned}
use Rattle.record.specs.Codes.{local_code, global_code}
use Rattle.record.specs.Tables.{ExpirationEntry, expiration_entries, Tables, expiration_list, EntriesSized}
use Rattle.record.specs.declared.GlobalTime.{GlobalTime}
use Rattle.record.specs.declared.TaskEntry.{TaskEntry}
use Rattle.record.proofs.Columns.{clocks_of}
use Rattle.steps.specs.Objects.{free_slot, place_of, batched_pool, refreshed_pool, entry_for}
use Rattle.expirations.specs.Setting.{entry_now, entry_of, Sets, set_each, SetsEach}
use Rattle.expirations.specs.Standing.{standing_of, free_in}
use Rattle.expirations.specs.declared.Entry.{Entry}
use Rattle.expirations.proofs.Counting.{is_free, free_of, free_within}

-- an entry on another block
abbrev pub on_block : Entry → ℕ → Entry
on_block e block = record { clock = e.clock; block = block; due = e.due }

module _ (tasks : List TaskEntry) (global : GlobalTime) where
  -- one that a task sets is in use
  pub made_used : (kind : Kind) (task extension block : ℕ) {e : Entry} → e ≡ entry_now tasks global kind task extension block → is_free e.clock ≡ false
  made_used Local task extension block made = rw made (ne_eqb (local_code + task) 0 (omega arith))
  made_used Global task extension block made = rw made (ne_eqb (global_code + task) 0 (omega arith))
  made_used Pinned task extension block made = rw made

  -- and on any block it is the same but for that
  made_on : (kind : Kind) (task extension block : ℕ) {e : Entry} → e ≡ entry_now tasks global kind task extension block
      → on_block e ≡ entry_now tasks global kind task extension
  made_on Local task extension block made = ap on_block made
  made_on Global task extension block made = ap on_block made
  made_on Pinned task extension block made = ap on_block made

module _ {e : Entry} {x x' : ExpirationTable} (s : EntriesSized x) (z : Sets e x x') where
  -- the clocks after one is set
  clocks_after_lem : x'.clocks ≡ set x.clocks (free_in x.clocks) e.clock
  clocks_after_lem =
      let clock : ExpirationEntry → ℕ = λ x. x.clock in
      let xs = expiration_list x in
      let t = z.sized in
      sym (clocks_of x'.clocks x'.named x'.dues t.of_clocks t.of_named t.of_dues)
      ∙ ap (map clock) z.entries
      ∙ map_set clock xs (free_slot xs) (entry_of e)
      ∙ ap₂ (λ (cs : List ℕ) (i : ℕ). set cs i e.clock) (clocks_of x.clocks x.named x.dues s.of_clocks s.of_named s.of_dues) (sym (free_of s))

module _ (f : ℕ → Entry) where
  -- one more at the end
  set_last : (blocks : List ℕ) (block : ℕ) (xs : List ExpirationEntry)
      → set_each f (blocks ++ (block ∷ [])) xs ≡ set (set_each f blocks xs) (free_slot (set_each f blocks xs)) (entry_of (f block))
  unfolding set_each
  set_last [] block xs = refl
  set_last (b ∷ blocks) block xs = set_last blocks block (set xs (free_slot xs) (entry_of (f b)))

  -- A loop over n blocks, at i: those before it have their entries, none is free before a place, and there are free ones for the others.
  pub record SetTo (blocks : List ℕ) (n : ℕ) (xs : List ExpirationEntry) (i place : ℕ) (x : ExpirationTable) : Type 0 where
    pub within : i ≤ n
    pub sized : EntriesSized x
    pub entries : expiration_list x ≡ set_each f (take i blocks) xs
    pub passed : place ≤ free_in x.clocks
    pub room : standing_of x.clocks + (n - i) ≤ expiration_entries

  pub set_start : {n place : ℕ} (blocks : List ℕ) (x : ExpirationTable) → EntriesSized x → standing_of x.clocks + n ≤ expiration_entries → place ≡ free_in x.clocks
      → SetTo blocks n (expiration_list x) 0 place x
  unfolding set_each
  set_start blocks x s h e = record { within = omega arith; sized = s; entries = refl; passed = omega arith; room = omega arith }

  module _ {blocks : List ℕ} {n : ℕ} {xs : List ExpirationEntry} {i place : ℕ} {x : ExpirationTable} (s : SetTo blocks n xs i place x) where
    -- there is a free one
    pub set_free : {at : ℕ} → i < n → at ≡ free_in x.clocks → at < expiration_entries
    set_free h e = free_within s.sized (omega (arith, s.room)) e

    pub set_turn : {at : ℕ} {x' : ExpirationTable} → i < n → n ≤ length blocks → at ≡ free_in x.clocks → is_free (f (get_or blocks i 0)).clock ≡ false
        → Sets (f (get_or blocks i 0)) x x' → SetTo blocks n xs (i + 1) (at + 1) x'
    set_turn {at} h k e used z =
        let free : free_in x.clocks < length x.clocks = omega (arith, set_free h e, s.sized.of_clocks) in
        let clock = (f (get_or blocks i 0)).clock in
        record {
          within = omega arith;
          sized = z.sized;
          entries =
              z.entries
              ∙ ap (λ (ys : List ExpirationEntry). set ys (free_slot ys) (entry_of (f (get_or blocks i 0)))) s.entries
              ∙ rw (add-one, take-suc blocks i 0 (omega arith)) (sym (set_last (take i blocks) (get_or blocks i 0) xs));
          passed = rw (clocks_after_lem s.sized z) (omega (arith, first_set is_free clock used x.clocks free));
          room = rw (clocks_after_lem s.sized z) (omega (arith, count_first is_free clock used x.clocks free, s.room));
        }

-- and the end, where the entry is one that a task sets
pub set_end : {e : Entry} {tasks : List TaskEntry} {global : GlobalTime} {kind : Kind} {task extension : ℕ} (block : ℕ) {blocks : List ℕ} {n i place : ℕ}
    {x x' : ExpirationTable}
    → e ≡ entry_now tasks global kind task extension block → SetTo (on_block e) blocks n (expiration_list x) i place x' → n ≤ i
    → SetsEach tasks global kind task extension (take n blocks) x x'
set_end {tasks = tasks} {global} {kind} {task} {extension} block {blocks} {n} {i} {x = x} made s h =
    let on = made_on tasks global kind task extension block made in
    let same : i ≡ n = omega (arith, s.within) in
    record {
      sized = s.sized;
      entries = s.entries ∙ ap₂ (λ (f : ℕ → Entry) (k : ℕ). set_each f (take k blocks) (expiration_list x)) on same;
    }

-- and they are those of the record after a batch
pub batched_set : (task : ℕ) (kind : Kind) (extension : ℕ) (handles : List ℕ) (p : Tables)
    → batched_pool task kind extension handles p
    ≡ record {
      limits = p.limits;
      tasks = p.tasks;
      global = p.global;
      given = p.given;
      shares = p.shares;
      blocks = p.blocks;
      expirations = set_each (entry_now p.tasks p.global kind task extension) (map (λ (handle : ℕ). place_of handle p.blocks) handles) p.expirations;
    }
unfolding batched_pool refreshed_pool entry_for set_each
batched_set task kind extension [] p = refl
batched_set task kind extension (handle ∷ handles) p = batched_set task kind extension handles (refreshed_pool task kind extension handle p)
