-- D12: which bytes of the stores a host's actions change while it makes no other pool, whatever lengths the stores have: those of the block
-- that an accepted make takes, to zero, and those that an accepted write names, to what it names. No other byte of either store changes, in
-- use or not; and a look changes nothing at all.
use Rattle.std.specs.Prelude.{ℕ, ◌+◌, Bool, true, false, cond, not, ◌&&◌, List, ◌≡◌, leb, ltb, length, get_or, replicate, Ok, Err}
use Rattle.lists.specs.Tests.{any}
use Rattle.ledger.specs.Ledger.{Frame}
use Rattle.ledger.specs.declared.Call.TheVariants.{Join, Schedule, Make, Refresh, Read, Write, Batch, Release}
use Rattle.ledger.specs.declared.Kind.{Kind}
use Rattle.ledger.specs.declared.Request.TheVariants.{Use, Report, Remaining}
use Rattle.record.specs.Reading.{is_small_block, size_of}
use Rattle.record.specs.WellFormed.{is_block}
use Rattle.record.specs.declared.Pool.{Pool}
use Rattle.stores.specs.Places.{start_of, small_after, large_after}
use Rattle.steps.specs.Objects.{place_in}
use Rattle.calls.specs.Contract.{Same}
use Rattle.by_value.specs.Told.{Loans, Told}
use Rattle.ramsummer.specs.Steps.{Asked, frame_asked, bytes_asked, Action, asks, renews, awaits, shares, Acts}
use Rattle.ramsummer.specs.Demands.{HostRuns}

-- An action puts these bytes at an offset in a block: an accepted make zeros into all of a block that was free, an accepted write its own
-- into the block of its object.
pub data PutsIn : Action → Told → Pool → Pool → ℕ → ℕ → List ℕ → Type 0 where
  clears : {asked : Asked} {loans : Loans} {task : ℕ} {kind : Kind} {extension size prefix count : ℕ} {t : Told} {p p' : Pool} {block : ℕ}
      → frame_asked asked ≡ Ok (Use (Make task kind extension size prefix), count) → t.number ≡ 0
      → is_block p.head.limits block ≡ true → get_or p.blocks.handles block 0 ≡ 0 → get_or p'.blocks.handles block 0 ≡ p.head.given + 1
      → PutsIn (asks asked loans) t p p' block 0 (replicate (size_of block) 0)
  writes : {asked : Asked} {loans : Loans} {task handle offset count : ℕ} {t : Told} {p p' : Pool}
      → frame_asked asked ≡ Ok (Use (Write task handle offset), count) → t.number ≡ 0
      → PutsIn (asks asked loans) t p p' (place_in handle p.blocks.handles) offset (bytes_asked asked)

-- What an action makes of the stores: they stay, or have what it puts there, and their lengths.
pub data StoresLeft (d : Action) (t : Told) (p : Pool) (small large : List ℕ) (p' : Pool) (small' large' : List ℕ) : Type 0 where
  stay : small' ≡ small → large' ≡ large → StoresLeft d t p small large p' small' large'
  put : (block offset : ℕ) (bytes : List ℕ) → PutsIn d t p p' block offset bytes
      → small' ≡ small_after block offset bytes small → large' ≡ large_after block offset bytes large
      → length small' ≡ length small → length large' ≡ length large → StoresLeft d t p small large p' small' large'

-- so many bytes at an offset in a block reach this byte of the small store, or of the large one
abbrev pub is_reached : Bool → ℕ → ℕ → ℕ → ℕ → Bool
is_reached ofSmall at block offset count =
    cond (is_small_block block) ofSmall (not ofSmall) && leb (start_of block + offset) at && ltb at (start_of block + offset + count)

abbrev pub byte_at : Bool → List ℕ → List ℕ → ℕ → ℕ
byte_at ofSmall small large at = get_or (cond ofSmall small large) at 0

-- no action of a run puts anything at this byte
abbrev pub Unreached : Bool → ℕ → {p p' : Pool} {small small' large large' : List ℕ} {ds : List Action} {ts : List Told} → HostRuns p small large ds ts p' small' large' → Type 0
Unreached ofSmall at HostRuns.done = Unit
Unreached ofSmall at (HostRuns.step {p = p} {p'} {d = d} {t = t} acts rest) =
    ((block offset : ℕ) (bytes : List ℕ) → PutsIn d t p p' block offset bytes → is_reached ofSmall at block offset (length bytes) ≡ false) × Unreached ofSmall at rest

-- a pool is made, with the stores that are lent from then on
abbrev pub is_renewal : Action → Bool
is_renewal (asks asked loans) = false
is_renewal (renews limits small large whole) = true
is_renewal (awaits old) = false
is_renewal (shares task old) = false

-- a call that only looks; a frame that is refused
abbrev pub is_look_of : Frame → Bool
is_look_of (Ok (Use (Join task share), count)) = false
is_look_of (Ok (Use (Schedule event task), count)) = false
is_look_of (Ok (Use (Make task kind extension size prefix), count)) = false
is_look_of (Ok (Use (Refresh task kind extension handle), count)) = false
is_look_of (Ok (Use (Read task handle), count)) = true
is_look_of (Ok (Use (Write task handle offset), count)) = false
is_look_of (Ok (Use (Batch task kind extension), count)) = false
is_look_of (Ok (Use (Release task handle), count)) = false
is_look_of (Ok (Report, count)) = true
is_look_of (Ok (Remaining task handle, count)) = true
is_look_of (Err why) = true

abbrev pub is_look : Action → Bool
is_look (asks asked loans) = is_look_of (frame_asked asked)
is_look (renews limits small large whole) = false
is_look (awaits old) = true
is_look (shares task old) = true

pub record BytesStay : Type 0 where
  pub each : (d : Action) (t : Told) (p p' : Pool) (small large small' large' : List ℕ) → is_renewal d ≡ false → Acts d p small large t p' small' large'
      → StoresLeft d t p small large p' small' large'
  -- over every list of actions in which no pool is made, from any record and any stores
  pub every : {p p' : Pool} {small small' large large' : List ℕ} {ds : List Action} {ts : List Told} (run : HostRuns p small large ds ts p' small' large')
      → any is_renewal ds ≡ false → (ofSmall : Bool) (at : ℕ) → Unreached ofSmall at run → byte_at ofSmall small' large' at ≡ byte_at ofSmall small large at
  pub looking : (d : Action) (t : Told) (p p' : Pool) (small large small' large' : List ℕ) → is_look d ≡ true → Acts d p small large t p' small' large'
      → Same p small large p' small' large'
