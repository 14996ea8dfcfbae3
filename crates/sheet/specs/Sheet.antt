-- The sheet on which a script is worked out: of an object its store alone, of an expiration what is left of it; no time, no byte. Nothing
-- is used again.
use Rattle.std.specs.Prelude.{ℕ, suc, ◌+◌, Bool, true, false, cond, not, ◌&&◌, ◌||◌, List, [], ◌∷◌, ◌++◌, eqb, leb, ltb, length}
use Rattle.lists.specs.Most.{most}
use Rattle.lists.specs.Tables.{read_by}
use Rattle.lists.specs.Tests.{any, all, filter, count}
use Rattle.ledger.specs.Compared.{Left, local_left, global_left, pinned_left, Shown}
use Rattle.ledger.specs.Limits.{task_count, large_size, largest_batch, is_small}
use Rattle.ledger.specs.Ledger.{Sent}
use Rattle.ledger.specs.Objects.{handles_of}
use Rattle.ledger.specs.Refusals.{most_extension, is_pinning}
use Rattle.ledger.specs.Tasks.{Clocks, task_at, fresh_clocks, is_absent, is_running, is_waiting, is_tested, joined, entered, clocks_after}
use Rattle.ledger.proofs.Aging.{aged}
use Rattle.ledger.specs.declared.Call.{Call}
use Rattle.ledger.specs.declared.Call.TheVariants.{Join, Schedule, Make, Refresh, Read, Write, Batch, Release}
use Rattle.ledger.specs.declared.Event.TheVariants.{Leave, Block, Resume, Tick, View}
use Rattle.ledger.specs.declared.Kind.{Kind}
use Rattle.ledger.specs.declared.Kind.TheVariants.{Local, Global, Pinned}
use Rattle.ledger.specs.declared.Limits.{Limits}
use Rattle.ledger.specs.declared.Peaks.{Peaks}
use Rattle.ledger.specs.declared.Request.{Request}
use Rattle.ledger.specs.declared.Request.TheVariants.{Use, Report, Remaining}

-- the store of each handle that was given, from 1 on; the expirations that stand, the last one first
pub record Sheet : Type 0 where
  pub clocks : Clocks
  pub stores : List Bool
  pub lefts : List Shown

abbrev pub fresh : Sheet
fresh = record { clocks = fresh_clocks; stores = []; lefts = [] }

-- an object by its handle and its store
pub record Known : Type 0 where
  pub handle : ℕ
  pub small : Bool

unfoldable pub numbered : ℕ → List Bool → List Known
numbered first [] = []
numbered first (b ∷ bs) = record { handle = first; small = b } ∷ numbered (suc first) bs

abbrev pub stands_in : List Shown → ℕ → Bool
stands_in lefts handle = any (λ (x : Shown). eqb x.handle handle) lefts

abbrev pub standing : Sheet → List Known
standing s = filter (λ (k : Known). stands_in s.lefts k.handle) (numbered 1 s.stores)

-- what is left of one that is set now
abbrev pub left_for : Kind → ℕ → ℕ → Left
left_for Local task extension = local_left task (extension + 1)
left_for Global task extension = global_left task (extension + 2)
left_for Pinned task extension = pinned_left

abbrev pub set_each : Left → List ℕ → List Shown → List Shown
set_each left [] lefts = lefts
set_each left (handle ∷ handles) lefts = set_each left handles (record { handle = handle; left = left } ∷ lefts)

abbrev pub is_pin : Left → Bool
is_pin (local_left setter units) = false
is_pin (global_left setter units) = false
is_pin pinned_left = true

abbrev pub unpinned : ℕ → List Shown → List Shown
unpinned handle lefts = filter (λ (x : Shown). not (eqb x.handle handle && is_pin x.left)) lefts

abbrev pub runs : Clocks → ℕ → Bool
runs clocks task = not (leb task_count task) && is_running (task_at clocks task).state

-- whether a call changes the sheet
unfoldable pub is_taken : Limits → Sheet → Call → List ℕ → Bool
is_taken limits s (Join task share) new = not (leb task_count task) && is_absent (task_at s.clocks task).state
is_taken limits s (Schedule View task) new = not (leb task_count task) && is_absent (task_at s.clocks task).state
is_taken limits s (Schedule Leave task) new = not (leb task_count task) && not (is_absent (task_at s.clocks task).state)
is_taken limits s (Schedule Block task) new = runs s.clocks task
is_taken limits s (Schedule Tick task) new = runs s.clocks task
is_taken limits s (Schedule Resume task) new = not (leb task_count task) && is_waiting (task_at s.clocks task).state
is_taken limits s (Make task kind extension size prefix) new =
    runs s.clocks task && (not (ltb (most_extension limits kind) extension) && (not (eqb size 0 || ltb large_size size) && not (ltb size prefix)))
is_taken limits s (Refresh task kind extension handle) new =
    runs s.clocks task && (not (is_pinning kind) && (not (ltb (most_extension limits kind) extension) && stands_in s.lefts handle))
is_taken limits s (Read task handle) new = false
is_taken limits s (Write task handle offset) new = false
is_taken limits s (Batch task kind extension) new =
    let handles = handles_of new in
    runs s.clocks task && (not (eqb (length handles) 0 || ltb largest_batch (length handles))
    && (not (is_pinning kind) && (not (ltb (most_extension limits kind) extension) && all (stands_in s.lefts) handles)))
is_taken limits s (Release task handle) new = runs s.clocks task

unfoldable pub taken : Sheet → Call → List ℕ → Sheet
taken s (Join task share) new = record { clocks = entered task joined s.clocks; stores = s.stores; lefts = s.lefts }
taken s (Schedule event task) new =
    record {
      clocks = clocks_after event task s.clocks;
      stores = s.stores;
      lefts = cond (is_tested event) (read_by (aged event task s.clocks) s.lefts) s.lefts;
    }
taken s (Make task kind extension size prefix) new =
    record {
      clocks = s.clocks;
      stores = s.stores ++ (is_small size ∷ []);
      lefts = record { handle = length s.stores + 1; left = left_for kind task extension } ∷ s.lefts;
    }
taken s (Refresh task kind extension handle) new =
    record { clocks = s.clocks; stores = s.stores; lefts = record { handle = handle; left = left_for kind task extension } ∷ s.lefts }
taken s (Read task handle) new = s
taken s (Write task handle offset) new = s
taken s (Batch task kind extension) new =
    record { clocks = s.clocks; stores = s.stores; lefts = set_each (left_for kind task extension) (handles_of new) s.lefts }
taken s (Release task handle) new = record { clocks = s.clocks; stores = s.stores; lefts = unpinned handle s.lefts }

abbrev pub after : Limits → Sheet → Request → List ℕ → Sheet
after limits s (Use call) new = cond (is_taken limits s call new) (taken s call new) s
after limits s Report new = s
after limits s (Remaining task handle) new = s

unfoldable pub sheets : Limits → Sheet → List Sent → List Sheet
sheets limits s [] = []
sheets limits s (c ∷ cs) = after limits s c.request c.bytes ∷ sheets limits (after limits s c.request c.bytes) cs

abbrev pub small_in : Sheet → ℕ
small_in s = count (λ (k : Known). k.small) (standing s)

abbrev pub large_in : Sheet → ℕ
large_in s = count (λ (k : Known). not k.small) (standing s)

abbrev pub peaks_in : List Sheet → Peaks
peaks_in ss =
    record {
      small = most small_in ss;
      large = most large_in ss;
      expirations = most (λ (s : Sheet). length s.lefts) ss;
    }

unfoldable pub sheet_peaks : Limits → List Sent → Peaks
sheet_peaks limits cs = peaks_in (sheets limits fresh cs)
