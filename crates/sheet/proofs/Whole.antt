-- The peaks that the sheet works out are the script's.
use Prim.Native.Nat.{ℕ, max, ◌+◌, ◌≤◌, ◌<◌}
use native.Mathlib.Omega.{arith}
use mathlib.Core.Bool.{not}
use mathlib.Core.List.{List, [], ◌∷◌, map}
use mathlib.Core.Option.{Option, none, some}
use mathlib.Core.Path.{◌≡◌, refl, sym, ap, ◌∙◌}
use lib.ListN.{length, length-map}
use Rattle.lists.specs.Tests.{count}
use Rattle.lists.proofs.Counts.{count_map}
use Rattle.ledger.specs.Compared.{shown}
use Rattle.ledger.specs.Ledger.{Ledger, Sent, after_by, carried_out}
use Rattle.ledger.specs.Ledger.{fresh as freshLedger}
use Rattle.ledger.specs.Limits.{last_handle}
use Rattle.ledger.specs.Objects.{Memory, fresh_memory, usage}
use Rattle.ledger.specs.Rules.{memory_after}
use Rattle.ledger.specs.Room.{read_request, as_read, roomy_verdict_on, roomy_next, roomy_after, roomy_states, figures_of, peaks_of, peaks}
use Rattle.ledger.specs.Tasks.{fresh_clocks}
use Rattle.ledger.specs.declared.Call.{Call}
use Rattle.ledger.specs.declared.Call.TheVariants.{Join, Schedule, Make, Refresh, Read, Write, Batch, Release}
use Rattle.ledger.specs.declared.Limits.{Limits}
use Rattle.ledger.specs.declared.Peaks.{Peaks}
use Rattle.ledger.specs.declared.Refusal.{Refusal}
use Rattle.ledger.specs.declared.Request.{Request}
use Rattle.ledger.specs.declared.Request.TheVariants.{Use, Report, Remaining}
use Rattle.sheet.specs.Sheet.{Sheet, Known, fresh, numbered, small_in, large_in, peaks_in, after, sheets, sheet_peaks}
use Rattle.sheet.proofs.Follows.{Follows, known}
use Rattle.sheet.proofs.Taking.{next_follows}

start : (limits : Limits) → Follows limits fresh (freshLedger limits)
unfolding freshLedger fresh_memory fresh_clocks numbered
start limits =
    record {
      figures = refl;
      sixteen = refl;
      clocks = refl;
      given = refl;
      lefts = refl;
      objects = refl;
      each = tt;
      pins = λ handle. refl;
    }

-- a call gives one handle at most
given_more : (call : Call) (new : List ℕ) (m : Memory) → (memory_after call new m).given ≤ m.given + 1
unfolding memory_after
given_more (Join task share) new m = omega arith
given_more (Schedule event task) new m = omega arith
given_more (Make task kind extension size prefix) new m = omega arith
given_more (Refresh task kind extension handle) new m = omega arith
given_more (Read task handle) new m = omega arith
given_more (Write task handle offset) new m = omega arith
given_more (Batch task kind extension) new m = omega arith
given_more (Release task handle) new m = omega arith

given_after : (L : Ledger) (request : Request) (new : List ℕ) → (roomy_after L request new).memory.given ≤ L.memory.given + 1
unfolding roomy_next
given_after L Report new = omega arith
given_after L (Remaining task handle) new = omega arith
given_after L (Use call) new = by (roomy_verdict_on L call new)
  where
    by : (v : Option Refusal) → (after_by v (carried_out L call new) L).memory.given ≤ L.memory.given + 1
    by none = given_more call new L.memory
    by (some r) = omega arith

after_follows : (limits : Limits) (s : Sheet) (L : Ledger) → Follows limits s L → (request : Request) (new : List ℕ) → L.memory.given < last_handle
    → Follows limits (after limits s request new) (roomy_after L (read_request request) new)
after_follows limits s L f (Use call) new l = next_follows limits s L f new call l
after_follows limits s L f Report new l = f
after_follows limits s L f (Remaining task handle) new l = f

-- one ledger's figures
module _ (limits : Limits) (s : Sheet) (L : Ledger) (f : Follows limits s L) where
  same_small_lem : (figures_of L).small ≡ small_in s
  unfolding usage
  same_small_lem = sym (count_map (λ (k : Known). k.small) known L.memory.objects) ∙ ap (count (λ (k : Known). k.small)) f.objects

  same_large_lem : (figures_of L).large ≡ large_in s
  unfolding usage
  same_large_lem = sym (count_map (λ (k : Known). not k.small) known L.memory.objects) ∙ ap (count (λ (k : Known). not k.small)) f.objects

  same_dates : (figures_of L).expirations ≡ length s.lefts
  unfolding usage
  same_dates = sym (length-map L.expirations (shown L.memory.clocks)) ∙ ap length (sym f.lefts)

abbrev peaks_by : ℕ → ℕ → ℕ → Peaks → Peaks
peaks_by small large expirations p = record { small = max small p.small; large = max large p.large; expirations = max expirations p.expirations }

one_more : {a b c x y z : ℕ} {p q : Peaks} → a ≡ x → b ≡ y → c ≡ z → p ≡ q → peaks_by a b c p ≡ peaks_by x y z q
one_more e f g h = rw (e, f, g, h)

all_peaks : (limits : Limits) (cs : List Sent) (s : Sheet) (L : Ledger) → Follows limits s L → L.memory.given + length cs ≤ last_handle
    → peaks_of (roomy_states L (map as_read cs)) ≡ peaks_in (sheets limits s cs)
unfolding roomy_states sheets
all_peaks limits [] s L f l = refl
all_peaks limits (c ∷ cs) s L f l =
    let g = after_follows limits s L f c.request c.bytes (omega (arith, l)) in
    let M = roomy_after L (read_request c.request) c.bytes in
    let t = after limits s c.request c.bytes in
    let rest = all_peaks limits cs t M g (omega (arith, l, given_after L (read_request c.request) c.bytes)) in
    one_more (same_small_lem limits t M g) (same_large_lem limits t M g) (same_dates limits t M g) rest

-- P6: for every script of fewer calls than there are handles
pub sheet_peaks_lem : (limits : Limits) (cs : List Sent) → length cs ≤ last_handle → peaks limits cs ≡ sheet_peaks limits cs
unfolding peaks sheet_peaks freshLedger fresh_memory
sheet_peaks_lem limits cs l = all_peaks limits cs fresh (freshLedger limits) (start limits) (omega (arith, l))
