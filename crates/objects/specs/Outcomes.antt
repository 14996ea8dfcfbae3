-- What make, refresh, read, write and release decide, by the head and by what was found in the tables.
use Rattle.std.specs.Prelude.{ℕ, ◌+◌, ◌-◌, Bool, true, false, leb, get_or, List, [], Result, Ok, Err}
use Rattle.ledger.specs.declared.Kind.{Kind}
use Rattle.ledger.specs.declared.Life.{Life}
use Rattle.record.specs.Codes.{free_block}
use Rattle.ledger.specs.Limits.{is_small}
use Rattle.ledger.specs.Objects.{no_share}
use Rattle.ledger.specs.Refusals.{Test, verdict, as_verdict, Verdict}
use Rattle.ledger.specs.Rules.{tests_of}
use Rattle.ledger.specs.declared.Call.TheVariants.{Make}
use Rattle.ledger.specs.Shares.{quota_in, blocks_in}
use Rattle.ledger.specs.declared.Limits.{Limits}
use Rattle.ledger.specs.declared.Share.{Share}
use Rattle.record.specs.Tables.{Tables}
use Rattle.record.specs.declared.Head.{Head}
use Rattle.shares.specs.declared.Holding.{Holding}
use Rattle.steps.specs.Facts.{verdict_with, verdict_by}
use Rattle.steps.specs.Objects.{place_of, state_in, shown_length}
use Rattle.steps.specs.Parts.{part_facts}
use Rattle.steps.specs.Remaining.{life_in}
use Rattle.refusals.specs.Verdicts.{and_then}
use Rattle.objects.specs.declared.Found.{Found}
use Rattle.objects.specs.declared.Part.{Part}
use Rattle.objects.specs.declared.Plan.{Plan}
use Rattle.ledger.specs.declared.Refusal.{Refusal}

-- a remaining life where it is asked for, else no figures
abbrev pub life_if : Bool → Life → Life
life_if true life = life
life_if false life = record { local = 0; global = 0 }

-- the one finding, by the verdict of the call that asks: the object's block and, where asked for, its remaining life for the task
abbrev pub found_by : Bool → Verdict → ℕ → ℕ → Tables → Result Found Refusal
found_by asks verdict task handle p =
    let place = place_of handle p.blocks in
    and_then verdict (Ok (record { block = place; life = life_if asks (life_in task place p.tasks p.global p.expirations) }))

-- by the tests of a call
abbrev pub found_in : Bool → List Test → ℕ → ℕ → Tables → Result Found Refusal
found_in asks tests task handle p = found_by asks (verdict_by tests p) task handle p

-- what was found, if one test more accepts
abbrev pub found_if : Result Found Refusal → Verdict → Result Found Refusal
found_if (Ok found) v = and_then v (Ok found)
found_if (Err r) v = Err r

-- the life of what was found
abbrev pub life_of : Result Found Refusal → Result Life Refusal
life_of (Ok found) = Ok found.life
life_of (Err r) = Err r

-- O30: a read and a write make the same finding, and go on by the length and the sum that the block has
abbrev pub part_of : Tables → Result Found Refusal → Result Part Refusal
part_of p (Ok found) =
    let b = get_or p.blocks found.block free_block in
    Ok (record { block = found.block; length = b.length; sum = b.sum })
part_of p (Err r) = Err r

-- no life is asked for, and so it is no task's
abbrev pub bytes_by : Verdict → ℕ → Tables → Result Part Refusal
bytes_by verdict handle p = part_of p (found_by false verdict 0 handle p)

abbrev pub bytes_in : List ℕ → List ℕ → List Test → ℕ → Tables → Result Part Refusal
bytes_in small large tests handle p = bytes_by (verdict_with small large tests p) handle p

-- V5: and a read goes on by as many bytes as its task is shown
abbrev pub shown_of : ℕ → Tables → Result Part Refusal → Result Part Refusal
shown_of task p (Ok part) =
    Ok (record { block = part.block; length = shown_length (state_in p.tasks task) (get_or p.blocks part.block free_block); sum = part.sum })
shown_of task p (Err r) = Err r

abbrev pub shown_in : List ℕ → List ℕ → List Test → ℕ → ℕ → Tables → Result Part Refusal
shown_in small large tests task handle p = shown_of task p (bytes_in small large tests handle p)

-- 26 and 9, by what the tasks have of the store
abbrev pub is_limited_by : Bool → List Share → Holding → ℕ → Bool
is_limited_by store shares holding task = leb (quota_in store (get_or shares task no_share)).limit (get_or holding.made task 0)

abbrev pub is_filled_by : Bool → Limits → List Share → Holding → ℕ → Bool
is_filled_by store limits shares holding task =
    leb (blocks_in limits store + ((quota_in store (get_or shares task no_share)).reserve - get_or holding.made task 0)) holding.spoken

-- the verdict of a make, by these and how many expirations stand; and the block that was found
unfoldable pub make_plan : ℕ → Kind → ℕ → ℕ → ℕ → Head → ℕ → Holding → ℕ → Plan
make_plan task kind extension size prefix h place holding standing =
    record {
      verdict =
          as_verdict
          (verdict
          (part_facts h.limits (state_in h.tasks) h.given (λ (handle : ℕ). true) standing
          (is_limited_by (is_small size) h.shares holding task)
          (is_filled_by (is_small size) h.limits h.shares holding task) false)
          (tests_of (Make task kind extension size prefix) []));
      place = place;
    }
