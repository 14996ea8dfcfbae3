-- How an edge is written and what it says: calls with the answers that they must get, in rows that start from a ledger.
use Rattle.std.specs.Prelude.{ℕ, zero, suc, false, List, [], ◌∷◌, ◌++◌, map, ◌≡◌, set, replicate}
use Rattle.ledger.specs.Limits.{standard}
use Rattle.ledger.specs.Numbers.{answer_number, answer_values}
use Rattle.ledger.specs.Tasks.{fresh_clocks, task_at}
use Rattle.ledger.specs.Objects.{Reply, fresh_memory}
use Rattle.ledger.specs.Ledger.{Ledger, Sent, replies, after_all}
use Rattle.ledger.specs.Compared.{wrapped}
use Rattle.ledger.specs.declared.State.TheVariants.{Running}
use Rattle.ledger.specs.declared.Kind.{Kind}
use Rattle.ledger.specs.declared.Kind.TheVariants.{Local}
use Rattle.ledger.specs.declared.Event.TheVariants.{Leave, Block, Resume, Tick, View}
use Rattle.ledger.specs.declared.Share.{Share}
use Rattle.ledger.specs.declared.Call.{Call}
use Rattle.ledger.specs.declared.Call.TheVariants.{Join, Schedule, Make, Refresh, Read, Write, Batch, Release}
use Rattle.ledger.specs.declared.Request.TheVariants.{Use, Report, Remaining}

-- The calls, by their names in documents 01 and 02 and with the arguments in their order. Only a write brings bytes, and a batch its
-- handles.
abbrev pub send : Call → List ℕ → Sent
send call new = record { request = Use call; bytes = new }

-- Q1: the four numbers of a join in the order of its frame; the worked cases of 01 reserve nothing and are not limited
abbrev pub share_of : ℕ → ℕ → ℕ → ℕ → Share
share_of smallReserve smallLimit largeReserve largeLimit =
    record { small = record { reserve = smallReserve; limit = smallLimit }; large = record { reserve = largeReserve; limit = largeLimit } }

abbrev pub open_share : Share
open_share = share_of 0 255 0 255

abbrev pub join_with : ℕ → Share → Sent
join_with task share = send (Join task share) []

abbrev pub join : ℕ → Sent
join task = join_with task open_share

abbrev pub leave : ℕ → Sent
leave task = send (Schedule Leave task) []

abbrev pub block : ℕ → Sent
block task = send (Schedule Block task) []

abbrev pub resume : ℕ → Sent
resume task = send (Schedule Resume task) []

abbrev pub tick : ℕ → Sent
tick task = send (Schedule Tick task) []

-- V1: 02's 0E
abbrev pub view : ℕ → Sent
view task = send (Schedule View task) []

-- V4: the worked cases of 01 have the prefix 0
abbrev pub make_with : ℕ → Kind → ℕ → ℕ → ℕ → Sent
make_with task kind extension size prefix = send (Make task kind extension size prefix) []

abbrev pub make : ℕ → Kind → ℕ → ℕ → Sent
make task kind extension size = make_with task kind extension size 0

abbrev pub refresh : ℕ → ℕ → Kind → ℕ → Sent
refresh task handle kind extension = send (Refresh task kind extension handle) []

abbrev pub read : ℕ → ℕ → Sent
read task handle = send (Read task handle) []

abbrev pub write : ℕ → ℕ → ℕ → List ℕ → Sent
write task handle offset new = send (Write task handle offset) new

-- the bytes of handles below 256
abbrev pub in_words : List ℕ → List ℕ
in_words [] = []
in_words (handle ∷ handles) = 0 ∷ 0 ∷ 0 ∷ handle ∷ in_words handles

abbrev pub batch : ℕ → Kind → ℕ → List ℕ → Sent
batch task kind extension handles = send (Batch task kind extension) (in_words handles)

abbrev pub release : ℕ → ℕ → Sent
release task handle = send (Release task handle) []

abbrev pub report : Sent
report = record { request = Report; bytes = [] }

abbrev pub life : ℕ → ℕ → Sent
life task handle = record { request = Remaining task handle; bytes = [] }

-- The answers as numbers: that of the refusal, or 0 and the data, the bytes of a read among them.
abbrev pub numbers : Reply → List ℕ
numbers r = answer_number r.answer ∷ answer_values r.answer ++ r.bytes

abbrev pub refused : ℕ → List ℕ
refused number = number ∷ []

abbrev pub done : List ℕ
done = 0 ∷ []

abbrev pub stands_still : List ℕ
stands_still = 0 ∷ 0 ∷ []

abbrev pub advanced : List ℕ
advanced = 0 ∷ 1 ∷ []

abbrev pub handle : ℕ → List ℕ
handle n = 0 ∷ n ∷ []

abbrev pub contents : List ℕ → List ℕ
contents bytes = 0 ∷ bytes

abbrev pub zeros : ℕ → List ℕ
zeros size = contents (replicate size 0)

abbrev pub figures : ℕ → ℕ → ℕ → ℕ → List ℕ
figures small large expirations given = 0 ∷ small ∷ large ∷ expirations ∷ given ∷ []

abbrev pub lasts : ℕ → ℕ → List ℕ
lasts local global = 0 ∷ local ∷ global ∷ []

-- A line: a call and the answer that it must get.
pub record Line : Type 0 where
  pub sent : Sent
  pub answer : List ℕ

infix 71 ◌⇒◌
abbrev pub ◌⇒◌ : Sent → List ℕ → List Line
sent ⇒ answer = record { sent = sent; answer = answer } ∷ []

-- lines one after the other (`++` would bind looser than the `∷` between rows)
infixl 69 ◌⨾◌
abbrev pub ◌⨾◌ : List Line → List Line → List Line
lines ⨾ more = lines ++ more

infix 70 ◌times◌
abbrev pub ◌times◌ : ℕ → List Line → List Line
zero times lines = []
suc n times lines = lines ⨾ n times lines

-- task 0 makes n small objects, whose handles go on from the first
abbrev pub make_small : ℕ → ℕ → List Line
make_small zero first = []
make_small (suc n) first = make 0 Local 30 32 ⇒ handle first ⨾ make_small n (suc first)

-- A row: the ledger that it starts from, its lines, and what the record's clock of task 0 reads after them.
pub record Row : Type 0 where
  pub start : Ledger
  pub lines : List Line
  pub clock : ℕ

infix 68 ◌runs◌clockReads◌
abbrev pub ◌runs◌clockReads◌ : Ledger → List Line → ℕ → Row
start runs lines clockReads clock = record { start = start; lines = lines; clock = clock }

-- A row holds if its calls get the answers written beside them and the clock reads what it says.
abbrev pub calls : Row → List Sent
calls row = map (λ (l : Line). l.sent) row.lines

abbrev pub expected : Row → List (List ℕ)
expected row = map (λ (l : Line). l.answer) row.lines

abbrev pub answered : Row → List (List ℕ)
answered row = map numbers (replies row.start (calls row))

abbrev pub clock_after : Row → ℕ
clock_after row = wrapped (task_at (after_all row.start (calls row)).memory.clocks 0).clock

pub record RowHolds (row : Row) : Type 0 where
  pub answers : answered row ≡ expected row
  pub clock : clock_after row ≡ row.clock

-- A ledger of 01's figures that only a very long list of calls comes to: task 0 runs with this clock, and so many handles are given; all
-- else is fresh.
abbrev pub late_start : (clock given : ℕ) → Ledger
late_start clock given =
    let tasks = set fresh_clocks.tasks 0 (record { state = Running; ticked = false; clock = clock }) in
    record {
      memory = record { limits = standard; clocks = record { tasks = tasks; global = 0 }; given = given; objects = []; shares = set (fresh_memory standard).shares 0 open_share; pinned = [] };
      expirations = [];
    }
