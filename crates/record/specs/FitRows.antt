-- The rules W1 to W12, W14 to W16 and W18 to W25 at the figures 1, 1, 1 and 0: just what lies within them is fit. (Whole records are judged
-- by these clauses, one for each entry.)
use Rattle.std.specs.Prelude.{◌≡◌, ℕ, ◌+◌, Bool, true, false, List, [], ◌∷◌, map}
use Rattle.ledger.specs.Limits.{chosen}
use Rattle.ledger.specs.Tasks.{all_ticked}
use Rattle.ledger.specs.declared.Limits.{Limits}
use Rattle.ledger.specs.declared.Share.{Share}
use Rattle.record.specs.Codes.{task_of, local_code, pinned_code, absent_entry}
use Rattle.record.specs.Shares.{is_fit_share, is_known, is_shared_in, is_within_limit}
use Rattle.record.specs.Tables.{BlockEntry, ExpirationEntry}
use Rattle.record.specs.WellFormed.{is_fit_task, is_fit_due, is_fit_entry, is_sized_for, is_prefixed, is_fit_block, is_distinct, is_pinned_once, is_block_at, is_entry_at}
use Rattle.record.specs.declared.Due.{Due}
use Rattle.record.specs.declared.Due.TheVariants.{Local, Global, Pinned}
use Rattle.record.specs.declared.TaskEntry.{TaskEntry}

abbrev pub smallest : Limits
smallest = chosen 1 1 1 0

-- a task that runs, at local time 5, and the global time 7; an object of one byte, and what expires with it
abbrev pub runner : TaskEntry
runner = record { state = 1; ticked = 0; clock = record { 0 = 5 } }

-- the same, ticked (01: marked)
abbrev pub ticked_runner : TaskEntry
ticked_runner = record { state = 1; ticked = 1; clock = record { 0 = 5 } }

-- a viewer at the same
abbrev pub viewer : TaskEntry
viewer = record { state = 3; ticked = 0; clock = record { 0 = 5 } }

abbrev pub is_fit : Due → Bool
is_fit due = is_fit_due smallest runner (record { 0 = 7 }) true due

abbrev pub object_by : ℕ → BlockEntry
object_by task = record { handle = 1; length = 1; sum = 0; maker = task; prefix = 1 }

abbrev pub object : BlockEntry
object = object_by 0

abbrev pub expiring : ExpirationEntry
expiring = record { clock = local_code; block = 0; due = 6 }

-- a share of the small store alone
abbrev pub small_quota : ℕ → ℕ → Share
small_quota reserve limit = record { small = record { reserve = reserve; limit = limit }; large = record { reserve = 0; limit = 0 } }

-- two pinned expirations, of these blocks
abbrev pub two_pins : ℕ → ℕ → List ExpirationEntry
two_pins one other = record { clock = pinned_code; block = one; due = 0 } ∷ record { clock = pinned_code; block = other; due = 0 } ∷ []

abbrev pub is_fit_for : ExpirationEntry → Bool
is_fit_for e = is_fit_entry smallest (runner ∷ []) (record { 0 = 7 }) (object ∷ []) e

pub record FitRows : Type 0 where
  -- W1: an expiration of the block in use, and of no other; W12: nor one by a code above the last
  pub names_the_block : is_fit_for (record { clock = local_code; block = 0; due = 6 }) ≡ true
  pub names_no_block : is_fit_for (record { clock = local_code; block = 1; due = 6 }) ≡ false
  pub unknown_code : is_fit_for (record { clock = pinned_code + 1; block = 0; due = 0 }) ≡ false
  -- W2, W4: an object that is named and whose handle was given, and not one without either
  pub named_and_given : is_fit_block 1 (expiring ∷ []) 0 object ≡ true
  pub not_named : is_fit_block 1 [] 0 object ≡ false
  pub not_given : is_fit_block 0 (expiring ∷ []) 0 object ≡ false
  -- W3: 1 to 32 bytes in a small block, 33 to 256 in a large one
  pub no_bytes : is_sized_for 0 0 ≡ false
  pub small_length : is_sized_for 0 32 ≡ true
  pub past_small : is_sized_for 0 33 ≡ false
  pub below_large : is_sized_for 64 32 ≡ false
  pub large_length : is_sized_for 64 256 ≡ true
  pub past_large : is_sized_for 64 257 ≡ false
  -- W5: a handle once, and 0 as often as there are free blocks
  pub handle_once : is_distinct (0 ∷ 1 ∷ 0 ∷ 2 ∷ []) ≡ true
  pub handle_twice : is_distinct (1 ∷ 0 ∷ 1 ∷ []) ≡ false
  -- W6, W8: not what is due now
  pub due_this_tick : is_fit (Local 0 (record { 0 = 5 })) ≡ false
  pub due_this_advance : is_fit (Global 0 (record { 0 = 7 })) ≡ false
  -- W7, W14: nothing is left of an absent setter but what one that departed set by the global time
  pub absent_set_local : is_fit_due smallest absent_entry (record { 0 = 7 }) true (Local 0 (record { 0 = 1 })) ≡ false
  pub absent_set_global : is_fit_due smallest absent_entry (record { 0 = 7 }) true (Global 0 (record { 0 = 9 })) ≡ false
  pub departed_set_global : is_fit_due smallest absent_entry (record { 0 = 7 }) true (Global 16 (record { 0 = 9 })) ≡ true
  -- W11: an absent task at local time 0, and not at 1; W9: one that waits is not ticked
  pub absent_fits : is_fit_task absent_entry ≡ true
  pub absent_at_one : is_fit_task (record { state = 0; ticked = 0; clock = record { 0 = 1 } }) ≡ false
  pub waiting_ticked : is_fit_task (record { state = 2; ticked = 1; clock = record { 0 = 5 } }) ≡ false
  -- W15: a pinned one with due number 0, and not 1
  pub pinned_at_none : is_fit (Pinned 0) ≡ true
  pub pinned_at_one : is_fit (Pinned 1) ≡ false
  -- W16: two pinned ones of two blocks, and not of one
  pub pinned_each : is_pinned_once (two_pins 0 1) ≡ true
  pub pinned_twice : is_pinned_once (two_pins 0 0) ≡ false
  -- W6: one tick ahead, and not two
  pub one_tick : is_fit (Local 0 (record { 0 = 6 })) ≡ true
  pub two_ticks : is_fit (Local 0 (record { 0 = 7 })) ≡ false
  -- W8: two advances ahead, and not three
  pub two_advances : is_fit (Global 0 (record { 0 = 9 })) ≡ true
  pub three_advances : is_fit (Global 0 (record { 0 = 10 })) ≡ false
  -- W18: the first block of either store, and not the second
  pub first_small : is_block_at smallest 0 object ≡ true
  pub second_small : is_block_at smallest 1 object ≡ false
  pub first_large : is_block_at smallest 64 object ≡ true
  pub second_large : is_block_at smallest 65 object ≡ false
  -- W19: the first entry, and not the second
  pub first_entry : is_entry_at smallest 0 expiring ≡ true
  pub second_entry : is_entry_at smallest 1 expiring ≡ false
  -- W20: an absent task has nothing of the small store, and not a limit of 1
  pub absent_with_nothing : is_fit_share [] 0 (small_quota 0 0) ≡ true
  pub absent_with_a_limit : is_fit_share [] 0 (small_quota 0 1) ≡ false
  -- nor has a viewer
  pub viewer_with_nothing : is_fit_share (viewer ∷ []) 0 (small_quota 0 0) ≡ true
  pub viewer_with_a_limit : is_fit_share (viewer ∷ []) 0 (small_quota 0 1) ≡ false
  -- W21: a reserve as high as its limit, and not above it
  pub reserve_at_limit : is_fit_share (runner ∷ []) 0 (small_quota 1 1) ≡ true
  pub reserve_above_limit : is_fit_share (runner ∷ []) 0 (small_quota 2 1) ≡ false
  -- W22: made by one who left, and not by a seventeenth task
  pub made_by_departed : is_known (object_by 16) ≡ true
  pub made_by_nobody : is_known (object_by 17) ≡ false
  -- W23: a reserve of the one small block, met or unmet; and not two, or one while another's object has the block
  pub one_reserve : is_shared_in true smallest (small_quota 1 1 ∷ []) [] ≡ true
  pub met_reserve : is_shared_in true smallest (small_quota 1 1 ∷ []) (object_by 0 ∷ []) ≡ true
  pub two_reserves : is_shared_in true smallest (small_quota 1 1 ∷ small_quota 1 1 ∷ []) [] ≡ false
  pub taken_reserve : is_shared_in true smallest (small_quota 1 1 ∷ []) (object_by 16 ∷ []) ≡ false
  -- W24: as many objects as the limit, and not more
  pub at_limit : is_within_limit true (object_by 0 ∷ []) 0 (small_quota 0 1) ≡ true
  pub above_limit : is_within_limit true (object_by 0 ∷ []) 0 (small_quota 0 0) ≡ false
  -- W25: a prefix of the whole object, and not one byte more
  pub prefix_of_all : is_prefixed object ≡ true
  pub prefix_past_the_end : is_prefixed (record { handle = 1; length = 1; sum = 0; maker = 0; prefix = 2 }) ≡ false
  -- W9, W12, V2: a viewer with a local time is fit, a ticked one is not, nor is a code beyond it
  pub viewer_fits : is_fit_task viewer ≡ true
  pub viewer_ticked : is_fit_task (record { state = 3; ticked = 1; clock = record { 0 = 5 } }) ≡ false
  pub fifth_state : is_fit_task (record { state = 4; ticked = 0; clock = record { 0 = 0 } }) ≡ false
  -- W10, V2: where all that run are ticked the record is not fit, whatever viewers are beside them; viewers alone do not run
  pub ticked_beside_viewer : all_ticked (map task_of (ticked_runner ∷ viewer ∷ [])) ≡ true
  pub viewers_alone : all_ticked (map task_of (viewer ∷ viewer ∷ [])) ≡ false
  -- W7, W14: a viewer is there, and may be the setter of what is one tick or two advances ahead
  pub viewer_set_local : is_fit_due smallest viewer (record { 0 = 7 }) true (Local 0 (record { 0 = 6 })) ≡ true
  pub viewer_set_global : is_fit_due smallest viewer (record { 0 = 7 }) true (Global 0 (record { 0 = 9 })) ≡ true
