-- Order 10 on lists of display_calls that are written out: the checker computes them.
use Prim.Native.Nat.{ℕ}
use mathlib.Core.Bool.{true, false, true≢false}
use mathlib.Core.List.{List, [], ◌∷◌, map}
use mathlib.Core.Path.{◌≡◌, refl, sym, ap, ◌∙◌}
use lib.Dec.{T, eqb}
use lib.ListN.{length}
use Rattle.lists.specs.Sums.{total, sum_below}
use Rattle.lists.specs.Blocks.{overwritten}
use Rattle.lists.specs.Tests.{all}
use Rattle.lists.proofs.Tests.{same_by, all→All}
use Rattle.ledger.specs.Limits.{counter_range, standard, last_handle}
use Rattle.ledger.specs.Tasks.{fresh_clocks, moved, all_ticked, tasks_after, advances, clocks_after, entered}
use Rattle.ledger.specs.Expirations.{due_after, remaining, put_off, deserted, lasting, released, set_on_each}
use Rattle.ledger.specs.Objects.{Reply, fresh_memory, object_at, written, makers_after, shares_after, handles_of, usage}
use Rattle.ledger.specs.Shares.{made, unmet, is_full, is_short, is_at_limit}
use Rattle.ledger.specs.Refusals.{verdict}
use Rattle.ledger.specs.Rules.{reply_to, memory_after, expirations_after, tests_of}
use Rattle.ledger.specs.Remaining.{remaining_life}
use Rattle.ledger.specs.Ledger.{fresh, reply, next, replies, after_all}
use Rattle.ledger.specs.Noticed.{disturbed, disturbed_in}
use Rattle.ledger.specs.Rows.{read, numbers}
use Rattle.ledger.specs.Veil.{veiled, veiled_object, veiled_in, veiled_bytes, veils, to_viewers}
use Rattle.ledger.specs.Views.{headed, one_head, viewer_edges, display_calls, Views}
use Rattle.ledger.proofs.Edges.{passes, passing_holds}

all_pass : T (all passes viewer_edges)
unfolding passes viewer_edges one_head disturbed fresh reply next replies after_all tests_of verdict
    fresh_memory object_at written overwritten total reply_to memory_after expirations_after handles_of set_on_each usage due_after remaining remaining_life put_off deserted lasting released
    fresh_clocks moved all_ticked tasks_after advances clocks_after entered makers_after shares_after sum_below made unmet is_full is_short is_at_limit
    standard last_handle counter_range
all_pass = tt

-- two lists of replies, by their numbers
told : List Reply → List (List ℕ)
told rs = map numbers rs

differ : (rs ts : List Reply) → same_by (same_by eqb) (told rs) (told ts) ≡ false → same_by (same_by eqb) (told ts) (told ts) ≡ true → rs ≡ ts → ⊥
differ rs ts d s e = true≢false (sym s ∙ ap (λ (qs : List Reply). same_by (same_by eqb) (told qs) (told ts)) (sym e) ∙ d)

one_veil : veils (fresh standard) (display_calls 6 7 8) ≡ veils (fresh standard) (display_calls 9 10 11)
unfolding veils veiled veiled_bytes fresh next after_all tests_of verdict
    fresh_memory object_at written overwritten total memory_after expirations_after handles_of set_on_each due_after remaining put_off deserted lasting released
    fresh_clocks moved all_ticked tasks_after advances clocks_after entered makers_after shares_after sum_below made unmet is_full is_short is_at_limit
    standard last_handle counter_range
one_veil = refl

two_answers : (same_by (same_by eqb) (told (replies (fresh standard) (display_calls 6 7 8))) (told (replies (fresh standard) (display_calls 9 10 11))) ≡ false)
    × (same_by (same_by eqb) (told (replies (fresh standard) (display_calls 9 10 11))) (told (replies (fresh standard) (display_calls 9 10 11))) ≡ true)
unfolding told fresh reply next replies after_all tests_of verdict
    fresh_memory object_at written overwritten total reply_to memory_after expirations_after handles_of set_on_each usage due_after remaining remaining_life put_off deserted lasting released
    fresh_clocks moved all_ticked tasks_after advances clocks_after entered makers_after shares_after sum_below made unmet is_full is_short is_at_limit
    standard last_handle counter_range
two_answers = (refl, refl)

three : length (to_viewers (fresh standard) (display_calls 6 7 8) (replies (fresh standard) (display_calls 6 7 8))) ≡ 3
unfolding to_viewers fresh reply next replies after_all tests_of verdict
    fresh_memory object_at written overwritten total reply_to memory_after expirations_after handles_of set_on_each usage due_after remaining remaining_life put_off deserted lasting released
    fresh_clocks moved all_ticked tasks_after advances clocks_after entered makers_after shares_after sum_below made unmet is_full is_short is_at_limit
    standard last_handle counter_range
three = refl

two_ledgers_lem : veiled_in (headed 3 4) ≡ veiled_in (headed 8 9)
unfolding veiled veiled_object fresh next after_all tests_of verdict
    fresh_memory object_at written overwritten total memory_after expirations_after handles_of set_on_each due_after remaining put_off deserted lasting released
    fresh_clocks moved all_ticked tasks_after advances clocks_after entered makers_after shares_after sum_below made unmet is_full is_short is_at_limit
    standard last_handle counter_range
two_ledgers_lem = refl

two_reads_lem : (same_by (same_by eqb) (told (replies (headed 3 4) (read 0 1 ∷ []))) (told (replies (headed 8 9) (read 0 1 ∷ []))) ≡ false)
    × (same_by (same_by eqb) (told (replies (headed 8 9) (read 0 1 ∷ []))) (told (replies (headed 8 9) (read 0 1 ∷ []))) ≡ true)
unfolding told fresh reply next replies after_all tests_of verdict
    fresh_memory object_at written overwritten total reply_to memory_after expirations_after handles_of set_on_each usage due_after remaining remaining_life put_off deserted lasting released
    fresh_clocks moved all_ticked tasks_after advances clocks_after entered makers_after shares_after sum_below made unmet is_full is_short is_at_limit
    standard last_handle counter_range
two_reads_lem = (refl, refl)

under : veiled_in (disturbed_in 1 3 9 one_head) ≡ veiled_in one_head
unfolding one_head disturbed veiled veiled_object fresh next after_all tests_of verdict
    fresh_memory object_at written overwritten total memory_after expirations_after handles_of set_on_each due_after remaining put_off deserted lasting released
    fresh_clocks moved all_ticked tasks_after advances clocks_after entered makers_after shares_after sum_below made unmet is_full is_short is_at_limit
    standard last_handle counter_range
under = refl

outside : (same_by (same_by eqb) (told (replies (disturbed_in 1 3 9 one_head) (read 1 1 ∷ []))) (told (replies one_head (read 1 1 ∷ []))) ≡ false)
    × (same_by (same_by eqb) (told (replies one_head (read 1 1 ∷ []))) (told (replies one_head (read 1 1 ∷ []))) ≡ true)
unfolding told one_head disturbed fresh reply next replies after_all tests_of verdict
    fresh_memory object_at written overwritten total reply_to memory_after expirations_after handles_of set_on_each usage due_after remaining remaining_life put_off deserted lasting released
    fresh_clocks moved all_ticked tasks_after advances clocks_after entered makers_after shares_after sum_below made unmet is_full is_short is_at_limit
    standard last_handle counter_range
outside = (refl, refl)

pub views_hold : Views
unfolding viewer_edges
views_hold =
    record {
      seven = refl;
      rows = all→All passes passing_holds viewer_edges all_pass;
      veil = one_veil;
      apart = λ e. differ (replies (fresh standard) (display_calls 6 7 8)) (replies (fresh standard) (display_calls 9 10 11)) two_answers.0 two_answers.1 e;
      told = three;
      two_ledgers = two_ledgers_lem;
      two_reads = λ e. differ (replies (headed 3 4) (read 0 1 ∷ [])) (replies (headed 8 9) (read 0 1 ∷ [])) two_reads_lem.0 two_reads_lem.1 e;
      under = under;
      outside = λ e. differ (replies (disturbed_in 1 3 9 one_head) (read 1 1 ∷ [])) (replies one_head (read 1 1 ∷ [])) outside.0 outside.1 e;
    }
