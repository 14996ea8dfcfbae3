-- Order 4's claim of the pool: by demand 2 the record has the ledger's expirations, and of the ledger the claim is proved.
use Prim.Native.Nat.{ℕ, ◌≤◌}
use mathlib.Core.Bool.{true}
use mathlib.Core.List.{List, [], ◌∷◌, ◌++◌, append_assoc, Permᴰ}
use mathlib.Core.Path.{◌≡◌, refl, sym, ap, subst, ◌∙◌}
use borrow.Author.Tests.{ltb-true}
use Rattle.lists.specs.Tests.{All}
use Rattle.lists.proofs.Permutations.{exchange_perm, map_perm}
use Rattle.ledger.specs.Limits.{standard, last_handle}
use Rattle.lists.specs.Sums.{sum_below}
use Rattle.ledger.specs.Shares.{made, unmet, is_full, is_short, is_at_limit}
use Rattle.ledger.specs.Tasks.{fresh_clocks, moved, all_ticked, tasks_after, advances, clocks_after, entered}
use Rattle.ledger.specs.Expirations.{Expiration, due_after, remaining, put_off, lasting}
use Rattle.ledger.specs.Objects.{fresh_memory, makers_after, shares_after}
use Rattle.ledger.specs.Refusals.{verdict}
use Rattle.ledger.specs.Rules.{memory_after, expirations_after, tests_of}
use Rattle.ledger.specs.Rows.{join, block, tick, make}
use Rattle.ledger.specs.declared.Event.TheVariants.{Tick}
use Rattle.ledger.specs.declared.Kind.TheVariants.{Global}
use Rattle.ledger.specs.Ledger.{Ledger, Sent, fresh, next, after_sent, after_all}
use Rattle.ledger.specs.Compared.{view_of, shown}
use Rattle.ledger.specs.Kept.{ExpirationKept}
use Rattle.ledger.specs.Outlives.{Move, happens, move_of, move_in, left_by, followed, set_in}
use Rattle.ledger.specs.PutOff.{global_one, left_of_one, LeftWith, AdvanceLeaves}
use Rattle.ledger.proofs.Figures.{standard_allowed}
use Rattle.ledger.proofs.Following.{following}
use Rattle.ledger.proofs.Kept.{kept_all}
use Rattle.ledger.proofs.PutOff.{waiting_eats_nothing}
use Rattle.record.specs.Pools.{Reads}
use Rattle.record.specs.declared.Pool.{Pool}
use Rattle.demands.specs.Outlives.{FreshRun, Shows}
use Rattle.demands.specs.PutOff.{AtAdvance, before, clocks_before, units_before, left_at, others_at, ShownWith, calls_to, PoolWaitingEatsNothing, AdvancesApply}
use Rattle.demands.proofs.Outlives.{every_list_from_fresh, fresh_follows, after_append}

-- one of a list of which all hold
middle {ℓ} : {A : Type 0} (P : A → Type ℓ) (front : List A) (x : A) (back : List A) → All P (front ++ (x ∷ back)) → P x
middle P [] x back (h, hs) = h
middle P (y ∷ front) x back (h, hs) = middle P front x back hs

module _ (a : AtAdvance) where
  abbrev L : Ledger
  L = before a

  abbrev M : Ledger
  M = after_sent L a.call

  abbrev it : Expiration
  it = global_one a.handle a.setter a.at

  after_call : after_all (fresh a.limits) (calls_to a) ≡ M
  unfolding after_all
  after_call = after_append a.earlier (a.call ∷ []) (fresh a.limits)

  -- it had units left
  some_left : 1 ≤ units_before a
  some_left =
      let k = middle (ExpirationKept L.memory.limits (clocks_before a) L.memory.objects) a.front it a.back (rw a.among at (kept_all a.limits a.earlier).expirations.each) in
      ltb-true 0 _ k.ahead

  -- and what the advance leaves is by the ledger's claim
  leaves : AdvanceLeaves a.event a.task (clocks_before a)
  leaves = waiting_eats_nothing.every a.event a.task (clocks_before a) (kept_all a.limits a.earlier).clocks a.advanced

  -- what the call leaves of it is by the event
  left_one : left_at a (it ∷ []) ≡ left_of_one a.event a.task (clocks_before a) it
  left_one = ap (λ (v : Move). left_by (clocks_before a) v (it ∷ [])) a.happened

  -- the ledger's expirations after it: what is left of each
  parted : M.expirations ≡ set_in L a.call.request a.call.bytes ++ (left_at a a.front ++ (left_at a (it ∷ []) ++ left_at a a.back))
  unfolding followed
  parted =
      following.parts L a.call.request a.call.bytes
      ∙ ap (λ (xs : List Expiration). set_in L a.call.request a.call.bytes ++ xs)
      (ap (left_at a) a.among ∙ following.apart L (a.call ∷ []) a.front (it ∷ a.back)
      ∙ ap (λ (xs : List Expiration). left_at a a.front ++ xs) (following.apart L (a.call ∷ []) (it ∷ []) a.back))

  -- so the record has what is left of it, and the others
  shown_as : (p' : Pool) (small' large' : List ℕ) → FreshRun a.limits (calls_to a) p' small' large' → (left : List Expiration)
      → left_of_one a.event a.task (clocks_before a) it ≡ left → Shows p' small' large' M (left ++ others_at a)
  unfolding view_of
  shown_as p' small' large' r left e =
      let at_end : Reads p' small' large' M = subst (λ (N : Ledger). Reads p' small' large' N) after_call (fresh_follows r).1 in
      let new = set_in L a.call.request a.call.bytes in
      let front = left_at a a.front in
      let back = left_at a a.back in
      let order : Permᴰ M.expirations (left ++ (new ++ (front ++ back))) =
      subst (λ (xs : List Expiration). Permᴰ xs (left ++ (new ++ (front ++ back))))
      (sym (parted ∙ ap (λ (xs : List Expiration). new ++ (front ++ (xs ++ back))) (left_one ∙ e)))
      (rw (← append_assoc new front (left ++ back), ← append_assoc new front back) (exchange_perm (new ++ front) left back)) in
      mathlib.Core.List.Permᴰ.trans at_end.alike.expirations (map_perm (shown M.memory.clocks) order)

  shown_with : (p' : Pool) (small' large' : List ℕ) → FreshRun a.limits (calls_to a) p' small' large' → (count : ℕ)
      → LeftWith a.event a.task (clocks_before a) it count → ShownWith a p' small' large' count
  shown_with p' small' large' r count l = record { left = l; shows = shown_as p' small' large' r (l.one ∷ []) l.left }

pub pool_waiting_eats_nothing : PoolWaitingEatsNothing
pool_waiting_eats_nothing =
    record {
      waits = λ a p' small' large' r w. shown_with a p' small' large' r _ ((leaves a).waits a.handle a.setter a.at w (some_left a));
      counts = λ a p' small' large' r w two. shown_with a p' small' large' r _ ((leaves a).counts a.handle a.setter a.at w two);
      ends = λ a p' small' large' r w last. shown_as a p' small' large' r [] ((leaves a).ends a.handle a.setter a.at w last);
    }

-- Advances by a tick, where task 0 has set a global expiration with extension 0 on object 1
at_tick : (earlier : List Sent) (task : ℕ) → (let L = after_all (fresh standard) earlier in
    move_in L (tick task).request [] ≡ happens Tick task → advances Tick task L.memory.clocks ≡ true → L.expirations ≡ global_one 1 0 2 ∷ [] → AtAdvance)
at_tick earlier task happened advanced among =
    record {
      limits = standard;
      earlier = earlier;
      call = tick task;
      event = Tick;
      task = task;
      happened = happened;
      advanced = advanced;
      handle = 1;
      setter = 0;
      at = 2;
      front = [];
      back = [];
      among = among;
    }

pub advances_apply : AdvancesApply
unfolding at_tick move_of move_in fresh next after_all tests_of verdict fresh_memory memory_after expirations_after due_after remaining put_off lasting
    fresh_clocks moved all_ticked tasks_after advances clocks_after
    entered makers_after shares_after sum_below made unmet is_full is_short is_at_limit standard last_handle
advances_apply =
    let waits : AtAdvance = at_tick (join 0 ∷ join 1 ∷ make 0 Global 0 4 ∷ block 0 ∷ []) 1 refl refl refl in
    let counts : AtAdvance = at_tick (join 0 ∷ make 0 Global 0 4 ∷ []) 0 refl refl refl in
    let ends : AtAdvance = at_tick (join 0 ∷ make 0 Global 0 4 ∷ tick 0 ∷ []) 0 refl refl refl in
    record {
      waits = (waits, every_list_from_fresh standard standard_allowed (calls_to waits), refl);
      counts = (counts, every_list_from_fresh standard standard_allowed (calls_to counts), refl, refl);
      ends = (ends, every_list_from_fresh standard standard_allowed (calls_to ends), refl, refl);
    }
