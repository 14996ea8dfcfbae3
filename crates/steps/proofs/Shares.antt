-- What of either store is taken, made, held back and left is the same of a record and of the ledger that it reads as.
use Prim.Native.Nat.{ℕ, suc, ◌+◌, ◌≤◌, ◌<◌}
use native.Mathlib.Nat.{zero-add}
use native.Mathlib.Omega.{arith}
use mathlib.Core.Bool.{Bool, true, false, cond, not, ◌&&◌, ◌||◌, and_assoc, and-eq-true_iff}
use mathlib.Core.List.Permᴰ
use mathlib.Core.List.{List, [], ◌∷◌}
use mathlib.Core.Path.{◌≡◌, refl, sym, ap, fun_ext, ◌∙◌}
use borrow.Author.Tests.{eqb-true, leb-true, le-leb}
use lib.Dec.{eqb, leb}
use lib.ListN.{length, get_or}
use Rattle.lists.specs.Tables.{read_from, all_from}
use Rattle.lists.specs.Tests.{all, count, All}
use Rattle.lists.proofs.All.{all_map, map_all}
use Rattle.lists.proofs.Cases.{by_test}
use Rattle.lists.proofs.Counts.{count_map}
use Rattle.lists.proofs.Permutations.{all_perm, count_perm}
use Rattle.lists.proofs.Sums.{sum_same}
use Rattle.lists.proofs.Tables.{all_from_at, all_from_each, all_from_within}
use Rattle.ledger.specs.Limits.{task_count, is_small}
use Rattle.ledger.specs.Tasks.{is_active, task_at}
use Rattle.ledger.specs.Expirations.{departed}
use Rattle.ledger.specs.Objects.{Object, no_share}
use Rattle.ledger.specs.Shares.{quota_in, quota_of, blocks_in, used_in, made, unmet, all_unmet, taken_from, is_full, is_short, is_short_of, is_at_limit}
use Rattle.ledger.specs.Compared.{shown_object, view_of}
use Rattle.ledger.specs.Kept.{SharesKept}
use Rattle.ledger.specs.Ledger.{Ledger}
use Rattle.ledger.specs.declared.Share.{Share}
use Rattle.ledger.proofs.Shares.{unmet_so}
use Rattle.record.specs.Codes.{state_of, absent_entry}
use Rattle.record.specs.Reading.{object_in, record_view, is_whole, Reads}
use Rattle.record.specs.Shares.{is_taken, taken_in, made_in, unmet_in, all_unmet_in, spoken_in, taken_but, is_limited, is_nothing, is_ordered, is_fit_share, is_known, is_within_limit, is_shared_in, is_shared}
use Rattle.record.specs.Tables.{BlockEntry, Tables}
use Rattle.record.specs.declared.TaskEntry.{TaskEntry}
use Rattle.record.proofs.Facts.{Shared}
use Rattle.steps.specs.Facts.{is_filled, is_scant}
use Rattle.steps.proofs.ReadTasks.{state_alike}

-- a count of a record's objects by size and maker is one of its blocks in use
count_blocks : (small large : List ℕ) (q : ℕ → ℕ → Bool) (i : ℕ) (bs : List BlockEntry)
    → count (λ (o : Object). q o.size o.maker) (read_from i (object_in small large) bs) ≡ count (λ (b : BlockEntry). not (eqb b.handle 0) && q b.length b.maker) bs
unfolding object_in
count_blocks small large q i [] = refl
count_blocks small large q i (b ∷ bs) =
    by_test (eqb b.handle 0)
    (λ z. rw z (count_blocks small large q (suc i) bs))
    (λ z. rw (z, count_blocks small large q (suc i) bs))

abbrev KnownMaker : Object → Type 0
KnownMaker o = o.maker ≤ departed

-- the makers of a record's objects are those of its blocks in use
known_read : (small large : List ℕ) (i : ℕ) (bs : List BlockEntry) → all is_known bs ≡ true
    → All KnownMaker (read_from i (object_in small large) bs)
unfolding object_in
known_read small large i [] e = tt
known_read small large i (b ∷ bs) e =
    let (here, rest) = (and-eq-true_iff (is_known b) _).0 e in
    by_test (eqb b.handle 0)
    (λ z. rw z (known_read small large (suc i) bs rest))
    (λ z. rw z (leb-true _ _ (rw z at here), known_read small large (suc i) bs rest))

read_known : (small large : List ℕ) (i : ℕ) (bs : List BlockEntry) → All KnownMaker (read_from i (object_in small large) bs)
    → all is_known bs ≡ true
unfolding object_in
read_known small large i [] h = refl
read_known small large i (b ∷ bs) h =
    by_test (eqb b.handle 0)
    (λ z. rw (z, read_known small large (suc i) bs (rw z at h)))
    (λ z. let (here, rest) = rw z at h in rw (z, le-leb b.maker departed here, read_known small large (suc i) bs rest))

-- what a fit share has
record FitShareAt (tasks : List TaskEntry) (task : ℕ) (share : Share) : Type 0 where
  nothing : is_active (state_of (get_or tasks task absent_entry).state) ≡ false → share ≡ no_share
  small : share.small.reserve ≤ share.small.limit
  large : share.large.reserve ≤ share.large.limit

share_of_lem : (a b c d : ℕ) → a ≡ 0 → b ≡ 0 → c ≡ 0 → d ≡ 0
    → ◌≡◌ {A = Share} (record { small = record { reserve = a; limit = b }; large = record { reserve = c; limit = d } }) no_share
share_of_lem a b c d p q r s = rw (p, q, r, s)

fit_share : (tasks : List TaskEntry) (task : ℕ) (share : Share) → is_fit_share tasks task share ≡ true → FitShareAt tasks task share
fit_share tasks task share e =
    let active = is_active (state_of (get_or tasks task absent_entry).state) in
    let (none, ordered) = (and-eq-true_iff (active || (is_nothing share.small && is_nothing share.large)) _).0 e in
    let (small, large) = (and-eq-true_iff (is_ordered share.small) _).0 ordered in
    record {
      nothing = λ a.
          let (s, l) = (and-eq-true_iff (is_nothing share.small) _).0 (rw a at none) in
          let (sr, sl) = (and-eq-true_iff (eqb share.small.reserve 0) _).0 s in
          let (lr, ll) = (and-eq-true_iff (eqb share.large.reserve 0) _).0 l in
          share_of_lem _ _ _ _ (eqb-true _ 0 sr) (eqb-true _ 0 sl) (eqb-true _ 0 lr) (eqb-true _ 0 ll);
      small = leb-true _ _ small;
      large = leb-true _ _ large;
    }

share_fits : (tasks : List TaskEntry) (task : ℕ) (share : Share) → FitShareAt tasks task share → is_fit_share tasks task share ≡ true
share_fits tasks task share f =
    by_test (is_active (state_of (get_or tasks task absent_entry).state))
    (λ a. rw (a, le-leb share.small.reserve share.small.limit f.small, le-leb share.large.reserve share.large.limit f.large))
    (λ a. rw (a, f.nothing a))

none_fits : (tasks : List TaskEntry) (task : ℕ) → is_fit_share tasks task no_share ≡ true
none_fits tasks task = by_test (is_active (state_of (get_or tasks task absent_entry).state)) (λ a. rw a) (λ a. rw a)

-- who is not active has nothing
pub inactive_nothing : (p : Tables) → Shared p → (task : ℕ) → is_active (state_of (get_or p.tasks task absent_entry).state) ≡ false → get_or p.shares task no_share ≡ no_share
unfolding is_shared
inactive_nothing p e task =
    let (rest, _) = (and-eq-true_iff _ (is_shared_in false p.limits p.shares p.blocks)).0 e in
    let (rest, _) = (and-eq-true_iff _ (is_shared_in true p.limits p.shares p.blocks)).0 rest in
    let (fits, _) = (and-eq-true_iff (all_from 0 (is_fit_share p.tasks) p.shares) _).0 rest in
    (fit_share p.tasks task (get_or p.shares task no_share) (all_from_at (is_fit_share p.tasks) no_share (none_fits p.tasks) p.shares fits task)).nothing

module _ {p : Tables} {small large : List ℕ} {L : Ledger} (reads : Reads p small large L) where
  pub shares_alike : p.shares ≡ L.memory.shares
  unfolding record_view view_of
  shares_alike = reads.alike.shares

  limits_alike : L.memory.limits ≡ p.limits
  unfolding record_view view_of
  limits_alike = sym reads.alike.limits

  count_alike : (q : ℕ → ℕ → Bool)
      → count (λ (b : BlockEntry). not (eqb b.handle 0) && q b.length b.maker) p.blocks ≡ count (λ (o : Object). q o.size o.maker) L.memory.objects
  unfolding record_view view_of
  count_alike q =
      let os = read_from 0 (object_in small large) p.blocks in
      let is : Object → Bool = λ o. q o.size o.maker in
      sym (count_blocks small large q 0 p.blocks) ∙ sym (count_map is (shown_object (is_whole p.limits small large)) os) ∙ count_perm is reads.alike.objects
      ∙ count_map is (shown_object (is_whole p.limits small large)) L.memory.objects

  module _ (store : Bool) where
    pub taken_alike : taken_in store p.blocks ≡ used_in store L.memory.objects
    unfolding is_taken
    taken_alike = count_alike (λ size maker. cond store (is_small size) (not (is_small size)))

    pub made_alike : (task : ℕ) → made_in store p.blocks task ≡ made store L.memory.objects task
    unfolding is_taken made_in made
    made_alike task =
        ap (λ (is : BlockEntry → Bool). count is p.blocks) (fun_ext (λ b. and_assoc (not (eqb b.handle 0)) (cond store (is_small b.length) (not (is_small b.length))) (eqb b.maker task)))
        ∙ count_alike (λ size maker. cond store (is_small size) (not (is_small size)) && eqb maker task)

    pub unmet_alike : (task : ℕ) → unmet_in store p.shares p.blocks task ≡ unmet store L.memory.shares L.memory.objects task
    unmet_alike task = rw (made_alike task, shares_alike) (sym (unmet_so store L.memory.shares L.memory.objects task))

    pub all_alike : all_unmet_in store p.shares p.blocks ≡ all_unmet store L.memory.shares L.memory.objects
    unfolding all_unmet_in
    all_alike = sum_same task_count _ _ unmet_alike

    but_alike : (task : ℕ) → taken_but store p.shares p.blocks task ≡ taken_from store L.memory.shares L.memory.objects task
    unfolding taken_but
    but_alike task = rw (taken_alike, all_alike, unmet_alike task)

    pub full_alike : (task : ℕ) → is_full store L.memory.shares L.memory.objects L.memory.limits task ≡ is_filled store p.limits p.shares p.blocks task
    unfolding is_full
    full_alike task = rw (but_alike task, limits_alike)

    short_alike : (task reserve : ℕ)
        → is_short store L.memory.shares L.memory.objects L.memory.limits task reserve ≡ is_scant store p.limits p.shares p.blocks task reserve
    unfolding is_short
    short_alike task reserve = rw (but_alike task, limits_alike)

    pub limit_alike : (task : ℕ) → is_at_limit store L.memory.shares L.memory.objects task ≡ is_limited store p.shares p.blocks task
    unfolding is_at_limit is_limited
    limit_alike task = rw (made_alike task, shares_alike)

    store_kept : length p.shares ≡ task_count → is_shared_in store p.limits p.shares p.blocks ≡ true
        → (used_in store L.memory.objects + all_unmet store L.memory.shares L.memory.objects ≤ blocks_in L.memory.limits store)
        × ((task : ℕ) → task < task_count → made store L.memory.objects task ≤ (quota_of store L.memory.shares L.memory.objects task).limit)
    unfolding is_shared_in
    store_kept n e =
        let (room, each) = (and-eq-true_iff (leb (spoken_in store p.shares p.blocks) (blocks_in p.limits store)) _).0 e in (
          rw (limits_alike, ← taken_alike, ← all_alike) (leb-true _ _ room),
          λ task l.
              rw (← made_alike task, ← shares_alike)
              (leb-true _ _ (rw (zero-add task) at (all_from_within (is_within_limit store p.blocks) no_share 0 p.shares each task (omega (arith, n))))),
        )

    kept_store : length p.shares ≡ task_count → SharesKept L.memory.limits L.memory.clocks L.memory.shares L.memory.objects
        → is_shared_in store p.limits p.shares p.blocks ≡ true
    unfolding is_shared_in
    kept_store n k =
        (and-eq-true_iff (leb (spoken_in store p.shares p.blocks) (blocks_in p.limits store)) _).1 (
          le-leb (spoken_in store p.shares p.blocks) (blocks_in p.limits store) (rw (← limits_alike, taken_alike, all_alike) (k.room store)),
          all_from_each (is_within_limit store p.blocks) no_share 0 p.shares
              (λ task l. rw (zero-add task) (le-leb (made_in store p.blocks task) (quota_in store (get_or p.shares task no_share)).limit (rw (made_alike task, shares_alike) (k.below store task (omega (arith, n)))))),
        )

  -- a record's makers are known where its objects' are
  known_kept : all is_known p.blocks ≡ true → All KnownMaker L.memory.objects
  unfolding record_view view_of
  known_kept e =
      let read = read_from 0 (object_in small large) p.blocks in
      let show = shown_object (is_whole p.limits small large) in
      map_all KnownMaker show L.memory.objects (all_perm KnownMaker reads.alike.objects (all_map KnownMaker show read (known_read small large 0 p.blocks e)))

  kept_known : All KnownMaker L.memory.objects → all is_known p.blocks ≡ true
  unfolding record_view view_of
  kept_known h =
      let read = read_from 0 (object_in small large) p.blocks in
      let show = shown_object (is_whole p.limits small large) in
      read_known small large 0 p.blocks
      (map_all KnownMaker show read (all_perm KnownMaker (Permᴰ.symm reads.alike.objects) (all_map KnownMaker show L.memory.objects h)))

  -- whose state there is the one here
  state_there : (task : ℕ) → state_of (get_or p.tasks task absent_entry).state ≡ (task_at L.memory.clocks task).state
  unfolding record_view view_of
  state_there task = state_alike p.tasks L.memory.clocks reads.alike.tasks task

  -- the ledger's shares are kept where the record's are
  pub shared_kept : length p.shares ≡ task_count → Shared p → SharesKept L.memory.limits L.memory.clocks L.memory.shares L.memory.objects
  unfolding is_shared
  shared_kept n e =
      let (rest, large) = (and-eq-true_iff _ (is_shared_in false p.limits p.shares p.blocks)).0 e in
      let (rest, small) = (and-eq-true_iff _ (is_shared_in true p.limits p.shares p.blocks)).0 rest in
      let (fits, known) = (and-eq-true_iff (all_from 0 (is_fit_share p.tasks) p.shares) _).0 rest in
      let at : (task : ℕ) → FitShareAt p.tasks task (get_or p.shares task no_share) =
      λ task. fit_share p.tasks task (get_or p.shares task no_share) (all_from_at (is_fit_share p.tasks) no_share (none_fits p.tasks) p.shares fits task) in
      record {
        sixteen = rw (← shares_alike) n;
        inactive = λ task a. rw (← shares_alike) ((at task).nothing (rw (state_there task) a));
        ordered = λ store task. rw (← shares_alike) (by_test store (λ s. rw s (at task).small) (λ s. rw s (at task).large));
        known = known_kept known;
        room = λ store. by_test store (λ s. rw s (store_kept true n small).0) (λ s. rw s (store_kept false n large).0);
        below = λ store. by_test store (λ s. rw s (store_kept true n small).1) (λ s. rw s (store_kept false n large).1);
      }

  pub kept_shared : length p.shares ≡ task_count → SharesKept L.memory.limits L.memory.clocks L.memory.shares L.memory.objects → Shared p
  unfolding is_shared
  kept_shared n k =
      rw (
        all_from_each (is_fit_share p.tasks) no_share 0 p.shares
            (λ task l. rw (zero-add task)
            (share_fits p.tasks task (get_or p.shares task no_share)
            (record {
              nothing = λ a. shares_at task ∙ k.inactive task (rw (← state_there task) a);
              small = rw (shares_at task) (k.ordered true task);
              large = rw (shares_at task) (k.ordered false task);
            }))),
        kept_known k.known,
        kept_store true n k,
        kept_store false n k,
      )
    where
      shares_at : (task : ℕ) → get_or p.shares task no_share ≡ get_or L.memory.shares task no_share
      shares_at task = rw shares_alike

  -- 25 of either store
  pub scant_alike : (task : ℕ) (share : Share)
      → is_short_of L.memory.limits L.memory.shares L.memory.objects task share
      ≡ (is_scant true p.limits p.shares p.blocks task share.small.reserve || is_scant false p.limits p.shares p.blocks task share.large.reserve)
  scant_alike task share = rw (short_alike true task share.small.reserve, short_alike false task share.large.reserve)
