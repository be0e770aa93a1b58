-- Values at their indices: at which place an index lies, which error says that it has none, what a change of one value
-- changes, and what a change of the machine at the place of an index is to a pool.
use Rattle.std.proofs.Common.{◌≡◌, ◌≢◌, ◌∙◌, ◌<◌, ◌≤◌, ◌+◌, ◌-◌, ◌++◌, inl, inr, [], ◌∷◌, List, Ok, Err, Result, Option, Some, None, ap, arith, get_or, length, map, refl, set, sym, suc, zero, ℕ, true, false}
use Rattle.std.specs.Prelude.{All, MatchResult, ◌↔◌, is_some, nat_eq, remove, if◌then◌else◌}
use Rattle.std.specs.List.{range_with_len}
use Rattle.std.proofs.lemmas.Bool.{cases_eq, cases_lt, ne_eqb, eq-eqb}
use Rattle.std.specs.Result.{IfErr, IfOk, IsErrAnd, OnErr, result_ok}
use Rattle.std.proofs.lemmas.List.Sorted.{searched}
use Rattle.std.specs.List.Sorted.{IsBinarySearchResult}
use Rattle.std.specs.Ordering.{nat_cmp}
use Rattle.std.proofs.lemmas.List.Edits.{length-remove, get_or-remove_below, get_or-remove_above}
use Rattle.std.proofs.lemmas.List.Elements.{All-push}
use Rattle.std.proofs.lemmas.List.{get_or_past, get_or-set_same, get_or-set_other, set-get_or, length-set, length-append}
use Rattle.std.proofs.lemmas.List.FromFn.{fill_by_all, get_or-map-range_with_len, length-map-range_with_len, map-range_with_len_more}
use Rattle.std.proofs.lemmas.List.Quantifiers.{all_pairs_push, all_pairs_remove}
use Rattle.wasmi_meter.specs.declared.quota.Amounts.{Amounts}
use Rattle.wasmi_machine.specs.State.{State}
use Rattle.wasmi_machine.specs.declared.{calls.Call.Call, calls.Reply.Reply}
use Rattle.wasmi_budget.proofs.PoolLemmas.{part_kept, part_runs}
use Rattle.wasmi_budget.specs.Pool.{BecomesAt, IsKept, RunsAsPart, RunsTenant, pool_of}
use Rattle.wasmi_budget.specs.Tenants.{HasAllUpTo, value_of, by_index, IsListed, IsPlace, Rises}

-- rising indices at places that are so far apart are as far apart, or farther
gaps : (indices : List ℕ) → Rises indices → (k d n : ℕ) → n ≡ k + d → n < length indices
    → get_or indices k 0 + d ≤ get_or indices n 0
gaps indices rises k zero n is within = let same : n ≡ k = omega (arith, is) in rw same (omega arith)
gaps indices rises k (suc d) n is within =
    let before = gaps indices rises k d (k + d) refl (omega (arith, is, within)) in
    let less = rises (k + d) n 0 (omega (arith, is)) within in
    omega (arith, before, less)

-- a number at a place that isn't before it is its own place
own_place : (indices : List ℕ) → Rises indices → (n p : ℕ) → p < length indices → get_or indices p 0 ≡ n → n ≤ p
    → IsPlace indices n (Some n)
own_place indices rises n p within at le =
    let least = gaps indices rises 0 p p (omega arith) within in
    let same : p ≡ n = omega (arith, least, at, le) in
    (omega (arith, within, same), ap (λ q. get_or indices q 0) (sym same) ∙ at)

module _ {X : Type 0} where
  -- there is something at each place within
  something : (values : List X) (p : ℕ) → p < length values → (x : X) × (get_or values p x ≡ x)
  something [] p within = absurd (omega (arith, within))
  something (x ∷ values) zero within = (x, refl)
  something (x ∷ values) (suc p) within = something values p (omega (arith, within))

  -- an index that has a value is one of the indices
  among : (indices : List ℕ) (values : List X) (j : ℕ) → is_some (value_of indices values j) ≡ true
      → (p : ℕ) × (p < length indices) × (get_or indices p 0 ≡ j)
  among (i ∷ indices) (x ∷ values) j has = elim (cases_eq i j) [
    | inl same ↦ (0, omega arith, same)
    | inr other ↦
        let (p, within, at) = among indices values j (rw (ne_eqb i j other) at has) in
        (suc p, omega (arith, within), at)
  ]
  among indices values j has = absurd cc

  -- where each index up to this one has a value, it is its own place
  first_places : (indices : List ℕ) (values : List X) → Rises indices → (n : ℕ)
      → ((k : ℕ) → k ≤ n → is_some (value_of indices values k) ≡ true) → IsPlace indices n (Some n)
  first_places indices values rises zero has =
      let found = among indices values 0 (has 0 (omega arith)) in
      own_place indices rises 0 found.0 found.1 found.2 (omega arith)
  first_places indices values rises (suc n) has =
      let before = first_places indices values rises n (λ k le. has k (omega (arith, le))) in
      let (p, within, at) = among indices values (suc n) (has (suc n) (omega arith)) in
      own_place indices rises (suc n) p within at (elim (cases_lt n p) [
        | inl more ↦ more
        | inr less ↦
            let gap = gaps indices rises p (n - p) n (omega (arith, less)) before.0 in
            absurd (omega (arith, gap, at, before.1))
      ])

  -- the value of the index at a place
  pub value_at : (indices : List ℕ) (values : List X) (p j : ℕ) (x : X) → Rises indices
      → length values ≡ length indices → p < length indices → get_or indices p 0 ≡ j → get_or values p x ≡ x
      → value_of indices values j ≡ Some x
  value_at (i ∷ indices) (y ∷ values) zero j x rises same within at is =
      rw (at, eq-eqb j j refl) (ap Some is)
  value_at (i ∷ indices) (y ∷ values) (suc p) j x rises same within at is =
      let less : i < j = let r = rises 0 (suc p) 0 (omega arith) within in omega (arith, r, at) in
      rw (ne_eqb i j (λ e. absurd (omega (arith, e, less))))
      (value_at indices values p j x (λ a b d less in'. rises (suc a) (suc b) d (omega (arith, less)) (omega (arith, in')))
      (omega (arith, same)) (omega (arith, within)) at is)
  value_at indices values p j x rises same within at is = absurd (omega (arith, same, within))

  -- an index that isn't among them has none
  pub value_none : (indices : List ℕ) (values : List X) (j : ℕ) → ((k : ℕ) → k < length indices → get_or indices k 0 ≢ j)
      → value_of indices values j ≡ None
  value_none (i ∷ indices) (y ∷ values) j other =
      rw (ne_eqb i j (other 0 (omega arith)))
      (value_none indices values j (λ k within. other (suc k) (omega (arith, within))))
  value_none indices values j other = refl

  -- another value at a place changes that of its index alone
  value_set_other : (indices : List ℕ) (values : List X) (p k : ℕ) (x : X) → p < length indices → get_or indices p 0 ≢ k
      → value_of indices (set values p x) k ≡ value_of indices values k
  value_set_other [] values p k x within other = absurd (omega (arith, within))
  value_set_other (i ∷ indices) [] p k x within other = refl
  value_set_other (i ∷ indices) (y ∷ values) zero k x within other = rw (ne_eqb i k other) refl
  value_set_other (i ∷ indices) (y ∷ values) (suc p) k x within other =
      ap (λ rest. if nat_eq i k then Some y else rest)
      (value_set_other indices values p k x (omega (arith, within)) other)

  -- without a place its index has none
  value_removed : (indices : List ℕ) (values : List X) (p : ℕ) → Rises indices → p < length indices
      → value_of (remove indices p) (remove values p) (get_or indices p 0) ≡ None
  value_removed [] values p rises within = absurd (omega (arith, within))
  value_removed (i ∷ indices) values zero rises within =
      value_none indices _ i (λ k inside e.
      let r = rises 0 (suc k) 0 (omega arith) (omega (arith, inside)) in absurd (omega (arith, r, e)))
  value_removed (i ∷ indices) [] (suc p) rises within = refl
  value_removed (i ∷ indices) (y ∷ values) (suc p) rises within =
      let less : i < get_or indices p 0 = rises 0 (suc p) 0 (omega arith) within in
      rw (ne_eqb i (get_or indices p 0) (λ e. absurd (omega (arith, e, less))))
      (value_removed indices values p
      (λ a b d less in'. rises (suc a) (suc b) d (omega (arith, less)) (omega (arith, in'))) (omega (arith, within)))

  -- and another index has the one that it had
  value_kept : (indices : List ℕ) (values : List X) (p k : ℕ) → p < length indices → length values ≡ length indices
      → get_or indices p 0 ≢ k → value_of (remove indices p) (remove values p) k ≡ value_of indices values k
  value_kept (i ∷ indices) (y ∷ values) zero k within same other = rw (ne_eqb i k other) refl
  value_kept (i ∷ indices) (y ∷ values) (suc p) k within same other =
      ap (λ rest. if nat_eq i k then Some y else rest)
      (value_kept indices values p k (omega (arith, within)) (omega (arith, same)) other)
  value_kept indices values p k within same other = absurd (omega (arith, same, within))

  -- one more value is that of one more index
  value_pushed_other : (indices : List ℕ) (values : List X) (n k : ℕ) (x : X) → length values ≡ length indices → n ≢ k
      → value_of (indices ++ n ∷ []) (values ++ x ∷ []) k ≡ value_of indices values k
  value_pushed_other [] [] n k x same other = rw (ne_eqb n k other) refl
  value_pushed_other (i ∷ indices) (y ∷ values) n k x same other =
      ap (λ rest. if nat_eq i k then Some y else rest)
      (value_pushed_other indices values n k x (omega (arith, same)) other)
  value_pushed_other indices values n k x same other = absurd (omega (arith, same))

  value_pushed : (indices : List ℕ) (values : List X) (n : ℕ) (x : X) → length values ≡ length indices
      → All (λ i. i < n) indices → value_of (indices ++ n ∷ []) (values ++ x ∷ []) n ≡ Some x
  value_pushed [] [] n x same below = rw (eq-eqb n n refl) refl
  value_pushed (i ∷ indices) (y ∷ values) n x same below =
      let less = below 0 0 (omega arith) in
      rw (ne_eqb i n (λ e. absurd (omega (arith, e, less))))
      (value_pushed indices values n x (omega (arith, same)) (λ k d in'. below (suc k) d (omega (arith, in'))))
  value_pushed indices values n x same below = absurd (omega (arith, same))

  module _ (next : ℕ) (indices : List ℕ) (values : List X) where
    -- there are as many places as indices were given
    pub length-by_index : length (by_index next indices values) ≡ next
    length-by_index = length-map-range_with_len (value_of indices values) 0 next

    -- at an index that was given lies its value
    get_or-by_index : (k : ℕ) → k < next → get_or (by_index next indices values) k None ≡ value_of indices values k
    get_or-by_index k within = get_or-map-range_with_len (value_of indices values) 0 next k k None within (omega arith)

    module _ (listed : IsListed next indices values) where
      -- what lies at the index of a place
      pub found_at : (p j : ℕ) (x : X) → p < length indices → get_or indices p 0 ≡ j → get_or values p x ≡ x
          → get_or (by_index next indices values) j None ≡ Some x
      found_at p j x within at is =
          let below = listed.below p 0 within in
          get_or-by_index j (omega (arith, below, at))
          ∙ value_at indices values p j x listed.rises listed.same within at is

      -- nothing lies at an index that isn't among them
      pub found_none : (j : ℕ) → ((k : ℕ) → k < length indices → get_or indices k 0 ≢ j)
          → get_or (by_index next indices values) j None ≡ None
      found_none j other = elim (cases_lt j next) [
        | inl below ↦ get_or-by_index j below ∙ value_none indices values j other
        | inr past ↦ get_or_past (by_index next indices values) j None (omega (arith, length-by_index, past))
      ]

      module _ (p : ℕ) (within : p < length indices) where
        abbrev index : ℕ
        index = get_or indices p 0

        index_below : index < next
        index_below = listed.below p 0 within

        by_kept : (changed : List ℕ) (values' : List X) (v : Option X)
            → value_of changed values' index ≡ v
            → ((k : ℕ) → index ≢ k → value_of changed values' k ≡ value_of indices values k)
            → set (by_index next indices values) index v ≡ by_index next changed values'
        by_kept changed values' v own others =
            fill_by_all (value_of changed values') (set (by_index next indices values) index v) next None
            (length-set (by_index next indices values) index v ∙ length-by_index) (λ k inside. elim (cases_eq k index) [
              | inl same ↦ rw same (get_or-set_same (by_index next indices values) index v None
                  (omega (arith, length-by_index, index_below)) ∙ sym own)
              | inr other ↦ get_or-set_other (by_index next indices values) index k v None other
                  ∙ get_or-by_index k inside ∙ sym (others k (λ e. other (sym e)))
            ])

        -- another value at a place
        pub set_at : (x : X) → set (by_index next indices values) index (Some x) ≡ by_index next indices (set values p x)
        set_at x = by_kept indices (set values p x) (Some x)
            (value_at indices (set values p x) p index x listed.rises (length-set values p x ∙ listed.same) within refl
            (get_or-set_same values p x x (omega (arith, listed.same, within))))
            (λ k other. value_set_other indices values p k x within other)

        -- no value any more
        pub removed_at : set (by_index next indices values) index None
            ≡ by_index next (remove indices p) (remove values p)
        removed_at = by_kept (remove indices p) (remove values p) None
            (value_removed indices values p listed.rises within)
            (λ k other. value_kept indices values p k within listed.same other)

        -- the indices and values without those of a place are listed
        pub listed_removed : IsListed next (remove indices p) (remove values p)
        listed_removed = record {
          same = omega (
            arith,
            listed.same,
            within,
            length-remove indices p within,
            length-remove values p (omega (arith, listed.same, within)),
          );
          rises = all_pairs_remove (λ i j. i < j) indices p within listed.rises;
          below = λ k d inside. elim (cases_lt k p) [
            | inl before ↦ rw (get_or-remove_below indices p d k before within)
                (listed.below k d (omega (arith, before, within)))
            | inr after ↦ rw (get_or-remove_above indices p d k after within)
                (listed.below (k + 1) d (omega (arith, inside, length-remove indices p within)))
          ];
        }

      -- the next index gets a value
      pub pushed_at : (x : X) → by_index next indices values ++ Some x ∷ []
          ≡ by_index (next + 1) (indices ++ next ∷ []) (values ++ x ∷ [])
      pushed_at x =
          ap (λ front. front ++ Some x ∷ [])
          (fill_by_all f (by_index next indices values) next None length-by_index
          (λ k inside. get_or-by_index k inside
          ∙ sym (value_pushed_other indices values next k x listed.same (λ e. absurd (omega (arith, e, inside))))))
          ∙ ap (λ last. map f (range_with_len 0 next) ++ last ∷ [])
          (sym (value_pushed indices values next x listed.same listed.below))
          ∙ sym (map-range_with_len_more f 0 next next (omega arith))
        where
          f : ℕ → Option X
          f = value_of (indices ++ next ∷ []) (values ++ x ∷ [])

      -- the indices and values with it are listed
      pub listed_pushed : (x : X) → IsListed (next + 1) (indices ++ next ∷ []) (values ++ x ∷ [])
      listed_pushed x = record {
        same = omega (arith, listed.same, length-append indices (next ∷ []), length-append values (x ∷ []));
        rises = all_pairs_push (λ i j. i < j) indices next listed.rises (λ k d inside. listed.below k d inside);
        below = All-push (λ i. i < next + 1) indices next
            (λ k d inside. let less = listed.below k d inside in omega (arith, less)) (omega arith);
      }

module _ {X : Type 0} {next : ℕ} {indices : List ℕ} {values : List X} (listed : IsListed next indices values)
    {view : List (Option X)} (is : by_index next indices values ≡ view) where
  -- as many indices were given as there are places
  pub given : next ≡ length view
  given = sym (length-by_index next indices values) ∙ ap length is

  -- one more value lies at the next index
  pub pushed_value : (next' : ℕ) (indices' : List ℕ) (values' : List X) (x : X) → next' ≡ next + 1
      → indices' ≡ indices ++ next ∷ [] → values' ≡ values ++ x ∷ []
      → by_index next' indices' values' ≡ view ++ Some x ∷ []
  pushed_value next' indices' values' x more index value =
      rw (more, index, value, ← is) (sym (pushed_at next indices values listed x))

  -- with the value that a place has, all lies as it did
  pub value_put_back : (p : ℕ) (x x' : X) → x' ≡ x → x ≡ get_or values p x
      → by_index next indices (set values p x') ≡ view
  value_put_back p x x' same at =
      ap (by_index next indices) (ap (set values p) (same ∙ at) ∙ set-get_or values p x) ∙ is

-- what lies at its index, where the place of an index was looked for among what is there
module _ {X : Type 0} {next : ℕ} {indices : List ℕ} {values : List X} (listed : IsListed next indices values)
    {view : List (Option X)} (is : by_index next indices values ≡ view) {seen : List ℕ} (sees : seen ≡ indices)
    (j : ℕ) where
  -- without a place there is no value
  pub no_value : IsPlace seen j None → get_or view j None ≡ None
  no_value none = ap (λ xs. get_or xs j None) (sym is) ∙ found_none next indices values listed j (rw sees at none)

  module _ (p : ℕ) (place : IsPlace seen j (Some p)) where
    -- the place is one of the indices
    pub place_within : p < length indices
    place_within = omega (arith, place.0, ap length sees)

    place_at : get_or indices p 0 ≡ j
    place_at = rw sees at place.1

    -- the value at the place is that of the index
    pub its_value : {x : X} → x ≡ get_or values p x → get_or view j None ≡ Some x
    its_value {x} at = rw (← is) (found_at next indices values listed p j x place_within place_at (sym at))

    -- with another value at the place the index has that
    pub set_value : (x : X) → by_index next indices (set values p x) ≡ set view j (Some x)
    set_value x = rw (← is, ← place_at) (sym (set_at next indices values listed p place_within x))

    -- without the place the index has none
    pub removed_value : by_index next (remove indices p) (remove values p) ≡ set view j None
    removed_value = sym (removed_at next indices values listed p place_within) ∙ (λ i. set (is i) (place_at i) None)

  -- an index lies at its own place if each index up to it has a value, and only then
  pub in_place : IsPlace seen j (Some j) ↔ HasAllUpTo view j
  in_place = (
    λ place k le.
        let inside : j < length indices = omega (arith, place.0, ap length sees) in
        let within : k < length indices = omega (arith, le, inside) in
        let least = gaps indices listed.rises 0 k k (omega arith) within in
        let most = gaps indices listed.rises k (j - k) j (omega (arith, le)) inside in
        let own : get_or indices k 0 ≡ k = omega (arith, least, most, le, rw sees at place.1) in
        let there = something values k (omega (arith, within, listed.same)) in
        rw (← is, found_at next indices values listed k k there.0 within own there.1) refl,
    λ has. rw sees (first_places indices values listed.rises j (λ k le. elim (cases_lt k next) [
      | inl below ↦ rw (← get_or-by_index next indices values k below, is) (has k le)
      | inr past ↦
          let none : get_or view k None ≡ None = get_or_past view k None
          (omega (arith, past, ap length (sym is), length-by_index next indices values)) in
          let f : false ≡ true = ap is_some (sym none) ∙ has k le in absurd cc
    ])),
  )

-- where there is a value, no result tells of a lack of it: neither an accepted one nor another error
module _ {T E X : Type 0} {x : X} (o : Option X) (there : o ≡ Some x) (e : E) where
  pub found_ok : (t : T) → (Ok t ≡ Err e) ↔ (o ≡ None)
  found_ok t = (λ error. absurd cc, λ none. absurd cc)

  pub found_err : (e' : E) (r : Result T E) → (e' ≡ e → ⊥) → r ≡ Err e' → (r ≡ Err e) ↔ (o ≡ None)
  found_err e' r other is = (λ error. let same : e' ≡ e = cc in absurd (other same), λ none. absurd cc)

module _ {next : ℕ} {indices : List ℕ} {machines : List State} (listed : IsListed next indices machines)
    {view : List (Option State)} (is : by_index next indices machines ≡ view) {seen : List ℕ} (sees : seen ≡ indices)
    (index place : ℕ) (found : IsPlace seen index (Some place)) {s : State} (at : s ≡ get_or machines place s) where
  -- where the machine at the place of an index has become another, that of the index has
  pub becomes_at : (change : State → State → Type 0) (s' : State) → change s s'
      → BecomesAt view index change (by_index next indices (set machines place s'))
  becomes_at change s' how = record {
    machine = s;
    found = its_value listed is sees index place found at;
    machine' = s';
    becomes = how;
    after = set_value listed is sees index place found s';
  }

  -- where the machine at the place of an index has run as a part, that of the index has run, and the pool is kept
  pub ran_at : {caps all all' : Amounts} {calls : List Call} {replies : List Reply} {s' : State}
      → IsKept (pool_of caps view) all → RunsAsPart caps all s calls replies s' all'
      → RunsTenant (pool_of caps view) index calls replies (pool_of caps (by_index next indices (set machines place s')))
      × IsKept (pool_of caps (by_index next indices (set machines place s'))) all'
  ran_at {caps} {all} {all'} {calls} {replies} {s'} kept part =
      let there = its_value listed is sees index place found at in
      let put = set_value listed is sees index place found s' in (
        part_runs kept index there part put,
        part_kept kept index there part put,
      )

  -- what a run at the place of an index gives, where its one error leaves all as it was
  module _ {T E : Type 0} (replies_of : T → List Reply) (none : E) {other : E} (apart : other ≡ none → ⊥)
      {caps all all' : Amounts} (calls : List Call) (s' : State) where
    pub run_at : (r : Result T E) → IsKept (pool_of caps view) all
        → IfOk r (λ t. RunsAsPart caps all s calls (replies_of t) s' all')
        → IfErr r (λ e. (e ≡ other) × (s' ≡ s) × (all' ≡ all))
        → IfOk r (λ t. RunsTenant (pool_of caps view) index calls (replies_of t)
        (pool_of caps (by_index next indices (set machines place s'))))
        × ((r ≡ Err none) ↔ (get_or view index None ≡ None))
        × OnErr r (by_index next indices (set machines place s') ≡ view)
        × IsKept (pool_of caps (by_index next indices (set machines place s'))) all'
    run_at (Ok t) kept run err =
        let ran = ran_at kept run in (ran.0, found_ok _ ran.0.found none t, tt, ran.1)
    run_at (Err e) kept run (only, same, counted) =
        let put = value_put_back listed is place s s' same at in (
          tt,
          found_err _ (its_value listed is sees index place found at) none other _ apart (ap Err only),
          put,
          rw (put, counted) kept,
        )

-- two facts of a refusal
pub on_err_both : {T E : Type 0} (P Q : Type 0) (r : Result T E) → OnErr r P → OnErr r Q → OnErr r (P × Q)
on_err_both P Q (Ok t) p q = tt
on_err_both P Q (Err e) p q = (p, q)

-- the error of a call on an index, which can only be this one
pub only_error : {T E : Type 0} (e : E) (r : Result T E) → IsErrAnd r (λ x. x ≡ e) → r ≡ Err e
only_error e (Ok t) is = absurd is
only_error e (Err x) is = ap Err is

-- a search among rising indices finds the place of an index, or says that it isn't among them
pub searched_place : (indices : List ℕ) (j : ℕ) (r : Result ℕ ℕ) (place : Option ℕ) → Rises indices
    → IsBinarySearchResult (λ y. nat_cmp y j) indices r → place ≡ result_ok r → IsPlace indices j place
searched_place indices j r place rises found is =
    rw is (by r (searched indices j r found (λ a b le inside. elim (cases_lt a b) [
      | inl less ↦ let more = rises a b 0 less inside in omega (arith, more)
      | inr same ↦ let e : a ≡ b = omega (arith, same, le) in rw e (omega arith)
    ])))
  where
    by : (r : Result ℕ ℕ) → MatchResult r (λ i. (i < length indices) × (get_or indices i 0 ≡ j))
        (λ i. (i ≤ length indices) × ((k : ℕ) → k < i → get_or indices k 0 < j)
        × ((k : ℕ) → i ≤ k → k < length indices → j < get_or indices k 0))
        → IsPlace indices j (result_ok r)
    by (Ok p) at = at
    by (Err i) at = λ k inside e. elim (cases_lt k i) [
      | inl less ↦ let l = at.1 k less in absurd (omega (arith, l, e))
      | inr more ↦ let l = at.2 k more inside in absurd (omega (arith, l, e))
    ]
