-- A test that no reach comes before another, which computes.
use Rattle.std.proofs.Common.{◌≡◌, ℕ, zero, suc, ◌+◌, ◌<◌, ◌≤◌, List, [], ◌∷◌, ◌++◌, length, Bool, true, false, ◌&&◌, not, Option, Some, None, refl, sym, ap, arith, slice_get}
use Rattle.std.proofs.Common.{option_map, option_and_then, nat_le, if◌then◌else◌}
use Rattle.std.specs.Prelude.{IsTrue}
use Rattle.std.specs.List.{list_all, flat_map}
use Rattle.std.specs.Cmp.{first_so, second_so, ranked, nat_cmp_is}
use Rattle.std.specs.Cmp.Lexicographic.{slice_cmp}
use Rattle.std.specs.Ordering.{nat_cmp, is_le, is_eq, ordering_then, MatchOrdering}
use Rattle.std.specs.declared.cmp.Ordering.{Ordering}
use Rattle.std.specs.declared.cmp.Ordering.TheVariants.{Less, Equal, Greater}
use Rattle.std.proofs.lemmas.Bool.{leb-true, and_from}
use Rattle.std.proofs.lemmas.Option.{slice_get_within}
use Rattle.hk_model.specs.declared.names.Name.{Name}
use Rattle.hk_model.specs.declared.entries.Cap.{Cap}
use Rattle.hk_model.specs.declared.entries.Entry.{Entry}
use Rattle.hk_model.specs.declared.reaches.Hop.{Hop}
use Rattle.hk_model.specs.declared.reaches.Hop.TheVariants as hop_by
use Rattle.hk_model.specs.State.{State, object, same_name}
use Rattle.hk_model.specs.Places.{cap_of}
use Rattle.hk_model.specs.Reaches.{index_of, moment_of, is_handed, Reached, reached_by, listed_cap, onward, hop_to, follow, param_reached, IsReach}
use Rattle.hk_model.specs.Changes.{hop_key, reach_key, is_at_most, IsLeastReach}

-- the numbers below one
abbrev pub below : ℕ → List ℕ
below zero = []
below (suc n) = n ∷ below n

-- what holds of all of them holds of each
pub all_below : (P : ℕ → Bool) (n i : ℕ) → i < n → list_all P (below n) ≡ true → P i ≡ true
all_below P zero i l h = absurd (omega (arith, l))
all_below P (suc n) i l h = by (λ f. all_below P n i f (second_so (P n) (list_all P (below n)) h)) (nat_cmp i n) (ranked i n (nat_cmp i n) refl)
  where
    by : (i < n → P i ≡ true) → (o : Ordering) → MatchOrdering o (i < n) (i ≡ n) (n < i) → P i ≡ true
    by later Less f = later f
    by later Equal f = rw f (first_so (P n) (list_all P (below n)) h)
    by later Greater f = absurd (omega (arith, l, f))

-- where the hops are compared first
keys_then : (a b : Hop) (xs ys : List ℕ)
    → slice_cmp nat_cmp (hop_key a ++ xs) (hop_key b ++ ys) ≡ ordering_then (slice_cmp nat_cmp (hop_key a) (hop_key b)) (slice_cmp nat_cmp xs ys)
keys_then a b xs ys =
    by (nat_cmp (moment_of a) (moment_of b)) (nat_cmp (index_of a) (index_of b))
    (nat_cmp (elim (is_handed a) [ true ↦ 1 | false ↦ 0 ]) (elim (is_handed b) [ true ↦ 1 | false ↦ 0 ])) (slice_cmp nat_cmp xs ys)
  where
    by : (o p q r : Ordering) → ordering_then o (ordering_then p (ordering_then q r)) ≡ ordering_then (ordering_then o (ordering_then p (ordering_then q Equal))) r
    by Less p q r = refl
    by Greater p q r = refl
    by Equal Less q r = refl
    by Equal Greater q r = refl
    by Equal Equal Less r = refl
    by Equal Equal Greater r = refl
    by Equal Equal Equal r = refl

module _ (at : ℕ → State) (made : Name → Bool) (moment : ℕ) (wanted : Name) where
  abbrev if_any : (Reached → Bool) → Option Reached → Bool
  if_any P None = true
  if_any P (Some there) = P there

  abbrev hop_of : ℕ → ℕ → Bool → Hop
  hop_of moment index true = hop_by.Handed index moment
  hop_of moment index false = hop_by.Entry index moment

  -- the test of both hops over an index at a moment, and of all hops up to the moment
  abbrev both_hops : (Hop → Reached → Bool) → Reached → ℕ → ℕ → Bool
  both_hops P from t i = if_any (P (hop_of t i false)) (hop_to at made (hop_of t i false) from) && if_any (P (hop_of t i true)) (hop_to at made (hop_of t i true) from)

  abbrev every_hop : (Hop → Reached → Bool) → Reached → Bool
  every_hop P from = list_all (λ t. list_all (both_hops P from t) (below (length (object (at t) from.name).entries))) (below (moment + 1))

  -- no reach of so many further hops leads to the object
  abbrev none_after : ℕ → Reached → Bool
  none_after zero from = not (same_name from.name wanted && from.modify)
  none_after (suc n) from = every_hop (λ hop there. none_after n there) from

  -- none of as many further hops comes before these
  abbrev least_after : List Hop → Reached → Bool
  least_after [] from = true
  least_after (hop ∷ hops) from = every_hop (λ other there. elim (slice_cmp nat_cmp (hop_key hop) (hop_key other)) [
    | Less ↦ true
    | Equal ↦ least_after hops there
    | Greater ↦ none_after (length hops) there
  ]) from

  any_holds : (P : Reached → Bool) (found : Option Reached) (there : Reached) → found ≡ Some there → if_any P found ≡ true → P there ≡ true
  any_holds P None there e k = absurd (cc)
  any_holds P (Some r) there e k = let same : r ≡ there = cc in rw (← same) k

  -- an index of a hop is one of the list's
  hop_within : (hop : Hop) (from there : Reached) → hop_to at made hop from ≡ Some there → (index_of hop) < length (object (at (moment_of hop)) from.name).entries
  hop_within hop from there h = by (nat_le from.moment (moment_of hop)) (slice_get (object (at (moment_of hop)) from.name).entries (index_of hop)) refl h
    where
      by : (b : Bool) (found : Option Entry) → slice_get (object (at (moment_of hop)) from.name).entries (index_of hop) ≡ found
          → (if b then option_and_then (onward made hop from) (option_and_then cap_of found) else None) ≡ Some there
          → (index_of hop) < length (object (at (moment_of hop)) from.name).entries
      by false found e h = absurd (cc)
      by true None e h = absurd (cc)
      by true (Some entry) e h = slice_get_within (object (at (moment_of hop)) from.name).entries (index_of hop) entry e

  -- a hop ends at its moment, which is not before the one at which it begins
  hop_moment : (hop : Hop) (from there : Reached) → hop_to at made hop from ≡ Some there → (there.moment ≡ (moment_of hop)) × (from.moment ≤ (moment_of hop))
  hop_moment hop from there h = by (nat_le from.moment (moment_of hop)) refl (listed_cap (at (moment_of hop)) from.name (index_of hop)) h
    where
      ends : (cap : Cap) (b c d : Bool)
          → ◌≡◌ {A = Option Reached} (if b then (if c then Some (record { name = cap.name; modify = true; unconf = true; moment = (moment_of hop) }) else None) else
          (if d then Some (reached_by (moment_of hop) cap) else None)) (Some there)
          → there.moment ≡ (moment_of hop)
      ends cap true true d h =
          let same : record { name = cap.name; modify = true; unconf = true; moment = (moment_of hop) } ≡ there = cc in sym (ap (λ (r : Reached). r.moment) same)
      ends cap true false d h = absurd (cc)
      ends cap false c true h = let same : reached_by (moment_of hop) cap ≡ there = cc in sym (ap (λ (r : Reached). r.moment) same)
      ends cap false c false h = absurd (cc)

      by : (b : Bool) → nat_le from.moment (moment_of hop) ≡ b → (found : Option Cap) → (if b then option_and_then (onward made hop from) found else None) ≡ Some there
          → (there.moment ≡ (moment_of hop)) × (from.moment ≤ (moment_of hop))
      by false e found h = absurd (cc)
      by true e None h = absurd (cc)
      by true e (Some cap) h = (ends cap (is_handed hop) (from.modify && made cap.name) from.unconf h, leb-true from.moment (moment_of hop) e)

  -- a test of all hops holds of each
  every_hop_holds : (P : Hop → Reached → Bool) (from : Reached) (hop : Hop) (there : Reached) → every_hop P from ≡ true → hop_to at made hop from ≡ Some there
      → (moment_of hop) ≤ moment → P hop there ≡ true
  every_hop_holds P from hop there h g l =
      let all : list_all (both_hops P from (moment_of hop)) (below (length (object (at (moment_of hop)) from.name).entries)) ≡ true =
      all_below (λ t. list_all (both_hops P from t) (below (length (object (at t) from.name).entries))) (moment + 1) (moment_of hop) (omega (arith, l)) h in
      let two : both_hops P from (moment_of hop) (index_of hop) ≡ true =
      all_below (both_hops P from (moment_of hop)) (length (object (at (moment_of hop)) from.name).entries) (index_of hop) (hop_within hop from there g) all in
      of_hop hop two g
    where
      by : (i t : ℕ) (b : Bool) → both_hops P from t i ≡ true → hop_to at made (hop_of t i b) from ≡ Some there → P (hop_of t i b) there ≡ true
      by i t false k e =
          any_holds (P (hop_of t i false)) (hop_to at made (hop_of t i false) from) there e
          (first_so (if_any (P (hop_of t i false)) (hop_to at made (hop_of t i false) from)) (if_any (P (hop_of t i true)) (hop_to at made (hop_of t i true) from)) k)
      by i t true k e =
          any_holds (P (hop_of t i true)) (hop_to at made (hop_of t i true) from) there e
          (second_so (if_any (P (hop_of t i false)) (hop_to at made (hop_of t i false) from)) (if_any (P (hop_of t i true)) (hop_to at made (hop_of t i true) from)) k)

      of_hop : (hop : Hop) → both_hops P from (moment_of hop) (index_of hop) ≡ true → hop_to at made hop from ≡ Some there → P hop there ≡ true
      of_hop (hop_by.Entry i t) k e = by i t false k e
      of_hop (hop_by.Handed i t) k e = by i t true k e

  -- moments never fall along hops
  rises : (hops : List Hop) (from there : Reached) → follow at made hops from ≡ Some there → from.moment ≤ there.moment
  rises [] from there h = let same : from ≡ there = cc in rw (← same) (omega arith)
  rises (hop ∷ hops) from there h = by (λ next g. rises hops next there g) (hop_to at made hop from) refl h
    where
      by : ((next : Reached) → follow at made hops next ≡ Some there → next.moment ≤ there.moment) → (found : Option Reached) → hop_to at made hop from ≡ found
          → option_and_then (follow at made hops) found ≡ Some there → from.moment ≤ there.moment
      by later None e h = absurd (cc)
      by later (Some next) e h = let a = hop_moment hop from next e in let b = later next h in omega (arith, a.0, a.1, b)

  -- a reach that is none does not lead to the object
  none_holds : (hops : List Hop) (from there : Reached) → none_after (length hops) from ≡ true → follow at made hops from ≡ Some there → there.moment ≤ moment
      → (same_name there.name wanted && there.modify) ≡ true → ⊥
  none_holds [] from there n h l g = let same : from ≡ there = cc in by (same_name from.name wanted && from.modify) n (rw same g)
    where
      by : (b : Bool) → not b ≡ true → b ≡ true → ⊥
      by true e f = absurd (cc)
      by false e f = absurd (cc)
  none_holds (hop ∷ hops) from there n h l g = by (λ next k f. none_holds hops next there k f l g) (hop_to at made hop from) refl h
    where
      by : ((next : Reached) → none_after (length hops) next ≡ true → follow at made hops next ≡ Some there → ⊥) → (found : Option Reached) → hop_to at made hop from ≡ found
          → option_and_then (follow at made hops) found ≡ Some there → ⊥
      by later None e h = absurd (cc)
      by later (Some next) e h =
          let a = hop_moment hop from next e in
          let b = rises hops next there h in
          later next (every_hop_holds (λ hop there. none_after (length hops) there) from hop next n e (omega (arith, a.0, b, l))) h

  -- hops that are least come first among as many
  least_holds : (hops others : List Hop) (from there : Reached) → length hops ≡ length others → least_after hops from ≡ true → follow at made others from ≡ Some there
      → there.moment ≤ moment → (same_name there.name wanted && there.modify) ≡ true → is_at_most (flat_map hop_key hops) (flat_map hop_key others) ≡ true
  least_holds [] [] from there s n h l g = refl
  least_holds [] (other ∷ others) from there s n h l g = absurd (omega (arith, s))
  least_holds (hop ∷ hops) [] from there s n h l g = absurd (omega (arith, s))
  least_holds (hop ∷ hops) (other ∷ others) from there s n h l g = by (λ next k f. least_holds hops others next there (omega (arith, s)) k f l g) (hop_to at made other from) refl h
    where
      further : ((next : Reached) → least_after hops next ≡ true → follow at made others next ≡ Some there → is_at_most (flat_map hop_key hops) (flat_map hop_key others) ≡ true)
          → (next : Reached) (o : Ordering) → follow at made others next ≡ Some there
          → (elim o [ Less ↦ true | Equal ↦ least_after hops next | Greater ↦ none_after (length hops) next ]) ≡ true
          → is_le (ordering_then o (slice_cmp nat_cmp (flat_map hop_key hops) (flat_map hop_key others))) ≡ true
      further later next Less h k = refl
      further later next Equal h k = later next k h
      further later next Greater h k = absurd (none_holds others next there (let same : length hops ≡ length others = omega (arith, s) in rw (← same) k) h l g)

      by : ((next : Reached) → least_after hops next ≡ true → follow at made others next ≡ Some there → is_at_most (flat_map hop_key hops) (flat_map hop_key others) ≡ true)
          → (found : Option Reached) → hop_to at made other from ≡ found → option_and_then (follow at made others) found ≡ Some there
          → is_le (slice_cmp nat_cmp (hop_key hop ++ flat_map hop_key hops) (hop_key other ++ flat_map hop_key others)) ≡ true
      by later None e h = absurd (cc)
      by later (Some next) e h =
          let a = hop_moment other from next e in
          let b = rises others next there h in
          let k =
          every_hop_holds (λ other there. elim (slice_cmp nat_cmp (hop_key hop) (hop_key other))
          [ Less ↦ true | Equal ↦ least_after hops there | Greater ↦ none_after (length hops) there ]) from other next n e (omega (arith, a.0, b, l)) in
          rw (keys_then hop other (flat_map hop_key hops) (flat_map hop_key others)) (further later next (slice_cmp nat_cmp (hop_key hop) (hop_key other)) h k)

  module _ (params : List Entry) (k : ℕ) where
    -- no parameter and hops come before these
    abbrev pub comes_first : ℕ → List Hop → Bool
    comes_first param hops =
        list_all (λ n. list_all (λ q. if_any (none_after n) (param_reached params k q)) (below (length params))) (below (length hops))
        && list_all (λ q. elim (nat_cmp param q) [
          | Less ↦ true
          | Equal ↦ if_any (least_after hops) (param_reached params k q)
          | Greater ↦ if_any (none_after (length hops)) (param_reached params k q)
        ]) (below (length params))

    -- so they are a least reach, if they are a reach
    pub least_reach : (param : ℕ) (hops : List Hop) → IsReach at made params k (λ there. there.modify) moment wanted param hops → comes_first param hops ≡ true
        → IsLeastReach at made params k moment wanted param hops
    least_reach param hops is h = record { is = is; least = least }
      where
        least : (other : ℕ) (others : List Hop) → IsReach at made params k (λ there. there.modify) moment wanted other others
            → IsTrue (is_at_most (reach_key param hops) (reach_key other others))
        least other others r = by (param_reached params k other) refl r.leads
          where
            good : (same_name r.there.name wanted && r.there.modify) ≡ true
            good = rw r.same (and_from (same_name wanted wanted) r.there.modify (ap is_eq (sym (nat_cmp_is wanted.0 wanted.0 Equal refl))) r.good)

            within : (found : Option Entry) → slice_get params other ≡ found → (first : Reached)
                → option_and_then (λ (e : Entry). option_map (reached_by k) (cap_of e)) found ≡ Some first → other < length params
            within None e first f = absurd (cc)
            within (Some entry) e first f = slice_get_within params other entry e

            shorter : list_all (λ n. list_all (λ q. if_any (none_after n) (param_reached params k q)) (below (length params))) (below (length hops)) ≡ true
            shorter = first_so (list_all (λ n. list_all (λ q. if_any (none_after n) (param_reached params k q)) (below (length params))) (below (length hops))) _ h

            params_first : (first : Reached) → param_reached params k other ≡ Some first → follow at made others first ≡ Some r.there → length hops ≡ length others → (o : Ordering)
                → (elim o [
                  | Less ↦ true
                  | Equal ↦ if_any (least_after hops) (param_reached params k other)
                  | Greater ↦ if_any (none_after (length hops))
                      (param_reached params k other)
                ]) ≡ true
                → is_le (ordering_then o (slice_cmp nat_cmp (flat_map hop_key hops) (flat_map hop_key others))) ≡ true
            params_first first e f s Less c = refl
            params_first first e f s Equal c = least_holds hops others first r.there s (any_holds (least_after hops) (param_reached params k other) first e c) f r.by_then good
            params_first first e f s Greater c =
                absurd (none_holds others first r.there (rw (← s) (any_holds (none_after (length hops)) (param_reached params k other) first e c)) f r.by_then good)

            by_length : (first : Reached) → param_reached params k other ≡ Some first → follow at made others first ≡ Some r.there → other < length params → (o : Ordering)
                → MatchOrdering o (length hops < length others) (length hops ≡ length others) (length others < length hops)
                → is_le (ordering_then o (ordering_then (nat_cmp param other) (slice_cmp nat_cmp (flat_map hop_key hops) (flat_map hop_key others)))) ≡ true
            by_length first e f l Less s = refl
            by_length first e f l Equal s = params_first first e f s (nat_cmp param other) (all_below _ (length params) other l (second_so _ _ h))
            by_length first e f l Greater s =
                let all : list_all (λ q. if_any (none_after (length others)) (param_reached params k q)) (below (length params)) ≡ true =
                all_below (λ n. list_all (λ q. if_any (none_after n) (param_reached params k q)) (below (length params))) (length hops) (length others) s shorter in
                absurd (none_holds others first r.there (any_holds (none_after (length others)) (param_reached params k other) first e
                (all_below (λ q. if_any (none_after (length others)) (param_reached params k q)) (length params) other l all)) f r.by_then good)

            by : (found : Option Reached) → param_reached params k other ≡ found → option_and_then (follow at made others) found ≡ Some r.there
                → IsTrue (is_at_most (reach_key param hops) (reach_key other others))
            by None e f = absurd (cc)
            by (Some first) e f =
                by_length first e f (within (slice_get params other) refl first e) (nat_cmp (length hops) (length others))
                (ranked (length hops) (length others) (nat_cmp (length hops) (length others)) refl)
