-- The levels of a search, and the way down them, as code finds them.
use Rattle.std.proofs.Common.{◌≡◌, ℕ, zero, suc, ◌+◌, ◌<◌, List, [], ◌∷◌, ◌++◌, length, map, Bool, Option, Some, None, refl, sym, ◌∙◌, ap, arith, subst, slice_get}
use Rattle.std.specs.Prelude.{slice_index_or}
use mathlib.Core.Logic.{inl, inr}
use Rattle.std.proofs.lemmas.Bool.{cases_lt}
use Rattle.std.proofs.lemmas.List.{append-nil, append_assoc}
use Rattle.hk_model.specs.declared.names.Name.{Name}
use Rattle.hk_model.specs.declared.entries.Cap.{Cap}
use Rattle.hk_model.specs.declared.reaches.Hop.{Hop}
use Rattle.hk_report.specs.declared.histories.History.{History}
use Rattle.hk_report.specs.declared.hops.Arrived.{Arrived}
use Rattle.hk_report.specs.declared.hops.Latest.{Latest}
use Rattle.hk_report.specs.declared.hops.Level.{Level}
use Rattle.hk_report.specs.declared.hops.Onward.{Onward}
use Rattle.hk_report.specs.declared.reachable.Side.TheVariants.{First}
use Rattle.hk_report.specs.declared.searching.Start.{Start}
use Rattle.hk_report.specs.Histories.{history_of}
use Rattle.hk_report.specs.Hops.{latest_at}
use Rattle.hk_report.specs.Reachable.{IsBy, AreGoneOver, AreHeldBy, Agree, AgreeEach}
use Rattle.hk_report.specs.Searches.{first_onward, first_start, level_at, levels_below, hops_down}
use Rattle.hk_report.proofs.Agreeing.{IsThinnedBy, LeadsTo, StartsThere, onward_same, onward_leads, start_same, start_leads}

-- what is known on the way down
pub record Going (within here goes : Type 0) : Type 0 where
  pub inside : within
  pub there : here
  pub leads : goes

-- what is known while hops are added
pub record Seeking (level levels none : Type 0) : Type 0 where
  pub last : level
  pub all : levels
  pub fewer : none

-- ---- levels

length_more : {X : Type 0} (xs : List X) (x : X) → length (xs ++ x ∷ []) ≡ length xs + 1
length_more [] x = refl
length_more (y ∷ xs) x = let h = length_more xs x in omega (arith, h)

length_mapped : {X Y : Type 0} (f : X → Y) (xs : List X) → length (map f xs) ≡ length xs
length_mapped f [] = refl
length_mapped f (x ∷ xs) = let h = length_mapped f xs in omega (arith, h)

get_first : {X : Type 0} (xs : List X) (x : X) (n : ℕ) → n < length xs → slice_get (xs ++ x ∷ []) n ≡ slice_get xs n
get_first [] x n l = absurd (omega (arith, l))
get_first (y ∷ xs) x zero l = refl
get_first (y ∷ xs) x (suc n) l = get_first xs x n (omega (arith, l))

get_last : {X : Type 0} (xs : List X) (x : X) (n : ℕ) → n ≡ length xs → slice_get (xs ++ x ∷ []) n ≡ Some x
get_last [] x zero e = refl
get_last [] x (suc n) e = absurd (omega (arith, e))
get_last (y ∷ xs) x zero e = absurd (omega (arith, e))
get_last (y ∷ xs) x (suc n) e = get_last xs x n (omega (arith, e))

some_same : {x y : Name → Latest} → Some x ≡ Some y → x ≡ y
some_same h = cc

-- ---- levels that agree one after another

module _ (told : Name → Option ℕ) where
  each_long : (us vs : List (Name → Latest)) → AgreeEach told us vs → length us ≡ length vs
  each_long [] [] h = refl
  each_long [] (b ∷ vs) h = absurd h
  each_long (a ∷ us) [] h = absurd h
  each_long (a ∷ us) (b ∷ vs) h = ap suc (each_long us vs h.1)

  each_at : (us vs : List (Name → Latest)) (i : ℕ) (a b : Name → Latest) → AgreeEach told us vs → slice_get us i ≡ Some a → slice_get vs i ≡ Some b → Agree told a b
  each_at [] [] i a b h e f = absurd (cc)
  each_at [] (y ∷ vs) i a b h e f = absurd h
  each_at (x ∷ us) [] i a b h e f = absurd h
  each_at (x ∷ us) (y ∷ vs) zero a b h e f =
      let one : x ≡ a = some_same e in
      let two : y ≡ b = some_same f in
      subst (λ (z : Name → Latest). Agree told a z) two (subst (λ (z : Name → Latest). Agree told z y) one h.0)
  each_at (x ∷ us) (y ∷ vs) (suc i) a b h e f = each_at us vs i a b h.1 e f

  pub each_more : (us vs : List (Name → Latest)) (a b : Name → Latest) → AgreeEach told us vs → Agree told a b → AgreeEach told (us ++ a ∷ []) (vs ++ b ∷ [])
  each_more [] [] a b h g = (g, tt)
  each_more [] (y ∷ vs) a b h g = absurd h
  each_more (x ∷ us) [] a b h g = absurd h
  each_more (x ∷ us) (y ∷ vs) a b h g = (h.0, each_more us vs a b h.1 g)

map_more : {X Y : Type 0} (f : X → Y) (xs : List X) (x : X) → map f (xs ++ x ∷ []) ≡ map f xs ++ f x ∷ []
map_more f [] x = refl
map_more f (y ∷ xs) x = ap (λ (ys : List _). f y ∷ ys) (map_more f xs x)

module _ (told : Name → Option ℕ) (made : Name → Bool) (histories : List History) (wanted : Name) (before : ℕ) where
  pub length_below : (n : ℕ) → length (levels_below made histories wanted before n) ≡ n
  length_below zero = refl
  length_below (suc n) =
      let h = length_below n in let g = length_more (levels_below made histories wanted before n) (level_at made histories wanted before n) in omega (arith, h, g)

  below_at : (n i : ℕ) → i < n → slice_get (levels_below made histories wanted before n) i ≡ Some (level_at made histories wanted before i)
  below_at zero i l = absurd (omega (arith, l))
  below_at (suc n) i l = elim (cases_lt i n) [
    | inl k ↦ get_first (levels_below made histories wanted before n) (level_at made histories wanted before n) i (let h = length_below n in omega (arith, h, k)) ∙ below_at n i k
    | inr k ↦
        let e : i ≡ n = omega (arith, k, l) in
        get_last (levels_below made histories wanted before n) (level_at made histories wanted before n) i (let h = length_below n in omega (arith, h, e))
        ∙ ap (λ (j : ℕ). Some (level_at made histories wanted before j)) (sym e)
  ]

  mapped_at : (levels : List Level) (i : ℕ) (level : Level) → i < length levels → level ≡ slice_index_or levels i level
      → slice_get (map (latest_at made histories) levels) i ≡ Some (latest_at made histories level)
  mapped_at [] i level l e = absurd (omega (arith, l))
  mapped_at (x ∷ levels) zero level l e = ap (λ (y : Level). Some (latest_at made histories y)) (sym e)
  mapped_at (x ∷ levels) (suc i) level l e = mapped_at levels i level (omega (arith, l)) e

  abbrev pub AreLevels : List Level → ℕ → Type 0
  AreLevels levels n = AgreeEach told (map (latest_at made histories) levels) (levels_below made histories wanted before n)

  many_levels : (levels : List Level) (n : ℕ) → AreLevels levels n → length levels ≡ n
  many_levels levels n all =
      let a = each_long told (map (latest_at made histories) levels) (levels_below made histories wanted before n) all in
      let b = length_mapped (latest_at made histories) levels in
      let c = length_below n in
      omega (arith, a, b, c)

  -- the level that is kept at a place
  pub level_is : (levels : List Level) (n i : ℕ) (level : Level) → AreLevels levels n → i < length levels → level ≡ slice_index_or levels i level
      → Agree told (latest_at made histories level) (level_at made histories wanted before i)
  level_is levels n i level all l e =
      let many = many_levels levels n all in
      each_at told (map (latest_at made histories) levels) (levels_below made histories wanted before n) i (latest_at made histories level) (level_at made histories wanted before i) all
      (mapped_at levels i level l e) (below_at n i (omega (arith, l, many)))

  -- one level more
  pub levels_more : (levels all : List Level) (n : ℕ) (level : Level) → AreLevels levels n → Agree told (latest_at made histories level) (level_at made histories wanted before n)
      → all ≡ levels ++ level ∷ [] → AreLevels all (n + 1)
  levels_more levels all n level h g is =
      let number : suc n ≡ n + 1 = omega arith in
      subst (AreLevels all) number
      (subst (λ (xs : List (Name → Latest)). AgreeEach told xs (levels_below made histories wanted before (suc n)))
      (sym (ap (map (latest_at made histories)) is ∙ map_more (latest_at made histories) levels level))
      (each_more told (map (latest_at made histories) levels) (levels_below made histories wanted before n) (latest_at made histories level) (level_at made histories wanted before n) h g))

  -- as many as there are levels
  pub as_many : (levels : List Level) (n : ℕ) → AreLevels levels n → AreLevels levels (length levels)
  as_many levels n all =
      let many = many_levels levels n all in
      let e : n ≡ length levels = omega (arith, many) in
      subst (AreLevels levels) e all

  -- what the search has come to
  pub found_is : (levels slice : List Level) (n : ℕ) (first : Hop) (to : Arrived) (none one all : List Hop)
      → AreLevels levels n → slice ≡ levels → none ≡ [] → one ≡ none ++ first ∷ []
      → all ≡ one ++ hops_down made histories wanted before (length slice) to → all ≡ first ∷ hops_down made histories wanted before n to
  found_is levels slice n first to none one all h same none_is one_is all_is =
      let many = many_levels levels n h in
      let d = ap (length {A = Level}) same in
      let e : length slice ≡ n = omega (arith, many, d) in
      all_is
      ∙ ap (λ (xs : List Hop). xs ++ hops_down made histories wanted before (length slice) to) (one_is ∙ ap (λ (xs : List Hop). xs ++ first ∷ []) none_is)
      ∙ ap (λ (k : ℕ). first ∷ hops_down made histories wanted before k to) e

  module _ (thin : (x : Name) → IsThinnedBy (told x) (history_of histories x).spans (history_of histories x).spans)
      (closed : (x : Name) → AreGoneOver First told (told x) (history_of histories x).spans) where
    -- one level more from which no parameter starts
    pub none_fewer : (k : ℕ) (params : List (Option Cap)) (n : ℕ) (level : Name → Latest) → AreHeldBy told k params → Agree told level (level_at made histories wanted before n)
        → first_start made histories k level 0 params ≡ None
        → ((less : ℕ) → less < n → first_start made histories k (level_at made histories wanted before less) 0 params ≡ None)
        → (less : ℕ) → less < n + 1 → first_start made histories k (level_at made histories wanted before less) 0 params ≡ None
    none_fewer k params n level held same none fewer less l = elim (cases_lt less n) [
      | inl g ↦ fewer less g
      | inr g ↦
          let e : n ≡ less = omega (arith, g, l) in
          ap (λ (m : ℕ). first_start made histories k (level_at made histories wanted before m) 0 params) (sym e)
          ∙ sym (start_same made told histories histories thin closed k level (level_at made histories wanted before n) same 0 params held) ∙ none
    ]

    -- the start that is found, and where it leads
    pub started : (k : ℕ) (params : List (Option Cap)) (n : ℕ) (level : Name → Latest) (start : Start) → AreHeldBy told k params → Agree told level (level_at made histories wanted before n)
        → first_start made histories k level 0 params ≡ Some start → first_start made histories k (level_at made histories wanted before n) 0 params ≡ Some start
    started k params n level start held same found =
        sym (start_same made told histories histories thin closed k level (level_at made histories wanted before n) same 0 params held) ∙ found

    pub started_there : (k : ℕ) (params : List (Option Cap)) (level : Name → Latest) (start : Start) → AreHeldBy told k params → first_start made histories k level 0 params ≡ Some start
        → IsBy (told start.onward.to.name) start.onward.to.moment
    started_there k params level start held found =
        subst (StartsThere made told histories histories thin closed k) found (start_leads made told histories histories thin closed k level 0 params held)

    -- ---- one step down

    step_some : (left : ℕ) (at : Arrived) (o : Onward) → first_onward made histories (level_at made histories wanted before left) at ≡ Some o
        → hops_down made histories wanted before (suc left) at ≡ o.hop ∷ hops_down made histories wanted before left o.to
    step_some left at o e =
        ap (λ (x : Option Onward). elim x as (λ y. List Hop) [ None ↦ [] | Some onward ↦ onward.hop ∷ hops_down made histories wanted before left onward.to ]) e

    step_none : (left : ℕ) (at : Arrived) → first_onward made histories (level_at made histories wanted before left) at ≡ None
        → hops_down made histories wanted before (suc left) at ≡ []
    step_none left at e =
        ap (λ (x : Option Onward). elim x as (λ y. List Hop) [ None ↦ [] | Some onward ↦ onward.hop ∷ hops_down made histories wanted before left onward.to ]) e

    pub goes_some : (left less : ℕ) (at : Arrived) (o : Onward) (level : Level) (hops all : List Hop) → left ≡ less + 1 → IsBy (told at.name) at.moment
        → Agree told (latest_at made histories level) (level_at made histories wanted before less) → first_onward made histories (latest_at made histories level) at ≡ Some o
        → hops ++ hops_down made histories wanted before left at ≡ all → (hops ++ o.hop ∷ []) ++ hops_down made histories wanted before less o.to ≡ all
    goes_some left less at o level hops all e there same found h =
        let first : first_onward made histories (level_at made histories wanted before less) at ≡ Some o =
        sym (onward_same made told histories histories thin closed (latest_at made histories level) (level_at made histories wanted before less) same at there) ∙ found in
        let number : left ≡ suc less = omega (arith, e) in
        append_assoc hops (o.hop ∷ []) (hops_down made histories wanted before less o.to)
        ∙ ap (λ (xs : List Hop). hops ++ xs) (sym (step_some less at o first))
        ∙ ap (λ (n : ℕ). hops ++ hops_down made histories wanted before n at) (sym number) ∙ h

    pub goes_there : (at : Arrived) (o : Onward) (level : Level) → IsBy (told at.name) at.moment → first_onward made histories (latest_at made histories level) at ≡ Some o
        → IsBy (told o.to.name) o.to.moment
    goes_there at o level there found = subst (LeadsTo made told) found (onward_leads made told histories histories thin closed (latest_at made histories level) at there)

    pub goes_none : (left less : ℕ) (at : Arrived) (level : Level) (hops all : List Hop) → left ≡ less + 1 → IsBy (told at.name) at.moment
        → Agree told (latest_at made histories level) (level_at made histories wanted before less) → first_onward made histories (latest_at made histories level) at ≡ None
        → hops ++ hops_down made histories wanted before left at ≡ all → hops ≡ all
    goes_none left less at level hops all e there same found h =
        let first : first_onward made histories (level_at made histories wanted before less) at ≡ None =
        sym (onward_same made told histories histories thin closed (latest_at made histories level) (level_at made histories wanted before less) same at there) ∙ found in
        let number : left ≡ suc less = omega (arith, e) in
        sym (append-nil hops) ∙ ap (λ (xs : List Hop). hops ++ xs) (sym (step_none less at first))
        ∙ ap (λ (n : ℕ). hops ++ hops_down made histories wanted before n at) (sym number) ∙ h
