-- What is found is the least reach.
use Rattle.std.proofs.Common.{◌≡◌, ℕ, zero, suc, ◌+◌, ◌<◌, ◌≤◌, List, [], ◌∷◌, length, Bool, true, false, Option, Some, None, refl, sym, ◌∙◌, ap, arith, cond, subst, slice_get}
use Rattle.std.proofs.Common.{option_and_then, option_map}
use Rattle.std.specs.Prelude.{◌&&◌, ◌==◌, IsTrue, map}
use Rattle.std.specs.List.{flat_map}
use Rattle.std.specs.Cmp.{first_so, second_so, ranked}
use Rattle.std.specs.Ordering.{nat_cmp, MatchOrdering}
use Rattle.std.specs.declared.cmp.Ordering.{Ordering}
use Rattle.std.specs.declared.cmp.Ordering.TheVariants.{Less, Equal, Greater}
use Rattle.std.proofs.lemmas.Bool.{true≢false, eqb-true, eq-eqb}
use Rattle.hk_rights.specs.Rights.{has, modify_right}
use Rattle.hk_model.specs.declared.names.Name.{Name}
use Rattle.hk_model.specs.declared.entries.Cap.{Cap}
use Rattle.hk_model.specs.declared.entries.Entry.{Entry}
use Rattle.hk_model.specs.declared.reaches.Hop.{Hop}
use Rattle.hk_model.specs.declared.reaches.Reach.{Reach}
use Rattle.hk_model.specs.State.{State}
use Rattle.hk_model.specs.Keeping.{stands}
use Rattle.hk_model.specs.Places.{cap_of}
use Rattle.hk_model.specs.Reaches.{Reached, reached_by, listed_cap, follow, IsReach}
use Rattle.hk_model.specs.Changes.{hop_key, reach_key, is_at_most, IsLeastReach}
use Rattle.hk_report.specs.declared.histories.History.{History}
use Rattle.hk_report.specs.declared.hops.Arrived.{Arrived}
use Rattle.hk_report.specs.declared.hops.Latest.{Latest}
use Rattle.hk_report.specs.declared.hops.Onward.{Onward}
use Rattle.hk_report.specs.declared.searching.Start.{Start}
use Rattle.hk_report.specs.Histories.{history_of}
use Rattle.hk_report.specs.Hops.{arrived_by}
use Rattle.hk_report.specs.Searches.{is_direct, is_direct_cap, direct_param, first_onward, onward_at, started, first_start, level_at, hops_down, IsFoundBehind}
use Rattle.hk_report.proofs.Keys.{first_less, first_same}
use Rattle.hk_report.proofs.Spans.{SpansTell}
use Rattle.hk_report.proofs.Onwards.{reached, arrived, IsBy, first_by, Way, GoesOn, goes_on, way_by_end, levels, Least, least_down, good_by_onward}

option_same : {X : Type 0} {x y : X} → Some x ≡ Some y → x ≡ y
option_same h = cc

none_some : {X : Type 0} (x : X) → None ≡ Some x → ⊥
none_some x h = cc

name_is : (x y : Name) → (x.0 == y.0) ≡ true → x ≡ y
name_is x y h = ap (λ (n : ℕ). let z : Name = record { 0 = n } in z) (eqb-true x.0 y.0 h)

-- ---- the first that passes a test

-- a parameter that is the object, and none before it
record FirstDirect (wanted : Name) (index : ℕ) (entries : List Entry) (arg : ℕ) : Type 0 where
  place : ℕ
  at_place : arg ≡ index + place
  cap : Cap
  is : option_and_then cap_of (slice_get entries place) ≡ Some cap
  passes : is_direct_cap wanted cap ≡ true
  first : (other : ℕ) (held : Cap) → option_and_then cap_of (slice_get entries other) ≡ Some held → is_direct_cap wanted held ≡ true → place ≤ other

held_direct : (wanted : Name) (o : Option Cap) → is_direct wanted o ≡ true → (cap : Cap) × (o ≡ Some cap) × (is_direct_cap wanted cap ≡ true)
held_direct wanted None h = absurd (true≢false (sym h))
held_direct wanted (Some cap) h = (cap, refl, h)

direct_first : (wanted : Name) (index : ℕ) (entries : List Entry) (arg : ℕ) → direct_param wanted index (map cap_of entries) ≡ Some arg → FirstDirect wanted index entries arg
direct_first wanted index [] arg h = absurd (cc)
direct_first wanted index (entry ∷ entries) arg h = by (λ g. direct_first wanted (index + 1) entries arg g) (is_direct wanted (cap_of entry)) refl h
  where
    by : (direct_param wanted (index + 1) (map cap_of entries) ≡ Some arg → FirstDirect wanted (index + 1) entries arg) → (b : Bool) → is_direct wanted (cap_of entry) ≡ b
        → cond b (Some index) (direct_param wanted (index + 1) (map cap_of entries)) ≡ Some arg → FirstDirect wanted index (entry ∷ entries) arg
    by later true e g =
        let found = held_direct wanted (cap_of entry) e in
        let same : index ≡ arg = option_same g in
        record { place = 0; at_place = omega (arith, same); cap = found.0; is = found.1; passes = found.2; first = λ other held k p. omega arith }
    by later false e g =
        let rest = later g in
        let where_is = rest.at_place in
        record {
          place = suc rest.place;
          at_place = omega (arith, where_is);
          cap = rest.cap;
          is = rest.is;
          passes = rest.passes;
          first = before rest;
        }
      where
        before : (rest : FirstDirect wanted (index + 1) entries arg) (other : ℕ) (held : Cap) → option_and_then cap_of (slice_get (entry ∷ entries) other) ≡ Some held
            → is_direct_cap wanted held ≡ true → suc rest.place ≤ other
        before rest zero held k p = absurd (true≢false (sym (ap (is_direct wanted) k ∙ p) ∙ e))
        before rest (suc other) held k p = let l = rest.first other held k p in omega (arith, l)

direct_none : (wanted : Name) (index : ℕ) (entries : List Entry) → direct_param wanted index (map cap_of entries) ≡ None → (other : ℕ) (held : Cap)
    → option_and_then cap_of (slice_get entries other) ≡ Some held → is_direct_cap wanted held ≡ true → ⊥
direct_none wanted index [] h other held k p = absurd (cc)
direct_none wanted index (entry ∷ entries) h other held k p = by (λ g o q. direct_none wanted (index + 1) entries g o held q p) (is_direct wanted (cap_of entry)) refl h other k
  where
    by : (direct_param wanted (index + 1) (map cap_of entries) ≡ None → (other : ℕ) → option_and_then cap_of (slice_get entries other) ≡ Some held → ⊥) → (b : Bool)
        → is_direct wanted (cap_of entry) ≡ b → cond b (Some index) (direct_param wanted (index + 1) (map cap_of entries)) ≡ None → (other : ℕ)
        → option_and_then cap_of (slice_get (entry ∷ entries) other) ≡ Some held → ⊥
    by later true e g other k = absurd (cc)
    by later false e g zero k = true≢false (sym (ap (is_direct wanted) k ∙ p) ∙ e)
    by later false e g (suc other) k = later g other k

module _ (made : Name → Bool) (histories : List History) (k : ℕ) (level : Name → Latest) where
  -- a parameter from where the rest can be made, and none before it
  record FirstStart (index : ℕ) (entries : List Entry) (start : Start) : Type 0 where
    place : ℕ
    at_place : start.arg ≡ index + place
    cap : Cap
    is : option_and_then cap_of (slice_get entries place) ≡ Some cap
    onward_is : first_onward made histories level (arrived_by k cap) ≡ Some start.onward
    first : (other : ℕ) (held : Cap) (onward : Onward) → option_and_then cap_of (slice_get entries other) ≡ Some held
        → first_onward made histories level (arrived_by k held) ≡ Some onward → place ≤ other

  from_cap : (o : Option Cap) (onward : Onward) → option_and_then (λ (cap : Cap). first_onward made histories level (arrived_by k cap)) o ≡ Some onward
      → (cap : Cap) × (o ≡ Some cap) × (first_onward made histories level (arrived_by k cap) ≡ Some onward)
  from_cap None onward h = absurd (cc)
  from_cap (Some cap) onward h = (cap, refl, h)

  start_first : (index : ℕ) (entries : List Entry) (start : Start) → first_start made histories k level index (map cap_of entries) ≡ Some start → FirstStart index entries start
  start_first index [] start h = absurd (cc)
  start_first index (entry ∷ entries) start h = by (λ g. start_first (index + 1) entries start g) (onward_at made histories k level (cap_of entry)) refl h
    where
      by : (first_start made histories k level (index + 1) (map cap_of entries) ≡ Some start → FirstStart (index + 1) entries start) → (o : Option Onward)
          → onward_at made histories k level (cap_of entry) ≡ o
          → elim o as (λ x. Option Start) [ Some onward ↦ Some (started made histories index onward) | None ↦ first_start made histories k level (index + 1) (map cap_of entries) ] ≡ Some start
          → FirstStart index (entry ∷ entries) start
      by later (Some onward) e g =
          let found = from_cap (cap_of entry) onward e in
          let same : started made histories index onward ≡ start = option_same g in
          let number = ap (λ (s : Start). s.arg) same in
          record {
            place = 0;
            at_place = omega (arith, number);
            cap = found.0;
            is = found.1;
            onward_is = found.2 ∙ ap (λ (s : Start). Some s.onward) same;
            first = λ other held o l p. omega arith;
          }
      by later None e g =
          let rest = later g in
          let where_is = rest.at_place in
          record {
            place = suc rest.place;
            at_place = omega (arith, where_is);
            cap = rest.cap;
            is = rest.is;
            onward_is = rest.onward_is;
            first = before rest;
          }
        where
          before : (rest : FirstStart (index + 1) entries start) (other : ℕ) (held : Cap) (onward : Onward)
              → option_and_then cap_of (slice_get (entry ∷ entries) other) ≡ Some held → first_onward made histories level (arrived_by k held) ≡ Some onward
              → suc rest.place ≤ other
          before rest zero held onward l p =
              let both : None ≡ Some onward = sym e ∙ ap (option_and_then (λ (cap : Cap). first_onward made histories level (arrived_by k cap))) l ∙ p in
              absurd (none_some onward both)
          before rest (suc other) held onward l p = let m = rest.first other held onward l p in omega (arith, m)

  start_none : (index : ℕ) (entries : List Entry) → first_start made histories k level index (map cap_of entries) ≡ None → (other : ℕ) (held : Cap) (onward : Onward)
      → option_and_then cap_of (slice_get entries other) ≡ Some held → first_onward made histories level (arrived_by k held) ≡ Some onward → ⊥
  start_none index [] h other held onward l p = absurd (cc)
  start_none index (entry ∷ entries) h other held onward l p =
      by (λ g o q. start_none (index + 1) entries g o held onward q p) (onward_at made histories k level (cap_of entry)) refl h other l
    where
      by : (first_start made histories k level (index + 1) (map cap_of entries) ≡ None → (other : ℕ) → option_and_then cap_of (slice_get entries other) ≡ Some held → ⊥)
          → (o : Option Onward) → onward_at made histories k level (cap_of entry) ≡ o
          → elim o as (λ x. Option Start) [ Some onward ↦ Some (started made histories index onward) | None ↦ first_start made histories k level (index + 1) (map cap_of entries) ] ≡ None
          → (other : ℕ) → option_and_then cap_of (slice_get (entry ∷ entries) other) ≡ Some held → ⊥
      by later (Some first) e g other l = absurd (cc)
      by later None e g zero l =
          none_some onward (sym e ∙ ap (option_and_then (λ (cap : Cap). first_onward made histories level (arrived_by k cap))) l ∙ p)
      by later None e g (suc other) l = later g other l

-- ---- keys

number_first : (a b : ℕ) (xs ys : List ℕ) → a ≤ b → (a ≡ b → is_at_most xs ys ≡ true) → is_at_most (a ∷ xs) (b ∷ ys) ≡ true
number_first a b xs ys h g = by (nat_cmp a b) (ranked a b (nat_cmp a b) refl)
  where
    by : (o : Ordering) → MatchOrdering o (a < b) (a ≡ b) (b < a) → is_at_most (a ∷ xs) (b ∷ ys) ≡ true
    by Less l = first_less a b xs ys l
    by Equal e = first_same a b xs ys e (g e)
    by Greater l = absurd (omega (arith, h, l))

module _ (at : ℕ → State) (made test : Name → Bool) (test_is : (x : Name) → test x ≡ made x) (histories : List History) (end : ℕ)
    (tells : (x : Name) → SpansTell at end x (history_of histories x).spans)
    (named : (m index : ℕ) (x : Name) (cap : Cap) → m ≤ end → listed_cap (at m) x index ≡ Some cap → stands (at m) cap.name ≡ true)
    (wanted : Name) (last : ℕ) (last_by_end : last ≤ end) (k : ℕ) (begun : k ≤ last) (params : List Entry)
    (params_stand : (place : ℕ) (cap : Cap) → option_and_then cap_of (slice_get params place) ≡ Some cap → stands (at k) cap.name ≡ true) where
  abbrev WayFrom : ℕ → Arrived → List Hop → Type 0
  WayFrom n from hops = Way at made test test_is histories end tells named wanted last last_by_end n from hops

  abbrev LeastFrom : ℕ → Arrived → List Hop → Type 0
  LeastFrom n from hops = Least at made test test_is histories end tells named wanted last last_by_end n from hops

  abbrev IsIt : ℕ → List Hop → Type 0
  IsIt param hops = IsReach at made params k (λ there. there.modify) last wanted param hops

  -- ---- reaches are ways from parameters

  record FromParam (other : ℕ) (others : List Hop) : Type 0 where
    cap : Cap
    held : option_and_then cap_of (slice_get params other) ≡ Some cap
    way : WayFrom (length others) (arrived_by k cap) others

  way_of : (other : ℕ) (others : List Hop) → IsIt other others → FromParam other others
  way_of other others r = by (slice_get params other) refl r.leads
    where
      held_by : (entry : Entry) → slice_get params other ≡ Some entry → (o : Option Cap) → cap_of entry ≡ o
          → option_and_then (follow at made others) (option_map (reached_by k) o) ≡ Some r.there → FromParam other others
      held_by entry e None f g = absurd (cc)
      held_by entry e (Some cap) f g = record {
        cap = cap;
        held = ap (option_and_then cap_of) e ∙ f;
        way = record { count = refl; there = r.there; leads = g; same = r.same; good = r.good; by_last = r.by_then };
      }

      by : (o : Option Entry) → slice_get params other ≡ o
          → option_and_then (follow at made others) (option_and_then (λ entry. option_map (reached_by k) (cap_of entry)) o) ≡ Some r.there → FromParam other others
      by None e g = absurd (cc)
      by (Some entry) e g = held_by entry e (cap_of entry) refl g

  param_is : (o : Option Entry) (cap : Cap) → option_and_then cap_of o ≡ Some cap → option_and_then (λ entry. option_map (reached_by k) (cap_of entry)) o ≡ Some (reached_by k cap)
  param_is None cap h = absurd (cc)
  param_is (Some entry) cap h = ap (option_map (reached_by k)) h

  reach_by : (n place : ℕ) (cap : Cap) (hops : List Hop) → option_and_then cap_of (slice_get params place) ≡ Some cap → WayFrom n (arrived_by k cap) hops → IsIt place hops
  reach_by n place cap hops h way = record {
    there = way.there;
    leads = ap (option_and_then (follow at made hops)) (param_is (slice_get params place) cap h) ∙ way.leads;
    same = way.same;
    good = way.good;
    by_then = way.by_last;
  }

  -- a way of no hop is from a parameter that is the object
  empty_direct : (n : ℕ) (cap : Cap) → WayFrom n (arrived_by k cap) [] → is_direct_cap wanted cap ≡ true
  empty_direct n cap way =
      let here : reached (arrived_by k cap) ≡ way.there = option_same way.leads in
      both (cap.name.0 == wanted.0) (has cap.rights modify_right) (eq-eqb cap.name.0 wanted.0 (ap (λ (r : Reached). r.name.0) here ∙ ap (λ (x : Name). x.0) way.same))
      (ap (λ (r : Reached). r.modify) here ∙ way.good)
    where
      both : (a b : Bool) → a ≡ true → b ≡ true → (a && b) ≡ true
      both true true h g = refl
      both true false h g = absurd (true≢false (sym g))
      both false b h g = absurd (true≢false (sym h))

  -- ---- a parameter that is the object

  pub found_direct : (arg : ℕ) → direct_param wanted 0 (map cap_of params) ≡ Some arg → IsLeastReach at made params k last wanted arg []
  found_direct arg e = subst (λ (n : ℕ). IsLeastReach at made params k last wanted n []) (sym number) (record { is = reach_by 0 f.place f.cap [] f.is here; least = least })
    where
      f : FirstDirect wanted 0 params arg
      f = direct_first wanted 0 params arg e

      number : arg ≡ f.place
      number = let h = f.at_place in omega (arith, h)

      here : WayFrom 0 (arrived_by k f.cap) []
      here = record {
        count = refl;
        there = reached (arrived_by k f.cap);
        leads = refl;
        same = name_is f.cap.name wanted (first_so (f.cap.name.0 == wanted.0) (has f.cap.rights modify_right) f.passes);
        good = second_so (f.cap.name.0 == wanted.0) (has f.cap.rights modify_right) f.passes;
        by_last = begun;
      }

      least : (other : ℕ) (others : List Hop) → IsIt other others → IsTrue (is_at_most (reach_key f.place []) (reach_key other others))
      least other [] r =
          let from = way_of other [] r in
          first_same 0 0 (f.place ∷ []) (other ∷ []) refl (number_first f.place other [] [] (f.first other from.cap from.held (empty_direct 0 from.cap from.way)) (λ s. refl))
      least other (hop ∷ others) r = first_less 0 (length (hop ∷ others)) (f.place ∷ []) (other ∷ flat_map hop_key (hop ∷ others)) (omega arith)

  -- ---- hops from a parameter

  module _ (none : direct_param wanted 0 (map cap_of params) ≡ None) (reach_found : Reach) (b : IsFoundBehind test histories wanted (last + 1) k (map cap_of params) reach_found) where
    s : FirstStart test histories k (level_at test histories wanted (last + 1) b.left) 0 params b.start
    s = start_first test histories k (level_at test histories wanted (last + 1) b.left) 0 params b.start b.starts

    k_by_end : k ≤ end
    k_by_end = let x = begun in let y = last_by_end in omega (arith, x, y)

    first_way : LeastFrom (suc b.left) (arrived_by k s.cap) (b.start.onward.hop ∷ hops_down test histories wanted (last + 1) b.left b.start.onward.to)
    first_way =
        subst (λ (o : Option Onward). LeastFrom (suc b.left) (arrived_by k s.cap)
        (elim o as (λ y. List Hop) [ None ↦ [] | Some onward ↦ onward.hop ∷ hops_down test histories wanted (last + 1) b.left onward.to ]))
        s.onward_is
        (least_down at made test test_is histories end tells named wanted last last_by_end (suc b.left) (arrived_by k s.cap) k_by_end (params_stand s.place s.cap s.is)
        (good_by_onward at made test test_is histories end tells named wanted last last_by_end b.left (arrived_by k s.cap) b.start.onward s.onward_is))

    number : b.start.arg ≡ s.place
    number = let h = s.at_place in omega (arith, h)

    least_behind : (other : ℕ) (others : List Hop) → IsIt other others
        → IsTrue (is_at_most (reach_key s.place (b.start.onward.hop ∷ hops_down test histories wanted (last + 1) b.left b.start.onward.to)) (reach_key other others))
    least_behind other [] r = let from = way_of other [] r in absurd (direct_none wanted 0 params none other from.cap from.held (empty_direct 0 from.cap from.way))
    least_behind other (hop ∷ rest) r = by (nat_cmp (length rest) b.left) (ranked (length rest) b.left (nat_cmp (length rest) b.left) refl)
      where
        from : FromParam other (hop ∷ rest)
        from = way_of other (hop ∷ rest) r

        way : WayFrom (suc (length rest)) (arrived_by k from.cap) (hop ∷ rest)
        way = record { count = omega arith; there = from.way.there; leads = from.way.leads; same = from.way.same; good = from.way.good; by_last = from.way.by_last }

        on : GoesOn at made test test_is histories end tells named wanted last last_by_end (length rest) (arrived_by k from.cap) hop rest
        on = goes_on at made test test_is histories end tells named wanted last last_by_end (length rest) (arrived_by k from.cap) hop rest way

        first : IsBy (first_onward test histories (level_at test histories wanted (last + 1) (length rest)) (arrived_by k from.cap)) hop
        first =
            first_by at made test test_is histories end tells named (level_at test histories wanted (last + 1) (length rest)) (arrived_by k from.cap) hop on.to on.leads
            (way_by_end at made test test_is histories end tells named wanted last last_by_end (length rest) (arrived on.to) rest on.way)
            ((levels at made test test_is histories end tells named wanted last last_by_end (length rest)).complete (arrived on.to) rest on.way)

        counted : length (b.start.onward.hop ∷ hops_down test histories wanted (last + 1) b.left b.start.onward.to) ≡ suc b.left
        counted = first_way.way.count

        by : (o : Ordering) → MatchOrdering o (length rest < b.left) (length rest ≡ b.left) (b.left < length rest)
            → is_at_most (reach_key s.place (b.start.onward.hop ∷ hops_down test histories wanted (last + 1) b.left b.start.onward.to)) (reach_key other (hop ∷ rest)) ≡ true
        by Less l =
            absurd
            (start_none test histories k (level_at test histories wanted (last + 1) (length rest)) 0 params (b.fewest (length rest) l) other from.cap first.by from.held first.is)
        by Greater l =
            first_less (length (b.start.onward.hop ∷ hops_down test histories wanted (last + 1) b.left b.start.onward.to)) (length (hop ∷ rest))
            (s.place ∷ flat_map hop_key (b.start.onward.hop ∷ hops_down test histories wanted (last + 1) b.left b.start.onward.to)) (other ∷ flat_map hop_key (hop ∷ rest))
            (let c = counted in omega (arith, c, l))
        by Equal e =
            first_same (length (b.start.onward.hop ∷ hops_down test histories wanted (last + 1) b.left b.start.onward.to)) (length (hop ∷ rest))
            (s.place ∷ flat_map hop_key (b.start.onward.hop ∷ hops_down test histories wanted (last + 1) b.left b.start.onward.to)) (other ∷ flat_map hop_key (hop ∷ rest))
            (let c = counted in omega (arith, c, e))
            (number_first s.place other (flat_map hop_key (b.start.onward.hop ∷ hops_down test histories wanted (last + 1) b.left b.start.onward.to))
            (flat_map hop_key (hop ∷ rest))
            (s.first other from.cap first.by from.held
            (subst (λ (n : ℕ). first_onward test histories (level_at test histories wanted (last + 1) n) (arrived_by k from.cap) ≡ Some first.by) e first.is))
            same_param)
          where
            same_param : s.place ≡ other
                → is_at_most (flat_map hop_key (b.start.onward.hop ∷ hops_down test histories wanted (last + 1) b.left b.start.onward.to)) (flat_map hop_key (hop ∷ rest)) ≡ true
            same_param p =
                let caps : from.cap ≡ s.cap = option_same (sym from.held ∙ ap (λ (n : ℕ). option_and_then cap_of (slice_get params n)) (sym p) ∙ s.is) in
                first_way.least (hop ∷ rest)
                (subst (λ (n : ℕ). WayFrom (suc n) (arrived_by k s.cap) (hop ∷ rest)) e
                (subst (λ (c : Cap). WayFrom (suc (length rest)) (arrived_by k c) (hop ∷ rest)) caps way))

    pub found_behind : IsLeastReach at made params k last wanted b.start.arg (b.start.onward.hop ∷ hops_down test histories wanted (last + 1) b.left b.start.onward.to)
    found_behind =
        subst (λ (n : ℕ). IsLeastReach at made params k last wanted n (b.start.onward.hop ∷ hops_down test histories wanted (last + 1) b.left b.start.onward.to)) (sym number)
        (record {
          is = reach_by (suc b.left) s.place s.cap (b.start.onward.hop ∷ hops_down test histories wanted (last + 1) b.left b.start.onward.to) s.is first_way.way;
          least = least_behind;
        })
