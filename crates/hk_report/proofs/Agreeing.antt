-- Searches that go over lists without what has ended when the first way can be at them, by levels that are the same from then on, find the same.
use Rattle.std.proofs.Common.{◌≡◌, ℕ, zero, suc, ◌+◌, ◌≤◌, List, [], ◌∷◌, Bool, true, false, Option, Some, None, refl, sym, ◌∙◌, ap, arith, cond, subst, option_and_then}
use Rattle.std.specs.Prelude.{◌⊎◌, ◌&&◌, ◌||◌, nat_lt, Result, Ok, Err, IfOk}
use mathlib.Core.Logic.{inl, inr}
use Rattle.std.proofs.lemmas.Bool.{true≢false, ltb-true, ltb-false, lt-ltb, le-ltb, le-leb}
use Rattle.hk_model.specs.declared.names.Name.{Name}
use Rattle.hk_model.specs.declared.entries.Cap.{Cap}
use Rattle.hk_model.specs.declared.reaches.Hop.{Hop}
use Rattle.hk_model.specs.declared.reaches.Hop.TheVariants as hop_by
use Rattle.hk_model.specs.declared.reaches.Reach.{Reach}
use Rattle.hk_model.specs.declared.reaches.Reach.TheVariants.{Param}
use Rattle.hk_report.specs.declared.histories.Span.{Span}
use Rattle.hk_report.specs.declared.histories.History.{History}
use Rattle.hk_report.specs.declared.hops.Arrived.{Arrived}
use Rattle.hk_report.specs.declared.hops.Latest.{Latest}
use Rattle.hk_report.specs.declared.hops.Onward.{Onward}
use Rattle.hk_report.specs.declared.reachable.Side.TheVariants.{First, Last}
use Rattle.hk_report.specs.declared.searching.Start.{Start}
use Rattle.hk_report.specs.Histories.{history_of}
use Rattle.hk_report.specs.Hops.{later, arrived_by, arrived_whole, is_good, entry_onward, handed_onward, comes_before, earlier, onward_over, first_from}
use Rattle.hk_report.specs.Hops.{entry_bound, handed_bound, no_latest, raised, latest_from, next_latest}
use Rattle.hk_report.specs.Reachable.{is_by, IsBy, from_end, IsByThen, goes_on, AreGoneOver, IsClosed, IsHeldBy, AreHeldBy, can_come, comes_at, SameAt, Agree}
use Rattle.hk_report.specs.Searches.{direct_param, first_onward, onward_at, first_start, level_at, hops_down, IsFoundBehind, IsFoundBy, IsFound}
use Rattle.hk_report.proofs.Bounds.{below_greater, below_entry, below_handed}
use Rattle.hk_report.proofs.MomentLemmas.{by_true}

-- what follows from what is so of a value, where there is one
pub if_ok : {X E : Type 0} {P Q : X → Type 0} → (r : Result X E) → IfOk r P → ((x : X) → P x → Q x) → IfOk r Q
if_ok (Ok x) h f = f x h
if_ok (Err e) h f = tt

-- ---- bounds that are the same at a moment

pub same_at : (t : ℕ) (a : Latest) → SameAt t a a
same_at t a = record { modify = refl; unconf = refl }

good_same : (to : Arrived) (a b : Latest) → SameAt to.moment a b → is_good to a ≡ is_good to b
good_same to a b h = rw (h.modify, h.unconf) refl

and_same : (o a b : Bool) → (o ≡ true → a ≡ b) → (o && a) ≡ (o && b)
and_same true a b f = f refl
and_same false a b f = refl

later_from : (t from : ℕ) → t ≤ later t from
later_from t from = by (nat_lt t from) refl
  where
    by : (o : Bool) → nat_lt t from ≡ o → t ≤ cond o from t
    by true e = let l = ltb-true t from e in omega (arith, l)
    by false e = omega arith

later_more : (m t from : ℕ) → m ≤ t → later m from ≤ later t from
later_more m t from l = by (nat_lt m from) refl (nat_lt t from) refl
  where
    by : (o : Bool) → nat_lt m from ≡ o → (p : Bool) → nat_lt t from ≡ p → cond o from m ≤ cond p from t
    by true e true f = omega arith
    by true e false f = let x = ltb-false t from f in omega (arith, x)
    by false e true f = let x = ltb-false m from e in let y = ltb-true t from f in omega (arith, l, x, y)
    by false e false f = l

-- what is told by a moment is told by later ones
pub by_later : (o : Option ℕ) (m t : ℕ) → IsBy o m → m ≤ t → IsBy o t
by_later None m t h l = absurd h
by_later (Some x) m t h l = omega (arith, h, l)

-- ---- lists without what has ended by a moment

abbrev pub IsThinned : ℕ → List Span → List Span → Type 0
IsThinned m few [] = few ≡ []
IsThinned m few (s ∷ all) = ((nat_lt m s.until ≡ false) × IsThinned m few all) ⊎ ((rest : List Span) × ((few ≡ s ∷ rest) × IsThinned m rest all))

pub thinned_none : (m : ℕ) (spans : List Span) → IsThinned m spans spans
thinned_none m [] = refl
thinned_none m (s ∷ spans) = inr (spans, (refl, thinned_none m spans))

abbrev pub IsThinnedBy : Option ℕ → List Span → List Span → Type 0
IsThinnedBy None few all = Unit {0}
IsThinnedBy (Some m) few all = IsThinned m few all

module _ (made : Name → Bool) (told : Name → Option ℕ) where
  -- a way can be at the object of a span that has not ended
  abbrev pub LeadsOn : ℕ → Span → Type 0
  LeadsOn m s = nat_lt m s.until ≡ true → IsBy (told s.cap.name) (later m s.from)

  pub leads_on : (m : ℕ) (s : Span) → IsByThen (told s.cap.name) (goes_on First (Some m) s) → LeadsOn m s
  leads_on m s h e = subst (λ (b : Bool). IsByThen (told s.cap.name) (cond b (Some (later m s.from)) None)) e h

  pub ended_at : (m t : ℕ) (s : Span) → m ≤ t → nat_lt m s.until ≡ false → nat_lt (later t s.from) s.until ≡ false
  ended_at m t s l e = let x = ltb-false m s.until e in let y = later_from t s.from in le-ltb (later t s.from) s.until (omega (arith, l, x, y))

  open_at : (m t : ℕ) (s : Span) → m ≤ t → nat_lt (later t s.from) s.until ≡ true → nat_lt m s.until ≡ true
  open_at m t s l e = let x = ltb-true (later t s.from) s.until e in let y = later_from t s.from in lt-ltb m s.until (omega (arith, l, x, y))

  -- ---- where hops lead to

  abbrev pub LeadsTo : Option Onward → Type 0
  LeadsTo None = Unit {0}
  LeadsTo (Some onward) = IsBy (told onward.to.name) onward.to.moment

  pub where_it_is : (b : Bool) (onward : Onward) → (b ≡ true → LeadsTo (Some onward)) → LeadsTo (cond b (Some onward) None)
  where_it_is true onward h = h refl
  where_it_is false onward h = tt

  earlier_leads : (a b : Option Onward) → LeadsTo a → LeadsTo b → LeadsTo (earlier a b)
  earlier_leads None b g h = h
  earlier_leads (Some a) None g h = g
  earlier_leads (Some a) (Some b) g h = by (comes_before b.hop a.hop)
    where
      by : (c : Bool) → LeadsTo (cond c (Some b) (Some a))
      by true = h
      by false = g

  pub second : (a b : Bool) → (a && b) ≡ true → b ≡ true
  second true b h = h
  second false b h = absurd (true≢false (sym h))

  first_of : (a b : Bool) → (a && b) ≡ true → a ≡ true
  first_of true b h = refl
  first_of false b h = h

  pub arrives : (m : ℕ) (from : Arrived) (s : Span) → m ≤ from.moment → LeadsOn m s → nat_lt (later from.moment s.from) s.until ≡ true → IsBy (told s.cap.name) (later from.moment s.from)
  arrives m from s le h e =
      by_later (told s.cap.name) (later m s.from) (later from.moment s.from) (h (open_at m from.moment s le e)) (later_more m from.moment s.from le)

  over_leads : (n : Name → Latest) (m : ℕ) (from : Arrived) (s : Span) → m ≤ from.moment → LeadsOn m s → LeadsTo (onward_over made n from s)
  over_leads n m from s le h =
      earlier_leads (entry_onward from s (n s.cap.name)) (handed_onward from s (n s.cap.name) (made s.cap.name))
      (where_it_is _ _ (λ e. arrives m from s le h (first_of (nat_lt (later from.moment s.from) s.until) _ (second from.unconf _ e))))
      (where_it_is _ _ (λ e. arrives m from s le h (first_of (nat_lt (later from.moment s.from) s.until) _ (second (made s.cap.name) _ (second from.modify _ e)))))

  first_leads : (n : Name → Latest) (m : ℕ) (from : Arrived) (first : Option Onward) (spans : List Span) → m ≤ from.moment → AreGoneOver First told (Some m) spans → LeadsTo first
      → LeadsTo (first_from made n from first spans)
  first_leads n m from first [] le h g = g
  first_leads n m from first (s ∷ spans) le h g =
      first_leads n m from (earlier first (onward_over made n from s)) spans le h.1
      (earlier_leads first (onward_over made n from s) g (over_leads n m from s le (leads_on m s h.0)))

  module _ (l n : Name → Latest) (agree : Agree told l n) where
    -- at the moment at which a hop goes over a span
    there_same : (m t : ℕ) (s : Span) → m ≤ t → LeadsOn m s → nat_lt (later t s.from) s.until ≡ true → SameAt (later t s.from) (l s.cap.name) (n s.cap.name)
    there_same m t s le h e = agree s.cap.name (later t s.from) (by_later (told s.cap.name) (later m s.from) (later t s.from) (h (open_at m t s le e)) (later_more m t s.from le))

    -- ---- the level of one hop more

    entry_same : (m t : ℕ) (s : Span) → m ≤ t → LeadsOn m s → nat_lt t (entry_bound s (l s.cap.name)) ≡ nat_lt t (entry_bound s (n s.cap.name))
    entry_same m t s le h =
        below_entry t s (l s.cap.name)
        ∙ and_same (nat_lt (later t s.from) s.until) (is_good (arrived_by (later t s.from) s.cap) (l s.cap.name)) (is_good (arrived_by (later t s.from) s.cap) (n s.cap.name))
        (λ e. good_same (arrived_by (later t s.from) s.cap) (l s.cap.name) (n s.cap.name) (there_same m t s le h e))
        ∙ sym (below_entry t s (n s.cap.name))

    handed_same : (m t : ℕ) (s : Span) → m ≤ t → LeadsOn m s
        → nat_lt t (handed_bound s (l s.cap.name) (made s.cap.name)) ≡ nat_lt t (handed_bound s (n s.cap.name) (made s.cap.name))
    handed_same m t s le h =
        below_handed t s (l s.cap.name) (made s.cap.name)
        ∙ ap (λ (b : Bool). made s.cap.name && b)
        (and_same (nat_lt (later t s.from) s.until) (is_good (arrived_whole (later t s.from) s.cap) (l s.cap.name)) (is_good (arrived_whole (later t s.from) s.cap) (n s.cap.name))
        (λ e. good_same (arrived_whole (later t s.from) s.cap) (l s.cap.name) (n s.cap.name) (there_same m t s le h e)))
        ∙ sym (below_handed t s (n s.cap.name) (made s.cap.name))

    raised_same : (m t : ℕ) (s : Span) (a b : Latest) → m ≤ t → LeadsOn m s → SameAt t a b → SameAt t (raised made l a s) (raised made n b s)
    raised_same m t s a b le h g = record {
      modify =
          below_greater t a.modify (handed_bound s (l s.cap.name) (made s.cap.name)) ∙ rw (g.modify, handed_same m t s le h) refl
          ∙ sym (below_greater t b.modify (handed_bound s (n s.cap.name) (made s.cap.name)));
      unconf =
          below_greater t a.unconf (entry_bound s (l s.cap.name)) ∙ rw (g.unconf, entry_same m t s le h) refl ∙ sym (below_greater t b.unconf (entry_bound s (n s.cap.name)));
    }

    or_false : (a : Bool) → (a || false) ≡ a
    or_false true = refl
    or_false false = refl

    -- what has ended raises nothing
    raised_ended : (m t : ℕ) (s : Span) (a b : Latest) → m ≤ t → nat_lt m s.until ≡ false → SameAt t a b → SameAt t a (raised made n b s)
    raised_ended m t s a b le e g = record {
      modify =
          g.modify ∙ sym (or_false (nat_lt t b.modify)) ∙ ap (λ (x : Bool). nat_lt t b.modify || x) (sym no_handed)
          ∙ sym (below_greater t b.modify (handed_bound s (n s.cap.name) (made s.cap.name)));
      unconf =
          g.unconf ∙ sym (or_false (nat_lt t b.unconf)) ∙ ap (λ (x : Bool). nat_lt t b.unconf || x) (sym no_entry)
          ∙ sym (below_greater t b.unconf (entry_bound s (n s.cap.name)));
    }
      where
        and_false : (x : Bool) → (x && false) ≡ false
        and_false true = refl
        and_false false = refl

        no_entry : nat_lt t (entry_bound s (n s.cap.name)) ≡ false
        no_entry = below_entry t s (n s.cap.name) ∙ ap (λ (x : Bool). x && is_good (arrived_by (later t s.from) s.cap) (n s.cap.name)) (ended_at m t s le e)

        no_handed : nat_lt t (handed_bound s (n s.cap.name) (made s.cap.name)) ≡ false
        no_handed =
            below_handed t s (n s.cap.name) (made s.cap.name)
            ∙ ap (λ (x : Bool). made s.cap.name && (x && is_good (arrived_whole (later t s.from) s.cap) (n s.cap.name))) (ended_at m t s le e) ∙ and_false (made s.cap.name)

    latest_same : (m t : ℕ) (few all : List Span) (a b : Latest) → m ≤ t → IsThinned m few all → AreGoneOver First told (Some m) all → SameAt t a b
        → SameAt t (latest_from made l a few) (latest_from made n b all)
    latest_same m t few [] a b le thin h g = subst (λ (xs : List Span). SameAt t (latest_from made l a xs) b) (sym thin) g
    latest_same m t few (s ∷ all) a b le (inl ended) h g =
        latest_same m t few all a (raised made n b s) le ended.1 h.1 (raised_ended m t s a b le ended.0 g)
    latest_same m t few (s ∷ all) a b le (inr kept) h g =
        subst (λ (xs : List Span). SameAt t (latest_from made l a xs) (latest_from made n (raised made n b s) all)) (sym kept.1.0)
        (latest_same m t kept.0 all (raised made l a s) (raised made n b s) le kept.1.1 h.1 (raised_same m t s a b le (leads_on m s h.0) g))

    -- ---- the first hop

    over_same : (m : ℕ) (from : Arrived) (s : Span) → m ≤ from.moment → LeadsOn m s → onward_over made l from s ≡ onward_over made n from s
    over_same m from s le h = rw (by_entry, by_handed) refl
      where
        by_entry : entry_onward from s (l s.cap.name) ≡ entry_onward from s (n s.cap.name)
        by_entry =
            ap (λ (b : Bool). cond (from.unconf && b) (Some (record { hop = hop_by.Entry s.index (later from.moment s.from); to = arrived_by (later from.moment s.from) s.cap })) None)
            (and_same (nat_lt (later from.moment s.from) s.until) _ _
            (λ e. good_same (arrived_by (later from.moment s.from) s.cap) (l s.cap.name) (n s.cap.name) (there_same m from.moment s le h e)))

        by_handed : handed_onward from s (l s.cap.name) (made s.cap.name) ≡ handed_onward from s (n s.cap.name) (made s.cap.name)
        by_handed =
            ap (λ (b : Bool).
            cond (from.modify && (made s.cap.name && b)) (Some (record { hop = hop_by.Handed s.index (later from.moment s.from); to = arrived_whole (later from.moment s.from) s.cap })) None)
            (and_same (nat_lt (later from.moment s.from) s.until) _ _
            (λ e. good_same (arrived_whole (later from.moment s.from) s.cap) (l s.cap.name) (n s.cap.name) (there_same m from.moment s le h e)))

    -- no hop goes over what has ended
    over_ended : (m : ℕ) (from : Arrived) (s : Span) → m ≤ from.moment → nat_lt m s.until ≡ false → onward_over made n from s ≡ None
    over_ended m from s le e = rw (by_entry, by_handed) refl
      where
        no_and : (x y : Bool) → (x && (false && y)) ≡ false
        no_and true y = refl
        no_and false y = refl

        no_two : (x z y : Bool) → (x && (z && (false && y))) ≡ false
        no_two true z y = no_and z y
        no_two false z y = refl

        by_entry : entry_onward from s (n s.cap.name) ≡ None
        by_entry =
            ap (λ (b : Bool).
            cond (from.unconf && (b && is_good (arrived_by (later from.moment s.from) s.cap) (n s.cap.name)))
            (Some (record { hop = hop_by.Entry s.index (later from.moment s.from); to = arrived_by (later from.moment s.from) s.cap })) None) (ended_at m from.moment s le e)
            ∙ ap (λ (b : Bool). cond b (Some (record { hop = hop_by.Entry s.index (later from.moment s.from); to = arrived_by (later from.moment s.from) s.cap })) None)
            (no_and from.unconf (is_good (arrived_by (later from.moment s.from) s.cap) (n s.cap.name)))

        by_handed : handed_onward from s (n s.cap.name) (made s.cap.name) ≡ None
        by_handed =
            ap (λ (b : Bool).
            cond (from.modify && (made s.cap.name && (b && is_good (arrived_whole (later from.moment s.from) s.cap) (n s.cap.name))))
            (Some (record { hop = hop_by.Handed s.index (later from.moment s.from); to = arrived_whole (later from.moment s.from) s.cap })) None) (ended_at m from.moment s le e)
            ∙ ap (λ (b : Bool). cond b (Some (record { hop = hop_by.Handed s.index (later from.moment s.from); to = arrived_whole (later from.moment s.from) s.cap })) None)
            (no_two from.modify (made s.cap.name) (is_good (arrived_whole (later from.moment s.from) s.cap) (n s.cap.name)))

    earlier_none : (a : Option Onward) → earlier a None ≡ a
    earlier_none None = refl
    earlier_none (Some a) = refl

    first_same : (m : ℕ) (from : Arrived) (few all : List Span) (first : Option Onward) → m ≤ from.moment → IsThinned m few all → AreGoneOver First told (Some m) all
        → first_from made l from first few ≡ first_from made n from first all
    first_same m from few [] first le thin h = ap (first_from made l from first) thin
    first_same m from few (s ∷ all) first le (inl ended) h =
        first_same m from few all first le ended.1 h.1
        ∙ ap (λ (o : Option Onward). first_from made n from o all) (sym (ap (earlier first) (over_ended m from s le ended.0) ∙ earlier_none first))
    first_same m from few (s ∷ all) first le (inr kept) h =
        ap (first_from made l from first) kept.1.0
        ∙ ap (λ (o : Option Onward). first_from made l from (earlier first o) kept.0) (over_same m from s le (leads_on m s h.0))
        ∙ first_same m from kept.0 all (earlier first (onward_over made n from s)) le kept.1.1 h.1

  -- ---- lists by lists

  module _ (few all : List History) (thin : (x : Name) → IsThinnedBy (told x) (history_of few x).spans (history_of all x).spans)
      (closed : (x : Name) → AreGoneOver First told (told x) (history_of all x).spans) where
    pub next_same : (l n : Name → Latest) → Agree told l n → Agree told (next_latest made few l) (next_latest made all n)
    next_same l n agree x t h = by (told x) h (thin x) (closed x)
      where
        by : (o : Option ℕ) → IsBy o t → IsThinnedBy o (history_of few x).spans (history_of all x).spans → AreGoneOver First told o (history_of all x).spans
            → SameAt t (next_latest made few l x) (next_latest made all n x)
        by None g f c = absurd g
        by (Some m) g f c = latest_same l n agree m t (history_of few x).spans (history_of all x).spans no_latest no_latest g f c (same_at t no_latest)

    pub onward_same : (l n : Name → Latest) → Agree told l n → (from : Arrived) → IsBy (told from.name) from.moment → first_onward made few l from ≡ first_onward made all n from
    onward_same l n agree from h = by (told from.name) h (thin from.name) (closed from.name)
      where
        by : (o : Option ℕ) → IsBy o from.moment → IsThinnedBy o (history_of few from.name).spans (history_of all from.name).spans
            → AreGoneOver First told o (history_of all from.name).spans → first_onward made few l from ≡ first_onward made all n from
        by None g f c = absurd g
        by (Some m) g f c = first_same l n agree m from (history_of few from.name).spans (history_of all from.name).spans None g f c

    pub onward_leads : (n : Name → Latest) (from : Arrived) → IsBy (told from.name) from.moment → LeadsTo (first_onward made all n from)
    onward_leads n from h = by (told from.name) h (closed from.name)
      where
        by : (o : Option ℕ) → IsBy o from.moment → AreGoneOver First told o (history_of all from.name).spans → LeadsTo (first_onward made all n from)
        by None g c = absurd g
        by (Some m) g c = first_leads n m from None (history_of all from.name).spans g c tt

    -- ---- from parameters

    module _ (k : ℕ) where
      at_same : (l n : Name → Latest) → Agree told l n → (o : Option Cap) → IsHeldBy told k o
          → option_and_then (λ (cap : Cap). first_onward made few l (arrived_by k cap)) o ≡ option_and_then (λ (cap : Cap). first_onward made all n (arrived_by k cap)) o
      at_same l n agree None h = refl
      at_same l n agree (Some cap) h = onward_same l n agree (arrived_by k cap) h

      at_leads : (n : Name → Latest) (o : Option Cap) → IsHeldBy told k o → LeadsTo (option_and_then (λ (cap : Cap). first_onward made all n (arrived_by k cap)) o)
      at_leads n None h = tt
      at_leads n (Some cap) h = onward_leads n (arrived_by k cap) h

      abbrev chosen : ℕ → Option Onward → Option Start → Option Start
      chosen index o rest = elim o as (λ y. Option Start) [ Some onward ↦ Some (record { arg = index; onward = onward }) | None ↦ rest ]

      pub start_same : (l n : Name → Latest) → Agree told l n → (index : ℕ) (params : List (Option Cap)) → AreHeldBy told k params
          → first_start made few k l index params ≡ first_start made all k n index params
      start_same l n agree index [] h = refl
      start_same l n agree index (e ∷ params) h =
          ap (λ (o : Option Onward). chosen index o (first_start made few k l (index + 1) params)) (at_same l n agree e h.0)
          ∙ ap (chosen index (onward_at made all k n e)) (start_same l n agree (index + 1) params h.1)

      abbrev pub StartsThere : Option Start → Type 0
      StartsThere None = Unit {0}
      StartsThere (Some start) = IsBy (told start.onward.to.name) start.onward.to.moment

      pub start_leads : (n : Name → Latest) (index : ℕ) (params : List (Option Cap)) → AreHeldBy told k params → StartsThere (first_start made all k n index params)
      start_leads n index [] h = tt
      start_leads n index (e ∷ params) h = by (start_leads n (index + 1) params h.1) (onward_at made all k n e) (at_leads n e h.0)
        where
          by : StartsThere (first_start made all k n (index + 1) params) → (o : Option Onward) → LeadsTo o
              → StartsThere (chosen index o (first_start made all k n (index + 1) params))
          by more None g = more
          by more (Some onward) g = g

    -- ---- a whole search

    module _ (wanted : Name) (before k : ℕ) where
      abbrev by_few : ℕ → Name → Latest
      by_few = level_at made few wanted before

      abbrev by_all : ℕ → Name → Latest
      by_all = level_at made all wanted before

      levels_same : (n : ℕ) → Agree told (by_few n) (by_all n)
      levels_same zero x t h = same_at t (by_all 0 x)
      levels_same (suc n) x t h = next_same (by_few n) (by_all n) (levels_same n) x t h

      hops_same : (n : ℕ) (from : Arrived) → IsBy (told from.name) from.moment → hops_down made few wanted before n from ≡ hops_down made all wanted before n from
      hops_same zero from h = refl
      hops_same (suc n) from h =
          ap (λ (o : Option Onward). elim o as (λ y. List Hop) [ None ↦ [] | Some onward ↦ onward.hop ∷ hops_down made few wanted before n onward.to ])
          (onward_same (by_few n) (by_all n) (levels_same n) from h)
          ∙ by (hops_same n) (first_onward made all (by_all n) from) (onward_leads (by_all n) from h)
        where
          by : ((to : Arrived) → IsBy (told to.name) to.moment → hops_down made few wanted before n to ≡ hops_down made all wanted before n to) → (o : Option Onward) → LeadsTo o
              → ◌≡◌ {A = List Hop} (elim o as (λ y. List Hop) [ None ↦ [] | Some onward ↦ onward.hop ∷ hops_down made few wanted before n onward.to ])
              (elim o as (λ y. List Hop) [ None ↦ [] | Some onward ↦ onward.hop ∷ hops_down made all wanted before n onward.to ])
          by more None g = refl
          by more (Some onward) g = ap (λ (hops : List Hop). onward.hop ∷ hops) (more onward.to g)

      behind_same : (params : List (Option Cap)) (reach : Reach) → AreHeldBy told k params → IsFoundBehind made few wanted before k params reach
          → IsFoundBehind made all wanted before k params reach
      behind_same params reach h f = record {
        left = f.left;
        start = f.start;
        starts = starts;
        fewest = λ less l. sym (start_same k (by_few less) (by_all less) (levels_same less) 0 params h) ∙ f.fewest less l;
        is = f.is ∙ ap (λ (hops : List Hop). Param f.start.arg (f.start.onward.hop ∷ hops)) (hops_same f.left f.start.onward.to (subst (StartsThere k) starts (start_leads k (by_all f.left) 0 params h)));
      }
        where
          starts : first_start made all k (by_all f.left) 0 params ≡ Some f.start
          starts = sym (start_same k (by_few f.left) (by_all f.left) (levels_same f.left) 0 params h) ∙ f.starts

      pub found_same : (params : List (Option Cap)) (reach : Reach) → AreHeldBy told k params → IsFound made few wanted before k params reach → IsFound made all wanted before k params reach
      found_same params reach h f = by (direct_param wanted 0 params) f
        where
          by : (o : Option ℕ) → IsFoundBy made few wanted before k params reach o → IsFoundBy made all wanted before k params reach o
          by (Some arg) g = g
          by None g = behind_same params reach h g

-- ---- by the last moments at which calls can begin that come to objects

by_is : (o : Option ℕ) (m : ℕ) → IsBy o m → is_by o m ≡ true
by_is None m h = absurd h
by_is (Some x) m h = le-leb x m h

later_within : (a b c : ℕ) → a ≤ c → b ≤ c → later a b ≤ c
later_within a b c g h = by (nat_lt a b)
  where
    by : (o : Bool) → cond o b a ≤ c
    by true = h
    by false = g

module _ (lasts : Name → Option ℕ) (k : ℕ) where
  comes_by : (x : Name) (b : Bool) → can_come lasts k x ≡ b → comes_at lasts k x ≡ cond b (Some k) None
  comes_by x b e = ap (λ (c : Bool). cond c (Some k) None) e

  comes_then : (x : Name) (t : ℕ) → k ≤ t → IsBy (lasts x) (from_end k) → IsBy (comes_at lasts k x) t
  comes_then x t l h = subst (λ (o : Option ℕ). IsBy o t) (sym (comes_by x true (by_is (lasts x) (from_end k) h))) l

  -- where a way can be, the call can come to
  pub there_comes : (x : Name) (t : ℕ) → IsBy (comes_at lasts k x) t → can_come lasts k x ≡ true
  there_comes x t h = by (can_come lasts k x) refl
    where
      by : (b : Bool) → can_come lasts k x ≡ b → b ≡ true
      by true e = refl
      by false e = absurd (subst (λ (o : Option ℕ). IsBy o t) (comes_by x false e) h)

  pub held_comes : (params : List (Option Cap)) → AreHeldBy lasts (from_end k) params → AreHeldBy (comes_at lasts k) k params
  held_comes [] h = tt
  held_comes (e ∷ params) h = (by e h.0, held_comes params h.1)
    where
      by : (o : Option Cap) → IsHeldBy lasts (from_end k) o → IsHeldBy (comes_at lasts k) k o
      by None g = tt
      by (Some cap) g = let here : k ≤ k = omega arith in comes_then cap.name k here g

  goes_on_then : (at : Option ℕ) (s : Span) → IsBy at (from_end k) → IsByThen (lasts s.cap.name) (goes_on Last at s)
      → IsByThen (comes_at lasts k s.cap.name) (goes_on First (Some k) s)
  goes_on_then None s g h = absurd g
  goes_on_then (Some m) s g h = by (nat_lt k s.until) refl
    where
      by : (b : Bool) → nat_lt k s.until ≡ b → IsByThen (comes_at lasts k s.cap.name) (cond b (Some (later k s.from)) None)
      by false e = tt
      by true e =
          let l = ltb-true k s.until e in
          let left : from_end s.until ≤ from_end k = omega (arith, l) in
          comes_then s.cap.name (later k s.from) (later_from k s.from)
          (by_later (lasts s.cap.name) (later m (from_end s.until)) (from_end k) h (later_within m (from_end s.until) (from_end k) g left))

  module _ (histories : List History) (closed : IsClosed Last histories lasts) where
    all_then : (at : Option ℕ) (spans : List Span) → IsBy at (from_end k) → AreGoneOver Last lasts at spans → AreGoneOver First (comes_at lasts k) (Some k) spans
    all_then at [] g h = tt
    all_then at (s ∷ spans) g h = (goes_on_then at s g h.0, all_then at spans g h.1)

    none_over : (spans : List Span) → AreGoneOver First (comes_at lasts k) None spans
    none_over [] = tt
    none_over (s ∷ spans) = (tt, none_over spans)

    pub comes_closed : (x : Name) → AreGoneOver First (comes_at lasts k) (comes_at lasts k x) (history_of histories x).spans
    comes_closed x = by (can_come lasts k x) refl
      where
        by : (b : Bool) → can_come lasts k x ≡ b → AreGoneOver First (comes_at lasts k) (comes_at lasts k x) (history_of histories x).spans
        by true e =
            subst (λ (o : Option ℕ). AreGoneOver First (comes_at lasts k) o (history_of histories x).spans) (sym (comes_by x true e))
            (all_then (lasts x) (history_of histories x).spans (by_true (lasts x) (from_end k) e) (closed x))
        by false e =
            subst (λ (o : Option ℕ). AreGoneOver First (comes_at lasts k) o (history_of histories x).spans) (sym (comes_by x false e)) (none_over (history_of histories x).spans)

    pub comes_thin : (x : Name) → IsThinnedBy (comes_at lasts k x) (history_of histories x).spans (history_of histories x).spans
    comes_thin x = by (comes_at lasts k x)
      where
        by : (o : Option ℕ) → IsThinnedBy o (history_of histories x).spans (history_of histories x).spans
        by None = tt
        by (Some m) = thinned_none m (history_of histories x).spans

    -- levels that are the same where the call can come to
    pub agree_live : (l n : Name → Latest) → ((x : Name) → can_come lasts k x ≡ true → l x ≡ n x) → Agree (comes_at lasts k) l n
    agree_live l n same x t h = subst (λ (y : Latest). SameAt t (l x) y) (same x (there_comes x t h)) (same_at t (l x))

    pub agree_through : (l n p : Name → Latest) → Agree (comes_at lasts k) l n → Agree (comes_at lasts k) n p → Agree (comes_at lasts k) l p
    agree_through l n p f g x t h =
        let a = f x t h in
        let b = g x t h in
        record { modify = a.modify ∙ b.modify; unconf = a.unconf ∙ b.unconf }

    pub agree_next : (made : Name → Bool) (l n : Name → Latest) → Agree (comes_at lasts k) l n → Agree (comes_at lasts k) (next_latest made histories l) (next_latest made histories n)
    agree_next made l n agree = next_same made (comes_at lasts k) histories histories comes_thin comes_closed l n agree
