-- The first way that is kept for an object is the least reach.
use Rattle.std.proofs.Common.{◌≡◌, ℕ, zero, suc, ◌+◌, ◌<◌, ◌≤◌, List, [], ◌∷◌, ◌++◌, Bool, true, false, Option, Some, None, refl, sym, ◌∙◌, ap, arith, cond, subst, slice_get, append_assoc, append-nil}
use Rattle.std.proofs.Common.{option_and_then, option_map}
use Rattle.std.specs.Prelude.{◌&&◌, ◌||◌, not, nat_lt, nat_le, IsTrue, map}
use Rattle.std.specs.Cmp.{first_so, second_so}
use Rattle.std.proofs.lemmas.Bool.{true≢false, lt-ltb, leb-true}
use Rattle.hk_model.specs.declared.names.Name.{Name}
use Rattle.hk_model.specs.declared.entries.Cap.{Cap}
use Rattle.hk_model.specs.declared.entries.Entry.{Entry}
use Rattle.hk_model.specs.declared.reaches.Hop.{Hop}
use Rattle.hk_model.specs.declared.reaches.Hop.TheVariants as hop_by
use Rattle.hk_model.specs.declared.reaches.Reach.{Reach}
use Rattle.hk_model.specs.declared.reaches.Reach.TheVariants.{Param}
use Rattle.hk_model.specs.State.{State}
use Rattle.hk_model.specs.Keeping.{stands}
use Rattle.hk_model.specs.Places.{cap_of}
use Rattle.hk_model.specs.Reaches.{Reached, reached_by, handed_over, listed_cap, hop_to, follow, param_reached, IsReach}
use Rattle.hk_model.specs.Changes.{reach_key, is_at_most, IsLeastReach}
use Rattle.hk_model.proofs.Members.{has_from}
use Rattle.hk_report.specs.declared.histories.Span.{Span}
use Rattle.hk_report.specs.declared.histories.History.{History}
use Rattle.hk_report.specs.declared.hops.Arrived.{Arrived}
use Rattle.hk_report.specs.declared.hops.Latest.{Latest}
use Rattle.hk_report.specs.declared.hops.Onward.{Onward}
use Rattle.hk_report.specs.declared.ways.Way.{Way}
use Rattle.hk_report.specs.Histories.{history_of}
use Rattle.hk_report.specs.Hops.{later, arrived_by, arrived_whole, no_latest}
use Rattle.hk_report.specs.Fronts.{stands_for, hop_at, there_by, goes_over, hop_over, comes_by, longer, way_from, is_there, first_there, ways_at, IsMetBy, IsMet, IsMetOnward}
use Rattle.hk_report.specs.Fronts.{AreMetOver, IsStarted, AreStarted, IsOnward, Lead, IsWay, AreFronts, IsKeptFirst}
use Rattle.hk_report.proofs.Keys.{sooner}
use Rattle.hk_report.proofs.Spans.{Stood, SpanAt, SpansTell, all_has}
use Rattle.hk_report.proofs.Onwards.{reached, arrived, and_yes, chosen, later_first, later_most, span_holds, by_then, hop_entry, hop_handed, HopShown}
use Rattle.hk_report.proofs.Onwards.{hop_shown, to_moment, follow_later}
use Rattle.hk_report.proofs.FrontOrder.{reach_longer, option_same, found_all, there_later, met_then, met_later}

-- ---- parameters

-- the capability of a parameter, as the ways are given it, and as the definitions tell of it
held_param : (params : List Entry) (place : ℕ) (cap : Cap) → slice_get (map cap_of params) place ≡ Some (Some cap)
    → option_and_then cap_of (slice_get params place) ≡ Some cap
held_param [] place cap h = absurd (cc)
held_param (entry ∷ params) zero cap h = option_same h
held_param (entry ∷ params) (suc place) cap h = held_param params place cap h

param_is : (k : ℕ) (o : Option Entry) (cap : Cap) → option_and_then cap_of o ≡ Some cap
    → option_and_then (λ entry. option_map (reached_by k) (cap_of entry)) o ≡ Some (reached_by k cap)
param_is k None cap h = absurd (cc)
param_is k (Some entry) cap h = ap (option_map (reached_by k)) h

module _ (at : ℕ → State) (made : Name → Bool) (k : ℕ) (params : List Entry) where
  -- a reach is of a parameter, and hops from there
  record Parted (other : ℕ) (others : List Hop) (there : Reached) : Type 0 where
    cap : Cap
    held : option_and_then cap_of (slice_get params other) ≡ Some cap
    leads : follow at made others (reached_by k cap) ≡ Some there

  parted : (other : ℕ) (others : List Hop) (there : Reached) → option_and_then (follow at made others) (param_reached params k other) ≡ Some there → Parted other others there
  parted other others there h = by (slice_get params other) refl h
    where
      held_by : (entry : Entry) → slice_get params other ≡ Some entry → (o : Option Cap) → cap_of entry ≡ o
          → option_and_then (follow at made others) (option_map (reached_by k) o) ≡ Some there → Parted other others there
      held_by entry e None f g = absurd (cc)
      held_by entry e (Some cap) f g = record { cap = cap; held = ap (option_and_then cap_of) e ∙ f; leads = g }

      by : (o : Option Entry) → slice_get params other ≡ o
          → option_and_then (follow at made others) (option_and_then (λ entry. option_map (reached_by k) (cap_of entry)) o) ≡ Some there → Parted other others there
      by None e g = absurd (cc)
      by (Some entry) e g = held_by entry e (cap_of entry) refl g

-- ---- what is kept meets ways

-- the way of no hop from a parameter is met
started_at : (fronts : List (List Way)) (k index : ℕ) (params : List Entry) → AreStarted fronts k index (map cap_of params) → (place : ℕ) (cap : Cap)
    → option_and_then cap_of (slice_get params place) ≡ Some cap → IsMet fronts (way_from k (index + place) cap)
started_at fronts k index [] h place cap e = absurd (cc)
started_at fronts k index (entry ∷ params) h zero cap e =
    subst (λ (n : ℕ). IsMet fronts (way_from k n cap)) (omega arith) (subst (IsStarted fronts k index) e h.0)
started_at fronts k index (entry ∷ params) h (suc place) cap e =
    subst (λ (n : ℕ). IsMet fronts (way_from k n cap)) (omega arith) (started_at fronts k (index + 1) params h.1 place cap e)

-- the first way that is there at a moment, by which another is met, and what is known of a hop behind it over a span
record FirstOver (fronts : List (List Way)) (kind made : Bool) (span : Span) (m : ℕ) (way : Way) : Type 0 where
  first : Way
  passes : is_there kind m first ≡ true
  before : comes_by first way ≡ true
  over : IsMetOnward fronts first (hop_over kind made first.to span)

first_over : (fronts : List (List Way)) (kind made : Bool) (span : Span) (m : ℕ) (way : Way) (ways : List Way) → span.from ≤ m → AreMetOver fronts kind made span ways
    → IsMetBy way (first_there kind m ways) → FirstOver fronts kind made span m way
first_over fronts kind made span m way [] l over h = absurd h
first_over fronts kind made span m way (a ∷ ways) l over h = by (first_over fronts kind made span m way ways l) (is_there kind m a) refl h
  where
    not_before : is_there kind m a ≡ false → (b : Bool) → is_there kind span.from a ≡ b → b ≡ false
    not_before e true f = absurd (true≢false (sym (there_later kind span.from m a l f) ∙ e))
    not_before e false f = refl

    by : (AreMetOver fronts kind made span ways → IsMetBy way (first_there kind m ways) → FirstOver fronts kind made span m way) → (o : Bool) → is_there kind m a ≡ o
        → IsMetBy way (cond o (Some a) (first_there kind m ways)) → FirstOver fronts kind made span m way
    by rest true e g = record { first = a; passes = e; before = g; over = over.0 }
    by rest false e g = rest (over.1 (not_before e (is_there kind span.from a) refl)) g

-- the hop of a kind over a span at its first moment
abbrev hop_now : Bool → Arrived → Span → Onward
hop_now kind from span = record { hop = hop_at kind span.index (later from.moment span.from); to = there_by kind (later from.moment span.from) span.cap }

-- where a hop of a kind can be made, and what is so where it is
hop_goes : (kind made : Bool) (from : Arrived) (span : Span) → stands_for kind from ≡ true → (not kind || made) ≡ true → later from.moment span.from < span.until
    → hop_over kind made from span ≡ Some (hop_now kind from span)
hop_goes kind made from span h g l =
    ap (λ (b : Bool). cond b (Some (hop_now kind from span)) None)
    (and_yes (stands_for kind from) ((not kind || made) && nat_lt (later from.moment span.from) span.until) h
    (and_yes (not kind || made) (nat_lt (later from.moment span.from) span.until) g (lt-ltb (later from.moment span.from) span.until l)))

goes_shown : (kind made : Bool) (from : Arrived) (span : Span) (o : Onward) → hop_over kind made from span ≡ Some o
    → (stands_for kind from ≡ true) × ((not kind || made) ≡ true) × (nat_lt (later from.moment span.from) span.until ≡ true) × (hop_now kind from span ≡ o)
goes_shown kind made from span o h =
    let c = chosen (goes_over kind made from span) (hop_now kind from span) o h in
    let r = second_so (stands_for kind from) ((not kind || made) && nat_lt (later from.moment span.from) span.until) c.0 in (
      first_so (stands_for kind from) ((not kind || made) && nat_lt (later from.moment span.from) span.until) c.0,
      first_so (not kind || made) (nat_lt (later from.moment span.from) span.until) r,
      second_so (not kind || made) (nat_lt (later from.moment span.from) span.until) r,
      c.1,
    )

module _ (at : ℕ → State) (made test : Name → Bool) (test_is : (x : Name) → test x ≡ made x) (histories : List History) (end : ℕ)
    (tells : (x : Name) → SpansTell at end x (history_of histories x).spans)
    (named : (m index : ℕ) (x : Name) (cap : Cap) → m ≤ end → listed_cap (at m) x index ≡ Some cap → stands (at m) cap.name ≡ true) where
  -- ---- kept ways are reaches

  -- a hop leads to an object that stands
  record Goes (from : Arrived) (o : Onward) : Type 0 where
    leads : hop_to at made o.hop (reached from) ≡ Some (reached o.to)
    there : stands (at o.to.moment) o.to.name ≡ true
    by_end : o.to.moment ≤ end

  module _ (from : Arrived) (by_end : from.moment ≤ end) (there : stands (at from.moment) from.name ≡ true) where
    abbrev nothing : Name → Latest
    nothing name = no_latest

    -- a hop over a span goes, and so does each that a lead has
    goes_now : (kind : Bool) (span : Span) → Stood at end from.name span → stands_for kind from ≡ true → (not kind || test span.cap.name) ≡ true
        → nat_lt (later from.moment span.from) span.until ≡ true → Goes from (hop_now kind from span)
    goes_now true span stood a b before =
        let held = span_holds at made test test_is histories end tells named nothing from by_end there span stood before in
        let m = later from.moment span.from in
        let in_time = by_then at made test test_is histories end tells named nothing from by_end there span stood in
        record {
          leads =
              hop_handed at made test test_is histories end tells named nothing from by_end there span.index m span.cap a (sym (test_is span.cap.name) ∙ b) held
              (later_first from.moment span.from);
          there = named m span.index from.name span.cap in_time held;
          by_end = in_time;
        }
    goes_now false span stood a b before =
        let held = span_holds at made test test_is histories end tells named nothing from by_end there span stood before in
        let m = later from.moment span.from in
        let in_time = by_then at made test test_is histories end tells named nothing from by_end there span stood in
        record {
          leads = hop_entry at made test test_is histories end tells named nothing from by_end there span.index m span.cap a held (later_first from.moment span.from);
          there = named m span.index from.name span.cap in_time held;
          by_end = in_time;
        }

    onward_goes : (o : Onward) → IsOnward test histories from o → Goes from o
    onward_goes o on =
        let shown = goes_shown on.handed (test on.span.cap.name) from on.span o on.goes in
        let stood = all_has (Stood at end from.name) (history_of histories from.name).spans on.span (tells from.name).sound
        (has_from (history_of histories from.name).spans on.span on.is) in
        subst (Goes from) shown.3 (goes_now on.handed on.span stood shown.0 shown.1 shown.2)

  -- the definitions follow a lead to where it comes
  lead_follows : (hops : List Hop) (from to : Arrived) → from.moment ≤ end → stands (at from.moment) from.name ≡ true → Lead test histories hops from to
      → follow at made hops (reached from) ≡ Some (reached to)
  lead_follows [] from to by_end there h = ap (λ (a : Arrived). Some (reached a)) h
  lead_follows (hop ∷ hops) from to by_end there h =
      let goes = onward_goes from by_end there (record { hop = hop; to = h.0 }) h.1.0 in
      ap (option_and_then (follow at made hops)) goes.leads ∙ lead_follows hops h.0 to goes.by_end goes.there h.1.1

  module _ (k : ℕ) (begun : k ≤ end) (params : List Entry)
      (params_stand : (place : ℕ) (cap : Cap) → option_and_then cap_of (slice_get params place) ≡ Some cap → stands (at k) cap.name ≡ true) where
    -- a way that is there is a reach
    kept_reach : (wanted : Name) (last : ℕ) (way : Way) → IsWay test histories k (map cap_of params) wanted way → is_there true last way ≡ true
        → IsReach at made params k (λ there. there.modify) last wanted way.arg way.hops
    kept_reach wanted last way is h =
        let held = held_param params way.arg is.cap is.held in
        record {
          there = reached way.to;
          leads =
              ap (option_and_then (follow at made way.hops)) (param_is k (slice_get params way.arg) is.cap held)
              ∙ lead_follows way.hops (arrived_by k is.cap) way.to begun (params_stand way.arg is.cap held) is.leads;
          same = is.named;
          good = first_so way.to.modify (nat_le way.to.moment last) h;
          by_then = leb-true way.to.moment last (second_so way.to.modify (nat_le way.to.moment last) h);
        }

    module _ (fronts : List (List Way)) (are : AreFronts test histories k (map cap_of params) fronts) where
      -- ---- each way is met

      -- a way to the same object, where it stands good for no more, comes no sooner and comes behind it in the order
      met_more : (a b : Way) → IsMet fronts a → a.to.name ≡ b.to.name → a.to.moment ≤ b.to.moment
          → ((handed : Bool) → stands_for handed b.to ≡ true → stands_for handed a.to ≡ true) → comes_by a b ≡ true → IsMet fronts b
      met_more a b met same early flags before handed good =
          subst (λ (n : Name). IsMetBy b (first_there handed b.to.moment (ways_at fronts n))) same
          (met_then a b (first_there handed b.to.moment (ways_at fronts a.to.name)) before
          (met_later handed a.to.moment b.to.moment a (ways_at fronts a.to.name) early (are.rising a.to.name) (met handed (flags handed good))))

      -- a way with a hop more, where that hop is made behind the first way that is there
      module _ (way : Way) (index m : ℕ) (cap : Cap) (told : SpanAt (history_of histories way.to.name).spans m index cap) where
        kind_met : (kind : Bool) (first : Way) → later first.to.moment told.span.from ≤ m → comes_by first way ≡ true
            → IsMet fronts (longer first (hop_now kind first.to told.span))
            → IsMet fronts (longer way (record { hop = hop_at kind index m; to = there_by kind m cap }))
        kind_met true first early before met =
            met_more (longer first (hop_now true first.to told.span)) (longer way (record { hop = hop_by.Handed index m; to = arrived_whole m cap })) met
            (ap (λ (c : Cap). c.name) told.cap_is) early (λ handed good. good)
            (reach_longer first.arg way.arg first.hops way.hops (hop_by.Handed told.span.index (later first.to.moment told.span.from)) (hop_by.Handed index m) before
            (sooner (hop_by.Handed told.span.index (later first.to.moment told.span.from)) (hop_by.Handed index m) early told.index_is refl))
        kind_met false first early before met =
            met_more (longer first (hop_now false first.to told.span)) (longer way (record { hop = hop_by.Entry index m; to = arrived_by m cap })) met
            (ap (λ (c : Cap). c.name) told.cap_is) early (λ handed good. subst (λ (c : Cap). stands_for handed (arrived_by m c) ≡ true) (sym told.cap_is) good)
            (reach_longer first.arg way.arg first.hops way.hops (hop_by.Entry told.span.index (later first.to.moment told.span.from)) (hop_by.Entry index m) before
            (sooner (hop_by.Entry told.span.index (later first.to.moment told.span.from)) (hop_by.Entry index m) early told.index_is refl))

        met_over : (kind : Bool) → IsMetBy way (first_there kind m (ways_at fronts way.to.name)) → (not kind || test cap.name) ≡ true
            → IsMet fronts (longer way (record { hop = hop_at kind index m; to = there_by kind m cap }))
        met_over kind met made_so = kind_met kind first.first early first.before (subst (IsMetOnward fronts first.first) hop_is first.over)
          where
            first : FirstOver fronts kind (test told.span.cap.name) told.span m way
            first =
                first_over fronts kind (test told.span.cap.name) told.span m way (ways_at fronts way.to.name) told.from
                (all_has (λ (span : Span). (handed : Bool) → AreMetOver fronts handed (test span.cap.name) span (ways_at fronts way.to.name))
                (history_of histories way.to.name).spans told.span (are.closed way.to.name) told.is kind)
                met

            early : later first.first.to.moment told.span.from ≤ m
            early =
                later_most first.first.to.moment told.span.from m
                (leb-true first.first.to.moment m (second_so (stands_for kind first.first.to) (nat_le first.first.to.moment m) first.passes)) told.from

            hop_is : hop_over kind (test told.span.cap.name) first.first.to told.span ≡ Some (hop_now kind first.first.to told.span)
            hop_is =
                hop_goes kind (test told.span.cap.name) first.first.to told.span (first_so (stands_for kind first.first.to) (nat_le first.first.to.moment m) first.passes)
                (subst (λ (c : Cap). (not kind || test c.name) ≡ true) (sym told.cap_is) made_so) (let u = told.until in omega (arith, early, u))

      -- a way that is met, with a hop more, and with more of them
      met_at : (way : Way) → IsMet fronts way → (kind : Bool) (m : ℕ) → way.to.moment ≤ m → stands_for kind way.to ≡ true
          → IsMetBy way (first_there kind m (ways_at fronts way.to.name))
      met_at way met kind m late good = met_later kind way.to.moment m way (ways_at fronts way.to.name) late (are.rising way.to.name) (met kind good)

      met_onward : (way : Way) (hop : Hop) (to : Reached) → IsMet fronts way → hop_to at made hop (reached way.to) ≡ Some to → to.moment ≤ end
          → IsMet fronts (longer way (record { hop = hop; to = arrived to }))
      met_onward way hop to met h by_end = by hop (hop_shown at made test test_is histories end tells named (reached way.to) hop to h)
        where
          by : (x : Hop) → HopShown at made test test_is histories end tells named (reached way.to) x to → IsMet fronts (longer way (record { hop = x; to = arrived to }))
          by (hop_by.Entry index m) s =
              let at_end = subst (λ (n : ℕ). n ≤ end) (to_moment at made test test_is histories end tells named (reached way.to) (hop_by.Entry index m) to s.cap s.onward_is) by_end in
              let found = chosen way.to.unconf (reached_by m s.cap) to s.onward_is in
              subst (λ (r : Reached). IsMet fronts (longer way (record { hop = hop_by.Entry index m; to = arrived r }))) found.1
              (met_over way index m s.cap ((tells way.to.name).complete m index s.cap at_end s.listed) false (met_at way met false m s.late found.0) refl)
          by (hop_by.Handed index m) s =
              let at_end = subst (λ (n : ℕ). n ≤ end) (to_moment at made test test_is histories end tells named (reached way.to) (hop_by.Handed index m) to s.cap s.onward_is) by_end in
              let found = chosen (way.to.modify && made s.cap.name) (handed_over m s.cap) to s.onward_is in
              subst (λ (r : Reached). IsMet fronts (longer way (record { hop = hop_by.Handed index m; to = arrived r }))) found.1
              (met_over way index m s.cap ((tells way.to.name).complete m index s.cap at_end s.listed) true
              (met_at way met true m s.late (first_so way.to.modify (made s.cap.name) found.0)) (test_is s.cap.name ∙ second_so way.to.modify (made s.cap.name) found.0))

      met_follow : (hops : List Hop) (way : Way) (there : Reached) → IsMet fronts way → follow at made hops (reached way.to) ≡ Some there → there.moment ≤ end
          → IsMet fronts (record { arg = way.arg; hops = way.hops ++ hops; to = arrived there })
      met_follow [] way there met h by_end =
          let here : reached way.to ≡ there = option_same h in
          subst (λ (r : Reached). IsMet fronts (record { arg = way.arg; hops = way.hops ++ []; to = arrived r })) here
          (subst (λ (xs : List Hop). IsMet fronts (record { arg = way.arg; hops = xs; to = way.to })) (sym (append-nil way.hops)) met)
      met_follow (hop ∷ hops) way there met h by_end = by (λ next m g. met_follow hops next there m g by_end) (hop_to at made hop (reached way.to)) refl h
        where
          by : ((next : Way) → IsMet fronts next → follow at made hops (reached next.to) ≡ Some there
              → IsMet fronts (record { arg = next.arg; hops = next.hops ++ hops; to = arrived there }))
              → (o : Option Reached) → hop_to at made hop (reached way.to) ≡ o → option_and_then (follow at made hops) o ≡ Some there
              → IsMet fronts (record { arg = way.arg; hops = way.hops ++ hop ∷ hops; to = arrived there })
          by rest None e g = absurd (cc)
          by rest (Some to) e g =
              let late = follow_later at made test test_is histories end tells named way.to.name end (omega arith) hops to there g in
              subst (λ (xs : List Hop). IsMet fronts (record { arg = way.arg; hops = xs; to = arrived there })) (append_assoc way.hops (hop ∷ []) hops)
              (rest (longer way (record { hop = hop; to = arrived to })) (met_onward way hop to met e (omega (arith, late, by_end))) g)

      -- ---- the first that is there is the least

      -- no reach comes before it
      first_least : (wanted : Name) (last : ℕ) (first : Way) → last ≤ end → first_there true last (ways_at fronts wanted) ≡ Some first → (other : ℕ) (others : List Hop)
          → IsReach at made params k (λ there. there.modify) last wanted other others → IsTrue (is_at_most (reach_key first.arg first.hops) (reach_key other others))
      first_least wanted last first by_end found other others r =
          subst (IsMetBy way) found
          (subst (λ (n : Name). IsMetBy way (first_there true last (ways_at fronts n))) r.same
          (met_at way (met_follow others (way_from k other parts.cap) r.there start parts.leads by_then_end) true last r.by_then r.good))
        where
          parts : Parted at made k params other others r.there
          parts = parted at made k params other others r.there r.leads

          way : Way
          way = record { arg = other; hops = others; to = arrived r.there }

          by_then_end : r.there.moment ≤ end
          by_then_end = let a = r.by_then in omega (arith, a, by_end)

          start : IsMet fronts (way_from k other parts.cap)
          start = subst (λ (n : ℕ). IsMet fronts (way_from k n parts.cap)) (omega arith) (started_at fronts k 0 params are.started other parts.cap parts.held)

    -- what is kept of an object is the least reach to it
    pub record LeastKept (last : ℕ) (wanted : Name) (reach : Reach) : Type 0 where
      pub arg : ℕ
      pub hops : List Hop
      pub is : reach ≡ Param arg hops
      pub least : IsLeastReach at made params k last wanted arg hops

    pub kept_least : (wanted : Name) (last : ℕ) (reach : Reach) → last ≤ end → IsKeptFirst test histories k (map cap_of params) wanted last reach → LeastKept last wanted reach
    kept_least wanted last reach by_end kept = record {
      arg = first.arg;
      hops = first.hops;
      is = kept.is.2;
      least = record { is = kept_reach wanted last first found.0 found.1; least = first_least kept.fronts kept.are wanted last first by_end kept.is.1 };
    }
      where
        first : Way
        first = kept.is.0

        found : IsWay test histories k (map cap_of params) wanted first × (is_there true last first ≡ true)
        found = found_all (IsWay test histories k (map cap_of params) wanted) (is_there true last) (ways_at kept.fronts wanted) first kept.is.1 (kept.are.sound wanted)
