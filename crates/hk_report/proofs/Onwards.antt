-- Levels tell from where the rest of a way can be made, and going down them gives the first way.
use Rattle.std.proofs.Common.{◌≡◌, ℕ, zero, suc, ◌+◌, ◌≤◌, List, [], ◌∷◌, ◌++◌, length, Bool, true, false, Option, Some, None, refl, sym, ◌∙◌, ap, arith, cond, subst}
use Rattle.std.proofs.Common.{option_and_then}
use Rattle.std.specs.Prelude.{◌&&◌, ◌||◌, ◌==◌, nat_lt, nat_le, is_some, ◌⊎◌}
use mathlib.Core.Logic.{inl, inr}
use Rattle.std.specs.List.{list_any, flat_map}
use Rattle.std.specs.Cmp.{first_so, second_so}
use Rattle.std.proofs.lemmas.Bool.{true≢false, lt-ltb, ltb-true, le-ltb, ltb-false, leb-true, le-leb, eqb-true, eq-eqb}
use Rattle.hk_rights.specs.Rights.{has, modify_right, unconf_right}
use Rattle.hk_model.specs.declared.names.Name.{Name}
use Rattle.hk_model.specs.declared.entries.Cap.{Cap}
use Rattle.hk_model.specs.declared.reaches.Hop.{Hop}
use Rattle.hk_model.specs.declared.reaches.Hop.TheVariants as hop_by
use Rattle.hk_model.specs.State.{State}
use Rattle.hk_model.specs.Keeping.{stands}
use Rattle.hk_model.specs.Reaches.{index_of, moment_of, Reached, reached_by, handed_over, listed_cap, onward, hop_to, follow}
use Rattle.hk_model.specs.Changes.{hop_key, is_at_most}
use Rattle.hk_model.proofs.Members.{Has}
use Rattle.hk_model.proofs.NamesStand.{All}
use Rattle.hk_report.specs.declared.histories.Span.{Span}
use Rattle.hk_report.specs.declared.histories.History.{History}
use Rattle.hk_report.specs.declared.hops.Arrived.{Arrived}
use Rattle.hk_report.specs.declared.hops.Latest.{Latest}
use Rattle.hk_report.specs.declared.hops.Onward.{Onward}
use Rattle.hk_report.specs.Histories.{history_of}
use Rattle.hk_report.specs.Hops.{later, arrived_by, arrived_whole, latest_end, no_latest, ends_before, is_good}
use Rattle.hk_report.specs.Hops.{entry_onward, handed_onward, earlier, onward_over, first_from, next_latest, comes_before}
use Rattle.hk_report.specs.Searches.{first_onward, level_at, hops_down}
use Rattle.hk_report.proofs.Keys.{NotAfter, sooner, not_before, before_then, not_after_then, hop_then}
use Rattle.hk_report.proofs.Bounds.{some_first, good_from}
use Rattle.hk_report.proofs.Spans.{Stood, SpanAt, SpansTell}

-- where a way has come to, as the definitions tell it and as the search does
abbrev pub reached : Arrived → Reached
reached a = record { name = a.name; modify = a.modify; unconf = a.unconf; moment = a.moment }

abbrev pub arrived : Reached → Arrived
arrived r = record { name = r.name; modify = r.modify; unconf = r.unconf; moment = r.moment }

-- what an option may hold
abbrev pub Held : {X : Type 0} → (X → Type 0) → Option X → Type 0
Held P None = Unit {0}
Held P (Some x) = P x

-- ---- tests

pub and_yes : (a b : Bool) → a ≡ true → b ≡ true → (a && b) ≡ true
and_yes true true h g = refl
and_yes true false h g = absurd (true≢false (sym g))
and_yes false b h g = absurd (true≢false (sym h))

or_cases : (a b : Bool) → (a || b) ≡ true → (a ≡ true) ⊎ (b ≡ true)
or_cases true b h = inl refl
or_cases false b h = inr h

or_first : (a b : Bool) → a ≡ true → (a || b) ≡ true
or_first true b h = refl
or_first false b h = absurd (true≢false (sym h))

or_second : (a b : Bool) → b ≡ true → (a || b) ≡ true
or_second true b h = refl
or_second false b h = h

some_is : {X : Type 0} (o : Option X) → is_some o ≡ true → (x : X) × (o ≡ Some x)
some_is None h = absurd (true≢false (sym h))
some_is (Some x) h = (x, refl)

-- a test that chooses gives what it gives where it holds
pub chosen : {X : Type 0} (b : Bool) (x y : X) → cond b (Some x) None ≡ Some y → (b ≡ true) × (x ≡ y)
chosen true x y h = (refl, some_same h)
  where
    some_same : {X : Type 0} {x y : X} → Some x ≡ Some y → x ≡ y
    some_same h = cc
chosen false x y h = absurd (cc)

-- ---- moments

pub later_first : (a b : ℕ) → a ≤ later a b
later_first a b = by (nat_lt a b) refl
  where
    by : (o : Bool) → nat_lt a b ≡ o → a ≤ cond o b a
    by true e = let h = ltb-true a b e in omega (arith, h)
    by false e = omega arith

pub later_second : (a b : ℕ) → b ≤ later a b
later_second a b = by (nat_lt a b) refl
  where
    by : (o : Bool) → nat_lt a b ≡ o → b ≤ cond o b a
    by true e = omega arith
    by false e = ltb-false a b e

pub later_most : (a b m : ℕ) → a ≤ m → b ≤ m → later a b ≤ m
later_most a b m h g = by (nat_lt a b)
  where
    by : (o : Bool) → cond o b a ≤ m
    by true = g
    by false = h

-- what holds of both moments holds of the later one
pub later_holds : (P : ℕ → Type 0) (a b : ℕ) → P a → P b → P (later a b)
later_holds P a b h g = by (nat_lt a b)
  where
    by : (o : Bool) → P (cond o b a)
    by true = g
    by false = h

-- from an earlier moment no less can be made
pub good_earlier : (modify unconf : Bool) (m n : ℕ) (latest : Latest) → m ≤ n
    → ((modify && nat_lt n latest.modify) || (unconf && nat_lt n latest.unconf)) ≡ true
    → ((modify && nat_lt m latest.modify) || (unconf && nat_lt m latest.unconf)) ≡ true
good_earlier modify unconf m n latest h g = by (or_cases (modify && nat_lt n latest.modify) (unconf && nat_lt n latest.unconf) g)
  where
    less : (b : ℕ) → nat_lt n b ≡ true → nat_lt m b ≡ true
    less b k = lt-ltb m b (let x = ltb-true n b k in omega (arith, h, x))

    by : ((modify && nat_lt n latest.modify) ≡ true) ⊎ ((unconf && nat_lt n latest.unconf) ≡ true)
        → ((modify && nat_lt m latest.modify) || (unconf && nat_lt m latest.unconf)) ≡ true
    by (inl k) =
        or_first (modify && nat_lt m latest.modify) (unconf && nat_lt m latest.unconf)
        (and_yes modify (nat_lt m latest.modify) (first_so modify (nat_lt n latest.modify) k) (less latest.modify (second_so modify (nat_lt n latest.modify) k)))
    by (inr k) =
        or_second (modify && nat_lt m latest.modify) (unconf && nat_lt m latest.unconf)
        (and_yes unconf (nat_lt m latest.unconf) (first_so unconf (nat_lt n latest.unconf) k) (less latest.unconf (second_so unconf (nat_lt n latest.unconf) k)))

-- ---- the first of hops

earlier_holds : (P : Onward → Type 0) (a b : Option Onward) → Held P a → Held P b → Held P (earlier a b)
earlier_holds P None b h g = g
earlier_holds P (Some a) None h g = h
earlier_holds P (Some a) (Some b) h g = by (comes_before b.hop a.hop)
  where
    by : (o : Bool) → Held P (cond o (Some b) (Some a))
    by true = g
    by false = h

-- there is one that does not come after a hop
pub record IsBy (first : Option Onward) (hop : Hop) : Type 0 where
  pub by : Onward
  pub is : first ≡ Some by
  pub not_after : NotAfter by.hop hop

by_left : (a b : Option Onward) (hop : Hop) → IsBy a hop → IsBy (earlier a b) hop
by_left a None hop h = subst (λ (o : Option Onward). IsBy o hop) (same a) h
  where
    same : (a : Option Onward) → a ≡ earlier a None
    same None = refl
    same (Some x) = refl
by_left a (Some b) hop h = subst (λ (o : Option Onward). IsBy (earlier o (Some b)) hop) (sym h.is) (by (comes_before b.hop h.by.hop) refl)
  where
    by : (o : Bool) → comes_before b.hop h.by.hop ≡ o → IsBy (cond o (Some b) (Some h.by)) hop
    by true e = record { by = b; is = refl; not_after = before_then h.by.hop b.hop hop e h.not_after }
    by false e = record { by = h.by; is = refl; not_after = h.not_after }

by_right : (a b : Option Onward) (hop : Hop) → IsBy b hop → IsBy (earlier a b) hop
by_right None b hop h = h
by_right (Some a) b hop h = subst (λ (o : Option Onward). IsBy (earlier (Some a) o) hop) (sym h.is) (by (comes_before h.by.hop a.hop) refl)
  where
    by : (o : Bool) → comes_before h.by.hop a.hop ≡ o → IsBy (cond o (Some h.by) (Some a)) hop
    by true e = record { by = h.by; is = refl; not_after = h.not_after }
    by false e = record { by = a; is = refl; not_after = chain (not_before a.hop h.by.hop e) }
      where
        chain : NotAfter a.hop h.by.hop → NotAfter a.hop hop
        chain k = not_after_then a.hop h.by.hop hop k h.not_after

module _ (at : ℕ → State) (made test : Name → Bool) (test_is : (x : Name) → test x ≡ made x) (histories : List History) (end : ℕ)
    (tells : (x : Name) → SpansTell at end x (history_of histories x).spans)
    (named : (m index : ℕ) (x : Name) (cap : Cap) → m ≤ end → listed_cap (at m) x index ≡ Some cap → stands (at m) cap.name ≡ true) where
  -- ---- the hops over a span

  -- a hop leads where it is told to, and the rest can be made there
  pub record Leads (level : Name → Latest) (from : Arrived) (o : Onward) : Type 0 where
    pub leads : hop_to at made o.hop (reached from) ≡ Some (reached o.to)
    pub there : stands (at o.to.moment) o.to.name ≡ true
    pub by_end : o.to.moment ≤ end
    pub good : is_good o.to (level o.to.name) ≡ true

  module _ (level : Name → Latest) (from : Arrived) (by_end : from.moment ≤ end) (there : stands (at from.moment) from.name ≡ true) where
    -- at the first moment at which a span can be gone over its capability is there
    pub span_holds : (span : Span) → Stood at end from.name span → nat_lt (later from.moment span.from) span.until ≡ true
        → listed_cap (at (later from.moment span.from)) from.name span.index ≡ Some span.cap
    span_holds span stood before =
        stood.holds (later from.moment span.from) (later_second from.moment span.from) (ltb-true (later from.moment span.from) span.until before)
        (later_most from.moment span.from end by_end stood.by_end) (later_holds (λ m. stands (at m) from.name ≡ true) from.moment span.from there stood.begins)

    pub by_then : (span : Span) → Stood at end from.name span → later from.moment span.from ≤ end
    by_then span stood = later_most from.moment span.from end by_end stood.by_end

    pub hop_entry : (index m : ℕ) (cap : Cap) → from.unconf ≡ true → listed_cap (at m) from.name index ≡ Some cap → from.moment ≤ m
        → hop_to at made (hop_by.Entry index m) (reached from) ≡ Some (reached_by m cap)
    hop_entry index m cap u held late =
        ap (λ (b : Bool). cond b (option_and_then (onward made (hop_by.Entry index m) (reached from)) (listed_cap (at m) from.name index)) None) (le-leb from.moment m late)
        ∙ ap (option_and_then (onward made (hop_by.Entry index m) (reached from))) held ∙ ap (λ (b : Bool). cond b (Some (reached_by m cap)) None) u

    pub hop_handed : (index m : ℕ) (cap : Cap) → from.modify ≡ true → made cap.name ≡ true → listed_cap (at m) from.name index ≡ Some cap → from.moment ≤ m
        → hop_to at made (hop_by.Handed index m) (reached from) ≡ Some (handed_over m cap)
    hop_handed index m cap u y held late =
        ap (λ (b : Bool). cond b (option_and_then (onward made (hop_by.Handed index m) (reached from)) (listed_cap (at m) from.name index)) None) (le-leb from.moment m late)
        ∙ ap (option_and_then (onward made (hop_by.Handed index m) (reached from))) held ∙ ap (λ (b : Bool). cond (b && made cap.name) (Some (handed_over m cap)) None) u
        ∙ ap (λ (b : Bool). cond b (Some (handed_over m cap)) None) y

    entry_leads : (span : Span) → Stood at end from.name span → Held (Leads level from) (entry_onward from span (level span.cap.name))
    entry_leads span stood =
        by (from.unconf && (nat_lt (later from.moment span.from) span.until && is_good (arrived_by (later from.moment span.from) span.cap) (level span.cap.name))) refl
      where
        by : (o : Bool)
            → (from.unconf && (nat_lt (later from.moment span.from) span.until && is_good (arrived_by (later from.moment span.from) span.cap) (level span.cap.name))) ≡ o
            → Held (Leads level from)
            (cond o (Some (record { hop = hop_by.Entry span.index (later from.moment span.from); to = arrived_by (later from.moment span.from) span.cap })) None)
        by false e = tt
        by true e =
            let m = later from.moment span.from in
            let good = is_good (arrived_by m span.cap) (level span.cap.name) in
            let a = first_so from.unconf (nat_lt m span.until && good) e in
            let r = second_so from.unconf (nat_lt m span.until && good) e in
            let held = span_holds span stood (first_so (nat_lt m span.until) good r) in
            record {
              leads = hop_entry span.index m span.cap a held (later_first from.moment span.from);
              there = named m span.index from.name span.cap (by_then span stood) held;
              by_end = by_then span stood;
              good = second_so (nat_lt m span.until) good r;
            }

    handed_leads : (span : Span) → Stood at end from.name span → Held (Leads level from) (handed_onward from span (level span.cap.name) (test span.cap.name))
    handed_leads span stood =
        by (from.modify
        && (test span.cap.name && (nat_lt (later from.moment span.from) span.until && is_good (arrived_whole (later from.moment span.from) span.cap) (level span.cap.name))))
        refl
      where
        by : (o : Bool)
            → (from.modify
            && (test span.cap.name && (nat_lt (later from.moment span.from) span.until && is_good (arrived_whole (later from.moment span.from) span.cap) (level span.cap.name))))
            ≡ o
            → Held (Leads level from)
            (cond o (Some (record { hop = hop_by.Handed span.index (later from.moment span.from); to = arrived_whole (later from.moment span.from) span.cap })) None)
        by false e = tt
        by true e =
            let m = later from.moment span.from in
            let good = is_good (arrived_whole m span.cap) (level span.cap.name) in
            let a = first_so from.modify (test span.cap.name && (nat_lt m span.until && good)) e in
            let r = second_so from.modify (test span.cap.name && (nat_lt m span.until && good)) e in
            let b = first_so (test span.cap.name) (nat_lt m span.until && good) r in
            let q = second_so (test span.cap.name) (nat_lt m span.until && good) r in
            let held = span_holds span stood (first_so (nat_lt m span.until) good q) in
            record {
              leads = hop_handed span.index m span.cap a (sym (test_is span.cap.name) ∙ b) held (later_first from.moment span.from);
              there = named m span.index from.name span.cap (by_then span stood) held;
              by_end = by_then span stood;
              good = second_so (nat_lt m span.until) good q;
            }

    over_leads : (span : Span) → Stood at end from.name span → Held (Leads level from) (onward_over test level from span)
    over_leads span stood =
        earlier_holds (Leads level from) (entry_onward from span (level span.cap.name)) (handed_onward from span (level span.cap.name) (test span.cap.name))
        (entry_leads span stood) (handed_leads span stood)

    first_leads : (spans : List Span) (first : Option Onward) → Held (Leads level from) first → All (Stood at end from.name) spans
        → Held (Leads level from) (first_from test level from first spans)
    first_leads [] first h all = h
    first_leads (span ∷ spans) first h all =
        first_leads spans (earlier first (onward_over test level from span))
        (earlier_holds (Leads level from) first (onward_over test level from span) h (over_leads span all.0)) all.1

    pub onward_leads : (o : Onward) → first_onward test histories level from ≡ Some o → Leads level from o
    onward_leads o e = subst (Held (Leads level from)) e (first_leads (history_of histories from.name).spans None tt (tells from.name).sound)

  -- ---- every hop is told by a span

  by_start : (level : Name → Latest) (from : Arrived) (hop : Hop) (spans : List Span) (first : Option Onward) → IsBy first hop → IsBy (first_from test level from first spans) hop
  by_start level from hop [] first h = h
  by_start level from hop (span ∷ spans) first h =
      by_start level from hop spans (earlier first (onward_over test level from span)) (by_left first (onward_over test level from span) hop h)

  by_span : (level : Name → Latest) (from : Arrived) (hop : Hop) (spans : List Span) (first : Option Onward) (span : Span) → Has spans span
      → IsBy (onward_over test level from span) hop → IsBy (first_from test level from first spans) hop
  by_span level from hop [] first span h g = absurd h
  by_span level from hop (next ∷ spans) first span (inl e) g =
      by_start level from hop spans (earlier first (onward_over test level from next))
      (by_right first (onward_over test level from next) hop (subst (λ (s : Span). IsBy (onward_over test level from s) hop) (sym e) g))
  by_span level from hop (next ∷ spans) first span (inr h) g =
      by_span level from hop spans (earlier first (onward_over test level from next)) span h g

  -- what a hop has shown
  pub record HopShown (from : Reached) (hop : Hop) (to : Reached) : Type 0 where
    pub cap : Cap
    pub late : from.moment ≤ moment_of hop
    pub listed : listed_cap (at (moment_of hop)) from.name (index_of hop) ≡ Some cap
    pub onward_is : onward made hop from cap ≡ Some to

  pub hop_shown : (from : Reached) (hop : Hop) (to : Reached) → hop_to at made hop from ≡ Some to → HopShown from hop to
  hop_shown from hop to h = by (nat_le from.moment (moment_of hop)) refl h
    where
      found : (o : Option Cap) → listed_cap (at (moment_of hop)) from.name (index_of hop) ≡ o → from.moment ≤ moment_of hop → option_and_then (onward made hop from) o ≡ Some to
          → HopShown from hop to
      found None e late g = absurd (cc)
      found (Some cap) e late g = record { cap = cap; late = late; listed = e; onward_is = g }

      by : (b : Bool) → nat_le from.moment (moment_of hop) ≡ b
          → cond b (option_and_then (onward made hop from) (listed_cap (at (moment_of hop)) from.name (index_of hop))) None ≡ Some to → HopShown from hop to
      by false e g = absurd (cc)
      by true e g = found (listed_cap (at (moment_of hop)) from.name (index_of hop)) refl (leb-true from.moment (moment_of hop) e) g

  pub to_moment : (from : Reached) (hop : Hop) (to : Reached) (cap : Cap) → onward made hop from cap ≡ Some to → to.moment ≡ moment_of hop
  to_moment from (hop_by.Entry index m) to cap h = sym (ap (λ (r : Reached). r.moment) (chosen from.unconf (reached_by m cap) to h).1)
  to_moment from (hop_by.Handed index m) to cap h = sym (ap (λ (r : Reached). r.moment) (chosen (from.modify && made cap.name) (handed_over m cap) to h).1)

  module _ (level : Name → Latest) (from : Arrived) where
    -- the hop over a span at its first moment does not come after a hop over it
    by_entry : (index m : ℕ) (to : Reached) (cap : Cap) (told : SpanAt (history_of histories from.name).spans m index cap) → from.moment ≤ m
        → onward made (hop_by.Entry index m) (reached from) cap ≡ Some to → is_good (arrived to) (level to.name) ≡ true
        → IsBy (onward_over test level from told.span) (hop_by.Entry index m)
    by_entry index m to cap told late h good =
        by_left (entry_onward from span (level span.cap.name)) (handed_onward from span (level span.cap.name) (test span.cap.name)) (hop_by.Entry index m)
        (record {
          by = made_onward;
          is = ap (λ (b : Bool). cond b (Some made_onward) None) holds;
          not_after = sooner made_onward.hop (hop_by.Entry index m) early told.index_is refl;
        })
      where
        span : Span
        span = told.span

        made_onward : Onward
        made_onward = record { hop = hop_by.Entry span.index (later from.moment span.from); to = arrived_by (later from.moment span.from) span.cap }

        early : later from.moment span.from ≤ m
        early = later_most from.moment span.from m late told.from

        found : (from.unconf ≡ true) × (reached_by m cap ≡ to)
        found = chosen from.unconf (reached_by m cap) to h

        good_then : is_good (arrived_by m cap) (level cap.name) ≡ true
        good_then = subst (λ (r : Reached). is_good (arrived r) (level r.name) ≡ true) (sym found.1) good

        good_now : is_good (arrived_by (later from.moment span.from) span.cap) (level span.cap.name) ≡ true
        good_now =
            subst (λ (c : Cap). is_good (arrived_by (later from.moment span.from) c) (level c.name) ≡ true) (sym told.cap_is)
            (good_earlier (has cap.rights modify_right) (has cap.rights unconf_right) (later from.moment span.from) m (level cap.name) early good_then)

        before : nat_lt (later from.moment span.from) span.until ≡ true
        before = let u = told.until in lt-ltb (later from.moment span.from) span.until (omega (arith, early, u))

        holds : (from.unconf && (nat_lt (later from.moment span.from) span.until && is_good (arrived_by (later from.moment span.from) span.cap) (level span.cap.name))) ≡ true
        holds =
            and_yes from.unconf (nat_lt (later from.moment span.from) span.until && is_good (arrived_by (later from.moment span.from) span.cap) (level span.cap.name)) found.0
            (and_yes (nat_lt (later from.moment span.from) span.until) (is_good (arrived_by (later from.moment span.from) span.cap) (level span.cap.name)) before good_now)

    by_handed : (index m : ℕ) (to : Reached) (cap : Cap) (told : SpanAt (history_of histories from.name).spans m index cap) → from.moment ≤ m
        → onward made (hop_by.Handed index m) (reached from) cap ≡ Some to → is_good (arrived to) (level to.name) ≡ true
        → IsBy (onward_over test level from told.span) (hop_by.Handed index m)
    by_handed index m to cap told late h good =
        by_right (entry_onward from span (level span.cap.name)) (handed_onward from span (level span.cap.name) (test span.cap.name)) (hop_by.Handed index m)
        (record {
          by = made_onward;
          is = ap (λ (b : Bool). cond b (Some made_onward) None) holds;
          not_after = sooner made_onward.hop (hop_by.Handed index m) early told.index_is refl;
        })
      where
        span : Span
        span = told.span

        made_onward : Onward
        made_onward = record { hop = hop_by.Handed span.index (later from.moment span.from); to = arrived_whole (later from.moment span.from) span.cap }

        early : later from.moment span.from ≤ m
        early = later_most from.moment span.from m late told.from

        found : ((from.modify && made cap.name) ≡ true) × (handed_over m cap ≡ to)
        found = chosen (from.modify && made cap.name) (handed_over m cap) to h

        good_then : is_good (arrived_whole m cap) (level cap.name) ≡ true
        good_then = subst (λ (r : Reached). is_good (arrived r) (level r.name) ≡ true) (sym found.1) good

        good_now : is_good (arrived_whole (later from.moment span.from) span.cap) (level span.cap.name) ≡ true
        good_now =
            subst (λ (c : Cap). is_good (arrived_whole (later from.moment span.from) c) (level c.name) ≡ true) (sym told.cap_is)
            (good_earlier true true (later from.moment span.from) m (level cap.name) early good_then)

        before : nat_lt (later from.moment span.from) span.until ≡ true
        before = let u = told.until in lt-ltb (later from.moment span.from) span.until (omega (arith, early, u))

        tested : test span.cap.name ≡ true
        tested = test_is span.cap.name ∙ ap (λ (c : Cap). made c.name) told.cap_is ∙ second_so from.modify (made cap.name) found.0

        holds : (from.modify
            && (test span.cap.name && (nat_lt (later from.moment span.from) span.until && is_good (arrived_whole (later from.moment span.from) span.cap) (level span.cap.name))))
            ≡ true
        holds =
            and_yes from.modify
            (test span.cap.name && (nat_lt (later from.moment span.from) span.until && is_good (arrived_whole (later from.moment span.from) span.cap) (level span.cap.name)))
            (first_so from.modify (made cap.name) found.0)
            (and_yes (test span.cap.name)
            (nat_lt (later from.moment span.from) span.until && is_good (arrived_whole (later from.moment span.from) span.cap) (level span.cap.name)) tested
            (and_yes (nat_lt (later from.moment span.from) span.until) (is_good (arrived_whole (later from.moment span.from) span.cap) (level span.cap.name)) before good_now))

    -- where a hop leads to from where the rest can be made, the first hop does not come after it
    pub first_by : (hop : Hop) (to : Reached) → hop_to at made hop (reached from) ≡ Some to → to.moment ≤ end → is_good (arrived to) (level to.name) ≡ true
        → IsBy (first_onward test histories level from) hop
    first_by hop to h by_end good = by hop shown
      where
        shown : HopShown (reached from) hop to
        shown = hop_shown (reached from) hop to h

        by : (x : Hop) → HopShown (reached from) x to → IsBy (first_onward test histories level from) x
        by (hop_by.Entry index m) s =
            let at_end = subst (λ (n : ℕ). n ≤ end) (to_moment (reached from) (hop_by.Entry index m) to s.cap s.onward_is) by_end in
            let told = (tells from.name).complete m index s.cap at_end s.listed in
            by_span level from (hop_by.Entry index m) (history_of histories from.name).spans None told.span told.is (by_entry index m to s.cap told s.late s.onward_is good)
        by (hop_by.Handed index m) s =
            let at_end = subst (λ (n : ℕ). n ≤ end) (to_moment (reached from) (hop_by.Handed index m) to s.cap s.onward_is) by_end in
            let told = (tells from.name).complete m index s.cap at_end s.listed in
            by_span level from (hop_by.Handed index m) (history_of histories from.name).spans None told.span told.is (by_handed index m to s.cap told s.late s.onward_is good)

  -- ---- levels

  module _ (wanted : Name) (last : ℕ) (last_by_end : last ≤ end) where
    -- a way of so many hops from there to the object, by a moment
    pub record Way (n : ℕ) (from : Arrived) (hops : List Hop) : Type 0 where
      pub count : length hops ≡ n
      pub there : Reached
      pub leads : follow at made hops (reached from) ≡ Some there
      pub same : there.name ≡ wanted
      pub good : there.modify ≡ true
      pub by_last : there.moment ≤ last

    -- a level tells from where there are ways of so many hops
    pub record IsLevel (n : ℕ) (level : Name → Latest) : Type 0 where
      pub sound : (from : Arrived) → from.moment ≤ end → stands (at from.moment) from.name ≡ true → is_good from (level from.name) ≡ true
          → (hops : List Hop) × Way n from hops
      pub complete : (from : Arrived) (hops : List Hop) → Way n from hops → is_good from (level from.name) ≡ true

    -- a way goes on from its first hop
    pub record GoesOn (n : ℕ) (from : Arrived) (hop : Hop) (rest : List Hop) : Type 0 where
      pub to : Reached
      pub leads : hop_to at made hop (reached from) ≡ Some to
      pub way : Way n (arrived to) rest

    pub goes_on : (n : ℕ) (from : Arrived) (hop : Hop) (rest : List Hop) → Way (suc n) from (hop ∷ rest) → GoesOn n from hop rest
    goes_on n from hop rest way = by (hop_to at made hop (reached from)) refl way.leads
      where
        by : (o : Option Reached) → hop_to at made hop (reached from) ≡ o → option_and_then (follow at made rest) o ≡ Some way.there → GoesOn n from hop rest
        by None e h = absurd (cc)
        by (Some to) e h = record {
          to = to;
          leads = e;
          way = record { count = (let c = way.count in omega (arith, c)); there = way.there; leads = h; same = way.same; good = way.good; by_last = way.by_last };
        }

    pub comes_on : (n : ℕ) (from : Arrived) (hop : Hop) (to : Reached) (rest : List Hop) → hop_to at made hop (reached from) ≡ Some to → Way n (arrived to) rest
        → Way (suc n) from (hop ∷ rest)
    comes_on n from hop to rest h way = record {
      count = (let c = way.count in omega (arith, c));
      there = way.there;
      leads = ap (option_and_then (follow at made rest)) h ∙ way.leads;
      same = way.same;
      good = way.good;
      by_last = way.by_last;
    }

    -- moments never fall
    pub follow_later : (hops : List Hop) (from there : Reached) → follow at made hops from ≡ Some there → from.moment ≤ there.moment
    follow_later [] from there h = let e = ap (λ (o : Option Reached). elim o as (λ x. ℕ) [ None ↦ 0 | Some r ↦ r.moment ]) h in omega (arith, e)
    follow_later (hop ∷ hops) from there h = by (λ to g. follow_later hops to there g) (hop_to at made hop from) refl h
      where
        by : ((to : Reached) → follow at made hops to ≡ Some there → to.moment ≤ there.moment) → (o : Option Reached) → hop_to at made hop from ≡ o
            → option_and_then (follow at made hops) o ≡ Some there → from.moment ≤ there.moment
        by later None e g = absurd (cc)
        by later (Some to) e g =
            let s = hop_shown from hop to e in
            let late = s.late in
            let m = to_moment from hop to s.cap s.onward_is in
            let rest = later to g in
            omega (arith, late, m, rest)

    pub way_by_end : (n : ℕ) (from : Arrived) (hops : List Hop) → Way n from hops → from.moment ≤ end
    way_by_end n from hops way = let a = follow_later hops (reached from) way.there way.leads in let b = way.by_last in omega (arith, a, b, last_by_end)

    -- ---- no hop is left

    name_is : (x y : Name) → (x.0 == y.0) ≡ true → x ≡ y
    name_is x y h = ap (λ (n : ℕ). let z : Name = record { 0 = n } in z) (eqb-true x.0 y.0 h)

    none_below : (right : Bool) (t : ℕ) → (right && nat_lt t 0) ≡ false
    none_below true t = le-ltb t 0 (omega arith)
    none_below false t = refl

    good_nothing : (from : Arrived) → is_good from no_latest ≡ false
    good_nothing from = rw (none_below from.modify from.moment, none_below from.unconf from.moment) refl

    empty_way : (from : Arrived) → from.name ≡ wanted → from.modify ≡ true → from.moment ≤ last → Way 0 from []
    empty_way from e h late = record { count = refl; there = reached from; leads = refl; same = e; good = h; by_last = late }

    end_shown : (from : Arrived) → is_good from (latest_end wanted (last + 1) from.name) ≡ true → Way 0 from []
    end_shown from h = by (from.name.0 == wanted.0) refl h
      where
        by : (b : Bool) → (from.name.0 == wanted.0) ≡ b → is_good from (cond b (ends_before (last + 1)) no_latest) ≡ true → Way 0 from []
        by false e g = absurd (true≢false (sym g ∙ good_nothing from))
        by true e g = on (or_cases (from.modify && nat_lt from.moment (last + 1)) (from.unconf && nat_lt from.moment 0) g)
          where
            on : ((from.modify && nat_lt from.moment (last + 1)) ≡ true) ⊎ ((from.unconf && nat_lt from.moment 0) ≡ true) → Way 0 from []
            on (inl k) =
                empty_way from (name_is from.name wanted e) (first_so from.modify (nat_lt from.moment (last + 1)) k)
                (let x = ltb-true from.moment (last + 1) (second_so from.modify (nat_lt from.moment (last + 1)) k) in omega (arith, x))
            on (inr k) = absurd (true≢false (sym k ∙ none_below from.unconf from.moment))

    end_good : (from : Arrived) (hops : List Hop) → Way 0 from hops → is_good from (latest_end wanted (last + 1) from.name) ≡ true
    end_good from (hop ∷ hops) way = absurd (let c = way.count in omega (arith, c))
    end_good from [] way =
        ap (λ (b : Bool). is_good from (cond b (ends_before (last + 1)) no_latest)) named_so
        ∙ or_first (from.modify && nat_lt from.moment (last + 1)) (from.unconf && nat_lt from.moment 0)
        (and_yes from.modify (nat_lt from.moment (last + 1)) (ap (λ (r : Reached). r.modify) here ∙ way.good) before)
      where
        here : reached from ≡ way.there
        here = cc_some way.leads
          where
            cc_some : {x y : Reached} → Some x ≡ Some y → x ≡ y
            cc_some h = cc

        named_so : (from.name.0 == wanted.0) ≡ true
        named_so = eq-eqb from.name.0 wanted.0 (ap (λ (x : Name). x.0) (ap (λ (r : Reached). r.name) here ∙ way.same))

        before : nat_lt from.moment (last + 1) ≡ true
        before = let e = ap (λ (r : Reached). r.moment) here in let b = way.by_last in lt-ltb from.moment (last + 1) (omega (arith, e, b))

    level_end : IsLevel 0 (latest_end wanted (last + 1))
    level_end = record { sound = λ from by_end there good. ([], end_shown from good); complete = end_good }

    -- ---- one hop more

    module _ (n : ℕ) (level : Name → Latest) (is : IsLevel n level) where
      next_good : (from : Arrived) → is_good from (next_latest test histories level from.name) ≡ is_some (first_onward test histories level from)
      next_good from =
          good_from test level from (history_of histories from.name).spans no_latest
          ∙ ap (λ (b : Bool). b || list_any (λ (s : Span). is_some (onward_over test level from s)) (history_of histories from.name).spans) (good_nothing from)
          ∙ sym (some_first test level from (history_of histories from.name).spans None)

      next_sound : (from : Arrived) → from.moment ≤ end → stands (at from.moment) from.name ≡ true → is_good from (next_latest test histories level from.name) ≡ true
          → (hops : List Hop) × Way (suc n) from hops
      next_sound from by_end there good =
          let found = some_is (first_onward test histories level from) (sym (next_good from) ∙ good) in
          let leads = onward_leads level from by_end there found.0 found.1 in
          let rest = is.sound found.0.to leads.by_end leads.there leads.good in
          (found.0.hop ∷ rest.0, comes_on n from found.0.hop (reached found.0.to) rest.0 leads.leads rest.1)

      next_complete : (from : Arrived) (hops : List Hop) → Way (suc n) from hops → is_good from (next_latest test histories level from.name) ≡ true
      next_complete from [] way = absurd (let c = way.count in omega (arith, c))
      next_complete from (hop ∷ rest) way =
          let on = goes_on n from hop rest way in
          let first = first_by level from hop on.to on.leads (way_by_end n (arrived on.to) rest on.way) (is.complete (arrived on.to) rest on.way) in
          next_good from ∙ ap (λ (x : Option Onward). is_some x) first.is

      level_next : IsLevel (suc n) (next_latest test histories level)
      level_next = record { sound = next_sound; complete = next_complete }

    pub levels : (n : ℕ) → IsLevel n (level_at test histories wanted (last + 1) n)
    levels zero = level_end
    levels (suc n) = level_next n (level_at test histories wanted (last + 1) n) (levels n)

    -- ---- the first way

    -- a way before which no other comes of as many hops
    pub record Least (n : ℕ) (from : Arrived) (hops : List Hop) : Type 0 where
      pub way : Way n from hops
      pub least : (others : List Hop) → Way n from others → is_at_most (flat_map hop_key hops) (flat_map hop_key others) ≡ true

    least_here : (from : Arrived) → Way 0 from [] → Least 0 from []
    least_here from way = record { way = way; least = none }
      where
        none : (others : List Hop) → Way 0 from others → is_at_most [] (flat_map hop_key others) ≡ true
        none [] w = refl
        none (hop ∷ others) w = absurd (let c = w.count in omega (arith, c))

    module _ (n : ℕ) (from : Arrived) (by_end : from.moment ≤ end) (there : stands (at from.moment) from.name ≡ true) (o : Onward)
        (is : first_onward test histories (level_at test histories wanted (last + 1) n) from ≡ Some o) (rest : List Hop) (below : Least n o.to rest) where
      first_leads_on : Leads (level_at test histories wanted (last + 1) n) from o
      first_leads_on = onward_leads (level_at test histories wanted (last + 1) n) from by_end there o is

      others_later : (others : List Hop) → Way (suc n) from others → is_at_most (hop_key o.hop ++ flat_map hop_key rest) (flat_map hop_key others) ≡ true
      others_later [] w = absurd (let c = w.count in omega (arith, c))
      others_later (hop ∷ others) w = hop_then o.hop hop (flat_map hop_key rest) (flat_map hop_key others) not_later same
        where
          on : GoesOn n from hop others
          on = goes_on n from hop others w

          first : IsBy (first_onward test histories (level_at test histories wanted (last + 1) n) from) hop
          first =
              first_by (level_at test histories wanted (last + 1) n) from hop on.to on.leads (way_by_end n (arrived on.to) others on.way)
              ((levels n).complete (arrived on.to) others on.way)

          onward_same : {x y : Onward} → Some x ≡ Some y → x ≡ y
          onward_same h = cc

          reached_same : {x y : Reached} → Some x ≡ Some y → x ≡ y
          reached_same h = cc

          not_later : NotAfter o.hop hop
          not_later = subst (λ (x : Onward). NotAfter x.hop hop) (onward_same (sym first.is ∙ is)) first.not_after

          same : o.hop ≡ hop → is_at_most (flat_map hop_key rest) (flat_map hop_key others) ≡ true
          same e =
              let to_same : on.to ≡ reached o.to = reached_same (sym on.leads ∙ ap (λ (x : Hop). hop_to at made x (reached from)) (sym e) ∙ first_leads_on.leads) in
              below.least others (subst (λ (r : Reached). Way n (arrived r) others) to_same on.way)

      least_on : Least (suc n) from (o.hop ∷ rest)
      least_on = record { way = comes_on n from o.hop (reached o.to) rest first_leads_on.leads below.way; least = others_later }

    pub least_down : (n : ℕ) (from : Arrived) → from.moment ≤ end → stands (at from.moment) from.name ≡ true
        → is_good from (level_at test histories wanted (last + 1) n from.name) ≡ true
        → Least n from (hops_down test histories wanted (last + 1) n from)
    least_down zero from by_end there good = least_here from (end_shown from good)
    least_down (suc n) from by_end there good =
        by (λ x. least_down n x) (first_onward test histories (level_at test histories wanted (last + 1) n) from) refl
        (sym (next_good n (level_at test histories wanted (last + 1) n) (levels n) from) ∙ good)
      where
        by : ((x : Arrived) → x.moment ≤ end → stands (at x.moment) x.name ≡ true → is_good x (level_at test histories wanted (last + 1) n x.name) ≡ true
            → Least n x (hops_down test histories wanted (last + 1) n x))
            → (x : Option Onward) → first_onward test histories (level_at test histories wanted (last + 1) n) from ≡ x → is_some x ≡ true
            → Least (suc n) from (elim x as (λ y. List Hop) [ None ↦ [] | Some on ↦ on.hop ∷ hops_down test histories wanted (last + 1) n on.to ])
        by rest None e h = absurd (true≢false (sym h))
        by rest (Some o) e h =
            let leads = onward_leads (level_at test histories wanted (last + 1) n) from by_end there o e in
            least_on n from by_end there o e (hops_down test histories wanted (last + 1) n o.to) (rest o.to leads.by_end leads.there leads.good)

    pub good_by_onward : (n : ℕ) (from : Arrived) (o : Onward) → first_onward test histories (level_at test histories wanted (last + 1) n) from ≡ Some o
        → is_good from (level_at test histories wanted (last + 1) (suc n) from.name) ≡ true
    good_by_onward n from o e = next_good n (level_at test histories wanted (last + 1) n) (levels n) from ∙ ap (λ (x : Option Onward). is_some x) e
