-- From which moments a hop and the rest of a way can be made, and whether one is there at a moment.
use Rattle.std.proofs.Common.{◌≡◌, ℕ, List, [], ◌∷◌, Bool, true, false, Option, Some, None, refl, sym, ◌∙◌, ap, arith, cond}
use Rattle.std.specs.Prelude.{◌&&◌, ◌||◌, nat_lt, is_some}
use Rattle.std.specs.List.{list_any}
use Rattle.std.proofs.lemmas.Bool.{true≢false, lt-ltb, ltb-true, le-ltb, ltb-false}
use Rattle.hk_rights.specs.Rights.{has, modify_right, unconf_right}
use Rattle.hk_model.specs.declared.names.Name.{Name}
use Rattle.hk_report.specs.declared.histories.Span.{Span}
use Rattle.hk_report.specs.declared.hops.Arrived.{Arrived}
use Rattle.hk_report.specs.declared.hops.Latest.{Latest}
use Rattle.hk_report.specs.declared.hops.Onward.{Onward}
use Rattle.hk_report.specs.Hops.{later, greater, lesser, arrived_by, arrived_whole, is_good, entry_onward, handed_onward, earlier, onward_over, first_from, from_on, entry_bound}
use Rattle.hk_report.specs.Hops.{handed_bound, raised, latest_from, comes_before}

-- tests that follow from each other are the same
pub both_ways : (a b : Bool) → (a ≡ true → b ≡ true) → (b ≡ true → a ≡ true) → a ≡ b
both_ways true true f g = refl
both_ways false false f g = refl
both_ways true false f g = absurd (true≢false (sym (f refl)))
both_ways false true f g = absurd (true≢false (sym (g refl)))

pub below_greater : (t a b : ℕ) → nat_lt t (greater a b) ≡ (nat_lt t a || nat_lt t b)
below_greater t a b = by (nat_lt a b) refl
  where
    by : (o : Bool) → nat_lt a b ≡ o → nat_lt t (cond o b a) ≡ (nat_lt t a || nat_lt t b)
    by true e = or (nat_lt t a) refl
      where
        or : (p : Bool) → nat_lt t a ≡ p → nat_lt t b ≡ (p || nat_lt t b)
        or true f = lt-ltb t b (let x = ltb-true t a f in let y = ltb-true a b e in omega (arith, x, y))
        or false f = refl
    by false e = or (nat_lt t b) refl (nat_lt t a) refl
      where
        or : (q : Bool) → nat_lt t b ≡ q → (p : Bool) → nat_lt t a ≡ p → p ≡ (p || q)
        or q f true g = refl
        or true f false g = absurd (let x = ltb-true t b f in let y = ltb-false a b e in let z = ltb-false t a g in omega (arith, x, y, z))
        or false f false g = refl

pub below_lesser : (t a b : ℕ) → nat_lt t (lesser a b) ≡ (nat_lt t a && nat_lt t b)
below_lesser t a b = by (nat_lt a b) refl
  where
    by : (o : Bool) → nat_lt a b ≡ o → nat_lt t (cond o a b) ≡ (nat_lt t a && nat_lt t b)
    by true e = and (nat_lt t a) refl
      where
        and : (p : Bool) → nat_lt t a ≡ p → p ≡ (p && nat_lt t b)
        and true f = sym (lt-ltb t b (let x = ltb-true t a f in let y = ltb-true a b e in omega (arith, x, y)))
        and false f = refl
    by false e = and (nat_lt t b) refl (nat_lt t a) refl
      where
        and : (q : Bool) → nat_lt t b ≡ q → (p : Bool) → nat_lt t a ≡ p → q ≡ (p && q)
        and q f true g = refl
        and false f false g = refl
        and true f false g = absurd (let x = ltb-true t b f in let y = ltb-false a b e in let z = ltb-false t a g in omega (arith, x, y, z))

-- from a moment on, at the first moment at which the span stands
pub below_later : (t from bound : ℕ) → nat_lt t (cond (nat_lt from bound) bound 0) ≡ nat_lt (later t from) bound
below_later t from bound = by (nat_lt from bound) refl (nat_lt t from) refl
  where
    by : (o : Bool) → nat_lt from bound ≡ o → (p : Bool) → nat_lt t from ≡ p → nat_lt t (cond o bound 0) ≡ nat_lt (cond p from t) bound
    by true e true f = lt-ltb t bound (let x = ltb-true from bound e in let y = ltb-true t from f in omega (arith, x, y)) ∙ sym e
    by true e false f = refl
    by false e true f = le-ltb t 0 (omega arith) ∙ sym e
    by false e false f = le-ltb t 0 (omega arith) ∙ sym (le-ltb t bound (let x = ltb-false from bound e in let y = ltb-false t from f in omega (arith, x, y)))

pub below_from_on : (t : ℕ) (span : Span) (bound : ℕ) → nat_lt t (from_on span bound) ≡ (nat_lt (later t span.from) span.until && nat_lt (later t span.from) bound)
below_from_on t span bound = below_later t span.from (lesser span.until bound) ∙ below_lesser (later t span.from) span.until bound

-- a bound that counts only with a right
pub below_if : (t bound : ℕ) (right : Bool) → nat_lt t (cond right bound 0) ≡ (right && nat_lt t bound)
below_if t bound true = refl
below_if t bound false = le-ltb t 0 (omega arith)

pub below_entry : (t : ℕ) (span : Span) (latest : Latest)
    → nat_lt t (entry_bound span latest) ≡ (nat_lt (later t span.from) span.until && is_good (arrived_by (later t span.from) span.cap) latest)
below_entry t span latest =
    below_from_on t span (greater (cond (has span.cap.rights modify_right) latest.modify 0) (cond (has span.cap.rights unconf_right) latest.unconf 0))
    ∙ ap (λ (b : Bool). nat_lt (later t span.from) span.until && b)
    (below_greater (later t span.from) (cond (has span.cap.rights modify_right) latest.modify 0) (cond (has span.cap.rights unconf_right) latest.unconf 0)
    ∙ rw (below_if (later t span.from) latest.modify (has span.cap.rights modify_right), below_if (later t span.from) latest.unconf (has span.cap.rights unconf_right)) refl)

pub below_handed : (t : ℕ) (span : Span) (latest : Latest) (made : Bool)
    → nat_lt t (handed_bound span latest made) ≡ (made && (nat_lt (later t span.from) span.until && is_good (arrived_whole (later t span.from) span.cap) latest))
below_handed t span latest true =
    below_from_on t span (greater latest.modify latest.unconf)
    ∙ ap (λ (b : Bool). nat_lt (later t span.from) span.until && b) (below_greater (later t span.from) latest.modify latest.unconf)
below_handed t span latest false = le-ltb t 0 (omega arith)

-- ---- whether a hop is there

if_some : {X : Type 0} (b : Bool) (x : X) → is_some (cond b (Some x) None) ≡ b
if_some true x = refl
if_some false x = refl

pub some_entry : (from : Arrived) (span : Span) (latest : Latest) → is_some (entry_onward from span latest) ≡ (from.unconf && nat_lt from.moment (entry_bound span latest))
some_entry from span latest =
    if_some (from.unconf && (nat_lt (later from.moment span.from) span.until && is_good (arrived_by (later from.moment span.from) span.cap) latest)) _
    ∙ ap (λ (b : Bool). from.unconf && b) (sym (below_entry from.moment span latest))

pub some_handed : (from : Arrived) (span : Span) (latest : Latest) (made : Bool)
    → is_some (handed_onward from span latest made) ≡ (from.modify && nat_lt from.moment (handed_bound span latest made))
some_handed from span latest made =
    if_some (from.modify && (made && (nat_lt (later from.moment span.from) span.until && is_good (arrived_whole (later from.moment span.from) span.cap) latest))) _
    ∙ ap (λ (b : Bool). from.modify && b) (sym (below_handed from.moment span latest made))

pub some_earlier : (a b : Option Onward) → is_some (earlier a b) ≡ (is_some a || is_some b)
some_earlier None b = refl
some_earlier (Some a) None = refl
some_earlier (Some a) (Some b) = by (comes_before b.hop a.hop)
  where
    by : (o : Bool) → is_some (cond o (Some b) (Some a)) ≡ true
    by true = refl
    by false = refl

module _ (made : Name → Bool) (level : Name → Latest) (from : Arrived) where
  some_over : (span : Span) → is_some (onward_over made level from span)
      ≡ ((from.unconf && nat_lt from.moment (entry_bound span (level span.cap.name)))
      || (from.modify && nat_lt from.moment (handed_bound span (level span.cap.name) (made span.cap.name))))
  some_over span =
      some_earlier (entry_onward from span (level span.cap.name)) (handed_onward from span (level span.cap.name) (made span.cap.name))
      ∙ rw (some_entry from span (level span.cap.name), some_handed from span (level span.cap.name) (made span.cap.name)) refl

  pub some_first : (spans : List Span) (first : Option Onward)
      → is_some (first_from made level from first spans) ≡ (is_some first || list_any (λ (s : Span). is_some (onward_over made level from s)) spans)
  some_first [] first = or_none (is_some first)
    where
      or_none : (b : Bool) → b ≡ (b || false)
      or_none true = refl
      or_none false = refl
  some_first (span ∷ spans) first =
      some_first spans (earlier first (onward_over made level from span))
      ∙ ap (λ (b : Bool). b || list_any (λ (s : Span). is_some (onward_over made level from s)) spans) (some_earlier first (onward_over made level from span))
      ∙ or_more (is_some first) (is_some (onward_over made level from span)) (list_any (λ (s : Span). is_some (onward_over made level from s)) spans)
    where
      or_more : (a b c : Bool) → ((a || b) || c) ≡ (a || (b || c))
      or_more true b c = refl
      or_more false b c = refl

  good_raised : (all : Latest) (span : Span) → is_good from (raised made level all span) ≡ (is_good from all || is_some (onward_over made level from span))
  good_raised all span =
      ap (λ (x : Bool). (from.modify && x) || (from.unconf && nat_lt from.moment (greater all.unconf (entry_bound span (level span.cap.name)))))
      (below_greater from.moment all.modify (handed_bound span (level span.cap.name) (made span.cap.name)))
      ∙ ap (λ (x : Bool).
      (from.modify && (nat_lt from.moment all.modify || nat_lt from.moment (handed_bound span (level span.cap.name) (made span.cap.name)))) || (from.unconf && x))
      (below_greater from.moment all.unconf (entry_bound span (level span.cap.name)))
      ∙ by from.modify from.unconf (nat_lt from.moment all.modify) (nat_lt from.moment all.unconf)
      (nat_lt from.moment (handed_bound span (level span.cap.name) (made span.cap.name))) (nat_lt from.moment (entry_bound span (level span.cap.name)))
      ∙ ap (λ (x : Bool). is_good from all || x) (sym (some_over span))
    where
      by : (m u a b h e : Bool) → ((m && (a || h)) || (u && (b || e))) ≡ (((m && a) || (u && b)) || ((u && e) || (m && h)))
      by false false a b h e = refl
      by true u true b h e = refl
      by true false false b true e = refl
      by true false false b false e = refl
      by true true false true true e = refl
      by true true false true false e = refl
      by true true false false true true = refl
      by true true false false true false = refl
      by true true false false false true = refl
      by true true false false false false = refl
      by false true a true h e = refl
      by false true a false h true = refl
      by false true a false h false = refl

  pub good_from : (spans : List Span) (all : Latest)
      → is_good from (latest_from made level all spans) ≡ (is_good from all || list_any (λ (s : Span). is_some (onward_over made level from s)) spans)
  good_from [] all = or_none (is_good from all)
    where
      or_none : (b : Bool) → b ≡ (b || false)
      or_none true = refl
      or_none false = refl
  good_from (span ∷ spans) all =
      good_from spans (raised made level all span)
      ∙ ap (λ (b : Bool). b || list_any (λ (s : Span). is_some (onward_over made level from s)) spans) (good_raised all span)
      ∙ or_more (is_good from all) (is_some (onward_over made level from span)) (list_any (λ (s : Span). is_some (onward_over made level from s)) spans)
    where
      or_more : (a b c : Bool) → ((a || b) || c) ≡ (a || (b || c))
      or_more true b c = refl
      or_more false b c = refl
