-- Of a run a hop can go over the first span alone that has not ended.
use Rattle.std.proofs.Common.{◌≡◌, ℕ, suc, zero, ◌+◌, ◌-◌, ◌<◌, ◌≤◌, List, [], ◌∷◌, ◌++◌, length, Bool, true, false, Option, Some, None, refl, sym, ◌∙◌, ap, arith, cond, subst}
use Rattle.std.specs.Prelude.{◌&&◌, ◌⊎◌, drop, nat_lt, slice_index_or}
use mathlib.Core.Logic.{inl, inr}
use Rattle.std.specs.List.{AllByRecursion, between, find}
use Rattle.std.specs.Cmp.{first_so, second_so}
use Rattle.std.proofs.lemmas.Bool.{true≢false, lt-ltb, ltb-true, le-ltb, ltb-false, cases_lt}
use Rattle.std.proofs.lemmas.List.{take-append-drop, get_or_default}
use Rattle.hk_rights.specs.Rights.{has, modify_right, unconf_right}
use Rattle.hk_model.specs.declared.names.Name.{Name}
use Rattle.hk_model.specs.declared.entries.Cap.{Cap}
use Rattle.hk_model.specs.declared.reaches.Hop.TheVariants as hop_by
use Rattle.hk_model.specs.Reaches.{moment_of}
use Rattle.hk_report.specs.declared.histories.Span.{Span}
use Rattle.hk_report.specs.declared.hops.Arrived.{Arrived}
use Rattle.hk_report.specs.declared.hops.Latest.{Latest}
use Rattle.hk_report.specs.declared.hops.Onward.{Onward}
use Rattle.hk_report.specs.Hops.{later, arrived_by, arrived_whole, is_good, comes_before, earlier, onward_over, first_from}
use Rattle.hk_report.specs.Runs.{precedes, IsRun, AreCut, is_open}
use Rattle.hk_report.proofs.HolderLemmas.{drop_more}
use Rattle.hk_report.proofs.HopLemmas.{moment_first, made_at, earlier_at, first_stays}
use Rattle.hk_report.proofs.RunLemmas.{Precedes, precedes_so}
use Rattle.hk_report.proofs.Onwards.{good_earlier, and_yes, later_first, later_second, later_holds}

-- ---- a hop that is there by a moment

record IsSoon (moment : ℕ) (o : Option Onward) : Type 0 where
  onward : Onward
  is : o ≡ Some onward
  soon : moment_of onward.hop ≤ moment

soon_behind : (moment : ℕ) (a b : Option Onward) → IsSoon moment b → IsSoon moment (earlier a b)
soon_behind moment None b h = h
soon_behind moment (Some a) b h = subst (λ (o : Option Onward). IsSoon moment (earlier (Some a) o)) (sym h.is) (by (comes_before h.onward.hop a.hop) refl)
  where
    by : (o : Bool) → comes_before h.onward.hop a.hop ≡ o → IsSoon moment (cond o (Some h.onward) (Some a))
    by true e = record { onward = h.onward; is = refl; soon = h.soon }
    by false e = record { onward = a; is = refl; soon = low (cases_lt (moment_of h.onward.hop) (moment_of a.hop)) }
      where
        low : (moment_of h.onward.hop < moment_of a.hop) ⊎ (moment_of a.hop ≤ moment_of h.onward.hop) → moment_of a.hop ≤ moment
        low (inl less) =
            absurd (true≢false (sym (sym (moment_first h.onward.hop a.hop (λ k. omega (arith, k, less))) ∙ lt-ltb (moment_of h.onward.hop) (moment_of a.hop) less) ∙ e))
        low (inr late) = let s = h.soon in omega (arith, s, late)

soon_either : (moment : ℕ) (b c : Bool) (x y : Onward) → moment_of x.hop ≡ moment → moment_of y.hop ≡ moment → (b ≡ true) ⊎ (c ≡ true)
    → IsSoon moment (earlier (cond b (Some x) None) (cond c (Some y) None))
soon_either moment true true x y e f h = by (comes_before y.hop x.hop)
  where
    by : (o : Bool) → IsSoon moment (cond o (Some y) (Some x))
    by true = record { onward = y; is = refl; soon = omega (arith, f) }
    by false = record { onward = x; is = refl; soon = omega (arith, e) }
soon_either moment true false x y e f h = record { onward = x; is = refl; soon = omega (arith, e) }
soon_either moment false true x y e f h = record { onward = y; is = refl; soon = omega (arith, f) }
soon_either moment false false x y e f (inl h) = absurd (true≢false (sym h))
soon_either moment false false x y e f (inr h) = absurd (true≢false (sym h))

pub earlier_none : (o : Option Onward) → earlier o None ≡ o
earlier_none None = refl
earlier_none (Some x) = refl

module _ (made : Name → Bool) (level : Name → Latest) (from : Arrived) where
  abbrev over : Span → Option Onward
  over span = onward_over made level from span

  abbrev time : Span → ℕ
  time span = later from.moment span.from

  -- what is tested of a hop at a moment, by the entry and to what was made under the call
  abbrev goes_by_entry : ℕ → ℕ → Cap → Bool
  goes_by_entry moment until cap = from.unconf && (nat_lt moment until && is_good (arrived_by moment cap) (level cap.name))

  abbrev goes_by_hand : ℕ → ℕ → Cap → Bool
  goes_by_hand moment until cap = from.modify && (made cap.name && (nat_lt moment until && is_good (arrived_whole moment cap) (level cap.name)))

  entry_kept : (m n until end : ℕ) (cap : Cap) → m ≤ n → m < until → goes_by_entry n end cap ≡ true → goes_by_entry m until cap ≡ true
  entry_kept m n until end cap l i h =
      let good = is_good (arrived_by n cap) (level cap.name) in
      let r = second_so from.unconf (nat_lt n end && good) h in
      and_yes from.unconf (nat_lt m until && is_good (arrived_by m cap) (level cap.name)) (first_so from.unconf (nat_lt n end && good) h)
      (and_yes (nat_lt m until) (is_good (arrived_by m cap) (level cap.name)) (lt-ltb m until i)
      (good_earlier (has cap.rights modify_right) (has cap.rights unconf_right) m n (level cap.name) l (second_so (nat_lt n end) good r)))

  hand_kept : (m n until end : ℕ) (cap : Cap) → m ≤ n → m < until → goes_by_hand n end cap ≡ true → goes_by_hand m until cap ≡ true
  hand_kept m n until end cap l i h =
      let good = is_good (arrived_whole n cap) (level cap.name) in
      let r = second_so from.modify (made cap.name && (nat_lt n end && good)) h in
      let q = second_so (made cap.name) (nat_lt n end && good) r in
      and_yes from.modify (made cap.name && (nat_lt m until && is_good (arrived_whole m cap) (level cap.name)))
      (first_so from.modify (made cap.name && (nat_lt n end && good)) h)
      (and_yes (made cap.name) (nat_lt m until && is_good (arrived_whole m cap) (level cap.name)) (first_so (made cap.name) (nat_lt n end && good) r)
      (and_yes (nat_lt m until) (is_good (arrived_whole m cap) (level cap.name)) (lt-ltb m until i)
      (good_earlier true true m n (level cap.name) l (second_so (nat_lt n end) good q))))

  -- a hop over a span that has not ended comes before those over all that come later in the run
  passes : (first : Option Onward) (s r : Span) → Precedes s r → is_open from.moment s ≡ true → earlier (earlier first (over s)) (over r) ≡ earlier first (over s)
  passes first s r p still = by (goes_by_entry (time r) r.until r.cap) refl (goes_by_hand (time r) r.until r.cap) refl
    where
      inside : time s < s.until
      inside = later_holds (λ (m : ℕ). m < s.until) from.moment s.from (ltb-true from.moment s.until still) p.stood

      apart : time s < time r
      apart = let g = p.gone in let l = later_second from.moment r.from in omega (arith, inside, g, l)

      up : time s ≤ time r
      up = omega (arith, apart)

      entry : Span → Onward
      entry span = record { hop = hop_by.Entry span.index (time span); to = arrived_by (time span) span.cap }

      hand : Span → Onward
      hand span = record { hop = hop_by.Handed span.index (time span); to = arrived_whole (time span) span.cap }

      stays : (b c : Bool) → (goes_by_entry (time s) s.until s.cap ≡ true) ⊎ (goes_by_hand (time s) s.until s.cap ≡ true)
          → earlier (earlier first (over s)) (earlier (cond b (Some (entry r)) None) (cond c (Some (hand r)) None)) ≡ earlier first (over s)
      stays b c h =
          let there = earlier (cond b (Some (entry r)) None) (cond c (Some (hand r)) None) in
          let k = soon_behind (time s) first (over s)
          (soon_either (time s) (goes_by_entry (time s) s.until s.cap) (goes_by_hand (time s) s.until s.cap) (entry s) (hand s) refl refl h) in
          let l = k.soon in
          subst (λ (o : Option Onward). earlier o there ≡ o) (sym k.is)
          (first_stays (time r) k.onward there
          (earlier_at (time r) (cond b (Some (entry r)) None) (cond c (Some (hand r)) None) (made_at (time r) b (entry r) refl) (made_at (time r) c (hand r) refl))
          (omega (arith, l, apart)))

      by : (b : Bool) → goes_by_entry (time r) r.until r.cap ≡ b → (c : Bool) → goes_by_hand (time r) r.until r.cap ≡ c
          → earlier (earlier first (over s)) (earlier (cond b (Some (entry r)) None) (cond c (Some (hand r)) None)) ≡ earlier first (over s)
      by false e false f = earlier_none (earlier first (over s))
      by true e c f =
          stays true c
          (inl (entry_kept (time s) (time r) s.until r.until s.cap up inside
          (subst (λ (cap : Cap). goes_by_entry (time r) r.until cap ≡ true) (sym p.cap_is) e)))
      by false e true f =
          stays false true
          (inr (hand_kept (time s) (time r) s.until r.until s.cap up inside
          (subst (λ (cap : Cap). goes_by_hand (time r) r.until cap ≡ true) (sym p.cap_is) f)))

  passes_all : (first : Option Onward) (s : Span) (run : List Span) → AllByRecursion (λ (later : Span). precedes s later ≡ true) run → is_open from.moment s ≡ true
      → first_from made level from (earlier first (over s)) run ≡ earlier first (over s)
  passes_all first s [] h still = refl
  passes_all first s (r ∷ run) h still =
      ap (λ (o : Option Onward). first_from made level from o run) (passes first s r (precedes_so s r h.0) still) ∙ passes_all first s run h.1 still

  -- none goes over a span that has ended
  pub none_over : (span : Span) → is_open from.moment span ≡ false → over span ≡ None
  none_over span e =
      ap (λ (b : Bool). earlier (cond b (Some entry) None) (cond (goes_by_hand (time span) span.until span.cap) (Some hand) None))
      (entry_off from.unconf (nat_lt (time span) span.until) (is_good (arrived_by (time span) span.cap) (level span.cap.name)) late)
      ∙ ap (λ (b : Bool). earlier None (cond b (Some hand) None))
      (hand_off from.modify (made span.cap.name) (nat_lt (time span) span.until) (is_good (arrived_whole (time span) span.cap) (level span.cap.name)) late)
    where
      entry : Onward
      entry = record { hop = hop_by.Entry span.index (time span); to = arrived_by (time span) span.cap }

      hand : Onward
      hand = record { hop = hop_by.Handed span.index (time span); to = arrived_whole (time span) span.cap }

      late : nat_lt (time span) span.until ≡ false
      late =
          let x = ltb-false from.moment span.until e in
          let y = later_first from.moment span.from in
          le-ltb (time span) span.until (omega (arith, x, y))

      entry_off : (a b c : Bool) → b ≡ false → (a && (b && c)) ≡ false
      entry_off true true c h = absurd (true≢false h)
      entry_off true false c h = refl
      entry_off false b c h = refl

      hand_off : (a m b c : Bool) → b ≡ false → (a && (m && (b && c))) ≡ false
      hand_off true true true c h = absurd (true≢false h)
      hand_off true true false c h = refl
      hand_off true false b c h = refl
      hand_off false m b c h = refl

  -- the hop that comes first of one and those over a run
  abbrev pub first_of : Option Onward → Option Span → Option Onward
  first_of first None = first
  first_of first (Some span) = earlier first (over span)

  pub run_first : (first : Option Onward) (run : List Span) → IsRun run → first_from made level from first run ≡ first_of first (find (is_open from.moment) run)
  run_first first [] h = refl
  run_first first (s ∷ run) h = by (run_first first run h.1) (is_open from.moment s) refl
    where
      by : first_from made level from first run ≡ first_of first (find (is_open from.moment) run) → (b : Bool) → is_open from.moment s ≡ b
          → first_from made level from (earlier first (over s)) run ≡ first_of first (cond b (Some s) (find (is_open from.moment) run))
      by later true e = passes_all first s run h.0 e
      by later false e =
          ap (λ (o : Option Onward). first_from made level from (earlier first o) run) (none_over s e)
          ∙ ap (λ (o : Option Onward). first_from made level from o run) (earlier_none first) ∙ later

  pub first_append : (first : Option Onward) (xs ys : List Span) → first_from made level from first (xs ++ ys) ≡ first_from made level from (first_from made level from first xs) ys
  first_append first [] ys = refl
  first_append first (x ∷ xs) ys = first_append (earlier first (over x)) xs ys

  -- ---- run by run

  drop_none : (n : ℕ) → drop n (let none : List Span = [] in none) ≡ []
  drop_none zero = refl
  drop_none (suc n) = refl

  drop_drop : (m n : ℕ) (spans : List Span) → drop n (drop m spans) ≡ drop (m + n) spans
  drop_drop zero n [] = drop_none n ∙ sym (drop_none (0 + n))
  drop_drop zero n (s ∷ spans) =
      let same : n ≡ 0 + n = omega arith in
      ap (λ (k : ℕ). drop k (s ∷ spans)) same
  drop_drop (suc m) n [] = drop_none n ∙ sym (drop_none (suc m + n))
  drop_drop (suc m) n (s ∷ spans) =
      let same : suc (m + n) ≡ suc m + n = omega arith in
      drop_drop m n spans ∙ ap (λ (k : ℕ). drop k (s ∷ spans)) same

  pub cut_off : (start end : ℕ) (spans : List Span) → start ≤ end → drop start spans ≡ between start end spans ++ drop end spans
  cut_off start end spans l =
      let same : start + (end - start) ≡ end = omega (arith, l) in
      sym (take-append-drop (end - start) (drop start spans))
      ∙ ap (λ (xs : List Span). between start end spans ++ xs) (drop_drop start (end - start) spans ∙ ap (λ (k : ℕ). drop k spans) same)

  pub none_left : (spans : List Span) (n : ℕ) → length spans ≤ n → drop n spans ≡ []
  none_left [] zero l = refl
  none_left [] (suc n) l = refl
  none_left (span ∷ spans) zero l = absurd (omega (arith, l))
  none_left (span ∷ spans) (suc n) l = none_left spans n (omega (arith, l))

  -- the runs to come are left
  pub record Seeing (spans : List Span) (start : ℕ) (ends : List ℕ) (first : Option Onward) : Type 0 where
    pub cut : AreCut start ends spans
    pub left : first_from made level from first (drop start spans) ≡ first_from made level from None spans

  pub seen_none : (spans : List Span) (ends : List ℕ) → AreCut 0 ends spans → Seeing spans 0 ends None
  seen_none spans ends h = record { cut = h; left = ap (λ (xs : List Span). first_from made level from None xs) (whole spans) }
    where
      whole : (xs : List Span) → drop 0 xs ≡ xs
      whole [] = refl
      whole (x ∷ xs) = refl

  seen_more : (spans run : List Span) (start end : ℕ) (ends : List ℕ) (first after : Option Onward) → Seeing spans start (end ∷ ends) first
      → run ≡ between start end spans → after ≡ first_of first (find (is_open from.moment) run) → Seeing spans end ends after
  seen_more spans run start end ends first after h e f = record {
    cut = h.cut.1.1.1;
    left =
        ap (λ (o : Option Onward). first_from made level from o (drop end spans))
        (f ∙ ap (λ (xs : List Span). first_of first (find (is_open from.moment) xs)) e ∙ sym (run_first first (between start end spans) h.cut.1.1.0))
        ∙ sym (first_append first (between start end spans) (drop end spans))
        ∙ ap (λ (xs : List Span). first_from made level from first xs) (sym (cut_off start end spans h.cut.0)) ∙ h.left;
  }

  pub seen_next : (spans : List Span) (ends : List ℕ) (k start end : ℕ) (first after : Option Onward) (found : Option Span) → Seeing spans start (drop k ends) first → k < length ends
      → end ≡ slice_index_or ends k 0 → found ≡ find (is_open from.moment) (between start (slice_index_or ends k 0) spans) → after ≡ first_of first found
      → Seeing spans end (drop (k + 1) ends) after
  seen_next spans ends k start end first after found h l e f is =
      let stands : end ≡ slice_index_or ends k end = e ∙ get_or_default ends k 0 end l in
      seen_more spans (between start end spans) start end (drop (k + 1) ends) first after
      (subst (λ (xs : List ℕ). Seeing spans start xs first) (drop_more ends k end l stands) h) refl
      (is ∙ ap (first_of first) (f ∙ ap (λ (n : ℕ). find (is_open from.moment) (between start n spans)) (sym e)))

  pub seen_all : (spans : List Span) (start : ℕ) (first : Option Onward) → Seeing spans start [] first → first ≡ first_from made level from None spans
  seen_all spans start first h = ap (λ (xs : List Span). first_from made level from first xs) (sym (none_left spans start h.cut)) ∙ h.left
