-- A chain leads back to a place exactly where what stands descended from it by origins alone.
use Rattle.std.proofs.Common.{◌≡◌, ℕ, zero, suc, ◌<◌, ◌≤◌, List, [], ◌∷◌, length, false, Option, Some, None, refl, sym, ◌∙◌, ap, arith, subst}
use Rattle.std.specs.Prelude.{◌⊎◌, ◌↔◌, slice_get, take}
use mathlib.Core.Logic.{inl, inr}
use Rattle.std.specs.Option.{option_and_then}
use Rattle.std.proofs.lemmas.Bool.{cases_lt}
use Rattle.std.proofs.lemmas.Option.{slice_get_within}
use Rattle.hk_model.specs.declared.names.Inc.{Inc}
use Rattle.hk_model.specs.declared.entries.Entry.{Entry}
use Rattle.hk_model.specs.declared.lines.Line.{Line}
use Rattle.hk_model.specs.WorldValue.{WorldValue}
use Rattle.hk_model.specs.State.{State}
use Rattle.hk_model.specs.Places.{Place, standing, is_empty}
use Rattle.hk_model.specs.Running.{opened, state_at, AreStepsOf}
use Rattle.hk_model.specs.Ways.{Way, Walked, Stored, Lessened, Merged, Inherited, Copied, CopyOf, Created, Formed, Emptied, line_way, Writes, Wrote}
use Rattle.hk_model.specs.Origins.{Origin, From, Through, Made, origin_of, line_origin}
use Rattle.hk_model.specs.Descent.{Chain, Opened, MadeAt, Link, extended, extend, chains, LinesFall}
use Rattle.hk_model.proofs.Steps.{first_steps, told_last}
use Rattle.hk_model.proofs.EventCounts.{events_are}
use Rattle.hk_model.proofs.ChainLines.{chains_fall}
use Rattle.hk_model.proofs.LineWays.{LineWrites}
use Rattle.hk_model.proofs.Histories.{line_known}
use Rattle.hk_descent.specs.Joined.{Stands, place_of, CameFrom, Stayed, Linked, Descended, Begins, Goes, LeadsBack}
use Rattle.hk_descent.proofs.JoinedLines.{full, same_some, none_some, way_wrote, came_full}

-- ---- moments

-- what holds at a moment, and after each line from there on, holds at every later one
pub from_on : (P : ℕ → Type 0) (k : ℕ) → P k → ((m : ℕ) → k ≤ m → P m → P (suc m)) → (m : ℕ) → k ≤ m → P m
from_on P k start next zero late = let e : k ≡ zero = omega (arith, late) in subst P e start
from_on P k start next (suc m) late = by (cases_lt k (suc m)) (from_on P k start next m)
  where
    by : (k < suc m) ⊎ (suc m ≤ k) → (k ≤ m → P m) → P (suc m)
    by (inl few) before = let early : k ≤ m = omega (arith, few) in next m early (before early)
    by (inr many) before = let e : k ≡ suc m = omega (arith, late, many) in subst P e start

-- the line at a moment that is not the last
pub line_there : (lines : List Line) (m : ℕ) → suc m ≤ length lines → (line : Line) × (slice_get lines m ≡ Some line)
line_there [] m h = absurd (omega (arith, h))
line_there (x ∷ lines) zero h = (x, refl)
line_there (x ∷ lines) (suc m) h = line_there lines m (omega (arith, h))

length_taken : (m : ℕ) (lines : List Line) → m ≤ length lines → length (take m lines) ≡ m
length_taken zero lines h = refl
length_taken (suc m) [] h = absurd (omega (arith, h))
length_taken (suc m) (x ∷ lines) h = ap suc (length_taken m lines (omega (arith, h)))

-- ---- one line

-- at moment k a chain leads back to its own place, and to no other
own_back : (k : ℕ) (q : Place) (c : Chain) → LinesFall k c → LeadsBack k q q c
own_back k q (Opened place) h = refl
own_back k q (MadeAt line by target) h = (h.1, refl)
own_back k q (Link line place entry gate rest) h = inl (h.1, refl)

no_other : (k : ℕ) (q p : Place) (c : Chain) → LinesFall k c → LeadsBack k q p c → p ≡ q
no_other k q p (Opened place) h b = b
no_other k q p (MadeAt line by target) h b = b.1
no_other k q p (Link line place entry gate rest) h (inl b) = b.1
no_other k q p (Link line place entry gate rest) h (inr b) = let few = h.1 in let many = b.0 in absurd (omega (arith, few, many))

-- a way that writes an entry has an origin
no_origin : (s : State) (inc : Inc) (v : Way) (x : Entry) → Writes s inc v x → is_empty x ≡ false → origin_of s inc v ≡ None → ⊥
no_origin s inc (Walked path) x h f e = absurd (cc)
no_origin s inc (Stored slot) x h f e = absurd (cc)
no_origin s inc (Lessened slot keep) x h f e = absurd (cc)
no_origin s inc (Merged slot form) x h f e = absurd (cc)
no_origin s inc (Inherited procedure index confined) x h f e = absurd (cc)
no_origin s inc (Copied path index) x h f e = absurd (cc)
no_origin s inc (CopyOf path) x h f e = absurd (cc)
no_origin s inc (Created path) x h f e = absurd (cc)
no_origin s inc (Formed path kind) x h f e = absurd (cc)
no_origin s inc Emptied x h f e = full x f h

module _ (k : ℕ) (q : Place) (s : State) (line : Line) (t : State) (g : Place → Chain) (writes : LineWrites s line t) (late : k ≤ s.events) (p : Place)
    (stands : is_empty (standing t p) ≡ false) where
  -- where what it came from leads back, it leads back
  leads_on : (before : Place) → CameFrom s line p before → LeadsBack k q before (g before) → LeadsBack k q p (extended s g (line_origin s line p) p)
  leads_on before (Stayed e same) h =
      let none : line_origin s line p ≡ None = ap (λ o. option_and_then (origin_of s line.inc) o) e in
      subst (λ o. LeadsBack k q p (extended s g o p)) (sym none) (subst (λ z. LeadsBack k q z (g z)) (sym same) h)
  leads_on before (Linked e) h = by (line_origin s line p) e
    where
      by : (r : Option Origin) → option_and_then place_of r ≡ Some before → LeadsBack k q p (extended s g r p)
      by None f = absurd (none_some before f)
      by (Some (From a)) f = inr (omega (arith, late), subst (λ z. LeadsBack k q z (g z)) (sym (same_some f)) h)
      by (Some (Through a form)) f = inr (omega (arith, late), subst (λ z. LeadsBack k q z (g z)) (sym (same_some f)) h)
      by (Some (Made maker target)) f = absurd (none_some before f)

  -- and where it leads back, something that it came from does
  led_on : LeadsBack k q p (extended s g (line_origin s line p) p) → (before : Place) × CameFrom s line p before × LeadsBack k q before (g before)
  led_on h = by (line_origin s line p) refl h
    where
      stays : (o : Option Way) → line_way s line p ≡ o → Wrote s line.inc (standing s p) o (standing t p) → option_and_then (origin_of s line.inc) o ≡ None
          → line_way s line p ≡ None
      stays None e wrote f = e
      stays (Some v) e wrote f = absurd (no_origin s line.inc v (standing t p) (way_wrote s line.inc (standing s p) (standing t p) v wrote stands) stands f)

      by : (r : Option Origin) → line_origin s line p ≡ r → LeadsBack k q p (extended s g r p) → (before : Place) × CameFrom s line p before × LeadsBack k q before (g before)
      by None e b = (p, Stayed (stays (line_way s line p) refl (writes.entries p) e) refl, b)
      by (Some (From a)) e (inl b) = let early = b.0 in absurd (omega (arith, early, late))
      by (Some (From a)) e (inr b) = (a, Linked (ap (λ o. option_and_then place_of o) e), b.1)
      by (Some (Through a form)) e (inl b) = let early = b.0 in absurd (omega (arith, early, late))
      by (Some (Through a form)) e (inr b) = (a, Linked (ap (λ o. option_and_then place_of o) e), b.1)
      by (Some (Made maker target)) e b = let early = b.0 in absurd (omega (arith, early, late))

-- ---- every moment

module _ (w : WorldValue) (lines : List Line) (steps : AreStepsOf w lines) where
  events_at : (m : ℕ) → m ≤ length lines → (state_at w lines m).events ≡ m
  events_at m h = events_are w (take m lines) (first_steps w (opened w) lines m steps) ∙ length_taken m lines h

  pub writes_at : (m : ℕ) (line : Line) → slice_get lines m ≡ Some line → LineWrites (state_at w lines m) line (state_at w lines (suc m))
  writes_at m line e = (line_known w lines m line steps e).writes

  -- a descent begins at moment k or later
  pub begins_by : (Came : State → Line → Place → Place → Type 0) (k : ℕ) (q : Place) (m : ℕ) (p : Place) → Descended Came w lines k q m p → k ≤ m
  begins_by Came k q m x Begins = omega arith
  begins_by Came k q m x (Goes n line p before e d came stands) = let early = begins_by Came k q n before d in omega (arith, early)

  chain_next : (m : ℕ) (line : Line) (p : Place) → slice_get lines m ≡ Some line
      → chains w (take (suc m) lines) p ≡ extended (state_at w lines m) (chains w (take m lines)) (line_origin (state_at w lines m) line p) p
  chain_next m line p e = ap (λ (f : Place → Chain). f p) (told_last extend w (opened w) lines m line Opened e)

  descended_leads : (k : ℕ) (q : Place) (m : ℕ) (p : Place) → Descended CameFrom w lines k q m p → Stands w lines m p → LeadsBack k q p (chains w (take m lines) p)
  descended_leads k q m x Begins stands = own_back k q (chains w (take k lines) q) (chains_fall w lines steps k q)
  descended_leads k q m x (Goes n line p before e d came there) stands =
      let s : State = state_at w lines n in
      let t : State = state_at w lines (suc n) in
      let early = begins_by CameFrom k q n before d in
      let within = slice_get_within lines n line e in
      let number = events_at n (omega (arith, within)) in
      let stood : Stands w lines n before = came_full s line t p before (writes_at n line e) there came in
      subst (LeadsBack k q p) (sym (chain_next n line p e))
      (leads_on k q s line t (chains w (take n lines)) (writes_at n line e) (omega (arith, early, number)) p there before came (descended_leads k q n before d stood))

  abbrev LeadsDescend : ℕ → Place → ℕ → Type 0
  LeadsDescend k q m = m ≤ length lines → (p : Place) → Stands w lines m p → LeadsBack k q p (chains w (take m lines) p) → Descended CameFrom w lines k q m p

  leads_first : (k : ℕ) (q : Place) → LeadsDescend k q k
  leads_first k q within p stands b =
      subst (λ z. Descended CameFrom w lines k q k z) (sym (no_other k q p (chains w (take k lines) p) (chains_fall w lines steps k p) b)) Begins

  leads_next : (k : ℕ) (q : Place) (m : ℕ) → k ≤ m → LeadsDescend k q m → LeadsDescend k q (suc m)
  leads_next k q m late before within p stands b =
      let s : State = state_at w lines m in
      let t : State = state_at w lines (suc m) in
      let there = line_there lines m within in
      let number = events_at m (omega (arith, within)) in
      let led = led_on k q s there.0 t (chains w (take m lines)) (writes_at m there.0 there.1) (omega (arith, late, number)) p stands
      (subst (LeadsBack k q p) (chain_next m there.0 p there.1) b) in
      Goes m there.0 p led.0 there.1 (before (omega (arith, within)) led.0 (came_full s there.0 t p led.0 (writes_at m there.0 there.1) stands led.1) led.2) led.1 stands

  pub chain_descent : (k : ℕ) (q : Place) (moment : ℕ) (p : Place) → k ≤ moment → moment ≤ length lines → Stands w lines moment p
      → LeadsBack k q p (chains w (take moment lines) p) ↔ Descended CameFrom w lines k q moment p
  chain_descent k q moment p late within stands = (
    from_on (LeadsDescend k q) k (leads_first k q) (leads_next k q) moment late within p stands,
    λ d. descended_leads k q moment p d stands,
  )
