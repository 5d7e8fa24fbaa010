-- The laws of confinement: what a line under a confined call changes was made under it, or is in any set that keeps the rules
-- of the modifiable reach. The reach is such a set, and so is the empty set where the parameters have neither MODIFY nor UNCONF.
use Rattle.std.proofs.Common.{◌≡◌, ℕ, zero, suc, ◌+◌, ◌-◌, ◌<◌, ◌≤◌, List, [], ◌∷◌, Bool, true, Some, refl, sym, ◌∙◌, ap, subst, arith}
use Rattle.std.specs.Prelude.{slice_get, take, drop, ◌⊎◌}
use mathlib.Core.Logic.{inl, inr}
use Rattle.std.specs.Option.{option_and_then}
use Rattle.std.proofs.lemmas.Bool.{true≢false, cases_lt}
use Rattle.hk_model.specs.declared.names.Name.{Name}
use Rattle.hk_model.specs.declared.names.Inc.{Inc}
use Rattle.hk_model.specs.declared.entries.Cap.{Cap}
use Rattle.hk_model.specs.declared.entries.Entry.TheVariants.{Held}
use Rattle.hk_model.specs.declared.lines.Line.{Line}
use Rattle.hk_rights.specs.Rights.{MODIFY, modify_right}
use Rattle.hk_model.specs.WorldValue.{WorldValue, IsWorld}
use Rattle.hk_model.specs.State.{State, object, incarnation}
use Rattle.hk_model.specs.Places.{EntryOf, standing, cap_of}
use Rattle.hk_model.specs.Lines.{done_call, makes_object, enters_call, changed}
use Rattle.hk_model.specs.Running.{Machine, opened, moved, after_lines, machine_at, state_at, AreSteps, AreStepsOf}
use Rattle.hk_model.specs.Under.{is_one_of, is_under, is_made_under, parameters}
use Rattle.hk_model.specs.Reaches.{listed_cap, IsModifiable, IsUnconfined, AreReaches}
use Rattle.hk_model.specs.Ways.{IsModified}
use Rattle.hk_model.specs.Confinement.{IsConfinedCall, IsChange, ConfinementLaw, AreClosed, ClosedCallLaw}
use Rattle.hk_model.proofs.RightsWithin.{Within-has}
use Rattle.hk_model.proofs.LineWays.{changed_modifies}
use Rattle.hk_model.proofs.Steps.{each_more, moved_holds, state_kept, first_steps, line_steps, later_steps, after_next}
use Rattle.hk_model.proofs.Activations.{activation}
use Rattle.hk_model.proofs.ActivationLists.{activation_live}
use Rattle.hk_model.proofs.Turns.{walks_live}
use Rattle.hk_model.proofs.ReachRules.{reaches_keep_the_rules}
use Rattle.hk_model.proofs.Histories.{Sound, LineKnown, known_each, sound_at, line_known}
use Rattle.hk_confine.proofs.Hands.{walk_gets}
use Rattle.hk_confine.proofs.Doings.{HasDoneThat, done_each}
use Rattle.hk_confine.proofs.Settling.{turn_up, sound_from, known_from, under_then, under_from, under_exact, child_same, maker_same}
use Rattle.hk_confine.proofs.Kept.{Closed, Tame, Kept, clash, tame_gets, line_kept}
use Rattle.hk_confine.proofs.Callers.{Lives, lives_before, Family, family_line, returns_same, line_calls}
use Rattle.hk_confine.proofs.Begins.{slot_get, steps_then, begins, earlier_out, first_family, first_kept}

-- ---- moments of a history

empty_take : (n : ℕ) → take {A = Line} n [] ≡ []
empty_take zero = refl
empty_take (suc n) = refl

empty_drop : (n : ℕ) → drop {A = Line} n [] ≡ []
empty_drop zero = refl
empty_drop (suc n) = refl

pub part_after : (w : WorldValue) (m : Machine) (lines : List Line) (k j n : ℕ) → n ≡ k + j
    → after_lines w (after_lines w m (take k lines)) (take j (drop k lines)) ≡ after_lines w m (take n lines)
part_after w m [] k j n e = rw (empty_take n, empty_take k, empty_drop k, empty_take j) refl
part_after w m (line ∷ lines) zero j n e = let f : n ≡ j = omega (arith, e) in rw f refl
part_after w m (line ∷ lines) (suc k) j zero e = absurd (omega (arith, e))
part_after w m (line ∷ lines) (suc k) j (suc n) e = part_after w (moved w m line.cpu) lines k j n (omega (arith, e))

pub get_part : (lines : List Line) (k j n : ℕ) → n ≡ k + j → slice_get (drop k lines) j ≡ slice_get lines n
get_part [] k j n e = rw (empty_drop k) refl
get_part (line ∷ lines) zero j n e = let f : n ≡ j = omega (arith, e) in rw f refl
get_part (line ∷ lines) (suc k) j zero e = absurd (omega (arith, e))
get_part (line ∷ lines) (suc k) j (suc n) e = get_part lines k j n (omega (arith, e))

take_none : (lines : List Line) → take zero lines ≡ []
take_none [] = refl
take_none (line ∷ lines) = refl

-- a line has lines before it
line_earlier : (lines : List Line) (j : ℕ) (line : Line) → slice_get lines (suc j) ≡ Some line → (first : Line) × (slice_get lines j ≡ Some first)
line_earlier [] j line h = absurd (cc)
line_earlier (x ∷ lines) zero line h = (x, refl)
line_earlier (x ∷ lines) (suc j) line h = line_earlier lines j line h

-- the next number does not fall
abbrev Late : ℕ → State → Type 0
Late low s = Sound s × (low ≤ s.next_inc.0)

late_line : (low : ℕ) (s : State) (line : Line) (t : State) → (Sound s → LineKnown s line t) → Late low s → Late low t
late_line low s line t g k = let up = turn_up s line t (g k.0).turn in let a = k.1 in ((g k.0).after, omega (arith, up, a))

pub numbers_later : (w : WorldValue) (lines : List Line) (n d : ℕ) → AreStepsOf w lines → (state_at w lines n).next_inc.0 ≤ (state_at w lines (n + d)).next_inc.0
numbers_later w lines n d h =
    let low : ℕ = (state_at w lines n).next_inc.0 in
    let late : Late low (after_lines w (machine_at w lines n) (take d (drop n lines))).state =
    state_kept (Late low) (each_more (λ s line t. Sound s → LineKnown s line t) (λ s line t. Late low s → Late low t) (late_line low) known_each)
    w (machine_at w lines n) (take d (drop n lines)) (first_steps w (machine_at w lines n) (drop n lines) d (later_steps w (opened w) lines n h))
    (sound_at w lines n h, omega arith) in
    subst (λ (m : Machine). low ≤ m.state.next_inc.0) (part_after w (opened w) lines n d (n + d) refl) late.1

-- ---- from the beginning of a confined call on

module _ (w : WorldValue) (lines : List Line) (h : AreStepsOf w lines) (world : IsWorld w) (k : ℕ) (top : Inc) (c : IsConfinedCall w lines k top) (M U : ℕ → Name → Type 0)
    (rules : AreReaches (state_at w lines) (is_made_under w lines k top) (parameters w lines k top) k M U) where
  abbrev under : Inc → Bool
  under = is_under w lines k top

  abbrev made : Name → Bool
  made = is_made_under w lines k top

  abbrev m : Machine
  m = machine_at w lines k

  abbrev rest : List Line
  rest = drop k lines

  -- the state so many lines after the beginning
  abbrev then : ℕ → State
  then j = (after_lines w m (take j rest)).state

  abbrev p : ℕ
  p = (incarnation (state_at w lines k) top).proc.0

  steps : AreSteps w m rest
  steps = steps_then w lines h k top c.is

  sound : Sound m.state
  sound = sound_at w lines k h

  listed : (s : State) (x : Name) (index : ℕ) (cap : Cap) → standing s (EntryOf x index) ≡ Held cap → listed_cap s x index ≡ Some cap
  listed s x index cap e = ap (option_and_then cap_of) (slot_get (object s x).entries index cap e)

  closed_at : (n : ℕ) → k ≤ n → Closed made (M n) (U n) (state_at w lines n)
  closed_at n late = record {
    entry_modify = λ x index cap u e r. rules.entry_modify n index x cap late u (listed (state_at w lines n) x index cap e) r;
    entry_unconf = λ x index cap u e r. rules.entry_unconf n index x cap late u (listed (state_at w lines n) x index cap e) r;
    handed = λ x index cap g e r. rules.handed n index x cap late g (listed (state_at w lines n) x index cap e) r;
  }

  closed_then : (j : ℕ) → Closed made (M (k + j)) (U (k + j)) (then j)
  closed_then j = subst (λ (n : Machine). Closed made (M (k + j)) (U (k + j)) n.state) (sym (part_after w (opened w) lines k j (k + j) refl)) (closed_at (k + j) (omega arith))

  known_then : (j : ℕ) (line : Line) → slice_get rest j ≡ Some line → LineKnown (then j) line (then (suc j))
  known_then j line is = subst (λ (n : Machine). LineKnown (then j) line n.state) (sym (after_next w m rest j line is)) (known_from w m rest steps sound j line is)

  done_then : (j : ℕ) (line : Line) → slice_get rest j ≡ Some line → HasDoneThat (then j) line.inc (done_call line) (then (suc j)).incarnations
  done_then j line is = subst (λ (n : Machine). HasDoneThat (then j) line.inc (done_call line) n.state.incarnations) (sym (after_next w m rest j line is))
      (moved_holds (λ s l t. HasDoneThat s l.inc (done_call l) t.incarnations) done_each w (after_lines w m (take j rest)) line (line_steps w m rest j line steps is))

  child : (j : ℕ) (line : Line) → slice_get rest j ≡ Some line → enters_call (done_call line) ≡ true → under (then j).next_inc ≡ under line.inc
  child j line is = child_same w m rest steps sound top p (begins w lines h k top c.is) j line is

  maker : (j : ℕ) (line : Line) → slice_get rest j ≡ Some line → makes_object (done_call line) ≡ true → made (then j).next_name ≡ under line.inc
  maker j line is = maker_same w m rest steps sound under j line is

  at_first : after_lines w m (take zero rest) ≡ m
  at_first = ap (after_lines w m) (take_none rest)

  family_then : (j : ℕ) (line : Line) → slice_get rest j ≡ Some line → Family under top (then j)
  family_then zero line is = subst (λ (n : Machine). Family under top n.state) (sym at_first) (first_family w lines h k top c.is)
  family_then (suc j) line is =
      let first = line_earlier rest j line is in
      family_line under top (then j) first.0 (then (suc j)) (sound_from w m rest steps sound j).rises (known_then j first.0 first.1).turn (child j first.0 first.1)
      (family_then j first.0 first.1)

  kept_then : (j : ℕ) (line : Line) → slice_get rest j ≡ Some line → Lives top (then j) → Kept under made (M (k + j)) (U (k + j)) (then j)
  kept_then zero line is lives =
      let e : k ≡ k + 0 = omega arith in
      subst (λ n. Kept under made (M n) (U n) (then zero)) e
      (subst (λ (n : Machine). Kept under made (M k) (U k) n.state) (sym at_first) (first_kept w lines h k top c.is c.confined M U rules world))
  kept_then (suc j) line is lives =
      let first = line_earlier rest j line is in
      let known = known_then j first.0 first.1 in
      let rises = (sound_from w m rest steps sound j).rises in
      let u = under_from w m rest steps sound top p (begins w lines h k top c.is) j in
      let earlier : Lives top (then j) = lives_before (then j) first.0 (then (suc j)) rises known.turn top (u.fresh top u.itself) lives in
      let done = done_then j first.0 first.1 in
      line_kept under made (M (k + j)) (U (k + j)) (then j) (kept_then j first.0 first.1 earlier) (closed_then j) (M (k + suc j)) (U (k + suc j))
      (λ x g. rules.later_modify (k + j) (k + suc j) x (omega arith) (omega arith) g)
      (λ x g. rules.later_unconf (k + j) (k + suc j) x (omega arith) (omega arith) g)
      first.0 (then (suc j)) (closed_then (suc j)) known.writes
      (λ q v e. line_calls (then j) first.0 (then (suc j)).incarnations done q v e (known.writes.goes q v e))
      (child j first.0 first.1) (maker j first.0 first.1)
      (returns_same under top (then j) first.0 (then (suc j)) rises (family_then j first.0 first.1) done lives)

  -- what a line under the call changes, from the call's beginning on
  change_then : (j : ℕ) (line : Line) (x : Name) → slice_get rest j ≡ Some line → under line.inc ≡ true → changed (then j) line ≡ Some x → (made x ≡ true) ⊎ M (k + j) x
  change_then j line x is mine change =
      let modified : IsModified (then j) line.inc (done_call line) x = changed_modifies (then j) line (then (suc j)) x (known_then j line is).writes change in
      let there = activation_live (then j).incarnations line.inc (walks_live (then j) line.inc modified.path (Held modified.cap) modified.leads) in
      let number = (sound_from w m rest steps sound j).stacked.below line.inc (activation (incarnation (then j) line.inc)) there in
      let member : is_one_of line.inc (under_then w m rest steps sound top p (begins w lines h k top c.is) j) ≡ true =
      sym (under_exact w m rest steps sound top p (begins w lines h k top c.is) j line.inc number) ∙ mine in
      let lives = (under_from w m rest steps sound top p (begins w lines h k top c.is) j).alive line.inc (activation (incarnation (then j) line.inc)) member there in
      let gets = tame_gets under made (M (k + j)) (U (k + j)) (then j) (kept_then j line is lives) (closed_then j) line.inc mine in
      let got : Tame made (M (k + j)) (U (k + j)) modified.cap.name modified.cap.rights =
      walk_gets (then j) line.inc (Tame made (M (k + j)) (U (k + j))) gets modified.path (Held modified.cap) modified.leads in
      subst (λ (y : Name). (made y ≡ true) ⊎ M (k + j) y) (sym modified.same) (got.0 (Within-has MODIFY modified.cap.rights modify_right modified.allowed refl refl))

  -- no line before it is under it
  change_before : (n : ℕ) (line : Line) (x : Name) → n < k → slice_get lines n ≡ Some line → under line.inc ≡ true → changed (state_at w lines n) line ≡ Some x → ⊥
  change_before n line x early is mine change =
      let modified : IsModified (state_at w lines n) line.inc (done_call line) x =
      changed_modifies (state_at w lines n) line (state_at w lines (suc n)) x (line_known w lines n line h is).writes change in
      let there = activation_live (state_at w lines n).incarnations line.inc (walks_live (state_at w lines n) line.inc modified.path (Held modified.cap) modified.leads) in
      let number = (sound_at w lines n h).stacked.below line.inc (activation (incarnation (state_at w lines n) line.inc)) there in
      let moment = c.is.moment in
      let d : ℕ = c.is.earlier - n in
      let e : n + d ≡ c.is.earlier = omega (arith, early, moment) in
      let up = subst (λ z. (state_at w lines n).next_inc.0 ≤ (state_at w lines z).next_inc.0) e (numbers_later w lines n d h) in
      let same = ap (λ (z : Inc). z.0) c.is.made in
      clash (under line.inc) mine (earlier_out w lines h k top c.is line.inc (omega (arith, number, up, same)))

  -- every line under the call
  pub change_within : (moment : ℕ) (x : Name) → IsChange w lines k top moment x → (made x ≡ true) ⊎ M moment x
  change_within moment x g = elim (cases_lt moment k) [
    | inl early ↦ absurd (change_before moment g.line x early g.is g.under g.changes)
    | inr late ↦
        let j : ℕ = moment - k in
        let e : k + j ≡ moment = omega (arith, late) in
        let is : slice_get rest j ≡ Some g.line = get_part lines k j moment (sym e) ∙ g.is in
        let same : after_lines w m (take j rest) ≡ machine_at w lines moment = part_after w (opened w) lines k j moment (sym e) in
        let change : changed (then j) g.line ≡ Some x = ap (λ (n : Machine). changed n.state g.line) same ∙ g.changes in
        subst (λ n. (made x ≡ true) ⊎ M n x) e (change_then j g.line x is g.under change)
  ]

-- ---- the laws

pub confinement : (w : WorldValue) (lines : List Line) → AreStepsOf w lines → IsWorld w → ConfinementLaw w lines
confinement w lines h world k top c moment x g =
    change_within w lines h world k top c (IsModifiable w lines k top) (IsUnconfined w lines k top)
    (reaches_keep_the_rules (state_at w lines) (is_made_under w lines k top) (parameters w lines k top) k) moment x g

-- where no parameter has either right, the empty sets keep the rules
closed_rules : (at : ℕ → State) (made : Name → Bool) (w : WorldValue) (lines : List Line) (k : ℕ) (top : Inc) → AreClosed (parameters w lines k top)
    → AreReaches at made (parameters w lines k top) k (λ n x. ⊥) (λ n x. ⊥)
closed_rules at made w lines k top closed = record {
  param_modify = λ param cap e r. true≢false (sym r ∙ (closed param cap e).0);
  param_unconf = λ param cap e r. true≢false (sym r ∙ (closed param cap e).1);
  later_modify = λ early late x begun l g. g;
  later_unconf = λ early late x begun l g. g;
  entry_modify = λ moment index x cap begun u e r. u;
  entry_unconf = λ moment index x cap begun u e r. u;
  handed = λ moment index x cap begun g e r. absurd g;
}

pub closed_call : (w : WorldValue) (lines : List Line) → AreStepsOf w lines → IsWorld w → ClosedCallLaw w lines
closed_call w lines h world k top c closed moment x g =
    by (change_within w lines h world k top c (λ n y. ⊥) (λ n y. ⊥) (closed_rules (state_at w lines) (is_made_under w lines k top) w lines k top closed) moment x g)
  where
    by : (is_made_under w lines k top x ≡ true) ⊎ ⊥ → is_made_under w lines k top x ≡ true
    by (inl made) = made
    by (inr none) = absurd none
