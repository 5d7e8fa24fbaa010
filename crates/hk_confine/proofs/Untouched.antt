-- What is neither made under a confined call nor in its modifiable reach is left as it was by a line under it, or goes as nothing
-- names it.
use Rattle.std.proofs.Common.{◌≡◌, ℕ, suc, ◌+◌, ◌-◌, ◌<◌, List, true, false, Option, Some, Ok, Err, Result, refl, sym, ◌∙◌, ap, subst, arith}
use Rattle.std.specs.Prelude.{◌≤◌, drop, take, is_some, slice_get}
use mathlib.Core.Logic.{inl, inr}
use Rattle.std.proofs.lemmas.Bool.{true≢false, cases_lt, false_from_ne_true, or_parts}
use Rattle.hk_model.specs.declared.names.Name.{Name}
use Rattle.hk_model.specs.declared.names.Inc.{Inc}
use Rattle.hk_model.specs.declared.entries.Cap.{Cap}
use Rattle.hk_model.specs.declared.entries.Entry.{Entry}
use Rattle.hk_model.specs.declared.entries.Entry.TheVariants.{Empty, Held, Form}
use Rattle.hk_model.specs.declared.calls.Call.{Call}
use Rattle.hk_model.specs.declared.calls.Call.TheVariants as call
use Rattle.hk_model.specs.declared.calls.Refusal.{Refusal}
use Rattle.hk_model.specs.declared.lines.Line.{Line}
use Rattle.hk_model.specs.declared.objects.Object.{Object}
use Rattle.hk_model.specs.WorldValue.{WorldValue, IsWorld}
use Rattle.hk_model.specs.State.{State, incarnation}
use Rattle.hk_model.specs.Keeping.{is_among, is_opening, names_with, stands, supports}
use Rattle.hk_model.specs.Kept.{everything}
use Rattle.hk_model.specs.Walking.{walk}
use Rattle.hk_model.specs.Places.{cap_of, entry_given, found, is_empty}
use Rattle.hk_model.specs.Lines.{done_call, makes_object}
use Rattle.hk_model.specs.Running.{Machine, opened, after_lines, machine_at, state_at, AreStepsOf}
use Rattle.hk_model.specs.Under.{is_made_under, is_under}
use Rattle.hk_model.specs.Effects.{Becomes, Stays, Goes, Changes, IsNew, IsMadeObject}
use Rattle.hk_model.specs.Confinement.{IsConfinedCall}
use Rattle.hk_model.proofs.Keeping.{of_all}
use Rattle.hk_model.proofs.KindsStay.{leaves_others}
use Rattle.hk_model.proofs.Activations.{activation}
use Rattle.hk_model.proofs.ActivationLists.{activation_live}
use Rattle.hk_model.proofs.Turns.{walks_live}
use Rattle.hk_model.proofs.Histories.{sound_at}
use Rattle.hk_program.proofs.AlwaysKept.{kept_law}
use Rattle.hk_confine.specs.Untouched.{IsUntouched, UntouchedLaw}
use Rattle.hk_confine.proofs.Settling.{maker_same}
use Rattle.hk_confine.proofs.Kept.{clash}
use Rattle.hk_confine.proofs.Begins.{steps_then, earlier_out}
use Rattle.hk_confine.proofs.Confined.{confinement, get_part, numbers_later, part_after}

-- ---- what a line makes under a call is made under it

-- where a path leads to something, the walk is not refused
walked : (s : State) (inc : Inc) (path : List ℕ) → is_empty (found s inc path) ≡ false → (x : Entry) × (walk s inc path ≡ Ok x)
walked s inc path full = by (walk s inc path) refl full
  where
    by : (r : Result Entry Refusal) → walk s inc path ≡ r → is_empty (entry_given r) ≡ false → (x : Entry) × (walk s inc path ≡ Ok x)
    by (Ok x) is g = (x, is)
    by (Err refusal) is g = absurd (true≢false g)

not_empty : (x : Entry) (cap : Cap) → cap_of x ≡ Some cap → is_empty x ≡ false
not_empty Empty cap h = absurd (cc)
not_empty (Held c) cap h = refl
not_empty (Form form) cap h = absurd (cc)

-- who makes an object has walked
maker_walked : (s : State) (inc : Inc) (c : Option Call) (o : Object) → IsMadeObject s inc c o → (path : List ℕ) × ((x : Entry) × (walk s inc path ≡ Ok x))
maker_walked s inc (Some (call.Create path into)) o h = (path, walked s inc path (ap is_empty h.by))
maker_walked s inc (Some (call.Copy path into)) o h = (path, walked s inc path (not_empty (found s inc path) h.cap h.of))
maker_walked s inc c o h = absurd (search (h) depth 2)

module _ (w : WorldValue) (lines : List Line) (h : AreStepsOf w lines) (k : ℕ) (top : Inc) (c : IsConfinedCall w lines k top) where
  -- its number was given
  numbered : (n : ℕ) (inc : Inc) (path : List ℕ) (x : Entry) → walk (state_at w lines n) inc path ≡ Ok x → inc.0 < (state_at w lines n).next_inc.0
  numbered n inc path x leads =
      let s : State = state_at w lines n in
      (sound_at w lines n h).stacked.below inc (activation (incarnation s inc)) (activation_live s.incarnations inc (walks_live s inc path x leads))

  -- no line before the call is by an incarnation under it that walks
  none_before : (n : ℕ) (inc : Inc) (path : List ℕ) (x : Entry) → n < k → is_under w lines k top inc ≡ true → walk (state_at w lines n) inc path ≡ Ok x → ⊥
  none_before n inc path x early mine leads =
      let number = numbered n inc path x leads in
      let moment = c.is.moment in
      let d : ℕ = c.is.earlier - n in
      let e : n + d ≡ c.is.earlier = omega (arith, early, moment) in
      let up = subst (λ z. (state_at w lines n).next_inc.0 ≤ (state_at w lines z).next_inc.0) e (numbers_later w lines n d h) in
      let same = ap (λ (z : Inc). z.0) c.is.made in
      clash (is_under w lines k top inc) mine (earlier_out w lines h k top c.is inc (omega (arith, number, up, same)))

  -- from the call's beginning on
  made_then : (n : ℕ) (line : Line) → k ≤ n → slice_get lines n ≡ Some line → makes_object (done_call line) ≡ true
      → is_made_under w lines k top (state_at w lines n).next_name ≡ is_under w lines k top line.inc
  made_then n line late is makes =
      let j : ℕ = n - k in
      let e : n ≡ k + j = omega (arith, late) in
      let same : after_lines w (machine_at w lines k) (take j (drop k lines)) ≡ machine_at w lines n = part_after w (opened w) lines k j n e in
      subst (λ (m : Machine). is_made_under w lines k top m.state.next_name ≡ is_under w lines k top line.inc) same
      (maker_same w (machine_at w lines k) (drop k lines) (steps_then w lines h k top c.is) (sound_at w lines k h) (is_under w lines k top) j line
      (get_part lines k j n e ∙ is) makes)

  made_new : (n : ℕ) (line : Line) (o : Object) → slice_get lines n ≡ Some line → is_under w lines k top line.inc ≡ true → makes_object (done_call line) ≡ true
      → IsMadeObject (state_at w lines n) line.inc (done_call line) o → is_made_under w lines k top (state_at w lines n).next_name ≡ true
  made_new n line o is mine makes made = elim (cases_lt n k) [
    | inl early ↦ let led = maker_walked (state_at w lines n) line.inc (done_call line) o made in absurd (none_before n line.inc led.0 led.1.0 early mine led.1.1)
    | inr late ↦ made_then n line late is makes ∙ mine
  ]

-- ---- the law

-- nothing names what does not stand
unnamed : (w : WorldValue) (lines : List Line) → AreStepsOf w lines → IsWorld w → (moment : ℕ) (name : Name)
    → stands (state_at w lines moment) name ≡ false → is_among name (names_with (state_at w lines moment) (state_at w lines moment).objects) ≡ false
unnamed w lines h world moment name gone =
    let s : State = state_at w lines moment in
    let none : supports s everything name ≡ false =
    false_from_ne_true (supports s everything name) (λ g. true≢false (sym (((kept_law w world lines h moment).exactly name).1 g) ∙ gone)) in
    ap (λ (os : List (Name × Object)). is_among name (names_with s os)) (sym (of_all s.objects)) ∙ (or_parts (is_opening s name) _ none).1

pub untouched : (w : WorldValue) (lines : List Line) → AreStepsOf w lines → IsWorld w → UntouchedLaw w lines
untouched w lines h world k top c moment g name not_made not_reached = by (leaves_others w lines h moment g.line g.is name)
  where
    s : State
    s = state_at w lines moment

    t : State
    t = state_at w lines (suc moment)

    by : Becomes s g.line t.objects name → IsUntouched s t name
    by (Stays same) = inl same
    by (Goes before lets made stood gone) = inr (record {
      stood = ap is_some stood;
      made = made;
      gone = ap is_some gone;
      unnamed = unnamed w lines h world (suc moment) name (ap is_some gone);
    })
    by (Changes before after told stood stays kind) = elim (confinement w lines h world k top c moment name (record { line = g.line; is = g.is; under = g.under; changes = told })) [
      | inl made ↦ clash (is_made_under w lines k top name) made not_made
      | inr reached ↦ absurd (not_reached reached)
    ]
    by (IsNew new makes same none stands no_procedure made) =
        clash (is_made_under w lines k top name)
        (subst (λ (n : Name). is_made_under w lines k top n ≡ true) (sym same) (made_new w lines h k top c moment g.line new g.is g.under makes made)) not_made
