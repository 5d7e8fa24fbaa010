-- Each caller lives, is of the same process, and calls one alone.
use Rattle.std.proofs.Common.{◌≡◌, ◌<◌, ℕ, ◌==◌, List, [], ◌∷◌, ◌++◌, Bool, true, false, Some, None, refl, sym, ◌∙◌, ap, arith}
use Rattle.std.specs.Prelude.{◌⊎◌, IsTrue, not, slice_get, filter, take}
use mathlib.Core.Logic.{inl, inr}
use Rattle.std.specs.Option.{unwrap_or}
use Rattle.std.specs.Map.{lookup, remove_entry}
use Rattle.hk_model.specs.declared.names.Inc.{Inc}
use Rattle.hk_model.specs.declared.names.Proc.{Proc}
use Rattle.hk_model.specs.declared.objects.Incarnation.{Incarnation}
use Rattle.hk_model.specs.declared.lines.Line.{Line}
use Rattle.hk_model.specs.WorldValue.{WorldValue}
use Rattle.hk_model.specs.State.{State, same_inc, no_incarnation}
use Rattle.hk_model.specs.Under.{is_live}
use Rattle.hk_model.specs.Opening.{opening}
use Rattle.hk_model.specs.Running.{opened, state_at, AreStepsOf}
use Rattle.hk_model.specs.Shapes.{Lives, IsKin, CallersAreKin}
use Rattle.hk_model.proofs.Standing.{inc_same}
use Rattle.hk_model.proofs.NumbersRise.{NumbersRise}
use Rattle.hk_model.proofs.Activations.{Activation, activation, activations_in, currents_in, look_up}
use Rattle.hk_model.proofs.ActivationLists.{activation_live, activations_apart, left_found, left_keeps, halted_found, halted_keeps}
use Rattle.hk_model.proofs.Stacks.{IsStacked, found_last}
use Rattle.hk_model.proofs.Turns.{Turn, Still, Enter, Leave, Halt}
use Rattle.hk_model.proofs.Steps.{each_more, state_kept, first_steps}
use Rattle.hk_model.proofs.Histories.{Sound, LineKnown, known_each, opening_sound, base_found}
use Rattle.hk_model.proofs.Linked.{look_up_left, some_same, found_incarnation, found_activation}

-- who is found under this number
record Found (fs : List (Inc × Activation)) (i : Inc) : Type 0 where
  is : Activation
  found : look_up i fs ≡ Some is

abbrev CallersLive : List (Inc × Activation) → Type 0
CallersLive fs = (i j : Inc) (x : Activation) → look_up i fs ≡ Some x → x.caller ≡ Some j → Found fs j

-- ---- each turn keeps it

module _ (s : State) (line : Line) (t : State) (n : NumbersRise s) (stacked : IsStacked s) (live : CallersLive (activations_in s.incarnations)) where
  abbrev fs : List (Inc × Activation)
  fs = activations_in s.incarnations

  abbrev cur : List Inc
  cur = currents_in s.processes

  abbrev called : Activation
  called = record { proc = line.proc; caller = Some line.inc }

  abbrev more : List (Inc × Activation)
  more = fs ++ (s.next_inc, called) ∷ []

  entered_live : IsTrue (is_live s line.inc) → CallersLive more
  entered_live lives i j x h c = by (found_last fs s.next_inc i called x h)
    where
      by : (look_up i fs ≡ Some x) ⊎ ((i ≡ s.next_inc) × (called ≡ x)) → Found more j
      by (inl g) = let y = live i j x g c in record { is = y.is; found = look_up_left fs ((s.next_inc, called) ∷ []) j y.is y.found }
      by (inr g) =
          let same : line.inc ≡ j = some_same (ap (λ (a : Activation). a.caller) g.1 ∙ c) in
          let there = activation_live s.incarnations line.inc lives in
          let x : Activation = activation (unwrap_or (lookup (same_inc line.inc) s.incarnations) no_incarnation) in
          record { is = x; found = look_up_left fs ((s.next_inc, called) ∷ []) j x (ap (λ (k : Inc). look_up k fs) (sym same) ∙ there) }

  left_live : slice_get cur line.proc.0 ≡ Some line.inc → CallersLive (remove_entry (same_inc line.inc) fs)
  left_live now i j x h c =
      let there = left_found fs line.inc i x (activations_apart s n) h in
      by there.0 (live i j x there.0 c) (same_inc line.inc j) refl
    where
      by : look_up i fs ≡ Some x → Found fs j → (b : Bool) → same_inc line.inc j ≡ b → Found (remove_entry (same_inc line.inc) fs) j
      by f y false e = record { is = y.is; found = left_keeps fs line.inc j y.is (activations_apart s n) y.found e }
      by f y true e =
          let same : line.inc ≡ j = inc_same line.inc j e in
          let here : slice_get cur line.proc.0 ≡ Some j = now ∙ ap Some same in
          let own : y.is.proc.0 ≡ line.proc.0 = stacked.own line.proc.0 j y.is here y.found in
          let kin : y.is.proc.0 ≡ x.proc.0 = stacked.kin i j x y.is f c y.found in
          let most = stacked.top i j x f (ap (slice_get cur) (sym kin ∙ own) ∙ here) in
          let low = stacked.caller_below i j x f c in
          absurd (omega (arith, most, low))

  halted_live : CallersLive (filter (λ (e : Inc × Activation). not (e.1.proc.0 == line.proc.0)) fs)
  halted_live i j x h c =
      let there = halted_found fs line.proc.0 i x (activations_apart s n) h in
      let y = live i j x there.0 c in
      let kin : y.is.proc.0 ≡ x.proc.0 = stacked.kin i j x y.is there.0 c y.found in
      record { is = y.is; found = halted_keeps fs line.proc.0 j y.is (activations_apart s n) y.found (ap (λ (q : ℕ). q == line.proc.0) kin ∙ there.1) }

  turn_live : Turn s line t → CallersLive (activations_in t.incarnations)
  turn_live (Still q e) = rw q.activations live
  turn_live (Enter e) = rw e.activations (entered_live e.live)
  turn_live (Leave e) = rw e.activations (left_live e.now)
  turn_live (Halt e) = rw e.activations halted_live

-- ---- every moment

opening_live : (w : WorldValue) → CallersLive (activations_in (opening w).incarnations)
unfolding opening
opening_live w i j x h c = let r = base_found 0 w.tasks i x h in let clash : None ≡ Some j = sym r.1 ∙ c in absurd (cc)

abbrev LiveState : State → Type 0
LiveState s = Sound s × CallersLive (activations_in s.incarnations)

live_at : (w : WorldValue) (lines : List Line) (moment : ℕ) → AreStepsOf w lines → LiveState (state_at w lines moment)
unfolding opened
live_at w lines moment h =
    state_kept LiveState
    (each_more (λ s line t. Sound s → LineKnown s line t) (λ s line t. LiveState s → LiveState t)
    (λ s line t k g. ((k g.0).after, turn_live s line t g.0.rises g.0.stacked g.1 (k g.0).turn)) known_each)
    w (opened w) (take moment lines) (first_steps w (opened w) lines moment h) (opening_sound w, opening_live w)

-- ---- what that says of a state

module _ (s : State) (stacked : IsStacked s) (live : CallersLive (activations_in s.incarnations)) where
  caller_is : (i caller : Inc) (x : Incarnation) → Lives s i x → x.caller ≡ Some caller → IsKin s caller x.proc
  caller_is i caller x h c =
      let here = found_activation s.incarnations i x h in
      let y = live i caller (activation x) here c in
      let there = found_incarnation s.incarnations caller y.is y.found in
      let kin : y.is.proc.0 ≡ x.proc.0 = stacked.kin i caller (activation x) y.is here c y.found in
      let same : there.0.proc.0 ≡ x.proc.0 = ap (λ (a : Activation). a.proc.0) there.1.1 ∙ kin in
      record { is = there.0; lives = there.1.0; same = ap (λ (q : ℕ). let p : Proc = record { 0 = q } in p) same }

  -- of two that one calls neither is later
  not_later : (i j caller : Inc) (x y : Incarnation) → Lives s i x → Lives s j y → x.caller ≡ Some caller → y.caller ≡ Some caller → j.0 < i.0 → ⊥
  not_later i j caller x y h g c d less =
      let a = found_activation s.incarnations i x h in
      let b = found_activation s.incarnations j y g in
      let z = live i caller (activation x) a c in
      let kin_x : z.is.proc.0 ≡ x.proc.0 = stacked.kin i caller (activation x) z.is a c z.found in
      let kin_y : z.is.proc.0 ≡ y.proc.0 = stacked.kin j caller (activation y) z.is b d z.found in
      let high = stacked.between i j caller (activation x) (activation y) a b (sym kin_y ∙ kin_x) less c in
      let low = stacked.caller_below j caller (activation y) b d in
      omega (arith, high, low)

  callers_are_kin : CallersAreKin s
  callers_are_kin = record {
    live = caller_is;
    one = λ i j caller x y h g c d. by i j (not_later i j caller x y h g c d) (not_later j i caller y x g h d c);
  }
    where
      by : (i j : Inc) → (j.0 < i.0 → ⊥) → (i.0 < j.0 → ⊥) → i ≡ j
      by i j f g = let same : i.0 ≡ j.0 = omega (arith, f, g) in ap (λ (n : ℕ). let k : Inc = record { 0 = n } in k) same

pub callers_at : (w : WorldValue) (lines : List Line) → AreStepsOf w lines → (moment : ℕ) → CallersAreKin (state_at w lines moment)
callers_at w lines steps moment = let h = live_at w lines moment steps in callers_are_kin (state_at w lines moment) h.0.stacked h.1
