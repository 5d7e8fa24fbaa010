-- An incarnation is under a call as its caller is, but for the call itself; what a line enters and returns to.
use Rattle.std.proofs.Common.{◌≡◌, ℕ, List, Bool, true, false, cond, Option, Some, None, sym, ◌∙◌, ap, subst, arith}
use Rattle.std.specs.Prelude.{IsTrue, is_some, not, ◌⊎◌}
use mathlib.Core.Logic.{inl, inr}
use Rattle.std.specs.Option.{option_and_then}
use Rattle.std.specs.Map.{remove_entry}
use Rattle.std.proofs.lemmas.Bool.{true≢false, false≢true}
use Rattle.hk_model.specs.declared.names.Inc.{Inc}
use Rattle.hk_model.specs.declared.names.Slot.{Slot}
use Rattle.hk_model.specs.declared.calls.Call.{Call}
use Rattle.hk_model.specs.declared.calls.Call.TheVariants as call
use Rattle.hk_model.specs.declared.lines.Line.{Line}
use Rattle.hk_model.specs.declared.objects.Incarnation.{Incarnation}
use Rattle.hk_rights.specs.Rights.{has, unconf_right}
use Rattle.hk_model.specs.State.{State, object, incarnation, same_inc}
use Rattle.hk_model.specs.Places.{Place, SlotOf, EntryOf, rights_held, found, named_by}
use Rattle.hk_model.specs.Lines.{done_call, enters_call, leaves_call}
use Rattle.hk_model.specs.Ways.{Way, Inherited, call_way, way, line_way}
use Rattle.hk_model.proofs.Standing.{inc_laws}
use Rattle.hk_model.proofs.NumbersRise.{NumbersRise}
use Rattle.hk_model.proofs.CallPlaces.{GoesTo}
use Rattle.hk_model.proofs.Activations.{look_up, Activation, activation, activations_in}
use Rattle.hk_model.proofs.ActivationLists.{activations_apart, left_found}
use Rattle.hk_model.proofs.Stacks.{lived_before, caller_found}
use Rattle.hk_model.proofs.Turns.{Turn}
use Rattle.hk_model.proofs.UnderLemmas.{some_is, is_some_of}
use Rattle.hk_confine.proofs.Hands.{Calls}
use Rattle.hk_confine.proofs.Doings.{IsEntered, HasDoneThat, call_way_calls, entered_called}
use Rattle.hk_confine.proofs.Settling.{HasNumber}

-- the call lives
abbrev pub Lives : Inc → State → Type 0
Lives call s = IsTrue (is_some (look_up call (activations_in s.incarnations)))

pub lives_before : (s : State) (line : Line) (t : State) → NumbersRise s → Turn s line t → (call : Inc) → HasNumber call s → Lives call t → Lives call s
lives_before s line t n turn call numbered lives = let x = some_is (look_up call (activations_in t.incarnations)) lives in by x.0 (lived_before s line t n turn call x.0 x.1)
  where
    by : (x : Activation) → (look_up call (activations_in s.incarnations) ≡ Some x) ⊎ ((enters_call (done_call line) ≡ true) × (call ≡ s.next_inc) × (x.caller ≡ Some line.inc))
        → Lives call s
    by x (inl a) = is_some_of (look_up call (activations_in s.incarnations)) x a
    by x (inr b) = let same = ap (λ (i : Inc). i.0) b.1 in absurd (omega (arith, numbered, same))

-- what a Leave takes away
left_done : (s : State) (inc : Inc) (o : Option Call) (after : List (Inc × Incarnation)) → HasDoneThat s inc o after → leaves_call o ≡ true
    → activations_in after ≡ remove_entry (same_inc inc) (activations_in s.incarnations)
left_done s inc (Some (call.Leave give)) after done h = done
left_done s inc o after done h = absurd (false≢true h)

module _ (under : Inc → Bool) (top : Inc) where
  -- a live incarnation is under the call as its caller is, but for the call itself
  abbrev pub Family : State → Type 0
  Family s = (i j : Inc) (x : Activation) → look_up i (activations_in s.incarnations) ≡ Some x → x.caller ≡ Some j → (i ≡ top → ⊥) → under i ≡ under j

  pub family_line : (s : State) (line : Line) (t : State) → NumbersRise s → Turn s line t → (enters_call (done_call line) ≡ true → under s.next_inc ≡ under line.inc) → Family s
      → Family t
  family_line s line t n turn child family i j x h called apart = by (lived_before s line t n turn i x h)
    where
      by : (look_up i (activations_in s.incarnations) ≡ Some x) ⊎ ((enters_call (done_call line) ≡ true) × (i ≡ s.next_inc) × (x.caller ≡ Some line.inc)) → under i ≡ under j
      by (inl a) = family i j x a called apart
      by (inr b) = let same : line.inc ≡ j = some_inc (sym b.2 ∙ called) in ap under b.1 ∙ child b.0 ∙ ap under same
        where
          some_inc : {a c : Inc} → ◌≡◌ {A = Option Inc} (Some a) (Some c) → a ≡ c
          some_inc e = cc

  -- while the call lives, a line returns to one that is under it as the line's incarnation is
  pub returns_same : (s : State) (line : Line) (t : State) → NumbersRise s → Family s → HasDoneThat s line.inc (done_call line) t.incarnations → Lives top t
      → leaves_call (done_call line) ≡ true → (i : Inc) → (incarnation s line.inc).caller ≡ Some i → under i ≡ under line.inc
  returns_same s line t n family done lives leaves i h = sym (family line.inc i (activation (incarnation s line.inc)) (caller_found s line.inc i h) h apart)
    where
      apart : line.inc ≡ top → ⊥
      apart e =
          let x = some_is (look_up top (activations_in t.incarnations)) lives in
          let gone = left_done s line.inc (done_call line) t.incarnations done leaves in
          let other : same_inc line.inc top ≡ false =
          (left_found (activations_in s.incarnations) line.inc top x.0 (activations_apart s n) (subst (λ fs. look_up top fs ≡ Some x.0) gone x.1)).1 in
          true≢false (sym (inc_laws.refl top) ∙ subst (λ (j : Inc). same_inc j top ≡ false) e other)

-- ---- what an Enter passes on

entered_calls : (s : State) (inc : Inc) (path args : List ℕ) (into : Slot) (after : List (Inc × Incarnation)) → IsEntered s inc path after → (p : Place) (v : Way)
    → way s inc (call.Enter path args into) p ≡ Some v → Calls s inc v
entered_calls s inc path args into after done (EntryOf name index) v e = absurd (cc)
entered_calls s inc path args into after done (SlotOf i n) v e = by (same_inc i s.next_inc) e
  where
    here : Way
    here = call_way (named_by s inc path) (not (has (rights_held (found s inc path)) unconf_right)) args (object s (named_by s inc path)).params n

    by : (b : Bool)
        → ◌≡◌ {A = Option Way} (cond b (Some (call_way (named_by s inc path) (not (has (rights_held (found s inc path)) unconf_right)) args
        (object s (named_by s inc path)).params n)) None) (Some v)
        → Calls s inc v
    by true f =
        let same : here ≡ v = cc in
        subst (Calls s inc) same
        (call_way_calls s inc (named_by s inc path) (not (has (rights_held (found s inc path)) unconf_right)) (entered_called s inc path after done) args
        (object s (named_by s inc path)).params n)
    by false f = absurd (cc)

-- what is inherited comes from a procedure that the line has called
pub line_calls : (s : State) (line : Line) (after : List (Inc × Incarnation)) → HasDoneThat s line.inc (done_call line) after → (p : Place) (v : Way) → line_way s line p ≡ Some v
    → GoesTo s line.inc (done_call line) v p → Calls s line.inc v
line_calls s line after done p (Inherited procedure index confined) e goes = by (done_call line) done e goes.0
  where
    by : (o : Option Call) → HasDoneThat s line.inc o after → option_and_then (λ c. way s line.inc c p) o ≡ Some (Inherited procedure index confined) → enters_call o ≡ true
        → Calls s line.inc (Inherited procedure index confined)
    by (Some (call.Enter path args into)) d f g = entered_calls s line.inc path args into after d p (Inherited procedure index confined) f
    by o d f g = absurd (false≢true g)
line_calls s line after done p v e goes = tt
