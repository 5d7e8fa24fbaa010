-- What is known when a confined call begins: it is alone under itself, nothing was made under it yet, and what it holds with
-- MODIFY or UNCONF are its parameters.
use Rattle.std.proofs.Common.{◌≡◌, ℕ, zero, suc, ◌<◌, List, [], ◌∷◌, length, Bool, true, false, cond, Option, Some, None, refl, sym, ◌∙◌, ap, subst, arith}
use Rattle.std.specs.Prelude.{IsTrue, is_some, not, slice_get, slice_index_or, take, drop, ◌||◌, ◌⊎◌}
use mathlib.Core.Logic.{inl, inr}
use Rattle.std.specs.Option.{unwrap_or, option_and_then}
use Rattle.std.specs.Map.{lookup}
use Rattle.std.proofs.lemmas.Bool.{false≢true, false_from_ne_true}
use Rattle.hk_model.specs.declared.names.Name.{Name}
use Rattle.hk_model.specs.declared.names.Inc.{Inc}
use Rattle.hk_model.specs.declared.names.Slot.{Slot}
use Rattle.hk_model.specs.declared.entries.Cap.{Cap}
use Rattle.hk_model.specs.declared.entries.Param.{Param}
use Rattle.hk_model.specs.declared.entries.Entry.{Entry}
use Rattle.hk_model.specs.declared.entries.Entry.TheVariants.{Empty, Held, Form}
use Rattle.hk_model.specs.declared.calls.Call.{Call}
use Rattle.hk_model.specs.declared.calls.Call.TheVariants as call
use Rattle.hk_model.specs.declared.lines.Line.{Line}
use Rattle.hk_model.specs.declared.objects.Incarnation.{Incarnation}
use Rattle.hk_rights.specs.Rights.{has, modify_right, unconf_right}
use Rattle.hk_model.specs.WorldValue.{WorldValue, IsWorld}
use Rattle.hk_model.specs.State.{State, object, incarnation, same_inc, no_incarnation}
use Rattle.hk_model.specs.Walking.{confined_rights}
use Rattle.hk_model.specs.Merging.{inherited}
use Rattle.hk_model.specs.Places.{Place, SlotOf, EntryOf, standing, is_empty, rights_held, found, named_by, entry_given}
use Rattle.hk_model.specs.Lines.{done_call, enters_call, param_count, line_before}
use Rattle.hk_model.specs.Running.{Machine, opened, machine_at, state_at, AreSteps, AreStepsOf}
use Rattle.hk_model.specs.Under.{is_one_of, under_by, is_under, is_made_under, IsCall, parameters}
use Rattle.hk_model.specs.Reaches.{AreReaches}
use Rattle.hk_model.specs.Ways.{call_way, way, Writes, Wrote}
use Rattle.hk_model.proofs.Standing.{inc_same, inc_laws}
use Rattle.hk_model.proofs.Steps.{moved_holds, line_steps, later_steps, after_next}
use Rattle.hk_model.proofs.Activations.{look_up, activation, activations_in}
use Rattle.hk_model.proofs.ActivationLists.{activation_live}
use Rattle.hk_model.proofs.Stacks.{found_last}
use Rattle.hk_model.proofs.NamesGiven.{IsBelow, NamesGiven}
use Rattle.hk_model.proofs.UnderLemmas.{UnderCall}
use Rattle.hk_model.proofs.Histories.{Sound, LineKnown, enters_turn, sound_at, line_known, given_at, call_begins}
use Rattle.hk_confine.proofs.Hands.{Holds, confined_lacks}
use Rattle.hk_confine.proofs.Doings.{IsEntered, HasDoneThat, done_each}
use Rattle.hk_confine.proofs.Settling.{HasNumber, HasName, settled, under_each, made_later}
use Rattle.hk_confine.proofs.Kept.{Tame, Handed, Kept, clash, holds_all}
use Rattle.hk_confine.proofs.Callers.{Family}

-- ---- what a call inherits

-- a capability has neither right
abbrev pub Lacks : Cap → Type 0
Lacks cap = (has cap.rights modify_right ≡ true → ⊥) × (has cap.rights unconf_right ≡ true → ⊥)

inherited_lacks : (e x : Entry) → x ≡ inherited true e → (cap : Cap) → x ≡ Held cap → Lacks cap
inherited_lacks Empty x h cap g = absurd (cc)
inherited_lacks (Form form) x h cap g = absurd (cc)
inherited_lacks (Held old) x h cap g =
    let same : confined_rights old.rights ≡ cap.rights = rights_same (sym h ∙ g) in (
      λ r. confined_lacks old.rights modify_right refl (ap (λ n. has n modify_right) same ∙ r),
      λ r. confined_lacks old.rights unconf_right refl
          (ap (λ n. has n unconf_right) same ∙ r),
    )
  where
    rights_same : {a b : Cap} → Held a ≡ Held b → a.rights ≡ b.rights
    rights_same e = ap rights_held e

-- a slot of a confined call has a parameter, or what is inherited
call_way_gives : (s : State) (inc : Inc) (procedure : Name) (args : List ℕ) (params : List Param) (n : ℕ) (x : Entry) → Writes s inc (call_way procedure true args params n) x
    → (n < length args) ⊎ ((cap : Cap) → x ≡ Held cap → Lacks cap)
call_way_gives s inc procedure [] params n x h = inr (inherited_lacks (standing s (EntryOf procedure n)) x h)
call_way_gives s inc procedure (arg ∷ args) [] n x h = inr (inherited_lacks (standing s (EntryOf procedure n)) x h)
call_way_gives s inc procedure (arg ∷ args) (param ∷ params) zero x h = inl (omega arith)
call_way_gives s inc procedure (arg ∷ args) (param ∷ params) (suc n) x h = by (call_way_gives s inc procedure args params n x h)
  where
    by : (n < length args) ⊎ ((cap : Cap) → x ≡ Held cap → Lacks cap) → (suc n < length (arg ∷ args)) ⊎ ((cap : Cap) → x ≡ Held cap → Lacks cap)
    by (inl a) = inl (omega (arith, a))
    by (inr b) = inr b

-- ---- what stands in a slot

pub slot_get : (xs : List Entry) (n : ℕ) (cap : Cap) → slice_index_or xs n Empty ≡ Held cap → slice_get xs n ≡ Some (Held cap)
slot_get [] n cap h = absurd (cc)
slot_get (x ∷ xs) zero cap h = cc
slot_get (x ∷ xs) (suc n) cap h = slot_get xs n cap h

first_get : (k n : ℕ) (xs : List Entry) (x : Entry) → n < k → slice_get xs n ≡ Some x → slice_get (take k xs) n ≡ Some x
first_get zero n xs x l h = absurd (omega (arith, l))
first_get (suc k) n [] x l h = absurd (cc)
first_get (suc k) zero (y ∷ xs) x l h = h
first_get (suc k) (suc n) (y ∷ xs) x l h = first_get k n xs x (omega (arith, l)) h

-- who holds something lives
holder_found : (s : State) (i : Inc) (n : ℕ) (cap : Cap) → standing s (SlotOf i n) ≡ Held cap → look_up i (activations_in s.incarnations) ≡ Some (activation (incarnation s i))
holder_found s i n cap h = activation_live s.incarnations i (by (lookup (same_inc i) s.incarnations) h)
  where
    by : (o : Option Incarnation) → slice_index_or (unwrap_or o no_incarnation).slots n Empty ≡ Held cap → IsTrue (is_some o)
    by None g = absurd (cc)
    by (Some x) g = refl

-- ---- the beginning

module _ (w : WorldValue) (lines : List Line) (h : AreStepsOf w lines) (k : ℕ) (top : Inc) (c : IsCall w lines k top) where
  abbrev before : State
  before = state_at w lines c.earlier

  abbrev start : State
  start = state_at w lines k

  abbrev under : Inc → Bool
  under = is_under w lines k top

  abbrev made : Name → Bool
  made = is_made_under w lines k top

  begun : LineKnown before c.line start
  begun = subst (λ n. LineKnown before c.line (state_at w lines n)) (sym c.moment) (line_known w lines c.earlier c.line h c.is)

  done : HasDoneThat before c.line.inc (done_call c.line) start.incarnations
  done = subst (λ n. HasDoneThat before c.line.inc (done_call c.line) (state_at w lines n).incarnations) (sym c.moment)
      (subst (λ (m : Machine). HasDoneThat before c.line.inc (done_call c.line) m.state.incarnations) (sym (after_next w (opened w) lines c.earlier c.line c.is))
      (moved_holds (λ s l t. HasDoneThat s l.inc (done_call l) t.incarnations) done_each w (machine_at w lines c.earlier) c.line
      (line_steps w (opened w) lines c.earlier c.line h c.is)))

  pub steps_then : AreSteps w (machine_at w lines k) (drop k lines)
  steps_then = later_steps w (opened w) lines k h

  pub begins : UnderCall top (incarnation start top).proc.0 (top ∷ []) (activations_in start.incarnations) start.next_inc.0
  begins = call_begins w lines k top h c

  sound : Sound start
  sound = sound_at w lines k h

  -- who has a number then is under the call only if it is the call
  numbered_under : (i : Inc) → HasNumber i start → under i ≡ is_one_of i (top ∷ [])
  numbered_under i e = settled under_by (λ us. is_one_of i us) (HasNumber i) (under_each i) w (machine_at w lines k) (drop k lines) (top ∷ []) steps_then sound e

  -- none that was there before is under it
  pub earlier_out : (i : Inc) → i.0 < top.0 → under i ≡ false
  earlier_out i e = false_from_ne_true (under i) (λ g.
      let last = begins.fresh top begins.itself in
      let numbered : HasNumber i start = omega (arith, e, last) in
      let a = begins.above i (sym (numbered_under i numbered) ∙ g) in omega (arith, a, e))

  -- the callers of those who live
  pub first_family : Family under top start
  first_family i j x g called apart =
      by (found_last (activations_in before.incarnations) before.next_inc i (record { proc = c.line.proc; caller = Some c.line.inc }) x
      (subst (λ fs. look_up i fs ≡ Some x) (enters_turn before c.line start begun.turn c.enters).activations g))
    where
      by : (look_up i (activations_in before.incarnations) ≡ Some x) ⊎ ((i ≡ before.next_inc) × (record { proc = c.line.proc; caller = Some c.line.inc } ≡ x)) → under i ≡ under j
      by (inl a) =
          let stacked = (sound_at w lines c.earlier h).stacked in
          let low = stacked.below i x a in
          let lower = stacked.caller_below i j x a called in
          let same = ap (λ (z : Inc). z.0) c.made in
          earlier_out i (omega (arith, low, same)) ∙ sym (earlier_out j (omega (arith, low, lower, same)))
      by (inr b) = absurd (apart (b.0 ∙ sym c.made))

  -- what was given a name then was not made under it
  not_made : (x : Name) → HasName x start → made x ≡ false
  not_made x e = made_later w (machine_at w lines k) (drop k lines) steps_then sound under x e

  module _ (confined : (incarnation start top).confined ≡ true) (M U : ℕ → Name → Type 0) (rules : AreReaches (state_at w lines) made (parameters w lines k top) k M U) where
    -- the call's own slots
    abbrev FirstOf : Option Call → ℕ → Type 0
    FirstOf o n = (n < param_count o) ⊎ ((cap : Cap) → standing start (SlotOf top n) ≡ Held cap → Lacks cap)

    entered_first : (path args : List ℕ) (into : Slot) (n : ℕ) → IsEntered before c.line.inc path start.incarnations
        → Wrote before c.line.inc (standing before (SlotOf top n)) (way before c.line.inc (call.Enter path args into) (SlotOf top n)) (standing start (SlotOf top n))
        → FirstOf (Some (call.Enter path args into)) n
    entered_first path args into n e g = by_slot (same_inc top before.next_inc) new (not (has (rights_held (found before c.line.inc path)) unconf_right)) confines g
      where
        new : same_inc top before.next_inc ≡ true
        new = ap (λ (i : Inc). same_inc top i) (sym c.made) ∙ inc_laws.refl top

        confines : not (has (rights_held (found before c.line.inc path)) unconf_right) ≡ true
        confines =
            ap (λ r. not (has (rights_held (entry_given r)) unconf_right)) e.leads ∙ sym e.confined ∙ ap (λ (i : Inc). (incarnation start i).confined) (sym c.made) ∙ confined

        nothing : standing start (SlotOf top n) ≡ Empty → FirstOf (Some (call.Enter path args into)) n
        nothing none = inr (λ cap there. absurd (cc))

        by_slot : (b : Bool) → b ≡ true → (flag : Bool) → flag ≡ true
            → Wrote before c.line.inc (standing before (SlotOf top n))
            (cond b (Some (call_way (named_by before c.line.inc path) flag args (object before (named_by before c.line.inc path)).params n)) None) (standing start (SlotOf top n))
            → FirstOf (Some (call.Enter path args into)) n
        by_slot true q true r (inl none) = nothing none
        by_slot true q true r (inr wrote) =
            call_way_gives before c.line.inc (named_by before c.line.inc path) args (object before (named_by before c.line.inc path)).params n (standing start (SlotOf top n)) wrote
        by_slot true q false r wrote = absurd (false≢true r)
        by_slot false q flag r wrote = absurd (false≢true q)

    first_of : (n : ℕ) → FirstOf (done_call c.line) n
    first_of n = by (done_call c.line) c.enters done (begun.writes.entries (SlotOf top n))
      where
        by : (o : Option Call) → enters_call o ≡ true → HasDoneThat before c.line.inc o start.incarnations
            → Wrote before c.line.inc (standing before (SlotOf top n)) (option_and_then (λ d. way before c.line.inc d (SlotOf top n)) o) (standing start (SlotOf top n))
            → FirstOf o n
        by (Some (call.Enter path args into)) e d g = entered_first path args into n d g
        by o e d g = absurd (false≢true e)

    counted : option_and_then done_call (line_before lines k) ≡ done_call c.line
    counted = ap (λ n. option_and_then done_call (line_before lines n)) c.moment ∙ ap (option_and_then done_call) c.is

    first_tame : (n : ℕ) → Holds (Tame made (M k) (U k)) (standing start (SlotOf top n))
    first_tame n = holds_all (Tame made (M k) (U k)) (standing start (SlotOf top n)) (λ cap there. by cap there (first_of n))
      where
        by : (cap : Cap) → standing start (SlotOf top n) ≡ Held cap → FirstOf (done_call c.line) n → Tame made (M k) (U k) cap.name cap.rights
        by cap there (inr lacks) = (λ r. absurd ((lacks cap there).0 r), λ r. absurd ((lacks cap there).1 r))
        by cap there (inl few) =
            let within : n < param_count (option_and_then done_call (line_before lines k)) = rw counted few in
            let param : slice_get (parameters w lines k top) n ≡ Some (Held cap) =
            first_get (param_count (option_and_then done_call (line_before lines k))) n (incarnation start top).slots (Held cap) within
            (slot_get (incarnation start top).slots n cap there) in
            (λ r. inr (rules.param_modify n cap param r), λ r. inr (rules.param_unconf n cap param r))

    pub first_kept : IsWorld w → Kept under made (M k) (U k) start
    first_kept world = record {
      slots = λ i n u. of_call i n u (same_inc i top) refl;
      lists = λ x n m. holds_all (Tame made (M k) (U k)) (standing start (EntryOf x n)) (λ cap e. clash (made x) m (not_made x (given.lists x n (ap is_empty e))));
      other_slots = λ i n u. holds_all (Handed made (M k) (U k)) (standing start (SlotOf i n)) (λ cap e m. clash (made cap.name) m (not_made cap.name (named (SlotOf i n) cap e)));
      other_lists = λ x n u. holds_all (Handed made (M k) (U k)) (standing start (EntryOf x n))
          (λ cap e m. clash (made cap.name) m (not_made cap.name (named (EntryOf x n) cap e)));
    }
      where
        given : NamesGiven start
        given = given_at w lines k world h

        named : (p : Place) (cap : Cap) → standing start p ≡ Held cap → HasName cap.name start
        named p cap e = subst (IsBelow start.next_name.0) e (given.entries p)

        of_call : (i : Inc) (n : ℕ) → under i ≡ true → (b : Bool) → same_inc i top ≡ b → Holds (Tame made (M k) (U k)) (standing start (SlotOf i n))
        of_call i n u true e = subst (λ (j : Inc). Holds (Tame made (M k) (U k)) (standing start (SlotOf j n))) (sym (inc_same i top e)) (first_tame n)
        of_call i n u false e = holds_all (Tame made (M k) (U k)) (standing start (SlotOf i n)) (λ cap there.
            let numbered : HasNumber i start = sound.stacked.below i (activation (incarnation start i)) (holder_found start i n cap there) in
            clash (under i) u (numbered_under i numbered ∙ ap (λ (b : Bool). b || false) e))
