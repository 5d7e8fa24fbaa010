-- Where each call that nothing refuses may write: what it changes it reaches with MODIFY.
use Rattle.std.proofs.Common.{◌≡◌, ℕ, zero, suc, ◌-◌, List, [], ◌∷◌, ◌++◌, length, Bool, true, false, Option, Some, None, Ok, refl, sym, ◌∙◌, ap, cond, bit_and, subst}
use Rattle.std.specs.Prelude.{IfOk, not, nat_lt, ◌⊎◌, IsSome}
use mathlib.Core.Logic.{inl, inr}
use Rattle.std.proofs.lemmas.Bool.{false≢true}
use Rattle.hk_model.specs.declared.names.Name.{Name}
use Rattle.hk_model.specs.declared.names.Inc.{Inc}
use Rattle.hk_model.specs.declared.names.Proc.{Proc}
use Rattle.hk_model.specs.declared.names.Slot.{Slot}
use Rattle.hk_model.specs.declared.entries.Cap.{Cap}
use Rattle.hk_model.specs.declared.entries.Param.{Param}
use Rattle.hk_model.specs.declared.calls.Call.{Call}
use Rattle.hk_model.specs.declared.calls.Call.TheVariants as call
use Rattle.hk_model.specs.declared.calls.Answer.TheVariants.{Done, Waits}
use Rattle.hk_model.specs.declared.objects.ProcessState.TheVariants.{Waiting}
use Rattle.hk_rights.specs.Rights.{MODIFY, has, IsRightsWord, unconf_right}
use Rattle.hk_model.specs.State.{State, object, incarnation, process, put_object, put_process, same_name, same_inc}
use Rattle.hk_model.specs.Targets.{SEMAPHORE, is_general, is_listed, is_of_type, PUTDATA+MODIFY, ADDDATA+MODIFY, STORE+MODIFY, APPEND+MODIFY, KILL+MODIFY, MODIFY+A0, MODIFY+A1}
use Rattle.hk_model.specs.Targets.{target}
use Rattle.hk_model.specs.Rule.{outcome, token_given, put_word, add_word, store_entry, append_entry, erase_entry, take_token, give_token}
use Rattle.hk_model.specs.Places.{Place, SlotOf, EntryOf, same_place, standing, rights_held, form_of, walk_end, named_by, found}
use Rattle.hk_model.specs.Lines.{makes_object, enters_call, changes_path}
use Rattle.hk_model.specs.Ways.{Way, Walked, Stored, Lessened, Merged, Inherited, Copied, CopyOf, Created, Formed, Emptied, written, call_way, returned_way, way, Wrote, IsModified}
use Rattle.hk_model.specs.Ways.{IsWritable, IsWrittenBy}
use Rattle.hk_model.proofs.Standing.{name_same, inc_same, place_same}
use Rattle.hk_model.proofs.TestLemmas.{then_is, and_is, ok_each, ok_all, ok_both, ok_more}
use Rattle.hk_model.proofs.RightsWithin.{Within-part}
use Rattle.hk_model.proofs.WalkLemmas.{target_is}
use Rattle.hk_model.proofs.CallWays.{AreApart, outcome_wrote}

-- ---- what is changed is reached with MODIFY

-- the object that the call changes is one for which its path leads to a capability with MODIFY
abbrev pub Modifies : State → Inc → Call → Type 0
Modifies s inc c = (path : List ℕ) → changes_path (Some c) ≡ Some path → IsModified s inc (Some c) (named_by s inc path)

modified : (s : State) (inc : Inc) (c : Call) (path : List ℕ) (types : Name → Bool) (rights : ℕ) (cap : Cap) → changes_path (Some c) ≡ Some path → IsRightsWord rights
    → bit_and rights MODIFY ≡ MODIFY → target s inc path types rights ≡ Ok cap → Modifies s inc c
modified s inc c path types rights cap changes word part t other e =
    let g = target_is s inc path types rights cap t in
    let same : path ≡ other = some_same (sym changes ∙ e) in
    record {
      path = path;
      cap = cap;
      changes = changes;
      leads = g.leads;
      allowed = Within-part rights MODIFY cap.rights word part g.allowed;
      same = ap
          (named_by s inc) (sym same) ∙ g.name;
    }
  where
    some_same : {x y : List ℕ} → ◌≡◌ {A = Option (List ℕ)} (Some x) (Some y) → x ≡ y
    some_same h = cc

puts : (s : State) (inc : Inc) (path : List ℕ) (at word : ℕ) (cap : Cap) → target s inc path is_general PUTDATA+MODIFY ≡ Ok cap → Modifies s inc (call.Put path at word)
puts s inc path at word cap t = modified s inc (call.Put path at word) path is_general PUTDATA+MODIFY cap refl refl refl t

adds : (s : State) (inc : Inc) (path : List ℕ) (word : ℕ) (cap : Cap) → target s inc path is_general ADDDATA+MODIFY ≡ Ok cap → Modifies s inc (call.Add path word)
adds s inc path word cap t = modified s inc (call.Add path word) path is_general ADDDATA+MODIFY cap refl refl refl t

stores : (s : State) (inc : Inc) (path : List ℕ) (at : ℕ) (from : Slot) (cap : Cap) → target s inc path is_listed STORE+MODIFY ≡ Ok cap → Modifies s inc (call.Store path at from)
stores s inc path at from cap t = modified s inc (call.Store path at from) path is_listed STORE+MODIFY cap refl refl refl t

appends : (s : State) (inc : Inc) (path : List ℕ) (from : Slot) (cap : Cap) → target s inc path is_listed APPEND+MODIFY ≡ Ok cap → Modifies s inc (call.Append path from)
appends s inc path from cap t = modified s inc (call.Append path from) path is_listed APPEND+MODIFY cap refl refl refl t

erases : (s : State) (inc : Inc) (path : List ℕ) (at : ℕ) (cap : Cap) → target s inc path is_listed KILL+MODIFY ≡ Ok cap → Modifies s inc (call.Erase path at)
erases s inc path at cap t = modified s inc (call.Erase path at) path is_listed KILL+MODIFY cap refl refl refl t

-- every call
pub outcome_modifies : (s : State) (proc : Proc) (inc : Inc) (c : Call) → IfOk (outcome s proc inc c) (λ f. Modifies s inc c)
unfolding put_word add_word store_entry append_entry erase_entry take_token give_token
outcome_modifies s proc inc (call.Put of at word) = search (then_is, and_is, puts)
outcome_modifies s proc inc (call.Add of word) = search (then_is, and_is, adds)
outcome_modifies s proc inc (call.Store list at from) = search (then_is, and_is, stores)
outcome_modifies s proc inc (call.Append list from) = search (then_is, and_is, appends)
outcome_modifies s proc inc (call.Erase list at) = search (then_is, and_is, erases)
outcome_modifies s proc inc (call.P of) =
    then_is (λ f. Modifies s inc (call.P of)) (target s inc of (is_of_type SEMAPHORE) MODIFY+A0) (λ cap. Ok (elim (nat_lt 0 (object s cap.name).count) [
      | true ↦ (Done, put_object s cap.name (record (object s cap.name) { count = (object s cap.name).count - 1 }))
      | false ↦ (
        Waits,
        put_process (put_object s cap.name (record (object s cap.name) { waiters = (object s cap.name).waiters ++ proc ∷ [] })) proc
            (record (process s proc) { run = Waiting cap.name }),
      )
    ])) (λ cap t. modified s inc (call.P of) of (is_of_type SEMAPHORE) MODIFY+A0 cap refl refl refl t)
outcome_modifies s proc inc (call.V of) =
    then_is (λ f. Modifies s inc (call.V of)) (target s inc of (is_of_type SEMAPHORE) MODIFY+A1) (λ cap. token_given s cap.name (object s cap.name) (object s cap.name).waiters)
    (λ cap t.
    ok_each (λ f. Modifies s inc (call.V of)) (token_given s cap.name (object s cap.name) (object s cap.name).waiters)
    (λ f. modified s inc (call.V of) of (is_of_type SEMAPHORE) MODIFY+A1 cap refl refl refl t))
outcome_modifies s proc inc c = ok_each (λ f. Modifies s inc c) (outcome s proc inc c) (λ f path e. absurd (cc))

-- ---- where it is written

-- each place that a call writes is one that it may
abbrev pub WritesWhere : State → Inc → Call → Type 0
WritesWhere s inc c = (p : Place) → IsSome (way s inc c p) → IsWritable s inc (Some c) p

-- what holds of the place that is written holds of each that has a way
placed : (P : Place → Type 0) (at p : Place) (w : Way) → P at → IsSome (written at p w) → P p
placed P at p w h some = by (same_place p at) refl some
  where
    by : (b : Bool) → same_place p at ≡ b → IsSome (cond b (Some w) None) → P p
    by true e u = subst P (sym (place_same p at e)) h
    by false e u = absurd (false≢true u)

copy_where : (s : State) (inc : Inc) (path : List ℕ) (into : Slot) → WritesWhere s inc (call.Copy path into)
copy_where s inc path into (SlotOf i n) some = placed (IsWritable s inc (Some (call.Copy path into))) (SlotOf inc into.0) (SlotOf i n) (CopyOf path) (inl refl) some
copy_where s inc path into (EntryOf name index) some = by (same_name name s.next_name) refl some
  where
    by : (b : Bool) → same_name name s.next_name ≡ b → IsSome (cond b (Some (Copied path index)) None) → IsWritable s inc (Some (call.Copy path into)) (EntryOf name index)
    by true e u = inl (refl, name_same name s.next_name e)
    by false e u = absurd (false≢true u)

enter_where : (s : State) (inc : Inc) (path args : List ℕ) (into : Slot) → WritesWhere s inc (call.Enter path args into)
enter_where s inc path args into (EntryOf name index) some = absurd (false≢true some)
enter_where s inc path args into (SlotOf i n) some = by (same_inc i s.next_inc) refl some
  where
    by : (b : Bool) → same_inc i s.next_inc ≡ b
        → IsSome (cond b (Some (call_way (named_by s inc path) (not (has (rights_held (found s inc path)) unconf_right)) args (object s (named_by s inc path)).params n)) None)
        → IsWritable s inc (Some (call.Enter path args into)) (SlotOf i n)
    by true e u = inr (inl (refl, inc_same i s.next_inc e))
    by false e u = absurd (false≢true u)

leave_where : (s : State) (inc : Inc) (give : Option Slot) → WritesWhere s inc (call.Leave give)
leave_where s inc give p some = by (incarnation s inc).caller refl give some
  where
    by : (o : Option Inc) → (incarnation s inc).caller ≡ o → (g : Option Slot) → IsSome (returned_way o (incarnation s inc).into.0 g p)
        → IsWritable s inc (Some (call.Leave give)) p
    by None e g u = absurd (false≢true u)
    by (Some caller) e None u = absurd (false≢true u)
    by (Some caller) e (Some slot) u = placed (IsWritable s inc (Some (call.Leave give))) (SlotOf caller (incarnation s inc).into.0) p (Stored slot.0) (inr (inr (refl, e))) u

call_where : (s : State) (inc : Inc) (c : Call) → Modifies s inc c → WritesWhere s inc c
call_where s inc (call.Load path into) m p some = placed (IsWritable s inc (Some (call.Load path into))) (SlotOf inc into.0) p (Walked path) (inl refl) some
call_where s inc (call.Store path at from) m p some =
    placed (IsWritable s inc (Some (call.Store path at from))) (EntryOf (named_by s inc path) at) p (Stored from.0) (inr (m path refl)) some
call_where s inc (call.Append path from) m p some =
    placed (IsWritable s inc (Some (call.Append path from))) (EntryOf (named_by s inc path) (length (object s (named_by s inc path)).entries)) p (Stored from.0)
    (inr (m path refl)) some
call_where s inc (call.Erase path at) m p some = placed (IsWritable s inc (Some (call.Erase path at))) (EntryOf (named_by s inc path) at) p Emptied (inr (m path refl)) some
call_where s inc (call.Drop slot) m p some = placed (IsWritable s inc (Some (call.Drop slot))) (SlotOf inc slot.0) p Emptied (inl refl) some
call_where s inc (call.Restrict slot keep) m p some = placed (IsWritable s inc (Some (call.Restrict slot keep))) (SlotOf inc slot.0) p (Lessened slot.0 keep) (inl refl) some
call_where s inc (call.MakeTemplate path kind into) m p some =
    placed (IsWritable s inc (Some (call.MakeTemplate path kind into))) (SlotOf inc into.0) p (Formed path kind) (inl refl) some
call_where s inc (call.Create path into) m p some = placed (IsWritable s inc (Some (call.Create path into))) (SlotOf inc into.0) p (Created path) (inl refl) some
call_where s inc (call.Merge path c into) m p some =
    placed (IsWritable s inc (Some (call.Merge path c into))) (SlotOf inc into.0) p (Merged c.0 (form_of (standing s (walk_end s inc path)))) (inl refl) some
call_where s inc (call.Copy path into) m p some = copy_where s inc path into p some
call_where s inc (call.Enter path args into) m p some = enter_where s inc path args into p some
call_where s inc (call.Leave give) m p some = leave_where s inc give p some
call_where s inc c m p some = absurd (false≢true some)

-- ---- which way goes where

-- a slot of this incarnation, and an entry of this object's list
abbrev pub SlotIn : Inc → Place → Type 0
SlotIn inc (SlotOf i n) = i ≡ inc
SlotIn inc (EntryOf name index) = ⊥

abbrev pub EntryIn : Name → Place → Type 0
EntryIn name (SlotOf i n) = ⊥
EntryIn name (EntryOf x index) = x ≡ name

-- a slot of the incarnation that an Enter makes
abbrev pub IsNewSlot : State → Option Call → Place → Type 0
IsNewSlot s c p = (enters_call c ≡ true) × SlotIn s.next_inc p

-- what is loaded, lessened, merged or made goes to a slot of the call's own incarnation, parameters and what is inherited
-- to one of the new incarnation, and entries of a copy to the new list; of the other ways it is enough where calls write
abbrev pub GoesTo : State → Inc → Option Call → Way → Place → Type 0
GoesTo s inc c (Walked path) p = SlotIn inc p
GoesTo s inc c (Stored slot) p = Unit {0}
GoesTo s inc c (Lessened slot keep) p = SlotIn inc p
GoesTo s inc c (Merged slot form) p = SlotIn inc p ⊎ IsNewSlot s c p
GoesTo s inc c (Inherited procedure index confined) p = IsNewSlot s c p
GoesTo s inc c (Copied path index) p = (makes_object c ≡ true) × EntryIn s.next_name p
GoesTo s inc c (CopyOf path) p = (makes_object c ≡ true) × SlotIn inc p
GoesTo s inc c (Created path) p = (makes_object c ≡ true) × SlotIn inc p
GoesTo s inc c (Formed path kind) p = SlotIn inc p
GoesTo s inc c Emptied p = Unit {0}

-- what holds of the place and the way that are written holds of each place with its way
pub on_way : (P : Place → Way → Type 0) (at p : Place) (v w : Way) → P at v → written at p v ≡ Some w → P p w
on_way P at p v w h e = by (same_place p at) refl e
  where
    by : (b : Bool) → same_place p at ≡ b → ◌≡◌ {A = Option Way} (cond b (Some v) None) (Some w) → P p w
    by true g f = let same : v ≡ w = cc in subst (λ q. P q w) (sym (place_same p at g)) (subst (λ y. P at y) same h)
    by false g f = absurd (cc)

call_way_goes : (s : State) (inc : Inc) (path args : List ℕ) (into : Slot) (procedure : Name) (confined : Bool) (args_left : List ℕ) (params : List Param) (n m : ℕ)
    → GoesTo s inc (Some (call.Enter path args into)) (call_way procedure confined args_left params n) (SlotOf s.next_inc m)
call_way_goes s inc path args into procedure confined [] params n m = (refl, refl)
call_way_goes s inc path args into procedure confined (arg ∷ rest) [] n m = (refl, refl)
call_way_goes s inc path args into procedure confined (arg ∷ rest) (param ∷ params) zero m = inr (refl, refl)
call_way_goes s inc path args into procedure confined (arg ∷ rest) (param ∷ params) (suc n) m = call_way_goes s inc path args into procedure confined rest params n m

enter_goes : (s : State) (inc : Inc) (path args : List ℕ) (into : Slot) (p : Place) (w : Way) → way s inc (call.Enter path args into) p ≡ Some w
    → GoesTo s inc (Some (call.Enter path args into)) w p
enter_goes s inc path args into (EntryOf name index) w e = absurd (cc)
enter_goes s inc path args into (SlotOf i n) w e = by (same_inc i s.next_inc) refl e
  where
    here : Way
    here = call_way (named_by s inc path) (not (has (rights_held (found s inc path)) unconf_right)) args (object s (named_by s inc path)).params n

    by : (b : Bool) → same_inc i s.next_inc ≡ b
        → ◌≡◌ {A = Option Way} (cond b (Some (call_way (named_by s inc path) (not (has (rights_held (found s inc path)) unconf_right)) args
        (object s (named_by s inc path)).params n)) None) (Some w)
        → GoesTo s inc (Some (call.Enter path args into)) w (SlotOf i n)
    by true g f =
        let same : here ≡ w = cc in
        let new : s.next_inc ≡ i = sym (inc_same i s.next_inc g) in
        subst (λ j. GoesTo s inc (Some (call.Enter path args into)) w (SlotOf j n)) new
        (subst (λ v. GoesTo s inc (Some (call.Enter path args into)) v (SlotOf s.next_inc n)) same
        (call_way_goes s inc path args into (named_by s inc path) (not (has (rights_held (found s inc path)) unconf_right)) args (object s (named_by s inc path)).params n n))
    by false g f = absurd (cc)

copy_goes : (s : State) (inc : Inc) (path : List ℕ) (into : Slot) (p : Place) (w : Way) → way s inc (call.Copy path into) p ≡ Some w → GoesTo s inc (Some (call.Copy path into)) w p
copy_goes s inc path into (SlotOf i n) w e = on_way (λ q v. GoesTo s inc (Some (call.Copy path into)) v q) (SlotOf inc into.0) (SlotOf i n) (CopyOf path) w (refl, refl) e
copy_goes s inc path into (EntryOf name index) w e = by (same_name name s.next_name) refl e
  where
    by : (b : Bool) → same_name name s.next_name ≡ b → ◌≡◌ {A = Option Way} (cond b (Some (Copied path index)) None) (Some w)
        → GoesTo s inc (Some (call.Copy path into)) w (EntryOf name index)
    by true g f = let same : Copied path index ≡ w = cc in subst (λ v. GoesTo s inc (Some (call.Copy path into)) v (EntryOf name index)) same (refl, name_same name s.next_name g)
    by false g f = absurd (cc)

leave_goes : (s : State) (inc : Inc) (give : Option Slot) (p : Place) (w : Way) → way s inc (call.Leave give) p ≡ Some w → GoesTo s inc (Some (call.Leave give)) w p
leave_goes s inc give p w e = by (incarnation s inc).caller give e
  where
    by : (o : Option Inc) (g : Option Slot) → returned_way o (incarnation s inc).into.0 g p ≡ Some w → GoesTo s inc (Some (call.Leave give)) w p
    by None g f = absurd (cc)
    by (Some caller) None f = absurd (cc)
    by (Some caller) (Some slot) f = on_way (λ q v. GoesTo s inc (Some (call.Leave give)) v q) (SlotOf caller (incarnation s inc).into.0) p (Stored slot.0) w tt f

-- every call
pub way_goes : (s : State) (inc : Inc) (c : Call) (p : Place) (w : Way) → way s inc c p ≡ Some w → GoesTo s inc (Some c) w p
way_goes s inc (call.Load path into) p w e = on_way (λ q v. GoesTo s inc (Some (call.Load path into)) v q) (SlotOf inc into.0) p (Walked path) w refl e
way_goes s inc (call.Store path at from) p w e = on_way (λ q v. GoesTo s inc (Some (call.Store path at from)) v q) (EntryOf (named_by s inc path) at) p (Stored from.0) w tt e
way_goes s inc (call.Append path from) p w e =
    on_way (λ q v. GoesTo s inc (Some (call.Append path from)) v q) (EntryOf (named_by s inc path) (length (object s (named_by s inc path)).entries)) p (Stored from.0) w tt e
way_goes s inc (call.Erase path at) p w e = on_way (λ q v. GoesTo s inc (Some (call.Erase path at)) v q) (EntryOf (named_by s inc path) at) p Emptied w tt e
way_goes s inc (call.Drop slot) p w e = on_way (λ q v. GoesTo s inc (Some (call.Drop slot)) v q) (SlotOf inc slot.0) p Emptied w tt e
way_goes s inc (call.Restrict slot keep) p w e = on_way (λ q v. GoesTo s inc (Some (call.Restrict slot keep)) v q) (SlotOf inc slot.0) p (Lessened slot.0 keep) w refl e
way_goes s inc (call.MakeTemplate path kind into) p w e =
    on_way (λ q v. GoesTo s inc (Some (call.MakeTemplate path kind into)) v q) (SlotOf inc into.0) p (Formed path kind) w refl e
way_goes s inc (call.Create path into) p w e = on_way (λ q v. GoesTo s inc (Some (call.Create path into)) v q) (SlotOf inc into.0) p (Created path) w (refl, refl) e
way_goes s inc (call.Merge path c into) p w e =
    on_way (λ q v. GoesTo s inc (Some (call.Merge path c into)) v q) (SlotOf inc into.0) p (Merged c.0 (form_of (standing s (walk_end s inc path)))) w (inl refl) e
way_goes s inc (call.Copy path into) p w e = copy_goes s inc path into p w e
way_goes s inc (call.Enter path args into) p w e = enter_goes s inc path args into p w e
way_goes s inc (call.Leave give) p w e = leave_goes s inc give p w e
way_goes s inc c p w e = absurd (cc)

-- ---- all that a call that nothing refuses has written

-- of every call, whose state has no two incarnations of one number
pub outcome_written : (s : State) (proc : Proc) (inc : Inc) (c : Call) → AreApart s → IfOk (outcome s proc inc c) (λ f. IsWrittenBy s inc c f.1)
outcome_written s proc inc c h =
    ok_more (λ f. ((p : Place) → Wrote s inc (standing s p) (way s inc c p) (standing f.1 p)) × Modifies s inc c) (λ f. IsWrittenBy s inc c f.1) (outcome s proc inc c)
    (λ f g. record { entries = g.0; places = call_where s inc c g.1 })
    (ok_both (λ f. (p : Place) → Wrote s inc (standing s p) (way s inc c p) (standing f.1 p)) (λ f. Modifies s inc c) (outcome s proc inc c)
    (ok_all (λ p f. Wrote s inc (standing s p) (way s inc c p) (standing f.1 p)) (outcome s proc inc c) (λ p. outcome_wrote s proc inc c p h))
    (outcome_modifies s proc inc c))
