-- What an event saved and what went by it lead back to the state before it.
use Rattle.std.proofs.Common.{◌≡◌, ◌∙◌, ℕ, ◌+◌, ◌-◌, ◌<◌, ◌≤◌, List, [], ◌∷◌, ◌++◌, length, Bool, true, false, Option, Some, None, Ok, cond, refl, sym, ap, arith, subst}
use Rattle.std.specs.Prelude.{is_some}
use Rattle.std.specs.Map.{lookup}
use Rattle.std.specs.BTreeMap.{insert_entry}
use Rattle.hk_model.specs.declared.names.Name.{Name}
use Rattle.hk_model.specs.declared.names.Inc.{Inc}
use Rattle.hk_model.specs.declared.names.Proc.{Proc}
use Rattle.hk_model.specs.declared.names.Slot.{Slot}
use Rattle.hk_model.specs.declared.calls.Answer.{Answer}
use Rattle.hk_model.specs.declared.calls.Answer.TheVariants.{Done, Word, Waits}
use Rattle.hk_model.specs.declared.calls.Call.{Call}
use Rattle.hk_model.specs.declared.calls.Call.TheVariants as call
use Rattle.hk_model.specs.declared.objects.Object.{Object}
use Rattle.hk_model.specs.declared.objects.Incarnation.{Incarnation}
use Rattle.hk_model.specs.State.{State, put_slot, add_object, same_name, same_inc, name_cmp}
use Rattle.hk_model.specs.Keeping.{restricted}
use Rattle.hk_model.specs.Rule.{outcome, answered, counted, add_beside}
use Rattle.hk_model.specs.Processors.{ended}
use Rattle.hk_plain.specs.declared.changes.Saved.{Saved}
use Rattle.hk_plain.specs.Changes.{unsaved, with_gone, objects_with, incarnations_with, AreNewObjects, AreNewIncarnations, call_saved, halt_saved, slot_saved}
use Rattle.hk_plain.specs.Removing.{Removal, HasObjectsRoom, ObjectsWent, IncarnationsWent, AreBelow, HasRoom, MadeWent, CallWent}
use Rattle.hk_plain.specs.Removing.{removed_at, IsFresh, IsOrderly, LeadsBack, IsUndone, saved_by}
use Rattle.hk_plain.proofs.Went.{found_below}
use Rattle.hk_plain.proofs.WritesTakenBack.{made_slot_back}
use Rattle.hk_plain.proofs.CallsTakenBack.{NothingGoes, call_back}
use Rattle.hk_plain.proofs.GoingTakenBack.{left_of, with_left, leave_back, halt_back}
use Rattle.hk_plain.proofs.ObjectsMany.{call_many, left_many, left_absent, left_next}
use Rattle.hk_plain.proofs.SpareGone.{one_more}

-- the parts of leading back, from the whole state that stands once all is put back
leads : (v : Saved) (s full after : State) (r : Removal) → unsaved v full ≡ s → with_gone r.gone r.left after ≡ full → AreNewObjects r.gone after.objects
    → AreNewIncarnations r.left after.incarnations → AreBelow after.next_inc r.left → LeadsBack v s after r
leads v s full after r back whole objects incarnations below = record {
  back = ap (λ (t : State). record (unsaved v t) { events = s.events }) whole ∙ ap (λ (t : State). record t { events = s.events }) back;
  objects = objects;
  incarnations = incarnations;
  below = below;
}

-- where nothing went
pub nothing_gone : (v : Saved) (s after : State) (r : Removal) → r.gone ≡ [] → r.left ≡ [] → unsaved v after ≡ s → LeadsBack v s after r
nothing_gone v s after r none_gone none_left back =
    leads v s after after r back
    (ap (λ (gone : List (Name × Object)). with_gone gone r.left after) none_gone ∙ ap (λ (left : List (Inc × Incarnation)). with_gone [] left after) none_left)
    (subst (λ (gone : List (Name × Object)). AreNewObjects gone after.objects) (sym none_gone) tt)
    (subst (λ (left : List (Inc × Incarnation)). AreNewIncarnations left after.incarnations) (sym none_left) tt)
    (subst (λ (left : List (Inc × Incarnation)). AreBelow after.next_inc left) (sym none_left) tt)

nothing_went : (v : Saved) (s after : State) (r : Removal) → IsFresh r → unsaved v after ≡ s → LeadsBack v s after r
nothing_went v s after r fresh back = nothing_gone v s after r fresh.gone fresh.left back

-- the next name is no object's
next_absent : (s : State) → IsOrderly s → lookup (same_name s.next_name) s.objects ≡ None
next_absent s orderly = by (lookup (same_name s.next_name) s.objects) refl
  where
    by : (o : Option Object) → lookup (same_name s.next_name) s.objects ≡ o → o ≡ None
    by None is = refl
    by (Some x) is = let below : s.next_name.0 < s.next_name.0 = orderly.given s.next_name (ap is_some is) in absurd (omega arith)

-- where an object was made
made_went : (s : State) (inc : Inc) (into : Slot) (after : State) (old new : Removal) → MadeWent s inc into.0 after old new
    → IsUndone (record (slot_saved s inc into) { made = true }) s after old new
made_went s inc into after old new went orderly fresh =
    leads (record (slot_saved s inc into) { made = true }) s full after new (made_slot_back s inc into went.made went.entry (next_absent s orderly)) whole
    (went.went.are_new fresh.keeps (subst (λ (gone : List (Name × Object)). AreNewObjects gone all) (sym fresh.gone) tt))
    (subst (λ (left : List (Inc × Incarnation)). AreNewIncarnations left after.incarnations) (sym left_is) tt)
    (subst (λ (left : List (Inc × Incarnation)). AreBelow after.next_inc left) (sym left_is) tt)
  where
    full : State
    full = put_slot (add_object s went.made) inc into.0 went.entry

    beside : State
    beside = put_slot (add_beside s went.stay went.made) inc into.0 went.entry

    all : List (Name × Object)
    all = insert_entry name_cmp s.objects s.next_name went.made

    left_is : new.left ≡ []
    left_is = went.went.left ∙ fresh.left

    objects_are : objects_with new.gone beside.objects ≡ all
    objects_are =
        ap (λ (t : State). objects_with new.gone t.objects) (sym went.is)
        ∙ (went.went.put_back fresh.keeps ∙ ap (λ (gone : List (Name × Object)). objects_with gone all) fresh.gone)

    whole : with_gone new.gone new.left after ≡ full
    whole =
        ap (λ (left : List (Inc × Incarnation)). with_gone new.gone left after) left_is
        ∙ (ap (λ (t : State). with_gone new.gone [] t) went.is ∙ ap (λ (objects : List (Name × Object)). record full { objects = objects }) objects_are)

-- what was left
left_is : (old : Removal) (inc : Inc) (o : Option Incarnation) → IsFresh old → (removed_at old inc o).left ≡ left_of inc o
left_is old inc None fresh = fresh.left
left_is old inc (Some x) fresh = by old.keeps fresh.keeps
  where
    kept : Removal
    kept = record old { left = old.left ++ (inc, x) ∷ []; incarnations_room = old.incarnations_room - 1 }

    by : (b : Bool) → b ≡ true → (let r : Removal = cond b kept old in r.left) ≡ (inc, x) ∷ []
    by true is = ap (λ (left : List (Inc × Incarnation)). left ++ (inc, x) ∷ []) fresh.left
    by false is = absurd (cc)

none_gone : (old : Removal) (inc : Inc) (o : Option Incarnation) → (removed_at old inc o).gone ≡ old.gone
none_gone old inc None = refl
none_gone old inc (Some x) = by old.keeps
  where
    kept : Removal
    kept = record old { left = old.left ++ (inc, x) ∷ []; incarnations_room = old.incarnations_room - 1 }

    by : (b : Bool) → (let r : Removal = cond b kept old in r.gone) ≡ old.gone
    by true = refl
    by false = refl

same_keeps : (old : Removal) (inc : Inc) (o : Option Incarnation) → (removed_at old inc o).keeps ≡ old.keeps
same_keeps old inc None = refl
same_keeps old inc (Some x) = by old.keeps
  where
    kept : Removal
    kept = record old { left = old.left ++ (inc, x) ∷ []; incarnations_room = old.incarnations_room - 1 }

    by : (b : Bool) → (let r : Removal = cond b kept old in r.keeps) ≡ old.keeps
    by true = refl
    by false = refl

-- there is room for one object more
room_many : (s after : State) (r : Removal) → HasRoom s r → length after.objects ≤ length s.objects + 1 → HasObjectsRoom r (length after.objects)
room_many s after r room many = λ k. let all : length s.objects + 1 ≤ r.objects_room = room.objects k in omega arith

same_room : (old : Removal) (inc : Inc) (o : Option Incarnation) (many : ℕ) → HasObjectsRoom old many → HasObjectsRoom (removed_at old inc o) many
same_room old inc None many room = room
same_room old inc (Some x) many room = by old.keeps refl
  where
    kept : Removal
    kept = record old { left = old.left ++ (inc, x) ∷ []; incarnations_room = old.incarnations_room - 1 }

    by : (b : Bool) → old.keeps ≡ b → HasObjectsRoom (cond b kept old) many
    by true is = room
    by false is = room

leave_went : (s : State) (proc : Proc) (inc : Inc) (give : Option Slot) (answer : Answer) (after : State) (old new : Removal)
    → outcome s proc inc (call.Leave give) ≡ Ok (answer, after) → new ≡ removed_at old inc (lookup (same_inc inc) s.incarnations)
    → IsUndone (call_saved s proc inc (call.Leave give)) s after old new
leave_went s proc inc give answer after old new is went orderly fresh =
    leads (call_saved s proc inc (call.Leave give)) s (with_left s inc after) after new (leave_back s proc inc give answer after orderly.incarnations is) whole
    (subst (λ (gone : List (Name × Object)). AreNewObjects gone after.objects) (sym gone_is) tt)
    (subst (λ (left : List (Inc × Incarnation)). AreNewIncarnations left after.incarnations) (sym left_are) (new_left (lookup (same_inc inc) s.incarnations)))
    (subst (λ (left : List (Inc × Incarnation)). AreBelow after.next_inc left) (sym left_are) (below_left (lookup (same_inc inc) s.incarnations) refl))
  where
    gone_is : new.gone ≡ []
    gone_is = ap (λ (r : Removal). r.gone) went ∙ (none_gone old inc (lookup (same_inc inc) s.incarnations) ∙ fresh.gone)

    left_are : new.left ≡ left_of inc (lookup (same_inc inc) s.incarnations)
    left_are = ap (λ (r : Removal). r.left) went ∙ left_is old inc (lookup (same_inc inc) s.incarnations) fresh

    whole : with_gone new.gone new.left after ≡ with_left s inc after
    whole =
        ap (λ (gone : List (Name × Object)). with_gone gone new.left after) gone_is
        ∙ ap (λ (left : List (Inc × Incarnation)). with_gone [] left after) left_are

    new_left : (o : Option Incarnation) → AreNewIncarnations (left_of inc o) after.incarnations
    new_left None = tt
    new_left (Some x) = (left_absent s proc inc give answer after orderly.incarnations is, tt)

    below_left : (o : Option Incarnation) → lookup (same_inc inc) s.incarnations ≡ o → AreBelow after.next_inc (left_of inc o)
    below_left None there = tt
    below_left (Some x) there =
        (subst (λ (next : Inc). inc.0 < next.0) (sym (left_next s proc inc give answer after is)) (found_below s.next_inc s.incarnations inc x orderly.entered there), tt)

-- the next number is no live incarnation's
inc_absent : (s : State) → IsOrderly s → lookup (same_inc s.next_inc) s.incarnations ≡ None
inc_absent s orderly = by (lookup (same_inc s.next_inc) s.incarnations) refl
  where
    by : (o : Option Incarnation) → lookup (same_inc s.next_inc) s.incarnations ≡ o → o ≡ None
    by None is = refl
    by (Some x) is = let below : s.next_inc.0 < s.next_inc.0 = found_below s.next_inc s.incarnations s.next_inc x orderly.entered is in absurd (omega arith)

-- what is to hold once a call is answered, and before the objects that nothing names vanish
pub record IsServed (s : State) (v : Saved) (after : State) (old new : Removal) : Type 0 where
  pub keeps : new.keeps ≡ old.keeps
  pub room : HasRoom s old → HasObjectsRoom new (length after.objects)
  pub undone : IsUndone v s after old new

made_served : (s : State) (inc : Inc) (into : Slot) (after : State) (old new : Removal) → MadeWent s inc into.0 after old new
    → IsServed s (record (slot_saved s inc into) { made = true }) after old new
made_served s inc into after old new went = record {
  keeps = went.went.keeps;
  room = λ room.
      went.went.room (λ k. let all : length s.objects + 1 ≤ old.objects_room = room.objects k in
      let more : length (insert_entry name_cmp s.objects s.next_name went.made) ≤ length s.objects + 1 = one_more s.objects s.next_name went.made in omega arith);
  undone = made_went s inc into after old new went;
}

leave_served : (s : State) (proc : Proc) (inc : Inc) (give : Option Slot) (answer : Answer) (after : State) (old new : Removal)
    → outcome s proc inc (call.Leave give) ≡ Ok (answer, after) → new ≡ removed_at old inc (lookup (same_inc inc) s.incarnations)
    → IsServed s (call_saved s proc inc (call.Leave give)) after old new
leave_served s proc inc give answer after old new is went = record {
  keeps = ap (λ (r : Removal). r.keeps) went ∙ same_keeps old inc (lookup (same_inc inc) s.incarnations);
  room = λ room. subst (λ (r : Removal). HasObjectsRoom r (length after.objects)) (sym went)
      (same_room old inc (lookup (same_inc inc) s.incarnations) (length after.objects) (room_many s after old room (left_many s proc inc give answer after is)));
  undone = leave_went s proc inc give answer after old new is went;
}

kept_served : (s : State) (proc : Proc) (inc : Inc) (c : Call) (answer : Answer) (after : State) (old new : Removal) → NothingGoes c
    → outcome s proc inc c ≡ Ok (answer, after) → new ≡ old → IsServed s (call_saved s proc inc c) after old new
kept_served s proc inc c answer after old new none is same = record {
  keeps = ap (λ (r : Removal). r.keeps) same;
  room = λ room. subst (λ (r : Removal). HasObjectsRoom r (length after.objects)) (sym same) (room_many s after old room (call_many s proc inc c answer after none is));
  undone = λ orderly fresh. subst (λ (r : Removal). LeadsBack (call_saved s proc inc c) s after r) (sym same)
      (nothing_went (call_saved s proc inc c) s after old fresh (call_back s proc inc c answer after none (inc_absent s orderly) is));
}

-- every call
pub call_served : (s : State) (proc : Proc) (inc : Inc) (c : Call) (answer : Answer) (after : State) (old new : Removal) → outcome s proc inc c ≡ Ok (answer, after)
    → CallWent s inc c after old new → IsServed s (call_saved s proc inc c) after old new
call_served s proc inc (call.Get of at) answer after old new is went = kept_served s proc inc (call.Get of at) answer after old new tt is went
call_served s proc inc (call.Put of at word) answer after old new is went = kept_served s proc inc (call.Put of at word) answer after old new tt is went
call_served s proc inc (call.Add of word) answer after old new is went = kept_served s proc inc (call.Add of word) answer after old new tt is went
call_served s proc inc (call.Length of) answer after old new is went = kept_served s proc inc (call.Length of) answer after old new tt is went
call_served s proc inc (call.Load from into) answer after old new is went = kept_served s proc inc (call.Load from into) answer after old new tt is went
call_served s proc inc (call.Store list at from) answer after old new is went = kept_served s proc inc (call.Store list at from) answer after old new tt is went
call_served s proc inc (call.Append list from) answer after old new is went = kept_served s proc inc (call.Append list from) answer after old new tt is went
call_served s proc inc (call.Erase list at) answer after old new is went = kept_served s proc inc (call.Erase list at) answer after old new tt is went
call_served s proc inc (call.Drop slot) answer after old new is went = kept_served s proc inc (call.Drop slot) answer after old new tt is went
call_served s proc inc (call.Restrict slot keep) answer after old new is went = kept_served s proc inc (call.Restrict slot keep) answer after old new tt is went
call_served s proc inc (call.Look of) answer after old new is went = kept_served s proc inc (call.Look of) answer after old new tt is went
call_served s proc inc (call.MakeTemplate of kind into) answer after old new is went = kept_served s proc inc (call.MakeTemplate of kind into) answer after old new tt is went
call_served s proc inc (call.Create by into) answer after old new is went = made_served s inc into after old new went
call_served s proc inc (call.Merge with cap into) answer after old new is went = kept_served s proc inc (call.Merge with cap into) answer after old new tt is went
call_served s proc inc (call.Copy of into) answer after old new is went = made_served s inc into after old new went
call_served s proc inc (call.Enter path args into) answer after old new is went = kept_served s proc inc (call.Enter path args into) answer after old new tt is went
call_served s proc inc (call.Leave give) answer after old new is went = leave_served s proc inc give answer after old new is went
call_served s proc inc (call.P of) answer after old new is went = kept_served s proc inc (call.P of) answer after old new tt is went
call_served s proc inc (call.V of) answer after old new is went = kept_served s proc inc (call.V of) answer after old new tt is went
call_served s proc inc call.Yield answer after old new is went = kept_served s proc inc call.Yield answer after old new tt is went

-- ---- what nothing names vanishes

pub vanished : (v : Saved) (s mid : State) (r t : Removal) → r.keeps ≡ true → LeadsBack v s mid r → ObjectsWent mid.objects (restricted mid).objects r t
    → LeadsBack v s (restricted mid) t
vanished v s mid r t keeps back went = record {
  back =
      ap (λ (u : State). record (unsaved v u) { events = s.events }) (ap (λ (left : List (Inc × Incarnation)). with_gone t.gone left (restricted mid)) went.left
      ∙ ap (λ (objects : List (Name × Object)). record (with_gone r.gone r.left mid) { objects = objects }) (went.put_back keeps)) ∙ back.back;
  objects = went.are_new keeps back.objects;
  incarnations = subst (λ (left : List (Inc × Incarnation)). AreNewIncarnations left mid.incarnations) (sym went.left) back.incarnations;
  below = subst (λ (left : List (Inc × Incarnation)). AreBelow mid.next_inc left) (sym went.left) back.below;
}

-- a halt, before that
pub ended_undone : (s : State) (proc : Proc) (old new : Removal) → IncarnationsWent s.incarnations (ended s proc).incarnations old new
    → IsUndone (halt_saved s proc) s (ended s proc) old new
ended_undone s proc old new went orderly fresh =
    leads (halt_saved s proc) s (record (ended s proc) { incarnations = incarnations_with new.left (ended s proc).incarnations }) (ended s proc) new
    (halt_back s proc new.left (went.put_back fresh.keeps ∙ ap (λ (left : List (Inc × Incarnation)). incarnations_with left s.incarnations) fresh.left))
    (ap (λ (gone : List (Name × Object)). with_gone gone new.left (ended s proc)) (went.gone ∙ fresh.gone))
    (subst (λ (gone : List (Name × Object)). AreNewObjects gone (ended s proc).objects) (sym (went.gone ∙ fresh.gone)) tt)
    (went.are_new fresh.keeps (subst (λ (left : List (Inc × Incarnation)). AreNewIncarnations left s.incarnations) (sym fresh.left) tt))
    (went.below s.next_inc orderly.entered (subst (λ (left : List (Inc × Incarnation)). AreBelow s.next_inc left) (sym fresh.left) tt))

-- an answer is no refusal
pub saved_answered : (answer : Answer) (v : Saved) → saved_by (answered answer) v ≡ v
saved_answered Done v = refl
saved_answered (Word word) v = refl
saved_answered Waits v = refl

-- the events count for nothing here
pub counted_back : (v : Saved) (s after : State) (r : Removal) (events : ℕ) → LeadsBack v s after r → LeadsBack v s (counted events after) r
counted_back v s after r events b = record { back = b.back; objects = b.objects; incarnations = b.incarnations; below = b.below }
