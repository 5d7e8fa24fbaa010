-- What each way of a call that is done has shown.
use Rattle.std.proofs.Common.{◌≡◌, ℕ, zero, suc, List, [], ◌∷◌, length, Bool, true, false, Option, Some, None, Ok, refl, sym, ap, cond, subst}
use Rattle.std.specs.Prelude.{not, ◌⊎◌, slice_get}
use mathlib.Core.Logic.{inl, inr}
use Rattle.hk_model.specs.declared.names.Name.{Name}
use Rattle.hk_model.specs.declared.names.Inc.{Inc}
use Rattle.hk_model.specs.declared.names.Slot.{Slot}
use Rattle.hk_model.specs.declared.entries.Param.{Param}
use Rattle.hk_model.specs.declared.entries.Cap.{Cap}
use Rattle.hk_model.specs.declared.entries.Template.{Template}
use Rattle.hk_model.specs.declared.entries.Template.TheVariants as template
use Rattle.hk_model.specs.declared.entries.Entry.{Entry}
use Rattle.hk_model.specs.declared.entries.Entry.TheVariants.{Empty, Held, Form}
use Rattle.hk_model.specs.declared.calls.Call.{Call}
use Rattle.hk_model.specs.declared.calls.Call.TheVariants as call
use Rattle.hk_rights.specs.Rights.{has, all_rights, COPY, A0, putdata_right, adddata_right, store_right, append_right, kill_right, modify_right, unconf_right, a0_right, a1_right}
use Rattle.hk_model.specs.State.{State, object, incarnation, same_name, same_inc}
use Rattle.hk_model.specs.Walking.{walk}
use Rattle.hk_model.specs.Targets.{TYPE, PROCEDURE, is_general, is_listed, is_of_type, SEMAPHORE, PUTDATA+MODIFY, ADDDATA+MODIFY, STORE+MODIFY, APPEND+MODIFY, KILL+MODIFY}
use Rattle.hk_model.specs.Targets.{MODIFY+A0, MODIFY+A1, ENV+A0}
use Rattle.hk_model.specs.Lines.{changes_path}
use Rattle.hk_model.specs.Places.{Place, SlotOf, EntryOf, standing, rights_held, form_of, walk_end, named_by, found, entry_given}
use Rattle.hk_model.specs.Ways.{Way, Walked, Stored, Lessened, Merged, Inherited, Copied, CopyOf, Created, Formed, Emptied, call_way, returned_way, way, LeadsTo}
use Rattle.hk_model.specs.Descent.{Reduces}
use Rattle.hk_model.proofs.RightsWithin.{Within-has}
use Rattle.hk_model.proofs.WalkLemmas.{IsTarget, walk_reduces}
use Rattle.hk_model.proofs.CallPlaces.{on_way}
use Rattle.hk_bound.specs.Taking.{STORE+APPEND}
use Rattle.hk_bound.specs.Bounds.{word_changes, list_changes, count_changes}
use Rattle.hk_model.proofs.CallShown.{HasTarget, HasForm, Shown}

-- an entry is put into the list of this object
pub record PutsInto (s : State) (inc : Inc) (name : Name) : Type 0 where
  pub path : List ℕ
  pub cap : Cap
  pub leads : LeadsTo s inc path cap
  pub same : name ≡ cap.name
  pub typed : is_listed (object s cap.name).of ≡ true
  pub modify : has cap.rights modify_right ≡ true
  pub how : ℕ
  pub right : has all_rights how ≡ true
  pub puts : has STORE+APPEND how ≡ true
  pub held : has cap.rights how ≡ true

-- the procedure is entered, confined or not
pub record IsEntered (s : State) (inc : Inc) (procedure : Name) (confined : Bool) : Type 0 where
  pub path : List ℕ
  pub cap : Cap
  pub is : IsTarget s inc path (is_of_type PROCEDURE) A0 cap
  pub same : procedure ≡ cap.name
  pub confines : confined ≡ not (has cap.rights unconf_right)

-- the template is one that a path leads to
pub record IsWalkedForm (s : State) (inc : Inc) (form : Param) : Type 0 where
  pub path : List ℕ
  pub leads : walk s inc path ≡ Ok (Form (template.Amplify form.of form.check form.give))

-- or a parameter of a procedure that is entered
pub record IsParamForm (s : State) (inc : Inc) (form : Param) : Type 0 where
  pub procedure : Name
  pub confined : Bool
  pub entered : IsEntered s inc procedure confined
  pub index : ℕ
  pub is : slice_get (object s procedure).params index ≡ Some form

abbrev pub ShownBy : State → Inc → Way → Place → Type 0
ShownBy s inc (Stored slot) (EntryOf name index) = PutsInto s inc name
ShownBy s inc (Stored slot) (SlotOf i n) = Unit {0}
ShownBy s inc (Copied path index) p = HasTarget s inc path is_general COPY
ShownBy s inc (Merged slot form) p = IsWalkedForm s inc form ⊎ IsParamForm s inc form
ShownBy s inc (Inherited procedure index confined) p = IsEntered s inc procedure confined
ShownBy s inc (Formed path kind) p = HasTarget s inc path (is_of_type TYPE) ENV+A0
ShownBy s inc (Walked path) p = Unit {0}
ShownBy s inc (Lessened slot keep) p = Unit {0}
ShownBy s inc (CopyOf path) p = Unit {0}
ShownBy s inc (Created path) p = Unit {0}
ShownBy s inc Emptied p = Unit {0}

stores : (s : State) (inc : Inc) (path : List ℕ) → HasTarget s inc path is_listed STORE+MODIFY → PutsInto s inc (named_by s inc path)
stores s inc path h = record {
  path = path;
  cap = h.cap;
  leads = h.is.leads;
  same = h.is.name;
  typed = h.is.typed;
  modify = Within-has STORE+MODIFY h.cap.rights modify_right h.is.allowed refl refl;
  how = store_right;
  right = refl;
  puts = refl;
  held = Within-has STORE+MODIFY h.cap.rights store_right h.is.allowed refl refl;
}

appends : (s : State) (inc : Inc) (path : List ℕ) → HasTarget s inc path is_listed APPEND+MODIFY → PutsInto s inc (named_by s inc path)
appends s inc path h = record {
  path = path;
  cap = h.cap;
  leads = h.is.leads;
  same = h.is.name;
  typed = h.is.typed;
  modify = Within-has APPEND+MODIFY h.cap.rights modify_right h.is.allowed refl refl;
  how = append_right;
  right = refl;
  puts = refl;
  held = Within-has APPEND+MODIFY h.cap.rights append_right h.is.allowed refl refl;
}

-- what stands at the end of a path to a template is that template
form_stands : (e : Entry) (form : Template) → Reduces e (Form form) → e ≡ Form form
form_stands (Form a) form h = ap Form h
form_stands Empty form h = absurd h
form_stands (Held a) form h = absurd h

walked_form : (s : State) (inc : Inc) (path : List ℕ) → HasForm s inc path → IsWalkedForm s inc (form_of (standing s (walk_end s inc path)))
walked_form s inc path h =
    let form : Template = template.Amplify h.form.of h.form.check h.form.give in
    let there : standing s (walk_end s inc path) ≡ Form form = form_stands (standing s (walk_end s inc path)) form (walk_reduces s inc path (Form form) h.leads) in
    let same : h.form ≡ form_of (standing s (walk_end s inc path)) = sym (ap form_of there) in
    record { path = path; leads = subst (λ (f : Param). walk s inc path ≡ Ok (Form (template.Amplify f.of f.check f.give))) same h.leads }

entered : (s : State) (inc : Inc) (path : List ℕ) → HasTarget s inc path (is_of_type PROCEDURE) A0
    → IsEntered s inc (named_by s inc path) (not (has (rights_held (found s inc path)) unconf_right))
entered s inc path h = record {
  path = path;
  cap = h.cap;
  is = h.is;
  same = h.is.name;
  confines = ap (λ r. not (has (rights_held (entry_given r)) unconf_right)) h.is.leads;
}

-- the ways of a call's slots
call_way_all : (Q : Way → Type 0) (procedure : Name) (confined : Bool) → ((n : ℕ) → Q (Inherited procedure n confined)) → (args : List ℕ) (params : List Param)
    → ((k arg : ℕ) (param : Param) → slice_get params k ≡ Some param → Q (Merged arg param)) → (n : ℕ) → Q (call_way procedure confined args params n)
call_way_all Q procedure confined h [] params g n = h n
call_way_all Q procedure confined h (arg ∷ args) [] g n = h n
call_way_all Q procedure confined h (arg ∷ args) (param ∷ params) g zero = g 0 arg param refl
call_way_all Q procedure confined h (arg ∷ args) (param ∷ params) g (suc n) = call_way_all Q procedure confined h args params (λ k a f e. g (suc k) a f e) n

enter_shown : (s : State) (inc : Inc) (path args : List ℕ) (into : Slot) → HasTarget s inc path (is_of_type PROCEDURE) A0 → (p : Place) (v : Way)
    → way s inc (call.Enter path args into) p ≡ Some v → ShownBy s inc v p
enter_shown s inc path args into h (EntryOf name index) v e = absurd (cc)
enter_shown s inc path args into h (SlotOf i n) v e = by (same_inc i s.next_inc) e
  where
    confined : Bool
    confined = not (has (rights_held (found s inc path)) unconf_right)

    by : (b : Bool)
        → ◌≡◌ {A = Option Way} (cond b (Some (call_way (named_by s inc path) (not (has (rights_held (found s inc path)) unconf_right)) args
        (object s (named_by s inc path)).params n)) None) (Some v)
        → ShownBy s inc v (SlotOf i n)
    by true f =
        let same : call_way (named_by s inc path) (not (has (rights_held (found s inc path)) unconf_right)) args (object s (named_by s inc path)).params n ≡ v = cc in
        let goes = entered s inc path h in
        subst (λ y. ShownBy s inc y (SlotOf i n)) same
        (call_way_all (λ y. ShownBy s inc y (SlotOf i n)) (named_by s inc path) (not (has (rights_held (found s inc path)) unconf_right)) (λ k. goes) args
        (object s (named_by s inc path)).params
        (λ k arg param g. inr (record {
          procedure = named_by s inc path;
          confined = not (has (rights_held (found s inc path)) unconf_right);
          entered = goes;
          index = k;
          is = g;
        })) n)
    by false f = absurd (cc)

copy_shown : (s : State) (inc : Inc) (path : List ℕ) (into : Slot) → HasTarget s inc path is_general COPY → (p : Place) (v : Way) → way s inc (call.Copy path into) p ≡ Some v
    → ShownBy s inc v p
copy_shown s inc path into h (SlotOf i n) v e = on_way (λ q y. ShownBy s inc y q) (SlotOf inc into.0) (SlotOf i n) (CopyOf path) v tt e
copy_shown s inc path into h (EntryOf name index) v e = by (same_name name s.next_name) e
  where
    by : (b : Bool) → ◌≡◌ {A = Option Way} (cond b (Some (Copied path index)) None) (Some v) → ShownBy s inc v (EntryOf name index)
    by true f = let same : Copied path index ≡ v = cc in subst (λ y. ShownBy s inc y (EntryOf name index)) same h
    by false f = absurd (cc)

leave_shown : (s : State) (inc : Inc) (give : Option Slot) (p : Place) (v : Way) → way s inc (call.Leave give) p ≡ Some v → ShownBy s inc v p
leave_shown s inc give p v e = by (incarnation s inc).caller give e
  where
    by : (o : Option Inc) (g : Option Slot) → returned_way o (incarnation s inc).into.0 g p ≡ Some v → ShownBy s inc v p
    by None g f = absurd (cc)
    by (Some caller) None f = absurd (cc)
    by (Some caller) (Some slot) f = on_way (λ q y. ShownBy s inc y q) (SlotOf caller (incarnation s inc).into.0) p (Stored slot.0) v tt f

-- every call
pub way_shown : (s : State) (inc : Inc) (c : Call) → Shown s inc c → (p : Place) (v : Way) → way s inc c p ≡ Some v → ShownBy s inc v p
way_shown s inc (call.Load path into) h p v e = on_way (λ q y. ShownBy s inc y q) (SlotOf inc into.0) p (Walked path) v tt e
way_shown s inc (call.Store path at from) h p v e = on_way (λ q y. ShownBy s inc y q) (EntryOf (named_by s inc path) at) p (Stored from.0) v (stores s inc path h) e
way_shown s inc (call.Append path from) h p v e =
    on_way (λ q y. ShownBy s inc y q) (EntryOf (named_by s inc path) (length (object s (named_by s inc path)).entries)) p (Stored from.0) v (appends s inc path h) e
way_shown s inc (call.Erase path at) h p v e = on_way (λ q y. ShownBy s inc y q) (EntryOf (named_by s inc path) at) p Emptied v tt e
way_shown s inc (call.Drop slot) h p v e = on_way (λ q y. ShownBy s inc y q) (SlotOf inc slot.0) p Emptied v tt e
way_shown s inc (call.Restrict slot keep) h p v e = on_way (λ q y. ShownBy s inc y q) (SlotOf inc slot.0) p (Lessened slot.0 keep) v tt e
way_shown s inc (call.MakeTemplate path kind into) h p v e = on_way (λ q y. ShownBy s inc y q) (SlotOf inc into.0) p (Formed path kind) v h e
way_shown s inc (call.Create path into) h p v e = on_way (λ q y. ShownBy s inc y q) (SlotOf inc into.0) p (Created path) v tt e
way_shown s inc (call.Merge path c into) h p v e =
    on_way (λ q y. ShownBy s inc y q) (SlotOf inc into.0) p (Merged c.0 (form_of (standing s (walk_end s inc path)))) v (inl (walked_form s inc path h)) e
way_shown s inc (call.Copy path into) h p v e = copy_shown s inc path into h p v e
way_shown s inc (call.Enter path args into) h p v e = enter_shown s inc path args into h p v e
way_shown s inc (call.Leave give) h p v e = leave_shown s inc give p v e
way_shown s inc c h p v e = absurd (cc)

-- ---- what is changed

-- the path leads to an object of such a type, which the capability may change by one of these rights
pub record ShowsChangeBy (s : State) (inc : Inc) (path : List ℕ) (types : Name → Bool) (set : ℕ) : Type 0 where
  pub cap : Cap
  pub leads : LeadsTo s inc path cap
  pub typed : types (object s cap.name).of ≡ true
  pub how : ℕ
  pub right : has all_rights how ≡ true
  pub changes : has set how ≡ true
  pub held : has cap.rights how ≡ true

abbrev pub ShowsChange : State → Inc → List ℕ → Type 0
ShowsChange s inc path =
    ShowsChangeBy s inc path is_general word_changes ⊎ (ShowsChangeBy s inc path is_listed list_changes ⊎ ShowsChangeBy s inc path (is_of_type SEMAPHORE) count_changes)

change_by : (s : State) (inc : Inc) (path : List ℕ) (types : Name → Bool) (rights set how : ℕ) → HasTarget s inc path types rights → has all_rights how ≡ true
    → has rights how ≡ true → has set how ≡ true → ShowsChangeBy s inc path types set
change_by s inc path types rights set how h is need of = record {
  cap = h.cap;
  leads = h.is.leads;
  typed = h.is.typed;
  how = how;
  right = is;
  changes = of;
  held = Within-has rights h.cap.rights how h.is.allowed is need;
}

same_path : {x y : List ℕ} → ◌≡◌ {A = Option (List ℕ)} (Some x) (Some y) → x ≡ y
same_path e = cc

pub change_shown : (s : State) (inc : Inc) (c : Call) → Shown s inc c → (path : List ℕ) → changes_path (Some c) ≡ Some path → ShowsChange s inc path
change_shown s inc (call.Put of at word) h path e =
    subst (ShowsChange s inc) (same_path e) (inl (change_by s inc of is_general PUTDATA+MODIFY word_changes putdata_right h refl refl refl))
change_shown s inc (call.Add of word) h path e =
    subst (ShowsChange s inc) (same_path e) (inl (change_by s inc of is_general ADDDATA+MODIFY word_changes adddata_right h refl refl refl))
change_shown s inc (call.Store list at from) h path e =
    subst (ShowsChange s inc) (same_path e) (inr (inl (change_by s inc list is_listed STORE+MODIFY list_changes store_right h refl refl refl)))
change_shown s inc (call.Append list from) h path e =
    subst (ShowsChange s inc) (same_path e) (inr (inl (change_by s inc list is_listed APPEND+MODIFY list_changes append_right h refl refl refl)))
change_shown s inc (call.Erase list at) h path e =
    subst (ShowsChange s inc) (same_path e) (inr (inl (change_by s inc list is_listed KILL+MODIFY list_changes kill_right h refl refl refl)))
change_shown s inc (call.P of) h path e =
    subst (ShowsChange s inc) (same_path e) (inr (inr (change_by s inc of (is_of_type SEMAPHORE) MODIFY+A0 count_changes a0_right h refl refl refl)))
change_shown s inc (call.V of) h path e =
    subst (ShowsChange s inc) (same_path e) (inr (inr (change_by s inc of (is_of_type SEMAPHORE) MODIFY+A1 count_changes a1_right h refl refl refl)))
change_shown s inc c h path e = absurd (cc)
