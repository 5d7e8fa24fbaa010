-- What rows get by the rules follows, where all that they tell follows.
use Rattle.std.proofs.Common.{◌≡◌, ℕ, ◌+◌, ◌<◌, List, length, Bool, true, false, Option, Some, None, refl, sym, ◌∙◌, ap, subst, arith, bit_and, bit_or, cond}
use Rattle.std.specs.Prelude.{IsTrue, slice_get, ◌||◌, ◌&&◌, ◌==◌, is_some, option_map}
use mathlib.Core.Logic.{inl, inr}
use Rattle.std.proofs.lemmas.Bool.{true≢false, false≢true}
use Rattle.std.proofs.lemmas.Bool.Decides.{nat_tests}
use Rattle.std.proofs.lemmas.Option.{slice_get_within, get_or_from_slice_get}
use Rattle.hk_model.specs.declared.names.Name.{Name}
use Rattle.hk_model.specs.declared.entries.Entry.{Entry}
use Rattle.hk_model.specs.declared.entries.Entry.TheVariants as entry
use Rattle.hk_model.specs.declared.entries.Param.{Param}
use Rattle.hk_model.specs.declared.entries.Template.TheVariants as template
use Rattle.hk_rights.specs.Rights.{has, all_rights, all_but, minus, special_rights, HasAll, IsRightsWord, ENV, load_right, copy_right, modify_right, env_right, unconf_right}
use Rattle.hk_rights.specs.Rights.{a0_right, store_right, append_right}
use Rattle.hk_rights.proofs.Sets.{has-bit_or_cases, has-bit_and_left, has-bit_and_right, left_of, right_of}
use Rattle.hk_model.specs.WorldValue.{WorldValue, IsWorld}
use Rattle.hk_model.specs.Opening.{opening}
use Rattle.hk_model.specs.Walking.{reduced_rights}
use Rattle.hk_model.specs.Merging.{merged_rights}
use Rattle.hk_model.specs.Targets.{PROCEDURE, is_general, is_listed}
use Rattle.hk_model.specs.Places.{Place, EntryOf, standing}
use Rattle.hk_model.proofs.NamesGiven.{IsBelow, opening_given}
use Rattle.hk_bound.specs.declared.forms.Form.{Form}
use Rattle.hk_bound.specs.declared.gaps.Taking.{Taking}
use Rattle.hk_bound.specs.Taking.{Old, MadeBy, Holder, Slots, ListOf, Has, Right, Amplifies, Follows, at_opening, type_of, open_has, open_gives, open_form}
use Rattle.hk_bound.specs.Taking.{made_has, made_gives, enter_param, merge_gives}
use Rattle.hk_bound.specs.Columns.{name_at, proc_at, opening_entries, opening_params, object_count, thing_count, width_of, cell, ThingFollows, CellFollows, RowsFollow}
use Rattle.hk_bound.specs.Forms.{param_form}
use Rattle.hk_bound.specs.Rules.{env_in, stores_in, taking_of, IsHeld, ListedWithEnv, Passes, share_made}
use Rattle.hk_bound.proofs.Opened.{opening_next}
use Rattle.hk_bound.proofs.Bounded.{lacks}
use Rattle.hk_bound.proofs.Passing.{load_follows, enter_follows, store_follows, copy_follows, load_made}

pub same_some : {A : Type 0} {x y : A} → ◌≡◌ {A = Option A} (Some x) (Some y) → x ≡ y
same_some e = cc

module _ (w : WorldValue) (forms : List Form) where
  -- ---- the opening

  -- what a holder opens with
  pub held_follows : (h : Holder) (index : ℕ) (e : Entry) (column rights : ℕ) → at_opening w h index ≡ e → IsBelow (object_count w) e → IsHeld w forms e column rights
      → CellFollows w forms h column rights
  held_follows h index entry.Empty column rights at below held = absurd held
  held_follows h index (entry.Held cap) column rights at below held = rw (held.0, held.1) (record {
    old = λ low. record { had = open_has h index cap at; given = λ n is there. open_gives h index cap n at is there };
    made = λ maker low e. absurd (omega (arith, below, e));
    form = λ place f at e env. absurd (omega (arith, below, e));
  })
  held_follows h index (entry.Form (template.Amplify None check give)) column rights at below held = absurd held
  held_follows h index (entry.Form (template.Amplify (Some of) check give)) column rights at below held = let is = held.0.2 in record {
    old = λ low. absurd (omega (arith, is, low));
    made = λ maker low e. absurd (omega (arith, is, low, e));
    form = λ place f at' e env.
        let same : place ≡ held.0.0 = omega (arith, is, e) in
        let form : record { of = of; check = check; give = give } ≡ f = same_some (sym held.0.1.is ∙ subst (λ k. slice_get forms k ≡ Some f) same at') in
        subst (λ (g : Form). Follows w (Amplifies h g.of g.check g.give)) form (open_form h index of check give at);
  }
  held_follows h index (entry.Form (template.Create of give)) column rights at below held = absurd held

  pub held_column : (e : Entry) (column rights : ℕ) → IsBelow (object_count w) e → IsHeld w forms e column rights → column < width_of w forms
  held_column entry.Empty column rights below held = absurd held
  held_column (entry.Held cap) column rights below held = let e = held.0 in omega (arith, below, e)
  held_column (entry.Form (template.Amplify None check give)) column rights below held = absurd held
  held_column (entry.Form (template.Amplify (Some of) check give)) column rights below held =
      let e = held.0.2 in let r = slice_get_within forms held.0.0 (record { of = of; check = check; give = give }) held.0.1.is in omega (arith, e, r)
  held_column (entry.Form (template.Create of give)) column rights below held = absurd held

  pub opens_below : IsWorld w → (p : Place) → IsBelow (object_count w) (standing (opening w) p)
  opens_below world p = subst (λ high. IsBelow high (standing (opening w) p)) (opening_next w) ((opening_given w world).entries p)

  pub entry_below : IsWorld w → (name index : ℕ) (e : Entry) → slice_get (opening_entries w name) index ≡ Some e → IsBelow (object_count w) e
  entry_below world name index e at =
      subst (IsBelow (object_count w)) (get_or_from_slice_get (opening_entries w name) index e entry.Empty at) (opens_below world (EntryOf (name_at name) index))

  -- an entry of an object
  pub entry_follows : IsWorld w → (name index : ℕ) (e : Entry) (column rights : ℕ) → slice_get (opening_entries w name) index ≡ Some e → IsHeld w forms e column rights
      → CellFollows w forms (ListOf (Old (name_at name))) column rights
  entry_follows world name index e column rights at held =
      held_follows (ListOf (Old (name_at name))) index e column rights (get_or_from_slice_get (opening_entries w name) index e entry.Empty at)
      (entry_below world name index e at) held

  module _ (rows : List (List (Option ℕ))) (follow : RowsFollow w forms rows) where
    -- a right of a cell
    cell_right : (p name by n : ℕ) → name < object_count w → cell rows p name ≡ Some by → IsTrue (has all_rights n) → IsTrue (has by n)
        → Follows w (Right (Slots (proc_at p)) (Old (name_at name)) n)
    cell_right p name by n low e is there = ((follow p name by e).old low).given n is there

    -- ---- what is stored

    pub stored_follows : (q name column r : ℕ) → name < object_count w → stores_in (type_of w (name_at name)) (cell rows q name) ≡ true → IsTrue (has r env_right)
        → CellFollows w forms (Slots (proc_at q)) column r → CellFollows w forms (ListOf (Old (name_at name))) column r
    stored_follows q name column r low stores env h = by (cell rows q name) refl stores
      where
        by : (o : Option ℕ) → cell rows q name ≡ o → stores_in (type_of w (name_at name)) o ≡ true → CellFollows w forms (ListOf (Old (name_at name))) column r
        by None e s = absurd (false≢true s)
        by (Some b) e s =
            let of : Name = type_of w (name_at name) in
            let l : is_listed (type_of w (name_at name)) ≡ true = left_of (is_listed of) (has b modify_right && (has b store_right || has b append_right)) s in
            let rest : (has b modify_right && (has b store_right || has b append_right)) ≡ true = right_of (is_listed of)
            (has b modify_right && (has b store_right || has b append_right)) s in
            let m : has b modify_right ≡ true = left_of (has b modify_right) (has b store_right || has b append_right) rest in
            put b e l m (has b store_right) refl (right_of (has b modify_right) (has b store_right || has b append_right) rest)
          where
            put : (b : ℕ) → cell rows q name ≡ Some b → is_listed (type_of w (name_at name)) ≡ true → has b modify_right ≡ true → (x : Bool) → has b store_right ≡ x
                → (x || has b append_right) ≡ true → CellFollows w forms (ListOf (Old (name_at name))) column r
            put b e l m true f g =
                store_follows w forms q (Old (name_at name)) store_right column r l (cell_right q name b modify_right low e refl m) refl
                (cell_right q name b store_right low e refl f) env h
            put b e l m false f g =
                store_follows w forms q (Old (name_at name)) append_right column r l (cell_right q name b modify_right low e refl m) refl
                (cell_right q name b append_right low e refl g) env h

    -- ---- what is taken

    -- the list of an object has ENV for a column
    abbrev pub HasEnvAt : ℕ → ℕ → Type 0
    HasEnvAt name column = (s : ℕ) × IsTrue (has s env_right) × CellFollows w forms (ListOf (Old (name_at name))) column s

    pub listed_follows : IsWorld w → (name column : ℕ) → name < object_count w → ListedWithEnv w forms rows name column → HasEnvAt name column
    listed_follows world name column low (inl o) = (o.rights, o.env, entry_follows world name o.index o.item column o.rights o.at o.held)
    listed_follows world name column low (inr t) = by (cell rows t.process column) refl t.env
      where
        by : (o : Option ℕ) → cell rows t.process column ≡ o → env_in o ≡ true → HasEnvAt name column
        by None e h = absurd (false≢true h)
        by (Some r) e h = (r, h, stored_follows t.process name column r low t.stores h (follow t.process column r e))

    pub taking_follows : (p name : ℕ) (t : Taking) (column r : ℕ) → p < length w.tasks → name < object_count w → taking_of (type_of w (name_at name)) (cell rows p name) ≡ Some t
        → (t.copied ≡ true → HasEnvAt name column) → CellFollows w forms (ListOf (Old (name_at name))) column r
        → CellFollows w forms (Slots (proc_at p)) column (reduced_rights t.by r)
    taking_follows p name t column r runs low takes env h = by (cell rows p name) refl takes
      where
        of : Name
        of = type_of w (name_at name)

        entered : (b : ℕ) → cell rows p name ≡ Some b → ((type_of w (name_at name)).0 == PROCEDURE && has b a0_right) ≡ true → record { by = bit_or b ENV; copied = false } ≡ t
            → CellFollows w forms (Slots (proc_at p)) column (reduced_rights t.by r)
        entered b e test same = subst (λ (x : Taking). CellFollows w forms (Slots (proc_at p)) column (reduced_rights x.by r)) same
            (enter_follows w forms p name (bit_or b ENV) column r
            (let k = left_of ((type_of w (name_at name)).0 == PROCEDURE) (has b a0_right) test in grind (arith, nat_tests, k))
            (cell_right p name b a0_right low e refl (right_of ((type_of w (name_at name)).0 == PROCEDURE) (has b a0_right) test))
            (λ u. cell_right p name b unconf_right low e refl (elim (has-bit_or_cases b ENV unconf_right u) [ inl k ↦ k | inr k ↦ absurd (false≢true k) ]))
            h)

        loaded : (b : ℕ) → cell rows p name ≡ Some b → has b load_right ≡ true → record { by = b; copied = false } ≡ t
            → CellFollows w forms (Slots (proc_at p)) column (reduced_rights t.by r)
        loaded b e load same = subst (λ (x : Taking). CellFollows w forms (Slots (proc_at p)) column (reduced_rights x.by r)) same
            (load_follows w forms p (Old (name_at name)) b column r (cell_right p name b load_right low e refl load) (λ u. cell_right p name b unconf_right low e refl u)
            (λ u. cell_right p name b env_right low e refl u) h)

        copies : (b : ℕ) → cell rows p name ≡ Some b → (is_general (type_of w (name_at name)) && (has b copy_right && has b env_right)) ≡ true
            → record { by = b; copied = true } ≡ t → CellFollows w forms (Slots (proc_at p)) column (reduced_rights t.by r)
        copies b e test same =
            let g = left_of (is_general (type_of w (name_at name))) (has b copy_right && has b env_right) test in
            let rest = right_of (is_general (type_of w (name_at name))) (has b copy_right && has b env_right) test in
            let at : HasEnvAt name column = env (ap (λ (x : Taking). x.copied) (sym same)) in
            subst (λ (x : Taking). CellFollows w forms (Slots (proc_at p)) column (reduced_rights x.by r)) same
            (copy_follows w forms p (Old (name_at name)) b column r at.0 runs g
            (cell_right p name b copy_right low e refl (left_of (has b copy_right) (has b env_right) rest))
            (cell_right p name b env_right low e refl (right_of (has b copy_right) (has b env_right) rest))
            (λ u. cell_right p name b unconf_right low e refl u) at.1 at.2 h)

        cases : (b : ℕ) → cell rows p name ≡ Some b → (x y z : Bool) → ((type_of w (name_at name)).0 == PROCEDURE && has b a0_right) ≡ x → has b load_right ≡ y
            → (is_general (type_of w (name_at name)) && (has b copy_right && has b env_right)) ≡ z
            → cond x (Some (record { by = bit_or b ENV; copied = false }))
            (cond y (Some (record { by = b; copied = false })) (cond z (Some (record { by = b; copied = true })) None)) ≡ Some t
            → CellFollows w forms (Slots (proc_at p)) column (reduced_rights t.by r)
        cases b e true y z f g k same = entered b e f (same_some same)
        cases b e false true z f g k same = loaded b e g (same_some same)
        cases b e false false true f g k same = copies b e k (same_some same)
        cases b e false false false f g k same = absurd (cc)

        by : (o : Option ℕ) → cell rows p name ≡ o → taking_of (type_of w (name_at name)) o ≡ Some t → CellFollows w forms (Slots (proc_at p)) column (reduced_rights t.by r)
        by None e s = absurd (cc)
        by (Some b) e s =
            cases b e ((type_of w (name_at name)).0 == PROCEDURE && has b a0_right) (has b load_right)
            (is_general (type_of w (name_at name)) && (has b copy_right && has b env_right)) refl refl refl s

    -- what one process takes of what another stores
    pub taking_passes : (p q name : ℕ) (t : Taking) → p < length w.tasks → name < object_count w → stores_in (type_of w (name_at name)) (cell rows q name) ≡ true
        → taking_of (type_of w (name_at name)) (cell rows p name) ≡ Some t → Passes w forms p q t.by
    taking_passes p q name t runs low stores takes column r env h =
        let stored = stored_follows q name column r low stores env h in
        taking_follows p name t column r runs low takes (λ k. (r, env, stored)) stored

    -- and all where one of them has what the other makes
    pub made_passes : (p q : ℕ) → p < length w.tasks → q < length w.tasks → share_made w rows p q ≡ true → Passes w forms p q all_rights
    made_passes p q p_runs q_runs share column r env h = by (cell rows p (object_count w + q)) (cell rows q (object_count w + p)) refl refl share
      where
        had : (a b x : ℕ) → b < length w.tasks → cell rows a (object_count w + b) ≡ Some x → Follows w (Has (Slots (proc_at a)) (MadeBy (proc_at b)))
        had a b x runs e = ((follow a (object_count w + b) x e).made b runs refl).had

        store : (maker : ℕ) → Follows w (Has (Slots (proc_at q)) (MadeBy (proc_at maker))) → CellFollows w forms (ListOf (MadeBy (proc_at maker))) column r
        store maker m =
            store_follows w forms q (MadeBy (proc_at maker)) store_right column r refl (made_gives (Slots (proc_at q)) (proc_at maker) modify_right m refl) refl
            (made_gives (Slots (proc_at q)) (proc_at maker) store_right m refl) env h

        by : (a b : Option ℕ) → cell rows p (object_count w + q) ≡ a → cell rows q (object_count w + p) ≡ b → (is_some a || is_some b) ≡ true
            → CellFollows w forms (Slots (proc_at p)) column (reduced_rights all_rights r)
        by (Some x) b e f g = load_made w forms p q all_rights column r (had p q x q_runs e) (store q (made_has (proc_at q) q_runs))
        by None (Some x) e f g = load_made w forms p p all_rights column r (made_has (proc_at p) p_runs) (store p (had q p x p_runs f))
        by None None e f g = absurd (false≢true g)

    -- ---- templates

    -- what a process has for a merge
    pub merge_follows : (p name by place : ℕ) (f : Form) → name < object_count w → cell rows p name ≡ Some by → slice_get forms place ≡ Some f → f.of ≡ type_of w (name_at name)
        → HasAll by f.check
        → env_in (cell rows p (thing_count w + place)) ≡ true → CellFollows w forms (Slots (proc_at p)) name (merged_rights by (Some f.of) f.give)
    merge_follows p name by place f low e at type checked env = record {
      old = λ l. record {
        had = ((follow p name by e).old low).had;
        given = λ n is there. merge_gives (proc_at p) (name_at name) f.check f.give n low
            (subst (λ (t : Name). Follows w (Amplifies (Slots (proc_at p)) t f.check f.give)) type (has_form (cell rows p (thing_count w + place)) refl env))
            ((follow p name by e).old low).had
            (λ m right asked. cell_right p name by m low e right (checked m asked))
            is (in_give n there) (λ special. cell_right p name by n low e is (in_by n there special));
      };
      made = λ maker l same. absurd (omega (arith, low, same));
      form = λ k g at' same has_env. absurd (omega (arith, low, same));
    }
      where
        has_form : (o : Option ℕ) → cell rows p (thing_count w + place) ≡ o → env_in o ≡ true → Follows w (Amplifies (Slots (proc_at p)) f.of f.check f.give)
        has_form None e h = absurd (false≢true h)
        has_form (Some r) e h = (follow p (thing_count w + place) r e).form place f at refl h

        in_give : (n : ℕ) → has (merged_rights by (Some f.of) f.give) n ≡ true → has f.give n ≡ true
        in_give n there = elim (has-bit_or_cases (minus f.give special_rights) (bit_and (bit_and f.give special_rights) by) n there) [
          | inl k ↦ has-bit_and_left f.give (all_but special_rights) n k
          | inr k ↦ has-bit_and_left f.give special_rights n (has-bit_and_left (bit_and f.give special_rights) by n k)
        ]

        in_by : (n : ℕ) → has (merged_rights by (Some f.of) f.give) n ≡ true → has special_rights n ≡ true → has by n ≡ true
        in_by n there special = elim (has-bit_or_cases (minus f.give special_rights) (bit_and (bit_and f.give special_rights) by) n there) [
          | inl k ↦ absurd (true≢false (sym (has-bit_and_right f.give (all_but special_rights) n k) ∙ lacks special_rights (all_but special_rights) n refl special))
          | inr k ↦ has-bit_and_right (bit_and f.give special_rights) by n k
        ]

  -- a template
  pub form_follows : (h : Holder) (f : Form) (place column : ℕ) → slice_get forms place ≡ Some f → column ≡ thing_count w + place → Follows w (Amplifies h f.of f.check f.give)
      → CellFollows w forms h column ENV
  form_follows h f place column at same follows = record {
    old = λ low. absurd (omega (arith, same, low));
    made = λ maker low e. absurd (omega (arith, same, low, e));
    form = λ k g at' e env.
        let k_is : k ≡ place = omega (arith, same, e) in
        let g_is : f ≡ g = same_some (sym at ∙ subst (λ m. slice_get forms m ≡ Some g) k_is at') in
        subst (λ (x : Form). Follows w (Amplifies h x.of x.check x.give)) g_is follows;
  }

  -- what is made
  pub made_follows : (h : Holder) (maker column : ℕ) → maker < length w.tasks → column ≡ object_count w + maker → Follows w (Has h (MadeBy (proc_at maker)))
      → CellFollows w forms h column all_rights
  made_follows h maker column runs same had = record {
    old = λ low. absurd (omega (arith, same, low));
    made =
        λ m low e. let is : maker ≡ m = omega (arith, same, e) in subst (λ (x : ℕ). ThingFollows w h (MadeBy (proc_at x)) all_rights) is
        (record { had = had; given = λ n right there. made_gives h (proc_at maker) n had right });
    form = λ k g at e env. absurd (omega (arith, runs, same, e));
  }

  -- a parameter of a procedure that is called
  pub param_follows : (p name index : ℕ) (param : Param) (f : Form) → (type_of w (name_at name)).0 ≡ PROCEDURE → Follows w (Right (Slots (proc_at p)) (Old (name_at name)) a0_right)
      → slice_get (opening_params w name) index ≡ Some param
      → param_form param ≡ Some f → Follows w (Amplifies (Slots (proc_at p)) f.of f.check f.give)
  param_follows p name index param f t a is e = by param.of refl e
    where
      by : (o : Option Name) → param.of ≡ o → option_map (λ (of : Name). let x : Form = record { of = of; check = param.check; give = param.give } in x) o ≡ Some f
          → Follows w (Amplifies (Slots (proc_at p)) f.of f.check f.give)
      by None g h = absurd (cc)
      by (Some of) g h =
          let same : record { of = of; check = param.check; give = param.give } ≡ f = same_some h in
          subst (λ (x : Form). Follows w (Amplifies (Slots (proc_at p)) x.of x.check x.give)) same (enter_param (proc_at p) (name_at name) of index param t a is g)

-- a set of rights has no others
pub word_right : (a n : ℕ) → IsRightsWord a → has a n ≡ true → has all_rights n ≡ true
word_right a n word h = has-bit_and_right a all_rights n (subst (λ (b : ℕ). has b n ≡ true) (sym word) h)
