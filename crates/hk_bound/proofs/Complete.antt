-- Rows that keep the rules of every process tell all that follows from the opening.
use Rattle.std.proofs.Common.{◌≡◌, ℕ, zero, suc, ◌+◌, ◌<◌, List, [], ◌∷◌, length, Bool, true, false, Option, Some, None, refl, sym, ◌∙◌, ap, subst, arith, bit_and}
use Rattle.std.proofs.Common.{bit_or}
use Rattle.std.specs.Prelude.{IsSome, slice_get, slice_index_or, ◌⊎◌, ◌||◌, ◌&&◌, ◌==◌, is_some, IfSome}
use mathlib.Core.Logic.{inl, inr}
use Rattle.std.proofs.lemmas.Bool.{true≢false, false≢true}
use Rattle.std.proofs.lemmas.Bool.Decides.{nat_tests}
use Rattle.std.proofs.lemmas.Option.{slice_get_within}
use Rattle.hk_model.specs.declared.names.Name.{Name}
use Rattle.hk_model.specs.declared.names.Proc.{Proc}
use Rattle.hk_model.specs.declared.entries.Cap.{Cap}
use Rattle.hk_model.specs.declared.entries.Entry.{Entry}
use Rattle.hk_model.specs.declared.entries.Entry.TheVariants.{Empty, Held, Form as Templated}
use Rattle.hk_model.specs.declared.entries.Template.TheVariants as template
use Rattle.hk_rights.specs.Rights.{has, all_rights, HasAll, STORE, APPEND, ENV, load_right, copy_right, modify_right, env_right, unconf_right, a0_right}
use Rattle.hk_rights.specs.Rights.{store_right, append_right}
use Rattle.hk_rights.proofs.Sets.{has-bit_or, has-bit_or_cases, or_right, HasAll-from_bit_and, has-pow}
use Rattle.hk_model.specs.WorldValue.{WorldValue, IsWorld}
use Rattle.hk_model.specs.Walking.{reduced_rights}
use Rattle.hk_model.specs.Merging.{merged_rights}
use Rattle.hk_model.specs.Places.{SlotOf, EntryOf, is_empty}
use Rattle.hk_model.proofs.NamesGiven.{IsBelow}
use Rattle.hk_model.specs.Targets.{PROCEDURE, is_general, is_listed}
use Rattle.hk_bound.specs.declared.forms.Form.{Form}
use Rattle.hk_bound.specs.declared.gaps.Taking.{Taking}
use Rattle.hk_bound.specs.Taking.{Thing, Old, MadeBy, Holder, Slots, ListOf, Fact, Has, Right, Amplifies, type_of, STORE+APPEND, confined_away, Follows}
use Rattle.hk_bound.specs.Taking.{at_opening, open_has, open_gives, open_form, made_has, made_gives, load_has, load_gives, load_form, store_has, store_gives, store_form, copy_has}
use Rattle.hk_bound.specs.Taking.{copy_gives, copy_form, enter_has, enter_gives, enter_form, enter_param, merge_gives, make_form}
use Rattle.hk_bound.specs.Forms.{AreForms, IsFirst, param_form}
use Rattle.hk_bound.specs.Columns.{opening_entries, object_count, thing_count, width_of, cell, covers}
use Rattle.hk_bound.specs.Rules.{env_in, stores_in, taking_of, ListedWithEnv, Offered, share_made, through_in, FormRule, ProcessRule}
use Rattle.hk_bound.proofs.Sources.{opens_below}
use Rattle.hk_bound.proofs.TaskSlots.{opens_to}
use Rattle.hk_bound.proofs.Reductions.{reduced_keeps, merged_keeps}

-- ---- cells

-- the cell has the right
abbrev pub HasIn : Option ℕ → ℕ → Type 0
HasIn None n = ⊥
HasIn (Some r) n = has r n ≡ true

offered_some : (o : Option ℕ) (s : ℕ) → covers o s ≡ true → IsSome o
offered_some None s h = absurd (false≢true h)
offered_some (Some r) s h = refl

offered_has : (o : Option ℕ) (s n : ℕ) → covers o s ≡ true → has s n ≡ true → HasIn o n
offered_has None s n h there = absurd (false≢true h)
offered_has (Some r) s n h there = let e : bit_and r s ≡ s = grind (arith, nat_tests, h) in HasAll-from_bit_and r s e n there

env_is : (o : Option ℕ) → HasIn o env_right → env_in o ≡ true
env_is None h = absurd h
env_is (Some r) h = h

-- a cell with ENV
record EnvCell (o : Option ℕ) : Type 0 where
  rights : ℕ
  is : o ≡ Some rights
  env : has rights env_right ≡ true

env_cell : (o : Option ℕ) → env_in o ≡ true → EnvCell o
env_cell None h = absurd (false≢true h)
env_cell (Some r) h = record { rights = r; is = refl; env = h }

record RightCell (o : Option ℕ) (n : ℕ) : Type 0 where
  rights : ℕ
  is : o ≡ Some rights
  there : has rights n ≡ true

right_cell : (o : Option ℕ) (n : ℕ) → HasIn o n → RightCell o n
right_cell None n h = absurd h
right_cell (Some r) n h = record { rights = r; is = refl; there = h }

right_of_cell : (o : Option ℕ) (r n : ℕ) → o ≡ Some r → HasIn o n → has r n ≡ true
right_of_cell o r n e h = subst (λ (o : Option ℕ). HasIn o n) e h

-- ---- how something is taken

record Takes (of : Name) (b : ℕ) : Type 0 where
  taking : Taking
  is : taking_of of (Some b) ≡ Some taking
  more : HasAll taking.by b

record TakesAll (of : Name) (b : ℕ) : Type 0 where
  taking : Taking
  is : taking_of of (Some b) ≡ Some taking
  more : HasAll taking.by b
  all : taking.copied ≡ false

left_has : (a b : ℕ) → HasAll (bit_or a b) a
left_has a b n h = rw (has-bit_or a b n, h) refl

right_has : (a b : ℕ) → HasAll (bit_or a b) b
right_has a b n h = rw (has-bit_or a b n, h) (or_right (has a n) true refl)

self_has : (a : ℕ) → HasAll a a
self_has a n h = h

load_takes : (of : Name) (b : ℕ) → has b load_right ≡ true → TakesAll of b
load_takes of b load = by (of.0 == PROCEDURE && has b a0_right) refl
  where
    by : (x : Bool) → (of.0 == PROCEDURE && has b a0_right) ≡ x → TakesAll of b
    by true e = record { taking = record { by = bit_or b ENV; copied = false }; is = rw e refl; more = left_has b ENV; all = refl }
    by false e = record { taking = record { by = b; copied = false }; is = rw (e, load) refl; more = self_has b; all = refl }

call_takes : (of : Name) (b : ℕ) → of.0 ≡ PROCEDURE → has b a0_right ≡ true → (t : TakesAll of b) × (has t.taking.by env_right ≡ true)
call_takes of b p call =
    let test : (of.0 == PROCEDURE) ≡ true = grind (arith, nat_tests, p) in
    (record { taking = record { by = bit_or b ENV; copied = false }; is = rw (test, call) refl; more = left_has b ENV; all = refl }, right_has b ENV env_right refl)

copy_takes : (of : Name) (b : ℕ) → is_general of ≡ true → has b copy_right ≡ true → has b env_right ≡ true → Takes of b
copy_takes of b g copy env = by (of.0 == PROCEDURE && has b a0_right) (has b load_right) refl refl
  where
    by : (x y : Bool) → (of.0 == PROCEDURE && has b a0_right) ≡ x → has b load_right ≡ y → Takes of b
    by true y e f = record { taking = record { by = bit_or b ENV; copied = false }; is = rw e refl; more = left_has b ENV }
    by false true e f = record { taking = record { by = b; copied = false }; is = rw (e, f) refl; more = self_has b }
    by false false e f = record { taking = record { by = b; copied = true }; is = rw (e, f, g, copy, env) refl; more = self_has b }

takes_at : (of : Name) (o : Option ℕ) (b : ℕ) (t : Taking) → o ≡ Some b → taking_of of (Some b) ≡ Some t → taking_of of o ≡ Some t
takes_at of o b t e h = ap (taking_of of) e ∙ h

stores_is : (of : Name) (o : Option ℕ) (how : ℕ) → is_listed of ≡ true → HasIn o modify_right → has STORE+APPEND how ≡ true → HasIn o how → stores_in of o ≡ true
stores_is of None how l m s h = absurd m
stores_is of (Some b) how l m s h = by (has b store_right) (has b append_right) refl refl
  where
    store_or_append : (how ≡ store_right) ⊎ (how ≡ append_right)
    store_or_append = elim (has-bit_or_cases STORE APPEND how s) [
      | inl k ↦ inl (let e : (how == store_right) ≡ true = sym (has-pow store_right how) ∙ k in grind (arith, nat_tests, e))
      | inr k ↦ inr (let e : (how == append_right) ≡ true = sym (has-pow append_right how) ∙ k in grind (arith, nat_tests, e))
    ]

    by : (x y : Bool) → has b store_right ≡ x → has b append_right ≡ y → (is_listed of && (has b modify_right && (has b store_right || has b append_right))) ≡ true
    by true y e f = rw (l, m, e) refl
    by false true e f = rw (l, m, e, f) refl
    by false false e f = elim store_or_append [
      | inl k ↦ absurd (true≢false (sym (subst (λ (n : ℕ). has b n ≡ true) k h) ∙ e))
      | inr k ↦ absurd (true≢false (sym (subst (λ (n : ℕ). has b n ≡ true) k h) ∙ f))
    ]

-- ---- the first place of a template

same_form : (g f : Form) → g.of.0 ≡ f.of.0 → g.check ≡ f.check → g.give ≡ f.give → g ≡ f
same_form g f a b c =
    ap (λ (n : ℕ). let x : Form = record { of = record { 0 = n }; check = g.check; give = g.give } in x) a
    ∙ (ap (λ (n : ℕ). let x : Form = record { of = f.of; check = n; give = g.give } in x) b ∙ ap (λ (n : ℕ). let x : Form = record { of = f.of; check = f.check; give = n } in x) c)

same_number : (a b : ℕ) → (a ≡ b) ⊎ ((a ≡ b) → ⊥)
same_number a b = by (a == b) refl
  where
    by : (x : Bool) → (a == b) ≡ x → (a ≡ b) ⊎ ((a ≡ b) → ⊥)
    by true e = inl (grind (arith, nat_tests, e))
    by false e = inr (λ h. absurd (true≢false (sym (let k : (a == b) ≡ true = grind (arith, nat_tests, h) in k) ∙ e)))

decide_form : (g f : Form) → (g ≡ f) ⊎ ((g ≡ f) → ⊥)
decide_form g f = by (same_number g.of.0 f.of.0) (same_number g.check f.check) (same_number g.give f.give)
  where
    by : (g.of.0 ≡ f.of.0) ⊎ ((g.of.0 ≡ f.of.0) → ⊥) → (g.check ≡ f.check) ⊎ ((g.check ≡ f.check) → ⊥) → (g.give ≡ f.give) ⊎ ((g.give ≡ f.give) → ⊥) → (g ≡ f) ⊎ ((g ≡ f) → ⊥)
    by (inl a) (inl b) (inl c) = inl (same_form g f a b c)
    by (inr a) b c = inr (λ e. a (ap (λ (x : Form). x.of.0) e))
    by (inl a) (inr b) c = inr (λ e. b (ap (λ (x : Form). x.check) e))
    by (inl a) (inl b) (inr c) = inr (λ e. c (ap (λ (x : Form). x.give) e))

some_form : {x y : Form} → ◌≡◌ {A = Option Form} (Some x) (Some y) → x ≡ y
some_form e = cc

first_of : (forms : List Form) (f : Form) (k : ℕ) → slice_get forms k ≡ Some f → (place : ℕ) × IsFirst forms f place
first_of [] f zero e = absurd (cc)
first_of [] f (suc k) e = absurd (cc)
first_of (g ∷ gs) f zero e = (0, record { is = e; first = λ k h a. absurd (omega (arith, h)) })
first_of (g ∷ gs) f (suc k) e = by (decide_form g f) (first_of gs f k e)
  where
    by : (g ≡ f) ⊎ ((g ≡ f) → ⊥) → (place : ℕ) × IsFirst gs f place → (place : ℕ) × IsFirst (g ∷ gs) f place
    by (inl same) r = (0, record { is = ap Some same; first = λ k h a. absurd (omega (arith, h)) })
    by (inr other) r = (suc r.0, record { is = r.1.is; first = before })
      where
        before : (j : ℕ) → j < suc r.0 → slice_get (g ∷ gs) j ≡ Some f → ⊥
        before zero h a = other (some_form a)
        before (suc j) h a = r.1.first j (omega (arith, h)) a

-- ---- what rows tell

abbrev pub column_of : WorldValue → Thing → ℕ
column_of w (Old x) = x.0
column_of w (MadeBy q) = object_count w + q.0

-- an object of the opening, or what one of the processes makes
abbrev pub IsThing : WorldValue → Thing → Type 0
IsThing w (Old x) = x.0 < object_count w
IsThing w (MadeBy q) = q.0 < length w.tasks

module _ (w : WorldValue) (forms : List Form) (rows : List (List (Option ℕ))) where
  abbrev pub at : Proc → Thing → Option ℕ
  at p x = cell rows p.0 (column_of w x)

  pub record InRow (p : Proc) (y : Thing) (P : Option ℕ → Type 0) : Type 0 where
    pub runs : p.0 < length w.tasks
    pub thing : IsThing w y
    pub there : P (at p y)

  -- what the list of an object has for a thing: by an opening entry, or by what a process may store
  pub data InList (x : Name) (y : Thing) (P : ℕ → Type 0) : Type 0 where
    ByOpening : (index : ℕ) (cap : Cap) → slice_get (opening_entries w x.0) index ≡ Some (Held cap) → y ≡ Old cap.name → IsThing w y → P cap.rights → InList x y P
    ByStore : (q : Proc) (r : ℕ) → q.0 < length w.tasks → IsThing w y → stores_in (type_of w x) (at q (Old x)) ≡ true → at q y ≡ Some r → has r env_right ≡ true → P r
        → InList x y P

  pub record HasForm (p : Proc) (f : Form) : Type 0 where
    pub runs : p.0 < length w.tasks
    pub place : ℕ
    pub is : slice_get forms place ≡ Some f
    pub there : env_in (cell rows p.0 (thing_count w + place)) ≡ true

  pub data InListForm (x : Name) (f : Form) : Type 0 where
    ByEntry : (index : ℕ) → slice_get (opening_entries w x.0) index ≡ Some (Templated (template.Amplify (Some f.of) f.check f.give)) → InListForm x f
    ByStored : (q : Proc) → stores_in (type_of w x) (at q (Old x)) ≡ true → HasForm q f → InListForm x f

  abbrev pub form_at : Name → ℕ → ℕ → Form
  form_at type check give = record { of = type; check = check; give = give }

  abbrev pub Says : Fact → Type 0
  Says (Has (Slots p) y) = InRow p y IsSome
  Says (Right (Slots p) y n) = InRow p y (λ o. HasIn o n)
  Says (Amplifies (Slots p) type check give) = HasForm p (form_at type check give)
  Says (Has (ListOf (MadeBy r)) y) = InRow r y (λ o. HasIn o env_right)
  Says (Right (ListOf (MadeBy r)) y n) = InRow r y (λ o. HasIn o env_right × HasIn o n)
  Says (Amplifies (ListOf (MadeBy r)) type check give) = HasForm r (form_at type check give)
  Says (Has (ListOf (Old x)) y) = InList x y (λ r. Unit {0})
  Says (Right (ListOf (Old x)) y n) = InList x y (λ r. has r n ≡ true)
  Says (Amplifies (ListOf (Old x)) type check give) = InListForm x (form_at type check give)

  module _ (rules : (p : ℕ) → p < length w.tasks → ProcessRule w forms rows p) (are : AreForms w forms) (world : IsWorld w) where
    -- what is taken of what another process stores, through these rights as far as it matters
    abbrev Bits : ℕ → ℕ → Type 0
    Bits by b = (has b unconf_right ≡ true → has by unconf_right ≡ true) × (has b env_right ≡ true → has by env_right ≡ true)

    record Taken (p : ℕ) (column r b : ℕ) : Type 0 where
      by : ℕ
      more : Bits by b
      offered : Offered rows p column (reduced_rights by r)

    bits_of : (by b : ℕ) → HasAll by b → Bits by b
    bits_of by b h = (h unconf_right, h env_right)

    shared : (p q : Proc) (column r b : ℕ) → p.0 < length w.tasks → q.0 < length w.tasks → column < width_of w forms → share_made w rows p.0 q.0 ≡ true
        → cell rows q.0 column ≡ Some r → has r env_right ≡ true → Taken p.0 column r b
    shared p q column r b p_runs q_runs within share e env =
        record { by = all_rights; more = (λ h. refl, λ h. refl); offered = ((rules p.0 p_runs).others q.0 q_runs).made share column within r e env }

    stored : (p q : Proc) (x : Name) (t : Taking) (column r b : ℕ) → p.0 < length w.tasks → q.0 < length w.tasks → x.0 < object_count w → column < width_of w forms
        → stores_in (type_of w x) (cell rows q.0 x.0) ≡ true → taking_of (type_of w x) (cell rows p.0 x.0) ≡ Some t → HasAll t.by b → cell rows q.0 column ≡ Some r
        → has r env_right ≡ true → Taken p.0 column r b
    stored p q x t column r b p_runs q_runs low within stores takes more e env = by (share_made w rows p.0 q.0) refl
      where
        through : through_in (type_of w x) (cell rows p.0 x.0) (cell rows q.0 x.0) ≡ Some t.by
        through = rw (stores, takes) refl

        by : (s : Bool) → share_made w rows p.0 q.0 ≡ s → Taken p.0 column r b
        by true f = shared p q column r b p_runs q_runs within f e env
        by false f =
            let all = ((rules p.0 p_runs).others q.0 q_runs).stored f x.0 t.by low through in
            record {
              by = all.0;
              more = (λ h. all.1.0 (more unconf_right h), λ h. all.1.1 (more env_right h));
              offered = all.2 column within r e env;
            }

    thing_within : (y : Thing) → IsThing w y → column_of w y < width_of w forms
    thing_within (Old x) h = omega (arith, h)
    thing_within (MadeBy q) h = omega (arith, h)

    -- what the list of an object has for a thing is taken
    record Found (p : ℕ) (y : Thing) (b : ℕ) (P : ℕ → Type 0) : Type 0 where
      rights : ℕ
      told : P rights
      taken : Taken p (column_of w y) rights b

    found : (p : Proc) (x : Name) (y : Thing) (t : Taking) (b : ℕ) (P : ℕ → Type 0) → p.0 < length w.tasks → x.0 < object_count w
        → taking_of (type_of w x) (cell rows p.0 x.0) ≡ Some t → HasAll t.by b
        → (t.copied ≡ false) ⊎ ListedWithEnv w forms rows x.0 (column_of w y) → InList x y P → Found p.0 y b P
    found p x y t b P runs low takes more passes (ByOpening index cap is same thing told) = record {
      rights = cap.rights;
      told = told;
      taken = record {
        by = t.by;
        more = bits_of t.by b more;
        offered = ((rules p.0 runs).objects x.0 low).entries t takes index (Held cap) is (column_of w y) cap.rights (ap (column_of w) same, refl) passes;
      };
    }
    found p x y t b P runs low takes more passes (ByStore q r q_runs thing stores e env told) = record {
      rights = r;
      told = told;
      taken = stored p q x t (column_of w y) r b runs q_runs low (thing_within y thing) stores takes more e env;
    }

    list_thing : (x : Name) (y : Thing) (P : ℕ → Type 0) → InList x y P → IsThing w y
    list_thing x y P (ByOpening index cap is same thing told) = thing
    list_thing x y P (ByStore q r q_runs thing stores e env told) = thing

    -- a list that has ENV for a thing
    listed : (x : Name) (y : Thing) → InList x y (λ r. has r env_right ≡ true) → ListedWithEnv w forms rows x.0 (column_of w y)
    listed x y (ByOpening index cap is same thing told) =
        inl (record { index = index; item = Held cap; rights = cap.rights; at = is; held = (ap (column_of w) same, refl); env = told })
    listed x y (ByStore q r q_runs thing stores e env told) = inr (record { process = q.0; runs = q_runs; stores = stores; env = rw e env })

    taken_some : (p column r b : ℕ) → Taken p column r b → IsSome (cell rows p column)
    taken_some p column r b t = offered_some (cell rows p column) (reduced_rights t.by r) t.offered

    taken_has : (p column r b n : ℕ) → Taken p column r b → has all_rights n ≡ true → has r n ≡ true → (has confined_away n ≡ true → has b unconf_right ≡ true)
        → (has ENV n ≡ true → has b env_right ≡ true) → HasIn (cell rows p column) n
    taken_has p column r b n t is there u e =
        offered_has (cell rows p column) (reduced_rights t.by r) n t.offered (reduced_keeps t.by r n is there (λ k. t.more.0 (u k)) (λ k. t.more.1 (e k)))

    -- of what a process makes, by who has it
    share : (p r : Proc) → IsSome (cell rows p.0 (object_count w + r.0)) → share_made w rows p.0 r.0 ≡ true
    share p r h = rw h refl

    share_other : (p r : Proc) → IsSome (cell rows r.0 (object_count w + p.0)) → share_made w rows p.0 r.0 ≡ true
    share_other p r h = or_right (is_some (cell rows p.0 (object_count w + r.0))) (is_some (cell rows r.0 (object_count w + p.0))) h

    has_some : (o : Option ℕ) (n : ℕ) → HasIn o n → IsSome o
    has_some None n h = absurd h
    has_some (Some r) n h = refl

    some_cell : (o : Option ℕ) → IsSome o → (r : ℕ) × (o ≡ Some r)
    some_cell None h = absurd (false≢true h)
    some_cell (Some r) h = (r, refl)

    -- ---- templates

    form_rule : (p : Proc) (f : Form) → p.0 < length w.tasks → FormRule w forms rows p.0 f → HasForm p f
    form_rule p f runs h =
        record {
          runs = runs;
          place = h.0;
          is = h.1;
          there = env_is (cell rows p.0 (thing_count w + h.0))
              (offered_has (cell rows p.0 (thing_count w + h.0)) ENV env_right h.2 refl);
        }

    shared_form : (p q : Proc) (f : Form) → p.0 < length w.tasks → share_made w rows p.0 q.0 ≡ true → HasForm q f → HasForm p f
    shared_form p q f runs share h =
        let b = env_cell (cell rows q.0 (thing_count w + h.place)) h.there in
        let low = slice_get_within forms h.place f h.is in
        let t = shared p q (thing_count w + h.place) b.rights all_rights runs h.runs (omega (arith, low)) share b.is b.env in
        record {
          runs = runs;
          place = h.place;
          is = h.is;
          there = env_is (cell rows p.0 (thing_count w + h.place))
              (taken_has p.0 (thing_count w + h.place) b.rights all_rights env_right t refl b.env (λ k. refl) (λ k. refl));
        }

    found_form : (p : Proc) (x : Name) (t : Taking) (b : ℕ) (f : Form) → p.0 < length w.tasks → x.0 < object_count w → taking_of (type_of w x) (cell rows p.0 x.0) ≡ Some t
        → HasAll t.by b → has b env_right ≡ true
        → (t.copied ≡ false) ⊎ Unit {0} → InListForm x f → HasForm p f
    found_form p x t b f runs low takes more env passes (ByEntry index is) =
        let held = (are.objects x.0 low).entries index (Templated (template.Amplify (Some f.of) f.check f.give)) is in
        let first = first_of forms f held.place held.is in
        let listed : ListedWithEnv w forms rows x.0 (thing_count w + first.0) = inl
        (record { index = index; item = Templated (template.Amplify (Some f.of) f.check f.give); rights = ENV; at = is; held = ((first.0, first.1, refl), refl); env = refl }) in
        let offered = ((rules p.0 runs).objects x.0 low).entries t takes index (Templated (template.Amplify (Some f.of) f.check f.give)) is (thing_count w + first.0) ENV
        ((first.0, first.1, refl), refl) (inr listed) in
        let taken : Taken p.0 (thing_count w + first.0) ENV b = record { by = t.by; more = bits_of t.by b more; offered = offered } in
        record {
          runs = runs;
          place = first.0;
          is = first.1.is;
          there = env_is (cell rows p.0 (thing_count w + first.0))
              (taken_has p.0 (thing_count w + first.0) ENV b env_right taken refl refl (λ k. absurd (false≢true k)) (λ k. env));
        }
    found_form p x t b f runs low takes more env passes (ByStored q stores h) =
        let c = env_cell (cell rows q.0 (thing_count w + h.place)) h.there in
        let within = slice_get_within forms h.place f h.is in
        let taken = stored p q x t (thing_count w + h.place) c.rights b runs h.runs low (omega (arith, within)) stores takes more c.is c.env in
        record {
          runs = runs;
          place = h.place;
          is = h.is;
          there = env_is (cell rows p.0 (thing_count w + h.place))
              (taken_has p.0 (thing_count w + h.place) c.rights b env_right taken refl c.env (λ k. absurd (false≢true k)) (λ k. env));
        }

    -- ---- the opening

    entry_at : (es : List Entry) (k : ℕ) (e : Entry) → slice_index_or es k Empty ≡ e → is_empty e ≡ false → slice_get es k ≡ Some e
    entry_at [] zero e h f = absurd (true≢false (ap is_empty h ∙ f))
    entry_at [] (suc k) e h f = absurd (true≢false (ap is_empty h ∙ f))
    entry_at (x ∷ es) zero e h f = ap Some h
    entry_at (x ∷ es) (suc k) e h f = entry_at es k e h f

    slot_offered : (p : Proc) (index : ℕ) (cap : Cap) → at_opening w (Slots p) index ≡ Held cap → (p.0 < length w.tasks) × Offered rows p.0 cap.name.0 cap.rights
    slot_offered p index cap e =
        let o = opens_to w p.0 index (Held cap) e refl in
        let runs = slice_get_within w.tasks p.0 o.task o.is in
        (runs, (rules p.0 runs).slots o.task o.is o.index (Held cap) o.slot cap.name.0 cap.rights (refl, refl))

    cap_thing : (h : Holder) (index : ℕ) (cap : Cap) → at_opening w h index ≡ Held cap → IsThing w (Old cap.name)
    cap_thing (Slots p) index cap e = subst (IsBelow (object_count w)) e (opens_below w forms world (SlotOf (record { 0 = p.0 }) index))
    cap_thing (ListOf (Old x)) index cap e = subst (IsBelow (object_count w)) e (opens_below w forms world (EntryOf x index))
    cap_thing (ListOf (MadeBy q)) index cap e = absurd (cc)

    -- what one process makes, where another has it
    made_all : (q p : Proc) (n : ℕ) → q.0 < length w.tasks → p.0 < length w.tasks → IsSome (cell rows q.0 (object_count w + p.0)) → has all_rights n ≡ true
        → HasIn (cell rows q.0 (object_count w + p.0)) n
    made_all q p n q_runs runs some is = offered_has (cell rows q.0 (object_count w + p.0)) all_rights n (((rules q.0 q_runs).made p.0 runs).had some) is

    right_is : {h : Holder} {y : Thing} {n : ℕ} → Follows w (Right h y n) → has all_rights n ≡ true
    right_is (open_gives h index cap n e is there) = is
    right_is (made_gives h p n a is) = is
    right_is (load_gives p x y n a b u e) = right_is b
    right_is (store_gives p x y n m l a s b e r) = right_is r
    right_is (copy_gives p x y n v a e r b u) = right_is b
    right_is (enter_gives p q y n t a b u) = right_is b
    right_is (merge_gives p x check give n low f h all is g s) = is

    -- every rule
    pub complete : {f : Fact} → Follows w f → Says f
    complete (open_has (Slots p) index cap e) =
        let o = slot_offered p index cap e in record { runs = o.0; thing = cap_thing (Slots p) index cap e; there = offered_some (cell rows p.0 cap.name.0) cap.rights o.1 }
    complete (open_has (ListOf (Old x)) index cap e) =
        ByOpening index cap (entry_at (opening_entries w x.0) index (Held cap) e refl) refl (cap_thing (ListOf (Old x)) index cap e) tt
    complete (open_has (ListOf (MadeBy r)) index cap e) = absurd (cc)
    complete (open_gives (Slots p) index cap n e is there) =
        let o = slot_offered p index cap e in record { runs = o.0; thing = cap_thing (Slots p) index cap e; there = offered_has (cell rows p.0 cap.name.0) cap.rights n o.1 there }
    complete (open_gives (ListOf (Old x)) index cap n e is there) =
        ByOpening index cap (entry_at (opening_entries w x.0) index (Held cap) e refl) refl (cap_thing (ListOf (Old x)) index cap e) there
    complete (open_gives (ListOf (MadeBy r)) index cap n e is there) = absurd (cc)
    complete (made_has p runs) =
        record { runs = runs; thing = runs; there = offered_some (cell rows p.0 (object_count w + p.0)) all_rights (((rules p.0 runs).made p.0 runs).own refl) }
    complete (made_gives (Slots q) p n a is) = let h = complete a in record { runs = h.runs; thing = h.thing; there = made_all q p n h.runs h.thing h.there is }
    complete (load_has p (Old x) y a h) =
        let c = complete a in
        let b = right_cell (at p (Old x)) load_right c.there in
        let t = load_takes (type_of w x) b.rights b.there in
        let l = complete h in
        let f = found p x y t.taking b.rights (λ r. Unit {0}) c.runs c.thing (takes_at (type_of w x) (at p (Old x)) b.rights t.taking b.is t.is) t.more (inl t.all) l in
        record { runs = c.runs; thing = list_thing x y (λ r. Unit {0}) l; there = taken_some p.0 (column_of w y) f.rights b.rights f.taken }
    complete (load_has p (MadeBy r) y a h) =
        let c = complete a in
        let l = complete h in
        let b = env_cell (at r y) (env_is (at r y) l.there) in
        let t = shared p r (column_of w y) b.rights all_rights c.runs l.runs (thing_within y l.thing) (share p r (has_some (at p (MadeBy r)) load_right c.there)) b.is b.env in
        record { runs = c.runs; thing = l.thing; there = taken_some p.0 (column_of w y) b.rights all_rights t }
    complete (load_gives p (Old x) y n a h u e) =
        let c = complete a in
        let b = right_cell (at p (Old x)) load_right c.there in
        let t = load_takes (type_of w x) b.rights b.there in
        let l = complete h in
        let f = found p x y t.taking b.rights (λ r. has r n ≡ true) c.runs c.thing (takes_at (type_of w x) (at p (Old x)) b.rights t.taking b.is t.is) t.more (inl t.all) l in
        record {
          runs = c.runs;
          thing = list_thing x y (λ r. has r n ≡ true) l;
          there = taken_has p.0 (column_of w y) f.rights b.rights n f.taken (right_is h) f.told
              (λ k. right_of_cell (at p (Old x)) b.rights unconf_right b.is (complete (u k)).there)
              (λ k. right_of_cell (at p (Old x)) b.rights env_right b.is (complete (e k)).there);
        }
    complete (load_gives p (MadeBy r) y n a h u e) =
        let c = complete a in
        let l = complete h in
        let b = env_cell (at r y) (env_is (at r y) l.there.0) in
        let t = shared p r (column_of w y) b.rights all_rights c.runs l.runs (thing_within y l.thing) (share p r (has_some (at p (MadeBy r)) load_right c.there)) b.is b.env in
        record {
          runs = c.runs;
          thing = l.thing;
          there = taken_has p.0 (column_of w y) b.rights all_rights n t (right_is h) (right_of_cell (at r y) b.rights n b.is l.there.1)
              (λ k. refl) (λ k. refl);
        }
    complete (store_has p (Old x) y n l m s a e) =
        let c = complete m in
        let k = complete e in
        let b = env_cell (at p y) (env_is (at p y) k.there) in
        ByStore p b.rights c.runs k.thing (stores_is (type_of w x) (at p (Old x)) n l c.there s (complete a).there) b.is b.env tt
    complete (store_has p (MadeBy r) y n l m s a e) =
        let c = complete m in
        let k = complete e in
        let b = env_cell (at p y) (env_is (at p y) k.there) in
        let t = shared r p (column_of w y) b.rights all_rights c.thing c.runs (thing_within y k.thing)
        (share_other r p (has_some (at p (MadeBy r)) modify_right c.there)) b.is b.env in
        record { runs = c.thing; thing = k.thing; there = taken_has r.0 (column_of w y) b.rights all_rights env_right t refl b.env (λ k. refl) (λ k. refl) }
    complete (store_gives p (Old x) y n v l m s a e h) =
        let c = complete m in
        let k = complete e in
        let b = env_cell (at p y) (env_is (at p y) k.there) in
        ByStore p b.rights c.runs k.thing (stores_is (type_of w x) (at p (Old x)) n l c.there s (complete a).there) b.is b.env
        (right_of_cell (at p y) b.rights v b.is (complete h).there)
    complete (store_gives p (MadeBy r) y n v l m s a e h) =
        let c = complete m in
        let k = complete e in
        let b = env_cell (at p y) (env_is (at p y) k.there) in
        let t = shared r p (column_of w y) b.rights all_rights c.thing c.runs (thing_within y k.thing)
        (share_other r p (has_some (at p (MadeBy r)) modify_right c.there)) b.is b.env in
        record {
          runs = c.thing;
          thing = k.thing;
          there = (
            taken_has r.0 (column_of w y) b.rights all_rights env_right t refl b.env (λ k. refl) (λ k. refl),
            taken_has r.0 (column_of w y) b.rights all_rights v t (right_is h) (right_of_cell (at p y) b.rights v b.is (complete h).there) (λ k. refl) (λ k. refl),
          );
        }
    complete (made_gives (ListOf (Old x)) p n a is) = by (complete a)
      where
        by : InList x (MadeBy p) (λ r. Unit {0}) → InList x (MadeBy p) (λ r. has r n ≡ true)
        by (ByOpening index c e same thing told) = absurd (cc)
        by (ByStore q r q_runs thing stores e env told) = ByStore q r q_runs thing stores e env (right_of_cell (at q (MadeBy p)) r n e (made_all q p n q_runs thing (rw e refl) is))
    complete (made_gives (ListOf (MadeBy r)) p n a is) =
        let h = complete a in record { runs = h.runs; thing = h.thing; there = (h.there, made_all r p n h.runs h.thing (has_some (at r (MadeBy p)) env_right h.there) is) }
    complete (copy_has p (Old x) y v a e h k) =
        let c = complete a in
        let b = right_cell (at p (Old x)) copy_right c.there in
        let env = right_of_cell (at p (Old x)) b.rights env_right b.is (complete e).there in
        let t = copy_takes (type_of w x) b.rights v b.there env in
        let l = complete k in
        let f = found p x y t.taking b.rights (λ r. has r env_right ≡ true) c.runs c.thing (takes_at (type_of w x) (at p (Old x)) b.rights t.taking b.is t.is) t.more
        (inr (listed x y l)) l in
        record {
          runs = c.runs;
          thing = list_thing x y (λ r. has r env_right ≡ true) l;
          there = taken_has p.0 (column_of w y) f.rights b.rights env_right f.taken refl f.told
              (λ k. absurd (false≢true k)) (λ k. env);
        }
    complete (copy_has p (MadeBy r) y v a e h k) =
        let c = complete a in
        let l = complete k in
        let b = env_cell (at r y) (env_is (at r y) l.there.0) in
        let t = shared p r (column_of w y) b.rights all_rights c.runs l.runs (thing_within y l.thing) (share p r (has_some (at p (MadeBy r)) copy_right c.there)) b.is b.env in
        record { runs = c.runs; thing = l.thing; there = taken_has p.0 (column_of w y) b.rights all_rights env_right t refl b.env (λ k. refl) (λ k. refl) }
    complete (copy_gives p (Old x) y n v a e k h u) =
        let c = complete a in
        let b = right_cell (at p (Old x)) copy_right c.there in
        let env = right_of_cell (at p (Old x)) b.rights env_right b.is (complete e).there in
        let t = copy_takes (type_of w x) b.rights v b.there env in
        let l = complete k in
        let m = complete h in
        let passes = listed x y l in
        let takes = takes_at (type_of w x) (at p (Old x)) b.rights t.taking b.is t.is in
        let f = found p x y t.taking b.rights (λ r. has r env_right ≡ true) c.runs c.thing takes t.more (inr passes) l in
        let g = found p x y t.taking b.rights (λ r. has r n ≡ true) c.runs c.thing takes t.more (inr passes) m in
        record {
          runs = c.runs;
          thing = list_thing x y (λ r. has r env_right ≡ true) l;
          there = (
            taken_has p.0 (column_of w y) f.rights b.rights env_right f.taken refl f.told (λ k. absurd (false≢true k)) (λ k. env),
            taken_has p.0 (column_of w y) g.rights b.rights n g.taken (right_is h) g.told
                (λ k. right_of_cell (at p (Old x)) b.rights unconf_right b.is (complete (u k)).there) (λ k. env),
          );
        }
    complete (copy_gives p (MadeBy r) y n v a e k h u) =
        let c = complete a in
        let l = complete k in
        let m = complete h in
        let b = env_cell (at r y) (env_is (at r y) l.there.0) in
        let t = shared p r (column_of w y) b.rights all_rights c.runs l.runs (thing_within y l.thing) (share p r (has_some (at p (MadeBy r)) copy_right c.there)) b.is b.env in
        record {
          runs = c.runs;
          thing = l.thing;
          there = (
            taken_has p.0 (column_of w y) b.rights all_rights env_right t refl b.env (λ k. refl) (λ k. refl),
            taken_has p.0 (column_of w y) b.rights all_rights n t (right_is h) (right_of_cell (at r y) b.rights n b.is m.there.1) (λ k. refl) (λ k. refl),
          );
        }
    complete (enter_has p q y t a h) =
        let c = complete a in
        let b = right_cell (at p (Old q)) a0_right c.there in
        let k = call_takes (type_of w q) b.rights t b.there in
        let l = complete h in
        let f = found p q y k.0.taking k.0.taking.by (λ r. Unit {0}) c.runs c.thing (takes_at (type_of w q) (at p (Old q)) b.rights k.0.taking b.is k.0.is)
        (self_has k.0.taking.by) (inl k.0.all) l in
        record { runs = c.runs; thing = list_thing q y (λ r. Unit {0}) l; there = taken_some p.0 (column_of w y) f.rights k.0.taking.by f.taken }
    complete (enter_gives p q y n t a h u) =
        let c = complete a in
        let b = right_cell (at p (Old q)) a0_right c.there in
        let k = call_takes (type_of w q) b.rights t b.there in
        let l = complete h in
        let f = found p q y k.0.taking k.0.taking.by (λ r. has r n ≡ true) c.runs c.thing (takes_at (type_of w q) (at p (Old q)) b.rights k.0.taking b.is k.0.is)
        (self_has k.0.taking.by) (inl k.0.all) l in
        record {
          runs = c.runs;
          thing = list_thing q y (λ r. has r n ≡ true) l;
          there = taken_has p.0 (column_of w y) f.rights k.0.taking.by n f.taken (right_is h) f.told
              (λ j. k.0.more unconf_right (right_of_cell (at p (Old q)) b.rights unconf_right b.is (complete (u j)).there)) (λ j. k.1);
        }
    complete (merge_gives p x check give n low f h all is g s) =
        let c = complete h in
        let t = complete f in
        let b = some_cell (at p (Old x)) c.there in
        let rule = ((rules p.0 c.runs).objects x.0 low).merges b.0 b.1 t.place (slice_get_within forms t.place (form_at (type_of w x) check give) t.is)
        (form_at (type_of w x) check give) t.is refl
        (λ m right asked. right_of_cell (at p (Old x)) b.0 m b.1 (complete (all m right asked)).there) t.there in
        record {
          runs = c.runs;
          thing = c.thing;
          there = offered_has (at p (Old x)) (merged_rights b.0 (Some (type_of w x)) give) n rule
              (merged_keeps b.0 give n (type_of w x) is g (λ k. right_of_cell (at p (Old x)) b.0 n b.1 (complete (s k)).there));
        }
    complete (open_form (Slots p) index type check give e) =
        let o = opens_to w p.0 index (Templated (template.Amplify (Some type) check give)) e refl in
        let runs = slice_get_within w.tasks p.0 o.task o.is in
        let held = are.slots p.0 o.task o.is o.index (Templated (template.Amplify (Some type) check give)) o.slot in
        let first = first_of forms (form_at type check give) held.place held.is in
        let offered = (rules p.0 runs).slots o.task o.is o.index (Templated (template.Amplify (Some type) check give)) o.slot (thing_count w + first.0) ENV
        ((first.0, first.1, refl), refl) in
        record {
          runs = runs;
          place = first.0;
          is = first.1.is;
          there = env_is (cell rows p.0 (thing_count w + first.0))
              (offered_has (cell rows p.0 (thing_count w + first.0)) ENV env_right offered refl);
        }
    complete (open_form (ListOf (Old x)) index type check give e) =
        ByEntry index (entry_at (opening_entries w x.0) index (Templated (template.Amplify (Some type) check give)) e refl)
    complete (open_form (ListOf (MadeBy r)) index type check give e) = absurd (cc)
    complete (load_form p (Old x) type check give a e f) =
        let c = complete a in
        let b = right_cell (at p (Old x)) load_right c.there in
        let env = right_of_cell (at p (Old x)) b.rights env_right b.is (complete e).there in
        let t = load_takes (type_of w x) b.rights b.there in
        found_form p x t.taking b.rights (form_at type check give) c.runs c.thing (takes_at (type_of w x) (at p (Old x)) b.rights t.taking b.is t.is) t.more
        env (inl t.all) (complete f)
    complete (load_form p (MadeBy r) type check give a e f) =
        let c = complete a in shared_form p r (form_at type check give) c.runs (share p r (has_some (at p (MadeBy r)) load_right c.there)) (complete f)
    complete (store_form p (Old x) n type check give l m s a f) = ByStored p (stores_is (type_of w x) (at p (Old x)) n l (complete m).there s (complete a).there) (complete f)
    complete (store_form p (MadeBy r) n type check give l m s a f) =
        let c = complete m in shared_form r p (form_at type check give) c.thing (share_other r p (has_some (at p (MadeBy r)) modify_right c.there)) (complete f)
    complete (copy_form p (Old x) type check give v a e f) =
        let c = complete a in
        let b = right_cell (at p (Old x)) copy_right c.there in
        let env = right_of_cell (at p (Old x)) b.rights env_right b.is (complete e).there in
        let t = copy_takes (type_of w x) b.rights v b.there env in
        let l = complete f in
        found_form p x t.taking b.rights (form_at type check give) c.runs c.thing (takes_at (type_of w x) (at p (Old x)) b.rights t.taking b.is t.is) t.more env (inr tt) l
    complete (copy_form p (MadeBy r) type check give v a e f) =
        let c = complete a in shared_form p r (form_at type check give) c.runs (share p r (has_some (at p (MadeBy r)) copy_right c.there)) (complete f)
    complete (enter_form p q type check give t a f) =
        let c = complete a in
        let b = right_cell (at p (Old q)) a0_right c.there in
        let k = call_takes (type_of w q) b.rights t b.there in
        found_form p q k.0.taking k.0.taking.by (form_at type check give) c.runs c.thing (takes_at (type_of w q) (at p (Old q)) b.rights k.0.taking b.is k.0.is)
        (self_has k.0.taking.by) k.1 (inl k.0.all) (complete f)
    complete (enter_param p q type index param t a is e) =
        let c = complete a in
        let b = right_cell (at p (Old q)) a0_right c.there in
        let rule = ((rules p.0 c.runs).objects q.0 c.thing).params b.rights b.is b.there t index param is in
        let some : param_form param ≡ Some (form_at type param.check param.give) = rw e refl in
        form_rule p (form_at type param.check param.give) c.runs (subst (λ (o : Option Form). IfSome o (FormRule w forms rows p.0)) some rule)
    complete (make_form p t low type e a) =
        let c = complete a in
        let b = right_cell (at p (Old t)) a0_right c.there in
        form_rule p (form_at t 0 all_rights) c.runs (((rules p.0 c.runs).objects t.0 low).types b.rights b.is b.there
        (right_of_cell (at p (Old t)) b.rights env_right b.is (complete e).there) type)

-- so they tell each right of a process for an object of the opening
pub all_rights_told : (w : WorldValue) (forms : List Form) (rows : List (List (Option ℕ))) → ((p : ℕ) → p < length w.tasks → ProcessRule w forms rows p) → AreForms w forms
    → IsWorld w → (p : Proc) (x : Name) (n : ℕ)
    → Follows w (Right (Slots p) (Old x) n) → HasIn (cell rows p.0 x.0) n
all_rights_told w forms rows rules are world p x n h = (complete w forms rows rules are world h).there
