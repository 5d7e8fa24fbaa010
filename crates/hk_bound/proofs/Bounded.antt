-- What a process can get is bounded by what follows from the opening, way by way.
use Rattle.std.proofs.Common.{◌≡◌, ℕ, ◌+◌, ◌<◌, ◌≤◌, List, [], ◌∷◌, length, Bool, true, false, Option, Some, None, Result, Ok, refl, sym, ◌∙◌, ap, arith, cond, subst, bit_and}
use Rattle.std.specs.Prelude.{IfOk, IsTrue, nat_lt, ◌⊎◌, slice_get, ◌==◌, ◌||◌}
use mathlib.Core.Logic.{inl, inr}
use Rattle.std.proofs.lemmas.Bool.{true≢false, false≢true, not-false}
use Rattle.std.proofs.lemmas.Bool.Decides.{nat_tests}
use Rattle.hk_model.specs.declared.names.Name.{Name}
use Rattle.hk_model.specs.declared.names.Inc.{Inc}
use Rattle.hk_model.specs.declared.names.Proc.{Proc}
use Rattle.hk_model.specs.declared.entries.Cap.{Cap}
use Rattle.hk_model.specs.declared.entries.Param.{Param}
use Rattle.hk_model.specs.declared.entries.Making.{Making}
use Rattle.hk_model.specs.declared.entries.Making.TheVariants as making
use Rattle.hk_model.specs.declared.entries.Template.{Template}
use Rattle.hk_model.specs.declared.entries.Template.TheVariants as template
use Rattle.hk_model.specs.declared.entries.Entry.{Entry}
use Rattle.hk_model.specs.declared.entries.Entry.TheVariants.{Empty, Held, Form}
use Rattle.hk_model.specs.declared.calls.Call.{Call}
use Rattle.hk_rights.specs.Rights.{has, all_rights, all_but, special_rights, LOAD, COPY, MODIFY, ENV, A0, load_right, copy_right, modify_right, env_right, unconf_right, a0_right}
use Rattle.hk_model.specs.WorldValue.{WorldValue, IsObject}
use Rattle.hk_model.specs.Opening.{opening}
use Rattle.hk_model.specs.State.{State, object, incarnation}
use Rattle.hk_model.specs.Refusing.{◌>>=◌, allowed, item_at}
use Rattle.hk_model.specs.Walking.{walk, walk_on, hop_on, obtained, reduced_rights, confined_rights, local_rights}
use Rattle.hk_model.specs.Merging.{inherited}
use Rattle.hk_model.specs.Targets.{TYPE, SEMAPHORE, PROCEDURE, kernel_types, is_general, is_listed, is_of_type, ENV+A0}
use Rattle.hk_model.specs.Rule.{copied, made_form}
use Rattle.hk_model.specs.Places.{SlotOf, EntryOf, standing}
use Rattle.hk_model.specs.Lines.{makes_object}
use Rattle.hk_model.specs.Ways.{Way, Walked, Stored, Lessened, Merged, Inherited, Copied, CopyOf, Created, Formed, Emptied, LeadsTo, IsMerged, Writes, Within, HasEnv}
use Rattle.hk_model.specs.Descent.{Others, Amplified}
use Rattle.hk_model.proofs.TestLemmas.{then_is, and_is, if_ok, allowed_is, item_is}
use Rattle.hk_model.proofs.RightsWithin.{HasAll-reduced, Within-has, reduced_needs_unconf}
use Rattle.hk_model.proofs.MergeLemmas.{merged_is}
use Rattle.hk_model.proofs.CallPlaces.{GoesTo}
use Rattle.hk_model.specs.Under.{is_live}
use Rattle.hk_model.proofs.Turns.{walks_live}
use Rattle.hk_bound.specs.Bounds.{word_changes, list_changes, count_changes, HasOneOf, HasChanging, IsInBound}
use Rattle.hk_rights.proofs.Sets.{has-bit_and, has-bit_or, has-zero, has-bit_and_left, has-bit_and_right}
use Rattle.hk_bound.specs.Taking.{Thing, Old, MadeBy, Holder, Slots, ListOf, Has, Right, Amplifies, type_of, has_words, has_list, confined_away, STORE+APPEND, Follows, made_has}
use Rattle.hk_bound.specs.Taking.{made_gives, load_has, load_gives, load_form, store_has, store_gives, store_form, copy_has, copy_gives, copy_form, enter_has, enter_gives}
use Rattle.hk_bound.specs.Taking.{enter_form, enter_param, merge_gives, make_form}
use Rattle.hk_bound.proofs.WayShown.{ShowsChange, IsEntered, IsWalkedForm, IsParamForm, ShownBy}
use Rattle.hk_model.proofs.Standing.{on_cond}
use Rattle.hk_model.specs.declared.calls.Refusal.{Refusal}
use Rattle.hk_model.specs.Effects.{IsSameKind}

-- ---- rights

-- two masks that share no right
pub lacks : (a b n : ℕ) → bit_and a b ≡ 0 → has a n ≡ true → has b n ≡ false
lacks a b n e h = by (has b n) refl
  where
    by : (x : Bool) → has b n ≡ x → x ≡ false
    by false g = refl
    by true g = let k : has (bit_and a b) n ≡ true = rw (has-bit_and a b n, h, g) refl in absurd (true≢false (sym k ∙ ap (λ m. has m n) e ∙ has-zero n))

apart : {A : Type 0} (a b n : ℕ) → bit_and a b ≡ 0 → has a n ≡ true → has b n ≡ true → A
apart a b n e h g = absurd (true≢false (sym g ∙ lacks a b n e h))

-- what is obtained through a capability: MODIFY and UNCONF through UNCONF, ENV through ENV
pub reduced_unconf : (by a n : ℕ) → has (reduced_rights by a) n ≡ true → has confined_away n ≡ true → has by unconf_right ≡ true
reduced_unconf by a n h c = reduced_needs_unconf by a n (lacks confined_away (all_but confined_away) n refl c) h

pub reduced_env : (by a n : ℕ) → has (reduced_rights by a) n ≡ true → has ENV n ≡ true → has by env_right ≡ true
reduced_env by a n h c = by_env (has by env_right) h
  where
    kept : ℕ
    kept = cond (has by unconf_right) a (confined_rights a)

    by_env : (e : Bool) → has (cond e (cond (has by unconf_right) a (confined_rights a)) (local_rights (cond (has by unconf_right) a (confined_rights a)))) n ≡ true → e ≡ true
    by_env true g = refl
    by_env false g = apart ENV (all_but ENV) n refl c (has-bit_and_right kept (all_but ENV) n g)

confined_lacks : {A : Type 0} (a n : ℕ) → has (confined_rights a) n ≡ true → has confined_away n ≡ true → A
confined_lacks a n h c = apart confined_away (all_but confined_away) n refl c (has-bit_and_right a (all_but confined_away) n h)

-- a right is special or it is not
abbrev other_rights : ℕ
other_rights = all_but special_rights

other_right : (n : ℕ) → has all_rights n ≡ true → has special_rights n ≡ false → has other_rights n ≡ true
other_right n h s = by (has other_rights n) (has-bit_or special_rights other_rights n)
  where
    by : (x : Bool) → has all_rights n ≡ (has special_rights n || x) → x ≡ true
    by true e = refl
    by false e = let k : (has special_rights n || false) ≡ false = rw s refl in absurd (false≢true (sym k ∙ sym e ∙ h))

-- ---- bounds

-- some template that follows asks for no more, and gives no less
pub record IsKnown (w : WorldValue) (h : Holder) (type : Name) (check give : ℕ) : Type 0 where
  pub asks : ℕ
  pub gives : ℕ
  pub follows : Follows w (Amplifies h type asks gives)
  pub asked : (n : ℕ) → IsTrue (has all_rights n) → IsTrue (has asks n) → IsTrue (has check n)
  pub given : (n : ℕ) → IsTrue (has all_rights n) → IsTrue (has give n) → IsTrue (has gives n)

known_up : (w : WorldValue) (h g : Holder) (type : Name) (check give : ℕ) → ((asks gives : ℕ) → Follows w (Amplifies h type asks gives) → Follows w (Amplifies g type asks gives))
    → IsKnown w h type check give → IsKnown w g type check give
known_up w h g type check give f k = record { asks = k.asks; gives = k.gives; follows = f k.asks k.gives k.follows; asked = k.asked; given = k.given }

module _ (w : WorldValue) (own : Name → Proc) where
  -- what an object counts as: itself, or what its maker makes
  abbrev pub thing : Name → Thing
  thing name = cond (nat_lt name.0 (kernel_types + length w.objects)) (Old name) (MadeBy (own name))

  pub thing_old : (name : Name) → IsObject w name → thing name ≡ Old name
  thing_old name h = let e : nat_lt name.0 (kernel_types + length w.objects) ≡ true = grind (arith, nat_tests) in rw e refl

  pub thing_made : (name : Name) → kernel_types + length w.objects ≤ name.0 → thing name ≡ MadeBy (own name)
  thing_made name h = let e : nat_lt name.0 (kernel_types + length w.objects) ≡ false = grind (arith, nat_tests) in rw e refl

  pub thing_is : (name : Name) → ((IsObject w name) × (thing name ≡ Old name)) ⊎ ((kernel_types + length w.objects ≤ name.0) × (thing name ≡ MadeBy (own name)))
  thing_is name = by (nat_lt name.0 (kernel_types + length w.objects)) refl
    where
      by : (b : Bool) → nat_lt name.0 (kernel_types + length w.objects) ≡ b
          → ((IsObject w name) × (cond b (Old name) (MadeBy (own name)) ≡ Old name)) ⊎
          ((kernel_types + length w.objects ≤ name.0) × (cond b (Old name) (MadeBy (own name)) ≡ MadeBy (own name)))
      by true e = inl (grind (arith, nat_tests), refl)
      by false e = inr (grind (arith, nat_tests), refl)

  abbrev pub BoundsCap : Holder → Name → ℕ → Type 0
  BoundsCap h name rights = Follows w (Has h (thing name)) × ((n : ℕ) → IsTrue (has all_rights n) → IsTrue (has rights n) → Follows w (Right h (thing name) n))

  -- what stands in a holder's hands follows from the opening; of a type that was made nothing is told
  abbrev pub Bounds : Holder → Entry → Type 0
  Bounds h Empty = Unit {0}
  Bounds h (Held cap) = BoundsCap h cap.name cap.rights
  Bounds h (Form (template.Amplify None check give)) = Unit {0}
  Bounds h (Form (template.Amplify (Some type) check give)) = IsObject w type → IsKnown w h type check give
  Bounds h (Form (template.Create of give)) = Unit {0}

  form_up : (h g : Holder) → ((type : Name) (asks gives : ℕ) → Follows w (Amplifies h type asks gives) → Follows w (Amplifies g type asks gives)) → (form : Template)
      → Bounds h (Form form) → Bounds g (Form form)
  form_up h g f (template.Amplify None check give) b = tt
  form_up h g f (template.Amplify (Some type) check give) b = λ old. known_up w h g type check give (f type) (b old)
  form_up h g f (template.Create of give) b = tt

  less_bounds : (h : Holder) (name : Name) (more less : ℕ) → ((n : ℕ) → has less n ≡ true → has more n ≡ true) → BoundsCap h name more → BoundsCap h name less
  less_bounds h name more less f b = (b.0, λ n is there. b.1 n is (f n there))

  -- ---- what a process gets in one of its incarnations
  module _ (s : State) (inc : Inc) (p : Proc)
      (slots : (n : ℕ) → Bounds (Slots p) (standing s (SlotOf inc n)))
      (lists : (name : Name) (n : ℕ) → Bounds (ListOf (thing name)) (standing s (EntryOf name n)))
      (kinds : (name : Name) → IsObject w name → IsSameKind (object (opening w) name) (object s name))
      (plain : (name : Name) → kernel_types + length w.objects ≤ name.0 → is_of_type PROCEDURE (object s name).of ≡ false)
      (typed : (name : Name) → IsObject w (type_of w name)) where
    right_of : (cap : Cap) (rights n : ℕ) → BoundsCap (Slots p) cap.name cap.rights → Within rights cap.rights → IsTrue (has all_rights n) → IsTrue (has rights n)
        → Follows w (Right (Slots p) (thing cap.name) n)
    right_of cap rights n b h is there = b.1 n is (Within-has rights cap.rights n h is there)

    -- one hop of a walk
    obtain_bounds : (cap : Cap) (e : Entry) (step : ℕ) → BoundsCap (Slots p) cap.name cap.rights → Within LOAD cap.rights → Bounds (ListOf (thing cap.name)) e
        → IfOk (obtained cap.rights e step) (Bounds (Slots p))
    obtain_bounds cap Empty step b load l = tt
    obtain_bounds cap (Held c) step b load l = (
      load_has p (thing cap.name) (thing c.name) (right_of cap LOAD load_right b load refl refl) l.0,
      λ n is there. load_gives p (thing cap.name) (thing c.name) n (right_of cap LOAD load_right b load refl refl) (l.1 n is (HasAll-reduced cap.rights c.rights n there))
          (λ k. b.1 unconf_right refl (reduced_unconf cap.rights c.rights n there k))
          (λ k. b.1 env_right refl (reduced_env cap.rights c.rights n there k)),
    )
    obtain_bounds cap (Form form) step b load l =
        and_is (Bounds (Slots p)) (allowed cap.rights ENV step) (Ok (Form form)) (λ u h.
        form_up (ListOf (thing cap.name)) (Slots p) (λ type asks gives g. load_form p (thing cap.name) type asks gives (right_of cap LOAD load_right b load refl refl)
        (right_of cap ENV env_right b (allowed_is cap.rights ENV step u h) refl refl) g) form l)

    hop_bounds : (cap : Cap) (at step : ℕ) → BoundsCap (Slots p) cap.name cap.rights → IfOk (hop_on s (Held cap) at step) (Bounds (Slots p))
    hop_bounds cap at step b =
        and_is (Bounds (Slots p)) (allowed cap.rights LOAD step) (item_at (object s cap.name).entries at (step + 1) >>= (λ next. obtained cap.rights next step)) (λ u h.
        then_is (Bounds (Slots p)) (item_at (object s cap.name).entries at (step + 1)) (λ next. obtained cap.rights next step) (λ next g.
        let same = item_is (object s cap.name).entries at (step + 1) next g in
        obtain_bounds cap next step b (allowed_is cap.rights LOAD step u h) (subst (Bounds (ListOf (thing cap.name))) (sym same) (lists cap.name at))))

    walk_on_bounds : (entry : Entry) (path : List ℕ) (step : ℕ) → Bounds (Slots p) entry → IfOk (walk_on s entry path step) (Bounds (Slots p))
    walk_on_bounds entry [] step b = b
    walk_on_bounds Empty (at ∷ rest) step b = tt
    walk_on_bounds (Form form) (at ∷ rest) step b = tt
    walk_on_bounds (Held cap) (at ∷ rest) step b =
        then_is (Bounds (Slots p)) (hop_on s (Held cap) at step) (λ next. walk_on s next rest (step + 1)) (λ next g.
        walk_on_bounds next rest (step + 1) (if_ok (Bounds (Slots p)) (hop_on s (Held cap) at step) next (hop_bounds cap at step b) g))

    pub walk_bounds : (path : List ℕ) (x : Entry) → walk s inc path ≡ Ok x → Bounds (Slots p) x
    walk_bounds [] x e = absurd (cc)
    walk_bounds (at ∷ rest) x e = if_ok (Bounds (Slots p)) (walk s inc (at ∷ rest)) x
        (then_is (Bounds (Slots p)) (item_at (incarnation s inc).slots at 0) (λ entry. walk_on s entry rest 0) (λ entry g.
        let same = item_is (incarnation s inc).slots at 0 entry g in
        walk_on_bounds entry rest 0 (subst (Bounds (Slots p)) (sym same) (slots at)))) e

    -- ---- what an object counts as

    listed_thing : (name : Name) → is_listed (object s name).of ≡ true → IsTrue (has_list w (thing name))
    listed_thing name h = elim (thing_is name) [
      | inl old ↦ subst (λ (t : Thing). IsTrue (has_list w t)) (sym old.1) (sym (ap is_listed (kinds name old.0).of) ∙ h)
      | inr made ↦ subst (λ (t : Thing). IsTrue (has_list w t)) (sym made.1) refl
    ]

    worded_thing : (name : Name) → is_general (object s name).of ≡ true → IsTrue (has_words w (thing name))
    worded_thing name h = elim (thing_is name) [
      | inl old ↦ subst (λ (t : Thing). IsTrue (has_words w t)) (sym old.1) (sym (ap is_general (kinds name old.0).of) ∙ h)
      | inr made ↦ subst (λ (t : Thing). IsTrue (has_words w t)) (sym made.1) refl
    ]

    type_is : (name : Name) (n : ℕ) → IsObject w name → is_of_type n (object s name).of ≡ true → (type_of w name).0 ≡ n
    type_is name n old h = let k : ((type_of w name).0 == n) ≡ true = sym (ap (is_of_type n) (kinds name old).of) ∙ h in grind (arith, nat_tests)

    -- no procedure is made
    procedure_old : (name : Name) → is_of_type PROCEDURE (object s name).of ≡ true → IsObject w name
    procedure_old name h = elim (thing_is name) [
      | inl old ↦ old.0
      | inr made ↦ absurd (true≢false (sym h ∙ plain name made.0))
    ]

    old_right : (cap : Cap) (n : ℕ) → IsObject w cap.name → Follows w (Right (Slots p) (thing cap.name) n) → Follows w (Right (Slots p) (Old cap.name) n)
    old_right cap n old g = subst (λ (t : Thing). Follows w (Right (Slots p) t n)) (thing_old cap.name old) g

    same_target : (path : List ℕ) (a b : Cap) → LeadsTo s inc path a → LeadsTo s inc path b → a ≡ b
    same_target path a b h g = let e : ◌≡◌ {A = Result Entry Refusal} (Ok (Held a)) (Ok (Held b)) = sym h ∙ g in cc

    -- ---- a Store or an Append
    put_bounds : (cap : Cap) (how : ℕ) → BoundsCap (Slots p) cap.name cap.rights → IsTrue (has_list w (thing cap.name)) → has cap.rights modify_right ≡ true
        → has all_rights how ≡ true → has STORE+APPEND how ≡ true → has cap.rights how ≡ true
        → (e : Entry) → HasEnv e → Bounds (Slots p) e → Bounds (ListOf (thing cap.name)) e
    put_bounds cap how b listed modify is puts holds Empty env y = absurd env
    put_bounds cap how b listed modify is puts holds (Held c) env y =
        let e = y.1 env_right refl (Within-has ENV c.rights env_right env refl refl) in
        let m = b.1 modify_right refl modify in
        let r = b.1 how is holds in (
          store_has p (thing cap.name) (thing c.name) how listed m puts r e,
          λ n right there. store_gives p (thing cap.name) (thing c.name) how n listed m
              puts r e (y.1 n right there),
        )
    put_bounds cap how b listed modify is puts holds (Form form) env y =
        form_up (Slots p) (ListOf (thing cap.name)) (λ type asks gives g. store_form p (thing cap.name) how type asks gives listed (b.1 modify_right refl modify) puts
        (b.1 how is holds) g) form y

    -- ---- a Copy
    copied_bounds : (cap : Cap) → BoundsCap (Slots p) cap.name cap.rights → Within COPY cap.rights → IsTrue (has_words w (thing cap.name)) → (e : Entry)
        → Bounds (ListOf (thing cap.name)) e → Bounds (ListOf (MadeBy p)) (copied cap.rights e)
    copied_bounds cap b copies worded Empty l = tt
    copied_bounds cap b copies worded (Form form) l =
        on_cond (Bounds (ListOf (MadeBy p))) (has cap.rights env_right) (Form form) Empty
        (λ env. form_up (ListOf (thing cap.name)) (ListOf (MadeBy p))
        (λ type asks gives g. copy_form p (thing cap.name) type asks gives worded (right_of cap COPY copy_right b copies refl refl) (b.1 env_right refl env) g) form l)
        (λ none. tt)
    copied_bounds cap b copies worded (Held c) l =
        on_cond (Bounds (ListOf (MadeBy p))) (has (reduced_rights cap.rights c.rights) env_right) (Held (record c { rights = reduced_rights cap.rights c.rights })) Empty
        (λ env.
        let copy = right_of cap COPY copy_right b copies refl refl in
        let by = b.1 env_right refl (reduced_env cap.rights c.rights env_right env refl) in
        let old = l.1 env_right refl (HasAll-reduced cap.rights c.rights env_right env) in (
          copy_has p (thing cap.name) (thing c.name) worded copy by l.0 old,
          λ n is there. copy_gives p (thing cap.name) (thing c.name) n worded copy by old (l.1 n is (HasAll-reduced cap.rights c.rights n there))
              (λ k. b.1 unconf_right refl (reduced_unconf cap.rights c.rights n there k)),
        ))
        (λ none. tt)

    -- ---- an Enter
    inherited_bounds : (q : Name) → (type_of w q).0 ≡ PROCEDURE → Follows w (Right (Slots p) (Old q) a0_right) → (confined : Bool)
        → (confined ≡ false → Follows w (Right (Slots p) (Old q) unconf_right)) → (e : Entry) → Bounds (ListOf (Old q)) e → Bounds (Slots p) (inherited confined e)
    inherited_bounds q t a true u Empty l = tt
    inherited_bounds q t a true u (Held c) l = (
      enter_has p q (thing c.name) t a l.0,
      λ n is there. enter_gives p q (thing c.name) n t a (l.1 n is (has-bit_and_left c.rights (all_but confined_away) n there))
          (λ k. confined_lacks c.rights n there k),
    )
    inherited_bounds q t a true u (Form form) l = form_up (ListOf (Old q)) (Slots p) (λ type asks gives g. enter_form p q type asks gives t a g) form l
    inherited_bounds q t a false u Empty l = tt
    inherited_bounds q t a false u (Held c) l = (enter_has p q (thing c.name) t a l.0, λ n is there. enter_gives p q (thing c.name) n t a (l.1 n is there) (λ k. u refl))
    inherited_bounds q t a false u (Form form) l = form_up (ListOf (Old q)) (Slots p) (λ type asks gives g. enter_form p q type asks gives t a g) form l

    -- what is known of the capability that is called
    record Called (q : Name) (confined : Bool) : Type 0 where
      old : IsObject w q
      type : (type_of w q).0 ≡ PROCEDURE
      call : Follows w (Right (Slots p) (Old q) a0_right)
      unconf : confined ≡ false → Follows w (Right (Slots p) (Old q) unconf_right)

    called : (q : Name) (confined : Bool) → IsEntered s inc q confined → Called q confined
    called q confined e =
        let b : BoundsCap (Slots p) e.cap.name e.cap.rights = walk_bounds e.path (Held e.cap) e.is.leads in
        let old : IsObject w e.cap.name = procedure_old e.cap.name e.is.typed in
        let here : Called e.cap.name confined = record {
          old = old;
          type = type_is e.cap.name PROCEDURE old e.is.typed;
          call = old_right e.cap a0_right old (right_of e.cap A0 a0_right b e.is.allowed refl refl);
          unconf = λ f. old_right e.cap unconf_right old (b.1 unconf_right refl (not-false (has e.cap.rights unconf_right) (sym e.confines ∙ f)));
        } in
        subst (λ (x : Name). Called x confined) (sym e.same) here

    entered_bounds : (q : Name) (index : ℕ) (confined : Bool) → IsEntered s inc q confined → Bounds (Slots p) (inherited confined (standing s (EntryOf q index)))
    entered_bounds q index confined e =
        let c = called q confined e in
        inherited_bounds q c.type c.call confined c.unconf (standing s (EntryOf q index))
        (subst (λ (t : Thing). Bounds (ListOf t) (standing s (EntryOf q index))) (thing_old q c.old) (lists q index))

    -- ---- a merge

    -- what is known of its template
    form_known : (form : Param) (wanted : Name) → form.of ≡ Some wanted → IsObject w wanted → IsWalkedForm s inc form ⊎ IsParamForm s inc form
        → IsKnown w (Slots p) wanted form.check form.give
    form_known form wanted e old (inl f) =
        (subst (λ (o : Option Name). Bounds (Slots p) (Form (template.Amplify o form.check form.give))) e
        (walk_bounds f.path (Form (template.Amplify form.of form.check form.give)) f.leads)) old
    form_known form wanted e old (inr f) =
        let c = called f.procedure f.confined f.entered in
        let is : slice_get (object (opening w) f.procedure).params f.index ≡ Some form = ap (λ (ps : List Param). slice_get ps f.index)
        (sym (kinds f.procedure c.old).params) ∙ f.is in
        record {
          asks = form.check;
          gives = form.give;
          follows = enter_param p f.procedure wanted f.index form c.type c.call is e;
          asked = λ n right there. there;
          given = λ n right there. there;
        }

    typed_right : (cap : Cap) (form : Param) (wanted : Name) (new : ℕ) → IsObject w cap.name → BoundsCap (Slots p) cap.name cap.rights
        → IsKnown w (Slots p) wanted form.check form.give → wanted ≡ type_of w cap.name
        → Within form.check cap.rights → Within (bit_and new special_rights) cap.rights → bit_and new other_rights ≡ bit_and form.give other_rights
        → (n : ℕ) → IsTrue (has all_rights n) → IsTrue (has new n) → Follows w (Right (Slots p) (thing cap.name) n)
    typed_right cap form wanted new old b known type checked special others n is there = by (has special_rights n) refl
      where
        by : (x : Bool) → has special_rights n ≡ x → Follows w (Right (Slots p) (thing cap.name) n)
        by true e = b.1 n is (Within-has (bit_and new special_rights) cap.rights n special is (rw (has-bit_and new special_rights n, there) e))
        by false e =
            let other : has other_rights n ≡ true = other_right n is e in
            let both : has (bit_and new other_rights) n ≡ true = rw (has-bit_and new other_rights n, there) other in
            let give : has form.give n ≡ true = has-bit_and_left form.give other_rights n (sym (ap (λ m. has m n) others) ∙ both) in
            subst (λ (t : Thing). Follows w (Right (Slots p) t n)) (sym (thing_old cap.name old))
            (merge_gives p cap.name known.asks known.gives n old
            (subst (λ (t : Name). Follows w (Amplifies (Slots p) t known.asks known.gives)) type known.follows)
            (subst (λ (t : Thing). Follows w (Has (Slots p) t)) (thing_old cap.name old) b.0)
            (λ m right asked. old_right cap m old (b.1 m right (Within-has form.check cap.rights m checked right (known.asked m right asked))))
            is (known.given n is give) (λ k. absurd (true≢false (sym k ∙ e))))

    merged_right : (cap : Cap) (form : Param) (new : Cap) → BoundsCap (Slots p) cap.name cap.rights → Amplified cap form (object s cap.name).of new
        → IsWalkedForm s inc form ⊎ IsParamForm s inc form
        → (n : ℕ) → IsTrue (has all_rights n) → IsTrue (has new.rights n) → Follows w (Right (Slots p) (thing cap.name) n)
    merged_right cap form new b a shown n is there = elim (thing_is cap.name) [
      | inl old ↦ by old.0 form.of refl a.others
      | inr made ↦ subst (λ (t : Thing). Follows w (Right (Slots p) t n)) (sym made.1)
          (made_gives (Slots p) (own cap.name) n (subst (λ (t : Thing). Follows w (Has (Slots p) t)) made.1 b.0) is)
    ]
      where
        by : IsObject w cap.name → (o : Option Name) → form.of ≡ o → Others o (object s cap.name).of cap.rights form.give new.rights
            → Follows w (Right (Slots p) (thing cap.name) n)
        by old None e others = b.1 n is (Within-has new.rights cap.rights n others is there)
        by old (Some wanted) e others =
            let type : wanted ≡ type_of w cap.name = others.0 ∙ (kinds cap.name old).of in
            let wanted_old : IsObject w wanted = subst (IsObject w) (sym type) (typed cap.name) in
            typed_right cap form wanted new.rights old b (form_known form wanted e wanted_old shown) type a.checked a.special others.1 n is there

    merged_bounds : (slot : ℕ) (form : Param) (x : Entry) → IsWalkedForm s inc form ⊎ IsParamForm s inc form → IsMerged s (standing s (SlotOf inc slot)) form x → Bounds (Slots p) x
    merged_bounds slot form x shown h =
        let b : BoundsCap (Slots p) h.cap.name h.cap.rights = subst (Bounds (Slots p)) h.held (slots slot) in
        let a = merged_is h.cap (object s h.cap.name).of form h.step h.new h.merges in
        let here : BoundsCap (Slots p) h.cap.name h.new.rights = (b.0, merged_right h.cap form h.new b a shown) in
        subst (Bounds (Slots p)) (sym h.is) (subst (λ (q : Name). BoundsCap (Slots p) q h.new.rights) (sym a.same) here)

    -- ---- a MakeTemplate
    formed_bounds : (cap : Cap) (kind : Making) → BoundsCap (Slots p) cap.name cap.rights → is_of_type TYPE (object s cap.name).of ≡ true → Within ENV+A0 cap.rights
        → Bounds (Slots p) (Form (made_form kind cap.name))
    formed_bounds cap (making.Create give) b type allows = tt
    formed_bounds cap (making.Amplify check give) b type allows = λ old. record {
      asks = 0;
      gives = all_rights;
      follows =
          make_form p cap.name old (type_is cap.name TYPE old type) (old_right cap env_right old (right_of cap ENV+A0 env_right b allows refl refl))
          (old_right cap a0_right old (right_of cap ENV+A0 a0_right b allows refl refl));
      asked = λ n is there. absurd (false≢true (sym (has-zero n) ∙ there));
      given = λ n is there. is;
    }

    -- ---- each way

    module _ (c : Option Call) (runs : IsTrue (is_live s inc) → p.0 < length w.tasks) (fresh : makes_object c ≡ true → thing s.next_name ≡ MadeBy p) where
      new_bounds : makes_object c ≡ true → IsTrue (is_live s inc) → (rights : ℕ) → BoundsCap (Slots p) s.next_name rights
      new_bounds made lives rights =
          let has_it = made_has p (runs lives) in
          subst (λ (t : Thing). Follows w (Has (Slots p) t) × ((n : ℕ) → IsTrue (has all_rights n) → IsTrue (has rights n) → Follows w (Right (Slots p) t n))) (sym (fresh made))
          (has_it, λ n is there. made_gives (Slots p) p n has_it is)

      -- into a slot
      pub slot_bounds : (i : Inc) (m : ℕ) (v : Way) (x : Entry) → GoesTo s inc c v (SlotOf i m) → ShownBy s inc v (SlotOf i m) → Writes s inc v x → Bounds (Slots p) x
      slot_bounds i m (Walked path) x goes shown h = walk_bounds path x h
      slot_bounds i m (Stored slot) x goes shown h = subst (Bounds (Slots p)) (sym h.0) (slots slot)
      slot_bounds i m (Lessened slot keep) x goes shown h =
          subst (Bounds (Slots p)) (sym h.is) (less_bounds (Slots p) h.cap.name h.cap.rights (bit_and h.cap.rights keep) (λ n there. has-bit_and_left h.cap.rights keep n there)
          (subst (Bounds (Slots p)) h.held (slots slot)))
      slot_bounds i m (Merged slot form) x goes shown h = merged_bounds slot form x shown h
      slot_bounds i m (Inherited procedure index confined) x goes shown h = subst (Bounds (Slots p)) (sym h) (entered_bounds procedure index confined shown)
      slot_bounds i m (Copied path index) x goes shown h = absurd goes.1
      slot_bounds i m (CopyOf path) x goes shown h = subst (Bounds (Slots p)) (sym h.is) (new_bounds goes.0 (walks_live s inc path (Held h.cap) h.leads) h.cap.rights)
      slot_bounds i m (Created path) x goes shown h =
          subst (Bounds (Slots p)) (sym h.is) (new_bounds goes.0 (walks_live s inc path (Form (template.Create h.of h.give)) h.leads) h.give)
      slot_bounds i m (Formed path kind) x goes shown h =
          let same : shown.cap ≡ h.cap = same_target path shown.cap h.cap shown.is.leads h.leads in
          let type : is_of_type TYPE (object s h.cap.name).of ≡ true = subst (λ (a : Cap). is_of_type TYPE (object s a.name).of ≡ true) same shown.is.typed in
          subst (Bounds (Slots p)) (sym h.is) (formed_bounds h.cap kind (walk_bounds path (Held h.cap) h.leads) type h.allowed)
      slot_bounds i m Emptied x goes shown h = subst (Bounds (Slots p)) (sym h) tt

      -- into a list
      pub list_bounds : (name : Name) (m : ℕ) (v : Way) (x : Entry) → GoesTo s inc c v (EntryOf name m) → ShownBy s inc v (EntryOf name m) → Writes s inc v x
          → Bounds (ListOf (thing name)) x
      list_bounds name m (Walked path) x goes shown h = absurd goes
      list_bounds name m (Stored slot) x goes shown h =
          let b : BoundsCap (Slots p) shown.cap.name shown.cap.rights = walk_bounds shown.path (Held shown.cap) shown.leads in
          subst (λ (q : Name). Bounds (ListOf (thing q)) x) (sym shown.same)
          (put_bounds shown.cap shown.how b (listed_thing shown.cap.name shown.typed) shown.modify shown.right shown.puts shown.held x h.1
          (subst (Bounds (Slots p)) (sym h.0) (slots slot)))
      list_bounds name m (Lessened slot keep) x goes shown h = absurd goes
      list_bounds name m (Merged slot form) x (inl goes) shown h = absurd goes
      list_bounds name m (Merged slot form) x (inr goes) shown h = absurd goes.1
      list_bounds name m (Inherited procedure index confined) x goes shown h = absurd goes.1
      list_bounds name m (Copied path index) x goes shown h =
          let same : shown.cap ≡ h.cap = same_target path shown.cap h.cap shown.is.leads h.leads in
          let type : is_general (object s h.cap.name).of ≡ true = subst (λ (a : Cap). is_general (object s a.name).of ≡ true) same shown.is.typed in
          let copies : Within COPY h.cap.rights = subst (λ (a : Cap). Within COPY a.rights) same shown.is.allowed in
          let there = copied_bounds h.cap (walk_bounds path (Held h.cap) h.leads) copies (worded_thing h.cap.name type) (standing s (EntryOf h.cap.name index))
          (lists h.cap.name index) in
          let new : thing name ≡ MadeBy p = ap thing goes.1 ∙ fresh goes.0 in
          subst (Bounds (ListOf (thing name))) (sym h.is) (subst (λ (t : Thing). Bounds (ListOf t) (copied h.cap.rights (standing s (EntryOf h.cap.name index)))) (sym new) there)
      list_bounds name m (CopyOf path) x goes shown h = absurd goes.1
      list_bounds name m (Created path) x goes shown h = absurd goes.1
      list_bounds name m (Formed path kind) x goes shown h = absurd goes
      list_bounds name m Emptied x goes shown h = subst (Bounds (ListOf (thing name))) (sym h) tt

    -- ---- what is changed

    one_of : (cap : Cap) (set how : ℕ) → IsObject w cap.name → BoundsCap (Slots p) cap.name cap.rights → has all_rights how ≡ true → has set how ≡ true → has cap.rights how ≡ true
        → HasOneOf w p cap.name set
    one_of cap set how old b is of there = record { right = how; of = of; follows = old_right cap how old (b.1 how is there) }

    changing : (cap : Cap) → IsObject w cap.name → BoundsCap (Slots p) cap.name cap.rights → (path : List ℕ) → LeadsTo s inc path cap → ShowsChange s inc path
        → HasChanging w p cap.name
    changing cap old b path leads (inl g) =
        let same : g.cap ≡ cap = same_target path g.cap cap g.leads leads in
        inl (
          sym (ap is_general (kinds cap.name old).of) ∙ subst (λ (a : Cap). is_general (object s a.name).of ≡ true) same g.typed,
          one_of cap word_changes g.how old b g.right
              g.changes (subst (λ (a : Cap). has a.rights g.how ≡ true) same g.held),
        )
    changing cap old b path leads (inr (inl g)) =
        let same : g.cap ≡ cap = same_target path g.cap cap g.leads leads in
        inr (inl (
          sym (ap is_listed (kinds cap.name old).of) ∙ subst (λ (a : Cap). is_listed (object s a.name).of ≡ true) same g.typed,
          one_of cap list_changes g.how old b g.right
              g.changes (subst (λ (a : Cap). has a.rights g.how ≡ true) same g.held),
        ))
    changing cap old b path leads (inr (inr g)) =
        let same : g.cap ≡ cap = same_target path g.cap cap g.leads leads in
        inr (inr (
          type_is cap.name SEMAPHORE old (subst (λ (a : Cap). is_of_type SEMAPHORE (object s a.name).of ≡ true) same g.typed),
          one_of cap count_changes g.how old b g.right
              g.changes (subst (λ (a : Cap). has a.rights g.how ≡ true) same g.held),
        ))

    pub in_bound : (path : List ℕ) (cap : Cap) → LeadsTo s inc path cap → IsObject w cap.name → Within MODIFY cap.rights → ShowsChange s inc path → IsInBound w p cap.name
    in_bound path cap leads old modify shown =
        let b : BoundsCap (Slots p) cap.name cap.rights = walk_bounds path (Held cap) leads in
        record { opening = old; modify = old_right cap modify_right old (right_of cap MODIFY modify_right b modify refl refl); changes = changing cap old b path leads shown }
