-- What the tests of the rule table find in slots, types, templates and lists, the judgments of the inference rules find.
use Rattle.std.proofs.Common.{◌≡◌, ◌⊎◌, inl, inr, ℕ, ◌+◌, List, [], ◌∷◌, length, Bool, true, false, not, ◌&&◌, ◌||◌, Option, Some, None, Result, Ok, Err, ◌==◌, refl, sym, ◌∙◌, cond, subst, arith, bit_and, map}
use Rattle.std.specs.Prelude.{All, nat_lt, slice_index_or}
use Rattle.std.proofs.lemmas.Bool.{ltb-true, lt-ltb, ltb-false, eqb-true, eq-eqb, true≢false}
use Rattle.std.proofs.lemmas.List.Elements.{All-cons, All-nil}
use Rattle.hk_model.specs.declared.names.Name.{Name}
use Rattle.hk_model.specs.declared.names.Inc.{Inc}
use Rattle.hk_model.specs.declared.names.Slot.{Slot}
use Rattle.hk_model.specs.declared.entries.Cap.{Cap}
use Rattle.hk_model.specs.declared.entries.Param.{Param}
use Rattle.hk_model.specs.declared.entries.Template.TheVariants as template
use Rattle.hk_model.specs.declared.entries.Making.{Making}
use Rattle.hk_model.specs.declared.entries.Making.TheVariants as making
use Rattle.hk_model.specs.declared.entries.Entry.{Entry}
use Rattle.hk_model.specs.declared.entries.Entry.TheVariants.{Empty, Held, Form}
use Rattle.hk_model.specs.declared.calls.Refusal.{Refusal}
use Rattle.hk_model.specs.declared.calls.Refusal.TheVariants as refused
use Rattle.hk_model.specs.declared.calls.What8.TheVariants as full
use Rattle.hk_rights.specs.Rights.{ENV, has, all_but, all_rights, minus, special_rights, env_right, unconf_right}
use Rattle.hk_rights.proofs.Sets.{same_rights, has-bit_and, has-bit_or, has-lacking}
use Rattle.hk_model.specs.Limits.{slot_limit, object_limit}
use Rattle.hk_model.specs.State.{State, object, incarnation, same_name}
use Rattle.hk_model.specs.Keeping.{rooted_objects}
use Rattle.hk_model.specs.Refusing.{◌>>=◌, ◌>>◌, unless, allowed}
use Rattle.hk_model.specs.Walking.{held, reduced_rights}
use Rattle.hk_model.specs.Targets.{is_general, is_listed, is_of_type, DATA, UNIVERSAL, PROCEDURE, PROCESS, LNS, slot_at, storable, create_form, amplify_form}
use Rattle.hk_model.specs.Merging.{merged, merged_arg, merged_all, merged_rights, inherited}
use Rattle.hk_model.specs.Rule.{looked, made_form, room_made, has_room, can_be_created, copied, slots_at, argument, type_held}
use Rattle.hk_model.specs.Judgments.{HasEach, rights_of, IsGeneral, of_data, of_universal, of_declared, IsListed, lists_universal, lists_procedure, lists_declared, IsType, IsUncreated}
use Rattle.hk_model.specs.Judgments.{IsSlot, IsNoSlot, Stands, IsStorable, stores_template, stores_capability, NotStorable, stores_nothing, kept_local, NoCapability, is_nothing, is_template}
use Rattle.hk_model.specs.Judgments.{Merges, by_its_type, by_any_type, NamesOther, NoMerge, merge_other, merge_denied, Passes, passes_none, passes_more, PassesNot, argument_missing, argument_refused, argument_later}
use Rattle.hk_model.specs.Judgments.{Inherits, inherits_none, inherits_as_is, inherits_empty, inherits_template, inherits_confined, CopiesTo, copies_nothing, copies_template, leaves_template, copies_capability, leaves_capability}
use Rattle.hk_model.specs.Judgments.{CopiesAll, copies_none, copies_more, MakesRoom, already, collected, IsFullTable}
use Rattle.hk_model.specs.Does.{FirstNoSlot, this_slot, later_slot, Looks, at_nothing, at_capability, at_amplify, at_create, Makes, makes_amplify, makes_create, IsNoCreate, creates_nothing, creates_capability, creates_amplify}
use Rattle.hk_model.specs.Does.{IsNoAmplify, amplifies_nothing, amplifies_capability, amplifies_create}
use Rattle.std.proofs.lemmas.Option.{none-some}
use Rattle.hk_rights.proofs.Sets.{HasAll-from_bit_and}
use Rattle.hk_model.proofs.Standing.{name_same, name_laws}
use Rattle.hk_model.proofs.TestsAgree.{Gives, gives, refuses, gives_then, gives_and, gives_as, allowed_gives, below_gives}
use Rattle.hk_model.proofs.RuleWalks.{Tells, reduction, env_needed, one_right, one_lacking}

-- a refusal that is this one
pub so : (S : Refusal → Type 0) {r x : Refusal} → r ≡ x → S x → S r
so S e h = subst S (sym e) h

-- ---- types

-- one of three tests has passed, or none
one_of : (a b c : Bool) → (a || b || c) ≡ true → (a ≡ true) ⊎ ((b ≡ true) ⊎ (c ≡ true))
one_of true b c h = inl refl
one_of false true c h = inr (inl refl)
one_of false false true h = inr (inr refl)
one_of false false false h = absurd (cc)

none_of : (a b c : Bool) → (a || b || c) ≡ false → (a ≡ false) × (b ≡ false) × (c ≡ false)
none_of true b c h = absurd (cc)
none_of false true c h = absurd (cc)
none_of false false true h = absurd (cc)
none_of false false false h = (refl, refl, refl)

-- a type that a test lets through is one that the judgment has, and the other way round
pub general : Tells is_general IsGeneral
general = record {
  yes = λ of h. elim (one_of (of.0 == DATA) (of.0 == UNIVERSAL) (nat_lt LNS of.0) h) [
    | inl e ↦ of_data (eqb-true of.0 DATA e)
    | inr g ↦ elim g [ inl e ↦ of_universal (eqb-true of.0 UNIVERSAL e) | inr e ↦ of_declared (ltb-true LNS of.0 e) ]
  ];
  no = λ of h g. not_general of (none_of (of.0 == DATA) (of.0 == UNIVERSAL) (nat_lt LNS of.0) h) g;
}
  where
    not_general : (of : Name) → ((of.0 == DATA) ≡ false) × ((of.0 == UNIVERSAL) ≡ false) × (nat_lt LNS of.0 ≡ false) → IsGeneral of → ⊥
    not_general of h (of_data e) = true≢false (sym (eq-eqb of.0 DATA e) ∙ h.0)
    not_general of h (of_universal e) = true≢false (sym (eq-eqb of.0 UNIVERSAL e) ∙ h.1)
    not_general of h (of_declared e) = true≢false (sym (lt-ltb LNS of.0 e) ∙ h.2)

pub listed : Tells is_listed IsListed
listed = record {
  yes = λ of h. elim (one_of (of.0 == UNIVERSAL) (of.0 == PROCEDURE) (nat_lt LNS of.0) h) [
    | inl e ↦ lists_universal (eqb-true of.0 UNIVERSAL e)
    | inr g ↦ elim g [ inl e ↦ lists_procedure (eqb-true of.0 PROCEDURE e) | inr e ↦ lists_declared (ltb-true LNS of.0 e) ]
  ];
  no = λ of h g. not_listed of (none_of (of.0 == UNIVERSAL) (of.0 == PROCEDURE) (nat_lt LNS of.0) h) g;
}
  where
    not_listed : (of : Name) → ((of.0 == UNIVERSAL) ≡ false) × ((of.0 == PROCEDURE) ≡ false) × (nat_lt LNS of.0 ≡ false) → IsListed of → ⊥
    not_listed of h (lists_universal e) = true≢false (sym (eq-eqb of.0 UNIVERSAL e) ∙ h.0)
    not_listed of h (lists_procedure e) = true≢false (sym (eq-eqb of.0 PROCEDURE e) ∙ h.1)
    not_listed of h (lists_declared e) = true≢false (sym (lt-ltb LNS of.0 e) ∙ h.2)

pub one_type : (type : ℕ) → Tells (is_of_type type) (IsType type)
one_type type = record { yes = λ of h. eqb-true of.0 type h; no = λ of h e. true≢false (sym (eq-eqb of.0 type e) ∙ h) }

-- what no program creates
pub uncreated_gives : (of : Name) (refusal : Refusal) → Gives (λ (u : Unit {0}). IsUncreated of → ⊥) (λ r. IsUncreated of × (r ≡ refusal)) (unless (can_be_created of) refusal)
uncreated_gives of refusal = by (of.0 == PROCEDURE || of.0 == PROCESS || of.0 == LNS) refl
  where
    is : ((of.0 == PROCEDURE) ≡ true) ⊎ (((of.0 == PROCESS) ≡ true) ⊎ ((of.0 == LNS) ≡ true)) → IsUncreated of
    is (inl e) = inl (eqb-true of.0 PROCEDURE e)
    is (inr (inl e)) = inr (inl (eqb-true of.0 PROCESS e))
    is (inr (inr e)) = inr (inr (eqb-true of.0 LNS e))

    is_not : ((of.0 == PROCEDURE) ≡ false) × ((of.0 == PROCESS) ≡ false) × ((of.0 == LNS) ≡ false) → IsUncreated of → ⊥
    is_not h (inl e) = true≢false (sym (eq-eqb of.0 PROCEDURE e) ∙ h.0)
    is_not h (inr (inl e)) = true≢false (sym (eq-eqb of.0 PROCESS e) ∙ h.1)
    is_not h (inr (inr e)) = true≢false (sym (eq-eqb of.0 LNS e) ∙ h.2)

    by : (b : Bool) → (of.0 == PROCEDURE || of.0 == PROCESS || of.0 == LNS) ≡ b
        → Gives (λ (u : Unit {0}). IsUncreated of → ⊥) (λ r. IsUncreated of × (r ≡ refusal)) (unless (not b) refusal)
    by true e = refuses (is (one_of (of.0 == PROCEDURE) (of.0 == PROCESS) (of.0 == LNS) e), refl)
    by false e = gives (is_not (none_of (of.0 == PROCEDURE) (of.0 == PROCESS) (of.0 == LNS) e))

-- ---- slots

-- a slot operand, before what goes on with it
pub slot_then : {B : Type 0} {R : B → Type 0} {S : Refusal → Type 0} (slot : Slot) (step : ℕ) (f : ℕ → Result B Refusal)
    → (IsSlot slot.0 → Gives R S (f slot.0)) → (IsNoSlot slot.0 → S (refused.Range step)) → Gives R S (slot_at slot step >>= f)
slot_then {B} {R} {S} slot step f h k = by (nat_lt slot.0 slot_limit) refl
  where
    by : (b : Bool) → nat_lt slot.0 slot_limit ≡ b → Gives R S (cond b (Ok slot.0) (Err (refused.Range step)) >>= f)
    by true e = h (ltb-true slot.0 slot_limit e)
    by false e = refuses (k (ltb-false slot.0 slot_limit e))

pub slot_and : {B : Type 0} {R : B → Type 0} {S : Refusal → Type 0} (slot : Slot) (step : ℕ) (next : Result B Refusal)
    → (IsSlot slot.0 → Gives R S next) → (IsNoSlot slot.0 → S (refused.Range step)) → Gives R S (slot_at slot step >> next)
slot_and {B} {R} {S} slot step next h k = by (nat_lt slot.0 slot_limit) refl
  where
    by : (b : Bool) → nat_lt slot.0 slot_limit ≡ b → Gives R S (cond b (Ok slot.0) (Err (refused.Range step)) >> next)
    by true e = h (ltb-true slot.0 slot_limit e)
    by false e = refuses (k (ltb-false slot.0 slot_limit e))

-- the slots of the arguments
pub record IsFirstNoSlot (step : ℕ) (slots : List ℕ) (r : Refusal) : Type 0 where
  pub at : ℕ
  pub first : FirstNoSlot step slots at
  pub is : r ≡ refused.Range at

pub slots_give : (slots : List ℕ) (step : ℕ) → Gives (λ (u : Unit {0}). All IsSlot slots) (IsFirstNoSlot step slots) (slots_at slots step)
slots_give [] step = gives (All-nil IsSlot)
slots_give (slot ∷ rest) step =
    gives_and (below_gives slot slot_limit (refused.Range step))
    (λ u h. gives_as (slots_give rest (step + 1)) (λ v g. All-cons IsSlot slot rest h g) (λ r m. record { at = m.at; first = later_slot h m.first; is = m.is }))
    (λ r p. record { at = step; first = this_slot p.0; is = p.1 })

-- ---- what slots carry

pub storable_gives : (entry : Entry) (step : ℕ) → Gives (λ x. (x ≡ entry) × IsStorable entry) (NotStorable step entry) (storable entry step)
storable_gives Empty step = refuses stores_nothing
storable_gives (Form form) step = gives (refl, stores_template)
storable_gives (Held cap) step =
    gives_and (allowed_gives cap.rights ENV step (env_right ∷ []) env_needed)
    (λ u h. gives (refl, stores_capability (one_right cap.rights env_right h)))
    (λ r m. let d = one_lacking cap.rights env_right step r m in so (NotStorable step (Held cap)) d.1 (kept_local d.0))

pub held_gives : (entry : Entry) (step : ℕ) → Gives (λ cap. entry ≡ Held cap) (NoCapability step entry) (held entry step)
held_gives Empty step = refuses is_nothing
held_gives (Form form) step = refuses is_template
held_gives (Held cap) step = gives refl

-- ---- templates

pub create_gives : (entry : Entry) (step : ℕ) → Gives (λ form. entry ≡ Form (template.Create form.0 form.1)) (IsNoCreate step entry) (create_form entry step)
create_gives Empty step = refuses creates_nothing
create_gives (Held cap) step = refuses creates_capability
create_gives (Form (template.Amplify of check give)) step = refuses creates_amplify
create_gives (Form (template.Create of give)) step = gives refl

pub amplify_gives : (entry : Entry) (step : ℕ)
    → Gives (λ (form : Param). entry ≡ Form (template.Amplify form.of form.check form.give)) (IsNoAmplify step entry) (amplify_form entry step)
amplify_gives Empty step = refuses amplifies_nothing
amplify_gives (Held cap) step = refuses amplifies_capability
amplify_gives (Form (template.Amplify of check give)) step = gives refl
amplify_gives (Form (template.Create of give)) step = refuses amplifies_create

pub looks : (entry : Entry) → Looks entry (looked entry)
looks Empty = at_nothing
looks (Held cap) = at_capability
looks (Form (template.Amplify of check give)) = at_amplify
looks (Form (template.Create of give)) = at_create

pub makes : (kind : Making) (of : Name) → Makes of kind (made_form kind of)
makes (making.Amplify check give) of = makes_amplify
makes (making.Create give) of = makes_create

-- ---- merging

-- all of a template's rights but those special ones that are missing, are the others and those special ones that are there
given_rights : (rights give : ℕ) → minus give (minus special_rights rights) ≡ merged_rights rights (Some (record { 0 = 0 })) give
given_rights rights give = same_rights (minus give (minus special_rights rights)) (merged_rights rights (Some (record { 0 = 0 })) give) (λ n.
    rw (
      has-bit_and give (all_but (minus special_rights rights)) n,
      has-lacking all_rights (minus special_rights rights) n,
      has-bit_and special_rights (all_but rights) n,
      has-lacking all_rights rights n,
      has-bit_or (minus give special_rights) (bit_and (bit_and give special_rights) rights) n,
      has-bit_and give (all_but special_rights) n,
      has-lacking all_rights special_rights n,
      has-bit_and (bit_and give special_rights) rights n,
      has-bit_and give special_rights n,
    )
    (by (has give n) (has all_rights n) (has special_rights n) (has rights n) (HasAll-from_bit_and all_rights special_rights refl n)))
  where
    by : (g a s r : Bool) → (s ≡ true → a ≡ true) → (g && (a && not (s && (a && not r)))) ≡ ((g && (a && not s)) || ((g && s) && r))
    by false a s r h = refl
    by true true true true h = refl
    by true true true false h = refl
    by true true false r h = refl
    by true false true r h = absurd (true≢false (sym (h refl)))
    by true false false r h = refl

-- a capability and a template
pub merged_gives : (cap : Cap) (of : Name) (form : Param) (step : ℕ) → Gives (Merges cap of form) (NoMerge step cap of form) (merged cap of form step)
merged_gives cap of form step = by form.of form.check form.give
  where
    name_itself : (a b : Name) → a ≡ b → same_name a b ≡ true
    name_itself a b e = subst (λ x. same_name a x ≡ true) e (name_laws.refl a)

    unsome : {a b : Name} → Some a ≡ Some b → a ≡ b
    unsome e = cc

    rights_give : (f : Param) (R : Cap → Type 0) (new : Cap) → (HasEach cap.rights (rights_of f.check) → R new) → (NamesOther f of → ⊥)
        → Gives R (NoMerge step cap of f) (allowed cap.rights f.check step >> Ok new)
    rights_give f R new h typed =
        gives_and (allowed_gives cap.rights f.check step (rights_of f.check) refl) (λ u g. gives (h g))
        (λ r m. so (NoMerge step cap of f) m.is (merge_denied typed m.first))

    typed : (check give : ℕ) (type : Name) (b : Bool) → same_name type of ≡ b
        → Gives (Merges cap of (record { of = Some type; check = check; give = give })) (NoMerge step cap of (record { of = Some type; check = check; give = give }))
        (unless b (refused.WrongType step) >> (allowed cap.rights check step >> Ok (record { name = cap.name; rights = merged_rights cap.rights (Some type) give })))
    typed check give type false e =
        refuses (merge_other (record { type = type; names = refl; other = λ same. true≢false (sym (name_itself type of same) ∙ e) }))
    typed check give type true e =
        let same = name_same type of e in
        rights_give (record { of = Some type; check = check; give = give }) (Merges cap of (record { of = Some type; check = check; give = give }))
        (record { name = cap.name; rights = merged_rights cap.rights (Some type) give })
        (λ g. subst (λ t. Merges cap of (record { of = Some t; check = check; give = give }) (record { name = cap.name; rights = merged_rights cap.rights (Some type) give })) (sym same)
        (subst (λ n. Merges cap of (record { of = Some of; check = check; give = give }) (record { name = cap.name; rights = n })) (given_rights cap.rights give) (by_its_type g)))
        (λ o. o.other (sym (unsome o.names) ∙ same))

    by : (o : Option Name) (check give : ℕ)
        → Gives (Merges cap of (record { of = o; check = check; give = give })) (NoMerge step cap of (record { of = o; check = check; give = give }))
        (merged cap of (record { of = o; check = check; give = give }) step)
    by None check give =
        rights_give (record { of = None; check = check; give = give }) (Merges cap of (record { of = None; check = check; give = give }))
        (record { name = cap.name; rights = merged_rights cap.rights None give }) (λ g. by_any_type g) (λ o. absurd (none-some o.type o.names))
    by (Some type) check give = typed check give type (same_name type of) refl

-- ---- the arguments of a call

-- an argument that merges, and one that does not
pub record IsMerged (s : State) (inc : Inc) (slot : ℕ) (param : Param) (new : Cap) : Type 0 where
  pub cap : Cap
  pub stands : Stands s inc slot (Held cap)
  pub merges : Merges cap (object s cap.name).of param new

module _ (s : State) (inc : Inc) where
  -- an argument is refused before the others are looked at
  abbrev IsUnmerged : ℕ → Param → ℕ → Refusal → Type 0
  IsUnmerged slot param step r = (args : List ℕ) (params : List Param) → PassesNot s inc step (slot ∷ args) (param ∷ params) r

  argument_gives : (slot : ℕ) (param : Param) (step : ℕ) → Gives (IsMerged s inc slot param) (IsUnmerged slot param step) (merged_arg (argument s inc slot) param step)
  argument_gives slot param step = by (slice_index_or (incarnation s inc).slots slot Empty) refl
    where
      by : (entry : Entry) → Stands s inc slot entry
          → Gives (IsMerged s inc slot param) (IsUnmerged slot param step) (merged_arg (record { entry = entry; of = type_held s entry }) param step)
      by Empty e = refuses (λ args params. argument_missing e is_nothing)
      by (Form form) e = refuses (λ args params. argument_missing e is_template)
      by (Held cap) e =
          gives_as (merged_gives cap (object s cap.name).of param step) (λ new m. record { cap = cap; stands = e; merges = m }) (λ r n args params. argument_refused e n)

  pub arguments_give : (args : List ℕ) (params : List Param) (step : ℕ) → length args ≡ length params
      → Gives (Passes s inc args params) (PassesNot s inc step args params) (merged_all (map (argument s inc) args) params step)
  arguments_give [] [] step e = gives passes_none
  arguments_give [] (param ∷ params) step e = absurd (cc)
  arguments_give (slot ∷ args) [] step e = absurd (cc)
  arguments_give (slot ∷ args) (param ∷ params) step e =
      gives_then (argument_gives slot param step)
      (λ new m. gives_then (arguments_give args params (step + 1) (omega (arith, e)))
      (λ caps p. gives (passes_more m.stands m.merges p))
      (λ r p. argument_later m.stands m.merges p))
      (λ r h. h args params)

-- ---- lists

-- what a call inherits
pub inherits : (by : ℕ) (entries : List Entry) → Inherits by entries (map (inherited (not (has by unconf_right))) entries)
inherits by [] = inherits_none
inherits by (entry ∷ rest) = each (has by unconf_right) refl entry (inherits by rest)
  where
    each : (b : Bool) → has by unconf_right ≡ b → (x : Entry) {more : List Entry} → Inherits by rest more → Inherits by (x ∷ rest) (inherited (not b) x ∷ more)
    each true e x h = inherits_as_is e h
    each false e Empty h = inherits_empty e h
    each false e (Form form) h = inherits_template e h
    each false e (Held cap) h = inherits_confined e h

-- what is copied
copies_to : (by : ℕ) (entry : Entry) → CopiesTo by entry (copied by entry)
copies_to by Empty = copies_nothing
copies_to by (Form form) = each (has by env_right) refl
  where
    each : (b : Bool) → has by env_right ≡ b → CopiesTo by (Form form) (cond b (Form form) Empty)
    each true e = copies_template e
    each false e = leaves_template e
copies_to by (Held cap) = each (has (reduced_rights by cap.rights) env_right) refl
  where
    each : (b : Bool) → has (reduced_rights by cap.rights) env_right ≡ b
        → CopiesTo by (Held cap) (cond b (Held (record cap { rights = reduced_rights by cap.rights })) Empty)
    each true e = copies_capability (reduction by cap.rights) e
    each false e = leaves_capability (reduction by cap.rights) e

pub copies : (by : ℕ) (entries : List Entry) → CopiesAll by entries (map (copied by) entries)
copies by [] = copies_none
copies by (entry ∷ rest) = copies_more (copies_to by entry) (copies by rest)

-- room for one more object
pub room_gives : (s : State) → Gives (λ room. MakesRoom s (record s { objects = room })) (λ r. IsFullTable s × (r ≡ refused.Full full.Objects)) (room_made s)
room_gives s = each (has_room s.objects) refl
  where
    each : (b : Bool) → has_room s.objects ≡ b
        → Gives (λ room. MakesRoom s (record s { objects = room })) (λ r. IsFullTable s × (r ≡ refused.Full full.Objects))
        (cond b (Ok s.objects) (unless (has_room (rooted_objects s)) (refused.Full full.Objects) >> Ok (rooted_objects s)))
    each true e = gives (already (ltb-true (length s.objects) object_limit e))
    each false e =
        let many = ltb-false (length s.objects) object_limit e in
        gives_and (below_gives (length (rooted_objects s)) object_limit (refused.Full full.Objects))
        (λ u h. gives (collected many h))
        (λ r p. (record { full = many; rooted = p.0 }, p.1))
