-- What is named stands: after each call that nothing refuses, and after each line.
use Rattle.std.proofs.Common.{◌≡◌, ℕ, ◌+◌, ◌-◌, List, [], ◌∷◌, ◌++◌, length, Bool, true, false, Option, Some, None, Result, Ok, Err, refl, sym, ◌∙◌, ap, subst, map, replicate}
use Rattle.std.specs.Prelude.{IfOk, nat_lt, slice_set, slice_index_or, bit_and, is_some, ◌⊎◌}
use mathlib.Core.Logic.{inl, inr}
use Rattle.std.specs.Map.{lookup, remove_entry}
use Rattle.std.specs.Option.{unwrap_or}
use Rattle.std.proofs.lemmas.Bool.{false≢true}
use Rattle.hk_model.specs.declared.names.Name.{Name}
use Rattle.hk_model.specs.declared.names.Inc.{Inc}
use Rattle.hk_model.specs.declared.names.Proc.{Proc}
use Rattle.hk_model.specs.declared.names.Slot.{Slot}
use Rattle.hk_model.specs.declared.entries.Arg.{Arg}
use Rattle.hk_model.specs.declared.entries.Cap.{Cap}
use Rattle.hk_model.specs.declared.entries.Param.{Param}
use Rattle.hk_model.specs.declared.entries.Making.{Making}
use Rattle.hk_model.specs.declared.entries.Making.TheVariants as making
use Rattle.hk_model.specs.declared.entries.Template.{Template}
use Rattle.hk_model.specs.declared.entries.Template.TheVariants as template
use Rattle.hk_model.specs.declared.entries.Entry.{Entry}
use Rattle.hk_model.specs.declared.entries.Entry.TheVariants.{Empty, Held, Form}
use Rattle.hk_model.specs.declared.calls.Call.{Call}
use Rattle.hk_model.specs.declared.calls.Call.TheVariants as call
use Rattle.hk_model.specs.declared.calls.Refusal.{Refusal}
use Rattle.hk_model.specs.declared.calls.Refusal.TheVariants as refused
use Rattle.hk_model.specs.declared.calls.What8.TheVariants as full
use Rattle.hk_model.specs.declared.calls.Answer.{Answer}
use Rattle.hk_model.specs.declared.calls.Answer.TheVariants.{Done, Waits}
use Rattle.hk_model.specs.declared.objects.Object.{Object}
use Rattle.hk_model.specs.declared.objects.ProcessState.TheVariants.{Ready, Running, Waiting, Ended}
use Rattle.hk_rights.specs.Rights.{LOAD, COPY, ENV}
use Rattle.hk_model.specs.Limits.{slot_limit, token_limit}
use Rattle.hk_model.specs.State.{State, object, incarnation, process, put_object, put_slot, put_process, add_object, same_name, same_inc, no_object}
use Rattle.hk_model.specs.Keeping.{kept_objects, restricted}
use Rattle.hk_model.specs.Refusing.{◌>>=◌, ◌>>◌, unless, allowed, item_at}
use Rattle.hk_model.specs.Walking.{walk, walk_on, hop_on, held, obtained}
use Rattle.hk_model.specs.Merging.{merged, merged_arg, merged_all, inherited, call_slots, name_space}
use Rattle.hk_model.specs.Targets.{TYPE, SEMAPHORE, is_general, is_of_type, MODIFY+A0, MODIFY+A1, ENV+A0, slot_at, storable, not_empty, target, create_form}
use Rattle.hk_model.specs.Rule.{outcome, room_made, add_beside, made_form, plain_object, copied, argument, called_incarnation, enter, returned_cap, leave_to, token_given, yielded}
use Rattle.hk_model.specs.Rule.{counted, get_word, put_word, add_word, word_count, load_entry, store_entry, append_entry, erase_entry, drop_slot, restrict_slot, look}
use Rattle.hk_model.specs.Rule.{make_template, create_object, merge_cap, copy_object, enter_procedure, leave, take_token, give_token}
use Rattle.hk_model.specs.Processors.{ended}
use Rattle.hk_model.specs.Places.{SlotOf, EntryOf, standing, walk_end}
use Rattle.hk_model.specs.Descent.{Reduces}
use Rattle.hk_model.proofs.Keeping.{Vanish, kept_vanish, stays_or_lost, IsLost}
use Rattle.hk_model.proofs.TestLemmas.{then_is, and_is, if_ok, ok_more, held_is, item_is, not_empty_is, storable_is, create_form_is}
use Rattle.hk_model.proofs.WalkLemmas.{walk_reduces, target_is, obtained_reduces, copied_reduces, inherited_reduces}
use Rattle.hk_model.proofs.MergeLemmas.{merged_is}
use Rattle.hk_model.proofs.CallWays.{room_vanish, space_is}
use Rattle.hk_model.proofs.Steps.{EachStep, settled_keeps}
use Rattle.hk_model.proofs.NamesStand.{All, all_more, all_append, all_map, all_replicate, all_set, InEntry, InList, Within, list_in, standing_in, type_in, run_in, put_slot_in}
use Rattle.hk_model.proofs.NamesStand.{put_object_in, add_object_in, put_process_in, enter_in, left_in, ended_in, NamedStand, Stands, named_within, within_named, stands_put}
use Rattle.hk_model.proofs.NamesStand.{stands_added, stands_new, vanish_named}

-- a reduction names nothing else
reduced_in : (R : Name → Type 0) (from x : Entry) → Reduces from x → InEntry R from → InEntry R x
reduced_in R from Empty r h = tt
reduced_in R (Held a) (Held b) r h = (subst R (sym r.0) h.0, tt)
reduced_in R (Form a) (Form b) r h = subst (λ (t : Template). InEntry R (Form t)) r h
reduced_in R Empty (Held b) r h = absurd r
reduced_in R Empty (Form b) r h = absurd r
reduced_in R (Held a) (Form b) r h = absurd r
reduced_in R (Form a) (Held b) r h = absurd r

-- ---- walks

walk_in : (R : Name → Type 0) (s : State) (inc : Inc) (path : List ℕ) (x : Entry) → Within R s → walk s inc path ≡ Ok x → InEntry R x
walk_in R s inc path x h e = reduced_in R (standing s (walk_end s inc path)) x (walk_reduces s inc path x e) (standing_in R s h (walk_end s inc path))

hop_in : (R : Name → Type 0) (s : State) (cap : Cap) (at step : ℕ) → Within R s → IfOk (hop_on s (Held cap) at step) (InEntry R)
hop_in R s cap at step h =
    and_is (InEntry R) (allowed cap.rights LOAD step) (item_at (object s cap.name).entries at (step + 1) >>= (λ next. obtained cap.rights next step)) (λ u g.
    then_is (InEntry R) (item_at (object s cap.name).entries at (step + 1)) (λ next. obtained cap.rights next step) (λ next i.
    let same = item_is (object s cap.name).entries at (step + 1) next i in
    let there : InEntry R next = subst (InEntry R) (sym same) (standing_in R s h (EntryOf cap.name at)) in
    by next there (obtained cap.rights next step) (obtained_reduces cap.rights next step)))
  where
    by : (next : Entry) → InEntry R next → (r : Result Entry Refusal) → IfOk r (Reduces next) → IfOk r (InEntry R)
    by next there (Ok x) g = reduced_in R next x g there
    by next there (Err e) g = tt

-- where objects vanish, a walk from a slot that stays passes none that has gone
module _ (s : State) (objects : List (Name × Object)) (v : Vanish s objects) (h : NamedStand (record s { objects = objects })) where
  abbrev left : State
  left = record s { objects = objects }

  pub object_same : (n : Name) → Stands left n → object left n ≡ object s n
  object_same n there = by (stays_or_lost s objects v n)
    where
      by : ((lookup (same_name n) objects ≡ lookup (same_name n) s.objects) ⊎ IsLost s objects n) → object left n ≡ object s n
      by (inl e) = ap (λ (o : Option Object). unwrap_or o no_object) e
      by (inr l) = absurd (none (lookup (same_name n) objects) l.gone there)
        where
          none : (o : Option Object) → o ≡ None → is_some o ≡ true → ⊥
          none None e k = false≢true k
          none (Some x) e k = absurd (cc)

  hop_same : (cap : Cap) (at step : ℕ) → Stands left cap.name → hop_on left (Held cap) at step ≡ hop_on s (Held cap) at step
  hop_same cap at step there =
      ap (λ (o : Object). allowed cap.rights LOAD step >> (item_at o.entries at (step + 1) >>= (λ next. obtained cap.rights next step))) (object_same cap.name there)

  walk_on_same : (entry : Entry) (path : List ℕ) (step : ℕ) → InEntry (Stands left) entry → walk_on left entry path step ≡ walk_on s entry path step
  walk_on_same entry [] step g = refl
  walk_on_same Empty (at ∷ rest) step g = refl
  walk_on_same (Form form) (at ∷ rest) step g = refl
  walk_on_same (Held cap) (at ∷ rest) step g =
      by (λ next k. walk_on_same next rest (step + 1) k) (hop_on left (Held cap) at step) (hop_in (Stands left) left cap at step (named_within left h))
      ∙ ap (λ (r : Result Entry Refusal). r >>= (λ next. walk_on s next rest (step + 1))) (hop_same cap at step g.0)
    where
      by : ((next : Entry) → InEntry (Stands left) next → walk_on left next rest (step + 1) ≡ walk_on s next rest (step + 1)) → (r : Result Entry Refusal)
          → IfOk r (InEntry (Stands left))
          → (r >>= (λ next. walk_on left next rest (step + 1))) ≡ (r >>= (λ next. walk_on s next rest (step + 1)))
      by later (Ok next) k = later next k
      by later (Err e) k = refl

  walk_same : (inc : Inc) (path : List ℕ) → walk left inc path ≡ walk s inc path
  walk_same inc [] = refl
  walk_same inc (at ∷ rest) = by (item_at (incarnation s inc).slots at 0) refl
    where
      by : (r : Result Entry Refusal) → item_at (incarnation s inc).slots at 0 ≡ r → (r >>= (λ entry. walk_on left entry rest 0)) ≡ (r >>= (λ entry. walk_on s entry rest 0))
      by (Err e) k = refl
      by (Ok entry) k =
          let same = item_is (incarnation s inc).slots at 0 entry k in
          walk_on_same entry rest 0 (subst (InEntry (Stands left)) (sym same) (standing_in (Stands left) left (named_within left h) (SlotOf inc at)))

  pub walk_left : (inc : Inc) (path : List ℕ) (x : Entry) → walk s inc path ≡ Ok x → InEntry (Stands left) x
  walk_left inc path x e = walk_in (Stands left) left inc path x (named_within left h) (walk_same inc path ∙ e)

-- ---- each call behind its tests

module _ (s : State) (inc : Inc) (h : NamedStand s) where
  abbrev Names : Entry → Type 0
  Names x = InEntry (Stands s) x

  within : Within (Stands s) s
  within = named_within s h

  slot_names : (n : ℕ) → Names (slice_index_or (incarnation s inc).slots n Empty)
  slot_names n = standing_in (Stands s) s within (SlotOf inc n)

  walk_names : (path : List ℕ) (x : Entry) → walk s inc path ≡ Ok x → Names x
  walk_names path x e = walk_in (Stands s) s inc path x within e

  target_stands : (path : List ℕ) (types : Name → Bool) (rights : ℕ) (c : Cap) → target s inc path types rights ≡ Ok c → Stands s c.name
  target_stands path types rights c t = (walk_names path (Held c) (target_is s inc path types rights c t).leads).0

  -- a slot is written
  slot_named : (n : ℕ) (x : Entry) → Names x → NamedStand (put_slot s inc n x)
  slot_named n x g = within_named s (put_slot s inc n x) (λ m k. k) (put_slot_in (Stands s) s inc n x within g)

  empty_named : (n : ℕ) → NamedStand (put_slot s inc n Empty)
  empty_named n = slot_named n Empty tt

  loaded_named : (path : List ℕ) (n step : ℕ) (found entry : Entry) → walk s inc path ≡ Ok found → not_empty found step ≡ Ok entry → NamedStand (put_slot s inc n entry)
  loaded_named path n step found entry w e = slot_named n entry (subst Names (not_empty_is found entry step e) (walk_names path found w))

  held_names : (from step : ℕ) (c : Cap) → held (slice_index_or (incarnation s inc).slots from Empty) step ≡ Ok c → Stands s c.name
  held_names from step c e = (subst Names (held_is (slice_index_or (incarnation s inc).slots from Empty) step c e) (slot_names from)).0

  lessened_named : (from n step keep : ℕ) (c : Cap) → held (slice_index_or (incarnation s inc).slots from Empty) step ≡ Ok c
      → NamedStand (put_slot s inc n (Held (record c { rights = bit_and c.rights keep })))
  lessened_named from n step keep c e = slot_named n (Held (record c { rights = bit_and c.rights keep })) (held_names from step c e, tt)

  form_names : (kind : Making) (of : Name) → Stands s of → Names (Form (made_form kind of))
  form_names (making.Amplify check give) of g = (g, tt)
  form_names (making.Create give) of g = (g, tt)

  formed_named : (path : List ℕ) (n : ℕ) (kind : Making) (c : Cap) → target s inc path (is_of_type TYPE) ENV+A0 ≡ Ok c
      → NamedStand (put_slot s inc n (Form (made_form kind c.name)))
  formed_named path n kind c t = slot_named n (Form (made_form kind c.name)) (form_names kind c.name (target_stands path (is_of_type TYPE) ENV+A0 c t))

  merged_named : (from n a b : ℕ) (form : Param) (c new : Cap) → held (slice_index_or (incarnation s inc).slots from Empty) a ≡ Ok c → merged c (object s c.name).of form b ≡ Ok new
      → NamedStand (put_slot s inc n (Held new))
  merged_named from n a b form c new e m = slot_named n (Held new) (subst (Stands s) (sym (merged_is c (object s c.name).of form b new m).same) (held_names from a c e), tt)

  -- an object is changed, which keeps its type
  changed_named : (path : List ℕ) (types : Name → Bool) (rights : ℕ) (c : Cap) (o : Object) → target s inc path types rights ≡ Ok c → o.of ≡ (object s c.name).of
      → InList (Stands s) o.entries → NamedStand (put_object s c.name o)
  changed_named path types rights c o t same list =
      within_named s (put_object s c.name o) (stands_put s c.name o)
      (put_object_in (Stands s) s c.name o within (subst (Stands s) (sym same) (type_in (Stands s) s within c.name (target_stands path types rights c t)), list))

  own_list : (name : Name) → InList (Stands s) (object s name).entries
  own_list name = list_in (Stands s) s within name

  words_named : (path : List ℕ) (types : Name → Bool) (rights : ℕ) (c : Cap) (words : List ℕ) → target s inc path types rights ≡ Ok c
      → NamedStand (put_object s c.name (record (object s c.name) { words = words }))
  words_named path types rights c words t = changed_named path types rights c (record (object s c.name) { words = words }) t refl (own_list c.name)

  storable_names : (from step : ℕ) (entry : Entry) → storable (slice_index_or (incarnation s inc).slots from Empty) step ≡ Ok entry → Names entry
  storable_names from step entry e = subst Names (sym (storable_is (slice_index_or (incarnation s inc).slots from Empty) entry step e)) (slot_names from)

  stored_named : (path : List ℕ) (types : Name → Bool) (rights at from step : ℕ) (c : Cap) (entry : Entry) → target s inc path types rights ≡ Ok c
      → storable (slice_index_or (incarnation s inc).slots from Empty) step ≡ Ok entry
      → NamedStand (put_object s c.name (record (object s c.name) { entries = slice_set (object s c.name).entries at entry }))
  stored_named path types rights at from step c entry t e =
      changed_named path types rights c (record (object s c.name) { entries = slice_set (object s c.name).entries at entry }) t refl
      (all_set Names (object s c.name).entries at entry (own_list c.name) (storable_names from step entry e))

  appended_named : (path : List ℕ) (types : Name → Bool) (rights from step : ℕ) (c : Cap) (entry : Entry) → target s inc path types rights ≡ Ok c
      → storable (slice_index_or (incarnation s inc).slots from Empty) step ≡ Ok entry
      → NamedStand (put_object s c.name (record (object s c.name) { entries = (object s c.name).entries ++ entry ∷ [] }))
  appended_named path types rights from step c entry t e =
      changed_named path types rights c (record (object s c.name) { entries = (object s c.name).entries ++ entry ∷ [] }) t refl
      (all_append Names (object s c.name).entries (entry ∷ []) (own_list c.name) (storable_names from step entry e, tt))

  erased_named : (path : List ℕ) (types : Name → Bool) (rights at : ℕ) (c : Cap) → target s inc path types rights ≡ Ok c
      → NamedStand (put_object s c.name (record (object s c.name) { entries = slice_set (object s c.name).entries at Empty }))
  erased_named path types rights at c t =
      changed_named path types rights c (record (object s c.name) { entries = slice_set (object s c.name).entries at Empty }) t refl
      (all_set Names (object s c.name).entries at Empty (own_list c.name) tt)

  -- an object is made where there is room
  module _ (room : List (Name × Object)) (r : room_made s ≡ Ok room) where
    abbrev roomy : State
    roomy = record s { objects = room }

    gone : Vanish s room
    gone = room_vanish s room r

    roomy_named : NamedStand roomy
    roomy_named = vanish_named s room gone h

    made_named : (n : ℕ) (rights : ℕ) (o : Object) → Stands roomy o.of → InList (Stands roomy) o.entries
        → NamedStand (put_slot (add_object roomy o) inc n (Held (record { name = s.next_name; rights = rights })))
    made_named n rights o of list =
        let new : State = add_object roomy o in
        let after : NamedStand new = within_named roomy new (stands_added roomy o) (add_object_in (Stands roomy) roomy o (named_within roomy roomy_named) (of, list)) in
        within_named new (put_slot new inc n (Held (record { name = s.next_name; rights = rights }))) (λ m k. k)
        (put_slot_in (Stands new) new inc n (Held (record { name = s.next_name; rights = rights })) (named_within new after) (stands_new roomy o, tt))

    created_named : (path : List ℕ) (n step : ℕ) (entry : Entry) (form : Name × ℕ) → walk s inc path ≡ Ok entry → create_form entry step ≡ Ok form
        → NamedStand (put_slot (add_beside s room (plain_object form.0 [] [])) inc n (Held (record { name = s.next_name; rights = form.1 })))
    created_named path n step entry form w f =
        let names : InEntry (Stands roomy) (Form (template.Create form.0 form.1)) =
        subst (InEntry (Stands roomy)) (create_form_is entry step form f) (walk_left s room gone roomy_named inc path entry w) in
        made_named n form.1 (plain_object form.0 [] []) names.0 tt

    copied_named : (path : List ℕ) (n : ℕ) (c : Cap) → target s inc path is_general COPY ≡ Ok c
        → NamedStand (put_slot (add_beside s room (plain_object (object s c.name).of (object s c.name).words (map (copied c.rights) (object s c.name).entries))) inc n
        (Held (record { name = s.next_name; rights = c.rights })))
    copied_named path n c t =
        let there : Stands roomy c.name = (walk_left s room gone roomy_named inc path (Held c) (target_is s inc path is_general COPY c t).leads).0 in
        let same : object roomy c.name ≡ object s c.name = object_same s room gone roomy_named c.name there in
        let in_room = named_within roomy roomy_named in
        let of : Stands roomy (object s c.name).of = subst (λ (o : Object). Stands roomy o.of) same (type_in (Stands roomy) roomy in_room c.name there) in
        let list : InList (Stands roomy) (object s c.name).entries = subst (λ (o : Object). InList (Stands roomy) o.entries) same (list_in (Stands roomy) roomy in_room c.name) in
        made_named n c.rights (plain_object (object s c.name).of (object s c.name).words (map (copied c.rights) (object s c.name).entries)) of
        (all_map (InEntry (Stands roomy)) (copied c.rights) (object s c.name).entries
        (all_more (InEntry (Stands roomy)) (λ x. InEntry (Stands roomy) (copied c.rights x)) (λ x g. reduced_in (Stands roomy) x (copied c.rights x) (copied_reduces c.rights x) g)
        (object s c.name).entries list))

  -- a procedure is entered
  arg_in : (arg : Arg) (param : Param) (step : ℕ) → Names arg.entry → IfOk (merged_arg arg param step) (λ new. Stands s new.name)
  arg_in arg param step g =
      then_is (λ (new : Cap). Stands s new.name) (held arg.entry step) (λ cap. merged cap arg.of param step) (λ cap e.
      by cap (subst Names (held_is arg.entry step cap e) g).0 (merged cap arg.of param step) refl)
    where
      by : (cap : Cap) → Stands s cap.name → (m : Result Cap Refusal) → merged cap arg.of param step ≡ m → IfOk m (λ (new : Cap). Stands s new.name)
      by cap there (Ok new) e = subst (Stands s) (sym (merged_is cap arg.of param step new e).same) there
      by cap there (Err e) k = tt

  args_in : (args : List ℕ) (params : List Param) (step : ℕ) → IfOk (merged_all (map (argument s inc) args) params step) (All (λ (c : Cap). Stands s c.name))
  args_in [] params step = tt
  args_in (arg ∷ args) [] step = tt
  args_in (arg ∷ args) (param ∷ params) step =
      by (args_in args params (step + 1)) (merged_arg (argument s inc arg) param step) (arg_in (argument s inc arg) param step (slot_names arg))
    where
      by : IfOk (merged_all (map (argument s inc) args) params (step + 1)) (All (λ (c : Cap). Stands s c.name)) → (first : Result Cap Refusal)
          → IfOk first (λ (new : Cap). Stands s new.name)
          → IfOk (first >>= (λ new. merged_all (map (argument s inc) args) params (step + 1) >>= (λ others. Ok (new ∷ others)))) (All (λ (c : Cap). Stands s c.name))
      by later (Err e) k = tt
      by later (Ok new) k = then_is (All (λ (c : Cap). Stands s c.name)) (merged_all (map (argument s inc) args) params (step + 1)) (λ others. Ok (new ∷ others))
          (λ others e. (k, if_ok (All (λ (c : Cap). Stands s c.name)) (merged_all (map (argument s inc) args) params (step + 1)) others later e))

  entered_named : (proc : Proc) (path args : List ℕ) (into : Slot) (step : ℕ) (c : Cap) (slots : List Entry) (confined : Bool)
      → name_space (map (argument s inc) args) (object s c.name).params (object s c.name).entries confined step ≡ Ok slots
      → NamedStand (enter s (called_incarnation proc c.name inc into confined slots))
  entered_named proc path args into step c slots confined m =
      let space = space_is (map (argument s inc) args) (object s c.name).params (object s c.name).entries confined step slots m in
      let caps : All (λ (c : Cap). Stands s c.name) space.caps =
      if_ok (All (λ (c : Cap). Stands s c.name)) (merged_all (map (argument s inc) args) (object s c.name).params step) space.caps
      (args_in args (object s c.name).params step) space.merges in
      let rest : ℕ = slot_limit - (length space.caps + length (object s c.name).entries) in
      let all : InList (Stands s) (call_slots space.caps (object s c.name).entries confined) =
      all_append Names (map (λ (c : Cap). Held c) space.caps) (map (inherited confined) (object s c.name).entries ++ replicate rest Empty)
      (all_map Names (λ (c : Cap). Held c) space.caps (all_more (λ (c : Cap). Stands s c.name) (λ c. Names (Held c)) (λ c g. (g, tt)) space.caps caps))
      (all_append Names (map (inherited confined) (object s c.name).entries) (replicate rest Empty)
      (all_map Names (inherited confined) (object s c.name).entries
      (all_more Names (λ x. Names (inherited confined x)) (λ x g. reduced_in (Stands s) x (inherited confined x) (inherited_reduces confined x) g)
      (object s c.name).entries (own_list c.name)))
      (all_replicate Names rest Empty tt)) in
      let new = called_incarnation proc c.name inc into confined slots in
      within_named s (enter s new) (λ m k. k) (enter_in (Stands s) s new within (subst (InList (Stands s)) (sym space.is) all))

  -- and left
  abbrev gone_from : State
  gone_from = record s { incarnations = remove_entry (same_inc inc) s.incarnations }

  abbrev IfHeld : Option Cap → Type 0
  IfHeld None = Unit {0}
  IfHeld (Some c) = Stands s c.name

  given_in : (give : Option Slot) → IfOk (returned_cap (incarnation s inc).slots give) IfHeld
  given_in None = tt
  given_in (Some slot) =
      then_is IfHeld (slot_at slot 0) (λ at. held (slice_index_or (incarnation s inc).slots at Empty) 0 >>= (λ c. allowed c.rights ENV 0 >> Ok (Some c))) (λ at a.
      then_is IfHeld (held (slice_index_or (incarnation s inc).slots at Empty) 0) (λ c. allowed c.rights ENV 0 >> Ok (Some c)) (λ c e.
      and_is IfHeld (allowed c.rights ENV 0) (Ok (Some c)) (λ u g. held_names at 0 c e)))

  returned_named : (proc : Proc) (caller : Option Inc) (into : ℕ) (c : Option Cap) → IfHeld c → NamedStand (leave_to gone_from proc caller into c)
  returned_named proc None into c g =
      within_named s (put_process gone_from proc (record (process s proc) { run = Ended })) (λ m k. k)
      (put_process_in (Stands s) gone_from proc (record (process s proc) { run = Ended }) (left_in (Stands s) s inc within) tt)
  returned_named proc (Some caller) into None g =
      let new = record (process s proc) { current = caller } in
      within_named s (put_process gone_from proc new) (λ m k. k) (put_process_in (Stands s) gone_from proc new (left_in (Stands s) s inc within) (run_in (Stands s) s within proc))
  returned_named proc (Some caller) into (Some c) g =
      let new = record (process s proc) { current = caller } in
      let back : State = put_process gone_from proc new in
      within_named s (put_slot back caller into (Held c)) (λ m k. k)
      (put_slot_in (Stands s) back caller into (Held c) (put_process_in (Stands s) gone_from proc new (left_in (Stands s) s inc within) (run_in (Stands s) s within proc)) (g, tt))

  leave_named : (proc : Proc) (give : Option Slot) → IfOk (leave s proc inc give) (λ f. NamedStand f.1)
  unfolding leave
  leave_named proc give =
      then_is (λ f. NamedStand f.1) (returned_cap (incarnation s inc).slots give) (λ c. Ok (Done, leave_to gone_from proc (incarnation s inc).caller (incarnation s inc).into.0 c))
      (λ c e.
      returned_named proc (incarnation s inc).caller (incarnation s inc).into.0 c (if_ok IfHeld (returned_cap (incarnation s inc).slots give) c (given_in give) e))

  -- semaphores
  count_named : (path : List ℕ) (types : Name → Bool) (rights count : ℕ) (c : Cap) → target s inc path types rights ≡ Ok c
      → NamedStand (put_object s c.name (record (object s c.name) { count = count }))
  count_named path types rights count c t = changed_named path types rights c (record (object s c.name) { count = count }) t refl (own_list c.name)

  waiters_named : (path : List ℕ) (types : Name → Bool) (rights : ℕ) (waiters : List Proc) (c : Cap) → target s inc path types rights ≡ Ok c
      → NamedStand (put_object s c.name (record (object s c.name) { waiters = waiters }))
  waiters_named path types rights waiters c t = changed_named path types rights c (record (object s c.name) { waiters = waiters }) t refl (own_list c.name)

  take_named : (proc : Proc) (path : List ℕ) → IfOk (take_token s proc inc path) (λ f. NamedStand f.1)
  unfolding take_token
  take_named proc path =
      then_is (λ f. NamedStand f.1) (target s inc path (is_of_type SEMAPHORE) MODIFY+A0) (λ c. Ok (elim (nat_lt 0 (object s c.name).count) [
        | true ↦ (Done, put_object s c.name (record (object s c.name) { count = (object s c.name).count - 1 }))
        | false ↦ (
          Waits,
          put_process (put_object s c.name (record (object s c.name) { waiters = (object s c.name).waiters ++ proc ∷ [] })) proc
              (record (process s proc) { run = Waiting c.name }),
        )
      ])) (λ c t. by c t (nat_lt 0 (object s c.name).count))
    where
      by : (c : Cap) → target s inc path (is_of_type SEMAPHORE) MODIFY+A0 ≡ Ok c → (b : Bool) → NamedStand (elim b as (λ x. Answer × State) [
        | true ↦ (Done, put_object s c.name (record (object s c.name) { count = (object s c.name).count - 1 }))
        | false ↦ (
          Waits,
          put_process (put_object s c.name (record (object s c.name) { waiters = (object s c.name).waiters ++ proc ∷ [] })) proc
              (record (process s proc) { run = Waiting c.name }),
        )
      ]).1
      by c t true = count_named path (is_of_type SEMAPHORE) MODIFY+A0 ((object s c.name).count - 1) c t
      by c t false =
          let o = record (object s c.name) { waiters = (object s c.name).waiters ++ proc ∷ [] } in
          let u : State = put_object s c.name o in
          let new = record (process s proc) { run = Waiting c.name } in
          within_named u (put_process u proc new) (λ m k. k)
          (put_process_in (Stands u) u proc new (named_within u (waiters_named path (is_of_type SEMAPHORE) MODIFY+A0 ((object s c.name).waiters ++ proc ∷ []) c t))
          (stands_put s c.name o c.name (target_stands path (is_of_type SEMAPHORE) MODIFY+A0 c t), tt))

  token_named : (path : List ℕ) (c : Cap) → target s inc path (is_of_type SEMAPHORE) MODIFY+A1 ≡ Ok c → (waiters : List Proc)
      → IfOk (token_given s c.name (object s c.name) waiters) (λ f. NamedStand f.1)
  token_named path c t [] =
      and_is (λ f. NamedStand f.1) (unless (nat_lt (object s c.name).count token_limit) (refused.Full full.Tokens))
      (Ok (Done, put_object s c.name (record (object s c.name) { count = (object s c.name).count + 1 })))
      (λ u g. count_named path (is_of_type SEMAPHORE) MODIFY+A1 ((object s c.name).count + 1) c t)
  token_named path c t (first ∷ rest) =
      let o = record (object s c.name) { waiters = rest } in
      let u : State = put_object s c.name o in
      let new = record (process s first) { run = Ready } in
      let named =
      within_named u (put_process u first new) (λ m k. k)
      (put_process_in (Stands u) u first new (named_within u (waiters_named path (is_of_type SEMAPHORE) MODIFY+A1 rest c t)) tt) in
      record { each = named.each }

  yielded_named : (proc : Proc) → NamedStand (yielded s proc)
  yielded_named proc =
      let new = record (process s proc) { run = Ready } in
      let named = within_named s (put_process s proc new) (λ m k. k) (put_process_in (Stands s) s proc new within tt) in
      record { each = named.each }

  -- every call
  pub outcome_named : (proc : Proc) (c : Call) → IfOk (outcome s proc inc c) (λ f. NamedStand f.1)
  unfolding get_word put_word add_word word_count load_entry store_entry append_entry erase_entry drop_slot restrict_slot look make_template create_object merge_cap copy_object
      enter_procedure give_token
  outcome_named proc (call.Get of at) = search (then_is, h)
  outcome_named proc (call.Put of at word) = search (then_is, and_is, words_named)
  outcome_named proc (call.Add of word) = search (then_is, and_is, words_named)
  outcome_named proc (call.Length of) = search (then_is, h)
  outcome_named proc (call.Load from into) = search (then_is, loaded_named)
  outcome_named proc (call.Store list at from) = search (then_is, and_is, stored_named) depth 8
  outcome_named proc (call.Append list from) = search (then_is, and_is, appended_named) depth 8
  outcome_named proc (call.Erase list at) = search (then_is, and_is, erased_named)
  outcome_named proc (call.Drop slot) = search (then_is, empty_named)
  outcome_named proc (call.Restrict slot keep) = search (then_is, lessened_named)
  outcome_named proc (call.Look of) = search (then_is, h)
  outcome_named proc (call.MakeTemplate of kind into) = search (then_is, formed_named)
  outcome_named proc (call.Create by into) = search (then_is, and_is, created_named) depth 8
  outcome_named proc (call.Merge with c into) = search (then_is, merged_named) depth 10
  outcome_named proc (call.Copy of into) = search (then_is, copied_named) depth 8
  outcome_named proc (call.Enter path args into) = search (then_is, and_is, entered_named) depth 12
  outcome_named proc (call.Leave give) = leave_named proc give
  outcome_named proc (call.P of) = take_named proc of
  outcome_named proc (call.V of) =
      then_is (λ f. NamedStand f.1) (target s inc of (is_of_type SEMAPHORE) MODIFY+A1) (λ c. token_given s c.name (object s c.name) (object s c.name).waiters)
      (λ c t. token_named of c t (object s c.name).waiters)
  outcome_named proc call.Yield = yielded_named proc

-- ---- every line

-- behind a call or a halt objects vanish
behind_named : (s : State) (events : ℕ) → NamedStand s → NamedStand (counted events (restricted s))
behind_named s events h = let named = vanish_named s (kept_objects s) (kept_vanish s) h in record { each = named.each }

pub named_each : EachStep (λ s line t. NamedStand s → NamedStand t)
named_each = record {
  calls = λ s cpu proc c r h.
      settled_keeps NamedStand s (outcome s proc (process s proc).current c) (record { each = h.each })
      (ok_more (λ f. NamedStand f.1) (λ f. NamedStand (counted (s.events + 1) (restricted f.1))) (outcome s proc (process s proc).current c)
      (λ f g. behind_named f.1 (s.events + 1) g) (outcome_named s (process s proc).current h proc c));
  halts = λ s cpu proc r h. behind_named (ended s proc) (s.events + 1) (within_named s (ended s proc) (λ m k. k) (ended_in (Stands s) s proc (named_within s h)));
  dispatches = λ s cpu first rest r h.
      let new = record (process s first) { run = Running cpu } in
      let named = within_named s (put_process s first new) (λ m k. k) (put_process_in (Stands s) s first new (named_within s h) tt) in
      record { each = named.each };
}
