-- What each call, halt and dispatch does to each object.
use Rattle.std.proofs.Common.{◌≡◌, ℕ, ◌+◌, ◌-◌, ◌<◌, List, [], ◌∷◌, ◌++◌, length, Bool, true, false, Option, Some, None, Ok, Err, refl, sym, ap, ◌∙◌, subst, cond, option_map, map}
use Rattle.std.proofs.Common.{arith}
use Rattle.std.specs.Prelude.{IfOk, nat_lt, not, ◌||◌, ◌==◌, ◌⊎◌}
use mathlib.Core.Logic.{inl, inr}
use Rattle.std.proofs.lemmas.Bool.Decides.{nat_tests}
use Rattle.std.specs.Option.{unwrap_or, option_and_then}
use Rattle.std.specs.Ordering.{is_eq}
use Rattle.std.specs.Map.{set_value, remove_entry}
use Rattle.std.specs.BTreeMap.{insert_entry}
use Rattle.hk_model.specs.declared.names.Name.{Name}
use Rattle.hk_model.specs.declared.names.Inc.{Inc}
use Rattle.hk_model.specs.declared.names.Proc.{Proc}
use Rattle.hk_model.specs.declared.names.Cpu.{Cpu}
use Rattle.hk_model.specs.declared.names.Slot.{Slot}
use Rattle.hk_model.specs.declared.entries.Cap.{Cap}
use Rattle.hk_model.specs.declared.entries.Entry.{Entry}
use Rattle.hk_model.specs.declared.calls.Call.{Call}
use Rattle.hk_model.specs.declared.calls.Call.TheVariants as call
use Rattle.hk_model.specs.declared.calls.Refusal.TheVariants as refused
use Rattle.hk_model.specs.declared.calls.What8.TheVariants as full
use Rattle.hk_model.specs.declared.calls.Answer.{Answer}
use Rattle.hk_model.specs.declared.calls.Reply.TheVariants as reply
use Rattle.hk_model.specs.declared.calls.Answer.TheVariants.{Done, Word, Waits}
use Rattle.hk_model.specs.declared.lines.What.TheVariants as what
use Rattle.hk_model.specs.declared.lines.Line.{Line}
use Rattle.hk_model.specs.declared.objects.Object.{Object}
use Rattle.hk_model.specs.declared.objects.ProcessState.TheVariants.{Waiting}
use Rattle.hk_rights.specs.Rights.{COPY}
use Rattle.hk_model.specs.Limits.{token_limit}
use Rattle.hk_model.specs.State.{State, object, process, put_object, put_process, same_name, same_inc, name_cmp, no_object}
use Rattle.hk_model.specs.Keeping.{kept_objects, is_opening}
use Rattle.hk_model.specs.Refusing.{unless}
use Rattle.hk_model.specs.Walking.{walk}
use Rattle.hk_model.specs.Targets.{SEMAPHORE, PROCEDURE, PROCESS, LNS, is_general, is_of_type, slot_at, last_step, create_form, MODIFY+A0, MODIFY+A1, target}
use Rattle.hk_model.specs.Rule.{Outcome, outcome, settled, answered, can_be_created, plain_object, copied, room_made, leave_to, token_given, get_word, put_word, add_word}
use Rattle.hk_model.specs.Rule.{word_count, load_entry, store_entry, append_entry, erase_entry, drop_slot, restrict_slot, look, make_template, create_object, merge_cap}
use Rattle.hk_model.specs.Rule.{copy_object, enter_procedure, leave, take_token, give_token}
use Rattle.hk_model.specs.Processors.{ended}
use Rattle.hk_model.specs.Places.{cap_of, cap_found, entry_given}
use Rattle.hk_model.specs.Lines.{done_call, changed_by, changes_path, makes_object}
use Rattle.hk_model.specs.Effects.{there, IsSameKind, IsNoProcedure, IsMadeObject, lets_go, Becomes, Stays, Goes, Changes, IsNew}
use Rattle.hk_model.proofs.TestLemmas.{then_is, and_is, unless_is, create_form_is}
use Rattle.hk_model.proofs.Standing.{on_ordering, name_same, name_laws}
use Rattle.hk_model.proofs.Keeping.{IsLost, kept_vanish, stays_or_lost}
use Rattle.hk_model.proofs.WalkLemmas.{target_is}
use Rattle.hk_model.proofs.CallWays.{room_vanish}
use Rattle.hk_model.proofs.Steps.{EachStep, proc_line}

-- ---- one object is set, one is new

-- what is found under the name of what was set
set_found : (a : Name) (es : List (Name × Object)) (o : Object) → there (set_value (same_name a) es o) a ≡ option_map (λ (x : Object). o) (there es a)
set_found a [] o = refl
set_found a (e ∷ es) o = by (same_name a e.0) refl (set_found a es o)
  where
    by : (b : Bool) → same_name a e.0 ≡ b → there (set_value (same_name a) es o) a ≡ option_map (λ (x : Object). o) (there es a)
        → there (cond b ((e.0, o) ∷ es) (e ∷ set_value (same_name a) es o)) a ≡ option_map (λ (x : Object). o) (cond b (Some e.1) (there es a))
    by true h later = rw h refl
    by false h later = rw h later

-- and under another
set_other : (a b : Name) (es : List (Name × Object)) (o : Object) → same_name a b ≡ false → there (set_value (same_name b) es o) a ≡ there es a
set_other a b [] o h = refl
set_other a b (e ∷ es) o h = by (same_name b e.0) refl (set_other a b es o h)
  where
    by : (t : Bool) → same_name b e.0 ≡ t → there (set_value (same_name b) es o) a ≡ there es a
        → there (cond t ((e.0, o) ∷ es) (e ∷ set_value (same_name b) es o)) a ≡ cond (same_name a e.0) (Some e.1) (there es a)
    by true g later = let apart : same_name a e.0 ≡ false = ap (same_name a) (sym (name_same b e.0 g)) ∙ h in rw apart refl
    by false g later = ap (λ (o : Option Object). cond (same_name a e.0) (Some e.1) o) later

insert_other : (a k : Name) (es : List (Name × Object)) (o : Object) → same_name a k ≡ false → there (insert_entry name_cmp es k o) a ≡ there es a
insert_other a k [] o h = rw h refl
insert_other a k (e ∷ es) o h = by (insert_other a k es o h)
  where
    by : there (insert_entry name_cmp es k o) a ≡ there es a → there (insert_entry name_cmp (e ∷ es) k o) a ≡ there (e ∷ es) a
    by later = on_ordering (λ l. there l a ≡ there (e ∷ es) a) (name_cmp k e.0) ((k, o) ∷ e ∷ es) ((e.0, o) ∷ es) (e ∷ insert_entry name_cmp es k o)
        (λ g. rw h refl)
        (λ g. let apart : same_name a e.0 ≡ false = ap (same_name a) (sym (name_same k e.0 (ap is_eq g))) ∙ h in rw apart refl)
        (λ g. ap (λ (o : Option Object). cond (same_name a e.0) (Some e.1) o) later)

insert_found : (k : Name) (es : List (Name × Object)) (o : Object) → there (insert_entry name_cmp es k o) k ≡ Some o
insert_found k [] o = let same = name_laws.refl k in rw same refl
insert_found k (e ∷ es) o = by (insert_found k es o)
  where
    by : there (insert_entry name_cmp es k o) k ≡ Some o → there (insert_entry name_cmp (e ∷ es) k o) k ≡ Some o
    by later = on_ordering (λ l. there l k ≡ Some o) (name_cmp k e.0) ((k, o) ∷ e ∷ es) ((e.0, o) ∷ es) (e ∷ insert_entry name_cmp es k o)
        (λ g. let same = name_laws.refl k in rw same refl)
        (λ g. let same : same_name k e.0 ≡ true = ap is_eq g in rw same refl)
        (λ g. let apart : same_name k e.0 ≡ false = ap is_eq g in rw apart later)

-- what is made is no procedure
created_of : (of : Name) → can_be_created of ≡ true → (of.0 == PROCEDURE) ≡ false
created_of of h = by (of.0 == PROCEDURE) (of.0 == PROCESS) (of.0 == LNS) h
  where
    by : (a b c : Bool) → not (a || b || c) ≡ true → a ≡ false
    by true b c g = absurd (cc)
    by false b c g = refl

general_of : (n : ℕ) → is_general (record { 0 = n }) ≡ true → (n == PROCEDURE) ≡ false
general_of n h = grind (arith, nat_tests, h)

-- all that stands has a name that was given
abbrev pub ObjectsGiven : State → Type 0
ObjectsGiven s = (name : Name) (o : Object) → there s.objects name ≡ Some o → name.0 < s.next_name.0

-- what becomes of an object by a call of an incarnation that nothing refuses, before objects vanish behind it
data Left (s : State) (inc : Inc) (c : Option Call) (objects : List (Name × Object)) (name : Name) : Type 0 where
  Same : there objects name ≡ there s.objects name → Left s inc c objects name
  Lost : (before : Object) → is_opening s name ≡ false → there s.objects name ≡ Some before → there objects name ≡ None → Left s inc c objects name
  Told : (before after : Object) → changed_by s inc c ≡ Some name → there s.objects name ≡ Some before → there objects name ≡ Some after → IsSameKind before after
      → Left s inc c objects name
  New : (new : Object) → makes_object c ≡ true → name ≡ s.next_name → there s.objects name ≡ None → there objects name ≡ Some new → IsNoProcedure new → IsMadeObject s inc c new
      → Left s inc c objects name

-- ---- what each call does

module _ (s : State) (inc : Inc) (name : Name) (given : ObjectsGiven s) where
  -- where nothing refuses it
  abbrev LeavesBy : Call → Outcome → Type 0
  LeavesBy c o = IfOk o (λ f. Left s inc (Some c) f.1.objects name)

  left_same : (c : Call) (t : State) → t.objects ≡ s.objects → Left s inc (Some c) t.objects name
  left_same c t h = Same (ap (λ (os : List (Name × Object)). there os name) h)

  -- the target of a path is the object that the call is told to change
  changes_target : (c : Call) (path : List ℕ) (cap : Cap) → changes_path (Some c) ≡ Some path → cap_found s inc path ≡ Some cap → changed_by s inc (Some c) ≡ Some cap.name
  changes_target c path cap h g =
      ap (λ (o : Option (List ℕ)). option_map (λ (cap : Cap). cap.name) (option_and_then (cap_found s inc) o)) h ∙ ap (λ (o : Option Cap). option_map (λ (cap : Cap). cap.name) o) g

  left_object : (c : Call) (path : List ℕ) (types : Name → Bool) (rights : ℕ) (cap : Cap) (o : Object) → target s inc path types rights ≡ Ok cap → changes_path (Some c) ≡ Some path
      → IsSameKind (object s cap.name) o → Left s inc (Some c) (set_value (same_name cap.name) s.objects o) name
  left_object c path types rights cap o t h kind = by (same_name name cap.name) refl
    where
      told : changed_by s inc (Some c) ≡ Some cap.name
      told = changes_target c path cap h (ap (λ r. cap_of (entry_given r)) (target_is s inc path types rights cap t).leads)

      found : (old : Option Object) → there s.objects cap.name ≡ old → Left s inc (Some c) (set_value (same_name cap.name) s.objects o) cap.name
      found None e = Same (set_found cap.name s.objects o ∙ (ap (option_map (λ (x : Object). o)) e ∙ sym e))
      found (Some old) e =
          let same : object s cap.name ≡ old = ap (λ (x : Option Object). unwrap_or x no_object) e in
          Told old o told e (set_found cap.name s.objects o ∙ ap (option_map (λ (x : Object). o)) e) (subst (λ (x : Object). IsSameKind x o) same kind)

      by : (b : Bool) → same_name name cap.name ≡ b → Left s inc (Some c) (set_value (same_name cap.name) s.objects o) name
      by true e = subst (λ (a : Name). Left s inc (Some c) (set_value (same_name cap.name) s.objects o) a) (sym (name_same name cap.name e)) (found (there s.objects cap.name) refl)
      by false e = Same (set_other name cap.name s.objects o e)

  -- nothing stands under a name that was not given
  none_yet : (o : Option Object) → there s.objects name ≡ o → name ≡ s.next_name → there s.objects name ≡ None
  none_yet None e same = e
  none_yet (Some x) e same = let low = given name x e in let number : name.0 ≡ s.next_name.0 = ap (λ (n : Name). n.0) same in absurd (omega (arith, low, number))

  left_new : (c : Call) (room : List (Name × Object)) (o : Object) → room_made s ≡ Ok room → makes_object (Some c) ≡ true → IsNoProcedure o → IsMadeObject s inc (Some c) o
      → Left s inc (Some c) (insert_entry name_cmp room s.next_name o) name
  left_new c room o r m kind made = by (same_name name s.next_name) refl (stays_or_lost s room (room_vanish s room r) name)
    where
      lost : IsLost s room name → same_name name s.next_name ≡ false → (old : Option Object) → there s.objects name ≡ old
          → Left s inc (Some c) (insert_entry name_cmp room s.next_name o) name
      lost g e None h = Same (insert_other name s.next_name room o e ∙ (g.gone ∙ sym h))
      lost g e (Some x) h = Lost x g.made h (insert_other name s.next_name room o e ∙ g.gone)

      by : (b : Bool) → same_name name s.next_name ≡ b → (there room name ≡ there s.objects name) ⊎ IsLost s room name
          → Left s inc (Some c) (insert_entry name_cmp room s.next_name o) name
      by true e g =
          let same = name_same name s.next_name e in
          New o m same (none_yet (there s.objects name) refl same) (ap (there (insert_entry name_cmp room s.next_name o)) same ∙ insert_found s.next_name room o) kind made
      by false e (inl g) = Same (insert_other name s.next_name room o e ∙ g)
      by false e (inr g) = lost g e (there s.objects name) refl

  left_created : (path : List ℕ) (into : Slot) (step : ℕ) (entry : Entry) (form : Name × ℕ) (u : Unit {0}) (room : List (Name × Object)) → walk s inc path ≡ Ok entry
      → create_form entry step ≡ Ok form → unless (can_be_created form.0) (refused.WrongType step) ≡ Ok u → room_made s ≡ Ok room
      → Left s inc (Some (call.Create path into)) (insert_entry name_cmp room s.next_name (plain_object form.0 [] [])) name
  left_created path into step entry form u room w f h r =
      left_new (call.Create path into) room (plain_object form.0 [] []) r refl
      (record { of = created_of form.0 (unless_is (can_be_created form.0) (refused.WrongType step) u h); code = refl; params = refl })
      (record { give = form.1; by = ap entry_given w ∙ create_form_is entry step form f; is = refl })

  create_leaves : (path : List ℕ) (into : Slot) → LeavesBy (call.Create path into) (create_object s inc path into)
  unfolding create_object
  create_leaves path into =
      then_is {A = ℕ} (λ f. Left s inc (Some (call.Create path into)) f.1.objects name) (slot_at into (length path)) _ (λ slot a.
      then_is (λ f. Left s inc (Some (call.Create path into)) f.1.objects name) (walk s inc path) _ (λ entry b.
      then_is (λ f. Left s inc (Some (call.Create path into)) f.1.objects name) (create_form entry (last_step path)) _ (λ form d.
      and_is (λ f. Left s inc (Some (call.Create path into)) f.1.objects name) (unless (can_be_created form.0) (refused.WrongType (last_step path))) _ (λ u e.
      then_is (λ f. Left s inc (Some (call.Create path into)) f.1.objects name) (room_made s) _ (λ room r. left_created path into (last_step path) entry form u room b d e r)))))

  abbrev copy_of : Cap → Object
  copy_of cap = plain_object (object s cap.name).of (object s cap.name).words (map (copied cap.rights) (object s cap.name).entries)

  left_copied : (path : List ℕ) (into : Slot) (room : List (Name × Object)) (cap : Cap) → target s inc path is_general COPY ≡ Ok cap → room_made s ≡ Ok room
      → Left s inc (Some (call.Copy path into)) (insert_entry name_cmp room s.next_name (copy_of cap)) name
  left_copied path into room cap t r =
      let is = target_is s inc path is_general COPY cap t in
      left_new (call.Copy path into) room (copy_of cap) r refl (record { of = general_of (object s cap.name).of.0 is.typed; code = refl; params = refl })
      (record { cap = cap; of = ap (λ r. cap_of (entry_given r)) is.leads; is = refl })

  leaves_same : (c : Call) (give : Option Slot) (proc : Proc) (gone : State) (caller : Option Inc) (into : ℕ) (cap : Option Cap) → gone.objects ≡ s.objects
      → Left s inc (Some c) (leave_to gone proc caller into cap).objects name
  leaves_same c give proc gone None into cap h = left_same c gone h
  leaves_same c give proc gone (Some caller) into None h = left_same c gone h
  leaves_same c give proc gone (Some caller) into (Some cap) h = left_same c gone h

  take_leaves : (proc : Proc) (path : List ℕ) → LeavesBy (call.P path) (take_token s proc inc path)
  unfolding take_token
  take_leaves proc path =
      then_is (λ f. Left s inc (Some (call.P path)) f.1.objects name) (target s inc path (is_of_type SEMAPHORE) MODIFY+A0) (λ c. Ok (elim (nat_lt 0 (object s c.name).count) [
        | true ↦ (Done, put_object s c.name (record (object s c.name) { count = (object s c.name).count - 1 }))
        | false ↦ (
          Waits,
          put_process (put_object s c.name (record (object s c.name) { waiters = (object s c.name).waiters ++ proc ∷ [] })) proc
              (record (process s proc) { run = Waiting c.name }),
        )
      ])) (λ c g. by c g (nat_lt 0 (object s c.name).count))
    where
      by : (c : Cap) → target s inc path (is_of_type SEMAPHORE) MODIFY+A0 ≡ Ok c → (b : Bool) → Left s inc (Some (call.P path)) (elim b as (λ x. Answer × State) [
        | true ↦ (Done, put_object s c.name (record (object s c.name) { count = (object s c.name).count - 1 }))
        | false ↦ (
          Waits,
          put_process (put_object s c.name (record (object s c.name) { waiters = (object s c.name).waiters ++ proc ∷ [] })) proc
              (record (process s proc) { run = Waiting c.name }),
        )
      ]).1.objects name
      by c g true =
          left_object (call.P path) path (is_of_type SEMAPHORE) MODIFY+A0 c (record (object s c.name) { count = (object s c.name).count - 1 }) g refl
          (record { of = refl; code = refl; params = refl })
      by c g false =
          left_object (call.P path) path (is_of_type SEMAPHORE) MODIFY+A0 c (record (object s c.name) { waiters = (object s c.name).waiters ++ proc ∷ [] }) g refl
          (record { of = refl; code = refl; params = refl })

  token_leaves : (path : List ℕ) (c : Cap) → target s inc path (is_of_type SEMAPHORE) MODIFY+A1 ≡ Ok c → (waiters : List Proc)
      → LeavesBy (call.V path) (token_given s c.name (object s c.name) waiters)
  token_leaves path c g [] =
      and_is (λ f. Left s inc (Some (call.V path)) f.1.objects name) (unless (nat_lt (object s c.name).count token_limit) (refused.Full full.Tokens))
      (Ok (Done, put_object s c.name (record (object s c.name) { count = (object s c.name).count + 1 })))
      (λ u h. left_object (call.V path) path (is_of_type SEMAPHORE) MODIFY+A1 c (record (object s c.name) { count = (object s c.name).count + 1 }) g refl
      (record { of = refl; code = refl; params = refl }))
  token_leaves path c g (first ∷ rest) =
      left_object (call.V path) path (is_of_type SEMAPHORE) MODIFY+A1 c (record (object s c.name) { waiters = rest }) g refl (record { of = refl; code = refl; params = refl })

  -- every call
  outcome_leaves : (proc : Proc) (c : Call) → LeavesBy c (outcome s proc inc c)
  unfolding get_word put_word add_word word_count load_entry store_entry append_entry erase_entry drop_slot restrict_slot look make_template create_object merge_cap copy_object
      enter_procedure leave give_token
  outcome_leaves proc (call.Get of at) = search (then_is, left_same)
  outcome_leaves proc (call.Put of at word) = search (then_is, and_is, left_object)
  outcome_leaves proc (call.Add of word) = search (then_is, and_is, left_object)
  outcome_leaves proc (call.Length of) = search (then_is, left_same)
  outcome_leaves proc (call.Load from into) = search (then_is, left_same)
  outcome_leaves proc (call.Store list at from) = search (then_is, and_is, left_object) depth 8
  outcome_leaves proc (call.Append list from) = search (then_is, and_is, left_object) depth 8
  outcome_leaves proc (call.Erase list at) = search (then_is, and_is, left_object)
  outcome_leaves proc (call.Drop slot) = search (then_is, left_same)
  outcome_leaves proc (call.Restrict slot keep) = search (then_is, left_same)
  outcome_leaves proc (call.Look of) = search (then_is, left_same)
  outcome_leaves proc (call.MakeTemplate of kind into) = search (then_is, left_same)
  outcome_leaves proc (call.Create by into) = create_leaves by into
  outcome_leaves proc (call.Merge with c into) = search (then_is, left_same) depth 10
  outcome_leaves proc (call.Copy of into) = search (then_is, left_copied) depth 8
  outcome_leaves proc (call.Enter path args into) = search (then_is, and_is, left_same) depth 12
  outcome_leaves proc (call.Leave give) = search (then_is, leaves_same)
  outcome_leaves proc (call.P of) = take_leaves proc of
  outcome_leaves proc (call.V of) = search (then_is, token_leaves)
  outcome_leaves proc call.Yield = left_same call.Yield s refl

-- ---- and then objects vanish

-- the opening objects stay the same
abbrev FirstBy : State → Outcome → Type 0
FirstBy s o = IfOk o (λ f. f.1.first_new ≡ s.first_new)

take_first : (s : State) (proc : Proc) (inc : Inc) (path : List ℕ) → FirstBy s (take_token s proc inc path)
unfolding take_token
take_first s proc inc path =
    then_is (λ f. f.1.first_new ≡ s.first_new) (target s inc path (is_of_type SEMAPHORE) MODIFY+A0) (λ c. Ok (elim (nat_lt 0 (object s c.name).count) [
      | true ↦ (Done, put_object s c.name (record (object s c.name) { count = (object s c.name).count - 1 }))
      | false ↦ (
        Waits,
        put_process (put_object s c.name (record (object s c.name) { waiters = (object s c.name).waiters ++ proc ∷ [] })) proc
            (record (process s proc) { run = Waiting c.name }),
      )
    ])) (λ c g. by c (nat_lt 0 (object s c.name).count))
  where
    by : (c : Cap) (b : Bool) → (elim b as (λ x. Answer × State) [
      | true ↦ (Done, put_object s c.name (record (object s c.name) { count = (object s c.name).count - 1 }))
      | false ↦ (
        Waits,
        put_process (put_object s c.name (record (object s c.name) { waiters = (object s c.name).waiters ++ proc ∷ [] })) proc
            (record (process s proc) { run = Waiting c.name }),
      )
    ]).1.first_new ≡ s.first_new
    by c true = refl
    by c false = refl

token_first : (s : State) (name : Name) (o : Object) (waiters : List Proc) → FirstBy s (token_given s name o waiters)
token_first s name o [] =
    and_is (λ f. f.1.first_new ≡ s.first_new) (unless (nat_lt o.count token_limit) (refused.Full full.Tokens))
    (Ok (Done, put_object s name (record o { count = o.count + 1 }))) (λ u g. refl)
token_first s name o (first ∷ rest) = refl

leave_first : (s : State) (proc : Proc) (inc : Inc) (caller : Option Inc) (into : ℕ) (cap : Option Cap)
    → (leave_to (record s { incarnations = remove_entry (same_inc inc) s.incarnations }) proc caller into cap).first_new ≡ s.first_new
leave_first s proc inc None into cap = refl
leave_first s proc inc (Some caller) into None = refl
leave_first s proc inc (Some caller) into (Some cap) = refl

pub outcome_first : (s : State) (proc : Proc) (inc : Inc) (c : Call) → FirstBy s (outcome s proc inc c)
unfolding get_word put_word add_word word_count load_entry store_entry append_entry erase_entry drop_slot restrict_slot look make_template create_object merge_cap copy_object
    enter_procedure leave give_token
outcome_first s proc inc (call.Get of at) = search (then_is)
outcome_first s proc inc (call.Put of at word) = search (then_is, and_is)
outcome_first s proc inc (call.Add of word) = search (then_is, and_is)
outcome_first s proc inc (call.Length of) = search (then_is)
outcome_first s proc inc (call.Load from into) = search (then_is)
outcome_first s proc inc (call.Store list at from) = search (then_is, and_is)
outcome_first s proc inc (call.Append list from) = search (then_is, and_is)
outcome_first s proc inc (call.Erase list at) = search (then_is, and_is)
outcome_first s proc inc (call.Drop slot) = search (then_is)
outcome_first s proc inc (call.Restrict slot keep) = search (then_is)
outcome_first s proc inc (call.Look of) = search (then_is)
outcome_first s proc inc (call.MakeTemplate of kind into) = search (then_is)
outcome_first s proc inc (call.Create by into) = search (then_is, and_is) depth 8
outcome_first s proc inc (call.Merge with c into) = search (then_is) depth 10
outcome_first s proc inc (call.Copy of into) = search (then_is) depth 8
outcome_first s proc inc (call.Enter path args into) = search (then_is, and_is) depth 12
outcome_first s proc inc (call.Leave give) = search (then_is, leave_first)
outcome_first s proc inc (call.P of) = take_first s proc inc of
outcome_first s proc inc (call.V of) = search (then_is, token_first)
outcome_first s proc inc call.Yield = refl

-- what becomes of an object by a line where it stays or vanishes behind the call
becomes_after : (s t : State) (line : Line) (left : List (Name × Object)) (name : Name) → lets_go line.what line.reply ≡ true → t.first_new ≡ s.first_new
    → Left s line.inc (done_call line) t.objects name
    → (there left name ≡ there t.objects name) ⊎ IsLost t left name → Becomes s line left name
becomes_after s t line left name go first h kept = by h kept
  where
    made : IsLost t left name → is_opening s name ≡ false
    made l = ap (λ (n : Name). nat_lt name.0 n.0) (sym first) ∙ l.made

    lost : IsLost t left name → (old : Option Object) → there s.objects name ≡ old → Becomes s line left name
    lost l None e = Stays (l.gone ∙ sym e)
    lost l (Some x) e = Goes x go (made l) e l.gone

    by : Left s line.inc (done_call line) t.objects name → (there left name ≡ there t.objects name) ⊎ IsLost t left name → Becomes s line left name
    by (Same e) (inl g) = Stays (g ∙ e)
    by (Same e) (inr l) = lost l (there s.objects name) refl
    by (Lost x opening e f) (inl g) = Goes x go opening e (g ∙ f)
    by (Lost x opening e f) (inr l) = Goes x go opening e l.gone
    by (Told before after told e f kind) (inl g) = Changes before after told e (g ∙ f) kind
    by (Told before after told e f kind) (inr l) = Goes before go (made l) e l.gone
    by (New new makes is none e kind how) (inl g) = IsNew new makes is none (g ∙ e) kind how
    by (New new makes is none e kind how) (inr l) = Stays (l.gone ∙ sym none)

kept_or_lost : (t : State) (name : Name) → (there (kept_objects t) name ≡ there t.objects name) ⊎ IsLost t (kept_objects t) name
kept_or_lost t name = stays_or_lost t (kept_objects t) (kept_vanish t) name

done_leaves : (s t : State) (cpu : Cpu) (proc : Proc) (c : Call) (a : Answer) (name : Name) → t.first_new ≡ s.first_new → Left s (process s proc).current (Some c) t.objects name
    → Becomes s (proc_line s cpu proc (what.Call c) (answered a)) (kept_objects t) name
done_leaves s t cpu proc c Done name first h = becomes_after s t (proc_line s cpu proc (what.Call c) (answered Done)) (kept_objects t) name refl first h (kept_or_lost t name)
done_leaves s t cpu proc c (Word n) name first h =
    becomes_after s t (proc_line s cpu proc (what.Call c) (answered (Word n))) (kept_objects t) name refl first h (kept_or_lost t name)
done_leaves s t cpu proc c Waits name first h = becomes_after s t (proc_line s cpu proc (what.Call c) (answered Waits)) (kept_objects t) name refl first h (kept_or_lost t name)

settled_leaves : (s : State) (cpu : Cpu) (proc : Proc) (c : Call) (o : Outcome) (name : Name) → FirstBy s o
    → IfOk o (λ f. Left s (process s proc).current (Some c) f.1.objects name)
    → Becomes s (proc_line s cpu proc (what.Call c) (settled s o).0) (settled s o).1.objects name
settled_leaves s cpu proc c (Ok f) name first h = done_leaves s f.1 cpu proc c f.0 name first h
settled_leaves s cpu proc c (Err e) name first h = Stays refl

-- every line
pub leaves_each : EachStep (λ s line t. ObjectsGiven s → (name : Name) → Becomes s line t.objects name)
leaves_each = record {
  calls = λ s cpu proc c r given name.
      settled_leaves s cpu proc c (outcome s proc (process s proc).current c) name (outcome_first s proc (process s proc).current c)
      (outcome_leaves s (process s proc).current name given proc c);
  halts = λ s cpu proc r given name.
      becomes_after s (ended s proc) (proc_line s cpu proc what.Halt reply.Done) (kept_objects (ended s proc)) name refl refl (Same refl) (kept_or_lost (ended s proc) name);
  dispatches = λ s cpu first rest r given name. Stays refl;
}
