-- The rule table does what the inference rules say: each of its answers and refusals has its inference rule.
use Rattle.std.proofs.Common.{◌≡◌, ℕ, ◌+◌, ◌-◌, ◌≤◌, List, [], ◌∷◌, ◌++◌, length, Bool, true, false, not, Option, Some, None, Ok, Err, ◌==◌, refl, sym, ◌∙◌, subst, arith, map}
use Rattle.std.specs.Prelude.{nat_lt, nat_le, slice_index_or, All}
use Rattle.std.proofs.lemmas.Bool.{ltb-true, ltb-false, eqb-true, eqb-false}
use Rattle.std.proofs.lemmas.List.{length-map}
use Rattle.std.proofs.lemmas.Option.{slice_get_within}
use Rattle.std.specs.Map.{remove_entry}
use Rattle.hk_model.specs.declared.calls.Answer.TheVariants.{Done, Waits}
use Rattle.hk_model.specs.Walking.{walk}
use Rattle.hk_model.specs.Targets.{not_empty}
use Rattle.hk_model.specs.declared.names.Inc.{Inc}
use Rattle.hk_model.specs.declared.names.Proc.{Proc}
use Rattle.hk_model.specs.declared.names.Slot.{Slot}
use Rattle.hk_model.specs.declared.entries.Cap.{Cap}
use Rattle.hk_model.specs.declared.entries.Making.{Making}
use Rattle.hk_model.specs.declared.entries.Entry.{Entry}
use Rattle.hk_model.specs.declared.entries.Entry.TheVariants.{Empty, Held, Form}
use Rattle.hk_model.specs.declared.calls.Refusal.TheVariants as refused
use Rattle.hk_model.specs.declared.calls.What8.TheVariants as full
use Rattle.hk_model.specs.declared.calls.Reply.TheVariants as reply
use Rattle.hk_model.specs.declared.calls.Answer.{Answer}
use Rattle.hk_model.specs.declared.objects.ProcessState.TheVariants.{Waiting}
use Rattle.hk_model.specs.declared.calls.Call.{Call}
use Rattle.hk_model.specs.declared.calls.Call.TheVariants as call
use Rattle.hk_rights.specs.Rights.{GETDATA, COPY, ENV, A0, has, right_numbers, right_table, getdata_right, putdata_right, adddata_right, store_right, append_right, kill_right, copy_right, modify_right, env_right, unconf_right, a0_right, a1_right}
use Rattle.hk_model.specs.Limits.{word_limit, entry_limit, slot_limit, depth_limit, token_limit}
use Rattle.hk_model.specs.State.{State, object, incarnation, process, put_slot, put_object, put_process, same_inc}
use Rattle.hk_model.specs.Refusing.{◌>>=◌, ◌>>◌, unless}
use Rattle.hk_model.specs.Targets.{TYPE, SEMAPHORE, PROCEDURE, is_general, is_listed, is_of_type, PUTDATA+MODIFY, ADDDATA+MODIFY, STORE+MODIFY, APPEND+MODIFY, KILL+MODIFY, MODIFY+A0, MODIFY+A1, ENV+A0, last_step}
use Rattle.hk_model.specs.Merging.{name_space, call_slots, merged_all}
use Rattle.hk_model.specs.Rule.{Outcome, enter, called_incarnation, outcome, answered, settled, rule, depth, argument, token_given, leave_to, returned_cap, get_word, put_word, add_word, word_count, load_entry, store_entry, append_entry, erase_entry, drop_slot, restrict_slot, look}
use Rattle.hk_model.specs.Rule.{make_template, create_object, merge_cap, copy_object, enter_procedure, leave, take_token, give_token}
use Rattle.hk_model.specs.Judgments.{rights_of, IsGeneral, IsListed, IsType, Leads, Target, Stands, IsSlot, IsStorable, Passes, Has}
use Rattle.hk_model.specs.Does as rules
use Rattle.hk_model.specs.Does.{Answers, Refuses, Does, is_answered, is_refused}
use Rattle.hk_model.proofs.TestsAgree.{Gives, gives, refuses, gives_then, gives_and, item_gives, below_gives, within_gives, allowed_gives}
use Rattle.hk_model.proofs.RuleWalks.{walk_gives, target_gives, env_needed, one_right, one_lacking}
use Rattle.hk_model.proofs.RuleTests.{so, general, listed, one_type, uncreated_gives, slot_then, slot_and, slots_give, storable_gives, held_gives, create_gives, amplify_gives, looks, makes, merged_gives}
use Rattle.hk_model.proofs.RuleTests.{arguments_give, inherits, copies, room_gives}

-- the rights of each row
getdata_needed : rights_of GETDATA ≡ getdata_right ∷ []
unfolding right_numbers right_table
getdata_needed = refl

copy_needed : rights_of COPY ≡ copy_right ∷ []
unfolding right_numbers right_table
copy_needed = refl

a0_needed : rights_of A0 ≡ a0_right ∷ []
unfolding right_numbers right_table
a0_needed = refl

putdata_needed : rights_of PUTDATA+MODIFY ≡ putdata_right ∷ modify_right ∷ []
unfolding right_numbers right_table
putdata_needed = refl

adddata_needed : rights_of ADDDATA+MODIFY ≡ adddata_right ∷ modify_right ∷ []
unfolding right_numbers right_table
adddata_needed = refl

store_needed : rights_of STORE+MODIFY ≡ store_right ∷ modify_right ∷ []
unfolding right_numbers right_table
store_needed = refl

append_needed : rights_of APPEND+MODIFY ≡ append_right ∷ modify_right ∷ []
unfolding right_numbers right_table
append_needed = refl

kill_needed : rights_of KILL+MODIFY ≡ kill_right ∷ modify_right ∷ []
unfolding right_numbers right_table
kill_needed = refl

p_needed : rights_of MODIFY+A0 ≡ modify_right ∷ a0_right ∷ []
unfolding right_numbers right_table
p_needed = refl

v_needed : rights_of MODIFY+A1 ≡ modify_right ∷ a1_right ∷ []
unfolding right_numbers right_table
v_needed = refl

type_needed : rights_of ENV+A0 ≡ env_right ∷ a0_right ∷ []
unfolding right_numbers right_table
type_needed = refl

module _ (s : State) (proc : Proc) (inc : Inc) where
  -- what an outcome is by the inference rules
  abbrev Infers : Call → Outcome → Type 0
  Infers c = Gives (λ found. Answers s proc inc c (answered found.0) found.1) (Refuses s proc inc c)

  get_infers : (path : List ℕ) (at : ℕ) → Infers (call.Get path at) (get_word s inc path at)
  unfolding get_word
  get_infers path at =
      gives_then (target_gives s inc path is_general IsGeneral GETDATA (getdata_right ∷ []) general getdata_needed)
      (λ cap t. gives_then (item_gives (object s cap.name).words at (length path))
      (λ word i. gives (rules.get t i))
      (λ r p. so (Refuses s proc inc (call.Get path at)) p.1 (rules.get_range t p.0)))
      (λ r h. rules.get_target h)

  put_infers : (path : List ℕ) (at word : ℕ) → Infers (call.Put path at word) (put_word s inc path at word)
  unfolding put_word
  put_infers path at word =
      gives_then (target_gives s inc path is_general IsGeneral PUTDATA+MODIFY (putdata_right ∷ modify_right ∷ []) general putdata_needed)
      (λ cap t. gives_and (item_gives (object s cap.name).words at (length path))
      (λ old i. gives (rules.put t (slice_get_within (object s cap.name).words at old i)))
      (λ r p. so (Refuses s proc inc (call.Put path at word)) p.1 (rules.put_range t p.0)))
      (λ r h. rules.put_target h)

  add_infers : (path : List ℕ) (word : ℕ) → Infers (call.Add path word) (add_word s inc path word)
  unfolding add_word
  add_infers path word =
      gives_then (target_gives s inc path is_general IsGeneral ADDDATA+MODIFY (adddata_right ∷ modify_right ∷ []) general adddata_needed)
      (λ cap t. gives_and (below_gives (length (object s cap.name).words) word_limit (refused.Full full.Words))
      (λ u h. gives (rules.add t h))
      (λ r p. so (Refuses s proc inc (call.Add path word)) p.1 (rules.add_full t p.0)))
      (λ r h. rules.add_target h)

  count_infers : (path : List ℕ) → Infers (call.Length path) (word_count s inc path)
  unfolding word_count
  count_infers path =
      gives_then (target_gives s inc path is_general IsGeneral GETDATA (getdata_right ∷ []) general getdata_needed)
      (λ cap t. gives (rules.count t)) (λ r h. rules.count_target h)

  load_infers : (path : List ℕ) (into : Slot) → Infers (call.Load path into) (load_entry s inc path into)
  unfolding load_entry
  load_infers path into =
      slot_then into (length path) (λ slot. walk s inc path >>= (λ found. not_empty found (last_step path) >>= (λ entry. Ok (Done, put_slot s inc slot entry))))
      (λ i. gives_then (walk_gives s inc path) (λ entry l. by entry l i) (λ r h. rules.load_nowhere i h))
      (λ i. rules.load_into i)
    where
      by : (entry : Entry) → Leads s inc path entry → IsSlot into.0
          → Infers (call.Load path into) (not_empty entry (last_step path) >>= (λ entry. Ok (Done, put_slot s inc into.0 entry)))
      by Empty l i = refuses (rules.load_nothing i l)
      by (Held cap) l i = gives (rules.load_slot i l (λ e. absurd (cc)))
      by (Form form) l i = gives (rules.load_slot i l (λ e. absurd (cc)))

  store_infers : (path : List ℕ) (at : ℕ) (from : Slot) → Infers (call.Store path at from) (store_entry s inc path at from)
  unfolding store_entry
  store_infers path at from =
      slot_then from (length path + 1) _
      (λ i. gives_then (target_gives s inc path is_listed IsListed STORE+MODIFY (store_right ∷ modify_right ∷ []) listed store_needed)
      (λ cap t. gives_and (item_gives (object s cap.name).entries at (length path))
      (λ old b. let below = slice_get_within (object s cap.name).entries at old b in
      gives_then (storable_gives (slice_index_or (incarnation s inc).slots from.0 Empty) (length path + 1))
      (λ entry h. gives (rules.store i t below (sym h.0) (subst IsStorable (sym h.0) h.1)))
      (λ r h. rules.store_what i t below refl h))
      (λ r p. so (Refuses s proc inc (call.Store path at from)) p.1 (rules.store_range i t p.0)))
      (λ r h. rules.store_target i h))
      (λ i. rules.store_from i)

  append_infers : (path : List ℕ) (from : Slot) → Infers (call.Append path from) (append_entry s inc path from)
  unfolding append_entry
  append_infers path from =
      slot_then from (length path) _
      (λ i. gives_then (target_gives s inc path is_listed IsListed APPEND+MODIFY (append_right ∷ modify_right ∷ []) listed append_needed)
      (λ cap t. gives_then (storable_gives (slice_index_or (incarnation s inc).slots from.0 Empty) (length path))
      (λ entry h. let storable = subst IsStorable (sym h.0) h.1 in
      gives_and (below_gives (length (object s cap.name).entries) entry_limit (refused.Full full.Entries))
      (λ u l. gives (rules.append i t (sym h.0) storable l))
      (λ r p. so (Refuses s proc inc (call.Append path from)) p.1 (rules.append_full i t (sym h.0) storable p.0)))
      (λ r h. rules.append_what i t refl h))
      (λ r h. rules.append_target i h))
      (λ i. rules.append_from i)

  erase_infers : (path : List ℕ) (at : ℕ) → Infers (call.Erase path at) (erase_entry s inc path at)
  unfolding erase_entry
  erase_infers path at =
      gives_then (target_gives s inc path is_listed IsListed KILL+MODIFY (kill_right ∷ modify_right ∷ []) listed kill_needed)
      (λ cap t. gives_and (item_gives (object s cap.name).entries at (length path))
      (λ old i. gives (rules.erase t (slice_get_within (object s cap.name).entries at old i)))
      (λ r p. so (Refuses s proc inc (call.Erase path at)) p.1 (rules.erase_range t p.0)))
      (λ r h. rules.erase_target h)

  drop_infers : (slot : Slot) → Infers (call.Drop slot) (drop_slot s inc slot)
  unfolding drop_slot
  drop_infers slot = slot_then slot 0 _ (λ i. gives (rules.drop i)) (λ i. rules.drop_slot i)

  restrict_infers : (slot : Slot) (keep : ℕ) → Infers (call.Restrict slot keep) (restrict_slot s inc slot keep)
  unfolding restrict_slot
  restrict_infers slot keep =
      slot_then slot 0 _
      (λ i. gives_then (held_gives (slice_index_or (incarnation s inc).slots slot.0 Empty) 0) (λ cap h. gives (rules.restrict i h)) (λ r h. rules.restrict_what i refl h))
      (λ i. rules.restrict_slot i)

  look_infers : (path : List ℕ) → Infers (call.Look path) (look s inc path)
  unfolding look
  look_infers path = gives_then (walk_gives s inc path) (λ entry l. gives (rules.look l (looks entry))) (λ r h. rules.look_nowhere h)

  make_template_infers : (path : List ℕ) (kind : Making) (into : Slot) → Infers (call.MakeTemplate path kind into) (make_template s inc path kind into)
  unfolding make_template
  make_template_infers path kind into =
      slot_then into (length path) _
      (λ i. gives_then (target_gives s inc path (is_of_type TYPE) (IsType TYPE) ENV+A0 (env_right ∷ a0_right ∷ []) (one_type TYPE) type_needed)
      (λ cap t. gives (rules.make_template i t (makes kind cap.name)))
      (λ r h. rules.make_template_target i h))
      (λ i. rules.make_template_into i)

  create_infers : (path : List ℕ) (into : Slot) → Infers (call.Create path into) (create_object s inc path into)
  unfolding create_object
  create_infers path into =
      slot_then into (length path) _
      (λ i. gives_then (walk_gives s inc path)
      (λ entry l. gives_then (create_gives entry (last_step path))
      (λ form h. let leads = subst (Leads s inc path) h l in
      gives_and (uncreated_gives form.0 (refused.WrongType (last_step path)))
      (λ u free. gives_then (room_gives s)
      (λ room m. gives (rules.create i leads free m))
      (λ r p. so (Refuses s proc inc (call.Create path into)) p.1 (rules.create_full i leads free p.0)))
      (λ r p. so (Refuses s proc inc (call.Create path into)) p.1 (rules.create_type i leads p.0)))
      (λ r h. rules.create_what i l h))
      (λ r h. rules.create_nowhere i h))
      (λ i. rules.create_into i)

  merge_infers : (path : List ℕ) (from into : Slot) → Infers (call.Merge path from into) (merge_cap s inc path from into)
  unfolding merge_cap
  merge_infers path from into =
      slot_then from (length path) _
      (λ f. slot_then into (length path + 1) _
      (λ i. gives_then (walk_gives s inc path)
      (λ entry l. gives_then (amplify_gives entry (last_step path))
      (λ form h. let leads = subst (Leads s inc path) h l in
      gives_then (held_gives (slice_index_or (incarnation s inc).slots from.0 Empty) (length path))
      (λ cap g. gives_then (merged_gives cap (object s cap.name).of form (length path))
      (λ new m. gives (rules.merge f i leads g m))
      (λ r n. rules.merge_refused f i leads g n))
      (λ r n. rules.merge_cap f i leads refl n))
      (λ r h. rules.merge_what f i l h))
      (λ r h. rules.merge_nowhere f i h))
      (λ i. rules.merge_into f i))
      (λ f. rules.merge_from f)

  copy_infers : (path : List ℕ) (into : Slot) → Infers (call.Copy path into) (copy_object s inc path into)
  unfolding copy_object
  copy_infers path into =
      slot_then into (length path) _
      (λ i. gives_then (target_gives s inc path is_general IsGeneral COPY (copy_right ∷ []) general copy_needed)
      (λ cap t. gives_then (room_gives s)
      (λ room m. gives (rules.copy i t (copies cap.rights (object s cap.name).entries) m))
      (λ r p. so (Refuses s proc inc (call.Copy path into)) p.1 (rules.copy_full i t p.0)))
      (λ r h. rules.copy_target i h))
      (λ i. rules.copy_into i)

  -- the name space of a call: of its arguments as they merge, and of what the procedure holds
  record IsSpace (path args : List ℕ) (cap : Cap) (slots : List Entry) : Type 0 where
    caps : List Cap
    passes : Passes s inc args (object s cap.name).params caps
    few : length caps + length (object s cap.name).entries ≤ slot_limit
    is : slots ≡ call_slots caps (object s cap.name).entries (not (has cap.rights unconf_right))

  space_gives : (path args : List ℕ) (into : Slot) (cap : Cap) → All IsSlot args → IsSlot into.0 → Target s inc path (IsType PROCEDURE) (a0_right ∷ []) cap
      → Gives (IsSpace path args cap) (Refuses s proc inc (call.Enter path args into))
      (name_space (map (argument s inc) args) (object s cap.name).params (object s cap.name).entries (not (has cap.rights unconf_right)) (length path))
  space_gives path args into cap a i t = by (length (map (argument s inc) args) == length (object s cap.name).params) refl
    where
      merged_then : length args ≡ length (object s cap.name).params → Gives (IsSpace path args cap) (Refuses s proc inc (call.Enter path args into))
          (merged_all (map (argument s inc) args) (object s cap.name).params (length path) >>= (λ caps.
          unless (nat_le (length caps + length (object s cap.name).entries) slot_limit) (refused.Full full.Slots) >>
          Ok (call_slots caps (object s cap.name).entries (not (has cap.rights unconf_right)))))
      merged_then same =
          gives_then (arguments_give s inc args (object s cap.name).params (length path) same)
          (λ caps p. gives_and (within_gives (length caps + length (object s cap.name).entries) slot_limit (refused.Full full.Slots))
          (λ u few. gives (record { caps = caps; passes = p; few = few; is = refl }))
          (λ r q. so (Refuses s proc inc (call.Enter path args into)) q.1 (rules.enter_full a i t p q.0)))
          (λ r h. rules.enter_passes a i t same h)

      by : (b : Bool) → (length (map (argument s inc) args) == length (object s cap.name).params) ≡ b
          → Gives (IsSpace path args cap) (Refuses s proc inc (call.Enter path args into))
          (unless b refused.Count >> (merged_all (map (argument s inc) args) (object s cap.name).params (length path) >>= (λ caps.
          unless (nat_le (length caps + length (object s cap.name).entries) slot_limit) (refused.Full full.Slots) >>
          Ok (call_slots caps (object s cap.name).entries (not (has cap.rights unconf_right))))))
      by true e =
          merged_then (sym (length-map args (argument s inc)) ∙ eqb-true (length (map (argument s inc) args)) (length (object s cap.name).params) e)
      by false e =
          refuses (rules.enter_count a i t (λ same. eqb-false (length (map (argument s inc) args)) (length (object s cap.name).params) e (length-map args (argument s inc) ∙ same)))

  enter_infers : (path args : List ℕ) (into : Slot) → Infers (call.Enter path args into) (enter_procedure s proc inc path args into)
  unfolding enter_procedure
  enter_infers path args into =
      gives_and (slots_give args (length path))
      (λ u a. slot_and into (length path + length args) _
      (λ i. gives_then (target_gives s inc path (is_of_type PROCEDURE) (IsType PROCEDURE) A0 (a0_right ∷ []) (one_type PROCEDURE) a0_needed)
      (λ cap t. gives_then (space_gives path args into cap a i t)
      (λ slots p. gives_and (below_gives (depth s proc) depth_limit refused.Deep)
      (λ v shallow. gives (subst (entered cap) (sym p.is) (rules.enter a i t p.passes (inherits cap.rights (object s cap.name).entries) p.few shallow)))
      (λ r q. so (Refuses s proc inc (call.Enter path args into)) q.1 (rules.enter_deep a i t p.passes p.few q.0)))
      (λ r h. h))
      (λ r h. rules.enter_target a i h))
      (λ i. rules.enter_into a i))
      (λ r m. so (Refuses s proc inc (call.Enter path args into)) m.is (rules.enter_argument m.first))
    where
      entered : Cap → List Entry → Type 0
      entered cap slots =
          Answers s proc inc (call.Enter path args into) reply.Done (enter s (called_incarnation proc cap.name inc into (not (has cap.rights unconf_right)) slots))

  -- what a return hands over
  record IsReturned (slot : Slot) (give : Option Cap) : Type 0 where
    cap : Cap
    good : IsSlot slot.0
    stands : Stands s inc slot.0 (Held cap)
    env : Has cap.rights env_right
    is : give ≡ Some cap

  returned_gives : (slot : Slot) → Gives (IsReturned slot) (Refuses s proc inc (call.Leave (Some slot))) (returned_cap (incarnation s inc).slots (Some slot))
  returned_gives slot =
      slot_then slot 0 _
      (λ i. gives_then (held_gives (slice_index_or (incarnation s inc).slots slot.0 Empty) 0)
      (λ cap h. gives_and (allowed_gives cap.rights ENV 0 (env_right ∷ []) env_needed)
      (λ u g. gives (record { cap = cap; good = i; stands = h; env = one_right cap.rights env_right g; is = refl }))
      (λ r m. let d = one_lacking cap.rights env_right 0 r m in so (Refuses s proc inc (call.Leave (Some slot))) d.1 (rules.leave_denied i h d.0)))
      (λ r h. rules.leave_what i refl h))
      (λ i. rules.leave_slot i)

  leave_infers : (give : Option Slot) → Infers (call.Leave give) (leave s proc inc give)
  unfolding leave
  leave_infers None = by (incarnation s inc).caller refl
    where
      by : (caller : Option Inc) → (incarnation s inc).caller ≡ caller
          → Infers (call.Leave None) (Ok (Done, leave_to (record s { incarnations = remove_entry (same_inc inc) s.incarnations }) proc caller (incarnation s inc).into.0 None))
      by None e = gives (rules.end e)
      by (Some caller) e = gives (rules.leave e)
  leave_infers (Some slot) = gives_then (returned_gives slot) (λ give g. gives (by (incarnation s inc).caller refl give g)) (λ r h. h)
    where
      by : (caller : Option Inc) → (incarnation s inc).caller ≡ caller → (give : Option Cap) → IsReturned slot give
          → Answers s proc inc (call.Leave (Some slot)) reply.Done
          (leave_to (record s { incarnations = remove_entry (same_inc inc) s.incarnations }) proc caller (incarnation s inc).into.0 give)
      by None e give g = rules.end_with g.good g.stands g.env e
      by (Some caller) e give g =
          subst (λ x. Answers s proc inc (call.Leave (Some slot)) reply.Done
          (leave_to (record s { incarnations = remove_entry (same_inc inc) s.incarnations }) proc (Some caller) (incarnation s inc).into.0 x)) (sym g.is)
          (rules.leave_with g.good g.stands g.env e)

  p_infers : (path : List ℕ) → Infers (call.P path) (take_token s proc inc path)
  unfolding take_token
  p_infers path =
      gives_then (target_gives s inc path (is_of_type SEMAPHORE) (IsType SEMAPHORE) MODIFY+A0 (modify_right ∷ a0_right ∷ []) (one_type SEMAPHORE) p_needed)
      (λ cap t. gives (by cap t (nat_lt 0 (object s cap.name).count) refl)) (λ r h. rules.p_target h)
    where
      after_p : Cap → Bool → Answer × State
      after_p cap b = elim b [
        | true ↦ (Done, put_object s cap.name (record (object s cap.name) { count = (object s cap.name).count - 1 }))
        | false ↦ (
          Waits,
          put_process (put_object s cap.name (record (object s cap.name) { waiters = (object s cap.name).waiters ++ proc ∷ [] })) proc
              (record (process s proc) { run = Waiting cap.name }),
        )
      ]

      by : (cap : Cap) → Target s inc path (IsType SEMAPHORE) (modify_right ∷ a0_right ∷ []) cap → (b : Bool) → nat_lt 0 (object s cap.name).count ≡ b
          → Answers s proc inc (call.P path) (answered (after_p cap b).0) (after_p cap b).1
      by cap t true e = rules.p t (ltb-true 0 (object s cap.name).count e)
      by cap t false e = rules.p_waits t (none_left (ltb-false 0 (object s cap.name).count e))
        where
          none_left : (object s cap.name).count ≤ 0 → (object s cap.name).count ≡ 0
          none_left h = omega (arith, h)

  v_infers : (path : List ℕ) → Infers (call.V path) (give_token s inc path)
  unfolding give_token
  v_infers path =
      gives_then (target_gives s inc path (is_of_type SEMAPHORE) (IsType SEMAPHORE) MODIFY+A1 (modify_right ∷ a1_right ∷ []) (one_type SEMAPHORE) v_needed)
      (λ cap t. by cap t (object s cap.name).waiters refl) (λ r h. rules.v_target h)
    where
      by : (cap : Cap) → Target s inc path (IsType SEMAPHORE) (modify_right ∷ a1_right ∷ []) cap → (waiters : List Proc) → (object s cap.name).waiters ≡ waiters
          → Infers (call.V path) (token_given s cap.name (object s cap.name) waiters)
      by cap t (first ∷ rest) e = gives (rules.v_wakes t e)
      by cap t [] e =
          gives_and (below_gives (object s cap.name).count token_limit (refused.Full full.Tokens))
          (λ u h. gives (rules.v t e h)) (λ r p. so (Refuses s proc inc (call.V path)) p.1 (rules.v_full t e p.0))

  -- each call
  infers : (c : Call) → Infers c (outcome s proc inc c)
  infers (call.Get path at) = get_infers path at
  infers (call.Put path at word) = put_infers path at word
  infers (call.Add path word) = add_infers path word
  infers (call.Length path) = count_infers path
  infers (call.Load path into) = load_infers path into
  infers (call.Store path at from) = store_infers path at from
  infers (call.Append path from) = append_infers path from
  infers (call.Erase path at) = erase_infers path at
  infers (call.Drop slot) = drop_infers slot
  infers (call.Restrict slot keep) = restrict_infers slot keep
  infers (call.Look path) = look_infers path
  infers (call.MakeTemplate path kind into) = make_template_infers path kind into
  infers (call.Create path into) = create_infers path into
  infers (call.Merge path from into) = merge_infers path from into
  infers (call.Copy path into) = copy_infers path into
  infers (call.Enter path args into) = enter_infers path args into
  infers (call.Leave give) = leave_infers give
  infers (call.P path) = p_infers path
  infers (call.V path) = v_infers path
  infers call.Yield = gives rules.yield

-- what the rule table does, the inference rules do
pub rule_does : (s : State) (proc : Proc) (c : Call) → Does s proc c (rule s proc c).0 (rule s proc c).1
rule_does s proc c = by (outcome s proc (process s proc).current c) (infers s proc (process s proc).current c)
  where
    by : (o : Outcome) → Gives (λ found. Answers s proc (process s proc).current c (answered found.0) found.1) (Refuses s proc (process s proc).current c) o
        → Does s proc c (settled s o).0 (settled s o).1
    by (Ok found) (gives h) = is_answered h
    by (Err refusal) (refuses h) = is_refused h
