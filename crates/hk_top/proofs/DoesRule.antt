-- What the inference rules do is what the rule table does.
use Rattle.std.proofs.Common.{◌≡◌, ◌<◌, ℕ, zero, suc, ◌+◌, List, [], ◌∷◌, length, Bool, true, false, not, Some, None, Result, Ok, Err, refl, ◌∙◌, ap, arith}
use Rattle.std.specs.Prelude.{slice_index_or}
use Rattle.std.proofs.lemmas.Bool.{lt-ltb, le-ltb}
use Rattle.hk_model.specs.declared.names.Name.{Name}
use Rattle.hk_model.specs.declared.names.Inc.{Inc}
use Rattle.hk_model.specs.declared.names.Proc.{Proc}
use Rattle.hk_model.specs.declared.names.Slot.{Slot}
use Rattle.hk_model.specs.declared.entries.Cap.{Cap}
use Rattle.hk_model.specs.declared.entries.Entry.{Entry}
use Rattle.hk_model.specs.declared.entries.Entry.TheVariants.{Empty, Held, Form}
use Rattle.hk_model.specs.declared.entries.Template.{Template}
use Rattle.hk_model.specs.declared.entries.Making.{Making}
use Rattle.hk_model.specs.declared.calls.Refusal.{Refusal}
use Rattle.hk_model.specs.declared.calls.Refusal.TheVariants as refused
use Rattle.hk_model.specs.declared.calls.What8.TheVariants as full
use Rattle.hk_model.specs.declared.calls.Answer.{Answer}
use Rattle.hk_model.specs.declared.calls.Answer.TheVariants.{Done, Word, Waits}
use Rattle.hk_model.specs.declared.calls.Reply.{Reply}
use Rattle.hk_model.specs.declared.calls.Reply.TheVariants as reply
use Rattle.hk_model.specs.declared.calls.Call.{Call}
use Rattle.hk_rights.specs.Rights.{GETDATA, COPY, ENV, A0, getdata_right, putdata_right, adddata_right, store_right, append_right, kill_right, copy_right, modify_right, env_right, a0_right, a1_right, unconf_right, has, right_numbers, right_table}
use Rattle.hk_model.specs.Limits.{word_limit, entry_limit, depth_limit, token_limit}
use Rattle.hk_model.specs.State.{State, object, incarnation, process, put_slot}
use Rattle.hk_model.specs.Keeping.{rooted_objects, restricted}
use Rattle.hk_model.specs.Refusing.{◌>>◌, unless, item_at}
use Rattle.hk_model.specs.Walking.{held}
use Rattle.hk_model.specs.Targets.{TYPE, SEMAPHORE, PROCEDURE, is_general, is_listed, is_of_type, PUTDATA+MODIFY, ADDDATA+MODIFY, STORE+MODIFY, APPEND+MODIFY}
use Rattle.hk_model.specs.Targets.{storable, KILL+MODIFY, MODIFY+A0, MODIFY+A1, ENV+A0, last_step, target}
use Rattle.hk_model.specs.Rule.{outcome, answered, settled, counted, rule, get_word, put_word, add_word, word_count, load_entry, store_entry, append_entry, erase_entry, drop_slot, restrict_slot}
use Rattle.hk_model.specs.Rule.{look, looked, make_template, made_form, create_object, merge_cap, copy_object, enter_procedure, leave, take_token, give_token, token_given, leave_to, returned_cap, depth, can_be_created}
use Rattle.hk_model.specs.Judgments.{Has, IsStorable, NotStorable, NoCapability, this, rights_of, IsGeneral, IsListed, IsType, IsAt, IsSlot, Stands, Target, NoTarget, already, collected}
use Rattle.hk_model.specs.Does as does
use Rattle.hk_model.specs.Does.{Answers, Refuses, Does, Looks, at_nothing, at_capability, at_amplify, at_create, Makes, makes_amplify, makes_create}
use Rattle.hk_model.proofs.TestsAgree.{ok_then, ok_and, err_then, err_and, allowed_ok, allowed_err, item_ok, item_err, below_ok, below_err}
use Rattle.hk_top.proofs.DoesWalks.{has_one, env_only, leads_walk, nowhere_walk}
use Rattle.hk_top.proofs.DoesTests.{general, listed, of_type, target_ok, target_err, slot_ok, slot_err, not_empty_ok, storable_ok, storable_err, held_err, create_err, amplify_err, created_ok, created_err, merged_ok, merged_err}
use Rattle.hk_top.proofs.DoesParts.{slots_ok, slots_err, space_ok, space_full, space_err, space_count, call_slots_is, copies_are, room_already, room_collected, room_err}

-- ---- the rights of each call

get_rights : rights_of GETDATA ≡ getdata_right ∷ []
unfolding right_numbers right_table
get_rights = refl

put_rights : rights_of PUTDATA+MODIFY ≡ putdata_right ∷ modify_right ∷ []
unfolding right_numbers right_table
put_rights = refl

add_rights : rights_of ADDDATA+MODIFY ≡ adddata_right ∷ modify_right ∷ []
unfolding right_numbers right_table
add_rights = refl

store_rights : rights_of STORE+MODIFY ≡ store_right ∷ modify_right ∷ []
unfolding right_numbers right_table
store_rights = refl

append_rights : rights_of APPEND+MODIFY ≡ append_right ∷ modify_right ∷ []
unfolding right_numbers right_table
append_rights = refl

kill_rights : rights_of KILL+MODIFY ≡ kill_right ∷ modify_right ∷ []
unfolding right_numbers right_table
kill_rights = refl

copy_rights : rights_of COPY ≡ copy_right ∷ []
unfolding right_numbers right_table
copy_rights = refl

type_rights : rights_of ENV+A0 ≡ env_right ∷ a0_right ∷ []
unfolding right_numbers right_table
type_rights = refl

enter_rights : rights_of A0 ≡ a0_right ∷ []
unfolding right_numbers right_table
enter_rights = refl

take_rights : rights_of MODIFY+A0 ≡ modify_right ∷ a0_right ∷ []
unfolding right_numbers right_table
take_rights = refl

give_rights : rights_of MODIFY+A1 ≡ modify_right ∷ a1_right ∷ []
unfolding right_numbers right_table
give_rights = refl

-- ---- single tests

-- what is below the length is there
record There {A : Type 0} (xs : List A) (at : ℕ) : Type 0 where
  item : A
  is : IsAt xs at item

there : {A : Type 0} (xs : List A) (at : ℕ) → at < length xs → There xs at
there [] at h = absurd (omega (arith, h))
there (x ∷ xs) zero h = record { item = x; is = refl }
there (x ∷ xs) (suc at) h = let more = there xs at (omega (arith, h)) in record { item = more.item; is = more.is }

below_item : {A : Type 0} (xs : List A) (at step : ℕ) (r : Result (Answer × State) Refusal) → at < length xs → (item_at xs at step >> r) ≡ r
below_item xs at step r h = let found = there xs at h in ok_and r (item_ok xs at step found.item found.is) refl

passes_test : (b : Bool) (refusal : Refusal) → b ≡ true → unless b refusal ≡ Ok tt
passes_test b refusal e = rw e refl

fails_test : (b : Bool) (refusal : Refusal) → b ≡ false → unless b refusal ≡ Err refusal
fails_test b refusal e = rw e refl

looks_is : {entry : Entry} {word : ℕ} → Looks entry word → looked entry ≡ word
looks_is at_nothing = refl
looks_is at_capability = refl
looks_is at_amplify = refl
looks_is at_create = refl

makes_is : {of : Name} {kind : Making} {form : Template} → Makes of kind form → made_form kind of ≡ form
makes_is makes_amplify = refl
makes_is makes_create = refl

-- ---- answers

-- the answer of a call in the rule table
pub record IsAnswer (s : State) (proc : Proc) (inc : Inc) (c : Call) (reply : Reply) (t : State) : Type 0 where
  pub answer : Answer
  pub is : outcome s proc inc c ≡ Ok (answer, t)
  pub replies : answered answer ≡ reply

module _ (s : State) (proc : Proc) (inc : Inc) where
  general_ok : {path : List ℕ} {cap : Cap} {needed : List ℕ} (rights : ℕ) → rights_of rights ≡ needed → Target s inc path IsGeneral needed cap → target s inc path is_general rights ≡ Ok cap
  general_ok {path} rights same t = target_ok s inc path is_general general rights same t

  listed_ok : {path : List ℕ} {cap : Cap} {needed : List ℕ} (rights : ℕ) → rights_of rights ≡ needed → Target s inc path IsListed needed cap → target s inc path is_listed rights ≡ Ok cap
  listed_ok {path} rights same t = target_ok s inc path is_listed listed rights same t

  type_ok : {path : List ℕ} {cap : Cap} {needed : List ℕ} (type rights : ℕ) → rights_of rights ≡ needed → Target s inc path (IsType type) needed cap
      → target s inc path (is_of_type type) rights ≡ Ok cap
  type_ok {path} type rights same t = target_ok s inc path (is_of_type type) (of_type type) rights same t

  general_err : {path : List ℕ} {refusal : Refusal} {needed : List ℕ} (rights : ℕ) → rights_of rights ≡ needed → NoTarget s inc path IsGeneral needed refusal
      → target s inc path is_general rights ≡ Err refusal
  general_err {path} rights same t = target_err s inc path is_general general rights same t

  listed_err : {path : List ℕ} {refusal : Refusal} {needed : List ℕ} (rights : ℕ) → rights_of rights ≡ needed → NoTarget s inc path IsListed needed refusal
      → target s inc path is_listed rights ≡ Err refusal
  listed_err {path} rights same t = target_err s inc path is_listed listed rights same t

  type_err : {path : List ℕ} {refusal : Refusal} {needed : List ℕ} (type rights : ℕ) → rights_of rights ≡ needed → NoTarget s inc path (IsType type) needed refusal
      → target s inc path (is_of_type type) rights ≡ Err refusal
  type_err {path} type rights same t = target_err s inc path (is_of_type type) (of_type type) rights same t

  -- what a slot holds, as the tests of a call take it
  stored_ok : {entry : Entry} (slot step : ℕ) → Stands s inc slot entry → IsStorable entry → storable (slice_index_or (incarnation s inc).slots slot Empty) step ≡ Ok entry
  stored_ok slot step stands h = ap (λ e. storable e step) stands ∙ storable_ok step h

  stored_err : {entry : Entry} {refusal : Refusal} (slot step : ℕ) → Stands s inc slot entry → NotStorable step entry refusal
      → storable (slice_index_or (incarnation s inc).slots slot Empty) step ≡ Err refusal
  stored_err slot step stands h = ap (λ e. storable e step) stands ∙ storable_err h

  held_there : {cap : Cap} (slot step : ℕ) → Stands s inc slot (Held cap) → held (slice_index_or (incarnation s inc).slots slot Empty) step ≡ Ok cap
  held_there slot step stands = ap (λ e. held e step) stands

  held_not : {entry : Entry} {refusal : Refusal} (slot step : ℕ) → Stands s inc slot entry → NoCapability step entry refusal
      → held (slice_index_or (incarnation s inc).slots slot Empty) step ≡ Err refusal
  held_not slot step stands h = ap (λ e. held e step) stands ∙ held_err h

  -- what a return hands on
  returns_ok : {cap : Cap} (slot : Slot) → IsSlot slot.0 → Stands s inc slot.0 (Held cap) → Has cap.rights env_right
      → returned_cap (incarnation s inc).slots (Some slot) ≡ Ok (Some cap)
  returns_ok {cap} slot i stands env =
      ok_then _ (slot_ok slot 0 i) (ok_then _ (held_there slot.0 0 stands) (ok_and _ (allowed_ok cap.rights ENV 0 (env_right ∷ []) env_only (has_one cap.rights env_right env)) refl))

  pub answers_is : {c : Call} {reply : Reply} {t : State} → Answers s proc inc c reply t → IsAnswer s proc inc c reply t
  unfolding get_word put_word add_word word_count load_entry store_entry append_entry erase_entry drop_slot restrict_slot look make_template create_object merge_cap copy_object enter_procedure leave take_token give_token
  answers_is (does.get {path = path} {at = at} {word = word} {cap = cap} t is) = record {
    answer = Word word;
    is = ok_then _ (general_ok GETDATA get_rights t) (ok_then _ (item_ok (object s cap.name).words at (length path) word is) refl);
    replies = refl;
  }
  answers_is (does.put {path = path} {at = at} {word = word} {cap = cap} t lt) = record {
    answer = Done;
    is = ok_then _ (general_ok PUTDATA+MODIFY put_rights t) (below_item (object s cap.name).words at (length path) _ lt);
    replies = refl;
  }
  answers_is (does.add {path = path} {word = word} {cap = cap} t room) = record {
    answer = Done;
    is = ok_then _ (general_ok ADDDATA+MODIFY add_rights t) (ok_and _ (below_ok (length (object s cap.name).words) word_limit (refused.Full full.Words) room) refl);
    replies = refl;
  }
  answers_is (does.count {path = path} {cap = cap} t) = record {
    answer = Word (length (object s cap.name).words);
    is = ok_then _ (general_ok GETDATA get_rights t) refl;
    replies = refl;
  }
  answers_is (does.load_slot {path = path} {entry = entry} {into = into} i l some) = record {
    answer = Done;
    is = ok_then _ (slot_ok into (length path) i) (ok_then _ (leads_walk s inc l) (ok_then _ (not_empty_ok entry (last_step path) some) refl));
    replies = refl;
  }
  answers_is (does.store {path = path} {at = at} {cap = cap} {from = from} i t lt stands ok) = record {
    answer = Done;
    is = ok_then _ (slot_ok from (length path + 1) i) (ok_then _ (listed_ok STORE+MODIFY store_rights t)
        (below_item (object s cap.name).entries at (length path) _ lt ∙ ok_then _ (stored_ok from.0 (length path + 1) stands ok) refl));
    replies = refl;
  }
  answers_is (does.append {path = path} {cap = cap} {from = from} i t stands ok room) = record {
    answer = Done;
    is = ok_then _ (slot_ok from (length path) i) (ok_then _ (listed_ok APPEND+MODIFY append_rights t) (ok_then _ (stored_ok from.0 (length path) stands ok)
        (ok_and _ (below_ok (length (object s cap.name).entries) entry_limit (refused.Full full.Entries) room) refl)));
    replies = refl;
  }
  answers_is (does.erase {path = path} {at = at} {cap = cap} t lt) = record {
    answer = Done;
    is = ok_then _ (listed_ok KILL+MODIFY kill_rights t) (below_item (object s cap.name).entries at (length path) _ lt);
    replies = refl;
  }
  answers_is (does.drop {slot = slot} i) = record { answer = Done; is = ok_then _ (slot_ok slot 0 i) refl; replies = refl }
  answers_is (does.restrict {slot = slot} i stands) = record {
    answer = Done;
    is = ok_then _ (slot_ok slot 0 i) (ok_then _ (held_there slot.0 0 stands) refl);
    replies = refl;
  }
  answers_is (does.look {entry = entry} l looks) = record {
    answer = Word (looked entry);
    is = ok_then _ (leads_walk s inc l) refl;
    replies = ap (λ n. reply.Word n) (looks_is looks);
  }
  answers_is (does.make_template {path = path} {into = into} i t makes) = record {
    answer = Done;
    is = ok_then _ (slot_ok into (length path) i) (ok_then _ (type_ok TYPE ENV+A0 type_rights t) (ap (λ f. Ok (Done, put_slot s inc into.0 (Form f))) (makes_is makes)));
    replies = refl;
  }
  answers_is (does.create {path = path} {into = into} {of = of} i l can (already room)) = record {
    answer = Done;
    is = ok_then _ (slot_ok into (length path) i) (ok_then _ (leads_walk s inc l)
        (ok_and _ (passes_test (can_be_created of) (refused.WrongType (last_step path)) (created_ok of can)) (ok_then _ (room_already s room) refl)));
    replies = refl;
  }
  answers_is (does.create {path = path} {into = into} {of = of} i l can (collected many few)) = record {
    answer = Done;
    is = ok_then _ (slot_ok into (length path) i) (ok_then _ (leads_walk s inc l)
        (ok_and _ (passes_test (can_be_created of) (refused.WrongType (last_step path)) (created_ok of can)) (ok_then _ (room_collected s many few) refl)));
    replies = refl;
  }
  answers_is (does.merge {path = path} {from = from} {into = into} i j l stands merges) = record {
    answer = Done;
    is = ok_then _ (slot_ok from (length path) i) (ok_then _ (slot_ok into (length path + 1) j) (ok_then _ (leads_walk s inc l)
        (ok_then _ (held_there from.0 (length path) stands) (ok_then _ (merged_ok (length path) merges) refl))));
    replies = refl;
  }
  answers_is (does.copy {path = path} {into = into} {cap = cap} i t copies (already room)) = record {
    answer = Done;
    is = ok_then _ (slot_ok into (length path) i) (ok_then _ (general_ok COPY copy_rights t) (ok_then _ (room_already s room)
        (ap (λ es. Ok (Done, does.with_new s (does.new_object (object s cap.name).of (object s cap.name).words es) inc into.0 cap.rights)) (copies_are copies))));
    replies = refl;
  }
  answers_is (does.copy {path = path} {into = into} {cap = cap} i t copies (collected many few)) = record {
    answer = Done;
    is = ok_then _ (slot_ok into (length path) i) (ok_then _ (general_ok COPY copy_rights t) (ok_then _ (room_collected s many few)
        (ap (λ es. Ok (Done, does.with_new (record s { objects = rooted_objects s }) (does.new_object (object s cap.name).of (object s cap.name).words es) inc into.0 cap.rights))
        (copies_are copies))));
    replies = refl;
  }
  answers_is (does.enter {path = path} {args = args} {into = into} {cap = cap} {caps = caps} i j t passes inherits fits deep) = record {
    answer = Done;
    is = ok_and _ (slots_ok args (length path) i) (ok_and _ (slot_ok into (length path + length args) j) (ok_then _ (type_ok PROCEDURE A0 enter_rights t)
        (ok_then _ (space_ok s inc args (object s cap.name).params (object s cap.name).entries (not (has cap.rights unconf_right)) (length path) passes
        fits ∙ ap Ok (call_slots_is caps inherits))
        (ok_and _ (below_ok (depth s proc) depth_limit refused.Deep deep) refl))));
    replies = refl;
  }
  answers_is (does.leave called) = record {
    answer = Done;
    is = ap (λ o. Ok (Done, leave_to (does.without s inc) proc o (incarnation s inc).into.0 None)) called;
    replies = refl;
  }
  answers_is (does.leave_with {slot = slot} {cap = cap} i stands env called) = record {
    answer = Done;
    is = ok_then _ (returns_ok slot i stands env) (ap (λ o. Ok (Done, leave_to (does.without s inc) proc o (incarnation s inc).into.0 (Some cap))) called);
    replies = refl;
  }
  answers_is (does.end called) = record {
    answer = Done;
    is = ap (λ o. Ok (Done, leave_to (does.without s inc) proc o (incarnation s inc).into.0 None)) called;
    replies = refl;
  }
  answers_is (does.end_with {slot = slot} {cap = cap} i stands env called) = record {
    answer = Done;
    is = ok_then _ (returns_ok slot i stands env) (ap (λ o. Ok (Done, leave_to (does.without s inc) proc o (incarnation s inc).into.0 (Some cap))) called);
    replies = refl;
  }
  answers_is (does.p {cap = cap} t some) = record {
    answer = Done;
    is = ok_then _ (type_ok SEMAPHORE MODIFY+A0 take_rights t) (rw (lt-ltb 0 (object s cap.name).count some) refl);
    replies = refl;
  }
  answers_is (does.p_waits {cap = cap} t none) = record {
    answer = Waits;
    is = ok_then _ (type_ok SEMAPHORE MODIFY+A0 take_rights t) (rw (le-ltb 0 (object s cap.name).count (omega (arith, none))) refl);
    replies = refl;
  }
  answers_is (does.v {cap = cap} t none room) = record {
    answer = Done;
    is = ok_then _ (type_ok SEMAPHORE MODIFY+A1 give_rights t) (ap (token_given s cap.name (object s cap.name)) none
        ∙ ok_and _ (below_ok (object s cap.name).count token_limit (refused.Full full.Tokens) room) refl);
    replies = refl;
  }
  answers_is (does.v_wakes {cap = cap} t some) = record {
    answer = Done;
    is = ok_then _ (type_ok SEMAPHORE MODIFY+A1 give_rights t) (ap (token_given s cap.name (object s cap.name)) some);
    replies = refl;
  }
  answers_is does.yield = record { answer = Done; is = refl; replies = refl }

  -- ---- refusals

  pub refuses_outcome : {c : Call} {refusal : Refusal} → Refuses s proc inc c refusal → outcome s proc inc c ≡ Err refusal
  unfolding get_word put_word add_word word_count load_entry store_entry append_entry erase_entry drop_slot restrict_slot look make_template create_object merge_cap copy_object enter_procedure leave take_token give_token
  refuses_outcome (does.get_target n) = err_then _ (general_err GETDATA get_rights n)
  refuses_outcome (does.get_range {path = path} {at = at} {cap = cap} t past) =
      ok_then _ (general_ok GETDATA get_rights t) (err_then _ (item_err (object s cap.name).words at (length path) past))
  refuses_outcome (does.put_target n) = err_then _ (general_err PUTDATA+MODIFY put_rights n)
  refuses_outcome (does.put_range {path = path} {at = at} {cap = cap} t past) =
      ok_then _ (general_ok PUTDATA+MODIFY put_rights t) (err_and _ (item_err (object s cap.name).words at (length path) past))
  refuses_outcome (does.add_target n) = err_then _ (general_err ADDDATA+MODIFY add_rights n)
  refuses_outcome (does.add_full {cap = cap} t many) =
      ok_then _ (general_ok ADDDATA+MODIFY add_rights t) (err_and _ (below_err (length (object s cap.name).words) word_limit (refused.Full full.Words) many))
  refuses_outcome (does.count_target n) = err_then _ (general_err GETDATA get_rights n)
  refuses_outcome (does.load_into {path = path} {into = into} i) = err_then _ (slot_err into (length path) i)
  refuses_outcome (does.load_nowhere {path = path} {into = into} i n) = ok_then _ (slot_ok into (length path) i) (err_then _ (nowhere_walk s inc n))
  refuses_outcome (does.load_nothing {path = path} {into = into} i l) = ok_then _ (slot_ok into (length path) i) (ok_then _ (leads_walk s inc l) refl)
  refuses_outcome (does.store_from {path = path} {from = from} i) = err_then _ (slot_err from (length path + 1) i)
  refuses_outcome (does.store_target {path = path} {from = from} i n) =
      ok_then _ (slot_ok from (length path + 1) i) (err_then _ (listed_err STORE+MODIFY store_rights n))
  refuses_outcome (does.store_range {path = path} {at = at} {from = from} {cap = cap} i t past) =
      ok_then _ (slot_ok from (length path + 1) i) (ok_then _ (listed_ok STORE+MODIFY store_rights t)
      (err_and _ (item_err (object s cap.name).entries at (length path) past)))
  refuses_outcome (does.store_what {path = path} {at = at} {from = from} {cap = cap} i t lt stands fails) =
      ok_then _ (slot_ok from (length path + 1) i) (ok_then _ (listed_ok STORE+MODIFY store_rights t)
      (below_item (object s cap.name).entries at (length path) _ lt ∙ err_then _ (stored_err from.0 (length path + 1) stands fails)))
  refuses_outcome (does.append_from {path = path} {from = from} i) = err_then _ (slot_err from (length path) i)
  refuses_outcome (does.append_target {path = path} {from = from} i n) =
      ok_then _ (slot_ok from (length path) i) (err_then _ (listed_err APPEND+MODIFY append_rights n))
  refuses_outcome (does.append_what {path = path} {from = from} {cap = cap} i t stands fails) =
      ok_then _ (slot_ok from (length path) i) (ok_then _ (listed_ok APPEND+MODIFY append_rights t) (err_then _ (stored_err from.0 (length path) stands fails)))
  refuses_outcome (does.append_full {path = path} {from = from} {cap = cap} i t stands ok many) =
      ok_then _ (slot_ok from (length path) i) (ok_then _ (listed_ok APPEND+MODIFY append_rights t) (ok_then _ (stored_ok from.0 (length path) stands ok)
      (err_and _ (below_err (length (object s cap.name).entries) entry_limit (refused.Full full.Entries) many))))
  refuses_outcome (does.erase_target n) = err_then _ (listed_err KILL+MODIFY kill_rights n)
  refuses_outcome (does.erase_range {path = path} {at = at} {cap = cap} t past) =
      ok_then _ (listed_ok KILL+MODIFY kill_rights t) (err_and _ (item_err (object s cap.name).entries at (length path) past))
  refuses_outcome (does.drop_slot {slot = slot} i) = err_then _ (slot_err slot 0 i)
  refuses_outcome (does.restrict_slot {slot = slot} i) = err_then _ (slot_err slot 0 i)
  refuses_outcome (does.restrict_what {slot = slot} i stands fails) = ok_then _ (slot_ok slot 0 i) (err_then _ (held_not slot.0 0 stands fails))
  refuses_outcome (does.look_nowhere n) = err_then _ (nowhere_walk s inc n)
  refuses_outcome (does.make_template_into {path = path} {into = into} i) = err_then _ (slot_err into (length path) i)
  refuses_outcome (does.make_template_target {path = path} {into = into} i n) =
      ok_then _ (slot_ok into (length path) i) (err_then _ (type_err TYPE ENV+A0 type_rights n))
  refuses_outcome (does.create_into {path = path} {into = into} i) = err_then _ (slot_err into (length path) i)
  refuses_outcome (does.create_nowhere {path = path} {into = into} i n) = ok_then _ (slot_ok into (length path) i) (err_then _ (nowhere_walk s inc n))
  refuses_outcome (does.create_what {path = path} {into = into} i l fails) =
      ok_then _ (slot_ok into (length path) i) (ok_then _ (leads_walk s inc l) (err_then _ (create_err fails)))
  refuses_outcome (does.create_type {path = path} {into = into} {of = of} i l uncreated) =
      ok_then _ (slot_ok into (length path) i) (ok_then _ (leads_walk s inc l)
      (err_and _ (fails_test (can_be_created of) (refused.WrongType (last_step path)) (created_err of uncreated))))
  refuses_outcome (does.create_full {path = path} {into = into} {of = of} i l can many) =
      ok_then _ (slot_ok into (length path) i) (ok_then _ (leads_walk s inc l)
      (ok_and _ (passes_test (can_be_created of) (refused.WrongType (last_step path)) (created_ok of can)) (err_then _ (room_err s many))))
  refuses_outcome (does.merge_from {path = path} {from = from} i) = err_then _ (slot_err from (length path) i)
  refuses_outcome (does.merge_into {path = path} {from = from} {into = into} i j) =
      ok_then _ (slot_ok from (length path) i) (err_then _ (slot_err into (length path + 1) j))
  refuses_outcome (does.merge_nowhere {path = path} {from = from} {into = into} i j n) =
      ok_then _ (slot_ok from (length path) i) (ok_then _ (slot_ok into (length path + 1) j) (err_then _ (nowhere_walk s inc n)))
  refuses_outcome (does.merge_what {path = path} {from = from} {into = into} i j l fails) =
      ok_then _ (slot_ok from (length path) i) (ok_then _ (slot_ok into (length path + 1) j) (ok_then _ (leads_walk s inc l) (err_then _ (amplify_err fails))))
  refuses_outcome (does.merge_cap {path = path} {from = from} {into = into} i j l stands fails) =
      ok_then _ (slot_ok from (length path) i) (ok_then _ (slot_ok into (length path + 1) j) (ok_then _ (leads_walk s inc l)
      (err_then _ (held_not from.0 (length path) stands fails))))
  refuses_outcome (does.merge_refused {path = path} {from = from} {into = into} i j l stands fails) =
      ok_then _ (slot_ok from (length path) i) (ok_then _ (slot_ok into (length path + 1) j) (ok_then _ (leads_walk s inc l)
      (ok_then _ (held_there from.0 (length path) stands) (err_then _ (merged_err fails)))))
  refuses_outcome (does.copy_into {path = path} {into = into} i) = err_then _ (slot_err into (length path) i)
  refuses_outcome (does.copy_target {path = path} {into = into} i n) = ok_then _ (slot_ok into (length path) i) (err_then _ (general_err COPY copy_rights n))
  refuses_outcome (does.copy_full {path = path} {into = into} i t many) =
      ok_then _ (slot_ok into (length path) i) (ok_then _ (general_ok COPY copy_rights t) (err_then _ (room_err s many)))
  refuses_outcome (does.enter_argument h) = err_and _ (slots_err h)
  refuses_outcome (does.enter_into {path = path} {args = args} {into = into} i j) =
      ok_and _ (slots_ok args (length path) i) (err_and _ (slot_err into (length path + length args) j))
  refuses_outcome (does.enter_target {path = path} {args = args} {into = into} i j n) =
      ok_and _ (slots_ok args (length path) i) (ok_and _ (slot_ok into (length path + length args) j) (err_then _ (type_err PROCEDURE A0 enter_rights n)))
  refuses_outcome (does.enter_count {path = path} {args = args} {into = into} {cap = cap} i j t other) =
      ok_and _ (slots_ok args (length path) i) (ok_and _ (slot_ok into (length path + length args) j) (ok_then _ (type_ok PROCEDURE A0 enter_rights t)
      (err_then _ (space_count s inc args (object s cap.name).params (object s cap.name).entries (not (has cap.rights unconf_right)) (length path) other))))
  refuses_outcome (does.enter_passes {path = path} {args = args} {into = into} {cap = cap} i j t same fails) =
      ok_and _ (slots_ok args (length path) i) (ok_and _ (slot_ok into (length path + length args) j) (ok_then _ (type_ok PROCEDURE A0 enter_rights t)
      (err_then _ (space_err s inc args (object s cap.name).params (object s cap.name).entries (not (has cap.rights unconf_right)) (length path) same fails))))
  refuses_outcome (does.enter_full {path = path} {args = args} {into = into} {cap = cap} i j t passes over) =
      ok_and _ (slots_ok args (length path) i) (ok_and _ (slot_ok into (length path + length args) j) (ok_then _ (type_ok PROCEDURE A0 enter_rights t)
      (err_then _ (space_full s inc args (object s cap.name).params (object s cap.name).entries (not (has cap.rights unconf_right)) (length path) passes over))))
  refuses_outcome (does.enter_deep {path = path} {args = args} {into = into} {cap = cap} i j t passes fits deep) =
      ok_and _ (slots_ok args (length path) i) (ok_and _ (slot_ok into (length path + length args) j) (ok_then _ (type_ok PROCEDURE A0 enter_rights t)
      (ok_then _ (space_ok s inc args (object s cap.name).params (object s cap.name).entries (not (has cap.rights unconf_right)) (length path) passes fits)
      (err_and _ (below_err (depth s proc) depth_limit refused.Deep deep)))))
  refuses_outcome (does.leave_slot {slot = slot} i) = err_then _ (err_then _ (slot_err slot 0 i))
  refuses_outcome (does.leave_what {slot = slot} i stands fails) = err_then _ (ok_then _ (slot_ok slot 0 i) (err_then _ (held_not slot.0 0 stands fails)))
  refuses_outcome (does.leave_denied {slot = slot} {cap = cap} i stands lacks) =
      err_then _ (ok_then _ (slot_ok slot 0 i) (ok_then _ (held_there slot.0 0 stands)
      (err_and _ (allowed_err cap.rights ENV 0 (env_right ∷ []) env_right env_only (this lacks)))))
  refuses_outcome (does.p_target n) = err_then _ (type_err SEMAPHORE MODIFY+A0 take_rights n)
  refuses_outcome (does.v_target n) = err_then _ (type_err SEMAPHORE MODIFY+A1 give_rights n)
  refuses_outcome (does.v_full {cap = cap} t none many) =
      ok_then _ (type_ok SEMAPHORE MODIFY+A1 give_rights t) (ap (token_given s cap.name (object s cap.name)) none
      ∙ err_and _ (below_err (object s cap.name).count token_limit (refused.Full full.Tokens) many))

  -- ---- the outcome of a call

  -- a call that is answered has this answer, and leaves this state, in the rule table
  pub answers_outcome : {c : Call} {reply : Reply} {t : State} → Answers s proc inc c reply t → settled s (outcome s proc inc c) ≡ (reply, counted (s.events + 1) (restricted t))
  answers_outcome {t = t} a =
      let found = answers_is a in
      ap (settled s) found.is ∙ ap (λ (r : Reply). let after : Reply × State = (r, counted (s.events + 1) (restricted t)) in after) found.replies

-- what a call does by the inference rules is what the rule table says
pub does_rule : (s : State) (proc : Proc) {c : Call} {reply : Reply} {t : State} → Does s proc c reply t → rule s proc c ≡ (reply, t)
does_rule s proc (does.is_answered a) = answers_outcome s proc (process s proc).current a
does_rule s proc (does.is_refused r) = ap (settled s) (refuses_outcome s proc (process s proc).current r)
