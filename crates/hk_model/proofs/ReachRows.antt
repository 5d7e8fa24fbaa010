-- Worked rows of the reaches: names that are in them, and names that are not.
use Rattle.std.specs.Prelude.{◌≡◌, ℕ, ◌+◌, Bool, List, [], ◌∷◌, Some, None, true, false, refl}
use Rattle.std.proofs.Common.{lit≤}
use Rattle.hk_model.specs.declared.entries.Entry.TheVariants.{Empty, Form}
use Rattle.hk_model.specs.declared.entries.Template.TheVariants as template
use Rattle.hk_model.specs.declared.calls.Call.TheVariants as call
use Rattle.hk_model.specs.declared.calls.Reply.TheVariants.{Done, No}
use Rattle.hk_model.specs.declared.calls.Refusal.TheVariants as refused
use Rattle.hk_model.specs.declared.instructions.Instr.TheVariants as instr
use Rattle.hk_model.specs.declared.instructions.Operand.TheVariants.{Number}
use Rattle.hk_model.specs.declared.lines.Line.{Line}
use Rattle.hk_model.specs.declared.reaches.Hop.{Hop}
use Rattle.hk_model.specs.declared.reaches.Hop.TheVariants as hop_by
use Rattle.hk_rights.specs.Rights.{PUTDATA, LOAD, STORE, APPEND, MODIFY, ENV, UNCONF, A0, modify_right, first_missing, right_numbers, right_table}
use Rattle.hk_model.specs.WorldValue.{WorldValue}
use Rattle.hk_model.specs.Targets.{DATA, UNIVERSAL}
use Rattle.hk_model.specs.Opening.{opening}
use Rattle.hk_model.specs.Control.{next, next_from, after}
use Rattle.hk_model.specs.Rule.{get_word, put_word, add_word, store_entry, append_entry, erase_entry, create_object, enter_procedure, leave, take_token, give_token}
use Rattle.hk_model.specs.Keeping.{kept_objects}
use Rattle.hk_model.specs.Running.{AreStepsOf, opened, step, state_at}
use Rattle.hk_model.specs.Under.{is_made_under, parameters}
use Rattle.hk_model.specs.Reaches.{IsReach, IsModifiable, IsUnconfined, reach}
use Rattle.hk_model.proofs.OutsideReaches.{not_modifiable, not_unconfined}
use Rattle.hk_model.proofs.RowParts.{name, inc, slot, cap, route, plain, procedure, process, small_world, dispatch, line, line_of_process, return_line}

-- one hop
abbrev hop : Bool → ℕ → ℕ → Hop
hop true index moment = hop_by.Handed index moment
hop false index moment = hop_by.Entry index moment

-- ---- an entry without UNCONF: the parameter leads to object 8, and no further

abbrev closing : WorldValue
closing = small_world
    (plain DATA (7 ∷ []) []
    ∷ plain UNIVERSAL [] (cap 7 (PUTDATA + MODIFY + ENV + UNCONF) ∷ [])
    ∷ plain UNIVERSAL [] (cap 8 (LOAD + MODIFY + ENV) ∷ [])
    ∷ procedure 0 (record { of = Some (name UNIVERSAL); check = LOAD; give = LOAD + MODIFY + UNCONF } ∷ []) []
    ∷ [])
    ((instr.Put (route (0 ∷ 0 ∷ 0 ∷ [])) (Number 0) (Number 9) ∷ [])
    ∷ (instr.Enter (route (1 ∷ [])) (0 ∷ []) (slot 2) ∷ [])
    ∷ [])
    (process 1 (cap 9 (LOAD + MODIFY + ENV + UNCONF) ∷ cap 10 A0 ∷ []) ∷ [])

abbrev closing_lines : List Line
closing_lines =
    dispatch 0
    ∷ line 0 (call.Enter (1 ∷ []) (0 ∷ []) (slot 2)) Done
    ∷ line 1 (call.Put (0 ∷ 0 ∷ 0 ∷ []) 0 9) (No (refused.Denied 2 modify_right))
    ∷ return_line 1
    ∷ return_line 0
    ∷ []

closing-steps : AreStepsOf closing closing_lines
unfolding opened opening step next next_from after kept_objects get_word put_word add_word store_entry append_entry erase_entry create_object enter_procedure leave take_token
    give_token first_missing right_numbers right_table
closing-steps = (refl, (refl, (refl, (refl, (refl, tt)))))

entry-is-reached : IsReach (state_at closing closing_lines) (is_made_under closing closing_lines 2 (inc 1)) (parameters closing closing_lines 2 (inc 1)) 2
    (λ there. there.modify) 4 (name 8) 0 (hop false 0 2 ∷ [])
unfolding opened opening step next next_from after kept_objects get_word put_word add_word store_entry append_entry erase_entry create_object enter_procedure leave take_token
    give_token first_missing right_numbers right_table
entry-is-reached = record { there = record { name = name 8; modify = true; unconf = false; moment = 2 }; leads = refl; same = refl; good = refl; by_then = lit≤ tt }

no-further-than-an-entry-without-unconf : IsModifiable closing closing_lines 2 (inc 1) 4 (name 7) → ⊥
unfolding opened opening step next next_from after kept_objects get_word put_word add_word store_entry append_entry erase_entry create_object enter_procedure leave take_token
    give_token first_missing right_numbers right_table
no-further-than-an-entry-without-unconf = not_modifiable closing closing_lines 2 (inc 1) 4 (8 ∷ 9 ∷ []) (9 ∷ []) refl (name 7) refl

-- ---- a new object of another in the list of what is reached: it was not made under the call

abbrev another : WorldValue
another = small_world
    (plain UNIVERSAL [] (Empty ∷ [])
    ∷ procedure 0 (record { of = Some (name UNIVERSAL); check = LOAD; give = LOAD + MODIFY } ∷ []) []
    ∷ [])
    ((instr.Yield ∷ [])
    ∷ (instr.Enter (route (1 ∷ [])) (0 ∷ []) (slot 2) ∷ [])
    ∷ (instr.Create (route (1 ∷ [])) (slot 2) ∷ instr.Store (route (0 ∷ [])) (Number 0) (slot 2) ∷ [])
    ∷ [])
    (process 1 (cap 7 (LOAD + MODIFY + ENV + UNCONF) ∷ cap 8 A0 ∷ []) ∷ process 2
    (cap 7 (STORE + MODIFY) ∷ Form (template.Create (name UNIVERSAL) (STORE + MODIFY + ENV + UNCONF)) ∷ []) ∷ [])

abbrev another_lines : List Line
another_lines =
    dispatch 0
    ∷ line 0 (call.Enter (1 ∷ []) (0 ∷ []) (slot 2)) Done
    ∷ line 2 call.Yield Done
    ∷ dispatch 1
    ∷ line_of_process 1 1 (call.Create (1 ∷ []) (slot 2)) Done
    ∷ line_of_process 1 1 (call.Store (0 ∷ []) 0 (slot 2)) Done
    ∷ []

another-steps : AreStepsOf another another_lines
unfolding opened opening step next next_from after kept_objects get_word put_word add_word store_entry append_entry erase_entry create_object enter_procedure leave take_token
    give_token first_missing right_numbers right_table
another-steps = (refl, (refl, (refl, (refl, (refl, (refl, tt))))))

another's-new-object : IsModifiable another another_lines 2 (inc 2) 6 (name 9) → ⊥
unfolding opened opening step next next_from after kept_objects get_word put_word add_word store_entry append_entry erase_entry create_object enter_procedure leave take_token
    give_token first_missing right_numbers right_table
another's-new-object = not_modifiable another another_lines 2 (inc 2) 6 (7 ∷ []) [] refl (name 9) refl

-- ---- a call without parameters reaches nothing

abbrev bare : WorldValue
bare = small_world
    (plain DATA (7 ∷ []) []
    ∷ procedure 0 [] (cap 7 (PUTDATA + MODIFY + ENV + UNCONF) ∷ [])
    ∷ [])
    ((instr.Put (route (0 ∷ [])) (Number 0) (Number 9) ∷ [])
    ∷ (instr.Enter (route (0 ∷ [])) [] (slot 2) ∷ [])
    ∷ [])
    (process 1 (cap 8 A0 ∷ []) ∷ [])

abbrev bare_lines : List Line
bare_lines =
    dispatch 0
    ∷ line 0 (call.Enter (0 ∷ []) [] (slot 2)) Done
    ∷ line 1 (call.Put (0 ∷ []) 0 9) (No (refused.Denied 0 modify_right))
    ∷ []

bare-steps : AreStepsOf bare bare_lines
unfolding opened opening step next next_from after kept_objects get_word put_word add_word store_entry append_entry erase_entry create_object enter_procedure leave take_token
    give_token first_missing right_numbers right_table
bare-steps = (refl, (refl, (refl, tt)))

no-parameter-no-modifiable-reach : IsModifiable bare bare_lines 2 (inc 1) 3 (name 7) → ⊥
unfolding opened opening step next next_from after kept_objects get_word put_word add_word store_entry append_entry erase_entry create_object enter_procedure leave take_token
    give_token first_missing right_numbers right_table
no-parameter-no-modifiable-reach = not_modifiable bare bare_lines 2 (inc 1) 3 [] [] refl (name 7) refl

no-parameter-no-unconfined-reach : IsUnconfined bare bare_lines 2 (inc 1) 3 (name 7) → ⊥
unfolding opened opening step next next_from after kept_objects get_word put_word add_word store_entry append_entry erase_entry create_object enter_procedure leave take_token
    give_token first_missing right_numbers right_table
no-parameter-no-unconfined-reach = not_unconfined bare bare_lines 2 (inc 1) 3 [] [] refl (name 7) refl

-- ---- a new object of the call, before and after it is handed over; and moments that fall

abbrev handing : WorldValue
handing = small_world
    (plain UNIVERSAL [] (Empty ∷ [])
    ∷ plain DATA (1 ∷ []) []
    ∷ procedure 0 (record { of = Some (name UNIVERSAL); check = STORE; give = STORE + MODIFY } ∷ [])
    (Form (template.Create (name UNIVERSAL) (LOAD + STORE + APPEND + MODIFY + ENV + UNCONF)) ∷ cap 8 (PUTDATA + MODIFY + ENV + UNCONF) ∷ [])
    ∷ [])
    ((instr.Create (route (1 ∷ [])) (slot 3) ∷ instr.Append (route (3 ∷ [])) (slot 2) ∷ instr.Store (route (0 ∷ [])) (Number 0) (slot 3) ∷ [])
    ∷ (instr.Enter (route (1 ∷ [])) (0 ∷ []) (slot 2) ∷ [])
    ∷ [])
    (process 1 (cap 7 (STORE + MODIFY + ENV) ∷ cap 9 A0 ∷ []) ∷ [])

abbrev handing_lines : List Line
handing_lines =
    dispatch 0
    ∷ line 0 (call.Enter (1 ∷ []) (0 ∷ []) (slot 2)) Done
    ∷ line 1 (call.Create (1 ∷ []) (slot 3)) Done
    ∷ line 1 (call.Append (3 ∷ []) (slot 2)) Done
    ∷ line 1 (call.Store (0 ∷ []) 0 (slot 3)) Done
    ∷ return_line 1
    ∷ return_line 0
    ∷ []

handing-steps : AreStepsOf handing handing_lines
unfolding opened opening step next next_from after kept_objects get_word put_word add_word store_entry append_entry erase_entry create_object enter_procedure leave take_token
    give_token first_missing right_numbers right_table
handing-steps = (refl, (refl, (refl, (refl, (refl, (refl, (refl, tt)))))))

not-before-it-is-handed-over : IsModifiable handing handing_lines 2 (inc 1) 4 (name 10) → ⊥
unfolding opened opening step next next_from after kept_objects get_word put_word add_word store_entry append_entry erase_entry create_object enter_procedure leave take_token
    give_token first_missing right_numbers right_table
not-before-it-is-handed-over = not_modifiable handing handing_lines 2 (inc 1) 4 (7 ∷ []) [] refl (name 10) refl

once-it-is-handed-over : IsReach (state_at handing handing_lines) (is_made_under handing handing_lines 2 (inc 1)) (parameters handing handing_lines 2 (inc 1)) 2
    (λ there. there.modify) 5 (name 10) 0 (hop true 0 5 ∷ [])
unfolding opened opening step next next_from after kept_objects get_word put_word add_word store_entry append_entry erase_entry create_object enter_procedure leave take_token
    give_token first_missing right_numbers right_table
once-it-is-handed-over = record { there = record { name = name 10; modify = true; unconf = true; moment = 5 }; leads = refl; same = refl; good = refl; by_then = lit≤ tt }

-- the entry of the new object stood before, but behind a hop at moment 5 none can be made at moment 4; what the confined call
-- inherited lost MODIFY and UNCONF, so object 8 stands good for neither
moments-rise : reach (state_at handing handing_lines) (is_made_under handing handing_lines 2 (inc 1)) (parameters handing handing_lines 2 (inc 1)) 2 0
    (hop true 0 5 ∷ hop false 0 5 ∷ [])
    ≡ Some (record { name = name 8; modify = false; unconf = false; moment = 5 })
unfolding opened opening step next next_from after kept_objects get_word put_word add_word store_entry append_entry erase_entry create_object enter_procedure leave take_token
    give_token first_missing right_numbers right_table
moments-rise = refl

moments-that-fall : reach (state_at handing handing_lines) (is_made_under handing handing_lines 2 (inc 1)) (parameters handing handing_lines 2 (inc 1)) 2 0
    (hop true 0 5 ∷ hop false 0 4 ∷ []) ≡ None
unfolding opened opening step next next_from after kept_objects get_word put_word add_word store_entry append_entry erase_entry create_object enter_procedure leave take_token
    give_token first_missing right_numbers right_table
moments-that-fall = refl
