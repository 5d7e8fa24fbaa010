-- Worked rows of changes under confined calls: a call under a call under one, and the calls that change lists and tokens.
use Rattle.std.specs.Prelude.{◌≡◌, ◌+◌, List, [], ◌∷◌, Some, true, false, refl}
use Rattle.hk_model.specs.declared.entries.Entry.TheVariants.{Empty, Form}
use Rattle.hk_model.specs.declared.entries.Template.TheVariants as template
use Rattle.hk_model.specs.declared.calls.Call.TheVariants as call
use Rattle.hk_model.specs.declared.calls.Reply.TheVariants.{Done, Waits}
use Rattle.hk_model.specs.declared.instructions.Instr.TheVariants as instr
use Rattle.hk_model.specs.declared.instructions.Operand.TheVariants.{Number}
use Rattle.hk_model.specs.declared.world.Kind.TheVariants as kind
use Rattle.hk_model.specs.declared.lines.Line.{Line}
use Rattle.hk_rights.specs.Rights.{PUTDATA, APPEND, KILL, MODIFY, UNCONF, A0, A1, first_missing, right_numbers, right_table}
use Rattle.hk_model.specs.WorldValue.{WorldValue}
use Rattle.hk_model.specs.Targets.{DATA, UNIVERSAL, SEMAPHORE}
use Rattle.hk_model.specs.Opening.{opening}
use Rattle.hk_model.specs.Control.{next, next_from, after}
use Rattle.hk_model.specs.Rule.{get_word, put_word, add_word, store_entry, append_entry, erase_entry, create_object, enter_procedure, leave, take_token, give_token}
use Rattle.hk_model.specs.Keeping.{kept_objects}
use Rattle.hk_model.specs.Running.{AreStepsOf, opened, step}
use Rattle.hk_model.specs.Under.{is_under}
use Rattle.hk_model.specs.Changes.{bare_changes}
use Rattle.hk_model.proofs.RowParts.{name, inc, slot, cap, route, plain, procedure, process, small_world, dispatch, line, return_line}

-- ---- calls within calls: each is confined, and the innermost changes the object that was passed on

abbrev nested : WorldValue
nested = small_world
    (plain DATA (7 ∷ []) []
    ∷ procedure 0 (record { of = Some (name DATA); check = PUTDATA; give = PUTDATA + MODIFY } ∷ []) []
    ∷ procedure 1 (record { of = Some (name DATA); check = PUTDATA; give = PUTDATA + MODIFY } ∷ []) (cap 8 (A0 + UNCONF) ∷ [])
    ∷ procedure 1 (record { of = Some (name DATA); check = PUTDATA; give = PUTDATA + MODIFY } ∷ []) (cap 9 A0 ∷ [])
    ∷ [])
    ((instr.Put (route (0 ∷ [])) (Number 0) (Number 9) ∷ [])
    ∷ (instr.Enter (route (1 ∷ [])) (0 ∷ []) (slot 2) ∷ [])
    ∷ [])
    (process 1 (cap 7 (PUTDATA + MODIFY) ∷ cap 10 A0 ∷ []) ∷ [])

abbrev nested_lines : List Line
nested_lines =
    dispatch 0
    ∷ line 0 (call.Enter (1 ∷ []) (0 ∷ []) (slot 2)) Done
    ∷ line 1 (call.Enter (1 ∷ []) (0 ∷ []) (slot 2)) Done
    ∷ line 2 (call.Enter (1 ∷ []) (0 ∷ []) (slot 2)) Done
    ∷ line 3 (call.Put (0 ∷ []) 0 9) Done
    ∷ return_line 3
    ∷ return_line 2
    ∷ return_line 1
    ∷ return_line 0
    ∷ []

nested-steps : AreStepsOf nested nested_lines
unfolding opened opening step next next_from after kept_objects get_word put_word add_word store_entry append_entry erase_entry create_object enter_procedure leave take_token
    give_token first_missing right_numbers right_table
nested-steps = (refl, (refl, (refl, (refl, (refl, (refl, (refl, (refl, (refl, tt)))))))))

-- the innermost call is under all three, and the middle one is not under it
under-a-call-under-a-call : is_under nested nested_lines 2 (inc 1) (inc 3) ≡ true
unfolding opened opening step next next_from after kept_objects get_word put_word add_word store_entry append_entry erase_entry create_object enter_procedure leave take_token
    give_token first_missing right_numbers right_table
under-a-call-under-a-call = refl

not-under-a-later-call : is_under nested nested_lines 4 (inc 3) (inc 2) ≡ false
unfolding opened opening step next next_from after kept_objects get_word put_word add_word store_entry append_entry erase_entry create_object enter_procedure leave take_token
    give_token first_missing right_numbers right_table
not-under-a-later-call = refl

-- so its change is listed for each of the three
changes-under-nested-calls : bare_changes nested nested_lines ≡
    record { moment = 4; under = record { call = inc 1; moment = 2 }; object = name 7 }
    ∷ record { moment = 4; under = record { call = inc 2; moment = 3 }; object = name 7 }
    ∷ record { moment = 4; under = record { call = inc 3; moment = 4 }; object = name 7 }
    ∷ []
unfolding opened opening step next next_from after kept_objects get_word put_word add_word store_entry append_entry erase_entry create_object enter_procedure leave take_token
    give_token first_missing right_numbers right_table
changes-under-nested-calls = refl

-- ---- changes by Erase, Append, V and P, also one that waits

abbrev changing : WorldValue
changing = small_world
    (plain UNIVERSAL [] (Empty ∷ [])
    ∷ kind.Semaphore 0
    ∷ procedure 0 (record { of = Some (name UNIVERSAL); check = 0; give = KILL + APPEND + MODIFY } ∷ record { of = Some (name SEMAPHORE); check = 0; give = MODIFY + A0 + A1 } ∷ [])
    (Form (template.Create (name DATA) 0) ∷ [])
    ∷ [])
    ((instr.Erase (route (0 ∷ [])) (Number 0) ∷ instr.Append (route (0 ∷ [])) (slot 2) ∷ instr.V (route (1 ∷ [])) ∷ instr.P (route (1 ∷ [])) ∷ instr.P (route (1 ∷ [])) ∷ [])
    ∷ (instr.Enter (route (2 ∷ [])) (0 ∷ 1 ∷ []) (slot 3) ∷ [])
    ∷ [])
    (process 1 (cap 7 (KILL + APPEND + MODIFY) ∷ cap 8 (MODIFY + A0 + A1) ∷ cap 9 A0 ∷ []) ∷ [])

abbrev changing_lines : List Line
changing_lines =
    dispatch 0
    ∷ line 0 (call.Enter (2 ∷ []) (0 ∷ 1 ∷ []) (slot 3)) Done
    ∷ line 1 (call.Erase (0 ∷ []) 0) Done
    ∷ line 1 (call.Append (0 ∷ []) (slot 2)) Done
    ∷ line 1 (call.V (1 ∷ [])) Done
    ∷ line 1 (call.P (1 ∷ [])) Done
    ∷ line 1 (call.P (1 ∷ [])) Waits
    ∷ []

changing-steps : AreStepsOf changing changing_lines
unfolding opened opening step next next_from after kept_objects get_word put_word add_word store_entry append_entry erase_entry create_object enter_procedure leave take_token
    give_token first_missing right_numbers right_table
changing-steps = (refl, (refl, (refl, (refl, (refl, (refl, (refl, tt)))))))

changes-of-lists-and-tokens : bare_changes changing changing_lines ≡
    record { moment = 2; under = record { call = inc 1; moment = 2 }; object = name 7 }
    ∷ record { moment = 3; under = record { call = inc 1; moment = 2 }; object = name 7 }
    ∷ record { moment = 4; under = record { call = inc 1; moment = 2 }; object = name 8 }
    ∷ record { moment = 5; under = record { call = inc 1; moment = 2 }; object = name 8 }
    ∷ record { moment = 6; under = record { call = inc 1; moment = 2 }; object = name 8 }
    ∷ []
unfolding opened opening step next next_from after kept_objects get_word put_word add_word store_entry append_entry erase_entry create_object enter_procedure leave take_token
    give_token first_missing right_numbers right_table
changes-of-lists-and-tokens = refl
