-- Worked rows of the traces of lines.
use Rattle.std.specs.Prelude.{◌≡◌, ℕ, ◌+◌, List, [], ◌∷◌, refl}
use Rattle.hk_model.specs.declared.entries.Entry.{Entry}
use Rattle.hk_rights.specs.Rights.{GETDATA, PUTDATA, ADDDATA, LOAD, COPY, MODIFY, ENV, UNCONF, A0, first_missing, right_numbers, right_table}
use Rattle.hk_model.specs.Opening.{opening}
use Rattle.hk_model.specs.Control.{next, next_from, after}
use Rattle.hk_model.specs.Rule.{get_word, put_word, add_word, load_entry, restrict_slot, create_object, merge_cap, enter_procedure, leave}
use Rattle.hk_model.specs.Keeping.{kept_objects}
use Rattle.hk_model.specs.Running.{AreStepsOf, opened, step}
use Rattle.hk_trace.specs.declared.chains.Place.TheVariants.{SlotOf, EntryOf}
use Rattle.hk_trace.specs.declared.chains.Standing.{Standing}
use Rattle.hk_trace.specs.declared.chains.Link.{Link}
use Rattle.hk_trace.specs.declared.chains.Origin.{Origin}
use Rattle.hk_trace.specs.declared.chains.Origin.TheVariants.{Opening, Made}
use Rattle.hk_trace.specs.declared.chains.Chain.{Chain}
use Rattle.hk_trace.specs.Traced.{trace_of}
use Rattle.hk_trace.proofs.RowWorlds.{name, inc, slot, cap, returning, returning_lines, reaching, reaching_lines, winding, winding_lines}

abbrev in_slot : ℕ → ℕ → Entry → Standing
in_slot i n entry = record { place = SlotOf (inc i) (slot n); entry = entry }

abbrev in_list : ℕ → ℕ → Entry → Standing
in_list n index entry = record { place = EntryOf (name n) index; entry = entry }

abbrev link : ℕ → Standing → Link
link line from = record { line = line; from = from }

abbrev chain : ℕ → Standing → List Link → Origin → Chain
chain step at links origin = record { step = step; at = at; links = links; origin = origin }

-- what a call made and returned
returning-steps : AreStepsOf returning returning_lines
unfolding opened opening step next next_from after kept_objects get_word add_word create_object enter_procedure leave first_missing right_numbers right_table
returning-steps = (refl, (refl, (refl, (refl, (refl, (refl, tt))))))

abbrev made_rights : ℕ
made_rights = GETDATA + ADDDATA + MODIFY + ENV

made-and-returned : trace_of returning returning_lines 6 ≡ chain 0 (in_slot 0 1 (cap 8 made_rights)) (link 5 (in_slot 1 1 (cap 8 made_rights)) ∷ []) (Made 3) ∷ []
unfolding opened opening step next next_from after kept_objects get_word add_word create_object enter_procedure leave first_missing right_numbers right_table
made-and-returned = refl

nothing-is-used-by-a-dispatch : trace_of returning returning_lines 1 ≡ []
unfolding opened opening step next next_from after kept_objects get_word add_word create_object enter_procedure leave first_missing right_numbers right_table
nothing-is-used-by-a-dispatch = refl

no-line-is-there : trace_of returning returning_lines 999 ≡ []
no-line-is-there = refl

-- a path of three steps: each place with what it holds, not with what the walk makes of it
reaching-steps : AreStepsOf reaching reaching_lines
unfolding opened opening step next next_from after kept_objects put_word enter_procedure leave first_missing right_numbers right_table
reaching-steps = (refl, (refl, (refl, (refl, tt))))

path-of-three-steps : trace_of reaching reaching_lines 3 ≡
    chain 0 (in_slot 1 0 (cap 9 (LOAD + MODIFY + UNCONF))) (link 2 (in_slot 0 0 (cap 9 (LOAD + MODIFY + ENV + UNCONF))) ∷ []) Opening
    ∷ chain 1 (in_list 9 0 (cap 8 (LOAD + MODIFY + ENV + UNCONF))) [] Opening
    ∷ chain 2 (in_list 8 0 (cap 7 (PUTDATA + MODIFY + ENV + UNCONF))) [] Opening
    ∷ []
unfolding opened opening step next next_from after kept_objects put_word enter_procedure leave first_missing right_numbers right_table
path-of-three-steps = refl

-- six links, by two restrictions, two calls, a load and a merge
winding-steps : AreStepsOf winding winding_lines
unfolding opened opening step next next_from after kept_objects get_word load_entry restrict_slot merge_cap enter_procedure first_missing right_numbers right_table
winding-steps = (refl, (refl, (refl, (refl, (refl, (refl, (refl, (refl, (refl, tt)))))))))

six-links : trace_of winding winding_lines 9 ≡
    chain 0 (in_slot 2 0 (cap 7 GETDATA))
    (link 8 (in_slot 1 4 (cap 7 (GETDATA + ENV)))
    ∷ link 7 (in_slot 1 4 (cap 7 (GETDATA + LOAD + ENV)))
    ∷ link 6 (in_slot 1 3 (cap 7 (GETDATA + LOAD + COPY + ENV)))
    ∷ link 5 (in_slot 1 0 (cap 7 (GETDATA + LOAD + COPY + ENV)))
    ∷ link 4 (in_slot 0 0 (cap 7 (GETDATA + LOAD + COPY + ENV)))
    ∷ link 3 (in_slot 0 0 (cap 7 (GETDATA + PUTDATA + LOAD + COPY + ENV)))
    ∷ [])
    Opening
    ∷ []
unfolding opened opening step next next_from after kept_objects get_word load_entry restrict_slot merge_cap enter_procedure first_missing right_numbers right_table
six-links = refl

-- the path and then the argument; where the arguments are too few, the path alone
call-uses-its-argument : trace_of winding winding_lines 4 ≡
    chain 0 (in_slot 0 1 (cap 8 A0)) [] Opening
    ∷ chain 1 (in_slot 0 0 (cap 7 (GETDATA + LOAD + COPY + ENV))) (link 3 (in_slot 0 0 (cap 7 (GETDATA + PUTDATA + LOAD + COPY + ENV))) ∷ []) Opening
    ∷ []
unfolding opened opening step next next_from after kept_objects get_word load_entry restrict_slot merge_cap enter_procedure first_missing right_numbers right_table
call-uses-its-argument = refl

miscounted-call-uses-its-path : trace_of winding winding_lines 2 ≡ chain 0 (in_slot 0 1 (cap 8 A0)) [] Opening ∷ []
unfolding opened opening step next next_from after kept_objects get_word load_entry restrict_slot merge_cap enter_procedure first_missing right_numbers right_table
miscounted-call-uses-its-path = refl
