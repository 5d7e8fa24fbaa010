-- Worked rows of the texts of states.
use Rattle.std.specs.Prelude.{◌≡◌, ℕ, ◌+◌, List, [], ◌∷◌, refl, codes, Some, None, true, false}
use Rattle.std.specs.Fmt.{digits}
use Rattle.std.specs.List.{flat_map}
use Rattle.hk_rights.specs.Rights.{GETDATA, LOAD, MODIFY, ENV, A0, right_table, right_numbers, name_of}
use Rattle.hk_model.specs.declared.names.Name.{Name}
use Rattle.hk_model.specs.declared.names.Inc.{Inc}
use Rattle.hk_model.specs.declared.names.Proc.{Proc}
use Rattle.hk_model.specs.declared.entries.Entry.{Entry}
use Rattle.hk_model.specs.declared.entries.Entry.TheVariants.{Empty, Held, Form}
use Rattle.hk_model.specs.declared.entries.Template.TheVariants as template
use Rattle.hk_model.specs.declared.objects.ProcessState.TheVariants.{Ready, Running, Waiting, Ended}
use Rattle.hk_model.specs.declared.snapshot.Seen.{Seen}
use Rattle.hk_model.specs.declared.snapshot.Live.{Live}
use Rattle.hk_model.specs.declared.snapshot.Snapshot.{Snapshot}
use Rattle.hk_model.specs.Targets.{TYPE, DATA, UNIVERSAL, SEMAPHORE, PROCEDURE}
use Rattle.hk_format.specs.RightsTexts.{rights_text}
use Rattle.hk_format.specs.Texts.{ended_line}
use Rattle.hk_undo.specs.StateTexts.{incarnation_line, incarnation_lines, state_text}

abbrev name : ℕ → Name
name n = record { 0 = n }

abbrev inc : ℕ → Inc
inc n = record { 0 = n }

abbrev proc : ℕ → Proc
proc n = record { 0 = n }

abbrev cap : ℕ → ℕ → Entry
cap n rights = Held (record { name = name n; rights = rights })

-- lines, each ended
abbrev text : List (List ℕ) → List ℕ
text lines = flat_map ended_line lines

-- an object of a type, with words and entries
abbrev plain : ℕ → ℕ → List ℕ → List Entry → Seen
plain n of words entries = record { name = name n; of = name of; words = words; entries = entries; count = 0; waiters = []; code = None; params = [] }

abbrev base : ℕ → List Entry → Live
base n slots = record { inc = inc n; proc = proc n; procedure = None; caller = None; into = record { 0 = 0 }; confined = false; slots = slots }

-- the smallest run: a process has read the word of its object
abbrev reading : Snapshot
reading = record {
  objects = plain 0 TYPE [] [] ∷ plain 7 DATA (7 ∷ []) [] ∷ [];
  incarnations = base 0 (cap 7 GETDATA ∷ Empty ∷ []) ∷ [];
  processes = Running (record { 0 = 0 }) ∷ [];
  ready = [];
  next_name = name 8;
  next_inc = inc 1;
  events = 2;
  limit = 10000;
}

reading-text : state_text reading 2 ≡ text (
    codes "moment 2" ∷ codes "object 7 1" ∷ codes "words 7" ∷ codes "incarnation 0 0 base" ∷ codes "slot 0 cap 7 GETDATA" ∷ codes "process 0 running 0" ∷ codes "next 8 1" ∷ []
    )
unfolding digits right_table right_numbers name_of rights_text incarnation_line incarnation_lines
reading-text = refl

-- a type, a list with an entry that is Empty, a semaphore at which two wait, and a procedure that was called confined
abbrev calling : Snapshot
calling = record {
  objects =
      plain 7 TYPE [] []
      ∷ plain 8 UNIVERSAL (1 ∷ 2 ∷ []) (Empty ∷ Form (template.Amplify None LOAD 0) ∷ [])
      ∷ record (plain 9 SEMAPHORE [] []) { count = 0; waiters = proc 2 ∷ proc 1 ∷ [] }
      ∷ record (plain 10 PROCEDURE [] (Form (template.Create (name 7) ENV) ∷ [])) { code = Some 3 }
      ∷ plain 11 7 [] []
      ∷ [];
  incarnations =
      base 0 (Empty ∷ cap 10 A0 ∷ [])
      ∷ record (base 5 (cap 8 (LOAD + MODIFY) ∷ [])) { proc = proc 0; procedure = Some (name 10); caller = Some (inc 0); into = record { 0 = 6 }; confined = true }
      ∷ [];
  processes = Ready ∷ Waiting (name 9) ∷ Waiting (name 9) ∷ Ended ∷ [];
  ready = proc 0 ∷ [];
  next_name = name 12;
  next_inc = inc 6;
  events = 40;
  limit = 10000;
}

calling-text : state_text calling 40 ≡ text (
    codes "moment 40"
    ∷ codes "object 7 0"
    ∷ codes "object 8 2" ∷ codes "words 1 2" ∷ codes "entries 2" ∷ codes "entry 1 amplify any LOAD -"
    ∷ codes "object 9 3" ∷ codes "count 0" ∷ codes "waiters 2 1"
    ∷ codes "object 10 4" ∷ codes "entries 1" ∷ codes "entry 0 create 7 ENV" ∷ codes "code 3"
    ∷ codes "object 11 7" ∷ codes "entries 0"
    ∷ codes "incarnation 0 0 base" ∷ codes "slot 1 cap 10 A0"
    ∷ codes "incarnation 5 0 by 0 into 6 of 10 confined" ∷ codes "slot 0 cap 8 LOAD+MODIFY"
    ∷ codes "process 0 ready" ∷ codes "process 1 waiting 9" ∷ codes "process 2 waiting 9" ∷ codes "process 3 ended"
    ∷ codes "ready 0"
    ∷ codes "next 12 6"
    ∷ []
    )
unfolding digits right_table right_numbers name_of rights_text incarnation_line incarnation_lines
calling-text = refl
