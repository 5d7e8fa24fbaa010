-- The worlds of the worked rows, with their lines.
use Rattle.std.specs.Prelude.{ℕ, ◌+◌, List, [], ◌∷◌, length, map, None, Some}
use Rattle.hk_model.specs.declared.names.Name.{Name}
use Rattle.hk_model.specs.declared.names.Inc.{Inc}
use Rattle.hk_model.specs.declared.names.Slot.{Slot}
use Rattle.hk_model.specs.declared.entries.Param.{Param}
use Rattle.hk_model.specs.declared.entries.Entry.{Entry}
use Rattle.hk_model.specs.declared.entries.Entry.TheVariants.{Held, Form}
use Rattle.hk_model.specs.declared.entries.Template.TheVariants as template
use Rattle.hk_model.specs.declared.calls.Call.{Call}
use Rattle.hk_model.specs.declared.calls.Call.TheVariants as call
use Rattle.hk_model.specs.declared.calls.Reply.{Reply}
use Rattle.hk_model.specs.declared.calls.Reply.TheVariants.{Done, Word, No}
use Rattle.hk_model.specs.declared.calls.Refusal.TheVariants as refused
use Rattle.hk_model.specs.declared.lines.What.TheVariants as what
use Rattle.hk_model.specs.declared.lines.Line.{Line}
use Rattle.hk_model.specs.declared.instructions.Instr.{Instr}
use Rattle.hk_model.specs.declared.instructions.Instr.TheVariants as instr
use Rattle.hk_model.specs.declared.instructions.Operand.TheVariants.{Number}
use Rattle.hk_model.specs.declared.instructions.Index.TheVariants.{Fixed}
use Rattle.hk_model.specs.declared.instructions.Route.{Route}
use Rattle.hk_model.specs.declared.world.Kind.{Kind}
use Rattle.hk_model.specs.declared.world.Kind.TheVariants as kind
use Rattle.hk_rights.specs.Rights.{GETDATA, PUTDATA, ADDDATA, LOAD, COPY, MODIFY, ENV, UNCONF, A0}
use Rattle.hk_model.specs.Limits.{usual_limit}
use Rattle.hk_model.specs.WorldValue.{WorldValue}
use Rattle.hk_model.specs.Targets.{DATA, UNIVERSAL}

abbrev pub name : ℕ → Name
name n = record { 0 = n }

abbrev pub inc : ℕ → Inc
inc n = record { 0 = n }

abbrev pub slot : ℕ → Slot
slot n = record { 0 = n }

-- a capability for the object of this name, with these rights
abbrev pub cap : ℕ → ℕ → Entry
cap n rights = Held (record { name = name n; rights = rights })

abbrev route : List ℕ → Route
route at = record { at = map (λ n. Fixed n) at }

-- the items, each made with its number, from n on
abbrev each_from : {A B : Type 0} → (ℕ → A → B) → ℕ → List A → List B
each_from f n [] = []
each_from f n (x ∷ xs) = f n x ∷ each_from f (n + 1) xs

-- labels of one letter
abbrev label_of : ℕ → List ℕ
label_of n = (97 + n) ∷ []

-- a world of these objects, of these codes, and of one process in the last code, which holds these entries
abbrev pub small_world : List Kind → List (List Instr) → ℕ → List Entry → WorldValue
small_world objects codes code slots = record {
  limit = usual_limit;
  objects = each_from (λ n kind. record { label = label_of n; kind = kind }) 0 objects;
  codes = each_from (λ n steps. record { label = label_of n; steps = steps }) (length objects) codes;
  tasks = record { label = label_of (length objects + length codes); code = code; slots = slots } ∷ [];
}

-- lines of process 0 on processor 0
abbrev pub dispatch : Line
dispatch = record { cpu = record { 0 = 0 }; proc = record { 0 = 0 }; inc = inc 0; what = what.Dispatch; reply = Done }

abbrev pub line : ℕ → Call → Reply → Line
line i c reply = record { cpu = record { 0 = 0 }; proc = record { 0 = 0 }; inc = inc i; what = what.Call c; reply = reply }

-- ---- a procedure makes an object, and returns the capability for it

abbrev pub returning : WorldValue
returning = small_world
    (kind.Procedure 0 [] (Form (template.Create (name DATA) (GETDATA + ADDDATA + MODIFY + ENV)) ∷ []) ∷ [])
    ((instr.Create (route (0 ∷ [])) (slot 1) ∷ instr.Add (route (1 ∷ [])) (Number 5) ∷ instr.Leave (Some (slot 1)) ∷ [])
    ∷ (instr.Enter (route (0 ∷ [])) [] (slot 1) ∷ instr.Get (route (1 ∷ [])) (Number 0) 0 ∷ [])
    ∷ [])
    1
    (cap 7 A0 ∷ [])

abbrev pub returning_lines : List Line
returning_lines =
    dispatch
    ∷ line 0 (call.Enter (0 ∷ []) [] (slot 1)) Done
    ∷ line 1 (call.Create (0 ∷ []) (slot 1)) Done
    ∷ line 1 (call.Add (1 ∷ []) 5) Done
    ∷ line 1 (call.Leave (Some (slot 1))) Done
    ∷ line 0 (call.Get (1 ∷ []) 0) (Word 5)
    ∷ []

-- ---- a confined call changes an object that its parameter leads to over two lists

abbrev pub reaching : WorldValue
reaching = small_world
    (kind.Plain (name DATA) (7 ∷ []) []
    ∷ kind.Plain (name UNIVERSAL) [] (cap 7 (PUTDATA + MODIFY + ENV + UNCONF) ∷ [])
    ∷ kind.Plain (name UNIVERSAL) [] (cap 8 (LOAD + MODIFY + ENV + UNCONF) ∷ [])
    ∷ kind.Procedure 0 (record { of = Some (name UNIVERSAL); check = LOAD; give = LOAD + MODIFY + UNCONF } ∷ []) []
    ∷ [])
    ((instr.Put (route (0 ∷ 0 ∷ 0 ∷ [])) (Number 0) (Number 9) ∷ [])
    ∷ (instr.Enter (route (1 ∷ [])) (0 ∷ []) (slot 2) ∷ [])
    ∷ [])
    1
    (cap 9 (LOAD + MODIFY + ENV + UNCONF) ∷ cap 10 A0 ∷ [])

abbrev pub reaching_lines : List Line
reaching_lines =
    dispatch ∷ line 0 (call.Enter (1 ∷ []) (0 ∷ []) (slot 2)) Done ∷ line 1 (call.Put (0 ∷ 0 ∷ 0 ∷ []) 0 9) Done ∷ line 1 (call.Leave None) Done ∷ []

-- ---- a capability goes through two restrictions, two calls, a load and a merge

abbrev pub any : ℕ → Param
any give = record { of = None; check = 0; give = give }

abbrev pub winding : WorldValue
winding = small_world
    (kind.Plain (name DATA) (7 ∷ []) []
    ∷ kind.Procedure 0 (any (GETDATA + LOAD + COPY + ENV) ∷ []) (Form (template.Amplify None 0 (GETDATA + LOAD + ENV)) ∷ cap 9 A0 ∷ [])
    ∷ kind.Procedure 1 (any GETDATA ∷ []) []
    ∷ [])
    ((instr.Load (route (0 ∷ [])) (slot 3)
    ∷ instr.Merge (route (1 ∷ [])) (slot 3) (slot 4)
    ∷ instr.Restrict (slot 4) (GETDATA + ENV)
    ∷ instr.Enter (route (2 ∷ [])) (4 ∷ []) (slot 5)
    ∷ [])
    ∷ (instr.Get (route (0 ∷ [])) (Number 0) 0 ∷ [])
    ∷ (instr.Enter (route (1 ∷ [])) [] (slot 2) ∷ instr.Restrict (slot 0) (GETDATA + LOAD + COPY + ENV) ∷ instr.Enter (route (1 ∷ [])) (0 ∷ []) (slot 2) ∷ [])
    ∷ [])
    2
    (cap 7 (GETDATA + PUTDATA + LOAD + COPY + ENV) ∷ cap 8 A0 ∷ [])

abbrev pub winding_lines : List Line
winding_lines =
    dispatch
    ∷ line 0 (call.Enter (1 ∷ []) [] (slot 2)) (No refused.Count)
    ∷ line 0 (call.Restrict (slot 0) (GETDATA + LOAD + COPY + ENV)) Done
    ∷ line 0 (call.Enter (1 ∷ []) (0 ∷ []) (slot 2)) Done
    ∷ line 1 (call.Load (0 ∷ []) (slot 3)) Done
    ∷ line 1 (call.Merge (1 ∷ []) (slot 3) (slot 4)) Done
    ∷ line 1 (call.Restrict (slot 4) (GETDATA + ENV)) Done
    ∷ line 1 (call.Enter (2 ∷ []) (4 ∷ []) (slot 5)) Done
    ∷ line 2 (call.Get (0 ∷ []) 0) (Word 7)
    ∷ []
