-- Parts of the worked rows: slots, capabilities, declarations and lines of small worlds.
use Rattle.std.specs.Prelude.{ℕ, ◌+◌, List, [], ◌∷◌, length, map, None}
use Rattle.hk_model.specs.declared.names.Name.{Name}
use Rattle.hk_model.specs.declared.names.Inc.{Inc}
use Rattle.hk_model.specs.declared.names.Slot.{Slot}
use Rattle.hk_model.specs.declared.entries.Param.{Param}
use Rattle.hk_model.specs.declared.entries.Entry.{Entry}
use Rattle.hk_model.specs.declared.entries.Entry.TheVariants.{Held}
use Rattle.hk_model.specs.declared.calls.Call.{Call}
use Rattle.hk_model.specs.declared.calls.Call.TheVariants as call
use Rattle.hk_model.specs.declared.calls.Reply.{Reply}
use Rattle.hk_model.specs.declared.calls.Reply.TheVariants.{Done}
use Rattle.hk_model.specs.declared.lines.What.TheVariants as what
use Rattle.hk_model.specs.declared.lines.Line.{Line}
use Rattle.hk_model.specs.declared.instructions.Instr.{Instr}
use Rattle.hk_model.specs.declared.instructions.Index.TheVariants.{Fixed}
use Rattle.hk_model.specs.declared.instructions.Route.{Route}
use Rattle.hk_model.specs.declared.world.Kind.{Kind}
use Rattle.hk_model.specs.declared.world.Kind.TheVariants as kind
use Rattle.hk_model.specs.Limits.{usual_limit}
use Rattle.hk_model.specs.WorldValue.{WorldValue}

-- the numbers of some rights
abbrev pub getdata_right : ℕ
getdata_right = 0

abbrev pub putdata_right : ℕ
putdata_right = 1

abbrev pub load_right : ℕ
load_right = 3

abbrev pub name : ℕ → Name
name n = record { 0 = n }

abbrev pub inc : ℕ → Inc
inc n = record { 0 = n }

abbrev pub slot : ℕ → Slot
slot n = record { 0 = n }

-- a capability for the object of this name, with these rights
abbrev pub cap : ℕ → ℕ → Entry
cap n rights = Held (record { name = name n; rights = rights })

abbrev pub route : List ℕ → Route
route at = record { at = map (λ n. Fixed n) at }

abbrev pub plain : ℕ → List ℕ → List Entry → Kind
plain of words entries = kind.Plain (name of) words entries

abbrev pub procedure : ℕ → List Param → List Entry → Kind
procedure code params entries = kind.Procedure code params entries

-- what a process of a world has: a code and the entries of its slots
abbrev pub process : ℕ → List Entry → ℕ × List Entry
process code slots = (code, slots)

-- the items, each made with its number, from n on
abbrev each_from : {A B : Type 0} → (ℕ → A → B) → ℕ → List A → List B
each_from f n [] = []
each_from f n (x ∷ xs) = f n x ∷ each_from f (n + 1) xs

-- labels of one letter
abbrev label_of : ℕ → List ℕ
label_of n = (97 + n) ∷ []

-- a world of these objects, codes and processes, labelled a, b, c and so on
abbrev pub small_world : List Kind → List (List Instr) → List (ℕ × List Entry) → WorldValue
small_world objects codes processes = record {
  limit = usual_limit;
  objects = each_from (λ n kind. record { label = label_of n; kind = kind }) 0 objects;
  codes = each_from (λ n steps. record { label = label_of n; steps = steps }) (length objects) codes;
  tasks = each_from (λ n process. record { label = label_of n; code = process.0; slots = process.1 }) (length objects + length codes) processes;
}

-- lines of processor 0: a process is given to it in its base, or in another incarnation
abbrev pub dispatch_in : ℕ → ℕ → Line
dispatch_in proc i = record { cpu = record { 0 = 0 }; proc = record { 0 = proc }; inc = inc i; what = what.Dispatch; reply = Done }

abbrev pub dispatch : ℕ → Line
dispatch proc = dispatch_in proc proc

abbrev pub line_of_process : ℕ → ℕ → Call → Reply → Line
line_of_process proc i c reply = record { cpu = record { 0 = 0 }; proc = record { 0 = proc }; inc = inc i; what = what.Call c; reply = reply }

abbrev pub line : ℕ → Call → Reply → Line
line i c reply = line_of_process 0 i c reply

abbrev pub return_line : ℕ → Line
return_line i = line i (call.Leave None) Done
