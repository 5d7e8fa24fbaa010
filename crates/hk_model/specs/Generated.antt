-- The generated worlds. docs/FORMATS.md, "Generated worlds".
use Rattle.std.specs.Prelude.{ℕ, zero, suc, ◌+◌, List, [], ◌∷◌, Some, codes}
use Rattle.std.specs.Fmt.{decimal}
use Rattle.hk_rights.specs.Rights.{GETDATA, PUTDATA, MODIFY, A0, A1}
use Rattle.hk_model.specs.declared.names.Name.{Name}
use Rattle.hk_model.specs.declared.names.Slot.{Slot}
use Rattle.hk_model.specs.declared.entries.Entry.{Entry}
use Rattle.hk_model.specs.declared.entries.Entry.TheVariants.{Held}
use Rattle.hk_model.specs.declared.entries.Param.{Param}
use Rattle.hk_model.specs.declared.instructions.Index.TheVariants.{Fixed}
use Rattle.hk_model.specs.declared.instructions.Instr.{Instr}
use Rattle.hk_model.specs.declared.instructions.Instr.TheVariants as instr
use Rattle.hk_model.specs.declared.instructions.Operand.TheVariants.{Number, Reg}
use Rattle.hk_model.specs.declared.instructions.Route.{Route}
use Rattle.hk_model.specs.declared.world.Born.{Born}
use Rattle.hk_model.specs.declared.world.Code.{Code}
use Rattle.hk_model.specs.declared.world.Kind.{Kind}
use Rattle.hk_model.specs.declared.world.Kind.TheVariants as kind
use Rattle.hk_model.specs.declared.world.Task.{Task}
use Rattle.hk_model.specs.Limits.{event_limit}
use Rattle.hk_model.specs.Targets.{DATA}
use Rattle.hk_model.specs.WorldValue.{WorldValue, world_value}

-- sets of rights

-- to read and write words, without the right to change
abbrev pub GETDATA+PUTDATA : ℕ
GETDATA+PUTDATA = GETDATA + PUTDATA

-- to read and write words
abbrev pub GETDATA+PUTDATA+MODIFY : ℕ
GETDATA+PUTDATA+MODIFY = GETDATA + PUTDATA + MODIFY

-- to take and give the tokens of a semaphore
abbrev pub MODIFY+A0+A1 : ℕ
MODIFY+A0+A1 = MODIFY + A0 + A1

-- parts of worlds

-- the name of this number
abbrev pub name : ℕ → Name
name n = record { 0 = n }

-- the slot of this number
abbrev pub slot : ℕ → Slot
slot n = record { 0 = n }

-- a path of one slot
abbrev pub at_slot : ℕ → Route
at_slot n = record { at = Fixed n ∷ [] }

-- an object of the script
abbrev pub born : List ℕ → Kind → Born
born label kind = record { label = label; kind = kind }

-- a code of the script
abbrev pub code : List ℕ → List Instr → Code
code label steps = record { label = label; steps = steps }

-- a process of the script
abbrev pub task : List ℕ → ℕ → List Entry → Task
task label code slots = record { label = label; code = code; slots = slots }

-- a capability
abbrev pub capability : ℕ → ℕ → Entry
capability n rights = Held (record { name = name n; rights = rights })

-- the names of the objects, and the numbers of the codes

-- the word that is counted up
abbrev pub total : ℕ
total = 7

-- the semaphore
abbrev pub lock : ℕ
lock = 8

-- the procedure
abbrev pub bump : ℕ
bump = 9

-- the code of the procedure
abbrev pub cbump : ℕ
cbump = 0

-- the code of the processes
abbrev pub main : ℕ
main = 1

-- what `bump` asks of its argument and makes of it: a DATA object that it may change
abbrev pub bump_param : Param
bump_param = record { of = Some (name DATA); check = GETDATA+PUTDATA; give = GETDATA+PUTDATA+MODIFY }

-- a word that all processes count up, the lock that they hold while they do, and the procedure that does it
abbrev pub objects : List Born
objects =
    born (codes "total") (kind.Plain (name DATA) (0 ∷ []) [])
    ∷ born (codes "lock") (kind.Semaphore 1)
    ∷ born (codes "bump") (kind.Procedure cbump (bump_param ∷ []) [])
    ∷ []

-- adds 1 to the first word of its argument
abbrev pub bump_steps : List Instr
bump_steps = instr.Get (at_slot 0) (Number 0) 1 ∷ instr.AddReg 1 (Number 1) ∷ instr.Put (at_slot 0) (Number 0) (Reg 1) ∷ []

-- calls `bump` for `total` a hundred times, each time with the lock
abbrev pub main_steps : List Instr
main_steps =
    instr.P (at_slot 2)
    ∷ instr.Enter (at_slot 0) (1 ∷ []) (slot 3)
    ∷ instr.V (at_slot 2)
    ∷ instr.AddReg 0 (Number 1)
    ∷ instr.IfLess (Reg 0) (Number 100) 0
    ∷ []

-- what each process holds: the procedure, the object and the lock
abbrev pub main_slots : List Entry
main_slots = capability bump A0 ∷ capability total GETDATA+PUTDATA+MODIFY ∷ capability lock MODIFY+A0+A1 ∷ []

-- the process of this number: `w` and the number is its label
abbrev pub process_numbered : ℕ → Task
process_numbered n = task (119 ∷ decimal n) main main_slots

-- the processes from number n on
abbrev pub processes_from : ℕ → ℕ → List Task
processes_from n zero = []
processes_from n (suc k) = process_numbered n ∷ processes_from (n + 1) k

-- the generated world of so many processes
unfoldable pub generate : ℕ → WorldValue
generate k = world_value event_limit objects (code (codes "cbump") bump_steps ∷ code (codes "main") main_steps ∷ []) (processes_from 0 k)
