-- The tests that the kernel calls share. docs/RULES.md, "The order of refusals" and "The table of the calls".
use Rattle.std.specs.Prelude.{ℕ, ◌+◌, ◌-◌, ◌==◌, Bool, ◌||◌, List, length, Result, Ok, Err, nat_lt, if◌then◌else◌}
use Rattle.hk_model.specs.declared.names.Name.{Name}
use Rattle.hk_model.specs.declared.names.Inc.{Inc}
use Rattle.hk_model.specs.declared.names.Slot.{Slot}
use Rattle.hk_model.specs.declared.entries.Cap.{Cap}
use Rattle.hk_model.specs.declared.entries.Param.{Param}
use Rattle.hk_model.specs.declared.entries.Template.TheVariants as template
use Rattle.hk_model.specs.declared.entries.Entry.{Entry}
use Rattle.hk_model.specs.declared.entries.Entry.TheVariants.{Empty, Held, Form}
use Rattle.hk_model.specs.declared.calls.Refusal.{Refusal}
use Rattle.hk_model.specs.declared.calls.Refusal.TheVariants as refused
use Rattle.hk_rights.specs.Rights.{PUTDATA, ADDDATA, STORE, APPEND, KILL, MODIFY, ENV, A0, A1}
use Rattle.hk_model.specs.Limits.{slot_limit}
use Rattle.hk_model.specs.State.{State, object}
use Rattle.hk_model.specs.Refusing.{◌>>=◌, ◌>>◌, unless, allowed}
use Rattle.hk_model.specs.Walking.{walk, held}

-- the kernel types
abbrev pub TYPE : ℕ
TYPE = 0

abbrev pub DATA : ℕ
DATA = 1

abbrev pub UNIVERSAL : ℕ
UNIVERSAL = 2

abbrev pub SEMAPHORE : ℕ
SEMAPHORE = 3

abbrev pub PROCEDURE : ℕ
PROCEDURE = 4

abbrev pub PROCESS : ℕ
PROCESS = 5

abbrev pub LNS : ℕ
LNS = 6

abbrev pub kernel_types : ℕ
kernel_types = LNS + 1

-- general: DATA, UNIVERSAL and every type that is no kernel type
abbrev pub is_general : Name → Bool
is_general of = of.0 == DATA || of.0 == UNIVERSAL || nat_lt LNS of.0

-- listed: UNIVERSAL, PROCEDURE and every type that is no kernel type
abbrev pub is_listed : Name → Bool
is_listed of = of.0 == UNIVERSAL || of.0 == PROCEDURE || nat_lt LNS of.0

abbrev pub is_of_type : ℕ → Name → Bool
is_of_type n of = of.0 == n

-- every change of an object asks for MODIFY besides the particular right
abbrev pub PUTDATA+MODIFY : ℕ
PUTDATA+MODIFY = PUTDATA + MODIFY

abbrev pub ADDDATA+MODIFY : ℕ
ADDDATA+MODIFY = ADDDATA + MODIFY

abbrev pub STORE+MODIFY : ℕ
STORE+MODIFY = STORE + MODIFY

abbrev pub APPEND+MODIFY : ℕ
APPEND+MODIFY = APPEND + MODIFY

abbrev pub KILL+MODIFY : ℕ
KILL+MODIFY = KILL + MODIFY

abbrev pub MODIFY+A0 : ℕ
MODIFY+A0 = MODIFY + A0

abbrev pub MODIFY+A1 : ℕ
MODIFY+A1 = MODIFY + A1

abbrev pub ENV+A0 : ℕ
ENV+A0 = ENV + A0

-- the last step of a path
abbrev pub last_step : List ℕ → ℕ
last_step path = length path - 1

-- the number of a slot, which is below 64
abbrev pub slot_at : Slot → ℕ → Result ℕ Refusal
slot_at slot step = if nat_lt slot.0 slot_limit then Ok slot.0 else Err (refused.Range step)

-- what may stand in a list: a template, or a capability with ENV
abbrev pub storable : Entry → ℕ → Result Entry Refusal
storable Empty step = Err (refused.Empty step)
storable (Form form) step = Ok (Form form)
storable (Held cap) step = do
  allowed cap.rights ENV step
  Ok (Held cap)

-- any entry but Empty
abbrev pub not_empty : Entry → ℕ → Result Entry Refusal
not_empty Empty step = Err (refused.Empty step)
not_empty (Held cap) step = Ok (Held cap)
not_empty (Form form) step = Ok (Form form)

-- the capability at the end of the path, for an object of a type that is allowed, with these rights
abbrev pub target : State → Inc → List ℕ → (Name → Bool) → ℕ → Result Cap Refusal
target s inc path types rights = do
  entry ← walk s inc path
  cap ← held entry (last_step path)
  unless (types (object s cap.name).of) (refused.WrongType (last_step path))
  allowed cap.rights rights (last_step path)
  Ok cap

-- a Create template: the type, and the rights that it gives
abbrev pub create_form : Entry → ℕ → Result (Name × ℕ) Refusal
create_form Empty step = Err (refused.Empty step)
create_form (Held cap) step = Err (refused.BadTemplate step)
create_form (Form (template.Amplify of check give)) step = Err (refused.BadTemplate step)
create_form (Form (template.Create of give)) step = Ok (of, give)

-- an Amplify template
abbrev pub amplify_form : Entry → ℕ → Result Param Refusal
amplify_form Empty step = Err (refused.Empty step)
amplify_form (Held cap) step = Err (refused.BadTemplate step)
amplify_form (Form (template.Amplify of check give)) step = Ok (record { of = of; check = check; give = give })
amplify_form (Form (template.Create of give)) step = Err (refused.BadTemplate step)
