-- What a world consists of, and when it can be run. docs/RULES.md, "Worlds" and "Limits".
use Rattle.std.specs.Prelude.{◌≡◌, ◌⊎◌, ℕ, ◌+◌, ◌-◌, ◌<◌, ◌≤◌, List, [], ◌∷◌, ◌++◌, length, IsTrue, Option, Some, None, map, slice_get}
use Rattle.std.specs.List.{AllByRecursion}
use Rattle.hk_model.specs.declared.names.Name.{Name}
use Rattle.hk_model.specs.declared.names.Slot.{Slot}
use Rattle.hk_model.specs.declared.entries.Entry.{Entry}
use Rattle.hk_model.specs.declared.entries.Entry.TheVariants.{Empty, Held, Form}
use Rattle.hk_model.specs.declared.entries.Making.{Making}
use Rattle.hk_model.specs.declared.entries.Making.TheVariants as making
use Rattle.hk_model.specs.declared.entries.Param.{Param}
use Rattle.hk_model.specs.declared.entries.Template.TheVariants as template
use Rattle.hk_model.specs.declared.instructions.Instr.{Instr}
use Rattle.hk_model.specs.declared.instructions.Instr.TheVariants as instr
use Rattle.hk_model.specs.declared.instructions.Operand.{Operand}
use Rattle.hk_model.specs.declared.instructions.Operand.TheVariants.{Number, Reg}
use Rattle.hk_model.specs.declared.instructions.Index.{Index}
use Rattle.hk_model.specs.declared.instructions.Index.TheVariants.{Fixed, ByReg}
use Rattle.hk_model.specs.declared.instructions.Route.{Route}
use Rattle.hk_model.specs.declared.world.Born.{Born}
use Rattle.hk_model.specs.declared.world.Code.{Code}
use Rattle.hk_model.specs.declared.world.Kind.{Kind}
use Rattle.hk_model.specs.declared.world.Kind.TheVariants as kind
use Rattle.hk_model.specs.declared.world.Task.{Task}
use Rattle.hk_rights.specs.Rights.{IsRightsWord}
use Rattle.hk_model.specs.Labels.{is_name, are_apart}
use Rattle.hk_model.specs.Limits.{object_limit, word_limit, entry_limit, slot_limit, param_limit, argument_limit, path_limit, index_bound, register_limit, token_limit, code_limit}
use Rattle.hk_model.specs.Limits.{process_limit, event_limit, word_bound}
use Rattle.hk_model.specs.Targets.{DATA, UNIVERSAL, kernel_types}

pub record WorldValue : Type 0 where
  -- how many events there can be
  pub limit : ℕ
  -- objects by their names, the first of which is 7, codes and processes by their numbers
  pub objects : List Born
  pub codes : List Code
  pub tasks : List Task

abbrev pub world_value : ℕ → List Born → List Code → List Task → WorldValue
world_value limit objects codes tasks = record { limit = limit; objects = objects; codes = codes; tasks = tasks }

-- an object of the world
abbrev pub IsObject : WorldValue → Name → Type 0
IsObject w name = name.0 < kernel_types + length w.objects

abbrev pub IsTypeKind : Kind → Type 0
IsTypeKind kind.TypeObject = Unit {0}
IsTypeKind (kind.Plain of words entries) = ⊥
IsTypeKind (kind.Semaphore count) = ⊥
IsTypeKind (kind.Procedure code params entries) = ⊥

-- a type that the script declares
pub record IsDeclaredType (w : WorldValue) (name : Name) : Type 0 where
  pub born : Born
  pub above : kernel_types ≤ name.0
  pub there : slice_get w.objects (name.0 - kernel_types) ≡ Some born
  pub is_type : IsTypeKind born.kind

-- a kernel type, or a declared one
abbrev pub IsType : WorldValue → Name → Type 0
IsType w name = (name.0 < kernel_types) ⊎ IsDeclaredType w name

abbrev pub IsTypeOrAny : WorldValue → Option Name → Type 0
IsTypeOrAny w None = Unit {0}
IsTypeOrAny w (Some name) = IsType w name

-- capabilities name objects of the world, and templates its types; rights are sets of the 19
abbrev pub IsEntry : WorldValue → Entry → Type 0
IsEntry w Empty = Unit {0}
IsEntry w (Held cap) = IsObject w cap.name × IsRightsWord cap.rights
IsEntry w (Form (template.Amplify of check give)) = IsTypeOrAny w of × IsRightsWord check × IsRightsWord give
IsEntry w (Form (template.Create of give)) = IsType w of × IsRightsWord give

abbrev pub IsParam : WorldValue → Param → Type 0
IsParam w param = IsTypeOrAny w param.of × IsRightsWord param.check × IsRightsWord param.give

-- a word of 32 bits
abbrev pub IsWord32 : ℕ → Type 0
IsWord32 n = n < word_bound

-- a plain object is of DATA, without entries, or of UNIVERSAL or a declared type
abbrev pub IsPlainType : WorldValue → Name → List Entry → Type 0
IsPlainType w of entries = ((of.0 ≡ DATA) × (entries ≡ [])) ⊎ ((of.0 ≡ UNIVERSAL) ⊎ IsDeclaredType w of)

abbrev pub IsKind : WorldValue → Kind → Type 0
IsKind w kind.TypeObject = Unit {0}
IsKind w (kind.Plain of words entries) =
    IsPlainType w of entries × (length words ≤ word_limit) × AllByRecursion IsWord32 words × (length entries ≤ entry_limit) × AllByRecursion (IsEntry w) entries
IsKind w (kind.Semaphore count) = count ≤ token_limit
IsKind w (kind.Procedure code params entries) =
    (code < length w.codes) × (length params ≤ param_limit) × AllByRecursion (IsParam w) params
    × (length entries ≤ entry_limit) × AllByRecursion (IsEntry w) entries

-- numbers in the ranges of an instruction's operands

abbrev pub IsSlot : Slot → Type 0
IsSlot slot = slot.0 < slot_limit

abbrev pub IsReg : ℕ → Type 0
IsReg reg = reg < register_limit

abbrev pub IsOperand : Operand → Type 0
IsOperand (Number n) = IsWord32 n
IsOperand (Reg reg) = IsReg reg

abbrev pub IsIndex : Index → Type 0
IsIndex (Fixed n) = n < index_bound
IsIndex (ByReg reg) = IsReg reg

-- the first index of a route is a slot
abbrev pub BeginsAtSlot : List Index → Type 0
BeginsAtSlot [] = ⊥
BeginsAtSlot (Fixed n ∷ rest) = n < slot_limit
BeginsAtSlot (ByReg reg ∷ rest) = Unit {0}

abbrev pub IsRoute : Route → Type 0
IsRoute route = BeginsAtSlot route.at × (length route.at ≤ path_limit) × AllByRecursion IsIndex route.at

abbrev pub IsSlotOrNone : Option Slot → Type 0
IsSlotOrNone None = Unit {0}
IsSlotOrNone (Some slot) = IsSlot slot

-- at most eight slots, the arguments of a call
abbrev pub IsArguments : List ℕ → Type 0
IsArguments args = (length args ≤ argument_limit) × AllByRecursion (λ slot. slot < slot_limit) args

abbrev pub IsMaking : Making → Type 0
IsMaking (making.Amplify check give) = IsRightsWord check × IsRightsWord give
IsMaking (making.Create give) = IsRightsWord give

-- an instruction of a code of so many: a jump may also go to the code's end
abbrev pub IsInstr : ℕ → Instr → Type 0
IsInstr len (instr.Get of at reg) = IsRoute of × IsOperand at × IsReg reg
IsInstr len (instr.Put of at word) = IsRoute of × IsOperand at × IsOperand word
IsInstr len (instr.Add of word) = IsRoute of × IsOperand word
IsInstr len (instr.Length of reg) = IsRoute of × IsReg reg
IsInstr len (instr.Load from into) = IsRoute from × IsSlot into
IsInstr len (instr.Store list at from) = IsRoute list × IsOperand at × IsSlot from
IsInstr len (instr.Append list from) = IsRoute list × IsSlot from
IsInstr len (instr.Erase list at) = IsRoute list × IsOperand at
IsInstr len (instr.Drop slot) = IsSlot slot
IsInstr len (instr.Restrict slot keep) = IsSlot slot × IsRightsWord keep
IsInstr len (instr.Look of reg) = IsRoute of × IsReg reg
IsInstr len (instr.MakeTemplate of kind into) = IsRoute of × IsMaking kind × IsSlot into
IsInstr len (instr.Create by into) = IsRoute by × IsSlot into
IsInstr len (instr.Merge with cap into) = IsRoute with × IsSlot cap × IsSlot into
IsInstr len (instr.Copy of into) = IsRoute of × IsSlot into
IsInstr len (instr.Enter proc args into) = IsRoute proc × IsArguments args × IsSlot into
IsInstr len (instr.Leave give) = IsSlotOrNone give
IsInstr len (instr.P of) = IsRoute of
IsInstr len (instr.V of) = IsRoute of
IsInstr len instr.Yield = Unit {0}
IsInstr len (instr.SetReg reg to) = IsReg reg × IsOperand to
IsInstr len (instr.AddReg reg by) = IsReg reg × IsOperand by
IsInstr len (instr.Goto to) = to ≤ len
IsInstr len (instr.IfEq left right to) = IsOperand left × IsOperand right × (to ≤ len)
IsInstr len (instr.IfLess left right to) = IsOperand left × IsOperand right × (to ≤ len)
IsInstr len (instr.IfDenied to) = to ≤ len

abbrev pub IsCode : Code → Type 0
IsCode code = (length code.steps ≤ code_limit) × AllByRecursion (IsInstr (length code.steps)) code.steps

abbrev pub IsTask : WorldValue → Task → Type 0
IsTask w task = (task.code < length w.codes) × (length task.slots ≤ slot_limit) × AllByRecursion (IsEntry w) task.slots

-- the labels of objects, codes and processes, which share one space
abbrev pub labels : WorldValue → List (List ℕ)
labels w = map (λ (b : Born). b.label) w.objects ++ (map (λ (c : Code). c.label) w.codes ++ map (λ (t : Task). t.label) w.tasks)

-- a world that can be run
pub record IsWorld (w : WorldValue) : Type 0 where
  pub some_events : 0 < w.limit
  pub few_events : w.limit ≤ event_limit
  pub few_objects : kernel_types + length w.objects ≤ object_limit
  pub few_codes : length w.codes ≤ code_limit
  pub few_tasks : length w.tasks ≤ process_limit
  pub names : AllByRecursion (λ label. IsTrue (is_name label)) (labels w)
  pub apart : IsTrue (are_apart (labels w))
  pub kinds : AllByRecursion (λ (b : Born). IsKind w b.kind) w.objects
  pub codes_are : AllByRecursion IsCode w.codes
  pub tasks_are : AllByRecursion (IsTask w) w.tasks
