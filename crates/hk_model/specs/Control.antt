-- The control of a process: what it does next, and how a reply changes that. docs/RULES.md, "Control of a process".
use Rattle.std.specs.Prelude.{ℕ, zero, suc, ◌+◌, ◌-◌, ◌%◌, ◌==◌, Bool, true, false, List, [], ◌∷◌, length, Option, Some, None, nat_lt, if◌then◌else◌, slice_index, slice_get}
use Rattle.std.specs.Prelude.{slice_set, map, min, replicate}
use Rattle.hk_model.specs.declared.calls.Call.{Call}
use Rattle.hk_model.specs.declared.calls.Call.TheVariants as call
use Rattle.hk_model.specs.declared.calls.Reply.{Reply}
use Rattle.hk_model.specs.declared.calls.Reply.TheVariants.{Done, Word, Waits, No}
use Rattle.hk_model.specs.declared.instructions.Instr.{Instr}
use Rattle.hk_model.specs.declared.instructions.Instr.TheVariants as instr
use Rattle.hk_model.specs.declared.instructions.Operand.{Operand}
use Rattle.hk_model.specs.declared.instructions.Operand.TheVariants.{Number, Reg}
use Rattle.hk_model.specs.declared.instructions.Index.{Index}
use Rattle.hk_model.specs.declared.instructions.Index.TheVariants.{Fixed, ByReg}
use Rattle.hk_model.specs.declared.instructions.Route.{Route}
use Rattle.hk_model.specs.declared.frames.Frame.{Frame}
use Rattle.hk_model.specs.declared.frames.Todo.{Todo}
use Rattle.hk_model.specs.declared.frames.Todo.TheVariants.{Do, Halt}
use Rattle.hk_model.specs.Limits.{index_bound, local_limit, register_limit, word_bound}
use Rattle.hk_model.specs.WorldValue.{WorldValue}

-- a frame at the beginning of a code
abbrev pub new_frame : ℕ → Frame
new_frame code = record { code = code; at = 0; registers = replicate register_limit 0; refused = false }

-- the frames of a process, the current one first
abbrev pub Context : Type 0
Context = List Frame

-- what an operand is worth
abbrev pub operand : Frame → Operand → ℕ
operand f (Number n) = n
operand f (Reg r) = slice_index f.registers r

-- what an index of a path is worth: of a register at most 65,535
abbrev pub index_of : Frame → Index → ℕ
index_of f (Fixed n) = n
index_of f (ByReg r) = min (slice_index f.registers r) (index_bound - 1)

abbrev pub path_of : Frame → Route → List ℕ
path_of f route = map (index_of f) route.at

-- what an instruction is: a kernel call, or a change of its frame
pub data Meaning : Type 0 where
  Calls : (c : Call) → Meaning
  Local : (f : Frame) → Meaning

abbrev pub step_over : Frame → Frame
step_over f = record f { at = f.at + 1 }

abbrev pub go_to : Frame → ℕ → Frame
go_to f to = record f { at = to }

-- what each instruction means
abbrev pub meaning : Frame → Instr → Meaning
meaning f (instr.Get of at reg) = Calls (call.Get (path_of f of) (operand f at))
meaning f (instr.Put of at word) = Calls (call.Put (path_of f of) (operand f at) (operand f word))
meaning f (instr.Add of word) = Calls (call.Add (path_of f of) (operand f word))
meaning f (instr.Length of reg) = Calls (call.Length (path_of f of))
meaning f (instr.Load from into) = Calls (call.Load (path_of f from) into)
meaning f (instr.Store list at from) = Calls (call.Store (path_of f list) (operand f at) from)
meaning f (instr.Append list from) = Calls (call.Append (path_of f list) from)
meaning f (instr.Erase list at) = Calls (call.Erase (path_of f list) (operand f at))
meaning f (instr.Drop slot) = Calls (call.Drop slot)
meaning f (instr.Restrict slot keep) = Calls (call.Restrict slot keep)
meaning f (instr.Look of reg) = Calls (call.Look (path_of f of))
meaning f (instr.MakeTemplate of kind into) = Calls (call.MakeTemplate (path_of f of) kind into)
meaning f (instr.Create by into) = Calls (call.Create (path_of f by) into)
meaning f (instr.Merge with cap into) = Calls (call.Merge (path_of f with) cap into)
meaning f (instr.Copy of into) = Calls (call.Copy (path_of f of) into)
meaning f (instr.Enter proc args into) = Calls (call.Enter (path_of f proc) args into)
meaning f (instr.Leave give) = Calls (call.Leave give)
meaning f (instr.P of) = Calls (call.P (path_of f of))
meaning f (instr.V of) = Calls (call.V (path_of f of))
meaning f instr.Yield = Calls call.Yield
meaning f (instr.SetReg reg to) = Local (step_over (record f { registers = slice_set f.registers reg (operand f to) }))
meaning f (instr.AddReg reg by) = Local (step_over (record f { registers = slice_set f.registers reg ((slice_index f.registers reg + operand f by) % word_bound) }))
meaning f (instr.Goto to) = Local (go_to f to)
meaning f (instr.IfEq left right to) = Local (if operand f left == operand f right then go_to f to else step_over f)
meaning f (instr.IfLess left right to) = Local (if nat_lt (operand f left) (operand f right) then go_to f to else step_over f)
meaning f (instr.IfDenied to) = Local (if f.refused then go_to f to else step_over f)

-- the instructions of a code
abbrev pub steps_of : WorldValue → ℕ → List Instr
steps_of w code = elim (slice_get w.codes code) [ None ↦ [] | Some c ↦ c.steps ]

-- what stands next in a frame: at the code's end a return
abbrev pub here : List Instr → Frame → Meaning
here steps f = elim (slice_get steps f.at) [ None ↦ Calls (call.Leave None) | Some i ↦ meaning f i ]

-- what is next, and the frame that local instructions leave, of which so many may still be run
unfoldable pub next_from : ℕ → List Instr → Frame → Meaning → Todo × Frame
next_from budget steps f (Calls c) = (Do c, f)
next_from zero steps f (Local g) = (Halt, f)
next_from (suc budget) steps f (Local g) = next_from budget steps g (here steps g)

-- the next call or halt of a process, and the context that its local instructions leave
unfoldable pub next : WorldValue → Context → Todo × Context
next w [] = (Halt, [])
next w (f ∷ rest) =
    let found = next_from local_limit (steps_of w f.code) f (here (steps_of w f.code) f) in (found.0, found.1 ∷ rest)

-- the register that takes a word reply
abbrev pub target_register : Instr → Option ℕ
target_register (instr.Get of at reg) = Some reg
target_register (instr.Length of reg) = Some reg
target_register (instr.Look of reg) = Some reg
target_register _ = None

-- the frame with a word reply in the register of its instruction
abbrev pub with_word : Frame → Option Instr → Reply → Frame
with_word f (Some i) (Word n) = elim (target_register i) [ None ↦ f | Some reg ↦ record f { registers = slice_set f.registers reg n } ]
with_word f (Some i) Done = f
with_word f (Some i) Waits = f
with_word f (Some i) (No refusal) = f
with_word f None reply = f

-- the reply is a refusal
abbrev pub is_refusal : Reply → Bool
is_refusal Done = false
is_refusal (Word n) = false
is_refusal Waits = false
is_refusal (No refusal) = true

-- the frame behind a call
abbrev pub behind : WorldValue → Frame → Reply → Frame
behind w f reply =
    let here = slice_get (steps_of w f.code) f.at in
    record (with_word f here reply) {
      at = if nat_lt f.at (length (steps_of w f.code)) then f.at + 1 else f.at;
      refused = is_refusal reply;
    }

-- the frames after a call: an entered procedure gets one, and a return takes one away
abbrev pub frames_after : Call → Reply → Option ℕ → Context → Context
frames_after c reply (Some code) frames = new_frame code ∷ frames
frames_after (call.Leave give) Done None (f ∷ rest) = rest
frames_after _ reply None frames = frames

-- the context for the next turn, after a call was answered
unfoldable pub after : WorldValue → Context → Call → Reply → Option ℕ → Context
after w [] c reply code = []
after w (f ∷ rest) c reply code = frames_after c reply code (behind w f reply ∷ rest)
