-- What an instruction means, by its kind. docs/RULES.md, "Control of a process".
use Rattle.std.specs.Prelude.{Bool, true, false}
use Rattle.hk_model.specs.declared.frames.Frame.{Frame}
use Rattle.hk_model.specs.declared.frames.Todo.{Todo}
use Rattle.hk_model.specs.declared.frames.Todo.TheVariants.{Do, Halt}
use Rattle.hk_model.specs.declared.instructions.Instr.{Instr}
use Rattle.hk_model.specs.declared.instructions.Instr.TheVariants as instr
use Rattle.hk_model.specs.Control.{Meaning, Calls, Local}

-- whether it is local
abbrev pub is_local : Meaning → Bool
is_local (Calls c) = false
is_local (Local f) = true

-- the frame that it leaves: a call leaves the frame as it was
abbrev pub left_by : Frame → Meaning → Frame
left_by f (Calls c) = f
left_by f (Local g) = g

-- what is next where no more local instructions may be run
abbrev pub todo_in : Meaning → Todo
todo_in (Calls c) = Do c
todo_in (Local f) = Halt

-- the calls that read and write words, and look at entries
abbrev pub is_word_call : Instr → Bool
is_word_call (instr.Get of at reg) = true
is_word_call (instr.Put of at word) = true
is_word_call (instr.Add of word) = true
is_word_call (instr.Length of reg) = true
is_word_call (instr.Look of reg) = true
is_word_call _ = false

-- the calls that move entries
abbrev pub is_list_call : Instr → Bool
is_list_call (instr.Load from into) = true
is_list_call (instr.Store list at from) = true
is_list_call (instr.Append list from) = true
is_list_call (instr.Erase list at) = true
is_list_call (instr.Drop slot) = true
is_list_call (instr.Restrict slot keep) = true
is_list_call _ = false

-- the calls that make templates, objects and capabilities
abbrev pub is_object_call : Instr → Bool
is_object_call (instr.MakeTemplate of kind into) = true
is_object_call (instr.Create by into) = true
is_object_call (instr.Merge with cap into) = true
is_object_call (instr.Copy of into) = true
is_object_call _ = false
