-- What an instruction's line says: each line of a definition reads one piece, from the left. docs/FORMATS.md, "Grammar" and
-- "Texts of calls".
use Rattle.std.specs.Prelude.{ℕ, List, [], ◌∷◌}
use Rattle.hk_model.specs.declared.instructions.Route.{Route}
use Rattle.hk_format.specs.declared.syntax.Verb.{Verb}
use Rattle.hk_format.specs.declared.syntax.Verb.TheVariants as verb
use Rattle.hk_format.specs.declared.syntax.MakingText.{MakingText}
use Rattle.hk_format.specs.declared.syntax.MakingText.TheVariants as making
use Rattle.hk_format.specs.declared.syntax.Written.{Written}
use Rattle.hk_format.specs.declared.syntax.Written.TheVariants as written
use Rattle.hk_model.specs.Limits.{argument_limit, slot_limit}
use Rattle.hk_format.specs.Reading.{Reads, ◌>>=◌, wanted, optional, at_most, end, unknown}
use Rattle.hk_format.specs.Forms.{as_verb, as_word, as_rights, as_slot, as_number_below, slot_numbered, as_register, as_operand, as_route}

-- of a list of one at least: all but its last, and the last

-- all items but the last
abbrev pub before_last : ℕ → List ℕ → List ℕ
before_last x [] = []
before_last x (y ∷ ys) = x ∷ before_last y ys

-- the last item
abbrev pub last_of : ℕ → List ℕ → ℕ
last_of x [] = x
last_of x (y ∷ ys) = last_of y ys

-- the slot behind the rights of a template, and the end of the line
abbrev pub template_end : Route → MakingText → Reads Written
template_end of kind = do
  into ← wanted as_slot
  end (written.MakeTemplate of kind into)

-- `amplify CHECK GIVE INTO` or `create GIVE INTO`, behind the path
abbrev pub template_of : Route → Verb → Reads Written
template_of of verb.Amplify = do
  check ← wanted as_rights
  give ← wanted as_rights
  template_end of (making.Amplify check give)
template_of of verb.Create = do
  give ← wanted as_rights
  template_end of (making.Create give)
template_of of _ = unknown

-- the instruction that begins with this word
abbrev pub instruction_of : Verb → Reads Written
instruction_of verb.GetData = do
  of ← wanted as_route
  at ← wanted as_operand
  reg ← wanted as_register
  end (written.Get of at reg)
instruction_of verb.PutData = do
  of ← wanted as_route
  at ← wanted as_operand
  word ← wanted as_operand
  end (written.Put of at word)
instruction_of verb.AddData = do
  of ← wanted as_route
  word ← wanted as_operand
  end (written.Add of word)
instruction_of verb.Length = do
  of ← wanted as_route
  reg ← wanted as_register
  end (written.Length of reg)
instruction_of verb.Load = do
  from ← wanted as_route
  into ← wanted as_slot
  end (written.Load from into)
instruction_of verb.Store = do
  list ← wanted as_route
  at ← wanted as_operand
  from ← wanted as_slot
  end (written.Store list at from)
instruction_of verb.Append = do
  list ← wanted as_route
  from ← wanted as_slot
  end (written.Append list from)
instruction_of verb.Erase = do
  list ← wanted as_route
  at ← wanted as_operand
  end (written.Erase list at)
instruction_of verb.Drop = do
  slot ← wanted as_slot
  end (written.Drop slot)
instruction_of verb.Restrict = do
  slot ← wanted as_slot
  keep ← wanted as_rights
  end (written.Restrict slot keep)
instruction_of verb.Look = do
  of ← wanted as_route
  reg ← wanted as_register
  end (written.Look of reg)
instruction_of verb.Template = do
  of ← wanted as_route
  kind ← wanted as_verb
  template_of of kind
instruction_of verb.Create = do
  by ← wanted as_route
  into ← wanted as_slot
  end (written.Create by into)
instruction_of verb.Merge = do
  with ← wanted as_route
  cap ← wanted as_slot
  into ← wanted as_slot
  end (written.Merge with cap into)
instruction_of verb.Copy = do
  of ← wanted as_route
  into ← wanted as_slot
  end (written.Copy of into)
instruction_of verb.Call = do
  proc ← wanted as_route
  first ← wanted (as_number_below slot_limit)
  more ← at_most argument_limit (as_number_below slot_limit)
  end (written.Enter proc (before_last first more) (slot_numbered (last_of first more)))
instruction_of verb.Return = do
  give ← optional as_slot
  end (written.Leave give)
instruction_of verb.P = do
  of ← wanted as_route
  end (written.P of)
instruction_of verb.V = do
  of ← wanted as_route
  end (written.V of)
instruction_of verb.Yield = end written.Yield
instruction_of verb.Set = do
  reg ← wanted as_register
  to ← wanted as_operand
  end (written.SetReg reg to)
instruction_of verb.Add = do
  reg ← wanted as_register
  by ← wanted as_operand
  end (written.AddReg reg by)
instruction_of verb.Goto = do
  to ← wanted as_word
  end (written.Goto to)
instruction_of verb.IfEq = do
  left ← wanted as_operand
  right ← wanted as_operand
  to ← wanted as_word
  end (written.IfEq left right to)
instruction_of verb.IfLess = do
  left ← wanted as_operand
  right ← wanted as_operand
  to ← wanted as_word
  end (written.IfLess left right to)
instruction_of verb.IfDenied = do
  to ← wanted as_word
  end (written.IfDenied to)
instruction_of _ = unknown
