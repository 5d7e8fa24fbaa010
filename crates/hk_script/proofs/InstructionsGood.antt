-- What an instruction's line gives is in form and in range.
use Rattle.std.proofs.Common.{ℕ, ◌<◌, ◌≤◌, List, [], ◌∷◌, length, arith, Some, None, Option}
use Rattle.std.specs.List.{AllByRecursion}
use Rattle.hk_model.specs.declared.names.Slot.{Slot}
use Rattle.hk_model.specs.declared.instructions.Route.{Route}
use Rattle.hk_format.specs.declared.syntax.Verb.{Verb}
use Rattle.hk_format.specs.declared.syntax.Verb.TheVariants as verb
use Rattle.hk_format.specs.declared.syntax.MakingText.{MakingText}
use Rattle.hk_format.specs.declared.syntax.MakingText.TheVariants as making
use Rattle.hk_format.specs.declared.syntax.Written.{Written}
use Rattle.hk_format.specs.declared.syntax.Written.TheVariants as written
use Rattle.hk_model.specs.Limits.{argument_limit, slot_limit}
use Rattle.hk_model.specs.WorldValue.{IsSlot, IsSlotOrNone, IsReg, IsOperand, IsRoute}
use Rattle.hk_format.specs.Reading.{Reads, ◌>>=◌, wanted, end}
use Rattle.hk_format.specs.Forms.{as_slot, as_number_below, slot_numbered, as_route}
use Rattle.hk_format.specs.WrittenLines.{before_last, last_of, template_end, template_of, instruction_of}
use Rattle.hk_format.specs.Syntax.{IsWordText, IsRightsText, IsMakingText, IsWritten}
use Rattle.hk_script.proofs.ReadersGood.{Good, Any, IsBelow, AtMost, IfSome, bind_good, end_good, unknown_good, takes, optional_good, at_most_good, verb_forms, word_forms}
use Rattle.hk_script.proofs.ReadersGood.{rights_forms, number_below_forms, slot_forms, register_forms, operand_forms, route_forms}

-- the instruction, at the end of its line
ends : (i : Written) → IsWritten i → Good IsWritten (end i)
ends i h = end_good IsWritten i h

-- the slots of a call: its arguments, and the last
slots_good : (first : ℕ) (more : List ℕ) → first < 64 → AllByRecursion (IsBelow 64) more
    → (length (before_last first more) ≤ length more) × AllByRecursion (λ slot. slot < 64) (before_last first more) × (last_of first more < 64)
slots_good first [] h k = (omega arith, tt, h)
slots_good first (next ∷ more) h k =
    let rest = slots_good next more k.0 k.1 in
    (omega (arith, rest.0), (h, rest.1), rest.2)

call_good : (proc : Route) (first : ℕ) (more : List ℕ) → IsRoute proc → IsBelow slot_limit first → AtMost argument_limit (IsBelow slot_limit) more
    → IsWritten (written.Enter proc (before_last first more) (slot_numbered (last_of first more)))
call_good proc first more h k m =
    let slots = slots_good first more k m.1 in
    (h, (omega (arith, slots.0, m.0), slots.1), slots.2)

leave_good : (give : Option Slot) → IfSome IsSlot give → IsSlotOrNone give
leave_good None h = tt
leave_good (Some slot) h = h

template_end_good : (of : Route) (kind : MakingText) → IsRoute of → IsMakingText kind → Good IsWritten (template_end of kind)
template_end_good of kind h k = takes IsSlot IsWritten _ _ slot_forms (λ into a. ends (written.MakeTemplate of kind into) (h, k, a))

template_good : (of : Route) (v : Verb) → IsRoute of → Good IsWritten (template_of of v)
template_good of verb.Amplify h =
    takes IsRightsText IsWritten _ _ rights_forms (λ check a. takes IsRightsText IsWritten _ _ rights_forms (λ give b. template_end_good of (making.Amplify check give) h (a, b)))
template_good of verb.Create h = takes IsRightsText IsWritten _ _ rights_forms (λ give a. template_end_good of (making.Create give) h a)
template_good of _ h = unknown_good IsWritten

-- a path first
on_route : (f : Route → Reads Written) → ((of : Route) → IsRoute of → Good IsWritten (f of)) → Good IsWritten (wanted as_route >>= f)
on_route f next = takes IsRoute IsWritten _ f route_forms next

pub instruction_good : (v : Verb) → Good IsWritten (instruction_of v)
instruction_good verb.GetData =
    on_route _ (λ of a. takes IsOperand IsWritten _ _ operand_forms (λ at b. takes IsReg IsWritten _ _ register_forms (λ reg c. ends (written.Get of at reg) (a, b, c))))
instruction_good verb.PutData =
    on_route _ (λ of a. takes IsOperand IsWritten _ _ operand_forms (λ at b. takes IsOperand IsWritten _ _ operand_forms (λ word c. ends (written.Put of at word) (a, b, c))))
instruction_good verb.AddData = on_route _ (λ of a. takes IsOperand IsWritten _ _ operand_forms (λ word b. ends (written.Add of word) (a, b)))
instruction_good verb.Length = on_route _ (λ of a. takes IsReg IsWritten _ _ register_forms (λ reg b. ends (written.Length of reg) (a, b)))
instruction_good verb.Load = on_route _ (λ from a. takes IsSlot IsWritten _ _ slot_forms (λ into b. ends (written.Load from into) (a, b)))
instruction_good verb.Store =
    on_route _ (λ list a. takes IsOperand IsWritten _ _ operand_forms (λ at b. takes IsSlot IsWritten _ _ slot_forms (λ from c. ends (written.Store list at from) (a, b, c))))
instruction_good verb.Append = on_route _ (λ list a. takes IsSlot IsWritten _ _ slot_forms (λ from b. ends (written.Append list from) (a, b)))
instruction_good verb.Erase = on_route _ (λ list a. takes IsOperand IsWritten _ _ operand_forms (λ at b. ends (written.Erase list at) (a, b)))
instruction_good verb.Drop = takes IsSlot IsWritten _ _ slot_forms (λ slot a. ends (written.Drop slot) a)
instruction_good verb.Restrict =
    takes IsSlot IsWritten _ _ slot_forms (λ slot a. takes IsRightsText IsWritten _ _ rights_forms (λ keep b. ends (written.Restrict slot keep) (a, b)))
instruction_good verb.Look = on_route _ (λ of a. takes IsReg IsWritten _ _ register_forms (λ reg b. ends (written.Look of reg) (a, b)))
instruction_good verb.Template = on_route _ (λ of a. takes Any IsWritten _ _ verb_forms (λ kind b. template_good of kind a))
instruction_good verb.Create = on_route _ (λ by a. takes IsSlot IsWritten _ _ slot_forms (λ into b. ends (written.Create by into) (a, b)))
instruction_good verb.Merge =
    on_route _ (λ with a. takes IsSlot IsWritten _ _ slot_forms (λ cap b. takes IsSlot IsWritten _ _ slot_forms (λ into c. ends (written.Merge with cap into) (a, b, c))))
instruction_good verb.Copy = on_route _ (λ of a. takes IsSlot IsWritten _ _ slot_forms (λ into b. ends (written.Copy of into) (a, b)))
instruction_good verb.Call =
    on_route _ (λ proc a. takes (IsBelow slot_limit) IsWritten _ _ (number_below_forms slot_limit)
    (λ first b. bind_good (AtMost argument_limit (IsBelow slot_limit)) IsWritten _ _ (at_most_good argument_limit (IsBelow slot_limit) (as_number_below slot_limit)
    (number_below_forms slot_limit)) (λ more c. ends (written.Enter proc (before_last first more) (slot_numbered (last_of first more))) (call_good proc first more a b c))))
instruction_good verb.Return = bind_good (IfSome IsSlot) IsWritten _ _ (optional_good IsSlot as_slot slot_forms) (λ give a. ends (written.Leave give) (leave_good give a))
instruction_good verb.P = on_route _ (λ of a. ends (written.P of) a)
instruction_good verb.V = on_route _ (λ of a. ends (written.V of) a)
instruction_good verb.Yield = ends written.Yield tt
instruction_good verb.Set = takes IsReg IsWritten _ _ register_forms (λ reg a. takes IsOperand IsWritten _ _ operand_forms (λ to b. ends (written.SetReg reg to) (a, b)))
instruction_good verb.Add = takes IsReg IsWritten _ _ register_forms (λ reg a. takes IsOperand IsWritten _ _ operand_forms (λ by b. ends (written.AddReg reg by) (a, b)))
instruction_good verb.Goto = takes IsWordText IsWritten _ _ word_forms (λ to a. ends (written.Goto to) a)
instruction_good verb.IfEq =
    takes IsOperand IsWritten _ _ operand_forms (λ left a. takes IsOperand IsWritten _ _ operand_forms
    (λ right b. takes IsWordText IsWritten _ _ word_forms (λ to c. ends (written.IfEq left right to) (a, b, c))))
instruction_good verb.IfLess =
    takes IsOperand IsWritten _ _ operand_forms (λ left a. takes IsOperand IsWritten _ _ operand_forms
    (λ right b. takes IsWordText IsWritten _ _ word_forms (λ to c. ends (written.IfLess left right to) (a, b, c))))
instruction_good verb.IfDenied = takes IsWordText IsWritten _ _ word_forms (λ to a. ends (written.IfDenied to) a)
instruction_good _ = unknown_good IsWritten
