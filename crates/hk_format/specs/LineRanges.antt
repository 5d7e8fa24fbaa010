-- The lines that have a text: the ranges of their numbers. docs/FORMATS.md, "Audit lines and records".
use Rattle.std.specs.Prelude.{ℕ, ◌<◌, ◌≤◌, List, length, Option, Some, None, IsTrue}
use Rattle.std.specs.List.{AllByRecursion}
use Rattle.hk_rights.specs.Rights.{IsRightsWord, is_right}
use Rattle.hk_model.specs.declared.names.Slot.{Slot}
use Rattle.hk_model.specs.declared.calls.Call.{Call}
use Rattle.hk_model.specs.declared.calls.Call.TheVariants as call
use Rattle.hk_model.specs.declared.calls.Refusal.{Refusal}
use Rattle.hk_model.specs.declared.calls.Refusal.TheVariants as refused
use Rattle.hk_model.specs.declared.calls.Reply.{Reply}
use Rattle.hk_model.specs.declared.calls.Reply.TheVariants as reply
use Rattle.hk_model.specs.declared.lines.What.{What}
use Rattle.hk_model.specs.declared.lines.What.TheVariants as what
use Rattle.hk_model.specs.declared.lines.Line.{Line}
use Rattle.hk_model.specs.Limits.{argument_limit, path_limit, index_bound, slot_bound, step_bound, cpu_limit, process_limit, inc_bound}
use Rattle.hk_model.specs.WorldValue.{IsWord32, IsMaking}

-- one to eight indices
abbrev pub IsPathValue : List ℕ → Type 0
IsPathValue path = (0 < length path) × (length path ≤ path_limit) × AllByRecursion (λ index. index < index_bound) path

-- a slot of a call, which may be such that the call is refused
abbrev pub IsAnySlot : Slot → Type 0
IsAnySlot slot = slot.0 < slot_bound

-- a slot of a call, if there is one
abbrev pub IsAnySlotOrNone : Option Slot → Type 0
IsAnySlotOrNone None = Unit {0}
IsAnySlotOrNone (Some slot) = IsAnySlot slot

-- at most eight slots, the arguments of a call
abbrev pub AreAnySlots : List ℕ → Type 0
AreAnySlots args = (length args ≤ argument_limit) × AllByRecursion (λ slot. slot < slot_bound) args

-- a call, in the order of its operands
abbrev pub IsCall : Call → Type 0
IsCall (call.Get of at) = IsPathValue of × IsWord32 at
IsCall (call.Put of at word) = IsPathValue of × IsWord32 at × IsWord32 word
IsCall (call.Add of word) = IsPathValue of × IsWord32 word
IsCall (call.Length of) = IsPathValue of
IsCall (call.Load from into) = IsPathValue from × IsAnySlot into
IsCall (call.Store list at from) = IsPathValue list × IsWord32 at × IsAnySlot from
IsCall (call.Append list from) = IsPathValue list × IsAnySlot from
IsCall (call.Erase list at) = IsPathValue list × IsWord32 at
IsCall (call.Drop slot) = IsAnySlot slot
IsCall (call.Restrict slot keep) = IsAnySlot slot × IsRightsWord keep
IsCall (call.Look of) = IsPathValue of
IsCall (call.MakeTemplate of kind into) = IsPathValue of × IsMaking kind × IsAnySlot into
IsCall (call.Create by into) = IsPathValue by × IsAnySlot into
IsCall (call.Merge with cap into) = IsPathValue with × IsAnySlot cap × IsAnySlot into
IsCall (call.Copy of into) = IsPathValue of × IsAnySlot into
IsCall (call.Enter proc args into) = IsPathValue proc × AreAnySlots args × IsAnySlot into
IsCall (call.Leave give) = IsAnySlotOrNone give
IsCall (call.P of) = IsPathValue of
IsCall (call.V of) = IsPathValue of
IsCall call.Yield = Unit {0}

-- what happened
abbrev pub IsWhat : What → Type 0
IsWhat what.Dispatch = Unit {0}
IsWhat (what.Call c) = IsCall c
IsWhat what.Halt = Unit {0}

-- the step of a refusal
abbrev pub IsStep : ℕ → Type 0
IsStep step = step < step_bound

-- a refusal: its step, and a right that there is
abbrev pub IsRefusal : Refusal → Type 0
IsRefusal (refused.Range step) = IsStep step
IsRefusal (refused.Empty step) = IsStep step
IsRefusal (refused.NotCap step) = IsStep step
IsRefusal (refused.Denied step right) = IsStep step × IsTrue (is_right right)
IsRefusal (refused.WrongType step) = IsStep step
IsRefusal (refused.BadTemplate step) = IsStep step
IsRefusal refused.Count = Unit {0}
IsRefusal (refused.Full kind) = Unit {0}
IsRefusal refused.Deep = Unit {0}

-- a reply
abbrev pub IsReply : Reply → Type 0
IsReply reply.Done = Unit {0}
IsReply (reply.Word n) = IsWord32 n
IsReply reply.Waits = Unit {0}
IsReply (reply.No refusal) = IsRefusal refusal

-- a line that has a text: any event with any reply, whether or not a run can show it
pub record IsLine (line : Line) : Type 0 where
  pub cpu : line.cpu.0 < cpu_limit
  pub proc : line.proc.0 < process_limit
  pub inc : line.inc.0 < inc_bound
  pub what : IsWhat line.what
  pub reply : IsReply line.reply
