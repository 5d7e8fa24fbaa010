-- Where jumps go. docs/FORMATS.md, "Loading".
use Rattle.std.specs.Prelude.{ℕ, Option, Some, None}
use Rattle.hk_model.specs.declared.instructions.Instr.{Instr}
use Rattle.hk_model.specs.declared.instructions.Instr.TheVariants as instr

-- the number of the instruction that a jump goes to; other instructions go nowhere
abbrev pub target_of : Instr → Option ℕ
target_of (instr.Goto to) = Some to
target_of (instr.IfEq left right to) = Some to
target_of (instr.IfLess left right to) = Some to
target_of (instr.IfDenied to) = Some to
target_of _ = None
