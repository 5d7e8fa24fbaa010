-- A small world in which a process reads a word and ends, and the lines of its run: for rows on records and verdicts.
use Rattle.std.specs.Prelude.{ℕ, List, [], ◌∷◌, codes, None}
use Rattle.hk_model.specs.declared.entries.Entry.TheVariants.{Held}
use Rattle.hk_model.specs.declared.instructions.Index.TheVariants.{Fixed}
use Rattle.hk_model.specs.declared.instructions.Instr.TheVariants as instr
use Rattle.hk_model.specs.declared.instructions.Operand.TheVariants as operand
use Rattle.hk_model.specs.declared.world.Kind.TheVariants as kind
use Rattle.hk_model.specs.declared.calls.Call.TheVariants as call
use Rattle.hk_model.specs.declared.calls.Reply.{Reply}
use Rattle.hk_model.specs.declared.calls.Reply.TheVariants as reply
use Rattle.hk_model.specs.declared.lines.What.{What}
use Rattle.hk_model.specs.declared.lines.What.TheVariants as what
use Rattle.hk_model.specs.declared.lines.Line.{Line}
use Rattle.hk_model.specs.WorldValue.{WorldValue, world_value}

abbrev pub line : ℕ → ℕ → ℕ → What → Reply → Line
line cpu proc inc event answer = record { cpu = record { 0 = cpu }; proc = record { 0 = proc }; inc = record { 0 = inc }; what = event; reply = answer }

-- a process that reads a word
abbrev pub reading : WorldValue
reading = world_value 10000
    (record { label = codes "d"; kind = kind.Plain (record { 0 = 1 }) (7 ∷ []) [] } ∷ [])
    (record { label = codes "main"; steps = instr.Get (record { at = Fixed 0 ∷ [] }) (operand.Number 0) 0 ∷ [] } ∷ [])
    (record { label = codes "a"; code = 0; slots = Held (record { name = record { 0 = 7 }; rights = 1 }) ∷ [] } ∷ [])

abbrev pub reading_lines : List Line
reading_lines =
    line 0 0 0 what.Dispatch reply.Done
    ∷ line 0 0 0 (what.Call (call.Get (0 ∷ []) 0)) (reply.Word 7)
    ∷ line 0 0 0 (what.Call (call.Leave None)) reply.Done
    ∷ []
