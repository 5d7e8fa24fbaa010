-- Worlds whose runs on one processor come to their end. docs/FORMATS.md, "Generated worlds".
use Rattle.std.specs.Prelude.{◌≡◌, List, Some, None, All}
use Rattle.hk_model.specs.declared.names.Cpu.{Cpu}
use Rattle.hk_model.specs.declared.lines.Line.{Line}
use Rattle.hk_model.specs.declared.lines.End.TheVariants as end
use Rattle.hk_model.specs.WorldValue.{WorldValue}
use Rattle.hk_model.specs.Running.{AreStepsOf, opened, step, after_lines, state_after}
use Rattle.hk_model.specs.Legal.{end_word}

-- the processor that runs a world alone
abbrev pub first_processor : Cpu
first_processor = record { 0 = 0 }

-- where processor 0 alone has made steps of the world, and has no step behind them, every process has ended
abbrev pub WholeRunsEnd : WorldValue → Type 0
WholeRunsEnd w = (lines : List Line) → AreStepsOf w lines → All (λ (line : Line). line.cpu ≡ first_processor) lines
    → step w (after_lines w (opened w) lines) first_processor ≡ None → end_word (state_after w lines) ≡ Some end.Done
