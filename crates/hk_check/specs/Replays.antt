-- A record that is gone over line by line. docs/FORMATS.md, "Legal records".
use Rattle.std.specs.Prelude.{◌≡◌, List}
use Rattle.hk_model.specs.declared.lines.Line.{Line}
use Rattle.hk_model.specs.WorldValue.{WorldValue}
use Rattle.hk_model.specs.Running.{Machine, AreStepsOf, after_lines, opened}
use Rattle.hk_program.specs.Machines.{IsSound}

-- these lines are steps, and lead to this machine
pub record IsReplay (w : WorldValue) (lines : List Line) (m : Machine) : Type 0 where
  pub steps : AreStepsOf w lines
  pub is : m ≡ after_lines w (opened w) lines
  pub sound : IsSound w m
