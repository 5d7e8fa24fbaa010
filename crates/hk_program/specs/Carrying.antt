-- What is next for a process, carried out. docs/RULES.md, "Steps of processors".
use Rattle.std.specs.Prelude.{Bool, false}
use Rattle.hk_model.specs.declared.calls.Call.{Call}
use Rattle.hk_model.specs.declared.frames.Todo.{Todo}
use Rattle.hk_model.specs.declared.frames.Todo.TheVariants as todo

-- a call that may want memory
abbrev pub may_want : (Call → Bool) → Todo → Bool
may_want wants (todo.Do c) = wants c
may_want wants todo.Halt = false
