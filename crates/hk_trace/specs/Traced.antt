-- Where the capabilities and templates that a line used came from. docs/RULES.md, "Traced descent".
use Rattle.std.specs.Prelude.{ℕ, zero, suc, List, [], map, take, slice_get, Option, Some, None}
use Rattle.hk_model.specs.declared.lines.Line.{Line}
use Rattle.hk_model.specs.WorldValue.{WorldValue}
use Rattle.hk_model.specs.Running.{state_after}
use Rattle.hk_model.specs.Descent.{chains}
use Rattle.hk_trace.specs.declared.chains.Chain.{Chain}
use Rattle.hk_trace.specs.Told.{told_standing, told_chain}
use Rattle.hk_trace.specs.Used.{Looked, used}

-- the chain of a place that was used behind these lines
abbrev pub chain_after : WorldValue → List Line → Looked → Chain
chain_after w before l = told_chain l.step (told_standing (state_after w before) l.place) (chains w before l.place)

-- the chains of what a line used that stands behind these lines
abbrev pub traced : WorldValue → List Line → Option Line → List Chain
traced w before None = []
traced w before (Some line) = map (chain_after w before) (used (state_after w before) line)

-- the chains of the line of a number, counted from 1, at the moment before it; a line that is not there has none
abbrev pub trace_of : WorldValue → List Line → ℕ → List Chain
trace_of w lines zero = []
trace_of w lines (suc before) = traced w (take before lines) (slice_get lines before)
