-- The world that bytes spell, or the line and cause that come first: all lines pass the text check before any is parsed,
-- and all are parsed before any is loaded. docs/FORMATS.md, "Text", "Grammar" and "Loading".
use Rattle.std.specs.Prelude.{ℕ, List, Result, Ok, Err}
use Rattle.hk_format.specs.declared.syntax.Item.{Item}
use Rattle.hk_format.specs.declared.causes.Cause.{Cause}
use Rattle.hk_format.specs.declared.causes.Cause.TheVariants.{OfText, OfParse, OfLoad}
use Rattle.hk_format.specs.Texts.{Lines, lines_of, text_lines}
use Rattle.hk_format.specs.Grammar.{script}
use Rattle.hk_format.specs.Loading.{load}
use Rattle.hk_model.specs.WorldValue.{WorldValue}

-- a line and its cause
abbrev pub Refused : Type 0
Refused = ℕ × Cause

-- a pass, whose refusal is one of the whole, and then the next
abbrev pub pass : {A B C : Type 0} → (C → Cause) → Result A (ℕ × C) → (A → Result B Refused) → Result B Refused
pass as_cause (Ok x) next = next x
pass as_cause (Err refused) next = Err (refused.0, as_cause refused.1)

-- the last pass
abbrev pub last_pass : List Item → Result WorldValue Refused
last_pass items = pass OfLoad (load items) Ok

-- the second pass, and the last
abbrev pub parsed : Lines → Result WorldValue Refused
parsed lines = pass OfParse (script lines) last_pass

-- the world of the lines of a script, the first of which is number 1
abbrev pub world_of : List (List ℕ) → Result WorldValue Refused
world_of lines = pass OfText (text_lines 1 lines) parsed

-- the world of a script
unfoldable pub world : List ℕ → Result WorldValue Refused
world bytes = world_of (lines_of bytes)
