-- How far a script was read, and what the lines behind give. docs/FORMATS.md, "Grammar".
use Rattle.std.specs.Prelude.{ℕ, Bool, true, false, List, [], ◌∷◌, Option, Some, None, Result, Ok, Err}
use Rattle.hk_format.specs.declared.causes.ParseCause.TheVariants.{Missing}
use Rattle.hk_format.specs.declared.causes.TextCause.{TextCause}
use Rattle.hk_format.specs.declared.causes.Cause.{Cause}
use Rattle.hk_format.specs.declared.causes.Cause.TheVariants.{OfText, OfParse}
use Rattle.hk_format.specs.declared.syntax.Item.{Item}
use Rattle.hk_format.specs.Texts.{Lines, text}
use Rattle.hk_format.specs.Grammar.{Read, Refused, header, after_header, items_from, script}
use Rattle.hk_format.specs.Worlds.{pass}
use Rattle.hk_script.specs.declared.progress.Progress.{Progress}
use Rattle.hk_script.specs.declared.progress.Refusal.{Refusal}
use Rattle.hk_script.specs.Given.{HasNames}
use Rattle.hk_script.specs.Readings.{read_of}

-- the items of these lines, behind others; the first of all is the header
abbrev pub lines_behind : Bool → Read → Lines → Result (List Item) Refused
lines_behind true r ls = items_from ls r
lines_behind false r [] = Err (1, Missing)
lines_behind false r (l ∷ ls) = after_header l.0 (header l.1) (items_from ls r)

-- the first line that was refused counts, if there is one
abbrev pub unless_refused : Option Refusal → Result (List Item) Refused → Result (List Item) Refused
unless_refused (Some refusal) given = Err (refusal.line, refusal.cause)
unless_refused None given = given

-- the items, where these lines are still to come
abbrev pub items_after : Progress → Lines → Result (List Item) Refused
items_after progress ls = unless_refused progress.refused (lines_behind progress.begun (read_of progress.reading) ls)

-- the names are those of the heads, unless a line was refused
abbrev pub HasNamesUnless : Option Refusal → Read → Type 0
HasNamesUnless (Some refusal) r = Unit {0}
HasNamesUnless None r = HasNames r

-- the names that are kept are those of the heads that were read, unless a line was refused
abbrev pub KeepsNames : Progress → Type 0
KeepsNames progress = HasNamesUnless progress.refused (read_of progress.reading)

-- all lines pass the text check before any refusal of the grammar counts
abbrev pub checked : Result Lines (ℕ × TextCause) → (Lines → Result (List Item) Refused) → Result (List Item) (ℕ × Cause)
checked lines parse = pass OfText lines (λ ls. pass OfParse (parse ls) Ok)

-- the items of a source, or the first line that is refused by the text check, or else by the grammar
abbrev pub source_items : List ℕ → Result (List Item) (ℕ × Cause)
source_items source = checked (text source) script
