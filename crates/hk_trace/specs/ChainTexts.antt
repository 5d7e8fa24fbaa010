-- The chains of what a line used as text. docs/FORMATS.md, "Statuses and outputs".
use Rattle.std.specs.Prelude.{ℕ, ◌-◌, List, [], ◌∷◌, ◌++◌, length, codes, slice_get, Option, Some, None}
use Rattle.std.specs.List.{flat_map}
use Rattle.std.specs.Fmt.{decimal}
use Rattle.hk_model.specs.declared.lines.Line.{Line}
use Rattle.hk_model.specs.declared.lines.What.{What}
use Rattle.hk_format.specs.AuditLines.{what_pieces}
use Rattle.hk_format.specs.EntryTexts.{by_number, entry_text}
use Rattle.hk_format.specs.Pieces.{Piece, spell}
use Rattle.hk_format.specs.Texts.{ended_line}
use Rattle.hk_trace.specs.declared.chains.Place.{Place}
use Rattle.hk_trace.specs.declared.chains.Place.TheVariants.{SlotOf, EntryOf}
use Rattle.hk_trace.specs.declared.chains.Standing.{Standing}
use Rattle.hk_trace.specs.declared.chains.Link.{Link}
use Rattle.hk_trace.specs.declared.chains.Origin.{Origin}
use Rattle.hk_trace.specs.declared.chains.Origin.TheVariants.{Opening, Made}
use Rattle.hk_trace.specs.declared.chains.Chain.{Chain}

-- `slot INC S` or `entry NAME I`
abbrev pub place_text : Place → List ℕ
place_text (SlotOf inc slot) = codes "slot " ++ decimal inc.0 ++ codes " " ++ decimal slot.0
place_text (EntryOf name index) = codes "entry " ++ decimal name.0 ++ codes " " ++ decimal index

-- a place, and what stands there
abbrev pub standing_text : Standing → List ℕ
standing_text at = place_text at.place ++ codes " " ++ entry_text by_number at.entry

-- the first word of what a line tells
abbrev pub first_word : List Piece → List ℕ
first_word [] = []
first_word (piece ∷ pieces) = spell piece

abbrev pub word_of : What → List ℕ
word_of what = first_word (what_pieces what)

-- of the line of a number, counted from 1
abbrev pub word_told : Option Line → List ℕ
word_told None = []
word_told (Some line) = word_of line.what

abbrev pub word_at : List Line → ℕ → List ℕ
word_at lines number = word_told (slice_get lines (number - 1))

-- `LINE WORD PLACE CONTENT`
abbrev pub link_text : List Line → Link → List ℕ
link_text lines link = ended_line (decimal link.line ++ codes " " ++ word_at lines link.line ++ codes " " ++ standing_text link.from)

-- `opening` or `made LINE`
abbrev pub origin_text : Origin → List ℕ
origin_text Opening = codes "opening"
origin_text (Made line) = codes "made " ++ decimal line

-- `step K PLACE CONTENT`, the links from the latest back, and where the chain ends
abbrev pub chain_text : List Line → Chain → List ℕ
chain_text lines chain =
    ended_line (codes "step " ++ decimal chain.step ++ codes " " ++ standing_text chain.at)
    ++ (flat_map (link_text lines) chain.links ++ ended_line (origin_text chain.origin))

-- all chains, and how many there are
abbrev pub chains_text : List Line → List Chain → List ℕ
chains_text lines chains = flat_map (chain_text lines) chains ++ ended_line (codes "steps " ++ decimal (length chains))
