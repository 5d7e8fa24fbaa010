-- What was read of a script, as the grammar has it. docs/FORMATS.md, "Grammar".
use Rattle.std.specs.Prelude.{◌≡◌, ℕ, Bool, not, List, [], ◌∷◌, ◌++◌, Option, Some, None, Result, Ok, Err, false, true, if◌then◌else◌}
use Rattle.hk_format.specs.declared.causes.ParseCause.{ParseCause}
use Rattle.hk_format.specs.declared.causes.ParseCause.TheVariants.{Repeated}
use Rattle.hk_format.specs.declared.syntax.Head.{Head}
use Rattle.hk_format.specs.declared.syntax.Body.{Body}
use Rattle.hk_format.specs.declared.syntax.Item.{Item}
use Rattle.hk_format.specs.Grammar.{Read, Open, Refused, is_new, noted, is_new_label, noted_label, with_part, between_items, in_item}
use Rattle.hk_format.specs.Outcomes.{Fails}
use Rattle.hk_format.specs.declared.errors.ReadError.{ReadError}
use Rattle.hk_format.specs.declared.errors.ReadError.TheVariants as parse_error
use Rattle.hk_format.specs.declared.errors.LineError.{LineError}
use Rattle.hk_format.specs.declared.errors.LineError.TheVariants as line_error
use Rattle.hk_script.specs.declared.reading.Opened.{Opened}
use Rattle.hk_script.specs.declared.reading.Reading.{Reading}

-- an open item, and the labels that it has given
abbrev pub open_of : Opened → Open
open_of o = record { item = o.item; labels = o.labels }

-- the same where there is one
abbrev pub option_open : Option Opened → Option Open
option_open None = None
option_open (Some o) = Some (open_of o)

-- what was read
abbrev pub read_of : Reading → Read
read_of r = record { items = r.items; seen = record { names = r.names; limited = r.limited }; unclosed = option_open r.unclosed }

-- what a head gives was kept, or it is no new head, or memory was wanting
abbrev pub MatchNew : Result (Unit {0}) (LineError ParseCause) → Read → Read → Head → Type 0
MatchNew (Ok x) new old head = (is_new old.seen head ≡ true) × (new ≡ record old { seen = noted old.seen head })
MatchNew (Err (line_error.Bad cause)) new old head = (is_new old.seen head ≡ false) × (cause ≡ Repeated)
MatchNew (Err line_error.NoMemory) new old head = Unit {0}

-- the label that a line may give was kept, or it is no new label, or memory was wanting
abbrev pub MatchNewLabel : Result (Unit {0}) (LineError ParseCause) → List (List ℕ) → List (List ℕ) → Body → Type 0
MatchNewLabel (Ok x) new old body = (is_new_label old body ≡ true) × (new ≡ noted_label old body)
MatchNewLabel (Err (line_error.Bad cause)) new old body = (is_new_label old body ≡ false) × (cause ≡ Repeated)
MatchNewLabel (Err line_error.NoMemory) new old body = Unit {0}

-- the open item with one line more, and its label where it gives one
abbrev pub extended : Open → ℕ → Body → Result Open ParseCause
extended o line body =
    if not (is_new_label o.labels body) then Err Repeated
    else Ok (record { item = with_part o.item line body; labels = noted_label o.labels body })

-- what was read, where the item that is open is now this one, or is it and ends
abbrev pub after_part : Read → Open → Bool → Read
after_part r o true = between_items (r.items ++ o.item ∷ []) r.seen
after_part r o false = in_item r.items r.seen o.item o.labels

-- the line was read, and tells whether it ends the open item; or the cause is the one that was given, or memory was wanting
abbrev pub MatchPart : Result Bool (LineError ParseCause) → Open → (Read → Result Read ParseCause) → Type 0
MatchPart (Ok ends) new given = (r : Read) → given r ≡ Ok (after_part r new ends)
MatchPart (Err error) new given = (r : Read) → Fails error (given r)

-- the items, which stand beside their names, are those that the grammar gives, or the line and the cause are
abbrev pub Closes : Result (List Item × List (List ℕ)) (ReadError ParseCause) → Result (List Item) Refused → Type 0
Closes (Ok found) given = given ≡ Ok found.0
Closes (Err (parse_error.Refused line cause)) given = given ≡ Err (line, cause)
Closes (Err parse_error.NoMemory) given = ⊥
