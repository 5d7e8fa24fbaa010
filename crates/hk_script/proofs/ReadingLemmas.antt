-- What was read of a script, line by line.
use Rattle.std.proofs.Common.{◌≡◌, ℕ, List, sym, ap, ◌∙◌, Option, Some, Result, Ok}
use Rattle.hk_format.specs.declared.causes.ParseCause.{ParseCause}
use Rattle.hk_format.specs.declared.errors.LineError.{LineError}
use Rattle.hk_format.specs.declared.errors.LineError.TheVariants as line_error
use Rattle.hk_format.specs.Outcomes.{Fails}
use Rattle.hk_format.specs.Pieces.{Piece}
use Rattle.hk_format.specs.Grammar.{Read, next_line, joined, and_then, part_line}
use Rattle.hk_script.specs.declared.reading.Opened.{Opened}
use Rattle.hk_script.specs.Readings.{open_of, option_open}

-- a line inside an item
pub line_inside : (r : Read) (unclosed : Option Opened) (opened : Opened) (n : ℕ) (left pieces : List Piece) → left ≡ pieces → unclosed ≡ Some opened
    → next_line r (option_open unclosed) n pieces ≡ and_then (part_line opened.item.head left) (joined r (open_of opened) n)
line_inside r unclosed opened n left pieces same h =
    ap (λ (u : Option Opened). next_line r (option_open u) n pieces) h
    ∙ ap (λ (l : List Piece). and_then (part_line opened.item.head l) (joined r (open_of opened) n)) (sym same)

-- where nothing is refused, only memory can be wanting
pub only_memory : {X Y : Type 0} (e : (LineError ParseCause)) (done : Result X ParseCause) (x : X) (given : Result Y ParseCause) → done ≡ Ok x → Fails e done → Fails e given
only_memory (line_error.Bad cause) done x given is h = cc
only_memory line_error.NoMemory done x given is h = tt
