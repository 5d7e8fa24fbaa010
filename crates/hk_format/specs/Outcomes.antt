-- What readers answer, beside what the definitions give. Want of memory says nothing. docs/FORMATS.md, "Reading a script".
use Rattle.std.specs.Prelude.{◌≡◌, ℕ, Result, Ok, Err}
use Rattle.hk_format.specs.declared.errors.ReadError.{ReadError}
use Rattle.hk_format.specs.declared.errors.ReadError.TheVariants as read_error
use Rattle.hk_format.specs.declared.errors.LineError.{LineError}
use Rattle.hk_format.specs.declared.errors.LineError.TheVariants as line_error

-- the answer is that this line is refused for this cause
abbrev pub IsRefused : {X C : Type 0} → Result X (ReadError C) → ℕ → C → Type 0
IsRefused result line cause = result ≡ Err (read_error.Refused line cause)

-- single lines

-- the cause is the one that the definition gives
abbrev pub Fails : {C Y : Type 0} → LineError C → Result Y C → Type 0
Fails line_error.NoMemory given = Unit {0}
Fails (line_error.Bad cause) given = given ≡ Err cause

-- the value is the one that the definition gives, or the cause is, or memory was wanting
abbrev pub Gives : {C X Y : Type 0} → (X → Y) → Result X (LineError C) → Result Y C → Type 0
Gives view (Ok x) given = given ≡ Ok (view x)
Gives view (Err error) given = Fails error given

-- the same for what a line changes
abbrev pub Becomes : {C Y : Type 0} → Result (Unit {0}) (LineError C) → Y → Result Y C → Type 0
Becomes (Ok x) new given = given ≡ Ok new
Becomes (Err error) new given = Fails error given

-- many lines

-- the line and the cause are those that the definition gives
abbrev pub Stops : {C Y : Type 0} → ReadError C → Result Y (ℕ × C) → Type 0
Stops read_error.NoMemory given = Unit {0}
Stops (read_error.Refused line cause) given = given ≡ Err (line, cause)

-- the value is the one that the definition gives, or the line and the cause are, or memory was wanting
abbrev pub GivesAll : {C X Y : Type 0} → (X → Y) → Result X (ReadError C) → Result Y (ℕ × C) → Type 0
GivesAll view (Ok x) given = given ≡ Ok (view x)
GivesAll view (Err error) given = Stops error given

-- the same for what lines change
abbrev pub BecomesAll : {C Y : Type 0} → Result (Unit {0}) (ReadError C) → Y → Result Y (ℕ × C) → Type 0
BecomesAll (Ok x) new given = given ≡ Ok new
BecomesAll (Err error) new given = Stops error given

-- errors

-- the error of a line, with its number
abbrev pub error_on : {C : Type 0} → ℕ → LineError C → ReadError C
error_on line (line_error.Bad cause) = read_error.Refused line cause
error_on line line_error.NoMemory = read_error.NoMemory

-- the error of one pass, as an error of the whole
abbrev pub with_cause : {C D : Type 0} → (C → D) → ReadError C → ReadError D
with_cause whole (read_error.Refused line cause) = read_error.Refused line (whole cause)
with_cause whole read_error.NoMemory = read_error.NoMemory
