-- The value that bytes are read as, and the world that is read. docs/FORMATS.md, "Worlds as JSON".
use Rattle.std.specs.Prelude.{◌≡◌, ◌⊎◌, ℕ, List, Result, Ok, Err, Some, IsUtf8}
use Rattle.serde_json.specs.Data.{Data}
use Rattle.serde_json.specs.Read.{read}
use Rattle.hk_model.specs.WorldValue.{WorldValue}
use Rattle.hk_json.specs.declared.errors.JsonError.{JsonError}
use Rattle.hk_json.specs.declared.errors.JsonError.TheVariants.{NoMemory}

-- the bytes are a text, which is read as this value
abbrev pub Reads : List ℕ → Data → Type 0
Reads bytes d = IsUtf8 bytes × (read bytes ≡ Some d)

-- the answer is this world, or want of memory
abbrev pub GivesWorld : Result WorldValue JsonError → WorldValue → Type 0
GivesWorld result w = (result ≡ Ok w) ⊎ (result ≡ Err NoMemory)
