-- What was taken from a source, and what an adapter holds (docs/STREAMS.md, "Sources", "Adapters").
use Rattle.std.specs.Prelude.{ℕ, List, Option}
use Rattle.std.specs.Io.KnownBytes.{Consumes}

-- bytes with this property were taken, in order; of a source that tells they are all that it has lost, from its front
abbrev pub Took : Option (List ℕ) → Option (List ℕ) → (List ℕ → Type 0) → Type 0
Took old new P = (bytes : List ℕ) × Consumes old new bytes × P bytes

-- an adapter: the reader or writer that it holds, and its count of faults
pub record Adapter (T : Type 0) : Type 0 where
  pub inner : T
  pub faults : ℕ
