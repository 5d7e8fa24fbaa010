-- A walker, as contracts see it. docs/RULES.md, "Walks".
use Rattle.std.specs.Prelude.{ℕ, List}
use Rattle.hk_model.specs.declared.entries.Entry.{Entry}
use Rattle.hk_walk.specs.declared.trail.Trail.{Trail}

pub record Remembered : Type 0 where
  -- how many walks it remembers at most
  pub capacity : ℕ
  -- the starts and paths with the entries that are there, the latest first
  pub pairs : List (Trail × Entry)
