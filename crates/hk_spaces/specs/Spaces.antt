-- Name spaces. docs/RULES.md, "Objects, incarnations, processes".
use Rattle.std.specs.Prelude.{◌≡◌, ℕ, ◌≤◌, List, replicate, slice_index_or}
use Rattle.hk_model.specs.declared.entries.Entry.{Entry}
use Rattle.hk_model.specs.declared.entries.Entry.TheVariants.{Empty}
use Rattle.hk_model.specs.Limits.{slot_limit}

-- 64 slots in which nothing stands
unfoldable pub empty_slots : List Entry
empty_slots = replicate slot_limit Empty

-- nothing stands in the slots from this one on
abbrev pub IsEmptyFrom : ℕ → List Entry → Type 0
IsEmptyFrom n slots = (slot : ℕ) → n ≤ slot → slice_index_or slots slot Empty ≡ Empty

-- no slot was written but the first ones, so many of the 64
pub record IsWritten (n : ℕ) (slots : List Entry) : Type 0 where
  pub few : n ≤ slot_limit
  pub rest : IsEmptyFrom n slots
