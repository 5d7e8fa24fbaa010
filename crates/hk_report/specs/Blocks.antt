-- The runs of a list are many to a block, of which a moment is known before which none of its spans begins, and one behind which none ends.
-- docs/RULES.md, "Reaches".
use Rattle.std.specs.Prelude.{ℕ, ◌≤◌, List, [], ◌∷◌, length, take, drop, slice_index_or}
use Rattle.std.specs.Coded.{×_prop, Π_prop, Unit-prop, le_prop}
use Rattle.std.specs.List.{AllByRecursion, AllByRecursion-prop, between}
use Rattle.hk_model.specs.declared.names.Name.{Name}
use Rattle.hk_report.specs.declared.histories.Span.{Span}
use Rattle.hk_report.specs.declared.histories.History.{History}
use Rattle.hk_report.specs.declared.blocks.Block.{Block}
use Rattle.hk_report.specs.Histories.{history_of}
use Rattle.hk_report.specs.Runs.{IsRun, ends_at}

-- so many runs make up a block
abbrev pub in_block : ℕ
in_block = 64

-- where the last of the runs from a place on ends, which end at these places
abbrev pub end_of : ℕ → List ℕ → ℕ
end_of start [] = start
end_of start (end ∷ ends) = end_of end ends

-- from a place on there are runs, which end at these places
abbrev pub AreFrom : ℕ → List ℕ → List Span → Type 0
AreFrom start [] spans = Unit {0}
AreFrom start (end ∷ ends) spans = (start ≤ end) × ((end ≤ length spans) × (IsRun (between start end spans) × AreFrom end ends spans))

-- a span begins and ends within what is known of a block
abbrev pub IsIn : Block → Span → Type 0
IsIn block span = (block.from ≤ span.from) × (span.until ≤ block.until)

abbrev pub IsAround : Block → List Span → Type 0
IsAround block spans = AllByRecursion (IsIn block) spans

-- of the runs from a place on these are the first blocks
abbrev pub AreBlocks : ℕ → List ℕ → List Span → List Block → Type 0
AreBlocks start ends spans [] = Unit {0}
AreBlocks start ends spans (block ∷ blocks) =
    (in_block ≤ length ends)
    × (IsAround block (between start (end_of start (take in_block ends)) spans) × AreBlocks (end_of start (take in_block ends)) (drop in_block ends) spans blocks)

-- those of each list, by the name of its object
abbrev pub blocks_at : List (List Block) → Name → List Block
blocks_at all name = slice_index_or all name.0 []

abbrev pub AreBlocked : List History → List (List ℕ) → List (List Block) → Type 0
AreBlocked histories runs all = (name : Name) → AreBlocks 0 (ends_at runs name) (history_of histories name).spans (blocks_at all name)

-- these facts have one proof each
pub IsIn-prop : (block : Block) (span : Span) → IsProp (IsIn block span)
IsIn-prop block span = ×_prop (le_prop {n = block.from} {m = span.from}) (le_prop {n = span.until} {m = block.until})

pub AreBlocks-prop : (start : ℕ) (ends : List ℕ) (spans : List Span) (blocks : List Block) → IsProp (AreBlocks start ends spans blocks)
AreBlocks-prop start ends spans [] = Unit-prop
AreBlocks-prop start ends spans (block ∷ blocks) =
    ×_prop (le_prop {n = in_block} {m = length ends})
    (×_prop (AllByRecursion-prop (IsIn block) (λ span. IsIn-prop block span) (between start (end_of start (take in_block ends)) spans))
    (AreBlocks-prop (end_of start (take in_block ends)) (drop in_block ends) spans blocks))

pub AreBlocked-prop : (histories : List History) (runs : List (List ℕ)) (all : List (List Block)) → IsProp (AreBlocked histories runs all)
AreBlocked-prop histories runs all = Π_prop (λ (name : Name). AreBlocks-prop 0 (ends_at runs name) (history_of histories name).spans (blocks_at all name))
