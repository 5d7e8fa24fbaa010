-- The runs that hold an object are many to a block, of which a moment is known before which none begins, and one behind which
-- no call begins that comes to the lists in which they stand. docs/RULES.md, "Reaches".
use Rattle.std.specs.Prelude.{ℕ, ◌≤◌, List, [], ◌∷◌, length, take, drop, slice_index_or, Option}
use Rattle.std.specs.Coded.{×_prop, Π_prop, Unit-prop, le_prop}
use Rattle.std.specs.List.{AllByRecursion, AllByRecursion-prop}
use Rattle.hk_model.specs.declared.names.Name.{Name}
use Rattle.hk_report.specs.declared.holders.Stretch.{Stretch}
use Rattle.hk_report.specs.declared.held_blocks.HeldBlock.{HeldBlock}
use Rattle.hk_report.specs.Reachable.{IsByThen, IsByThen-prop}
use Rattle.hk_report.specs.Blocks.{in_block}
use Rattle.hk_report.specs.Holders.{held_at}

-- a moment that is not after either of two, where they are told
abbrev pub IsSoonest : Option ℕ → Option ℕ → Option ℕ → Type 0
IsSoonest a b least = IsByThen least a × IsByThen least b

-- by the moments of lists, a run begins within what is known of a block, and stands in a list to which no other calls come
abbrev pub IsWithin : (Name → Option ℕ) → HeldBlock → Stretch → Type 0
IsWithin lasts block stretch = (block.from ≤ stretch.from) × IsByThen block.last (lasts stretch.by)

-- of these runs these are the first blocks
abbrev pub AreHeldBlocks : (Name → Option ℕ) → List Stretch → List HeldBlock → Type 0
AreHeldBlocks lasts held [] = Unit {0}
AreHeldBlocks lasts held (block ∷ blocks) =
    (in_block ≤ length held) × (AllByRecursion (IsWithin lasts block) (take in_block held) × AreHeldBlocks lasts (drop in_block held) blocks)

-- those of the runs that hold each object, by its name
abbrev pub held_blocks_at : List (List HeldBlock) → Name → List HeldBlock
held_blocks_at all name = slice_index_or all name.0 []

abbrev pub AreHeldBlocked : (Name → Option ℕ) → List (List Stretch) → List (List HeldBlock) → Type 0
AreHeldBlocked lasts holders all = (name : Name) → AreHeldBlocks lasts (held_at holders name) (held_blocks_at all name)

-- these facts have one proof each
pub IsWithin-prop : (lasts : Name → Option ℕ) (block : HeldBlock) (stretch : Stretch) → IsProp (IsWithin lasts block stretch)
IsWithin-prop lasts block stretch = ×_prop (le_prop {n = block.from} {m = stretch.from}) (IsByThen-prop block.last (lasts stretch.by))

pub AreHeldBlocks-prop : (lasts : Name → Option ℕ) (held : List Stretch) (blocks : List HeldBlock) → IsProp (AreHeldBlocks lasts held blocks)
AreHeldBlocks-prop lasts held [] = Unit-prop
AreHeldBlocks-prop lasts held (block ∷ blocks) =
    ×_prop (le_prop {n = in_block} {m = length held})
    (×_prop (AllByRecursion-prop (IsWithin lasts block) (IsWithin-prop lasts block) (take in_block held)) (AreHeldBlocks-prop lasts (drop in_block held) blocks))

pub AreHeldBlocked-prop : (lasts : Name → Option ℕ) (holders : List (List Stretch)) (all : List (List HeldBlock)) → IsProp (AreHeldBlocked lasts holders all)
AreHeldBlocked-prop lasts holders all = Π_prop (λ (name : Name). AreHeldBlocks-prop lasts (held_at holders name) (held_blocks_at all name))
