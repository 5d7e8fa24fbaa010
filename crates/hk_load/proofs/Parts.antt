-- The items of a script: the labels of each code stand once.
use Rattle.std.proofs.Common.{ℕ, List, [], ◌∷◌}
use Rattle.std.specs.List.{AllByRecursion}
use Rattle.hk_format.specs.declared.syntax.Head.{Head}
use Rattle.hk_format.specs.declared.syntax.Item.{Item}
use Rattle.hk_format.specs.declared.syntax.Part.{Part}
use Rattle.hk_format.specs.Grammar.{GivenNames, nothing_seen, noted, noted_label}
use Rattle.hk_format.specs.Syntax.{AreParts, AreItems, IsSyntax}
use Rattle.hk_load.specs.Jumping.{HasNewLabels}

parts_new : (head : Head) (labels : List (List ℕ)) (ps : List Part) → AreParts head labels ps → HasNewLabels labels ps
parts_new head labels [] h = tt
parts_new head labels (p ∷ ps) h = (h.1, parts_new head (noted_label labels p.body) ps h.2)

items_new : (seen : GivenNames) (is : List Item) → AreItems seen is → AllByRecursion (λ (i : Item). HasNewLabels [] i.parts) is
items_new seen [] h = tt
items_new seen (i ∷ is) h = (parts_new i.head [] i.parts h.2, items_new (noted seen i.head) is h.3)

-- of all items
pub all_new : (is : List Item) → IsSyntax is → AllByRecursion (λ (i : Item). HasNewLabels [] i.parts) is
all_new is h = items_new nothing_seen is h
