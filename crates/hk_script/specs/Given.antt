-- The names that the heads of a script give. docs/FORMATS.md, "Grammar".
use Rattle.std.specs.Prelude.{◌≡◌, ℕ, List, [], ◌∷◌, ◌++◌, Option, Some, None, map}
use Rattle.std.specs.List.{filter_map}
use Rattle.hk_format.specs.declared.syntax.Head.{Head}
use Rattle.hk_format.specs.declared.syntax.Head.TheVariants.{LimitIs, TypeIs, ObjectIs, SemaphoreIs, ProcedureIs, CodeIs, ProcessIs}
use Rattle.hk_format.specs.declared.syntax.Item.{Item}
use Rattle.hk_format.specs.Grammar.{Open, Read}

-- the name that a head gives, if it gives one
abbrev pub name_given : Head → Option (List ℕ)
name_given (LimitIs n) = None
name_given (TypeIs name) = Some name
name_given (ObjectIs name of) = Some name
name_given (SemaphoreIs name count) = Some name
name_given (ProcedureIs name code) = Some name
name_given (CodeIs name) = Some name
name_given (ProcessIs name code) = Some name

-- the names that the heads of items give, in their order
abbrev pub names_given : List Item → List (List ℕ)
names_given items = filter_map name_given (map (λ (i : Item). i.head) items)

-- the items whose heads were read: the last of them may be open
abbrev pub items_begun : List Item → Option Open → List Item
items_begun items None = items
items_begun items (Some o) = items ++ o.item ∷ []

-- the names that were seen are those that the heads give
abbrev pub HasNames : Read → Type 0
HasNames r = r.seen.names ≡ names_given (items_begun r.items r.unclosed)
