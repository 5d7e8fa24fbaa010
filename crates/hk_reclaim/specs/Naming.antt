-- Who names whom. docs/RULES.md, "Objects that vanish".
use Rattle.std.specs.Prelude.{ℕ, ◌==◌, Bool, false, List, [], ◌∷◌, Option, Some, None}
use Rattle.std.specs.List.{count_by, sum_by, list_any, flat_map}
use Rattle.hk_model.specs.declared.names.Name.{Name}
use Rattle.hk_model.specs.declared.entries.Entry.{Entry}
use Rattle.hk_model.specs.declared.entries.Entry.TheVariants.{Empty, Held, Form}
use Rattle.hk_model.specs.declared.entries.Template.TheVariants as template
use Rattle.hk_model.specs.Keeping.{entry_names}
use Rattle.hk_objects.specs.declared.body.Body.{Body}

-- the name in an entry, if there is one
abbrev pub named : Entry → Option Name
named Empty = None
named (Held cap) = Some cap.name
named (Form (template.Amplify of check give)) = of
named (Form (template.Create of give)) = Some of

abbrev pub with_name : Option Name → List Name → List Name
with_name None ns = ns
with_name (Some n) ns = n ∷ ns

-- what entries name
abbrev pub named_in : List Entry → List Name
named_in entries = flat_map entry_names entries

-- an object names its type, and what its entries name
abbrev pub names_of : Body → List Name
names_of b = b.of ∷ named_in b.entries

-- the names in a slot
abbrev pub names_in : Option (Name × Body) → List Name
names_in None = []
names_in (Some e) = names_of e.1

-- how often a list has a name
unfoldable pub times : Name → List Name → ℕ
times n ns = count_by (λ m. n.0 == m.0) ns

-- how often standing objects name an object
unfoldable pub namings : List (Option (Name × Body)) → Name → ℕ
namings ps n = sum_by (λ p. times n (names_in p)) ps

-- a slot has the object of a name
abbrev pub is_named : Name → Option (Name × Body) → Bool
is_named n None = false
is_named n (Some e) = n.0 == e.0.0

-- the set of the objects that stand
unfoldable pub stands : List (Option (Name × Body)) → Name → Bool
stands ps n = list_any (is_named n) ps
