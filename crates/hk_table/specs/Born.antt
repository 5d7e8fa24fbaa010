-- One more object of a table, as a world opens. docs/RULES.md, "The opening".
use Rattle.std.specs.Prelude.{◌≡◌, ◌+◌, List, map}
use Rattle.std.specs.BTreeMap.{insert_entry}
use Rattle.hk_model.specs.declared.names.Name.{Name}
use Rattle.hk_model.specs.declared.objects.Object.{Object}
use Rattle.hk_model.specs.Opening.{numbered}
use Rattle.hk_model.specs.State.{name_cmp}
use Rattle.hk_objects.specs.Slots.{standing}
use Rattle.hk_objects.specs.Shelf.{Shelf}
use Rattle.hk_walk.specs.Walks.{shown_at}

-- the objects, each with its name, from 0 on
abbrev pub named : List Object → List (Name × Object)
named objects = numbered (λ n. record { 0 = n }) 0 objects

-- the object stands besides, and has the name that came next
pub record Adds (old new : Shelf) (o : Object) : Type 0 where
  pub objects : standing (map shown_at new.slots) ≡ insert_entry name_cmp (standing (map shown_at old.slots)) old.next o
  pub next : new.next.0 ≡ old.next.0 + 1
