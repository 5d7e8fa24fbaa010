-- Objects by the names that they open with. docs/RULES.md, "The opening".
use Rattle.std.specs.Prelude.{List}
use Rattle.hk_model.specs.declared.names.Name.{Name}
use Rattle.hk_model.specs.declared.objects.Object.{Object}
use Rattle.hk_model.specs.Opening.{numbered}

-- the objects, each with its name, from 0 on
abbrev pub with_names : List Object → List (Name × Object)
with_names objects = numbered (λ n. record { 0 = n }) 0 objects
