-- The indices of a route, as they are kept. docs/RULES.md, "Control of a process".
use Rattle.std.specs.Prelude.{List}
use Rattle.hk_model.specs.declared.instructions.Index.{Index}
use Rattle.hk_model.specs.declared.instructions.OneOrMore.{OneOrMore}
use Rattle.hk_model.specs.declared.instructions.OneOrMore.TheVariants.{One, More}

-- the one that is kept in place, or those of the list
abbrev pub indices_kept : OneOrMore → List Index
indices_kept (One at) = at
indices_kept (More at) = at.value
