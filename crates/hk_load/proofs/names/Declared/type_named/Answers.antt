use Rattle.std.proofs.Common.{Some, None}
use Rattle.hk_load.proofs.NamesMeant.{type_gives}
use Rattle.hk_load.proofs.names.Declared.type_named.Goals as goal

pub returns-in-Some : goal.returns-in-Some
returns-in-Some c = type_gives c.self.inside.names.now c.self.inside.meanings.items c.as_slice.result.now c.args.self.now c.args.name.now c.as_str.result.now (Some c.in-Some.number) c.self.invariant c.self.view_is c.as_slice.ensures.value c.as_str.ensures c.in-Some.ensures

pub returns-in-None : goal.returns-in-None
returns-in-None c = type_gives c.self.inside.names.now c.self.inside.meanings.items c.as_slice.result.now c.args.self.now c.args.name.now c.as_str.result.now None c.self.invariant c.self.view_is c.as_slice.ensures.value c.as_str.ensures c.in-None.ensures
