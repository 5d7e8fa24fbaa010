use Rattle.hk_load.proofs.HeadsMeant.{heads_meant, heads_names}
use Rattle.hk_load.proofs.names.Declared.of.Goals as goal

pub invariant_of-result : goal.invariant_of-result
invariant_of-result c = heads_meant c.args.items.now c.args.names.now c.in_ok-meanings.meanings.items c.requires.syntax c.requires.names c.in_ok-meanings.ensures

pub returns : goal.returns
returns c = heads_names c.args.items.now c.args.names.now c.in_ok-meanings.meanings.items c.requires.names c.in_ok-meanings.ensures
