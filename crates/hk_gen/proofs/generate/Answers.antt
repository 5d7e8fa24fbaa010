use Rattle.std.proofs.Common.{subst, sym, ◌∙◌}
use Rattle.hk_model.specs.WorldValue.{IsWorld}
use Rattle.hk_gen.proofs.Worlds.{world_value_lem, generated_is_world}
use Rattle.hk_gen.proofs.generate.Goals as goal

pub new-requires : goal.new-requires
new-requires c =
    subst IsWorld (sym (world_value_lem _ _ _ c.args.count c.in_ok-objects.ensures c.in_ok-codes.ensures c.in_ok-processes.ensures))
    (generated_is_world c.args.count c.requires.few)

pub returns : goal.returns
returns c = c.new.ensures ∙ world_value_lem _ _ _ c.args.count c.in_ok-objects.ensures c.in_ok-codes.ensures c.in_ok-processes.ensures
