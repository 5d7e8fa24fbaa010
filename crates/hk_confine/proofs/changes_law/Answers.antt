use Rattle.hk_model.proofs.KindsStay.{leaves_others, names_last}
use Rattle.hk_confine.proofs.changes_law.Goals as goal

pub returns-clause-others : goal.returns-clause-others
returns-clause-others c = leaves_others c.args.world.now c.args.lines.now c.requires

pub returns-clause-names : goal.returns-clause-names
returns-clause-names c = names_last c.args.world.now c.args.lines.now c.requires
