use Rattle.hk_model.proofs.ChangesListed.{lists_changes}
use Rattle.hk_model.proofs.OneExplanation.{one_list_of_changes}
use Rattle.hk_confine.proofs.listed_changes_law.Goals as goal

pub returns-clause-items : goal.returns-clause-items
returns-clause-items c = lists_changes c.args.world.now c.args.lines.now c.requires

pub returns-clause-one : goal.returns-clause-one
returns-clause-one c = one_list_of_changes c.args.world.now c.args.lines.now
