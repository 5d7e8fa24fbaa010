use Rattle.hk_script.proofs.Routes.{path_given}
use Rattle.hk_script.proofs.forms.path.Goals as goal

pub returns : goal.returns
returns c = path_given c.args.text.now c.new.result c.path_on.result c.new.ensures c.path_on.ensures
