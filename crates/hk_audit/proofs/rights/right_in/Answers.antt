use Rattle.hk_audit.proofs.Spelled.{no_name}
use Rattle.hk_audit.proofs.rights.right_in.Goals as goal

pub returns-in-Err : goal.returns-in-Err
returns-in-Err c = no_name c.args.name.now c.in-Err.ensures.cases.0
