use Rattle.hk_audit.proofs.Spelled.{no_rights}
use Rattle.hk_audit.proofs.rights.rights_meant.Goals as goal

pub returns-in-Err : goal.returns-in-Err
returns-in-Err c = no_rights c.args.text.now c.in-Err.ensures.cases.0
