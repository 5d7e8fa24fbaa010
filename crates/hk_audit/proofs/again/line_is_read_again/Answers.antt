use Rattle.hk_audit.proofs.ReadAgain.{read_body_is}
use Rattle.hk_audit.proofs.again.line_is_read_again.Goals as goal

pub returns : goal.returns
returns c = read_body_is c.args.bytes.now c.args.line.now
