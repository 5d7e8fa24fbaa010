use Rattle.hk_audit.proofs.Cuts.{left_none}
use Rattle.hk_audit.proofs.parts.Parts.is_read.Goals as goal

pub returns : goal.returns
returns c = left_none c.args.self.now
