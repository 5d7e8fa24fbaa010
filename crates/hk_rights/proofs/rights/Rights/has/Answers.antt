use Rattle.hk_rights.proofs.Sets.{contains-pow}
use Rattle.hk_rights.proofs.rights.Rights.has.Goals as goal

pub returns : goal.returns
returns c = rw (c.contains.ensures.word, c.one.ensures.word) (contains-pow c.args.self c.args.right)
