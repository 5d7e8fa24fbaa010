use Rattle.hk_audit.proofs.Spelled.{names_answer, numbers_known}
use Rattle.hk_audit.proofs.rights.are_names.Goals as goal

pub returns : goal.returns
returns c = names_answer _ c.args.rights c.args.text.now c.are_names_among.result c.are_names_among.ensures numbers_known c.requires.set c.requires.some
