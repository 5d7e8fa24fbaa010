use Rattle.hk_audit.proofs.LineTexts.{written_line}
use Rattle.hk_audit.proofs.lines.write_line.Goals as goal

pub returns : goal.returns
returns c = written_line c.args.line.now _ _ _ _ c.in_ok-write_actor.ensures c.in_ok-write_what.ensures c.in_ok-write_ending.ensures
