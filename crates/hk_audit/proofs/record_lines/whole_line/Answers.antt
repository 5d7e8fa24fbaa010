use Rattle.hk_audit.proofs.RecordEvents.{line_told, bad_told}
use Rattle.hk_audit.proofs.record_lines.whole_line.Goals as goal

pub returns-in-Some-read_body : goal.returns-in-Some-read_body
returns-in-Some-read_body c = λ y more n. line_told c.args.text.now y more c.in-Some-read_body.line c.in_default.ensures c.in-Some-read_body.ensures.some n

pub returns-in-None : goal.returns-in-None
returns-in-None c = λ y more n. bad_told c.args.text.now y more c.in_default.ensures c.in-None.ensures.none n
