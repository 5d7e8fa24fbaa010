use Rattle.std.proofs.Common.{ap, Err}
use Rattle.hk_format.specs.Audits.{audit}
use Rattle.hk_audit.proofs.ReadOn.{missing_there, read_begins}
use Rattle.hk_audit.proofs.RecordAudits.{parted, script_refused, of_error}
use Rattle.hk_audit.proofs.reader.Reader.open.Goals as goal

pub returns-in_err-world-clause-refused : goal.returns-in_err-world-clause-refused
returns-in_err-world-clause-refused c =
    let parts = parted c.args.bytes.now c.split_at.result.0.now c.split_at.result.1.now c.script_length.result c.script_length.ensures.cut c.split_at.ensures.front
    c.split_at.ensures.back in
    of_error c.from_residual.result c.in_err-world.field-0.0 (audit c.args.bytes.now) c.from_residual.ensures.1
    (λ line cause e. script_refused c.args.bytes.now c.split_at.result.0.now c.split_at.result.1.now (line, cause) parts (c.in_err-world.ensures.refused line cause (ap Err e)))

pub returns-in-Some-clause-ok : goal.returns-in-Some-clause-ok
returns-in-Some-clause-ok c =
    let parts = parted c.args.bytes.now c.split_at.result.0.now c.split_at.result.1.now c.script_length.result c.script_length.ensures.cut c.split_at.ensures.front
    c.split_at.ensures.back in
    read_begins c.args.bytes.now c.split_at.result.0.now c.split_at.result.1.now c.in-Some.left.now c.in_ok-world.world parts c.in_ok-world.ensures.ok c.in-Some.ensures.some

pub returns-in-None-clause-refused : goal.returns-in-None-clause-refused
returns-in-None-clause-refused c = λ line cause e.
    let parts = parted c.args.bytes.now c.split_at.result.0.now c.split_at.result.1.now c.script_length.result c.script_length.ensures.cut c.split_at.ensures.front
    c.split_at.ensures.back in
    missing_there c.args.bytes.now c.split_at.result.0.now c.split_at.result.1.now c.in_ok-world.world c.line_count.result parts c.in_ok-world.ensures.ok
    c.line_count.ensures c.in-None.ensures.none line cause e
