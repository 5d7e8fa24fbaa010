use Rattle.std.proofs.Common.{ap, Err}
use Rattle.hk_format.specs.Audits.{audit}
use Rattle.hk_audit.proofs.RecordAudits.{parted, script_refused, behind_refused, record_given, of_error}
use Rattle.hk_audit.proofs.audits.read_record.Goals as goal

pub returns-in_err-world-clause-refused : goal.returns-in_err-world-clause-refused
returns-in_err-world-clause-refused c =
    let parts = parted c.args.bytes.now c.split_at.result.0.now c.split_at.result.1.now c.script_length.result c.script_length.ensures.cut c.split_at.ensures.front
    c.split_at.ensures.back in
    of_error c.from_residual.result c.in_err-world.field-0.0 (audit c.args.bytes.now) c.from_residual.ensures.1
    (λ line cause e. script_refused c.args.bytes.now c.split_at.result.0.now c.split_at.result.1.now (line, cause) parts (c.in_err-world.ensures.refused line cause (ap Err e)))

pub returns-in_err-events-clause-refused : goal.returns-in_err-events-clause-refused
returns-in_err-events-clause-refused c =
    let parts = parted c.args.bytes.now c.split_at.result.0.now c.split_at.result.1.now c.script_length.result c.script_length.ensures.cut c.split_at.ensures.front
    c.split_at.ensures.back in
    of_error c.from_residual-in_err-events.result c.in_err-events.field-0.0 (audit c.args.bytes.now) c.from_residual-in_err-events.ensures.1
    (behind_refused c.args.bytes.now c.split_at.result.0.now c.split_at.result.1.now c.in_ok-world.world c.line_count.result c.in_err-events.field-0.0 parts
    c.in_ok-world.ensures.ok c.line_count.ensures c.in_err-events.ensures)

pub returns-clause-ok : goal.returns-clause-ok
returns-clause-ok c =
    let parts = parted c.args.bytes.now c.split_at.result.0.now c.split_at.result.1.now c.script_length.result c.script_length.ensures.cut c.split_at.ensures.front
    c.split_at.ensures.back in
    record_given c.args.bytes.now c.split_at.result.0.now c.split_at.result.1.now c.in_ok-world.world c.line_count.result _ parts c.in_ok-world.ensures.ok c.line_count.ensures
    c.in_ok-events.ensures
