use Rattle.hk_top.proofs.AnswerLemmas.{reads_alone}
use Rattle.hk_top.proofs.ServedLemmas.{beyond_served, whole_served}
use Rattle.hk_top.proofs.serving.serve_bytes.Goals as goal

pub returns-then-bytes-byte_limit : goal.returns-then-bytes-byte_limit
returns-then-bytes-byte_limit g c =
    beyond_served g.M.Made.Kernel.state c.args.bytes.now c.args.command c.byte_limit.result c.in_ok-too_long.field-0 c.text_alone.result
    (reads_alone c.args.command c.requires.alone) c.requires.range c.byte_limit.ensures c.if-bytes-byte_limit.true c.in_ok-too_long.ensures c.text_alone.ensures.due
    c.text_alone.ensures.kernel

pub returns : goal.returns
returns g c =
    whole_served g.M.Made.Kernel.state c.args.bytes.now c.args.command c.byte_limit.result c.due_to_bytes.result (reads_alone c.args.command c.requires.alone) c.requires.range
    c.byte_limit.ensures c.if-bytes-byte_limit.false c.due_to_bytes.ensures
