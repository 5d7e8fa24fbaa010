use Rattle.hk_top.proofs.ServedLemmas.{usage_served}
use Rattle.hk_top.proofs.serving.serve_alone.Goals as goal

pub returns-in_ok-usage-in-None : goal.returns-in_ok-usage-in-None
returns-in_ok-usage-in-None g c =
    usage_served g.M.Made.Kernel.state c.args.bytes.now c.in_ok-usage-in-None.field-0 c.text_alone.result c.in-None.ensures c.in_ok-usage-in-None.ensures
    c.text_alone.ensures.due c.text_alone.ensures.kernel
