use Rattle.hk_report.proofs.MomentLemmas.{params_next}
use Rattle.hk_report.proofs.reachable.Moments.tell_params.Goals as goal

pub loop-param-preserved : goal.loop-param-preserved
loop-param-preserved c =
    params_next c.args.moment c.args.self.now c.loop-param.self c.tell_param.new.self c.args.params.now c.loop-param.param-index c.param-item.result c.loop-param.invariant
    c.loop-param-test.true c.param-item.is c.in_ok-tell_param.ensures.earlier c.in_ok-tell_param.ensures.told
