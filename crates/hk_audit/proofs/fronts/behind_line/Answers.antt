use Rattle.hk_audit.proofs.TextsBehind.{whole_line}
use Rattle.hk_audit.proofs.fronts.behind_line.Goals as goal

pub returns : goal.returns
returns c =
    whole_line c.args.line.now c.args.bytes.now c.in_ok-what.what.now c.in_ok-arrow.arrow.now c.in_ok-rest.rest.now c.in_ok-what.ensures c.in_ok-arrow.ensures c.in_ok-rest.ensures
