use Rattle.std.proofs.Common.{Err, ap, ◌∙◌}
use Rattle.hk_top.proofs.AnswerLemmas.{bad_json_due, unjson_due}
use Rattle.hk_top.proofs.outputs.unjson.Goals as goal

pub returns-in-Ok : goal.returns-in-Ok
returns-in-Ok c = unjson_due c.args.bytes.now c.in-Ok.world c.script.result c.limit-limit.ensures.valid c.in-Ok.ensures.ok c.script.ensures

pub returns-in-Err-BadJson : goal.returns-in-Err-BadJson
returns-in-Err-BadJson c =
    bad_json_due c.args.bytes.now c.bad_json.result (c.read_json.ensures.bad (c.in-Err-BadJson.is ∙ ap (λ e. Err e) c.in-Err-BadJson.field-0-is)) c.bad_json.ensures
