use Rattle.serde_json.specs.View.{view}
use Rattle.hk_json.proofs.Known.{script_declares, gives_world}
use Rattle.hk_json.proofs.reading.world_said.Goals as goal

pub returns-clause-bad : goal.returns-clause-bad
returns-clause-bad c = λ bad w h same. c.world_declared.ensures.bad bad w (script_declares (view c.args.reading.now) w h same) same

pub returns-clause-again : goal.returns-clause-again
returns-clause-again c = λ w h same. gives_world (view c.args.reading.now) c.world_declared.result c.world_declared.ensures.ok c.world_declared.ensures.bad w h same
