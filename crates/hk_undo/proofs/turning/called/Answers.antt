use Rattle.hk_undo.proofs.FramesKept.{call_leads}
use Rattle.hk_undo.proofs.turning.called.Goals as goal

pub returns-clause-frames : goal.returns-clause-frames
returns-clause-frames c =
    rw (c.frames_kept.ensures, c.after.ensures.value)
    (call_leads c.args.world.now c.args.context.now c.args.call c.in_ok-acted.acted.reply c.in_ok-acted.acted.code c.args.before c.requires.some c.requires.few)
