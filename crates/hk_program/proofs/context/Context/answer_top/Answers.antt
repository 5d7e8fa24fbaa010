use Rattle.std.proofs.Common.{sym, reverse, refl}
use Rattle.hk_program.proofs.LastFrame.{last_is_top, no_top, IsAnswered, top_answered, none_answered}
use Rattle.hk_program.proofs.context.Context.answer_top.Goals as goal
use Rattle.hk_program.proofs.context.Context.answer_top.Goals.{in-Some, in-None}

answered : (c : goal.Joined-last_mut) → IsAnswered c.args.world.now c.args.self.now c.args.reply.now c.match-last_mut.result (reverse c.match-last_mut.self-inside.frames.items)
answered c = elim c.match-last_mut.branch [
  | in-Some w ↦ rw (w.result-is, w.self-inside-is) (
      top_answered c.args.world.now c.args.self.now w.in-Some.frame.now w.go_behind.new.frame _ c.args.reply.now
      (last_is_top c.args.self.now c.self.inside.frames.items c.self.inside.frames.len w.in-Some.frame.now c.self.view_is (sym c.self.inside.frames.ok.0)
      (w.in-Some.ensures.variant.0 refl) w.in-Some.ensures.value)
      c.requires w.go_behind.ensures.fits w.go_behind.ensures.value)
  | in-None w ↦ rw (w.result-is, w.self-inside-is, c.self.view_is) (
      none_answered c.args.world.now c.args.self.now c.args.reply.now
      (no_top c.args.self.now c.self.inside.frames.items c.self.inside.frames.len c.self.view_is (sym c.self.inside.frames.ok.0) w.in-None.ensures.variant.1))
]

pub returns-clause-some : goal.returns-clause-some
returns-clause-some c = (answered c).some_is

pub returns-clause-value : goal.returns-clause-value
returns-clause-value c = (answered c).value

pub returns-clause-fits : goal.returns-clause-fits
returns-clause-fits c = (answered c).fits
