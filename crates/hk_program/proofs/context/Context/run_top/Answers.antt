use Rattle.std.proofs.Common.{sym, reverse, refl}
use Rattle.hk_program.proofs.LastFrame.{last_is_top, no_top, IsTurned, top_turned, none_turned}
use Rattle.hk_program.proofs.context.Context.run_top.Goals as goal
use Rattle.hk_program.proofs.context.Context.run_top.Goals.{in-Some, in-None}

turned : (c : goal.Joined-last_mut) → IsTurned c.args.world.now c.args.self.now c.match-last_mut.todo (reverse c.match-last_mut.self-inside.frames.items)
turned c = elim c.match-last_mut.branch [
  | in-Some w ↦ rw (w.todo-is, w.self-inside-is) (
      top_turned c.args.world.now c.args.self.now w.in-Some.frame.now w.run.new.frame _ w.run.new.todo
      (last_is_top c.args.self.now c.self.inside.frames.items c.self.inside.frames.len w.in-Some.frame.now c.self.view_is (sym c.self.inside.frames.ok.0)
      (w.in-Some.ensures.variant.0 refl) w.in-Some.ensures.value)
      c.requires w.run.ensures.fits w.run.ensures.value)
  | in-None w ↦ rw (w.todo-is, w.self-inside-is, c.self.view_is) (
      none_turned c.args.world.now c.args.self.now
      (no_top c.args.self.now c.self.inside.frames.items c.self.inside.frames.len c.self.view_is (sym c.self.inside.frames.ok.0) w.in-None.ensures.variant.1))
]

pub returns-clause-value : goal.returns-clause-value
returns-clause-value c = (turned c).value

pub returns-clause-fits : goal.returns-clause-fits
returns-clause-fits c = (turned c).fits

pub returns-clause-others : goal.returns-clause-others
returns-clause-others c = (turned c).others
