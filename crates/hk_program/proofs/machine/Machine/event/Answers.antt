use Rattle.std.proofs.Common.{◌≡◌, get_or, length, ap, sym, ◌∙◌, arith, subst}
use Rattle.std.specs.Prelude.{◌<◌, IfSome, Some, slice_set}
use Rattle.hk_model.specs.declared.calls.Call.{Call}
use Rattle.hk_model.specs.declared.calls.Reply.{Reply}
use Rattle.hk_model.specs.declared.lines.Line.{Line}
use Rattle.hk_model.specs.State.{State}
use Rattle.hk_model.specs.Processors.{process_on, acted_on, entered_on}
use Rattle.hk_model.specs.Control.{Context, next}
use Rattle.hk_model.specs.Running.{Machine, turn}
use Rattle.hk_program.specs.Watching.{seen_of}
use Rattle.hk_program.proofs.Events.{context_within, read_frames, read_code, read_room, turn_steps}
use Rattle.hk_program.proofs.NextCalls.{seen_read}
use Rattle.hk_program.proofs.machine.Machine.event.Goals as goal

pub index_mut-context-requires : goal.index_mut-context-requires
index_mut-context-requires g c =
    let same = ap (λ (m : Machine). length m.contexts) c.self.view_is in
    let within = context_within c.args.world.now c.args.self.now c.args.line.now.cpu c.args.line.now.proc c.args.line.now.inc c.requires.sound c.requires.runs in
    omega (arith, same, within)

pub turn-requires-clause-frames : goal.turn-requires-clause-frames
turn-requires-clause-frames g c =
    read_frames c.args.world.now c.args.self.now c.args.line.now.cpu c.args.line.now.proc c.args.line.now.inc c.requires.sound c.requires.runs c.index_mut-context.result.now
    (subst (λ (m : Machine). c.index_mut-context.result.now ≡ get_or m.contexts c.args.line.now.proc.0 c.index_mut-context.result.now) c.self.view_is c.index_mut-context.ensures.value)

pub turn-requires-clause-code : goal.turn-requires-clause-code
turn-requires-clause-code g c =
    subst (λ (m : Machine). (call : Call) → (reply : Reply) → IfSome (entered_on m.state c.args.line.now.cpu call reply) (λ code. code < length c.args.world.now.codes)) (sym c.self.view_is)
    (read_code c.args.world.now c.args.self.now c.args.line.now.cpu c.args.line.now.proc c.args.line.now.inc c.requires.sound c.requires.runs)

pub turn-requires-clause-room : goal.turn-requires-clause-room
turn-requires-clause-room g c =
    subst (λ (m : Machine). (call : Call) → IfSome (entered_on m.state c.args.line.now.cpu call (acted_on m.state c.args.line.now.cpu call).0) (λ code. length c.index_mut-context.result.now < 64))
    (sym c.self.view_is)
    (read_room c.args.world.now c.args.self.now c.args.line.now.cpu c.args.line.now.proc c.args.line.now.inc c.requires.sound c.requires.runs c.index_mut-context.result.now
    (subst (λ (m : Machine). c.index_mut-context.result.now ≡ get_or m.contexts c.args.line.now.proc.0 c.index_mut-context.result.now) c.self.view_is c.index_mut-context.ensures.value))

pub returns-clause-made : goal.returns-clause-made
returns-clause-made g c =
    let line : Line = c.turn.new.line in
    let state : State = g.K.Kernel.state c.turn.new.kernel in
    let frames : Context = c.turn.new.context in
    let steps = turn_steps c.args.world.now c.args.self.now c.args.line.now.cpu c.args.line.now.proc c.args.line.now.inc c.requires.sound c.requires.runs c.index_mut-context.result.now
    (line.what, line.reply, state, frames)
    (subst (λ (m : Machine). c.index_mut-context.result.now ≡ get_or m.contexts c.args.line.now.proc.0 c.index_mut-context.result.now) c.self.view_is c.index_mut-context.ensures.value)
    c.requires.cpu c.requires.below
    (subst (λ (m : Machine). turn c.args.world.now m.state (process_on m.state c.args.line.now.cpu) (next c.args.world.now c.index_mut-context.result.now)
    ≡ (line.what, line.reply, state, frames)) c.self.view_is c.in_ok-turn.ensures.made) in
    let named = ap (λ (l : Line). let made : Line × Machine = (l, record { state = state; contexts = slice_set c.args.self.now.contexts c.args.line.now.proc.0 frames }) in Some made) (sym c.in_ok-turn.ensures.who) in
    steps ∙ named
    ∙ ap (λ (m : Machine). let made : Line × Machine = (line, record { state = state; contexts = slice_set m.contexts c.args.line.now.proc.0 frames }) in Some made) (sym c.self.view_is)

pub returns-clause-seen : goal.returns-clause-seen
returns-clause-seen g c =
    let frames : Context = c.index_mut-context.result.now in
    c.in_ok-turn.ensures.seen
    ∙ ap (λ (m : Machine). seen_of g.W.Watch.seen m.state c.args.line.now.inc (next c.args.world.now frames).0 c.args.watch.now) c.self.view_is
    ∙ seen_read g.W.Watch.seen c.args.world.now c.args.self.now c.args.line.now.cpu c.args.line.now.proc c.args.line.now.inc c.requires.sound c.requires.runs frames
    (subst (λ (m : Machine). frames ≡ get_or m.contexts c.args.line.now.proc.0 frames) c.self.view_is c.index_mut-context.ensures.value) c.args.watch.now
