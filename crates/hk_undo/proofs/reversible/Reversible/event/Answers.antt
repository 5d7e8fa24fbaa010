use Rattle.std.proofs.Common.{true, ◌≡◌, Some, get_or, length, ap, sym, arith, subst, slice_set}
use Rattle.hk_model.specs.Processors.{running_on, may_step}
use Rattle.hk_model.specs.Running.{Machine}
use Rattle.hk_model.specs.declared.lines.Line.{Line}
use Rattle.hk_program.specs.Machines.{IsSound}
use Rattle.hk_program.proofs.Events.{context_within, read_frames, read_code, read_room}
use Rattle.hk_undo.specs.declared.reversible.Made.{Made}
use Rattle.hk_undo.specs.Pasts.{IsMade}
use Rattle.hk_undo.proofs.EventsMade.{event_made, read_few}
use Rattle.hk_undo.proofs.reversible.Reversible.event.Goals as goal

pub index_mut-context-requires : goal.index_mut-context-requires
index_mut-context-requires c =
    let same = ap (λ (m : Machine). length m.contexts) c.self.view_is in
    let within = context_within c.args.world.now c.args.self.now c.args.cpu c.args.proc c.args.inc c.requires.sound c.requires.runs in
    omega (arith, same, within)

pub turn-requires-clause-frames : goal.turn-requires-clause-frames
turn-requires-clause-frames c =
    read_frames c.args.world.now c.args.self.now c.args.cpu c.args.proc c.args.inc c.requires.sound c.requires.runs c.index_mut-context.result.now
    (subst (λ (m : Machine). c.index_mut-context.result.now ≡ get_or m.contexts c.args.proc.0 c.index_mut-context.result.now) c.self.view_is c.index_mut-context.ensures.value)

pub turn-requires-clause-few : goal.turn-requires-clause-few
turn-requires-clause-few c =
    read_few c.args.world.now c.args.self.now c.args.cpu c.args.proc c.args.inc c.requires.sound c.requires.runs c.index_mut-context.result.now
    (subst (λ (m : Machine). c.index_mut-context.result.now ≡ get_or m.contexts c.args.proc.0 c.index_mut-context.result.now) c.self.view_is c.index_mut-context.ensures.value)

pub turn-requires-clause-code : goal.turn-requires-clause-code
turn-requires-clause-code c =
    let m : Machine = record { state = c.self.inside.kernel; contexts = c.self.inside.contexts.items } in
    read_code c.args.world.now m c.args.cpu c.args.proc c.args.inc (subst (IsSound c.args.world.now) (sym c.self.view_is) c.requires.sound)
    (subst (λ (k : Machine). running_on k.state c.args.cpu ≡ Some (c.args.proc, c.args.inc)) (sym c.self.view_is) c.requires.runs)

pub turn-requires-clause-room : goal.turn-requires-clause-room
turn-requires-clause-room c =
    let m : Machine = record { state = c.self.inside.kernel; contexts = c.self.inside.contexts.items } in
    read_room c.args.world.now m c.args.cpu c.args.proc c.args.inc (subst (IsSound c.args.world.now) (sym c.self.view_is) c.requires.sound)
    (subst (λ (k : Machine). running_on k.state c.args.cpu ≡ Some (c.args.proc, c.args.inc)) (sym c.self.view_is) c.requires.runs)
    c.index_mut-context.result.now c.index_mut-context.ensures.value

pub returns-clause-made : goal.returns-clause-made
returns-clause-made c =
    let m : Machine = record { state = c.self.inside.kernel; contexts = c.self.inside.contexts.items } in
    let line : Line = record { cpu = c.args.cpu; proc = c.args.proc; inc = c.args.inc; what = c.in_ok-turned.turned.what; reply = c.in_ok-turned.turned.reply } in
    let made : Made = record { line = line; inverse = c.in_ok-turned.turned.inverse; frames = Some c.in_ok-turned.turned.frames } in
    let left : Machine = record { state = c.turn.new.kernel; contexts = slice_set m.contexts c.args.proc.0 c.turn.new.context } in
    subst (λ (k : Machine). IsMade c.args.world.now k c.args.cpu made left) c.self.view_is
    (event_made c.args.world.now m c.args.cpu c.args.proc c.args.inc (subst (IsSound c.args.world.now) (sym c.self.view_is) c.requires.sound)
    (subst (λ (k : Machine). running_on k.state c.args.cpu ≡ Some (c.args.proc, c.args.inc)) (sym c.self.view_is) c.requires.runs)
    c.in_ok-turned.turned.what c.in_ok-turned.turned.reply c.turn.new.kernel c.turn.new.context c.in_ok-turned.turned.inverse c.in_ok-turned.turned.frames
    c.index_mut-context.result.now c.index_mut-context.ensures.value c.requires.cpu
    (subst (λ (k : Machine). may_step k.state ≡ true) (sym c.self.view_is) c.requires.below)
    c.in_ok-turned.ensures.made c.in_ok-turned.ensures.behind c.in_ok-turned.ensures.back c.in_ok-turned.ensures.frames)
