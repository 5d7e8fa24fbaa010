use Rattle.std.proofs.Common.{arith, refl, ap, sym, ◌∙◌, ◌≡◌, subst, ◌<◌, length}
use Rattle.std.specs.Prelude.{IfSome, not}
use Rattle.hk_model.specs.declared.calls.Call.{Call}
use Rattle.hk_model.specs.declared.calls.Reply.{Reply}
use Rattle.hk_model.specs.declared.lines.What.{What}
use Rattle.hk_model.specs.WorldValue.{WorldValue}
use Rattle.hk_model.specs.State.{State, process}
use Rattle.hk_model.specs.Processors.{runner, is_running, process_on, entered_on}
use Rattle.hk_model.specs.Running.{turn}
use Rattle.hk_program.specs.Contexts.{AreFrames}
use Rattle.hk_procs.specs.Promises.{AddsLine}
use Rattle.hk_shared.specs.Books.{notes_of_book}
use Rattle.hk_shared.proofs.Turning.{has_room, adds, hands_out, shown_now, sound_more, carries, left_is, frames_next, code_known, room_known, adds_stop, goes_keeps, gone_keeps}
use Rattle.hk_shared.proofs.Turning.{not_true, not_false, told_is}
use Rattle.hk_shared.proofs.book.Book.carry.Goals as goal

pub carry_out-requires-clause-frames : goal.carry_out-requires-clause-frames
carry_out-requires-clause-frames g c =
    let r = c.requires in
    subst (λ (w : WorldValue). AreFrames w c.args.context) (sym r.sound.world)
    (frames_next g.K.Kernel.state g.J.Naming.world c.args.cpu c.args.self.now r.sound c.args.proc c.args.todo c.args.context r.next)

pub carry_out-requires-clause-code : goal.carry_out-requires-clause-code
carry_out-requires-clause-code g c =
    let r = c.requires in
    subst (λ (w : WorldValue). (call : Call) → (reply : Reply) → IfSome (entered_on (g.K.Kernel.state c.args.self.now.kernel) c.args.cpu call reply)
    (λ code. code < length w.codes)) (sym r.sound.world)
    (code_known g.K.Kernel.state g.J.Naming.world c.args.cpu c.args.self.now r.sound c.args.proc c.args.inc r.runs)

pub carry_out-requires-clause-room : goal.carry_out-requires-clause-room
carry_out-requires-clause-room g c =
    let r = c.requires in
    room_known g.K.Kernel.state g.J.Naming.world c.args.cpu c.args.self.now r.sound c.args.proc c.args.inc c.args.todo c.args.context r.runs r.next

pub returns-in_default-clause-answer : goal.returns-in_default-clause-answer
returns-in_default-clause-answer g c =
    let r = c.requires in
    (adds_stop g.K.Kernel.state g.J.Naming.world c.args.cpu c.args.self.now r.sound r.going r.below, c.in_default.ensures.memory)

pub push_reserved-requires : goal.push_reserved-requires
push_reserved-requires g c =
    let r = c.requires in let b = c.args.self.now in
    let room = has_room g.K.Kernel.state g.J.Naming.world c.args.cpu b r.sound r.below in let k = b.lines.ok.0 in omega (arith, room, k)

pub index_mut-requires : goal.index_mut-requires
index_mut-requires g c =
    let r = c.requires in let b = c.args.self.now in let t = g.K.Kernel.state c.carry_out.new.kernel in
    let done = subst (λ (w : WorldValue). turn w (g.K.Kernel.state b.kernel) (process_on (g.K.Kernel.state b.kernel) c.args.cpu) (c.args.todo, c.args.context)
    ≡ (c.in-Ok.made.what, c.in-Ok.made.reply, t, c.carry_out.new.context))
    r.sound.world c.in-Ok.ensures.made in
    let made = carries g.K.Kernel.state g.J.Naming.world c.args.cpu b r.sound c.args.proc c.args.inc c.args.todo c.args.context c.in-Ok.made.what c.in-Ok.made.reply
    t c.carry_out.new.context
    r.cpu r.below r.runs r.next done in
    let there = made.there in let k = b.contexts.ok.0 in omega (arith, there, k)

pub returns-then-made-clause-next : goal.returns-then-made-clause-next
returns-then-made-clause-next g c =
    let r = c.requires in let b = c.args.self.now in let t = g.K.Kernel.state c.carry_out.new.kernel in
    let done = subst (λ (w : WorldValue). turn w (g.K.Kernel.state b.kernel) (process_on (g.K.Kernel.state b.kernel) c.args.cpu) (c.args.todo, c.args.context)
    ≡ (c.in-Ok.made.what, c.in-Ok.made.reply, t, c.carry_out.new.context))
    r.sound.world c.in-Ok.ensures.made in
    let made = carries g.K.Kernel.state g.J.Naming.world c.args.cpu b r.sound c.args.proc c.args.inc c.args.todo c.args.context c.in-Ok.made.what c.in-Ok.made.reply
    t c.carry_out.new.context
    r.cpu r.below r.runs r.next done in
    rw c.noted-note.ensures
    (sound_more g.K.Kernel.state g.J.Naming.world c.args.cpu b r.sound _ _ r.going refl c.push_reserved.ensures.items t refl refl
    c.push_reserved.ensures.capacity made.steps made.state
    (gone_keeps g.J.Naming.world b.lines.items b.contexts.items _ c.args.cpu c.args.proc _ t c.carry_out.new.context made refl) refl)

pub returns-then-made-clause-answer : goal.returns-then-made-clause-answer
returns-then-made-clause-answer g c =
    let r = c.requires in let b = c.args.self.now in let t = g.K.Kernel.state c.carry_out.new.kernel in
    let done = subst (λ (w : WorldValue). turn w (g.K.Kernel.state b.kernel) (process_on (g.K.Kernel.state b.kernel) c.args.cpu) (c.args.todo, c.args.context)
    ≡ (c.in-Ok.made.what, c.in-Ok.made.reply, t, c.carry_out.new.context))
    r.sound.world c.in-Ok.ensures.made in
    let made = carries g.K.Kernel.state g.J.Naming.world c.args.cpu b r.sound c.args.proc c.args.inc c.args.todo c.args.context c.in-Ok.made.what c.in-Ok.made.reply
    t c.carry_out.new.context
    r.cpu r.below r.runs r.next done in
    let told = told_is b.world (g.K.Kernel.state b.kernel) (process_on (g.K.Kernel.state b.kernel) c.args.cpu) c.args.todo c.args.context c.in-Ok.made.what c.in-Ok.made.reply t
    c.carry_out.new.context c.in-Ok.ensures.made in
    let left = left_is g.K.Kernel.state g.J.Naming.world c.args.cpu b r.sound c.args.proc c.args.inc t c.in-Ok.made.gone r.runs c.in-Ok.ensures.gone in
    let now = shown_now g.K.Kernel.state g.J.Naming.world c.args.cpu b r.sound (record b { lines = c.push_reserved.new.self }) _ r.going refl
    c.push_reserved.ensures.items t made.state in (
      subst (λ (what : What). AddsLine g.J.Naming.world c.args.cpu (notes_of_book b) (notes_of_book (record b { lines = c.push_reserved.new.self })) c.args.proc
          what c.in-Ok.made.reply) told (
            c.args.inc,
            adds g.K.Kernel.state g.J.Naming.world c.args.cpu b r.sound (record b { lines = c.push_reserved.new.self }) _ r.going refl
                c.push_reserved.ensures.items made.steps r.below,
          ),
      ap (λ (s : State). runner s c.args.cpu) now ∙ made.gone (not_true c.in-Ok.made.gone (is_running (process t c.args.proc).run) c.if-made.true left),
      ap (λ (s : State). not (is_running (process s c.args.proc).run)) now ∙ (sym left ∙ c.if-made.true),
    )

pub returns-clause-next : goal.returns-clause-next
returns-clause-next g c =
    let r = c.requires in let b = c.args.self.now in let t = g.K.Kernel.state c.carry_out.new.kernel in
    let done = subst (λ (w : WorldValue). turn w (g.K.Kernel.state b.kernel) (process_on (g.K.Kernel.state b.kernel) c.args.cpu) (c.args.todo, c.args.context)
    ≡ (c.in-Ok.made.what, c.in-Ok.made.reply, t, c.carry_out.new.context))
    r.sound.world c.in-Ok.ensures.made in
    let made = carries g.K.Kernel.state g.J.Naming.world c.args.cpu b r.sound c.args.proc c.args.inc c.args.todo c.args.context c.in-Ok.made.what c.in-Ok.made.reply
    t c.carry_out.new.context
    r.cpu r.below r.runs r.next done in
    let left = left_is g.K.Kernel.state g.J.Naming.world c.args.cpu b r.sound c.args.proc c.args.inc t c.in-Ok.made.gone r.runs c.in-Ok.ensures.gone in
    let runs = not_false c.in-Ok.made.gone (is_running (process t c.args.proc).run) c.if-made.false left in
    rw c.noted-note.ensures
    (sound_more g.K.Kernel.state g.J.Naming.world c.args.cpu b r.sound _ _ r.going refl c.push_reserved.ensures.items t refl refl
    c.push_reserved.ensures.capacity made.steps made.state
    (goes_keeps g.J.Naming.world b.lines.items b.contexts.items c.args.cpu c.args.proc _ t c.carry_out.new.context made runs) refl)

pub returns-clause-answer : goal.returns-clause-answer
returns-clause-answer g c =
    let r = c.requires in let b = c.args.self.now in let t = g.K.Kernel.state c.carry_out.new.kernel in
    let done = subst (λ (w : WorldValue). turn w (g.K.Kernel.state b.kernel) (process_on (g.K.Kernel.state b.kernel) c.args.cpu) (c.args.todo, c.args.context)
    ≡ (c.in-Ok.made.what, c.in-Ok.made.reply, t, c.carry_out.new.context))
    r.sound.world c.in-Ok.ensures.made in
    let made = carries g.K.Kernel.state g.J.Naming.world c.args.cpu b r.sound c.args.proc c.args.inc c.args.todo c.args.context c.in-Ok.made.what c.in-Ok.made.reply
    t c.carry_out.new.context
    r.cpu r.below r.runs r.next done in
    let told = told_is b.world (g.K.Kernel.state b.kernel) (process_on (g.K.Kernel.state b.kernel) c.args.cpu) c.args.todo c.args.context c.in-Ok.made.what c.in-Ok.made.reply t
    c.carry_out.new.context c.in-Ok.ensures.made in
    let left = left_is g.K.Kernel.state g.J.Naming.world c.args.cpu b r.sound c.args.proc c.args.inc t c.in-Ok.made.gone r.runs c.in-Ok.ensures.gone in
    let runs = not_false c.in-Ok.made.gone (is_running (process t c.args.proc).run) c.if-made.false left in (
      subst (λ (what : What). AddsLine g.J.Naming.world c.args.cpu (notes_of_book b) (notes_of_book (record b { lines = c.push_reserved.new.self })) c.args.proc
          what c.in-Ok.made.reply) told (
            c.args.inc,
            adds g.K.Kernel.state g.J.Naming.world c.args.cpu b r.sound (record b { lines = c.push_reserved.new.self }) _ r.going refl
                c.push_reserved.ensures.items made.steps r.below,
          ),
      hands_out g.K.Kernel.state g.J.Naming.world c.args.cpu b r.sound (record b { lines = c.push_reserved.new.self }) _ r.going refl c.push_reserved.ensures.items t
          c.args.proc c.carry_out.new.context
          made.steps made.state (made.goes runs) made.context,
    )
