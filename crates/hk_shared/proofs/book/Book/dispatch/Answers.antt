use Rattle.std.proofs.Common.{arith, refl, ap, sym, ◌∙◌}
use Rattle.std.specs.Prelude.{slice_set}
use Rattle.hk_model.specs.State.{process}
use Rattle.hk_shared.proofs.Turning.{has_room, goes_below, ask_idle, gets, adds, hands_out, sound_more, taken_keeps, no_current, current_is, get_below, taken_is, not_both}
use Rattle.hk_shared.proofs.Turning.{same_frames}
use Rattle.hk_shared.proofs.book.Book.dispatch.Goals as goal

pub returns-in_default-clause-answer : goal.returns-in_default-clause-answer
returns-in_default-clause-answer g c =
    let r = c.requires in let b = c.args.self.now in
    ask_idle g.K.Kernel.state g.J.Naming.world c.args.cpu b r.sound _ r.going r.idle r.goes c.in_default.ensures.none.0
    (let n = c.len.ensures in let k = b.lines.ok.0 in omega (arith, n, k))

pub unreachable-requires : goal.unreachable-requires
unreachable-requires g c =
    let r = c.requires in let b = c.args.self.now in let t = g.K.Kernel.state c.dispatch.new.self in
    let may = (goes_below g.K.Kernel.state g.J.Naming.world c.args.cpu b r.sound r.goes).0 in
    let got = gets g.K.Kernel.state g.J.Naming.world c.args.cpu b r.sound c.in-Some.proc t (process t c.in-Some.proc).current r.cpu r.idle may c.in-Some.ensures.given refl in
    no_current t c.args.cpu c.in-Some.proc c.current.result c.in_default-current.is c.current.ensures got.runs

pub index_mut-requires : goal.index_mut-requires
index_mut-requires g c =
    let r = c.requires in let b = c.args.self.now in let t = g.K.Kernel.state c.dispatch.new.self in
    let may = (goes_below g.K.Kernel.state g.J.Naming.world c.args.cpu b r.sound r.goes).0 in
    let got = gets g.K.Kernel.state g.J.Naming.world c.args.cpu b r.sound c.in-Some.proc t (process t c.in-Some.proc).current r.cpu r.idle may c.in-Some.ensures.given refl in
    let below = get_below b.contexts.items c.in-Some.proc.0 _ got.context in let k = b.contexts.ok.0 in omega (arith, below, k)

pub unreachable-requires-in_default-take : goal.unreachable-requires-in_default-take
unreachable-requires-in_default-take g c =
    let r = c.requires in let b = c.args.self.now in let t = g.K.Kernel.state c.dispatch.new.self in
    let may = (goes_below g.K.Kernel.state g.J.Naming.world c.args.cpu b r.sound r.goes).0 in
    let got = gets g.K.Kernel.state g.J.Naming.world c.args.cpu b r.sound c.in-Some.proc t (process t c.in-Some.proc).current r.cpu r.idle may c.in-Some.ensures.given refl in
    not_both _ c.take.result c.in_default-take.is (c.take.ensures.value ∙ taken_is b.contexts.items c.in-Some.proc.0 _ c.index_mut.result.now _ got.context
    c.index_mut.ensures.value)

pub push_reserved-requires : goal.push_reserved-requires
push_reserved-requires g c =
    let r = c.requires in let b = c.args.self.now in
    let may = (goes_below g.K.Kernel.state g.J.Naming.world c.args.cpu b r.sound r.goes).0 in
    let room = has_room g.K.Kernel.state g.J.Naming.world c.args.cpu b r.sound may in let k = b.lines.ok.0 in omega (arith, room, k)

pub returns-clause-next : goal.returns-clause-next
returns-clause-next g c =
    let r = c.requires in let b = c.args.self.now in let t = g.K.Kernel.state c.dispatch.new.self in
    let may = (goes_below g.K.Kernel.state g.J.Naming.world c.args.cpu b r.sound r.goes).0 in
    let first = gets g.K.Kernel.state g.J.Naming.world c.args.cpu b r.sound c.in-Some.proc t (process t c.in-Some.proc).current r.cpu r.idle may c.in-Some.ensures.given refl in
    let inc = (current_is t c.args.cpu c.in-Some.proc c.in-Some-current.field-0-0 c.in-Some-current.inc (sym c.in-Some-current.is ∙ c.current.ensures) first.runs).1 in
    let got = gets g.K.Kernel.state g.J.Naming.world c.args.cpu b r.sound c.in-Some.proc t c.in-Some-current.inc r.cpu r.idle may c.in-Some.ensures.given inc in
    rw c.noted-note.ensures
    (sound_more g.K.Kernel.state g.J.Naming.world c.args.cpu b r.sound _ _ r.going refl c.push_reserved.ensures.items t refl refl
    c.push_reserved.ensures.capacity got.steps got.state
    (taken_keeps g.J.Naming.world b.lines.items b.contexts.items _ c.args.cpu c.in-Some.proc _ t got
    (ap (λ x. slice_set b.contexts.items c.in-Some.proc.0 x) c.take.ensures.after)) refl)

pub returns-clause-answer : goal.returns-clause-answer
returns-clause-answer g c =
    let r = c.requires in let b = c.args.self.now in let t = g.K.Kernel.state c.dispatch.new.self in
    let may = (goes_below g.K.Kernel.state g.J.Naming.world c.args.cpu b r.sound r.goes).0 in
    let first = gets g.K.Kernel.state g.J.Naming.world c.args.cpu b r.sound c.in-Some.proc t (process t c.in-Some.proc).current r.cpu r.idle may c.in-Some.ensures.given refl in
    let inc = (current_is t c.args.cpu c.in-Some.proc c.in-Some-current.field-0-0 c.in-Some-current.inc (sym c.in-Some-current.is ∙ c.current.ensures) first.runs).1 in
    let got = gets g.K.Kernel.state g.J.Naming.world c.args.cpu b r.sound c.in-Some.proc t c.in-Some-current.inc r.cpu r.idle may c.in-Some.ensures.given inc in
    let taken = c.take.ensures.value ∙ taken_is b.contexts.items c.in-Some.proc.0 _ c.index_mut.result.now _ got.context c.index_mut.ensures.value in
    let frames = same_frames c.in-Some-take.context _ c.take.result c.in-Some-take.is taken in (
      (
        c.in-Some-current.inc,
        adds g.K.Kernel.state g.J.Naming.world c.args.cpu b r.sound (record b { lines = c.push_reserved.new.self }) _ r.going refl
            c.push_reserved.ensures.items got.steps may,
      ),
      hands_out g.K.Kernel.state g.J.Naming.world c.args.cpu b r.sound (record b { lines = c.push_reserved.new.self }) _ r.going refl c.push_reserved.ensures.items t c.in-Some.proc
          c.in-Some-take.context got.steps got.state got.runs frames,
    )
