use Rattle.std.proofs.Common.{◌≡◌, ◌<◌, ◌≤◌, List, [], length, refl, sym, subst, arith}
use Rattle.std.specs.Prelude.{slice_index_or}
use Rattle.hk_model.specs.declared.entries.Entry.{Entry}
use Rattle.hk_model.specs.State.{State}
use Rattle.hk_model.specs.Rule.{depth}
use Rattle.hk_table.specs.Stacked.{slots_of, top_of}
use Rattle.hk_table.proofs.FrameMoves.{depth_is}
use Rattle.hk_table.proofs.CallMoves.{call_joined, call_told}
use Rattle.hk_table.proofs.Telling.{can_hold_entries, top_pushed, frame_counted, current_counted}
use Rattle.hk_table.proofs.parts.Parts.add_call.Goals as goal

pub push-requires-clause-depth : goal.push-requires-clause-depth
push-requires-clause-depth c =
    subst (λ m. m < 64) (depth_is c.self.inside.stacks.stacks c.self.inside.stacks.next c.args.proc.0 c.depth-deep.ensures.numbered)
    (subst (λ (s : State). depth s c.args.proc < 64) (sym c.self.view_is) c.requires.depth)

pub hold_top-requires : goal.hold_top-requires
hold_top-requires c =
    let known : c.args.proc.0 < length c.self.inside.processes = subst (λ (s : State). c.args.proc.0 < length s.processes) (sym c.self.view_is) c.requires.known in
    let low : c.args.proc.0 < length c.self.inside.stacks.stacks = omega (arith, c.self.invariant.joined.stacked, known) in
    let few : length c.args.space.now ≤ 64 = subst (λ (es : List Entry). length es ≤ 64) c.as_slice-slots.ensures.value (omega (arith, c.as_slice-slots.ensures.all)) in
    let is : slots_of (top_of (slice_index_or c.push.new.self.stacks c.args.proc.0 [])) ≡ c.args.space.now =
    top_pushed c.self.inside.stacks c.push.new.self c.args.proc.0 _ low c.in_ok-push.ensures.ok in
    can_hold_entries c.self.inside.objects c.self.inside.stacks.stacks c.self.inside.processes c.self.inside.first_new c.self.inside.counts
    (slots_of (top_of (slice_index_or c.push.new.self.stacks c.args.proc.0 [])))
    c.self.invariant.told (subst (λ (es : List Entry). length es ≤ 256) (sym is) (omega (arith, few)))

pub invariant_of-self-2 : goal.invariant_of-self-2
invariant_of-self-2 c =
    record {
      joined = call_joined c.self.inside.objects c.self.inside.queues c.self.inside.processes c.set_current.new.self c.self.inside.stacks c.push.new.self c.self.inside.walker
          c.args.proc _
          c.next-inc.result (subst (λ (s : State). c.args.proc.0 < length s.processes) (sym c.self.view_is) c.requires.known) c.self.invariant.joined c.depth-deep.ensures.numbered
          c.next-inc.ensures c.next-inc.ensures c.in_ok-push.ensures.ok c.set_current.ensures;
      told =
          let known : c.args.proc.0 < length c.self.inside.processes = subst (λ (s : State). c.args.proc.0 < length s.processes) (sym c.self.view_is) c.requires.known in
          let low : c.args.proc.0 < length c.self.inside.stacks.stacks = omega (arith, c.self.invariant.joined.stacked, known) in
          let few : length c.args.space.now ≤ 64 = subst (λ (es : List Entry). length es ≤ 64) c.as_slice-slots.ensures.value (omega (arith, c.as_slice-slots.ensures.all)) in
          let room : length (slice_index_or c.self.inside.stacks.stacks c.args.proc.0 []) < 64 =
          subst (λ m. m < 64) (depth_is c.self.inside.stacks.stacks c.self.inside.stacks.next c.args.proc.0 c.depth-deep.ensures.numbered)
          (subst (λ (s : State). depth s c.args.proc < 64) (sym c.self.view_is) c.requires.depth) in
          current_counted c.self.inside.objects c.push.new.self.stacks c.self.inside.processes c.set_current.new.self c.self.inside.first_new c.hold_top.new.counts c.args.proc
          c.next-inc.result known
          (frame_counted c.self.inside.objects c.self.inside.stacks c.push.new.self c.self.inside.processes c.self.inside.first_new c.self.inside.counts c.hold_top.new.counts
          c.args.proc.0 _ (slots_of (top_of (slice_index_or c.push.new.self.stacks c.args.proc.0 []))) low room few c.self.invariant.told c.in_ok-push.ensures.ok refl c.hold_top.ensures) c.set_current.ensures;
    }

pub returns-clause-ok : goal.returns-clause-ok
returns-clause-ok c =
    let known : c.args.proc.0 < length c.self.inside.processes = subst (λ (s : State). c.args.proc.0 < length s.processes) (sym c.self.view_is) c.requires.known in
    let low : c.args.proc.0 < length c.self.inside.stacks.stacks = omega (arith, c.self.invariant.joined.stacked, known) in
    call_told c.self.inside.objects c.self.inside.queues c.self.inside.processes c.set_current.new.self c.self.inside.stacks c.push.new.self c.self.inside.first_new
    c.self.inside.events c.self.inside.limit c.args.self.now c.args.proc c.args.procedure c.args.into c.args.confined c.args.space.now c.next-inc.result c.self.view_is low
    c.depth-deep.ensures.numbered (c.self.invariant.joined.current c.args.proc.0 known) c.requires.lives c.next-inc.ensures c.in_ok-push.ensures.ok c.set_current.ensures
