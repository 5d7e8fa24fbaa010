use Rattle.std.proofs.Common.{◌∙◌, sym, subst, length, Option, Some}
use Rattle.hk_model.specs.declared.names.Proc.{Proc}
use Rattle.hk_table.proofs.QueueWalks.{IsRead, read_proc, read_more, read_smaller, read_all}
use Rattle.hk_table.proofs.queued.ready_of.Goals as goal

pub next-next-requires : goal.next-next-requires
next-next-requires c =
    let known : IsRead c.args.queues.now.ready c.loop-next.all.items (Some c.in-Some.proc) = subst (λ (o : Option Proc). IsRead c.args.queues.now.ready c.loop-next.all.items o)
    c.in-Some.is c.loop-next.invariant in
    c.requires c.in-Some.proc (read_proc c.args.queues.now.ready c.loop-next.all.items c.in-Some.proc known)

pub loop-next-smaller : goal.loop-next-smaller
loop-next-smaller c =
    let known : IsRead c.args.queues.now.ready c.loop-next.all.items (Some c.in-Some.proc) = subst (λ (o : Option Proc). IsRead c.args.queues.now.ready c.loop-next.all.items o)
    c.in-Some.is c.loop-next.invariant in
    read_smaller c.args.queues.now.ready c.loop-next.all.items c.push.new.self.items c.in-Some.proc known c.in_ok-push.ensures.items

pub loop-next-preserved : goal.loop-next-preserved
loop-next-preserved c =
    let known : IsRead c.args.queues.now.ready c.loop-next.all.items (Some c.in-Some.proc) = subst (λ (o : Option Proc). IsRead c.args.queues.now.ready c.loop-next.all.items o)
    c.in-Some.is c.loop-next.invariant in
    read_more c.args.queues.now.ready c.loop-next.all.items c.push.new.self.items c.in-Some.proc c.next-next.result known c.in_ok-push.ensures.items
    (c.next-next.ensures.ready (length c.loop-next.all.items) (sym known.behind))

pub returns : goal.returns
returns c = c.from_vec.ensures ∙ read_all c.args.queues.now.ready c.loop-next.all.items c.loop-next.next c.loop-next.invariant c.in_default.not-Some
