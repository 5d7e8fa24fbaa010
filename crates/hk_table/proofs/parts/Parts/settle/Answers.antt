use Rattle.hk_table.proofs.Opens.{told}
use Rattle.hk_table.proofs.Unnamed.{tells_told}
use Rattle.hk_table.proofs.WhatIsLeft.{waits_counted, left_counted, left_joined}
use Rattle.hk_table.proofs.parts.Parts.settle.Goals as goal

pub settle_and_forget-requires : goal.settle_and_forget-requires
settle_and_forget-requires c = c.self.invariant.told.held.counted

pub invariant_of-self : goal.invariant_of-self
invariant_of-self c = record {
  joined = left_joined c.self.inside.objects c.settle_and_forget.new.objects c.self.inside.queues c.self.inside.processes c.self.inside.stacks c.self.inside.walker
      c.settle_and_forget.new.walker
      c.self.invariant.joined
      (c.settle_and_forget.ensures.queued c.self.inside.queues c.self.inside.processes
      (waits_counted c.self.inside.objects c.self.inside.stacks.stacks c.self.inside.processes c.self.inside.first_new c.self.inside.counts c.self.invariant.told)
      c.self.invariant.joined.queued) (c.settle_and_forget.ensures.walks c.self.invariant.joined.right);
  told = left_counted c.self.inside.objects c.settle_and_forget.new.objects c.self.inside.stacks.stacks c.self.inside.processes c.self.inside.first_new c.self.inside.counts
      c.settle_and_forget.new.counts c.self.invariant.told c.settle_and_forget.ensures.left c.settle_and_forget.ensures.free c.settle_and_forget.ensures.counted
      c.settle_and_forget.ensures.outside;
}

pub returns : goal.returns
returns c =
    let s = told c.self.inside.objects c.self.inside.queues c.self.inside.processes c.self.inside.stacks c.self.inside.first_new c.self.inside.events c.self.inside.limit in
    let e = c.settle_and_forget.ensures.kept s c.self.inside.queues.waiting
    (tells_told c.self.inside.objects c.self.inside.queues c.self.inside.processes c.self.inside.stacks c.self.inside.first_new c.self.inside.events c.self.inside.limit
    c.self.inside.counts c.as_slice-stacks.ensures.numbered c.self.invariant.told) in
    let n = c.settle_and_forget.ensures.next in
    rw (← c.self.view_is) (λ i. record s { objects = e i; next_name = n i })
