use Rattle.hk_table.proofs.KeptMeets.{collected_rooted}
use Rattle.hk_table.proofs.Stays.{reached_queued, reached_frees}
use Rattle.hk_table.proofs.settling.collect.Goals as goal

pub returns-clause-rooted : goal.returns-clause-rooted
returns-clause-rooted c =
    λ s waiting tells.
    collected_rooted s c.args.objects.now.slots waiting c.args.counts.now c.next_name-next.ensures.apart tells _ c.collect.new.objects.slots c.collect.ensures.reached
    c.collect.ensures.left

pub returns-clause-queued : goal.returns-clause-queued
returns-clause-queued c =
    λ q ps counted queued. reached_queued c.args.objects.now.slots c.collect.new.objects.slots q ps c.args.counts.now c.collect.ensures.reached c.collect.ensures.left counted
    queued

pub returns-clause-free : goal.returns-clause-free
returns-clause-free c = reached_frees c.args.objects.now.slots c.collect.new.objects.slots c.args.counts.now c.collect.ensures.reached c.collect.ensures.left
