use Rattle.hk_table.proofs.KeptMeets.{settled_kept}
use Rattle.hk_table.proofs.Stays.{kept_queued, kept_frees}
use Rattle.hk_table.proofs.settling.settle.Goals as goal

pub returns-clause-kept : goal.returns-clause-kept
returns-clause-kept c =
    λ s waiting tells.
    settled_kept s c.args.objects.now.slots waiting c.args.counts.now c.next_name-next.ensures.apart tells _ c.settle.new.objects.slots c.settle.ensures.kept c.settle.ensures.left

pub returns-clause-queued : goal.returns-clause-queued
returns-clause-queued c =
    λ q ps counted queued. kept_queued c.args.objects.now.slots c.settle.new.objects.slots q ps c.args.counts.now c.settle.ensures.kept c.settle.ensures.left counted queued

pub returns-clause-free : goal.returns-clause-free
returns-clause-free c = kept_frees c.args.objects.now.slots c.settle.new.objects.slots c.args.counts.now c.settle.ensures.kept c.settle.ensures.left
