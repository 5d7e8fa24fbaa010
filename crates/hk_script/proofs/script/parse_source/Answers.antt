use Rattle.hk_script.specs.Progresses.{items_after}
use Rattle.hk_script.proofs.ProgressLemmas.{read_good}
use Rattle.hk_script.proofs.script.parse_source.Goals as goal

pub invariant_of-result : goal.invariant_of-result
invariant_of-result c = (
  read_good c.args.source.now (items_after c.new-progress.result) (items_after c.read_lines.new.progress) c.in_ok-items.items c.new-progress.ensures.items
      c.in_ok-read_lines.ensures.ok c.in_ok-items.ensures.items,
  c.in_ok-items.ensures.names,
)
