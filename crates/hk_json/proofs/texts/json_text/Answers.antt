use Rattle.std.proofs.Common.{◌∙◌, Some, ap}
use Rattle.serde_json.specs.Data.{Data}
use Rattle.serde_json.specs.Read.{read}
use Rattle.serde_json.specs.View.{view}
use Rattle.serde_json.specs.Written.{compact_text}
use Rattle.hk_json.proofs.Known.{known_flat, known_whole}
use Rattle.hk_json.proofs.texts.json_text.Goals as goal

pub returns-clause-text : goal.returns-clause-text
returns-clause-text c =
    c.in_ok-written.ensures.same ∙ c.in_ok-text.ensures.text (known_whole (view c.in_ok-value.value) c.args.world.now c.in_ok-value.ensures) ∙ ap compact_text c.in_ok-value.ensures

pub returns-clause-reads : goal.returns-clause-reads
returns-clause-reads c = (
  c.in_ok-written.ensures.utf8,
  ap read c.in_ok-written.ensures.same ∙ c.in_ok-text.ensures.reads_back (known_flat (view c.in_ok-value.value) c.args.world.now c.in_ok-value.ensures)
      ∙ ap (λ (d : Data). Some d) c.in_ok-value.ensures,
)
