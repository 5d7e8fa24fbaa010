use Rattle.std.proofs.Common.{map}
use Rattle.hk_text.specs.Views.{line_seen}
use Rattle.hk_text.proofs.PiecesGood.{text_good}
use Rattle.hk_format.proofs.ExactItems.{script_exactly}
use Rattle.hk_script.proofs.SyntaxGood.{script_good}
use Rattle.hk_script.proofs.spelled.lines_spell_their_items.Goals as goal

pub returns : goal.returns
returns c =
    let lines = map (line_seen c.args.source.now) c.args.lines.now in
    script_exactly lines c.args.items.now (text_good c.args.source.now lines c.requires) (λ h. script_good c.args.source.now lines c.args.items.now c.requires h)
