-- The canonical script of a world is read as this world: its lines by the text pass, these by the grammar, and its items
-- as they are loaded.
use Rattle.std.proofs.Common.{◌≡◌, Ok}
use Rattle.hk_model.specs.WorldValue.{WorldValue, IsWorld}
use Rattle.hk_format.specs.Spelling.{script_lines}
use Rattle.hk_format.specs.Canonical.{canon, syntax_of}
use Rattle.hk_format.specs.Worlds.{world}
use Rattle.hk_format.proofs.TextAgain.{text_again}
use Rattle.hk_format.proofs.ItemsAgain.{script_again}
use Rattle.hk_format.proofs.ItemsGood.{syntax_good}
use Rattle.hk_format.proofs.LinesGood.{lines_good}
use Rattle.hk_format.proofs.LoadAgain.{load_again}

pub world_again : (w : WorldValue) → IsWorld w → world (canon w) ≡ Ok w
unfolding world canon
world_again w h = rw (text_again (script_lines (syntax_of w)) (lines_good w h), script_again (syntax_of w) (syntax_good w h), load_again w h)
