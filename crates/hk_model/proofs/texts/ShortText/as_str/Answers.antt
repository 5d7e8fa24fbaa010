use Rattle.std.proofs.lemmas.Str.{IsUtf8-had}
use Rattle.hk_model.proofs.texts.ShortText.as_str.Goals as goal

-- src/texts.rt:50:18
pub from_utf8_unchecked-requires : goal.from_utf8_unchecked-requires
from_utf8_unchecked-requires c = IsUtf8-had _ c.self.invariant.2
