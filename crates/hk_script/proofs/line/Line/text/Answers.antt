use Rattle.hk_script.proofs.TextBytes.{text_utf8}
use Rattle.hk_script.proofs.line.Line.text.Goals as goal

pub from_utf8_unchecked-text-requires : goal.from_utf8_unchecked-text-requires
from_utf8_unchecked-text-requires c = rw c.bytes.ensures (text_utf8 _ c.requires)
