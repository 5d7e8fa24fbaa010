use Rattle.std.proofs.Common.{◌≡◌, ◌++◌, take}
use Rattle.hk_load.proofs.contents.extend.Given as goal

abbrev pub invariant-loop-word : goal.invariant-loop-word
invariant-loop-word l = l.words ≡ l.fn.words ++ take l.word-index l.more
