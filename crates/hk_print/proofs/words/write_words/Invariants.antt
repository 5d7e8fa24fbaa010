use Rattle.std.proofs.Common.{◌≡◌, ◌++◌, ◌≤◌, drop, string_bytes}
use Rattle.hk_format.specs.Canonical.{words_from}
use Rattle.hk_print.specs.WordLines.{begun_lines}
use Rattle.hk_print.proofs.words.write_words.Given as goal

abbrev pub invariant-loop-word : goal.invariant-loop-word
invariant-loop-word l = record {
  few : l.used ≤ 1000;
  text : string_bytes l.out ++ begun_lines (words_from l.used (drop l.word-index l.words)) ≡ string_bytes l.initial.out ++ begun_lines (words_from 5 l.words);
}
