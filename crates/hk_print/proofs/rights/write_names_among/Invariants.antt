use Rattle.std.proofs.Common.{◌≡◌, ◌++◌, string_bytes, take}
use Rattle.std.specs.List.{filter}
use Rattle.hk_rights.specs.Rights.{has}
use Rattle.hk_print.proofs.Names.{names_text}
use Rattle.hk_print.proofs.Joined.{separator}
use Rattle.hk_print.proofs.rights.write_names_among.Given as goal

abbrev pub invariant-loop-number : goal.invariant-loop-number
invariant-loop-number l = record {
  text : string_bytes l.out ≡ string_bytes l.initial.out ++ names_text (filter (has l.rights) (take l.number-index l.numbers));
  before : l.separator ≡ separator 43 (filter (has l.rights) (take l.number-index l.numbers));
}
