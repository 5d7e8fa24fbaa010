use Rattle.std.proofs.Common.{◌≡◌, ◌++◌, take, string_bytes}
use Rattle.std.specs.List.{flat_map}
use Rattle.hk_format.specs.Names.{spoken}
use Rattle.hk_print.specs.ItemTexts.{param_line}
use Rattle.hk_print.proofs.entries.write_params.Given as goal

abbrev pub invariant-loop-param : goal.invariant-loop-param
invariant-loop-param l = string_bytes l.out ≡ string_bytes l.initial.out ++ flat_map (param_line (spoken l.world)) (take l.param-index l.params)
