use Rattle.std.proofs.Common.{◌≡◌, ◌++◌, take, string_bytes}
use Rattle.std.specs.List.{flat_map}
use Rattle.hk_model.specs.declared.world.Code.{Code}
use Rattle.hk_format.specs.Canonical.{code_item}
use Rattle.hk_print.specs.ItemTexts.{item_text}
use Rattle.hk_print.proofs.codes.write_codes.Given as goal

abbrev pub invariant-loop-code : goal.invariant-loop-code
invariant-loop-code l = string_bytes l.out ≡ string_bytes l.initial.out ++ flat_map (λ (x : Code). item_text (code_item x)) (take l.code-index l.code-items)
