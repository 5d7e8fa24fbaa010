use Rattle.std.proofs.Common.{◌≡◌, ◌++◌, ◌∷◌, [], ◌∙◌, sym, ap, refl, List, ℕ, string_bytes, rules}
use Rattle.std.specs.Prelude.{codes}
use Rattle.hk_format.specs.declared.syntax.Head.TheVariants.{ProcedureIs}
use Rattle.hk_format.specs.Names.{spoken, code_text}
use Rattle.hk_format.specs.Canonical.{entry_parts, param_parts}
use Rattle.hk_print.specs.ItemTexts.{parts_text}
use Rattle.hk_print.proofs.Items.{item_of_two, entries_spelled, params_spelled}
use Rattle.hk_print.proofs.Pieces.{procedure_spelled}
use Rattle.hk_print.proofs.objects.write_procedure.Goals as goal

pub returns : goal.returns
returns c =
    let s = spoken c.args.world.now in
    let label = c.args.label.now in
    let code = code_text s c.args.code in
    let params = c.args.params.now in
    let entries = c.args.entries.now in
    let wrote : string_bytes c.write_head.new.out ≡ string_bytes c.args.out.now ++ (codes "procedure " ++ (label ++ 32 ∷ (code ++ 10 ∷ []))) = search rules in
    let begun = wrote ∙ ap (λ (t : List ℕ). string_bytes c.args.out.now ++ t) (sym (procedure_spelled label code)) in
    let half : string_bytes c.write_params.new.out ≡ string_bytes c.write_head.new.out ++ parts_text (param_parts s params) = rw (params_spelled s params) (search rules) in
    let filled : string_bytes c.write_entries.new.out ≡ string_bytes c.write_params.new.out ++ parts_text (entry_parts s entries) = rw (entries_spelled s entries) (search rules) in
    item_of_two (ProcedureIs label code) (param_parts s params) (entry_parts s entries) (string_bytes c.args.out.now) (string_bytes c.write_head.new.out)
    (string_bytes c.write_params.new.out) (string_bytes c.write_entries.new.out) (string_bytes c.push_str.new.self) refl begun half filled (search rules)
