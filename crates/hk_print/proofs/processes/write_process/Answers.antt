use Rattle.std.proofs.Common.{◌≡◌, ◌++◌, ◌∷◌, [], ◌∙◌, sym, ap, refl, List, ℕ, string_bytes, rules}
use Rattle.std.specs.Prelude.{codes}
use Rattle.hk_format.specs.declared.syntax.Head.TheVariants.{ProcessIs}
use Rattle.hk_format.specs.Names.{spoken, code_text}
use Rattle.hk_format.specs.Canonical.{entry_parts}
use Rattle.hk_print.specs.ItemTexts.{parts_text}
use Rattle.hk_print.proofs.Items.{item_written, entries_spelled}
use Rattle.hk_print.proofs.Pieces.{process_spelled}
use Rattle.hk_print.proofs.processes.write_process.Goals as goal

pub returns : goal.returns
returns c =
    let s = spoken c.args.world.now in
    let label = c.args.process.now.label in
    let code = code_text s c.args.process.now.code in
    let entries = c.args.process.now.slots in
    let wrote : string_bytes c.write_head.new.out ≡ string_bytes c.args.out.now ++ (codes "process " ++ (label ++ 32 ∷ (code ++ 10 ∷ []))) = search rules in
    let begun = wrote ∙ ap (λ (t : List ℕ). string_bytes c.args.out.now ++ t) (sym (process_spelled label code)) in
    let filled : string_bytes c.write_entries.new.out ≡ string_bytes c.write_head.new.out ++ parts_text (entry_parts s entries) = rw (entries_spelled s entries) (search rules) in
    item_written (ProcessIs label code) (entry_parts s entries) (string_bytes c.args.out.now) (string_bytes c.write_head.new.out) (string_bytes c.write_entries.new.out)
    (string_bytes c.push_str.new.self) refl begun filled (search rules)
