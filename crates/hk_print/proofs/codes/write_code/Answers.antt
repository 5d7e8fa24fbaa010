use Rattle.std.proofs.Common.{◌≡◌, ◌++◌, refl, string_bytes, rules}
use Rattle.hk_format.specs.declared.syntax.Head.TheVariants.{CodeIs}
use Rattle.hk_format.specs.Canonical.{code_parts}
use Rattle.hk_format.specs.Spelling.{head_pieces}
use Rattle.hk_print.specs.ItemTexts.{pieces_line}
use Rattle.hk_print.proofs.Items.{item_written}
use Rattle.hk_print.proofs.codes.write_code.Goals as goal

pub returns : goal.returns
returns c =
    let label = c.args.code.now.label in
    let steps = c.args.code.now.steps in
    let begun : string_bytes c.write_name.new.out ≡ string_bytes c.args.out.now ++ pieces_line (head_pieces (CodeIs label)) = search rules in
    item_written (CodeIs label) (code_parts steps 0 steps) (string_bytes c.args.out.now) (string_bytes c.write_name.new.out) (string_bytes c.write_steps.new.out)
    (string_bytes c.push_str.new.self) refl begun (search rules) (search rules)
