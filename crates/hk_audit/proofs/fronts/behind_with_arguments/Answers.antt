use Rattle.std.proofs.Common.{◌≡◌, ◌∙◌, ◌∷◌, ◌++◌, ℕ, ap, sym}
use Rattle.std.specs.Fmt.{decimal}
use Rattle.hk_audit.proofs.TextsBehind.{with_arguments}
use Rattle.hk_audit.proofs.fronts.behind_with_arguments.Goals as goal

pub returns : goal.returns
returns c =
    let number : c.from.result ≡ c.args.into.now.0 = c.from.ensures in
    with_arguments c.args.word.now c.args.of.now c.args.args.now c.args.into.now c.args.bytes.now c.in_ok-slots.slots.now c.in_ok-last.last.now c.in_ok-rest.rest.now
    c.in_ok-slots.ensures c.in_ok-last.ensures (ap (λ (n : ℕ). (32 ∷ decimal n) ++ c.in_ok-rest.rest.now) (sym number) ∙ c.in_ok-rest.ensures)
