use Rattle.std.proofs.Common.{refl, sym, ◌∙◌}
use Rattle.std.specs.Int.{trailing_zeros, w32}
use Rattle.std.proofs.lemmas.Nat.Bits.{bit_at-trailing_zeros}
use Rattle.hk_rights.proofs.Table.{has-all_rights}
use Rattle.hk_rights.proofs.Words.{HasAll-all_rights}
use Rattle.hk_rights.proofs.right.Right.lowest.Goals as goal

pub invariant_of-result : goal.invariant_of-result
invariant_of-result c =
    let place = bit_at-trailing_zeros w32 c.args.word c.requires.some c.ranges.word.fits in
    let lowest = trailing_zeros w32 c.args.word in
    sym (has-all_rights lowest) ∙ HasAll-all_rights c.args.word c.requires.rights lowest (rw place.1 refl)

pub returns-clause-there : goal.returns-clause-there
returns-clause-there c =
    let place = bit_at-trailing_zeros w32 c.args.word c.requires.some c.ranges.word.fits in
    rw place.1 refl

pub returns-clause-least : goal.returns-clause-least
returns-clause-least c = λ n less.
    let place = bit_at-trailing_zeros w32 c.args.word c.requires.some c.ranges.word.fits in
    rw (place.2 n less) refl
