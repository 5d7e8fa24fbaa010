use Rattle.std.proofs.Common.{Ok, refl, sym, ap, subst, ◌∙◌}
use Rattle.std.proofs.lemmas.Result.{err_from_is_err_and}
use Rattle.hk_format.specs.Outcomes.{Fails}
use Rattle.hk_script.specs.Readings.{read_of, open_of, after_part}
use Rattle.hk_script.proofs.ReadingLemmas.{line_inside, only_memory}
use Rattle.hk_script.proofs.reading.Reading.line.Goals as goal

pub returns-in_err-line-in-Some : goal.returns-in_err-line-in-Some
returns-in_err-line-in-Some c =
    let p = err_from_is_err_and c.from_residual.result c.from_residual.ensures.1 in
    let r = read_of c.args.self.now in
    let turn = line_inside r c.args.self.now.unclosed c.in-Some.opened c.args.number _ _ c.new-line.ensures c.in-Some.is in
    rw (p.1, p.2) (subst (λ o. Fails c.in_err-line-in-Some.field-0.0 o) (sym turn) (c.in_err-line-in-Some.ensures r))

pub returns-in_err-close-in-Some : goal.returns-in_err-close-in-Some
returns-in_err-close-in-Some c =
    let p = err_from_is_err_and c.from_residual-in_err-close-in-Some.result c.from_residual-in_err-close-in-Some.ensures.1 in
    rw (p.1, p.2) (only_memory c.in_err-close-in-Some.field-0.0 _ _ _ refl (c.in_err-close-in-Some.ensures (open_of c.line.new.self) refl))

pub returns-in_ok-close-in-Some : goal.returns-in_ok-close-in-Some
returns-in_ok-close-in-Some c =
    let r = read_of c.args.self.now in
    let o = open_of c.line.new.self in
    line_inside r c.args.self.now.unclosed c.in-Some.opened c.args.number _ _ c.new-line.ensures c.in-Some.is
    ∙ c.in_ok-line-in-Some.ensures r ∙ ap (λ b. Ok (after_part r o b)) c.if-branch.true ∙ c.in_ok-close-in-Some.ensures o refl

pub returns-else-branch : goal.returns-else-branch
returns-else-branch c =
    let r = read_of c.args.self.now in
    line_inside r c.args.self.now.unclosed c.in-Some.opened c.args.number _ _ c.new-line.ensures c.in-Some.is
    ∙ c.in_ok-line-in-Some.ensures r ∙ ap (λ b. Ok (after_part r (open_of c.line.new.self) b)) c.if-branch.false
