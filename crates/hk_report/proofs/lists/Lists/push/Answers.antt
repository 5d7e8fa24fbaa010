use Rattle.std.proofs.Common.{◌≡◌, ◌∙◌, subst, sym, ap, length, arith, ◌++◌}
use Rattle.std.proofs.lemmas.List.{length-append}
use Rattle.hk_report.specs.declared.lists.Place.{Place}
use Rattle.hk_report.specs.Lists.{ArePlaces}
use Rattle.hk_report.proofs.ListLemmas.{lists_kept, lists_more, places_kept, places_more, on_err}
use Rattle.hk_report.proofs.lists.Lists.push.Goals as goal

-- items behind the others change no list
pub returns-in_err-push-clause-err : goal.returns-in_err-push-clause-err
returns-in_err-push-clause-err g c =
    let old = c.self.inside in
    on_err c.from_residual-in_err-push.result
    (lists_kept old.items.items c.args.items.now c.extend_from_slice.new.self.items old.places.items c.push.new.self.items c.self.invariant c.in_ok-extend_from_slice.ensures.items
    c.in_err-push.ensures.items
    ∙ c.self.view_is)

pub invariant_of-self-2 : goal.invariant_of-self-2
invariant_of-self-2 g c =
    let old = c.self.inside in
    let e = c.in_ok-extend_from_slice.ensures.items in
    let all = c.extend_from_slice.new.self.items in
    let n = length-append old.items.items c.args.items.now in
    let m : length all ≡ length (old.items.items ++ c.args.items.now) = ap length e in
    let place = c.in_ok-place.place in
    let start = ap (λ (p : Place). p.start) c.in_ok-place.ensures in
    let end = ap (λ (p : Place). p.end) c.in_ok-place.ensures in
    let s = c.len.ensures in
    subst (ArePlaces (length all)) (sym c.in_ok-push.ensures.items)
    (places_more old.places.items _ (length all) (places_kept old.places.items (length old.items.items) (length all) (omega (arith, n, m)) c.self.invariant)
    (omega (arith, start, end), omega (arith, n, m, end, s)))

pub returns-clause-ok : goal.returns-clause-ok
returns-clause-ok g c =
    let old = c.self.inside in
    let all = c.extend_from_slice.new.self.items in
    let place = c.in_ok-place.place in
    let n = length-append old.items.items c.args.items.now in
    let m : length all ≡ length (old.items.items ++ c.args.items.now) = ap length c.in_ok-extend_from_slice.ensures.items in
    let first = ap (λ (p : Place). p.start) c.in_ok-place.ensures in
    let last = ap (λ (p : Place). p.end) c.in_ok-place.ensures in
    let s = c.len.ensures in
    let start : place.start ≡ length old.items.items = omega (arith, first, s) in
    let end : place.end ≡ length all = omega (arith, n, m, last, s) in
    lists_more c.args.self.now old.items.items c.args.items.now all old.places.items c.push.new.self.items
    place c.self.view_is c.self.invariant c.in_ok-extend_from_slice.ensures.items c.in_ok-push.ensures.items
    start end
