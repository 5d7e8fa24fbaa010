use Rattle.std.proofs.Common.{◌≡◌, ◌∙◌, ◌++◌, ◌∷◌, [], ap, length, arith, List}
use Rattle.std.proofs.lemmas.List.{length-append}
use Rattle.std.specs.Prelude.{slice_index_or}
use Rattle.std.specs.List.{slice_range}
use Rattle.hk_report.specs.declared.lists.Place.{Place}
use Rattle.hk_report.specs.Lists.{no_place}
use Rattle.hk_report.proofs.ListLemmas.{length_range, lists_longer}
use Rattle.hk_report.proofs.lists.Lists.push_longer.Goals as goal

pub returns : goal.returns
returns g c =
    let old = c.self.inside in
    let all = c.add_longer.new.items.items in
    let place = c.in_ok-place.place in
    let shorter = c.place_at-shorter.result in
    let within = c.place_at-shorter.ensures.within in
    let low = within.0 in
    let high = within.1 in
    let first = ap (λ (p : Place). p.start) c.in_ok-place.ensures in
    let last = ap (λ (p : Place). p.end) c.in_ok-place.ensures in
    let s = c.len-items.ensures in
    let start : place.start ≡ length old.items.items = omega (arith, first, s) in
    let long = ap length c.in_ok-add_longer.ensures.items in
    let n = length-append old.items.items (slice_range old.items.items shorter.start shorter.end ++ c.args.item ∷ []) in
    let m = length-append (slice_range old.items.items shorter.start shorter.end) (c.args.item ∷ []) in
    let r = length_range old.items.items shorter (low, omega (arith, high, s)) in
    let end : place.end ≡ length all = omega (arith, long, n, m, r, last, low, s) in
    let at = c.place_at-shorter.ensures.value ∙ ap (λ (ps : List Place). slice_index_or ps c.args.number no_place) c.as_slice.ensures.value in
    lists_longer c.args.self.now c.args.number c.args.item old.items.items all old.places.items c.push.new.self.items shorter
    place c.self.view_is c.self.invariant at c.in_ok-add_longer.ensures.items
    c.in_ok-push.ensures.items start end
