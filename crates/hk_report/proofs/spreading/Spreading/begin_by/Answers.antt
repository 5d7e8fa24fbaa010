use Rattle.std.proofs.Common.{refl, sym, ◌∙◌, ap, subst, Some}
use Rattle.hk_report.specs.Hops.{is_made}
use Rattle.hk_report.specs.Fronts.{AreSound}
use Rattle.hk_report.proofs.SpreadLemmas.{begun_way, got_slice, sound_more}
use Rattle.hk_report.proofs.spreading.Spreading.begin_by.Goals as goal

pub returns : goal.returns
returns c =
    let ground = c.args.ground.now in
    let made = is_made ground.families.now ground.begun ground.histories.now in
    let k = ground.begun.moment in
    let got = got_slice c.args.params.now c.args.arg c.in-Some.param.now c.in-Some.ensures.lookup.3.0 (c.in-Some.ensures.lookup.3.1) in
    let held = got ∙ ap Some (sym c.cap.ensures ∙ c.in-Some-cap.is) in
    sound_more made ground.histories.now k c.args.params.now _ c.is_new.new.self.ways.items c.keep.new.self.ways.items c.in_ok-keep.ensures
    (begun_way made ground.histories.now k c.args.params.now _ c.args.arg c.in-Some-cap.cap held refl c.new-hops.ensures c.arrived_by-to.ensures)
    (subst (AreSound made ground.histories.now k c.args.params.now) (ap (λ v. v.items) (sym c.is_new.ensures)) c.requires.sound)
