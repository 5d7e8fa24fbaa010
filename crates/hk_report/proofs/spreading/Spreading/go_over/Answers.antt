use Rattle.std.proofs.Common.{Bool, sym, ◌∙◌, ap, subst}
use Rattle.hk_report.specs.declared.ways.Way.{Way}
use Rattle.hk_report.specs.Hops.{is_made}
use Rattle.hk_report.specs.Fronts.{hop_over, IsWay, IsOnward, AreSound}
use Rattle.hk_report.proofs.SpreadLemmas.{longer_way, sound_more}
use Rattle.hk_report.proofs.spreading.Spreading.go_over.Goals as goal

pub returns : goal.returns
returns c =
    let ground = c.args.ground.now in
    let made = is_made ground.families.now ground.begun ground.histories.now in
    let k = ground.begun.moment in
    let goes : IsOnward made ground.histories.now c.args.way.now.to c.in-Some.onward = record {
      span = c.args.span.now;
      is = c.requires.span;
      handed = c.args.handed;
      goes =
          ap (λ (b : Bool). hop_over c.args.handed b c.args.way.now.to c.args.span.now) (sym c.is_made-made.ensures)
          ∙ sym c.hop_over.ensures ∙ c.in-Some.is;
    } in
    sound_more made ground.histories.now k c.args.params.now c.in_ok-longer.field-0 c.is_new.new.self.ways.items c.keep.new.self.ways.items c.in_ok-keep.ensures
    (subst (λ (way : Way). IsWay made ground.histories.now k c.args.params.now way.to.name way) (sym c.in_ok-longer.ensures)
    (longer_way made ground.histories.now k c.args.params.now c.args.way.now.to.name c.args.way.now c.in-Some.onward c.requires.way goes))
    (subst (AreSound made ground.histories.now k c.args.params.now) (ap (λ v. v.items) (sym c.is_new.ensures)) c.requires.sound)
