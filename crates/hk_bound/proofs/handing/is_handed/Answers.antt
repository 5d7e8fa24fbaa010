use Rattle.std.proofs.Common.{◌∙◌, length, Bool, true, false, None, refl, sym, ◌≡◌}
use Rattle.std.specs.Prelude.{◌||◌}
use Rattle.std.proofs.lemmas.Bool.{false≢true}
use Rattle.std.proofs.lemmas.Option.{slice_get_read}
use Rattle.hk_rights.specs.Rights.{has, ENV, unconf_right, env_right}
use Rattle.hk_rights.proofs.Sets.{or_right}
use Rattle.hk_bound.proofs.Handed.{covers_all}
use Rattle.hk_bound.proofs.Sorted.{at_place}
use Rattle.hk_bound.proofs.handing.is_handed.Goals as goal

or_left : (x y : Bool) → x ≡ true → (x || y) ≡ true
or_left true y h = refl
or_left false y h = absurd (false≢true h)

pub returns-then-covers-2 : goal.returns-then-covers-2
returns-then-covers-2 c = λ yes.
    let passing = c.passing_rights-passing.result in
    let handing = c.union-handing.ensures.members in
    let theirs = covers_all c.index-ways-third.result c.union-handing.result (sym c.covers.ensures.value ∙ c.if-covers.true) in
    let mine = covers_all c.get.result c.passing_rights-passing.result (sym c.covers-then-covers.ensures.value ∙ c.if-covers-2.true) in
    record {
      third = c.loop-third.third;
      mine = mine.0;
      theirs = theirs.0;
      takes = sym c.get.ensures ∙ mine.1;
      gives = at_place c.args.ways.now c.loop-third.third c.index-ways-third.result None
          (slice_get_read c.args.ways.now (length c.args.ways.now) c.loop-third.third c.index-ways-third.result refl c.loop-third-test.true c.index-ways-third.is) ∙ theirs.1;
      mine_reaches = (
        λ there. mine.2 unconf_right (c.passing_rights-passing.ensures.unconf ∙ there),
        λ there. mine.2 env_right (c.passing_rights-passing.ensures.env ∙ there),
      );
      theirs_reach = (
        λ there. theirs.2 unconf_right
            (handing unconf_right
            ∙ or_left (has c.passing_rights-passing.result unconf_right) (has ENV unconf_right) (c.passing_rights-passing.ensures.unconf ∙ there)),
        λ there. theirs.2 env_right (handing env_right ∙ or_right (has c.passing_rights-passing.result env_right) (has ENV env_right) refl),
      );
      env = theirs.2 env_right (handing env_right ∙ or_right (has c.passing_rights-passing.result env_right) (has ENV env_right) refl);
    }
