use Rattle.std.proofs.Common.{◌≡◌, ◌∙◌, ℕ, Option, Some, None, subst, sym}
use Rattle.hk_bound.specs.Columns.{cell}
use Rattle.hk_bound.specs.Rules.{EntriesRule, ParamsRule, TypeRule, MergesRule, ObjectRule}
use Rattle.hk_bound.specs.Merges.{SettledRule}
use Rattle.hk_bound.proofs.FindsLemmas.{finds_four, finds_more}
use Rattle.hk_bound.proofs.Sources.{same_some}
use Rattle.hk_bound.proofs.gaps.Table.object_gaps.Goals as goal

pub returns-in_default : goal.returns-in_default
returns-in_default c =
    let w = c.args.self.now.world.now in
    let forms = c.args.self.now.forms.now in
    let rows = c.args.self.now.rows.now in
    let none : cell rows c.args.process c.args.name ≡ None = sym c.get.ensures ∙ c.in_default.is in
    finds_more w forms rows (EntriesRule w forms rows c.args.process c.args.name)
    (SettledRule w forms rows c.args.process c.args.settled.now.sets.items c.args.settled.now.sets.items (ObjectRule w forms rows c.args.process c.args.name)) c.args.gaps.now.items c.take_entries.new.gaps.items
    (λ entries known. (
      record {
        entries = entries;
        params = λ b at. absurd (no_rights b (sym none ∙ at));
        types = λ b at. absurd (no_rights b (sym none ∙ at));
        merges = λ b at. absurd (no_rights b (sym none ∙ at));
      },
      known,
    ))
    (c.in_ok-take_entries.ensures {u = tt})
  where
    no_rights : (b : ℕ) → ◌≡◌ {A = Option ℕ} None (Some b) → ⊥
    no_rights b e = cc

pub returns : goal.returns
returns c =
    let w = c.args.self.now.world.now in
    let forms = c.args.self.now.forms.now in
    let rows = c.args.self.now.rows.now in
    let e : cell rows c.args.process c.args.name ≡ Some c.in-Some.by = sym c.get.ensures ∙ c.in-Some.is in
    finds_more w forms rows ((EntriesRule w forms rows c.args.process c.args.name × ParamsRule w forms rows c.args.process c.args.name c.in-Some.by)
    × (TypeRule w forms rows c.args.process c.args.name c.in-Some.by
    × SettledRule w forms rows c.args.process c.args.settled.now.sets.items c.merge_unsettled.new.settled.sets.items (MergesRule w forms rows c.args.process c.args.name c.in-Some.by)))
    (SettledRule w forms rows c.args.process c.args.settled.now.sets.items c.merge_unsettled.new.settled.sets.items (ObjectRule w forms rows c.args.process c.args.name))
    c.args.gaps.now.items c.merge_unsettled.new.gaps.items
    (λ h known. let after = h.1.1 known in (
      record {
        entries = h.0.0;
        params = λ b at. subst (λ (x : ℕ). ParamsRule w forms rows c.args.process c.args.name x) (same_some (sym e ∙ at)) h.0.1;
        types = λ b at. subst (λ (x : ℕ). TypeRule w forms rows c.args.process c.args.name x) (same_some (sym e ∙ at)) h.1.0;
        merges = λ b at. subst (λ (x : ℕ). MergesRule w forms rows c.args.process c.args.name x) (same_some (sym e ∙ at)) after.0;
      },
      after.1,
    ))
    (finds_four w forms rows (EntriesRule w forms rows c.args.process c.args.name) (ParamsRule w forms rows c.args.process c.args.name c.in-Some.by)
    (TypeRule w forms rows c.args.process c.args.name c.in-Some.by)
    (SettledRule w forms rows c.args.process c.args.settled.now.sets.items c.merge_unsettled.new.settled.sets.items (MergesRule w forms rows c.args.process c.args.name c.in-Some.by))
    c.args.gaps.now.items c.take_entries.new.gaps.items c.take_params.new.gaps.items c.make_form.new.gaps.items c.merge_unsettled.new.gaps.items
    (c.in_ok-take_entries.ensures {u = tt}) (c.in_ok-take_params.ensures {u = tt}) (c.in_ok-make_form.ensures {u = tt}) (c.in_ok-merge_unsettled.ensures {u = tt}))
