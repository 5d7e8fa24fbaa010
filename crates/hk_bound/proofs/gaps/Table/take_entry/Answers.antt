use Rattle.std.proofs.Common.{◌≡◌, ◌∙◌, ℕ, true, false, subst, sym}
use Rattle.std.specs.Prelude.{◌⊎◌}
use mathlib.Core.Logic.{inl, inr}
use Rattle.std.proofs.lemmas.Bool.{true≢false}
use Rattle.hk_bound.specs.Taking.{Slots}
use Rattle.hk_bound.specs.Columns.{proc_at, CellFollows}
use Rattle.hk_bound.specs.Rules.{ListedWithEnv}
use Rattle.hk_bound.proofs.Sources.{HasEnvAt, listed_follows, taking_follows, entry_follows, entry_below, held_column}
use Rattle.hk_bound.proofs.gaps.Table.take_entry.Goals as goal

pub offer-requires-clause-follows : goal.offer-requires-clause-follows
offer-requires-clause-follows c =
    let w = c.args.self.now.world.now in
    let forms = c.args.self.now.forms.now in
    let rows = c.args.self.now.rows.now in
    let k = c.requires.known in
    let a = c.requires.among in
    let held = c.in-Some.held in
    let by : ((c.args.taking.now.copied ≡ false) ⊎ ListedWithEnv w forms rows c.args.name c.in-Some.held.0) → c.args.taking.now.copied ≡ true → HasEnvAt w forms rows k.follow
    c.args.name c.in-Some.held.0 =
    λ h copied. elim h [
      | inl none ↦ absurd (true≢false (sym copied ∙ none))
      | inr listed ↦ listed_follows w forms rows k.follow k.world c.args.name c.in-Some.held.0
          c.requires.name listed
    ] in
    subst (λ (s : ℕ). CellFollows w forms (Slots (proc_at c.args.process)) c.in-Some.held.0 s) (sym c.reduced_rights-rights.ensures)
    (taking_follows w forms rows k.follow c.args.process c.args.name c.args.taking.now c.in-Some.held.0 c.in-Some.held.1 c.requires.process c.requires.name c.requires.takes
    (by (c.takes.ensures.0 c.if-takes.true))
    (entry_follows w forms k.world c.args.name a.place c.args.entry.now c.in-Some.held.0 c.in-Some.held.1 a.is c.in-Some.ensures.0))

pub offer-requires-clause-column : goal.offer-requires-clause-column
offer-requires-clause-column c =
    let w = c.args.self.now.world.now in
    let a = c.requires.among in
    held_column w c.args.self.now.forms.now c.args.entry.now c.in-Some.held.0 c.in-Some.held.1
    (entry_below w c.args.self.now.forms.now c.requires.known.world c.args.name a.place c.args.entry.now a.is) c.in-Some.ensures.0
