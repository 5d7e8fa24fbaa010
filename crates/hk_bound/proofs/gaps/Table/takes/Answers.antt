use Rattle.std.proofs.Common.{◌∙◌, refl, sym}
use mathlib.Core.Logic.{inl, inr}
use Rattle.std.proofs.lemmas.Bool.{true≢false}
use Rattle.hk_bound.proofs.Copies.{opens, opened_among, stored, stored_has}
use Rattle.hk_bound.proofs.gaps.Table.takes.Goals as goal

pub returns-then-is_among : goal.returns-then-is_among
returns-then-is_among c =
    let w = c.args.self.now.world.now in
    let forms = c.args.self.now.forms.now in
    let rows = c.args.self.now.rows.now in (
      λ yes. inr (inl (opens w forms rows c.args.name c.args.column c.args.opened.now c.args.storers.now (c.requires.opened c.if-not-taking.false)
          (c.is_among.ensures.0 c.if-is_among.true))),
      λ h. refl,
    )

pub returns : goal.returns
returns c =
    let w = c.args.self.now.world.now in
    let forms = c.args.self.now.forms.now in
    let rows = c.args.self.now.rows.now in
    let copied = c.if-not-taking.false in (
      λ yes. inr (inr (stored w forms rows c.args.name c.args.column c.args.opened.now c.args.storers.now (c.requires.storers copied) (c.some_has_env.ensures.0 yes))),
      λ h. elim h [
        | inl all ↦ absurd (true≢false (sym copied ∙ all))
        | inr listed ↦ elim listed [
          | inl opens_it ↦ absurd (true≢false (sym (c.is_among.ensures.1 (opened_among w forms rows c.args.name c.args.column c.args.opened.now c.args.storers.now
              (c.requires.opened copied) opens_it)) ∙ c.if-is_among.false))
          | inr other ↦ c.some_has_env.ensures.1 (stored_has w forms rows c.args.name c.args.column c.args.opened.now c.args.storers.now (c.requires.storers copied) other)
        ]
      ],
    )
