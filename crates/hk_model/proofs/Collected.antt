-- A list that is told of a history has what its lines add.
use Rattle.std.proofs.Common.{◌≡◌, ℕ, zero, suc, List, [], ◌∷◌, ◌++◌, Some, refl}
use Rattle.std.specs.Prelude.{◌⊎◌, take, slice_get}
use mathlib.Core.Logic.{inl, inr}
use Rattle.hk_model.specs.declared.lines.Line.{Line}
use Rattle.hk_model.specs.WorldValue.{WorldValue}
use Rattle.hk_model.specs.State.{State}
use Rattle.hk_model.specs.Running.{Machine, moved, after_lines}
use Rattle.hk_model.specs.Lines.{told}
use Rattle.hk_model.proofs.Members.{Has, has_left, has_right, has_cases}

module _ {X : Type 0} (add : State → Line → State → List X → List X) (new : State → Line → State → List X)
    (adds : (s : State) (line : Line) (t : State) (so_far : List X) → add s line t so_far ≡ so_far ++ new s line t) where
  -- the line at a moment adds it
  pub record IsAdded (w : WorldValue) (m : Machine) (lines : List Line) (x : X) : Type 0 where
    pub moment : ℕ
    pub line : Line
    pub is : slice_get lines moment ≡ Some line
    pub has : Has (new (after_lines w m (take moment lines)).state line (moved w (after_lines w m (take moment lines)) line.cpu).state) x

  one_later : (w : WorldValue) (m : Machine) (line : Line) (lines : List Line) (x : X) → IsAdded w (moved w m line.cpu) lines x → IsAdded w m (line ∷ lines) x
  one_later w m line lines x h = record { moment = suc h.moment; line = h.line; is = h.is; has = h.has }

  pub told_has : (w : WorldValue) (m : Machine) (lines : List Line) (so_far : List X) (x : X) → Has (told add w m lines so_far) x → Has so_far x ⊎ IsAdded w m lines x
  told_has w m [] so_far x h = inl h
  told_has w m (line ∷ lines) so_far x h = by (told_has w (moved w m line.cpu) lines (add m.state line (moved w m line.cpu).state so_far) x h)
    where
      first : Has so_far x ⊎ Has (new m.state line (moved w m line.cpu).state) x → Has so_far x ⊎ IsAdded w m (line ∷ lines) x
      first (inl g) = inl g
      first (inr g) = inr (record { moment = 0; line = line; is = refl; has = g })

      by : Has (add m.state line (moved w m line.cpu).state so_far) x ⊎ IsAdded w (moved w m line.cpu) lines x → Has so_far x ⊎ IsAdded w m (line ∷ lines) x
      by (inl g) = first (has_cases so_far (new m.state line (moved w m line.cpu).state) x (rw (adds m.state line (moved w m line.cpu).state so_far) at g))
      by (inr g) = inr (one_later w m line lines x g)

  pub told_keeps_has : (w : WorldValue) (m : Machine) (lines : List Line) (so_far : List X) (x : X) → Has so_far x → Has (told add w m lines so_far) x
  told_keeps_has w m [] so_far x h = h
  told_keeps_has w m (line ∷ lines) so_far x h =
      told_keeps_has w (moved w m line.cpu) lines (add m.state line (moved w m line.cpu).state so_far) x
      (rw (adds m.state line (moved w m line.cpu).state so_far) (has_left so_far (new m.state line (moved w m line.cpu).state) x h))

  pub told_adds : (w : WorldValue) (m : Machine) (lines : List Line) (so_far : List X) (x : X) (moment : ℕ) (line : Line) → slice_get lines moment ≡ Some line
      → Has (new (after_lines w m (take moment lines)).state line (moved w (after_lines w m (take moment lines)) line.cpu).state) x → Has (told add w m lines so_far) x
  told_adds w m [] so_far x moment line e h = absurd (cc)
  told_adds w m (l ∷ lines) so_far x zero line e h =
      let same : l ≡ line = cc in
      told_keeps_has w (moved w m l.cpu) lines (add m.state l (moved w m l.cpu).state so_far) x
      (rw (adds m.state l (moved w m l.cpu).state so_far) (has_right so_far (new m.state l (moved w m l.cpu).state) x (rw same h)))
  told_adds w m (l ∷ lines) so_far x (suc moment) line e h = told_adds w (moved w m l.cpu) lines (add m.state l (moved w m l.cpu).state so_far) x moment line e h
