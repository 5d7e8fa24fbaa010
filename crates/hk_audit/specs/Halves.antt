-- The two halves of an audit line, which an arrow separates. docs/FORMATS.md, "Audit lines and records".
use Rattle.std.specs.Prelude.{◌≡◌, ℕ, ◌==◌, false, List, ◌∷◌, ◌++◌}
use Rattle.std.specs.List.{list_any}

-- both halves, with ` -> ` between
abbrev pub halves_text : List ℕ → List ℕ → List ℕ
halves_text event reply = event ++ 32 ∷ 45 ∷ 62 ∷ 32 ∷ reply

-- no `>` stands in the text
abbrev pub HasNoArrow : List ℕ → Type 0
HasNoArrow t = list_any (λ b. b == 62) t ≡ false
