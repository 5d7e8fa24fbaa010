-- A list of at most eight items, kept in eight places.
use Rattle.std.specs.Prelude.{◌≡◌, ℕ, ◌-◌, ◌≤◌, List, ◌++◌, length, drop, replicate}

-- the items, and behind them as many blanks as make eight places
abbrev pub padded : {A : Type 0} → A → List A → List A
padded blank xs = xs ++ replicate (8 - length xs) blank

-- so many of the eight places are used, and the rest are blank
pub record IsPadded {A : Type 0} (blank : A) (count : ℕ) (places : List A) : Type 0 where
  pub fits : count ≤ 8
  pub eight : length places ≡ 8
  pub rest : drop count places ≡ replicate (8 - count) blank
