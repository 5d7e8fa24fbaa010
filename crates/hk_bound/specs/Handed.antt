-- What processes take of one another by way of a third: a process takes from another whatever comes to it of a third that takes from that one.
-- docs/RULES.md, "The static bound".
use Rattle.std.specs.Prelude.{◌≡◌, ℕ, true, List, Option, Some, None, IfSome, slice_index_or}
use Rattle.hk_rights.specs.Rights.{has, env_right}
use Rattle.hk_model.specs.WorldValue.{WorldValue}
use Rattle.hk_bound.specs.declared.forms.Form.{Form}
use Rattle.hk_bound.specs.Columns.{cell}
use Rattle.hk_bound.specs.Rules.{Reaches, PassedRule, StoredRule}

-- each process that takes from another, through the rights of its cell, has what these pass: of one other, and of others, by row
abbrev pub WaysPass : WorldValue → List Form → List (List (Option ℕ)) → ℕ → List (Option ℕ) → Type 0
WaysPass w forms rows q ways = (p by : ℕ) → slice_index_or ways p None ≡ Some by → PassedRule w forms rows p q by

abbrev pub AllWaysPass : WorldValue → List Form → List (List (Option ℕ)) → List (List (Option ℕ)) → Type 0
AllWaysPass w forms rows earlier = (q p by : ℕ) → cell earlier q p ≡ Some by → PassedRule w forms rows p q by

-- a third process takes from the other, with ENV, and the process takes from the third: both through rights that pass what these pass
pub record IsHanded (earlier : List (List (Option ℕ))) (ways : List (Option ℕ)) (p by : ℕ) : Type 0 where
  pub third : ℕ
  pub mine : ℕ
  pub theirs : ℕ
  pub takes : cell earlier third p ≡ Some mine
  pub gives : slice_index_or ways third None ≡ Some theirs
  pub mine_reaches : Reaches mine by
  pub theirs_reach : Reaches theirs by
  pub env : has theirs env_right ≡ true

-- the rule of what another stores, and what is passed through the rights by which the process takes from it
pub record TakenRule (w : WorldValue) (forms : List Form) (rows : List (List (Option ℕ))) (p q : ℕ) (by : Option ℕ) : Type 0 where
  pub stored : StoredRule w forms rows p q
  pub taken : IfSome by (PassedRule w forms rows p q)
