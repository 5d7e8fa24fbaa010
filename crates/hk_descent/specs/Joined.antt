-- Chains tell descent, and marks tell it with walks added: descent is told here line by line, by what each line writes, and both
-- are compared with it. docs/RULES.md, "Marks".
use Rattle.std.specs.Prelude.{◌≡◌, ◌≤◌, ◌<◌, ◌⊎◌, ◌↔◌, ℕ, suc, true, false, List, take, length, slice_get, Option, Some, None}
use Rattle.std.specs.Option.{option_and_then}
use Rattle.std.specs.List.{Contains}
use Rattle.hk_model.specs.declared.names.Inc.{Inc}
use Rattle.hk_model.specs.declared.lines.Line.{Line}
use Rattle.hk_model.specs.WorldValue.{WorldValue}
use Rattle.hk_model.specs.State.{State}
use Rattle.hk_model.specs.Running.{state_at}
use Rattle.hk_model.specs.Places.{Place, SlotOf, standing, is_empty, passed}
use Rattle.hk_model.specs.Ways.{Walked, Copied, CopyOf, line_way}
use Rattle.hk_model.specs.Origins.{Origin, From, Through, Made, line_origin}
use Rattle.hk_model.specs.Descent.{Chain, Opened, MadeAt, Link, chains}
use Rattle.hk_model.specs.Marks.{marks, IsLocalParam}

-- ---- descent

-- something stands at the place at that moment
abbrev pub Stands : WorldValue → List Line → ℕ → Place → Type 0
Stands w lines moment p = is_empty (standing (state_at w lines moment) p) ≡ false

-- the place of an origin: none of what a call made
abbrev pub place_of : Origin → Option Place
place_of (From place) = Some place
place_of (Through slot form) = Some slot
place_of (Made by target) = None

-- what is at the place p after a line was at the place q before it: the line does not write p, which is q, or q is the origin of
-- the entry that it writes there
pub data CameFrom (s : State) (line : Line) (p q : Place) : Type 0 where
  Stayed : line_way s line p ≡ None → p ≡ q → CameFrom s line p q
  Linked : option_and_then place_of (line_origin s line p) ≡ Some q → CameFrom s line p q

-- a line writes the place p by a walk that passed the place q: by a Load, or by a Copy, which writes entries and the capability
-- for the copy
pub data CamePast (s : State) (line : Line) (p q : Place) : Type 0 where
  LoadPassed : (path : List ℕ) → line_way s line p ≡ Some (Walked path) → Contains (passed s line.inc path) q → CamePast s line p q
  CopyPassed : (path : List ℕ) (index : ℕ) → line_way s line p ≡ Some (Copied path index) → Contains (passed s line.inc path) q → CamePast s line p q
  CopyOfPassed : (path : List ℕ) → line_way s line p ≡ Some (CopyOf path) → Contains (passed s line.inc path) q → CamePast s line p q

-- the same with the places that a walk passed: what came through an entry counts as come from it
abbrev pub CameByWalk : State → Line → Place → Place → Type 0
CameByWalk s line p q = CameFrom s line p q ⊎ CamePast s line p q

-- what stands at a place at a moment has come, line by line, from what the place q had at moment k; it has stood somewhere after
-- each line between
pub data Descended (Came : State → Line → Place → Place → Type 0) (w : WorldValue) (lines : List Line) (k : ℕ) (q : Place) : ℕ → Place → Type 0 where
  Begins : Descended Came w lines k q k q
  Goes : (moment : ℕ) (line : Line) (p before : Place) → slice_get lines moment ≡ Some line → Descended Came w lines k q moment before
      → Came (state_at w lines moment) line p before → Stands w lines (suc moment) p → Descended Came w lines k q (suc moment) p

-- ---- what a chain tells of it

-- the chain of the place p leads back to what the place q had at moment k. Where its first line came after that moment it does so
-- by its link; else the place was not written since, and is q itself
abbrev pub LeadsBack : ℕ → Place → Place → Chain → Type 0
LeadsBack k q p (Opened place) = p ≡ q
LeadsBack k q p (MadeAt line by target) = (line ≤ k) × (p ≡ q)
LeadsBack k q p (Link line place entry gate rest) = ((line ≤ k) × (p ≡ q)) ⊎ ((k < line) × LeadsBack k q place rest)

-- ---- the law

-- of chains, for any place at any moment; of marks, for a parameter without ENV; and of both. Moments go up to the number of
-- lines. An emptied place keeps its last chain, so of chains the law speaks only where something stands
pub record AreOneDescent (w : WorldValue) (lines : List Line) : Type 0 where
  -- a chain leads back to a place exactly where what stands descended from it by origins alone
  pub leads : (k : ℕ) (q : Place) (moment : ℕ) (p : Place) → k ≤ moment → moment ≤ length lines → Stands w lines moment p
      → LeadsBack k q p (chains w (take moment lines) p) ↔ Descended CameFrom w lines k q moment p
  -- a place is marked exactly where what stands descended from the parameter by origins and walks
  pub marked : (k slot : ℕ) (call : Inc) → IsLocalParam w lines k call slot → (moment : ℕ) (p : Place) → k ≤ moment → moment ≤ length lines
      → (marks w lines k call slot moment p ≡ true) ↔ Descended CameByWalk w lines k (SlotOf call slot) moment p
  -- and something stands there
  pub filled : (k slot : ℕ) (call : Inc) → IsLocalParam w lines k call slot → (moment : ℕ) (p : Place) → k ≤ moment → moment ≤ length lines
      → marks w lines k call slot moment p ≡ true → Stands w lines moment p
  -- so a place is marked where something stands whose chain leads back to the parameter
  pub leads_marked : (k slot : ℕ) (call : Inc) → IsLocalParam w lines k call slot → (moment : ℕ) (p : Place) → k ≤ moment → moment ≤ length lines
      → Stands w lines moment p → LeadsBack k (SlotOf call slot) p (chains w (take moment lines) p) → marks w lines k call slot moment p ≡ true
