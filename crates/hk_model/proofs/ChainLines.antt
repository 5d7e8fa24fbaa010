-- The numbers of a chain's lines fall, and none is greater than the moment.
use Rattle.std.proofs.Common.{◌≡◌, ◌≤◌, ℕ, zero, suc, ◌+◌, ◌-◌, List, [], ◌∷◌, length, Option, Some, None, arith}
use Rattle.std.specs.Prelude.{take}
use Rattle.hk_model.specs.declared.lines.Line.{Line}
use Rattle.hk_model.specs.WorldValue.{WorldValue}
use Rattle.hk_model.specs.State.{State}
use Rattle.hk_model.specs.Running.{opened, AreStepsOf}
use Rattle.hk_model.specs.Places.{Place}
use Rattle.hk_model.specs.Origins.{Origin, From, Through, Made, line_origin}
use Rattle.hk_model.specs.Descent.{Chain, Opened, MadeAt, Link, extended, extend, LinesFall, ChainsFall}
use Rattle.hk_model.proofs.Steps.{EachStep, each_more, told_keeps, first_steps}
use Rattle.hk_model.proofs.EventCounts.{events_each, events_are}

fall_more : (few many : ℕ) (c : Chain) → few ≤ many → LinesFall few c → LinesFall many c
fall_more few many (Opened p) h g = tt
fall_more few many (MadeAt line by target) h g = let a = g.1 in (g.0, omega (arith, h, a))
fall_more few many (Link line place entry gate rest) h g = let a = g.1 in (g.0, omega (arith, h, a), g.2)

-- each chain has lines up to the number of events
abbrev Falls : State → (Place → Chain) → Type 0
Falls s chains = (p : Place) → LinesFall s.events (chains p)

extended_falls : (s t : State) (chains : Place → Chain) (o : Option Origin) (p : Place) → t.events ≡ s.events + 1 → Falls s chains → LinesFall t.events (extended s chains o p)
extended_falls s t chains None p e h = fall_more s.events t.events (chains p) (omega (arith, e)) (h p)
extended_falls s t chains (Some (From q)) p e h = (omega arith, omega (arith, e), fall_more s.events (s.events + 1 - 1) (chains q) (omega arith) (h q))
extended_falls s t chains (Some (Through q form)) p e h = (omega arith, omega (arith, e), fall_more s.events (s.events + 1 - 1) (chains q) (omega arith) (h q))
extended_falls s t chains (Some (Made by target)) p e h = (omega arith, omega (arith, e))

falls_each : EachStep (λ s line t. (chains : Place → Chain) → Falls s chains → Falls t (extend s line t chains))
falls_each = each_more (λ s line t. t.events ≡ s.events + 1) (λ s line t. (chains : Place → Chain) → Falls s chains → Falls t (extend s line t chains))
    (λ s line t e chains h p. extended_falls s t chains (line_origin s line p) p e h) events_each

length_taken : (n : ℕ) (lines : List Line) → length (take n lines) ≤ n
length_taken zero [] = omega arith
length_taken zero (x ∷ lines) = omega arith
length_taken (suc n) [] = omega arith
length_taken (suc n) (x ∷ lines) = let h = length_taken n lines in omega (arith, h)

pub chains_fall : (w : WorldValue) (lines : List Line) → AreStepsOf w lines → ChainsFall w lines
chains_fall w lines steps moment p =
    let some = first_steps w (opened w) lines moment steps in
    let number = events_are w (take moment lines) some in
    let few = length_taken moment lines in
    fall_more _ moment _ (omega (arith, number, few)) (told_keeps extend Falls falls_each w (opened w) (take moment lines) Opened some (λ q. tt) p)
