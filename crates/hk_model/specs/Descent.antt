-- The chain of origins of each entry, and the descent law. docs/RULES.md, "Descent".
use Rattle.std.specs.Prelude.{◌≡◌, ◌≤◌, ℕ, ◌+◌, ◌-◌, List, take, Option, Some, None, bit_and}
use Rattle.hk_model.specs.declared.names.Name.{Name}
use Rattle.hk_model.specs.declared.entries.Cap.{Cap}
use Rattle.hk_model.specs.declared.entries.Param.{Param}
use Rattle.hk_model.specs.declared.entries.Template.{Template}
use Rattle.hk_model.specs.declared.entries.Template.TheVariants as template
use Rattle.hk_model.specs.declared.entries.Entry.{Entry}
use Rattle.hk_model.specs.declared.entries.Entry.TheVariants.{Empty, Held, Form}
use Rattle.hk_model.specs.declared.lines.Line.{Line}
use Rattle.hk_rights.specs.Rights.{special_rights, minus}
use Rattle.hk_model.specs.WorldValue.{WorldValue}
use Rattle.hk_model.specs.State.{State, object}
use Rattle.hk_model.specs.Targets.{ENV+A0}
use Rattle.hk_model.specs.Opening.{opening}
use Rattle.hk_model.specs.Running.{opened, state_at}
use Rattle.hk_model.specs.Places.{Place, standing, object_named}
use Rattle.hk_model.specs.Lines.{told}
use Rattle.hk_model.specs.Ways.{Within}
use Rattle.hk_model.specs.Origins.{Maker, ByCreate, ByCopy, ByMakeTemplate, Origin, From, Through, Made, line_origin}

-- a template that an entry came through, and the type of the object
pub record Gate : Type 0 where
  pub form : Param
  pub of : Name

-- a chain goes back line by line, to the opening or to a making: the line that wrote the place, where its entry came
-- from, what stood there before that line, and the template between, if any
pub data Chain : Type 0 where
  Opened : (place : Place) → Chain
  MadeAt : (line : ℕ) (by : Maker) (target : Entry) → Chain
  Link : (line : ℕ) (place : Place) (entry : Entry) (gate : Option Gate) (rest : Chain) → Chain

-- the chain of a place after one more line, by its origin in that line; lines are numbered from 1
abbrev pub extended : State → (Place → Chain) → Option Origin → Place → Chain
extended s chains None p = chains p
extended s chains (Some (From q)) p = Link (s.events + 1) q (standing s q) None (chains q)
extended s chains (Some (Through q form)) p =
    Link (s.events + 1) q (standing s q) (Some (record { form = form; of = (object s (object_named (standing s q))).of })) (chains q)
extended s chains (Some (Made by target)) p = MadeAt (s.events + 1) by target

-- the chains after one more line
abbrev pub extend : State → Line → State → (Place → Chain) → (Place → Chain)
extend s line t chains p = extended s chains (line_origin s line p) p

-- the chain of each place after these lines
abbrev pub chains : WorldValue → List Line → Place → Chain
chains w lines = told extend w (opened w) lines Opened

-- the same object with no right more, or the same template
abbrev pub Reduces : Entry → Entry → Type 0
Reduces from Empty = Unit {0}
Reduces (Held a) (Held b) = (b.name ≡ a.name) × Within b.rights a.rights
Reduces (Form a) (Form b) = a ≡ b
Reduces Empty (Held b) = ⊥
Reduces Empty (Form b) = ⊥
Reduces (Held a) (Form b) = ⊥
Reduces (Form a) (Held b) = ⊥

-- the rights that are not special, before and behind a template: where it names a type, that is the object's, and they are
-- those that it gives; else they are no more than before
abbrev pub Others : Option Name → Name → ℕ → ℕ → ℕ → Type 0
Others None of before give after = Within after before
Others (Some wanted) of before give after = (wanted ≡ of) × (minus after special_rights ≡ minus give special_rights)

-- the capability `a` for an object of type `of` has become `b` through a template: for the same object, with no special
-- right more; the template's `check` was there
pub record Amplified (a : Cap) (form : Param) (of : Name) (b : Cap) : Type 0 where
  pub same : b.name ≡ a.name
  pub special : Within (bit_and b.rights special_rights) a.rights
  pub checked : Within form.check a.rights
  pub others : Others form.of of a.rights form.give b.rights

-- one link: from what the origin held, perhaps through a template
abbrev pub IsLink : Entry → Option Gate → Entry → Type 0
IsLink from None x = Reduces from x
IsLink (Held a) (Some gate) (Held b) = Amplified a gate.form gate.of b
IsLink Empty (Some gate) x = ⊥
IsLink (Form a) (Some gate) x = ⊥
IsLink (Held a) (Some gate) Empty = ⊥
IsLink (Held a) (Some gate) (Form b) = ⊥

-- the type that a template names, if any
abbrev pub of_template : Template → Option Name
of_template (template.Create of give) = Some of
of_template (template.Amplify of check give) = of

-- what a call has made of the target of its path: a Create, by a Create template, a capability for the new object with
-- the rights that it gives; a Copy, of a capability, one for the new object with its rights; a MakeTemplate, of a
-- capability with ENV and A0, a template for the type that it names
abbrev pub IsMade : Maker → Entry → Entry → Type 0
IsMade by target Empty = Unit {0}
IsMade (ByCreate new) (Form (template.Create of give)) (Held b) = (b.name ≡ new) × (b.rights ≡ give)
IsMade (ByCreate new) _ (Held b) = ⊥
IsMade (ByCreate new) _ (Form b) = ⊥
IsMade (ByCopy new) (Held a) (Held b) = (b.name ≡ new) × (b.rights ≡ a.rights)
IsMade (ByCopy new) _ (Held b) = ⊥
IsMade (ByCopy new) _ (Form b) = ⊥
IsMade ByMakeTemplate (Held a) (Form b) = (of_template b ≡ Some a.name) × Within ENV+A0 a.rights
IsMade ByMakeTemplate _ (Form b) = ⊥
IsMade ByMakeTemplate _ (Held b) = ⊥

-- P where something stands, and nothing where nothing does
abbrev pub IfThere : Entry → Type 0 → Type 0
IfThere Empty P = Unit {0}
IfThere (Held cap) P = P
IfThere (Form form) P = P

-- what stands at the end of a chain stood so at the opening, or was made so, and each link is one
abbrev pub Descends : WorldValue → Entry → Chain → Type 0
Descends w x (Opened p) = IfThere x (x ≡ standing (opening w) p)
Descends w x (MadeAt line by target) = IsMade by target x
Descends w x (Link line place entry gate rest) = IfThere x (IsLink entry gate x × Descends w entry rest)

-- the descent law: at every moment, what stands at a place descends by the chain of that place
abbrev pub DescentLaw : WorldValue → List Line → Type 0
DescentLaw w lines = (moment : ℕ) (p : Place) → Descends w (standing (state_at w lines moment) p) (chains w (take moment lines) p)

-- the numbers of a chain's lines fall from its first link on; the first is no greater than this
abbrev pub LinesFall : ℕ → Chain → Type 0
LinesFall most (Opened p) = Unit {0}
LinesFall most (MadeAt line by target) = (1 ≤ line) × (line ≤ most)
LinesFall most (Link line place entry gate rest) = (1 ≤ line) × (line ≤ most) × LinesFall (line - 1) rest

-- at every moment the numbers of each chain's lines fall, and none is greater than the moment
abbrev pub ChainsFall : WorldValue → List Line → Type 0
ChainsFall w lines = (moment : ℕ) (p : Place) → LinesFall moment (chains w (take moment lines) p)
