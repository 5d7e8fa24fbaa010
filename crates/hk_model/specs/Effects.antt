-- What a line does to each object. docs/RULES.md, "Under a call".
use Rattle.std.specs.Prelude.{◌≡◌, ◌<◌, ◌≤◌, ◌==◌, ℕ, suc, Bool, true, false, not, List, [], slice_get, Option, Some, None, map}
use Rattle.std.specs.Map.{lookup}
use Rattle.hk_model.specs.declared.names.Name.{Name}
use Rattle.hk_model.specs.declared.names.Inc.{Inc}
use Rattle.hk_model.specs.declared.entries.Cap.{Cap}
use Rattle.hk_model.specs.declared.entries.Entry.TheVariants.{Form}
use Rattle.hk_model.specs.declared.entries.Template.TheVariants as template
use Rattle.hk_model.specs.declared.calls.Call.{Call}
use Rattle.hk_model.specs.declared.calls.Call.TheVariants as call
use Rattle.hk_model.specs.declared.calls.Reply.{Reply}
use Rattle.hk_model.specs.declared.lines.What.{What}
use Rattle.hk_model.specs.declared.lines.What.TheVariants as what
use Rattle.hk_model.specs.declared.objects.Object.{Object}
use Rattle.hk_model.specs.declared.lines.Line.{Line}
use Rattle.hk_model.specs.WorldValue.{WorldValue}
use Rattle.hk_model.specs.State.{State, object, same_name}
use Rattle.hk_model.specs.Keeping.{is_opening}
use Rattle.hk_model.specs.Targets.{PROCEDURE}
use Rattle.hk_model.specs.Rule.{copied, plain_object}
use Rattle.hk_model.specs.Control.{is_refusal}
use Rattle.hk_model.specs.Running.{state_at}
use Rattle.hk_model.specs.Places.{found, cap_found}
use Rattle.hk_model.specs.Lines.{done_call, changed, makes_object}

-- the object of a name, if it stands
abbrev pub there : List (Name × Object) → Name → Option Object
there objects name = lookup (same_name name) objects

-- what never changes of an object: its type, its code and its parameters
pub record IsSameKind (before after : Object) : Type 0 where
  pub of : after.of ≡ before.of
  pub code : after.code ≡ before.code
  pub params : after.params ≡ before.params

-- what a new object is: no procedure, without a code and parameters
pub record IsNoProcedure (o : Object) : Type 0 where
  pub of : (o.of.0 == PROCEDURE) ≡ false
  pub code : o.code ≡ None
  pub params : o.params ≡ []

-- a Create makes an object with nothing in it, of the type of the template that the path leads to
pub record IsEmptyObject (s : State) (inc : Inc) (path : List ℕ) (new : Object) : Type 0 where
  pub give : ℕ
  pub by : found s inc path ≡ Form (template.Create new.of give)
  pub is : new ≡ plain_object new.of [] []

-- a Copy makes an object of the type and with the words of the one that the path leads to, and with what is copied of its entries
pub record IsCopiedObject (s : State) (inc : Inc) (path : List ℕ) (new : Object) : Type 0 where
  pub cap : Cap
  pub of : cap_found s inc path ≡ Some cap
  pub is : new ≡ plain_object (object s cap.name).of (object s cap.name).words (map (copied cap.rights) (object s cap.name).entries)

-- the object that a call makes where it is done, from the state before it
abbrev pub IsMadeObject : State → Inc → Option Call → Object → Type 0
IsMadeObject s inc (Some (call.Create path into)) new = IsEmptyObject s inc path new
IsMadeObject s inc (Some (call.Copy path into)) new = IsCopiedObject s inc path new
IsMadeObject s inc _ new = ⊥

-- objects go by a halt, and by a call that is not refused
abbrev pub lets_go : What → Reply → Bool
lets_go (what.Call c) reply = not (is_refusal reply)
lets_go what.Halt reply = true
lets_go what.Dispatch reply = false

-- what becomes of an object by a line, from the state before it to the objects after it: it stays as it was; it goes, where it
-- stood and is none of the opening, by a halt or a call that is not refused; it is the one that the line is told to change, and
-- has the same type, code and parameters; or it is the one that the line has made, where none stood before, and is no procedure
pub data Becomes (s : State) (line : Line) (objects : List (Name × Object)) (name : Name) : Type 0 where
  Stays : there objects name ≡ there s.objects name → Becomes s line objects name
  Goes : (before : Object) → lets_go line.what line.reply ≡ true → is_opening s name ≡ false → there s.objects name ≡ Some before → there objects name ≡ None
      → Becomes s line objects name
  Changes : (before after : Object) → changed s line ≡ Some name → there s.objects name ≡ Some before → there objects name ≡ Some after → IsSameKind before after
      → Becomes s line objects name
  IsNew : (new : Object) → makes_object (done_call line) ≡ true → name ≡ s.next_name → there s.objects name ≡ None → there objects name ≡ Some new
      → IsNoProcedure new → IsMadeObject s line.inc (done_call line) new → Becomes s line objects name

-- a line leaves every object as it was but the one that it is told to change, the one that it makes and those that go
abbrev pub LeavesOthers : WorldValue → List Line → Type 0
LeavesOthers w lines =
    (moment : ℕ) (line : Line) → slice_get lines moment ≡ Some line → (name : Name)
    → Becomes (state_at w lines moment) line (state_at w lines (suc moment)).objects name

-- from a moment to a later one: an object that still stands has kept its type, its code and its parameters, and one that has gone
-- does not come again
pub record NamesLast (w : WorldValue) (lines : List Line) : Type 0 where
  pub kinds : (early late : ℕ) (name : Name) (before after : Object) → early ≤ late
      → there (state_at w lines early).objects name ≡ Some before → there (state_at w lines late).objects name ≡ Some after → IsSameKind before after
  pub gone : (early late : ℕ) (name : Name) → early ≤ late → name.0 < (state_at w lines early).next_name.0
      → there (state_at w lines early).objects name ≡ None → there (state_at w lines late).objects name ≡ None
