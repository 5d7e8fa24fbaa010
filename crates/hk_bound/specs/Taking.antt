-- What each process can ever come to hold, and each object to list, whatever the programs do: the least that keeps the eight rules
-- of taking. docs/RULES.md, "The static bound".
use Rattle.std.specs.Prelude.{◌≡◌, ℕ, ◌+◌, ◌<◌, Bool, true, length, slice_get, Some, IsTrue}
use Rattle.hk_model.specs.declared.names.Name.{Name}
use Rattle.hk_model.specs.declared.names.Proc.{Proc}
use Rattle.hk_model.specs.declared.entries.Cap.{Cap}
use Rattle.hk_model.specs.declared.entries.Param.{Param}
use Rattle.hk_model.specs.declared.entries.Template.TheVariants as template
use Rattle.hk_model.specs.declared.entries.Entry.{Entry}
use Rattle.hk_model.specs.declared.entries.Entry.TheVariants.{Empty, Held, Form}
use Rattle.hk_rights.specs.Rights.{has, all_rights, special_rights, load_right, copy_right, modify_right, env_right, unconf_right, a0_right, STORE, APPEND, MODIFY, ENV, UNCONF}
use Rattle.hk_model.specs.WorldValue.{WorldValue, IsObject}
use Rattle.hk_model.specs.State.{object}
use Rattle.hk_model.specs.Opening.{opening}
use Rattle.hk_model.specs.Targets.{TYPE, PROCEDURE, is_general, is_listed}
use Rattle.hk_model.specs.Places.{SlotOf, EntryOf, standing}

-- an object of the opening, or all that a process makes, taken as one made object
pub data Thing : Type 0 where
  Old : (name : Name) → Thing
  MadeBy : (maker : Proc) → Thing

-- who holds: a process in its slots, a thing in its list
pub data Holder : Type 0 where
  Slots : (proc : Proc) → Holder
  ListOf : (thing : Thing) → Holder

-- what is told of a holder: that it comes to have a thing, that it comes to have a right for the thing, and that it comes to have
-- an Amplify template for a type. Of the rights that a holder has for one thing there is one set
pub data Fact : Type 0 where
  Has : (holder : Holder) (thing : Thing) → Fact
  Right : (holder : Holder) (thing : Thing) (right : ℕ) → Fact
  Amplifies : (holder : Holder) (type : Name) (check give : ℕ) → Fact

-- what a holder has at the opening: process p has the base incarnation p, and nothing is made yet
abbrev pub at_opening : WorldValue → Holder → ℕ → Entry
at_opening w (Slots proc) index = standing (opening w) (SlotOf (record { 0 = proc.0 }) index)
at_opening w (ListOf (Old name)) index = standing (opening w) (EntryOf name index)
at_opening w (ListOf (MadeBy maker)) index = Empty

-- the type of an object of the opening, which never changes
abbrev pub type_of : WorldValue → Name → Name
type_of w name = (object (opening w) name).of

-- what is made counts as general and as listed
abbrev pub has_words : WorldValue → Thing → Bool
has_words w (Old name) = is_general (type_of w name)
has_words w (MadeBy maker) = true

abbrev pub has_list : WorldValue → Thing → Bool
has_list w (Old name) = is_listed (type_of w name)
has_list w (MadeBy maker) = true

-- the rights that pass only where UNCONF is held for what they pass through
abbrev pub confined_away : ℕ
confined_away = MODIFY + UNCONF

-- the rights of which one, beside MODIFY, puts an entry into a list
abbrev pub STORE+APPEND : ℕ
STORE+APPEND = STORE + APPEND

-- what follows from the opening of a world by the rules
pub data Follows (w : WorldValue) : Fact → Type 0 where
  -- the opening: the capabilities in slots and lists, with their rights, and the Amplify templates that name a type
  open_has : (h : Holder) (index : ℕ) (cap : Cap) → at_opening w h index ≡ Held cap → Follows w (Has h (Old cap.name))
  open_gives : (h : Holder) (index : ℕ) (cap : Cap) (n : ℕ) → at_opening w h index ≡ Held cap → IsTrue (has all_rights n) → IsTrue (has cap.rights n)
      → Follows w (Right h (Old cap.name) n)
  open_form : (h : Holder) (index : ℕ) (type : Name) (check give : ℕ) → at_opening w h index ≡ Form (template.Amplify (Some type) check give)
      → Follows w (Amplifies h type check give)
  -- what is made: its maker has it, and whoever has it has all rights for it
  made_has : (p : Proc) → p.0 < length w.tasks → Follows w (Has (Slots p) (MadeBy p))
  made_gives : (h : Holder) (p : Proc) (n : ℕ) → Follows w (Has h (MadeBy p)) → IsTrue (has all_rights n) → Follows w (Right h (MadeBy p) n)
  -- a Load, through LOAD for a thing: what its list has, of which MODIFY and UNCONF pass with UNCONF for it, and ENV and the templates with ENV
  load_has : (p : Proc) (x y : Thing) → Follows w (Right (Slots p) x load_right) → Follows w (Has (ListOf x) y) → Follows w (Has (Slots p) y)
  load_gives : (p : Proc) (x y : Thing) (n : ℕ) → Follows w (Right (Slots p) x load_right) → Follows w (Right (ListOf x) y n)
      → (IsTrue (has confined_away n) → Follows w (Right (Slots p) x unconf_right)) → (IsTrue (has ENV n) → Follows w (Right (Slots p) x env_right))
      → Follows w (Right (Slots p) y n)
  load_form : (p : Proc) (x : Thing) (type : Name) (check give : ℕ) → Follows w (Right (Slots p) x load_right) → Follows w (Right (Slots p) x env_right)
      → Follows w (Amplifies (ListOf x) type check give) → Follows w (Amplifies (Slots p) type check give)
  -- a Store or an Append, through MODIFY and one of STORE and APPEND for a thing with a list: what is had with ENV, and the templates
  store_has : (p : Proc) (x y : Thing) (n : ℕ) → IsTrue (has_list w x) → Follows w (Right (Slots p) x modify_right) → IsTrue (has STORE+APPEND n) → Follows w (Right (Slots p) x n)
      → Follows w (Right (Slots p) y env_right) → Follows w (Has (ListOf x) y)
  store_gives : (p : Proc) (x y : Thing) (n m : ℕ) → IsTrue (has_list w x) → Follows w (Right (Slots p) x modify_right) → IsTrue (has STORE+APPEND n)
      → Follows w (Right (Slots p) x n)
      → Follows w (Right (Slots p) y env_right) → Follows w (Right (Slots p) y m) → Follows w (Right (ListOf x) y m)
  store_form : (p : Proc) (x : Thing) (n : ℕ) (type : Name) (check give : ℕ) → IsTrue (has_list w x) → Follows w (Right (Slots p) x modify_right) → IsTrue (has STORE+APPEND n)
      → Follows w (Right (Slots p) x n)
      → Follows w (Amplifies (Slots p) type check give) → Follows w (Amplifies (ListOf x) type check give)
  -- a Copy, through COPY for a thing with words: what its list has and what keeps ENV, into the list of what the process makes
  copy_has : (p : Proc) (x y : Thing) → IsTrue (has_words w x) → Follows w (Right (Slots p) x copy_right) → Follows w (Right (Slots p) x env_right)
      → Follows w (Has (ListOf x) y) → Follows w (Right (ListOf x) y env_right) → Follows w (Has (ListOf (MadeBy p)) y)
  copy_gives : (p : Proc) (x y : Thing) (n : ℕ) → IsTrue (has_words w x) → Follows w (Right (Slots p) x copy_right) → Follows w (Right (Slots p) x env_right)
      → Follows w (Right (ListOf x) y env_right) → Follows w (Right (ListOf x) y n) → (IsTrue (has confined_away n) → Follows w (Right (Slots p) x unconf_right))
      → Follows w (Right (ListOf (MadeBy p)) y n)
  copy_form : (p : Proc) (x : Thing) (type : Name) (check give : ℕ) → IsTrue (has_words w x) → Follows w (Right (Slots p) x copy_right) → Follows w (Right (Slots p) x env_right)
      → Follows w (Amplifies (ListOf x) type check give) → Follows w (Amplifies (ListOf (MadeBy p)) type check give)
  -- an Enter, through A0 for a procedure: what it holds, without MODIFY and UNCONF where UNCONF is not held for it, its templates and those of its parameters
  enter_has : (p : Proc) (q : Name) (y : Thing) → (type_of w q).0 ≡ PROCEDURE → Follows w (Right (Slots p) (Old q) a0_right) → Follows w (Has (ListOf (Old q)) y)
      → Follows w (Has (Slots p) y)
  enter_gives : (p : Proc) (q : Name) (y : Thing) (n : ℕ) → (type_of w q).0 ≡ PROCEDURE → Follows w (Right (Slots p) (Old q) a0_right) → Follows w (Right (ListOf (Old q)) y n)
      → (IsTrue (has confined_away n) → Follows w (Right (Slots p) (Old q) unconf_right)) → Follows w (Right (Slots p) y n)
  enter_form : (p : Proc) (q type : Name) (check give : ℕ) → (type_of w q).0 ≡ PROCEDURE → Follows w (Right (Slots p) (Old q) a0_right)
      → Follows w (Amplifies (ListOf (Old q)) type check give) → Follows w (Amplifies (Slots p) type check give)
  enter_param : (p : Proc) (q type : Name) (index : ℕ) (param : Param) → (type_of w q).0 ≡ PROCEDURE → Follows w (Right (Slots p) (Old q) a0_right)
      → slice_get (object (opening w) q).params index ≡ Some param → param.of ≡ Some type → Follows w (Amplifies (Slots p) type param.check param.give)
  -- a Merge with a template for the type of an object of the opening, for which all of `check` is held: what it gives, but of the special rights none that was not there
  merge_gives : (p : Proc) (x : Name) (check give n : ℕ) → IsObject w x → Follows w (Amplifies (Slots p) (type_of w x) check give) → Follows w (Has (Slots p) (Old x))
      → ((m : ℕ) → IsTrue (has all_rights m) → IsTrue (has check m) → Follows w (Right (Slots p) (Old x) m))
      → IsTrue (has all_rights n) → IsTrue (has give n) → (IsTrue (has special_rights n) → Follows w (Right (Slots p) (Old x) n)) → Follows w (Right (Slots p) (Old x) n)
  -- a MakeTemplate, through ENV and A0 for a type: a template for it that asks for nothing and gives everything
  make_form : (p : Proc) (t : Name) → IsObject w t → (type_of w t).0 ≡ TYPE → Follows w (Right (Slots p) (Old t) env_right) → Follows w (Right (Slots p) (Old t) a0_right)
      → Follows w (Amplifies (Slots p) t 0 all_rights)
