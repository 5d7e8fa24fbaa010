-- The texts of entries and of parameters, by whatever gives each name a text: a label, or a number. docs/FORMATS.md, "Grammar".
use Rattle.std.specs.Prelude.{ℕ, List, Option, Some, None, codes}
use Rattle.std.specs.Fmt.{decimal}
use Rattle.hk_model.specs.declared.names.Name.{Name}
use Rattle.hk_model.specs.declared.entries.Entry.{Entry}
use Rattle.hk_model.specs.declared.entries.Entry.TheVariants.{Empty, Held, Form}
use Rattle.hk_model.specs.declared.entries.Param.{Param}
use Rattle.hk_model.specs.declared.entries.Template.TheVariants as template
use Rattle.hk_format.specs.declared.syntax.Body.{Body}
use Rattle.hk_format.specs.declared.syntax.Body.TheVariants.{EmptyEntry, CapEntry, AmplifyEntry, CreateEntry, ParamIs}
use Rattle.hk_format.specs.RightsTexts.{rights_text}
use Rattle.hk_format.specs.Spelling.{body_pieces}
use Rattle.hk_format.specs.Texts.{spell_line}

-- what gives each name its text
abbrev pub Speller : Type 0
Speller = Name → List ℕ

-- names are told as numbers
abbrev pub by_number : Speller
by_number name = decimal name.0

-- names that have a text

-- the name is such, if there is one
abbrev pub IsSpelledOrAny : (Name → Type 0) → Option Name → Type 0
IsSpelledOrAny P None = Unit {0}
IsSpelledOrAny P (Some name) = P name

-- the names of the entry are such
abbrev pub AreSpelledIn : (Name → Type 0) → Entry → Type 0
AreSpelledIn P Empty = Unit {0}
AreSpelledIn P (Held cap) = P cap.name
AreSpelledIn P (Form (template.Amplify of check give)) = IsSpelledOrAny P of
AreSpelledIn P (Form (template.Create of give)) = P of

-- texts

-- a type, or `any`
abbrev pub kind_spelled : Speller → Option Name → List ℕ
kind_spelled speak None = codes "any"
kind_spelled speak (Some name) = speak name

-- an entry as a line inside an item
abbrev pub entry_spelled : Speller → Entry → Body
entry_spelled speak Empty = EmptyEntry
entry_spelled speak (Held cap) = CapEntry (speak cap.name) (rights_text cap.rights)
entry_spelled speak (Form (template.Amplify of check give)) = AmplifyEntry (kind_spelled speak of) (rights_text check) (rights_text give)
entry_spelled speak (Form (template.Create of give)) = CreateEntry (speak of) (rights_text give)

-- a parameter as a line inside an item
abbrev pub param_spelled : Speller → Param → Body
param_spelled speak param = ParamIs (kind_spelled speak param.of) (rights_text param.check) (rights_text param.give)

-- the text of an entry, without a line feed
abbrev pub entry_text : Speller → Entry → List ℕ
entry_text speak entry = spell_line (body_pieces (entry_spelled speak entry))

-- the text of a parameter, without a line feed
abbrev pub param_text : Speller → Param → List ℕ
param_text speak param = spell_line (body_pieces (param_spelled speak param))
