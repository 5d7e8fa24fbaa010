-- The names of a world's entries have labels.
use Rattle.std.proofs.Common.{Option, Some, None}
use Rattle.hk_model.specs.declared.names.Name.{Name}
use Rattle.hk_model.specs.declared.entries.Entry.{Entry}
use Rattle.hk_model.specs.declared.entries.Entry.TheVariants.{Empty, Held, Form}
use Rattle.hk_model.specs.declared.entries.Param.{Param}
use Rattle.hk_model.specs.declared.entries.Template.TheVariants as template
use Rattle.hk_model.specs.WorldValue.{WorldValue, IsObject, IsTypeOrAny, IsEntry, IsParam}
use Rattle.hk_format.specs.EntryTexts.{IsSpelledOrAny, AreSpelledIn}
use Rattle.hk_format.proofs.NamesAgain.{type_object}

kind_named : (w : WorldValue) (of : Option Name) → IsTypeOrAny w of → IsSpelledOrAny (IsObject w) of
kind_named w None h = tt
kind_named w (Some name) h = type_object w name h

pub entry_names : (w : WorldValue) (e : Entry) → IsEntry w e → AreSpelledIn (IsObject w) e
entry_names w Empty h = tt
entry_names w (Held cap) h = h.0
entry_names w (Form (template.Amplify of check give)) h = kind_named w of h.0
entry_names w (Form (template.Create of give)) h = type_object w of h.0

pub kind_names : (w : WorldValue) (p : Param) → IsParam w p → IsSpelledOrAny (IsObject w) p.of
kind_names w p h = kind_named w p.of h.0
