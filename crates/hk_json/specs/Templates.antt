-- The lines of templates that a value says. docs/FORMATS.md, "Worlds as JSON".
use Rattle.std.specs.Prelude.{codes}
use Rattle.serde_json.specs.Data.{Data}
use Rattle.hk_format.specs.declared.syntax.Body.{Body}
use Rattle.hk_format.specs.declared.syntax.Body.TheVariants.{AmplifyEntry, CreateEntry}
use Rattle.hk_json.specs.Scripts.{text_at}

-- an amplification template
abbrev pub amplify_said : Data → Body
amplify_said d = AmplifyEntry (text_at (codes "amplify") d) (text_at (codes "check") d) (text_at (codes "give") d)

-- a creation template
abbrev pub create_said : Data → Body
create_said d = CreateEntry (text_at (codes "create") d) (text_at (codes "give") d)
