-- The words that the lines of a script begin with. docs/FORMATS.md, "Grammar".
use Rattle.std.specs.Prelude.{ℕ, List, [], ◌∷◌, codes}
use Rattle.hk_format.specs.declared.syntax.Verb.{Verb}
use Rattle.hk_format.specs.declared.syntax.Verb.TheVariants as verb
use Rattle.hk_format.specs.Pieces.{Piece, Word}

-- how each is spelled
abbrev pub verb_word : Verb → List ℕ
verb_word verb.Hydra = codes "hydra"
verb_word verb.Limit = codes "limit"
verb_word verb.Type = codes "type"
verb_word verb.Object = codes "object"
verb_word verb.Semaphore = codes "semaphore"
verb_word verb.Procedure = codes "procedure"
verb_word verb.Code = codes "code"
verb_word verb.Process = codes "process"
verb_word verb.End = codes "end"
verb_word verb.Words = codes "words"
verb_word verb.Empty = codes "empty"
verb_word verb.Cap = codes "cap"
verb_word verb.Amplify = codes "amplify"
verb_word verb.Create = codes "create"
verb_word verb.Param = codes "param"
verb_word verb.Label = codes "label"
verb_word verb.GetData = codes "getdata"
verb_word verb.PutData = codes "putdata"
verb_word verb.AddData = codes "adddata"
verb_word verb.Length = codes "length"
verb_word verb.Load = codes "load"
verb_word verb.Store = codes "store"
verb_word verb.Append = codes "append"
verb_word verb.Erase = codes "erase"
verb_word verb.Drop = codes "drop"
verb_word verb.Restrict = codes "restrict"
verb_word verb.Look = codes "look"
verb_word verb.Template = codes "template"
verb_word verb.Merge = codes "merge"
verb_word verb.Copy = codes "copy"
verb_word verb.Call = codes "call"
verb_word verb.Return = codes "return"
verb_word verb.P = codes "p"
verb_word verb.V = codes "v"
verb_word verb.Yield = codes "yield"
verb_word verb.Set = codes "set"
verb_word verb.Add = codes "add"
verb_word verb.Goto = codes "goto"
verb_word verb.IfEq = codes "ifeq"
verb_word verb.IfLess = codes "iflt"
verb_word verb.IfDenied = codes "ifdenied"

-- all of them
unfoldable pub all_verbs : List Verb
all_verbs =
    verb.Hydra ∷ verb.Limit ∷ verb.Type ∷ verb.Object ∷ verb.Semaphore ∷ verb.Procedure ∷ verb.Code ∷ verb.Process
    ∷ verb.End ∷ verb.Words ∷ verb.Empty ∷ verb.Cap ∷ verb.Amplify ∷ verb.Create ∷ verb.Param ∷ verb.Label
    ∷ verb.GetData ∷ verb.PutData ∷ verb.AddData ∷ verb.Length ∷ verb.Load ∷ verb.Store ∷ verb.Append ∷ verb.Erase
    ∷ verb.Drop ∷ verb.Restrict ∷ verb.Look ∷ verb.Template ∷ verb.Merge ∷ verb.Copy ∷ verb.Call ∷ verb.Return
    ∷ verb.P ∷ verb.V ∷ verb.Yield ∷ verb.Set ∷ verb.Add ∷ verb.Goto ∷ verb.IfEq ∷ verb.IfLess ∷ verb.IfDenied ∷ []

-- a verb as a piece
abbrev pub verb_piece : Verb → Piece
verb_piece v = Word (verb_word v)
