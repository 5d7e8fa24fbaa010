-- What a head's line and a line inside an item give is in form and in range.
use Rattle.std.proofs.Common.{ℕ, List, ◌∷◌, Ok, Err, Some, None}
use Rattle.std.specs.List.{AllByRecursion}
use Rattle.hk_format.specs.declared.syntax.Verb.{Verb}
use Rattle.hk_format.specs.declared.syntax.Verb.TheVariants as verb
use Rattle.hk_format.specs.declared.syntax.Written.{Written}
use Rattle.hk_format.specs.declared.syntax.Head.{Head}
use Rattle.hk_format.specs.declared.syntax.Head.TheVariants.{LimitIs, TypeIs, ObjectIs, SemaphoreIs, ProcedureIs, CodeIs, ProcessIs}
use Rattle.hk_format.specs.declared.syntax.Body.{Body}
use Rattle.hk_format.specs.declared.syntax.Body.TheVariants.{WordsAre, EmptyEntry, CapEntry, AmplifyEntry, CreateEntry, ParamIs, LabelIs, StepIs}
use Rattle.hk_model.specs.Limits.{event_limit, token_limit}
use Rattle.hk_model.specs.WorldValue.{IsWord32}
use Rattle.hk_format.specs.Reading.{Reads, Found, onward}
use Rattle.hk_format.specs.Forms.{as_number}
use Rattle.hk_format.specs.WrittenLines.{instruction_of}
use Rattle.hk_format.specs.Grammar.{head_of, head_line, entry_of, object_part, procedure_part, step_part, code_part, body_of, some_part, part_of, part_line}
use Rattle.hk_format.specs.Syntax.{IsWordText, IsName, IsTypeText, IsRightsText, IsWritten, IsHead, IsEntryBody, Belongs}
use Rattle.hk_script.proofs.ReadersGood.{Good, Has, Any, IsBetween, IfSome, bind_good, end_good, unknown_good, takes, each_good, verb_forms, word_forms, name_forms, type_forms}
use Rattle.hk_script.proofs.ReadersGood.{rights_forms, number_forms, number_in_forms}
use Rattle.hk_script.proofs.InstructionsGood.{instruction_good}

head_of_good : (v : Verb) → Good IsHead (head_of v)
head_of_good verb.Limit = takes (IsBetween 1 event_limit) IsHead _ _ (number_in_forms 1 event_limit) (λ n a. end_good IsHead (LimitIs n) a)
head_of_good verb.Type = takes IsName IsHead _ _ name_forms (λ name a. end_good IsHead (TypeIs name) a)
head_of_good verb.Object = takes IsName IsHead _ _ name_forms (λ name a. takes IsTypeText IsHead _ _ type_forms (λ of b. end_good IsHead (ObjectIs name of) (a, b)))
head_of_good verb.Semaphore =
    takes IsName IsHead _ _ name_forms (λ name a. takes (IsBetween 0 token_limit) IsHead _ _ (number_in_forms 0 token_limit)
    (λ count b. end_good IsHead (SemaphoreIs name count) (a, b.1)))
head_of_good verb.Procedure = takes IsName IsHead _ _ name_forms (λ name a. takes IsWordText IsHead _ _ word_forms (λ code b. end_good IsHead (ProcedureIs name code) (a, b)))
head_of_good verb.Code = takes IsName IsHead _ _ name_forms (λ name a. end_good IsHead (CodeIs name) a)
head_of_good verb.Process = takes IsName IsHead _ _ name_forms (λ name a. takes IsWordText IsHead _ _ word_forms (λ code b. end_good IsHead (ProcessIs name code) (a, b)))
head_of_good _ = unknown_good IsHead

pub head_good : Good IsHead head_line
head_good = takes Any IsHead _ _ verb_forms (λ v a. head_of_good v)

-- an entry line, in any item that takes it
entry_good : (P : Body → Type 0) → ((b : Body) → IsEntryBody b → P b) → (v : Verb) → Good P (entry_of v)
entry_good P fits verb.Empty = end_good P EmptyEntry (fits EmptyEntry tt)
entry_good P fits verb.Cap =
    takes IsTypeText P _ _ type_forms (λ object a. takes IsRightsText P _ _ rights_forms (λ rights b. end_good P (CapEntry object rights) (fits (CapEntry object rights) (a, b))))
entry_good P fits verb.Amplify =
    takes IsTypeText P _ _ type_forms (λ kind a. takes IsRightsText P _ _ rights_forms (λ check b. takes IsRightsText P _ _ rights_forms
    (λ give c. end_good P (AmplifyEntry kind check give) (fits (AmplifyEntry kind check give) (a, b, c)))))
entry_good P fits verb.Create =
    takes IsTypeText P _ _ type_forms (λ of a. takes IsRightsText P _ _ rights_forms (λ give b. end_good P (CreateEntry of give) (fits (CreateEntry of give) (a, b))))
entry_good P fits _ = unknown_good P

of_object : (name of : List ℕ) (b : Body) → IsEntryBody b → Belongs (ObjectIs name of) b
of_object name of EmptyEntry h = h
of_object name of (CapEntry object rights) h = h
of_object name of (AmplifyEntry kind check give) h = h
of_object name of (CreateEntry kind give) h = h
of_object name of _ h = absurd h

of_procedure : (name code : List ℕ) (b : Body) → IsEntryBody b → Belongs (ProcedureIs name code) b
of_procedure name code EmptyEntry h = h
of_procedure name code (CapEntry object rights) h = h
of_procedure name code (AmplifyEntry kind check give) h = h
of_procedure name code (CreateEntry kind give) h = h
of_procedure name code _ h = absurd h

object_good : (name of : List ℕ) (v : Verb) → Good (Belongs (ObjectIs name of)) (object_part v)
object_good name of verb.Words =
    takes IsWord32 (Belongs (ObjectIs name of)) _ _ number_forms (λ first a. bind_good (AllByRecursion IsWord32) (Belongs (ObjectIs name of)) _ _
    (each_good IsWord32 as_number number_forms) (λ more b. end_good (Belongs (ObjectIs name of)) (WordsAre (first ∷ more)) (a, b)))
object_good name of v = entry_good (Belongs (ObjectIs name of)) (of_object name of) v

procedure_good : (name code : List ℕ) (v : Verb) → Good (Belongs (ProcedureIs name code)) (procedure_part v)
procedure_good name code verb.Param =
    takes IsTypeText (Belongs (ProcedureIs name code)) _ _ type_forms (λ kind a. takes IsRightsText (Belongs (ProcedureIs name code)) _ _ rights_forms
    (λ check b. takes IsRightsText (Belongs (ProcedureIs name code)) _ _ rights_forms (λ give c. end_good (Belongs (ProcedureIs name code)) (ParamIs kind check give)
    (a, b, c))))
procedure_good name code v = entry_good (Belongs (ProcedureIs name code)) (of_procedure name code) v

step_good : (name : List ℕ) (r : Reads Written) → Good IsWritten r → Good (Belongs (CodeIs name)) (step_part r)
unfolding Good
step_good name r good ps h = go (r ps) (good ps h)
  where
    go : (found : Found Written) → Has IsWritten found → Has (Belongs (CodeIs name)) (onward found (λ written rest. Ok (StepIs written, rest)))
    go (Ok x) k = k
    go (Err cause) k = tt

code_good : (name : List ℕ) (v : Verb) → Good (Belongs (CodeIs name)) (code_part v)
code_good name verb.Label = takes IsWordText (Belongs (CodeIs name)) _ _ word_forms (λ label a. end_good (Belongs (CodeIs name)) (LabelIs label) a)
code_good name v = step_good name (instruction_of v) (instruction_good v)

body_good : (head : Head) (v : Verb) → Good (Belongs head) (body_of head v)
body_good (ObjectIs name of) v = object_good name of v
body_good (ProcedureIs name code) v = procedure_good name code v
body_good (CodeIs name) v = code_good name v
body_good (ProcessIs name code) v = entry_good (Belongs (ProcessIs name code)) (λ b h. h) v
body_good (LimitIs n) v = unknown_good (Belongs (LimitIs n))
body_good (TypeIs name) v = unknown_good (Belongs (TypeIs name))
body_good (SemaphoreIs name count) v = unknown_good (Belongs (SemaphoreIs name count))

some_good : (head : Head) (r : Reads Body) → Good (Belongs head) r → Good (IfSome (Belongs head)) (some_part r)
unfolding Good
some_good head r good ps h = go (r ps) (good ps h)
  where
    go : (found : Found Body) → Has (Belongs head) found → Has (IfSome (Belongs head)) (onward found (λ body rest. Ok (Some body, rest)))
    go (Ok x) k = k
    go (Err cause) k = tt

part_of_good : (head : Head) (v : Verb) → Good (IfSome (Belongs head)) (part_of head v)
part_of_good head verb.End = end_good (IfSome (Belongs head)) None tt
part_of_good head v = some_good head (body_of head v) (body_good head v)

pub part_good : (head : Head) → Good (IfSome (Belongs head)) (part_line head)
part_good head = takes Any (IfSome (Belongs head)) _ _ verb_forms (λ v a. part_of_good head v)
