-- The lines that a reader takes spell what it gives.
use Rattle.std.proofs.Common.{◌≡◌, ℕ, zero, suc, true, List, [], ◌∷◌, map, refl, sym, ap, subst, ◌∙◌, Option, Some, None, Result, Ok, Err}
use Rattle.std.specs.List.{list_all}
use Rattle.std.proofs.lemmas.Bool.{and_parts}
use Rattle.hk_model.specs.declared.names.Slot.{Slot}
use Rattle.hk_model.specs.declared.instructions.Route.{Route}
use Rattle.hk_model.specs.Limits.{argument_limit, slot_limit, event_limit, token_limit}
use Rattle.hk_format.specs.declared.causes.ParseCause.{ParseCause}
use Rattle.hk_format.specs.declared.causes.ParseCause.TheVariants.{OutOfRange}
use Rattle.hk_format.specs.declared.syntax.Verb.{Verb}
use Rattle.hk_format.specs.declared.syntax.Verb.TheVariants as verb
use Rattle.hk_format.specs.declared.syntax.MakingText.{MakingText}
use Rattle.hk_format.specs.declared.syntax.MakingText.TheVariants as making
use Rattle.hk_format.specs.declared.syntax.Written.{Written}
use Rattle.hk_format.specs.declared.syntax.Written.TheVariants as written
use Rattle.hk_format.specs.declared.syntax.Head.{Head}
use Rattle.hk_format.specs.declared.syntax.Head.TheVariants.{LimitIs, TypeIs, ObjectIs, SemaphoreIs, ProcedureIs, CodeIs, ProcessIs}
use Rattle.hk_format.specs.declared.syntax.Body.{Body}
use Rattle.hk_format.specs.declared.syntax.Body.TheVariants.{WordsAre, StepIs}
use Rattle.hk_format.specs.Pieces.{Piece, Number, is_piece}
use Rattle.hk_format.specs.Verbs.{verb_piece}
use Rattle.hk_format.specs.Operands.{slot_piece, argument_pieces, route_piece}
use Rattle.hk_format.specs.Reading.{Found, Reads, ◌>>=◌, onward, taken, wanted, each, at_most, end, unknown}
use Rattle.hk_format.specs.Forms.{as_number, as_number_below, as_slot, slot_numbered}
use Rattle.hk_format.specs.WrittenLines.{before_last, last_of, template_end, template_of, instruction_of}
use Rattle.hk_format.specs.Grammar.{header, header_of, head_of, head_line, entry_of, object_part, procedure_part, step_part, code_part, body_of, some_part, part_of, part_line}
use Rattle.hk_format.specs.Spelling.{written_pieces, body_pieces, head_pieces, end_line, header_line}
use Rattle.hk_format.proofs.ExactForms.{ExactForm, number_exact, number_in_exact, version_exact, number_below_exact, slot_exact, word_exact, name_exact, type_exact}
use Rattle.hk_format.proofs.ExactForms.{rights_exact, verb_exact, register_exact, operand_exact, route_exact}

-- pieces that some text spells
abbrev pub AreSpelled : List Piece → Type 0
AreSpelled ps = list_all is_piece ps ≡ true

-- the reader gives what its pieces spell, behind those in front of them that others read
pub record Exact (A : Type 0) (reads : Reads A) (front : List Piece → List Piece) (pieces : A → List Piece) : Type 0 where
  pub exact : (ps : List Piece) (x : A) (rest : List Piece) → AreSpelled ps → reads ps ≡ Ok (x, rest) → front ps ≡ pieces x

-- the parts of a reader

exact_wanted : {A B : Type 0} {form : Piece → Result A ParseCause} {piece : A → Piece} {next : A → Reads B} {front : List Piece → List Piece} {pieces : B → List Piece}
    → ExactForm A form piece → ((x : A) → Exact B (next x) (λ ps. front (piece x ∷ ps)) pieces) → Exact B (wanted form >>= next) front pieces
exact_wanted {A} {B} {form} {piece} {next} {front} {pieces} f more = record { exact = all }
  where
    all : (ps : List Piece) (x : B) (rest : List Piece) → AreSpelled ps → (wanted form >>= next) ps ≡ Ok (x, rest) → front ps ≡ pieces x
    all [] x rest s h = cc
    all (p ∷ ps) x rest s h = go (form p) refl h
      where
        go : (r : Result A ParseCause) → form p ≡ r → onward (taken r ps) next ≡ Ok (x, rest) → front (p ∷ ps) ≡ pieces x
        go (Ok y) e k =
            let parts = and_parts (is_piece p) (list_all is_piece ps) s in
            subst (λ (q : Piece). front (q ∷ ps) ≡ pieces x) (f.exact p y parts.0 e) ((more y).exact ps x rest parts.1 k)
        go (Err cause) e k = cc

exact_end : {B : Type 0} {c : B} {front : List Piece → List Piece} {pieces : B → List Piece} → front [] ≡ pieces c → Exact B (end c) front pieces
exact_end {B} {c} {front} {pieces} e = record { exact = all }
  where
    all : (ps : List Piece) (x : B) (rest : List Piece) → AreSpelled ps → end c ps ≡ Ok (x, rest) → front ps ≡ pieces x
    all [] x rest s h =
        let pair : ◌≡◌ {A = B × List Piece} (c, []) (x, rest) = cc in
        e ∙ ap (λ (q : B × List Piece). pieces q.0) pair
    all (p ∷ ps) x rest s h = cc

exact_unknown : {B : Type 0} {front : List Piece → List Piece} {pieces : B → List Piece} → Exact B unknown front pieces
exact_unknown = record { exact = λ ps x rest s h. cc }

-- all the pieces that are left, as numbers
each_is : (ps : List Piece) (xs : List ℕ) (rest : List Piece) → AreSpelled ps → each as_number ps ≡ Ok (xs, rest) → (ps ≡ map Number xs) × (rest ≡ [])
each_is [] xs rest s h =
    let pair : ◌≡◌ {A = List ℕ × List Piece} ([], []) (xs, rest) = cc in
    (ap (λ (q : List ℕ × List Piece). map Number q.0) pair, sym (ap (λ (q : List ℕ × List Piece). q.1) pair))
each_is (p ∷ ps) xs rest s h = go (as_number p) refl (each as_number ps) refl h (λ m left e. each_is ps m left parts.1 e)
  where
    parts : (is_piece p ≡ true) × (list_all is_piece ps ≡ true)
    parts = and_parts (is_piece p) (list_all is_piece ps) s

    go : (r : Result ℕ ParseCause) → as_number p ≡ r → (m : Found (List ℕ)) → each as_number ps ≡ m
        → onward (taken r ps) (λ x left. onward (each as_number ps) (λ ys last. Ok (x ∷ ys, last))) ≡ Ok (xs, rest)
        → ((m : List ℕ) (left : List Piece) → each as_number ps ≡ Ok (m, left) → (ps ≡ map Number m) × (left ≡ [])) → (p ∷ ps ≡ map Number xs) × (rest ≡ [])
    go (Ok y) e m i k others = by m i (rw i at k)
      where
        by : (m : Found (List ℕ)) → each as_number ps ≡ m → onward m (λ ys last. Ok (y ∷ ys, last)) ≡ Ok (xs, rest) → (p ∷ ps ≡ map Number xs) × (rest ≡ [])
        by (Ok q) j l =
            let pair : ◌≡◌ {A = List ℕ × List Piece} (y ∷ q.0, q.1) (xs, rest) = cc in
            let here : Number y ≡ p = number_exact.exact p y parts.0 e in
            let more = others q.0 q.1 j in
            let front : p ∷ ps ≡ Number y ∷ map Number q.0 = let tail : ps ≡ map Number q.0 = more.0 in cc in
            (front ∙ ap (λ (t : List ℕ × List Piece). map Number t.0) pair, sym (ap (λ (t : List ℕ × List Piece). t.1) pair) ∙ more.1)
        by (Err cause) j l = cc
    go (Err cause) e m i k others = cc

-- the same, at most so many, below a bound
at_most_is : (room : ℕ) (ps : List Piece) (xs : List ℕ) (rest : List Piece) → AreSpelled ps → at_most room (as_number_below 64) ps ≡ Ok (xs, rest)
    → (ps ≡ map Number xs) × (rest ≡ [])
at_most_is room [] xs rest s h =
    let pair : ◌≡◌ {A = List ℕ × List Piece} ([], []) (xs, rest) = cc in
    (ap (λ (q : List ℕ × List Piece). map Number q.0) pair, sym (ap (λ (q : List ℕ × List Piece). q.1) pair))
at_most_is zero (p ∷ ps) xs rest s h = go (as_number_below 64 p) h
  where
    go : (r : Result ℕ ParseCause) → onward (taken r ps) (λ x left. Err OutOfRange) ≡ Ok (xs, rest) → (p ∷ ps ≡ map Number xs) × (rest ≡ [])
    go (Ok y) k = cc
    go (Err cause) k = cc
at_most_is (suc room) (p ∷ ps) xs rest s h = go (as_number_below 64 p) refl (at_most room (as_number_below 64) ps) refl h (λ m left e. at_most_is room ps m left parts.1 e)
  where
    parts : (is_piece p ≡ true) × (list_all is_piece ps ≡ true)
    parts = and_parts (is_piece p) (list_all is_piece ps) s

    go : (r : Result ℕ ParseCause) → as_number_below 64 p ≡ r → (m : Found (List ℕ)) → at_most room (as_number_below 64) ps ≡ m
        → onward (taken r ps) (λ x left. onward (at_most room (as_number_below 64) ps) (λ ys last. Ok (x ∷ ys, last))) ≡ Ok (xs, rest)
        → ((m : List ℕ) (left : List Piece) → at_most room (as_number_below 64) ps ≡ Ok (m, left) → (ps ≡ map Number m) × (left ≡ [])) → (p ∷ ps ≡ map Number xs) × (rest ≡ [])
    go (Ok y) e m i k others = by m i (rw i at k)
      where
        by : (m : Found (List ℕ)) → at_most room (as_number_below 64) ps ≡ m → onward m (λ ys last. Ok (y ∷ ys, last)) ≡ Ok (xs, rest) → (p ∷ ps ≡ map Number xs) × (rest ≡ [])
        by (Ok q) j l =
            let pair : ◌≡◌ {A = List ℕ × List Piece} (y ∷ q.0, q.1) (xs, rest) = cc in
            let here : Number y ≡ p = (number_below_exact 64).exact p y parts.0 e in
            let more = others q.0 q.1 j in
            let front : p ∷ ps ≡ Number y ∷ map Number q.0 = let tail : ps ≡ map Number q.0 = more.0 in cc in
            (front ∙ ap (λ (t : List ℕ × List Piece). map Number t.0) pair, sym (ap (λ (t : List ℕ × List Piece). t.1) pair) ∙ more.1)
        by (Err cause) j l = cc
    go (Err cause) e m i k others = cc

-- instructions

template_end_exact : (of : Route) (kind : MakingText) (front : List Piece → List Piece)
    → ((into : Slot) → front (slot_piece into ∷ []) ≡ written_pieces (written.MakeTemplate of kind into))
    → Exact Written (template_end of kind) front written_pieces
template_end_exact of kind front e = exact_wanted slot_exact (λ into. exact_end (e into))

template_exact : (of : Route) (kind : Verb) → Exact Written (template_of of kind) (λ ps. verb_piece verb.Template ∷ route_piece of ∷ verb_piece kind ∷ ps) written_pieces
template_exact of verb.Amplify = exact_wanted rights_exact (λ check. exact_wanted rights_exact (λ give. template_end_exact of (making.Amplify check give) _ (λ into. refl)))
template_exact of verb.Create = exact_wanted rights_exact (λ give. template_end_exact of (making.Create give) _ (λ into. refl))
template_exact of _ = exact_unknown

slots_spelled : (x : ℕ) (ys : List ℕ) → argument_pieces (before_last x ys) (slot_numbered (last_of x ys)) ≡ Number x ∷ map Number ys
slots_spelled x [] = refl
slots_spelled x (y ∷ ys) = ap (λ (ps : List Piece). Number x ∷ ps) (slots_spelled y ys)

slots_exact : (proc : Route) (first : ℕ)
    → Exact Written (at_most argument_limit (as_number_below slot_limit) >>= (λ more. end (written.Enter proc (before_last first more) (slot_numbered (last_of first more)))))
    (λ ps. verb_piece verb.Call ∷ route_piece proc ∷ Number first ∷ ps) written_pieces
slots_exact proc first = record { exact = λ ps x rest s h. go ps x rest s (at_most 8 (as_number_below 64) ps) refl h }
  where
    go : (ps : List Piece) (x : Written) (rest : List Piece) → AreSpelled ps → (r : Found (List ℕ)) → at_most 8 (as_number_below 64) ps ≡ r
        → onward r (λ more. end (written.Enter proc (before_last first more) (slot_numbered (last_of first more)))) ≡ Ok (x, rest)
        → verb_piece verb.Call ∷ route_piece proc ∷ Number first ∷ ps ≡ written_pieces x
    go ps x rest s (Err cause) e k = cc
    go ps x rest s (Ok (more, p ∷ left)) e k = cc
    go ps x rest s (Ok (more, [])) e k =
        let pair : ◌≡◌ {A = Written × List Piece} (written.Enter proc (before_last first more) (slot_numbered (last_of first more)), []) (x, rest) = cc in
        let same = ap (λ (q : Written × List Piece). written_pieces q.0) pair in
        ap (λ (qs : List Piece). verb_piece verb.Call ∷ route_piece proc ∷ Number first ∷ qs) (at_most_is 8 ps more [] s e).0
        ∙ ap (λ (qs : List Piece). verb_piece verb.Call ∷ route_piece proc ∷ qs) (sym (slots_spelled first more)) ∙ same

return_exact : Exact Written (instruction_of verb.Return) (λ ps. verb_piece verb.Return ∷ ps) written_pieces
return_exact = record { exact = all }
  where
    none : Exact Written (end (written.Leave None)) (λ ps. verb_piece verb.Return ∷ ps) written_pieces
    none = exact_end refl

    some : (s : Slot) → Exact Written (end (written.Leave (Some s))) (λ ps. verb_piece verb.Return ∷ slot_piece s ∷ ps) written_pieces
    some s = exact_end refl

    all : (ps : List Piece) (x : Written) (rest : List Piece) → AreSpelled ps → instruction_of verb.Return ps ≡ Ok (x, rest) → verb_piece verb.Return ∷ ps ≡ written_pieces x
    all [] x rest s h = none.exact [] x rest s h
    all (p ∷ ps) x rest s h = go (as_slot p) refl h
      where
        go : (r : Result Slot ParseCause) → as_slot p ≡ r → onward (onward (taken r ps) (λ y left. Ok (Some y, left))) (λ give. end (written.Leave give)) ≡ Ok (x, rest)
            → verb_piece verb.Return ∷ p ∷ ps ≡ written_pieces x
        go (Ok y) e k =
            let parts = and_parts (is_piece p) (list_all is_piece ps) s in
            subst (λ (q : Piece). verb_piece verb.Return ∷ q ∷ ps ≡ written_pieces x) (slot_exact.exact p y parts.0 e) ((some y).exact ps x rest parts.1 k)
        go (Err cause) e k = cc

instruction_exact : (v : Verb) → Exact Written (instruction_of v) (λ ps. verb_piece v ∷ ps) written_pieces
instruction_exact verb.GetData = exact_wanted route_exact (λ of. exact_wanted operand_exact (λ at. exact_wanted register_exact (λ reg. exact_end refl)))
instruction_exact verb.PutData = exact_wanted route_exact (λ of. exact_wanted operand_exact (λ at. exact_wanted operand_exact (λ word. exact_end refl)))
instruction_exact verb.AddData = exact_wanted route_exact (λ of. exact_wanted operand_exact (λ word. exact_end refl))
instruction_exact verb.Length = exact_wanted route_exact (λ of. exact_wanted register_exact (λ reg. exact_end refl))
instruction_exact verb.Load = exact_wanted route_exact (λ from. exact_wanted slot_exact (λ into. exact_end refl))
instruction_exact verb.Store = exact_wanted route_exact (λ list. exact_wanted operand_exact (λ at. exact_wanted slot_exact (λ from. exact_end refl)))
instruction_exact verb.Append = exact_wanted route_exact (λ list. exact_wanted slot_exact (λ from. exact_end refl))
instruction_exact verb.Erase = exact_wanted route_exact (λ list. exact_wanted operand_exact (λ at. exact_end refl))
instruction_exact verb.Drop = exact_wanted slot_exact (λ slot. exact_end refl)
instruction_exact verb.Restrict = exact_wanted slot_exact (λ slot. exact_wanted rights_exact (λ keep. exact_end refl))
instruction_exact verb.Look = exact_wanted route_exact (λ of. exact_wanted register_exact (λ reg. exact_end refl))
instruction_exact verb.Template = exact_wanted route_exact (λ of. exact_wanted verb_exact (λ kind. template_exact of kind))
instruction_exact verb.Create = exact_wanted route_exact (λ by. exact_wanted slot_exact (λ into. exact_end refl))
instruction_exact verb.Merge = exact_wanted route_exact (λ with. exact_wanted slot_exact (λ cap. exact_wanted slot_exact (λ into. exact_end refl)))
instruction_exact verb.Copy = exact_wanted route_exact (λ of. exact_wanted slot_exact (λ into. exact_end refl))
instruction_exact verb.Call = exact_wanted route_exact (λ proc. exact_wanted (number_below_exact 64) (λ first. slots_exact proc first))
instruction_exact verb.Return = return_exact
instruction_exact verb.P = exact_wanted route_exact (λ of. exact_end refl)
instruction_exact verb.V = exact_wanted route_exact (λ of. exact_end refl)
instruction_exact verb.Yield = exact_end refl
instruction_exact verb.Set = exact_wanted register_exact (λ reg. exact_wanted operand_exact (λ to. exact_end refl))
instruction_exact verb.Add = exact_wanted register_exact (λ reg. exact_wanted operand_exact (λ by. exact_end refl))
instruction_exact verb.Goto = exact_wanted word_exact (λ to. exact_end refl)
instruction_exact verb.IfEq = exact_wanted operand_exact (λ left. exact_wanted operand_exact (λ right. exact_wanted word_exact (λ to. exact_end refl)))
instruction_exact verb.IfLess = exact_wanted operand_exact (λ left. exact_wanted operand_exact (λ right. exact_wanted word_exact (λ to. exact_end refl)))
instruction_exact verb.IfDenied = exact_wanted word_exact (λ to. exact_end refl)
instruction_exact _ = exact_unknown

-- heads

head_of_exact : (v : Verb) → Exact Head (head_of v) (λ ps. verb_piece v ∷ ps) head_pieces
head_of_exact verb.Limit = exact_wanted (number_in_exact 1 event_limit) (λ n. exact_end refl)
head_of_exact verb.Type = exact_wanted name_exact (λ name. exact_end refl)
head_of_exact verb.Object = exact_wanted name_exact (λ name. exact_wanted type_exact (λ of. exact_end refl))
head_of_exact verb.Semaphore = exact_wanted name_exact (λ name. exact_wanted (number_in_exact 0 token_limit) (λ count. exact_end refl))
head_of_exact verb.Procedure = exact_wanted name_exact (λ name. exact_wanted word_exact (λ code. exact_end refl))
head_of_exact verb.Code = exact_wanted name_exact (λ name. exact_end refl)
head_of_exact verb.Process = exact_wanted name_exact (λ name. exact_wanted word_exact (λ code. exact_end refl))
head_of_exact _ = exact_unknown

pub head_exact : Exact Head head_line (λ ps. ps) head_pieces
head_exact = exact_wanted verb_exact (λ v. head_of_exact v)

header_of_exact : (v : Verb) → Exact (Unit {0}) (header_of v) (λ ps. verb_piece v ∷ ps) (λ u. header_line)
header_of_exact verb.Hydra = exact_wanted version_exact (λ version. exact_end refl)
header_of_exact _ = exact_unknown

pub header_exact : Exact (Unit {0}) header (λ ps. ps) (λ u. header_line)
header_exact = exact_wanted verb_exact (λ v. header_of_exact v)

-- lines inside items

entry_exact : (v : Verb) → Exact Body (entry_of v) (λ ps. verb_piece v ∷ ps) body_pieces
entry_exact verb.Empty = exact_end refl
entry_exact verb.Cap = exact_wanted type_exact (λ object. exact_wanted rights_exact (λ rights. exact_end refl))
entry_exact verb.Amplify = exact_wanted type_exact (λ kind. exact_wanted rights_exact (λ check. exact_wanted rights_exact (λ give. exact_end refl)))
entry_exact verb.Create = exact_wanted type_exact (λ of. exact_wanted rights_exact (λ give. exact_end refl))
entry_exact _ = exact_unknown

words_exact : (first : ℕ) → Exact Body (each as_number >>= (λ more. end (WordsAre (first ∷ more)))) (λ ps. verb_piece verb.Words ∷ Number first ∷ ps) body_pieces
words_exact first = record { exact = λ ps x rest s h. go ps x rest s (each as_number ps) refl h }
  where
    go : (ps : List Piece) (x : Body) (rest : List Piece) → AreSpelled ps → (r : Found (List ℕ)) → each as_number ps ≡ r
        → onward r (λ more. end (WordsAre (first ∷ more))) ≡ Ok (x, rest) → verb_piece verb.Words ∷ Number first ∷ ps ≡ body_pieces x
    go ps x rest s (Err cause) e k = cc
    go ps x rest s (Ok (more, p ∷ left)) e k = cc
    go ps x rest s (Ok (more, [])) e k =
        let pair : ◌≡◌ {A = Body × List Piece} (WordsAre (first ∷ more), []) (x, rest) = cc in
        ap (λ (qs : List Piece). verb_piece verb.Words ∷ Number first ∷ qs) (each_is ps more [] s e).0 ∙ ap (λ (q : Body × List Piece). body_pieces q.0) pair

object_exact : (v : Verb) → Exact Body (object_part v) (λ ps. verb_piece v ∷ ps) body_pieces
object_exact verb.Words = exact_wanted number_exact (λ first. words_exact first)
object_exact v = entry_exact v

procedure_exact : (v : Verb) → Exact Body (procedure_part v) (λ ps. verb_piece v ∷ ps) body_pieces
procedure_exact verb.Param = exact_wanted type_exact (λ kind. exact_wanted rights_exact (λ check. exact_wanted rights_exact (λ give. exact_end refl)))
procedure_exact v = entry_exact v

step_exact : {reads : Reads Written} {front : List Piece → List Piece} → Exact Written reads front written_pieces → Exact Body (step_part reads) front body_pieces
step_exact {reads} {front} one = record { exact = λ ps x rest s h. go ps x rest s (reads ps) refl h }
  where
    go : (ps : List Piece) (x : Body) (rest : List Piece) → AreSpelled ps → (r : Found Written) → reads ps ≡ r → onward r (λ w left. Ok (StepIs w, left)) ≡ Ok (x, rest)
        → front ps ≡ body_pieces x
    go ps x rest s (Ok q) e k =
        let pair : ◌≡◌ {A = Body × List Piece} (StepIs q.0, q.1) (x, rest) = cc in
        one.exact ps q.0 q.1 s e ∙ ap (λ (t : Body × List Piece). body_pieces t.0) pair
    go ps x rest s (Err cause) e k = cc

code_exact : (v : Verb) → Exact Body (code_part v) (λ ps. verb_piece v ∷ ps) body_pieces
code_exact verb.Label = exact_wanted word_exact (λ label. exact_end refl)
code_exact v = step_exact (instruction_exact v)

body_exact : (head : Head) (v : Verb) → Exact Body (body_of head v) (λ ps. verb_piece v ∷ ps) body_pieces
body_exact (ObjectIs name of) v = object_exact v
body_exact (ProcedureIs name code) v = procedure_exact v
body_exact (CodeIs name) v = code_exact v
body_exact (ProcessIs name code) v = entry_exact v
body_exact (LimitIs n) v = exact_unknown
body_exact (TypeIs name) v = exact_unknown
body_exact (SemaphoreIs name count) v = exact_unknown

-- a line inside an item, or its end
abbrev pub found_pieces : Option Body → List Piece
found_pieces None = end_line
found_pieces (Some body) = body_pieces body

some_exact : {reads : Reads Body} {front : List Piece → List Piece} → Exact Body reads front body_pieces → Exact (Option Body) (some_part reads) front found_pieces
some_exact {reads} {front} one = record { exact = λ ps x rest s h. go ps x rest s (reads ps) refl h }
  where
    go : (ps : List Piece) (x : Option Body) (rest : List Piece) → AreSpelled ps → (r : Found Body) → reads ps ≡ r → onward r (λ b left. Ok (Some b, left)) ≡ Ok (x, rest)
        → front ps ≡ found_pieces x
    go ps x rest s (Ok q) e k =
        let pair : ◌≡◌ {A = Option Body × List Piece} (Some q.0, q.1) (x, rest) = cc in
        one.exact ps q.0 q.1 s e ∙ ap (λ (t : Option Body × List Piece). found_pieces t.0) pair
    go ps x rest s (Err cause) e k = cc

part_of_exact : (head : Head) (v : Verb) → Exact (Option Body) (part_of head v) (λ ps. verb_piece v ∷ ps) found_pieces
part_of_exact head verb.End = exact_end refl
part_of_exact head v = some_exact (body_exact head v)

pub part_exact : (head : Head) → Exact (Option Body) (part_line head) (λ ps. ps) found_pieces
part_exact head = exact_wanted verb_exact (λ v. part_of_exact head v)
