-- No line of a canonical script is the line `record`: each begins with another word.
use Rattle.std.proofs.Common.{◌≡◌, ℕ, Bool, true, false, cond, List, [], ◌∷◌, ◌++◌, map, refl, not, ap}
use Rattle.std.specs.List.{list_all, flat_map}
use Rattle.std.proofs.lemmas.Bool.{and_from}
use Rattle.hk_format.specs.declared.syntax.Verb.{Verb}
use Rattle.hk_format.specs.declared.syntax.Verb.TheVariants as verb
use Rattle.hk_format.specs.declared.syntax.Written.{Written}
use Rattle.hk_format.specs.declared.syntax.Written.TheVariants as written
use Rattle.hk_format.specs.declared.syntax.Head.{Head}
use Rattle.hk_format.specs.declared.syntax.Head.TheVariants.{LimitIs, TypeIs, ObjectIs, SemaphoreIs, ProcedureIs, CodeIs, ProcessIs}
use Rattle.hk_format.specs.declared.syntax.Body.{Body}
use Rattle.hk_format.specs.declared.syntax.Body.TheVariants.{WordsAre, EmptyEntry, CapEntry, AmplifyEntry, CreateEntry, ParamIs, LabelIs, StepIs}
use Rattle.hk_format.specs.declared.syntax.Part.{Part}
use Rattle.hk_format.specs.declared.syntax.Item.{Item}
use Rattle.hk_format.specs.Pieces.{Piece}
use Rattle.hk_format.specs.Verbs.{verb_word, verb_piece}
use Rattle.hk_format.specs.Texts.{spell_line}
use Rattle.hk_format.specs.Spelling.{written_pieces, body_pieces, head_pieces, has_parts, end_line, header_line, item_lines, script_lines}
use Rattle.hk_format.specs.Audits.{is_record}
use Rattle.hk_format.proofs.Cutting.{all_both}

-- a line that is not `record`
abbrev is_other : List Piece → Bool
is_other ps = not (is_record (spell_line ps))

alone : (v : Verb) → is_record (verb_word v) ≡ false
alone verb.Hydra = refl
alone _ = refl

before_more : (v : Verb) (t : List ℕ) → is_record (verb_word v ++ 32 ∷ t) ≡ false
before_more verb.Hydra t = refl
before_more _ t = refl

-- the line begins with a word of the grammar
Begins : List Piece → Type 0
Begins ps = (v : Verb) × ((rest : List Piece) × (ps ≡ verb_piece v ∷ rest))

other_of : (ps : List Piece) → Begins ps → is_other ps ≡ true
unfolding Begins
other_of ps h = rw h.1.1 (go h.0 h.1.0)
  where
    go : (v : Verb) (rest : List Piece) → is_other (verb_piece v ∷ rest) ≡ true
    go v [] = ap not (alone v)
    go v (p ∷ rest) = ap not (before_more v (spell_line (p ∷ rest)))

written_begins : (w : Written) → Begins (written_pieces w)
unfolding Begins
written_begins (written.Get of at reg) = (verb.GetData, (_, refl))
written_begins (written.Put of at word) = (verb.PutData, (_, refl))
written_begins (written.Add of word) = (verb.AddData, (_, refl))
written_begins (written.Length of reg) = (verb.Length, (_, refl))
written_begins (written.Load from into) = (verb.Load, (_, refl))
written_begins (written.Store list at from) = (verb.Store, (_, refl))
written_begins (written.Append list from) = (verb.Append, (_, refl))
written_begins (written.Erase list at) = (verb.Erase, (_, refl))
written_begins (written.Drop slot) = (verb.Drop, (_, refl))
written_begins (written.Restrict slot keep) = (verb.Restrict, (_, refl))
written_begins (written.Look of reg) = (verb.Look, (_, refl))
written_begins (written.MakeTemplate of kind into) = (verb.Template, (_, refl))
written_begins (written.Create by into) = (verb.Create, (_, refl))
written_begins (written.Merge with cap into) = (verb.Merge, (_, refl))
written_begins (written.Copy of into) = (verb.Copy, (_, refl))
written_begins (written.Enter proc args into) = (verb.Call, (_, refl))
written_begins (written.Leave give) = (verb.Return, (_, refl))
written_begins (written.P of) = (verb.P, (_, refl))
written_begins (written.V of) = (verb.V, (_, refl))
written_begins written.Yield = (verb.Yield, (_, refl))
written_begins (written.SetReg reg to) = (verb.Set, (_, refl))
written_begins (written.AddReg reg by) = (verb.Add, (_, refl))
written_begins (written.Goto to) = (verb.Goto, (_, refl))
written_begins (written.IfEq left right to) = (verb.IfEq, (_, refl))
written_begins (written.IfLess left right to) = (verb.IfLess, (_, refl))
written_begins (written.IfDenied to) = (verb.IfDenied, (_, refl))

body_begins : (b : Body) → Begins (body_pieces b)
unfolding Begins
body_begins (WordsAre words) = (verb.Words, (_, refl))
body_begins EmptyEntry = (verb.Empty, (_, refl))
body_begins (CapEntry object rights) = (verb.Cap, (_, refl))
body_begins (AmplifyEntry kind check give) = (verb.Amplify, (_, refl))
body_begins (CreateEntry of give) = (verb.Create, (_, refl))
body_begins (ParamIs kind check give) = (verb.Param, (_, refl))
body_begins (LabelIs label) = (verb.Label, (_, refl))
body_begins (StepIs step) = written_begins step

head_begins : (h : Head) → Begins (head_pieces h)
unfolding Begins
head_begins (LimitIs n) = (verb.Limit, (_, refl))
head_begins (TypeIs name) = (verb.Type, (_, refl))
head_begins (ObjectIs name of) = (verb.Object, (_, refl))
head_begins (SemaphoreIs name count) = (verb.Semaphore, (_, refl))
head_begins (ProcedureIs name code) = (verb.Procedure, (_, refl))
head_begins (CodeIs name) = (verb.Code, (_, refl))
head_begins (ProcessIs name code) = (verb.Process, (_, refl))

end_begins : Begins end_line
unfolding Begins
end_begins = (verb.End, (_, refl))

header_begins : Begins header_line
unfolding Begins
header_begins = (verb.Hydra, (_, refl))

parts_other : (parts : List Part) → list_all is_other (map (λ (p : Part). body_pieces p.body) parts ++ end_line ∷ []) ≡ true
parts_other [] = and_from _ _ (other_of end_line end_begins) refl
parts_other (p ∷ parts) = and_from _ _ (other_of (body_pieces p.body) (body_begins p.body)) (parts_other parts)

item_other : (i : Item) → list_all is_other (item_lines i) ≡ true
item_other i = and_from _ _ (other_of (head_pieces i.head) (head_begins i.head)) (go (has_parts i.head))
  where
    go : (b : Bool) → list_all is_other (cond b (map (λ (p : Part). body_pieces p.body) i.parts ++ end_line ∷ []) []) ≡ true
    go true = parts_other i.parts
    go false = refl

items_other : (items : List Item) → list_all is_other (flat_map item_lines items) ≡ true
items_other [] = refl
items_other (i ∷ items) = all_both is_other (item_lines i) (flat_map item_lines items) (item_other i) (items_other items)

pub script_other : (items : List Item) → list_all (λ ps. not (is_record (spell_line ps))) (script_lines items) ≡ true
script_other items = and_from _ _ (other_of header_line header_begins) (items_other items)
