-- Lines that items are spelled as are read as these items' heads and parts.
use Rattle.std.proofs.Common.{◌≡◌, ℕ, suc, zero, ◌<◌, ◌≤◌, Bool, true, false, cond, eqb, List, [], ◌∷◌, ◌++◌, length, refl, sym, ap, arith, map, Ok, Some, None}
use Rattle.std.specs.List.{list_all, AllByRecursion}
use Rattle.std.specs.Prelude.{codes}
use Rattle.std.proofs.lemmas.Bool.{and_parts, false≢true, lt-ltb, le-leb, eqb-true}
use Rattle.std.proofs.lemmas.List.{map-append, length-append}
use Rattle.std.proofs.lemmas.Bool.Decides.{nat_tests}
use Rattle.hk_model.specs.declared.names.Slot.{Slot}
use Rattle.hk_model.specs.declared.instructions.Index.{Index}
use Rattle.hk_model.specs.declared.instructions.Index.TheVariants.{Fixed, ByReg}
use Rattle.hk_model.specs.declared.instructions.Operand.{Operand}
use Rattle.hk_model.specs.declared.instructions.Operand.TheVariants as operand
use Rattle.hk_model.specs.declared.instructions.Route.{Route}
use Rattle.hk_format.specs.declared.syntax.Verb.{Verb}
use Rattle.hk_format.specs.declared.syntax.Verb.TheVariants as verb
use Rattle.hk_format.specs.declared.syntax.MakingText.TheVariants as making
use Rattle.hk_format.specs.declared.syntax.Written.{Written}
use Rattle.hk_format.specs.declared.syntax.Written.TheVariants as written
use Rattle.hk_format.specs.declared.syntax.Head.{Head}
use Rattle.hk_format.specs.declared.syntax.Head.TheVariants.{LimitIs, TypeIs, ObjectIs, SemaphoreIs, ProcedureIs, CodeIs, ProcessIs}
use Rattle.hk_format.specs.declared.syntax.Body.{Body}
use Rattle.hk_format.specs.declared.syntax.Body.TheVariants.{WordsAre, EmptyEntry, CapEntry, AmplifyEntry, CreateEntry, ParamIs, LabelIs, StepIs}
use Rattle.hk_model.specs.Labels.{is_word, is_register, same_text}
use Rattle.hk_model.specs.WorldValue.{IsReg, IsOperand, IsSlot, IsIndex, IsRoute, BeginsAtSlot}
use Rattle.hk_format.specs.Pieces.{Word, Upper, Dash, Number, register_of, register_text}
use Rattle.hk_format.specs.Verbs.{all_verbs, verb_piece}
use Rattle.hk_format.specs.Operands.{register_piece, slot_piece, operand_piece, steps_piece, route_piece, type_piece, rights_piece}
use Rattle.hk_format.specs.Reading.{at_most, each}
use Rattle.hk_format.specs.Forms.{as_verb, as_name, as_type, as_rights, as_number, as_number_in, as_number_below, as_slot, as_register, as_operand, as_route, is_index_below}
use Rattle.hk_format.specs.Forms.{route_of}
use Rattle.hk_format.specs.WrittenLines.{before_last, last_of}
use Rattle.hk_format.specs.Grammar.{part_line, head_line}
use Rattle.hk_format.specs.Spelling.{written_pieces, body_pieces, head_pieces, end_line}
use Rattle.hk_format.specs.Syntax.{IsWritten, IsHead, IsName, Belongs}

pub verb_again : (v : Verb) → as_verb (verb_piece v) ≡ Ok v
unfolding all_verbs
verb_again verb.Hydra = refl
verb_again _ = refl

register_read : (r : ℕ) → r < 8 → (is_register (register_text r) ≡ true) × (register_of (register_text r) ≡ r)
register_read r h = (grind (arith, nat_tests), omega arith)

register_again : (r : ℕ) → IsReg r → as_register (register_piece r) ≡ Ok r
register_again r h = let known = register_read r h in rw (known.0, known.1)

operand_again : (o : Operand) → IsOperand o → as_operand (operand_piece o) ≡ Ok o
operand_again (operand.Number n) h = refl
operand_again (operand.Reg r) h = let known = register_read r h in rw (known.0, known.1)

slot_again : (s : Slot) → IsSlot s → as_slot (slot_piece s) ≡ Ok s
slot_again s h = rw (lt-ltb s.0 64 h)

below_again : (bound n : ℕ) → n < bound → as_number_below bound (Number n) ≡ Ok n
below_again bound n h = rw (lt-ltb n bound h)

pub same_is : (xs ys : List ℕ) → same_text xs ys ≡ true → xs ≡ ys
same_is [] [] h = refl
same_is [] (y ∷ ys) h = absurd (false≢true h)
same_is (x ∷ xs) [] h = absurd (false≢true h)
same_is (x ∷ xs) (y ∷ ys) h =
    let parts = and_parts (eqb x y) (same_text xs ys) h in
    let first = eqb-true x y parts.0 in
    let rest = same_is xs ys parts.1 in
    cc

pub rights_read : (t : List ℕ) → as_rights (rights_piece t) ≡ Ok t
rights_read t = go (same_text t (codes "-")) refl
  where
    go : (b : Bool) → same_text t (codes "-") ≡ b → as_rights (cond b Dash (Upper t)) ≡ Ok t
    go true e = ap Ok (sym (same_is t (codes "-") e))
    go false e = refl

indices_below : (xs : List Index) → AllByRecursion IsIndex xs → list_all (is_index_below 65536) xs ≡ true
indices_below [] h = refl
indices_below (Fixed n ∷ xs) h = rw (lt-ltb n 65536 h.0) (indices_below xs h.1)
indices_below (ByReg r ∷ xs) h = indices_below xs h.1

pub route_again : (r : Route) → IsRoute r → as_route (route_piece r) ≡ Ok r
route_again r h = go r.at h
  where
    go : (steps : List Index) → BeginsAtSlot steps × (length steps ≤ 8) × AllByRecursion IsIndex steps → as_route (steps_piece steps) ≡ Ok (route_of steps)
    go [] k = absurd k.0
    go (Fixed n ∷ []) k = rw (lt-ltb n 64 k.0)
    go (ByReg r ∷ []) k = let known = register_read r k.2.0 in rw (known.0, known.1)
    go (Fixed n ∷ y ∷ more) k = rw (lt-ltb n 64 k.0, indices_below (y ∷ more) k.2.1)
    go (ByReg r ∷ y ∷ more) k = rw (indices_below (y ∷ more) k.2.1)

args_again : (room : ℕ) (xs : List ℕ) → AllByRecursion (λ n. n < 64) xs → length xs ≤ room → at_most room (as_number_below 64) (map Number xs) ≡ Ok (xs, [])
args_again room [] h few = refl
args_again zero (x ∷ xs) h few = absurd (omega arith)
args_again (suc room) (x ∷ xs) h few = rw (below_again 64 x h.0, args_again room xs h.1 (omega arith))

all_put : (xs : List ℕ) (y : ℕ) → AllByRecursion (λ n. n < 64) xs → y < 64 → AllByRecursion (λ n. n < 64) (xs ++ y ∷ [])
all_put [] y h k = (k, tt)
all_put (x ∷ xs) y h k = (h.0, all_put xs y h.1 k)

before_put : (x : ℕ) (xs : List ℕ) (y : ℕ) → before_last x (xs ++ y ∷ []) ≡ x ∷ xs
before_put x [] y = refl
before_put x (z ∷ zs) y = ap (λ t. x ∷ t) (before_put z zs y)

last_put : (x : ℕ) (xs : List ℕ) (y : ℕ) → last_of x (xs ++ y ∷ []) ≡ y
last_put x [] y = refl
last_put x (z ∷ zs) y = last_put z zs y

call_again : (name : List ℕ) (proc : Route) (args : List ℕ) (into : Slot) → IsWritten (written.Enter proc args into)
    → part_line (CodeIs name) (written_pieces (written.Enter proc args into)) ≡ Ok (Some (StepIs (written.Enter proc args into)), [])
call_again name proc [] into h = rw (verb_again, route_again proc h.0, below_again 64 into.0 h.2)
call_again name proc (x ∷ xs) into h =
    let rest : at_most 8 (as_number_below 64) (map Number (xs ++ into.0 ∷ [])) ≡ Ok (xs ++ into.0 ∷ [], []) =
    args_again 8 (xs ++ into.0 ∷ []) (all_put xs into.0 h.1.1.1 h.2) (let few = h.1.0 in omega (arith, length-append xs (into.0 ∷ []))) in
    let pieces = map-append Number xs (into.0 ∷ []) in
    rw (verb_again, route_again proc h.0, below_again 64 x h.1.1.0, ← pieces, rest, before_put, last_put)

step_again : (name : List ℕ) (w : Written) → IsWritten w → part_line (CodeIs name) (written_pieces w) ≡ Ok (Some (StepIs w), [])
step_again name (written.Get of at reg) h = rw (verb_again, route_again of h.0, operand_again at h.1, register_again reg h.2)
step_again name (written.Put of at word) h = rw (verb_again, route_again of h.0, operand_again at h.1, operand_again word h.2)
step_again name (written.Add of word) h = rw (verb_again, route_again of h.0, operand_again word h.1)
step_again name (written.Length of reg) h = rw (verb_again, route_again of h.0, register_again reg h.1)
step_again name (written.Load from into) h = rw (verb_again, route_again from h.0, slot_again into h.1)
step_again name (written.Store list at from) h = rw (verb_again, route_again list h.0, operand_again at h.1, slot_again from h.2)
step_again name (written.Append list from) h = rw (verb_again, route_again list h.0, slot_again from h.1)
step_again name (written.Erase list at) h = rw (verb_again, route_again list h.0, operand_again at h.1)
step_again name (written.Drop slot) h = rw (verb_again, slot_again slot h)
step_again name (written.Restrict slot keep) h = rw (verb_again, slot_again slot h.0, rights_read)
step_again name (written.Look of reg) h = rw (verb_again, route_again of h.0, register_again reg h.1)
step_again name (written.MakeTemplate of (making.Amplify check give) into) h =
    rw (verb_again, route_again of h.0, verb_again verb.Amplify, rights_read check, rights_read give, slot_again into h.2)
step_again name (written.MakeTemplate of (making.Create give) into) h = rw (verb_again, route_again of h.0, verb_again verb.Create, rights_read give, slot_again into h.2)
step_again name (written.Create by into) h = rw (verb_again, route_again by h.0, slot_again into h.1)
step_again name (written.Merge with cap into) h = rw (verb_again, route_again with h.0, slot_again cap h.1, slot_again into h.2)
step_again name (written.Copy of into) h = rw (verb_again, route_again of h.0, slot_again into h.1)
step_again name (written.Enter proc args into) h = call_again name proc args into h
step_again name (written.Leave None) h = rw verb_again
step_again name (written.Leave (Some s)) h = rw (verb_again, slot_again s h)
step_again name (written.P of) h = rw (verb_again, route_again of h)
step_again name (written.V of) h = rw (verb_again, route_again of h)
step_again name written.Yield h = rw verb_again
step_again name (written.SetReg reg to) h = rw (verb_again, register_again reg h.0, operand_again to h.1)
step_again name (written.AddReg reg by) h = rw (verb_again, register_again reg h.0, operand_again by h.1)
step_again name (written.Goto to) h = rw verb_again
step_again name (written.IfEq left right to) h = rw (verb_again, operand_again left h.0, operand_again right h.1)
step_again name (written.IfLess left right to) h = rw (verb_again, operand_again left h.0, operand_again right h.1)
step_again name (written.IfDenied to) h = rw verb_again

type_again : (t : List ℕ) → as_type (type_piece t) ≡ Ok t
type_again t = go (is_word t)
  where
    go : (b : Bool) → as_type (cond b (Word t) (Upper t)) ≡ Ok t
    go true = refl
    go false = refl

name_again : (t : List ℕ) → IsName t → as_name (Word t) ≡ Ok t
name_again t h = rw h

numbers_again : (ns : List ℕ) → each as_number (map Number ns) ≡ Ok (ns, [])
numbers_again [] = refl
numbers_again (n ∷ ns) = rw (numbers_again ns)

in_again : (low high n : ℕ) → low ≤ n → n ≤ high → as_number_in low high (Number n) ≡ Ok n
in_again low high n a b = rw (le-leb low n a, le-leb n high b)

-- a line of an item is read as what it was spelled from
pub part_again : (head : Head) (b : Body) → Belongs head b → part_line head (body_pieces b) ≡ Ok (Some b, [])
part_again (ObjectIs name of) (WordsAre []) h = absurd h
part_again (ObjectIs name of) (WordsAre (w ∷ ws)) h = rw (verb_again, numbers_again ws)
part_again (ObjectIs name of) EmptyEntry h = rw verb_again
part_again (ObjectIs name of) (CapEntry object rights) h = rw (verb_again, type_again, rights_read)
part_again (ObjectIs name of) (AmplifyEntry kind check give) h = rw (verb_again, type_again, rights_read check, rights_read give)
part_again (ObjectIs name of) (CreateEntry type give) h = rw (verb_again, type_again, rights_read)
part_again (ObjectIs name of) b h = absurd h
part_again (ProcedureIs name code) (ParamIs kind check give) h = rw (verb_again, type_again, rights_read check, rights_read give)
part_again (ProcedureIs name code) EmptyEntry h = rw verb_again
part_again (ProcedureIs name code) (CapEntry object rights) h = rw (verb_again, type_again, rights_read)
part_again (ProcedureIs name code) (AmplifyEntry kind check give) h = rw (verb_again, type_again, rights_read check, rights_read give)
part_again (ProcedureIs name code) (CreateEntry type give) h = rw (verb_again, type_again, rights_read)
part_again (ProcedureIs name code) b h = absurd h
part_again (CodeIs name) (LabelIs label) h = rw verb_again
part_again (CodeIs name) (StepIs step) h = step_again name step h
part_again (CodeIs name) b h = absurd h
part_again (ProcessIs name code) EmptyEntry h = rw verb_again
part_again (ProcessIs name code) (CapEntry object rights) h = rw (verb_again, type_again, rights_read)
part_again (ProcessIs name code) (AmplifyEntry kind check give) h = rw (verb_again, type_again, rights_read check, rights_read give)
part_again (ProcessIs name code) (CreateEntry type give) h = rw (verb_again, type_again, rights_read)
part_again (ProcessIs name code) b h = absurd h
part_again head b h = absurd h

-- and so is a head
pub head_again : (head : Head) → IsHead head → head_line (head_pieces head) ≡ Ok (head, [])
head_again (LimitIs n) h = rw (verb_again, in_again 1 1000000 n h.0 h.1)
head_again (TypeIs name) h = rw (verb_again, name_again name h)
head_again (ObjectIs name of) h = rw (verb_again, name_again name h.0, type_again)
head_again (SemaphoreIs name count) h = rw (verb_again, name_again name h.0, in_again 0 65535 count (omega arith) h.1)
head_again (ProcedureIs name code) h = rw (verb_again, name_again name h.0)
head_again (CodeIs name) h = rw (verb_again, name_again name h)
head_again (ProcessIs name code) h = rw (verb_again, name_again name h.0)

pub end_again : (head : Head) → part_line head end_line ≡ Ok (None, [])
end_again (LimitIs n) = rw (verb_again verb.End)
end_again _ = rw (verb_again verb.End)
