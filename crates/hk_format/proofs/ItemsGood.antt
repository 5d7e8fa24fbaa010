-- The items of a world are the items of some script.
use Rattle.std.proofs.Common.{◌≡◌, ℕ, suc, zero, ◌+◌, ◌<◌, ◌≤◌, ◌^◌, ◌==◌, ◌&&◌, ◌||◌, not, Bool, true, false, cond, leb, List, [], ◌∷◌, ◌++◌, length, get_or, map, refl, sym, ap}
use Rattle.std.proofs.Common.{◌∙◌, subst, arith, Option, Some, None}
use Rattle.std.specs.Prelude.{codes, IsTrue}
use Rattle.std.specs.List.{list_all, list_any, AllByRecursion, filter, join_with_byte, onto_first}
use Rattle.std.specs.Fmt.{decimal}
use Rattle.std.proofs.lemmas.Fmt.{length-decimal-le, decimal_by_steps}
use Rattle.std.proofs.lemmas.Bool.{and_parts, and_from, le-leb, false≢true, not-true, eqb-false}
use Rattle.std.proofs.lemmas.Bool.Decides.{nat_tests}
use Rattle.std.proofs.lemmas.List.{length-map}
use mathlib.Core.List.{append_assoc}
use Rattle.hk_rights.specs.Rights.{has, all_rights, right_numbers, right_table, name_of, IsRightsWord}
use Rattle.hk_model.specs.declared.names.Name.{Name}
use Rattle.hk_model.specs.declared.entries.Entry.{Entry}
use Rattle.hk_model.specs.declared.entries.Entry.TheVariants.{Empty, Held, Form}
use Rattle.hk_model.specs.declared.entries.Making.{Making}
use Rattle.hk_model.specs.declared.entries.Making.TheVariants as making
use Rattle.hk_model.specs.declared.entries.Param.{Param}
use Rattle.hk_model.specs.declared.entries.Template.TheVariants as template
use Rattle.hk_model.specs.declared.instructions.Instr.{Instr}
use Rattle.hk_model.specs.declared.instructions.Instr.TheVariants as instr
use Rattle.hk_format.specs.declared.syntax.Head.{Head}
use Rattle.hk_format.specs.declared.syntax.Head.TheVariants.{LimitIs, ObjectIs, ProcedureIs, CodeIs, ProcessIs}
use Rattle.hk_format.specs.declared.syntax.Body.TheVariants.{WordsAre, LabelIs, StepIs}
use Rattle.hk_format.specs.declared.syntax.Part.{Part}
use Rattle.hk_format.specs.declared.syntax.Item.{Item}
use Rattle.hk_model.specs.declared.world.Kind.{Kind}
use Rattle.hk_model.specs.declared.world.Kind.TheVariants as kind
use Rattle.hk_model.specs.declared.world.Born.{Born}
use Rattle.hk_model.specs.declared.world.Code.{Code}
use Rattle.hk_model.specs.declared.world.Task.{Task}
use Rattle.hk_model.specs.Labels.{same_text, is_word, is_word_byte, is_name, is_register, is_digit, are_apart, is_capital}
use Rattle.hk_model.specs.WorldValue.{WorldValue, IsWorld, IsObject, IsTypeOrAny, IsEntry, IsParam, IsKind, IsCode, IsTask, IsInstr, IsMaking, IsWord32}
use Rattle.hk_format.specs.RightsTexts.{rights_text}
use Rattle.hk_format.specs.Pieces.{is_upper, is_names, is_upper_byte}
use Rattle.hk_format.specs.Names.{spoken, object_text, code_text}
use Rattle.hk_format.specs.Canonical.{kind_text, part, item, entry_body, entry_parts, param_parts, number_bytes, words_from, word_lines, label_text, making_text, written_of}
use Rattle.hk_format.specs.Canonical.{jumps_to, code_parts, object_item, kind_item, code_item, task_item, syntax_of}
use Rattle.hk_format.specs.Grammar.{GivenNames, nothing_seen, is_among, is_new, noted}
use Rattle.hk_format.specs.Syntax.{IsWordText, IsTypeText, IsRightsText, IsMakingText, IsWritten, IsHead, IsEntryBody, IsWordsLine, Belongs, AreParts, AreItems, IsSyntax}
use Rattle.hk_format.proofs.RightsAgain.{word_of, word_again}
use Rattle.hk_format.proofs.NamesAgain.{type_object}
use Rattle.hk_format.proofs.CodesAgain.{label_other}
use Rattle.hk_format.proofs.Cutting.{all_weaker, all_both}
use Rattle.hk_format.proofs.LoadAgain.{plain_general}

-- texts of rights

names_joined : (begins : Bool) (t rest : List ℕ) → is_names begins t ≡ true → is_names true rest ≡ true → is_names begins (t ++ 43 ∷ rest) ≡ true
names_joined true [] rest h k = absurd (false≢true h)
names_joined false [] rest h k = k
names_joined begins (b ∷ bs) rest h k = go (b == 43) h (λ c e. names_joined c bs rest e k)
  where
    go : (plus : Bool) → cond plus (not begins && is_names true bs) (cond begins (is_capital b) (is_upper_byte b) && is_names false bs) ≡ true
        → ((c : Bool) → is_names c bs ≡ true → is_names c (bs ++ 43 ∷ rest) ≡ true)
        → cond plus (not begins && is_names true (bs ++ 43 ∷ rest)) (cond begins (is_capital b) (is_upper_byte b) && is_names false (bs ++ 43 ∷ rest)) ≡ true
    go true e more = let parts = and_parts (not begins) (is_names true bs) e in and_from _ _ parts.0 (more true parts.1)
    go false e more = let parts = and_parts (cond begins (is_capital b) (is_upper_byte b)) (is_names false bs) e in and_from _ _ parts.0 (more false parts.1)

all_upper : AllByRecursion (λ n. is_upper (name_of n) ≡ true) right_numbers
unfolding right_numbers right_table name_of
all_upper = (refl, (refl, (refl, (refl, (refl, (refl, (refl, (refl, (refl, (refl, (refl, (refl, (refl, (refl, (refl, (refl, (refl, (refl, (refl, tt)))))))))))))))))))

kept_all : (P : ℕ → Type 0) (test : ℕ → Bool) (ns : List ℕ) → AllByRecursion P ns → AllByRecursion P (filter test ns)
kept_all P test [] h = tt
kept_all P test (n ∷ ns) h = go (test n) (kept_all P test ns h.1)
  where
    go : (b : Bool) → AllByRecursion P (filter test ns) → AllByRecursion P (cond b (n ∷ filter test ns) (filter test ns))
    go true rest = (h.0, rest)
    go false rest = rest

names_upper : (n : ℕ) (ns : List ℕ) → AllByRecursion (λ k. is_upper (name_of k) ≡ true) (n ∷ ns) → is_upper (join_with_byte 43 (map name_of (n ∷ ns))) ≡ true
names_upper n [] h = h.0
names_upper n (k ∷ ns) h = names_joined true (name_of n) (join_with_byte 43 (map name_of (k ∷ ns))) h.0 (names_upper k ns h.1)

or_right : (a b : Bool) → b ≡ true → (a || b) ≡ true
or_right true b h = refl
or_right false b h = h

pub rights_good : (r : ℕ) → IsRightsWord r → IsRightsText (rights_text r)
unfolding rights_text word_of
rights_good r word = go (r == 0) refl (r == all_rights)
  where
    some : (r == 0) ≡ false → (ns : List ℕ) → filter (has r) right_numbers ≡ ns → AllByRecursion (λ k. is_upper (name_of k) ≡ true) ns
        → IsRightsText (join_with_byte 43 (map name_of ns))
    some k [] e all = absurd (eqb-false r 0 k (sym (word_again r word) ∙ ap word_of e))
    some k (n ∷ ns) e all = or_right (same_text (join_with_byte 43 (map name_of (n ∷ ns))) (codes "-")) _ (names_upper n ns all)

    go : (a : Bool) → (r == 0) ≡ a → (b : Bool) → IsRightsText (cond a (codes "-") (cond b (codes "ALL") (join_with_byte 43 (map name_of (filter (has r) right_numbers)))))
    go true k b = refl
    go false k true = refl
    go false k false = some k (filter (has r) right_numbers) refl (kept_all (λ k. is_upper (name_of k) ≡ true) (has r) right_numbers all_upper)

-- texts of names

pub name_word : (t : List ℕ) → IsTrue (is_name t) → IsTrue (is_word t)
name_word t h = (and_parts (is_word t) (not (is_register t)) (and_parts (is_word t && not (is_register t)) (not (same_text t (codes "any"))) h).0).0

or_left : (a b : Bool) → a ≡ true → (a || b) ≡ true
or_left true b h = refl
or_left false b h = absurd (false≢true h)

pub all_at : {X : Type 0} (P : X → Type 0) (xs : List X) (k : ℕ) (d : X) → AllByRecursion P xs → k < length xs → P (get_or xs k d)
all_at P [] k d all inside = absurd (omega arith)
all_at P (x ∷ xs) zero d all inside = all.0
all_at P (x ∷ xs) (suc k) d all inside = all_at P xs k d all.1 (omega arith)

pub all_front : {X : Type 0} (P : X → Type 0) (xs ys : List X) → AllByRecursion P (xs ++ ys) → AllByRecursion P xs
all_front P [] ys h = tt
all_front P (x ∷ xs) ys h = (h.0, all_front P xs ys h.1)

pub all_back : {X : Type 0} (P : X → Type 0) (xs ys : List X) → AllByRecursion P (xs ++ ys) → AllByRecursion P ys
all_back P [] ys h = h
all_back P (x ∷ xs) ys h = all_back P xs ys h.1

typed_names : (ls : List (List ℕ)) → AllByRecursion (λ l. IsTrue (is_name l)) ls → AllByRecursion IsTypeText ls
typed_names [] h = tt
typed_names (l ∷ ls) h = (or_left (is_word l) (is_upper l) (name_word l h.0), typed_names ls h.1)

pub object_good : (w : WorldValue) → IsWorld w → (n : Name) → IsObject w n → IsTypeText (object_text (spoken w) n)
object_good w h n there =
    let own = map (λ (b : Born). b.label) w.objects in
    let rest = map (λ (c : Code). c.label) w.codes ++ map (λ (t : Task). t.label) w.tasks in
    let size : length (spoken w).objects ≡ 7 + length w.objects = rw length-map (omega arith) in
    all_at IsTypeText (spoken w).objects n.0 [] (refl, (refl, (refl, (refl, (refl, (refl, (refl, typed_names own (all_front (λ l. IsTrue (is_name l)) own rest h.names))))))))
    (omega arith)

pub code_good : (w : WorldValue) → IsWorld w → (n : ℕ) → n < length w.codes → IsWordText (code_text (spoken w) n)
code_good w h n there =
    let own = map (λ (b : Born). b.label) w.objects in
    let codes = map (λ (c : Code). c.label) w.codes in
    let tasks = map (λ (t : Task). t.label) w.tasks in
    name_word (code_text (spoken w) n) (all_at (λ l. IsTrue (is_name l)) codes n [] (all_front (λ l. IsTrue (is_name l)) codes tasks
    (all_back (λ l. IsTrue (is_name l)) own (codes ++ tasks) h.names)) (rw length-map there))

pub kind_good : (w : WorldValue) → IsWorld w → (of : Option Name) → IsTypeOrAny w of → IsTypeText (kind_text (spoken w) of)
kind_good w h None k = refl
kind_good w h (Some n) k = object_good w h n (type_object w n k)

pub entry_good : (w : WorldValue) → IsWorld w → (e : Entry) → IsEntry w e → IsEntryBody (entry_body (spoken w) e)
entry_good w h Empty k = tt
entry_good w h (Held cap) k = (object_good w h cap.name k.0, rights_good cap.rights k.1)
entry_good w h (Form (template.Amplify of check give)) k = (kind_good w h of k.0, rights_good check k.1, rights_good give k.2)
entry_good w h (Form (template.Create of give)) k = (object_good w h of (type_object w of k.0), rights_good give k.1)

-- lines of items

-- a head that entries may stand under
TakesEntries : WorldValue → Head → Type 0
TakesEntries w head = (e : Entry) → IsEntryBody (entry_body (spoken w) e) → Belongs head (entry_body (spoken w) e)

object_takes : (w : WorldValue) (name of : List ℕ) → TakesEntries w (ObjectIs name of)
unfolding TakesEntries
object_takes w name of Empty k = k
object_takes w name of (Held cap) k = k
object_takes w name of (Form (template.Amplify t check give)) k = k
object_takes w name of (Form (template.Create t give)) k = k

procedure_takes : (w : WorldValue) (name code : List ℕ) → TakesEntries w (ProcedureIs name code)
unfolding TakesEntries
procedure_takes w name code Empty k = k
procedure_takes w name code (Held cap) k = k
procedure_takes w name code (Form (template.Amplify t check give)) k = k
procedure_takes w name code (Form (template.Create t give)) k = k

process_takes : (w : WorldValue) (name code : List ℕ) → TakesEntries w (ProcessIs name code)
unfolding TakesEntries
process_takes w name code Empty k = k
process_takes w name code (Held cap) k = k
process_takes w name code (Form (template.Amplify t check give)) k = k
process_takes w name code (Form (template.Create t give)) k = k

entries_good : (w : WorldValue) → IsWorld w → (head : Head) → TakesEntries w head → (es : List Entry) → AllByRecursion (IsEntry w) es → AreParts head [] (entry_parts (spoken w) es)
unfolding TakesEntries
entries_good w h head takes [] k = tt
entries_good w h head takes (Empty ∷ es) k = (takes Empty (entry_good w h Empty k.0), refl, entries_good w h head takes es k.1)
entries_good w h head takes (Held cap ∷ es) k = (takes (Held cap) (entry_good w h (Held cap) k.0), refl, entries_good w h head takes es k.1)
entries_good w h head takes (Form (template.Amplify of check give) ∷ es) k =
    (takes (Form (template.Amplify of check give)) (entry_good w h (Form (template.Amplify of check give)) k.0), refl, entries_good w h head takes es k.1)
entries_good w h head takes (Form (template.Create of give) ∷ es) k =
    (takes (Form (template.Create of give)) (entry_good w h (Form (template.Create of give)) k.0), refl, entries_good w h head takes es k.1)

params_good : (w : WorldValue) → IsWorld w → (name code : List ℕ) (ps : List Param) (rest : List Part) → AllByRecursion (IsParam w) ps → AreParts (ProcedureIs name code) [] rest
    → AreParts (ProcedureIs name code) [] (param_parts (spoken w) ps ++ rest)
params_good w h name code [] rest k after = after
params_good w h name code (p ∷ ps) rest k after =
    ((kind_good w h p.of k.0.0, rights_good p.check k.0.1, rights_good p.give k.0.2), refl, params_good w h name code ps rest k.1 after)

-- the first of these lines goes on behind a number
GoesOn : List (List ℕ) → Type 0
GoesOn [] = ⊥
GoesOn (l ∷ ls) = AllByRecursion IsWord32 l × AllByRecursion IsWordsLine ls

put_good : (w : ℕ) (ls : List (List ℕ)) → IsWord32 w → GoesOn ls → AllByRecursion IsWordsLine (onto_first w ls)
unfolding GoesOn
put_good w [] k g = absurd g
put_good w (l ∷ ls) k g = ((k, g.0), g.1)

put_on : (w : ℕ) (ls : List (List ℕ)) → IsWord32 w → GoesOn ls → GoesOn (onto_first w ls)
unfolding GoesOn
put_on w [] k g = absurd g
put_on w (l ∷ ls) k g = ((k, g.0), g.1)

words_go : (used : ℕ) (ws : List ℕ) → AllByRecursion IsWord32 ws → GoesOn (words_from used ws)
unfolding GoesOn
words_go used [] k = (tt, tt)
words_go used (w ∷ ws) k = go (leb (used + number_bytes w) 1000) (λ u. words_go u ws k.1)
  where
    go : (b : Bool) → ((u : ℕ) → GoesOn (words_from u ws))
        → GoesOn (cond b (onto_first w (words_from (used + number_bytes w) ws)) ([] ∷ onto_first w (words_from (5 + number_bytes w) ws)))
    go true rest = put_on w (words_from (used + number_bytes w) ws) k.0 (rest (used + number_bytes w))
    go false rest = (tt, put_good w (words_from (5 + number_bytes w) ws) k.0 (rest (5 + number_bytes w)))

word_small : (w : ℕ) → IsWord32 w → 5 + number_bytes w ≤ 1000
word_small w k = let few = length-decimal-le 10 w (omega arith) (omega arith) (omega arith) in omega arith

pub word_lines_good : (ws : List ℕ) → AllByRecursion IsWord32 ws → AllByRecursion IsWordsLine (word_lines ws)
word_lines_good [] k = tt
word_lines_good (w ∷ ws) k = rw (le-leb (5 + number_bytes w) 1000 (word_small w k.0)) (put_good w (words_from (5 + number_bytes w) ws) k.0 (words_go (5 + number_bytes w) ws k.1))

words_good : (name of : List ℕ) (lines : List (List ℕ)) (rest : List Part) → AllByRecursion IsWordsLine lines → AreParts (ObjectIs name of) [] rest
    → AreParts (ObjectIs name of) [] (map (λ line. part (WordsAre line)) lines ++ rest)
words_good name of [] rest k after = after
words_good name of (l ∷ ls) rest k after = (k.0, refl, words_good name of ls rest k.1 after)

-- the lines of a code

digits_all : (n : ℕ) → n < 2 ^ 64 → list_all is_digit (decimal n) ≡ true
digits_all = decimal_by_steps (λ n ds. list_all is_digit ds ≡ true) (λ n h. grind (arith, nat_tests)) (λ n ds h k. all_both is_digit ds _ k (grind (arith, nat_tests)))

pub label_word : (n : ℕ) → n ≤ 4096 → is_word (label_text n) ≡ true
label_word n h =
    let few = length-decimal-le 4 n (omega arith) (omega arith) (omega arith) in
    let bytes : list_all is_word_byte (decimal n) ≡ true = all_weaker is_digit is_word_byte (λ b k. grind (arith, nat_tests)) (decimal n) (digits_all n (omega arith)) in
    let short : leb (length (label_text n)) 32 ≡ true = le-leb _ _ (omega arith) in
    rw (bytes, short)

making_good : (m : Making) → IsMaking m → IsMakingText (making_text m)
making_good (making.Amplify check give) h = (rights_good check h.0, rights_good give h.1)
making_good (making.Create give) h = rights_good give h

pub written_good : (len : ℕ) (i : Instr) → len ≤ 4096 → IsInstr len i → IsWritten (written_of i)
written_good len (instr.Restrict slot keep) few h = (h.0, rights_good keep h.1)
written_good len (instr.MakeTemplate of kind into) few h = (h.0, making_good kind h.1, h.2)
written_good len (instr.Goto to) few h = label_word to (omega arith)
written_good len (instr.IfEq left right to) few h = (h.0, h.1, label_word to (let k = h.2 in omega arith))
written_good len (instr.IfLess left right to) few h = (h.0, h.1, label_word to (let k = h.2 in omega arith))
written_good len (instr.IfDenied to) few h = label_word to (omega arith)
written_good len (instr.Get of at reg) few h = h
written_good len (instr.Put of at word) few h = h
written_good len (instr.Add of word) few h = h
written_good len (instr.Length of reg) few h = h
written_good len (instr.Load from into) few h = h
written_good len (instr.Store list at from) few h = h
written_good len (instr.Append list from) few h = h
written_good len (instr.Erase list at) few h = h
written_good len (instr.Drop slot) few h = h
written_good len (instr.Look of reg) few h = h
written_good len (instr.Create by into) few h = h
written_good len (instr.Merge with cap into) few h = h
written_good len (instr.Copy of into) few h = h
written_good len (instr.Enter proc args into) few h = h
written_good len (instr.Leave give) few h = h
written_good len (instr.P of) few h = h
written_good len (instr.V of) few h = h
written_good len instr.Yield few h = tt
written_good len (instr.SetReg reg to) few h = h
written_good len (instr.AddReg reg by) few h = h

-- labels of places before this one
IsBelow : ℕ → List ℕ → Type 0
IsBelow n l = (j : ℕ) × (j < n) × (l ≡ label_text j)

below_more : (n : ℕ) (ls : List (List ℕ)) → AllByRecursion (IsBelow n) ls → AllByRecursion (IsBelow (n + 1)) ls
unfolding IsBelow
below_more n [] h = tt
below_more n (l ∷ ls) h = ((h.0.0, omega (arith, h.0.1), h.0.2), below_more n ls h.1)

below_put : (n : ℕ) (ls : List (List ℕ)) → AllByRecursion (IsBelow n) ls → AllByRecursion (IsBelow (n + 1)) (ls ++ label_text n ∷ [])
unfolding IsBelow
below_put n [] h = ((n, omega arith, refl), tt)
below_put n (l ∷ ls) h = ((h.0.0, omega (arith, h.0.1), h.0.2), below_put n ls h.1)

label_new : (n : ℕ) (ls : List (List ℕ)) → n ≤ 4096 → AllByRecursion (IsBelow n) ls → is_among ls (label_text n) ≡ false
unfolding IsBelow
label_new n [] few h = refl
label_new n (l ∷ ls) few h =
    let below = h.0.1 in
    let other : same_text (label_text n) l ≡ false = subst (λ (t : List ℕ). same_text (label_text n) t ≡ false) (sym h.0.2)
    (label_other n h.0.0 few (omega arith) (λ e. omega arith)) in
    rw (other, label_new n ls few h.1)

steps_good : (name : List ℕ) (all is : List Instr) (n : ℕ) (ls : List (List ℕ)) → AllByRecursion (IsBelow n) ls → n + length is ≤ 4096
    → AllByRecursion (λ i. IsWritten (written_of i)) is → AreParts (CodeIs name) ls (code_parts all n is)
steps_good name all [] n ls below few h = go (list_any (jumps_to n) all)
  where
    go : (b : Bool) → AreParts (CodeIs name) ls (cond b (part (LabelIs (label_text n)) ∷ []) [])
    go true = (label_word n (omega arith), rw (label_new n ls (omega arith) below), tt)
    go false = tt
steps_good name all (i ∷ is) n ls below few h = go (list_any (jumps_to n) all) (λ more k. steps_good name all is (n + 1) more k (omega arith) h.1)
  where
    go : (b : Bool) → ((more : List (List ℕ)) → AllByRecursion (IsBelow (n + 1)) more → AreParts (CodeIs name) more (code_parts all (n + 1) is))
        → AreParts (CodeIs name) ls (cond b (part (LabelIs (label_text n)) ∷ []) [] ++ part (StepIs (written_of i)) ∷ code_parts all (n + 1) is)
    go true rest = (label_word n (omega arith), rw (label_new n ls (omega arith) below), (h.0, refl, rest (ls ++ label_text n ∷ []) (below_put n ls below)))
    go false rest = (h.0, refl, rest ls (below_more n ls below))

all_written : (len : ℕ) (is : List Instr) → len ≤ 4096 → AllByRecursion (IsInstr len) is → AllByRecursion (λ i. IsWritten (written_of i)) is
all_written len [] few h = tt
all_written len (i ∷ is) few h = (written_good len i few h.0, all_written len is few h.1)

-- names that no head has given yet

apart_seen : (ns : List (List ℕ)) (t : List ℕ) (ts : List (List ℕ)) → are_apart (ns ++ t ∷ ts) ≡ true → is_among ns t ≡ false
apart_seen [] t ts h = refl
apart_seen (n ∷ ns) t ts h =
    let both = and_parts (not (list_any (λ u. same_text u n) (ns ++ t ∷ ts))) (are_apart (ns ++ t ∷ ts)) h in
    rw (seen ns (not-true _ both.0)) (apart_seen ns t ts both.1)
  where
    seen : (ms : List (List ℕ)) → list_any (λ u. same_text u n) (ms ++ t ∷ ts) ≡ false → same_text t n ≡ false
    seen [] e = left (same_text t n) _ e
      where
        left : (a b : Bool) → (a || b) ≡ false → a ≡ false
        left true b k = k
        left false b k = refl
    seen (m ∷ ms) e = seen ms (right (same_text m n) _ e)
      where
        right : (a b : Bool) → (a || b) ≡ false → b ≡ false
        right true b k = absurd (false≢true (sym k))
        right false b k = k

pub seen_so : List (List ℕ) → Bool → GivenNames
seen_so names limited = record { names = names; limited = limited }

object_item_good : (w : WorldValue) → IsWorld w → (label : List ℕ) (k : Kind) → IsTrue (is_name label) → IsKind w k
    → IsHead (kind_item (spoken w) label k).head × AreParts (kind_item (spoken w) label k).head [] (kind_item (spoken w) label k).parts
object_item_good w h label kind.TypeObject name k = (name, tt)
object_item_good w h label (kind.Semaphore count) name k = ((name, k), tt)
object_item_good w h label (kind.Plain of words entries) name k = (
  (name, object_good w h of (type_object w of (plain_general w of entries k.0).0)),
  words_good label (object_text (spoken w) of) (word_lines words)
      (entry_parts (spoken w) entries) (word_lines_good words k.2) (entries_good w h (ObjectIs label (object_text (spoken w) of))
      (object_takes w label (object_text (spoken w) of)) entries k.4),
)
object_item_good w h label (kind.Procedure code params entries) name k = (
  (name, code_good w h code k.0),
  params_good w h label (code_text (spoken w) code) params (entry_parts (spoken w) entries) k.2
      (entries_good w h (ProcedureIs label (code_text (spoken w) code)) (procedure_takes w label (code_text (spoken w) code)) entries k.4),
)

object_seen : (w : WorldValue) (names : List (List ℕ)) (limited : Bool) (label : List ℕ) (k : Kind) → is_among names label ≡ false
    → (IsTrue (is_new (seen_so names limited) (kind_item (spoken w) label k).head)) × (noted (seen_so names limited) (kind_item (spoken w) label k).head
    ≡ seen_so (names ++ label ∷ []) limited)
unfolding seen_so
object_seen w names limited label kind.TypeObject e = (rw e refl, refl)
object_seen w names limited label (kind.Plain of words entries) e = (rw e refl, refl)
object_seen w names limited label (kind.Semaphore count) e = (rw e refl, refl)
object_seen w names limited label (kind.Procedure code params entries) e = (rw e refl, refl)

objects_good : (w : WorldValue) → IsWorld w → (names : List (List ℕ)) (limited : Bool) (os : List Born) (rest : List Item) (ls : List (List ℕ))
    → AllByRecursion (λ (o : Born). IsKind w o.kind) os → AllByRecursion (λ l. IsTrue (is_name l)) (map (λ (o : Born). o.label) os)
    → are_apart (names ++ (map (λ (o : Born). o.label) os ++ ls)) ≡ true → ((more : List (List ℕ)) → are_apart (more ++ ls) ≡ true → AreItems (seen_so more limited) rest)
    → AreItems (seen_so names limited) (map (object_item (spoken w)) os ++ rest)
objects_good w h names limited [] rest ls k named apart after = after names apart
objects_good w h names limited (o ∷ os) rest ls k named apart after =
    let item = object_item_good w h o.label o.kind named.0 k.0 in
    let seen = object_seen w names limited o.label o.kind (apart_seen names o.label (map (λ (b : Born). b.label) os ++ ls) apart) in
    (item.0, seen.0, item.1, rw seen.1 (objects_good w h (names ++ o.label ∷ []) limited os rest ls k.1 named.1 (rw append_assoc apart) after))

codes_good : (names : List (List ℕ)) (limited : Bool) (cs : List Code) (rest : List Item) (ls : List (List ℕ)) → AllByRecursion IsCode cs
    → AllByRecursion (λ l. IsTrue (is_name l)) (map (λ (c : Code). c.label) cs) → are_apart (names ++ (map (λ (c : Code). c.label) cs ++ ls)) ≡ true
    → ((more : List (List ℕ)) → are_apart (more ++ ls) ≡ true → AreItems (seen_so more limited) rest) → AreItems (seen_so names limited) (map code_item cs ++ rest)
unfolding seen_so
codes_good names limited [] rest ls k named apart after = after names apart
codes_good names limited (c ∷ cs) rest ls k named apart after =
    let new = apart_seen names c.label (map (λ (d : Code). d.label) cs ++ ls) apart in (
      named.0,
      rw new refl,
      steps_good c.label c.steps c.steps 0 [] tt (let few =
          k.0.0 in omega arith) (all_written (length c.steps) c.steps k.0.0 k.0.1),
      codes_good (names ++ c.label ∷ []) limited cs rest ls k.1 named.1 (rw append_assoc apart) after,
    )

tasks_good : (w : WorldValue) → IsWorld w → (names : List (List ℕ)) (limited : Bool) (ts : List Task) → AllByRecursion (IsTask w) ts
    → AllByRecursion (λ l. IsTrue (is_name l)) (map (λ (t : Task). t.label) ts) → are_apart (names ++ map (λ (t : Task). t.label) ts) ≡ true
    → AreItems (seen_so names limited) (map (task_item (spoken w)) ts)
unfolding seen_so
tasks_good w h names limited [] k named apart = tt
tasks_good w h names limited (t ∷ ts) k named apart =
    let new = apart_seen names t.label (map (λ (s : Task). s.label) ts) apart in (
      (named.0, code_good w h t.code k.0.0),
      rw new refl,
      entries_good w h (ProcessIs t.label (code_text (spoken w) t.code))
          (process_takes w t.label (code_text (spoken w) t.code)) t.slots k.0.2,
      tasks_good w h (names ++ t.label ∷ []) limited ts k.1 named.1 (rw append_assoc apart),
    )

-- the items of a world are those of some script
pub syntax_good : (w : WorldValue) → IsWorld w → IsSyntax (syntax_of w)
unfolding seen_so
syntax_good w h = go (w.limit == 10000)
  where
    own : List (List ℕ)
    own = map (λ (b : Born). b.label) w.objects

    coded : List (List ℕ)
    coded = map (λ (c : Code). c.label) w.codes

    tasked : List (List ℕ)
    tasked = map (λ (t : Task). t.label) w.tasks

    named : AllByRecursion (λ l. IsTrue (is_name l)) (coded ++ tasked)
    named = all_back (λ l. IsTrue (is_name l)) own (coded ++ tasked) h.names

    all : (limited : Bool) → AreItems (seen_so [] limited) (map (object_item (spoken w)) w.objects ++ (map code_item w.codes ++ map (task_item (spoken w)) w.tasks))
    all limited =
        objects_good w h [] limited w.objects (map code_item w.codes ++ map (task_item (spoken w)) w.tasks) (coded ++ tasked) h.kinds
        (all_front (λ l. IsTrue (is_name l)) own (coded ++ tasked) h.names) h.apart (λ more apart. codes_good more limited w.codes
        (map (task_item (spoken w)) w.tasks) tasked h.codes_are (all_front (λ l. IsTrue (is_name l)) coded tasked named) apart
        (λ most apart. tasks_good w h most limited w.tasks h.tasks_are (all_back (λ l. IsTrue (is_name l)) coded tasked named) apart))

    go : (b : Bool)
        → AreItems nothing_seen (cond b [] (item (LimitIs w.limit) [] ∷ []) ++ (map (object_item (spoken w)) w.objects
        ++ (map code_item w.codes ++ map (task_item (spoken w)) w.tasks)))
    go true = all false
    go false = ((h.some_events, h.few_events), refl, tt, all true)
