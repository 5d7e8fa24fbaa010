-- The items that a world is written as are loaded as this world.
use Rattle.std.proofs.Common.{◌≡◌, ℕ, ◌+◌, ◌<◌, ◌≤◌, inl, inr, Bool, true, false, cond, eqb, leb, List, [], ◌∷◌, ◌++◌, length, refl, sym, ap, ◌∙◌, arith, not, map, Ok, Option}
use Rattle.std.proofs.Common.{Some, None}
use Rattle.std.specs.List.{filter_map, AllByRecursion, onto_first, concat}
use Rattle.std.proofs.lemmas.Bool.{lt-ltb, le-leb, eqb-true}
use Rattle.std.proofs.lemmas.Bool.Decides.{nat_tests}
use Rattle.std.proofs.lemmas.List.{map-append, length-append}
use Rattle.std.proofs.lemmas.List.Elements.{filter_map-append}
use mathlib.Core.List.{append_assoc, append-nil}
use Rattle.std.proofs.Math.Nat.{add-zero}
use Rattle.hk_model.specs.declared.names.Name.{Name}
use Rattle.hk_model.specs.declared.entries.Entry.{Entry}
use Rattle.hk_model.specs.declared.entries.Entry.TheVariants.{Empty, Held, Form}
use Rattle.hk_model.specs.declared.entries.Param.{Param}
use Rattle.hk_model.specs.declared.entries.Template.TheVariants as template
use Rattle.hk_format.specs.declared.syntax.Head.{Head}
use Rattle.hk_format.specs.declared.syntax.Head.TheVariants.{LimitIs}
use Rattle.hk_format.specs.declared.syntax.Body.TheVariants.{WordsAre}
use Rattle.hk_format.specs.declared.syntax.Part.{Part}
use Rattle.hk_format.specs.declared.syntax.Item.{Item}
use Rattle.hk_model.specs.declared.world.Kind.{Kind}
use Rattle.hk_model.specs.declared.world.Kind.TheVariants as kind
use Rattle.hk_model.specs.declared.world.Born.{Born}
use Rattle.hk_model.specs.declared.world.Code.{Code}
use Rattle.hk_model.specs.declared.world.Task.{Task}
use Rattle.hk_model.specs.Targets.{is_general}
use Rattle.hk_model.specs.WorldValue.{WorldValue, world_value, IsWorld, IsCode, IsEntry, IsKind, IsParam, IsPlainType, IsTask, IsType}
use Rattle.hk_format.specs.Names.{Names, spoken, kernel_names, kernel_flags}
use Rattle.hk_format.specs.Canonical.{part, item, entry_parts, param_parts, number_bytes, words_from, word_lines, word_parts, code_parts, object_item, kind_item, code_item}
use Rattle.hk_format.specs.Canonical.{task_item, syntax_of}
use Rattle.hk_format.specs.Syntax.{placed_parts, placed_item, placed, lines_taken}
use Rattle.hk_format.specs.Loading.{Contents, contents, used, room, contents_of, Counts, counts, counted, with_object, labels_from, instrs_of, names_of, object_label, is_type_head}
use Rattle.hk_format.specs.Loading.{code_label, item_of, items_of, load}
use Rattle.hk_format.proofs.NamesAgain.{Known, is_type_object, type_again, code_again, entry_again, param_again}
use Rattle.hk_format.proofs.CodesAgain.{Finds, finds_all, instrs_again, within_all}

-- entries, parameters and words of an item

pub entries_again : {w : WorldValue} {names : Names} → Known w names → (bound words params n line : ℕ) (es : List Entry) → AllByRecursion (IsEntry w) es → n + length es ≤ bound
    → contents_of names (room true bound) (used words params n) (placed_parts line (entry_parts (spoken w) es)) ≡ Ok (contents [] [] es)
entries_again k bound words params n line [] h few = refl
entries_again k bound words params n line (Empty ∷ es) h few = rw (lt-ltb n bound (omega arith), entries_again k bound words params (n + 1) (line + 1) es h.1 (omega arith))
entries_again k bound words params n line (Held cap ∷ es) h few =
    rw (entry_again k (Held cap) h.0, lt-ltb n bound (omega arith), entries_again k bound words params (n + 1) (line + 1) es h.1 (omega arith))
entries_again k bound words params n line (Form (template.Amplify of check give) ∷ es) h few =
    rw (entry_again k (Form (template.Amplify of check give)) h.0, lt-ltb n bound (omega arith), entries_again k bound words params (n + 1) (line + 1) es h.1 (omega arith))
entries_again k bound words params n line (Form (template.Create of give) ∷ es) h few =
    rw (entry_again k (Form (template.Create of give)) h.0, lt-ltb n bound (omega arith), entries_again k bound words params (n + 1) (line + 1) es h.1 (omega arith))

params_again : {w : WorldValue} {names : Names} → Known w names → (bound n line : ℕ) (ps : List Param) (rest : List Part) (es : List Entry) → AllByRecursion (IsParam w) ps
    → n + length ps ≤ 8 → ((m l : ℕ) → contents_of names (room true bound) (used 0 m 0) (placed_parts l rest) ≡ Ok (contents [] [] es))
    → contents_of names (room true bound) (used 0 n 0) (placed_parts line (param_parts (spoken w) ps ++ rest)) ≡ Ok (contents [] ps es)
params_again k bound n line [] rest es h few after = after n line
params_again k bound n line (p ∷ ps) rest es h few after =
    rw (param_again k p h.0, lt-ltb n 8 (omega arith), params_again k bound (n + 1) (line + 1) ps rest es h.1 (omega arith) after)

concat_onto : (w : ℕ) (xs : List (List ℕ)) → concat (onto_first w xs) ≡ w ∷ concat xs
concat_onto w [] = refl
concat_onto w (x ∷ xs) = refl

words_joined : (used : ℕ) (ws : List ℕ) → concat (words_from used ws) ≡ ws
words_joined used [] = refl
words_joined used (w ∷ ws) = go (leb (used + number_bytes w) 1000) (λ u. words_joined u ws)
  where
    go : (b : Bool) → ((u : ℕ) → concat (words_from u ws) ≡ ws)
        → concat (cond b (onto_first w (words_from (used + number_bytes w) ws)) ([] ∷ onto_first w (words_from (5 + number_bytes w) ws))) ≡ w ∷ ws
    go true rest = concat_onto w _ ∙ ap (λ (t : List ℕ). w ∷ t) (rest _)
    go false rest = concat_onto w _ ∙ ap (λ (t : List ℕ). w ∷ t) (rest _)

-- the lines of words are the words again
pub lines_joined : (ws : List ℕ) → concat (word_lines ws) ≡ ws
lines_joined [] = refl
lines_joined (w ∷ ws) = words_joined 5 (w ∷ ws)

words_again : (names : Names) (listed : Bool) (bound n line : ℕ) (lines : List (List ℕ)) (rest : List Part) (c : Contents) → n + length (concat lines) ≤ 4096
    → ((m l : ℕ) → contents_of names (room listed bound) (used m 0 0) (placed_parts l rest) ≡ Ok c)
    → contents_of names (room listed bound) (used n 0 0) (placed_parts line (map (λ ws. part (WordsAre ws)) lines ++ rest))
    ≡ Ok (contents (concat lines ++ c.words) c.params c.entries)
words_again names listed bound n line [] rest c few after = after n line
words_again names listed bound n line (ws ∷ more) rest c few after =
    let len = length-append ws (concat more) in
    let here : leb (n + length ws) 4096 ≡ true = le-leb _ _ (omega arith) in
    rw (here, words_again names listed bound (n + length ws) (line + 1) more rest c (omega arith) after) (rw append_assoc)

-- items

pub plain_general : (w : WorldValue) (of : Name) (entries : List Entry) → IsPlainType w of entries → (IsType w of) × (is_general of ≡ true)
plain_general w of entries (inl plain) = (inl (let e = plain.0 in omega arith), rw plain.0)
plain_general w of entries (inr (inl universal)) = (inl (omega arith), rw universal)
plain_general w of entries (inr (inr declared)) = (inr declared, let above = declared.above in grind (arith, nat_tests))

plain_again : {w : WorldValue} {names : Names} → Known w names → (line : ℕ) (of : Name) (words : List ℕ) (entries : List Entry) → IsKind w (kind.Plain of words entries)
    → contents_of names (room (not (eqb of.0 1)) 256) (used 0 0 0) (placed_parts line (word_parts words ++ entry_parts (spoken w) entries)) ≡ Ok (contents words [] entries)
plain_again {w} {names} k line of words entries h = words_again names (not (eqb of.0 1)) 256 0 line (word_lines words) (entry_parts (spoken w) entries) (contents [] [] entries)
    (let few = h.1 in rw lines_joined (omega arith)) (λ m l. of_entries (eqb of.0 1) refl entries h.0 h.3 h.4 m l) ∙ rw (lines_joined, append-nil)
  where
    of_entries : (b : Bool) → eqb of.0 1 ≡ b → (es : List Entry) → IsPlainType w of es → length es ≤ 256 → AllByRecursion (IsEntry w) es → (m l : ℕ)
        → contents_of names (room (not b) 256) (used m 0 0) (placed_parts l (entry_parts (spoken w) es)) ≡ Ok (contents [] [] es)
    of_entries true e [] type few all m l = refl
    of_entries true e (x ∷ xs) (inl plain) few all m l = absurd (let none = plain.1 in cc)
    of_entries true e (x ∷ xs) (inr (inl universal)) few all m l = absurd (let same = eqb-true of.0 1 e in omega arith)
    of_entries true e (x ∷ xs) (inr (inr declared)) few all m l = absurd (let same = eqb-true of.0 1 e in let above = declared.above in omega arith)
    of_entries false e es type few all m l = entries_again k 256 m 0 0 l es all (omega arith)

record ObjectAgain (w : WorldValue) (names : Names) (n : Counts) (line : ℕ) (label : List ℕ) (k : Kind) : Type 0 where
  loaded : item_of names n (placed_item line (kind_item (spoken w) label k)) ≡ Ok (with_object label k)
  counts : counted n (kind_item (spoken w) label k).head ≡ counts (n.objects + 1) n.codes n.tasks

kind_again : {w : WorldValue} {names : Names} → Known w names → (n : Counts) → n.objects < 65529 → (line : ℕ) (label : List ℕ) (k : Kind) → IsKind w k
    → ObjectAgain w names n line label k
kind_again k n few line label kind.TypeObject h = record { loaded = rw (lt-ltb (7 + n.objects) 65536 (omega arith)); counts = refl }
kind_again k n few line label (kind.Semaphore count) h = record { loaded = rw (lt-ltb (7 + n.objects) 65536 (omega arith)); counts = refl }
kind_again {w} k n few line label (kind.Procedure code params entries) h = record {
  loaded =
      rw (
        code_again k code h.0,
        lt-ltb (7 + n.objects) 65536 (omega arith),
        params_again k 256 0 (line + 1) params (entry_parts (spoken w) entries) entries h.2
            (let most = h.1 in omega arith) (λ m l. entries_again k 256 0 m 0 l entries h.4 (let most = h.3 in omega arith)),
      );
  counts = refl;
}
kind_again {w} k n few line label (kind.Plain of words entries) h =
    let type = plain_general w of entries h.0 in
    record { loaded = rw (type_again k of type.0, type.1, lt-ltb (7 + n.objects) 65536 (omega arith), plain_again k (line + 1) of words entries h); counts = refl }

objects_again : {w : WorldValue} {names : Names} → Known w names → (n line : ℕ) (os : List Born) (rest : List Item) (v : WorldValue) → n + length os ≤ 65529
    → AllByRecursion (λ (o : Born). IsKind w o.kind) os → ((l : ℕ) → items_of names (counts (n + length os) 0 0) (placed l rest) ≡ Ok v)
    → items_of names (counts n 0 0) (placed line (map (object_item (spoken w)) os ++ rest)) ≡ Ok (world_value v.limit (os ++ v.objects) v.codes v.tasks)
objects_again k n line [] rest v few h after = rw add-zero at (after line)
objects_again {w} {names} k n line (o ∷ os) rest v few h after =
    let here = kind_again k (counts n 0 0) (omega arith) line o.label o.kind h.0 in
    rw (
      here.loaded,
      here.counts,
      objects_again k (n + 1) (line + lines_taken (object_item (spoken w) o)) os rest v (omega arith) h.1
          (λ l. let more : n + length (o ∷ os) ≡ n + 1 + length os =
          omega arith in rw more at (after l)),
    )

codes_again : (names : Names) (o n line : ℕ) (cs : List Code) (rest : List Item) (v : WorldValue) → n + length cs ≤ 4096 → AllByRecursion IsCode cs
    → ((l : ℕ) → items_of names (counts o (n + length cs) 0) (placed l rest) ≡ Ok v)
    → items_of names (counts o n 0) (placed line (map code_item cs ++ rest)) ≡ Ok (world_value v.limit v.objects (cs ++ v.codes) v.tasks)
codes_again names o n line [] rest v few h after = rw add-zero at (after line)
codes_again names o n line (c ∷ cs) rest v few h after =
    let all = c.steps in
    let labels = labels_from 0 (placed_parts (line + 1) (code_parts all 0 all)) in
    let finds : Finds all labels = finds_all all (line + 1) h.0.0 in
    let steps : instrs_of labels 0 (placed_parts (line + 1) (code_parts all 0 all)) ≡ Ok all =
    instrs_again all labels finds 0 (line + 1) all (within_all all) h.0.1 (let most = h.0.0 in omega arith) in
    rw (
      lt-ltb n 4096 (omega arith),
      steps,
      codes_again names o (n + 1) (line + lines_taken (code_item c)) cs rest v (omega arith) h.1
          (λ l. let more : n + length (c ∷ cs) ≡ n + 1 + length cs =
          omega arith in rw more at (after l)),
    )

tasks_again : {w : WorldValue} {names : Names} → Known w names → (o c n line : ℕ) (ts : List Task) → n + length ts ≤ 256 → AllByRecursion (IsTask w) ts
    → items_of names (counts o c n) (placed line (map (task_item (spoken w)) ts)) ≡ Ok (world_value 10000 [] [] ts)
tasks_again k o c n line [] few h = refl
tasks_again {w} k o c n line (t ∷ ts) few h =
    rw (
      code_again k t.code h.0.0,
      lt-ltb n 256 (omega arith),
      entries_again k 64 0 0 0 (line + 1) t.slots h.0.2 (let most =
          h.0.1 in omega arith),
      tasks_again k o c (n + 1) (line + lines_taken (task_item (spoken w) t)) ts (omega arith) h.1,
    )

-- names

heads_placed : (n : ℕ) (is : List Item) → map (λ (i : Item). i.head) (placed n is) ≡ map (λ (i : Item). i.head) is
heads_placed n [] = refl
heads_placed n (i ∷ is) = ap (λ (t : List Head). i.head ∷ t) (heads_placed (n + lines_taken i) is)

heads_of : WorldValue → List Head
heads_of w = map (λ (i : Item). i.head) (syntax_of w)

labels_all : {X B : Type 0} (f : Head → Option B) (make : X → Item) (g : X → B) → ((x : X) → f (make x).head ≡ Some (g x)) → (xs : List X)
    → filter_map f (map (λ (i : Item). i.head) (map make xs)) ≡ map g xs
labels_all f make g e [] = refl
labels_all f make g e (x ∷ xs) = rw (e x) (ap (λ t. g x ∷ t) (labels_all f make g e xs))

labels_none : {X B : Type 0} (f : Head → Option B) (make : X → Item) → ((x : X) → f (make x).head ≡ None) → (xs : List X)
    → filter_map f (map (λ (i : Item). i.head) (map make xs)) ≡ []
labels_none f make e [] = refl
labels_none f make e (x ∷ xs) = rw (e x) (labels_none f make e xs)

-- what the items of a world give, section by section
sections : {B : Type 0} (f : Head → Option B) (w : WorldValue) → ((n : ℕ) → f (LimitIs n) ≡ None)
    → filter_map f (heads_of w) ≡ filter_map f (map (λ (i : Item). i.head) (map (object_item (spoken w)) w.objects))
    ++ (filter_map f (map (λ (i : Item). i.head) (map code_item w.codes)) ++ filter_map f (map (λ (i : Item). i.head) (map (task_item (spoken w)) w.tasks)))
unfolding heads_of
sections f w none = go (eqb w.limit 10000)
  where
    go : (b : Bool)
        → filter_map f (map (λ (i : Item). i.head) (cond b [] (item (LimitIs w.limit) [] ∷ [])
        ++ (map (object_item (spoken w)) w.objects ++ (map code_item w.codes ++ map (task_item (spoken w)) w.tasks))))
        ≡ filter_map f (map (λ (i : Item). i.head) (map (object_item (spoken w)) w.objects))
        ++ (filter_map f (map (λ (i : Item). i.head) (map code_item w.codes)) ++ filter_map f (map (λ (i : Item). i.head) (map (task_item (spoken w)) w.tasks)))
    go true = simp (map-append, filter_map-append)
    go false = rw (none w.limit) (simp (map-append, filter_map-append))

record HeadAgain (s : Names) (label : List ℕ) (k : Kind) : Type 0 where
  named : object_label (kind_item s label k).head ≡ Some label
  typed : is_type_head (kind_item s label k).head ≡ Some (is_type_object (record { label = label; kind = k }))
  coded : code_label (kind_item s label k).head ≡ None

head_again : (s : Names) (label : List ℕ) (k : Kind) → HeadAgain s label k
unfolding is_type_object
head_again s label kind.TypeObject = record { named = refl; typed = refl; coded = refl }
head_again s label (kind.Plain of words entries) = record { named = refl; typed = refl; coded = refl }
head_again s label (kind.Semaphore count) = record { named = refl; typed = refl; coded = refl }
head_again s label (kind.Procedure code params entries) = record { named = refl; typed = refl; coded = refl }

known : (w : WorldValue) → IsWorld w → Known w (names_of (heads_of w))
known w h = record {
  objects =
      ap (λ (t : List (List ℕ)). kernel_names ++ t) (sections object_label w (λ n. refl) ∙ rw (
        labels_all object_label (object_item (spoken w)) (λ (o : Born). o.label) (λ o. (head_again (spoken w) o.label o.kind).named) w.objects,
        labels_none object_label code_item (λ c. refl) w.codes,
        labels_none object_label (task_item (spoken w)) (λ t. refl) w.tasks,
      ) (append-nil _));
  types =
      ap (λ (t : List Bool). kernel_flags ++ t) (sections is_type_head w (λ n. refl) ∙ rw (
        labels_all is_type_head (object_item (spoken w)) is_type_object
            (λ o. (head_again (spoken w) o.label o.kind).typed) w.objects,
        labels_none is_type_head code_item (λ c. refl) w.codes,
        labels_none is_type_head (task_item (spoken w)) (λ t. refl) w.tasks,
      ) (append-nil _));
  codes =
      sections code_label w (λ n. refl)
      ∙ rw (
        labels_none code_label (object_item (spoken w)) (λ o. (head_again (spoken w) o.label o.kind).coded) w.objects,
        labels_all code_label code_item (λ (c : Code). c.label) (λ c. refl) w.codes,
        labels_none code_label (task_item (spoken w)) (λ t. refl) w.tasks,
      ) (append-nil _);
  world = h;
}

sections_again : (w : WorldValue) (names : Names) → Known w names → (line : ℕ)
    → items_of names (counts 0 0 0) (placed line (map (object_item (spoken w)) w.objects ++ (map code_item w.codes ++ map (task_item (spoken w)) w.tasks)))
    ≡ Ok (world_value 10000 w.objects w.codes w.tasks)
sections_again w names k line =
    let h = k.world in
    let few_objects : 0 + length w.objects ≤ 65529 = (let few = h.few_objects in omega arith) in
    let tasks = λ (l : ℕ). tasks_again k (0 + length w.objects) (0 + length w.codes) 0 l w.tasks (let few = h.few_tasks in omega arith) h.tasks_are in
    let coded = λ (l : ℕ). codes_again names (0 + length w.objects) 0 l w.codes (map (task_item (spoken w)) w.tasks) (world_value 10000 [] [] w.tasks)
    (let few = h.few_codes in omega arith) h.codes_are tasks ∙ rw append-nil in
    objects_again k 0 line w.objects (map code_item w.codes ++ map (task_item (spoken w)) w.tasks) (world_value 10000 [] w.codes w.tasks) few_objects h.kinds coded ∙ rw append-nil

pub load_again : (w : WorldValue) → IsWorld w → load (placed 2 (syntax_of w)) ≡ Ok w
unfolding heads_of
load_again w h = rw (heads_placed 2 (syntax_of w)) (go (eqb w.limit 10000) refl (names_of (heads_of w)) (known w h))
  where
    go : (b : Bool) → eqb w.limit 10000 ≡ b → (names : Names) → Known w names
        → items_of names (counts 0 0 0) (placed 2 (cond b [] (item (LimitIs w.limit) [] ∷ [])
        ++ (map (object_item (spoken w)) w.objects ++ (map code_item w.codes ++ map (task_item (spoken w)) w.tasks)))) ≡ Ok w
    go true e names k = sections_again w names k 2 ∙ ap (λ (n : ℕ). Ok (world_value n w.objects w.codes w.tasks)) (sym (eqb-true w.limit 10000 e))
    go false e names k = rw (sections_again w names k 3)
