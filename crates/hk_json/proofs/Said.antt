-- The script that the value of a world says is the canonical script of this world.
use Rattle.std.proofs.Common.{◌≡◌, ℕ, ◌+◌, ◌≤◌, true, List, [], ◌∷◌, ◌++◌, length, map, refl, sym, ap, subst, ◌∙◌, arith, Ok}
use Rattle.std.specs.Prelude.{codes}
use Rattle.std.specs.List.{AllByRecursion, list_all, list_any, flat_map}
use Rattle.std.proofs.lemmas.Bool.{and_parts, lt-ltb}
use Rattle.std.proofs.lemmas.List.Folds.{list_all-append}
use Rattle.std.proofs.lemmas.Grind.{flat_map-append}
use mathlib.Core.List.{append_assoc}
use Rattle.serde_json.specs.Data.{Data}
use Rattle.serde_json.specs.View.{items_of}
use Rattle.hk_model.specs.declared.entries.Entry.{Entry}
use Rattle.hk_model.specs.declared.entries.Entry.TheVariants.{Empty, Held, Form}
use Rattle.hk_model.specs.declared.entries.Param.{Param}
use Rattle.hk_model.specs.declared.entries.Template.TheVariants as template
use Rattle.hk_model.specs.declared.instructions.Instr.{Instr}
use Rattle.hk_model.specs.declared.world.Born.{Born}
use Rattle.hk_model.specs.declared.world.Code.{Code}
use Rattle.hk_model.specs.declared.world.Kind.{Kind}
use Rattle.hk_model.specs.declared.world.Kind.TheVariants as kind
use Rattle.hk_model.specs.declared.world.Task.{Task}
use Rattle.hk_model.specs.Limits.{word_bound}
use Rattle.hk_model.specs.WorldValue.{WorldValue, IsWorld, IsWord32, IsKind, IsCode, IsInstr}
use Rattle.hk_format.specs.declared.syntax.Body.{Body}
use Rattle.hk_format.specs.declared.syntax.Body.TheVariants.{StepIs}
use Rattle.hk_format.specs.declared.syntax.Head.TheVariants.{CodeIs}
use Rattle.hk_format.specs.declared.syntax.Item.{Item}
use Rattle.hk_format.specs.declared.syntax.Part.{Part}
use Rattle.hk_format.specs.Pieces.{Piece, is_piece}
use Rattle.hk_format.specs.Texts.{is_line, spell_line}
use Rattle.hk_format.specs.Spelling.{body_pieces, head_pieces, item_lines, written_pieces, header_line, end_line}
use Rattle.hk_format.specs.Names.{Names, spoken}
use Rattle.hk_format.specs.Canonical.{canon, part, entry_body, param_body, label_parts, code_parts, jumps_to, written_of}
use Rattle.hk_format.specs.Canonical.{object_item, kind_item, code_item, task_item, limit_items, syntax_of}
use Rattle.hk_format.specs.Worlds.{world}
use Rattle.hk_format.proofs.LinesGood.{lines_good}
use Rattle.hk_format.proofs.WorldAgain.{world_again}
use Rattle.hk_print.specs.ItemTexts.{pieces_line, parts_text, item_text}
use Rattle.hk_print.proofs.Items.{item_spelled, parts_joined}
use Rattle.hk_print.proofs.ItemByItem.{canon_is}
use Rattle.hk_print.proofs.StepByStep.{label_spelled}
use Rattle.hk_json.specs.Values.{number_value, entry_value, param_value, step_value, kind_value, object_value, code_value, task_value, value}
use Rattle.hk_json.specs.Scripts.{values_in, entry_said, param_said, word_said, object_said, process_said, label_said, steps_said, is_place, goes_to, code_said, script_said}
use Rattle.hk_json.proofs.Lists.{values_again}
use Rattle.hk_json.proofs.Places.{place_again, goes_where}

-- lists

-- the parts that the values of these say
parts_again : {A : Type 0} (said : Data → Body) (valued : A → Data) (body : A → Body) → ((x : A) → said (valued x) ≡ body x) → (xs : List A)
    → map (λ (d : Data). part (said d)) (values_in (items_of (map valued xs))) ≡ map (λ (x : A). part (body x)) xs
parts_again said valued body same [] = refl
parts_again said valued body same (x ∷ xs) = rw (same x, parts_again said valued body same xs) refl

-- the texts that the values of these say
texts_again : {A : Type 0} (P : A → Type 0) (said : Data → List ℕ) (valued : A → Data) (text : A → List ℕ) → ((x : A) → P x → said (valued x) ≡ text x)
    → (xs : List A) → AllByRecursion P xs → flat_map said (values_in (items_of (map valued xs))) ≡ flat_map text xs
texts_again P said valued text same [] h = refl
texts_again P said valued text same (x ∷ xs) h = rw (same x h.0, texts_again P said valued text same xs h.1) refl

-- lines

entry_again : (names : Names) (e : Entry) → entry_said (entry_value names e) ≡ entry_body names e
entry_again names Empty = refl
entry_again names (Held cap) = refl
entry_again names (Form (template.Amplify of check give)) = refl
entry_again names (Form (template.Create of give)) = refl

param_again : (names : Names) (p : Param) → param_said (param_value names p) ≡ param_body names p
param_again names p = refl

words_again : (ws : List ℕ) → AllByRecursion IsWord32 ws → map word_said (values_in (items_of (map number_value ws))) ≡ ws
words_again [] h = refl
words_again (w ∷ ws) h = rw (lt-ltb w word_bound h.0, words_again ws h.1) refl

-- objects and processes

kind_again : (w : WorldValue) (label : List ℕ) (k : Kind) → IsKind w k → object_said (kind_value (spoken w) label k) ≡ kind_item (spoken w) label k
kind_again w label kind.TypeObject h = refl
kind_again w label (kind.Plain of words entries) h =
    rw (words_again words h.2, parts_again entry_said (entry_value (spoken w)) (entry_body (spoken w)) (entry_again (spoken w)) entries) refl
kind_again w label (kind.Semaphore count) h = refl
kind_again w label (kind.Procedure code params entries) h =
    rw (
      parts_again param_said (param_value (spoken w)) (param_body (spoken w)) (param_again (spoken w)) params,
      parts_again entry_said (entry_value (spoken w)) (entry_body (spoken w)) (entry_again (spoken w)) entries,
    ) refl

task_again : (w : WorldValue) (t : Task) → process_said (task_value (spoken w) t) ≡ task_item (spoken w) t
task_again w t = rw (parts_again entry_said (entry_value (spoken w)) (entry_body (spoken w)) (entry_again (spoken w)) t.slots) refl

-- codes

-- the pieces of an instruction are those of some line
IsSpelled : Instr → Type 0
IsSpelled i = list_all is_piece (written_pieces (written_of i)) ≡ true

goes_again : (n len : ℕ) (i : Instr) → len ≤ 4096 → IsInstr len i → IsSpelled i → goes_to n (step_value i) ≡ jumps_to n i
unfolding IsSpelled
goes_again n len i few h spelled = ap (is_place n) (place_again len i few h spelled) ∙ goes_where n i

any_again : (n len : ℕ) (is : List Instr) → len ≤ 4096 → AllByRecursion (IsInstr len) is → AllByRecursion IsSpelled is
    → list_any (goes_to n) (map step_value is) ≡ list_any (jumps_to n) is
any_again n len [] few h spelled = refl
any_again n len (i ∷ is) few h spelled = rw (goes_again n len i few h.0 spelled.0, any_again n len is few h.1 spelled.1) refl

label_again : (all : List Instr) (n : ℕ) → length all ≤ 4096 → AllByRecursion (IsInstr (length all)) all → AllByRecursion IsSpelled all
    → label_said (map step_value all) n ≡ parts_text (label_parts all n)
label_again all n few h spelled = rw (any_again n (length all) all few h spelled) (sym (label_spelled all n))

steps_again : (all : List Instr) (n : ℕ) (is : List Instr) → length all ≤ 4096 → AllByRecursion (IsInstr (length all)) all → AllByRecursion IsSpelled all
    → steps_said (map step_value all) n (map step_value is) ≡ parts_text (code_parts all n is)
steps_again all n [] few h spelled = label_again all n few h spelled
steps_again all n (i ∷ is) few h spelled =
    let text = spell_line (written_pieces (written_of i)) in
    let rest = parts_text (code_parts all (n + 1) is) in
    let label = parts_text (label_parts all n) in
    ap (λ (t : List ℕ). t ++ (text ++ 10 ∷ steps_said (map step_value all) (n + 1) (map step_value is))) (label_again all n few h spelled)
    ∙ ap (λ (t : List ℕ). label ++ (text ++ 10 ∷ t)) (steps_again all (n + 1) is few h spelled)
    ∙ sym (parts_joined (label_parts all n) (part (StepIs (written_of i)) ∷ code_parts all (n + 1) is) ∙ ap (λ (t : List ℕ). label ++ t) (append_assoc text (10 ∷ []) rest))

code_again : (c : Code) → IsCode c → AllByRecursion IsSpelled c.steps → code_said (code_value c) ≡ item_text (code_item c)
code_again c h spelled =
    let head = pieces_line (head_pieces (CodeIs c.label)) in
    ap (λ (ds : List Data). head ++ (steps_said ds 0 ds ++ codes "end\n")) (values_again (map step_value c.steps))
    ∙ ap (λ (t : List ℕ). head ++ (t ++ codes "end\n")) (steps_again c.steps 0 c.steps h.0 h.1 spelled)
    ∙ sym (item_spelled (CodeIs c.label) (code_parts c.steps 0 c.steps) refl)

-- the instructions of a world's codes are spelled

lined_back : (xs ys : List (List Piece)) → list_all is_line (xs ++ ys) ≡ true → (list_all is_line xs ≡ true) × (list_all is_line ys ≡ true)
lined_back xs ys h = and_parts (list_all is_line xs) (list_all is_line ys) (sym (list_all-append is_line xs ys) ∙ h)

lines_of_parts : List Part → List (List Piece)
lines_of_parts parts = map (λ (p : Part). body_pieces p.body) parts

lined_parts : (xs ys : List Part) → lines_of_parts (xs ++ ys) ≡ lines_of_parts xs ++ lines_of_parts ys
unfolding lines_of_parts
lined_parts [] ys = refl
lined_parts (x ∷ xs) ys = ap (λ t. body_pieces x.body ∷ t) (lined_parts xs ys)

steps_lined : (all : List Instr) (n : ℕ) (is : List Instr) → list_all is_line (lines_of_parts (code_parts all n is)) ≡ true → AllByRecursion IsSpelled is
unfolding IsSpelled lines_of_parts
steps_lined all n [] h = tt
steps_lined all n (i ∷ is) h =
    let cut = lined_parts (label_parts all n) (part (StepIs (written_of i)) ∷ code_parts all (n + 1) is) in
    let both = lined_back (lines_of_parts (label_parts all n)) (lines_of_parts (part (StepIs (written_of i)) ∷ code_parts all (n + 1) is))
    (subst (λ (ls : List (List Piece)). list_all is_line ls ≡ true) cut h) in
    let here = and_parts (is_line (written_pieces (written_of i))) (list_all is_line (lines_of_parts (code_parts all (n + 1) is))) both.1 in
    (pieces (written_pieces (written_of i)) here.0, steps_lined all (n + 1) is here.1)
  where
    pieces : (ps : List Piece) → is_line ps ≡ true → list_all is_piece ps ≡ true
    pieces ps k = grind arith

codes_lined : (cs : List Code) → list_all is_line (flat_map item_lines (map code_item cs)) ≡ true → AllByRecursion (λ (c : Code). AllByRecursion IsSpelled c.steps) cs
unfolding lines_of_parts
codes_lined [] h = tt
codes_lined (c ∷ cs) h =
    let both = lined_back (item_lines (code_item c)) (flat_map item_lines (map code_item cs)) h in
    let lines = (and_parts (is_line (head_pieces (CodeIs c.label))) (list_all is_line (lines_of_parts (code_parts c.steps 0 c.steps) ++ end_line ∷ [])) both.0).1 in
    (steps_lined c.steps 0 c.steps (lined_back (lines_of_parts (code_parts c.steps 0 c.steps)) (end_line ∷ []) lines).0, codes_lined cs both.1)

lined_flat : (xs ys : List Item) → list_all is_line (flat_map item_lines (xs ++ ys)) ≡ true
    → (list_all is_line (flat_map item_lines xs) ≡ true) × (list_all is_line (flat_map item_lines ys) ≡ true)
lined_flat xs ys h =
    lined_back (flat_map item_lines xs) (flat_map item_lines ys) (subst (λ (ls : List (List Piece)). list_all is_line ls ≡ true) (flat_map-append item_lines xs ys) h)

codes_spelled : (w : WorldValue) → IsWorld w → AllByRecursion (λ (c : Code). AllByRecursion IsSpelled c.steps) w.codes
codes_spelled w h =
    let objects = map (object_item (spoken w)) w.objects in
    let coded = map code_item w.codes in
    let tasks = map (task_item (spoken w)) w.tasks in
    let all = (and_parts (is_line header_line) (list_all is_line (flat_map item_lines (syntax_of w))) (lines_good w h)).1 in
    let behind_limit = (lined_flat (limit_items w.limit) (objects ++ (coded ++ tasks)) all).1 in
    let behind_objects = (lined_flat objects (coded ++ tasks) behind_limit).1 in
    codes_lined w.codes (lined_flat coded tasks behind_objects).0

-- the whole

both_all : {A : Type 0} (P Q : A → Type 0) (xs : List A) → AllByRecursion P xs → AllByRecursion Q xs → AllByRecursion (λ x. P x × Q x) xs
both_all P Q [] p q = tt
both_all P Q (x ∷ xs) p q = ((p.0, q.0), both_all P Q xs p.1 q.1)

all_any : {A : Type 0} (xs : List A) → AllByRecursion (λ x. Unit {0}) xs
all_any [] = tt
all_any (x ∷ xs) = (tt, all_any xs)

pub said_canonical : (w : WorldValue) → IsWorld w → script_said (value w) ≡ canon w
said_canonical w h =
    ap (λ (t : List ℕ). ((begun ++ t) ++ codes_now) ++ tasks_now) objects_same ∙ ap (λ (t : List ℕ). ((begun ++ objects) ++ t) ++ tasks_now) codes_same
    ∙ ap (λ (t : List ℕ). ((begun ++ objects) ++ coded) ++ t) tasks_same ∙ sym (canon_is w)
  where
    begun : List ℕ
    begun = codes "hydra 1\n" ++ flat_map item_text (limit_items w.limit)

    objects : List ℕ
    objects = flat_map (λ (o : Born). item_text (object_item (spoken w) o)) w.objects

    coded : List ℕ
    coded = flat_map (λ (c : Code). item_text (code_item c)) w.codes

    codes_now : List ℕ
    codes_now = flat_map code_said (values_in (items_of (map code_value w.codes)))

    tasks_now : List ℕ
    tasks_now = flat_map (λ (d : Data). item_text (process_said d)) (values_in (items_of (map (task_value (spoken w)) w.tasks)))

    objects_same : flat_map (λ (d : Data). item_text (object_said d)) (values_in (items_of (map (object_value (spoken w)) w.objects))) ≡ objects
    objects_same =
        texts_again (λ (o : Born). IsKind w o.kind) (λ (d : Data). item_text (object_said d)) (object_value (spoken w)) (λ (o : Born). item_text (object_item (spoken w) o))
        (λ o k. ap item_text (kind_again w o.label o.kind k)) w.objects h.kinds

    codes_same : codes_now ≡ coded
    codes_same =
        texts_again (λ (c : Code). IsCode c × AllByRecursion IsSpelled c.steps) code_said code_value (λ (c : Code). item_text (code_item c))
        (λ c k. code_again c k.0 k.1) w.codes (both_all IsCode (λ (c : Code). AllByRecursion IsSpelled c.steps) w.codes h.codes_are (codes_spelled w h))

    tasks_same : tasks_now ≡ flat_map (λ (t : Task). item_text (task_item (spoken w) t)) w.tasks
    tasks_same =
        texts_again (λ (t : Task). Unit {0}) (λ (d : Data). item_text (process_said d)) (task_value (spoken w)) (λ (t : Task). item_text (task_item (spoken w) t))
        (λ t k. ap item_text (task_again w t)) w.tasks (all_any w.tasks)

-- what reads it gives this world again
pub said_again : (w : WorldValue) → IsWorld w → world (script_said (value w)) ≡ Ok w
said_again w h = ap world (said_canonical w h) ∙ world_again w h
