-- A canonical script has at most 320 bytes for each thing that its world declares, and a few more.
use Rattle.std.proofs.Common.{◌≡◌, ℕ, zero, suc, ◌+◌, ◌*◌, ◌<◌, ◌≤◌, ◌==◌, Bool, true, false, cond, leb, List, [], ◌∷◌, ◌++◌, length, map, refl, arith, Option, Some, None}
use Rattle.std.specs.Prelude.{IsTrue, slice_index_or}
use Rattle.std.specs.List.{list_any, AllByRecursion, onto_first, flat_map}
use Rattle.std.specs.Fmt.{decimal}
use Rattle.std.proofs.lemmas.List.{length-append, map-append}
use Rattle.std.proofs.lemmas.Grind.{flat_map-append}
use Rattle.hk_model.specs.declared.names.Name.{Name}
use Rattle.hk_model.specs.declared.names.Slot.{Slot}
use Rattle.hk_model.specs.declared.entries.Entry.{Entry}
use Rattle.hk_model.specs.declared.entries.Entry.TheVariants.{Empty, Held, Form}
use Rattle.hk_model.specs.declared.entries.Making.TheVariants as making
use Rattle.hk_model.specs.declared.entries.Param.{Param}
use Rattle.hk_model.specs.declared.entries.Template.TheVariants as template
use Rattle.hk_model.specs.declared.instructions.Instr.{Instr}
use Rattle.hk_model.specs.declared.instructions.Instr.TheVariants as instr
use Rattle.hk_model.specs.declared.instructions.Route.{Route}
use Rattle.hk_format.specs.declared.syntax.Head.{Head}
use Rattle.hk_format.specs.declared.syntax.Head.TheVariants.{LimitIs, ObjectIs, ProcedureIs, CodeIs, ProcessIs}
use Rattle.hk_format.specs.declared.syntax.Body.TheVariants.{WordsAre, LabelIs, StepIs}
use Rattle.hk_format.specs.declared.syntax.Part.{Part}
use Rattle.hk_format.specs.declared.syntax.Item.{Item}
use Rattle.hk_model.specs.declared.world.Kind.{Kind}
use Rattle.hk_model.specs.declared.world.Kind.TheVariants as kind
use Rattle.hk_model.specs.declared.world.Born.{Born}
use Rattle.hk_model.specs.declared.world.Code.{Code}
use Rattle.hk_model.specs.declared.world.Task.{Task}
use Rattle.hk_model.specs.Labels.{is_name}
use Rattle.hk_model.specs.WorldValue.{WorldValue, IsWorld, IsKind, IsCode, IsInstr, IsRoute, IsSlot, IsWord32}
use Rattle.hk_format.specs.Pieces.{Piece, Number, spell}
use Rattle.hk_format.specs.Texts.{spell_line, ended_line, spell_lines}
use Rattle.hk_format.specs.Operands.{route_piece, argument_pieces}
use Rattle.hk_format.specs.Spelling.{written_pieces, body_pieces, head_pieces, has_parts, end_line, item_lines, script_lines}
use Rattle.hk_format.specs.Names.{Names, spoken, object_text, code_text}
use Rattle.hk_format.specs.Canonical.{kind_text, part, item, entry_body, entry_parts, param_parts, number_bytes, words_from, word_parts, label_text, written_of, jumps_to}
use Rattle.hk_format.specs.Canonical.{label_parts, code_parts, object_item, kind_item, code_item, task_item, limit_items, syntax_of, canon}
use Rattle.hk_format.proofs.ItemsGood.{name_word, all_front, all_back}
use Rattle.hk_audit.proofs.Sizes.{pieces_size, texts_append, line_size, word_size, number_size, operand_size, steps_size, type_size, rights_size}
use Rattle.hk_audit.proofs.ScriptCounts.{kind_count, objects_count, codes_count, tasks_count, world_count}

-- the bytes of lines

-- lines of pieces, one byte more for each than are needed
abbrev lines_size : List (List Piece) → ℕ
lines_size [] = 0
lines_size (l ∷ ls) = pieces_size l + 1 + lines_size ls

lines_append : (xs ys : List (List Piece)) → lines_size (xs ++ ys) ≡ lines_size xs + lines_size ys
lines_append [] ys = omega arith
lines_append (x ∷ xs) ys = omega (arith, lines_append xs ys)

spelled_size : (ls : List (List Piece)) → length (spell_lines ls) ≤ lines_size ls
spelled_size [] = omega arith
spelled_size (l ∷ ls) = omega (arith, spelled_size ls, line_size l, length-append (ended_line (spell_line l)) (spell_lines ls))

-- lines inside an item
abbrev parts_size : List Part → ℕ
parts_size [] = 0
parts_size (p ∷ ps) = pieces_size (body_pieces p.body) + 1 + parts_size ps

parts_append : (ps qs : List Part) → parts_size (ps ++ qs) ≡ parts_size ps + parts_size qs
parts_append [] qs = omega arith
parts_append (p ∷ ps) qs = omega (arith, parts_append ps qs)

part_lines_size : (ps : List Part) → lines_size (map (λ (p : Part). body_pieces p.body) ps ++ end_line ∷ []) ≡ parts_size ps + 5
part_lines_size [] = omega arith
part_lines_size (p ∷ ps) = omega (arith, part_lines_size ps)

item_size : (head : Head) (ps : List Part) → lines_size (item_lines (item head ps)) ≤ pieces_size (head_pieces head) + 6 + parts_size ps
item_size head ps = go (has_parts head)
  where
    go : (b : Bool) → lines_size (head_pieces head ∷ cond b (map (λ (p : Part). body_pieces p.body) ps ++ end_line ∷ []) [])
        ≤ pieces_size (head_pieces head) + 6 + parts_size ps
    go true = omega (arith, part_lines_size ps)
    go false = omega arith

-- labels of a world

-- texts that are no longer than a label
abbrev AreShort : List (List ℕ) → Type 0
AreShort ts = AllByRecursion (λ t. length t ≤ 32) ts

short_at : (ts : List (List ℕ)) (n : ℕ) → AreShort ts → length (slice_index_or ts n []) ≤ 32
short_at [] n h = omega arith
short_at (t ∷ ts) zero h = h.0
short_at (t ∷ ts) (suc n) h = short_at ts n h.1

names_short : (ls : List (List ℕ)) → AllByRecursion (λ l. IsTrue (is_name l)) ls → AreShort ls
names_short [] h = tt
names_short (l ∷ ls) h = (word_size l (name_word l h.0), names_short ls h.1)

-- the labels of objects and of codes are short
record Spoken (s : Names) : Type 0 where
  objects : AreShort s.objects
  codes : AreShort s.codes

spoken_short : (w : WorldValue) → IsWorld w → Spoken (spoken w)
spoken_short w h =
    let own = map (λ (b : Born). b.label) w.objects in
    let coded = map (λ (c : Code). c.label) w.codes in
    let tasked = map (λ (t : Task). t.label) w.tasks in
    let objects = names_short own (all_front (λ l. IsTrue (is_name l)) own (coded ++ tasked) h.names) in
    record {
      objects = (omega arith, (omega arith, (omega arith, (omega arith, (omega arith, (omega arith, (omega arith, objects)))))));
      codes = names_short coded (all_front (λ l. IsTrue (is_name l)) coded tasked (all_back (λ l. IsTrue (is_name l)) own (coded ++ tasked) h.names));
    }

module _ (s : Names) (h : Spoken s) where
  object_size : (n : Name) → length (object_text s n) ≤ 32
  object_size n = short_at s.objects n.0 h.objects

  code_size : (n : ℕ) → length (code_text s n) ≤ 32
  code_size n = short_at s.codes n h.codes

  kind_size : (of : Option Name) → length (kind_text s of) ≤ 32
  kind_size None = omega arith
  kind_size (Some n) = object_size n

  -- entries and parameters

  entry_size : (e : Entry) → pieces_size (body_pieces (entry_body s e)) + 1 ≤ 320
  entry_size Empty = omega arith
  entry_size (Held held) = omega (arith, type_size (object_text s held.name), object_size held.name, rights_size held.rights)
  entry_size (Form (template.Amplify of check give)) = omega (arith, type_size (kind_text s of), kind_size of, rights_size check, rights_size give)
  entry_size (Form (template.Create of give)) = omega (arith, type_size (object_text s of), object_size of, rights_size give)

  entries_size : (es : List Entry) → parts_size (entry_parts s es) ≤ 320 * length es
  entries_size [] = omega arith
  entries_size (e ∷ es) = omega (arith, entry_size e, entries_size es)

  params_size : (ps : List Param) → parts_size (param_parts s ps) ≤ 320 * length ps
  params_size [] = omega arith
  params_size (p ∷ ps) = omega (arith, type_size (kind_text s p.of), kind_size p.of, rights_size p.check, rights_size p.give, params_size ps)

-- words

numbers_size : (ns : List ℕ) → AllByRecursion IsWord32 ns → pieces_size (map Number ns) ≤ 11 * length ns
numbers_size [] h = omega arith
numbers_size (n ∷ ns) h = omega (arith, number_size n h.0, numbers_size ns h.1)

-- lines of words
abbrev rows_size : List (List ℕ) → ℕ
rows_size [] = 0
rows_size (l ∷ ls) = pieces_size (body_pieces (WordsAre l)) + 1 + rows_size ls

rows_parts : (ls : List (List ℕ)) → parts_size (map (λ line. part (WordsAre line)) ls) ≡ rows_size ls
rows_parts [] = refl
rows_parts (l ∷ ls) = omega (arith, rows_parts ls)

-- a word that stands before the first line
first_size : (word : ℕ) (ls : List (List ℕ)) → IsWord32 word → rows_size (onto_first word ls) ≤ rows_size ls + 18
first_size word [] h = omega (arith, number_size word h)
first_size word (l ∷ ls) h = omega (arith, number_size word h)

rows_few : (used : ℕ) (ws : List ℕ) → AllByRecursion IsWord32 ws → rows_size (words_from used ws) ≤ 7 + 25 * length ws
rows_few used [] h = omega arith
rows_few used (w ∷ ws) h = go (leb (used + number_bytes w) 1000) (λ end. rows_few end ws h.1)
  where
    go : (b : Bool) → ((end : ℕ) → rows_size (words_from end ws) ≤ 7 + 25 * length ws)
        → rows_size (cond b (onto_first w (words_from (used + number_bytes w) ws)) ([] ∷ onto_first w (words_from (5 + number_bytes w) ws))) ≤ 7 + 25 * length (w ∷ ws)
    go true rest = omega (arith, first_size w (words_from (used + number_bytes w) ws) h.0, rest (used + number_bytes w))
    go false rest = omega (arith, first_size w (words_from (5 + number_bytes w) ws) h.0, rest (5 + number_bytes w))

words_size : (ws : List ℕ) → AllByRecursion IsWord32 ws → parts_size (word_parts ws) ≤ 320 * length ws
words_size [] h = omega arith
words_size (w ∷ ws) h = omega (arith, rows_parts (words_from 5 (w ∷ ws)), rows_few 5 (w ∷ ws) h)

-- instructions

route_size : (r : Route) → IsRoute r → length (spell (route_piece r)) ≤ 48
route_size r h = steps_size r.at h.1 h.2

slot_size : (slot : Slot) → IsSlot slot → length (decimal slot.0) ≤ 10
slot_size slot h = number_size slot.0 (omega arith)

slots_size : (ns : List ℕ) → AllByRecursion (λ slot. slot < 64) ns → pieces_size (map Number ns) ≤ 11 * length ns
slots_size [] h = omega arith
slots_size (n ∷ ns) h = omega (arith, number_size n (let low = h.0 in omega arith), slots_size ns h.1)

arguments_size : (args : List ℕ) (into : Slot) → length args ≤ 8 → AllByRecursion (λ slot. slot < 64) args → IsSlot into → pieces_size (argument_pieces args into) ≤ 100
arguments_size args into few h k =
    let both = texts_append (map spell (map Number args)) (map spell (Number into.0 ∷ [])) in
    rw (map-append spell (map Number args) (Number into.0 ∷ [])) (omega (arith, both, slots_size args h, slot_size into k))

label_size : (n : ℕ) → n ≤ 4096 → length (label_text n) ≤ 11
label_size n h = omega (arith, number_size n (omega arith))

step_size : (len : ℕ) (i : Instr) → len ≤ 4096 → IsInstr len i → pieces_size (written_pieces (written_of i)) ≤ 290
step_size len (instr.Get of at reg) few h = omega (arith, route_size of h.0, operand_size at h.1)
step_size len (instr.Put of at word) few h = omega (arith, route_size of h.0, operand_size at h.1, operand_size word h.2)
step_size len (instr.Add of word) few h = omega (arith, route_size of h.0, operand_size word h.1)
step_size len (instr.Length of reg) few h = omega (arith, route_size of h.0)
step_size len (instr.Load from into) few h = omega (arith, route_size from h.0, slot_size into h.1)
step_size len (instr.Store list at from) few h = omega (arith, route_size list h.0, operand_size at h.1, slot_size from h.2)
step_size len (instr.Append list from) few h = omega (arith, route_size list h.0, slot_size from h.1)
step_size len (instr.Erase list at) few h = omega (arith, route_size list h.0, operand_size at h.1)
step_size len (instr.Drop slot) few h = omega (arith, slot_size slot h)
step_size len (instr.Restrict slot keep) few h = omega (arith, slot_size slot h.0, rights_size keep)
step_size len (instr.Look of reg) few h = omega (arith, route_size of h.0)
step_size len (instr.MakeTemplate of (making.Amplify check give) into) few h =
    omega (arith, route_size of h.0, rights_size check, rights_size give, slot_size into h.2)
step_size len (instr.MakeTemplate of (making.Create give) into) few h = omega (arith, route_size of h.0, rights_size give, slot_size into h.2)
step_size len (instr.Create by into) few h = omega (arith, route_size by h.0, slot_size into h.1)
step_size len (instr.Merge with slot into) few h = omega (arith, route_size with h.0, slot_size slot h.1, slot_size into h.2)
step_size len (instr.Copy of into) few h = omega (arith, route_size of h.0, slot_size into h.1)
step_size len (instr.Enter proc args into) few h = omega (arith, route_size proc h.0, arguments_size args into h.1.0 h.1.1 h.2)
step_size len (instr.Leave None) few h = omega arith
step_size len (instr.Leave (Some slot)) few h = omega (arith, slot_size slot h)
step_size len (instr.P of) few h = omega (arith, route_size of h)
step_size len (instr.V of) few h = omega (arith, route_size of h)
step_size len instr.Yield few h = omega arith
step_size len (instr.SetReg reg to) few h = omega (arith, operand_size to h.1)
step_size len (instr.AddReg reg by) few h = omega (arith, operand_size by h.1)
step_size len (instr.Goto to) few h = omega (arith, label_size to (omega arith))
step_size len (instr.IfEq left right to) few h = omega (arith, operand_size left h.0, operand_size right h.1, label_size to (let k = h.2 in omega arith))
step_size len (instr.IfLess left right to) few h = omega (arith, operand_size left h.0, operand_size right h.1, label_size to (let k = h.2 in omega arith))
step_size len (instr.IfDenied to) few h = omega (arith, label_size to (omega arith))

label_line_size : (all : List Instr) (n : ℕ) → n ≤ 4096 → parts_size (label_parts all n) ≤ 20
label_line_size all n few = go (list_any (jumps_to n) all)
  where
    go : (b : Bool) → parts_size (cond b (part (LabelIs (label_text n)) ∷ []) []) ≤ 20
    go true = omega (arith, label_size n few)
    go false = omega arith

steps_lines_size : (len : ℕ) (all is : List Instr) (n : ℕ) → len ≤ 4096 → n + length is ≤ 4096 → AllByRecursion (IsInstr len) is
    → parts_size (code_parts all n is) ≤ 20 + 320 * length is
steps_lines_size len all [] n most few h = label_line_size all n (omega arith)
steps_lines_size len all (i ∷ is) n most few h =
    let own = part (StepIs (written_of i)) ∷ code_parts all (n + 1) is in
    let both = parts_append (label_parts all n) own in
    omega (arith, both, label_line_size all n (omega arith), step_size len i most h.0, steps_lines_size len all is (n + 1) most (omega arith) h.1)

-- items

-- the lines of items
abbrev items_size : List Item → ℕ
items_size is = lines_size (flat_map item_lines is)

items_both : (xs ys : List Item) → items_size (xs ++ ys) ≡ items_size xs + items_size ys
items_both xs ys = rw (flat_map-append item_lines xs ys) (lines_append (flat_map item_lines xs) (flat_map item_lines ys))

items_onto : (x : Item) (xs : List Item) → items_size (x ∷ xs) ≡ lines_size (item_lines x) + items_size xs
items_onto x xs = lines_append (item_lines x) (flat_map item_lines xs)

kind_item_size : (w : WorldValue) (s : Names) → Spoken s → (label : List ℕ) (k : Kind) → IsTrue (is_name label) → IsKind w k
    → lines_size (item_lines (kind_item s label k)) ≤ 320 * kind_count k
kind_item_size w s h label kind.TypeObject name k = omega (arith, word_size label (name_word label name))
kind_item_size w s h label (kind.Semaphore count) name k = omega (arith, word_size label (name_word label name), number_size count (omega arith))
kind_item_size w s h label (kind.Plain of words entries) name k =
    omega (
      arith,
      item_size (ObjectIs label (object_text s of)) (word_parts words ++ entry_parts s entries),
      word_size label (name_word label name),
      type_size (object_text s of),
      object_size s h of,
      parts_append (word_parts words) (entry_parts s entries),
      words_size words k.2,
      entries_size s h entries,
    )
kind_item_size w s h label (kind.Procedure code params entries) name k =
    omega (
      arith,
      item_size (ProcedureIs label (code_text s code)) (param_parts s params ++ entry_parts s entries),
      word_size label (name_word label name),
      code_size s h code,
      parts_append (param_parts s params) (entry_parts s entries),
      params_size s h params,
      entries_size s h entries,
    )

objects_size : (w : WorldValue) (s : Names) → Spoken s → (os : List Born) → AllByRecursion (λ (o : Born). IsKind w o.kind) os
    → AllByRecursion (λ l. IsTrue (is_name l)) (map (λ (o : Born). o.label) os) → items_size (map (object_item s) os) ≤ 320 * objects_count os
objects_size w s h [] k named = omega arith
objects_size w s h (o ∷ os) k named =
    omega (arith, items_onto (object_item s o) (map (object_item s) os), kind_item_size w s h o.label o.kind named.0 k.0, objects_size w s h os k.1 named.1)

codes_size : (cs : List Code) → AllByRecursion IsCode cs → AllByRecursion (λ l. IsTrue (is_name l)) (map (λ (c : Code). c.label) cs)
    → items_size (map code_item cs) ≤ 320 * codes_count cs
codes_size [] k named = omega arith
codes_size (c ∷ cs) k named =
    omega (
      arith,
      items_onto (code_item c) (map code_item cs),
      item_size (CodeIs c.label) (code_parts c.steps 0 c.steps),
      word_size c.label (name_word c.label named.0),
      steps_lines_size (length c.steps) c.steps c.steps 0 k.0.0 (let few = k.0.0 in omega arith) k.0.1,
      codes_size cs k.1 named.1,
    )

tasks_size : (s : Names) → Spoken s → (ts : List Task) → AllByRecursion (λ l. IsTrue (is_name l)) (map (λ (t : Task). t.label) ts)
    → items_size (map (task_item s) ts) ≤ 320 * tasks_count ts
tasks_size s h [] named = omega arith
tasks_size s h (t ∷ ts) named =
    omega (
      arith,
      items_onto (task_item s t) (map (task_item s) ts),
      item_size (ProcessIs t.label (code_text s t.code)) (entry_parts s t.slots),
      word_size t.label (name_word t.label named.0),
      code_size s h t.code,
      entries_size s h t.slots,
      tasks_size s h ts named.1,
    )

limit_size : (n : ℕ) → n ≤ 1000000 → items_size (limit_items n) ≤ 20
limit_size n few = go (n == 10000)
  where
    go : (b : Bool) → items_size (cond b [] (item (LimitIs n) [] ∷ [])) ≤ 20
    go true = omega arith
    go false = omega (arith, number_size n (omega arith))

-- the canonical script of a world
pub script_size : (w : WorldValue) → IsWorld w → length (canon w) ≤ 320 * world_count w + 40
unfolding canon
script_size w h =
    let s = spoken w in
    let short = spoken_short w h in
    let own = map (λ (b : Born). b.label) w.objects in
    let coded = map (λ (c : Code). c.label) w.codes in
    let tasked = map (λ (t : Task). t.label) w.tasks in
    let named = all_back (λ l. IsTrue (is_name l)) own (coded ++ tasked) h.names in
    let objects = map (object_item s) w.objects in
    let written = map code_item w.codes in
    let tasks = map (task_item s) w.tasks in
    omega (
      arith,
      number_size 1 (omega arith),
      spelled_size (script_lines (syntax_of w)),
      items_both (limit_items w.limit) (objects ++ (written ++ tasks)),
      items_both objects (written ++ tasks),
      items_both written tasks,
      limit_size w.limit h.few_events,
      objects_size w s short w.objects h.kinds (all_front (λ l. IsTrue (is_name l)) own (coded ++ tasked) h.names),
      codes_size w.codes h.codes_are (all_front (λ l. IsTrue (is_name l)) coded tasked named),
      tasks_size s short w.tasks (all_back (λ l. IsTrue (is_name l)) coded tasked named),
    )
