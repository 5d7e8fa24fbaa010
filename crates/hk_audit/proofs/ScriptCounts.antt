-- What a script declares is counted by its bytes.
use Rattle.std.proofs.Common.{◌≡◌, ℕ, ◌+◌, ◌*◌, ◌≤◌, ◌==◌, Bool, true, false, not, cond, leb, ltb, List, [], ◌∷◌, ◌++◌, length, map, refl, arith, ap, subst}
use Rattle.std.proofs.Common.{Option, Some, None, Result, Ok, Err}
use Rattle.std.specs.List.{list_all, list_any, slice_split, before_first, position_or_len, filter, onto_first}
use Rattle.std.proofs.lemmas.Bool.{and_parts}
use Rattle.std.proofs.lemmas.List.{length-append, length-map, length-take}
use Rattle.hk_format.specs.declared.causes.Cause.TheVariants.{OfText, OfParse, OfLoad}
use Rattle.hk_format.specs.declared.causes.TextCause.{TextCause}
use Rattle.hk_format.specs.declared.causes.TextCause.TheVariants.{NotAscii, LongLine}
use Rattle.hk_format.specs.declared.causes.ParseCause.{ParseCause}
use Rattle.hk_format.specs.declared.causes.ParseCause.TheVariants.{Repeated}
use Rattle.hk_format.specs.declared.causes.LoadCause.TheVariants.{TooMany}
use Rattle.hk_format.specs.declared.syntax.Written.{Written}
use Rattle.hk_format.specs.declared.syntax.Written.TheVariants as written
use Rattle.hk_format.specs.declared.syntax.Head.{Head}
use Rattle.hk_format.specs.declared.syntax.Head.TheVariants.{LimitIs, TypeIs, ObjectIs, SemaphoreIs, ProcedureIs, CodeIs, ProcessIs}
use Rattle.hk_format.specs.declared.syntax.Body.{Body}
use Rattle.hk_format.specs.declared.syntax.Body.TheVariants.{WordsAre, EmptyEntry, CapEntry, AmplifyEntry, CreateEntry, ParamIs, LabelIs, StepIs}
use Rattle.hk_format.specs.declared.syntax.Part.{Part}
use Rattle.hk_format.specs.declared.syntax.Item.{Item}
use Rattle.hk_model.specs.declared.instructions.Instr.{Instr}
use Rattle.hk_model.specs.declared.world.Born.{Born}
use Rattle.hk_model.specs.declared.world.Code.{Code}
use Rattle.hk_model.specs.declared.world.Kind.{Kind}
use Rattle.hk_model.specs.declared.world.Kind.TheVariants as kind
use Rattle.hk_model.specs.declared.world.Task.{Task}
use Rattle.hk_model.specs.WorldValue.{WorldValue, world_value}
use Rattle.hk_model.specs.Limits.{entry_limit, slot_limit, code_limit, process_limit, usual_limit}
use Rattle.hk_model.specs.Targets.{DATA}
use Rattle.hk_model.specs.Refusing.{◌>>=◌}
use Rattle.hk_format.specs.Pieces.{Piece, Number, is_piece, piece_of}
use Rattle.hk_format.specs.Texts.{Lines, is_none, without_last_empty, lines_of, is_blank, is_no_text, tokens, pieces_of, piece_onto, text_line, text_lines, text, line_onto}
use Rattle.hk_format.specs.Reading.{Found}
use Rattle.hk_format.specs.Grammar.{GivenNames, nothing_seen, is_new, noted, is_new_label, noted_label, item_at, part_at, between_items, in_item, placed_head, begun}
use Rattle.hk_format.specs.Grammar.{with_part, joined, and_then, go_on, items_from, header, after_header, script, head_line, part_line}
use Rattle.hk_format.specs.Spelling.{has_parts, written_pieces, body_pieces}
use Rattle.hk_format.specs.Names.{Names}
use Rattle.hk_format.specs.Loading.{Refused, unless, limited, permitted, onto, entry_meant, param_of, code_named, name_numbered, names_of, plain_type, at_line}
use Rattle.hk_format.specs.Loading.{Contents, contents, more_words, one_param, one_entry, Used, used, Room, room, content_onto, contents_of, Label, labels_from, instr_of, front}
use Rattle.hk_format.specs.Loading.{instr_onto, instrs_of, Counts, counts, counted, object_fits, with_limit, with_object, with_code, with_task, head_loaded, item_of, put_item}
use Rattle.hk_format.specs.Loading.{items_of, load}
use Rattle.hk_format.specs.Worlds.{pass, last_pass, parsed, world}
use Rattle.hk_format.proofs.ExactReaders.{AreSpelled, part_exact}
use Rattle.hk_format.proofs.LoadGood.{bind_ok, then_ok, onto_ok, limited_ok, moved}
use Rattle.hk_text.proofs.PiecesGood.{is_good, text_good}
use Rattle.hk_audit.proofs.Sizes.{texts_size}

-- bytes and pieces

-- texts that were cut at single bytes
cut_size : (p : ℕ → Bool) (bytes : List ℕ) → texts_size (slice_split p bytes) ≤ length bytes + 1
cut_size p [] = omega arith
cut_size p (b ∷ bytes) = go (p b) (slice_split p bytes) (cut_size p bytes)
  where
    go : (cut : Bool) (parts : List (List ℕ)) → texts_size parts ≤ length bytes + 1 → texts_size (cond cut ([] ∷ parts) (onto_first b parts)) ≤ length (b ∷ bytes) + 1
    go true parts h = omega arith
    go false [] h = omega arith
    go false (x ∷ parts) h = omega arith

-- each text that is not empty has two bytes at least, with the one behind it
solid_few : (ts : List (List ℕ)) → 2 * length (filter (λ t. not (is_none t)) ts) ≤ texts_size ts
solid_few [] = omega arith
solid_few ([] ∷ ts) = omega (arith, solid_few ts)
solid_few ((b ∷ bs) ∷ ts) = omega (arith, solid_few ts)

tokens_few : (line : List ℕ) → 2 * length (tokens line) ≤ length line + 1
tokens_few line =
    let front = before_first (λ b. b == 35) line in
    let kept : length front ≤ length line = omega (arith, length-take (position_or_len (λ b. b == 35) line) line) in
    omega (arith, solid_few (slice_split is_blank front), cut_size is_blank front)

pieces_many : (ts : List (List ℕ)) (ps : List Piece) → pieces_of ts ≡ Ok ps → length ps ≡ length ts
pieces_many [] ps h = let same : [] ≡ ps = cc in rw (← same) refl
pieces_many (t ∷ ts) ps h = go (piece_of t) (pieces_of ts) (pieces_many ts) h
  where
    go : (r : Result Piece TextCause) (rest : Result (List Piece) TextCause) → ((qs : List Piece) → rest ≡ Ok qs → length qs ≡ length ts) → piece_onto r rest ≡ Ok ps
        → length ps ≡ length (t ∷ ts)
    go (Err cause) rest more k = cc
    go (Ok p) (Err cause) more k = cc
    go (Ok p) (Ok qs) more k = let same : p ∷ qs ≡ ps = cc in rw (← same) (omega (arith, more qs refl))

line_few : (line : List ℕ) (ps : List Piece) → text_line line ≡ Ok ps → 2 * length ps ≤ length line + 1
line_few line ps h = go (list_any is_no_text line) (ltb 1000 (length line)) h
  where
    go : (bad long : Bool) → cond bad (Err NotAscii) (cond long (Err LongLine) (pieces_of (tokens line))) ≡ Ok ps → 2 * length ps ≤ length line + 1
    go true long k = cc
    go false true k = cc
    go false false k = omega (arith, pieces_many (tokens line) ps k, tokens_few line)

-- the pieces of lines
abbrev pub pieces_count : Lines → ℕ
pieces_count [] = 0
pieces_count (l ∷ ls) = length l.1 + pieces_count ls

lines_few : (n : ℕ) (lines : List (List ℕ)) (ls : Lines) → text_lines n lines ≡ Ok ls → 2 * pieces_count ls ≤ texts_size lines
lines_few n [] ls h = let same : [] ≡ ls = cc in rw (← same) (omega arith)
lines_few n (line ∷ lines) ls h = go (text_line line) (text_lines (n + 1) lines) (line_few line) (lines_few (n + 1) lines) h
  where
    kept : (ps : List Piece) (ks : Lines) → 2 * length ps ≤ length line + 1 → 2 * pieces_count ks ≤ texts_size lines
        → 2 * pieces_count (cond (is_none ps) ks ((n, ps) ∷ ks)) ≤ texts_size (line ∷ lines)
    kept [] ks few rest = omega arith
    kept (p ∷ ps) ks few rest = omega arith

    go : (r : Result (List Piece) TextCause) (rest : Result Lines (ℕ × TextCause)) → ((ps : List Piece) → r ≡ Ok ps → 2 * length ps ≤ length line + 1)
        → ((ks : Lines) → rest ≡ Ok ks → 2 * pieces_count ks ≤ texts_size lines) → line_onto n r rest ≡ Ok ls → 2 * pieces_count ls ≤ texts_size (line ∷ lines)
    go (Err cause) rest few more k = cc
    go (Ok ps) (Err refused) few more k = cc
    go (Ok ps) (Ok ks) few more k =
        let same : cond (is_none ps) ks ((n, ps) ∷ ks) ≡ ls = cc in
        subst (λ (ms : Lines). 2 * pieces_count ms ≤ texts_size (line ∷ lines)) same (kept ps ks (few ps refl) (more ks refl))

last_less : (ts : List (List ℕ)) → texts_size (without_last_empty ts) ≤ texts_size ts
last_less [] = omega arith
last_less (t ∷ []) = go (is_none t)
  where
    go : (none : Bool) → texts_size (cond none [] (t ∷ [])) ≤ texts_size (t ∷ [])
    go true = omega arith
    go false = omega arith
last_less (t ∷ u ∷ more) = omega (arith, last_less (u ∷ more))

-- a text of so many bytes has at most half as many pieces
text_few : (bytes : List ℕ) (ls : Lines) → text bytes ≡ Ok ls → 2 * pieces_count ls ≤ length bytes + 1
text_few bytes ls h =
    omega (arith, lines_few 1 (lines_of bytes) ls h, last_less (slice_split (λ b. b == 10) bytes), cut_size (λ b. b == 10) bytes)

-- pieces and items

-- how many pieces a line inside an item has at least
abbrev pub body_count : Body → ℕ
body_count (WordsAre words) = length words
body_count _ = 1

abbrev pub parts_count : List Part → ℕ
parts_count [] = 0
parts_count (p ∷ ps) = body_count p.body + parts_count ps

abbrev pub item_count : Item → ℕ
item_count i = 1 + parts_count i.parts

abbrev pub items_count : List Item → ℕ
items_count [] = 0
items_count (i ∷ is) = item_count i + items_count is

parts_added : (ps : List Part) (p : Part) → parts_count (ps ++ p ∷ []) ≡ parts_count ps + body_count p.body
parts_added [] p = omega arith
parts_added (q ∷ ps) p = omega (arith, parts_added ps p)

items_added : (is : List Item) (i : Item) → items_count (is ++ i ∷ []) ≡ items_count is + item_count i
items_added [] i = omega arith
items_added (j ∷ is) i = omega (arith, items_added is i)

step_some : (w : Written) → 1 ≤ length (written_pieces w)
step_some (written.Get of at reg) = omega arith
step_some _ = omega arith

body_some : (b : Body) → body_count b ≤ length (body_pieces b)
body_some (WordsAre words) = omega (arith, length-map words Number)
body_some (StepIs step) = step_some step
body_some EmptyEntry = omega arith
body_some _ = omega arith

-- what lines give, behind items that are whole, and behind an item that is not
record Gives (ls : Lines) : Type 0 where
  whole : (done : List Item) (seen : GivenNames) (items : List Item) → items_from ls (between_items done seen) ≡ Ok items
      → items_count items ≤ items_count done + pieces_count ls
  unclosed : (done : List Item) (seen : GivenNames) (o : Item) (labels : List (List ℕ)) (items : List Item)
      → items_from ls (in_item done seen o labels) ≡ Ok items → items_count items ≤ items_count done + item_count o + pieces_count ls

head_some : (ps : List Piece) (x : Head × List Piece) → head_line ps ≡ Ok x → 1 ≤ length ps
head_some [] x h = cc
head_some (p ∷ ps) x h = omega arith

head_counts : (line : ℕ) (ps : List Piece) (ls : Lines) → Gives ls → (done : List Item) (seen : GivenNames) (items : List Item)
    → go_on line (and_then (head_line ps) (begun (between_items done seen) line)) (λ next. items_from ls next) ≡ Ok items
    → items_count items ≤ items_count done + pieces_count ((line, ps) ∷ ls)
head_counts line ps ls more done seen items h = go (head_line ps) (head_some ps) h
  where
    placed_so : (head : Head) → 1 ≤ length ps → (b : Bool)
        → items_from ls (cond b (in_item done (noted seen head) (item_at line head []) []) (between_items (done ++ item_at line head [] ∷ []) (noted seen head))) ≡ Ok items
        → items_count items ≤ items_count done + pieces_count ((line, ps) ∷ ls)
    placed_so head some true k = omega (arith, more.unclosed done (noted seen head) (item_at line head []) [] items k)
    placed_so head some false k =
        omega (arith, more.whole (done ++ item_at line head [] ∷ []) (noted seen head) items k, items_added done (item_at line head []))

    new_so : (head : Head) → 1 ≤ length ps → (b : Bool)
        → go_on line (cond (not b) (Err Repeated) (Ok (placed_head (between_items done seen) line head))) (λ next. items_from ls next) ≡ Ok items
        → items_count items ≤ items_count done + pieces_count ((line, ps) ∷ ls)
    new_so head some true k = placed_so head some (has_parts head) k
    new_so head some false k = cc

    go : (r : Found Head) → ((x : Head × List Piece) → r ≡ Ok x → 1 ≤ length ps)
        → go_on line (and_then r (begun (between_items done seen) line)) (λ next. items_from ls next) ≡ Ok items
        → items_count items ≤ items_count done + pieces_count ((line, ps) ∷ ls)
    go (Ok x) some k = new_so x.0 (some x refl) (is_new seen x.0) k
    go (Err cause) some k = cc

part_counts : (line : ℕ) (ps : List Piece) (ls : Lines) → AreSpelled ps → Gives ls
    → (done : List Item) (seen : GivenNames) (o : Item) (labels : List (List ℕ)) (items : List Item)
    → go_on line (and_then (part_line o.head ps) (joined (in_item done seen o labels) (record { item = o; labels = labels }) line)) (λ next. items_from ls next) ≡ Ok items
    → items_count items ≤ items_count done + item_count o + pieces_count ((line, ps) ∷ ls)
part_counts line ps ls s more done seen o labels items h = go (part_line o.head ps) refl h
  where
    new_so : (body : Body) → body_count body ≤ length ps → (b : Bool)
        → go_on line (cond (not b) (Err Repeated) (Ok (in_item done seen (with_part o line body) (noted_label labels body)))) (λ next. items_from ls next) ≡ Ok items
        → items_count items ≤ items_count done + item_count o + pieces_count ((line, ps) ∷ ls)
    new_so body some true k =
        omega (arith, more.unclosed done seen (with_part o line body) (noted_label labels body) items k, parts_added o.parts (part_at line body))
    new_so body some false k = cc

    go : (r : Found (Option Body)) → part_line o.head ps ≡ r
        → go_on line (and_then r (joined (in_item done seen o labels) (record { item = o; labels = labels }) line)) (λ next. items_from ls next) ≡ Ok items
        → items_count items ≤ items_count done + item_count o + pieces_count ((line, ps) ∷ ls)
    go (Ok (None, rest)) e k = omega (arith, more.whole (done ++ o ∷ []) seen items k, items_added done o)
    go (Ok (Some body, rest)) e k =
        let same : ps ≡ body_pieces body = (part_exact o.head).exact ps (Some body) rest s e in
        new_so body (rw same (body_some body)) (is_new_label labels body) k
    go (Err cause) e k = cc

counts_all : (ls : Lines) → list_all is_good ls ≡ true → Gives ls
counts_all [] s = record {
  whole = λ done seen items h. let same : done ≡ items = cc in rw (← same) (omega arith);
  unclosed = λ done seen o labels items h. cc;
}
counts_all (l ∷ ls) s =
    let parts = and_parts (list_all is_piece l.1) (list_all is_good ls) s in
    let more = counts_all ls parts.1 in
    record {
      whole = λ done seen items h. head_counts l.0 l.1 ls more done seen items h;
      unclosed = λ done seen o labels items h. part_counts l.0 l.1 ls parts.0 more done seen o labels items h;
    }

-- lines have at least as many pieces as the items that they are read as, and one for the header
items_few : (ls : Lines) (items : List Item) → list_all is_good ls ≡ true → script ls ≡ Ok items → items_count items ≤ pieces_count ls
items_few [] items s h = cc
items_few (l ∷ ls) items s h = go (header l.1) h
  where
    go : (r : Found (Unit {0})) → after_header l.0 r (items_from ls (between_items [] nothing_seen)) ≡ Ok items → items_count items ≤ pieces_count (l ∷ ls)
    go (Ok x) k =
        let parts = and_parts (list_all is_piece l.1) (list_all is_good ls) s in
        omega (arith, (counts_all ls parts.1).whole [] nothing_seen items k)
    go (Err cause) k = cc

-- items and worlds

-- how many things a world declares: objects, codes and processes, and what stands in each

abbrev pub kind_count : Kind → ℕ
kind_count kind.TypeObject = 1
kind_count (kind.Plain of words entries) = 1 + length words + length entries
kind_count (kind.Semaphore count) = 1
kind_count (kind.Procedure code params entries) = 1 + length params + length entries

abbrev pub objects_count : List Born → ℕ
objects_count [] = 0
objects_count (o ∷ os) = kind_count o.kind + objects_count os

abbrev pub codes_count : List Code → ℕ
codes_count [] = 0
codes_count (c ∷ cs) = 1 + length c.steps + codes_count cs

abbrev pub tasks_count : List Task → ℕ
tasks_count [] = 0
tasks_count (t ∷ ts) = 1 + length t.slots + tasks_count ts

abbrev pub world_count : WorldValue → ℕ
world_count w = objects_count w.objects + codes_count w.codes + tasks_count w.tasks

abbrev contents_count : Contents → ℕ
contents_count c = length c.words + length c.params + length c.entries

contents_few : (names : Names) (r : Room) (u : Used) (ps : List Part) (c : Contents) → contents_of names r u ps ≡ Ok c → contents_count c ≤ parts_count ps
contents_few names r u [] c h = let same : contents [] [] [] ≡ c = cc in rw (← same) (omega arith)
contents_few names r u (p ∷ ps) c h = go p.body h (λ v d k. contents_few names r v ps d k)
  where
    entry : (b : Body)
        → onto one_entry p.line (limited (ltb u.entries r.entries) (permitted r.listed (entry_meant names b)))
        (contents_of names r (used u.words u.params (u.entries + 1)) ps) ≡ Ok c
        → ((v : Used) (d : Contents) → contents_of names r v ps ≡ Ok d → contents_count d ≤ parts_count ps) → contents_count c ≤ 1 + parts_count ps
    entry b k more =
        let next = used u.words u.params (u.entries + 1) in
        let a = onto_ok one_entry p.line (limited (ltb u.entries r.entries) (permitted r.listed (entry_meant names b))) (contents_of names r next ps) c k in
        subst (λ (d : Contents). contents_count d ≤ 1 + parts_count ps) a.4 (omega (arith, more next a.1 a.3))

    go : (b : Body) → content_onto names r u p.line b (λ next. contents_of names r next ps) ≡ Ok c
        → ((v : Used) (d : Contents) → contents_of names r v ps ≡ Ok d → contents_count d ≤ parts_count ps) → contents_count c ≤ body_count b + parts_count ps
    go (WordsAre words) k more =
        let read = limited (leb (u.words + length words) 4096) (Ok words) in
        let a = onto_ok more_words p.line read (contents_of names r (used (u.words + length words) u.params u.entries) ps) c k in
        let l = limited_ok (leb (u.words + length words) 4096) (Ok words) a.0 a.2 in
        let same : words ≡ a.0 = (let eq = l.0 in cc) in
        let len = ap length same in
        let rest = more (used (u.words + length words) u.params u.entries) a.1 a.3 in
        subst (λ (d : Contents). contents_count d ≤ length words + parts_count ps) a.4 (omega (arith, rest, len, length-append a.0 a.1.words))
    go (ParamIs kind check give) k more =
        let a = onto_ok one_param p.line (limited (ltb u.params 8) (param_of names kind check give)) (contents_of names r (used u.words (u.params + 1) u.entries) ps) c k in
        subst (λ (d : Contents). contents_count d ≤ 1 + parts_count ps) a.4 (omega (arith, more (used u.words (u.params + 1) u.entries) a.1 a.3))
    go EmptyEntry k more = entry EmptyEntry k more
    go (CapEntry object rights) k more = entry (CapEntry object rights) k more
    go (AmplifyEntry kind check give) k more = entry (AmplifyEntry kind check give) k more
    go (CreateEntry of give) k more = entry (CreateEntry of give) k more
    go (LabelIs label) k more = entry (LabelIs label) k more
    go (StepIs step) k more = entry (StepIs step) k more

steps_few : (labels : List Label) (n : ℕ) (ps : List Part) (is : List Instr) → instrs_of labels n ps ≡ Ok is → length is ≤ parts_count ps
steps_few labels n [] is h = let same : [] ≡ is = cc in rw (← same) (omega arith)
steps_few labels n (p ∷ ps) is h = go p.body h (λ m js k. steps_few labels m ps js k)
  where
    go : (b : Body) → instr_onto labels n p.line b (λ next. instrs_of labels next ps) ≡ Ok is
        → ((m : ℕ) (js : List Instr) → instrs_of labels m ps ≡ Ok js → length js ≤ parts_count ps)
        → length is ≤ body_count b + parts_count ps
    go (StepIs step) k more =
        let a = onto_ok front p.line (limited (ltb n 4096) (instr_of labels step)) (instrs_of labels (n + 1) ps) is k in
        subst (λ (js : List Instr). length js ≤ 1 + parts_count ps) a.4 (omega (arith, more (n + 1) a.1 a.3))
    go (WordsAre words) k more = omega (arith, more n is k)
    go EmptyEntry k more = omega (arith, more n is k)
    go _ k more = omega (arith, more n is k)

-- what an item adds to a world
abbrev Adds : (WorldValue → WorldValue) → ℕ → Type 0
Adds put n = (w : WorldValue) → world_count (put w) ≤ n + world_count w

item_adds : (names : Names) (n : Counts) (line : ℕ) (ps : List Part) (head : Head) (put : WorldValue → WorldValue) → head_loaded names n line ps head ≡ Ok put
    → Adds put (1 + parts_count ps)
item_adds names n line ps (LimitIs limit) put h = moved (λ p. Adds p (1 + parts_count ps)) (with_limit limit) put h (λ w. omega arith)
item_adds names n line ps (TypeIs name) put h =
    let a = then_ok (at_line line (unless (object_fits n) TooMany)) (Ok (with_object name kind.TypeObject)) put h in
    moved (λ p. Adds p (1 + parts_count ps)) (with_object name kind.TypeObject) put a.2 (λ w. omega arith)
item_adds names n line ps (ObjectIs name of) put h =
    let a = bind_ok (at_line line (limited (object_fits n) (plain_type names of))) _ put h in
    let b = bind_ok (contents_of names (room (not (a.0 == DATA)) entry_limit) (used 0 0 0) ps) _ put a.2 in
    let few = contents_few names (room (not (a.0 == DATA)) entry_limit) (used 0 0 0) ps b.0 b.1 in
    moved (λ p. Adds p (1 + parts_count ps)) (with_object name (kind.Plain (name_numbered a.0) b.0.words b.0.entries)) put b.2 (λ w. omega (arith, few))
item_adds names n line ps (SemaphoreIs name count) put h =
    let a = then_ok (at_line line (unless (object_fits n) TooMany)) (Ok (with_object name (kind.Semaphore count))) put h in
    moved (λ p. Adds p (1 + parts_count ps)) (with_object name (kind.Semaphore count)) put a.2 (λ w. omega arith)
item_adds names n line ps (ProcedureIs name code) put h =
    let a = bind_ok (at_line line (limited (object_fits n) (code_named names code))) _ put h in
    let b = bind_ok (contents_of names (room true entry_limit) (used 0 0 0) ps) _ put a.2 in
    let few = contents_few names (room true entry_limit) (used 0 0 0) ps b.0 b.1 in
    moved (λ p. Adds p (1 + parts_count ps)) (with_object name (kind.Procedure a.0 b.0.params b.0.entries)) put b.2 (λ w. omega (arith, few))
item_adds names n line ps (CodeIs name) put h =
    let a = then_ok (at_line line (unless (ltb n.codes code_limit) TooMany)) (instrs_of (labels_from 0 ps) 0 ps >>= (λ steps. Ok (with_code name steps))) put h in
    let b = bind_ok (instrs_of (labels_from 0 ps) 0 ps) (λ steps. Ok (with_code name steps)) put a.2 in
    let few = steps_few (labels_from 0 ps) 0 ps b.0 b.1 in
    moved (λ p. Adds p (1 + parts_count ps)) (with_code name b.0) put b.2 (λ w. omega (arith, few))
item_adds names n line ps (ProcessIs name code) put h =
    let a = bind_ok (at_line line (limited (ltb n.tasks process_limit) (code_named names code))) _ put h in
    let b = bind_ok (contents_of names (room true slot_limit) (used 0 0 0) ps) _ put a.2 in
    let few = contents_few names (room true slot_limit) (used 0 0 0) ps b.0 b.1 in
    moved (λ p. Adds p (1 + parts_count ps)) (with_task name a.0 b.0.entries) put b.2 (λ w. omega (arith, few))

loaded_few : (names : Names) (n : Counts) (is : List Item) (w : WorldValue) → items_of names n is ≡ Ok w → world_count w ≤ items_count is
loaded_few names n [] w h = moved (λ v. world_count v ≤ 0) (world_value usual_limit [] [] []) w h (omega arith)
loaded_few names n (i ∷ is) w h =
    go (item_of names n i) (items_of names (counted n i.head) is) (item_adds names n i.line i.parts i.head) (loaded_few names (counted n i.head) is) h
  where
    go : (r : Result (WorldValue → WorldValue) Refused) (rest : Result WorldValue Refused) → ((put : WorldValue → WorldValue) → r ≡ Ok put → Adds put (item_count i))
        → ((v : WorldValue) → rest ≡ Ok v → world_count v ≤ items_count is) → put_item r rest ≡ Ok w → world_count w ≤ items_count (i ∷ is)
    go (Err refused) rest adds more k = cc
    go (Ok put) (Err refused) adds more k = cc
    go (Ok put) (Ok v) adds more k = moved (λ x. world_count x ≤ items_count (i ∷ is)) (put v) w k (omega (arith, adds put refl v, more v refl))

-- the whole way

-- a script of so many bytes declares at most half as many things
pub world_few : (bytes : List ℕ) (w : WorldValue) → world bytes ≡ Ok w → 2 * world_count w ≤ length bytes + 1
unfolding world
world_few bytes w h = read (text bytes) refl h
  where
    loaded : (ls : Lines) (items : List Item) → 2 * items_count items ≤ length bytes + 1 → (r : Result WorldValue Refused) → load items ≡ r → pass OfLoad r Ok ≡ Ok w
        → 2 * world_count w ≤ length bytes + 1
    loaded ls items few (Ok v) e k =
        let names = names_of (map (λ (i : Item). i.head) items) in
        moved (λ x. 2 * world_count x ≤ length bytes + 1) v w k (omega (arith, loaded_few names (counts 0 0 0) items v e))
    loaded ls items few (Err refused) e k = cc

    told : (ls : Lines) → list_all is_good ls ≡ true → 2 * pieces_count ls ≤ length bytes + 1
        → (r : Result (List Item) (ℕ × ParseCause)) → script ls ≡ r → pass OfParse r last_pass ≡ Ok w → 2 * world_count w ≤ length bytes + 1
    told ls good few (Ok items) e k = loaded ls items (omega (arith, items_few ls items good e)) (load items) refl k
    told ls good few (Err refused) e k = cc

    read : (r : Result Lines (ℕ × TextCause)) → text bytes ≡ r → pass OfText r parsed ≡ Ok w → 2 * world_count w ≤ length bytes + 1
    read (Ok ls) e k = told ls (text_good bytes ls e) (text_few bytes ls e) (script ls) refl k
    read (Err refused) e k = cc
