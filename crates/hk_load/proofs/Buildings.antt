-- What the items of a script give, one after another.
use Rattle.std.proofs.Common.{◌≡◌, ℕ, ◌+◌, ◌==◌, not, map, Bool, true, false, ltb, List, [], ◌∷◌, ◌++◌, length, refl, sym, ap, ◌∙◌, Ok, Err, Result, None}
use Rattle.std.proofs.lemmas.List.{length-append}
use mathlib.Core.List.{append_assoc, append-nil}
use Rattle.hk_format.specs.declared.causes.LoadCause.TheVariants.{TooMany}
use Rattle.hk_model.specs.declared.entries.Entry.{Entry}
use Rattle.hk_model.specs.declared.instructions.Instr.{Instr}
use Rattle.hk_format.specs.declared.syntax.Head.{Head}
use Rattle.hk_format.specs.declared.syntax.Head.TheVariants.{LimitIs, TypeIs, ObjectIs, SemaphoreIs, ProcedureIs, CodeIs, ProcessIs}
use Rattle.hk_format.specs.declared.syntax.Item.{Item}
use Rattle.hk_format.specs.declared.syntax.Part.{Part}
use Rattle.hk_model.specs.declared.world.Kind.{Kind}
use Rattle.hk_model.specs.declared.world.Kind.TheVariants as kind
use Rattle.hk_model.specs.WorldValue.{WorldValue, world_value}
use Rattle.hk_model.specs.Targets.{DATA}
use Rattle.hk_format.specs.Loading as loading
use Rattle.hk_format.specs.Names.{Names}
use Rattle.hk_format.specs.Loading.{Refused, Contents, Counts, counts, counted, object_fits, at_line, unless, limited, plain_type, code_named, name_numbered, room, used}
use Rattle.hk_format.specs.Loading.{contents_of, labels_from, instrs_of, with_object, head_loaded, item_of, put_item, items_of, names_of, load}
use Rattle.hk_model.specs.Refusing.{◌>>=◌, ◌>>◌}
use Rattle.hk_load.specs.Building.{Built, built, counts_of, with_limit, with_born, with_code, with_task, limit_or, finished, added, after}

after_born : (b : Built) (name : List ℕ) (k : Kind) (rest : Result WorldValue Refused) → after b (put_item (Ok (with_object name k)) rest) ≡ after (with_born b name k) rest
after_born b name k (Ok w) =
    ap (λ o. Ok (world_value (limit_or b.limit w.limit) o (b.codes ++ w.codes) (b.tasks ++ w.tasks)))
    (sym (append_assoc b.objects (record { label = name; kind = k } ∷ []) w.objects))
after_born b name k (Err e) = refl

after_code : (b : Built) (name : List ℕ) (steps : List Instr) (rest : Result WorldValue Refused)
    → after b (put_item (Ok (loading.with_code name steps)) rest) ≡ after (with_code b name steps) rest
after_code b name steps (Ok w) =
    ap (λ c. Ok (world_value (limit_or b.limit w.limit) (b.objects ++ w.objects) c (b.tasks ++ w.tasks)))
    (sym (append_assoc b.codes (record { label = name; steps = steps } ∷ []) w.codes))
after_code b name steps (Err e) = refl

after_task : (b : Built) (name : List ℕ) (code : ℕ) (slots : List Entry) (rest : Result WorldValue Refused)
    → after b (put_item (Ok (loading.with_task name code slots)) rest) ≡ after (with_task b name code slots) rest
after_task b name code slots (Ok w) =
    ap (λ t. Ok (world_value (limit_or b.limit w.limit) (b.objects ++ w.objects) (b.codes ++ w.codes) t))
    (sym (append_assoc b.tasks (record { label = name; code = code; slots = slots } ∷ []) w.tasks))
after_task b name code slots (Err e) = refl

after_limit : (b : Built) (limit : ℕ) (rest : Result WorldValue Refused) → after b (put_item (Ok (loading.with_limit limit)) rest) ≡ after (with_limit b limit) rest
after_limit b limit (Ok w) = refl
after_limit b limit (Err e) = refl

born_rest : (b : Built) (name : List ℕ) (k : Kind) (rest : Counts → Result WorldValue Refused)
    → after b (put_item (Ok (with_object name k)) (rest (counts (length b.objects + 1) (length b.codes) (length b.tasks))))
    ≡ after (with_born b name k) (rest (counts_of (with_born b name k)))
born_rest b name k rest =
    after_born b name k (rest (counts (length b.objects + 1) (length b.codes) (length b.tasks)))
    ∙ ap (λ n. after (with_born b name k) (rest (counts n (length b.codes) (length b.tasks)))) (sym (length-append b.objects (record { label = name; kind = k } ∷ [])))

code_rest : (b : Built) (name : List ℕ) (steps : List Instr) (rest : Counts → Result WorldValue Refused)
    → after b (put_item (Ok (loading.with_code name steps)) (rest (counts (length b.objects) (length b.codes + 1) (length b.tasks))))
    ≡ after (with_code b name steps) (rest (counts_of (with_code b name steps)))
code_rest b name steps rest =
    after_code b name steps (rest (counts (length b.objects) (length b.codes + 1) (length b.tasks)))
    ∙ ap (λ n. after (with_code b name steps) (rest (counts (length b.objects) n (length b.tasks)))) (sym (length-append b.codes (record { label = name; steps = steps } ∷ [])))

task_rest : (b : Built) (name : List ℕ) (code : ℕ) (slots : List Entry) (rest : Counts → Result WorldValue Refused)
    → after b (put_item (Ok (loading.with_task name code slots)) (rest (counts (length b.objects) (length b.codes) (length b.tasks + 1))))
    ≡ after (with_task b name code slots) (rest (counts_of (with_task b name code slots)))
task_rest b name code slots rest =
    after_task b name code slots (rest (counts (length b.objects) (length b.codes) (length b.tasks + 1)))
    ∙ ap (λ n. after (with_task b name code slots) (rest (counts (length b.objects) (length b.codes) n)))
    (sym (length-append b.tasks (record { label = name; code = code; slots = slots } ∷ [])))

-- an object of one line
single_onto : (b : Built) (line : ℕ) (name : List ℕ) (k : Kind) (rest : Counts → Result WorldValue Refused) (fits : Bool)
    → after b (put_item (at_line line (unless fits TooMany) >> Ok (with_object name k)) (rest (counts (length b.objects + 1) (length b.codes) (length b.tasks))))
    ≡ ((at_line line (unless fits TooMany) >> Ok (with_born b name k)) >>= (λ d. after d (rest (counts_of d))))
single_onto b line name k rest true = born_rest b name k rest
single_onto b line name k rest false = refl

-- an object with lines behind it
born_onto : (b : Built) (name : List ℕ) (k : ℕ → Contents → Kind) (rest : Counts → Result WorldValue Refused) (t : Result ℕ Refused) (f : ℕ → Result Contents Refused)
    → after b (put_item (t >>= (λ n. f n >>= (λ c. Ok (with_object name (k n c))))) (rest (counts (length b.objects + 1) (length b.codes) (length b.tasks))))
    ≡ ((t >>= (λ n. f n >>= (λ c. Ok (with_born b name (k n c))))) >>= (λ d. after d (rest (counts_of d))))
born_onto b name k rest (Err e) f = refl
born_onto b name k rest (Ok n) f = go (f n)
  where
    go : (r : Result Contents Refused)
        → after b (put_item (r >>= (λ c. Ok (with_object name (k n c)))) (rest (counts (length b.objects + 1) (length b.codes) (length b.tasks))))
        ≡ ((r >>= (λ c. Ok (with_born b name (k n c)))) >>= (λ d. after d (rest (counts_of d))))
    go (Ok c) = born_rest b name (k n c) rest
    go (Err e) = refl

-- a code
code_onto : (b : Built) (line : ℕ) (name : List ℕ) (rest : Counts → Result WorldValue Refused) (few : Bool) (r : Result (List Instr) Refused)
    → after b (put_item (at_line line (unless few TooMany) >> (r >>= (λ steps. Ok (loading.with_code name steps))))
    (rest (counts (length b.objects) (length b.codes + 1) (length b.tasks)))) ≡ ((at_line line (unless few TooMany) >> (r >>= (λ steps. Ok (with_code b name steps)))) >>=
    (λ d. after d (rest (counts_of d))))
code_onto b line name rest true (Ok steps) = code_rest b name steps rest
code_onto b line name rest true (Err e) = refl
code_onto b line name rest false r = refl

-- a process
task_onto : (b : Built) (name : List ℕ) (rest : Counts → Result WorldValue Refused) (t : Result ℕ Refused) (r : Result Contents Refused)
    → after b (put_item (t >>= (λ n. r >>= (λ c. Ok (loading.with_task name n c.entries)))) (rest (counts (length b.objects) (length b.codes) (length b.tasks + 1))))
    ≡ ((t >>= (λ n. r >>= (λ c. Ok (with_task b name n c.entries)))) >>= (λ d. after d (rest (counts_of d))))
task_onto b name rest (Err e) r = refl
task_onto b name rest (Ok n) (Ok c) = task_rest b name n c.entries rest
task_onto b name rest (Ok n) (Err e) = refl

item_onto : (names : Names) (b : Built) (line : ℕ) (parts : List Part) (head : Head) (rest : Counts → Result WorldValue Refused)
    → after b (put_item (head_loaded names (counts_of b) line parts head) (rest (counted (counts_of b) head)))
    ≡ (added names b line parts head >>= (λ d. after d (rest (counts_of d))))
item_onto names b line parts (LimitIs limit) rest = after_limit b limit (rest (counts_of b))
item_onto names b line parts (TypeIs name) rest = single_onto b line name kind.TypeObject rest (object_fits (counts_of b))
item_onto names b line parts (ObjectIs name of) rest =
    born_onto b name (λ t c. kind.Plain (name_numbered t) c.words c.entries) rest (at_line line (limited (object_fits (counts_of b)) (plain_type names of)))
    (λ t. contents_of names (room (not (t == DATA)) 256) (used 0 0 0) parts)
item_onto names b line parts (SemaphoreIs name count) rest = single_onto b line name (kind.Semaphore count) rest (object_fits (counts_of b))
item_onto names b line parts (ProcedureIs name code) rest =
    born_onto b name (λ k c. kind.Procedure k c.params c.entries) rest (at_line line (limited (object_fits (counts_of b)) (code_named names code)))
    (λ k. contents_of names (room true 256) (used 0 0 0) parts)
item_onto names b line parts (CodeIs name) rest = code_onto b line name rest (ltb (length b.codes) 4096) (instrs_of (labels_from 0 parts) 0 parts)
item_onto names b line parts (ProcessIs name code) rest =
    task_onto b name rest (at_line line (limited (ltb (length b.tasks) 256) (code_named names code))) (contents_of names (room true 64) (used 0 0 0) parts)

-- the first of some items, with those behind it
pub front_turn : (names : Names) (b : Built) (i : Item) (is : List Item)
    → after b (items_of names (counts_of b) (i ∷ is)) ≡ (added names b i.line i.parts i.head >>= (λ d. after d (items_of names (counts_of d) is)))
front_turn names b i is = item_onto names b i.line i.parts i.head (λ n. items_of names n is)

-- no item is left
pub no_item : (b : Built) → after b (Ok (world_value 10000 [] [] [])) ≡ Ok (finished b)
no_item b =
    ap (λ o. Ok (world_value (limit_or b.limit 10000) o (b.codes ++ []) (b.tasks ++ []))) (append-nil b.objects)
    ∙ ap (λ c. Ok (world_value (limit_or b.limit 10000) b.objects c (b.tasks ++ []))) (append-nil b.codes)
    ∙ ap (λ t. Ok (world_value (limit_or b.limit 10000) b.objects b.codes t)) (append-nil b.tasks)

after_nothing : (r : Result WorldValue Refused) → after (built None [] [] []) r ≡ r
after_nothing (Ok w) = refl
after_nothing (Err e) = refl

-- all items
pub first_items : (names : Names) (b : Built) (items : List Item) → b ≡ built None [] [] [] → names ≡ names_of (map (λ (i : Item). i.head) items)
    → after b (items_of names (counts_of b) items) ≡ load items
first_items names b items e f =
    ap (λ (x : Built). after x (items_of names (counts_of x) items)) e
    ∙ ap (λ (n : Names). after (built None [] [] []) (items_of n (counts 0 0 0) items)) f
    ∙ after_nothing (load items)
