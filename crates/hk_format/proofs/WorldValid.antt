-- A script that is loaded gives a world that can be run.
use Rattle.std.proofs.Common.{◌≡◌, ℕ, ◌+◌, ◌<◌, ◌≤◌, inl, inr, ◌==◌, ◌&&◌, ◌||◌, not, Bool, true, false, ltb, eqb, List, [], ◌∷◌, ◌++◌, length, map, refl, sym, ap, ◌∙◌, subst}
use Rattle.std.proofs.Common.{arith, Ok, Err, Result}
use Rattle.std.specs.Prelude.{IsTrue}
use Rattle.std.specs.List.{list_any, AllByRecursion, filter_map}
use Rattle.std.proofs.lemmas.Bool.{and_parts, and_from, ltb-true, false≢true, not-true, eqb-true}
use Rattle.std.proofs.lemmas.Bool.Decides.{nat_tests}
use Rattle.std.proofs.lemmas.List.{length-map}
use Rattle.std.proofs.lemmas.List.Folds.{list_any-append}
use mathlib.Core.List.{append_assoc}
use Rattle.hk_model.specs.declared.entries.Entry.{Entry}
use Rattle.hk_format.specs.declared.syntax.Head.{Head}
use Rattle.hk_format.specs.declared.syntax.Head.TheVariants.{LimitIs, TypeIs, ObjectIs, SemaphoreIs, ProcedureIs, CodeIs, ProcessIs}
use Rattle.hk_format.specs.declared.syntax.Part.{Part}
use Rattle.hk_format.specs.declared.syntax.Item.{Item}
use Rattle.hk_model.specs.declared.instructions.Instr.{Instr}
use Rattle.hk_model.specs.declared.world.Kind.TheVariants as kind
use Rattle.hk_model.specs.declared.world.Born.{Born}
use Rattle.hk_model.specs.declared.world.Code.{Code}
use Rattle.hk_model.specs.declared.world.Task.{Task}
use Rattle.hk_format.specs.declared.causes.LoadCause.TheVariants.{TooMany, WrongPart}
use Rattle.hk_model.specs.Labels.{same_text, is_name, are_apart}
use Rattle.hk_model.specs.Targets.{DATA, is_general}
use Rattle.hk_model.specs.WorldValue.{WorldValue, world_value, IsWorld, IsKind, IsCode, IsTask, IsType, IsPlainType, labels}
use Rattle.hk_format.specs.Syntax.{AreItems, AreParts, IsHead, IsSyntax}
use Rattle.hk_format.specs.Grammar.{GivenNames, nothing_seen, is_among, is_new, noted}
use Rattle.hk_format.specs.Names.{Names}
use Rattle.hk_format.specs.Loading.{Refused, unless, limited, type_named, code_named, name_numbered, names_of, object_label, is_type_head, code_label, Contents, used, room}
use Rattle.hk_format.specs.Loading.{contents_of, labels_from, instrs_of, Counts, counts, counted, object_fits, with_limit, with_object, with_code, with_task, at_line, plain_type}
use Rattle.hk_format.specs.Loading.{head_loaded, item_of, put_item, items_of, load}
use Rattle.hk_model.specs.Refusing.{◌>>=◌, ◌>>◌}
use Rattle.hk_format.proofs.NamesAgain.{is_type_object}
use Rattle.hk_format.proofs.LoadGood.{bind_ok, then_ok, limited_ok, unless_ok, moved, NamesFit, type_loaded, code_loaded}
use Rattle.hk_format.proofs.ItemsLoaded.{code_loaded_whole}
use Rattle.hk_format.proofs.WorldLoaded.{contents_loaded, words_in, within_none, at_line_ok}

-- what an item puts in front of a world, by its head
Puts : Names → Counts → List Part → Head → (WorldValue → WorldValue) → Type 0
Puts names n parts (LimitIs limit) put = put ≡ with_limit limit
Puts names n parts (TypeIs name) put = (object_fits n ≡ true) × (put ≡ with_object name kind.TypeObject)
Puts names n parts (ObjectIs name of) put =
    (t : ℕ) × (c : Contents) × (limited (object_fits n) (plain_type names of) ≡ Ok t) × (contents_of names (room (not (t == DATA)) 256) (used 0 0 0) parts ≡ Ok c)
    × (put ≡ with_object name (kind.Plain (name_numbered t) c.words c.entries))
Puts names n parts (SemaphoreIs name count) put = (object_fits n ≡ true) × (put ≡ with_object name (kind.Semaphore count))
Puts names n parts (ProcedureIs name code) put =
    (k : ℕ) × (c : Contents) × (limited (object_fits n) (code_named names code) ≡ Ok k) × (contents_of names (room true 256) (used 0 0 0) parts ≡ Ok c)
    × (put ≡ with_object name (kind.Procedure k c.params c.entries))
Puts names n parts (CodeIs name) put = (steps : List Instr) × (ltb n.codes 4096 ≡ true) × (instrs_of (labels_from 0 parts) 0 parts ≡ Ok steps) × (put ≡ with_code name steps)
Puts names n parts (ProcessIs name code) put =
    (k : ℕ) × (c : Contents) × (limited (ltb n.tasks 256) (code_named names code) ≡ Ok k) × (contents_of names (room true 64) (used 0 0 0) parts ≡ Ok c)
    × (put ≡ with_task name k c.entries)

same_put : (f g : WorldValue → WorldValue) → ◌≡◌ {A = Result (WorldValue → WorldValue) Refused} (Ok f) (Ok g) → g ≡ f
same_put f g h = let e : f ≡ g = cc in sym e

puts : (names : Names) (n : Counts) (line : ℕ) (parts : List Part) (head : Head) (put : WorldValue → WorldValue) → head_loaded names n line parts head ≡ Ok put
    → Puts names n parts head put
unfolding Puts
puts names n line parts (LimitIs limit) put h = same_put (with_limit limit) put h
puts names n line parts (TypeIs name) put h =
    let a = then_ok (at_line line (unless (object_fits n) TooMany)) (Ok (with_object name kind.TypeObject)) put h in
    (unless_ok (object_fits n) TooMany a.0 (at_line_ok line (unless (object_fits n) TooMany) a.0 a.1), same_put (with_object name kind.TypeObject) put a.2)
puts names n line parts (ObjectIs name of) put h =
    let a = bind_ok (at_line line (limited (object_fits n) (plain_type names of))) (λ t. contents_of names (room (not (t == DATA)) 256) (used 0 0 0) parts >>=
    (λ c. Ok (with_object name (kind.Plain (name_numbered t) c.words c.entries)))) put h in
    let b = bind_ok (contents_of names (room (not (a.0 == DATA)) 256) (used 0 0 0) parts)
    (λ c. Ok (with_object name (kind.Plain (name_numbered a.0) c.words c.entries))) put a.2 in (
      a.0,
      b.0,
      at_line_ok line (limited (object_fits n) (plain_type names of)) a.0 a.1,
      b.1,
      same_put (with_object name (kind.Plain (name_numbered a.0) (b.0).words (b.0).entries)) put b.2,
    )
puts names n line parts (SemaphoreIs name count) put h =
    let a = then_ok (at_line line (unless (object_fits n) TooMany)) (Ok (with_object name (kind.Semaphore count))) put h in
    (unless_ok (object_fits n) TooMany a.0 (at_line_ok line (unless (object_fits n) TooMany) a.0 a.1), same_put (with_object name (kind.Semaphore count)) put a.2)
puts names n line parts (ProcedureIs name code) put h =
    let a = bind_ok (at_line line (limited (object_fits n) (code_named names code))) (λ k. contents_of names (room true 256) (used 0 0 0) parts >>=
    (λ c. Ok (with_object name (kind.Procedure k c.params c.entries)))) put h in
    let b = bind_ok (contents_of names (room true 256) (used 0 0 0) parts) (λ c. Ok (with_object name (kind.Procedure a.0 c.params c.entries))) put a.2 in
    (a.0, b.0, at_line_ok line (limited (object_fits n) (code_named names code)) a.0 a.1, b.1, same_put (with_object name (kind.Procedure a.0 (b.0).params (b.0).entries)) put b.2)
puts names n line parts (CodeIs name) put h =
    let a = then_ok (at_line line (unless (ltb n.codes 4096) TooMany)) (instrs_of (labels_from 0 parts) 0 parts >>= (λ steps. Ok (with_code name steps))) put h in
    let b = bind_ok (instrs_of (labels_from 0 parts) 0 parts) (λ steps. Ok (with_code name steps)) put a.2 in
    (b.0, unless_ok (ltb n.codes 4096) TooMany a.0 (at_line_ok line (unless (ltb n.codes 4096) TooMany) a.0 a.1), b.1, same_put (with_code name b.0) put b.2)
puts names n line parts (ProcessIs name code) put h =
    let a = bind_ok (at_line line (limited (ltb n.tasks 256) (code_named names code))) (λ k. contents_of names (room true 64) (used 0 0 0) parts >>=
    (λ c. Ok (with_task name k c.entries))) put h in
    let b = bind_ok (contents_of names (room true 64) (used 0 0 0) parts) (λ c. Ok (with_task name a.0 c.entries)) put a.2 in
    (a.0, b.0, at_line_ok line (limited (ltb n.tasks 256) (code_named names code)) a.0 a.1, b.1, same_put (with_task name a.0 (b.0).entries) put b.2)

put_ok : (r : Result (WorldValue → WorldValue) Refused) (rest : Result WorldValue Refused) (v : WorldValue) → put_item r rest ≡ Ok v
    → (put : WorldValue → WorldValue) × (u : WorldValue) × (r ≡ Ok put) × (rest ≡ Ok u) × (put u ≡ v)
put_ok (Ok put) (Ok u) v h = (put, u, refl, refl, cc)
put_ok (Ok put) (Err e) v h = absurd (let k : Err e ≡ Ok v = h in cc)
put_ok (Err e) rest v h = absurd (let k : Err e ≡ Ok v = h in cc)

put_same : (put with : WorldValue → WorldValue) (u v : WorldValue) → put ≡ with → put u ≡ v → with u ≡ v
put_same put with u v e h = sym (ap (λ (f : WorldValue → WorldValue). f u) e) ∙ h

-- the names of a world are those that the heads declare

record Shape (heads : List Head) (v : WorldValue) : Type 0 where
  objects : map (λ (b : Born). b.label) v.objects ≡ filter_map object_label heads
  types : map is_type_object v.objects ≡ filter_map is_type_head heads
  codes : map (λ (c : Code). c.label) v.codes ≡ filter_map code_label heads

shape : (names : Names) (n : Counts) (is : List Item) (v : WorldValue) → items_of names n is ≡ Ok v → Shape (map (λ (i : Item). i.head) is) v
unfolding Puts is_type_object
shape names n [] v h = moved (Shape []) (world_value 10000 [] [] []) v h (record { objects = refl; types = refl; codes = refl })
shape names n (i ∷ is) v h =
    let a = put_ok (item_of names n i) (items_of names (counted n i.head) is) v h in
    go i.head a.0 a.1 (puts names n i.line i.parts i.head a.0 a.2) a.4 (shape names (counted n i.head) is a.1 a.3)
  where
    heads : List Head
    heads = map (λ (i : Item). i.head) is

    go : (head : Head) (put : WorldValue → WorldValue) (u : WorldValue) → Puts names n i.parts head put → put u ≡ v → Shape (map (λ (i : Item). i.head) is) u
        → Shape (head ∷ map (λ (i : Item). i.head) is) v
    go (LimitIs limit) put u p e s =
        subst (Shape (LimitIs limit ∷ map (λ (i : Item). i.head) is)) (put_same put (with_limit limit) u v p e) (record { objects = s.objects; types = s.types; codes = s.codes })
    go (TypeIs name) put u p e s =
        subst (Shape (TypeIs name ∷ map (λ (i : Item). i.head) is)) (put_same put (with_object name kind.TypeObject) u v p.1 e)
        (record { objects = ap (λ (t : List (List ℕ)). name ∷ t) s.objects; types = ap (λ (t : List Bool). true ∷ t) s.types; codes = s.codes })
    go (ObjectIs name of) put u p e s =
        subst (Shape (ObjectIs name of ∷ map (λ (i : Item). i.head) is)) (put_same put (with_object name (kind.Plain (name_numbered p.0) (p.1).words (p.1).entries)) u v p.4 e)
        (record { objects = ap (λ (t : List (List ℕ)). name ∷ t) s.objects; types = ap (λ (t : List Bool). false ∷ t) s.types; codes = s.codes })
    go (SemaphoreIs name count) put u p e s =
        subst (Shape (SemaphoreIs name count ∷ map (λ (i : Item). i.head) is)) (put_same put (with_object name (kind.Semaphore count)) u v p.1 e)
        (record { objects = ap (λ (t : List (List ℕ)). name ∷ t) s.objects; types = ap (λ (t : List Bool). false ∷ t) s.types; codes = s.codes })
    go (ProcedureIs name code) put u p e s =
        subst (Shape (ProcedureIs name code ∷ map (λ (i : Item). i.head) is)) (put_same put (with_object name (kind.Procedure p.0 (p.1).params (p.1).entries)) u v p.4 e)
        (record { objects = ap (λ (t : List (List ℕ)). name ∷ t) s.objects; types = ap (λ (t : List Bool). false ∷ t) s.types; codes = s.codes })
    go (CodeIs name) put u p e s =
        subst (Shape (CodeIs name ∷ map (λ (i : Item). i.head) is)) (put_same put (with_code name p.0) u v p.3 e)
        (record { objects = s.objects; types = s.types; codes = ap (λ (t : List (List ℕ)). name ∷ t) s.codes })
    go (ProcessIs name code) put u p e s =
        subst (Shape (ProcessIs name code ∷ map (λ (i : Item). i.head) is)) (put_same put (with_task name p.0 (p.1).entries) u v p.4 e)
        (record { objects = s.objects; types = s.types; codes = s.codes })

-- what the items give is in its limits and ranges

record Valid (w : WorldValue) (n : Counts) (v : WorldValue) : Type 0 where
  some_events : 0 < v.limit
  few_events : v.limit ≤ 1000000
  few_objects : n.objects + length v.objects ≤ 65529
  few_codes : n.codes + length v.codes ≤ 4096
  few_tasks : n.tasks + length v.tasks ≤ 256
  kinds : AllByRecursion (λ (b : Born). IsKind w b.kind) v.objects
  codes_are : AllByRecursion IsCode v.codes
  tasks_are : AllByRecursion (IsTask w) v.tasks

record Room (n : Counts) : Type 0 where
  objects : n.objects ≤ 65529
  codes : n.codes ≤ 4096
  tasks : n.tasks ≤ 256

plain_kind : {w : WorldValue} {names : Names} → NamesFit w names → (of : List ℕ) (t : ℕ) (entries : List Entry) → plain_type names of ≡ Ok t
    → (not (t == DATA) ≡ false → entries ≡ []) → IsPlainType w (name_numbered t) entries
plain_kind {w} {names} fit of t entries h none =
    let a = bind_ok (type_named names of) (λ n. unless (is_general (name_numbered n)) WrongPart >> Ok n) t h in
    let b = then_ok (unless (is_general (name_numbered a.0)) WrongPart) (Ok a.0) t a.2 in
    let general = unless_ok (is_general (name_numbered a.0)) WrongPart b.0 b.1 in
    let same : a.0 ≡ t = (let e = b.2 in cc) in
    go (type_loaded fit of t (a.1 ∙ ap Ok same)) (subst (λ (m : ℕ). is_general (name_numbered m) ≡ true) same general)
  where
    go : IsType w (name_numbered t) → is_general (name_numbered t) ≡ true → IsPlainType w (name_numbered t) entries
    go (inr declared) general = inr (inr declared)
    go (inl low) general = low_type (eqb t 1) refl
      where
        low_type : (b : Bool) → eqb t 1 ≡ b → IsPlainType w (name_numbered t) entries
        low_type true e = inl (eqb-true t 1 e, none (ap not e))
        low_type false e = inr (inl (grind (arith, nat_tests)))

object_room : (n : Counts) → object_fits n ≡ true → n.objects < 65529
object_room n h = let below = ltb-true (7 + n.objects) 65536 h in omega arith

-- the item in front of valid items
record Front (w : WorldValue) (n : Counts) (head : Head) (put : WorldValue → WorldValue) : Type 0 where
  room : Room (counted n head)
  valid : (u : WorldValue) → Valid w (counted n head) u → Valid w n (put u)

front : {w : WorldValue} {names : Names} → NamesFit w names → (n : Counts) (parts : List Part) (head : Head) (put : WorldValue → WorldValue) → Room n → IsHead head
    → AreParts head [] parts → Puts names n parts head put → Front w n head put
unfolding Puts
front {w} fit n parts (LimitIs limit) put r h k p = record {
  room = r;
  valid =
      λ u v. subst (λ (f : WorldValue → WorldValue). Valid w n (f u)) (sym p) (record {
        some_events = let some = h.0 in omega arith;
        few_events = h.1;
        few_objects =
            v.few_objects;
        few_codes = v.few_codes;
        few_tasks = v.few_tasks;
        kinds = v.kinds;
        codes_are = v.codes_are;
        tasks_are = v.tasks_are;
      });
}
front {w} fit n parts (TypeIs name) put r h k p =
    let below = object_room n p.0 in
    record {
      room = record { objects = omega arith; codes = r.codes; tasks = r.tasks };
      valid =
          λ u v. subst (λ (f : WorldValue → WorldValue). Valid w n (f u)) (sym p.1) (let few = v.few_objects in
          record {
            some_events = v.some_events;
            few_events = v.few_events;
            few_objects = omega arith;
            few_codes = v.few_codes;
            few_tasks = v.few_tasks;
            kinds =
                (tt, v.kinds);
            codes_are = v.codes_are;
            tasks_are = v.tasks_are;
          });
    }
front {w} fit n parts (SemaphoreIs name count) put r h k p =
    let below = object_room n p.0 in
    record {
      room = record { objects = omega arith; codes = r.codes; tasks = r.tasks };
      valid =
          λ u v. subst (λ (f : WorldValue → WorldValue). Valid w n (f u)) (sym p.1) (let few = v.few_objects in
          record {
            some_events = v.some_events;
            few_events = v.few_events;
            few_objects = omega arith;
            few_codes = v.few_codes;
            few_tasks = v.few_tasks;
            kinds =
                (h.1, v.kinds);
            codes_are = v.codes_are;
            tasks_are = v.tasks_are;
          });
    }
front {w} {names} fit n parts (ObjectIs name of) put r h k p =
    let l = limited_ok (object_fits n) (plain_type names of) p.0 p.2 in
    let below = object_room n l.1 in
    let c = contents_loaded fit (room (not (p.0 == DATA)) 256) (used 0 0 0) parts p.1 (within_none (room (not (p.0 == DATA)) 256)) (words_in (ObjectIs name of) [] parts k) p.3 in
    let few_words = c.few_words in
    let few_entries = c.few_entries in
    let here : IsKind w (kind.Plain (name_numbered p.0) (p.1).words (p.1).entries) = (
      plain_kind fit of p.0 (p.1).entries l.0 c.none,
      omega arith,
      c.words,
      omega arith,
      c.entries,
    ) in
    record {
      room = record { objects = omega arith; codes = r.codes; tasks = r.tasks };
      valid =
          λ u v. subst (λ (f : WorldValue → WorldValue). Valid w n (f u)) (sym p.4) (let few = v.few_objects in
          record {
            some_events = v.some_events;
            few_events = v.few_events;
            few_objects = omega arith;
            few_codes = v.few_codes;
            few_tasks = v.few_tasks;
            kinds =
                (here, v.kinds);
            codes_are = v.codes_are;
            tasks_are = v.tasks_are;
          });
    }
front {w} {names} fit n parts (ProcedureIs name code) put r h k p =
    let l = limited_ok (object_fits n) (code_named names code) p.0 p.2 in
    let below = object_room n l.1 in
    let c = contents_loaded fit (room true 256) (used 0 0 0) parts p.1 (within_none (room true 256)) (words_in (ProcedureIs name code) [] parts k) p.3 in
    let few_params = c.few_params in
    let few_entries = c.few_entries in
    let here : IsKind w (kind.Procedure p.0 (p.1).params (p.1).entries) = (code_loaded fit code p.0 l.0, omega arith, c.params, omega arith, c.entries) in
    record {
      room = record { objects = omega arith; codes = r.codes; tasks = r.tasks };
      valid =
          λ u v. subst (λ (f : WorldValue → WorldValue). Valid w n (f u)) (sym p.4) (let few = v.few_objects in
          record {
            some_events = v.some_events;
            few_events = v.few_events;
            few_objects = omega arith;
            few_codes = v.few_codes;
            few_tasks = v.few_tasks;
            kinds =
                (here, v.kinds);
            codes_are = v.codes_are;
            tasks_are = v.tasks_are;
          });
    }
front {w} fit n parts (CodeIs name) put r h k p =
    let below = ltb-true n.codes 4096 p.1 in
    let here = code_loaded_whole name parts p.0 k p.2 in
    record {
      room = record { objects = r.objects; codes = omega arith; tasks = r.tasks };
      valid =
          λ u v. subst (λ (f : WorldValue → WorldValue). Valid w n (f u)) (sym p.3) (let few = v.few_codes in
          record {
            some_events = v.some_events;
            few_events = v.few_events;
            few_objects = v.few_objects;
            few_codes = omega arith;
            few_tasks = v.few_tasks;
            kinds =
                v.kinds;
            codes_are = (here, v.codes_are);
            tasks_are = v.tasks_are;
          });
    }
front {w} {names} fit n parts (ProcessIs name code) put r h k p =
    let l = limited_ok (ltb n.tasks 256) (code_named names code) p.0 p.2 in
    let below = ltb-true n.tasks 256 l.1 in
    let c = contents_loaded fit (room true 64) (used 0 0 0) parts p.1 (within_none (room true 64)) (words_in (ProcessIs name code) [] parts k) p.3 in
    let few_entries = c.few_entries in
    let here : IsTask w (record { label = name; code = p.0; slots = (p.1).entries }) = (code_loaded fit code p.0 l.0, omega arith, c.entries) in
    record {
      room = record { objects = r.objects; codes = r.codes; tasks = omega arith };
      valid =
          λ u v. subst (λ (f : WorldValue → WorldValue). Valid w n (f u)) (sym p.4) (let few = v.few_tasks in
          record {
            some_events = v.some_events;
            few_events = v.few_events;
            few_objects = v.few_objects;
            few_codes = v.few_codes;
            few_tasks = omega arith;
            kinds =
                v.kinds;
            codes_are = v.codes_are;
            tasks_are = (here, v.tasks_are);
          });
    }

valid : {w : WorldValue} {names : Names} → NamesFit w names → (n : Counts) (seen : GivenNames) (is : List Item) (v : WorldValue) → Room n → AreItems seen is
    → items_of names n is ≡ Ok v → Valid w n v
valid {w} fit n seen [] v r h e = moved (Valid w n) (world_value 10000 [] [] []) v e (let a = r.objects in let b = r.codes in let c = r.tasks in
    record {
      some_events = omega arith;
      few_events = omega arith;
      few_objects = omega arith;
      few_codes = omega arith;
      few_tasks = omega arith;
      kinds = tt;
      codes_are =
          tt;
      tasks_are = tt;
    })
valid {w} {names} fit n seen (i ∷ is) v r h e =
    let a = put_ok (item_of names n i) (items_of names (counted n i.head) is) v e in
    let f = front fit n i.parts i.head a.0 r h.0 h.2 (puts names n i.line i.parts i.head a.0 a.2) in
    subst (Valid w n) a.4 (f.valid a.1 (valid fit (counted n i.head) (noted seen i.head) is a.1 f.room h.3 a.3))

-- labels are names, and stand apart

same_sym : (a b : List ℕ) → same_text a b ≡ false → same_text b a ≡ false
same_sym [] [] h = h
same_sym [] (y ∷ ys) h = refl
same_sym (x ∷ xs) [] h = refl
same_sym (x ∷ xs) (y ∷ ys) h = go (eqb x y) refl h (same_sym xs ys)
  where
    go : (b : Bool) → eqb x y ≡ b → (b && same_text xs ys) ≡ false → (same_text xs ys ≡ false → same_text ys xs ≡ false) → (eqb y x && same_text ys xs) ≡ false
    go true e k rest = and_false (eqb y x) (same_text ys xs) (rest k)
      where
        and_false : (a b : Bool) → b ≡ false → (a && b) ≡ false
        and_false true b h = h
        and_false false b h = refl
    go false e k rest = let other : eqb y x ≡ false = grind (arith, nat_tests) in rw other refl

-- a text that is none of these, put among them
apart_put : (xs ys : List (List ℕ)) (t : List ℕ) → are_apart (xs ++ ys) ≡ true → AllByRecursion (λ l. same_text l t ≡ false) (xs ++ ys) → are_apart (xs ++ t ∷ ys) ≡ true
apart_put [] ys t apart other = and_from _ _ (rw (none ys other) refl) apart
  where
    none : (ls : List (List ℕ)) → AllByRecursion (λ l. same_text l t ≡ false) ls → list_any (λ u. same_text u t) ls ≡ false
    none [] h = refl
    none (l ∷ ls) h = rw h.0 (none ls h.1)
apart_put (x ∷ xs) ys t apart other =
    let both = and_parts (not (list_any (λ u. same_text u x) (xs ++ ys))) (are_apart (xs ++ ys)) apart in
    and_from _ _ (rw (still xs (not-true _ both.0)) refl) (apart_put xs ys t both.1 other.1)
  where
    still : (ls : List (List ℕ)) → list_any (λ u. same_text u x) (ls ++ ys) ≡ false → list_any (λ u. same_text u x) (ls ++ t ∷ ys) ≡ false
    still [] h = rw (same_sym x t other.0) h
    still (l ∷ ls) h = go (same_text l x) h (still ls)
      where
        go : (b : Bool) → (b || list_any (λ u. same_text u x) (ls ++ ys)) ≡ false
            → (list_any (λ u. same_text u x) (ls ++ ys) ≡ false → list_any (λ u. same_text u x) (ls ++ t ∷ ys) ≡ false)
            → (b || list_any (λ u. same_text u x) (ls ++ t ∷ ys)) ≡ false
        go true k rest = absurd (false≢true (sym k))
        go false k rest = rest k

all_put : (P : List ℕ → Type 0) (xs ys : List (List ℕ)) (t : List ℕ) → AllByRecursion P (xs ++ ys) → P t → AllByRecursion P (xs ++ t ∷ ys)
all_put P [] ys t h k = (k, h)
all_put P (x ∷ xs) ys t h k = (h.0, all_put P xs ys t h.1 k)

-- these labels are names that stand apart from each other and from those that were seen
pub record Labelled (seen : List (List ℕ)) (ls : List (List ℕ)) : Type 0 where
  pub named : AllByRecursion (λ l. IsTrue (is_name l)) ls
  pub apart : are_apart ls ≡ true
  pub fresh : AllByRecursion (λ l. is_among seen l ≡ false) ls

pub fresh_parts : (seen : List (List ℕ)) (t : List ℕ) (ls : List (List ℕ)) → AllByRecursion (λ l. is_among (seen ++ t ∷ []) l ≡ false) ls
    → AllByRecursion (λ l. is_among seen l ≡ false) ls × AllByRecursion (λ l. same_text l t ≡ false) ls
fresh_parts seen t [] h = (tt, tt)
fresh_parts seen t (l ∷ ls) h =
    let rest = fresh_parts seen t ls h.1 in
    let here = split (is_among seen l) (same_text l t) (sym (list_any-append (same_text l) seen (t ∷ [])) ∙ h.0) in
    ((here.0, rest.0), (here.1, rest.1))
  where
    split : (a b : Bool) → (a || (b || false)) ≡ false → (a ≡ false) × (b ≡ false)
    split true b k = absurd (false≢true (sym k))
    split false true k = absurd (false≢true (sym k))
    split false false k = (refl, refl)

pub labelled_put : (seen : List (List ℕ)) (xs ys : List (List ℕ)) (t : List ℕ) → IsTrue (is_name t) → not (is_among seen t) ≡ true → Labelled (seen ++ t ∷ []) (xs ++ ys)
    → Labelled seen (xs ++ t ∷ ys)
labelled_put seen xs ys t name new l =
    let parts = fresh_parts seen t (xs ++ ys) l.fresh in
    record {
      named = all_put (λ u. IsTrue (is_name u)) xs ys t l.named name;
      apart = apart_put xs ys t l.apart parts.1;
      fresh = all_put (λ u. is_among seen u ≡ false) xs ys t parts.0 (not-true _ new);
    }

own_labels : WorldValue → List (List ℕ)
own_labels w = map (λ (b : Born). b.label) w.objects

code_labels : WorldValue → List (List ℕ)
code_labels w = map (λ (c : Code). c.label) w.codes

task_labels : WorldValue → List (List ℕ)
task_labels w = map (λ (t : Task). t.label) w.tasks

-- the label that an item puts in front of those of its kind
labelled_front : (names : Names) (n : Counts) (parts : List Part) (head : Head) (put : WorldValue → WorldValue) (seen : GivenNames) (u : WorldValue) → IsHead head
    → IsTrue (is_new seen head) → Puts names n parts head put → Labelled (noted seen head).names (labels u) → Labelled seen.names (labels (put u))
unfolding Puts own_labels code_labels task_labels
labelled_front names n parts (LimitIs limit) put seen u h new p l = subst (λ (f : WorldValue → WorldValue). Labelled seen.names (labels (f u))) (sym p) l
labelled_front names n parts (TypeIs name) put seen u h new p l =
    subst (λ (f : WorldValue → WorldValue). Labelled seen.names (labels (f u))) (sym p.1) (labelled_put seen.names [] (labels u) name h new l)
labelled_front names n parts (ObjectIs name of) put seen u h new p l =
    subst (λ (f : WorldValue → WorldValue). Labelled seen.names (labels (f u))) (sym p.4) (labelled_put seen.names [] (labels u) name h.0 new l)
labelled_front names n parts (SemaphoreIs name count) put seen u h new p l =
    subst (λ (f : WorldValue → WorldValue). Labelled seen.names (labels (f u))) (sym p.1) (labelled_put seen.names [] (labels u) name h.0 new l)
labelled_front names n parts (ProcedureIs name code) put seen u h new p l =
    subst (λ (f : WorldValue → WorldValue). Labelled seen.names (labels (f u))) (sym p.4) (labelled_put seen.names [] (labels u) name h.0 new l)
labelled_front names n parts (CodeIs name) put seen u h new p l =
    subst (λ (f : WorldValue → WorldValue). Labelled seen.names (labels (f u))) (sym p.3) (labelled_put seen.names (own_labels u) (code_labels u ++ task_labels u) name h new l)
labelled_front names n parts (ProcessIs name code) put seen u h new p l =
    let own = own_labels u in
    let coded = code_labels u in
    let tasked = task_labels u in
    let before : labels u ≡ (own ++ coded) ++ tasked = sym (append_assoc own coded tasked) in
    let put_in = labelled_put seen.names (own ++ coded) tasked name h.0 new (subst (Labelled (seen.names ++ name ∷ [])) before l) in
    let after : (own ++ coded) ++ name ∷ tasked ≡ own ++ (coded ++ name ∷ tasked) = append_assoc own coded (name ∷ tasked) in
    subst (λ (f : WorldValue → WorldValue). Labelled seen.names (labels (f u))) (sym p.4) (subst (Labelled seen.names) after put_in)

labelled : (names : Names) (n : Counts) (seen : GivenNames) (is : List Item) (v : WorldValue) → AreItems seen is → items_of names n is ≡ Ok v → Labelled seen.names (labels v)
labelled names n seen [] v h e = moved (λ (w : WorldValue). Labelled seen.names (labels w)) (world_value 10000 [] [] []) v e (record { named = tt; apart = refl; fresh = tt })
labelled names n seen (i ∷ is) v h e =
    let a = put_ok (item_of names n i) (items_of names (counted n i.head) is) v e in
    subst (λ (w : WorldValue). Labelled seen.names (labels w)) a.4 (labelled_front names n i.parts i.head a.0 seen a.1 h.0 h.1 (puts names n i.line i.parts i.head a.0 a.2)
    (labelled names (counted n i.head) (noted seen i.head) is a.1 h.3 a.3))

-- the names that the heads declare are those of the world that is loaded
names_fit : (is : List Item) (w : WorldValue) → Shape (map (λ (i : Item). i.head) is) w → NamesFit w (names_of (map (λ (i : Item). i.head) is))
names_fit is w s = record {
  objects = (let size : length w.objects ≡ length (filter_map object_label (map (λ (i : Item). i.head) is)) = rw length-map at (ap length s.objects) in omega arith);
  types = rw s.types refl;
  codes = (let size : length w.codes ≡ length (filter_map code_label (map (λ (i : Item). i.head) is)) = rw length-map at (ap length s.codes) in omega arith);
}

-- what is loaded from the items of a script is a world that can be run
pub loaded_world : (is : List Item) (w : WorldValue) → IsSyntax is → load is ≡ Ok w → IsWorld w
loaded_world is w h e =
    let names = names_of (map (λ (i : Item). i.head) is) in
    let fit = names_fit is w (shape names (counts 0 0 0) is w e) in
    let v = valid fit (counts 0 0 0) nothing_seen is w (record { objects = omega arith; codes = omega arith; tasks = omega arith }) h e in
    let l = labelled names (counts 0 0 0) nothing_seen is w h e in
    let few_objects = v.few_objects in
    let few_codes = v.few_codes in
    let few_tasks = v.few_tasks in
    record {
      some_events = v.some_events;
      few_events = v.few_events;
      few_objects = omega arith;
      few_codes = omega arith;
      few_tasks = omega arith;
      names = l.named;
      apart = l.apart;
      kinds = v.kinds;
      codes_are = v.codes_are;
      tasks_are = v.tasks_are;
    }
