-- What the names that heads give stand for, one head after another.
use Rattle.std.proofs.Common.{◌≡◌, ℕ, ◌+◌, ◌<◌, ◌≤◌, true, false, List, [], ◌∷◌, ◌++◌, length, map, drop, get_or, refl, sym, ap, ◌∙◌, arith}
use Rattle.std.specs.Prelude.{IsTrue}
use Rattle.std.specs.List.{filter_map}
use Rattle.std.proofs.lemmas.List.{at_drop_more, at_drop_all, append-nil}
use mathlib.Core.List.{append_assoc}
use Rattle.hk_format.specs.declared.syntax.Head.{Head}
use Rattle.hk_format.specs.declared.syntax.Head.TheVariants.{LimitIs, TypeIs, ObjectIs, SemaphoreIs, ProcedureIs, CodeIs, ProcessIs}
use Rattle.hk_format.specs.declared.syntax.Item.{Item}
use Rattle.hk_format.specs.Names.{kernel_names, kernel_flags}
use Rattle.hk_format.specs.Grammar.{GivenNames, nothing_seen, is_new, noted}
use Rattle.hk_format.specs.Syntax.{AreItems, IsHead, IsSyntax}
use Rattle.hk_format.specs.Loading.{names_of, object_label, is_type_head, code_label}
use Rattle.hk_format.proofs.WorldValid.{Labelled, labelled_put}
use Rattle.hk_script.specs.Given.{name_given, names_given}
use Rattle.hk_load.specs.declared.meanings.Meaning.{Meaning}
use Rattle.hk_load.specs.Meanings.{names, meaning_given, object_after, code_after, those_of, meanings_from, objects_among, type_flag, codes_among, names_meant, AreNumbered, AreMeant}

-- no name is given twice

name_front : (seen : GivenNames) (head : Head) (heads : List Head) → IsHead head → IsTrue (is_new seen head) → Labelled (noted seen head).names (filter_map name_given heads)
    → Labelled seen.names (filter_map name_given (head ∷ heads))
name_front seen (LimitIs n) heads h new l = l
name_front seen (TypeIs name) heads h new l = labelled_put seen.names [] (filter_map name_given heads) name h new l
name_front seen (ObjectIs name of) heads h new l = labelled_put seen.names [] (filter_map name_given heads) name h.0 new l
name_front seen (SemaphoreIs name count) heads h new l = labelled_put seen.names [] (filter_map name_given heads) name h.0 new l
name_front seen (ProcedureIs name code) heads h new l = labelled_put seen.names [] (filter_map name_given heads) name h.0 new l
name_front seen (CodeIs name) heads h new l = labelled_put seen.names [] (filter_map name_given heads) name h new l
name_front seen (ProcessIs name code) heads h new l = labelled_put seen.names [] (filter_map name_given heads) name h.0 new l

given_labelled : (seen : GivenNames) (is : List Item) → AreItems seen is → Labelled seen.names (names_given is)
given_labelled seen [] h = record { named = tt; apart = refl; fresh = tt }
given_labelled seen (i ∷ is) h = name_front seen i.head (map (λ (j : Item). j.head) is) h.0 h.1 (given_labelled (noted seen i.head) is h.3)

-- the meanings fit the names, and give the names that the heads declare

numbered : (o c : ℕ) (hs : List Head) → AreNumbered o c (filter_map name_given hs) (meanings_from o c hs)
numbered o c [] = tt
numbered o c (LimitIs limit ∷ hs) = numbered o c hs
numbered o c (TypeIs name ∷ hs) = (refl, numbered (o + 1) c hs)
numbered o c (ObjectIs name of ∷ hs) = (refl, numbered (o + 1) c hs)
numbered o c (SemaphoreIs name count ∷ hs) = (refl, numbered (o + 1) c hs)
numbered o c (ProcedureIs name code ∷ hs) = (refl, numbered (o + 1) c hs)
numbered o c (CodeIs name ∷ hs) = (refl, numbered o (c + 1) hs)
numbered o c (ProcessIs name code ∷ hs) = (tt, numbered o c hs)

objects_meant : (o c : ℕ) (hs : List Head) → objects_among (filter_map name_given hs) (meanings_from o c hs) ≡ filter_map object_label hs
objects_meant o c [] = refl
objects_meant o c (LimitIs limit ∷ hs) = objects_meant o c hs
objects_meant o c (TypeIs name ∷ hs) = ap (λ (ts : List (List ℕ)). name ∷ ts) (objects_meant (o + 1) c hs)
objects_meant o c (ObjectIs name of ∷ hs) = ap (λ (ts : List (List ℕ)). name ∷ ts) (objects_meant (o + 1) c hs)
objects_meant o c (SemaphoreIs name count ∷ hs) = ap (λ (ts : List (List ℕ)). name ∷ ts) (objects_meant (o + 1) c hs)
objects_meant o c (ProcedureIs name code ∷ hs) = ap (λ (ts : List (List ℕ)). name ∷ ts) (objects_meant (o + 1) c hs)
objects_meant o c (CodeIs name ∷ hs) = objects_meant o (c + 1) hs
objects_meant o c (ProcessIs name code ∷ hs) = objects_meant o c hs

types_meant : (o c : ℕ) (hs : List Head) → filter_map type_flag (meanings_from o c hs) ≡ filter_map is_type_head hs
types_meant o c [] = refl
types_meant o c (LimitIs limit ∷ hs) = types_meant o c hs
types_meant o c (TypeIs name ∷ hs) = ap (λ flags. true ∷ flags) (types_meant (o + 1) c hs)
types_meant o c (ObjectIs name of ∷ hs) = ap (λ flags. false ∷ flags) (types_meant (o + 1) c hs)
types_meant o c (SemaphoreIs name count ∷ hs) = ap (λ flags. false ∷ flags) (types_meant (o + 1) c hs)
types_meant o c (ProcedureIs name code ∷ hs) = ap (λ flags. false ∷ flags) (types_meant (o + 1) c hs)
types_meant o c (CodeIs name ∷ hs) = types_meant o (c + 1) hs
types_meant o c (ProcessIs name code ∷ hs) = types_meant o c hs

codes_meant : (o c : ℕ) (hs : List Head) → codes_among (filter_map name_given hs) (meanings_from o c hs) ≡ filter_map code_label hs
codes_meant o c [] = refl
codes_meant o c (LimitIs limit ∷ hs) = codes_meant o c hs
codes_meant o c (TypeIs name ∷ hs) = codes_meant (o + 1) c hs
codes_meant o c (ObjectIs name of ∷ hs) = codes_meant (o + 1) c hs
codes_meant o c (SemaphoreIs name count ∷ hs) = codes_meant (o + 1) c hs
codes_meant o c (ProcedureIs name code ∷ hs) = codes_meant (o + 1) c hs
codes_meant o c (CodeIs name ∷ hs) = ap (λ (ts : List (List ℕ)). name ∷ ts) (codes_meant o (c + 1) hs)
codes_meant o c (ProcessIs name code ∷ hs) = codes_meant o c hs

-- the names of a script, by what they stand for
pub heads_meant : (items : List Item) (ts : List (List ℕ)) (ms : List Meaning) → IsSyntax items → ts ≡ names_given items
    → ms ≡ meanings_from 7 0 (map (λ (i : Item). i.head) items) → AreMeant ts ms
heads_meant items ts ms h e f = rw (e, f) (record {
  apart = (given_labelled nothing_seen items h).apart;
  numbered = numbered 7 0 (map (λ (i : Item). i.head) items);
})

pub heads_names : (items : List Item) (ts : List (List ℕ)) (ms : List Meaning) → ts ≡ names_given items → ms ≡ meanings_from 7 0 (map (λ (i : Item). i.head) items)
    → names_meant ts ms ≡ names_of (map (λ (i : Item). i.head) items)
heads_names items ts ms e f =
    let heads = map (λ (i : Item). i.head) items in
    ap (λ (us : List (List ℕ)). names_meant us ms) e
    ∙ ap (names_meant (names_given items)) f
    ∙ ap (λ (os : List (List ℕ)). names (kernel_names ++ os) (kernel_flags ++ filter_map type_flag (meanings_from 7 0 heads)) (codes_among (names_given items) (meanings_from 7 0 heads)))
    (objects_meant 7 0 heads)
    ∙ ap (λ flags. names (kernel_names ++ filter_map object_label heads) (kernel_flags ++ flags) (codes_among (names_given items) (meanings_from 7 0 heads))) (types_meant 7 0 heads)
    ∙ ap (λ (cs : List (List ℕ)). names (kernel_names ++ filter_map object_label heads) (kernel_flags ++ filter_map is_type_head heads) cs) (codes_meant 7 0 heads)

-- the next head, with those behind it
pub meaning_turn : (o c : ℕ) (ms : List Meaning) (items : List Item) (at : ℕ) (item : Item) (whole : List Meaning) → at < length items → item ≡ get_or items at item
    → ms ++ meanings_from o c (map (λ (i : Item). i.head) (drop at items)) ≡ whole
    → (ms ++ those_of (meaning_given o c item.head)) ++ meanings_from (object_after o item.head) (code_after c item.head) (map (λ (i : Item). i.head) (drop (at + 1) items)) ≡ whole
meaning_turn o c ms items at item whole more e h =
    let rest = map (λ (i : Item). i.head) (drop (at + 1) items) in
    append_assoc ms (those_of (meaning_given o c item.head)) (meanings_from (object_after o item.head) (code_after c item.head) rest)
    ∙ ap (λ (x : Item). ms ++ meanings_from o c (x.head ∷ rest)) e
    ∙ sym (at_drop_more (λ is. ms ++ meanings_from o c (map (λ (i : Item). i.head) is)) items at item more)
    ∙ h

-- no head is left
pub no_head : (o c : ℕ) (ms : List Meaning) (items : List Item) (at : ℕ) (whole : List Meaning) → length items ≤ at
    → ms ++ meanings_from o c (map (λ (i : Item). i.head) (drop at items)) ≡ whole → ms ≡ whole
no_head o c ms items at whole low h = sym (append-nil ms) ∙ sym (at_drop_all (λ is. ms ++ meanings_from o c (map (λ (i : Item). i.head) is)) items at low) ∙ h

-- the next numbers
pub next_object : (o : ℕ) (h : Head) → object_after o h ≤ o + 1
next_object o (LimitIs limit) = omega arith
next_object o (TypeIs name) = omega arith
next_object o (ObjectIs name of) = omega arith
next_object o (SemaphoreIs name count) = omega arith
next_object o (ProcedureIs name code) = omega arith
next_object o (CodeIs name) = omega arith
next_object o (ProcessIs name code) = omega arith

pub next_code : (c : ℕ) (h : Head) → code_after c h ≤ c + 1
next_code c (LimitIs limit) = omega arith
next_code c (TypeIs name) = omega arith
next_code c (ObjectIs name of) = omega arith
next_code c (SemaphoreIs name count) = omega arith
next_code c (ProcedureIs name code) = omega arith
next_code c (CodeIs name) = omega arith
next_code c (ProcessIs name code) = omega arith
