-- The labels and the instructions of a code, one line after another.
use Rattle.std.proofs.Common.{◌≡◌, ℕ, ◌+◌, ◌<◌, not, Bool, true, false, cond, ltb, List, [], ◌∷◌, ◌++◌, length, drop, get_or, refl, sym, ap, ◌∙◌, subst, arith}
use Rattle.std.proofs.Common.{suc, Option, Ok, Err, Result, Some}
use Rattle.std.specs.Prelude.{IsTrue, option_map}
use Rattle.std.specs.List.{find, position_from}
use Rattle.std.proofs.lemmas.Iterator.Adapters.{position_from-zero}
use Rattle.std.proofs.lemmas.List.{append-nil, at_drop_more, length-append, map-append}
use mathlib.Core.List.{append_assoc}
use Rattle.hk_format.specs.declared.causes.LoadCause.{LoadCause}
use Rattle.hk_format.specs.declared.causes.LoadCause.TheVariants.{UnknownName}
use Rattle.hk_model.specs.declared.instructions.Instr.{Instr}
use Rattle.hk_format.specs.declared.syntax.Body.{Body}
use Rattle.hk_format.specs.declared.syntax.Body.TheVariants.{WordsAre, EmptyEntry, CapEntry, AmplifyEntry, CreateEntry, ParamIs, LabelIs, StepIs}
use Rattle.hk_format.specs.declared.syntax.Part.{Part}
use Rattle.hk_model.specs.Labels.{same_text}
use Rattle.hk_format.specs.Grammar.{is_among, is_new_label, noted_label}
use Rattle.hk_format.specs.Loading.{Refused, Label, place, labels_from, label_onto, target, found, to_limit, limited, front, onto, instr_of, instr_onto, instrs_of, at_line}
use Rattle.hk_model.specs.Refusing.{◌>>=◌}
use Rattle.hk_load.specs.Jumping.{label_at, labels_seen, label_texts, HasNewLabels, step_added, after_steps}

-- labels

label_front : (labels : List Label) (l : Label) (rest : List Label) → labels ++ l ∷ rest ≡ (labels ++ l ∷ []) ++ rest
label_front labels l rest = sym (append_assoc labels (l ∷ []) rest)

-- their texts
texts_seen : (ts : List (List ℕ)) (places : List ℕ) → length ts ≡ length places → label_texts (labels_seen ts places) ≡ ts
texts_seen [] places e = refl
texts_seen (t ∷ ts) [] e = absurd (omega arith)
texts_seen (t ∷ ts) (p ∷ ps) e = ap (λ (l : List (List ℕ)). t ∷ l) (texts_seen ts ps (omega arith))

-- a new label is none of the others
pub label_apart : (ts : List (List ℕ)) (places : List ℕ) (labels : List Label) (t : List ℕ) → length ts ≡ length places → labels_seen ts places ≡ labels
    → is_among (label_texts labels) t ≡ false → is_among ts t ≡ false
label_apart ts places labels t same v h = rw (← v, texts_seen ts places same) at h

-- a label at the end
labels_more : (ts : List (List ℕ)) (places : List ℕ) (t : List ℕ) (place : ℕ) → length ts ≡ length places
    → labels_seen (ts ++ t ∷ []) (places ++ place ∷ []) ≡ labels_seen ts places ++ label_at t place ∷ []
labels_more [] [] t place e = refl
labels_more [] (p ∷ ps) t place e = absurd (omega arith)
labels_more (u ∷ us) [] t place e = absurd (omega arith)
labels_more (u ∷ us) (p ∷ ps) t place e = ap (λ (l : List Label). label_at u p ∷ l) (labels_more us ps t place (omega arith))

pub label_added : (ts new : List (List ℕ)) (places later : List ℕ) (labels : List Label) (t : List ℕ) (place : ℕ) → length ts ≡ length places → labels_seen ts places ≡ labels
    → new ≡ ts ++ t ∷ [] → later ≡ places ++ place ∷ [] → labels_seen new later ≡ labels ++ label_at t place ∷ []
label_added ts new places later labels t place same v e f = rw (e, f, labels_more ts places t place same, v) refl

-- a name that is put where it is not yet stands at the end
pub new_at_end : (ts new : List (List ℕ)) (t : List ℕ) (is : Bool) → is_among ts t ≡ false → is ≡ not (is_among ts t) → new ≡ cond is (ts ++ t ∷ []) ts → new ≡ ts ++ t ∷ []
new_at_end ts new t is absent found e = e ∙ ap (λ b. cond b (ts ++ t ∷ []) ts) (found ∙ ap not absent)

-- as many labels as places, once more
pub as_many : (ts new : List (List ℕ)) (places later : List ℕ) (t : List ℕ) (place : ℕ) → length ts ≡ length places → new ≡ ts ++ t ∷ [] → later ≡ places ++ place ∷ [] → length new ≡ length later
as_many ts new places later t place same e f =
    rw (e, f) (let a = length-append ts (t ∷ []) in let b = length-append places (place ∷ []) in omega (arith, a, b, same))

at_part : {A : Type 0} (f : List Part → A) (parts : List Part) (at : ℕ) (p : Part) → at < length parts → p ≡ get_or parts at p → f (drop at parts) ≡ f (p ∷ drop (at + 1) parts)
at_part f parts at p more e = at_drop_more f parts at p more ∙ ap (λ (x : Part). f (x ∷ drop (at + 1) parts)) (sym e)

-- the next line is a label
pub label_turn : (labels : List Label) (n : ℕ) (parts : List Part) (at : ℕ) (p : Part) (t : List ℕ) → at < length parts → p ≡ get_or parts at p → p.body ≡ LabelIs t
    → labels ++ labels_from n (drop at parts) ≡ (labels ++ label_at t n ∷ []) ++ labels_from n (drop (at + 1) parts)
label_turn labels n parts at p t more e b =
    at_part (λ ps. labels ++ labels_from n ps) parts at p more e
    ∙ ap (λ body. labels ++ label_onto n body (λ next. labels_from next (drop (at + 1) parts))) b
    ∙ label_front labels (label_at t n) (labels_from n (drop (at + 1) parts))

-- it is none
no_label : (n : ℕ) (body : Body) (rest : ℕ → List Label) → ((t : List ℕ) → body ≡ LabelIs t → ⊥) → label_onto n body rest ≡ rest (n + 1)
no_label n (LabelIs t) rest h = absurd (h t refl)
no_label n (WordsAre words) rest h = refl
no_label n EmptyEntry rest h = refl
no_label n (CapEntry object rights) rest h = refl
no_label n (AmplifyEntry kind check give) rest h = refl
no_label n (CreateEntry of give) rest h = refl
no_label n (ParamIs kind check give) rest h = refl
no_label n (StepIs step) rest h = refl

pub other_turn : (labels : List Label) (n : ℕ) (parts : List Part) (at : ℕ) (p : Part) → at < length parts → p ≡ get_or parts at p → ((t : List ℕ) → p.body ≡ LabelIs t → ⊥)
    → labels ++ labels_from n (drop at parts) ≡ labels ++ labels_from (n + 1) (drop (at + 1) parts)
other_turn labels n parts at p more e b =
    at_part (λ ps. labels ++ labels_from n ps) parts at p more e
    ∙ ap (λ (ls : List Label). labels ++ ls) (no_label n p.body (λ next. labels_from next (drop (at + 1) parts)) b)

new_parts : (labels : List (List ℕ)) (parts : List Part) (at : ℕ) (p : Part) → at < length parts → p ≡ get_or parts at p → HasNewLabels labels (drop at parts)
    → IsTrue (is_new_label labels p.body) × HasNewLabels (noted_label labels p.body) (drop (at + 1) parts)
new_parts labels parts at p more e h = subst (HasNewLabels labels) (at_part (λ ps. ps) parts at p more e) h

-- the label of the next line is new, and those behind it are too
pub label_new : (labels : List Label) (n : ℕ) (parts : List Part) (at : ℕ) (p : Part) (t : List ℕ) → at < length parts → p ≡ get_or parts at p → p.body ≡ LabelIs t
    → HasNewLabels (label_texts labels) (drop at parts) → (is_among (label_texts labels) t ≡ false) × HasNewLabels (label_texts (labels ++ label_at t n ∷ [])) (drop (at + 1) parts)
label_new labels n parts at p t more e b h =
    let new = subst (λ body. IsTrue (is_new_label (label_texts labels) body) × HasNewLabels (noted_label (label_texts labels) body) (drop (at + 1) parts)) b
    (new_parts (label_texts labels) parts at p more e h) in
    (not_true (is_among (label_texts labels) t) new.0, rw map-append new.1)
  where
    not_true : (b : Bool) → not b ≡ true → b ≡ false
    not_true true h = absurd (let e : false ≡ true = h in cc)
    not_true false h = refl

same_noted : (labels : List (List ℕ)) (body : Body) → ((t : List ℕ) → body ≡ LabelIs t → ⊥) → noted_label labels body ≡ labels
same_noted labels (LabelIs t) h = absurd (h t refl)
same_noted labels (WordsAre words) h = refl
same_noted labels EmptyEntry h = refl
same_noted labels (CapEntry object rights) h = refl
same_noted labels (AmplifyEntry kind check give) h = refl
same_noted labels (CreateEntry of give) h = refl
same_noted labels (ParamIs kind check give) h = refl
same_noted labels (StepIs step) h = refl

pub other_new : (labels : List (List ℕ)) (parts : List Part) (at : ℕ) (p : Part) → at < length parts → p ≡ get_or parts at p → ((t : List ℕ) → p.body ≡ LabelIs t → ⊥)
    → HasNewLabels labels (drop at parts) → HasNewLabels labels (drop (at + 1) parts)
other_new labels parts at p more e b h = rw (same_noted labels p.body b) at (new_parts labels parts at p more e h).1

-- where a jump goes

found_from : (d : ℕ) (t : List ℕ) (i : ℕ) (ts : List (List ℕ)) (places all : List ℕ) → length ts ≡ length places → ((k : ℕ) → k < length places → get_or places k d ≡ get_or all (i + k) d)
    → option_map (λ (l : Label). to_limit l.place) (find (λ (l : Label). same_text t l.text) (labels_seen ts places)) ≡ option_map (λ n. to_limit (get_or all n d)) (position_from (same_text t) i ts)
found_from d t i [] places all same at = refl
found_from d t i (u ∷ us) [] all same at = absurd (omega arith)
found_from d t i (u ∷ us) (p ∷ ps) all same at = by (same_text t u) (found_from d t (i + 1) us ps all (omega arith)
    (λ k low. at (suc k) (omega arith) ∙ ap (λ n. get_or all n d) (let one : i + suc k ≡ i + 1 + k = omega arith in one)))
  where
    by : (b : Bool) → option_map (λ (l : Label). to_limit l.place) (find (λ (l : Label). same_text t l.text) (labels_seen us ps))
        ≡ option_map (λ n. to_limit (get_or all n d)) (position_from (same_text t) (i + 1) us)
        → option_map (λ (l : Label). to_limit l.place) (cond b (Some (label_at u p)) (find (λ (l : Label). same_text t l.text) (labels_seen us ps)))
        ≡ option_map (λ n. to_limit (get_or all n d)) (cond b (Some i) (position_from (same_text t) (i + 1) us))
    by true later = ap (λ n. Some (to_limit n)) (at 0 (omega arith) ∙ ap (λ n. get_or all n d) (let one : i + 0 ≡ i = omega arith in one))
    by false later = later

-- to the label that was found, if one was
pub target_gives : (d : ℕ) (ts : List (List ℕ)) (places : List ℕ) (labels : List Label) (t key : List ℕ) (r : Option ℕ) → length ts ≡ length places → labels_seen ts places ≡ labels
    → key ≡ t → r ≡ place ts key → target labels t ≡ found (option_map (λ n. to_limit (get_or places n d)) r) UnknownName
target_gives d ts places labels t key r same v e h =
    rw (← v, ← e, h) (ap (λ o. found o UnknownName) (found_from d key 0 ts places places same (λ k low. ap (λ n. get_or places n d) (let one : k ≡ 0 + k = omega arith in one))
    ∙ ap (option_map (λ n. to_limit (get_or places n d))) (sym (position_from-zero (same_text key) ts))))

-- instructions

after_front : (steps : List Instr) (i : Instr) (line : ℕ) (rest : Result (List Instr) Refused)
    → after_steps steps (onto front line (Ok i) rest) ≡ after_steps (steps ++ i ∷ []) rest
after_front steps i line (Ok more) = ap (λ x. Ok x) (sym (append_assoc steps (i ∷ []) more))
after_front steps i line (Err e) = refl

instr_step : (steps : List Instr) (i : Result Instr LoadCause) (line : ℕ) (rest : ℕ → Result (List Instr) Refused)
    → after_steps steps (onto front line i (rest (length steps + 1))) ≡ (at_line line (i >>= (λ x. Ok (steps ++ x ∷ []))) >>= (λ s. after_steps s (rest (length s))))
instr_step steps (Ok i) line rest =
    after_front steps i line (rest (length steps + 1))
    ∙ ap (λ n. after_steps (steps ++ i ∷ []) (rest n)) (sym (length-append steps (i ∷ [])))
instr_step steps (Err cause) line rest = refl

step_onto : (labels : List Label) (steps : List Instr) (line : ℕ) (body : Body) (rest : ℕ → Result (List Instr) Refused)
    → after_steps steps (instr_onto labels (length steps) line body rest) ≡ (at_line line (step_added labels steps body) >>= (λ s. after_steps s (rest (length s))))
step_onto labels steps line (StepIs step) rest = instr_step steps (limited (ltb (length steps) 4096) (instr_of labels step)) line rest
step_onto labels steps line (LabelIs t) rest = refl
step_onto labels steps line (WordsAre words) rest = refl
step_onto labels steps line EmptyEntry rest = refl
step_onto labels steps line (CapEntry object rights) rest = refl
step_onto labels steps line (AmplifyEntry kind check give) rest = refl
step_onto labels steps line (CreateEntry of give) rest = refl
step_onto labels steps line (ParamIs kind check give) rest = refl

-- the next line, with those behind it
pub step_turn : (labels : List Label) (steps : List Instr) (p : Part) (parts : List Part)
    → after_steps steps (instrs_of labels (length steps) (p ∷ parts)) ≡ (at_line p.line (step_added labels steps p.body) >>=
    (λ s. after_steps s (instrs_of labels (length s) parts)))
step_turn labels steps p parts = step_onto labels steps p.line p.body (λ next. instrs_of labels next parts)

-- before the first line, and behind the last
pub no_step : (r : Result (List Instr) Refused) → after_steps [] r ≡ r
no_step (Ok more) = refl
no_step (Err refused) = refl

pub last_step : (labels : List Label) (steps : List Instr) → after_steps steps (instrs_of labels (length steps) []) ≡ Ok steps
last_step labels steps = ap (λ x. Ok x) (append-nil steps)
