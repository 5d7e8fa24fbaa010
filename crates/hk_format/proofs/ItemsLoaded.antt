-- The items that are loaded from a script are those of a world.
use Rattle.std.proofs.Common.{◌≡◌, ℕ, ◌+◌, ◌≤◌, Bool, true, false, cond, ltb, List, [], ◌∷◌, length, min, subst, arith, Ok, Option, Some, None}
use Rattle.std.specs.Prelude.{option_map}
use Rattle.std.specs.List.{AllByRecursion, find}
use Rattle.std.proofs.lemmas.Bool.{ltb-true}
use Rattle.hk_model.specs.declared.entries.Making.{Making}
use Rattle.hk_model.specs.declared.entries.Making.TheVariants as making
use Rattle.hk_model.specs.declared.instructions.Instr.{Instr}
use Rattle.hk_model.specs.declared.instructions.Instr.TheVariants as instr
use Rattle.hk_format.specs.declared.syntax.MakingText.{MakingText}
use Rattle.hk_format.specs.declared.syntax.MakingText.TheVariants as written_making
use Rattle.hk_format.specs.declared.syntax.Written.{Written}
use Rattle.hk_format.specs.declared.syntax.Written.TheVariants as written
use Rattle.hk_format.specs.declared.syntax.Head.TheVariants.{CodeIs}
use Rattle.hk_format.specs.declared.syntax.Body.{Body}
use Rattle.hk_format.specs.declared.syntax.Body.TheVariants.{WordsAre, EmptyEntry, CapEntry, AmplifyEntry, CreateEntry, ParamIs, LabelIs, StepIs}
use Rattle.hk_format.specs.declared.syntax.Part.{Part}
use Rattle.hk_format.specs.declared.causes.LoadCause.TheVariants.{UnknownName}
use Rattle.hk_model.specs.Labels.{same_text}
use Rattle.hk_model.specs.WorldValue.{IsMaking, IsInstr}
use Rattle.hk_format.specs.Syntax.{IsWritten, Belongs, AreParts}
use Rattle.hk_format.specs.Grammar.{noted_label}
use Rattle.hk_format.specs.Loading.{limited, front, rights_named, making_of, to_limit, target, Label, labels_from, label_onto, instr_of, instr_onto, instrs_of}
use Rattle.hk_model.specs.Refusing.{◌>>=◌}
use Rattle.hk_format.proofs.LoadGood.{bind_ok, onto_ok, found_ok, limited_ok, moved, rights_word}

-- the lines of a code

making_loaded : (t : MakingText) (m : Making) → making_of t ≡ Ok m → IsMaking m
making_loaded (written_making.Amplify check give) m h =
    let a = bind_ok (rights_named check) (λ c. rights_named give >>= (λ g. Ok (making.Amplify c g))) m h in
    let b = bind_ok (rights_named give) (λ g. Ok (making.Amplify a.0 g)) m a.2 in
    moved IsMaking (making.Amplify a.0 b.0) m b.2 (rights_word check a.0 a.1, rights_word give b.0 b.1)
making_loaded (written_making.Create give) m h =
    let a = bind_ok (rights_named give) (λ g. Ok (making.Create g)) m h in
    moved IsMaking (making.Create a.0) m a.2 (rights_word give a.0 a.1)

-- labels stand at places up to here
LabelsWithin : ℕ → List Label → Type 0
LabelsWithin len labels = AllByRecursion (λ (l : Label). l.place ≤ len) labels

target_within : (len : ℕ) (labels : List Label) (t : List ℕ) (n : ℕ) → LabelsWithin len labels → target labels t ≡ Ok n → n ≤ len
unfolding LabelsWithin
target_within len labels t n within h =
    go (find (λ (l : Label). same_text t l.text) labels) (among labels within) (found_ok (option_map (λ (l : Label). to_limit l.place)
    (find (λ (l : Label). same_text t l.text) labels)) UnknownName n h)
  where
    IsWithin : Option Label → Type 0
    IsWithin None = Unit {0}
    IsWithin (Some l) = l.place ≤ len

    among : (ls : List Label) → AllByRecursion (λ (l : Label). l.place ≤ len) ls → IsWithin (find (λ (l : Label). same_text t l.text) ls)
    among [] k = tt
    among (l ∷ ls) k = pick (same_text t l.text) (among ls k.1)
      where
        pick : (b : Bool) → IsWithin (find (λ (x : Label). same_text t x.text) ls) → IsWithin (cond b (Some l) (find (λ (x : Label). same_text t x.text) ls))
        pick true rest = k.0
        pick false rest = rest

    go : (o : Option Label) → IsWithin o → option_map (λ (l : Label). to_limit l.place) o ≡ Some n → n ≤ len
    go (Some l) k e = let same : min l.place 4096 ≡ n = cc in omega arith
    go None k e = absurd (let none : None ≡ Some n = e in cc)

instr_loaded : (len : ℕ) (labels : List Label) (step : Written) (i : Instr) → LabelsWithin len labels → IsWritten step → instr_of labels step ≡ Ok i → IsInstr len i
instr_loaded len labels (written.Restrict slot keep) i within h e =
    let a = bind_ok (rights_named keep) (λ r. Ok (instr.Restrict slot r)) i e in
    moved (IsInstr len) (instr.Restrict slot a.0) i a.2 (h.0, rights_word keep a.0 a.1)
instr_loaded len labels (written.MakeTemplate of text into) i within h e =
    let a = bind_ok (making_of text) (λ m. Ok (instr.MakeTemplate of m into)) i e in
    moved (IsInstr len) (instr.MakeTemplate of a.0 into) i a.2 (h.0, making_loaded text a.0 a.1, h.2)
instr_loaded len labels (written.Goto to) i within h e =
    let a = bind_ok (target labels to) (λ n. Ok (instr.Goto n)) i e in
    moved (IsInstr len) (instr.Goto a.0) i a.2 (target_within len labels to a.0 within a.1)
instr_loaded len labels (written.IfEq left right to) i within h e =
    let a = bind_ok (target labels to) (λ n. Ok (instr.IfEq left right n)) i e in
    moved (IsInstr len) (instr.IfEq left right a.0) i a.2 (h.0, h.1, target_within len labels to a.0 within a.1)
instr_loaded len labels (written.IfLess left right to) i within h e =
    let a = bind_ok (target labels to) (λ n. Ok (instr.IfLess left right n)) i e in
    moved (IsInstr len) (instr.IfLess left right a.0) i a.2 (h.0, h.1, target_within len labels to a.0 within a.1)
instr_loaded len labels (written.IfDenied to) i within h e =
    let a = bind_ok (target labels to) (λ n. Ok (instr.IfDenied n)) i e in
    moved (IsInstr len) (instr.IfDenied a.0) i a.2 (target_within len labels to a.0 within a.1)
instr_loaded len labels (written.Get of at reg) i within h e = moved (IsInstr len) (instr.Get of at reg) i e h
instr_loaded len labels (written.Put of at word) i within h e = moved (IsInstr len) (instr.Put of at word) i e h
instr_loaded len labels (written.Add of word) i within h e = moved (IsInstr len) (instr.Add of word) i e h
instr_loaded len labels (written.Length of reg) i within h e = moved (IsInstr len) (instr.Length of reg) i e h
instr_loaded len labels (written.Load from into) i within h e = moved (IsInstr len) (instr.Load from into) i e h
instr_loaded len labels (written.Store list at from) i within h e = moved (IsInstr len) (instr.Store list at from) i e h
instr_loaded len labels (written.Append list from) i within h e = moved (IsInstr len) (instr.Append list from) i e h
instr_loaded len labels (written.Erase list at) i within h e = moved (IsInstr len) (instr.Erase list at) i e h
instr_loaded len labels (written.Drop slot) i within h e = moved (IsInstr len) (instr.Drop slot) i e h
instr_loaded len labels (written.Look of reg) i within h e = moved (IsInstr len) (instr.Look of reg) i e h
instr_loaded len labels (written.Create by into) i within h e = moved (IsInstr len) (instr.Create by into) i e h
instr_loaded len labels (written.Merge with slot into) i within h e = moved (IsInstr len) (instr.Merge with slot into) i e h
instr_loaded len labels (written.Copy of into) i within h e = moved (IsInstr len) (instr.Copy of into) i e h
instr_loaded len labels (written.Enter proc args into) i within h e = moved (IsInstr len) (instr.Enter proc args into) i e h
instr_loaded len labels (written.Leave give) i within h e = moved (IsInstr len) (instr.Leave give) i e h
instr_loaded len labels (written.P of) i within h e = moved (IsInstr len) (instr.P of) i e h
instr_loaded len labels (written.V of) i within h e = moved (IsInstr len) (instr.V of) i e h
instr_loaded len labels written.Yield i within h e = moved (IsInstr len) instr.Yield i e h
instr_loaded len labels (written.SetReg reg to) i within h e = moved (IsInstr len) (instr.SetReg reg to) i e h
instr_loaded len labels (written.AddReg reg by) i within h e = moved (IsInstr len) (instr.AddReg reg by) i e h

-- the lines of a code are labels and instructions
CodeLines : List Part → Type 0
CodeLines [] = Unit {0}
CodeLines (p ∷ ps) = Belongs (CodeIs []) p.body × CodeLines ps

code_lines : (name : List ℕ) (seen : List (List ℕ)) (ps : List Part) → AreParts (CodeIs name) seen ps → CodeLines ps
unfolding CodeLines
code_lines name seen [] h = tt
code_lines name seen (p ∷ ps) h = (same p.body h.0, code_lines name (noted_label seen p.body) ps h.2)
  where
    same : (b : Body) → Belongs (CodeIs name) b → Belongs (CodeIs []) b
    same (LabelIs label) k = k
    same (StepIs step) k = k
    same (WordsAre words) k = absurd k
    same EmptyEntry k = absurd k
    same (CapEntry object rights) k = absurd k
    same (AmplifyEntry kind check give) k = absurd k
    same (CreateEntry of give) k = absurd k
    same (ParamIs kind check give) k = absurd k

-- the instructions are within the limit, each in its ranges, and no label stands behind their end
record StepsLoaded (len n : ℕ) (labels placed : List Label) (is : List Instr) : Type 0 where
  few : n + length is ≤ 4096
  places : LabelsWithin (n + length is) placed
  good : LabelsWithin len labels → AllByRecursion (IsInstr len) is

steps_loaded : (len n : ℕ) (labels : List Label) (ps : List Part) (is : List Instr) → n ≤ 4096 → CodeLines ps → instrs_of labels n ps ≡ Ok is
    → StepsLoaded len n labels (labels_from n ps) is
unfolding CodeLines LabelsWithin
steps_loaded len n labels [] is few h e =
    let same : [] ≡ is = cc in subst (λ (xs : List Instr). StepsLoaded len n labels [] xs) same (record { few = omega arith; places = tt; good = λ w. tt })
steps_loaded len n labels (p ∷ ps) is few h e = go p.body h.0 e (λ m js k f. steps_loaded len m labels ps js k h.1 f)
  where
    go : (b : Body) → Belongs (CodeIs []) b → instr_onto labels n p.line b (λ next. instrs_of labels next ps) ≡ Ok is
        → ((m : ℕ) (js : List Instr) → m ≤ 4096 → instrs_of labels m ps ≡ Ok js → StepsLoaded len m labels (labels_from m ps) js)
        → StepsLoaded len n labels (label_onto n b (λ next. labels_from next ps)) is
    go (LabelIs label) k f rest = let r = rest n is few f in let few_rest = r.few in record { few = r.few; places = (omega arith, r.places); good = r.good }
    go (StepIs step) k f rest =
        let a = onto_ok front p.line (limited (ltb n 4096) (instr_of labels step)) (instrs_of labels (n + 1) ps) is f in
        let b = limited_ok (ltb n 4096) (instr_of labels step) a.0 a.2 in
        let below = ltb-true n 4096 b.1 in
        let r = rest (n + 1) a.1 (omega arith) a.3 in
        let few_rest = r.few in
        let size : n + 1 + length a.1 ≡ n + length (a.0 ∷ a.1) = omega arith in
        subst (λ (xs : List Instr). StepsLoaded len n labels (labels_from (n + 1) ps) xs) a.4
        (record {
          few = omega arith;
          places = subst (λ (m : ℕ). LabelsWithin m (labels_from (n + 1) ps)) size r.places;
          good =
              λ w. (instr_loaded len labels step a.0 w k b.0, r.good w);
        })
    go (WordsAre words) k f rest = absurd k
    go EmptyEntry k f rest = absurd k
    go (CapEntry object rights) k f rest = absurd k
    go (AmplifyEntry kind check give) k f rest = absurd k
    go (CreateEntry of give) k f rest = absurd k
    go (ParamIs kind check give) k f rest = absurd k

-- the instructions of a code are those of a code of this length
pub code_loaded_whole : (name : List ℕ) (ps : List Part) (is : List Instr) → AreParts (CodeIs name) [] ps → instrs_of (labels_from 0 ps) 0 ps ≡ Ok is
    → (length is ≤ 4096) × AllByRecursion (IsInstr (length is)) is
code_loaded_whole name ps is h e =
    let r = steps_loaded (length is) 0 (labels_from 0 ps) ps is (omega arith) (code_lines name [] ps h) e in
    let few = r.few in
    let size : 0 + length is ≡ length is = omega arith in
    (omega arith, r.good (subst (λ (m : ℕ). LabelsWithin m (labels_from 0 ps)) size r.places))
