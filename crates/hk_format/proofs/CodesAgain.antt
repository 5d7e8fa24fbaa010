-- The instructions of a code are loaded again from the lines that they are written as.
use Rattle.std.proofs.Common.{◌≡◌, ℕ, ◌+◌, ◌≤◌, ◌||◌, Bool, true, false, cond, List, [], ◌∷◌, ◌++◌, length, min, refl, sym, ap, arith, Ok, Some, ⊎_elim}
use Rattle.std.specs.List.{list_any, find, AllByRecursion}
use Rattle.std.specs.Fmt.{decimal}
use Rattle.std.proofs.lemmas.Fmt.{decimal_injective}
use Rattle.std.proofs.lemmas.Bool.{lt-ltb, eq-eqb, cases_eq}
use Rattle.hk_model.specs.declared.entries.Making.{Making}
use Rattle.hk_model.specs.declared.entries.Making.TheVariants as making
use Rattle.hk_model.specs.declared.instructions.Instr.{Instr}
use Rattle.hk_model.specs.declared.instructions.Instr.TheVariants as instr
use Rattle.hk_format.specs.declared.syntax.Body.TheVariants.{LabelIs, StepIs}
use Rattle.hk_model.specs.Labels.{same_text}
use Rattle.hk_model.specs.WorldValue.{IsInstr, IsMaking}
use Rattle.hk_format.specs.Canonical.{part, label_text, making_text, written_of, jumps_to, code_parts}
use Rattle.hk_format.specs.Syntax.{placed_parts}
use Rattle.hk_format.specs.Loading.{Label, labels_from, target, making_of, instr_of, instrs_of}
use Rattle.hk_format.proofs.LineAgain.{same_is}
use Rattle.hk_format.proofs.NamesAgain.{same_self, rights_found}

-- the label of this place
abbrev pub label_at : ℕ → Label
label_at n = record { text = label_text n; place = n }

-- different places have different labels
pub label_other : (m n : ℕ) → m ≤ 4096 → n ≤ 4096 → (m ≡ n → ⊥) → same_text (label_text m) (label_text n) ≡ false
label_other m n a b differ = go (same_text (decimal m) (decimal n)) refl
  where
    go : (same : Bool) → same_text (decimal m) (decimal n) ≡ same → same ≡ false
    go true e = absurd (differ (decimal_injective m n (omega arith) (omega arith) (same_is (decimal m) (decimal n) e)))
    go false e = refl

-- the labels from a place on give each place that a jump goes to
label_found : (all is : List Instr) (n line t : ℕ) → n ≤ t → t ≤ n + length is → n + length is ≤ 4096 → list_any (jumps_to t) all ≡ true
    → find (λ (l : Label). same_text (label_text t) l.text) (labels_from n (placed_parts line (code_parts all n is))) ≡ Some (label_at t)
label_found all [] n line t low high few used =
    let same : t ≡ n = omega arith in
    let here : list_any (jumps_to n) all ≡ true = rw same at used in
    let first : same_text (label_text t) (label_text n) ≡ true = rw same (same_self (label_text n)) in
    rw (here, first) (ap (λ (x : ℕ). Some (label_at x)) (sym same))
label_found all (i ∷ is) n line t low high few used =
    ⊎_elim equal (λ other. later (λ same. other (sym same)) (list_any (jumps_to n) all) (λ l. label_found all is (n + 1) l t (differs other) (omega arith) (omega arith) used))
    (cases_eq n t)
  where
    differs : (n ≡ t → ⊥) → n + 1 ≤ t
    differs other = grind arith

    equal : n ≡ t → find (λ (l : Label). same_text (label_text t) l.text) (labels_from n (placed_parts line (code_parts all n (i ∷ is)))) ≡ Some (label_at t)
    equal e =
        let here : list_any (jumps_to n) all ≡ true = rw e used in
        let first : same_text (label_text t) (label_text n) ≡ true = rw e (same_self (label_text t)) in
        rw (here, first) (ap (λ (x : ℕ). Some (label_at x)) e)

    later : (t ≡ n → ⊥) → (b : Bool)
        → ((l : ℕ) → find (λ (x : Label). same_text (label_text t) x.text) (labels_from (n + 1) (placed_parts l (code_parts all (n + 1) is))) ≡ Some (label_at t))
        → find (λ (x : Label). same_text (label_text t) x.text) (labels_from n (placed_parts line
        (cond b (part (LabelIs (label_text n)) ∷ []) [] ++ part (StepIs (written_of i)) ∷ code_parts all (n + 1) is))) ≡ Some (label_at t)
    later other true rest = rw (label_other t n (omega arith) (omega arith) other) (rest (line + 1 + 1))
    later other false rest = rest (line + 1)

-- what is known of the labels of a code
pub Finds : List Instr → List Label → Type 0
Finds all labels = (t : ℕ) → t ≤ length all → list_any (jumps_to t) all ≡ true → target labels (label_text t) ≡ Ok t

pub finds_all : (all : List Instr) (line : ℕ) → length all ≤ 4096 → Finds all (labels_from 0 (placed_parts line (code_parts all 0 all)))
unfolding Finds
finds_all all line few = λ t high used. let least : min t 4096 ≡ t = omega arith in rw (label_found all all 0 line t (omega arith) (omega arith) (omega arith) used, least)

making_again : (m : Making) → IsMaking m → making_of (making_text m) ≡ Ok m
making_again (making.Amplify check give) h = rw (rights_found check h.0, rights_found give h.1)
making_again (making.Create give) h = rw (rights_found give h)

instr_again : (all : List Instr) (labels : List Label) → Finds all labels → (i : Instr) → IsInstr (length all) i
    → ((t : ℕ) → jumps_to t i ≡ true → list_any (jumps_to t) all ≡ true) → instr_of labels (written_of i) ≡ Ok i
unfolding Finds
instr_again all labels finds (instr.Restrict slot keep) h used = rw (rights_found keep h.1)
instr_again all labels finds (instr.MakeTemplate of kind into) h used = rw (making_again kind h.1)
instr_again all labels finds (instr.Goto to) h used = rw (finds to h (used to (eq-eqb to to refl)))
instr_again all labels finds (instr.IfEq left right to) h used = rw (finds to h.2 (used to (eq-eqb to to refl)))
instr_again all labels finds (instr.IfLess left right to) h used = rw (finds to h.2 (used to (eq-eqb to to refl)))
instr_again all labels finds (instr.IfDenied to) h used = rw (finds to h (used to (eq-eqb to to refl)))
instr_again all labels finds _ h used = refl

-- each of these is one of all
pub Within : List Instr → List Instr → Type 0
Within all is = (t : ℕ) → list_any (jumps_to t) is ≡ true → list_any (jumps_to t) all ≡ true

pub within_all : (all : List Instr) → Within all all
unfolding Within
within_all all = λ t h. h

or_true : (b : Bool) → (b || true) ≡ true
or_true true = refl
or_true false = refl

pub instrs_again : (all : List Instr) (labels : List Label) → Finds all labels → (n line : ℕ) (is : List Instr) → Within all is → AllByRecursion (IsInstr (length all)) is
    → n + length is ≤ 4096 → instrs_of labels n (placed_parts line (code_parts all n is)) ≡ Ok is
unfolding Within
instrs_again all labels finds n line [] within h few = go (list_any (jumps_to n) all)
  where
    go : (b : Bool) → instrs_of labels n (placed_parts line (cond b (part (LabelIs (label_text n)) ∷ []) [])) ≡ Ok []
    go true = refl
    go false = refl
instrs_again all labels finds n line (i ∷ is) within h few =
    go (list_any (jumps_to n) all) (λ l. instrs_again all labels finds (n + 1) l is (λ t k. within t (rw k (or_true (jumps_to t i)))) h.1 (omega arith))
  where
    here : instr_of labels (written_of i) ≡ Ok i
    here = instr_again all labels finds i h.0 (λ t k. within t (rw k refl))

    go : (b : Bool) → ((l : ℕ) → instrs_of labels (n + 1) (placed_parts l (code_parts all (n + 1) is)) ≡ Ok is)
        → instrs_of labels n (placed_parts line (cond b (part (LabelIs (label_text n)) ∷ []) [] ++ part (StepIs (written_of i)) ∷ code_parts all (n + 1) is)) ≡ Ok (i ∷ is)
    go true rest = rw (here, lt-ltb n 4096 (omega arith), rest (line + 1 + 1))
    go false rest = rw (here, lt-ltb n 4096 (omega arith), rest (line + 1))
