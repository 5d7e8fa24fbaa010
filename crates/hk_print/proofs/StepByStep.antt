-- The instructions of a code, written one by one.
use Rattle.std.proofs.Common.{◌≡◌, ℕ, zero, suc, ◌+◌, ◌<◌, arith, Bool, true, false, cond, List, [], ◌∷◌, ◌++◌, length, drop, get_or, refl, sym, ap, ◌∙◌}
use Rattle.std.specs.List.{list_any}
use Rattle.std.proofs.lemmas.List.{drop_more}
use mathlib.Core.List.{append_assoc, append-nil}
use Rattle.hk_model.specs.declared.instructions.Instr.{Instr}
use Rattle.hk_format.specs.declared.syntax.Body.TheVariants.{LabelIs, StepIs}
use Rattle.hk_format.specs.Canonical.{code_parts, jumps_to, label_parts, label_text, part, written_of}
use Rattle.hk_print.specs.ItemTexts.{body_text, parts_text}
use Rattle.hk_print.proofs.Items.{parts_joined}

-- the line of a label, where it stands
pub label_spelled : (all : List Instr) (n : ℕ) → parts_text (label_parts all n) ≡ cond (list_any (jumps_to n) all) (body_text (LabelIs (label_text n))) []
label_spelled all n = go (list_any (jumps_to n) all)
  where
    go : (b : Bool) → parts_text (cond b (part (LabelIs (label_text n)) ∷ []) []) ≡ cond b (body_text (LabelIs (label_text n))) []
    go true = append-nil (body_text (LabelIs (label_text n)))
    go false = refl

-- what is read of a place is its mark
pub mark_found : (marks : List Bool) (n : ℕ) (mark : Bool) → n < length marks → mark ≡ get_or marks n mark → mark ≡ get_or marks n false
mark_found [] n mark inside e = absurd (omega arith)
mark_found (m ∷ ms) zero mark inside e = e
mark_found (m ∷ ms) (suc n) mark inside e = mark_found ms n mark (omega arith) e

-- a marked place has its label's line
pub label_written : (all : List Instr) (n : ℕ) (mark : Bool) (old new : List ℕ) → mark ≡ list_any (jumps_to n) all → new ≡ old ++ cond mark (body_text (LabelIs (label_text n))) []
    → new ≡ old ++ parts_text (label_parts all n)
label_written all n mark old new e written = written ∙ ap (λ (t : List ℕ). old ++ t) (rw e (sym (label_spelled all n)))

-- the label and the line of an instruction are what the lines from it on begin with
pub step_written : (all : List Instr) (i : ℕ) (d : Instr) (whole out labelled new : List ℕ) → i < length all → out ++ parts_text (code_parts all i (drop i all)) ≡ whole
    → labelled ≡ out ++ parts_text (label_parts all i) → new ≡ labelled ++ body_text (StepIs (written_of (get_or all i d)))
    → new ++ parts_text (code_parts all (i + 1) (drop (i + 1) all)) ≡ whole
step_written all i d whole out labelled new inside before l n =
    let cut = drop_more all i d inside in
    let line = body_text (StepIs (written_of (get_or all i d))) in
    let label = parts_text (label_parts all i) in
    let rest = parts_text (code_parts all (i + 1) (drop (i + 1) all)) in
    let split : parts_text (code_parts all i (drop i all)) ≡ label ++ (line ++ rest) = rw cut
    (parts_joined (label_parts all i) (part (StepIs (written_of (get_or all i d))) ∷ code_parts all (i + 1) (drop (i + 1) all))) in
    rw (n, l) (append_assoc (out ++ label) line rest ∙ append_assoc out label (line ++ rest)) ∙ (ap (λ (t : List ℕ). out ++ t) (sym split) ∙ before)

drop_all : (all : List Instr) → drop (length all) all ≡ []
drop_all [] = refl
drop_all (i ∷ is) = drop_all is

-- behind the last instruction stands the label of the code's end
pub steps_over : (all : List Instr) (i : ℕ) (whole out new : List ℕ) → i ≡ length all → out ++ parts_text (code_parts all i (drop i all)) ≡ whole
    → new ≡ out ++ parts_text (label_parts all (length all)) → new ≡ whole
steps_over all i whole out new e before n =
    let last : drop i all ≡ [] = rw e (drop_all all) in
    n ∙ (let done = rw last at before in rw e at done)
