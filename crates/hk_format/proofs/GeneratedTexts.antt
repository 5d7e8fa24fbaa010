-- The canonical script of the generated world of each count.
use Rattle.std.proofs.Common.{◌≡◌, ℕ, zero, suc, ◌+◌, List, [], ◌∷◌, ◌++◌, map, refl, sym, ap, ◌∙◌}
use Rattle.std.specs.Prelude.{codes}
use Rattle.std.specs.List.{flat_map}
use Rattle.std.specs.Fmt.{decimal, digits}
use mathlib.Core.List.{append_assoc}
use Rattle.hk_rights.specs.Rights.{right_table, right_numbers, name_of}
use Rattle.hk_model.specs.Generated.{generate, processes_from, task, main, main_slots}
use Rattle.hk_format.specs.Pieces.{Piece}
use Rattle.hk_format.specs.RightsTexts.{rights_text}
use Rattle.hk_format.specs.Names.{spoken}
use Rattle.hk_format.specs.Texts.{spell_lines}
use Rattle.hk_format.specs.Spelling.{item_lines}
use Rattle.hk_format.specs.Canonical.{canon, task_item}

-- the part that all of them have
abbrev pub generated_head : List ℕ
generated_head =
    codes "hydra 1\nlimit 1000000\nobject total DATA\nwords 0\nend\nsemaphore lock 1\nprocedure bump cbump\n"
    ++ codes "param DATA GETDATA+PUTDATA GETDATA+PUTDATA+MODIFY\nend\ncode cbump\ngetdata 0 0 r1\nadd r1 1\nputdata 0 0 r1\nend\n"
    ++ codes "code main\nlabel l0\np 2\ncall 0 1 3\nv 2\nadd r0 1\niflt r0 100 l0\nend\n"

-- a process, by the text of its number
abbrev pub generated_process : List ℕ → List ℕ
generated_process number = codes "process w" ++ (number ++ codes " main\ncap bump A0\ncap total GETDATA+PUTDATA+MODIFY\ncap lock MODIFY+A0+A1\nend\n")

-- so many processes, from number n on
abbrev pub generated_processes : ℕ → ℕ → List ℕ
generated_processes n zero = []
generated_processes n (suc k) = generated_process (decimal n) ++ generated_processes (n + 1) k

head_first : (k : ℕ) → canon (generate k) ≡ generated_head ++ spell_lines (flat_map item_lines (map (task_item (spoken (generate k))) (processes_from 0 k)))
unfolding digits right_table right_numbers name_of rights_text canon generate
head_first k = refl

-- a process among the items
process_first : (k : ℕ) (d : List ℕ) (more : List (List Piece))
    → spell_lines (item_lines (task_item (spoken (generate k)) (task (119 ∷ d) main main_slots)) ++ more) ≡ generated_process d ++ spell_lines more
unfolding right_table right_numbers name_of rights_text generate
process_first k d more =
    let caps : List ℕ = codes "cap bump A0\ncap total GETDATA+PUTDATA+MODIFY\ncap lock MODIFY+A0+A1\nend\n" in
    let one = append_assoc (d ++ codes " main") (codes "\n") (caps ++ spell_lines more) in
    let two = append_assoc d (codes " main") (codes "\n" ++ (caps ++ spell_lines more)) in
    let three = append_assoc d (codes " main\n" ++ caps) (spell_lines more) in
    ap (λ (t : List ℕ). codes "process w" ++ t) (one ∙ two ∙ sym three)

processes_text : (j n k : ℕ) → spell_lines (flat_map item_lines (map (task_item (spoken (generate j))) (processes_from n k))) ≡ generated_processes n k
processes_text j n zero = refl
processes_text j n (suc k) =
    process_first j (decimal n) (flat_map item_lines (map (task_item (spoken (generate j))) (processes_from (n + 1) k)))
    ∙ ap (λ (t : List ℕ). generated_process (decimal n) ++ t) (processes_text j (n + 1) k)

-- the canonical script of the generated world of k processes has the part for each number below k
pub generated_text : (k : ℕ) → canon (generate k) ≡ generated_head ++ generated_processes 0 k
generated_text k = head_first k ∙ ap (λ (t : List ℕ). generated_head ++ t) (processes_text k 0 k)
