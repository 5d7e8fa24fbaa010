-- The labels and the instructions of a code, one line after another. docs/FORMATS.md, "Loading".
use Rattle.std.specs.Prelude.{ℕ, List, [], ◌∷◌, ◌++◌, length, IsTrue, Result, Ok, Err, nat_lt, map}
use Rattle.hk_format.specs.declared.causes.LoadCause.{LoadCause}
use Rattle.hk_model.specs.declared.instructions.Instr.{Instr}
use Rattle.hk_format.specs.declared.syntax.Body.{Body}
use Rattle.hk_format.specs.declared.syntax.Body.TheVariants.{StepIs}
use Rattle.hk_format.specs.declared.syntax.Part.{Part}
use Rattle.hk_model.specs.Limits.{code_limit}
use Rattle.hk_format.specs.Grammar.{is_new_label, noted_label}
use Rattle.hk_format.specs.Loading.{Label, Refused, limited, instr_of}
use Rattle.hk_model.specs.Refusing.{◌>>=◌}

-- a label, and the number of the instruction behind it
abbrev pub label_at : List ℕ → ℕ → Label
label_at text place = record { text = text; place = place }

-- labels by their texts and their numbers
abbrev pub labels_seen : List (List ℕ) → List ℕ → List Label
labels_seen [] places = []
labels_seen (t ∷ ts) [] = []
labels_seen (t ∷ ts) (place ∷ places) = label_at t place ∷ labels_seen ts places

-- the texts of labels
abbrev pub label_texts : List Label → List (List ℕ)
label_texts labels = map (λ (l : Label). l.text) labels

-- none of the labels that these lines give is one of those before it
abbrev pub HasNewLabels : List (List ℕ) → List Part → Type 0
HasNewLabels labels [] = Unit {0}
HasNewLabels labels (p ∷ ps) = IsTrue (is_new_label labels p.body) × HasNewLabels (noted_label labels p.body) ps

-- an instruction at the end, or the line's cause; a label is no instruction
abbrev pub step_added : List Label → List Instr → Body → Result (List Instr) LoadCause
step_added labels steps (StepIs step) = do
  i ← limited (nat_lt (length steps) code_limit) (instr_of labels step)
  Ok (steps ++ i ∷ [])
step_added labels steps _ = Ok steps

-- what earlier lines gave, before what later ones give
abbrev pub after_steps : List Instr → Result (List Instr) Refused → Result (List Instr) Refused
after_steps steps (Ok more) = Ok (steps ++ more)
after_steps steps (Err refused) = Err refused
