-- How much rows weigh: how many cells they have that are not empty, and how many rights in them.
use Rattle.std.specs.Prelude.{ℕ, ◌+◌, ◌*◌, Bool, true, false, List, [], ◌∷◌, length, Option, Some, None}
use Rattle.hk_rights.specs.Rights.{has, right_numbers}
use Rattle.hk_model.specs.WorldValue.{WorldValue}
use Rattle.hk_bound.specs.declared.forms.Form.{Form}
use Rattle.hk_bound.specs.Columns.{width_of}

abbrev pub bit : Bool → ℕ
bit true = 1
bit false = 0

abbrev pub count : (ℕ → Bool) → List ℕ → ℕ
count f [] = 0
count f (n ∷ ns) = bit (f n) + count f ns

abbrev pub cell_weight : Option ℕ → ℕ
cell_weight None = 0
cell_weight (Some rights) = 1 + count (has rights) right_numbers

abbrev pub row_weight : List (Option ℕ) → ℕ
row_weight [] = 0
row_weight (cell ∷ row) = cell_weight cell + row_weight row

abbrev pub rows_weight : List (List (Option ℕ)) → ℕ
rows_weight [] = 0
rows_weight (row ∷ rows) = row_weight row + rows_weight rows

-- no rows of a world weigh more
abbrev pub most_weight : WorldValue → List Form → ℕ
most_weight w forms = length w.tasks * (20 * width_of w forms)
