-- The indices of a path, read one after another. docs/FORMATS.md, "Pieces" and "Grammar".
use Rattle.std.specs.Prelude.{◌≡◌, ℕ, ◌==◌, true, false, List, [], ◌∷◌, ◌++◌, Result, Ok, Err, if◌then◌else◌}
use Rattle.std.specs.List.{list_all, list_any, slice_split}
use Rattle.hk_format.specs.declared.causes.ParseCause.{ParseCause}
use Rattle.hk_format.specs.declared.causes.ParseCause.TheVariants.{OutOfRange}
use Rattle.hk_model.specs.declared.instructions.Index.{Index}
use Rattle.hk_model.specs.declared.instructions.Route.{Route}
use Rattle.hk_model.specs.Limits.{index_bound}
use Rattle.hk_format.specs.Pieces.{is_index_text, is_too_large}
use Rattle.hk_format.specs.Forms.{is_index_below, route_of}

-- the texts between points
abbrev pub cut_points : List ℕ → List (List ℕ)
cut_points text = slice_split (λ b. b == 46) text

-- texts of indices, as the text pass takes them
pub record AreIndices (ts : List (List ℕ)) : Type 0 where
  pub indices : list_all is_index_text ts ≡ true
  pub small : list_any is_too_large ts ≡ false

-- the path of the indices that were read and of these, the first of which is to be below the bound
abbrev pub route_on : List Index → ℕ → List Index → Result Route ParseCause
route_on done bound [] = Ok (route_of done)
route_on done bound (i ∷ is) = if is_index_below bound i then route_on (done ++ i ∷ []) index_bound is else Err OutOfRange
