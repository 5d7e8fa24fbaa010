-- The indices of a path, read one after another.
use Rattle.std.proofs.Common.{◌≡◌, ℕ, ◌+◌, ◌-◌, ◌<◌, Bool, true, false, cond, eqb, ltb, take, drop, arith, not, List, [], ◌∷◌, ◌++◌, ◌&&◌, length, refl, ◌∙◌, map, Ok, Err, Result}
use Rattle.std.specs.List.{list_all, list_any, position_or_len}
use Rattle.std.proofs.lemmas.Bool.{and_parts, lt-ltb}
use Rattle.std.proofs.lemmas.Bool.Decides.{nat_tests}
use Rattle.hk_text.proofs.Turns.{cut_turn}
use Rattle.std.proofs.lemmas.List.{take_all, drop-drop, length-drop}
use Rattle.hk_format.specs.declared.causes.TextCause.TheVariants.{BadToken, NumberTooLarge}
use Rattle.hk_model.specs.Labels.{between}
use Rattle.hk_script.specs.Lines.{index_in}
use Rattle.hk_script.specs.Paths.{AreIndices, cut_points, route_on}
use Rattle.hk_format.specs.Outcomes.{Fails, Gives}
use Rattle.hk_format.specs.declared.errors.LineError.{LineError}
use Rattle.hk_format.specs.declared.errors.LineError.TheVariants as line_error
use mathlib.Core.List.{append_assoc, append-nil}
use Rattle.hk_format.specs.declared.causes.ParseCause.{ParseCause}
use Rattle.hk_format.specs.declared.causes.ParseCause.TheVariants.{OutOfRange}
use Rattle.hk_model.specs.declared.instructions.Index.{Index}
use Rattle.hk_model.specs.declared.instructions.Route.{Route}
use Rattle.hk_model.specs.Limits.{slot_limit, index_bound}
use Rattle.hk_format.specs.Pieces.{Piece, Path, index_of, pointed_of, is_path, is_index_text, is_too_large}
use Rattle.hk_format.specs.Forms.{as_route, is_index_below, route_of}

route_rest : (done is : List Index) → route_on done index_bound is ≡ cond (list_all (is_index_below index_bound) is) (Ok (route_of (done ++ is))) (Err OutOfRange)
route_rest done [] = rw append-nil
route_rest done (i ∷ is) = go (is_index_below index_bound i) (route_rest (done ++ i ∷ []) is)
  where
    go : (b : Bool) → route_on (done ++ i ∷ []) index_bound is ≡ cond (list_all (is_index_below index_bound) is) (Ok (route_of ((done ++ i ∷ []) ++ is))) (Err OutOfRange)
        → cond b (route_on (done ++ i ∷ []) index_bound is) (Err OutOfRange) ≡ cond (b && list_all (is_index_below index_bound) is) (Ok (route_of (done ++ i ∷ is)))
        (Err OutOfRange)
    go true h = rw append_assoc at h
    go false h = refl

-- all indices of a path
pub route_whole : (is : List Index) (i : Index) → route_on [] slot_limit (i ∷ is) ≡ as_route (Path (i ∷ is))
route_whole is i = go (is_index_below slot_limit i) (route_rest (i ∷ []) is)
  where
    go : (b : Bool) → route_on (i ∷ []) index_bound is ≡ cond (list_all (is_index_below index_bound) is) (Ok (route_of (i ∷ is))) (Err OutOfRange)
        → cond b (route_on (i ∷ []) index_bound is) (Err OutOfRange) ≡ cond (b && list_all (is_index_below index_bound) is) (Ok (route_of (i ∷ is))) (Err OutOfRange)
    go true h = h
    go false h = refl

pub first_index : (t : List ℕ) (ts : List (List ℕ)) → AreIndices (t ∷ ts) → (is_index_text t ≡ true) × (is_too_large t ≡ false)
first_index t ts h =
    let parts = and_parts (is_index_text t) (list_all is_index_text ts) h.indices in
    let small = h.small in
    (parts.0, grind arith)

pub other_indices : (t : List ℕ) (ts : List (List ℕ)) → AreIndices (t ∷ ts) → AreIndices ts
other_indices t ts h =
    let parts = and_parts (is_index_text t) (list_all is_index_text ts) h.indices in
    let small = h.small in
    record { indices = parts.1; small = grind arith }

-- what a path was read from
pub indices_of : (ts : List (List ℕ)) (path : Piece) → pointed_of ts ≡ Ok path → AreIndices ts
indices_of ts path h = go (is_path ts) (list_any is_too_large ts) refl refl h
  where
    go : (path_good large : Bool) → is_path ts ≡ path_good → list_any is_too_large ts ≡ large
        → cond (not path_good) (Err BadToken) (cond large (Err NumberTooLarge) (Ok (Path (map index_of ts)))) ≡ Ok path → AreIndices ts
    go false large e f h = cc
    go true true e f h = cc
    go true false e f h = record { indices = (and_parts (between 2 8 (length ts)) (list_all is_index_text ts) e).1; small = f }

-- the last text
pub cut_last : (text : List ℕ) (len : ℕ) → len ≡ position_or_len (λ b. eqb b 46) text → len ≡ length text → cut_points text ≡ take len text ∷ []
cut_last text len place last =
    let none : ltb len (length text) ≡ false = grind (arith, nat_tests) in
    cut_turn (λ b. eqb b 46) text ∙ rw (← place, none)

-- a text before others
pub cut_more : (text : List ℕ) (len : ℕ) → len ≡ position_or_len (λ b. eqb b 46) text → len < length text → cut_points text ≡ take len text ∷ cut_points (drop (len + 1) text)
cut_more text len place more =
    let some : ltb len (length text) ≡ true = lt-ltb _ _ more in
    cut_turn (λ b. eqb b 46) text ∙ rw (← place, some)

-- all texts of a path
pub route_cut : (text : List ℕ) → route_on [] slot_limit (map index_of (cut_points text)) ≡ as_route (Path (map index_of (cut_points text)))
route_cut text =
    rw (cut_turn (λ b. eqb b 46) text) (route_whole (map index_of (cond (ltb (position_or_len (λ b. eqb b 46) text) (length text))
    (cut_points (drop (position_or_len (λ b. eqb b 46) text + 1) text)) [])) (index_of (take (position_or_len (λ b. eqb b 46) text) text)))

-- an index in its range, before others
pub route_turn : (done : List Index) (bound : ℕ) (i j : Index) (is : List Index) → index_in bound i ≡ Ok j → route_on done bound (i ∷ is) ≡ route_on (done ++ j ∷ []) index_bound is
route_turn done bound i j is h = go (is_index_below bound i) h
  where
    go : (b : Bool) → cond b (Ok i) (Err OutOfRange) ≡ Ok j → cond b (route_on (done ++ i ∷ []) index_bound is) (Err OutOfRange) ≡ route_on (done ++ j ∷ []) index_bound is
    go true h = let same : i ≡ j = cc in rw same
    go false h = cc

-- an index outside its range
pub route_refused : (done : List Index) (bound : ℕ) (i : Index) (is : List Index) (cause : ParseCause) → index_in bound i ≡ Err cause → route_on done bound (i ∷ is) ≡ Err cause
route_refused done bound i is cause h = go (is_index_below bound i) h
  where
    go : (b : Bool) → cond {A = Result Index ParseCause} b (Ok i) (Err OutOfRange) ≡ Err cause → cond b (route_on (done ++ i ∷ []) index_bound is) (Err OutOfRange) ≡ Err cause
    go true h = cc
    go false h = let same : cause ≡ OutOfRange = cc in rw same

-- the same for an answer
pub route_fails : (done : List Index) (bound : ℕ) (i : Index) (is : List Index) (e : (LineError ParseCause)) → Fails e (index_in bound i) → Fails e (route_on done bound (i ∷ is))
route_fails done bound i is (line_error.Bad cause) h = route_refused done bound i is cause h
route_fails done bound i is line_error.NoMemory h = tt

-- the first text of a path
pub first_cut : (text : List ℕ) (len : ℕ) → len ≡ position_or_len (λ b. eqb b 46) text → AreIndices (cut_points text)
    → (is_index_text (take len text) ≡ true) × (is_too_large (take len text) ≡ false)
first_cut text len place h = first_index (take len text) (cond (ltb len (length text)) (cut_points (drop (len + 1) text)) []) (rw (cut_turn (λ b. eqb b 46) text, ← place) at h)

-- what stands behind the first point
pub others_after : (text : List ℕ) (len : ℕ) → len < length text
    → take (length (take (length text - len) (drop len text)) - 1) (drop 1 (take (length text - len) (drop len text))) ≡ drop (len + 1) text
others_after text len more =
    let size = length-drop len text in
    let size-1 = length-drop 1 (drop len text) in
    let whole : take (length text - len) (drop len text) ≡ drop len text = take_all (length text - len) (drop len text) (omega arith) in
    let others : take (length (drop len text) - 1) (drop 1 (drop len text)) ≡ drop 1 (drop len text) =
    take_all (length (drop len text) - 1) (drop 1 (drop len text)) (omega arith) in
    rw (whole, others) (drop-drop 1 len text)

-- the texts behind the first point
pub others_cut : (text : List ℕ) (len : ℕ) → len ≡ position_or_len (λ b. eqb b 46) text → len < length text → AreIndices (cut_points text)
    → AreIndices (cut_points (drop (len + 1) text))
others_cut text len place more h = other_indices (take len text) (cut_points (drop (len + 1) text)) (rw (cut_more text len place more) at h)

-- the last index of a path
pub route_last : (text : List ℕ) (done : List Index) (bound len : ℕ) (j : Index) → len ≡ position_or_len (λ b. eqb b 46) text → len ≡ length text
    → index_in bound (index_of (take len text)) ≡ Ok j → route_on done bound (map index_of (cut_points text)) ≡ Ok (route_of (done ++ j ∷ []))
route_last text done bound len j place last h = rw (cut_last text len place last) (route_turn done bound (index_of (take len text)) j [] h)

-- an index before others
pub route_later : (text : List ℕ) (done : List Index) (bound len : ℕ) (j : Index) → len ≡ position_or_len (λ b. eqb b 46) text → len < length text
    → index_in bound (index_of (take len text)) ≡ Ok j
    → route_on done bound (map index_of (cut_points text)) ≡ route_on (done ++ j ∷ []) index_bound (map index_of (cut_points (drop (len + 1) text)))
route_later text done bound len j place more h =
    rw (cut_more text len place more) (route_turn done bound (index_of (take len text)) j (map index_of (cut_points (drop (len + 1) text))) h)

-- an index that is refused
pub route_bad : (text : List ℕ) (done : List Index) (bound len : ℕ) (e : (LineError ParseCause)) → len ≡ position_or_len (λ b. eqb b 46) text
    → Fails e (index_in bound (index_of (take len text))) → Fails e (route_on done bound (map index_of (cut_points text)))
route_bad text done bound len e place h =
    rw (cut_turn (λ b. eqb b 46) text, ← place) (route_fails done bound (index_of (take len text))
    (map index_of (cond (ltb len (length text)) (cut_points (drop (len + 1) text)) [])) e h)

-- the path of all indices
pub path_given : (text : List ℕ) (none : List Index) (r : Result Route (LineError ParseCause)) → none ≡ [] → Gives (λ x. x) r (route_on none 64 (map index_of (cut_points text)))
    → Gives (λ x. x) r (as_route (Path (map index_of (cut_points text))))
path_given text none r e h = rw (← route_cut text) (rw e at h)
