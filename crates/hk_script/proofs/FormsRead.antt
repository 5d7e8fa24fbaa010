-- A piece of a line, as a form reads it.
use Rattle.std.proofs.Common.{◌≡◌, ℕ, Bool, true, false, cond, List, ◌∷◌, refl, subst, not, map, Ok, Err, Result, Option}
use Rattle.std.specs.Prelude.{IsTrue}
use Rattle.std.proofs.lemmas.Bool.{false≢true}
use Rattle.std.specs.List.{find, list_any}
use Rattle.hk_format.specs.declared.causes.ParseCause.{ParseCause}
use Rattle.hk_format.specs.declared.causes.TextCause.TheVariants.{BadToken, NumberTooLarge}
use Rattle.hk_model.specs.declared.instructions.Route.{Route}
use Rattle.hk_format.specs.declared.syntax.Verb.{Verb}
use Rattle.hk_model.specs.Labels.{same_text}
use Rattle.hk_format.specs.Pieces as piece
use Rattle.hk_format.specs.Pieces.{index_of, pointed_of, is_path, is_too_large, is_piece}
use Rattle.hk_format.specs.Reading.{wanted, taken}
use Rattle.hk_format.specs.Verbs.{verb_word, all_verbs}
use Rattle.hk_format.specs.Forms.{as_verb, verb_found, as_route}
use Rattle.hk_text.specs.declared.pieces.Piece.{Piece}
use Rattle.hk_text.specs.declared.pieces.PieceKind.TheVariants as kind
use Rattle.hk_text.specs.Views.{seen, text_of, path_read}
use Rattle.hk_format.specs.declared.errors.LineError.{LineError}
use Rattle.hk_format.specs.declared.errors.LineError.TheVariants as line_error
use Rattle.hk_format.specs.Outcomes.{Gives}
use Rattle.hk_script.specs.Outcomes.{Reads}
use Rattle.hk_script.specs.Paths.{cut_points}

-- a verb, by the bytes of the piece
pub verb_line : (source : List ℕ) (p : Piece) (before after : List piece.Piece) (bytes : List ℕ) (o : Option Verb) → before ≡ seen source p ∷ after → p.kind ≡ kind.Word
    → bytes ≡ text_of source p → o ≡ find (λ v. same_text bytes (verb_word v)) all_verbs → wanted as_verb before ≡ taken (verb_found o) after
verb_line source p before after bytes o e word same h =
    let found : o ≡ find (λ v. same_text (text_of source p) (verb_word v)) all_verbs = subst (λ (t : List ℕ). o ≡ find (λ v. same_text t (verb_word v)) all_verbs) same h in
    rw (e, word) (rw (← found))

-- what a form gives, behind the piece
pub reads_taken : {X : Type 0} (r : Result X (LineError ParseCause)) (left : List piece.Piece) (given : Result X ParseCause) → Gives (λ x. x) r given
    → Reads (λ x. x) r left (taken given left)
reads_taken (Ok x) left given h = rw h
reads_taken (Err (line_error.Bad cause)) left given h = rw h
reads_taken (Err line_error.NoMemory) left given h = tt

-- a path that some text spells was read from its texts
path_spelled : (ts : List (List ℕ)) → is_piece (path_read (pointed_of ts)) ≡ true → pointed_of ts ≡ Ok (piece.Path (map index_of ts))
path_spelled ts h = go (is_path ts) (list_any is_too_large ts) h
  where
    go : (path large : Bool) → is_piece (path_read (cond (not path) (Err BadToken) (cond large (Err NumberTooLarge) (Ok (piece.Path (map index_of ts)))))) ≡ true
        → cond (not path) (Err BadToken) (cond large (Err NumberTooLarge) (Ok (piece.Path (map index_of ts)))) ≡ Ok (piece.Path (map index_of ts))
    go true false h = refl
    go true true h = absurd (false≢true h)
    go false large h = absurd (false≢true h)

-- a path, by the bytes of the piece
pub path_line : (source : List ℕ) (p : Piece) (before after : List piece.Piece) (bytes : List ℕ) (r : Result Route (LineError ParseCause)) → before ≡ seen source p ∷ after
    → p.kind ≡ kind.Path → bytes ≡ text_of source p → IsTrue (is_piece (seen source p)) → Gives (λ x. x) r (as_route (piece.Path (map index_of (cut_points bytes))))
    → Reads (λ x. x) r after (wanted as_route before)
path_line source p before after bytes r e path same spelled h =
    let whole = path_spelled (cut_points (text_of source p)) (rw path at spelled) in
    rw (e, path, whole) (reads_taken r after (as_route (piece.Path (map index_of (cut_points (text_of source p))))) (rw same at h))
