-- What is told behind the script of a record, line by line.
use Rattle.std.proofs.Common.{◌≡◌, ℕ, ◌+◌, false, eqb, List, [], ◌∷◌, ◌++◌, length, refl, sym, ap, ◌∙◌, arith, Option, Some, None, Result, Ok, Err}
use Rattle.std.specs.Prelude.{IfOk}
use Rattle.std.specs.Result.{is_err}
use Rattle.std.specs.List.{join_with_byte}
use Rattle.std.proofs.lemmas.Bool.{false≢true}
use Rattle.std.proofs.lemmas.List.Splits.{join_with_byte-slice_split}
use Rattle.hk_model.specs.declared.lines.Line.{Line}
use Rattle.hk_model.specs.declared.lines.End.{End}
use Rattle.hk_format.specs.declared.causes.Cause.TheVariants.{BadLine}
use Rattle.hk_format.specs.AuditLines.{line_body}
use Rattle.hk_format.specs.LineRanges.{IsLine}
use Rattle.hk_format.specs.LineReading.{read_body}
use Rattle.hk_format.specs.Texts.{lines_of, without_last_empty}
use Rattle.hk_format.specs.Worlds.{Refused}
use Rattle.hk_format.specs.Audits.{Events, events, end_spelled, events_from, line_before, whole_line}
use Rattle.hk_audit.specs.RecordCuts.{texts_of}
use Rattle.hk_audit.proofs.ReadAgain.{read_body_is}

-- a line with its line feed

pub line_told : (x y : List ℕ) (more : List (List ℕ)) (l : Line) → None ≡ end_spelled x → IsLine l × (line_body l ≡ x) → (n : ℕ)
    → events_from n (x ∷ y ∷ more) ≡ line_before l (events_from (n + 1) (y ∷ more))
line_told x y more l none h n =
    ap (λ (e : Option End). whole_line n e (read_body x) (y ∷ more) (events_from (n + 1) (y ∷ more))) (sym none)
    ∙ ap (λ (o : Option Line). whole_line n None o (y ∷ more) (events_from (n + 1) (y ∷ more))) ((read_body_is x l).1 h)

pub bad_told : (x y : List ℕ) (more : List (List ℕ)) → None ≡ end_spelled x → ((l : Line) → IsLine l → line_body l ≡ x → ⊥) → (n : ℕ)
    → events_from n (x ∷ y ∷ more) ≡ Err (n, BadLine)
bad_told x y more none h n =
    ap (λ (e : Option End). whole_line n e (read_body x) (y ∷ more) (events_from (n + 1) (y ∷ more))) (sym none)
    ∙ ap (λ (o : Option Line). whole_line n None o (y ∷ more) (events_from (n + 1) (y ∷ more))) (go (read_body x) refl)
  where
    go : (o : Option Line) → read_body x ≡ o → o ≡ None
    go (Some l) e = let found = (read_body_is x l).0 e in absurd (h l found.0 found.1)
    go None e = refl

-- lines that were read, before what is told behind them
abbrev pub after_lines : List Line → Result Events Refused → Result Events Refused
after_lines front (Ok found) = Ok (events (front ++ found.lines) found.end)
after_lines front (Err refused) = Err refused

-- lines behind the first text of some bytes
pub behind_few : {X E : Type 0} (view : X → List ℕ) (r : Result X E) (bytes : List ℕ) (old new : List (List ℕ)) → eqb (length bytes) 0 ≡ false → is_err r ≡ false
    → old ≡ texts_of bytes → IfOk r (λ t. old ≡ view t ∷ new)
    → length (lines_of bytes) ≡ 1 + length (without_last_empty new)
behind_few view (Err e) bytes old new some ok h k = absurd (false≢true (sym ok))
behind_few view (Ok t) bytes old new some ok h k = go (view t) new (sym h ∙ k)
  where
    go : (x : List ℕ) (more : List (List ℕ)) → texts_of bytes ≡ x ∷ more → length (lines_of bytes) ≡ 1 + length (without_last_empty more)
    go x (y ∷ more) e = let same = ap (λ (ts : List (List ℕ)). length (without_last_empty ts)) e in omega (arith, same)
    go (b ∷ x) [] e = ap (λ (ts : List (List ℕ)). length (without_last_empty ts)) e
    go [] [] e =
        let none : [] ≡ bytes = sym (ap (join_with_byte 10) e) ∙ join_with_byte-slice_split 10 bytes in
        absurd (false≢true (sym some ∙ ap (λ (t : List ℕ). eqb (length t) 0) (sym none)))
