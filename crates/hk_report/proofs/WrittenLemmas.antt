-- Changes that are written one after another.
use Rattle.std.proofs.Common.{◌≡◌, ℕ, suc, ◌+◌, ◌<◌, List, [], ◌∷◌, ◌++◌, length, replicate, take, refl, sym, ap, ◌∙◌, arith, subst, append_assoc}
use Rattle.std.specs.Prelude.{Option, codes, slice_index_or}
use Rattle.std.specs.Fmt.{decimal}
use Rattle.std.specs.List.{flat_map}
use Rattle.std.proofs.lemmas.List.{append-nil}
use Rattle.hk_format.specs.Texts.{ended_line}
use Rattle.hk_model.specs.declared.entries.Cap.{Cap}
use Rattle.hk_model.specs.declared.lines.Line.{Line}
use Rattle.hk_model.specs.declared.reaches.Change.{Change}
use Rattle.hk_model.specs.WorldValue.{WorldValue, IsWorld}
use Rattle.hk_model.specs.Running.{opened, AreStepsOf}
use Rattle.hk_report.specs.declared.families.Begun.{Begun}
use Rattle.hk_report.specs.declared.families.BareChange.{BareChange}
use Rattle.hk_report.specs.declared.histories.History.{History}
use Rattle.hk_report.specs.ChangeTexts.{change_text}
use Rattle.hk_report.specs.Doings.{doings, params_given}
use Rattle.hk_report.specs.Families.{changes_from, families_after}
use Rattle.hk_report.specs.Histories.{told_histories}
use Rattle.hk_report.specs.Reachable.{IsEnough}
use Rattle.hk_report.specs.Reasons.{IsTold, AreTold}
use Rattle.hk_report.specs.Written.{AreWritten, IsReport}
use Rattle.hk_report.proofs.ReasonLemmas.{told_none, told_more}
use Rattle.hk_report.proofs.LeftOut.{report_enough}

written_one : (changes : List Change) (change : Change) → flat_map change_text (changes ++ change ∷ []) ≡ flat_map change_text changes ++ change_text change
written_one [] change = append-nil (change_text change)
written_one (c ∷ changes) change =
    ap (λ (xs : List ℕ). change_text c ++ xs) (written_one changes change) ∙ sym (append_assoc (change_text c) (flat_map change_text changes) (change_text change))

module _ (families : List (List Begun)) (histories : List History) (params : List (List (Option Cap))) where
  pub written_none : (bares : List BareChange) (before : List ℕ) → AreWritten families histories params (take 0 bares) before before
  written_none bares before = record {
    changes = [];
    told = told_none families histories params bares [] refl;
    text_is = sym (append-nil before);
  }

  pub written_more : (bares : List BareChange) (n : ℕ) (d : BareChange) (before mid after : List ℕ) (change : Change) → n < length bares
      → AreWritten families histories params (take n bares) before mid → IsTold families histories params (slice_index_or bares n d) change
      → after ≡ mid ++ change_text change → AreWritten families histories params (take (n + 1) bares) before after
  written_more bares n d before mid after change l h g e = record {
    changes = h.changes ++ change ∷ [];
    told = told_more families histories params bares n d h.changes (h.changes ++ change ∷ []) change l h.told g refl;
    text_is = e ∙ ap (λ (xs : List ℕ). xs ++ change_text change) h.text_is
        ∙ append_assoc before (flat_map change_text h.changes) (change_text change)
        ∙ ap (λ (xs : List ℕ). before ++ xs) (sym (written_one h.changes change));
  }

  pub written_all : (bares : List BareChange) (n : ℕ) (before after : List ℕ) → take n bares ≡ bares → AreWritten families histories params (take n bares) before after
      → AreWritten families histories params bares before after
  written_all bares n before after e h = subst (λ (ys : List BareChange). AreWritten families histories params ys before after) e h

  told_many : (bares : List BareChange) (changes : List Change) → AreTold families histories params bares changes → length changes ≡ length bares
  told_many [] [] h = refl
  told_many [] (c ∷ changes) h = absurd h
  told_many (b ∷ bares) [] h = absurd h
  told_many (b ∷ bares) (c ∷ changes) h = ap suc (told_many bares changes h.1)

-- of no changes none is written
pub written_empty : (families : List (List Begun)) (histories : List History) (params : List (List (Option Cap))) (bares : List BareChange) (before : List ℕ) → length bares ≡ 0
    → AreWritten families histories params bares before before
written_empty families histories params [] before e = written_none families histories params [] before
written_empty families histories params (b ∷ bares) before e = absurd (omega (arith, e))

pub told_empty : (families : List (List Begun)) (histories : List History) (params : List (List (Option Cap))) (bares : List BareChange) (changes : List Change) → length bares ≡ 0
    → changes ≡ [] → AreTold families histories params bares changes
told_empty families histories params [] changes e h = told_none families histories params [] changes h
told_empty families histories params (b ∷ bares) changes e h = absurd (omega (arith, e))

-- the whole text
pub reported : (w : WorldValue) (lines : List Line) (told histories : List History) (params : List (List (Option Cap))) (families : List (List Begun)) (found : List BareChange)
    (count : ℕ) (none mid text : List ℕ) → IsWorld w → AreStepsOf w lines
    → told ≡ told_histories w lines → IsEnough families params found told histories → params ≡ params_given w (opened w) lines
    → families ≡ families_after 0 (doings w (opened w) lines) (replicate (opened w).state.next_inc.0 [])
    → found ≡ changes_from 0 (replicate (opened w).state.next_inc.0 []) (doings w (opened w) lines)
    → count ≡ length found → none ≡ [] → AreWritten families histories params found none mid → text ≡ mid ++ ended_line (codes "changes " ++ decimal count) → IsReport w lines text
reported w lines told histories params families found count none mid text world steps h same p g c many n is e = (
  is.changes,
  report_enough w lines told histories params families found is.changes world steps h same p g c is.told,
  e
      ∙ ap (λ (xs : List ℕ). xs ++ ended_line (codes "changes " ++ decimal count)) (is.text_is ∙ ap (λ (xs : List ℕ). xs ++ flat_map change_text is.changes) n)
      ∙ ap (λ (k : ℕ). flat_map change_text is.changes ++ ended_line (codes "changes " ++ decimal k)) (many ∙ sym (told_many families histories params found is.changes is.told)),
)
