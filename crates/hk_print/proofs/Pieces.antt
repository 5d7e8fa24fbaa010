-- The texts of pieces that stand for names and rights.
use Rattle.std.proofs.Common.{◌≡◌, ℕ, Bool, true, false, cond, List, [], ◌∷◌, ◌++◌, refl, sym, ap}
use Rattle.std.specs.Prelude.{codes, map}
use Rattle.std.specs.List.{join_with_byte}
use Rattle.std.specs.Fmt.{decimal}
use Rattle.hk_model.specs.declared.entries.Making.{Making}
use Rattle.hk_model.specs.declared.entries.Making.TheVariants as making
use Rattle.hk_model.specs.declared.names.Slot.{Slot}
use Rattle.hk_format.specs.RightsTexts.{rights_text}
use Rattle.hk_format.specs.Canonical.{making_text}
use Rattle.hk_format.specs.AuditLines.{making_pieces}
use mathlib.Core.List.{append_assoc}
use Rattle.hk_format.specs.declared.syntax.Body.TheVariants.{CapEntry, AmplifyEntry, CreateEntry, ParamIs}
use Rattle.hk_format.specs.declared.syntax.Head.TheVariants.{ObjectIs, ProcedureIs, ProcessIs}
use Rattle.hk_format.specs.Texts.{spell_line}
use Rattle.hk_format.specs.Spelling.{head_pieces, body_pieces, making_text_pieces}
use Rattle.hk_format.proofs.LineAgain.{same_is}
use Rattle.hk_print.specs.ItemTexts.{pieces_line}
use Rattle.hk_model.specs.Labels.{is_word, same_text}
use Rattle.hk_format.specs.Pieces.{Word, Upper, Dash, spell}
use Rattle.hk_format.specs.Operands.{type_piece, rights_piece, rights_set_piece, slot_piece}

pub spelled_type : (t : List ℕ) → spell (type_piece t) ≡ t
spelled_type t = go (is_word t)
  where
    go : (b : Bool) → spell (cond b (Word t) (Upper t)) ≡ t
    go true = refl
    go false = refl

pub spelled_rights : (t : List ℕ) → spell (rights_piece t) ≡ t
spelled_rights t = go (same_text t (codes "-")) refl
  where
    go : (b : Bool) → same_text t (codes "-") ≡ b → spell (cond b Dash (Upper t)) ≡ t
    go true e = sym (same_is t (codes "-") e)
    go false e = refl

-- what a template is made of
pub amplify_made : (check give : ℕ) → spell_line (making_pieces (making.Amplify check give)) ≡ codes "amplify" ++ 32 ∷ (rights_text check ++ 32 ∷ rights_text give)
amplify_made check give = rw (spelled_rights (rights_text check), spelled_rights (rights_text give)) refl

pub create_made : (give : ℕ) → spell_line (making_pieces (making.Create give)) ≡ codes "create " ++ rights_text give
create_made give = rw (spelled_rights (rights_text give)) refl

-- what a template is made of, and a slot behind it
pub template_spelled : (m : Making) (front : List ℕ) (into : Slot)
    → join_with_byte 32 (front ∷ map spell (making_pieces m ++ slot_piece into ∷ [])) ≡ front ++ 32 ∷ (spell_line (making_pieces m) ++ 32 ∷ decimal into.0)
template_spelled (making.Amplify check give) front into =
    ap (λ (t : List ℕ). front ++ 32 ∷ (codes "amplify " ++ t)) (sym (append_assoc (spell (rights_set_piece check)) (32 ∷ spell (rights_set_piece give)) (32 ∷ decimal into.0)))
template_spelled (making.Create give) front into = refl

-- a call and an instruction have the same text of what a template is made of
pub made_as_written : (m : Making) → making_text_pieces (making_text m) ≡ making_pieces m
made_as_written (making.Amplify check give) = refl
made_as_written (making.Create give) = refl

-- the texts of capabilities, templates and parameters

pub cap_text : (object rights : List ℕ) → spell_line (body_pieces (CapEntry object rights)) ≡ codes "cap " ++ (object ++ 32 ∷ rights)
cap_text object rights = rw (spelled_type object, spelled_rights rights) refl

pub amplify_text : (kind check give : List ℕ) → spell_line (body_pieces (AmplifyEntry kind check give)) ≡ codes "amplify " ++ (kind ++ 32 ∷ (check ++ 32 ∷ give))
amplify_text kind check give = rw (spelled_type kind, spelled_rights check, spelled_rights give) refl

pub create_text : (of give : List ℕ) → spell_line (body_pieces (CreateEntry of give)) ≡ codes "create " ++ (of ++ 32 ∷ give)
create_text of give = rw (spelled_type of, spelled_rights give) refl

pub param_text : (kind check give : List ℕ) → spell_line (body_pieces (ParamIs kind check give)) ≡ codes "param " ++ (kind ++ 32 ∷ (check ++ 32 ∷ give))
param_text kind check give = rw (spelled_type kind, spelled_rights check, spelled_rights give) refl

-- the lines of heads

pub object_spelled : (name of : List ℕ) → pieces_line (head_pieces (ObjectIs name of)) ≡ codes "object " ++ (name ++ 32 ∷ (of ++ 10 ∷ []))
object_spelled name of = rw (spelled_type of) (ap (λ (t : List ℕ). codes "object " ++ t) (append_assoc name (32 ∷ of) (10 ∷ [])))

pub procedure_spelled : (name code : List ℕ) → pieces_line (head_pieces (ProcedureIs name code)) ≡ codes "procedure " ++ (name ++ 32 ∷ (code ++ 10 ∷ []))
procedure_spelled name code = ap (λ (t : List ℕ). codes "procedure " ++ t) (append_assoc name (32 ∷ code) (10 ∷ []))

pub process_spelled : (name code : List ℕ) → pieces_line (head_pieces (ProcessIs name code)) ≡ codes "process " ++ (name ++ 32 ∷ (code ++ 10 ∷ []))
process_spelled name code = ap (λ (t : List ℕ). codes "process " ++ t) (append_assoc name (32 ∷ code) (10 ∷ []))
