-- What a form takes of a piece that some text spells is spelled by this piece alone.
use Rattle.std.proofs.Common.{◌≡◌, ℕ, ◌+◌, ◌-◌, ◌==◌, Bool, true, false, cond, eqb, ltb, List, [], ◌∷◌, refl, sym, ap, subst, ◌∙◌, arith, ◌&&◌}
use Rattle.std.proofs.Common.{Option, Some, None, Result, Ok, Err}
use Rattle.std.specs.Prelude.{codes}
use Rattle.std.specs.List.{find}
use Rattle.std.proofs.lemmas.Bool.{and_parts, false≢true, eqb-true}
use Rattle.std.proofs.lemmas.Bool.Decides.{nat_tests}
use Rattle.hk_model.specs.declared.names.Slot.{Slot}
use Rattle.hk_model.specs.declared.instructions.Index.{Index}
use Rattle.hk_model.specs.declared.instructions.Index.TheVariants.{Fixed, ByReg}
use Rattle.hk_model.specs.declared.instructions.Operand.{Operand}
use Rattle.hk_model.specs.declared.instructions.Operand.TheVariants as operand
use Rattle.hk_model.specs.declared.instructions.Route.{Route}
use Rattle.hk_model.specs.Labels.{between, is_word, is_register, is_name, is_lower, is_capital, same_text}
use Rattle.hk_format.specs.declared.causes.ParseCause.{ParseCause}
use Rattle.hk_format.specs.declared.syntax.Verb.{Verb}
use Rattle.hk_format.specs.Pieces.{Piece, Word, Upper, Dash, Number, Path, is_piece, is_upper, is_names, register_of, register_text}
use Rattle.hk_format.specs.Verbs.{verb_word, verb_piece, all_verbs}
use Rattle.hk_format.specs.Operands.{register_piece, slot_piece, operand_piece, route_piece, type_piece, rights_piece}
use Rattle.hk_format.specs.Forms.{as_verb, verb_found, as_word, as_name, as_type, as_rights, as_number, as_number_in, as_number_below, as_slot, slot_numbered, as_register}
use Rattle.hk_format.specs.Forms.{as_operand, as_route, is_route, route_of}
use Rattle.hk_format.proofs.LineAgain.{same_is}

-- the form takes what this piece alone spells
pub record ExactForm (A : Type 0) (form : Piece → Result A ParseCause) (piece : A → Piece) : Type 0 where
  pub exact : (p : Piece) (x : A) → is_piece p ≡ true → form p ≡ Ok x → piece x ≡ p

-- the one good answer
pub taken_is : {A : Type 0} (b : Bool) (y x : A) (cause : ParseCause) → cond b (Ok y) (Err cause) ≡ Ok x → (b ≡ true) × (y ≡ x)
taken_is true y x cause h = (refl, let same : y ≡ x = cc in same)
taken_is false y x cause h = absurd (let bad : Err cause ≡ Ok x = h in cc)

-- numbers

pub number_exact : ExactForm ℕ as_number Number
number_exact = record { exact = all }
  where
    all : (p : Piece) (x : ℕ) → is_piece p ≡ true → as_number p ≡ Ok x → Number x ≡ p
    all (Number n) x s h = let same : n ≡ x = cc in ap Number (sym same)
    all _ x s h = cc

pub number_in_exact : (low high : ℕ) → ExactForm ℕ (as_number_in low high) Number
number_in_exact low high = record { exact = all }
  where
    all : (p : Piece) (x : ℕ) → is_piece p ≡ true → as_number_in low high p ≡ Ok x → Number x ≡ p
    all (Number n) x s h = ap Number (sym (taken_is (between low high n) n x _ h).1)
    all _ x s h = cc

-- the version of the header
pub version_exact : ExactForm ℕ (as_number_in 1 1) (λ n. Number 1)
version_exact = record { exact = all }
  where
    all : (p : Piece) (x : ℕ) → is_piece p ≡ true → as_number_in 1 1 p ≡ Ok x → Number 1 ≡ p
    all (Number n) x s h = let one = (taken_is (between 1 1 n) n x _ h).0 in ap Number (let same : 1 ≡ n = grind (arith, nat_tests) in same)
    all _ x s h = cc

pub number_below_exact : (bound : ℕ) → ExactForm ℕ (as_number_below bound) Number
number_below_exact bound = record { exact = all }
  where
    all : (p : Piece) (x : ℕ) → is_piece p ≡ true → as_number_below bound p ≡ Ok x → Number x ≡ p
    all (Number n) x s h = ap Number (sym (taken_is (ltb n bound) n x _ h).1)
    all _ x s h = cc

pub slot_exact : ExactForm Slot as_slot slot_piece
slot_exact = record { exact = all }
  where
    all : (p : Piece) (x : Slot) → is_piece p ≡ true → as_slot p ≡ Ok x → slot_piece x ≡ p
    all (Number n) x s h = ap slot_piece (sym (taken_is (ltb n 64) (slot_numbered n) x _ h).1)
    all _ x s h = cc

-- words

pub word_exact : ExactForm (List ℕ) as_word Word
word_exact = record { exact = all }
  where
    all : (p : Piece) (x : List ℕ) → is_piece p ≡ true → as_word p ≡ Ok x → Word x ≡ p
    all (Word t) x s h = let same : t ≡ x = cc in ap Word (sym same)
    all _ x s h = cc

pub name_exact : ExactForm (List ℕ) as_name Word
name_exact = record { exact = all }
  where
    all : (p : Piece) (x : List ℕ) → is_piece p ≡ true → as_name p ≡ Ok x → Word x ≡ p
    all (Word t) x s h = ap Word (sym (taken_is (is_name t) t x _ h).1)
    all _ x s h = cc

-- names in capital letters are no word
upper_no_word : (t : List ℕ) → is_upper t ≡ true → is_word t ≡ false
upper_no_word [] h = absurd (false≢true h)
upper_no_word (b ∷ bs) h = rw low refl
  where
    low : is_lower b ≡ false
    low = go (eqb b 43) h
      where
        go : (plus : Bool) → cond plus (false && is_names true bs) (is_capital b && is_names false bs) ≡ true → is_lower b ≡ false
        go true k = absurd (false≢true k)
        go false k = let capital = (and_parts (is_capital b) (is_names false bs) k).0 in grind (arith, nat_tests)

pub type_exact : ExactForm (List ℕ) as_type type_piece
type_exact = record { exact = all }
  where
    all : (p : Piece) (x : List ℕ) → is_piece p ≡ true → as_type p ≡ Ok x → type_piece x ≡ p
    all (Word t) x s h = let same : t ≡ x = cc in subst (λ (u : List ℕ). type_piece u ≡ Word t) same (rw s refl)
    all (Upper t) x s h = let same : t ≡ x = cc in subst (λ (u : List ℕ). type_piece u ≡ Upper t) same (rw (upper_no_word t s) refl)
    all _ x s h = cc

-- names in capital letters are no dash
upper_no_dash : (t : List ℕ) → is_upper t ≡ true → same_text t (codes "-") ≡ false
upper_no_dash t h = go (same_text t (codes "-")) refl
  where
    go : (b : Bool) → same_text t (codes "-") ≡ b → b ≡ false
    go true e = absurd (false≢true (ap is_upper (sym (same_is t (codes "-") e)) ∙ h))
    go false e = refl

pub rights_exact : ExactForm (List ℕ) as_rights rights_piece
rights_exact = record { exact = all }
  where
    all : (p : Piece) (x : List ℕ) → is_piece p ≡ true → as_rights p ≡ Ok x → rights_piece x ≡ p
    all (Upper t) x s h = let same : t ≡ x = cc in subst (λ (u : List ℕ). rights_piece u ≡ Upper t) same (rw (upper_no_dash t s) refl)
    all Dash x s h = let same : codes "-" ≡ x = cc in subst (λ (u : List ℕ). rights_piece u ≡ Dash) same refl
    all _ x s h = cc

-- the verb whose word this is
pub verb_is : (w : List ℕ) (v : Verb) → as_verb (Word w) ≡ Ok v → verb_word v ≡ w
verb_is w v h = go (find (λ u. same_text w (verb_word u)) all_verbs) refl h
  where
    found : (vs : List Verb) (u : Verb) → find (λ x. same_text w (verb_word x)) vs ≡ Some u → verb_word u ≡ w
    found [] u e = absurd (let none : None ≡ Some u = e in cc)
    found (x ∷ xs) u e = by (same_text w (verb_word x)) refl e (λ k. found xs u k)
      where
        by : (b : Bool) → same_text w (verb_word x) ≡ b → cond b (Some x) (find (λ y. same_text w (verb_word y)) xs) ≡ Some u
            → (find (λ y. same_text w (verb_word y)) xs ≡ Some u → verb_word u ≡ w) → verb_word u ≡ w
        by true t k more = let same : x ≡ u = cc in sym (same_is w (verb_word x) t ∙ ap verb_word same)
        by false t k more = more k

    go : (o : Option Verb) → find (λ u. same_text w (verb_word u)) all_verbs ≡ o → verb_found o ≡ Ok v → verb_word v ≡ w
    go (Some u) e k = let same : u ≡ v = cc in subst (λ (z : Verb). verb_word z ≡ w) same (found all_verbs u e)
    go None e k = cc

pub verb_exact : ExactForm Verb as_verb verb_piece
verb_exact = record { exact = all }
  where
    all : (p : Piece) (x : Verb) → is_piece p ≡ true → as_verb p ≡ Ok x → verb_piece x ≡ p
    all (Word t) x s h = ap Word (verb_is t x h)
    all _ x s h = cc

-- registers, operands and paths

register_is : (t : List ℕ) → is_register t ≡ true → register_text (register_of t) ≡ t
register_is [] h = absurd (false≢true h)
register_is (r ∷ []) h = absurd (false≢true h)
register_is (r ∷ d ∷ []) h =
    let parts = and_parts (r == 114) (between 48 55 d) h in
    let letter : 114 ≡ r = sym (eqb-true r 114 parts.0) in
    let digit : 48 + (d - 48) ≡ d = grind (arith, nat_tests) in
    cc
register_is (r ∷ d ∷ e ∷ more) h = absurd (false≢true h)

pub register_exact : ExactForm ℕ as_register register_piece
register_exact = record { exact = all }
  where
    all : (p : Piece) (x : ℕ) → is_piece p ≡ true → as_register p ≡ Ok x → register_piece x ≡ p
    all (Word t) x s h = let k = taken_is (is_register t) (register_of t) x _ h in ap register_piece (sym k.1) ∙ ap Word (register_is t k.0)
    all _ x s h = cc

pub operand_exact : ExactForm Operand as_operand operand_piece
operand_exact = record { exact = all }
  where
    all : (p : Piece) (x : Operand) → is_piece p ≡ true → as_operand p ≡ Ok x → operand_piece x ≡ p
    all (Number n) x s h = let same : operand.Number n ≡ x = cc in ap operand_piece (sym same)
    all (Word t) x s h = let k = taken_is (is_register t) (operand.Reg (register_of t)) x _ h in ap operand_piece (sym k.1) ∙ ap Word (register_is t k.0)
    all _ x s h = cc

pub route_exact : ExactForm Route as_route route_piece
route_exact = record { exact = all }
  where
    several : (is : List Index) → is_piece (Path is) ≡ true → route_piece (route_of is) ≡ Path is
    several [] s = absurd (false≢true s)
    several (i ∷ []) s = absurd (false≢true s)
    several (i ∷ j ∷ is) s = refl

    all : (p : Piece) (x : Route) → is_piece p ≡ true → as_route p ≡ Ok x → route_piece x ≡ p
    all (Path is) x s h = ap route_piece (sym (taken_is (is_route is) (route_of is) x _ h).1) ∙ several is s
    all (Number n) x s h = ap route_piece (sym (taken_is (ltb n 64) (route_of (Fixed n ∷ [])) x _ h).1)
    all (Word t) x s h = let k = taken_is (is_register t) (route_of (ByReg (register_of t) ∷ [])) x _ h in ap route_piece (sym k.1) ∙ ap Word (register_is t k.0)
    all _ x s h = cc
