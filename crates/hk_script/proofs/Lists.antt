-- Lists of numbers, read one after another.
use Rattle.std.proofs.Common.{◌≡◌, ℕ, zero, suc, ◌<◌, arith, Bool, true, false, cond, ltb, List, [], ◌∷◌, ◌++◌, length, map, ◌-◌, refl, sym, ap, ◌∙◌, Ok, Err, Result}
use Rattle.std.proofs.lemmas.List.{map-append, length-append}
use mathlib.Core.List.{append_assoc, append-nil}
use Rattle.hk_format.specs.declared.causes.ParseCause.{ParseCause}
use Rattle.hk_format.specs.declared.causes.ParseCause.TheVariants.{OutOfRange, Missing}
use Rattle.hk_model.specs.declared.instructions.Route.{Route}
use Rattle.hk_model.specs.declared.names.Slot.{Slot}
use Rattle.hk_format.specs.declared.syntax.Body.{Body}
use Rattle.hk_format.specs.declared.syntax.Body.TheVariants.{WordsAre}
use Rattle.hk_format.specs.declared.syntax.Written.{Written}
use Rattle.hk_format.specs.declared.syntax.Written.TheVariants as written
use Rattle.hk_format.specs.declared.syntax.Verb.TheVariants as verb
use Rattle.hk_format.specs.declared.errors.LineError.{LineError}
use Rattle.hk_format.specs.declared.errors.LineError.TheVariants as line_error
use Rattle.hk_format.specs.Outcomes.{Fails}
use Rattle.hk_model.specs.Limits.{slot_limit}
use Rattle.hk_format.specs.Pieces.{Piece, Word, Upper, Dash, Number, Path}
use Rattle.hk_format.specs.Texts.{is_none}
use Rattle.std.proofs.lemmas.Bool.{false≢true}
use Rattle.hk_format.specs.Reading.{Found, Reads, onward, taken, wanted, each, at_most, end}
use Rattle.hk_format.specs.Forms.{as_number, as_number_below, slot_numbered, as_slot, as_route}
use Rattle.hk_format.specs.WrittenLines.{before_last, last_of, instruction_of}

-- the value and the pieces that were read
read_parts : {A : Type 0} (r : Found A) (x y : A) (left ps : List Piece) → r ≡ Ok (x, left) → r ≡ Ok (y, ps) → (x ≡ y) × (left ≡ ps)
read_parts {A} r x y left ps h k =
    let e : (x, left) ≡ (y, ps) = cc in
    (ap (λ (q : A × List Piece). q.0) e, ap (λ (q : A × List Piece). q.1) e)

-- what is left behind a piece
left_behind : {A : Type 0} (r : Result A ParseCause) (ps : List Piece) (x : A) (left : List Piece) → taken r ps ≡ Ok (x, left) → left ≡ ps
left_behind (Ok y) ps x left h = (read_parts (Ok (y, ps)) x y left ps h refl).1
left_behind (Err cause) ps x left h = cc

-- the words that were read, and those of these pieces
abbrev pub words_on : List ℕ → Reads Body
words_on done pieces = onward (each as_number pieces) (λ more. end (WordsAre (done ++ more)))

-- one word more
pub words_turn : (done : List ℕ) (n : ℕ) (pieces left : List Piece) → wanted as_number pieces ≡ Ok (n, left) → words_on done pieces ≡ words_on (done ++ n ∷ []) left
words_turn done n [] left h = cc
words_turn done n (p ∷ ps) left h = rw (h, left_behind (as_number p) ps n left h) (go (each as_number ps))
  where
    go : (r : Found (List ℕ))
        → onward (onward r (λ xs rest. Ok (n ∷ xs, rest))) (λ more. end (WordsAre (done ++ more))) ≡ onward r (λ more. end (WordsAre ((done ++ n ∷ []) ++ more)))
    go (Ok x) = ap (λ (ws : List ℕ). end (WordsAre ws) x.1) (sym (append_assoc done (n ∷ []) x.0))
    go (Err cause) = refl

-- a word that is refused
pub words_refused : (done : List ℕ) (cause : ParseCause) (pieces : List Piece) → is_none pieces ≡ false → wanted as_number pieces ≡ Err cause → words_on done pieces ≡ Err cause
words_refused done cause [] some h = absurd (false≢true (sym some))
words_refused done cause (p ∷ ps) some h = rw h

-- no word more
pub words_end : (done : List ℕ) (pieces : List Piece) → is_none pieces ≡ true → words_on done pieces ≡ Ok (WordsAre done, pieces)
words_end done [] none = rw append-nil
words_end done (p ∷ ps) none = absurd (false≢true none)

-- a slot as the number of a slot

slot_number : (p : Piece) (ps left : List Piece) (s : Slot) → taken (as_slot p) ps ≡ Ok (s, left) → taken (as_number_below slot_limit p) ps ≡ Ok (s.0, left)
slot_number (Number n) ps left s h = go (ltb n slot_limit) h
  where
    go : (b : Bool) → taken (cond b (Ok (slot_numbered n)) (Err OutOfRange)) ps ≡ Ok (s, left) → taken (cond b (Ok n) (Err OutOfRange)) ps ≡ Ok (s.0, left)
    go true h = let parts = read_parts (Ok (slot_numbered n, ps)) s (slot_numbered n) left ps h refl in rw (parts.0, parts.1)
    go false h = cc
slot_number (Word t) ps left s h = cc
slot_number (Upper t) ps left s h = cc
slot_number Dash ps left s h = cc
slot_number (Path steps) ps left s h = cc

slot_cause : (p : Piece) (ps : List Piece) (cause : ParseCause) → taken (as_slot p) ps ≡ Err cause → taken (as_number_below slot_limit p) ps ≡ Err cause
slot_cause (Number n) ps cause h = go (ltb n slot_limit) h
  where
    go : (b : Bool) → taken (cond b (Ok (slot_numbered n)) (Err OutOfRange)) ps ≡ Err cause → taken (cond b (Ok n) (Err OutOfRange)) ps ≡ Err cause
    go true h = cc
    go false h = cc
slot_cause (Word t) ps cause h = cc
slot_cause (Upper t) ps cause h = cc
slot_cause Dash ps cause h = cc
slot_cause (Path steps) ps cause h = cc

-- the slots that were read, the last of them apart, and those of these pieces, up to a number
abbrev pub slots_on : Route → List ℕ → ℕ → ℕ → Reads Written
slots_on proc done into room pieces =
    onward (at_most room (as_number_below slot_limit) pieces) (λ more. end (written.Enter proc (done ++ before_last into more) (slot_numbered (last_of into more))))

-- one slot more
pub slots_turn : (proc : Route) (done : List ℕ) (into room : ℕ) (next : Slot) (pieces left : List Piece) → wanted as_slot pieces ≡ Ok (next, left)
    → slots_on proc done into (suc room) pieces ≡ slots_on proc (done ++ into ∷ []) next.0 room left
slots_turn proc done into room next [] left h = cc
slots_turn proc done into room next (p ∷ ps) left h = rw (slot_number p ps left next h, left_behind (as_slot p) ps next left h) (go (at_most room (as_number_below slot_limit) ps))
  where
    go : (r : Found (List ℕ))
        → onward (onward r (λ xs rest. Ok (next.0 ∷ xs, rest))) (λ more. end (written.Enter proc (done ++ before_last into more) (slot_numbered (last_of into more))))
        ≡ onward r (λ more. end (written.Enter proc ((done ++ into ∷ []) ++ before_last next.0 more) (slot_numbered (last_of next.0 more))))
    go (Ok x) = ap (λ (args : List ℕ). end (written.Enter proc args (slot_numbered (last_of next.0 x.0))) x.1) (sym (append_assoc done (into ∷ []) (before_last next.0 x.0)))
    go (Err cause) = refl

-- one slot too many
pub slots_full : (proc : Route) (done : List ℕ) (into : ℕ) (next : Slot) (pieces left : List Piece) → wanted as_slot pieces ≡ Ok (next, left)
    → slots_on proc done into zero pieces ≡ Err OutOfRange
slots_full proc done into next [] left h = cc
slots_full proc done into next (p ∷ ps) left h = rw (slot_number p ps left next h)

-- a slot that is refused
pub slots_refused : (proc : Route) (done : List ℕ) (into room : ℕ) (cause : ParseCause) (pieces : List Piece) → is_none pieces ≡ false → wanted as_slot pieces ≡ Err cause
    → slots_on proc done into room pieces ≡ Err cause
slots_refused proc done into room cause [] some h = absurd (false≢true (sym some))
slots_refused proc done into zero cause (p ∷ ps) some h = rw (slot_cause p ps cause h)
slots_refused proc done into (suc room) cause (p ∷ ps) some h = rw (slot_cause p ps cause h)

-- no slot more
pub slots_end : (proc : Route) (done : List ℕ) (into room : ℕ) (pieces : List Piece) → is_none pieces ≡ true
    → slots_on proc done into room pieces ≡ Ok (written.Enter proc done (slot_numbered into), pieces)
slots_end proc done into room [] none = rw append-nil
slots_end proc done into room (p ∷ ps) none = absurd (false≢true none)

slot_wanted : (pieces left : List Piece) (s : Slot) → wanted as_slot pieces ≡ Ok (s, left) → wanted (as_number_below slot_limit) pieces ≡ Ok (s.0, left)
slot_wanted [] left s h = cc
slot_wanted (p ∷ ps) left s h = slot_number p ps left s h

-- the path and the first slot of a call
pub call_begun : (before middle after : List Piece) (proc : Route) (into : Slot) → wanted as_route before ≡ Ok (proc, middle) → wanted as_slot middle ≡ Ok (into, after)
    → slots_on proc [] into.0 8 after ≡ instruction_of verb.Call before
call_begun before middle after proc into h k = rw (h, slot_wanted middle after into k)

-- a first slot that is refused
pub call_bad : (before middle : List Piece) (proc : Route) (e : (LineError ParseCause)) → wanted as_route before ≡ Ok (proc, middle) → Fails e (wanted as_slot middle)
    → Fails e (instruction_of verb.Call before)
call_bad before [] proc line_error.NoMemory h k = tt
call_bad before (p ∷ ps) proc line_error.NoMemory h k = tt
call_bad before [] proc (line_error.Bad cause) h k = let same : cause ≡ Missing = cc in rw (h, same)
call_bad before (p ∷ ps) proc (line_error.Bad cause) h k = rw (h, slot_cause p ps cause k)

-- a later slot that is refused
pub slots_bad : (proc : Route) (done : List ℕ) (into room : ℕ) (e : (LineError ParseCause)) (pieces : List Piece) → is_none pieces ≡ false → Fails e (wanted as_slot pieces)
    → Fails e (slots_on proc done into room pieces)
slots_bad proc done into room line_error.NoMemory pieces some h = tt
slots_bad proc done into room (line_error.Bad cause) pieces some h = slots_refused proc done into room cause pieces some h

-- a word that is refused
pub words_bad : (done : List ℕ) (e : (LineError ParseCause)) (pieces : List Piece) → is_none pieces ≡ false → Fails e (wanted as_number pieces) → Fails e (words_on done pieces)
words_bad done line_error.NoMemory pieces some h = tt
words_bad done (line_error.Bad cause) pieces some h = words_refused done cause pieces some h

-- what is left is shorter behind a piece
pub left_shorter : {A : Type 0} (form : Piece → Result A ParseCause) (pieces left : List Piece) (x : A) → wanted form pieces ≡ Ok (x, left) → length left < length pieces
left_shorter form [] left x h = cc
left_shorter form (p ∷ ps) left x h = rw (left_behind (form p) ps x left h) (omega arith)

-- an answer that fails, and the same answer
pub fails_same : {X : Type 0} (e : (LineError ParseCause)) (one other : Result X ParseCause) → Fails e one → one ≡ other → Fails e other
fails_same e one other h same = rw (← same) h

-- one argument more
pub call_turn : (proc : Route) (args : List Slot) (into next : Slot) (pieces left : List Piece) (whole : Found Written) → length args < 8 → wanted as_slot pieces ≡ Ok (next, left)
    → slots_on proc (map (λ s. s.0) args) into.0 (8 - length args) pieces ≡ whole
    → slots_on proc (map (λ s. s.0) (args ++ into ∷ [])) next.0 (8 - length (args ++ into ∷ [])) left ≡ whole
call_turn proc args into next pieces left whole few h k =
    let size = length-append args (into ∷ []) in
    let room : 8 - length args ≡ suc (8 - length (args ++ into ∷ [])) = omega arith in
    rw map-append (sym (slots_turn proc (map (λ s. s.0) args) into.0 (8 - length (args ++ into ∷ [])) next pieces left h) ∙ (rw room at k))
