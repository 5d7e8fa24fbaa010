-- What an item holds, one line after another.
use Rattle.std.proofs.Common.{◌≡◌, ℕ, ◌+◌, ◌<◌, Bool, true, false, ltb, leb, List, [], ◌∷◌, ◌++◌, length, drop, get_or, refl, sym, ap, ◌∙◌, Ok, Err, Result}
use Rattle.std.proofs.lemmas.List.{at_drop_more, length-append}
use mathlib.Core.List.{append_assoc, append-nil}
use Rattle.hk_format.specs.declared.causes.LoadCause.{LoadCause}
use Rattle.hk_model.specs.declared.entries.Entry.{Entry}
use Rattle.hk_model.specs.declared.entries.Param.{Param}
use Rattle.hk_format.specs.declared.syntax.Body.{Body}
use Rattle.hk_format.specs.declared.syntax.Body.TheVariants.{WordsAre, EmptyEntry, CapEntry, AmplifyEntry, CreateEntry, ParamIs, LabelIs, StepIs}
use Rattle.hk_format.specs.declared.syntax.Part.{Part}
use Rattle.hk_format.specs.Names.{Names}
use Rattle.hk_format.specs.Loading.{Refused, Contents, Used, Room, contents, used, limited, permitted, entry_meant, param_of, onto, more_words, one_param, one_entry, content_onto}
use Rattle.hk_format.specs.Loading.{contents_of, at_line}
use Rattle.hk_model.specs.Refusing.{◌>>=◌}
use Rattle.hk_load.specs.Filling.{used_by, added, after}

after_words : (c : Contents) (words : List ℕ) (line : ℕ) (rest : Result Contents Refused)
    → after c (onto more_words line (Ok words) rest) ≡ after (contents (c.words ++ words) c.params c.entries) rest
after_words c words line (Ok d) = ap (λ w. Ok (contents w (c.params ++ d.params) (c.entries ++ d.entries))) (sym (append_assoc c.words words d.words))
after_words c words line (Err e) = refl

after_param : (c : Contents) (p : Param) (line : ℕ) (rest : Result Contents Refused)
    → after c (onto one_param line (Ok p) rest) ≡ after (contents c.words (c.params ++ p ∷ []) c.entries) rest
after_param c p line (Ok d) = ap (λ x. Ok (contents (c.words ++ d.words) x (c.entries ++ d.entries))) (sym (append_assoc c.params (p ∷ []) d.params))
after_param c p line (Err e) = refl

after_entry : (c : Contents) (e : Entry) (line : ℕ) (rest : Result Contents Refused)
    → after c (onto one_entry line (Ok e) rest) ≡ after (contents c.words c.params (c.entries ++ e ∷ [])) rest
after_entry c e line (Ok d) = ap (λ x. Ok (contents (c.words ++ d.words) (c.params ++ d.params) x)) (sym (append_assoc c.entries (e ∷ []) d.entries))
after_entry c e line (Err x) = refl

words_onto : (c : Contents) (words : List ℕ) (line : ℕ) (rest : Used → Result Contents Refused) (few : Bool)
    → after c (onto more_words line (limited few (Ok words)) (rest (used (length c.words + length words) (length c.params) (length c.entries))))
    ≡ (at_line line (limited few (Ok words) >>= (λ ws. Ok (contents (c.words ++ ws) c.params c.entries))) >>= (λ (d : Contents). after d (rest (used_by d))))
words_onto c words line rest true =
    after_words c words line (rest (used (length c.words + length words) (length c.params) (length c.entries)))
    ∙ ap (λ n. after (contents (c.words ++ words) c.params c.entries) (rest (used n (length c.params) (length c.entries)))) (sym (length-append c.words words))
words_onto c words line rest false = refl

param_onto : (c : Contents) (p : Result Param LoadCause) (line : ℕ) (rest : Used → Result Contents Refused) (few : Bool)
    → after c (onto one_param line (limited few p) (rest (used (length c.words) (length c.params + 1) (length c.entries))))
    ≡ (at_line line (p >>= (λ x. limited few (Ok x) >>= (λ y. Ok (contents c.words (c.params ++ y ∷ []) c.entries)))) >>= (λ (d : Contents). after d (rest (used_by d))))
param_onto c (Ok p) line rest true =
    after_param c p line (rest (used (length c.words) (length c.params + 1) (length c.entries)))
    ∙ ap (λ n. after (contents c.words (c.params ++ p ∷ []) c.entries) (rest (used (length c.words) n (length c.entries)))) (sym (length-append c.params (p ∷ [])))
param_onto c (Ok p) line rest false = refl
param_onto c (Err cause) line rest few = refl

entry_onto : (c : Contents) (e : Result Entry LoadCause) (line : ℕ) (rest : Used → Result Contents Refused)
    → after c (onto one_entry line e (rest (used (length c.words) (length c.params) (length c.entries + 1))))
    ≡ (at_line line (e >>= (λ y. Ok (contents c.words c.params (c.entries ++ y ∷ [])))) >>= (λ (d : Contents). after d (rest (used_by d))))
entry_onto c (Ok e) line rest =
    after_entry c e line (rest (used (length c.words) (length c.params) (length c.entries + 1)))
    ∙ ap (λ n. after (contents c.words c.params (c.entries ++ e ∷ [])) (rest (used (length c.words) (length c.params) n))) (sym (length-append c.entries (e ∷ [])))
entry_onto c (Err cause) line rest = refl

added_onto : (names : Names) (r : Room) (c : Contents) (line : ℕ) (body : Body) (rest : Used → Result Contents Refused)
    → after c (content_onto names r (used_by c) line body rest) ≡ (at_line line (added names r c body) >>= (λ (d : Contents). after d (rest (used_by d))))
added_onto names r c line (WordsAre words) rest = words_onto c words line rest (leb (length c.words + length words) 4096)
added_onto names r c line (ParamIs kind check give) rest = param_onto c (param_of names kind check give) line rest (ltb (length c.params) 8)
added_onto names r c line EmptyEntry rest = entry_onto c (limited (ltb (length c.entries) r.entries) (permitted r.listed (entry_meant names EmptyEntry))) line rest
added_onto names r c line (CapEntry object rights) rest =
    entry_onto c (limited (ltb (length c.entries) r.entries) (permitted r.listed (entry_meant names (CapEntry object rights)))) line rest
added_onto names r c line (AmplifyEntry kind check give) rest =
    entry_onto c (limited (ltb (length c.entries) r.entries) (permitted r.listed (entry_meant names (AmplifyEntry kind check give)))) line rest
added_onto names r c line (CreateEntry of give) rest =
    entry_onto c (limited (ltb (length c.entries) r.entries) (permitted r.listed (entry_meant names (CreateEntry of give)))) line rest
added_onto names r c line (LabelIs label) rest = entry_onto c (limited (ltb (length c.entries) r.entries) (permitted r.listed (entry_meant names (LabelIs label)))) line rest
added_onto names r c line (StepIs step) rest = entry_onto c (limited (ltb (length c.entries) r.entries) (permitted r.listed (entry_meant names (StepIs step)))) line rest

-- the next line, with those behind it
pub line_turn : (names : Names) (r : Room) (c : Contents) (parts : List Part) (at : ℕ) (p : Part) → at < length parts → p ≡ get_or parts at p
    → after c (contents_of names r (used_by c) (drop at parts)) ≡ (at_line p.line (added names r c p.body) >>=
    (λ (d : Contents). after d (contents_of names r (used_by d) (drop (at + 1) parts))))
line_turn names r c parts at p more e =
    at_drop_more (λ ps. after c (contents_of names r (used_by c) ps)) parts at p more
    ∙ ap (λ (x : Part). after c (contents_of names r (used_by c) (x ∷ drop (at + 1) parts))) (sym e)
    ∙ added_onto names r c p.line p.body (λ next. contents_of names r next (drop (at + 1) parts))

-- no line is left
pub no_line : (c : Contents) → after c (Ok (contents [] [] [])) ≡ Ok c
no_line c = rw (append-nil, append-nil, append-nil) refl
