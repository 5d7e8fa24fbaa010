-- One read or write after another.
use Rattle.std.proofs.Common.{◌≡◌, ℕ, ◌+◌, ◌-◌, ◌≤◌, ◌<◌, min, List, [], ◌++◌, length, take, drop, Option, Some, None, sym, ap, ◌∙◌, arith, append_assoc, length-append}
use Rattle.std.proofs.lemmas.List.{take-append-drop, length-take-le, length-drop, take_at, take-take, take_rest, drop-drop, drop_all}
use Rattle.std.proofs.Math.Seq.{take-add}
use Rattle.std.specs.Io.KnownBytes.{Consumes, Appends}

-- known bytes that were consumed, and more that were consumed after them
pub Consumes-append : (a b c : Option (List ℕ)) (xs ys : List ℕ) → Consumes a b xs → Consumes b c ys → Consumes a c (xs ++ ys)
Consumes-append None b c xs ys first then = tt
Consumes-append (Some ps) None c xs ys first then = absurd first
Consumes-append (Some ps) (Some qs) None xs ys first then = absurd then
Consumes-append (Some ps) (Some qs) (Some rs) xs ys first then = first ∙ ap (λ zs. xs ++ zs) then ∙ sym (append_assoc xs ys rs)

-- bytes that were appended to known ones, and more that were appended after them
pub Appends-append : (a b c : Option (List ℕ)) (xs ys : List ℕ) → Appends a b xs → Appends b c ys → Appends a c (xs ++ ys)
Appends-append None b c xs ys first then = tt
Appends-append (Some ps) None c xs ys first then = absurd first
Appends-append (Some ps) (Some qs) None xs ys first then = absurd then
Appends-append (Some ps) (Some qs) (Some rs) xs ys first then = then ∙ ap (λ zs. zs ++ ys) first ∙ append_assoc ps xs ys

-- what a read of n bytes shows: they came from the front of what was left, and the others stay left
pub gave : (bytes buf new : List ℕ) (at n : ℕ) → new ≡ take n (drop at bytes) → n ≤ length (drop at bytes) → drop at bytes ≡ take n (new ++ drop n buf) ++ drop (at + n) bytes
gave bytes buf new at n given le =
    let sized : length new ≡ n = ap length given ∙ length-take-le n (drop at bytes) le in
    let front : take n (new ++ drop n buf) ≡ take n (drop at bytes) = take_at new (drop n buf) n sized ∙ given in
    rw front (rw (← drop-drop n at bytes) (sym (take-append-drop n (drop at bytes))))

-- a read into a buffer, of at most `most` bytes: what it gave, and that none came at the end alone
pub a_read : (bytes items buf new : List ℕ) (at most n : ℕ) → items ≡ bytes
    → new ≡ take n (take (length items - at) (drop at items)) → n ≡ min most (length (take (length items - at) (drop at items)))
    → most ≤ length buf → (0 < length buf → 1 ≤ most)
    → (drop at bytes ≡ take n (new ++ drop n buf) ++ drop (at + n) bytes) × (n ≡ 0 → 0 < length (new ++ drop n buf) → drop (at + n) bytes ≡ [])
a_read bytes items buf new at most n same given counted within some =
    let rest : take (length items - at) (drop at items) ≡ drop at bytes = take_rest items at ∙ ap (drop at) same in
    let front : new ≡ take n (drop at bytes) = given ∙ ap (take n) rest in
    let sized : n ≡ min most (length (drop at bytes)) = counted ∙ ap (λ l. min most (length l)) rest in
    let le : n ≤ length (drop at bytes) = omega (arith, sized) in
    let of_new : length new ≡ n = ap length front ∙ length-take-le n (drop at bytes) le in (
      gave bytes buf new at n front le,
      λ none more. drop_all (at + n) bytes (omega (
        arith,
        sized,
        none,
        more,
        of_new,
        within,
        some
            (omega (arith, none, more, of_new, within, length-append new (drop n buf), length-drop n buf)),
        length-append new (drop n buf),
        length-drop n buf,
        length-drop at bytes,
      )),
    )

-- a text of which some bytes were sent, and a write of n more
pub take-more : (text : List ℕ) (sent n : ℕ) → n ≤ length text - sent → take (sent + n) text ≡ take sent text ++ take n (take (length text - sent) (drop sent text))
take-more text sent n le = take-add sent n text ∙ ap (λ ys. take sent text ++ ys) (sym (take-take n (length text - sent) (drop sent text) le))
