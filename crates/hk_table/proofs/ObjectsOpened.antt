-- The objects as a world opens.
use Rattle.std.proofs.Common.{◌≡◌, ℕ, zero, suc, ◌+◌, ◌<◌, ◌≤◌, List, [], ◌∷◌, ◌++◌, length, get_or, set, take, map, replicate, Option, Some, None, IsSome, refl, sym}
use Rattle.std.proofs.Common.{ap, ◌∙◌, subst, arith, append_assoc, option_map, get_or-set_same}
use Rattle.std.specs.Ordering.{nat_cmp}
use Rattle.std.specs.declared.cmp.Ordering.TheVariants.{Greater}
use Rattle.std.specs.BTreeMap.{insert_entry}
use Rattle.std.proofs.lemmas.List.{take_more, length-take-le, length-append, length-map, length-replicate, replicate-append-replicate, map-append, set-set}
use Rattle.std.proofs.lemmas.Bool.Decides.{nat_tests}
use Rattle.hk_model.specs.declared.names.Name.{Name}
use Rattle.hk_model.specs.declared.entries.Entry.{Entry}
use Rattle.hk_model.specs.declared.entries.Param.{Param}
use Rattle.hk_model.specs.declared.objects.Object.{Object}
use Rattle.hk_model.specs.Rule.{plain_object}
use Rattle.hk_model.specs.declared.world.Born.{Born}
use Rattle.hk_model.specs.State.{name_cmp, no_object}
use Rattle.hk_model.specs.Opening.{numbered, object_of}
use Rattle.hk_objects.specs.declared.body.Body.{Body}
use Rattle.hk_objects.specs.Slots.{standing, place, name_at, change}
use Rattle.hk_objects.specs.Shelf.{Shelf, new_body}
use Rattle.hk_objects.proofs.Standing.{standing_make}
use Rattle.hk_walk.specs.Walks.{shown, shown_at}
use Rattle.hk_walk.proofs.Found.{place-shown, name_at-shown}
use Rattle.hk_table.specs.Born.{Adds, named}

-- each object seen as the definitions have it stands where it stood
insert-map : {A B : Type 0} (f : A → B) (es : List (Name × A)) (n : Name) (o : A)
    → map (λ (e : Name × A). (e.0, f e.1)) (insert_entry name_cmp es n o) ≡ insert_entry name_cmp (map (λ (e : Name × A). (e.0, f e.1)) es) n (f o)
insert-map f [] n o = refl
insert-map f (e ∷ es) n o = grind (arith, nat_tests, insert-map f es n o)

pub standing-shown : (ps : List (Option (Name × Body))) → standing (map shown_at ps) ≡ map (λ (e : Name × Body). (e.0, shown e.1)) (standing ps)
standing-shown [] = refl
standing-shown (None ∷ ps) = standing-shown ps
standing-shown (Some e ∷ ps) =
    ap (λ (es : List (Name × Object)). insert_entry name_cmp es e.0 (shown e.1)) (standing-shown ps) ∙ sym (insert-map shown (standing ps) e.0 e.1)

pub as_many : (ps : List (Option (Name × Body))) → length (standing (map shown_at ps)) ≡ length (standing ps)
as_many ps = ap (λ (es : List (Name × Object)). length es) (standing-shown ps) ∙ length-map (standing ps) (λ (e : Name × Body). (e.0, shown e.1))

shown-set : (ps : List (Option (Name × Body))) (s : ℕ) (p : Option (Name × Body)) → map shown_at (set ps s p) ≡ set (map shown_at ps) s (shown_at p)
shown-set [] s p = refl
shown-set (q ∷ ps) zero p = refl
shown-set (q ∷ ps) (suc s) p = ap (λ (qs : List (Option (Name × Object))). shown_at q ∷ qs) (shown-set ps s p)

-- a new object in a free slot
pub added : (old : Shelf) (s : ℕ) (b : Body) (new : Shelf) → s < length old.slots → place old.slots s ≡ None
    → ((slot : ℕ) (name : Name) → name_at old.slots slot ≡ Some name → name.0 < old.next.0)
    → new ≡ record { slots = set old.slots s (Some (old.next, b)); next = record { 0 = old.next.0 + 1 } } → Adds old new (shown b)
added old s b new low free above e =
    let n : Name = old.next in
    let low' : s < length (map shown_at old.slots) = omega (arith, length-map old.slots shown_at) in
    let free' : place (map shown_at old.slots) s ≡ None = place-shown old.slots s ∙ ap shown_at free in
    record {
      objects = ap (λ (v : Shelf). standing (map shown_at v.slots)) e
          ∙ ap standing (shown-set old.slots s (Some (n, b)))
          ∙ standing_make (map shown_at old.slots) s n (shown b) free' low' (λ k named. let l : n.0 < n.0 = above k n (sym (name_at-shown old.slots k) ∙ named) in omega arith);
      next = ap (λ (v : Shelf). v.next.0) e;
    }

-- and with one of its parts changed
changed-made : (ps : List (Option (Name × Body))) (s : ℕ) (n : Name) (b : Body) (f : Body → Body) → s < length ps → change (set ps s (Some (n, b))) s f ≡ set ps s (Some (n, f b))
changed-made ps s n b f low =
    ap (λ (p : Option (Name × Body)). set (set ps s (Some (n, b))) s (option_map (λ (e : Name × Body). (e.0, f e.1)) p)) (get_or-set_same ps s (Some (n, b)) None low)
    ∙ set-set ps s (Some (n, b)) (Some (n, f b))

pub changed : (old : Shelf) (s : ℕ) (b : Body) (f : Body → Body) (made new : Shelf) → s < length old.slots → place old.slots s ≡ None
    → ((slot : ℕ) (name : Name) → name_at old.slots slot ≡ Some name → name.0 < old.next.0)
    → made ≡ record { slots = set old.slots s (Some (old.next, b)); next = record { 0 = old.next.0 + 1 } }
    → new ≡ record made { slots = change made.slots s f } → Adds old new (shown (f b))
changed old s b f made new low free above m e =
    added old s (f b) new low free above
    (e ∙ ap (λ (v : Shelf). let w : Shelf = record v { slots = change v.slots s f } in w) m
    ∙ ap (λ (ps : List (Option (Name × Body))). let w : Shelf = record { slots = ps; next = record { 0 = old.next.0 + 1 } } in w) (changed-made old.slots s old.next b f low))

-- a new semaphore and a new procedure, which get their parts once they stand
pub semaphore_added : (old : Shelf) (s : ℕ) (ws : List ℕ) (es : List Entry) (count : ℕ) (made new : Shelf) → ws ≡ [] → es ≡ [] → s < length old.slots → place old.slots s ≡ None
    → ((slot : ℕ) (name : Name) → name_at old.slots slot ≡ Some name → name.0 < old.next.0)
    → made ≡ record { slots = set old.slots s (Some (old.next, new_body (record { 0 = 3 }) ws es)); next = record { 0 = old.next.0 + 1 } }
    → new ≡ record made { slots = change made.slots s (λ b. record b { count = count }) } → Adds old new (record (plain_object (record { 0 = 3 }) [] []) { count = count })
semaphore_added old s ws es count made new w e low free above m n =
    subst (λ (v : List ℕ). Adds old new (record (plain_object (record { 0 = 3 }) v []) { count = count })) w
    (subst (λ (v : List Entry). Adds old new (record (plain_object (record { 0 = 3 }) ws v) { count = count })) e
    (changed old s (new_body (record { 0 = 3 }) ws es) (λ b. record b { count = count }) made new low free above m n))

pub procedure_added : (old : Shelf) (s : ℕ) (ws : List ℕ) (es : List Entry) (code : ℕ) (params : List Param) (made new : Shelf) → ws ≡ [] → s < length old.slots
    → place old.slots s ≡ None
    → ((slot : ℕ) (name : Name) → name_at old.slots slot ≡ Some name → name.0 < old.next.0)
    → made ≡ record { slots = set old.slots s (Some (old.next, new_body (record { 0 = 4 }) ws es)); next = record { 0 = old.next.0 + 1 } }
    → new ≡ record made { slots = change made.slots s (λ b. record b { procedure = Some (record { code = code; params = params }) }) }
    → Adds old new (record (plain_object (record { 0 = 4 }) [] es) { code = Some code; params = params })
procedure_added old s ws es code params made new w low free above m n =
    subst (λ (v : List ℕ). Adds old new (record (plain_object (record { 0 = 4 }) v es) { code = Some code; params = params })) w
    (changed old s (new_body (record { 0 = 4 }) ws es) (λ b. record b { procedure = Some (record { code = code; params = params }) }) made new low free above m n)

-- a made object stands in its slot
pub made_there : (old : Shelf) (s : ℕ) (b : Body) (made : Shelf) → s < length old.slots
    → made ≡ record { slots = set old.slots s (Some (old.next, b)); next = record { 0 = old.next.0 + 1 } } → IsSome (place made.slots s)
made_there old s b made low m =
    subst (λ (p : Option (Name × Body)). IsSome p) (sym (ap (λ (v : Shelf). place v.slots s) m ∙ get_or-set_same old.slots s (Some (old.next, b)) None low)) refl

-- a larger number comes after
after : (n k : ℕ) → n < k → nat_cmp k n ≡ Greater
after n k less = grind (arith, nat_tests)

abbrev name : ℕ → Name
name n = record { 0 = n }

-- an object with the next name goes to the end
next_object : (n k : ℕ) (objects : List Object) (o : Object) → k ≡ n + length objects
    → insert_entry name_cmp (numbered name n objects) (name k) o ≡ numbered name n (objects ++ o ∷ [])
next_object n k [] o at = ap (λ m. (name m, o) ∷ []) (omega arith)
next_object n k (first ∷ rest) o at =
    let past : nat_cmp k n ≡ Greater = after n k (omega arith) in
    let later : k ≡ n + 1 + length rest = omega arith in
    rw past (ap (λ es. (name n, first) ∷ es) (next_object (n + 1) k rest o later))

length-numbered : (n : ℕ) (os : List Object) → length (numbered name n os) ≡ length os
length-numbered n [] = refl
length-numbered n (o ∷ os) = let h = length-numbered (n + 1) os in omega (arith, h)

-- these objects stand with the names from 0 on
pub record IsOpened (shelf : Shelf) (os : List Object) : Type 0 where
  pub objects : standing (map shown_at shelf.slots) ≡ named os
  pub next : shelf.next.0 ≡ length os

pub opened_none : (shelf : Shelf) → ((k : ℕ) → place shelf.slots k ≡ None) → shelf.next.0 ≡ 0 → IsOpened shelf []
opened_none shelf none zero' = record { objects = empty shelf.slots none; next = zero' } where
  empty : (ps : List (Option (Name × Body))) → ((k : ℕ) → place ps k ≡ None) → standing (map shown_at ps) ≡ []
  empty [] h = refl
  empty (None ∷ ps) h = empty ps (λ k. h (suc k))
  empty (Some e ∷ ps) h = absurd (let k : Some e ≡ None = h 0 in cc)

pub opened_more : (old new : Shelf) (os : List Object) (o : Object) → IsOpened old os → Adds old new o → IsOpened new (os ++ o ∷ [])
opened_more old new os o h a =
    let number : old.next ≡ name (length os) = ap name h.next in
    record {
      objects = a.objects ∙ ap (λ (es : List (Name × Object)). insert_entry name_cmp es old.next o) h.objects
          ∙ ap (λ (n : Name). insert_entry name_cmp (named os) n o) number
          ∙ next_object 0 (length os) os o (omega arith);
      next = let e : length (os ++ o ∷ []) ≡ length os + 1 = length-append os (o ∷ []) in omega (arith, a.next, h.next);
    }

pub opened_room : (shelf : Shelf) (os : List Object) → IsOpened shelf os → length os < 65536 → length (standing shelf.slots) < 65536
opened_room shelf os h few =
    let a : length (standing shelf.slots) ≡ length os = sym (as_many shelf.slots) ∙ ap (λ (es : List (Name × Object)). length es) h.objects ∙ length-numbered 0 os in
    omega arith

-- one more kernel type
kernel_type_more : (n : ℕ) → replicate n no_object ++ no_object ∷ [] ≡ replicate (n + 1) no_object
kernel_type_more n = replicate-append-replicate n 1 no_object

pub kernel_type_added : (old new : Shelf) (n : ℕ) (ws : List ℕ) (es : List Entry) → ws ≡ [] → es ≡ [] → IsOpened old (replicate n no_object)
    → Adds old new (plain_object (record { 0 = 0 }) ws es) → IsOpened new (replicate (n + 1) no_object)
kernel_type_added old new n ws es w e h a =
    subst (λ (os : List Object). IsOpened new os) (kernel_type_more n)
    (opened_more old new (replicate n no_object) no_object h
    (subst (λ (v : List ℕ). Adds old new (plain_object (record { 0 = 0 }) v [])) w (subst (λ (v : List Entry). Adds old new (plain_object (record { 0 = 0 }) ws v)) e a)))

pub kernel_type_room : (shelf : Shelf) (n : ℕ) → n < 7 → IsOpened shelf (replicate n no_object) → length (standing shelf.slots) < 65536
kernel_type_room shelf n few h = opened_room shelf (replicate n no_object) h (let k = length-replicate n no_object in omega (arith, k))

-- one more object of the script
pub born_more : (born : List Born) (i : ℕ) (d : Born) → i < length born → d ≡ get_or born i d
    → (replicate 7 no_object ++ map (λ (b : Born). object_of b.kind) (take i born)) ++ object_of d.kind ∷ [] ≡ replicate 7 no_object ++ map
    (λ (b : Born). object_of b.kind) (take (i + 1) born)
born_more born i d there read =
    let so_far : List Object = map (λ (b : Born). object_of b.kind) (take i born) in
    append_assoc (replicate 7 no_object) so_far (object_of d.kind ∷ [])
    ∙ ap (λ (x : Born). replicate 7 no_object ++ (so_far ++ object_of x.kind ∷ [])) read
    ∙ ap (λ rest. replicate 7 no_object ++ rest) (sym (map-append (λ (b : Born). object_of b.kind) (take i born) (get_or born i d ∷ [])) ∙ sym
    (ap (map (λ (b : Born). object_of b.kind)) (take_more born i d there)))

pub born_many : (born : List Born) (i : ℕ) → i ≤ length born → length (replicate 7 no_object ++ map (λ (b : Born). object_of b.kind) (take i born)) ≡ 7 + i
born_many born i few =
    let a = length-append (replicate 7 no_object) (map (λ (b : Born). object_of b.kind) (take i born)) in
    let b = length-map (take i born) (λ (b : Born). object_of b.kind) in
    let c = length-take-le i born few in
    let d = length-replicate 7 no_object in
    omega (arith, a, b, c, d)

pub born_added : (old new : Shelf) (born : List Born) (i : ℕ) (d : Born) → i < length born → d ≡ get_or born i d
    → IsOpened old (replicate 7 no_object ++ map (λ (b : Born). object_of b.kind) (take i born)) → Adds old new (object_of d.kind)
    → IsOpened new (replicate 7 no_object ++ map (λ (b : Born). object_of b.kind) (take (i + 1) born))
born_added old new born i d there read h a =
    subst (λ (os : List Object). IsOpened new os) (born_more born i d there read)
    (opened_more old new (replicate 7 no_object ++ map (λ (b : Born). object_of b.kind) (take i born)) (object_of d.kind) h a)

pub born_room : (shelf : Shelf) (born : List Born) (i : ℕ) → i < length born → length born ≤ 65529
    → IsOpened shelf (replicate 7 no_object ++ map (λ (b : Born). object_of b.kind) (take i born)) → length (standing shelf.slots) < 65536
born_room shelf born i there few h =
    opened_room shelf (replicate 7 no_object ++ map (λ (b : Born). object_of b.kind) (take i born)) h (let k = born_many born i (omega arith) in omega (arith, k))

pub born_next : (shelf : Shelf) (born : List Born) (i : ℕ) → i ≤ length born → IsOpened shelf (replicate 7 no_object ++ map (λ (b : Born). object_of b.kind) (take i born))
    → shelf.next.0 ≡ 7 + i
born_next shelf born i few h = h.next ∙ born_many born i few
