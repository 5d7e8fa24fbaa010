-- A pass that shows a stop shows the stop of the book that is left.
use Rattle.std.specs.Prelude.{◌≡◌, ℕ, List, [], ◌∷◌, ◌++◌, Option, Some, None, All}
use Rattle.std.proofs.Common.{ap, sym, ◌∙◌}
use Rattle.hk_model.specs.declared.names.Cpu.{Cpu}
use Rattle.hk_model.specs.declared.lines.Line.{Line}
use Rattle.hk_model.specs.WorldValue.{WorldValue}
use Rattle.hk_model.specs.State.{State}
use Rattle.hk_turn.specs.declared.pass.Pass.{Pass}
use Rattle.hk_turn.specs.Passes.{seen_list}
use Rattle.hk_turn.specs.Turns.{StandsForAll}
use Rattle.hk_procs.specs.declared.notes.Noted.{Noted}
use Rattle.hk_procs.specs.declared.notes.Noted.TheVariants.{Stop}
use Rattle.hk_procs.specs.Notes.{events, owner_of, IsStopped, IsStoppedBy}
use Rattle.hk_shared.specs.declared.book.Book.{Book}
use Rattle.hk_shared.specs.Books.{IsBookOf, stops}

-- lines and a stop begin a book's notes only where the stop is the book's
one_stop : (ls ks : List Line) (cpu : Cpu) (stop : Option Cpu) (rest : List Noted) → (events ls ++ Stop cpu ∷ []) ++ rest ≡ events ks ++ stops stop → stop ≡ Some cpu
one_stop [] [] cpu None rest e = absurd (cc (e))
one_stop [] [] cpu (Some other) rest e = cc (e)
one_stop [] (k ∷ ks) cpu stop rest e = absurd (cc (e))
one_stop (l ∷ ls) [] cpu None rest e = absurd (cc (e))
one_stop (l ∷ ls) [] cpu (Some other) rest e = absurd (cc (e))
one_stop (l ∷ ls) (k ∷ ks) cpu stop rest e = one_stop ls ks cpu stop rest (cc (e))

pub all_show : {K J : Type 0} (state : K → State) (w : WorldValue) (seats : ℕ) (passes : List (Pass Noted)) (b : Book K J)
    → StandsForAll (IsBookOf state w) owner_of seats passes b → All (λ (pass : Pass Noted). IsStopped (seen_list pass)) passes
    → All (λ (pass : Pass Noted). (cpu : Cpu) × (b.stop ≡ Some cpu) × IsStoppedBy cpu (seen_list pass)) passes
all_show state w seats passes b h stopped = λ k d l.
    let s = stopped k d l in let p = (h.2 k d l).0 in
    (s.0, one_stop s.1.0 b.lines.items s.0 b.stop p.0 (ap (λ (ns : List Noted). ns ++ p.0) (sym s.1.1) ∙ (p.1 ∙ sym h.1.0)), s.1)
