-- What a turn ends as, once the loan of its value ends. docs/TURNS.md, 'A turn'.
use Rattle.std.specs.Prelude.{[]}
use Rattle.std.specs.Borrow.{Lends, Fml, RattleType, MutBor}
use mir.Syntax.{named}
use Rattle.hk_turn.specs.declared.story.Story.{Ghosts}
use Rattle.hk_turn.specs.declared.turn.Turn.{Turn}
use Rattle.hk_turn.specs.contracts.turn.Turn.{the_row}
use Rattle.hk_turn.specs.Turns.{with_value}

-- the turn ends with the value that was written last through the loan, and with all else as before
abbrev pub lends_value : (T E : RattleType) (story : Ghosts T.Denot E.Denot) → MutBor (Turn T.Denot E.Denot) → MutBor T.Denot → Fml
lends_value T E story turn loan = Lends (the_row (record { mir = named 1; lft = [] }) T E story) T turn loan (with_value turn.now)
