use Rattle.std.proofs.Common.{◌≡◌, ◌-◌, ◌≤◌, map, length}
use Rattle.std.specs.List.{slice_range}
use Rattle.hk_format.specs.Texts.{pieces_of}
use Rattle.hk_text.specs.Views.{seen, texts_of, LieBetween}
use Rattle.hk_text.proofs.Turns.{after_front}
use Rattle.hk_text.proofs.Ends.{text_end}
use Rattle.hk_text.proofs.text.cut_text.Given as goal

abbrev pub invariant-loop-at : goal.invariant-loop-at
invariant-loop-at l = record {
  high : l.start ≤ l.at;
  low : l.at ≤ length l.source;
  end : text_end l.source l.at ≡ text_end l.source l.start;
  rest : after_front (map (seen l.source) l.pieces.items) (pieces_of (texts_of (slice_range l.source l.at (text_end l.source l.at))))
      ≡ pieces_of (texts_of (slice_range l.source l.start (text_end l.source l.start)));
  spans : LieBetween l.start l.at l.pieces.items;
}

abbrev pub decreases-loop-at : goal.decreases-loop-at
decreases-loop-at l = length l.source - l.at
