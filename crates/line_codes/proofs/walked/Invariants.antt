-- `walked`: one walk along a line of allowed bytes for both 12 and 13.
use Rattle.std.proofs.Common.{◌≡◌, ◌&&◌}
use Rattle.whole.specs.Lists.{all}
use Rattle.text.specs.Token.{tokens}
use Rattle.text.specs.Front.{left_of}
use Rattle.line_codes.specs.Line.{before, sound_token}
use Rattle.line_codes.specs.Parts.{stand_of}
use Rattle.line_codes.proofs.Along.{along}
use Rattle.line_codes.proofs.walked.Given as goal

abbrev pub invariant-loop-piece : goal.invariant-loop-piece
invariant-loop-piece l =
    record {
      form : along l.most (stand_of l.part) (left_of l.piece-iterator) ≡ along l.most before (tokens l.s);
      numbers : (l.sound && all sound_token (left_of l.piece-iterator)) ≡ all sound_token (tokens l.s);
    }
