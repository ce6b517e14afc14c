-- Bytes without a line feed have been read; at most the rest of the limit is left.
use Rattle.std.proofs.Common.{◌-◌, ◌≤◌, ◌++◌}
use Rattle.shr_script.specs.Reading.{ReadsPart}
use Rattle.shr_script.specs.Pieces.{pending, line_of, taken_by}
use Rattle.shr_script.proofs.reader.LineReader.next.Given as goal

abbrev pub invariant-spans : goal.invariant-spans
invariant-spans g l =
    let left = g.I.Source.left in
    record {
      told : g.I.Source.told l.fn.input → g.I.Source.told l.input;
      part :
          g.I.Source.told l.fn.input
          → ReadsPart (pending l.fn.self ++ left l.fn.input) (pending l.self ++ left l.input) (line_of l.self) l.fn.self.consumed l.self.consumed;
      faults : g.I.Source.faults l.fn.input ≤ g.I.Source.faults l.input;
      within : taken_by l.self ≤ l.limit;
      grows : l.fn.self.consumed ≤ l.self.consumed;
    }

abbrev pub decreases-spans : goal.decreases-spans
decreases-spans g l = l.limit - l.self.consumed
