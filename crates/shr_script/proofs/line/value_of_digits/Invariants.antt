-- The value so far is that of the digits so far.
use Rattle.std.proofs.Common.{◌≡◌, ◌<◌, ◌^◌, take}
use Rattle.std.specs.Str.Parse.{digits_value}
use Rattle.shr_script.proofs.line.value_of_digits.Given as goal

abbrev pub invariant-loop-digit : goal.invariant-loop-digit
invariant-loop-digit l =
    record {
      value : l.value ≡ digits_value 10 (take l.digit-index l.word);
      small : l.value < 10 ^ l.digit-index;
    }
