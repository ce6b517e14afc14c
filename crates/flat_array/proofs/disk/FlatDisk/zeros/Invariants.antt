-- Each sector so far has its zeros alone.
use Rattle.std.proofs.Common.{◌≡◌, [], ◌∷◌, length}
use Rattle.std.specs.Prelude.{All}
use Rattle.flat_array.specs.Disk.{zero_sector}
use Rattle.flat_array.proofs.disk.FlatDisk.zeros.Given as goal

abbrev pub invariant-loop : goal.invariant-loop
invariant-loop l =
    record {
      count : length l.kept.items ≡ l.counter;
      zeros : All (λ kept. kept.items ≡ zero_sector ∷ []) l.kept.items;
    }
