use Rattle.std.proofs.Common.{◌≡◌, ◌≤◌, ◌+◌, take, length}
use Rattle.raid_laws.specs.Losses.{AddsCopies}
use Rattle.raid_rack.proofs.losses.add_copies.Given as goal

abbrev pub invariant-loop-place : goal.invariant-loop-place
invariant-loop-place l = record {
  added : AddsCopies l.state (take l.place-index l.place-items) l.fn.log.added l.log.added;
  few : length l.log.added ≤ length l.fn.log.added + l.place-index;
  log : l.log ≡ record l.fn.log { added = l.log.added };
}
