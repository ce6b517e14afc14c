use Rattle.std.proofs.Common.{◌≡◌, ◌≢◌, ◌&&◌, ℕ, nat_lt, if◌then◌else◌, None}
use Rattle.std.specs.Prelude.{is_none}
use Rattle.slice_rack.specs.Slices.{place_of, seat_of, first_of, sectors_of}
use Rattle.slice_rack.specs.SliceRack.{tables, below_of}
use Rattle.slice_rack.specs.Sliced.{slices_of}
use Rattle.pool_check.specs.Drives.{seats_by}
use Rattle.assembler.proofs.checks.unseat_lost.Given as goal

abbrev pub invariant-loop-place : goal.invariant-loop-place
invariant-loop-place g l = record {
  below : below_of l.slices ≡ below_of l.initial.slices;
  fit : (slices_of (tables l.slices) (g.R.Rack.seen (below_of l.slices))).fit;
  seats : (p : ℕ) → seat_of (tables l.slices) p ≡ (if nat_lt p l.place && is_none (seats_by l.seats p) then None else seat_of (tables l.initial.slices) p);
  firsts : (k : ℕ) → seats_by l.seats (place_of k) ≢ None → first_of (tables l.slices) k ≡ first_of (tables l.initial.slices) k;
  sectors : (k : ℕ) → seats_by l.seats (place_of k) ≢ None → sectors_of (tables l.slices) k ≡ sectors_of (tables l.initial.slices) k;
}
