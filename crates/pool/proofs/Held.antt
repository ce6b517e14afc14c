-- The arrays of a pool keep what they hold.
use Rattle.std.proofs.Common.{◌≡◌, ℕ, ◌<◌, refl, sym, subst, ◌∙◌, arith}
use Rattle.rack.specs.Joins.{keeps_same, keeps_then}
use Rattle.rack.specs.Seen.{RackView}
use Rattle.rack.specs.Sequences.{OnlyReads}
use Rattle.slice_rack.specs.Slices.{IsOrderly, Slices, disk_of, place_of}
use Rattle.slice_rack.specs.Sliced.{slices_of}
use Rattle.array_image.specs.Places.{log_slice}
use Rattle.raid_rack.specs.declared.arrays.Arrays.{Arrays}
use Rattle.raid_laws.specs.Laws.{live_parts, stops_inside}
use Rattle.raid_laws.specs.Moves.{ChangesNoData}
use Rattle.raid_laws.specs.Raid.{Raid, live_of}
use Rattle.raid_rack.specs.RaidRack.{IsFit, raid_by}
use Rattle.raid_laws.proofs.Apart.{moves_quiet, seat_is}
use Rattle.raid_laws.proofs.Moving.{moves_bring}
use Rattle.raid_laws.proofs.Over.{someone_left}
use Rattle.raid_rack.proofs.Serving.{brings_keep}
use Rattle.raid_laws.proofs.Whole.{heeded_left}
use Rattle.pool.specs.Held.{KeepsHeld}
use Rattle.pool.specs.View.{View, book, slices_shown, volume}

pub held_same : (v : Raid) (a : RackView) → KeepsHeld v v a a
held_same v a = record {
  sectors = λ n. refl;
  live = λ n s low alive. alive;
  told = λ n s low alive told. told;
  keeps = λ n s low within alive told. keeps_same _;
}

pub held_then : (u v w : Raid) (a b c : RackView) → v.state.made ≡ u.state.made → KeepsHeld u v a b → KeepsHeld v w b c → KeepsHeld u w a c
held_then u v w a b c made one two = record {
  sectors = λ n. two.sectors n ∙ one.sectors n;
  live = λ n s low alive. one.live n s low (two.live n s (omega (arith, low, made)) alive);
  told = λ n s low alive told.
      let less : n < v.state.made = omega (arith, low, made) in
      two.told n s less alive (one.told n s low (two.live n s less alive) told);
  keeps = λ n s low within alive told.
      let less : n < v.state.made = omega (arith, low, made) in
      let mid = two.live n s less alive in
      keeps_then _ _ _ (one.keeps n s low within mid told)
      (two.keeps n s less (subst (λ k. s < k) (sym (one.sectors n)) within) alive (one.told n s low mid told));
}

-- a call of the arrays that moves no value
pub held_moves : (x : View) (b : RackView) (u : Slices) (z : Arrays) → (volume x).fit → IsFit z (slices_of u b)
    → ChangesNoData (book x) (raid_by z) (slices_shown x) (slices_of u b) → KeepsHeld (book x) (raid_by z) (slices_shown x) (slices_of u b)
held_moves x b u z fit after moves =
    let keeps = brings_keep {r = x.refused} x.arrays z (slices_shown x) (slices_of u b) fit.0 after (stops_inside u b) (moves_bring (book x) (raid_by z) (slices_shown x) (slices_of u b) moves) in
    record {
      sectors = moves.sectors;
      live = λ n s low alive. keeps.stays.spent n s alive;
      told = λ n s low alive told. keeps.stays.told n told;
      keeps = λ n s low within alive told.
          let made = moves.book.same.made in
          keeps.keeps.held n s
          (record {
            disk = omega (arith, low, made);
            sector = subst (λ k. s < k) (sym (moves.sectors n)) within;
            is_told = told;
            unspent = alive;
          });
    }

-- nothing of the slices was written
pub held_reads : (x : View) (b : RackView) → (volume x).fit → IsFit x.arrays (slices_of x.slices b) → OnlyReads (slices_shown x) (slices_of x.slices b)
    → KeepsHeld (book x) (book x) (slices_shown x) (slices_of x.slices b)
held_reads x b fit after reads = held_moves x b x.slices x.arrays fit after (moves_quiet (book x) (slices_shown x) (slices_of x.slices b) fit.0.running.set reads)

-- a pool of which a sector of an array can be had has a disk
pub live_disk : (x : View) (n s : ℕ) → IsOrderly x.slices → (volume x).fit → live_of (book x) n s → 0 < x.bay.disks
live_disk x n s orderly fit alive =
    let v = book x in
    let one = someone_left v n (live_parts v n s alive).0 in
    let p = one.0 in
    let left = heeded_left v p fit.0.heeded one.1 in
    let long = fit.0.running.set.logs p left in
    let seat = seat_is x.slices (log_slice p) 0 orderly (omega (arith, long)) in
    let low = fit.0.running.set.fit.1.seats (place_of (log_slice p)) (disk_of x.slices (log_slice p)) seat in
    omega (arith, low)
