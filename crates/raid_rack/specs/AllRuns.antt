-- What calls in a row of a rack of arrays keep.
use Rattle.std.proofs.Common.{◌≡◌, ℕ, ◌+◌, ◌<◌, Bool, false, refl, sym, subst, ◌∙◌}
use Rattle.rack.specs.Values.{Keeps}
use Rattle.rack.specs.Seen.{RackView, IsLive}
use Rattle.rack.specs.Joins.{keeps_same, keeps_then, rose_before, rose_since}
use Rattle.slice_rack.specs.SliceRack.{below_of, tables}
use Rattle.slice_rack.specs.Runs.{runs_join, runs_none}
use Rattle.array_image.specs.Places.{slice_of}
use Rattle.array_model.specs.View.{sectors_of}
use Rattle.raid_rack.specs.declared.arrays.RaidRack.{RaidRack}
use Rattle.raid_laws.specs.Raid.{Raid, live_of}
use Rattle.raid_laws.specs.Moves.{KeepsArrays, RaisesBy}
use Rattle.raid_laws.specs.Cleaning.{NoneFails}
use Rattle.raid_laws.specs.Losing.{arrays_same, arrays_then}
use Rattle.raid_rack.specs.RaidRack.{SliceRuns, raid_in, refused_in, slices_in, slices_seen, written_in}
use Rattle.raid_laws.specs.Runs.{RaidRuns, raid_runs_same, raid_runs_then}

-- No spent sector comes back, and an array of which no sector is spent in the end has refused nothing meanwhile. Nothing of an array
-- changes but whom it lost, its events, the rows that its superblocks leave and its mark, and a plan stays. `before` and `now` are the spent answers of each array.
pub record Serves (v w : Raid) (before now : ℕ → ℕ) : Type 0 where
  pub sectors : (n : ℕ) → sectors_of (w.arrays n) ≡ sectors_of (v.arrays n)
  pub spent : (n y : ℕ) → live_of w n y → live_of v n y
  pub arrays : KeepsArrays v w
  pub plan : w.state.plan ≡ v.state.plan
  pub refused : (n : ℕ) → ((y : ℕ) → y < sectors_of (w.arrays n) → live_of w n y) → now n ≡ before n

-- no call serves
pub serves_same : (v : Raid) (counts : ℕ → ℕ) → Serves v v counts counts
serves_same v counts = record { sectors = λ n. refl; spent = λ n y alive. alive; arrays = arrays_same v; plan = refl; refused = λ n alive. refl }

-- calls in a row do
pub serves_then : (v w z : Raid) (f g h : ℕ → ℕ) → w.state.made ≡ v.state.made → Serves v w f g → Serves w z g h → Serves v z f h
serves_then v w z f g h made one two = record {
  sectors = λ n. two.sectors n ∙ one.sectors n;
  spent = λ n y alive. one.spent n y (two.spent n y alive);
  arrays = arrays_then v w z made one.arrays two.arrays;
  plan = two.plan ∙ one.plan;
  refused = λ n alive.
      two.refused n alive
      ∙ one.refused n (λ y inside. two.spent n y (alive y (subst (λ k. y < k) (sym (two.sectors n)) inside)));
}

-- Where no drive refuses a call, the slices of the arrays that aren't written hold what they held, superblocks and all.
abbrev pub Spares : (ℕ → Bool) → RackView → RackView → Type 0
Spares written a b =
    NoneFails a b → (n d t : ℕ) → written n ≡ false → slice_of d ≡ n + 1 → IsLive a b d t → Keeps (a.held d t) (b.held d t)

-- no call spares all
pub spares_same : (written : ℕ → Bool) (x : RackView) → Spares written x x
spares_same written x none n d t not own live = keeps_same (x.held d t)

-- calls in a row spare what is written in none of them
pub spares_then : (p q r : ℕ → Bool) (v w z : Raid) (a b c : RackView) → RaidRuns p q v w a b → RaidRuns q r w z b c → Spares q a b → Spares r b c → Spares r a c
spares_then p q r v w z a b c one two first second none n d t not own live =
    keeps_then (a.held d t) (b.held d t) (c.held d t)
    (first (λ place fault. none place (fault.0, fault.1, rose_before (two.faults fault.0) fault.2)) n d t (two.written n not) own
    (record {
      disk = subst (λ k. d < k) two.disks live.disk;
      sector = subst (λ k. t < k) (two.sectors d) live.sector;
      is_told = live.is_told;
      unspent = two.unspent d t live.unspent;
    }))
    (second (λ place fault. none place (fault.0, fault.1, rose_since (one.faults fault.0) fault.2)) n d t not own
    (record { disk = live.disk; sector = live.sector; is_told = one.told_below d live.is_told; unspent = live.unspent }))

-- A single call: its numbers rise by a bounded number, nothing of an array changes but whom it lost, and a plan stays.
pub record IsOneCall (v w : Raid) : Type 0 where
  pub raises : RaisesBy 18 v w
  pub made : w.state.made ≡ v.state.made
  pub arrays : KeepsArrays v w
  pub plan : w.state.plan ≡ v.state.plan

-- what calls on the slices below keep, what is done to the book and to images, and what is refused
abbrev pub AreCalls : {R : Type 0} → (R → RackView) → (R → R → Type 0) → RaidRack R → RaidRack R → Type 0
AreCalls seen runs x y =
    SliceRuns seen runs (slices_in x) (slices_in y)
    × RaidRuns (written_in x) (written_in y) (raid_in x) (raid_in y) (slices_seen seen x) (slices_seen seen y)
    × Serves (raid_in x) (raid_in y) (refused_in x) (refused_in y)

-- no call keeps all
pub calls_same : {R : Type 0} (seen : R → RackView) (runs : R → R → Type 0) (x : RaidRack R) → runs (below_of (slices_in x)) (below_of (slices_in x)) → AreCalls seen runs x x
calls_same seen runs x same = (
  runs_none (tables (slices_in x)) (seen (below_of (slices_in x))) (runs (below_of (slices_in x)) (below_of (slices_in x))) same,
  raid_runs_same (written_in x) (raid_in x) (slices_seen seen x),
  serves_same (raid_in x) (refused_in x),
)

-- calls in a row keep what each of them does
pub calls_then : {R : Type 0} (seen : R → RackView) (runs : R → R → Type 0) (x y z : RaidRack R)
    → (runs (below_of (slices_in x)) (below_of (slices_in y)) → runs (below_of (slices_in y)) (below_of (slices_in z)) → runs (below_of (slices_in x)) (below_of (slices_in z)))
    → AreCalls seen runs x y → AreCalls seen runs y z → AreCalls seen runs x z
calls_then seen runs x y z join one two = (
  runs_join (tables (slices_in x)) (tables (slices_in y)) (tables (slices_in z))
      (seen (below_of (slices_in x))) (seen (below_of (slices_in y))) (seen (below_of (slices_in z)))
      (runs (below_of (slices_in x)) (below_of (slices_in y))) (runs (below_of (slices_in y)) (below_of (slices_in z)))
      (runs (below_of (slices_in x)) (below_of (slices_in z))) one.0 two.0 (join one.0.below two.0.below),
  raid_runs_then (written_in x) (written_in y) (written_in z) (raid_in x) (raid_in y) (raid_in z) (slices_seen seen x) (slices_seen seen y) (slices_seen seen z) one.1 two.1,
  serves_then (raid_in x) (raid_in y) (raid_in z) (refused_in x) (refused_in y) (refused_in z) one.1.book.same.made one.2 two.2,
)

-- what calls on the slices below keep, what is done to the book and to images, what is refused, and what is spared
abbrev pub AreRuns : {R : Type 0} → (R → RackView) → (R → R → Type 0) → RaidRack R → RaidRack R → Type 0
AreRuns seen runs x y =
    SliceRuns seen runs (slices_in x) (slices_in y)
    × RaidRuns (written_in x) (written_in y) (raid_in x) (raid_in y) (slices_seen seen x) (slices_seen seen y)
    × Serves (raid_in x) (raid_in y) (refused_in x) (refused_in y)
    × Spares (written_in y) (slices_seen seen x) (slices_seen seen y)
