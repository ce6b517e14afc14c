-- What stops inside an opening leave, part by part: the drives as they were checked, the arrays made, the texts brought up.
use Rattle.std.proofs.Common.{◌≡◌, ℕ, ◌<◌, ◌≤◌, List, None, refl, sym, ap, subst, ◌∙◌, arith}
use Rattle.rack.specs.Seen.{Image, RackView}
use Rattle.rack.specs.Joins.{leaves_then, leaves_weaker}
use Rattle.rack.specs.Moments.{Leaves}
use Rattle.rack.specs.Sequences.{OnlyReads, WritesOnly}
use Rattle.slice_rack.specs.Slices.{Slices, IsOrderly, sectors_of}
use Rattle.slice_rack.specs.Sliced.{sliced, slices_of as slices_seen}
use Rattle.slice_rack.specs.SliceRack.{below_of, tables}
use Rattle.array_image.specs.Arrays.{arrays_in, replayed}
use Rattle.log_laws.specs.View.{LogView}
use Rattle.log_laws.specs.Standing.{IsAlike}
use Rattle.lvm_group.specs.Brought.{IsBefore}
use Rattle.lvm_group.specs.Runs.{IsOrderly as AreOrderly, Linear, data_start}
use Rattle.lvm_group.specs.Shown.{IsInside}
use Rattle.pool_state.specs.declared.contents.State.{State}
use Rattle.pool_image.specs.Alike.{IsSamePool}
use Rattle.pool_image.specs.Drives.{Found}
use Rattle.pool_image.specs.Meaning.{Volume, arrays_held, joined_arrays, volume_by}
use Rattle.pool_image.specs.Volumes.{Arrays, linear_of}
use Rattle.pool_image.proofs.Founds.{joined_same}
use Rattle.raid_rack.specs.AllRuns.{AreCalls}
use Rattle.pool_check.specs.declared.Checked.{Checked}
use Rattle.pool_check.specs.Checking.{IsChecked}
use Rattle.pool_check.specs.Refusing.{is_well}
use Rattle.raid_rack.specs.declared.arrays.RaidRack.{RaidRack}
use Rattle.raid_laws.specs.Raid.{Raid}
use Rattle.raid_rack.specs.RaidRack.{raid_in, raid_seen, slices_in, slices_seen as slices_shown}
use Rattle.pool_model.specs.Grouped.{IsVolumeOf}
use Rattle.assembler_laws.specs.Members.{AreMembers}
use Rattle.pool_model.specs.Pools.{IsSoundPool}
use Rattle.assembler_laws.specs.Holding.{AreSteady, HoldsArrays, IsIdle, IsPoolOn}
use Rattle.assembler_laws.specs.Moments.{GivesPool, HoldsAt}
use Rattle.assembler.specs.Volume.{AllLive, OpensVolume}
use Rattle.assembler.proofs.Volumes.{opened_writes}
use Rattle.assembler.proofs.Moments.{GivesArrays, alike_values, brought_leave, e, gives_volume, made_leave, read_leave}

-- What holds of the arrays' contents at each moment from one rack of arrays to another holds of what the disks below give.
pub brought_says : {R : Type 0} (seen : R → RackView) (raid last : RaidRack R) (P : Image → Type 0) (later : ℕ → ℕ → List ℕ → Type 0)
    → Leaves (raid_seen seen raid) (raid_seen seen last) P → WritesOnly (seen (below_of (slices_in raid))) (seen (below_of (slices_in last))) later
    → (seen (below_of (slices_in raid))).traced
    → Leaves (seen (below_of (slices_in raid))) (seen (below_of (slices_in last)))
    (λ i. P (arrays_in (replayed (sectors_of (tables (slices_in last))) (sliced (tables (slices_in last)) i))))
brought_says seen raid last P later late written traced =
    let stops = written.stops traced in
    record {
      later = stops.later;
      kept = stops.kept;
      past = stops.past;
      new = λ k i since until stop.
          late.new k (arrays_in (replayed (sectors_of (tables (slices_in last))) (sliced (tables (slices_in last)) i))) since until
          (sliced (tables (slices_in last)) i, (i, stop, λ j u. refl), λ j u. refl);
    }

module _ (f : Found) (t : Slices) (y : RackView) (checked : Checked) (absent : List ℕ) (orderly : IsOrderly t)
    (m : AreMembers f.state t y checked absent) (steady : AreSteady y) (pool : IsPoolOn f.state t y f)
    (found : IsChecked (is_well None) f checked) (sound : IsSoundPool f) (log : LogView) (idle : IsIdle f.state t y log) where
  -- contents that are, replayed, as the checked drives read
  abbrev pub IsAsRead : Image → Type 0
  IsAsRead i = IsAlike (replayed (sectors_of t) (sliced t i)) (e f t y checked absent orderly m steady pool found sound)

  pub opening_leaves : {R : Type 0} (seen : R → RackView) (runs : R → R → Type 0) (a : RackView) (raid last : RaidRack R) (l : Linear) (seqno : ℕ) (of : IsVolumeOf f l)
      (may : ℕ → ℕ → List ℕ → Type 0) (later : ℕ → ℕ → List ℕ → Type 0)
      → Leaves a y IsAsRead
      → HoldsArrays f (raid_in raid) (slices_seen t y) (slices_shown seen raid) → AllLive (raid_in raid) → AllLive (raid_in last)
      → tables (slices_in raid) ≡ t → WritesOnly y (seen (below_of (slices_in raid))) may → y.traced
      → OpensVolume seen runs raid last l seqno → AreOrderly l → IsInside l (raid_seen seen last)
      → WritesOnly (seen (below_of (slices_in raid))) (seen (below_of (slices_in last))) later → (seen (below_of (slices_in raid))).traced
      → Leaves a (seen (below_of (slices_in last))) (HoldsAt (tables (slices_in last)) l (volume_by (linear_of (joined_arrays f) of.group) (arrays_held f)))
  opening_leaves seen runs a raid last l seqno of may later early holds made alive same writes traced opens ordered inside written after =
      let v : Raid = raid_in raid in
      let z : RackView = seen (below_of (slices_in raid)) in
      let w : RackView = seen (below_of (slices_in last)) in
      let volume : Volume = volume_by (linear_of (joined_arrays f) of.group) (arrays_held f) in
      let p = raid_seen seen raid in
      let q = raid_seen seen last in
      let book = holds.after.same in
      let gives : (i : Image) → GivesArrays f v t i → HoldsAt t l volume i =
      λ i. gives_volume f l of q v t i ordered inside (λ n. opens.kept.2.sectors n) in
      let one : Leaves a y (HoldsAt t l volume) =
      leaves_weaker IsAsRead (HoldsAt t l volume)
      (λ i alike. gives i (λ n s joined low. alike_values f t y checked absent orderly m steady pool found sound n joined log idle (replayed (sectors_of t) (sliced t i)) alike s)) early in
      let two : Leaves y z (HoldsAt t l volume) =
      leaves_weaker (GivesArrays f v t) (HoldsAt t l volume) gives
      (made_leave f v t y z may (subst (λ u. HoldsArrays f v (slices_seen t y) (slices_seen u z)) same holds) made writes traced) in
      let three : Leaves z w (HoldsAt (tables (slices_in last)) l volume) =
      brought_leave seen f (slices_seen t y) raid last later l of holds alive (opens.kept.1.book.same.joined ∙ book.joined) ordered inside
      (subst (λ k. WritesOnly p q (IsBefore k)) book.joined (opened_writes seen runs raid last l seqno opens)) written after in
      let there : tables (slices_in last) ≡ t = opens.kept.0.tables ∙ same in
      leaves_then (HoldsAt (tables (slices_in last)) l volume)
      (subst (λ u. Leaves a z (HoldsAt u l volume)) (sym there) (leaves_then (HoldsAt t l volume) one two))
      three

  -- and what holds of contents that before their first extents have what the pool's arrays hold there, where it holds while texts are brought up
  pub saying_leaves : {R : Type 0} (seen : R → RackView) (a : RackView) (raid last : RaidRack R) (P : Image → Type 0)
      (may : ℕ → ℕ → List ℕ → Type 0) (later : ℕ → ℕ → List ℕ → Type 0)
      → Leaves a y IsAsRead
      → HoldsArrays f (raid_in raid) (slices_seen t y) (slices_shown seen raid) → AllLive (raid_in raid)
      → tables (slices_in raid) ≡ t → tables (slices_in last) ≡ t → WritesOnly y (seen (below_of (slices_in raid))) may → y.traced
      → ((c : Image) → ((n s : ℕ) → n < f.state.joined → s < data_start → c n s ≡ arrays_held f n s) → P c)
      → Leaves (raid_seen seen raid) (raid_seen seen last) P
      → WritesOnly (seen (below_of (slices_in raid))) (seen (below_of (slices_in last))) later → (seen (below_of (slices_in raid))).traced
      → Leaves a (seen (below_of (slices_in last))) (λ i. P (arrays_in (replayed (sectors_of (tables (slices_in last))) (sliced (tables (slices_in last)) i))))
  saying_leaves seen a raid last P may later early holds made same there writes traced given late written after =
      let v : Raid = raid_in raid in
      let z : RackView = seen (below_of (slices_in raid)) in
      let w : RackView = seen (below_of (slices_in last)) in
      let says : Slices → Image → Type 0 = λ u i. P (arrays_in (replayed (sectors_of u) (sliced u i))) in
      let one : Leaves a y (says t) =
      leaves_weaker IsAsRead (says t)
      (λ i alike.
      given (arrays_in (replayed (sectors_of t) (sliced t i)))
      (λ n s joined first. alike_values f t y checked absent orderly m steady pool found sound n joined log idle (replayed (sectors_of t) (sliced t i)) alike s)) early in
      let two : Leaves y z (says t) =
      leaves_weaker (GivesArrays f v t) (says t)
      (λ i gives.
      given (arrays_in (replayed (sectors_of t) (sliced t i)))
      (λ n s joined first. gives n s joined (let room = holds.room n joined in let size = holds.sectors n joined in omega (arith, room, size, first))))
      (made_leave f v t y z may (subst (λ u. HoldsArrays f v (slices_seen t y) (slices_seen u z)) same holds) made writes traced) in
      let three : Leaves z w (says (tables (slices_in last))) = brought_says seen raid last P later late written after in
      leaves_then (says (tables (slices_in last))) (subst (λ u. Leaves a z (says u)) (sym there) (leaves_then (says t) one two)) three

  -- and where an array is bad, and nothing is written any more, the arrays
  pub refused_leaves : {R : Type 0} (seen : R → RackView) (runs : R → R → Type 0) (a : RackView) (raid last : RaidRack R) (g : Found)
      (may : ℕ → ℕ → List ℕ → Type 0) (later : ℕ → ℕ → List ℕ → Type 0) → IsSamePool g f
      → Leaves a y IsAsRead
      → HoldsArrays f (raid_in raid) (slices_seen t y) (slices_shown seen raid) → AllLive (raid_in raid) → AllLive (raid_in last)
      → (raid_in raid).state.joined ≤ (raid_in raid).state.made
      → tables (slices_in raid) ≡ t → WritesOnly y (seen (below_of (slices_in raid))) may → y.traced
      → AreCalls seen runs raid last → OnlyReads (raid_seen seen raid) (raid_seen seen last)
      → WritesOnly (seen (below_of (slices_in raid))) (seen (below_of (slices_in last))) later → (seen (below_of (slices_in raid))).traced
      → Leaves a (seen (below_of (slices_in last))) (GivesPool g t)
  refused_leaves seen runs a raid last g may later pool_is early holds made alive ready same writes traced kept reads written after =
      let v : Raid = raid_in raid in
      let z : RackView = seen (below_of (slices_in raid)) in
      let w : RackView = seen (below_of (slices_in last)) in
      let book = holds.after.same in
      let joined_is : f.state.joined ≡ g.state.joined = ap (λ (s : State). s.joined) pool_is.state in
      let gives : (i : Image) → GivesArrays f v t i → GivesPool g t i =
      λ i all n s joined low.
      let here : n < f.state.joined = omega (arith, joined, joined_is) in
      all n s here
      (subst (λ k. s < k) (sym (holds.sectors n here)) (subst (λ (k : Arrays). s < k.sectors n) (sym (joined_same g f pool_is)) low))
      ∙ ap (λ (k : Arrays). k.contents n s) (joined_same g f pool_is) in
      let one : Leaves a y (GivesPool g t) =
      leaves_weaker IsAsRead (GivesPool g t)
      (λ i alike. gives i (λ n s joined low. alike_values f t y checked absent orderly m steady pool found sound n joined log idle (replayed (sectors_of t) (sliced t i)) alike s)) early in
      let two : Leaves y z (GivesPool g t) =
      leaves_weaker (GivesArrays f v t) (GivesPool g t) gives
      (made_leave f v t y z may (subst (λ u. HoldsArrays f v (slices_seen t y) (slices_seen u z)) same holds) made writes traced) in
      let there : tables (slices_in last) ≡ t = kept.0.tables ∙ same in
      let book_last = kept.1.book.same in
      let few : f.state.joined ≤ (raid_in last).state.made = (let one = book.joined in let two = book_last.made in omega (arith, one, two, ready)) in
      let three : Leaves z w (GivesPool g t) =
      leaves_weaker (GivesArrays f v t) (GivesPool g t) gives
      (subst (λ u. Leaves z w (GivesArrays f v u)) there
      (read_leave seen f (slices_seen t y) raid last later holds alive (book_last.joined ∙ book.joined) few (λ n. kept.2.sectors n) reads written after)) in
      leaves_then (GivesPool g t) (leaves_then (GivesPool g t) one two) three
