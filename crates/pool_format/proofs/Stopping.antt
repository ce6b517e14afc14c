-- What stops inside the making of a pool leave.
use Rattle.std.proofs.Common.{◌≡◌, ◌≢◌, ◌⊎◌, ℕ, ◌<◌, List, length, Result, sym, subst, inl, inr, arith}
use Rattle.rack.specs.declared.Gone.{Gone}
use Rattle.rack.specs.Values.{MayLeave}
use Rattle.rack.specs.Seen.{Image, IsLive, IsPick, RackView, SameRack, appended}
use Rattle.rack.specs.Moments.{Leaves}
use Rattle.rack.specs.Joins.{leaves_same, leaves_then, leaves_weaker, live_first, live_second, stays_then}
use Rattle.rack.specs.Sequences.{IsMix, WritesDurably, WritesOnly}
use Rattle.rack.proofs.Writing.{appended_may}
use Rattle.gpt_table.specs.Disk.{now_on}
use Rattle.array_image.specs.Places.{state_sector}
use Rattle.pool_format.specs.declared.Birth.{Birth}
use Rattle.pool_format.specs.declared.planning.NewPool.{NewPool}
use Rattle.pool_format.specs.Plan.{HasRoom, IsPlan}
use Rattle.pool_format.specs.Data.{IsGroupRead}
use Rattle.pool_format.specs.Drives.{HasParts, IsCopyOf, IsWhole, LeavesCleared, LeavesSingle, LeavesState, no_state}
use Rattle.pool_format.specs.Stops.{CopiesInOrder, HaveCopiesTo, IsStop, StopsAmid, Stood, clearing, filling, saying}
use Rattle.pool_format.specs.Writing.{InCleared, InFilling, InStates}
use Rattle.pool_format.proofs.Building.{parts_agree, parts_first, whole_live}
use Rattle.pool_format.proofs.Leaving.{cleared_still, filling_unstated}
use Rattle.pool_format.proofs.Laying.{room_then}

-- two properties of what stops leave
leaves_both : {a b : RackView} (P Q : Image → Type 0) → Leaves a b P → Leaves a b Q → Leaves a b (λ c. P c × Q c)
leaves_both P Q one two = record {
  later = one.later;
  kept = one.kept;
  past = one.past;
  new = λ k c after until stops. (one.new k c after until stops, two.new k c after until stops);
}

-- ---- while copies are written

-- the copies of the places before one
abbrev pub InStatesTo : NewPool → ℕ → ℕ → ℕ → List ℕ → Type 0
InStatesTo plan place d s v = InStates plan d s v × (d < place)

pub copies_none : (plan : NewPool) (birth : Birth) (a : RackView) → CopiesInOrder plan birth a a
copies_none plan birth a traced = leaves_same a (λ c. (k : ℕ) × HaveCopiesTo plan birth a a (Stood a) k c)

-- one copy more
module _ (plan : NewPool) (birth : Birth) (a m b : RackView) (place : ℕ) (v : List ℕ) (r : Result (Unit {0}) Gone) (so_far : WritesOnly a m (InStatesTo plan place))
    (states : (d : ℕ) → d < place → LeavesState plan birth d a m) (copy : IsCopyOf plan birth place v) (writes : WritesDurably m b place state_sector v r) where
  longer : (c : Image) → (k : ℕ) × HaveCopiesTo plan birth a m (Stood a) k c → (k : ℕ) × HaveCopiesTo plan birth a b (Stood a) k c
  longer c have = (
    have.0,
    record {
      before = λ d below live. have.1.before d below (live_first writes.stays live);
      here = λ live. have.1.here (live_first writes.stays live);
      behind = λ d above live. have.1.behind d above (live_first writes.stays live);
    },
  )

  written_one : (c : Image) → IsPick m b (appended m.held place state_sector v) c → (d : ℕ) → IsLive a b d state_sector
      → MayLeave (m.held d state_sector) (c d state_sector) ⊎ ((d ≡ place) × (state_sector ≡ state_sector) × (c d state_sector ≡ v))
  written_one c pick d live = appended_may m.held place state_sector v d state_sector (c d state_sector) (pick d state_sector (live_second so_far.stays live))

  stood : (d : ℕ) (u : List ℕ) → (d < place → ⊥) → IsLive a b d state_sector → MayLeave (m.held d state_sector) u → Stood a d u
  stood d u not_yet live left = (so_far.others d state_sector (live_first writes.stays live) (λ w at. not_yet at.1)).within u left

  now_one : (c : Image) → IsPick m b (appended m.held place state_sector v) c → (k : ℕ) × HaveCopiesTo plan birth a b (Stood a) k c
  now_one c pick = (
    place,
    record {
      before = λ d below live.
          elim (written_one c pick d live) [
            | inl old ↦
                let state = states d below in
                subst (IsCopyOf plan birth d) (sym (state.single state_sector (live_first writes.stays live) (c d state_sector) old)) (state.state (live_first writes.stays live))
            | inr new ↦ let same = new.0 in absurd (omega (arith, below, same))
          ];
      here = λ live.
          elim (written_one c pick place live) [
            | inl old ↦ inr (stood place (c place state_sector) (λ less. omega (arith, less)) live old)
            | inr new ↦ inl (subst (IsCopyOf plan birth place) (sym new.2) copy)
          ];
      behind = λ d above live.
          elim (written_one c pick d live) [
            | inl old ↦ stood d (c d state_sector) (λ less. omega (arith, less, above)) live old
            | inr new ↦ let same = new.0 in absurd (omega (arith, above, same))
          ];
    },
  )

  pub copies_more : CopiesInOrder plan birth a m → CopiesInOrder plan birth a b
  copies_more copies traced =
      leaves_then
      (λ c. (k : ℕ) × HaveCopiesTo plan birth a b (Stood a) k c)
      (leaves_weaker (λ c. (k : ℕ) × HaveCopiesTo plan birth a m (Stood a) k c) (λ c. (k : ℕ) × HaveCopiesTo plan birth a b (Stood a) k c) longer (copies traced))
      (leaves_weaker (IsPick m b (appended m.held place state_sector v)) (λ c. (k : ℕ) × HaveCopiesTo plan birth a b (Stood a) k c) now_one
      (writes.stops (so_far.stays.traced traced)))

-- ---- the whole making

module _ (plan : NewPool) (birth : Birth) (a b : RackView) where
  -- copies are cleared
  pub stops_clearing : (m : RackView) → WritesOnly a m (InCleared plan) → SameRack m b → a.traced → Leaves a m (IsStop plan birth a b)
  stops_clearing m only stays traced =
      leaves_weaker (IsMix a m (InCleared plan)) (IsStop plan birth a b) (λ c mix. clearing (λ d s live. mix d s (live_first stays live))) (only.stops traced)

  module _ (is : IsPlan plan) (room : HasRoom plan a) (m : RackView) (begun : WritesOnly a m (InCleared plan))
      (cleared : (d : ℕ) → d < length plan.units.items → LeavesCleared d a m) where
    low_drive : (d : ℕ) {s : ℕ} (n : RackView) → SameRack a n → IsLive a n d s → d < length plan.units.items
    low_drive d n stays live = let disk = live.disk in let same = stays.disks in let many = room.disks in omega (arith, disk, same, many)

    module _ (n : RackView) (filled : WritesOnly m n (InFilling plan m.sectors)) where
      never : (d : ℕ) → d < length plan.units.items → (v : List ℕ) → InFilling plan m.sectors d state_sector v → ⊥
      never d low v may = filling_unstated plan is m (room_then plan a m begun.stays room) d v low may

      -- the other parts are written
      pub stops_filling : SameRack n b → a.traced → Leaves m n (IsStop plan birth a b)
      stops_filling stays traced =
          let early : SameRack a n = stays_then begun.stays filled.stays in
          leaves_weaker
          (IsMix m n (InFilling plan m.sectors))
          (IsStop plan birth a b)
          (λ c mix.
          filling
          (λ d live.
          let here : IsLive a n d state_sector = live_first stays live in
          let low = low_drive d n early here in
          elim (mix d state_sector (live_second begun.stays here)) [
            | inl old ↦ cleared d low (live_first filled.stays here) (c d state_sector) old
            | inr new ↦ absurd (never d low (c d state_sector) new)
          ]))
          (filled.stops (begun.stays.traced traced))

      -- the copies are
      module _ (lasting : a.lasting) (parts : (d : ℕ) → IsWhole m d → HasParts plan birth d (m.sectors d) (now_on n d))
          (single : (d : ℕ) → d < length plan.units.items → LeavesSingle d m n) (said : WritesOnly n b (InStates plan)) (copies : CopiesInOrder plan birth n b) (read : IsGroupRead plan birth) where
        early : SameRack a n
        early = stays_then begun.stays filled.stays

        all : SameRack a b
        all = stays_then early said.stays

        unsaid : (d : ℕ) (v : List ℕ) → IsLive a b d state_sector → Stood n d v → v ≡ no_state
        unsaid d v live left =
            let here : IsLive a n d state_sector = live_first said.stays live in
            let low = low_drive d n early here in
            cleared_still d (InFilling plan m.sectors) begun.stays filled (never d low) (cleared d low) here v left

        kept : (c : Image) → IsMix n b (InStates plan) c → (d s : ℕ) → IsLive a b d s → s ≢ state_sector → now_on n d s ≡ c d s
        kept c mix d s live other =
            let here : IsLive a n d s = live_first said.stays live in
            elim (mix d s (live_second early live)) [
              | inl old ↦ sym (single d (low_drive d n early here) s (live_second begun.stays here) (c d s) old)
              | inr new ↦ absurd (other new.1)
            ]

        saying_one : (c : Image) → ((k : ℕ) × HaveCopiesTo plan birth n b (Stood n) k c) × IsMix n b (InStates plan) c → IsStop plan birth a b c
        saying_one c have =
            saying have.0.0
            (λ d whole.
            parts_agree plan birth a is room d whole.disk (now_on n d) (c d) (λ s within other. kept c have.1 d s (whole_live a b d s all lasting whole within) other)
            (parts_first plan birth a m begun.stays lasting d whole (now_on n d) (parts d)))
            (record {
              before = λ d below live. have.0.1.before d below (live_second early live);
              here = λ live. elim (have.0.1.here (live_second early live)) [ inl copy ↦ inl copy | inr old ↦ inr (unsaid have.0.0 (c have.0.0 state_sector) live old) ];
              behind = λ d above live. unsaid d (c d state_sector) live (have.0.1.behind d above (live_second early live));
            })
            read

        stops_saying : a.traced → Leaves n b (IsStop plan birth a b)
        stops_saying traced =
            let later = early.traced traced in
            leaves_weaker
            (λ c. ((k : ℕ) × HaveCopiesTo plan birth n b (Stood n) k c) × IsMix n b (InStates plan) c)
            (IsStop plan birth a b)
            saying_one
            (leaves_both (λ c. (k : ℕ) × HaveCopiesTo plan birth n b (Stood n) k c) (IsMix n b (InStates plan)) (copies later) (said.stops later))

        pub stops_made : StopsAmid plan birth a b
        stops_made traced =
            leaves_then (IsStop plan birth a b) (stops_clearing m begun (stays_then filled.stays said.stays) traced)
            (leaves_then (IsStop plan birth a b) (stops_filling said.stays traced) (stops_saying traced))
