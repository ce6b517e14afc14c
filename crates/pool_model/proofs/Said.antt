-- What contents of the disks say of a pool that they had, whatever made them so.
use Rattle.std.proofs.Common.{◌≡◌, ℕ, ◌+◌, ◌<◌, ◌≤◌, true, false, None, Some, ◌∙◌}
use Rattle.rack.specs.Seen.{Image}
use Rattle.slice_rack.specs.Slices.{Slices, first_of as slice_first, place_of as slice_place, seat_of as slice_seat, sectors_of}
use Rattle.slice_rack.specs.Sliced.{sliced}
use Rattle.pool_state.specs.declared.contents.Copied.{Copied}
use Rattle.pool_state.specs.declared.contents.State.{State}
use Rattle.array_image.specs.States.{is_current, id_of}
use Rattle.log_laws.specs.Kept.{IsNoLater}
use Rattle.raid_laws.specs.Book.{OnlyMarksSince}
use Rattle.pool_image.specs.Disks.{Identity, identities_of, newest, seat_of, stands_for}
use Rattle.pool_image.specs.Drives.{Found}
use Rattle.pool_image.specs.Replay.{Standing}
use Rattle.pool_model.specs.InService.{IsOutset, epoch_at}
use Rattle.pool_model.specs.Left.{NoStraySuperblockBy}
use Rattle.pool_model.specs.Pools.{AreSlicesOf}
use Rattle.pool_model.specs.Stopped.{AreSlicesNow, SaysArray}

-- the tables of a pool's drives are so for the places that are current by a state
pub slices_by : (f : Found) (t : Slices) (s : State) → AreSlicesOf f t → AreSlicesNow f t s
slices_by f t s slices = record {
  seats = λ p d now seat. slices.seats p ∙ seat;
  logs = λ p d now seat. slices.logs p d seat;
  members = λ n p d low now seat member. slices.members n p d low seat member;
  others = slices.others;
  unseated = λ k now free. slices.unseated k free;
}

-- slices lie inside the disks of a pool
abbrev pub AreInside : Found → Slices → Type 0
AreInside f t =
    (k d : ℕ) → slice_seat t (slice_place k) ≡ Some d → 0 < sectors_of t k → slice_first t k + sectors_of t k ≤ f.disks.sectors d

-- a disk has a copy that names a place's drive, of a state that is no earlier than the pool's
pub record HasCopyOf (f : Found) (u : State) (p : ℕ) (z : Identity) : Type 0 where
  pub copy : Copied
  pub is : z.copied ≡ Some copy
  pub since : f.state.epoch ≤ copy.state.epoch
  pub drive : id_of copy.state copy.own ≡ id_of u p

-- What disks say of the drives of a pool, by a state that has come from its own. The drive of a current place has a copy that names it, and for a current place
-- without a drive no disk stands. A drive of
-- a place that was current says an earlier state than a drive for which it stands too, and other disks say what they said.
pub record SaysSeats (f : Found) (u : State) (i : Image) : Type 0 where
  pub is : IsOutset f
  pub after : OnlyMarksSince f.state u
  pub absent : (p d : ℕ) → is_current u p ≡ true → f.seats p ≡ None → d < f.disks.count → stands_for u (identities_of f.disks i d) ≡ Some p → ⊥
  pub copies : (p d : ℕ) → is_current u p ≡ true → f.seats p ≡ Some d → HasCopyOf f u p (identities_of f.disks i d)
  pub former :
      (r q p d : ℕ) → f.seats r ≡ Some q → is_current u r ≡ false → f.seats p ≡ Some d → is_current u p ≡ true
      → stands_for u (identities_of f.disks i q) ≡ Some p → epoch_at (identities_of f.disks i q) < epoch_at (identities_of f.disks i d)
  pub others : (d : ℕ) → ((p : ℕ) → f.seats p ≡ Some d → ⊥) → d < f.disks.count → identities_of f.disks i d ≡ f.identities d

-- What contents e of the disks, the pending record written, say of the pool f, by the state s: it is the newest, each current place has the drive that it had, if
-- it had one, with a copy of s, no disk has a later one or another one of its epoch, and all arrays are said soundly by the slices t.
pub record SaysPool (f : Found) (t : Slices) (s : State) (e : Image) : Type 0 where
  pub is : IsOutset f
  pub after : OnlyMarksSince f.state s
  pub joined : f.state.joined ≡ f.state.made
  pub slices : AreSlicesNow f t s
  pub inside : AreInside f t
  pub newest_is : newest f.disks (identities_of f.disks e) ≡ Some s
  pub seats : (p : ℕ) → is_current s p ≡ true → seat_of s f.disks (identities_of f.disks e) p ≡ f.seats p
  pub own : (p d : ℕ) → is_current s p ≡ true → f.seats p ≡ Some d → (k : ℕ) × ((identities_of f.disks e d).copied ≡ Some (record { state = s; own = k }))
  pub latest : (d : ℕ) (copy : Copied) → d < f.disks.count → (identities_of f.disks e d).copied ≡ Some copy → IsNoLater s copy
  pub arrays : (n : ℕ) → n < f.state.made → SaysArray f s (sliced t e) n
  pub alone : NoStraySuperblockBy s f e

-- the pool that contents have where they are so
abbrev pub pool_of : Found → State → Image → Standing → Found
pool_of f s e before =
    record { disks = f.disks; before = before; contents = e; identities = identities_of f.disks e; state = s; seats = seat_of s f.disks (identities_of f.disks e) }
