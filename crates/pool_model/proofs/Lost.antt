-- What a pool that takes a new drive in has to know of its old one, and of its numbers.
use Rattle.std.proofs.Common.{◌≡◌, ℕ, ◌+◌, ◌-◌, ◌<◌, ◌^◌, nat_lt, if◌then◌else◌, Bool, true, false, List, Option, Some, None, unwrap_or, sym, ap, ap₂, subst, ◌∙◌, inl, inr, le-ltb, lt-ltb, Ok, arith}
use Rattle.std.specs.Option.{option_map_or}
use Rattle.std.specs.Result.{result_ok}
use Rattle.std.proofs.lemmas.Bool.{cases_lt}
use Rattle.std.proofs.lemmas.Option.{none-some}
use Rattle.rack.specs.Values.{Keeps, MayLeave}
use Rattle.rack.specs.Seen.{Image, IsLive, RackView}
use Rattle.slice_rack.specs.Runs.{IsSliced}
use Rattle.slice_rack.specs.Slices.{Slices, disk_of, first_of, place_of, seat_of, sectors_of}
use Rattle.slice_rack.specs.Sliced.{slices_of}
use Rattle.pool_state.specs.declared.contents.Copied.{Copied}
use Rattle.pool_state.specs.declared.contents.Plan.{Plan}
use Rattle.pool_state.specs.declared.contents.State.{State}
use Rattle.pool_state.specs.Sector.{decoded}
use Rattle.array_image.specs.Places.{log_sectors, log_slice, state_sector}
use Rattle.array_image.specs.States.{is_current}
use Rattle.log_laws.specs.Kept.{IsNoLater}
use Rattle.pool_image.specs.Disks.{disks_of, identities_of}
use Rattle.pool_image.specs.Drives.{Found, extent_of}
use Rattle.pool_image.specs.Replay.{Extent}
use Rattle.raid_laws.specs.Book.{OnlyMarksSince}
use Rattle.raid_laws.specs.Enlisting.{enlisted}
use Rattle.raid_laws.specs.Missing.{raised}
use Rattle.raid_laws.specs.Raid.{Raid, IsTracked, is_failed}
use Rattle.pool_model.specs.Left.{IsPickOutsideSlices}
use Rattle.pool_model.specs.Pools.{AreSlicesOf}
use Rattle.pool_model.proofs.Found.{ok_of}
use Rattle.pool_model.proofs.Outset.{no_later_epoch}

-- The state that has a new drive is of a later epoch, unless epochs are used up.
pub epoch_room : (place units : ℕ) (plan : Plan) (s t : State) → OnlyMarksSince (enlisted place units plan s) t → t.epoch < 2 ^ 63 - 1 → s.epoch < 2 ^ 63 - 1
epoch_room place units plan s t after room = elim (cases_lt s.epoch (2 ^ 63 - 1)) [
  | inl low ↦ low
  | inr most ↦
      (let none : nat_lt s.epoch (2 ^ 63 - 1) ≡ false = le-ltb s.epoch (2 ^ 63 - 1) most in
      let same : raised s.epoch ≡ s.epoch = ap (λ (b : Bool). if b then s.epoch + 1 else s.epoch) none in
      let up = after.epoch in
      absurd (omega (arith, most, same, up, room)))
]

-- The drive that a place has: its sector of the state is the first one of its log slice.
module _ (f : Found) (t : Slices) (x : RackView) (place lost : ℕ) (slices : AreSlicesOf f t) (seat : f.seats place ≡ Some lost) where
  on_place : place_of (log_slice place) ≡ place
  on_place = omega arith

  pub log_lies : (first_of t (log_slice place) ≡ state_sector) × (sectors_of t (log_slice place) ≡ log_sectors)
  unfolding extent_of
  log_lies =
      let lies = slices.logs place lost seat in (
        sym (ap (λ (o : Option Extent). option_map_or (λ e. e.first) o 0) lies),
        sym (ap (λ (o : Option Extent). option_map_or (λ e. e.sectors) o 0) lies),
      )

  pub log_disk : disk_of t (log_slice place) ≡ lost
  log_disk = ap (λ o. unwrap_or o 0) (ap (seat_of t) on_place ∙ slices.seats place ∙ seat)

  pub log_there : (k : ℕ) → (slices_of t x).held (log_slice place) k ≡ x.held lost (state_sector + k)
  log_there k = ap₂ (λ d s. x.held d s) log_disk (ap (λ first. first + k) log_lies.0)

-- what a disk says whose sector of the state has stayed, and is in no slice
says_still : (u : Slices) (x z : RackView) (lost : ℕ) (live : IsLive z z lost state_sector) → Keeps (x.held lost state_sector) (z.held lost state_sector)
    → ((w : List ℕ) → IsSliced u lost state_sector w → ⊥) → (i : Image) → IsPickOutsideSlices u z i → (copy : Copied)
    → (identities_of (disks_of z) i lost).copied ≡ Some copy → MayLeave (x.held lost state_sector) (i lost state_sector) × (decoded (i lost state_sector) ≡ Ok copy)
says_still u x z lost live kept unsliced i off copy here =
    (kept.within (i lost state_sector) (off lost state_sector live unsliced), by (nat_lt state_sector (z.sectors lost)) here)
  where
    by : (b : Bool) → (if b then result_ok (decoded (i lost state_sector)) else None) ≡ Some copy → decoded (i lost state_sector) ≡ Ok copy
    by true is = ok_of (decoded (i lost state_sector)) copy is
    by false is = absurd (none-some copy is)

-- The drive that the place had, where an array was told before: its sector of the state has stayed and can be read, so its state is earlier
-- than the one that has the new drive.
module _ (f : Found) (t u : Slices) (v : Raid) (x z : RackView) (place disk lost : ℕ) (slices : AreSlicesOf f t) (seat : f.seats place ≡ Some lost) (small : place < 16)
    (missing : is_current v.state place ≡ false) (n : ℕ) (told : IsTracked v (slices_of t x) n) (lasts : is_failed v n ≡ false) where
  -- what it may have said
  pub lost_value : (w : List ℕ) (copy : Copied) → MayLeave (x.held lost state_sector) w → decoded w ≡ Ok copy → copy.state.epoch < v.state.epoch
  lost_value w copy left says =
      (told.stood lasts).log.copies.earlier place w copy small missing (let many = (log_lies f t x place lost slices seat).1 in omega (arith, many))
      (subst (λ h. MayLeave h w) (sym (log_there f t x place lost slices seat 0)) left) says

  module _ (live : IsLive z z lost state_sector) (kept : Keeps (x.held lost state_sector) (z.held lost state_sector))
      (unsliced : (w : List ℕ) → IsSliced u lost state_sector w → ⊥) where
    pub lost_before : (i : Image) → IsPickOutsideSlices u z i → (copy : Copied) → (identities_of (disks_of z) i lost).copied ≡ Some copy → copy.state.epoch < v.state.epoch
    lost_before i off copy here = let one = says_still u x z lost live kept unsliced i off copy here in lost_value (i lost state_sector) copy one.0 one.1

    pub lost_earlier : (i : Image) → IsPickOutsideSlices u z i → (copy : Copied) → (identities_of (disks_of z) i lost).copied ≡ Some copy → copy.state.epoch < raised v.state.epoch
    lost_earlier i off copy here = at (nat_lt v.state.epoch (2 ^ 63 - 1)) (lost_before i off copy here)
      where
        at : (b : Bool) → copy.state.epoch < v.state.epoch → copy.state.epoch < (if b then v.state.epoch + 1 else v.state.epoch)
        at true less = omega (arith, less)
        at false less = less

-- Where the place's drive was there until the new one came, that drive may say the state before, which is earlier too.
module _ (f : Found) (t u : Slices) (v : Raid) (x z : RackView) (place lost : ℕ) (slices : AreSlicesOf f t) (seat : f.seats place ≡ Some lost) (small : place < 16)
    (n : ℕ) (told : IsTracked v (slices_of t x) n) (lasts : is_failed v n ≡ false) where
  pub former_value : (w : List ℕ) (copy : Copied) → MayLeave (x.held lost state_sector) w → decoded w ≡ Ok copy → IsNoLater v.state copy
  former_value w copy left says =
      (told.stood lasts).log.copies.others place w copy small (let many = (log_lies f t x place lost slices seat).1 in omega (arith, many))
      (subst (λ h. MayLeave h w) (sym (log_there f t x place lost slices seat 0)) left) says

  pub former_earlier : v.state.epoch < 2 ^ 63 - 1 → IsLive z z lost state_sector → Keeps (x.held lost state_sector) (z.held lost state_sector)
      → ((w : List ℕ) → IsSliced u lost state_sector w → ⊥) → (i : Image) → IsPickOutsideSlices u z i → (copy : Copied)
      → (identities_of (disks_of z) i lost).copied ≡ Some copy → copy.state.epoch < raised v.state.epoch
  former_earlier room live kept unsliced i off copy here =
      let one = says_still u x z lost live kept unsliced i off copy here in
      let most = no_later_epoch v.state copy (former_value (i lost state_sector) copy one.0 one.1) in
      let up : raised v.state.epoch ≡ v.state.epoch + 1 = ap (λ (b : Bool). if b then v.state.epoch + 1 else v.state.epoch) (lt-ltb v.state.epoch (2 ^ 63 - 1) room) in
      omega (arith, most, up)
