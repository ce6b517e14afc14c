-- What the disks say outside the slices, at a stop in which a new drive joins, of the pool with it: its state's sector is one of a slice, and its table is any that it has
-- there.
use Rattle.std.proofs.Common.{◌≡◌, ◌≢◌, ℕ, ◌+◌, ◌<◌, ◌==◌, if◌then◌else◌, Bool, List, refl, sym, ap, subst, ◌∙◌, inl, inr, eq-eqb, arith}
use Rattle.std.proofs.lemmas.Bool.{cases_eq, ne_eqb}
use Rattle.rack.specs.Joins.{keeps_same}
use Rattle.rack.specs.Values.{Keeps, MayLeave, only}
use Rattle.rack.specs.Seen.{Image, IsLive, RackView}
use Rattle.slice_rack.specs.Runs.{IsSliced}
use Rattle.slice_rack.specs.Slices.{Slices}
use Rattle.pool_state.specs.declared.contents.Plan.{Plan}
use Rattle.array_image.specs.Places.{super_sector}
use Rattle.raid_laws.specs.Enlisting.{enlisted}
use Rattle.raid_laws.specs.Raid.{Raid}
use Rattle.pool_image.specs.Disks.{Disks, disks_of, identities_of}
use Rattle.pool_image.specs.Drives.{Found}
use Rattle.pool_model.specs.InService.{HoldSaid, RunInvariant, IsSaid}
use Rattle.pool_model.specs.Laid.{IsJoinedOutsideSlices}
use Rattle.pool_model.specs.Left.{NoStraySuperblockBy, HasNoSuper, IsPickOutsideSlices}
use Rattle.pool_model.specs.Taken.{KeepsOutsideSlices, KeepsRest, SeatsNew, taken}
use Rattle.pool_model.proofs.Before.{off_before, was as image_before, was_other as image_other}
use Rattle.pool_model.proofs.Staying.{held_taken}
use Rattle.pool_model.proofs.Taken.{IsKnownBefore}
use Rattle.pool_model.proofs.Unsliced.{free_super}

-- s are the tables by which the pool goes, and u those with the new drive
module _ (f : Found) (s u : Slices) (v : Raid) (place disk units : ℕ) (plan : Plan) (x : RackView) (i : Image) (is : RunInvariant f s v x)
    (new : SeatsNew f s u v place disk (x.sectors disk)) (joined : IsJoinedOutsideSlices f u v place disk x i) where
  known : IsKnownBefore f v
  known = record { outset = is.arranged; after = is.after; geometry = is.geometry }

  -- the disks as they were, but that this one has the contents
  abbrev pub z : RackView
  z = record x { held = λ d k. if d == disk then only (i disk k) else x.held d k }

  held_other : (d k : ℕ) → d ≢ disk → z.held d k ≡ x.held d k
  held_other d k other = ap (λ (b : Bool). if b then only (i disk k) else x.held d k) (ne_eqb d disk other)

  held_here : (k : ℕ) → z.held disk k ≡ only (i disk k)
  held_here k = ap (λ (b : Bool). if b then only (i disk k) else x.held disk k) (eq-eqb disk disk refl)

  live_was : (d k : ℕ) → IsLive z z d k → IsLive x x d k
  live_was d k live = record { disk = live.disk; sector = live.sector; is_told = live.is_told; unspent = live.unspent }

  live_now : (d k : ℕ) → IsLive x x d k → IsLive z z d k
  live_now d k live = record { disk = live.disk; sector = live.sector; is_told = live.is_told; unspent = live.unspent }

  pub off_now : IsPickOutsideSlices u z i
  off_now d k live never = elim (cases_eq d disk) [
    | inl same ↦ subst (λ e. MayLeave (z.held e k) (i e k)) (sym same) (subst (λ h. MayLeave h (i disk k)) (sym (held_here k)) (inl refl))
    | inr other ↦ subst (λ h. MayLeave h (i d k)) (sym (held_other d k other)) (joined.others d k other (live_was d k live) never)
  ]

  pub keeps_off : (r : Slices) → KeepsOutsideSlices r disk x z
  keeps_off r d k other live never = (live_now d k live, subst (λ h. Keeps (x.held d k) h) (sym (held_other d k other)) (keeps_same (x.held d k)))

  -- off the slices the disk has what it has in the contents
  on_disk : (j : Image) → IsPickOutsideSlices u z j → (k : ℕ) → k < x.sectors disk → ((w : List ℕ) → IsSliced u disk k w → ⊥) → j disk k ≡ i disk k
  on_disk j off k low never = of (subst (λ h. MayLeave h (j disk k)) (held_here k) (off disk k (live_now disk k (joined.opened k low)) never))
    where
      of : MayLeave (only (i disk k)) (j disk k) → j disk k ≡ i disk k
      of (inl same) = same
      of (inr none) = absurd none

  count : f.disks.count ≡ x.disks
  count = ap (λ (q : Disks). q.count) is.disks

  same_slices : (d k : ℕ) (w : List ℕ) → d ≢ disk → IsSliced u d k w → IsSliced u d k w
  same_slices d k w other at = at

  keeps : KeepsRest f s u v place disk x z
  keeps = record {
    low = joined.low;
    disks = (let same = count in omega (arith, same));
    sectors = λ d low. ap (λ (q : Disks). q.sectors d) (sym is.disks);
    outside = keeps_off s;
    alone = λ j off n first low none begins within.
        subst (HasNoSuper f.state.pool.0 n)
        (sym (on_disk j off (first + super_sector) within
        (λ w. free_super f s u v place disk (x.sectors disk) new is.slices known n first low begins none w)))
        (joined.alone n first low none begins within);
    earlier = λ j off d low other which copy here. elim which [
      | inl past ↦ (let same = count in absurd (omega (arith, low, past, same)))
      | inr lost ↦
          joined.earlier d other lost (image_before u u disk x z (keeps_off u) same_slices j off) (off_before u u disk x z (keeps_off u) same_slices j off) copy
          (ap (λ (c : ℕ → List ℕ). (identities_of (disks_of x) (λ q. c) d).copied) (image_other u u disk x z (keeps_off u) same_slices j off d other) ∙ here)
    ];
  }

  held : HoldSaid (taken f (disks_of x) place disk (enlisted place units plan v.state)) u (enlisted place units plan v.state) z
  held = held_taken f s u v x z place disk units plan new known keeps is.held

  pub joined_said : IsSaid (taken f (disks_of x) place disk (enlisted place units plan v.state)) i
  joined_said = held.said i off_now

  pub joined_alone : NoStraySuperblockBy (enlisted place units plan v.state) (taken f (disks_of x) place disk (enlisted place units plan v.state)) i
  joined_alone = held.alone i off_now
