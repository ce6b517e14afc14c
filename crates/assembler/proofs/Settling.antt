-- While both copies of the partition tables of a pool's drives are made to agree, what a stop leaves holds the pool that was at rest.
use Rattle.std.proofs.Common.{◌≡◌, ℕ, ◌+◌, ◌-◌, ◌<◌, ◌≤◌, ◌⊎◌, Bool, List, Some, sym, ap, subst, ◌∙◌, inl, inr, arith}
use Rattle.rack.specs.Moments.{Leaves}
use Rattle.rack.specs.Seen.{Image, IsLive, RackView}
use Rattle.gpt_table.specs.declared.TableCopy.{TableCopy}
use Rattle.gpt_table.specs.declared.TableCopy.TheVariants.{Backup, Primary}
use Rattle.gpt_table.specs.Changes.{the_table}
use Rattle.gpt_table.specs.Disk.{IsOfCopy}
use Rattle.pool_state.specs.declared.contents.State.{State}
use Rattle.array_image.specs.Places.{arrays_first, super_sector}
use Rattle.pool_image.specs.Disks.{Disks, Seats, disks_of}
use Rattle.pool_image.specs.Drives.{Found}
use Rattle.pool_image.proofs.Identities.{seat_inside, table_same}
use Rattle.pool_scan.specs.Scanning.{now_in}
use Rattle.pool_rest.specs.Resting.{IsIdle}
use Rattle.pool_model.specs.Left.{NoStraySuperblock, HasNoSuper}
use Rattle.pool_model.specs.Openings.{HaveGoodTables, RecoversInOpening, IsButTables}
use Rattle.pool_model.specs.Stopped.{LieApart}
use Rattle.pool_model.proofs.Found.{few_places, found_is, seated_below}
use Rattle.pool_model.proofs.NoSuper.{no_super_replaced}
use Rattle.pool_model.proofs.Outset.{outset_of}
use Rattle.pool_model.proofs.Settled.{settled_holds}
use Rattle.pool_model.proofs.TableRoom.{log_room}
use Rattle.assembler_laws.specs.Mending.{MendsTables}
use Rattle.assembler.specs.Sound.{HoldSound}

module _ (x y : RackView) (f : Found) (s : State) (seats : Seats) (agreed : List Bool) (gone now : List ℕ) (sound : HoldSound x f) (idle : IsIdle x)
    (tables : HaveGoodTables f) (apart : LieApart f) (same : (p : ℕ) → seats p ≡ f.seats p) (mends : MendsTables x y s seats agreed gone now) (alone : NoStraySuperblock f (now_in x)) (traced : x.traced) where
  disks : f.disks ≡ disks_of x
  disks = (found_is (disks_of x) (now_in x) f sound.found_is).1

  count_is : f.disks.count ≡ x.disks
  count_is = ap (λ (k : Disks). k.count) disks

  sectors_is : (d : ℕ) → f.disks.sectors d ≡ x.sectors d
  sectors_is d = ap (λ (k : Disks). k.sectors d) disks

  live : (d u : ℕ) → d < x.disks → u < x.sectors d → IsLive x y d u
  live d u low within = record {
    disk = subst (λ n. d < n) (sym mends.only.stays.disks) low;
    sector = subst (λ n. u < n) (sym (mends.only.stays.sectors d)) within;
    is_told = sound.steady.told d low;
    unspent = mends.only.stays.lasts sound.steady.lasts.lasting d u (sound.steady.lasts.unspent d u);
  }

  long : (p d : ℕ) → f.seats p ≡ Some d → arrays_first + 32 < x.sectors d
  long p d seat = (let room = log_room f p d (tables p d seat) in let is = sectors_is d in omega (arith, room, is))

  -- a copy lies inside a disk that is so long
  copy_inside : (copy : TableCopy) (n u : ℕ) → arrays_first + 32 < n → IsOfCopy copy n u → u < n
  copy_inside Primary n u room (inl at) = (let one : u ≡ 1 = at in omega (arith, room, one))
  copy_inside Primary n u room (inr among) = (let most : u < 34 = among.1 in omega (arith, room, most))
  copy_inside Backup n u room (inl at) = (let last : u ≡ n - 1 = at in omega (arith, room, last))
  copy_inside Backup n u room (inr among) = (let most : u < n - 33 + 32 = among.1 in omega (arith, room, most))

  module _ (k : ℕ) (i : Image) (late : x.clock < k) (early : k ≤ y.clock) (stop : y.stops k i) where
    others : (d u : ℕ) → d < f.disks.count → u < f.disks.sectors d → (at : (p : ℕ) → f.seats p ≡ Some d → (u < 34) ⊎ (x.sectors d ≤ u + 33) → ⊥) → i d u ≡ now_in x d u
    others d u low within never =
        let there : d < x.disks = subst (λ n. d < n) count_is low in
        let inside : u < x.sectors d = subst (λ n. u < n) (sectors_is d) within in
        elim ((mends.only.stops traced).new k i late early stop d u (live d u there inside)) [
          | inl may ↦ sound.steady.single d u there inside (i d u) may
          | inr at ↦ absurd (never at.place (sym (same at.place) ∙ at.seat) at.at_end)
        ]

    table_kept : (d : ℕ) → d < x.disks → the_table (x.sectors d) (i d) ≡ the_table (x.sectors d) (now_in x d)
    table_kept d there = elim (seated_below f.seats d 16) [
      | inl one ↦
          let room = long one.0 d one.1 in
          ((mends.tables d).stops traced
          (λ copy u of. live d u there (copy_inside copy (x.sectors d) u room of))
          (λ copy u of. sound.steady.single d u there (copy_inside copy (x.sectors d) u room of))).new k i late early stop
      | inr none ↦
          table_same (x.sectors d) (i d) (now_in x d)
          (λ u within of.
          others d u (subst (λ n. d < n) (sym count_is) there) (subst (λ n. u < n) (sym (sectors_is d)) within)
          (λ p seat at_end. none p (few p d seat) seat))
    ]
      where
        few : (p d : ℕ) → f.seats p ≡ Some d → p < 16
        few p d seat =
            let at = (found_is (disks_of x) (now_in x) f sound.found_is).0 in
            few_places f at p ((outset_of f at sound.sound).seated p d seat).current

    but : IsButTables f (now_in x) i
    but = record {
      tables = λ d low.
          subst (λ n. the_table n (i d) ≡ the_table n (now_in x d)) (sym (sectors_is d))
          (table_kept d (subst (λ n. d < n) count_is low));
      others = λ d u low within never.
          others d u low within
          (λ p seat at_end. never (record { place = p; seat = seat; at_end = subst (λ n. (u < 34) ⊎ (n ≤ u + 33)) (sym (sectors_is d)) at_end }));
    }

    -- what came to a table is no superblock
    alone_now : NoStraySuperblock f i
    alone_now n p d first low seat none begins within =
        let u : ℕ = first + super_sector in
        let at = (found_is (disks_of x) (now_in x) f sound.found_is).0 in
        let there : d < x.disks = subst (λ n. d < n) count_is (seat_inside f.state f.disks f.identities p d (sym (at.seats p) ∙ seat)) in
        let inside : u < x.sectors d = subst (λ n. u < n) (sectors_is d) within in
        elim ((mends.only.stops traced).new k i late early stop d u (live d u there inside)) [
          | inl may ↦ subst (HasNoSuper f.state.pool.0 n) (sym (sound.steady.single d u there inside (i d u) may)) (alone n p d first low seat none begins within)
          | inr sector ↦ no_super_replaced f.state.pool.0 n sector.value.copy sector.value.table u (i d u) sector.value.within
        ]

  pub settling_leaves : Leaves x y (RecoversInOpening f 0)
  settling_leaves =
      let stops = mends.only.stops traced in
      record {
        later = stops.later;
        kept = stops.kept;
        past = stops.past;
        new = λ k i late early stop.
            settled_holds (disks_of x) (now_in x) i f sound.found_is idle sound.sound sound.logs tables apart (but k i late early stop) alone (alone_now k i late early stop);
      }
