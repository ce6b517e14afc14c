-- After an opening the disks have outside the slices what the pool has there: tables, and what other disks say.
use Rattle.std.proofs.Common.{◌≡◌, ℕ, ◌+◌, ◌-◌, ◌<◌, List, Some, inl, inr, sym, ap, subst, ◌∙◌, arith}
use Rattle.rack.specs.Values.{MayLeave}
use Rattle.rack.specs.Seen.{Image, IsLive, RackView, SameRack}
use Rattle.rack.specs.Joins.{stays_then}
use Rattle.rack.specs.Sequences.{OnlyReads, WritesOnly}
use Rattle.slice_rack.specs.Runs.{IsSliced}
use Rattle.slice_rack.specs.Slices.{Slices, IsOrderly, seat_of}
use Rattle.gpt_table.specs.declared.TableCopy.{TableCopy}
use Rattle.gpt_table.specs.declared.TableCopy.TheVariants.{Backup, Primary}
use Rattle.gpt_table.specs.Changes.{IsOfCopies, the_table}
use Rattle.gpt_table.specs.Disk.{IsOfCopy}
use Rattle.pool_state.specs.declared.contents.State.{State}
use Rattle.array_image.specs.Places.{arrays_first, state_sector}
use Rattle.pool_image.specs.Alike.{IsSamePool}
use Rattle.pool_image.specs.Disks.{Disks, Identity, disks_of, identities_of}
use Rattle.pool_image.specs.Drives.{Found}
use Rattle.pool_image.proofs.Identities.{identity_same, table_same}
use Rattle.pool_scan.specs.declared.Known.{Known}
use Rattle.pool_scan.specs.Scanning.{now_in}
use Rattle.pool_scan.proofs.Valid.{valid_places}
use Rattle.pool_rest.specs.Resting.{IsOfDrive}
use Rattle.pool_check.specs.declared.Checked.{Checked}
use Rattle.pool_check.specs.Settling.{KeepsTable}
use Rattle.pool_model.specs.Left.{AreElsewhere, IsPickOutsideSlices}
use Rattle.raid_laws.proofs.Noted.{current_few}
use Rattle.assembler_laws.specs.Holding.{AreSteady}
use Rattle.assembler_laws.specs.Members.{AreMembers}
use Rattle.assembler_laws.specs.Writing.{IsSlicedOrTable}
use Rattle.assembler_laws.proofs.Drives.{sliced_at}
use Rattle.assembler.proofs.Mended.{drive_never, slices_never}
use Rattle.assembler_laws.proofs.Written.{rack_then}

module _ (s r : State) (t : Slices) (a x y z w : RackView) (checked : Checked) (absent : List ℕ) (known : List Known) (orderly : IsOrderly t) (m : AreMembers s t y checked absent)
    (early : WritesOnly a x (IsOfDrive a known r)) (reads : OnlyReads x y) (rack : WritesOnly y z (IsSlicedOrTable y z t)) (texts : WritesOnly z w (IsSliced t))
    (steady : AreSteady a) (steady_x : AreSteady x) (e f : Found) (same : IsSamePool e f) (disks : e.disks ≡ disks_of a)
    (is : (d : ℕ) → f.identities d ≡ identities_of (disks_of x) (now_in x) d) (seats : (p : ℕ) → seat_of t p ≡ f.seats p)
    (keeps : (p d : ℕ) → seat_of t p ≡ Some d → KeepsTable a w d) where
  xw : SameRack x w
  xw = stays_then reads.stays (stays_then rack.stays texts.stays)

  aw : SameRack a w
  aw = stays_then early.stays xw

  -- from the check on, slices and tables were written
  late : WritesOnly x w (IsSlicedOrTable y z t)
  late = rack_then t x y z w reads rack texts

  disks_same : (d : ℕ) → (e.disks.count ≡ x.disks) × (e.disks.sectors d ≡ x.sectors d)
  disks_same d = (
    ap (λ (k : Disks). k.count) disks ∙ sym early.stays.disks,
    ap (λ (k : Disks). k.sectors d) disks ∙ sym (early.stays.sectors d),
  )

  live_now : (d u : ℕ) → d < x.disks → u < x.sectors d → IsLive w w d u
  live_now d u there within = record {
    disk = subst (λ n. d < n) (sym xw.disks) there;
    sector = subst (λ n. u < n) (sym (xw.sectors d)) within;
    is_told = aw.told d (steady.told d (subst (λ n. d < n) early.stays.disks there));
    unspent = aw.lasts steady.lasts.lasting d u (steady.lasts.unspent d u);
  }

  live_then : (b : RackView) (d u : ℕ) → b.told d → d < x.disks → u < x.sectors d → IsLive b w d u
  live_then b d u told there within = let live = live_now d u there within in record { disk = live.disk; sector = live.sector; is_told = told; unspent = live.unspent }

  module _ (i : Image) (off : IsPickOutsideSlices t w i) where
    -- a disk that no place has
    module _ (d : ℕ) (none : (p : ℕ) → e.seats p ≡ Some d → ⊥) (low : d < e.disks.count) where
      there : d < x.disks
      there = subst (λ n. d < n) (disks_same d).0 low

      nobody : (p : ℕ) → seat_of t p ≡ Some d → ⊥
      nobody p seat = none p (sym (same.seats p) ∙ sym (seats p) ∙ seat)

      not_sliced : (u : ℕ) (v : List ℕ) → IsSliced t d u v → ⊥
      not_sliced u v at = let one = sliced_at s t y checked absent orderly m d u v at in nobody one.0 one.1

      never : (u : ℕ) (v : List ℕ) → IsSlicedOrTable y z t d u v → ⊥
      never u v (inl at) = not_sliced u v at
      never u v (inr at) = nobody at.place at.seat

      unchanged : (u : ℕ) → u < x.sectors d → i d u ≡ now_in x d u
      unchanged u within =
          steady_x.single d u there within (i d u)
          ((late.others d u (live_then x d u (steady_x.told d there) there within) (never u)).within (i d u)
          (off d u (live_now d u there within) (not_sliced u)))

      other_says : identities_of e.disks i d ≡ e.identities d
      other_says =
          ap (λ (k : Disks). identities_of k i d) disks_are
          ∙ identity_same (disks_of x) i (now_in x) d (λ within. unchanged state_sector within) (λ u within of. unchanged u within)
          ∙ sym (is d) ∙ same.all d low
        where
          disks_are : e.disks ≡ disks_of x
          disks_are = disks ∙ (λ j. record { count = sym early.stays.disks j; sectors = λ k. sym (early.stays.sectors k) j })

    -- a place's drive
    module _ (p d : ℕ) (seat : e.seats p ≡ Some d) where
      here : seat_of t p ≡ Some d
      here = seats p ∙ same.seats p ∙ seat

      few : p < 16
      few = current_few s p (valid_places s 0 m.valid).1 (m.current p d here)

      inside : d < x.disks
      inside = subst (λ n. d < n) reads.stays.disks (m.fit.1.seats p d here)

      room : arrays_first + 32 < a.sectors d
      room = subst (λ n. arrays_first + 32 < n) (reads.stays.sectors d ∙ early.stays.sectors d) (m.room p d here)

      -- a sector of a table
      within : (u : ℕ) → IsOfCopies (a.sectors d) u → u < a.sectors d
      within u of = elim of [
        | inl (inl at) ↦ let many = room in let one : u ≡ 1 = at in omega (arith, many, one)
        | inl (inr among) ↦ let many = room in let most : u < 34 = among.1 in omega (arith, many, most)
        | inr (inl at) ↦ let many = room in let last : u ≡ a.sectors d - 1 = at in omega (arith, many, last)
        | inr (inr among) ↦ let many = room in let most : u < a.sectors d - 33 + 32 = among.1 in omega (arith, many, most)
      ]

      in_x : (u : ℕ) → IsOfCopies (a.sectors d) u → u < x.sectors d
      in_x u of = subst (λ n. u < n) (sym (early.stays.sectors d)) (within u of)

      told_a : a.told d
      told_a = steady.told d (subst (λ n. d < n) early.stays.disks inside)

      left_on : (u : ℕ) → IsOfCopies (a.sectors d) u → MayLeave (w.held d u) (i d u)
      left_on u of =
          off d u (live_now d u inside (in_x u of))
          (λ v at. slices_never s t y checked absent orderly m p d (a.sectors d) few here (reads.stays.sectors d ∙ early.stays.sectors d) u v of at)

      table_kept : the_table (a.sectors d) (i d) ≡ the_table (a.sectors d) (now_in a d)
      table_kept =
          (keeps p d here).held
          (λ copy u of. live_then a d u told_a inside (in_x u (of_copy copy u of)))
          (λ copy u of. steady.single d u (subst (λ n. d < n) early.stays.disks inside) (within u (of_copy copy u of)))
          (i d) left_on
        where
          of_copy : (copy : TableCopy) (u : ℕ) → IsOfCopy copy (a.sectors d) u → IsOfCopies (a.sectors d) u
          of_copy Primary u of = inl of
          of_copy Backup u of = inr of

      -- the pending record left it alone
      table_then : the_table (a.sectors d) (now_in a d) ≡ the_table (a.sectors d) (now_in x d)
      table_then =
          table_same (a.sectors d) (now_in a d) (now_in x d)
          (λ u low of.
          sym (early.others d u
          (record {
            disk = inside;
            sector = in_x u of;
            is_told = told_a;
            unspent = steady_x.lasts.unspent d u;
          })
          (λ v at. drive_never a known r d room u v of at)).current)

      table_is : the_table (e.disks.sectors d) (i d) ≡ (e.identities d).table
      table_is =
          ap (λ (k : Disks). the_table (k.sectors d) (i d)) disks
          ∙ table_kept ∙ table_then
          ∙ ap (λ n. the_table n (now_in x d)) (sym (early.stays.sectors d))
          ∙ sym (ap (λ (k : Identity). k.table) (is d))
          ∙ ap (λ (k : Identity). k.table) (same.identities p d seat)

    pub elsewhere : AreElsewhere e i
    elsewhere = record { tables = table_is; others = other_says }
