-- The fields of an array's superblocks that stay where these are renewed, and the members that they say.
use Rattle.std.proofs.Common.{◌≡◌, ◌≢◌, ◌⊎◌, ℕ, pos, ◌+◌, ◌-◌, ◌%◌, ◌^◌, Bool, true, false, ◌==◌, not, if◌then◌else◌, take, Some, unwrap_or, refl, sym, ap, subst, ◌∙◌, inr}
use Rattle.std.proofs.lemmas.Nat.{and_assoc}
use Rattle.rack.specs.Seen.{Image}
use Rattle.md_super.specs.declared.superblock.Super.{Super}
use Rattle.array_image.specs.Places.{member_slice, data_sector}
use Rattle.array_image.specs.Stripes.{width, sector_in, there, AgreeIn}
use Rattle.array_image.specs.Supers.{is_rebuilding, is_reshaping}
use Rattle.array_image.specs.SoundArray.{IsWrittenSuper, array_fields}
use Rattle.array_image.specs.Arrays.{Member, Shape, layout_at, member_by}
use Rattle.array_image.specs.Even.{AreEven}
use Rattle.array_model.specs.declared.Seat.{Seat}
use Rattle.array_model.specs.declared.Seat.TheVariants.{Whole, Missing, Rebuilding}
use Rattle.array_model.specs.View.{member_by_seat}
use Rattle.array_model.proofs.DataFrames.{columns_same}
use Rattle.array_core.specs.declared.slots.Slot.{Slot}
use Rattle.array_core.specs.Superblocks.{member_super, rebuilt_to}
use Rattle.array_core.proofs.OwnSupers.{own_whole, own_rebuilding}

-- ---- the fields of the array that stay

abbrev pub strip : Super → Super
strip t = record (array_fields t) { events = 0; resync_offset = 0 }

pub strip_reshaping : (t : Super) → is_reshaping (strip t) ≡ is_reshaping t
strip_reshaping t = ap (λ (k : ℕ). k == 4) (and_assoc 4 t.feature_map 0xfffffffd)

pub strip_written : (n : ℕ) (t : Super) → IsWrittenSuper n t → IsWrittenSuper n (strip t)
strip_written n t written =
    let bit = sym (strip_reshaping t) in
    record {
      name = written.name;
      times = written.times;
      roles = written.roles;
      step = written.step ∙ ap (λ (b : Bool). pos (if b then 1 else 0)) bit;
      next_level = written.next_level ∙ ap (λ (b : Bool). pos (if b then 5 else 0)) bit;
      next_layout = written.next_layout ∙ ap (λ (b : Bool). if b then 2 else 0) bit;
      next_chunk = written.next_chunk ∙ ap (λ (b : Bool). if b then 128 else 0) bit;
      position = written.position;
      last_position = written.last_position;
      no_position = λ is. written.no_position (bit ∙ is);
      resync = inr refl;
    }

pub whole_written : (n : ℕ) (t : Super) → (t.resync_offset ≡ 2 ^ 64 - 1) ⊎ (t.resync_offset % 128 ≡ 0) → IsWrittenSuper n (strip t) → IsWrittenSuper n t
whole_written n t offset written =
    let bit = strip_reshaping t in
    record {
      name = written.name;
      times = written.times;
      roles = written.roles;
      step = written.step ∙ ap (λ (b : Bool). pos (if b then 1 else 0)) bit;
      next_level = written.next_level ∙ ap (λ (b : Bool). pos (if b then 5 else 0)) bit;
      next_layout = written.next_layout ∙ ap (λ (b : Bool). if b then 2 else 0) bit;
      next_chunk = written.next_chunk ∙ ap (λ (b : Bool). if b then 128 else 0) bit;
      position = written.position;
      last_position = written.last_position;
      no_position = λ is. written.no_position (bit ∙ is);
      resync = offset;
    }

-- the member of a superblock that is written for it
pub own_member : (t : Super) (slot : Slot) (size p : ℕ) → slot.seat ≢ Missing → member_by size p true (Some (member_super t slot)) ≡ member_by_seat size p (Some slot.seat)
own_member t slot size p present =
    let by : Bool → Member = λ b. record { place = p; reach = if b then (member_super t slot).recovery_offset else size; is_there = true; is_whole = not b } in
    let Goal : Seat → Type 0 = λ seat. slot.seat ≡ seat → by (is_rebuilding (member_super t slot)) ≡ member_by_seat size p (Some seat) in
    let goal : Goal slot.seat = elim slot.seat as Goal [
      | Missing ↦ λ is. absurd (present is)
      | Whole ↦ λ is. ap by (own_whole t slot is)
      | Rebuilding to ↦ λ is.
          ap by (own_rebuilding t slot to is)
          ∙ ap (λ (seat : Seat). record { place = p; reach = rebuilt_to seat; is_there = true; is_whole = false }) is
    ] in
    goal refl

pub some_same : {X : Type 0} (x y : X) → Some x ≡ Some y → x ≡ y
some_same x y same = ap (λ o. unwrap_or o x) same

-- rows that agree in contents agree in others with the same data
pub even_data : (shape : Shape) (n resync : ℕ) (c e : Image)
    → ((m : Member) (t : ℕ) → c (member_slice m.place n) (data_sector + t) ≡ e (member_slice m.place n) (data_sector + t))
    → AreEven shape n resync e → AreEven shape n resync c
even_data shape n resync c e same even x inside synced counts =
    let layout = layout_at shape x in
    subst (λ stripe. AgreeIn layout (there stripe))
    (sym (columns_same c e n (sector_in layout x) (take (width layout) shape.members) (λ m among counted. same m (sector_in layout x))))
    (even x inside synced counts)
