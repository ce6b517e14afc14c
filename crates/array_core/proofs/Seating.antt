-- The members of an array as contracts see them, and what changes of their seats make of them.
use Rattle.std.proofs.Common.{◌≡◌, ℕ, ◌-◌, ◌*◌, ◌<◌, ◌≤◌, ◌^◌, Bool, true, false, ◌||◌, nat_lt, lit≤, if◌then◌else◌, List, [], ◌∷◌, map, Option, Some, None, option_map, refl, ap, ap₂, sym, ◌∙◌, arith}
use Rattle.std.specs.List.{zip, list_all}
use Rattle.arrayvec.specs.ArrayVec.{ArrayVec}
use Rattle.std.proofs.lemmas.Nat.{mul-le}
use Rattle.shr_base.specs.declared.Id.{Id}
use Rattle.md_super.specs.declared.superblock.Super.{Super}
use Rattle.md_super.specs.Profile.{is_mirror}
use Rattle.array_image.specs.Supers.{is_reshaping}
use Rattle.array_image.specs.Places.{member_id}
use Rattle.array_image.specs.Stripes.{parity, mirror as mirror_of, capacity}
use Rattle.array_image.specs.Arrays.{first_layout}
use Rattle.array_model.specs.declared.Seat.{Seat}
use Rattle.array_model.specs.declared.Seat.TheVariants.{Missing, Rebuilding}
use Rattle.array_model.specs.View.{seat_unless}
use Rattle.array_core.specs.declared.slots.Slot.{Slot}
use Rattle.array_core.specs.declared.Array.TheInside.{Inside}
use Rattle.array_core.specs.Model.{view_of, IsMade, is_truth}
use Rattle.array_core.specs.Slots.{slot_with, slots_of, places_by}
use Rattle.array_core.specs.Seats.{names, slot_at, seat_of, reseated, losing, gone, joined, renewed, restart, restarted, restarted_slot, data_disks}
use Rattle.array_core.proofs.Lists.{filter_within}
use Rattle.array_core.proofs.Truths.{truth_facts}

-- members beside their places are those members
pub zipped : (slots : List Slot) → map slot_with (zip (map (λ s. s.place) slots) (zip (map (λ s. s.seat) slots) (map (λ s. s.device) slots))) ≡ slots
zipped [] = refl
zipped (s ∷ slots) = ap (λ ss. s ∷ ss) (zipped slots)

-- contracts see an array's members
pub slots_viewed : (a : Inside) → map (λ s. s.place) a.slots.items ≡ places_by a.truth → slots_of (view_of a) ≡ a.slots.items
slots_viewed a placed =
    ap (λ places. map slot_with (zip places (zip (map (λ s. s.seat) a.slots.items) (map (λ s. s.device) a.slots.items)))) (sym placed)
    ∙ zipped a.slots.items

-- and the seat of a place
pub seat_viewed : (a : Inside) (slots : List Slot) (place : ℕ) → IsMade a → slots ≡ a.slots.items → option_map (λ s. s.seat) (slot_at slots place) ≡ seat_of (view_of a) place
seat_viewed a slots place made is = ap (λ ss. option_map (λ s. s.seat) (slot_at ss place)) (is ∙ sym (slots_viewed a made.slots))

-- what is read of members that were made of others
pub map_made : {X Y Z : Type 0} (f : X → Y) (g : Y → Z) (h : X → Z) → ((x : X) → g (f x) ≡ h x) → (xs : List X) → map g (map f xs) ≡ map h xs
map_made f g h same [] = refl
map_made f g h same (x ∷ xs) = ap₂ (λ y ys. y ∷ ys) (same x) (map_made f g h same xs)

pub reseated_places : (places : List ℕ) (seat : Seat) (device : Option Id) (slots : List Slot)
    → map (λ s. s.place) (map (reseated places seat device) slots) ≡ map (λ s. s.place) slots
reseated_places places seat device = map_made (reseated places seat device) (λ s. s.place) (λ s. s.place) (λ s. refl)

kept_device : (b : Bool) (device : Id) → (if b then device else device) ≡ device
kept_device true device = refl
kept_device false device = refl

pub reseated_devices : (places : List ℕ) (seat : Seat) (slots : List Slot)
    → map (λ s. s.device) (map (reseated places seat None) slots) ≡ map (λ s. s.device) slots
reseated_devices places seat = map_made (reseated places seat None) (λ s. s.device) (λ s. s.device) (λ s. kept_device (names places s.place) s.device)

-- ---- an array whose members have other seats

module _ (a : Inside) (slots : ArrayVec Slot) (places : List ℕ) (made : IsMade a) where
  pub reseated_made : (seat : Seat) (device : Option Id) → slots.items ≡ map (reseated places seat device) a.slots.items → IsMade (record a { slots = slots })
  reseated_made seat device changed = record {
    few = made.few;
    truth = made.truth;
    slots = ap (map (λ s. s.place)) changed ∙ reseated_places places seat device a.slots.items ∙ made.slots;
    unsynced = made.unsynced;
    synced = made.synced;
    went = made.went;
  }

  seen : slots_of (view_of a) ≡ a.slots.items
  seen = slots_viewed a made.slots

  lost_seats : slots.items ≡ map (reseated places Missing None) a.slots.items → map (λ s. s.seat) slots.items ≡ (losing places (view_of a)).seats
  lost_seats changed =
      ap (map (λ s. s.seat)) changed
      ∙ map_made (reseated places Missing None) (λ s. s.seat) (λ s. seat_unless (names places) s.place s.seat) (λ s. refl) a.slots.items
      ∙ ap (map (λ s. seat_unless (names places) s.place s.seat)) (sym seen)

  lost_devices : slots.items ≡ map (reseated places Missing None) a.slots.items → map (λ s. s.device) slots.items ≡ map (λ s. s.device) a.slots.items
  lost_devices changed = ap (map (λ s. s.device)) changed ∙ reseated_devices places Missing a.slots.items

  -- members are lost
  pub lost_view : slots.items ≡ map (reseated places Missing None) a.slots.items → view_of (record a { slots = slots }) ≡ losing places (view_of a)
  lost_view changed = λ i. record (view_of a) { seats = lost_seats changed i; devices = lost_devices changed i }

  -- and their places went
  pub gone_view : (went : ArrayVec ℕ) → slots.items ≡ map (reseated places Missing None) a.slots.items → went.items ≡ joined a.went.items places
      → view_of (record a { slots = slots; went = went }) ≡ gone places (view_of a)
  gone_view went changed noted =
      λ i. record (view_of a) { seats = lost_seats changed i; devices = lost_devices changed i; went = noted i }

  pub gone_made : (went : ArrayVec ℕ) → slots.items ≡ map (reseated places Missing None) a.slots.items → went.items ≡ joined a.went.items places
      → IsMade (record a { slots = slots; went = went })
  gone_made went changed noted =
      let others = reseated_made Missing None changed in
      record {
        few = others.few;
        truth = others.truth;
        slots = others.slots;
        unsynced = others.unsynced;
        synced = others.synced;
        went = ap (list_all (λ place. nat_lt place 16)) noted ∙ filter_within (λ p. names a.went.items p || names places p) 0 16 16 (lit≤ tt);
      }

-- rebuilds begin again
pub restarted_made : (a : Inside) (slots : ArrayVec Slot) → IsMade a → slots.items ≡ map (restarted_slot a.truth.size) a.slots.items → IsMade (record a { slots = slots })
restarted_made a slots made changed = record {
  few = made.few;
  truth = made.truth;
  slots = ap (map (λ s. s.place)) changed ∙ map_made (restarted_slot a.truth.size) (λ s. s.place) (λ s. s.place) (λ s. refl) a.slots.items ∙ made.slots;
  unsynced = made.unsynced;
  synced = made.synced;
  went = made.went;
}

pub restarted_view : (a : Inside) (slots : ArrayVec Slot) → slots.items ≡ map (restarted_slot a.truth.size) a.slots.items
    → view_of (record a { slots = slots }) ≡ restarted (view_of a)
restarted_view a slots changed =
    let size = a.truth.size in
    let seats = ap (map (λ s. s.seat)) changed
    ∙ map_made (restarted_slot size) (λ s. s.seat) (λ s. restart size s.seat) (λ s. refl) a.slots.items
    ∙ sym (map_made (λ s. s.seat) (restart size) (λ s. restart size s.seat) (λ s. refl) a.slots.items) in
    let devices = ap (map (λ s. s.device)) changed ∙ map_made (restarted_slot size) (λ s. s.device) (λ s. s.device) (λ s. refl) a.slots.items in
    λ i. record (view_of a) { seats = seats i; devices = devices i }

-- a member is on a new drive
pub renewed_view : (a : Inside) (slots : ArrayVec Slot) (place : ℕ) (drive device : Id) → IsMade a
    → device.0 ≡ member_id drive.0 a.number
    → slots.items ≡ map (reseated (place ∷ []) (Rebuilding 0) (Some device)) a.slots.items
    → view_of (record a { slots = slots }) ≡ renewed place drive (view_of a)
renewed_view a slots place drive device made is changed =
    let seen : slots_of (view_of a) ≡ a.slots.items = slots_viewed a made.slots in
    let id : device ≡ record { 0 = member_id drive.0 a.number } = λ i. record { 0 = is i } in
    let seats = ap (map (λ s. s.seat)) changed
    ∙ map_made (reseated (place ∷ []) (Rebuilding 0) (Some device)) (λ s. s.seat) (λ s. if names (place ∷ []) s.place then Rebuilding 0 else s.seat) (λ s. refl) a.slots.items
    ∙ ap (map (λ s. if names (place ∷ []) s.place then Rebuilding 0 else s.seat)) (sym seen) in
    let devices = ap (map (λ s. s.device)) changed
    ∙ map_made (reseated (place ∷ []) (Rebuilding 0) (Some device)) (λ s. s.device) (λ s. if names (place ∷ []) s.place then device else s.device) (λ s. refl) a.slots.items
    ∙ ap (map (λ s. if names (place ∷ []) s.place then device else s.device)) (sym seen)
    ∙ ap (λ (d : Id). map (λ s. if names (place ∷ []) s.place then d else s.device) (slots_of (view_of a))) id in
    λ i. record (view_of a) { seats = seats i; devices = devices i }

-- ---- its sectors

-- what is sized by the data of some members
sized : (reshaping mirror : Bool) (n size : ℕ)
    → (if reshaping then n - 2 else if mirror then 1 else n - 1) * size
    ≡ capacity (if reshaping then parity (n - 1) else if mirror then mirror_of n else parity n) size
sized true mirror n size = ap (λ (k : ℕ). k * size) (omega arith)
sized false true n size = omega arith
sized false false n size = refl

pub data_sized : (t : Super) → data_disks t * t.size ≡ capacity (first_layout t) t.size
data_sized t = sized (is_reshaping t) (is_mirror t) t.raid_disks t.size

few_disks : (reshaping mirror : Bool) (n : ℕ) → n ≤ 16 → (if reshaping then n - 2 else if mirror then 1 else n - 1) ≤ 16
few_disks true mirror n few = omega (arith, few)
few_disks false true n few = lit≤ tt
few_disks false false n few = omega (arith, few)

pub data_fits : (t : Super) → is_truth t ≡ true → data_disks t * t.size < 2 ^ 64
data_fits t holds =
    let facts = truth_facts t holds in
    let product = mul-le (data_disks t) t.size 16 (2 ^ 48) (few_disks (is_reshaping t) (is_mirror t) t.raid_disks facts.few) (omega (arith, facts.small)) in
    omega (arith, product)
