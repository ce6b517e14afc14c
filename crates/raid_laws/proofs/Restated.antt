-- What the superblocks of a settled array make of contents in which they are written.
use Rattle.std.proofs.Common.{◌≡◌, ℕ, ◌+◌, ◌<◌, ◌≤◌, Bool, true, false, ◌&&◌, not, List, take, length, Some, None, refl, sym, ap, subst, ◌∙◌, arith}
use Rattle.std.proofs.lemmas.Bool.{both_ways}
use Rattle.rack.specs.Values.{Values}
use Rattle.rack.specs.Seen.{Image, RackView}
use Rattle.rack.specs.Targets.{Target, look, put}
use Rattle.pool_state.specs.declared.contents.State.{State}
use Rattle.array_image.specs.Places.{member_slice, place_of, super_sector, data_sector}
use Rattle.array_image.specs.States.{is_current}
use Rattle.array_image.specs.Supers.{super_in, truth_in}
use Rattle.array_image.specs.Stripes.{width, sector_in, there, AgreeIn}
use Rattle.array_image.specs.Arrays.{Shape, shape_in, layout_at, replayed}
use Rattle.array_image.specs.Held.{current_in, IsSynced}
use Rattle.array_image.specs.Even.{AreEven}
use Rattle.array_image.specs.Marks.{Marks}
use Rattle.array_image.specs.Left.{Picks}
use Rattle.array_image.specs.SoundArray.{IsWrittenSuper, IsSoundArray, first_unsynced}
use Rattle.array_image.proofs.Frames.{super_of_sector}
use Rattle.array_image.proofs.Marked.{marked_super}
use Rattle.array_image.proofs.Settled.{among_take}
use Rattle.log_laws.proofs.Kept.{stands_of, put_some, put_none}
use Rattle.array_model.specs.View.{View, shape_of, place_at, is_missing_seat}
use Rattle.array_model.specs.Says.{IsOpen, HasNoOthers}
use Rattle.array_model.specs.Stages.{IsStateOf, AmongTargets, HasTargets}
use Rattle.array_core.specs.Staging.{AddsSupersOf, HasRowRebuilds}
use Rattle.array_core.proofs.Staged.{slot_on, alone_others, staged_shape, staged_truth, staged_sound}
use Rattle.raid_laws.specs.Raid.{Raid, InvariantInCall}
use Rattle.raid_laws.specs.Marking.{NoData, Restates}
use Rattle.raid_laws.proofs.Marking.{no_data}
use Rattle.raid_laws.specs.Laws.{AgreeCounted, counted_columns}

-- ---- rows of settled members

-- rows that agree now agree in contents that agree where members count
even_counted : (shape : Shape) (n resync : ℕ) (c e : Image) → AgreeCounted shape n c e → AreEven shape n resync e → AreEven shape n resync c
even_counted shape n resync c e same even x inside synced counts =
    let layout = layout_at shape x in
    subst (λ stripe. AgreeIn layout (there stripe))
    (sym (counted_columns shape n (sector_in layout x) c e same (take (width layout) shape.members)
    (λ m among. among_take (width layout) shape.members m among)))
    (even x inside synced counts)

-- contents of settled members are what they hold now
settled_counted : (shape : Shape) (xs : List Target) (a : RackView) (n : ℕ) (c : Image) → n < 16 → NoData xs → IsOpen shape n a → IsSynced shape n a.held → Picks a c
    → AgreeCounted shape n (put a.sectors xs c) (current_in a.held)
settled_counted shape xs a n c few none is_open settled picks m sector among counts =
    put_none a.sectors xs c (member_slice m.place n) (data_sector + sector) (no_data xs n m.place sector none few)
    ∙ settled m sector among counts (c (member_slice m.place n) (data_sector + sector))
    (picks.picks (member_slice m.place n) (data_sector + sector) (is_open m sector among counts))

-- ---- the superblocks

-- What is known of a settled array whose superblocks are among the targets of a commit of marks.
pub record IsStaged (s t : State) (gone : ℕ → Bool) (u : View) (xs : List Target) (a : RackView) (n : ℕ) : Type 0 where
  pub few : n < 16
  pub number : u.number ≡ n
  pub seats : length u.seats ≡ u.truth.raid_disks
  pub devices : length u.devices ≡ u.truth.raid_disks
  pub placed : (k : ℕ) → k < u.truth.raid_disks → place_at u k < 16
  pub state : IsStateOf u t
  pub marks : Marks s gone t
  pub before : List Target
  pub added : List Target
  pub adds : AddsSupersOf u before added
  -- they are written
  pub are_targets : (x : Target) → AmongTargets x adds.targets → (look xs x.disk x.sector ≡ Some x.bytes) × (x.sector < a.sectors x.disk)
  -- and no other superblock of the array is
  pub no_other :
      (place : ℕ) → ((k : ℕ) → k < u.truth.raid_disks → place_at u k ≡ place → ⊥) → look xs (member_slice place n) super_sector ≡ None
  pub none : NoData xs
  -- a member is left
  pub member : ℕ
  pub low : member < u.truth.raid_disks
  pub left : is_missing_seat (slot_on u member).seat ≡ false
  pub rows : HasRowRebuilds u
  pub written : IsWrittenSuper u.number u.truth
  pub unsynced : first_unsynced u.truth ≤ u.resync
  pub settled : IsSynced (shape_of u) n a.held
  pub unmarked : u.marked ≡ false

-- the contents with the targets have its superblocks
pub has_supers : (s t : State) (gone : ℕ → Bool) (u : View) (xs : List Target) (a : RackView) (n : ℕ) (c : Image) (staged : IsStaged s t gone u xs a n)
    → HasTargets staged.adds.targets (put a.sectors xs c)
has_supers s t gone u xs a n c staged x among =
    let at = staged.are_targets x among in
    put_some a.sectors xs c x.disk x.sector x.bytes at.1 at.0

left_now : (b c : Bool) → (b && not c) ≡ true → (b ≡ true) × (c ≡ false)
left_now true false is = (refl, refl)
left_now true true is = absurd (both_ways false refl is)
left_now false c is = absurd (both_ways false refl is)

-- the place of a member's slice
place_of_slice : (place n : ℕ) → n < 16 → place_of (member_slice place n) ≡ place
place_of_slice place n few = omega (arith, few)

-- with the targets written, a current place that isn't a member's has none, as it had none
pub alone_on : (s t : State) (durable : Shape) (vals : ℕ → Values) (spent gone : ℕ → Bool) (v : Raid) (xs : List Target) (a : RackView) (n place : ℕ) (c : Image)
    → n < 16 → InvariantInCall s durable vals spent gone v a n → Picks a c → is_current s place ≡ true → gone place ≡ false
    → look xs (member_slice place n) super_sector ≡ None → ((e : Image) → super_in t e n place ≡ super_in s e n place)
    → ((k : ℕ) → k < (v.arrays n).truth.raid_disks → place_at (v.arrays n) k ≡ place → ⊥)
    → super_in t (put a.sectors xs c) n place ≡ None
alone_on s t durable vals spent gone v xs a n place c few stood picks current left none same other =
    let d = member_slice place n in
    let as_left : put a.sectors xs c d super_sector ≡ replayed a.sectors c d super_sector =
    put_none a.sectors xs c d super_sector none ∙ sym (stood.log.quiet c (stands_of c picks) d super_sector (ap gone (place_of_slice place n few) ∙ left)) in
    super_of_sector t (put a.sectors xs c) (replayed a.sectors c) n place as_left ∙ same (replayed a.sectors c)
    ∙ subst (λ k. super_in s (replayed a.sectors c) k place ≡ None) stood.number
    (stood.holds.alone (replayed a.sectors c) (c, picks, λ e i. refl) place current other)

-- so no other current place has one
put_alone : (s t : State) (durable : Shape) (vals : ℕ → Values) (spent gone : ℕ → Bool) (v : Raid) (xs : List Target) (a : RackView) (n : ℕ) (c : Image)
    → IsStaged s t gone (v.arrays n) xs a n → InvariantInCall s durable vals spent gone v a n → Picks a c
    → HasNoOthers (v.arrays n) t (put a.sectors xs c)
put_alone s t durable vals spent gone v xs a n c staged stood picks place current other =
    let now = left_now (is_current s place) (gone place) (sym (staged.marks.current place) ∙ current) in
    subst (λ k. super_in t (put a.sectors xs c) k place ≡ None) (sym staged.number)
    (alone_on s t durable vals spent gone v xs a n place c staged.few stood picks now.0 now.1 (staged.no_other place other)
    (λ e. marked_super s t gone e n place staged.marks) other)

-- By the new state, with the targets written, contents restate the array, where no other current place has a superblock of it.
pub restates_by : (s t : State) (gone : ℕ → Bool) (u : View) (xs : List Target) (a : RackView) (n : ℕ)
    → IsStaged s t gone u xs a n → ((c : Image) → Picks a c → HasNoOthers u t (put a.sectors xs c))
    → IsOpen (shape_of u) n a → AreEven (shape_of u) n u.resync (current_in a.held)
    → Restates t (shape_of u) false u xs a n
restates_by s t gone u xs a n staged alone is_open even =
    let e : Image → Image = λ c. put a.sectors xs c in
    record {
      shape_is = λ c picks.
          subst (λ k. shape_in t (e c) k ≡ Some (shape_of u)) staged.number
          (staged_shape u t (e c) staged.seats staged.devices staged.placed staged.state staged.before staged.added staged.adds (has_supers s t gone u xs a n c staged)
          staged.member staged.low staged.left (alone_others u t (e c) staged.seats (alone c picks)));
      sound = λ c picks w is.
          subst (λ k. IsSoundArray t (e c) k w) staged.number
          (staged_sound u t (e c) staged.seats staged.devices staged.placed staged.state staged.before staged.added staged.adds (has_supers s t gone u xs a n c staged)
          staged.member staged.low staged.left (alone_others u t (e c) staged.seats (alone c picks))
          (alone c picks) staged.rows staged.written
          (subst (λ k. AreEven (shape_of u) k u.resync (e c)) (sym staged.number)
          (even_counted (shape_of u) n u.resync (e c) (current_in a.held) (settled_counted (shape_of u) xs a n c staged.few staged.none is_open staged.settled picks) even))
          staged.unsynced w
          (subst (λ k. truth_in t (e c) k ≡ Some w) (sym staged.number) is));
      dirty = λ marked. absurd (both_ways false refl marked);
      truth = λ c picks w is.
          staged_truth u t (e c) staged.seats staged.devices staged.placed staged.state staged.before staged.added staged.adds (has_supers s t gone u xs a n c staged)
          staged.member staged.low staged.left (alone_others u t (e c) staged.seats (alone c picks)) w
          (subst (λ k. truth_in t (e c) k ≡ Some w) (sym staged.number) is);
      alone = alone;
    }

-- so they do for an array that stands before it
pub restates_staged : (s t : State) (durable : Shape) (vals : ℕ → Values) (spent gone : ℕ → Bool) (v : Raid) (xs : List Target) (a : RackView) (n : ℕ)
    → IsStaged s t gone (v.arrays n) xs a n → InvariantInCall s durable vals spent gone v a n
    → Restates t (shape_of (v.arrays n)) false (v.arrays n) xs a n
restates_staged s t durable vals spent gone v xs a n staged stood =
    let u = v.arrays n in
    restates_by s t gone u xs a n staged (λ c picks. put_alone s t durable vals spent gone v xs a n c staged stood picks)
    (subst (λ k. IsOpen (shape_of u) k a) staged.number stood.holds.shape.open_left)
    (subst (λ k. AreEven (shape_of u) k u.resync (current_in a.held)) staged.number stood.holds.shape.even)
