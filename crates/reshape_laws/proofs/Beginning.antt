-- The call that begins a reshape, as one commit of superblocks.
use Rattle.std.proofs.Common.{◌≡◌, ◌<◌, ◌≤◌, ℕ, ℤ, pos, Bool, true, false, ◌||◌, List, [], ◌∷◌, ◌++◌, slice_get, option_map, None, if◌then◌else◌, refl, sym, ap, ◌∙◌, append-nil}
use Rattle.std.proofs.lemmas.Bool.{both_ways}
use Rattle.std.proofs.lemmas.Bool.Decides.{Decides-int_eq}
use Rattle.std.specs.Ordering.{int_eq}
use Rattle.rack.specs.Seen.{RackView}
use Rattle.rack.specs.Sequences.{OnlyReads}
use Rattle.shr_base.specs.declared.Id.{Id}
use Rattle.md_super.specs.Profile.{is_mirror, is_raid5}
use Rattle.array_image.specs.Places.{member_id}
use Rattle.array_image.specs.Supers.{is_reshaping}
use Rattle.array_image.specs.SoundArray.{first_unsynced}
use Rattle.log_laws.specs.View.{LogView, names, next_number}
use Rattle.log_laws.specs.Commits.{CommitCall}
use Rattle.array_model.specs.declared.Seat.{Seat}
use Rattle.array_model.specs.declared.Seat.TheVariants.{Whole, Missing, Rebuilding}
use Rattle.array_model.specs.View.{View, IsArray, LosesPlaces, has_gone, member_on, place_at, rows_of, seat_unless}
use Rattle.array_model.specs.Members.{HasSlices, IsSameButSeats}
use Rattle.array_model.proofs.Views.{loses_nobody, same_view}
use Rattle.array_core.specs.Model.{is_truth}
use Rattle.array_core.specs.Seats.{seat_of}
use Rattle.array_core.specs.Seats as seats
use Rattle.array_core.specs.Staging.{AddsSupersOf}
use Rattle.array_core.specs.Superblocks.{raised}
use Rattle.reshape_laws.specs.Reshapes.{Reshapes, joined, joining_seat, lacks_joined}
use Rattle.reshape_laws.proofs.Committing.{Step, committed_reshapes}
use Rattle.reshape_laws.proofs.Joining.{joined_few, nobody_has, roles_long, room_for, spare_role}
use Rattle.reshape_laws.proofs.StepsOf.{begin_step}
use Rattle.reshape_laws.proofs.Truths.{begun_bits, unspent_before}

-- what the call needs of an array
pub record IsBeginning (v : View) (on : List ℕ) (place : ℕ) : Type 0 where
  pub is_array : IsArray v
  pub truth : is_truth v.truth ≡ true
  pub raid5 : is_raid5 v.truth ≡ true
  pub still : is_reshaping v.truth ≡ false
  pub small : place < 16
  pub joins : seat_of v place ≡ None
  pub synced : v.resync ≡ rows_of v
  pub few : lacks_joined v on place ≡ false
  pub unsynced : first_unsynced v.truth ≤ v.resync

pub no_mirror_now : (v : View) → is_raid5 v.truth ≡ true → is_mirror v.truth ≡ false
no_mirror_now v raid5 = ap (λ (level : ℤ). int_eq level (pos 1)) ((Decides-int_eq v.truth.level (pos 5)).0 raid5)

module _ (v : View) (on : List ℕ) (place : ℕ) (drive : Id) (is : IsBeginning v on place) (a : RackView) where
  abbrev device : Id
  device = record { 0 = member_id drive.0 v.number }

  abbrev seat : Seat
  seat = joining_seat on place

  plain : is_mirror v.truth ≡ false
  plain = no_mirror_now v is.raid5

  no_rebuild : (to : ℕ) → joining_seat on place ≡ Rebuilding to → ⊥
  no_rebuild to = by (seats.names on place)
    where
      by : (b : Bool) → (if b then Whole else Missing) ≡ Rebuilding to → ⊥
      by true bad = let whole : Whole ≡ Rebuilding to = bad in cc
      by false bad = let missing : Missing ≡ Rebuilding to = bad in cc

  pub beginning_step : Step v (joined v on place drive).truth (v.seats ++ joining_seat on place ∷ []) (v.devices ++ record { 0 = member_id drive.0 v.number } ∷ []) v.resync
      (λ m. m ≡ member_on (joined v on place drive) v.truth.raid_disks) [] a a
  beginning_step =
      begin_step v (raised v.truth.events) place seat device is.is_array is.raid5 plain is.still
      (room_for v place is.is_array is.truth is.small is.joins) is.small (roles_long v place is.is_array is.truth is.small is.joins)
      (spare_role v place is.is_array is.truth is.small is.joins) (nobody_has v place is.is_array is.truth is.small is.joins)
      no_rebuild (joined_few v on place is.few) is.unsynced a a

  -- THE WHOLE CALL
  pub begin_reshapes : (w : View) (c : RackView) (l : LogView) (lost : List ℕ) (number after : ℕ) (answered : Bool)
      → AddsSupersOf (joined v on place drive) [] l.added → HasSlices (joined v on place drive) a → OnlyReads a a → CommitCall l on lost a c
      → IsSameButSeats (joined v on place drive) w → LosesPlaces (joined v on place drive) w (names lost) → l.number ≡ number → after ≡ next_number l.number
      → Reshapes v (joined v on place drive) w number after on a c answered
  begin_reshapes w c l lost number after answered adds slices reads commit same loses number_is after_is =
      committed_reshapes v v w (joined v on place drive).truth (v.seats ++ seat ∷ []) (v.devices ++ device ∷ []) v.resync
      (λ m. m ≡ member_on (joined v on place drive) v.truth.raid_disks) a a c l on lost l.added [] number after
      beginning_step adds (sym (append-nil l.added)) slices reads
      (record { same = same_view v; lost = λ p. false; loses = loses_nobody v; cause = λ p none. absurd (both_ways false refl none) }) commit
      same
      (record {
        seats = λ n. loses.seats n ∙ ap (λ (f : ℕ → Bool). option_map (seat_unless f (place_at (joined v on place drive) n)) (slice_get (joined v on place drive).seats n)) (λ i p. or_false (names lost p) i);
        went = λ p. loses.went p ∙ ap (λ (b : Bool). b || has_gone (joined v on place drive) p) (or_false (names lost p));
      })
      number_is after_is answered
      (λ rows y low alive. unspent_before v is.is_array (joined_few v on place is.few) is.synced y low)
      (λ bits. begun_bits v (raised v.truth.events) place seat device)
    where
      or_false : (b : Bool) → b ≡ (b || false)
      or_false true = refl
      or_false false = refl
