-- The array that found superblocks make.
use Rattle.std.specs.Prelude.{ℕ, ◌/◌, Bool, true, false, ◌==◌, ◌&&◌, not, nat_lt, bytes_eq, if◌then◌else◌, List, [], map, count_by, replicate, find, Option, Result, Ok, Err}
use Rattle.std.specs.Option.{option_map_or, option_and_then}
use Rattle.std.specs.List.{range_with_len, list_all}
use Rattle.shr_base.specs.declared.Id.{Id}
use Rattle.md_super.specs.declared.superblock.Super.{Super}
use Rattle.array_image.specs.Foremost.{foremost}
use Rattle.array_image.specs.Supers.{is_rebuilding, is_unclean}
use Rattle.array_image.specs.SoundArray.{first_unsynced}
use Rattle.array_model.specs.declared.Seat.{Seat}
use Rattle.array_model.specs.declared.Seat.TheVariants.{Whole, Missing, Rebuilding}
use Rattle.array_model.specs.View.{View, is_whole_seat}
use Rattle.array_core.specs.declared.slots.Slot.{Slot}
use Rattle.array_core.specs.declared.Found.{Found}
use Rattle.array_core.specs.declared.ArrayFault.{ArrayFault}
use Rattle.array_core.specs.declared.ArrayFault.TheVariants.{Foreign, TooFew, DirtyDegraded}
use Rattle.array_core.specs.Slots.{places_by}

-- the superblock that was found on a place
abbrev pub super_at : List Found → ℕ → Option Super
super_at found place = option_and_then (λ f. f.seen) (find (λ f. f.place == place) found)

-- the one of most events, of equal ones that of the lowest place
abbrev pub truth_of : List Found → Option Super
truth_of found = foremost (λ t. t.events) (map (super_at found) (range_with_len 0 16))

-- all superblocks have this set id
abbrev pub share_set : List Found → Id → Bool
share_set found set = list_all (λ f. option_map_or (λ t. bytes_eq t.set_id.0 set.0) f.seen true) found

-- the id of a member without a superblock
abbrev pub no_id : Id
no_id = record { 0 = replicate 16 0 }

-- a member by its own superblock
abbrev pub seat_by : Super → Seat
seat_by t = if is_rebuilding t then Rebuilding t.recovery_offset else Whole

-- the member on a place: missing where no superblock was found
abbrev pub slot_by : ℕ → Option Super → Slot
slot_by place own = record {
  place = place;
  seat = option_map_or seat_by own Missing;
  device = option_map_or (λ t. t.device_id) own no_id;
}

-- those that a superblock's roles name, by position
abbrev pub slots_found : List Found → Super → List Slot
slots_found found t = map (λ place. slot_by place (super_at found place)) (places_by t)

-- how many members are missing or rebuilding
abbrev pub lacking : List Slot → ℕ
lacking slots = count_by (λ s. not (is_whole_seat s.seat)) slots

-- the first row left to resync: none is in a young array, whose rows are zeroed
abbrev pub resync_by : Bool → Super → ℕ
resync_by young t = if young then t.size / 128 else first_unsynced t

abbrev pub view_found : ℕ → Bool → List Found → Super → View
view_found number young found t = record {
  number = number;
  truth = t;
  seats = map (λ s. s.seat) (slots_found found t);
  devices = map (λ s. s.device) (slots_found found t);
  went = [];
  resync = resync_by young t;
  young = young;
  marked = false;
}

-- the array of these superblocks, or the first refusal whose cause holds
abbrev pub opened_by : ℕ → Bool → List Found → Super → Result View ArrayFault
opened_by number young found t =
    if not (share_set found t.set_id) then Err Foreign
    else if nat_lt 1 (lacking (slots_found found t)) then Err TooFew
    else if nat_lt 0 (lacking (slots_found found t)) && (not young && is_unclean t) then Err DirtyDegraded
    else Ok (view_found number young found t)

abbrev pub opened : ℕ → Bool → List Found → Result View ArrayFault
opened number young found = option_map_or (opened_by number young found) (truth_of found) (Err Foreign)
