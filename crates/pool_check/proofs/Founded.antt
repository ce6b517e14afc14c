-- Arrays by the superblocks that were read of them, whatever the disks tell.
use Rattle.std.proofs.Common.{◌≡◌, ℕ, suc, ◌+◌, ◌<◌, Bool, true, false, ◌==◌, not, nat_lt, is_ok, if◌then◌else◌, List, [], ◌∷◌, ◌++◌, map, length, slice_get, Option, Some, None, Result, Ok, Err, is_some, inl, inr, refl, sym, ap, ap₂, subst, ◌∙◌, arith}
use Rattle.std.specs.Option.{option_and_then, option_map_or}
use Rattle.std.specs.List.{list_all, range_with_len}
use Rattle.std.proofs.lemmas.Bool.{and_parts, both_ways, cases_eq, eq-eqb, ltb-true}
use Rattle.std.proofs.lemmas.List.FromFn.{map-range_with_len_more}
use Rattle.rack.specs.Seen.{Image}
use Rattle.md_super.specs.declared.superblock.Super.{Super}
use Rattle.md_super.specs.Profile.{is_height_of, profiled, rules}
use Rattle.pool_state.specs.declared.contents.State.{State}
use Rattle.array_image.specs.Places.{member_slice, place_of, super_sector}
use Rattle.array_image.specs.States.{is_current}
use Rattle.array_image.specs.Supers.{is_named, is_super_of, only_if, super_in}
use Rattle.array_model.specs.View.{View}
use Rattle.array_core.specs.declared.Found.{Found as FoundSuper}
use Rattle.array_core.specs.declared.ArrayFault.{ArrayFault}
use Rattle.array_core.specs.Model.{is_truth}
use Rattle.array_core.specs.Opening.{opened, super_at as super_found, truth_of as found_truth}
use Rattle.array_core.proofs.Opened.{current_below, map_ranged}
use Rattle.array_core.proofs.Truths.{rule_holds}
use Rattle.pool_scan.proofs.Sights.{each_push}
use Rattle.pool_image.specs.Disks.{Seats}
use Rattle.pool_check.specs.declared.ArraysRead.{ArraysRead}
use Rattle.pool_check.specs.declared.Extent.{Extent}
use Rattle.pool_check.specs.declared.Layer.{Layer}
use Rattle.pool_check.specs.declared.Sight.{Sight}
use Rattle.pool_check.specs.Drives.{HasFewPlaces}
use Rattle.pool_check.specs.Founded.{AreFounded, HasContents, IsFounded, IsReadAt, found_in, is_stale, super_by}
use Rattle.pool_check.specs.Layers.{AreFoundedBy, HasNoFault, IsFoundedBy, Opens, is_sound_on, is_sound_sight, sight_by, sights_by}
use Rattle.pool_check.proofs.Adding.{length_more, none_differs, none_in}
use Rattle.pool_check.proofs.Begins.{no_super, nothing_in}
use Rattle.pool_check.proofs.Finding.{any_in, current_in, differs, got_from, truth_of_all}
use Rattle.pool_check.proofs.Slotted.{all_at, got_last, got_longer, opened_view}

-- ---- superblocks that were read

-- no bytes are no superblock
pub empty_block : (s : State) (array place : ℕ) → super_by s array place [] ≡ None
empty_block s array place = ap (only_if (is_super_of s.pool.0 s.extent (length s.drives.items) array place)) no_super

pub no_contents : (s : State) (seats : Seats) (array : ℕ) → HasContents s seats array 0 []
no_contents s seats array = record { image = λ k t. []; are = refl; unseated = λ place none. nothing_in s (λ k t. []) array place refl }

-- the contents with the block of one more place
module _ (s : State) (seats : Seats) (array place : ℕ) (found : List FoundSuper) (seen : Option Super) (low : array < 16)
    (old : HasContents s seats array place found) (read : IsReadAt s seats array place seen) where
  abbrev image_more : Image
  image_more k t = if place_of k == place then read.block else old.image k t

  here : super_in s image_more array place ≡ seen
  here =
      let same : place_of (member_slice place array) ≡ place = omega arith in
      ap (λ (b : Bool). super_by s array place (if b then read.block else old.image (member_slice place array) super_sector))
      (eq-eqb (place_of (member_slice place array)) place same)
      ∙ sym read.valid

  other : (p : ℕ) → (p ≡ place → ⊥) → super_in s image_more array p ≡ super_in s old.image array p
  other p apart =
      let same : place_of (member_slice p array) ≡ p = omega arith in
      ap (λ (b : Bool). super_by s array p (if b then read.block else old.image (member_slice p array) super_sector))
      (differs (place_of (member_slice p array)) place (λ at. apart (sym same ∙ at)))

  before : map (found_in s old.image array) (range_with_len 0 place) ≡ map (found_in s image_more array) (range_with_len 0 place)
  before =
      map_ranged (found_in s old.image array) (found_in s image_more array) 0 place
      (λ k least most. ap (λ (o : Option Super). let f : FoundSuper = record { place = k; seen = o } in f) (sym (other k (λ same. omega (arith, most, same)))))

  pub contents_more : HasContents s seats array (place + 1) (found ++ record { place = place; seen = seen } ∷ [])
  contents_more = record {
    image = image_more;
    are =
        ap₂ (λ (xs : List FoundSuper) (o : Option Super). xs ++ record { place = place; seen = o } ∷ []) (old.are ∙ before) (sym here)
        ∙ sym (map-range_with_len_more (found_in s image_more array) 0 place place (omega arith));
    unseated = λ p none. elim (cases_eq p place) [
      | inl same ↦
          subst (λ q. super_in s image_more array q ≡ None) (sym same)
          (here ∙ read.valid ∙ ap (super_by s array place) (read.unseated (subst (λ q. seats q ≡ None) same none)) ∙ empty_block s array place)
      | inr apart ↦ other p apart ∙ old.unseated p none
    ];
  }

-- ---- arrays below a number

pub no_arrays : (s : State) (seats : Seats) (layers : ArraysRead) → layers.opened.arrays.items ≡ [] → AreFoundedBy s seats 0 layers
no_arrays s seats layers none = record {
  count = λ faultless. ap length none;
  each = λ faultless n v at. none_in layers.opened.arrays.items n v none at;
}

-- an array with a fault is the last
pub faulty_more : (s : State) (seats : Seats) (many : ℕ) (a b : ArraysRead) (layer : Layer) (why : ArrayFault)
    → b.all.items ≡ a.all.items ++ layer ∷ [] → layer.fault ≡ Some why → AreFoundedBy s seats (suc many) b
faulty_more s seats many a b layer why pushed fault =
    record { count = λ none. absurd (no none); each = λ none. absurd (no none) }
  where
    no : HasNoFault b.all.items → ⊥
    no none =
        none_differs why
        (sym fault ∙ none (length a.all.items) layer (ap (λ xs. slice_get xs (length a.all.items)) pushed ∙ got_last a.all.items layer))

module _ (s : State) (seats : Seats) (number : ℕ) (a b : ArraysRead) (e : Extent) (found : List FoundSuper) (t : Super)
    (fault : Option ArrayFault) (layer : Layer) (flag : Bool)
    (contents : HasContents s seats number 16 found) (is : found_truth found ≡ Some t) (usable : is_truth t ≡ true)
    (pushed : b.all.items ≡ a.all.items ++ layer ∷ []) (said : layer.fault ≡ fault)
    (sights : layer.sights.items ≡ map (sights_by t found) (range_with_len 0 16)) (count : length a.all.items ≡ number)
    (flags : length a.opened.stale.items ≡ length a.opened.arrays.items) (says : flag ≡ is_stale t (super_found found))
    (old : AreFoundedBy s seats number a) where
  abbrev young : Bool
  young = not (nat_lt number s.joined)

  before_more : HasNoFault b.all.items → HasNoFault a.all.items
  before_more none k l at = none k l (ap (λ xs. slice_get xs k) pushed ∙ got_longer a.all.items layer k l at)

  longer : (n : ℕ) (v : View) → b.opened.stale.items ≡ a.opened.stale.items ++ flag ∷ []
      → IsFoundedBy s seats n a.all.items v (slice_get a.opened.stale.items n) → IsFoundedBy s seats n b.all.items v (slice_get b.opened.stale.items n)
  longer n v more by = record {
    truth = by.truth;
    found = by.found;
    contents = by.contents;
    truth_is = by.truth_is;
    usable = by.usable;
    opened = by.opened;
    layer = by.layer;
    at = ap (λ xs. slice_get xs n) pushed ∙ got_longer a.all.items layer n by.layer by.at;
    sights = by.sights;
    flagged =
        ap (λ xs. slice_get xs n) more
        ∙ got_longer a.opened.stale.items flag n (is_stale by.truth (super_found by.found)) by.flagged;
  }

  one : (v : View) → b.opened.stale.items ≡ a.opened.stale.items ++ flag ∷ [] → length a.opened.stale.items ≡ number
      → opened number young found ≡ Ok v → IsFoundedBy s seats number b.all.items v (slice_get b.opened.stale.items number)
  one v more many made = record {
    truth = t;
    found = found;
    contents = contents;
    truth_is = is;
    usable = usable;
    opened = made;
    layer = layer;
    at = ap (λ xs. slice_get xs number) pushed ∙ subst (λ n. slice_get (a.all.items ++ layer ∷ []) n ≡ Some layer) count (got_last a.all.items layer);
    sights = sights;
    flagged =
        ap (λ xs. slice_get xs number) more
        ∙ subst (λ n. slice_get (a.opened.stale.items ++ flag ∷ []) n ≡ Some flag) many (got_last a.opened.stale.items flag) ∙ ap Some says;
  }

  -- one more array was opened, or it has a fault
  pub founded_more : Opens a.opened b.opened e flag (opened number young found) fault → AreFoundedBy s seats (suc number) b
  founded_more opens = by (opened number young found) refl opens
    where
      by : (r : Result View ArrayFault) → opened number young found ≡ r → Opens a.opened b.opened e flag r fault → AreFoundedBy s seats (suc number) b
      by (Err why) made done = faulty_more s seats number a b layer why pushed (said ∙ done.2)
      by (Ok v) made done = record {
        count = λ none. ap length done.0 ∙ length_more a.opened.arrays.items v number (old.count (before_more none));
        each = λ none.
            let many = old.count (before_more none) in
            subst (λ (xs : List View). (n : ℕ) (w : View) → slice_get xs n ≡ Some w → IsFoundedBy s seats n b.all.items w (slice_get b.opened.stale.items n)) (sym done.0)
            (each_push (λ n w. IsFoundedBy s seats n b.all.items w (slice_get b.opened.stale.items n)) a.opened.arrays.items v
            (λ n w at. longer n w done.3 (old.each (before_more none) n w at))
            (subst (λ n. IsFoundedBy s seats n b.all.items v (slice_get b.opened.stale.items n)) (sym many) (one v done.3 (flags ∙ many) made)));
      }

-- ---- all arrays

-- an array's members have some sectors
some_size : (t : Super) → is_truth t ≡ true → 0 < t.size
some_size t usable =
    let parts = and_parts (is_ok (profiled t 128)) _ usable in
    let size = and_parts (is_height_of 128 t.size) _ (rule_holds 5 (rules t 128) parts.0) in
    let above : 2048 < t.size = ltb-true 2048 t.size (and_parts (nat_lt 2048 t.size) _ size.0).0 in
    omega (arith, above)

-- a member whose sight is sound has a valid superblock
sound_valid : (member valid : Bool) → member ≡ true → is_sound_sight (sight_by member valid) ≡ true → valid ≡ true
sound_valid true true is sound = refl
sound_valid true false is sound = sound
sound_valid false valid is sound = absurd (both_ways false refl is)

module _ (s : State) (seats : Seats) (few : HasFewPlaces s seats) (read : ArraysRead)
    (sound : (place d : ℕ) → place < 16 → seats place ≡ Some d → list_all (is_sound_on place) read.all.items ≡ true) where
  abbrev layers : List Layer
  layers = read.all.items

  pub founded_by : (n : ℕ) (v : View) (flag : Option Bool) → IsFoundedBy s seats n layers v flag → IsFounded s seats n v
  founded_by n v flag by = record {
    image = image;
    truth = by.truth;
    found = by.found;
    truth_is = sym (truth_of_all s image n few.few outside) ∙ sym (ap found_truth by.contents.are) ∙ by.truth_is;
    named = λ place named.
        ap (λ xs. super_found xs place) by.contents.are ∙ any_in s image n few.few outside place ∙ sym (current_in s image n few.few outside place);
    leads = by.truth_is;
    usable = by.usable;
    some = some_size by.truth by.usable;
    view = opened_view n (not (nat_lt n s.joined)) by.found by.truth v by.truth_is by.opened;
    opened = by.opened;
    there = λ place named is. there place named (current_below s place is) (seats place) refl;
  }
    where
      image : Image
      image = by.contents.image

      -- a place that isn't current has none
      outside : (place : ℕ) → is_current s place ≡ false → super_in s image n place ≡ None
      outside place gone = unseated (seats place) refl
        where
          unseated : (o : Option ℕ) → seats place ≡ o → super_in s image n place ≡ None
          unseated None seat = by.contents.unseated place seat
          unseated (Some d) seat = absurd (both_ways (is_current s place) gone (few.current place d seat))

      -- a member with a disk does
      seated : (place d : ℕ) → place < 16 → is_named by.truth place ≡ true → seats place ≡ Some d → is_some (super_in s image n place) ≡ true
      seated place d low named seat =
          let here = all_at (is_sound_on place) layers (sound place d low seat) n by.layer by.at in
          let sight = ap (λ (xs : List Sight). slice_get xs place) by.sights ∙ got_from (sights_by by.truth by.found) 16 place low in
          let valid =
          sound_valid (is_named by.truth place) (is_some (option_and_then (λ f. f.seen) (slice_get by.found place))) named
          (sym (ap (λ (o : Option Sight). option_map_or is_sound_sight o true) sight) ∙ here) in
          let found = ap (λ (xs : List FoundSuper). slice_get xs place) by.contents.are ∙ got_from (found_in s image n) 16 place low in
          sym (ap (λ (o : Option FoundSuper). is_some (option_and_then (λ f. f.seen) o)) found) ∙ valid

      there : (place : ℕ) → is_named by.truth place ≡ true → place < length s.drives.items → (o : Option ℕ) → seats place ≡ o
          → is_some (super_in s image n place) ≡ is_some (seats place)
      there place named below None seat = ap is_some (by.contents.unseated place seat) ∙ sym (ap is_some seat)
      there place named below (Some d) seat =
          let most = few.few in
          seated place d (omega (arith, below, most)) named seat ∙ sym (ap is_some seat)

  pub are_founded : HasNoFault layers → AreFoundedBy s seats s.made read
      → AreFounded s seats read.opened.arrays.items read.opened.stale.items
  unfolding founded_by
  are_founded none by = record {
    count = by.count none;
    each = λ n v at. founded_by n v (slice_get read.opened.stale.items n) (by.each none n v at);
    flags = λ n v at. (by.each none n v at).flagged;
  }
