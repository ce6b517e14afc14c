-- One more array is read.
use Rattle.std.proofs.Common.{◌≡◌, ℕ, zero, suc, ◌+◌, ◌<◌, ◌≤◌, ◌^◌, Bool, true, false, ◌&&◌, ◌||◌, not, nat_lt, nat_le, if◌then◌else◌, List, [], ◌∷◌, ◌++◌, map, length, slice_get, Option, Some, None, Result, Ok, Err, inl, inr, refl, sym, ap, subst, ◌∙◌, lt-ltb, le-ltb, arith}
use Rattle.std.specs.Option.{option_map_or}
use Rattle.std.specs.List.{range_with_len}
use Rattle.std.proofs.lemmas.Bool.{both_ways, cases_lt}
use Rattle.std.proofs.lemmas.Bool.Decides.{nat_tests}
use Rattle.md_super.specs.declared.superblock.Super.{Super}
use Rattle.array_image.specs.Supers.{is_unclean}
use Rattle.array_image.specs.Places.{data_sector}
use Rattle.array_image.specs.Arrays.{shape_by}
use Rattle.array_model.specs.View.{View}
use Rattle.array_core.specs.declared.ArrayFault.{ArrayFault}
use Rattle.array_core.specs.declared.ArrayFault.TheVariants.{Foreign, TooFew, DirtyDegraded}
use Rattle.array_core.specs.Model.{is_truth}
use Rattle.array_core.specs.declared.Found.{Found as FoundSuper}
use Rattle.array_core.specs.Opening.{opened, super_at as super_found, truth_of as found_truth, view_found}
use Rattle.array_core.specs.Contents.{lacking_in}
use Rattle.array_core.proofs.Opened.{named_shape}
use Rattle.pool_scan.proofs.Sights.{each_push}
use Rattle.pool_image.specs.Replay.{Extent as ImageExtent}
use Rattle.pool_image.specs.Drives.{Found, extent_of, first_of, slices_of, truth_from}
use Rattle.pool_check.specs.declared.Checked.{Checked}
use Rattle.pool_check.specs.declared.Extent.{Extent}
use Rattle.pool_check.specs.declared.Layer.{Layer}
use Rattle.pool_check.specs.declared.ArraysRead.{ArraysRead}
use Rattle.pool_check.specs.Drives.{HasFewPlaces}
use Rattle.pool_check.specs.Founded.{is_stale}
use Rattle.pool_image.specs.Meaning.{super_at}
use Rattle.pool_check.specs.Layers.{AreLayers, AreOpened, IsExtent, IsFlag, IsLayer, IsNext, IsOpened, Opens, all_found, extent_by, fault_by, fault_of, is_usable, sight_of, sights_by}
use Rattle.pool_check.proofs.Begins.{IsUnknown, unknown_by}
use Rattle.pool_check.proofs.Finding.{found_any, found_is_truth, found_once}
use Rattle.pool_check.proofs.Layered.{far_fault, known_extent, known_next, known_sights, known_super, known_truth, named, opens_as, unknown_fault}

pub length_more : {X : Type 0} (xs : List X) (x : X) (n : ℕ) → length xs ≡ n → length (xs ++ x ∷ []) ≡ suc n
length_more [] x n is = ap suc is
length_more (y ∷ xs) x zero is = cc
length_more (y ∷ xs) x (suc n) is = ap suc (length_more xs x n (let same : length xs ≡ n = cc in same))

-- the arrays with one more, where it can't be opened
pub more_layers : (f : Found) (many : ℕ) (a b : ArraysRead) (layer : Layer)
    → b.all.items ≡ a.all.items ++ layer ∷ []
    → IsLayer f many layer
    → ((fault_of f many ≡ None) → AreOpened f many a.opened.arrays.items a.opened.extents.items a.opened.stale.items → AreOpened f (suc many) b.opened.arrays.items b.opened.extents.items b.opened.stale.items)
    → IsNext f (suc many) b.next
    → AreLayers f many a → AreLayers f (suc many) b
more_layers f many a b layer pushed is opens next old = record {
  count = ap length pushed ∙ length_more a.all.items layer many old.count;
  each = subst (λ (xs : List Layer). (n : ℕ) (l : Layer) → slice_get xs n ≡ Some l → IsLayer f n l) (sym pushed)
      (each_push (IsLayer f) a.all.items layer old.each (subst (λ n. IsLayer f n layer) (sym old.count) is));
  opened = λ none. opens (none many (omega arith)) (old.opened (λ n below. none n (omega (arith, below))));
  next = next;
}

pub none_differs : {X Y : Type 0} (x : X) → Some x ≡ None → Y
none_differs x is = cc

-- an array of which nothing is known
pub unknown_layer : (f : Found) (many : ℕ) (layer : Layer) → IsUnknown f many
    → layer.number ≡ many → layer.extent ≡ None → layer.sights.items ≡ map (sight_of f many) (range_with_len 0 16) → layer.fault ≡ Some Foreign
    → IsLayer f many layer
unknown_layer f many layer unknown number extent sights fault = record {
  number = number;
  extent = subst (IsExtent (extent_of f (suc many))) (sym extent) (λ e at. none_differs e (sym at ∙ unknown.extent));
  sights = sights;
  fault = fault ∙ unknown_fault f many unknown.truth;
}

pub nowhere : (f : Found) (many : ℕ) → first_of f many ≡ None → IsNext f many None
nowhere f many none first at = none_differs first (sym at ∙ none)

-- ---- an array with a truth

-- the truth of what was found is that of the drives
pub found_from : (f : Found) (array first : ℕ) (t : Super) (found : List FoundSuper) → array < 16 → HasFewPlaces f.state f.seats
    → found ≡ all_found f array first → found_truth found ≡ Some t → truth_from f array first ≡ Some t
found_from f array first t found low few same is = sym (found_is_truth f array first low few) ∙ sym (ap found_truth same) ∙ is

pub some_same : {X : Type 0} (x y : X) → Some x ≡ Some y → x ≡ y
some_same x y same = cc

module _ (f : Found) (array first : ℕ) (t : Super) (low : array < 16) (begins : first_of f array ≡ Some first) (is : truth_from f array first ≡ Some t) where
  far_extent : 2 ^ 48 ≤ t.size → (e : ImageExtent) → extent_of f (suc array) ≡ Some e → 2 ^ 48 ≤ e.sectors
  far_extent far e at =
      let same = some_same (record { first = first; sectors = data_sector + t.size }) e (sym (known_extent f array first t low begins is) ∙ at) in
      subst (λ (x : ImageExtent). 2 ^ 48 ≤ x.sectors) same (omega (arith, far))

  -- one whose members are longer than every disk
  pub far_layer : (layer : Layer) → 2 ^ 48 ≤ t.size → layer.number ≡ array → layer.extent ≡ None
      → layer.sights.items ≡ map (sights_by t (all_found f array first)) (range_with_len 0 16) → layer.fault ≡ Some TooFew
      → IsLayer f array layer
  far_layer layer far number extent sights fault = record {
    number = number;
    extent = subst (IsExtent (extent_of f (suc array))) (sym extent) (far_extent far);
    sights = sights ∙ known_sights f array first t low begins is;
    fault = fault ∙ far_fault f array first t low begins is far;
  }

  pub far_next : 2 ^ 48 ≤ t.size → IsNext f (suc array) None
  far_next far next at =
      let same = some_same (first + (data_sector + t.size)) next (sym (known_next f array first t low begins is) ∙ at) in
      omega (arith, far, same)

  pub near_next : IsNext f (suc array) (if nat_lt (first + (data_sector + t.size)) (2 ^ 48) then Some (first + (data_sector + t.size)) else None)
  near_next =
      let end = first + (data_sector + t.size) in
      let ends = known_next f array first t low begins is in
      elim (cases_lt end (2 ^ 48)) [
        | inl near ↦
            subst (λ (b : Bool). IsNext f (suc array) (if b then Some end else None)) (sym (lt-ltb end (2 ^ 48) near)) (ends, near)
        | inr far ↦
            subst (λ (b : Bool). IsNext f (suc array) (if b then Some end else None)) (sym (le-ltb end (2 ^ 48) far))
            (λ next at. subst (λ n. 2 ^ 48 ≤ n) (some_same end next (sym ends ∙ at)) far)
      ]

  module _ (few : HasFewPlaces f.state f.seats) (near : t.size < 2 ^ 48) (holds : is_truth t ≡ true) where
    abbrev lacks : ℕ
    lacks = lacking_in (shape_by f.state (slices_of f) array t)

    abbrev dirty : Bool
    dirty = nat_lt array f.state.joined && is_unclean t

    near_fault : fault_of f array ≡ (if nat_lt 1 lacks then Some TooFew else if nat_lt 0 lacks && dirty then Some DirtyDegraded else None)
    near_fault =
        ap (λ (o : Option Super). option_map_or (fault_by f array) o (Some Foreign)) (known_truth f array first t low begins is)
        ∙ ap (λ (b : Bool). if b || nat_lt 1 lacks then Some TooFew else if nat_lt 0 lacks && dirty then Some DirtyDegraded else None)
        (not_above t.size (2 ^ 48) near)
      where
        not_above : (a b : ℕ) → a < b → nat_le b a ≡ false
        not_above a b less = grind (arith, nat_tests)

    view : View
    view = view_found array (not (nat_lt array f.state.joined)) (all_found f array first) t

    twice_not : (b : Bool) → not (not b) ≡ b
    twice_not true = refl
    twice_not false = refl

    opening : opened array (not (nat_lt array f.state.joined)) (all_found f array first)
        ≡ (if nat_lt 1 lacks then Err TooFew else if nat_lt 0 lacks && dirty then Err DirtyDegraded else Ok (view_found array (not (nat_lt array f.state.joined)) (all_found f array first) t))
    opening =
        opens_as f array first t low begins is few holds (not (nat_lt array f.state.joined))
        ∙ ap (λ (b : Bool). if nat_lt 1 lacks then Err TooFew else if nat_lt 0 lacks && (b && is_unclean t) then Err DirtyDegraded
        else Ok (view_found array (not (nat_lt array f.state.joined)) (all_found f array first) t)) (twice_not (nat_lt array f.state.joined))

    pub opened_is : IsOpened f array (view_found array (not (nat_lt array f.state.joined)) (all_found f array first) t)
    opened_is = record {
      truth = t;
      found = all_found f array first;
      truth_is = known_truth f array first t low begins is;
      are_found = λ place. found_any f array first low few place ∙ sym (known_super f array first t low begins is place);
      once = λ k s at. found_once f array first low few k s at;
      view = refl;
      shape = named_shape f.state (slices_of f) array t (all_found f array first) holds (named f array first t low begins is few holds) (not (nat_lt array f.state.joined));
    }

    -- its flag is that of the drives
    flag_is : (flag : Bool) → flag ≡ is_stale t (super_found (all_found f array first)) → IsFlag f array flag
    flag_is flag says u truth =
        let same = some_same t u (sym (known_truth f array first t low begins is) ∙ truth) in
        let seen : super_found (all_found f array first) ≡ super_at f array =
        λ i place. (found_any f array first low few place ∙ sym (known_super f array first t low begins is place)) i in
        says ∙ ap (is_stale t) seen ∙ ap (λ (x : Super). is_stale x (super_at f array)) same

    -- one more array is open, with its extent, or the fault says why not
    pub more_opened : (a b : Checked) (e : Extent) (flag : Bool) (fault : Option ArrayFault)
        → flag ≡ is_stale t (super_found (all_found f array first))
        → extent_by e ≡ record { first = first; sectors = data_sector + t.size }
        → Opens a b e flag (opened array (not (nat_lt array f.state.joined)) (all_found f array first)) fault
        → (fault ≡ fault_of f array)
        × (fault_of f array ≡ None → AreOpened f array a.arrays.items a.extents.items a.stale.items → AreOpened f (suc array) b.arrays.items b.extents.items b.stale.items)
    more_opened a b e flag fault says lies opens =
        by (nat_lt 1 lacks) (nat_lt 0 lacks && dirty) near_fault (subst (λ r. Opens a b e flag r fault) opening opens)
      where
        by : (short unclean : Bool)
            → fault_of f array ≡ (if short then Some TooFew else if unclean then Some DirtyDegraded else None)
            → Opens a b e flag (if short then Err TooFew else if unclean then Err DirtyDegraded
            else Ok (view_found array (not (nat_lt array f.state.joined)) (all_found f array first) t)) fault
            → (fault ≡ fault_of f array)
            × (fault_of f array ≡ None → AreOpened f array a.arrays.items a.extents.items a.stale.items → AreOpened f (suc array) b.arrays.items b.extents.items b.stale.items)
        by true unclean said done = (done.2 ∙ sym said, λ none old. none_differs TooFew (sym said ∙ none))
        by false true said done = (done.2 ∙ sym said, λ none old. none_differs DirtyDegraded (sym said ∙ none))
        by false false said done = (
          done.2 ∙ sym said,
          λ none old.
              let v = view_found array (not (nat_lt array f.state.joined)) (all_found f array first) t in
              record {
                count = ap length done.0 ∙ length_more a.arrays.items v array old.count;
                lengths = ap length done.1 ∙ length_more a.extents.items e array old.lengths;
                each =
                    subst (λ (xs : List View). (n : ℕ) (w : View) → slice_get xs n ≡ Some w → IsOpened f n w) (sym done.0)
                    (each_push (IsOpened f) a.arrays.items v old.each (subst (λ n. IsOpened f n v) (sym old.count) opened_is));
                lies =
                    subst (λ (xs : List Extent). (n : ℕ) (x : Extent) → slice_get xs n ≡ Some x → extent_of f (suc n) ≡ Some (extent_by x)) (sym done.1)
                    (each_push (λ n x. extent_of f (suc n) ≡ Some (extent_by x)) a.extents.items e old.lies
                    (subst (λ n. extent_of f (suc n) ≡ Some (extent_by e)) (sym old.lengths) (known_extent f array first t low begins is ∙ ap Some (sym lies))));
                flagged = ap length done.3 ∙ length_more a.stale.items flag array old.flagged;
                flags =
                    subst (λ (xs : List Bool). (n : ℕ) (x : Bool) → slice_get xs n ≡ Some x → IsFlag f n x) (sym done.3)
                    (each_push (IsFlag f) a.stale.items flag old.flags (subst (λ n. IsFlag f n flag) (sym old.flagged) (flag_is flag says)));
              },
        )

    pub near_layer : (layer : Layer) (e : Extent) → extent_by e ≡ record { first = first; sectors = data_sector + t.size }
        → layer.number ≡ array → layer.extent ≡ Some e
        → layer.sights.items ≡ map (sights_by t (all_found f array first)) (range_with_len 0 16) → layer.fault ≡ fault_of f array
        → IsLayer f array layer
    near_layer layer e lies number extent sights fault = record {
      number = number;
      extent = subst (IsExtent (extent_of f (suc array))) (sym extent) (known_extent f array first t low begins is ∙ ap Some (sym lies));
      sights = sights ∙ known_sights f array first t low begins is;
      fault = fault;
    }

-- ---- what is kept, whatever the drives tell

-- arrays and extents stay as many, and at most one more
pub opens_kept : (a b : Checked) (e : Extent) (flag : Bool) (r : Result View ArrayFault) (fault : Option ArrayFault) → Opens a b e flag r fault
    → length a.extents.items ≡ length a.arrays.items
    → length a.stale.items ≡ length a.arrays.items
    → (length b.extents.items ≡ length b.arrays.items) × (length b.arrays.items ≤ suc (length a.arrays.items))
    × (length b.stale.items ≡ length b.arrays.items)
opens_kept a b e flag (Ok v) fault done same flags =
    let many = length a.arrays.items in
    let arrays = ap length done.0 ∙ length_more a.arrays.items v many refl in
    let extents = ap length done.1 ∙ length_more a.extents.items e many same in
    let stale = ap length done.3 ∙ length_more a.stale.items flag many flags in
    (extents ∙ sym arrays, omega (arith, arrays), stale ∙ sym arrays)
opens_kept a b e flag (Err why) fault done same flags =
    let arrays = ap length done.0 in
    (ap length done.1 ∙ same ∙ sym arrays, omega (arith, arrays), ap length done.3 ∙ flags ∙ sym arrays)

pub next_near : (end first : ℕ) → (if nat_lt end (2 ^ 48) then Some end else None) ≡ Some first → first < 2 ^ 48
next_near end first is =
    elim (cases_lt end (2 ^ 48)) [
      | inl near ↦
          subst (λ n. n < 2 ^ 48)
          (some_same end first (sym (ap (λ (b : Bool). if b then Some end else None) (lt-ltb end (2 ^ 48) near)) ∙ is)) near
      | inr far ↦ none_differs first (sym (sym (ap (λ (b : Bool). if b then Some end else None) (le-ltb end (2 ^ 48) far)) ∙ is))
    ]

-- and that sector is the next one
pub next_same : (end first : ℕ) → (if nat_lt end (2 ^ 48) then Some end else None) ≡ Some first → end ≡ first
next_same end first is =
    elim (cases_lt end (2 ^ 48)) [
      | inl near ↦ some_same end first (sym (ap (λ (b : Bool). if b then Some end else None) (lt-ltb end (2 ^ 48) near)) ∙ is)
      | inr far ↦ none_differs first (sym (sym (ap (λ (b : Bool). if b then Some end else None) (le-ltb end (2 ^ 48) far)) ∙ is))
    ]

-- an array of which no superblock was found
pub none_from : (f : Found) (array first : ℕ) (found : List FoundSuper) → array < 16 → HasFewPlaces f.state f.seats
    → found ≡ all_found f array first → first_of f array ≡ Some first → found_truth found ≡ None → IsUnknown f array
none_from f array first found low few same begins none =
    unknown_by f array low
    (λ other at.
    subst (λ n. truth_from f array n ≡ None) (some_same first other (sym begins ∙ at))
    (sym (found_is_truth f array first low few) ∙ sym (ap found_truth same) ∙ none))

-- a usable superblock of a member's size is one that an array can go by
pub usable_truth : (t : Super) → is_usable t ≡ true → t.size < 2 ^ 48 → is_truth t ≡ true
usable_truth t usable near = second (nat_le (2 ^ 48) t.size) (not_above t.size (2 ^ 48) near) usable
  where
    not_above : (a b : ℕ) → a < b → nat_le b a ≡ false
    not_above a b less = grind (arith, nat_tests)

    second : (b : Bool) → b ≡ false → (b || is_truth t) ≡ true → is_truth t ≡ true
    second true is holds = absurd (both_ways true is refl)
    second false is holds = holds

-- nothing is in an empty list
pub none_in : {X Y : Type 0} (xs : List X) (n : ℕ) (x : X) → xs ≡ [] → slice_get xs n ≡ Some x → Y
none_in {Y = Y} xs n x none at = in_empty n (sym (ap (λ ys. slice_get ys n) none) ∙ at)
  where
    in_empty : (n : ℕ) → slice_get [] n ≡ Some x → Y
    in_empty zero is = cc
    in_empty (suc n) is = cc
