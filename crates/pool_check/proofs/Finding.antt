-- What was found on the places of an array, as a list.
use Rattle.std.proofs.Common.{◌≡◌, ℕ, zero, suc, ◌+◌, ◌-◌, ◌<◌, ◌≤◌, ◌==◌, Bool, true, false, bytes_eq, if◌then◌else◌, List, ◌∷◌, map, find, length, slice_get, Option, Some, None, inl, inr, refl, sym, ap, subst, ◌∙◌, arith}
use Rattle.std.specs.Option.{option_map_or, option_and_then}
use Rattle.std.specs.List.{range_with_len, list_all}
use Rattle.std.proofs.lemmas.Bool.{cases_Bool, cases_eq, cases_lt, both_ways, and_from, eq-eqb}
use Rattle.std.proofs.lemmas.Bool.Decides.{nat_tests}
use Rattle.std.proofs.lemmas.Slice.Eq.{bytes_eq-Decides}
use Rattle.std.proofs.lemmas.Option.{none-some}
use Rattle.rack.specs.Seen.{Image}
use Rattle.md_super.specs.declared.superblock.Super.{Super}
use Rattle.pool_state.specs.declared.contents.State.{State}
use Rattle.array_image.specs.Foremost.{ahead, foremost}
use Rattle.array_image.specs.Places.{array_id}
use Rattle.array_image.specs.States.{is_current}
use Rattle.array_image.specs.Supers.{super_in, truth_in}
use Rattle.array_core.specs.declared.Found.{Found as FoundSuper}
use Rattle.array_core.specs.Opening.{super_at as super_found, truth_of as found_truth, share_set}
use Rattle.array_core.specs.Contents.{current_super}
use Rattle.array_core.proofs.Opened.{current_below, current_is, map_ranged, super_set, truth_leads, truth_ranged}
use Rattle.pool_image.specs.Drives.{Found, slices_from, truth_from}
use Rattle.pool_check.specs.Drives.{HasFewPlaces}
use Rattle.pool_check.specs.Founded.{all_in, found_in}
use Rattle.pool_check.specs.Layers.{all_found, found_on}
use Rattle.pool_check.proofs.Begins.{unseated_none}

-- ---- one of a row of places

pub differs : (a b : ℕ) → (a ≡ b → ⊥) → (a == b) ≡ false
differs a b apart = grind (arith, nat_tests)

-- of what was found place by place, that of a place
pub found_at : (h : ℕ → FoundSuper) → ((k : ℕ) → (h k).place ≡ k) → (a n place : ℕ) → a ≤ place → place < a + n
    → find (λ f. f.place == place) (map h (range_with_len a n)) ≡ Some (h place)
found_at h own a zero place least most = absurd (omega (arith, least, most))
found_at h own a (suc n) place least most =
    elim (cases_eq a place) [
      | inl same ↦
          ap (λ (b : Bool). if b then Some (h a) else find (λ f. f.place == place) (map h (range_with_len (a + 1) n)))
          (eq-eqb (h a).place place (own a ∙ same))
          ∙ ap (λ k. Some (h k)) same
      | inr other ↦
          ap (λ (b : Bool). if b then Some (h a) else find (λ f. f.place == place) (map h (range_with_len (a + 1) n)))
          (differs (h a).place place (λ at. other (sym (own a) ∙ at)))
          ∙ found_at h own (a + 1) n place (omega (arith, least, other)) (omega (arith, most))
    ]

-- and none of a place past them
pub found_past : (h : ℕ → FoundSuper) → ((k : ℕ) → (h k).place ≡ k) → (a n place : ℕ) → a + n ≤ place
    → find (λ f. f.place == place) (map h (range_with_len a n)) ≡ None
found_past h own a zero place past = refl
found_past h own a (suc n) place past =
    ap (λ (b : Bool). if b then Some (h a) else find (λ f. f.place == place) (map h (range_with_len (a + 1) n)))
    (differs (h a).place place (λ at. absurd (let same : a ≡ place = sym (own a) ∙ at in omega (arith, past, same))))
    ∙ found_past h own (a + 1) n place (omega (arith, past))

pub got_at : {X : Type 0} (h : ℕ → X) (a n k : ℕ) → k < n → slice_get (map h (range_with_len a n)) k ≡ Some (h (a + k))
got_at h a zero k inside = absurd (omega (arith, inside))
got_at h a (suc n) zero inside = let same : a ≡ a + 0 = omega arith in ap (λ m. Some (h m)) same
got_at h a (suc n) (suc k) inside =
    let next : a + 1 + k ≡ a + suc k = omega arith in
    got_at h (a + 1) n k (omega (arith, inside)) ∙ ap (λ m. Some (h m)) next

pub got_from : {X : Type 0} (h : ℕ → X) (n k : ℕ) → k < n → slice_get (map h (range_with_len 0 n)) k ≡ Some (h k)
got_from h n k inside = let same : 0 + k ≡ k = omega arith in got_at h 0 n k inside ∙ ap (λ m. Some (h m)) same

pub got_past : {X : Type 0} (h : ℕ → X) (a n k : ℕ) → n ≤ k → slice_get (map h (range_with_len a n)) k ≡ None
got_past h a zero zero past = refl
got_past h a zero (suc k) past = refl
got_past h a (suc n) zero past = absurd (omega (arith, past))
got_past h a (suc n) (suc k) past = got_past h (a + 1) n k (omega (arith, past))

-- values past a number are none, and add nothing
pub foremost_padded : {X : Type 0} (measure : X → ℕ) (f : ℕ → Option X) (a n k : ℕ) → ((m : ℕ) → a + n ≤ m → f m ≡ None)
    → foremost measure (map f (range_with_len a (n + k))) ≡ foremost measure (map f (range_with_len a n))
unfolding foremost
foremost_padded {X = X} measure f a zero k none = let same : zero + k ≡ k = omega arith in
    ap (λ m. foremost measure (map f (range_with_len a m))) same ∙ nones a k (λ m least. none m (omega (arith, least)))
  where
    nones : (a k : ℕ) → ((m : ℕ) → a ≤ m → f m ≡ None) → foremost measure (map f (range_with_len a k)) ≡ None
    nones a zero none = refl
    nones a (suc k) none =
        ap (λ o. foremost measure (o ∷ map f (range_with_len (a + 1) k))) (none a (omega arith))
        ∙ nones (a + 1) k (λ m least. none m (omega (arith, least)))
foremost_padded {X = X} measure f a (suc n) k none =
    let same : suc n + k ≡ suc (n + k) = omega arith in
    ap (λ m. foremost measure (map f (range_with_len a m))) same
    ∙ ap_first (f a) (foremost_padded measure f (a + 1) n k (λ m least. none m (omega (arith, least))))
  where
    ap_first : (o : Option X) → foremost measure (map f (range_with_len (a + 1) (n + k))) ≡ foremost measure (map f (range_with_len (a + 1) n))
        → foremost measure (o ∷ map f (range_with_len (a + 1) (n + k))) ≡ foremost measure (o ∷ map f (range_with_len (a + 1) n))
    ap_first None same = same
    ap_first (Some x) same = ap (ahead measure x) same

-- ---- what contents have on the places of an array, of which only current ones have any

module _ (s : State) (c : Image) (array : ℕ) (few : length s.drives.items ≤ 16)
    (none : (place : ℕ) → is_current s place ≡ false → super_in s c array place ≡ None) where
  abbrev all : List FoundSuper
  all = all_in s c array 16

  place_in : (place : ℕ) → place < 16 → super_found all place ≡ super_in s c array place
  place_in place inside =
      ap (option_and_then (λ (g : FoundSuper). g.seen)) (found_at (found_in s c array) (λ k. refl) 0 16 place (omega arith) (omega (arith, inside)))

  pub current_in : (place : ℕ) → current_super s c array place ≡ super_in s c array place
  current_in place =
      elim (cases_Bool (is_current s place)) [
        | inl is ↦ ap (λ (b : Bool). if b then super_in s c array place else None) is
        | inr gone ↦ ap (λ (b : Bool). if b then super_in s c array place else None) gone ∙ sym (none place gone)
      ]

  past_in : (place : ℕ) → length s.drives.items ≤ place → super_in s c array place ≡ None
  past_in place past =
      elim (cases_Bool (is_current s place)) [
        | inl is ↦ absurd (let below = current_below s place is in omega (arith, below, past))
        | inr gone ↦ none place gone
      ]

  -- what was found on any place
  pub any_in : (place : ℕ) → super_found all place ≡ super_in s c array place
  any_in place =
      elim (cases_lt place 16) [
        | inl inside ↦ place_in place inside
        | inr past ↦
            ap (option_and_then (λ (g : FoundSuper). g.seen)) (found_past (found_in s c array) (λ k. refl) 0 16 place (omega (arith, past)))
            ∙ sym (past_in place (omega (arith, few, past)))
      ]

  -- each place is listed once
  pub once_in : (k : ℕ) (f : FoundSuper) → slice_get all k ≡ Some f → super_found all f.place ≡ f.seen
  once_in k f at =
      elim (cases_lt k 16) [
        | inl inside ↦
            let same : Some (found_in s c array k) ≡ Some f = sym (got_from (found_in s c array) 16 k inside) ∙ at in
            let is : found_in s c array k ≡ f = cc in
            subst (λ (g : FoundSuper). super_found all g.place ≡ g.seen) is (any_in k)
        | inr past ↦ absurd (let absent = got_past (found_in s c array) 0 16 k past in none-some f (sym absent ∙ at))
      ]

  -- the truth of what was found is that of the contents
  pub truth_of_all : found_truth all ≡ truth_in s c array
  truth_of_all =
      let own = super_in s c array in
      let drives = length s.drives.items in
      let rest : drives + (16 - drives) ≡ 16 = omega (arith, few) in
      ap (foremost (λ (t : Super). t.events)) (map_ranged (super_found all) own 0 16 (λ k least most. place_in k (omega (arith, most))))
      ∙ ap (λ n. foremost (λ (t : Super). t.events) (map own (range_with_len 0 n))) (sym rest)
      ∙ foremost_padded (λ t. t.events) own 0 drives (16 - drives) (λ m least. past_in m (omega (arith, least)))
      ∙ ap (foremost (λ (t : Super). t.events)) (map_ranged own (current_super s c array) 0 drives (λ k least most. sym (current_in k)))
      ∙ sym (truth_ranged s c array)

  -- all superblocks that were found have the array's set id
  pub share_in : (t : Super) → truth_in s c array ≡ Some t → share_set all t.set_id ≡ true
  share_in t is = all_share 0 16
    where
      set_of : (place : ℕ) (u : Super) → super_in s c array place ≡ Some u → u.set_id.0 ≡ array_id s.pool.0 array
      set_of place u at = super_set s c array place u at

      own_set : t.set_id.0 ≡ array_id s.pool.0 array
      own_set = let leads = truth_leads s c array t is in set_of leads.at t (current_is s c array leads.at t leads.here).1

      shares : (o : Option Super) → ((u : Super) → o ≡ Some u → u.set_id.0 ≡ array_id s.pool.0 array)
          → option_map_or (λ u. bytes_eq u.set_id.0 t.set_id.0) o true ≡ true
      shares None says = refl
      shares (Some u) says = (bytes_eq-Decides u.set_id.0 t.set_id.0).1 (says u refl ∙ sym own_set)

      all_share : (a n : ℕ) → list_all (λ g. option_map_or (λ u. bytes_eq u.set_id.0 t.set_id.0) g.seen true) (map (found_in s c array) (range_with_len a n)) ≡ true
      all_share a zero = refl
      all_share a (suc n) =
          and_from (option_map_or (λ u. bytes_eq u.set_id.0 t.set_id.0) (super_in s c array a) true)
          (list_all (λ g. option_map_or (λ u. bytes_eq u.set_id.0 t.set_id.0) g.seen true) (map (found_in s c array) (range_with_len (a + 1) n)))
          (shares (super_in s c array a) (set_of a)) (all_share (a + 1) n)

-- ---- what was found where the slices of an array begin

module _ (f : Found) (array first : ℕ) (low : array < 16) (few : HasFewPlaces f.state f.seats) where
  abbrev found : List FoundSuper
  found = all_found f array first

  -- a place that isn't current has none
  past_current : (place : ℕ) → is_current f.state place ≡ false → super_in f.state (slices_from f first) array place ≡ None
  past_current place gone = unseated_none f array first place low (by (f.seats place) refl)
    where
      by : (o : Option ℕ) → f.seats place ≡ o → o ≡ None
      by None seat = refl
      by (Some d) seat = absurd (both_ways (is_current f.state place) gone (few.current place d seat))

  pub current_same : (place : ℕ) → current_super f.state (slices_from f first) array place ≡ super_in f.state (slices_from f first) array place
  current_same place = current_in f.state (slices_from f first) array few.few past_current place

  pub found_any : (place : ℕ) → super_found found place ≡ super_in f.state (slices_from f first) array place
  found_any place = any_in f.state (slices_from f first) array few.few past_current place

  pub found_once : (k : ℕ) (s : FoundSuper) → slice_get found k ≡ Some s → super_found found s.place ≡ s.seen
  found_once k s at = once_in f.state (slices_from f first) array few.few past_current k s at

  pub found_is_truth : found_truth found ≡ truth_from f array first
  found_is_truth = truth_of_all f.state (slices_from f first) array few.few past_current

  pub found_share : (t : Super) → truth_from f array first ≡ Some t → share_set found t.set_id ≡ true
  found_share t is = share_in f.state (slices_from f first) array few.few past_current t is

-- what was found on all places
pub all_ended : (f : Found) (array first n : ℕ) (xs : List FoundSuper) → n ≡ 16 → xs ≡ map (found_on f array first) (range_with_len 0 n)
    → xs ≡ all_found f array first
all_ended f array first n xs end are = are ∙ ap (λ m. map (found_on f array first) (range_with_len 0 m)) end
