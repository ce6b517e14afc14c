-- The array that is opened is that of the contents.
use Rattle.std.proofs.Common.{◌≡◌, ℕ, zero, suc, ◌+◌, ◌*◌, ◌^◌, ◌<◌, ◌≤◌, Bool, true, false, ◌==◌, ◌&&◌, not, nat_lt, is_ok, bytes_eq, if◌then◌else◌, List, [], ◌∷◌, map, find, count_by, unwrap_or, length, get_or, slice_get, Option, Some, None, Ok, Err, option_map, refl, sym, ap, ap₂, subst, ◌∙◌, lt-ltb, eqb-true, arith}
use Rattle.std.specs.Option.{option_map_or, option_and_then}
use Rattle.std.specs.List.{range_with_len, list_all, zip}
use Rattle.std.proofs.lemmas.Bool.{and_parts, and_from, both_ways}
use Rattle.std.proofs.lemmas.List.Quantifiers.{position-Some}
use Rattle.std.proofs.lemmas.Option.{slice_get-get_or}
use Rattle.std.proofs.lemmas.Slice.Eq.{bytes_eq-Decides}
use Rattle.rack.specs.Seen.{Image, RackView}
use Rattle.pool_state.specs.declared.contents.State.{State}
use Rattle.md_super.specs.declared.superblock.Super.{Super}
use Rattle.md_super.specs.Profile.{profiled}
use Rattle.array_image.specs.Places.{array_id}
use Rattle.array_image.specs.States.{is_current, current_places}
use Rattle.array_image.specs.Supers.{is_named, is_rebuilding, is_reshaping, is_unclean, has_roles, has_whole_row, is_super_of, only_if, super_in, super_of, truth_in}
use Rattle.array_image.specs.Places.{member_slice, super_sector}
use Rattle.array_image.specs.Arrays.{Shape, place_with, member_by, member_in, shape_by, final_layout, first_layout}
use Rattle.array_image.specs.Held.{Among}
use Rattle.array_image.specs.Left.{reading}
use Rattle.array_image.specs.Foremost.{foremost}
use Rattle.array_model.specs.declared.Seat.TheVariants.{Whole, Rebuilding}
use Rattle.array_model.specs.View.{shape_of, member_on}
use Rattle.array_model.specs.Says.{IsOpen}
use Rattle.array_model.specs.Opened.{OpensOn}
use Rattle.array_core.specs.declared.Found.{Found}
use Rattle.array_core.specs.declared.ArrayFault.TheVariants.{Foreign, TooFew, DirtyDegraded}
use Rattle.array_core.specs.declared.slots.Slot.{Slot}
use Rattle.array_core.specs.Slots.{slot_with, place_by, places_by}
use Rattle.array_core.specs.Model.{is_truth}
use Rattle.array_core.specs.Opening.{super_at, truth_of, share_set, slot_by, slots_found, lacking, view_found, opened_by, opened}
use Rattle.array_core.specs.Contents.{current_super, AreFound, AreSlicesOf, lacking_in}
use Rattle.array_core.proofs.Leading.{Leads, foremost_leads, leads_foremost, foremost_filtered}
use Rattle.array_core.proofs.Lists.{map_back}
use Rattle.array_core.proofs.Truths.{truth_facts, valid_truth}
use Rattle.array_core.proofs.Rules.{placed}
use Rattle.array_core.proofs.Seating.{zipped, map_made}
use Rattle.array_core.proofs.SlotMembers.{member_of_slot, members_slots, lacking_members}

-- ---- valid superblocks

only_passes : {X : Type 0} (test : X → Bool) (o : Option X) (x : X) → only_if test o ≡ Some x → test x ≡ true
only_passes {X = X} test None x is = cc
only_passes {X = X} test (Some y) x is =
    let Goal : Bool → Type 0 = λ b. test y ≡ b → (if b then Some y else None) ≡ Some x → test x ≡ true in
    let goal : Goal (test y) = elim (test y) as Goal [
      | true ↦ λ passes now. subst (λ z. test z ≡ true) (same y x now) passes
      | false ↦ λ passes now. cc
    ] in
    goal refl is
  where
    same : (y x : X) → Some y ≡ Some x → y ≡ x
    same y x e = cc

-- a valid superblock passes
pub super_passes : (s : State) (c : Image) (number place : ℕ) (t : Super) → super_in s c number place ≡ Some t
    → is_super_of s.pool.0 s.extent (length s.drives.items) number place t ≡ true
super_passes s c number place t is =
    only_passes (is_super_of s.pool.0 s.extent (length s.drives.items) number place) (super_of (c (member_slice place number) super_sector)) t is

-- and is that of its own place
pub super_place : (s : State) (c : Image) (number place : ℕ) (t : Super) → super_in s c number place ≡ Some t → t.dev_number ≡ place
super_place s c number place t is =
    let one = and_parts (is_ok (profiled t s.extent)) _ (super_passes s c number place t is) in
    let two = and_parts (bytes_eq t.set_id.0 (array_id s.pool.0 number)) _ one.1 in
    eqb-true t.dev_number place (and_parts (t.dev_number == place) _ two.1).0

-- it is one that an array can go by, in a pool of extents of whole multiples of 128 sectors
pub super_truth : (s : State) (c : Image) (number place k : ℕ) (t : Super) → super_in s c number place ≡ Some t
    → s.extent ≡ 128 * k → length s.drives.items ≤ 16 → t.size < 2 ^ 48 → is_truth t ≡ true
super_truth s c number place k t is extent few small =
    let one = and_parts (is_ok (profiled t s.extent)) _ (super_passes s c number place t is) in
    let two = and_parts (bytes_eq t.set_id.0 (array_id s.pool.0 number)) _ one.1 in
    let three = and_parts (t.dev_number == place) _ two.1 in
    let four = and_parts (nat_lt 0 t.events) _ three.1 in
    let five = and_parts (nat_lt t.events (2 ^ 63)) _ four.1 in
    let six = and_parts (has_whole_row t) (has_roles (length s.drives.items) t) five.1 in
    valid_truth t k (length s.drives.items) (subst (λ (n : ℕ). is_ok (profiled t n) ≡ true) extent one.0) six.0 six.1 few small

-- and has the array's set id
pub super_set : (s : State) (c : Image) (number place : ℕ) (t : Super) → super_in s c number place ≡ Some t → t.set_id.0 ≡ array_id s.pool.0 number
super_set s c number place t is =
    let one = and_parts (is_ok (profiled t s.extent)) _ (super_passes s c number place t is) in
    (bytes_eq-Decides t.set_id.0 (array_id s.pool.0 number)).0 (and_parts (bytes_eq t.set_id.0 (array_id s.pool.0 number)) _ one.1).0

-- ---- the truth

pub truth_ranged : (s : State) (c : Image) (number : ℕ)
    → truth_in s c number ≡ foremost (λ t. t.events) (map (current_super s c number) (range_with_len 0 (length s.drives.items)))
unfolding truth_in current_places
truth_ranged s c number = foremost_filtered (λ t. t.events) (is_current s) (super_in s c number) (range_with_len 0 (length s.drives.items))

pub truth_leads : (s : State) (c : Image) (number : ℕ) (t : Super) → truth_in s c number ≡ Some t
    → Leads (λ u. u.events) (current_super s c number) 0 (length s.drives.items) t
truth_leads s c number t is =
    foremost_leads (λ u. u.events) (current_super s c number) 0 (length s.drives.items) t (sym (truth_ranged s c number) ∙ is)

-- a superblock on a current place
pub current_is : (s : State) (c : Image) (number place : ℕ) (t : Super) → current_super s c number place ≡ Some t
    → (is_current s place ≡ true) × (super_in s c number place ≡ Some t)
current_is s c number place t is =
    let Goal : Bool → Type 0 = λ b. is_current s place ≡ b → (if b then super_in s c number place else None) ≡ Some t
    → (is_current s place ≡ true) × (super_in s c number place ≡ Some t) in
    let goal : Goal (is_current s place) = elim (is_current s place) as Goal [ true ↦ λ now some. (now, some) | false ↦ λ now some. cc ] in
    goal refl is

passes_below : {X : Type 0} (test : X → Bool) (xs : List X) (k : ℕ) → option_map_or test (slice_get xs k) false ≡ true → k < length xs
passes_below test [] k passes = absurd (both_ways false refl passes)
passes_below test (x ∷ xs) zero passes = omega arith
passes_below test (x ∷ xs) (suc k) passes = let rest = passes_below test xs k passes in omega (arith, rest)

pub current_below : (s : State) (place : ℕ) → is_current s place ≡ true → place < length s.drives.items
current_below s place is = passes_below (λ drive. not drive.missing) s.drives.items place is

all_got : {X : Type 0} (p : X → Bool) (xs : List X) → ((k : ℕ) (x : X) → slice_get xs k ≡ Some x → p x ≡ true) → list_all p xs ≡ true
all_got p [] got = refl
all_got p (x ∷ xs) got = and_from (p x) (list_all p xs) (got 0 x refl) (all_got p xs (λ k y at. got (suc k) y at))

module _ (s : State) (c : Image) (number : ℕ) (t : Super) (found : List Found) (are : AreFound s c number t found) where
  -- what is found on a place is what the contents have there
  found_some : (place : ℕ) (u : Super) → super_at found place ≡ Some u → current_super s c number place ≡ Some u
  found_some place u is =
      let Goal : Bool → Type 0 = λ b. is_named t place ≡ b → current_super s c number place ≡ Some u in
      let goal : Goal (is_named t place) = elim (is_named t place) as Goal [
        | true ↦ λ names. sym (are.named place names) ∙ is
        | false ↦ λ names. absurd (none_some u (sym (are.others place names) ∙ is))
      ] in
      goal refl
    where
      none_some : (u : Super) → None ≡ Some u → ⊥
      none_some u e = cc

  -- the truth of what was found is that of the contents
  pub found_truth : truth_of found ≡ Some t
  found_truth =
      let leads = truth_leads s c number t are.truth in
      let own = current_is s c number leads.at t leads.here in
      let at : t.dev_number ≡ leads.at = super_place s c number leads.at t own.1 in
      let few = are.few in
      leads_foremost (λ u. u.events) (super_at found) 0 16 t (record {
        at = leads.at;
        least = leads.least;
        most = omega (arith, leads.most, few);
        here = are.named leads.at (subst (λ p. is_named t p ≡ true) at are.own) ∙ leads.here;
        before = λ q y low early some. leads.before q y low early (found_some q y some);
        after = λ q y late high some.
            let now = found_some q y some in
            let below = current_below s q (current_is s c number q y now).0 in
            leads.after q y late (omega (arith, below)) now;
      })

  -- all superblocks have its set id
  pub found_shares : share_set found t.set_id ≡ true
  found_shares = all_got (λ f. option_map_or (λ u. bytes_eq u.set_id.0 t.set_id.0) f.seen true) found same
    where
      leads : Leads (λ u. u.events) (current_super s c number) 0 (length s.drives.items) t
      leads = truth_leads s c number t are.truth

      set : t.set_id.0 ≡ array_id s.pool.0 number
      set = super_set s c number leads.at t (current_is s c number leads.at t leads.here).1

      shares : (place : ℕ) (u : Super) → super_at found place ≡ Some u → bytes_eq u.set_id.0 t.set_id.0 ≡ true
      shares place u is =
          (bytes_eq-Decides u.set_id.0 t.set_id.0).1
          (super_set s c number place u (current_is s c number place u (found_some place u is)).1 ∙ sym set)

      same : (k : ℕ) (f : Found) → slice_get found k ≡ Some f → option_map_or (λ u. bytes_eq u.set_id.0 t.set_id.0) f.seen true ≡ true
      same k f at =
          let Goal : Option Super → Type 0 = λ o. super_at found f.place ≡ o → option_map_or (λ u. bytes_eq u.set_id.0 t.set_id.0) o true ≡ true in
          let goal : Goal f.seen = elim f.seen as Goal [ None ↦ λ is. refl | Some u ↦ λ is. shares f.place u is ] in
          goal (are.once k f at)

-- what holds of each superblock that was found holds of the truth
pub all_pass : (p : Super → Bool) (found : List Found) → list_all (λ f. option_map_or p f.seen true) found ≡ true
    → (t : Super) → truth_of found ≡ Some t → p t ≡ true
all_pass p found all t is =
    let leads = foremost_leads (λ u. u.events) (super_at found) 0 16 t is in
    found_pass found all leads.at t leads.here
  where
    found_pass : (found : List Found) → list_all (λ f. option_map_or p f.seen true) found ≡ true
        → (place : ℕ) (t : Super) → super_at found place ≡ Some t → p t ≡ true
    found_pass [] all place t is = cc
    found_pass (f ∷ found) all place t is =
        let parts = and_parts (option_map_or p f.seen true) (list_all (λ f. option_map_or p f.seen true) found) all in
        let rest = found_pass found parts.1 place t in
        let Goal : Bool → Type 0 = λ b. option_and_then (λ f. f.seen) (if b then Some f else find (λ f. f.place == place) found) ≡ Some t → p t ≡ true in
        let goal : Goal (f.place == place) = elim (f.place == place) as Goal [
          | true ↦ λ here. sym (ap (λ o. option_map_or p o true) here) ∙ parts.0
          | false ↦ λ there. rest there
        ] in
        goal is

-- where each superblock that was found is one that an array can go by, so is the truth
pub all_truths : (found : List Found) → list_all (λ f. option_map_or is_truth f.seen true) found ≡ true
    → (t : Super) → truth_of found ≡ Some t → is_truth t ≡ true
all_truths = all_pass is_truth

-- ---- the shape

-- a place that roles give to a position is named
pub named_place : (t : Super) (n place : ℕ) → n < 16 → place_with t.roles.items n ≡ Some place → is_named t place ≡ true
named_place t n place low is =
    let roles = t.roles.items in
    let at = position-Some (λ role. role == n) roles place 0 is in
    let role : get_or roles place 0 ≡ n = eqb-true (get_or roles place 0) n at.1 in
    ap (λ o. option_map_or (λ r. nat_lt r 0xfffe) o false) (slice_get-get_or roles place 0 at.0)
    ∙ lt-ltb (get_or roles place 0) 0xfffe (omega (arith, role, low))

-- a slot that was found is the member of the contents
slot_member : (size place : ℕ) (current : Bool) (own : Option Super)
    → member_of_slot size (slot_by place (if current then own else None)) ≡ member_by size place current own
slot_member size place false own = refl
slot_member size place true None = refl
slot_member size place true (Some u) =
    let Goal : Bool → Type 0 = λ b.
    member_of_slot size (record { place = place; seat = if b then Rebuilding u.recovery_offset else Whole; device = u.device_id })
    ≡ record { place = place; reach = if b then u.recovery_offset else size; is_there = true; is_whole = not b } in
    let goal : Goal (is_rebuilding u) = elim (is_rebuilding u) as Goal [ true ↦ refl | false ↦ refl ] in
    goal

pub map_ranged : {Y : Type 0} (f g : ℕ → Y) (a n : ℕ) → ((k : ℕ) → a ≤ k → k < a + n → f k ≡ g k) → map f (range_with_len a n) ≡ map g (range_with_len a n)
map_ranged f g a zero same = refl
map_ranged f g a (suc n) same =
    ap₂ (λ y ys. y ∷ ys) (same a (omega arith) (omega arith))
    (map_ranged f g (a + 1) n (λ k low high. same k (omega (arith, low)) (omega (arith, high))))

pub length_ranged : {Y : Type 0} (f : ℕ → Y) (a n : ℕ) → length (map f (range_with_len a n)) ≡ n
length_ranged f a zero = refl
length_ranged f a (suc n) = ap suc (length_ranged f (a + 1) n)

pub length_mapped : {X Y : Type 0} (f : X → Y) (xs : List X) → length (map f xs) ≡ length xs
length_mapped f [] = refl
length_mapped f (x ∷ xs) = ap suc (length_mapped f xs)

module _ (s : State) (c : Image) (number : ℕ) (t : Super) (found : List Found) (holds : is_truth t ≡ true)
    (are_named : (place : ℕ) → is_named t place ≡ true → super_at found place ≡ current_super s c number place) where
  abbrev slots : List Slot
  slots = slots_found found t

  -- the members that were found are those of the contents
  found_members : map (member_of_slot t.size) slots ≡ map (member_in s c number t) (range_with_len 0 t.raid_disks)
  found_members =
      map_made (λ place. slot_by place (super_at found place)) (member_of_slot t.size) (λ place. member_of_slot t.size (slot_by place (super_at found place))) (λ place. refl) (places_by t)
      ∙ map_made (place_by t) (λ place. member_of_slot t.size (slot_by place (super_at found place))) (λ n. member_of_slot t.size (slot_by (place_by t n) (super_at found (place_by t n)))) (λ n. refl) (range_with_len 0 t.raid_disks)
      ∙ map_ranged (λ n. member_of_slot t.size (slot_by (place_by t n) (super_at found (place_by t n)))) (member_in s c number t) 0 t.raid_disks member
    where
      member : (n : ℕ) → 0 ≤ n → n < 0 + t.raid_disks → member_of_slot t.size (slot_by (place_by t n) (super_at found (place_by t n))) ≡ member_in s c number t n
      member n low high =
          let below : n < t.raid_disks = omega (arith, high) in
          let there = placed t n (truth_facts t holds).positions below in
          let few = (truth_facts t holds).few in
          let place : there.0 ≡ place_by t n = ap (λ o. unwrap_or o 16) (sym there.1) in
          let named : is_named t (place_by t n) ≡ true = subst (λ p. is_named t p ≡ true) place (named_place t n there.0 (omega (arith, below, few)) there.1) in
          ap (λ o. member_of_slot t.size (slot_by (place_by t n) o)) (are_named (place_by t n) named)
          ∙ slot_member t.size (place_by t n) (is_current s (place_by t n)) (super_in s c number (place_by t n))

  found_places : map (λ s. s.place) slots ≡ places_by t
  found_places = map_back (λ place. slot_by place (super_at found place)) (λ s. s.place) (λ place. refl) (places_by t)

  found_count : length slots ≡ t.raid_disks
  found_count = length_mapped (λ place. slot_by place (super_at found place)) (places_by t) ∙ length_ranged (place_by t) 0 t.raid_disks

  -- the shape of the opened array is that of the contents, whatever was found on places that the truth doesn't name
  pub named_shape : (young : Bool) → shape_of (view_found number young found t) ≡ shape_by s c number t
  unfolding shape_of shape_by
  named_shape young =
      let v = view_found number young found t in
      let members : map (member_on v) (range_with_len 0 t.raid_disks) ≡ map (member_in s c number t) (range_with_len 0 t.raid_disks)
      = members_slots v (length_mapped (λ s. s.seat) slots ∙ found_count) (length_mapped (λ s. s.device) slots ∙ found_count)
      ∙ ap (λ places. map (member_of_slot t.size) (map slot_with (zip places (zip (map (λ s. s.seat) slots) (map (λ s. s.device) slots))))) (sym found_places)
      ∙ ap (map (member_of_slot t.size)) (zipped slots)
      ∙ found_members in
      λ i. record {
        members = members i;
        size = t.size;
        moved = final_layout t;
        layout = first_layout t;
        reached = if is_reshaping t then t.reshape_position else 0;
      }

  -- as many members are missing or rebuilding
  pub named_lacking : lacking slots ≡ lacking_in (shape_by s c number t)
  unfolding shape_by
  named_lacking = lacking_members t.size slots ∙ ap (count_by (λ m. not m.is_whole)) found_members

module _ (s : State) (c : Image) (number : ℕ) (t : Super) (found : List Found) (are : AreFound s c number t found)
    (holds : is_truth t ≡ true) where
  -- the shape of the opened array is that of the contents
  pub found_shape : (young : Bool) → shape_of (view_found number young found t) ≡ shape_by s c number t
  found_shape = named_shape s c number t found holds are.named

  -- as many members are missing or rebuilding
  pub found_lacking : lacking (slots_found found t) ≡ lacking_in (shape_by s c number t)
  found_lacking = named_lacking s c number t found holds are.named

  -- what the opening of these answers: the array of the contents, or the refusal that they have
  pub opened_contents : (young : Bool)
      → opened number young found
      ≡ (if nat_lt 1 (lacking_in (shape_by s c number t)) then Err TooFew
      else if nat_lt 0 (lacking_in (shape_by s c number t)) && (not young && is_unclean t) then Err DirtyDegraded
      else Ok (view_found number young found t))
  opened_contents young =
      ap (λ (o : Option Super). option_map_or (opened_by number young found) o (Err Foreign)) (found_truth s c number t found are)
      ∙ ap₂ (λ (b : Bool) (n : ℕ).
      if not b then Err Foreign
      else if nat_lt 1 n then Err TooFew
      else if nat_lt 0 n && (not young && is_unclean t) then Err DirtyDegraded
      else Ok (view_found number young found t))
      (found_shares s c number t found are) found_lacking

-- ---- what the opened array holds

-- the opened array is that of the slices, so it holds what they say
pub found_opens : (s : State) (number : ℕ) (t : Super) (found : List Found) (x : RackView) → is_truth t ≡ true → AreSlicesOf s number t found x
    → OpensOn s (view_found number false found t) x
found_opens s number t found x holds slices =
    let v = view_found number false found t in
    let shape : shape_of v ≡ shape_by s (reading x) number t = found_shape s (reading x) number t found slices.found_is holds false in
    record {
      few = λ place current. (let low = current_below s place current in let few = slices.found_is.few in omega (arith, low, few));
      joined = slices.joined;
      shape_is = ap (option_map (shape_by s (reading x) number)) slices.found_is.truth ∙ ap Some (sym shape);
      truth_is = slices.found_is.truth;
      sound = slices.sound;
      alone = slices.alone;
      resync = omega arith;
      unmarked = refl;
      closed = slices.closed;
      single = slices.single;
      open_slices = subst (λ (f : Shape). IsOpen f number x) (sym shape) slices.open_slices;
      supers = slices.supers;
      sized = λ m i among counts. slices.sized m i (subst (λ (f : Shape). Among m f.members) shape among) counts;
    }
