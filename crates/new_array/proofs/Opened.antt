-- The array that the superblocks of a new array's members make, where some members may be missing: with the truth of one of them.
use Rattle.std.proofs.Common.{◌≡◌, ℕ, ◌+◌, ◌*◌, ◌<◌, ◌≤◌, ◌^◌, ◌==◌, ◌&&◌, ◌||◌, not, nat_lt, bytes_eq, Bool, true, false, List, [], ◌∷◌, count_by, find, get_or, map, length, position, slice_get, if◌then◌else◌, Option, Some, None, option_map, unwrap_or, Result, Ok, Err, refl, sym, ap, ap₂, subst, ◌∙◌, eqb-true, le-ltb, arith}
use Rattle.std.specs.Option.{option_and_then, option_map_or}
use Rattle.std.specs.List.{range_with_len, list_all}
use Rattle.std.proofs.lemmas.Bool.{and_from}
use Rattle.std.proofs.lemmas.List.{length-map, same_lists}
use Rattle.std.proofs.lemmas.List.FromFn.{get_or-map-range_with_len, length-map-range_with_len}
use Rattle.std.proofs.lemmas.List.Quantifiers.{position-Some}
use Rattle.std.proofs.lemmas.List.Sums.{sum_by-cons}
use Rattle.std.proofs.lemmas.Option.{slice_get-get_or}
use Rattle.std.proofs.lemmas.Slice.Eq.{bytes_eq-Decides}
use Rattle.shr_base.specs.declared.Id.{Id}
use Rattle.md_super.specs.declared.superblock.Super.{Super}
use Rattle.array_image.specs.Supers.{is_unclean}
use Rattle.array_model.specs.declared.Seat.TheVariants.{Missing, Whole}
use Rattle.array_model.specs.View.{View, is_whole_seat}
use Rattle.array_core.specs.declared.Found.{Found}
use Rattle.array_core.specs.declared.slots.Slot.{Slot}
use Rattle.array_core.specs.declared.ArrayFault.{ArrayFault}
use Rattle.array_core.specs.declared.ArrayFault.TheVariants.{Foreign, TooFew, DirtyDegraded}
use Rattle.array_core.specs.Model.{is_truth}
use Rattle.array_core.specs.Opening.{lacking, opened, opened_by, slot_by, slots_found, super_at, truth_of, view_found}
use Rattle.array_core.specs.Slots.{place_by, places_by}
use Rattle.array_core.proofs.Rules.{get_map, get_range, placed, zero_more}
use Rattle.new_array.specs.Supers.{has, new_super, role_of}
use Rattle.new_array.proofs.Foremost.{foremost_is, foremost_there}
use Rattle.new_array.proofs.Lists.{element_has, filtered, has_first, has_later, someone}
use Rattle.new_array.proofs.Roles.{role_at}
use Rattle.new_array.proofs.Supers.{IsLayer, roles_ok as new_roles_ok, truth_ok as new_truth_ok}

-- ---- what is found

found_more : (g : ℕ → Option Super) (x : ℕ) (xs : List ℕ) (p : ℕ)
    → super_at (map (λ place. record { place = place; seen = g place }) xs) p ≡ (if has xs p then g p else None)
    → (b : Bool) → (x == p) ≡ b
    → option_and_then (λ (e : Found). e.seen) (if b then Some (record { place = x; seen = g x }) else find (λ (e : Found). e.place == p) (map (λ place. record { place = place; seen = g place }) xs))
    ≡ (if (b || has xs p) then g p else None)
found_more g x xs p rest true here = ap g (eqb-true x p here)
found_more g x xs p rest false other = rest

-- on a place of the list what is there, and nothing on any other place
found_at : (g : ℕ → Option Super) (places : List ℕ) (p : ℕ) → super_at (map (λ place. record { place = place; seen = g place }) places) p ≡ (if has places p then g p else None)
found_at g [] p = refl
found_at g (x ∷ xs) p = found_more g x xs p (found_at g xs p) (x == p) refl

-- as many members lack as places fail
lacking_mapped : (h : ℕ → Slot) (fails : ℕ → Bool) (xs : List ℕ) → ((p : ℕ) → has xs p ≡ true → not (is_whole_seat (h p).seat) ≡ fails p)
    → lacking (map h xs) ≡ count_by fails xs
lacking_mapped h fails [] each = refl
lacking_mapped h fails (x ∷ xs) each =
    sum_by-cons (λ (s : Slot). if not (is_whole_seat s.seat) then 1 else 0) (h x) (map h xs)
    ∙ ap₂ (λ (b : Bool) (n : ℕ). (if b then 1 else 0) + n) (each x (has_first x xs)) (lacking_mapped h fails xs (λ p among. each p (has_later x xs p among)))
    ∙ sym (sum_by-cons (λ p. if fails p then 1 else 0) x xs)

-- ---- a new array

-- the superblocks of these members, of which some are there
module _ (pool : Id) (ids : ℕ → Id) (members : List ℕ) (number size offset seconds extent drives : ℕ) (most : drives ≤ 16) (is : IsLayer extent drives members size)
    (there : ℕ → Bool) where
  abbrev super_on : ℕ → Super
  super_on p = new_super pool (ids p) members number p size offset seconds

  abbrev found : List Found
  found = map (λ place. record { place = place; seen = if there place then Some (super_on place) else None }) members

  pub seen_at : (p : ℕ) → super_at found p ≡ (if has members p then (if there p then Some (super_on p) else None) else None)
  seen_at p = found_at (λ place. if there place then Some (super_on place) else None) members p

  pub member_low : (p : ℕ) → has members p ≡ true → p < drives
  member_low p among = let low = (filtered is.reaches 0 drives p (subst (λ xs. has xs p ≡ true) is.members_are among)).1 in omega (arith, low)

  -- its truth is the superblock of a member that is there
  pub truth_is : (t : Super) → truth_of found ≡ Some t → (p : ℕ) × (has members p ≡ true) × (there p ≡ true) × (t ≡ super_on p)
  truth_is t leads =
      let at = foremost_is (λ (u : Super). u.events) (super_at found) 0 16 t leads in
      let one = of (has members at.0) (there at.0) at.0 (sym (seen_at at.0) ∙ at.3) in
      (at.0, one.0, one.1, one.2)
    where
      none_some : None ≡ Some t → ⊥
      none_some same = cc

      of : (m h : Bool) (p : ℕ) → (if m then (if h then Some (super_on p) else None) else None) ≡ Some t → (m ≡ true) × (h ≡ true) × (t ≡ super_on p)
      of true true p at = (refl, refl, sym (ap (λ o. unwrap_or o t) at))
      of true false p at = absurd (none_some at)
      of false h p at = absurd (none_some at)

  pub truth_usable : (chunks : ℕ) → extent ≡ chunks * 128 → 0 < extent → size < 2 ^ 48 → (t : Super) → truth_of found ≡ Some t → is_truth t ≡ true
  truth_usable chunks wide some small t leads =
      let one = truth_is t leads in
      let low = member_low one.0 one.1 in
      subst (λ u. is_truth u ≡ true) (sym one.3)
      (new_truth_ok pool (ids one.0) members number one.0 size offset seconds extent drives most is (omega (arith, low, most)) chunks wide some small)

  -- where one is there
  truth_there : (p : ℕ) → has members p ≡ true → there p ≡ true → (t : Super) × (truth_of found ≡ Some t)
  truth_there p among here =
      let low = member_low p among in
      foremost_there (λ (u : Super). u.events) (super_at found) 0 16 p (super_on p) (omega arith) (omega (arith, low, most))
      (seen_at p ∙ ap₂ (λ (m h : Bool). if m then (if h then Some (super_on p) else None) else None) among here)

  -- the positions of any of them are those of the list
  pub place_is : (p k : ℕ) → p < 16 → k < length members → place_by (super_on p) k ≡ get_or members k 0
  place_is p k place low =
      let t = super_on p in
      let few = is.few in
      let at = placed t k (new_roles_ok pool (ids p) members number p size offset seconds extent drives most is place 16 most) low in
      let q = at.0 in
      let role = position-Some (λ role. role == k) t.roles.items q 0 at.1 in
      let small = at.2 in
      let own : role_of members q ≡ k =
      ap (λ o. unwrap_or o 0) (sym (role_at t members refl few q (omega (arith, small))) ∙ slice_get-get_or t.roles.items q 0 role.0)
      ∙ eqb-true (get_or t.roles.items q 0) k role.1 in
      ap (λ o. unwrap_or o 16) at.1 ∙ of q (position (λ member. member == q) members) refl own
    where
      of : (q : ℕ) (o : Option ℕ) → position (λ member. member == q) members ≡ o → option_map_or (λ j. j) o 0xffff ≡ k → q ≡ get_or members k 0
      of q None none own = absurd (let few = is.few in omega (arith, low, few, own))
      of q (Some j) at own =
          let first = position-Some (λ member. member == q) members j 0 at in
          sym (ap (λ i. get_or members i 0) (sym own) ∙ eqb-true (get_or members j 0) q first.1)

  -- each position has a member
  pub position_member : (p k : ℕ) → p < 16 → k < length members → has members (place_by (super_on p) k) ≡ true
  position_member p k place low = ap (has members) (place_is p k place low) ∙ element_has members k low

  places_are : (p : ℕ) → p < 16 → places_by (super_on p) ≡ members
  places_are p place =
      let long = length-map-range_with_len (place_by (super_on p)) 0 (length members) in
      same_lists (places_by (super_on p)) members long
      (λ k d low.
      let inside : k < length members = omega (arith, low, long) in
      get_or-map-range_with_len (place_by (super_on p)) 0 (length members) k k d inside (omega arith)
      ∙ place_is p k place inside
      ∙ ap (λ o. unwrap_or o 0) (sym (slice_get-get_or members k 0 inside) ∙ slice_get-get_or members k d inside))

  -- the seat of a position
  pub seat_is : (young : Bool) (p k : ℕ) → p < 16 → k < length members
      → slice_get (view_found number young found (super_on p)).seats k ≡ Some (if there (place_by (super_on p) k) then Whole else Missing)
  seat_is young p k place low =
      let u = super_on p in
      let h : ℕ → Slot = λ q. slot_by q (super_at found q) in
      get_map (λ (s : Slot). s.seat) (slots_found found u) k
      ∙ ap (option_map (λ (s : Slot). s.seat))
      (get_map h (places_by u) k
      ∙ ap (option_map h) (get_map (place_by u) (range_with_len 0 (length members)) k ∙ ap (option_map (place_by u)) (get_range 0 (length members) k low)
      ∙ ap (λ (j : ℕ). Some (place_by u j)) (zero_more k)))
      ∙ ap (λ o. Some (slot_by (place_by u k) o).seat) (seen_at (place_by u k))
      ∙ ap (λ (m : Bool). Some (slot_by (place_by u k) (if m then (if there (place_by u k) then Some (super_on (place_by u k)) else None) else None)).seat) (position_member p k place low)
      ∙ of (place_by u k) (there (place_by u k))
    where
      of : (q : ℕ) (h : Bool) → Some (slot_by q (if h then Some (super_on q) else None)).seat ≡ Some (if h then Whole else Missing)
      of q true = refl
      of q false = refl

  pub seats_count : (young : Bool) (p : ℕ) → length (view_found number young found (super_on p)).seats ≡ length members
  seats_count young p =
      length-map (slots_found found (super_on p)) (λ s. s.seat) ∙ length-map (places_by (super_on p)) (λ q. slot_by q (super_at found q))
      ∙ length-map-range_with_len (place_by (super_on p)) 0 (length members)

  -- those members lack that aren't there
  lacking_is : (p : ℕ) → p < 16 → lacking (slots_found found (super_on p)) ≡ count_by (λ q. not (there q)) members
  lacking_is p place =
      let h : ℕ → Slot = λ q. slot_by q (super_at found q) in
      ap (λ places. lacking (map h places)) (places_are p place)
      ∙ lacking_mapped h (λ q. not (there q)) members
      (λ q among.
      ap (λ o. not (is_whole_seat (slot_by q o).seat)) (seen_at q)
      ∙ ap (λ (m : Bool). not (is_whole_seat (slot_by q (if m then (if there q then Some (super_on q) else None) else None)).seat)) among
      ∙ of q (there q))
    where
      of : (q : ℕ) (h : Bool) → not (is_whole_seat (slot_by q (if h then Some (super_on q) else None)).seat) ≡ not h
      of q true = refl
      of q false = refl

  shares : (xs : List ℕ) → list_all (λ (e : Found). option_map_or (λ (u : Super). bytes_eq u.set_id.0 (super_on 0).set_id.0) e.seen true)
      (map (λ place. record { place = place; seen = if there place then Some (super_on place) else None }) xs) ≡ true
  shares [] = refl
  shares (x ∷ xs) = and_from _ _ (of (there x)) (shares xs)
    where
      of : (h : Bool) → option_map_or (λ (u : Super). bytes_eq u.set_id.0 (super_on 0).set_id.0) (if h then Some (super_on x) else None) true ≡ true
      of true = (bytes_eq-Decides (super_on 0).set_id.0 (super_on 0).set_id.0).1 refl
      of false = refl

  -- Where one is missing at most, and none of an array whose rows are synced, they make an array.
  pub array_opens : (young : Bool) → count_by (λ q. not (there q)) members ≤ 1 → (young ≡ false → count_by (λ q. not (there q)) members ≡ 0)
      → (t : Super) × (truth_of found ≡ Some t) × (opened number young found ≡ Ok (view_found number young found t))
  array_opens young one_less whole =
      let one = someone there members (let least = is.least in omega (arith, one_less, least)) in
      let truth = truth_there one.0 one.1 one.2 in
      let own = truth_is truth.0 truth.1 in
      let low = member_low own.0 own.1 in (
        truth.0,
        truth.1,
        ap (λ o. option_map_or (opened_by number young found) o (Err Foreign)) truth.1
            ∙ same truth.0 own.0 own.3 (omega (arith, low, most)),
      )
    where
      lack : ℕ
      lack = count_by (λ q. not (there q)) members

      clean : (t : Super) → (nat_lt 0 lack && (not young && is_unclean t)) ≡ false
      clean t = of young whole
        where
          of : (b : Bool) → (b ≡ false → lack ≡ 0) → (nat_lt 0 lack && (not b && is_unclean t)) ≡ false
          of true none = and_false (nat_lt 0 lack)
            where
              and_false : (b : Bool) → (b && false) ≡ false
              and_false true = refl
              and_false false = refl
          of false none = ap (λ n. nat_lt 0 n && is_unclean t) (none refl)

      opens : (p : ℕ) → p < 16 → opened_by number young found (super_on p) ≡ Ok (view_found number young found (super_on p))
      opens p place =
          let t = super_on p in
          let Res : Type 0 = Result View ArrayFault in
          ap₂ (λ (b : Bool) (n : ℕ). let r : Res = if not b then Err Foreign else if nat_lt 1 n then Err TooFew
          else if nat_lt 0 n && (not young && is_unclean t) then Err DirtyDegraded else Ok (view_found number young found t) in r) (shares members) (lacking_is p place)
          ∙ ap₂ (λ (b c : Bool). let r : Res = if b then Err TooFew else if c then Err DirtyDegraded else Ok (view_found number young found t) in r)
          (le-ltb 1 lack one_less) (clean t)

      same : (t : Super) (p : ℕ) → t ≡ super_on p → p < 16 → opened_by number young found t ≡ Ok (view_found number young found t)
      same t p is place = subst (λ (u : Super). opened_by number young found u ≡ Ok (view_found number young found u)) (sym is) (opens p place)
