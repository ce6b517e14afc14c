-- The slices of a pool at rest, without the places that have lost their disk: what the members' slices are laid on.
use Rattle.std.proofs.Common.{◌≡◌, ◌≢◌, ◌⊎◌, ℕ, ◌+◌, ◌<◌, ◌≤◌, Bool, true, false, ◌==◌, ◌&&◌, nat_le, nat_lt, is_none, if◌then◌else◌, List, filter, Option, Some, None, refl, sym, ap, subst, ◌∙◌, inl, inr, lt-ltb, le-ltb, le-leb, eqb-true, arith}
use Rattle.std.specs.Option.{option_map_or}
use Rattle.std.proofs.lemmas.Bool.{cases_lt, ne_eqb}
use Rattle.std.proofs.lemmas.Map.Views.{any-filter_same}
use Rattle.std.proofs.lemmas.Option.{none-some}
use Rattle.rack.specs.Seen.{RackView, SameRack}
use Rattle.pool_state.specs.Valid.{is_valid}
use Rattle.pool_state.specs.declared.contents.State.{State}
use Rattle.slice_rack.specs.Slices.{Slices, IsOrderly, seat_of, first_of, sectors_of}
use Rattle.slice_rack.specs.Sliced.{slices_of}
use Rattle.array_image.specs.Places.{arrays_first, log_sectors, log_slice, place_of, slice_of, state_sector}
use Rattle.array_image.specs.States.{current_places, is_current}
use Rattle.log_laws.specs.View.{names}
use Rattle.pool_image.specs.Disks.{Seats}
use Rattle.pool_scan.specs.Scanning.{IsUnfaulted}
use Rattle.pool_scan.specs.declared.Known.{Known}
use Rattle.pool_scan.specs.Choosing.{seat_by}
use Rattle.pool_scan.proofs.Seated.{seat_by_stands}
use Rattle.pool_check.specs.Drives.{Goes, IsSeating, Loses, seats_by}
use Rattle.pool_check.specs.declared.Checked.{Checked}
use Rattle.pool_check.specs.Founded.{AreFounded}
use Rattle.pool_check.specs.Laying.{HasLogsOnly, HasMembers, HasNoMembers, KeepsLogs}
use Rattle.pool_check.specs.Slots.{AreSlots}
use Rattle.pool_rest.specs.Standing.{IsLaid}
use Rattle.raid_laws.proofs.Added.{names_current}
use Rattle.assembler_laws.specs.Members.{AreMembers}

module _ (x : RackView) (known : List Known) (s : State) (t : Slices) (on : List ℕ) (laid : IsLaid x known s t on)
    (fit : (slices_of t x).fit) where
  current_at : (p d : ℕ) → seat_of t p ≡ Some d → is_current s p ≡ true
  current_at p d seat = elim (cases_lt p 16) [
    | inl few ↦ (seat_by_stands s known p d (sym (laid.seats p few) ∙ seat)).2
    | inr past ↦ absurd (none-some d (sym (laid.beyond p past) ∙ seat))
  ]

  -- ---- seats before the check

  -- the disks of places, but for those that have gone
  module _ (gone : List ℕ) (seats : List (Option ℕ)) (past_none : (p : ℕ) → 16 ≤ p → seats_by seats p ≡ None)
      (are : (p : ℕ) → p < 16 → seats_by seats p ≡ (if names gone p then None else seat_by s known p)) where
    pub taken : (p d : ℕ) → seats_by seats p ≡ Some d → seat_of t p ≡ Some d
    taken p d seat = elim (cases_lt p 16) [
      | inl few ↦ laid.seats p few ∙ of (names gone p) (sym (are p few) ∙ seat)
      | inr past ↦ absurd (none-some d (sym (past_none p past) ∙ seat))
    ]
      where
        of : (b : Bool) → (if b then None else seat_by s known p) ≡ Some d → seat_by s known p ≡ Some d
        of true is = absurd (none-some d is)
        of false is = is

    pub seating : IsSeating x s (seats_by seats)
    seating = record {
      inside = λ p d seat. fit.1.seats p d (taken p d seat);
      current = λ p d seat. current_at p d (taken p d seat);
      small = fit.1.small;
    }

  -- ---- slices

  -- a log slice lies before the slices of arrays
  log_before : (k : ℕ) → slice_of k ≡ 0 → 0 < sectors_of t k → first_of t k + sectors_of t k ≤ arrays_first
  log_before k log some = elim (cases_lt k 272) [
    | inr past ↦ let none = laid.none k past in absurd (omega (arith, some, none))
    | inl few ↦
        let first = laid.firsts k some in
        let most = at_most (slice_of k == 0) (seat_by s known (place_of k)) in
        let size = laid.sectors k few in
        omega (arith, first, size, most)
  ]
    where
      at_most : (b : Bool) (o : Option ℕ) → (if b then option_map_or (λ d. if nat_le arrays_first (x.sectors d) then log_sectors else 0) o 0 else 0) ≤ log_sectors
      at_most false o = omega arith
      at_most true None = omega arith
      at_most true (Some d) = of (nat_le arrays_first (x.sectors d))
        where
          of : (b : Bool) → (if b then log_sectors else 0) ≤ log_sectors
          of true = omega arith
          of false = omega arith

  no_member : (k : ℕ) → slice_of k ≢ 0 → sectors_of t k ≡ 0
  no_member k other = elim (cases_lt k 272) [
    | inr past ↦ laid.none k past
    | inl few ↦
        laid.sectors k few
        ∙ ap (λ b. if b then option_map_or (λ d. if nat_le arrays_first (x.sectors d) then log_sectors else 0) (seat_by s known (place_of k)) 0 else 0) (ne_eqb (slice_of k) 0 other)
  ]

  log_whole : (p d : ℕ) → seat_of t p ≡ Some d → arrays_first ≤ x.sectors d → sectors_of t (log_slice p) ≡ log_sectors
  log_whole p d seat room = elim (cases_lt p 16) [
    | inr past ↦ absurd (none-some d (sym (laid.beyond p past) ∙ seat))
    | inl few ↦
        let slice : slice_of (log_slice p) ≡ 0 = omega arith in
        let place : place_of (log_slice p) ≡ p = omega arith in
        laid.sectors (log_slice p) (omega (arith, few))
        ∙ ap (λ (n : ℕ). if n == 0 then option_map_or (λ d. if nat_le arrays_first (x.sectors d) then log_sectors else 0) (seat_by s known (place_of (log_slice p))) 0 else 0) slice
        ∙ ap (λ (q : ℕ). option_map_or (λ d. if nat_le arrays_first (x.sectors d) then log_sectors else 0) (seat_by s known q) 0) place
        ∙ ap (λ (o : Option ℕ). option_map_or (λ d. if nat_le arrays_first (x.sectors d) then log_sectors else 0) o 0) (sym (laid.seats p few) ∙ seat)
        ∙ ap (λ b. if b then log_sectors else 0) (le-leb arrays_first (x.sectors d) room)
  ]

  -- ---- without the places that have lost their disk

  module _ (y : RackView) (before after : List (Option ℕ))
      (were : (p d : ℕ) → seats_by before p ≡ Some d → seat_of t p ≡ Some d)
      (loses : Loses x y (seats_by before) (seats_by after))
      (u : Slices) (orderly : IsOrderly u)
      (seats : (p : ℕ) → seat_of u p ≡ (if nat_lt p 16 && is_none (seats_by after p) then None else seat_of t p))
      (firsts : (k : ℕ) → seats_by after (place_of k) ≢ None → first_of u k ≡ first_of t k)
      (sizes : (k : ℕ) → seats_by after (place_of k) ≢ None → sectors_of u k ≡ sectors_of t k) where
    still : (p d : ℕ) → seats_by after p ≡ Some d → seat_of t p ≡ Some d
    still p d seat = of (loses p)
      where
        of : (seats_by after p ≡ seats_by before p) ⊎ ((seats_by after p ≡ None) × Goes x y (seats_by before) p) → seat_of t p ≡ Some d
        of (inl same) = were p d (sym same ∙ seat)
        of (inr lost) = absurd (none-some d (sym lost.0 ∙ seat))

    nothing : (p : ℕ) → 16 ≤ p → seats_by after p ≡ None
    nothing p past = of (seats_by after p) refl
      where
        of : (o : Option ℕ) → seats_by after p ≡ o → o ≡ None
        of None seat = refl
        of (Some d) seat = absurd (none-some d (sym (laid.beyond p past) ∙ still p d seat))

    pub seats_are : (p : ℕ) → seat_of u p ≡ seats_by after p
    seats_are p = seats p ∙ elim (cases_lt p 16) [
      | inr past ↦
          ap (λ b. if b && is_none (seats_by after p) then None else seat_of t p) (le-ltb p 16 past) ∙ laid.beyond p past
          ∙ sym (nothing p past)
      | inl few ↦ ap (λ b. if b && is_none (seats_by after p) then None else seat_of t p) (lt-ltb p 16 few) ∙ of (seats_by after p) refl
    ]
      where
        of : (o : Option ℕ) → seats_by after p ≡ o → (if is_none o then None else seat_of t p) ≡ o
        of None seat = refl
        of (Some d) seat = still p d seat

    -- a slice of a place without a disk isn't there
    either : {X : Type 0} (k : ℕ) → (sectors_of u k ≡ 0 → X) → (seats_by after (place_of k) ≢ None → X) → X
    either {X = X} k none some = of (seats_by after (place_of k)) refl
      where
        of : (o : Option ℕ) → seats_by after (place_of k) ≡ o → X
        of None seat = none (orderly.seated k (seats_are (place_of k) ∙ seat))
        of (Some d) seat = some (λ is. none-some d (sym is ∙ seat))

    pub logs_only : HasLogsOnly u (seats_by after)
    logs_only = record {
      seats_are = seats_are;
      logs = λ k log some.
          either k (λ none. absurd (omega (arith, some, none)))
          (λ there.
          let first = firsts k there in
          let size = sizes k there in
          let before = log_before k log (omega (arith, some, size)) in
          omega (arith, first, size, before));
    }

    pub no_members : HasNoMembers u
    no_members k other = either k (λ none. none) (λ there. sizes k there ∙ no_member k other)

    pub current_left : (p d : ℕ) → seat_of u p ≡ Some d → is_current s p ≡ true
    current_left p d seat = current_at p d (still p d (sym (seats_are p) ∙ seat))

    pub logs_left : (p d : ℕ) → seat_of u p ≡ Some d → arrays_first ≤ x.sectors d → sectors_of u (log_slice p) ≡ log_sectors
    logs_left p d seat room =
        let place : place_of (log_slice p) ≡ p = omega arith in
        let here = sym (seats_are p) ∙ seat in
        sizes (log_slice p) (λ none. none-some d (sym none ∙ ap (seats_by after) place ∙ here)) ∙ log_whole p d (still p d here) room

    pub firsts_left : (p d : ℕ) → seat_of u p ≡ Some d → arrays_first ≤ x.sectors d → first_of u (log_slice p) ≡ state_sector
    firsts_left p d seat room =
        let place : place_of (log_slice p) ≡ p = omega arith in
        let here = sym (seats_are p) ∙ seat in
        let size = log_whole p d (still p d here) room in
        firsts (log_slice p) (λ none. none-some d (sym none ∙ ap (seats_by after) place ∙ here)) ∙ laid.firsts (log_slice p) (omega (arith, size))

    -- ---- with the members' slices

    module _ (checked : Checked) (absent : List ℕ) (w : Slices) (kept : KeepsLogs u w)
        (valid : is_valid s 0 ≡ true) (lasting : x.lasting) (stays : SameRack x y) (fit_w : (slices_of w y).fit)
        (laid_w : HasMembers (seats_by after) checked.arrays.items checked.extents.items w)
        (founded : AreFounded s (seats_by after) checked.arrays.items checked.stale.items)
        (slots : AreSlots x.sectors (seats_by after) checked.arrays.items checked.extents.items)
        (room : (p d : ℕ) → seats_by after p ≡ Some d → arrays_first + 32 < x.sectors d)
        (absent_is : absent ≡ filter (λ p. is_none (seats_by after p)) (current_places s)) where
      seat_at : (p : ℕ) → seat_of w p ≡ seats_by after p
      seat_at p = kept.seats p ∙ seats_are p

      seats_same : seats_by after ≡ seat_of w
      seats_same = λ i p. sym (seat_at p) i

      sectors_same : x.sectors ≡ y.sectors
      sectors_same = λ i d. sym (stays.sectors d) i

      absent_named : (p : ℕ) → names absent p ≡ (is_none (seats_by after p) && is_current s p)
      absent_named p =
          ap (λ ps. names ps p) absent_is
          ∙ any-filter_same (λ q. q == p) (λ q. is_none (seats_by after q)) (is_none (seats_by after p)) (λ q same. ap (λ r. is_none (seats_by after r)) (eqb-true q p same)) (current_places s)
          ∙ ap (λ b. is_none (seats_by after p) && b) (names_current s p)

      pub check_members : AreMembers s w y checked absent
      check_members = record {
        valid = valid;
        fit = fit_w;
        lasting = stays.lasting lasting;
        current = λ p d seat. current_left p d (sym (kept.seats p) ∙ seat);
        absent_is = λ p. absent_named p ∙ ap (λ o. is_none o && is_current s p) (sym (seat_at p));
        listed = absent_is ∙ ap (λ (f : Seats). filter (λ p. is_none (f p)) (current_places s)) seats_same;
        room = λ p d seat. subst (λ n. arrays_first + 32 < n) (sym (stays.sectors d)) (room p d (sym (seat_at p) ∙ seat));
        logs = λ p d seat.
            let here = sym (kept.seats p) ∙ seat in
            let wide = room p d (sym (seat_at p) ∙ seat) in
            let slice : slice_of (log_slice p) ≡ 0 = omega arith in
            kept.sectors (log_slice p) slice ∙ logs_left p d here (omega (arith, wide));
        firsts = λ p d seat.
            let here = sym (kept.seats p) ∙ seat in
            let wide = room p d (sym (seat_at p) ∙ seat) in
            let slice : slice_of (log_slice p) ≡ 0 = omega arith in
            kept.firsts (log_slice p) slice ∙ firsts_left p d here (omega (arith, wide));
        founded = subst (λ f. AreFounded s f checked.arrays.items checked.stale.items) seats_same founded;
        slots = subst (λ f. AreSlots f (seat_of w) checked.arrays.items checked.extents.items) sectors_same
            (subst (λ f. AreSlots x.sectors f checked.arrays.items checked.extents.items) seats_same slots);
        members = subst (λ f. HasMembers f checked.arrays.items checked.extents.items w) seats_same laid_w;
      }

-- ---- where no disk refused a call

pub nobody_lost : (x y : RackView) (before after : Seats) → IsUnfaulted x y → Loses x y before after → (p : ℕ) → after p ≡ before p
nobody_lost x y before after quiet loses p = elim (loses p) [
  | inl same ↦ same
  | inr lost ↦ absurd (let goes = lost.1 in quiet goes.0 goes.2)
]

-- each disk of a place is that of its slices, where no place with a disk has gone
pub seats_before : (x : RackView) (known : List Known) (s : State) (t : Slices) (on : List ℕ) → IsLaid x known s t on → (gone : List ℕ) (seats : Seats)
    → ((p d : ℕ) → names gone p ≡ true → seat_by s known p ≡ Some d → ⊥)
    → ((p : ℕ) → 16 ≤ p → seats p ≡ None) → ((p : ℕ) → p < 16 → seats p ≡ (if names gone p then None else seat_by s known p))
    → (p : ℕ) → seats p ≡ seat_of t p
seats_before x known s t on laid gone seats nobody beyond are p = elim (cases_lt p 16) [
  | inr past ↦ beyond p past ∙ sym (laid.beyond p past)
  | inl few ↦ are p few ∙ of (names gone p) refl (seat_by s known p) refl ∙ sym (laid.seats p few)
]
  where
    of : (b : Bool) → names gone p ≡ b → (o : Option ℕ) → seat_by s known p ≡ o → (if b then None else o) ≡ o
    of false is o seat = refl
    of true is None seat = refl
    of true is (Some d) seat = absurd (nobody p d is seat)

-- a slice's disk was taken for its place
pub taken_by : (x : RackView) (known : List Known) (s : State) (t : Slices) (on : List ℕ) → IsLaid x known s t on → (p d : ℕ) → seat_of t p ≡ Some d → seat_by s known p ≡ Some d
taken_by x known s t on laid p d seat = elim (cases_lt p 16) [
  | inl few ↦ sym (laid.seats p few) ∙ seat
  | inr past ↦ absurd (none-some d (sym (laid.beyond p past) ∙ seat))
]
