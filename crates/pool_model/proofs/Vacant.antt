-- A place of a pool gave its disk up: what is told of the others, and of the drive that it had.
use Rattle.std.proofs.Common.{◌≡◌, ◌≢◌, ℕ, ◌+◌, ◌<◌, ◌≤◌, unwrap_or, ◌==◌, ◌&&◌, if◌then◌else◌, Bool, true, false, List, Option, Some, None, refl, sym, ap, ap₂, subst, ◌∙◌, inl, inr, eq-eqb, eqb-true, lt-ltb, Ok, arith}
use Rattle.std.specs.Result.{result_ok}
use Rattle.std.proofs.lemmas.Bool.{both_ways, cases_Bool, cases_eq, ne_eqb}
use Rattle.rack.specs.Seen.{Image, RackView}
use Rattle.rack.specs.Sequences.{WritesOnly}
use Rattle.rack.specs.Values.{MayLeave}
use Rattle.slice_rack.specs.Changes.{Seats}
use Rattle.slice_rack.specs.Runs.{IsSliced}
use Rattle.slice_rack.specs.Slices.{Slices, place_of, seat_of, sectors_of}
use Rattle.slice_rack.specs.Sliced.{slices_of, sliced}
use Rattle.pool_state.specs.declared.contents.Copied.{Copied}
use Rattle.pool_state.specs.declared.contents.State.{State}
use Rattle.pool_state.specs.Sector.{decoded}
use Rattle.array_image.specs.Places.{log_slice, member_slice, state_sector}
use Rattle.array_image.specs.States.{is_current}
use Rattle.array_model.specs.View.{View}
use Rattle.pool_image.specs.Disks.{disks_of, identities_of}
use Rattle.pool_image.specs.Drives.{Found, extent_of}
use Rattle.raid_laws.specs.Book.{OnlyMarksSince}
use Rattle.raid_laws.specs.NewDrive.{SeatsDrive}
use Rattle.raid_laws.specs.Raid.{Raid}
use Rattle.raid_laws.proofs.Noted.{current_few}
use Rattle.pool_model.specs.InService.{IsOutset}
use Rattle.pool_model.specs.Left.{IsLeftBy, IsPickOutsideSlices}
use Rattle.pool_model.specs.Pools.{AreSlicesOf, extent_in}
use Rattle.pool_model.specs.Stopped.{AreSlicesNow}
use Rattle.pool_model.specs.Taken.{KeepsOutsideSlices, LacksDrive}
use Rattle.pool_model.proofs.Again.{AreOnDisks, off_later}
use Rattle.pool_model.proofs.Before.{off_before, was as image_before, was_other as image_other}
use Rattle.pool_model.proofs.Copies.{IsKnown, IsServedNow}
use Rattle.pool_model.proofs.Found.{ok_of}
use Rattle.pool_model.proofs.Logs.{copied_in, there_in}

module _ (t u : Slices) (place : ℕ) (vacated : Seats t u place None) where
  -- which disks places have, once this one has one again
  seat_alike : (disk p : ℕ) (b : Bool) → (p == place) ≡ b → (if p == place then Some disk else seat_of u p) ≡ (if p == place then Some disk else seat_of t p)
  seat_alike disk p true same = ap (λ (b : Bool). if b then Some disk else seat_of u p) same ∙ sym (ap (λ (b : Bool). if b then Some disk else seat_of t p) same)
  seat_alike disk p false other =
      ap (λ (b : Bool). if b then Some disk else seat_of u p) other
      ∙ vacated.seats p ∙ ap (λ (b : Bool). if b then None else seat_of t p) other
      ∙ sym (ap (λ (b : Bool). if b then Some disk else seat_of t p) other)

  -- a drive that is taken in then is as one that is taken in at once
  pub seats_through : (arrays : List View) (disk sectors : ℕ) (w : Slices) → SeatsDrive arrays place disk sectors u w → SeatsDrive arrays place disk sectors t w
  seats_through arrays disk sectors w seats = record {
    seats = λ p. seats.seats p ∙ seat_alike disk p (p == place) refl;
    own = seats.own;
    own_firsts = seats.own_firsts;
    others = λ d other. seats.others d other ∙ vacated.sectors d other;
    firsts = λ d other. seats.firsts d other ∙ vacated.firsts d other;
  }

  -- and the other way round
  pub seats_from : (arrays : List View) (disk sectors : ℕ) (w : Slices) → SeatsDrive arrays place disk sectors t w → SeatsDrive arrays place disk sectors u w
  seats_from arrays disk sectors w seats = record {
    seats = λ p. seats.seats p ∙ sym (seat_alike disk p (p == place) refl);
    own = seats.own;
    own_firsts = seats.own_firsts;
    others = λ d other. seats.others d other ∙ sym (vacated.sectors d other);
    firsts = λ d other. seats.firsts d other ∙ sym (vacated.firsts d other);
  }

  pub seat_other : (p : ℕ) → p ≢ place → seat_of u p ≡ seat_of t p
  seat_other p other = vacated.seats p ∙ ap (λ (b : Bool). if b then None else seat_of t p) (ne_eqb p place other)

  extent_other : (k : ℕ) → place_of k ≢ place → extent_in u k ≡ extent_in t k
  extent_other k other = ap₂ (λ a b. record { first = a; sectors = b }) (vacated.firsts k other) (vacated.sectors k other)

  none_still : (k : ℕ) → sectors_of t k ≡ 0 → sectors_of u k ≡ 0
  none_still k none = elim (cases_eq (place_of k) place) [ inl same ↦ vacated.cleared k same | inr other ↦ vacated.sectors k other ∙ none ]

  -- each sector of a slice was one before
  pub sliced_before : (d s : ℕ) (w : List ℕ) → IsSliced u d s w → IsSliced t d s w
  sliced_before d s w is = elim (cases_eq (place_of is.slice) place) [
    | inl same ↦ absurd (let none = vacated.cleared is.slice same in let within = is.within in omega (arith, none, within))
    | inr other ↦ record {
      slice = is.slice;
      at = is.at;
      within = subst (λ k. is.at < k) (vacated.sectors is.slice other) is.within;
      disk_is = is.disk_is ∙ ap (λ o. unwrap_or o 0) (seat_other (place_of is.slice) other);
      sector_is = is.sector_is ∙ ap (λ k. k + is.at) (vacated.firsts is.slice other);
    }
  ]

  module _ (f : Found) (slices : AreSlicesOf f t) where
    pub on_disks : AreOnDisks u
    on_disks k s within = elim (cases_eq (place_of k) place) [
      | inl same ↦ (let none = vacated.cleared k same in absurd (omega (arith, none, within)))
      | inr other ↦ by other (f.seats (place_of k)) refl
    ]
      where
        by : place_of k ≢ place → (o : Option ℕ) → f.seats (place_of k) ≡ o → (d : ℕ) × (seat_of u (place_of k) ≡ Some d)
        by other (Some d) seat = (d, seat_other (place_of k) other ∙ slices.seats (place_of k) ∙ seat)
        by other None none = (let nothing = none_still k (slices.unseated k none) in absurd (omega (arith, within, nothing)))

    -- the disk that it had has no slice
    pub vacant_free : (d s : ℕ) (w : List ℕ) → ((q : ℕ) → f.seats q ≡ Some d → q ≡ place) → IsSliced u d s w → ⊥
    vacant_free d s w one is = elim (cases_eq (place_of is.slice) place) [
      | inl same ↦ (let none = vacated.cleared is.slice same in let within = is.within in omega (arith, none, within))
      | inr other ↦ by other (f.seats (place_of is.slice)) refl
    ]
      where
        by : place_of is.slice ≢ place → (o : Option ℕ) → f.seats (place_of is.slice) ≡ o → ⊥
        by other None none =
            (let nothing = none_still is.slice (slices.unseated is.slice none) in let within = is.within in omega (arith, nothing, within))
        by other (Some e) seat =
            other (one (place_of is.slice)
            (seat ∙ ap Some (sym (is.disk_is ∙ ap (λ o. unwrap_or o 0) (seat_other (place_of is.slice) other ∙ slices.seats (place_of is.slice) ∙ seat)))))

    module _ (s : State) (missing : is_current s place ≡ false) where
      apart : (p : ℕ) → is_current s p ≡ true → p ≢ place
      apart p now same = both_ways (is_current s p) (subst (λ q. is_current s q ≡ false) (sym same) missing) now

      log_apart : (p : ℕ) → p ≢ place → place_of (log_slice p) ≢ place
      log_apart p other same = other (let e : p ≡ place = omega (arith, same) in e)

      pub logs_other : (p d : ℕ) → p ≢ place → f.seats p ≡ Some d → extent_of f 0 ≡ Some (extent_in u (log_slice p))
      logs_other p d other seat = slices.logs p d seat ∙ ap Some (sym (extent_other (log_slice p) (log_apart p other)))

      pub slices_now : f.state.made ≤ 16 → AreSlicesNow f u s
      slices_now few = record {
        seats = λ p d now seat. seat_other p (apart p now) ∙ slices.seats p ∙ seat;
        logs = λ p d now seat. logs_other p d (apart p now) seat;
        members = λ n p d low now seat member.
            slices.members n p d low seat member
            ∙ ap Some (sym (extent_other (member_slice p n) (λ same. apart p now (let e : p ≡ place = omega (arith, same, low, few) in e))));
        others = λ n p small none. none_still (member_slice p n) (slices.others n p small none);
        unseated = λ k now none. none_still k (slices.unseated k none);
      }

-- what is known of it then
pub known_vacant : (f : Found) (t u : Slices) (v : Raid) (x : RackView) (place : ℕ) (i : Image) → IsOutset f → f.disks ≡ disks_of x → AreSlicesOf f t
    → LacksDrive f t u v place x → IsServedNow f u v (slices_of u x) → IsLeftBy f u v.state (slices_of u x) i → IsPickOutsideSlices u x i → IsKnown f u v (slices_of u x) i
known_vacant f t u v x place i outset same slices lacks served left off = record {
  is = outset;
  served = served;
  left = left;
  former = λ p d copy seat former here. elim (cases_eq p place) [
    | inl at ↦
        lacks.earlier d (subst (λ q. f.seats q ≡ Some d) at seat) i off copy (subst (λ disks. (identities_of disks i d).copied ≡ Some copy) same here)
    | inr other ↦
        (let first : 0 < f.state.made = (let made = outset.made.0 in omega (arith, made)) in
        let log = ((served.told 0 first).stood (served.lasts 0 first)).log in
        let few = current_few f.state p outset.places (outset.seated p d seat).current in
        let on : seat_of u p ≡ Some d = seat_other t u place lacks.vacated p other ∙ slices.seats p ∙ seat in
        let lies = logs_other t u place lacks.vacated f slices v.state lacks.missing p d other seat in
        let there = there_in f u i left.inside p d on lies in
        log.copies.earlier p (sliced u i (log_slice p) 0) copy few former there (left.picks.picks (log_slice p) 0 (log.logs p 0 few there))
        (ok_of (decoded (sliced u i (log_slice p) 0)) copy (sym (copied_in f u i left.inside p d on lies) ∙ here)))
  ];
}

-- what the drive that it had may say
pub lacks_value : (f : Found) (t u : Slices) (v : Raid) (place : ℕ) (x : RackView) → LacksDrive f t u v place x → (d : ℕ) → f.seats place ≡ Some d
    → (w : List ℕ) (copy : Copied) → state_sector < x.sectors d → MayLeave (x.held d state_sector) w → decoded w ≡ Ok copy → copy.state.epoch < v.state.epoch
lacks_value f t u v place x lacks d seat w copy within left says = lacks.earlier d seat i pick copy here
  where
    read : Bool → (e s : ℕ) → List ℕ
    read b e s = if b then w else (x.held e s).current

    i : Image
    i = λ e s. read ((e == d) && (s == state_sector)) e s

    there : i d state_sector ≡ w
    there = ap₂ (λ a b. read (a && b) d state_sector) (eq-eqb d d refl) (eq-eqb state_sector state_sector refl)

    by : (e s : ℕ) (a b : Bool) → (e == d) ≡ a → (s == state_sector) ≡ b → MayLeave (x.held e s) (read (a && b) e s)
    by e s true true one two =
        subst (λ k. MayLeave (x.held k s) w) (sym (eqb-true e d one)) (subst (λ k. MayLeave (x.held d k) w) (sym (eqb-true s state_sector two)) left)
    by e s true false one two = inl refl
    by e s false b one two = inl refl

    pick : IsPickOutsideSlices u x i
    pick e s live never = by e s (e == d) (s == state_sector) refl refl

    here : (identities_of (disks_of x) i d).copied ≡ Some copy
    here =
        ap (λ (b : Bool). if b then result_ok (decoded (i d state_sector)) else None) (lt-ltb state_sector (x.sectors d) within)
        ∙ ap (λ block. result_ok (decoded block)) there ∙ ap result_ok says

-- Calls that write slices alone leave that drive as it was.
pub lacks_calls : (f : Found) (t u : Slices) (v w : Raid) (place : ℕ) (x y : RackView) → x.lasting → WritesOnly x y (IsSliced u) → OnlyMarksSince v.state w.state
    → LacksDrive f t u v place x → LacksDrive f t u w place y
lacks_calls f t u v w place x y lasting only after lacks = record {
  vacated = lacks.vacated;
  missing = elim (cases_Bool (is_current w.state place)) [
    | inr former ↦ former
    | inl now ↦ absurd (both_ways (is_current v.state place) lacks.missing (after.current place now))
  ];
  earlier = λ d seat i off copy here.
      let less =
      lacks.earlier d seat i (off_later u x y i lasting only off) copy
      (ap (λ n. (identities_of (record { count = x.disks; sectors = λ k. n }) i d).copied) (sym (only.stays.sectors d)) ∙ here) in
      let up = after.epoch in
      omega (arith, less, up);
}

-- So do calls that write another disk outside them: `w` are the tables after, by which no sector of another disk becomes one of a slice.
module _ (f : Found) (t u w : Slices) (v : Raid) (place disk : ℕ) (x z : RackView) (lacks : LacksDrive f t u v place x) (keeps : KeepsOutsideSlices u disk x z)
    (fewer : (d s : ℕ) (c : List ℕ) → d ≢ disk → IsSliced w d s c → IsSliced u d s c) (lost : ℕ) (seat : f.seats place ≡ Some lost) (other : lost ≢ disk)
    (same : z.sectors lost ≡ x.sectors lost) where
  pub lacks_still : (i : Image) → IsPickOutsideSlices w z i → (copy : Copied) → (identities_of (disks_of z) i lost).copied ≡ Some copy → copy.state.epoch < v.state.epoch
  lacks_still i off copy here =
      let was = image_before u w disk x z keeps fewer i off in
      lacks.earlier lost seat was (off_before u w disk x z keeps fewer i off) copy
      (ap (λ c. (identities_of (disks_of x) (λ k. c) lost).copied) (image_other u w disk x z keeps fewer i off lost other)
      ∙ ap (λ n. (identities_of (record { count = x.disks; sectors = λ k. n }) i lost).copied) (sym same) ∙ here)
