-- The record that is pending at a stop inside a call, written on the disks: the slices hold then what replaying them gives.
use Rattle.std.proofs.Common.{◌≡◌, ℕ, ◌+◌, ◌-◌, ◌<◌, ◌==◌, ◌&&◌, Bool, true, false, nat_lt, if◌then◌else◌, filter, List, [], ◌∷◌, Option, Some, None, unwrap_or, refl, sym, ap, ap₂, subst, ◌∙◌, inl, inr, eq-eqb, eqb-true, le-leb, le-ltb, lt-ltb, arith}
use Rattle.std.specs.List.{cons_option, filter_map}
use Rattle.std.specs.Option.{option_and_then, option_or}
use Rattle.std.proofs.lemmas.Bool.{and_parts, both_ways, cases_eq, cases_lt}
use Rattle.rack.specs.Seen.{Image}
use Rattle.rack.specs.Sequences.{IsPayload}
use Rattle.rack.specs.Targets.{Target, is_at, look, put}
use Rattle.slice_rack.specs.Landing.{landing}
use Rattle.slice_rack.specs.Slices.{Slices, disk_of, first_of as slice_first, seat_of as slice_seat, sectors_of}
use Rattle.slice_rack.specs.Sliced.{sliced}
use Rattle.slice_rack.proofs.Landed.{look_landed}
use Rattle.pool_state.specs.declared.contents.State.{State}
use Rattle.array_image.specs.Arrays.{replayed}
use Rattle.array_image.specs.Places.{arrays_first, log_sectors, log_slice, member_slice, place_of, slice_of, state_sector}
use Rattle.array_image.specs.Record.{are_apart, pending}
use Rattle.array_image.specs.States.{current_places, is_current}
use Rattle.log_laws.specs.Standing.{deciding}
use Rattle.log_laws.proofs.Kept.{put_none}
use Rattle.commit_log.proofs.Replaying.{pending_sound}
use Rattle.commit_log.proofs.Story.{payload_is}
use Rattle.pool_image.specs.Disks.{Identities, identities_of, seat_of}
use Rattle.pool_image.specs.Drives.{Found}
use Rattle.pool_image.specs.Replay.{Extent, extent_by, landed, standing_by, written}
use Rattle.pool_rest.specs.Resting.{replayed_on}
use Rattle.pool_model.specs.Pools.{extent_in}
use Rattle.pool_model.specs.Stopped.{SaysStopped, StandFor}
use Rattle.pool_model.proofs.Logs.{log_lies}
use Rattle.pool_model.proofs.Seats.{nowhere}
use Rattle.pool_model.proofs.Stopped.{drive_there, lies, on_place, room}

-- ---- targets of some places alone

-- targets that land nowhere may be left out
filter_lands : (f g : Target → Option Target) (keep : Target → Bool) (xs : List Target)
    → ((z : Target) → IsPayload xs z.disk z.sector z.bytes → keep z ≡ true → f z ≡ g z) → ((z : Target) → keep z ≡ false → f z ≡ None)
    → filter_map f xs ≡ filter_map g (filter keep xs)
filter_lands f g keep [] same none = refl
filter_lands f g keep (x ∷ xs) same none = of (keep x) refl (filter_lands f g keep xs (λ z there. same z (inr there)) none)
  where
    itself : is_at x.disk x.sector x ≡ true
    itself = ap₂ (λ a b. a && b) (eq-eqb x.disk x.disk refl) (eq-eqb x.sector x.sector refl)

    of : (b : Bool) → keep x ≡ b → filter_map f xs ≡ filter_map g (filter keep xs)
        → cons_option (f x) (filter_map f xs) ≡ filter_map g (if b then x ∷ filter keep xs else filter keep xs)
    of true is rest = ap₂ (λ o ys. cons_option o ys) (same x (inl (itself, refl)) is) rest
    of false is rest = ap₂ (λ o ys. cons_option o ys) (none x is) rest

-- those of a slice that is kept are found
look_kept : (keep : ℕ → Bool) (xs : List Target) (k j : ℕ) → keep k ≡ true → look (filter (λ z. keep z.disk) xs) k j ≡ look xs k j
unfolding look
look_kept keep [] k j kept = refl
look_kept keep (x ∷ xs) k j kept = of (keep x.disk) refl (look_kept keep xs k j kept)
  where
    or_none : (o : Option (List ℕ)) → o ≡ option_or o None
    or_none None = refl
    or_none (Some w) = refl

    away : keep x.disk ≡ false → is_at k j x ≡ false
    away is = not_at (is_at k j x) refl
      where
        not_at : (b : Bool) → is_at k j x ≡ b → b ≡ false
        not_at false at = refl
        not_at true at =
            let here : x.disk ≡ k = eqb-true x.disk k (and_parts (x.disk == k) (x.sector == j) at).0 in
            absurd (both_ways (keep x.disk) is (ap keep here ∙ kept))

    of : (b : Bool) → keep x.disk ≡ b → look (filter (λ z. keep z.disk) xs) k j ≡ look xs k j
        → look (if b then x ∷ filter (λ z. keep z.disk) xs else filter (λ z. keep z.disk) xs) k j
        ≡ option_or (look xs k j) (if is_at k j x then Some x.bytes else None)
    of true is rest = ap (λ o. option_or o (if is_at k j x then Some x.bytes else None)) rest
    of false is rest = rest ∙ or_none (look xs k j) ∙ ap (λ (b : Bool). option_or (look xs k j) (if b then Some x.bytes else None)) (sym (away is))

module _ (f : Found) (t : Slices) (base s : State) (i : Image) (stop : SaysStopped f t base s i) (st : StandFor f t s i) where
  abbrev xs : List Target
  xs = (standing_by f.disks i st.stood).targets

  abbrev held : Image
  held = sliced t i

  abbrev says : Identities
  says = identities_of f.disks i

  -- the disks with the record written
  abbrev pub e : Image
  e = written f.disks (standing_by f.disks i st.stood) i

  pub apart : are_apart xs ≡ true
  apart = (pending_sound (current_places st.stood) (standing_by f.disks i st.stood).logs).apart

  abbrev lands : Target → Option Target
  lands = landed f.disks says (seat_of s f.disks says)

  abbrev pub ys : List Target
  ys = filter_map lands xs

  pub e_is : (d k : ℕ) → e d k ≡ replayed_on f.disks s xs i d k
  e_is d k = ap (λ (z : State). put f.disks.sectors (filter_map (landed f.disks says (seat_of z f.disks says)) xs) i d k) st.seated

  -- a sector that no target lands on
  pub e_none : (d k : ℕ) → look ys d k ≡ None → e d k ≡ i d k
  e_none d k none = e_is d k ∙ put_none f.disks.sectors ys i d k none

  abbrev keep : ℕ → Bool
  keep k = is_current s (place_of k)

  -- a slice that is there lies by its drive's table where the tables of slices have it
  extent_there : (k d : ℕ) → is_current s (place_of k) ≡ true → f.seats (place_of k) ≡ Some d → 0 < sectors_of t k → extent_by (f.disks.sectors d) (says d).table (slice_of k) ≡ Some (extent_in t k)
  unfolding extent_by
  extent_there k d now seat some = elim (cases_eq (slice_of k) 0) [
    | inl log ↦
        let p = place_of k in
        let was = stop.after.current p now in
        let is : k ≡ log_slice p = omega (arith, log) in
        let lie = log_lies f t i stop.inside p d (on_place f t base s i stop p d seat was) (lies f t base s i stop p d seat was) in
        ap (extent_by (f.disks.sectors d) (says d).table) log
        ∙ ap (λ (b : Bool). if b then Some (record { first = state_sector; sectors = log_sectors }) else None)
        (le-leb arrays_first (f.disks.sectors d) (room f t base s i stop p d seat was))
        ∙ ap₂ (λ (a b : ℕ). Some (record { first = a; sectors = b })) (sym (ap (slice_first t) is ∙ lie.0)) (sym (ap (sectors_of t) is ∙ lie.1))
    | inr member ↦
        let p = place_of k in
        let n : ℕ = slice_of k - 1 in
        let is : k ≡ member_slice p n = omega (arith, member) in
        let number : slice_of k ≡ n + 1 = omega (arith, member) in
        ap (extent_by (f.disks.sectors d) (says d).table) number
        ∙ stop.tables p d now (on_place f t base s i stop p d seat (stop.after.current p now)) n (omega arith) (subst (λ q. 0 < sectors_of t q) is some)
        ∙ ap (λ q. Some (extent_in t q)) (sym is)
  ]

  -- a pending target of a current place lands where its slice has it
  lands_there : (z : Target) → IsPayload xs z.disk z.sector z.bytes → keep z.disk ≡ true → lands z ≡ landing t z
  lands_there z payload now =
      let p = place_of z.disk in
      let has : look (pending (deciding held) held) z.disk z.sector ≡ Some z.bytes =
      ap (λ (zs : List Target). look zs z.disk z.sector) (sym st.targets) ∙ payload_is xs z.disk z.sector z.bytes apart payload in
      let within : z.sector < sectors_of t z.disk = stop.says.inside z.disk z.sector z.bytes has in
      let drive = drive_there f t base s i stop z.disk z.sector (stop.after.current p now) within in
      let d = drive.0 in
      let on : disk_of t z.disk ≡ d = ap (λ o. unwrap_or o 0) (on_place f t base s i stop p d drive.1 (stop.after.current p now)) in
      ap (option_and_then (λ d. option_and_then (λ (x : Extent). if nat_lt z.sector x.sectors then Some (record { disk = d; sector = x.first + z.sector; bytes = z.bytes }) else None)
      (extent_by (f.disks.sectors d) (says d).table (slice_of z.disk))))
      (st.seats p now ∙ drive.1)
      ∙ ap (option_and_then (λ (x : Extent). if nat_lt z.sector x.sectors then Some (record { disk = d; sector = x.first + z.sector; bytes = z.bytes }) else None))
      (extent_there z.disk d now drive.1 (omega (arith, within)))
      ∙ ap (λ q. if nat_lt z.sector (sectors_of t z.disk) then Some (record { disk = q; sector = slice_first t z.disk + z.sector; bytes = z.bytes }) else None) (sym on)

  lands_nowhere : (z : Target) → keep z.disk ≡ false → lands z ≡ None
  lands_nowhere z past =
      ap (option_and_then (λ d. option_and_then (λ (x : Extent). if nat_lt z.sector x.sectors then Some (record { disk = d; sector = x.first + z.sector; bytes = z.bytes }) else None)
      (extent_by (f.disks.sectors d) (says d).table (slice_of z.disk))))
      (nowhere s f.disks says (place_of z.disk) past)

  abbrev pub zs : List Target
  zs = filter (λ z. keep z.disk) xs

  pub lands_as : ys ≡ filter_map (landing t) zs
  lands_as = filter_lands lands (landing t) (λ z. keep z.disk) xs lands_there lands_nowhere

  -- So a slice of a current place holds with the record written what it does replayed.
  pub replays : (k j : ℕ) → is_current s (place_of k) ≡ true → sliced t e k j ≡ replayed (sectors_of t) held k j
  unfolding replayed
  replays k j now = elim (cases_lt j (sectors_of t k)) [
    | inr past ↦
        ap (λ (b : Bool). if b then e (disk_of t k) (slice_first t k + j) else []) (le-ltb j (sectors_of t k) past)
        ∙ sym (ap (λ (b : Bool). if b then i (disk_of t k) (slice_first t k + j) else []) (le-ltb j (sectors_of t k) past))
        ∙ sym (ap (λ (b : Bool). if b then unwrap_or (look (pending (deciding held) held) k j) (held k j) else held k j) (le-ltb j (sectors_of t k) past))
    | inl low ↦
        let drive = drive_there f t base s i stop k j (stop.after.current (place_of k) now) low in
        let d = drive.0 in
        let seat : slice_seat t (place_of k) ≡ Some d = on_place f t base s i stop (place_of k) d drive.1 (stop.after.current (place_of k) now) in
        let on : disk_of t k ≡ d = ap (λ o. unwrap_or o 0) seat in
        let end = stop.inside k d seat (omega (arith, low)) in
        let within : slice_first t k + j < f.disks.sectors (disk_of t k) = subst (λ q. slice_first t k + j < f.disks.sectors q) (sym on) (omega (arith, low, end)) in
        let here : look ys (disk_of t k) (slice_first t k + j) ≡ look (pending (deciding held) held) k j =
        ap (λ (ws : List Target). look ws (disk_of t k) (slice_first t k + j)) lands_as
        ∙ look_landed t stop.orderly zs k j low ∙ look_kept keep xs k j now ∙ ap (λ (ws : List Target). look ws k j) st.targets in
        ap (λ (b : Bool). if b then e (disk_of t k) (slice_first t k + j) else []) (lt-ltb j (sectors_of t k) low)
        ∙ e_is (disk_of t k) (slice_first t k + j)
        ∙ ap (λ (b : Bool). if b then unwrap_or (look ys (disk_of t k) (slice_first t k + j)) (i (disk_of t k) (slice_first t k + j)) else i (disk_of t k) (slice_first t k + j))
        (lt-ltb (slice_first t k + j) (f.disks.sectors (disk_of t k)) within)
        ∙ ap (λ (o : Option (List ℕ)). unwrap_or o (i (disk_of t k) (slice_first t k + j))) here
        ∙ ap (unwrap_or (look (pending (deciding held) held) k j))
        (sym (ap (λ (b : Bool). if b then i (disk_of t k) (slice_first t k + j) else []) (lt-ltb j (sectors_of t k) low)))
        ∙ sym (ap (λ (b : Bool). if b then unwrap_or (look (pending (deciding held) held) k j) (held k j) else held k j) (lt-ltb j (sectors_of t k) low))
  ]
