-- Drives of which one had the state that stood when an opening began, and none a later one: their slices said it then.
use Rattle.std.proofs.Common.{◌≡◌, ℕ, ◌+◌, ◌<◌, ◌≤◌, Bool, if◌then◌else◌, [], Option, Some, None, option_map, refl, sym, ap, subst, ◌∙◌, lt-ltb, le-ltb, arith}
use Rattle.std.specs.Prelude.{unwrap_or}
use Rattle.std.specs.Option.{option_and_then}
use Rattle.std.specs.Result.{result_ok}
use Rattle.std.proofs.lemmas.Option.{none-some}
use Rattle.rack.specs.Seen.{Image, RackView}
use Rattle.slice_rack.specs.Slices.{Slices, IsOrderly, disk_of, first_of, seat_of, sectors_of}
use Rattle.slice_rack.specs.Sliced.{IsInside, sliced}
use Rattle.slice_rack.specs.Laws.{sector_below}
use Rattle.pool_state.specs.declared.contents.Copied.{Copied}
use Rattle.pool_state.specs.declared.contents.State.{State}
use Rattle.pool_state.specs.Sector.{decoded}
use Rattle.array_image.specs.Places.{log_sectors, log_slice, place_of, state_sector}
use Rattle.array_image.specs.States.{copy_in, state_in}
use Rattle.array_core.proofs.Stripped.{some_same}
use Rattle.pool_image.specs.Disks.{Disks, Identities, disks_of, identities_of, newest, seat_of as pool_seat}
use Rattle.pool_image.specs.Drives.{Found, found, found_by}
use Rattle.pool_image.specs.Replay.{Standing, standing, written}
use Rattle.pool_image.proofs.Rested.{stood_by}
use Rattle.log_laws.specs.Kept.{IsNoLater}
use Rattle.pool_scan.specs.Scanning.{now_in}
use Rattle.assembler.specs.Sound.{HaveStood}
use Rattle.assembler_laws.proofs.Rest.{nothing_decodes, ok_of, state_of_latest}

-- how disks stood is part of the pool that they have
pub before_is : (disks : Disks) (c : Image) (e : Found) (b : Standing) → found disks c ≡ Some e → standing disks c ≡ Some b → e.before ≡ b
unfolding found
before_is disks c e b is stands =
    by (newest disks (identities_of disks (written disks b c)))
    (sym (ap (λ (o : Option Standing). option_and_then (λ before. found_by disks before (written disks before c)) o) stands) ∙ is)
  where
    by : (o : Option State)
        → option_map (λ s. record { disks = disks; before = b; contents = written disks b c; identities = identities_of disks (written disks b c); state = s; seats = pool_seat s disks (identities_of disks (written disks b c)) }) o ≡ Some e
        → e.before ≡ b
    by None none = absurd (none-some e none)
    by (Some s) some = sym (ap (λ (k : Found). k.before) (some_same (record { disks = disks; before = b; contents = written disks b c; identities = identities_of disks (written disks b c); state = s; seats = pool_seat s disks (identities_of disks (written disks b c)) }) e some))

module _ (a : RackView) (e : Found) (found_is : found (disks_of a) (now_in a) ≡ Some e) (stood : HaveStood e)
    (t : Slices) (orderly : IsOrderly t) (inside : IsInside t a) (seats : (p : ℕ) → seat_of t p ≡ e.seats p)
    (logs : (p d : ℕ) → seat_of t p ≡ Some d → sectors_of t (log_slice p) ≡ log_sectors)
    (firsts : (p d : ℕ) → seat_of t p ≡ Some d → first_of t (log_slice p) ≡ state_sector)
    (b : Standing) (stands : standing (disks_of a) (now_in a) ≡ Some b) where
  abbrev c : Image
  c = sliced t (now_in a)

  place_is : (p : ℕ) → place_of (log_slice p) ≡ p
  place_is p = omega arith

  -- the first sector of a log slice is the state's on its disk
  copy_read : (p d : ℕ) → seat_of t p ≡ Some d → copy_in c p ≡ (identities_of (disks_of a) (now_in a) d).copied
  copy_read p d seat =
      let size = logs p d seat in
      let first = firsts p d seat in
      let some : 0 < sectors_of t (log_slice p) = omega (arith, size) in
      let disk : disk_of t (log_slice p) ≡ d = ap (λ o. unwrap_or o 0) (ap (seat_of t) (place_is p) ∙ seat) in
      let at : first_of t (log_slice p) + 0 ≡ state_sector = omega (arith, first) in
      let room : state_sector < a.sectors d =
      subst (λ k. k < a.sectors d) at (subst (λ k. first_of t (log_slice p) + 0 < a.sectors k) disk (sector_below t a (log_slice p) 0 inside some)) in
      ap (λ block. result_ok (decoded block))
      (ap (λ (k : Bool). if k then now_in a (disk_of t (log_slice p)) (first_of t (log_slice p) + 0) else []) (lt-ltb 0 (sectors_of t (log_slice p)) some)
      ∙ ap (λ k. now_in a k (first_of t (log_slice p) + 0)) disk ∙ ap (λ k. now_in a d k) at)
      ∙ sym (ap (λ (k : Bool). if k then result_ok (decoded (now_in a d state_sector)) else None) (lt-ltb state_sector (a.sectors d) room))

  identities_is : b.identities ≡ identities_of (disks_of a) (now_in a)
  identities_is = ap (λ (k : Standing). k.identities) (stood_by (disks_of a) (now_in a) b stands).2

  copy_none : (p : ℕ) → seat_of t p ≡ None → (copy : Copied) → copy_in c p ≡ Some copy → ⊥
  copy_none p none copy is =
      let nothing : sectors_of t (log_slice p) ≡ 0 = orderly.seated (log_slice p) (ap (seat_of t) (place_is p) ∙ none) in
      let past : sectors_of t (log_slice p) ≤ 0 = omega (arith, nothing) in
      let empty : c (log_slice p) 0 ≡ [] = ap (λ (k : Bool). if k then now_in a (disk_of t (log_slice p)) (first_of t (log_slice p) + 0) else []) (le-ltb 0 (sectors_of t (log_slice p)) past) in
      nothing_decodes copy (ok_of (decoded []) copy (sym (ap (λ block. result_ok (decoded block)) empty) ∙ is))

  -- the state that stood is the one that they say
  pub stood_state : (few : stood.place < 16) → state_in c ≡ Some b.state
  stood_state few =
      let same = before_is (disks_of a) (now_in a) e b found_is stands in
      let state : e.before.state ≡ b.state = ap (λ (k : Standing). k.state) same in
      state_of_latest c b.state stood.place stood.own few
      (copy_read stood.place stood.disk (seats stood.place ∙ stood.seat) ∙ ap (λ (i : Identities). (i stood.disk).copied) (said same)
      ∙ stood.copy ∙ ap (λ (k : State). Some (record { state = k; own = stood.own })) state)
      (λ p copy low is. by p copy is (seat_of t p) refl)
    where
      said : e.before ≡ b → identities_of (disks_of a) (now_in a) ≡ e.before.identities
      said same = sym identities_is ∙ ap (λ (k : Standing). k.identities) (sym same)

      by : (p : ℕ) (copy : Copied) → copy_in c p ≡ Some copy → (o : Option ℕ) → seat_of t p ≡ o → IsNoLater b.state copy
      by p copy is (Some d) at =
          let same = before_is (disks_of a) (now_in a) e b found_is stands in
          subst (λ (k : Standing). IsNoLater k.state copy) same
          (stood.latest p d copy (sym (seats p) ∙ at) (ap (λ (i : Identities). (i d).copied) (sym (said same)) ∙ sym (copy_read p d at) ∙ is))
      by p copy is None none = absurd (copy_none p none copy is)
