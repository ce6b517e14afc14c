-- The slices of a pool's drives are at rest, with the copies of its state.
use Rattle.std.proofs.Common.{◌≡◌, ℕ, ◌+◌, ◌<◌, ◌≤◌, Bool, true, false, ◌==◌, ◌&&◌, nat_lt, if◌then◌else◌, is_none, List, [], map, length, Option, Some, None, Result, Ok, Err, option_map, unwrap_or, inl, inr, refl, sym, ap, subst, ◌∙◌, eq-eqb, lt-ltb, ltb-true, arith}
use Rattle.std.specs.Result.{result_ok}
use Rattle.std.specs.List.{range_with_len, slice_index}
use Rattle.std.proofs.lemmas.Bool.{and_parts, both_ways, cases_lt}
use Rattle.std.proofs.lemmas.List.Folds.{list_any_at}
use Rattle.std.proofs.lemmas.Option.{none-some}
use Rattle.rack.specs.Seen.{Image, RackView}
use Rattle.rack.specs.Targets.{look}
use Rattle.slice_rack.specs.Slices.{Slices, IsOrderly, disk_of, first_of, seat_of, sectors_of}
use Rattle.slice_rack.specs.Sliced.{slices_of as slices_seen}
use Rattle.slice_rack.specs.Laws.{disk_below, sector_below}
use Rattle.shr_base.specs.Blocks.{bytes_at, number_at}
use Rattle.pool_state.specs.declared.contents.Copied.{Copied}
use Rattle.pool_state.specs.declared.contents.State.{State}
use Rattle.pool_state.specs.Sector.{decoded}
use Rattle.array_image.specs.Foremost.{foremost}
use Rattle.array_image.specs.Places.{log_sectors, log_slice, place_of, state_sector}
use Rattle.array_image.specs.States.{copy_in, epoch_of, is_current, state_in, id_of}
use Rattle.array_core.proofs.Leading.{foremost_leads, none_leads}
use Rattle.array_core.proofs.Stripped.{some_same}
use Rattle.log_laws.specs.View.{LogView, names}
use Rattle.log_laws.specs.AtRest.{AtRest, CopiesAgree, Opened}
use Rattle.pool_image.specs.Disks.{Disks, Identity}
use Rattle.pool_image.specs.Drives.{Found}
use Rattle.pool_check.specs.declared.Checked.{Checked}
use Rattle.pool_check.specs.Checking.{IsChecked}
use Rattle.pool_check.specs.Refusing.{is_well}
use Rattle.log_laws.specs.Kept.{IsNoLater}
use Rattle.pool_model.proofs.Named.{copy_names, seat_ahead}
use Rattle.assembler_laws.specs.Members.{AreMembers}
use Rattle.pool_model.specs.Pools.{IsSoundPool}
use Rattle.assembler_laws.specs.Holding.{AreSteady, IsIdle, IsPoolOn}
use Rattle.assembler_laws.proofs.Copied.{has_copy}
use Rattle.assembler_laws.proofs.Shows.{few_place, live, now, reads_outside, slice_seat}

pub nothing_decodes : (copy : Copied) → decoded [] ≡ Ok copy → ⊥
unfolding number_at bytes_at
nothing_decodes copy is = none-some copy (ap result_ok is)

pub ok_of : {X Y : Type 0} (r : Result X Y) (y : X) → result_ok r ≡ Some y → r ≡ Ok y
ok_of (Ok z) y is = cc
ok_of (Err why) y is = absurd (none-some y is)

-- contents of which a copy is of a state, and none is later, have this state
pub state_of_latest : (c : Image) (s : State) (one own : ℕ) → one < 16 → copy_in c one ≡ Some (record { state = s; own = own })
    → ((p : ℕ) (copy : Copied) → p < 16 → copy_in c p ≡ Some copy → IsNoLater s copy) → state_in c ≡ Some s
unfolding state_in
state_of_latest c s one own few is each = by (foremost epoch_of (map (copy_in c) (range_with_len 0 16))) refl
  where
    by : (o : Option Copied) → foremost epoch_of (map (copy_in c) (range_with_len 0 16)) ≡ o → option_map (λ copy. copy.state) o ≡ Some s
    by None none = absurd (none-some (record { state = s; own = own }) (sym (none_leads epoch_of (copy_in c) 0 16 none one (omega arith) (omega (arith, few))) ∙ is))
    by (Some copy) some =
        let leads = foremost_leads epoch_of (copy_in c) 0 16 copy some in
        let low = leads.most in
        elim (each leads.at copy (omega (arith, low)) leads.here) [
          | inr same ↦ ap Some same
          | inl lower ↦ absurd (elim (cases_lt one leads.at) [
            | inl early ↦ (let less : s.epoch < copy.state.epoch = leads.before one (record { state = s; own = own }) (omega arith) early is in omega (arith, lower, less))
            | inr from ↦ elim (cases_lt leads.at one) [
              | inl late ↦ (let less : s.epoch ≤ copy.state.epoch = leads.after one (record { state = s; own = own }) late (omega (arith, few)) is in omega (arith, lower, less))
              | inr upto ↦
                  let here : one ≡ leads.at = omega (arith, from, upto) in
                  let same : s.epoch ≡ copy.state.epoch =
                  ap (λ (k : Copied). k.state.epoch) (some_same (record { state = s; own = own }) copy (sym is ∙ ap (copy_in c) here ∙ leads.here)) in
                  omega (arith, lower, same)
            ]
          ])
        ]

module _ (f : Found) (t : Slices) (x : RackView) (checked : Checked) (absent : List ℕ) (orderly : IsOrderly t)
    (m : AreMembers f.state t x checked absent) (steady : AreSteady x) (pool : IsPoolOn f.state t x f)
    (found : IsChecked (is_well None) f checked) (sound : IsSoundPool f) where
  abbrev pub e : Image
  e = now f t x checked absent orderly m steady pool found.opened

  log_place : (p : ℕ) → place_of (log_slice p) ≡ p
  log_place p = omega arith

  -- ---- copies of the state

  -- the first sector of a log slice is the state's on its disk
  reads_state : (p d : ℕ) → seat_of t p ≡ Some d → (state_sector < x.sectors d) × (e (log_slice p) 0 ≡ f.contents d state_sector)
  reads_state p d seat =
      let some : 0 < sectors_of t (log_slice p) = (let size = m.logs p d seat in omega (arith, size)) in
      let disk : disk_of t (log_slice p) ≡ d = ap (λ o. unwrap_or o 0) (ap (seat_of t) (log_place p) ∙ seat) in
      let first : first_of t (log_slice p) + 0 ≡ state_sector = (let at = m.firsts p d seat in omega (arith, at)) in
      let inside : state_sector < x.sectors d =
      subst (λ k. k < x.sectors d) first (subst (λ k. first_of t (log_slice p) + 0 < x.sectors k) disk (sector_below t x (log_slice p) 0 m.fit.1 some)) in (
        inside,
        ap (λ (b : Bool). if b then (x.held (disk_of t (log_slice p)) (first_of t (log_slice p) + 0)).current else []) (lt-ltb 0 (sectors_of t (log_slice p)) some)
            ∙ ap (λ k. (x.held k (first_of t (log_slice p) + 0)).current) disk ∙ ap (λ k. (x.held d k).current) first
            ∙ sym (pool.contents p d state_sector (pool.seats p ∙ seat) inside),
      )

  copy_read : (p d : ℕ) → seat_of t p ≡ Some d → copy_in e p ≡ (f.identities d).copied
  copy_read p d seat =
      let at = reads_state p d seat in
      ap (λ block. result_ok (decoded block)) at.1
      ∙ sym (ap (λ (i : Identity). i.copied) (pool.identities p d (pool.seats p ∙ seat))
      ∙ ap (λ (b : Bool). if b then result_ok (decoded (f.contents d state_sector)) else None)
      (lt-ltb state_sector (f.disks.sectors d) (subst (λ (disks : Disks). state_sector < disks.sectors d) (sym pool.disks) at.0)))

  -- a seated drive's copy is of the state
  copy_same : (p d : ℕ) (copy : Copied) → seat_of t p ≡ Some d → (f.identities d).copied ≡ Some copy → copy.state ≡ f.state
  copy_same p d copy seat is =
      sound.rules.copies d copy (subst (λ (disks : Disks). d < disks.count) (sym pool.disks) (m.fit.1.seats p d seat)) is
      (sound.rules.epochs p d copy (pool.seats p ∙ seat) is)

  copy_seated : (p d : ℕ) → seat_of t p ≡ Some d → (k : ℕ) × (copy_in e p ≡ Some (record { state = f.state; own = k })) × (id_of f.state k ≡ id_of f.state p)
  copy_seated p d seat =
      let copy = has_copy (is_well None) f found.sound p d (m.current p d seat) (pool.seats p ∙ seat) in
      let same = copy_same p d copy.0 seat copy.1 in
      let ahead = seat_ahead f.state f.disks f.identities p d (sym (pool.chosen p) ∙ pool.seats p ∙ seat) in (
        copy.0.own,
        copy_read p d seat ∙ copy.1 ∙ ap (λ (s : State). Some (record { state = s; own = copy.0.own })) same,
        ap (λ (s : State). id_of s copy.0.own) (sym same) ∙ copy_names f.state (f.identities d) p copy.0 ahead.stands copy.1,
      )

  -- a place without a disk has none
  copy_none : (p : ℕ) → seat_of t p ≡ None → copy_in e p ≡ None
  copy_none p none =
      let nothing : sectors_of t (log_slice p) ≡ 0 = orderly.seated (log_slice p) (ap (seat_of t) (log_place p) ∙ none) in
      ap (λ block. result_ok (decoded block)) (reads_outside f t x checked absent orderly m steady pool found.opened (log_slice p) 0 (omega (arith, nothing)))
      ∙ of (result_ok (decoded [])) refl
    where
      of : (o : Option Copied) → result_ok (decoded []) ≡ o → result_ok (decoded []) ≡ None
      of None is = is
      of (Some copy) is = absurd (nothing_decodes copy (ok_of (decoded []) copy is))

  pub copy_of : (p : ℕ) (copy : Copied) → copy_in e p ≡ Some copy → copy.state ≡ f.state
  copy_of p copy is = by (seat_of t p) refl
    where
      by : (o : Option ℕ) → seat_of t p ≡ o → copy.state ≡ f.state
      by (Some d) seat = copy_same p d copy seat (sym (copy_read p d seat) ∙ is)
      by None seat = absurd (none-some copy (sym (copy_none p seat) ∙ is))

  -- whoever is current and isn't absent has a disk
  pub seat_there : (p : ℕ) → is_current f.state p ≡ true → names absent p ≡ false → (d : ℕ) × (seat_of t p ≡ Some d)
  seat_there p current here = by (seat_of t p) (sym (m.absent_is p) ∙ here)
    where
      by : (o : Option ℕ) → (is_none o && is_current f.state p) ≡ false → (d : ℕ) × (o ≡ Some d)
      by (Some d) is = (d, refl)
      by None is = absurd (both_ways (is_current f.state p) is current)

  pub log_there : (p : ℕ) → is_current f.state p ≡ true → names absent p ≡ false → 0 < sectors_of t (log_slice p)
  log_there p current here = let seat = seat_there p current here in let size = m.logs p seat.0 seat.1 in omega (arith, size)

  pub copies_agree : (gone : ℕ → Bool) → ((p : ℕ) → is_current f.state p ≡ true → gone p ≡ false → names absent p ≡ false) → CopiesAgree f.state gone (slices_seen t x)
  copies_agree gone here = record {
    own = λ p current left. let seat = seat_there p current (here p current left) in copy_seated p seat.0 seat.1;
    same = λ p copy few is epoch. copy_of p copy is;
    earlier = λ p copy few former is. nobody p copy former is (seat_of t p) refl;
  }
    where
      nobody : (p : ℕ) (copy : Copied) → is_current f.state p ≡ false → copy_in e p ≡ Some copy → (o : Option ℕ) → seat_of t p ≡ o → copy.state.epoch < f.state.epoch
      nobody p copy former is (Some d) seat = absurd (both_ways (is_current f.state p) former (m.current p d seat))
      nobody p copy former is None seat = absurd (none-some copy (sym (copy_none p seat) ∙ is))

  -- ---- rest

  module _ (l : LogView) (log : IsIdle f.state t x l) (one d : ℕ) (seat : seat_of t one ≡ Some d) where
    at_rest : AtRest f.state log.on (slices_seen t x)
    at_rest = record {
      lasting = m.lasting;
      live = λ k u few inside. live f t x checked absent orderly m steady pool found.opened k u inside;
      single = λ p u few inside. steady.single (disk_of t (log_slice p)) (first_of t (log_slice p) + u)
          (disk_below t x (log_slice p) u orderly m.fit.1 inside) (sector_below t x (log_slice p) u m.fit.1 inside);
      state = (let first = copy_seated one d seat in
          state_of_latest e f.state one first.0 (few_place f t x checked absent orderly m steady pool found.opened one (m.current one d seat)) first.1
          (λ p copy few is. inr (copy_of p copy is)));
      places = log.places;
      slices = λ j low. whole (slice_index log.on j) (named_at log.on j low);
    }
      where
        whole : (p : ℕ) → names log.on p ≡ true → (p < 16) × (sectors_of t (log_slice p) ≡ log_sectors)
        whole p named =
            let parts = and_parts (is_current f.state p) (nat_lt 0 (sectors_of t (log_slice p))) (sym (log.places p) ∙ named) in
            let at = slice_seat f t x checked absent orderly m steady pool found.opened (log_slice p) 0 (ltb-true 0 (sectors_of t (log_slice p)) parts.1) in
            (few_place f t x checked absent orderly m steady pool found.opened p parts.0, m.logs p at.0 (ap (seat_of t) (sym (log_place p)) ∙ at.1))

        named_at : (ps : List ℕ) (j : ℕ) → j < length ps → names ps (slice_index ps j) ≡ true
        named_at ps j below = list_any_at (λ q. q == slice_index ps j) ps j 0 below (eq-eqb (slice_index ps j) (slice_index ps j) refl)

    pub opened_now : Opened f.state f.state l log.on (slices_seen t x)
    unfolding look
    opened_now = record {
      rest = at_rest;
      is_pending = log.is_pending;
      finds = log.finds;
      brings = record { copies = λ p u is. absurd (none-some u (ap (λ xs. look xs (log_slice p) 0) (sym log.none) ∙ is)); either = inl refl };
    }
