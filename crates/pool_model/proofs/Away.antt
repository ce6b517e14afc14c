-- The disks of a whole pool without that of one place: it is found by the same state, and its other places have their drives.
use Rattle.std.proofs.Common.{◌≡◌, ◌≢◌, ℕ, zero, suc, ◌+◌, ◌<◌, ◌≤◌, ◌==◌, ◌&&◌, ◌||◌, Bool, true, false, not, nat_lt, if◌then◌else◌, is_none, List, [], ◌∷◌, filter, find, length, map, slice_get, Option, Some, None, option_map, refl, sym, ap, ◌∙◌, inl, inr, eqb-true, eq-eqb, arith}
use Rattle.std.specs.Option.{option_map_or}
use Rattle.std.specs.List.{list_all, range_with_len}
use Rattle.std.proofs.lemmas.Bool.{and_parts, both_ways, cases_Bool, cases_eq}
use Rattle.std.proofs.lemmas.List.Sums.{length-filter}
use Rattle.std.proofs.lemmas.Option.{none-some}
use Rattle.rack.specs.Seen.{Image}
use Rattle.shr_base.specs.Blocks.{bytes_at}
use Rattle.pool_state.specs.declared.contents.Drive.{Drive}
use Rattle.pool_state.specs.declared.contents.State.{State}
use Rattle.array_image.specs.Foremost.{foremost}
use Rattle.array_image.specs.Places.{log_sectors, log_slice, place_of, slice_of}
use Rattle.array_image.specs.Record.{gate_in, gate_of, gate_sector, pending_at}
use Rattle.array_image.specs.States.{current_places, is_current}
use Rattle.array_core.proofs.Stripped.{some_same}
use Rattle.log_laws.specs.View.{names}
use Rattle.raid_laws.proofs.Added.{names_current}
use Rattle.pool_image.specs.Book.{book_of}
use Rattle.pool_image.specs.Disks.{Candidate, Disks, Identities, candidate, identities_of, newest, seat_of, stands_for}
use Rattle.pool_image.specs.Drives.{Found, drive_sector}
use Rattle.pool_image.specs.Replay.{Extent, log_extent}
use Rattle.pool_image.specs.Sound.{disks_without, image_without, skip}
use Rattle.pool_image.proofs.Identities.{seat_inside}
use Rattle.pool_model.specs.Absent.{IsWholePool}
use Rattle.pool_model.proofs.Found.{IsFound, found_is, valid}
use Rattle.pool_model.proofs.Named.{seat_ahead}
use Rattle.pool_model.proofs.Skipped.{back, seat_left, seat_none, seated, skip_back}
use Rattle.pool_model.proofs.Standing.{closed_none, pool_at}
use Rattle.pool_scan.proofs.Valid.{valid_places}

-- ---- lists

none_counted : (test : ℕ → Bool) (ps : List ℕ) (p : ℕ) → length (filter test ps) ≡ 0 → names ps p ≡ true → test p ≡ false
none_counted test [] p none among = absurd (both_ways false refl among)
none_counted test (q ∷ ps) p none among = of (test q) refl none (none_counted test ps p)
  where
    later : (b : Bool) → (b ≡ true → ⊥) → (b || names ps p) ≡ true → names ps p ≡ true
    later true never all = absurd (never refl)
    later false never all = all

    of : (b : Bool) → test q ≡ b → length (if b then q ∷ filter test ps else filter test ps) ≡ 0
        → (length (filter test ps) ≡ 0 → names ps p ≡ true → test p ≡ false) → test p ≡ false
    of true is none others = absurd (omega (arith, none))
    of false is none others = elim (cases_eq q p) [
      | inl here ↦ ap test (sym here) ∙ is
      | inr other ↦ others none (later (q == p) (λ same. other (eqb-true q p same)) among)
    ]

-- what is found passes, and is of the list
pub find_passes : (test : ℕ → Bool) (ps : List ℕ) (p : ℕ) → find test ps ≡ Some p → (test p ≡ true) × (names ps p ≡ true)
find_passes test [] p is = absurd (none-some p is)
find_passes test (q ∷ ps) p is = of (test q) refl is (find_passes test ps p)
  where
    or_true : (b : Bool) → (b || true) ≡ true
    or_true true = refl
    or_true false = refl

    of : (b : Bool) → test q ≡ b → (if b then Some q else find test ps) ≡ Some p → (find test ps ≡ Some p → (test p ≡ true) × (names ps p ≡ true))
        → (test p ≡ true) × (((q == p) || names ps p) ≡ true)
    of true passes at others =
        let same : q ≡ p = some_same q p at in
        (ap test (sym same) ∙ passes, ap (λ b. b || names ps p) (eq-eqb q p same))
    of false fails at others = let later = others at in (later.0, ap (λ b. (q == p) || b) later.1 ∙ or_true (q == p))

-- where none passes, none is found
pub none_found : (test : ℕ → Bool) (ps : List ℕ) → ((p : ℕ) → names ps p ≡ true → test p ≡ false) → find test ps ≡ None
none_found test ps none = of (find test ps) refl
  where
    of : (o : Option ℕ) → find test ps ≡ o → o ≡ None
    of None is = refl
    of (Some p) is = let at = find_passes test ps p is in absurd (both_ways (test p) (none p at.1) at.0)

pub all_there : (test : Drive → Bool) (ds : List Drive) (p : ℕ) → list_all test ds ≡ true → p < length ds → option_map_or test (slice_get ds p) false ≡ true
all_there test [] p all low = absurd (omega (arith, low))
all_there test (d ∷ ds) zero all low = (and_parts (test d) (list_all test ds) all).0
all_there test (d ∷ ds) (suc p) all low = all_there test ds p (and_parts (test d) (list_all test ds) all).1 (omega (arith, low))

-- nothing is no gate
no_gate : gate_of [] ≡ None
unfolding gate_of bytes_at
no_gate = refl

same_if : (b : Bool) (u : List ℕ) → (if b then u else u) ≡ u
same_if true u = refl
same_if false u = refl

module _ (disks : Disks) (c : Image) (s : State) (newest_is : newest disks (identities_of disks c) ≡ Some s)
    (w : IsWholePool disks c (pool_at disks c s)) where
  abbrev pub f : Found
  f = pool_at disks c s

  abbrev pub says : Identities
  says = identities_of disks c

  pub is_found : IsFound f
  is_found = (found_is disks c f w.is_found).0

  pub few_drives : (2 ≤ length s.drives.items) × (length s.drives.items ≤ 16)
  few_drives = let one = valid f is_found in valid_places s one.0 one.1

  -- each place of the list is current, and has its drive
  pub all_current : (q : ℕ) → q < length s.drives.items → is_current s q ≡ true
  unfolding book_of
  all_current q low = all_there (λ drive. not drive.missing) s.drives.items q w.whole.drives low

  pub seat_there : (q : ℕ) → is_current s q ≡ true → (e : ℕ) × (f.seats q ≡ Some e)
  seat_there q counts = of (f.seats q) refl
    where
      of : (o : Option ℕ) → f.seats q ≡ o → (e : ℕ) × (f.seats q ≡ Some e)
      of (Some e) is = (e, is)
      of None is =
          let some = none_counted (λ place. is_none (f.seats place)) (current_places s) q
          (length-filter (λ place. is_none (f.seats place)) (current_places s) ∙ w.present) (names_current s q ∙ counts) in
          absurd (both_ways (is_none (f.seats q)) some (ap is_none is))

  module _ (p d : ℕ) (seat : f.seats p ≡ Some d) where
    abbrev pub fewer : Disks
    fewer = disks_without d disks

    abbrev pub rest : Image
    rest = image_without d c

    abbrev pub g : Found
    g = pool_at fewer rest s

    pub inside : d < disks.count
    inside = seat_inside s disks says p d seat

    pub current : is_current s p ≡ true
    current = (seated s disks says d inside p d seat).current

    -- ---- seats

    pub other_disk : (q e : ℕ) → q ≢ p → f.seats q ≡ Some e → e ≢ d
    other_disk q e apart at same =
        let one = (seat_ahead s disks says q e at).stands in
        let two = (seat_ahead s disks says p d seat).stands in
        apart (some_same q p (sym one ∙ ap (λ k. stands_for s (says k)) same ∙ two))

    pub seats_now : (q e : ℕ) → q ≢ p → f.seats q ≡ Some e → g.seats q ≡ Some (back d e)
    seats_now q e apart at = seat_left s disks says d inside q e at (other_disk q e apart at)

    pub none_now : g.seats p ≡ None
    none_now = seat_none s disks says d inside p (λ e low stands. w.only p d e seat low stands)

    pub disk_back : (q e : ℕ) → q ≢ p → f.seats q ≡ Some e → skip d (back d e) ≡ e
    disk_back q e apart at = skip_back d e (other_disk q e apart at)

    former : (h : Disks) (ids : Identities) (q : ℕ) → is_current s q ≡ false → seat_of s h ids q ≡ None
    unfolding seat_of
    former h ids q none =
        ap (λ b. if b then option_map (λ (k : Candidate). k.disk) (foremost (λ (k : Candidate). k.epoch) (map (candidate s ids q) (range_with_len 0 h.count))) else None) none

    -- another place of the list
    abbrev pub neighbour : ℕ
    neighbour = if p == 0 then 1 else 0

    pub beside : (neighbour ≢ p) × (is_current s neighbour ≡ true)
    beside = of (p == 0) refl
      where
        of : (b : Bool) → (p == 0) ≡ b → ((if b then 1 else 0) ≢ p) × (is_current s (if b then 1 else 0) ≡ true)
        of true zero_is = (
          λ same. (let at = eqb-true p 0 zero_is in omega (arith, same, at)),
          all_current 1 (let two = few_drives.0 in omega (arith, two)),
        )
        of false other = (
          λ same. both_ways (p == 0) other (eq-eqb p 0 (sym same)),
          all_current 0 (let two = few_drives.0 in omega (arith, two)),
        )

    -- ---- what stands on drives

    pub drive_now : (q u : ℕ) → q ≢ p → drive_sector g q u ≡ drive_sector f q u
    drive_now q u apart = elim (cases_Bool (is_current s q)) [
      | inl counts ↦
          let one = seat_there q counts in
          ap (λ o. option_map_or (λ e. if nat_lt u (fewer.sectors e) then rest e u else []) o []) (seats_now q one.0 apart one.1)
          ∙ ap (λ e. if nat_lt u (disks.sectors e) then c e u else []) (disk_back q one.0 apart one.1)
          ∙ sym (ap (λ o. option_map_or (λ e. if nat_lt u (disks.sectors e) then c e u else []) o []) one.1)
      | inr none ↦
          ap (λ o. option_map_or (λ e. if nat_lt u (fewer.sectors e) then rest e u else []) o []) (former fewer g.identities q none)
          ∙ sym (ap (λ o. option_map_or (λ e. if nat_lt u (disks.sectors e) then c e u else []) o []) (former disks says q none))
    ]

    pub drive_gone : (u : ℕ) → drive_sector g p u ≡ []
    drive_gone u = ap (λ o. option_map_or (λ e. if nat_lt u (fewer.sectors e) then rest e u else []) o []) none_now

    -- ---- its logs

    abbrev log_read : Disks → Image → ℕ → Option ℕ → List ℕ
    log_read h i u o = option_map_or (λ e. option_map_or (λ (x : Extent). i e (x.first + u)) (log_extent (h.sectors e)) []) o []

    pub logs_now : (q u : ℕ) → q ≢ p → is_current s q ≡ true → g.before.logs (log_slice q) u ≡ f.before.logs (log_slice q) u
    logs_now q u apart counts =
        let one = seat_there q counts in
        let at : place_of (log_slice q) ≡ q = omega arith in
        ap (λ (v : List ℕ). if (slice_of (log_slice q) == 0) && nat_lt u log_sectors then v else [])
        (ap (λ k. log_read fewer rest u (g.seats k)) at
        ∙ ap (log_read fewer rest u) (seats_now q one.0 apart one.1)
        ∙ ap (λ e. log_read disks c u (Some e)) (disk_back q one.0 apart one.1)
        ∙ sym (ap (λ k. log_read disks c u (f.seats k)) at ∙ ap (log_read disks c u) one.1))

    logs_gone : (u : ℕ) → g.before.logs (log_slice p) u ≡ []
    logs_gone u =
        let at : place_of (log_slice p) ≡ p = omega arith in
        ap (λ (v : List ℕ). if (slice_of (log_slice p) == 0) && nat_lt u log_sectors then v else [])
        (ap (λ k. log_read fewer rest u (g.seats k)) at ∙ ap (log_read fewer rest u) none_now)
        ∙ same_if ((slice_of (log_slice p) == 0) && nat_lt u log_sectors) []

    pub idle_now : pending_at (current_places s) g.before.logs ≡ None
    idle_now =
        closed_none (current_places s) g.before.logs (λ q gate among is. elim (cases_eq q p) [
          | inr apart ↦
              let counts : is_current s q ≡ true = sym (names_current s q) ∙ among in
              w.closed q gate counts (sym (ap gate_of (logs_now q gate_sector apart counts)) ∙ is)
          | inl same ↦ absurd (none-some gate (sym (ap (gate_in g.before.logs) same ∙ ap gate_of (logs_gone gate_sector) ∙ no_gate) ∙ is))
        ])
