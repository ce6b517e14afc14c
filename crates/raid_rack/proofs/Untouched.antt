-- Calls on the slices by the tables from before, where a place has got a disk since, and what they leave of that disk.
use Rattle.std.proofs.Common.{◌≡◌, ◌≢◌, ◌⊎◌, ℕ, zero, suc, ◌+◌, ◌-◌, ◌*◌, ◌<◌, ◌≤◌, Bool, true, false, if◌then◌else◌, List, [], Some, refl, sym, ap, subst, ◌∙◌, inl, inr, unwrap_or, eq-eqb, lt-ltb, arith}
use Rattle.std.proofs.lemmas.Bool.{cases_eq, cases_lt, ne_eqb}
use Rattle.rack.specs.Values.{Keeps, MayLeave}
use Rattle.rack.specs.Seen.{Image, IsLive, RackView}
use Rattle.rack.specs.Joins.{keeps_then, live_first, live_second}
use Rattle.rack.specs.Sequences.{OnlyReads, WritesOnly}
use Rattle.gpt_table.specs.Plans.{IsOfTable}
use Rattle.slice_rack.specs.Slices.{IsOrderly, Slices, disk_of, first_of, place_of, seat_of, sectors_of}
use Rattle.slice_rack.specs.Sliced.{sliced, slices_of}
use Rattle.slice_rack.specs.Runs.{IsSliced}
use Rattle.array_image.specs.Places.{slice_of}
use Rattle.array_model.specs.View.{View}
use Rattle.raid_laws.specs.NewDrive.{SeatsDrive, first_in, first_laid, joins, length_in, sectors_laid}
use Rattle.raid_laws.proofs.Apart.{seat_is}
use Rattle.raid_rack.proofs.LayingDrive.{joins_fits, laid_member, off_table}

-- a sector of a disk is one of this slice
abbrev IsIn : Slices → (d s k : ℕ) → Type 0
IsIn t d s k = (d ≡ disk_of t k) × (first_of t k ≤ s) × (s < first_of t k + sectors_of t k)

-- of one of the first slices of a place, or of none of them
own_slice : (t : Slices) (place d s n : ℕ) → ((j : ℕ) × (j < n) × IsIn t d s (17 * place + j)) ⊎ ((j : ℕ) → j < n → IsIn t d s (17 * place + j) → ⊥)
own_slice t place d s zero = inr (λ j low is. absurd (omega (arith, low)))
own_slice t place d s (suc n) =
    elim (own_slice t place d s n) [
      | inl found ↦ let low = found.1 in inl (found.0, omega (arith, low), found.2)
      | inr none ↦ elim (here (cases_eq d (disk_of t k)) (cases_lt s (first_of t k)) (cases_lt s (first_of t k + sectors_of t k))) [
        | inl is ↦ inl (n, omega arith, is)
        | inr not_here ↦ inr (λ j low is. elim (cases_lt j n) [
          | inl early ↦ none j early is
          | inr last ↦ let same : j ≡ n = omega (arith, low, last) in not_here (subst (λ i. IsIn t d s (17 * place + i)) same is)
        ])
      ]
    ]
  where
    k : ℕ
    k = 17 * place + n

    here : (d ≡ disk_of t k) ⊎ (d ≢ disk_of t k) → (s < first_of t k) ⊎ (first_of t k ≤ s)
        → (s < first_of t k + sectors_of t k) ⊎ (first_of t k + sectors_of t k ≤ s) → IsIn t d s k ⊎ (IsIn t d s k → ⊥)
    here (inr other) low high = inr (λ is. other is.0)
    here (inl disk) (inl before) high = inr (λ is. absurd (omega (arith, before, is.1)))
    here (inl disk) (inr from) (inl within) = inl (disk, from, within)
    here (inl disk) (inr from) (inr past) = inr (λ is. absurd (omega (arith, past, is.2)))

module _ (arrays : List View) (place disk sectors : ℕ) (t u : Slices) (seats : SeatsDrive arrays place disk sectors t u) where
  -- a slice of another place is the same
  pub disk_still : (d : ℕ) → place_of d ≢ place → disk_of u d ≡ disk_of t d
  disk_still d other = ap (λ o. unwrap_or o 0) (seats.seats (place_of d) ∙ ap (λ b. if b then Some disk else seat_of t (place_of d)) (ne_eqb (place_of d) place other))

  -- the place's slices are on its disk
  pub disk_new : (d : ℕ) → place_of d ≡ place → disk_of u d ≡ disk
  disk_new d same = ap (λ o. unwrap_or o 0) (seats.seats (place_of d) ∙ ap (λ b. if b then Some disk else seat_of t (place_of d)) (eq-eqb (place_of d) place same))

  moved : (d s : ℕ) (v : List ℕ) → (is : IsSliced t d s v) → place_of is.slice ≢ place → IsSliced u d s v
  moved d s v is other = record {
    slice = is.slice;
    at = is.at;
    within = subst (λ n. is.at < n) (sym (seats.others is.slice other)) is.within;
    disk_is = is.disk_is ∙ sym (disk_still is.slice other);
    sector_is = is.sector_is ∙ ap (λ n. n + is.at) (sym (seats.firsts is.slice other));
  }

  -- Calls that write slices by the old tables, and none of these, write none by the new ones either but such as both have.
  module _ (a b : RackView) (few : place < 16) (only : WritesOnly a b (IsSliced t)) (reads : OnlyReads (slices_of t a) (slices_of t b)) where
    live_above : (d s : ℕ) (v : List ℕ) → (is : IsSliced t d s v) → is.slice < 272 → IsLive a b d s → IsLive (slices_of t a) (slices_of t b) is.slice is.at
    live_above d s v is low live = record {
      disk = low;
      sector = is.within;
      is_told = subst (λ n. a.told n) is.disk_is live.is_told;
      unspent = ap (λ n. b.spent n (first_of t is.slice + is.at)) (sym is.disk_is) ∙ ap (b.spent d) (sym is.sector_is) ∙ live.unspent;
    }

    kept_slice : (d s : ℕ) (v : List ℕ) → (is : IsSliced t d s v) → is.slice < 272 → IsLive a b d s → Keeps (a.held d s) (b.held d s)
    kept_slice d s v is low live =
        subst (λ e. Keeps (a.held e s) (b.held e s)) (sym is.disk_is)
        (subst (λ z. Keeps (a.held (disk_of t is.slice) z) (b.held (disk_of t is.slice) z)) (sym is.sector_is)
        (reads.keeps.held is.slice is.at (live_above d s v is low live)))

    picked_slice : (k : ℕ) (c : Image) (d s : ℕ) → a.traced → a.clock < k → k ≤ b.clock → b.stops k c → (is : IsSliced t d s (c d s)) → is.slice < 272 → IsLive a b d s
        → MayLeave (a.held d s) (c d s)
    picked_slice k c d s traced after upto left is low live =
        let at : MayLeave (a.held (disk_of t is.slice) (first_of t is.slice + is.at)) (sliced t c is.slice is.at) =
        (reads.keeps.stops traced).new k (sliced t c) after upto (c, left, λ e z. refl) is.slice is.at (live_above d s (c d s) is low live) in
        let shown : sliced t c is.slice is.at ≡ c (disk_of t is.slice) (first_of t is.slice + is.at) =
        ap (λ x. if x then c (disk_of t is.slice) (first_of t is.slice + is.at) else []) (lt-ltb is.at (sectors_of t is.slice) is.within) in
        subst (λ e. MayLeave (a.held e s) (c e s)) (sym is.disk_is)
        (subst (λ z. MayLeave (a.held (disk_of t is.slice) z) (c (disk_of t is.slice) z)) (sym is.sector_is)
        (subst (λ v. MayLeave (a.held (disk_of t is.slice) (first_of t is.slice + is.at)) v) shown at))

    low_slice : (k : ℕ) → place_of k ≡ place → k < 272
    low_slice k same = omega (arith, same, few)

    pub only_moved : WritesOnly a b (IsSliced u)
    only_moved = record {
      stays = only.stays;
      others = λ d s live never. elim (own_slice t place d s 17) [
        | inl found ↦
            let is = found.2 in
            let low = found.1 in
            let k = 17 * place + found.0 in
            let at : IsSliced t d s [] = record { slice = k; at = s - first_of t k; within = omega (arith, is.1, is.2); disk_is = is.0; sector_is = omega (arith, is.1) } in
            kept_slice d s [] at (let e : k < 272 = omega (arith, low, few) in e) live
        | inr none ↦
            only.others d s live (λ v at. elim (cases_eq (place_of at.slice) place) [
              | inl same ↦
                  let e : 17 * place + (at.slice - 17 * place) ≡ at.slice = omega (arith, same) in
                  none (at.slice - 17 * place) (omega (arith, same))
                  (subst (IsIn t d s) (sym e) (at.disk_is, omega (arith, at.sector_is), omega (arith, at.sector_is, at.within)))
              | inr other ↦ never v (moved d s v at other)
            ])
      ];
      within = λ d s v live left. elim (only.within d s v live left) [
        | inl old ↦ inl old
        | inr at ↦ elim (cases_eq (place_of at.slice) place) [
          | inl same ↦ inl ((kept_slice d s v at (low_slice at.slice same) live).within v left)
          | inr other ↦ inr (moved d s v at other)
        ]
      ];
      stops = λ traced. record {
        later = (only.stops traced).later;
        kept = (only.stops traced).kept;
        past = (only.stops traced).past;
        new = λ k c after upto left d s live. elim ((only.stops traced).new k c after upto left d s live) [
          | inl old ↦ inl old
          | inr at ↦ elim (cases_eq (place_of at.slice) place) [
            | inl same ↦ inl (picked_slice k c d s traced after upto left at (low_slice at.slice same) live)
            | inr other ↦ inr (moved d s (c d s) at other)
          ]
        ];
      };
    }

  -- ---- the new disk

  -- by the new tables its slices lie off its tables
  pub off_slices : IsOrderly u → 10273 ≤ sectors → (s : ℕ) (v : List ℕ) → IsOfTable sectors s → IsSliced u disk s v → ⊥
  off_slices orderly room s v table at =
      let k = at.slice in
      let there : seat_of u (place_of k) ≡ Some disk = seat_is u k at.at orderly at.within ∙ ap Some (sym at.disk_is) in
      let here : seat_of u place ≡ Some disk = seats.seats place ∙ ap (λ b. if b then Some disk else seat_of t place) (eq-eqb place place refl) in
      let on : place_of k ≡ place = orderly.one_place (place_of k) place disk there here in
      let within = at.within in
      let long = seats.own k on in
      let begins = seats.own_firsts k on (omega (arith, within)) in
      off_laid (slice_of k) (omega (arith, within, long)) (omega (arith, begins, at.sector_is))
    where
      off_member : (j : ℕ) (b : Bool) → joins arrays place sectors j ≡ b → at.at < (if b then length_in arrays j else 0) → s ≡ first_in arrays j + at.at → ⊥
      off_member j false is inside at_is = absurd (omega (arith, inside))
      off_member j true is inside at_is =
          let fits = (joins_fits arrays place sectors j is).1 in
          let least : 10240 ≤ first_in arrays j = omega arith in
          off_table sectors s (omega (arith, at_is, least)) (omega (arith, at_is, inside, fits)) table

      off_laid : (j : ℕ) → at.at < sectors_laid arrays place sectors j → s ≡ first_laid arrays j + at.at → ⊥
      off_laid zero inside is = off_table sectors s (omega (arith, is)) (omega (arith, is, inside, room)) table
      off_laid (suc j) inside is =
          let laid = laid_member arrays place sectors j in
          let e : j + 1 ≡ suc j = omega arith in
          let size = ap (sectors_laid arrays place sectors) (sym e) ∙ laid.0 in
          let first = ap (first_laid arrays) (sym e) ∙ laid.1 in
          off_member j (joins arrays place sectors j) refl (omega (arith, inside, size)) (omega (arith, is, first))

  -- so calls on the slices, by the old tables and then by the new ones, leave its tables alone
  pub tables_kept : (m y b : RackView) → IsOrderly t → IsOrderly u → 10273 ≤ sectors → ((p : ℕ) → seat_of t p ≢ Some disk)
      → WritesOnly m y (IsSliced t) → WritesOnly y b (IsSliced u) → (s : ℕ) → IsOfTable sectors s → IsLive m b disk s → Keeps (m.held disk s) (b.held disk s)
  tables_kept m y b orderly orderly_now room free one two s table live =
      keeps_then (m.held disk s) (y.held disk s) (b.held disk s)
      (one.others disk s (live_first two.stays live) (λ v at. free (place_of at.slice) (seat_is t at.slice at.at orderly at.within ∙ ap Some (sym at.disk_is))))
      (two.others disk s (live_second one.stays live) (λ v at. off_slices orderly_now room s v table at))
