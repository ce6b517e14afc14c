-- From what a call adds to the log for rows, sector by sector, to the new rows.
use Rattle.std.proofs.Common.{◌≡◌, ℕ, ◌+◌, ◌-◌, ◌*◌, ◌%◌, ◌<◌, Bool, true, false, ◌==◌, if◌then◌else◌, List, map, slice_get, Option, Some, None, sym, ap, ◌∙◌, inl, inr, eq-eqb, ltb-true, ltb-false, arith}
use Rattle.std.proofs.lemmas.Bool.{cases_eq, ne_eqb}
use Rattle.std.specs.Option.{option_map_or}
use Rattle.std.specs.List.{range_with_len}
use Rattle.rack.specs.Values.{Values}
use Rattle.rack.specs.Seen.{RackView}
use Rattle.rack.specs.Targets.{Target}
use Rattle.rack.specs.Sequences.{IsPayload, OnlyReads}
use Rattle.raid_map.specs.LeftSymmetric.{parity_at}
use Rattle.parity.specs.Xor.{xor_all, zeros}
use Rattle.pool_state.specs.declared.contents.State.{State}
use Rattle.array_image.specs.Places.{member_slice, data_sector}
use Rattle.array_image.specs.Supers.{is_reshaping}
use Rattle.array_image.specs.Stripes.{sector_in}
use Rattle.array_image.specs.Arrays.{layout_at, value_by}
use Rattle.array_image.specs.Held.{current_in}
use Rattle.array_image.proofs.Frames.{value_by_data}
use Rattle.commit_log.proofs.Story.{payload_is}
use Rattle.array_model.specs.declared.Seat.{Seat}
use Rattle.array_model.specs.declared.Seat.TheVariants.{Whole, Missing, Rebuilding}
use Rattle.array_model.specs.View.{View, IsArray, may_vary, member_on, seat_reach, shape_of}
use Rattle.array_model.specs.Says.{ArrayInvariant}
use Rattle.array_model.specs.Members.{slice_on}
use Rattle.array_model.proofs.Keeping.{live_on}
use Rattle.array_model.proofs.Looking.{look_payload}
use Rattle.array_core.specs.Staging.{HasRowRebuilds}
use Rattle.reshape_laws.specs.Ahead.{AreNewRows, InRows, new_piece, next_row, row_parity, sector_on}
use Rattle.reshape_laws.specs.Rows.{ArePieces, HasPieces, IsAbsent, IsNewBytes, IsOld, OfSectors, data_sum, is_absent}
use Rattle.reshape_laws.proofs.Gathered.{parity_of_pieces}
use Rattle.reshape_laws.proofs.Old.{old_value}
use Rattle.reshape_laws.proofs.StepsOf.{IsRowTarget, reach_low}

-- what is added for so many next rows of an array
abbrev pub AreRowsOf : View → RackView → ℕ → Option ℕ → List Target → Type 0
AreRowsOf v a many absent xs = ArePieces v (OfSectors v.truth.raid_disks (next_row v * 128) (many * 128) absent) (IsNewBytes v a) xs

-- members are rebuilt by whole rows
reach_whole : (v : View) (j : ℕ) → IsArray v → HasRowRebuilds v → (member_on v j).reach % 128 ≡ 0
reach_whole v j is_array rows = by (slice_get v.seats j) (rows j)
  where
    size : v.truth.size % 128 ≡ 0
    size = is_array.whole_rows

    by : (o : Option Seat) → ((to : ℕ) → o ≡ Some (Rebuilding to) → (to % 128 ≡ 0) × (to < v.truth.size)) → option_map_or (seat_reach v.truth.size) o 0 % 128 ≡ 0
    by None rebuilding = omega arith
    by (Some Whole) rebuilding = size
    by (Some Missing) rebuilding = omega arith
    by (Some (Rebuilding to)) rebuilding = (rebuilding to refl_of).0
      where
        refl_of : Some (Rebuilding to) ≡ Some (Rebuilding to)
        refl_of = λ i. Some (Rebuilding to)

sum_is_xor : (members t : ℕ) (bytes : ℕ → List ℕ)
    → data_sum members t members bytes ≡ xor_all 512 (map (λ j. if j == parity_at members t then zeros 512 else bytes j) (range_with_len 0 members))
unfolding data_sum
sum_is_xor members t bytes = λ i. xor_all 512 (map (λ j. if j == parity_at members t then zeros 512 else bytes j) (range_with_len 0 members))

-- each is one of the rows' targets
pub row_targets : (v : View) (a : RackView) (many : ℕ) (absent : Option ℕ) (xs : List Target) → IsAbsent v (next_row v) (next_row v + many - 1) absent → AreRowsOf v a many absent xs
    → (d s : ℕ) (u : List ℕ) → IsPayload xs d s u → IsRowTarget v many d s u
row_targets v a many absent xs lacks row d s u pay =
    let at = row.on d s u pay in
    let inside = at.inside in
    let low = inside.1 in
    let counts : (next_row v + many - 1) * 128 + 127 < (member_on v at.position).reach =
    ltb-true ((next_row v + many - 1) * 128 + 127) (member_on v at.position).reach (lacks.others at.position at.low inside.3) in
    record {
      position = at.position;
      sector = at.sector;
      low = at.low;
      counts = omega (arith, low, counts);
      disk = at.disk;
      at = at.at;
      inside = (inside.0, (omega (arith, low)));
      long = at.long;
    }

module _ (v : View) (a b : RackView) (many : ℕ) (absent : Option ℕ) (xs : List Target) (is_array : IsArray v) (reshaping : is_reshaping v.truth ≡ true) (lasting : a.lasting) (reads : OnlyReads a b)
    (lacks : IsAbsent v (next_row v) (next_row v + many - 1) absent) (row : AreRowsOf v a many absent xs)
    (rows : HasRowRebuilds v) (s : State) (vals : ℕ → Values) (spent : ℕ → Bool) (holds : ArrayInvariant s (shape_of v) v vals spent a) (steady : may_vary v ≡ false) where
  -- what was read is what the array has
  piece_is : (x : ℕ) (bytes : List ℕ) → IsOld v a x bytes → bytes ≡ value_by (shape_of v) (current_in b.held) v.number x
  piece_is x bytes old =
      old_value s v vals spent a x bytes is_array reshaping (reach_low v rows) steady holds old
      ∙ value_by_data (shape_of v) (current_in a.held) (current_in b.held) v.number x
      (λ m among counts.
      sym (reads.keeps.held (member_slice m.place v.number) (data_sector + sector_in (layout_at (shape_of v) x) x)
      (live_on lasting reads.stays (holds.shape.open_slices m (sector_in (layout_at (shape_of v) x) x) among counts))).current)

  bytes_are : (t j : ℕ) (bytes : ℕ → List ℕ) → HasPieces v a t bytes → j < v.truth.raid_disks → bytes j ≡ new_piece (shape_of v) v.number (current_in b.held) v.truth.raid_disks t j
  bytes_are t j bytes pieces less =
      let q = parity_at v.truth.raid_disks t in
      elim (cases_eq j (parity_at v.truth.raid_disks t)) [
        | inl same ↦
            ap bytes same
            ∙ parity_of_pieces (shape_of v) v.number (current_in b.held) v.truth.raid_disks t bytes (bytes q)
            (λ i below other. piece_is (sector_on v.truth.raid_disks i t) (bytes i) (pieces.data_is i below other))
            (pieces.parity_is ∙ sum_is_xor v.truth.raid_disks t bytes)
            ∙ sym (ap (λ (c : Bool). if c then row_parity (shape_of v) v.number (current_in b.held) v.truth.raid_disks t else value_by (shape_of v) (current_in b.held) v.number (sector_on v.truth.raid_disks j t))
            (eq-eqb j q same))
        | inr other ↦
            piece_is (sector_on v.truth.raid_disks j t) (bytes j) (pieces.data_is j less other)
            ∙ sym (ap (λ (c : Bool). if c then row_parity (shape_of v) v.number (current_in b.held) v.truth.raid_disks t else value_by (shape_of v) (current_in b.held) v.number (sector_on v.truth.raid_disks j t))
            (ne_eqb j q other))
      ]

  -- the absent member has nothing in the rows
  there : (t j : ℕ) → InRows (next_row v) many t → j < v.truth.raid_disks → t < (member_on v j).reach → is_absent absent j ≡ false
  there t j inside low counts = by (is_absent absent j) refl_of
    where
      refl_of : is_absent absent j ≡ is_absent absent j
      refl_of = λ i. is_absent absent j

      by : (c : Bool) → is_absent absent j ≡ c → c ≡ false
      by false is = λ i. false
      by true is =
          let short = ltb-false (next_row v * 128 + 127) (member_on v j).reach (lacks.lacks j low is) in
          let whole = reach_whole v j is_array rows in
          let least = inside.0 in
          absurd (omega (arith, short, whole, least, counts))

  -- THE TARGETS ARE THE NEW ROWS
  pub new_rows_are : AreNewRows v many (current_in b.held) xs
  new_rows_are = record {
    on = λ d i u found.
        let at = row.on d i u (look_payload xs d i u found) in
        record {
          position = at.position;
          sector = at.sector;
          low = at.low;
          disk = at.disk;
          at = at.at;
          inside = (at.inside.0, (let high = at.inside.1 in omega (arith, high)));
          bytes = at.bytes.own ∙ bytes_are at.sector at.position at.bytes.bytes at.bytes.pieces at.low;
        };
    has = λ t j inside less counts.
        let at = row.has t j (inside.0, (let high = inside.1 in omega (arith, high)), less, there t j inside less counts) in
        payload_is xs (slice_on v j) (data_sector + t) at.0 row.apart at.1
        ∙ ap Some (at.2.own ∙ bytes_are t j at.2.bytes at.2.pieces less);
  }
