-- The sectors of a young array's next rows, which it gets once they are zeroed.
use Rattle.std.proofs.Common.{◌≡◌, ℕ, ◌+◌, ◌-◌, ◌<◌, Bool, true, false, ◌&&◌, ◌||◌, not, nat_lt, if◌then◌else◌, refl, sym, ap, ap₂, ◌∙◌, inl, inr, le-ltb, lt-ltb, ltb-true, arith}
use Rattle.std.proofs.lemmas.Bool.{and_parts, both_ways, cases_lt}
use Rattle.raid_map.specs.LeftSymmetric.{row_at}
use Rattle.array_image.specs.Arrays.{final_layout, first_layout, layout_at}
use Rattle.array_image.specs.SoundArray.{first_unsynced}
use Rattle.array_image.specs.Stripes.{parity, sector_in}
use Rattle.array_image.specs.Supers.{is_reshaping}
use Rattle.array_model.specs.View.{IsArray, sectors_of, shape_of, View}
use Rattle.array_model.proofs.Layouts.{layout_by}
use Rattle.array_core.proofs.Truths.{unsynced_few}
use Rattle.sync_laws.specs.Steps.{IsOfNext, row_in, zeroed, zeroing}
use Rattle.sync_laws.proofs.Views.{IsUnsynced, next_unsynced}
use Rattle.sync_laws.proofs.ZeroStaged.{IsYoung}
use Rattle.transition_laws.specs.Holds.{has_sector, moved_to}

pub zeroing_shape : (u : View) → shape_of (zeroing u) ≡ shape_of u
unfolding shape_of
zeroing_shape u = refl

pub zeroed_shape : (u : View) (rows : ℕ) → shape_of (zeroed u rows) ≡ shape_of u
unfolding shape_of
zeroed_shape u rows = refl

zeroing_array : (u : View) → IsArray u → IsArray (zeroing u)
zeroing_array u is = record {
  few = is.few;
  level = is.level;
  least = is.least;
  most = is.most;
  seats = is.seats;
  devices = is.devices;
  small = is.small;
  whole_rows = is.whole_rows;
  placed = is.placed;
  synced = unsynced_few u.truth;
  reshape = is.reshape;
}

module _ (u : View) (rows : ℕ) (is : IsYoung u rows) where
  unsynced : IsUnsynced (zeroing u) rows
  unsynced = record { is_array = zeroing_array u is.is_array; grown = refl; some = is.some; rows_left = is.rows_left; unsynced = omega arith }

  -- so many rows more are zeroed then
  pub zeroed_first : first_unsynced (zeroed u rows).truth ≡ first_unsynced u.truth + rows
  zeroed_first = next_unsynced (zeroing u) rows unsynced

  module _ (still : is_reshaping u.truth ≡ false) where
    first : (y : ℕ) → layout_at (shape_of (zeroing u)) y ≡ first_layout u.truth
    first y =
        layout_by (zeroing u) y false (nat_lt y u.truth.reshape_position) still refl
        ∙ sym (ap (λ (b : Bool). if b then parity (u.truth.raid_disks - 1) else final_layout u.truth) still)

    row_is : (y : ℕ) → row_in (zeroing u) y ≡ row_at (sector_in (first_layout u.truth) y)
    row_is y = ap (λ l. row_at (sector_in l y)) (first y)

    unmoved : (y : ℕ) → (nat_lt y (sectors_of u) || nat_lt y (moved_to u.truth)) ≡ nat_lt y (sectors_of u)
    unmoved y =
        ap₂ (λ a b. a || b) refl (ap (λ (b : Bool). nat_lt y (if b then u.truth.reshape_position else 0)) still ∙ le-ltb y 0 (omega arith))
        ∙ or_false (nat_lt y (sectors_of u))
      where
        or_false : (b : Bool) → (b || false) ≡ b
        or_false true = refl
        or_false false = refl

    -- a sector that the array gets is one of the next rows
    pub gets_next : (y : ℕ) → has_sector (zeroed u rows) y ≡ true → has_sector u y ≡ false → (y < sectors_of u) × IsOfNext u rows y
    gets_next y has lacks =
        let row = row_at (sector_in (first_layout u.truth) y) in
        let inside = nat_lt y (sectors_of u) || nat_lt y (moved_to u.truth) in
        let now = and_parts inside (not u.young || nat_lt row (first_unsynced (zeroed u rows).truth)) has in
        let low : y < sectors_of u = ltb-true y (sectors_of u) (sym (unmoved y) ∙ now.0) in
        let below : row < first_unsynced (zeroed u rows).truth =
        ltb-true row (first_unsynced (zeroed u rows).truth) (sym (ap (λ b. not b || nat_lt row (first_unsynced (zeroed u rows).truth)) is.young) ∙ now.1) in
        let same = row_is y in
        let more = zeroed_first in
        elim (cases_lt row (first_unsynced u.truth)) [
          | inl early ↦
              absurd (both_ways (has_sector u y) lacks (ap₂ (λ a b. a && (not u.young || b)) now.0 (lt-ltb row (first_unsynced u.truth) early) ∙ any (not u.young)))
          | inr late ↦ (low, (omega (arith, same, late), omega (arith, same, below, more)))
        ]
      where
        any : (b : Bool) → (true && (b || true)) ≡ true
        any true = refl
        any false = refl
