-- What an array in a reshape holds past its end: zeros, as far as rows aren't moved. So it holds the sectors that come with the next row.
use Rattle.transition_laws.proofs.ArraysFor.{grown_for}
use Rattle.std.proofs.Common.{◌≡◌, ◌⊎◌, ℕ, ◌-◌, ◌*◌, ◌<◌, ◌≤◌, Bool, true, false, ◌&&◌, not, nat_lt, if◌then◌else◌, List, refl, sym, ap, ap₂, subst, ◌∙◌, inl, inr, le-ltb, ltb-false, arith, ◌||◌}
use Rattle.std.specs.Option.{option_map_or}
use Rattle.std.proofs.lemmas.Bool.{cases_Bool}
use Rattle.rack.specs.Values.{MayLeave, only, Values}
use Rattle.rack.specs.Seen.{RackView}
use Rattle.pool_state.specs.declared.contents.State.{State}
use Rattle.md_super.specs.Profile.{is_mirror}
use Rattle.raid_map.specs.LeftSymmetric.{IsMemberCount}
use Rattle.parity.specs.Xor.{zeros}
use Rattle.array_image.specs.Arrays.{final_layout, first_layout, layout_at, Member, value_by}
use Rattle.array_image.specs.Held.{Among, current_in, held_by, held_of}
use Rattle.array_image.specs.Stripes.{capacity, Layout, parity, position_in, sector_in}
use Rattle.array_image.specs.Supers.{is_reshaping}
use Rattle.array_model.specs.Says.{ArrayInvariant}
use Rattle.array_model.specs.View.{IsArray, sectors_of, shape_of, View}
use Rattle.reshape_laws.specs.Ahead.{ahead_by}
use Rattle.reshape_laws.proofs.Addresses.{old_count}
use Rattle.reshape_laws.proofs.PastEnd.{NoneCounts, none_source, none_value, past_sector}
use Rattle.raid_laws.specs.Raid.{Raid}
use Rattle.raid_laws.proofs.Over.{or_parts}
use Rattle.transition_laws.specs.Holds.{has_sector, moved_to, Promise, spent_at, Stands}
use Rattle.transition_laws.proofs.ReshapeSectors.{steady}
use Rattle.transition_laws.proofs.Standing.{holds_grown}
use Rattle.transition_laws.proofs.StepMakes.{unspent_parts}

module _ (v : View) (is_array : IsArray v) (reshaping : is_reshaping v.truth ≡ true) (low : (m : Member) → Among m (shape_of v).members → m.reach ≤ v.truth.size) where
  -- a sector past its end that isn't moved
  abbrev pub IsPast : ℕ → Type 0
  IsPast y = (v.truth.reshape_position ≤ y) × (sectors_of v ≤ y)

  count : IsMemberCount (v.truth.raid_disks - 1)
  count = by (is_mirror v.truth) is_array.most (is_array.reshape reshaping).1
    where
      by : (b : Bool) → v.truth.raid_disks ≤ (if b then 2 else 16) → 3 ≤ v.truth.raid_disks → IsMemberCount (v.truth.raid_disks - 1)
      by true few many = absurd (omega (arith, few, many))
      by false few many = old_count v.truth.raid_disks many few

  layout : (y : ℕ) → IsPast y → layout_at (shape_of v) y ≡ parity (v.truth.raid_disks - 1)
  unfolding shape_of
  layout y past =
      ap (λ (b : Bool). if nat_lt y (if b then v.truth.reshape_position else 0) then final_layout v.truth else first_layout v.truth) reshaping
      ∙ ap (λ (b : Bool). if b then final_layout v.truth else first_layout v.truth) (le-ltb y v.truth.reshape_position past.0)
      ∙ ap (λ (b : Bool). if b then parity (v.truth.raid_disks - 1) else final_layout v.truth) reshaping

  none : (y : ℕ) → IsPast y → NoneCounts (sector_in (layout_at (shape_of v) y) y) (shape_of v).members
  none y past m among =
      let size : sectors_of v ≡ (v.truth.raid_disks - 1 - 1) * v.truth.size = ap (λ (b : Bool). capacity (if b then parity (v.truth.raid_disks - 1) else final_layout v.truth) v.truth.size) reshaping in
      let far = past_sector (v.truth.raid_disks - 1) v.truth.size y count is_array.whole_rows (subst (λ e. e ≤ y) size past.1) in
      let at : v.truth.size ≤ sector_in (layout_at (shape_of v) y) y = subst (λ (l : Layout). v.truth.size ≤ sector_in l y) (sym (layout y past)) far in
      let reach = low m among in
      omega (arith, reach, at)

  held_past : (x : RackView) (y : ℕ) → IsPast y → held_by (shape_of v) x.held v.number y ≡ only (zeros 512)
  unfolding held_by
  held_past x y past =
      let l : Layout = layout_at (shape_of v) y in
      let t : ℕ = sector_in (layout_at (shape_of v) y) y in
      ap (λ o. option_map_or (held_of x.held v.number t) o (only (value_by (shape_of v) (current_in x.held) v.number y)))
      (none_source l t (position_in l y) (shape_of v).members (none y past))
      ∙ ap only (none_value (shape_of v) (current_in x.held) v.number y (none y past))

  -- the same with sectors past its end that are zeros
  pub holds_past : (s : State) (vals : ℕ → Values) (spent less : ℕ → Bool) (x : RackView)
      → ((y : ℕ) → less y ≡ false → (spent y ≡ false) ⊎ (IsPast y × ((vals y).current ≡ zeros 512))) → ArrayInvariant s (shape_of v) v vals spent x → ArrayInvariant s (shape_of v) v vals less x
  holds_past s vals spent less x past holds =
      let shape = holds.shape in
      record {
        shape = record {
          open_slices = shape.open_slices;
          open_left = shape.open_left;
          says = λ r left.
              let says = shape.says r left in
              record {
                shape_is = says.shape_is;
                value = λ y alive. elim (past y alive) [
                  | inl was ↦ says.value y was
                  | inr new ↦ inl (none_value (shape_of v) r v.number y (none y new.0) ∙ sym new.1)
                ];
                is_sound = says.is_sound;
              };
          still = shape.still;
          within = λ y alive u may source. elim (past y alive) [
            | inl was ↦ shape.within y was u may source
            | inr new ↦ inl (single u (subst (λ h. MayLeave h u) (held_past x y new.0) may) ∙ sym new.1)
          ];
          current = λ y alive. elim (past y alive) [
            | inl was ↦ shape.current y was
            | inr new ↦ none_value (shape_of v) (current_in x.held) v.number y (none y new.0) ∙ sym new.1
          ];
          sized = shape.sized;
          even = shape.even;
          settled = shape.settled;
        };
        mark = holds.mark;
        alone = holds.alone;
        closed = holds.closed;
        truth = holds.truth;
      }
    where
      single : (u : List ℕ) → MayLeave (only (zeros 512)) u → u ≡ zeros 512
      single u (inl is) = is
      single u (inr older) = elim older [ ]

-- Array m of a run, in a reshape, holds what is promised once its next rows are moved, where zeros stand past its end.
pub ahead_holds : (v : Raid) (m many events : ℕ) (p : Promise) (vals : ℕ → ℕ → Values) (a : RackView) → Stands v v p vals a → p.live m ≡ true → m < v.state.made
    → IsArray (v.arrays m) → is_reshaping (v.arrays m).truth ≡ true → (v.arrays m).young ≡ false
    → ((k : Member) → Among k (shape_of (v.arrays m)).members → k.reach ≤ (v.arrays m).truth.size)
    → ((y : ℕ) → sectors_of (v.arrays m) ≤ y → (vals m y).current ≡ zeros 512)
    → ArrayInvariant v.state (shape_of (v.arrays m)) (v.arrays m) (vals m) (spent_at p m (ahead_by (v.arrays m) many events)) a
ahead_holds v m many events p vals a stands live low is_array reshaping young reach zeroed =
    holds_past (v.arrays m) is_array reshaping reach v.state (vals m) (spent_at p m (v.arrays m)) (spent_at p m (ahead_by (v.arrays m) many events)) a
    (λ y alive. of y (unspent_parts p.growing (has_sector (ahead_by (v.arrays m) many events) y) (p.spent m y) alive)) (holds_grown v v p vals a stands m live low (grown_for p (v.arrays m) young))
  where
    moved : moved_to (v.arrays m).truth ≡ (v.arrays m).truth.reshape_position
    moved = ap (λ (b : Bool). if b then (v.arrays m).truth.reshape_position else 0) reshaping

    past : (y : ℕ) → has_sector (v.arrays m) y ≡ false → ((v.arrays m).truth.reshape_position ≤ y) × (sectors_of (v.arrays m) ≤ y)
    past y none =
        let parts =
        or_parts (nat_lt y (sectors_of (v.arrays m))) (nat_lt y (v.arrays m).truth.reshape_position)
        (sym (steady (v.arrays m) (sectors_of (v.arrays m)) (v.arrays m).truth.reshape_position young refl moved y) ∙ none) in
        (ltb-false y (v.arrays m).truth.reshape_position parts.1, ltb-false y (sectors_of (v.arrays m)) parts.0)

    of : (y : ℕ) → ((p.growing ≡ true) × (has_sector (ahead_by (v.arrays m) many events) y ≡ true) × (p.spent m y ≡ false)) ⊎ ((p.growing ≡ false) × (p.spent m y ≡ false))
        → (spent_at p m (v.arrays m) y ≡ false)
        ⊎ ((((v.arrays m).truth.reshape_position ≤ y) × (sectors_of (v.arrays m) ≤ y)) × ((vals m y).current ≡ zeros 512))
    of y (inr all) = inl (ap (λ g. (g && not (has_sector (v.arrays m) y)) || p.spent m y) all.0 ∙ all.1)
    of y (inl growing) = elim (cases_Bool (has_sector (v.arrays m) y)) [
      | inl has ↦ inl (ap₂ (λ g h. (g && not h) || p.spent m y) growing.0 has ∙ growing.2)
      | inr none ↦ let at = past y none in inr (at, zeroed y at.1)
    ]
