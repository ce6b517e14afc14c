-- A sector that isn't spent has its own member, or its array's members have one value a sector.
use Rattle.std.proofs.Common.{◌≡◌, ℕ, suc, ◌≤◌, Bool, true, false, ◌||◌, nat_lt, nat_le, if◌then◌else◌, List, [], ◌∷◌, take, length, Some, None, refl, sym, ap, subst, ◌∙◌, inl, inr, arith}
use Rattle.std.proofs.lemmas.Bool.{cases_Bool, and_parts}
use Rattle.rack.specs.Seen.{RackView}
use Rattle.md_super.specs.Profile.{is_mirror}
use Rattle.array_image.specs.Stripes.{Layout, mirror, width, position_in, sector_in}
use Rattle.array_image.specs.Supers.{is_reshaping}
use Rattle.array_image.specs.Arrays.{Member, Shape, layout_at}
use Rattle.array_image.specs.Held.{IsSynced, first_counting, source_in}
use Rattle.array_image.specs.Spent.{wanting, spent_by}
use Rattle.array_image.proofs.Sources.{source_of}
use Rattle.array_model.specs.View.{View, IsArray, is_alone, is_whole_array, may_vary, present, shape_of, spent_in}
use Rattle.array_model.specs.ArrayCalls.{IncludesSpent}
use Rattle.array_model.proofs.Layouts.{final_by, layout_by}
use Rattle.array_model.proofs.Noting.{laid_out}
use Rattle.array_model.proofs.RowWrites.{whole_shape}
use Rattle.array_model.proofs.Spared.{at_most_one, wanting_take}
use Rattle.array_model.proofs.Whole.{unspent_inside, whole_source}
use Rattle.raid_laws.proofs.Changed.{lowered_none}
use Rattle.raid_laws.proofs.Told.{IsSourced}

none_counting : (sector : ℕ) (ms : List Member) → first_counting sector ms ≡ None → wanting sector ms ≡ length ms
unfolding first_counting
none_counting sector [] none = refl
none_counting sector (m ∷ ms) none =
    let Goal : Bool → Type 0 = λ b. (if b then Some m else first_counting sector ms) ≡ None → (if b then wanting sector ms else suc (wanting sector ms)) ≡ suc (length ms) in
    let goal : Goal (nat_lt sector m.reach) = elim (nat_lt sector m.reach) as Goal [
      | true ↦ λ is. absurd (let bad : Some m ≡ None = is in cc)
      | false ↦ λ is. ap suc (none_counting sector ms is)
    ] in
    goal none

mirror_counting : (layout : Layout) (n sector position : ℕ) (ms : List Member) → layout ≡ mirror n → source_in layout sector position ms ≡ None
    → wanting sector (take (width layout) ms) ≡ length (take (width layout) ms)
mirror_counting layout n sector position ms is =
    subst (λ l. source_in l sector position ms ≡ None → wanting sector (take (width l) ms) ≡ length (take (width l) ms)) (sym is) (none_counting sector (take n ms))

mirror_layout : (v : View) (y : ℕ) → IsArray v → is_mirror v.truth ≡ true → layout_at (shape_of v) y ≡ mirror v.truth.raid_disks
mirror_layout v y is_array is =
    layout_by v y false (nat_lt y v.truth.reshape_position) plain refl ∙ final_by v true is
  where
    plain : is_reshaping v.truth ≡ false
    plain = elim (cases_Bool (is_reshaping v.truth)) [
      | inl reshaping ↦
          let three = (is_array.reshape reshaping).1 in
          let two : v.truth.raid_disks ≤ 2 = subst (λ (b : Bool). v.truth.raid_disks ≤ (if b then 2 else 16)) is is_array.most in
          absurd (omega (arith, three, two))
      | inr not ↦ not
    ]

-- a mirror's sector that isn't spent is some member's
mirror_sourced : (v : View) (y : ℕ) → IsArray v → is_mirror v.truth ≡ true → spent_in v y ≡ false → source_of (shape_of v) y ≡ None → ⊥
mirror_sourced v y is_array is alive none =
    let shape = shape_of v in
    let layout = layout_at shape y in
    let sector = sector_in layout y in
    let all = mirror_counting layout v.truth.raid_disks sector (position_in layout y) shape.members (mirror_layout v y is_array is) none in
    let two = (laid_out v is_array).two y in
    let few = at_most_one (wanting sector shape.members) _ alive in
    let less = wanting_take (width layout) sector shape.members in
    omega (arith, all, two, few, less)

-- so is each one of a whole array
whole_sourced : (v : View) (y : ℕ) → IsArray v → is_whole_array v ≡ true → spent_in v y ≡ false → source_of (shape_of v) y ≡ None → ⊥
whole_sourced v y is_array is alive none =
    let shape = shape_of v in
    let laid = laid_out v is_array in
    let whole = whole_shape v is_array is in
    let inside = unspent_inside (λ p. false) shape v.resync y laid whole (ap (λ (s : Shape). spent_by s v.resync y) (lowered_none shape) ∙ alive) in
    let some = whole_source shape v.resync y laid whole inside in
    let bad : Some some.0 ≡ None = sym some.1 ∙ none in
    cc

pub sourced : (v : View) (spent : ℕ → Bool) (x : RackView) → IsArray v → (v.marked ≡ true → is_whole_array v ≡ true) → IncludesSpent v spent
    → (may_vary v ≡ false → IsSynced (shape_of v) v.number x.held) → IsSourced v spent x
sourced v spent x is_array whole covers settled y alive none =
    elim (cases_Bool v.marked) [
      | inl marked ↦ absurd (whole_sourced v y is_array (whole marked) (covers y alive) none)
      | inr not ↦
          elim (cases_Bool (is_alone v)) [
            | inl alone ↦ absurd (mirror_sourced v y is_array (and_parts (is_mirror v.truth) (nat_le (present v.seats) 1) alone).0 (covers y alive) none)
            | inr others ↦ settled (ap (λ b. b || is_alone v) not ∙ others)
          ]
    ]
