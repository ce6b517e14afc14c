-- What an array holds past the end of its members' data, for a step that brings sectors into it: zeros.
use Rattle.std.proofs.Common.{◌≡◌, ℕ, ◌≤◌, Bool, true, false, not, nat_lt, if◌then◌else◌, List, refl, ap, subst, ◌∙◌, inl, inr, ltb-false, arith}
use Rattle.std.proofs.lemmas.Bool.{both_ways}
use Rattle.std.specs.Option.{option_map_or}
use Rattle.rack.specs.Values.{Values, MayLeave, only}
use Rattle.rack.specs.Seen.{Image, Held, RackView}
use Rattle.parity.specs.Xor.{zeros}
use Rattle.pool_state.specs.declared.contents.State.{State}
use Rattle.array_image.specs.Stripes.{position_in, sector_in}
use Rattle.array_image.specs.Arrays.{Member, Shape, layout_at, value_by}
use Rattle.array_image.specs.Held.{Among, current_in, held_by, held_of}
use Rattle.array_model.specs.View.{View, shape_of}
use Rattle.array_model.specs.Says.{ArrayInvariant}
use Rattle.reshape_laws.specs.Reshapes.{past_end}
use Rattle.reshape_laws.proofs.PastEnd.{NoneCounts, none_source, none_value}

-- without a source a sector holds the value that the members give now
held_past : (f : Shape) (held : Held) (n y : ℕ) → NoneCounts (sector_in (layout_at f y) y) f.members → held_by f held n y ≡ only (value_by f (current_in held) n y)
unfolding held_by
held_past f held n y none =
    ap (λ o. option_map_or (held_of held n (sector_in (layout_at f y) y)) o (only (value_by f (current_in held) n y)))
    (none_source (layout_at f y) (sector_in (layout_at f y) y) (position_in (layout_at f y) y) f.members none)

not_false : (b : Bool) → not b ≡ true → b ≡ false
not_false false is = refl
not_false true is = absurd (both_ways false refl is)

module _ (v : View) (low : (m : Member) → Among m (shape_of v).members → m.reach ≤ v.truth.size) where
  nobody : (y : ℕ) → past_end v y ≡ true → NoneCounts (sector_in (layout_at (shape_of v) y) y) (shape_of v).members
  nobody y is m among =
      let reach = low m among in
      let past = ltb-false (sector_in (layout_at (shape_of v) y) y) v.truth.size (not_false (nat_lt (sector_in (layout_at (shape_of v) y) y) v.truth.size) is) in
      omega (arith, reach, past)

  pub zeros_past : (c : Image) (y : ℕ) → past_end v y ≡ true → value_by (shape_of v) c v.number y ≡ zeros 512
  zeros_past c y is = none_value (shape_of v) c v.number y (nobody y is)

  -- so a map of the sectors that are spent may leave out those past the end, which hold zeros
  pub holds_past_end : (s : State) (vals : ℕ → Values) (spent more : ℕ → Bool) (x : RackView) → ((y : ℕ) → past_end v y ≡ false → more y ≡ false → spent y ≡ false)
      → ArrayInvariant s (shape_of v) v vals spent x → ArrayInvariant s (shape_of v) v (λ y. if past_end v y then only (zeros 512) else vals y) more x
  holds_past_end s vals spent more x fewer holds =
      let shape = holds.shape in
      record {
        shape = record {
          open_slices = shape.open_slices;
          open_left = shape.open_left;
          says = λ r left.
              let says = shape.says r left in
              record { shape_is = says.shape_is; value = λ y alive. value_at r y (says.value y) alive (past_end v y) refl; is_sound = says.is_sound };
          still = shape.still;
          within = λ y alive u leaves source. within_at y u leaves (λ here. shape.within y here u leaves source) alive (past_end v y) refl;
          current = λ y alive. current_at y (shape.current y) alive (past_end v y) refl;
          sized = shape.sized;
          even = shape.even;
          settled = shape.settled;
        };
        mark = holds.mark;
        alone = holds.alone;
        closed = holds.closed;
        truth = holds.truth;
      }
    where
      value_at : (r : Image) (y : ℕ) → (spent y ≡ false → MayLeave (vals y) (value_by (shape_of v) r v.number y)) → more y ≡ false
          → (b : Bool) → past_end v y ≡ b → MayLeave (if b then only (zeros 512) else vals y) (value_by (shape_of v) r v.number y)
      value_at r y here alive true is = inl (zeros_past r y is)
      value_at r y here alive false is = here (fewer y is alive)

      within_at : (y : ℕ) (u : List ℕ) → MayLeave (held_by (shape_of v) x.held v.number y) u → (spent y ≡ false → MayLeave (vals y) u) → more y ≡ false
          → (b : Bool) → past_end v y ≡ b → MayLeave (if b then only (zeros 512) else vals y) u
      within_at y u leaves here alive true is =
          elim (subst (λ (h : Values). MayLeave h u) (held_past (shape_of v) x.held v.number y (nobody y is)) leaves) [
            | inl now ↦ inl (now ∙ zeros_past (current_in x.held) y is)
            | inr older ↦ absurd older
          ]
      within_at y u leaves here alive false is = here (fewer y is alive)

      current_at : (y : ℕ) → (spent y ≡ false → value_by (shape_of v) (current_in x.held) v.number y ≡ (vals y).current) → more y ≡ false
          → (b : Bool) → past_end v y ≡ b → value_by (shape_of v) (current_in x.held) v.number y ≡ (if b then only (zeros 512) else vals y).current
      current_at y here alive true is = zeros_past (current_in x.held) y is
      current_at y here alive false is = here (fewer y is alive)
