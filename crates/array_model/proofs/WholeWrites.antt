-- A write to a whole array past the log: at each moment every sector gives what it held, or the written one the value written.
use Rattle.std.proofs.Common.{◌≡◌, ◌⊎◌, ℕ, ◌+◌, Bool, true, false, ◌==◌, if◌then◌else◌, List, Some, refl, sym, ap, subst, inl, inr, eq-eqb}
use Rattle.std.proofs.lemmas.Bool.{both_ways}
use Rattle.std.specs.Option.{option_map_or}
use Rattle.rack.specs.Values.{Values, MayLeave, append, only}
use Rattle.rack.specs.Seen.{Image, Held}
use Rattle.rack.specs.Joins.{may_leave-append}
use Rattle.array_image.specs.Places.{member_slice, data_sector}
use Rattle.rack.specs.Targets.{Target}
use Rattle.array_image.specs.Stripes.{sector_in, position_in}
use Rattle.array_image.specs.Arrays.{Member, Shape, layout_at, value_by}
use Rattle.array_image.specs.Held.{current_in, held_of, held_by}
use Rattle.array_image.proofs.Sources.{source_of, source_value}
use Rattle.rack.specs.Sequences.{IsPayload}
use Rattle.array_model.specs.ArrayCalls.{appended_at}

-- a sector of the array with its own member gives that member's sector
pub own_value : (shape : Shape) (n y : ℕ) (c : Image) (m : Member) → source_of shape y ≡ Some m
    → value_by shape c n y ≡ c (member_slice m.place n) (data_sector + sector_in (layout_at shape y) y)
unfolding value_by
own_value shape n y c m is =
    (source_value (layout_at shape y) c n (sector_in (layout_at shape y) y) (position_in (layout_at shape y) y) shape.members m is).1

-- and holds that member's values
pub own_held : (shape : Shape) (n y : ℕ) (held : Held) (m : Member) → source_of shape y ≡ Some m → held_by shape held n y ≡ held_of held n (sector_in (layout_at shape y) y) m
unfolding held_by
own_held shape n y held m is =
    ap (λ o. option_map_or (held_of held n (sector_in (layout_at shape y) y)) o (only (value_by shape (current_in held) n y))) is

pub write_values : (shape : Shape) (n x : ℕ) (from : List ℕ) (held : Held) (vals : ℕ → Values) (xs : List Target) (c : Image)
    → ((y : ℕ) (m : Member) → source_of shape y ≡ Some m
    → MayLeave (held_of held n (sector_in (layout_at shape y) y) m) (c (member_slice m.place n) (data_sector + sector_in (layout_at shape y) y))
    ⊎ IsPayload xs (member_slice m.place n) (data_sector + sector_in (layout_at shape y) y) (c (member_slice m.place n) (data_sector + sector_in (layout_at shape y) y)))
    → ((y : ℕ) (m : Member) (v : List ℕ) → source_of shape y ≡ Some m
    → IsPayload xs (member_slice m.place n) (data_sector + sector_in (layout_at shape y) y) v → (y ≡ x) × (v ≡ from))
    → (y : ℕ) (m : Member) → source_of shape y ≡ Some m
    → ((u : List ℕ) → MayLeave (held_by shape held n y) u → MayLeave (vals y) u)
    → MayLeave (appended_at x from vals y) (value_by shape c n y)
write_values shape n x from held vals xs c mix only_x y m is within =
    let own = own_value shape n y c m is in
    let v = c (member_slice m.place n) (data_sector + sector_in (layout_at shape y) y) in
    let old : MayLeave (vals y) v → MayLeave (appended_at x from vals y) v =
    λ may. old_value (y == x) (vals y) v may in
    subst (MayLeave (appended_at x from vals y)) (sym own)
    (elim (mix y m is) [
      | inl held_v ↦ old (within v (subst (λ h. MayLeave h v) (sym (own_held shape n y held m is)) held_v))
      | inr new ↦
          let at = only_x y m v is new in
          new_value (y == x) (eq-eqb y x at.0) (vals y) v at.1
    ])
  where
    old_value : (b : Bool) (h : Values) (v : List ℕ) → MayLeave h v → MayLeave (if b then append h from else h) v
    old_value true h v may = may_leave-append h from v may
    old_value false h v may = may

    new_value : (b : Bool) → b ≡ true → (h : Values) (v : List ℕ) → v ≡ from → MayLeave (if b then append h from else h) v
    new_value true is h v same = inl same
    new_value false is h v same = absurd (both_ways false refl is)
