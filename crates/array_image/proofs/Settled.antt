-- Once the members that count are synced, their stripes have one value.
use Rattle.std.proofs.Common.{◌≡◌, ℕ, zero, suc, ◌+◌, ◌<◌, Bool, true, false, nat_lt, if◌then◌else◌, List, [], ◌∷◌, map, take, Some, None, refl, ap, ap₂, inl, inr, ltb-true}
use Rattle.rack.specs.Values.{MayLeave, IsSingle}
use Rattle.rack.specs.Seen.{Image, Held}
use Rattle.array_image.specs.Places.{member_slice, data_sector}
use Rattle.array_image.specs.Stripes.{width, position_in, sector_in, given}
use Rattle.array_image.specs.Arrays.{Member, Shape, column, layout_at, value_by}
use Rattle.array_image.specs.Held.{Among, current_in, held_of, PicksData, IsSynced}

-- a member's column, where it has one value
one_column : (held : Held) (c : Image) (array sector : ℕ) (m : Member)
    → (sector < m.reach → IsSingle (held_of held array sector m))
    → (sector < m.reach → MayLeave (held_of held array sector m) (c (member_slice m.place array) (data_sector + sector)))
    → column c array sector m ≡ column (current_in held) array sector m
one_column held c array sector m single pick =
    let Same : Bool → Type 0 = λ b. nat_lt sector m.reach ≡ b → (if b then Some (c (member_slice m.place array) (data_sector + sector)) else None) ≡ (if b then Some (current_in held (member_slice m.place array) (data_sector + sector)) else None) in
    let same : Same (nat_lt sector m.reach) =
    elim (nat_lt sector m.reach) as Same [
      | true ↦ λ counts. ap Some (single (ltb-true sector m.reach counts) _ (pick (ltb-true sector m.reach counts)))
      | false ↦ λ none. refl
    ] in
    same refl

pub among_take : (n : ℕ) (members : List Member) (m : Member) → Among m (take n members) → Among m members
among_take zero members m among = absurd among
among_take (suc n) [] m among = absurd among
among_take (suc n) (first ∷ others) m (inl here) = inl here
among_take (suc n) (first ∷ others) m (inr later) = inr (among_take n others m later)

-- those of a list of members
pub same_columns : (held : Held) (c : Image) (array sector : ℕ) (members : List Member)
    → ((m : Member) → Among m members → sector < m.reach → IsSingle (held_of held array sector m))
    → ((m : Member) → Among m members → sector < m.reach → MayLeave (held_of held array sector m) (c (member_slice m.place array) (data_sector + sector)))
    → map (column c array sector) members ≡ map (column (current_in held) array sector) members
same_columns held c array sector [] single pick = refl
same_columns held c array sector (m ∷ others) single pick =
    ap₂ (λ v vs. v ∷ vs)
    (one_column held c array sector m (single m (inl refl)) (pick m (inl refl)))
    (same_columns held c array sector others (λ o among. single o (inr among)) (λ o among. pick o (inr among)))

-- whatever a stop leaves of settled members gives the current value of each sector of the array, by any layout and whoever is missing
pub settled_value : (shape : Shape) (array : ℕ) (held : Held) (c : Image)
    → IsSynced shape array held
    → PicksData shape array held c
    → (x : ℕ)
    → value_by shape c array x ≡ value_by shape (current_in held) array x
unfolding value_by
settled_value shape array held c settled picks x =
    let layout = layout_at shape x in
    ap (λ stripe. given layout stripe (position_in layout x))
    (same_columns held c array (sector_in layout x) (take (width layout) shape.members)
    (λ m among counts. settled m (sector_in layout x) (among_take (width layout) shape.members m among) counts)
    (λ m among counts. picks m (sector_in layout x) (among_take (width layout) shape.members m among) counts))
