-- Sectors of an array have 512 bytes where those of its members do.
use Rattle.std.proofs.Common.{◌≡◌, ℕ, zero, suc, ◌+◌, ◌<◌, Bool, true, false, nat_lt, if◌then◌else◌, List, [], ◌∷◌, length, map, take, Option, Some, None, inl, inr, refl, subst, ltb-true}
use Rattle.std.specs.Option.{option_map_or}
use Rattle.std.proofs.lemmas.Option.{none-some}
use Rattle.rack.specs.Seen.{Image}
use Rattle.parity.specs.Xor.{HasLength, xor_all}
use Rattle.array_image.specs.Places.{member_slice, data_sector}
use Rattle.array_image.specs.Stripes.{Layout, Stripe, mirror, parity, at_position, first_there, given, position_in, sector_in, there, width, without}
use Rattle.array_image.specs.Arrays.{Member, Shape, column, layout_at, value_by}
use Rattle.array_image.specs.Held.{Among}
use Rattle.array_image.proofs.Settled.{among_take}
use Rattle.parity.proofs.Laws.{parity_restores}

columns_sized : (c : Image) (array sector : ℕ) (members : List Member)
    → ((m : Member) → Among m members → sector < m.reach → length (c (member_slice m.place array) (data_sector + sector)) ≡ 512)
    → HasLength 512 (there (map (column c array sector) members))
unfolding there
columns_sized c array sector [] sized = tt
columns_sized c array sector (m ∷ others) sized =
    let rest = columns_sized c array sector others (λ o among. sized o (inr among)) in
    of (nat_lt sector m.reach) refl rest
  where
    of : (b : Bool) → nat_lt sector m.reach ≡ b → HasLength 512 (there (map (column c array sector) others))
        → HasLength 512 (there ((if b then Some (c (member_slice m.place array) (data_sector + sector)) else None) ∷ map (column c array sector) others))
    of true is rest = (sized m (inl refl) (ltb-true sector m.reach is), rest)
    of false is rest = rest

-- ---- a stripe of sectors of 512 bytes

first_sized : (sectors : List (List ℕ)) → HasLength 512 sectors → length (first_there sectors) ≡ 512
first_sized [] sized = refl
first_sized (v ∷ others) sized = sized.0

at_sized : (stripe : Stripe) → HasLength 512 (there stripe) → (n : ℕ) (v : List ℕ) → at_position n stripe ≡ Some v → length v ≡ 512
unfolding there at_position
at_sized [] sized n v is = absurd (none-some v is)
at_sized (None ∷ others) sized zero v is = absurd (none-some v is)
at_sized (Some w ∷ others) sized zero v is = subst (λ (u : List ℕ). length u ≡ 512) (some_same w v is) sized.0
  where
    some_same : (a b : List ℕ) → Some a ≡ Some b → a ≡ b
    some_same a b same = cc
at_sized (None ∷ others) sized (suc n) v is = at_sized others sized n v is
at_sized (Some w ∷ others) sized (suc n) v is = at_sized others sized.1 n v is

without_sized : (stripe : Stripe) → HasLength 512 (there stripe) → (n : ℕ) → HasLength 512 (there (without n stripe))
unfolding there
without_sized [] sized zero = tt
without_sized [] sized (suc n) = tt
without_sized (None ∷ others) sized zero = sized
without_sized (Some w ∷ others) sized zero = sized.1
without_sized (None ∷ others) sized (suc n) = without_sized others sized n
without_sized (Some w ∷ others) sized (suc n) = (sized.0, without_sized others sized.1 n)

given_sized : (layout : Layout) (stripe : Stripe) (position : ℕ) → HasLength 512 (there stripe) → length (given layout stripe position) ≡ 512
unfolding given
given_sized (mirror n) stripe position sized = first_sized (there stripe) sized
given_sized (parity n) stripe position sized = of (at_position position stripe) refl
  where
    of : (o : Option (List ℕ)) → at_position position stripe ≡ o → length (option_map_or (λ v. v) o (xor_all 512 (there (without position stripe)))) ≡ 512
    of None is = parity_restores.same_length 512 (there (without position stripe)) (without_sized stripe sized position)
    of (Some v) is = at_sized stripe sized position v is

-- ---- a sector of an array

pub value_sized : (shape : Shape) (c : Image) (array x : ℕ)
    → ((m : Member) (sector : ℕ) → Among m shape.members → sector < m.reach → length (c (member_slice m.place array) (data_sector + sector)) ≡ 512)
    → length (value_by shape c array x) ≡ 512
unfolding value_by
value_sized shape c array x sized =
    let layout = layout_at shape x in
    given_sized layout (map (column c array (sector_in layout x)) (take (width layout) shape.members)) (position_in layout x)
    (columns_sized c array (sector_in layout x) (take (width layout) shape.members)
    (λ m among. sized m (sector_in layout x) (among_take (width layout) shape.members m among)))
