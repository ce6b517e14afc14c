-- The values of an array's sectors, by the values of its members' sectors.
use Rattle.std.proofs.Common.{◌≡◌, ℕ, zero, suc, ◌+◌, ◌<◌, Bool, true, false, nat_lt, if◌then◌else◌, List, [], ◌∷◌, map, take, Option, Some, None, refl, sym, ap, subst, inl, inr, ltb-true, is_some}
use Rattle.std.proofs.lemmas.Bool.{both_ways}
use Rattle.std.specs.Option.{option_map_or}
use Rattle.rack.specs.Values.{MayLeave, IsSingle, only}
use Rattle.rack.specs.Seen.{Image, Held}
use Rattle.parity.specs.Xor.{xor_all}
use Rattle.array_image.specs.Places.{member_slice, data_sector}
use Rattle.array_image.specs.Stripes.{Layout, mirror, parity, width, position_in, sector_in, there, at_position, without, first_there, given}
use Rattle.array_image.specs.Arrays.{Member, Shape, column, layout_at, value_by}
use Rattle.array_image.specs.Held.{Among, current_in, held_of, PicksData, IsSynced, first_counting, member_at, source_in, held_by}
use Rattle.array_image.proofs.Settled.{settled_value, among_take}

-- a member of a list, which counts at a sector
pub record Counts (sector : ℕ) (members : List Member) (m : Member) : Type 0 where
  pub among : Among m members
  pub counts : sector < m.reach

counts_later : {sector : ℕ} {first : Member} {others : List Member} {m : Member} → Counts sector others m → Counts sector (first ∷ others) m
counts_later counts = record { among = inr counts.among; counts = counts.counts }

some_same : {X : Type 0} (x y : X) → Some x ≡ Some y → x ≡ y
some_same x y same = ap (λ o. option_map_or (λ z. z) o x) same

none_some : {X : Type 0} {x : X} → None ≡ Some x → ⊥
none_some same = both_ways false refl (ap is_some same)

-- the first one that counts gives a mirror's value
first_value : (c : Image) (array sector : ℕ) (members : List Member) (m : Member)
    → first_counting sector members ≡ Some m
    → Counts sector members m × (first_there (there (map (column c array sector) members)) ≡ c (member_slice m.place array) (data_sector + sector))
unfolding first_counting there
first_value c array sector [] m is = absurd (none_some is)
first_value c array sector (first ∷ others) m is =
    let Goal : Bool → Type 0 = λ b. nat_lt sector first.reach ≡ b → (if b then Some first else first_counting sector others) ≡ Some m
    → Counts sector (first ∷ others) m × (first_there (there ((if b then Some (c (member_slice first.place array) (data_sector + sector)) else None) ∷ map (column c array sector) others)) ≡ c (member_slice m.place array) (data_sector + sector)) in
    let goal : Goal (nat_lt sector first.reach) =
    elim (nat_lt sector first.reach) as Goal [
      | true ↦ λ counts here.
          let same = some_same first m here in (
            record { among = inl (sym same); counts = subst (λ o. sector < o.reach) same (ltb-true sector first.reach counts) },
            ap (λ o. c (member_slice o.place array) (data_sector + sector)) same,
          )
      | false ↦ λ none later.
          let found = first_value c array sector others m later in
          (counts_later found.0, found.1)
    ] in
    goal refl is

-- the one at a position gives the value there
member_value : (c : Image) (array sector position : ℕ) (members : List Member) (m : Member)
    → member_at sector position members ≡ Some m
    → Counts sector members m × (at_position position (map (column c array sector) members) ≡ Some (c (member_slice m.place array) (data_sector + sector)))
unfolding member_at at_position
member_value c array sector position [] m is = absurd (none_some is)
member_value c array sector zero (first ∷ others) m is =
    let Goal : Bool → Type 0 = λ b. nat_lt sector first.reach ≡ b → (if b then Some first else None) ≡ Some m
    → Counts sector (first ∷ others) m × ((if b then Some (c (member_slice first.place array) (data_sector + sector)) else None) ≡ Some (c (member_slice m.place array) (data_sector + sector))) in
    let goal : Goal (nat_lt sector first.reach) =
    elim (nat_lt sector first.reach) as Goal [
      | true ↦ λ counts here.
          let same = some_same first m here in (
            record { among = inl (sym same); counts = subst (λ o. sector < o.reach) same (ltb-true sector first.reach counts) },
            ap (λ o. Some (c (member_slice o.place array) (data_sector + sector))) same,
          )
      | false ↦ λ none later. absurd (none_some later)
    ] in
    goal refl is
member_value c array sector (suc position) (first ∷ others) m is =
    let found = member_value c array sector position others m is in
    (counts_later found.0, found.1)

-- a sector with a source has its value
pub source_value : (layout : Layout) (c : Image) (array sector position : ℕ) (members : List Member) (m : Member)
    → source_in layout sector position members ≡ Some m
    → Counts sector members m × (given layout (map (column c array sector) (take (width layout) members)) position ≡ c (member_slice m.place array) (data_sector + sector))
unfolding given
source_value (mirror n) c array sector position members m is =
    let found = first_value c array sector (take n members) m is in
    (record { among = among_take n members m found.0.among; counts = found.0.counts }, found.1)
source_value (parity n) c array sector position members m is =
    let found = member_value c array sector position (take n members) m is in (
      record { among = among_take n members m found.0.among; counts = found.0.counts },
      ap (λ o. option_map_or (λ v. v) o (xor_all 512 (there (without position (map (column c array sector) (take n members)))))) found.1,
    )

-- its source, by the shape
abbrev pub source_of : Shape → ℕ → Option Member
source_of shape x = source_in (layout_at shape x) (sector_in (layout_at shape x) x) (position_in (layout_at shape x) x) shape.members

-- whatever a stop leaves gives each sector one of its held values, where it has a source or the members are settled
pub picked_value : (shape : Shape) (array : ℕ) (held : Held) (c : Image) (x : ℕ)
    → PicksData shape array held c
    → (source_of shape x ≡ None → IsSynced shape array held)
    → MayLeave (held_by shape held array x) (value_by shape c array x)
unfolding held_by value_by
picked_value shape array held c x picks settled =
    let layout = layout_at shape x in
    let sector = sector_in layout x in
    let Goal : Option Member → Type 0 = λ o. source_of shape x ≡ o
    → MayLeave (option_map_or (held_of held array sector) o (only (value_by shape (current_in held) array x))) (value_by shape c array x) in
    let goal : Goal (source_of shape x) =
    elim (source_of shape x) as Goal [
      | None ↦ λ none. inl (settled_value shape array held c (settled none) picks x)
      | Some m ↦ λ is.
          let found = source_value layout c array sector (position_in layout x) shape.members m is in
          subst (MayLeave (held_of held array sector m)) (sym found.1) (picks m sector found.0.among found.0.counts)
    ] in
    goal refl

-- the current one is the value of the contents as they read
pub held_current : (shape : Shape) (array : ℕ) (held : Held) (x : ℕ) → (held_by shape held array x).current ≡ value_by shape (current_in held) array x
unfolding held_by value_by
held_current shape array held x =
    let layout = layout_at shape x in
    let sector = sector_in layout x in
    let Goal : Option Member → Type 0 = λ o. source_of shape x ≡ o
    → (option_map_or (held_of held array sector) o (only (value_by shape (current_in held) array x))).current ≡ value_by shape (current_in held) array x in
    let goal : Goal (source_of shape x) =
    elim (source_of shape x) as Goal [
      | None ↦ λ none. refl
      | Some m ↦ λ is. sym (source_value layout (current_in held) array sector (position_in layout x) shape.members m is).1
    ] in
    goal refl

-- settled members give single values
pub held_single : (shape : Shape) (array : ℕ) (held : Held) (x : ℕ) → IsSynced shape array held → IsSingle (held_by shape held array x)
unfolding held_by
held_single shape array held x settled v leaves =
    let layout = layout_at shape x in
    let sector = sector_in layout x in
    let Goal : Option Member → Type 0 = λ o. source_of shape x ≡ o
    → MayLeave (option_map_or (held_of held array sector) o (only (value_by shape (current_in held) array x))) v
    → v ≡ (option_map_or (held_of held array sector) o (only (value_by shape (current_in held) array x))).current in
    let goal : Goal (source_of shape x) =
    elim (source_of shape x) as Goal [
      | None ↦ λ none left. elim left [ inl now ↦ now | inr older ↦ absurd older ]
      | Some m ↦ λ is left.
          let found = source_value layout (current_in held) array sector (position_in layout x) shape.members m is in
          settled m sector found.0.among found.0.counts v left
    ] in
    goal refl leaves

-- a source is a member that counts
pub source_counts : (shape : Shape) (x : ℕ) (m : Member) → source_of shape x ≡ Some m → Counts (sector_in (layout_at shape x) x) shape.members m
source_counts shape x m is = (source_value (layout_at shape x) (λ d t. []) 0 (sector_in (layout_at shape x) x) (position_in (layout_at shape x) x) shape.members m is).0
