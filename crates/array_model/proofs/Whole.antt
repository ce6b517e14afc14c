-- In a whole array each sector has its own member.
use Rattle.std.proofs.Common.{◌≡◌, ℕ, zero, suc, ◌<◌, ◌≤◌, Bool, true, false, nat_lt, if◌then◌else◌, List, [], ◌∷◌, map, take, length, Some, None, refl, ap, subst, ◌∙◌, inl, inr, lt-ltb, arith}
use Rattle.array_image.specs.Stripes.{Layout, mirror, parity, width, position_in, sector_in}
use Rattle.array_image.specs.Arrays.{Member, Shape, layout_at}
use Rattle.array_image.specs.Held.{Among, first_counting, member_at, source_in}
use Rattle.array_image.specs.Marks.{unless_gone, lower, lowered}
use Rattle.raid_map.specs.LeftSymmetric.{row_at}
use Rattle.array_image.proofs.Settled.{among_take}
use Rattle.array_image.proofs.Noted.{AllButOne, take_lower}
use Rattle.array_image.specs.Spent.{wanting, spent_by}
use Rattle.array_model.specs.Rows.{source_at}
use Rattle.array_model.proofs.Spared.{IsLaidOut, one_wanting, at_most_one, wanting_take}

-- the members that aren't lost of those that count without them
pub among_kept : (lost : ℕ → Bool) (sector : ℕ) (members : List Member) (m : Member)
    → Among m (map (lower lost) members) → sector < m.reach → lost m.place ≡ false
among_kept lost sector [] m among counts = absurd among
among_kept lost sector (first ∷ others) m (inr later) counts = among_kept lost sector others m later counts
among_kept lost sector (first ∷ others) m (inl here) counts =
    let Goal : Bool → Type 0 = λ b. lost first.place ≡ b → m ≡ unless_gone b first → lost m.place ≡ false in
    let goal : Goal (lost first.place) =
    elim (lost first.place) as Goal [
      | true ↦ λ at is. absurd (omega (arith, subst (λ (o : Member). sector < o.reach) is counts))
      | false ↦ λ at is. ap (λ (o : Member). lost o.place) is ∙ at
    ] in
    goal refl here

first_of_all : (sector : ℕ) (members : List Member) → 0 < length members → ((m : Member) → Among m members → sector < m.reach)
    → (m : Member) × (first_counting sector members ≡ Some m)
unfolding first_counting
first_of_all sector [] some count = absurd (omega (arith, some))
first_of_all sector (m ∷ others) some count =
    (m, ap (λ (b : Bool). if b then Some m else first_counting sector others) (lt-ltb sector m.reach (count m (inl refl))))

at_of_all : (sector position : ℕ) (members : List Member) → position < length members → ((m : Member) → Among m members → sector < m.reach)
    → (m : Member) × (member_at sector position members ≡ Some m)
unfolding member_at
at_of_all sector position [] inside count = absurd (omega (arith, inside))
at_of_all sector zero (m ∷ others) inside count =
    (m, ap (λ (b : Bool). if b then Some m else None) (lt-ltb sector m.reach (count m (inl refl))))
at_of_all sector (suc position) (m ∷ others) inside count = at_of_all sector position others (omega (arith, inside)) (λ o among. count o (inr among))

pub source_of_all : (layout : Layout) (sector position : ℕ) (members : List Member)
    → position < length (take (width layout) members)
    → ((m : Member) → Among m (take (width layout) members) → sector < m.reach)
    → (m : Member) × (source_in layout sector position members ≡ Some m)
source_of_all (mirror n) sector position members inside count = first_of_all sector (take n members) (omega (arith, inside)) count
source_of_all (parity n) sector position members inside count = at_of_all sector position (take n members) inside count

-- of two members one counts, where at most one doesn't
some_counts : (lost : ℕ → Bool) (sector : ℕ) (members : List Member) → AllButOne lost sector members → 2 ≤ length members
    → (m : Member) × Among m members × (sector < m.reach)
some_counts lost sector [] but two = absurd (omega (arith, two))
some_counts lost sector (m ∷ others) (inl but) two = (m, inl refl, but.0.1)
some_counts lost sector (m ∷ []) (inr left) two = absurd (omega (arith, two))
some_counts lost sector (m ∷ (o ∷ others)) (inr left) two = (o, inr (inl refl), left.0.1)

-- all members count in all their data
abbrev pub IsWhole : Shape → Type 0
IsWhole shape = (m : Member) → Among m shape.members → m.reach ≡ shape.size

-- a sector that isn't spent stands on the members
pub unspent_inside : (lost : ℕ → Bool) (shape : Shape) (resync y : ℕ) → IsLaidOut shape resync → IsWhole shape
    → spent_by (lowered lost shape) resync y ≡ false → sector_in (layout_at shape y) y < shape.size
unspent_inside lost shape resync y laid whole unspent =
    let layout = layout_at shape y in
    let sector = sector_in layout y in
    let members = take (width layout) shape.members in
    let all = wanting sector (map (lower lost) shape.members) in
    let low : wanting sector (map (lower lost) members) ≤ all =
    subst (λ (ms : List Member). wanting sector ms ≤ all) (take_lower lost (width layout) shape.members) (wanting_take (width layout) sector (map (lower lost) shape.members)) in
    let few = at_most_one all (nat_lt (row_at sector) resync) unspent in
    let counting = some_counts lost sector members (one_wanting lost sector (wanting sector (map (lower lost) members)) members refl (omega (arith, low, few))) (laid.two y) in
    let size = whole counting.0 (among_take (width layout) shape.members counting.0 counting.1) in
    let counts = counting.2 in
    omega (arith, counts, size)

pub whole_source : (shape : Shape) (resync y : ℕ) → IsLaidOut shape resync → IsWhole shape → sector_in (layout_at shape y) y < shape.size
    → (m : Member) × (source_at shape y ≡ Some m)
whole_source shape resync y laid whole inside =
    let layout = layout_at shape y in
    source_of_all layout (sector_in layout y) (position_in layout y) shape.members (laid.fits y)
    (λ m among. let is = whole m (among_take (width layout) shape.members m among) in omega (arith, is, inside))
