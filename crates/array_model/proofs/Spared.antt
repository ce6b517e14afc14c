-- A sector that isn't spent has its value, whoever is lost.
use Rattle.std.proofs.Common.{◌≡◌, ◌⊎◌, ℕ, zero, suc, ◌<◌, ◌≤◌, Bool, true, false, ◌&&◌, ◌||◌, not, nat_lt, if◌then◌else◌, List, [], ◌∷◌, map, take, length, refl, ap, subst, ◌∙◌, inl, inr, lt-ltb, le-ltb, ltb-true, arith}
use Rattle.std.proofs.lemmas.Bool.{both_ways}
use Rattle.rack.specs.Seen.{Image}
use Rattle.raid_map.specs.LeftSymmetric.{row_at}
use Rattle.array_image.specs.Stripes.{width, position_in, sector_in, given}
use Rattle.array_image.specs.Arrays.{Member, Shape, column, layout_at, value_by}
use Rattle.array_image.specs.Held.{Among}
use Rattle.array_image.specs.Even.{AreEven}
use Rattle.array_image.specs.Marks.{lower, lowered}
use Rattle.array_image.specs.Spent.{wanting, spent_with, spent_by}
use Rattle.array_image.proofs.Settled.{among_take}
use Rattle.array_image.proofs.Losing.{data_of, AreLeft}
use Rattle.array_image.proofs.Noted.{IsLeftOne, AllButOne, all_left, take_lower, noted_value}

-- what holds of the shape of each array
pub record IsLaidOut (shape : Shape) (resync : ℕ) : Type 0 where
  pub fits : (x : ℕ) → position_in (layout_at shape x) x < length (take (width (layout_at shape x)) shape.members)
  pub two : (x : ℕ) → 2 ≤ length (take (width (layout_at shape x)) shape.members)
  pub synced : (sector : ℕ) → row_at sector < resync → sector < shape.size

-- a member counts without the lost places, and isn't one of them, or it doesn't
counted : (lost : ℕ → Bool) (sector : ℕ) (m : Member)
    → (IsLeftOne lost sector m × (nat_lt sector (lower lost m).reach ≡ true)) ⊎ (nat_lt sector (lower lost m).reach ≡ false)
counted lost sector m =
    let Goal : Bool → Type 0 = λ g. lost m.place ≡ g
    → (IsLeftOne lost sector m × (nat_lt sector (if g then 0 else m.reach) ≡ true)) ⊎ (nat_lt sector (if g then 0 else m.reach) ≡ false) in
    let goal : Goal (lost m.place) =
    elim (lost m.place) as Goal [
      | true ↦ λ is. inr (le-ltb sector 0 (omega arith))
      | false ↦ λ is.
          let Count : Bool → Type 0 = λ b. nat_lt sector m.reach ≡ b → (IsLeftOne lost sector m × (b ≡ true)) ⊎ (b ≡ false) in
          let count : Count (nat_lt sector m.reach) =
          elim (nat_lt sector m.reach) as Count [ true ↦ λ at. inl ((is, ltb-true sector m.reach at), refl) | false ↦ λ at. inr refl ] in
          count refl
    ] in
    goal refl

wanting_by : (b : Bool) (n k : ℕ) → b ≡ false → (if b then n else suc n) ≡ k → suc n ≡ k
wanting_by true n k is now = absurd (both_ways true is refl)
wanting_by false n k is now = now

wanting_not : (b : Bool) (n k : ℕ) → b ≡ true → (if b then n else suc n) ≡ k → n ≡ k
wanting_not true n k is now = now
wanting_not false n k is now = absurd (both_ways false refl is)

pub none_wanting : (lost : ℕ → Bool) (sector : ℕ) (members : List Member) → wanting sector (map (lower lost) members) ≡ 0 → AreLeft lost sector members
none_wanting lost sector [] none = tt
none_wanting lost sector (m ∷ others) none =
    let n = wanting sector (map (lower lost) others) in
    elim (counted lost sector m) [
      | inl counts ↦ (counts.0, none_wanting lost sector others (wanting_not (nat_lt sector (lower lost m).reach) n 0 counts.1 none))
      | inr not_counts ↦ let one = wanting_by (nat_lt sector (lower lost m).reach) n 0 not_counts none in absurd (omega (arith, one))
    ]

pub one_wanting : (lost : ℕ → Bool) (sector k : ℕ) (members : List Member) → wanting sector (map (lower lost) members) ≡ k → k ≤ 1 → AllButOne lost sector members
one_wanting lost sector k [] is few = tt
one_wanting lost sector k (m ∷ others) is few =
    let n = wanting sector (map (lower lost) others) in
    elim (counted lost sector m) [
      | inl counts ↦ inl (counts.0, one_wanting lost sector k others (wanting_not (nat_lt sector (lower lost m).reach) n k counts.1 is) few)
      | inr not_counts ↦
          let one = wanting_by (nat_lt sector (lower lost m).reach) n k not_counts is in
          inr (none_wanting lost sector others (omega (arith, one, few)))
    ]

-- the first of them lack no more than all
pub wanting_take : (n sector : ℕ) (members : List Member) → wanting sector (take n members) ≤ wanting sector members
wanting_take zero sector members = omega arith
wanting_take (suc n) sector [] = omega arith
wanting_take (suc n) sector (m ∷ others) = more (nat_lt sector m.reach) (wanting sector (take n others)) (wanting sector others) (wanting_take n sector others)
  where
    more : (b : Bool) (j k : ℕ) → j ≤ k → (if b then j else suc j) ≤ (if b then k else suc k)
    more true j k low = low
    more false j k low = omega (arith, low)

synced_of : (lacking : ℕ) (synced : Bool) → 0 < lacking → spent_with lacking synced ≡ false → (lacking ≤ 1) × (synced ≡ true)
synced_of lacking synced some unspent =
    let Goal : Bool → Bool → Type 0 = λ two one. nat_lt 1 lacking ≡ two → nat_lt 0 lacking ≡ one → (two || (one && not synced)) ≡ false → (lacking ≤ 1) × (synced ≡ true) in
    let goal : Goal (nat_lt 1 lacking) (nat_lt 0 lacking) =
    elim (nat_lt 1 lacking) as (λ two. Goal two (nat_lt 0 lacking)) [
      | true ↦ λ two one is. absurd (both_ways true is refl)
      | false ↦ elim (nat_lt 0 lacking) as (λ one. Goal false one) [
        | false ↦ λ two one is. absurd (both_ways (nat_lt 0 lacking) one (lt-ltb 0 lacking some))
        | true ↦ λ two one is. (at_most two, tested synced is)
      ]
    ] in
    goal refl refl unspent
  where
    at_most : nat_lt 1 lacking ≡ false → lacking ≤ 1
    at_most is = elim (few lacking) [ inl low ↦ low | inr high ↦ absurd (both_ways (nat_lt 1 lacking) is (lt-ltb 1 lacking high)) ]
      where
        few : (k : ℕ) → (k ≤ 1) ⊎ (1 < k)
        few zero = inl (omega arith)
        few (suc zero) = inl (omega arith)
        few (suc (suc k)) = inr (omega arith)

    tested : (b : Bool) → not b ≡ false → b ≡ true
    tested true is = refl
    tested false is = absurd (both_ways true is refl)

pub at_most_one : (lacking : ℕ) (synced : Bool) → spent_with lacking synced ≡ false → lacking ≤ 1
at_most_one zero synced unspent = omega arith
at_most_one (suc k) synced unspent = (synced_of (suc k) synced (omega arith) unspent).0

-- where one is wanting the row isn't left to resync
pub synced_row : (lacking : ℕ) (synced : Bool) → 0 < lacking → spent_with lacking synced ≡ false → synced ≡ true
synced_row lacking synced some unspent = (synced_of lacking synced some unspent).1

-- The value of a sector that isn't spent without the lost places is what it was with them.
pub lost_value : (lost : ℕ → Bool) (shape : Shape) (array resync : ℕ) (c : Image) (x : ℕ)
    → IsLaidOut shape resync
    → AreEven shape array resync c
    → ((m : Member) (sector : ℕ) → Among m shape.members → sector < m.reach → length (data_of c array sector m) ≡ 512)
    → spent_by (lowered lost shape) resync x ≡ false
    → value_by (lowered lost shape) c array x ≡ value_by shape c array x
unfolding value_by
lost_value lost shape array resync c x laid even sized unspent =
    let layout = layout_at shape x in
    let sector = sector_in layout x in
    let members = take (width layout) shape.members in
    let all = wanting sector (map (lower lost) shape.members) in
    let low : wanting sector (map (lower lost) members) ≤ all =
    subst (λ (ms : List Member). wanting sector ms ≤ all) (take_lower lost (width layout) shape.members) (wanting_take (width layout) sector (map (lower lost) shape.members)) in
    let Goal : ℕ → Type 0 = λ k. wanting sector (map (lower lost) members) ≡ k → value_by (lowered lost shape) c array x ≡ value_by shape c array x in
    let goal : Goal (wanting sector (map (lower lost) members)) =
    elim (wanting sector (map (lower lost) members)) as Goal [
      | zero ↦ λ none.
          ap (λ (ms : List Member). given layout (map (column c array sector) ms) (position_in layout x)) (take_lower lost (width layout) shape.members)
          ∙ ap (λ stripe. given layout stripe (position_in layout x)) (all_left lost c array sector members (none_wanting lost sector members none))
      | suc k ↦ λ some.
          let test = synced_of all (nat_lt (row_at sector) resync) (omega (arith, some, low)) unspent in
          let row = ltb-true (row_at sector) resync test.1 in
          noted_value lost shape array resync c x even
          (one_wanting lost sector (wanting sector (map (lower lost) members)) members refl (omega (arith, low, test.0)))
          (laid.synced sector row) row
          (λ o among counts. sized o sector (among_take (width layout) shape.members o among) counts)
          (laid.fits x) (laid.two x)
    ] in
    goal refl

-- ---- who counts after losses

-- whoever counts among those left counted before
left_counted : (lost : ℕ → Bool) (sector : ℕ) (m : Member) → nat_lt sector (lower lost m).reach ≡ true → nat_lt sector m.reach ≡ true
left_counted lost sector m is = by (lost m.place) is
  where
    by : (b : Bool) → nat_lt sector (if b then 0 else m.reach) ≡ true → nat_lt sector m.reach ≡ true
    by true counts = absurd (both_ways (nat_lt sector 0) (le-ltb sector 0 (omega arith)) counts)
    by false counts = counts

either_wants : (a b : Bool) (n k : ℕ) → (b ≡ true → a ≡ true) → n ≤ k → (if a then n else suc n) ≤ (if b then k else suc k)
either_wants true true n k implies low = low
either_wants true false n k implies low = omega (arith, low)
either_wants false true n k implies low = absurd (both_ways false refl (implies refl))
either_wants false false n k implies low = omega (arith, low)

either_wants_more : (a b : Bool) (n k : ℕ) → (b ≡ true → a ≡ true) → n < k → (if a then n else suc n) < (if b then k else suc k)
either_wants_more true true n k implies low = low
either_wants_more true false n k implies low = omega (arith, low)
either_wants_more false true n k implies low = absurd (both_ways false refl (implies refl))
either_wants_more false false n k implies low = omega (arith, low)

pub wanting_more : (lost : ℕ → Bool) (sector : ℕ) (members : List Member) → wanting sector members ≤ wanting sector (map (lower lost) members)
wanting_more lost sector [] = omega arith
wanting_more lost sector (m ∷ others) =
    either_wants (nat_lt sector m.reach) (nat_lt sector (lower lost m).reach) (wanting sector others) (wanting sector (map (lower lost) others))
    (left_counted lost sector m) (wanting_more lost sector others)

-- one who counted is lost
pub wanting_lost : (lost : ℕ → Bool) (sector : ℕ) (members : List Member) (m : Member) → Among m members → sector < m.reach → lost m.place ≡ true
    → wanting sector members < wanting sector (map (lower lost) members)
wanting_lost lost sector [] m among counts gone = absurd among
wanting_lost lost sector (first ∷ others) m (inr later) counts gone =
    either_wants_more (nat_lt sector first.reach) (nat_lt sector (lower lost first).reach) (wanting sector others) (wanting sector (map (lower lost) others))
    (left_counted lost sector first) (wanting_lost lost sector others m later counts gone)
wanting_lost lost sector (first ∷ others) m (inl here) counts gone =
    strict (nat_lt sector first.reach) (nat_lt sector (lower lost first).reach) (wanting sector others) (wanting sector (map (lower lost) others))
    (lt-ltb sector first.reach (subst (λ (o : Member). sector < o.reach) here counts))
    (ap (λ (b : Bool). nat_lt sector (if b then 0 else first.reach)) (subst (λ (o : Member). lost o.place ≡ true) here gone) ∙ le-ltb sector 0 (omega arith))
    (wanting_more lost sector others)
  where
    strict : (a b : Bool) (n k : ℕ) → a ≡ true → b ≡ false → n ≤ k → (if a then n else suc n) < (if b then k else suc k)
    strict true false n k at none low = omega (arith, low)
    strict true true n k at none low = absurd (both_ways true none refl)
    strict false true n k at none low = absurd (both_ways false refl at)
    strict false false n k at none low = absurd (both_ways false refl at)

-- two that are wanting make it spent
pub two_spent : (shape : Shape) (resync x : ℕ) → 1 < wanting (sector_in (layout_at shape x) x) shape.members → spent_by shape resync x ≡ true
two_spent shape resync x two =
    ap (λ (b : Bool). b || (nat_lt 0 (wanting (sector_in (layout_at shape x) x) shape.members) && not (nat_lt (row_at (sector_in (layout_at shape x) x)) resync)))
    (lt-ltb 1 (wanting (sector_in (layout_at shape x) x) shape.members) two)
