-- The parity of a RAID-5 row of which members may be missing: by its own member, or by the others.
use Rattle.std.proofs.Common.{◌≡◌, ℕ, zero, suc, ◌+◌, ◌<◌, ◌≤◌, Bool, true, false, ◌==◌, nat_lt, if◌then◌else◌, List, [], ◌∷◌, map, take, length, Some, None, refl, sym, ap, ap₂, subst, ◌∙◌, eqb-true, eq-eqb, ltb-true, arith}
use Rattle.std.proofs.lemmas.Bool.{both_ways}
use Rattle.rack.specs.Seen.{Image}
use Rattle.parity.specs.Xor.{xor, xor_all, zeros}
use Rattle.parity.proofs.Laws.{xor_is_a_group}
use Rattle.raid_map.specs.LeftSymmetric.{IsMemberCount, sector_of, parity_at, row_at}
use Rattle.array_image.specs.Places.{member_slice, data_sector}
use Rattle.array_image.specs.Stripes.{Layout, parity, width, there, given, AgreeIn}
use Rattle.array_image.specs.Arrays.{Member, Shape, column, layout_at, stripe_in}
use Rattle.array_image.specs.Held.{Among, member_at, source_in}
use Rattle.array_image.specs.Even.{AllCount}
use Rattle.array_image.specs.Spent.{wanting, spent_with}
use Rattle.array_image.specs.Marks.{lower, unless_gone}
use Rattle.array_image.proofs.Marked.{among_lowered}
use Rattle.array_image.proofs.Losing.{length_map}
use Rattle.array_image.proofs.Sources.{source_value}
use Rattle.array_model.specs.Members.{gathered}
use Rattle.array_model.specs.Rows.{AgreeAt, parity_part, sector_at, part_at, IsPlain}
use Rattle.array_model.proofs.Firsts.{none_given}
use Rattle.array_model.proofs.ParityRow.{AreSized, one_new, long_xor, parity_inside}
use Rattle.array_model.proofs.Parts.{part_among, among_part, plain_sector, plain_take}
use Rattle.array_model.proofs.Spared.{at_most_one, synced_row}
use Rattle.array_model.proofs.Filled.{long_zeros, xor_zeros, filled, filled_there, filled_none, filled_sized, total, total_there, at_part, one_wants, two_want}

-- ---- the parity, by its own member or by the others

part_lower : (lost : ℕ → Bool) (j : ℕ) (ms : List Member) → j < length ms → part_at j (map (lower lost) ms) ≡ lower lost (part_at j ms)
part_lower lost j [] low = absurd (omega (arith, low))
part_lower lost zero (m ∷ ms) low = refl
part_lower lost (suc j) (m ∷ ms) low = part_lower lost j ms (omega (arith, low))

map_over : (f : Member → List ℕ) (lost : ℕ → Bool) (ms : List Member) → map f (map (lower lost) ms) ≡ map (λ m. f (lower lost m)) ms
map_over f lost [] = refl
map_over f lost (m ∷ ms) = ap (λ vs. f (lower lost m) ∷ vs) (map_over f lost ms)

at_none : (s i : ℕ) (ms : List Member) → i < length ms → nat_lt s (part_at i ms).reach ≡ false → member_at s i ms ≡ None
unfolding member_at
at_none s i [] inside none = absurd (omega (arith, inside))
at_none s zero (m ∷ others) inside none = ap (λ (b : Bool). if b then Some m else None) none
at_none s (suc i) (m ∷ others) inside none = at_none s i others (omega (arith, inside)) none

take_lowered : (lost : ℕ → Bool) (k : ℕ) (ms : List Member) → length ms ≡ k → take k (map (lower lost) ms) ≡ map (lower lost) ms
take_lowered lost zero [] is = refl
take_lowered lost zero (m ∷ ms) is = absurd (omega (arith, is))
take_lowered lost (suc k) [] is = absurd (omega (arith, is))
take_lowered lost (suc k) (m ∷ ms) is = ap (λ (os : List Member). lower lost m ∷ os) (take_lowered lost k ms (omega (arith, is)))

-- whoever counts without the lost ones isn't lost
not_lost : (lost : ℕ → Bool) (t : ℕ) (m : Member) → t < (lower lost m).reach → lower lost m ≡ m
not_lost lost t m counts = by (lost m.place) counts
  where
    by : (b : Bool) → t < (unless_gone b m).reach → unless_gone b m ≡ m
    by true low = absurd (omega (arith, low))
    by false low = refl

module _ (shape : Shape) (k n resync x : ℕ) (cur : Image) (lost : ℕ → Bool)
    (plain : IsPlain shape (parity k)) (count : IsMemberCount k)
    (sized : (m : Member) (t : ℕ) → Among m shape.members → t < m.reach → length (cur (member_slice m.place n) (data_sector + t)) ≡ 512)
    (even : row_at (sector_at shape x) < resync → AllCount (layout_at shape x) shape (sector_at shape x) → AgreeAt shape n cur x)
    (unspent : spent_with (wanting (sector_of k x) (map (lower lost) shape.members)) (nat_lt (row_at (sector_of k x)) resync) ≡ false)
    (counts : sector_of k x < (parity_part shape k x).reach) where
  abbrev ms : List Member
  ms = map (lower lost) shape.members

  low_q : parity_at k (sector_of k x) < length shape.members
  low_q = parity_inside shape k (sector_of k x) plain count

  low_ms : parity_at k (sector_of k x) < length (map (lower lost) shape.members)
  low_ms = let long = length_map (lower lost) shape.members in let low = low_q in omega (arith, long, low)

  abbrev part : Member
  part = parity_part shape k x

  sized_g : AreSized (filled cur n (sector_of k x)) shape.members
  sized_g = filled_sized cur n (sector_of k x) shape.members (λ m among at. sized m (sector_of k x) among at)

  sum_over : (t : ℕ) → total cur n t (map (lower lost) shape.members) ≡ xor_all 512 (map (λ m. filled cur n t (lower lost m)) shape.members)
  unfolding total
  sum_over t = ap (xor_all 512) (map_over (filled cur n t) lost shape.members)

  sum_plain : (t : ℕ) → xor_all 512 (map (filled cur n t) shape.members) ≡ total cur n t shape.members
  unfolding total
  sum_plain t = refl

  own_value_of : lower lost (parity_part shape k x) ≡ parity_part shape k x
      → given (parity k) (map (column cur n (sector_of k x)) (take k (map (lower lost) shape.members))) (parity_at k (sector_of k x)) ≡ cur (member_slice (parity_part shape k x).place n) (data_sector + sector_of k x)
  own_value_of same =
      let q = parity_at k (sector_of k x) in
      let at : part_at q ms ≡ part = part_lower lost q shape.members low_q ∙ same in
      let source : source_in (parity k) (sector_of k x) q ms ≡ Some part =
      ap (member_at (sector_of k x) q) (take_lowered lost k shape.members plain.count)
      ∙ at_part (sector_of k x) q ms low_ms (subst (λ (o : Member). sector_of k x < o.reach) (sym at) counts)
      ∙ ap (λ (o : Member). Some o) at in
      (source_value (parity k) cur n (sector_of k x) q ms part source).1

  lost_value_of : nat_lt (sector_of k x) (lower lost (parity_part shape k x)).reach ≡ false
      → given (parity k) (map (column cur n (sector_of k x)) (take k (map (lower lost) shape.members))) (parity_at k (sector_of k x)) ≡ cur (member_slice (parity_part shape k x).place n) (data_sector + sector_of k x)
  lost_value_of none =
      let t = sector_of k x in
      let q = parity_at k t in
      let members = shape.members in
      let wants : nat_lt t (part_at q ms).reach ≡ false = ap (λ (o : Member). nat_lt t o.reach) (part_lower lost q members low_q) ∙ none in
      let few : wanting t ms ≤ 1 = at_most_one (wanting t ms) _ unspent in
      let long : length ms ≡ length members = length_map (lower lost) members in
      let left : (j : ℕ) → j < length members → (j ≡ q → ⊥) → t < (lower lost (part_at j members)).reach =
      λ j low other.
      let Goal : Bool → Type 0 = λ b. nat_lt t (lower lost (part_at j members)).reach ≡ b → t < (lower lost (part_at j members)).reach in
      let goal : Goal (nat_lt t (lower lost (part_at j members)).reach) = elim (nat_lt t (lower lost (part_at j members)).reach) as Goal [
        | true ↦ λ is. ltb-true t (lower lost (part_at j members)).reach is
        | false ↦ λ is.
            let two = two_want t q j ms low_ms (omega (arith, low, long)) (λ same. other (sym same)) wants (ap (λ (o : Member). nat_lt t o.reach) (part_lower lost j members low) ∙ is) in
            absurd (omega (arith, two, few))
      ] in
      goal refl in
      let g : Member → List ℕ = filled cur n t in
      let h : Member → List ℕ = λ m. filled cur n t (lower lost m) in
      let same : (j : ℕ) → j < length members → (j ≡ q → ⊥) → h (part_at j members) ≡ g (part_at j members) =
      λ j low other. ap g (not_lost lost t (part_at j members) (left j low other)) in
      let all : (m : Member) → Among m members → t < m.reach =
      λ m among.
      let found = among_part members m among in
      subst (λ (o : Member). t < o.reach) (sym found.2)
      (let Goal : Bool → Type 0 = λ b. (found.0 == q) ≡ b → t < (part_at found.0 members).reach in
      let goal : Goal (found.0 == q) = elim (found.0 == q) as Goal [
        | true ↦ λ is. subst (λ j. t < (part_at j members).reach) (sym (eqb-true found.0 q is)) counts
        | false ↦ λ no.
            let there = left found.0 found.1 (λ is. both_ways (found.0 == q) no (eq-eqb found.0 q is)) in
            subst (λ (o : Member). t < o.reach) (not_lost lost t (part_at found.0 members) there) there
      ] in
      goal refl) in
      let some : 0 < wanting t ms = one_wants t q ms low_ms wants in
      let row = ltb-true (row_at t) resync (synced_row (wanting t ms) _ some unspent) in
      let at_t : sector_at shape x ≡ t = plain_sector shape (parity k) x plain in
      let taken : take (width (layout_at shape x)) members ≡ members = ap (λ (l : Layout). take (width l) members) (plain.layout_is x) ∙ plain_take shape (parity k) plain in
      let agree = even (subst (λ i. row_at i < resync) (sym at_t) row)
      (λ m among. subst (λ i. i < m.reach) (sym at_t) (all m (subst (λ (os : List Member). Among m os) taken among))) in
      let zero_sum : total cur n t members ≡ zeros 512 =
      sym (ap₂ (λ (os : List Member) i. xor_all 512 (there (map (column cur n i) os))) taken at_t ∙ total_there cur n t members sized_g)
      ∙ subst (λ (l : Layout). AgreeIn l (there (stripe_in cur n shape (layout_at shape x) (sector_at shape x)))) (plain.layout_is x) agree in
      let sized_h : AreSized (filled cur n t) ms =
      filled_sized cur n t ms (λ m among at. sized m t (among_lowered lost t members m among at) at) in
      let part_g : g part ≡ cur (member_slice part.place n) (data_sector + t) = filled_there cur n t part counts in
      let long_q = sized_g part (part_among q members low_q) in
      none_given (parity k) cur n t q ms (ap (member_at t q) (take_lowered lost k members plain.count) ∙ at_none t q ms low_ms wants)
      ∙ ap (gathered cur n t) (take_lowered lost k members plain.count)
      ∙ total_there cur n t ms sized_h
      ∙ sum_over t
      ∙ one_new g h q members low_q sized_g same
      ∙ ap₂ (λ (v w : List ℕ). xor (xor v (g part)) w) (sum_plain t ∙ zero_sum) (filled_none cur n t (lower lost part) none)
      ∙ xor_zeros (xor (zeros 512) (g part)) (long_xor (zeros 512) (g part) long_zeros long_q)
      ∙ xor_is_a_group.commutes (zeros 512) (g part)
      ∙ xor_zeros (g part) long_q
      ∙ part_g

  pub side_value : given (parity k) (map (column cur n (sector_of k x)) (take k (map (lower lost) shape.members))) (parity_at k (sector_of k x)) ≡ cur (member_slice (parity_part shape k x).place n) (data_sector + sector_of k x)
  side_value =
      let Goal : Bool → Type 0 = λ b. nat_lt (sector_of k x) (lower lost part).reach ≡ b
      → given (parity k) (map (column cur n (sector_of k x)) (take k ms)) (parity_at k (sector_of k x)) ≡ cur (member_slice part.place n) (data_sector + sector_of k x) in
      let goal : Goal (nat_lt (sector_of k x) (lower lost part).reach) = elim (nat_lt (sector_of k x) (lower lost part).reach) as Goal [
        | true ↦ λ is. own_value_of (not_lost lost (sector_of k x) part (ltb-true (sector_of k x) (lower lost part).reach is))
        | false ↦ λ is. lost_value_of is
      ] in
      goal refl
