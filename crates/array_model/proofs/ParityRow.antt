-- A RAID-5 row: a sector and its parity are written.
use Rattle.std.proofs.Common.{◌≡◌, ℕ, zero, suc, ◌+◌, ◌<◌, Bool, true, false, ◌==◌, nat_lt, if◌then◌else◌, List, [], ◌∷◌, map, take, length, Option, Some, None, unwrap_or, refl, sym, ap, ap₂, subst, ◌∙◌, inl, inr, eqb-true, eq-eqb, arith}
use Rattle.std.proofs.lemmas.Bool.{both_ways}
use Rattle.rack.specs.Seen.{Image}
use Rattle.parity.specs.Xor.{xor, xor_all, zeros, HasLength}
use Rattle.parity.proofs.Laws.{xor_is_a_group, parity_restores}
use Rattle.raid_map.specs.LeftSymmetric.{IsMemberCount, member_of, sector_of, parity_at}
use Rattle.raid_map.proofs.Rows.{row_members_differ, stands_once, apart_from_parity}
use Rattle.array_image.specs.Places.{member_slice, data_sector}
use Rattle.rack.specs.Targets.{Target, look}
use Rattle.array_image.specs.Stripes.{Layout, parity, width, sector_in, there, AgreeIn}
use Rattle.array_image.specs.Arrays.{Member, Shape, column, layout_at, stripe_in}
use Rattle.array_image.specs.Held.{Among, member_at}
use Rattle.array_image.specs.Even.{AreEven}
use Rattle.array_image.proofs.Losing.{data_of}
use Rattle.array_image.proofs.Lost.{there_all}
use Rattle.array_image.proofs.Noted.{columns_all}
use Rattle.rack.specs.Sequences.{IsPayload}
use Rattle.array_model.specs.Rows.{data_at, parity_part, changed, written, IsRow, source_at, sector_at, part_at, IsPlain, target_on}
use Rattle.array_model.proofs.Looking.{no_target}
use Rattle.array_model.proofs.DataFrames.{columns_same}
use Rattle.array_model.proofs.Parts.{at_is, is_at_own, look_one, part_among, among_part, plain_sector, plain_source, plain_take}

-- ---- XOR of a row with one sector changed

same_maps : (g h : Member → List ℕ) (members : List Member) → ((j : ℕ) → j < length members → h (part_at j members) ≡ g (part_at j members)) → map h members ≡ map g members
same_maps g h [] same = refl
same_maps g h (m ∷ others) same = ap₂ (λ v vs. v ∷ vs) (same zero (omega arith)) (same_maps g h others (λ j inside. same (suc j) (omega (arith, inside))))

-- each of the members' sectors is a whole one
abbrev pub AreSized : (Member → List ℕ) → List Member → Type 0
AreSized g members = (m : Member) → Among m members → length (g m) ≡ 512

pub lengths : (g : Member → List ℕ) (members : List Member) → AreSized g members → HasLength 512 (map g members)
lengths g [] sized = tt
lengths g (m ∷ others) sized = (sized m (inl refl), lengths g others (λ o among. sized o (inr among)))

pub one_new : (g h : Member → List ℕ) (k : ℕ) (members : List Member) → k < length members → AreSized g members
    → ((j : ℕ) → j < length members → (j ≡ k → ⊥) → h (part_at j members) ≡ g (part_at j members))
    → xor_all 512 (map h members) ≡ xor (xor (xor_all 512 (map g members)) (g (part_at k members))) (h (part_at k members))
unfolding xor_all
one_new g h k [] inside sized same = absurd (omega (arith, inside))
one_new g h zero (m ∷ others) inside sized same =
    let rest : List ℕ = xor_all 512 (map g others) in
    let long : length rest ≡ 512 = parity_restores.same_length 512 (map g others) (lengths g others (λ o among. sized o (inr among))) in
    ap (λ vs. xor (h m) (xor_all 512 vs)) (same_maps g h others (λ j low. same (suc j) (omega (arith, low)) (λ is. omega (arith, is))))
    ∙ xor_is_a_group.commutes (h m) rest
    ∙ ap (λ v. xor v (h m)) (sym (ap (λ v. xor v (g m)) (xor_is_a_group.commutes (g m) rest) ∙ xor_is_a_group.undone rest (g m) (long ∙ sym (sized m (inl refl)))))
one_new g h (suc k) (m ∷ others) inside sized same =
    let rest : List ℕ = xor_all 512 (map g others) in
    let old : List ℕ = g (part_at k others) in
    let new : List ℕ = h (part_at k others) in
    ap₂ xor (same zero (omega arith) (λ is. omega (arith, is)))
    (one_new g h k others (omega (arith, inside)) (λ o among. sized o (inr among)) (λ j low other. same (suc j) (omega (arith, low)) (λ is. other (omega (arith, is)))))
    ∙ sym (xor_is_a_group.associates (g m) (xor rest old) new)
    ∙ ap (λ v. xor v new) (sym (xor_is_a_group.associates (g m) rest old))

pub long_xor : (a b : List ℕ) → length a ≡ 512 → length b ≡ 512 → length (xor a b) ≡ 512
long_xor a b long wide = xor_is_a_group.same_length a b (long ∙ sym wide) ∙ long

-- old and new of a sector, and old and new of its parity, are zeros together
all_undone : (old new par : List ℕ) → length old ≡ 512 → length new ≡ 512 → length par ≡ 512
    → xor (xor (xor (xor (zeros 512) old) new) par) (xor (xor par old) new) ≡ zeros 512
all_undone old new par long wide high =
    let z : List ℕ = xor (xor par old) new in
    let same : xor (xor (xor (zeros 512) old) new) par ≡ z =
    ap (λ v. xor (xor v new) par) (xor_is_a_group.commutes (zeros 512) old ∙ ap (λ k. xor old (zeros k)) (sym long) ∙ xor_is_a_group.neutral old)
    ∙ xor_is_a_group.commutes (xor old new) par
    ∙ sym (xor_is_a_group.associates par old new) in
    ap (λ v. xor v z) same
    ∙ xor_is_a_group.own_inverse z
    ∙ ap zeros (long_xor (xor par old) new (long_xor par old high long) wide)

-- two sectors changed: one and its parity
two_new : (g h : Member → List ℕ) (p q : ℕ) (members : List Member) (from : List ℕ)
    → p < length members → q < length members → (p ≡ q → ⊥)
    → AreSized g members → length from ≡ 512
    → ((j : ℕ) → j < length members → (j ≡ p → ⊥) → (j ≡ q → ⊥) → h (part_at j members) ≡ g (part_at j members))
    → (between : Member → List ℕ)
    → ((j : ℕ) → j < length members → (j ≡ p → ⊥) → between (part_at j members) ≡ g (part_at j members))
    → ((j : ℕ) → j < length members → (j ≡ q → ⊥) → h (part_at j members) ≡ between (part_at j members))
    → between (part_at p members) ≡ from
    → h (part_at q members) ≡ xor (xor (g (part_at q members)) (g (part_at p members))) from
    → xor_all 512 (map g members) ≡ zeros 512
    → AreSized between members
    → xor_all 512 (map h members) ≡ zeros 512
two_new g h p q members from at_p at_q other sized wide same between first second is_p is_q agree sized_too =
    let old : List ℕ = g (part_at p members) in
    let par : List ℕ = g (part_at q members) in
    one_new between h q members at_q sized_too second
    ∙ ap₂ xor
    (ap₂ xor (one_new g between p members at_p sized first ∙ ap₂ (λ v w. xor (xor v old) w) agree is_p) (first q at_q (λ is. other (sym is))))
    is_q
    ∙ all_undone old from par (sized (part_at p members) (part_among p members at_p)) wide (sized (part_at q members) (part_among q members at_q))

-- ---- the row

abbrev pub data_target : Shape → ℕ → ℕ → ℕ → List ℕ → Target
data_target shape k n x from = target_on n (sector_of k x) from (data_at shape k x)

abbrev pub parity_target : Shape → ℕ → ℕ → ℕ → List ℕ → Target
parity_target shape k n x new = target_on n (sector_of k x) new (parity_part shape k x)

-- which of the two a payload is
data WhichOf (shape : Shape) (k n x : ℕ) (from new : List ℕ) (d t : ℕ) (u : List ℕ) : Type 0 where
  of_data : d ≡ member_slice (data_at shape k x).place n → t ≡ data_sector + sector_of k x → u ≡ from → WhichOf shape k n x from new d t u
  of_parity : d ≡ member_slice (parity_part shape k x).place n → t ≡ data_sector + sector_of k x → u ≡ new → WhichOf shape k n x from new d t u

which_of : (shape : Shape) (k n x : ℕ) (from new : List ℕ) (d t : ℕ) (u : List ℕ) → IsPayload (changed shape k n x from new) d t u → WhichOf shape k n x from new d t u
which_of shape k n x from new d t u (inl first) = let at = at_is d t (data_target shape k n x from) first.0 in of_data at.0 at.1 first.1
which_of shape k n x from new d t u (inr (inl second)) = let at = at_is d t (parity_target shape k n x new) second.0 in of_parity at.0 at.1 second.1
which_of shape k n x from new d t u (inr (inr none)) = absurd none

-- an array of k members in parity
record IsParity (shape : Shape) (k : ℕ) : Type 0 where
  pub plain : IsPlain shape (parity k)
  pub count : IsMemberCount k

pub data_inside : (shape : Shape) (k x : ℕ) → IsPlain shape (parity k) → IsMemberCount k → member_of k x < length shape.members
data_inside shape k x plain count = let low = (row_members_differ k count).is_member x in omega (arith, low, plain.count)

pub parity_inside : (shape : Shape) (k s : ℕ) → IsPlain shape (parity k) → IsMemberCount k → parity_at k s < length shape.members
parity_inside shape k s plain count = let low = (row_members_differ k count).parity_is_member s in omega (arith, low, plain.count)

pub same_place : (p q n : ℕ) → member_slice p n ≡ member_slice q n → p ≡ q
same_place p q n same = omega (arith, same)

-- the source of a sector is the member at its position
source_part : (position sector : ℕ) (members : List Member) (m : Member) → member_at sector position members ≡ Some m → m ≡ part_at position members
unfolding member_at
source_part position sector [] m is = absurd (cc)
source_part zero sector (first ∷ others) m is =
    let Goal : Bool → Type 0 = λ b. (if b then Some first else None) ≡ Some m → m ≡ first in
    let goal : Goal (nat_lt sector first.reach) = elim (nat_lt sector first.reach) as Goal [ true ↦ λ same. cc | false ↦ λ same. absurd (cc) ] in
    goal is
source_part (suc position) sector (first ∷ others) m is = source_part position sector others m is

pub parity_source : (shape : Shape) (k y : ℕ) (m : Member) → IsPlain shape (parity k) → source_at shape y ≡ Some m → m ≡ data_at shape k y
parity_source shape k y m plain source =
    source_part (member_of k y) (sector_of k y) shape.members m
    (subst (λ (ms : List Member). member_at (sector_of k y) (member_of k y) ms ≡ Some m) (plain_take shape (parity k) plain)
    (sym (plain_source shape (parity k) y plain) ∙ source))

pub parity_row : (shape : Shape) (k n x : ℕ) (from new : List ℕ) → IsPlain shape (parity k) → IsMemberCount k → length from ≡ 512 → length new ≡ 512
    → IsRow shape n x from (changed shape k n x from new)
parity_row shape k n x from new plain count sized wide =
    record {
      own = λ d t u is.
          elim (which_of shape k n x from new d t u is) [
            | of_data at_d at_t is_u ↦ (data_at shape k x, sector_of k x, at_d, at_t, part_among (member_of k x) shape.members (data_inside shape k x plain count))
            | of_parity at_d at_t is_u ↦ (parity_part shape k x, sector_of k x, at_d, at_t, part_among (parity_at k (sector_of k x)) shape.members (parity_inside shape k (sector_of k x) plain count))
          ];
      sized = λ d t u is.
          elim (which_of shape k n x from new d t u is) [ of_data at_d at_t is_u ↦ ap length is_u ∙ sized | of_parity at_d at_t is_u ↦ ap length is_u ∙ wide ];
      alone = λ y m u source is. alone y m u (parity_source shape k y m plain source) (plain_sector shape (parity k) y plain) is;
      change = λ m source.
          let m_is = parity_source shape k x m plain source in
          let d : ℕ = member_slice (data_at shape k x).place n in
          let t : ℕ = data_sector + sector_of k x in
          subst (λ (o : Member). look (changed shape k n x from new) (member_slice o.place n) (data_sector + sector_at shape x) ≡ Some from) (sym m_is)
          (subst (λ s. look (changed shape k n x from new) d (data_sector + s) ≡ Some from) (sym (plain_sector shape (parity k) x plain))
          (look_one (changed shape k n x from new) d t from (inl (is_at_own (data_target shape k n x from), refl))
          (λ u is.
          elim (which_of shape k n x from new d t u is) [
            | of_data at_d at_t is_u ↦ is_u
            | of_parity at_d at_t is_u ↦ absurd (differ x refl (same_place (data_at shape k x).place (parity_part shape k x).place n at_d))
          ])));
    }
  where
    differ : (y : ℕ) → sector_of k y ≡ sector_of k x → (data_at shape k y).place ≡ (parity_part shape k x).place → ⊥
    differ y sector same =
        apart_from_parity k y count.least
        (plain.apart (member_of k y) (parity_at k (sector_of k x)) (data_inside shape k y plain count) (parity_inside shape k (sector_of k x) plain count) same
        ∙ ap (parity_at k) (sym sector))

    alone : (y : ℕ) (m : Member) (u : List ℕ) → m ≡ data_at shape k y → sector_at shape y ≡ sector_of k y
        → IsPayload (changed shape k n x from new) (member_slice m.place n) (data_sector + sector_at shape y) u → (y ≡ x) × (u ≡ from)
    alone y m u m_is y_is is =
        elim (which_of shape k n x from new (member_slice m.place n) (data_sector + sector_at shape y) u is) [
          | of_data at_d at_t is_u ↦
              let place = ap (λ (o : Member). o.place) (sym m_is) ∙ same_place m.place (data_at shape k x).place n at_d in
              let position = plain.apart (member_of k y) (member_of k x) (data_inside shape k y plain count) (data_inside shape k x plain count) place in
              let sector : sector_of k y ≡ sector_of k x = omega (arith, at_t, y_is) in
              (stands_once k y x (member_of k x) (sector_of k x) count.least (record { on_member = position; at_sector = sector }) (record { on_member = refl; at_sector = refl }), is_u)
          | of_parity at_d at_t is_u ↦
              let place = ap (λ (o : Member). o.place) (sym m_is) ∙ same_place m.place (parity_part shape k x).place n at_d in
              absurd (differ y (omega (arith, at_t, y_is)) place)
        ]

-- ---- the row agrees

-- a sector on a member, by its place
on_part : (shape : Shape) (k n s j i : ℕ) → IsPlain shape (parity k) → j < length shape.members → i < length shape.members
    → member_slice (part_at j shape.members).place n ≡ member_slice (part_at i shape.members).place n → j ≡ i
on_part shape k n s j i plain at_j at_i same = plain.apart j i at_j at_i (same_place (part_at j shape.members).place (part_at i shape.members).place n same)

written_at : (xs : List Target) (c : Image) (d t : ℕ) (o : Option (List ℕ)) → look xs d t ≡ o → written xs c d t ≡ unwrap_or o (c d t)
written_at xs c d t o is = ap (λ (p : Option (List ℕ)). unwrap_or p (c d t)) is

-- what the members have once both targets are written, and once the first is
record Changes (shape : Shape) (k n x : ℕ) (from new : List ℕ) (c : Image) (j : ℕ) : Type 0 where
  pub others : (j ≡ member_of k x → ⊥) → (j ≡ parity_at k (sector_of k x) → ⊥)
      → data_of (written (changed shape k n x from new) c) n (sector_of k x) (part_at j shape.members) ≡ data_of c n (sector_of k x) (part_at j shape.members)
  pub between : (j ≡ member_of k x → ⊥)
      → data_of (written (data_target shape k n x from ∷ []) c) n (sector_of k x) (part_at j shape.members) ≡ data_of c n (sector_of k x) (part_at j shape.members)

changes : (shape : Shape) (k n x : ℕ) (from new : List ℕ) (c : Image) (j : ℕ) → IsPlain shape (parity k) → IsMemberCount k → j < length shape.members
    → Changes shape k n x from new c j
changes shape k n x from new c j plain count at_j =
    let d = member_slice (part_at j shape.members).place n in
    let t = data_sector + sector_of k x in
    let to_data : (member_slice (part_at j shape.members).place n ≡ member_slice (data_at shape k x).place n) → j ≡ member_of k x =
    λ same. on_part shape k n 0 j (member_of k x) plain at_j (data_inside shape k x plain count) same in
    let to_parity : (member_slice (part_at j shape.members).place n ≡ member_slice (parity_part shape k x).place n) → j ≡ parity_at k (sector_of k x) =
    λ same. on_part shape k n 0 j (parity_at k (sector_of k x)) plain at_j (parity_inside shape k (sector_of k x) plain count) same in
    record {
      others = λ not_data not_parity.
          written_at (changed shape k n x from new) c d t None
          (no_target (changed shape k n x from new) d t
          (λ u is. elim (which_of shape k n x from new d t u is) [
            | of_data at_d at_t is_u ↦ not_data (to_data at_d)
            | of_parity at_d at_t is_u ↦ not_parity (to_parity at_d)
          ]));
      between = λ not_data.
          written_at (data_target shape k n x from ∷ []) c d t None
          (no_target (data_target shape k n x from ∷ []) d t
          (λ u is. elim is [
            | inl first ↦ not_data (to_data (at_is d t (data_target shape k n x from) first.0).0)
            | inr none ↦ absurd none
          ]));
    }

-- the two that are written
data_written : (shape : Shape) (k n x : ℕ) (from new : List ℕ) (c : Image) → IsPlain shape (parity k) → IsMemberCount k
    → data_of (written (changed shape k n x from new) c) n (sector_of k x) (data_at shape k x) ≡ from
data_written shape k n x from new c plain count =
    let d = member_slice (data_at shape k x).place n in
    let t = data_sector + sector_of k x in
    written_at (changed shape k n x from new) c d t (Some from)
    (look_one (changed shape k n x from new) d t from (inl (is_at_own (data_target shape k n x from), refl))
    (λ u is. elim (which_of shape k n x from new d t u is) [
      | of_data at_d at_t is_u ↦ is_u
      | of_parity at_d at_t is_u ↦
          absurd (apart_from_parity k x count.least (on_part shape k n 0 (member_of k x) (parity_at k (sector_of k x)) plain (data_inside shape k x plain count) (parity_inside shape k (sector_of k x) plain count) at_d))
    ]))

first_written : (shape : Shape) (k n x : ℕ) (from : List ℕ) (c : Image)
    → data_of (written (data_target shape k n x from ∷ []) c) n (sector_of k x) (data_at shape k x) ≡ from
first_written shape k n x from c =
    let d = member_slice (data_at shape k x).place n in
    let t = data_sector + sector_of k x in
    written_at (data_target shape k n x from ∷ []) c d t (Some from)
    (look_one (data_target shape k n x from ∷ []) d t from (inl (is_at_own (data_target shape k n x from), refl))
    (λ u is. elim is [ inl first ↦ first.1 | inr none ↦ absurd none ]))

parity_written : (shape : Shape) (k n x : ℕ) (from new : List ℕ) (c : Image) → IsPlain shape (parity k) → IsMemberCount k
    → data_of (written (changed shape k n x from new) c) n (sector_of k x) (parity_part shape k x) ≡ new
parity_written shape k n x from new c plain count =
    let d = member_slice (parity_part shape k x).place n in
    let t = data_sector + sector_of k x in
    written_at (changed shape k n x from new) c d t (Some new)
    (look_one (changed shape k n x from new) d t new (inr (inl (is_at_own (parity_target shape k n x new), refl)))
    (λ u is. elim (which_of shape k n x from new d t u is) [
      | of_parity at_d at_t is_u ↦ is_u
      | of_data at_d at_t is_u ↦
          absurd (apart_from_parity k x count.least (sym (on_part shape k n 0 (parity_at k (sector_of k x)) (member_of k x) plain (parity_inside shape k (sector_of k x) plain count) (data_inside shape k x plain count) at_d)))
    ]))

-- the parity that a write of x needs, by the contents
abbrev pub next_parity : Shape → ℕ → ℕ → ℕ → Image → List ℕ → List ℕ
next_parity shape k n x c from = xor (xor (data_of c n (sector_of k x) (parity_part shape k x)) (data_of c n (sector_of k x) (data_at shape k x))) from

row_even : (shape : Shape) (k n x : ℕ) (from : List ℕ) (c : Image) → IsPlain shape (parity k) → IsMemberCount k → length from ≡ 512
    → AreSized (data_of c n (sector_of k x)) shape.members
    → xor_all 512 (map (data_of c n (sector_of k x)) shape.members) ≡ zeros 512
    → xor_all 512 (map (data_of (written (changed shape k n x from (next_parity shape k n x c from)) c) n (sector_of k x)) shape.members) ≡ zeros 512
row_even shape k n x from c plain count wide sized agree =
    let s = sector_of k x in
    let p = member_of k x in
    let q = parity_at k s in
    let new = next_parity shape k n x c from in
    let members = shape.members in
    let g : Member → List ℕ = data_of c n s in
    let h : Member → List ℕ = data_of (written (changed shape k n x from new) c) n s in
    let one : Member → List ℕ = data_of (written (data_target shape k n x from ∷ []) c) n s in
    let at : (j : ℕ) → j < length members → Changes shape k n x from new c j = λ j inside. changes shape k n x from new c j plain count inside in
    let second : (j : ℕ) → j < length members → (j ≡ q → ⊥) → h (part_at j members) ≡ one (part_at j members) =
    λ j inside other.
    let Goal : Bool → Type 0 = λ b. (j == p) ≡ b → h (part_at j members) ≡ one (part_at j members) in
    let goal : Goal (j == p) =
    elim (j == p) as Goal [
      | true ↦ λ is.
          let same : p ≡ j = sym (eqb-true j p is) in
          let At : ℕ → Type 0 = λ i. h (part_at i members) ≡ one (part_at i members) in
          let here : At p = data_written shape k n x from new c plain count ∙ sym (first_written shape k n x from c) in
          subst At same here
      | false ↦ λ no.
          let not_data : j ≡ p → ⊥ = λ is. both_ways (j == p) no (eq-eqb j p is) in
          (at j inside).others not_data other ∙ sym ((at j inside).between not_data)
    ] in
    goal refl in
    let between_sized : AreSized one members =
    λ m among.
    let found = among_part members m among in
    let Goal : Bool → Type 0 = λ b. (found.0 == p) ≡ b → length (one (part_at found.0 members)) ≡ 512 in
    let goal : Goal (found.0 == p) =
    elim (found.0 == p) as Goal [
      | true ↦ λ is.
          let At : ℕ → Type 0 = λ i. length (one (part_at i members)) ≡ 512 in
          let here : At p = ap length (first_written shape k n x from c) ∙ wide in
          subst At (sym (eqb-true found.0 p is)) here
      | false ↦ λ no.
          ap length ((at found.0 found.1).between (λ is. both_ways (found.0 == p) no (eq-eqb found.0 p is))) ∙ sized (part_at found.0 members) (part_among found.0 members found.1)
    ] in
    subst (λ (o : Member). length (one o) ≡ 512) (sym found.2) (goal refl) in
    two_new g h p q members from (data_inside shape k x plain count) (parity_inside shape k s plain count) (apart_from_parity k x count.least) sized wide
    (λ j inside not_p not_q. (at j inside).others not_p not_q)
    one
    (λ j inside not_p. (at j inside).between not_p)
    second
    (first_written shape k n x from c)
    (parity_written shape k n x from new c plain count)
    agree
    between_sized

pub parity_even : (shape : Shape) (k n x resync : ℕ) (from : List ℕ) (c : Image) → IsPlain shape (parity k) → IsMemberCount k → length from ≡ 512
    → ((m : Member) (sector : ℕ) → Among m shape.members → sector < m.reach → length (data_of c n sector m) ≡ 512)
    → AreEven shape n resync c → AreEven shape n resync (written (changed shape k n x from (next_parity shape k n x c from)) c)
parity_even shape k n x resync from c plain count wide sized even y inside synced counting =
    let xs = changed shape k n x from (next_parity shape k n x c from) in
    let f : Image = written xs c in
    let layout = layout_at shape y in
    let sector = sector_in layout y in
    let y_is : sector ≡ sector_of k y = plain_sector shape (parity k) y plain in
    let all : take (width layout) shape.members ≡ shape.members =
    ap (λ (l : Layout). take (width l) shape.members) (plain.layout_is y) ∙ plain_take shape (parity k) plain in
    let count_all : (m : Member) → Among m shape.members → sector < m.reach =
    λ m among. counting m (subst (λ (ms : List Member). Among m ms) (sym all) among) in
    -- what the stripe of some contents is
    let row : (e : Image) → there (stripe_in e n shape layout sector) ≡ map (data_of e n sector) shape.members =
    λ e.
    ap (λ (ms : List Member). there (map (column e n sector) ms)) all
    ∙ ap there (columns_all e n sector shape.members count_all)
    ∙ there_all (map (data_of e n sector) shape.members) in
    let Goal : Bool → Type 0 = λ b. (sector == sector_of k x) ≡ b → AgreeIn layout (there (stripe_in f n shape layout sector)) in
    let goal : Goal (sector == sector_of k x) =
    elim (sector == sector_of k x) as Goal [
      | true ↦ λ same.
          let s_is : sector_of k x ≡ sector = sym (eqb-true sector (sector_of k x) same) in
          let old : xor_all 512 (map (data_of c n sector) shape.members) ≡ zeros 512 =
          subst (λ vs. AgreeIn (parity k) vs) (row c)
          (subst (λ (l : Layout). AgreeIn l (there (stripe_in c n shape layout sector))) (plain.layout_is y) (even y inside synced counting)) in
          let At : ℕ → Type 0 = λ s. xor_all 512 (map (data_of c n s) shape.members) ≡ zeros 512 in
          let Now : ℕ → Type 0 = λ s. xor_all 512 (map (data_of f n s) shape.members) ≡ zeros 512 in
          let old_x : At (sector_of k x) = subst At (sym s_is) old in
          let new_x : Now (sector_of k x) =
          row_even shape k n x from c plain count wide
          (λ m among. sized m (sector_of k x) among (let low = count_all m among in omega (arith, s_is, low))) old_x in
          let new : Now sector = subst Now s_is new_x in
          subst (λ (l : Layout). AgreeIn l (there (stripe_in f n shape layout sector))) (sym (plain.layout_is y))
          (subst (λ vs. AgreeIn (parity k) vs) (sym (row f)) new)
      | false ↦ λ other.
          subst (λ stripe. AgreeIn layout (there stripe))
          (sym (columns_same f c n sector (take (width layout) shape.members)
          (λ m among counts.
          written_at xs c (member_slice m.place n) (data_sector + sector) None
          (no_target xs (member_slice m.place n) (data_sector + sector)
          (λ u is.
          let not_same : sector ≡ sector_of k x → ⊥ = λ at. both_ways (sector == sector_of k x) other (eq-eqb sector (sector_of k x) at) in
          elim (which_of shape k n x from (next_parity shape k n x c from) (member_slice m.place n) (data_sector + sector) u is) [
            | of_data at_d at_t is_u ↦ not_same (omega (arith, at_t))
            | of_parity at_d at_t is_u ↦ not_same (omega (arith, at_t))
          ])))))
          (even y inside synced counting)
    ] in
    goal refl
