-- A row of which each member counts but one.
use Rattle.std.proofs.Common.{◌≡◌, ℕ, zero, suc, ◌+◌, ◌*◌, ◌<◌, ◌≤◌, Bool, true, false, ◌==◌, ◌&&◌, ◌||◌, not, nat_lt, if◌then◌else◌, map, length, slice_get, Option, refl, sym, ap, ap₂, subst, ◌∙◌, inl, inr, eq-eqb, lt-ltb, le-ltb, ltb-true, arith}
use Rattle.std.proofs.lemmas.Bool.{both_ways, cases_Bool, cases_lt, cases_eq, ne_eqb, and_parts, and_from, or_from, or_left, or_right, false_from_ne_true}
use Rattle.std.specs.List.{list_all, range_with_len}
use Rattle.std.specs.Option.{option_map_or}
use Rattle.md_super.specs.declared.superblock.Super.{Super}
use Rattle.array_image.specs.Arrays.{Member}
use Rattle.array_image.specs.Spent.{wanting, spent_with}
use Rattle.array_model.specs.declared.Seat.{Seat}
use Rattle.array_model.specs.View.{View, IsArray, LosesPlaces, member_on, place_at, seat_reach, shape_of}
use Rattle.array_model.specs.Members.{IsSameButSeats, members_of}
use Rattle.array_model.proofs.Filled.{two_want}
use Rattle.array_model.proofs.Noting.{length_members}
use Rattle.array_model.proofs.RowWrites.{part_on}
use Rattle.array_model.proofs.Spared.{at_most_one, synced_row}
use Rattle.array_model.proofs.Views.{member_then, shape_members}
use Rattle.array_core.specs.Superblocks.{adopted}
use Rattle.sync_laws.specs.Rows.{lacks_row, others_give, row_spent}
use Rattle.sync_laws.proofs.Agreeing.{all_counts}
use Rattle.sync_laws.proofs.Rebuilt.{IsRebuilding, next_same, other_kept, place_of_other, reach_before, row_change}
use Rattle.sync_laws.proofs.Summing.{lacks_one}

-- ---- lists by position

none_wants : (f : ℕ → Member) (t a n : ℕ) → ((j : ℕ) → a ≤ j → j < a + n → t < (f j).reach) → wanting t (map f (range_with_len a n)) ≡ 0
none_wants f t a zero counts = refl
none_wants f t a (suc n) counts =
    ap (λ (b : Bool). if b then wanting t (map f (range_with_len (a + 1) n)) else suc (wanting t (map f (range_with_len (a + 1) n))))
    (lt-ltb t (f a).reach (counts a (omega arith) (omega arith)))
    ∙ none_wants f t (a + 1) n (λ j least most. counts j (omega (arith, least)) (omega (arith, most)))

-- at most one is wanting where all others count
few_want : (f : ℕ → Member) (t p a n : ℕ) → ((j : ℕ) → a ≤ j → j < a + n → (j ≡ p → ⊥) → t < (f j).reach) → wanting t (map f (range_with_len a n)) ≤ 1
few_want f t p a zero counts = omega arith
few_want f t p a (suc n) counts =
    elim (cases_eq a p) [
      | inl same ↦
          let none = none_wants f t (a + 1) n (λ j least most. counts j (omega (arith, least)) (omega (arith, most)) (λ at. omega (arith, least, same, at))) in
          by (nat_lt t (f a).reach) (wanting t (map f (range_with_len (a + 1) n))) (omega (arith, none))
      | inr other ↦
          let rest = few_want f t p (a + 1) n (λ j least most. counts j (omega (arith, least)) (omega (arith, most))) in
          subst (λ (k : ℕ). k ≤ 1)
          (sym (ap (λ (b : Bool). if b then wanting t (map f (range_with_len (a + 1) n)) else suc (wanting t (map f (range_with_len (a + 1) n))))
          (lt-ltb t (f a).reach (counts a (omega arith) (omega arith) other))))
          rest
    ]
  where
    by : (b : Bool) (k : ℕ) → k ≤ 0 → (if b then k else suc k) ≤ 1
    by true k none = omega (arith, none)
    by false k none = omega (arith, none)

all_in : {X : Type 0} (f : ℕ → X) (g : X → Bool) (a n : ℕ) → ((j : ℕ) → a ≤ j → j < a + n → g (f j) ≡ true) → list_all g (map f (range_with_len a n)) ≡ true
all_in f g a zero each = refl
all_in f g a (suc n) each =
    and_from (g (f a)) (list_all g (map f (range_with_len (a + 1) n))) (each a (omega arith) (omega arith))
    (all_in f g (a + 1) n (λ j least most. each j (omega (arith, least)) (omega (arith, most))))

each_in : {X : Type 0} (f : ℕ → X) (g : X → Bool) (a n j : ℕ) → list_all g (map f (range_with_len a n)) ≡ true → a ≤ j → j < a + n → g (f j) ≡ true
each_in f g a zero j all least most = absurd (omega (arith, least, most))
each_in f g a (suc n) j all least most =
    let parts = and_parts (g (f a)) (list_all g (map f (range_with_len (a + 1) n))) all in
    elim (cases_lt a j) [
      | inl less ↦ each_in f g (a + 1) n j parts.1 (omega (arith, less)) (omega (arith, most))
      | inr more ↦ (let same : a ≡ j = omega (arith, least, more) in subst (λ (k : ℕ). g (f k) ≡ true) same parts.0)
    ]

same_tests : {X : Type 0} (f h : ℕ → X) (g : X → Bool) (a n : ℕ) → ((j : ℕ) → a ≤ j → j < a + n → g (f j) ≡ g (h j)) → list_all g (map f (range_with_len a n)) ≡ list_all g (map h (range_with_len a n))
same_tests f h g a zero same = refl
same_tests f h g a (suc n) same =
    ap₂ (λ (p q : Bool). p && q) (same a (omega arith) (omega arith)) (same_tests f h g (a + 1) n (λ j least most. same j (omega (arith, least)) (omega (arith, most))))

-- ---- the row's members

-- the test of one member
abbrev pub gives : ℕ → ℕ → Member → Bool
gives place t m = (m.place == place) || nat_lt t m.reach

counts_or : (v : View) (t j : ℕ) → (nat_lt t (member_on v j).reach ≡ false → ⊥) → t < (member_on v j).reach
counts_or v t j other = elim (cases_Bool (nat_lt t (member_on v j).reach)) [ inl is ↦ ltb-true t (member_on v j).reach is | inr none ↦ absurd (other none) ]

-- where at most one is wanting all but it count
pub others_count : (v : View) (p t j : ℕ) → nat_lt t (member_on v p).reach ≡ false → wanting t (members_of v) ≤ 1 → p < v.truth.raid_disks
    → j < v.truth.raid_disks → (j ≡ p → ⊥) → t < (member_on v j).reach
others_count v p t j lacks few low_p low_j other =
    counts_or v t j
    (λ none.
    let ms = (shape_of v).members in
    let count : length ms ≡ v.truth.raid_disks = ap length (shape_members v) ∙ length_members v in
    let two = two_want t p j ms (omega (arith, count, low_p)) (omega (arith, count, low_j)) (λ same. other (sym same))
    (ap (λ (m : Member). nat_lt t m.reach) (part_on v p low_p) ∙ lacks) (ap (λ (m : Member). nat_lt t m.reach) (part_on v j low_j) ∙ none) in
    let same : wanting t ms ≡ wanting t (members_of v) = ap (wanting t) (shape_members v) in
    omega (arith, two, few, same))

pub others_few : (v : View) (p t : ℕ) → ((j : ℕ) → j < v.truth.raid_disks → (j ≡ p → ⊥) → t < (member_on v j).reach) → wanting t (members_of v) ≤ 1
others_few v p t counts = few_want (member_on v) t p 0 v.truth.raid_disks (λ j least most other. counts j (omega (arith, most)) other)

-- as many are wanting where members count alike
wanting_alike : (f h : ℕ → Member) (t a n : ℕ) → ((j : ℕ) → a ≤ j → j < a + n → nat_lt t (f j).reach ≡ nat_lt t (h j).reach) → wanting t (map f (range_with_len a n)) ≡ wanting t (map h (range_with_len a n))
wanting_alike f h t a zero same = refl
wanting_alike f h t a (suc n) same =
    ap₂ (λ (b : Bool) (k : ℕ). if b then k else suc k) (same a (omega arith) (omega arith))
    (wanting_alike f h t (a + 1) n (λ j least most. same j (omega (arith, least)) (omega (arith, most))))

pub same_wanting : (v w : View) (t : ℕ) → w.truth.raid_disks ≡ v.truth.raid_disks → ((j : ℕ) → j < v.truth.raid_disks → nat_lt t (member_on w j).reach ≡ nat_lt t (member_on v j).reach)
    → wanting t (members_of w) ≡ wanting t (members_of v)
same_wanting v w t disks same =
    ap (λ (n : ℕ). wanting t (map (member_on w) (range_with_len 0 n))) disks
    ∙ wanting_alike (member_on w) (member_on v) t 0 v.truth.raid_disks (λ j least most. same j (omega (arith, most)))

-- all but one count in a row, which isn't left to resync
pub record OthersGive (v : View) (p row : ℕ) : Type 0 where
  pub counts : (j : ℕ) → j < v.truth.raid_disks → (j ≡ p → ⊥) → row * 128 + 127 < (member_on v j).reach
  pub synced : row < v.resync

-- so it is where the row isn't spent and that one doesn't count
pub unspent_others : (v : View) (p row : ℕ) → p < v.truth.raid_disks → nat_lt (row * 128 + 127) (member_on v p).reach ≡ false → row_spent v row ≡ false → OthersGive v p row
unspent_others v p row low lacks unspent =
    let t = row * 128 + 127 in
    let n = wanting t (members_of v) in
    record {
      counts = λ j inside other. others_count v p t j lacks (at_most_one n (nat_lt row v.resync) unspent) low inside other;
      synced = ltb-true row v.resync (synced_row n (nat_lt row v.resync) (lacks_one v p t low lacks) unspent);
    }

pub unspent_few : (n : ℕ) (synced : Bool) → n ≤ 1 → synced ≡ true → spent_with n synced ≡ false
unspent_few n synced few is = or_from (nat_lt 1 n) (nat_lt 0 n && not synced) (le-ltb 1 n few) (ap (λ (b : Bool). nat_lt 0 n && not b) is ∙ none (nat_lt 0 n))
  where
    none : (b : Bool) → (b && false) ≡ false
    none true = refl
    none false = refl

others_unspent : (v : View) (p row : ℕ) → OthersGive v p row → row_spent v row ≡ false
others_unspent v p row others =
    let t = row * 128 + 127 in
    unspent_few (wanting t (members_of v)) (nat_lt row v.resync)
    (others_few v p t others.counts)
    (lt-ltb row v.resync others.synced)

-- the same by a test
others_all : (v : View) (place p row : ℕ) → place_at v p ≡ place → OthersGive v p row → others_give v place row ≡ true
others_all v place p row at others =
    let t = row * 128 + 127 in
    and_from (list_all (gives place t) (members_of v)) (nat_lt row v.resync)
    (all_in (member_on v) (gives place t) 0 v.truth.raid_disks
    (λ j least most. elim (cases_eq j p) [
      | inl same ↦ or_left (place_at v j == place) (nat_lt t (member_on v j).reach) (eq-eqb (place_at v j) place (ap (place_at v) same ∙ at))
      | inr other ↦ or_right (place_at v j == place) (nat_lt t (member_on v j).reach) (lt-ltb t (member_on v j).reach (others.counts j (omega (arith, most)) other))
    ]))
    (lt-ltb row v.resync others.synced)

others_each : (v : View) (place p row : ℕ) → ((j : ℕ) → j < v.truth.raid_disks → (j ≡ p → ⊥) → place_at v j ≡ place → ⊥) → others_give v place row ≡ true → OthersGive v p row
others_each v place p row apart all =
    let t = row * 128 + 127 in
    let parts = and_parts (list_all (gives place t) (members_of v)) (nat_lt row v.resync) all in
    record {
      counts = λ j low other.
          ltb-true t (member_on v j).reach
          (sym (ap (λ (b : Bool). b || nat_lt t (member_on v j).reach) (ne_eqb (place_at v j) place (apart j low other)))
          ∙ each_in (member_on v) (gives place t) 0 v.truth.raid_disks j parts.0 (omega arith) (omega (arith, low)));
      synced = ltb-true row v.resync parts.1;
    }

-- whether the others give a row of a member that doesn't count
pub give_unless : (v : View) (place p row : ℕ) → place_at v p ≡ place → ((j : ℕ) → j < v.truth.raid_disks → (j ≡ p → ⊥) → place_at v j ≡ place → ⊥)
    → p < v.truth.raid_disks → nat_lt (row * 128 + 127) (member_on v p).reach ≡ false
    → others_give v place row ≡ not (row_spent v row)
give_unless v place p row at apart low lacks =
    let Goal : Bool → Type 0 = λ b. row_spent v row ≡ b → others_give v place row ≡ not b in
    let goal : Goal (row_spent v row) = elim (row_spent v row) as Goal [
      | false ↦ λ unspent. others_all v place p row at (unspent_others v p row low lacks unspent)
      | true ↦ λ spent. false_from_ne_true (others_give v place row) (λ all. both_ways (row_spent v row) (others_unspent v p row (others_each v place p row apart all)) spent)
    ] in
    goal refl

-- ---- before and after losses and the change

-- a member that counts anywhere has lost nothing
pub reach_kept : (v z : View) (lost : ℕ → Bool) (k t : ℕ) → z.truth ≡ v.truth → LosesPlaces v z lost → t < (member_on z k).reach → (member_on z k).reach ≡ (member_on v k).reach
reach_kept v z lost k t truth loses counts =
    let is = member_then v z lost k truth loses in
    ap (λ (m : Member). m.reach) is ∙ kept (lost (place_at v k)) (subst (λ (m : Member). t < m.reach) is counts)
  where
    kept : (b : Bool) → t < (if b then 0 else (member_on v k).reach) → (if b then 0 else (member_on v k).reach) ≡ (member_on v k).reach
    kept true less = absurd (omega (arith, less))
    kept false less = refl

-- where all members counted in a later row, a row that lacks one now lacks it from an earlier one on
pub lacks_first : (v z : View) (lost : ℕ → Bool) (first last : ℕ) → z.truth ≡ v.truth → LosesPlaces v z lost → lacks_row v last ≡ false → lacks_row z last ≡ true → lacks_row z first ≡ true
lacks_first v z lost first last truth loses counted lacks = by (lacks_row z first) refl
  where
    count : z.truth.raid_disks ≡ v.truth.raid_disks
    count = ap (λ (t : Super). t.raid_disks) truth

    each : lacks_row z first ≡ false → (j : ℕ) → j < z.truth.raid_disks → last * 128 + 127 < (member_on z j).reach
    each whole j low =
        let here = all_counts z first j (first * 128) whole low (omega arith) in
        let same = reach_kept v z lost j (first * 128) truth loses here in
        let disks = count in
        let before = all_counts v last j (last * 128 + 127) counted (omega (arith, low, disks)) (omega arith) in
        omega (arith, same, before)

    by : (b : Bool) → lacks_row z first ≡ b → lacks_row z first ≡ true
    by true is = is
    by false is =
        absurd (both_ways (lacks_row z last) (ap (nat_lt 0) (none_wants (member_on z) (last * 128 + 127) 0 z.truth.raid_disks (λ j least most. each is j (omega (arith, most))))) lacks)

-- a member that doesn't count never does again
pub stays_lacking : (v z : View) (lost : ℕ → Bool) (k t : ℕ) → z.truth ≡ v.truth → LosesPlaces v z lost → nat_lt t (member_on v k).reach ≡ false → nat_lt t (member_on z k).reach ≡ false
stays_lacking v z lost k t truth loses none =
    ap (λ (m : Member). nat_lt t m.reach) (member_then v z lost k truth loses) ∙ by (lost (place_at v k))
  where
    by : (b : Bool) → nat_lt t (if b then 0 else (member_on v k).reach) ≡ false
    by true = le-ltb t 0 (omega arith)
    by false = none

module _ (v : View) (place p to rows : ℕ) (is : IsRebuilding v place p to rows) (z : View) (same : IsSameButSeats v z) (lost : ℕ → Bool) (loses : LosesPlaces v z lost) where
  place_now : (k : ℕ) → place_at z k ≡ place_at v k
  place_now k = ap (λ (t : Super). place_at (record z { truth = t }) k) same.truth

  count : z.truth.raid_disks ≡ v.truth.raid_disks
  count = ap (λ (t : Super). t.raid_disks) same.truth

  -- the row that is rebuilt
  pub lacks_now : (row : ℕ) → to ≤ row * 128 → nat_lt (row * 128 + 127) (member_on z p).reach ≡ false
  lacks_now row past =
      let reach = reach_before v place p to rows is in
      stays_lacking v z lost p (row * 128 + 127) same.truth loses (le-ltb (row * 128 + 127) (member_on v p).reach (omega (arith, reach, past)))

  pub give_now : (row : ℕ) → to ≤ row * 128 → others_give z place row ≡ not (row_spent z row)
  give_now row past =
      let low = is.low in
      let disks = count in
      give_unless z place p row (place_now p ∙ is.at)
      (λ j inside other at. place_of_other v place p to rows is j (omega (arith, inside, disks)) other (sym (place_now j) ∙ at))
      (omega (arith, low, disks)) (lacks_now row past)

  -- where the others gave a later row, a row that is spent now is so from an earlier one on
  pub spent_first : (first last : ℕ) → to ≤ first * 128 → first ≤ last → row_spent v last ≡ false → row_spent z last ≡ true → row_spent z first ≡ true
  spent_first first last past order given spent = by (row_spent z first) refl
    where
      others : row_spent z first ≡ false → OthersGive z p last
      others unspent =
          let low = is.low in
          let disks = count in
          let reach = reach_before v place p to rows is in
          let now = unspent_others z p first (omega (arith, low, disks)) (lacks_now first past) unspent in
          let before = unspent_others v p last is.low (le-ltb (last * 128 + 127) (member_on v p).reach (omega (arith, reach, past, order))) given in
          record {
            counts = λ j inside other.
                let here = now.counts j inside other in
                let same_reach = reach_kept v z lost j (first * 128 + 127) same.truth loses here in
                let there = before.counts j (omega (arith, inside, disks)) other in
                omega (arith, same_reach, there);
            synced = (let synced = before.synced in let kept = same.resync in omega (arith, synced, kept));
          }

      by : (b : Bool) → row_spent z first ≡ b → row_spent z first ≡ true
      by true is_spent = is_spent
      by false unspent = absurd (both_ways (row_spent z last) (others_unspent z p last (others unspent)) spent)

  -- the change leaves the others
  pub give_after : IsArray z → (row : ℕ) → others_give (adopted (row_change v place rows) z) place row ≡ others_give z place row
  give_after z_array row =
      let t = row * 128 + 127 in
      let w = adopted (row_change v place rows) z in
      let kept = next_same v place p to rows is z z_array same in
      ap₂ (λ (b c : Bool). b && c)
      (same_tests (member_on w) (member_on z) (gives place t) 0 v.truth.raid_disks (λ j least most. test z_array t j)
      ∙ ap (λ (n : ℕ). list_all (gives place t) (map (member_on z) (range_with_len 0 n))) (sym count))
      (ap (nat_lt row) (kept.resync ∙ sym same.resync))
    where
      by_place : (t q : ℕ) (b : Bool) (n m : ℕ) → (q == place) ≡ b → (b ≡ false → n ≡ m) → ((q == place) || nat_lt t n) ≡ ((q == place) || nat_lt t m)
      by_place t q true n m here kept = ap (λ (b : Bool). b || nat_lt t n) here ∙ sym (ap (λ (b : Bool). b || nat_lt t m) here)
      by_place t q false n m here kept = ap (λ (k : ℕ). (q == place) || nat_lt t k) (kept refl)

      test : IsArray z → (t j : ℕ) → gives place t (member_on (adopted (row_change v place rows) z) j) ≡ gives place t (member_on z j)
      test z_array t j =
          by_place t (place_at v j) (place_at v j == place) (member_on (adopted (row_change v place rows) z) j).reach (member_on z j).reach refl
          (λ other.
          ap (λ (o : Option Seat). option_map_or (seat_reach v.truth.size) o 0) (other_kept v place p to rows is z z_array same j (λ at. both_ways (place_at v j == place) other (eq-eqb (place_at v j) place at)))
          ∙ ap (λ (u : Super). option_map_or (seat_reach u.size) (slice_get z.seats j) 0) (sym same.truth))
          ∙ ap (λ (q : ℕ). (q == place) || nat_lt t (member_on z j).reach) (sym (place_now j))
