-- A mirror of which one member at most is left: it is written past the log.
use Rattle.std.proofs.Common.{◌≡◌, ℕ, suc, ◌+◌, ◌<◌, ◌≤◌, Bool, true, false, ◌&&◌, ◌||◌, not, nat_lt, nat_le, if◌then◌else◌, List, [], ◌∷◌, take, length, slice_get, Option, Some, None, unwrap_or, refl, sym, ap, subst, ◌∙◌, inl, inr, lt-ltb, ltb-true, arith}
use Rattle.std.proofs.lemmas.Bool.{both_ways, and_parts, leb-true}
use Rattle.std.specs.List.{list_all}
use Rattle.std.specs.Option.{option_map_or}
use Rattle.rack.specs.Seen.{Image, RackView}
use Rattle.rack.specs.Targets.{Target, target, look}
use Rattle.rack.specs.Sequences.{IsPayload}
use Rattle.md_super.specs.Profile.{is_mirror}
use Rattle.raid_map.specs.LeftSymmetric.{row_at}
use Rattle.array_image.specs.Places.{member_slice, data_sector}
use Rattle.array_image.specs.Stripes.{Layout, mirror, parity, width}
use Rattle.array_image.specs.Supers.{is_reshaping}
use Rattle.array_image.specs.Arrays.{Member, final_layout, layout_at}
use Rattle.array_image.specs.Even.{AreEven}
use Rattle.array_image.specs.Held.{Among, current_in, first_counting}
use Rattle.array_image.proofs.Sources.{source_counts}
use Rattle.array_image.specs.Spent.{wanting, spent_with}
use Rattle.array_model.specs.declared.Seat.{Seat}
use Rattle.array_model.specs.declared.Seat.TheVariants.{Missing, Whole, Rebuilding}
use Rattle.array_model.specs.View.{View, IsArray, is_alone, is_whole_array, is_whole_seat, member_on, present, seat_reach, shape_of, spent_in}
use Rattle.array_model.specs.Members.{slice_on}
use Rattle.array_model.specs.Rows.{IsPlain, Owes, sector_at, source_at, written}
use Rattle.array_model.proofs.Copies.{all_want}
use Rattle.array_model.proofs.Firsts.{firsts, member_among}
use Rattle.array_model.proofs.Layouts.{final_by, reshaping_parity}
use Rattle.array_model.proofs.Noting.{length_members}
use Rattle.array_model.proofs.Parts.{at_is, is_at_own, look_one, plain_sector, plain_source, plain_take}
use Rattle.array_model.proofs.RowWrites.{IsPastLog, plain_shape, whole_parts}
use Rattle.array_model.proofs.Views.{shape_members}

-- ---- seats

missing_one : (seats : List Seat) → present seats < length seats → (n : ℕ) × (n < length seats) × (slice_get seats n ≡ Some Missing)
missing_one [] low = absurd (omega (arith, low))
missing_one (Missing ∷ seats) low = (0, omega arith, refl)
missing_one (Whole ∷ seats) low = let rest = missing_one seats (omega (arith, low)) in (suc rest.0, omega (arith, rest.1), rest.2)
missing_one (Rebuilding to ∷ seats) low = let rest = missing_one seats (omega (arith, low)) in (suc rest.0, omega (arith, rest.1), rest.2)

present_whole : (seats : List Seat) → list_all is_whole_seat seats ≡ true → present seats ≡ length seats
present_whole [] all = refl
present_whole (Whole ∷ seats) all = ap suc (present_whole seats all)
present_whole (Missing ∷ seats) all = absurd (both_ways false refl all)
present_whole (Rebuilding to ∷ seats) all = absurd (both_ways false refl all)

many_spent : (lacking : ℕ) (synced : Bool) → 2 ≤ lacking → spent_with lacking synced ≡ true
many_spent lacking synced many = ap (λ (b : Bool). b || (nat_lt 0 lacking && not synced)) (lt-ltb 1 lacking (omega (arith, many)))

pub first_counts : (t : ℕ) (members : List Member) (m : Member) → first_counting t members ≡ Some m → t < m.reach
unfolding first_counting
first_counts t [] m is = cc
first_counts t (first ∷ others) m is =
    let Goal : Bool → Type 0 = λ b. nat_lt t first.reach ≡ b → (if b then Some first else first_counting t others) ≡ Some m → t < m.reach in
    let goal : Goal (nat_lt t first.reach) = elim (nat_lt t first.reach) as Goal [
      | true ↦ λ low here. subst (λ (o : Member). t < o.reach) (ap (λ o. unwrap_or o first) here) (ltb-true t first.reach low)
      | false ↦ λ none later. first_counts t others m later
    ] in
    goal refl is

module _ (v : View) (is_array : IsArray v) (alone : is_alone v ≡ true) where
  few : present v.seats ≤ 1
  few = leb-true (present v.seats) 1 (and_parts (is_mirror v.truth) (nat_le (present v.seats) 1) alone).1

  layout : final_layout v.truth ≡ mirror v.truth.raid_disks
  layout = final_by v true (and_parts (is_mirror v.truth) (nat_le (present v.seats) 1) alone).0

  still : is_reshaping v.truth ≡ false
  still =
      let Goal : Bool → Type 0 = λ b. is_reshaping v.truth ≡ b → b ≡ false in
      let goal : Goal (is_reshaping v.truth) = elim (is_reshaping v.truth) as Goal [
        | true ↦ λ is. let bad : mirror v.truth.raid_disks ≡ parity v.truth.raid_disks = sym layout ∙ reshaping_parity v is_array is in absurd (cc)
        | false ↦ λ is. refl
      ] in
      goal refl

  plain : IsPlain (shape_of v) (mirror v.truth.raid_disks)
  plain = subst (λ (l : Layout). IsPlain (shape_of v) l) layout (plain_shape v is_array still)

  pub alone_lacks : is_whole_array v ≡ false
  alone_lacks =
      let Goal : Bool → Type 0 = λ b. is_whole_array v ≡ b → b ≡ false in
      let goal : Goal (is_whole_array v) = elim (is_whole_array v) as Goal [
        | true ↦ λ is.
            let all = present_whole v.seats (whole_parts v is).0 in
            let low = few in
            absurd (omega (arith, all, low, is_array.seats, is_array.least))
        | false ↦ λ is. refl
      ] in
      goal refl

  missing : (n : ℕ) × (n < v.truth.raid_disks) × ((member_on v n).reach ≡ 0)
  missing =
      let low = few in
      let one = missing_one v.seats (omega (arith, low, is_array.seats, is_array.least)) in
      (one.0, omega (arith, one.1, is_array.seats), ap (λ o. option_map_or (seat_reach v.truth.size) o 0) one.2)

  -- so no row has all members
  alone_even : (rows : ℕ) (c : Image) → AreEven (shape_of v) v.number rows c
  alone_even rows c x inside synced counts =
      let one = missing in
      let all : take (width (layout_at (shape_of v) x)) (shape_of v).members ≡ (shape_of v).members =
      ap (λ (l : Layout). take (width l) (shape_of v).members) (plain.layout_is x) ∙ plain_take (shape_of v) (mirror v.truth.raid_disks) plain in
      let among : Among (member_on v one.0) (shape_of v).members =
      subst (λ ms. Among (member_on v one.0) ms) (sym (shape_members v)) (member_among v one.0 v.truth.raid_disks one.1) in
      let low = counts (member_on v one.0) (subst (λ ms. Among (member_on v one.0) ms) (sym all) among) in
      absurd (omega (arith, low, one.2))

  -- a sector's source is the first member that counts
  source_is : (y : ℕ) → source_at (shape_of v) y ≡ first_counting y (firsts v v.truth.raid_disks)
  source_is y =
      plain_source (shape_of v) (mirror v.truth.raid_disks) y plain
      ∙ ap (first_counting y) (plain_take (shape_of v) (mirror v.truth.raid_disks) plain ∙ shape_members v)

  at : (y : ℕ) → sector_at (shape_of v) y ≡ y
  at y = plain_sector (shape_of v) (mirror v.truth.raid_disks) y plain

  pub alone_spent : (y : ℕ) → first_counting y (firsts v v.truth.raid_disks) ≡ None → spent_in v y ≡ true
  alone_spent y none =
      let long : wanting y (shape_of v).members ≡ length (firsts v v.truth.raid_disks) = ap (wanting y) (shape_members v) ∙ all_want y (firsts v v.truth.raid_disks) none in
      let count = length_members v in
      ap (λ t. spent_with (wanting t (shape_of v).members) (nat_lt (row_at t) v.resync)) (at y)
      ∙ many_spent (wanting y (shape_of v).members) (nat_lt (row_at y) v.resync) (omega (arith, long, count, is_array.least))

  pub alone_past : IsPastLog v
  alone_past = record {
    vary = or_true v.marked (is_alone v) alone;
    agree = inr alone_even;
    sources = λ y unspent.
        let Goal : Option Member → Type 0 = λ o. first_counting y (firsts v v.truth.raid_disks) ≡ o → (m : Member) × (source_at (shape_of v) y ≡ Some m) in
        let goal : Goal (first_counting y (firsts v v.truth.raid_disks)) = elim (first_counting y (firsts v v.truth.raid_disks)) as Goal [
          | Some m ↦ λ is. (m, source_is y ∙ is)
          | None ↦ λ none. absurd (both_ways (spent_in v y) unspent (alone_spent y none))
        ] in
        goal refl;
  }
    where
      or_true : (p q : Bool) → q ≡ true → (p || q) ≡ true
      or_true true q is = refl
      or_true false q is = is

  -- its sector is the row
  pub alone_owes : (a : RackView) (x k : ℕ) (from : List ℕ) → first_counting x (firsts v v.truth.raid_disks) ≡ Some (member_on v k) → length from ≡ 512
      → Owes v a x from (target (slice_on v k) (data_sector + x) from ∷ [])
  alone_owes a x k from is wide = record {
    row = record {
      own = λ d t u one. let here = payload d t u one in (member_on v k, x, here.0, here.1, (source_counts (shape_of v) x (member_on v k) (source_is x ∙ is)).among);
      sized = λ d t u one. ap length (payload d t u one).2 ∙ wide;
      alone = λ y m u source one.
          let here = payload (member_slice m.place v.number) (data_sector + sector_at (shape_of v) y) u one in
          let same = at y in
          (omega (arith, here.1, same), here.2);
      change = λ m source.
          subst (λ t. look xs (member_slice m.place v.number) (data_sector + t) ≡ Some from) (sym (at x))
          (subst (λ (o : Member). look xs (member_slice o.place v.number) (data_sector + x) ≡ Some from) (some_same (member_on v k) m (sym is ∙ sym (source_is x) ∙ source))
          (look_one xs (slice_on v k) (data_sector + x) from (inl (is_at_own (target (slice_on v k) (data_sector + x) from), refl))
          (λ u one. (payload (slice_on v k) (data_sector + x) u one).2)));
    };
    even = λ opened sized even. alone_even v.resync (written xs (current_in a.held));
  }
    where
      xs : List Target
      xs = target (slice_on v k) (data_sector + x) from ∷ []

      payload : (d t : ℕ) (u : List ℕ) → IsPayload (target (slice_on v k) (data_sector + x) from ∷ []) d t u → (d ≡ slice_on v k) × (t ≡ data_sector + x) × (u ≡ from)
      payload d t u (inl here) = let where_is = at_is d t (target (slice_on v k) (data_sector + x) from) here.0 in (where_is.0, where_is.1, here.1)
      payload d t u (inr none) = absurd none

      some_same : (m o : Member) → Some m ≡ Some o → m ≡ o
      some_same m o same = ap (λ p. option_map_or (λ z. z) p m) same
