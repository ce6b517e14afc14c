-- Any one drive of a whole pool may be absent: the disks without its disk mean what all of them mean.
use Rattle.std.proofs.Common.{◌≡◌, ◌≢◌, ℕ, zero, suc, ◌+◌, ◌<◌, ◌≤◌, ◌*◌, ◌-◌, ◌==◌, ◌&&◌, ◌||◌, not, Bool, true, false, if◌then◌else◌, is_none, is_some, List, [], ◌∷◌, find, filter, length, Option, Some, None, option_map, refl, sym, ap, ap₂, subst, ◌∙◌, inl, inr, arith}
use Rattle.std.specs.Option.{option_and_then, option_map_or}
use Rattle.std.specs.List.{range_with_len}
use Rattle.std.proofs.Math.Nat.{mul-le-mul_right}
use Rattle.std.proofs.lemmas.Bool.{and_parts, both_ways, cases_eq}
use Rattle.std.proofs.lemmas.List.Sums.{length-filter}
use Rattle.rack.specs.Seen.{Image}
use Rattle.pool_state.specs.declared.contents.State.{State}
use Rattle.array_image.specs.Arrays.{Shape, first_layout, sectors_by, shape_by, value_by}
use Rattle.array_image.specs.Record.{GateAt, gate_of, gate_sector, is_bad_gate, is_there, record_in}
use Rattle.array_image.specs.States.{current_places, is_current}
use Rattle.array_image.specs.Stripes.{Layout, capacity, mirror, parity, width}
use Rattle.array_model.proofs.Noting.{first_is}
use Rattle.pool_image.specs.Alike.{drive_gate}
use Rattle.pool_image.specs.Disks.{Disks, identities_of, newest}
use Rattle.pool_image.specs.Drives.{Found, slices_of}
use Rattle.pool_image.specs.Meaning.{Refusal, absent_count, array_sectors, damage_of, damage_on, has_log, has_supers, has_table, is_dirty_degraded, is_member, is_table, is_too_few, joined_arrays, meaning, no_pool, refusal_of, refused_at, refused_by, shape_of, super_at, two_pools, volumes_of}
use Rattle.pool_image.specs.Sound.{AreSame, IsSafeInAbsence, disks_without, image_without}
use Rattle.pool_image.specs.Volumes.{first_bad}
use Rattle.pool_image.proofs.Groups.{AreWholeArrays}
use Rattle.pool_image.proofs.Joined.{AreAlike, bad_kept, volumes_kept}
use Rattle.pool_image.proofs.Rested.{gate_block}
use Rattle.pool_image.proofs.Wholes.{value_sized}
use Rattle.pool_model.specs.Absent.{IsWholePool}
use Rattle.pool_model.proofs.Found.{valid}
use Rattle.pool_model.proofs.Members.{facts, few, long, sized, t as truth, t_is}
use Rattle.pool_model.proofs.Spare.{is_array, whole_view}
use Rattle.pool_model.proofs.Skipped.{back}
use Rattle.pool_model.proofs.Standing.{closed_at, pool_at}
use Rattle.pool_model.proofs.Away.{disk_back, drive_now, idle_now, is_found, logs_now, none_now, seat_there, seats_now}
use Rattle.pool_model.proofs.Undamaged.{all_below, members_alike}
use Rattle.pool_model.proofs.Unrefused.{IsUndamaged, found_now, means_of, no_damage, no_damages, not_refused, one_pool, parts_of, stands_now, unrefused}
use Rattle.pool_model.proofs.Without.{enough, in_sync, lies_now, member_now, sectors_now, super_now, value_now}
use Rattle.pool_scan.proofs.Valid.{valid_arrays}
use Rattle.pool_check.proofs.Valid.{valid_fit}

-- ---- lists

pub find_none : (test : ℕ → Bool) (a m : ℕ) → ((n : ℕ) → n < a + m → test n ≡ false) → find test (range_with_len a m) ≡ None
find_none test a zero none = refl
find_none test a (suc m) none = ap (λ (b : Bool). if b then Some a else find test (range_with_len (a + 1) m)) (none a (omega arith)) ∙ find_none test (a + 1) m (λ n low. none n (omega (arith, low)))

-- of the kept ones of a range only one passes: none where it lies before the range
module _ (test keep : ℕ → Bool) (p : ℕ) (only : (n : ℕ) → n ≢ p → keep n ≡ true → test n ≡ false) where
  abbrev passing : List ℕ → ℕ
  passing ns = length (filter test (filter keep ns))

  passed : (a : ℕ) (ns : List ℕ) (most : ℕ) → passing ns ≤ most → a ≢ p → passing (a ∷ ns) ≤ most
  passed a ns most few other = of (keep a) refl
    where
      rest : List ℕ
      rest = filter keep ns

      of : (b : Bool) → keep a ≡ b → length (filter test (if b then a ∷ rest else rest)) ≤ most
      of false is = few
      of true is =
          let same = ap (λ (b : Bool). length (if b then a ∷ filter test rest else filter test rest)) (only a other is) in
          omega (arith, same, few)

  none_kept : (a m : ℕ) → p < a → passing (range_with_len a m) ≤ 0
  none_kept a zero past = omega arith
  none_kept a (suc m) past = passed a (range_with_len (a + 1) m) 0 (none_kept (a + 1) m (omega (arith, past))) (λ same. omega (arith, same, past))

  one_kept : (a m : ℕ) → passing (range_with_len a m) ≤ 1
  one_kept a zero = omega arith
  one_kept a (suc m) = elim (cases_eq a p) [
    | inl same ↦ first (keep a) (none_kept (a + 1) m (omega (arith, same)))
    | inr other ↦ passed a (range_with_len (a + 1) m) 1 (one_kept (a + 1) m) other
  ]
    where
      rest : List ℕ
      rest = filter keep (range_with_len (a + 1) m)

      counted : (e : Bool) → length (filter test rest) ≤ 0 → length (if e then a ∷ filter test rest else filter test rest) ≤ 1
      counted true none = omega (arith, none)
      counted false none = omega (arith, none)

      first : (b : Bool) → length (filter test rest) ≤ 0 → length (filter test (if b then a ∷ rest else rest)) ≤ 1
      first true none = counted (test a) none
      first false none = omega (arith, none)

-- a layout of two members or more has the sectors of one
pub capacity_least : (l : Layout) (size : ℕ) → 2 ≤ width l → size ≤ capacity l size
capacity_least (mirror n) size two = omega arith
capacity_least (parity n) size two = let more : 1 * size ≤ (n - 1) * size = mul-le-mul_right size (omega (arith, two)) in omega (arith, more)

-- ---- the pool

module _ (disks : Disks) (c : Image) (s : State) (newest_is : newest disks (identities_of disks c) ≡ Some s)
    (w : IsWholePool disks c (pool_at disks c s)) (chunks : ℕ) (extent_is : s.extent ≡ 128 * chunks) where
  abbrev f : Found
  f = pool_at disks c s

  joined_few : (1 ≤ s.joined) × (s.joined ≤ s.made)
  joined_few = (let of = valid f (is_found disks c s newest_is w) in let all = valid_arrays s of.0 of.1 in (all.2, all.3))

  made_low : (n : ℕ) → n < s.joined → n < s.made
  made_low n low = (let most = joined_few.1 in omega (arith, low, most))

  shape_is : (n : ℕ) (low : n < s.made) → shape_of f n ≡ Some (shape_by s (slices_of f) n (truth disks c s newest_is w chunks extent_is n low))
  shape_is n low = ap (option_map (shape_by s (slices_of f) n)) (t_is disks c s newest_is w chunks extent_is n low)

  many : (n : ℕ) (low : n < s.made) → 4 ≤ sectors_by (shape_by s (slices_of f) n (truth disks c s newest_is w chunks extent_is n low))
  unfolding shape_by
  many n low =
      let t = truth disks c s newest_is w chunks extent_is n low in
      let layout = first_is (whole_view n t) (is_array n t (few disks c s newest_is w chunks extent_is n low) (facts disks c s newest_is w chunks extent_is n low)) in
      let least = capacity_least (first_layout t) t.size layout.least in
      let size = long disks c s newest_is w chunks extent_is n low in
      omega (arith, least, size)

  whole_arrays : AreWholeArrays (joined_arrays f)
  whole_arrays = record {
    whole = λ n joined x inside.
        let low = made_low n joined in
        let shape = shape_by s (slices_of f) n (truth disks c s newest_is w chunks extent_is n low) in
        ap length (ap (λ (o : Option Shape). option_map_or (λ z. value_by z (slices_of f) n x) o []) (shape_is n low))
        ∙ value_sized shape (slices_of f) n x (sized disks c s newest_is w chunks extent_is n low);
    room = λ n joined.
        let low = made_low n joined in
        let is : array_sectors f n ≡ sectors_by (shape_by s (slices_of f) n (truth disks c s newest_is w chunks extent_is n low)) = ap (λ (o : Option Shape). option_map_or sectors_by o 0) (shape_is n low) in
        let most = many n low in
        omega (arith, is, most);
  }

  module _ (p d : ℕ) (seat : f.seats p ≡ Some d) where
    abbrev less : Disks
    less = disks_without d disks

    abbrev left : Image
    left = image_without d c

    abbrev g : Found
    g = pool_at less left s

    -- its place alone is absent
    few_absent : absent_count g ≤ 1
    unfolding current_places
    few_absent =
        subst (λ k. k ≤ 1) (length-filter (λ q. is_none (g.seats q)) (current_places s))
        (one_kept (λ q. is_none (g.seats q)) (is_current s) p
        (λ q other counts.
        let one = seat_there disks c s newest_is w q counts in
        ap is_none (seats_now disks c s newest_is w p d seat q one.0 other one.1)) 0 (length s.drives.items))

    -- ---- the other places' drives

    module _ (q e : ℕ) (other : q ≢ p) (counts : is_current s q ≡ true) (at : f.seats q ≡ Some e) where
      parts : IsUndamaged f q e
      parts = parts_of disks c s newest_is w q e counts at

      table_now : has_table g q (back d e) ≡ true
      table_now =
          ap (λ k. option_map_or (is_table g q (disks.sectors k)) (f.identities k).table false) (disk_back disks c s newest_is w p d seat q e other at)
          ∙ members_alike f g q (disks.sectors e) refl refl (λ n low. member_now disks c s newest_is w chunks extent_is p d seat n low q)
          (lies_now disks c s newest_is w chunks extent_is p d seat) (f.identities e).table
          ∙ parts.table

      supers_now : has_supers g q ≡ true
      supers_now =
          all_below (λ n. not (is_member g n q) || is_some (super_at g n q)) (λ n. not (is_member f n q) || is_some (super_at f n q)) 0 s.made
          (λ n low.
          let less : n < s.made = omega (arith, low) in
          ap₂ (λ a o. not a || is_some o) (member_now disks c s newest_is w chunks extent_is p d seat n less q) (super_now disks c s newest_is w chunks extent_is p d seat n less q other))
          ∙ parts.supers

      log_now : has_log g q ≡ true
      log_now =
          let was = and_parts (not (is_bad_gate (slices_of f) q)) _ parts.log in
          let gate : is_bad_gate (slices_of g) q ≡ is_bad_gate (slices_of f) q =
          ap bad (gate_block g q ∙ drive_now disks c s newest_is w p d seat q drive_gate other ∙ sym (gate_block f q)) in
          let log : is_bad_gate g.before.logs q ≡ is_bad_gate f.before.logs q = ap bad (logs_now disks c s newest_is w p d seat q gate_sector other counts) in
          ap₂ (λ a b. not a && not b) gate
          (ap₂ (λ a o. a || option_map_or (λ (a : GateAt). (a.place == q) && is_none (record_in g.before.logs a.place a.gate.number)) o false) log (idle_now disks c s newest_is w p d seat))
          ∙ both (is_bad_gate (slices_of f) q) (is_bad_gate f.before.logs q) _ was.0 was.1
        where
          bad : List ℕ → Bool
          bad block = is_there block && is_none (gate_of block)

          both : (a b e : Bool) → not a ≡ true → not (b || e) ≡ true → (not a && not (b || false)) ≡ true
          both false false e one two = refl
          both false true e one two = absurd (both_ways false refl two)
          both true b e one two = absurd (both_ways false refl one)

      undamaged_now : damage_of g q ≡ None
      undamaged_now =
          no_damage g q (back d e) (seats_now disks c s newest_is w p d seat q e other at)
          (record {
            table = table_now;
            copy = ap (λ k. is_some (f.identities k).copied) (disk_back disks c s newest_is w p d seat q e other at) ∙ parts.copy;
            log = log_now;
            supers = supers_now;
          })

    undamaged : (q : ℕ) → is_current s q ≡ true → damage_of g q ≡ None
    unfolding damage_of
    undamaged q counts = elim (cases_eq q p) [
      | inr other ↦ (let one = seat_there disks c s newest_is w q counts in undamaged_now q one.0 other counts one.1)
      | inl same ↦ ap (option_and_then (damage_on g q)) (ap g.seats same ∙ none_now disks c s newest_is w p d seat)
    ]

    -- ---- the arrays

    alike : AreAlike (joined_arrays g) (joined_arrays f)
    alike = record {
      pool = refl;
      extent = refl;
      joined = refl;
      sectors = λ n joined. sectors_now disks c s newest_is w chunks extent_is p d seat n (made_low n joined);
      contents = λ n x joined inside. value_now disks c s newest_is w chunks extent_is p d seat n (made_low n joined) x joined inside;
    }

    good : first_bad (joined_arrays f) ≡ None
    good = (unrefused f (means_of disks c s newest_is w).1).1

    refused_none : refused_by g ≡ None
    refused_none =
        not_refused g few_absent (no_damages g undamaged)
        (find_none (is_too_few g) 0 s.made (λ n low. enough disks c s newest_is w chunks extent_is p d seat n (omega (arith, low))))
        (find_none (is_dirty_degraded g) 0 s.made (λ n low. in_sync disks c s newest_is w chunks extent_is p d seat n (omega (arith, low))))
        (bad_kept (joined_arrays g) (joined_arrays f) alike whole_arrays ∙ good)

    refusal_none : refusal_of less left ≡ None
    unfolding refusal_of
    refusal_none =
        ap (λ o. option_map_or (refused_at less left) o (Some no_pool)) (stands_now disks c s newest_is w p d seat)
        ∙ ap₂ (λ b o. if b then Some two_pools else option_map_or refused_by o (Some no_pool)) (one_pool disks c s newest_is w p d seat) (found_now disks c s newest_is w p d seat)
        ∙ refused_none

    means_now : meaning less left ≡ Some (volumes_of g)
    unfolding meaning
    means_now =
        ap₂ (λ (why : Option Refusal) o. option_map_or (λ r. None) why (option_map volumes_of o)) refusal_none (found_now disks c s newest_is w p d seat)

    same_volumes : AreSame (volumes_of f) (volumes_of g)
    same_volumes = volumes_kept (joined_arrays g) (joined_arrays f) alike whole_arrays joined_few.0 good

  pub safe_at : IsSafeInAbsence disks c f
  unfolding meaning
  safe_at = record {
    is_found = w.is_found;
    volumes = volumes_of f;
    means = ap₂ (λ (why : Option Refusal) o. option_map_or (λ r. None) why (option_map volumes_of o)) w.means w.is_found;
    without = λ p d listed seat. (volumes_of (g p d seat), means_now p d seat, same_volumes p d seat);
  }

-- Of a whole pool the meaning without the disk of any one drive is the meaning with it.
pub safe_in_absence : (disks : Disks) (c : Image) (f : Found) → IsWholePool disks c f → IsSafeInAbsence disks c f
safe_in_absence disks c f whole =
    let at = closed_at disks c f whole.is_found whole.closed in
    let w = subst (λ (h : Found). IsWholePool disks c h) at.is whole in
    let valid_state = valid (pool_at disks c at.state) (is_found disks c at.state at.newest_is w) in
    let fit = valid_fit at.state valid_state.0 valid_state.1 in
    subst (λ (h : Found). IsSafeInAbsence disks c h) (sym at.is) (safe_at disks c at.state at.newest_is w fit.chunks fit.extent)
