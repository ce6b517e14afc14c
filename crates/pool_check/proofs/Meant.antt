-- The check's answer is that of the meaning of images.
use Rattle.std.proofs.Common.{◌≡◌, ℕ, zero, suc, ◌+◌, ◌<◌, ◌≤◌, Bool, true, false, not, nat_lt, if◌then◌else◌, List, [], ◌∷◌, filter, find, length, Option, Some, None, option_map, is_some, is_none, unwrap_or, inl, inr, refl, sym, ap, ◌∙◌, arith}
use Rattle.std.specs.Option.{option_and_then, option_map_or, option_or}
use Rattle.std.specs.List.{range_with_len}
use Rattle.std.proofs.lemmas.Bool.{both_ways, cases_eq, eq-eqb}
use Rattle.std.proofs.lemmas.Option.{none-some}
use Rattle.rack.specs.Seen.{RackView}
use Rattle.pool_state.specs.declared.contents.State.{State}
use Rattle.array_image.specs.States.{current_places, is_current}
use Rattle.array_core.proofs.Opened.{current_below}
use Rattle.pool_image.specs.Disks.{Seats, disks_of, identities_of, newest, seat_of}
use Rattle.rack.specs.Targets.{Target, look, put}
use Rattle.std.specs.List.{filter_map}
use Rattle.pool_image.specs.Replay.{brought_state, landed, standing, standing_by, written}
use Rattle.pool_image.specs.Drives.{Found, found, found_by}
use Rattle.pool_image.specs.Meaning.{Part, Refusal, absent, absent_count, arrays_of, bad_volume, damage_of, damaged, dirty_degraded, has_log, has_other_pool, has_supers, has_table, in_log, in_state, in_superblock, in_table, is_dirty_degraded, is_too_few, joined_arrays, no_pool, refusal_of, refused_at, refused_by, too_few, two_pools}
use Rattle.pool_image.specs.Volumes.{first_bad}
use Rattle.pool_scan.specs.declared.Known.{Known}
use Rattle.pool_scan.specs.Scanning.{AllTold, IsScan, IsUnfaulted, now_in}
use Rattle.pool_scan.proofs.Meant.{scan_meant}
use Rattle.pool_check.specs.Drives.{AreCopied, AreDrivesOf, Drives, HasFewPlaces, IsSeating, found_with}
use Rattle.pool_check.specs.Refusing.{IsLowestBad, damage_by, damage_with, first_with, is_well, refused_arrays, refused_with}
use Rattle.pool_check.proofs.Finding.{differs}

-- ---- the logs

-- the lowest damage by two tests that agree up to a place that is damaged by both
agree : (D E : ℕ → Option Part) (p : ℕ → Bool) (b a n : ℕ) → a ≤ b → b < a + n → p b ≡ true → is_some (D b) ≡ true
    → ((j : ℕ) → j ≤ b → D j ≡ E j)
    → option_and_then (λ j. option_map (damaged j) (D j)) (find (λ j. is_some (D j)) (filter p (range_with_len a n)))
    ≡ option_and_then (λ j. option_map (damaged j) (E j)) (find (λ j. is_some (E j)) (filter p (range_with_len a n)))
agree D E p b a zero least most listed bad same = absurd (omega (arith, least, most))
agree D E p b a (suc n) least most listed bad same =
    elim (cases_eq a b) [
      | inl here ↦ at_b (p a) (D a) (E a) refl refl (ap p here ∙ listed) (ap (λ j. is_some (D j)) here ∙ bad) (same a least)
      | inr other ↦
          past (p a) (D a) (E a) refl refl (same a least) (agree D E p b (a + 1) n (omega (arith, least, other)) (omega (arith, most)) listed bad same)
    ]
  where
    first : (ℕ → Option Part) → Option ℕ → Option Refusal
    first F o = option_and_then (λ j. option_map (damaged j) (F j)) o

    at_b : (x : Bool) (d e : Option Part) → D a ≡ d → E a ≡ e → x ≡ true → is_some d ≡ true → d ≡ e
        → option_and_then (λ j. option_map (damaged j) (D j)) (find (λ j. is_some (D j)) (if x then a ∷ filter p (range_with_len (a + 1) n) else filter p (range_with_len (a + 1) n)))
        ≡ option_and_then (λ j. option_map (damaged j) (E j)) (find (λ j. is_some (E j)) (if x then a ∷ filter p (range_with_len (a + 1) n) else filter p (range_with_len (a + 1) n)))
    at_b false d e at_d at_e is some both = absurd (both_ways false refl is)
    at_b true d e at_d at_e is some both =
        found_here D (ap is_some at_d ∙ some) ∙ ap (option_map (damaged a)) (at_d ∙ both ∙ sym at_e)
        ∙ sym (found_here E (ap is_some (at_e ∙ sym both) ∙ some))
      where
        found_here : (F : ℕ → Option Part) → is_some (F a) ≡ true
            → option_and_then (λ j. option_map (damaged j) (F j)) (if is_some (F a) then Some a else find (λ j. is_some (F j)) (filter p (range_with_len (a + 1) n)))
            ≡ option_map (damaged a) (F a)
        found_here F some = ap (λ (x : Bool). option_and_then (λ j. option_map (damaged j) (F j)) (if x then Some a else find (λ j. is_some (F j)) (filter p (range_with_len (a + 1) n)))) some

    past : (x : Bool) (d e : Option Part) → D a ≡ d → E a ≡ e → D a ≡ E a
        → option_and_then (λ j. option_map (damaged j) (D j)) (find (λ j. is_some (D j)) (filter p (range_with_len (a + 1) n)))
        ≡ option_and_then (λ j. option_map (damaged j) (E j)) (find (λ j. is_some (E j)) (filter p (range_with_len (a + 1) n)))
        → option_and_then (λ j. option_map (damaged j) (D j)) (find (λ j. is_some (D j)) (if x then a ∷ filter p (range_with_len (a + 1) n) else filter p (range_with_len (a + 1) n)))
        ≡ option_and_then (λ j. option_map (damaged j) (E j)) (find (λ j. is_some (E j)) (if x then a ∷ filter p (range_with_len (a + 1) n) else filter p (range_with_len (a + 1) n)))
    past false d e at_d at_e both rest = rest
    past true d e at_d at_e both rest = test (is_some (D a)) (is_some (E a)) (ap is_some both)
      where
        test : (u v : Bool) → u ≡ v
            → option_and_then (λ j. option_map (damaged j) (D j)) (if u then Some a else find (λ j. is_some (D j)) (filter p (range_with_len (a + 1) n)))
            ≡ option_and_then (λ j. option_map (damaged j) (E j)) (if v then Some a else find (λ j. is_some (E j)) (filter p (range_with_len (a + 1) n)))
        test true true same = ap (option_map (damaged a)) both
        test false false same = rest
        test true false same = cc
        test false true same = cc

-- tests that agree on a place with a disk find the same damage there
same_well : (w v : ℕ → Bool) (f : Found) (place : ℕ) → ((d : ℕ) → f.seats place ≡ Some d → w place ≡ v place) → damage_with w f place ≡ damage_with v f place
same_well w v f place same = by (f.seats place) refl
  where
    by : (o : Option ℕ) → f.seats place ≡ o → option_and_then (damage_by w f place) o ≡ option_and_then (damage_by v f place) o
    by None seat = refl
    by (Some d) seat =
        ap (λ (b : Bool). if not (has_table f place d) then Some in_table
        else if is_none (f.identities d).copied then Some in_state
        else if not b then Some in_log
        else if not (has_supers f place) then Some in_superblock
        else None) (same d seat)

-- a place whose log isn't well formed is damaged
bad_some : (well : ℕ → Bool) (f : Found) (place d : ℕ) → f.seats place ≡ Some d → well place ≡ false → is_some (damage_with well f place) ≡ true
bad_some well f place d seat fails =
    ap (λ o. is_some (option_and_then (damage_by well f place) o)) seat
    ∙ ap (λ (b : Bool). is_some (if not (has_table f place d) then Some in_table
    else if is_none (f.identities d).copied then Some in_state
    else if not b then Some in_log
    else if not (has_supers f place) then Some in_superblock
    else None)) fails
    ∙ by (has_table f place d) (is_none (f.identities d).copied)
  where
    by : (table copied : Bool) → is_some (if not table then Some in_table else if copied then Some in_state else Some in_log) ≡ true
    by false copied = refl
    by true true = refl
    by true false = refl

-- the place that is handed in stands for the logs
pub logs_same : (f : Found) (bad : Option ℕ) → HasFewPlaces f.state f.seats → IsLowestBad f bad → first_with (is_well bad) f ≡ first_with (has_log f) f
unfolding current_places
logs_same f None few lowest =
    ap (λ (D : ℕ → Option Part). option_and_then (λ j. option_map (damaged j) (D j)) (find (λ j. is_some (D j)) (filter (is_current f.state) (range_with_len 0 (length f.state.drives.items)))))
    (λ i place. same_well (is_well None) (has_log f) f place (λ d seat. sym (lowest place d seat)) i)
logs_same f (Some bad) few lowest =
    let d = lowest.1.0 in
    let seat = lowest.1.1 in
    let current = few.current bad d seat in
    let listed = current_below f.state bad current in
    agree (damage_with (is_well (Some bad)) f) (damage_with (has_log f) f) (is_current f.state) bad 0 (length f.state.drives.items) (omega arith) (omega (arith, listed))
    current
    (bad_some (is_well (Some bad)) f bad d seat (ap not (eq-eqb bad bad refl)))
    (λ j below. same_well (is_well (Some bad)) (has_log f) f j (λ e at. below_same j e below at))
  where
    below_same : (j e : ℕ) → j ≤ bad → f.seats j ≡ Some e → is_well (Some bad) j ≡ has_log f j
    below_same j e below at =
        elim (cases_eq bad j) [
          | inl here ↦ ap not (eq-eqb bad j here) ∙ sym (ap (has_log f) (sym here) ∙ lowest.0)
          | inr other ↦ ap not (differs bad j other) ∙ sym (lowest.2 j e (omega (arith, below, other)) at)
        ]

-- so what is refused is what the meaning refuses
pub refused_same : (f : Found) (bad : Option ℕ) (last : Option Refusal) → HasFewPlaces f.state f.seats → IsLowestBad f bad
    → refused_with (is_well bad) last f ≡ refused_with (has_log f) last f
unfolding refused_with
refused_same f bad last few lowest =
    ap (λ o. if nat_lt 1 (absent_count f) then Some (absent (absent_count f)) else option_or o (refused_arrays last f)) (logs_same f bad few lowest)

pub refused_is : (f : Found) → refused_with (has_log f) (option_map bad_volume (first_bad (joined_arrays f))) f ≡ refused_by f
unfolding refused_with refused_by damage_of
refused_is f = refl

-- ---- what is left to come

pub fault_first : (well : ℕ → Bool) (last : Option Refusal) (f : Found) (r : Refusal) → refused_with well None f ≡ Some r → refused_with well last f ≡ Some r
unfolding refused_with
fault_first well last f r is =
    by (nat_lt 1 (absent_count f)) (first_with well f) (option_map too_few (find (is_too_few f) (arrays_of f)))
    (option_map dirty_degraded (find (is_dirty_degraded f) (arrays_of f))) is
  where
    by : (many : Bool) (d t e : Option Refusal)
        → (if many then Some (absent (absent_count f)) else option_or d (option_or t (option_or e None))) ≡ Some r
        → (if many then Some (absent (absent_count f)) else option_or d (option_or t (option_or e last))) ≡ Some r
    by true d t e at = at
    by false (Some d) t e at = at
    by false None (Some t) e at = at
    by false None None (Some e) at = at
    by false None None None at = absurd (none-some r at)

pub none_first : (well : ℕ → Bool) (last : Option Refusal) (f : Found) → refused_with well None f ≡ None → refused_with well last f ≡ last
unfolding refused_with
none_first well last f is =
    by (nat_lt 1 (absent_count f)) (first_with well f) (option_map too_few (find (is_too_few f) (arrays_of f)))
    (option_map dirty_degraded (find (is_dirty_degraded f) (arrays_of f))) is
  where
    by : (many : Bool) (d t e : Option Refusal)
        → (if many then Some (absent (absent_count f)) else option_or d (option_or t (option_or e None))) ≡ None
        → (if many then Some (absent (absent_count f)) else option_or d (option_or t (option_or e last))) ≡ last
    by true d t e at = absurd (none-some (absent (absent_count f)) (sym at))
    by false (Some d) t e at = absurd (none-some d (sym at))
    by false None (Some t) e at = absurd (none-some t (sym at))
    by false None None (Some e) at = absurd (none-some e (sym at))
    by false None None None at = refl

-- so a check's fault is the meaning's refusal, and a check that finds none leaves that of the volume
pub check_refuses : (f : Found) (bad : Option ℕ) (r : Refusal) → HasFewPlaces f.state f.seats → IsLowestBad f bad
    → refused_with (is_well bad) None f ≡ Some r → refused_by f ≡ Some r
check_refuses f bad r few lowest is =
    sym (refused_is f)
    ∙ fault_first (has_log f) (option_map bad_volume (first_bad (joined_arrays f))) f r (sym (refused_same f bad None few lowest) ∙ is)

pub check_passes : (f : Found) (bad : Option ℕ) → HasFewPlaces f.state f.seats → IsLowestBad f bad
    → refused_with (is_well bad) None f ≡ None → refused_by f ≡ option_map bad_volume (first_bad (joined_arrays f))
check_passes f bad few lowest is =
    sym (refused_is f)
    ∙ none_first (has_log f) (option_map bad_volume (first_bad (joined_arrays f))) f (sym (refused_same f bad None few lowest) ∙ is)

-- ---- the pool that the disks make, where nothing is pending

abbrev pub drives_now : RackView → State → Drives
drives_now a s = record {
  disks = disks_of a;
  before = standing_by (disks_of a) (now_in a) s;
  contents = now_in a;
  identities = identities_of (disks_of a) (now_in a);
}

module _ (a : RackView) (s : State) (seats : Seats) (newest_is : newest (disks_of a) (identities_of (disks_of a) (now_in a)) ≡ Some s)
    (rests : (standing_by (disks_of a) (now_in a) s).targets ≡ [])
    (seated : (place : ℕ) → seats place ≡ seat_of s (disks_of a) (identities_of (disks_of a) (now_in a)) place) where
  stands : standing (disks_of a) (now_in a) ≡ Some (standing_by (disks_of a) (now_in a) s)
  unfolding standing
  stands = ap (option_map (standing_by (disks_of a) (now_in a))) newest_is

  same_if : (b : Bool) (v : List ℕ) → (if b then v else v) ≡ v
  same_if true v = refl
  same_if false v = refl

  unwritten : written (disks_of a) (standing_by (disks_of a) (now_in a) s) (now_in a) ≡ now_in a
  unfolding look
  unwritten =
      ap (λ (xs : List Target). put a.sectors (filter_map
      (landed (disks_of a) (identities_of (disks_of a) (now_in a)) (seat_of (unwrap_or (brought_state xs) s) (disks_of a) (identities_of (disks_of a) (now_in a)))) xs) (now_in a)) rests
      ∙ (λ i d t. same_if (nat_lt t (a.sectors d)) (now_in a d t) i)

  pub found_is : found (disks_of a) (now_in a) ≡ Some (found_with s seats (drives_now a s))
  unfolding found
  found_is =
      ap (option_and_then (λ before. found_by (disks_of a) before (written (disks_of a) before (now_in a)))) stands
      ∙ ap (found_by (disks_of a) (standing_by (disks_of a) (now_in a) s)) unwritten
      ∙ ap (option_map (λ (t : State). found_with t (seat_of t (disks_of a) (identities_of (disks_of a) (now_in a))) (drives_now a s))) newest_is
      ∙ ap (λ (z : Seats). Some (found_with s z (drives_now a s))) (λ i place. sym (seated place) i)

  -- the meaning's refusal is that of the pool
  pub refusal_is : has_other_pool (disks_of a) (standing_by (disks_of a) (now_in a) s) ≡ false
      → refusal_of (disks_of a) (now_in a) ≡ refused_by (found_with s seats (drives_now a s))
  unfolding refusal_of
  refusal_is one_pool =
      ap (λ o. option_map_or (refused_at (disks_of a) (now_in a)) o (Some no_pool)) stands
      ∙ ap (λ (b : Bool). if b then Some two_pools else option_map_or refused_by (found (disks_of a) (now_in a)) (Some no_pool)) one_pool
      ∙ ap (λ o. option_map_or refused_by o (Some no_pool)) found_is

-- and a check's premises hold of it
pub drives_are : (a : RackView) (s : State) (seats : Seats) → AllTold a → IsSeating a s seats → AreDrivesOf a seats (drives_now a s)
drives_are a s seats told seating = record {
  told = λ place d seat. told d (seating.inside place d seat);
  sectors = λ place d seat. refl;
  contents = λ place d seat sector within unspent. refl;
  tables = λ place d seat. refl;
}

pub copies_are : (a b : RackView) (known : List Known) (s : State) (seats : Seats) → IsScan a b known → AllTold a → IsUnfaulted a b → IsSeating a s seats
    → AreCopied known seats (drives_now a s)
copies_are a b known s seats scan told free seating = record {
  copied = λ place d seat. (scan_meant a b known scan told free).copied d (seating.inside place d seat);
}
