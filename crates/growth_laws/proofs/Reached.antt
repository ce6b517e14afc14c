-- A drive that joins is laid: its table can be written, and zeros are written where superblocks would be.
use Rattle.std.proofs.Common.{◌≡◌, ℕ, zero, suc, ◌+◌, ◌-◌, ◌<◌, ◌≤◌, ◌==◌, ◌&&◌, ◌++◌, nat_le, nat_lt, if◌then◌else◌, Bool, true, false, All, List, [], ◌∷◌, filter, is_some, length, map, Result, Ok, Err, refl, sym, ap, subst, ◌∙◌, inl, inr, le-leb, lt-ltb, ltb-true, add-one, arith}
use Rattle.std.specs.Int.{is_power_of_two}
use Rattle.std.specs.List.{list_all, range_with_len}
use Rattle.std.specs.Option.{option_map_or}
use Rattle.std.proofs.lemmas.Bool.{and_from, and_parts, cases_Bool, cases_eq, leb-true}
use Rattle.std.proofs.lemmas.List.Elements.{All-nil, All-cons, filter-append}
use Rattle.std.proofs.lemmas.Option.{slice_get-get_or}
use Rattle.rack.specs.declared.Gone.{Gone}
use Rattle.rack.specs.Values.{MayLeave}
use Rattle.rack.specs.Seen.{RackView, IsLive}
use Rattle.rack.specs.Joins.{live_first, live_second, rose_since}
use Rattle.rack.specs.Sequences.{WritesDurably, WritesOnly}
use Rattle.rack.proofs.Durably.{durable_only}
use Rattle.rack.proofs.Writing.{only_none, only_then, only_weaker}
use Rattle.slice_rack.specs.Slices.{Slices}
use Rattle.slice_rack.specs.Runs.{IsSliced}
use Rattle.gpt_table.specs.declared.Entry.{Entry}
use Rattle.gpt_table.specs.declared.Table.{Table}
use Rattle.gpt_table.specs.Format.{Ascends, IsWritable, is_inside}
use Rattle.gpt_table.specs.Plans.{IsOfTable, in_table}
use Rattle.gpt_table.proofs.Ranges.{range_more}
use Rattle.pool_state.specs.Valid.{is_extent, is_valid}
use Rattle.pool_state.specs.declared.contents.Plan.{Plan}
use Rattle.pool_state.specs.declared.contents.Plan.TheVariants.{Nothing, Add, Replace}
use Rattle.pool_state.specs.declared.contents.State.{State}
use Rattle.array_image.specs.Places.{log_kind, log_sectors, raid_kind, state_sector, super_sector}
use Rattle.array_image.proofs.Losing.{map_join}
use Rattle.array_model.specs.View.{View}
use Rattle.array_core.specs.Seats.{seat_of}
use Rattle.raid_laws.specs.NewDrive.{IsOfDrive, LaysDrive, ReachesAll, entry_of, first_in, length_in, member_entry, no_state, slice_length}
use Rattle.growth_laws.specs.NewDrives.{ClearsSupers, IsCleared, IsLaid, IsLaidOrSliced, LaysReached, MayAppend, MayBegin, MayReplace, reached_entries, reached_table, reaches}

-- ---- which arrays it reaches

pub reaches_fits : (extent : ℕ) (arrays : List View) (units sectors n : ℕ) → reaches extent arrays units sectors n ≡ true
    → (n < length arrays) × (first_in arrays n + length_in arrays n + 33 ≤ sectors)
reaches_fits extent arrays units sectors n is =
    let one = and_parts (nat_lt n (length arrays)) _ is in
    let two = and_parts _ (nat_le (first_in arrays n + length_in arrays n + 33) sectors) one.1 in
    (ltb-true n (length arrays) one.0, leb-true (first_in arrays n + length_in arrays n + 33) sectors two.1)

-- a disk with room for all that it reaches has room for the members of its place
pub reaches_members : (s : State) (arrays : List View) (place units sectors : ℕ) → MayReplace s arrays place units sectors → ReachesAll arrays place sectors
reaches_members s arrays place units sectors may n u at member =
    let fits = (reaches_fits s.extent arrays units sectors n (may.reaches n u at member)).1 in
    let own : length_in arrays n ≡ slice_length u = ap (λ o. option_map_or slice_length o 0) at in
    ap (λ o. option_map_or (λ (w : View). is_some (seat_of w place) && nat_le (first_in arrays n + slice_length w + 33) sectors) o false) at
    ∙ and_from (is_some (seat_of u place)) _ member (le-leb (first_in arrays n + slice_length u + 33) sectors (omega (arith, fits, own)))

-- a valid state has an extent
pub some_extent : (s : State) (own : ℕ) → is_valid s own ≡ true → 0 < s.extent
some_extent s own is =
    let one = and_parts (is_extent s.extent) _ is in
    let two = and_parts (is_power_of_two s.extent) (nat_le 128 s.extent && nat_le s.extent 65536) one.0 in
    let least = leb-true 128 s.extent (and_parts (nat_le 128 s.extent) (nat_le s.extent 65536) two.1).0 in
    omega (arith, least)

pub may_append : (s : State) (arrays : List View) (place units sectors : ℕ) (plan : Plan) → ((p : ℕ) → plan ≡ Replace p → ⊥) → MayBegin s arrays place units sectors plan
    → (plan ≡ Add place) × MayAppend s place
may_append s arrays place units sectors Nothing other may = absurd may
may_append s arrays place units sectors (Add p) other may = (ap Add may.0, may.1)
may_append s arrays place units sectors (Replace p) other may = absurd (other p refl)

-- ---- its table

-- a slice has some sectors
some_length : (xs : List View) (n : ℕ) → n < length xs → 2048 ≤ length_in xs n
some_length [] n below = absurd (omega (arith, below))
some_length (x ∷ xs) n below =
    let at = ap (λ o. option_map_or (λ (u : View). u.truth.size + 2048) o 0) (slice_get-get_or (x ∷ xs) n x below) in
    omega (arith, at)

module _ (drive : List ℕ) (arrays : List View) (reached : ℕ → Bool) where
  -- the entries of one array more
  pub entries_next : (n : ℕ) → reached_entries drive arrays reached (n + 1)
      ≡ reached_entries drive arrays reached n ++ (if reached n then member_entry drive arrays n ∷ [] else [])
  entries_next n =
      ap (λ es. entry_of drive 0 log_kind state_sector log_sectors ∷ es)
      (ap (λ ns. map (member_entry drive arrays) (filter reached ns))
      (ap (range_with_len 0) (add-one n) ∙ range_more 0 n ∙ ap (λ k. range_with_len 0 n ++ k ∷ []) (let e : 0 + n ≡ n = omega arith in e))
      ∙ ap (map (member_entry drive arrays)) (filter-append reached (range_with_len 0 n) (n ∷ []))
      ∙ map_join (member_entry drive arrays) (filter reached (range_with_len 0 n)) (filter reached (n ∷ []))
      ∙ ap (λ es. map (member_entry drive arrays) (filter reached (range_with_len 0 n)) ++ es) (of (reached n)))
    where
      of : (b : Bool) → map (member_entry drive arrays) (if b then n ∷ [] else []) ≡ (if b then member_entry drive arrays n ∷ [] else [])
      of true = refl
      of false = refl

  all_members : (P : Entry → Type 0) (a k : ℕ) → ((n : ℕ) → a ≤ n → n < a + k → reached n ≡ true → P (member_entry drive arrays n))
      → All P (map (member_entry drive arrays) (filter reached (range_with_len a k)))
  all_members P a zero each = All-nil P
  all_members P a (suc k) each =
      let rest = all_members P (a + 1) k (λ n low high is. each n (omega (arith, low)) (omega (arith, high)) is) in
      elim (cases_Bool (reached a)) [
        | inl is ↦
            subst (λ b. All P (map (member_entry drive arrays) (if b then a ∷ filter reached (range_with_len (a + 1) k) else filter reached (range_with_len (a + 1) k)))) (sym is)
            (All-cons P (member_entry drive arrays a) _ (each a (omega arith) (omega arith) is) rest)
        | inr not ↦
            subst (λ b. All P (map (member_entry drive arrays) (if b then a ∷ filter reached (range_with_len (a + 1) k) else filter reached (range_with_len (a + 1) k)))) (sym not) rest
      ]

  ascending : (a k low : ℕ) → low < a + 2 → Ascends low (map (member_entry drive arrays) (filter reached (range_with_len a k)))
  ascending a zero low below = tt
  ascending a (suc k) low below =
      elim (cases_Bool (reached a)) [
        | inl is ↦
            subst (λ b. Ascends low (map (member_entry drive arrays) (if b then a ∷ filter reached (range_with_len (a + 1) k) else filter reached (range_with_len (a + 1) k)))) (sym is)
            (omega (arith, below), ascending (a + 1) k (a + 1 + 1) (omega arith))
        | inr not ↦
            subst (λ b. Ascends low (map (member_entry drive arrays) (if b then a ∷ filter reached (range_with_len (a + 1) k) else filter reached (range_with_len (a + 1) k)))) (sym not)
            (ascending (a + 1) k low (omega (arith, below)))
      ]

  entry_inside : (slice : ℕ) (kind : List ℕ) (first size whole : ℕ) → 0 < size → first + size ≤ whole → is_inside whole (entry_of drive slice kind first size).slice ≡ true
  entry_inside slice kind first size whole some fits =
      and_from (nat_le first (first + size - 1)) (nat_lt (first + size - 1) whole) (le-leb first (first + size - 1) (omega (arith, some)))
      (lt-ltb (first + size - 1) whole (omega (arith, some, fits)))

  pub reached_writable : (sectors : ℕ) → length arrays ≤ 16 → 10273 ≤ sectors
      → ((n : ℕ) → reached n ≡ true → (n < length arrays) × (first_in arrays n + length_in arrays n + 33 ≤ sectors))
      → IsWritable (reached_table drive arrays reached sectors (length arrays))
  reached_writable sectors few room fits = record {
    room = omega (arith, room);
    ascending = (omega arith, ascending 0 (length arrays) 1 (omega arith));
    numbered =
        let P : Entry → Type 0 = λ entry. entry.number ≤ 128 in
        All-cons P _ _ (omega arith) (all_members P 0 (length arrays) (λ n low high is. omega (arith, high, few)));
    used =
        let P : Entry → Type 0 = λ entry. list_all (λ byte. byte == 0) entry.slice.kind.0 ≡ false in
        All-cons P _ _ refl (all_members P 0 (length arrays) (λ n low high is. refl));
    inside =
        let P : Entry → Type 0 = λ entry. is_inside sectors entry.slice ≡ true in
        All-cons P _ _ (entry_inside 0 log_kind state_sector log_sectors sectors (omega arith) (omega (arith, room)))
        (all_members P 0 (length arrays)
        (λ n low high is.
        let at = fits n is in
        let ends = at.1 in
        let some = some_length arrays n at.0 in
        entry_inside (n + 1) raid_kind (first_in arrays n) (length_in arrays n) sectors (omega (arith, some)) (omega (arith, ends))));
  }

-- a sector behind the table and before its backup is none of both
off_table : (n s : ℕ) → 34 ≤ s → s + 33 < n → IsOfTable n s → ⊥
off_table n s low high (inl mbr) = omega (arith, low, mbr)
off_table n s low high (inr (inl (inl header))) = omega (arith, low, header)
off_table n s low high (inr (inl (inr among))) = let last = among.1 in omega (arith, low, last)
off_table n s low high (inr (inr (inl header))) = omega (arith, high, header)
off_table n s low high (inr (inr (inr among))) = let first = among.0 in omega (arith, high, first)

-- ---- zeros where superblocks would be

module _ (disk : ℕ) (arrays : List View) (joined : ℕ → Bool) where
  only_zeros : (a b : RackView) (n : ℕ) (r : Result (Unit {0}) Gone) → joined n ≡ true → WritesDurably a b disk (first_in arrays n + super_sector) no_state r
      → WritesOnly a b (IsCleared arrays joined disk)
  only_zeros a b n r is writes =
      only_weaker (λ d s v. (d ≡ disk) × (s ≡ first_in arrays n + super_sector) × (v ≡ no_state)) (IsCleared arrays joined disk)
      (λ d s v at. (at.0, (n, is, at.1), at.2)) (durable_only r writes)

  pub clears_none : (a : RackView) → a.fit → ClearsSupers a a disk arrays joined 0 {X = Unit {0}} (Ok tt)
  clears_none a fit = record {
    only = only_none a (IsCleared arrays joined disk) fit;
    gone = tt;
    zeros = λ n low. absurd (omega (arith, low));
  }

  pub clears_over : (a b : RackView) (n : ℕ) → joined n ≡ false → ClearsSupers a b disk arrays joined n {X = Unit {0}} (Ok tt)
      → ClearsSupers a b disk arrays joined (n + 1) {X = Unit {0}} (Ok tt)
  clears_over a b n not clears = record {
    only = clears.only;
    gone = tt;
    zeros = λ k low is.
        elim (cases_eq k n) [
          | inl same ↦ absurd (false_true (sym not ∙ ap joined (sym same) ∙ is))
          | inr other ↦ clears.zeros k (omega (arith, low, other)) is
        ];
  }
    where
      false_true : false ≡ true → ⊥
      false_true e = cc

  pub clears_next : (a m b : RackView) (n : ℕ) → joined n ≡ true → ClearsSupers a m disk arrays joined n {X = Unit {0}} (Ok tt)
      → WritesDurably m b disk (first_in arrays n + super_sector) no_state {X = Unit {0}} (Ok tt)
      → ClearsSupers a b disk arrays joined (n + 1) {X = Unit {0}} (Ok tt)
  clears_next a m b n is clears writes = record {
    only = only_then (IsCleared arrays joined disk) clears.only (only_zeros m b n (Ok tt) is writes);
    gone = tt;
    zeros = λ k low joins live v left.
        let late = live_second clears.only.stays live in
        elim (cases_eq (first_in arrays k + super_sector) (first_in arrays n + super_sector)) [
          | inl same ↦
              writes.durable (subst (λ s. IsLive m b disk s) same late) v (subst (λ s. MayLeave (b.held disk s) v) same left)
          | inr other ↦
              clears.zeros k
              (elim (cases_eq k n) [
                | inl here ↦ absurd (other (ap (λ i. first_in arrays i + super_sector) here))
                | inr away ↦ omega (arith, low, away)
              ])
              joins (live_first writes.stays live) v
              ((writes.others disk (first_in arrays k + super_sector) late (inr other)).within v left)
        ];
  }

  pub clears_gone : (a m b : RackView) (n many : ℕ) (e : Gone) → joined n ≡ true → ClearsSupers a m disk arrays joined n {X = Unit {0}} (Ok tt)
      → WritesDurably m b disk (first_in arrays n + super_sector) no_state {X = Unit {0}} (Err e)
      → ClearsSupers a b disk arrays joined many {X = Unit {0}} (Err e)
  clears_gone a m b n many e is clears writes = record {
    only = only_then (IsCleared arrays joined disk) clears.only (only_zeros m b n (Err e) is writes);
    gone = (writes.gone.0, rose_since (clears.only.stays.faults disk) writes.gone.1);
    zeros = tt;
  }

-- ---- all of it

module _ (disk : ℕ) (arrays : List View) (joined : ℕ → Bool) (table : Table) where
  only_cleared : (a b : RackView) → WritesOnly a b (IsCleared arrays joined disk) → WritesOnly a b (IsLaid arrays joined disk table)
  only_cleared a b only = only_weaker (IsCleared arrays joined disk) (IsLaid arrays joined disk table) (λ d s v at. inl at) only

  only_drive : (a b : RackView) → WritesOnly a b (IsOfDrive disk table) → WritesOnly a b (IsLaid arrays joined disk table)
  only_drive a b only = only_weaker (IsOfDrive disk table) (IsLaid arrays joined disk table) (λ d s v at. inr at) only

  -- the zeros couldn't be written
  pub declined_early : (a b : RackView) (e : Gone) → ClearsSupers a b disk arrays joined (length arrays) {X = Unit {0}} (Err e)
      → LaysReached a b disk arrays joined table {X = Unit {0}} (Err e)
  declined_early a b e clears = record {
    only = only_cleared a b clears.only;
    gone = clears.gone;
    zeros = tt;
    cleared = tt;
    gate = tt;
    mbr = tt;
    copies = tt;
    durable = tt;
  }

  -- where a superblock would be, nothing else is laid
  apart_zeros : (n : ℕ) → first_in arrays n + length_in arrays n + 33 ≤ table.sectors → 2048 ≤ length_in arrays n → (v : List ℕ)
      → IsOfDrive disk table disk (first_in arrays n + super_sector) v → ⊥
  apart_zeros n ends some v (own, inl at) = let here = at.0 in omega (arith, here)
  apart_zeros n ends some v (own, inr (inl at)) = let here = at.0 in omega (arith, here)
  apart_zeros n ends some v (own, inr (inr at)) =
      off_table table.sectors (first_in arrays n + super_sector) (omega arith) (omega (arith, ends, some)) (in_table table (first_in arrays n + super_sector) v at)

  -- or the rest couldn't, or all of it is laid
  pub laid_reached : (a m b : RackView) (r : Result (Unit {0}) Gone)
      → ((n : ℕ) → joined n ≡ true → (n < length arrays) × (first_in arrays n + length_in arrays n + 33 ≤ table.sectors))
      → ClearsSupers a m disk arrays joined (length arrays) {X = Unit {0}} (Ok tt) → LaysDrive m b disk table r → LaysReached a b disk arrays joined table r
  laid_reached a m b (Err e) fits clears lays = record {
    only = only_then (IsLaid arrays joined disk table) (only_cleared a m clears.only) (only_drive m b lays.only);
    gone = (lays.gone.0, rose_since (clears.only.stays.faults disk) lays.gone.1);
    zeros = tt;
    cleared = tt;
    gate = tt;
    mbr = tt;
    copies = tt;
    durable = tt;
  }
  laid_reached a m b (Ok done) fits clears lays = record {
    only = only_then (IsLaid arrays joined disk table) (only_cleared a m clears.only) (only_drive m b lays.only);
    gone = tt;
    zeros = λ n low is live v left.
        let at = fits n is in
        clears.zeros n low is (live_first lays.only.stays live) v
        ((lays.only.others disk (first_in arrays n + super_sector) (live_second clears.only.stays live) (apart_zeros n at.1 (some_length arrays n at.0))).within v left);
    cleared = λ live. lays.cleared (live_second clears.only.stays live);
    gate = λ live. lays.gate (live_second clears.only.stays live);
    mbr = λ live. lays.mbr (live_second clears.only.stays live);
    copies = λ live. lays.copies (λ s of. live_second clears.only.stays (live s of));
    durable = λ s live. lays.durable s (live_second clears.only.stays live);
  }

  -- laid, and then slices written
  pub laid_sliced : (t : Slices) (a m b : RackView) → WritesOnly a m (IsLaid arrays joined disk table) → WritesOnly m b (IsSliced t)
      → WritesOnly a b (IsLaidOrSliced t arrays joined disk table)
  laid_sliced t a m b one two =
      let all = IsLaidOrSliced t arrays joined disk table in
      only_then all (only_weaker (IsLaid arrays joined disk table) all (λ d s v at. inl at) one) (only_weaker (IsSliced t) all (λ d s v at. inr at) two)
