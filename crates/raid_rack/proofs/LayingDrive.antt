-- A new drive is laid: what its calls leave, where its slices lie, and that its table can be written.
use Rattle.std.proofs.Common.{◌≡◌, ◌≢◌, ◌⊎◌, ℕ, zero, suc, ◌+◌, ◌-◌, ◌*◌, ◌<◌, ◌≤◌, ◌==◌, ◌&&◌, ◌++◌, nat_le, nat_lt, if◌then◌else◌, Bool, true, false, List, [], ◌∷◌, filter, get_or, is_some, length, map, set, slice_get, take, sum_by, unwrap_or, Option, Some, None, Result, Ok, Err, OnOk, refl, sym, ap, subst, ◌∙◌, inl, inr, eq-eqb, le-ltb, lt-ltb, add-one, arith}
use Rattle.std.specs.List.{range_with_len}
use Rattle.std.specs.Option.{option_map_or}
use Rattle.std.proofs.lemmas.Bool.{and_parts, both_ways, cases_eq, cases_lt, leb-true, ne_eqb}
use Rattle.std.proofs.lemmas.List.{take_all}
use Rattle.std.proofs.lemmas.List.Sums.{sum_by_more}
use Rattle.std.proofs.lemmas.List.Elements.{filter-append}
use Rattle.std.proofs.lemmas.Option.{slice_get-get_or, slice_get_past, slice_get_within}
use Rattle.rack.specs.declared.Gone.{Gone}
use Rattle.rack.specs.Seen.{RackView, IsLive, SameRack}
use Rattle.rack.specs.Joins.{live_first, live_second, rose_since, stays_then}
use Rattle.rack.specs.Sequences.{WritesDurably, WritesOnly}
use Rattle.rack.proofs.Durably.{durable_only}
use Rattle.rack.proofs.Writing.{only_then, only_weaker}
use Rattle.slice_rack.specs.declared.SliceFault.{SliceFault}
use Rattle.slice_rack.specs.declared.SliceFault.TheVariants.{Unseated, Outside, Overlap}
use Rattle.slice_rack.specs.Slices.{Slices, seat_of as disk_at, first_of, sectors_of, place_of}
use Rattle.slice_rack.specs.Changes.{Adds, IsPast, IsWithin, Overlaps}
use Rattle.gpt_table.specs.declared.Entry.{Entry}
use Rattle.gpt_table.specs.declared.Table.{Table}
use Rattle.gpt_table.specs.declared.TableCopy.{TableCopy}
use Rattle.gpt_table.specs.declared.TableCopy.TheVariants.{Primary, Backup}
use Rattle.gpt_table.specs.Disk.{Contents, HoldsCopy, IsOfCopy, entries_bytes, joined, now_on}
use Rattle.gpt_table.specs.Format.{IsWritten, entries_sector, header_sector}
use Rattle.gpt_table.specs.Plans.{IsOfTable, WritesTable, in_table}
use Rattle.gpt_table.proofs.Joined.{joined_agrees}
use Rattle.gpt_table.proofs.Ranges.{range_more}
use Rattle.array_image.specs.Places.{log_kind, log_sectors, slice_of, state_sector}
use Rattle.array_image.proofs.Losing.{map_join}
use Rattle.array_model.specs.View.{View}
use Rattle.array_core.specs.Seats.{seat_of}
use Rattle.raid_laws.proofs.Each.{get_set_other, get_set_same}
use Rattle.raid_rack.specs.RaidRack.{is_written}
use Rattle.log_laws.specs.Bytes.{first_gate}
use Rattle.raid_laws.specs.NewDrive.{AreLaid, IsOfDrive, LaysDrive, SeatsDrive, SeatsFirst, entries_of, entry_of, first_in, first_laid, gate_at, joins, length_in, member_entries, member_entry, no_state, sectors_laid, slice_length}

-- ---- calls

-- the state's sector and the gate are none of a table
pub off_table : (n s : ℕ) → 34 ≤ s → s + 33 < n → IsOfTable n s → ⊥
off_table n s low high (inl mbr) = omega (arith, low, mbr)
off_table n s low high (inr (inl (inl header))) = omega (arith, low, header)
off_table n s low high (inr (inl (inr among))) = let last = among.1 in omega (arith, low, last)
off_table n s low high (inr (inr (inl header))) = omega (arith, high, header)
off_table n s low high (inr (inr (inr among))) = let first = among.0 in omega (arith, high, first)

-- they lie inside the disk
pub in_disk : (n s : ℕ) → 10273 ≤ n → IsOfTable n s → s < n
in_disk n s room (inl mbr) = omega (arith, room, mbr)
in_disk n s room (inr (inl (inl header))) = omega (arith, room, header)
in_disk n s room (inr (inl (inr among))) = let last = among.1 in omega (arith, room, last)
in_disk n s room (inr (inr (inl header))) = omega (arith, room, header)
in_disk n s room (inr (inr (inr among))) = let last = among.1 in omega (arith, room, last)

pub copy_agrees : (copy : TableCopy) (table : Table) (d e : Contents) → ((s : ℕ) → IsOfCopy copy table.sectors s → d s ≡ e s) → HoldsCopy copy table d → HoldsCopy copy table e
unfolding entries_bytes
copy_agrees copy table d e same holds =
    let start = entries_sector copy table.sectors in
    let entries = joined_agrees d e start 32 (λ k below. same (start + k) (inr (omega arith, omega (arith, below)))) in
    subst (IsWritten copy table (e (header_sector copy table.sectors))) entries
    (subst (λ h. IsWritten copy table h (joined d start 32)) (same (header_sector copy table.sectors) (inl refl)) holds)

pub of_copy : (copy : TableCopy) (n s : ℕ) → IsOfCopy copy n s → IsOfTable n s
of_copy Primary n s of = inr (inl of)
of_copy Backup n s of = inr (inr of)

module _ (disk : ℕ) (table : Table) where
  abbrev may : ℕ → ℕ → List ℕ → Type 0
  may = IsOfDrive disk table

  only_cleared : (a b : RackView) (r : Result (Unit {0}) Gone) → WritesDurably a b disk state_sector no_state r → WritesOnly a b may
  only_cleared a b r writes =
      only_weaker (λ d s v. (d ≡ disk) × (s ≡ state_sector) × (v ≡ no_state)) may (λ d s v at. (at.0, inl (at.1, at.2))) (durable_only r writes)

  only_gate : (a b : RackView) (r : Result (Unit {0}) Gone) → WritesDurably a b disk gate_at first_gate r → WritesOnly a b may
  only_gate a b r writes =
      only_weaker (λ d s v. (d ≡ disk) × (s ≡ gate_at) × (v ≡ first_gate)) may (λ d s v at. (at.0, inr (inl (at.1, at.2)))) (durable_only r writes)

  only_table : (a b : RackView) (r : Result (Unit {0}) Gone) → WritesTable a b disk table r → WritesOnly a b may
  only_table a b r writes = only_weaker _ may (λ d s v at. (at.0, inr (inr (writes.within s v at.1)))) writes.follows

  pub lays_first : (a b : RackView) (e : Gone) → WritesDurably a b disk state_sector no_state {X = Unit {0}} (Err e) → LaysDrive a b disk table {X = Unit {0}} (Err e)
  lays_first a b e writes =
      record { only = only_cleared a b (Err e) writes; gone = writes.gone; cleared = tt; gate = tt; mbr = tt; copies = tt; durable = tt }

  pub lays_second : (a m b : RackView) (e : Gone) → WritesDurably a m disk state_sector no_state {X = Unit {0}} (Ok tt) → WritesTable m b disk table {X = Unit {0}} (Err e)
      → LaysDrive a b disk table {X = Unit {0}} (Err e)
  lays_second a m b e one two = record {
    only = only_then may (only_cleared a m (Ok tt) one) (only_table m b (Err e) two);
    gone = (two.gone.0, rose_since (one.stays.faults disk) two.gone.1);
    cleared = tt;
    gate = tt;
    mbr = tt;
    copies = tt;
    durable = tt;
  }

  pub lays_third : (a m n b : RackView) (r : Result (Unit {0}) Gone) → 10273 ≤ table.sectors → WritesDurably a m disk state_sector no_state {X = Unit {0}} (Ok tt)
      → WritesTable m n disk table {X = Unit {0}} (Ok tt) → WritesDurably n b disk gate_at first_gate r → LaysDrive a b disk table r
  lays_third a m n b (Err e) room one two three = record {
    only = only_then may (only_cleared a m (Ok tt) one) (only_then may (only_table m n (Ok tt) two) (only_gate n b (Err e) three));
    gone = (three.gone.0, rose_since (one.stays.faults disk) (rose_since (two.follows.stays.faults disk) three.gone.1));
    cleared = tt;
    gate = tt;
    mbr = tt;
    copies = tt;
    durable = tt;
  }
  lays_third a m n b (Ok done) room one two three = record {
    only = only_then may (only_cleared a m (Ok tt) one) (only_then may (only_table m n (Ok tt) two) (only_gate n b (Ok done) three));
    gone = tt;
    cleared = λ live v left.
        let late : IsLive n b disk state_sector = live_second early live in
        let mid : IsLive a n disk state_sector = live_first three.stays live in
        one.durable (live_first two.follows.stays mid) v
        ((two.follows.others disk state_sector (live_second one.stays mid)
        (λ w at. off_table table.sectors state_sector (omega arith) (omega (arith, room)) (in_table table state_sector w (two.within state_sector w at.1)))).within v
        ((three.others disk state_sector late (inr (λ same. omega (arith, same)))).within v left));
    gate = λ live v left. three.durable (live_second early live) v left;
    mbr = λ live.
        (three.others disk 0 (live_second early live) (inr (λ same. omega (arith, same)))).current
        ∙ two.mbr (live_second one.stays (live_first three.stays live));
    copies = λ live copy.
        copy_agrees copy table (now_on n disk) (now_on b disk)
        (λ s of.
        let table_of = of_copy copy table.sectors s of in
        sym (three.others disk s (live_second early (live s table_of))
        (inr (λ same. off_table table.sectors gate_at (omega arith) (omega (arith, room)) (subst (IsOfTable table.sectors) same table_of)))).current)
        (two.both (one.stays.told disk (live 0 (inl refl)).is_told) (λ s of. three.stays.spent disk s (live s of).unspent) copy);
    durable = λ s live. three.synced s (live_second early live);
  }
    where
      early : SameRack a n
      early = stays_then one.stays two.follows.stays

-- ---- its table

-- the entries of one array more
pub entries_more : (drive : List ℕ) (arrays : List View) (place sectors n : ℕ)
    → entries_of drive arrays place sectors (n + 1)
    ≡ entries_of drive arrays place sectors n ++ (if joins arrays place sectors n then member_entry drive arrays n ∷ [] else [])
entries_more drive arrays place sectors n =
    ap (λ es. entry ∷ es)
    (ap (λ ns. map (member_entry drive arrays) (filter (joins arrays place sectors) ns)) (ap (range_with_len 0) (add-one n) ∙ range_more 0 n ∙ ap (λ k. range_with_len 0 n ++ k ∷ []) (let e : 0 + n ≡ n = omega arith in e))
    ∙ ap (map (member_entry drive arrays)) (filter-append (joins arrays place sectors) (range_with_len 0 n) (n ∷ []))
    ∙ map_join (member_entry drive arrays) (filter (joins arrays place sectors) (range_with_len 0 n)) (filter (joins arrays place sectors) (n ∷ []))
    ∙ ap (λ es. member_entries drive arrays place sectors n ++ es) (of (joins arrays place sectors n)))
  where
    entry : Entry
    entry = entry_of drive 0 log_kind state_sector log_sectors

    of : (b : Bool) → map (member_entry drive arrays) (if b then n ∷ [] else []) ≡ (if b then member_entry drive arrays n ∷ [] else [])
    of true = refl
    of false = refl

-- ---- where slices lie

module _ (arrays : List View) where
  first_step : (n : ℕ) → first_in arrays n ≤ first_in arrays (n + 1)
  first_step n =
      elim (cases_lt n (length arrays)) [
        | inl low ↦ let more = next_of n low in omega (arith, more)
        | inr past ↦
            let one = ap (sum_by slice_length) (take_all n arrays past) in
            let two = ap (sum_by slice_length) (take_all (n + 1) arrays (omega (arith, past))) in
            omega (arith, one, two)
      ]
    where
      next_of : (n : ℕ) → n < length arrays → (d : View) × (sum_by slice_length (take (n + 1) arrays) ≡ sum_by slice_length (take n arrays) + slice_length d)
      next_of n low = of arrays low
        where
          of : (xs : List View) → n < length xs → (d : View) × (sum_by slice_length (take (n + 1) xs) ≡ sum_by slice_length (take n xs) + slice_length d)
          of [] below = absurd (omega (arith, below))
          of (x ∷ xs) below = (get_or (x ∷ xs) n x, sum_by_more slice_length (x ∷ xs) n x below)

  first_mono : (k n : ℕ) → k ≤ n → first_in arrays k ≤ first_in arrays n
  first_mono k zero less = let e : k ≡ zero = omega (arith, less) in subst (λ j. first_in arrays j ≤ first_in arrays zero) (sym e) (omega arith)
  first_mono k (suc n) less =
      elim (cases_eq k (suc n)) [
        | inl same ↦ subst (λ j. first_in arrays j ≤ first_in arrays (suc n)) (sym same) (omega arith)
        | inr other ↦
            let one = first_mono k n (omega (arith, less, other)) in
            let two = first_step n in
            let e : n + 1 ≡ suc n = omega arith in
            subst (λ j. first_in arrays k ≤ first_in arrays j) e (omega (arith, one, two))
      ]

  -- a slice ends where the next array's begin
  first_next : (k : ℕ) → k < length arrays → first_in arrays (k + 1) ≡ first_in arrays k + length_in arrays k
  first_next k low = of arrays low
    where
      of : (xs : List View) → k < length xs → first_in xs (k + 1) ≡ first_in xs k + length_in xs k
      of [] below = absurd (omega (arith, below))
      of (x ∷ xs) below =
          let more = sum_by_more slice_length (x ∷ xs) k x below in
          let own : length_in (x ∷ xs) k ≡ slice_length (get_or (x ∷ xs) k x) = ap (λ o. option_map_or slice_length o 0) (slice_get-get_or (x ∷ xs) k x below) in
          omega (arith, more, own)

  pub first_after : (k n : ℕ) → k < n → k < length arrays → first_in arrays k + length_in arrays k ≤ first_in arrays n
  first_after k n less low = let next = first_next k low in let mono = first_mono (k + 1) n (omega (arith, less)) in omega (arith, next, mono)

  -- where a place joins, the array is there and the slice lies before the backup
  pub joins_fits : (place sectors n : ℕ) → joins arrays place sectors n ≡ true → (n < length arrays) × (first_in arrays n + length_in arrays n + 33 ≤ sectors)
  joins_fits place sectors n is = of (slice_get arrays n) refl is
    where
      of : (o : Option View) → slice_get arrays n ≡ o
          → option_map_or (λ u. is_some (seat_of u place) && nat_le (first_in arrays n + slice_length u + 33) sectors) o false ≡ true
          → (n < length arrays) × (first_in arrays n + length_in arrays n + 33 ≤ sectors)
      of None none is = absurd (both_ways false refl is)
      of (Some u) at is =
          let fits = leb-true (first_in arrays n + slice_length u + 33) sectors (and_parts (is_some (seat_of u place)) _ is).1 in
          let own : length_in arrays n ≡ slice_length u = ap (λ o. option_map_or slice_length o 0) at in
          (slice_get_within arrays n u at, omega (arith, fits, own))

-- ---- which arrays it joins

next_test : (k n : ℕ) → k ≢ n → nat_lt k (n + 1) ≡ nat_lt k n
next_test k n other =
    elim (cases_lt k n) [
      | inl low ↦ lt-ltb k (n + 1) (omega (arith, low)) ∙ sym (lt-ltb k n low)
      | inr high ↦ le-ltb k (n + 1) (omega (arith, high, other)) ∙ sym (le-ltb k n high)
    ]

pub joining_next : (arrays : List View) (place sectors i : ℕ) (flags : List Bool) (v : Bool) → i < length flags → v ≡ joins arrays place sectors i
    → ((n : ℕ) → is_written flags n ≡ (if nat_lt n i then joins arrays place sectors n else false))
    → (n : ℕ) → is_written (set flags i v) n ≡ (if nat_lt n (i + 1) then joins arrays place sectors n else false)
joining_next arrays place sectors i flags v low new before n =
    elim (cases_eq n i) [
      | inl same ↦
          ap (λ k. is_written (set flags i v) k) same ∙ ap (λ o. unwrap_or o false) (get_set_same flags i v low) ∙ new ∙ ap (joins arrays place sectors) (sym same)
          ∙ sym (ap (λ b. if b then joins arrays place sectors n else false) (lt-ltb n (i + 1) (omega (arith, same))))
      | inr other ↦
          ap (λ o. unwrap_or o false) (get_set_other flags i n v other) ∙ before n
          ∙ sym (ap (λ b. if b then joins arrays place sectors n else false) (next_test n i other))
    ]

-- no array of a higher number
pub none_joins : (arrays : List View) (place sectors n : ℕ) → length arrays ≤ n → joins arrays place sectors n ≡ false
none_joins arrays place sectors n past =
    ap (λ o. option_map_or (λ (u : View). is_some (seat_of u place) && nat_le (first_in arrays n + slice_length u + 33) sectors) o false) (slice_get_past arrays n past)

pub joining_all : (arrays : List View) (place sectors i : ℕ) (flags : List Bool) → length arrays ≤ i
    → ((n : ℕ) → is_written flags n ≡ (if nat_lt n i then joins arrays place sectors n else false))
    → (n : ℕ) → is_written flags n ≡ joins arrays place sectors n
joining_all arrays place sectors i flags past before n =
    before n
    ∙ elim (cases_lt n i) [
      | inl low ↦ ap (λ b. if b then joins arrays place sectors n else false) (lt-ltb n i low)
      | inr high ↦ ap (λ b. if b then joins arrays place sectors n else false) (le-ltb n i high) ∙ sym (none_joins arrays place sectors n (omega (arith, past, high)))
    ]

-- ---- its slices, one after the other

some_same : {x y : ℕ} → Some x ≡ Some y → x ≡ y
some_same {x} {y} same = ap (λ o. option_map_or (λ n. n) o 0) same

not_none : {x : ℕ} → Some x ≡ None → ⊥
not_none same = cc

taken : (t u : Slices) (at first sectors : ℕ) (r : Result (Unit {0}) SliceFault) → (r ≡ Err Unseated → ⊥) → (r ≡ Err Outside → ⊥) → (r ≡ Err Overlap → ⊥)
    → OnOk r (Adds t u at first sectors) → Adds t u at first sectors
taken t u at first sectors (Ok x) unseated outside overlap adds = adds
taken t u at first sectors (Err Unseated) unseated outside overlap adds = absurd (unseated refl)
taken t u at first sectors (Err Outside) unseated outside overlap adds = absurd (outside refl)
taken t u at first sectors (Err Overlap) unseated outside overlap adds = absurd (overlap refl)

-- the slice of array n's member
module _ (arrays : List View) (place sectors : ℕ) where
  laid_zero : (sectors_laid arrays place sectors 0 ≡ log_sectors) × (first_laid arrays 0 ≡ state_sector)
  laid_zero = (refl, refl)

  pub laid_member : (n : ℕ) → (sectors_laid arrays place sectors (n + 1) ≡ (if joins arrays place sectors n then length_in arrays n else 0)) × (first_laid arrays (n + 1) ≡ first_in arrays n)
  laid_member n =
      let other : (n + 1 == 0) ≡ false = ne_eqb (n + 1) 0 (λ same. omega (arith, same)) in
      let index : n + 1 - 1 ≡ n = omega arith in (
        ap (λ b. if b then log_sectors else if joins arrays place sectors (n + 1 - 1) then length_in arrays (n + 1 - 1) else 0) other
            ∙ ap (λ k. if joins arrays place sectors k then length_in arrays k else 0) index,
        ap (λ b. if b then state_sector else first_in arrays (n + 1 - 1)) other ∙ ap (first_in arrays) index,
      )

  -- a slice that is laid already ends before it
  before_it : (n k : ℕ) → k < n + 1 → (v : ℕ) → v < sectors_laid arrays place sectors k → first_in arrays n ≤ first_laid arrays k + v → ⊥
  before_it n zero less v within high = let some = first_mono arrays 0 n (omega arith) in let zero_is : first_in arrays 0 ≡ 10240 = refl in omega (arith, within, high, some, zero_is)
  before_it n (suc k) less v within high =
      let at = laid_member k in
      let e : k + 1 ≡ suc k = omega arith in
      let size = ap (λ j. sectors_laid arrays place sectors j) e in
      let begins = ap (first_laid arrays) e in
      of (joins arrays place sectors k) refl (omega (arith, size, at.0, within)) (omega (arith, begins, at.1, high))
    where
      of : (b : Bool) → joins arrays place sectors k ≡ b → v < (if joins arrays place sectors k then length_in arrays k else 0) → first_in arrays n ≤ first_in arrays k + v → ⊥
      of true is inside high =
          let fits = joins_fits arrays place sectors k is in
          let after = first_after arrays k n (omega (arith, less)) fits.0 in
          let size = ap (λ b. if b then length_in arrays k else 0) is in
          omega (arith, after, size, inside, high)
      of false is inside high = let size = ap (λ b. if b then length_in arrays k else 0) is in omega (arith, size, inside)

  pub laid_more : (x : RackView) (n first size : ℕ) (t u : Slices) (r : Result (Unit {0}) SliceFault) → n < 16 → joins arrays place sectors n ≡ true
      → first ≡ first_in arrays n → size ≡ length_in arrays n → AreLaid x arrays place sectors (n + 1) t
      → (r ≡ Err Unseated → disk_at t place ≡ None) → (r ≡ Err Outside → IsPast t x place first size)
      → (r ≡ Err Overlap → IsWithin t x place first size × Overlaps t (17 * place + (n + 1)) first size)
      → OnOk r (Adds t u (17 * place + (n + 1)) first size) → AreLaid x arrays place sectors (n + 2) u
  laid_more x n first size t u r few is begins long laid unseated outside overlap adds = record {
    disk = laid.disk;
    seat = added.seats place ∙ laid.seat;
    size = laid.size;
    lengths = λ d on. added.sectors_are d ∙ lengths d on (cases_eq d at);
    firsts = λ d on low some. firsts d on low some (cases_eq d at);
  }
    where
      at : ℕ
      at = 17 * place + (n + 1)

      none_past : r ≡ Err Outside → ⊥
      none_past same =
          let past = outside same in
          let disk : past.0 ≡ laid.disk = some_same (sym past.1 ∙ laid.seat) in
          let short = past.2 in
          let whole = ap x.sectors disk in
          let fits = (joins_fits arrays place sectors n is).1 in
          let room = laid.size in
          omega (arith, short, whole, fits, room, begins, long)

      none_over : r ≡ Err Overlap → ⊥
      none_over same =
          let shares = (overlap same).1 in
          let d = shares.0 in
          let on : place_of d ≡ place = let own = shares.1 in omega (arith, own, few) in
          let within = shares.3.1.2 in
          let inside = shares.3.1.1 in
          let meet = shares.3.1.3 in
          elim (cases_lt (slice_of d) (n + 1)) [
            | inl low ↦
                let size_is = laid.lengths d on ∙ ap (λ b. if b then sectors_laid arrays place sectors (slice_of d) else 0) (lt-ltb (slice_of d) (n + 1) low) in
                let first_is = laid.firsts d on low (omega (arith, within)) in
                before_it n (slice_of d) low shares.3.1.0 (omega (arith, size_is, within)) (omega (arith, first_is, meet, begins))
            | inr high ↦
                let none = laid.lengths d on ∙ ap (λ b. if b then sectors_laid arrays place sectors (slice_of d) else 0) (le-ltb (slice_of d) (n + 1) high) in
                omega (arith, none, within)
          ]

      added : Adds t u (17 * place + (n + 1)) first size
      added = taken t u (17 * place + (n + 1)) first size r (λ same. not_none (sym laid.seat ∙ unseated same)) none_past none_over adds

      lengths : (d : ℕ) → place_of d ≡ place → (d ≡ at) ⊎ (d ≢ at)
          → (if d == at then size else sectors_of t d) ≡ (if nat_lt (slice_of d) (n + 2) then sectors_laid arrays place sectors (slice_of d) else 0)
      lengths d on (inl same) =
          let slice : slice_of d ≡ n + 1 = omega (arith, same, few) in
          ap (λ b. if b then size else sectors_of t d) (eq-eqb d at same) ∙ long ∙ sym (ap (λ b. if b then length_in arrays n else 0) is)
          ∙ sym (ap (sectors_laid arrays place sectors) slice ∙ (laid_member n).0)
          ∙ sym (ap (λ b. if b then sectors_laid arrays place sectors (slice_of d) else 0) (lt-ltb (slice_of d) (n + 2) (omega (arith, slice))))
      lengths d on (inr other) =
          let apart : slice_of d ≢ n + 1 = λ same. other (omega (arith, same, on)) in
          let e : n + 1 + 1 ≡ n + 2 = omega arith in
          ap (λ b. if b then size else sectors_of t d) (ne_eqb d at other) ∙ laid.lengths d on
          ∙ ap (λ b. if b then sectors_laid arrays place sectors (slice_of d) else 0) (sym (next_test (slice_of d) (n + 1) apart) ∙ ap (nat_lt (slice_of d)) e)

      firsts : (d : ℕ) → place_of d ≡ place → slice_of d < n + 2 → 0 < sectors_of u d → (d ≡ at) ⊎ (d ≢ at) → first_of u d ≡ first_laid arrays (slice_of d)
      firsts d on low some (inl same) =
          let slice : slice_of d ≡ n + 1 = omega (arith, same, few) in
          added.firsts d ∙ ap (λ b. if b then first else first_of t d) (eq-eqb d at same) ∙ begins ∙ sym (ap (first_laid arrays) slice ∙ (laid_member n).1)
      firsts d on low some (inr other) =
          let apart : slice_of d ≢ n + 1 = λ same. other (omega (arith, same, on)) in
          let kept : sectors_of u d ≡ sectors_of t d = added.sectors_are d ∙ ap (λ b. if b then size else sectors_of t d) (ne_eqb d at other) in
          added.firsts d ∙ ap (λ b. if b then first else first_of t d) (ne_eqb d at other) ∙ laid.firsts d on (omega (arith, low, apart)) (omega (arith, some, kept))

  -- all of them
  pub laid_all : (x : RackView) (disk n : ℕ) (t u : Slices) → length arrays ≤ n → AreLaid x arrays place sectors (n + 1) u → SeatsFirst place disk t u
      → SeatsDrive arrays place disk sectors t u
  laid_all x disk n t u past laid first = record {
    seats = first.seats;
    own = λ d on. laid.lengths d on ∙ own d (cases_lt (slice_of d) (n + 1));
    own_firsts = λ d on some. firsts d on some (cases_lt (slice_of d) (n + 1));
    others = first.sectors;
    firsts = first.firsts;
  }
    where
      none : (k : ℕ) → n + 1 ≤ k → sectors_laid arrays place sectors k ≡ 0
      none k high =
          let e : k - 1 + 1 ≡ k = omega (arith, high) in
          sym (ap (sectors_laid arrays place sectors) e) ∙ (laid_member (k - 1)).0
          ∙ ap (λ b. if b then length_in arrays (k - 1) else 0) (none_joins arrays place sectors (k - 1) (omega (arith, past, high)))

      own : (d : ℕ) → (slice_of d < n + 1) ⊎ (n + 1 ≤ slice_of d)
          → (if nat_lt (slice_of d) (n + 1) then sectors_laid arrays place sectors (slice_of d) else 0) ≡ sectors_laid arrays place sectors (slice_of d)
      own d (inl low) = ap (λ b. if b then sectors_laid arrays place sectors (slice_of d) else 0) (lt-ltb (slice_of d) (n + 1) low)
      own d (inr high) = ap (λ b. if b then sectors_laid arrays place sectors (slice_of d) else 0) (le-ltb (slice_of d) (n + 1) high) ∙ sym (none (slice_of d) high)

      firsts : (d : ℕ) → place_of d ≡ place → 0 < sectors_of u d → (slice_of d < n + 1) ⊎ (n + 1 ≤ slice_of d) → first_of u d ≡ first_laid arrays (slice_of d)
      firsts d on some (inl low) = laid.firsts d on low some
      firsts d on some (inr high) =
          let empty = laid.lengths d on ∙ ap (λ b. if b then sectors_laid arrays place sectors (slice_of d) else 0) (le-ltb (slice_of d) (n + 1) high) in
          absurd (omega (arith, some, empty))
