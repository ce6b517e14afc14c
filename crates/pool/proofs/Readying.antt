-- A book that has come of another one by marks alone: what a drive that is taken in finds in it.
use Rattle.std.specs.Prelude.{slice_set}
use Rattle.std.specs.List.{list_all, list_any, range_with_len}
use Rattle.std.specs.Option.{option_map_or}
use Rattle.std.proofs.Common.{◌≡◌, ◌≢◌, ◌⊎◌, ℕ, zero, suc, ◌+◌, ◌-◌, ◌<◌, ◌≤◌, ◌^◌, ◌==◌, ◌&&◌, ◌||◌, not, nat_le, Bool, true, false, List, [], ◌∷◌, Option, Some, None, drop, filter, if◌then◌else◌, is_some, length, length-take, map, slice_get, take, option_map, refl, sym, ap, ap₂, subst, ◌∙◌, inl, inr, arith, lt-ltb, le-ltb}
use Rattle.std.proofs.lemmas.Bool.{both_ways, cases_lt}
use Rattle.std.proofs.lemmas.Option.{slice_get-get_or, slice_get_past}
use Rattle.rack.specs.Seen.{RackView}
use Rattle.array_image.specs.Places.{log_kind, log_sectors, raid_kind, state_sector}
use Rattle.array_image.specs.States.{is_current}
use Rattle.gpt_table.specs.declared.Table.{Table}
use Rattle.pool_state.specs.declared.contents.Drive.{Drive}
use Rattle.pool_state.specs.declared.contents.Plan.{Plan}
use Rattle.pool_state.specs.declared.contents.State.{State}
use Rattle.array_model.specs.View.{View as ArrayView, IsArray, place_at}
use Rattle.raid_laws.specs.Raid.{Raid}
use Rattle.std.proofs.lemmas.List.FromFn.{get_or-map-range_with_len, length-map-range_with_len}
use Rattle.array_core.specs.Seats.{renewed, seat_of}
use Rattle.raid_rack.specs.declared.arrays.Arrays.{Arrays}
use Rattle.raid_laws.specs.Book.{OnlyMarksSince, drive_of}
use Rattle.raid_laws.specs.Enlisting.{enlisted, next_drive, with_drive}
use Rattle.raid_laws.specs.Moves.{KeepsArrays, OnlyFailures}
use Rattle.raid_laws.specs.NewDrive.{drive_table, entry_of, first_in, is_reached, joins, length_in, reaches_all}
use Rattle.raid_rack.specs.RaidRack.{IsRunning, no_array, raid_by}
use Rattle.raid_laws.specs.Missing.{raised}
use Rattle.raid_laws.proofs.Committed.{raised_range}
use Rattle.raid_rack.proofs.Enlisted.{current_enlisted}
use Rattle.raid_rack.proofs.Renewed.{member_found}
use Rattle.raid_rack.proofs.Renewing.{AreSameMembers, first_same, joins_same, length_same, renewed_if, same_members}
use Rattle.shr_base.specs.Units.{units_of}
use Rattle.pool.specs.Moment.{views_of}
use Rattle.pool.specs.Replacing.{IsAdmitted, has_other_missing, has_units}
use Rattle.pool.proofs.Admitted.{dropped_at, reaches_each, taken_at}
use Rattle.pool.proofs.Shown.{views_are}

-- ---- the list of drives

got_map : (ds : List Drive) (k : ℕ) → option_map drive_of (slice_get ds k) ≡ slice_get (map drive_of ds) k
got_map [] k = refl
got_map (d ∷ ds) zero = refl
got_map (d ∷ ds) (suc k) = got_map ds k

drive_same : (s t : State) → OnlyMarksSince s t → (k : ℕ) → option_map drive_of (slice_get t.drives.items k) ≡ option_map drive_of (slice_get s.drives.items k)
drive_same s t after k = got_map t.drives.items k ∙ ap (λ ds. slice_get ds k) after.same.drives ∙ sym (got_map s.drives.items k)

length_map : (ds : List Drive) → length (map drive_of ds) ≡ length ds
length_map [] = refl
length_map (d ∷ ds) = ap suc (length_map ds)

pub many_same : (s t : State) → OnlyMarksSince s t → length t.drives.items ≡ length s.drives.items
many_same s t after = sym (length_map t.drives.items) ∙ ap length after.same.drives ∙ length_map s.drives.items

units_in : (o : Option Drive) → option_map (λ (d : Drive). d.units) o ≡ option_map (λ (p : List ℕ × ℕ). p.1) (option_map drive_of o)
units_in None = refl
units_in (Some d) = refl

pub units_same : (s t : State) → OnlyMarksSince s t → (k : ℕ) → option_map (λ (d : Drive). d.units) (slice_get t.drives.items k) ≡ option_map (λ (d : Drive). d.units) (slice_get s.drives.items k)
units_same s t after k =
    units_in (slice_get t.drives.items k) ∙ ap (option_map (λ (p : List ℕ × ℕ). p.1)) (drive_same s t after k) ∙ sym (units_in (slice_get s.drives.items k))

has_in : (n : ℕ) (o : Option Drive) → option_map_or (λ (d : Drive). d.units == n) o false ≡ option_map_or (λ (p : List ℕ × ℕ). p.1 == n) (option_map drive_of o) false
has_in n None = refl
has_in n (Some d) = refl

pub has_units_same : (s t : State) → OnlyMarksSince s t → (k n : ℕ) → has_units t k n ≡ has_units s k n
has_units_same s t after k n =
    has_in n (slice_get t.drives.items k) ∙ ap (λ o. option_map_or (λ (p : List ℕ × ℕ). p.1 == n) o false) (drive_same s t after k) ∙ sym (has_in n (slice_get s.drives.items k))

-- ---- another drive that is missing

or_cases : (b c : Bool) → (b || c) ≡ true → (b ≡ true) ⊎ (c ≡ true)
or_cases true c is = inl refl
or_cases false c is = inr is

some_at : (xs : List Drive) → list_any (λ (d : Drive). d.missing) xs ≡ true → (k : ℕ) × (k < length xs) × (option_map_or (λ (d : Drive). d.missing) (slice_get xs k) false ≡ true)
some_at [] is = absurd (both_ways false refl is)
some_at (x ∷ xs) is =
    elim (or_cases x.missing (list_any (λ (d : Drive). d.missing) xs) is) [
      | inl here ↦ (0, omega arith, here)
      | inr later ↦ let at = some_at xs later in (suc at.0, (let low = at.1 in omega (arith, low)), at.2)
    ]

-- ---- the state that has the new drive

map_set : (ds : List Drive) (k : ℕ) (d : Drive) → map drive_of (slice_set ds k d) ≡ slice_set (map drive_of ds) k (drive_of d)
map_set [] k d = refl
map_set (e ∷ ds) zero d = refl
map_set (e ∷ ds) (suc k) d = ap (λ rest. drive_of e ∷ rest) (map_set ds k d)

pub next_same : (s t : State) → OnlyMarksSince s t → next_drive t ≡ next_drive s
next_same s t after =
    ap (λ p. next_drive (record s { pool = p; serial = t.serial })) after.same.pool ∙ ap (λ n. next_drive (record s { serial = n })) after.same.serial

raised_at : (e : ℕ) → ((e < 2 ^ 63 - 1) × (raised e ≡ e + 1)) ⊎ ((2 ^ 63 - 1 ≤ e) × (raised e ≡ e))
raised_at e = elim (cases_lt e (2 ^ 63 - 1)) [
  | inl room ↦ inl (room, ap (λ (b : Bool). if b then e + 1 else e) (lt-ltb e (2 ^ 63 - 1) room))
  | inr last ↦ inr (last, ap (λ (b : Bool). if b then e + 1 else e) (le-ltb e (2 ^ 63 - 1) last))
]

raised_both : (a b : ℕ) → (a ≤ b → raised a ≤ raised b) × (a < b → (raised a < raised b) ⊎ (2 ^ 63 - 1 ≤ raised b))
raised_both a b = elim (raised_at a) [
  | inl one ↦ elim (raised_at b) [
    | inl two ↦ let p = one.1 in let q = two.1 in (λ le. omega (arith, le, p, q), λ lt. inl (omega (arith, lt, p, q)))
    | inr two ↦
        let p = one.1 in let q = two.1 in let room = one.0 in let last = two.0 in
        (λ le. omega (arith, room, last, p, q), λ lt. inr (omega (arith, last, q)))
  ]
  | inr one ↦ elim (raised_at b) [
    | inl two ↦
        let p = one.1 in let q = two.1 in let last = one.0 in let room = two.0 in
        (λ le. omega (arith, le, p, q), λ lt. absurd (omega (arith, lt, last, room)))
    | inr two ↦ let p = one.1 in let q = two.1 in let last = two.0 in (λ le. omega (arith, le, p, q), λ lt. inr (omega (arith, last, q)))
  ]
]

pub after_enlisted : (place units : ℕ) (plan : Plan) (s t : State) → place < length s.drives.items → OnlyMarksSince s t → OnlyMarksSince (enlisted place units plan s) (enlisted place units plan t)
after_enlisted place units plan s t low after = record {
  same = record {
    pool = after.same.pool;
    extent = after.same.extent;
    drives =
        map_set t.drives.items place (record { id = next_drive t; units = units; missing = false })
        ∙ ap₂ (λ ds e. slice_set ds place (drive_of (record { id = e; units = units; missing = false }))) after.same.drives (next_same s t after)
        ∙ sym (map_set s.drives.items place (record { id = next_drive s; units = units; missing = false }));
    plan = inl refl;
    made = after.same.made;
    joined = after.same.joined;
    serial = ap (λ n. n + 1) after.same.serial;
  };
  epoch = (raised_both s.epoch t.epoch).0 after.epoch;
  raised = elim after.raised [
    | inl same ↦ inl (ap (enlisted place units plan) same)
    | inr more ↦ inr (elim more [
      | inl less ↦ (raised_both s.epoch t.epoch).1 less
      | inr last ↦ inr (let least = (raised_range t.epoch).0 in omega (arith, least, last))
    ])
  ];
  current = λ p is.
      current_enlisted place units plan s p low
      ∙ both p (sym (current_enlisted place units plan t p (let same = many_same s t after in omega (arith, low, same))) ∙ is);
}
  where
    both : (p : ℕ) → ((p == place) || is_current t p) ≡ true → ((p == place) || is_current s p) ≡ true
    both p is = of (p == place) is
      where
        of : (b : Bool) → (b || is_current t p) ≡ true → (b || is_current s p) ≡ true
        of true was = refl
        of false was = after.current p was

-- ---- the arrays

-- members that are as they were are reached as they were
reached_same : (xs ys : List ArrayView) → AreSameMembers xs ys → (place sectors n : ℕ) → is_reached ys place sectors n ≡ is_reached xs place sectors n
reached_same xs ys are place sectors n =
    ap₂ (λ a b. a || b)
    (elim (cases_lt n (length xs)) [
      | inl low ↦
          ap (λ o. option_map_or (λ (u : ArrayView). not (is_some (seat_of u place))) o true) (slice_get-get_or ys n no_array (let count = are.count in omega (arith, low, count)))
          ∙ ap not (are.seat n place low)
          ∙ sym (ap (λ o. option_map_or (λ (u : ArrayView). not (is_some (seat_of u place))) o true) (slice_get-get_or xs n no_array low))
      | inr past ↦
          ap (λ o. option_map_or (λ (u : ArrayView). not (is_some (seat_of u place))) o true) (slice_get_past ys n (let count = are.count in omega (arith, past, count)))
          ∙ sym (ap (λ o. option_map_or (λ (u : ArrayView). not (is_some (seat_of u place))) o true) (slice_get_past xs n past))
    ])
    (joins_same xs ys are place sectors n)

-- the table of a drive, by where the slices of arrays begin, how long they are, and which it has
abbrev table_by : List ℕ → (sectors many : ℕ) → (ℕ → ℕ) → (ℕ → ℕ) → (ℕ → Bool) → Table
table_by drive sectors many f l j = record {
  disk_id = record { 0 = drive };
  sectors = sectors;
  entries = record {
    items = entry_of drive 0 log_kind state_sector log_sectors ∷ map (λ n. entry_of drive (n + 1) raid_kind (f n) (l n)) (filter j (range_with_len 0 many));
  };
}

module _ (r q : Arrays) (x y : RackView) (before : IsRunning r x) (after : IsRunning q y) (marks : OnlyMarksSince r.state q.state) (keeps : KeepsArrays (raid_by r) (raid_by q)) (place : ℕ) where
  are : AreSameMembers r.all.items q.all.items
  are = same_members r q x y before after marks.same.made keeps

  abbrev xs : List ArrayView
  xs = views_of (raid_by r)

  abbrev ys : List ArrayView
  ys = views_of (raid_by q)

  pub same_views : AreSameMembers xs ys
  same_views = subst (λ zs. AreSameMembers xs zs) (sym (views_are q after.count)) (subst (λ zs. AreSameMembers zs q.all.items) (sym (views_are r before.count)) are)

  -- the disk reaches the arrays of the place as it did
  pub reached_all : (sectors : ℕ) → reaches_all ys place sectors ≡ reaches_all xs place sectors
  reached_all sectors =
      ap₂ (λ (f : ℕ → Bool) n. nat_le 10273 sectors && list_all f (range_with_len 0 n)) (λ i n. reached_same xs ys same_views place sectors n i) same_views.count

  -- what a drive that is taken in relies on
  pub still_admitted : (sectors : ℕ) → has_other_missing q.state place ≡ false → IsAdmitted (raid_by r) place sectors → IsAdmitted (raid_by q) place sectors
  still_admitted sectors whole is = record {
    whole = whole;
    units = ap (λ n. has_units q.state place (units_of sectors n)) marks.same.extent ∙ has_units_same r.state q.state marks place (units_of sectors r.state.extent) ∙ is.units;
    reaches = reached_all sectors ∙ is.reaches;
    serial = ap (λ n. n == 4294967295) marks.same.serial ∙ is.serial;
  }

  -- its table
  pub table_same : (drive : List ℕ) (sectors many : ℕ) → drive_table drive ys place sectors many ≡ drive_table drive xs place sectors many
  table_same drive sectors many =
      ap (λ (f : ℕ → ℕ). table_by drive sectors many f (length_in ys) (joins ys place sectors)) (λ i n. first_same xs ys same_views n i)
      ∙ ap (λ (l : ℕ → ℕ). table_by drive sectors many (first_in xs) l (joins ys place sectors)) (λ i n. length_same xs ys same_views n i)
      ∙ ap (λ (j : ℕ → Bool). table_by drive sectors many (first_in xs) (length_in xs) j) (λ i n. joins_same xs ys same_views place sectors n i)

  -- the arrays with it
  pub with_same : (units sectors : ℕ) (plan : Plan)
      → KeepsArrays (with_drive place units plan (joins xs place sectors) (raid_by r)) (with_drive place units plan (joins ys place sectors) (raid_by q))
  with_same units sectors plan n low =
      subst (λ (b : Bool). OnlyFailures (if joins xs place sectors n then renewed place (next_drive r.state) ((raid_by r).arrays n) else (raid_by r).arrays n)
      (if b then renewed place (next_drive q.state) ((raid_by q).arrays n) else (raid_by q).arrays n)) (sym (joins_same xs ys same_views place sectors n))
      (subst (λ e. OnlyFailures (if joins xs place sectors n then renewed place (next_drive r.state) ((raid_by r).arrays n) else (raid_by r).arrays n)
      (if joins xs place sectors n then renewed place e ((raid_by q).arrays n) else (raid_by q).arrays n)) (sym (next_same r.state q.state marks))
      (renewed_if ((raid_by r).arrays n) ((raid_by q).arrays n) place (next_drive r.state) (joins xs place sectors n) (before.set.arrays n low).is_array
      (after.set.arrays n (let made = marks.same.made in omega (arith, low, made))).is_array (keeps n low)))

-- the disk reaches each array that the place is a member of
pub member_joins : (v : Raid) (place sectors : ℕ) → IsAdmitted v place sectors → ((n : ℕ) → n < v.state.made → IsArray (v.arrays n)) → (n k : ℕ) → n < v.state.made
    → k < (v.arrays n).truth.raid_disks → place_at (v.arrays n) k ≡ place → joins (views_of v) place sectors n ≡ true
member_joins v place sectors admits each n k low inside is =
    let many = length-map-range_with_len v.arrays 0 v.state.made in
    let zero : 0 + n ≡ n = omega arith in
    let at : slice_get (views_of v) n ≡ Some (v.arrays n) =
    slice_get-get_or (views_of v) n no_array (omega (arith, low, many)) ∙ ap Some (get_or-map-range_with_len v.arrays 0 v.state.made n n no_array low zero) in
    (reaches_each (views_of v) place sectors admits.reaches).1 n (v.arrays n) at (member_found (v.arrays n) place k (each n low) inside is)

-- another place of the list is marked missing
pub other_missing : (s : State) (place : ℕ) → has_other_missing s place ≡ true → (k : ℕ) × (k ≢ place) × (k < length s.drives.items) × (is_current s k ≡ false)
other_missing s place is =
    elim (or_cases (list_any (λ (d : Drive). d.missing) (take place s.drives.items)) (list_any (λ (d : Drive). d.missing) (drop (place + 1) s.drives.items)) is) [
      | inl before ↦
          let at = some_at (take place s.drives.items) before in
          let low : at.0 < place = let few = length-take place s.drives.items in let inside = at.1 in omega (arith, few, inside) in
          let there = sym (ap (λ o. option_map_or (λ (d : Drive). d.missing) o false) (taken_at s.drives.items place at.0 low)) ∙ at.2 in
          (at.0, (λ same. omega (arith, low, same)), there_low at.0 there, not_current at.0 there)
      | inr after ↦
          let at = some_at (drop (place + 1) s.drives.items) after in
          let there = sym (ap (λ o. option_map_or (λ (d : Drive). d.missing) o false) (dropped_at s.drives.items (place + 1) at.0)) ∙ at.2 in
          (place + 1 + at.0, (λ same. omega (arith, same)), there_low (place + 1 + at.0) there, not_current (place + 1 + at.0) there)
    ]
  where
    marked : (o : Option Drive) → option_map_or (λ (d : Drive). d.missing) o false ≡ true → option_map_or (λ (d : Drive). not d.missing) o false ≡ false
    marked None is = refl
    marked (Some d) is = ap not is

    not_current : (k : ℕ) → option_map_or (λ (d : Drive). d.missing) (slice_get s.drives.items k) false ≡ true → is_current s k ≡ false
    not_current k is = marked (slice_get s.drives.items k) is

    there_low : (k : ℕ) → option_map_or (λ (d : Drive). d.missing) (slice_get s.drives.items k) false ≡ true → k < length s.drives.items
    there_low k is =
        elim (cases_lt k (length s.drives.items)) [
          | inl low ↦ low
          | inr past ↦
              absurd
              (both_ways (option_map_or (λ (d : Drive). d.missing) (slice_get s.drives.items k) false)
              (ap (λ o. option_map_or (λ (d : Drive). d.missing) o false) (slice_get_past s.drives.items k past)) is)
        ]
