-- The table that is laid on a new drive is the one that the pool with the drive wants of it.
use Rattle.std.proofs.Common.{◌≡◌, ℕ, zero, suc, ◌+◌, ◌-◌, ◌<◌, ◌≤◌, ◌==◌, ◌&&◌, ◌||◌, not, nat_le, nat_lt, if◌then◌else◌, Bool, true, false, bytes_eq, List, ◌∷◌, filter, is_some, map, Some, refl, sym, ap, ap₂, ◌∙◌, inl, inr, eq-eqb, leb-true, lt-ltb, arith}
use Rattle.std.specs.Option.{option_map_or}
use Rattle.std.specs.List.{list_all, list_any, range_with_len}
use Rattle.std.proofs.lemmas.Bool.{and_from, and_parts, cases_Bool, cases_eq, ne_eqb}
use Rattle.std.proofs.lemmas.Slice.Eq.{bytes_eq-Decides}
use Rattle.slice_rack.specs.Slices.{Slices}
use Rattle.gpt_table.specs.declared.Entry.{Entry}
use Rattle.gpt_table.specs.declared.Table.{Table}
use Rattle.pool_state.specs.declared.contents.Plan.{Plan}
use Rattle.array_image.specs.Places.{log_kind, log_sectors, raid_kind, state_sector}
use Rattle.array_core.specs.Seats.{seat_of as seat_in}
use Rattle.array_core.proofs.Stripped.{some_same}
use Rattle.array_model.specs.View.{View}
use Rattle.pool_image.specs.Disks.{Disks}
use Rattle.pool_image.specs.Drives.{Found, end_of, extent_of}
use Rattle.pool_image.specs.Meaning.{has_entry, has_slice, has_slice_of, is_member, is_table, kind_of}
use Rattle.pool_image.specs.Replay.{Extent}
use Rattle.raid_laws.specs.Enlisting.{next_drive}
use Rattle.raid_laws.specs.NewDrive.{drive_table, entry_of, first_in, joins, length_in, member_entry, slice_length}
use Rattle.raid_laws.specs.Raid.{Raid}
use Rattle.pool_model.specs.Taken.{SeatsNew, views_of}
use Rattle.pool_model.proofs.Alike.{extent_is, extent_same, lies, member_same}
use Rattle.pool_model.proofs.Beginnings.{first_is, size_is, view_at}
use Rattle.pool_model.proofs.Joined.{id_here}
use Rattle.pool_model.proofs.Taken.{IsKnownBefore, g, has_truths, made_same}

or_true : (b : Bool) → (b || true) ≡ true
or_true true = refl
or_true false = refl

bytes_same : (a : List ℕ) → bytes_eq a a ≡ true
bytes_same a = (bytes_eq-Decides a a).1 refl

each_holds : (test : ℕ → Bool) (a m : ℕ) → ((n : ℕ) → n < a + m → test n ≡ true) → list_all test (range_with_len a m) ≡ true
each_holds test a zero each = refl
each_holds test a (suc m) each = and_from (test a) (list_all test (range_with_len (a + 1) m)) (each a (omega arith)) (each_holds test (a + 1) m (λ n low. each n (omega (arith, low))))

-- an array that the disk reaches has its entry among those of the arrays
module _ (id : List ℕ) (arrays : List View) (place sectors : ℕ) (test : Entry → Bool) (n : ℕ) (passes : test (member_entry id arrays n) ≡ true)
    (joined : joins arrays place sectors n ≡ true) where
  abbrev among : List ℕ → Bool
  among ns = list_any test (map (member_entry id arrays) ns)

  abbrev reached : ℕ → ℕ → List ℕ
  reached a m = filter (joins arrays place sectors) (range_with_len a m)

  any_member : (a m : ℕ) → a ≤ n → n < a + m → among (reached a m) ≡ true
  any_member a zero low high = absurd (omega (arith, low, high))
  any_member a (suc m) low high = elim (cases_eq a n) [
    | inl same ↦
        ap (λ (b : Bool). among (if b then a ∷ reached (a + 1) m else reached (a + 1) m)) (ap (joins arrays place sectors) same ∙ joined)
        ∙ ap (λ (b : Bool). b || among (reached (a + 1) m)) (ap (λ k. test (member_entry id arrays k)) same ∙ passes)
    | inr other ↦ by (joins arrays place sectors a) (any_member (a + 1) m (omega (arith, low, other)) (omega (arith, high)))
  ]
    where
      by : (b : Bool) → among (reached (a + 1) m) ≡ true → among (if b then a ∷ reached (a + 1) m else reached (a + 1) m) ≡ true
      by false later = later
      by true later = ap (λ c. test (member_entry id arrays a) || c) later ∙ or_true (test (member_entry id arrays a))

module _ (f : Found) (t u : Slices) (v : Raid) (disks : Disks) (place disk units : ℕ) (plan : Plan) (new : SeatsNew f t u v place disk (disks.sectors disk))
    (known : IsKnownBefore f v) (sectors : (d : ℕ) → d < f.disks.count → disks.sectors d ≡ f.disks.sectors d) where
  abbrev h : Found
  h = g f t u v disks place disk units plan new known sectors

  abbrev arrays : List View
  arrays = views_of v

  abbrev many : ℕ
  many = disks.sectors disk

  abbrev id : List ℕ
  id = (next_drive v.state).0

  -- the table of the new drive
  abbrev pub new_table : Table
  new_table = drive_table id arrays place many v.state.made

  module _ (n : ℕ) (low : n < f.state.made) (member : is_member f n place ≡ true) where
    abbrev laid : Extent
    laid = record { first = first_in arrays n; sectors = length_in arrays n }

    joined : joins arrays place many n ≡ true
    joined = new.members n low ∙ member

    length_is : length_in arrays n ≡ slice_length (v.arrays n)
    length_is = ap (λ o. option_map_or slice_length o 0) (view_at v n (omega (arith, low, made_same f t u v disks place disk units plan new known sectors)))

    room : first_in arrays n + slice_length (v.arrays n) + 33 ≤ many
    room =
        leb-true (first_in arrays n + slice_length (v.arrays n) + 33) many
        (and_parts (is_some (seat_in (v.arrays n) place)) _
        (sym (ap (λ o. option_map_or (λ (z : View). is_some (seat_in z place) && nat_le (first_in arrays n + slice_length z + 33) many) o false)
        (view_at v n (omega (arith, low, made_same f t u v disks place disk units plan new known sectors)))) ∙ joined)).1

    extent_now : extent_of h (suc n) ≡ Some laid
    extent_now =
        let few = known.outset.made.1 in
        let has = known.outset.truths in
        let made = made_same f t u v disks place disk units plan new known sectors in
        let begins : (lies f h few has (has_truths f t u v disks place disk units plan new known sectors) n low).first ≡ first_in arrays n =
        some_same _ (first_in arrays n)
        (sym (lies f h few has (has_truths f t u v disks place disk units plan new known sectors) n low).begins ∙ first_is f v few made has known.geometry n (omega (arith, low))) in
        let size = size_is f v few made has known.geometry n low in
        let length = length_is in
        extent_same f h few has (has_truths f t u v disks place disk units plan new known sectors) n low
        ∙ extent_is f h few has (has_truths f t u v disks place disk units plan new known sectors) n low
        ∙ ap₂ (λ (a b : ℕ). Some (record { first = a; sectors = b })) begins (omega (arith, size, length))

    entry_there : has_entry new_table (n + 1 + 1) raid_kind laid ≡ true
    entry_there =
        let length = length_is in
        ap (λ b. test (entry_of id 0 log_kind state_sector log_sectors) || b)
        (any_member id arrays place many test n
        (and_from ((n + 1 + 1) == (n + 1 + 1)) _ (eq-eqb (n + 1 + 1) (n + 1 + 1) refl)
        (and_from (bytes_eq raid_kind raid_kind) _ (bytes_same raid_kind)
        (and_from (first_in arrays n == first_in arrays n) _ (eq-eqb (first_in arrays n) (first_in arrays n) refl)
        (eq-eqb (first_in arrays n + length_in arrays n - 1 + 1) (end_of laid) (omega (arith, length))))))
        joined 0 v.state.made (omega arith) (let made = made_same f t u v disks place disk units plan new known sectors in omega (arith, low, made)))
        ∙ or_true (test (entry_of id 0 log_kind state_sector log_sectors))
      where
        test : Entry → Bool
        test entry =
            (entry.number == (n + 1 + 1)) && (bytes_eq entry.slice.kind.0 raid_kind && ((entry.slice.first == laid.first) && (entry.slice.last + 1 == end_of laid)))

    slice_there : has_slice_of h many new_table (n + 1) ≡ true
    slice_there =
        let next : n + 1 ≡ suc n = omega arith in
        let length = length_is in
        let within = room in
        ap (λ o. option_map_or (has_slice many new_table (n + 1 + 1) (kind_of (n + 1))) o false) (ap (extent_of h) next ∙ extent_now)
        ∙ ap (λ (b : Bool). has_slice many new_table (n + 1 + 1) (if b then log_kind else raid_kind) laid) (ne_eqb (n + 1) 0 (λ same. omega (arith, same)))
        ∙ and_from (has_entry new_table (n + 1 + 1) raid_kind laid) (nat_lt (end_of laid + 32) many) entry_there
        (lt-ltb (end_of laid + 32) many (omega (arith, within, length)))

  log_there : 10273 ≤ many → has_slice_of h many new_table 0 ≡ true
  unfolding extent_of
  log_there enough =
      and_from (has_entry new_table 1 log_kind (record { first = state_sector; sectors = log_sectors })) (nat_lt (state_sector + log_sectors + 32) many) refl
      (lt-ltb (state_sector + log_sectors + 32) many (omega (arith, enough)))

  pub tabled_new : 10273 ≤ many → is_table h place many new_table ≡ true
  tabled_new enough =
      and_from _ _ (ap (λ o. option_map_or (bytes_eq id) o false) (id_here place units plan v.state new.listed) ∙ bytes_same id)
      (and_from _ _ (log_there enough)
      (each_holds (λ n. not (is_member h n place) || has_slice_of h many new_table (n + 1)) 0 v.state.made (λ n low.
      let less : n < f.state.made = (let made = made_same f t u v disks place disk units plan new known sectors in omega (arith, low, made)) in
      elim (cases_Bool (is_member h n place)) [
        | inr none ↦ ap (λ b. not b || has_slice_of h many new_table (n + 1)) none
        | inl member ↦
            (let was : is_member f n place ≡ true =
            sym (member_same f h known.outset.made.1 known.outset.truths (has_truths f t u v disks place disk units plan new known sectors) n less place) ∙ member in
            ap (λ b. not (is_member h n place) || b) (slice_there n less was) ∙ or_true (not (is_member h n place)))
      ])))
