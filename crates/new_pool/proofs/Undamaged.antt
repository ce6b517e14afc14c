-- Each drive of a new pool is there, and no part of it is damaged.
use Rattle.std.proofs.Common.{◌≡◌, ℕ, zero, suc, ◌+◌, ◌-◌, ◌<◌, ◌≤◌, ◌==◌, ◌&&◌, ◌||◌, not, nat_lt, bytes_eq, Bool, true, false, is_none, is_some, List, [], ◌∷◌, count_by, filter, find, length, slice_get, if◌then◌else◌, Option, Some, None, option_map, unwrap_or, refl, sym, ap, subst, ◌∙◌, inl, inr, lt-ltb, eq-eqb, arith}
use Rattle.std.specs.Option.{option_and_then, option_map_or}
use Rattle.std.specs.List.{list_all, list_any, range_with_len}
use Rattle.std.proofs.lemmas.Bool.{and_from, cases_Bool, cases_lt, eqb-true, or_right}
use Rattle.std.proofs.lemmas.List.Sums.{sum_by-cons}
use Rattle.std.proofs.lemmas.Slice.Eq.{bytes_eq-Decides}
use Rattle.rack.specs.Seen.{Image}
use Rattle.gpt_table.specs.declared.Entry.{Entry}
use Rattle.gpt_table.specs.declared.Table.{Table}
use Rattle.md_super.specs.declared.superblock.Super.{Super}
use Rattle.pool_state.specs.declared.contents.Copied.{Copied}
use Rattle.pool_state.specs.declared.contents.Drive.{Drive}
use Rattle.pool_state.specs.declared.contents.State.{State}
use Rattle.array_image.specs.Places.{data_sector, drive_id, log_kind, log_sectors, log_slice, raid_kind, state_sector}
use Rattle.array_image.specs.Record.{gate_of, gate_sector, is_bad_gate, is_bad_log, is_there}
use Rattle.array_image.specs.States.{current_places, is_current}
use Rattle.array_image.specs.Supers.{is_named}
use Rattle.log_laws.specs.View.{names}
use Rattle.commit_log.proofs.Amid.{place_of_log, slice_of_log}
use Rattle.commit_log.proofs.Deciding.{names_first, names_later}
use Rattle.raid_laws.proofs.Added.{names_current}
use Rattle.pool_image.specs.Disks.{Disks, identities_of}
use Rattle.pool_image.specs.Replay.{Extent}
use Rattle.pool_image.specs.Drives.{Found, drive_sector, end_of, extent_of, slices_of}
use Rattle.pool_image.specs.Meaning.{absent_count, damage_of, damage_on, damaged, first_damaged, has_entry, has_log, has_other_pool, has_slice, has_slice_of, has_supers, has_table, in_log, in_state, in_superblock, in_table, is_member, is_table, super_at}
use Rattle.pool_image.proofs.Truths.{slice_sector}
use Rattle.pool_format.specs.declared.Birth.{Birth}
use Rattle.pool_format.specs.declared.planning.NewArray.{NewArray}
use Rattle.pool_format.specs.declared.planning.NewPool.{NewPool}
use Rattle.log_laws.specs.Bytes.{first_gate}
use Rattle.pool_format.specs.Parts.{entries_from, entry_of, new_state, new_super, new_table}
use Rattle.pool_format.specs.Plan.{has}
use Rattle.pool_format.proofs.Founded.{drive_at, drive_current, state_drives}
use Rattle.pool_format.proofs.Lists.{got, no_element}
use Rattle.pool_format.proofs.Opening.{members_few}
use Rattle.new_array.proofs.Roles.{named_at}
use Rattle.new_pool.specs.Contents.{IsNewPool}
use Rattle.new_pool.proofs.Identities.{copied_at, seat_at, silent_at, table_said}
use Rattle.log_laws.proofs.FirstGate.{closed_gate}
use Rattle.new_pool.proofs.Founds.{current_low, good_log, logs, none_found, shown}
use Rattle.new_pool.proofs.Sound.{super_at as super_there}
use Rattle.new_pool.proofs.Truths.{array_is, extent_at}
use Rattle.new_pool.proofs.Values.{first, truth_now}

-- ---- places and numbers of which none passes, or all

none_counted : (test : ℕ → Bool) (ps : List ℕ) → ((p : ℕ) → names ps p ≡ true → test p ≡ false) → count_by test ps ≡ 0
none_counted test [] none = refl
none_counted test (p ∷ ps) none =
    sum_by-cons (λ (q : ℕ). if test q then 1 else 0) p ps
    ∙ ap (λ b. (if b then 1 else 0) + count_by test ps) (none p (names_first p ps))
    ∙ ap (λ m. 0 + m) (none_counted test ps (λ q among. none q (names_later p ps q among)))

none_any : (test : ℕ → Bool) (a k : ℕ) → ((d : ℕ) → d < a + k → test d ≡ false) → list_any test (range_with_len a k) ≡ false
none_any test a zero none = refl
none_any test a (suc k) none =
    ap (λ b. b || list_any test (range_with_len (a + 1) k)) (none a (omega arith)) ∙ none_any test (a + 1) k (λ d low. none d (omega (arith, low)))

all_pass : (test : ℕ → Bool) (a k : ℕ) → ((n : ℕ) → n < a + k → test n ≡ true) → list_all test (range_with_len a k) ≡ true
all_pass test a zero each = refl
all_pass test a (suc k) each =
    ap (λ b. b && list_all test (range_with_len (a + 1) k)) (each a (omega arith)) ∙ all_pass test (a + 1) k (λ n low. each n (omega (arith, low)))

-- the first one that passes, of those of a row that are kept
first_found : (keep test : ℕ → Bool) (a n k : ℕ) → a ≤ k → k < a + n → keep k ≡ true → test k ≡ true → ((j : ℕ) → a ≤ j → j < k → keep j ≡ true → test j ≡ false)
    → find test (filter keep (range_with_len a n)) ≡ Some k
first_found keep test a zero k least low kept here none = absurd (omega (arith, least, low))
first_found keep test a (suc n) k least low kept here none = elim (cases_lt a k) [
  | inl more ↦
      let rest = first_found keep test (a + 1) n k (omega (arith, more)) (omega (arith, low)) kept here (λ j above below. none j (omega (arith, above)) below) in
      elim (cases_Bool (keep a)) [
        | inl also ↦
            ap (λ b. find test (if b then a ∷ filter keep (range_with_len (a + 1) n) else filter keep (range_with_len (a + 1) n))) also
            ∙ ap (λ b. if b then Some a else find test (filter keep (range_with_len (a + 1) n))) (none a (omega arith) more also)
            ∙ rest
        | inr apart ↦ ap (λ b. find test (if b then a ∷ filter keep (range_with_len (a + 1) n) else filter keep (range_with_len (a + 1) n))) apart ∙ rest
      ]
  | inr less ↦
      let same : k ≡ a = omega (arith, least, less) in
      ap (λ b. find test (if b then a ∷ filter keep (range_with_len (a + 1) n) else filter keep (range_with_len (a + 1) n))) (ap keep (sym same) ∙ kept)
      ∙ ap (λ b. if b then Some a else find test (filter keep (range_with_len (a + 1) n))) (ap test (sym same) ∙ here)
      ∙ ap Some (sym same)
]

same_bytes : (xs : List ℕ) → bytes_eq xs xs ≡ true
same_bytes xs = (bytes_eq-Decides xs xs).1 refl

not_zero : (n : ℕ) → (n + 1 == 0) ≡ false
not_zero n = of (n + 1 == 0) refl
  where
    of : (b : Bool) → (n + 1 == 0) ≡ b → b ≡ false
    of false other = refl
    of true same = let none = eqb-true (n + 1) 0 same in absurd (omega (arith, none))

no_and : (b : Bool) → (b && false) ≡ false
no_and true = refl
no_and false = refl

-- ---- entries of a table

-- an entry of a member's slice is listed
entry_listed : (test : Entry → Bool) (drive : List ℕ) (place number n : ℕ) (arrays : List NewArray) (a : NewArray) → slice_get arrays n ≡ Some a → has a.members.items place ≡ true
    → test (entry_of drive (number + n + 1) raid_kind a.first (a.size + data_sector)) ≡ true → list_any test (entries_from drive place number arrays) ≡ true
entry_listed test drive place number n [] a at among passes = absurd (no_element at)
entry_listed test drive place number zero (b ∷ others) a at among passes =
    let same : b ≡ a = ap (λ (o : Option NewArray). unwrap_or o b) at in
    let next : number + 1 ≡ number + zero + 1 = omega arith in
    let entry : entry_of drive (number + 1) raid_kind b.first (b.size + data_sector) ≡ entry_of drive (number + zero + 1) raid_kind a.first (a.size + data_sector) =
    ap (λ (e : NewArray). entry_of drive (number + 1) raid_kind e.first (e.size + data_sector)) same ∙ ap (λ k. entry_of drive k raid_kind a.first (a.size + data_sector)) next in
    ap (λ t. list_any test (if t then entry_of drive (number + 1) raid_kind b.first (b.size + data_sector) ∷ entries_from drive place (number + 1) others else entries_from drive place (number + 1) others))
    (ap (λ (e : NewArray). has e.members.items place) same ∙ among)
    ∙ ap (λ t. t || list_any test (entries_from drive place (number + 1) others)) (ap test entry ∙ passes)
entry_listed test drive place number (suc n) (b ∷ others) a at among passes =
    let next : number + suc n + 1 ≡ number + 1 + n + 1 = omega arith in
    of (has b.members.items place)
    (entry_listed test drive place (number + 1) n others a at among
    (subst (λ k. test (entry_of drive k raid_kind a.first (a.size + data_sector)) ≡ true) next passes))
  where
    of : (t : Bool) → list_any test (entries_from drive place (number + 1) others) ≡ true
        → list_any test (if t then entry_of drive (number + 1) raid_kind b.first (b.size + data_sector) ∷ entries_from drive place (number + 1) others else entries_from drive place (number + 1) others) ≡ true
    of true rest = or_right (test (entry_of drive (number + 1) raid_kind b.first (b.size + data_sector))) (list_any test (entries_from drive place (number + 1) others)) rest
    of false rest = rest

module _ (plan : NewPool) (birth : Birth) (disks : Disks) (c : Image) (is : IsNewPool plan birth disks c) where
  abbrev f : Found
  f = shown plan birth disks c is

  abbrev s : State
  s = new_state plan birth

  abbrev table_of : ℕ → Table
  table_of p = new_table plan birth p (disks.sectors p)

  low_drive : (p : ℕ) → p < disks.count → p < length plan.units.items
  low_drive p low = subst (λ n. p < n) is.count low

  -- ---- every drive is there, and no other pool

  pub seated : (p : ℕ) → names (current_places s) p ≡ true → f.seats p ≡ Some p
  seated p among = seat_at plan birth disks c is p (current_low plan birth disks c is p among)

  pub none_absent : absent_count f ≡ 0
  none_absent = none_counted (λ p. is_none (f.seats p)) (current_places s) (λ p among. ap is_none (seated p among))

  pub no_other_pool : has_other_pool disks f.before ≡ false
  no_other_pool =
      none_any (λ d. option_map_or (λ (copy : Copied). not (bytes_eq copy.state.pool.0 birth.pool)) (identities_of disks c d).copied false) 0 disks.count
      (λ d low. of d (omega (arith, low)))
    where
      of : (d : ℕ) → d < disks.count → option_map_or (λ (copy : Copied). not (bytes_eq copy.state.pool.0 birth.pool)) (identities_of disks c d).copied false ≡ false
      of d low = elim (cases_lt d is.said) [
        | inl early ↦
            ap (λ o. option_map_or (λ (copy : Copied). not (bytes_eq copy.state.pool.0 birth.pool)) o false) (copied_at plan birth disks c is d early low)
            ∙ ap not (same_bytes birth.pool)
        | inr late ↦ ap (λ o. option_map_or (λ (copy : Copied). not (bytes_eq copy.state.pool.0 birth.pool)) o false) (silent_at plan birth disks c is d late low)
      ]

  -- ---- its table

  log_there : (p : ℕ) → p < disks.count → has_slice_of f (disks.sectors p) (table_of p) 0 ≡ true
  unfolding extent_of
  log_there p low = let wide = is.logs p low in lt-ltb 10272 (disks.sectors p) (omega (arith, wide))

  module _ (n : ℕ) (a : NewArray) (at : slice_get plan.arrays.items n ≡ Some a) (p : ℕ) (low : p < disks.count) where
    -- the truth names the array's members
    pub member_is : is_member f n p ≡ has a.members.items p
    member_is =
        let most = is.is_plan.most in
        let many = is.count in
        let few = members_few a plan.extent (length plan.units.items) (array_is plan birth disks c is n a at) most in
        let u : Super = new_super birth a n (first plan birth disks c is n a at) in
        ap (λ o. option_map_or (λ (t : Super). is_named t p) o false) (truth_now plan birth disks c is n a at)
        ∙ named_at u a.members.items refl few p (omega (arith, low, many, most))

    slice_there : has a.members.items p ≡ true → has_slice_of f (disks.sectors p) (table_of p) (n + 1) ≡ true
    slice_there among =
        let next : n + 1 ≡ suc n = omega arith in
        let e : Extent = record { first = a.first; sectors = data_sector + a.size } in
        let room = is.members n p a at among low in
        let test : Entry → Bool =
        λ entry. (entry.number == n + 1 + 1) && (bytes_eq entry.slice.kind.0 raid_kind && ((entry.slice.first == a.first) && (entry.slice.last + 1 == a.first + (data_sector + a.size)))) in
        let passes : test (entry_of (drive_id birth.pool p) (0 + n + 1) raid_kind a.first (a.size + data_sector)) ≡ true =
        and_from (0 + n + 1 + 1 == n + 1 + 1) _ (eq-eqb (0 + n + 1 + 1) (n + 1 + 1) (omega arith))
        (and_from (bytes_eq raid_kind raid_kind) _ (same_bytes raid_kind)
        (and_from (a.first == a.first) _ (eq-eqb a.first a.first refl)
        (eq-eqb (a.first + (a.size + data_sector) - 1 + 1) (a.first + (data_sector + a.size)) (omega arith)))) in
        ap (λ k. option_map_or (has_slice (disks.sectors p) (table_of p) (n + 1 + 1) (if n + 1 == 0 then log_kind else raid_kind)) (extent_of f k) false) next
        ∙ ap (λ o. option_map_or (has_slice (disks.sectors p) (table_of p) (n + 1 + 1) (if n + 1 == 0 then log_kind else raid_kind)) o false) (extent_at plan birth disks c is n a at)
        ∙ ap (λ b. has_slice (disks.sectors p) (table_of p) (n + 1 + 1) (if b then log_kind else raid_kind) e) (not_zero n)
        ∙ and_from (has_entry (table_of p) (n + 1 + 1) raid_kind e) (nat_lt (end_of e + 32) (disks.sectors p))
        (or_right (test (entry_of (drive_id birth.pool p) 0 log_kind state_sector log_sectors)) _ (entry_listed test (drive_id birth.pool p) p 0 n plan.arrays.items a at among passes))
        (lt-ltb (end_of e + 32) (disks.sectors p) (omega (arith, room)))

    -- of a drive that is no member nothing is asked
    slice_or : (not (is_member f n p) || has_slice_of f (disks.sectors p) (table_of p) (n + 1)) ≡ true
    slice_or =
        ap (λ b. not b || has_slice_of f (disks.sectors p) (table_of p) (n + 1)) member_is
        ∙ of (has a.members.items p) refl
      where
        of : (b : Bool) → has a.members.items p ≡ b → (not b || has_slice_of f (disks.sectors p) (table_of p) (n + 1)) ≡ true
        of true among = slice_there among
        of false apart = refl

    super_or : (not (is_member f n p) || is_some (super_at f n p)) ≡ true
    super_or = ap (λ b. not b || is_some (super_at f n p)) member_is ∙ of (has a.members.items p) refl
      where
        of : (b : Bool) → has a.members.items p ≡ b → (not b || is_some (super_at f n p)) ≡ true
        of true among = ap is_some (super_there plan birth disks c is n a at p among)
        of false apart = refl

  table_good : (p : ℕ) → p < disks.count → has_table f p p ≡ true
  table_good p low =
      ap (λ o. option_map_or (is_table f p (disks.sectors p)) o false) (table_said plan birth disks c is p low)
      ∙ and_from (option_map_or (bytes_eq (drive_id birth.pool p)) (option_map (λ (d : Drive). d.id.0) (slice_get s.drives.items p)) false) _
      (ap (λ o. option_map_or (bytes_eq (drive_id birth.pool p)) (option_map (λ (d : Drive). d.id.0) o) false) (drive_at plan birth is.is_plan p (low_drive p low))
      ∙ same_bytes (drive_id birth.pool p))
      (and_from (has_slice_of f (disks.sectors p) (table_of p) 0) _ (log_there p low)
      (all_pass (λ n. not (is_member f n p) || has_slice_of f (disks.sectors p) (table_of p) (n + 1)) 0 s.made
      (λ n less. let a = got plan.arrays.items n (omega (arith, less)) in slice_or n a.0 a.1 p low)))

  -- ---- its log

  log_extent : extent_of f 0 ≡ Some (record { first = state_sector; sectors = log_sectors })
  unfolding extent_of
  log_extent = refl

  gate_there : (p : ℕ) → p < disks.count → slices_of f (log_slice p) gate_sector ≡ first_gate
  gate_there p low =
      let wide = is.logs p low in
      slice_sector f (log_slice p) gate_sector state_sector log_sectors (ap (extent_of f) (slice_of_log p) ∙ log_extent) (omega arith)
      ∙ ap (λ q. drive_sector f q (state_sector + gate_sector)) (place_of_log p)
      ∙ ap (λ o. option_map_or (λ d. if nat_lt (state_sector + gate_sector) (disks.sectors d) then c d (state_sector + gate_sector) else []) o []) (seat_at plan birth disks c is p low)
      ∙ ap (λ b. if b then c p (state_sector + gate_sector) else []) (lt-ltb (state_sector + gate_sector) (disks.sectors p) (omega (arith, wide)))
      ∙ (is.drives p low).gate

  gate_good : (p : ℕ) → p < disks.count → is_bad_gate (slices_of f) p ≡ false
  gate_good p low =
      ap (λ v. is_there v && is_none (gate_of v)) (gate_there p low) ∙ ap (λ o. is_there first_gate && is_none o) closed_gate ∙ no_and (is_there first_gate)

  log_good : (p : ℕ) → names (current_places s) p ≡ true → has_log f p ≡ true
  log_good p among =
      ap (λ b. not b && not (is_bad_log (current_places s) (logs plan birth disks c is) p)) (gate_good p (current_low plan birth disks c is p among))
      ∙ ap not (good_log plan birth disks c is p among)

  -- ---- its superblocks

  supers_good : (p : ℕ) → p < disks.count → has_supers f p ≡ true
  supers_good p low =
      all_pass (λ n. not (is_member f n p) || is_some (super_at f n p)) 0 s.made
      (λ n less. let a = got plan.arrays.items n (omega (arith, less)) in super_or n a.0 a.1 p low)

  -- a drive that has its copy is whole
  undamaged : (p : ℕ) → p < is.said → names (current_places s) p ≡ true → damage_of f p ≡ None
  unfolding damage_of
  undamaged p early among =
      let low = current_low plan birth disks c is p among in
      ap (option_and_then (damage_on f p)) (seated p among)
      ∙ ap (λ b. if not b then Some in_table else if is_none (identities_of disks c p).copied then Some in_state else if not (has_log f p) then Some in_log else if not (has_supers f p) then Some in_superblock else None)
      (table_good p low)
      ∙ ap (λ o. if is_none o then Some in_state else if not (has_log f p) then Some in_log else if not (has_supers f p) then Some in_superblock else None) (copied_at plan birth disks c is p early low)
      ∙ ap (λ b. if not b then Some in_log else if not (has_supers f p) then Some in_superblock else None) (log_good p among)
      ∙ ap (λ b. if not b then Some in_superblock else None) (supers_good p low)

  -- one that has none yet lacks that part alone
  stateless : (p : ℕ) → is.said ≤ p → names (current_places s) p ≡ true → damage_of f p ≡ Some in_state
  unfolding damage_of
  stateless p late among =
      let low = current_low plan birth disks c is p among in
      ap (option_and_then (damage_on f p)) (seated p among)
      ∙ ap (λ b. if not b then Some in_table else if is_none (identities_of disks c p).copied then Some in_state else if not (has_log f p) then Some in_log else if not (has_supers f p) then Some in_superblock else None)
      (table_good p low)
      ∙ ap (λ o. if is_none o then Some in_state else if not (has_log f p) then Some in_log else if not (has_supers f p) then Some in_superblock else None) (silent_at plan birth disks c is p late low)

  pub none_damaged : disks.count ≤ is.said → first_damaged f ≡ None
  none_damaged all =
      ap (option_and_then (λ place. option_map (damaged place) (damage_of f place)))
      (none_found (λ place. is_some (damage_of f place)) (current_places s)
      (λ p among. let low = current_low plan birth disks c is p among in ap is_some (undamaged p (omega (arith, all, low)) among)))

  pub one_damaged : is.said < disks.count → first_damaged f ≡ Some (damaged is.said in_state)
  unfolding current_places
  one_damaged some =
      let first : find (λ place. is_some (damage_of f place)) (current_places s) ≡ Some is.said =
      first_found (is_current s) (λ place. is_some (damage_of f place)) 0 (length s.drives.items) is.said (omega arith)
      (let drives = state_drives plan birth in let low = low_drive is.said some in omega (arith, drives, low)) now (ap is_some here)
      (λ j least below current. ap is_some (undamaged j below (names_current s j ∙ current))) in
      ap (option_and_then (λ place. option_map (damaged place) (damage_of f place))) first
      ∙ ap (option_map (damaged is.said)) here
    where
      now : is_current s is.said ≡ true
      now = drive_current plan birth is.is_plan is.said (low_drive is.said some)

      here : damage_of f is.said ≡ Some in_state
      here = stateless is.said (omega arith) (names_current s is.said ∙ now)
