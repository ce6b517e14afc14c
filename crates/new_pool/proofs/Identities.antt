-- What the disks of a new pool say of it, and which place each one has.
use Rattle.std.proofs.Common.{◌≡◌, ◌⊎◌, ℕ, zero, suc, ◌+◌, ◌-◌, ◌<◌, ◌≤◌, ◌==◌, not, nat_lt, bytes_eq, Bool, true, false, List, ◌∷◌, map, position, length, slice_index, if◌then◌else◌, Option, Some, None, option_map, refl, sym, ap, subst, ◌∙◌, inl, inr, lt-ltb, le-ltb, eq-eqb, eqb-true, arith}
use Rattle.std.specs.Option.{option_map_or, option_and_then}
use Rattle.std.specs.Result.{result_ok}
use Rattle.std.specs.List.{range_with_len, position_or_len}
use Rattle.std.proofs.lemmas.Bool.{cases_Bool, cases_lt}
use Rattle.std.proofs.lemmas.Slice.Eq.{bytes_eq-Decides}
use Rattle.rack.specs.Seen.{Image}
use Rattle.shr_base.specs.Blocks.{bytes_at, number_at}
use Rattle.gpt_table.specs.declared.Table.{Table}
use Rattle.gpt_table.specs.declared.TableCopy.TheVariants.{Primary}
use Rattle.gpt_table.proofs.Tables.{first_says}
use Rattle.pool_state.specs.declared.contents.Copied.{Copied}
use Rattle.pool_state.specs.declared.contents.Drive.{Drive}
use Rattle.pool_state.specs.declared.contents.State.{State}
use Rattle.pool_state.specs.Sector.{decoded}
use Rattle.array_image.specs.Foremost.{foremost}
use Rattle.array_image.specs.Places.{drive_id, state_sector}
use Rattle.array_image.specs.States.{epoch_of, is_current}
use Rattle.pool_image.specs.Disks.{Candidate, Disks, Identities, candidate, id_by, identities_of, newest, seat_of, stands_for}
use Rattle.pool_format.specs.declared.Birth.{Birth}
use Rattle.pool_format.specs.declared.planning.NewPool.{NewPool}
use Rattle.pool_format.specs.Drives.{no_state}
use Rattle.pool_format.specs.Parts.{new_drive, new_state, new_table}
use Rattle.array_core.proofs.Opened.{current_below}
use Rattle.pool_format.proofs.Founded.{drive_at, drive_current, state_drives}
use Rattle.pool_format.proofs.Lists.{no_element}
use Rattle.new_array.proofs.Foremost.{foremost_is, foremost_there}
use Rattle.new_pool.specs.Contents.{IsNewPool, SaysNone}

-- ---- the first of a range that passes

-- where it is the head, and where it isn't
position_head : (q : Drive → Bool) (x : Drive) (xs : List Drive) → q x ≡ true → position q (x ∷ xs) ≡ Some 0
position_head q x xs passes =
    ap (λ b. if nat_lt (if not b then 1 + position_or_len q xs else 0) (suc (length xs)) then Some (if not b then 1 + position_or_len q xs else 0) else None) passes
    ∙ ap (λ b. if b then Some 0 else None) (lt-ltb 0 (suc (length xs)) (omega arith))

position_later : (q : Drive → Bool) (x : Drive) (xs : List Drive) (k : ℕ) → q x ≡ false → position q xs ≡ Some k → position q (x ∷ xs) ≡ Some (suc k)
position_later q x xs k fails later =
    ap (λ b. if nat_lt (if not b then 1 + position_or_len q xs else 0) (suc (length xs)) then Some (if not b then 1 + position_or_len q xs else 0) else None) fails
    ∙ of (position_or_len q xs) (length xs) (cases_lt (position_or_len q xs) (length xs)) later
  where
    of : (L n : ℕ) → (L < n) ⊎ (n ≤ L) → (if nat_lt L n then Some L else None) ≡ Some k → (if nat_lt (1 + L) (suc n) then Some (1 + L) else None) ≡ Some (suc k)
    of L n (inl low) is =
        let same : L ≡ k = ap (λ o. option_map_or (λ j. j) o 0) (sym (ap (λ b. if b then Some L else None) (lt-ltb L n low)) ∙ is) in
        ap (λ b. if b then Some (1 + L) else None) (lt-ltb (1 + L) (suc n) (omega (arith, low)))
        ∙ ap Some (omega (arith, same))
    of L n (inr high) is = absurd (no_element (sym (ap (λ b. if b then Some L else None) (le-ltb L n high)) ∙ is))

position_ranged : (q : Drive → Bool) (f : ℕ → Drive) (a n d : ℕ) → a ≤ d → d < a + n → q (f d) ≡ true → ((j : ℕ) → a ≤ j → j < d → q (f j) ≡ false)
    → position q (map f (range_with_len a n)) ≡ Some (d - a)
position_ranged q f a zero d least low here none = absurd (omega (arith, least, low))
position_ranged q f a (suc n) d least low here none = elim (cases_lt a d) [
  | inl more ↦
      position_later q (f a) (map f (range_with_len (a + 1) n)) (d - (a + 1)) (none a (omega arith) more)
      (position_ranged q f (a + 1) n d (omega (arith, more)) (omega (arith, low)) here (λ j above below. none j (omega (arith, above)) below))
      ∙ ap Some (omega (arith, more))
  | inr less ↦
      let same : a ≡ d = omega (arith, least, less) in
      position_head q (f a) (map f (range_with_len (a + 1) n)) (ap (λ j. q (f j)) same ∙ here) ∙ ap Some (omega (arith, same))
]

-- ---- a new pool

-- zeros say no copy
pub zeros_say_none : SaysNone no_state
unfolding number_at bytes_at
zeros_say_none = refl

module _ (plan : NewPool) (birth : Birth) (disks : Disks) (c : Image) (is : IsNewPool plan birth disks c) where
  abbrev s : State
  s = new_state plan birth

  abbrev ids : Identities
  ids = identities_of disks c

  -- the first disks have the state
  wide : (d : ℕ) → d < disks.count → nat_lt state_sector (disks.sectors d) ≡ true
  wide d low = let room = is.logs d low in lt-ltb state_sector (disks.sectors d) (omega (arith, room))

  pub copied_at : (d : ℕ) → d < is.said → d < disks.count → (ids d).copied ≡ Some (record { state = s; own = d })
  copied_at d early low = ap (λ b. if b then result_ok (decoded (c d state_sector)) else None) (wide d low) ∙ ap result_ok (is.copies d early low).says

  -- the others have none
  pub silent_at : (d : ℕ) → is.said ≤ d → d < disks.count → (ids d).copied ≡ None
  silent_at d late low =
      ap (λ b. if b then result_ok (decoded (c d state_sector)) else None) (wide d low)
      ∙ ap (λ v. result_ok (decoded v)) (is.silent d late low) ∙ zeros_say_none

  -- all that a disk's copy can be
  pub copy_here : (d : ℕ) (copy : Copied) → d < disks.count → (ids d).copied ≡ Some copy → copy.state ≡ s
  copy_here d copy low here = elim (cases_lt d is.said) [
    | inl early ↦ some_copy (sym here ∙ copied_at d early low)
    | inr late ↦ absurd (no_element (sym (silent_at d late low) ∙ here))
  ]
    where
      some_copy : {x y : Copied} → Some x ≡ Some y → x.state ≡ y.state
      some_copy same = (cc)

  -- each disk has its table
  pub table_said : (d : ℕ) → d < disks.count → (ids d).table ≡ Some (new_table plan birth d (disks.sectors d))
  table_said d low = first_says (disks.sectors d) (c d) (new_table plan birth d (disks.sectors d)) ((is.drives d low).table.copies Primary).says

  low_drive : (d : ℕ) → d < disks.count → d < length plan.units.items
  low_drive d low = subst (λ n. d < n) is.count low

  pub newest_is : newest disks ids ≡ Some s
  newest_is =
      let two = is.is_plan.least in
      let many = is.count in
      let some = foremost_there epoch_of (λ d. (ids d).copied) 0 disks.count 0 (record { state = s; own = 0 }) (omega arith) (omega (arith, two, many)) (copied_at 0 is.some (omega (arith, two, many))) in
      let one = foremost_is epoch_of (λ d. (ids d).copied) 0 disks.count some.0 some.1 in
      let low : one.0 < disks.count = let high = one.2 in omega (arith, high) in
      ap (option_map (λ copy. copy.state)) some.1 ∙ ap Some (copy_here one.0 some.0 low one.3)

  own_id : (j d : ℕ) → j < disks.count → d < disks.count → j < d → bytes_eq (drive_id birth.pool j) (drive_id birth.pool d) ≡ false
  own_id j d low_j low_d less = elim (cases_Bool (bytes_eq (drive_id birth.pool j) (drive_id birth.pool d))) [
    | inl same ↦ absurd (let one = is.ids j d ((bytes_eq-Decides (drive_id birth.pool j) (drive_id birth.pool d)).0 same) low_j low_d in omega (arith, one, less))
    | inr other ↦ other
  ]

  -- each disk is named as the drive of its number, by its copy or by its table
  named : (d : ℕ) → d < disks.count → id_by (ids d).table (ids d).copied ≡ Some (drive_id birth.pool d)
  named d low = elim (cases_lt d is.said) [
    | inl early ↦
        ap (id_by (ids d).table) (copied_at d early low)
        ∙ ap (option_map (λ (drive : Drive). drive.id.0)) (drive_at plan birth is.is_plan d (low_drive d low))
    | inr late ↦
        ap (id_by (ids d).table) (silent_at d late low)
        ∙ ap (option_map (λ (t : Table). t.disk_id.0)) (table_said d low)
  ]

  pub stands_at : (d : ℕ) → d < disks.count → stands_for s (ids d) ≡ Some d
  stands_at d low =
      ap (option_and_then (λ id. position (λ (drive : Drive). bytes_eq drive.id.0 id) s.drives.items)) (named d low)
      ∙ position_ranged (λ drive. bytes_eq drive.id.0 (drive_id birth.pool d)) (λ place. new_drive birth place (slice_index plan.units.items place)) 0 (length plan.units.items) d (omega arith)
      (let inside = low_drive d low in omega (arith, inside)) ((bytes_eq-Decides (drive_id birth.pool d) (drive_id birth.pool d)).1 refl)
      (λ j above below. own_id j d (omega (arith, below, low)) low below)
      ∙ ap Some (omega arith)

  -- the disk of a place's own number, and no other one, may be its drive
  own_candidate : (p : ℕ) → p < disks.count → candidate s ids p p ≡ Some (record { disk = p; epoch = option_map_or epoch_of (ids p).copied 0 })
  own_candidate p low =
      ap (λ o. if option_map_or (λ q. q == p) o false then Some (record { disk = p; epoch = option_map_or epoch_of (ids p).copied 0 }) else None) (stands_at p low)
      ∙ ap (λ b. if b then Some (record { disk = p; epoch = option_map_or epoch_of (ids p).copied 0 }) else None) (eq-eqb p p refl)

  candidate_is : (p d : ℕ) (k : Candidate) → d < disks.count → candidate s ids p d ≡ Some k → k.disk ≡ p
  candidate_is p d k low is_candidate =
      of (d == p) refl
      (sym (ap (λ o. if option_map_or (λ q. q == p) o false then Some (record { disk = d; epoch = option_map_or epoch_of (ids d).copied 0 }) else None) (stands_at d low)) ∙ is_candidate)
    where
      of : (b : Bool) → (d == p) ≡ b → (if b then Some (record { disk = d; epoch = option_map_or epoch_of (ids d).copied 0 }) else None) ≡ Some k → k.disk ≡ p
      of true here is_one = ap (λ (o : Option Candidate). option_map_or (λ e. e.disk) o 0) (sym is_one) ∙ eqb-true d p here
      of false other is_none = absurd (no_element is_none)

  pub seat_at : (p : ℕ) → p < disks.count → seat_of s disks ids p ≡ Some p
  unfolding seat_of
  seat_at p low =
      let some = foremost_there (λ (k : Candidate). k.epoch) (candidate s ids p) 0 disks.count p (record { disk = p; epoch = option_map_or epoch_of (ids p).copied 0 }) (omega arith) (omega (arith, low)) (own_candidate p low) in
      let one = foremost_is (λ (k : Candidate). k.epoch) (candidate s ids p) 0 disks.count some.0 some.1 in
      let inside : one.0 < disks.count = let high = one.2 in omega (arith, high) in
      ap (λ b. if b then option_map (λ (k : Candidate). k.disk) (foremost (λ (k : Candidate). k.epoch) (map (candidate s ids p) (range_with_len 0 disks.count))) else None)
      (drive_current plan birth is.is_plan p (low_drive p low))
      ∙ ap (option_map (λ (k : Candidate). k.disk)) some.1
      ∙ ap Some (candidate_is p one.0 some.0 inside one.3)

  pub no_drive : (p : ℕ) → disks.count ≤ p → is_current s p ≡ false
  no_drive p high = elim (cases_Bool (is_current s p)) [
    | inl there ↦
        absurd (let low = current_below s p there in let drives = state_drives plan birth in let many = is.count in omega (arith, high, low, drives, many))
    | inr none ↦ none
  ]

  pub no_seat : (p : ℕ) → disks.count ≤ p → seat_of s disks ids p ≡ None
  unfolding seat_of
  no_seat p high =
      ap (λ b. if b then option_map (λ (k : Candidate). k.disk) (foremost (λ (k : Candidate). k.epoch) (map (candidate s ids p) (range_with_len 0 disks.count))) else None) (no_drive p high)
