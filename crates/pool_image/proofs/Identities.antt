-- What disks say goes by their state sectors and the copies of their tables.
use Rattle.std.proofs.Common.{◌≡◌, ◌≢◌, ◌⊎◌, ℕ, zero, suc, ◌+◌, ◌<◌, ◌≤◌, ◌==◌, ◌&&◌, ◌||◌, not, Bool, true, false, nat_lt, bytes_eq, if◌then◌else◌, List, ◌∷◌, ◌++◌, map, Option, Some, None, option_map, refl, sym, ap, ap₂, ◌∙◌, inl, inr, arith, ltb-true}
use Rattle.std.specs.Option.{option_map_or}
use Rattle.std.specs.Result.{result_ok}
use Rattle.std.specs.List.{range_with_len, flat_map, list_all, list_any}
use Rattle.std.proofs.lemmas.Option.{none-some}
use Rattle.std.proofs.lemmas.Bool.{cases_Bool, cases_lt, cases_eq, lt-leb, cond-true, cond-false}
use Rattle.rack.specs.Seen.{Image}
use Rattle.gpt_table.specs.declared.Table.{Table}
use Rattle.gpt_table.specs.declared.TableCopy.{TableCopy}
use Rattle.gpt_table.specs.declared.TableCopy.TheVariants.{Primary, Backup}
use Rattle.gpt_table.specs.Format.{header_sector, entries_sector, is_header, is_inside, entries_of, table_of}
use Rattle.shr_base.specs.Blocks.{bytes_at, number_at}
use Rattle.shr_base.specs.Crc.{crc32_of}
use Rattle.shr_base.specs.Ids.{guid_order}
use Rattle.gpt_table.specs.Changes.{the_table, IsOfCopies}
use Rattle.gpt_table.specs.Disk.{Contents, IsOfCopy, entries_bytes, table_at, first_of}
use Rattle.pool_state.specs.declared.contents.Copied.{Copied}
use Rattle.pool_state.specs.declared.contents.State.{State}
use Rattle.pool_state.specs.Sector.{decoded}
use Rattle.array_image.specs.Foremost.{ahead, foremost}
use Rattle.array_image.specs.Places.{state_sector, arrays_first}
use Rattle.array_image.specs.States.{epoch_of, is_current}
use Rattle.pool_image.specs.Disks.{Disks, Identity, Identities, Candidate, all_disks, identities_of, newest, stands_for, candidate, seat_of}
use Rattle.pool_image.specs.Alike.{drive_gate, Agree, IsSameButGates}

-- ---- the table of a disk

flat_map_same : (f g : ℕ → List ℕ) (a n : ℕ) → ((k : ℕ) → a ≤ k → k < a + n → f k ≡ g k) → flat_map f (range_with_len a n) ≡ flat_map g (range_with_len a n)
flat_map_same f g a zero same = refl
flat_map_same f g a (suc n) same =
    ap₂ (λ xs ys. xs ++ ys) (same a (omega arith) (omega arith)) (flat_map_same f g (a + 1) n (λ k from below. same k (omega (arith, from)) (omega (arith, below))))

no_room : (copy : TableCopy) (n : ℕ) (c : Contents) → n < 67 → table_at copy n c ≡ None
no_room copy n c few =
    let header : List ℕ = c (header_sector copy n) in
    let entries : List ℕ = entries_bytes c (entries_sector copy n) in
    ap (λ (b : Bool). if b && is_header copy n header && (number_at 88 4 header == crc32_of entries) && list_all (λ entry. is_inside n entry.slice) (entries_of entries) then Some (record {
      disk_id = record { 0 = guid_order (bytes_at 56 16 header) };
      sectors = n;
      entries = record { items = entries_of entries };
    }) else None) (lt-leb 67 n few)

copy_same : (copy : TableCopy) (n : ℕ) (c e : Contents) → ((s : ℕ) → s < n → IsOfCopy copy n s → c s ≡ e s) → table_at copy n c ≡ table_at copy n e
unfolding entries_bytes
copy_same copy n c e same =
    elim (cases_lt n 67) [
      | inl few ↦ no_room copy n c few ∙ sym (no_room copy n e few)
      | inr many ↦
          ap₂ (λ h b. table_of copy n h b)
          (same (header_sector copy n) (header_inside copy many) (inl refl))
          (flat_map_same c e (entries_sector copy n) 32 (λ k from below. same k (entries_inside copy k many below) (inr (from, below))))
    ]
  where
    header_inside : (copy : TableCopy) → 67 ≤ n → header_sector copy n < n
    header_inside Primary many = omega (arith, many)
    header_inside Backup many = omega (arith, many)

    entries_inside : (copy : TableCopy) (k : ℕ) → 67 ≤ n → k < entries_sector copy n + 32 → k < n
    entries_inside Primary k many below = omega (arith, many, below)
    entries_inside Backup k many below = omega (arith, many, below)

pub table_same : (n : ℕ) (c e : Contents) → ((s : ℕ) → s < n → IsOfCopies n s → c s ≡ e s) → the_table n c ≡ the_table n e
table_same n c e same =
    ap₂ (λ t u. option_map (λ found. found.table) (first_of t u))
    (copy_same Primary n c e (λ s below of. same s below (inl of)))
    (copy_same Backup n c e (λ s below of. same s below (inr of)))

-- ---- what a disk says

copied_same : (n : ℕ) (c e : Contents) → (state_sector < n → c state_sector ≡ e state_sector)
    → (if nat_lt state_sector n then result_ok (decoded (c state_sector)) else None) ≡ (if nat_lt state_sector n then result_ok (decoded (e state_sector)) else None)
copied_same n c e same = by (nat_lt state_sector n) refl
  where
    by : (b : Bool) → nat_lt state_sector n ≡ b → (if b then result_ok (decoded (c state_sector)) else None) ≡ (if b then result_ok (decoded (e state_sector)) else None)
    by true within = ap (λ v. result_ok (decoded v)) (same (ltb-true state_sector n within))
    by false past = refl

pub identity_same : (disks : Disks) (c e : Image) (d : ℕ) → (state_sector < disks.sectors d → c d state_sector ≡ e d state_sector)
    → ((s : ℕ) → s < disks.sectors d → IsOfCopies (disks.sectors d) s → c d s ≡ e d s)
    → identities_of disks c d ≡ identities_of disks e d
identity_same disks c e d state tables =
    ap₂ (λ (copied : Option Copied) (table : Option Table). record { copied = copied; table = table })
    (copied_same (disks.sectors d) (c d) (e d) state) (table_same (disks.sectors d) (c d) (e d) tables)

-- contents that agree inside the disks
pub agree_identities : (disks : Disks) (c e : Image) → Agree disks c e → (d : ℕ) → d < disks.count → identities_of disks c d ≡ identities_of disks e d
agree_identities disks c e agree d there =
    identity_same disks c e d (λ within. agree d state_sector there within) (λ s within of. agree d s there within)

-- contents that are the same but for gates of disks that are long enough for a log slice
pub same_but_gates : (disks : Disks) (c e : Image)
    → ((d s : ℕ) → d < disks.count → s < disks.sectors d → s ≢ drive_gate → c d s ≡ e d s)
    → ((d : ℕ) → d < disks.count → drive_gate < disks.sectors d → (c d drive_gate ≡ e d drive_gate) ⊎ (arrays_first ≤ disks.sectors d))
    → IsSameButGates disks c e
same_but_gates disks c e same gates = record {
  identities = λ d there.
      identity_same disks c e d (λ within. same d state_sector there within (λ is. absurd (omega (arith, is))))
      (λ s within of. elim (cases_eq s drive_gate) [
        | inr other ↦ same d s there within other
        | inl gate ↦ elim (gates d there (omega (arith, gate, within))) [
          | inl is ↦ ap (c d) gate ∙ is ∙ ap (e d) (sym gate)
          | inr long ↦ absurd (no_gate (disks.sectors d) long s gate of)
        ]
      ]);
  contents = same;
}
  where
    no_gate : (n : ℕ) → arrays_first ≤ n → (s : ℕ) → s ≡ drive_gate → IsOfCopies n s → ⊥
    no_gate n long s gate (inl (inl header)) = omega (arith, gate, header)
    no_gate n long s gate (inl (inr entries)) = omega (arith, gate, entries.0, entries.1)
    no_gate n long s gate (inr (inl header)) = omega (arith, gate, header, long)
    no_gate n long s gate (inr (inr entries)) = omega (arith, gate, entries.0, entries.1, long)

-- ---- states and seats by what the disks below the count say

range_same : {X : Type 0} (f g : ℕ → X) (a n : ℕ) → ((d : ℕ) → a ≤ d → d < a + n → f d ≡ g d) → map f (range_with_len a n) ≡ map g (range_with_len a n)
range_same f g a zero same = refl
range_same f g a (suc n) same =
    ap₂ (λ x xs. x ∷ xs) (same a (omega arith) (omega arith)) (range_same f g (a + 1) n (λ d from below. same d (omega (arith, from)) (omega (arith, below))))

pub newest_same : (disks : Disks) (i j : Identities) → ((d : ℕ) → d < disks.count → i d ≡ j d) → newest disks i ≡ newest disks j
newest_same disks i j same =
    ap (λ copies. option_map (λ copy. copy.state) (foremost epoch_of copies))
    (range_same (λ d. (i d).copied) (λ d. (j d).copied) 0 disks.count (λ d from below. ap (λ (id : Identity). id.copied) (same d (omega (arith, below)))))

pub seat_same : (disks : Disks) (i j : Identities) → ((d : ℕ) → d < disks.count → i d ≡ j d) → (s : State) (p : ℕ) → seat_of s disks i p ≡ seat_of s disks j p
unfolding seat_of
seat_same disks i j same s p =
    ap (λ candidates. if is_current s p then option_map (λ k. k.disk) (foremost (λ k. k.epoch) candidates) else None)
    (range_same (candidate s i p) (candidate s j p) 0 disks.count
    (λ d from below.
    ap (λ (id : Identity). if option_map_or (λ q. q == p) (stands_for s id) false then Some (record { disk = d; epoch = option_map_or epoch_of id.copied 0 }) else None)
    (same d (omega (arith, below)))))

foremost_from : {X : Type 0} (measure : X → ℕ) (h : ℕ → Option X) (a n : ℕ) (z : X) → foremost measure (map h (range_with_len a n)) ≡ Some z
    → (k : ℕ) × (k < a + n) × (h k ≡ Some z)
unfolding foremost
foremost_from measure h a zero z is = absurd (none-some z is)
foremost_from {X} measure h a (suc n) z is = of_first (λ rest. later (foremost_from measure h (a + 1) n z rest)) (h a) refl is
  where
    later : (k : ℕ) × (k < a + 1 + n) × (h k ≡ Some z) → (k : ℕ) × (k < a + suc n) × (h k ≡ Some z)
    later found = (found.0, omega (arith, found.1), found.2)

    of_rest : (x : X) (o : Option X) → (foremost measure (map h (range_with_len (a + 1) n)) ≡ Some z → (k : ℕ) × (k < a + suc n) × (h k ≡ Some z))
        → h a ≡ Some x → foremost measure (map h (range_with_len (a + 1) n)) ≡ o → ahead measure x o ≡ Some z
        → (k : ℕ) × (k < a + suc n) × (h k ≡ Some z)
    of_rest x None rest at others is = (a, omega arith, at ∙ is)
    of_rest x (Some y) rest at others is =
        elim (cases_Bool (nat_lt (measure x) (measure y))) [
          | inl less ↦ rest (others ∙ sym (cond-true (nat_lt (measure x) (measure y)) (Some y) (Some x) less) ∙ is)
          | inr not_less ↦ (a, omega arith, at ∙ sym (cond-false (nat_lt (measure x) (measure y)) (Some y) (Some x) not_less) ∙ is)
        ]

    of_first : (foremost measure (map h (range_with_len (a + 1) n)) ≡ Some z → (k : ℕ) × (k < a + suc n) × (h k ≡ Some z))
        → (o : Option X) → h a ≡ o → foremost measure (o ∷ map h (range_with_len (a + 1) n)) ≡ Some z → (k : ℕ) × (k < a + suc n) × (h k ≡ Some z)
    of_first rest None at is = rest is
    of_first rest (Some x) at is = of_rest x (foremost measure (map h (range_with_len (a + 1) n))) rest at refl is

-- a seat is one of the disks
pub seat_inside : (s : State) (disks : Disks) (i : Identities) (p d : ℕ) → seat_of s disks i p ≡ Some d → d < disks.count
unfolding seat_of
seat_inside s disks i p d is = of_current (is_current s p) is
  where
    of_candidate : (k : ℕ) (b : Bool) (epoch : ℕ) (z : Candidate) → (if b then Some (record { disk = k; epoch = epoch }) else None) ≡ Some z → k ≡ z.disk
    of_candidate k true epoch z at = ap (λ (o : Option Candidate). option_map_or (λ c. c.disk) o 0) at
    of_candidate k false epoch z at = absurd (none-some z at)

    of_foremost : (o : Option Candidate) → foremost (λ k. k.epoch) (map (candidate s i p) (range_with_len 0 disks.count)) ≡ o
        → option_map (λ k. k.disk) o ≡ Some d → d < disks.count
    of_foremost None has at = absurd (none-some d at)
    of_foremost (Some z) has at =
        let from = foremost_from (λ k. k.epoch) (candidate s i p) 0 disks.count z has in
        let same : from.0 ≡ z.disk = of_candidate from.0 (option_map_or (λ q. q == p) (stands_for s (i from.0)) false) (option_map_or epoch_of (i from.0).copied 0) z from.2 in
        let disk : z.disk ≡ d = ap (λ (o : Option ℕ). option_map_or (λ k. k) o 0) at in
        omega (arith, from.1, same, disk)

    of_current : (b : Bool) → (if b then option_map (λ k. k.disk) (foremost (λ k. k.epoch) (map (candidate s i p) (range_with_len 0 disks.count))) else None) ≡ Some d → d < disks.count
    of_current true at = of_foremost (foremost (λ k. k.epoch) (map (candidate s i p) (range_with_len 0 disks.count))) refl at
    of_current false at = absurd (none-some d at)

any_same : (f g : ℕ → Bool) (a n : ℕ) → ((d : ℕ) → a ≤ d → d < a + n → f d ≡ g d) → list_any f (range_with_len a n) ≡ list_any g (range_with_len a n)
any_same f g a zero same = refl
any_same f g a (suc n) same =
    ap₂ (λ x y. x || y) (same a (omega arith) (omega arith)) (any_same f g (a + 1) n (λ d from below. same d (omega (arith, from)) (omega (arith, below))))

-- whether a disk has another pool's state
pub other_same : (disks : Disks) (i j : Identities) → ((d : ℕ) → d < disks.count → i d ≡ j d) → (pool : List ℕ)
    → list_any (λ d. option_map_or (λ copy. not (bytes_eq copy.state.pool.0 pool)) (i d).copied false) (all_disks disks)
    ≡ list_any (λ d. option_map_or (λ copy. not (bytes_eq copy.state.pool.0 pool)) (j d).copied false) (all_disks disks)
other_same disks i j same pool =
    any_same _ _ 0 disks.count
    (λ d from below. ap (λ (id : Identity). option_map_or (λ copy. not (bytes_eq copy.state.pool.0 pool)) id.copied false) (same d (omega (arith, below))))
