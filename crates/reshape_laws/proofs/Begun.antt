-- The array once a reshape begins, whose new member has the last position.
use Rattle.std.proofs.Common.{◌≡◌, ℕ, zero, suc, ◌+◌, ◌%◌, ◌<◌, ◌≤◌, Bool, true, false, ◌==◌, ◌||◌, nat_lt, if◌then◌else◌, List, [], ◌∷◌, ◌++◌, length, get_or, set, Some, None, refl, sym, ap, ap₂, subst, ◌∙◌, inl, inr, lt-ltb, eq-eqb, arith}
use Rattle.std.proofs.lemmas.Bool.{and_from, and_parts, cases_eq, ne_eqb}
use Rattle.std.proofs.lemmas.List.{get_or-set_other, get_or-set_same, length-set}
use Rattle.std.proofs.lemmas.List.Sums.{position_or_len_is}
use Rattle.std.specs.List.{list_all, position_or_len}
use Rattle.shr_base.specs.declared.Id.{Id}
use Rattle.md_super.specs.Profile.{is_mirror, is_raid5}
use Rattle.array_image.specs.Supers.{new_row}
use Rattle.array_image.specs.SoundArray.{IsWrittenSuper}
use Rattle.array_image.specs.Arrays.{place_with}
use Rattle.array_model.specs.declared.Seat.{Seat}
use Rattle.array_model.specs.View.{View, IsArray}
use Rattle.reshape_laws.specs.Ahead.{begun}
use Rattle.reshape_laws.proofs.StepMoves.{place_kept}

first_set : (xs : List ℕ) (i k : ℕ) → i < length xs → ((j : ℕ) → j < i → get_or xs j 0 ≡ k → ⊥) → position_or_len (λ role. role == k) (set xs i k) ≡ i
first_set xs i k low none =
    let long = length-set xs i k in
    position_or_len_is (λ role. role == k) (set xs i k) i 0 (omega (arith, low, long))
    (λ j less. ne_eqb (get_or (set xs i k) j 0) k (λ same. none j less (sym (get_or-set_other xs i j k 0 (λ is. omega (arith, is, less))) ∙ same)))
    (λ inside. eq-eqb (get_or (set xs i k) i 0) k (get_or-set_same xs i k 0 low))

-- a role that nobody had is at the place that is given it
pub new_place : (roles : List ℕ) (place k : ℕ) → place < length roles → ((j : ℕ) → j < place → get_or roles j 0 ≡ k → ⊥) → place_with (set roles place k) k ≡ Some place
new_place roles place k low none =
    ap₂ (λ i n. if nat_lt i n then Some i else None) (first_set roles place k low none) (length-set roles place k)
    ∙ ap (λ (b : Bool). if b then Some place else None) (lt-ltb place (length roles) low)

all_set : (p : ℕ → Bool) (xs : List ℕ) (i y : ℕ) → list_all p xs ≡ true → p y ≡ true → list_all p (set xs i y) ≡ true
all_set p [] i y all here = refl
all_set p (x ∷ xs) zero y all here = and_from (p y) (list_all p xs) here (and_parts (p x) (list_all p xs) all).1
all_set p (x ∷ xs) (suc i) y all here =
    let parts = and_parts (p x) (list_all p xs) all in
    and_from (p x) (list_all p (set xs i y)) parts.0 (all_set p xs i y parts.1 here)

count_last : {X : Type 0} (xs : List X) (x : X) → length (xs ++ x ∷ []) ≡ length xs + 1
count_last [] x = refl
count_last (y ∷ xs) x = ap suc (count_last xs x) ∙ (let e : suc (length xs + 1) ≡ suc (length xs) + 1 = omega arith in e)

module _ (v : View) (events place : ℕ) (seat : Seat) (device : Id) (is_array : IsArray v) (raid5 : is_raid5 v.truth ≡ true) (plain : is_mirror v.truth ≡ false)
    (few : v.truth.raid_disks < 16) (small : place < 16) (roles : length v.truth.roles.items ≡ 128) (spare : 0xfffe ≤ get_or v.truth.roles.items place 0)
    (none : (j : ℕ) → get_or v.truth.roles.items j 0 ≡ v.truth.raid_disks → ⊥) where
  least : 2 ≤ v.truth.raid_disks
  least = is_array.least

  placed : (j : ℕ) → j < v.truth.raid_disks + 1 → (p : ℕ) × (place_with (set v.truth.roles.items place v.truth.raid_disks) j ≡ Some p) × (p < 16)
  placed j low = elim (cases_eq v.truth.raid_disks j) [
    | inl last ↦ (
      place,
      subst (λ i. place_with (set v.truth.roles.items place v.truth.raid_disks) i ≡ Some place) last
          (new_place v.truth.roles.items place v.truth.raid_disks (omega (arith, small, roles)) (λ i less. none i)),
      small,
    )
    | inr other ↦
        let below : j < v.truth.raid_disks = omega (arith, low, other) in
        let was = is_array.placed j below in (
          was.0,
          place_kept v.truth.roles.items place v.truth.raid_disks j (ne_eqb (get_or v.truth.roles.items place 0) j (λ same. omega (arith, same, spare, below, few))) other ∙ was.1,
          was.2,
        )
  ]

  pub begun_array : IsArray (begun v events place seat device)
  begun_array = record {
    few = is_array.few;
    level = is_array.level;
    least = (let two = least in omega (arith, two));
    most = subst (λ (b : Bool). v.truth.raid_disks + 1 ≤ (if b then 2 else 16)) (sym plain) (omega (arith, few));
    seats = count_last v.seats seat ∙ ap (λ n. n + 1) is_array.seats;
    devices = count_last v.devices device ∙ ap (λ n. n + 1) is_array.devices;
    small = is_array.small;
    whole_rows = is_array.whole_rows;
    placed = placed;
    synced = is_array.synced;
    reshape = λ is. (raid5, (let two = least in omega (arith, two)), zero_mod (new_row (begun v events place seat device).truth));
  }
    where
      zero_mod : (n : ℕ) → 0 % n ≡ 0
      zero_mod n = omega arith

  pub begun_written : (n : ℕ) → IsWrittenSuper n v.truth → IsWrittenSuper n (begun v events place seat device).truth
  begun_written n written = record {
    name = written.name;
    times = written.times;
    roles = all_set (λ role. nat_lt role 0xfffe || (role == 0xffff)) v.truth.roles.items place v.truth.raid_disks written.roles
        (ap (λ (b : Bool). b || (v.truth.raid_disks == 0xffff)) (lt-ltb v.truth.raid_disks 0xfffe (omega (arith, few))));
    step = refl;
    next_level = refl;
    next_layout = refl;
    next_chunk = refl;
    position = zero_mod (new_row (begun v events place seat device).truth);
    last_position = omega arith;
    no_position = λ is. refl;
    resync = written.resync;
  }
    where
      zero_mod : (n : ℕ) → 0 % n ≡ 0
      zero_mod n = omega arith
