-- The disk that a scan's list gives a place: that of the meaning of images, and of one place alone.
use Rattle.std.proofs.Common.{◌≡◌, ◌∙◌, ℕ, zero, suc, ◌+◌, ◌<◌, ◌==◌, Bool, true, false, nat_lt, if◌then◌else◌, List, ◌∷◌, length, map, Option, Some, None, refl, sym, ap, inl, inr, arith, eqb-true}
use Rattle.std.specs.List.{range_with_len}
use Rattle.std.specs.Option.{option_map_or}
use Rattle.std.proofs.lemmas.Bool.{cases_Bool, both_ways, cond-true, cond-false}
use Rattle.std.proofs.lemmas.Option.{none-some, cond_some}
use Rattle.rack.specs.Seen.{RackView, SameRack}
use Rattle.rack.specs.Joins.{rose_early}
use Rattle.pool_state.specs.declared.contents.State.{State}
use Rattle.array_image.specs.Foremost.{ahead, foremost}
use Rattle.array_image.specs.States.{is_current}
use Rattle.pool_image.specs.Disks.{Disks, Identities, seat_of}
use Rattle.pool_scan.specs.declared.Known.{Known}
use Rattle.pool_scan.specs.Scanning.{IsReadOr, IsScan}
use Rattle.pool_scan.specs.Choosing.{AreOf, epoch_at, standing, place_at, seat_by}
use Rattle.pool_scan.proofs.Chosen.{seat_is, no_seat}

-- over identities that the list has, it is the disk of the meaning
pub seat_by_is : (disks : Disks) (identities : Identities) (known : List Known) → AreOf disks identities known → (s : State) (place : ℕ)
    → seat_by s known place ≡ seat_of s disks identities place
unfolding seat_by
seat_by_is disks identities known are s place =
    let found : Option ℕ = foremost (epoch_at known) (map (standing s known place) (range_with_len 0 (length known))) in
    elim (cases_Bool (is_current s place)) [
      | inl is ↦ ap (λ (b : Bool). if b then found else None) is ∙ seat_is disks identities known are s place is
      | inr none ↦ ap (λ (b : Bool). if b then found else None) none ∙ no_seat disks identities known are s place none
    ]

-- ---- a disk has one place

-- the foremost of a row is one of it
pub foremost_from : {X : Type 0} (measure : X → ℕ) (h : ℕ → Option X) (a n : ℕ) (z : X) → foremost measure (map h (range_with_len a n)) ≡ Some z
    → (k : ℕ) × (k < a + n) × (h k ≡ Some z)
unfolding foremost
foremost_from measure h a zero z is = absurd (none-some z is)
foremost_from {X} measure h a (suc n) z is = of_first (λ rest. later (foremost_from measure h (a + 1) n z rest)) (h a) refl is
  where
    later : (k : ℕ) × (k < a + 1 + n) × (h k ≡ Some z) → (k : ℕ) × (k < a + suc n) × (h k ≡ Some z)
    later found = (found.0, omega (arith, found.1), found.2)

    some_same : (x : X) → Some x ≡ Some z → x ≡ z
    some_same x same = (cc)

    of_rest : (x : X) (o : Option X) → (foremost measure (map h (range_with_len (a + 1) n)) ≡ Some z → (k : ℕ) × (k < a + suc n) × (h k ≡ Some z))
        → h a ≡ Some x → foremost measure (map h (range_with_len (a + 1) n)) ≡ o → ahead measure x o ≡ Some z
        → (k : ℕ) × (k < a + suc n) × (h k ≡ Some z)
    of_rest x None rest at others is = (a, omega arith, at ∙ is)
    of_rest x (Some y) rest at others is =
        elim (cases_Bool (nat_lt (measure x) (measure y))) [
          | inl less ↦ rest (others ∙ sym (cond-true (nat_lt (measure x) (measure y)) (Some y) (Some x) less) ∙ is)
          | inr not_less ↦ (a, omega arith, at ∙ sym (cond-false (nat_lt (measure x) (measure y)) (Some y) (Some x) not_less) ∙ is)
        ]

    of_first : (foremost measure (map h (range_with_len (a + 1) n)) ≡ Some z → (k : ℕ) × (k < a + suc n) × (h k ≡ Some z))
        → (o : Option X) → h a ≡ o → foremost measure (o ∷ map h (range_with_len (a + 1) n)) ≡ Some z → (k : ℕ) × (k < a + suc n) × (h k ≡ Some z)
    of_first rest None at is = rest is
    of_first rest (Some x) at is = of_rest x (foremost measure (map h (range_with_len (a + 1) n))) rest at refl is

-- a disk that is taken is one of the list, and stands for the place, which is current
pub seat_by_stands : (s : State) (known : List Known) (place d : ℕ) → seat_by s known place ≡ Some d
    → (d < length known) × (place_at s known d ≡ Some place) × (is_current s place ≡ true)
unfolding seat_by
seat_by_stands s known place d is = of_current (is_current s place) refl is
  where
    of_place : (o : Option ℕ) → option_map_or (λ p. p == place) o false ≡ true → o ≡ Some place
    of_place None at = absurd (both_ways false refl at)
    of_place (Some p) at = ap Some (eqb-true p place at)

    of_current : (b : Bool) → is_current s place ≡ b → (if b then foremost (epoch_at known) (map (standing s known place) (range_with_len 0 (length known))) else None) ≡ Some d
        → (d < length known) × (place_at s known d ≡ Some place) × (is_current s place ≡ true)
    of_current false current is = absurd (none-some d is)
    of_current true current is =
        let at = foremost_from (epoch_at known) (standing s known place) 0 (length known) d is in
        let both = cond_some (option_map_or (λ p. p == place) (place_at s known at.0) false) at.0 d at.2 in
        let same : at.0 ≡ d = both.1 in
        (omega (arith, at.1, same), ap (place_at s known) (sym same) ∙ of_place (place_at s known at.0) both.0, current)

-- ---- a scan after further calls

pub scan_later : (x y z : RackView) (known : List Known) → IsScan x y known → SameRack y z → IsScan x z known
scan_later x y z known scan stays = record {
  count = scan.count;
  each = λ d s at. let is = scan.each d s at in record {
    sees = λ told. let sees = is.sees told in record {
      copied = read_or d (sees.copied);
      read = sees.read;
      named = record { table = read_or d (sees.named.table); read = sees.named.read; id = sees.named.id };
    };
    gone = λ gone. rose_early x y z d stays (is.gone gone);
    valid = is.valid;
  };
}
  where
    read_or : {X : Type 0} {shown read : Option X} (d : ℕ) → IsReadOr x y d shown read → IsReadOr x z d shown read
    read_or d (inl same) = inl same
    read_or d (inr refused) = inr (refused.0, rose_early x y z d stays refused.1)
