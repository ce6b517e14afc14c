-- Rebuilds that begin again stand between rows, and those that do stay.
use Rattle.std.proofs.Common.{◌≡◌, ℕ, zero, suc, ◌%◌, ◌<◌, Bool, true, false, ◌==◌, ◌&&◌, nat_lt, if◌then◌else◌, List, [], ◌∷◌, map, slice_get, Option, Some, None, option_map, refl, sym, ap, ap₂, subst, ◌∙◌, eq-eqb, eqb-true, lt-ltb, ltb-true, arith}
use Rattle.std.proofs.lemmas.Bool.{and_parts, and_from, both_ways, cases_Bool}
use Rattle.array_model.specs.declared.Seat.{Seat}
use Rattle.array_model.specs.declared.Seat.TheVariants.{Whole, Missing, Rebuilding}
use Rattle.array_model.specs.View.{View}
use Rattle.array_core.specs.Staging.{HasRowRebuilds}
use Rattle.array_core.specs.Seats.{restart, restarted}
use Rattle.array_core.proofs.Rules.{get_map}

-- how far a seat is rebuilt, if it is
rebuilt : Seat → ℕ
rebuilt Whole = 0
rebuilt Missing = 0
rebuilt (Rebuilding to) = to

same_to : (a b : ℕ) → Some (Rebuilding a) ≡ Some (Rebuilding b) → a ≡ b
same_to a b is = cc

pub restart_rows : (size to : ℕ) (o : Option Seat) → 0 < size → option_map (restart size) o ≡ Some (Rebuilding to) → (to % 128 ≡ 0) × (to < size)
restart_rows size to None some is = cc
restart_rows size to (Some Whole) some is = cc
restart_rows size to (Some Missing) some is = cc
restart_rows size to (Some (Rebuilding from)) some is =
    let Goal : Bool → Type 0 = λ b. ((from % 128 == 0) && nat_lt from size) ≡ b → Some (if b then Rebuilding from else Rebuilding 0) ≡ Some (Rebuilding to)
    → (to % 128 ≡ 0) × (to < size) in
    let goal : Goal ((from % 128 == 0) && nat_lt from size) = elim ((from % 128 == 0) && nat_lt from size) as Goal [
      | true ↦ λ now here.
          let both = and_parts (from % 128 == 0) (nat_lt from size) now in
          subst (λ n. (n % 128 ≡ 0) × (n < size)) (same_to from to here) (eqb-true (from % 128) 0 both.0, ltb-true from size both.1)
      | false ↦ λ now here. subst (λ n. (n % 128 ≡ 0) × (n < size)) (same_to 0 to here) (refl, some)
    ] in
    goal refl is

pub restarted_rows : (v : View) → 0 < v.truth.size → HasRowRebuilds (restarted v)
restarted_rows v some n to is = restart_rows v.truth.size to (slice_get v.seats n) some (sym (get_map (restart v.truth.size) v.seats n) ∙ is)

restart_same : (size : ℕ) (seat : Seat) → ((to : ℕ) → seat ≡ Rebuilding to → (to % 128 ≡ 0) × (to < size)) → restart size seat ≡ seat
restart_same size Whole rows = refl
restart_same size Missing rows = refl
restart_same size (Rebuilding to) rows =
    let at = rows to refl in
    ap (λ (b : Bool). if b then Rebuilding to else Rebuilding 0) (and_from (to % 128 == 0) (nat_lt to size) (eq-eqb (to % 128) 0 at.0) (lt-ltb to size at.1))

restarts_same : (size : ℕ) (seats : List Seat) → ((n to : ℕ) → slice_get seats n ≡ Some (Rebuilding to) → (to % 128 ≡ 0) × (to < size)) → map (restart size) seats ≡ seats
restarts_same size [] rows = refl
restarts_same size (seat ∷ seats) rows =
    ap₂ (λ x xs. x ∷ xs) (restart_same size seat (λ to is. rows 0 to (ap Some is))) (restarts_same size seats (λ n to is. rows (suc n) to is))

-- an array whose rebuilds stand between rows stays as it is
pub restarted_same : (v : View) → HasRowRebuilds v → restarted v ≡ v
restarted_same v rows = let seats = restarts_same v.truth.size v.seats rows in λ i. record v { seats = seats i }
