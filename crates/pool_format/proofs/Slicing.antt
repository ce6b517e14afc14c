-- Slices that are laid one after the other.
use Rattle.std.proofs.Common.{◌≡◌, ◌≢◌, ◌⊎◌, ℕ, ◌+◌, ◌-◌, ◌*◌, ◌<◌, ◌≤◌, ◌==◌, nat_lt, true, false, List, length, slice_get, if◌then◌else◌, Option, Some, None, Result, Ok, Err, OnOk, refl, sym, ap, subst, ◌∙◌, inl, inr, eq-eqb, lt-ltb, ltb-true, le-ltb, arith}
use Rattle.std.specs.Option.{option_map_or}
use Rattle.std.proofs.lemmas.Bool.{cases_Bool, cases_lt, cases_eq, ne_eqb}
use Rattle.std.proofs.lemmas.Option.{slice_get_within}
use Rattle.rack.specs.Seen.{RackView}
use Rattle.slice_rack.specs.declared.SliceFault.{SliceFault}
use Rattle.slice_rack.specs.declared.SliceFault.TheVariants.{Unseated, Outside, Overlap}
use Rattle.slice_rack.specs.Slices.{Slices, seat_of, first_of, sectors_of, place_of}
use Rattle.slice_rack.specs.Changes.{Adds, IsEmpty, IsPast, IsWithin, Overlaps, Seats}
use Rattle.array_image.specs.Places.{data_sector, log_sectors, slice_of, state_sector}
use Rattle.pool_format.specs.declared.planning.NewArray.{NewArray}
use Rattle.pool_format.specs.declared.planning.NewPool.{NewPool}
use Rattle.pool_format.specs.Plan.{HasRoom, IsPlan, has}
use Rattle.pool_format.specs.Slices.{AreLaid, first_planned, sectors_planned}
use Rattle.pool_format.proofs.Laying.{member_inside, member_slice_is}

-- none is laid
pub laid_none : (arrays : List NewArray) (t : Slices) → IsEmpty t → AreLaid arrays 0 (17 * 0) t
laid_none arrays t empty = record {
  seats = λ p. empty.seats p ∙ sym (ap (λ b. if b then Some p else None) (le-ltb p 0 (omega arith)));
  sectors = λ k. empty.slices k ∙ sym (ap (λ b. if b then sectors_planned arrays k else 0) (le-ltb k 0 (omega arith)));
  firsts = λ k low some. absurd (omega (arith, low));
}

-- a place has got its disk
pub laid_seat : (arrays : List NewArray) (place : ℕ) (t u : Slices) → AreLaid arrays place (17 * place) t → Seats t u place (Some place)
    → AreLaid arrays (place + 1) (17 * place) u
laid_seat arrays place t u laid seats = record {
  seats = λ p. seats.seats p ∙ ap (λ o. if p == place then Some place else o) (laid.seats p) ∙ of p (cases_eq p place);
  sectors = λ k. sector k (cases_lt k (17 * place));
  firsts = λ k low some.
      let other : place_of k ≢ place = λ same. omega (arith, same, low) in
      let same = seats.sectors k other in
      seats.firsts k other ∙ laid.firsts k low (omega (arith, some, same));
}
  where
    of : (p : ℕ) → (p ≡ place) ⊎ (p ≢ place) → (if p == place then Some place else if nat_lt p place then Some p else None) ≡ (if nat_lt p (place + 1) then Some p else None)
    of p (inl same) =
        ap (λ b. if b then Some place else if nat_lt p place then Some p else None) (eq-eqb p place same)
        ∙ ap Some (sym same)
        ∙ sym (ap (λ b. if b then Some p else None) (lt-ltb p (place + 1) (omega (arith, same))))
    of p (inr other) =
        ap (λ b. if b then Some place else if nat_lt p place then Some p else None) (ne_eqb p place other)
        ∙ below (cases_lt p place)
      where
        below : (p < place) ⊎ (place ≤ p) → (if nat_lt p place then Some p else None) ≡ (if nat_lt p (place + 1) then Some p else None)
        below (inl low) =
            ap (λ b. if b then Some p else None) (lt-ltb p place low) ∙ sym (ap (λ b. if b then Some p else None) (lt-ltb p (place + 1) (omega (arith, low))))
        below (inr high) =
            ap (λ b. if b then Some p else None) (le-ltb p place high) ∙ sym (ap (λ b. if b then Some p else None) (le-ltb p (place + 1) (past (cases_lt place p))))
          where
            past : (place < p) ⊎ (p ≤ place) → place + 1 ≤ p
            past (inl more) = omega (arith, more)
            past (inr less) = absurd (other (omega (arith, less, high)))

    sector : (k : ℕ) → (k < 17 * place) ⊎ (17 * place ≤ k) → sectors_of u k ≡ (if nat_lt k (17 * place) then sectors_planned arrays k else 0)
    sector k (inl low) = seats.sectors k (λ same. omega (arith, same, low)) ∙ laid.sectors k
    sector k (inr high) = here (cases_eq (place_of k) place) ∙ sym (ap (λ b. if b then sectors_planned arrays k else 0) (le-ltb k (17 * place) high))
      where
        here : (place_of k ≡ place) ⊎ (place_of k ≢ place) → sectors_of u k ≡ 0
        here (inl same) = seats.cleared k same
        here (inr other) = seats.sectors k other ∙ laid.sectors k ∙ ap (λ b. if b then sectors_planned arrays k else 0) (le-ltb k (17 * place) high)

next_below : (k limit : ℕ) → k ≢ limit → nat_lt k (limit + 1) ≡ nat_lt k limit
next_below k limit other = of (cases_lt k limit)
  where
    of : (k < limit) ⊎ (limit ≤ k) → nat_lt k (limit + 1) ≡ nat_lt k limit
    of (inl low) = lt-ltb k (limit + 1) (omega (arith, low)) ∙ sym (lt-ltb k limit low)
    of (inr high) = le-ltb k (limit + 1) (past (cases_lt limit k)) ∙ sym (le-ltb k limit high)
      where
        past : (limit < k) ⊎ (k ≤ limit) → limit + 1 ≤ k
        past (inl more) = omega (arith, more)
        past (inr less) = absurd (other (omega (arith, less, high)))

-- one more slice
pub laid_add : (arrays : List NewArray) (many limit first sectors : ℕ) (t u : Slices) → AreLaid arrays many limit t → Adds t u limit first sectors
    → sectors ≡ sectors_planned arrays limit → first ≡ first_planned arrays limit → AreLaid arrays many (limit + 1) u
laid_add arrays many limit first sectors t u laid adds size begins = record {
  seats = λ p. adds.seats p ∙ laid.seats p;
  sectors = λ k. adds.sectors_are k ∙ of k (cases_eq k limit);
  firsts = λ k low some. begin k low some (cases_eq k limit);
}
  where
    of : (k : ℕ) → (k ≡ limit) ⊎ (k ≢ limit) → (if k == limit then sectors else sectors_of t k) ≡ (if nat_lt k (limit + 1) then sectors_planned arrays k else 0)
    of k (inl same) =
        ap (λ b. if b then sectors else sectors_of t k) (eq-eqb k limit same) ∙ size ∙ ap (sectors_planned arrays) (sym same)
        ∙ sym (ap (λ b. if b then sectors_planned arrays k else 0) (lt-ltb k (limit + 1) (omega (arith, same))))
    of k (inr other) =
        ap (λ b. if b then sectors else sectors_of t k) (ne_eqb k limit other) ∙ laid.sectors k
        ∙ sym (ap (λ b. if b then sectors_planned arrays k else 0) (next_below k limit other))

    begin : (k : ℕ) → k < limit + 1 → 0 < sectors_of u k → (k ≡ limit) ⊎ (k ≢ limit) → first_of u k ≡ first_planned arrays k
    begin k low some (inl same) =
        adds.firsts k ∙ ap (λ b. if b then first else first_of t k) (eq-eqb k limit same) ∙ begins ∙ ap (first_planned arrays) (sym same)
    begin k low some (inr other) =
        let kept : sectors_of u k ≡ sectors_of t k = adds.sectors_are k ∙ ap (λ b. if b then sectors else sectors_of t k) (ne_eqb k limit other) in
        adds.firsts k ∙ ap (λ b. if b then first else first_of t k) (ne_eqb k limit other)
        ∙ laid.firsts k (ltb-true k limit (sym (next_below k limit other) ∙ lt-ltb k (limit + 1) low)) (omega (arith, some, kept))

-- a slice that the plan doesn't have
pub laid_skip : (arrays : List NewArray) (many limit : ℕ) (t : Slices) → AreLaid arrays many limit t → sectors_planned arrays limit ≡ 0 → AreLaid arrays many (limit + 1) t
laid_skip arrays many limit t laid none = record {
  seats = laid.seats;
  sectors = λ k. laid.sectors k ∙ of k (cases_eq k limit);
  firsts = λ k low some. begin k low some (cases_eq k limit);
}
  where
    of : (k : ℕ) → (k ≡ limit) ⊎ (k ≢ limit) → (if nat_lt k limit then sectors_planned arrays k else 0) ≡ (if nat_lt k (limit + 1) then sectors_planned arrays k else 0)
    of k (inl same) =
        ap (λ b. if b then sectors_planned arrays k else 0) (le-ltb k limit (omega (arith, same)))
        ∙ sym (ap (λ b. if b then sectors_planned arrays k else 0) (lt-ltb k (limit + 1) (omega (arith, same))) ∙ ap (sectors_planned arrays) same ∙ none)
    of k (inr other) = sym (ap (λ b. if b then sectors_planned arrays k else 0) (next_below k limit other))

    begin : (k : ℕ) → k < limit + 1 → 0 < sectors_of t k → (k ≡ limit) ⊎ (k ≢ limit) → first_of t k ≡ first_planned arrays k
    begin k low some (inl same) =
        let empty : sectors_of t k ≡ 0 = laid.sectors k ∙ ap (λ b. if b then sectors_planned arrays k else 0) (le-ltb k limit (omega (arith, same))) in
        absurd (omega (arith, some, empty))
    begin k low some (inr other) = laid.firsts k (ltb-true k limit (sym (next_below k limit other) ∙ lt-ltb k (limit + 1) low)) some

-- ---- what the plan has

pub log_planned : (arrays : List NewArray) (place : ℕ) → (sectors_planned arrays (17 * place) ≡ log_sectors) × (first_planned arrays (17 * place) ≡ state_sector)
log_planned arrays place =
    let log : (slice_of (17 * place) == 0) ≡ true = eq-eqb (slice_of (17 * place)) 0 (omega arith) in (
      ap (λ b. if b then log_sectors else option_map_or (λ (a : NewArray). if has a.members.items (place_of (17 * place)) then a.size + data_sector else 0) (slice_get arrays (slice_of (17 * place) - 1)) 0) log,
      ap (λ b. if b then state_sector else option_map_or (λ (a : NewArray). a.first) (slice_get arrays (slice_of (17 * place) - 1)) 0) log,
    )

-- a slice that isn't a member's
module _ (arrays : List NewArray) (place n : ℕ) (few : n < 16) where
  abbrev k : ℕ
  k = 17 * place + n + 1

  planned_at : sectors_planned arrays k ≡ option_map_or (λ (a : NewArray). if has a.members.items place then a.size + data_sector else 0) (slice_get arrays n) 0
  planned_at =
      let slice : slice_of k ≡ n + 1 = omega (arith, few) in
      let other : (slice_of k == 0) ≡ false = ne_eqb (slice_of k) 0 (λ same. omega (arith, same, slice)) in
      let index : slice_of k - 1 ≡ n = omega (arith, slice) in
      let at : place_of k ≡ place = omega (arith, few) in
      ap (λ b. if b then log_sectors else option_map_or (λ (e : NewArray). if has e.members.items (place_of k) then e.size + data_sector else 0) (slice_get arrays (slice_of k - 1)) 0) other
      ∙ ap (λ i. option_map_or (λ (e : NewArray). if has e.members.items (place_of k) then e.size + data_sector else 0) (slice_get arrays i) 0) index
      ∙ ap (λ p. option_map_or (λ (e : NewArray). if has e.members.items p then e.size + data_sector else 0) (slice_get arrays n) 0) at

  pub none_planned : slice_get arrays n ≡ None → sectors_planned arrays k ≡ 0
  none_planned none = planned_at ∙ ap (λ o. option_map_or (λ (e : NewArray). if has e.members.items place then e.size + data_sector else 0) o 0) none

  pub other_planned : (a : NewArray) → slice_get arrays n ≡ Some a → has a.members.items place ≡ false → sectors_planned arrays k ≡ 0
  other_planned a is other =
      planned_at ∙ ap (λ o. option_map_or (λ (e : NewArray). if has e.members.items place then e.size + data_sector else 0) o 0) is
      ∙ ap (λ b. if b then a.size + data_sector else 0) other

-- ---- none is refused

some_other : {x y : ℕ} → Some x ≡ Some y → x ≡ y
some_other {x} {y} same = ap (λ o. option_map_or (λ n. n) o 0) same

not_none : {x : ℕ} → Some x ≡ None → ⊥
not_none same = cc

added : (t u : Slices) (at first sectors : ℕ) (r : Result (Unit {0}) SliceFault) → (r ≡ Err Unseated → ⊥) → (r ≡ Err Outside → ⊥) → (r ≡ Err Overlap → ⊥)
    → OnOk r (Adds t u at first sectors) → Adds t u at first sectors
added t u at first sectors (Ok x) unseated outside overlap adds = adds
added t u at first sectors (Err Unseated) unseated outside overlap adds = absurd (unseated refl)
added t u at first sectors (Err Outside) unseated outside overlap adds = absurd (outside refl)
added t u at first sectors (Err Overlap) unseated outside overlap adds = absurd (overlap refl)

module _ (plan : NewPool) (x : RackView) (is : IsPlan plan) (room : HasRoom plan x) (place : ℕ) (drive : place < length plan.units.items) where
  seat_is : (arrays : List NewArray) (limit : ℕ) (t : Slices) → AreLaid arrays (place + 1) limit t → seat_of t place ≡ Some place
  seat_is arrays limit t laid = laid.seats place ∙ ap (λ b. if b then Some place else None) (lt-ltb place (place + 1) (omega arith))

  -- the log slice
  pub log_added : (t u : Slices) (r : Result (Unit {0}) SliceFault) → AreLaid plan.arrays.items (place + 1) (17 * place) t
      → (r ≡ Err Unseated → seat_of t place ≡ None) → (r ≡ Err Outside → IsPast t x place 2048 8192)
      → (r ≡ Err Overlap → IsWithin t x place 2048 8192 × Overlaps t (17 * place + 0) 2048 8192)
      → OnOk r (Adds t u (17 * place + 0) 2048 8192) → AreLaid plan.arrays.items (place + 1) (17 * place + 1) u
  log_added t u r laid unseated outside overlap adds =
      let at : 17 * place + 0 ≡ 17 * place = omega arith in
      let planned = log_planned plan.arrays.items place in
      laid_add plan.arrays.items (place + 1) (17 * place) 2048 8192 t u laid
      (subst (λ n. Adds t u n 2048 8192) at
      (added t u (17 * place + 0) 2048 8192 r
      (λ same. not_none (sym (seat_is plan.arrays.items (17 * place) t laid) ∙ unseated same))
      (λ same. let past = outside same in
      let disk = some_other (sym (seat_is plan.arrays.items (17 * place) t laid) ∙ past.1) in
      let logs = room.logs place (let disks = room.disks in omega (arith, disks, drive)) in
      let short = subst (λ d. x.sectors d < 2048 + 8192) (sym disk) past.2 in
      omega (arith, logs, short))
      (λ same. let shares = (overlap same).1 in
      let d = shares.0 in
      let none : sectors_of t d ≡ 0 = laid.sectors d
      ∙ ap (λ b. if b then sectors_planned plan.arrays.items d else 0) (le-ltb d (17 * place) (let own = shares.1 in omega (arith, own))) in
      let within = shares.3.1.2 in
      omega (arith, none, within))
      adds))
      (sym planned.0) (sym planned.1)

  -- slices of lower numbers end before it
  before : (n : ℕ) (a : NewArray) → slice_get plan.arrays.items n ≡ Some a → (j : ℕ) → j < n → (v : ℕ) → n < 16
      → v < sectors_planned plan.arrays.items (17 * place + j + 1) → a.first ≤ first_planned plan.arrays.items (17 * place + j + 1) + v → ⊥
  before n a here j less v few within shared = of (slice_get plan.arrays.items j) refl
    where
      of : (o : Option NewArray) → slice_get plan.arrays.items j ≡ o → ⊥
      of None none = let empty = none_planned plan.arrays.items place j (omega (arith, less, few)) none in omega (arith, empty, within)
      of (Some b) at = elim (cases_Bool (has b.members.items place)) [
        | inr other ↦ let empty = other_planned plan.arrays.items place j (omega (arith, less, few)) b at other in omega (arith, empty, within)
        | inl among ↦
            let planned = member_slice_is plan is j place b at among in
            let size = planned.0 in
            let first = planned.1 in
            let order = is.ordered j n b a less at here in
            omega (arith, size, first, order, within, shared)
      ]

  apart : (n : ℕ) (a : NewArray) → slice_get plan.arrays.items n ≡ Some a → (t : Slices) → AreLaid plan.arrays.items (place + 1) (17 * place + n + 1) t
      → (d : ℕ) → place_of d ≡ place_of (17 * place + (n + 1)) → (s v : ℕ) → v < sectors_of t d → a.first + s ≡ first_of t d + v → ⊥
  apart n a here t laid d own s v within shared =
      let number = slice_get_within plan.arrays.items n a here in
      let few = is.few in
      elim (cases_lt d (17 * place + n + 1)) [
        | inr past ↦
            let none : sectors_of t d ≡ 0 = laid.sectors d ∙ ap (λ b. if b then sectors_planned plan.arrays.items d else 0) (le-ltb d (17 * place + n + 1) past) in
            omega (arith, none, within)
        | inl low ↦
            let first : first_of t d ≡ first_planned plan.arrays.items d = laid.firsts d low (omega (arith, within)) in
            let size : sectors_of t d ≡ sectors_planned plan.arrays.items d =
            laid.sectors d ∙ ap (λ b. if b then sectors_planned plan.arrays.items d else 0) (lt-ltb d (17 * place + n + 1) low) in
            elim (cases_lt (17 * place) d) [
              | inr log ↦
                  let same : d ≡ 17 * place = omega (arith, log, own, number, few) in
                  let planned = log_planned plan.arrays.items place in
                  let begins : first_planned plan.arrays.items d ≡ state_sector = ap (first_planned plan.arrays.items) same ∙ planned.1 in
                  let ends : sectors_planned plan.arrays.items d ≡ log_sectors = ap (sectors_planned plan.arrays.items) same ∙ planned.0 in
                  let after = (is.each n a here).first in
                  omega (arith, first, size, begins, ends, after, within, shared)
              | inl member ↦
                  let j : ℕ = d - 17 * place - 1 in
                  let same : d ≡ 17 * place + j + 1 = omega (arith, member) in
                  before n a here j (omega (arith, low, member)) v (omega (arith, number, few))
                  (subst (λ k. v < sectors_planned plan.arrays.items k) same (subst (λ m. v < m) size within))
                  (subst (λ k. a.first ≤ first_planned plan.arrays.items k + v) same (omega (arith, first, shared)))
            ]
      ]

  -- a member's slice
  pub member_added : (n : ℕ) (a : NewArray) → slice_get plan.arrays.items n ≡ Some a → has a.members.items place ≡ true
      → (t u : Slices) (r : Result (Unit {0}) SliceFault) → AreLaid plan.arrays.items (place + 1) (17 * place + n + 1) t
      → (r ≡ Err Unseated → seat_of t place ≡ None) → (r ≡ Err Outside → IsPast t x place a.first (a.size + 2048))
      → (r ≡ Err Overlap → IsWithin t x place a.first (a.size + 2048) × Overlaps t (17 * place + (n + 1)) a.first (a.size + 2048))
      → OnOk r (Adds t u (17 * place + (n + 1)) a.first (a.size + 2048)) → AreLaid plan.arrays.items (place + 1) (17 * place + n + 2) u
  member_added n a here among t u r laid unseated outside overlap adds =
      let limit : ℕ = 17 * place + n + 1 in
      let at : 17 * place + (n + 1) ≡ limit = omega arith in
      let next : limit + 1 ≡ 17 * place + n + 2 = omega arith in
      let planned = member_slice_is plan is n place a here among in
      subst (λ k. AreLaid plan.arrays.items (place + 1) k u) next
      (laid_add plan.arrays.items (place + 1) limit a.first (a.size + 2048) t u laid
      (subst (λ k. Adds t u k a.first (a.size + 2048)) at
      (added t u (17 * place + (n + 1)) a.first (a.size + 2048) r
      (λ same. not_none (sym (seat_is plan.arrays.items limit t laid) ∙ unseated same))
      (λ same. let past = outside same in
      let disk = some_other (sym (seat_is plan.arrays.items limit t laid) ∙ past.1) in
      let fits = (member_inside plan x is room n place a here among).fits in
      let short = subst (λ d. x.sectors d < a.first + (a.size + 2048)) (sym disk) past.2 in
      omega (arith, fits, short))
      (λ same. let shares = (overlap same).1 in
      apart n a here t laid shares.0 shares.1 shares.3.0 shares.3.1.0 shares.3.1.2 shares.3.1.3)
      adds))
      (sym planned.0) (sym planned.1))
