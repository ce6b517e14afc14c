-- A work that is done where no drive is lost: its array has one row less to do, and no other has changed.
use Rattle.std.specs.List.{enumerate_from, range_with_len}
use Rattle.std.proofs.Common.{◌≡◌, ℕ, ℤ, zero, suc, ◌+◌, ◌-◌, ◌<◌, ◌≤◌, ◌==◌, false, if◌then◌else◌, List, [], ◌∷◌, map, refl, sym, ap, ap₂, ◌∙◌, inl, inr, arith, eq-eqb}
use Rattle.std.proofs.lemmas.Bool.{both_ways, eqb-true, cases_Bool}
use Rattle.arrayvec.specs.ArrayVec.{ArrayVec}
use Rattle.shr_base.specs.declared.Id.{Id}
use Rattle.array_model.specs.declared.Seat.{Seat}
use Rattle.array_model.specs.View.{View, rows_of}
use Rattle.sync_laws.specs.Steps.{resynced}
use Rattle.growth_plan.specs.declared.ArrayNow.{ArrayNow}
use Rattle.growth_plan.specs.Doing.{change, rows_resynced}
use Rattle.raid_laws.specs.Moves.{OnlyFailures}
use Rattle.raid_rack.specs.RaidRack.{no_super}
use Rattle.pool.specs.Works.{array_now, rows_to_zero}

-- ---- one array

-- an array that isn't young, by what its standing goes by
stands : ℕ → ℤ → ArrayVec ℕ → ℕ → ℕ → ℕ → ℕ → List Seat → List Id → ℕ → ArrayNow
stands extent level roles size disks features position seats devices resync = array_now extent (record {
  number = 0;
  truth = record no_super { level = level; roles = roles; size = size; raid_disks = disks; feature_map = features; reshape_position = position };
  seats = seats;
  devices = devices;
  went = [];
  resync = resync;
  young = false;
  marked = false;
})

-- no row of it is left to zero
none_to_zero : (v : View) → v.young ≡ false → rows_to_zero v ≡ 0
none_to_zero v grown = rw grown refl

abbrev grown_now : ℕ → View → ArrayNow
grown_now extent v = record (array_now extent v) { zero = 0 }

is_grown : (extent : ℕ) (v : View) → v.young ≡ false → array_now extent v ≡ grown_now extent v
is_grown extent v grown = ap (λ (n : ℕ). record (array_now extent v) { zero = n }) (none_to_zero v grown)

stands_as : (extent : ℕ) (v : View)
    → grown_now extent v ≡ stands extent v.truth.level v.truth.roles v.truth.size v.truth.raid_disks v.truth.feature_map v.truth.reshape_position v.seats v.devices v.resync
unfolding stands
stands_as extent v = refl

alike : (f : ℤ → ArrayVec ℕ → ℕ → ℕ → ℕ → ℕ → List Seat → List Id → ℕ → ArrayNow) {l1 l2 : ℤ} {r1 r2 : ArrayVec ℕ} {s1 s2 d1 d2 f1 f2 p1 p2 : ℕ}
    {t1 t2 : List Seat} {e1 e2 : List Id} {n1 n2 : ℕ} → l1 ≡ l2 → r1 ≡ r2 → s1 ≡ s2 → d1 ≡ d2 → f1 ≡ f2 → p1 ≡ p2 → t1 ≡ t2 → e1 ≡ e2 → n1 ≡ n2
    → f l1 r1 s1 d1 f1 p1 t1 e1 n1 ≡ f l2 r2 s2 d2 f2 p2 t2 e2 n2
alike f l r s d m p t e n = cc

-- an array that isn't young stands as it did where it has lost no member
pub now_same : (extent : ℕ) (u w : View) → OnlyFailures u w → w.seats ≡ u.seats → u.young ≡ false → array_now extent w ≡ array_now extent u
now_same extent u w only seats grown =
    let g = only.same.geometry in
    is_grown extent w (only.same.young ∙ grown) ∙ stands_as extent w
    ∙ alike (stands extent) g.level g.roles g.size g.disks g.features g.position seats only.same.devices only.same.resync
    ∙ sym (is_grown extent u grown ∙ stands_as extent u)

-- and once its next rows are resynced it has so many rows less
pub now_resynced : (extent rows : ℕ) (v : View) → v.young ≡ false
    → array_now extent (resynced v rows) ≡ rows_resynced rows (array_now extent v)
now_resynced extent rows v grown =
    let less : rows_of v - (v.resync + rows) ≡ rows_of v - v.resync - rows = omega arith in
    ap₂ (λ (r z : ℕ). record (array_now extent v) { resync = r; zero = z }) less (none_to_zero (resynced v rows) grown ∙ sym (none_to_zero v grown))

-- ---- all arrays

-- what is made of the numbers from one on
changed_range : {X : Type 0} (f : ℕ → X) (to : X → X) (m a n : ℕ)
    → map (λ (x : ℕ × X). if x.0 == m then to x.1 else x.1) (enumerate_from a (map f (range_with_len a n)))
    ≡ map (λ k. if k == m then to (f k) else f k) (range_with_len a n)
changed_range f to m a zero = refl
changed_range {X} f to m a (suc n) = ap (λ (xs : List X). (if a == m then to (f a) else f a) ∷ xs) (changed_range f to m (a + 1) n)

same_range : {X : Type 0} (f g : ℕ → X) (a n : ℕ) → ((k : ℕ) → a ≤ k → k < a + n → f k ≡ g k) → map f (range_with_len a n) ≡ map g (range_with_len a n)
same_range f g a zero each = refl
same_range {X} f g a (suc n) each =
    ap₂ (λ (x : X) (xs : List X). x ∷ xs) (each a (omega arith) (omega arith)) (same_range f g (a + 1) n (λ k low high. each k (omega arith) (omega arith)))

-- one array is changed
pub one_changed : (f g : ℕ → ArrayNow) (to : ArrayNow → ArrayNow) (m n : ℕ) → ((k : ℕ) → k < n → k ≡ m → g k ≡ to (f k))
    → ((k : ℕ) → k < n → (k ≡ m → ⊥) → g k ≡ f k) → map g (range_with_len 0 n) ≡ change m to (map f (range_with_len 0 n))
one_changed f g to m n here other =
    same_range g (λ k. if k == m then to (f k) else f k) 0 n
    (λ k low high.
    let inside : k < n = omega arith in
    elim (cases_Bool (k == m)) [
      | inl is ↦ here k inside (eqb-true k m is) ∙ sym (ap (λ b. if b then to (f k) else f k) is)
      | inr not ↦ other k inside (λ same. absurd (both_ways (k == m) not (eq-eqb k m same))) ∙ sym (ap (λ b. if b then to (f k) else f k) not)
    ])
    ∙ sym (changed_range f to m 0 n)

-- none is
pub none_changed : (f g : ℕ → ArrayNow) (n : ℕ) → ((k : ℕ) → k < n → g k ≡ f k) → map g (range_with_len 0 n) ≡ map f (range_with_len 0 n)
none_changed f g n each = same_range g f 0 n (λ k low high. each k (omega arith))
