-- The tests of the code for sectors that can't be had any more.
use Rattle.std.proofs.Common.{◌≡◌, ℕ, zero, suc, ◌+◌, ◌<◌, ◌≤◌, Bool, true, false, ◌==◌, ◌&&◌, ◌||◌, not, nat_lt, if◌then◌else◌, List, [], ◌∷◌, map, length, get_or, slice_get, refl, sym, ap, ap₂, ◌∙◌, inl, inr, eqb-true, lt-ltb, le-ltb, arith}
use Rattle.std.proofs.lemmas.Bool.{cases_Bool, both_ways, and_parts, and_from}
use Rattle.std.proofs.lemmas.List.{get_or_past}
use Rattle.std.specs.List.{list_any, range_with_len}
use Rattle.std.specs.Option.{option_map_or}
use Rattle.array_image.specs.States.{is_current, current_places}
use Rattle.array_image.specs.Spent.{wanting, spent_with}
use Rattle.array_image.specs.Stripes.{sector_in}
use Rattle.array_image.specs.Arrays.{layout_at}
use Rattle.log_laws.specs.View.{names}
use Rattle.array_model.specs.declared.Seat.{Seat}
use Rattle.array_model.specs.declared.Seat.TheVariants.{Whole, Missing, Rebuilding}
use Rattle.array_model.specs.View.{View, IsArray, member_on, present, seat_reach, shape_of, spent_in}
use Rattle.raid_rack.specs.declared.arrays.Arrays.{Arrays}
use Rattle.raid_laws.specs.Raid.{Raid, gone_in, is_empty, is_left, is_used_up, is_failed, spent_of, last_number}
use Rattle.raid_laws.specs.Moves.{IsHeeded}
use Rattle.raid_rack.specs.RaidRack.{raid_by, no_array}
use Rattle.raid_laws.proofs.Added.{names_current}
use Rattle.raid_rack.proofs.Mended.{first_named}
use Rattle.raid_laws.proofs.Noted.{bool_same, current_few}
use Rattle.raid_laws.proofs.Over.{not_true}
use Rattle.raid_laws.proofs.Ranges.{any_some, any_from}
use Rattle.raid_rack.proofs.Rounds.{no_length, some_length}
use Rattle.raid_rack.proofs.Turned.{any_index, index_any}
use Rattle.raid_laws.proofs.Whole.{heeded_gone}

-- a test over a list, as one over its numbers
any_numbers : {X : Type 0} (f : X → Bool) (xs : List X) (d : X) (k : ℕ) → length xs ≡ k
    → list_any f xs ≡ list_any (λ n. f (get_or xs n d)) (range_with_len 0 k)
any_numbers f xs d k count =
    bool_same (list_any f xs) (list_any (λ n. f (get_or xs n d)) (range_with_len 0 k))
    (λ is. let at = any_index f xs d is in let low = at.1 in any_from (λ n. f (get_or xs n d)) 0 k at.0 (omega arith) (omega (arith, low, count)) at.2)
    (λ is. let at = any_some (λ n. f (get_or xs n d)) 0 k is in let low = at.2 in index_any f xs d at.0 (omega (arith, low, count)) at.3)

-- numbers that are used up
pub used_up_by : (a : Arrays) → length a.all.items ≡ a.state.made
    → (nat_lt last_number a.log.number || (nat_lt last_number a.state.epoch || list_any (λ (v : View). nat_lt last_number v.truth.events) a.all.items)) ≡ is_used_up (raid_by a)
used_up_by a count =
    ap (λ b. nat_lt last_number a.log.number || (nat_lt last_number a.state.epoch || b))
    (any_numbers (λ (v : View). nat_lt last_number v.truth.events) a.all.items no_array a.state.made count)

-- no place is current where none is left
pub empty_by : (v : Raid) → length v.state.drives.items ≤ 16 → IsHeeded v → (length (current_places v.state) == 0) ≡ is_empty v
empty_by v few heeded =
    bool_same (length (current_places v.state) == 0) (is_empty v)
    (λ is. elim (cases_Bool (list_any (is_left v) (range_with_len 0 16))) [
      | inl some ↦
          let at = any_some (is_left v) 0 16 some in
          let current = (and_parts (is_current v.state at.0) (not (gone_in v at.0)) at.3).0 in
          absurd (both_ways (names (current_places v.state) at.0) (ap (λ ps. names ps at.0) (no_length (current_places v.state) is)) (names_current v.state at.0 ∙ current))
      | inr none ↦ ap not none
    ])
    (λ is. elim (cases_Bool (length (current_places v.state) == 0)) [
      | inl none ↦ none
      | inr some ↦
          let at = first_named (current_places v.state) (some_length (current_places v.state) some) in
          let current : is_current v.state at.0 ≡ true = sym (names_current v.state at.0) ∙ at.1 in
          let low = current_few v.state at.0 few current in
          absurd (both_ways (list_any (is_left v) (range_with_len 0 16)) (not_true (list_any (is_left v) (range_with_len 0 16)) is)
          (any_from (is_left v) 0 16 at.0 (omega arith) (omega (arith, low)) (and_from (is_current v.state at.0) (not (gone_in v at.0)) current (ap not (heeded_gone v heeded at.0)))))
    ])

-- ---- an array of which no member is left

none_present : (seats : List Seat) (size k : ℕ) → present seats ≡ 0 → option_map_or (seat_reach size) (slice_get seats k) 0 ≡ 0
none_present [] size k none = refl
none_present (Whole ∷ seats) size k none = absurd (let bad : suc (present seats) ≡ 0 = none in omega (arith, bad))
none_present (Rebuilding to ∷ seats) size k none = absurd (let bad : suc (present seats) ≡ 0 = none in omega (arith, bad))
none_present (Missing ∷ seats) size zero none = refl
none_present (Missing ∷ seats) size (suc k) none = none_present seats size k none

pub all_wanting : (v : View) (sector a n : ℕ) → present v.seats ≡ 0 → wanting sector (map (member_on v) (range_with_len a n)) ≡ n
all_wanting v sector a zero none = refl
all_wanting v sector a (suc n) none =
    let reach : (member_on v a).reach ≡ 0 = none_present v.seats v.truth.size a none in
    let not_counted : nat_lt sector (member_on v a).reach ≡ false = ap (nat_lt sector) reach ∙ le-ltb sector 0 (omega arith) in
    ap₂ (λ (b : Bool) (m : ℕ). if b then m else suc m) not_counted (all_wanting v sector (a + 1) n none)

lost_spent : (v : View) (y : ℕ) → IsArray v → present v.seats ≡ 0 → spent_in v y ≡ true
unfolding shape_of
lost_spent v y is_array none =
    spent_two (wanting (sector_in (layout_at (shape_of v) y) y) (shape_of v).members) _ (let all = all_wanting v (sector_in (layout_at (shape_of v) y) y) 0 v.truth.raid_disks none in let two = is_array.least in omega (arith, all, two))
  where
    spent_two : (n : ℕ) (b : Bool) → 1 < n → spent_with n b ≡ true
    spent_two n b more = ap (λ c. c || (nat_lt 0 n && not b)) (lt-ltb 1 n more)

-- the code's test is the definition's
pub spent_by_code : (v : Raid) (n y : ℕ) (ended spent : Bool) → IsArray (v.arrays n) → ended ≡ (is_empty v || is_used_up v) → spent ≡ spent_in (v.arrays n) y
    → (ended || spent) ≡ spent_of v n y
spent_by_code v n y ended spent is_array ended_is spent_is =
    ap₂ (λ b c. b || c) ended_is spent_is
    ∙ of (is_empty v) (is_used_up v) (present (v.arrays n).seats == 0) (spent_in (v.arrays n) y)
    (λ none. lost_spent (v.arrays n) y is_array (eqb-true (present (v.arrays n).seats) 0 none))
  where
    of : (e u p s : Bool) → (p ≡ true → s ≡ true) → ((e || u) || s) ≡ ((e || (u || p)) || s)
    of true u p s all = refl
    of false true p s all = refl
    of false false true s all = all refl
    of false false false s all = refl

-- past the arrays that are made there is none
pub none_past : (a : Arrays) (n : ℕ) → length a.all.items ≡ a.state.made → a.state.made ≤ n → is_failed (raid_by a) n ≡ true
none_past a n count past =
    ap (λ (u : View). is_empty (raid_by a) || (is_used_up (raid_by a) || (present u.seats == 0))) (get_or_past a.all.items n no_array (omega (arith, count, past)))
    ∙ ap (λ b. is_empty (raid_by a) || b) (or_true (is_used_up (raid_by a))) ∙ or_true (is_empty (raid_by a))
  where
    or_true : (b : Bool) → (b || true) ≡ true
    or_true true = refl
    or_true false = refl
