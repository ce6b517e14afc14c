-- A place that is current by the next state stays there or joins.
use Rattle.std.proofs.Common.{◌≡◌, ◌⊎◌, ℕ, ◌&&◌, ◌||◌, not, Bool, true, false, List, Option, None, Some, refl, sym, ap, ap₂, ◌∙◌, inl, inr, bytes_eq}
use Rattle.std.proofs.lemmas.Bool.{and_from, and_parts, both_ways, cases_Bool}
use Rattle.std.proofs.lemmas.Slice.Eq.{bytes_eq-Decides}
use Rattle.pool_state.specs.declared.contents.State.{State}
use Rattle.array_image.specs.States.{is_current, id_of}
use Rattle.log_laws.specs.Saying.{PlaceJoins, PlaceStays}

-- whether two ids are one
pub are_same : Option (List ℕ) → Option (List ℕ) → Bool
are_same None None = true
are_same None (Some b) = false
are_same (Some a) None = false
are_same (Some a) (Some b) = bytes_eq a b

same_are : (x y : Option (List ℕ)) → are_same x y ≡ true → x ≡ y
unfolding are_same
same_are None None is = refl
same_are None (Some b) is = absurd (both_ways false refl is)
same_are (Some a) None is = absurd (both_ways false refl is)
same_are (Some a) (Some b) is = ap Some ((bytes_eq-Decides a b).0 is)

are_one : (x : Option (List ℕ)) → are_same x x ≡ true
unfolding are_same
are_one None = refl
are_one (Some a) = (bytes_eq-Decides a a).1 refl

-- whether a place stays
abbrev pub does_stay : State → State → ℕ → Bool
does_stay s t p = is_current s p && (is_current t p && are_same (id_of t p) (id_of s p))

pub stays_is : (s t : State) (p : ℕ) → does_stay s t p ≡ true → PlaceStays s t p
stays_is s t p is =
    let first = and_parts (is_current s p) (is_current t p && are_same (id_of t p) (id_of s p)) is in
    let second = and_parts (is_current t p) (are_same (id_of t p) (id_of s p)) first.1 in
    record { was = first.0; now = second.0; drive = same_are (id_of t p) (id_of s p) second.1 }

pub is_stays : (s t : State) (p : ℕ) → PlaceStays s t p → does_stay s t p ≡ true
is_stays s t p stays =
    and_from (is_current s p) (is_current t p && are_same (id_of t p) (id_of s p)) stays.was
    (and_from (is_current t p) (are_same (id_of t p) (id_of s p)) stays.now
    (ap (are_same (id_of t p)) (sym stays.drive) ∙ are_one (id_of t p)))

pub stays_or_joins : (s t : State) (p : ℕ) → is_current t p ≡ true → PlaceStays s t p ⊎ PlaceJoins s t p
stays_or_joins s t p now = elim (cases_Bool (is_current s p)) [
  | inr former ↦ inr (record { now = now; new = inl former })
  | inl was ↦ elim (cases_Bool (are_same (id_of t p) (id_of s p))) [
    | inl one ↦ inl (record { was = was; now = now; drive = same_are (id_of t p) (id_of s p) one })
    | inr two ↦ inr (record {
      now = now;
      new = inr (λ same. both_ways (are_same (id_of t p) (id_of s p)) two (ap (are_same (id_of t p)) (sym same) ∙ are_one (id_of t p)));
    })
  ]
]

pub stays_apart : (s t : State) (p : ℕ) → PlaceStays s t p → PlaceJoins s t p → ⊥
stays_apart s t p stays joins = elim joins.new [
  | inl former ↦ both_ways (is_current s p) former stays.was
  | inr other ↦ other stays.drive
]

-- where the state is the same each current place stays
pub stays_same : (s t : State) (p : ℕ) → t ≡ s → is_current s p ≡ true → PlaceStays s t p
stays_same s t p same was = record { was = was; now = ap (λ (z : State). is_current z p) same ∙ was; drive = ap (λ (z : State). id_of z p) same }

pub joins_none : (s t : State) (p : ℕ) → t ≡ s → PlaceJoins s t p → ⊥
joins_none s t p same joins = stays_apart s t p (stays_same s t p same (ap (λ (z : State). is_current z p) (sym same) ∙ joins.now)) joins

-- whether a place doesn't join
abbrev pub joins_not : State → State → ℕ → Bool
joins_not s t p = not (is_current t p) || does_stay s t p

pub not_joins : (s t : State) (p : ℕ) → joins_not s t p ≡ true → PlaceJoins s t p → ⊥
not_joins s t p is joins = elim (cases_Bool (does_stay s t p)) [
  | inl stays ↦ stays_apart s t p (stays_is s t p stays) joins
  | inr leaves ↦ both_ways (joins_not s t p) (ap₂ (λ (a b : Bool). not a || b) joins.now leaves) is
]

pub stays_not : (s t : State) (p : ℕ) → PlaceStays s t p → joins_not s t p ≡ true
stays_not s t p stays = ap₂ (λ (a b : Bool). not a || b) stays.now (is_stays s t p stays)

pub does_join : (s t : State) (p : ℕ) → joins_not s t p ≡ false → PlaceJoins s t p
does_join s t p out = elim (cases_Bool (is_current t p)) [
  | inr none ↦ absurd (both_ways (joins_not s t p) out (ap (λ (a : Bool). not a || does_stay s t p) none))
  | inl now ↦ elim (stays_or_joins s t p now) [
    | inl stays ↦ absurd (both_ways (joins_not s t p) out (stays_not s t p stays))
    | inr joins ↦ joins
  ]
]
