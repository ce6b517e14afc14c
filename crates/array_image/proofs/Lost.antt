-- A stripe that agrees gives the same at each position, whichever one of its members is lost.
use Rattle.std.proofs.Common.{◌≡◌, ◌⊎◌, ℕ, zero, suc, ◌<◌, List, [], ◌∷◌, ◌++◌, map, length, Some, None, refl, sym, ap, ◌∙◌, inl, inr, arith}
use Rattle.std.specs.Option.{option_map_or}
use Rattle.parity.specs.Xor.{xor_all, HasLength}
use Rattle.parity.proofs.Laws.{parity_restores}
use Rattle.array_image.specs.Stripes.{mirror, parity, Stripe, there, at_position, without, first_there, given, AreAll, AgreeIn}

-- all sectors there, and one of them not
abbrev pub whole : List (List ℕ) → List ℕ → List (List ℕ) → Stripe
whole before v after = map Some before ++ Some v ∷ map Some after

abbrev pub lacking : List (List ℕ) → List (List ℕ) → Stripe
lacking before after = map Some before ++ None ∷ map Some after

pub there_all : (vs : List (List ℕ)) → there (map Some vs) ≡ vs
unfolding there
there_all [] = refl
there_all (v ∷ vs) = ap (λ ws. v ∷ ws) (there_all vs)

there_lacking : (before after : List (List ℕ)) → there (lacking before after) ≡ before ++ after
unfolding there
there_lacking [] after = there_all after
there_lacking (v ∷ before) after = ap (λ ws. v ∷ ws) (there_lacking before after)

pub there_whole : (before : List (List ℕ)) (v : List ℕ) (after : List (List ℕ)) → there (whole before v after) ≡ before ++ v ∷ after
unfolding there
there_whole [] v after = ap (λ ws. v ∷ ws) (there_all after)
there_whole (w ∷ before) v after = ap (λ ws. w ∷ ws) (there_whole before v after)

-- what the others are, seen from the lost one
others_lost : (before after : List (List ℕ)) → there (without (length before) (lacking before after)) ≡ before ++ after
unfolding there
others_lost [] after = there_all after
others_lost (v ∷ before) after = ap (λ ws. v ∷ ws) (others_lost before after)

-- a sector that is there
there_at : (n : ℕ) (vs : List (List ℕ)) → n < length vs → (w : List ℕ) × (at_position n (map Some vs) ≡ Some w)
unfolding at_position
there_at n [] inside = absurd (omega arith)
there_at zero (v ∷ vs) inside = (v, refl)
there_at (suc n) (v ∷ vs) inside = there_at n vs (omega (arith, inside))

-- a position is that of the lost one, or the same sector stands there as before
data IsWhere (before : List (List ℕ)) (v : List ℕ) (after : List (List ℕ)) (position : ℕ) : Type 0 where
  here :
      position ≡ length before
      → at_position position (whole before v after) ≡ Some v
      → at_position position (lacking before after) ≡ None
      → IsWhere before v after position
  elsewhere :
      (w : List ℕ)
      → at_position position (whole before v after) ≡ Some w
      → at_position position (lacking before after) ≡ Some w
      → IsWhere before v after position

where_is : (before : List (List ℕ)) (v : List ℕ) (after : List (List ℕ)) (position : ℕ)
    → position < length (before ++ v ∷ after)
    → IsWhere before v after position
unfolding at_position
where_is [] v after zero inside = here refl refl refl
where_is [] v after (suc n) inside =
    let at = there_at n after (omega (arith, inside)) in
    elsewhere at.0 at.1 at.1
where_is (w ∷ before) v after zero inside = elsewhere w refl refl
where_is (w ∷ before) v after (suc n) inside =
    elim (where_is before v after n (omega (arith, inside))) [
      | here same was gone ↦ here (ap suc same) was gone
      | elsewhere u was is ↦ elsewhere u was is
    ]

-- RAID-5: the XOR of the others is the lost sector
pub lost_sector : (before : List (List ℕ)) (v : List ℕ) (after : List (List ℕ))
    → HasLength 512 (before ++ after)
    → length v ≡ 512
    → AgreeIn (parity (length (before ++ v ∷ after))) (before ++ v ∷ after)
    → xor_all 512 (before ++ after) ≡ v
lost_sector before v after sized wide agree = sym (parity_restores.one_of_others 512 before v after sized wide agree)

-- RAID-5: each position gives what it gave with the lost sector
pub lost_parity : (before : List (List ℕ)) (v : List ℕ) (after : List (List ℕ)) (n position : ℕ)
    → HasLength 512 (before ++ after)
    → length v ≡ 512
    → AgreeIn (parity n) (before ++ v ∷ after)
    → position < length (before ++ v ∷ after)
    → given (parity n) (lacking before after) position ≡ given (parity n) (whole before v after) position
unfolding given
lost_parity before v after n position sized wide agree inside =
    elim (where_is before v after position inside) [
      | here same was gone ↦
          ap (λ o. option_map_or (λ w. w) o (xor_all 512 (there (without position (lacking before after))))) gone
          ∙ ap (λ p. xor_all 512 (there (without p (lacking before after)))) same
          ∙ ap (xor_all 512) (others_lost before after)
          ∙ lost_sector before v after sized wide agree
          ∙ sym (ap (λ o. option_map_or (λ w. w) o (xor_all 512 (there (without position (whole before v after))))) was)
      | elsewhere w was is ↦
          ap (λ o. option_map_or (λ u. u) o (xor_all 512 (there (without position (lacking before after))))) is
          ∙ sym (ap (λ o. option_map_or (λ u. u) o (xor_all 512 (there (without position (whole before v after))))) was)
    ]

first_of_same : (v : List ℕ) (vs ws : List (List ℕ)) (w : List ℕ) → AreAll v (vs ++ w ∷ ws) → first_there (vs ++ ws) ≡ first_there (vs ++ w ∷ ws) ⊎ (vs ++ ws ≡ [])
first_of_same v [] [] w agree = inr refl
first_of_same v [] (u ∷ ws) w agree = inl (agree.1.0 ∙ sym agree.0)
first_of_same v (u ∷ vs) ws w agree = inl refl

-- a mirror: the lowest copy that is left is the lost one
pub lost_mirror : (before : List (List ℕ)) (v : List ℕ) (after : List (List ℕ)) (n position : ℕ)
    → AgreeIn (mirror n) (before ++ v ∷ after)
    → ((before ++ after ≡ []) → ⊥)
    → given (mirror n) (lacking before after) position ≡ given (mirror n) (whole before v after) position
unfolding given
lost_mirror before v after n position agree left =
    ap first_there (there_lacking before after)
    ∙ elim (first_of_same (first_there (before ++ v ∷ after)) before after v agree) [
      | inl same ↦ same
      | inr none ↦ absurd (left none)
    ]
    ∙ sym (ap first_there (there_whole before v after))
