-- Targets and their payloads.
use Rattle.std.proofs.Common.{◌≡◌, ℕ, Bool, true, false, if◌then◌else◌, List, [], ◌∷◌, Option, Some, None, refl, sym, ap, ◌∙◌, inl, inr}
use Rattle.std.proofs.lemmas.Bool.{both_ways}
use Rattle.std.specs.Option.{option_map_or, option_or}
use Rattle.rack.specs.Seen.{Image}
use Rattle.rack.specs.Targets.{Target, is_at, look}
use Rattle.rack.specs.Sequences.{IsPayload}

-- the last payload is one
pub look_payload : (xs : List Target) (d t : ℕ) (u : List ℕ) → look xs d t ≡ Some u → IsPayload xs d t u
unfolding look
look_payload [] d t u is = absurd (cc)
look_payload (x ∷ others) d t u is =
    let Goal : Option (List ℕ) → Bool → Type 0 = λ o b. look others d t ≡ o → is_at d t x ≡ b → option_or o (if b then Some x.bytes else None) ≡ Some u → IsPayload (x ∷ others) d t u in
    let goal : Goal (look others d t) (is_at d t x) =
    elim (look others d t) as (λ o. Goal o (is_at d t x)) [
      | Some w ↦ λ at here now. let same : w ≡ u = cc in inr (look_payload others d t u (at ∙ now))
      | None ↦ elim (is_at d t x) as (λ b. Goal None b) [
        | true ↦ λ at here now. let same : u ≡ x.bytes = cc in inl (here, same)
        | false ↦ λ at here now. absurd (cc)
      ]
    ] in
    goal refl refl is

-- a payload has a last one
pub payload_look : (xs : List Target) (d t : ℕ) (u : List ℕ) → look xs d t ≡ None → IsPayload xs d t u → ⊥
unfolding look
payload_look [] d t u none is = absurd is
payload_look (x ∷ others) d t u none is =
    let Goal : Option (List ℕ) → Bool → Type 0 = λ o b. look others d t ≡ o → is_at d t x ≡ b → option_or o (if b then Some x.bytes else None) ≡ None → ⊥ in
    let goal : Goal (look others d t) (is_at d t x) =
    elim (look others d t) as (λ o. Goal o (is_at d t x)) [
      | Some w ↦ λ at here now. absurd (cc)
      | None ↦ elim (is_at d t x) as (λ b. Goal None b) [
        | true ↦ λ at here now. absurd (cc)
        | false ↦ λ at here now.
            elim is [ inl first ↦ both_ways (is_at d t x) here first.0 | inr later ↦ payload_look others d t u at later ]
      ]
    ] in
    goal refl refl none

pub no_target : (xs : List Target) (d t : ℕ) → ((u : List ℕ) → IsPayload xs d t u → ⊥) → look xs d t ≡ None
no_target xs d t none =
    let Goal : Option (List ℕ) → Type 0 = λ o. look xs d t ≡ o → o ≡ None in
    let goal : Goal (look xs d t) = elim (look xs d t) as Goal [ None ↦ λ is. refl | Some u ↦ λ is. absurd (none u (look_payload xs d t u is)) ] in
    goal refl

-- contents without the targets that were written
abbrev pub unwritten : List Target → Image → Image → Image
unwritten xs before c d t = option_map_or (λ u. before d t) (look xs d t) (c d t)

pub unwritten_same : (xs : List Target) (before c : Image) (d t : ℕ) → look xs d t ≡ None → c d t ≡ unwritten xs before c d t
unwritten_same xs before c d t none = sym (ap (λ (o : Option (List ℕ)). option_map_or (λ u. before d t) o (c d t)) none)
