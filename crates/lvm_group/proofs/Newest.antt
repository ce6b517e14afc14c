-- The text of the newest group that was read is kept.
use Rattle.std.proofs.Common.{◌≡◌, true, false, List, [], ◌∷◌, ◌++◌, Option, Some, None, Result, Ok, Err, refl, ap, ◌∙◌, inl, inr, arith, map}
use Rattle.std.specs.Prelude.{IfSome, nat_lt}
use Rattle.std.specs.Option.{option_map_or}
use Rattle.std.specs.Result.{result_ok}
use Rattle.std.proofs.lemmas.Bool.{cases_lt, le-ltb, lt-ltb}
use Rattle.lvm_text.specs.declared.group.Group.{Group}
use Rattle.lvm_group.specs.declared.parts.Part.{Part}
use Rattle.lvm_group.specs.Group.{ahead, highest, newer, seqno_of}
use Rattle.lvm_group.specs.Opening.{group_by}

newer_ahead : (g : Group) (r o : Option Group) → ahead g (newer r o) ≡ newer (ahead g r) o
newer_ahead g None None = refl
newer_ahead g None (Some h) = refl
newer_ahead g (Some k) None = elim (cases_lt g.seqno k.seqno) [
  | inl gk ↦ let one = lt-ltb g.seqno k.seqno gk in simp one
  | inr kg ↦ let one = le-ltb g.seqno k.seqno kg in simp one
]
newer_ahead g (Some k) (Some h) = elim (cases_lt k.seqno h.seqno) [
  | inl kh ↦ elim (cases_lt g.seqno k.seqno) [
    | inl gk ↦
        let one = lt-ltb k.seqno h.seqno kh in
        let two = lt-ltb g.seqno k.seqno gk in
        let three = lt-ltb g.seqno h.seqno (omega arith) in
        simp (one, two, three)
    | inr kg ↦ let one = lt-ltb k.seqno h.seqno kh in let two = le-ltb g.seqno k.seqno kg in simp (one, two)
  ]
  | inr hk ↦ elim (cases_lt g.seqno k.seqno) [
    | inl gk ↦ let one = le-ltb k.seqno h.seqno hk in let two = lt-ltb g.seqno k.seqno gk in simp (one, two)
    | inr kg ↦
        let one = le-ltb k.seqno h.seqno hk in
        let two = le-ltb g.seqno k.seqno kg in
        let three = le-ltb g.seqno h.seqno (omega arith) in
        simp (one, two, three)
  ]
]

highest_more : (xs : List (Option Group)) (o : Option Group) → highest (xs ++ o ∷ []) ≡ newer (highest xs) o
unfolding highest
highest_more [] None = refl
highest_more [] (Some g) = refl
highest_more (None ∷ xs) o = highest_more xs o
highest_more (Some g ∷ xs) o = ap (ahead g) (highest_more xs o) ∙ newer_ahead g (highest xs) o

mapped_more : (parts : List Part) (part : Part) → map (λ (part : Part). part.group) (parts ++ part ∷ []) ≡ map (λ (part : Part). part.group) parts ++ part.group ∷ []
mapped_more [] part = refl
mapped_more (first ∷ parts) part = ap (λ (rest : List (Option Group)). first.group ∷ rest) (mapped_more parts part)

-- the group that counts, with one part more
pub group_more : (parts : List Part) (part : Part) → group_by (parts ++ part ∷ []) ≡ newer (group_by parts) part.group
group_more parts part = ap highest (mapped_more parts part) ∙ highest_more (map (λ (part : Part). part.group) parts) part.group

pub newer_none : (o p : Option Group) → p ≡ None → newer o p ≡ o
newer_none None p none = none
newer_none (Some g) p none = ap (newer (Some g)) none

pub newer_old : (o p : Option Group) (g : Group) → p ≡ Some g → option_map_or (λ seqno. nat_lt seqno g.seqno) (seqno_of o) true ≡ false → newer o p ≡ o
newer_old None p g some old = cc
newer_old (Some k) p g some old = ap (newer (Some k)) some ∙ rw old refl

pub newer_new : (o p : Option Group) (g : Group) → p ≡ Some g → option_map_or (λ seqno. nat_lt seqno g.seqno) (seqno_of o) true ≡ true → newer o p ≡ Some g
newer_new None p g some new = some
newer_new (Some k) p g some new = ap (newer (Some k)) some ∙ rw new refl

-- a text that was parsed says its group
pub said_ok : {E : Type 0} (r : Result Group E) (o : Option Group) → o ≡ result_ok r → IfSome o (λ g. r ≡ Ok g)
said_ok (Ok g) None is = tt
said_ok (Ok g) (Some h) is = let same : g ≡ h = cc in ap Ok same
said_ok (Err e) None is = tt
said_ok (Err e) (Some h) is = cc
