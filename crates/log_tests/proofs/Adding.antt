-- Targets that a commit may have, one after the other.
use Rattle.std.proofs.Common.{◌≡◌, ℕ, ◌&&◌, true, List, [], ◌∷◌, ◌++◌, Option, Some, None, refl, sym, subst, ap₂, ◌∙◌, inl, inr}
use Rattle.std.specs.List.{list_all}
use Rattle.std.specs.Option.{option_or}
use Rattle.std.proofs.lemmas.List.Folds.{list_all-append}
use Rattle.rack.specs.Seen.{RackView}
use Rattle.rack.specs.Sequences.{IsPayload}
use Rattle.rack.specs.Targets.{Target, is_at, look}
use Rattle.array_image.specs.Record.{is_target}
use Rattle.log_laws.specs.Phases.{IsHad}
use Rattle.array_model.proofs.Looking.{payload_look}
use Rattle.array_model.proofs.Parts.{at_is}
use Rattle.array_core.proofs.RowLists.{apart_if}
use Rattle.log_tests.specs.Ready.{CanCommit}

-- none may be committed
pub none_added : (a : RackView) → CanCommit [] a
none_added a = record { valid = refl; apart = refl; had = λ d s v is. absurd is }

-- what is looked for in two lists and isn't there isn't in the first one
pub none_first : (o p : Option (List ℕ)) → option_or o p ≡ None → o ≡ None
none_first None p none = refl
none_first (Some v) p none = absurd (cc)

-- a payload of targets with one more
payload_more : (xs : List Target) (t : Target) (d s : ℕ) (v : List ℕ) (P : Type 0) → IsPayload (xs ++ t ∷ []) d s v → (IsPayload xs d s v → P) → (is_at d s t ≡ true → P) → P
payload_more [] t d s v P (inl is) old new = new is.0
payload_more [] t d s v P (inr is) old new = absurd is
payload_more (x ∷ xs) t d s v P (inl is) old new = old (inl is)
payload_more (x ∷ xs) t d s v P (inr is) old new = payload_more xs t d s v P is (λ was. old (inr was)) new

-- one more may be, apart from the others
pub one_more : (xs : List Target) (t : Target) (a : RackView) → CanCommit xs a → is_target t ≡ true → look xs t.disk t.sector ≡ None → IsHad a t.disk t.sector → CanCommit (xs ++ t ∷ []) a
one_more xs t a ready valid none had = record {
  valid = list_all-append is_target xs (t ∷ []) ∙ ap₂ (λ b c. b && (c && true)) ready.valid valid;
  apart = apart_if xs true t ready.apart (λ u is. payload_look xs t.disk t.sector u none is);
  had = λ d s v is.
      payload_more xs t d s v (IsHad a d s) is (ready.had d s v)
      (λ at.
      let same = at_is d s t at in
      subst (λ e. IsHad a e s) (sym same.0) (subst (λ u. IsHad a t.disk u) (sym same.1) had));
}
