-- Copies of a state that are added one after the other.
use Rattle.std.proofs.Common.{ℕ, ◌+◌, ◌<◌, take, get_or, List, [], ◌∷◌, ◌++◌, length, sym, ap, subst, ◌∙◌, append_assoc, append-nil}
use Rattle.std.proofs.lemmas.List.{take_more}
use Rattle.rack.specs.Targets.{Target}
use Rattle.pool_state.specs.declared.contents.State.{State}
use Rattle.raid_laws.specs.Losses.{AreCopiesOn, AddsCopies}

module _ (s : State) where
  copies_joined : (places others : List ℕ) (xs ys : List Target) → AreCopiesOn s places xs → AreCopiesOn s others ys → AreCopiesOn s (places ++ others) (xs ++ ys)
  copies_joined [] others [] ys one two = two
  copies_joined [] others (x ∷ xs) ys one two = absurd one
  copies_joined (place ∷ places) others [] ys one two = absurd one
  copies_joined (place ∷ places) others (x ∷ xs) ys one two = (one.0, copies_joined places others xs ys one.1 two)

  -- none are of no place
  pub copies_none : (a : List Target) → AddsCopies s [] a a
  copies_none a = record { targets = []; appended = sym (append-nil a); copies = tt }

  -- those of some places, and then that of one more
  pub copies_more : (places : List ℕ) (i d : ℕ) (a b c : List Target) → i < length places
      → AddsCopies s (take i places) a b → AddsCopies s (get_or places i d ∷ []) b c → AddsCopies s (take (i + 1) places) a c
  copies_more places i d a b c low one two =
      subst (λ (ps : List ℕ). AddsCopies s ps a c) (sym (take_more places i d low)) (record {
        targets = one.targets ++ two.targets;
        appended = two.appended ∙ ap (λ (xs : List Target). xs ++ two.targets) one.appended ∙ append_assoc a one.targets two.targets;
        copies = copies_joined (take i places) (get_or places i d ∷ []) one.targets two.targets one.copies two.copies;
      })
