-- Where the slices of an array with a truth lie.
use Rattle.std.proofs.Common.{◌≡◌, ℕ, suc, ◌+◌, ◌<◌, List, [], ◌∷◌, map, length, Option, Some, None, option_map, refl, sym, ap, ◌∙◌}
use Rattle.std.specs.Option.{option_and_then}
use Rattle.std.proofs.lemmas.Option.{none-some}
use Rattle.rack.specs.Seen.{Image}
use Rattle.shr_base.specs.Blocks.{bytes_at, number_at}
use Rattle.md_super.specs.declared.superblock.Super.{Super}
use Rattle.pool_state.specs.declared.contents.State.{State}
use Rattle.array_image.specs.Foremost.{foremost}
use Rattle.array_image.specs.Places.{member_slice, super_sector}
use Rattle.array_image.specs.States.{current_places}
use Rattle.array_image.specs.Supers.{is_super_of, only_if, super_in, super_of, truth_in}
use Rattle.array_core.proofs.Stripped.{some_same}
use Rattle.pool_image.specs.Drives.{Found, extent_from, extent_of, first_of, slices_of, truth_from}
use Rattle.pool_image.proofs.Truths.{no_truth, truth_found}

-- nothing is no superblock
pub none_there : super_of [] ≡ None
unfolding bytes_at number_at
none_there = refl

-- a sector that is none says none
pub nothing_super : (s : State) (c : Image) (n p : ℕ) → c (member_slice p n) super_sector ≡ [] → super_in s c n p ≡ None
nothing_super s c n p nothing = ap (only_if (is_super_of s.pool.0 s.extent (length s.drives.items) n p)) (ap super_of nothing ∙ none_there)

none_all : (g : ℕ → Option Super) (ps : List ℕ) → ((p : ℕ) → g p ≡ None) → foremost (λ t. t.events) (map g ps) ≡ None
unfolding foremost
none_all g [] none = refl
none_all g (p ∷ ps) none = ap (λ (o : Option Super). foremost (λ t. t.events) (o ∷ map g ps)) (none p) ∙ none_all g ps none

nothing_truth : (s : State) (n : ℕ) → truth_in s (λ k u. []) n ≡ None
unfolding truth_in
nothing_truth s n = none_all (super_in s (λ k u. []) n) (current_places s) (λ p. nothing_super s (λ k u. []) n p refl)

-- where they begin, and that the truth is the one that stands there
pub record IsLaid (f : Found) (n : ℕ) (t : Super) : Type 0 where
  pub first : ℕ
  pub begins : first_of f n ≡ Some first
  pub is : truth_from f n first ≡ Some t

pub laid : (f : Found) (n : ℕ) (t : Super) → n < 16 → truth_in f.state (slices_of f) n ≡ Some t → IsLaid f n t
unfolding extent_of
laid f n t low has = of_first (first_of f n) refl
  where
    lacks : extent_of f (suc n) ≡ None → IsLaid f n t
    lacks none = absurd (none-some t (sym (no_truth f n low none ∙ nothing_truth f.state n) ∙ has))

    of_truth : (first : ℕ) → first_of f n ≡ Some first → (o : Option Super) → truth_from f n first ≡ o → IsLaid f n t
    of_truth first begins None is =
        lacks (ap (option_and_then (extent_from f n)) begins ∙ ap (option_map (λ (u : Super). record { first = first; sectors = 2048 + u.size })) is)
    of_truth first begins (Some u) is =
        record { first = first; begins = begins; is = is ∙ ap Some (some_same u t (sym (truth_found f n first u low begins is) ∙ has)) }

    of_first : (o : Option ℕ) → first_of f n ≡ o → IsLaid f n t
    of_first None none = lacks (ap (option_and_then (extent_from f n)) none)
    of_first (Some first) begins = of_truth first begins (truth_from f n first) refl
