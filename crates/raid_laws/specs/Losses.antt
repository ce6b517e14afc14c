-- Losses of a call: which places went, and copies of a state in the log.
use Rattle.std.specs.Prelude.{◌≡◌, ◌==◌, not, ℕ, Bool, List, [], ◌∷◌, ◌++◌, filter, Ok}
use Rattle.std.specs.List.{list_any}
use Rattle.rack.specs.Targets.{Target}
use Rattle.pool_state.specs.declared.contents.State.{State}
use Rattle.pool_state.specs.Sector.{decoded}
use Rattle.array_image.specs.Places.{log_slice}
use Rattle.array_image.specs.States.{current_places}
use Rattle.log_laws.specs.View.{names}
use Rattle.array_model.specs.View.{View}

-- whether a place went in one of these arrays
abbrev pub has_gone : List View → ℕ → Bool
has_gone arrays place = list_any (λ v. names v.went place) arrays

-- the current places that went, in their order: their loss isn't marked yet
abbrev pub newly_gone : State → List View → List ℕ
newly_gone s arrays = filter (has_gone arrays) (current_places s)

-- a target is the copy of a state that is to stand on a place
pub record IsCopyOn (s : State) (place : ℕ) (x : Target) : Type 0 where
  pub disk : x.disk ≡ log_slice place
  pub sector : x.sector ≡ 0
  pub copy : decoded x.bytes ≡ Ok (record { state = s; own = place })

-- targets are copies of a state, one a place, in the order of the places
abbrev pub AreCopiesOn : State → List ℕ → List Target → Type 0
AreCopiesOn s [] [] = Unit {0}
AreCopiesOn s [] (x ∷ xs) = ⊥
AreCopiesOn s (place ∷ places) [] = ⊥
AreCopiesOn s (place ∷ places) (x ∷ xs) = IsCopyOn s place x × AreCopiesOn s places xs

-- To the targets of a log a copy of the state is added for each of these places, and nothing else.
pub record AddsCopies (s : State) (places : List ℕ) (before added : List Target) : Type 0 where
  pub targets : List Target
  pub appended : added ≡ before ++ targets
  pub copies : AreCopiesOn s places targets

-- another drive than that of a place is current
abbrev pub has_other : State → ℕ → Bool
has_other s place = list_any (λ p. not (p == place)) (current_places s)
