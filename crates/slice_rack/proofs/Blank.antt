-- Lists of tables in which nothing is.
use Rattle.std.proofs.Common.{◌≡◌, ℕ, zero, suc, ◌==◌, ◌&&◌, Bool, true, false, List, [], ◌∷◌, Option, None, Some, refl}
use Rattle.std.specs.Prelude.{slice_get, is_none}
use Rattle.std.specs.List.{list_all}
use Rattle.std.specs.Option.{option_map_or}
use Rattle.std.proofs.lemmas.Bool.{eqb-true}
use Rattle.slice_rack.specs.declared.Slice.{Slice}

both : (p q : Bool) → (p && q) ≡ true → (p ≡ true) × (q ≡ true)
both true q e = (refl, e)
both false q e = cc

-- no place has a disk
pub no_seat : (seats : List (Option ℕ)) → list_all (λ seat. is_none seat) seats ≡ true
    → (place : ℕ) → option_map_or (λ seat. seat) (slice_get seats place) None ≡ None
no_seat [] e place = refl
no_seat (None ∷ seats) e zero = refl
no_seat (Some disk ∷ seats) e zero = cc
no_seat (seat ∷ seats) e (suc place) = no_seat seats (both _ _ e).1 place

-- no slice has a sector
pub no_sector : (slices : List Slice) → list_all (λ slice. slice.sectors == 0) slices ≡ true
    → (d : ℕ) → option_map_or (λ slice. slice.sectors) (slice_get slices d) 0 ≡ 0
no_sector [] e d = refl
no_sector (slice ∷ slices) e zero = eqb-true slice.sectors 0 (both _ _ e).0
no_sector (slice ∷ slices) e (suc d) = no_sector slices (both _ _ e).1 d
