use Rattle.std.proofs.Common.{◌≡◌, ℕ, zero, suc, Bool, true, false, List, [], ◌∷◌, refl, sym, ◌∙◌}
use Rattle.std.specs.List.{list_any}
use Rattle.std.proofs.lemmas.Bool.{both_ways}
use Rattle.raid_rack.specs.RaidRack.{is_written}
use Rattle.raid_rack.proofs.arrays.RaidRack.has_written.Goals as goal

unset : (flags : List Bool) → list_any (λ flag. flag) flags ≡ false → (n : ℕ) → is_written flags n ≡ false
unset [] none n = refl
unset (true ∷ flags) none n = absurd (both_ways true none refl)
unset (false ∷ flags) none zero = refl
unset (false ∷ flags) none (suc n) = unset flags none n

set : (flags : List Bool) → list_any (λ flag. flag) flags ≡ true → (n : ℕ) × (is_written flags n ≡ true)
set [] some = absurd (both_ways false refl some)
set (true ∷ flags) some = (0, refl)
set (false ∷ flags) some = let later = set flags some in (suc later.0, later.1)

pub returns-clause-none : goal.returns-clause-none
returns-clause-none g c not = unset c.args.self.now.written (sym c.is_any.ensures ∙ not)

pub returns-clause-some : goal.returns-clause-some
returns-clause-some g c is = set c.args.self.now.written (sym c.is_any.ensures ∙ is)
