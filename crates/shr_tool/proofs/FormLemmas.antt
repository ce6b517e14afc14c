-- The numbers of the words: an extent is that of a state.
use Rattle.std.proofs.Common.{◌≡◌, ℕ, Bool, true, false, ◌&&◌, nat_le, refl, Some}
use Rattle.std.specs.Int.{is_power_of_two}
use Rattle.pool_state.specs.Valid.{is_extent as valid_extent}
use Rattle.shr_words.specs.declared.forms.Form.TheVariants.{Create, Trial}
use Rattle.shr_words.specs.LayoutWords.{is_extent}

three_true : (a b c : Bool) → (a && b && c) ≡ true → (c && (a && b)) ≡ true
three_true true true true all = refl
three_true true true false all = all
three_true true false c all = cc
three_true false b c all = cc

pub extent_valid : (extent : ℕ) → is_extent extent ≡ true → valid_extent extent ≡ true
extent_valid extent is = three_true (nat_le 128 extent) (nat_le extent 65536) (is_power_of_two extent) is

pub create_same : (found extent : ℕ) → Some (Create found) ≡ Some (Create extent) → found ≡ extent
create_same found extent same = cc

pub trial_same : (found seed : ℕ) → Some (Trial found) ≡ Some (Trial seed) → found ≡ seed
trial_same found seed same = cc
