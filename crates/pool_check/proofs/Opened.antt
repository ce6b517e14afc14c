-- An array that was opened, where no place but its members has a superblock.
use Rattle.std.proofs.Common.{◌≡◌, ℕ, ◌≤◌, Bool, true, false, if◌then◌else◌, length, None, inl, inr, sym, ap, ◌∙◌}
use Rattle.std.proofs.lemmas.Bool.{cases_Bool}
use Rattle.array_image.specs.Supers.{is_named}
use Rattle.array_image.specs.States.{is_current}
use Rattle.array_model.specs.View.{View}
use Rattle.array_core.specs.Contents.{AreFound, current_super}
use Rattle.pool_image.specs.Drives.{Found, slices_of}
use Rattle.pool_image.specs.Meaning.{super_at}
use Rattle.pool_check.specs.Layers.{IsOpened}

-- what was found is what the drives' slices have
pub opened_found : (f : Found) (array : ℕ) (v : View) (opened : IsOpened f array v)
    → length f.state.drives.items ≤ 16
    → is_named opened.truth opened.truth.dev_number ≡ true
    → ((place : ℕ) → is_current f.state place ≡ false → super_at f array place ≡ None)
    → ((place : ℕ) → is_named opened.truth place ≡ false → super_at f array place ≡ None)
    → AreFound f.state (slices_of f) array opened.truth opened.found
opened_found f array v opened few own current alone = record {
  few = few;
  truth = opened.truth_is;
  own = own;
  named = λ place named. opened.are_found place ∙ sym (current_same place);
  others = λ place other. opened.are_found place ∙ alone place other;
  once = opened.once;
}
  where
    current_same : (place : ℕ) → current_super f.state (slices_of f) array place ≡ super_at f array place
    current_same place =
        elim (cases_Bool (is_current f.state place)) [
          | inl is ↦ ap (λ (b : Bool). if b then super_at f array place else None) is
          | inr gone ↦ ap (λ (b : Bool). if b then super_at f array place else None) gone ∙ sym (current place gone)
        ]
