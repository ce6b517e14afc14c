-- The first of the sectors that begins with the word, as a loop finds it.
use Rattle.std.proofs.Common.{◌≡◌, ℕ, ◌+◌, ◌≤◌, ◌<◌, true, false, List, length, get_or, drop, refl, Err, nat_eq, add-one, drop-cons}
use Rattle.std.specs.List.{starts_with}
use Rattle.std.proofs.Math.ListN.{drop_of_length-le}
use Rattle.lvm_label.specs.declared.LabelFault.TheVariants.{NoLabel}
use Rattle.lvm_label.specs.Label.{label_in, label_of, label_word}

pub label_in-found : (sectors : List (List ℕ)) (n : ℕ) (d : List ℕ) → n < length sectors → starts_with nat_eq (get_or sectors n d) label_word ≡ true → label_in n (drop n sectors) ≡ label_of n (get_or sectors n d)
unfolding label_in
label_in-found sectors n d h begins = rw (drop-cons sectors n d, begins) refl

pub label_in-passed : (sectors : List (List ℕ)) (n : ℕ) (d : List ℕ) → n < length sectors → starts_with nat_eq (get_or sectors n d) label_word ≡ false → label_in n (drop n sectors) ≡ label_in (n + 1) (drop (n + 1) sectors)
unfolding label_in
label_in-passed sectors n d h begins = rw (drop-cons sectors n d, begins, add-one) refl

pub label_in-none : (sectors : List (List ℕ)) (n : ℕ) → length sectors ≤ n → label_in n (drop n sectors) ≡ Err NoLabel
unfolding label_in
label_in-none sectors n h = rw drop_of_length-le refl
