-- The parts of several arrays that were read one after the other.
use Rattle.std.proofs.Common.{◌≡◌, ℕ, zero, suc, ◌+◌, ◌<◌, ◌++◌, List, [], ◌∷◌, Some, inl, inr, refl, sym, ap, ◌∙◌, subst, arith}
use Rattle.std.specs.Prelude.{length, slice_get}
use Rattle.std.proofs.lemmas.Bool.{cases_eq}
use Rattle.rack.specs.Seen.{RackView}
use Rattle.rack.specs.Sequences.{OnlyReads}
use Rattle.lvm_group.specs.declared.parts.Part.{Part}
use Rattle.lvm_group.specs.Parts.{Array, part_from}
use Rattle.lvm_group.specs.Reading.{IsNow}
use Rattle.lvm_group.specs.Found.{IsPart, AreParts}
use Rattle.lvm_group.proofs.Looking.{looks_same, now_later}
use Rattle.lvm_group.proofs.AreaRead.{all_longer}

-- a part that was read over a part of the time
part_longer : {a b c d : RackView} (array : ℕ) (now : Array) (part : Part) → OnlyReads a b → OnlyReads c d → IsPart b c array now part → IsPart a d array now part
part_longer array now part before after found = record {
  labels = found.labels;
  headers = found.headers;
  texts = found.texts;
  labels_read = all_longer array now found.labels before after found.labels_read;
  headers_read = all_longer array now found.headers before after found.headers_read;
  texts_read = all_longer array now found.texts before after found.texts_read;
  is = found.is ∙ ap (part_from found.labels found.headers found.texts) (before.stays.sectors array);
}

-- the old elements stay, and the new one is the last
get_old : {X : Type 0} (xs : List X) (y : X) (k : ℕ) → k < length xs → slice_get (xs ++ y ∷ []) k ≡ slice_get xs k
get_old [] y k below = absurd (omega arith)
get_old (x ∷ xs) y zero below = refl
get_old (x ∷ xs) y (suc k) below = get_old xs y k (omega arith)

pub get_new : {X : Type 0} (xs : List X) (y : X) → slice_get (xs ++ y ∷ []) (length xs) ≡ Some y
get_new [] y = refl
get_new (x ∷ xs) y = get_new xs y

-- one part more
pub parts_more : {a x b : RackView} (parts : List Part) (part : Part) (array : ℕ) → a.fit → length parts ≡ array → array < a.disks → OnlyReads a x → OnlyReads x b
    → AreParts a x array parts → ((now : Array) → IsNow x array now → IsPart x b array now part) → AreParts a b (array + 1) (parts ++ part ∷ [])
parts_more {a} {x} {b} parts part array fit count there first second all new = λ k now below is. elim (cases_eq k array) [
  | inl here ↦ (
    part,
    subst (λ n. slice_get (parts ++ part ∷ []) n ≡ Some part) (count ∙ sym here) (get_new parts part),
    subst (λ n. IsPart a b n now part) (sym here)
        (part_longer array now part first (looks_same b second.stays.fit) (new now (now_later array now there first (subst (λ n. IsNow a n now) here is)))),
  )
  | inr other ↦
      let old = all k now (omega arith) is in
      (old.0, get_old parts part k (omega arith) ∙ old.1, part_longer k now old.0 (looks_same a fit) second old.2)
]
