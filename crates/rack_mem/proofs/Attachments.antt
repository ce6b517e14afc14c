-- The list of attached disks, when the faults of one of them are counted.
use Rattle.std.proofs.Common.{◌≡◌, ◌≢◌, ◌≤◌, inl, inr, List, Some, refl, sym, ap, ◌∙◌, subst, arith, set, length, false, true, [], ◌∷◌, ℕ, zero, suc}
use Rattle.std.specs.Prelude.{slice_get}
use Rattle.std.specs.Option.{option_map_or}
use Rattle.std.proofs.lemmas.Bool.{cases_eq}
use Rattle.std.proofs.Math.ListN.{length-set}
use Rattle.rack.specs.Seen.{Rose}
use Rattle.rack_mem.specs.declared.DiskSpec.{DiskSpec}
use Rattle.rack_mem.specs.declared.memory.Attached.{Attached}
use Rattle.rack_mem.specs.Memory.{Memory, Faults, Fails, names_of, name_of, AllDiffer, number_of, faults_of, has_failed}
use Rattle.rack_mem.proofs.Lists.{slice_get-set_other, slice_get-set_same}

-- a disk changes at one place alone
other_of : {U : Type 0} (f : Attached → U) (z : U) (xs : List Attached) (i : ℕ) (y : Attached) (d : ℕ) → d ≢ i
    → option_map_or f (slice_get (set xs i y) d) z ≡ option_map_or f (slice_get xs d) z
other_of f z xs i y d apart = ap (λ o. option_map_or f o z) (slice_get-set_other xs i d y apart)

-- what the change leaves as it was there stays for all disks
same_of : {U : Type 0} (f : Attached → U) (z : U) (xs : List Attached) (i : ℕ) (x y : Attached) → slice_get xs i ≡ Some x → f y ≡ f x
    → (d : ℕ) → option_map_or f (slice_get (set xs i y) d) z ≡ option_map_or f (slice_get xs d) z
same_of f z xs i x y at same d =
    elim (cases_eq d i) [
      | inl here ↦ rw (here, slice_get-set_same xs i x y at, at) same
      | inr apart ↦ other_of f z xs i y d apart
    ]

-- the names stay where a disk keeps its number on the shelf
names_of-set : (shelf : List DiskSpec) (xs : List Attached) (i : ℕ) (x y : Attached) → slice_get xs i ≡ Some x → y.number ≡ x.number
    → names_of shelf (set xs i y) ≡ names_of shelf xs
names_of-set shelf [] i x y at same = refl
names_of-set shelf (z ∷ xs) zero x y at same =
    let here : z ≡ x = cc in
    ap (λ n. name_of shelf n ∷ names_of shelf xs) (same ∙ sym (ap (λ (a : Attached). a.number) here))
names_of-set shelf (z ∷ xs) (suc i) x y at same = ap (λ names. name_of shelf z.number ∷ names) (names_of-set shelf xs i x y at same)

-- a list of attached disks after the faults of one were counted
pub counts_fault : (a b : Memory) (i : ℕ) (x y : Attached) → slice_get a.attached i ≡ Some x → b.attached ≡ set a.attached i y
    → y.number ≡ x.number → y.failed ≡ x.failed → x.faults ≤ y.faults → Rose x.faults y.faults
    → b.shelf ≡ a.shelf → ((n s : ℕ) → b.contents n s ≡ a.contents n s) → b.failing ≡ a.failing → b.room ≡ a.room → b.faults ≡ a.faults
    → Faults a b i
counts_fault a b i x y at set_at number failed later rose shelf contents failing room bay =
    let before : faults_of a.attached i ≡ x.faults = rw at refl in
    let after : faults_of b.attached i ≡ y.faults = rw (set_at, slice_get-set_same a.attached i x y at) refl in
    let others : (d : ℕ) → d ≢ i → faults_of b.attached d ≡ faults_of a.attached d =
    λ d apart. ap (λ xs. faults_of xs d) set_at ∙ other_of (λ disk. disk.faults) 0 a.attached i y d apart in
    record {
      follows = record {
        shelf = shelf;
        contents = contents;
        disks = ap length set_at ∙ length-set a.attached i y;
        numbers = λ d. ap (λ xs. number_of xs d) set_at ∙ same_of (λ disk. disk.number) 0 a.attached i x y at number d;
        names = rw (shelf, set_at) (names_of-set a.shelf a.attached i x y at number);
        faults = λ d. elim (cases_eq d i) [
          | inl here ↦ subst (λ e. faults_of a.attached e ≤ faults_of b.attached e) (sym here) (omega arith)
          | inr apart ↦ omega (arith, others d apart)
        ];
        failed = λ d. ap (λ xs. has_failed xs d) set_at ∙ same_of (λ disk. disk.failed) false a.attached i x y at failed d;
        failing = failing;
        room = room;
        bay = bay;
      };
      rose = rw (before, after) rose;
      others = others;
    }

pub names_differ_still : (shelf : List DiskSpec) (xs : List Attached) (i : ℕ) (x y : Attached) → slice_get xs i ≡ Some x → y.number ≡ x.number
    → AllDiffer (names_of shelf xs) → AllDiffer (names_of shelf (set xs i y))
names_differ_still shelf xs i x y at same differ = subst AllDiffer (sym (names_of-set shelf xs i x y at same)) differ

-- a list of attached disks after one has failed for good
pub fails : (a b : Memory) (i : ℕ) (x y : Attached) → slice_get a.attached i ≡ Some x → b.attached ≡ set a.attached i y
    → y.number ≡ x.number → y.faults ≡ x.faults → y.failed ≡ true
    → b.shelf ≡ a.shelf → ((n s : ℕ) → b.contents n s ≡ a.contents n s) → b.calls ≡ a.calls → b.failing ≡ a.failing → b.room ≡ a.room → b.faults ≡ a.faults
    → Fails a b i
fails a b i x y at set_at number faults failed shelf contents calls failing room bay = record {
  shelf = shelf;
  contents = contents;
  disks = ap length set_at ∙ length-set a.attached i y;
  numbers = λ d. ap (λ xs. number_of xs d) set_at ∙ same_of (λ disk. disk.number) 0 a.attached i x y at number d;
  faults = λ d. ap (λ xs. faults_of xs d) set_at ∙ same_of (λ disk. disk.faults) 0 a.attached i x y at faults d;
  failed = rw (set_at, slice_get-set_same a.attached i x y at) failed;
  others = λ d apart. ap (λ xs. has_failed xs d) set_at ∙ other_of (λ disk. disk.failed) false a.attached i y d apart;
  calls = calls;
  failing = failing;
  room = room;
  bay = bay;
}
