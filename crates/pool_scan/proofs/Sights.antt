-- What was read of a disk, over several calls.
use Rattle.std.proofs.Common.{◌≡◌, ℕ, zero, suc, ◌+◌, ◌<◌, arith, ap, slice_set, List, [], ◌∷◌, ◌++◌, length, slice_get, Option, Some, Ok, true, refl, sym, subst, ◌∙◌, inl, inr, false}
use Rattle.std.proofs.lemmas.Bool.{cases_eq}
use Rattle.std.proofs.lemmas.Option.{slice_get-get_or}
use Rattle.std.proofs.lemmas.List.{get_or-set_same, get_or-set_other, length-set}
use Rattle.rack.specs.Seen.{RackView, Rose, SameRack}
use Rattle.rack.specs.Calls.{Reads}
use Rattle.rack.specs.Sequences.{OnlyReads}
use Rattle.gpt_table.specs.Changes.{the_table}
use Rattle.gpt_table.specs.Disk.{Contents, AgreesUnspent}
use Rattle.rack.proofs.Reading.{same_after}
use Rattle.rack.specs.Joins.{rose_later, rose_early}
use Rattle.pool_scan.specs.declared.Known.{Known}
use Rattle.pool_image.specs.Disks.{id_by}
use Rattle.pool_scan.specs.Scanning.{IsKnown, IsReadOr, IsValidCopy, Sees, copied_on, id_in, now_in, table_in}

-- contents agree with themselves
pub agrees_now : (x : RackView) (disk : ℕ) → AgreesUnspent x disk (now_in x disk)
agrees_now x disk = λ sector within unspent. refl

-- and after reads
pub agrees_then :
    {x y : RackView} (disk : ℕ) (contents : Contents)
    → OnlyReads x y
    → disk < x.disks
    → x.told disk
    → AgreesUnspent x disk contents
    → AgreesUnspent y disk contents
agrees_then {x} {y} disk contents reads inside told agrees =
    λ sector within unspent.
    let on : sector < x.sectors disk = subst (λ n. sector < n) (reads.stays.sectors disk) within in
    agrees sector on (reads.stays.spent disk sector unspent) ∙ sym (same_after {a = x} {b = y} disk sector reads inside on told unspent)

-- a sector that was read holds this, whatever spent ones held before
pub read_says :
    {x y : RackView} (disk sector : ℕ) (into : List ℕ) (contents : Contents)
    → Reads x y disk sector into {X = Unit {0}} (Ok tt)
    → sector < x.sectors disk
    → x.told disk
    → AgreesUnspent x disk contents
    → into ≡ contents sector
read_says {x} {y} disk sector into contents reads within told agrees =
    reads.value told ∙ sym (agrees sector within (reads.stays.spent disk sector reads.cause.served))

-- what was read until one moment was read until a later one
pub read_until :
    {X : Type 0} (x y z : RackView) (disk : ℕ) (shown read : Option X)
    → SameRack y z
    → IsReadOr x y disk shown read
    → IsReadOr x z disk shown read
read_until x y z disk shown read stays (inl is) = inl is
read_until x y z disk shown read stays (inr gone) = inr (gone.0, rose_early x y z disk stays gone.1)

-- and since an earlier one
pub read_since :
    {X : Type 0} (x y z : RackView) (disk : ℕ) (shown read : Option X)
    → SameRack x y
    → IsReadOr y z disk shown read
    → IsReadOr x z disk shown read
read_since x y z disk shown read stays (inl is) = inl is
read_since x y z disk shown read stays (inr gone) = inr (gone.0, rose_later x y z disk stays gone.1)

-- a fact of each disk, and of one more
pub each_push :
    {X : Type 0} (P : ℕ → X → Type 0) (xs : List X) (y : X)
    → ((d : ℕ) (x : X) → slice_get xs d ≡ Some x → P d x)
    → P (length xs) y
    → (d : ℕ) (x : X)
    → slice_get (xs ++ y ∷ []) d ≡ Some x
    → P d x
each_push P [] y old new zero x is = let e : y ≡ x = cc in subst (P 0) e new
each_push P [] y old new (suc d) x is = cc
each_push P (z ∷ xs) y old new zero x is = old zero x is
each_push P (z ∷ xs) y old new (suc d) x is =
    each_push (λ n. P (suc n)) xs y (λ e v at. old (suc e) v at) new d x is

-- what was seen until one moment was seen until a later one
pub known_until : (x y z : RackView) (d : ℕ) (s : Known) → SameRack y z → IsKnown x y d s → IsKnown x z d s
known_until x y z d s stays shown =
    record {
      sees =
          λ told.
          let sees = shown.sees told in
          record {
            copied = read_until x y z d _ _ stays sees.copied;
            read = sees.read;
            named =
                record {
                  table = read_until x y z d _ _ stays sees.named.table;
                  read = sees.named.read;
                  id = sees.named.id;
                };
          };
      gone = λ is. rose_early x y z d stays (shown.gone is);
      valid = shown.valid;
    }

-- what was seen of a disk in a later call
pub known_since :
    (x y z : RackView) (d : ℕ) (s : Known)
    → OnlyReads x y
    → d < x.disks
    → (y.told d → (contents : Contents) → AgreesUnspent y d contents → Sees y z d contents s)
    → (s.gone ≡ true → Rose (y.faults d) (z.faults d))
    → IsValidCopy s.copied
    → IsKnown x z d s
known_since x y z d s reads inside sees gone valid =
    record {
      sees =
          λ told.
          let contents = now_in x d in
          let seen : Sees y z d contents s =
          sees (reads.stays.told d told) contents (agrees_then {x = x} {y = y} d contents reads inside told (agrees_now x d)) in
          let size : y.sectors d ≡ x.sectors d = reads.stays.sectors d in
          record {
            copied =
                read_since x y z d (copied_on (x.sectors d) contents) s.copied reads.stays
                (subst (λ n. IsReadOr y z d (copied_on n contents) s.copied) size seen.copied);
            read = subst (λ n. s.gone ≡ false → s.copied ≡ copied_on n contents) size seen.read;
            named =
                record {
                  read =
                      subst (λ n. s.gone ≡ false → table_in (the_table n contents) s ≡ the_table n contents) size
                      seen.named.read;
                  table =
                      read_since x y z d (the_table (x.sectors d) contents) (table_in (the_table (x.sectors d) contents) s) reads.stays
                      (subst (λ n. IsReadOr y z d (the_table n contents) (table_in (the_table n contents) s)) size seen.named.table);
                  id = subst (λ n. id_in s ≡ id_by (table_in (the_table n contents) s) s.copied) size seen.named.id;
                };
          };
      gone = λ is. rose_later x y z d reads.stays (gone is);
      valid = valid;
    }

-- a fact of the first elements, and of the next one that is set
pub each_set :
    {X : Type 0} (P : ℕ → X → Type 0) (xs : List X) (n : ℕ) (y : X)
    → n < length xs
    → ((d : ℕ) (x : X) → d < n → slice_get xs d ≡ Some x → P d x)
    → P n y
    → (d : ℕ) (x : X)
    → d < n + 1
    → slice_get (slice_set xs n y) d ≡ Some x
    → P d x
each_set {X} P xs n y inside old new d x below is =
    elim (cases_eq d n) [
      | inl same ↦
          let at : Some x ≡ Some y =
          sym is ∙ ap (slice_get (slice_set xs n y)) same
          ∙ slice_get-get_or (slice_set xs n y) n y (omega (arith, inside, length-set xs n y))
          ∙ ap Some (get_or-set_same xs n y y inside) in
          subst (λ e. P e x) (sym same) (subst (P n) (sym (one x y at)) new)
      | inr other ↦
          let low : d < n = omega (arith, below, other) in
          old d x low
          (slice_get-get_or xs d y (omega (arith, low, inside))
          ∙ ap Some (sym (get_or-set_other xs n d y y other))
          ∙ sym (slice_get-get_or (slice_set xs n y) d y (omega (arith, low, inside, length-set xs n y)))
          ∙ is)
    ]
  where
    one : (v w : X) → Some v ≡ Some w → v ≡ w
    one v w same = (cc)
