-- Sectors of a pool that are filled one after the other.
use Rattle.std.proofs.Common.{◌≡◌, ℕ, ◌+◌, ◌-◌, ◌<◌, ◌≤◌, nat_le, nat_lt, ◌&&◌, Bool, true, false, if◌then◌else◌, List, Result, Ok, Err, refl, sym, ◌∙◌, ap, subst, inl, inr, arith}
use Rattle.std.proofs.lemmas.Bool.{cases_lt}
use Rattle.std.proofs.lemmas.Grind.{common_steps}
use Rattle.std.proofs.lemmas.Bool.Decides.{nat_tests}
use Rattle.rack.specs.Values.{Values, MayLeave, append}
use Rattle.rack.specs.Seen.{Image}
use Rattle.rack.specs.Moments.{IsSound}
use Rattle.rack.specs.Joins.{leaves_same, may_leave-append}
use Rattle.flat_array.specs.Array.{FlatArray, filled, written}
use Rattle.flat_array.proofs.Filling.{filled_none, filled_next}
use Rattle.pool.specs.declared.calls.SectorFault.{SectorFault}
use Rattle.pool.specs.declared.calls.SectorFault.TheVariants.{Spent}
use Rattle.raid_laws.specs.Losing.{arrays_same, arrays_then}
use Rattle.pool.specs.View.{View, book, contents_in, volume}
use Rattle.pool.specs.Volume.{VolumeIs, Means, is_spent, unchanged}
use Rattle.pool.specs.Keeping.{KeepsWorks, Raises}
use Rattle.pool.specs.Calls.{Marks, CallFrame, WritesSector}
use Rattle.shr_tool.specs.Filling.{Fills, FillsSome}
use Rattle.pool.proofs.Booked.{raises_fewer, raises_still}
use Rattle.pool.proofs.Doing.{does_none}
use Rattle.pool.proofs.Keeping.{marks_same, marks_then, passes_same, passes_then, raises_next}
use Rattle.shr_tool.proofs.Meanings.{does_then}

-- ---- works

-- no call leaves them as they were
pub works_same : (x : View) → KeepsWorks (book x) (book x)
works_same x = record { arrays = arrays_same (book x); plan = refl }

-- calls in a row do, each of which does
works_then : (x y z : View) → CallFrame x y → KeepsWorks (book x) (book y) → KeepsWorks (book y) (book z) → KeepsWorks (book x) (book z)
works_then x y z passes one two = record { arrays = arrays_then (book x) (book y) (book z) passes.marks.same.made one.arrays two.arrays; plan = two.plan ∙ one.plan }

-- ---- sectors

-- The sectors up to one have been filled, and the last one of them isn't spent.
pub record IsFilled (x y : View) (sector at : ℕ) (bytes : List ℕ) : Type 0 where
  pub passes : CallFrame x y
  pub raises : Raises (at - sector) x y
  pub works : KeepsWorks (book x) (book y)
  pub marks : Marks x y
  pub some : FillsSome x y sector (at - sector) bytes
  pub last : (s : ℕ) → s + 1 ≡ at → sector ≤ s → is_spent y s ≡ false

-- no sector has
pub filled_start :
    (x : View) (sector : ℕ) (bytes : List ℕ) → (volume x).fit → (x.bay.traced → IsSound (volume x)) → IsFilled x x sector sector bytes
filled_start x sector bytes fit sound =
    let still = does_none x (passes_same x fit) sound in
    let same : (a : FlatArray) → a ≡ filled a sector (sector - sector) bytes =
    λ a. sym (ap (λ n. filled a sector n bytes) (omega arith) ∙ filled_none a sector bytes) in
    record {
      passes = passes_same x fit;
      raises = raises_still (sector - sector) x;
      works = works_same x;
      marks = marks_same x (λ place. ⊥);
      some = record {
        does = record {
          becomes = λ a holds. subst (λ b. VolumeIs x b) (same a) holds;
          leaves = λ traced a holds. leaves_same x.bay (Means x (filled a sector (sector - sector) bytes));
          ends = λ traced a holds i stopped. subst (λ b. Means x b i) (same a) (still.ends traced a holds i stopped);
        };
        unspent = λ s from before. absurd (omega arith);
      };
      last = λ s next from. absurd (omega arith);
    }

-- a value that may be left before a sector is filled may be left after it
value_later :
    (before after : Bool) (h : Values) (v w : List ℕ)
    → (before ≡ true → after ≡ true)
    → MayLeave (if before then append h v else h) w
    → MayLeave (if after then append h v else h) w
value_later true true h v w later leaves = leaves
value_later true false h v w later leaves = absurd (let wrong = later refl in cc)
value_later false true h v w later leaves = may_leave-append h v w leaves
value_later false false h v w later leaves = leaves

inside_later :
    (sector few count s : ℕ)
    → few ≤ count
    → (nat_le sector s && nat_lt s (sector + few)) ≡ true
    → (nat_le sector s && nat_lt s (sector + count)) ≡ true
inside_later sector few count s most inside = grind (arith, nat_tests, common_steps)

-- what means an array with fewer sectors filled means it with all
means_filled :
    (y : View) (a : FlatArray) (sector few count : ℕ) (bytes : List ℕ) (i : Image)
    → few ≤ count
    → Means y (filled a sector few bytes) i
    → Means y (filled a sector count bytes) i
means_filled y a sector few count bytes i most means s inside unspent =
    value_later
    (nat_le sector s && nat_lt s (sector + few))
    (nat_le sector s && nat_lt s (sector + count))
    (a.values s)
    bytes
    (contents_in y.slices y.linear i s)
    (inside_later sector few count s most)
    (means s inside unspent)

-- one sector more, which isn't spent
pub filled_step :
    (x y z : View) (sector at : ℕ) (bytes : List ℕ) (r : Result (Unit {0}) SectorFault)
    → r ≡ Ok tt
    → sector ≤ at
    → IsFilled x y sector at bytes
    → WritesSector y z at bytes r
    → IsFilled x z sector (at + 1) bytes
filled_step x y z sector at bytes r done from before writes_r =
    let writes : WritesSector y z at bytes {X = Unit {0}} (Ok tt) = subst (λ q. WritesSector y z at bytes q) done writes_r in
    let alive = writes.fault.served.1 in
    record {
      passes = passes_then x y z before.passes writes.passes;
      raises = raises_fewer (at - sector + 1) (at + 1 - sector) x z (omega (arith, from)) (raises_next (at - sector) x y z before.passes before.raises writes.raises);
      works = works_then x y z before.passes before.works writes.works;
      marks = marks_then x y z before.passes writes.passes before.marks writes.marks;
      some = record {
        does =
            does_then x y z (λ a. filled a sector (at - sector) bytes) (λ a. written a at bytes) (λ a. filled a sector (at + 1 - sector) bytes)
            before.passes writes.passes
            (λ a. filled_next a sector at bytes from)
            (λ a i means. means_filled z a sector (at - sector) (at + 1 - sector) bytes i (omega arith) means)
            before.some.does writes.written;
        unspent = λ s low high.
            elim (cases_lt s at) [
              | inl early ↦ before.some.unspent s low (omega arith)
              | inr late ↦
                  let here : s ≡ at = omega arith in
                  subst (λ t. is_spent x t ≡ false) (sym here) (before.passes.stays.spent 0 at (writes.passes.stays.spent 0 at alive))
            ];
      };
      last = λ s next low. subst (λ t. is_spent z t ≡ false) (let here : at ≡ s = omega arith in here) alive;
    }

-- all of them
pub filled_all :
    (x y : View) (sector at count : ℕ) (bytes : List ℕ)
    → at ≡ sector + count
    → IsFilled x y sector at bytes
    → Fills x y sector count bytes (Ok tt)
filled_all x y sector at count bytes all done =
    let many : at - sector ≡ count = omega arith in
    record {
      passes = done.passes;
      raises = subst (λ n. Raises n x y) many done.raises;
      works = done.works;
      marks = done.marks;
      done = (subst (λ n. FillsSome x y sector n bytes) many done.some, λ s next low. done.last s (next ∙ sym all) low);
      refused = tt;
    }

-- a write was refused, of a sector inside
pub filled_spent :
    (x y z : View) (sector at count : ℕ) (bytes : List ℕ) (r : Result (Unit {0}) SectorFault)
    → r ≡ Err Spent
    → sector ≤ at
    → at < sector + count
    → IsFilled x y sector at bytes
    → WritesSector y z at bytes r
    → Fills x z sector count bytes (Err (record { sector = at }))
filled_spent x y z sector at count bytes r refused from inside before writes_r =
    let writes : WritesSector y z at bytes {X = Unit {0}} (Err Spent) = subst (λ q. WritesSector y z at bytes q) refused writes_r in
    record {
      passes = passes_then x y z before.passes writes.passes;
      raises = raises_fewer (at - sector + 1) count x z (omega (arith, from, inside)) (raises_next (at - sector) x y z before.passes before.raises writes.raises);
      works = works_then x y z before.passes before.works writes.works;
      marks = marks_then x y z before.passes writes.passes before.marks writes.marks;
      done = tt;
      refused = (
        from,
        inside,
        (writes.fault.refused refl).1,
        record {
          does =
              does_then x y z (λ a. filled a sector (at - sector) bytes) unchanged (λ a. filled a sector (at - sector) bytes)
              before.passes writes.passes (λ a. refl) (λ a i means. means) before.some.does writes.kept;
          unspent = before.some.unspent;
        },
      );
    }
