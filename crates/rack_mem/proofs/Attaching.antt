-- Attaching a disk by its name.
use Rattle.std.proofs.Common.{◌≡◌, ◌↔◌, ℕ, zero, suc, ◌+◌, ◌≤◌, ◌<◌, ◌==◌, inl, inr, Bool, true, false, ◌||◌, cond, if◌then◌else◌, List, [], ◌∷◌, ◌++◌, length, map, Some, None, Result, Ok, Err, refl, sym, ap, subst, ◌∙◌, arith}
use Rattle.std.specs.Prelude.{slice_get, All, position}
use Rattle.std.specs.List.{list_any, position_from}
use Rattle.std.specs.Option.{option_map, option_map_or}
use Rattle.std.specs.Str.{bytes_eq}
use Rattle.std.proofs.lemmas.Bool.{cases_lt}
use Rattle.std.proofs.lemmas.Bool.Decides.{nat_tests}
use Rattle.std.proofs.lemmas.List.{length_push, map-append}
use Rattle.std.proofs.lemmas.List.Quantifiers.{position-Some}
use Rattle.std.proofs.lemmas.List.Folds.{list_any-append}
use Rattle.std.proofs.lemmas.Iterator.Adapters.{position_from-zero}
use Rattle.std.proofs.lemmas.Slice.Eq.{bytes_eq-Decides}
use Rattle.std.proofs.lemmas.Option.{slice_get_cases, slice_get-get_or, slice_get-map}
use Rattle.rack.specs.declared.AttachFault.{AttachFault}
use Rattle.rack.specs.declared.AttachFault.TheVariants.{Failed, Twice, Memory as NoRoom}
use Rattle.rack.specs.Values.{MayLeave, only}
use Rattle.rack.specs.Seen.{Image, Rose}
use Rattle.rack.specs.Shelf.{Attaches, Adds, IsFrom, IsSame}
use Rattle.rack_mem.specs.declared.DiskSpec.{DiskSpec}
use Rattle.rack_mem.specs.declared.memory.Attached.{Attached}
use Rattle.rack_mem.specs.History.{values_at, AreOn}
use Rattle.rack_mem.specs.Memory.{Memory, seen_of, shelf_of, names_of, name_of, number_of, sectors_of, is_attached, first_named, waiting, values_of, AllDiffer}
use Rattle.rack_mem.proofs.Lists.{slice_get-append, slice_get-push, pushed_cases}
use Rattle.rack_mem.proofs.Histories.{values_at-untouched}

-- two names are the same where the test says so
same_name : (a b : List ℕ) → bytes_eq a b ≡ true → a ≡ b
same_name a b e = (bytes_eq-Decides a b).0 e

passes : (a b : List ℕ) → a ≡ b → bytes_eq a b ≡ true
passes a b e = (bytes_eq-Decides a b).1 e

-- where a search finds nothing, no element passes
none_pass : {X : Type 0} (p : X → Bool) (xs : List X) (i : ℕ) → position_from p i xs ≡ None → list_any p xs ≡ false
none_pass p [] i e = refl
none_pass p (x ∷ xs) i e =
    elim (p x) as (λ test. cond test (Some i) (position_from p (i + 1) xs) ≡ None → (test || list_any p xs) ≡ false) [
      | true ↦ λ found. cc
      | false ↦ λ later. none_pass p xs (i + 1) later
    ] e

none_found : {X : Type 0} (p : X → Bool) (xs : List X) → position p xs ≡ None → list_any p xs ≡ false
none_found p xs e = none_pass p xs 0 (sym (position_from-zero p xs) ∙ e)

fails_test : (a b : List ℕ) → (a ≡ b → ⊥) → bytes_eq a b ≡ false
fails_test a b apart =
    elim (bytes_eq a b) as (λ test. (test ≡ true → a ≡ b) → test ≡ false) [ true ↦ λ same. absurd (apart (same refl)) | false ↦ λ _. refl ] (same_name a b)

or_nothing : (a : Bool) → (a || (false || false)) ≡ a
or_nothing true = refl
or_nothing false = refl

or_false : (a b : Bool) → (a || b) ≡ false → (a ≡ false) × (b ≡ false)
or_false true b e = cc
or_false false b e = (refl, e)

-- and none has the name
pub none_named : {X : Type 0} (f : X → List ℕ) (name : List ℕ) (xs : List X) (d : ℕ) → list_any (λ x. bytes_eq (f x) name) xs ≡ false
    → slice_get (map f xs) d ≡ Some name → ⊥
none_named f name [] d none e = cc
none_named f name (x ∷ xs) zero none e =
    let here : bytes_eq (f x) name ≡ true = passes (f x) name (cc) in
    let not_here : bytes_eq (f x) name ≡ false = (or_false _ _ none).0 in
    cc
none_named f name (x ∷ xs) (suc d) none e = none_named f name xs d (or_false _ _ none).1 e

-- what a search finds has the name
found_named : {X : Type 0} (f : X → List ℕ) (name : List ℕ) (xs : List X) (d : ℕ) (default : X)
    → position (λ x. bytes_eq (f x) name) xs ≡ Some d → slice_get (map f xs) d ≡ Some name
found_named f name xs d default e =
    let at = position-Some (λ x. bytes_eq (f x) name) xs d default e in
    let within : d < length xs = at.0 in
    slice_get-map f xs d ∙ ap (option_map f) (slice_get-get_or xs d default within) ∙ ap Some (same_name _ _ at.1)

-- a search among the attached disks that finds nothing
pub not_attached : (m : Memory) (name : List ℕ) → None ≡ position (λ disk. bytes_eq (name_of m.shelf disk.number) name) m.attached
    → is_attached m.shelf m.attached name ≡ false
not_attached m name e = none_found (λ disk. bytes_eq (name_of m.shelf disk.number) name) m.attached (sym e)

-- and one that finds a disk
pub attached_at : (m : Memory) (name : List ℕ) (d : ℕ) → Some d ≡ position (λ disk. bytes_eq (name_of m.shelf disk.number) name) m.attached
    → slice_get (names_of m.shelf m.attached) d ≡ Some name
attached_at m name d e =
    found_named (λ disk. name_of m.shelf disk.number) name m.attached d (record { number = 0; faults = 0; failed = false }) (sym e)

-- the name of the first disk of a name
pub first_name : (shelf : List DiskSpec) (name : List ℕ) (n : ℕ) → first_named shelf name ≡ Some n → name_of shelf n ≡ name
first_name shelf name n e =
    let default : DiskSpec = record { name = []; sectors = 0 } in
    let at = position-Some (λ disk. bytes_eq disk.name name) shelf n default e in
    let within : n < length shelf = at.0 in
    rw (slice_get-get_or shelf n default within) (same_name _ _ at.1)

-- the sectors of a disk
pub small_disks : (shelf : List DiskSpec) (limit n : ℕ) → 0 < limit → All (λ disk. disk.sectors < limit) shelf → sectors_of shelf n < limit
small_disks shelf limit n some all =
    elim (slice_get_cases shelf n).1 [
      | inl (disk, within, at, is) ↦ rw at (subst (λ (spec : DiskSpec). spec.sectors < limit) is (all n disk within))
      | inr (past, none) ↦ rw none some
    ]

-- a bay after its refusal of a name
pub same_but_faults : (a : Memory) (faults : ℕ) → IsSame (seen_of a) (seen_of (record a { faults = faults })) (shelf_of a) (shelf_of (record a { faults = faults }))
same_but_faults a faults = record {
  disks = refl;
  clock = refl;
  others = λ e. record { sectors = refl; held = λ s. refl; faults = refl; told = λ told. told };
  traced = λ traced. traced;
  steady = λ steady. steady;
  past = λ k c stops. stops;
  kept = λ k c stops. stops;
  names = refl;
  ready = λ n. refl;
  told = λ told. told;
}

-- the name is attached already
pub is_twice : (a : Memory) (name : List ℕ) (d : ℕ) → AllDiffer (names_of a.shelf a.attached) → slice_get (names_of a.shelf a.attached) d ≡ Some name
    → Attaches (seen_of a) (seen_of a) (shelf_of a) (shelf_of a) name (Err (Twice d))
is_twice a name d differ at = record {
  faults = omega arith;
  ok = tt;
  failed = λ e. cc;
  twice = λ e. (
    λ same. let is : d ≡ e = cc in subst (λ f. slice_get (names_of a.shelf a.attached) f ≡ Some name) is at,
    λ there. ap (λ f. Err (Twice f)) (differ d e name at there),
  );
  refused = same_but_faults a a.faults;
}

-- no attached disk has the name, and an answer other than that
not_twice : (a : Memory) (name : List ℕ) (result : Result ℕ AttachFault) → is_attached a.shelf a.attached name ≡ false
    → ((d : ℕ) → result ≡ Err (Twice d) → ⊥) → (d : ℕ) → (result ≡ Err (Twice d)) ↔ (slice_get (names_of a.shelf a.attached) d ≡ Some name)
not_twice a name result none other d =
    (λ same. absurd (other d same), λ there. absurd (none_named (λ disk. name_of a.shelf disk.number) name a.attached d none there))

-- the name isn't on the shelf
pub is_failed : (a : Memory) (name : List ℕ) (faults : ℕ) → is_attached a.shelf a.attached name ≡ false → a.faults ≤ faults → Rose a.faults faults
    → Attaches (seen_of a) (seen_of (record a { faults = faults })) (shelf_of a) (shelf_of (record a { faults = faults })) name (Err Failed)
is_failed a name faults none later rose = record {
  faults = later;
  ok = tt;
  failed = λ _. rose;
  twice = not_twice a name (Err Failed) none (λ d same. cc);
  refused = same_but_faults a faults;
}

-- there is no room for one more
pub is_full : (a : Memory) (name : List ℕ) → is_attached a.shelf a.attached name ≡ false
    → Attaches (seen_of a) (seen_of a) (shelf_of a) (shelf_of a) name (Err NoRoom)
is_full a name none = record {
  faults = omega arith;
  ok = tt;
  failed = λ same. cc;
  twice = not_twice a name (Err NoRoom) none (λ d same. cc);
  refused = same_but_faults a a.faults;
}

-- a bay with one more attached disk
abbrev more : Memory → Attached → Memory
more a disk = record a { attached = a.attached ++ disk ∷ [] }

-- the old disks stay
number_before : (xs : List Attached) (x : Attached) (d : ℕ) → d < length xs → number_of (xs ++ x ∷ []) d ≡ number_of xs d
number_before xs x d within = ap (λ o. option_map_or (λ (disk : Attached). disk.number) o 0) (slice_get-append xs (x ∷ []) d within)

number_last : (xs : List Attached) (x : Attached) → number_of (xs ++ x ∷ []) (length xs) ≡ x.number
number_last xs x = ap (λ o. option_map_or (λ (disk : Attached). disk.number) o 0) (slice_get-push xs x)

-- contents, and beside them those of a disk that waits
beside : Memory → (last number : ℕ) → Image → Image
beside a last number c d s = if d == last then a.contents number s else c d s

beside-old : (a : Memory) (last number : ℕ) (c : Image) (d s : ℕ) → d < last → beside a last number c d s ≡ c d s
unfolding beside
beside-old a last number c d s old = let other : (d == last) ≡ false = grind (arith, nat_tests) in rw other refl

beside-last : (a : Memory) (last number : ℕ) (c : Image) (s : ℕ) → beside a last number c last s ≡ a.contents number s
unfolding beside
beside-last a last number c s = let same : (last == last) ≡ true = grind (arith, nat_tests) in rw same refl

-- a disk is added under its name
pub adds : (a : Memory) (x : Attached) (name : List ℕ) → AreOn a.calls (length a.attached)
    → first_named a.shelf name ≡ Some x.number → is_attached a.shelf a.attached name ≡ false → x.faults ≡ 0
    → Adds (seen_of a) (seen_of (more a x)) (shelf_of a) (shelf_of (more a x)) name (length a.attached)
adds a x name on found none unfaulted =
    let last : ℕ = length a.attached in
    let named : name_of a.shelf x.number ≡ name = first_name a.shelf name x.number found in
    let one_more : length (a.attached ++ x ∷ []) ≡ last + 1 = length_push a.attached x in
    let numbered : number_of (a.attached ++ x ∷ []) last ≡ x.number = number_last a.attached x in
    let single : (s k : ℕ) → values_of (more a x) last s k ≡ only (a.contents x.number s) =
    λ s k. values_at-untouched a.calls last last s (a.contents (number_of (a.attached ++ x ∷ []) last) s) k on (omega arith)
    ∙ ap (λ n. only (a.contents n s)) numbered in
    let from : IsFrom (seen_of a) (seen_of (more a x)) last (waiting a x.number) =
    record {
      sectors = ap (sectors_of a.shelf) numbered;
      held = λ s within. single s (length a.calls);
      told = tt;
      shown = λ traced k c until left s within.
          let here : MayLeave (values_of (more a x) last s k) (c last s) =
          left last s (omega (arith, one_more)) (subst (λ n. s < sectors_of a.shelf n) (sym numbered) within) in
          elim (subst (λ v. MayLeave v (c last s)) (single s k) here) [ inl now ↦ now | inr older ↦ absurd older ];
      stops = λ traced k c until left shows e s within sector.
          elim (cases_lt e last) [
            | inl old ↦
                subst (λ n. MayLeave (values_at a.calls e s (a.contents n s) k) (c e s)) (sym (number_before a.attached x e old))
                (left e s old (subst (λ n. s < sectors_of a.shelf n) (number_before a.attached x e old) sector))
            | inr new ↦
                let is : last ≡ e = omega (arith, one_more) in
                subst (λ f. s < sectors_of a.shelf (number_of (a.attached ++ x ∷ []) f) → MayLeave (values_of (more a x) f s k) (c f s)) is
                (λ inside. subst (λ v. MayLeave v (c last s)) (sym (single s k)) (inl (shows s (subst (λ n. s < sectors_of a.shelf n) numbered inside))))
                sector
          ];
    } in
    record {
      number = refl;
      disks = one_more;
      clock = refl;
      others = λ e within. record {
        sectors = ap (sectors_of a.shelf) (number_before a.attached x e within);
        held = λ s. ap (λ n. values_at a.calls e s (a.contents n s) (length a.calls)) (number_before a.attached x e within);
        faults = ap (λ o. option_map_or (λ (disk : Attached). disk.faults) o 0) (slice_get-append a.attached (x ∷ []) e within);
        told = λ told. told;
      };
      unfaulted = ap (λ o. option_map_or (λ (disk : Attached). disk.faults) o 0) (slice_get-push a.attached x) ∙ unfaulted;
      traced = λ traced told. traced;
      past = λ traced k c until left e s within sector.
          subst (λ n. MayLeave (values_at a.calls e s (a.contents n s) k) (c e s)) (number_before a.attached x e within)
          (left e s (omega (arith, one_more)) (subst (λ n. s < sectors_of a.shelf n) (sym (number_before a.attached x e within)) sector));
      kept = λ traced told k c until left. (
        beside a last x.number c,
        from.stops traced k (beside a last x.number c) until
            (λ e s within sector. subst (λ v. MayLeave (values_of a e s k) v) (sym (beside-old a last x.number c e s within)) (left e s within sector))
            (λ s within. beside-last a last x.number c s),
        λ e s within. beside-old a last x.number c e s within,
      );
      steady = λ never. never;
      waited = λ told. (
        waiting a x.number,
        rw (none, found) refl,
        from,
      );
      names = map-append (λ disk. name_of a.shelf disk.number) a.attached (x ∷ []) ∙ ap (λ n. names_of a.shelf a.attached ++ n ∷ []) named;
      gone = rw (list_any-append (λ disk. bytes_eq (name_of a.shelf disk.number) name) a.attached (x ∷ []), none, passes (name_of a.shelf x.number) name named) refl;
      ready = λ n other.
          let not_it : bytes_eq (name_of a.shelf x.number) n ≡ false = fails_test (name_of a.shelf x.number) n (λ same. other (sym same ∙ named)) in
          ap (λ test. if test then None else option_map (waiting a) (first_named a.shelf n))
          (list_any-append (λ disk. bytes_eq (name_of a.shelf disk.number) n) a.attached (x ∷ []) ∙ rw not_it (or_nothing (is_attached a.shelf a.attached n)));
      told = λ told. told;
    }

-- the answer then
pub is_added : (a : Memory) (x : Attached) (name : List ℕ) → AreOn a.calls (length a.attached)
    → first_named a.shelf name ≡ Some x.number → is_attached a.shelf a.attached name ≡ false → x.faults ≡ 0
    → Attaches (seen_of a) (seen_of (more a x)) (shelf_of a) (shelf_of (more a x)) name (Ok (length a.attached))
is_added a x name on found none unfaulted = record {
  faults = omega arith;
  ok = adds a x name on found none unfaulted;
  failed = λ same. cc;
  twice = not_twice a name (Ok (length a.attached)) none (λ d same. cc);
  refused = tt;
}

-- names that differ, and one more that isn't among them
AllDiffer-push : (names : List (List ℕ)) (name : List ℕ) → ((d : ℕ) → slice_get names d ≡ Some name → ⊥) → AllDiffer names → AllDiffer (names ++ name ∷ [])
AllDiffer-push names name apart differ i j n at_i at_j =
    elim (pushed_cases names name i n at_i) [
      | inl i_old ↦ elim (pushed_cases names name j n at_j) [
        | inl j_old ↦ differ i j n i_old j_old
        | inr j_last ↦ absurd (apart i (i_old ∙ ap Some (sym j_last.1)))
      ]
      | inr i_last ↦ elim (pushed_cases names name j n at_j) [
        | inl j_old ↦ absurd (apart j (j_old ∙ ap Some (sym i_last.1)))
        | inr j_last ↦ i_last.0 ∙ sym j_last.0
      ]
    ]

-- all names still differ
pub names_differ_then : (shelf : List DiskSpec) (xs : List Attached) (x : Attached) (name : List ℕ)
    → is_attached shelf xs name ≡ false → name_of shelf x.number ≡ name → AllDiffer (names_of shelf xs) → AllDiffer (names_of shelf (xs ++ x ∷ []))
names_differ_then shelf xs x name none named differ =
    let names : List (List ℕ) = names_of shelf xs in
    let added : names_of shelf (xs ++ x ∷ []) ≡ names ++ name ∷ [] =
    map-append (λ disk. name_of shelf disk.number) xs (x ∷ []) ∙ ap (λ n. names ++ n ∷ []) named in
    subst AllDiffer (sym added) (AllDiffer-push names name (λ d. none_named (λ disk. name_of shelf disk.number) name xs d none) differ)
