-- Lemmas on a list of attached disks.
use Rattle.std.proofs.Common.{◌≡◌, ◌⊎◌, ℕ, zero, suc, ◌+◌, ◌<◌, ◌≤◌, List, [], ◌∷◌, ◌++◌, length, Bool, true, false, if◌then◌else◌, min, slice_get, slice_set, option_map, Result, Ok, Err, IfOk, IfErr, length-append, Option, Some, None, length-set, refl, sym, ◌∙◌, ap, subst, inl, inr, arith}
use Rattle.rack.specs.Seen.{Rose}
use Rattle.pool_lab.specs.declared.attached.Attached.{Attached}
use Rattle.rack.specs.Shelf.{Attaches}
use Rattle.rack.specs.declared.AttachFault.{AttachFault}
use Rattle.rack.specs.declared.AttachFault.TheVariants.{Memory}
use Rattle.std.proofs.lemmas.Bool.{cases_lt}
use Rattle.std.proofs.lemmas.Option.{slice_get-map, slice_get_within}
use Rattle.std.proofs.lemmas.List.{length-map}
use Rattle.pool_lab.specs.Disks.{sectors_of, faults_of, names_of, bay_seen, bay_shelf, Differ, NotesFault}

-- nothing stands in an empty list
some_is_not_none : (k : ℕ) (old : Attached) → slice_get [] k ≡ Some old → ⊥
some_is_not_none k old at = cc

-- the name of a disk, where there is one
name_of : Option Attached → List ℕ
name_of None = []
name_of (Some disk) = disk.name

-- a disk in the place of one of as many sectors
sectors_kept :
    (disks : List Attached) (k : ℕ) (new old : Attached)
    → slice_get disks k ≡ Some old
    → new.sectors ≡ old.sectors
    → (d : ℕ)
    → sectors_of (slice_get (slice_set disks k new) d) ≡ sectors_of (slice_get disks d)
sectors_kept [] k new old at same d = refl
sectors_kept (x ∷ disks) zero new old at same zero = same ∙ ap sectors_of (sym at)
sectors_kept (x ∷ disks) zero new old at same (suc d) = refl
sectors_kept (x ∷ disks) (suc k) new old at same zero = refl
sectors_kept (x ∷ disks) (suc k) new old at same (suc d) = sectors_kept disks k new old at same d

-- a disk in the place of one of the same name
pub names_kept :
    (disks : List Attached) (k : ℕ) (new old : Attached)
    → slice_get disks k ≡ Some old
    → new.name ≡ old.name
    → names_of (slice_set disks k new) ≡ names_of disks
unfolding name_of
names_kept [] k new old at same = refl
names_kept (x ∷ disks) zero new old at same =
    let named : old.name ≡ x.name = ap name_of (sym at) in ap (λ n. n ∷ names_of disks) (same ∙ named)
names_kept (x ∷ disks) (suc k) new old at same = ap (λ names. x.name ∷ names) (names_kept disks k new old at same)

-- a disk in the place of one of no more faults
faults_grow :
    (disks : List Attached) (k : ℕ) (new old : Attached)
    → slice_get disks k ≡ Some old
    → old.faults ≤ new.faults
    → (d : ℕ)
    → faults_of (slice_get disks d) ≤ faults_of (slice_get (slice_set disks k new) d)
faults_grow [] k new old at grows d = omega arith
faults_grow (x ∷ disks) zero new old at grows zero =
    let same : faults_of (Some x) ≡ faults_of (Some old) = ap faults_of at in omega arith
faults_grow (x ∷ disks) zero new old at grows (suc d) = omega arith
faults_grow (x ∷ disks) (suc k) new old at grows zero = omega arith
faults_grow (x ∷ disks) (suc k) new old at grows (suc d) = faults_grow disks k new old at grows d

-- the disk now in a place
set_at :
    (disks : List Attached) (k : ℕ) (new old : Attached)
    → slice_get disks k ≡ Some old
    → slice_get (slice_set disks k new) k ≡ Some new
set_at [] k new old at = absurd (some_is_not_none k old at)
set_at (x ∷ disks) zero new old at = refl
set_at (x ∷ disks) (suc k) new old at = set_at disks k new old at

-- one disk more fault
pub noted :
    (disks : List Attached) (k : ℕ) (new old : Attached)
    → slice_get disks k ≡ Some old
    → new.name ≡ old.name
    → new.sectors ≡ old.sectors
    → old.faults ≤ new.faults
    → Rose old.faults new.faults
    → NotesFault disks (slice_set disks k new) k
noted disks k new old at name sectors grows rose =
    record {
      disks = length-set disks k new;
      names = names_kept disks k new old at name;
      sectors = sectors_kept disks k new old at sectors;
      faults = faults_grow disks k new old at grows;
      rose =
          subst (λ d. Rose (faults_of d) (faults_of (slice_get (slice_set disks k new) k))) (sym at)
          (subst (λ d. Rose old.faults (faults_of d)) (sym (set_at disks k new old at)) rose);
    }

-- what stands in a list with one more
pub get-push_cases :
    {A : Type 0} (xs : List A) (y v : A) (i : ℕ)
    → slice_get (xs ++ y ∷ []) i ≡ Some v
    → (slice_get xs i ≡ Some v) ⊎ ((i ≡ length xs) × (v ≡ y))
get-push_cases [] y v zero at = inr (refl, (cc))
get-push_cases [] y v (suc i) at = inl at
get-push_cases (x ∷ xs) y v zero at = inl at
get-push_cases (x ∷ xs) y v (suc i) at =
    elim (get-push_cases xs y v i at) [
      | inl old ↦ inl old
      | inr new ↦ inr (ap suc new.0, new.1)
    ]

-- what stood in a list stands there with one more
pub get-push : {A : Type 0} (xs : List A) (y : A) (i : ℕ) → i < length xs → slice_get (xs ++ y ∷ []) i ≡ slice_get xs i
get-push [] y i inside = absurd (omega arith)
get-push (x ∷ xs) y zero inside = refl
get-push (x ∷ xs) y (suc i) inside = get-push xs y i (omega arith)

-- the one more stands last
pub get-last : {A : Type 0} (xs : List A) (y : A) → slice_get (xs ++ y ∷ []) (length xs) ≡ Some y
get-last [] y = refl
get-last (x ∷ xs) y = get-last xs y

-- the names with one more
pub names-push :
    (disks : List Attached) (new : Attached)
    → names_of (disks ++ new ∷ []) ≡ names_of disks ++ new.name ∷ []
names-push [] new = refl
names-push (x ∷ disks) new = ap (λ names. x.name ∷ names) (names-push disks new)

-- names that differ from one more differ with it
pub differ_push :
    (names : List (List ℕ)) (new : List ℕ)
    → Differ names
    → ((d : ℕ) → slice_get names d ≡ Some new → ⊥)
    → Differ (names ++ new ∷ [])
differ_push names new differ none i j name at_i at_j =
    elim (get-push_cases names new name i at_i) [
      | inl old_i ↦
          elim (get-push_cases names new name j at_j) [
            | inl old_j ↦ differ i j name old_i old_j
            | inr new_j ↦ absurd (none i (subst (λ n. slice_get names i ≡ Some n) new_j.1 old_i))
          ]
      | inr new_i ↦
          elim (get-push_cases names new name j at_j) [
            | inl old_j ↦ absurd (none j (subst (λ n. slice_get names j ≡ Some n) new_i.1 old_j))
            | inr new_j ↦ new_i.0 ∙ sym new_j.0
          ]
    ]

pub differ_more :
    (disks : List Attached) (new : Attached)
    → Differ (names_of disks)
    → ((d : ℕ) → slice_get (names_of disks) d ≡ Some new.name → ⊥)
    → Differ (names_of (disks ++ new ∷ []))
differ_more disks new differ none =
    subst Differ (sym (names-push disks new)) (differ_push (names_of disks) new.name differ none)

-- the name of the disk in a place
pub name_at :
    (disks : List Attached) (d : ℕ) (disk : Attached)
    → slice_get disks d ≡ Some disk
    → slice_get (names_of disks) d ≡ Some disk.name
name_at disks d disk at = slice_get-map (λ disk. disk.name) disks d ∙ ap (option_map (λ disk. disk.name)) at

-- a disk was attached
pub attached :
    (disks : List Attached) (new : Attached) (faults : ℕ) (name : List ℕ)
    → new.name ≡ name
    → new.faults ≡ 0
    → ((d : ℕ) → slice_get (names_of disks) d ≡ Some name → ⊥)
    → Attaches
    (bay_seen disks)
    (bay_seen (disks ++ new ∷ []))
    (bay_shelf disks faults)
    (bay_shelf (disks ++ new ∷ []) faults)
    name
    (Ok (length disks))
attached disks new faults name named unfaulted none =
    record {
      faults = omega arith;
      ok =
          record {
            number = refl;
            disks = simp length-append (omega arith);
            clock = refl;
            others =
                λ e inside.
                let same = get-push disks new e inside in
                record {
                  sectors = ap sectors_of same;
                  held = λ s. refl;
                  faults = ap faults_of same;
                  told = λ told. told;
                };
            unfaulted = ap faults_of (get-last disks new) ∙ unfaulted;
            traced = λ traced told. traced;
            past = λ traced k c until stops. stops;
            kept = λ traced told k c until stops. absurd traced;
            steady = λ steady. steady;
            waited = λ told. absurd told;
            names = names-push disks new ∙ ap (λ n. names_of disks ++ n ∷ []) named;
            gone = refl;
            ready = λ n other. refl;
            told = λ told. told;
          };
      failed = λ same. cc;
      twice = λ d. ((λ same. cc), (λ at. absurd (none d at)));
      refused = tt;
    }

-- a count that stands still at its last value
pub rose_more : (a b : ℕ) → b ≡ min (a + 1) 18446744073709551615 → Rose a b
rose_more a b is =
    elim (cases_lt a 18446744073709551615) [
      | inl below ↦ inl (omega arith)
      | inr above ↦ inr (omega arith)
    ]

pub grows_more : (a b : ℕ) → a < 18446744073709551616 → b ≡ min (a + 1) 18446744073709551615 → a ≤ b
grows_more a b counted is = omega arith

-- the name in a place is that of its disk
pub name_is :
    (disks : List Attached) (d : ℕ) (disk : Attached) (name : List ℕ)
    → slice_get disks d ≡ Some disk
    → slice_get (names_of disks) d ≡ Some name
    → disk.name ≡ name
name_is disks d disk name at named = let found = name_at disks d disk at in cc

-- no disk has a name that none of all of them has
pub none_named :
    (disks : List Attached) (count : ℕ) (name : List ℕ)
    → length disks ≤ count
    → ((d : ℕ) → d < count → slice_get (names_of disks) d ≡ Some name → ⊥)
    → (d : ℕ)
    → slice_get (names_of disks) d ≡ Some name
    → ⊥
none_named disks count name all none d at =
    let inside = slice_get_within (names_of disks) d name at in
    let same = length-map disks (λ disk. disk.name) in
    none d (omega arith) at

-- a disk that may have been added leaves names that differ
pub differ_if :
    (q : Bool) (disks : List Attached) (new : Attached)
    → Differ (names_of disks)
    → ((d : ℕ) → slice_get (names_of disks) d ≡ Some new.name → ⊥)
    → Differ (names_of (if q then disks ++ new ∷ [] else disks))
differ_if true disks new differ none = differ_more disks new differ none
differ_if false disks new differ none = differ

pub few_if :
    (q : Bool) (disks : List Attached) (new : Attached)
    → length disks < 65536
    → length (if q then disks ++ new ∷ [] else disks) ≤ 65536
few_if true disks new few = simp length-append (omega arith)
few_if false disks new few = omega arith

-- nothing was attached for want of memory
not_attached :
    (disks : List Attached) (faults : ℕ) (name : List ℕ)
    → ((d : ℕ) → slice_get (names_of disks) d ≡ Some name → ⊥)
    → Attaches (bay_seen disks) (bay_seen disks) (bay_shelf disks faults) (bay_shelf disks faults) name (Err Memory)
not_attached disks faults name none =
    record {
      faults = omega arith;
      ok = tt;
      failed = λ same. cc;
      twice = λ d. ((λ same. cc), (λ at. absurd (none d at)));
      refused =
          record {
            disks = refl;
            clock = refl;
            others = λ e. record { sectors = refl; held = λ s. refl; faults = refl; told = λ told. told };
            traced = λ traced. traced;
            steady = λ steady. steady;
            past = λ k c stops. stops;
            kept = λ k c stops. stops;
            names = refl;
            ready = λ n. refl;
            told = λ told. told;
          };
    }

-- a disk was added, or there was no memory
pub attached_or_not :
    (disks disks' : List Attached) (new : Attached) (faults faults' : ℕ) (name : List ℕ)
    (result : Result ℕ AttachFault)
    → new.name ≡ name
    → new.faults ≡ 0
    → ((d : ℕ) → slice_get (names_of disks) d ≡ Some name → ⊥)
    → faults' ≡ faults
    → IfOk result (λ number. (number ≡ length disks) × (disks' ≡ disks ++ new ∷ []))
    → IfErr result (λ e. (e ≡ Memory) × (disks' ≡ disks))
    → Attaches (bay_seen disks) (bay_seen disks') (bay_shelf disks faults) (bay_shelf disks' faults') name result
attached_or_not disks disks' new faults faults' name (Ok number) named unfaulted none same added refused =
    rw (same, added.0, added.1) (attached disks new faults name named unfaulted none)
attached_or_not disks disks' new faults faults' name (Err e) named unfaulted none same added refused =
    rw (same, refused.0, refused.1) (not_attached disks faults name none)
