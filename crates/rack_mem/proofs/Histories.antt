-- The values of a sector when one more call is kept.
use Rattle.std.proofs.Common.{◌≡◌, ℕ, zero, suc, ◌<◌, ◌≤◌, List, [], ◌∷◌, ◌++◌, length, Some, None, refl, ap, sym, subst, ◌∙◌, arith, inl, inr, true, false, ◌==◌, ◌&&◌, if◌then◌else◌, add-one, Option}
use Rattle.std.specs.Prelude.{slice_get}
use Rattle.std.proofs.lemmas.Bool.Decides.{nat_tests}
use Rattle.rack.specs.Values.{Values, append, only}
use Rattle.rack_mem.specs.declared.calls.Call.{Call}
use Rattle.rack_mem.specs.declared.calls.Call.TheVariants.{Quiet, Write, Sync}
use Rattle.std.proofs.lemmas.Option.{slice_get_within}
use Rattle.std.proofs.lemmas.List.{length_push}
use Rattle.std.proofs.lemmas.Bool.{cases_lt}
use Rattle.rack_mem.specs.History.{after_call, after_any, values_at, value_of, written_by, touches, IsIndex, IsOn, AreOn}
use Rattle.rack_mem.proofs.Lists.{slice_get-append, slice_get-push}

-- the values at earlier moments stay
pub values_at-push : (calls : List Call) (call : Call) (d s : ℕ) (first : List ℕ) (k : ℕ) → k ≤ length calls
    → values_at (calls ++ call ∷ []) d s first k ≡ values_at calls d s first k
values_at-push calls call d s first zero h = refl
values_at-push calls call d s first (suc k) h =
    rw (slice_get-append calls (call ∷ []) k (omega arith), values_at-push calls call d s first k (omega arith)) refl

-- and those after the call follow from it
pub values_at-pushed : (calls : List Call) (call : Call) (d s : ℕ) (first : List ℕ)
    → values_at (calls ++ call ∷ []) d s first (suc (length calls)) ≡ after_call call d s (values_at calls d s first (length calls))
values_at-pushed calls call d s first =
    rw (slice_get-push calls call, values_at-push calls call d s first (length calls) (omega arith)) refl

-- a call that doesn't touch a disk keeps its values
after_untouched : (call : Call) (d s : ℕ) (v : Values) → touches call d ≡ false → after_call call d s v ≡ v
after_untouched Quiet d s v h = refl
after_untouched (Write disk sector value) d s v h = rw h refl
after_untouched (Sync disk) d s v h = rw h refl

-- a disk that no call touches has the one value that it had before them
pub values_at-untouched : (calls : List Call) (disks d s : ℕ) (first : List ℕ) (k : ℕ) → AreOn calls disks → disks ≤ d
    → values_at calls d s first k ≡ only first
values_at-untouched calls disks d s first zero on h = refl
values_at-untouched calls disks d s first (suc k) on h =
    let before = values_at-untouched calls disks d s first k on h in
    let Same : Option Call → Type 0 = λ o. slice_get calls k ≡ o → after_any o d s (only first) ≡ only first in
    let step : Same (slice_get calls k) =
    elim (slice_get calls k) as Same [
      | None ↦ λ e. refl
      | Some call ↦ λ e. after_untouched call d s (only first) (on k call e d h)
    ] in
    ap (after_any (slice_get calls k) d s) before ∙ step refl

-- one more call on the first disks
pub AreOn-push : (calls : List Call) (call : Call) (disks : ℕ) → AreOn calls disks → IsOn call disks → AreOn (calls ++ call ∷ []) disks
AreOn-push calls call disks on now k other e =
    elim (cases_lt k (length calls)) [
      | inl old ↦ on k other (sym (slice_get-append calls (call ∷ []) k old) ∙ e)
      | inr last ↦
          let within : k < length (calls ++ call ∷ []) = slice_get_within (calls ++ call ∷ []) k other e in
          let here : length calls ≡ k = omega (arith, length_push calls call) in
          let same : Some call ≡ Some other = sym (slice_get-push calls call) ∙ ap (slice_get (calls ++ call ∷ [])) here ∙ e in
          subst (λ c. IsOn c disks) (cc) now
    ]

-- the value by number stays when a call is added
written_by-push : (calls : List Call) (call : Call) (last : Option ℕ) (first : List ℕ)
    → ((n : ℕ) → last ≡ Some n → n < length calls) → written_by (calls ++ call ∷ []) last first ≡ written_by calls last first
written_by-push calls call None first below = refl
written_by-push calls call (Some n) first below = rw (slice_get-append calls (call ∷ []) n (below n refl)) refl

-- a call that writes nothing changes no current value
after_current : (call : Call) (d s : ℕ) (v : Values) → value_of call ≡ None → (after_call call d s v).current ≡ v.current
after_current Quiet d s v h = refl
after_current (Write disk sector value) d s v h = cc
after_current (Sync disk) d s v h =
    elim (d == disk) as (λ test. (if test then only v.current else v).current ≡ v.current) [ true ↦ refl | false ↦ refl ]

-- an index stays one when a call is added that writes nothing
pub IsIndex-push : (calls : List Call) (call : Call) (last : ℕ → ℕ → Option ℕ) → value_of call ≡ None
    → IsIndex calls last → IsIndex (calls ++ call ∷ []) last
IsIndex-push calls call last quiet index = record {
  below = λ d s n e. let old : n < length calls = index.below d s n e in omega (arith, length_push calls call);
  current = λ d s first.
      rw (
        length_push calls call,
        add-one,
        values_at-pushed calls call d s first,
        after_current call d s (values_at calls d s first (length calls)) quiet,
        written_by-push calls call (last d s) first (index.below d s),
      ) (index.current d s first);
}

-- an index stays one when a write is added and its number is put in
pub IsIndex-write : (calls : List Call) (last next : ℕ → ℕ → Option ℕ) (disk sector : ℕ) (value : List ℕ)
    → ((d s : ℕ) → next d s ≡ (if (d == disk) && (s == sector) then Some (length calls) else last d s))
    → IsIndex calls last → IsIndex (calls ++ Write disk sector value ∷ []) next
IsIndex-write calls last next disk sector value put index =
    let write : Call = Write disk sector value in
    let more : List Call = calls ++ write ∷ [] in
    record {
      below = λ d s n e.
          elim ((d == disk) && (s == sector)) as (λ test. (if test then Some (length calls) else last d s) ≡ Some n → n < length more) [
            | true ↦ λ here. let last_one : length calls ≡ n = cc in omega (arith, length_push calls write)
            | false ↦ λ there. let old : n < length calls = index.below d s n there in omega (arith, length_push calls write)
          ] (sym (put d s) ∙ e);
      current = λ d s first.
          let before : Values = values_at calls d s first (length calls) in
          rw (length_push calls write, add-one, values_at-pushed calls write d s first, put d s)
          (elim ((d == disk) && (s == sector)) as
          (λ test. (if test then append before value else before).current ≡ written_by more (if test then Some (length calls) else last d s) first) [
            | true ↦ rw (slice_get-push calls write) refl
            | false ↦ index.current d s first ∙ sym (written_by-push calls write (last d s) first (index.below d s))
          ]);
    }

-- a number isn't one from which it is below on
apart : (a b n : ℕ) → a < n → n ≤ b → (b == a) ≡ false
apart a b n below from = grind (arith, nat_tests)

-- a write and a sync are on the disks before any number above theirs
pub write_is_on : (disk sector : ℕ) (value : List ℕ) (disks : ℕ) → disk < disks → IsOn (Write disk sector value) disks
write_is_on disk sector value disks h d later = apart disk d disks h later

pub sync_is_on : (disk disks : ℕ) → disk < disks → IsOn (Sync disk) disks
sync_is_on disk disks h d later = apart disk d disks h later

-- with no calls, no write has a number
pub IsIndex-empty : (calls : List Call) (last : ℕ → ℕ → Option ℕ) → calls ≡ [] → ((d s : ℕ) → last d s ≡ None) → IsIndex calls last
IsIndex-empty calls last empty none = record {
  below = λ d s n e. let nothing : None ≡ Some n = sym (none d s) ∙ e in cc;
  current = λ d s first. rw (empty, none d s) refl;
}

-- calls on the first disks are on more disks
pub AreOn-more : (calls : List Call) (disks more : ℕ) → disks ≤ more → AreOn calls disks → AreOn calls more
AreOn-more calls disks more h on k call at d later = on k call at d (omega arith)
