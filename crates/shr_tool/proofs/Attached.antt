-- Names that are attached one after the other.
use Rattle.std.proofs.Common.{◌≡◌, ◌≢◌, ◌⊎◌, ℕ, zero, suc, ◌+◌, ◌<◌, ◌≤◌, List, [], ◌∷◌, ◌++◌, length, length-append, append_assoc, map, get_or, take, drop, slice_get, Option, Some, Result, Ok, Err, refl, sym, ◌∙◌, ap, subst, inl, inr, arith}
use Rattle.std.specs.Option.{option_and_then}
use Rattle.std.proofs.lemmas.Bool.{cases_lt}
use Rattle.std.proofs.lemmas.Option.{slice_get_within}
use Rattle.std.proofs.lemmas.List.{map-append, take_more, take-append-drop}
use Rattle.rack.specs.declared.AttachFault.{AttachFault}
use Rattle.rack.specs.declared.AttachFault.TheVariants.{Failed, Twice, Memory}
use Rattle.rack.specs.Seen.{RackView}
use Rattle.rack.specs.Shelf.{Shelf, Waiting, SameDisk, IsFrom, IsSame, Adds, Attaches}
use Rattle.rack.specs.Joins.{rose_since}
use Rattle.shr_tool.specs.Entry.{waiting_at, sectors_in, contents_in, IsWaiting}
use Rattle.shr_tool.specs.Attaching.{AreAttached, IsUnattached, HasAttachCause}
use Rattle.rack.proofs.Names.{get-push, get-last, differ_push}

-- a list without an element
no_names : (names : List (List ℕ)) → length names ≡ 0 → names ≡ []
no_names [] none = refl
no_names (n ∷ names) none = absurd (omega arith)

nothing_at : (d : ℕ) (name : List ℕ) → slice_get [] d ≡ Some name → ⊥
nothing_at d name at = cc

pub nothing_attached :
    (x : RackView) (s : Shelf) → x.disks ≡ 0 → length s.names ≡ x.disks → AreAttached x x s s []
nothing_attached x s empty numbered =
    record {
      disks = empty;
      clock = refl;
      attached = no_names s.names (numbered ∙ empty);
      differ = λ i j name at_i at_j. absurd (nothing_at i name at_i);
      faults = omega arith;
      unfaulted = λ d below. absurd (omega arith);
      traced = λ traced told. traced;
      told = λ told. told;
      others = λ n none. refl;
      waited = λ told d below. absurd (omega arith);
      past = λ told traced k i until stops d s below inside. absurd (omega arith);
    }

-- what an old disk was it still is
waiting_kept : (y z : RackView) (d : ℕ) (o : Option Waiting) → SameDisk y z d → IsWaiting y d o → IsWaiting z d o
waiting_kept y z d o same was =
    record {
      ready = was.ready;
      sectors = same.sectors ∙ was.sectors;
      held = λ s inside. same.held s ∙ was.held s inside;
      told = same.told was.told;
    }

waiting_new : (y z : RackView) (d : ℕ) (w : Waiting) → IsFrom y z d w → IsWaiting z d (Some w)
waiting_new y z d w from = record { ready = refl; sectors = from.sectors; held = from.held; told = from.told }

-- the number of a name among some and one more
old_or_last : (n m e : ℕ) → m ≡ n + 1 → e < m → (e < n) ⊎ (e ≡ n)
old_or_last n m e count below = elim (cases_lt e n) [ inl old ↦ inl old | inr last ↦ inr (omega arith) ]

not_twice :
    (y z : RackView) (t u : Shelf) (names : List (List ℕ)) (name : List ℕ) (d : ℕ)
    → t.names ≡ names
    → Attaches y z t u name (Ok d)
    → (e : ℕ)
    → slice_get names e ≡ Some name
    → ⊥
not_twice y z t u names name d are attaches e at =
    let twice : Ok d ≡ Err (Twice e) = (attaches.twice e).1 (subst (λ ns. slice_get ns e ≡ Some name) (sym are) at) in
    cc

-- a name among others isn't one more
pub other_name :
    (names : List (List ℕ)) (name n : List ℕ)
    → ((e : ℕ) → slice_get (names ++ name ∷ []) e ≢ Some n)
    → ((e : ℕ) → slice_get names e ≢ Some n) × (n ≢ name)
other_name names name n none = (
  λ e at. none e (get-push names name e (slice_get_within names e n at) ∙ at),
  λ same. none (length names) (get-last names name ∙ ap Some (sym same)),
)

attached_then :
    (x y z : RackView) (s t u : Shelf) (names : List (List ℕ)) (name : List ℕ) (d : ℕ)
    → AreAttached x y s t names
    → Attaches y z t u name (Ok d)
    → AreAttached x z s u (names ++ name ∷ [])
attached_then x y z s t u names name d old attaches =
    let adds : Adds y z t u name d = attaches.ok in
    let new = not_twice y z t u names name d old.attached attaches in
    let all = names ++ name ∷ [] in
    let count : length all ≡ length names + 1 = length-append names (name ∷ []) in
    let disks = old.disks in
    let number = adds.number in
    let same : (e : ℕ) → e < length names → waiting_at s.ready all e ≡ waiting_at s.ready names e =
    λ e below. ap (option_and_then s.ready) (get-push names name e below) in
    let last : waiting_at s.ready all (length names) ≡ s.ready name =
    ap (option_and_then s.ready) (get-last names name) in
    let here : (e : ℕ) → e ≡ length names → d ≡ e = λ e is. omega arith in
    record {
      disks = let more = adds.disks in omega arith;
      clock = adds.clock ∙ old.clock;
      attached = adds.names ∙ ap (λ ns. ns ++ name ∷ []) old.attached;
      differ = differ_push names name old.differ new;
      faults = let grows = attaches.faults in let before = old.faults in omega arith;
      unfaulted =
          λ e below.
          elim (old_or_last (length names) (length all) e count below) [
            | inl under ↦ (adds.others e (omega arith)).faults ∙ old.unfaulted e under
            | inr is ↦ subst (λ k. z.faults k ≡ 0) (here e is) adds.unfaulted
          ];
      traced = λ traced told. adds.traced (old.traced traced told) (old.told told);
      told = λ told. adds.told (old.told told);
      others =
          λ n none.
          let apart = other_name names name n none in
          adds.ready n apart.1 ∙ old.others n apart.0;
      waited =
          λ told e below.
          elim (old_or_last (length names) (length all) e count below) [
            | inl under ↦
                subst (λ o. IsWaiting z e o) (sym (same e under))
                (waiting_kept y z e (waiting_at s.ready names e) (adds.others e (omega arith)) (old.waited told e under))
            | inr is ↦
                let waits = adds.waited (old.told told) in
                let ready : s.ready name ≡ Some waits.0 = sym (old.others name new) ∙ waits.1 in
                subst (λ k. IsWaiting z k (waiting_at s.ready all k)) (sym is)
                (subst (λ o. IsWaiting z (length names) o) (sym (last ∙ ready))
                (subst (λ k. IsWaiting z k (Some waits.0)) (here (length names) refl) (waiting_new y z d waits.0 waits.2)))
          ];
      past =
          λ told traced k i until stops e sector below inside.
          let y_traced = old.traced traced told in
          let clock = old.clock in
          elim (old_or_last (length names) (length all) e count below) [
            | inl under ↦
                let before = adds.past y_traced k i (omega arith) stops in
                old.past told traced k i until before e sector under
                (subst (λ o. sector < sectors_in o) (same e under) inside)
                ∙ ap (λ o. contents_in o sector) (sym (same e under))
            | inr is ↦
                let waits = adds.waited (old.told told) in
                let ready : s.ready name ≡ Some waits.0 = sym (old.others name new) ∙ waits.1 in
                let own : waiting_at s.ready all e ≡ Some waits.0 = ap (waiting_at s.ready all) is ∙ last ∙ ready in
                let shows = waits.2.shown y_traced k i (omega arith) stops in
                ap (λ n. i n sector) (sym (here e is))
                ∙ shows sector (subst (λ o. sector < sectors_in o) own inside)
                ∙ ap (λ o. contents_in o sector) (sym own)
          ];
    }

pub attached_more :
    (x y z : RackView) (s t u : Shelf) (names : List (List ℕ)) (name : List ℕ) (r : Result ℕ AttachFault) (d : ℕ)
    → r ≡ Ok d
    → AreAttached x y s t names
    → Attaches y z t u name r
    → AreAttached x z s u (names ++ name ∷ [])
attached_more x y z s t u names name r d is old attaches =
    attached_then x y z s t u names name d old (subst (λ p. Attaches y z t u name p) is attaches)

-- a longer list has what a shorter one has at its place
longer_has :
    (xs ys : List (List ℕ)) (d : ℕ) (name : List ℕ) → slice_get xs d ≡ Some name → slice_get (xs ++ ys) d ≡ Some name
longer_has [] ys d name at = absurd (nothing_at d name at)
longer_has (x ∷ xs) ys zero name at = at
longer_has (x ∷ xs) ys (suc d) name at = longer_has xs ys d name at

fault_cause :
    (x y z : RackView) (s t u : Shelf) (names rest : List (List ℕ)) (name : List ℕ) (r : Result ℕ AttachFault) (fault : AttachFault)
    → r ≡ Err fault
    → AreAttached x y s t names
    → Attaches y z t u name r
    → HasAttachCause fault s u ((names ++ name ∷ []) ++ rest) (length names)
fault_cause x y z s t u names rest name r Failed is old attaches = rose_since old.faults (attaches.failed is)
fault_cause x y z s t u names rest name r (Twice d) is old attaches =
    let at : slice_get names d ≡ Some name = subst (λ ns. slice_get ns d ≡ Some name) old.attached ((attaches.twice d).0 is) in
    record {
      name = name;
      before = slice_get_within names d name at;
      on_first = longer_has (names ++ name ∷ []) rest d name (longer_has names (name ∷ []) d name at);
      on_second = longer_has (names ++ name ∷ []) rest (length names) name (get-last names name);
    }
fault_cause x y z s t u names rest name r Memory is old attaches = tt

-- the front of two lists
take_front : (xs ys : List (List ℕ)) → take (length xs) (xs ++ ys) ≡ xs
take_front [] ys = refl
take_front (x ∷ xs) ys = ap (λ l. x ∷ l) (take_front xs ys)

-- after a refusal the disks are as they were
attached_still :
    (x y z : RackView) (s t u : Shelf) (names : List (List ℕ))
    → s.faults ≤ u.faults
    → IsSame y z t u
    → AreAttached x y s t names
    → AreAttached x z s u names
attached_still x y z s t u names faults same old = record {
  disks = same.disks ∙ old.disks;
  clock = same.clock ∙ old.clock;
  attached = same.names ∙ old.attached;
  differ = old.differ;
  faults = faults;
  unfaulted = λ d below. (same.others d).faults ∙ old.unfaulted d below;
  traced = λ traced told. same.traced (old.traced traced told);
  told = λ told. same.told (old.told told);
  others = λ n none. same.ready n ∙ old.others n none;
  waited = λ told d below. waiting_kept y z d (waiting_at s.ready names d) (same.others d) (old.waited told d below);
  past = λ told traced k i until stops. old.past told traced k i until (same.past k i stops);
}

-- attaching stops at a name
pub unattached :
    (x y z : RackView) (s t u : Shelf) (names rest : List (List ℕ)) (name : List ℕ) (r : Result ℕ AttachFault) (fault : AttachFault) (number : ℕ)
    → r ≡ Err fault
    → number ≡ y.disks
    → AreAttached x y s t names
    → Attaches y z t u name r
    → IsUnattached x z s u ((names ++ name ∷ []) ++ rest) number fault
unattached x y z s t u names rest name r fault number is count old attaches =
    let here : number ≡ length names = count ∙ old.disks in
    let more : length (names ++ name ∷ []) ≡ length names + 1 = length-append names (name ∷ []) in
    let all : length ((names ++ name ∷ []) ++ rest) ≡ length (names ++ name ∷ []) + length rest =
    length-append (names ++ name ∷ []) rest in
    let refused : Attaches y z t u name (Err fault) = subst (λ p. Attaches y z t u name p) is attaches in
    let few = old.faults in
    let grows = attaches.faults in
    let front : take number ((names ++ name ∷ []) ++ rest) ≡ names =
    ap (λ n. take n ((names ++ name ∷ []) ++ rest)) here
    ∙ ap (take (length names)) (append_assoc names (name ∷ []) rest)
    ∙ take_front names (name ∷ rest) in
    record {
      inside = omega arith;
      cause =
          subst (λ n. HasAttachCause fault s u ((names ++ name ∷ []) ++ rest) n) (sym here)
          (fault_cause x y z s t u names rest name r fault is old attaches);
      before = subst (λ ns. AreAttached x z s u ns) (sym front) (attached_still x y z s t u names (omega arith) refused.refused old);
    }

-- the words up to a place, the one there, and the rest
pub words_more :
    {Y : Type 0} (read : Y → List ℕ) (ys : List Y) (i : ℕ) (y : Y)
    → i < length ys
    → y ≡ get_or ys i y
    → map read (take (i + 1) ys) ≡ map read (take i ys) ++ read y ∷ []
words_more read ys i y inside is =
    ap (λ t. map read t) (take_more ys i y inside)
    ∙ map-append read (take i ys) (get_or ys i y ∷ [])
    ∙ ap (λ v. map read (take i ys) ++ read v ∷ []) (sym is)

pub words_split :
    {Y : Type 0} (read : Y → List ℕ) (ys : List Y) (i : ℕ) (y : Y)
    → i < length ys
    → y ≡ get_or ys i y
    → (rest : List (List ℕ)) × (map read ys ≡ (map read (take i ys) ++ read y ∷ []) ++ rest)
words_split {Y} read ys i y inside is =
    let tail : List Y = drop (i + 1) ys in (
      map read tail,
      ap (map read) (sym (take-append-drop (i + 1) ys))
          ∙ map-append read (take (i + 1) ys) tail
          ∙ ap (λ l. l ++ map read tail) (words_more read ys i y inside is),
    )
