-- Lists of places, and those of them that are left.
use Rattle.std.proofs.Common.{◌≡◌, ℕ, ◌≤◌, ◌&&◌, ◌||◌, nat_lt, Bool, true, false, cond, List, [], ◌∷◌, map, filter, find, Option, Some, None, is_some, refl, sym, ap, ap₂, ◌∙◌, inl, inr, arith, lt-ltb, le-ltb}
use Rattle.std.specs.List.{list_all, list_any}
use Rattle.std.proofs.lemmas.Bool.{cases_Bool, cases_lt, both_ways, cond-true, cond-false}
use Rattle.array_image.specs.Foremost.{ahead, foremost}
use Rattle.array_image.specs.Record.{GateAt}
use Rattle.log_laws.specs.View.{names}
use Rattle.commit_log.specs.Scans.{number_of}
use Rattle.commit_log.proofs.Deciding.{names_first, names_later, names_either}

pub filter_in : (f : ℕ → Bool) (k : ℕ) (ks : List ℕ) → f k ≡ true → filter f (k ∷ ks) ≡ k ∷ filter f ks
filter_in f k ks is = cond-true (f k) (k ∷ filter f ks) (filter f ks) is

pub filter_out : (f : ℕ → Bool) (k : ℕ) (ks : List ℕ) → f k ≡ false → filter f (k ∷ ks) ≡ filter f ks
filter_out f k ks is = cond-false (f k) (k ∷ filter f ks) (filter f ks) is

-- the others have nothing
abbrev pub AreOnly : {X : Type 0} → (ℕ → Bool) → X → (ℕ → X) → (ℕ → X) → Type 0
AreOnly f none h e = ((p : ℕ) → f p ≡ true → h p ≡ e p) × ((p : ℕ) → f p ≡ false → e p ≡ none)

pub foremost_left : (f : ℕ → Bool) (h e : ℕ → Option GateAt) (ks : List ℕ) → AreOnly f None h e
    → foremost number_of (map h (filter f ks)) ≡ foremost number_of (map e ks)
unfolding foremost
foremost_left f h e [] only = refl
foremost_left f h e (k ∷ ks) only =
    elim (cases_Bool (f k)) [
      | inl is ↦
          ap (λ ps. foremost number_of (map h ps)) (filter_in f k ks is) ∙ ap (λ o. foremost number_of (o ∷ map h (filter f ks))) (only.0 k is)
          ∙ first (e k) (foremost_left f h e ks only)
      | inr other ↦
          ap (λ ps. foremost number_of (map h ps)) (filter_out f k ks other) ∙ foremost_left f h e ks only
          ∙ ap (λ o. foremost number_of (o ∷ map e ks)) (sym (only.1 k other))
    ]
  where
    first : (o : Option GateAt) → foremost number_of (map h (filter f ks)) ≡ foremost number_of (map e ks)
        → foremost number_of (o ∷ map h (filter f ks)) ≡ foremost number_of (o ∷ map e ks)
    first None same = same
    first (Some x) same = ap (ahead number_of x) same

pub all_left : (test : Option GateAt → Bool) (f : ℕ → Bool) (h e : ℕ → Option GateAt) (ks : List ℕ) → test None ≡ true → AreOnly f None h e
    → list_all test (map h (filter f ks)) ≡ list_all test (map e ks)
all_left test f h e [] none only = refl
all_left test f h e (k ∷ ks) none only =
    elim (cases_Bool (f k)) [
      | inl is ↦ ap (λ ps. list_all test (map h ps)) (filter_in f k ks is) ∙ ap₂ (λ o b. test o && b) (only.0 k is) (all_left test f h e ks none only)
      | inr other ↦
          ap (λ ps. list_all test (map h ps)) (filter_out f k ks other) ∙ all_left test f h e ks none only
          ∙ ap (λ b. b && list_all test (map e ks)) (sym (ap test (only.1 k other) ∙ none))
    ]

pub any_left : (f g e : ℕ → Bool) (ks : List ℕ) → AreOnly f false g e → list_any g (filter f ks) ≡ list_any e ks
any_left f g e [] only = refl
any_left f g e (k ∷ ks) only =
    elim (cases_Bool (f k)) [
      | inl is ↦ ap (list_any g) (filter_in f k ks is) ∙ ap₂ (λ b d. b || d) (only.0 k is) (any_left f g e ks only)
      | inr other ↦ ap (list_any g) (filter_out f k ks other) ∙ any_left f g e ks only ∙ ap (λ b. b || list_any e ks) (sym (only.1 k other))
    ]

pub find_left : (f g e : ℕ → Bool) (ks : List ℕ) → AreOnly f false g e → find g (filter f ks) ≡ find e ks
find_left f g e [] only = refl
find_left f g e (k ∷ ks) only =
    elim (cases_Bool (f k)) [
      | inl is ↦ ap (find g) (filter_in f k ks is) ∙ ap₂ (λ b o. cond b (Some k) o) (only.0 k is) (find_left f g e ks only)
      | inr other ↦ ap (find g) (filter_out f k ks other) ∙ find_left f g e ks only ∙ ap (λ b. cond b (Some k) (find e ks)) (sym (only.1 k other))
    ]

-- what is found tells whether there is one
pub any_found : (g : ℕ → Bool) (ks : List ℕ) → is_some (find g ks) ≡ list_any g ks
any_found g [] = refl
any_found g (k ∷ ks) = of_test (g k) (any_found g ks)
  where
    of_test : (b : Bool) → is_some (find g ks) ≡ list_any g ks → is_some (cond b (Some k) (find g ks)) ≡ (b || list_any g ks)
    of_test true later = refl
    of_test false later = later

pub any_named : {X : Type 0} (test : X → Bool) (h : ℕ → X) (ks : List ℕ) (p : ℕ) → names ks p ≡ true → test (h p) ≡ true → list_any test (map h ks) ≡ true
any_named test h [] p named is = absurd (both_ways false refl named)
any_named test h (k ∷ ks) p named is =
    elim (names_either k ks p named) [
      | inl here ↦ ap (λ b. b || list_any test (map h ks)) (ap (λ q. test (h q)) here ∙ is)
      | inr later ↦ or_true (test (h k)) (list_any test (map h ks)) (any_named test h ks p later is)
    ]
  where
    or_true : (b c : Bool) → c ≡ true → (b || c) ≡ true
    or_true true c is = refl
    or_true false c is = is

pub any_one : {X : Type 0} (test : X → Bool) (h : ℕ → X) (ks : List ℕ) → list_any test (map h ks) ≡ true → (p : ℕ) × (names ks p ≡ true) × (test (h p) ≡ true)
any_one test h [] is = absurd (both_ways false refl is)
any_one test h (k ∷ ks) is =
    elim (cases_Bool (test (h k))) [
      | inl here ↦ (k, names_first k ks, here)
      | inr not_here ↦
          let later = any_one test h ks (sym (ap (λ b. b || list_any test (map h ks)) not_here) ∙ is) in
          (later.0, names_later k ks later.0 later.1, later.2)
    ]

-- none has a greater number than the foremost
pub foremost_most : (h : ℕ → Option GateAt) (ks : List ℕ) (p : ℕ) (x : GateAt) → names ks p ≡ true → h p ≡ Some x
    → (z : GateAt) × (foremost number_of (map h ks) ≡ Some z) × (number_of x ≤ number_of z)
unfolding foremost
foremost_most h [] p x named is = absurd (both_ways false refl named)
foremost_most h (k ∷ ks) p x named is =
    elim (names_either k ks p named) [
      | inl here ↦
          let first : h k ≡ Some x = ap h here ∙ is in
          let z = of_ahead (foremost number_of (map h ks)) in
          (z.0, ap (λ o. foremost number_of (o ∷ map h ks)) first ∙ z.1, z.2)
      | inr later ↦ of_first (h k) (foremost_most h ks p x later is)
    ]
  where
    of_ahead : (o : Option GateAt) → (z : GateAt) × (ahead number_of x o ≡ Some z) × (number_of x ≤ number_of z)
    of_ahead None = (x, refl, omega arith)
    of_ahead (Some y) =
        elim (cases_lt (number_of x) (number_of y)) [
          | inl less ↦ (y, cond-true (nat_lt (number_of x) (number_of y)) (Some y) (Some x) (lt-ltb (number_of x) (number_of y) less), omega (arith, less))
          | inr le ↦ (x, cond-false (nat_lt (number_of x) (number_of y)) (Some y) (Some x) (le-ltb (number_of x) (number_of y) le), omega arith)
        ]

    of_first : (o : Option GateAt) → (z : GateAt) × (foremost number_of (map h ks) ≡ Some z) × (number_of x ≤ number_of z)
        → (z : GateAt) × (foremost number_of (o ∷ map h ks) ≡ Some z) × (number_of x ≤ number_of z)
    of_first None z = z
    of_first (Some w) z =
        elim (cases_lt (number_of w) (number_of z.0)) [
          | inl less ↦
              (z.0, ap (ahead number_of w) z.1 ∙ cond-true (nat_lt (number_of w) (number_of z.0)) (Some z.0) (Some w) (lt-ltb (number_of w) (number_of z.0) less), z.2)
          | inr le ↦
              (w, ap (ahead number_of w) z.1 ∙ cond-false (nat_lt (number_of w) (number_of z.0)) (Some z.0) (Some w) (le-ltb (number_of w) (number_of z.0) le), omega (arith, le, z.2))
        ]
