-- How the pool stands is said of its book, and nothing is called.
use Rattle.std.specs.List.{range_with_len}
use Rattle.std.specs.Prelude.{flat_map}
use Rattle.std.proofs.Common.{◌≡◌, ℕ, zero, suc, ◌+◌, List, [], ◌∷◌, ◌++◌, append_assoc, refl, sym, ap, ◌∙◌, inl, arith}
use Rattle.std.proofs.lemmas.List.{append-nil}
use Rattle.rack.specs.Moments.{IsSound}
use Rattle.pool.specs.View.{View, book, volume}
use Rattle.pool.specs.Volume.{unchanged}
use Rattle.pool.proofs.Booked.{raises_still}
use Rattle.pool.proofs.Doing.{does_none}
use Rattle.pool.proofs.Keeping.{marks_same, passes_same}
use Rattle.shr_tool.proofs.Filled.{works_same}
use Rattle.shr_tool.specs.Events.Event.{shown}
use Rattle.shr_tool.specs.StatusText.{status_text}
use Rattle.shr_tool.specs.Timeline.{LineContract}
use Rattle.shr_tool.proofs.Performing.{marks_for, performs_by}

pub show_done :
    (x : View) (text : List ℕ)
    → (volume x).fit
    → (x.bay.traced → IsSound (volume x))
    → text ≡ status_text x.linear (book x)
    → LineContract x x (shown text) text
show_done x text fit sound is =
    performs_by x x (shown text) text unchanged unchanged refl (λ none. refl) (passes_same x fit) (raises_still 1 x) (λ none. works_same x) is
    (marks_for x x (shown text) (passes_same x fit) (marks_same x (λ place. ⊥)))
    (λ a sized. refl)
    (λ a holds. refl)
    (λ a holds. inl refl)
    (does_none x (passes_same x fit) sound)

-- ---- the text

-- the lines of one number more
lines_from : (f : ℕ → List ℕ) (a n : ℕ) → flat_map f (range_with_len a (suc n)) ≡ flat_map f (range_with_len a n) ++ f (a + n)
lines_from f a zero = let same : a ≡ a + 0 = omega arith in append-nil (f a) ∙ ap f same
lines_from f a (suc n) =
    let same : a + 1 + n ≡ a + suc n = omega arith in
    ap (λ (xs : List ℕ). f a ++ xs) (lines_from f (a + 1) n ∙ ap (λ (k : ℕ). flat_map f (range_with_len (a + 1) n) ++ f k) same)
    ∙ sym (append_assoc (f a) (flat_map f (range_with_len (a + 1) n)) (f (a + suc n)))

pub lines_more : (f : ℕ → List ℕ) (n : ℕ) → flat_map f (range_with_len 0 (n + 1)) ≡ flat_map f (range_with_len 0 n) ++ f n
lines_more f n =
    let same : n + 1 ≡ suc n = omega arith in
    let here : 0 + n ≡ n = omega arith in
    ap (λ (k : ℕ). flat_map f (range_with_len 0 k)) same ∙ lines_from f 0 n ∙ ap (λ (k : ℕ). flat_map f (range_with_len 0 n) ++ f k) here

-- parts that are added one after the other, each the same as one of these
pub text_whole :
    (p d a w n p' d' w' n' t0 t1 t2 t3 t4 t5 t6 : List ℕ)
    → p' ≡ p → d' ≡ d → w' ≡ w → n' ≡ n
    → t0 ≡ [] → t1 ≡ t0 ++ p' → t2 ≡ t1 ++ d' → t3 ≡ t2 ++ a → t4 ≡ t3 ++ w' → t5 ≡ t4 ++ 10 ∷ [] → t6 ≡ t5 ++ n'
    → t6 ≡ p ++ d ++ a ++ (w ++ 10 ∷ []) ++ n
text_whole p d a w n p' d' w' n' t0 t1 t2 t3 t4 t5 t6 same_p same_d same_w same_n none one two three four five six =
    rw (six, five, four, three, two, one, none, same_p, same_d, same_w, same_n) (simp append_assoc)
