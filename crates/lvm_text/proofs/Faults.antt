-- A fault of one step is the fault of all.
use Rattle.std.proofs.Common.{◌≡◌, ℕ, suc, ◌+◌, ◌-◌, ◌<◌, ◌≤◌, arith, List, ◌∷◌, ◌++◌, [], Result, Ok, Err, refl, ap, sym, ◌∙◌, append_assoc}
use Rattle.lvm_text.specs.declared.group.TextFault.{TextFault}
use Rattle.lvm_text.specs.declared.group.TextFault.TheVariants as fault
use Rattle.std.proofs.lemmas.List.{append-nil}
use Rattle.lvm_text.specs.declared.group.Segment.{Segment}
use Rattle.lvm_text.specs.declared.words.Word.{Word}
use Rattle.lvm_text.specs.Group.{◌>>=◌, Fails, segment_numbered, segments_at, with_first}

pub fails_first : {A B : Type 0} (e : TextFault) (r : Result A TextFault) (f : A → Result B TextFault) → Fails e r → Fails e (r >>= f)
fails_first fault.Memory r f h = tt
fails_first (fault.Syntax at) r f h = ap (λ (x : _). x >>= f) h
fails_first (fault.Missing key) r f h = ap (λ (x : _). x >>= f) h
fails_first (fault.Range key) r f h = ap (λ (x : _). x >>= f) h

pub fails_next : {A B : Type 0} (e : TextFault) (r : Result A TextFault) (x : A) (f : A → Result B TextFault) → r ≡ Ok x → Fails e (f x) → Fails e (r >>= f)
fails_next fault.Memory r x f is h = tt
fails_next (fault.Syntax at) r x f is h = ap (λ (y : _). y >>= f) is ∙ h
fails_next (fault.Missing key) r x f is h = ap (λ (y : _). y >>= f) is ∙ h
fails_next (fault.Range key) r x f is h = ap (λ (y : _). y >>= f) is ∙ h

-- what was read before, and what is still read
abbrev pub with_front : {X : Type 0} → List X → Result (List X) TextFault → Result (List X) TextFault
with_front front read = read >>= (λ xs. Ok (front ++ xs))

regroup : {X : Type 0} (front : List X) (x : X) (read : Result (List X) TextFault) → with_front front (with_first x read) ≡ with_front (front ++ x ∷ []) read
regroup front x (Ok xs) = ap Ok (simp append_assoc)
regroup front x (Err e) = refl

-- the segments before one are read, and so is that one
pub segments_go_on : (front now : List Segment) (s : Segment) (count before : ℕ) (words : List Word) (total : Result (List Segment) TextFault) → before < count → segment_numbered (before + 1) words ≡ Ok s → now ≡ front ++ s ∷ []
    → with_front front (segments_at (count - before) (before + 1) words) ≡ total → with_front now (segments_at (count - (before + 1)) (before + 1 + 1) words) ≡ total
unfolding segments_at
segments_go_on front now s count before words total more read pushed so_far =
    let k : count - before ≡ suc (count - (before + 1)) = omega arith in
    let one : with_front front (segments_at (count - before) (before + 1) words) ≡ with_front (front ++ s ∷ []) (segments_at (count - (before + 1)) (before + 1 + 1) words) =
    rw (k, read) (regroup front s (segments_at (count - (before + 1)) (before + 1 + 1) words)) in
    rw pushed (sym one ∙ so_far)

-- one of them isn't there
pub segments_fail : (e : TextFault) (front : List Segment) (count before : ℕ) (words : List Word) (total : Result (List Segment) TextFault) → before < count → Fails e (segment_numbered (before + 1) words)
    → with_front front (segments_at (count - before) (before + 1) words) ≡ total → Fails e total
unfolding segments_at
segments_fail fault.Memory front count before words total more h so_far = tt
segments_fail (fault.Syntax at) front count before words total more h so_far =
    let k : count - before ≡ suc (count - (before + 1)) = omega arith in sym so_far ∙ rw (k, h) refl
segments_fail (fault.Missing key) front count before words total more h so_far =
    let k : count - before ≡ suc (count - (before + 1)) = omega arith in sym so_far ∙ rw (k, h) refl
segments_fail (fault.Range key) front count before words total more h so_far =
    let k : count - before ≡ suc (count - (before + 1)) = omega arith in sym so_far ∙ rw (k, h) refl

pub segments_done : (front : List Segment) (count before : ℕ) (words : List Word) (total : Result (List Segment) TextFault) → count ≤ before
    → with_front front (segments_at (count - before) (before + 1) words) ≡ total → total ≡ Ok front
unfolding segments_at
segments_done front count before words total done so_far =
    let k : count - before ≡ 0 = omega arith in
    let one : with_front front (segments_at (count - before) (before + 1) words) ≡ Ok front = rw k (ap Ok (append-nil front)) in
    sym so_far ∙ one
