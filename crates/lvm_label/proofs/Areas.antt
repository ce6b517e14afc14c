-- Reading a list of areas one after the other, as a loop does.
use Rattle.std.proofs.Common.{◌≡◌, ℕ, zero, suc, ◌-◌, ◌+◌, ◌*◌, take, get_or, replicate, ◌≤◌, ◌<◌, true, false, List, [], ◌∷◌, ◌++◌, length, drop, Option, Some, None, option_map, refl, sym, ap, ◌∙◌, append_assoc, arith}
use Rattle.std.proofs.lemmas.List.{append-nil, length-append, length-take-le, take_more}
use Rattle.std.proofs.lemmas.List.Concat.{flat_map-append}
use Rattle.std.specs.List.{flat_map}
use Rattle.std.proofs.lemmas.Bool.{le-ltb, lt-ltb}
use Rattle.lvm_label.specs.Label.{areas_at, area_at, area_bytes, area_list_bytes, ends_list, with_first}
use Rattle.lvm_label.specs.declared.label.Area.{Area}

-- what was read before, and what is still read
abbrev pub with_front : List Area → Option (List Area × List ℕ) → Option (List Area × List ℕ)
with_front front read = option_map (λ (x : List Area × List ℕ). (front ++ x.0, x.1)) read

pub areas_at-short : (room : ℕ) (bytes : List ℕ) → length bytes < 16 → areas_at room bytes ≡ None
unfolding areas_at
areas_at-short zero bytes h = rw (lt-ltb (length bytes) 16 h) refl
areas_at-short (suc room) bytes h = rw (lt-ltb (length bytes) 16 h) refl

pub areas_at-end : (room : ℕ) (bytes : List ℕ) → 16 ≤ length bytes → ends_list (area_at bytes) ≡ true → areas_at room bytes ≡ Some ([], drop 16 bytes)
unfolding areas_at
areas_at-end zero bytes h e = rw (le-ltb (length bytes) 16 h, e) refl
areas_at-end (suc room) bytes h e = rw (le-ltb (length bytes) 16 h, e) refl

pub areas_at-full : (bytes : List ℕ) → 16 ≤ length bytes → ends_list (area_at bytes) ≡ false → areas_at 0 bytes ≡ None
unfolding areas_at
areas_at-full bytes h e = rw (le-ltb (length bytes) 16 h, e) refl

pub areas_at-more : (room : ℕ) (bytes : List ℕ) → 16 ≤ length bytes → ends_list (area_at bytes) ≡ false → areas_at (suc room) bytes ≡ with_first (area_at bytes) (areas_at room (drop 16 bytes))
unfolding areas_at
areas_at-more room bytes h e = rw (le-ltb (length bytes) 16 h, e) refl

regroup : (front : List Area) (area : Area) (read : Option (List Area × List ℕ)) → with_front front (with_first area read) ≡ with_front (front ++ area ∷ []) read
regroup front area (Some x) = ap (λ (areas : List Area). Some (areas, x.1)) (simp append_assoc)
regroup front area None = refl

-- the steps of the loop, by what it finds
pub goes_on : (front : List Area) (bytes : List ℕ) (total : Option (List Area × List ℕ)) → 16 ≤ length bytes → ends_list (area_at bytes) ≡ false → length front < 8
    → with_front front (areas_at (8 - length front) bytes) ≡ total → with_front (front ++ area_at bytes ∷ []) (areas_at (8 - (length front + 1)) (drop 16 bytes)) ≡ total
goes_on front bytes total long more room so_far =
    let k : 8 - length front ≡ suc (8 - (length front + 1)) = omega arith in
    sym (regroup front (area_at bytes) (areas_at (8 - (length front + 1)) (drop 16 bytes)))
    ∙ ap (with_front front) (sym (ap (λ (n : ℕ). areas_at n bytes) k ∙ areas_at-more (8 - (length front + 1)) bytes long more))
    ∙ so_far

pub ends : (front : List Area) (bytes : List ℕ) (total : Option (List Area × List ℕ)) → 16 ≤ length bytes → ends_list (area_at bytes) ≡ true
    → with_front front (areas_at (8 - length front) bytes) ≡ total → Some (front, drop 16 bytes) ≡ total
ends front bytes total long done so_far =
    ap (λ (areas : List Area). Some (areas, drop 16 bytes)) (sym (append-nil front)) ∙ ap (with_front front) (sym (areas_at-end (8 - length front) bytes long done)) ∙ so_far

pub is_full : (front : List Area) (bytes : List ℕ) (total : Option (List Area × List ℕ)) → 16 ≤ length bytes → ends_list (area_at bytes) ≡ false → length front ≡ 8
    → with_front front (areas_at (8 - length front) bytes) ≡ total → None ≡ total
is_full front bytes total long more full so_far =
    let k : 8 - length front ≡ 0 = omega arith in
    ap (with_front front) (sym (ap (λ (n : ℕ). areas_at n bytes) k ∙ areas_at-full bytes long more)) ∙ so_far

pub is_short : (front : List Area) (bytes : List ℕ) (total : Option (List Area × List ℕ)) → length bytes < 16
    → with_front front (areas_at (8 - length front) bytes) ≡ total → None ≡ total
is_short front bytes total short so_far = ap (with_front front) (sym (areas_at-short (8 - length front) bytes short)) ∙ so_far

-- the same of values that the code holds
pub goes_on_with : (front now : List Area) (area : Area) (bytes rest : List ℕ) (total : Option (List Area × List ℕ)) → area ≡ area_at bytes → rest ≡ drop 16 bytes → now ≡ front ++ area ∷ [] → 16 ≤ length bytes → ends_list (area_at bytes) ≡ false → length front < 8
    → with_front front (areas_at (8 - length front) bytes) ≡ total → (with_front now (areas_at (8 - length now) rest) ≡ total) × (length now ≤ 8)
goes_on_with front now area bytes rest total is after pushed long goes room so_far =
    let appended : now ≡ front ++ area_at bytes ∷ [] = pushed ∙ ap (λ (a : Area). front ++ a ∷ []) is in
    let len : length now ≡ length front + 1 = ap length appended ∙ length-append front (area_at bytes ∷ []) in
    (rw (len, after, appended) (goes_on front bytes total long goes room so_far), omega arith)

-- ---- writing

length-area_bytes : (area : Area) → length (area_bytes area) ≡ 16
unfolding area_bytes
length-area_bytes area = refl

pub length-areas : (areas : List Area) → length (flat_map area_bytes areas) ≡ 16 * length areas
length-areas [] = refl
length-areas (area ∷ areas) =
    omega (arith, length-append (area_bytes area) (flat_map area_bytes areas), length-areas areas, length-area_bytes area)

-- one area more
pub areas_more : (areas : List Area) (i : ℕ) (d : Area) (bytes : List ℕ) → i < length areas → bytes ≡ area_bytes (get_or areas i d) → flat_map area_bytes (take (i + 1) areas) ≡ flat_map area_bytes (take i areas) ++ bytes
areas_more areas i d bytes h is =
    ap (flat_map area_bytes) (take_more areas i d h) ∙ flat_map-append area_bytes (take i areas) (get_or areas i d ∷ [])
    ∙ ap (λ (t : List ℕ). flat_map area_bytes (take i areas) ++ t) (append-nil (area_bytes (get_or areas i d)) ∙ sym is)

pub length-areas_below : (areas : List Area) (i at : ℕ) (text : List ℕ) → i ≤ length areas → length text ≡ at → length (text ++ flat_map area_bytes (take i areas)) ≡ at + 16 * i
length-areas_below areas i at text h long =
    omega (arith, length-append text (flat_map area_bytes (take i areas)), length-areas (take i areas), length-take-le i areas h)

pub length-area_list_bytes : (areas : List Area) → length (area_list_bytes areas) ≡ 16 * length areas + 16
length-area_list_bytes areas = omega (arith, length-append (flat_map area_bytes areas) (replicate 16 0), length-areas areas)
