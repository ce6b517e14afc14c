-- What arrays mean of which each says what it said or a new group.
use Rattle.std.proofs.Common.{◌≡◌, ◌⊎◌, ℕ, zero, suc, ◌<◌, ◌≤◌, ◌==◌, ◌&&◌, Bool, true, false, not, List, [], ◌∷◌, Option, Some, None, refl, sym, ap, ◌∙◌, inl, inr, arith, length, map}
use Rattle.std.specs.Prelude.{◌||◌, cond, slice_get}
use Rattle.std.specs.List.{find, range_with_len}
use Rattle.std.specs.Option.{option_map_or}
use Rattle.std.proofs.lemmas.Bool.{cases_lt, le-ltb, lt-ltb}
use Rattle.lvm_text.specs.declared.group.Group.{Group}
use Rattle.rack.specs.Seen.{Image}
use Rattle.lvm_group.specs.declared.parts.Part.{Part}
use Rattle.lvm_group.specs.Group.{ahead, first_bad, group_in, has_own_label, highest, is_bad, is_bad_by, is_own_group, linear_in, names_array, parts_in}
use Rattle.lvm_group.specs.Opening.{Means}
use Rattle.lvm_group.specs.Parts.{has_bad_text, part_of}
use Rattle.lvm_group.specs.Runs.{Linear}
use Rattle.lvm_group.proofs.Answered.{highest_first, mapped_to, range_place}
use Rattle.lvm_group.proofs.KeptPart.{IsOneOf}
use Rattle.lvm_group.proofs.OwnText.{length_map, range_at}
use Rattle.lvm_group.proofs.Written.{find_none, mapped_at, range_below, range_long}

-- ---- the group of highest seqno

-- of no higher seqno than a bound
abbrev pub IsUpTo : ℕ → Option Group → Type 0
IsUpTo most o = (h : Group) → o ≡ Some h → h.seqno ≤ most

ahead_cases : (g h : Group) → ((g.seqno < h.seqno) × (ahead g (Some h) ≡ Some h)) ⊎ ((h.seqno ≤ g.seqno) × (ahead g (Some h) ≡ Some g))
ahead_cases g h = elim (cases_lt g.seqno h.seqno) [
  | inl less ↦ inl (less, rw (lt-ltb g.seqno h.seqno less) refl)
  | inr most ↦ inr (most, rw (le-ltb g.seqno h.seqno most) refl)
]

-- all groups have at most the seqno of the highest
up_to_ahead : (g : Group) (rest : Option Group) (found : Group) → ahead g rest ≡ Some found → (g.seqno ≤ found.seqno) × IsUpTo found.seqno rest
up_to_ahead g None found is = let same : g ≡ found = cc in (omega (arith, ap (λ (h : Group). h.seqno) same), λ h other. cc)
up_to_ahead g (Some h) found is = elim (ahead_cases g h) [
  | inl later ↦
      let same : h ≡ found = let there : Some h ≡ Some found = sym later.1 ∙ is in cc in
      let number = ap (λ (h : Group). h.seqno) same in
      let less = later.0 in
      (omega arith, λ k other. let one : h ≡ k = cc in let equal = ap (λ (h : Group). h.seqno) one in omega arith)
  | inr first ↦
      let same : g ≡ found = let there : Some g ≡ Some found = sym first.1 ∙ is in cc in
      let number = ap (λ (h : Group). h.seqno) same in
      let most = first.0 in
      (omega arith, λ k other. let one : h ≡ k = cc in let equal = ap (λ (h : Group). h.seqno) one in omega arith)
]

nothing_ahead : (k : Group) (o : Option Group) → ahead k o ≡ None → ⊥
nothing_ahead k None is = cc
nothing_ahead k (Some j) is = elim (ahead_cases k j) [
  | inl later ↦ let same : Some j ≡ None = sym later.1 ∙ is in cc
  | inr first ↦ let same : Some k ≡ None = sym first.1 ∙ is in cc
]

nothing_there : (xs : List (Option Group)) (i : ℕ) (h : Group) → highest xs ≡ None → slice_get xs i ≡ Some (Some h) → ⊥
unfolding highest
nothing_there [] i h none at = cc
nothing_there (None ∷ more) zero h none at = let same : None ≡ Some h = cc in cc
nothing_there (None ∷ more) (suc i) h none at = nothing_there more i h none at
nothing_there (Some k ∷ more) i h none at = nothing_ahead k (highest more) none

pub highest_most : (xs : List (Option Group)) (found : Group) (i : ℕ) (h : Group) → highest xs ≡ Some found → slice_get xs i ≡ Some (Some h) → h.seqno ≤ found.seqno
unfolding highest
highest_most [] found i h is at = cc
highest_most (None ∷ others) found zero h is at = let same : None ≡ Some h = cc in cc
highest_most (None ∷ others) found (suc i) h is at = highest_most others found i h is at
highest_most (Some g ∷ others) found zero h is at =
    let same : Some g ≡ Some h = cc in
    let one : g ≡ h = cc in
    let number = ap (λ (h : Group). h.seqno) one in
    let most = (up_to_ahead g (highest others) found is).0 in
    omega arith
highest_most (Some g ∷ others) found (suc i) h is at = more (highest others) refl (λ next some. highest_most others next i h some at) where
  more : (o : Option Group) → highest others ≡ o → ((next : Group) → highest others ≡ Some next → h.seqno ≤ next.seqno) → h.seqno ≤ found.seqno
  more None none least = absurd (nothing_there others i h none at)
  more (Some next) some least =
      let below = least next some in
      let most = (up_to_ahead g (highest others) found is).1 next some in
      omega arith

-- and where none has more than a bound, the highest hasn't
highest_up_to : (most : ℕ) (xs : List (Option Group)) → ((i : ℕ) (o : Option Group) → slice_get xs i ≡ Some o → IsUpTo most o) → IsUpTo most (highest xs)
unfolding highest
highest_up_to most [] each h is = cc
highest_up_to most (None ∷ others) each h is = highest_up_to most others (λ i o at. each (suc i) o at) h is
highest_up_to most (Some g ∷ others) each h is = go (highest others) refl is (λ k some. highest_up_to most others (λ i o at. each (suc i) o at) k some) where
  go : (rest : Option Group) → highest others ≡ rest → ahead g rest ≡ Some h → ((k : Group) → highest others ≡ Some k → k.seqno ≤ most) → h.seqno ≤ most
  go None none there later = let same : g ≡ h = cc in let number = ap (λ (k : Group). k.seqno) same in let first = each 0 (Some g) refl g refl in omega arith
  go (Some k) some there later = elim (ahead_cases g k) [
    | inl up ↦
        let same : k ≡ h = let one : Some k ≡ Some h = sym up.1 ∙ there in cc in
        let number = ap (λ (k : Group). k.seqno) same in
        let rest = later k some in
        omega arith
    | inr first ↦
        let same : g ≡ h = let one : Some g ≡ Some h = sym first.1 ∙ there in cc in
        let number = ap (λ (k : Group). k.seqno) same in
        let here = each 0 (Some g) refl g refl in
        omega arith
  ]

-- before a group of no higher seqno, and behind one
ahead_of : (new : Group) (rest : Option Group) → IsUpTo new.seqno rest → ahead new rest ≡ Some new
ahead_of new None most = refl
ahead_of new (Some h) most = let up = most h refl in rw (le-ltb new.seqno h.seqno up) refl

-- lists that have the same groups but for a new one here and there
abbrev pub IsMixed : Group → List (Option Group) → List (Option Group) → Type 0
IsMixed new xs ys = (i : ℕ) (x y : Option Group) → slice_get xs i ≡ Some x → slice_get ys i ≡ Some y → (y ≡ x) ⊎ (y ≡ Some new)

one_more : (new : Group) (x y before after : Option Group) → IsUpTo new.seqno x → IsUpTo new.seqno before → (y ≡ x) ⊎ (y ≡ Some new) → (after ≡ before) ⊎ (after ≡ Some new)
    → (option_map_or (λ g. ahead g after) y after ≡ option_map_or (λ g. ahead g before) x before) ⊎ (option_map_or (λ g. ahead g after) y after ≡ Some new)
one_more new x y before after small least (inl here) (inl there) = inl (λ j. option_map_or (λ g. ahead g (there j)) (here j) (there j))
one_more new x y before after small least (inr here) (inl there) = inr (rw (here, there) (ahead_of new before least))
one_more new x y before after small least (inr here) (inr there) = inr (rw (here, there) (ahead_of new (Some new) (λ h same. let one : new ≡ h = cc in let number = ap (λ (k : Group). k.seqno) one in omega arith)))
one_more new None y before after small least (inl here) (inr there) = inr (rw (here, there) refl)
one_more new (Some g) y before after small least (inl here) (inr there) = elim (ahead_cases g new) [
  | inl later ↦ inr (rw (here, there) later.1)
  | inr first ↦
      let up = small g refl in
      let most = first.0 in
      inl (rw (here, there) (first.1 ∙ sym (ahead_of g before (λ h is. let less = least h is in omega arith))))
]

pub highest_mixed : (new : Group) (xs ys : List (Option Group)) → length ys ≡ length xs → IsMixed new xs ys → ((i : ℕ) (x : Option Group) → slice_get xs i ≡ Some x → IsUpTo new.seqno x)
    → (highest ys ≡ highest xs) ⊎ (highest ys ≡ Some new)
highest_mixed new [] [] long mixed small = inl refl
highest_mixed new [] (y ∷ ys) long mixed small = absurd (omega arith)
highest_mixed new (x ∷ xs) [] long mixed small = absurd (omega arith)
highest_mixed new (x ∷ xs) (y ∷ ys) long mixed small =
    let rest = highest_mixed new xs ys (omega arith) (λ i p q at there. mixed (suc i) p q at there) (λ i p at. small (suc i) p at) in
    elim (one_more new x y (highest xs) (highest ys) (small 0 x refl) (highest_up_to new.seqno xs (λ i p at. small (suc i) p at)) (mixed 0 x y refl refl) rest) [
      | inl same ↦ inl (highest_first y ys ∙ same ∙ sym (highest_first x xs))
      | inr put ↦ inr (highest_first y ys ∙ put)
    ]

-- ---- the arrays' groups

abbrev pub groups_in : Image → (ℕ → ℕ) → ℕ → List (Option Group)
groups_in c sectors joined = map (λ (part : Part). part.group) (parts_in c sectors joined)

groups_long : (c : Image) (sectors : ℕ → ℕ) (joined : ℕ) → length (groups_in c sectors joined) ≡ joined
groups_long c sectors joined =
    length_map (λ (part : Part). part.group) (parts_in c sectors joined) ∙ length_map (λ array. part_of (c array) (sectors array)) (range_with_len 0 joined) ∙ range_long 0 joined

group_at_array : (c : Image) (sectors : ℕ → ℕ) (joined i : ℕ) (o : Option Group) → slice_get (groups_in c sectors joined) i ≡ Some o → (i < joined) × (o ≡ (part_of (c i) (sectors i)).group)
group_at_array c sectors joined i o at =
    let part = mapped_at (λ (part : Part). part.group) (parts_in c sectors joined) i o at in
    let array = mapped_at (λ array. part_of (c array) (sectors array)) (range_with_len 0 joined) i part.0 part.1 in
    let place = range_place 0 joined i array.0 array.1 in
    let same : array.0 ≡ i = omega (arith, place.0) in
    (omega (arith, place.1), part.2 ∙ ap (λ (part : Part). part.group) array.2 ∙ ap (λ n. (part_of (c n) (sectors n)).group) same)

group_there : (c : Image) (sectors : ℕ → ℕ) (joined i : ℕ) → i < joined → slice_get (groups_in c sectors joined) i ≡ Some (part_of (c i) (sectors i)).group
group_there c sectors joined i below =
    mapped_to (λ (part : Part). part.group) (parts_in c sectors joined) i (part_of (c i) (sectors i)) (mapped_to (λ array. part_of (c array) (sectors array)) (range_with_len 0 joined) i i (range_at joined i below))

-- the first one of the highest seqno counts
first_new : (new : Group) (xs : List (Option Group)) → slice_get xs 0 ≡ Some (Some new) → ((i : ℕ) (x : Option Group) → slice_get xs i ≡ Some x → IsUpTo new.seqno x) → highest xs ≡ Some new
unfolding highest
first_new new [] at up = cc
first_new new (x ∷ xs) at up =
    let same : x ≡ Some new = cc in
    highest_first x xs ∙ ap (λ (o : Option Group). option_map_or (λ g. ahead g (highest xs)) o (highest xs)) same ∙ ahead_of new (highest xs) (highest_up_to new.seqno xs (λ i y there. up (suc i) y there))

-- ---- bad arrays

no_harm : (bad named labelled first own : Bool) → bad ≡ false → own ≡ true → (named ≡ true → labelled ≡ true) → (bad || ((named && not labelled) || (first && not own))) ≡ false
no_harm true named labelled first own sound is owned = cc
no_harm false named labelled first false sound is owned = cc
no_harm false true labelled true true sound is owned = rw (owned refl) refl
no_harm false true labelled false true sound is owned = rw (owned refl) refl
no_harm false false labelled true true sound is owned = refl
no_harm false false labelled false true sound is owned = refl

harmless : (bad named labelled : Bool) (other : Bool) → (bad || ((named && not labelled) || other)) ≡ false → (bad ≡ false) × (named ≡ true → labelled ≡ true)
harmless true named labelled other none = cc
harmless false true true other none = (refl, λ named. refl)
harmless false true false other none = cc
harmless false false labelled other none = (refl, λ named. cc)

none_passes : (p : ℕ → Bool) (xs : List ℕ) (i x : ℕ) → find p xs ≡ None → slice_get xs i ≡ Some x → p x ≡ false
none_passes p [] i x none at = cc
none_passes p (y ∷ ys) i x none at = go (p y) refl none i at (λ rest i at. none_passes p ys i x rest at) where
  go : (test : Bool) → p y ≡ test → cond test (Some y) (find p ys) ≡ None → (i : ℕ) → slice_get (y ∷ ys) i ≡ Some x → (find p ys ≡ None → (i : ℕ) → slice_get ys i ≡ Some x → p x ≡ false) → p x ≡ false
  go true is none i at later = cc
  go false is none zero at later = let same : y ≡ x = cc in sym (ap p same) ∙ is
  go false is none (suc i) at later = later none i at

-- what holds of each joined array of a sound group
pub array_sound : (pool : List ℕ) (extent joined : ℕ) (sectors : ℕ → ℕ) (c : Image) (group : Group) (array : ℕ) → group_in c sectors joined ≡ Some group → first_bad pool extent sectors joined c ≡ None
    → array < joined → (has_bad_text (part_of (c array) (sectors array)) ≡ false) × (names_array group array ≡ true → has_own_label pool array (part_of (c array) (sectors array)) ≡ true)
unfolding first_bad
array_sound pool extent joined sectors c group array found sound below =
    let fine = none_passes (is_bad pool extent sectors joined c) (range_with_len 0 joined) array array sound (range_at joined array below) in
    let part : Part = part_of (c array) (sectors array) in
    let by : is_bad_by pool extent sectors joined (Some group) array part ≡ false = sym (ap (λ (o : Option Group). is_bad_by pool extent sectors joined o array part) found) ∙ fine in
    harmless (has_bad_text part) (names_array group array) (has_own_label pool array part) ((array == 0) && not (is_own_group pool extent sectors joined group)) by

none_bad_by : (pool : List ℕ) (extent joined : ℕ) (sectors : ℕ → ℕ) (c : Image) (group : Group) → group_in c sectors joined ≡ Some group → is_own_group pool extent sectors joined group ≡ true
    → ((array : ℕ) → array < joined → (has_bad_text (part_of (c array) (sectors array)) ≡ false) × (names_array group array ≡ true → has_own_label pool array (part_of (c array) (sectors array)) ≡ true))
    → first_bad pool extent sectors joined c ≡ None
unfolding first_bad
none_bad_by pool extent joined sectors c group found own each =
    find_none (is_bad pool extent sectors joined c) (range_with_len 0 joined)
    (λ i array at.
    let here = each array (let below = (range_below 0 joined i array at).1 in omega arith) in
    let part : Part = part_of (c array) (sectors array) in
    ap (λ (o : Option Group). is_bad_by pool extent sectors joined o array part) found
    ∙ no_harm (has_bad_text part) (names_array group array) (has_own_label pool array part) (array == 0) (is_own_group pool extent sectors joined group) here.0 own here.1)

-- ---- what they mean

-- each joined array does so
abbrev pub AreOneOf : List ℕ → (ℕ → ℕ) → ℕ → Group → Image → Image → Type 0
AreOneOf pool sectors joined new before c = (array : ℕ) → array < joined → IsOneOf pool array new (part_of (before array) (sectors array)) (part_of (c array) (sectors array))

-- the group is the old one or the new one
pub one_of_groups : (pool : List ℕ) (joined : ℕ) (sectors : ℕ → ℕ) (old new : Group) (before c : Image) → group_in before sectors joined ≡ Some old → old.seqno ≤ new.seqno
    → AreOneOf pool sectors joined new before c → (group_in c sectors joined ≡ Some old) ⊎ (group_in c sectors joined ≡ Some new)
one_of_groups pool joined sectors old new before c found later each =
    elim (highest_mixed new (groups_in before sectors joined) (groups_in c sectors joined) (groups_long c sectors joined ∙ sym (groups_long before sectors joined))
    (λ i x y at there.
    let one = group_at_array before sectors joined i x at in
    let two = group_at_array c sectors joined i y there in
    elim ((each i one.0).group) [ inl same ↦ inl (two.1 ∙ same ∙ sym one.1) | inr put ↦ inr (two.1 ∙ put) ])
    (λ i x at h is.
    let up = highest_most (groups_in before sectors joined) old i h found (at ∙ ap (λ (o : Option Group). Some o) is) in
    omega arith)) [
      | inl same ↦ inl (same ∙ found)
      | inr put ↦ inr put
    ]

-- the old group, where some arrays say the new one
still : (pool : List ℕ) (extent joined : ℕ) (sectors : ℕ → ℕ) (l : Linear) (seqno : ℕ) (before c : Image) (m : Means pool extent joined sectors l seqno before) (new : Group)
    → AreOneOf pool sectors joined new before c → group_in c sectors joined ≡ Some m.group → Means pool extent joined sectors l seqno c
still pool extent joined sectors l seqno before c m new each found = record {
  group = m.group;
  found = found;
  own = m.own;
  sound = none_bad_by pool extent joined sectors c m.group found m.own
      (λ array below.
      let was = array_sound pool extent joined sectors before m.group array m.found m.sound below in
      let is = each array below in
      (is.sound, λ named. is.labelled (was.1 named)));
  volume = m.volume;
  numbered = m.numbered;
}

-- where no array says another group, or all that do say the old one
pub means_same : (pool : List ℕ) (extent joined : ℕ) (sectors : ℕ → ℕ) (l : Linear) (seqno : ℕ) (before c : Image) (m : Means pool extent joined sectors l seqno before)
    → AreOneOf pool sectors joined m.group before c → Means pool extent joined sectors l seqno c
means_same pool extent joined sectors l seqno before c m each =
    let found : group_in c sectors joined ≡ Some m.group = elim (one_of_groups pool joined sectors m.group m.group before c m.found (omega arith) each) [ inl same ↦ same | inr put ↦ put ] in
    still pool extent joined sectors l seqno before c m m.group each found

-- the old group or the new one
pub means_either : (pool : List ℕ) (extent joined : ℕ) (sectors : ℕ → ℕ) (l : Linear) (seqno : ℕ) (before c : Image) (new : Group) (next : Linear) → Means pool extent joined sectors l seqno before
    → seqno ≤ new.seqno → is_own_group pool extent sectors joined new ≡ true → next ≡ linear_in joined new → AreOneOf pool sectors joined new before c
    → ((array : ℕ) → array < joined → names_array new array ≡ true → has_own_label pool array (part_of (c array) (sectors array)) ≡ true)
    → Means pool extent joined sectors l seqno c ⊎ Means pool extent joined sectors next new.seqno c
means_either pool extent joined sectors l seqno before c new next m later own volume each named =
    let number = m.numbered in
    elim (one_of_groups pool joined sectors m.group new before c m.found (omega arith) each) [
      | inl same ↦ inl (still pool extent joined sectors l seqno before c m new each same)
      | inr put ↦ inr (record {
        group = new;
        found = put;
        own = own;
        sound = none_bad_by pool extent joined sectors c new put own (λ array below. ((each array below).sound, named array below));
        volume = volume;
        numbered = refl;
      })
    ]

-- the new group, where the first array says it
pub means_new : (pool : List ℕ) (extent joined : ℕ) (sectors : ℕ → ℕ) (l : Linear) (seqno : ℕ) (before c : Image) (new : Group) (next : Linear) → Means pool extent joined sectors l seqno before → 0 < joined
    → seqno ≤ new.seqno → is_own_group pool extent sectors joined new ≡ true → next ≡ linear_in joined new → AreOneOf pool sectors joined new before c → (part_of (c 0) (sectors 0)).group ≡ Some new
    → ((array : ℕ) → array < joined → names_array new array ≡ true → has_own_label pool array (part_of (c array) (sectors array)) ≡ true)
    → Means pool extent joined sectors next new.seqno c
means_new pool extent joined sectors l seqno before c new next m some later own volume each first named =
    let number = m.numbered in
    let up : (i : ℕ) (x : Option Group) → slice_get (groups_in c sectors joined) i ≡ Some x → IsUpTo new.seqno x = λ i x at h is.
    let one = group_at_array c sectors joined i x at in
    elim ((each i one.0).group) [
      | inl same ↦
          let there : slice_get (groups_in before sectors joined) i ≡ Some (Some h) = group_there before sectors joined i one.0 ∙ ap (λ (o : Option Group). Some o) (sym same ∙ sym one.1 ∙ is) in
          let most = highest_most (groups_in before sectors joined) m.group i h m.found there in
          omega arith
      | inr put ↦ let other : Some new ≡ Some h = sym put ∙ sym one.1 ∙ is in let same : new ≡ h = cc in let equal = ap (λ (g : Group). g.seqno) same in omega arith
    ] in
    record {
      group = new;
      found = first_new new (groups_in c sectors joined) (group_there c sectors joined 0 some ∙ ap (λ (o : Option Group). Some o) first) up;
      own = own;
      sound = none_bad_by pool extent joined sectors c new (first_new new (groups_in c sectors joined) (group_there c sectors joined 0 some ∙ ap (λ (o : Option Group). Some o) first) up) own
          (λ array below. ((each array below).sound, named array below));
      volume = volume;
      numbered = refl;
    }
