-- What stands in the arrays once labels, headers and a first text were written.
use Rattle.std.proofs.Common.{◌≡◌, ℕ, zero, suc, ◌+◌, ◌-◌, ◌*◌, ◌<◌, ◌≤◌, ◌==◌, ◌&&◌, Bool, true, false, List, [], ◌∷◌, ◌++◌, Option, Some, None, Ok, refl, sym, ap, ◌∙◌, inl, inr, arith, length}
use Rattle.std.specs.Option.{option_or}
use Rattle.std.proofs.lemmas.Bool.{cases_eq, cases_lt, eq-eqb, eqb-true, le-ltb, lt-ltb}
use Rattle.lvm_label.specs.Label.{IsLabel, label_bytes}
use Rattle.lvm_label.specs.Header.{IsLocation, header_bytes}
use Rattle.rack.specs.Seen.{Image, RackView}
use Rattle.rack.specs.Targets.{Target, look, target}
use Rattle.rack.proofs.Phases.{look-append, payload_none}
use Rattle.lvm_group.specs.Sequences.{AreSingle, AreTold}
use Rattle.lvm_group.specs.declared.starts.TextStart.{TextStart}
use Rattle.lvm_group.specs.Writing.{AreStarts, Puts, blank_targets, first_targets, header_target, label_targets, new_targets, own_header, own_label, own_location, piece, place_at, start_at, targets_to, text_sectors, text_targets}
use Rattle.lvm_group.specs.Made.{AreFree, ArePicks}
use Rattle.lvm_group.proofs.Written.{AreWritten}

-- ---- one target

eq_not : (m n : ℕ) → (m ≡ n → ⊥) → (m == n) ≡ false
eq_not m n differ = go (m == n) refl where
  go : (test : Bool) → (m == n) ≡ test → test ≡ false
  go false is = refl
  go true is = absurd (differ (eqb-true m n is))

and_false : (b : Bool) → (b && false) ≡ false
and_false true = refl
and_false false = refl

-- it is for its sector
pub look_here : (disk sector : ℕ) (v : List ℕ) → look (target disk sector v ∷ []) disk sector ≡ Some v
unfolding look
look_here disk sector v = rw (eq-eqb disk disk refl, eq-eqb sector sector refl) refl

pub look_other_disk : (disk sector d s : ℕ) (v : List ℕ) → (disk ≡ d → ⊥) → look (target disk sector v ∷ []) d s ≡ None
unfolding look
look_other_disk disk sector d s v differ = rw (eq_not disk d differ) refl

pub look_other_sector : (disk sector d s : ℕ) (v : List ℕ) → (sector ≡ s → ⊥) → look (target disk sector v ∷ []) d s ≡ None
unfolding look
look_other_sector disk sector d s v differ = rw (eq_not sector s differ, and_false (disk == d)) refl

-- ---- targets in a row

or_none : (o : Option (List ℕ)) → option_or o None ≡ o
or_none None = refl
or_none (Some v) = refl

pub look_nowhere : (f : ℕ → List Target) (n d s : ℕ) → ((j : ℕ) → j < n → look (f j) d s ≡ None) → look (targets_to f n) d s ≡ None
unfolding targets_to look
look_nowhere f zero d s none = refl
look_nowhere f (suc n) d s none =
    look-append (targets_to f n) (f n) d s ∙ ap (λ o. option_or o (look (targets_to f n) d s)) (none n (omega arith)) ∙ look_nowhere f n d s (λ j below. none j (omega arith))

below_last : (i n : ℕ) → i < suc n → (i ≡ n → ⊥) → i < n
below_last i n below differ = elim (cases_lt i n) [
  | inl less ↦ less
  | inr over ↦ absurd (differ (omega arith))
]

look_in : (f : ℕ → List Target) (n i d s : ℕ) → i < n → ((j : ℕ) → j < n → (j ≡ i → ⊥) → look (f j) d s ≡ None) → look (targets_to f n) d s ≡ look (f i) d s
unfolding targets_to
look_in f zero i d s below none = absurd (omega arith)
look_in f (suc n) i d s below none = elim (cases_eq i n) [
  | inl last ↦
      look-append (targets_to f n) (f n) d s
      ∙ ap (λ o. option_or (look (f n) d s) o) (look_nowhere f n d s (λ j less. none j (omega arith) (λ same. absurd (omega arith))))
      ∙ or_none (look (f n) d s) ∙ ap (λ m. look (f m) d s) (sym last)
  | inr before ↦
      look-append (targets_to f n) (f n) d s
      ∙ ap (λ o. option_or o (look (targets_to f n) d s)) (none n (omega arith) (λ same. before (sym same)))
      ∙ look_in f n i d s (below_last i n below before) (λ j less differ. none j (omega arith) differ)
]

-- ---- a text

-- its sectors are behind the header, and before the first extent
pub place_bounds : (first k : ℕ) → 1 ≤ first → first < 2040 → k ≤ 512 → (9 ≤ place_at first k) × (place_at first k < 2048)
place_bounds first k some below few = elim (cases_lt (first + k) 2040) [
  | inl front ↦ rw (lt-ltb (first + k) 2040 front) (omega arith, omega arith)
  | inr back ↦ rw (le-ltb (first + k) 2040 back) (omega arith, omega arith)
]

-- no two are one
place_apart : (first j k : ℕ) → 1 ≤ first → first < 2040 → j ≤ 512 → k ≤ 512 → place_at first j ≡ place_at first k → j ≡ k
place_apart first j k some below few less same = elim (cases_lt (first + j) 2040) [
  | inl front ↦ elim (cases_lt (first + k) 2040) [
    | inl other ↦ let is : 8 + (first + j) ≡ 8 + (first + k) = at_front first j front ∙ same ∙ sym (at_front first k other) in omega arith
    | inr other ↦ let is : 8 + (first + j) ≡ 8 + (first + k - 2039) = at_front first j front ∙ same ∙ sym (at_back first k other) in omega arith
  ]
  | inr back ↦ elim (cases_lt (first + k) 2040) [
    | inl other ↦ let is : 8 + (first + j - 2039) ≡ 8 + (first + k) = at_back first j back ∙ same ∙ sym (at_front first k other) in omega arith
    | inr other ↦ let is : 8 + (first + j - 2039) ≡ 8 + (first + k - 2039) = at_back first j back ∙ same ∙ sym (at_back first k other) in omega arith
  ]
] where
  at_front : (first k : ℕ) → first + k < 2040 → 8 + (first + k) ≡ place_at first k
  at_front first k front = rw (lt-ltb (first + k) 2040 front) refl

  at_back : (first k : ℕ) → 2040 ≤ first + k → 8 + (first + k - 2039) ≡ place_at first k
  at_back first k back = rw (le-ltb (first + k) 2040 back) refl

text_elsewhere : (array first d s : ℕ) (text : List ℕ) → (array ≡ d → ⊥) → look (text_targets array first text) d s ≡ None
text_elsewhere array first d s text differ =
    look_nowhere (λ k. target array (place_at first k) (piece text k) ∷ []) (text_sectors text) d s (λ k below. look_other_disk array (place_at first k) d s (piece text k) differ)

-- a sector that has none of its pieces
pub text_nowhere : (array first d s : ℕ) (text : List ℕ) → ((k : ℕ) → k < text_sectors text → place_at first k ≡ s → ⊥) → look (text_targets array first text) d s ≡ None
text_nowhere array first d s text other =
    look_nowhere (λ k. target array (place_at first k) (piece text k) ∷ []) (text_sectors text) d s (λ k below. look_other_sector array (place_at first k) d s (piece text k) (λ same. other k below same))

pub text_behind : (array first d s : ℕ) (text : List ℕ) → 1 ≤ first → first < 2040 → length text ≤ 262144 → s < 9 → look (text_targets array first text) d s ≡ None
text_behind array first d s text some below short less =
    text_nowhere array first d s text (λ k inside same. let place = place_bounds first k some below (omega arith) in let most = place.0 in absurd (omega arith))

text_here : (array first k : ℕ) (text : List ℕ) → 1 ≤ first → first < 2040 → length text ≤ 262144 → 512 * k < length text → look (text_targets array first text) array (place_at first k) ≡ Some (piece text k)
text_here array first k text some below short less =
    look_in (λ k. target array (place_at first k) (piece text k) ∷ []) (text_sectors text) k array (place_at first k) (omega arith)
    (λ j inside differ. look_other_sector array (place_at first j) array (place_at first k) (piece text j) (λ same. differ (place_apart first j k some below (omega arith) (omega arith) same)))
    ∙ look_here array (place_at first k) (piece text k)

-- ---- an array's first targets

abbrev pub head : List ℕ → ℕ → ℕ → Bool → List Target
head pool array sectors blank = label_targets pool array sectors ++ blank_targets array blank

head_elsewhere : (pool : List ℕ) (array sectors d s : ℕ) (blank : Bool) → (array ≡ d → ⊥) → look (head pool array sectors blank) d s ≡ None
unfolding look
head_elsewhere pool array sectors d s true differ = rw (eq_not array d differ) refl
head_elsewhere pool array sectors d s false differ = rw (eq_not array d differ) refl

pub first_elsewhere : (pool : List ℕ) (sectors : ℕ → ℕ) (starts : List TextStart) (text : List ℕ) (array d s : ℕ) → (array ≡ d → ⊥) → look (first_targets pool sectors starts text array) d s ≡ None
first_elsewhere pool sectors starts text array d s differ =
    let start : TextStart = start_at starts array in
    look-append (head pool array (sectors array) start.blank) (text_targets array start.sector text) d s
    ∙ ap (λ o. option_or o (look (head pool array (sectors array) start.blank) d s)) (text_elsewhere array start.sector d s text differ) ∙ head_elsewhere pool array (sectors array) d s start.blank differ

pub head_at : (pool : List ℕ) (array sectors : ℕ) (blank : Bool) → look (head pool array sectors blank) array 1 ≡ Some (label_bytes (own_label pool array sectors))
unfolding look
head_at pool array sectors true = rw (eq-eqb array array refl) refl
head_at pool array sectors false = rw (eq-eqb array array refl) refl

pub head_nowhere : (pool : List ℕ) (array sectors s : ℕ) (blank : Bool) → (1 ≡ s → ⊥) → (8 ≡ s → ⊥) → look (head pool array sectors blank) array s ≡ None
unfolding look
head_nowhere pool array sectors s true label header = rw (eq-eqb array array refl, eq_not 1 s label, eq_not 8 s header) refl
head_nowhere pool array sectors s false label header = rw (eq-eqb array array refl, eq_not 1 s label) refl

-- what is written for an array in a sector that has none of the text
pub first_at : (pool : List ℕ) (sectors : ℕ → ℕ) (starts : List TextStart) (text : List ℕ) (array s : ℕ) (o : Option (List ℕ)) → look (text_targets array (start_at starts array).sector text) array s ≡ None
    → look (head pool array (sectors array) (start_at starts array).blank) array s ≡ o → look (first_targets pool sectors starts text array) array s ≡ o
first_at pool sectors starts text array s o none is =
    let start : TextStart = start_at starts array in
    look-append (head pool array (sectors array) start.blank) (text_targets array start.sector text) array s ∙ ap (λ o. option_or o (look (head pool array (sectors array) start.blank) array s)) none ∙ is

pub first_text : (pool : List ℕ) (sectors : ℕ → ℕ) (starts : List TextStart) (text : List ℕ) (array k : ℕ) → AreStarts starts → length text ≤ 262144 → 512 * k < length text
    → look (first_targets pool sectors starts text array) array (place_at (start_at starts array).sector k) ≡ Some (piece text k)
first_text pool sectors starts text array k are short less =
    let start : TextStart = start_at starts array in
    look-append (head pool array (sectors array) start.blank) (text_targets array start.sector text) array (place_at start.sector k)
    ∙ ap (λ o. option_or o (look (head pool array (sectors array) start.blank) array (place_at start.sector k))) (text_here array start.sector k text (are array).0 (are array).1 short less)

-- ---- all arrays

pub firsts_at : (pool : List ℕ) (sectors : ℕ → ℕ) (starts : List TextStart) (text : List ℕ) (n d s : ℕ) → d < n
    → look (targets_to (first_targets pool sectors starts text) n) d s ≡ look (first_targets pool sectors starts text d) d s
firsts_at pool sectors starts text n d s below = look_in (first_targets pool sectors starts text) n d d s below (λ j less differ. first_elsewhere pool sectors starts text j d s differ)

pub headers_at : (starts : List TextStart) (text : List ℕ) (n d s : ℕ) → d < n → look (targets_to (header_target starts text) n) d s ≡ look (header_target starts text d) d s
headers_at starts text n d s below =
    look_in (header_target starts text) n d d s below
    (λ j less differ. look_other_disk j 8 d s (header_bytes (own_header (own_location (512 * (start_at starts j).sector) text ∷ []))) differ)

-- a sector that isn't the header's
pub new_at : (pool : List ℕ) (sectors : ℕ → ℕ) (starts : List TextStart) (text : List ℕ) (n d s : ℕ) (o : Option (List ℕ)) → d < n → (8 ≡ s → ⊥) → look (first_targets pool sectors starts text d) d s ≡ o
    → look (new_targets pool sectors starts text n) d s ≡ o
new_at pool sectors starts text n d s o below other is =
    look-append (targets_to (first_targets pool sectors starts text) n) (targets_to (header_target starts text) n) d s
    ∙ ap (λ p. option_or p (look (targets_to (first_targets pool sectors starts text) n) d s))
    (headers_at starts text n d s below ∙ look_other_sector d 8 d s (header_bytes (own_header (own_location (512 * (start_at starts d).sector) text ∷ []))) other)
    ∙ firsts_at pool sectors starts text n d s below ∙ is

new_header : (pool : List ℕ) (sectors : ℕ → ℕ) (starts : List TextStart) (text : List ℕ) (n d : ℕ) → d < n
    → look (new_targets pool sectors starts text n) d 8 ≡ Some (header_bytes (own_header (own_location (512 * (start_at starts d).sector) text ∷ [])))
new_header pool sectors starts text n d below =
    look-append (targets_to (first_targets pool sectors starts text) n) (targets_to (header_target starts text) n) d 8
    ∙ ap (λ p. option_or p (look (targets_to (first_targets pool sectors starts text) n) d 8))
    (headers_at starts text n d 8 below ∙ look_here d 8 (header_bytes (own_header (own_location (512 * (start_at starts d).sector) text ∷ []))))

-- ---- what stands then

pub new_written : (a b : RackView) (pool : List ℕ) (starts : List TextStart) (text : List ℕ) (n : ℕ) (c : Image) → AreStarts starts → length text ≤ 262144 → Puts a b (new_targets pool a.sectors starts text n) {X = Unit {0}} (Ok tt)
    → AreSingle a b n → ((array : ℕ) → array < n → IsLabel (own_label pool array (a.sectors array)))
    → ((array : ℕ) → array < n → IsLocation (own_location (512 * (start_at starts array).sector) text)) → AreTold a b n → ArePicks b n c
    → AreFree a n → AreWritten pool a.sectors starts n text c
new_written a b pool starts text n c are short puts single labels locations told picks free = λ array below.
    let some = (are array).0 in
    let inside = (are array).1 in
    let none = λ (s : ℕ) (less : s < 9). text_behind array (start_at starts array).sector array s text some inside short less in
    let now = λ (s : ℕ) (w : List ℕ) (less : s < 2048) (at : look (new_targets pool a.sectors starts text n) array s ≡ Some w).
    single array s (c array s) below (told array s below less) (picks array s below less) ∙ puts.done array s w (told array s below less) at in
    let zero_kept = puts.only.others array 0 (told array 0 below (omega arith))
    (payload_none (new_targets pool a.sectors starts text n) array 0
    (new_at pool a.sectors starts text n array 0 None below (λ same. absurd (omega arith))
    (first_at pool a.sectors starts text array 0 None (none 0 (omega arith)) (head_nowhere pool array (a.sectors array) 0 (start_at starts array).blank (λ same. absurd (omega arith)) (λ same. absurd (omega arith)))))) in
    let zero_is : c array 0 ≡ (a.held array 0).current = single array 0 (c array 0) below (told array 0 below (omega arith)) (picks array 0 below (omega arith)) ∙ zero_kept.current in
    record {
      free = rw zero_is (free array below);
      label = now 1 (label_bytes (own_label pool array (a.sectors array))) (omega arith)
          (new_at pool a.sectors starts text n array 1 (Some (label_bytes (own_label pool array (a.sectors array)))) below (λ same. absurd (omega arith))
          (first_at pool a.sectors starts text array 1 (Some (label_bytes (own_label pool array (a.sectors array)))) (none 1 (omega arith)) (head_at pool array (a.sectors array) (start_at starts array).blank)));
      is_label = labels array below;
      header = now 8 (header_bytes (own_header (own_location (512 * (start_at starts array).sector) text ∷ []))) (omega arith) (new_header pool a.sectors starts text n array below);
      is_location = locations array below;
      stands = λ k less.
          let place = place_bounds (start_at starts array).sector k some inside (omega arith) in
          let least = place.0 in
          now (place_at (start_at starts array).sector k) (piece text k) place.1
          (new_at pool a.sectors starts text n array (place_at (start_at starts array).sector k) (Some (piece text k)) below (λ same. absurd (omega arith)) (first_text pool a.sectors starts text array k are short less));
    }
