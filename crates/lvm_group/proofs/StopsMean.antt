-- What a stop in writing a new text leaves on the arrays, and what that means.
use Rattle.std.proofs.Common.{◌≡◌, ◌⊎◌, ℕ, zero, suc, ◌*◌, ◌<◌, ◌≤◌, ◌==◌, ◌&&◌, Bool, true, false, List, [], ◌∷◌, ◌++◌, Option, Some, None, refl, sym, ap, ◌∙◌, inl, inr, arith, length}
use Rattle.std.specs.Prelude.{is_some, nat_eq, slice_get, unwrap_or}
use Rattle.std.specs.List.{starts_with}
use Rattle.std.specs.Result.{result_ok}
use Rattle.std.proofs.lemmas.Bool.{cases_lt, eq-eqb, eqb-true}
use Rattle.lvm_label.specs.declared.header.Header.{Header}
use Rattle.lvm_label.specs.declared.label.Label.{Label}
use Rattle.lvm_label.specs.Label.{HaveLabelsDecoded, IsLabel, label_bytes, label_word}
use Rattle.lvm_label.specs.Header.{header_bytes, header_of}
use Rattle.lvm_text.specs.declared.group.Group.{Group}
use Rattle.rack.specs.Seen.{Image, RackView}
use Rattle.rack.specs.Sequences.{IsMix, IsPayload}
use Rattle.rack.specs.Targets.{Target, look}
use Rattle.std.specs.Option.{option_or}
use Rattle.rack.proofs.Phases.{look-append, payload_none}
use Rattle.lvm_group.specs.declared.parts.Part.{Part}
use Rattle.lvm_group.specs.declared.starts.TextStart.{TextStart}
use Rattle.lvm_group.specs.Changing.{AreBehind, IsLate, start_by, start_of}
use Rattle.lvm_group.specs.Group.{has_own_label}
use Rattle.lvm_group.specs.Ids.{label_id, pv_id}
use Rattle.lvm_group.specs.Images.{HasOwnArea, HoldOnly}
use Rattle.lvm_group.specs.Sequences.{AreTold}
use Rattle.lvm_group.specs.Parts.{Array, has_bad_text, label_on, part_of}
use Rattle.lvm_group.specs.Writing.{AreStarts, IsReadBack, blank_targets, first_targets, header_target, label_targets, new_targets, own_header, own_label, own_location, piece, place_at, start_at, targets_to, text_sectors, text_targets}
use Rattle.lvm_group.proofs.KeptPart.{IsKept, IsOneOf, IsWriting, area_kept, empty_there, header_on, kept_says, labelled_there}
use Rattle.lvm_group.proofs.Mixed.{AreOneOf}
use Rattle.lvm_group.proofs.NewTargets.{first_at, first_elsewhere, firsts_at, head_at, head_nowhere, headers_at, look_nowhere, look_other_disk, look_other_sector, place_bounds, text_behind, text_nowhere, first_text}
use Rattle.lvm_group.proofs.OwnText.{same_bytes}
use Rattle.lvm_group.proofs.Written.{part_there, written_part}

-- ---- payloads

payload_either : (xs ys : List Target) (d s : ℕ) (v : List ℕ) → IsPayload (xs ++ ys) d s v → IsPayload xs d s v ⊎ IsPayload ys d s v
payload_either [] ys d s v is = inr is
payload_either (x ∷ xs) ys d s v (inl here) = inl (inl here)
payload_either (x ∷ xs) ys d s v (inr later) = elim (payload_either xs ys d s v later) [ inl first ↦ inl (inr first) | inr second ↦ inr second ]

payload_of : (f : ℕ → List Target) (n d s : ℕ) (v : List ℕ) → IsPayload (targets_to f n) d s v → (j : ℕ) × (j < n) × IsPayload (f j) d s v
unfolding targets_to
payload_of f zero d s v is = absurd is
payload_of f (suc n) d s v is = elim (payload_either (targets_to f n) (f n) d s v is) [
  | inl before ↦ let rest = payload_of f n d s v before in let below = rest.1 in (rest.0, omega arith, rest.2)
  | inr last ↦ (n, omega arith, last)
]

and_parts : (p q : Bool) → (p && q) ≡ true → (p ≡ true) × (q ≡ true)
and_parts true q e = (refl, e)
and_parts false q e = cc

-- label and empty header are the only ones before the text's sectors
head_payload : (pool : List ℕ) (array sectors d s : ℕ) (blank : Bool) (v : List ℕ) → IsPayload (label_targets pool array sectors ++ blank_targets array blank) d s v
    → (array ≡ d) × (((1 ≡ s) × (v ≡ label_bytes (own_label pool array sectors))) ⊎ ((8 ≡ s) × (blank ≡ true) × (v ≡ header_bytes (own_header []))))
head_payload pool array sectors d s true v (inl here) =
    let at = and_parts (array == d) (1 == s) here.0 in (eqb-true array d at.0, inl (eqb-true 1 s at.1, here.1))
head_payload pool array sectors d s true v (inr (inl here)) =
    let at = and_parts (array == d) (8 == s) here.0 in (eqb-true array d at.0, inr (eqb-true 8 s at.1, refl, here.1))
head_payload pool array sectors d s true v (inr (inr none)) = absurd none
head_payload pool array sectors d s false v (inl here) =
    let at = and_parts (array == d) (1 == s) here.0 in (eqb-true array d at.0, inl (eqb-true 1 s at.1, here.1))
head_payload pool array sectors d s false v (inr none) = absurd none

first_payload : (pool : List ℕ) (sectors : ℕ → ℕ) (starts : List TextStart) (text : List ℕ) (n d s : ℕ) (v : List ℕ) → AreStarts starts → length text ≤ 262144 → s < 9
    → IsPayload (targets_to (first_targets pool sectors starts text) n) d s v
    → ((1 ≡ s) × (v ≡ label_bytes (own_label pool d (sectors d)))) ⊎ ((8 ≡ s) × ((start_at starts d).blank ≡ true) × (v ≡ header_bytes (own_header [])))
first_payload pool sectors starts text n d s v are short less is =
    let one = payload_of (first_targets pool sectors starts text) n d s v is in
    let j : ℕ = one.0 in
    let start : TextStart = start_at starts j in
    elim (payload_either (label_targets pool j (sectors j) ++ blank_targets j start.blank) (text_targets j start.sector text) d s v one.2) [
      | inl head ↦
          let at = head_payload pool j (sectors j) d s start.blank v head in
          elim at.1 [
            | inl label ↦ inl (label.0, label.1 ∙ ap (λ k. label_bytes (own_label pool k (sectors k))) at.0)
            | inr header ↦ inr (header.0, ap (λ k. (start_at starts k).blank) (sym at.0) ∙ header.1, header.2)
          ]
      | inr last ↦
          absurd (payload_none (text_targets j start.sector text) d s (text_behind j start.sector d s text (are j).0 (are j).1 short less) v last)
    ]

-- a sector of an array that has none of the first targets
firsts_none : (pool : List ℕ) (sectors : ℕ → ℕ) (starts : List TextStart) (text : List ℕ) (n d s : ℕ) → (1 ≡ s → ⊥) → (8 ≡ s → ⊥)
    → ((k : ℕ) → k < text_sectors text → place_at (start_at starts d).sector k ≡ s → ⊥) → look (targets_to (first_targets pool sectors starts text) n) d s ≡ None
firsts_none pool sectors starts text n d s label header apart = elim (cases_lt d n) [
  | inl below ↦
      firsts_at pool sectors starts text n d s below
      ∙ first_at pool sectors starts text d s None (text_nowhere d (start_at starts d).sector d s text apart) (head_nowhere pool d (sectors d) s (start_at starts d).blank label header)
  | inr past ↦ look_nowhere (first_targets pool sectors starts text) n d s (λ j less. first_elsewhere pool sectors starts text j d s (λ same. absurd (omega arith)))
]

-- arrays past the first ones have no target at all
pub past_none : (pool : List ℕ) (sectors : ℕ → ℕ) (starts : List TextStart) (text : List ℕ) (n d s : ℕ) → n ≤ d → look (new_targets pool sectors starts text n) d s ≡ None
past_none pool sectors starts text n d s past =
    look-append (targets_to (first_targets pool sectors starts text) n) (targets_to (header_target starts text) n) d s
    ∙ ap (λ o. option_or o (look (targets_to (first_targets pool sectors starts text) n) d s))
    (look_nowhere (header_target starts text) n d s
    (λ j less. look_other_disk j 8 d s (header_bytes (own_header (own_location (512 * (start_at starts j).sector) text ∷ []))) (λ same. absurd (omega arith))))
    ∙ look_nowhere (first_targets pool sectors starts text) n d s (λ j less. first_elsewhere pool sectors starts text j d s (λ same. absurd (omega arith)))

-- ---- the arrays before the headers are written

-- a change of the joined arrays whose first sectors held these contents alone
pub record IsChange (pool text : List ℕ) (n joined : ℕ) (starts : List TextStart) (new : Group) (a b : RackView) (before : Image) : Type 0 where
  pub back : IsReadBack pool text n a.sectors new
  pub inside : AreStarts starts
  pub behind : AreBehind a n starts
  pub within : n ≤ joined
  pub told : AreTold a b joined
  pub only : HoldOnly a joined before
  pub areas : (array : ℕ) → array < joined → HasOwnArea (before array)
  pub sound : (array : ℕ) → array < joined → has_bad_text (part_of (before array) (a.sectors array)) ≡ false

pub now_is : {a b : RackView} {before : Image} (pool text : List ℕ) (n joined : ℕ) (starts : List TextStart) (new : Group) → IsChange pool text n joined starts new a b before → (d s : ℕ) → d < joined → s < 2048
    → (a.held d s).current ≡ before d s
now_is {a} pool text n joined starts new is d s below less = is.only d s (a.held d s).current below less (inl refl)

start_is : {a b : RackView} {before : Image} (pool text : List ℕ) (n joined : ℕ) (starts : List TextStart) (new : Group) → IsChange pool text n joined starts new a b before → (d : ℕ) → d < n
    → start_at starts d ≡ start_of (before d 8)
start_is pool text n joined starts new is d below =
    let within = is.within in
    let told = is.told d 8 (omega arith) (omega arith) in
    is.behind d below told.is_told ∙ ap start_of (now_is pool text n joined starts new is d 8 (omega arith) (omega arith))

kept_sector : {a b : RackView} {before c : Image} (pool text : List ℕ) (n joined : ℕ) (starts : List TextStart) (new : Group) (xs : List Target) → IsChange pool text n joined starts new a b before → IsMix a b (IsPayload xs) c
    → (d s : ℕ) → d < joined → s < 2048 → look xs d s ≡ None → c d s ≡ before d s
kept_sector {a} {b} {before} {c} pool text n joined starts new xs is mix d s below less none = elim (mix d s (is.told d s below less)) [
  | inl kept ↦ is.only d s (c d s) below less kept
  | inr put ↦ absurd (payload_none xs d s none (c d s) put)
]

-- some of the first targets stand on an array
mixed_array : {a b : RackView} {before c : Image} (pool text : List ℕ) (n joined : ℕ) (starts : List TextStart) (new : Group) → IsChange pool text n joined starts new a b before
    → IsMix a b (IsPayload (targets_to (first_targets pool a.sectors starts text) n)) c → (d : ℕ) → d < n → IsKept pool d (a.sectors d) text (before d) (c d)
mixed_array {a} {b} {before} {c} pool text n joined starts new is mix d below =
    let within = is.within in
    let inside : d < joined = omega arith in
    let start = start_is pool text n joined starts new is d below in
    record {
      label = elim (mix d 1 (is.told d 1 inside (omega arith))) [
        | inl kept ↦ inl (is.only d 1 (c d 1) inside (omega arith) kept)
        | inr put ↦ elim (first_payload pool a.sectors starts text n d 1 (c d 1) is.inside is.back.short (omega arith) put) [
          | inl label ↦ inr (label.1, is.back.label d below)
          | inr header ↦ absurd (omega (arith, header.0))
        ]
      ];
      header = elim (mix d 8 (is.told d 8 inside (omega arith))) [
        | inl kept ↦ inl (is.only d 8 (c d 8) inside (omega arith) kept)
        | inr put ↦ elim (first_payload pool a.sectors starts text n d 8 (c d 8) is.inside is.back.short (omega arith) put) [
          | inl label ↦ absurd (omega (arith, label.0))
          | inr header ↦ inr (sym (ap (λ (s : TextStart). s.blank) start) ∙ header.1, header.2)
        ]
      ];
      others = λ s less label header apart.
          kept_sector pool text n joined starts new (targets_to (first_targets pool a.sectors starts text) n) is mix d s inside less
          (firsts_none pool a.sectors starts text n d s (λ same. label (sym same)) (λ same. header (sym same))
          (λ k few place. apart k few (ap (λ (t : TextStart). place_at t.sector k) (sym start) ∙ place)));
    }

-- an array past the first ones stays as it was
past_array : {a b : RackView} {before c : Image} (pool text : List ℕ) (n joined : ℕ) (starts : List TextStart) (new : Group) → IsChange pool text n joined starts new a b before
    → IsMix a b (IsPayload (new_targets pool a.sectors starts text n)) c → (d : ℕ) → n ≤ d → d < joined → IsKept pool d (a.sectors d) text (before d) (c d)
past_array {a} {b} {before} {c} pool text n joined starts new is mix d past inside =
    let same = λ (s : ℕ) (less : s < 2048). kept_sector pool text n joined starts new (new_targets pool a.sectors starts text n) is mix d s inside less (past_none pool a.sectors starts text n d s past) in
    record { label = inl (same 1 (omega arith)); header = inl (same 8 (omega arith)); others = λ s less label header apart. same s less }

pub writing : {a b : RackView} {before : Image} (c : Image) (pool text : List ℕ) (n joined : ℕ) (starts : List TextStart) (new : Group) → IsChange pool text n joined starts new a b before → (d : ℕ) → d < joined
    → IsKept pool d (a.sectors d) text (before d) (c d) → IsWriting pool d (a.sectors d) text (before d) (c d)
writing c pool text n joined starts new is d inside kept = record { labels = is.back.labels; headers = is.back.headers; own = is.areas d inside; short = is.back.short; kept = kept }

pub kept_one : {a b : RackView} {before : Image} (c : Image) (pool text : List ℕ) (n joined : ℕ) (starts : List TextStart) (new said : Group) → IsChange pool text n joined starts new a b before → (d : ℕ) → d < joined
    → IsKept pool d (a.sectors d) text (before d) (c d) → IsOneOf pool d said (part_of (before d) (a.sectors d)) (part_of (c d) (a.sectors d))
kept_one {a} {b} {before} c pool text n joined starts new said is d inside kept =
    kept_says pool d (a.sectors d) text (before d) (c d) said (writing c pool text n joined starts new is d inside kept) (is.sound d inside)

-- all of them say what they said
pub all_mixed : {a b : RackView} {before c : Image} (pool text : List ℕ) (n joined : ℕ) (starts : List TextStart) (new said : Group) → IsChange pool text n joined starts new a b before
    → IsMix a b (IsPayload (targets_to (first_targets pool a.sectors starts text) n)) c → IsMix a b (IsPayload (new_targets pool a.sectors starts text n)) c
    → AreOneOf pool a.sectors joined said before c
all_mixed {a} {b} {before} {c} pool text n joined starts new said is first all = λ d inside. kept_one c pool text n joined starts new said is d inside (elim (cases_lt d n) [
  | inl below ↦ mixed_array pool text n joined starts new is first d below
  | inr past ↦ past_array pool text n joined starts new is all d past inside
])

-- and their areas stay the pool's
pub areas_mixed : {a b : RackView} {before c : Image} (pool text : List ℕ) (n joined : ℕ) (starts : List TextStart) (new : Group) → IsChange pool text n joined starts new a b before
    → IsMix a b (IsPayload (targets_to (first_targets pool a.sectors starts text) n)) c → IsMix a b (IsPayload (new_targets pool a.sectors starts text n)) c
    → (d : ℕ) → d < joined → HasOwnArea (c d)
areas_mixed {a} {b} {before} {c} pool text n joined starts new is first all d inside =
    area_kept pool d (a.sectors d) text (before d) (c d)
    (writing c pool text n joined starts new is d inside
    (elim (cases_lt d n) [
      | inl below ↦ mixed_array pool text n joined starts new is first d below
      | inr past ↦ past_array pool text n joined starts new is all d past inside
    ]))

-- ---- and while they are

-- a sector of a late image
late_sector : {a b : RackView} {before c : Image} (pool text : List ℕ) (n joined : ℕ) (starts : List TextStart) (new : Group) → IsChange pool text n joined starts new a b before
    → IsLate a b (targets_to (first_targets pool a.sectors starts text) n) (targets_to (header_target starts text) n) n c → (d s : ℕ) → d < n → s < 2048 → (8 ≡ s → ⊥)
    → c d s ≡ unwrap_or (look (targets_to (first_targets pool a.sectors starts text) n) d s) (before d s)
late_sector {a} {b} {before} {c} pool text n joined starts new is late d s below less other =
    let within = is.within in
    let inside : d < joined = omega arith in
    elim (late d s below (is.told d s inside less)) [
      | inl put ↦
          absurd (payload_none (targets_to (header_target starts text) n) d s
          (headers_at starts text n d s below ∙ look_other_sector d 8 d s (header_bytes (own_header (own_location (512 * (start_at starts d).sector) text ∷ []))) other) (c d s) put)
      | inr stands ↦ stands ∙ ap (unwrap_or (look (targets_to (first_targets pool a.sectors starts text) n) d s)) (now_is pool text n joined starts new is d s inside less)
    ]

header_payload : (starts : List TextStart) (text : List ℕ) (n d : ℕ) (v : List ℕ) → IsPayload (targets_to (header_target starts text) n) d 8 v
    → v ≡ header_bytes (own_header (own_location (512 * (start_at starts d).sector) text ∷ []))
header_payload starts text n d v is = go (payload_of (header_target starts text) n d 8 v is) where
  go : (j : ℕ) × (j < n) × IsPayload (header_target starts text j) d 8 v → v ≡ header_bytes (own_header (own_location (512 * (start_at starts d).sector) text ∷ []))
  go one = elim one.2 [
    | inl here ↦
        let at = and_parts (one.0 == d) (8 == 8) here.0 in
        here.1 ∙ ap (λ k. header_bytes (own_header (own_location (512 * (start_at starts k).sector) text ∷ []))) (eqb-true one.0 d at.0)
    | inr none ↦ absurd none
  ]

head_blank : (pool : List ℕ) (array sectors : ℕ) → look (label_targets pool array sectors ++ blank_targets array true) array 8 ≡ Some (header_bytes (own_header []))
unfolding look
head_blank pool array sectors = rw (eq-eqb array array refl) refl

head_full : (pool : List ℕ) (array sectors : ℕ) → look (label_targets pool array sectors ++ blank_targets array false) array 8 ≡ None
unfolding look
head_full pool array sectors = rw (eq-eqb array array refl) refl

full_some : (o : Option Header) → (start_by o).blank ≡ false → is_some o ≡ true
full_some None is = cc
full_some (Some header) is = refl

-- label and text of an array are durable
pub record IsReady (pool text : List ℕ) (d sectors first : ℕ) (x y : Array) : Type 0 where
  pub free : y 0 ≡ x 0
  pub label : y 1 ≡ label_bytes (own_label pool d sectors)
  pub stands : (k : ℕ) → 512 * k < length text → y (place_at first k) ≡ piece text k

ready : {a b : RackView} {before c : Image} (pool text : List ℕ) (n joined : ℕ) (starts : List TextStart) (new : Group) → IsChange pool text n joined starts new a b before
    → IsLate a b (targets_to (first_targets pool a.sectors starts text) n) (targets_to (header_target starts text) n) n c → (d : ℕ) → d < n
    → IsReady pool text d (a.sectors d) (start_at starts d).sector (before d) (c d)
ready {a} {b} {before} {c} pool text n joined starts new is late d below =
    let start : TextStart = start_at starts d in
    let some = (is.inside d).0 in
    let inside = (is.inside d).1 in
    let none = λ (s : ℕ) (less : s < 9). text_behind d start.sector d s text some inside is.back.short less in
    let at = λ (s : ℕ) (o : Option (List ℕ)) (less : s < 2048) (other : 8 ≡ s → ⊥) (found : look (first_targets pool a.sectors starts text d) d s ≡ o).
    late_sector pool text n joined starts new is late d s below less other
    ∙ ap (λ (p : Option (List ℕ)). unwrap_or p (before d s)) (firsts_at pool a.sectors starts text n d s below ∙ found) in
    record {
      free = at 0 None (omega arith) (λ same. absurd (omega arith))
          (first_at pool a.sectors starts text d 0 None (none 0 (omega arith)) (head_nowhere pool d (a.sectors d) 0 start.blank (λ same. absurd (omega arith)) (λ same. absurd (omega arith))));
      label = at 1 (Some (label_bytes (own_label pool d (a.sectors d)))) (omega arith) (λ same. absurd (omega arith))
          (first_at pool a.sectors starts text d 1 (Some (label_bytes (own_label pool d (a.sectors d)))) (none 1 (omega arith)) (head_at pool d (a.sectors d) start.blank));
      stands = λ k less.
          let short = is.back.short in
          let place = place_bounds start.sector k some inside (omega arith) in
          let least = place.0 in
          at (place_at start.sector k) (Some (piece text k)) place.1 (λ same. absurd (omega arith)) (first_text pool a.sectors starts text d k is.inside is.back.short less);
    }

-- its area is the pool's
ready_area : (pool text : List ℕ) (d sectors first : ℕ) (x y : Array) → HaveLabelsDecoded → IsLabel (own_label pool d sectors) → HasOwnArea x → IsReady pool text d sectors first x y → HasOwnArea y
ready_area pool text d sectors first x y labels is_label own is =
    let free : starts_with nat_eq (y 0) label_word ≡ false = rw is.free own.free in
    let found : label_on y ≡ Some (own_label pool d sectors) = rw (is.label, labels (own_label pool d sectors) (y 0) (y 2 ∷ y 3 ∷ []) is_label free) refl in
    record {
      free = free;
      area = λ label at. let one : label ≡ own_label pool d sectors = cc in ap (λ (l : Label). slice_get l.metadata.items 0) one;
    }

-- an array whose header has the new text
written_one : {a b : RackView} {before : Image} (c : Image) (pool text : List ℕ) (n joined : ℕ) (starts : List TextStart) (new : Group) → IsChange pool text n joined starts new a b before → (d : ℕ) → d < n
    → IsReady pool text d (a.sectors d) (start_at starts d).sector (before d) (c d) → c d 8 ≡ header_bytes (own_header (own_location (512 * (start_at starts d).sector) text ∷ []))
    → part_of (c d) (a.sectors d) ≡ written_part pool d (a.sectors d) (start_at starts d).sector text (Some new)
written_one {a} {b} {before} c pool text n joined starts new is d below stands header =
    let start : TextStart = start_at starts d in
    let some = (is.inside d).0 in
    let inside = (is.inside d).1 in
    let within = is.within in
    part_there pool d (a.sectors d) start.sector text (c d) new is.back.labels is.back.headers inside some is.back.short is.back.read
    (record {
      free = rw stands.free ((is.areas d (omega arith)).free);
      label = stands.label;
      is_label = is.back.label d below;
      header = header;
      is_location = is.back.location (512 * start.sector) (omega arith) (omega arith);
      stands = stands.stands;
    })

pub written_says : (pool : List ℕ) (d sectors first : ℕ) (text : List ℕ) (new : Group) (before after : Part) → after ≡ written_part pool d sectors first text (Some new)
    → IsOneOf pool d new before after × (has_own_label pool d after ≡ true)
written_says pool d sectors first text new before after is =
    let own : has_own_label pool d after ≡ true = ap (has_own_label pool d) is ∙ rw (same_bytes (label_id (pv_id pool d))) refl in
    (record { group = inr (ap (λ (part : Part). part.group) is); sound = ap has_bad_text is; labelled = λ before. own }, own)

-- an array whose header hasn't
unwritten_one : {a b : RackView} {before c : Image} (pool text : List ℕ) (n joined : ℕ) (starts : List TextStart) (new : Group) → IsChange pool text n joined starts new a b before
    → IsLate a b (targets_to (first_targets pool a.sectors starts text) n) (targets_to (header_target starts text) n) n c → (d : ℕ) → d < n
    → c d 8 ≡ unwrap_or (look (targets_to (first_targets pool a.sectors starts text) n) d 8) (before d 8)
    → IsOneOf pool d new (part_of (before d) (a.sectors d)) (part_of (c d) (a.sectors d)) × (has_own_label pool d (part_of (c d) (a.sectors d)) ≡ true)
unwritten_one {a} {b} {before} {c} pool text n joined starts new is late d below header = go (start_at starts d).blank refl where
  within : n ≤ joined
  within = is.within

  there : IsReady pool text d (a.sectors d) (start_at starts d).sector (before d) (c d)
  there = ready pool text n joined starts new is late d below

  start : start_at starts d ≡ start_of (before d 8)
  start = start_is pool text n joined starts new is d below

  at : (blank : Bool) → (start_at starts d).blank ≡ blank → (o : Option (List ℕ)) → look (label_targets pool d (a.sectors d) ++ blank_targets d blank) d 8 ≡ o → c d 8 ≡ unwrap_or o (before d 8)
  at blank is_blank o found =
      header ∙ ap (λ (p : Option (List ℕ)). unwrap_or p (before d 8))
      (firsts_at pool a.sectors starts text n d 8 below
      ∙ first_at pool a.sectors starts text d 8 o (text_behind d (start_at starts d).sector d 8 text (is.inside d).0 (is.inside d).1 is.back.short (omega arith))
      (ap (λ b. look (label_targets pool d (a.sectors d) ++ blank_targets d b) d 8) is_blank ∙ found))

  says : (c d 8 ≡ before d 8) ⊎ (((start_of (before d 8)).blank ≡ true) × (c d 8 ≡ header_bytes (own_header []))) → is_some (header_on (c d)) ≡ true
      → IsOneOf pool d new (part_of (before d) (a.sectors d)) (part_of (c d) (a.sectors d)) × (has_own_label pool d (part_of (c d) (a.sectors d)) ≡ true)
  says kept some = (
    kept_one c pool text n joined starts new new is d (omega arith)
        (record {
          label = inr (there.label, is.back.label d below);
          header = kept;
          others = λ s less label other apart.
              late_sector pool text n joined starts new is late d s below less (λ same. other (sym same))
              ∙ ap (λ (o : Option (List ℕ)). unwrap_or o (before d s))
              (firsts_none pool a.sectors starts text n d s (λ same. label (sym same)) (λ same. other (sym same))
              (λ k few place. apart k few (ap (λ (t : TextStart). place_at t.sector k) (sym start) ∙ place)));
        }),
    labelled_there pool d (a.sectors d) (c d) is.back.labels (is.back.label d below) there.label (rw there.free ((is.areas d (omega arith)).free)) some,
  )

  go : (blank : Bool) → (start_at starts d).blank ≡ blank
      → IsOneOf pool d new (part_of (before d) (a.sectors d)) (part_of (c d) (a.sectors d)) × (has_own_label pool d (part_of (c d) (a.sectors d)) ≡ true)
  go true blank =
      let put = at true blank (Some (header_bytes (own_header []))) (head_blank pool d (a.sectors d)) in
      says (inr (sym (ap (λ (s : TextStart). s.blank) start) ∙ blank, put)) (ap is_some (empty_there is.back.headers (c d 8) put))
  go false blank =
      let kept = at false blank None (head_full pool d (a.sectors d)) in
      says (inl kept) (ap (λ (bytes : List ℕ). is_some (result_ok (header_of bytes))) kept ∙ full_some (header_on (before d)) (sym (ap (λ (s : TextStart). s.blank) start) ∙ blank))

late_one : {a b : RackView} {before c : Image} (pool text : List ℕ) (n joined : ℕ) (starts : List TextStart) (new : Group) → IsChange pool text n joined starts new a b before
    → IsLate a b (targets_to (first_targets pool a.sectors starts text) n) (targets_to (header_target starts text) n) n c → (d : ℕ) → d < n
    → IsOneOf pool d new (part_of (before d) (a.sectors d)) (part_of (c d) (a.sectors d)) × (has_own_label pool d (part_of (c d) (a.sectors d)) ≡ true)
late_one {a} {b} {before} {c} pool text n joined starts new is late d below =
    let within = is.within in
    let told = is.told d 8 (omega arith) (omega arith) in
    elim (late d 8 below told) [
      | inl put ↦
          written_says pool d (a.sectors d) (start_at starts d).sector text new (part_of (before d) (a.sectors d)) (part_of (c d) (a.sectors d))
          (written_one c pool text n joined starts new is d below (ready pool text n joined starts new is late d below) (header_payload starts text n d (c d 8) put))
      | inr stands ↦
          unwritten_one pool text n joined starts new is late d below
          (stands ∙ ap (unwrap_or (look (targets_to (first_targets pool a.sectors starts text) n) d 8)) (now_is pool text n joined starts new is d 8 (omega arith) (omega arith)))
    ]

-- all of them say what they said or the new group, and those of the new text are labelled
pub all_late : {a b : RackView} {before c : Image} (pool text : List ℕ) (n joined : ℕ) (starts : List TextStart) (new : Group) → IsChange pool text n joined starts new a b before
    → IsLate a b (targets_to (first_targets pool a.sectors starts text) n) (targets_to (header_target starts text) n) n c → IsMix a b (IsPayload (new_targets pool a.sectors starts text n)) c
    → AreOneOf pool a.sectors joined new before c × ((d : ℕ) → d < n → has_own_label pool d (part_of (c d) (a.sectors d)) ≡ true)
all_late {a} {b} {before} {c} pool text n joined starts new is late all = (
  λ d inside. elim (cases_lt d n) [
    | inl below ↦ (late_one pool text n joined starts new is late d below).0
    | inr past ↦ kept_one c pool text n joined starts new new is d inside (past_array pool text n joined starts new is all d past inside)
  ],
  λ d below. (late_one pool text n joined starts new is late d below).1,
)

-- their areas stay the pool's then too
pub areas_late : {a b : RackView} {before c : Image} (pool text : List ℕ) (n joined : ℕ) (starts : List TextStart) (new : Group) → IsChange pool text n joined starts new a b before
    → IsLate a b (targets_to (first_targets pool a.sectors starts text) n) (targets_to (header_target starts text) n) n c → IsMix a b (IsPayload (new_targets pool a.sectors starts text n)) c
    → (d : ℕ) → d < joined → HasOwnArea (c d)
areas_late {a} {b} {before} {c} pool text n joined starts new is late all d inside = elim (cases_lt d n) [
  | inl below ↦
      ready_area pool text d (a.sectors d) (start_at starts d).sector (before d) (c d) is.back.labels (is.back.label d below) (is.areas d inside) (ready pool text n joined starts new is late d below)
  | inr past ↦ area_kept pool d (a.sectors d) text (before d) (c d) (writing c pool text n joined starts new is d inside (past_array pool text n joined starts new is all d past inside))
]
