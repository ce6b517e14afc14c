-- Arrays that hold a new volume's sectors mean its group, and where the sectors of a volume lie.
use Rattle.std.proofs.Common.{◌≡◌, ℕ, ◌+◌, ◌-◌, ◌*◌, ◌/◌, ◌<◌, ◌≤◌, ◌==◌, ◌||◌, Bool, true, false, List, [], ◌∷◌, Ok, refl, sym, ap, subst, ◌∙◌, arith, length, replicate}
use Rattle.std.specs.Prelude.{if◌then◌else◌, nat_eq, nat_le, nat_lt, slice_index, sum}
use Rattle.std.specs.List.{starts_with}
use Rattle.std.proofs.lemmas.Bool.{eqb-true, le-leb, le-ltb, lt-leb, lt-ltb, ltb-false}
use Rattle.std.proofs.lemmas.Nat.{div_below, mod_below}
use Rattle.std.proofs.lemmas.List.Sums.{sum_by-cons}
use Rattle.std.proofs.lemmas.Option.{slice_get_within}
use Rattle.rack.specs.Seen.{Image}
use Rattle.lvm_label.specs.Label.{HaveLabelsDecoded, IsLabel, label_bytes, label_word}
use Rattle.lvm_label.specs.Header.{HaveHeadersDecoded, IsLocation, header_bytes}
use Rattle.lvm_text.specs.declared.group.Pv.{Pv}
use Rattle.lvm_text.specs.declared.group.Group.{Group}
use Rattle.lvm_text.specs.Group.{group_of}
use Rattle.lvm_text.specs.Printed.{printed}
use Rattle.lvm_group.specs.Founding.{AreSized, HoldNew, IsReadAgain}
use Rattle.lvm_group.specs.Growth.{behind_runs, grown, pieces, reach, started}
use Rattle.lvm_group.specs.Ids.{group_id, group_name, text_id}
use Rattle.lvm_group.specs.Made.{new_group, new_sector, new_volume, text_at}
use Rattle.lvm_group.specs.Opening.{Means}
use Rattle.lvm_group.specs.Own.{HoldAll, own_lv}
use Rattle.lvm_group.specs.Runs.{Linear, array_of, data_start, extents_of, place_of, sector_of, sectors_in}
use Rattle.lvm_group.specs.Writing.{own_header, own_label, own_location, piece, text_sectors}
use Rattle.lvm_group.proofs.NewVolume.{fresh_starts, new_runs, new_writable, own_pvs_same}
use Rattle.lvm_group.proofs.OwnGroup.{own_extent, own_sized}
use Rattle.lvm_group.proofs.OwnText.{own_is_own}
use Rattle.lvm_group.proofs.Written.{IsWritten, group_written, none_bad}

-- ---- sectors of a new volume's arrays

no_eq : (m n : ℕ) → (m ≡ n → ⊥) → (m == n) ≡ false
no_eq m n differ = go (m == n) refl where
  go : (test : Bool) → (m == n) ≡ test → test ≡ false
  go false is = refl
  go true is = absurd (differ (eqb-true m n is))

-- behind label and header
behind_header : (pool : List ℕ) (extent : ℕ) (sizes numbers : List ℕ) (array s : ℕ) → 9 ≤ s
    → new_sector pool extent (slice_index sizes) numbers array s ≡ text_at (printed (new_group pool extent (slice_index sizes) numbers)) s
behind_header pool extent sizes numbers array s high =
    let text = printed (new_group pool extent (slice_index sizes) numbers) in
    ap (λ b. if b then label_bytes (own_label pool array (slice_index sizes array)) else if s == 8 then header_bytes (own_header (own_location 512 text ∷ [])) else text_at text s)
    (no_eq s 1 (λ same. absurd (omega (arith, same, high))))
    ∙ ap (λ b. if b then header_bytes (own_header (own_location 512 text ∷ [])) else text_at text s) (no_eq s 8 (λ same. absurd (omega (arith, same, high))))

-- a sector of the text
text_here : (text : List ℕ) (k : ℕ) → 512 * k < length text → text_at text (9 + k) ≡ piece text k
text_here text k inside =
    let same : 9 + k - 9 ≡ k = omega arith in
    ap (λ b. if b || nat_le (9 + text_sectors text) (9 + k) then replicate 512 0 else piece text (9 + k - 9)) (le-ltb (9 + k) 9 (omega arith))
    ∙ ap (λ b. if b then replicate 512 0 else piece text (9 + k - 9)) (lt-leb (9 + text_sectors text) (9 + k) (omega (arith, inside)))
    ∙ ap (piece text) same

-- and one behind it
text_past : (text : List ℕ) (s : ℕ) → 9 + text_sectors text ≤ s → text_at text s ≡ replicate 512 0
text_past text s past =
    ap (λ b. if b || nat_le (9 + text_sectors text) s then replicate 512 0 else piece text (s - 9)) (le-ltb s 9 (omega (arith, past)))
    ∙ ap (λ b. if b then replicate 512 0 else piece text (s - 9)) (le-leb (9 + text_sectors text) s past)

new_blank : (pool : List ℕ) (extent : ℕ) (sizes numbers : List ℕ) (array s : ℕ) → length (printed (new_group pool extent (slice_index sizes) numbers)) ≤ 262144 → data_start ≤ s
    → new_sector pool extent (slice_index sizes) numbers array s ≡ replicate 512 0
new_blank pool extent sizes numbers array s short past =
    behind_header pool extent sizes numbers array s (omega (arith, past))
    ∙ text_past (printed (new_group pool extent (slice_index sizes) numbers)) s (omega (arith, short, past))

-- ---- what they mean

-- what is read again of a new volume's sectors
pub record IsReadable (pool : List ℕ) (extent : ℕ) (sizes numbers : List ℕ) : Type 0 where
  pub labels : HaveLabelsDecoded
  pub headers : HaveHeadersDecoded
  pub few : length numbers ≤ 16
  pub holds : HoldAll extent (slice_index sizes) 0 numbers
  pub label : (array : ℕ) → array < length numbers → IsLabel (own_label pool array (slice_index sizes array))
  pub location : IsLocation (own_location 512 (printed (new_group pool extent (slice_index sizes) numbers)))
  pub short : length (printed (new_group pool extent (slice_index sizes) numbers)) ≤ 262144
  pub read : group_of (printed (new_group pool extent (slice_index sizes) numbers)) ≡ Ok (new_group pool extent (slice_index sizes) numbers)

module _ (pool : List ℕ) (extent : ℕ) (sizes numbers : List ℕ) (is : IsReadable pool extent sizes numbers) where
  abbrev text : List ℕ
  text = printed (new_group pool extent (slice_index sizes) numbers)

  module _ (sectors : ℕ → ℕ) (c : Image) (sized : AreSized sizes sectors numbers) (holds : HoldNew pool extent sizes numbers c) where
    -- the group is that of arrays of these sectors
    same_group : new_group pool extent (slice_index sizes) numbers ≡ new_group pool extent sectors numbers
    same_group =
        ap (λ (pvs : List Pv). record { name = group_name; id = text_id (group_id pool); seqno = 1; extent_size = extent; pvs = pvs; lvs = own_lv pool (grown [] numbers) ∷ [] })
        (own_pvs_same pool (slice_index sizes) sectors 0 numbers (λ i low. sym (sized i (omega (arith, low)))))

    hold_all : HoldAll extent sectors 0 numbers
    hold_all place number at =
        let within = slice_get_within numbers place number at in
        let here : sectors (0 + place) ≡ slice_index sizes (0 + place) = sized (0 + place) (omega (arith, within)) in
        subst (λ n. data_start + number * extent ≤ n) (sym here) (is.holds place number at)

    place_here : (k : ℕ) → 512 * k < length text → (if nat_lt (1 + k) 2040 then 8 + (1 + k) else 8 + (1 + k - 2039)) ≡ 9 + k
    place_here k inside =
        let short = is.short in
        ap (λ b. if b then 8 + (1 + k) else 8 + (1 + k - 2039)) (lt-ltb (1 + k) 2040 (omega (arith, inside, short))) ∙ omega arith

    written : (array : ℕ) → array < length numbers → IsWritten pool array (sectors array) 1 text (c array)
    written array low = record {
      free = ap (λ v. starts_with nat_eq v label_word) (holds array 0 low (omega arith)) ∙ refl;
      label = holds array 1 low (omega arith) ∙ ap (λ n. label_bytes (own_label pool array n)) (sym (sized array low));
      is_label = subst (λ n. IsLabel (own_label pool array n)) (sym (sized array low)) (is.label array low);
      header = holds array 8 low (omega arith);
      is_location = is.location;
      stands = λ k inside.
          let short = is.short in
          ap (c array) (place_here k inside)
          ∙ holds array (9 + k) low (omega (arith, inside, short))
          ∙ behind_header pool extent sizes numbers array (9 + k) (omega arith)
          ∙ text_here text k inside;
    }

    new_means : 0 < length numbers → Means pool extent (length numbers) sectors (new_volume extent numbers) 1 c
    new_means some =
        let group : Group = new_group pool extent sectors numbers in
        let read : group_of text ≡ Ok group = subst (λ (g : Group). group_of text ≡ Ok g) same_group is.read in
        let own = own_is_own pool extent (length numbers) sectors 1 numbers (grown [] numbers) (new_writable extent sectors numbers is.few hold_all) in
        record {
          group = group;
          found = group_written pool sectors [] (length numbers) text c group is.labels is.headers fresh_starts some is.short read written;
          own = own;
          sound = none_bad pool extent sectors [] (length numbers) text c group is.labels is.headers fresh_starts some is.short read own written;
          volume = sym (new_runs pool extent sectors numbers is.few);
          numbered = refl;
        }

  pub read_again : IsReadAgain pool extent sizes numbers
  read_again = record {
    means = λ sectors c some sized holds. new_means sectors c sized holds some;
    blank = λ array s past. new_blank pool extent sizes numbers array s is.short past;
  }

-- ---- where the sectors of a volume lie

-- a sector of the volume is one of an array, from its first extent on
pub record IsSpot (joined : ℕ) (sectors : ℕ → ℕ) (array sector : ℕ) : Type 0 where
  pub low : array < joined
  pub least : data_start ≤ sector
  pub inside : sector < sectors array

pub spot_inside : (pool : List ℕ) (extent joined : ℕ) (sectors : ℕ → ℕ) (l : Linear) (seqno : ℕ) (c : Image) (s : ℕ) → 0 < extent → Means pool extent joined sectors l seqno c
    → s < sectors_in l → IsSpot joined sectors (array_of l s) (sector_of l s)
spot_inside pool extent joined sectors l seqno c s some means within =
    let size : l.extent ≡ extent = ap (λ (k : Linear). k.extent) means.volume ∙ own_sized pool extent joined sectors means.group means.own in
    let sized : 0 < l.extent = omega (arith, size, some) in
    let e : ℕ = s / l.extent in
    let below : e < extents_of l.runs = div_below s l.extent (extents_of l.runs) sized within in
    let there = own_extent pool extent joined sectors means.group e means.own (subst (λ (k : Linear). e < extents_of k.runs) means.volume below) in
    let here = subst (λ (k : Linear). ((place_of k.runs e).array < joined) × (data_start + (place_of k.runs e).extent * extent + extent ≤ sectors (place_of k.runs e).array)) (sym means.volume) there in
    let held : data_start + (place_of l.runs e).extent * l.extent + l.extent ≤ sectors (place_of l.runs e).array =
    subst (λ n. data_start + (place_of l.runs e).extent * n + n ≤ sectors (place_of l.runs e).array) (sym size) here.1 in
    let rest = mod_below s l.extent sized in
    record { low = here.0; least = omega arith; inside = omega (arith, held, rest) }

-- ---- how many extents a new volume has

extents_from : (start array : ℕ) (numbers : List ℕ) → extents_of (started start (pieces array [] numbers)) ≡ sum numbers
unfolding pieces reach started
extents_from start array [] = refl
extents_from start array (number ∷ others) = of (nat_lt 0 number) refl (λ from. extents_from from (array + 1) others)
  where
    of : (b : Bool) → nat_lt 0 number ≡ b → ((from : ℕ) → extents_of (started from (pieces (array + 1) [] others)) ≡ sum others)
        → extents_of (started start (if b then record { array = array; first = 0; count = number - 0 } ∷ pieces (array + 1) [] others else pieces (array + 1) [] others)) ≡ sum (number ∷ others)
    of true some later =
        let rest = later (start + (number - 0)) in
        let more = sum_by-cons (λ n. n) number others in
        let all : (number - 0) + extents_of (started (start + (number - 0)) (pieces (array + 1) [] others)) ≡ number + sum others = omega (arith, rest) in
        all ∙ sym more
    of false none later =
        let more = sum_by-cons (λ n. n) number others in
        let zero = ltb-false 0 number none in
        let same : sum others ≡ number + sum others = omega (arith, zero) in
        later start ∙ same ∙ sym more

pub new_extents_are : (numbers : List ℕ) → extents_of (grown [] numbers) ≡ sum numbers
unfolding behind_runs
new_extents_are numbers = extents_from 0 0 numbers
