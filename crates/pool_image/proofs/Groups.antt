-- The group of the joined arrays, and which of them are bad, as lvm_group says it of the same arrays.
use Rattle.std.proofs.Common.{◌≡◌, ℕ, zero, suc, ◌+◌, ◌/◌, ◌%◌, ◌<◌, ◌≤◌, Bool, ◌==◌, if◌then◌else◌, List, [], ◌∷◌, map, find, Option, Some, None, refl, sym, ap, ap₂, ◌∙◌, inl, inr, lt-ltb, le-ltb, arith}
use Rattle.std.specs.Option.{option_and_then, option_map_or}
use Rattle.std.specs.Result.{result_ok}
use Rattle.std.specs.List.{range_with_len}
use Rattle.std.proofs.lemmas.Bool.{cases_lt}
use Rattle.lvm_label.specs.declared.label.Area.{Area}
use Rattle.lvm_label.specs.declared.label.Label.{Label}
use Rattle.lvm_label.specs.declared.header.Header.{Header}
use Rattle.lvm_label.specs.Label.{label_in}
use Rattle.lvm_label.specs.Header.{header_of, locations_at}
use Rattle.lvm_group.specs.Parts.{area_of, location_in, group_in_area, part_by}
use Rattle.lvm_group.specs.Parts as part
use Rattle.lvm_group.specs.Group.{highest, is_bad_by}
use Rattle.lvm_group.specs.Group as group
use Rattle.pool_image.specs.Volumes.{Arrays, label_on, header_at, area_header, header_sector, header_on, group_at, group_on, group_in, is_bad, first_bad}
use Rattle.pool_image.proofs.Parts.{held_in, IsWholeArray, group_same}

-- arrays of whole sectors, with room for a label
pub record AreWholeArrays (a : Arrays) : Type 0 where
  pub whole : (n : ℕ) → n < a.joined → IsWholeArray a n
  pub room : (n : ℕ) → n < a.joined → 4 ≤ a.sectors n

module _ (a : Arrays) (n : ℕ) (whole : IsWholeArray a n) (room : 4 ≤ a.sectors n) where
  abbrev h : ℕ → List ℕ
  h = held_in a n

  label_same : part.label_on h ≡ label_on a n
  label_same =
      let there = λ (s : ℕ) (low : s < a.sectors n). ap (λ (b : Bool). if b then a.contents n s else []) (lt-ltb s (a.sectors n) low) in
      λ i. result_ok (label_in 0 (there 0 (omega (arith, room)) i ∷ there 1 (omega (arith, room)) i ∷ there 2 (omega (arith, room)) i ∷ there 3 (omega (arith, room)) i ∷ []))

  no_header : result_ok (header_of []) ≡ None
  unfolding header_of locations_at
  no_header = refl

  header_same : (s : ℕ) → result_ok (header_of (h s)) ≡ header_at a n s
  header_same s =
      elim (cases_lt s (a.sectors n)) [
        | inl low ↦
            let is = lt-ltb s (a.sectors n) low in
            ap (λ (b : Bool). result_ok (header_of (if b then a.contents n s else []))) is
            ∙ sym (ap (λ (b : Bool). if b then result_ok (header_of (a.contents n s)) else None) is)
        | inr past ↦
            let is = le-ltb s (a.sectors n) past in
            ap (λ (b : Bool). result_ok (header_of (if b then a.contents n s else []))) is
            ∙ no_header
            ∙ sym (ap (λ (b : Bool). if b then result_ok (header_of (a.contents n s)) else None) is)
      ]

  area_same : (area : Area) → part.header_at h area ≡ area_header a n area
  area_same area = ap (λ o. if area.offset % 512 == 0 then o else None) (header_same (area.offset / 512))

  -- the group in an area, by its header
  in_area_same : (area : Option Area) (header : Option Header)
      → group_in_area h area header ≡ option_and_then (λ p. option_and_then (group_at a n p) (option_and_then location_in header)) area
  in_area_same None None = refl
  in_area_same None (Some head) = refl
  in_area_same (Some p) None = refl
  in_area_same (Some p) (Some head) = of (location_in head)
    where
      of : (l : _) → option_and_then (λ k. part.group_at h p k) l ≡ option_and_then (group_at a n p) l
      of None = refl
      of (Some k) = group_same a n whole p k

  pub part_same : part.part_of h (a.sectors n) ≡ record { label = label_on a n; header = header_on a n; group = group_on a n }
  unfolding part_by group_on
  part_same =
      ap (part_by h h (a.sectors n)) label_same ∙ of (label_on a n)
    where
      by : (o : Option Area) → option_and_then (part.header_at h) o ≡ option_and_then (area_header a n) o
      by None = refl
      by (Some area) = area_same area

      of : (o : Option Label) → part_by h h (a.sectors n) o
          ≡ record {
            label = o;
            header = option_map_or (λ label. option_and_then (area_header a n) (area_of (a.sectors n) label)) o (header_at a n header_sector);
            group =
                option_and_then
                (λ area. option_and_then (group_at a n area)
                (option_and_then location_in (option_map_or (λ label. option_and_then (area_header a n) (area_of (a.sectors n) label)) o (header_at a n header_sector))))
                (option_and_then (area_of (a.sectors n)) o);
          }
      of None = ap (λ x. record { label = None; header = x; group = None }) (header_same header_sector)
      of (Some label) =
          let area = area_of (a.sectors n) label in
          let header : option_and_then (part.header_at h) area ≡ option_and_then (area_header a n) area = by area in
          ap₂ (λ x y. record { label = Some label; header = x; group = y }) header
          (ap (group_in_area h area) header ∙ in_area_same area (option_and_then (area_header a n) area))

pub map_below : {X : Type 0} (f g : ℕ → X) (s m : ℕ) → ((n : ℕ) → n < s + m → f n ≡ g n) → map f (range_with_len s m) ≡ map g (range_with_len s m)
map_below f g s zero same = refl
map_below f g s (suc m) same = ap₂ (λ x xs. x ∷ xs) (same s (omega arith)) (map_below f g (s + 1) m (λ n low. same n (omega (arith, low))))

pub find_below : (f g : ℕ → Bool) (s m : ℕ) → ((n : ℕ) → n < s + m → f n ≡ g n) → find f (range_with_len s m) ≡ find g (range_with_len s m)
find_below f g s zero same = refl
find_below f g s (suc m) same =
    ap₂ (λ b o. if b then Some s else o) (same s (omega arith)) (find_below f g (s + 1) m (λ n low. same n (omega (arith, low))))

-- the group
pub group_alike : (a : Arrays) → AreWholeArrays a → group.group_in (held_in a) a.sectors a.joined ≡ group_in a
unfolding group_in
group_alike a are =
    ap highest
    (maps (λ part. part.group) (λ n. part.part_of (held_in a n) (a.sectors n)) 0 a.joined
    ∙ map_below (λ n. (part.part_of (held_in a n) (a.sectors n)).group) (group_on a) 0 a.joined
    (λ n low. let below : n < a.joined = omega (arith, low) in ap (λ p. p.group) (part_same a n (are.whole n below) (are.room n below))))
  where
    maps : {X Y : Type 0} (f : X → Y) (g : ℕ → X) (s m : ℕ) → map f (map g (range_with_len s m)) ≡ map (λ n. f (g n)) (range_with_len s m)
    maps f g s zero = refl
    maps f g s (suc m) = ap (λ xs. f (g s) ∷ xs) (maps f g (s + 1) m)

-- and the lowest bad array
pub bad_alike : (a : Arrays) → AreWholeArrays a → group.first_bad a.pool a.extent a.sectors a.joined (held_in a) ≡ first_bad a
unfolding group.first_bad is_bad
bad_alike a are =
    find_below (group.is_bad a.pool a.extent a.sectors a.joined (held_in a)) (is_bad a) 0 a.joined
    (λ n low.
    let below : n < a.joined = omega (arith, low) in
    ap₂ (λ g p. is_bad_by a.pool a.extent a.sectors a.joined g n p) (group_alike a are) (part_same a n (are.whole n below) (are.room n below)))
