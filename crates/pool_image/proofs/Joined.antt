-- What is said of the joined arrays goes by these alone, and by the sectors that they have.
use Rattle.std.proofs.Common.{◌≡◌, ℕ, zero, suc, ◌+◌, ◌*◌, ◌/◌, ◌%◌, ◌<◌, ◌≤◌, Bool, true, false, ◌==◌, ◌&&◌, ◌||◌, not, nat_le, nat_lt, bytes_eq, if◌then◌else◌, List, [], ◌∷◌, find, length, map, Option, Some, None, inl, inr, refl, sym, ap, ap₂, subst, ◌∙◌, ltb-true, arith}
use Rattle.std.specs.Option.{option_map_or}
use Rattle.std.specs.List.{list_all, range_with_len}
use Rattle.std.proofs.lemmas.Bool.{both_ways, cases_lt}
use Rattle.std.proofs.lemmas.Nat.{div_below, mod_below}
use Rattle.std.proofs.lemmas.Option.{none-some}
use Rattle.rack.specs.Seen.{Image}
use Rattle.lvm_text.specs.declared.group.Pv.{Pv}
use Rattle.lvm_text.specs.declared.group.Group.{Group}
use Rattle.lvm_group.specs.Group.{first_bad, has_own_label, names_array, group_in, has_own_head, is_bad, is_bad_by, is_only_lv, is_own_group, is_pv, is_pv_of, highest, differ, linear_in}
use Rattle.lvm_group.specs.Ids.{array_named, pv_id, text_id}
use Rattle.lvm_group.specs.Laws.{shows}
use Rattle.lvm_group.specs.Parts.{has_bad_text, part_of}
use Rattle.lvm_group.specs.Runs.{Linear, array_of, data_start, extents_of, place_of, sector_of, sectors_in as sectors_along}
use Rattle.lvm_group.specs.Shown.{contents_of}
use Rattle.lvm_group.proofs.OwnGroup.{own_extent, own_sized}
use Rattle.pool_image.specs.Meaning.{Volume, volume_by}
use Rattle.pool_image.specs.Sound.{AreSame}
use Rattle.pool_image.specs.Volumes.{Arrays, group_on, header_on, label_on, linear_of}
use Rattle.pool_image.specs.Volumes as meant
use Rattle.pool_image.proofs.Groups.{AreWholeArrays, bad_alike, find_below, group_alike, map_below}
use Rattle.pool_image.proofs.Parts.{held_in}

module _ (pool : List ℕ) (extent joined : ℕ) (f g : ℕ → ℕ) (same : (n : ℕ) → n < joined → f n ≡ g n) where
  pv_same : (pv : Pv) (n : ℕ) → is_pv_of pool extent f joined pv n ≡ is_pv_of pool extent g joined pv n
  pv_same pv n = of (nat_lt n joined) refl
    where
      of : (b : Bool) → nat_lt n joined ≡ b
          → (b && (bytes_eq pv.id (text_id (pv_id pool n)) && ((pv.pe_start == data_start) && nat_le (data_start + pv.pe_count * extent) (f n))))
          ≡ (b && (bytes_eq pv.id (text_id (pv_id pool n)) && ((pv.pe_start == data_start) && nat_le (data_start + pv.pe_count * extent) (g n))))
      of false past = refl
      of true low = ap (λ k. bytes_eq pv.id (text_id (pv_id pool n)) && ((pv.pe_start == data_start) && nat_le (data_start + pv.pe_count * extent) k)) (same n (ltb-true n joined low))

  pvs_same : (pv : Pv) → is_pv pool extent f joined pv ≡ is_pv pool extent g joined pv
  pvs_same pv = of (array_named pv.name)
    where
      of : (o : Option ℕ) → option_map_or (is_pv_of pool extent f joined pv) o false ≡ option_map_or (is_pv_of pool extent g joined pv) o false
      of None = refl
      of (Some n) = pv_same pv n

  own_same : (group : Group) → is_own_group pool extent f joined group ≡ is_own_group pool extent g joined group
  own_same group =
      ap (λ (p : Pv → Bool). has_own_head pool extent group && (list_all p group.pvs && (differ group.pvs && is_only_lv pool group.pvs group.lvs)))
      (λ i pv. pvs_same pv i)

  -- arrays that say the same parts
  group_by_parts : (c e : Image) → ((n : ℕ) → n < joined → part_of (c n) (f n) ≡ part_of (e n) (g n)) → group_in c f joined ≡ group_in e g joined
  group_by_parts c e alike =
      ap (λ parts. highest (map (λ part. part.group) parts))
      (map_below (λ n. part_of (c n) (f n)) (λ n. part_of (e n) (g n)) 0 joined (λ n low. alike n (omega (arith, low))))

  pub bad_by_parts : (c e : Image) → ((n : ℕ) → n < joined → part_of (c n) (f n) ≡ part_of (e n) (g n)) → first_bad pool extent f joined c ≡ first_bad pool extent g joined e
  unfolding first_bad
  bad_by_parts c e alike =
      find_below (is_bad pool extent f joined c) (is_bad pool extent g joined e) 0 joined (λ n low.
      ap₂ (λ o part. is_bad_by pool extent f joined o n part) (group_by_parts c e alike) (alike n (omega (arith, low)))
      ∙ ap (λ (own : Group → Bool).
      has_bad_text (part_of (e n) (g n))
      || ((option_map_or (λ h. names_array h n) (group_in e g joined) false && not (has_own_label pool n (part_of (e n) (g n))))
      || ((n == 0) && not (option_map_or own (group_in e g joined) false)))) (λ i group. own_same group i))

  parts_same : (c e : Image) → ((n : ℕ) → n < joined → c n ≡ e n) → (n : ℕ) → n < joined → part_of (c n) (f n) ≡ part_of (e n) (g n)
  parts_same c e alike n below = ap₂ part_of (alike n below) (same n below)

  pub group_same : (c e : Image) → ((n : ℕ) → n < joined → c n ≡ e n) → group_in c f joined ≡ group_in e g joined
  group_same c e alike = group_by_parts c e (parts_same c e alike)

  pub bad_same : (c e : Image) → ((n : ℕ) → n < joined → c n ≡ e n) → first_bad pool extent f joined c ≡ first_bad pool extent g joined e
  bad_same c e alike = bad_by_parts c e (parts_same c e alike)

-- ---- the volume of a group

-- a list whose first number passes
first_passes : (p : ℕ → Bool) (k : ℕ) → 0 < k → find p (range_with_len 0 k) ≡ None → p 0 ≡ false
first_passes p zero some none = absurd (omega (arith, some))
first_passes p (suc k) some none = of (p 0) refl none
  where
    of : (b : Bool) → p 0 ≡ b → (if b then Some 0 else find p (range_with_len 1 k)) ≡ None → p 0 ≡ false
    of true is bad = absurd (none-some 0 (sym bad))
    of false is fine = is

own_of : (a b own : Bool) → (a || (b || not own)) ≡ false → own ≡ true
own_of true b own is = absurd (both_ways true is refl)
own_of false true own is = absurd (both_ways true is refl)
own_of false false true is = refl
own_of false false false is = absurd (both_ways true is refl)

-- where no array is bad the group is the pool's own
own_group : (a : Arrays) (g : Group) → 0 < a.joined → meant.group_in a ≡ Some g → meant.first_bad a ≡ None → is_own_group a.pool a.extent a.sectors a.joined g ≡ true
unfolding meant.is_bad
own_group a g some found none =
    let fine = first_passes (meant.is_bad a) a.joined some none in
    sym (ap (λ o. option_map_or (is_own_group a.pool a.extent a.sectors a.joined) o false) found)
    ∙ own_of (has_bad_text (record { label = label_on a 0; header = header_on a 0; group = group_on a 0 }))
    (option_map_or (λ h. names_array h 0) (meant.group_in a) false && not (has_own_label a.pool 0 (record { label = label_on a 0; header = header_on a 0; group = group_on a 0 })))
    (option_map_or (is_own_group a.pool a.extent a.sectors a.joined) (meant.group_in a) false) fine

module _ (a : Arrays) (g : Group) (c : Image) (own : is_own_group a.pool a.extent a.sectors a.joined g ≡ true)
    (same : (n s : ℕ) → n < a.joined → s < a.sectors n → c n s ≡ a.contents n s) where
  abbrev l : Linear
  l = linear_of a g

  -- its sectors are those of the arrays that it lies on
  along_same : (s : ℕ) → s < sectors_along l → contents_of l a.contents 0 s ≡ contents_of l c 0 s
  along_same s within =
      let some : 0 < l.extent = sized in
      let below : s / l.extent < extents_of l.runs = div_below s l.extent (extents_of l.runs) some within in
      let inside = own_extent a.pool a.extent a.joined a.sectors g (s / l.extent) own below in
      let rest : s % l.extent < l.extent = mod_below s l.extent some in
      let held : data_start + (place_of l.runs (s / l.extent)).extent * l.extent + l.extent ≤ a.sectors (array_of l s) =
      subst (λ size. data_start + (place_of l.runs (s / l.extent)).extent * size + size ≤ a.sectors (array_of l s)) (sym (own_sized a.pool a.extent a.joined a.sectors g own)) inside.1 in
      let low : sector_of l s < a.sectors (array_of l s) = omega (arith, rest, held) in
      shows l a.contents 0 s within ∙ sym (same (array_of l s) (sector_of l s) inside.0 low) ∙ sym (shows l c 0 s within)
    where
      sized : 0 < l.extent
      sized = elim (cases_lt 0 l.extent) [
        | inl some ↦ some
        | inr none ↦
            let zero_is : l.extent ≡ 0 = omega (arith, none) in
            let nothing : s < extents_of l.runs * 0 = subst (λ k. s < extents_of l.runs * k) zero_is within in
            absurd (omega (arith, nothing))
      ]

-- as many arrays of one pool, of the same sectors, each of which has the same contents
pub record AreAlike (a b : Arrays) : Type 0 where
  pub pool : a.pool ≡ b.pool
  pub extent : a.extent ≡ b.extent
  pub joined : a.joined ≡ b.joined
  pub sectors : (n : ℕ) → n < b.joined → a.sectors n ≡ b.sectors n
  pub contents : (n s : ℕ) → n < b.joined → s < b.sectors n → a.contents n s ≡ b.contents n s

module _ (a b : Arrays) (alike : AreAlike a b) (are : AreWholeArrays b) where
  small : (n : ℕ) → n < a.joined → n < b.joined
  small n low = subst (λ k. n < k) alike.joined low

  whole_same : AreWholeArrays a
  whole_same = record {
    whole = λ n low s inside.
        let there = small n low in
        let less : s < b.sectors n = subst (λ k. s < k) (alike.sectors n there) inside in
        ap length (alike.contents n s there less) ∙ are.whole n there s less;
    room = λ n low. subst (λ k. 4 ≤ k) (sym (alike.sectors n (small n low))) (are.room n (small n low));
  }

  sector_same : (n : ℕ) → n < b.joined → (s : ℕ) → held_in a n s ≡ held_in b n s
  sector_same n low s = ap (λ k. if nat_lt s k then a.contents n s else []) (alike.sectors n low) ∙ of (nat_lt s (b.sectors n)) refl
    where
      of : (t : Bool) → nat_lt s (b.sectors n) ≡ t → (if t then a.contents n s else []) ≡ (if t then b.contents n s else [])
      of true inside = alike.contents n s low (ltb-true s (b.sectors n) inside)
      of false past = refl

  held_same : (n : ℕ) → n < b.joined → held_in a n ≡ held_in b n
  held_same n low = λ i s. sector_same n low s i

  -- their group
  pub group_kept : meant.group_in a ≡ meant.group_in b
  group_kept =
      sym (group_alike a whole_same)
      ∙ ap (group_in (held_in a) a.sectors) alike.joined
      ∙ group_same b.pool b.extent b.joined a.sectors b.sectors alike.sectors (held_in a) (held_in b) held_same
      ∙ group_alike b are

  -- and the lowest bad one
  pub bad_kept : meant.first_bad a ≡ meant.first_bad b
  bad_kept =
      sym (bad_alike a whole_same)
      ∙ ap (λ pool. first_bad pool a.extent a.sectors a.joined (held_in a)) alike.pool
      ∙ ap (λ extent. first_bad b.pool extent a.sectors a.joined (held_in a)) alike.extent
      ∙ ap (λ joined. first_bad b.pool b.extent a.sectors joined (held_in a)) alike.joined
      ∙ bad_same b.pool b.extent b.joined a.sectors b.sectors alike.sectors (held_in a) (held_in b) held_same
      ∙ bad_alike b are

  -- where none is bad, their volumes
  pub volumes_kept : 0 < b.joined → meant.first_bad b ≡ None
      → AreSame (option_map_or (λ g. volume_by (linear_of b g) b.contents ∷ []) (meant.group_in b) [])
      (option_map_or (λ g. volume_by (linear_of a g) a.contents ∷ []) (meant.group_in a) [])
  volumes_kept some sound = subst (λ o. AreSame (volumes b (meant.group_in b)) (volumes a o)) (sym group_kept) (of (meant.group_in b) refl)
    where
      volumes : Arrays → Option Group → List Volume
      volumes k o = option_map_or (λ g. volume_by (linear_of k g) k.contents ∷ []) o []

      linear_same : (g : Group) → linear_of a g ≡ linear_of b g
      linear_same g = ap (λ joined. linear_in joined g) alike.joined

      of : (o : Option Group) → meant.group_in b ≡ o → AreSame (volumes b o) (volumes a o)
      of None none = tt
      of (Some g) found = (
        (
          sym (ap sectors_along (linear_same g)),
          λ s within.
              along_same b g a.contents (own_group b g some found sound) alike.contents s within
              ∙ sym (ap (λ l. contents_of l a.contents 0 s) (linear_same g)),
        ),
        tt,
      )
