-- Takeover, begin and finish: superblocks alone are written, and each sector of the array has the value that it had.
use Rattle.std.proofs.Common.{◌≡◌, ◌⊎◌, ℕ, zero, suc, ◌+◌, ◌-◌, ◌*◌, ◌%◌, ◌<◌, ◌≤◌, Bool, if◌then◌else◌, List, [], ◌∷◌, ◌++◌, map, take, length, Option, Some, None, refl, sym, ap, ap₂, subst, ◌∙◌, inl, inr, lt-ltb, le-ltb, arith}
use Rattle.std.proofs.lemmas.Bool.{cases_lt}
use Rattle.rack.specs.Seen.{Image}
use Rattle.rack.specs.Targets.{look}
use Rattle.raid_map.specs.LeftSymmetric.{IsMemberCount, member_of, row_at, row_of, sector_of}
use Rattle.raid_map.proofs.Rows.{row_members_differ}
use Rattle.parity.specs.Xor.{xor, xor_all, zeros}
use Rattle.parity.proofs.Laws.{xor_is_a_group}
use Rattle.array_image.specs.Places.{member_slice, data_sector}
use Rattle.array_image.specs.Stripes.{Layout, mirror, parity, width, position_in, sector_in, there, at_position, first_there, given, AgreeIn}
use Rattle.array_image.specs.Arrays.{Member, Shape, column, layout_at, value_by}
use Rattle.array_image.specs.Even.{AllCount, AreEven}
use Rattle.array_image.specs.Held.{Among}
use Rattle.array_model.specs.Rows.{written}
use Rattle.array_model.proofs.Filled.{xor_zeros}
use Rattle.reshape_laws.specs.Ahead.{ShapeMoves}
use Rattle.reshape_laws.proofs.Ahead.{value_laid}
use Rattle.reshape_laws.proofs.PastEnd.{NoneCounts, none_value, past_sector}

no_look : (d t : ℕ) → look [] d t ≡ None
unfolding look
no_look d t = refl

-- nothing is written
same_written : (cur : Image) → written [] cur ≡ cur
unfolding look
same_written cur = refl

-- ---- finish: all rows are moved

-- the shape of a reshape that has moved all rows, and that of the array of the new number
pub finish_moves : (n k size synced : ℕ) (spent : ℕ → Bool) (f g : Shape) (cur : Image) → IsMemberCount k → IsMemberCount (k - 1) → size % 128 ≡ 0
    → f.size ≡ size → g.size ≡ size → g.members ≡ f.members → ((m : Member) → Among m f.members → m.reach ≤ size)
    → ((y : ℕ) → layout_at g y ≡ parity k)
    → ((y : ℕ) → y < (k - 1) * size → layout_at f y ≡ parity k)
    → ((y : ℕ) → (k - 1) * size ≤ y → layout_at f y ≡ parity (k - 1))
    → ShapeMoves n f g synced synced spent (λ m. ⊥) cur []
finish_moves n k size synced spent f g cur count older whole size_f size_g members low later below past = record {
  counted = λ m t among counts. inl (m, subst (λ (ms : List Member). Among m ms) members among, refl, counts);
  value = λ y alive. ap (λ c. value_by g c n y) (same_written cur) ∙ value y;
  even = λ even. subst (AreEven g n synced) (sym (same_written cur)) (even_g even);
}
  where
    small : (k - 1 - 1) * size ≤ (k - 1) * size
    small = less (k - 1) size
      where
        less : (j size : ℕ) → (j - 1) * size ≤ j * size
        less zero size = let e : (zero - 1) * size ≡ 0 = grind arith in omega (arith, e)
        less (suc j) size = let e : (suc j - 1) * size ≡ j * size = ap (λ i. i * size) (let f : suc j - 1 ≡ j = omega arith in f) in let f : suc j * size ≡ j * size + size = grind arith in omega (arith, e, f)

    none_by : (h : Shape) (y j : ℕ) → h.members ≡ f.members → layout_at h y ≡ parity j → size ≤ sector_of j y → NoneCounts (sector_in (layout_at h y) y) h.members
    none_by h y j members_h layout out m among =
        let reach = low m (subst (λ (ms : List Member). Among m ms) members_h among) in
        let at : sector_in (layout_at h y) y ≡ sector_of j y = ap (λ (l : Layout). sector_in l y) layout in
        omega (arith, reach, out, at)

    value : (y : ℕ) → value_by g cur n y ≡ value_by f cur n y
    value y = elim (cases_lt y ((k - 1) * size)) [
      | inl inside ↦ value_laid f g cur n y (later y ∙ sym (below y inside)) members
      | inr out ↦
          none_value g cur n y (none_by g y k members (later y) (past_sector k size y count whole out))
          ∙ sym (none_value f cur n y (none_by f y (k - 1) refl (past y out) (past_sector (k - 1) size y older whole (omega (arith, small, out)))))
    ]

    even_g : AreEven f n synced cur → AreEven g n synced cur
    even_g even y inside row counts = elim (cases_lt y ((k - 1) * size)) [
      | inl early ↦
          let same : layout_at g y ≡ layout_at f y = later y ∙ sym (below y early) in
          subst (λ (l : Layout). AgreeIn l (there (map (column cur n (sector_in l y)) (take (width l) g.members)))) (sym same)
          (subst (λ (ms : List Member). AgreeIn (layout_at f y) (there (map (column cur n (sector_in (layout_at f y) y)) (take (width (layout_at f y)) ms)))) (sym members)
          (even y
          (subst (λ (l : Layout). sector_in l y < f.size) same (subst (λ s. sector_in (layout_at g y) y < s) (size_g ∙ sym size_f) inside))
          (subst (λ (l : Layout). row_at (sector_in l y) < synced) same row)
          (subst (λ (l : Layout). (m : Member) → Among m (take (width l) f.members) → sector_in l y < m.reach) same
          (subst (λ (ms : List Member). (m : Member) → Among m (take (width (layout_at g y)) ms) → sector_in (layout_at g y) y < m.reach) members counts))))
      | inr out ↦
          let far = past_sector k size y count whole out in
          let at : sector_in (layout_at g y) y ≡ sector_of k y = ap (λ (l : Layout). sector_in l y) (later y) in
          absurd (omega (arith, far, at, inside, size_g))
    ]

-- ---- begin: a member joins at the last position, and no row is moved

first_of : (ms : List Member) (o : Member) → take (length ms) (ms ++ o ∷ []) ≡ take (length ms) ms
first_of [] o = refl
first_of (m ∷ others) o = ap (λ xs. m ∷ xs) (first_of others o)

among_last : (ms : List Member) (o m : Member) → Among m (ms ++ o ∷ []) → Among m ms ⊎ (m ≡ o)
among_last [] o m (inl is) = inr is
among_last [] o m (inr none) = absurd none
among_last (x ∷ others) o m (inl is) = inl (inl is)
among_last (x ∷ others) o m (inr later) = elim (among_last others o m later) [ inl old ↦ inl (inr old) | inr new ↦ inr new ]

-- shapes of one layout, whose members of that layout are the same
value_took : (n j y : ℕ) (f g : Shape) (c : Image) → layout_at f y ≡ parity j → layout_at g y ≡ parity j → take j g.members ≡ take j f.members
    → value_by g c n y ≡ value_by f c n y
unfolding value_by
value_took n j y f g c before after taken =
    let By : Layout → List Member → List ℕ = λ l ms. given l (map (column c n (sector_in l y)) (take (width l) ms)) (position_in l y) in
    ap (λ (l : Layout). By l g.members) after
    ∙ ap (λ (os : List Member). given (parity j) (map (column c n (sector_of j y)) os) (member_of j y)) taken
    ∙ sym (ap (λ (l : Layout). By l f.members) before)

pub begin_moves : (n j synced : ℕ) (spent : ℕ → Bool) (f g : Shape) (o : Member) (cur : Image)
    → f.size ≡ g.size → g.members ≡ f.members ++ o ∷ [] → length f.members ≡ j
    → ((y : ℕ) → layout_at f y ≡ parity j) → ((y : ℕ) → layout_at g y ≡ parity j)
    → ShapeMoves n f g synced synced spent (λ m. m ≡ o) cur []
begin_moves n j synced spent f g o cur size members count before after = record {
  counted = λ m t among counts. elim (among_last f.members o m (subst (λ (ms : List Member). Among m ms) members among)) [
    | inl old ↦ inl (m, old, refl, counts)
    | inr new ↦ inr (inr new)
  ];
  value = λ y alive. ap (λ c. value_by g c n y) (same_written cur) ∙ value y;
  even = λ even. subst (AreEven g n synced) (sym (same_written cur)) (even_g even);
}
  where
    taken : take j g.members ≡ take j f.members
    taken = ap (take j) members ∙ subst (λ i. take i (f.members ++ o ∷ []) ≡ take i f.members) count (first_of f.members o)

    value : (y : ℕ) → value_by g cur n y ≡ value_by f cur n y
    value y = value_took n j y f g cur (before y) (after y) taken

    even_g : AreEven f n synced cur → AreEven g n synced cur
    even_g even y inside row counts =
        let same : layout_at g y ≡ layout_at f y = after y ∙ sym (before y) in
        let ms : take (width (layout_at f y)) g.members ≡ take (width (layout_at f y)) f.members =
        subst (λ (l : Layout). take (width l) g.members ≡ take (width l) f.members) (sym (before y)) taken in
        subst (λ (l : Layout). AgreeIn l (there (map (column cur n (sector_in l y)) (take (width l) g.members)))) (sym same)
        (subst (λ (os : List Member). AgreeIn (layout_at f y) (there (map (column cur n (sector_in (layout_at f y) y)) os))) (sym ms)
        (even y
        (subst (λ (l : Layout). sector_in l y < f.size) same (subst (λ s. sector_in (layout_at g y) y < s) (sym size) inside))
        (subst (λ (l : Layout). row_at (sector_in l y) < synced) same row)
        (subst (λ (os : List Member). (m : Member) → Among m os → sector_in (layout_at f y) y < m.reach) ms
        (subst (λ (l : Layout). (m : Member) → Among m (take (width l) g.members) → sector_in l y < m.reach) same counts))))

-- ---- takeover: a mirror of two members is RAID-5 of two

sector_two : (y : ℕ) → sector_of 2 y ≡ y
unfolding sector_of row_of
sector_two y = omega arith

-- a row of two that has one member or both
two_given : (p : ℕ) (o q : Option (List ℕ)) → p < 2 → ((u : List ℕ) → o ≡ Some u → length u ≡ 512) → ((u : List ℕ) → q ≡ Some u → length u ≡ 512)
    → ((u w : List ℕ) → o ≡ Some u → q ≡ Some w → w ≡ u)
    → given (parity 2) (o ∷ q ∷ []) p ≡ first_there (there (o ∷ q ∷ []))
unfolding given at_position there xor_all
two_given zero None None low long wide same = refl
two_given zero None (Some w) low long wide same = xor_zeros w (wide w refl)
two_given zero (Some u) None low long wide same = refl
two_given zero (Some u) (Some w) low long wide same = refl
two_given (suc zero) None None low long wide same = refl
two_given (suc zero) None (Some w) low long wide same = refl
two_given (suc zero) (Some u) None low long wide same = xor_zeros u (long u refl)
two_given (suc zero) (Some u) (Some w) low long wide same = same u w refl refl
two_given (suc (suc p)) o q low long wide same = absurd (omega (arith, low))

second_of : (u w : List ℕ) → AgreeIn (mirror 2) (there (Some u ∷ Some w ∷ [])) → w ≡ u
unfolding there
second_of u w is = is.1.0

parity_two : (u w : List ℕ) → length u ≡ 512 → length w ≡ 512 → w ≡ u → AgreeIn (parity 2) (there (Some u ∷ Some w ∷ []))
unfolding there xor_all
parity_two u w long wide same = ap (xor u) (xor_zeros w wide ∙ same) ∙ xor_is_a_group.own_inverse u ∙ ap zeros long

two_value : (y : ℕ) (f g : Shape) (one two : Member) (c : Image) (n : ℕ) → layout_at f y ≡ mirror 2 → layout_at g y ≡ parity 2
    → f.members ≡ one ∷ two ∷ [] → g.members ≡ one ∷ two ∷ []
    → given (parity 2) (column c n y one ∷ column c n y two ∷ []) (member_of 2 y) ≡ first_there (there (column c n y one ∷ column c n y two ∷ []))
    → value_by g c n y ≡ value_by f c n y
unfolding value_by given
two_value y f g one two c n before after members_f members_g same =
    let By : Layout → List Member → List ℕ = λ l ms. given l (map (column c n (sector_in l y)) (take (width l) ms)) (position_in l y) in
    ap (λ (l : Layout). By l g.members) after
    ∙ ap (λ (ms : List Member). By (parity 2) ms) members_g
    ∙ ap (λ t. given (parity 2) (column c n t one ∷ column c n t two ∷ []) (member_of 2 y)) (sector_two y)
    ∙ same
    ∙ sym (ap (λ (l : Layout). By l f.members) before ∙ ap (λ (ms : List Member). By (mirror 2) ms) members_f)

none_is : {u : List ℕ} → None ≡ Some u → ⊥
none_is same = cc

module _ (n size synced : ℕ) (f g : Shape) (one two : Member) (cur : Image)
    (size_f : f.size ≡ size) (size_g : g.size ≡ size) (members_f : f.members ≡ one ∷ two ∷ []) (members_g : g.members ≡ one ∷ two ∷ [])
    (before : (y : ℕ) → layout_at f y ≡ mirror 2) (after : (y : ℕ) → layout_at g y ≡ parity 2)
    (low : (m : Member) → Among m (one ∷ two ∷ []) → m.reach ≤ size)
    (sized : (m : Member) (t : ℕ) → Among m (one ∷ two ∷ []) → t < m.reach → length (cur (member_slice m.place n) (data_sector + t)) ≡ 512)
    (all_synced : (t : ℕ) → t < size → row_at t < synced)
    (even : AreEven f n synced cur) where
  col : ℕ → Member → Option (List ℕ)
  col y m = column cur n y m

  counted_col : (y : ℕ) (m : Member) (u : List ℕ) → column cur n y m ≡ Some u → (y < m.reach) × (u ≡ cur (member_slice m.place n) (data_sector + y))
  counted_col y m u is = elim (cases_lt y m.reach) [
    | inl counts ↦ (
      counts,
      (let e : Some (cur (member_slice m.place n) (data_sector + y)) ≡ Some u = ap (λ (b : Bool). if b then Some (cur (member_slice m.place n) (data_sector + y)) else None) (sym (lt-ltb y m.reach counts)) ∙ is in cc),
    )
    | inr none ↦ absurd (none_is (sym (ap (λ (b : Bool). if b then Some (cur (member_slice m.place n) (data_sector + y)) else None) (le-ltb y m.reach none)) ∙ is))
  ]

  -- both copies are one
  agree_at : (y : ℕ) → y < one.reach → y < two.reach → cur (member_slice two.place n) (data_sector + y) ≡ cur (member_slice one.place n) (data_sector + y)
  agree_at y here there_too =
      let inside : y < size = (let reach = low one (inl refl) in omega (arith, here, reach)) in
      let Agree : Layout → List Member → Type 0 = λ l ms. AgreeIn l (there (map (column cur n (sector_in l y)) (take (width l) ms))) in
      let all : AllCount (layout_at f y) f (sector_in (layout_at f y) y) =
      subst (λ (l : Layout). (m : Member) → Among m (take (width l) f.members) → sector_in l y < m.reach) (sym (before y))
      (subst (λ (ms : List Member). (m : Member) → Among m (take 2 ms) → y < m.reach) (sym members_f)
      (λ m among. elim among [
        | inl is ↦ subst (λ (o : Member). y < o.reach) (sym is) here
        | inr rest ↦ elim rest [ inl is ↦ subst (λ (o : Member). y < o.reach) (sym is) there_too | inr none ↦ absurd none ]
      ])) in
      let at : Agree (layout_at f y) f.members =
      even y (subst (λ (l : Layout). sector_in l y < f.size) (sym (before y)) (subst (λ s. y < s) (sym size_f) inside))
      (subst (λ (l : Layout). row_at (sector_in l y) < synced) (sym (before y)) (all_synced y inside)) all in
      let both : AgreeIn (mirror 2) (there (column cur n y one ∷ column cur n y two ∷ [])) =
      subst (λ (ms : List Member). Agree (mirror 2) ms) members_f (subst (λ (l : Layout). Agree l f.members) (before y) at) in
      second_of _ _
      (subst (λ stripe. AgreeIn (mirror 2) (there stripe))
      (ap₂ (λ (o q : Option (List ℕ)). o ∷ q ∷ []) (there_col y one here) (there_col y two there_too)) both)
    where
      there_col : (y : ℕ) (m : Member) → y < m.reach → column cur n y m ≡ Some (cur (member_slice m.place n) (data_sector + y))
      there_col y m counts = ap (λ (b : Bool). if b then Some (cur (member_slice m.place n) (data_sector + y)) else None) (lt-ltb y m.reach counts)

  taken_value : (y : ℕ) → value_by g cur n y ≡ value_by f cur n y
  taken_value y = two_value y f g one two cur n (before y) (after y) members_f members_g
      (two_given (member_of 2 y) (column cur n y one) (column cur n y two)
      ((row_members_differ 2 (record { least = omega arith; most = omega arith })).is_member y)
      (λ u is. let at = counted_col y one u is in ap length at.1 ∙ sized one y (inl refl) at.0)
      (λ u is. let at = counted_col y two u is in ap length at.1 ∙ sized two y (inr (inl refl)) at.0)
      (λ u w is_u is_w.
      let at = counted_col y one u is_u in
      let also = counted_col y two w is_w in
      also.1 ∙ agree_at y at.0 also.0 ∙ sym at.1))

  taken_even : AreEven g n synced cur
  taken_even y inside row counts =
      let each : (m : Member) → Among m (one ∷ two ∷ []) → y < m.reach =
      subst (λ t. (m : Member) → Among m (one ∷ two ∷ []) → t < m.reach) (sector_two y)
      (subst (λ (ms : List Member). (m : Member) → Among m (take 2 ms) → sector_of 2 y < m.reach) members_g
      (subst (λ (l : Layout). (m : Member) → Among m (take (width l) g.members) → sector_in l y < m.reach) (after y) counts)) in
      let here = each one (inl refl) in
      let there_too = each two (inr (inl refl)) in
      let Agree : Layout → List Member → Type 0 = λ l ms. AgreeIn l (there (map (column cur n (sector_in l y)) (take (width l) ms))) in
      let both : AgreeIn (parity 2) (there (column cur n y one ∷ column cur n y two ∷ [])) =
      subst (λ stripe. AgreeIn (parity 2) (there stripe))
      (ap₂ (λ (o q : Option (List ℕ)). o ∷ q ∷ []) (sym (there_is y one here)) (sym (there_is y two there_too)))
      (parity_two _ _ (sized one y (inl refl) here) (sized two y (inr (inl refl)) there_too) (agree_at y here there_too)) in
      subst (λ (l : Layout). Agree l g.members) (sym (after y))
      (subst (λ (ms : List Member). Agree (parity 2) ms) (sym members_g)
      (subst (λ t. AgreeIn (parity 2) (there (column cur n t one ∷ column cur n t two ∷ []))) (sym (sector_two y)) both))
    where
      there_is : (y : ℕ) (m : Member) → y < m.reach → column cur n y m ≡ Some (cur (member_slice m.place n) (data_sector + y))
      there_is y m counted = ap (λ (b : Bool). if b then Some (cur (member_slice m.place n) (data_sector + y)) else None) (lt-ltb y m.reach counted)

  pub takeover_moves : (spent : ℕ → Bool) → ShapeMoves n f g synced synced spent (λ m. ⊥) cur []
  takeover_moves spent = record {
    counted = λ m t among counts.
        inl (m, subst (λ (ms : List Member). Among m ms) (sym members_f) (subst (λ (ms : List Member). Among m ms) members_g among), refl, counts);
    value = λ y alive. ap (λ c. value_by g c n y) (same_written cur) ∙ taken_value y;
    even = λ was. subst (AreEven g n synced) (sym (same_written cur)) taken_even;
  }
