-- A member that is lost changes no value: in a stripe that agrees, those that are left give what all gave.
use Rattle.std.proofs.Common.{◌≡◌, ◌⊎◌, ℕ, zero, suc, ◌+◌, ◌<◌, ◌≤◌, Bool, true, false, nat_lt, if◌then◌else◌, List, [], ◌∷◌, ◌++◌, map, take, length, Some, None, refl, sym, ap, ap₂, subst, ◌∙◌, inl, inr, ltb-true, arith}
use Rattle.rack.specs.Seen.{Image}
use Rattle.raid_map.specs.LeftSymmetric.{row_at}
use Rattle.parity.specs.Xor.{HasLength}
use Rattle.array_image.specs.Places.{member_slice, data_sector}
use Rattle.array_image.specs.Stripes.{Layout, mirror, parity, width, position_in, sector_in, there, given, AgreeIn}
use Rattle.array_image.specs.Arrays.{Member, Shape, column, layout_at, value_by}
use Rattle.array_image.specs.Held.{Among}
use Rattle.array_image.specs.Even.{AreEven}
use Rattle.array_image.specs.Marks.{unless_gone, lower, lowered}
use Rattle.array_image.proofs.Lost.{whole, there_whole, lost_parity, lost_mirror}
use Rattle.array_image.proofs.Losing.{data_of, AreLeft, columns_lost, column_there, column_none, map_join, length_map}

-- a member counts at a sector and isn't lost
abbrev pub IsLeftOne : (ℕ → Bool) → ℕ → Member → Type 0
IsLeftOne lost sector m = (lost m.place ≡ false) × (sector < m.reach)

-- of the members all but at most one count and aren't lost
abbrev pub AllButOne : (ℕ → Bool) → ℕ → List Member → Type 0
AllButOne lost sector [] = Unit {0}
AllButOne lost sector (m ∷ others) = (IsLeftOne lost sector m × AllButOne lost sector others) ⊎ AreLeft lost sector others

-- who is lost of members: nobody whose sector counted, or one
pub data Losses (lost : ℕ → Bool) (c : Image) (array sector : ℕ) (members : List Member) : Type 0 where
  none :
      map (column c array sector) (map (lower lost) members) ≡ map (column c array sector) members
      → Losses lost c array sector members
  one :
      (before : List Member) (m : Member) (after : List Member)
      → members ≡ before ++ m ∷ after
      → AreLeft lost sector before
      → lost m.place ≡ true
      → sector < m.reach
      → AreLeft lost sector after
      → Losses lost c array sector members

same_lower : (lost : ℕ → Bool) (c : Image) (array sector : ℕ) (m : Member) → lost m.place ≡ false → column c array sector (lower lost m) ≡ column c array sector m
same_lower lost c array sector m kept = ap (λ (b : Bool). column c array sector (unless_gone b m)) kept

pub all_left : (lost : ℕ → Bool) (c : Image) (array sector : ℕ) (members : List Member) → AreLeft lost sector members
    → map (column c array sector) (map (lower lost) members) ≡ map (column c array sector) members
all_left lost c array sector [] left = refl
all_left lost c array sector (m ∷ others) left =
    ap₂ (λ v vs. v ∷ vs) (same_lower lost c array sector m left.0.0) (all_left lost c array sector others left.1)

first_lost : (lost : ℕ → Bool) (c : Image) (array sector : ℕ) (m : Member) (others : List Member) → AreLeft lost sector others → Losses lost c array sector (m ∷ others)
first_lost lost c array sector m others left =
    let Goal : Bool → Bool → Type 0 = λ gone counts. lost m.place ≡ gone → nat_lt sector m.reach ≡ counts → Losses lost c array sector (m ∷ others) in
    let kept : lost m.place ≡ false → Losses lost c array sector (m ∷ others) =
    λ is. none (ap₂ (λ v vs. v ∷ vs) (same_lower lost c array sector m is) (all_left lost c array sector others left)) in
    let goal : Goal (lost m.place) (nat_lt sector m.reach) =
    elim (lost m.place) as (λ gone. Goal gone (nat_lt sector m.reach)) [
      | false ↦ λ is counts. kept is
      | true ↦ elim (nat_lt sector m.reach) as (λ counts. Goal true counts) [
        | true ↦ λ is counts. one [] m others refl tt is (ltb-true sector m.reach counts) left
        | false ↦ λ is past.
            none
            (ap₂ (λ v vs. v ∷ vs)
            (ap (λ (b : Bool). column c array sector (unless_gone b m)) is
            ∙ column_none c array sector m
            ∙ sym (ap (λ b. if b then Some (c (member_slice m.place array) (data_sector + sector)) else None) past))
            (all_left lost c array sector others left))
      ]
    ] in
    goal refl refl

pub losses : (lost : ℕ → Bool) (c : Image) (array sector : ℕ) (members : List Member) → AllButOne lost sector members → Losses lost c array sector members
losses lost c array sector [] but = none refl
losses lost c array sector (m ∷ others) (inr left) = first_lost lost c array sector m others left
losses lost c array sector (m ∷ others) (inl but) =
    elim (losses lost c array sector others but.1) [
      | none same ↦ none (ap₂ (λ v vs. v ∷ vs) (same_lower lost c array sector m but.0.0) same)
      | one before n after is left gone counts right ↦
          one (m ∷ before) n after (ap (λ ms. m ∷ ms) is) (but.0, left) gone counts right
    ]

-- the columns of members that all count
pub columns_all : (c : Image) (array sector : ℕ) (members : List Member) → ((m : Member) → Among m members → sector < m.reach)
    → map (column c array sector) members ≡ map Some (map (data_of c array sector) members)
columns_all c array sector [] count = refl
columns_all c array sector (m ∷ others) count =
    ap₂ (λ v vs. v ∷ vs) (column_there c array sector m (count m (inl refl))) (columns_all c array sector others (λ o among. count o (inr among)))

among_left : (lost : ℕ → Bool) (sector : ℕ) (members : List Member) (m : Member) → AreLeft lost sector members → Among m members → sector < m.reach
among_left lost sector [] m left among = absurd among
among_left lost sector (first ∷ others) m left (inl here) = subst (λ (o : Member). sector < o.reach) (sym here) left.0.1
among_left lost sector (first ∷ others) m left (inr later) = among_left lost sector others m left.1 later

-- all members count before one of them is lost
pub all_count : (lost : ℕ → Bool) (sector : ℕ) (before : List Member) (m : Member) (after : List Member)
    → AreLeft lost sector before → sector < m.reach → AreLeft lost sector after
    → (o : Member) → Among o (before ++ m ∷ after) → sector < o.reach
all_count lost sector [] m after left counts right o (inl here) = subst (λ (p : Member). sector < p.reach) (sym here) counts
all_count lost sector [] m after left counts right o (inr later) = among_left lost sector after o right later
all_count lost sector (first ∷ before) m after left counts right o (inl here) = subst (λ (p : Member). sector < p.reach) (sym here) left.0.1
all_count lost sector (first ∷ before) m after left counts right o (inr later) = all_count lost sector before m after left.1 counts right o later

sized_all : (c : Image) (array sector : ℕ) (before : List Member) (m : Member) (after : List Member)
    → ((o : Member) → Among o (before ++ m ∷ after) → length (data_of c array sector o) ≡ 512)
    → HasLength 512 (map (data_of c array sector) before ++ map (data_of c array sector) after) × (length (data_of c array sector m) ≡ 512)
sized_all c array sector [] m [] sized = (tt, sized m (inl refl))
sized_all c array sector [] m (o ∷ after) sized =
    let rest = sized_all c array sector [] m after (λ p among. sized p (elim among [ inl here ↦ inl here | inr later ↦ inr (inr later) ])) in
    ((sized o (inr (inl refl)), rest.0), sized m (inl refl))
sized_all c array sector (o ∷ before) m after sized =
    let rest = sized_all c array sector before m after (λ p among. sized p (inr among)) in
    ((sized o (inl refl), rest.0), rest.1)

pub take_lower : (lost : ℕ → Bool) (n : ℕ) (members : List Member) → take n (map (lower lost) members) ≡ map (lower lost) (take n members)
take_lower lost zero members = refl
take_lower lost (suc n) [] = refl
take_lower lost (suc n) (m ∷ others) = ap (λ ms. lower lost m ∷ ms) (take_lower lost n others)

-- what the members give at a position
abbrev given_of : Layout → Image → ℕ → ℕ → List Member → ℕ → List ℕ
given_of layout c array sector members position = given layout (map (column c array sector) members) position

whole_columns : (c : Image) (array sector : ℕ) (before : List Member) (m : Member) (after : List Member)
    → ((o : Member) → Among o (before ++ m ∷ after) → sector < o.reach)
    → map (column c array sector) (before ++ m ∷ after) ≡ whole (map (data_of c array sector) before) (data_of c array sector m) (map (data_of c array sector) after)
whole_columns c array sector before m after count =
    columns_all c array sector (before ++ m ∷ after) count
    ∙ ap (map Some) (map_join (data_of c array sector) before (m ∷ after))
    ∙ map_join Some (map (data_of c array sector) before) (data_of c array sector m ∷ map (data_of c array sector) after)

length_join : (f : Member → List ℕ) (before : List Member) (m : Member) (after : List Member) → length (map f before ++ f m ∷ map f after) ≡ length (before ++ m ∷ after)
length_join f [] m after = ap suc (length_map f after)
length_join f (o ∷ before) m after = ap suc (length_join f before m after)

none_left : (f : Member → List ℕ) (before : List Member) (m : Member) (after : List Member) → 2 ≤ length (before ++ m ∷ after) → map f before ++ map f after ≡ [] → ⊥
none_left f [] m [] two empty = absurd (omega (arith, two))
none_left f [] m (o ∷ after) two empty = absurd (omega (arith, ap length empty))
none_left f (o ∷ before) m after two empty = absurd (omega (arith, ap length empty))

-- one of the members is lost
one_lost : (layout : Layout) (lost : ℕ → Bool) (c : Image) (array sector position : ℕ) (before : List Member) (m : Member) (after : List Member)
    → AreLeft lost sector before → lost m.place ≡ true → sector < m.reach → AreLeft lost sector after
    → AgreeIn layout (there (map (column c array sector) (before ++ m ∷ after)))
    → ((o : Member) → Among o (before ++ m ∷ after) → length (data_of c array sector o) ≡ 512)
    → position < length (before ++ m ∷ after)
    → 2 ≤ length (before ++ m ∷ after)
    → given_of layout c array sector (map (lower lost) (before ++ m ∷ after)) position ≡ given_of layout c array sector (before ++ m ∷ after) position
one_lost (parity n) lost c array sector position before m after left gone counts right agree sized inside two =
    let f = data_of c array sector in
    let wide = sized_all c array sector before m after sized in
    let columns = whole_columns c array sector before m after (all_count lost sector before m after left counts right) in
    let row = subst (λ stripe. AgreeIn (parity n) stripe) (there_whole (map f before) (f m) (map f after)) (subst (λ stripe. AgreeIn (parity n) (there stripe)) columns agree) in
    ap (λ stripe. given (parity n) stripe position) (columns_lost lost c array sector before m after left gone right)
    ∙ lost_parity (map f before) (f m) (map f after) n position wide.0 wide.1 row (omega (arith, inside, length_join f before m after))
    ∙ sym (ap (λ stripe. given (parity n) stripe position) columns)
one_lost (mirror n) lost c array sector position before m after left gone counts right agree sized inside two =
    let f = data_of c array sector in
    let columns = whole_columns c array sector before m after (all_count lost sector before m after left counts right) in
    let row = subst (λ stripe. AgreeIn (mirror n) stripe) (there_whole (map f before) (f m) (map f after)) (subst (λ stripe. AgreeIn (mirror n) (there stripe)) columns agree) in
    ap (λ stripe. given (mirror n) stripe position) (columns_lost lost c array sector before m after left gone right)
    ∙ lost_mirror (map f before) (f m) (map f after) n position row (none_left f before m after two)
    ∙ sym (ap (λ stripe. given (mirror n) stripe position) columns)

-- The value of a sector of the array stays, where its stripe agrees and has all its members but one that is lost or was missing.
pub noted_value : (lost : ℕ → Bool) (shape : Shape) (array resync : ℕ) (c : Image) (x : ℕ)
    → AreEven shape array resync c
    → AllButOne lost (sector_in (layout_at shape x) x) (take (width (layout_at shape x)) shape.members)
    → sector_in (layout_at shape x) x < shape.size
    → row_at (sector_in (layout_at shape x) x) < resync
    → ((o : Member) → Among o (take (width (layout_at shape x)) shape.members) → sector_in (layout_at shape x) x < o.reach → length (data_of c array (sector_in (layout_at shape x) x) o) ≡ 512)
    → position_in (layout_at shape x) x < length (take (width (layout_at shape x)) shape.members)
    → 2 ≤ length (take (width (layout_at shape x)) shape.members)
    → value_by (lowered lost shape) c array x ≡ value_by shape c array x
unfolding value_by
noted_value lost shape array resync c x even but within synced sized inside two =
    let layout = layout_at shape x in
    let sector = sector_in layout x in
    let members = take (width layout) shape.members in
    ap (λ ms. given_of layout c array sector ms (position_in layout x)) (take_lower lost (width layout) shape.members)
    ∙ elim (losses lost c array sector members but) [
      | none same ↦ ap (λ stripe. given layout stripe (position_in layout x)) same
      | one before m after is left gone counts right ↦
          ap (λ (ms : List Member). given_of layout c array sector (map (lower lost) ms) (position_in layout x)) is
          ∙ one_lost layout lost c array sector (position_in layout x) before m after left gone counts right
          (subst (λ (ms : List Member). AgreeIn layout (there (map (column c array sector) ms))) is
          (even x within synced (λ o among. all_count lost sector before m after left counts right o (subst (λ (ms : List Member). Among o ms) is among))))
          (λ o among. sized o (subst (λ (ms : List Member). Among o ms) (sym is) among) (all_count lost sector before m after left counts right o among))
          (subst (λ (ms : List Member). position_in layout x < length ms) is inside)
          (subst (λ (ms : List Member). 2 ≤ length ms) is two)
          ∙ sym (ap (λ (ms : List Member). given_of layout c array sector ms (position_in layout x)) is)
    ]
