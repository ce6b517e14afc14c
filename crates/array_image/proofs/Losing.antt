-- A RAID-5 array that loses a member in a call: what its sectors give since, if the row with the lost member's old or new sector agrees.
use Rattle.std.proofs.Common.{◌≡◌, ℕ, suc, ◌+◌, ◌<◌, Bool, true, false, if◌then◌else◌, List, [], ◌∷◌, ◌++◌, map, take, length, Some, None, refl, ap, ap₂, ◌∙◌, lt-ltb, le-ltb, take_all, arith}
use Rattle.rack.specs.Seen.{Image}
use Rattle.parity.specs.Xor.{HasLength}
use Rattle.array_image.specs.Places.{member_slice, data_sector}
use Rattle.array_image.specs.Stripes.{Layout, parity, width, position_in, sector_in, given, AgreeIn}
use Rattle.array_image.specs.Arrays.{Member, Shape, column, layout_at, value_by}
use Rattle.array_image.specs.Marks.{unless_gone, lower, lowered}
use Rattle.array_image.proofs.Lost.{whole, lacking, lost_parity}

-- a member's sector
abbrev pub data_of : Image → ℕ → ℕ → Member → List ℕ
data_of c array sector m = c (member_slice m.place array) (data_sector + sector)

-- members that count and aren't lost
abbrev pub AreLeft : (ℕ → Bool) → ℕ → List Member → Type 0
AreLeft lost sector [] = Unit {0}
AreLeft lost sector (m ∷ others) = ((lost m.place ≡ false) × (sector < m.reach)) × AreLeft lost sector others

pub column_there : (c : Image) (array sector : ℕ) (m : Member) → sector < m.reach → column c array sector m ≡ Some (c (member_slice m.place array) (data_sector + sector))
column_there c array sector m counts =
    ap (λ b. if b then Some (c (member_slice m.place array) (data_sector + sector)) else None) (lt-ltb sector m.reach counts)

pub column_none : (c : Image) (array sector : ℕ) (m : Member) → column c array sector (unless_gone true m) ≡ None
column_none c array sector m =
    ap (λ b. if b then Some (c (member_slice m.place array) (data_sector + sector)) else None) (le-ltb sector 0 (omega arith))

pub columns_left : (lost : ℕ → Bool) (c : Image) (array sector : ℕ) (members : List Member)
    → AreLeft lost sector members
    → map (column c array sector) (map (lower lost) members) ≡ map Some (map (data_of c array sector) members)
columns_left lost c array sector [] left = refl
columns_left lost c array sector (m ∷ others) left =
    ap₂ (λ v vs. v ∷ vs)
    (ap (λ (b : Bool). column c array sector (unless_gone b m)) left.0.0
    ∙ column_there c array sector m left.0.1)
    (columns_left lost c array sector others left.1)

pub map_join : {X Y : Type 0} (f : X → Y) (xs ys : List X) → map f (xs ++ ys) ≡ map f xs ++ map f ys
map_join f [] ys = refl
map_join f (x ∷ xs) ys = ap (λ zs. f x ∷ zs) (map_join f xs ys)

pub length_map : {X Y : Type 0} (f : X → Y) (xs : List X) → length (map f xs) ≡ length xs
length_map f [] = refl
length_map f (x ∷ xs) = ap suc (length_map f xs)

-- the columns of a row that one member is lost from
pub columns_lost : (lost : ℕ → Bool) (c : Image) (array sector : ℕ) (before : List Member) (m : Member) (after : List Member)
    → AreLeft lost sector before → lost m.place ≡ true → AreLeft lost sector after
    → map (column c array sector) (map (lower lost) (before ++ m ∷ after))
    ≡ lacking (map (data_of c array sector) before) (map (data_of c array sector) after)
columns_lost lost c array sector before m after left gone right =
    ap (map (column c array sector)) (map_join (lower lost) before (m ∷ after))
    ∙ map_join (column c array sector) (map (lower lost) before) (lower lost m ∷ map (lower lost) after)
    ∙ ap₂ (λ vs ws. vs ++ ws) (columns_left lost c array sector before left)
    (ap₂ (λ v vs. v ∷ vs)
    (ap (λ (b : Bool). column c array sector (unless_gone b m)) gone ∙ column_none c array sector m)
    (columns_left lost c array sector after right))

-- each sector of the row gives what the agreeing row has: v at the lost member, and its own sector on each other one
pub losing_value : (lost : ℕ → Bool) (shape : Shape) (n array : ℕ) (c : Image) (x : ℕ) (before : List Member) (m : Member) (after : List Member) (v : List ℕ)
    → shape.members ≡ before ++ m ∷ after
    → layout_at shape x ≡ parity n
    → length (before ++ m ∷ after) ≡ n
    → AreLeft lost (sector_in (parity n) x) before → lost m.place ≡ true → AreLeft lost (sector_in (parity n) x) after
    → HasLength 512 (map (data_of c array (sector_in (parity n) x)) before ++ map (data_of c array (sector_in (parity n) x)) after)
    → length v ≡ 512
    → AgreeIn (parity n) (map (data_of c array (sector_in (parity n) x)) before ++ v ∷ map (data_of c array (sector_in (parity n) x)) after)
    → position_in (parity n) x < n
    → value_by (lowered lost shape) c array x
    ≡ given (parity n) (whole (map (data_of c array (sector_in (parity n) x)) before) v (map (data_of c array (sector_in (parity n) x)) after)) (position_in (parity n) x)
unfolding value_by
losing_value lost shape n array c x before m after v members layout count left gone right sized wide agree inside =
    let sector = sector_in (parity n) x in
    let b = map (data_of c array sector) before in
    let a = map (data_of c array sector) after in
    ap (λ (l : Layout). given l (map (column c array (sector_in l x)) (take (width l) (map (lower lost) shape.members))) (position_in l x)) layout
    ∙ ap (λ (ms : List Member). given (parity n) (map (column c array sector) (take n (map (lower lost) ms))) (position_in (parity n) x)) members
    ∙ ap (λ (ms : List Member). given (parity n) (map (column c array sector) ms) (position_in (parity n) x))
    (take_all n (map (lower lost) (before ++ m ∷ after)) (omega (arith, count, length_map (lower lost) (before ++ m ∷ after))))
    ∙ ap (λ stripe. given (parity n) stripe (position_in (parity n) x)) (columns_lost lost c array sector before m after left gone right)
    ∙ lost_parity b v a n (position_in (parity n) x) sized wide agree (omega (arith, inside, count, same_length before m after v))
  where
    same_length : (before : List Member) (m : Member) (after : List Member) (v : List ℕ) → length (map (data_of c array (sector_in (parity n) x)) before ++ v ∷ map (data_of c array (sector_in (parity n) x)) after) ≡ length (before ++ m ∷ after)
    same_length [] m after v = ap suc (length_map (data_of c array (sector_in (parity n) x)) after)
    same_length (o ∷ before) m after v = ap suc (same_length before m after v)
