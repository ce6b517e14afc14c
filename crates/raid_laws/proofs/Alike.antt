-- Shapes of an array that differ at most in which of their members are there: what its members' data holds says the same by each.
use Rattle.std.proofs.Common.{◌≡◌, ℕ, suc, ◌+◌, ◌<◌, Bool, false, nat_lt, if◌then◌else◌, List, [], ◌∷◌, map, take, slice_get, length, Option, unwrap_or, refl, sym, ap, ap₂, subst, ◌∙◌, inl, inr, arith}
use Rattle.rack.specs.Values.{IsSingle, Values}
use Rattle.rack.specs.Seen.{Held, Image, IsLive, RackView}
use Rattle.raid_map.specs.LeftSymmetric.{row_at}
use Rattle.array_image.specs.Arrays.{Member, Shape, column, layout_at, stripe_in, value_by}
use Rattle.array_image.specs.Even.{AllCount, AreEven}
use Rattle.array_image.specs.Held.{Among, IsSynced, current_in}
use Rattle.array_image.specs.Places.{data_sector, member_slice}
use Rattle.array_image.specs.Spent.{spent_by, spent_with, wanting}
use Rattle.array_image.specs.Stripes.{AgreeIn, Layout, given, position_in, sector_in, there, width}
use Rattle.array_model.specs.Says.{HoldsData}
use Rattle.array_model.proofs.Firsts.{map_take}

-- a member by its place, by how far it counts and by whether it is whole, as if it weren't there
abbrev pub counting : Member → Member
counting m = record m { is_there = false }

-- shapes that are the same but for which of their members are there
pub record CountAlike (a b : Shape) : Type 0 where
  pub members : map counting b.members ≡ map counting a.members
  pub size : b.size ≡ a.size
  pub moved : b.moved ≡ a.moved
  pub layout : b.layout ≡ a.layout
  pub reached : b.reached ≡ a.reached

pub alike_same : (a : Shape) → CountAlike a a
alike_same a = record { members = refl; size = refl; moved = refl; layout = refl; reached = refl }

pub counting_map : (f g : ℕ → Member) (ns : List ℕ) → ((k : ℕ) → counting (f k) ≡ counting (g k)) → map counting (map f ns) ≡ map counting (map g ns)
counting_map f g [] same = refl
counting_map f g (n ∷ ns) same = ap₂ (λ (m : Member) (ms : List Member). m ∷ ms) (same n) (counting_map f g ns same)

-- ---- lists of members

rest : List Member → List Member
rest [] = []
rest (m ∷ ms) = ms

member_alike : (ms os : List Member) → map counting ms ≡ map counting os → (m : Member) → Among m ms → (o : Member) × Among o os × (counting m ≡ counting o)
unfolding rest
member_alike [] os same m among = absurd among
member_alike (x ∷ ms) [] same m among = let count = ap length same in absurd (omega (arith, count))
member_alike (x ∷ ms) (y ∷ os) same m (inl here) =
    (y, inl refl, ap counting here ∙ ap (λ (l : List Member). unwrap_or (slice_get l 0) (counting x)) same)
member_alike (x ∷ ms) (y ∷ os) same m (inr later) =
    let at = member_alike ms os (ap rest same) m later in
    (at.0, inr at.1, at.2)

columns_counting : (c : Image) (n sector : ℕ) (ms : List Member) → map (column c n sector) (map counting ms) ≡ map (column c n sector) ms
columns_counting c n sector [] = refl
columns_counting c n sector (m ∷ ms) = ap (λ (cs : List (Option (List ℕ))). column c n sector m ∷ cs) (columns_counting c n sector ms)

wanting_counting : (sector : ℕ) (ms : List Member) → wanting sector (map counting ms) ≡ wanting sector ms
wanting_counting sector [] = refl
wanting_counting sector (m ∷ ms) = ap (λ (k : ℕ). if nat_lt sector m.reach then k else suc k) (wanting_counting sector ms)

-- ---- what is said by them

module _ (a b : Shape) (alike : CountAlike a b) where
  layout_alike : (x : ℕ) → layout_at b x ≡ layout_at a x
  layout_alike x =
      ap (λ (k : ℕ). if nat_lt x k then b.moved else b.layout) alike.reached
      ∙ ap₂ (λ (moved layout : Layout). if nat_lt x a.reached then moved else layout) alike.moved alike.layout

  take_alike : (k : ℕ) → map counting (take k b.members) ≡ map counting (take k a.members)
  take_alike k = sym (map_take counting k b.members) ∙ ap (take k) alike.members ∙ map_take counting k a.members

  stripe_alike : (c : Image) (n : ℕ) (layout : Layout) (sector : ℕ) → stripe_in c n b layout sector ≡ stripe_in c n a layout sector
  stripe_alike c n layout sector =
      sym (columns_counting c n sector (take (width layout) b.members)) ∙ ap (map (column c n sector)) (take_alike (width layout))
      ∙ columns_counting c n sector (take (width layout) a.members)

  value_alike : (c : Image) (n x : ℕ) → value_by b c n x ≡ value_by a c n x
  unfolding value_by
  value_alike c n x =
      let layout = layout_at a x in
      ap (λ (l : Layout). given l (stripe_in c n b l (sector_in l x)) (position_in l x)) (layout_alike x)
      ∙ ap (λ stripe. given layout stripe (position_in layout x)) (stripe_alike c n layout (sector_in layout x))

  pub spent_alike : (resync x : ℕ) → spent_by b resync x ≡ spent_by a resync x
  spent_alike resync x =
      let sector = sector_in (layout_at a x) x in
      ap (λ (l : Layout). spent_with (wanting (sector_in l x) b.members) (nat_lt (row_at (sector_in l x)) resync)) (layout_alike x)
      ∙ ap (λ (k : ℕ). spent_with k (nat_lt (row_at sector) resync))
      (sym (wanting_counting sector b.members) ∙ ap (wanting sector) alike.members ∙ wanting_counting sector a.members)

  -- what holds at each place where a member counts
  counts_alike : (P : ℕ → ℕ → Type 0) → ((m : Member) (sector : ℕ) → Among m a.members → sector < m.reach → P m.place sector)
      → (m : Member) (sector : ℕ) → Among m b.members → sector < m.reach → P m.place sector
  counts_alike P each m sector among counts =
      let at = member_alike b.members a.members alike.members m among in
      subst (λ place. P place sector) (sym (ap (λ (o : Member). o.place) at.2))
      (each at.0 sector at.1 (subst (λ reach. sector < reach) (ap (λ (o : Member). o.reach) at.2) counts))

  pub settled_alike : (n : ℕ) (held : Held) → IsSynced a n held → IsSynced b n held
  settled_alike n held settled = counts_alike (λ place sector. IsSingle (held (member_slice place n) (data_sector + sector))) settled

  even_alike : (n resync : ℕ) (c : Image) → AreEven a n resync c → AreEven b n resync c
  even_alike n resync c even x =
      let Even : Layout → Type 0 = λ layout.
      sector_in layout x < b.size → row_at (sector_in layout x) < resync → AllCount layout b (sector_in layout x)
      → AgreeIn layout (there (stripe_in c n b layout (sector_in layout x))) in
      let layout = layout_at a x in
      let sector = sector_in layout x in
      subst Even (sym (layout_alike x))
      (λ inside synced counts.
      subst (λ stripe. AgreeIn layout (there stripe)) (sym (stripe_alike c n layout sector))
      (even x (subst (λ size. sector < size) alike.size inside) synced
      (λ m among.
      let at = member_alike (take (width layout) a.members) (take (width layout) b.members) (sym (take_alike (width layout))) m among in
      subst (λ reach. sector < reach) (sym (ap (λ (o : Member). o.reach) at.2)) (counts at.0 at.1))))

  pub data_alike : (n resync : ℕ) (vals : ℕ → Values) (spent : ℕ → Bool) (x : RackView) → HoldsData n a resync vals spent x → HoldsData n b resync vals spent x
  data_alike n resync vals spent x holds = record {
    open_left = counts_alike (λ place sector. IsLive x x (member_slice place n) (data_sector + sector)) holds.open_left;
    current = λ y alive. value_alike (current_in x.held) n y ∙ holds.current y alive;
    sized = counts_alike (λ place sector. length (x.held (member_slice place n) (data_sector + sector)).current ≡ 512) holds.sized;
    even = even_alike n resync (current_in x.held) holds.even;
  }
