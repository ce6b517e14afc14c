-- The parts of one drive, as the arrays that were read say them.
use Rattle.std.proofs.Common.{◌≡◌, ℕ, zero, suc, ◌+◌, ◌<◌, ◌≤◌, ◌^◌, Bool, true, false, ◌&&◌, ◌||◌, not, nat_lt, bytes_eq, if◌then◌else◌, List, [], ◌∷◌, filter, find, length, slice_get, Option, Some, None, option_map, is_some, is_none, inl, inr, refl, sym, ap, ap₂, ◌∙◌, le-ltb, arith}
use Rattle.std.specs.Option.{option_and_then, option_map_or}
use Rattle.std.specs.List.{list_all, range_with_len}
use Rattle.std.proofs.lemmas.Bool.{both_ways, cases_eq}
use Rattle.std.proofs.lemmas.Option.{none-some}
use Rattle.rack.specs.Seen.{RackView}
use Rattle.gpt_table.specs.declared.Table.{Table}
use Rattle.gpt_table.specs.Changes.{the_table}
use Rattle.pool_state.specs.declared.contents.Copied.{Copied}
use Rattle.pool_state.specs.declared.contents.State.{State}
use Rattle.array_image.specs.States.{current_places, is_current, id_of}
use Rattle.array_core.proofs.Opened.{current_below}
use Rattle.array_image.specs.Places.{log_kind, raid_kind}
use Rattle.pool_image.specs.Disks.{Seats}
use Rattle.pool_image.specs.Replay.{Extent as ImageExtent}
use Rattle.pool_image.specs.Drives.{Found, end_of, extent_of}
use Rattle.pool_image.specs.Meaning.{Part, arrays_of, damaged, has_entry, has_slice, has_slice_of, has_supers, has_table, in_log, in_state, in_superblock, in_table, is_member, is_table, kind_of, super_at}
use Rattle.pool_check.specs.declared.Extent.{Extent}
use Rattle.pool_check.specs.declared.Layer.{Layer}
use Rattle.pool_check.specs.declared.Sight.{Sight}
use Rattle.pool_scan.specs.declared.Known.{Known}
use Rattle.pool_scan.specs.Scanning.{copied_at}
use Rattle.pool_check.specs.declared.CheckFault.{CheckFault}
use Rattle.pool_check.specs.Drives.{AreCopied, AreDrivesOf, Drives, HasFewPlaces, found_with}
use Rattle.pool_check.specs.Refusing.{IsDamage, damage_by, damage_later, damage_with, first_with, part_behind, refusal_by}
use Rattle.pool_check.specs.Layers.{AreRead, IsExtent, IsLayer, extent_by, has_layer, is_member_of, is_member_sight, is_sound_on, is_sound_sight, is_table_by, log_extent, sight_by, sight_of}
use Rattle.pool_check.proofs.Finding.{differs, got_from}

-- ---- lists of layers

-- what holds of all layers holds of all their numbers
pub all_layers : (p : Layer → Bool) (q : ℕ → Bool) (layers : List Layer) (a : ℕ)
    → ((k : ℕ) (layer : Layer) → slice_get layers k ≡ Some layer → p layer ≡ q (a + k))
    → list_all p layers ≡ list_all q (range_with_len a (length layers))
all_layers p q [] a same = refl
all_layers p q (layer ∷ layers) a same =
    let here : a + 0 ≡ a = omega arith in
    ap₂ (λ x y. x && y) (same 0 layer refl ∙ ap q here)
    (all_layers p q layers (a + 1) (λ k l at. let next : a + suc k ≡ a + 1 + k = omega arith in same (suc k) l at ∙ ap q next))

-- the first that passes has the first number that does
pub find_layers : (p : Layer → Bool) (q : ℕ → Bool) (layers : List Layer) (a : ℕ)
    → ((k : ℕ) (layer : Layer) → slice_get layers k ≡ Some layer → (p layer ≡ q (a + k)) × (layer.number ≡ a + k))
    → option_map (λ (layer : Layer). layer.number) (find p layers) ≡ find q (range_with_len a (length layers))
find_layers p q [] a same = refl
find_layers p q (layer ∷ layers) a same =
    let here : a + 0 ≡ a = omega arith in
    first (q a) (p layer) ((same 0 layer refl).0 ∙ ap q here) ((same 0 layer refl).1 ∙ here)
    (find_layers p q layers (a + 1) (λ k l at. let next : a + suc k ≡ a + 1 + k = omega arith in
    ((same (suc k) l at).0 ∙ ap q next, (same (suc k) l at).1 ∙ next)))
  where
    first : (x y : Bool) → y ≡ x → layer.number ≡ a
        → option_map (λ (layer : Layer). layer.number) (find p layers) ≡ find q (range_with_len (a + 1) (length layers))
        → option_map (λ (layer : Layer). layer.number) (if y then Some layer else find p layers) ≡ (if x then Some a else find q (range_with_len (a + 1) (length layers)))
    first true true same number rest = ap Some number
    first true false same number rest = cc
    first false true same number rest = cc
    first false false same number rest = rest

-- ---- members and their superblocks

module _ (f : Found) (array : ℕ) (layer : Layer) (is : IsLayer f array layer) where
  sight : (place : ℕ) → place < 16 → slice_get layer.sights.items place ≡ Some (sight_of f array place)
  sight place inside = ap (λ (xs : List Sight). slice_get xs place) is.sights ∙ got_from (sight_of f array) 16 place inside

  pub member_is : (place : ℕ) → place < 16 → is_member_of layer place ≡ is_member f array place
  member_is place inside =
      ap (λ (o : Option Sight). option_map_or is_member_sight o false) (sight place inside) ∙ by (is_member f array place) (is_some (super_at f array place))
    where
      by : (member valid : Bool) → is_member_sight (sight_by member valid) ≡ member
      by true true = refl
      by true false = refl
      by false valid = refl

  pub sound_is : (place : ℕ) → place < 16 → is_sound_on place layer ≡ (not (is_member f array place) || is_some (super_at f array place))
  sound_is place inside =
      ap (λ (o : Option Sight). option_map_or is_sound_sight o true) (sight place inside) ∙ by (is_member f array place) (is_some (super_at f array place))
    where
      by : (member valid : Bool) → is_sound_sight (sight_by member valid) ≡ (not member || valid)
      by true true = refl
      by true false = refl
      by false valid = refl

  -- a slice that is longer than every disk stands in no table
  too_long : (sectors number : ℕ) (table : Table) (kind : List ℕ) (o : Option ImageExtent) → sectors < 2 ^ 48
      → ((e : ImageExtent) → o ≡ Some e → 2 ^ 48 ≤ e.sectors) → option_map_or (has_slice sectors table number kind) o false ≡ false
  too_long sectors number table kind None small far = refl
  too_long sectors number table kind (Some e) small far =
      let long = far e refl in
      second (has_entry table number kind e) (nat_lt (end_of e + 32) sectors) (le-ltb (end_of e + 32) sectors (omega (arith, long, small)))
    where
      second : (a b : Bool) → b ≡ false → (a && b) ≡ false
      second true b no_b = no_b
      second false b no_b = refl

  pub slice_is : (sectors : ℕ) (table : Table) → sectors < 2 ^ 48
      → option_map_or (λ e. has_slice sectors table (layer.number + 2) raid_kind (extent_by e)) layer.extent false ≡ has_slice_of f sectors table (array + 1)
  slice_is sectors table small = by layer.extent is.extent ∙ ap (has_slice_of f sectors table) next
    where
      next : suc array ≡ array + 1
      next = omega arith

      number : layer.number + 2 ≡ suc array + 1
      number = let same = is.number in omega (arith, same)

      kind : kind_of (suc array) ≡ raid_kind
      kind = ap (λ (b : Bool). if b then kind_of 0 else raid_kind) (differs (suc array) 0 (λ at. absurd (omega (arith, at))))

      by : (o : Option Extent) → IsExtent (extent_of f (suc array)) o
          → option_map_or (λ e. has_slice sectors table (layer.number + 2) raid_kind (extent_by e)) o false ≡ has_slice_of f sectors table (suc array)
      by (Some e) lies =
          ap₂ (λ n k. has_slice sectors table n k (extent_by e)) number (sym kind)
          ∙ sym (ap (λ o. option_map_or (has_slice sectors table (suc array + 1) (kind_of (suc array))) o false) lies)
      by None far = sym (too_long sectors (suc array + 1) table (kind_of (suc array)) (extent_of f (suc array)) small far)

  pub layer_is : (sectors place : ℕ) (table : Table) → sectors < 2 ^ 48 → place < 16
      → has_layer sectors table place layer ≡ (not (is_member f array place) || has_slice_of f sectors table (array + 1))
  layer_is sectors place table small inside = ap₂ (λ a b. not a || b) (member_is place inside) (slice_is sectors table small)

-- ---- all arrays

pub layers_are : (f : Found) (layers : List Layer) (sectors place : ℕ) (table : Table) → AreRead f layers → sectors < 2 ^ 48 → place < 16
    → list_all (has_layer sectors table place) layers ≡ list_all (λ n. not (is_member f n place) || has_slice_of f sectors table (n + 1)) (arrays_of f)
layers_are f layers sectors place table are small inside =
    all_layers (has_layer sectors table place) (λ n. not (is_member f n place) || has_slice_of f sectors table (n + 1)) layers 0
    (λ k layer at.
    let same : k ≡ 0 + k = omega arith in
    layer_is f k layer (are.each k layer at) sectors place table small inside
    ∙ ap (λ n. not (is_member f n place) || has_slice_of f sectors table (n + 1)) same)
    ∙ ap (λ n. list_all (λ m. not (is_member f m place) || has_slice_of f sectors table (m + 1)) (range_with_len 0 n)) are.count

pub supers_are : (f : Found) (layers : List Layer) (place : ℕ) → AreRead f layers → place < 16
    → list_all (is_sound_on place) layers ≡ has_supers f place
supers_are f layers place are inside =
    all_layers (is_sound_on place) (λ n. not (is_member f n place) || is_some (super_at f n place)) layers 0
    (λ k layer at.
    let same : k ≡ 0 + k = omega arith in
    sound_is f k layer (are.each k layer at) place inside
    ∙ ap (λ n. not (is_member f n place) || is_some (super_at f n place)) same)
    ∙ ap (λ n. list_all (λ m. not (is_member f m place) || is_some (super_at f m place)) (range_with_len 0 n)) are.count

-- the table of a place's drive, by its id, its log slice and the slices of its arrays
pub table_is : (f : Found) (layers : List Layer) (sectors place : ℕ) (table : Table) → AreRead f layers → sectors < 2 ^ 48 → place < 16
    → is_table_by f.state layers place sectors table ≡ is_table f place sectors table
unfolding extent_of
table_is f layers sectors place table are small inside =
    ap (λ b. option_map_or (bytes_eq table.disk_id.0) (id_of f.state place) false && (has_slice sectors table 1 log_kind log_extent && b))
    (layers_are f layers sectors place table are small inside)

-- ---- one drive

module _ (x : RackView) (s : State) (seats : Seats) (o : Drives) (layers : List Layer) (place d : ℕ) (inside : place < 16) (small : x.sectors d < 2 ^ 48)
    (seat : seats place ≡ Some d) (drives : AreDrivesOf x seats o) (are : AreRead (found_with s seats o) layers) where
  abbrev f : Found
  f = found_with s seats o

  seen_table : (table : Table) → the_table (x.sectors d) (o.contents d) ≡ Some table
      → is_table_by s layers place (x.sectors d) table ≡ has_table f place d
  seen_table table is =
      table_is f layers (x.sectors d) place table are small inside
      ∙ ap (λ n. is_table f place n table) (sym (drives.sectors place d seat))
      ∙ sym (ap (λ o. option_map_or (is_table f place (f.disks.sectors d)) o false) (drives.tables place d seat ∙ is))

  no_table : the_table (x.sectors d) (o.contents d) ≡ None → false ≡ has_table f place d
  no_table none = sym (ap (λ o. option_map_or (is_table f place (f.disks.sectors d)) o false) (drives.tables place d seat ∙ none))

  pub table_found : (found : Option Table) → the_table (x.sectors d) (o.contents d) ≡ found
      → option_map_or (is_table_by s layers place (x.sectors d)) found false ≡ has_table f place d
  table_found None is = no_table is
  table_found (Some table) is = seen_table table is

  pub behind_is : (well : ℕ → Bool) (known : List Known) → AreCopied known seats o
      → part_behind (is_some (copied_at known d)) (well place) (list_all (is_sound_on place) layers) ≡ damage_later well f place d
  behind_is well known copied =
      ap₂ (λ c b. part_behind (is_some c) (well place) b) (sym (copied.copied place d seat)) (supers_are f layers place are inside)
      ∙ by (o.identities d).copied
    where
      by : (c : Option Copied) → part_behind (is_some c) (well place) (has_supers f place)
          ≡ (if is_none c then Some in_state else if not (well place) then Some in_log else if not (has_supers f place) then Some in_superblock else None)
      by None = refl
      by (Some copy) = refl

  -- the first part that isn't valid, by what was read of its table
  pub damage_is : (well : ℕ → Bool) (known : List Known) (has : Bool) → AreCopied known seats o → has ≡ has_table f place d
      → (if not has then Some in_table else part_behind (is_some (copied_at known d)) (well place) (list_all (is_sound_on place) layers))
      ≡ damage_by well f place d
  damage_is well known has copied is =
      ap₂ (λ b rest. if not b then Some in_table else rest) is (behind_is well known copied)

-- ---- the lowest place

-- the first that passes of those that are current
pub find_current : (p q : ℕ → Bool) (a n k : ℕ) → a ≤ k → k < a + n → p k ≡ true → q k ≡ true → ((j : ℕ) → j < k → q j ≡ false)
    → find q (filter p (range_with_len a n)) ≡ Some k
find_current p q a zero k least most listed passes before = absurd (omega (arith, least, most))
find_current p q a (suc n) k least most listed passes before =
    elim (cases_eq a k) [
      | inl same ↦ here (p a) (ap p same ∙ listed) (ap q same ∙ passes) ∙ ap Some same
      | inr other ↦
          later (p a) (before a (omega (arith, least, other)))
          (find_current p q (a + 1) n k (omega (arith, least, other)) (omega (arith, most)) listed passes before)
    ]
  where
    here : (x : Bool) → x ≡ true → q a ≡ true → find q (if x then a ∷ filter p (range_with_len (a + 1) n) else filter p (range_with_len (a + 1) n)) ≡ Some a
    here true is passes = ap (λ (b : Bool). if b then Some a else find q (filter p (range_with_len (a + 1) n))) passes
    here false is passes = absurd (both_ways false refl is)

    later : (x : Bool) → q a ≡ false → find q (filter p (range_with_len (a + 1) n)) ≡ Some k → find q (if x then a ∷ filter p (range_with_len (a + 1) n) else filter p (range_with_len (a + 1) n)) ≡ Some k
    later true fails rest = ap (λ (b : Bool). if b then Some a else find q (filter p (range_with_len (a + 1) n))) fails ∙ rest
    later false fails rest = rest

-- none passes
pub find_none : (p q : ℕ → Bool) (a n : ℕ) → ((j : ℕ) → j < a + n → q j ≡ false) → find q (filter p (range_with_len a n)) ≡ None
find_none p q a zero fail = refl
find_none p q a (suc n) fail =
    by (p a) (fail a (omega arith)) (find_none p q (a + 1) n (λ j below. fail j (omega (arith, below))))
  where
    by : (x : Bool) → q a ≡ false → find q (filter p (range_with_len (a + 1) n)) ≡ None
        → find q (if x then a ∷ filter p (range_with_len (a + 1) n) else filter p (range_with_len (a + 1) n)) ≡ None
    by true fails rest = ap (λ (b : Bool). if b then Some a else find q (filter p (range_with_len (a + 1) n))) fails ∙ rest
    by false fails rest = rest

module _ (well : ℕ → Bool) (f : Found) (few : HasFewPlaces f.state f.seats) where
  -- a drive that is damaged is that of a current place
  damaged_current : (place : ℕ) (part : Part) → damage_with well f place ≡ Some part → is_current f.state place ≡ true
  damaged_current place part is = by (f.seats place) refl is
    where
      by : (o : Option ℕ) → f.seats place ≡ o → option_and_then (damage_by well f place) o ≡ Some part → is_current f.state place ≡ true
      by None seat at = absurd (none-some part at)
      by (Some d) seat at = few.current place d seat

  -- the lowest place with a damage
  pub first_is : (place : ℕ) (fault : CheckFault) → ((p : ℕ) → p < place → damage_with well f p ≡ None) → IsDamage well f place fault
      → first_with well f ≡ Some (refusal_by fault)
  unfolding current_places
  first_is place fault before is =
      let current = damaged_current place is.0 is.1 in
      ap (option_and_then (λ p. option_map (damaged p) (damage_with well f p)))
      (find_current (is_current f.state) (λ p. is_some (damage_with well f p)) 0 (length f.state.drives.items) place (omega arith)
      (let below = current_below f.state place current in omega (arith, below)) current (ap is_some is.1) (λ p below. ap is_some (before p below)))
      ∙ ap (option_map (damaged place)) is.1 ∙ ap Some (sym is.2)

  pub none_is : ((p : ℕ) → p < 16 → damage_with well f p ≡ None) → first_with well f ≡ None
  unfolding current_places
  none_is none =
      ap (option_and_then (λ p. option_map (damaged p) (damage_with well f p)))
      (find_none (is_current f.state) (λ p. is_some (damage_with well f p)) 0 (length f.state.drives.items)
      (λ p below. ap is_some (none p (let most = few.few in omega (arith, below, most)))))
