-- Takeover, begin and finish, of an array as contracts see it: what each step owes.
use Rattle.std.proofs.Common.{◌≡◌, ℕ, zero, suc, ◌+◌, ◌-◌, ◌*◌, ◌/◌, ◌<◌, ◌≤◌, Bool, true, false, nat_lt, if◌then◌else◌, List, [], ◌∷◌, ◌++◌, map, length, slice_get, get_or, set, unwrap_or, ◌==◌, Some, None, refl, sym, ap, ap₂, subst, ◌∙◌, lt-ltb, le-ltb, arith}
use Rattle.std.proofs.lemmas.Bool.{ne_eqb}
use Rattle.std.proofs.lemmas.List.Folds.{position_or_len-set}
use Rattle.std.proofs.lemmas.List.{length-set}
use Rattle.std.specs.List.{range_with_len}
use Rattle.rack.specs.Seen.{Image}
use Rattle.shr_base.specs.declared.Id.{Id}
use Rattle.md_super.specs.Profile.{is_mirror}
use Rattle.parity.specs.Xor.{zeros}
use Rattle.array_image.specs.Places.{member_slice, data_sector}
use Rattle.array_image.specs.Stripes.{Layout, mirror, parity, sector_in, capacity}
use Rattle.array_image.specs.Supers.{is_reshaping}
use Rattle.array_image.specs.Arrays.{Member, layout_at, value_by, final_layout, place_with}
use Rattle.array_image.specs.Even.{AreEven}
use Rattle.array_image.specs.Held.{Among}
use Rattle.array_model.specs.declared.Seat.{Seat}
use Rattle.array_model.specs.View.{View, IsArray, member_by_seat, member_on, place_at, rows_of, sectors_of, shape_of}
use Rattle.array_model.proofs.Layouts.{final_by, layout_by, reshaping_parity}
use Rattle.array_model.proofs.Noting.{length_members}
use Rattle.array_model.proofs.Views.{shape_members}
use Rattle.reshape_laws.specs.Ahead.{ShapeMoves, begun, finished, taken_over}
use Rattle.reshape_laws.proofs.Addresses.{new_count, old_count}
use Rattle.reshape_laws.proofs.Geometry.{begin_moves, finish_moves, takeover_moves}
use Rattle.reshape_laws.proofs.PastEnd.{none_value, past_sector}

size_of : (v : View) → (shape_of v).size ≡ v.truth.size
unfolding shape_of
size_of v = refl

-- ---- takeover

module _ (v : View) (events : ℕ) (is_array : IsArray v) (mirrored : is_mirror v.truth ≡ true) (still : is_reshaping v.truth ≡ false) where
  two_disks : v.truth.raid_disks ≡ 2
  two_disks =
      let most : v.truth.raid_disks ≤ 2 = subst (λ (b : Bool). v.truth.raid_disks ≤ (if b then 2 else 16)) mirrored is_array.most in
      let least = is_array.least in
      omega (arith, most, least)

  both : (shape_of v).members ≡ member_on v 0 ∷ member_on v 1 ∷ []
  both = shape_members v ∙ ap (λ k. map (member_on v) (range_with_len 0 k)) two_disks

  both_later : (shape_of (taken_over v events)).members ≡ member_on v 0 ∷ member_on v 1 ∷ []
  both_later = shape_members (taken_over v events) ∙ ap (λ k. map (member_on v) (range_with_len 0 k)) two_disks

  mirror_before : (y : ℕ) → layout_at (shape_of v) y ≡ mirror 2
  mirror_before y = layout_by v y false (nat_lt y v.truth.reshape_position) still refl ∙ final_by v true mirrored ∙ ap mirror two_disks

  parity_after : (y : ℕ) → layout_at (shape_of (taken_over v events)) y ≡ parity 2
  parity_after y =
      layout_by (taken_over v events) y false (nat_lt y v.truth.reshape_position) still refl ∙ final_by (taken_over v events) false refl ∙ ap parity two_disks

  -- A MIRROR OF TWO IS RAID-5 OF TWO
  pub taken_moves : (cur : Image) → ((m : Member) → Among m (shape_of v).members → m.reach ≤ v.truth.size)
      → ((m : Member) (t : ℕ) → Among m (shape_of v).members → t < m.reach → length (cur (member_slice m.place v.number) (data_sector + t)) ≡ 512)
      → v.resync ≡ rows_of v → AreEven (shape_of v) v.number v.resync cur
      → (spent : ℕ → Bool) → ShapeMoves v.number (shape_of v) (shape_of (taken_over v events)) v.resync v.resync spent (λ m. ⊥) cur []
  taken_moves cur low sized synced even spent =
      takeover_moves v.number v.truth.size v.resync (shape_of v) (shape_of (taken_over v events)) (member_on v 0) (member_on v 1) cur
      (size_of v) (size_of (taken_over v events)) both both_later mirror_before parity_after
      (λ m among. low m (subst (λ (ms : List Member). Among m ms) (sym both) among))
      (λ m t among counts. sized m t (subst (λ (ms : List Member). Among m ms) (sym both) among) counts)
      (λ t inside. let whole = is_array.whole_rows in let rows : v.resync ≡ v.truth.size / 128 = synced in omega (arith, inside, whole, rows))
      even spent

-- ---- finish

module _ (v : View) (events : ℕ) (is_array : IsArray v) (reshaping : is_reshaping v.truth ≡ true) where
  three_disks : 3 ≤ v.truth.raid_disks
  three_disks = (is_array.reshape reshaping).1

  few_disks : v.truth.raid_disks ≤ 16
  few_disks = by (is_mirror v.truth) is_array.most
    where
      by : (b : Bool) → v.truth.raid_disks ≤ (if b then 2 else 16) → v.truth.raid_disks ≤ 16
      by true few = omega (arith, few)
      by false few = few

  reshaped_at : (y : ℕ) (b : Bool) → nat_lt y v.truth.reshape_position ≡ b
      → layout_at (shape_of v) y ≡ (if b then parity v.truth.raid_disks else parity (v.truth.raid_disks - 1))
  reshaped_at y b is =
      layout_by v y true b reshaping is ∙ ap (λ (l : Layout). if b then l else parity (v.truth.raid_disks - 1)) (reshaping_parity v is_array reshaping)

  finished_at : (y : ℕ) → layout_at (shape_of (finished v events)) y ≡ parity v.truth.raid_disks
  finished_at y = layout_by (finished v events) y false (nat_lt y 0) refl refl ∙ reshaping_parity v is_array reshaping

  finished_members : (shape_of (finished v events)).members ≡ (shape_of v).members
  unfolding shape_of
  finished_members = refl

  -- WITH ALL ROWS MOVED THE ARRAY IS THAT OF THE NEW NUMBER
  pub finished_moves : (cur : Image) → v.truth.reshape_position ≡ (v.truth.raid_disks - 1) * v.truth.size
      → ((m : Member) → Among m (shape_of v).members → m.reach ≤ v.truth.size)
      → (synced : ℕ) (spent : ℕ → Bool) → ShapeMoves v.number (shape_of v) (shape_of (finished v events)) synced synced spent (λ m. ⊥) cur []
  finished_moves cur whole low synced spent =
      finish_moves v.number v.truth.raid_disks v.truth.size synced spent (shape_of v) (shape_of (finished v events)) cur
      (new_count v.truth.raid_disks three_disks few_disks) (old_count v.truth.raid_disks three_disks few_disks) is_array.whole_rows
      (size_of v) (size_of (finished v events)) finished_members low finished_at
      (λ y below. reshaped_at y true (lt-ltb y v.truth.reshape_position (omega (arith, below, whole))))
      (λ y past. reshaped_at y false (le-ltb y v.truth.reshape_position (omega (arith, past, whole))))

  -- ---- past the old end a sector that isn't moved gives zeros: so a new row gets zeros there, and keeps what it gave

  old_end : sectors_of v ≡ (v.truth.raid_disks - 1 - 1) * v.truth.size
  old_end = ap (λ (b : Bool). capacity (if b then parity (v.truth.raid_disks - 1) else final_layout v.truth) v.truth.size) reshaping

  pub tail_zeros : (cur : Image) (y : ℕ) → ((m : Member) → Among m (shape_of v).members → m.reach ≤ v.truth.size)
      → v.truth.reshape_position ≤ y → sectors_of v ≤ y → value_by (shape_of v) cur v.number y ≡ zeros 512
  tail_zeros cur y low moved past =
      let layout = reshaped_at y false (le-ltb y v.truth.reshape_position moved) in
      let far = past_sector (v.truth.raid_disks - 1) v.truth.size y (old_count v.truth.raid_disks three_disks few_disks) is_array.whole_rows (subst (λ e. e ≤ y) old_end past) in
      let at : v.truth.size ≤ sector_in (layout_at (shape_of v) y) y = subst (λ (l : Layout). v.truth.size ≤ sector_in l y) (sym layout) far in
      none_value (shape_of v) cur v.number y (λ m among. let reach = low m among in omega (arith, reach, at))

-- ---- begin

range_last : (b k : ℕ) → range_with_len b (k + 1) ≡ range_with_len b k ++ (b + k) ∷ []
range_last b k = more b k
  where
    one_more : (k : ℕ) → k + 1 ≡ suc k
    one_more k = omega arith

    more : (a k : ℕ) → range_with_len a (k + 1) ≡ range_with_len a k ++ (a + k) ∷ []
    more a zero = ap (λ (j : ℕ). j ∷ []) (omega arith)
    more a (suc k) =
        ap (range_with_len a) (one_more (suc k)) ∙ ap (λ xs. a ∷ xs) (ap (range_with_len (a + 1)) (sym (one_more k)) ∙ more (a + 1) k ∙ ap (λ (j : ℕ). range_with_len (a + 1) k ++ j ∷ []) (omega arith))

map_last : (f g : ℕ → Member) (b k : ℕ) (o : Member) → ((j : ℕ) → b ≤ j → j < b + k → g j ≡ f j) → g (b + k) ≡ o
    → map g (range_with_len b (k + 1)) ≡ map f (range_with_len b k) ++ o ∷ []
map_last f g b k o same last = ap (map g) (range_last b k) ∙ joined b k same last
  where
    joined : (b k : ℕ) → ((j : ℕ) → b ≤ j → j < b + k → g j ≡ f j) → g (b + k) ≡ o → map g (range_with_len b k ++ (b + k) ∷ []) ≡ map f (range_with_len b k) ++ o ∷ []
    joined b zero same last = ap (λ (m : Member). m ∷ []) last
    joined b (suc k) same last =
        ap₂ (λ (m : Member) ms. m ∷ ms) (same b (omega arith) (omega arith))
        (ap (λ (j : ℕ). map g (range_with_len (b + 1) k ++ j ∷ [])) (let e : b + suc k ≡ b + 1 + k = omega arith in e)
        ∙ joined (b + 1) k (λ j low high. same j (omega (arith, low)) (omega (arith, high))) (ap g (let e : b + 1 + k ≡ b + suc k = omega arith in e) ∙ last))

-- another role is as it was, where the place had none
pub place_kept : (roles : List ℕ) (place k j : ℕ) → (get_or roles place 0 == j) ≡ false → (k ≡ j → ⊥) → place_with (set roles place k) j ≡ place_with roles j
place_kept roles place k j was other =
    ap₂ (λ i n. if nat_lt i n then Some i else None)
    (position_or_len-set (λ role. role == j) roles place k 0 (ne_eqb k j other ∙ sym was))
    (length-set roles place k)

module _ (v : View) (events place : ℕ) (seat : Seat) (device : Id) (is_array : IsArray v) (raid5 : is_mirror v.truth ≡ false) (still : is_reshaping v.truth ≡ false)
    (spare : 0xfffe ≤ get_or v.truth.roles.items place 0) where
  abbrev next : View
  next = begun v events place seat device

  few_now : v.truth.raid_disks ≤ 16
  few_now = by (is_mirror v.truth) is_array.most
    where
      by : (b : Bool) → v.truth.raid_disks ≤ (if b then 2 else 16) → v.truth.raid_disks ≤ 16
      by true few = omega (arith, few)
      by false few = few

  -- the members keep their places
  pub places : (j : ℕ) → j < v.truth.raid_disks → place_at (begun v events place seat device) j ≡ place_at v j
  places j low =
      let few = few_now in
      ap (λ o. unwrap_or o 16)
      (place_kept v.truth.roles.items place v.truth.raid_disks j
      (ne_eqb (get_or v.truth.roles.items place 0) j (λ same. omega (arith, same, spare, low, few))) (λ same. omega (arith, same, low)))

  pub seat_kept : (xs : List Seat) (x : Seat) (j : ℕ) → j < length xs → slice_get (xs ++ x ∷ []) j ≡ slice_get xs j
  seat_kept [] x j low = absurd (omega (arith, low))
  seat_kept (y ∷ xs) x zero low = refl
  seat_kept (y ∷ xs) x (suc j) low = seat_kept xs x j (omega (arith, low))

  member_kept : (j : ℕ) → j < v.truth.raid_disks → member_on next j ≡ member_on v j
  member_kept j low =
      let seats = is_array.seats in
      ap₂ (λ p o. member_by_seat v.truth.size p o) (places j low) (seat_kept v.seats seat j (omega (arith, low, seats)))

  begun_members : (shape_of next).members ≡ (shape_of v).members ++ member_on next v.truth.raid_disks ∷ []
  begun_members =
      shape_members next
      ∙ map_last (member_on v) (member_on next) 0 v.truth.raid_disks (member_on next v.truth.raid_disks)
      (λ j least low. member_kept j (omega (arith, low))) (ap (member_on next) (omega arith))
      ∙ ap (λ (ms : List Member). ms ++ member_on next v.truth.raid_disks ∷ []) (sym (shape_members v))

  before_begin : (y : ℕ) → layout_at (shape_of v) y ≡ parity v.truth.raid_disks
  before_begin y = layout_by v y false (nat_lt y v.truth.reshape_position) still refl ∙ final_by v false raid5

  after_begin : (y : ℕ) → layout_at (shape_of next) y ≡ parity v.truth.raid_disks
  after_begin y = layout_by next y true false refl (le-ltb y 0 (omega arith)) ∙ ap parity (let e : v.truth.raid_disks + 1 - 1 ≡ v.truth.raid_disks = omega arith in e)

  -- A RESHAPE BEGINS WITH NO ROW MOVED
  pub begun_moves : (cur : Image) (synced : ℕ) (spent : ℕ → Bool)
      → ShapeMoves v.number (shape_of v) (shape_of next) synced synced spent (λ m. m ≡ member_on next v.truth.raid_disks) cur []
  begun_moves cur synced spent =
      begin_moves v.number v.truth.raid_disks synced spent (shape_of v) (shape_of next) (member_on next v.truth.raid_disks) cur
      (size_of v ∙ sym (size_of next)) begun_members (ap length (shape_members v) ∙ length_members v) before_begin after_begin
