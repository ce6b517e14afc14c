-- A RAID-5 row of a whole array: what its write owes.
use Rattle.std.proofs.Common.{◌≡◌, ℕ, ◌+◌, ◌<◌, ◌≤◌, Bool, true, false, ◌==◌, nat_lt, if◌then◌else◌, List, [], ◌∷◌, length, Some, None, refl, sym, ap, ap₂, subst, ◌∙◌, eqb-true, eq-eqb, arith}
use Rattle.std.proofs.lemmas.Simd.{length-replicate}
use Rattle.rack.specs.Seen.{Image, RackView}
use Rattle.rack.specs.Targets.{Target, target}
use Rattle.parity.specs.Xor.{zeros}
use Rattle.raid_map.specs.LeftSymmetric.{IsMemberCount, member_of, sector_of, parity_at}
use Rattle.array_image.specs.Places.{member_slice, data_sector}
use Rattle.array_image.specs.Stripes.{Layout, mirror, parity, sector_in}
use Rattle.array_image.specs.Arrays.{Member, Shape, column, layout_at, value_by, final_layout}
use Rattle.array_image.specs.Held.{Among, current_in}
use Rattle.array_image.specs.Even.{AreEven}
use Rattle.array_image.specs.Marks.{lowered}
use Rattle.array_image.specs.Spent.{spent_by}
use Rattle.array_image.proofs.Losing.{data_of}
use Rattle.array_model.specs.View.{View, IsArray, LosesPlaces, shape_of, spent_in, is_whole_array, sectors_of, member_on}
use Rattle.array_model.specs.Says.{IsOpen}
use Rattle.array_model.specs.Members.{slice_on, IsSameButSeats}
use Rattle.array_model.specs.Rows.{IsPlain, part_at, target_on, copies, data_at, changed, written, Owes}
use Rattle.array_model.proofs.Views.{shape_then}
use Rattle.array_model.proofs.Noting.{laid_out}
use Rattle.array_model.proofs.Layouts.{sector_inside}
use Rattle.array_model.proofs.Spared.{lost_value}
use Rattle.array_model.proofs.WholeWrites.{own_value}
use Rattle.array_model.proofs.Whole.{whole_source}
use Rattle.array_model.proofs.Parts.{part_among, plain_sector}
use Rattle.array_model.proofs.MirrorRow.{mirror_row, mirror_even}
use Rattle.array_model.proofs.ParityRow.{next_parity, long_xor, parity_row, parity_even, data_inside, parity_inside, parity_source}
use Rattle.array_model.proofs.RowWrites.{plain_shape, whole_parts, whole_shape, part_on}
use Rattle.md_super.specs.Profile.{is_mirror}

sector_inside_shape : (v : View) (x : ℕ) → IsArray v → x < sectors_of v → sector_in (layout_at (shape_of v) x) x < (shape_of v).size
unfolding shape_of
sector_inside_shape v x is_array low = sector_inside v x is_array low

reach_of_all : (v : View) → IsArray v → is_whole_array v ≡ true → (m : Member) → Among m (shape_of v).members → m.reach ≡ v.truth.size
unfolding shape_of
reach_of_all v is_array whole m among = whole_shape v is_array whole m among

-- what the proofs of a row may use of the contents
abbrev pub Knows : View → RackView → Type 0 → Type 0
Knows v a P =
    IsOpen (shape_of v) v.number a
    → ((m : Member) (t : ℕ) → Among m (shape_of v).members → t < m.reach → length (current_in a.held (member_slice m.place v.number) (data_sector + t)) ≡ 512)
    → AreEven (shape_of v) v.number v.resync (current_in a.held)
    → P

-- ---- a mirror

pub mirror_owes : (v : View) (a : RackView) (x : ℕ) (from : List ℕ) → IsArray v → is_whole_array v ≡ true → final_layout v.truth ≡ mirror v.truth.raid_disks → length from ≡ 512
    → Owes v a x from (copies (shape_of v) v.number x from)
mirror_owes v a x from is_array whole layout sized =
    let plain : IsPlain (shape_of v) (mirror v.truth.raid_disks) = subst (λ (l : Layout). IsPlain (shape_of v) l) layout (plain_shape v is_array (whole_parts v whole).1) in
    record {
      row = mirror_row (shape_of v) v.truth.raid_disks v.number x from plain sized;
      even = λ opened wide even. mirror_even (shape_of v) v.truth.raid_disks v.number x v.resync from (current_in a.held) plain even;
    }

-- ---- RAID-5

pub plain_parity : (v : View) → IsArray v → is_whole_array v ≡ true → final_layout v.truth ≡ parity v.truth.raid_disks → IsPlain (shape_of v) (parity v.truth.raid_disks)
plain_parity v is_array whole layout = subst (λ (l : Layout). IsPlain (shape_of v) l) layout (plain_shape v is_array (whole_parts v whole).1)

pub count_of : (v : View) → IsArray v → final_layout v.truth ≡ parity v.truth.raid_disks → IsMemberCount v.truth.raid_disks
count_of v is_array layout = record { least = is_array.least; most = few (is_mirror v.truth) is_array.most }
  where
    few : (b : Bool) → v.truth.raid_disks ≤ (if b then 2 else 16) → v.truth.raid_disks ≤ 16
    few true low = omega (arith, low)
    few false low = low

pub parity_owes : (v : View) (a : RackView) (x : ℕ) (from new : List ℕ) → IsArray v → is_whole_array v ≡ true → final_layout v.truth ≡ parity v.truth.raid_disks
    → length from ≡ 512 → length new ≡ 512
    → Knows v a (new ≡ next_parity (shape_of v) v.truth.raid_disks v.number x (current_in a.held) from)
    → Owes v a x from (changed (shape_of v) v.truth.raid_disks v.number x from new)
parity_owes v a x from new is_array whole layout sized wide is =
    let n = v.truth.raid_disks in
    let plain = plain_parity v is_array whole layout in
    let count = count_of v is_array layout in
    record {
      row = parity_row (shape_of v) n v.number x from new plain count sized wide;
      even = λ opened all even.
          subst (λ u. AreEven (shape_of v) v.number v.resync (written (changed (shape_of v) n v.number x from u) (current_in a.held)))
          (sym (is opened all even))
          (parity_even (shape_of v) n v.number x v.resync from (current_in a.held) plain count sized all even);
    }

-- the value that those left give is what its member has
pub old_value : (v u : View) (a : RackView) (x : ℕ) (old : List ℕ) (lost : ℕ → Bool) → IsArray v → is_whole_array v ≡ true → final_layout v.truth ≡ parity v.truth.raid_disks
    → x < sectors_of v
    → IsSameButSeats v u → LosesPlaces v u lost → spent_in u x ≡ false
    → (IsOpen (shape_of v) v.number a → old ≡ value_by (shape_of u) (current_in a.held) v.number x)
    → Knows v a (old ≡ data_of (current_in a.held) v.number (sector_of v.truth.raid_disks x) (data_at (shape_of v) v.truth.raid_disks x))
old_value v u a x old lost is_array whole layout low same loses unspent value opened sized even =
    let n = v.truth.raid_disks in
    let shape : shape_of u ≡ lowered lost (shape_of v) = shape_then v u lost same.truth loses in
    let left : spent_by (lowered lost (shape_of v)) v.resync x ≡ false =
    subst (λ (r : ℕ). spent_by (lowered lost (shape_of v)) r x ≡ false) same.resync (subst (λ (f : Shape). spent_by f u.resync x ≡ false) shape unspent) in
    let plain = plain_parity v is_array whole layout in
    let at = whole_source (shape_of v) v.resync x (laid_out v is_array) (whole_shape v is_array whole) (sector_inside_shape v x is_array low) in
    value opened
    ∙ ap (λ (f : Shape). value_by f (current_in a.held) v.number x) shape
    ∙ lost_value lost (shape_of v) v.number v.resync (current_in a.held) x (laid_out v is_array) even sized left
    ∙ own_value (shape_of v) v.number x (current_in a.held) at.0 at.1
    ∙ ap₂ (λ (m : Member) (s : ℕ). current_in a.held (member_slice m.place v.number) (data_sector + s))
    (parity_source (shape_of v) n x at.0 plain at.1) (plain_sector (shape_of v) (parity n) x plain)

-- a column that counts is the member's sector
pub column_data : (v : View) (c : Image) (n sector : ℕ) (x : List ℕ) → n < v.truth.raid_disks → column c v.number sector (member_on v n) ≡ Some x
    → x ≡ data_of c v.number sector (part_at n (shape_of v).members)
column_data v c n sector x low is =
    let Goal : Bool → Type 0 = λ b. (if b then Some (c (slice_on v n) (data_sector + sector)) else None) ≡ Some x → x ≡ c (slice_on v n) (data_sector + sector) in
    let goal : Goal (nat_lt sector (member_on v n).reach) = elim (nat_lt sector (member_on v n).reach) as Goal [ true ↦ λ some. cc | false ↦ λ none. absurd (cc) ] in
    goal is ∙ ap (λ (m : Member). data_of c v.number sector m) (sym (part_on v n low))

-- the targets of a row, by its members' slices
pub changed_is : (v : View) (x p q s : ℕ) (from new : List ℕ) → IsArray v → final_layout v.truth ≡ parity v.truth.raid_disks
    → p ≡ member_of v.truth.raid_disks x → q ≡ parity_at v.truth.raid_disks s → s ≡ sector_of v.truth.raid_disks x
    → p < v.truth.raid_disks → q < v.truth.raid_disks
    → target (slice_on v p) (data_sector + s) from ∷ target (slice_on v q) (data_sector + s) new ∷ [] ≡ changed (shape_of v) v.truth.raid_disks v.number x from new
changed_is v x p q s from new is_array layout at_p at_q at_s low_p low_q =
    let n = v.truth.raid_disks in
    ap₂ (λ (t u : Target). t ∷ u ∷ [])
    (ap (λ (m : Member). target_on v.number s from m) (sym (part_on v p low_p)) ∙ ap₂ (λ (j r : ℕ). target_on v.number r from (part_at j (shape_of v).members)) at_p at_s)
    (ap (λ (m : Member). target_on v.number s new m) (sym (part_on v q low_q)) ∙ ap₂ (λ (j r : ℕ). target_on v.number r new (part_at j (shape_of v).members)) (at_q ∙ ap (parity_at n) at_s) at_s)

-- whole sectors alone
abbrev pub whole_or : List ℕ → List ℕ
whole_or v = if length v == 512 then v else zeros 512

pub whole_length : (v : List ℕ) → length (whole_or v) ≡ 512
whole_length v =
    let Goal : Bool → Type 0 = λ b. (length v == 512) ≡ b → length (if b then v else zeros 512) ≡ 512 in
    let goal : Goal (length v == 512) = elim (length v == 512) as Goal [ true ↦ λ is. eqb-true (length v) 512 is | false ↦ λ other. length-replicate {A = ℕ} 512 0 ] in
    goal refl

pub whole_same : (v : List ℕ) → length v ≡ 512 → whole_or v ≡ v
whole_same v is = ap (λ (b : Bool). if b then v else zeros 512) (eq-eqb (length v) 512 is)

-- the parity that is wanted is a whole sector
pub next_sized : (v : View) (a : RackView) (x : ℕ) (from : List ℕ) → IsArray v → is_whole_array v ≡ true → final_layout v.truth ≡ parity v.truth.raid_disks
    → sector_of v.truth.raid_disks x < v.truth.size → length from ≡ 512
    → Knows v a (length (next_parity (shape_of v) v.truth.raid_disks v.number x (current_in a.held) from) ≡ 512)
next_sized v a x from is_array whole layout low wide opened sized even =
    let n = v.truth.raid_disks in
    let plain = plain_parity v is_array whole layout in
    let count = count_of v is_array layout in
    let at : (j : ℕ) → j < length (shape_of v).members → length (data_of (current_in a.held) v.number (sector_of n x) (part_at j (shape_of v).members)) ≡ 512 =
    λ j inside.
    let among = part_among j (shape_of v).members inside in
    sized (part_at j (shape_of v).members) (sector_of n x) among (subst (λ k. sector_of n x < k) (sym (reach_of_all v is_array whole (part_at j (shape_of v).members) among)) low) in
    long_xor _ from
    (long_xor _ _ (at (parity_at n (sector_of n x)) (parity_inside (shape_of v) n (sector_of n x) plain count)) (at (member_of n x) (data_inside (shape_of v) n x plain count)))
    wide
