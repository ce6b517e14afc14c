-- Truths that leave no row to resync, where those of the pool leave none.
use Rattle.std.proofs.Common.{◌≡◌, ℕ, ◌-◌, ◌*◌, ◌/◌, ◌^◌, ◌<◌, Bool, true, false, if◌then◌else◌, List, Some, sym, ap, subst, ◌∙◌, le-ltb, arith}
use Rattle.rack.specs.Seen.{Image, RackView}
use Rattle.slice_rack.specs.Slices.{Slices}
use Rattle.md_super.specs.declared.superblock.Super.{Super}
use Rattle.array_image.specs.Left.{IsLeft}
use Rattle.array_image.specs.SoundArray.{first_unsynced}
use Rattle.array_image.specs.Supers.{is_unclean, truth_in}
use Rattle.array_core.specs.Model.{is_truth}
use Rattle.array_core.specs.Superblocks.{left_offset}
use Rattle.array_core.proofs.Stripped.{some_same}
use Rattle.array_model.specs.Says.{IsEarlier}
use Rattle.array_model.specs.View.{View, rows_of}
use Rattle.raid_laws.specs.Agreeing.{AgreeLeaving}
use Rattle.raid_laws.specs.Raid.{IsTracked, Raid, is_failed}
use Rattle.raid_laws.proofs.Rows.{left_old}
use Rattle.pool_image.specs.Drives.{Found}
use Rattle.pool_image.specs.Meaning.{truth_of}
use Rattle.pool_model.specs.Left.{LeavesClean}
use Rattle.pool_check.specs.declared.Checked.{Checked}
use Rattle.pool_check.specs.Layers.{AreOpened}
use Rattle.assembler_laws.specs.Holding.{IsArrayOf}
use Rattle.assembler_laws.specs.Members.{AreMembers}
use Rattle.assembler_laws.proofs.Shows.{got}

-- the truth that an array leaves, in which no row is left to resync
none_left : (t u : Super) (v : View) → v.resync ≡ first_unsynced t → v.young ≡ false → v.truth.size ≡ t.size → u.size ≡ t.size → t.size < 2 ^ 48
    → u.resync_offset ≡ left_offset v → is_unclean t ≡ false → is_unclean u ≡ false
none_left t u v rows young size sized small left clean =
    let none : v.resync ≡ t.size / 128 = rows ∙ ap (λ (b : Bool). if b then t.resync_offset / 128 else t.size / 128) clean in
    let all : rows_of v ≡ t.size / 128 = ap (λ n. n / 128) size in
    let offset : u.resync_offset ≡ 2 ^ 64 - 1 =
    left ∙ left_old v young ∙ ap (λ (b : Bool). if b then v.resync * 128 else 2 ^ 64 - 1) (le-ltb v.resync (rows_of v) (omega (arith, none, all))) in
    le-ltb u.resync_offset u.size (omega (arith, offset, sized, small))

-- the truth of what a stop leaves is one of the run, or an earlier one
pub earlier_told : (v : Raid) (x : RackView) (n : ℕ) → IsTracked v x n → is_failed v n ≡ false → (r : Image) → IsLeft x r → (u : Super) → truth_in v.state r n ≡ Some u
    → IsEarlier u (v.arrays n).truth
earlier_told v x n told goes r left u truth =
    let stood = told.stood goes in
    stood.holds.truth r left u (subst (λ k. truth_in v.state r k ≡ Some u) (sym stood.number) truth)

-- so it is after a commit of the superblocks
pub clean_left : (f : Found) (n : ℕ) (v w : Raid) (c : RackView) → ((t : Super) → truth_of f n ≡ Some t → IsArrayOf f n t (v.arrays n))
    → ((t : Super) → truth_of f n ≡ Some t → IsArrayOf f n t (w.arrays n)) → ((t : Super) → truth_of f n ≡ Some t → t.size < 2 ^ 48)
    → IsTracked w c n → is_failed w n ≡ false → (r : Image) → IsLeft c r → AgreeLeaving (v.arrays n) w.state r n → LeavesClean f w.state n r
clean_left f n v w c before after small told goes r left at t u truth clean now =
    let was = before t truth in
    let is = after t truth in
    let size : u.size ≡ t.size = ap (λ (z : Super). z.size) (earlier_told w c n told goes r left u now).fields ∙ is.geometry.size in
    none_left t u (v.arrays n) was.rows was.young was.geometry.size size (small t truth) (at.left u now was.young) clean

-- the truth of an array that was opened is one that it can go by
pub usable_truth : (f : Found) (t : Slices) (x : RackView) (checked : Checked) (absent : List ℕ) → AreMembers f.state t x checked absent
    → AreOpened f f.state.made checked.arrays.items checked.extents.items checked.stale.items
    → (n : ℕ) (z : Super) → n < f.state.made → truth_of f n ≡ Some z → is_truth z ≡ true
usable_truth f t x checked absent m opened n z low truth =
    let at = got checked.arrays.items n (let count = m.founded.count in omega (arith, low, count)) in
    let of = opened.each n at.0 at.1 in
    let founded = m.founded.each n at.0 at.1 in
    subst (λ (k : Super). is_truth k ≡ true) (some_same of.truth z (sym of.truth_is ∙ truth))
    (ap is_truth (sym (ap (λ (k : View). k.truth) of.view) ∙ ap (λ (k : View). k.truth) founded.view) ∙ founded.usable)
