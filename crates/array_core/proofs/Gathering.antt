-- Sums of members, one after the other, and two tries of a read.
use Rattle.std.proofs.Common.{◌≡◌, ℕ, ◌+◌, ◌<◌, ◌≤◌, Bool, false, nat_lt, List, [], sym, subst, ap, ◌∙◌, Some, map, take}
use Rattle.rack.specs.Seen.{Image, RackView}
use Rattle.rack.specs.Sequences.{OnlyReads}
use Rattle.raid_map.specs.LeftSymmetric.{row_at}
use Rattle.array_image.specs.Arrays.{column, layout_at, value_by}
use Rattle.array_image.specs.Spent.{wanting, spent_with}
use Rattle.array_image.specs.Held.{current_in}
use Rattle.array_image.specs.Stripes.{Layout, width, position_in, sector_in}
use Rattle.array_model.specs.View.{View, member_on, shape_of, spent_in}
use Rattle.array_model.specs.Says.{IsOpen}
use Rattle.array_model.specs.Members.{Notes, members_of, gathered, added, restored, row_layout, row_of, IsSameButSeats}
use Rattle.array_model.proofs.Keeping.{open_after}
use Rattle.array_model.proofs.Firsts.{firsts, gathered_none}
use Rattle.array_model.proofs.Reading.{gathered_step, given_kept, open_then, layout_same, spent_given, value_given, open_calls, restored_own, restored_others, wanting_stays, row_layout_then}
use Rattle.array_core.specs.declared.members.Stand.{Stand}
use Rattle.array_core.specs.Stands.{blank, layout_of, given_at, IsStand}
use Rattle.array_model.proofs.Views.{notes_then}

pub zeros_gathered : (c : Image) (array sector : ℕ) → blank ≡ gathered c array sector []
unfolding blank
zeros_gathered c array sector = sym (gathered_none c array sector)

-- one member more, by an array that hasn't changed
pub gather_next : (x y : View) (a b : RackView) (sector k : ℕ) (sum next : List ℕ) → a.lasting → k < x.truth.raid_disks → y ≡ x → OnlyReads a b
    → (IsOpen (shape_of x) x.number a → sum ≡ gathered (current_in a.held) x.number sector (firsts x k))
    → (IsOpen (shape_of y) y.number b → next ≡ added (column (current_in b.held) y.number sector (member_on y k)) sum)
    → IsOpen (shape_of x) x.number a → next ≡ gathered (current_in a.held) x.number sector (firsts x (k + 1))
gather_next x y a b sector k sum next lasting low same reads so_far here =
    let Here : View → Type 0 = λ v. IsOpen (shape_of v) v.number b → next ≡ added (column (current_in b.held) v.number sector (member_on v k)) sum in
    gathered_step x a b sector k sum next lasting low reads so_far (subst Here same here)

-- a stand is one of the array whoever has gone
pub stand_then : (v w : View) (at : Stand) (a b : RackView) → Notes v w a b → IsStand v at → IsStand w at
stand_then v w at a b notes stand = record {
  members = subst (λ t. width (layout_of at.spread) ≤ t.raid_disks) (sym notes.same.truth) stand.members;
  position = stand.position;
  sector = subst (λ t. at.sector < t.size) (sym notes.same.truth) stand.sector;
}

-- what a second try read
pub second_value : (v w u : View) (a b : RackView) (at : Stand) (x : List ℕ) → a.lasting → OnlyReads a b → Notes v w a b → u ≡ w
    → (IsOpen (shape_of w) w.number b → x ≡ given_at w at (current_in b.held))
    → IsOpen (shape_of v) v.number a → x ≡ given_at u at (current_in a.held)
second_value v w u a b at x lasting reads notes same value opened =
    value (open_after lasting reads.stays (shape_of w) w.number (open_then v w a b notes.same notes.lost notes.loses a opened))
    ∙ given_kept v w a b (layout_of at.spread) at.sector at.position lasting reads notes.same notes.lost notes.loses opened
    ∙ ap (λ (z : View). given_at z at (current_in a.held)) (sym same)

-- ---- a read of a sector

-- where it stands is where it stood
record IsOf (v : View) (x : ℕ) (at : Stand) : Type 0 where
  pub spread : layout_of at.spread ≡ layout_at (shape_of v) x
  pub position : at.position ≡ position_in (layout_at (shape_of v) x) x
  pub sector : at.sector ≡ sector_in (layout_at (shape_of v) x) x

is_of_then : (v w : View) (x : ℕ) (at : Stand) → w.truth ≡ v.truth → IsOf v x at → IsOf w x at
is_of_then v w x at truth of =
    let same = layout_same v w x truth in
    record {
      spread = of.spread ∙ sym same;
      position = of.position ∙ ap (λ (l : Layout). position_in l x) (sym same);
      sector = of.sector ∙ ap (λ (l : Layout). sector_in l x) (sym same);
    }

pub spent_after : (v w : View) (x : ℕ) (at : Stand) (spent : Bool) → IsSameButSeats v w
    → layout_of at.spread ≡ layout_at (shape_of v) x → at.position ≡ position_in (layout_at (shape_of v) x) x → at.sector ≡ sector_in (layout_at (shape_of v) x) x
    → spent_with (wanting at.sector (members_of w)) (nat_lt (row_at at.sector) w.resync) ≡ spent
    → spent_in w x ≡ spent
spent_after v w x at spent same spread position sector is =
    let of = is_of_then v w x at same.truth (record { spread = spread; position = position; sector = sector }) in
    spent_given w x at.sector of.sector ∙ is

pub value_after : (v w : View) (x : ℕ) (at : Stand) (a : RackView) (into : List ℕ) → IsSameButSeats v w
    → layout_of at.spread ≡ layout_at (shape_of v) x → at.position ≡ position_in (layout_at (shape_of v) x) x → at.sector ≡ sector_in (layout_at (shape_of v) x) x
    → into ≡ given_at w at (current_in a.held)
    → into ≡ value_by (shape_of w) (current_in a.held) v.number x
value_after v w x at a into same spread position sector is =
    let of = is_of_then v w x at same.truth (record { spread = spread; position = position; sector = sector }) in
    is ∙ value_given w (current_in a.held) x (layout_of at.spread) at.sector at.position of.spread of.position of.sector
    ∙ ap (λ n. value_by (shape_of w) (current_in a.held) n x) same.number

-- ---- what a member has to hold

-- its own sector
pub own_restored : (v w : View) (c : Image) (at : Stand) (position sector : ℕ) (x : List ℕ) → IsStand v at → layout_of at.spread ≡ row_layout v sector → at.position ≡ position → at.sector ≡ sector
    → w ≡ v → column c v.number at.sector (member_on v at.position) ≡ Some x → x ≡ restored (row_layout w sector) (row_of w c sector) position
own_restored v w c at position sector x stand spread is_p is_s same is =
    let By : Layout → ℕ → ℕ → Type 0 = λ l p s. x ≡ restored l (map (column c v.number s) (take (width l) (members_of v))) p in
    let here : By (layout_of at.spread) at.position at.sector = restored_own v c (layout_of at.spread) at.sector at.position x stand.members stand.position is in
    subst (λ (u : View). x ≡ restored (row_layout u sector) (row_of u c sector) position) (sym same)
    (subst (λ l. By l position sector) spread (subst (λ p. By (layout_of at.spread) p sector) is_p (subst (λ s. By (layout_of at.spread) at.position s) is_s here)))

-- or what the others give, where it didn't count or went
pub others_restored : (v u w : View) (a b d : RackView) (at : Stand) (position sector : ℕ) (x : List ℕ) → a.lasting → IsStand v at
    → layout_of at.spread ≡ row_layout v sector → at.position ≡ position → at.sector ≡ sector
    → OnlyReads a b → Notes v u a b → OnlyReads b d → Notes u w b d
    → nat_lt at.sector (member_on u at.position).reach ≡ false
    → (IsOpen (shape_of u) u.number b → x ≡ given_at w at (current_in b.held))
    → IsOpen (shape_of v) v.number a → x ≡ restored (row_layout w sector) (row_of w (current_in a.held) sector) position
others_restored v u w a b d at position sector x lasting stand spread is_p is_s one noted two noted_now none value opened =
    let all = notes_then v u w a b d one.stays two.stays noted noted_now in
    let last = stand_then v w at a d all stand in
    let row : layout_of at.spread ≡ row_layout w sector = spread ∙ sym (row_layout_then v w sector all.same.truth) in
    let c = current_in a.held in
    let By : Layout → ℕ → ℕ → Type 0 = λ l p s. x ≡ restored l (map (column c w.number s) (take (width l) (members_of w))) p in
    let here : By (layout_of at.spread) at.position at.sector =
    restored_others w c (layout_of at.spread) at.sector at.position x last.members last.position (wanting_stays u w b d at.position at.sector noted_now none)
    (value (open_calls v u a b lasting one noted opened)
    ∙ given_kept v w a b (layout_of at.spread) at.sector at.position lasting one all.same all.lost all.loses opened) in
    subst (λ l. By l position sector) row (subst (λ p. By (layout_of at.spread) p sector) is_p (subst (λ s. By (layout_of at.spread) at.position s) is_s here))
