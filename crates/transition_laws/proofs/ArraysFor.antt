-- The array as a promise has it, whose rows left to zero are left to resync: what holds of an array and of calls of it holds of that one.
use Rattle.raid_laws.specs.Marking.{Restates}
use Rattle.array_image.specs.Left.{Picks}
use Rattle.raid_laws.proofs.Restated.{IsStaged, restates_by}
use Rattle.rack.specs.Targets.{Target, put}
use Rattle.std.proofs.Common.{◌||◌, ◌≡◌, ℕ, ◌+◌, ◌-◌, ◌*◌, ◌<◌, ◌≤◌, Bool, true, false, ◌&&◌, not, nat_lt, if◌then◌else◌, refl, sym, ap, subst, ◌∙◌, inl, inr, le-ltb, lt-ltb, ltb-true, arith, List, Some}
use Rattle.std.proofs.Math.Nat.{mul-le-mul_left, mul-le-mul_right}
use Rattle.std.proofs.lemmas.Bool.{and_parts, both_ways, cases_Bool}
use Rattle.rack.specs.Values.{Values}
use Rattle.rack.specs.Seen.{RackView, Image}
use Rattle.pool_state.specs.declared.contents.State.{State}
use Rattle.md_super.specs.declared.superblock.Super.{Super}
use Rattle.md_super.specs.Profile.{is_mirror}
use Rattle.raid_map.specs.LeftSymmetric.{row_at, row_of}
use Rattle.raid_map.proofs.Rows.{row_at-sector_of, rows_are_apart}
use Rattle.array_image.specs.Arrays.{final_layout, first_layout, layout_at, Shape}
use Rattle.array_image.specs.Even.{AreEven}
use Rattle.array_image.specs.Held.{IsSynced, current_in}
use Rattle.array_image.specs.Marks.{lowered}
use Rattle.array_image.specs.SoundArray.{first_unsynced}
use Rattle.array_image.specs.Spent.{spent_by, spent_with, wanting}
use Rattle.array_image.specs.Stripes.{capacity, mirror, parity, sector_in}
use Rattle.array_image.specs.Supers.{is_reshaping}
use Rattle.array_image.proofs.Marked.{among_lowered}
use Rattle.array_core.proofs.Truths.{unsynced_few}
use Rattle.array_model.specs.ArrayCalls.{IncludesSpent}
use Rattle.array_model.specs.Members.{Notes}
use Rattle.array_model.specs.Says.{ArrayInvariant, ShapeInvariant, HasNoOthers, IsOpen}
use Rattle.array_model.specs.View.{IsArray, may_vary, rows_of, shape_of, View}
use Rattle.array_model.proofs.Losses.{IsLosing}
use Rattle.rack.specs.Seen.{Held}
use Rattle.reshape_laws.proofs.Finishing.{no_mirror}
use Rattle.sync_laws.specs.Steps.{zeroing}
use Rattle.transition_laws.specs.Holds.{has_sector, HoldsMembers, moved_to, Promise, rows_for, spent_at, view_for}
use Rattle.transition_laws.proofs.Shown.{members_of}

-- it is the array itself, unless that is young and its sectors alone are promised
pub whole_for : (p : Promise) (w : View) → (p.growing && w.young) ≡ false → view_for p w ≡ w
whole_for p w is = λ i. record w { young = same p.growing w.young is i; resync = (ap (λ (b : Bool). if b then first_unsynced w.truth else w.resync) is) i }
  where
    same : (g y : Bool) → (g && y) ≡ false → (y && not g) ≡ y
    same true true is = absurd (both_ways true is refl)
    same true false is = refl
    same false true is = refl
    same false false is = refl

pub grown_for : (p : Promise) (w : View) → w.young ≡ false → (p.growing && w.young) ≡ false
grown_for p w old = ap (λ b. p.growing && b) old ∙ none p.growing
  where
    none : (b : Bool) → (b && false) ≡ false
    none true = refl
    none false = refl

-- and then one whose rows left to zero are left to resync
pub zeroing_for : (p : Promise) (w : View) → (p.growing && w.young) ≡ true → view_for p w ≡ zeroing w
zeroing_for p w is =
    let both = and_parts p.growing w.young is in
    λ i. record w { young = both.1 i && not (both.0 i); resync = if is i then first_unsynced w.truth else w.resync }

pub shape_for : (p : Promise) (w : View) → shape_of (view_for p w) ≡ shape_of w
unfolding shape_of
shape_for p w = refl

-- its members hold what those of the array do
pub members_for : (s : State) (durable : Shape) (p : Promise) (w : View) (n : ℕ) (vals : ℕ → Values) (spent : ℕ → Bool) (x : RackView) → w.number ≡ n
    → ArrayInvariant s durable (view_for p w) vals spent x → HoldsMembers n durable (shape_of w) (rows_for p w) (may_vary w) vals spent x
members_for s durable p w n vals spent x number holds =
    members_of s n durable (shape_of w) (rows_for p w) (may_vary w) vals spent x
    (subst (λ (sh : Shape). ShapeInvariant s n durable sh (rows_for p w) (may_vary w) vals spent x) (shape_for p w)
    (subst (λ k. ShapeInvariant s k durable (shape_of (view_for p w)) (rows_for p w) (may_vary w) vals spent x) number holds.shape))

-- where it is the array itself
pub members_grown : (s : State) (durable : Shape) (p : Promise) (w : View) (n : ℕ) (vals : ℕ → Values) (spent : ℕ → Bool) (x : RackView) → w.number ≡ n → (p.growing && w.young) ≡ false
    → ArrayInvariant s durable w vals spent x → HoldsMembers n durable (shape_of w) (rows_for p w) (may_vary w) vals spent x
members_grown s durable p w n vals spent x number old holds =
    members_for s durable p w n vals spent x number (subst (λ u. ArrayInvariant s durable u vals spent x) (sym (whole_for p w old)) holds)

pub array_for : (p : Promise) (w : View) → IsArray w → IsArray (view_for p w)
array_for p w is = record {
  few = is.few;
  level = is.level;
  least = is.least;
  most = is.most;
  seats = is.seats;
  devices = is.devices;
  small = is.small;
  whole_rows = is.whole_rows;
  placed = is.placed;
  synced = few (p.growing && w.young);
  reshape = is.reshape;
}
  where
    few : (b : Bool) → (if b then first_unsynced w.truth else w.resync) ≤ rows_of w
    few true = unsynced_few w.truth
    few false = is.synced

-- it has as many rows where the truths leave the same
pub same_rows : (p : Promise) (u w : View) → first_unsynced w.truth ≡ first_unsynced u.truth → w.resync ≡ u.resync → w.young ≡ u.young → rows_for p w ≡ rows_for p u
same_rows p u w first resync young = λ i. if p.growing && young i then first i else resync i

-- and fewer rows that agree
pub fewer_rows : (n : ℕ) (durable noted : Shape) (many few : ℕ) (vary : Bool) (vals : ℕ → Values) (spent : ℕ → Bool) (x : RackView) → few ≤ many
    → HoldsMembers n durable noted many vary vals spent x → HoldsMembers n durable noted few vary vals spent x
fewer_rows n durable noted many few vary vals spent x less holds = record {
  open_slices = holds.open_slices;
  open_left = holds.open_left;
  still = holds.still;
  within = holds.within;
  current = holds.current;
  sized = holds.sized;
  even = λ y inside row counts. holds.even y inside (omega (arith, row, less)) counts;
  settled = holds.settled;
}

-- and, where members' sectors have one value, members that may vary or not
pub settled_members : (n : ℕ) (durable noted : Shape) (rows : ℕ) (was now : Bool) (vals : ℕ → Values) (spent : ℕ → Bool) (x : RackView) → IsSynced noted n x.held
    → HoldsMembers n durable noted rows was vals spent x → HoldsMembers n durable noted rows now vals spent x
settled_members n durable noted rows was now vals spent x single holds = record {
  open_slices = holds.open_slices;
  open_left = holds.open_left;
  still = holds.still;
  within = holds.within;
  current = holds.current;
  sized = holds.sized;
  even = holds.even;
  settled = λ steady. single;
}

-- ---- losses

pub notes_for : (p : Promise) (u w : View) (a b : RackView) → Notes u w a b → Notes (view_for p u) (view_for p w) a b
notes_for p u w a b notes = record {
  same = record {
    number = notes.same.number;
    truth = notes.same.truth;
    devices = notes.same.devices;
    resync = λ i. if p.growing && notes.same.young i then first_unsynced (notes.same.truth i) else notes.same.resync i;
    young = ap (λ b. b && not p.growing) notes.same.young;
    marked = notes.same.marked;
  };
  lost = notes.lost;
  loses = record { seats = notes.loses.seats; went = notes.loses.went };
  cause = notes.cause;
}

pub losing_for : (p : Promise) (u w : View) (lost : ℕ → Bool) → IsLosing u w lost → w.young ≡ u.young → IsLosing (view_for p u) (view_for p w) lost
losing_for p u w lost is young = record {
  number = is.number;
  truth = is.truth;
  resync = λ i. if p.growing && young i then first_unsynced (is.truth i) else is.resync i;
  shape = shape_for p w ∙ is.shape ∙ ap (lowered lost) (sym (shape_for p u));
  vary = is.vary;
  marked = is.marked;
  went = is.went;
}

-- one value a sector is one of those that are left
pub single_lowered : (lost : ℕ → Bool) (shape : Shape) (n : ℕ) (held : Held) → IsSynced shape n held → IsSynced (lowered lost shape) n held
single_lowered lost shape n held single m sector is counts = single m sector (among_lowered lost sector shape.members m is counts) counts

-- ---- sectors

-- a reshape leads RAID-5 to three members or more
abbrev pub IsLaid : Super → Type 0
IsLaid t = is_reshaping t ≡ true → (is_mirror t ≡ false) × (3 ≤ t.raid_disks) × (t.raid_disks ≤ 16)

pub laid_of : (w : View) → IsArray w → IsLaid w.truth
laid_of w is reshaping =
    let striped = no_mirror w is reshaping in
    (striped, (is.reshape reshaping).1, subst (λ (b : Bool). w.truth.raid_disks ≤ (if b then 2 else 16)) striped is.most)

-- the row of a sector by the new layout is no later
row_later : (w : View) (y : ℕ) → IsLaid w.truth → is_reshaping w.truth ≡ true → row_at (sector_in (final_layout w.truth) y) ≤ row_at (sector_in (first_layout w.truth) y)
row_later w y is reshaping =
    let n = w.truth.raid_disks in
    let striped = (is reshaping).0 in
    let three = (is reshaping).1 in
    let most = (is reshaping).2 in
    let last : final_layout w.truth ≡ parity n = ap (λ (b : Bool). if b then mirror n else parity n) striped in
    let first : first_layout w.truth ≡ parity (n - 1) = ap (λ (b : Bool). if b then parity (n - 1) else final_layout w.truth) reshaping in
    let old = rows_are_apart (n - 1) (record { least = omega (arith, three); most = omega (arith, most) }) in
    let new = rows_are_apart n (record { least = omega (arith, three); most = most }) in
    let r = row_of (n - 1) y in
    let inside : y < (r + 1) * (n - 1 - 1) * 128 = (old.array_end y (r + 1)).0 (omega arith) in
    let wider : (r + 1) * (n - 1 - 1) * 128 ≤ (r + 1) * (n - 1) * 128 = mul-le-mul_right 128 (mul-le-mul_left (r + 1) (omega arith)) in
    let below : row_of n y < r + 1 = (new.array_end y (r + 1)).1 (omega (arith, inside, wider)) in
    let one : row_at (sector_in (final_layout w.truth) y) ≡ row_of n y = ap (λ l. row_at (sector_in l y)) last ∙ row_at-sector_of n y in
    let two : row_at (sector_in (first_layout w.truth) y) ≡ row_of (n - 1) y = ap (λ l. row_at (sector_in l y)) first ∙ row_at-sector_of (n - 1) y in
    omega (arith, one, two, below)

-- a sector that a young array has is in a row that is zeroed
pub zeroed_row : (w : View) (y : ℕ) → IsLaid w.truth → w.young ≡ true → has_sector w y ≡ true → row_at (sector_in (layout_at (shape_of w) y) y) < first_unsynced w.truth
unfolding shape_of
zeroed_row w y is young has =
    let f = first_layout w.truth in
    let inside = nat_lt y (capacity f w.truth.size) || nat_lt y (moved_to w.truth) in
    let zeroed = nat_lt (row_at (sector_in f y)) (first_unsynced w.truth) in
    let low : row_at (sector_in f y) < first_unsynced w.truth =
    ltb-true (row_at (sector_in f y)) (first_unsynced w.truth) (sym (ap (λ b. not b || zeroed) young) ∙ (and_parts inside (not w.young || zeroed) has).1) in
    by (is_reshaping w.truth) refl (nat_lt y (if is_reshaping w.truth then w.truth.reshape_position else 0)) refl low
  where
    by : (b : Bool) → is_reshaping w.truth ≡ b → (c : Bool) → nat_lt y (if is_reshaping w.truth then w.truth.reshape_position else 0) ≡ c
        → row_at (sector_in (first_layout w.truth) y) < first_unsynced w.truth
        → row_at (sector_in (if c then final_layout w.truth else first_layout w.truth) y) < first_unsynced w.truth
    by b is_b false is_c low = low
    by true is_b true is_c low = let later = row_later w y is is_b in omega (arith, low, later)
    by false is_b true is_c low =
        absurd (both_ways (nat_lt y 0) (le-ltb y 0 (omega arith)) (ap (λ (b : Bool). nat_lt y (if b then w.truth.reshape_position else 0)) (sym is_b) ∙ is_c))

-- so a promise that an array can keep, it can keep as the promise has it
pub covers_for : (p : Promise) (n : ℕ) (w : View) (spent : ℕ → Bool) → IsLaid w.truth → ((y : ℕ) → spent y ≡ false → spent_at p n w y ≡ false) → IncludesSpent w spent
    → IncludesSpent (view_for p w) spent
covers_for p n w spent is within covers = elim (cases_Bool (p.growing && w.young)) [
  | inr old ↦ subst (λ u. IncludesSpent u spent) (sym (whole_for p w old)) covers
  | inl young ↦ λ y alive.
      let both = and_parts p.growing w.young young in
      let has : has_sector w y ≡ true = had p.growing (has_sector w y) (p.spent n y) both.0 (within y alive) in
      let row = sector_in (layout_at (shape_of w) y) y in
      let low = zeroed_row w y is both.1 has in
      let now : nat_lt (row_at row) (rows_for p w) ≡ true =
      ap (λ (b : Bool). nat_lt (row_at row) (if b then first_unsynced w.truth else w.resync)) young ∙ lt-ltb (row_at row) (first_unsynced w.truth) low in
      subst (λ (sh : Shape). spent_by sh (rows_for p w) y ≡ false) (sym (shape_for p w))
      (ap (spent_with (wanting row (shape_of w).members)) now ∙ synced (wanting row (shape_of w).members) (nat_lt (row_at row) w.resync) (covers y alive))
]
  where
    had : (g has s : Bool) → g ≡ true → ((g && not has) || s) ≡ false → has ≡ true
    had true true s is_g is = refl
    had true false s is_g is = absurd (both_ways true is refl)
    had false has s is_g is = absurd (both_ways false refl is_g)

    fewer : (two one : Bool) → (two || (one && true)) ≡ false → (two || (one && false)) ≡ false
    fewer true one is = is
    fewer false true is = refl
    fewer false false is = refl

    -- what isn't spent in a row that isn't synced isn't in one that is
    synced : (k : ℕ) (b : Bool) → spent_with k b ≡ false → spent_with k true ≡ false
    synced k true is = is
    synced k false is = fewer (nat_lt 1 k) (nat_lt 0 k) is

-- ---- superblocks

-- Contents with the superblocks of a settled array restate it, where its rows agree that a promise has.
pub restates_for : (p : Promise) (s t : State) (gone : ℕ → Bool) (u : View) (xs : List Target) (a : RackView) (n : ℕ)
    → IsStaged s t gone u xs a n → ((c : Image) → Picks a c → HasNoOthers u t (put a.sectors xs c))
    → IsOpen (shape_of u) n a → AreEven (shape_of u) n (rows_for p u) (current_in a.held)
    → Restates t (shape_of u) false u xs a n
restates_for p s t gone u xs a n staged alone is_open even =
    let z = view_for p u in
    let shape = shape_for p u in
    let now =
    restates_by s t gone z xs a n
    (record {
      few = staged.few;
      number = staged.number;
      seats = staged.seats;
      devices = staged.devices;
      placed = staged.placed;
      state =
          let at = staged.state in
          record { set = at.set; profile = at.profile; events = at.events; events_end = at.events_end; row = at.row; roles = at.roles; marks = at.marks };
      marks = staged.marks;
      before = staged.before;
      added = staged.added;
      adds = staged.adds;
      are_targets = staged.are_targets;
      no_other = staged.no_other;
      none = staged.none;
      member = staged.member;
      low = staged.low;
      left = staged.left;
      rows = staged.rows;
      written = staged.written;
      unsynced = few (p.growing && u.young);
      settled = subst (λ (sh : Shape). IsSynced sh n a.held) (sym shape) staged.settled;
      unmarked = staged.unmarked;
    })
    (λ c picks place current other. alone c picks place current other)
    (subst (λ (sh : Shape). IsOpen sh n a) (sym shape) is_open) (subst (λ (sh : Shape). AreEven sh n (rows_for p u) (current_in a.held)) (sym shape) even) in
    record {
      shape_is = λ c picks. now.shape_is c picks ∙ ap Some shape;
      sound = now.sound;
      dirty = now.dirty;
      truth = now.truth;
      alone = λ c picks place current other. now.alone c picks place current other;
    }
  where
    few : (b : Bool) → first_unsynced u.truth ≤ (if b then first_unsynced u.truth else u.resync)
    few true = omega arith
    few false = staged.unsynced
