-- The copies of partition tables are made to agree: the slices of the drives stay as they are, and tables that agree do so after writes to slices.
use Rattle.std.proofs.Common.{◌≡◌, ◌⊎◌, ℕ, ◌+◌, ◌<◌, ◌≤◌, ◌==◌, Bool, true, false, ◌&&◌, is_none, List, filter, Option, Some, None, inl, inr, refl, sym, ap, subst, ◌∙◌, eqb-true, arith}
use Rattle.std.proofs.lemmas.Bool.{and_from, and_parts, both_ways, cases_Bool}
use Rattle.std.proofs.lemmas.Map.Views.{any-filter_same}
use Rattle.rack.specs.Values.{Keeps, MayLeave}
use Rattle.rack.specs.Seen.{IsLive, RackView, SameRack}
use Rattle.rack.specs.Joins.{stays_then}
use Rattle.rack.specs.Sequences.{OnlyReads, WritesOnly}
use Rattle.rack.proofs.Writing.{only_quiet, only_then, only_weaker}
use Rattle.slice_rack.specs.Laws.{live_below, shows_inside}
use Rattle.slice_rack.specs.Runs.{IsSliced, Runs, inside_still}
use Rattle.slice_rack.specs.Sliced.{IsInside, slices_of}
use Rattle.slice_rack.specs.Slices.{Slices, IsOrderly, disk_of, first_of, seat_of, sectors_of}
use Rattle.slice_rack.proofs.Below.{stays_sliced}
use Rattle.gpt_table.specs.Changes.{IsOfCopies}
use Rattle.pool_state.specs.declared.contents.State.{State}
use Rattle.array_image.specs.Places.{arrays_first, state_sector}
use Rattle.array_image.specs.States.{current_places, is_current}
use Rattle.log_laws.specs.View.{names}
use Rattle.array_model.proofs.Keeping.{keeping_calls}
use Rattle.array_model.proofs.Views.{notes_none}
use Rattle.pool_image.specs.Disks.{Seats}
use Rattle.pool_scan.specs.Scanning.{IsUnfaulted}
use Rattle.pool_scan.specs.declared.Known.{Known}
use Rattle.pool_scan.proofs.Valid.{valid_places}
use Rattle.pool_rest.specs.Resting.{IsOfDrive}
use Rattle.pool_check.specs.declared.Checked.{Checked}
use Rattle.pool_check.specs.Drives.{flag_by}
use Rattle.pool_check.specs.Settling.{IsSettled, IsTableSector, IsTrueOf, KeepsTable}
use Rattle.pool_check.proofs.Settled.{keeps_after, keeps_before, settled_by, settled_since, settled_told, true_since}
use Rattle.pool_check.proofs.TableSectors.{table_end}
use Rattle.raid_laws.specs.Agreeing.{MakesAgree}
use Rattle.raid_laws.proofs.Agreeing.{agree_then}
use Rattle.raid_laws.specs.Raid.{Raid}
use Rattle.raid_laws.specs.Moves.{IsSet, Mends, ChangesNoData}
use Rattle.raid_laws.proofs.Added.{names_current}
use Rattle.raid_laws.proofs.Calls.{moves_read, reads_notes}
use Rattle.raid_laws.proofs.Moving.{moves_then}
use Rattle.raid_laws.proofs.Noted.{current_few}
use Rattle.assembler_laws.specs.Members.{AreMembers}
use Rattle.assembler_laws.specs.Mending.{MendsTables}
use Rattle.assembler_laws.specs.Writing.{IsSlicedOrTable}
use Rattle.assembler_laws.proofs.Drives.{sliced_at}
use Rattle.assembler.proofs.Running.{members_later}
use Rattle.assembler_laws.proofs.Written.{sector_around}
use Rattle.raid_laws.specs.Truths.{MakesTruths}
use Rattle.raid_rack.proofs.Truths.{makes_after}

-- ---- reads before losses are mended

pub reads_move : (v : Raid) (a b : RackView) → IsSet v a → 0 < v.state.made → OnlyReads a b → ChangesNoData v v a b
reads_move v a b set some reads =
    moves_read v v.arrays 0 a b set
    (reads_notes v v.arrays 0 a b set some reads (λ n other. refl)
    (notes_none (v.arrays 0) a b)
    (λ s durable vals spent covers. keeping_calls a b set.lasting reads.stays reads.keeps s durable (v.arrays 0) vals spent))

pub reads_mend : (v w : Raid) (a b c : RackView) → IsSet v a → 0 < v.state.made → OnlyReads a b → Mends v w b c → Mends v w a c
reads_mend v w a b c set some reads mends = record {
  moves = moves_then v v w a b c (reads_move v a b set some reads) mends.moves;
  heeded = mends.heeded;
  marked = mends.marked;
}

-- losses that are mended twice
pub mends_then : (v w z : Raid) (a b c : RackView) → Mends v w a b → Mends w z b c → Mends v z a c
mends_then v w z a b c one two = record {
  moves = moves_then v w z a b c one.moves two.moves;
  heeded = two.heeded;
  marked = λ p was. elim (cases_Bool (is_current z.state p)) [
    | inl on ↦ absurd (both_ways (is_current w.state p) (one.marked p was) (two.moves.book.current p on))
    | inr off ↦ off
  ];
}

-- superblocks that agree after calls, some reads before which are calls of the same arrays
pub reads_agree : (v w : Raid) (a b c : RackView) → IsSet v a → 0 < v.state.made → OnlyReads a b → ChangesNoData v w b c → MakesAgree v w b c → MakesAgree v w a c
reads_agree v w a b c set some reads moves agree = agree_then v v w a b c (reads_move v a b set some reads) moves agree

-- and superblocks that are all written
pub reads_makes : (v w : Raid) (a b c : RackView) → IsSet v a → 0 < v.state.made → OnlyReads a b → MakesTruths v w b c → MakesTruths v w a c
reads_makes v w a b c set some reads = makes_after v v w a b c set.lasting (reads_move v a b set some reads)

-- ---- sectors of tables

-- a sector of a drive's slices is none of its table
outside : (n u : ℕ) → arrays_first + 32 < n → state_sector ≤ u → (u < arrays_first) ⊎ (u + 33 < n) → (u < 34) ⊎ (n ≤ u + 33) → ⊥
outside n u room behind before (inl low) = omega (arith, behind, low)
outside n u room behind (inl early) (inr high) = omega (arith, room, early, high)
outside n u room behind (inr late) (inr high) = omega (arith, late, high)

-- nor is another one that a replay writes
pub drive_never : (a : RackView) (known : List Known) (s : State) (d : ℕ) → arrays_first + 32 < a.sectors d → (u : ℕ) (v : List ℕ) → IsOfCopies (a.sectors d) u
    → IsOfDrive a known s d u v → ⊥
drive_never a known s d room u v of is = outside (a.sectors d) u room is.behind is.before (table_end (a.sectors d) u of)

module _ (s : State) (t : Slices) (a : RackView) (checked : Checked) (absent : List ℕ) (orderly : IsOrderly t) (m : AreMembers s t a checked absent) where
  slices_apart : (p d u : ℕ) (v : List ℕ) → seat_of t p ≡ Some d → IsSliced t d u v → (u < 34) ⊎ (a.sectors d ≤ u + 33) → ⊥
  slices_apart p d u v seat is at_end = (let at = sliced_at s t a checked absent orderly m d u v is in outside (a.sectors d) u (m.room p d seat) at.2 at.3 at_end)

  pub slices_never : (p d n : ℕ) → p < 16 → seat_of t p ≡ Some d → a.sectors d ≡ n → (u : ℕ) (v : List ℕ) → IsOfCopies n u → IsSliced t d u v → ⊥
  slices_never p d n few seat same u v of is = slices_apart p d u v seat is (subst (λ k. (u < 34) ⊎ (k ≤ u + 33)) (sym same) (table_end n u of))

  -- writes to slices keep tables
  slices_keep : (b : RackView) (p d n : ℕ) → WritesOnly a b (IsSliced t) → p < 16 → seat_of t p ≡ Some d → a.sectors d ≡ n
      → (u : ℕ) → IsOfCopies n u → IsLive a b d u → Keeps (a.held d u) (b.held d u)
  slices_keep b p d n only few seat same u of live = only.others d u live (λ v. slices_never p d n few seat same u v of)

  -- and writes to tables keep slices
  pub tables_read : (b : RackView) → WritesOnly a b (IsTableSector a b (seat_of t) 16) → OnlyReads (slices_of t a) (slices_of t b)
  tables_read b only = record {
    stays = stays_sliced m.fit.1 only.stays;
    keeps = record {
      held = λ k u live. only.others (disk_of t k) (first_of t k + u) (live_below orderly inside live) (λ v is. never k u v live.sector is);
      stops = λ traced. let leaves = only.stops traced in record {
        later = leaves.later;
        kept = λ n c until left. (left.0, leaves.kept n left.0 until left.1, left.2);
        past = λ n c until left. (left.0, leaves.past n left.0 until left.1, left.2);
        new = λ n c after until left k u live.
            subst (MayLeave (a.held (disk_of t k) (first_of t k + u))) (sym (shows_inside t left.0 c k u left.2 live.sector))
            (elim (leaves.new n left.0 after until left.1 (disk_of t k) (first_of t k + u) (live_below orderly inside live)) [
              | inl old ↦ old
              | inr is ↦ absurd (never k u (left.0 (disk_of t k) (first_of t k + u)) live.sector is)
            ]);
      };
    };
  }
    where
      inside : IsInside t b
      inside = inside_still only.stays m.fit.1

      never : (k u : ℕ) (v : List ℕ) → u < sectors_of t k → IsTableSector a b (seat_of t) 16 (disk_of t k) (first_of t k + u) v → ⊥
      never k u v within is =
          slices_apart is.place (disk_of t k) (first_of t k + u) v is.seat (record { slice = k; at = u; within = within; disk_is = refl; sector_is = refl }) is.at_end

  -- ---- places that are left

  module _ (x y : RackView) (gone now : List ℕ) (mends : MendsTables x y s (seat_of t) checked.agreed gone now) where
    -- the places that are left out
    pub left_named : (p : ℕ) → names now p ≡ (is_none (mends.left p) && is_current s p)
    left_named p =
        ap (λ ps. names ps p) mends.listed
        ∙ any-filter_same (λ q. q == p) (λ q. is_none (mends.left q)) (is_none (mends.left p)) (λ q same. ap (λ r. is_none (mends.left r)) (eqb-true q p same)) (current_places s)
        ∙ ap (λ b. is_none (mends.left p) && b) (names_current s p)

    seat_none : (p : ℕ) → names absent p ≡ true → (is_none (seat_of t p) ≡ true) × (is_current s p ≡ true)
    seat_none p is = and_parts (is_none (seat_of t p)) (is_current s p) (sym (m.absent_is p) ∙ is)

    -- whoever was absent is so still
    pub absent_still : (p : ℕ) → names absent p ≡ true → names now p ≡ true
    absent_still p is =
        left_named p ∙ and_from (is_none (mends.left p)) (is_current s p)
        (elim (mends.loses p) [ inl same ↦ ap is_none same ∙ (seat_none p is).0 | inr lost ↦ ap is_none lost.0 ])
        (seat_none p is).1

    -- where no disk refused a call nobody else is
    module _ (quiet : IsUnfaulted x y) (gone_is : (p : ℕ) → names gone p ≡ true → names absent p ≡ true) where
      pub left_same : (p : ℕ) → mends.left p ≡ seat_of t p
      left_same p = elim (mends.loses p) [
        | inl same ↦ same
        | inr lost ↦ elim lost.1 [
          | inl is ↦ lost.0 ∙ sym (none_is (seat_of t p) (seat_none p (gone_is p is)).0)
          | inr goes ↦ absurd (quiet goes.0 goes.2)
        ]
      ]
        where
          none_is : (o : Option ℕ) → is_none o ≡ true → o ≡ None
          none_is None is = refl
          none_is (Some d) is = absurd (both_ways false refl is)

      pub absent_same : now ≡ absent
      absent_same = mends.listed ∙ ap (λ (f : Seats). filter (λ p. is_none (f p)) (current_places s)) (λ i p. left_same p i) ∙ sym m.listed

-- ---- in the making of a rack of arrays: gates are closed, tables are made to agree, and then losses are marked

-- the slices lie as before, and gates and tables were written
pub record IsMended (s : State) (t : Slices) (a b c : RackView) (agreed : List Bool) (gone now : List ℕ) : Type 0 where
  pub closing : WritesOnly a b (IsSliced t)
  pub mends : MendsTables b c s (seat_of t) agreed gone now

pub mended_so : (s : State) (t u : Slices) (a b c : RackView) (agreed : List Bool) (gone now : List ℕ) (own : Type 0) → (slices_of t a).fit → Runs t u a b own
    → MendsTables b c s (seat_of u) agreed gone now → IsMended s t a b c agreed gone now
mended_so s t u a b c agreed gone now own fit runs mends =
    record { closing = runs.apart fit.0 fit.1; mends = subst (λ k. MendsTables b c s (seat_of k) agreed gone now) runs.tables mends }

module _ (s : State) (t : Slices) (a b c : RackView) (gone now : List ℕ) (checked : Checked) (absent : List ℕ) (orderly : IsOrderly t)
    (m : AreMembers s t a checked absent) (is : IsMended s t a b c checked.agreed gone now) where
  pub mended_stays : SameRack a c
  mended_stays = stays_then is.closing.stays is.mends.only.stays

  pub closed_members : AreMembers s t b checked absent
  closed_members = members_later s t a b checked absent is.closing.stays m

  pub mended_members : AreMembers s t c checked absent
  mended_members = members_later s t a c checked absent mended_stays m

  pub mended_reads : OnlyReads (slices_of t b) (slices_of t c)
  mended_reads = tables_read s t b checked absent orderly closed_members c is.mends.only

  -- losses are marked
  pub marking_so : (w k : Slices) (e : RackView) (own : Type 0) → w ≡ t → Runs w k c e own → WritesOnly c e (IsSliced t)
  marking_so w k e own same runs =
      subst (λ u. WritesOnly c e (IsSliced u)) same (runs.apart mended_members.fit.0 (subst (λ u. IsInside u c) (sym same) mended_members.fit.1))

  module _ (e : RackView) (marking : WritesOnly c e (IsSliced t)) where
    pub rack_writes : WritesOnly a e (IsSlicedOrTable a e t)
    rack_writes =
        only_then (IsSlicedOrTable a e t) (only_weaker (IsSliced t) (IsSlicedOrTable a e t) (λ d u v at. inl at) is.closing)
        (only_then (IsSlicedOrTable a e t)
        (only_weaker (IsTableSector b c (seat_of t) 16) (IsSlicedOrTable a e t)
        (λ d u v at.
        inr (sector_around a b c e is.closing.stays is.mends.only.stays marking.stays (seat_of t) (seat_of t) (λ p j seat. seat)
        (λ p j k seat. slices_keep s t a checked absent orderly m b p j (a.sectors j) is.closing (few p j seat) seat refl k) d u v at))
        is.mends.only)
        (only_weaker (IsSliced t) (IsSlicedOrTable a e t) (λ d u v at. inl at) marking))
      where
        few : (p d : ℕ) → seat_of t p ≡ Some d → p < 16
        few p d seat = current_few s p (valid_places s 0 m.valid).1 (m.current p d seat)

    pub rack_settled : (p d : ℕ) → p < 16 → seat_of t p ≡ Some d → is.mends.left p ≡ Some d → IsTrueOf a d (flag_by checked.agreed p) → IsSettled a e d
    rack_settled p d few seat left says =
        let untouched = slices_keep s t a checked absent orderly m b p d (a.sectors d) is.closing few seat refl in
        settled_told a e d
        (λ told.
        settled_by mended_stays d marking.stays (slices_keep s t c checked absent orderly mended_members e p d (a.sectors d) marking few seat (mended_stays.sectors d))
        (settled_since is.closing.stays d is.mends.only.stays untouched (is.closing.stays.sectors d)
        (is.mends.settled p d few left (true_since a b d (flag_by checked.agreed p) is.closing.stays told untouched says))))

    pub rack_keeps : (p d : ℕ) → p < 16 → seat_of t p ≡ Some d → KeepsTable a e d
    rack_keeps p d few seat =
        keeps_after a c e (IsSliced t) d mended_stays marking (slices_never s t c checked absent orderly mended_members p d (a.sectors d) few seat (mended_stays.sectors d))
        (keeps_before a b c (IsSliced t) d is.closing is.mends.only.stays (slices_never s t a checked absent orderly m p d (a.sectors d) few seat refl) (is.mends.tables d))

-- ---- in an opening: the pending record, the drives' check, the rack of arrays, the volume

module _ (s r : State) (t : Slices) (a x y z w : RackView) (checked : Checked) (absent : List ℕ) (known : List Known) (orderly : IsOrderly t) (m : AreMembers s t y checked absent)
    (early : WritesOnly a x (IsOfDrive a known r)) (reads : OnlyReads x y) (stays : SameRack y z) (texts : WritesOnly z w (IsSliced t))
    (p d : ℕ) (seat : seat_of t p ≡ Some d) where
  xz : SameRack x z
  xz = stays_then reads.stays stays

  az : SameRack a z
  az = stays_then early.stays xz

  few : p < 16
  few = current_few s p (valid_places s 0 m.valid).1 (m.current p d seat)

  late_never : (u : ℕ) (v : List ℕ) → IsOfCopies (a.sectors d) u → IsSliced t d u v → ⊥
  late_never = slices_never s t z checked absent orderly (members_later s t y z checked absent stays m) p d (a.sectors d) few seat (az.sectors d)

  early_never : (u : ℕ) (v : List ℕ) → IsOfCopies (a.sectors d) u → IsOfDrive a known r d u v → ⊥
  early_never = drive_never a known r d (subst (λ n. arrays_first + 32 < n) (reads.stays.sectors d ∙ early.stays.sectors d) (m.room p d seat))

  pub opening_settled : IsSettled y z d → IsSettled a w d
  opening_settled settled =
      settled_by az d texts.stays (λ u of live. texts.others d u live (λ v. late_never u v of))
      (settled_since early.stays d xz (λ u of live. early.others d u live (λ v. early_never u v of)) (early.stays.sectors d)
      (settled_since reads.stays d stays (λ u of live. reads.keeps.held d u live) (reads.stays.sectors d) settled))

  pub opening_keeps : KeepsTable y z d → KeepsTable a w d
  opening_keeps kept =
      keeps_after a z w (IsSliced t) d az texts late_never
      (keeps_before a x z (IsOfDrive a known r) d early xz early_never
      (keeps_before x y z (λ e u v. ⊥) d (only_quiet (λ e u v. ⊥) reads.stays reads.keeps) stays (λ u v of is. is) kept))
