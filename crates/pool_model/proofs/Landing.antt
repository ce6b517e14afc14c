-- Targets land where a pool's slices are: what gives that the slices of its drives' tables lie apart, and what it gives.
--
-- They lie apart by the rules on the list of drives and on the plan (`ruled_apart`), and where the tables have the members' slices, also of contents that hold a
-- pool again (`tables_apart`, `again_apart`, `landing_again`). Where each drive has its table a replay then finds these slices where the pool has them (`apart_tables`).
use Rattle.std.proofs.Common.{◌≡◌, ℕ, zero, suc, ◌+◌, ◌<◌, ◌≤◌, not, true, false, Option, Some, None, option_map, add-one, inl, inr, refl, sym, ap, ap₂, subst, ◌∙◌, arith}
use Rattle.std.specs.Option.{option_and_then, option_map_or}
use Rattle.std.proofs.lemmas.Bool.{both_ways, cases_Bool, cases_eq}
use Rattle.std.proofs.lemmas.Option.{none-some}
use Rattle.rack.specs.Seen.{Image, IsPick, RackView}
use Rattle.slice_rack.specs.Slices.{Slices, sectors_of}
use Rattle.gpt_table.specs.declared.Table.{Table}
use Rattle.gpt_table.specs.Changes.{the_table}
use Rattle.md_super.specs.declared.superblock.Super.{Super}
use Rattle.pool_state.specs.declared.contents.Drive.{Drive}
use Rattle.pool_state.specs.declared.contents.State.{State}
use Rattle.array_image.specs.Places.{arrays_first, data_sector, member_slice}
use Rattle.array_image.specs.States.{is_current}
use Rattle.array_core.proofs.Stripped.{some_same}
use Rattle.pool_image.specs.Book.{height_of, top_of}
use Rattle.pool_image.specs.Disks.{Disks, Identity}
use Rattle.pool_image.specs.Drives.{Found, end_of, extent_from, extent_of, first_of, truth_from}
use Rattle.pool_image.specs.Meaning.{has_slice, has_slice_of, is_member, kind_of, truth_of}
use Rattle.pool_image.specs.Replay.{Extent, entry_extent, extent_by, extents_below, share}
use Rattle.pool_image.specs.Sound.{HasSoundPlan, HasToJoin, IsSoundList, drive_at}
use Rattle.pool_image.proofs.Founds.{first_behind}
use Rattle.pool_image.proofs.Truths.{extent_found}
use Rattle.pool_rest.proofs.Extents.{extent_by_is, extents_apart, free_entry}
use Rattle.pool_model.specs.Left.{RecoversIdle}
use Rattle.pool_model.specs.Openings.{HaveGoodTables}
use Rattle.pool_model.specs.Stopped.{HaveTables, RecoversLanding, HoldTables, LieApart, LieByTables}
use Rattle.pool_model.proofs.Entries.{ascending, no_share, replays_entry, table_entry}
use Rattle.pool_model.proofs.Found.{IsFound, found_is, some_made}
use Rattle.pool_model.proofs.Layers.{IsLaid, laid}
use Rattle.pool_model.proofs.Seats.{nowhere}
use Rattle.pool_model.proofs.Settled.{idle_pool}
use Rattle.pool_model.proofs.TableRoom.{slices}

-- ---- where slices lie

-- the slices of an array that lie there begin there, and those of the next one behind them
extent_begins : (f : Found) (n : ℕ) (b : Extent) → extent_of f (suc n) ≡ Some b → (first_of f n ≡ Some b.first) × (first_of f (suc n) ≡ Some (end_of b))
unfolding extent_of first_of
extent_begins f n b lies = of_first (first_of f n) refl lies
  where
    of_truth : (first : ℕ) → first_of f n ≡ Some first → (o : Option Super) → truth_from f n first ≡ o
        → option_map (λ (t : Super). record { first = first; sectors = data_sector + t.size }) o ≡ Some b
        → (first_of f n ≡ Some b.first) × (option_and_then (λ first. option_map end_of (extent_from f n first)) (first_of f n) ≡ Some (end_of b))
    of_truth first begins None none same = absurd (none-some b same)
    of_truth first begins (Some t) is same = (
      begins ∙ ap Some (ap (λ (o : Option Extent). option_map_or (λ x. x.first) o 0) same),
      ap (option_and_then (λ first. option_map end_of (extent_from f n first))) begins
          ∙ ap (λ (o : Option Super). option_map end_of (option_map (λ (u : Super). record { first = first; sectors = data_sector + u.size }) o)) is
          ∙ ap (option_map end_of) same,
    )

    of_first : (o : Option ℕ) → first_of f n ≡ o → option_and_then (extent_from f n) o ≡ Some b
        → (first_of f n ≡ Some b.first) × (option_and_then (λ first. option_map end_of (extent_from f n first)) (first_of f n) ≡ Some (end_of b))
    of_first None none same = absurd (none-some b same)
    of_first (Some first) begins same = of_truth first begins (truth_from f n first) refl same

-- no array begins before a lower one
first_up : (f : Found) (m n x y : ℕ) → m ≤ n → first_of f m ≡ Some x → first_of f n ≡ Some y → x ≤ y
unfolding first_of
first_up f m zero x y low one two =
    let none : m ≡ 0 = omega (arith, low) in
    let same : x ≡ y = some_same x y (sym one ∙ ap (first_of f) none ∙ two) in
    omega (arith, same)
first_up f m (suc n) x y low one two = elim (cases_eq m (suc n)) [
  | inl same ↦ (let is : x ≡ y = some_same x y (sym one ∙ ap (first_of f) same ∙ two) in omega (arith, is))
  | inr other ↦
      let before = lower two in
      let rest = first_up f m n x before.0 (omega (arith, low, other)) one before.1 in
      let up = before.2 in
      omega (arith, rest, up)
]
  where
    of_truth : (first : ℕ) → first_of f n ≡ Some first → (o : Option Super)
        → option_map end_of (option_map (λ (t : Super). record { first = first; sectors = data_sector + t.size }) o) ≡ Some y → (k : ℕ) × (first_of f n ≡ Some k) × (k ≤ y)
    of_truth first begins None at = absurd (none-some y at)
    of_truth first begins (Some t) at =
        let same : first + (data_sector + t.size) ≡ y = some_same (first + (data_sector + t.size)) y at in
        (first, begins, omega (arith, same))

    of_first : (o : Option ℕ) → first_of f n ≡ o → option_and_then (λ first. option_map end_of (extent_from f n first)) o ≡ Some y → (k : ℕ) × (first_of f n ≡ Some k) × (k ≤ y)
    of_first None none at = absurd (none-some y at)
    of_first (Some first) begins at = of_truth first begins (truth_from f n first) at

    lower : first_of f (suc n) ≡ Some y → (k : ℕ) × (first_of f n ≡ Some k) × (k ≤ y)
    lower at = of_first (first_of f n) refl at

-- so those of a lower array end before
lower_ends : (f : Found) (k n : ℕ) (a b : Extent) → k < n → extent_of f (suc k) ≡ Some a → extent_of f (suc n) ≡ Some b → a.first + a.sectors ≤ b.first
lower_ends f k n a b low one two =
    first_up f (suc k) n (end_of a) b.first (omega (arith, low)) (extent_begins f k a one).1 (extent_begins f n b two).0

behind : (f : Found) (n : ℕ) (b : Extent) → extent_of f (suc n) ≡ Some b → arrays_first ≤ b.first
behind f n b lies = first_behind f n b.first (extent_begins f n b lies).0

-- ---- tops

-- the top of an array isn't below those of lower ones
top_up : (f : Found) (m n : ℕ) → m ≤ n → top_of f m ≤ top_of f n
unfolding top_of
top_up f m zero low = let none : 0 ≡ m = omega (arith, low) in subst (λ k. top_of f k ≤ top_of f 0) none (omega arith)
top_up f m (suc n) low = elim (cases_eq m (suc n)) [
  | inl same ↦ subst (λ k. top_of f m ≤ top_of f k) same (omega arith)
  | inr other ↦
      let rest = top_up f m n (omega (arith, low, other)) in
      let grown : top_of f (suc n) ≡ top_of f n + option_map_or (height_of f.state) (truth_of f n) 0 = refl in
      omega (arith, rest, grown)
]

-- ---- by the drives' tables

-- the slices of one table share no sector
pub tables_apart : (f : Found) → HaveTables f → LieApart f
tables_apart f tables m n p d a b low made seat none member one two =
    extents_apart (f.disks.sectors d) (f.identities d).table m n a b low one (tables n p d made seat member ∙ two)

-- ---- a pool that was found

module _ (f : Found) (is : IsFound f) where
  -- a place that has a drive is current
  pub seat_current : (p d : ℕ) → f.seats p ≡ Some d → is_current f.state p ≡ true
  seat_current p d seat = elim (cases_Bool (is_current f.state p)) [
    | inl now ↦ now
    | inr past ↦ absurd (none-some d (sym (nowhere f.state f.disks f.identities p past) ∙ sym (is.seats p) ∙ seat))
  ]

  table_here : (d : ℕ) (table : Table) → (f.identities d).table ≡ Some table → the_table (f.disks.sectors d) (f.contents d) ≡ Some table
  table_here d table here = sym (ap (λ (z : Identity). z.table) (is.identities d)) ∙ here

  -- an entry that the pool has too
  entry_is : (n d : ℕ) (b : Extent) (table : Table) → (f.identities d).table ≡ Some table → extent_of f (suc n) ≡ Some b
      → has_slice_of f (f.disks.sectors d) table (n + 1) ≡ true → entry_extent (f.disks.sectors d) table n ≡ Some b
  entry_is n d b table here lies has =
      table_entry f (f.disks.sectors d) table (ascending (f.disks.sectors d) (f.contents d) table (table_here d table here)) n b lies (behind f n b lies) has

  -- a lower slice of a disk's table whose entry the pool has too shares nothing
  entry_apart : (k n d : ℕ) (a b : Extent) (table : Table) → (f.identities d).table ≡ Some table → k < n → has_slice_of f (f.disks.sectors d) table (k + 1) ≡ true
      → extent_by (f.disks.sectors d) (Some table) (suc k) ≡ Some a → extent_of f (suc n) ≡ Some b → share b a ≡ false
  entry_apart k n d a b table here low has at lies = of (extent_of f (k + 1)) refl has
    where
      own : entry_extent (f.disks.sectors d) table k ≡ Some a
      own =
          free_entry (extents_below (f.disks.sectors d) table k) (entry_extent (f.disks.sectors d) table k) a
          (sym (extent_by_is (f.disks.sectors d) table k) ∙ ap (extent_by (f.disks.sectors d) (Some table)) (add-one k) ∙ at)

      of : (o : Option Extent) → extent_of f (k + 1) ≡ o → option_map_or (has_slice (f.disks.sectors d) table (k + 1 + 1) (kind_of (k + 1))) o false ≡ true → share b a ≡ false
      of None none is = absurd (both_ways false refl is)
      of (Some there) some is =
          let lies_there : extent_of f (suc k) ≡ Some there = ap (extent_of f) (sym (add-one k)) ∙ some in
          let same : there ≡ a = some_same there a (sym (entry_is k d there table here lies_there has) ∙ own) in
          no_share a b (lower_ends f k n a b low (lies_there ∙ ap Some same) lies)

  -- ---- by the rules

  listed : (p d : ℕ) → f.seats p ≡ Some d → (drive : Drive) × (drive_at f p ≡ Some drive)
  listed p d seat = by (drive_at f p) refl (seat_current p d seat)
    where
      by : (o : Option Drive) → drive_at f p ≡ o → option_map_or (λ drive. not drive.missing) o false ≡ true → (drive : Drive) × (drive_at f p ≡ Some drive)
      by None none current = absurd (both_ways false refl current)
      by (Some drive) some current = (drive, some)

  -- a member of an array is one of each lower one, or has still to join it
  lower_joins : (k n p d : ℕ) → IsSoundList f → k < n → n < f.state.made → f.seats p ≡ Some d → is_member f k p ≡ false → is_member f n p ≡ true → HasToJoin f k p
  lower_joins k n p d list low made seat other member =
      let drive = listed p d seat in
      let reaches : top_of f (n + 1) ≤ drive.0.units =
      elim (list.members n p drive.0 made drive.1) [
        | inl both ↦ both.0 member
        | inr joins ↦ absurd (both_ways (is_member f n p) joins.no_member member)
      ] in
      let up = top_up f (k + 1) (n + 1) (omega (arith, low)) in
      elim (list.members k p drive.0 (omega (arith, low, made)) drive.1) [
        | inl both ↦ absurd (both_ways (is_member f k p) other (both.1 (omega (arith, reaches, up))))
        | inr joins ↦ joins
      ]

  pub ruled_apart : IsSoundList f → HasSoundPlan f → LieApart f
  ruled_apart list plan k n p d a b low made seat other member at lies =
      by (f.identities d).table refl (plan.entries k p d (lower_joins k n p d list low made seat other member) seat)
    where
      by : (o : Option Table) → (f.identities d).table ≡ o → option_map_or (λ table. has_slice_of f (f.disks.sectors d) table (k + 1)) o false ≡ true → share b a ≡ false
      by None none has = absurd (both_ways false refl has)
      by (Some table) here has = entry_apart k n d a b table here low has (ap (λ o. extent_by (f.disks.sectors d) o (suc k)) (sym here) ∙ at) lies

  -- ---- what a replay finds

  pub apart_tables : HaveGoodTables f → ((n : ℕ) → n < f.state.made → (b : Extent) × (extent_of f (suc n) ≡ Some b)) → LieApart f → HaveTables f
  apart_tables good lie apart n p d made seat member =
      let has = slices f p d (good p d seat) in
      let b = lie n made in
      ap (λ o. extent_by (f.disks.sectors d) o (suc n)) has.is
      ∙ replays_entry (f.disks.sectors d) n has.table b.0 (entry_is n d b.0 has.table has.is b.1 (has.members n made member))
      (λ k a low at. elim (cases_Bool (is_member f k p)) [
        | inl of ↦ entry_apart k n d a b.0 has.table has.is low (has.members k (omega (arith, low, made)) of) at b.1
        | inr other ↦ apart k n p d a b.0 low made seat other member (ap (λ o. extent_by (f.disks.sectors d) o (suc k)) has.is ∙ at) b.1
      ])
      ∙ sym b.1

-- ---- contents that hold a pool again

-- where an array with a truth lies
extent_there : (f : Found) (n : ℕ) (u : Super) → n < 16 → truth_of f n ≡ Some u → (first : ℕ) × (extent_of f (suc n) ≡ Some (record { first = first; sectors = data_sector + u.size }))
extent_there f n u few truth = let lie : IsLaid f n u = laid f n u few truth in (lie.first, extent_found f n lie.first u lie.begins lie.is)

-- Contents that hold a pool again, by whose tables the drives have the members' slices, have one whose slices lie apart.
pub again_apart : (f : Found) (t : Slices) (s : State) (i : Image) → (again : RecoversIdle f t s i) → LieByTables f t s i → LieApart again.still.now
again_apart f t s i again lie =
    let still = again.still in
    let g = still.now in
    let at = found_is f.disks i g still.found_is in
    let idle = idle_pool f.disks i g still.found_is again.idle still.logs in
    tables_apart g (λ n p d made seat member.
    let counts : is_current s p ≡ true = ap (λ (z : State). is_current z p) (sym still.state) ∙ seat_current g at.0 p d seat in
    let few : n < 16 = (let most = (some_made g at.0).1 in omega (arith, made, most)) in
    let truth = still.sound.rules.arrays n made in
    let there = extent_there g n truth.0 few truth.1 in
    let lies = still.slices.members n p d made seat member in
    let size : data_sector + truth.0.size ≡ sectors_of t (member_slice p n) =
    ap (λ (o : Option Extent). option_map_or (λ x. x.sectors) o 0) (sym there.1 ∙ lies) in
    let table : (g.identities d).table ≡ the_table (f.disks.sectors d) (i d) = ap (λ (h : Found). (h.identities d).table) (sym idle.same) in
    ap₂ (λ (k : Disks) o. extent_by (k.sectors d) o (suc n)) at.1 table
    ∙ ap (extent_by (f.disks.sectors d) (the_table (f.disks.sectors d) (i d))) (sym (add-one n))
    ∙ lie p d counts (still.slices.seats p d seat) n few (omega (arith, size)) ∙ sym lies)

-- So it is of whatever the disks may be left with.
pub landing_again : (f : Found) (t : Slices) (s : State) (x : RackView) → HoldTables f t s x → (i : Image) → IsPick x x x.held i → RecoversIdle f t s i → RecoversLanding f t s i
landing_again f t s x tables i pick again =
    record { again = again; apart = again_apart f t s i again (tables i (λ d u live never. pick d u live)) }
