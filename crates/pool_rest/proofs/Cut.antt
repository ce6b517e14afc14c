-- Members' slices that are added one array after another are those of the table.
use Rattle.std.proofs.Common.{◌≡◌, ◌≢◌, ◌⊎◌, ℕ, suc, ◌+◌, ◌-◌, ◌<◌, ◌≤◌, ◌==◌, ◌&&◌, Bool, true, false, nat_lt, nat_le, bytes_eq, if◌then◌else◌, find, List, [], ◌∷◌, Option, Some, None, refl, sym, ap, subst, ◌∙◌, inl, inr, arith, eq-eqb, lt-ltb, ltb-true, leb-true, All, eqb-true, Result, Ok, Err, OnOk, OnErr}
use Rattle.std.specs.Option.{option_map_or, option_and_then}
use Rattle.std.proofs.lemmas.Option.{none-some, cond_some}
use Rattle.std.proofs.lemmas.Bool.{cases_Bool, cases_eq, cases_lt, both_ways, and_parts, and_from}
use Rattle.rack.specs.Seen.{RackView}
use Rattle.gpt_table.specs.declared.Table.{Table}
use Rattle.gpt_table.specs.declared.Entry.{Entry}
use Rattle.gpt_table.specs.Format.{IsWritable, is_inside}
use Rattle.slice_rack.specs.Slices.{Slices, seat_of, first_of, sectors_of}
use Rattle.slice_rack.specs.declared.SliceFault.{SliceFault}
use Rattle.slice_rack.specs.declared.SliceFault.TheVariants.{Unseated, Outside, Overlap}
use Rattle.slice_rack.specs.Changes.{Adds, IsPast, IsFree, Overlaps}
use Rattle.array_image.specs.Places.{place_of, slice_of, member_slice, arrays_first, raid_kind}
use Rattle.pool_image.specs.Replay.{Extent, share, shares_any, free_of, slice_entry, entry_extent, extents_below, extent_by}
use Rattle.pool_rest.specs.Members.{Lies, IsCutTo, KeepsOthers}
use Rattle.pool_rest.proofs.Extents.{below_shares, extent_at, extent_by_is, free_entry, shares_below}

-- ---- sectors that two extents share

sector_shared : (a b : Extent) → 0 < a.sectors → 0 < b.sectors → share a b ≡ true → (s : ℕ) × ((u : ℕ) × (s < a.sectors) × (u < b.sectors) × (a.first + s ≡ b.first + u))
sector_shared a b some other is =
    let parts = and_parts (nat_lt a.first (b.first + b.sectors)) (nat_lt b.first (a.first + a.sectors)) is in
    let before = ltb-true a.first (b.first + b.sectors) parts.0 in
    let after = ltb-true b.first (a.first + a.sectors) parts.1 in
    elim (cases_lt a.first b.first) [
      | inl low ↦ (b.first - a.first, (0, omega (arith, low, after), other, omega (arith, low)))
      | inr from ↦ (0, (a.first - b.first, some, omega (arith, from, before), omega (arith, from)))
    ]

shared_sector : (a b : Extent) (s u : ℕ) → s < a.sectors → u < b.sectors → a.first + s ≡ b.first + u → share a b ≡ true
shared_sector a b s u inside within same =
    and_from (nat_lt a.first (b.first + b.sectors)) (nat_lt b.first (a.first + a.sectors))
    (lt-ltb a.first (b.first + b.sectors) (omega (arith, inside, within, same)))
    (lt-ltb b.first (a.first + a.sectors) (omega (arith, inside, within, same)))

-- ---- entries of a valid table

pub found_all : (P : Entry → Type 0) (test : Entry → Bool) (xs : List Entry) (y : Entry) → All P xs → find test xs ≡ Some y → P y
found_all P test [] y all is = absurd (none-some y is)
found_all P test (x ∷ xs) y all is = of_test (λ other. found_all P test xs y (λ k d low. all (suc k) d (omega (arith, low))) other) (test x) is
  where
    some_entry : (v w : Entry) → Some v ≡ Some w → v ≡ w
    some_entry v w same = (cc)

    of_test : (find test xs ≡ Some y → P y) → (b : Bool) → (if b then Some x else find test xs) ≡ Some y → P y
    of_test rest true here = subst P (some_entry x y here) (all 0 x (omega arith))
    of_test rest false other = rest other

-- an extent of an entry has a sector, and lies in the arrays' part of a disk
pub record IsRoomy (sectors : ℕ) (e : Extent) : Type 0 where
  pub some : 0 < e.sectors
  pub behind : arrays_first ≤ e.first
  pub before : e.first + e.sectors + 33 ≤ sectors

entry_roomy : (sectors : ℕ) (entry : Entry) (e : Extent) → is_inside sectors entry.slice ≡ true → slice_entry sectors entry ≡ Some e → IsRoomy sectors e
entry_roomy sectors entry e inside is =
    let test = cond_some (bytes_eq entry.slice.kind.0 raid_kind && (nat_le arrays_first entry.slice.first && nat_lt (entry.slice.last + 33) sectors))
    (record { first = entry.slice.first; sectors = entry.slice.last + 1 - entry.slice.first }) e is in
    let parts = and_parts (nat_le arrays_first entry.slice.first) (nat_lt (entry.slice.last + 33) sectors) (and_parts (bytes_eq entry.slice.kind.0 raid_kind) _ test.0).1 in
    let behind = leb-true arrays_first entry.slice.first parts.0 in
    let before = ltb-true (entry.slice.last + 33) sectors parts.1 in
    let ordered = leb-true entry.slice.first entry.slice.last (and_parts (nat_le entry.slice.first entry.slice.last) _ inside).0 in
    subst (IsRoomy sectors) test.1 (record { some = omega (arith, ordered); behind = behind; before = omega (arith, before, ordered) })

roomy_entry : (table : Table) (n : ℕ) (e : Extent) → IsWritable table → entry_extent table.sectors table n ≡ Some e → IsRoomy table.sectors e
roomy_entry table n e valid is = of_entry (find (λ e. e.number == n + 2) table.entries.items) refl is
  where
    of_entry : (o : Option Entry) → find (λ e. e.number == n + 2) table.entries.items ≡ o → option_and_then (slice_entry table.sectors) o ≡ Some e → IsRoomy table.sectors e
    of_entry None has at = absurd (none-some e at)
    of_entry (Some entry) has at =
        entry_roomy table.sectors entry e
        (found_all (λ entry. is_inside table.sectors entry.slice ≡ true) (λ e. e.number == n + 2) table.entries.items entry valid.inside has) at

roomy_extent : (table : Table) (n : ℕ) (e : Extent) → IsWritable table → extent_at table.sectors table n ≡ Some e → IsRoomy table.sectors e
roomy_extent table n e valid is = roomy_entry table n e valid (free_entry (extents_below table.sectors table n) (entry_extent table.sectors table n) e is)

pub roomy_by : (table : Table) (n : ℕ) (e : Extent) → IsWritable table → extent_by table.sectors (Some table) (n + 1) ≡ Some e → IsRoomy table.sectors e
roomy_by table n e valid is = roomy_extent table n e valid (sym (extent_by_is table.sectors table n) ∙ is)

-- ---- one array more

lies_same : (t u : Slices) (k : ℕ) (o : Option Extent) → first_of u k ≡ first_of t k → sectors_of u k ≡ sectors_of t k → Lies t k o → Lies u k o
lies_same t u k o first sectors lies = record {
  sectors = sectors ∙ lies.sectors;
  first = λ some. first ∙ lies.first (subst (λ n. 0 < n) sectors some);
}

cut_more : (x : RackView) (t u : Slices) (table : Table) (place n : ℕ) → IsCutTo x t table place n → n < 16
    → ((p : ℕ) → seat_of u p ≡ seat_of t p)
    → ((k : ℕ) → k ≢ member_slice place n → first_of u k ≡ first_of t k)
    → ((k : ℕ) → k ≢ member_slice place n → sectors_of u k ≡ sectors_of t k)
    → Lies u (member_slice place n) (extent_at table.sectors table n)
    → IsCutTo x u table place (n + 1)
cut_more x t u table place n cut few seats firsts sectors here = record {
  disk = cut.disk;
  seat = seats place ∙ cut.seat;
  size = cut.size;
  log = λ k log some.
      let other : k ≢ member_slice place n = λ same. absurd (omega (arith, log, same, few)) in
      let same = sectors k other in
      let at = firsts k other in
      let end = cut.log k log (subst (λ m. 0 < m) same some) in
      omega (arith, end, same, at);
  lower = λ m low. elim (cases_lt m n) [
    | inl lower ↦
        let other : member_slice place m ≢ member_slice place n = λ same. absurd (omega (arith, lower, same)) in
        lies_same t u (member_slice place m) (extent_by table.sectors (Some table) (m + 1)) (firsts (member_slice place m) other) (sectors (member_slice place m) other) (cut.lower m lower)
    | inr last ↦
        let same : n ≡ m = omega (arith, last, low) in
        subst (λ i. Lies u (member_slice place i) (extent_by table.sectors (Some table) (i + 1))) same
        (subst (Lies u (member_slice place n)) (sym (extent_by_is table.sectors table n)) here)
  ];
  upper = λ m from below. sectors (member_slice place m) (λ same. absurd (omega (arith, from, same))) ∙ cut.upper m (omega (arith, from)) below;
}

none_lies : (t : Slices) (k : ℕ) (o : Option Extent) → o ≡ None → sectors_of t k ≡ 0 → Lies t k o
none_lies t k o is none = subst (Lies t k) (sym is) (record { sectors = none; first = λ some. absurd (omega (arith, some, none)) })

-- the table has no such entry
pub cut_none : (x : RackView) (t : Slices) (table : Table) (place n : ℕ) → IsCutTo x t table place n → n < 16 → entry_extent table.sectors table n ≡ None
    → IsCutTo x t table place (n + 1)
cut_none x t table place n cut few none =
    cut_more x t t table place n cut few (λ p. refl) (λ k other. refl) (λ k other. refl)
    (none_lies t (member_slice place n) (extent_at table.sectors table n) (ap (free_of (extents_below table.sectors table n)) none) (cut.upper n (omega arith) few))

-- the slice of a lower array that is there
lower_there : (x : RackView) (t : Slices) (table : Table) (place many n : ℕ) (f : Extent) → IsWritable table → IsCutTo x t table place many → n < many
    → extent_at table.sectors table n ≡ Some f → (sectors_of t (member_slice place n) ≡ f.sectors) × (first_of t (member_slice place n) ≡ f.first)
lower_there x t table place many n f valid cut low is =
    let lies = subst (Lies t (member_slice place n)) (extent_by_is table.sectors table n ∙ is) (cut.lower n low) in
    let roomy = roomy_extent table n f valid is in
    (lies.sectors, lies.first (subst (λ m. 0 < m) (sym lies.sectors) roomy.some))

-- a slice that shares no sector with others has been added
pub cut_added : (x : RackView) (t u : Slices) (table : Table) (place n at : ℕ) (e : Extent) → IsWritable table → IsCutTo x t table place n → n < 16
    → at ≡ member_slice place n → entry_extent table.sectors table n ≡ Some e → Adds t u at e.first e.sectors → IsFree t at e.first e.sectors
    → IsCutTo x u table place (n + 1)
cut_added x t u table place n at e valid cut few is_at is adds free =
    cut_more x t u table place n cut few adds.seats
    (λ k other. adds.firsts k ∙ ap (λ b. if b then e.first else first_of t k) (not_at k other))
    (λ k other. adds.sectors_are k ∙ ap (λ b. if b then e.sectors else sectors_of t k) (not_at k other))
    (subst (Lies u (member_slice place n)) (sym there) (record {
      sectors = adds.sectors_are (member_slice place n) ∙ ap (λ b. if b then e.sectors else sectors_of t (member_slice place n)) (eq-eqb (member_slice place n) at (sym is_at));
      first = λ some. adds.firsts (member_slice place n) ∙ ap (λ b. if b then e.first else first_of t (member_slice place n)) (eq-eqb (member_slice place n) at (sym is_at));
    }))
  where
    not_at : (k : ℕ) → k ≢ member_slice place n → (k == at) ≡ false
    not_at k other = is_false (k == at) (λ same. other (eqb k at same ∙ is_at))
      where
        eqb : (a b : ℕ) → (a == b) ≡ true → a ≡ b
        eqb a b same = eqb-true a b same

        is_false : (b : Bool) → (b ≡ true → ⊥) → b ≡ false
        is_false true wrong = absurd (wrong refl)
        is_false false wrong = refl

    roomy : IsRoomy table.sectors e
    roomy = roomy_entry table n e valid is

    no_share : shares_any (extents_below table.sectors table n) e ≡ true → ⊥
    no_share shares =
        let found = shares_below table.sectors table e n shares in
        of_extent found.0 found.1 (extent_at table.sectors table found.0) refl found.2
      where
        of_extent : (m : ℕ) → m < n → (o : Option Extent) → extent_at table.sectors table m ≡ o → option_map_or (share e) o false ≡ true → ⊥
        of_extent m low None has shared = both_ways false refl shared
        of_extent m low (Some f) has shared =
            let lower = lower_there x t table place n m f valid cut low has in
            let both = sector_shared e f roomy.some (roomy_extent table m f valid has).some shared in
            free (member_slice place m) (omega (arith, is_at, few, low)) (λ same. absurd (omega (arith, same, is_at, low)))
            (both.0, (both.1.0, both.1.1, subst (λ m. both.1.0 < m) (sym lower.0) both.1.2, both.1.3 ∙ ap (λ m. m + both.1.0) (sym lower.1)))

    there : extent_at table.sectors table n ≡ Some e
    there =
        ap (free_of (extents_below table.sectors table n)) is
        ∙ elim (cases_Bool (shares_any (extents_below table.sectors table n) e)) [
          | inl shares ↦ absurd (no_share shares)
          | inr apart ↦ ap (λ (b : Bool). if b then None else Some e) apart
        ]

-- one that overlaps another one hasn't
pub cut_refused : (x : RackView) (t : Slices) (table : Table) (place n at : ℕ) (e : Extent) → IsWritable table → IsCutTo x t table place n → n < 16
    → at ≡ member_slice place n → entry_extent table.sectors table n ≡ Some e → Overlaps t at e.first e.sectors
    → IsCutTo x t table place (n + 1)
cut_refused x t table place n at e valid cut few is_at is overlaps =
    cut_more x t t table place n cut few (λ p. refl) (λ k other. refl) (λ k other. refl)
    (none_lies t (member_slice place n) (extent_at table.sectors table n)
    (ap (free_of (extents_below table.sectors table n)) is ∙ ap (λ (b : Bool). if b then None else Some e) shares)
    (cut.upper n (omega arith) few))
  where
    roomy : IsRoomy table.sectors e
    roomy = roomy_entry table n e valid is

    d : ℕ
    d = overlaps.0

    s : ℕ
    s = overlaps.3.0

    u : ℕ
    u = overlaps.3.1.0

    inside : s < e.sectors
    inside = overlaps.3.1.1

    within : u < sectors_of t d
    within = overlaps.3.1.2

    same : e.first + s ≡ first_of t d + u
    same = overlaps.3.1.3

    member : 0 < slice_of d → shares_any (extents_below table.sectors table n) e ≡ true
    member some =
        let m : ℕ = slice_of d - 1 in
        let is_slice : d ≡ member_slice place m = omega (arith, some, overlaps.1, is_at, few) in
        elim (cases_lt m n) [
          | inr from ↦
              absurd (omega (
                arith,
                within,
                ap (sectors_of t) is_slice,
                cut.upper m from (omega arith),
              ))
          | inl low ↦ of_extent m low is_slice (extent_at table.sectors table m) refl
        ]
      where
        of_extent : (m : ℕ) → m < n → d ≡ member_slice place m → (o : Option Extent) → extent_at table.sectors table m ≡ o → shares_any (extents_below table.sectors table n) e ≡ true
        of_extent m low is_slice None has =
            let lies = subst (Lies t (member_slice place m)) (extent_by_is table.sectors table m ∙ has) (cut.lower m low) in
            absurd (omega (arith, within, ap (sectors_of t) is_slice, lies.sectors))
        of_extent m low is_slice (Some f) has =
            let lower = lower_there x t table place n m f valid cut low has in
            below_shares table.sectors table e n m low
            (ap (λ o. option_map_or (share e) o false) has
            ∙ shared_sector e f s u inside (subst (λ m. u < m) (ap (sectors_of t) is_slice ∙ lower.0) within)
            (same ∙ ap (λ k. k + u) (ap (first_of t) is_slice ∙ lower.1)))

    shares : shares_any (extents_below table.sectors table n) e ≡ true
    shares =
        elim (cases_eq (slice_of d) 0) [
          | inl log ↦ absurd (let end = cut.log d log (omega (arith, within)) in omega (arith, end, inside, within, same, roomy.behind))
          | inr other ↦ member (omega (arith, other))
        ]

-- a member's slice isn't refused for another reason
pub not_past : (x : RackView) (t : Slices) (table : Table) (place n : ℕ) (e : Extent) → IsWritable table → IsCutTo x t table place n
    → entry_extent table.sectors table n ≡ Some e → IsPast t x place e.first e.sectors → ⊥
not_past x t table place n e valid cut is past =
    let roomy = roomy_entry table n e valid is in
    let same : past.0 ≡ cut.disk = some_same past.0 cut.disk (sym past.1 ∙ cut.seat) in
    let size : x.sectors past.0 ≡ table.sectors = ap x.sectors same ∙ cut.size in
    omega (arith, past.2, size, roomy.before)
  where
    some_same : (m n : ℕ) → Some m ≡ Some n → m ≡ n
    some_same m n same = (cc)

pub not_unseated : (x : RackView) (t : Slices) (table : Table) (place n : ℕ) → IsCutTo x t table place n → seat_of t place ≡ None → ⊥
not_unseated x t table place n cut none = none-some cut.disk (sym none ∙ cut.seat)

-- whatever the slices answered
pub cut_by : (x : RackView) (t u : Slices) (table : Table) (place n at : ℕ) (e : Extent) (r : Result (Unit {0}) SliceFault) → IsWritable table → IsCutTo x t table place n → n < 16
    → at ≡ member_slice place n → entry_extent table.sectors table n ≡ Some e
    → (r ≡ Err Unseated → seat_of t place ≡ None)
    → (r ≡ Err Outside → IsPast t x place e.first e.sectors)
    → (r ≡ Err Overlap → Overlaps t at e.first e.sectors)
    → OnOk r (IsFree t at e.first e.sectors)
    → OnOk r (Adds t u at e.first e.sectors)
    → OnErr r (u ≡ t)
    → IsCutTo x u table place (n + 1)
cut_by x t u table place n at e (Ok done) valid cut few is_at is unseated outside overlap free adds same = cut_added x t u table place n at e valid cut few is_at is adds free
cut_by x t u table place n at e (Err Unseated) valid cut few is_at is unseated outside overlap free adds same = absurd (not_unseated x t table place n cut (unseated refl))
cut_by x t u table place n at e (Err Outside) valid cut few is_at is unseated outside overlap free adds same = absurd (not_past x t table place n e valid cut is (outside refl))
cut_by x t u table place n at e (Err Overlap) valid cut few is_at is unseated outside overlap free adds same =
    subst (λ w. IsCutTo x w table place (n + 1)) (sym same) (cut_refused x t table place n at e valid cut few is_at is (overlap refl))

-- ---- other places

pub keeps_none : (t : Slices) (place : ℕ) → KeepsOthers t t place
keeps_none t place = record { seats = λ p. refl; firsts = λ k other. refl; sectors = λ k other. refl }

pub keeps_then : (t u w : Slices) (place : ℕ) → KeepsOthers t u place → KeepsOthers u w place → KeepsOthers t w place
keeps_then t u w place first second = record {
  seats = λ p. second.seats p ∙ first.seats p;
  firsts = λ k other. second.firsts k other ∙ first.firsts k other;
  sectors = λ k other. second.sectors k other ∙ first.sectors k other;
}

pub keeps_added : (t u : Slices) (place n at first sectors : ℕ) → n < 16 → at ≡ member_slice place n → Adds t u at first sectors → KeepsOthers t u place
keeps_added t u place n at first sectors few is_at adds = record {
  seats = adds.seats;
  firsts = λ k other. adds.firsts k ∙ ap (λ b. if b then first else first_of t k) (not_at k other);
  sectors = λ k other. adds.sectors_are k ∙ ap (λ b. if b then sectors else sectors_of t k) (not_at k other);
}
  where
    is_false : (b : Bool) → (b ≡ true → ⊥) → b ≡ false
    is_false true wrong = absurd (wrong refl)
    is_false false wrong = refl

    not_at : (k : ℕ) → (place_of k ≢ place) ⊎ (slice_of k ≡ 0) → (k == at) ≡ false
    not_at k (inl other) = is_false (k == at) (λ same. other (let is : k ≡ at = eqb-true k at same in omega (arith, is, is_at, few)))
    not_at k (inr log) = is_false (k == at) (λ same. absurd (let is : k ≡ at = eqb-true k at same in omega (arith, is, is_at, few, log)))
