-- Members' slices of drives, one place after another.
use Rattle.std.proofs.Common.{◌≡◌, ◌≢◌, ◌⊎◌, ℕ, suc, ◌+◌, ◌-◌, ◌<◌, ◌≤◌, ◌==◌, ◌||◌, Bool, true, false, if◌then◌else◌, List, [], ◌∷◌, ◌++◌, length, Option, Some, None, unwrap_or, refl, sym, ap, subst, ◌∙◌, inl, inr, arith, eq-eqb, eqb-true, option_map, add-one}
use Rattle.std.proofs.lemmas.List.{length-append}
use Rattle.std.proofs.lemmas.Bool.{cases_eq, both_ways}
use Rattle.rack.specs.Seen.{RackView, Rose, SameRack}
use Rattle.rack.specs.Joins.{rose_later, rose_early}
use Rattle.rack.specs.Sequences.{OnlyReads}
use Rattle.gpt_table.specs.declared.Table.{Table}
use Rattle.gpt_table.specs.declared.Seen.{Seen as SeenTable}
use Rattle.gpt_table.specs.Format.{IsWritable}
use Rattle.gpt_table.specs.Changes.{the_table}
use Rattle.gpt_table.specs.Disk.{Contents, AgreesUnspent, now_on, first_table}
use Rattle.slice_rack.specs.Slices.{Slices, seat_of, first_of, sectors_of, disk_of}
use Rattle.array_image.specs.Places.{place_of, slice_of, member_slice}
use Rattle.pool_image.specs.Replay.{Extent, extent_by}
use Rattle.log_laws.specs.View.{names}
use Rattle.pool_scan.proofs.Sights.{agrees_now, agrees_then}
use Rattle.pool_rest.specs.Members.{Lies, AreLogsCut, IsCutTo, KeepsOthers, IsInArrays, IsCut, IsCutBelow}
use Rattle.pool_rest.proofs.Cut.{roomy_by}

some_same : (m n : ℕ) → Some m ≡ Some n → m ≡ n
some_same m n same = (cc)

-- ---- one drive

-- by a table that was read
pub cut_read : (x w z : RackView) (t : Slices) (place disk : ℕ) (table : Table) → IsWritable table → table.sectors ≡ x.sectors disk → seat_of t place ≡ Some disk
    → (x.told disk → (contents : Contents) → AgreesUnspent x disk contents → the_table (x.sectors disk) contents ≡ Some table)
    → place < 16 → IsCutTo w t table place 16 → IsCut x z t place true
cut_read x w z t place disk table valid size seat says few cut = record {
  lies = λ n other low read at told contents agrees.
      let same : disk ≡ other = some_same disk other (sym seat ∙ at) in
      lies n other low same told contents agrees;
  within = λ n low some. within n low some (extent_by table.sectors (Some table) (n + 1)) refl;
  refused = λ read. absurd (both_ways true read refl);
}
  where
    lies : (n other : ℕ) → n < 16 → disk ≡ other → x.told other → (contents : Contents) → AgreesUnspent x other contents
        → Lies t (member_slice place n) (extent_by (x.sectors other) (the_table (x.sectors other) contents) (n + 1))
    lies n other low same told contents agrees =
        let table_is : the_table (x.sectors other) contents ≡ Some table =
        ap (λ d. the_table (x.sectors d) contents) (sym same) ∙ says (subst x.told (sym same) told) contents (subst (λ d. AgreesUnspent x d contents) (sym same) agrees) in
        let sectors : table.sectors ≡ x.sectors other = size ∙ ap x.sectors same in
        subst (λ o. Lies t (member_slice place n) (extent_by (x.sectors other) o (n + 1))) (sym table_is)
        (subst (λ m. Lies t (member_slice place n) (extent_by m (Some table) (n + 1))) sectors (cut.lower n low))

    within : (n : ℕ) → n < 16 → 0 < sectors_of t (member_slice place n) → (o : Option Extent) → extent_by table.sectors (Some table) (n + 1) ≡ o
        → IsInArrays x t (member_slice place n)
    within n low some None is =
        let lies : Lies t (member_slice place n) None = subst (Lies t (member_slice place n)) is (cut.lower n low) in
        absurd (omega (arith, some, lies.sectors))
    within n low some (Some e) is =
        let lies : Lies t (member_slice place n) (Some e) = subst (Lies t (member_slice place n)) is (cut.lower n low) in
        let roomy = roomy_by table n e valid is in
        let first : first_of t (member_slice place n) ≡ e.first = lies.first some in
        let sectors : sectors_of t (member_slice place n) ≡ e.sectors = lies.sectors in
        let of_place : place_of (member_slice place n) ≡ place = omega (arith, low) in
        let on : disk_of t (member_slice place n) ≡ disk = ap (λ p. unwrap_or (seat_of t p) 0) of_place ∙ ap (λ o. unwrap_or o 0) seat in
        let room : x.sectors (disk_of t (member_slice place n)) ≡ table.sectors = ap x.sectors on ∙ sym size in
        record {
          behind = omega (arith, first, roomy.behind);
          before = omega (arith, first, sectors, room, roomy.before);
        }

-- a drive without a table, or a place without a drive
pub cut_nothing : (x z : RackView) (t : Slices) (place : ℕ) → ((n : ℕ) → n < 16 → sectors_of t (member_slice place n) ≡ 0)
    → ((disk : ℕ) → seat_of t place ≡ Some disk → x.told disk → (contents : Contents) → AgreesUnspent x disk contents → the_table (x.sectors disk) contents ≡ None)
    → IsCut x z t place true
unfolding extent_by
cut_nothing x z t place none says = record {
  lies = λ n disk low read at told contents agrees.
      subst (λ o. Lies t (member_slice place n) (extent_by (x.sectors disk) o (n + 1))) (sym (says disk at told contents agrees))
      (subst (λ m. Lies t (member_slice place n) (extent_by (x.sectors disk) None m)) (sym (add-one n)) (nothing (x.sectors disk) n (none n low)));
  within = λ n low some. absurd (omega (arith, some, none n low));
  refused = λ read. absurd (both_ways true read refl);
}
  where
    nothing : (sectors n : ℕ) → sectors_of t (member_slice place n) ≡ 0 → Lies t (member_slice place n) (extent_by sectors None (suc n))
    nothing sectors n empty = record { sectors = empty; first = λ some. absurd (omega (arith, some, empty)) }

pub cut_untabled : (x z : RackView) (t : Slices) (place disk : ℕ) → ((n : ℕ) → n < 16 → sectors_of t (member_slice place n) ≡ 0) → seat_of t place ≡ Some disk
    → (x.told disk → (contents : Contents) → AgreesUnspent x disk contents → the_table (x.sectors disk) contents ≡ None)
    → IsCut x z t place true
cut_untabled x z t place disk none seat says =
    cut_nothing x z t place none
    (λ other at. subst (λ d. x.told d → (contents : Contents) → AgreesUnspent x d contents → the_table (x.sectors d) contents ≡ None) (some_same disk other (sym seat ∙ at)) says)

-- the table of the first valid copy
pub table_read : (sectors : ℕ) (now contents : Contents) (found : SeenTable) → Some found ≡ first_table sectors now → first_table sectors contents ≡ first_table sectors now
    → the_table sectors contents ≡ Some found.table
table_read sectors now contents found is same = ap (λ (o : Option SeenTable). option_map (λ f. f.table) o) (same ∙ sym is)

pub no_table : (sectors : ℕ) (now contents : Contents) → first_table sectors now ≡ None → first_table sectors contents ≡ first_table sectors now → the_table sectors contents ≡ None
no_table sectors now contents is same = ap (λ (o : Option SeenTable). option_map (λ f. f.table) o) (same ∙ is)

-- ---- one place after another

pub cut_start : (x : RackView) (t : Slices) → ((k : ℕ) → 0 < slice_of k → sectors_of t k ≡ 0) → IsCutBelow x x 0 t t []
cut_start x t none = record {
  seats = λ p. refl;
  firsts = λ k log. refl;
  sectors = λ k log. refl;
  lies = λ place n disk low. absurd (omega (arith, low));
  within = λ k member some. absurd (omega (arith, some, none k member));
  upper = λ k from member. none k member;
  refused = λ p named. absurd (both_ways false refl named);
  few = omega arith;
}

-- the places whose table couldn't be read, with one more
abbrev pub with_unread : Bool → ℕ → List ℕ → List ℕ
with_unread read many unread = if read then unread else unread ++ many ∷ []

pub names_more : (on : List ℕ) (m p : ℕ) → names (on ++ m ∷ []) p ≡ (names on p || (m == p))
names_more [] m p = or_false (m == p)
  where
    or_false : (b : Bool) → (b || false) ≡ b
    or_false true = refl
    or_false false = refl
names_more (q ∷ on) m p = ap (λ b. (q == p) || b) (names_more on m p) ∙ or_assoc (q == p) (names on p) (m == p)
  where
    or_assoc : (a b c : Bool) → (a || (b || c)) ≡ ((a || b) || c)
    or_assoc true b c = refl
    or_assoc false b c = refl

pub cut_place : (x y z : RackView) (t u w : Slices) (many : ℕ) (read : Bool) (unread : List ℕ) → many < 16 → OnlyReads x y → SameRack y z
    → ((p disk : ℕ) → seat_of u p ≡ Some disk → disk < x.disks)
    → IsCutBelow x y many t u unread → KeepsOthers u w many → IsCut y z w many read
    → IsCutBelow x z (many + 1) t w (with_unread read many unread)
cut_place x y z t u w many read unread few reads stays inside below others cut = record {
  seats = λ p. others.seats p ∙ below.seats p;
  firsts = λ k log. others.firsts k (inr log) ∙ below.firsts k log;
  sectors = λ k log. others.sectors k (inr log) ∙ below.sectors k log;
  lies = λ place n disk low array not_unread seat told. elim (cases_eq place many) [
    | inl last ↦
        subst (λ p. Lies w (member_slice p n) (extent_by (x.sectors disk) (the_table (x.sectors disk) (now_on x disk)) (n + 1))) (sym last)
        (here n disk array (ap (names (with_unread read many unread)) (sym last) ∙ not_unread) (ap (seat_of w) (sym last) ∙ seat) told)
    | inr other ↦
        let away : place_of (member_slice place n) ≢ many = λ same. other (omega (arith, same, array)) in
        there (member_slice place n) away
        (below.lies place n disk (omega (arith, low, other)) array (earlier place read refl not_unread) (sym (others.seats place) ∙ seat) told)
  ];
  within = λ k member some. elim (cases_eq (place_of k) many) [
    | inl last ↦
        let is : k ≡ member_slice many (slice_of k - 1) = omega (arith, last, member) in
        subst (IsInArrays x w) (sym is)
        (as_before (member_slice many (slice_of k - 1)) (cut.within (slice_of k - 1) (omega arith) (subst (λ m. 0 < sectors_of w m) is some)))
    | inr other ↦
        let was = below.within k member (subst (λ m. 0 < m) (others.sectors k (inl other)) some) in
        let first = others.firsts k (inl other) in
        let sectors = others.sectors k (inl other) in
        let on : disk_of w k ≡ disk_of u k = ap (λ o. unwrap_or o 0) (others.seats (place_of k)) in
        let room : x.sectors (disk_of w k) ≡ x.sectors (disk_of u k) = ap x.sectors on in
        record { behind = omega (arith, first, was.behind); before = omega (arith, first, sectors, room, was.before) }
  ];
  upper = λ k from member. others.sectors k (inl (λ same. absurd (omega (arith, same, from)))) ∙ below.upper k (omega (arith, from)) member;
  refused = λ p named. refused p read refl named;
  few = count read;
}
  where
    count : (b : Bool) → length (with_unread b many unread) ≤ many + 1
    count true = let few = below.few in omega (arith, few)
    count false = let few = below.few in omega (arith, few, length-append unread (many ∷ []))

    or_parts : (a b : Bool) → (a || b) ≡ false → (a ≡ false) × (b ≡ false)
    or_parts true b is = cc
    or_parts false b is = (refl, is)

    earlier : (p : ℕ) (b : Bool) → read ≡ b → names (with_unread read many unread) p ≡ false → names unread p ≡ false
    earlier p true is none = subst (λ (c : Bool). names (with_unread c many unread) p ≡ false) is none
    earlier p false is none = (or_parts (names unread p) (many == p) (sym (names_more unread many p) ∙ subst (λ (c : Bool). names (with_unread c many unread) p ≡ false) is none)).0

    here : (n disk : ℕ) → n < 16 → names (with_unread read many unread) many ≡ false → seat_of w many ≡ Some disk → x.told disk
        → Lies w (member_slice many n) (extent_by (x.sectors disk) (the_table (x.sectors disk) (now_on x disk)) (n + 1))
    here n disk low none seat told =
        let within : disk < x.disks = inside many disk (sym (others.seats many) ∙ seat) in
        subst (λ m. Lies w (member_slice many n) (extent_by m (the_table m (now_on x disk)) (n + 1))) (reads.stays.sectors disk)
        (cut.lies n disk low (was_read read refl none) seat (reads.stays.told disk told) (now_on x disk)
        (agrees_then {x = x} {y = y} disk (now_on x disk) reads within told (agrees_now x disk)))
      where
        was_read : (b : Bool) → read ≡ b → names (with_unread read many unread) many ≡ false → read ≡ true
        was_read true is none = is
        was_read false is none =
            absurd (both_ways (many == many)
            (or_parts (names unread many) (many == many) (sym (names_more unread many many) ∙ subst (λ (c : Bool). names (with_unread c many unread) many ≡ false) is none)).1
            (eq-eqb many many refl))

    there : {o : Option Extent} (k : ℕ) → place_of k ≢ many → Lies u k o → Lies w k o
    there {o} k away lies = record {
      sectors = others.sectors k (inl away) ∙ lies.sectors;
      first = λ some. others.firsts k (inl away) ∙ lies.first (subst (λ m. 0 < m) (others.sectors k (inl away)) some);
    }

    as_before : (k : ℕ) → IsInArrays y w k → IsInArrays x w k
    as_before k is = let room = reads.stays.sectors (disk_of w k) in record { behind = is.behind; before = let before = is.before in omega (arith, before, room) }

    or_true : (a b : Bool) → (a || b) ≡ true → (a ≡ true) ⊎ (b ≡ true)
    or_true true b is = inl refl
    or_true false b is = inr is

    kept : (p : ℕ) → names unread p ≡ true → (p < many + 1) × (disk : ℕ) × (seat_of w p ≡ Some disk) × Rose (x.faults disk) (z.faults disk)
    kept p named =
        let was = below.refused p named in
        (omega (arith, was.0), was.1, others.seats p ∙ was.2, rose_early x y z was.1 stays was.3)

    refused : (p : ℕ) (b : Bool) → read ≡ b → names (with_unread read many unread) p ≡ true
        → (p < many + 1) × (disk : ℕ) × (seat_of w p ≡ Some disk) × Rose (x.faults disk) (z.faults disk)
    refused p true is named = kept p (subst (λ (c : Bool). names (with_unread c many unread) p ≡ true) is named)
    refused p false is named =
        elim (or_true (names unread p) (many == p) (sym (names_more unread many p) ∙ subst (λ (c : Bool). names (with_unread c many unread) p ≡ true) is named)) [
          | inl earlier ↦ kept p earlier
          | inr last ↦
              let same : many ≡ p = eqb-true many p last in
              let now = cut.refused is in
              (omega (arith, same), now.0, ap (seat_of w) (sym same) ∙ now.1, rose_later x y z now.0 reads.stays now.2)
        ]

pub logs_kept : (x y : RackView) (many : ℕ) (t u : Slices) (unread : List ℕ) → IsCutBelow x y many t u unread → AreLogsCut t → AreLogsCut u
logs_kept x y many t u unread below logs k log some =
    let sectors = below.sectors k log in
    let first = below.firsts k log in
    let end = logs k log (subst (λ n. 0 < n) sectors some) in
    omega (arith, sectors, first, end)
