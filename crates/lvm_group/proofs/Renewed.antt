-- Stops in extending a volume leave the old group or the new one, and at its end the new one.
use Rattle.std.proofs.Common.{◌≡◌, ◌^◌, ℕ, suc, ◌+◌, ◌*◌, ◌<◌, ◌≤◌, ◌==◌, true, false, Bool, List, [], ◌∷◌, Option, Some, Result, Ok, Err, refl, sym, ap, subst, ◌∙◌, inl, inr, arith, length}
use Rattle.std.specs.Prelude.{OnOk, cond, is_some}
use Rattle.std.specs.Option.{option_map_or}
use Rattle.std.proofs.lemmas.Bool.{cases_lt, eqb-true}
use Rattle.lvm_text.specs.declared.group.Group.{Group}
use Rattle.lvm_text.specs.Printed.{printed}
use Rattle.rack.specs.declared.Gone.{Gone}
use Rattle.rack.specs.Values.{MayLeave}
use Rattle.rack.specs.Seen.{Image, RackView}
use Rattle.rack.specs.Moments.{Leaves}
use Rattle.rack.specs.Joins.{leaves_weaker}
use Rattle.rack.specs.Sequences.{IsMix, IsPayload}
use Rattle.rack.proofs.Phases.{payload_none}
use Rattle.lvm_group.specs.declared.parts.Part.{Part}
use Rattle.lvm_group.specs.declared.runs.Run.{Run}
use Rattle.lvm_group.specs.Changing.{Changes, IsInTurn}
use Rattle.lvm_group.specs.Extending.{extended, next_group, next_seqno}
use Rattle.lvm_group.specs.Group.{all_apart, has_own_label, is_own_group, linear_in, names, pv_of}
use Rattle.lvm_group.specs.Growth.{fits, grown}
use Rattle.lvm_group.specs.Images.{HasOwnArea, IsNew, IsOldOrNew, IsSettled, over}
use Rattle.lvm_group.specs.Own.{HoldAll, in_row, own_group, own_pv, own_pvs}
use Rattle.lvm_group.specs.Parts.{part_of}
use Rattle.lvm_group.specs.Runs.{Linear}
use Rattle.lvm_group.specs.Writing.{IsReadBack, first_targets, header_target, new_targets, start_at, targets_to}
use Rattle.lvm_group.proofs.Extended.{next_linear, next_writable}
use Rattle.lvm_group.proofs.KeptPart.{IsKept, IsOneOf, area_kept}
use Rattle.lvm_group.proofs.Mixed.{array_sound, means_either, means_new, means_same}
use Rattle.lvm_group.proofs.NewTargets.{new_written}
use Rattle.lvm_group.proofs.OwnText.{named, own_is_own}
use Rattle.lvm_group.proofs.StopsMean.{IsChange, all_late, all_mixed, kept_one, now_is, past_none, writing, written_says}
use Rattle.lvm_group.proofs.Written.{IsWritten, area_there, part_there}

-- ---- the arrays of a text

named_first : (pool : List ℕ) (sectors : ℕ → ℕ) (from array number : ℕ) → from < 16 → names array (own_pv pool (sectors from) from number) ≡ true → from ≡ array
named_first pool sectors from array number small is =
    eqb-true from array (sym (ap (λ (o : Option ℕ). option_map_or (λ n. n == array) o false) (named from small)) ∙ is)

names_below : (pool : List ℕ) (sectors : ℕ → ℕ) (from : ℕ) (numbers : List ℕ) (array : ℕ) → from + length numbers ≤ 16 → is_some (pv_of (own_pvs pool sectors from numbers) array) ≡ true → array < from + length numbers
unfolding own_pvs
names_below pool sectors from [] array few there = cc
names_below pool sectors from (number ∷ others) array few there =
    go (names array (own_pv pool (sectors from) from number)) refl there (names_below pool sectors (from + 1) others array (omega arith)) where
      go : (test : Bool) → names array (own_pv pool (sectors from) from number) ≡ test
          → is_some (cond test (Some (own_pv pool (sectors from) from number)) (pv_of (own_pvs pool sectors (from + 1) others) array)) ≡ true
          → (is_some (pv_of (own_pvs pool sectors (from + 1) others) array) ≡ true → array < from + 1 + length others) → array < from + suc (length others)
      go true is there later = let same = named_first pool sectors from array number (omega arith) is in omega arith
      go false is there later = let below = later there in omega arith

names_first : (pool : List ℕ) (sectors : ℕ → ℕ) (numbers : List ℕ) (array : ℕ) → length numbers ≤ 16 → is_some (pv_of (own_pvs pool sectors 0 numbers) array) ≡ true → array < length numbers
names_first pool sectors numbers array few there = let below = names_below pool sectors 0 numbers array (omega arith) there in omega arith

-- ---- an extension

pub leaves_both : {a b : RackView} (P Q : Image → Type 0) → Leaves a b P → Leaves a b Q → Leaves a b (λ c. P c × Q c)
leaves_both P Q one two = record {
  later = one.later;
  kept = one.kept;
  past = one.past;
  new = λ k c after until stops. (one.new k c after until stops, two.new k c after until stops);
}

-- a volume that is extended
pub record IsGrowing (pool text : List ℕ) (l : Linear) (seqno : ℕ) (numbers : List ℕ) (sectors : ℕ → ℕ) : Type 0 where
  pub back : IsReadBack pool text (length numbers) sectors (next_group pool l sectors seqno numbers)
  pub some : 0 < length numbers
  pub few : length numbers ≤ 16
  pub holds : HoldAll l.extent sectors 0 numbers
  pub numbered : seqno < 2 ^ 63
  pub row : in_row 0 l.runs ≡ true
  pub apart : all_apart l.runs ≡ true
  pub fitting : fits l.runs numbers ≡ true

next_own : (pool text : List ℕ) (l : Linear) (seqno : ℕ) (numbers : List ℕ) (sectors : ℕ → ℕ) (joined : ℕ) → IsGrowing pool text l seqno numbers sectors → length numbers ≤ joined
    → is_own_group pool l.extent sectors joined (next_group pool l sectors seqno numbers) ≡ true
next_own pool text l seqno numbers sectors joined is joins =
    let room = is.numbered in
    own_is_own pool l.extent joined sectors (next_seqno seqno) numbers (grown l.runs numbers)
    (next_writable l.extent joined sectors (next_seqno seqno) numbers l.runs is.few joins is.holds (omega arith) is.row is.apart is.fitting)

next_is : (pool text : List ℕ) (l : Linear) (seqno : ℕ) (numbers : List ℕ) (sectors : ℕ → ℕ) (joined : ℕ) → IsGrowing pool text l seqno numbers sectors
    → over joined (extended l numbers) ≡ linear_in joined (next_group pool l sectors seqno numbers)
next_is pool text l seqno numbers sectors joined is = sym (next_linear pool l.extent joined sectors (next_seqno seqno) numbers l.runs is.few is.fitting)

change : {a b : RackView} {X : Type 0} (pool text : List ℕ) (l : Linear) (seqno : ℕ) (numbers : List ℕ) (joined : ℕ) (before : Image) (result : Result X Gone) → IsGrowing pool text l seqno numbers a.sectors
    → (changes : Changes pool text (length numbers) a b result) → length numbers ≤ joined → IsSettled pool joined l seqno a b before → IsChange pool text (length numbers) joined changes.starts (next_group pool l a.sectors seqno numbers) a b before
change {a} {b} pool text l seqno numbers joined before result is changes joins settled = record {
  back = is.back;
  inside = changes.inside;
  behind = changes.behind;
  within = joins;
  told = settled.told;
  only = settled.only;
  areas = settled.areas;
  sound = λ array below. (array_sound pool l.extent joined a.sectors before settled.means.group array settled.means.found settled.means.sound below).0;
}

-- each stop leaves the one or the other
pub old_or_new : {a b : RackView} {X : Type 0} (pool text : List ℕ) (l : Linear) (seqno : ℕ) (numbers : List ℕ) (result : Result X Gone) → IsGrowing pool text l seqno numbers a.sectors
    → Changes pool text (length numbers) a b result → a.traced → Leaves a b (IsOldOrNew pool l seqno numbers a b)
old_or_new {a} {b} pool text l seqno numbers result is changes traced =
    let n : ℕ = length numbers in
    let firsts = targets_to (first_targets pool a.sectors changes.starts text) n in
    let headers = targets_to (header_target changes.starts text) n in
    let all : Image → Type 0 = IsMix a b (IsPayload (new_targets pool a.sectors changes.starts text n)) in
    let turn : Image → Type 0 = IsInTurn a b firsts headers n in
    let new : Group = next_group pool l a.sectors seqno numbers in
    leaves_weaker (λ c. all c × turn c) (IsOldOrNew pool l seqno numbers a b)
    (λ c left joined before joins settled.
    let within = change pool text l seqno numbers joined before result is changes joins settled in
    elim left.1 [
      | inl first ↦
          inl (means_same pool l.extent joined a.sectors (over joined l) seqno before c settled.means
          (all_mixed pool text n joined changes.starts new settled.means.group within first left.0))
      | inr late ↦
          let each = all_late pool text n joined changes.starts new within late left.0 in
          let room = is.numbered in
          means_either pool l.extent joined a.sectors (over joined l) seqno before c new (over joined (extended l numbers)) settled.means (omega arith)
          (next_own pool text l seqno numbers a.sectors joined is joins) (next_is pool text l seqno numbers a.sectors joined is) each.0
          (λ array below named. each.1 array (names_first pool a.sectors numbers array is.few named))
    ])
    (leaves_both all turn (changes.puts.only.stops traced) (changes.stops traced))

-- ---- at its end

-- the contents as they read at the end
abbrev pub at_end : RackView → Image
at_end b = λ d s. (b.held d s).current

pub end_only : {a b : RackView} (pool text : List ℕ) (n joined : ℕ) (before : Image) (new : Group) (changes : Changes pool text n a b {X = Unit {0}} (Ok tt)) → IsChange pool text n joined changes.starts new a b before
    → (d s : ℕ) (v : List ℕ) → n ≤ d → d < joined → s < 2048 → MayLeave (b.held d s) v → v ≡ before d s
end_only {a} {b} pool text n joined before new changes is d s v past below less may =
    let live = is.told d s below less in
    let kept = changes.puts.only.others d s live (payload_none (new_targets pool a.sectors changes.starts text n) d s (past_none pool a.sectors changes.starts text n d s past)) in
    is.only d s v below less (kept.within v may)

end_past : {a b : RackView} (pool text : List ℕ) (n joined : ℕ) (before : Image) (new : Group) (changes : Changes pool text n a b {X = Unit {0}} (Ok tt)) → IsChange pool text n joined changes.starts new a b before
    → (d : ℕ) → n ≤ d → d < joined → IsKept pool d (a.sectors d) text (before d) (at_end b d)
end_past {a} {b} pool text n joined before new changes is d past below =
    let same = λ (s : ℕ) (less : s < 2048). end_only pool text n joined before new changes is d s (b.held d s).current past below less (inl refl) in
    record { label = inl (same 1 (omega arith)); header = inl (same 8 (omega arith)); others = λ s less label header apart. same s less }

end_written : {a b : RackView} (pool text : List ℕ) (n joined : ℕ) (before : Image) (new : Group) (changes : Changes pool text n a b {X = Unit {0}} (Ok tt)) → IsChange pool text n joined changes.starts new a b before
    → (d : ℕ) → d < n → IsWritten pool d (a.sectors d) (start_at changes.starts d).sector text (at_end b d)
end_written {a} {b} pool text n joined before new changes is d below =
    let within = is.within in
    new_written a b pool changes.starts text n (at_end b) is.inside is.back.short changes.puts changes.single is.back.label
    (λ array less. let bounds = is.inside array in let some = bounds.0 in let most = bounds.1 in is.back.location (512 * (start_at changes.starts array).sector) (omega arith) (omega arith))
    (λ array s less inside. is.told array s (omega arith) inside) (λ array s less inside. inl refl)
    (λ array less. rw (now_is pool text n joined changes.starts new is array 0 (omega arith) (omega arith)) ((is.areas array (omega arith)).free)) d below

pub end_one : {a b : RackView} (pool text : List ℕ) (n joined : ℕ) (before : Image) (new : Group) (changes : Changes pool text n a b {X = Unit {0}} (Ok tt)) → IsChange pool text n joined changes.starts new a b before
    → (d : ℕ) → d < n
    → IsOneOf pool d new (part_of (before d) (a.sectors d)) (part_of (at_end b d) (a.sectors d)) × (has_own_label pool d (part_of (at_end b d) (a.sectors d)) ≡ true)
    × ((part_of (at_end b d) (a.sectors d)).group ≡ Some new)
end_one {a} {b} pool text n joined before new changes is d below =
    let there = part_there pool d (a.sectors d) (start_at changes.starts d).sector text (at_end b d) new is.back.labels is.back.headers (is.inside d).1 (is.inside d).0 is.back.short is.back.read
    (end_written pool text n joined before new changes is d below) in
    let says = written_says pool d (a.sectors d) (start_at changes.starts d).sector text new (part_of (before d) (a.sectors d)) (part_of (at_end b d) (a.sectors d)) there in
    (says.0, says.1, ap (λ (part : Part). part.group) there)

pub end_area : {a b : RackView} (pool text : List ℕ) (n joined : ℕ) (before : Image) (new : Group) (changes : Changes pool text n a b {X = Unit {0}} (Ok tt)) → IsChange pool text n joined changes.starts new a b before
    → (d : ℕ) → d < joined → HasOwnArea (at_end b d)
end_area {a} {b} pool text n joined before new changes is d below = elim (cases_lt d n) [
  | inl less ↦ area_there pool d (a.sectors d) (start_at changes.starts d).sector text (at_end b d) is.back.labels (end_written pool text n joined before new changes is d less)
  | inr past ↦
      area_kept pool d (a.sectors d) text (before d) (at_end b d)
      (writing (at_end b) pool text n joined changes.starts new is d below (end_past pool text n joined before new changes is d past below))
]

-- the new group is there, and the volume can be extended again
new_at_end : {a b : RackView} (pool text : List ℕ) (l : Linear) (seqno : ℕ) (numbers : List ℕ) → IsGrowing pool text l seqno numbers a.sectors
    → Changes pool text (length numbers) a b {X = Unit {0}} (Ok tt) → IsNew pool l seqno numbers a b
new_at_end {a} {b} pool text l seqno numbers is changes = λ joined before joins settled.
    let n : ℕ = length numbers in
    let new : Group = next_group pool l a.sectors seqno numbers in
    let within = change pool text l seqno numbers joined before (Ok tt) is changes joins settled in
    let some = is.some in
    let room = is.numbered in
    let one = λ (d : ℕ) (below : d < n). end_one pool text n joined before new changes within d below in (
      at_end b,
      λ d s v below less may. elim (cases_lt d n) [
        | inl first ↦ changes.single d s v first (settled.told d s below less) may
        | inr past ↦
            end_only pool text n joined before new changes within d s v past below less may
            ∙ sym (end_only pool text n joined before new changes within d s (b.held d s).current past below less (inl refl))
      ],
      record {
        areas = end_area pool text n joined before new changes within;
        means = means_new pool l.extent joined a.sectors (over joined l) seqno before (at_end b) new (over joined (extended l numbers)) settled.means (omega arith) (omega arith)
            (next_own pool text l seqno numbers a.sectors joined is joins) (next_is pool text l seqno numbers a.sectors joined is)
            (λ d inside. elim (cases_lt d n) [
              | inl below ↦ (one d below).0
              | inr past ↦ kept_one (at_end b) pool text n joined changes.starts new new within d inside (end_past pool text n joined before new changes within d past inside)
            ])
            ((one 0 some).2) (λ array below named. (one array (names_first pool a.sectors numbers array is.few named)).1);
      },
    )

pub new_after : {a b : RackView} (pool text : List ℕ) (l : Linear) (seqno : ℕ) (numbers : List ℕ) (result : Result (Unit {0}) Gone) → IsGrowing pool text l seqno numbers a.sectors
    → Changes pool text (length numbers) a b result → OnOk result (IsNew pool l seqno numbers a b)
new_after pool text l seqno numbers (Ok done) is changes = new_at_end pool text l seqno numbers is changes
new_after pool text l seqno numbers (Err gone) is changes = tt

-- ---- the text that was written

-- what is asked of a volume to be extended
pub record IsExtensible (l : Linear) (seqno : ℕ) (numbers : List ℕ) (sectors : ℕ → ℕ) : Type 0 where
  pub some : 0 < length numbers
  pub few : length numbers ≤ 16
  pub holds : HoldAll l.extent sectors 0 numbers
  pub numbered : seqno < 2 ^ 63
  pub row : in_row 0 l.runs ≡ true
  pub apart : all_apart l.runs ≡ true
  pub fitting : fits l.runs numbers ≡ true

-- the next group's text was written
pub record IsWrittenNext (pool : List ℕ) (l : Linear) (seqno : ℕ) (numbers : List ℕ) (a b : RackView) {X : Type 0} (result : Result X Gone) (group : Group) : Type 0 where
  pub is : group ≡ next_group pool l a.sectors seqno numbers
  pub back : IsReadBack pool (printed group) (length numbers) a.sectors group
  pub changes : Changes pool (printed group) (length numbers) a b result

growing : {a b : RackView} {X : Type 0} (pool : List ℕ) (l : Linear) (seqno : ℕ) (numbers : List ℕ) (result : Result X Gone) (group : Group) → IsExtensible l seqno numbers a.sectors
    → IsWrittenNext pool l seqno numbers a b result group → IsGrowing pool (printed (next_group pool l a.sectors seqno numbers)) l seqno numbers a.sectors
growing {a} pool l seqno numbers result group is next = record {
  back = subst (λ (group : Group). IsReadBack pool (printed group) (length numbers) a.sectors group) next.is next.back;
  some = is.some;
  few = is.few;
  holds = is.holds;
  numbered = is.numbered;
  row = is.row;
  apart = is.apart;
  fitting = is.fitting;
}

changing : {a b : RackView} {X : Type 0} (pool : List ℕ) (l : Linear) (seqno : ℕ) (numbers : List ℕ) (result : Result X Gone) (group : Group)
    → IsWrittenNext pool l seqno numbers a b result group → Changes pool (printed (next_group pool l a.sectors seqno numbers)) (length numbers) a b result
changing {a} {b} pool l seqno numbers result group next = subst (λ (group : Group). Changes pool (printed group) (length numbers) a b result) next.is next.changes

pub extended_images : {a b : RackView} {X : Type 0} (pool : List ℕ) (l : Linear) (seqno : ℕ) (numbers : List ℕ) (result : Result X Gone) (group : Group) → IsExtensible l seqno numbers a.sectors
    → IsWrittenNext pool l seqno numbers a b result group → a.traced → Leaves a b (IsOldOrNew pool l seqno numbers a b)
extended_images {a} {b} pool l seqno numbers result group is next =
    old_or_new pool (printed (next_group pool l a.sectors seqno numbers)) l seqno numbers result (growing pool l seqno numbers result group is next) (changing pool l seqno numbers result group next)

pub extended_end : {a b : RackView} (pool : List ℕ) (l : Linear) (seqno : ℕ) (numbers : List ℕ) (result : Result (Unit {0}) Gone) (group : Group) → IsExtensible l seqno numbers a.sectors
    → IsWrittenNext pool l seqno numbers a b result group → OnOk result (IsNew pool l seqno numbers a b)
extended_end {a} {b} pool l seqno numbers result group is next =
    new_after pool (printed (next_group pool l a.sectors seqno numbers)) l seqno numbers result (growing pool l seqno numbers result group is next) (changing pool l seqno numbers result group next)

pub next_is_group : (pool : List ℕ) (l : Linear) (sectors : ℕ → ℕ) (seqno next : ℕ) (numbers : List ℕ) (runs : List Run) → next ≡ next_seqno seqno → runs ≡ grown l.runs numbers
    → own_group pool l.extent sectors next numbers runs ≡ next_group pool l sectors seqno numbers
next_is_group pool l sectors seqno next numbers runs number runs_are = λ j. own_group pool l.extent sectors (number j) numbers (runs_are j)
