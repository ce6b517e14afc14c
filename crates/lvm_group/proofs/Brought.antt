-- Bringing the texts up to the newest one leaves the volume what it was.
use Rattle.std.proofs.Common.{◌≡◌, ◌⊎◌, ℕ, ◌<◌, ◌≤◌, ◌==◌, true, false, Bool, List, [], Option, Some, None, Result, Ok, Err, refl, sym, ap, subst, ◌∙◌, inl, inr, arith, length}
use Rattle.std.specs.Prelude.{if◌then◌else◌, slice_get}
use Rattle.std.specs.List.{list_all}
use Rattle.std.specs.Option.{option_map_or}
use Rattle.std.proofs.lemmas.Bool.{cases_lt, eq-eqb, lt-ltb}
use Rattle.lvm_label.specs.Label.{HaveLabelsDecoded}
use Rattle.lvm_label.specs.Header.{HaveHeadersDecoded}
use Rattle.lvm_text.specs.declared.group.Group.{Group}
use Rattle.rack.specs.declared.Gone.{Gone}
use Rattle.rack.specs.Seen.{Image, RackView, IsPick, SameRack}
use Rattle.rack.specs.Moments.{Leaves}
use Rattle.rack.specs.Joins.{leaves_then, leaves_weaker, live_first, live_second, rose_early, rose_later, stays_then}
use Rattle.rack.specs.Sequences.{IsMix, IsPayload, OnlyReads, WritesOnly}
use Rattle.rack.proofs.Phases.{payload_none}
use Rattle.rack.proofs.Writing.{only_quiet, only_then, only_weaker}
use Rattle.lvm_group.specs.declared.parts.Part.{Part}
use Rattle.lvm_group.specs.declared.starts.TextStart.{TextStart}
use Rattle.lvm_group.specs.Brought.{BringsUp, HaveAreas, IsBefore, IsEven, Rewrites}
use Rattle.lvm_group.specs.Changing.{Changes, IsInTurn}
use Rattle.lvm_group.specs.Found.{IsPart}
use Rattle.lvm_group.specs.Group.{group_in, parts_in}
use Rattle.lvm_group.specs.Images.{HoldOnly, IsSettled, IsVolume, MeansVolume, over}
use Rattle.lvm_group.specs.Opening.{AreServed, Finds, Opens, group_by, says, within_sectors}
use Rattle.lvm_group.specs.Parts.{Array, part_of}
use Rattle.lvm_group.specs.Reading.{AreRead}
use Rattle.lvm_group.specs.Runs.{Linear}
use Rattle.lvm_group.specs.Writing.{AreStarts, IsReadBack, first_targets, header_target, new_targets, start_at, targets_to}
use Rattle.lvm_group.proofs.Answered.{part_at_place, parts_are}
use Rattle.lvm_group.proofs.KeptPart.{IsWriting, area_kept, kept_says}
use Rattle.lvm_group.proofs.Mixed.{AreOneOf, array_sound, means_same, one_of_groups}
use Rattle.lvm_group.proofs.NewTargets.{first_at, head_nowhere, new_at, place_bounds, text_nowhere}
use Rattle.lvm_group.proofs.Passed.{all_at}
use Rattle.lvm_group.proofs.Renewed.{at_end, end_area, end_one, leaves_both}
use Rattle.lvm_group.proofs.StopsMean.{IsChange, all_late, all_mixed, areas_late, areas_mixed, past_none}

-- ---- only metadata is written

payload_before : (pool : List ℕ) (sectors : ℕ → ℕ) (starts : List TextStart) (text : List ℕ) (n d s : ℕ) (v : List ℕ) → AreStarts starts → length text ≤ 262144
    → IsPayload (new_targets pool sectors starts text n) d s v → IsBefore n d s v
payload_before pool sectors starts text n d s v are short is = elim (cases_lt d n) [
  | inr past ↦ absurd (payload_none (new_targets pool sectors starts text n) d s (past_none pool sectors starts text n d s past) v is)
  | inl below ↦ elim (cases_lt s 2048) [
    | inl less ↦ (below, less)
    | inr over ↦
        let start : TextStart = start_at starts d in
        absurd (payload_none (new_targets pool sectors starts text n) d s
        (new_at pool sectors starts text n d s None below (λ same. absurd (omega arith))
        (first_at pool sectors starts text d s None
        (text_nowhere d start.sector d s text (λ k few at. let place = (place_bounds start.sector k (are d).0 (are d).1 (omega arith)).1 in absurd (omega arith)))
        (head_nowhere pool d (sectors d) s start.blank (λ same. absurd (omega arith)) (λ same. absurd (omega arith))))) v is)
  ]
]

-- what follows the reading: nothing, where all arrays are even or the text has no room, or a change
abbrev pub Brings : List ℕ → List ℕ → ℕ → Bool → Group → RackView → RackView → Type 0
Brings pool text n even group m b =
    (OnlyReads m b × (n ≤ 16 → HaveAreas m.sectors n → even ≡ true)) ⊎ ((result : Result (Unit {0}) Gone) × Changes pool text n m b result × IsReadBack pool text n m.sectors group)

brings_writes : {m b : RackView} (pool text : List ℕ) (n : ℕ) (even : Bool) (group : Group) → Brings pool text n even group m b → WritesOnly m b (IsBefore n)
brings_writes pool text n even group (inl looks) = only_quiet (IsBefore n) looks.0.stays looks.0.keeps
brings_writes {m} {b} pool text n even group (inr change) =
    only_weaker (IsPayload (new_targets pool m.sectors change.1.starts text n)) (IsBefore n)
    (λ d s v is. payload_before pool m.sectors change.1.starts text n d s v change.1.inside change.2.short is) change.1.puts.only

-- ---- what was read stays read

later_read : {a m b : RackView} (array : ℕ) (now c : Array) → SameRack m b → AreRead a m array now c → AreRead a b array now c
later_read {a} {m} {b} array now c later read = λ s. record {
  within = λ inside. elim ((read s).within inside) [
    | inl same ↦ inl same
    | inr none ↦ inr (none.0, rose_early a m b array later none.1)
  ];
  past = (read s).past;
}

later_part : {a m b : RackView} (array : ℕ) (now : Array) (part : Part) → SameRack m b → IsPart a m array now part → IsPart a b array now part
later_part array now part later is = record {
  labels = is.labels;
  headers = is.headers;
  texts = is.texts;
  labels_read = later_read array now is.labels later is.labels_read;
  headers_read = later_read array now is.headers later is.headers_read;
  texts_read = later_read array now is.texts later is.texts_read;
  is = is.is;
}

opens_later : {a m b : RackView} (pool : List ℕ) (extent joined : ℕ) (l : Linear) (seqno : ℕ) → SameRack m b → Opens pool extent joined a m l seqno → Opens pool extent joined a b l seqno
opens_later {a} {m} {b} pool extent joined l seqno later opens = record {
  parts = opens.parts;
  read = record {
    count = opens.read.count;
    are = λ array now below is. let part = opens.read.are array now below is in (part.0, part.1, later_part array now part.0 later part.2);
  };
  runs = opens.runs;
  means = λ c served now. opens.means c (λ array below rose. served array below (rose_early a m b array later rose)) now;
}

-- ---- contents that are those before

-- their first sectors are the same
abbrev AreSame : ℕ → Image → Image → Type 0
AreSame joined before c = (d s : ℕ) → d < joined → s < 2048 → c d s ≡ before d s

same_writing : {a b : RackView} (pool : List ℕ) (joined : ℕ) (l : Linear) (seqno : ℕ) (before c : Image) → HaveLabelsDecoded → HaveHeadersDecoded → IsSettled pool joined l seqno a b before → AreSame joined before c
    → (d : ℕ) → d < joined → IsWriting pool d (a.sectors d) [] (before d) (c d)
same_writing {a} pool joined l seqno before c labels headers settled same d below = record {
  labels = labels;
  headers = headers;
  own = settled.areas d below;
  short = omega arith;
  kept = record { label = inl (same d 1 below (omega arith)); header = inl (same d 8 below (omega arith)); others = λ s less label header apart. same d s below less };
}

same_says : {a b : RackView} (pool : List ℕ) (joined : ℕ) (l : Linear) (seqno : ℕ) (before c : Image) → HaveLabelsDecoded → HaveHeadersDecoded → (settled : IsSettled pool joined l seqno a b before) → AreSame joined before c
    → AreOneOf pool a.sectors joined settled.means.group before c
same_says {a} pool joined l seqno before c labels headers settled same = λ d below.
    kept_says pool d (a.sectors d) [] (before d) (c d) settled.means.group (same_writing pool joined l seqno before c labels headers settled same d below)
    (array_sound pool l.extent joined a.sectors before settled.means.group d settled.means.found settled.means.sound below).0

same_means : {a b : RackView} (pool : List ℕ) (joined : ℕ) (l : Linear) (seqno : ℕ) (before c : Image) → HaveLabelsDecoded → HaveHeadersDecoded → IsSettled pool joined l seqno a b before → AreSame joined before c
    → MeansVolume pool joined a.sectors l seqno c
same_means {a} pool joined l seqno before c labels headers settled same =
    means_same pool l.extent joined a.sectors (over joined l) seqno before c settled.means (same_says pool joined l seqno before c labels headers settled same)

same_volume : {a b : RackView} (pool : List ℕ) (joined : ℕ) (l : Linear) (seqno : ℕ) (before c : Image) → HaveLabelsDecoded → HaveHeadersDecoded → IsSettled pool joined l seqno a b before → AreSame joined before c
    → IsVolume pool joined l seqno a.sectors c
same_volume {a} pool joined l seqno before c labels headers settled same = record {
  areas = λ d below. area_kept pool d (a.sectors d) [] (before d) (c d) (same_writing pool joined l seqno before c labels headers settled same d below);
  means = same_means pool joined l seqno before c labels headers settled same;
}

-- as they read now, with nothing past the arrays' ends
abbrev now_in : RackView → Image
now_in a = within_sectors a (λ d s. (a.held d s).current)

now_same : {a b : RackView} (pool : List ℕ) (joined : ℕ) (l : Linear) (seqno : ℕ) (before : Image) → SameRack a b → IsSettled pool joined l seqno a b before → AreSame joined before (now_in a)
now_same {a} {b} pool joined l seqno before stays settled = λ d s below less.
    let live = settled.told d s below less in
    let inside : s < a.sectors d = subst (λ n. s < n) (stays.sectors d) live.sector in
    ap (λ test. if test then (a.held d s).current else []) (lt-ltb s (a.sectors d) inside) ∙ settled.only d s (a.held d s).current below less (inl refl)

-- what was read without a refusal is what stands
read_is : {a b : RackView} (pool : List ℕ) (extent joined : ℕ) (l : Linear) (seqno : ℕ) (before : Image) → SameRack a b → (opens : Opens pool extent joined a b l seqno) → IsSettled pool joined l seqno a b before
    → AreServed a b a.disks → opens.parts ≡ parts_in (now_in a) a.sectors joined
read_is {a} {b} pool extent joined l seqno before stays opens settled served =
    parts_are joined opens.parts (λ d s. (a.held d s).current)
    (λ array below. served array (subst (λ n. array < n) stays.disks (settled.told array 0 below (omega arith)).disk))
    (λ array below. record { told = (settled.told array 0 below (omega arith)).is_told; current = λ sector within unspent. refl }) opens.read

read_right : {a b : RackView} (pool : List ℕ) (extent joined : ℕ) (l : Linear) (seqno : ℕ) (before : Image) → HaveLabelsDecoded → HaveHeadersDecoded → SameRack a b → (opens : Opens pool extent joined a b l seqno)
    → IsSettled pool joined l seqno a b before → AreServed a b a.disks → group_in before a.sectors joined ≡ Some opens.runs.group
read_right {a} {b} pool extent joined l seqno before labels headers stays opens settled served =
    let parts = read_is pool extent joined l seqno before stays opens settled served in
    let found : group_in (now_in a) a.sectors joined ≡ Some opens.runs.group = ap group_by (sym parts) ∙ opens.runs.found in
    let same = same_says pool joined l seqno before (now_in a) labels headers settled (now_same pool joined l seqno before stays settled) in
    let still : group_in (now_in a) a.sectors joined ≡ Some settled.means.group =
    elim (one_of_groups pool joined a.sectors settled.means.group settled.means.group before (now_in a) settled.means.found (omega arith) same) [ inl is ↦ is | inr is ↦ is ] in
    settled.means.found ∙ sym still ∙ found

-- ---- a change to the group that stands

-- the arrays are as they were before reads
settled_after : {a m b : RackView} (pool : List ℕ) (joined : ℕ) (l : Linear) (seqno : ℕ) (before : Image) → OnlyReads a m → SameRack m b → IsSettled pool joined l seqno a b before → IsSettled pool joined l seqno m b before
settled_after {a} {m} {b} pool joined l seqno before looks later settled = record {
  told = λ d s below less. live_second looks.stays (settled.told d s below less);
  only = λ d s v below less may. settled.only d s v below less ((looks.keeps.held d s (live_first later (settled.told d s below less))).within v may);
  areas = settled.areas;
  means = let sectors : a.sectors ≡ m.sectors = λ i d. sym (looks.stays.sectors d) i in subst (λ (f : ℕ → ℕ). MeansVolume pool joined f l seqno before) sectors settled.means;
}

to_change : {m b : RackView} (pool text : List ℕ) (joined : ℕ) (l : Linear) (seqno : ℕ) (group : Group) (before : Image) {X : Type 0} (result : Result X Gone) (changes : Changes pool text joined m b result)
    → IsReadBack pool text joined m.sectors group → IsSettled pool joined l seqno m b before → IsChange pool text joined joined changes.starts group m b before
to_change {m} pool text joined l seqno group before result changes back settled = record {
  back = back;
  inside = changes.inside;
  behind = changes.behind;
  within = omega arith;
  told = settled.told;
  only = settled.only;
  areas = settled.areas;
  sound = λ array below. (array_sound pool l.extent joined m.sectors before settled.means.group array settled.means.found settled.means.sound below).0;
}

same_group : (pool : List ℕ) (sectors : ℕ → ℕ) (joined : ℕ) (before c : Image) (group other : Group) → group ≡ other → AreOneOf pool sectors joined group before c → AreOneOf pool sectors joined other before c
same_group pool sectors joined before c group other same each = subst (λ (g : Group). AreOneOf pool sectors joined g before c) same each

one_group : (group other : Group) (o : Option Group) → o ≡ Some group → o ≡ Some other → group ≡ other
one_group group other o one two = let same : Some group ≡ Some other = sym one ∙ two in cc

change_volume : {m b : RackView} (pool text : List ℕ) (joined : ℕ) (l : Linear) (seqno : ℕ) (group : Group) (before c : Image) {X : Type 0} (result : Result X Gone) (changes : Changes pool text joined m b result)
    → IsReadBack pool text joined m.sectors group → IsSettled pool joined l seqno m b before → group_in before m.sectors joined ≡ Some group
    → IsMix m b (IsPayload (new_targets pool m.sectors changes.starts text joined)) c
    → IsInTurn m b (targets_to (first_targets pool m.sectors changes.starts text) joined) (targets_to (header_target changes.starts text) joined) joined c
    → IsVolume pool joined l seqno m.sectors c
change_volume {m} {b} pool text joined l seqno group before c result changes back settled right all turn =
    let is = to_change pool text joined l seqno group before result changes back settled in
    let means = means_same pool l.extent joined m.sectors (over joined l) seqno before c settled.means in
    elim turn [
      | inl first ↦
          record {
            areas = areas_mixed pool text joined joined changes.starts group is first all;
            means = means (all_mixed pool text joined joined changes.starts group settled.means.group is first all);
          }
      | inr late ↦
          record {
            areas = areas_late pool text joined joined changes.starts group is late all;
            means = means
                (same_group pool m.sectors joined before c group settled.means.group (one_group group settled.means.group (group_in before m.sectors joined) right settled.means.found)
                (all_late pool text joined joined changes.starts group is late all).0);
          }
    ]

-- ---- an opening

-- contents from which the volume of a group can be extended again
abbrev pub AreVolumes : List ℕ → ℕ → Linear → ℕ → Group → RackView → RackView → Image → Type 0
AreVolumes pool joined l seqno group a b c =
    (before : Image) → IsSettled pool joined l seqno a b before → group_in before a.sectors joined ≡ Some group → IsVolume pool joined l seqno a.sectors c

-- what is done once the arrays were read
pub record IsOpening (pool text : List ℕ) (extent joined : ℕ) (l : Linear) (seqno : ℕ) (even : Bool) (a m b : RackView) : Type 0 where
  pub labels : HaveLabelsDecoded
  pub headers : HaveHeadersDecoded
  pub looks : OnlyReads a m
  pub later : SameRack m b
  pub finds : Finds pool extent joined a m l seqno even text
  pub brings : Brings pool text joined even finds.opens.runs.group m b

sectors_same : {a m : RackView} → OnlyReads a m → m.sectors ≡ a.sectors
sectors_same looks = λ i d. looks.stays.sectors d i

reading_images : {a m b : RackView} (pool : List ℕ) (joined : ℕ) (l : Linear) (seqno : ℕ) (group : Group) → HaveLabelsDecoded → HaveHeadersDecoded → OnlyReads a m → SameRack m b → a.traced
    → Leaves a m (AreVolumes pool joined l seqno group a b)
reading_images {a} {m} {b} pool joined l seqno group labels headers looks later traced =
    leaves_weaker (IsPick a m a.held) (AreVolumes pool joined l seqno group a b)
    (λ c pick before settled right. same_volume pool joined l seqno before c labels headers settled
    (λ d s below less. settled.only d s (c d s) below less (pick d s (live_first later (settled.told d s below less))))) (looks.keeps.stops traced)

brings_images : {a m b : RackView} (pool text : List ℕ) (joined : ℕ) (l : Linear) (seqno : ℕ) (even : Bool) (group : Group) → HaveLabelsDecoded → HaveHeadersDecoded → OnlyReads a m → SameRack m b
    → Brings pool text joined even group m b → m.traced → Leaves m b (AreVolumes pool joined l seqno group a b)
brings_images {a} {m} {b} pool text joined l seqno even group labels headers looks later (inl quiet) traced =
    leaves_weaker (IsPick m b m.held) (AreVolumes pool joined l seqno group a b)
    (λ c pick before settled right.
    let after = settled_after pool joined l seqno before looks later settled in
    same_volume pool joined l seqno before c labels headers settled (λ d s below less. after.only d s (c d s) below less (pick d s (after.told d s below less)))) (quiet.0.keeps.stops traced)
brings_images {a} {m} {b} pool text joined l seqno even group labels headers looks later (inr change) traced =
    let changes = change.1 in
    let all : Image → Type 0 = IsMix m b (IsPayload (new_targets pool m.sectors changes.starts text joined)) in
    let turn : Image → Type 0 = IsInTurn m b (targets_to (first_targets pool m.sectors changes.starts text) joined) (targets_to (header_target changes.starts text) joined) joined in
    leaves_weaker (λ c. all c × turn c) (AreVolumes pool joined l seqno group a b)
    (λ c left before settled right.
    let sectors = sectors_same looks in
    subst (λ (f : ℕ → ℕ). IsVolume pool joined l seqno f c) sectors
    (change_volume pool text joined l seqno group before c change.0 changes change.2 (settled_after pool joined l seqno before looks later settled)
    (subst (λ (f : ℕ → ℕ). group_in before f joined ≡ Some group) (sym sectors) right) left.0 left.1))
    (leaves_both all turn (changes.puts.only.stops traced) (changes.stops traced))

-- at the end
says_group : (sectors : ℕ) (group : Group) (seqno : ℕ) (x : Array) → seqno ≡ group.seqno → (part_of x sectors).group ≡ Some group → says seqno (part_of x sectors) ≡ true
says_group sectors group seqno x number is = ap (λ (o : Option Group). option_map_or (λ (g : Group). g.seqno == seqno) o false) is ∙ eq-eqb group.seqno seqno (sym number)

abbrev IsEvenAfter : List ℕ → ℕ → Linear → ℕ → RackView → RackView → Type 0
IsEvenAfter pool joined l seqno a b = (after : Image) × HoldOnly b joined after × IsEven pool joined l seqno a.sectors after

changed_even : {m b : RackView} (pool text : List ℕ) (joined : ℕ) (l : Linear) (seqno : ℕ) (group : Group) (before : Image) → (changes : Changes pool text joined m b {X = Unit {0}} (Ok tt)) → IsReadBack pool text joined m.sectors group
    → IsSettled pool joined l seqno m b before → group_in before m.sectors joined ≡ Some group → seqno ≡ group.seqno → IsEvenAfter pool joined l seqno m b
changed_even {m} {b} pool text joined l seqno group before changes back settled right number =
    let is = to_change pool text joined l seqno group before (Ok tt) changes back settled in (
      at_end b,
      λ d s v below less may. changes.single d s v below (settled.told d s below less) may,
      record {
        areas = end_area pool text joined joined before group changes is;
        means = means_same pool l.extent joined m.sectors (over joined l) seqno before (at_end b) settled.means
            (same_group pool m.sectors joined before (at_end b) group settled.means.group (one_group group settled.means.group (group_in before m.sectors joined) right settled.means.found)
            (λ d below. (end_one pool text joined joined before group changes is d below).0));
        even = λ d below. says_group (m.sectors d) group seqno (at_end b d) number (end_one pool text joined joined before group changes is d below).2;
      },
    )

brought_even : {a m b : RackView} (pool text : List ℕ) (joined : ℕ) (l : Linear) (seqno : ℕ) (group : Group) (before : Image) (result : Result (Unit {0}) Gone) → (changes : Changes pool text joined m b result)
    → IsReadBack pool text joined m.sectors group → OnlyReads a m → SameRack m b → IsSettled pool joined l seqno a b before → group_in before a.sectors joined ≡ Some group → seqno ≡ group.seqno → AreServed a b a.disks
    → IsEvenAfter pool joined l seqno a b
brought_even {a} {m} {b} pool text joined l seqno group before (Ok done) changes back looks later settled right number served =
    let sectors = sectors_same looks in
    subst (λ (f : ℕ → ℕ). (after : Image) × HoldOnly b joined after × IsEven pool joined l seqno f after) sectors
    (changed_even pool text joined l seqno group before changes back (settled_after pool joined l seqno before looks later settled)
    (subst (λ (f : ℕ → ℕ). group_in before f joined ≡ Some group) (sym sectors) right) number)
brought_even {a} {m} {b} pool text joined l seqno group before (Err gone) changes back looks later settled right number served =
    absurd (served gone.disk (subst (λ n. gone.disk < n) looks.stays.disks changes.puts.gone.0) (rose_later a m b gone.disk looks.stays changes.puts.gone.1))

quiet_even : {a m b : RackView} (pool text : List ℕ) (extent joined : ℕ) (l : Linear) (seqno : ℕ) (even : Bool) (before : Image) (is : IsOpening pool text extent joined l seqno even a m b) → (opens : Opens pool extent joined a b l seqno)
    → opens.parts ≡ is.finds.opens.parts → OnlyReads m b → even ≡ true → IsSettled pool joined l seqno a b before → AreServed a b a.disks → IsEvenAfter pool joined l seqno a b
quiet_even {a} {m} {b} pool text extent joined l seqno even before is opens same_parts quiet all settled served =
    let stays = stays_then is.looks.stays is.later in
    let same = now_same pool joined l seqno before stays settled in
    let after = settled_after pool joined l seqno before is.looks is.later settled in
    let parts = sym same_parts ∙ read_is pool extent joined l seqno before stays opens settled served in
    let each : list_all (says seqno) is.finds.opens.parts ≡ true = sym is.finds.all ∙ all in (
      now_in a,
      λ d s v below less may. after.only d s v below less ((quiet.keeps.held d s (after.told d s below less)).within v may) ∙ sym (same d s below less),
      record {
        areas = λ d below. area_kept pool d (a.sectors d) [] (before d) (now_in a d) (same_writing pool joined l seqno before (now_in a) is.labels is.headers settled same d below);
        means = same_means pool joined l seqno before (now_in a) is.labels is.headers settled same;
        even = λ d below.
            all_at (says seqno) is.finds.opens.parts d (part_of (now_in a d) (a.sectors d)) each (ap (λ (ps : List Part). slice_get ps d) parts ∙ part_at_place (now_in a) a.sectors joined d below);
      },
    )

brings_even : {a m b : RackView} (pool text : List ℕ) (extent joined : ℕ) (l : Linear) (seqno : ℕ) (even : Bool) (before : Image) (is : IsOpening pool text extent joined l seqno even a m b) → (opens : Opens pool extent joined a b l seqno)
    → opens.parts ≡ is.finds.opens.parts → Brings pool text joined even is.finds.opens.runs.group m b → IsSettled pool joined l seqno a b before → group_in before a.sectors joined ≡ Some is.finds.opens.runs.group
    → AreServed a b a.disks → joined ≤ 16 → IsEvenAfter pool joined l seqno a b
brings_even {a} {m} {b} pool text extent joined l seqno even before is opens same_parts (inl quiet) settled right served few =
    quiet_even pool text extent joined l seqno even before is opens same_parts quiet.0
    (quiet.1 few (λ array below. let live = (settled.told array 2047 below (omega arith)).sector in let size = is.later.sectors array in omega arith)) settled served
brings_even {a} {m} {b} pool text extent joined l seqno even before is opens same_parts (inr change) settled right served few =
    brought_even pool text joined l seqno is.finds.opens.runs.group before change.0 change.1 change.2 is.looks is.later settled right is.finds.opens.runs.numbered served

pub opened : {a m b : RackView} (pool text : List ℕ) (extent joined : ℕ) (l : Linear) (seqno : ℕ) (even : Bool) → IsOpening pool text extent joined l seqno even a m b
    → (opens : Opens pool extent joined a b l seqno) × BringsUp pool joined l seqno opens.runs.group a b
unfolding opens_later
opened {a} {m} {b} pool text extent joined l seqno even is =
    let group : Group = is.finds.opens.runs.group in
    let opens = opens_later pool extent joined l seqno is.later is.finds.opens in
    let stays = stays_then is.looks.stays is.later in
    let right = λ (before : Image) (settled : IsSettled pool joined l seqno a b before) (served : AreServed a b a.disks).
    read_right pool extent joined l seqno before is.labels is.headers stays opens settled served in (
      opens,
      record {
        writes = only_then (IsBefore joined) (only_quiet (IsBefore joined) is.looks.stays is.looks.keeps) (brings_writes pool text joined even group is.brings);
        right = right;
        images = λ traced.
            leaves_then (AreVolumes pool joined l seqno group a b) (reading_images pool joined l seqno group is.labels is.headers is.looks is.later traced)
            (brings_images pool text joined l seqno even group is.labels is.headers is.looks is.later is.brings (is.looks.stays.traced traced));
        even = λ before settled served few. brings_even pool text extent joined l seqno even before is opens refl is.brings settled (right before settled served) served few;
      },
    )

-- the text that was kept is the one that is written
pub brought : {a m b : RackView} (pool text kept : List ℕ) (extent joined : ℕ) (l : Linear) (seqno : ℕ) (even : Bool) → HaveLabelsDecoded → HaveHeadersDecoded → OnlyReads a m → SameRack m b → text ≡ kept
    → Finds pool extent joined a m l seqno even kept → Rewrites pool text joined even m b → (opens : Opens pool extent joined a b l seqno) × BringsUp pool joined l seqno opens.runs.group a b
brought {a} {m} {b} pool text kept extent joined l seqno even labels headers looks later same finds rewrites =
    let finds : Finds pool extent joined a m l seqno even text = subst (λ (bytes : List ℕ). Finds pool extent joined a m l seqno even bytes) (sym same) finds in
    opened pool text extent joined l seqno even
    (record {
      labels = labels;
      headers = headers;
      looks = looks;
      later = later;
      finds = finds;
      brings = elim rewrites [ inl quiet ↦ inl quiet | inr change ↦ inr (change.0, change.1, change.2 finds.opens.runs.group finds.kept.says) ];
    })

pub rewrites_stays : {m b : RackView} (pool text : List ℕ) (n : ℕ) (even : Bool) → Rewrites pool text n even m b → SameRack m b
rewrites_stays pool text n even (inl quiet) = quiet.0.stays
rewrites_stays pool text n even (inr change) = change.1.puts.only.stays
