-- What stands on the disks while a record is replayed, with the reads round it.
use Rattle.std.proofs.Common.{◌≡◌, ◌⊎◌, ℕ, ◌<◌, Bool, true, List, Some, sym, ap, subst, ◌∙◌, inl, inr, [], None}
use Rattle.std.specs.List.{filter_map, list_all}
use Rattle.std.proofs.lemmas.Bool.{cases_eq}
use Rattle.rack.specs.Values.{IsSingle}
use Rattle.rack.specs.Seen.{Image, IsLive, IsPick, RackView, SameRack}
use Rattle.rack.specs.Joins.{leaves_then, leaves_weaker, rose_early}
use Rattle.rack.specs.Moments.{Leaves}
use Rattle.rack.specs.Sequences.{OnlyReads}
use Rattle.rack.specs.Targets.{Target, look}
use Rattle.slice_rack.specs.Slices.{Slices}
use Rattle.slice_rack.specs.Sliced.{sliced, slices_of}
use Rattle.pool_state.specs.declared.contents.State.{State}
use Rattle.array_image.specs.Left.{reading}
use Rattle.array_image.specs.Places.{state_sector}
use Rattle.array_image.specs.Record.{damaged_log, is_target, pending}
use Rattle.array_image.specs.States.{current_places, state_in}
use Rattle.pool_image.specs.Alike.{Agree, drive_gate}
use Rattle.pool_image.specs.Disks.{Disks, Seats, disks_of, identities_of, seat_of as drive_of}
use Rattle.pool_image.specs.Replay.{logs_of}
use Rattle.pool_image.proofs.Identities.{agree_identities, seat_same}
use Rattle.log_laws.specs.View.{LogView}
use Rattle.pool_scan.specs.declared.Known.{Known}
use Rattle.pool_scan.specs.Choosing.{AreOf, seat_by}
use Rattle.pool_scan.specs.Scanning.{AllTold, IsUnfaulted, now_in}
use Rattle.pool_rest.specs.Moments.{AreAllWritten, AreOfDrives, BringsState, IsCopyWritten, StandsBrought, StandsReplaying, landed_on}
use Rattle.pool_rest.specs.Resting.{AreSingle, IsReplayed, seated_state}
use Rattle.pool_rest.specs.Standing.{FindsAll, IsLaid, IsLasting}
use Rattle.pool_rest.proofs.Agreeing.{landed_agree, lasting_later, live_reads, told_later}

-- ---- by contents that agree

module _ (disks : Disks) (s0 s : State) (xs : List Target) (c e i : Image) (agree : Agree disks c e) where
  landings : landed_on disks s xs c ≡ landed_on disks s xs e
  landings = ap (λ f. filter_map f xs) (landed_agree disks (identities_of disks c) (identities_of disks e) s (agree_identities disks c e agree))

  seats : drive_of s disks (identities_of disks c) ≡ drive_of s disks (identities_of disks e)
  seats = λ k p. seat_same disks (identities_of disks c) (identities_of disks e) (agree_identities disks c e agree) s p k

  brought_moves : StandsBrought disks s0 s xs c i → StandsBrought disks s0 s xs e i
  brought_moves brought = record {
    copied = elim brought.copied [ inl same ↦ inl same | inr copy ↦ inr (subst (λ ys. IsCopyWritten disks ys i) landings copy) ];
    gates = elim brought.gates [
      | inl kept ↦ inl (λ d there within. kept d there within ∙ agree d drive_gate there within)
      | inr all ↦ inr (subst (λ ys. AreAllWritten disks ys i) landings all)
    ];
    pends = elim brought.pends [
      | inl yet ↦ inl (subst (λ (f : Seats). pending (current_places s) (logs_of disks f i) ≡ xs) seats yet)
      | inr done ↦
          inr (subst (λ ys. AreAllWritten disks ys i) landings done.0, subst (λ (f : Seats). pending (current_places s) (logs_of disks f i) ≡ []) seats done.1)
    ];
    whole = subst (λ (f : Seats). damaged_log (current_places s) (logs_of disks f i) ≡ None) seats brought.whole;
  }

  pub replaying_moves : StandsReplaying disks s0 s xs c i → StandsReplaying disks s0 s xs e i
  replaying_moves stands = record {
    others = λ d t there within which none. stands.others d t there within which (ap (λ ys. look ys d t) landings ∙ none) ∙ agree d t there within;
    copies = λ d there within. elim (stands.copies d there within) [
      | inl same ↦ inl (same ∙ agree d state_sector there within)
      | inr new ↦ inr (sym (ap (λ ys. look ys d state_sector) landings) ∙ new)
    ];
    says = elim stands.says [
      | inl kept ↦
          inl (λ d there within. kept.0 d there within ∙ agree d state_sector there within, λ d there within. kept.1 d there within ∙ agree d drive_gate there within)
      | inr brought ↦ inr (brought_moves brought)
    ];
  }

-- ---- reads

-- what a stop in reads leaves agrees with what each sector holds, where that is one value
pub reads_stop : (a b : RackView) → OnlyReads a b → AllTold a → IsLasting a → ((d t : ℕ) → d < a.disks → t < a.sectors d → IsSingle (a.held d t)) → (i : Image)
    → IsPick a b a.held i → Agree (disks_of a) i (now_in b)
reads_stop a b reads told lasts single i pick d t there within =
    let live : IsLive a b d t = live_reads a b reads.stays told lasts d t there within in
    single d t there within (i d t) (pick d t live) ∙ sym (reads.keeps.held d t live).current

-- ---- a replay, and reads after it

-- what stands meanwhile, by slices on which its record was found
abbrev pub Meanwhile : RackView → RackView → List Known → State → State → LogView → (Image → Type 0) → Type 0
Meanwhile x y known st z m P =
    (t u : Slices) (on : List ℕ) (is_pending : Bool) → IsLaid x known st t on → FindsAll x t on m is_pending None
    → BringsState x known st z m on (reading (slices_of t x)) → AreOfDrives x (seat_by z known) u → state_in (sliced u (now_in x)) ≡ Some st
    → x.traced → Leaves x y P

-- where no disk refuses a call
abbrev pub StandsFound : RackView → RackView → List Known → State → State → LogView → (Image → Type 0) → Type 0
StandsFound x y known st z m P =
    AllTold x → IsLasting x → IsUnfaulted x y → AreSingle x → AreOf (disks_of x) (identities_of (disks_of x) (now_in x)) known
    → list_all is_target m.pending ≡ true → Meanwhile x y known st z m P

-- sectors have one value after a replay, as they had before it
replayed_single : (a y : RackView) (st z : State) (xs : List Target) (number : ℕ) → SameRack a y → IsReplayed a y st z xs number → AreSingle a → (d t : ℕ) → d < y.disks → t < y.sectors d → IsSingle (y.held d t)
replayed_single a y st z xs number stays is single d t there within =
    let disk : d < a.disks = subst (λ n. d < n) stays.disks there in
    let sector : t < a.sectors d = subst (λ n. t < n) (stays.sectors d) within in
    elim (cases_eq t drive_gate) [
      | inr other ↦ is.single d t disk sector other (single d t disk sector)
      | inl gate ↦
          subst (λ k. IsSingle (y.held d k)) (sym gate)
          (elim (is.leaves d disk (subst (λ k. k < a.sectors d) gate sector)) [
            | inl kept ↦ (λ b may. single d drive_gate disk (subst (λ k. k < a.sectors d) gate sector) b (kept.within b may) ∙ sym kept.current)
            | inr shut ↦ shut.single
          ])
    ]

pub again_stands : {R : Type 0} (seen : R → RackView) (r0 r1 rd rb : R) → r1 ≡ r0 → (known : List Known) (st z : State) (m : LogView) → z ≡ seated_state m.pending st
    → SameRack (seen r1) (seen rd) → OnlyReads (seen rd) (seen rb)
    → (AllTold (seen r1) → IsLasting (seen r1) → IsUnfaulted (seen r1) (seen rd) → AreOf (disks_of (seen r1)) (identities_of (disks_of (seen r1)) (now_in (seen r1))) known
    → list_all is_target m.pending ≡ true → IsReplayed (seen r1) (seen rd) st z m.pending m.number)
    → StandsFound (seen r1) (seen rd) known st z m (StandsReplaying (disks_of (seen r1)) st z m.pending (now_in (seen r1)))
    → StandsFound (seen r0) (seen rb) known st (seated_state m.pending st) m
    (λ i. StandsReplaying (disks_of (seen r0)) st (seated_state m.pending st) m.pending (now_in (seen r0)) i ⊎ Agree (disks_of (seen r0)) i (now_in (seen rb)))
again_stands seen r0 r1 rd rb back known st z m seated stays reads replayed stands told lasts free single are valid t u on is_pending laid finds brings of state traced =
    let a = seen r0 in
    let y = seen rd in
    let b = seen rb in
    let early : SameRack a y = subst (λ r. SameRack (seen r) y) back stays in
    let quiet : IsUnfaulted a y = λ d rose. free d (rose_early a y b d reads.stays rose) in
    let is : IsReplayed a y st z m.pending m.number =
    subst (λ r. AllTold (seen r) → IsLasting (seen r) → IsUnfaulted (seen r) y → AreOf (disks_of (seen r)) (identities_of (disks_of (seen r)) (now_in (seen r))) known
    → list_all is_target m.pending ≡ true → IsReplayed (seen r) y st z m.pending m.number) back replayed told lasts quiet are valid in
    let moved : StandsFound a y known st (seated_state m.pending st) m (StandsReplaying (disks_of a) st (seated_state m.pending st) m.pending (now_in a)) =
    subst (λ r. StandsFound (seen r) y known st (seated_state m.pending st) m (StandsReplaying (disks_of (seen r)) st (seated_state m.pending st) m.pending (now_in (seen r)))) back
    (subst (λ k. StandsFound (seen r1) y known st k m (StandsReplaying (disks_of (seen r1)) st k m.pending (now_in (seen r1)))) seated stands) in
    let P : Image → Type 0 = λ i. StandsReplaying (disks_of a) st (seated_state m.pending st) m.pending (now_in a) i ⊎ Agree (disks_of a) i (now_in b) in
    leaves_then P
    (leaves_weaker (StandsReplaying (disks_of a) st (seated_state m.pending st) m.pending (now_in a)) P (λ i stop. inl stop)
    (moved told lasts quiet single are valid t u on is_pending laid finds brings of state traced))
    (leaves_weaker (IsPick y b y.held) P
    (λ i pick. inr (λ d j there within.
    reads_stop y b reads (told_later a y early told) (lasting_later a y early lasts) (replayed_single a y st z m.pending m.number early is single) i pick d j
    (subst (λ n. d < n) (sym early.disks) there) (subst (λ n. j < n) (sym (early.sectors d)) within)))
    (reads.keeps.stops (early.traced traced)))
