-- Logs are sound where their slices say a state: what is pending there brings this state alone.
use Rattle.std.proofs.Common.{◌≡◌, ◌⊎◌, ℕ, ◌<◌, ◌≤◌, ◌==◌, ◌&&◌, Bool, true, false, nat_lt, if◌then◌else◌, map, List, [], ◌∷◌, is_none, length, Option, Some, None, Ok, option_map, unwrap_or, refl, sym, ap, ap₂, subst, ◌∙◌, inl, inr, arith, eqb-true, eq-eqb}
use Rattle.std.specs.List.{list_any, range_with_len}
use Rattle.std.specs.Option.{option_and_then, option_map_or, option_or}
use Rattle.std.specs.Result.{result_ok}
use Rattle.std.proofs.lemmas.Bool.{and_parts}
use Rattle.std.proofs.lemmas.Option.{cond_some, none-some}
use Rattle.rack.specs.Seen.{Image}
use Rattle.rack.specs.Sequences.{IsPayload}
use Rattle.rack.specs.Targets.{Target, is_at, look, put}
use Rattle.pool_state.specs.declared.contents.Copied.{Copied}
use Rattle.pool_state.specs.declared.contents.State.{State}
use Rattle.pool_state.specs.Sector.{decoded}
use Rattle.array_image.specs.Foremost.{ahead, foremost}
use Rattle.array_image.specs.Places.{arrays_first, log_slice, place_of, slice_of}
use Rattle.array_image.specs.Arrays.{replayed}
use Rattle.array_image.specs.Record.{Gate, GateAt, are_apart, damaged_log, gate_in, gate_of, gate_sector, is_bad_gate, is_there, pending, pending_at, record_in, record_of}
use Rattle.array_image.specs.States.{current_places, epoch_of, is_current}
use Rattle.array_image.proofs.Frames.{state_same}
use Rattle.log_laws.specs.Saying.{AreOwnCopies, PendingInstalls, PlaceJoins, RecoversTo}
use Rattle.log_laws.specs.Standing.{deciding}
use Rattle.log_laws.specs.View.{names}
use Rattle.commit_log.proofs.Fewer.{names_filter}
use Rattle.log_laws.proofs.Kept.{put_none}
use Rattle.log_laws.proofs.Places.{does_join, joins_none, joins_not, not_joins, stays_not}
use Rattle.commit_log.proofs.Replayable.{pending_named}
use Rattle.commit_log.proofs.Replaying.{pending_sound}
use Rattle.commit_log.proofs.Restored.{pending_at_by, pending_by}
use Rattle.commit_log.proofs.Story.{payload_is}
use Rattle.commit_log.proofs.Undamaged.{whole_by}
use Rattle.pool_image.specs.Alike.{drive_gate}
use Rattle.pool_image.specs.Disks.{Disks, Identities, identities_of, seat_of}
use Rattle.pool_image.specs.Replay.{Standing, brought, standing, standing_by}
use Rattle.pool_rest.specs.Moments.{IsGateBelow, IsNoneOrBelow, TakesLowerIn}
use Rattle.pool_rest.specs.Resting.{seated_state}
use Rattle.pool_rest.specs.SoundLogs.{HasSoundLogs, IsGateUpTo, IsLater, IsSoundLog, ShowLogs}
use Rattle.pool_rest.proofs.Joining.{below_number}
use Rattle.pool_rest.proofs.LowerLogs.{pending_lower, targets_lower, whole_lower}

-- ---- the state that a record of own copies brings

some_copied : (a b : Copied) → Some a ≡ Some b → a ≡ b
some_copied a b same = cc

some_bytes : (a b : List ℕ) → Some a ≡ Some b → a ≡ b
some_bytes a b same = cc

-- a target that brings a copy has it for its place
brought_own : (t : State) (xs : List Target) (x : Target) (c : Copied) → AreOwnCopies t xs → look xs x.disk x.sector ≡ Some x.bytes → brought x ≡ Some c → c.state ≡ t
brought_own t xs x c own has is =
    let test = of (slice_of x.disk == 0) (x.sector == 0) refl refl is in
    let disk : x.disk ≡ log_slice (place_of x.disk) = (let slice = test.0 in omega (arith, slice)) in
    let copy = own (place_of x.disk) x.bytes (ap₂ (look xs) (sym disk) (sym test.1) ∙ has) in
    ap (λ (k : Copied). k.state) (some_copied c (record { state = t; own = place_of x.disk }) (sym test.2 ∙ ap result_ok copy))
  where
    of : (a b : Bool) → (slice_of x.disk == 0) ≡ a → (x.sector == 0) ≡ b → (if a && b then result_ok (decoded x.bytes) else None) ≡ Some c
        → (slice_of x.disk ≡ 0) × (x.sector ≡ 0) × (result_ok (decoded x.bytes) ≡ Some c)
    of true true slice sector at = (eqb-true (slice_of x.disk) 0 slice, eqb-true x.sector 0 sector, at)
    of true false slice sector at = absurd (none-some c at)
    of false b slice sector at = absurd (none-some c at)

-- so it is with the foremost of them
foremost_own : (t : State) (ys : List Target) → ((x : Target) (c : Copied) → IsPayload ys x.disk x.sector x.bytes → brought x ≡ Some c → c.state ≡ t)
    → (c : Copied) → foremost epoch_of (map brought ys) ≡ Some c → c.state ≡ t
unfolding foremost
foremost_own t [] each c is = absurd (none-some c is)
foremost_own t (y ∷ ys) each c is = of (brought y) refl (foremost_own t ys (λ x k there at. each x k (inr there) at)) is
  where
    itself : is_at y.disk y.sector y ≡ true
    itself = ap₂ (λ a b. a && b) (eq-eqb y.disk y.disk refl) (eq-eqb y.sector y.sector refl)

    by : (k : Copied) → k.state ≡ t → (o : Option Copied) → ((z : Copied) → o ≡ Some z → z.state ≡ t) → ahead epoch_of k o ≡ Some c → c.state ≡ t
    by k same None rest at = ap (λ (z : Copied). z.state) (sym (some_copied k c at)) ∙ same
    by k same (Some z) rest at = pick (nat_lt (epoch_of k) (epoch_of z)) at
      where
        pick : (b : Bool) → (if b then Some z else Some k) ≡ Some c → c.state ≡ t
        pick true at = rest c at
        pick false at = ap (λ (z : Copied). z.state) (sym (some_copied k c at)) ∙ same

    of : (o : Option Copied) → brought y ≡ o → ((z : Copied) → foremost epoch_of (map brought ys) ≡ Some z → z.state ≡ t)
        → foremost epoch_of (o ∷ map brought ys) ≡ Some c → c.state ≡ t
    of None here rest at = rest c at
    of (Some k) here rest at = by k (each y k (inl (itself, refl)) here) (foremost epoch_of (map brought ys)) rest at

-- there is one where a copy is among them
foremost_there : (ys : List Target) (p : ℕ) (u : List ℕ) (c : Copied) → look ys (log_slice p) 0 ≡ Some u → decoded u ≡ Ok c → foremost epoch_of (map brought ys) ≡ None → ⊥
unfolding foremost look
foremost_there [] p u c has copy none = none-some u has
foremost_there (y ∷ ys) p u c has copy none = of (brought y) refl (look ys (log_slice p) 0) refl (λ w later same. foremost_there ys p w c later (ap decoded same ∙ copy)) has none
  where
    never : (k : Copied) (o : Option Copied) → ahead epoch_of k o ≡ None → ⊥
    never k None at = none-some k (sym at)
    never k (Some z) at = pick (nat_lt (epoch_of k) (epoch_of z)) at
      where
        pick : (b : Bool) → (if b then Some z else Some k) ≡ None → ⊥
        pick true at = none-some z (sym at)
        pick false at = none-some k (sym at)

    brings : is_at (log_slice p) 0 y ≡ true → y.bytes ≡ u → brought y ≡ Some c
    brings at same =
        let both = and_parts (y.disk == log_slice p) (y.sector == 0) at in
        let disk = eqb-true y.disk (log_slice p) both.0 in
        ap₂ (λ a b. if a && b then result_ok (decoded y.bytes) else None) (eq-eqb (slice_of y.disk) 0 (omega (arith, disk))) both.1
        ∙ ap (λ (w : List ℕ). result_ok (decoded w)) same ∙ ap result_ok copy

    of : (o : Option Copied) → brought y ≡ o → (l : Option (List ℕ)) → look ys (log_slice p) 0 ≡ l
        → ((w : List ℕ) → look ys (log_slice p) 0 ≡ Some w → w ≡ u → foremost epoch_of (map brought ys) ≡ None → ⊥)
        → option_or l (if is_at (log_slice p) 0 y then Some y.bytes else None) ≡ Some u → foremost epoch_of (o ∷ map brought ys) ≡ None → ⊥
    of (Some k) here l there rest at none = never k (foremost epoch_of (map brought ys)) none
    of None here (Some w) there rest at none = rest w there (some_bytes w u at) none
    of None here None there rest at none =
        let test = cond_some (is_at (log_slice p) 0 y) y.bytes u at in
        none-some c (sym here ∙ brings test.0 test.1)

-- Where a record's copies are own ones of a state, this is the state whose drives it is for: it brings none, and the state stands, or it has a copy.
pub seated_own : (s t : State) (xs : List Target) → are_apart xs ≡ true → AreOwnCopies t xs
    → (t ≡ s) ⊎ ((p : ℕ) × (u : List ℕ) × (look xs (log_slice p) 0 ≡ Some u)) → seated_state xs s ≡ t
seated_own s t xs apart own either = of (foremost epoch_of (map brought xs)) refl
  where
    of : (o : Option Copied) → foremost epoch_of (map brought xs) ≡ o → seated_state xs s ≡ t
    of (Some c) is =
        ap (λ (o : Option Copied). unwrap_or (option_map (λ copy. copy.state) o) s) is
        ∙ foremost_own t xs (λ x k payload at. brought_own t xs x k own (payload_is xs x.disk x.sector x.bytes apart payload) at) c is
    of None none = elim either [
      | inl same ↦ ap (λ (o : Option Copied). unwrap_or (option_map (λ copy. copy.state) o) s) none ∙ sym same
      | inr copy ↦ absurd (foremost_there xs copy.0 copy.1 (record { state = t; own = copy.0 }) copy.2 (own copy.0 copy.1 copy.2) none)
    ]

-- ---- logs of disks

-- where the drive that a place had has the gate of the slices
pub same_below : (sectors : ℕ → ℕ) (c e : Image) (t : State) (says : RecoversTo t sectors c) (a : GateAt) (p : ℕ)
    → pending_at (current_places says.stood) c ≡ Some a → PlaceJoins says.stood t p → e (log_slice p) gate_sector ≡ c (log_slice p) gate_sector
    → IsNoneOrBelow a.gate.number (e (log_slice p) gate_sector)
same_below sectors c e t says a p at joins same = elim says.next [
  | inl is ↦ absurd (joins_none says.stood t p is joins)
  | inr brought ↦ let lower = brought.joining a p at joins in inr (lower.0, ap gate_of same ∙ lower.1, lower.2)
]

module _ (disks : Disks) (i c : Image) (sectors : ℕ → ℕ) (t : State) (says : RecoversTo t sectors c) (show : ShowLogs disks i c says.stood t) where
  abbrev s : State
  s = says.stood

  abbrev ids : Identities
  ids = identities_of disks i

  abbrev before : Standing
  before = standing_by disks i s

  pub stands_now : standing disks i ≡ Some before
  unfolding standing
  stands_now = ap (option_map (standing_by disks i)) show.newest_is

  listed : (p : ℕ) → names (current_places s) p ≡ true → is_current s p ≡ true
  unfolding current_places
  listed p among = (names_filter (is_current s) (range_with_len 0 (length s.drives.items)) p among).0

  places_are : deciding c ≡ current_places s
  places_are = ap (λ (o : Option State). option_map_or current_places o []) says.stood_is

  no_targets : pending_at (current_places s) c ≡ None → pending (deciding c) c ≡ []
  unfolding pending
  no_targets none =
      ap (λ ps. pending ps c) places_are
      ∙ ap (λ (o : Option GateAt). if list_any (is_bad_gate c) (current_places s) then [] else unwrap_or (option_and_then (λ a. record_in c a.place a.gate.number) o) []) none
      ∙ either (list_any (is_bad_gate c) (current_places s))
    where
      none_there : List Target
      none_there = []

      either : (b : Bool) → (if b then none_there else none_there) ≡ none_there
      either true = refl
      either false = refl

  -- with nothing to replay the state stays
  state_stays : pending (deciding c) c ≡ [] → t.epoch ≡ s.epoch
  unfolding replayed look
  state_stays none =
      let kept : (p : ℕ) → replayed sectors c (log_slice p) 0 ≡ c (log_slice p) 0 =
      λ p. ap (λ (xs : List Target). put sectors xs c (log_slice p) 0) none ∙ put_none sectors [] c (log_slice p) 0 refl in
      ap (λ (o : Option State). option_map_or (λ z. z.epoch) o 0) (sym says.is_state ∙ state_same (replayed sectors c) c kept ∙ says.stood_is)

  -- the state stands, or a record is pending that brings it
  brings_or : (t ≡ s) ⊎ ((a : GateAt) × (pending_at (current_places s) c ≡ Some a) × PendingInstalls s t c)
  brings_or = elim says.next [
    | inl same ↦ inl same
    | inr brought ↦ of brought (pending_at (current_places s) c) refl
  ]
    where
      of : PendingInstalls s t c → (o : Option GateAt) → pending_at (current_places s) c ≡ o
          → (t ≡ s) ⊎ ((a : GateAt) × (pending_at (current_places s) c ≡ Some a) × PendingInstalls s t c)
      of brought (Some a) at = inr (a, at, brought)
      of brought None none = absurd (let later = brought.later in let same = state_stays (no_targets none) in omega (arith, later, same))

  whole_c : damaged_log (current_places s) c ≡ None
  whole_c = ap (λ ps. damaged_log ps c) (sym places_are) ∙ says.whole

  -- where the state stands no place joins
  module _ (same : t ≡ s) where
    gates_same : (p : ℕ) → names (current_places s) p ≡ true → before.logs (log_slice p) gate_sector ≡ c (log_slice p) gate_sector
    gates_same p among = show.logs p gate_sector (listed p among) (joins_none s t p same)

    records_same : (a : GateAt) → pending_at (current_places s) c ≡ Some a → record_in before.logs a.place a.gate.number ≡ record_in c a.place a.gate.number
    records_same a at =
        ap (record_of a.gate.number) (λ j u. show.logs a.place u (listed a.place (pending_named (current_places s) c a at).0) (joins_none s t a.place same) j)

  -- those that join have lower gates, in the slices and on the drives that they had
  module _ (a : GateAt) (at : pending_at (current_places s) c ≡ Some a) (brought : PendingInstalls s t c) where
    source_kept : joins_not s t a.place ≡ true
    source_kept = stays_not s t a.place (brought.source a at).0

    logs_same : (p u : ℕ) → names (current_places s) p ≡ true → joins_not s t p ≡ true → before.logs (log_slice p) u ≡ c (log_slice p) u
    logs_same p u among kept = show.logs p u (listed p among) (not_joins s t p kept)

    lower_c : (p : ℕ) (g : Gate) → names (current_places s) p ≡ true → joins_not s t p ≡ false → gate_in c p ≡ Some g → g.number < a.gate.number
    lower_c p g among out has = below_number a.gate.number (c (log_slice p) gate_sector) g (inr (brought.joining a p at (does_join s t p out))) has

    lower_now : (p : ℕ) → names (current_places s) p ≡ true → joins_not s t p ≡ false → IsNoneOrBelow a.gate.number (before.logs (log_slice p) gate_sector)
    lower_now p among out = show.former a p at (listed p among) (does_join s t p out)

  at_is : pending_at (current_places s) before.logs ≡ pending_at (current_places s) c
  at_is = elim brings_or [
    | inl same ↦ pending_at_by before.logs c (current_places s) (gates_same same)
    | inr new ↦
        pending_lower c before.logs (joins_not s t) (current_places s) new.0 new.1 (source_kept new.0 new.1 new.2) whole_c
        (logs_same new.0 new.1 new.2) (lower_c new.0 new.1 new.2) (lower_now new.0 new.1 new.2)
        ∙ sym new.1
  ]

  pending_is : pending (current_places s) before.logs ≡ pending (current_places s) c
  pending_is = elim brings_or [
    | inl same ↦ pending_by before.logs c (current_places s) (gates_same same) (records_same same)
    | inr new ↦
        targets_lower c before.logs (joins_not s t) (current_places s) new.0 new.1 (source_kept new.0 new.1 new.2) whole_c
        (logs_same new.0 new.1 new.2) (lower_c new.0 new.1 new.2) (lower_now new.0 new.1 new.2)
  ]

  whole_now : damaged_log (current_places s) before.logs ≡ None
  whole_now = elim brings_or [
    | inl same ↦ whole_by before.logs c (current_places s) (gates_same same) (records_same same) whole_c
    | inr new ↦
        whole_lower c before.logs (joins_not s t) (current_places s) new.0 new.1 (source_kept new.0 new.1 new.2) whole_c
        (logs_same new.0 new.1 new.2) (lower_c new.0 new.1 new.2) (lower_now new.0 new.1 new.2)
  ]

  -- what is pending on the disks is so in the slices
  pub targets_are : before.targets ≡ pending (deciding c) c
  targets_are = pending_is ∙ ap (λ ps. pending ps c) (sym places_are)

  at_same : (a : GateAt) → pending_at (current_places s) before.logs ≡ Some a → pending_at (current_places s) c ≡ Some a
  at_same a at = sym at_is ∙ at

  own : AreOwnCopies t before.targets
  own p u is = says.brings p u (ap (λ (xs : List Target). look xs (log_slice p) 0) (sym targets_are) ∙ is)

  look_here : (p : ℕ) (u : List ℕ) → look (pending (current_places s) c) (log_slice p) 0 ≡ Some u → look before.targets (log_slice p) 0 ≡ Some u
  look_here p u is = ap (λ (xs : List Target). look xs (log_slice p) 0) pending_is ∙ is

  -- the state that is brought has a copy among the targets
  copy_or : (t ≡ s) ⊎ ((p : ℕ) × (u : List ℕ) × (look before.targets (log_slice p) 0 ≡ Some u))
  copy_or = elim brings_or [
    | inl same ↦ inl same
    | inr new ↦
        let copy = (new.2.source new.0 new.1).1 in inr (new.0.place, copy.0, look_here new.0.place copy.0 copy.1)
  ]

  pub seated_is : seated_state before.targets s ≡ t
  seated_is = seated_own s t before.targets (pending_sound (current_places s) before.logs).apart own copy_or

  gate_low : (g h : Gate) (block : List ℕ) → gate_of block ≡ Some h → h.number < g.number → IsGateUpTo g.number block
  gate_low g h block is low = record {
    formed = ap (λ (o : Option Gate). is_there block && is_none o) is ∙ and_false (is_there block);
    low = λ k at. let same : k ≡ h = some_gate k (sym at ∙ is) in let number = ap (λ (z : Gate). z.number) same in omega (arith, number, low);
  }
    where
      and_false : (b : Bool) → (b && false) ≡ false
      and_false true = refl
      and_false false = refl

      some_gate : (k : Gate) → Some k ≡ Some h → k ≡ h
      some_gate k same = cc

  joins_below : (a : GateAt) (p d : ℕ) → pending_at (current_places s) before.logs ≡ Some a → PlaceJoins s t p → seat_of t disks ids p ≡ Some d
      → arrays_first ≤ disks.sectors d → IsGateBelow a.gate.number (i d drive_gate)
  joins_below a p d at joins seat room = elim says.next [
    | inl same ↦ absurd (joins_none s t p same joins)
    | inr brought ↦
        let lower = brought.joining a p (at_same a at) joins in (
          lower.0,
          ap gate_of (show.gates p d joins seat room) ∙ lower.1,
          lower.2,
        )
  ]

  joins_low : (a : GateAt) (p d : ℕ) → pending_at (current_places s) before.logs ≡ Some a → PlaceJoins s t p → seat_of t disks ids p ≡ Some d
      → arrays_first ≤ disks.sectors d → IsGateUpTo a.gate.number (i d drive_gate)
  joins_low a p d at joins seat room = let gate = joins_below a p d at joins seat room in gate_low a.gate gate.0 (i d drive_gate) gate.1 gate.2

  next_is : (t ≡ s) ⊎ IsLater before t
  next_is = elim says.next [
    | inl same ↦ inl same
    | inr brought ↦ inr (record {
      later = brought.later;
      source = λ a at. (brought.source a (at_same a at)).0;
      copy = λ a at. let copy = (brought.source a (at_same a at)).1 in (copy.0, look_here a.place copy.0 copy.1);
    })
  ]

  pool_same : t.pool ≡ s.pool
  pool_same = elim says.next [ inl same ↦ ap (λ (z : State). z.pool) same | inr brought ↦ brought.pool ]

  -- So the logs of the disks are sound: what is pending there brings the state that the slices say.
  pub says_sound : HasSoundLogs disks i
  says_sound = record {
    before = before;
    stands = stands_now;
    log = subst (IsSoundLog disks i before) (sym seated_is) (record {
      whole = whole_now;
      next = next_is;
      pool = pool_same;
      copies = own;
      seats = show.seats;
      joining = joins_low;
    });
  }

  -- and each drive that it takes in has a gate of a lower number
  pub says_lower : TakesLowerIn disks i
  says_lower other stands = subst IsLower (some_standing before other (sym stands_now ∙ stands)) lower
    where
      IsLower : Standing → Type 0
      IsLower z =
          (a : GateAt) (p d : ℕ) → pending_at (current_places z.state) z.logs ≡ Some a → PlaceJoins z.state (seated_state z.targets z.state) p
          → seat_of (seated_state z.targets z.state) disks z.identities p ≡ Some d → arrays_first ≤ disks.sectors d → IsGateBelow a.gate.number (i d drive_gate)

      some_standing : (a b : Standing) → Some a ≡ Some b → a ≡ b
      some_standing a b same = cc

      lower : IsLower before
      lower a p d at joins seat room = joins_below a p d at (subst (λ (z : State). PlaceJoins s z p) seated_is joins) (ap (λ (z : State). seat_of z disks ids p) (sym seated_is) ∙ seat) room
