-- The commit that ends the plan: copies of the state without it, on all current places.
use Rattle.std.proofs.Common.{◌≡◌, ◌⊎◌, ℕ, zero, suc, ◌+◌, ◌-◌, ◌^◌, ◌<◌, ◌≤◌, Bool, true, false, ◌&&◌, ◌||◌, not, nat_lt, nat_le, if◌then◌else◌, List, [], length, None, refl, sym, ap, subst, ◌∙◌, inl, inr, lt-ltb, ltb-true, arith}
use Rattle.std.proofs.lemmas.Bool.{cases_Bool, cases_eq, both_ways, and_parts, and_from, le-leb, leb-true}
use Rattle.std.specs.List.{list_all}
use Rattle.rack.specs.Values.{Keeps}
use Rattle.rack.specs.Seen.{RackView, IsLive}
use Rattle.rack.specs.Joins.{stays_same}
use Rattle.rack.specs.Targets.{Target, look}
use Rattle.pool_state.specs.Valid.{is_valid, is_drive, is_extent, has_places, has_arrays, has_epoch, place_of as planned_place}
use Rattle.pool_state.specs.declared.contents.State.{State}
use Rattle.array_image.specs.Places.{log_slice, place_of, slice_of}
use Rattle.array_image.specs.States.{is_current, current_places}
use Rattle.log_laws.specs.View.{LogView, names, next_number}
use Rattle.log_laws.specs.Commits.{CommitCall}
use Rattle.log_laws.specs.Kept.{CarriesState as BringsState}
use Rattle.array_model.specs.View.{View, HasFault, has_gone, is_whole_array, present, sectors_of}
use Rattle.array_model.specs.Stages.{AmongTargets}
use Rattle.array_model.proofs.Losses.{IsLosing}
use Rattle.array_core.specs.Seats.{gone as without}
use Rattle.raid_laws.specs.Raid.{Raid, gone_in, is_left}
use Rattle.raid_laws.specs.Book.{OnlyMarksSince}
use Rattle.raid_laws.specs.Losses.{AddsCopies, AreCopiesOn}
use Rattle.raid_laws.specs.Marking.{NoData}
use Rattle.raid_laws.specs.Missing.{raised}
use Rattle.raid_laws.specs.Moves.{IsHeeded, IsMarkedWhole, IsSet, IsSeated}
use Rattle.raid_laws.specs.Works.{closed}
use Rattle.raid_laws.proofs.Added.{names_current}
use Rattle.raid_laws.proofs.Adding.{IsCopyFor, copies_from}
use Rattle.raid_laws.proofs.Brought.{copies_bring, copies_inside}
use Rattle.raid_laws.proofs.Changed.{seated_still}
use Rattle.raid_laws.proofs.Committed.{next_later, raised_later, raised_range}
use Rattle.raid_laws.proofs.Elements.{look_among, look_lacks}
use Rattle.raid_laws.proofs.Noted.{bool_same, current_few, gone_from, gone_some}
use Rattle.raid_laws.proofs.Over.{IsFurther}
use Rattle.raid_laws.proofs.Own.{look_nothing}
use Rattle.raid_laws.proofs.Seated.{gone_fewer, gone_losing, gone_seated, listed, listed_loses, names_joined, whole_then}
use Rattle.raid_laws.proofs.Whole.{heeded_left, heeded_whole}

-- ---- the state without its plan

pub valid_closed : (s : State) (own : ℕ) → is_valid s own ≡ true → is_valid (closed s) own ≡ true
valid_closed s own is =
    let one = and_parts (is_extent s.extent) (has_places s own && (has_arrays s && (list_all is_drive s.drives.items && has_epoch s))) is in
    let two = and_parts (has_places s own) (has_arrays s && (list_all is_drive s.drives.items && has_epoch s)) one.1 in
    let three = and_parts (has_arrays s) (list_all is_drive s.drives.items && has_epoch s) two.1 in
    let four = and_parts (list_all is_drive s.drives.items) (has_epoch s) three.1 in
    let five = and_parts (nat_le 1 s.epoch) (nat_lt s.epoch (2 ^ 63)) four.1 in
    let count = length s.drives.items in
    let places = and_parts (nat_le 2 count && nat_le count 16) (nat_lt own count && nat_lt (planned_place s.plan) count) two.0 in
    let own_low = (and_parts (nat_lt own count) (nat_lt (planned_place s.plan) count) places.1).0 in
    let below = ltb-true own count own_low in
    let low = raised_range s.epoch in
    and_from (is_extent s.extent) _ one.0
    (and_from _ _
    (and_from (nat_le 2 count && nat_le count 16) _ places.0 (and_from (nat_lt own count) (nat_lt 0 count) own_low (lt-ltb 0 count (omega (arith, below)))))
    (and_from (has_arrays s) _ three.0
    (and_from (list_all is_drive s.drives.items) _ four.0
    (and_from (nat_le 1 (raised s.epoch)) (nat_lt (raised s.epoch) (2 ^ 63))
    (le-leb 1 (raised s.epoch) (let first = leb-true 1 s.epoch five.0 in let up = low.0 in omega (arith, first, up)))
    (lt-ltb (raised s.epoch) (2 ^ 63) (low.1 (ltb-true s.epoch (2 ^ 63) five.1)))))))

pub after_closed : (s : State) → OnlyMarksSince s (closed s)
after_closed s = record {
  same = record { pool = refl; extent = refl; drives = refl; plan = inr refl; made = refl; joined = refl; serial = refl };
  epoch = (raised_range s.epoch).0;
  raised = inr (raised_later s.epoch);
  current = λ p is. is;
}

-- an array of the pool is one by it
pub seated_closed : (s : State) (n : ℕ) (u : View) (x : RackView) → IsSeated s n u x → IsSeated (closed s) n u x
seated_closed s n u x seated =
    let pool = seated.is_of_pool in
    record {
      is_array = seated.is_array;
      number = seated.number;
      slices = seated.slices;
      marks = seated.marks;
      is_of_pool = record {
        set = pool.set;
        profile = pool.profile;
        events = pool.events;
        events_end = pool.events_end;
        row = pool.row;
        roles = pool.roles;
        unsynced = pool.unsynced;
        synced = pool.synced;
        zeroed = pool.zeroed;
        rows = pool.rows;
      };
    }

-- a whole array is so once places are noted as gone, or one of them is current
whole_listed : (s : State) (n : ℕ) (u : View) (gone : List ℕ) (x : RackView) → IsSeated s n u x → is_whole_array u ≡ true
    → (is_whole_array (without gone u) ≡ true) ⊎ ((p : ℕ) × (is_current s p ≡ true) × (names gone p ≡ true))
unfolding listed
whole_listed s n u gone x seated all =
    whole_then s n u (listed u gone) (names gone) x seated
    (record { number = refl; truth = refl; devices = refl; resync = refl; young = refl; marked = refl })
    (listed_loses u gone seated.is_array).seats all

-- ---- the commit

-- the pool after it
abbrev pub closed_raid : Raid → ℕ → (ℕ → View) → Raid
closed_raid v number f = record v { state = closed v.state; number = number; arrays = f }

-- the commit, and who went in it noted in all arrays
pub record IsClosing (v : Raid) (on gone : List ℕ) (l : LogView) (f : ℕ → View) (b c : RackView) : Type 0 where
  pub set : IsSet v b
  pub heeded : IsHeeded v
  pub copies : AddsCopies (closed v.state) on [] l.added
  pub number : l.number ≡ v.number
  pub on_is : on ≡ current_places (closed v.state)
  pub call : CommitCall l on gone b c
  pub arrays : (n : ℕ) → n < v.state.made → f n ≡ without gone (v.arrays n)
  pub sectors : (n : ℕ) → sectors_of (f n) ≡ sectors_of (v.arrays n)

module _ (v : Raid) (on gone : List ℕ) (l : LogView) (f : ℕ → View) (b c : RackView) (commit : IsClosing v on gone l f b c) where
  pub closing_named : (p : ℕ) → names on p ≡ is_current v.state p
  closing_named p = ap (λ ps. names ps p) commit.on_is ∙ names_current (closed v.state) p

  are_copies : AreCopiesOn (closed v.state) on l.added
  are_copies = subst (AreCopiesOn (closed v.state) on) (sym commit.copies.appended) commit.copies.copies

  -- its targets are the states' sectors of its places
  pub closing_target : (x : Target) → AmongTargets x l.added → IsCopyFor (closed v.state) on x
  closing_target x among = copies_from (closed v.state) on l.added x are_copies among

  pub closing_none : (d t : ℕ) → ((p : ℕ) → names on p ≡ true → d ≡ log_slice p → t ≡ 0 → ⊥) → look l.added d t ≡ None
  closing_none d t other =
      look_lacks l.added d t
      (λ x among disk sector.
      let copy = closing_target x among in
      other copy.place copy.named (sym disk ∙ copy.copy.disk) (sym sector ∙ copy.copy.sector))

  pub closing_data : NoData l.added
  closing_data d t w is =
      let at = look_among l.added d t w is in
      let disk = (closing_target at.0 at.1).copy.disk in
      let same = at.2 in
      inl (omega (arith, disk, same))

  -- who goes in it is one of those it writes to
  pub closing_current : (p : ℕ) → names gone p ≡ true → is_current v.state p ≡ true
  closing_current p is =
      sym (closing_named p)
      ∙ elim (commit.call.gone.called p is) [
        | inl named ↦ named
        | inr any ↦ copies_inside (closed v.state) on l.added p are_copies any
      ]

  pub closing_few : (p : ℕ) → names gone p ≡ true → p < 16
  closing_few p is = current_few v.state p commit.set.few (closing_current p is)

  -- after it those have gone that went in it
  pub closing_gone : (p : ℕ) → gone_in (closed_raid v (next_number l.number) f) p ≡ true → names gone p ≡ true
  closing_gone p is =
      let at = gone_some (closed_raid v (next_number l.number) f) p is in
      let n = at.1.0 in
      sym (ap (λ (u : View). has_gone u p) (commit.arrays n at.1.1) ∙ names_joined (v.arrays n).went gone p at.0
      ∙ ap (λ (ps : List ℕ). names ps p || names gone p) (commit.heeded n at.1.1)) ∙ at.1.2

  pub closing_went : (n p : ℕ) → n < v.state.made → gone_in (closed_raid v (next_number l.number) f) p ≡ names gone p
  closing_went n p low =
      bool_same (gone_in (closed_raid v (next_number l.number) f) p) (names gone p) (closing_gone p)
      (λ is.
      gone_from (closed_raid v (next_number l.number) f) p n (closing_few p is) low
      (ap (λ (u : View). has_gone u p) (commit.arrays n low) ∙ names_joined (v.arrays n).went gone p (closing_few p is)
      ∙ ap (λ (ps : List ℕ). names ps p || names gone p) (commit.heeded n low) ∙ is))

  pub closing_left : (p : ℕ) → is_left (closed_raid v (next_number l.number) f) p ≡ true → is_left v p ≡ true
  closing_left p is = heeded_left v p commit.heeded (and_parts (is_current v.state p) (not (gone_in (closed_raid v (next_number l.number) f) p)) is).0

  pub closing_cause : (p : ℕ) → is_left v p ≡ true → is_left (closed_raid v (next_number l.number) f) p ≡ false → HasFault b c p
  closing_cause p was now =
      let current = (and_parts (is_current v.state p) (not (gone_in v p)) was).0 in
      elim (cases_Bool (gone_in (closed_raid v (next_number l.number) f) p)) [
        | inl is ↦ commit.call.gone.cause p (closing_gone p is)
        | inr none ↦
            absurd (both_ways (is_left (closed_raid v (next_number l.number) f) p) now
            (and_from (is_current v.state p) (not (gone_in (closed_raid v (next_number l.number) f) p)) current (ap not none)))
      ]

  pub closing_further : IsFurther v (closed_raid v (next_number l.number) f)
  closing_further = record {
    left = closing_left;
    number = let more = next_later l.number in let same = commit.number in omega (arith, more, same);
    epoch = (raised_range v.state.epoch).0;
    made = refl;
    events = λ n low. subst (λ (u : View). (v.arrays n).truth.events ≤ u.truth.events) (sym (commit.arrays n low)) (omega arith);
    seats = λ n low. subst (λ (u : View). present u.seats ≤ present (v.arrays n).seats) (sym (commit.arrays n low)) (gone_fewer (v.arrays n) gone (commit.set.arrays n low).is_array);
  }

  pub closing_losing : (n : ℕ) → n < v.state.made → IsLosing (v.arrays n) (f n) (names gone)
  closing_losing n low =
      subst (λ (u : View). IsLosing (v.arrays n) u (names gone)) (sym (commit.arrays n low))
      (gone_losing (v.arrays n) gone (commit.set.arrays n low).is_array (λ none. commit.heeded n low))

  -- a marked array is whole still, or a current place went
  closing_whole : (n : ℕ) → n < v.state.made → IsMarkedWhole (closed_raid v (next_number l.number) f) n
  closing_whole n low is =
      let u = v.arrays n in
      let seated = commit.set.arrays n low in
      let was = heeded_whole v n commit.heeded (commit.set.marked n low) (ap (λ (w : View). w.marked) (sym (commit.arrays n low)) ∙ is) in
      elim (whole_listed v.state n u gone b seated was) [
        | inl all ↦ inl (ap is_whole_array (commit.arrays n low) ∙ all)
        | inr lost ↦ inr (lost.0, lost.1, closing_went n lost.0 low ∙ lost.2)
      ]

  pub closing_set : IsSet (closed_raid v (next_number l.number) f) c
  closing_set = record {
    fit = commit.call.stays.fit;
    lasting = commit.call.stays.lasting commit.set.lasting;
    disks = commit.call.stays.disks ∙ commit.set.disks;
    few = commit.set.few;
    most = commit.set.most;
    valid = λ p low. valid_closed v.state p (commit.set.valid p low);
    logs = λ p left. commit.call.stays.sectors (log_slice p) ∙ commit.set.logs p (closing_left p left);
    arrays = λ n low.
        subst (λ (u : View). IsSeated (closed v.state) n u c) (sym (commit.arrays n low))
        (gone_seated (closed v.state) n (v.arrays n) gone c (stays_same c commit.call.stays.fit) (λ p current. current_few v.state p commit.set.few current)
        (seated_closed v.state n (v.arrays n) c (seated_still v.state n (v.arrays n) b c commit.call.stays (commit.set.arrays n low))));
    marked = closing_whole;
  }

  -- a drive that is marked isn't written
  pub closing_unwritten : (d t : ℕ) → IsLive b c d t → is_current v.state (place_of d) ≡ false → Keeps (b.held d t) (c.held d t)
  closing_unwritten d t live marked =
      elim (cases_eq (slice_of d) 0) [ inl log ↦ of_log t refl log | inr apart ↦ commit.call.apart d t live (λ part. apart part.0) none ]
    where
      unnamed : names on (place_of d) ≡ false
      unnamed = closing_named (place_of d) ∙ marked

      none : look l.added d t ≡ None
      none =
          closing_none d t
          (λ p named disk first.
          let here : p ≡ place_of d = omega (arith, disk) in
          both_ways (names on (place_of d)) unnamed (subst (λ q. names on q ≡ true) here named))

      of_log : (i : ℕ) → t ≡ i → slice_of d ≡ 0 → Keeps (b.held d t) (c.held d t)
      of_log zero first log = commit.call.apart d t live (λ part. let later = part.1 in absurd (omega (arith, first, later))) none
      of_log (suc i) later log =
          let own : log_slice (place_of d) ≡ d = omega (arith, log) in
          subst (λ e. Keeps (b.held e t) (c.held e t)) own
          (commit.call.around (place_of d) t (subst (λ e. IsLive b c e t) (sym own) live) (omega (arith, later)) (inl unnamed))

  -- the copies bring the state
  pub closing_brings : v.state.epoch < 2 ^ 63 - 1 → BringsState v.state (closed v.state) l.added on
  closing_brings room =
      copies_bring (closed v.state) v.state on [] l.added commit.copies
      (let e : raised v.state.epoch ≡ v.state.epoch + 1 = ap (λ (b : Bool). if b then v.state.epoch + 1 else v.state.epoch) (lt-ltb v.state.epoch (2 ^ 63 - 1) room) in omega (arith, e))
      (λ p is. is) closing_named
      (λ p is. absurd (both_ways false refl is))
      (λ p. look_nothing (log_slice p) 0)
