-- The commit that marks losses, as a part of a call: what holds of the arrays by the marked state.
use Rattle.std.proofs.Common.{◌≡◌, ◌⊎◌, ℕ, zero, suc, ◌+◌, ◌-◌, ◌^◌, ◌<◌, ◌≤◌, Bool, true, false, ◌==◌, ◌&&◌, ◌||◌, not, nat_lt, nat_le, if◌then◌else◌, List, [], ◌∷◌, map, Some, None, refl, sym, ap, subst, ◌∙◌, inl, inr, eqb-true, lt-ltb, le-ltb, ltb-true, arith}
use Rattle.std.proofs.lemmas.Bool.{cases_Bool, cases_eq, cases_lt, both_ways, and_parts, and_from, le-leb, leb-true}
use Rattle.std.specs.List.{list_all}
use Rattle.rack.specs.Values.{Keeps}
use Rattle.rack.specs.Seen.{RackView, IsLive}
use Rattle.rack.specs.Joins.{stays_same}
use Rattle.rack.specs.Targets.{Target, look}
use Rattle.pool_state.specs.Valid.{is_valid, is_drive, is_extent, has_places, has_arrays, has_epoch, place_of as planned_place}
use Rattle.pool_state.specs.declared.contents.Drive.{Drive}
use Rattle.pool_state.specs.declared.contents.State.{State}
use Rattle.array_image.specs.Places.{log_slice, place_of, slice_of}
use Rattle.array_image.specs.States.{is_current}
use Rattle.array_image.specs.Supers.{has_roles}
use Rattle.log_laws.specs.View.{LogView, names, next_number}
use Rattle.log_laws.specs.Commits.{CommitCall}
use Rattle.log_laws.specs.Kept.{gone_with}
use Rattle.array_model.specs.View.{View, HasFault, has_gone, place_at, present, sectors_of}
use Rattle.array_model.proofs.Losses.{IsLosing}
use Rattle.array_core.specs.Seats.{gone as without}
use Rattle.raid_laws.specs.Raid.{Raid, gone_in, is_left}
use Rattle.raid_laws.specs.Book.{OnlyMarksSince, drive_of}
use Rattle.raid_laws.specs.Missing.{marked, marked_from, raised}
use Rattle.raid_laws.specs.Moves.{IsSet, IsSeated, IsUnmarked}
use Rattle.raid_laws.specs.Settling.{IsMarking, state_after}
use Rattle.raid_laws.specs.Vacated.{vacated_state}
use Rattle.raid_laws.proofs.Missing.{current_marked, length_marked}
use Rattle.raid_laws.proofs.Over.{IsFurther, not_true}
use Rattle.raid_laws.proofs.Seated.{gone_losing, gone_fewer, gone_seated, names_joined}
use Rattle.raid_laws.proofs.Noted.{current_few, gone_some, gone_from, gone_not, bool_same}
use Rattle.raid_laws.proofs.Changed.{seated_still}
use Rattle.raid_laws.proofs.Elements.{any_among, look_lacks}
use Rattle.raid_laws.proofs.Adding.{which, current_is, on_current, was_current, there_current, super_place}

-- ---- the marked state

drives_valid : (places : List ℕ) (n : ℕ) (ds : List Drive) → list_all is_drive (marked_from places n ds) ≡ list_all is_drive ds
unfolding marked_from
drives_valid places n [] = refl
drives_valid places n (d ∷ ds) = ap (λ b. is_drive d && b) (drives_valid places (n + 1) ds)

drives_same : (places : List ℕ) (n : ℕ) (ds : List Drive) → map drive_of (marked_from places n ds) ≡ map drive_of ds
unfolding marked_from
drives_same places n [] = refl
drives_same places n (d ∷ ds) = ap (λ rest. drive_of d ∷ rest) (drives_same places (n + 1) ds)

pub raised_range : (e : ℕ) → (e ≤ raised e) × (e < 2 ^ 63 → raised e < 2 ^ 63)
raised_range e = elim (cases_lt e (2 ^ 63 - 1)) [
  | inl room ↦
      let is : raised e ≡ e + 1 = ap (λ (b : Bool). if b then e + 1 else e) (lt-ltb e (2 ^ 63 - 1) room) in
      (omega (arith, is), λ low. omega (arith, is, room))
  | inr last ↦
      let is : raised e ≡ e = ap (λ (b : Bool). if b then e + 1 else e) (le-ltb e (2 ^ 63 - 1) last) in
      (omega (arith, is), λ low. omega (arith, is, low))
]

-- below the last one it is raised
pub raised_more : (e : ℕ) → e < 2 ^ 63 - 1 → e < raised e
raised_more e room = let is : raised e ≡ e + 1 = ap (λ (b : Bool). if b then e + 1 else e) (lt-ltb e (2 ^ 63 - 1) room) in omega (arith, is)

-- it is raised until the last one
pub raised_later : (e : ℕ) → (e < raised e) ⊎ (2 ^ 63 - 1 ≤ raised e)
raised_later e = elim (cases_lt e (2 ^ 63 - 1)) [
  | inl room ↦ inl (let is : raised e ≡ e + 1 = ap (λ (b : Bool). if b then e + 1 else e) (lt-ltb e (2 ^ 63 - 1) room) in omega (arith, is))
  | inr last ↦ inr (let is : raised e ≡ e = ap (λ (b : Bool). if b then e + 1 else e) (le-ltb e (2 ^ 63 - 1) last) in omega (arith, is, last))
]

pub valid_marked : (lost : List ℕ) (s : State) (own : ℕ) → is_valid s own ≡ true → is_valid (marked lost s) own ≡ true
valid_marked lost s own is =
    let one = and_parts (is_extent s.extent) (has_places s own && (has_arrays s && (list_all is_drive s.drives.items && has_epoch s))) is in
    let two = and_parts (has_places s own) (has_arrays s && (list_all is_drive s.drives.items && has_epoch s)) one.1 in
    let three = and_parts (has_arrays s) (list_all is_drive s.drives.items && has_epoch s) two.1 in
    let four = and_parts (list_all is_drive s.drives.items) (has_epoch s) three.1 in
    let five = and_parts (nat_le 1 s.epoch) (nat_lt s.epoch (2 ^ 63)) four.1 in
    let low = raised_range s.epoch in
    and_from (is_extent s.extent) _ one.0
    (and_from _ _
    (ap (λ k. (nat_le 2 k && nat_le k 16) && (nat_lt own k && nat_lt (planned_place s.plan) k)) (length_marked lost 0 s.drives.items) ∙ two.0)
    (and_from (has_arrays s) _ three.0
    (and_from _ _ (drives_valid lost 0 s.drives.items ∙ four.0)
    (and_from (nat_le 1 (raised s.epoch)) (nat_lt (raised s.epoch) (2 ^ 63))
    (le-leb 1 (raised s.epoch) (let first = leb-true 1 s.epoch five.0 in let up = low.0 in omega (arith, first, up)))
    (lt-ltb (raised s.epoch) (2 ^ 63) (low.1 (ltb-true s.epoch (2 ^ 63) five.1)))))))

-- so it is of the same epoch
pub valid_vacated : (place : ℕ) (s : State) (own : ℕ) → is_valid s own ≡ true → is_valid (vacated_state place s) own ≡ true
valid_vacated place s own is =
    let lost = place ∷ [] in
    let one = and_parts (is_extent s.extent) (has_places s own && (has_arrays s && (list_all is_drive s.drives.items && has_epoch s))) is in
    let two = and_parts (has_places s own) (has_arrays s && (list_all is_drive s.drives.items && has_epoch s)) one.1 in
    let three = and_parts (has_arrays s) (list_all is_drive s.drives.items && has_epoch s) two.1 in
    let four = and_parts (list_all is_drive s.drives.items) (has_epoch s) three.1 in
    and_from (is_extent s.extent) _ one.0
    (and_from _ _
    (ap (λ k. (nat_le 2 k && nat_le k 16) && (nat_lt own k && nat_lt (planned_place s.plan) k)) (length_marked lost 0 s.drives.items) ∙ two.0)
    (and_from (has_arrays s) _ three.0
    (and_from _ _ (drives_valid lost 0 s.drives.items ∙ four.0) four.1)))

pub after_marked : (lost : List ℕ) (s : State) → OnlyMarksSince s (marked lost s)
after_marked lost s = record {
  same = record { pool = refl; extent = refl; drives = drives_same lost 0 s.drives.items; plan = inl refl; made = refl; joined = refl; serial = refl };
  epoch = (raised_range s.epoch).0;
  raised = inr (raised_later s.epoch);
  current = λ p is. (and_parts (is_current s p) (not (names lost p)) (sym (current_marked lost s p) ∙ is)).0;
}

-- an array of the pool is one by the marked state, where it has noted the lost places
pub seated_marked : (s : State) (lost : List ℕ) (n : ℕ) (u : View) (x : RackView) → ((p : ℕ) → names lost p ≡ true → has_gone u p ≡ true)
    → IsUnmarked u → IsSeated s n u x → IsSeated (marked lost s) n u x
seated_marked s lost n u x noted unmarked seated =
    let pool = seated.is_of_pool in
    record {
      is_array = seated.is_array;
      number = seated.number;
      slices = seated.slices;
      marks = λ k low.
          let p = place_at u k in
          seated.marks k low
          ∙ ap (λ b. Some (not b)) (of (is_current s p) (names lost p) (has_gone u p) (noted p) ∙ ap (λ b. b && not (has_gone u p)) (sym (current_marked lost s p)));
      is_of_pool = record {
        set = pool.set;
        profile = pool.profile;
        events = pool.events;
        events_end = pool.events_end;
        row = pool.row;
        roles = ap (λ k. has_roles k u.truth) (length_marked lost 0 s.drives.items) ∙ pool.roles;
        unsynced = pool.unsynced;
        synced = λ young part. inl (unmarked.rows young);
        zeroed = pool.zeroed;
        rows = pool.rows;
      };
    }
  where
    of : (c l g : Bool) → (l ≡ true → g ≡ true) → (c && not g) ≡ ((c && not l) && not g)
    of false l g more = refl
    of true false g more = refl
    of true true g more = ap not (more refl)

-- ---- the raid after it

abbrev pub raid_after : Raid → List ℕ → ℕ → (ℕ → View) → Raid
raid_after v lost number f = record v { state = state_after v lost; number = number; arrays = f }

-- The commit, by the logs of some of the places that the state has which it brings, and who went in it noted in all arrays.
pub record IsCommitBy (v : Raid) (lost on by gone : List ℕ) (l : LogView) (xs : List Target) (f : ℕ → View) (b c : RackView) : Type 0 where
  pub marking : IsMarking v lost on l xs b
  pub call : CommitCall l by gone b c
  pub fewer : (p : ℕ) → names by p ≡ true → names on p ≡ true
  pub arrays : (n : ℕ) → n < v.state.made → f n ≡ without gone (v.arrays n)
  pub sectors : (n : ℕ) → sectors_of (f n) ≡ sectors_of (v.arrays n)

-- by the logs of all of them
abbrev pub IsCommit : Raid → (lost on gone : List ℕ) → LogView → List Target → (ℕ → View) → RackView → RackView → Type 0
IsCommit v lost on gone l xs f b c = IsCommitBy v lost on on gone l xs f b c

pub next_later : (n : ℕ) → n ≤ next_number n
next_later n = elim (cases_lt n (2 ^ 63 - 1)) [
  | inl room ↦ let is : next_number n ≡ n + 1 = ap (λ (b : Bool). if b then n + 1 else n) (lt-ltb n (2 ^ 63 - 1) room) in omega (arith, is)
  | inr last ↦ let is : next_number n ≡ n = ap (λ (b : Bool). if b then n + 1 else n) (le-ltb n (2 ^ 63 - 1) last) in omega (arith, is)
]

module _ (v : Raid) (lost on : List ℕ) {by : List ℕ} (gone : List ℕ) (l : LogView) (xs : List Target) (f : ℕ → View) (b c : RackView)
    (commit : IsCommitBy v lost on by gone l xs f b c) where
  marking : IsMarking v lost on l xs b
  marking = commit.marking

  set_before : IsSet v b
  set_before = commit.marking.set

  -- who goes in it is one of those it writes to
  pub gone_current : (p : ℕ) → names gone p ≡ true → is_current (state_after v lost) p ≡ true
  gone_current p is =
      elim (commit.call.gone.called p is) [
        | inl named ↦ sym (on_current v lost on l xs b commit.marking p) ∙ commit.fewer p named
        | inr any ↦
            let at = any_among (λ t. place_of t.disk == p) l.added any in
            let here = eqb-true (place_of at.0.disk) p at.2 in
            elim (which v lost on l xs b commit.marking at.0 at.1) [
              | inl super ↦
                  subst (λ q. is_current (state_after v lost) q ≡ true) (sym (super_place v lost on l xs b commit.marking at.0 super) ∙ here)
                  (there_current v lost on l xs b commit.marking at.0 super)
              | inr copy ↦
                  let disk = copy.copy.disk in
                  let same : copy.place ≡ p = omega (arith, disk, here) in
                  subst (λ q. is_current (state_after v lost) q ≡ true) same (sym (on_current v lost on l xs b commit.marking copy.place) ∙ copy.named)
            ]
      ]

  -- a drive that is marked already isn't written, nor is one that the commit marks
  pub commit_unmarked : (d t : ℕ) → IsLive b c d t → is_current (state_after v lost) (place_of d) ≡ false → Keeps (b.held d t) (c.held d t)
  commit_unmarked d t live marked =
      elim (cases_eq (slice_of d) 0) [ inl log ↦ of_log t refl log | inr apart ↦ commit.call.apart d t live (λ part. apart part.0) none ]
    where
      gone_now : (p : ℕ) → place_of d ≡ p → is_current (state_after v lost) p ≡ true → ⊥
      gone_now p here is = both_ways (is_current (state_after v lost) p) (subst (λ q. is_current (state_after v lost) q ≡ false) here marked) is

      none : look l.added d t ≡ None
      none =
          look_lacks l.added d t
          (λ x among disk sector.
          elim (which v lost on l xs b commit.marking x among) [
            | inl super ↦
                gone_now (place_of x.disk) (sym (ap place_of disk))
                (subst (λ q. is_current (state_after v lost) q ≡ true) (sym (super_place v lost on l xs b commit.marking x super))
                (there_current v lost on l xs b commit.marking x super))
            | inr copy ↦
                let at = copy.copy.disk in
                gone_now copy.place (omega (arith, at, disk)) (sym (on_current v lost on l xs b commit.marking copy.place) ∙ copy.named)
          ])

      unnamed : names by (place_of d) ≡ false
      unnamed =
          elim (cases_Bool (names by (place_of d))) [
            | inl is ↦ absurd (gone_now (place_of d) refl (sym (on_current v lost on l xs b commit.marking (place_of d)) ∙ commit.fewer (place_of d) is))
            | inr not ↦ not
          ]

      of_log : (i : ℕ) → t ≡ i → slice_of d ≡ 0 → Keeps (b.held d t) (c.held d t)
      of_log zero first log = commit.call.apart d t live (λ part. let later = part.1 in absurd (omega (arith, first, later))) none
      of_log (suc i) later log =
          let own : log_slice (place_of d) ≡ d = omega (arith, log) in
          subst (λ e. Keeps (b.held e t) (c.held e t)) own
          (commit.call.around (place_of d) t (subst (λ e. IsLive b c e t) (sym own) live) (omega (arith, later)) (inl unnamed))

  pub commit_unwritten : (d t : ℕ) → IsLive b c d t → is_current v.state (place_of d) ≡ false → Keeps (b.held d t) (c.held d t)
  commit_unwritten d t live marked =
      commit_unmarked d t live
      (elim (cases_Bool (is_current (state_after v lost) (place_of d))) [
        | inl is ↦ absurd (both_ways (is_current v.state (place_of d)) marked (was_current v lost on l xs b commit.marking (place_of d) is))
        | inr not ↦ not
      ])

  pub gone_few : (p : ℕ) → names gone p ≡ true → p < 16
  gone_few p is = current_few v.state p set_before.few (was_current v lost on l xs b commit.marking p (gone_current p is))

  w : Raid
  w = raid_after v lost (next_number l.number) f

  pub after_more : (p : ℕ) → gone_in v p ≡ true → gone_in (raid_after v lost (next_number l.number) f) p ≡ true
  after_more p is =
      let at = gone_some v p is in
      gone_from (raid_after v lost (next_number l.number) f) p at.1.0 at.0 at.1.1
      (ap (λ (u : View). has_gone u p) (commit.arrays at.1.0 at.1.1) ∙ names_joined (v.arrays at.1.0).went gone p at.0 ∙ ap (λ x. x || names gone p) at.1.2)

  pub after_new : (p : ℕ) → gone_in v p ≡ false → gone_in (raid_after v lost (next_number l.number) f) p ≡ true → names gone p ≡ true
  after_new p not_yet is =
      let at = gone_some (raid_after v lost (next_number l.number) f) p is in
      let n = at.1.0 in
      let either : (has_gone (v.arrays n) p || names gone p) ≡ true =
      sym (ap (λ (u : View). has_gone u p) (commit.arrays n at.1.1) ∙ names_joined (v.arrays n).went gone p at.0) ∙ at.1.2 in
      sym (ap (λ x. x || names gone p) (gone_not v p n at.0 at.1.1 not_yet)) ∙ either

  pub after_gone : (n p : ℕ) → n < v.state.made → gone_in (raid_after v lost (next_number l.number) f) p ≡ gone_with (gone_in v) gone p
  after_gone n p low =
      elim (cases_Bool (gone_in v p)) [
        | inl was ↦ after_more p was ∙ sym (ap (λ x. x || names gone p) was)
        | inr not_yet ↦
            bool_same (gone_in (raid_after v lost (next_number l.number) f) p) (names gone p) (after_new p not_yet)
            (λ is.
            gone_from (raid_after v lost (next_number l.number) f) p n (gone_few p is) low
            (ap (λ (u : View). has_gone u p) (commit.arrays n low) ∙ names_joined (v.arrays n).went gone p (gone_few p is)
            ∙ ap (λ x. has_gone (v.arrays n) p || x) is ∙ or_true (has_gone (v.arrays n) p)))
            ∙ sym (ap (λ x. x || names gone p) not_yet)
      ]
    where
      or_true : (x : Bool) → (x || true) ≡ true
      or_true true = refl
      or_true false = refl

  pub after_left : (p : ℕ) → is_left (raid_after v lost (next_number l.number) f) p ≡ true → is_left v p ≡ true
  after_left p is =
      let both = and_parts (is_current (state_after v lost) p) (not (gone_in (raid_after v lost (next_number l.number) f) p)) is in
      sym (current_is v lost on l xs b commit.marking p) ∙ both.0

  pub after_cause : (p : ℕ) → is_left v p ≡ true → is_left (raid_after v lost (next_number l.number) f) p ≡ false → HasFault b c p
  after_cause p was now =
      let current : is_current (state_after v lost) p ≡ true = current_is v lost on l xs b commit.marking p ∙ was in
      let not_yet = not_true (gone_in v p) (and_parts (is_current v.state p) (not (gone_in v p)) was).1 in
      elim (cases_Bool (gone_in (raid_after v lost (next_number l.number) f) p)) [
        | inl is ↦ commit.call.gone.cause p (after_new p not_yet is)
        | inr none ↦
            absurd (both_ways (is_left (raid_after v lost (next_number l.number) f) p) now
            (and_from (is_current (state_after v lost) p) (not (gone_in (raid_after v lost (next_number l.number) f) p)) current (ap not none)))
      ]

  pub after_set : IsSet (raid_after v lost (next_number l.number) f) c
  after_set = record {
    fit = commit.call.stays.fit;
    lasting = commit.call.stays.lasting set_before.lasting;
    disks = commit.call.stays.disks ∙ set_before.disks;
    few = subst (λ k. k ≤ 16) (sym (length_marked lost 0 v.state.drives.items)) set_before.few;
    most = set_before.most;
    valid = λ p low. valid_marked lost v.state p (set_before.valid p (subst (λ k. p < k) (length_marked lost 0 v.state.drives.items) low));
    logs = λ p left. commit.call.stays.sectors (log_slice p) ∙ set_before.logs p (after_left p left);
    arrays = λ n low.
        subst (λ (u : View). IsSeated (state_after v lost) n u c) (sym (commit.arrays n low))
        (gone_seated (state_after v lost) n (v.arrays n) gone c (stays_same c commit.call.stays.fit)
        (λ p current. current_few v.state p set_before.few (was_current v lost on l xs b commit.marking p current))
        (seated_marked v.state lost n (v.arrays n) c (λ p is. commit.marking.noted n p low is) (commit.marking.staged.each n low).unmarked
        (seated_still v.state n (v.arrays n) b c commit.call.stays (set_before.arrays n low))));
    marked = λ n low is.
        absurd (both_ways (v.arrays n).marked (commit.marking.staged.each n low).unmarked.mark (ap (λ (u : View). u.marked) (sym (commit.arrays n low)) ∙ is));
  }

  pub after_losing : (n : ℕ) → n < v.state.made → ((without gone (v.arrays n)).went ≡ [] → (v.arrays n).went ≡ []) → IsLosing (v.arrays n) (f n) (names gone)
  after_losing n low went =
      subst (λ (u : View). IsLosing (v.arrays n) u (names gone)) (sym (commit.arrays n low))
      (gone_losing (v.arrays n) gone (set_before.arrays n low).is_array went)

  pub after_further : IsFurther v (raid_after v lost (next_number l.number) f)
  after_further = record {
    left = after_left;
    number = let more = next_later l.number in let same = commit.marking.number in omega (arith, more, same);
    epoch = (raised_range v.state.epoch).0;
    made = refl;
    events = λ n low. subst (λ (u : View). (v.arrays n).truth.events ≤ u.truth.events) (sym (commit.arrays n low)) (omega arith);
    seats = λ n low. subst (λ (u : View). present u.seats ≤ present (v.arrays n).seats) (sym (commit.arrays n low)) (gone_fewer (v.arrays n) gone (set_before.arrays n low).is_array);
  }

  pub commit_losing : (n : ℕ) → n < v.state.made → IsLosing (v.arrays n) (f n) (names gone)
  commit_losing n low = after_losing n low (commit.marking.fresh n gone low)
