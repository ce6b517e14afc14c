-- What is known of an array after calls that restate it or do a step of it, and in which places went.
use Rattle.std.proofs.Common.{◌≡◌, ℕ, zero, suc, ◌-◌, ◌/◌, ◌%◌, ◌^◌, ◌<◌, ◌≤◌, Bool, true, false, ◌||◌, nat_lt, if◌then◌else◌, List, [], ◌∷◌, length, slice_get, Option, Some, None, option_map, ◌⊎◌, refl, sym, ap, subst, ◌∙◌, inl, inr, arith}
use Rattle.std.proofs.lemmas.Bool.{cases_Bool, cases_lt, both_ways}
use Rattle.rack.specs.Seen.{RackView, SameRack}
use Rattle.md_super.specs.declared.superblock.Super.{Super}
use Rattle.array_image.specs.Stripes.{capacity}
use Rattle.pool_state.specs.declared.contents.State.{State}
use Rattle.array_image.specs.States.{is_current}
use Rattle.array_image.specs.Arrays.{Shape, first_layout}
use Rattle.array_image.specs.Held.{Among}
use Rattle.array_image.specs.Marks.{lowered}
use Rattle.array_image.specs.SoundArray.{first_unsynced}
use Rattle.array_image.proofs.Marked.{among_lowered}
use Rattle.array_model.specs.declared.Seat.{Seat}
use Rattle.array_model.specs.declared.Seat.TheVariants.{Missing}
use Rattle.array_model.specs.View.{View, IsArray, LosesPlaces, has_gone, is_whole_array, place_at, seat_unless, present, sectors_of, shape_of, spent_in}
use Rattle.array_model.specs.Members.{Notes}
use Rattle.array_model.proofs.Views.{shape_then, fewer_left}
use Rattle.array_model.proofs.Noting.{losing_by}
use Rattle.raid_laws.specs.Raid.{Raid, gone_in, IsWritten}
use Rattle.log_laws.specs.View.{names}
use Rattle.raid_laws.specs.Moves.{IsSet, IsSeated, AreMarked, OnlyFailures}
use Rattle.raid_laws.proofs.Changed.{LosesOne, ViewsOne, lowered_none, or_left}
use Rattle.raid_laws.specs.Losing.{only_then}
use Rattle.raid_laws.proofs.Losing.{only_notes}
use Rattle.raid_laws.proofs.Seated.{with_seats, view_with, seated_with, missing_of, place_few, whole_then}
use Rattle.raid_laws.proofs.Noted.{with_arrays, gone_from, losing_spent}

of_shape : (w : View) (went : List ℕ) → shape_of (with_seats w w.seats went) ≡ shape_of w
unfolding shape_of
of_shape w went = refl

-- ---- places lost

-- no place is lost that its seats go by
shape_still : (u w : View) (lost : ℕ → Bool) → IsArray u → w.truth ≡ u.truth → LosesPlaces u w lost
    → ((k : ℕ) → k < u.truth.raid_disks → lost (place_at u k) ≡ true → slice_get u.seats k ≡ Some Missing)
    → shape_of u ≡ shape_of w
shape_still u w lost is_array truth loses missing =
    sym (shape_then u (with_seats w w.seats u.went) (λ p. false) truth
    (record { seats = λ k. loses.seats k ∙ kept k (lost (place_at u k)) refl; went = λ p. refl })
    ∙ lowered_none (shape_of u))
    ∙ of_shape w u.went
  where
    past : (xs : List Seat) (k : ℕ) → length xs ≤ k → slice_get xs k ≡ None
    past [] k high = refl
    past (x ∷ xs) zero high = absurd (omega (arith, high))
    past (x ∷ xs) (suc k) high = past xs k (omega (arith, high))

    none_lost : (b : Bool) (o : Option Seat) → (b ≡ true → (o ≡ Some Missing) ⊎ (o ≡ None)) → option_map (λ seat. if b then Missing else seat) o ≡ option_map (λ seat. seat) o
    none_lost false o is = refl
    none_lost true o is = elim (is refl) [
      | inl there ↦ ap (option_map (λ seat. Missing)) there ∙ sym (ap (option_map (λ seat. seat)) there)
      | inr none ↦ ap (option_map (λ seat. Missing)) none ∙ sym (ap (option_map (λ seat. seat)) none)
    ]

    kept : (k : ℕ) (b : Bool) → lost (place_at u k) ≡ b → option_map (seat_unless lost (place_at u k)) (slice_get u.seats k) ≡ option_map (seat_unless (λ p. false) (place_at u k)) (slice_get u.seats k)
    kept k b is =
        none_lost (lost (place_at u k)) (slice_get u.seats k)
        (λ gone. elim (cases_lt k u.truth.raid_disks) [
          | inl low ↦ inl (missing k low gone)
          | inr high ↦ inr (past u.seats k (let count = is_array.seats in omega (arith, count, high)))
        ])

-- ---- an array that a step has changed, and places lost

-- Array z is one that a step makes of an array u: one of the pool as well, of as many sectors, with no more members and no fewer events.
pub record IsNext (s : State) (m : ℕ) (u z : View) (x : RackView) : Type 0 where
  pub seated : IsSeated s m z x
  pub went : z.went ≡ u.went
  pub sectors : sectors_of z ≡ sectors_of u
  pub written : IsWritten u → IsWritten z
  pub events : u.truth.events ≤ z.truth.events
  pub seats : present z.seats ≤ present u.seats
  pub was : z.marked ≡ true → (u.marked ≡ true) ⊎ (is_whole_array u ≡ true)
  pub whole : is_whole_array u ≡ true → is_whole_array z ≡ true

pub next_same : (s : State) (m : ℕ) (u : View) (x : RackView) → IsSeated s m u x → IsNext s m u u x
next_same s m u x seated = record {
  seated = seated;
  went = refl;
  sectors = refl;
  written = λ is. is;
  events = omega arith;
  seats = omega arith;
  was = λ marked. inl marked;
  whole = λ all. all;
}

module _ (v : Raid) (f : ℕ → View) (m : ℕ) (a b : RackView) (z : View) (set : IsSet v a) (low : m < v.state.made) (stays : SameRack a b)
    (next : IsNext v.state m (v.arrays m) z a) (notes : Notes z (f m) a b) where
  -- the places that went in it
  next_went : (place : ℕ) → has_gone (f m) place ≡ (notes.lost place || has_gone (v.arrays m) place)
  next_went place = notes.loses.went place ∙ ap (λ (ps : List ℕ). notes.lost place || names ps place) next.went

  pub views_next : ((n : ℕ) → (n ≡ m → ⊥) → f n ≡ v.arrays n) → ((y : ℕ) → spent_in (f m) y ≡ false → spent_in (v.arrays m) y ≡ false) → ViewsOne v f m a b
  views_next others spent =
      let w = f m in
      let fewer = fewer_left z w notes.lost (record { seats = notes.loses.seats; went = notes.loses.went }) in
      record {
        low = low;
        stays = stays;
        others = others;
        seated = subst (λ (k : View). IsSeated v.state m k b) (sym (view_with z w notes.same))
            (seated_with v.state m z w.seats w.went notes.lost a b stays next.seated notes.loses.seats (λ p current. notes.loses.went p));
        lost = notes.lost;
        went = next_went;
        cause = notes.cause;
        written = λ was. subst IsWritten (sym (view_with z w notes.same)) (next.written was);
        spent = spent;
        sectors = ap (λ (t : Super). capacity (first_layout t) t.size) notes.same.truth ∙ next.sectors;
        events = subst (λ (t : Super). (v.arrays m).truth.events ≤ t.events) (sym notes.same.truth) next.events;
        seats = let few = next.seats in omega (arith, few, fewer);
        was = λ marked. next.was (sym notes.same.marked ∙ marked);
        whole = λ all. whole_then v.state m z w notes.lost a next.seated notes.same notes.loses.seats (next.whole all);
      }

  -- where whoever went is marked, it has the shape by the marks that images go by
  pub next_shape : AreMarked (with_arrays v f) → shape_of z ≡ shape_of (f m)
  next_shape are =
      shape_still z (f m) notes.lost next.seated.is_array notes.same.truth notes.loses
      (λ k few lost.
      let p = place_at z k in
      let none : is_current v.state p ≡ false =
      elim (cases_Bool (is_current v.state p)) [
        | inl current ↦
            absurd (both_ways (gone_in (with_arrays v f) p) (are p current)
            (gone_from (with_arrays v f) p m (place_few z k next.seated.is_array few) low
            (next_went p ∙ or_left (notes.lost p) (has_gone (v.arrays m) p) lost)))
        | inr other ↦ other
      ] in
      missing_of (slice_get z.seats k) (is_current v.state p) (has_gone z p) none (next.seated.marks k few))

-- ---- its superblock restated

-- the array with another count of events, other rows left by its truth, and another mark
abbrev pub restated : View → ℕ → ℕ → Bool → View
restated u events offset mark = record u { truth = record u.truth { events = events; resync_offset = offset }; marked = mark }

-- the new truth is one of a pool
pub record MayRestate (u : View) (events offset : ℕ) : Type 0 where
  pub later : u.truth.events ≤ events
  pub some : 0 < events
  pub few : events < 2 ^ 63
  pub whole : ((u.truth.resync_offset ≡ 2 ^ 64 - 1) ⊎ (u.truth.resync_offset % 128 ≡ 0)) → (offset ≡ 2 ^ 64 - 1) ⊎ (offset % 128 ≡ 0)
  pub unsynced : (if nat_lt offset u.truth.size then offset / 128 else u.truth.size / 128) ≤ u.resync
  pub synced :
      u.young ≡ false → is_whole_array u ≡ false → first_unsynced u.truth ≡ u.resync
      → (if nat_lt offset u.truth.size then offset / 128 else u.truth.size / 128) ≡ u.resync

pub seated_restated : (s : State) (n : ℕ) (u : View) (events offset : ℕ) (mark : Bool) (x : RackView) → MayRestate u events offset
    → IsSeated s n u x → IsSeated s n (restated u events offset mark) x
seated_restated s n u events offset mark x may seated =
    let a = seated.is_array in
    let pool = seated.is_of_pool in
    record {
      is_array = record {
        few = a.few;
        level = a.level;
        least = a.least;
        most = a.most;
        seats = a.seats;
        devices = a.devices;
        small = a.small;
        whole_rows = a.whole_rows;
        placed = a.placed;
        synced = a.synced;
        reshape = a.reshape;
      };
      number = seated.number;
      slices = record { fit = seated.slices.fit; lasting = seated.slices.lasting; disks = seated.slices.disks; sectors = seated.slices.sectors };
      marks = seated.marks;
      is_of_pool = record {
        set = pool.set;
        profile = pool.profile;
        events = may.some;
        events_end = may.few;
        row = pool.row;
        roles = pool.roles;
        unsynced = may.unsynced;
        synced = λ young part. elim (pool.synced young part) [ inl rows ↦ inl (may.synced young part rows) | inr some ↦ inr some ];
        zeroed = pool.zeroed;
        rows = pool.rows;
      };
    }

written_restated : (u : View) (events offset : ℕ) (mark : Bool) → MayRestate u events offset → IsWritten u → IsWritten (restated u events offset mark)
written_restated u events offset mark may written =
    record {
      name = written.name;
      times = written.times;
      roles = written.roles;
      step = written.step;
      next_level = written.next_level;
      next_layout = written.next_layout;
      next_chunk = written.next_chunk;
      position = written.position;
      last_position = written.last_position;
      no_position = written.no_position;
      resync = may.whole written.resync;
    }

restated_shape : (u : View) (events offset : ℕ) (mark : Bool) → shape_of (restated u events offset mark) ≡ shape_of u
unfolding shape_of
restated_shape u events offset mark = refl

restated_spent : (u : View) (events offset : ℕ) (mark : Bool) (y : ℕ) → spent_in (restated u events offset mark) y ≡ spent_in u y
unfolding shape_of
restated_spent u events offset mark y = refl

-- an array as it was but for its superblock is one that a step makes of it
next_restated : (s : State) (m : ℕ) (u : View) (events offset : ℕ) (mark : Bool) (x : RackView) → IsSeated s m u x → MayRestate u events offset
    → (mark ≡ true → (u.marked ≡ true) ⊎ (is_whole_array u ≡ true)) → IsNext s m u (restated u events offset mark) x
next_restated s m u events offset mark x seated may was = record {
  seated = seated_restated s m u events offset mark x may seated;
  went = refl;
  sectors = refl;
  written = written_restated u events offset mark may;
  events = may.later;
  seats = omega arith;
  was = was;
  whole = λ all. all;
}

-- a call that restates it and notes who went
pub record NotesOne (v : Raid) (f : ℕ → View) (m : ℕ) (a b : RackView) : Type 0 where
  pub views : ViewsOne v f m a b
  pub loses : LosesOne v f m

pub views_notes : (v : Raid) (f : ℕ → View) (m : ℕ) (a b : RackView) (events offset : ℕ) (mark : Bool) → IsSet v a → m < v.state.made → SameRack a b
    → ((n : ℕ) → (n ≡ m → ⊥) → f n ≡ v.arrays n) → MayRestate (v.arrays m) events offset
    → (mark ≡ true → ((v.arrays m).marked ≡ true) ⊎ (is_whole_array (v.arrays m) ≡ true))
    → Notes (restated (v.arrays m) events offset mark) (f m) a b
    → NotesOne v f m a b
views_notes v f m a b events offset mark set low stays others may was notes =
    let u = v.arrays m in
    let z = restated u events offset mark in
    let w = f m in
    let next = next_restated v.state m u events offset mark a (set.arrays m low) may was in
    let shape = restated_shape u events offset mark in
    record {
      views = views_next v f m a b z set low stays next notes others
          (λ y alive. sym (restated_spent u events offset mark y) ∙ losing_spent z w notes.lost next.seated.is_array (losing_by z w a b notes) y alive);
      loses = record {
        only = only_then u z w (only_restated u events offset mark) (only_notes z w a b notes);
        counted = λ k sector among counts.
            among_lowered notes.lost sector (shape_of u).members k
            (subst (λ (shape : Shape). Among k shape.members) (shape_then z w notes.lost notes.same.truth notes.loses ∙ ap (lowered notes.lost) shape) among) counts;
        shape = λ are. sym shape ∙ next_shape v f m a b z set low stays next notes are;
      };
    }
  where
    only_restated : (u : View) (events offset : ℕ) (mark : Bool) → OnlyFailures u (restated u events offset mark)
    only_restated u events offset mark = record {
      same = record {
        number = refl;
        geometry = record { set = refl; level = refl; size = refl; disks = refl; roles = refl; features = refl; position = refl };
        devices = refl;
        resync = refl;
        young = refl;
      };
      seats = λ k. inl refl;
    }
