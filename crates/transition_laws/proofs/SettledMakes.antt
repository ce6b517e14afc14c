-- Arrays that are settled one after the other make no change of the book.
use Rattle.md_super.specs.declared.superblock.Super.{Super}
use Rattle.std.proofs.Common.{◌≡◌, ℕ, ◌+◌, ◌-◌, ◌*◌, ◌/◌, ◌^◌, ◌<◌, ◌≤◌, Bool, true, false, ◌&&◌, not, nat_lt, if◌then◌else◌, refl, sym, ap, subst, ◌∙◌, inl, inr, le-ltb, arith, ◌||◌, []}
use Rattle.std.proofs.lemmas.Bool.{both_ways, cases_eq, cases_Bool}
use Rattle.rack.specs.Values.{Values}
use Rattle.rack.specs.Seen.{RackView}
use Rattle.rack.specs.Joins.{leaves_same, stays_same}
use Rattle.pool_state.specs.declared.contents.State.{State}
use Rattle.array_image.specs.Arrays.{Shape}
use Rattle.array_image.specs.Held.{IsSynced}
use Rattle.array_image.specs.Left.{IsInside}
use Rattle.array_image.specs.Places.{data_sector, member_slice}
use Rattle.array_image.specs.SoundArray.{array_fields, first_unsynced}
use Rattle.array_image.specs.States.{is_current}
use Rattle.array_image.specs.Stripes.{sector_in}
use Rattle.array_image.specs.Supers.{is_unclean}
use Rattle.raid_map.specs.LeftSymmetric.{row_at}
use Rattle.log_laws.proofs.Kept.{live_on}
use Rattle.array_model.specs.ArrayCalls.{IncludesSpent, SyncsArray}
use Rattle.array_model.specs.Members.{IsSameButSeats}
use Rattle.array_model.specs.View.{IsArray, rows_of, shape_of, View}
use Rattle.array_model.proofs.Keeping.{settled_kept}
use Rattle.array_core.specs.Settling.{Settles}
use Rattle.array_core.specs.Superblocks.{left_offset, raised, settled, settled_truth}
use Rattle.raid_laws.specs.Frames.{frame_of}
use Rattle.raid_laws.specs.Moves.{IsSet}
use Rattle.raid_laws.specs.Raid.{Raid}
use Rattle.raid_laws.proofs.Calls.{ReadsOne as ReadsArray}
use Rattle.raid_laws.proofs.Changed.{further, marked_before, more_gone}
use Rattle.raid_laws.proofs.Noted.{with_arrays}
use Rattle.raid_laws.proofs.Over.{over_still, someone_left}
use Rattle.raid_laws.proofs.Seated.{view_with}
use Rattle.transition_laws.specs.Holds.{has_sector, HoldsBook, Promise, spent_at, Stands}
use Rattle.transition_laws.specs.Losses.{SettlesBook}
use Rattle.transition_laws.specs.Makes.{Makes, makes_then, Suits}
use Rattle.transition_laws.proofs.ReadMakes.{KeepsArray, read_log, read_one_makes}
use Rattle.transition_laws.proofs.Shown.{spent_other, stands_shape}
use Rattle.transition_laws.proofs.Standing.{holds_grown}

-- ---- an array that is settled

-- the rows that an array leaves, by whether it is young, is left unclean by its truth, and has rows left
offset_by : (young unclean less : Bool) (offset resync : ℕ) → ℕ
offset_by young unclean less offset resync = if young then (if unclean then offset else 2 ^ 64 - 1) else if less then resync * 128 else 2 ^ 64 - 1

left_twice : (young unclean less : Bool) (offset resync size : ℕ) → nat_lt offset size ≡ unclean
    → offset_by young (nat_lt (offset_by young unclean less offset resync) size) less (offset_by young unclean less offset resync) resync ≡ offset_by young unclean less offset resync
unfolding offset_by
left_twice false unclean less offset resync size is = refl
left_twice true true less offset resync size is = ap (λ (b : Bool). if b then offset else 2 ^ 64 - 1) is
left_twice true false less offset resync size is = either (nat_lt (2 ^ 64 - 1) size)
  where
    either : (b : Bool) → (if b then 2 ^ 64 - 1 else 2 ^ 64 - 1) ≡ 2 ^ 64 - 1
    either true = refl
    either false = refl

-- with superblocks that leave the rows that it leaves it leaves them
pub left_again : (u : View) (events : ℕ) (mark : Bool) → left_offset (record u { truth = record u.truth { events = events; resync_offset = left_offset u }; marked = mark }) ≡ left_offset u
unfolding offset_by
left_again u events mark = left_twice u.young (is_unclean u.truth) (nat_lt u.resync (rows_of u)) u.truth.resync_offset u.resync u.truth.size refl

-- and of a young one as many rows are zeroed
zeroed_twice : (unclean : Bool) (offset size : ℕ) → size < 2 ^ 48 → nat_lt offset size ≡ unclean
    → (if nat_lt (if unclean then offset else 2 ^ 64 - 1) size then (if unclean then offset else 2 ^ 64 - 1) / 128 else size / 128) ≡ (if unclean then offset / 128 else size / 128)
zeroed_twice true offset size small is = ap (λ (b : Bool). if b then offset / 128 else size / 128) is
zeroed_twice false offset size small is = ap (λ (b : Bool). if b then (2 ^ 64 - 1) / 128 else size / 128) (le-ltb (2 ^ 64 - 1) size (omega (arith, small)))

zeroed_again : (u : View) → u.truth.size < 2 ^ 48 → u.young ≡ true → first_unsynced (settled_truth u) ≡ first_unsynced u.truth
zeroed_again u small young =
    ap (λ (o : ℕ). if nat_lt o u.truth.size then o / 128 else u.truth.size / 128)
    (ap (λ (b : Bool). if b then (if is_unclean u.truth then u.truth.resync_offset else 2 ^ 64 - 1) else if nat_lt u.resync (rows_of u) then u.resync * 128 else 2 ^ 64 - 1) young)
    ∙ zeroed_twice (is_unclean u.truth) u.truth.resync_offset u.truth.size small refl

sectors_by : (has young : Bool) (row before after : ℕ) → (young ≡ true → after ≡ before) → (has && (not young || nat_lt row after)) ≡ (has && (not young || nat_lt row before))
sectors_by has true row before after same = ap (λ k. has && nat_lt row k) (same refl)
sectors_by has false row before after same = refl

pub settled_sectors : (u : View) → u.truth.size < 2 ^ 48 → (y : ℕ) → has_sector (settled u) y ≡ has_sector u y
settled_sectors u small y =
    sectors_by _ u.young (row_at (sector_in (frame_of u.truth).layout y)) (first_unsynced u.truth) (first_unsynced (settled_truth u)) (zeroed_again u small)

keeps_settled : (s : State) (u : View) (z w : View) → IsArray u → u.truth.events ≤ w.truth.events → IsSameButSeats u z → w ≡ settled z → KeepsArray u w
keeps_settled s u z w is_array later same is =
    let here = view_with u z same in
    let whole : w ≡ settled (record u { seats = z.seats; went = z.went }) = is ∙ ap settled here in
    let size = is_array.small in
    record {
      number = ap (λ (k : View). k.number) whole;
      truth = record { fields = ap (λ (k : View). record (array_fields k.truth) { events = 0; resync_offset = 0 }) (sym whole); events = later };
      frame = ap (λ (k : View). frame_of k.truth) whole;
      roles = ap (λ (k : View). k.truth.roles.items) whole;
      disks = ap (λ (k : View). k.truth.raid_disks) whole;
      resync = ap (λ (k : View). k.resync) whole;
      young = ap (λ (k : View). k.young) whole;
      mark = λ marked. absurd (both_ways w.marked (ap (λ (k : View). k.marked) whole) marked);
      sectors = λ y. ap (λ (k : View). has_sector k y) whole ∙ settled_sectors u size y;
    }

again : (u : View) → shape_of (settled u) ≡ shape_of u
unfolding shape_of
again u = refl

-- ---- a settling

module _ (v : Raid) (f : ℕ → View) (m : ℕ) (b c : RackView) (set : IsSet v b) (call : ReadsArray v f m b c) (settles : Settles (v.arrays m) (f m) b c)
    (syncs : (s : State) (durable : Shape) (vals : ℕ → Values) (spent : ℕ → Bool) → IncludesSpent (f m) spent → SyncsArray s (v.arrays m) (f m) spent b c durable vals) where
  pub settle_makes : (d : Raid) (vals : ℕ → ℕ → Values) → v.state ≡ d.state → Makes [] d v (with_arrays v f) vals vals b c
  settle_makes d vals same =
      read_one_makes m d v (with_arrays v f) vals b c
      (record {
        lasting = set.lasting;
        reads = call.reads;
        state = refl;
        others = call.views.others;
        noted = keeps_settled v.state (v.arrays m) settles.synced (f m) (set.arrays m call.views.low).is_array call.views.events settles.notes.same settles.truth;
        written = call.views.written;
        shape = λ are. (marked_before v f m b c set call.views are, sym (call.loses.shape are));
        kept = λ p promised stands. read_log d v (with_arrays v f) b c set.lasting call.reads refl (more_gone v f m b c set call.views) stands.log;
        holds = λ p promised stands spent covers. (syncs d.state (shape_of (d.arrays m)) (vals m) spent covers).acts.holds;
        is_array = (set.arrays m call.views.low).is_array;
        synced = settles.synced;
        notes = settles.notes;
        same_shape = ap shape_of settles.truth ∙ again settles.synced;
        same_went = ap (λ (u : View). u.went) settles.truth;
        same_zeroed = λ young.
            ap (λ (u : View). first_unsynced u.truth) settles.truth
            ∙ zeroed_again settles.synced (subst (λ (t : Super). t.size < 2 ^ 48) (sym settles.notes.same.truth) (set.arrays m call.views.low).is_array.small) young;
        goes = λ n low goes. over_still v (with_arrays v f) (further v f m b c set call.views v.number (omega arith)) n low goes;
        someone = λ n goes.
            let left = someone_left (with_arrays v f) n goes in
            (left.0, subst (λ (s : State). is_current s left.0 ≡ true) same left.1, left.2);
        spares = call.views.spent;
      })

pub suits_none : (p : Promise) (d : Raid) → Suits p [] d
suits_none p d = record { free = λ n kept. refl; owned = tt; growing = inr tt }

pub settles_book_first : (v : Raid) (x : RackView) → x.fit → SettlesBook v v 0 x x
settles_book_first v x fit = record {
  makes = λ d vals same. record {
    due = tt;
    stays = stays_same x fit;
    back = λ p suits promised. promised;
    grows = λ n y u may. may;
    stops = λ p suits promised stands traced. leaves_same x (λ c. IsInside x.sectors c → HoldsBook d p vals x.sectors c);
    after = λ p suits promised stands. stands;
  };
  settled = λ d vals p same promised stands n live low below. absurd (omega (arith, below));
  left = λ n low. refl;
  offset = λ n low below. absurd (omega (arith, below));
}

-- one array more is settled
pub settles_book_more : (v w : Raid) (f : ℕ → View) (m : ℕ) (a b c : RackView) → w.state ≡ v.state → SettlesBook v w m a b → IsSet w b → (call : ReadsArray w f m b c) → Settles (w.arrays m) (f m) b c
    → ((s : State) (durable : Shape) (vals : ℕ → Values) (spent : ℕ → Bool) → IncludesSpent (f m) spent → SyncsArray s (w.arrays m) (f m) spent b c durable vals)
    → SettlesBook v (with_arrays w f) (m + 1) a c
settles_book_more v w f m a b c state before set call settles syncs = record {
  makes = makes;
  settled = λ d vals p same promised stands n live low below.
      let suits = suits_none p d in
      let one = settle_makes w f m b c set call settles syncs d vals (state ∙ same) in
      let mid = one.back p suits promised in
      let first = before.makes d vals same in
      let stood : Stands d w p vals b = first.after p suits mid stands in
      let last : Stands d (with_arrays w f) p vals c = one.after p suits promised stood in
      elim (cases_eq n m) [
        | inl is ↦
            let live_m = subst (λ k. p.live k ≡ true) is live in
            let low_m : m < d.state.made = subst (λ k. k < d.state.made) is low in
            let covers : IncludesSpent (f m) (spent_at p m (d.arrays m)) =
            λ y alive. promised.covers m live_m call.views.low y (spent_other p m (f m) (d.arrays m) (last.arrays m live_m low_m).sectors y ∙ alive) in
            subst (λ k. IsSynced (shape_of (f k)) k c.held) (sym is)
            (elim (cases_Bool (p.growing && (f m).young)) [
              | inl young ↦ (last.arrays m live_m low_m).single young
              | inr old ↦
                  let same_young : (f m).young ≡ (w.arrays m).young = ap (λ (u : View). u.young) settles.truth ∙ settles.notes.same.young in
                  subst (λ k. IsSynced (shape_of (f m)) k c.held) call.views.seated.number
                  ((syncs d.state (shape_of (d.arrays m)) (vals m) (spent_at p m (d.arrays m)) covers).settled
                  (holds_grown d w p vals b stood m live_m low_m (ap (λ y. p.growing && y) (sym same_young) ∙ old)))
            ])
        | inr other ↦
            let open_left = (stands_shape d w p vals b stood n live low).open_left in
            subst (λ (u : View). IsSynced (shape_of u) n c.held) (sym (call.views.others n other))
            (settled_kept b.held c.held (shape_of (w.arrays n)) n
            (λ k sector among counts. call.reads.keeps.held (member_slice k.place n) (data_sector + sector) (live_on set.lasting call.reads.stays (open_left k sector among counts)))
            (before.settled d vals p same mid stands n live low (omega (arith, below, other))))
      ];
  left = λ n low.
      elim (cases_eq n m) [
        | inl is ↦ subst (λ k. left_offset (f k) ≡ left_offset (v.arrays k)) (sym is) (own_left ∙ before.left m (subst (λ k. k < v.state.made) is low))
        | inr other ↦ ap left_offset (call.views.others n other) ∙ before.left n low
      ];
  offset = λ n low below.
      elim (cases_eq n m) [
        | inl is ↦ subst (λ k. (f k).truth.resync_offset ≡ left_offset (f k)) (sym is) own_offset
        | inr other ↦ subst (λ (u : View). u.truth.resync_offset ≡ left_offset u) (sym (call.views.others n other)) (before.offset n low (omega (arith, below, other)))
      ];
}
  where
    makes : (d : Raid) (vals : ℕ → ℕ → Values) → v.state ≡ d.state → Makes [] d v (with_arrays w f) vals vals a c
    makes d vals same = makes_then [] [] d v w (with_arrays w f) vals vals vals a b c (before.makes d vals same) (settle_makes w f m b c set call settles syncs d vals (state ∙ same))

    own_left : left_offset (f m) ≡ left_offset (w.arrays m)
    own_left =
        ap left_offset settles.truth ∙ left_again settles.synced (raised settles.synced.truth.events) false
        ∙ ap left_offset (view_with (w.arrays m) settles.synced settles.notes.same)

    own_offset : (f m).truth.resync_offset ≡ left_offset (f m)
    own_offset = subst (λ (u : View). u.truth.resync_offset ≡ left_offset u) (sym settles.truth) (sym (left_again settles.synced (raised settles.synced.truth.events) false))
