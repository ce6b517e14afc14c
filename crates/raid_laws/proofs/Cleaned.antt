-- A cleaning of one array, as a part of a call of all.
use Rattle.std.proofs.Common.{◌≡◌, ◌≢◌, ℕ, ◌+◌, ◌<◌, Bool, false, ◌==◌, ◌||◌, if◌then◌else◌, List, [], slice_get, Option, Some, None, option_map, refl, sym, ap, subst, ◌∙◌, inl, inr, eq-eqb, eqb-true, arith}
use Rattle.std.proofs.lemmas.Bool.{cases_Bool, cases_eq, both_ways}
use Rattle.rack.specs.Values.{Values, MayLeave, Keeps}
use Rattle.rack.specs.Seen.{RackView, IsLive, SameRack}
use Rattle.array_image.specs.Places.{member_slice, slice_of, super_sector}
use Rattle.md_super.specs.declared.superblock.Super.{Super}
use Rattle.array_image.specs.Arrays.{Shape}
use Rattle.array_image.specs.States.{is_current}
use Rattle.array_image.specs.Held.{IsSynced}
use Rattle.array_image.specs.SoundArray.{array_fields}
use Rattle.log_laws.specs.Kept.{LogInvariant}
use Rattle.log_laws.specs.View.{names}
use Rattle.log_laws.proofs.KeptAfter.{kept_more}
use Rattle.array_model.specs.declared.Seat.{Seat}
use Rattle.array_model.specs.declared.Seat.TheVariants.{Missing}
use Rattle.array_model.specs.View.{View, has_gone, place_at, shape_of}
use Rattle.array_model.specs.Says.{ArrayInvariant}
use Rattle.array_model.specs.Members.{IsSameButSeats, Notes, slice_on}
use Rattle.array_model.specs.ArrayCalls.{IncludesSpent, Keeping}
use Rattle.array_model.proofs.Views.{either_of, loses_then, same_view_then}
use Rattle.array_core.specs.Seats.{heeded}
use Rattle.array_core.specs.Superblocks.{is_settled, settled, left_offset, raised}
use Rattle.array_core.specs.Settling.{Cleans as ArrayCleans, IsOwnSector, KeepsOthers}
use Rattle.array_core.specs.Pool.{Goes, MayRenew}
use Rattle.array_core.specs.TruthLeft.{LeavesTruth}
use Rattle.array_core.specs.Writing.{KeepsElsewhere}
use Rattle.raid_laws.specs.Book.{after_same}
use Rattle.raid_laws.specs.Raid.{Raid, gone_in, is_failed}
use Rattle.raid_laws.specs.Moves.{AreMarked, IsTrackedInCall, IsHeeded, IsSet, ChangesNoData, SubCall}
use Rattle.raid_laws.specs.Cleaning.{Ends, HasSupersOn, IsEnded, IsIdle, NoneFails, as_it_was, restated}
use Rattle.raid_laws.proofs.Calls.{may_settle, settled_notes}
use Rattle.raid_laws.specs.Reach.{reach_same}
use Rattle.raid_laws.proofs.Noted.{left_reach}
use Rattle.raid_laws.proofs.Changed.{LosesOne, ViewsOne, called, caused, further, keeps_arrays, left_before, new_gone, views_counted, views_sectors, views_set, views_spent}
use Rattle.raid_laws.proofs.Parts.{acts_some}
use Rattle.raid_laws.proofs.Views.{NotesOne, views_notes}
use Rattle.raid_laws.proofs.Over.{over_still}
use Rattle.raid_laws.proofs.Seated.{none_listed, view_with}
use Rattle.raid_laws.proofs.Whole.{heeded_gone}
use Rattle.raid_laws.proofs.Frames.{geometry_frame}
use Rattle.raid_laws.proofs.Written.{ActsOne, may_renew, one_still, one_unwritten, other_lacking, other_part, other_rows, own_part}
use Rattle.raid_laws.specs.Rows.{KeepsLacking, KeepsRows, LeavesLacking, LeavesRows}
use Rattle.raid_laws.proofs.LackingCalls.{left_lacking}
use Rattle.raid_laws.proofs.Rows.{KeepsClear, clear_seats, left_rows, rows_read}

-- ---- what it makes of the array

-- what two calls noted, between the same moments
notes_join : (u v w : View) (a b : RackView) → Notes u v a b → Notes v w a b → Notes u w a b
notes_join u v w a b one two = record {
  same = same_view_then u v w one.same two.same;
  lost = λ p. two.lost p || one.lost p;
  loses = loses_then u v w one.lost two.lost one.same.truth one.loses two.loses;
  cause = λ p is. elim (either_of (two.lost p) (one.lost p) is) [ inl late ↦ two.cause p late | inr early ↦ one.cause p early ];
}

views_clean : (v : Raid) (f : ℕ → View) (m : ℕ) (a b : RackView) → IsSet v a → m < v.state.made → SameRack a b
    → ((n : ℕ) → (n ≡ m → ⊥) → f n ≡ v.arrays n) → ArrayCleans (v.arrays m) (f m) a b → NotesOne v f m a b
views_clean v f m a b set low stays others cleans =
    let u = v.arrays m in
    let z = cleans.synced in
    let seated = set.arrays m low in
    let pool = seated.is_of_pool in
    elim cleans.either [
      | inl done ↦
          views_notes v f m a b u.truth.events u.truth.resync_offset u.marked set low stays others
          (record { later = omega arith; some = pool.events; few = pool.events_end; whole = λ was. was; unsynced = pool.unsynced; synced = λ young part rows. rows })
          (λ marked. inl marked) (subst (λ (k : View). Notes u k a b) (sym done.same) cleans.notes)
      | inr now ↦
          views_notes v f m a b (raised u.truth.events) (left_offset u) false set low stays others
          (may_settle v.state u seated.is_array pool) (λ marked. absurd (both_ways false refl marked))
          (notes_join (settled u) (settled z) (f m) a b (settled_notes u z a b cleans.notes) now.notes)
    ]

-- ---- where no drive refuses a call

unlost : (v w : View) (a b : RackView) (notes : Notes v w a b) → NoneFails a b → (p : ℕ) → notes.lost p ≡ false
unlost v w a b notes none p =
    elim (cases_Bool (notes.lost p)) [
      | inl lost ↦ absurd (none p (notes.cause p lost))
      | inr not ↦ not
    ]

seats_still : (v w : View) (a b : RackView) → Notes v w a b → NoneFails a b → (n : ℕ) → slice_get w.seats n ≡ slice_get v.seats n
seats_still v w a b notes none n =
    notes.loses.seats n
    ∙ ap (λ (b : Bool). option_map (λ (seat : Seat). if b then Missing else seat) (slice_get v.seats n)) (unlost v w a b notes none (place_at v n))
    ∙ same (slice_get v.seats n)
  where
    same : (o : Option Seat) → option_map (λ (seat : Seat). seat) o ≡ o
    same None = refl
    same (Some seat) = refl

fresh_still : (v w : View) (a b : RackView) → Notes v w a b → NoneFails a b → v.went ≡ [] → w.went ≡ []
fresh_still v w a b notes none fresh =
    none_listed w.went
    (λ p. notes.loses.went p ∙ ap (λ (b : Bool). b || has_gone v p) (unlost v w a b notes none p) ∙ ap (λ (ps : List ℕ). names ps p) fresh)

settled_same : (u z : View) → IsSameButSeats u z → is_settled z ≡ is_settled u
settled_same u z same = ap is_settled (view_with u z same)

heeded_same : (u z : View) → IsSameButSeats u z → IsSameButSeats u (heeded z)
heeded_same u z same =
    record { number = same.number; truth = same.truth; devices = same.devices; resync = same.resync; young = same.young; marked = same.marked }

heeded_fresh : (u : View) → u.went ≡ [] → heeded u ≡ u
heeded_fresh u fresh = ap (λ (ps : List ℕ). record u { went = ps }) (sym fresh)

supers_on : (z w : View) (a b : RackView) → Notes (settled z) w a b → NoneFails a b
    → ((n : ℕ) → n < z.truth.raid_disks → slice_get w.seats n ≢ Some Missing → IsLive a b (slice_on z n) super_sector
    → (x : List ℕ) → MayLeave (b.held (slice_on z n) super_sector) x → IsOwnSector (settled z) n x)
    → HasSupersOn (heeded w) a b
supers_on z w a b notes none durable =
    let seats = seats_still (settled z) w a b notes none in
    subst (λ (k : View). HasSupersOn (heeded k) a b) (sym (view_with (settled z) w notes.same))
    (λ n low left live x may.
    let own = durable n low left live x may in
    record {
      slot = own.slot;
      is = record { place = own.is.place; few = own.is.few; seat = seats n ∙ own.is.seat; device = own.is.device };
      bytes = own.bytes;
    })

pub slice_own : (p m : ℕ) → m < 16 → slice_of (member_slice p m) ≡ m + 1
slice_own p m few = omega (arith, few)

-- ---- a cleaning of array m, where whoever went is marked

pub record CleanCall (v : Raid) (f : ℕ → View) (m : ℕ) (a b : RackView) : Type 0 where
  pub heeded : IsHeeded v
  pub low : m < v.state.made
  pub others : (n : ℕ) → (n ≡ m → ⊥) → f n ≡ v.arrays n
  pub goes : Goes a b
  pub view : ArrayCleans (v.arrays m) (f m) a b
  pub cleans :
      (vals : ℕ → Values) (spent : ℕ → Bool) → IncludesSpent (f m) spent → MayRenew v.state (v.arrays m) a
      → Keeping v.state (v.arrays m) (f m) spent a b (shape_of (v.arrays m)) vals
  -- images have the truth from before, or the one that leaves the rows that are left
  pub truths :
      (vals : ℕ → Values) (spent : ℕ → Bool) → IncludesSpent (f m) spent → MayRenew v.state (v.arrays m) a
      → LeavesTruth v.state (v.arrays m).number (λ t. array_fields t ≡ array_fields (settled (v.arrays m)).truth)
      (ArrayInvariant v.state (shape_of (v.arrays m)) (v.arrays m) vals spent a) a b
  pub kept : LogInvariant v.state v.number (λ place. false) a → LogInvariant v.state v.number (λ place. false) b
  pub elsewhere : KeepsElsewhere false (v.arrays m) [] a b
  pub supers : KeepsOthers a b
  pub settled :
      (durable : Shape) (vals : ℕ → Values) (spent : ℕ → Bool) → IncludesSpent (f m) spent → ArrayInvariant v.state durable (v.arrays m) vals spent a
      → IsSynced (shape_of (f m)) (f m).number b.held

module _ (v : Raid) (f : ℕ → View) (m : ℕ) (a b : RackView) (set : IsSet v a) (call : CleanCall v f m a b) where
  views : ViewsOne v f m a b
  views = (views_clean v f m a b set call.low call.goes.stays call.others call.view).views

  loses : LosesOne v f m
  loses = (views_clean v f m a b set call.low call.goes.stays call.others call.view).loses

  acts : ActsOne v f v.number m a b (λ vals. vals) (shape_of (v.arrays m)) (MayRenew v.state (v.arrays m) a)
  acts = record {
    heeded = call.heeded;
    views = views;
    shape = loses.shape;
    grows = reach_same (is_current v.state) (shape_of (v.arrays m));
    noted = left_reach (called v f v.number) m (v.arrays m) b call.low views.seated loses.only;
    frame = geometry_frame (v.arrays m).truth (f m).truth loses.only.same.geometry;
    goes = call.goes;
    later = omega arith;
    able = λ n vals spent below goes amid.
        may_renew v a m n set call.heeded call.low amid.slices
        (over_still v (called v f v.number) (further v f m a b set views v.number (omega arith)) n below goes);
    acts = λ vals spent covers able. acts_some v.state (v.arrays m) (f m) spent a b (shape_of (v.arrays m)) vals vals (call.cleans vals spent covers able);
    kept = λ able log.
        kept_more v.state v.number (λ place. false) (gone_in (called v f v.number)) b (λ p is. absurd (both_ways false refl is)) (call.kept log);
    elsewhere = ([], λ p gone. refl, call.elsewhere);
  }

  -- where its superblocks leave the rows that are left, none is written
  own_rows : LeavesRows v a m → KeepsRows v (called v f v.number) a b m
  own_rows rows =
      let u = v.arrays m in
      let z = call.view.synced in
      elim call.view.either [
        | inl done ↦
            rows_read v (called v f v.number) a b m set.lasting done.reads
            (subst (λ (k : View). KeepsClear u k) (sym done.same) (clear_seats u z call.view.notes.same)) rows
        | inr now ↦ absurd (both_ways (is_settled u) (sym (settled_same u z call.view.notes.same) ∙ now.open_rows) rows.settled)
      ]

  own_lacking : (vals : ℕ → Values) (spent : ℕ → Bool) → is_failed (called v f v.number) m ≡ false → IncludesSpent (f m) spent
      → IsTrackedInCall v a m vals spent → LeavesLacking v a m → KeepsLacking v (called v f v.number) a b m
  own_lacking vals spent goes covers amid leaves =
      let u = v.arrays m in
      let able = acts.able m vals spent call.low goes amid in
      let standing = (own_part v f v.number m a b (λ k. k) (shape_of (v.arrays m)) (MayRenew v.state (v.arrays m) a) set acts vals spent goes covers).holds amid in
      left_lacking v f v.number m a b vals vals spent set call.heeded call.low amid standing (call.cleans vals spent covers able)
      (λ t. array_fields t ≡ array_fields (settled (v.arrays m)).truth) (call.truths vals spent covers able)
      (λ t fields. left_rows u t (set.arrays m call.low).is_array leaves.young (ap (λ (z : Super). z.resync_offset) fields) (ap (λ (z : Super). z.size) fields)) leaves

  pub moves_clean : ChangesNoData v (called v f v.number) a b
  moves_clean =
      record {
        stays = call.goes.stays;
        set = views_set v f m a b set views v.number;
        book = after_same v.state;
        leaves = call.goes.leaves;
        number = omega arith;
        events = (further v f m a b set views v.number (omega arith)).events;
        arrays = keeps_arrays v f m a b set views loses;
        plan = refl;
        sectors = views_sectors v f m a b set views;
        left = left_before v f m a b set views;
        cause = caused v f m a b set views;
        still = one_still v f v.number m a b (λ vals. vals) (shape_of (v.arrays m)) (MayRenew v.state (v.arrays m) a) set acts;
        spent = λ n y low alive. views_spent v f m a b set views n y alive;
        counted = λ n k sector low among counts. views_counted v f m a b set views loses n k sector among counts;
        unwritten = one_unwritten v f v.number m a b (λ vals. vals) (shape_of (v.arrays m)) (MayRenew v.state (v.arrays m) a) set acts;
        kept = λ d t live apart other. call.supers d t live other;
        parts = λ n vals spent joined low goes covers.
            elim (cases_eq n m) [
              | inl same ↦
                  subst (λ k. SubCall v (called v f v.number) a b k vals vals spent) (sym same)
                  (own_part v f v.number m a b (λ vals. vals) (shape_of (v.arrays m)) (MayRenew v.state (v.arrays m) a) set acts vals spent
                  (subst (λ k. is_failed (called v f v.number) k ≡ false) same goes) (subst (λ k. IncludesSpent (f k) spent) same covers))
              | inr apart ↦ other_part v f v.number m a b (λ vals. vals) (shape_of (v.arrays m)) (MayRenew v.state (v.arrays m) a) set acts n vals spent apart low goes
            ];
        rows = λ n vals spent joined low goes covers amid rows.
            elim (cases_eq n m) [
              | inl same ↦
                  subst (λ k. LeavesRows v a k → KeepsRows v (called v f v.number) a b k) (sym same) own_rows rows
              | inr apart ↦ other_rows v f v.number m a b (λ vals. vals) (shape_of (v.arrays m)) (MayRenew v.state (v.arrays m) a) set acts n vals spent apart low goes amid rows
            ];
        lacking = λ n vals spent joined low goes covers amid leaves.
            elim (cases_eq n m) [
              | inl same ↦
                  subst (λ k. is_failed (called v f v.number) k ≡ false → IncludesSpent (f k) spent → IsTrackedInCall v a k vals spent → LeavesLacking v a k → KeepsLacking v (called v f v.number) a b k)
                  (sym same) (own_lacking vals spent) goes covers amid leaves
              | inr apart ↦
                  other_lacking v f v.number m a b (λ vals. vals) (shape_of (v.arrays m)) (MayRenew v.state (v.arrays m) a) set acts n vals spent apart low goes amid leaves
            ];
      }

  pub settled_clean : (n : ℕ) (vals : ℕ → Values) (spent : ℕ → Bool) → n ≡ m → IncludesSpent (f n) spent → IsTrackedInCall v a n vals spent
      → IsSynced (shape_of (f n)) n b.held
  settled_clean n vals spent is =
      subst (λ k. IncludesSpent (f k) spent → IsTrackedInCall v a k vals spent → IsSynced (shape_of (f k)) k b.held) (sym is)
      (λ covers amid.
      subst (λ k. IsSynced (shape_of (f m)) k b.held) views.seated.number (call.settled amid.durable vals spent covers amid.stood.holds))

  pub none_gone : NoneFails a b → AreMarked (called v f v.number)
  none_gone none p current =
      elim (cases_Bool (gone_in (called v f v.number) p)) [
        | inl is ↦ absurd (none p (views.cause p (new_gone v f m a b set views p (heeded_gone v call.heeded p) is)))
        | inr not ↦ not
      ]

  is_ended : NoneFails a b → IsEnded (v.arrays m) (heeded (f m)) a b
  is_ended none =
      let u = v.arrays m in
      let z = call.view.synced in
      let notes = call.view.notes in
      let same = settled_same u z notes.same in
      elim call.view.either [
        | inl done ↦
            as_it_was
            (elim done.why [ inl some ↦ absurd (some (fresh_still u z a b notes none (call.heeded m call.low))) | inr is ↦ sym same ∙ is ])
            (subst (λ (k : View). IsSameButSeats u (heeded k)) (sym done.same) (heeded_same u z notes.same))
        | inr now ↦
            restated (sym same ∙ now.open_rows)
            (heeded_same (settled u) (f m) (same_view_then (settled u) (settled z) (f m) (settled_notes u z a b notes).same now.notes.same))
            (supers_on z (f m) a b now.notes none now.durable)
      ]

  kept_clean : (d t : ℕ) → IsLive a b d t → (is_settled (v.arrays m) ≡ false → slice_of d ≢ m + 1) → Keeps (a.held d t) (b.held d t)
  kept_clean d t live apart =
      let u = v.arrays m in
      let seated = set.arrays m call.low in
      elim (cases_Bool (is_settled u)) [
        | inl already ↦
            elim call.view.either [
              | inl done ↦ done.reads.keeps.held d t live
              | inr now ↦ absurd (both_ways (is_settled u) (sym (settled_same u call.view.synced call.view.notes.same) ∙ now.open_rows) already)
            ]
        | inr open_rows ↦
            elim (cases_eq (slice_of d) 0) [
              | inl log ↦ call.elsewhere d t live (inl (log, refl))
              | inr some ↦
                  call.elsewhere d t live
                  (inr (some, λ n low there is. apart open_rows (ap slice_of is ∙ slice_own (place_at u n) u.number seated.is_array.few ∙ ap (λ k. k + 1) seated.number)))
            ]
      ]

  -- where nothing was called after it but to heed
  pub ends_clean : (w : Raid) → IsIdle (called v f v.number) w → NoneFails a b → Ends (λ n. n == m) v w a b
  ends_clean w idle none =
      record {
        state = idle.state;
        ended = λ n low on.
            subst (λ k. IsEnded (v.arrays k) (w.arrays k) a b) (sym (eqb-true n m on))
            (subst (λ (k : View). IsEnded (v.arrays m) k a b) (sym (idle.arrays m call.low)) (is_ended none));
        others = λ n low off.
            idle.arrays n low
            ∙ ap heeded (call.others n (λ same. both_ways (n == m) off (eq-eqb n m same)))
            ∙ heeded_fresh (v.arrays n) (call.heeded n low);
        kept = λ d t live apart. kept_clean d t live (λ open_rows. apart m call.low (eq-eqb m m refl) open_rows);
      }
