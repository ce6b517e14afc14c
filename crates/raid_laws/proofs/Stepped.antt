-- A step of maintenance of one array, as a part of a call of all.
use Rattle.std.proofs.Common.{◌≡◌, ◌⊎◌, ℕ, ◌-◌, ◌%◌, ◌^◌, ◌<◌, ◌≤◌, Bool, true, false, ◌==◌, ◌&&◌, if◌then◌else◌, List, Option, Some, unwrap_or, refl, sym, ap, subst, ◌∙◌, inl, inr, eq-eqb, ne_eqb, arith}
use Rattle.std.proofs.lemmas.Bool.{both_ways, cases_Bool, cases_eq}
use Rattle.rack.specs.Values.{Values}
use Rattle.rack.specs.Seen.{Image, RackView}
use Rattle.rack.specs.Joins.{leaves_weaker}
use Rattle.rack.specs.Moments.{Leaves}
use Rattle.md_super.specs.declared.superblock.Super.{Super}
use Rattle.pool_state.specs.declared.contents.State.{State}
use Rattle.array_image.specs.Places.{log_slice, member_slice, super_sector}
use Rattle.array_image.specs.States.{current_places, is_current, state_in}
use Rattle.array_image.specs.Supers.{truth_in}
use Rattle.array_image.specs.SoundArray.{first_unsynced}
use Rattle.array_image.specs.Arrays.{Shape, replayed, shape_in}
use Rattle.array_image.specs.Left.{IsInside, IsLeft}
use Rattle.array_image.proofs.Frames.{state_same, super_of_sector, truth_by_supers}
use Rattle.log_laws.specs.Kept.{LogInvariant}
use Rattle.log_laws.specs.View.{names}
use Rattle.log_laws.proofs.KeptAfter.{kept_more}
use Rattle.array_model.specs.View.{View, has_gone, is_whole_array, shape_of}
use Rattle.array_model.specs.Says.{ArrayInvariant, IsOpen, ImageShowsArray}
use Rattle.array_model.specs.Members.{Notes}
use Rattle.array_model.specs.ArrayCalls.{IncludesSpent, HasFields, KeepsSupers, ImageInCall}
use Rattle.array_model.proofs.Moves.{CallRefines as CallMoves, moves_by}
use Rattle.array_model.proofs.Keeping.{keeping_calls}
use Rattle.array_core.specs.Pool.{Goes}
use Rattle.array_core.specs.Superblocks.{is_settled}
use Rattle.array_core.specs.Writing.{KeepsElsewhere}
use Rattle.sync_laws.specs.Steps.{MayStep, Stepped, Steps, as_it_was, done, if_done}
use Rattle.raid_laws.specs.Raid.{Raid, gone_in, is_left, is_failed}
use Rattle.raid_laws.specs.Reach.{KeepsReach, KeepsReachOn, reach_same}
use Rattle.raid_laws.specs.Laws.{stood_left}
use Rattle.raid_laws.specs.Moves.{AreMarked, ChangesData, IsTrackedInCall, IsHeeded, IsSet, OnlyFailures}
use Rattle.raid_laws.specs.Rows.{KeepsLacking, KeepsRows, LackingFrom, LeavesFrom, LeavesLacking, LeavesRows, from_lower}
use Rattle.raid_laws.specs.Works.{stepped}
use Rattle.raid_laws.proofs.Added.{names_current}
use Rattle.raid_laws.proofs.Changed.{ViewsOne, called}
use Rattle.raid_laws.specs.Losing.{only_same}
use Rattle.raid_laws.proofs.Losing.{only_notes}
use Rattle.raid_laws.proofs.Noted.{gone_from, left_reach}
use Rattle.raid_laws.proofs.Parts.{SaysSome, acts_some, turned_state}
use Rattle.raid_laws.proofs.LackingRows.{lacking_all, lacking_read, lacking_supers, lacking_whole}
use Rattle.raid_laws.proofs.Rows.{clear_seats, rows_read, settled_rows}
use Rattle.raid_laws.proofs.Views.{IsNext, next_same, next_shape, views_next}
use Rattle.raid_laws.proofs.Whole.{heeded_gone}
use Rattle.raid_laws.specs.Frames.{frame_of}
use Rattle.raid_laws.proofs.Frames.{view_frame}
use Rattle.raid_laws.proofs.Written.{ActsOne, may_commit, one_brings, opened, own_part}

-- what was noted, by the array as it was or as the step made it
step_notes : (is_done : Bool) (u next w : View) (a b : RackView) → Stepped u next w a b is_done → Notes (if_done is_done u next) w a b
step_notes false u next w a b (as_it_was notes) = notes
step_notes true u next w a b (done notes) = notes

-- A step of array m on the places `on`, which makes `next` of it.
pub record StepCall (v : Raid) (f : ℕ → View) (next : View) (number m : ℕ) (a b : RackView) (on : List ℕ) (answered : Bool) : Type 0 where
  pub heeded : IsHeeded v
  pub low : m < v.state.made
  pub others : (n : ℕ) → (n ≡ m → ⊥) → f n ≡ v.arrays n
  pub goes : Goes a b
  pub later : v.number ≤ number
  pub on_is : on ≡ current_places v.state
  pub few : (p : ℕ) → has_gone (f m) p ≡ true → p < 16
  pub is_next : IsNext v.state m (v.arrays m) next a
  pub framed : frame_of next.truth ≡ frame_of (v.arrays m).truth
  pub grows : KeepsReach v.state (shape_of (v.arrays m)) (shape_of next)
  pub rows : (v.arrays m).resync ≤ next.resync
  pub young : next.young ≡ (v.arrays m).young
  pub whole : (next.truth.resync_offset ≡ 2 ^ 64 - 1) ⊎ (next.truth.resync_offset % 128 ≡ 0)
  pub settled : (v.arrays m).young ≡ false → is_settled (v.arrays m) ≡ true → is_settled next ≡ true
  pub steps : Steps (v.arrays m) next (f m) v.number number on a b answered
  pub elsewhere : KeepsElsewhere false (v.arrays m) on a b

-- contents of the state s whose superblocks of array n are those of others leave the rows that these leave
from_supers : (s : State) (row n : ℕ) (r e : Image) → state_in r ≡ Some s → state_in e ≡ Some s
    → ((place : ℕ) → r (member_slice place n) super_sector ≡ e (member_slice place n) super_sector)
    → LeavesFrom row n e → LeavesFrom row n r
from_supers s row n r e state state_e same from t u is truth =
    from t u (state_e ∙ sym state ∙ is) (sym (truth_by_supers t r e n (λ place. super_of_sector t r e n place (same place))) ∙ truth)

-- contents of the state s whose truth of array n has these fields leave the rows that it leaves
from_fields : (s : State) (row n : ℕ) (t : Super) (r : Image) → state_in r ≡ Some s → row ≤ first_unsynced t → HasFields s n t r → LeavesFrom row n r
from_fields s row n t r state low fields q u is truth =
    let same : q ≡ s = ap (λ (o : Option State). unwrap_or o q) (sym is ∙ state) in
    let first = ap first_unsynced (fields u (subst (λ k. truth_in k r n ≡ Some u) same truth)) in
    subst (λ k. row ≤ k) (sym first) low

module _ (v : Raid) (f : ℕ → View) (next : View) (number m : ℕ) (a b : RackView) (on : List ℕ) (answered : Bool) (set : IsSet v a)
    (call : StepCall v f next number m a b on answered) where
  -- the array before it, and the one that it was or that the step made of it
  abbrev u : View
  u = v.arrays m

  abbrev z : View
  z = if_done call.steps.is_done (v.arrays m) next

  -- the raid after it
  abbrev w : Raid
  w = called v f number

  notes : Notes (if_done call.steps.is_done (v.arrays m) next) (f m) a b
  notes = step_notes call.steps.is_done (v.arrays m) next (f m) a b call.steps.view

  is_next : (d : Bool) → IsNext v.state m (v.arrays m) (if_done d (v.arrays m) next) a
  is_next true = call.is_next
  is_next false = next_same v.state m (v.arrays m) a (set.arrays m call.low)

  frame_if : (d : Bool) → frame_of (if_done d (v.arrays m) next).truth ≡ frame_of (v.arrays m).truth
  frame_if true = call.framed
  frame_if false = refl

  shape_if : (d : Bool) → shape_of (if_done d (v.arrays m) next) ≡ if_done d (shape_of (v.arrays m)) (shape_of next)
  shape_if true = refl
  shape_if false = refl

  pub views : ViewsOne v f m a b
  views =
      views_next v f m a b (if_done call.steps.is_done (v.arrays m) next) set call.low call.goes.stays (is_next call.steps.is_done) notes call.others
      (λ y alive. call.steps.spent (set.arrays m call.low).is_of_pool.rows y alive)

  abbrev after : Shape
  after = if_done call.steps.is_done (shape_of (v.arrays m)) (shape_of next)

  after_marked : AreMarked (called v f number) → if_done call.steps.is_done (shape_of (v.arrays m)) (shape_of next) ≡ shape_of (f m)
  after_marked are =
      sym (shape_if call.steps.is_done)
      ∙ next_shape v f m a b (if_done call.steps.is_done (v.arrays m) next) set call.low call.goes.stays (is_next call.steps.is_done) notes are

  marked : (p : ℕ) → is_current v.state p ≡ true → gone_in v p ≡ false
  marked p current = heeded_gone v call.heeded p

  may_step : (n : ℕ) (vals : ℕ → Values) (spent : ℕ → Bool) → n < v.state.made → is_failed (called v f number) n ≡ false → IsTrackedInCall v a n vals spent
      → MayStep v.state (v.arrays m) next (f m) v.number on a
  may_step n vals spent below goes amid = record {
    commit = may_commit v f number m n a b on set call.heeded views call.later call.on_is below goes amid.slices
        (subst (λ g. LogInvariant v.state v.number g a) (λ i p. heeded_gone v call.heeded p i) amid.stood.log);
    opened = subst (λ k. IsOpen (shape_of next) k a) (call.is_next.seated.number ∙ sym (set.arrays m call.low).number)
        (opened v.state v.state.made m next a call.is_next.seated amid.slices call.low);
    whole = call.whole;
  }

  -- what contents say of the array meanwhile
  abbrev Either : (ℕ → Values) → (ℕ → Bool) → Image → Type 0
  Either vals spent r =
      (ImageShowsArray v.state (v.arrays m).number (shape_of (v.arrays m)) vals spent r × KeepsSupers (v.arrays m).number a r)
      ⊎ (ImageShowsArray v.state (v.arrays m).number (shape_of next) vals spent r × HasFields v.state (v.arrays m).number next.truth r)

  -- what the array holds before it
  abbrev Held : (ℕ → Values) → (ℕ → Bool) → Type 0
  Held vals spent = ArrayInvariant v.state (shape_of (v.arrays m)) (v.arrays m) vals spent a

  grows_if : (d : Bool) → KeepsReach v.state (shape_of (v.arrays m)) (if_done d (shape_of (v.arrays m)) (shape_of next))
  grows_if true = call.grows
  grows_if false = reach_same (is_current v.state) (shape_of (v.arrays m))

  -- where it is done, they say it by the shape before it or after it
  done_during : (vals : ℕ → Values) (spent : ℕ → Bool) (r : Image) → call.steps.is_done ≡ true → Either vals spent r
      → SaysSome v.state (v.arrays m).number (shape_of (v.arrays m)) (if_done call.steps.is_done (shape_of (v.arrays m)) (shape_of next)) vals spent r
  done_during vals spent r is either = elim either [
    | inl old ↦
        record {
          shape = shape_of (v.arrays m);
          says = old.0;
          framed = refl;
          from = reach_same (is_current v.state) (shape_of (v.arrays m));
          to = grows_if call.steps.is_done;
        }
    | inr new ↦
        record {
          shape = shape_of next;
          says = new.0;
          framed = view_frame next ∙ call.framed ∙ sym (view_frame (v.arrays m));
          from = call.grows;
          to = subst (λ (d : Bool). KeepsReach v.state (shape_of next) (if_done d (shape_of (v.arrays m)) (shape_of next))) (sym is)
              (reach_same (is_current v.state) (shape_of next));
        }
  ]

  step_acts : (vals : ℕ → Values) (spent : ℕ → Bool) → IncludesSpent (f m) spent → MayStep v.state (v.arrays m) next (f m) v.number on a
      → CallMoves (v.arrays m).number a b (Held vals spent)
      (SaysSome v.state (v.arrays m).number (shape_of (v.arrays m)) (if_done call.steps.is_done (shape_of (v.arrays m)) (shape_of next)) vals spent)
      (ArrayInvariant v.state (if_done call.steps.is_done (shape_of (v.arrays m)) (shape_of next)) (f m) vals spent b)
  step_acts vals spent covers able =
      let moving = call.steps.moving v.state vals spent covers able in
      let H = Held vals spent in
      let Q : Type 0 = ArrayInvariant v.state (if_done call.steps.is_done (shape_of (v.arrays m)) (shape_of next)) (f m) vals spent b in
      let During : Bool → Image → Type 0 = λ d.
      SaysSome v.state (v.arrays m).number (shape_of (v.arrays m)) (if_done d (shape_of (v.arrays m)) (shape_of next)) vals spent in
      elim (cases_Bool call.steps.is_done) [
        | inl is ↦
            moves_by (v.arrays m).number a b H H Q Q (Either vals spent) (During call.steps.is_done)
            (λ holds. holds) (λ r either. done_during vals spent r is either) (λ holds. holds)
            (record { stays = moving.stays; leaves = moving.leaves; holds = moving.holds; apart = moving.apart; calm = moving.calm; bounded = moving.bounded })
        | inr not_done ↦
            let reads = call.steps.idle not_done in
            let quiet = acts_some v.state (v.arrays m) (v.arrays m) spent a b (shape_of (v.arrays m)) vals vals
            (keeping_calls a b set.lasting reads.stays reads.keeps v.state (shape_of (v.arrays m)) (v.arrays m) vals spent) in
            record {
              stays = moving.stays;
              leaves = λ traced.
                  subst (λ (d : Bool). Leaves a b (λ c. IsInside a.sectors c → ImageInCall (v.arrays m).number a b (λ r. Held vals spent → During d r) c)) (sym not_done)
                  (quiet.leaves traced);
              holds = moving.holds;
              apart = moving.apart;
              calm = moving.calm;
              bounded = moving.bounded;
            }
      ]

  acts : ActsOne v f number m a b (λ vals. vals) (if_done call.steps.is_done (shape_of (v.arrays m)) (shape_of next)) (MayStep v.state (v.arrays m) next (f m) v.number on a)
  acts = record {
    heeded = call.heeded;
    views = views;
    shape = after_marked;
    grows = grows_if call.steps.is_done;
    noted =
        subst (λ (shape : Shape). KeepsReachOn (is_left (called v f number)) shape (shape_of (f m))) (shape_if call.steps.is_done)
        (left_reach (called v f number) m (if_done call.steps.is_done (v.arrays m) next) b call.low views.seated
        (only_notes (if_done call.steps.is_done (v.arrays m) next) (f m) a b notes));
    frame = ap frame_of notes.same.truth ∙ frame_if call.steps.is_done;
    goes = call.goes;
    later = call.later;
    able = may_step;
    acts = step_acts;
    kept = λ able log.
        kept_more v.state number (has_gone (f m)) (gone_in (called v f number)) b
        (λ p is. gone_from (called v f number) p m (call.few p is) call.low is) (call.steps.kept v.state able);
    elsewhere = (on, λ p gone. ap (λ ps. names ps p) call.on_is ∙ names_current v.state p ∙ gone, call.elsewhere);
  }

  -- ---- the rows that images leave

  -- contents that a stop leaves before it have its state
  state_before : (n : ℕ) (vals : ℕ → Values) (spent : ℕ → Bool) (r : Image) → IsTrackedInCall v a n vals spent → IsLeft a r → state_in r ≡ Some v.state
  state_before n vals spent r amid left =
      state_same r (replayed a.sectors left.0) (λ place. left.2 (log_slice place) 0)
      ∙ (stood_left v.state amid.durable vals spent (gone_in v) v a n left.0 amid.stood left.1).0

  held_before : (vals : ℕ → Values) (spent : ℕ → Bool) → IsTrackedInCall v a m vals spent → Held vals spent
  held_before vals spent amid =
      subst (λ (s : Shape). ArrayInvariant v.state s (v.arrays m) vals spent a) (amid.marked marked) amid.stood.holds

  -- once it is done, images leave the rows that are left after it
  pub done_rows : call.steps.is_done ≡ true → is_settled next ≡ true → next.young ≡ false
      → (vals : ℕ → Values) (spent : ℕ → Bool) → is_failed (called v f number) m ≡ false → IncludesSpent (f m) spent → IsTrackedInCall v a m vals spent
      → LeavesRows (called v f number) b m
  done_rows is settled young vals spent goes covers amid =
      let noted : Notes next (f m) a b = subst (λ (d : Bool). Notes (if_done d (v.arrays m) next) (f m) a b) is notes in
      let clear = clear_seats next (f m) noted.same in
      let able = may_step m vals spent call.low goes amid in
      let now = (own_part v f number m a b (λ k. k) after (MayStep v.state (v.arrays m) next (f m) v.number on a) set acts vals spent goes covers).holds amid in
      record {
        settled = clear.settled young settled;
        young = clear.young ∙ young;
        images = λ r left.
            let state = state_same r (replayed b.sectors left.0) (λ place. left.2 (log_slice place) 0)
            ∙ (stood_left v.state now.durable vals spent (gone_in (called v f number)) (called v f number) b m left.0 now.stood left.1).0 in
            subst (λ k. LeavesFrom k m r) (sym clear.resync)
            (from_fields v.state next.resync m next.truth r state (settled_rows next call.is_next.seated.is_array young settled)
            (subst (λ k. HasFields v.state k next.truth r) (set.arrays m call.low).number
            (call.steps.durable is v.state vals spent covers able (held_before vals spent amid) r left)));
      }

  moment : (vals : ℕ → Values) (spent : ℕ → Bool) → IsTrackedInCall v a m vals spent → LeavesRows v a m → (c : Image)
      → ImageInCall (v.arrays m).number a b (λ r. Held vals spent → Either vals spent r) c
      → LeavesFrom (v.arrays m).resync m (replayed a.sectors c)
  moment vals spent amid rows c turns =
      let number_is = (set.arrays m call.low).number in
      let r : Image = replayed a.sectors c in
      let state = turned_state v.state amid.durable vals spent (gone_in v) v a b m (v.arrays m).number (λ i. Held vals spent → Either vals spent i) c amid.stood turns in
      elim (turns.own (held_before vals spent amid)) [
        | inl old ↦
            let early = old.1 in
            from_supers v.state (v.arrays m).resync m r early.0 state (state_before m vals spent early.0 amid early.1)
            (subst (λ k. (place : ℕ) → r (member_slice place k) super_sector ≡ early.0 (member_slice place k) super_sector) number_is early.2)
            (rows.images early.0 early.1)
        | inr new ↦
            let young = call.young ∙ rows.young in
            from_lower (v.arrays m).resync next.resync m r call.rows
            (from_fields v.state next.resync m next.truth r state
            (settled_rows next call.is_next.seated.is_array young (call.settled rows.young rows.settled))
            (subst (λ k. HasFields v.state k next.truth r) number_is new.1))
      ]

  own_rows : (vals : ℕ → Values) (spent : ℕ → Bool) → is_failed (called v f number) m ≡ false → IncludesSpent (f m) spent
      → IsTrackedInCall v a m vals spent → LeavesRows v a m → KeepsRows v (called v f number) a b m
  own_rows vals spent goes covers amid rows =
      elim (cases_Bool call.steps.is_done) [
        | inr not_done ↦
            let noted : Notes (v.arrays m) (f m) a b = subst (λ (d : Bool). Notes (if_done d (v.arrays m) next) (f m) a b) not_done notes in
            rows_read v (called v f number) a b m set.lasting (call.steps.idle not_done) (clear_seats (v.arrays m) (f m) noted.same) rows
        | inl is_done ↦
            let noted : Notes next (f m) a b = subst (λ (d : Bool). Notes (if_done d (v.arrays m) next) (f m) a b) is_done notes in
            let young = call.young ∙ rows.young in
            let moving = call.steps.moving v.state vals spent covers (may_step m vals spent call.low goes amid) in
            record {
              later = let more = call.rows in let same = noted.same.resync in omega (arith, more, same);
              leaves = λ traced.
                  leaves_weaker
                  (λ c. IsInside a.sectors c → ImageInCall (v.arrays m).number a b (λ r. Held vals spent → Either vals spent r) c)
                  (λ c. IsInside a.sectors c → LeavesFrom (v.arrays m).resync m (replayed a.sectors c))
                  (λ c turn inside. moment vals spent amid rows c (turn inside))
                  (moving.leaves traced);
              after = done_rows is_done (call.settled rows.young rows.settled) young vals spent goes covers amid;
            }
      ]

  -- ---- where a member is lacking

  -- Contents that have the shape and the truth of the array once it is done: no member is lacking in it, or its truth leaves just the
  -- rows that are left in it.
  next_lacking : (row : ℕ) (r : Image) → row ≤ next.resync → next.young ≡ false → state_in r ≡ Some v.state → shape_in v.state r m ≡ Some (shape_of next)
      → HasFields v.state m next.truth r → LackingFrom row m r
  next_lacking row r less young state shape fields =
      elim (cases_Bool (is_whole_array next)) [
        | inl whole ↦ lacking_whole row m v.state next r call.is_next.seated.is_array whole state shape
        | inr part ↦
            elim (call.is_next.seated.is_of_pool.synced young part) [
              | inl rows ↦ lacking_all row m r (from_fields v.state row m next.truth r state (omega (arith, less, rows)) fields)
              | inr some ↦
                  absurd (both_ways (has_gone next some.0) (ap (λ ps. names ps some.0) (call.is_next.went ∙ call.heeded m call.low)) some.2)
            ]
      ]

  moment_lacking : (vals : ℕ → Values) (spent : ℕ → Bool) → IsTrackedInCall v a m vals spent → LeavesLacking v a m → (c : Image)
      → ImageInCall (v.arrays m).number a b (λ r. Held vals spent → Either vals spent r) c
      → LackingFrom (v.arrays m).resync m (replayed a.sectors c)
  moment_lacking vals spent amid leaves c turns =
      let number_is = (set.arrays m call.low).number in
      let r : Image = replayed a.sectors c in
      let state = turned_state v.state amid.durable vals spent (gone_in v) v a b m (v.arrays m).number (λ i. Held vals spent → Either vals spent i) c amid.stood turns in
      elim (turns.own (held_before vals spent amid)) [
        | inl old ↦
            let early = old.1 in
            lacking_supers (v.arrays m).resync m r early.0 (state ∙ sym (state_before m vals spent early.0 amid early.1))
            (λ s place.
            super_of_sector s r early.0 m place
            (subst (λ k. (place : ℕ) → r (member_slice place k) super_sector ≡ early.0 (member_slice place k) super_sector) number_is early.2 place))
            (leaves.images early.0 early.1)
        | inr new ↦
            next_lacking (v.arrays m).resync r call.rows (call.young ∙ leaves.young) state
            (subst (λ k. shape_in v.state r k ≡ Some (shape_of next)) number_is new.0.shape_is)
            (subst (λ k. HasFields v.state k next.truth r) number_is new.1)
      ]

  own_lacking : (vals : ℕ → Values) (spent : ℕ → Bool) → is_failed (called v f number) m ≡ false → IncludesSpent (f m) spent
      → IsTrackedInCall v a m vals spent → LeavesLacking v a m → KeepsLacking v (called v f number) a b m
  own_lacking vals spent goes covers amid leaves =
      elim (cases_Bool call.steps.is_done) [
        | inr not_done ↦
            let noted : Notes (v.arrays m) (f m) a b = subst (λ (d : Bool). Notes (if_done d (v.arrays m) next) (f m) a b) not_done notes in
            lacking_read v (called v f number) a b m set.lasting (call.steps.idle not_done) (clear_seats (v.arrays m) (f m) noted.same) leaves
        | inl is_done ↦
            let noted : Notes next (f m) a b = subst (λ (d : Bool). Notes (if_done d (v.arrays m) next) (f m) a b) is_done notes in
            let young = call.young ∙ leaves.young in
            let able = may_step m vals spent call.low goes amid in
            let moving = call.steps.moving v.state vals spent covers able in
            let holds = held_before vals spent amid in
            let now = (own_part v f number m a b (λ k. k) after (MayStep v.state (v.arrays m) next (f m) v.number on a) set acts vals spent goes covers).holds amid in
            record {
              later = let more = call.rows in let same = noted.same.resync in omega (arith, more, same);
              leaves = λ traced.
                  leaves_weaker
                  (λ c. IsInside a.sectors c → ImageInCall (v.arrays m).number a b (λ r. Held vals spent → Either vals spent r) c)
                  (λ c. IsInside a.sectors c → LackingFrom (v.arrays m).resync m (replayed a.sectors c))
                  (λ c turn inside. moment_lacking vals spent amid leaves c (turn inside))
                  (moving.leaves traced);
              after = record {
                young = noted.same.young ∙ young;
                images = λ r left.
                    let state = state_same r (replayed b.sectors left.0) (λ place. left.2 (log_slice place) 0)
                    ∙ (stood_left v.state now.durable vals spent (gone_in (called v f number)) (called v f number) b m left.0 now.stood left.1).0 in
                    let shaped = subst (λ k. shape_in v.state r k ≡ Some (if_done call.steps.is_done (shape_of (v.arrays m)) (shape_of next))) now.stood.number
                    ((moving.holds holds).shape.says r left).shape_is in
                    subst (λ k. LackingFrom k m r) (sym noted.same.resync)
                    (next_lacking next.resync r (omega arith) young state
                    (subst (λ (d : Bool). shape_in v.state r m ≡ Some (if_done d (shape_of (v.arrays m)) (shape_of next))) is_done shaped)
                    (subst (λ k. HasFields v.state k next.truth r) (set.arrays m call.low).number
                    (call.steps.durable is_done v.state vals spent covers able holds r left)));
              };
            }
      ]

  -- ---- the part

  -- values as they were, whichever array they are of
  same_values : (n : ℕ) (vals : ℕ → Values) → (if n == m then vals else vals) ≡ vals
  same_values n vals = of (n == m)
    where
      of : (t : Bool) → (if t then vals else vals) ≡ vals
      of true = refl
      of false = refl

  pub step_brings : ChangesData v (called v f number) a b (λ n vals. vals)
  step_brings =
      subst (ChangesData v (called v f number) a b) (λ i n vals. same_values n vals i)
      (one_brings v f number m a b (λ vals. vals) after (MayStep v.state (v.arrays m) next (f m) v.number on a) set acts
      (λ same vals spent goes covers amid rows. own_rows vals spent goes covers amid rows) own_lacking)

  -- no array has changed but by the step and its losses
  pub step_arrays : (n : ℕ) → n < v.state.made → OnlyFailures (stepped v m next call.steps.is_done n) (f n)
  step_arrays n low =
      elim (cases_eq n m) [
        | inl same ↦
            subst (λ k. OnlyFailures (stepped v m next call.steps.is_done k) (f k)) (sym same)
            (subst (λ (t : Bool). OnlyFailures (if t && call.steps.is_done then next else v.arrays m) (f m)) (sym (eq-eqb m m refl))
            (subst (λ (k : View). OnlyFailures k (f m)) (is_it call.steps.is_done) (only_notes (if_done call.steps.is_done (v.arrays m) next) (f m) a b notes)))
        | inr apart ↦
            subst (λ (t : Bool). OnlyFailures (if t && call.steps.is_done then next else v.arrays n) (f n)) (sym (ne_eqb n m apart))
            (only_same (v.arrays n) (f n) (call.others n apart))
      ]
    where
      is_it : (d : Bool) → if_done d (v.arrays m) next ≡ (if true && d then next else v.arrays m)
      is_it true = refl
      is_it false = refl
