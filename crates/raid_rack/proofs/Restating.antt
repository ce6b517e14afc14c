-- All superblocks are written anew: the arrays are settled, and one commit that marks nobody has them.
use Rattle.std.proofs.Common.{◌≡◌, ℕ, ◌<◌, Bool, true, false, ◌&&◌, not, List, [], length, get_or, slice_get, Some, option_map, refl, sym, ap, subst, ◌∙◌, arith}
use Rattle.std.proofs.lemmas.Bool.{both_ways, and_parts}
use Rattle.arrayvec.specs.ArrayVec.{ArrayVec}
use Rattle.rack.specs.Seen.{RackView}
use Rattle.rack.specs.Targets.{Target}
use Rattle.pool_state.specs.declared.contents.State.{State}
use Rattle.array_image.specs.Arrays.{Shape}
use Rattle.array_image.specs.Held.{IsSynced}
use Rattle.array_image.specs.States.{current_places, is_current}
use Rattle.log_laws.specs.View.{LogView, names, next_number}
use Rattle.log_laws.specs.Commits.{CommitCall}
use Rattle.array_model.specs.declared.Seat.TheVariants.{Missing}
use Rattle.array_model.specs.View.{View, has_gone, shape_of}
use Rattle.array_model.specs.Members.{slice_on}
use Rattle.array_core.specs.Seats.{gone as without, heeded}
use Rattle.raid_rack.specs.declared.arrays.Arrays.{Arrays}
use Rattle.raid_laws.specs.Agreeing.{MakesAgree}
use Rattle.raid_laws.specs.Cleaning.{IsIdle, NoneFails}
use Rattle.raid_laws.specs.Losses.{AddsCopies, newly_gone}
use Rattle.raid_laws.specs.Missing.{marked}
use Rattle.raid_laws.specs.Moves.{AreMarked, IsHeeded, IsSet, Mends, ChangesNoData, RaisesBy}
use Rattle.raid_laws.specs.Raid.{Raid, gone_in, is_left}
use Rattle.raid_rack.specs.RaidRack.{IsRunning, no_array, raid_by}
use Rattle.raid_laws.specs.Settling.{HasStaged, HasSupers, IsMarking, SettlesTo, state_after}
use Rattle.raid_laws.proofs.Added.{names_current}
use Rattle.raid_laws.proofs.Agreeing.{agree_still, none_early, none_later}
use Rattle.raid_laws.proofs.Committed.{IsCommit, raid_after}
use Rattle.raid_rack.proofs.Mended.{each_get, each_sectors, first_named}
use Rattle.raid_laws.proofs.Moving.{moves_then}
use Rattle.raid_laws.proofs.Noted.{heeded_shape, moves_heeded, with_arrays}
use Rattle.raid_laws.proofs.Over.{someone_left}
use Rattle.raid_rack.proofs.Raises.{raised_up, raises_then}
use Rattle.raid_laws.specs.Truths.{MakesTruths}
use Rattle.raid_rack.proofs.Truths.{makes_after, makes_commit}
use Rattle.raid_rack.proofs.Turned.{moves_emptied, newly_named, none_newly}
use Rattle.raid_laws.proofs.Turns.{agrees_commit, commit_marked, moves_commit}
use Rattle.raid_laws.proofs.Whole.{heeded_gone, heeded_left}

-- ---- the arrays are settled, and heeded where nobody went

-- targets that are staged are so for arrays in which places were heeded
staged_heeded : (v : Raid) (f : ℕ → View) (xs : List Target) → ((n : ℕ) → n < v.state.made → f n ≡ heeded (v.arrays n))
    → HasStaged v v.state.made xs → HasStaged (with_arrays v f) v.state.made xs
staged_heeded v f xs arrays staged = record {
  only = λ z among.
      let s = staged.only z among in
      let back = sym (arrays s.array s.low) in
      record {
        array = s.array;
        low = s.low;
        position = s.position;
        inside = subst (λ (u : View). s.position < u.truth.raid_disks) back s.inside;
        there = subst (λ (u : View). slice_get u.seats s.position ≡ Some Missing → ⊥) back s.there;
        disk = s.disk ∙ ap (λ (u : View). slice_on u s.position) back;
        sector = s.sector;
      };
  apart = staged.apart;
  each = λ n low.
      let has = staged.each n low in
      subst (λ (u : View). HasSupers u xs) (sym (arrays n low))
      (record { before = has.before; added = has.added; adds = has.adds; among = has.among; unmarked = record { mark = has.unmarked.mark; rows = has.unmarked.rows } });
  few = staged.few;
}

-- arrays that are settled, of which nobody is listed
pub record HasSettled (a d : Arrays) (x y : RackView) : Type 0 where
  pub before : IsHeeded (raid_by a)
  pub running : IsRunning d y
  pub heeded : IsHeeded (raid_by d)
  pub settles : SettlesTo (raid_by a) (raid_by d) x y d.state.made d.log.added

-- from the log's number alone
pub settles_from : (a c : Arrays) (log : LogView) (x y : RackView) → log.number ≡ a.log.number
    → SettlesTo (raid_by (record a { log = log })) (raid_by c) x y a.state.made c.log.added → SettlesTo (raid_by a) (raid_by c) x y a.state.made c.log.added
settles_from a c log x y number settles =
    let whole : raid_by (record a { log = log }) ≡ raid_by a =
    λ i. record { state = a.state; arrays = λ n. get_or a.all.items n no_array; number = number i } in
    subst (λ (v : Raid). SettlesTo v (raid_by c) x y a.state.made c.log.added) whole settles

pub has_settled : (a c : Arrays) (all : ArrayVec View) (log : LogView) (lost : List ℕ) (x y : RackView) → IsHeeded (raid_by a) → log.number ≡ a.log.number
    → SettlesTo (raid_by (record a { log = log })) (raid_by c) x y a.state.made c.log.added → IsRunning c y
    → lost ≡ newly_gone c.state c.all.items → lost ≡ []
    → ((n : ℕ) → slice_get all.items n ≡ option_map heeded (slice_get c.all.items n)) → length all.items ≡ length c.all.items
    → HasSettled a (record c { all = all }) x y
has_settled a c all log lost x y before number from running lost_is none each count =
    let v = raid_by c in
    let f : ℕ → View = λ n. get_or all.items n no_array in
    let same = running.count in
    let arrays : (n : ℕ) → n < c.state.made → f n ≡ heeded (v.arrays n) = λ n low. each_get heeded c.all.items all.items n each (omega (arith, low, same)) in
    let one = settles_from a c log x y number from in
    let made : c.state.made ≡ a.state.made = ap (λ (s : State). s.made) one.same in
    let now : (n : ℕ) → n < a.state.made → n < c.state.made = λ n low. subst (λ k. n < k) (sym made) low in
    let step = moves_heeded v f y running.set arrays (λ n. each_sectors heeded c.all.items all.items n (λ u. refl) each)
    (none_newly c running.count running.set.few (sym lost_is ∙ none)) in
    record {
      before = before;
      running = record { count = count ∙ running.count; set = step.set };
      heeded = λ n low. ap (λ (u : View). u.went) (arrays n low);
      settles = record {
        moves = moves_then (raid_by a) v (with_arrays v f) x y y one.moves step;
        reads = one.reads;
        same = one.same;
        number = one.number;
        raised = λ n low. let e = ap (λ (u : View). u.truth.events) (arrays n (now n low)) in let up = one.raised n low in omega (arith, e, up);
        rest = λ n low past. absurd (omega (arith, low, past, made));
        left = λ n low less young. ap (λ (u : View). u.truth.resync_offset) (arrays n (now n low)) ∙ one.left n low low young;
        went = λ n p low is. absurd (both_ways (has_gone ((raid_by a).arrays n) p) (ap (λ ps. names ps p) (before n low)) is);
        staged = staged_heeded v f c.log.added arrays (subst (λ k. HasStaged v k c.log.added) (sym made) one.staged);
        settled = λ n vals spent less joined goes covers amid.
            subst (λ (shape : Shape). IsSynced shape n y.held) (sym (ap shape_of (arrays n less) ∙ heeded_shape (v.arrays n)))
            (one.settled n vals spent (subst (λ k. n < k) made less) joined (step.still n less goes) (λ z alive. step.spent n z less (covers z alive)) amid);
      };
    }

-- ---- the commit

pub and_none : (b : Bool) → (b && false) ≡ false
and_none true = refl
and_none false = refl

unlisted : (d : Arrays) (lost : List ℕ) → IsHeeded (raid_by d) → lost ≡ [] → (p : ℕ) → names lost p ≡ (is_current d.state p && gone_in (raid_by d) p)
unlisted d lost heeded none p =
    ap (λ ps. names ps p) none ∙ sym (ap (λ b. is_current d.state p && b) (heeded_gone (raid_by d) heeded p) ∙ and_none (is_current d.state p))

nobody_noted : (d : Arrays) (lost : List ℕ) → lost ≡ [] → (n p : ℕ) → n < d.state.made → names lost p ≡ true → has_gone ((raid_by d).arrays n) p ≡ true
nobody_noted d lost none n p low is = absurd (both_ways (names lost p) (ap (λ ps. names ps p) none) is)

pub marking_anew : (a d : Arrays) (lost on : List ℕ) (l : LogView) (t : State) (x y : RackView) → HasSettled a d x y → lost ≡ []
    → t ≡ marked lost d.state → on ≡ current_places t → AddsCopies t on d.log.added l.added → l.number ≡ d.log.number
    → IsMarking (raid_by d) lost on l d.log.added y
marking_anew a d lost on l t x y has none t_is on_is copies number = record {
  set = has.running.set;
  staged = has.settles.staged;
  copies = subst (λ (s : State). AddsCopies s on d.log.added l.added) t_is copies;
  number = number;
  lost_is = unlisted d lost has.heeded none;
  noted = nobody_noted d lost none;
  fresh = λ n gone low fresh. has.heeded n low;
  on_is = on_is ∙ ap current_places t_is;
}

-- what is known once it is done, and before whoever went in it is marked
pub record HasRestated (a b : Arrays) (x y : RackView) : Type 0 where
  pub moves : ChangesNoData (raid_by a) (raid_by b) x y
  pub supers : MakesAgree (raid_by a) (raid_by b) x y
  pub truths : x.lasting → MakesTruths (raid_by a) (raid_by b) x y
  pub marked : NoneFails x y → AreMarked (raid_by b)
  pub raises : RaisesBy 1 (raid_by a) (raid_by b)
  pub running : IsRunning b y

pub has_restated : (a d : Arrays) (all : ArrayVec View) (log l : LogView) (t : State) (lost on gone : List ℕ) (x y z : RackView) → HasSettled a d x y
    → t ≡ marked lost d.state → IsMarking (raid_by d) lost on l d.log.added y → CommitCall l on gone y z
    → ((n : ℕ) → slice_get all.items n ≡ option_map (without gone) (slice_get d.all.items n)) → length all.items ≡ length d.all.items
    → log.number ≡ next_number l.number
    → HasRestated a (record d { state = t; all = all; log = log }) x z
has_restated a d all log l t lost on gone x y z has t_is marking call each count number =
    let f : ℕ → View = λ n. get_or all.items n no_array in
    let v = raid_by d in
    let commit : IsCommit v lost on gone l d.log.added f y z = record {
      marking = marking;
      call = call;
      fewer = λ p named. named;
      arrays = λ n low. each_get (without gone) d.all.items all.items n each (let same = has.running.count in omega (arith, low, same));
      sectors = λ n. each_sectors (without gone) d.all.items all.items n (λ u. refl) each;
    } in
    let back = sym t_is in
    let same_number = sym number in
    let w = raid_after v lost (next_number l.number) f in
    let whole : w ≡ raid_by (record d { state = t; all = all; log = log }) = λ i. record { state = back i; arrays = f; number = same_number i } in
    let step = moves_commit (raid_by a) v lost on gone l d.log.added f x y z has.settles commit in
    record {
      moves = subst (λ (r : Raid). ChangesNoData (raid_by a) r x z) whole step;
      supers = subst (λ (r : Raid). MakesAgree (raid_by a) r x z) whole (agrees_commit (raid_by a) v lost on gone l d.log.added f x y z has.settles commit);
      truths = λ lasting.
          subst (λ (r : Raid). MakesTruths (raid_by a) r x z) whole
          (makes_after (raid_by a) v w x y z lasting has.settles.moves (makes_commit v lost on gone l d.log.added f y z commit));
      marked = λ none.
          subst AreMarked whole
          (commit_marked v lost on gone l d.log.added f y z commit (none_later x y z has.settles.moves.stays none));
      raises =
          let next = raised_up l.number in
          let was = marking.number in
          let stays = has.settles.number in
          record {
            number = omega (arith, stays, was, next, number);
            epoch =
                let up = raised_up d.state.epoch in
                let is = ap (λ (s : State). s.epoch) t_is in
                let same = ap (λ (s : State). s.epoch) has.settles.same in
                omega (arith, up, is, same);
            events = λ n low.
                let made = ap (λ (s : State). s.made) has.settles.same in
                let e = ap (λ (u : View). u.truth.events) (commit.arrays n (omega (arith, low, made))) in
                let up = has.settles.raised n low in
                omega (arith, e, up);
          };
      running = record {
        count = count ∙ has.running.count ∙ sym (ap (λ (s : State). s.made) t_is);
        set = subst (λ (r : Raid). IsSet r z) whole step.set;
      };
    }

-- ---- the whole call

pub record RestatesAll (a b : Arrays) (x y : RackView) : Type 0 where
  pub mends : Mends (raid_by a) (raid_by b) x y
  pub supers : MakesAgree (raid_by a) (raid_by b) x y
  pub raises : RaisesBy 18 (raid_by a) (raid_by b)

nobody_before : (a : Arrays) (b : Raid) → IsHeeded (raid_by a) → (p : ℕ) → gone_in (raid_by a) p ≡ true → is_current b.state p ≡ false
nobody_before a b heeded p is = absurd (both_ways (gone_in (raid_by a) p) (heeded_gone (raid_by a) heeded p) is)

-- whoever went in the commit was marked after it
pub restates_then : (a b c : Arrays) (x y z : RackView) → IsHeeded (raid_by a) → HasRestated a b x y → Mends (raid_by b) (raid_by c) y z
    → (AreMarked (raid_by b) → IsIdle (raid_by b) (raid_by c) × (z ≡ y)) → RaisesBy 17 (raid_by b) (raid_by c) → RestatesAll a c x z
restates_then a b c x y z heeded one mends idle raises = record {
  mends = record {
    moves = moves_then (raid_by a) (raid_by b) (raid_by c) x y z one.moves mends.moves;
    heeded = mends.heeded;
    marked = nobody_before a (raid_by c) heeded;
  };
  supers = agree_still (raid_by a) (raid_by b) (raid_by c) x y z one.moves mends.moves
      (λ none. let same = idle (one.marked (none_early x y z mends.moves.stays none)) in (same.0.state, same.1)) one.supers;
  raises = raises_then 1 17 (raid_by a) (raid_by b) (raid_by c) one.moves.book.same.made one.raises raises;
}

-- somebody went while the arrays were settled
pub restates_early : (a b c : Arrays) (log : LogView) (lost : List ℕ) (x y z : RackView) → IsHeeded (raid_by a) → log.number ≡ a.log.number
    → SettlesTo (raid_by (record a { log = log })) (raid_by b) x y a.state.made b.log.added → IsRunning b y
    → lost ≡ newly_gone b.state b.all.items → 0 < length lost → Mends (raid_by b) (raid_by c) y z → RaisesBy 17 (raid_by b) (raid_by c)
    → RestatesAll a c x z
restates_early a b c log lost x y z heeded number from running lost_is some mends raises =
    let one = settles_from a b log x y number from in
    let first = first_named lost some in
    let both = and_parts (is_current b.state first.0) (gone_in (raid_by b) first.0)
    (sym (ap (λ ps. names ps first.0) lost_is ∙ newly_named b first.0 running.count running.set.few) ∙ first.1) in
    let was = heeded_left (raid_by a) first.0 heeded (one.moves.book.current first.0 both.0) in
    let now : is_left (raid_by b) first.0 ≡ false = ap (λ g. is_current b.state first.0 && not g) both.1 ∙ and_none (is_current b.state first.0) in
    record {
      mends = record {
        moves = moves_then (raid_by a) (raid_by b) (raid_by c) x y z one.moves mends.moves;
        heeded = mends.heeded;
        marked = nobody_before a (raid_by c) heeded;
      };
      supers = λ none. absurd (none_early x y z mends.moves.stays none first.0 (one.moves.cause first.0 was now));
      raises = raises_then 1 17 (raid_by a) (raid_by b) (raid_by c) one.moves.book.same.made
          (record {
            number = let same = one.number in omega (arith, same);
            epoch = let same = ap (λ (s : State). s.epoch) one.same in omega (arith, same);
            events = one.raised;
          })
          raises;
    }

-- nobody is left to write them on
pub restates_alone : (a d : Arrays) (t : State) (lost on : List ℕ) (x y : RackView) → HasSettled a d x y → lost ≡ [] → t ≡ marked lost d.state
    → on ≡ current_places t → on ≡ [] → RestatesAll a (record d { state = t }) x y × IsRunning (record d { state = t }) y
restates_alone a d t lost on x y has none t_is on_is empty =
    let v = raid_by d in
    let over : (p : ℕ) → is_current t p ≡ true → ⊥ = λ p current.
    both_ways (is_current t p) (sym (names_current t p) ∙ ap (λ ps. names ps p) (sym on_is ∙ empty)) current in
    let nobody : (p : ℕ) → is_current (state_after v lost) p ≡ false =
    λ p. ap (λ (s : State). is_current s p) (sym t_is) ∙ sym (names_current t p) ∙ ap (λ ps. names ps p) (sym on_is ∙ empty) in
    let step = moves_emptied v lost y has.running.set (unlisted d lost has.heeded none) (nobody_noted d lost none) nobody
    (λ n low. (has.settles.staged.each n low).unmarked) in
    let back = sym t_is in
    let whole : record v { state = state_after v lost } ≡ raid_by (record d { state = t }) = λ i. record { state = back i; arrays = v.arrays; number = v.number } in
    let joined = moves_then (raid_by a) v (record v { state = state_after v lost }) x y y has.settles.moves step in
    let made = ap (λ (s : State). s.made) t_is in (
      record {
        mends = record {
          moves = subst (λ (w : Raid). ChangesNoData (raid_by a) w x y) whole joined;
          heeded = λ n low. has.heeded n (subst (λ k. n < k) made low);
          marked = nobody_before a (raid_by (record d { state = t })) has.before;
        };
        supers = λ unfaulted n vals spent low below goes.
            let one = someone_left (raid_by (record d { state = t })) n goes in
            absurd (over one.0 one.1);
        raises = record {
          number = let stays = has.settles.number in omega (arith, stays);
          epoch =
              let up = raised_up d.state.epoch in
              let is = ap (λ (s : State). s.epoch) t_is in
              let same = ap (λ (s : State). s.epoch) has.settles.same in
              omega (arith, up, is, same);
          events = λ n low. let up = has.settles.raised n low in omega (arith, up);
        };
      },
      record { count = has.running.count ∙ sym made; set = subst (λ (w : Raid). IsSet w y) whole joined.set },
    )
