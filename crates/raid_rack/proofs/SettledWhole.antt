-- All arrays are settled, and nobody went; or somebody did, and is marked.
use Rattle.std.proofs.Common.{◌≡◌, ◌<◌, ℕ, false, List, ◌&&◌, not, length, get_or, sym, ap, subst, ◌∙◌, arith}
use Rattle.std.proofs.lemmas.Bool.{and_parts}
use Rattle.rack.specs.Seen.{RackView}
use Rattle.rack.specs.Joins.{rose_before}
use Rattle.pool_state.specs.declared.contents.State.{State}
use Rattle.array_image.specs.States.{is_current}
use Rattle.log_laws.specs.View.{LogView, names}
use Rattle.raid_rack.specs.declared.arrays.Arrays.{Arrays}
use Rattle.raid_laws.specs.Enlisting.{HasLost, SettlesWhole}
use Rattle.raid_laws.specs.Losses.{newly_gone}
use Rattle.raid_laws.specs.Moves.{IsHeeded, IsSet, Mends, RaisesBy}
use Rattle.raid_laws.specs.Raid.{Raid, gone_in, is_left}
use Rattle.raid_rack.specs.RaidRack.{IsRunning, no_array, raid_by}
use Rattle.raid_laws.specs.Settling.{SettlesTo}
use Rattle.raid_rack.proofs.Mended.{first_named}
use Rattle.raid_rack.proofs.Restating.{HasSettled, and_none, settles_from}
use Rattle.raid_rack.proofs.Turned.{newly_named}
use Rattle.raid_laws.proofs.Whole.{heeded_left}

-- whoever newly went was one that is left before, and is marked by the mending
pub lost_marked : (a b c : Arrays) (log : LogView) (lost : List ℕ) (x y z : RackView) → IsHeeded (raid_by a) → log.number ≡ a.log.number
    → SettlesTo (raid_by (record a { log = log })) (raid_by b) x y a.state.made b.log.added → IsRunning b y
    → lost ≡ newly_gone b.state b.all.items → 0 < length lost → Mends (raid_by b) (raid_by c) y z
    → HasLost (raid_by a) (raid_by c) x z
lost_marked a b c log lost x y z heeded number from running lost_is some mends =
    let one = settles_from a b log x y number from in
    let first = first_named lost some in
    let both = and_parts (is_current b.state first.0) (gone_in (raid_by b) first.0)
    (sym (ap (λ ps. names ps first.0) lost_is ∙ newly_named b first.0 running.count running.set.few) ∙ first.1) in
    let before = one.moves.book.current first.0 both.0 in
    let was = heeded_left (raid_by a) first.0 heeded before in
    let now : is_left (raid_by b) first.0 ≡ false = ap (λ g. is_current b.state first.0 && not g) both.1 ∙ and_none (is_current b.state first.0) in
    let fault = one.moves.cause first.0 was now in (
      first.0,
      before,
      mends.marked first.0 both.1,
      (fault.0, fault.1, rose_before (mends.moves.stays.faults fault.0) fault.2),
    )

-- the log that is emptied
pub settles_whole : (a d : Arrays) (log : LogView) (x y : RackView) → HasSettled a d x y → log.number ≡ d.log.number
    → SettlesWhole (raid_by a) (raid_by (record d { log = log })) x y × (RaisesBy 18 (raid_by a) (raid_by (record d { log = log })) × IsRunning (record d { log = log }) y)
settles_whole a d log x y has number =
    let back = sym number in
    let whole : raid_by d ≡ raid_by (record d { log = log }) = λ i. record { state = d.state; arrays = λ n. get_or d.all.items n no_array; number = back i } in
    let made = ap (λ (s : State). s.made) has.settles.same in
    subst (λ (w : Raid). SettlesWhole (raid_by a) w x y × (RaisesBy 18 (raid_by a) w × IsRunning (record d { log = log }) y)) whole (
      record {
        moves = has.settles.moves;
        reads = has.settles.reads;
        same = has.settles.same;
        number = has.settles.number;
        raised = has.settles.raised;
        heeded = has.heeded;
        unmarked = λ n low. (has.settles.staged.each n (omega (arith, low, made))).unmarked;
        settled = λ n vals spent low joined goes covers amid. has.settles.settled n vals spent (omega (arith, low, made)) joined goes covers amid;
      },
      (
        record {
          number = let same = has.settles.number in omega (arith, same);
          epoch = let same = ap (λ (s : State). s.epoch) has.settles.same in omega (arith, same);
          events = λ n low. let up = has.settles.raised n low in omega (arith, up);
        },
        record { count = has.running.count; set = subst (λ (w : Raid). IsSet w y) whole has.running.set },
      ),
    )
