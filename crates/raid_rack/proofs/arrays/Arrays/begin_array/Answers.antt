use Rattle.std.proofs.Common.{◌≡◌, ◌||◌, Bool, true, false, None, not, get_or, is_ok, slice_set, refl, ap, sym, subst, ◌∙◌, inr, arith}
use Rattle.arrayvec.specs.ArrayVec.{with_items}
use Rattle.log_laws.specs.View.{LogView}
use Rattle.md_super.specs.Profile.{is_raid5}
use Rattle.array_core.specs.Seats.{seat_of}
use Rattle.array_image.specs.States.{current_places}
use Rattle.array_image.specs.Supers.{is_reshaping}
use Rattle.array_model.specs.View.{View}
use Rattle.array_model.specs.Members.{HasSlices}
use Rattle.pool_state.specs.declared.contents.Work.TheVariants.{Begin}
use Rattle.reshape_laws.specs.Reshapes.{joined, lacks_joined, lacks_two}
use Rattle.growth_laws.specs.Growing.{Lacks, change_of, drive_id, lacks}
use Rattle.growth_laws.proofs.Due.{begin_parts, may_begin}
use Rattle.growth_laws.proofs.Losing.{loses_nothing}
use Rattle.growth_laws.proofs.ReshapeBegins.{begun_keeps, begun_on, begun_turn, is_beginning}
use Rattle.growth_laws.proofs.Steps.{caused_nothing, grows_nothing, reshapes_nothing}
use Rattle.raid_rack.specs.RaidRack.{no_array, raid_by}
use Rattle.raid_rack.proofs.Grown.{HasCalled, begun_reshapes, begun_view, called_own, grows_answered, has_called, logs_there, refused_after, reshape_answered, reshape_call, some_member, step_events}
use Rattle.raid_rack.proofs.RaisedCalls.{raises_call}
use Rattle.raid_rack.proofs.Resynced.{step_later, step_raise}
use Rattle.raid_rack.proofs.Steps.{items_set, same_element}
use Rattle.raid_rack.proofs.arrays.Arrays.begin_array.Given.{Over}
use Rattle.raid_rack.proofs.arrays.Arrays.begin_array.Goals.{After-begin}
use Rattle.raid_rack.proofs.arrays.Arrays.begin_array.Goals as goal

pub drive_id-drive-requires : goal.drive_id-drive-requires
drive_id-drive-requires g c = (begin_parts (raid_by c.args.self.now) c.args.number c.args.place c.requires.due).listed

pub begin-requires-clause-slices : goal.begin-requires-clause-slices
begin-requires-clause-slices g c =
    let a = c.args.self.now in
    let n = c.args.number in
    let place = c.args.place in
    let x = g.S.Rack.seen c.args.rack.now in
    let may = may_begin (raid_by a) x n place (drive_id a.state place) c.requires.running.set c.requires.heeded c.requires.due c.requires.clean c.requires.slice in
    let low = may.becomes.low in
    let count = c.requires.running.count in
    let same = same_element c.deref_mut.result.now a.all.items n _ no_array c.deref_mut.ensures.value (omega (arith, count, low)) in
    subst (λ (u : View). HasSlices (joined u c.current_places-on.result.items place c.drive_id-drive.result) x) (sym same)
    (subst (λ ps. HasSlices (joined ((raid_by a).arrays n) ps place c.drive_id-drive.result) x) (sym c.current_places-on.ensures)
    (subst (λ d. HasSlices (joined ((raid_by a).arrays n) (current_places a.state) place d) x) (sym c.drive_id-drive.ensures) may.becomes.seated.slices))

pub begin-requires-clause-logs : goal.begin-requires-clause-logs
begin-requires-clause-logs g c j low =
    logs_there c.args.self.now (g.S.Rack.seen c.args.rack.now) c.current_places-on.result.items j c.requires.running c.requires.heeded c.current_places-on.ensures low

pub begin-requires-clause-raid5 : goal.begin-requires-clause-raid5
begin-requires-clause-raid5 g c =
    let a = c.args.self.now in
    let n = c.args.number in
    let place = c.args.place in
    let low = (begin_parts (raid_by a) n place c.requires.due).synced.low in
    let count = c.requires.running.count in
    let same = same_element c.deref_mut.result.now a.all.items n _ no_array c.deref_mut.ensures.value (omega (arith, count, low)) in
    subst (λ (u : View). is_raid5 u.truth ≡ true) (sym same) (begin_parts (raid_by a) n place c.requires.due).raid5

pub begin-requires-clause-still : goal.begin-requires-clause-still
begin-requires-clause-still g c =
    let a = c.args.self.now in
    let n = c.args.number in
    let place = c.args.place in
    let low = (begin_parts (raid_by a) n place c.requires.due).synced.low in
    let count = c.requires.running.count in
    let same = same_element c.deref_mut.result.now a.all.items n _ no_array c.deref_mut.ensures.value (omega (arith, count, low)) in
    subst (λ (u : View). is_reshaping u.truth ≡ false) (sym same) (begin_parts (raid_by a) n place c.requires.due).still

pub begin-requires-clause-place : goal.begin-requires-clause-place
begin-requires-clause-place g c =
    let few = c.requires.running.set.few in
    let listed = (begin_parts (raid_by c.args.self.now) c.args.number c.args.place c.requires.due).listed in
    omega (arith, few, listed)

pub begin-requires-clause-joins : goal.begin-requires-clause-joins
begin-requires-clause-joins g c =
    let a = c.args.self.now in
    let n = c.args.number in
    let place = c.args.place in
    let low = (begin_parts (raid_by a) n place c.requires.due).synced.low in
    let count = c.requires.running.count in
    let same = same_element c.deref_mut.result.now a.all.items n _ no_array c.deref_mut.ensures.value (omega (arith, count, low)) in
    subst (λ (u : View). seat_of u place ≡ None) (sym same) (begin_parts (raid_by a) n place c.requires.due).joins

called : (g : Over) (c : After-begin g)
    → HasCalled c.args.self.now (record c.args.self.now { all = with_items c.args.self.now.all (slice_set c.deref_mut.result.now c.args.number c.begin.new.array); log = c.begin.new.log })
    (g.S.Rack.seen c.args.rack.now) (g.S.Rack.seen c.begin.new.rack) c.args.number
    (joined ((raid_by c.args.self.now).arrays c.args.number) (current_places c.args.self.now.state) c.args.place (drive_id c.args.self.now.state c.args.place)) c.begin.ensures.reshapes.steps.is_done
called g c =
    let a = c.args.self.now in
    let n = c.args.number in
    let place = c.args.place in
    let x = g.S.Rack.seen c.args.rack.now in
    let may = may_begin (raid_by a) x n place (drive_id a.state place) c.requires.running.set c.requires.heeded c.requires.due c.requires.clean c.requires.slice in
    let low = may.becomes.low in
    let count = c.requires.running.count in
    has_called (λ u. joined u (current_places a.state) place (drive_id a.state place)) a _ c.begin.new.log x (g.S.Rack.seen c.begin.new.rack) n
    c.clear.new.self.number _ c.begin.new.array c.begin.ensures.reshapes.steps.is_done c.requires.running c.requires.heeded
    (same_element c.deref_mut.result.now a.all.items n _ no_array c.deref_mut.ensures.value (omega (arith, count, low)))
    (items_set a.all c.deref_mut.result.now n c.begin.new.array c.deref_mut.ensures.value)
    (ap (λ (l : LogView). l.number) c.clear.ensures) (step_later c.clear.new.self c.begin.new.log c.begin.ensures.log)
    may.becomes c.begin.ensures.goes.stays
    (begun_view _ c.begin.new.array c.current_places-on.result.items (current_places a.state) place c.drive_id-drive.result (drive_id a.state place) x (g.S.Rack.seen c.begin.new.rack)
    c.begin.ensures.reshapes.steps.is_done c.current_places-on.ensures c.drive_id-drive.ensures c.begin.ensures.reshapes.steps.view)

pub mend-requires : goal.mend-requires
mend-requires g c = record { running = (called g (goal.at.mend-requires g c).After-begin).running }

or_right : (b c : Bool) → c ≡ true → (b || c) ≡ true
or_right true c is = refl
or_right false c is = is

pub returns-then-lacks_with-clause-grows : goal.returns-then-lacks_with-clause-grows
returns-then-lacks_with-clause-grows g c =
    let a = c.args.self.now in
    let n = c.args.number in
    let place = c.args.place in
    let v = raid_by a in
    let x = g.S.Rack.seen c.args.rack.now in
    let low = (begin_parts v n place c.requires.due).synced.low in
    let count = c.requires.running.count in
    let element = c.index-deref-number.is ∙ same_element c.deref.result.now a.all.items n _ no_array c.deref.ensures.0 (omega (arith, count, low)) in
    grows_nothing (change_of (Begin n place)) (Lacks (Begin n place)) v v x x (loses_nothing v) (caused_nothing v x x) c.requires.heeded
    (inr (or_right (lacks v n) (lacks_joined (v.arrays n) (current_places a.state) place)
    (ap (λ ps. lacks_joined (v.arrays n) ps place) (sym c.current_places-on.ensures) ∙ sym (ap (λ (u : View). lacks_joined u c.current_places-on.result.items place) element)
    ∙ sym c.lacks_with.ensures ∙ c.if-lacks_with.true)))

pub returns-then-lacks_with-clause-contents : goal.returns-then-lacks_with-clause-contents
returns-then-lacks_with-clause-contents g c settled =
    let a = c.args.self.now in
    let n = c.args.number in
    let place = c.args.place in
    let v = raid_by a in
    let x = g.S.Rack.seen c.args.rack.now in
    let low = (begin_parts v n place c.requires.due).synced.low in
    let count = c.requires.running.count in
    let element = c.index-deref-number.is ∙ same_element c.deref.result.now a.all.items n _ no_array c.deref.ensures.0 (omega (arith, count, low)) in
    reshapes_nothing (change_of (Begin n place)) (Lacks (Begin n place)) n v x c.requires.running.set c.requires.heeded
    (inr (or_right (lacks v n) (lacks_joined (v.arrays n) (current_places a.state) place)
    (ap (λ ps. lacks_joined (v.arrays n) ps place) (sym c.current_places-on.ensures) ∙ sym (ap (λ (u : View). lacks_joined u c.current_places-on.result.items place) element)
    ∙ sym c.lacks_with.ensures ∙ c.if-lacks_with.true)))

pub returns-clause-grows : goal.returns-clause-grows
returns-clause-grows g c =
    let a = c.args.self.now in
    let n = c.args.number in
    let place = c.args.place in
    let x = g.S.Rack.seen c.args.rack.now in
    let may = may_begin (raid_by a) x n place (drive_id a.state place) c.requires.running.set c.requires.heeded c.requires.due c.requires.clean c.requires.slice in
    let low = may.becomes.low in
    let count = c.requires.running.count in
    let same = same_element c.deref_mut.result.now a.all.items n _ no_array c.deref_mut.ensures.value (omega (arith, count, low)) in
    let all = with_items a.all (slice_set c.deref_mut.result.now n c.begin.new.array) in
    let all_is = items_set a.all c.deref_mut.result.now n c.begin.new.array c.deref_mut.ensures.value in
    let element = c.index-deref-number.is ∙ same_element c.deref.result.now a.all.items n _ no_array c.deref.ensures.0 (omega (arith, count, low)) in
    let lacking : c.lacks_with.result ≡ lacks_joined ((raid_by a).arrays n) c.current_places-on.result.items place =
    c.lacks_with.ensures ∙ ap (λ (u : View). lacks_joined u c.current_places-on.result.items place) element in
    grows_answered (change_of (Begin n place)) (Lacks (Begin n place)) a (record a { all = all; log = c.begin.new.log }) c.mend.new.self x (g.S.Rack.seen c.begin.new.rack) (g.S.Rack.seen c.mend.new.rack) n
    (joined ((raid_by a).arrays n) (current_places a.state) place (drive_id a.state place)) c.begin.new.array c.begin.ensures.reshapes.steps.is_done (is_ok c.begin.result) _
    refl low (called g (goal.at.returns-clause-grows g c).After-begin) (called_own a all n c.begin.new.array count low all_is) c.begin.ensures.reshapes.steps.answer
    (refused_after _ (lacks_two c.begin.new.array) _ c.begin.result c.begin.ensures.refused
    (ap (λ (u : View). lacks_joined u c.current_places-on.result.items place) same ∙ sym lacking ∙ c.if-lacks_with.false))
    c.mend.ensures.mends may.longer (ap not c.lacks.ensures)
    (λ is. inr (ap (λ (b : Bool). b || lacks_joined ((raid_by a).arrays n) (current_places a.state) place) is))

pub returns-clause-raises : goal.returns-clause-raises
returns-clause-raises g c =
    let a = c.args.self.now in
    let n = c.args.number in
    let place = c.args.place in
    let x = g.S.Rack.seen c.args.rack.now in
    let low = (begin_parts (raid_by a) n place c.requires.due).synced.low in
    let count = c.requires.running.count in
    let same = same_element c.deref_mut.result.now a.all.items n _ no_array c.deref_mut.ensures.value (omega (arith, count, low)) in
    raises_call 1 17 a c.mend.new.self (with_items a.all (slice_set c.deref_mut.result.now n c.begin.new.array)) c.begin.new.log n _ c.begin.new.array count low same
    (items_set a.all c.deref_mut.result.now n c.begin.new.array c.deref_mut.ensures.value)
    (let up = step_raise c.clear.new.self c.begin.new.log c.begin.ensures.log in let e = ap (λ (l : LogView). l.number) c.clear.ensures in omega (arith, up, e))
    (step_events _ _ c.begin.new.array x (g.S.Rack.seen c.begin.new.rack) c.begin.ensures.reshapes.steps.is_done refl c.begin.ensures.reshapes.steps.view)
    c.mend.ensures.raises

pub returns-clause-runs : goal.returns-clause-runs
returns-clause-runs g c = g.met.S.Rack.runs_then _ _ _ c.begin.ensures.runs c.mend.ensures.runs

pub returns-clause-contents : goal.returns-clause-contents
returns-clause-contents g c settled =
    let a = c.args.self.now in
    let n = c.args.number in
    let place = c.args.place in
    let v = raid_by a in
    let x = g.S.Rack.seen c.args.rack.now in
    let y = g.S.Rack.seen c.begin.new.rack in
    let z = g.S.Rack.seen c.mend.new.rack in
    let drive = drive_id a.state place in
    let set = c.requires.running.set in
    let may = may_begin v x n place drive set c.requires.heeded c.requires.due c.requires.clean c.requires.slice in
    let low = may.becomes.low in
    let count = c.requires.running.count in
    let on = c.current_places-on.result.items in
    let element = c.index-deref-number.is ∙ same_element c.deref.result.now a.all.items n _ no_array c.deref.ensures.0 (omega (arith, count, low)) in
    let few : lacks_joined (v.arrays n) on place ≡ false = sym (ap (λ (u : View). lacks_joined u on place) element) ∙ sym c.lacks_with.ensures ∙ c.if-lacks_with.false in
    let same = same_element c.deref_mut.result.now a.all.items n _ no_array c.deref_mut.ensures.value (omega (arith, count, low)) in
    let all = with_items a.all (slice_set c.deref_mut.result.now n c.begin.new.array) in
    let all_is = items_set a.all c.deref_mut.result.now n c.begin.new.array c.deref_mut.ensures.value in
    let is = is_beginning v x n place set c.requires.heeded c.requires.due c.requires.clean c.requires.slice (some_member (v.arrays n) on place (set.arrays n low).is_array few) settled in
    let call =
    reshape_call (λ u. joined u (current_places a.state) place (drive_id a.state place)) a all c.begin.new.log x y n c.clear.new.self.number _ c.begin.new.array on (is_ok c.begin.result)
    c.requires.running c.requires.heeded is.rest may.becomes (begun_keeps v x n place is) same all_is
    (ap (λ (l : LogView). l.number) c.clear.ensures) (step_later c.clear.new.self c.begin.new.log c.begin.ensures.log)
    c.current_places-on.ensures c.went-places.ensures.few c.begin.ensures.goes
    (begun_reshapes _ c.begin.new.array c.clear.new.self.number c.begin.new.log.number on (current_places a.state) place c.drive_id-drive.result (drive_id a.state place) x y (is_ok c.begin.result)
    c.current_places-on.ensures c.drive_id-drive.ensures c.begin.ensures.reshapes) in
    reshape_answered (change_of (Begin n place)) (Lacks (Begin n place)) a c.mend.new.self all c.begin.new.log x y z n (begun_on place v n) c.begin.new.array on (is_ok c.begin.result) _ call refl
    (called_own a all n c.begin.new.array count low all_is)
    (refused_after _ (lacks_two c.begin.new.array) _ c.begin.result c.begin.ensures.refused (ap (λ (u : View). lacks_joined u on place) same ∙ few))
    c.mend.ensures.mends may.longer (ap not c.lacks.ensures)
    (λ is. inr (ap (λ (b : Bool). b || lacks_joined (v.arrays n) (current_places a.state) place) is))
    (begun_turn v (λ k. get_or all.items k no_array) c.begin.new.log.number n place x y on (is_ok c.begin.result) call is (raid_by c.mend.new.self) z c.mend.ensures.losses)
