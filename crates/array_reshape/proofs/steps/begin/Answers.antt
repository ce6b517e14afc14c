use Rattle.std.proofs.Common.{◌≡◌, ℕ, false, List, [], is_ok, sym, ap, subst, ◌∙◌, refl, append-nil}
use Rattle.rack.proofs.Reading.{only_reads_start}
use Rattle.rack.specs.Targets.{Target}
use Rattle.log_laws.specs.View.{LogView, names}
use Rattle.array_model.specs.View.{View, LosesPlaces, member_on}
use Rattle.array_model.specs.Members.{IsSameButSeats}
use Rattle.array_model.proofs.Views.{notes_none}
use Rattle.array_core.specs.Staging.{AddsSupersOf}
use Rattle.array_core.proofs.LogWrites.{few_in_order}
use Rattle.reshape_laws.specs.Reshapes.{Reshapes, joined}
use Rattle.reshape_laws.proofs.Beginning.{IsBeginning, begin_reshapes, beginning_step}
use Rattle.reshape_laws.proofs.Calling.{call_apart, call_elsewhere, call_had, call_some, call_valid}
use Rattle.reshape_laws.proofs.Committing.{refused_reshapes}
use Rattle.array_reshape.proofs.steps.begin.Goals as goal

pub returns-then-lacks_joined-clause-reshapes : goal.returns-then-lacks_joined-clause-reshapes
returns-then-lacks_joined-clause-reshapes g c =
    let v = c.args.array.now in
    let a = g.R.Rack.seen c.args.rack.now in
    let next = joined v c.args.on.now.items c.args.place c.args.drive.now in
    let number : c.clear.new.self.number ≡ c.args.log.now.number = ap (λ (l : LogView). l.number) c.clear.ensures in
    subst (λ (n : ℕ). Reshapes v (joined v c.args.on.now.items c.args.place c.args.drive.now) v c.args.log.now.number n c.args.on.now.items a a false) (sym number)
    (refused_reshapes v next v c.args.log.now.number c.args.on.now.items a a false c.requires.slices.lasting c.rules.ensures
    (only_reads_start a c.requires.slices.fit) (notes_none v a a) refl)

pub commit-lost-requires-clause-some : goal.commit-lost-requires-clause-some
commit-lost-requires-clause-some g c =
    let v = c.args.array.now in
    let a = g.R.Rack.seen c.args.rack.now in
    let on = c.args.on.now.items in
    let place = c.args.place in
    let drive = c.args.drive.now in
    let next = joined v on place drive in
    let is : IsBeginning v on place = record { is_array = c.rules.ensures; truth = c.truth_rules.ensures; raid5 = c.requires.raid5; still = c.requires.still; small = c.requires.place; joins = c.requires.joins; synced = c.requires.synced; few = sym c.lacks_joined.ensures ∙ c.if-lacks_joined.false; unsynced = c.unsynced_rows.ensures } in
    let step = beginning_step v on place drive is a in
    let adds : AddsSupersOf (joined v on place drive) [] c.stage_own.new.log.added =
    subst (λ (x : View). AddsSupersOf x [] c.stage_own.new.log.added) c.join.ensures
    (subst (λ (xs : List Target). AddsSupersOf c.join.new.array xs c.stage_own.new.log.added) c.requires.empty c.stage_own.ensures.added) in
    call_some v next.truth next.seats next.devices v.resync (λ m. m ≡ member_on (joined v on place drive) v.truth.raid_disks) c.stage_own.new.log.added [] c.stage_own.new.log.added a a step adds (sym (append-nil c.stage_own.new.log.added))

pub commit-lost-requires-clause-valid : goal.commit-lost-requires-clause-valid
commit-lost-requires-clause-valid g c =
    let v = c.args.array.now in
    let a = g.R.Rack.seen c.args.rack.now in
    let on = c.args.on.now.items in
    let place = c.args.place in
    let drive = c.args.drive.now in
    let next = joined v on place drive in
    let is : IsBeginning v on place = record { is_array = c.rules.ensures; truth = c.truth_rules.ensures; raid5 = c.requires.raid5; still = c.requires.still; small = c.requires.place; joins = c.requires.joins; synced = c.requires.synced; few = sym c.lacks_joined.ensures ∙ c.if-lacks_joined.false; unsynced = c.unsynced_rows.ensures } in
    let step = beginning_step v on place drive is a in
    let adds : AddsSupersOf (joined v on place drive) [] c.stage_own.new.log.added =
    subst (λ (x : View). AddsSupersOf x [] c.stage_own.new.log.added) c.join.ensures
    (subst (λ (xs : List Target). AddsSupersOf c.join.new.array xs c.stage_own.new.log.added) c.requires.empty c.stage_own.ensures.added) in
    call_valid v next.truth next.seats next.devices v.resync (λ m. m ≡ member_on (joined v on place drive) v.truth.raid_disks) c.stage_own.new.log.added [] c.stage_own.new.log.added a a step adds (sym (append-nil c.stage_own.new.log.added))

pub commit-lost-requires-clause-apart : goal.commit-lost-requires-clause-apart
commit-lost-requires-clause-apart g c =
    let v = c.args.array.now in
    let a = g.R.Rack.seen c.args.rack.now in
    let on = c.args.on.now.items in
    let place = c.args.place in
    let drive = c.args.drive.now in
    let next = joined v on place drive in
    let is : IsBeginning v on place = record { is_array = c.rules.ensures; truth = c.truth_rules.ensures; raid5 = c.requires.raid5; still = c.requires.still; small = c.requires.place; joins = c.requires.joins; synced = c.requires.synced; few = sym c.lacks_joined.ensures ∙ c.if-lacks_joined.false; unsynced = c.unsynced_rows.ensures } in
    let step = beginning_step v on place drive is a in
    let adds : AddsSupersOf (joined v on place drive) [] c.stage_own.new.log.added =
    subst (λ (x : View). AddsSupersOf x [] c.stage_own.new.log.added) c.join.ensures
    (subst (λ (xs : List Target). AddsSupersOf c.join.new.array xs c.stage_own.new.log.added) c.requires.empty c.stage_own.ensures.added) in
    call_apart v next.truth next.seats next.devices v.resync (λ m. m ≡ member_on (joined v on place drive) v.truth.raid_disks) c.stage_own.new.log.added [] c.stage_own.new.log.added a a step adds (sym (append-nil c.stage_own.new.log.added))

pub commit-lost-requires-clause-had : goal.commit-lost-requires-clause-had
commit-lost-requires-clause-had g c =
    let v = c.args.array.now in
    let a = g.R.Rack.seen c.args.rack.now in
    let on = c.args.on.now.items in
    let place = c.args.place in
    let drive = c.args.drive.now in
    let next = joined v on place drive in
    let is : IsBeginning v on place = record { is_array = c.rules.ensures; truth = c.truth_rules.ensures; raid5 = c.requires.raid5; still = c.requires.still; small = c.requires.place; joins = c.requires.joins; synced = c.requires.synced; few = sym c.lacks_joined.ensures ∙ c.if-lacks_joined.false; unsynced = c.unsynced_rows.ensures } in
    let step = beginning_step v on place drive is a in
    let adds : AddsSupersOf (joined v on place drive) [] c.stage_own.new.log.added =
    subst (λ (x : View). AddsSupersOf x [] c.stage_own.new.log.added) c.join.ensures
    (subst (λ (xs : List Target). AddsSupersOf c.join.new.array xs c.stage_own.new.log.added) c.requires.empty c.stage_own.ensures.added) in
    call_had v next.truth next.seats next.devices v.resync (λ m. m ≡ member_on (joined v on place drive) v.truth.raid_disks) c.stage_own.new.log.added [] c.stage_own.new.log.added a a step adds (sym (append-nil c.stage_own.new.log.added)) c.requires.slices (only_reads_start a c.requires.slices.fit)

pub note_all-requires : goal.note_all-requires
note_all-requires g c = few_in_order c.commit-lost.result.items c.commit-lost.ensures.commits.gone.ordered

pub returns-clause-reshapes : goal.returns-clause-reshapes
returns-clause-reshapes g c =
    let v = c.args.array.now in
    let a = g.R.Rack.seen c.args.rack.now in
    let on = c.args.on.now.items in
    let place = c.args.place in
    let drive = c.args.drive.now in
    let next = joined v on place drive in
    let is : IsBeginning v on place = record { is_array = c.rules.ensures; truth = c.truth_rules.ensures; raid5 = c.requires.raid5; still = c.requires.still; small = c.requires.place; joins = c.requires.joins; synced = c.requires.synced; few = sym c.lacks_joined.ensures ∙ c.if-lacks_joined.false; unsynced = c.unsynced_rows.ensures } in
    let step = beginning_step v on place drive is a in
    let adds : AddsSupersOf (joined v on place drive) [] c.stage_own.new.log.added =
    subst (λ (x : View). AddsSupersOf x [] c.stage_own.new.log.added) c.join.ensures
    (subst (λ (xs : List Target). AddsSupersOf c.join.new.array xs c.stage_own.new.log.added) c.requires.empty c.stage_own.ensures.added) in
    begin_reshapes v on place drive is a c.note_all.new.self (g.R.Rack.seen c.commit-lost.new.rack) c.stage_own.new.log c.commit-lost.result.items c.args.log.now.number c.commit-lost.new.self.number (is_ok c.answer.result)
    adds c.requires.slices (only_reads_start a c.requires.slices.fit) c.commit-lost.ensures.commits
    (subst (λ (x : View). IsSameButSeats x c.note_all.new.self) c.join.ensures c.note_all.ensures.same)
    (subst (λ (x : View). LosesPlaces x c.note_all.new.self (names c.commit-lost.result.items)) c.join.ensures c.note_all.ensures.loses)
    (ap (λ (l : LogView). l.number) c.stage_own.ensures.log) (ap (λ (l : LogView). l.number) c.commit-lost.ensures.log)

pub returns-clause-elsewhere : goal.returns-clause-elsewhere
returns-clause-elsewhere g c =
    let v = c.args.array.now in
    let a = g.R.Rack.seen c.args.rack.now in
    let on = c.args.on.now.items in
    let place = c.args.place in
    let drive = c.args.drive.now in
    let next = joined v on place drive in
    let is : IsBeginning v on place = record { is_array = c.rules.ensures; truth = c.truth_rules.ensures; raid5 = c.requires.raid5; still = c.requires.still; small = c.requires.place; joins = c.requires.joins; synced = c.requires.synced; few = sym c.lacks_joined.ensures ∙ c.if-lacks_joined.false; unsynced = c.unsynced_rows.ensures } in
    let step = beginning_step v on place drive is a in
    let adds : AddsSupersOf (joined v on place drive) [] c.stage_own.new.log.added =
    subst (λ (x : View). AddsSupersOf x [] c.stage_own.new.log.added) c.join.ensures
    (subst (λ (xs : List Target). AddsSupersOf c.join.new.array xs c.stage_own.new.log.added) c.requires.empty c.stage_own.ensures.added) in
    call_elsewhere v next.truth next.seats next.devices v.resync (λ m. m ≡ member_on (joined v on place drive) v.truth.raid_disks) c.stage_own.new.log.added [] a a (g.R.Rack.seen c.commit-lost.new.rack) c.stage_own.new.log on c.commit-lost.result.items
    step adds (sym (append-nil c.stage_own.new.log.added)) (only_reads_start a c.requires.slices.fit) c.commit-lost.ensures.commits
