use Rattle.std.proofs.Common.{◌≡◌, ◌+◌, ◌<◌, ◌≤◌, ℕ, Option, Some, None, refl, sym, ap, inl, inr, subst, ◌∙◌, arith}
use Rattle.std.proofs.lemmas.Option.{none-some}
use Rattle.rack.specs.Seen.{RackView, SameRack}
use Rattle.rack.specs.Sequences.{OnlyReads}
use Rattle.slice_rack.specs.Slices.{Slices, place_of, seat_of}
use Rattle.array_image.specs.Places.{arrays_first, log_slice, slice_of}
use Rattle.slice_rack.specs.SliceRack.{tables, below_of}
use Rattle.slice_rack.specs.Sliced.{slices_of}
use Rattle.slice_rack.specs.Runs.{inside_still}
use Rattle.pool_check.specs.declared.Part.TheVariants.{Log}
use Rattle.pool_check.specs.Checking.{IsChecked}
use Rattle.pool_check.specs.Drives.{AreCopied, AreDrivesOf, IsSeating, Loses, found_with, seats_by}
use Rattle.pool_check.specs.Refusing.{absent_among, is_well}
use Rattle.pool_check.specs.Settling.{AreCompared}
use Rattle.pool_check.specs.Slots.{AreSlots}
use Rattle.pool_check.proofs.Valid.{valid_fit}
use Rattle.pool_scan.specs.Scanning.{IsUnfaulted}
use Rattle.assembler_laws.specs.Holding.{HoldPool, drives_of}
use Rattle.assembler_laws.proofs.Finding.{found_copied, found_drives, found_holds}
use Rattle.assembler_laws.proofs.Later.{holds_later}
use Rattle.assembler_laws.specs.Members.{AreMembers}
use Rattle.assembler.specs.declared.refusal.Refusal.TheVariants.{Damaged}
use Rattle.assembler.specs.Refusing.{FailsCheck, by_check, seats_left}
use Rattle.assembler.proofs.Refusals.{fails_check, fails_log, loses_left}
use Rattle.assembler_laws.proofs.Unseated.{check_members, logs_only, no_members, nobody_lost, seating, seats_are, seats_before, taken, taken_by}
use Rattle.assembler.proofs.checks.check.Goals as goal

none_of : (o : Option ℕ) → ((place : ℕ) → o ≡ Some place → ⊥) → o ≡ None
none_of None none = refl
none_of (Some place) none = absurd (none place refl)

pub check_drives-requires-clause-seating : goal.check_drives-requires-clause-seating
check_drives-requires-clause-seating g c =
    let rest = c.args.rest in
    subst (λ r. IsSeating (g.R.Rack.seen r) rest.state (seats_by c.seats_of-seats.result)) (sym c.inner.ensures.value)
    (seating (g.R.Rack.seen (below_of rest.slices)) rest.scan.disks.items rest.state (tables rest.slices) rest.on.items c.requires.laid c.requires.fit
    rest.gone.items c.seats_of-seats.result c.seats_of-seats.ensures.beyond c.seats_of-seats.ensures.each)

pub check_drives-requires-clause-state : goal.check_drives-requires-clause-state
check_drives-requires-clause-state g c = valid_fit c.args.rest.state 0 c.requires.valid

pub unseat_lost-requires : goal.unseat_lost-requires
unseat_lost-requires g c =
    let stays = c.check_drives.ensures.only.stays in
    let inside = subst (λ r. (slices_of (tables c.args.rest.slices) (g.R.Rack.seen r)).fit) (sym c.inner.ensures.value) c.requires.fit in
    record { fit = (stays.fit, inside_still stays inside.1) }

pub lay_members-requires-clause-logs : goal.lay_members-requires-clause-logs
lay_members-requires-clause-logs g c =
    let rest = c.args.rest in
    let x : RackView = g.R.Rack.seen (below_of rest.slices) in
    let now = c.unseat_lost.ensures in
    logs_only x rest.scan.disks.items rest.state (tables rest.slices) rest.on.items c.requires.laid c.requires.fit
    (g.R.Rack.seen c.check_drives.new.rack) c.seats_of-seats.result c.check_drives.new.seats
    (taken x rest.scan.disks.items rest.state (tables rest.slices) rest.on.items c.requires.laid c.requires.fit rest.gone.items c.seats_of-seats.result c.seats_of-seats.ensures.beyond c.seats_of-seats.ensures.each)
    (subst (λ r. Loses (g.R.Rack.seen r) (g.R.Rack.seen c.check_drives.new.rack) (seats_by c.seats_of-seats.result) (seats_by c.check_drives.new.seats)) c.inner.ensures.value c.check_drives.ensures.seats)
    (tables c.unseat_lost.new.slices) c.unseat_lost.new.slices.orderly now.seats now.firsts now.sectors

pub lay_members-requires-clause-empty : goal.lay_members-requires-clause-empty
lay_members-requires-clause-empty g c =
    let rest = c.args.rest in
    let x : RackView = g.R.Rack.seen (below_of rest.slices) in
    let now = c.unseat_lost.ensures in
    no_members x rest.scan.disks.items rest.state (tables rest.slices) rest.on.items c.requires.laid c.requires.fit
    (g.R.Rack.seen c.check_drives.new.rack) c.seats_of-seats.result c.check_drives.new.seats
    (taken x rest.scan.disks.items rest.state (tables rest.slices) rest.on.items c.requires.laid c.requires.fit rest.gone.items c.seats_of-seats.result c.seats_of-seats.ensures.beyond c.seats_of-seats.ensures.each)
    (subst (λ r. Loses (g.R.Rack.seen r) (g.R.Rack.seen c.check_drives.new.rack) (seats_by c.seats_of-seats.result) (seats_by c.check_drives.new.seats)) c.inner.ensures.value c.check_drives.ensures.seats)
    (tables c.unseat_lost.new.slices) c.unseat_lost.new.slices.orderly now.seats now.firsts now.sectors

pub lay_members-requires-clause-slots : goal.lay_members-requires-clause-slots
lay_members-requires-clause-slots g c =
    let stays = c.check_drives.ensures.only.stays in
    let same : (g.R.Rack.seen c.inner.result.now).sectors ≡ (g.R.Rack.seen (below_of c.unseat_lost.new.slices)).sectors =
    λ i d. (sym (stays.sectors d) ∙ ap (λ r. (g.R.Rack.seen r).sectors d) (sym c.unseat_lost.ensures.below)) i in
    subst (λ f. AreSlots f (seats_by c.check_drives.new.seats) c.in-Ok.checked.arrays.items c.in-Ok.checked.extents.items) same c.in-Ok.ensures.slots

pub returns-clause-members : goal.returns-clause-members
returns-clause-members g c =
    let rest = c.args.rest in
    let x : RackView = g.R.Rack.seen (below_of rest.slices) in
    let now = c.unseat_lost.ensures in
    let end = c.lay_members.ensures.below ∙ now.below in
    subst (λ r. AreMembers rest.state (tables c.lay_members.new.slices) (g.R.Rack.seen r) c.in-Ok.checked c.absent_of-absent.result.items) (sym end)
    (check_members x rest.scan.disks.items rest.state (tables rest.slices) rest.on.items c.requires.laid c.requires.fit
    (g.R.Rack.seen c.check_drives.new.rack) c.seats_of-seats.result c.check_drives.new.seats
    (taken x rest.scan.disks.items rest.state (tables rest.slices) rest.on.items c.requires.laid c.requires.fit rest.gone.items c.seats_of-seats.result c.seats_of-seats.ensures.beyond c.seats_of-seats.ensures.each)
    (subst (λ r. Loses (g.R.Rack.seen r) (g.R.Rack.seen c.check_drives.new.rack) (seats_by c.seats_of-seats.result) (seats_by c.check_drives.new.seats)) c.inner.ensures.value c.check_drives.ensures.seats)
    (tables c.unseat_lost.new.slices) c.unseat_lost.new.slices.orderly now.seats now.firsts now.sectors
    c.in-Ok.checked c.absent_of-absent.result.items (tables c.lay_members.new.slices) c.lay_members.ensures.kept c.requires.valid c.requires.lasting
    (subst (λ r. SameRack (g.R.Rack.seen r) (g.R.Rack.seen c.check_drives.new.rack)) c.inner.ensures.value c.check_drives.ensures.only.stays)
    (subst (λ r. (slices_of (tables c.lay_members.new.slices) (g.R.Rack.seen r)).fit) end c.lay_members.ensures.fit)
    c.lay_members.ensures.laid c.in-Ok.ensures.pool
    (subst (λ r. AreSlots (g.R.Rack.seen r).sectors (seats_by c.check_drives.new.seats) c.in-Ok.checked.arrays.items c.in-Ok.checked.extents.items) c.inner.ensures.value c.in-Ok.ensures.slots)
    (subst (λ r. (p d : ℕ) → seats_by c.check_drives.new.seats p ≡ Some d → arrays_first + 32 < (g.R.Rack.seen r).sectors d) c.inner.ensures.value c.in-Ok.ensures.room)
    c.absent_of-absent.ensures)

pub returns-clause-taken : goal.returns-clause-taken
returns-clause-taken g c p =
    let rest = c.args.rest in
    let x : RackView = g.R.Rack.seen (below_of rest.slices) in
    let known = rest.scan.disks.items in
    let t : Slices = tables rest.slices in
    let now = c.unseat_lost.ensures in
    let were = taken x known rest.state t rest.on.items c.requires.laid c.requires.fit rest.gone.items c.seats_of-seats.result c.seats_of-seats.ensures.beyond c.seats_of-seats.ensures.each in
    let loses = subst (λ r. Loses (g.R.Rack.seen r) (g.R.Rack.seen c.check_drives.new.rack) (seats_by c.seats_of-seats.result) (seats_by c.check_drives.new.seats)) c.inner.ensures.value c.check_drives.ensures.seats in
    sym (c.lay_members.ensures.kept.seats p
    ∙ seats_are x known rest.state t rest.on.items c.requires.laid c.requires.fit (g.R.Rack.seen c.check_drives.new.rack) c.seats_of-seats.result c.check_drives.new.seats were loses
    (tables c.unseat_lost.new.slices) c.unseat_lost.new.slices.orderly now.seats now.firsts now.sectors p)

pub returns-in-Err-clause-refused : goal.returns-in-Err-clause-refused
returns-in-Err-clause-refused g c =
    let rest = c.args.rest in
    let x : RackView = g.R.Rack.seen (below_of rest.slices) in
    let known = rest.scan.disks.items in
    let seats = c.seats_of-seats.result in
    let now = c.check_drives.new.seats in
    subst (λ why. FailsCheck x (g.R.Rack.seen c.into_inner.result) known rest.state rest.gone.items rest.damaged why) (sym c.by_check.ensures)
    (subst (λ r. FailsCheck x (g.R.Rack.seen r) known rest.state rest.gone.items rest.damaged (by_check c.in-Err.fault)) (sym c.into_inner.ensures)
    (fails_check x (g.R.Rack.seen c.check_drives.new.rack) known rest.state rest.gone.items seats now c.seats_of-seats.ensures.each c.seats_of-seats.ensures.beyond
    (subst (λ r. Loses (g.R.Rack.seen r) (g.R.Rack.seen c.check_drives.new.rack) (seats_by seats) (seats_by now)) c.inner.ensures.value c.check_drives.ensures.seats)
    rest.damaged c.in-Err.fault
    (λ o are copied. c.in-Err.ensures.exact o (subst (λ r. AreDrivesOf (g.R.Rack.seen r) (seats_by now) o) (sym c.inner.ensures.value) are) copied)
    c.in-Err.ensures.counts))

pub returns-in-Some-clause-refused : goal.returns-in-Some-clause-refused
returns-in-Some-clause-refused g c =
    let rest = c.args.rest in
    let x : RackView = g.R.Rack.seen (below_of rest.slices) in
    let known = rest.scan.disks.items in
    let seats = c.seats_of-seats.result in
    let now = c.check_drives.new.seats in
    subst (λ r. FailsCheck x (g.R.Rack.seen r) known rest.state rest.gone.items rest.damaged (Damaged c.in-Some.place Log)) (sym c.into_inner-in-Some.ensures)
    (fails_log x (g.R.Rack.seen c.check_drives.new.rack) known rest.state rest.gone.items seats now c.seats_of-seats.ensures.each c.seats_of-seats.ensures.beyond
    (subst (λ r. Loses (g.R.Rack.seen r) (g.R.Rack.seen c.check_drives.new.rack) (seats_by seats) (seats_by now)) c.inner.ensures.value c.check_drives.ensures.seats)
    rest.damaged c.in-Some.place c.in-Some.is
    (λ o are copied. (c.in-Ok.ensures.exact o (subst (λ r. AreDrivesOf (g.R.Rack.seen r) (seats_by now) o) (sym c.inner.ensures.value) are) copied).sound)
    c.in-Ok.ensures.few)

pub returns-clause-seats : goal.returns-clause-seats
returns-clause-seats g c p d seat =
    let rest = c.args.rest in
    let x : RackView = g.R.Rack.seen (below_of rest.slices) in
    let known = rest.scan.disks.items in
    let t : Slices = tables rest.slices in
    let now = c.unseat_lost.ensures in
    let were = taken x known rest.state t rest.on.items c.requires.laid c.requires.fit rest.gone.items c.seats_of-seats.result c.seats_of-seats.ensures.beyond c.seats_of-seats.ensures.each in
    let loses = subst (λ r. Loses (g.R.Rack.seen r) (g.R.Rack.seen c.check_drives.new.rack) (seats_by c.seats_of-seats.result) (seats_by c.check_drives.new.seats)) c.inner.ensures.value c.check_drives.ensures.seats in
    let after : seats_by c.check_drives.new.seats p ≡ Some d =
    sym (c.lay_members.ensures.kept.seats p
    ∙ seats_are x known rest.state t rest.on.items c.requires.laid c.requires.fit (g.R.Rack.seen c.check_drives.new.rack) c.seats_of-seats.result c.check_drives.new.seats were loses
    (tables c.unseat_lost.new.slices) c.unseat_lost.new.slices.orderly now.seats now.firsts now.sectors p)
    ∙ seat in
    taken_by x known rest.state t rest.on.items c.requires.laid p d
    (were p d (elim (loses p) [ inl same ↦ sym same ∙ after | inr lost ↦ absurd (none-some d (sym lost.0 ∙ after)) ]))

pub returns-clause-holds : goal.returns-clause-holds
returns-clause-holds g c f is nobody quiet =
    let rest = c.args.rest in
    let x : RackView = g.R.Rack.seen (below_of rest.slices) in
    let y : RackView = g.R.Rack.seen c.check_drives.new.rack in
    let t : Slices = tables rest.slices in
    let u : Slices = tables c.unseat_lost.new.slices in
    let w : Slices = tables c.lay_members.new.slices in
    let now = c.unseat_lost.ensures in
    let kept = c.lay_members.ensures.kept in
    let end = c.lay_members.ensures.below ∙ now.below in
    let before = seats_by c.seats_of-seats.result in
    let after = seats_by c.check_drives.new.seats in
    let were : (p d : ℕ) → before p ≡ Some d → seat_of t p ≡ Some d =
    taken x rest.scan.disks.items rest.state t rest.on.items c.requires.laid c.requires.fit rest.gone.items c.seats_of-seats.result c.seats_of-seats.ensures.beyond c.seats_of-seats.ensures.each in
    let loses : Loses x y before after =
    subst (λ r. Loses (g.R.Rack.seen r) y before after) c.inner.ensures.value c.check_drives.ensures.seats in
    let unfaulted : IsUnfaulted x y = subst (λ r. IsUnfaulted x (g.R.Rack.seen r)) end quiet in
    let reads : OnlyReads x y = subst (λ r. OnlyReads (g.R.Rack.seen r) y) c.inner.ensures.value c.check_drives.ensures.only in
    let still : (p : ℕ) → after p ≡ seat_of t p =
    λ p. nobody_lost x y before after unfaulted loses p ∙ seats_before x rest.scan.disks.items rest.state t rest.on.items c.requires.laid rest.gone.items before nobody
    c.seats_of-seats.ensures.beyond c.seats_of-seats.ensures.each p in
    let seats : (p : ℕ) → seat_of w p ≡ seat_of t p =
    λ p. kept.seats p
    ∙ seats_are x rest.scan.disks.items rest.state t rest.on.items c.requires.laid c.requires.fit y c.seats_of-seats.result c.check_drives.new.seats were loses
    u c.unseat_lost.new.slices.orderly now.seats now.firsts now.sectors p
    ∙ still p in
    let there : (p d : ℕ) → seat_of t p ≡ Some d → after (place_of (log_slice p)) ≡ None → ⊥ =
    λ p d seat none. let place : place_of (log_slice p) ≡ p = omega arith in none-some d (sym none ∙ ap after place ∙ still p ∙ seat) in
    let log : (p : ℕ) → slice_of (log_slice p) ≡ 0 = λ p. omega arith in
    let whole : rest.damaged ≡ None = none_of rest.damaged c.in_default.not-Some in
    let holds : HoldPool rest.state t x rest.log f =
    found_holds x rest.scan.disks.items rest.state t rest.on.items rest.log rest.pending rest.damaged f c.requires.laid c.requires.valid whole is in
    let left : f.seats ≡ after = λ i p. (holds.pool.seats p ∙ sym (still p)) i in
    let found : IsChecked (is_well rest.damaged) (found_with rest.state after (drives_of f)) c.in-Ok.checked =
    c.in-Ok.ensures.exact (drives_of f)
    (subst (λ r. AreDrivesOf (g.R.Rack.seen r) after (drives_of f)) (sym c.inner.ensures.value)
    (subst (λ k. AreDrivesOf x k (drives_of f)) left (found_drives x rest.scan.disks.items rest.state t rest.on.items rest.log rest.pending rest.damaged f is)))
    (subst (λ k. AreCopied rest.scan.disks.items k (drives_of f)) left (found_copied x rest.scan.disks.items rest.state t rest.on.items rest.log rest.pending rest.damaged f is)) in (
      subst (λ r. HoldPool rest.state w (g.R.Rack.seen r) rest.log f) (sym end)
          (holds_later rest.state t w x y rest.slices.orderly c.lay_members.new.slices.orderly reads c.requires.fit.1 seats
          (λ p d seat. kept.sectors (log_slice p) (log p) ∙ now.sectors (log_slice p) (there p d seat))
          (λ p d seat. kept.firsts (log_slice p) (log p) ∙ now.firsts (log_slice p) (there p d seat))
          holds.steady rest.log f holds),
      subst (λ o. IsChecked (is_well o) f c.in-Ok.checked) whole
          (subst (λ k. IsChecked (is_well rest.damaged) (found_with k f.seats (drives_of f)) c.in-Ok.checked) (sym holds.pool.state)
          (subst (λ k. IsChecked (is_well rest.damaged) (found_with rest.state k (drives_of f)) c.in-Ok.checked) (sym left) found)),
    )

pub returns-clause-are : goal.returns-clause-are
returns-clause-are g c o are copied =
    let rest = c.args.rest in
    let x : RackView = g.R.Rack.seen (below_of rest.slices) in
    let w : Slices = tables c.lay_members.new.slices in
    let after : ℕ → Option ℕ = seats_by c.check_drives.new.seats in
    let left : seat_of w ≡ after = λ i p. (sym (returns-clause-taken g c p)) i in
    subst (λ b. IsChecked (is_well b) (found_with rest.state (seat_of w) o) c.in-Ok.checked) (none_of rest.damaged c.in_default.not-Some)
    (subst (λ k. IsChecked (is_well rest.damaged) (found_with rest.state k o) c.in-Ok.checked) (sym left)
    (c.in-Ok.ensures.exact o
    (subst (λ r. AreDrivesOf (g.R.Rack.seen r) after o) (sym c.inner.ensures.value) (subst (λ k. AreDrivesOf x k o) left are))
    (subst (λ k. AreCopied rest.scan.disks.items k o) left copied)))

pub returns-clause-loses : goal.returns-clause-loses
returns-clause-loses g c =
    let seen = g.R.Rack.seen in
    let rest = c.args.rest in
    let x : RackView = seen (below_of rest.slices) in
    let known = rest.scan.disks.items in
    let now = c.check_drives.new.seats in
    let left = seats_left known rest.state rest.gone.items in
    subst (λ k. Loses x (seen (below_of c.lay_members.new.slices)) left k) (λ i p. (returns-clause-taken g c p) i)
    (subst (λ r. Loses x (seen r) left (seats_by now)) (sym (c.lay_members.ensures.below ∙ c.unseat_lost.ensures.below))
    (loses_left x (seen c.check_drives.new.rack) known rest.state rest.gone.items c.seats_of-seats.result now c.seats_of-seats.ensures.each c.seats_of-seats.ensures.beyond
    (subst (λ r. Loses (seen r) (seen c.check_drives.new.rack) (seats_by c.seats_of-seats.result) (seats_by now)) c.inner.ensures.value c.check_drives.ensures.seats)))

pub returns-clause-compared : goal.returns-clause-compared
returns-clause-compared g c =
    let x : RackView = g.R.Rack.seen (below_of c.args.rest.slices) in
    subst (λ k. AreCompared x k c.in-Ok.checked.agreed) (λ i p. (returns-clause-taken g c p) i)
    (subst (λ r. AreCompared (g.R.Rack.seen r) (seats_by c.check_drives.new.seats) c.in-Ok.checked.agreed) c.inner.ensures.value c.in-Ok.ensures.agreed)

pub returns-clause-few : goal.returns-clause-few
returns-clause-few g c =
    subst (λ (k : ℕ → Option ℕ). absent_among c.args.rest.state k ≤ 1) (λ i p. (returns-clause-taken g c p) i) c.in-Ok.ensures.few

pub returns-clause-whole : goal.returns-clause-whole
returns-clause-whole g c = none_of c.args.rest.damaged c.in_default.not-Some
