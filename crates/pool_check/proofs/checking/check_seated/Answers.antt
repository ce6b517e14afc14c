use Rattle.std.proofs.Common.{◌≡◌, ◌+◌, ◌<◌, ◌≤◌, ◌^◌, ℕ, true, List, Some, None, ap, sym, subst, ◌∙◌, arith}
use Rattle.std.specs.List.{list_all}
use Rattle.array_image.specs.Places.{arrays_first}
use Rattle.pool_image.specs.Meaning.{absent, absent_count}
use Rattle.pool_check.specs.declared.Layer.{Layer}
use Rattle.pool_check.specs.Drives.{HasFewPlaces, flag_by, found_with, seats_by}
use Rattle.pool_check.specs.Layers.{AreRead, is_sound_on}
use Rattle.array_core.proofs.Opened.{current_below}
use Rattle.pool_check.specs.Slots.{FitsOn}
use Rattle.pool_check.proofs.Slotted.{slots_are}
use Rattle.pool_check.specs.Refusing.{is_well}
use Rattle.pool_check.specs.Checking.{refused_by_layers}
use Rattle.pool_check.proofs.AfterReads.{drives_then, halts_later}
use Rattle.pool_check.proofs.Begins.{AreSmall}
use Rattle.pool_check.proofs.Compared.{agreement_then}
use Rattle.pool_check.proofs.Ends.{absent_refused, arrays_open, arrays_refused, damage_refused, few_absent, few_counts}
use Rattle.pool_check.proofs.Founded.{are_founded}
use Rattle.pool_check.proofs.Refused.{faultless}
use Rattle.pool_check.proofs.checking.check_seated.Goals as goal

pub overflow_cast-count : goal.overflow_cast-count
overflow_cast-count g c =
    let few = few_absent c.args.state.now (seats_by c.args.seats.now) c.requires.state.few in
    let count = c.absent_count-count.ensures in
    omega (arith, few, count)

pub returns-then-count-gt1-clause-halts : goal.returns-then-count-gt1-clause-halts
returns-then-count-gt1-clause-halts g c o are copied =
    let f = found_with c.args.state.now (seats_by c.args.seats.now) o in
    let count : c.absent_count-count.result ≡ absent_count f = c.absent_count-count.ensures in
    absent_refused (is_well c.args.bad) None f (subst (λ (n : ℕ). 1 < n) count c.if-count-gt1.true) ∙ ap (λ n. Some (absent n)) (sym count)

pub returns-in-Err-check_places-clause-halts : goal.returns-in-Err-check_places-clause-halts
returns-in-Err-check_places-clause-halts g c =
    let x = g.R.Rack.seen c.args.rack.now in
    let s = c.args.state.now in
    let seats = seats_by c.args.seats.now in
    halts_later x (g.R.Rack.seen c.read_layers.new.rack) (g.R.Rack.seen c.check_places.new.rack) seats c.in-Err-check_places.halt c.in-Ok.ensures.only.stays
    (λ fault first o are copied.
    let f = found_with s seats o in
    let count : c.absent_count-count.result ≡ absent_count f = c.absent_count-count.ensures in
    let layers = c.in-Ok.ensures.layers o are in
    let read : AreRead f c.as_slice.result.now =
    subst (λ (xs : List Layer). AreRead f xs) (sym c.as_slice.ensures.value) (record { count = layers.count; each = layers.each }) in
    damage_refused (is_well c.args.bad) None f _ (subst (λ (n : ℕ). n ≤ 1) count c.if-count-gt1.false)
    (first o (drives_then s seats o c.in-Ok.ensures.only c.requires.seating are) copied read))
    c.in-Err-check_places.ensures.halts

pub returns-in-Some-clause-halts : goal.returns-in-Some-clause-halts
returns-in-Some-clause-halts g c o are copied =
    let s = c.args.state.now in
    let seats = seats_by c.args.seats.now in
    let f = found_with s seats o in
    let count : c.absent_count-count.result ≡ absent_count f = c.absent_count-count.ensures in
    let layers = c.in-Ok.ensures.layers o are in
    let read : AreRead f c.as_slice.result.now =
    subst (λ (xs : List Layer). AreRead f xs) (sym c.as_slice.ensures.value) (record { count = layers.count; each = layers.each }) in
    let sound = c.in-Ok-check_places.ensures.sound o (drives_then s seats o c.in-Ok.ensures.only c.requires.seating are) copied read in
    let few : HasFewPlaces s seats = record { few = c.requires.state.few; current = c.requires.seating.current } in
    let small : AreSmall f =
    λ place d seat. subst (λ (n : ℕ). n < 2 ^ 48) (sym (are.sectors place d seat)) (c.requires.seating.small d (c.requires.seating.inside place d seat)) in
    arrays_refused (is_well c.args.bad) f few small c.requires.state.made (subst (λ (n : ℕ). n ≤ 1) count c.if-count-gt1.false) sound {layers = c.in-Ok.layers} layers
    ∙ ap refused_by_layers (sym c.as_slice-2.ensures.value) ∙ sym c.in-Some.ensures.first

pub returns-in-None-clause-checked : goal.returns-in-None-clause-checked
returns-in-None-clause-checked g c o are copied =
    let s = c.args.state.now in
    let seats = seats_by c.args.seats.now in
    let f = found_with s seats o in
    let count : c.absent_count-count.result ≡ absent_count f = c.absent_count-count.ensures in
    let layers = c.in-Ok.ensures.layers o are in
    let read : AreRead f c.as_slice.result.now =
    subst (λ (xs : List Layer). AreRead f xs) (sym c.as_slice.ensures.value) (record { count = layers.count; each = layers.each }) in
    let sound = c.in-Ok-check_places.ensures.sound o (drives_then s seats o c.in-Ok.ensures.only c.requires.seating are) copied read in
    let few : HasFewPlaces s seats = record { few = c.requires.state.few; current = c.requires.seating.current } in
    let small : AreSmall f =
    λ place d seat. subst (λ (n : ℕ). n < 2 ^ 48) (sym (are.sectors place d seat)) (c.requires.seating.small d (c.requires.seating.inside place d seat)) in
    let is =
    arrays_open (is_well c.args.bad) f few small c.requires.state.made (subst (λ (n : ℕ). n ≤ 1) count c.if-count-gt1.false) sound {layers = c.in-Ok.layers} layers
    (ap refused_by_layers (sym c.as_slice-2.ensures.value) ∙ sym c.in-None.ensures.first) in
    record { sound = is.sound; opened = is.opened }

pub returns-in-None-clause-agreed : goal.returns-in-None-clause-agreed
returns-in-None-clause-agreed g c place d seat =
    agreement_then (g.R.Rack.seen c.args.rack.now) (g.R.Rack.seen c.read_layers.new.rack) d (flag_by c.in-Ok-check_places.agreed place) c.in-Ok.ensures.only
    (c.requires.seating.inside place d seat) (c.in-Ok-check_places.ensures.agreed place d seat)

pub returns-in-None-clause-slots : goal.returns-in-None-clause-slots
returns-in-None-clause-slots g c =
    let x = g.R.Rack.seen c.args.rack.now in
    let y = g.R.Rack.seen c.read_layers.new.rack in
    let seats = seats_by c.args.seats.now in
    slots_are x.sectors seats c.args.state.now.made c.in-Ok.layers
    (λ place d seat.
    let listed = current_below c.args.state.now place (c.requires.seating.current place d seat) in
    let few = c.requires.state.few in
    omega (arith, listed, few))
    c.in-Ok.ensures.kept
    (λ place d low seat.
    subst (FitsOn c.in-Ok.layers.all.items place) (c.in-Ok.ensures.only.stays.sectors d)
    (subst (λ (xs : List Layer). FitsOn xs place (y.sectors d)) c.as_slice.ensures.value ((c.in-Ok-check_places.ensures.drives place d low seat).fits)))

pub returns-in-None-clause-pool : goal.returns-in-None-clause-pool
returns-in-None-clause-pool g c =
    let s = c.args.state.now in
    let seats = seats_by c.args.seats.now in
    are_founded s seats (record { few = c.requires.state.few; current = c.requires.seating.current }) c.in-Ok.layers
    (λ place d low seat.
    subst (λ (xs : List Layer). list_all (is_sound_on place) xs ≡ true) c.as_slice.ensures.value (c.in-Ok-check_places.ensures.drives place d low seat).supers)
    (faultless c.in-Ok.layers.all.items (ap refused_by_layers (sym c.as_slice-2.ensures.value) ∙ sym c.in-None.ensures.first))
    c.in-Ok.ensures.founded

pub returns-in-None-clause-room : goal.returns-in-None-clause-room
returns-in-None-clause-room g c place d seat =
    let listed = current_below c.args.state.now place (c.requires.seating.current place d seat) in
    let few = c.requires.state.few in
    subst (λ (n : ℕ). arrays_first + 32 < n) (c.in-Ok.ensures.only.stays.sectors d)
    (c.in-Ok-check_places.ensures.drives place d (omega (arith, listed, few)) seat).room

pub returns-in-Err-check_places-clause-counts : goal.returns-in-Err-check_places-clause-counts
returns-in-Err-check_places-clause-counts g c =
    few_counts _ c.in-Err-check_places.halt (subst (λ (n : ℕ). n ≤ 1) c.absent_count-count.ensures c.if-count-gt1.false) c.in-Err-check_places.ensures.few
