use Rattle.std.proofs.Common.{◌∙◌, Bool, if◌then◌else◌, List, None, length, map, ap, sym}
use Rattle.std.specs.List.{range_with_len}
use Rattle.array_image.specs.Foremost.{foremost}
use Rattle.pool_scan.specs.declared.Known.{Known}
use Rattle.pool_scan.specs.Choosing.{epoch_at, standing, seat_by}
use Rattle.pool_scan.proofs.Seated.{seat_by_is}
use Rattle.pool_scan.proofs.Scan.seat.Goals as goal

pub returns-then-is_there-clause-chosen : goal.returns-then-is_there-clause-chosen
unfolding seat_by
returns-then-is_there-clause-chosen c =
    let s = c.args.state.now in
    let found = λ (ks : List Known). foremost (epoch_at ks) (map (standing s ks c.args.place) (range_with_len 0 (length ks))) in
    c.foremost_of.ensures ∙ ap found c.as_slice.ensures.value
    ∙ sym (ap (λ (b : Bool). if b then found c.args.self.now.disks.items else None) (sym c.is_there.ensures ∙ c.if-is_there.true))

pub returns-else-is_there-clause-chosen : goal.returns-else-is_there-clause-chosen
unfolding seat_by
returns-else-is_there-clause-chosen c =
    let s = c.args.state.now in
    sym (ap (λ (b : Bool). if b then foremost (epoch_at c.args.self.now.disks.items) (map (standing s c.args.self.now.disks.items c.args.place) (range_with_len 0 (length c.args.self.now.disks.items))) else None)
    (sym c.is_there.ensures ∙ c.if-is_there.false))

pub returns-then-is_there-clause-seated : goal.returns-then-is_there-clause-seated
returns-then-is_there-clause-seated c = λ disks identities are.
    returns-then-is_there-clause-chosen c ∙ seat_by_is disks identities c.args.self.now.disks.items are c.args.state.now c.args.place

pub returns-else-is_there-clause-seated : goal.returns-else-is_there-clause-seated
returns-else-is_there-clause-seated c = λ disks identities are.
    returns-else-is_there-clause-chosen c ∙ seat_by_is disks identities c.args.self.now.disks.items are c.args.state.now c.args.place
