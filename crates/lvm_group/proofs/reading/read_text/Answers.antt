use Rattle.std.proofs.Common.{◌≡◌, ◌+◌, ◌-◌, ◌/◌, ◌∙◌, ℕ, List, length, Some, ap, subst, arith}
use Rattle.std.specs.Prelude.{min}
use Rattle.lvm_group.specs.Parts.{behind, row_at, before_end}
use Rattle.lvm_group.specs.Reading.{held_on}
use Rattle.rack.proofs.Calling.{several_fewer}
use Rattle.lvm_group.proofs.Calls.{several_join}
use Rattle.lvm_group.proofs.Looking.{looks_same, now_later, read_longer}
use Rattle.lvm_group.proofs.TextRead.{same_held, text_given, first_lacks, second_lacks}
use Rattle.lvm_group.proofs.reading.read_text.Goals as goal

pub returns-then-not-read_row-clause-none : goal.returns-then-not-read_row-clause-none
returns-then-not-read_row-clause-none g c none now is =
    let area = c.args.area.now in
    let location = c.args.location.now in
    let from_is : c.from.result + c.from-2.result ≡ area.offset + location.offset = (λ i. c.from.ensures i + c.from-2.ensures i) in
    let front_is : c.min-front.result ≡ before_end area location = c.min-front.ensures ∙ ap (min location.size) c.saturating_sub.ensures in
    let found = c.read_row.ensures.none c.if-not-read_row.true now is in
    (found.0, found.1, first_lacks found.0 area location _ c.min-front.result from_is front_is found.2)

pub read_row-requires-2-clause-room : goal.read_row-requires-2-clause-room
read_row-requires-2-clause-room g c =
    let short = c.read_row.ensures.growth.short in
    let room = c.read_row.ensures.growth.room in
    let cleared = c.clear.ensures.room in
    let empty = ap length c.clear.ensures.empty in
    let had = c.requires.room in
    omega arith

pub returns-clause-text : goal.returns-clause-text
returns-clause-text g c true now is =
    let area = c.args.area.now in
    let location = c.args.location.now in
    let from_is : c.from.result + c.from-2.result ≡ area.offset + location.offset = (λ i. c.from.ensures i + c.from-2.ensures i) in
    let front_is : c.min-front.result ≡ before_end area location = c.min-front.ensures ∙ ap (min location.size) c.saturating_sub.ensures in
    let again_is : c.from-again.result + 512 ≡ area.offset + 512 = ap (λ n. n + 512) c.from-again.ensures in
    let a = g.R.Rack.seen c.args.rack.now in
    let looks = c.read_row.ensures.looks in
    let one = c.read_row.ensures.bytes c.if-not-read_row.false now is in
    let two = c.read_row-2.ensures.bytes true now (now_later c.args.array now c.requires.array looks is) in
    text_given (held_on a c.args.array now) area location _ c.min-front.result _ c.read_row.new.into.bytes c.read_row-2.new.into.bytes from_is front_is again_is
    (subst (λ (bytes : List ℕ). behind bytes (row_at (held_on a c.args.array now) (c.from.result + c.from-2.result) c.min-front.result) ≡ Some c.read_row.new.into.bytes) c.clear.ensures.empty one)
    (subst (λ held. behind c.read_row.new.into.bytes (row_at held (c.from-again.result + 512) (location.size - c.min-front.result)) ≡ Some c.read_row-2.new.into.bytes)
    (same_held c.args.array now looks) two)

pub returns-clause-none : goal.returns-clause-none
returns-clause-none g c false now is =
    let area = c.args.area.now in
    let location = c.args.location.now in
    let front_is : c.min-front.result ≡ before_end area location = c.min-front.ensures ∙ ap (min location.size) c.saturating_sub.ensures in
    let again_is : c.from-again.result + 512 ≡ area.offset + 512 = ap (λ n. n + 512) c.from-again.ensures in
    let looks = c.read_row.ensures.looks in
    let end = looks_same (g.R.Rack.seen c.read_row-2.new.rack) c.read_row-2.ensures.looks.stays.fit in
    let found = c.read_row-2.ensures.none false now (now_later c.args.array now c.requires.array looks is) in (
      found.0,
      λ sector. read_longer c.args.array now sector (found.0 sector) looks end (found.1 sector),
      second_lacks found.0 area location c.min-front.result _ front_is again_is found.2,
    )

pub returns-then-not-read_row-clause-several : goal.returns-then-not-read_row-clause-several
returns-then-not-read_row-clause-several g c =
    let least = c.min-front.ensures in
    several_fewer g.R.Rack.once (c.min-front.result / 512 + 2) (c.args.location.now.size / 512 + 4) _ _ (omega arith) c.read_row.ensures.several

pub returns-clause-several : goal.returns-clause-several
returns-clause-several g c =
    let least = c.min-front.ensures in
    several_join g.R.Rack.once (c.min-front.result / 512 + 2) ((c.args.location.now.size - c.min-front.result) / 512 + 2) (c.args.location.now.size / 512 + 4) _ _ _ (omega arith) c.read_row.ensures.several c.read_row-2.ensures.several
