use Rattle.std.proofs.Common.{◌≡◌, ℕ, List, ◌<◌, length, subst, ap, ◌∙◌, arith}
use Rattle.std.specs.Option.{option_map_or}
use Rattle.rack_mem.specs.declared.table.Sector.{Sector}
use Rattle.rack_mem.specs.Zeros.{zeros}
use Rattle.rack_mem.specs.Memory.{Memory, number_of, values_of}
use Rattle.rack_mem.specs.Picked.{picked, TakesSoFar}
use Rattle.rack_mem.specs.MemBay.{memory}
use Rattle.rack_mem.specs.Table.{stored}
use Rattle.rack_mem.proofs.Images.{takes_none, takes_all, takes_quiet, takes_write, others_write, quiet_unless, set_puts, write_below, Puts}
use Rattle.rack_mem.proofs.memory.MemBay.picked_base.Goals.{in-Write, in_default}
use Rattle.rack_mem.proofs.memory.MemBay.picked_base.Goals as goal

pub loop-number-init : goal.loop-number-init
loop-number-init c =
    let a : Memory = memory c.args.self.now in
    let same : (n s : ℕ) → stored c.in_ok-image.image n s ≡ a.contents n s =
    λ n s. ap (λ o. option_map_or (λ (b : Sector). b.bytes) o zeros) (c.in_ok-image.ensures.same n s) ∙ ap (λ (f : ℕ → ℕ → List ℕ). f n s) c.base.ensures in
    (omega (arith, c.in_ok-image.ensures.room), takes_none a c.args.moment c.args.pick (stored c.in_ok-image.image) same, λ n s apart. same n s)

pub loop-number-preserved : goal.loop-number-preserved
loop-number-preserved c =
    let a : Memory = memory c.args.self.now in
    let before = c.loop-number.invariant in
    elim c.match-call.branch [
      | in-Write w ↦
          let disk : ℕ = w.in-Write.disk in
          let sector : ℕ = w.in-Write.sector in
          let at = w.in-Write.ensures in
          let known : disk < length a.attached =
          write_below disk sector w.in-Write.value (length a.attached) (c.args.self.now.attached_first c.loop-number.number _ at) in
          let put : Puts (stored c.loop-number.image) (number_of a.attached disk) sector (picked c.args.pick disk sector (values_of a disk sector c.args.moment)) (stored w.set.new.self) =
          subst (λ n. Puts (stored c.loop-number.image) n sector (picked c.args.pick disk sector (values_of a disk sector c.args.moment)) (stored w.set.new.self)) w.number.ensures
          (subst (λ value. Puts (stored c.loop-number.image) w.number.result sector value (stored w.set.new.self)) w.picked_value-bytes.ensures
          (set_puts c.loop-number.image w.set.new.self w.number.result sector (record { bytes = w.picked_value-bytes.result }) w.set.ensures.set)) in
          rw w.image-is (
            omega (arith, w.set.ensures.room),
            takes_write a c.args.moment c.args.pick c.loop-number.number (stored c.loop-number.image) (stored w.set.new.self) disk sector w.in-Write.value at known c.args.self.now.names_differ put before.1,
            others_write a (stored c.loop-number.image) (stored w.set.new.self) disk sector _ known put before.2,
          )
      | in_default w ↦
          rw w.image-is (
            omega arith,
            takes_quiet a c.args.moment c.args.pick c.loop-number.number (stored c.loop-number.image) c.call.result c.call.ensures (quiet_unless c.call.result w.in_default.not-Write) before.1,
            before.2,
          )
    ]

pub returns-clause-taken : goal.returns-clause-taken
returns-clause-taken c =
    let a : Memory = memory c.args.self.now in
    let over : c.loop-number.number ≡ c.args.moment = omega arith in
    takes_all a c.args.moment c.args.pick (stored c.loop-number.image)
    (subst (λ k. TakesSoFar a c.args.moment c.args.pick k (stored c.loop-number.image)) over c.loop-number.invariant.1)
