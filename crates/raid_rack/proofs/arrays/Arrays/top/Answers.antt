use Rattle.std.proofs.Common.{◌≡◌, ◌-◌, ◌<◌, length, get_or, sum_by, take, sym, ap, ◌∙◌, arith}
use Rattle.std.proofs.Math.Seq.{take-length}
use Rattle.std.proofs.Math.Nat.{div-le_self}
use Rattle.std.proofs.lemmas.List.Sums.{sum_by_more}
use Rattle.growth_laws.specs.NewArrays.{height_of}
use Rattle.raid_rack.specs.RaidRack.{no_array}
use Rattle.raid_rack.proofs.Grown.{views_items}
use Rattle.raid_rack.proofs.Steps.{same_element}
use Rattle.raid_rack.proofs.arrays.Arrays.top.Goals as goal

pub loop-number-preserved : goal.loop-number-preserved
loop-number-preserved c =
    let a = c.args.self.now in
    let h = height_of a.state.extent in
    let n = c.loop-number.number in
    let count = c.requires.count in
    let low : n < length a.all.items = omega arith in
    let u = c.index-deref-number.result in
    let same : u ≡ get_or a.all.items n no_array = c.index-deref-number.is ∙ same_element c.deref.result.now a.all.items n u no_array c.deref.ensures.0 low in
    let height : c.height_of-top.result ≡ h (get_or a.all.items n no_array) = c.height_of-top.ensures ∙ ap h same in
    let sum = c.loop-number.invariant.top in
    let most = c.loop-number.invariant.low in
    let next = sum_by_more h a.all.items n no_array low in
    let small = (c.requires.arrays n (omega (arith, low, count))).small in
    let less = div-le_self ((get_or a.all.items n no_array).truth.size - 2048) a.state.extent in
    record { top = omega (arith, height, sum, next); low = omega (arith, height, most, small, less) }

pub returns : goal.returns
returns c =
    let a = c.args.self.now in
    let h = height_of a.state.extent in
    let all : c.loop-number.number ≡ length a.all.items = omega arith in
    c.loop-number.invariant.top ∙ ap (λ n. sum_by h (take n a.all.items)) all ∙ ap (sum_by h) (take-length a.all.items) ∙ ap (sum_by h) (sym (views_items a c.requires.count))
