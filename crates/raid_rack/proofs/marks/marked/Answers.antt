use Rattle.std.proofs.Common.{◌≡◌, ◌+◌, ◌<◌, List, [], ◌∷◌, ◌++◌, length, take, get_or, ap, ap₂, sym, ◌∙◌, arith}
use Rattle.std.proofs.lemmas.List.{take_more, length-take-le}
use Rattle.std.proofs.Math.Seq.{take-length}
use Rattle.pool_state.specs.declared.contents.Drive.{Drive}
use Rattle.log_laws.specs.View.{names}
use Rattle.raid_laws.specs.Missing.{missing_if, marked_from}
use Rattle.raid_laws.proofs.Missing.{marked_more}
use Rattle.raid_rack.proofs.marks.marked.Goals as goal

pub loop-place-init : goal.loop-place-init
unfolding marked_from
loop-place-init c = record { made = c.new-marked.ensures; many = ap length c.new-marked.ensures }

pub loop-place-preserved : goal.loop-place-preserved
loop-place-preserved c =
    let n = c.loop-place.place in
    let drives = c.args.drives.now in
    let places = c.args.lost.now.items in
    let below : n < length drives = c.loop-place-test.true in
    let last : Drive = get_or drives n _ in
    let new : c.missing_if.result ≡ missing_if (names places n) last =
    c.missing_if.ensures ∙ ap (λ b. missing_if b last) c.is_among-missing.ensures in
    let taken : length (take n drives) ≡ n = length-take-le n drives (omega arith) in
    let place : n ≡ 0 + length (take n drives) = omega (arith, taken) in
    record {
      made =
          c.push.ensures.items
          ∙ ap₂ (λ (ds : List Drive) (d : Drive). ds ++ d ∷ []) c.loop-place.invariant.made new
          ∙ ap (λ k. marked_from places 0 (take n drives) ++ missing_if (names places k) last ∷ []) place
          ∙ sym (marked_more places 0 (take n drives) last)
          ∙ ap (marked_from places 0) (sym (take_more drives n _ below));
      many = omega arith;
    }

pub returns : goal.returns
returns c =
    let all : c.loop-place.place ≡ length c.args.drives.now = omega arith in
    c.loop-place.invariant.made
    ∙ ap (marked_from c.args.lost.now.items 0) (ap (λ n. take n c.args.drives.now) all ∙ take-length c.args.drives.now)
