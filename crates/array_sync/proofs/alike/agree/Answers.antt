use Rattle.std.proofs.Common.{◌≡◌, ◌+◌, ◌<◌, ℕ, sym, ap, ap₂, subst, ◌∙◌, arith}
use Rattle.std.specs.Cmp.Lexicographic.{same_text}
use Rattle.rack.specs.Seen.{IsLive}
use Rattle.rack.proofs.Reading.{only_reads_start, only_reads_then, value_then}
use Rattle.parity.specs.Xor.{xor}
use Rattle.array_image.specs.Places.{data_sector}
use Rattle.array_image.specs.Held.{current_in}
use Rattle.array_image.specs.Stripes.{width}
use Rattle.array_model.specs.Members.{row_layout}
use Rattle.array_model.proofs.Layouts.{row_layout_is}
use Rattle.array_model.proofs.Reading.{slices_then}
use Rattle.array_model.proofs.Views.{notes_none}
use Rattle.sync_laws.specs.Rows.{held_sum}
use Rattle.sync_laws.proofs.Agreeing.{all_counts}
use Rattle.sync_laws.proofs.Alike.{held_more, held_none, live_at}
use Rattle.sync_laws.proofs.Views.{seat_there}
use Rattle.array_sync.proofs.alike.agree.Goals as goal

pub loop-position-init : goal.loop-position-init
loop-position-init g c = (
  only_reads_start (g.R.Rack.seen c.args.rack.now) c.requires.slices.fit,
  g.met.R.Rack.runs_same c.args.rack.now,
  λ opened. c.zero_sector-sum.ensures ∙ held_none c.args.array.now (current_in (g.R.Rack.seen c.args.rack.now).held) c.args.sector,
)

pub slice_at-slice-requires : goal.slice_at-slice-requires
slice_at-slice-requires g c =
    let most = (row_layout_is c.args.array.now c.args.sector c.rules.ensures).most in
    let low = c.loop-position-test.true in
    let end = c.row_members-position-end.ensures in
    omega (arith, most, low, end)

pub read-requires-clause-disk : goal.read-requires-clause-disk
read-requires-clause-disk g c =
    let v = c.args.array.now in
    let a = g.R.Rack.seen c.args.rack.now in
    let b = g.R.Rack.seen c.loop-position.rack in
    let most = (row_layout_is v c.args.sector c.rules.ensures).most in
    let low = c.loop-position-test.true in
    let end = c.row_members-position-end.ensures in
    let inside : c.loop-position.position < v.truth.raid_disks = omega (arith, most, low, end) in
    let counts = all_counts v _ c.loop-position.position c.args.sector c.requires.whole inside (omega arith) in
    subst (λ (d : ℕ). d < b.disks) (sym c.slice_at-slice.ensures)
    ((slices_then v v a b c.loop-position.invariant.0.stays (notes_none v a b) c.requires.slices).disks c.loop-position.position inside (seat_there v c.loop-position.position c.args.sector counts))

pub read-requires-clause-sector : goal.read-requires-clause-sector
read-requires-clause-sector g c =
    let v = c.args.array.now in
    let a = g.R.Rack.seen c.args.rack.now in
    let b = g.R.Rack.seen c.loop-position.rack in
    let most = (row_layout_is v c.args.sector c.rules.ensures).most in
    let low = c.loop-position-test.true in
    let end = c.row_members-position-end.ensures in
    let inside : c.loop-position.position < v.truth.raid_disks = omega (arith, most, low, end) in
    let counts = all_counts v _ c.loop-position.position c.args.sector c.requires.whole inside (omega arith) in
    let room = (slices_then v v a b c.loop-position.invariant.0.stays (notes_none v a b) c.requires.slices).sectors c.loop-position.position inside (seat_there v c.loop-position.position c.args.sector counts) in
    let sector = c.requires.sector in
    subst (λ (d : ℕ). 2048 + c.args.sector < b.sectors d) (sym c.slice_at-slice.ensures) (omega (arith, room, sector))

pub loop-position-preserved : goal.loop-position-preserved
loop-position-preserved g c =
    let v = c.args.array.now in
    let a = g.R.Rack.seen c.args.rack.now in
    let most = (row_layout_is v c.args.sector c.rules.ensures).most in
    let low = c.loop-position-test.true in
    let end = c.row_members-position-end.ensures in
    let inside : c.loop-position.position < v.truth.raid_disks = omega (arith, most, low, end) in (
      only_reads_then c.loop-position.invariant.0 c.in-Ok.ensures.reads,
      g.met.R.Rack.runs_then _ _ _ c.loop-position.invariant.1 c.in-Ok.ensures.runs,
      λ opened.
          let counts = all_counts v _ c.loop-position.position c.args.sector c.requires.whole inside (omega arith) in
          let live = subst (λ (d : ℕ). IsLive a a d (data_sector + c.args.sector)) (sym c.slice_at-slice.ensures) (live_at v a c.loop-position.position c.args.sector inside counts opened) in
          c.xor_into.ensures
          ∙ ap₂ xor (c.loop-position.invariant.2 opened)
          (value_then _ c.loop-position.invariant.0 c.in-Ok.ensures.reads live.disk live.sector live.is_told ∙ ap (λ (d : ℕ). current_in a.held d (data_sector + c.args.sector)) c.slice_at-slice.ensures)
          ∙ held_more v (current_in a.held) c.args.sector c.loop-position.position,
    )

pub returns-in-Err-clause-reads : goal.returns-in-Err-clause-reads
returns-in-Err-clause-reads g c = only_reads_then c.loop-position.invariant.0 c.in-Err.ensures.reads

pub returns-clause-agree : goal.returns-clause-agree
returns-clause-agree g c = λ is opened.
    let v = c.args.array.now in
    let cur = current_in (g.R.Rack.seen c.args.rack.now).held in
    let stop = c.loop-position-test.false in
    let last = c.loop-position.auto.position-end in
    let end = c.row_members-position-end.ensures in
    let at : width (row_layout v c.args.sector) ≡ c.loop-position.position = omega (arith, stop, last, end) in
    ap (held_sum v cur c.args.sector) at ∙ sym (c.loop-position.invariant.2 opened) ∙ same_text c.loop-position.sum _ (sym is ∙ c.eq.ensures)
