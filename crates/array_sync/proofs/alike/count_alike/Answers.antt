use Rattle.std.proofs.Common.{◌≡◌, ◌+◌, ◌-◌, ℕ, false, inl, inr, subst, arith}
use Rattle.std.proofs.lemmas.Bool.{cases_lt}
use Rattle.rack.proofs.Reading.{only_reads_join}
use Rattle.raid_map.specs.LeftSymmetric.{row_at}
use Rattle.sync_laws.specs.Rows.{IsAlike, lacks_row}
use Rattle.sync_laws.proofs.Alike.{alike_before, whole_before}
use Rattle.array_sync.proofs.alike.count_alike.Goals as goal

pub agree-requires-clause-whole : goal.agree-requires-clause-whole
agree-requires-clause-whole g c =
    let low = c.loop-sector-test.true in
    let some = c.requires.some in
    whole_before c.args.array.now (row_at c.loop-sector.sector) (c.args.row + (c.args.many - 1)) (omega (arith, low, some)) c.requires.whole

pub returns-then-not-agree-clause-reads : goal.returns-then-not-agree-clause-reads
returns-then-not-agree-clause-reads g c = only_reads_join c.loop-sector.invariant.0 c.agree.ensures.reads

pub loop-sector-preserved : goal.loop-sector-preserved
loop-sector-preserved g c =
    let v = c.args.array.now in
    let a = g.R.Rack.seen c.args.rack.now in
    let low = c.loop-sector-test.true in
    let least = c.loop-sector.auto.sector in
    let some = c.requires.some in
    let whole : lacks_row v (row_at c.loop-sector.sector) ≡ false = whole_before v (row_at c.loop-sector.sector) (c.args.row + (c.args.many - 1)) (omega (arith, low, some)) c.requires.whole in (
      only_reads_join c.loop-sector.invariant.0 c.agree.ensures.reads,
      g.met.R.Rack.runs_then _ _ _ c.loop-sector.invariant.1 c.agree.ensures.runs,
      λ t first last. elim (cases_lt t c.loop-sector.sector) [
        | inl less ↦ c.loop-sector.invariant.2 t first (omega (arith, less, least))
        | inr more ↦
            let here : c.loop-sector.sector ≡ t = omega (arith, more, last, least) in
            subst (λ (s : ℕ). IsAlike v a s) here
            (alike_before v a (g.R.Rack.seen c.loop-sector.rack) c.loop-sector.sector c.rules.ensures c.requires.slices.lasting c.loop-sector.invariant.0 whole (c.agree.ensures.agree c.if-not-agree.false))
      ],
    )
