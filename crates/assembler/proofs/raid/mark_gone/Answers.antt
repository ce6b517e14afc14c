use Rattle.std.proofs.Common.{◌∙◌, inl, inr, arith}
use Rattle.std.proofs.lemmas.Bool.{both_ways}
use Rattle.slice_rack.specs.SliceRack.{below_of, tables}
use Rattle.slice_rack.specs.Runs.{runs_join}
use Rattle.raid_rack.specs.RaidRack.{raid_in, slices_in, slices_seen}
use Rattle.raid_laws.proofs.Agreeing.{agree_then}
use Rattle.raid_rack.proofs.Raises.{raises_more, raises_then}
use Rattle.raid_rack.proofs.Truths.{makes_after}
use Rattle.assembler.proofs.Mended.{mends_then}
use Rattle.assembler.proofs.raid.mark_gone.Goals as goal

pub returns-then-is_stale-clause-mends : goal.returns-then-is_stale-clause-mends
returns-then-is_stale-clause-mends g c =
    let seen = g.R.Rack.seen in
    let x = c.args.raid.now in
    let y = c.mark_gone.new.self in
    let z = c.restate.new.self in
    mends_then (raid_in x) (raid_in y) (raid_in z) (slices_seen seen x) (slices_seen seen y) (slices_seen seen z) c.mark_gone.ensures.mends c.restate.ensures.mends

pub returns-then-is_stale-clause-supers : goal.returns-then-is_stale-clause-supers
returns-then-is_stale-clause-supers g c why =
    let seen = g.R.Rack.seen in
    let x = c.args.raid.now in
    let y = c.mark_gone.new.self in
    let z = c.restate.new.self in
    agree_then (raid_in x) (raid_in y) (raid_in z) (slices_seen seen x) (slices_seen seen y) (slices_seen seen z) c.mark_gone.ensures.mends.moves c.restate.ensures.mends.moves
    c.restate.ensures.supers

pub returns-then-is_stale-clause-runs : goal.returns-then-is_stale-clause-runs
returns-then-is_stale-clause-runs g c =
    let seen = g.R.Rack.seen in
    let runs = g.R.Rack.runs in
    let x = slices_in c.args.raid.now in
    let y = slices_in c.mark_gone.new.self in
    let z = slices_in c.restate.new.self in
    let one = c.mark_gone.ensures.runs in
    let two = c.restate.ensures.runs in
    runs_join (tables x) (tables y) (tables z) (seen (below_of x)) (seen (below_of y)) (seen (below_of z)) (runs (below_of x) (below_of y)) (runs (below_of y) (below_of z))
    (runs (below_of x) (below_of z)) one two (g.met.R.Rack.runs_then _ _ _ one.below two.below)

pub returns-then-is_stale-clause-written : goal.returns-then-is_stale-clause-written
returns-then-is_stale-clause-written g c n = c.restate.ensures.written n ∙ c.mark_gone.ensures.written n

pub returns-else-is_stale-clause-supers : goal.returns-else-is_stale-clause-supers
returns-else-is_stale-clause-supers g c why =
    elim why [
      | inl stale ↦ absurd (both_ways c.args.is_stale c.if-is_stale.false stale)
      | inr some ↦ c.mark_gone.ensures.supers some
    ]

pub returns-then-is_stale-clause-makes : goal.returns-then-is_stale-clause-makes
returns-then-is_stale-clause-makes g c why =
    let seen = g.R.Rack.seen in
    let x = c.args.raid.now in
    let y = c.mark_gone.new.self in
    let z = c.restate.new.self in
    makes_after (raid_in x) (raid_in y) (raid_in z) (slices_seen seen x) (slices_seen seen y) (slices_seen seen z) c.requires.running.set.lasting c.mark_gone.ensures.mends.moves
    c.restate.ensures.truths

pub returns-else-is_stale-clause-makes : goal.returns-else-is_stale-clause-makes
returns-else-is_stale-clause-makes g c why =
    elim why [
      | inl stale ↦ absurd (both_ways c.args.is_stale c.if-is_stale.false stale)
      | inr some ↦ c.mark_gone.ensures.makes some
    ]

pub returns-then-is_stale-clause-raises : goal.returns-then-is_stale-clause-raises
returns-then-is_stale-clause-raises g c =
    raises_then 17 18 (raid_in c.args.raid.now) (raid_in c.mark_gone.new.self) (raid_in c.restate.new.self) c.mark_gone.ensures.mends.moves.book.same.made c.mark_gone.ensures.raises
    c.restate.ensures.raises

pub returns-else-is_stale-clause-raises : goal.returns-else-is_stale-clause-raises
returns-else-is_stale-clause-raises g c = raises_more 17 35 (raid_in c.args.raid.now) (raid_in c.mark_gone.new.self) (omega arith) c.mark_gone.ensures.raises
