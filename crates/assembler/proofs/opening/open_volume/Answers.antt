use Rattle.std.proofs.Common.{◌∙◌, inl, inr, sym, subst}
use Rattle.pool_state.specs.declared.contents.State.{State}
use Rattle.slice_rack.specs.SliceRack.{below_of}
use Rattle.lvm_group.specs.Brought.{BringsUp}
use Rattle.lvm_group.specs.Opening.{IsUnopened, Opens}
use Rattle.lvm_group.specs.Runs.{Linear}
use Rattle.lvm_group.specs.Volume.{below_of as rack_in, linear, seqno_of}
use Rattle.raid_rack.specs.AllRuns.{calls_then}
use Rattle.raid_rack.specs.RaidRack.{raid_seen, slices_in}
use Rattle.assembler.specs.Volume.{OpensVolume}
use Rattle.assembler.proofs.Raised.{raises_opening}
use Rattle.assembler.proofs.Volumes.{unopened_cause}
use Rattle.assembler.proofs.opening.open_volume.Goals as goal

pub returns-in-Ok-keep_volume-clause-opens : goal.returns-in-Ok-keep_volume-clause-opens
returns-in-Ok-keep_volume-clause-opens g c =
    let seen = g.R.Rack.seen in
    let runs = g.R.Rack.runs in
    let x = c.args.raid in
    let first = c.in-Ok.volume in
    let last = c.in-Ok-keep_volume.volume in
    let mid = rack_in first in
    let p = raid_seen seen x in
    let q = raid_seen seen mid in
    let kept = c.in-Ok.ensures.kept in
    let said = c.in-Ok-keep_volume.ensures in
    let both = subst (λ (s : State). (opens : Opens s.pool.0 s.extent s.joined p q (linear first) (seqno_of first))
    × BringsUp s.pool.0 s.joined (linear first) (seqno_of first) opens.runs.group p q) c.state-state.ensures c.in-Ok.ensures.opens in
    let opens : OpensVolume seen runs x (rack_in last) (linear first) (seqno_of first) =
    record {
      mid = mid;
      opens = both.0;
      brings = both.1;
      early = kept;
      fit = c.in-Ok.ensures.fit.0;
      agrees = said.agrees;
      kept = calls_then seen runs x mid (rack_in last) (g.met.R.Rack.runs_then _ _ _) (kept.0, kept.1, kept.2) said.agrees.kept;
      unused = said.unused;
      raises = raises_opening x mid (rack_in last) _ c.state-state.ensures kept.1.book.same.made c.in-Ok.ensures.several said.agrees.raises;
    } in
    subst (λ n. OpensVolume seen runs x (rack_in last) (linear last) n) (sym said.same.1)
    (subst (λ (l : Linear). OpensVolume seen runs x (rack_in last) l (seqno_of first)) (sym said.same.0) opens)

pub returns-in-Err-keep_volume-clause-refused : goal.returns-in-Err-keep_volume-clause-refused
returns-in-Err-keep_volume-clause-refused g c =
    let said = c.in-Err-keep_volume.ensures in
    let back = c.in-Err-keep_volume.back.rack in
    let kept = c.in-Ok.ensures.kept in
    record {
      last = back;
      back = sym c.give_back.ensures.rack;
      cause = inl (c.give_back.ensures.why ∙ said.refused.0, inr said.refused.1);
      kept = calls_then g.R.Rack.seen g.R.Rack.runs c.args.raid (rack_in c.in-Ok.volume) back (g.met.R.Rack.runs_then _ _ _) (kept.0, kept.1, kept.2) said.back.kept;
    }

pub returns-in-Err-keep_volume-clause-returned : goal.returns-in-Err-keep_volume-clause-returned
returns-in-Err-keep_volume-clause-returned g c =
    let runs = g.R.Rack.runs in
    subst (λ r. runs (below_of (slices_in c.args.raid)) r) (sym c.give_back.ensures.rack)
    (g.met.R.Rack.runs_then _ _ _ c.in-Ok.ensures.kept.0.below c.in-Err-keep_volume.ensures.back.kept.0.below)

pub returns-in-Err-clause-refused : goal.returns-in-Err-clause-refused
returns-in-Err-clause-refused g c =
    let seen = g.R.Rack.seen in
    let back = c.in-Err.back in
    let kept = c.in-Err.ensures.returned in
    record {
      last = back.rack;
      back = sym c.give_back-in-Err.ensures.rack;
      cause = unopened_cause seen c.args.raid back.rack c.give_back-in-Err.result.why back.why c.in-Err.ensures.looked.stays.fit
          (c.give_back-in-Err.ensures.why ∙ c.unopened-why.ensures.why)
          (subst (λ (s : State). IsUnopened s.pool.0 s.extent s.joined (raid_seen seen c.args.raid) (raid_seen seen back.rack) back.why)
          c.state-state.ensures c.in-Err.ensures.refused)
          c.in-Err.ensures.looked c.in-Err.ensures.unwritten kept.3;
      kept = (kept.0, kept.1, kept.2);
    }
