use Rattle.std.proofs.Common.{◌≡◌, ℕ, true, false, Some, List, filter, sym, ap, subst, ◌∙◌}
use Rattle.std.specs.List.{range_with_len}
use Rattle.rack.specs.Targets.{Target}
use Rattle.rack.specs.Sequences.{IsPayload}
use Rattle.log_laws.specs.View.{LogView, names, in_order}
use Rattle.log_laws.specs.Phases.{Settles, IsTargeted, IsWanted, went}
use Rattle.log_laws.specs.Opening.{ReplayCall}
use Rattle.log_laws.proofs.Naming.{names_listed, listed_in_order}
use Rattle.commit_log.proofs.Story.{logs_named}
use Rattle.commit_log.proofs.ReplayCalls.{Replayed, replay_call}
use Rattle.commit_log.proofs.log.Log.replay.Goals as goal

pub returns-clause-replays : goal.returns-clause-replays
returns-clause-replays g c =
    let a = g.R.Rack.seen c.args.rack.now in
    let t = g.R.Rack.seen c.settle_targets.new.rack in
    let b = g.R.Rack.seen c.close.new.rack in
    let w0 = went c.none-lost.result.places in
    let w1 = went c.settle_targets.new.lost.places in
    let w2 = went c.close.new.lost.places in
    let l : LogView = c.args.self.now in
    let on : List ℕ = c.as_slice-on.result.now in
    let items : on ≡ c.args.on.now.items = c.as_slice-on.ensures.value in
    let listed : c.list.result.items ≡ filter w2 (range_with_len 0 16) = c.list.ensures.listed in
    let done : Replayed l on c.list.result.items c.encode.result a t b w0 w1 w2 =
    record {
      writes =
          subst (λ (xs : List Target). Settles a t (IsTargeted xs) (IsPayload xs) (IsWanted a xs) w0 w1)
          (ap (λ (m : LogView). m.pending) c.self.view_is) c.settle_targets.ensures.settles;
      closes = c.close.ensures.settles;
      closed_is = c.encode.ensures.gate ∙ ap (λ (m : LogView). Some (record { is_open = false; number = m.number })) c.self.view_is;
      sized = c.encode.ensures.sized;
      logs = λ p named. logs_named a.sectors c.args.on.now.items p c.requires.logs (subst (λ (xs : List ℕ). names xs p ≡ true) items named);
      lost_are = λ p. ap (λ (xs : List ℕ). names xs p) listed ∙ names_listed w2 c.list.ensures.beyond p;
      ordered = listed ∙ listed_in_order w2 c.list.ensures.beyond ∙ ap in_order (sym listed);
      none_before = c.none-lost.ensures;
      disks = c.requires.disks;
    } in
    subst (λ (xs : List ℕ). ReplayCall l xs c.list.result.items a b) items
    (replay_call l on c.list.result.items c.encode.result a t b w0 w1 w2 done)
