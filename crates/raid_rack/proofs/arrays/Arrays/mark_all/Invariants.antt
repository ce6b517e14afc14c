use Rattle.std.proofs.Common.{◌≡◌, ◌⊎◌}
use Rattle.raid_laws.specs.Agreeing.{MakesAgree}
use Rattle.raid_laws.specs.Moves.{AreMarked, ChangesNoData, RaisesBy}
use Rattle.raid_rack.specs.RaidRack.{IsRunning, raid_by}
use Rattle.raid_laws.specs.Unlost.{KeepsUnlost}
use Rattle.raid_laws.specs.Raid.{Raid}
use Rattle.transition_laws.specs.Losses.{IsRunOf, MakesLosses}
use Rattle.raid_rack.proofs.Rounds.{HasTurns}
use Rattle.raid_rack.proofs.TruthTurns.{HasTruths}
use Rattle.raid_rack.proofs.arrays.Arrays.mark_all.Given as goal

abbrev pub invariant-loop-turn : goal.invariant-loop-turn
invariant-loop-turn g l = record {
  moves : ChangesNoData (raid_by l.fn.self) (raid_by l.self) (g.S.Rack.seen l.fn.rack) (g.S.Rack.seen l.rack);
  running : IsRunning l.self (g.S.Rack.seen l.rack);
  turns : HasTurns (raid_by l.self) l._turn;
  raises : RaisesBy l._turn (raid_by l.fn.self) (raid_by l.self);
  idle : AreMarked (raid_by l.fn.self) → (l.self ≡ l.fn.self) × (l.rack ≡ l.fn.rack);
  supers : (l.self ≡ l.fn.self) ⊎ MakesAgree (raid_by l.fn.self) (raid_by l.self) (g.S.Rack.seen l.fn.rack) (g.S.Rack.seen l.rack);
  truths : HasTruths g.S.Rack.seen l.fn.self l.self l.fn.rack l.rack;
  losses : (d : Raid) → IsRunOf d (raid_by l.fn.self) → MakesLosses d (raid_by l.fn.self) (raid_by l.self) (g.S.Rack.seen l.fn.rack) (g.S.Rack.seen l.rack);
  unlost : KeepsUnlost l.fn.self.state l.self.state (g.S.Rack.seen l.fn.rack) (g.S.Rack.seen l.rack);
  runs : g.S.Rack.runs l.fn.rack l.rack;
}
