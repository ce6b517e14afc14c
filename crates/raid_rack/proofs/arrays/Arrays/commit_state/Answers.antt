use Rattle.std.proofs.Common.{◌≡◌, ℕ, List, [], ◌∷◌, true, false, get_or, length, refl, ap, ◌∙◌, arith}
use Rattle.std.proofs.lemmas.Bool.{both_ways}
use Rattle.std.proofs.lemmas.Option.{slice_get-get_or}
use Rattle.arrayvec.specs.ArrayVec.{with_items}
use Rattle.log_laws.specs.View.{LogView, names}
use Rattle.array_core.specs.Seats.{gone as without}
use Rattle.raid_laws.proofs.Added.{names_current}
use Rattle.growth_laws.proofs.Stating.{AreStated, current_place, listed_current, stated_apart, stated_had, stated_valid}
use Rattle.raid_rack.specs.RaidRack.{raid_by}
use Rattle.raid_rack.proofs.Committed.{HasCommitted, has_committed}
use Rattle.raid_rack.proofs.Mended.{each_items, some_copies}
use Rattle.raid_rack.proofs.arrays.Arrays.commit_state.Given.{Over}
use Rattle.raid_rack.proofs.arrays.Arrays.commit_state.Goals as goal
use Rattle.raid_rack.proofs.arrays.Arrays.commit_state.Goals.{After-add_copies, After-note_gone}

-- what the log has
stated : (g : Over) (c : After-add_copies g)
    → AreStated (raid_by c.args.self.now) c.current_places-on.result.items c.args.self.now.log.added c.add_copies.new.log.added (g.S.Rack.seen c.args.rack.now)
stated g c = record {
  set = c.requires.running.set;
  heeded = c.requires.heeded;
  takes_are = c.current_places-on.ensures;
  only = c.requires.supers;
  apart = c.requires.apart;
  copies = c.add_copies.ensures.added;
}

pub add_copies-requires-clause-valid : goal.add_copies-requires-clause-valid
add_copies-requires-clause-valid g c n place at =
    let a = c.args.self.now in
    (current_place (raid_by a) (g.S.Rack.seen c.args.rack.now) place c.requires.running.set c.requires.heeded
    (listed_current a.state c.current_places-on.result.items n place c.current_places-on.ensures at)).0

pub add_copies-requires-clause-places : goal.add_copies-requires-clause-places
add_copies-requires-clause-places g c n place at =
    let a = c.args.self.now in
    (current_place (raid_by a) (g.S.Rack.seen c.args.rack.now) place c.requires.running.set c.requires.heeded
    (listed_current a.state c.current_places-on.result.items n place c.current_places-on.ensures at)).1

pub commit-gone-requires-clause-logs : goal.commit-gone-requires-clause-logs
commit-gone-requires-clause-logs g c j low =
    let a = c.args.self.now in
    let on = c.current_places-on.result.items in
    let at = current_place (raid_by a) (g.S.Rack.seen c.args.rack.now) (get_or on j 0) c.requires.running.set c.requires.heeded
    (listed_current a.state on j (get_or on j 0) c.current_places-on.ensures (slice_get-get_or on j 0 low)) in
    (at.1, at.2)

pub commit-gone-requires-clause-some : goal.commit-gone-requires-clause-some
commit-gone-requires-clause-some g c =
    let a = c.args.self.now in
    let on = c.current_places-on.result.items in
    let one = c.requires.some in
    let named : names on one.0 ≡ true = ap (λ ps. names ps one.0) c.current_places-on.ensures ∙ names_current a.state one.0 ∙ one.1 in
    some_copies a.state on a.log.added c.add_copies.new.log.added c.add_copies.ensures.added (λ none. both_ways (names on one.0) (no_names on one.0 none) named)
  where
    no_names : (ps : List ℕ) (p : ℕ) → length ps ≡ 0 → names ps p ≡ false
    no_names [] p none = refl
    no_names (q ∷ ps) p none = absurd (omega (arith, none))

pub commit-gone-requires-clause-valid : goal.commit-gone-requires-clause-valid
commit-gone-requires-clause-valid g c = stated_valid _ _ _ _ _ (stated g (goal.at.commit-gone-requires-clause-valid g c).After-add_copies)

pub commit-gone-requires-clause-apart : goal.commit-gone-requires-clause-apart
commit-gone-requires-clause-apart g c = stated_apart _ _ _ _ _ (stated g (goal.at.commit-gone-requires-clause-apart g c).After-add_copies)

pub commit-gone-requires-clause-had : goal.commit-gone-requires-clause-had
commit-gone-requires-clause-had g c = stated_had _ _ _ _ _ (stated g (goal.at.commit-gone-requires-clause-had g c).After-add_copies)

-- what the commit makes of the arrays
committed : (g : Over) (c : After-note_gone g)
    → AreStated (raid_by c.args.self.now) c.current_places-on.result.items c.args.self.now.log.added c.add_copies.new.log.added (g.S.Rack.seen c.args.rack.now)
    → HasCommitted c.args.self.now (record c.args.self.now { all = with_items c.args.self.now.all c.note_gone.new.arrays; log = c.commit-gone.new.self })
    (g.S.Rack.seen c.args.rack.now) (g.S.Rack.seen c.commit-gone.new.rack)
committed g c is =
    let a = c.args.self.now in
    let gone = c.commit-gone.result.items in
    let after = each_items a.all c.as_mut_slice.result.now c.note_gone.new.arrays (without gone) c.as_mut_slice.ensures.value c.note_gone.ensures in
    has_committed a (with_items a.all c.note_gone.new.arrays) c.commit-gone.new.self c.add_copies.new.log c.current_places-on.result.items gone
    (g.S.Rack.seen c.args.rack.now) (g.S.Rack.seen c.commit-gone.new.rack) c.requires.running.count is (ap (λ (l : LogView). l.number) c.add_copies.ensures.log)
    c.commit-gone.ensures.commits after.0 after.1 (ap (λ (l : LogView). l.number) c.commit-gone.ensures.log)

pub returns-clause-loses : goal.returns-clause-loses
returns-clause-loses g c =
    let at = goal.at.returns-clause-loses g c in
    (committed g at.After-note_gone (stated g at.After-add_copies)).loses

pub returns-clause-commits : goal.returns-clause-commits
returns-clause-commits g c =
    let at = goal.at.returns-clause-commits g c in
    (committed g at.After-note_gone (stated g at.After-add_copies)).commits

pub returns-clause-caused : goal.returns-clause-caused
returns-clause-caused g c =
    let at = goal.at.returns-clause-caused g c in
    (committed g at.After-note_gone (stated g at.After-add_copies)).caused

pub returns-clause-raises : goal.returns-clause-raises
returns-clause-raises g c =
    let at = goal.at.returns-clause-raises g c in
    (committed g at.After-note_gone (stated g at.After-add_copies)).raises

pub returns-clause-running : goal.returns-clause-running
returns-clause-running g c =
    let at = goal.at.returns-clause-running g c in
    (committed g at.After-note_gone (stated g at.After-add_copies)).running

pub returns-clause-stays : goal.returns-clause-stays
returns-clause-stays g c = c.commit-gone.ensures.commits.stays
