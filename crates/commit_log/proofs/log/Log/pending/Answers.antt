use Rattle.std.proofs.Common.{◌≡◌, ℕ, Bool, true, false, not, if◌then◌else◌, List, [], Option, Some, None, filter, find, is_some, is_none, option_map, refl, sym, ap, subst, ◌∙◌, arith}
use Rattle.std.specs.List.{range_with_len}
use Rattle.std.proofs.lemmas.Bool.{both_ways}
use Rattle.rack.specs.Targets.{Target}
use Rattle.array_image.specs.Places.{log_slice}
use Rattle.array_image.specs.Record.{GateAt}
use Rattle.commit_log.specs.declared.scan.PlacedGate as placed
use Rattle.log_laws.specs.View.{LogView, names, in_order}
use Rattle.log_laws.specs.Bytes.{targets_in}
use Rattle.log_laws.specs.Phases.{went}
use Rattle.log_laws.specs.Opening.{PendingCall}
use Rattle.commit_log.specs.Scans.{IsScan, at_is, pending_seen, is_damaged}
use Rattle.log_laws.proofs.Naming.{names_listed, listed_in_order}
use Rattle.commit_log.proofs.Story.{logs_named}
use Rattle.commit_log.proofs.Finding.{scan_asked, looks_call}
use Rattle.commit_log.proofs.log.Log.pending.Goals as goal

is_some_map : (o : Option placed.PlacedGate) → is_some o ≡ is_some (option_map at_is o)
is_some_map None = refl
is_some_map (Some x) = refl

none_is : (o : Option ℕ) (b : Bool) → is_some o ≡ not b → b ≡ is_none o
none_is None true is = refl
none_is None false is = absurd (both_ways true (sym is) refl)
none_is (Some x) true is = absurd (both_ways true is refl)
none_is (Some x) false is = refl

pub load-broken-requires-clause-logs : goal.load-broken-requires-clause-logs
load-broken-requires-clause-logs g c p has =
    c.of-scan.ensures.scan.reads.stays.sectors (log_slice p)
    ∙ (logs_named (g.R.Rack.seen c.args.rack.now).sectors c.args.on.now.items p c.requires.logs
    (subst (λ (xs : List ℕ). names xs p ≡ true) c.as_slice.ensures.value (scan_asked c.as_slice.result.now c.of-scan.result p c.of-scan.ensures.scan has))).1

pub returns-clause-looks : goal.returns-clause-looks
returns-clause-looks g c =
    let a = g.R.Rack.seen c.args.rack.now in
    let r = g.R.Rack.seen c.of-scan.new.rack in
    let b = g.R.Rack.seen c.load-broken.new.rack in
    let s = c.of-scan.result in
    let t = c.load-broken.new.self in
    let on : List ℕ = c.args.on.now.items in
    let gone : List ℕ = c.list.result.items in
    let broken : Option ℕ = c.load-broken.result in
    let xs : List Target = targets_in c.load-broken.new.into.bytes.items c.load-broken.new.into.count in
    let listed : gone ≡ filter (went t.lost.places) (range_with_len 0 16) = c.list.ensures.listed in
    let free : c.is_none.result ≡ is_none (find (is_damaged broken t) (range_with_len 0 16)) =
    none_is c.first_damaged-damaged.result c.is_none.result c.is_none.ensures ∙ ap (λ (o : Option ℕ). is_none o) c.first_damaged-damaged.ensures in
    let m : LogView = record {
      number = c.greatest-self-inside.result;
      added = (targets_in c.self.inside.added.bytes.items c.self.inside.added.count);
      pending = targets_in c.keep_if.new.self.bytes.items c.keep_if.new.self.count;
      is_lent = true;
      is_open = c.is_open-self-inside.result;
    } in
    let is_pending : c.is_some.result ≡ is_some (pending_seen t.gates) =
    c.is_some.ensures ∙ is_some_map c.pending.result ∙ ap (λ (o : Option GateAt). is_some o) c.pending.ensures.gate in
    subst (λ (d : Option ℕ). PendingCall c.args.self.now m on gone c.is_some.result d a b) (sym c.first_damaged-damaged.ensures)
    (subst (λ (i : Bool). PendingCall c.args.self.now m on gone i (find (is_damaged broken t) (range_with_len 0 16)) a b) (sym is_pending)
    (looks_call on gone a r b s t broken xs c.args.self.now m
    (subst (λ (ys : List ℕ). IsScan ys 16 a r s) c.as_slice.ensures.value c.of-scan.ensures.scan)
    c.load-broken.ensures.drops c.load-broken.ensures.loads
    (λ p named. (logs_named a.sectors on p c.requires.logs named).0) c.requires.disks
    (λ p named. let log = logs_named a.sectors on p c.requires.logs named in omega (arith, log.1))
    (λ p. ap (λ (ys : List ℕ). names ys p) listed ∙ names_listed (went t.lost.places) c.list.ensures.beyond p)
    (listed ∙ listed_in_order (went t.lost.places) c.list.ensures.beyond ∙ ap in_order (sym listed))
    (ap (λ (l : LogView). l.added) c.self.view_is) refl
    (c.keep_if.ensures ∙ ap (λ (b : Bool). if b then xs else []) free) c.greatest-self-inside.ensures c.is_open-self-inside.ensures))

pub returns-clause-runs : goal.returns-clause-runs
returns-clause-runs g c = g.met.R.Rack.runs_then _ _ _ c.of-scan.ensures.runs c.load-broken.ensures.runs
