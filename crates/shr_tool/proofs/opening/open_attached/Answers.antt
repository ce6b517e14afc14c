-- The pool holds the bay's reference, and gives the bay back as it left it.
use Rattle.std.proofs.Common.{◌≡◌, ◌∙◌, ap, sym, subst, refl, inl, inr}
use Rattle.rack.specs.Joins.{stays_then}
use Rattle.raid_rack.specs.RaidRack.{slices_in}
use Rattle.pool.specs.View.{arrays_of, bay_in, book, slices_shown, view}
use Rattle.pool.proofs.Booked.{book_seated}
use Rattle.shr_tool.specs.Opened.{NotOpened, OpenedOn}
use Rattle.shr_tool.proofs.Through.{marks_through, pool_through, refused_through, wanting_through, written_through, held_by_meant, moment_in, opened_as, stops_mean, stops_through, traced_through, runs_on}
use Rattle.shr_tool.proofs.Told.{task_for}
use Rattle.shr_tool.proofs.opening.open_attached.Goals as goal

pub returns-in-Ok-clause-frame : goal.returns-in-Ok-clause-frame
returns-in-Ok-clause-frame g c =
    let last = c.do_on-status.new.pool in
    let opens = c.in-Ok.ensures in
    let does = c.do_on-status.ensures in
    let inner = c.into_inner-bay.ensures in
    let back : c.bay-1.given.0 ≡ (bay_in last).now =
    c.bay-1.given.1 (sym (ap (λ b. b.ghost_name) inner ∙ does.frame.0 ∙ opens.runs.0)) ∙ ap (λ b. b.now) inner in
    subst (g.B.Bay.frame c.args.bay.now) (sym back) (g.met.B.Bay.frame_then _ _ _ (g.met.B.Bay.runs_frame _ _ opens.runs.1) does.frame.1)

pub returns-in-Err-clause-frame : goal.returns-in-Err-clause-frame
returns-in-Err-clause-frame g c =
    let refuses = c.in-Err.ensures in
    let same : c.bay-in-Err-1.given.0 ≡ c.in-Err.back.rack.now =
    c.bay-in-Err-1.given.1 (sym refuses.returned.0) in
    subst (g.B.Bay.frame c.args.bay.now) (sym same) (g.met.B.Bay.runs_frame _ _ refuses.returned.1)

pub returns-in-Ok-clause-outcome : goal.returns-in-Ok-clause-outcome
returns-in-Ok-clause-outcome g c =
    let seen = g.B.Rack.seen in
    let shelf = g.B.Bay.shelf in
    let runs = g.B.Rack.runs in
    let left = g.I.Source.left in
    let taken = g.O.Sink.taken in
    let pool = c.in-Ok.pool in
    let last = c.do_on-status.new.pool in
    let opens = c.in-Ok.ensures in
    let does = c.do_on-status.ensures in
    let inner = c.into_inner-bay.ensures in
    let back : c.bay-1.given.0 ≡ (bay_in last).now =
    c.bay-1.given.1 (sym (ap (λ b. b.ghost_name) inner ∙ does.frame.0 ∙ opens.runs.0)) ∙ ap (λ b. b.now) inner in
    λ source sink.
    inr
    (subst
    (λ b. OpenedOn seen shelf runs c.args.bay.now b c.args.task (left c.args.input.now) (left c.do_on-status.new.input) (taken c.args.out.now) (taken c.do_on-status.new.out) c.do_on-status.result)
    (sym back)
    (record {
      opened = (bay_in pool).now;
      kept = opens.runs.1;
      names = does.proceeds.disks.names;
      drives = pool_through seen _ runs (λ r. r.now) (λ r s ran. ran.1) _ (bay_in pool) opens.drives;
      from = moment_in seen shelf pool (λ r. r.now);
      clock = refl;
      faults = λ d. refl;
      disks = refl;
      sectors = λ d. refl;
      held = λ d s. refl;
      named = refl;
      waiting = λ name. (g.met.B.Bay.runs_shelf _ _ opens.runs.1).ready name;
      unattached = refl;
      seated = book_seated (book (view (λ r. seen r.now) (λ r. shelf r.now) pool)) (slices_shown (view (λ r. seen r.now) (λ r. shelf r.now) pool)) opens.fit.0.running.set opens.fit.0.heeded;
      caused = marks_through seen _ runs (λ r. r.now) (λ r s ran. ran.1) _ (bay_in pool) _ opens.caused;
      meant = opened_as pool (λ r. seen r.now) (λ r. shelf r.now) _ opens.meant opens.marks;
      number = λ f sound quiet. (opens.meant f sound quiet).number;
      tables = opens.mended;
      agreed = opens.agreed;
      truths = opens.truths;
      moments = λ a meant calm traced. stops_mean pool (λ r. seen r.now) (λ r. shelf r.now) _ a opens.meant meant calm traced;
      says = λ f sound quiet. (opens.meant f sound quiet).says;
      stops = opens.stops;
      reopens = λ f sound quiet. (opens.meant f sound quiet).reopens;
      run_on = λ f sound quiet joined alone.
          runs_on _ _ _ f sound (opened_as pool (λ r. seen r.now) (λ r. shelf r.now) _ opens.meant opens.marks f sound quiet)
          _ (opens.meant f sound quiet).meant (opens.meant f sound quiet).one_pool (opens.truths f sound quiet) (stays_then opens.drives.early.only.stays opens.drives.late.stays) joined (slices_in (arrays_of pool)).orderly
          ((opens.meant f sound quiet).alone alone);
      outcome = λ a.
          task_for c.args.task c.do_on-status.result _ _ _ _ _ _ _ a _ _ _ _
          (λ meant. held_by_meant pool (λ r. seen r.now) (λ r. shelf r.now) _ a opens.meant
          (stays_then opens.drives.early.only.stays opens.drives.late.stays) ((g.met.B.Bay.runs_shelf _ _ opens.runs.1).told meant.1) meant.0)
          (λ traced. traced_through _ _ _ _ opens.drives traced)
          (does.outcome source sink a);
    }))

pub returns-in-Err-clause-outcome : goal.returns-in-Err-clause-outcome
returns-in-Err-clause-outcome g c =
    let seen = g.B.Rack.seen in
    let shelf = g.B.Bay.shelf in
    let runs = g.B.Rack.runs in
    let taken = g.O.Sink.taken in
    let back = c.in-Err.back in
    let refuses = c.in-Err.ensures in
    let same : c.bay-in-Err-1.given.0 ≡ back.rack.now =
    c.bay-in-Err-1.given.1 (sym refuses.returned.0) in
    λ source sink.
    inl
    (subst
    (λ b. NotOpened seen runs c.args.bay.now b (taken c.args.out.now) (taken c.refuse_open.new.out) c.refuse_open.result)
    (sym same)
    (record {
      why = back.why;
      says = c.refuse_open.ensures.says sink;
      kept = refuses.returned.1;
      early = refuses.early;
      written = written_through seen _ runs (λ r. r.now) (λ r s ran. ran.1) _ back.rack refuses.written;
      exact = refuses.exact;
      cause = refused_through seen _ runs (λ r. r.now) (λ r s ran. ran.1) _ back.rack back.why refuses.cause;
      unmoved = refuses.unmoved;
      still = refuses.still;
      wanting = λ f sound quiet memory. wanting_through seen _ runs (λ r. r.now) (λ r s ran. ran.1) _ back.rack f (refuses.wanting f sound quiet memory);
      stops = λ f sound quiet. stops_through seen _ runs (λ r. r.now) (λ r s ran. ran.1) _ back.rack f (refuses.stopped f sound quiet);
    }))
