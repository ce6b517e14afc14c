-- A pool that is opened on the disks which answer is opened on the bay, with the others offline.
use Rattle.std.proofs.Common.{ℕ, List, Bool, inl, inr}
use Rattle.rack.specs.Seen.{RackView}
use Rattle.rack.specs.Shelf.{Shelf}
use Rattle.online_bay.specs.Online.{Asks}
use Rattle.shr_tool.specs.declared.opening.Task.{Task}
use Rattle.shr_tool.specs.declared.status.Status.{Status}
use Rattle.shr_tool.specs.Opened.{NotOpened, OpenOutcome, OpenedOn}
use Rattle.shr_tool.proofs.Through.{marks_through, pool_through, refused_through, stops_through, wanting_through, written_through}

-- disks of a bay that is reached through a reference were asked
pub asks_through :
    {R B : Type 0} (shown : B → RackView) (runs : R → R → Type 0) (does : B → B → Type 0) (to : R → B)
    → ((r s : R) → runs r s → does (to r) (to s))
    → (r s : R) (sector : ℕ) (offline : List Bool) → Asks (λ q. shown (to q)) runs r s sector offline → Asks shown does (to r) (to s) sector offline
asks_through shown runs does to so r s sector offline asks = record {
  reads = asks.reads;
  kept = so r s asks.kept;
  refused = asks.refused;
  answered = λ d below has online.
      let answered = asks.answered d below has online in
      record {
        before = to answered.before;
        after = to answered.after;
        kept = (so r answered.before answered.kept.0, so answered.after s answered.kept.1);
        into = answered.into;
        read = answered.read;
      };
}

-- what came out on it came out on the bay
module _ {R B : Type 0} (shown : B → RackView) (shelf : B → Shelf) (runs : R → R → Type 0) (does : B → B → Type 0) (to : R → B) (so : (r s : R) → runs r s → does (to r) (to s)) (r s : R) where
  not_opened : (out out' : List ℕ) (status : Status) → NotOpened (λ q. shown (to q)) runs r s out out' status → NotOpened shown does (to r) (to s) out out' status
  not_opened out out' status is = record {
    why = is.why;
    says = is.says;
    kept = so r s is.kept;
    early = is.early;
    written = written_through shown runs does to so r s is.written;
    exact = is.exact;
    cause = refused_through shown runs does to so r s is.why is.cause;
    unmoved = is.unmoved;
    still = is.still;
    wanting = λ f sound quiet memory. wanting_through shown runs does to so r s f (is.wanting f sound quiet memory);
    stops = λ f sound quiet. stops_through shown runs does to so r s f (is.stops f sound quiet);
  }

  opened_on : (task : Task) (text rest out out' : List ℕ) (status : Status) → OpenedOn (λ q. shown (to q)) (λ q. shelf (to q)) runs r s task text rest out out' status
      → OpenedOn shown shelf does (to r) (to s) task text rest out out' status
  opened_on task text rest out out' status is = record {
    opened = to is.opened;
    kept = so r is.opened is.kept;
    names = is.names;
    drives = pool_through shown runs does to so r is.opened is.drives;
    from = is.from;
    clock = is.clock;
    faults = is.faults;
    disks = is.disks;
    sectors = is.sectors;
    held = is.held;
    named = is.named;
    waiting = is.waiting;
    unattached = is.unattached;
    seated = is.seated;
    caused = marks_through shown runs does to so r is.opened is.from.book.state is.caused;
    meant = is.meant;
    number = is.number;
    tables = is.tables;
    agreed = is.agreed;
    truths = is.truths;
    moments = λ a meant calm traced. is.moments a meant calm traced;
    says = is.says;
    stops = is.stops;
    reopens = is.reopens;
    run_on = is.run_on;
    outcome = is.outcome;
  }

  pub outcome_through : (task : Task) (text rest out out' : List ℕ) (status : Status) → OpenOutcome (λ q. shown (to q)) (λ q. shelf (to q)) runs r s task text rest out out' status
      → OpenOutcome shown shelf does (to r) (to s) task text rest out out' status
  outcome_through task text rest out out' status (inl refused) = inl (not_opened out out' status refused)
  outcome_through task text rest out out' status (inr opened) = inr (opened_on task text rest out out' status opened)
