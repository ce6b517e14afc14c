use Rattle.std.proofs.Common.{◌≡◌, ◌⊎◌, Some, sym, ap, subst, ◌∙◌, inl, inr, length}
use Rattle.rack.specs.Seen.{IsPick, SameRack, Rose}
use Rattle.rack.specs.Sequences.{OnlyReads}
use Rattle.rack.specs.Joins.{leaves_weaker, rose_early, rose_later, stays_then}
use Rattle.slice_rack.specs.SliceRack.{tables, below_of}
use Rattle.pool_image.specs.Disks.{disks_of}
use Rattle.pool_image.specs.Alike.{Agree, MeansTheSame}
use Rattle.pool_scan.specs.Scanning.{IsUnfaulted, now_in}
use Rattle.pool_rest.specs.Standing.{IsLaid, IsNewest, IsOnePool, FindsAll, FindsLeft, since}
use Rattle.pool_rest.specs.Resting.{IsFlagged, RestsSo, StandsNow, WritesDrives, seated_state}
use Rattle.pool_rest.proofs.Agreeing.{told_later, lasting_later}
use Rattle.pool_rest.proofs.Meant.{gone_none}
use Rattle.pool_rest.proofs.Again.{laid_later, newest_still, newest_from, cause_from, single_now}
use Rattle.pool_rest.specs.SoundLogs.{IsSettled}
use Rattle.pool_rest.proofs.Refusals.{meant_after}
use Rattle.pool_rest.proofs.Stood.{found_still}
use Rattle.pool_rest.proofs.Payloads.{steady_after}
use Rattle.pool_rest.proofs.GonePlaces.{stands_rose, found_left, left_since}
use Rattle.pool_scan.specs.Choosing.{seat_by}
use Rattle.pool_rest.proofs.Quiet.{none_flagged, no_cause, settled_after, settled_idle}
use Rattle.pool_rest.proofs.Joined.{no_elements, writes_idle, writes_since, free_before, free_after, since_rests, since_so, since_stands, since_means, not_idle, idle_so, idle_stands, idle_same}
use Rattle.pool_scan.proofs.Meant.{scan_meant}
use Rattle.pool_rest.specs.Moments.{StandsMidway}
use Rattle.pool_rest.proofs.Keeping.{keeps_read, rest_brought, rest_keeps, rest_stands, single_later}
use Rattle.pool_rest.proofs.Meanwhile.{reads_stop}
use Rattle.pool_rest.proofs.resting.bring_to_rest.Goals as goal

pub returns-then-pending_count-eq0-clause-only : goal.returns-then-pending_count-eq0-clause-only
returns-then-pending_count-eq0-clause-only g c =
    subst (λ k. WritesDrives (g.R.Rack.seen c.args.rack) (g.R.Rack.seen (below_of k))) (sym c.as_it_stands.ensures.slices)
    (writes_idle (g.R.Rack.seen c.args.rack) (g.R.Rack.seen (below_of c.in-Ok-stand.found.slices)) c.in-Ok-stand.found.scan.disks.items c.in-Ok-stand.found.state c.in-Ok-stand.ensures.newest.scan c.in-Ok-stand.ensures.only)

pub returns-then-pending_count-eq0-clause-laid : goal.returns-then-pending_count-eq0-clause-laid
returns-then-pending_count-eq0-clause-laid g c =
    let rest = c.as_it_stands.ensures in
    subst (λ k. IsLaid (g.R.Rack.seen (below_of k)) c.as_it_stands.result.scan.disks.items c.as_it_stands.result.state (tables k) c.as_it_stands.result.on.items) (sym rest.slices)
    (subst (λ o. IsLaid (g.R.Rack.seen (below_of c.in-Ok-stand.found.slices)) c.as_it_stands.result.scan.disks.items c.as_it_stands.result.state (tables c.in-Ok-stand.found.slices) o.items) (sym rest.on)
    (subst (λ s. IsLaid (g.R.Rack.seen (below_of c.in-Ok-stand.found.slices)) c.as_it_stands.result.scan.disks.items s (tables c.in-Ok-stand.found.slices) c.in-Ok-stand.found.on.items) (sym rest.state)
    (subst (λ k. IsLaid (g.R.Rack.seen (below_of c.in-Ok-stand.found.slices)) k.disks.items c.in-Ok-stand.found.state (tables c.in-Ok-stand.found.slices) c.in-Ok-stand.found.on.items) (sym rest.scan)
    (laid_later (g.R.Rack.seen c.args.rack) (g.R.Rack.seen (below_of c.in-Ok-stand.found.slices)) _ _ _ _ c.in-Ok-stand.ensures.only.stays c.in-Ok-stand.ensures.laid))))

pub returns-then-pending_count-eq0-clause-rests : goal.returns-then-pending_count-eq0-clause-rests
returns-then-pending_count-eq0-clause-rests g c = λ told lasts free.
    let same = c.as_it_stands.ensures.slices in
    subst (λ k. RestsSo (g.R.Rack.seen c.args.rack) (g.R.Rack.seen (below_of k))) (sym same)
    (idle_so (g.R.Rack.seen c.args.rack) (g.R.Rack.seen (below_of c.in-Ok-stand.found.slices)) c.in-Ok-stand.found.state (tables c.in-Ok-stand.found.slices) c.in-Ok-stand.found.log c.in-Ok-stand.found.looked.pending c.in-Ok-stand.found.looked.damaged c.in-Ok-stand.ensures.only
    c.in-Ok-stand.ensures.meant (no_elements c.in-Ok-stand.found.log.pending (sym c.pending_count.ensures ∙ c.if-pending_count-eq0.true)) told lasts
    (subst (λ k. IsUnfaulted (g.R.Rack.seen c.args.rack) (g.R.Rack.seen (below_of k))) same free))

pub returns-then-pending_count-eq0-clause-stands : goal.returns-then-pending_count-eq0-clause-stands
returns-then-pending_count-eq0-clause-stands g c = λ told lasts free.
    let rest = c.as_it_stands.ensures in
    let found = c.in-Ok-stand.found in
    subst (λ k. StandsNow (g.R.Rack.seen (below_of k)) c.as_it_stands.result.state c.as_it_stands.result.log c.as_it_stands.result.pending c.as_it_stands.result.damaged) (sym rest.slices)
    (subst (λ d. StandsNow (g.R.Rack.seen (below_of c.in-Ok-stand.found.slices)) c.as_it_stands.result.state c.as_it_stands.result.log c.as_it_stands.result.pending d) (sym rest.damaged)
    (subst (λ p. StandsNow (g.R.Rack.seen (below_of c.in-Ok-stand.found.slices)) c.as_it_stands.result.state c.as_it_stands.result.log p found.looked.damaged) (sym rest.pending)
    (subst (λ m. StandsNow (g.R.Rack.seen (below_of c.in-Ok-stand.found.slices)) c.as_it_stands.result.state m found.looked.pending found.looked.damaged) (sym rest.log)
    (subst (λ s. StandsNow (g.R.Rack.seen (below_of c.in-Ok-stand.found.slices)) s found.log found.looked.pending found.looked.damaged) (sym rest.state)
    (idle_stands (g.R.Rack.seen c.args.rack) (g.R.Rack.seen (below_of c.in-Ok-stand.found.slices)) c.in-Ok-stand.found.state (tables c.in-Ok-stand.found.slices) c.in-Ok-stand.found.log c.in-Ok-stand.found.looked.pending c.in-Ok-stand.found.looked.damaged c.in-Ok-stand.ensures.only
    c.in-Ok-stand.ensures.meant (no_elements c.in-Ok-stand.found.log.pending (sym c.pending_count.ensures ∙ c.if-pending_count-eq0.true)) told lasts
    (subst (λ k. IsUnfaulted (g.R.Rack.seen c.args.rack) (g.R.Rack.seen (below_of k))) rest.slices free))))))

pub returns-then-pending_count-eq0-clause-means : goal.returns-then-pending_count-eq0-clause-means
returns-then-pending_count-eq0-clause-means g c = λ told lasts free idle whole.
    let same = c.as_it_stands.ensures.slices in
    subst (λ k. MeansTheSame (disks_of (g.R.Rack.seen c.args.rack)) (now_in (g.R.Rack.seen c.args.rack)) (now_in (g.R.Rack.seen (below_of k)))) (sym same)
    (idle_same (g.R.Rack.seen c.args.rack) (g.R.Rack.seen (below_of c.in-Ok-stand.found.slices)) c.in-Ok-stand.found.state (tables c.in-Ok-stand.found.slices) c.in-Ok-stand.found.log c.in-Ok-stand.found.looked.pending c.in-Ok-stand.found.looked.damaged c.in-Ok-stand.ensures.only
    c.in-Ok-stand.ensures.meant (no_elements c.in-Ok-stand.found.log.pending (sym c.pending_count.ensures ∙ c.if-pending_count-eq0.true)) told lasts
    (subst (λ k. IsUnfaulted (g.R.Rack.seen c.args.rack) (g.R.Rack.seen (below_of k))) same free))

pub returns-in-Ok-replay_found-clause-only : goal.returns-in-Ok-replay_found-clause-only
returns-in-Ok-replay_found-clause-only g c =
    writes_since (g.R.Rack.seen c.args.rack) (g.R.Rack.seen (below_of c.in-Ok-stand.found.slices)) (g.R.Rack.seen (below_of c.in-Ok-replay_found.rest.slices)) c.in-Ok-stand.found.scan.disks.items (seated_state c.in-Ok-stand.found.log.pending c.in-Ok-stand.found.state)
    c.in-Ok-stand.ensures.only c.in-Ok-stand.ensures.newest.scan c.in-Ok-replay_found.ensures.only

pub returns-in-Ok-replay_found-clause-rests : goal.returns-in-Ok-replay_found-clause-rests
returns-in-Ok-replay_found-clause-rests g c =
    since_so (g.R.Rack.seen c.args.rack) (g.R.Rack.seen (below_of c.in-Ok-stand.found.slices)) (g.R.Rack.seen (below_of c.in-Ok-replay_found.rest.slices)) c.in-Ok-stand.found.scan.disks.items c.in-Ok-stand.found.state (tables c.in-Ok-stand.found.slices) c.in-Ok-stand.found.log c.in-Ok-stand.found.looked.pending c.in-Ok-stand.found.looked.damaged
    c.in-Ok-stand.ensures.only c.in-Ok-replay_found.ensures.only.stays c.in-Ok-stand.ensures.newest.scan c.in-Ok-stand.ensures.meant (λ none. c.if-pending_count-eq0.false (c.pending_count.ensures ∙ ap length none)) c.in-Ok-replay_found.ensures.replayed

pub returns-in-Ok-replay_found-clause-stands : goal.returns-in-Ok-replay_found-clause-stands
returns-in-Ok-replay_found-clause-stands g c =
    let rest = c.in-Ok-replay_found.rest in
    since_stands (g.R.Rack.seen c.args.rack) (g.R.Rack.seen (below_of c.in-Ok-stand.found.slices)) (g.R.Rack.seen (below_of c.in-Ok-replay_found.rest.slices)) c.in-Ok-stand.found.scan.disks.items c.in-Ok-stand.found.state (tables c.in-Ok-stand.found.slices) c.in-Ok-stand.found.log c.in-Ok-stand.found.looked.pending c.in-Ok-stand.found.looked.damaged
    c.in-Ok-stand.ensures.only c.in-Ok-replay_found.ensures.only.stays c.in-Ok-stand.ensures.newest.scan c.in-Ok-stand.ensures.meant rest.state rest.log rest.pending rest.damaged c.in-Ok-replay_found.ensures.stands

pub returns-in-Ok-replay_found-clause-newest : goal.returns-in-Ok-replay_found-clause-newest
returns-in-Ok-replay_found-clause-newest g c = λ told lasts.
    newest_from (g.R.Rack.seen c.args.rack) (g.R.Rack.seen (below_of c.in-Ok-stand.found.slices)) (g.R.Rack.seen (below_of c.in-Ok-replay_found.rest.slices)) c.in-Ok-replay_found.rest.scan.disks.items c.in-Ok-replay_found.rest.state
    c.in-Ok-stand.ensures.only.stays
    (c.in-Ok-replay_found.ensures.newest
    (told_later (g.R.Rack.seen c.args.rack) (g.R.Rack.seen (below_of c.in-Ok-stand.found.slices)) c.in-Ok-stand.ensures.only.stays told)
    (lasting_later (g.R.Rack.seen c.args.rack) (g.R.Rack.seen (below_of c.in-Ok-stand.found.slices)) c.in-Ok-stand.ensures.only.stays lasts))

pub returns-in-Ok-replay_found-clause-single : goal.returns-in-Ok-replay_found-clause-single
returns-in-Ok-replay_found-clause-single g c = λ told lasts free.
    let stays = stays_then c.in-Ok-stand.ensures.only.stays c.in-Ok-replay_found.ensures.only.stays in
    single_now (g.R.Rack.seen c.args.rack) (g.R.Rack.seen (below_of c.in-Ok-replay_found.rest.slices)) c.in-Ok-replay_found.rest.scan.disks.items c.in-Ok-replay_found.rest.state
    (returns-in-Ok-replay_found-clause-newest g c told lasts)
    (told_later (g.R.Rack.seen c.args.rack) (g.R.Rack.seen (below_of c.in-Ok-replay_found.rest.slices)) stays told)
    free c.in-Ok-replay_found.ensures.one

pub returns-in-Ok-replay_found-clause-means : goal.returns-in-Ok-replay_found-clause-means
returns-in-Ok-replay_found-clause-means g c =
    let rest = c.in-Ok-replay_found.rest in
    since_means (g.R.Rack.seen c.args.rack) (g.R.Rack.seen (below_of c.in-Ok-stand.found.slices)) (g.R.Rack.seen (below_of c.in-Ok-replay_found.rest.slices)) c.in-Ok-stand.found.scan.disks.items c.in-Ok-stand.found.state (tables c.in-Ok-stand.found.slices) c.in-Ok-stand.found.log c.in-Ok-stand.found.looked.pending c.in-Ok-stand.found.looked.damaged
    c.in-Ok-stand.ensures.only c.in-Ok-replay_found.ensures.only.stays c.in-Ok-stand.ensures.newest.scan c.in-Ok-stand.ensures.meant rest.state rest.log rest.pending rest.damaged
    (λ none. c.if-pending_count-eq0.false (c.pending_count.ensures ∙ ap length none))
    c.in-Ok-replay_found.ensures.replayed c.in-Ok-replay_found.ensures.stands c.in-Ok-stand.ensures.single (returns-in-Ok-replay_found-clause-single g c)

pub returns-in-Ok-replay_found-clause-settled : goal.returns-in-Ok-replay_found-clause-settled
returns-in-Ok-replay_found-clause-settled g c = λ told lasts free sound.
    let rest = c.in-Ok-replay_found.rest in
    let found = c.in-Ok-stand.found in
    let only = c.in-Ok-stand.ensures.only in
    let stays = c.in-Ok-replay_found.ensures.only.stays in
    let early = free_before (g.R.Rack.seen c.args.rack) (g.R.Rack.seen (below_of found.slices)) (g.R.Rack.seen (below_of rest.slices)) found.scan.disks.items found.state (tables found.slices) found.log found.looked.pending found.looked.damaged
    only stays c.in-Ok-stand.ensures.newest.scan c.in-Ok-stand.ensures.meant free in
    let later = free_after (g.R.Rack.seen c.args.rack) (g.R.Rack.seen (below_of found.slices)) (g.R.Rack.seen (below_of rest.slices)) found.scan.disks.items found.state (tables found.slices) found.log found.looked.pending found.looked.damaged
    only stays c.in-Ok-stand.ensures.newest.scan c.in-Ok-stand.ensures.meant free in
    settled_after (g.R.Rack.seen c.args.rack) (g.R.Rack.seen (below_of found.slices)) (g.R.Rack.seen (below_of rest.slices)) found.scan.disks.items found.state found.log found.looked.pending found.looked.damaged (tables found.slices)
    only stays c.in-Ok-stand.ensures.newest.scan (λ none. c.if-pending_count-eq0.false (c.pending_count.ensures ∙ ap length none)) told lasts early (c.in-Ok-stand.ensures.meant told early)
    (since_rests (g.R.Rack.seen c.args.rack) (g.R.Rack.seen (below_of found.slices)) (g.R.Rack.seen (below_of rest.slices)) found.scan.disks.items found.state (tables found.slices) found.log found.looked.pending found.looked.damaged
    only stays c.in-Ok-stand.ensures.newest.scan c.in-Ok-stand.ensures.meant (λ none. c.if-pending_count-eq0.false (c.pending_count.ensures ∙ ap length none)) c.in-Ok-replay_found.ensures.replayed told lasts free)
    sound rest.state rest.log rest.pending rest.damaged
    (c.in-Ok-replay_found.ensures.shut (none_flagged (g.R.Rack.seen c.args.rack) (g.R.Rack.seen (below_of found.slices)) found.scan.disks.items c.in-Ok-stand.ensures.newest.scan early)
    (gone_none (g.R.Rack.seen c.args.rack) (g.R.Rack.seen (below_of found.slices)) (tables found.slices) found.on.items found.looked.gone.items found.log found.looked.pending found.looked.damaged c.in-Ok-stand.ensures.looked early)
    (told_later (g.R.Rack.seen c.args.rack) (g.R.Rack.seen (below_of found.slices)) only.stays told)
    (lasting_later (g.R.Rack.seen c.args.rack) (g.R.Rack.seen (below_of found.slices)) only.stays lasts) later (λ none. c.if-pending_count-eq0.false (c.pending_count.ensures ∙ ap length none)))
    (returns-in-Ok-replay_found-clause-stands g c told lasts free)
    (returns-in-Ok-replay_found-clause-means g c told lasts free)

pub returns-then-pending_count-eq0-clause-settled : goal.returns-then-pending_count-eq0-clause-settled
returns-then-pending_count-eq0-clause-settled g c = λ told lasts free sound.
    let rest = c.as_it_stands.ensures in
    let found = c.in-Ok-stand.found in
    let still = subst (λ k. IsUnfaulted (g.R.Rack.seen c.args.rack) (g.R.Rack.seen (below_of k))) rest.slices free in
    let none = no_elements found.log.pending (sym c.pending_count.ensures ∙ c.if-pending_count-eq0.true) in
    subst (λ k. IsSettled (g.R.Rack.seen c.args.rack) (g.R.Rack.seen (below_of k)) c.as_it_stands.result.state c.as_it_stands.result.pending c.as_it_stands.result.damaged) (sym rest.slices)
    (subst (λ d. IsSettled (g.R.Rack.seen c.args.rack) (g.R.Rack.seen (below_of c.in-Ok-stand.found.slices)) c.as_it_stands.result.state c.as_it_stands.result.pending d) (sym rest.damaged)
    (subst (λ p. IsSettled (g.R.Rack.seen c.args.rack) (g.R.Rack.seen (below_of c.in-Ok-stand.found.slices)) c.as_it_stands.result.state p found.looked.damaged) (sym rest.pending)
    (subst (λ s. IsSettled (g.R.Rack.seen c.args.rack) (g.R.Rack.seen (below_of c.in-Ok-stand.found.slices)) s found.looked.pending found.looked.damaged) (sym rest.state)
    (settled_idle (g.R.Rack.seen c.args.rack) (g.R.Rack.seen (below_of c.in-Ok-stand.found.slices)) found.state (tables found.slices) found.log found.looked.pending found.looked.damaged
    c.in-Ok-stand.ensures.only told lasts (c.in-Ok-stand.ensures.meant told still)
    (idle_stands (g.R.Rack.seen c.args.rack) (g.R.Rack.seen (below_of c.in-Ok-stand.found.slices)) found.state (tables found.slices) found.log found.looked.pending found.looked.damaged c.in-Ok-stand.ensures.only
    c.in-Ok-stand.ensures.meant none told lasts still) none sound
    (idle_same (g.R.Rack.seen c.args.rack) (g.R.Rack.seen (below_of c.in-Ok-stand.found.slices)) found.state (tables found.slices) found.log found.looked.pending found.looked.damaged c.in-Ok-stand.ensures.only
    c.in-Ok-stand.ensures.meant none told lasts still)))))

pub returns-in-Ok-replay_found-clause-runs : goal.returns-in-Ok-replay_found-clause-runs
returns-in-Ok-replay_found-clause-runs g c = g.met.R.Rack.runs_then _ _ _ c.in-Ok-stand.ensures.runs c.in-Ok-replay_found.ensures.runs

pub returns-then-pending_count-eq0-clause-newest : goal.returns-then-pending_count-eq0-clause-newest
returns-then-pending_count-eq0-clause-newest g c = λ told lasts.
    let rest = c.as_it_stands.ensures in
    subst (λ k. IsNewest (since (g.R.Rack.seen c.args.rack) (g.R.Rack.seen (below_of k))) (g.R.Rack.seen (below_of k)) c.as_it_stands.result.scan.disks.items c.as_it_stands.result.state) (sym rest.slices)
    (subst (λ k. IsNewest (since (g.R.Rack.seen c.args.rack) (g.R.Rack.seen (below_of c.in-Ok-stand.found.slices))) (g.R.Rack.seen (below_of c.in-Ok-stand.found.slices)) k.disks.items c.as_it_stands.result.state) (sym rest.scan)
    (subst (λ s. IsNewest (since (g.R.Rack.seen c.args.rack) (g.R.Rack.seen (below_of c.in-Ok-stand.found.slices))) (g.R.Rack.seen (below_of c.in-Ok-stand.found.slices)) c.in-Ok-stand.found.scan.disks.items s) (sym rest.state)
    (newest_still (g.R.Rack.seen c.args.rack) (g.R.Rack.seen (below_of c.in-Ok-stand.found.slices)) c.in-Ok-stand.found.scan.disks.items c.in-Ok-stand.found.state c.requires.fit c.in-Ok-stand.ensures.only told lasts c.in-Ok-stand.ensures.newest)))

pub returns-then-pending_count-eq0-clause-one : goal.returns-then-pending_count-eq0-clause-one
returns-then-pending_count-eq0-clause-one g c =
    let rest = c.as_it_stands.ensures in
    subst (λ k. IsOnePool k.disks.items c.as_it_stands.result.state) (sym rest.scan)
    (subst (λ s. IsOnePool c.in-Ok-stand.found.scan.disks.items s) (sym rest.state) c.in-Ok-stand.ensures.one)

pub returns-then-pending_count-eq0-clause-single : goal.returns-then-pending_count-eq0-clause-single
returns-then-pending_count-eq0-clause-single g c = λ told lasts free.
    single_now (g.R.Rack.seen c.args.rack) (g.R.Rack.seen (below_of c.as_it_stands.result.slices)) c.as_it_stands.result.scan.disks.items c.as_it_stands.result.state
    (returns-then-pending_count-eq0-clause-newest g c told lasts)
    (told_later (g.R.Rack.seen c.args.rack) (g.R.Rack.seen (below_of c.as_it_stands.result.slices))
    (subst (λ k. SameRack (g.R.Rack.seen c.args.rack) (g.R.Rack.seen (below_of k))) (sym c.as_it_stands.ensures.slices) c.in-Ok-stand.ensures.only.stays) told)
    free (returns-then-pending_count-eq0-clause-one g c)

pub returns-in-Err-clause-refused : goal.returns-in-Err-clause-refused
returns-in-Err-clause-refused g c = inl (c.in-Err.ensures.kept, c.in-Err.ensures.refused)

pub returns-in-Err-clause-exact : goal.returns-in-Err-clause-exact
returns-in-Err-clause-exact g c = λ told lasts free. inl (c.in-Err.ensures.exact told free)

pub returns-in-Err-replay_found-clause-back : goal.returns-in-Err-replay_found-clause-back
returns-in-Err-replay_found-clause-back g c =
    inr (writes_since (g.R.Rack.seen c.args.rack) (g.R.Rack.seen (below_of c.in-Ok-stand.found.slices)) (g.R.Rack.seen c.in-Err-replay_found.back.rack) c.in-Ok-stand.found.scan.disks.items (seated_state c.in-Ok-stand.found.log.pending c.in-Ok-stand.found.state)
    c.in-Ok-stand.ensures.only c.in-Ok-stand.ensures.newest.scan c.in-Err-replay_found.ensures.back)

pub returns-in-Err-replay_found-clause-refused : goal.returns-in-Err-replay_found-clause-refused
returns-in-Err-replay_found-clause-refused g c =
    inr (record {
      writes =
          writes_since (g.R.Rack.seen c.args.rack) (g.R.Rack.seen (below_of c.in-Ok-stand.found.slices)) (g.R.Rack.seen c.in-Err-replay_found.back.rack) c.in-Ok-stand.found.scan.disks.items (seated_state c.in-Ok-stand.found.log.pending c.in-Ok-stand.found.state)
          c.in-Ok-stand.ensures.only c.in-Ok-stand.ensures.newest.scan c.in-Err-replay_found.ensures.back;
      found = c.in-Err-replay_found.ensures.found;
      cause = λ told lasts.
          cause_from (g.R.Rack.seen c.args.rack) (g.R.Rack.seen (below_of c.in-Ok-stand.found.slices)) (g.R.Rack.seen c.in-Err-replay_found.back.rack) c.in-Err-replay_found.back.why
          c.in-Ok-stand.ensures.only.stays
          (c.in-Err-replay_found.ensures.refused
          (told_later (g.R.Rack.seen c.args.rack) (g.R.Rack.seen (below_of c.in-Ok-stand.found.slices)) c.in-Ok-stand.ensures.only.stays told)
          (lasting_later (g.R.Rack.seen c.args.rack) (g.R.Rack.seen (below_of c.in-Ok-stand.found.slices)) c.in-Ok-stand.ensures.only.stays lasts));
    })

pub returns-in-Err-clause-found : goal.returns-in-Err-clause-found
returns-in-Err-clause-found g c = λ told lasts free sound. (c.in-Err.ensures.kept, c.in-Err.ensures.exact told free)

pub returns-in-Err-replay_found-clause-exact : goal.returns-in-Err-replay_found-clause-exact
returns-in-Err-replay_found-clause-exact g c = λ told lasts free.
    let found = c.in-Ok-stand.found in
    let only = c.in-Ok-stand.ensures.only in
    let stays = c.in-Err-replay_found.ensures.back.stays in
    let early = free_before (g.R.Rack.seen c.args.rack) (g.R.Rack.seen (below_of found.slices)) (g.R.Rack.seen c.in-Err-replay_found.back.rack) found.scan.disks.items found.state (tables found.slices) found.log found.looked.pending found.looked.damaged
    only stays c.in-Ok-stand.ensures.newest.scan c.in-Ok-stand.ensures.meant free in
    meant_after (g.R.Rack.seen c.args.rack) (g.R.Rack.seen (below_of found.slices)) (g.R.Rack.seen c.in-Err-replay_found.back.rack) found.state only stays told free (c.in-Ok-stand.ensures.meant told early).stands
    (c.in-Ok-stand.ensures.single told early)
    (since_rests (g.R.Rack.seen c.args.rack) (g.R.Rack.seen (below_of found.slices)) (g.R.Rack.seen c.in-Err-replay_found.back.rack) found.scan.disks.items found.state (tables found.slices) found.log found.looked.pending found.looked.damaged
    only stays c.in-Ok-stand.ensures.newest.scan c.in-Ok-stand.ensures.meant (λ none. c.if-pending_count-eq0.false (c.pending_count.ensures ∙ ap length none)) c.in-Err-replay_found.ensures.wrote told lasts free)
    c.in-Err-replay_found.back.why c.in-Err-replay_found.ensures.found
    (cause_from (g.R.Rack.seen c.args.rack) (g.R.Rack.seen (below_of found.slices)) (g.R.Rack.seen c.in-Err-replay_found.back.rack) c.in-Err-replay_found.back.why only.stays
    (c.in-Err-replay_found.ensures.refused
    (told_later (g.R.Rack.seen c.args.rack) (g.R.Rack.seen (below_of found.slices)) only.stays told)
    (lasting_later (g.R.Rack.seen c.args.rack) (g.R.Rack.seen (below_of found.slices)) only.stays lasts)))

pub returns-in-Err-replay_found-clause-found : goal.returns-in-Err-replay_found-clause-found
returns-in-Err-replay_found-clause-found g c = λ told lasts free sound.
    let found = c.in-Ok-stand.found in
    let only = c.in-Ok-stand.ensures.only in
    let stays = c.in-Err-replay_found.ensures.back.stays in
    let early = free_before (g.R.Rack.seen c.args.rack) (g.R.Rack.seen (below_of found.slices)) (g.R.Rack.seen c.in-Err-replay_found.back.rack) found.scan.disks.items found.state (tables found.slices) found.log found.looked.pending found.looked.damaged
    only stays c.in-Ok-stand.ensures.newest.scan c.in-Ok-stand.ensures.meant free in
    absurd
    (no_cause (g.R.Rack.seen c.args.rack) (g.R.Rack.seen (below_of found.slices)) (g.R.Rack.seen c.in-Err-replay_found.back.rack) found.scan.disks.items found.state found.log found.looked.pending found.looked.damaged (tables found.slices)
    only stays c.in-Ok-stand.ensures.newest.scan (λ none. c.if-pending_count-eq0.false (c.pending_count.ensures ∙ ap length none)) told lasts early (c.in-Ok-stand.ensures.meant told early)
    (since_rests (g.R.Rack.seen c.args.rack) (g.R.Rack.seen (below_of found.slices)) (g.R.Rack.seen c.in-Err-replay_found.back.rack) found.scan.disks.items found.state (tables found.slices) found.log found.looked.pending found.looked.damaged
    only stays c.in-Ok-stand.ensures.newest.scan c.in-Ok-stand.ensures.meant (λ none. c.if-pending_count-eq0.false (c.pending_count.ensures ∙ ap length none)) c.in-Err-replay_found.ensures.wrote told lasts free)
    sound c.in-Err-replay_found.back.why (c.in-Ok-stand.ensures.single told early) free c.in-Err-replay_found.ensures.found
    (cause_from (g.R.Rack.seen c.args.rack) (g.R.Rack.seen (below_of found.slices)) (g.R.Rack.seen c.in-Err-replay_found.back.rack) c.in-Err-replay_found.back.why only.stays
    (c.in-Err-replay_found.ensures.refused
    (told_later (g.R.Rack.seen c.args.rack) (g.R.Rack.seen (below_of found.slices)) only.stays told)
    (lasting_later (g.R.Rack.seen c.args.rack) (g.R.Rack.seen (below_of found.slices)) only.stays lasts))))

pub returns-in-Err-replay_found-clause-returned : goal.returns-in-Err-replay_found-clause-returned
returns-in-Err-replay_found-clause-returned g c = g.met.R.Rack.runs_then _ _ _ c.in-Ok-stand.ensures.runs c.in-Err-replay_found.ensures.returned

pub returns-then-pending_count-eq0-clause-looked : goal.returns-then-pending_count-eq0-clause-looked
returns-then-pending_count-eq0-clause-looked g c = λ told lasts free.
    let rest = c.as_it_stands.ensures in
    let found = c.in-Ok-stand.found in
    let still = subst (λ k. IsUnfaulted (g.R.Rack.seen c.args.rack) (g.R.Rack.seen (below_of k))) rest.slices free in
    subst (λ k. FindsAll (g.R.Rack.seen (below_of k)) (tables k) c.as_it_stands.result.on.items c.as_it_stands.result.log c.as_it_stands.result.pending c.as_it_stands.result.damaged) (sym rest.slices)
    (subst (λ d. FindsAll (g.R.Rack.seen (below_of c.in-Ok-stand.found.slices)) (tables c.in-Ok-stand.found.slices) c.as_it_stands.result.on.items c.as_it_stands.result.log c.as_it_stands.result.pending d) (sym rest.damaged)
    (subst (λ p. FindsAll (g.R.Rack.seen (below_of c.in-Ok-stand.found.slices)) (tables c.in-Ok-stand.found.slices) c.as_it_stands.result.on.items c.as_it_stands.result.log p c.in-Ok-stand.found.looked.damaged) (sym rest.pending)
    (subst (λ m. FindsAll (g.R.Rack.seen (below_of c.in-Ok-stand.found.slices)) (tables c.in-Ok-stand.found.slices) c.as_it_stands.result.on.items m c.in-Ok-stand.found.looked.pending c.in-Ok-stand.found.looked.damaged) (sym rest.log)
    (subst (λ o. FindsAll (g.R.Rack.seen (below_of c.in-Ok-stand.found.slices)) (tables c.in-Ok-stand.found.slices) o.items c.in-Ok-stand.found.log c.in-Ok-stand.found.looked.pending c.in-Ok-stand.found.looked.damaged) (sym rest.on)
    (found_still (g.R.Rack.seen c.args.rack) (g.R.Rack.seen (below_of c.in-Ok-stand.found.slices)) (tables found.slices) found.on.items found.looked.gone.items found.log found.looked.pending found.looked.damaged
    c.in-Ok-stand.found.slices.orderly c.in-Ok-stand.ensures.fit c.in-Ok-stand.ensures.only c.in-Ok-stand.ensures.looked told lasts still)))))

pub returns-in-Ok-replay_found-clause-looked : goal.returns-in-Ok-replay_found-clause-looked
returns-in-Ok-replay_found-clause-looked g c = λ told lasts free.
    let found = c.in-Ok-stand.found in
    let only = c.in-Ok-stand.ensures.only in
    let later = free_after (g.R.Rack.seen c.args.rack) (g.R.Rack.seen (below_of found.slices)) (g.R.Rack.seen (below_of c.in-Ok-replay_found.rest.slices)) found.scan.disks.items found.state (tables found.slices) found.log found.looked.pending found.looked.damaged
    only c.in-Ok-replay_found.ensures.only.stays c.in-Ok-stand.ensures.newest.scan c.in-Ok-stand.ensures.meant free in
    c.in-Ok-replay_found.ensures.looked
    (told_later (g.R.Rack.seen c.args.rack) (g.R.Rack.seen (below_of found.slices)) only.stays told)
    (lasting_later (g.R.Rack.seen c.args.rack) (g.R.Rack.seen (below_of found.slices)) only.stays lasts) later

pub returns-then-pending_count-eq0-clause-steady : goal.returns-then-pending_count-eq0-clause-steady
returns-then-pending_count-eq0-clause-steady g c = λ told lasts free single sized.
    let stays = subst (λ k. SameRack (g.R.Rack.seen c.args.rack) (g.R.Rack.seen (below_of k))) (sym c.as_it_stands.ensures.slices) c.in-Ok-stand.ensures.only.stays in
    steady_after (g.R.Rack.seen c.args.rack) (g.R.Rack.seen (below_of c.as_it_stands.result.slices)) stays.disks stays.sectors
    (returns-then-pending_count-eq0-clause-rests g c told lasts free) single sized

pub returns-in-Ok-replay_found-clause-steady : goal.returns-in-Ok-replay_found-clause-steady
returns-in-Ok-replay_found-clause-steady g c = λ told lasts free single sized.
    let stays = stays_then c.in-Ok-stand.ensures.only.stays c.in-Ok-replay_found.ensures.only.stays in
    steady_after (g.R.Rack.seen c.args.rack) (g.R.Rack.seen (below_of c.in-Ok-replay_found.rest.slices)) stays.disks stays.sectors
    (returns-in-Ok-replay_found-clause-rests g c told lasts free) single sized

pub returns-then-pending_count-eq0-clause-idle : goal.returns-then-pending_count-eq0-clause-idle
returns-then-pending_count-eq0-clause-idle g c = λ told lasts free idle.
    subst (λ k. OnlyReads (g.R.Rack.seen c.args.rack) (g.R.Rack.seen (below_of k))) (sym c.as_it_stands.ensures.slices) c.in-Ok-stand.ensures.only

pub returns-in-Ok-replay_found-clause-idle : goal.returns-in-Ok-replay_found-clause-idle
returns-in-Ok-replay_found-clause-idle g c = λ told lasts free idle.
    let found = c.in-Ok-stand.found in
    let early = free_before (g.R.Rack.seen c.args.rack) (g.R.Rack.seen (below_of found.slices)) (g.R.Rack.seen (below_of c.in-Ok-replay_found.rest.slices)) found.scan.disks.items found.state (tables found.slices) found.log found.looked.pending found.looked.damaged
    c.in-Ok-stand.ensures.only c.in-Ok-replay_found.ensures.only.stays c.in-Ok-stand.ensures.newest.scan c.in-Ok-stand.ensures.meant free in
    absurd (c.if-pending_count-eq0.false (c.pending_count.ensures ∙ ap length
    (not_idle (g.R.Rack.seen c.args.rack) found.state (tables found.slices) found.log found.looked.pending found.looked.damaged (c.in-Ok-stand.ensures.meant told early) lasts idle)))

pub returns-in-Err-clause-kept : goal.returns-in-Err-clause-kept
returns-in-Err-clause-kept g c = λ told lasts free idle. c.in-Err.ensures.kept

pub returns-in-Err-replay_found-clause-kept : goal.returns-in-Err-replay_found-clause-kept
returns-in-Err-replay_found-clause-kept g c = λ told lasts free idle.
    let found = c.in-Ok-stand.found in
    let early = free_before (g.R.Rack.seen c.args.rack) (g.R.Rack.seen (below_of found.slices)) (g.R.Rack.seen c.in-Err-replay_found.back.rack) found.scan.disks.items found.state (tables found.slices) found.log found.looked.pending found.looked.damaged
    c.in-Ok-stand.ensures.only c.in-Err-replay_found.ensures.back.stays c.in-Ok-stand.ensures.newest.scan c.in-Ok-stand.ensures.meant free in
    absurd (c.if-pending_count-eq0.false (c.pending_count.ensures ∙ ap length
    (not_idle (g.R.Rack.seen c.args.rack) found.state (tables found.slices) found.log found.looked.pending found.looked.damaged (c.in-Ok-stand.ensures.meant told early) lasts idle)))

pub returns-then-pending_count-eq0-clause-gone : goal.returns-then-pending_count-eq0-clause-gone
returns-then-pending_count-eq0-clause-gone g c = λ p d named seat.
    let rest = c.as_it_stands.ensures in
    let found = c.in-Ok-stand.found in
    let stand = c.in-Ok-stand.ensures in
    let seat_now : seat_by found.state found.scan.disks.items p ≡ Some d =
    ap (λ s. seat_by s found.scan.disks.items p) (sym rest.state) ∙ ap (λ k. seat_by c.as_it_stands.result.state k.disks.items p) (sym rest.scan) ∙ seat in
    subst (λ k. Rose ((g.R.Rack.seen c.args.rack).faults d) ((g.R.Rack.seen (below_of k)).faults d)) (sym rest.slices)
    (stands_rose (g.R.Rack.seen c.args.rack) (g.R.Rack.seen (below_of found.slices)) found.scan.disks.items found.state (tables found.slices) found.on.items found.looked.gone.items found.log found.looked.pending found.looked.damaged
    stand.newest.scan stand.laid stand.looked d
    (elim (rest.gone p d named seat_now) [ inl looked ↦ inr (p, looked, seat_now) | inr flagged ↦ inl flagged ]))

pub returns-in-Ok-replay_found-clause-gone : goal.returns-in-Ok-replay_found-clause-gone
returns-in-Ok-replay_found-clause-gone g c = λ p d named seat.
    let found = c.in-Ok-stand.found in
    let stand = c.in-Ok-stand.ensures in
    elim (c.in-Ok-replay_found.ensures.gone p d named seat) [
      | inl rose ↦ rose_later (g.R.Rack.seen c.args.rack) (g.R.Rack.seen (below_of found.slices)) (g.R.Rack.seen (below_of c.in-Ok-replay_found.rest.slices)) d stand.only.stays rose
      | inr known ↦
          rose_early (g.R.Rack.seen c.args.rack) (g.R.Rack.seen (below_of found.slices)) (g.R.Rack.seen (below_of c.in-Ok-replay_found.rest.slices)) d c.in-Ok-replay_found.ensures.only.stays
          (stands_rose (g.R.Rack.seen c.args.rack) (g.R.Rack.seen (below_of found.slices)) found.scan.disks.items found.state (tables found.slices) found.on.items found.looked.gone.items found.log found.looked.pending found.looked.damaged
          stand.newest.scan stand.laid stand.looked d known)
    ]

pub returns-in-Ok-replay_found-clause-keeps : goal.returns-in-Ok-replay_found-clause-keeps
returns-in-Ok-replay_found-clause-keeps g c = λ told lasts free sound brings single u of is.
    let seen = g.R.Rack.seen in
    let a = seen c.args.rack in
    let rest = c.in-Ok-replay_found.rest in
    let found = c.in-Ok-stand.found in
    let x = seen (below_of found.slices) in
    let b = seen (below_of rest.slices) in
    let only = c.in-Ok-stand.ensures.only in
    let stays = c.in-Ok-replay_found.ensures.only.stays in
    let early = free_before a x b found.scan.disks.items found.state (tables found.slices) found.log found.looked.pending found.looked.damaged
    only stays c.in-Ok-stand.ensures.newest.scan c.in-Ok-stand.ensures.meant free in
    let later = free_after a x b found.scan.disks.items found.state (tables found.slices) found.log found.looked.pending found.looked.damaged
    only stays c.in-Ok-stand.ensures.newest.scan c.in-Ok-stand.ensures.meant free in
    let stands = c.in-Ok-stand.ensures.meant told early in
    let settled = returns-in-Ok-replay_found-clause-settled g c told lasts free sound in
    let newest = returns-in-Ok-replay_found-clause-newest g c told lasts in
    rest_keeps a x b found.scan.disks.items found.state found.log found.looked.pending found.looked.damaged (tables found.slices)
    only stays c.in-Ok-stand.ensures.newest.scan (λ none. c.if-pending_count-eq0.false (c.pending_count.ensures ∙ ap length none)) told lasts early stands
    (since_rests a x b found.scan.disks.items found.state (tables found.slices) found.log found.looked.pending found.looked.damaged
    only stays c.in-Ok-stand.ensures.newest.scan c.in-Ok-stand.ensures.meant (λ none. c.if-pending_count-eq0.false (c.pending_count.ensures ∙ ap length none)) c.in-Ok-replay_found.ensures.replayed told lasts free)
    sound single rest.state rest.scan.disks.items
    (scan_meant (since a b) b rest.scan.disks.items newest.scan (told_later a b (stays_then only.stays stays) told) free)
    (settled.state _ stands.stands)
    found.on.items found.looked.gone.items found.slices.orderly c.in-Ok-stand.ensures.fit c.in-Ok-stand.ensures.laid c.in-Ok-stand.ensures.looked brings
    (c.in-Ok-replay_found.ensures.brought (told_later a x only.stays told) (lasting_later a x only.stays lasts) later (single_later a x only told lasts single))
    u of is

pub returns-in-Ok-replay_found-clause-brought : goal.returns-in-Ok-replay_found-clause-brought
returns-in-Ok-replay_found-clause-brought g c = λ told lasts free sound brings single u of is.
    let seen = g.R.Rack.seen in
    let a = seen c.args.rack in
    let rest = c.in-Ok-replay_found.rest in
    let found = c.in-Ok-stand.found in
    let x = seen (below_of found.slices) in
    let b = seen (below_of rest.slices) in
    let only = c.in-Ok-stand.ensures.only in
    let stays = c.in-Ok-replay_found.ensures.only.stays in
    let early = free_before a x b found.scan.disks.items found.state (tables found.slices) found.log found.looked.pending found.looked.damaged
    only stays c.in-Ok-stand.ensures.newest.scan c.in-Ok-stand.ensures.meant free in
    let later = free_after a x b found.scan.disks.items found.state (tables found.slices) found.log found.looked.pending found.looked.damaged
    only stays c.in-Ok-stand.ensures.newest.scan c.in-Ok-stand.ensures.meant free in
    let stands = c.in-Ok-stand.ensures.meant told early in
    let settled = returns-in-Ok-replay_found-clause-settled g c told lasts free sound in
    let newest = returns-in-Ok-replay_found-clause-newest g c told lasts in
    rest_brought a x b found.scan.disks.items found.state found.log found.looked.pending found.looked.damaged (tables found.slices)
    only stays c.in-Ok-stand.ensures.newest.scan (λ none. c.if-pending_count-eq0.false (c.pending_count.ensures ∙ ap length none)) told lasts early stands
    (since_rests a x b found.scan.disks.items found.state (tables found.slices) found.log found.looked.pending found.looked.damaged
    only stays c.in-Ok-stand.ensures.newest.scan c.in-Ok-stand.ensures.meant (λ none. c.if-pending_count-eq0.false (c.pending_count.ensures ∙ ap length none)) c.in-Ok-replay_found.ensures.replayed told lasts free)
    sound single rest.state rest.scan.disks.items
    (scan_meant (since a b) b rest.scan.disks.items newest.scan (told_later a b (stays_then only.stays stays) told) free)
    (settled.state _ stands.stands)
    found.on.items found.looked.gone.items found.slices.orderly c.in-Ok-stand.ensures.fit c.in-Ok-stand.ensures.laid c.in-Ok-stand.ensures.looked brings
    (c.in-Ok-replay_found.ensures.brought (told_later a x only.stays told) (lasting_later a x only.stays lasts) later (single_later a x only told lasts single))
    u of (is _ stands.stands)

pub returns-then-pending_count-eq0-clause-keeps : goal.returns-then-pending_count-eq0-clause-keeps
returns-then-pending_count-eq0-clause-keeps g c = λ told lasts free sound brings single u of is.
    let seen = g.R.Rack.seen in
    let same = c.as_it_stands.ensures.slices in
    keeps_read (seen c.args.rack) (seen (below_of c.as_it_stands.result.slices))
    (subst (λ k. OnlyReads (seen c.args.rack) (seen (below_of k))) (sym same) c.in-Ok-stand.ensures.only) told lasts u single of.orderly of.inside

pub returns-then-pending_count-eq0-clause-brought : goal.returns-then-pending_count-eq0-clause-brought
returns-then-pending_count-eq0-clause-brought g c = λ told lasts free sound brings single u of is.
    let seen = g.R.Rack.seen in
    let same = c.as_it_stands.ensures.slices in
    keeps_read (seen c.args.rack) (seen (below_of c.as_it_stands.result.slices))
    (subst (λ k. OnlyReads (seen c.args.rack) (seen (below_of k))) (sym same) c.in-Ok-stand.ensures.only) told lasts u single of.orderly of.inside

pub returns-in-Ok-replay_found-clause-midway : goal.returns-in-Ok-replay_found-clause-midway
returns-in-Ok-replay_found-clause-midway g c = λ told lasts free sound brings single u of is traced.
    let seen = g.R.Rack.seen in
    let a = seen c.args.rack in
    let rest = c.in-Ok-replay_found.rest in
    let found = c.in-Ok-stand.found in
    let x = seen (below_of found.slices) in
    let b = seen (below_of rest.slices) in
    let only = c.in-Ok-stand.ensures.only in
    let stays = c.in-Ok-replay_found.ensures.only.stays in
    let early = free_before a x b found.scan.disks.items found.state (tables found.slices) found.log found.looked.pending found.looked.damaged
    only stays c.in-Ok-stand.ensures.newest.scan c.in-Ok-stand.ensures.meant free in
    let later = free_after a x b found.scan.disks.items found.state (tables found.slices) found.log found.looked.pending found.looked.damaged
    only stays c.in-Ok-stand.ensures.newest.scan c.in-Ok-stand.ensures.meant free in
    let stands = c.in-Ok-stand.ensures.meant told early in
    let settled = returns-in-Ok-replay_found-clause-settled g c told lasts free sound in
    let newest = returns-in-Ok-replay_found-clause-newest g c told lasts in
    rest_stands a x b found.scan.disks.items found.state found.log found.looked.pending found.looked.damaged (tables found.slices)
    only stays c.in-Ok-stand.ensures.newest.scan (λ none. c.if-pending_count-eq0.false (c.pending_count.ensures ∙ ap length none)) told lasts early stands
    (since_rests a x b found.scan.disks.items found.state (tables found.slices) found.log found.looked.pending found.looked.damaged
    only stays c.in-Ok-stand.ensures.newest.scan c.in-Ok-stand.ensures.meant (λ none. c.if-pending_count-eq0.false (c.pending_count.ensures ∙ ap length none)) c.in-Ok-replay_found.ensures.replayed told lasts free)
    sound single rest.state rest.scan.disks.items
    (scan_meant (since a b) b rest.scan.disks.items newest.scan (told_later a b (stays_then only.stays stays) told) free)
    (settled.state _ stands.stands)
    found.on.items found.looked.gone.items found.slices.orderly c.in-Ok-stand.ensures.fit c.in-Ok-stand.ensures.laid c.in-Ok-stand.ensures.looked brings
    (c.in-Ok-replay_found.ensures.midway (told_later a x only.stays told) (lasting_later a x only.stays lasts) later (single_later a x only told lasts single))
    u of (is _ stands.stands) traced

pub returns-then-pending_count-eq0-clause-midway : goal.returns-then-pending_count-eq0-clause-midway
returns-then-pending_count-eq0-clause-midway g c = λ told lasts free sound brings single u of is traced.
    let seen = g.R.Rack.seen in
    let a = seen c.args.rack in
    let b = seen (below_of c.as_it_stands.result.slices) in
    let reads : OnlyReads a b = subst (λ k. OnlyReads a (seen (below_of k))) (sym c.as_it_stands.ensures.slices) c.in-Ok-stand.ensures.only in
    leaves_weaker (IsPick a b a.held) (λ i. StandsMidway (disks_of a) (now_in a) i ⊎ Agree (disks_of a) i (now_in b))
    (λ i pick. inr (reads_stop a b reads told lasts single i pick)) (reads.keeps.stops traced)

pub returns-then-pending_count-eq0-clause-unread : goal.returns-then-pending_count-eq0-clause-unread
returns-then-pending_count-eq0-clause-unread g c = λ p d low seat flagged.
    let rest = c.as_it_stands.ensures in
    let found = c.in-Ok-stand.found in
    let seat_now : seat_by found.state found.scan.disks.items p ≡ Some d =
    ap (λ s. seat_by s found.scan.disks.items p) (sym rest.state) ∙ ap (λ k. seat_by c.as_it_stands.result.state k.disks.items p) (sym rest.scan) ∙ seat in
    rest.unread p d low seat_now (subst (λ k. IsFlagged k.disks.items d) rest.scan flagged)

pub returns-then-pending_count-eq0-clause-finds : goal.returns-then-pending_count-eq0-clause-finds
returns-then-pending_count-eq0-clause-finds g c =
    let seen = g.R.Rack.seen in
    let rest = c.as_it_stands.ensures in
    let now = c.as_it_stands.result in
    let found = c.in-Ok-stand.found in
    let stand = c.in-Ok-stand.ensures in
    let a = seen c.args.rack in
    let b = seen (below_of found.slices) in
    subst (λ k. FindsLeft a (seen (below_of k)) now.scan.disks.items now.state (tables k) now.on.items now.log now.pending now.damaged) (sym rest.slices)
    (subst (λ e. FindsLeft a b now.scan.disks.items now.state (tables found.slices) now.on.items now.log now.pending e) (sym rest.damaged)
    (subst (λ p. FindsLeft a b now.scan.disks.items now.state (tables found.slices) now.on.items now.log p found.looked.damaged) (sym rest.pending)
    (subst (λ m. FindsLeft a b now.scan.disks.items now.state (tables found.slices) now.on.items m found.looked.pending found.looked.damaged) (sym rest.log)
    (subst (λ o. FindsLeft a b now.scan.disks.items now.state (tables found.slices) o.items found.log found.looked.pending found.looked.damaged) (sym rest.on)
    (subst (λ s. FindsLeft a b now.scan.disks.items s (tables found.slices) found.on.items found.log found.looked.pending found.looked.damaged) (sym rest.state)
    (subst (λ k. FindsLeft a b k.disks.items found.state (tables found.slices) found.on.items found.log found.looked.pending found.looked.damaged) (sym rest.scan)
    (found_left a b found.scan.disks.items found.state (tables found.slices) found.on.items found.looked.gone.items found.log found.looked.pending found.looked.damaged
    found.slices.orderly stand.fit stand.only stand.laid stand.looked)))))))

pub returns-in-Ok-replay_found-clause-finds : goal.returns-in-Ok-replay_found-clause-finds
returns-in-Ok-replay_found-clause-finds g c =
    let seen = g.R.Rack.seen in
    let rest = c.in-Ok-replay_found.rest in
    left_since (seen c.args.rack) (seen (below_of c.in-Ok-stand.found.slices)) (seen (below_of rest.slices)) rest.scan.disks.items rest.state (tables rest.slices) rest.on.items rest.log rest.pending rest.damaged
    c.in-Ok-stand.ensures.only.stays c.in-Ok-replay_found.ensures.finds
