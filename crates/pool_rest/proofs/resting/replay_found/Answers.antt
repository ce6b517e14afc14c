use Rattle.pool_image.specs.Disks.{disks_of, identities_of}
use Rattle.std.specs.List.{list_all}
use Rattle.array_image.specs.Record.{is_target}
use Rattle.pool_scan.specs.Scanning.{AllTold, IsUnfaulted, now_in}
use Rattle.pool_scan.specs.Choosing.{AreOf, seat_by}
use Rattle.log_laws.specs.View.{names}
use Rattle.std.proofs.Common.{◌≡◌, ◌⊎◌, ◌||◌, Some, true, sym, ap, subst, ◌∙◌, inl, inr}
use Rattle.rack.specs.Seen.{Rose, SameRack}
use Rattle.rack.specs.Sequences.{WritesOnly}
use Rattle.slice_rack.specs.SliceRack.{tables, below_of}
use Rattle.pool_rest.specs.Resting.{IsOfDrive, IsReplayed, AreShut, IsFlagged, HasDisk, StandsNow, seated_state}
use Rattle.pool_rest.specs.Standing.{IsLaid, IsLasting, IsNewest, IsOnePool, FindsAll, FindsLeft, since}
use Rattle.pool_rest.proofs.Agreeing.{told_later, lasting_later}
use Rattle.pool_rest.proofs.Again.{replay_only, again_only, again_replayed, again_stands, again_finds, again_shut, laid_later, newest_since, cause_since}
use Rattle.pool_rest.proofs.GonePlaces.{stands_rose, again_rose, found_left, left_since}
use Rattle.pool_rest.proofs.Listed.{or_true}
use Rattle.pool_image.specs.Alike.{Agree}
use Rattle.pool_rest.specs.Moments.{StandsReplaying}
use Rattle.pool_rest.proofs.Keeping.{KeepsBrought, again_brought}
use Rattle.pool_rest.proofs.Meanwhile.{StandsFound, again_stands as again_midway}
use Rattle.pool_rest.proofs.resting.replay_found.Goals as goal

pub returns-in-Err-clause-back : goal.returns-in-Err-clause-back
returns-in-Err-clause-back g c =
    again_only g.R.Rack.seen (below_of c.args.found.slices) c.into_inner.result c.replay_on-done.result.rack c.in-Err.back.rack c.into_inner.ensures c.args.found.scan.disks.items c.args.found.state
    c.seated_by-seated.result (seated_state c.args.found.log.pending c.args.found.state) c.seated_by-seated.ensures c.replay_on-done.ensures.only c.in-Err.ensures.kept

pub returns-in-Err-clause-returned : goal.returns-in-Err-clause-returned
returns-in-Err-clause-returned g c =
    g.met.R.Rack.runs_then _ _ _ (subst (λ r. g.R.Rack.runs r c.replay_on-done.result.rack) c.into_inner.ensures c.replay_on-done.ensures.runs) c.in-Err.ensures.returned

pub returns-clause-only : goal.returns-clause-only
returns-clause-only g c =
    subst (λ k. WritesOnly (g.R.Rack.seen (below_of c.args.found.slices)) (g.R.Rack.seen (below_of k))
    (IsOfDrive (g.R.Rack.seen (below_of c.args.found.slices)) c.args.found.scan.disks.items (seated_state c.args.found.log.pending c.args.found.state)))
    (sym c.as_it_stands-rest.ensures.slices)
    (again_only g.R.Rack.seen (below_of c.args.found.slices) c.into_inner.result c.replay_on-done.result.rack (below_of c.in-Ok.again.slices) c.into_inner.ensures c.args.found.scan.disks.items c.args.found.state
    c.seated_by-seated.result (seated_state c.args.found.log.pending c.args.found.state) c.seated_by-seated.ensures c.replay_on-done.ensures.only c.in-Ok.ensures.only)

pub returns-clause-replayed : goal.returns-clause-replayed
returns-clause-replayed g c =
    subst (λ k. AllTold (g.R.Rack.seen (below_of c.args.found.slices)) → IsLasting (g.R.Rack.seen (below_of c.args.found.slices))
    → IsUnfaulted (g.R.Rack.seen (below_of c.args.found.slices)) (g.R.Rack.seen (below_of k))
    → AreOf (disks_of (g.R.Rack.seen (below_of c.args.found.slices))) (identities_of (disks_of (g.R.Rack.seen (below_of c.args.found.slices))) (now_in (g.R.Rack.seen (below_of c.args.found.slices)))) c.args.found.scan.disks.items
    → list_all is_target c.args.found.log.pending ≡ true
    → IsReplayed (g.R.Rack.seen (below_of c.args.found.slices)) (g.R.Rack.seen (below_of k)) c.args.found.state (seated_state c.args.found.log.pending c.args.found.state) c.args.found.log.pending c.args.found.log.number)
    (sym c.as_it_stands-rest.ensures.slices)
    (again_replayed g.R.Rack.seen (below_of c.args.found.slices) c.into_inner.result c.replay_on-done.result.rack (below_of c.in-Ok.again.slices) c.into_inner.ensures c.args.found.scan.disks.items c.args.found.state
    c.seated_by-seated.result (seated_state c.args.found.log.pending c.args.found.state) c.seated_by-seated.ensures c.replay_on-done.ensures.only c.in-Ok.ensures.only c.args.found.log.pending c.args.found.log.number c.replay_on-done.ensures.replayed)

pub returns-clause-stands : goal.returns-clause-stands
returns-clause-stands g c =
    let rest = c.as_it_stands-rest.ensures in
    subst (λ k. AllTold (g.R.Rack.seen (below_of c.args.found.slices)) → IsLasting (g.R.Rack.seen (below_of c.args.found.slices))
    → IsUnfaulted (g.R.Rack.seen (below_of c.args.found.slices)) (g.R.Rack.seen (below_of k))
    → StandsNow (g.R.Rack.seen (below_of k)) c.as_it_stands-rest.result.state c.as_it_stands-rest.result.log c.as_it_stands-rest.result.pending c.as_it_stands-rest.result.damaged)
    (sym rest.slices)
    (λ told lasts free.
    subst (λ d. StandsNow (g.R.Rack.seen (below_of c.in-Ok.again.slices)) c.as_it_stands-rest.result.state c.as_it_stands-rest.result.log c.as_it_stands-rest.result.pending d) (sym rest.damaged)
    (subst (λ p. StandsNow (g.R.Rack.seen (below_of c.in-Ok.again.slices)) c.as_it_stands-rest.result.state c.as_it_stands-rest.result.log p c.in-Ok.again.looked.damaged) (sym rest.pending)
    (subst (λ m. StandsNow (g.R.Rack.seen (below_of c.in-Ok.again.slices)) c.as_it_stands-rest.result.state m c.in-Ok.again.looked.pending c.in-Ok.again.looked.damaged) (sym rest.log)
    (subst (λ s. StandsNow (g.R.Rack.seen (below_of c.in-Ok.again.slices)) s c.in-Ok.again.log c.in-Ok.again.looked.pending c.in-Ok.again.looked.damaged) (sym rest.state)
    (again_stands g.R.Rack.seen (below_of c.args.found.slices) c.into_inner.result c.replay_on-done.result.rack (below_of c.in-Ok.again.slices) c.into_inner.ensures c.args.found.scan.disks.items c.args.found.state
    c.seated_by-seated.result (seated_state c.args.found.log.pending c.args.found.state) c.seated_by-seated.ensures c.replay_on-done.ensures.only c.in-Ok.ensures.only (tables c.in-Ok.again.slices) c.in-Ok.again.state c.in-Ok.again.log c.in-Ok.again.looked.pending c.in-Ok.again.looked.damaged c.in-Ok.ensures.meant told lasts free)))))

pub returns-clause-laid : goal.returns-clause-laid
returns-clause-laid g c =
    let rest = c.as_it_stands-rest.ensures in
    subst (λ k. IsLaid (g.R.Rack.seen (below_of k)) c.as_it_stands-rest.result.scan.disks.items c.as_it_stands-rest.result.state (tables k) c.as_it_stands-rest.result.on.items) (sym rest.slices)
    (subst (λ o. IsLaid (g.R.Rack.seen (below_of c.in-Ok.again.slices)) c.as_it_stands-rest.result.scan.disks.items c.as_it_stands-rest.result.state (tables c.in-Ok.again.slices) o.items) (sym rest.on)
    (subst (λ s. IsLaid (g.R.Rack.seen (below_of c.in-Ok.again.slices)) c.as_it_stands-rest.result.scan.disks.items s (tables c.in-Ok.again.slices) c.in-Ok.again.on.items) (sym rest.state)
    (subst (λ k. IsLaid (g.R.Rack.seen (below_of c.in-Ok.again.slices)) k.disks.items c.in-Ok.again.state (tables c.in-Ok.again.slices) c.in-Ok.again.on.items) (sym rest.scan)
    (laid_later _ _ _ _ _ _ c.in-Ok.ensures.only.stays c.in-Ok.ensures.laid))))

pub returns-clause-runs : goal.returns-clause-runs
returns-clause-runs g c =
    subst (λ k. g.R.Rack.runs (below_of c.args.found.slices) (below_of k)) (sym c.as_it_stands-rest.ensures.slices)
    (g.met.R.Rack.runs_then _ _ _ (subst (λ r. g.R.Rack.runs r c.replay_on-done.result.rack) c.into_inner.ensures c.replay_on-done.ensures.runs) c.in-Ok.ensures.runs)

pub returns-clause-newest : goal.returns-clause-newest
returns-clause-newest g c = λ told lasts.
    let rest = c.as_it_stands-rest.ensures in
    let only = replay_only g.R.Rack.seen (below_of c.args.found.slices) c.into_inner.result c.replay_on-done.result.rack (below_of c.in-Ok.again.slices) c.into_inner.ensures c.args.found.scan.disks.items c.args.found.state
    c.seated_by-seated.result (seated_state c.args.found.log.pending c.args.found.state) c.seated_by-seated.ensures c.replay_on-done.ensures.only c.in-Ok.ensures.only in
    subst (λ k. IsNewest (since (g.R.Rack.seen (below_of c.args.found.slices)) (g.R.Rack.seen (below_of k))) (g.R.Rack.seen (below_of k)) c.as_it_stands-rest.result.scan.disks.items c.as_it_stands-rest.result.state) (sym rest.slices)
    (subst (λ k. IsNewest (since (g.R.Rack.seen (below_of c.args.found.slices)) (g.R.Rack.seen (below_of c.in-Ok.again.slices))) (g.R.Rack.seen (below_of c.in-Ok.again.slices)) k.disks.items c.as_it_stands-rest.result.state) (sym rest.scan)
    (subst (λ s. IsNewest (since (g.R.Rack.seen (below_of c.args.found.slices)) (g.R.Rack.seen (below_of c.in-Ok.again.slices))) (g.R.Rack.seen (below_of c.in-Ok.again.slices)) c.in-Ok.again.scan.disks.items s) (sym rest.state)
    (newest_since (g.R.Rack.seen (below_of c.args.found.slices)) (g.R.Rack.seen c.replay_on-done.result.rack) (g.R.Rack.seen (below_of c.in-Ok.again.slices)) c.in-Ok.again.scan.disks.items
    only.stays c.in-Ok.ensures.only (told_later (g.R.Rack.seen (below_of c.args.found.slices)) (g.R.Rack.seen c.replay_on-done.result.rack) only.stays told) (lasting_later (g.R.Rack.seen (below_of c.args.found.slices)) (g.R.Rack.seen c.replay_on-done.result.rack) only.stays lasts)
    c.in-Ok.again.state c.in-Ok.ensures.newest)))

pub returns-clause-one : goal.returns-clause-one
returns-clause-one g c =
    let rest = c.as_it_stands-rest.ensures in
    subst (λ k. IsOnePool k.disks.items c.as_it_stands-rest.result.state) (sym rest.scan)
    (subst (λ s. IsOnePool c.in-Ok.again.scan.disks.items s) (sym rest.state) c.in-Ok.ensures.one)

pub returns-in-Err-clause-refused : goal.returns-in-Err-clause-refused
returns-in-Err-clause-refused g c = λ told lasts.
    let only = replay_only g.R.Rack.seen (below_of c.args.found.slices) c.into_inner.result c.replay_on-done.result.rack c.in-Err.back.rack c.into_inner.ensures c.args.found.scan.disks.items c.args.found.state
    c.seated_by-seated.result (seated_state c.args.found.log.pending c.args.found.state) c.seated_by-seated.ensures c.replay_on-done.ensures.only c.in-Err.ensures.kept in
    cause_since (g.R.Rack.seen (below_of c.args.found.slices)) (g.R.Rack.seen c.replay_on-done.result.rack) (g.R.Rack.seen c.in-Err.back.rack) c.in-Err.back.why
    only.stays c.in-Err.ensures.kept (told_later (g.R.Rack.seen (below_of c.args.found.slices)) (g.R.Rack.seen c.replay_on-done.result.rack) only.stays told) (lasting_later (g.R.Rack.seen (below_of c.args.found.slices)) (g.R.Rack.seen c.replay_on-done.result.rack) only.stays lasts)
    c.in-Err.ensures.refused

pub returns-clause-shut : goal.returns-clause-shut
returns-clause-shut g c = λ there nobody told lasts free some.
    let whole = c.is_whole-whole.ensures there nobody in
    let same = c.as_it_stands-rest.ensures.slices in
    subst (λ k. AreShut (g.R.Rack.seen (below_of c.args.found.slices)) (g.R.Rack.seen (below_of k)) c.args.found.scan.disks.items c.args.found.state (seated_state c.args.found.log.pending c.args.found.state) c.args.found.log.number)
    (sym same)
    (again_shut g.R.Rack.seen (below_of c.args.found.slices) c.into_inner.result c.replay_on-done.result.rack (below_of c.in-Ok.again.slices) c.into_inner.ensures c.args.found.scan.disks.items c.args.found.state
    c.seated_by-seated.result (seated_state c.args.found.log.pending c.args.found.state) c.seated_by-seated.ensures c.replay_on-done.ensures.only c.in-Ok.ensures.only
    c.args.found.log.number c.requires.count (λ told lasts free. c.replay_on-done.ensures.shut whole told lasts free some) told lasts
    (subst (λ k. IsUnfaulted (g.R.Rack.seen (below_of c.args.found.slices)) (g.R.Rack.seen (below_of k))) same free))

pub returns-in-Err-clause-wrote : goal.returns-in-Err-clause-wrote
returns-in-Err-clause-wrote g c =
    again_replayed g.R.Rack.seen (below_of c.args.found.slices) c.into_inner.result c.replay_on-done.result.rack c.in-Err.back.rack c.into_inner.ensures c.args.found.scan.disks.items c.args.found.state
    c.seated_by-seated.result (seated_state c.args.found.log.pending c.args.found.state) c.seated_by-seated.ensures c.replay_on-done.ensures.only c.in-Err.ensures.kept c.args.found.log.pending c.args.found.log.number c.replay_on-done.ensures.replayed

pub returns-clause-looked : goal.returns-clause-looked
returns-clause-looked g c =
    let rest = c.as_it_stands-rest.ensures in
    subst (λ k. AllTold (g.R.Rack.seen (below_of c.args.found.slices)) → IsLasting (g.R.Rack.seen (below_of c.args.found.slices))
    → IsUnfaulted (g.R.Rack.seen (below_of c.args.found.slices)) (g.R.Rack.seen (below_of k))
    → FindsAll (g.R.Rack.seen (below_of k)) (tables k) c.as_it_stands-rest.result.on.items c.as_it_stands-rest.result.log c.as_it_stands-rest.result.pending c.as_it_stands-rest.result.damaged)
    (sym rest.slices)
    (λ told lasts free.
    subst (λ d. FindsAll (g.R.Rack.seen (below_of c.in-Ok.again.slices)) (tables c.in-Ok.again.slices) c.as_it_stands-rest.result.on.items c.as_it_stands-rest.result.log c.as_it_stands-rest.result.pending d) (sym rest.damaged)
    (subst (λ p. FindsAll (g.R.Rack.seen (below_of c.in-Ok.again.slices)) (tables c.in-Ok.again.slices) c.as_it_stands-rest.result.on.items c.as_it_stands-rest.result.log p c.in-Ok.again.looked.damaged) (sym rest.pending)
    (subst (λ m. FindsAll (g.R.Rack.seen (below_of c.in-Ok.again.slices)) (tables c.in-Ok.again.slices) c.as_it_stands-rest.result.on.items m c.in-Ok.again.looked.pending c.in-Ok.again.looked.damaged) (sym rest.log)
    (subst (λ o. FindsAll (g.R.Rack.seen (below_of c.in-Ok.again.slices)) (tables c.in-Ok.again.slices) o.items c.in-Ok.again.log c.in-Ok.again.looked.pending c.in-Ok.again.looked.damaged) (sym rest.on)
    (again_finds g.R.Rack.seen (below_of c.args.found.slices) c.into_inner.result c.replay_on-done.result.rack (below_of c.in-Ok.again.slices) c.into_inner.ensures c.args.found.scan.disks.items c.args.found.state
    c.seated_by-seated.result (seated_state c.args.found.log.pending c.args.found.state) c.seated_by-seated.ensures c.replay_on-done.ensures.only c.in-Ok.ensures.only (tables c.in-Ok.again.slices) c.in-Ok.again.on.items c.in-Ok.again.looked.gone.items c.in-Ok.again.log c.in-Ok.again.looked.pending c.in-Ok.again.looked.damaged
    c.in-Ok.again.slices.orderly c.in-Ok.ensures.fit c.in-Ok.ensures.looked told lasts free)))))

pub returns-clause-gone : goal.returns-clause-gone
returns-clause-gone g c = λ p d named seat.
    let rest = c.as_it_stands-rest.ensures in
    let again = c.in-Ok.again in
    let few = c.both-rest.ensures.few p named in
    let seat_now : seat_by again.state again.scan.disks.items p ≡ Some d =
    ap (λ s. seat_by s again.scan.disks.items p) (sym rest.state) ∙ ap (λ k. seat_by c.as_it_stands-rest.result.state k.disks.items p) (sym rest.scan) ∙ seat in
    subst (λ k. Rose ((g.R.Rack.seen (below_of c.args.found.slices)).faults d) ((g.R.Rack.seen (below_of k)).faults d)
    ⊎ (IsFlagged c.args.found.scan.disks.items d ⊎ HasDisk c.args.found.scan.disks.items c.args.found.state c.args.found.looked.gone.items d)) (sym rest.slices)
    (again_rose g.R.Rack.seen (below_of c.args.found.slices) c.into_inner.result c.replay_on-done.result.rack (below_of again.slices) c.into_inner.ensures c.replay_on-done.ensures.only.stays c.in-Ok.ensures.only.stays
    c.args.found.scan.disks.items c.args.found.state c.seated_by-seated.result c.args.found.looked.gone.items c.replay_on-done.result.lost.items c.replay_on-done.ensures.lost d
    (elim (or_true (names c.as_it_stands-rest.result.gone.items p) (names c.refused_of-early.result.items p) (sym (c.both-rest.ensures.either p few) ∙ named)) [
      | inl late ↦
          inl (stands_rose (g.R.Rack.seen c.replay_on-done.result.rack) (g.R.Rack.seen (below_of again.slices)) again.scan.disks.items again.state (tables again.slices) again.on.items again.looked.gone.items again.log again.looked.pending again.looked.damaged
          c.in-Ok.ensures.newest.scan c.in-Ok.ensures.laid c.in-Ok.ensures.looked d
          (elim (rest.gone p d late seat_now) [ inl looked ↦ inr (p, looked, seat_now) | inr flagged ↦ inl flagged ]))
      | inr early ↦ inr (c.refused_of-early.ensures p d early seat_now)
    ]))

pub returns-clause-brought : goal.returns-clause-brought
returns-clause-brought g c =
    let seen = g.R.Rack.seen in
    let found = c.args.found in
    let again = below_of c.in-Ok.again.slices in
    subst (λ k. KeepsBrought (seen (below_of found.slices)) (seen (below_of k)) found.scan.disks.items found.state (seated_state found.log.pending found.state) found.log)
    (sym c.as_it_stands-rest.ensures.slices)
    (again_brought seen (below_of found.slices) c.into_inner.result c.replay_on-done.result.rack again c.into_inner.ensures found.scan.disks.items found.state c.seated_by-seated.result found.log
    c.seated_by-seated.ensures c.replay_on-done.ensures.only.stays c.in-Ok.ensures.only c.replay_on-done.ensures.brought)

pub returns-clause-unread : goal.returns-clause-unread
returns-clause-unread g c = λ p d low seat flagged.
    let rest = c.as_it_stands-rest.ensures in
    let again = c.in-Ok.again in
    let seat_now : seat_by again.state again.scan.disks.items p ≡ Some d =
    ap (λ s. seat_by s again.scan.disks.items p) (sym rest.state) ∙ ap (λ k. seat_by c.as_it_stands-rest.result.state k.disks.items p) (sym rest.scan) ∙ seat in
    c.both-rest.ensures.either p low
    ∙ ap (λ b. b || names c.refused_of-early.result.items p) (rest.unread p d low seat_now (subst (λ k. IsFlagged k.disks.items d) rest.scan flagged))

pub returns-clause-finds : goal.returns-clause-finds
returns-clause-finds g c =
    let seen = g.R.Rack.seen in
    let rest = c.as_it_stands-rest.ensures in
    let now = c.as_it_stands-rest.result in
    let again = c.in-Ok.again in
    let a = seen (below_of c.args.found.slices) in
    let d = seen c.replay_on-done.result.rack in
    let b = seen (below_of again.slices) in
    let first : SameRack a d = subst (λ r. SameRack (seen r) d) c.into_inner.ensures c.replay_on-done.ensures.only.stays in
    subst (λ k. FindsLeft a (seen (below_of k)) now.scan.disks.items now.state (tables k) now.on.items now.log now.pending now.damaged) (sym rest.slices)
    (subst (λ e. FindsLeft a b now.scan.disks.items now.state (tables again.slices) now.on.items now.log now.pending e) (sym rest.damaged)
    (subst (λ p. FindsLeft a b now.scan.disks.items now.state (tables again.slices) now.on.items now.log p again.looked.damaged) (sym rest.pending)
    (subst (λ m. FindsLeft a b now.scan.disks.items now.state (tables again.slices) now.on.items m again.looked.pending again.looked.damaged) (sym rest.log)
    (subst (λ o. FindsLeft a b now.scan.disks.items now.state (tables again.slices) o.items again.log again.looked.pending again.looked.damaged) (sym rest.on)
    (subst (λ s. FindsLeft a b now.scan.disks.items s (tables again.slices) again.on.items again.log again.looked.pending again.looked.damaged) (sym rest.state)
    (subst (λ k. FindsLeft a b k.disks.items again.state (tables again.slices) again.on.items again.log again.looked.pending again.looked.damaged) (sym rest.scan)
    (left_since a d b again.scan.disks.items again.state (tables again.slices) again.on.items again.log again.looked.pending again.looked.damaged first
    (found_left d b again.scan.disks.items again.state (tables again.slices) again.on.items again.looked.gone.items again.log again.looked.pending again.looked.damaged
    again.slices.orderly c.in-Ok.ensures.fit c.in-Ok.ensures.only c.in-Ok.ensures.laid c.in-Ok.ensures.looked))))))))

pub returns-clause-midway : goal.returns-clause-midway
returns-clause-midway g c =
    let seen = g.R.Rack.seen in
    let found = c.args.found in
    let x = seen (below_of found.slices) in
    let again = below_of c.in-Ok.again.slices in
    let z = seated_state found.log.pending found.state in
    subst (λ k. StandsFound x (seen (below_of k)) found.scan.disks.items found.state z found.log
    (λ i. StandsReplaying (disks_of x) found.state z found.log.pending (now_in x) i ⊎ Agree (disks_of x) i (now_in (seen (below_of k)))))
    (sym c.as_it_stands-rest.ensures.slices)
    (again_midway seen (below_of found.slices) c.into_inner.result c.replay_on-done.result.rack again c.into_inner.ensures found.scan.disks.items found.state c.seated_by-seated.result found.log
    c.seated_by-seated.ensures c.replay_on-done.ensures.only.stays c.in-Ok.ensures.only c.replay_on-done.ensures.replayed c.replay_on-done.ensures.midway)
