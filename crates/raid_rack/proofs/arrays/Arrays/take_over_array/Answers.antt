use Rattle.std.proofs.Common.{◌≡◌, ◌<◌, ◌-◌, ◌^◌, ◌==◌, ◌&&◌, Bool, true, false, not, get_or, is_ok, slice_set, refl, ap, sym, subst, ◌∙◌, inl, inr, eqb-true, arith}
use Rattle.std.proofs.lemmas.Bool.{and_parts}
use Rattle.arrayvec.specs.ArrayVec.{with_items}
use Rattle.rack.specs.Joins.{stays_then}
use Rattle.log_laws.specs.View.{LogView}
use Rattle.md_super.specs.Profile.{is_mirror}
use Rattle.array_core.specs.Superblocks.{raised}
use Rattle.array_model.specs.View.{View, rows_of}
use Rattle.pool_state.specs.declared.contents.Work.TheVariants.{TakeOver}
use Rattle.raid_laws.proofs.Whole.{heeded_gone}
use Rattle.reshape_laws.specs.Ahead.{taken_over}
use Rattle.reshape_laws.specs.Reshapes.{lacks_two}
use Rattle.growth_laws.specs.Growing.{Lacks, change_of, is_clean, is_due, is_synced}
use Rattle.growth_laws.proofs.Becoming.{synced_parts}
use Rattle.growth_laws.proofs.Due.{may_take_over, taken}
use Rattle.growth_laws.proofs.Losing.{moves_caused, moves_lose}
use Rattle.growth_laws.proofs.ReshapeBegins.{is_taking, taken_keeps, taken_turn}
use Rattle.growth_laws.proofs.Steps.{grows_behind, grows_nothing, reshapes_nothing}
use Rattle.raid_rack.specs.RaidRack.{IsFit, no_array, raid_by}
use Rattle.raid_rack.proofs.Grown.{called_own, grows_answered, has_called, logs_there, not_clean, reshape_answered, reshape_call, step_events}
use Rattle.raid_rack.proofs.OldKept.{cleaned_old, held_after, still_ready, taken_old}
use Rattle.raid_rack.proofs.RaisedCalls.{raises_call}
use Rattle.raid_rack.proofs.Raises.{raises_then}
use Rattle.raid_rack.proofs.Resynced.{answered_refused, step_later, step_raise}
use Rattle.raid_rack.proofs.Steps.{items_set, same_element}
use Rattle.raid_rack.proofs.arrays.Arrays.take_over_array.Goals.{then-not-may_take_over-via-then-not-may_take_over, then-not-may_take_over-via-else-not-may_take_over+then-not-is_clean}
use Rattle.raid_rack.proofs.arrays.Arrays.take_over_array.Goals as goal

pub returns-then-not-may_take_over-clause-grows : goal.returns-then-not-may_take_over-clause-grows
returns-then-not-may_take_over-clause-grows g c =
    let a = c.args.self.now in
    let b = c.clean_array.new.self in
    let n = c.args.number in
    let v = raid_by a in
    let w = raid_by b in
    let x = g.S.Rack.seen c.args.rack.now in
    let y = g.S.Rack.seen c.clean_array.new.rack in
    let moves = c.clean_array.ensures.cleans.moves in
    let low = subst (λ k. n < k) (sym moves.book.same.made) (synced_parts v n (and_parts (is_synced v n) (is_mirror (v.arrays n).truth) c.requires.due).0).low in
    let count = c.clean_array.ensures.running.count in
    grows_nothing (change_of (TakeOver n)) (Lacks (TakeOver n)) v w x y (moves_lose v w x y moves) (moves_caused v w x y moves) c.clean_array.ensures.cleans.heeded
    (inl (elim c.then-not-may_take_over.branch [
      | then-not-may_take_over-via-then-not-may_take_over k ↦ ap (λ (is : Bool). is && is_clean (w.arrays n)) (sym c.may_take_over.ensures ∙ k.if-not-may_take_over.true)
      | then-not-may_take_over-via-else-not-may_take_over+then-not-is_clean k ↦
          not_clean (is_due w (TakeOver n)) (is_clean (w.arrays n))
          (sym (ap is_clean (k.index-deref-number.is ∙ same_element k.deref.result.now b.all.items n _ no_array k.deref.ensures.0 (omega (arith, count, low))))
          ∙ sym k.is_clean.ensures ∙ k.if-not-is_clean.true)
    ]))

pub take_over-requires-clause-logs : goal.take_over-requires-clause-logs
take_over-requires-clause-logs g c j low =
    logs_there c.clean_array.new.self (g.S.Rack.seen c.clean_array.new.rack) c.current_places-on.result.items j c.clean_array.ensures.running c.clean_array.ensures.cleans.heeded
    c.current_places-on.ensures low

pub take_over-requires-clause-grown : goal.take_over-requires-clause-grown
take_over-requires-clause-grown g c =
    let a = c.clean_array.new.self in
    let n = c.args.number in
    let is = synced_parts (raid_by a) n (and_parts (is_synced (raid_by a) n) _ (sym c.may_take_over.ensures ∙ c.if-not-may_take_over.false)).0 in
    let count = c.clean_array.ensures.running.count in
    let low = is.low in
    subst (λ (u : View). u.young ≡ false) (sym (same_element c.deref_mut.result.now a.all.items n _ no_array c.deref_mut.ensures.value (omega (arith, count, low)))) is.grown

pub take_over-requires-clause-synced : goal.take_over-requires-clause-synced
take_over-requires-clause-synced g c =
    let a = c.clean_array.new.self in
    let n = c.args.number in
    let is = synced_parts (raid_by a) n (and_parts (is_synced (raid_by a) n) _ (sym c.may_take_over.ensures ∙ c.if-not-may_take_over.false)).0 in
    let count = c.clean_array.ensures.running.count in
    let low = is.low in
    subst (λ (u : View). u.resync ≡ rows_of u) (sym (same_element c.deref_mut.result.now a.all.items n _ no_array c.deref_mut.ensures.value (omega (arith, count, low)))) is.synced

pub take_over-requires-clause-clean : goal.take_over-requires-clause-clean
take_over-requires-clause-clean g c =
    let a = c.clean_array.new.self in
    let n = c.args.number in
    let low = (synced_parts (raid_by a) n (and_parts (is_synced (raid_by a) n) _ (sym c.may_take_over.ensures ∙ c.if-not-may_take_over.false)).0).low in
    let count = c.clean_array.ensures.running.count in
    let one = c.index-deref-number.is ∙ same_element c.deref.result.now a.all.items n _ no_array c.deref.ensures.0 (omega (arith, count, low)) in
    let clean : is_clean ((raid_by a).arrays n) ≡ true = sym (ap is_clean one) ∙ sym c.is_clean.ensures ∙ c.if-not-is_clean.false in
    subst (λ (u : View). u.truth.resync_offset ≡ 2 ^ 64 - 1) (sym (same_element c.deref_mut.result.now a.all.items n _ no_array c.deref_mut.ensures.value (omega (arith, count, low))))
    (eqb-true ((raid_by a).arrays n).truth.resync_offset (2 ^ 64 - 1)
    (and_parts (((raid_by a).arrays n).truth.resync_offset == 2 ^ 64 - 1) (not ((raid_by a).arrays n).marked) clean).0)

pub take_over-requires-clause-mirror : goal.take_over-requires-clause-mirror
take_over-requires-clause-mirror g c =
    let a = c.clean_array.new.self in
    let n = c.args.number in
    let both = and_parts (is_synced (raid_by a) n) (is_mirror ((raid_by a).arrays n).truth) (sym c.may_take_over.ensures ∙ c.if-not-may_take_over.false) in
    let low = (synced_parts (raid_by a) n both.0).low in
    let count = c.clean_array.ensures.running.count in
    subst (λ (u : View). is_mirror u.truth ≡ true) (sym (same_element c.deref_mut.result.now a.all.items n _ no_array c.deref_mut.ensures.value (omega (arith, count, low)))) both.1

pub mend-requires : goal.mend-requires
mend-requires g c =
    let a = c.clean_array.new.self in
    let n = c.args.number in
    let y = g.S.Rack.seen c.clean_array.new.rack in
    let due = sym c.may_take_over.ensures ∙ c.if-not-may_take_over.false in
    let low = (synced_parts (raid_by a) n (and_parts (is_synced (raid_by a) n) (is_mirror ((raid_by a).arrays n).truth) due).0).low in
    let count = c.clean_array.ensures.running.count in
    let one = c.index-deref-number.is ∙ same_element c.deref.result.now a.all.items n _ no_array c.deref.ensures.0 (omega (arith, count, low)) in
    let clean : is_clean ((raid_by a).arrays n) ≡ true = sym (ap is_clean one) ∙ sym c.is_clean.ensures ∙ c.if-not-is_clean.false in
    let does = may_take_over (raid_by a) y n c.clean_array.ensures.running.set c.clean_array.ensures.cleans.heeded due clean in
    let called =
    has_called (λ u. taken_over u (raised u.truth.events)) a (with_items a.all (slice_set c.deref_mut.result.now n c.take_over.new.array)) c.take_over.new.log y (g.S.Rack.seen c.take_over.new.rack) n
    c.clear.new.self.number _ c.take_over.new.array c.take_over.ensures.reshapes.steps.is_done c.clean_array.ensures.running c.clean_array.ensures.cleans.heeded
    (same_element c.deref_mut.result.now a.all.items n _ no_array c.deref_mut.ensures.value (omega (arith, count, low)))
    (items_set a.all c.deref_mut.result.now n c.take_over.new.array c.deref_mut.ensures.value)
    (ap (λ (l : LogView). l.number) c.clear.ensures) (step_later c.clear.new.self c.take_over.new.log c.take_over.ensures.log)
    does.becomes c.take_over.ensures.goes.stays c.take_over.ensures.reshapes.steps.view in
    record { running = called.running }

pub returns-clause-grows : goal.returns-clause-grows
returns-clause-grows g c =
    let a = c.clean_array.new.self in
    let n = c.args.number in
    let v = raid_by c.args.self.now in
    let x = g.S.Rack.seen c.args.rack.now in
    let y = g.S.Rack.seen c.clean_array.new.rack in
    let z = g.S.Rack.seen c.mend.new.rack in
    let moves = c.clean_array.ensures.cleans.moves in
    let due = sym c.may_take_over.ensures ∙ c.if-not-may_take_over.false in
    let low = (synced_parts (raid_by a) n (and_parts (is_synced (raid_by a) n) (is_mirror ((raid_by a).arrays n).truth) due).0).low in
    let count = c.clean_array.ensures.running.count in
    let one = c.index-deref-number.is ∙ same_element c.deref.result.now a.all.items n _ no_array c.deref.ensures.0 (omega (arith, count, low)) in
    let clean : is_clean ((raid_by a).arrays n) ≡ true = sym (ap is_clean one) ∙ sym c.is_clean.ensures ∙ c.if-not-is_clean.false in
    let does = may_take_over (raid_by a) y n c.clean_array.ensures.running.set c.clean_array.ensures.cleans.heeded due clean in
    let all = with_items a.all (slice_set c.deref_mut.result.now n c.take_over.new.array) in
    let all_is = items_set a.all c.deref_mut.result.now n c.take_over.new.array c.deref_mut.ensures.value in
    let called =
    has_called (λ u. taken_over u (raised u.truth.events)) a all c.take_over.new.log y (g.S.Rack.seen c.take_over.new.rack) n
    c.clear.new.self.number _ c.take_over.new.array c.take_over.ensures.reshapes.steps.is_done c.clean_array.ensures.running c.clean_array.ensures.cleans.heeded
    (same_element c.deref_mut.result.now a.all.items n _ no_array c.deref_mut.ensures.value (omega (arith, count, low))) all_is
    (ap (λ (l : LogView). l.number) c.clear.ensures) (step_later c.clear.new.self c.take_over.new.log c.take_over.ensures.log)
    does.becomes c.take_over.ensures.goes.stays c.take_over.ensures.reshapes.steps.view in
    grows_behind (change_of (TakeOver n)) (Lacks (TakeOver n)) (Lacks (TakeOver n)) v (raid_by a) (raid_by c.mend.new.self) x y z _ moves.stays.faults
    (stays_then c.take_over.ensures.goes.stays c.mend.ensures.mends.moves.stays).faults
    (moves_lose v (raid_by a) x y moves) (moves_caused v (raid_by a) x y moves) (λ mid w is. is)
    (grows_answered (change_of (TakeOver n)) (Lacks (TakeOver n)) a (record a { all = all; log = c.take_over.new.log }) c.mend.new.self y (g.S.Rack.seen c.take_over.new.rack) z n
    (taken (raid_by a) n) c.take_over.new.array c.take_over.ensures.reshapes.steps.is_done (is_ok c.take_over.result) _
    refl low called (called_own a all n c.take_over.new.array count low all_is) c.take_over.ensures.reshapes.steps.answer
    (answered_refused (lacks_two c.take_over.new.array) _ c.take_over.result c.take_over.ensures.refused) c.mend.ensures.mends does.longer (ap not c.lacks.ensures) inr)

pub returns-clause-raises : goal.returns-clause-raises
returns-clause-raises g c =
    let a = c.clean_array.new.self in
    let n = c.args.number in
    let due = sym c.may_take_over.ensures ∙ c.if-not-may_take_over.false in
    let low = (synced_parts (raid_by a) n (and_parts (is_synced (raid_by a) n) (is_mirror ((raid_by a).arrays n).truth) due).0).low in
    let count = c.clean_array.ensures.running.count in
    raises_then 18 18 (raid_by c.args.self.now) (raid_by a) (raid_by c.mend.new.self) c.clean_array.ensures.cleans.moves.book.same.made c.clean_array.ensures.raises
    (raises_call 1 17 a c.mend.new.self (with_items a.all (slice_set c.deref_mut.result.now n c.take_over.new.array)) c.take_over.new.log n _ c.take_over.new.array count low
    (same_element c.deref_mut.result.now a.all.items n _ no_array c.deref_mut.ensures.value (omega (arith, count, low)))
    (items_set a.all c.deref_mut.result.now n c.take_over.new.array c.deref_mut.ensures.value)
    (let up = step_raise c.clear.new.self c.take_over.new.log c.take_over.ensures.log in let e = ap (λ (l : LogView). l.number) c.clear.ensures in omega (arith, up, e))
    (step_events _ _ c.take_over.new.array (g.S.Rack.seen c.clean_array.new.rack) (g.S.Rack.seen c.take_over.new.rack) c.take_over.ensures.reshapes.steps.is_done refl
    c.take_over.ensures.reshapes.steps.view)
    c.mend.ensures.raises)

pub returns-clause-runs : goal.returns-clause-runs
returns-clause-runs g c =
    g.met.S.Rack.runs_then _ _ _ c.clean_array.ensures.runs (g.met.S.Rack.runs_then _ _ _ c.take_over.ensures.runs c.mend.ensures.runs)

pub returns-then-not-may_take_over-clause-contents : goal.returns-then-not-may_take_over-clause-contents
returns-then-not-may_take_over-clause-contents g c =
    let b = c.clean_array.new.self in
    let n = c.args.number in
    let v = raid_by c.args.self.now in
    let w = raid_by b in
    let y = g.S.Rack.seen c.clean_array.new.rack in
    let e = c.clean_array.ensures in
    let low = subst (λ k. n < k) (sym e.cleans.moves.book.same.made) (synced_parts v n (and_parts (is_synced v n) (is_mirror (v.arrays n).truth) c.requires.due).0).low in
    let count = e.running.count in
    record {
      mid = w;
      at = c.clean_array.new.rack;
      loses = moves_lose v w (g.S.Rack.seen c.args.rack.now) y e.cleans.moves;
      cleans = e.contents;
      marked = λ p current. heeded_gone w e.cleans.heeded p;
      step = reshapes_nothing (change_of (TakeOver n)) (Lacks (TakeOver n)) n w y e.running.set e.cleans.heeded
          (inl (elim c.then-not-may_take_over.branch [
            | then-not-may_take_over-via-then-not-may_take_over k ↦ ap (λ (is : Bool). is && is_clean (w.arrays n)) (sym c.may_take_over.ensures ∙ k.if-not-may_take_over.true)
            | then-not-may_take_over-via-else-not-may_take_over+then-not-is_clean k ↦
                not_clean (is_due w (TakeOver n)) (is_clean (w.arrays n))
                (sym (ap is_clean (k.index-deref-number.is ∙ same_element k.deref.result.now b.all.items n _ no_array k.deref.ensures.0 (omega (arith, count, low))))
                ∙ sym k.is_clean.ensures ∙ k.if-not-is_clean.true)
          ]));
    }

pub returns-clause-contents : goal.returns-clause-contents
returns-clause-contents g c =
    let a = c.clean_array.new.self in
    let n = c.args.number in
    let v = raid_by a in
    let x = g.S.Rack.seen c.clean_array.new.rack in
    let y = g.S.Rack.seen c.take_over.new.rack in
    let z = g.S.Rack.seen c.mend.new.rack in
    let e = c.clean_array.ensures in
    let due = sym c.may_take_over.ensures ∙ c.if-not-may_take_over.false in
    let low = (synced_parts v n (and_parts (is_synced v n) (is_mirror (v.arrays n).truth) due).0).low in
    let count = e.running.count in
    let one = c.index-deref-number.is ∙ same_element c.deref.result.now a.all.items n _ no_array c.deref.ensures.0 (omega (arith, count, low)) in
    let clean : is_clean (v.arrays n) ≡ true = sym (ap is_clean one) ∙ sym c.is_clean.ensures ∙ c.if-not-is_clean.false in
    let does = may_take_over v x n e.running.set e.cleans.heeded due clean in
    let is = is_taking v x n e.running.set due clean in
    let on = c.current_places-on.result.items in
    let all = with_items a.all (slice_set c.deref_mut.result.now n c.take_over.new.array) in
    let all_is = items_set a.all c.deref_mut.result.now n c.take_over.new.array c.deref_mut.ensures.value in
    let call =
    reshape_call (λ u. taken_over u (raised u.truth.events)) a all c.take_over.new.log x y n c.clear.new.self.number _ c.take_over.new.array on (is_ok c.take_over.result) e.running e.cleans.heeded
    is.rest does.becomes (taken_keeps v x n e.running.set is)
    (same_element c.deref_mut.result.now a.all.items n _ no_array c.deref_mut.ensures.value (omega (arith, count, low))) all_is
    (ap (λ (l : LogView). l.number) c.clear.ensures) (step_later c.clear.new.self c.take_over.new.log c.take_over.ensures.log)
    c.current_places-on.ensures c.went-places.ensures.few c.take_over.ensures.goes c.take_over.ensures.reshapes in
    record {
      mid = v;
      at = c.clean_array.new.rack;
      loses = moves_lose (raid_by c.args.self.now) v (g.S.Rack.seen c.args.rack.now) x e.cleans.moves;
      cleans = e.contents;
      marked = λ p current. heeded_gone v e.cleans.heeded p;
      step = reshape_answered (change_of (TakeOver n)) (Lacks (TakeOver n)) a c.mend.new.self all c.take_over.new.log x y z n (taken v n) c.take_over.new.array on (is_ok c.take_over.result) _ call refl
          (called_own a all n c.take_over.new.array count low all_is) (answered_refused (lacks_two c.take_over.new.array) _ c.take_over.result c.take_over.ensures.refused)
          c.mend.ensures.mends does.longer (ap not c.lacks.ensures) inr
          (taken_turn v (λ k. get_or all.items k no_array) c.take_over.new.log.number n x y on (is_ok c.take_over.result) call is (raid_by c.mend.new.self) z c.mend.ensures.losses);
    }

pub returns-then-not-may_take_over-clause-old : goal.returns-then-not-may_take_over-clause-old
returns-then-not-may_take_over-clause-old g c r q inside ready =
    let a = c.args.self.now in
    let e = c.clean_array.ensures in
    let is = synced_parts (raid_by a) c.args.number (and_parts (is_synced (raid_by a) c.args.number) _ c.requires.due).0 in
    cleaned_old {r = r} {q = q} c.args.number a c.clean_array.new.self (g.S.Rack.seen c.args.rack.now) (g.S.Rack.seen c.clean_array.new.rack)
    (record { running = c.requires.running; heeded = c.requires.heeded }) (record { running = e.running; heeded = e.cleans.heeded }) (inside c.clean_array.new.rack) is.low is.grown e.cleans.moves
    e.contents ready

pub returns-clause-old : goal.returns-clause-old
unfolding returns-clause-contents
returns-clause-old g c r q inside ready =
    let n = c.args.number in
    let a = c.args.self.now in
    let b = c.clean_array.new.self in
    let d = c.mend.new.self in
    let x = g.S.Rack.seen c.args.rack.now in
    let y = g.S.Rack.seen c.clean_array.new.rack in
    let z = g.S.Rack.seen c.mend.new.rack in
    let e = c.clean_array.ensures in
    let is = synced_parts (raid_by a) n (and_parts (is_synced (raid_by a) n) _ c.requires.due).0 in
    let due = sym c.may_take_over.ensures ∙ c.if-not-may_take_over.false in
    let low = (synced_parts (raid_by b) n (and_parts (is_synced (raid_by b) n) _ due).0).low in
    let count = e.running.count in
    let one = c.index-deref-number.is ∙ same_element c.deref.result.now b.all.items n _ no_array c.deref.ensures.0 (omega (arith, count, low)) in
    let clean : is_clean ((raid_by b).arrays n) ≡ true = sym (ap is_clean one) ∙ sym c.is_clean.ensures ∙ c.if-not-is_clean.false in
    let first : IsFit a x = record { running = c.requires.running; heeded = c.requires.heeded } in
    let amid : IsFit b y = record { running = e.running; heeded = e.cleans.heeded } in
    let last : IsFit d z = record { running = c.mend.ensures.running; heeded = c.mend.ensures.mends.heeded } in
    held_after {r = r} {o = r} {q = q} a b d x y z e.cleans.moves (cleaned_old {r = r} {q = r} n a b x y first amid (inside c.clean_array.new.rack) is.low is.grown e.cleans.moves e.contents ready)
    (taken_old {r = r} {q = q} n b d y z _ amid last (inside c.mend.new.rack) due clean (returns-clause-contents g c).step (still_ready n a b x y first is.low e.cleans.moves ready))
