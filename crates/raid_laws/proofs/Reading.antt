-- Parts of a call that write nothing: reads and syncs of one array, and losses that are noted.
use Rattle.std.proofs.Common.{◌≡◌, ℕ, Bool, true, false, [], sym, ap, subst, ◌∙◌}
use Rattle.rack.specs.Values.{Values}
use Rattle.rack.specs.Seen.{RackView}
use Rattle.rack.specs.Sequences.{OnlyReads}
use Rattle.pool_state.specs.declared.contents.State.{State}
use Rattle.array_image.specs.States.{is_current}
use Rattle.array_image.specs.Arrays.{Shape, value_by}
use Rattle.array_image.specs.Held.{current_in}
use Rattle.array_image.specs.Marks.{lowered}
use Rattle.array_image.specs.Left.{NothingPending}
use Rattle.log_laws.specs.Kept.{LogInvariant}
use Rattle.log_laws.proofs.KeptAfter.{kept_keeps, kept_more}
use Rattle.array_model.specs.View.{View, shape_of}
use Rattle.array_model.specs.Says.{ArrayInvariant}
use Rattle.array_model.specs.ArrayCalls.{Keeping}
use Rattle.array_model.proofs.Keeping.{keeping_calls}
use Rattle.array_model.proofs.Losses.{IsLosing, losing_holds}
use Rattle.raid_laws.specs.Raid.{Raid, InvariantInCall, IsWritten}
use Rattle.raid_laws.specs.Marking.{Part}
use Rattle.raid_laws.proofs.Frames.{frame_read, geometry_frame}
use Rattle.raid_laws.proofs.Logs.{logs_read}
use Rattle.raid_laws.proofs.Parts.{part_own}

-- the log after calls that write nothing, in which places may have gone
log_after : (s : State) (gone now : ℕ → Bool) (v w : Raid) (a b : RackView) → a.lasting → OnlyReads a b → w.number ≡ v.number
    → ((p : ℕ) → gone p ≡ true → now p ≡ true) → LogInvariant s v.number gone a → LogInvariant s w.number now b
log_after s gone now v w a b lasting reads same more kept =
    subst (λ k. LogInvariant s k now b) (sym same)
    (kept_more s v.number gone now b more (kept_keeps s v.number gone a b lasting reads.stays reads.keeps kept))

-- the array that was read or synced
pub part_read : (s : State) (durable : Shape) (vals : ℕ → Values) (spent gone now : ℕ → Bool) (v w : Raid) (a b : RackView) (n : ℕ)
    → a.lasting → OnlyReads a b → w.number ≡ v.number
    → ((p : ℕ) → gone p ≡ true → now p ≡ true)
    → ((place : ℕ) × (is_current s place ≡ true) × (now place ≡ false))
    → (IsWritten (v.arrays n) → IsWritten (w.arrays n))
    → Keeping s (v.arrays n) (w.arrays n) spent a b durable vals
    → Part s s durable durable vals vals spent gone now v w a b n
part_read s durable vals spent gone now v w a b n lasting reads same more someone written kept =
    part_own s durable vals vals spent gone now v w a b n kept (log_after s gone now v w a b lasting reads same more) someone written
    (λ copies stood. logs_read s v.number gone a b lasting reads.stays reads.keeps stood.log stood.someone copies)
    (λ g framed stood.
    frame_read g s durable vals spent gone v (w.arrays n) a b n lasting reads.stays reads.keeps framed
    (geometry_frame (v.arrays n).truth (w.arrays n).truth kept.noted.same.geometry ∙ framed) stood)

-- and every other one
pub part_unread : (s : State) (durable : Shape) (vals : ℕ → Values) (spent gone now : ℕ → Bool) (v w : Raid) (a b : RackView) (n : ℕ)
    → a.lasting → OnlyReads a b → w.number ≡ v.number → w.arrays n ≡ v.arrays n
    → ((p : ℕ) → gone p ≡ true → now p ≡ true)
    → ((place : ℕ) × (is_current s place ≡ true) × (now place ≡ false))
    → Part s s durable durable vals vals spent gone now v w a b n
part_unread s durable vals spent gone now v w a b n lasting reads same view more someone =
    part_read s durable vals spent gone now v w a b n lasting reads same more someone
    (λ is. subst IsWritten (sym view) is)
    (subst (λ (u : View). Keeping s (v.arrays n) u spent a b durable vals) (sym view)
    (keeping_calls a b lasting reads.stays reads.keeps s durable (v.arrays n) vals spent))

-- ---- what is noted

-- an array in which places are noted that are lost
pub stood_noted : (s : State) (durable : Shape) (vals : ℕ → Values) (spent gone now lost : ℕ → Bool) (v w : Raid) (x : RackView) (n : ℕ)
    → w.number ≡ v.number
    → ((p : ℕ) → gone p ≡ true → now p ≡ true)
    → ((place : ℕ) × (is_current s place ≡ true) × (now place ≡ false))
    → IsLosing (v.arrays n) (w.arrays n) lost
    → (IsWritten (v.arrays n) → IsWritten (w.arrays n))
    → ((y : ℕ) → spent y ≡ false
    → value_by (lowered lost (shape_of (v.arrays n))) (current_in x.held) (v.arrays n).number y ≡ value_by (shape_of (v.arrays n)) (current_in x.held) (v.arrays n).number y)
    → InvariantInCall s durable vals spent gone v x n → InvariantInCall s durable vals spent now w x n
stood_noted s durable vals spent gone now lost v w x n same more someone losing written value stood =
    record {
      joined = stood.joined;
      few = stood.few;
      number = losing.number ∙ stood.number;
      log = subst (λ k. LogInvariant s k now x) (sym same) (kept_more s v.number gone now x more stood.log);
      someone = someone;
      written = written stood.written;
      holds = losing_holds s durable (v.arrays n) (w.arrays n) vals spent x lost losing value stood.holds;
    }

-- the places that went are no part of what is kept but for what is pending
heeded_holds : (s : State) (durable : Shape) (u : View) (vals : ℕ → Values) (spent : ℕ → Bool) (x : RackView) → NothingPending u.number x
    → ArrayInvariant s durable u vals spent x → ArrayInvariant s durable (record u { went = [] }) vals spent x
unfolding shape_of
heeded_holds s durable u vals spent x closed holds =
    record { shape = holds.shape; mark = holds.mark; truth = holds.truth; alone = holds.alone; closed = λ none. closed }

-- nobody is heeded any more, where nothing is pending
pub stood_heeded : (s : State) (durable : Shape) (vals : ℕ → Values) (spent gone : ℕ → Bool) (v w : Raid) (x : RackView) (n : ℕ)
    → w.number ≡ v.number → w.arrays n ≡ record (v.arrays n) { went = [] }
    → NothingPending n x
    → InvariantInCall s durable vals spent gone v x n → InvariantInCall s durable vals spent gone w x n
stood_heeded s durable vals spent gone v w x n same view closed stood =
    record {
      joined = stood.joined;
      few = stood.few;
      number = ap (λ (u : View). u.number) view ∙ stood.number;
      log = subst (λ k. LogInvariant s k gone x) (sym same) stood.log;
      someone = stood.someone;
      written = subst IsWritten (sym view) stood.written;
      holds = subst (λ (u : View). ArrayInvariant s durable u vals spent x) (sym view)
          (heeded_holds s durable (v.arrays n) vals spent x (subst (λ k. NothingPending k x) (sym stood.number) closed) stood.holds);
    }
