-- The truth of an array in what stops leave while its superblocks are written directly.
use Rattle.std.proofs.Common.{◌≡◌, ◌⊎◌, ℕ, ◌-◌, ◌%◌, ◌<◌, ◌≤◌, ◌^◌, Bool, false, [], refl, sym, ap, subst, ◌∙◌}
use Rattle.rack.specs.Values.{Values}
use Rattle.rack.specs.Seen.{Image, RackView, IsLive}
use Rattle.rack.specs.Joins.{leaves_weaker}
use Rattle.rack.specs.Sequences.{IsMix, OnlyReads, WritesOnly}
use Rattle.md_super.specs.declared.superblock.Super.{Super}
use Rattle.pool_state.specs.declared.contents.State.{State}
use Rattle.array_image.specs.Places.{member_slice, super_sector}
use Rattle.array_image.specs.SoundArray.{array_fields, first_unsynced}
use Rattle.array_image.specs.Arrays.{Shape, replayed}
use Rattle.array_image.specs.Even.{AreEven}
use Rattle.array_image.specs.Held.{IsSynced}
use Rattle.array_image.specs.Left.{IsInside}
use Rattle.array_model.specs.View.{View, IsArray, shape_of}
use Rattle.array_model.specs.Says.{ArrayInvariant}
use Rattle.array_model.specs.ArrayCalls.{IncludesSpent, SyncsArray}
use Rattle.array_model.specs.Members.{Notes}
use Rattle.array_model.specs.Stages.{IsStateOf}
use Rattle.array_model.proofs.Keeping.{inside_before, live_after}
use Rattle.array_model.proofs.Noting.{covers_before, losing_by}
use Rattle.array_core.specs.Pool.{MayRenew}
use Rattle.array_core.specs.Settling.{IsNewSuper, WritesSupers}
use Rattle.array_core.specs.Staging.{HasRowRebuilds}
use Rattle.array_core.specs.Superblocks.{is_settled, left_offset, raised, settled, settled_truth}
use Rattle.array_core.specs.TruthLeft.{HasTruthOf, LeavesTruth}
use Rattle.array_core.proofs.Cleaning.{even_settled, left_offset_rows, raised_more, renew_then, shape_kept}
use Rattle.array_core.proofs.Direct.{moment_new, restated}
use Rattle.array_core.proofs.Settled.{spent_same}
use Rattle.array_core.proofs.SupersLeft.{at_left, supers_reads, truth_then}

-- the array's fields of a truth
abbrev HasFieldsOf : Super → Super → Type 0
HasFieldsOf f t = array_fields t ≡ array_fields f

module _ (s : State) (v : View) (e o : ℕ) (m : Bool) (a b : RackView)
    (is_array : IsArray v) (state : IsStateOf v s) (rows : HasRowRebuilds v) (more : v.truth.events < e) (end : e < 2 ^ 63)
    (offset : (o ≡ 2 ^ 64 - 1) ⊎ (o % 128 ≡ 0)) (lasting : a.lasting)
    (supers : (place : ℕ) → place < 16 → super_sector < a.sectors (member_slice place v.number) → IsLive a a (member_slice place v.number) super_sector)
    (only : WritesOnly a b (IsNewSuper (restated e o m v)))
    (H : Type 0) (vals : ℕ → Values) (spent : ℕ → Bool) (fresh : v.went ≡ [])
    (begins : H → ArrayInvariant s (shape_of v) v vals spent a)
    (even : H → (c : Image) → IsInside a.sectors c → IsMix a b (IsNewSuper (restated e o m v)) c
    → AreEven (shape_of v) v.number (first_unsynced (restated e o m v).truth) (replayed a.sectors c)) where
  at_moment : H → (c : Image) → IsInside a.sectors c → IsMix a b (IsNewSuper (restated e o m v)) c
      → HasTruthOf s v.number a (HasFieldsOf (restated e o m v).truth) (replayed a.sectors c)
  at_moment h c inside mix =
      moment_new s v e o m a b is_array state rows more end offset lasting supers only c inside mix vals spent (begins h) fresh (even h c inside mix)

  pub renew_truth : LeavesTruth s v.number (HasFieldsOf (restated e o m v).truth) H a b
  renew_truth = record {
    leaves = λ traced.
        leaves_weaker (IsMix a b (IsNewSuper (restated e o m v))) (λ c. IsInside a.sectors c → H → HasTruthOf s v.number a (HasFieldsOf (restated e o m v).truth) (replayed a.sectors c))
        (λ c mix inside h. at_moment h c inside mix)
        (only.stops traced);
    after = λ h r left.
        at_left (HasTruthOf s v.number a (HasFieldsOf (restated e o m v).truth)) a b r left only.stays
        (at_moment h left.0 (inside_before only.stays left.0 left.1.inside)
        (λ d t live. only.within d t (left.0 d t) live (left.1.picks d t (live_after only.stays live))));
  }

-- ---- a cleaning

-- members that were synced have the same truth to settle
settled_same : (v u : View) → u.truth ≡ v.truth → u.young ≡ v.young → u.resync ≡ v.resync → settled_truth u ≡ settled_truth v
settled_same v u truth young resync =
    ap (λ (t : Super). settled_truth (record u { truth = t })) truth
    ∙ ap (λ (b : Bool). settled_truth (record u { truth = v.truth; young = b })) young
    ∙ ap (λ (r : ℕ). settled_truth (record u { truth = v.truth; young = v.young; resync = r })) resync

pub clean_truth : (v u w : View) (a b c : RackView) → a.lasting → IsArray v → IsArray u → OnlyReads a b → Notes v u a b
    → ((s : State) (durable : Shape) (vals : ℕ → Values) (spent : ℕ → Bool) → IncludesSpent u spent → SyncsArray s v u spent a b durable vals)
    → u.went ≡ [] → is_settled u ≡ false → first_unsynced (settled_truth u) ≤ u.resync
    → (many : ℕ) → WritesSupers (settled u) w b c many
    → (s : State) (vals : ℕ → Values) (spent : ℕ → Bool) → IncludesSpent w spent → MayRenew s v a
    → LeavesTruth s v.number (λ t. array_fields t ≡ array_fields (settled v).truth) (ArrayInvariant s (shape_of v) v vals spent a) a c
clean_truth v u w a b c lasting is_array now reads notes syncs fresh unsettled unsynced many writes s vals spent covers may =
    let n = v.number in
    let may_u = renew_then s v u a b lasting reads.stays is_array now notes fresh may in
    let covers_su = covers_before (settled u) w writes.notes.lost (losing_by (settled u) w b c writes.notes) spent covers in
    let sync = syncs s (shape_of v) vals spent (λ y alive. sym (spent_same u y) ∙ covers_su y alive) in
    let shape = shape_kept v u a b notes fresh in
    let H : Type 0 = ArrayInvariant s (shape_of v) v vals spent a in
    let Middle : Type 0 = ArrayInvariant s (shape_of u) u vals spent b × IsSynced (shape_of u) u.number b.held in
    let middle : H → Middle = λ h. (subst (λ (f : Shape). ArrayInvariant s f u vals spent b) (sym shape) (sync.acts.holds h), sync.settled h) in
    let raise = raised_more u.truth.events may_u.events in
    let lasting_b = reads.stays.lasting lasting in
    let second : LeavesTruth s u.number (HasFieldsOf (settled_truth u)) Middle b c =
    renew_truth s u (raised u.truth.events) (left_offset u) false b c now may_u.state may_u.rows raise.0 raise.1 (left_offset_rows u unsettled) lasting_b may_u.supers writes.only
    Middle vals spent fresh (λ q. q.0)
    (λ q i inside mix.
    even_settled u (settled u) b c i lasting_b writes.only.stays now.few q.0.shape.open_left (q.0.closed fresh) q.1 q.0.shape.even inside mix refl
    (first_unsynced (settled_truth u)) unsynced) in
    truth_then s n (HasFieldsOf (settled_truth v)) H Middle a b c reads.stays middle (supers_reads n a b lasting reads)
    (subst (λ k. LeavesTruth s k (HasFieldsOf (settled_truth v)) Middle b c) notes.same.number
    (subst (λ (t : Super). LeavesTruth s u.number (HasFieldsOf t) Middle b c) (settled_same v u notes.same.truth notes.same.young notes.same.resync) second))
