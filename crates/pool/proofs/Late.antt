-- A refusal by how the pool stands is none of those that come before it is looked at.
use Rattle.std.specs.Prelude.{Result, Ok, Err}
use Rattle.std.specs.Bool.{then_some}
use Rattle.std.specs.Option.{option_or}
use Rattle.std.proofs.Common.{◌≡◌, ◌≢◌, ℕ, not, Bool, true, false, List, [], ◌∷◌, Option, Some, None, option_map, sym, ap, subst, ◌∙◌, inl, inr}
use Rattle.growth_plan.specs.Admission.{first_refusal, replace_refusals}
use Rattle.growth_plan.specs.declared.AdmitFault.{AdmitFault}
use Rattle.growth_plan.specs.declared.AdmitFault.TheVariants.{Size as OfSize, Smaller as OfSmaller, TooManyDrives as OfDrives, TooManyLayers as OfLayers}
use Rattle.lvm_group.specs.Runs.{Linear}
use Rattle.raid_laws.specs.Raid.{Raid}
use Rattle.shr_base.specs.Units.{units_of}
use Rattle.pool.specs.declared.replacing.GrowFault.{GrowFault}
use Rattle.pool.specs.declared.replacing.GrowFault.TheVariants.{NoSuchDrive, Attach, Twice, Memory, Gone, PlanPending, NotWhole, NotResynced, Smaller, TooManySegments}
use Rattle.pool.specs.Replaced.{IsAnswer}
use Rattle.pool.specs.Replacing.{fault_of, first_cause, has_other_missing, has_resync, is_planned, lacks_segments, reaches_own, refusal_of, standing_refusals}
use Rattle.pool.specs.Works.{arrays_now}

abbrev pub Answer : Type 0
Answer = Result (Unit {0}) GrowFault

pub same_fault : (e f : GrowFault) → ◌≡◌ {A = Answer} (Err e) (Err f) → e ≡ f
same_fault e f same = cc

pub same_of : (e f : GrowFault) → ◌≡◌ {A = Result ℕ GrowFault} (Err e) (Err f) → e ≡ f
same_of e f same = cc

pub never_fault : (e : GrowFault) → ◌≡◌ {A = Answer} (Ok tt) (Err e) → ⊥
never_fault e same = cc

-- a refusal that is looked for once a disk is there
pub record IsLate (f : GrowFault) : Type 0 where
  pub listed : f ≢ NoSuchDrive
  pub attached : f ≢ Attach
  pub had : f ≢ Memory
  pub other : f ≢ Twice

pub late_planned : IsLate PlanPending × (PlanPending ≢ Gone)
late_planned = (record { listed = λ same. cc; attached = λ same. cc; had = λ same. cc; other = λ same. cc }, λ same. cc)

pub late_whole : IsLate NotWhole × (NotWhole ≢ Gone)
late_whole = (record { listed = λ same. cc; attached = λ same. cc; had = λ same. cc; other = λ same. cc }, λ same. cc)

pub late_resynced : IsLate NotResynced × (NotResynced ≢ Gone)
late_resynced = (record { listed = λ same. cc; attached = λ same. cc; had = λ same. cc; other = λ same. cc }, λ same. cc)

pub late_gone : IsLate Gone
late_gone = record { listed = λ same. cc; attached = λ same. cc; had = λ same. cc; other = λ same. cc }

late_segments : IsLate TooManySegments × (TooManySegments ≢ Gone)
late_segments = (record { listed = λ same. cc; attached = λ same. cc; had = λ same. cc; other = λ same. cc }, λ same. cc)

late_plan : (fault : AdmitFault) → IsLate (fault_of fault) × (fault_of fault ≢ Gone)
late_plan OfSize = (record { listed = λ same. cc; attached = λ same. cc; had = λ same. cc; other = λ same. cc }, λ same. cc)
late_plan OfSmaller = (record { listed = λ same. cc; attached = λ same. cc; had = λ same. cc; other = λ same. cc }, λ same. cc)
late_plan OfDrives = (record { listed = λ same. cc; attached = λ same. cc; had = λ same. cc; other = λ same. cc }, λ same. cc)
late_plan OfLayers = (record { listed = λ same. cc; attached = λ same. cc; had = λ same. cc; other = λ same. cc }, λ same. cc)

abbrev pub AreLate : Option GrowFault → Type 0
AreLate o = (f : GrowFault) → o ≡ Some f → IsLate f × (f ≢ Gone)

pub late_none : AreLate None
late_none f is = absurd (let bad : None ≡ Some f = is in cc bad)

pub late_some : (e : GrowFault) → IsLate e × (e ≢ Gone) → AreLate (Some e)
late_some e late f is = let same : e ≡ f = cc is in subst (λ g. IsLate g × (g ≢ Gone)) same late

pub late_cause : (e : GrowFault) (cause : Bool) (rest : List (GrowFault × Bool)) → IsLate e × (e ≢ Gone) → AreLate (first_cause rest) → AreLate (first_cause ((e, cause) ∷ rest))
late_cause e true rest late others = late_some e late
late_cause e false rest late others = others

pub late_or : (a b : Option GrowFault) → AreLate a → AreLate b → AreLate (option_or a b)
late_or None b one two = two
late_or (Some e) b one two = one

pub late_map : (o : Option AdmitFault) → AreLate (option_map fault_of o)
late_map None = late_none
late_map (Some fault) = late_some (fault_of fault) (late_plan fault)

pub late_if : (b : Bool) → AreLate (then_some b TooManySegments)
late_if true = late_some TooManySegments late_segments
late_if false = late_none

standing_late : (a b d : Bool) → AreLate (first_cause ((PlanPending, a) ∷ (NotWhole, b) ∷ (NotResynced, d) ∷ []))
standing_late a b d =
    late_cause PlanPending a ((NotWhole, b) ∷ (NotResynced, d) ∷ []) late_planned
    (late_cause NotWhole b ((NotResynced, d) ∷ []) late_whole (late_cause NotResynced d [] late_resynced late_none))

-- that of a plan, of the room, or of the arrays of the place
first_late : (standing : Option GrowFault) (plan : Option AdmitFault) (lacks misses : Bool) → AreLate standing
    → AreLate (option_or (option_or standing (option_or (option_map fault_of plan) (then_some lacks TooManySegments))) (then_some misses Smaller))
first_late standing plan lacks misses late =
    late_or (option_or standing (option_or (option_map fault_of plan) (then_some lacks TooManySegments))) (then_some misses Smaller)
    (late_or standing (option_or (option_map fault_of plan) (then_some lacks TooManySegments)) late
    (late_or (option_map fault_of plan) (then_some lacks TooManySegments) (late_map plan) (late_if lacks)))
    (late_smaller misses)
  where
    late_smaller : (b : Bool) → AreLate (then_some b Smaller)
    late_smaller true = late_some Smaller (late_plan OfSmaller)
    late_smaller false = late_none

pub refusal_late : (l : Linear) (v : Raid) (place sectors : ℕ) → AreLate (refusal_of l v place sectors)
refusal_late l v place sectors =
    let units = units_of sectors v.state.extent in
    first_late (first_cause (standing_refusals v place)) (first_refusal (replace_refusals v.state (arrays_now v) place units)) (lacks_segments l v place units) (not (reaches_own v place sectors))
    (standing_late (is_planned v.state.plan) (has_other_missing v.state place) (has_resync (arrays_now v)))

-- so is each answer
pub answer_late : (o : Option GrowFault) → AreLate o → (r : Answer) → IsAnswer o r → (f : GrowFault) → r ≡ Err f → IsLate f
answer_late (Some e) late r same f is = (late f (ap Some (same_fault e f (sym same ∙ is)))).0
answer_late None late r (inl served) f is = absurd (never_fault f (sym served ∙ is))
answer_late None late r (inr (inl gone)) f is = subst IsLate (same_fault Gone f (sym gone ∙ is)) late_gone
answer_late None late r (inr (inr whole)) f is = subst IsLate (same_fault NotWhole f (sym whole ∙ is)) late_whole.0
