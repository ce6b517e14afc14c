-- A drive is replaced, or isn't: the line's event by what the call says.
use Rattle.std.proofs.Common.{◌≡◌, ℕ, ◌<◌, ◌≤◌, ◌==◌, true, false, not, List, Option, Some, None, option_map, Result, Ok, Err, codes, length, refl, sym, ◌∙◌, ap, subst, inl, inr, eq-eqb, arith}
use Rattle.std.specs.Option.{option_map_or}
use Rattle.std.proofs.lemmas.Bool.{both_ways, cases_Bool, cases_lt}
use Rattle.std.proofs.lemmas.Option.{none-some}
use Rattle.array_core.proofs.Stripped.{some_same}
use Rattle.pool_state.specs.declared.contents.Drive.{Drive}
use Rattle.rack.specs.Moments.{IsSound}
use Rattle.shr_script.specs.Reply.{as_line, refused_line}
use Rattle.pool.specs.declared.replacing.GrowFault.{GrowFault}
use Rattle.pool.specs.declared.replacing.GrowFault.TheVariants.{NoSuchDrive, Attach, Twice, Memory, PlanPending, NotWhole, NotResynced, Size, Smaller, TooManyDrives, TooManyLayers, TooManySegments, Gone}
use Rattle.pool.specs.Naming.{ReplacesDrive}
use Rattle.pool.specs.View.{View, book, volume}
use Rattle.pool.specs.Volume.{unchanged}
use Rattle.pool.proofs.Booked.{raises_still}
use Rattle.pool.proofs.Doing.{does_none}
use Rattle.pool.proofs.Keeping.{marks_same, passes_same}
use Rattle.shr_tool.proofs.Filled.{works_same}
use Rattle.shr_tool.specs.Events.{grow_word, looks_at}
use Rattle.shr_tool.specs.Events.Event.{declined, replaced}
use Rattle.shr_tool.specs.Timeline.{LineContract}
use Rattle.shr_tool.proofs.LostDrive.{IsCut}
use Rattle.shr_tool.proofs.Performing.{marks_for, performs_by, reply_sized}

-- a place of the list is that of the call
pub cut_listed : (x : View) (at place : ℕ) → (volume x).fit → IsCut at place → at < length (book x).state.drives.items → at ≡ place
cut_listed x at place fit cut low =
    let few = fit.0.running.set.few in
    elim (cases_lt place 16) [
      | inl inside ↦ cut.same inside
      | inr past ↦ let out = cut.past past in absurd (omega (arith, few, low, out))
    ]

ok_no_fault : (fault : GrowFault) → ◌≡◌ {A = Result (Unit {0}) GrowFault} (Ok tt) (Err fault) → ⊥
ok_no_fault fault same = cc

same_fault : (e f : GrowFault) → ◌≡◌ {A = Result (Unit {0}) GrowFault} (Err e) (Err f) → e ≡ f
same_fault e f same = cc

-- the drive of a place has so many units where it is said to
pub has_its_units :
    (o : Option Drive) (units disk : ℕ) → option_map (λ (d : Drive). d.units) o ≡ Some units → disk ≡ units → option_map_or (λ (d : Drive). d.units == disk) o false ≡ true
has_its_units None units disk is enough = absurd (none-some units is)
has_its_units (Some d) units disk is enough = eq-eqb d.units disk (some_same d.units units is ∙ sym enough)

pub replace_done :
    (x y : View) (at place : ℕ) (name text : List ℕ) (r : Result (Unit {0}) GrowFault)
    → (volume x).fit
    → IsCut at place
    → r ≡ Ok tt
    → text ≡ as_line (codes "ok")
    → ReplacesDrive x y at name r
    → LineContract x y (replaced place name) text
replace_done x y at place name text r fit cut is_ok is done_r =
    let done_at : ReplacesDrive x y at name (Ok tt) = subst (λ q. ReplacesDrive x y at name q) is_ok done_r in
    let low : at < length (book x).state.drives.items =
    elim (cases_lt at (length (book x).state.drives.items)) [
      | inl low ↦ low
      | inr past ↦ absurd (ok_no_fault NoSuchDrive (done_at.cause.missing.1 past))
    ] in
    let done : ReplacesDrive x y place name (Ok tt) = subst (λ p. ReplacesDrive x y p name (Ok tt)) (cut_listed x at place fit cut low) done_at in
    record {
      continues = done.continues;
      still = λ none. absurd (both_ways false refl none);
      passes = λ none. absurd (both_ways true none refl);
      outside = λ takes. done.outside;
      changes = λ takes. (done.changes (subst (λ p. p < length (book x).state.drives.items) (cut_listed x at place fit cut low) low), done.table, done.steps.enters);
      raises = done.raises;
      keeps = done.keeps;
      works = λ none. absurd (both_ways true none refl);
      cause = (done.cause, done.replaced);
      marks = λ none. absurd (both_ways true none refl);
      text_is = λ a holds. is;
      reply = reply_sized x (replaced place name) text (λ a sized. is);
      holds = done.holds;
      leaves = done.leaves;
      ends = done.ends;
    }

-- no drive has the place: nothing is called
unlisted : (fault : GrowFault) → looks_at fault ≡ false → fault ≡ NoSuchDrive
unlisted NoSuchDrive none = refl
unlisted Attach none = absurd (both_ways true none refl)
unlisted Twice none = absurd (both_ways true none refl)
unlisted Memory none = absurd (both_ways true none refl)
unlisted PlanPending none = absurd (both_ways true none refl)
unlisted NotWhole none = absurd (both_ways true none refl)
unlisted NotResynced none = absurd (both_ways true none refl)
unlisted Size none = absurd (both_ways true none refl)
unlisted Smaller none = absurd (both_ways true none refl)
unlisted TooManyDrives none = absurd (both_ways true none refl)
unlisted TooManyLayers none = absurd (both_ways true none refl)
unlisted TooManySegments none = absurd (both_ways true none refl)
unlisted Gone none = absurd (both_ways true none refl)

unlisted_done :
    (x : View) (at place : ℕ) (name text : List ℕ)
    → (volume x).fit
    → (x.bay.traced → IsSound (volume x))
    → IsCut at place
    → text ≡ refused_line (codes "no-such-drive")
    → ReplacesDrive x x at name (Err NoSuchDrive)
    → LineContract x x (declined place name NoSuchDrive) text
unlisted_done x at place name text fit sound cut is done =
    let event = declined place name NoSuchDrive in
    let few = fit.0.running.set.few in
    let out : length (book x).state.drives.items ≤ at = done.cause.missing.0 refl in
    let past : length (book x).state.drives.items ≤ place =
    elim (cases_lt place 16) [
      | inl inside ↦ subst (λ p. length (book x).state.drives.items ≤ p) (cut.same inside) out
      | inr great ↦ omega (arith, few, great)
    ] in
    performs_by x x event text unchanged unchanged refl (λ none. refl) (passes_same x fit) (raises_still 1 x) (λ none. works_same x) (
      record {
        missing = (λ same. past, λ much. refl);
        attach = λ same. absurd (let wrong = same_fault NoSuchDrive Attach same in cc);
        none = λ never. refl;
        used = done.cause.used;
        twice = (λ same. absurd (let wrong = same_fault NoSuchDrive Twice same in cc), λ both. absurd (let low = both.0 in omega (arith, low, past)));
        named = λ looked. absurd (let low = looked.listed in omega (arith, low, past));
        answer = λ looked. absurd (let low = looked.listed in omega (arith, low, past));
        gone = λ same. absurd (let wrong = same_fault NoSuchDrive Gone same in cc);
        not_whole = λ same. absurd (let wrong = same_fault NoSuchDrive NotWhole same in cc);
      },
      record {
        marks = done.declined.marks;
        plan = done.declined.plan;
        arrays = done.declined.arrays;
        cause = done.declined.cause;
        slices = inl refl;
        unmarked = λ is. absurd (let wrong : NoSuchDrive ≡ Gone = is in cc wrong);
        others = λ is. absurd (let wrong : NoSuchDrive ≡ Gone = is in cc wrong);
        quiet = done.declined.quiet;
      },
    )
    (marks_for x x event (passes_same x fit) (marks_same x (λ p. ⊥)))
    (λ a sized. is)
    (λ a holds. refl)
    (λ a holds. inl refl)
    (does_none x (passes_same x fit) sound)

pub decline_done :
    (x y : View) (at place : ℕ) (name text : List ℕ) (r : Result (Unit {0}) GrowFault) (fault : GrowFault)
    → (volume x).fit
    → (x.bay.traced → IsSound (volume x))
    → IsCut at place
    → r ≡ Err fault
    → text ≡ refused_line (grow_word fault)
    → (fault ≡ NoSuchDrive → y ≡ x)
    → ReplacesDrive x y at name r
    → LineContract x y (declined place name fault) text
decline_done x y at place name text r fault fit sound cut refused is still done_r =
    let done_at : ReplacesDrive x y at name (Err fault) = subst (λ q. ReplacesDrive x y at name q) refused done_r in
    elim (cases_Bool (looks_at fault)) [
      | inr none ↦
          let same : fault ≡ NoSuchDrive = unlisted fault none in
          subst (λ f. LineContract x y (declined place name f) text) (sym same)
          (subst (λ z. LineContract x z (declined place name NoSuchDrive) text) (sym (still same))
          (unlisted_done x at place name text fit sound cut (subst (λ f. text ≡ refused_line (grow_word f)) same is)
          (subst (λ z. ReplacesDrive x z at name (Err NoSuchDrive)) (still same) (subst (λ f. ReplacesDrive x y at name (Err f)) same done_at))))
      | inl looks ↦
          let low : at < length (book x).state.drives.items =
          elim (cases_lt at (length (book x).state.drives.items)) [
            | inl low ↦ low
            | inr past ↦
                absurd
                (both_ways (looks_at fault)
                (ap looks_at (same_fault fault NoSuchDrive (done_at.cause.missing.1 past)))
                looks)
          ] in
          let done : ReplacesDrive x y place name (Err fault) =
          subst (λ p. ReplacesDrive x y p name (Err fault)) (cut_listed x at place fit cut low) done_at in
          record {
            continues = done.continues;
            still = λ none. absurd (both_ways (not (looks_at fault)) (ap not looks) none);
            passes = λ none. absurd (both_ways (looks_at fault) none looks);
            outside = λ takes. done.outside;
            changes = λ takes. (done.changes (subst (λ p. p < length (book x).state.drives.items) (cut_listed x at place fit cut low) low), done.steps.left);
            raises = done.raises;
            keeps = done.kept;
            works = λ none. record { arrays = done.declined.arrays; plan = done.declined.plan };
            cause = (done.cause, done.declined);
            marks = λ none. absurd (both_ways (looks_at fault) none looks);
            text_is = λ a holds. is;
            reply = reply_sized x (declined place name fault) text (λ a sized. is);
            holds = done.holds;
            leaves = λ traced a holds k i since until stopped.
                elim (done.leaves traced a holds k i since until stopped) [
                  | inl former ↦ inl (inl former)
                  | inr means ↦ inr means
                ];
            ends = done.ends;
          }
    ]
