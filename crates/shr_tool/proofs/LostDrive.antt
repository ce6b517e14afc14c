-- A drive is lost, or isn't: the line's event by what the call says.
use Rattle.std.proofs.Common.{◌≡◌, ℕ, ◌<◌, ◌≤◌, true, false, not, List, Result, Ok, Err, OnErr, codes, refl, sym, ◌∙◌, ap, subst, inl, inr, arith}
use Rattle.std.specs.Prelude.{min}
use Rattle.std.specs.Option.{option_map_or}
use Rattle.std.proofs.lemmas.Bool.{both_ways, cases_lt, cases_Bool}
use Rattle.std.proofs.lemmas.Option.{slice_get_past}
use Rattle.std.proofs.Math.Nat.{le-min, min-eq_left}
use Rattle.shr_script.specs.declared.Command.TheVariants.{Lose}
use Rattle.shr_script.specs.Reply.{as_line, refused_line}
use Rattle.array_image.specs.States.{is_current}
use Rattle.raid_laws.specs.Losses.{has_other}
use Rattle.pool.specs.declared.calls.LoseFault.{LoseFault}
use Rattle.pool.specs.declared.calls.LoseFault.TheVariants.{LastDrive, NoSuchDrive}
use Rattle.pool.specs.View.{View, book, volume}
use Rattle.pool.specs.Volume.{unchanged}
use Rattle.pool.specs.Calls.{LosesDrive, CallFrame}
use Rattle.pool.specs.Moment.{moment_of}
use Rattle.shr_tool.specs.Events.{Event}
use Rattle.shr_tool.specs.Events.Event.{answered, lost, last}
use Rattle.shr_tool.specs.Timeline.{MarksFor, LineContract}
use Rattle.shr_tool.proofs.Performing.{performs_by}

-- a pool has at most 16 drives
none_past : (x : View) (place : ℕ) → (volume x).fit → 16 ≤ place → is_current (book x).state place ≡ false
none_past x place fit past =
    let few = fit.0.running.set.few in
    let none = slice_get_past (book x).state.drives.items place (omega arith) in
    ap (λ drive. option_map_or (λ d. not d.missing) drive false) none

-- a place as the call has it: itself, or no place, like itself
pub record IsCut (at place : ℕ) : Type 0 where
  pub same : place < 16 → at ≡ place
  pub past : 16 ≤ place → 16 ≤ at

-- the place of a line, cut at the last number of 32 bits
pub is_cut : (at place most : ℕ) → most ≡ 4294967295 → at ≡ min place most → IsCut at place
is_cut at place most most_is least = record {
  same = λ small. least ∙ min-eq_left (omega arith);
  past = λ great. subst (λ n. 16 ≤ n) (sym least) (le-min great (omega arith));
}

current_cut : (x : View) (at place : ℕ) → (volume x).fit → IsCut at place → is_current (book x).state at ≡ is_current (book x).state place
current_cut x at place fit cut =
    elim (cases_lt place 16) [
      | inl inside ↦ ap (is_current (book x).state) (cut.same inside)
      | inr past ↦ none_past x at fit (cut.past past) ∙ sym (none_past x place fit past)
    ]

-- a current place is that of the call
cut_current : (x : View) (at place : ℕ) → (volume x).fit → IsCut at place → is_current (book x).state at ≡ true → at ≡ place
cut_current x at place fit cut current =
    elim (cases_lt place 16) [
      | inl inside ↦ cut.same inside
      | inr past ↦ absurd (both_ways (is_current (book x).state at) (none_past x at fit (cut.past past)) current)
    ]

pub lose_done :
    (x y : View) (at place : ℕ) (text : List ℕ) (r : Result (Unit {0}) LoseFault)
    → (volume x).fit
    → IsCut at place
    → r ≡ Ok tt
    → text ≡ as_line (codes "ok")
    → LosesDrive x y at r
    → LineContract x y (lost place) text
lose_done x y at place text r fit cut is_ok is loses_r =
    let loses : LosesDrive x y at {X = Unit {0}} (Ok tt) = subst (λ q. LosesDrive x y at q) is_ok loses_r in
    let current : is_current (book x).state at ≡ true =
    elim (cases_Bool (is_current (book x).state at)) [
      | inl current ↦ current
      | inr missing ↦ absurd (let other = loses.missing.1 missing in cc)
    ] in
    let same : at ≡ place = cut_current x at place fit cut current in
    performs_by x y (lost place) text unchanged unchanged refl (λ none. absurd (both_ways false refl none)) loses.passes loses.raises (λ none. loses.works) (
      subst (λ p. is_current (book x).state p ≡ true) same current,
      subst (λ p. is_current (book y).state p ≡ false) same loses.lost,
    )
    (record {
      after = loses.passes.marks;
      cause = λ p was now. elim (loses.marks p was now) [ inl rose ↦ inl rose | inr this ↦ inr (ap lost (sym (this ∙ same))) ];
    })
    (λ a sized. is)
    (λ a holds. refl)
    (λ a holds. inl refl)
    loses.does

-- what holds where a call is refused
pub kept_by : {X E K : Type 0} (r : Result X E) (e : E) → r ≡ Err e → OnErr r K → K
kept_by {X} {E} {K} r e refused kept = subst (λ q. OnErr q K) refused kept

-- refused, it marks no drive
still_marks : (x y : View) (event : Event) → CallFrame x y → book y ≡ book x → MarksFor (moment_of x) (moment_of y) event
still_marks x y event passes same = record {
  after = passes.marks;
  cause = λ p was now. absurd (both_ways (is_current (book x).state p) (subst (λ b. is_current b.state p ≡ false) same now) was);
}

pub lose_missing :
    (x y : View) (at place : ℕ) (text : List ℕ) (r : Result (Unit {0}) LoseFault)
    → (volume x).fit
    → IsCut at place
    → r ≡ Err NoSuchDrive
    → book y ≡ book x
    → text ≡ refused_line (codes "no-such-drive")
    → LosesDrive x y at r
    → LineContract x y (answered (Ok (Lose place))) text
lose_missing x y at place text r fit cut refused same is loses =
    let missing = loses.missing.0 refused in
    performs_by x y (answered (Ok (Lose place))) text unchanged unchanged refl (λ none. absurd (both_ways false refl none)) loses.passes loses.raises (λ none. loses.works) (
      λ s touches. absurd touches,
      λ s touches. absurd touches,
      λ p line.
          let this : place ≡ p = cc in
          subst (λ q. is_current (book x).state q ≡ false) this (sym (current_cut x at place fit cut) ∙ missing),
      tt,
    )
    (still_marks x y _ loses.passes same)
    (λ a sized. is)
    (λ a holds. refl)
    (λ a holds. inl refl)
    loses.does

pub lose_last :
    (x y : View) (at place : ℕ) (text : List ℕ) (r : Result (Unit {0}) LoseFault)
    → (volume x).fit
    → IsCut at place
    → r ≡ Err LastDrive
    → book y ≡ book x
    → text ≡ refused_line (codes "last-drive")
    → LosesDrive x y at r
    → LineContract x y (last place) text
lose_last x y at place text r fit cut refused same is loses =
    let cause = loses.last.0 refused in
    let this : at ≡ place = cut_current x at place fit cut cause.0 in
    performs_by x y (last place) text unchanged unchanged refl (λ none. absurd (both_ways false refl none)) loses.passes loses.raises (λ none. loses.works) (
      subst (λ p. is_current (book x).state p ≡ true) this cause.0,
      subst (λ p. has_other (book x).state p ≡ false) this cause.1,
    )
    (still_marks x y _ loses.passes same)
    (λ a sized. is)
    (λ a holds. refl)
    (λ a holds. inl refl)
    loses.does
