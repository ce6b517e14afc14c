-- Log slices of a pool some of whose places have no disk, and so no log slice: where nothing is pending they hold all copies of the state.
use Rattle.std.proofs.Common.{◌≡◌, ℕ, ◌<◌, ◌≤◌, Bool, true, false, if◌then◌else◌, [], List, Ok, unwrap_or, sym, ap, ◌∙◌, inl, inr, le-ltb, arith}
use Rattle.std.specs.Result.{result_ok}
use Rattle.std.proofs.lemmas.Bool.{cases_Bool, cases_lt}
use Rattle.std.proofs.lemmas.Option.{none-some}
use Rattle.rack.specs.Seen.{Image, RackView}
use Rattle.rack.specs.Targets.{Target, look}
use Rattle.rack.specs.Values.{MayLeave}
use Rattle.shr_base.specs.Blocks.{bytes_at, number_at}
use Rattle.pool_state.specs.declared.contents.Copied.{Copied}
use Rattle.pool_state.specs.declared.contents.State.{State}
use Rattle.pool_state.specs.Sector.{decoded}
use Rattle.array_image.specs.Arrays.{replayed}
use Rattle.array_image.specs.Places.{log_slice, place_of}
use Rattle.array_image.specs.Record.{pending}
use Rattle.log_laws.specs.Commits.{Stands}
use Rattle.log_laws.specs.Kept.{LogInvariant}
use Rattle.log_laws.specs.Saying.{CopiesIn, HoldsCopies}
use Rattle.log_laws.specs.Standing.{LogsStand, deciding}
use Rattle.raid_laws.specs.Book.{after_same}
use Rattle.raid_laws.specs.Since.{HoldsSince}

-- of nothing no copy is decoded
nothing_decodes : (copy : Copied) → decoded [] ≡ Ok copy → ⊥
unfolding number_at bytes_at
nothing_decodes copy is = none-some copy (ap result_ok is)

module _ (s : State) (number : ℕ) (gone : ℕ → Bool) (x : RackView) (kept : LogInvariant s number gone x) (none : (p : ℕ) → gone p ≡ true → x.sectors (log_slice p) ≡ 0)
    (idle : (c : Image) → LogsStand x c → pending (deciding c) c ≡ []) where
  -- a place that has a log slice hasn't gone
  left : (p : ℕ) → 0 < x.sectors (log_slice p) → gone p ≡ false
  left p there = elim (cases_Bool (gone p)) [ inr is ↦ is | inl went ↦ (let nothing = none p went in absurd (omega (arith, nothing, there))) ]

  module _ (c : Image) (stand : Stands x c) where
    may : (p : ℕ) → p < 16 → 0 < x.sectors (log_slice p) → MayLeave (x.held (log_slice p) 0) (c (log_slice p) 0)
    may p few there = stand.picks (log_slice p) 0 (kept.logs p 0 few there)

    -- replaying changes no copy
    quiet : (p : ℕ) → replayed x.sectors c (log_slice p) 0 ≡ c (log_slice p) 0
    unfolding replayed
    quiet p = elim (cases_lt 0 (x.sectors (log_slice p))) [
      | inl there ↦ kept.quiet c stand (log_slice p) 0 (let at : place_of (log_slice p) ≡ p = omega arith in ap gone at ∙ left p there)
      | inr past ↦
          ap (λ (b : Bool). if b then unwrap_or (look (pending (deciding c) c) (log_slice p) 0) (c (log_slice p) 0) else c (log_slice p) 0) (le-ltb 0 (x.sectors (log_slice p)) past)
    ]

    nothing : (p : ℕ) (copy : Copied) → x.sectors (log_slice p) ≤ 0 → decoded (replayed x.sectors c (log_slice p) 0) ≡ Ok copy → ⊥
    nothing p copy past is = nothing_decodes copy (ap decoded (sym (quiet p ∙ stand.inside p 0 past)) ∙ is)

    copies_in : CopiesIn s x.sectors (replayed x.sectors c)
    copies_in = record {
      own = λ p current there.
          let few = kept.few p current in
          let copy = kept.copies.own p (c (log_slice p) 0) current (left p there) (may p few there) in
          record { own = copy.own; copy = ap decoded (quiet p) ∙ copy.copy; drive = copy.drive };
      others = λ p copy few is. elim (cases_lt 0 (x.sectors (log_slice p))) [
        | inl there ↦ kept.copies.others p (c (log_slice p) 0) copy few there (may p few there) (ap decoded (sym (quiet p)) ∙ is)
        | inr past ↦ absurd (nothing p copy past is)
      ];
      earlier = λ p copy few former is. elim (cases_lt 0 (x.sectors (log_slice p))) [
        | inl there ↦ kept.copies.earlier p (c (log_slice p) 0) copy few former there (may p few there) (ap decoded (sym (quiet p)) ∙ is)
        | inr past ↦ absurd (nothing p copy past is)
      ];
    }

  pub absent_holds : HoldsCopies s x
  unfolding look
  absent_holds = record {
    copies = copies_in;
    brings = λ c logs p u is. absurd (none-some u (sym (ap (λ (xs : List Target). look xs (log_slice p) 0) (idle c logs)) ∙ is));
    inside = λ c logs d t v is. absurd (none-some v (sym (ap (λ (xs : List Target). look xs d t) (idle c logs)) ∙ is));
  }

  pub absent_since : HoldsSince s x
  absent_since p u few there may = record {
    own = λ now.
        let copy = kept.copies.own p u now (left p there) may in
        record { copy = record { state = s; own = copy.own }; is = copy.copy; after = after_same s; drive = copy.drive };
    former = λ copy past is. kept.copies.earlier p u copy few past there may is;
  }
