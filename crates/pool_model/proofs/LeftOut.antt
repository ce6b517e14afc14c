-- Disks that are no drives of a pool may be left out of its contents: these say of the pool what they said.
use Rattle.std.proofs.Common.{◌≡◌, ◌≢◌, ◌⊎◌, ℕ, ◌+◌, ◌<◌, bytes_eq, position, true, Option, Some, None, sym, ap, ap₂, subst, ◌∙◌, refl, inl, inr}
use Rattle.std.specs.Option.{option_and_then}
use Rattle.std.proofs.lemmas.Option.{none-some}
use Rattle.rack.specs.Seen.{Image}
use Rattle.gpt_table.specs.declared.Table.{Table}
use Rattle.gpt_table.specs.Changes.{the_table}
use Rattle.gpt_table.specs.Disk.{Contents}
use Rattle.pool_state.specs.declared.contents.Copied.{Copied}
use Rattle.pool_state.specs.declared.contents.Drive.{Drive}
use Rattle.pool_state.specs.declared.contents.State.{State}
use Rattle.array_image.specs.Places.{drive_id, super_sector}
use Rattle.array_image.specs.States.{is_current}
use Rattle.log_laws.specs.Kept.{IsNoLater}
use Rattle.pool_image.specs.Disks.{Identities, Identity, id_by, identities_of, stands_for}
use Rattle.pool_image.specs.Drives.{Found}
use Rattle.pool_model.specs.Alone.{IsSilent, IsStranger, IsTabled, LeaveOut, SaysNoImpostor}
use Rattle.pool_model.specs.InService.{HasSeat, IsArranged, IsSaid, epoch_at}
use Rattle.pool_model.specs.Left.{NoStraySuperblockBy, HasNoSuper}
use Rattle.pool_model.proofs.Alike.{outset_said}

-- a disk that says nothing stands for no place
silent_id : (z : Identity) → IsSilent z → id_by z.table z.copied ≡ None
silent_id z silent = ap₂ (λ (t : Option Table) (c : Option Copied). id_by t c) silent.table silent.state

silent_stands : (s : State) (z : Identity) → IsSilent z → (p : ℕ) → stands_for s z ≢ Some p
silent_stands s z silent p stands =
    none-some p (sym (ap (option_and_then (λ id. position (λ (e : Drive). bytes_eq e.id.0 id) s.drives.items)) (silent_id z silent)) ∙ stands)

-- and is a stranger
silent_stranger : (f : Found) (bound : ℕ) (z : Identity) → IsSilent z → IsStranger f bound z
silent_stranger f bound z silent = record {
  apart = record {
    stands = λ p d seat stands. silent_stands f.state z silent p stands;
    pool = λ copy here. absurd (none-some copy (sym silent.state ∙ here));
  };
  ungiven = λ serial later early same. none-some (drive_id f.state.pool.0 serial) (sym (silent_id z silent) ∙ same);
}

-- one of two, by which holds
by_either : {X Y Z : Type 0} → X ⊎ Y → Z → Z → Z
by_either (inl x) a b = a
by_either (inr y) a b = b

module _ (f : Found) (Out : ℕ → Type 0) (i j : Image) (leave : LeaveOut f Out i j) where
  -- a drive's disk stays
  pub stays : (p d : ℕ) → f.seats p ≡ Some d → j d ≡ i d
  stays p d seat = elim (leave d) [ inl same ↦ same.1 | inr out ↦ absurd (out.0 p seat) ]

  pub alone_out : (s : State) → NoStraySuperblockBy s f i → NoStraySuperblockBy s f j
  alone_out s alone n p d first low counts seat none begins within =
      subst (λ (c : Contents). HasNoSuper f.state.pool.0 n (c (first + super_sector))) (sym (stays p d seat)) (alone n p d first low counts seat none begins within)

  -- where all drives are current none of those that stay is one of `Out`
  pub says_out : (bound : ℕ) (s : State) → ((p d : ℕ) → f.seats p ≡ Some d → is_current s p ≡ true) → SaysNoImpostor f bound Out s i → SaysNoImpostor f bound (λ d. ⊥) s j
  says_out bound s all says = record {
    tables = λ p d seat why. subst (IsTabled f p (f.disks.sectors d)) (sym (stays p d seat)) (says.tables p d seat (inl (all p d seat)));
    others = λ d never none low. elim (leave d) [
      | inl same ↦
          subst (IsStranger f bound) (ap (λ (c : Contents). identities_of f.disks (λ k. c) d) (sym same.1))
          (says.others d never (λ out. let one = same.0 out in never one.0 one.1) low)
      | inr out ↦ silent_stranger f bound (identities_of f.disks j d) out.1
    ];
  }

  -- what the disks say then
  module _ (said : IsSaid f i) (arranged : IsArranged f) where
    abbrev says : Identities
    says = λ d. by_either (leave d) (said.identities d) (identities_of f.disks j d)

    record Says (d : ℕ) : Type 0 where
      pub or : ((j d ≡ i d) × (says d ≡ said.identities d)) ⊎ (((p : ℕ) → f.seats p ≡ Some d → ⊥) × IsSilent (says d) × (says d ≡ identities_of f.disks j d))

    says_either : (d : ℕ) → Says d
    unfolding by_either
    says_either d = of (leave d) refl
      where
        of : (o : ((Out d → (p : ℕ) × (f.seats p ≡ Some d)) × (j d ≡ i d)) ⊎ (((p : ℕ) → f.seats p ≡ Some d → ⊥) × IsSilent (identities_of f.disks j d))) → leave d ≡ o → Says d
        of (inl same) is = record { or = inl (same.1, ap (λ k. by_either k (said.identities d) (identities_of f.disks j d)) is) }
        of (inr out) is =
            let here : says d ≡ identities_of f.disks j d = ap (λ k. by_either k (said.identities d) (identities_of f.disks j d)) is in
            record { or = inr (out.0, subst IsSilent (sym here) out.1, here) }

    seat_said : (p d : ℕ) → f.seats p ≡ Some d → says d ≡ said.identities d
    seat_said p d seat = elim (says_either d).or [ inl same ↦ same.1 | inr out ↦ absurd (out.0 p seat) ]

    copies : (d : ℕ) (copy : Copied) → d < f.disks.count → (says d).copied ≡ Some copy → IsNoLater f.state copy
    copies d copy low here = elim (says_either d).or [
      | inl same ↦ said.outset.copies d copy low (ap (λ (z : Identity). z.copied) (sym same.1) ∙ here)
      | inr out ↦ absurd (none-some copy (sym out.1.state ∙ here))
    ]

    seated : (p d : ℕ) → f.seats p ≡ Some d → HasSeat (record f { identities = says }) p d
    seated p d seat =
        let was = said.outset.seated p d seat in
        record {
          current = was.current;
          low = was.low;
          stands = ap (stands_for f.state) (seat_said p d seat) ∙ was.stands;
          before = λ q less never stands. elim (says_either q).or [
            | inl same ↦
                subst (λ (z : Identity). epoch_at z < f.state.epoch) (sym same.1)
                (was.before q less never (ap (stands_for f.state) (sym same.1) ∙ stands))
            | inr out ↦ absurd (silent_stands f.state (says q) out.1 p stands)
          ];
        }

    pub said_out : IsSaid f j
    said_out = record {
      identities = says;
      outset = outset_said f says arranged.made.1 arranged.truths arranged copies seated;
      elsewhere = record {
        tables = λ p d seat.
            ap (the_table (f.disks.sectors d)) (stays p d seat) ∙ said.elsewhere.tables p d seat ∙ ap (λ (z : Identity). z.table) (sym (seat_said p d seat));
        others = λ d never low. elim (says_either d).or [
          | inl same ↦ ap (λ (c : Contents). identities_of f.disks (λ k. c) d) same.0 ∙ said.elsewhere.others d never low ∙ sym same.1
          | inr out ↦ sym out.2
        ];
      };
    }
