-- What flags say of the copies of tables, as places are checked one after the other.
use Rattle.std.proofs.Common.{◌≡◌, ◌↔◌, ℕ, ◌+◌, ◌<◌, ◌==◌, Bool, true, false, if◌then◌else◌, List, length, set, Some, inl, inr, sym, ap, subst, ◌∙◌, arith}
use Rattle.std.proofs.lemmas.Bool.{cases_eq, eq-eqb}
use Rattle.std.proofs.lemmas.List.{get_or-set_other, get_or-set_same}
use Rattle.rack.specs.Seen.{RackView}
use Rattle.rack.specs.Sequences.{OnlyReads}
use Rattle.gpt_table.specs.Disk.{CopiesAgree}
use Rattle.pool_image.specs.Disks.{Seats}
use Rattle.pool_scan.proofs.Sights.{agrees_then}
use Rattle.pool_check.specs.Drives.{flag_by}
use Rattle.pool_check.specs.Settling.{IsAgreement}
use Rattle.pool_check.proofs.Finding.{differs}

-- a flag that is put
pub flag_in : (flags : List Bool) (place : ℕ) (flag : Bool) → place < length flags → (p : ℕ)
    → flag_by (set flags place flag) p ≡ (if p == place then flag else flag_by flags p)
flag_in flags place flag within p =
    elim (cases_eq p place) [
      | inl here ↦
          ap (flag_by (set flags place flag)) here ∙ get_or-set_same flags place flag false within
          ∙ sym (ap (λ (b : Bool). if b then flag else flag_by flags p) (eq-eqb p place here))
      | inr other ↦
          get_or-set_other flags place p flag false other ∙ sym (ap (λ (b : Bool). if b then flag else flag_by flags p) (differs p place other))
    ]

-- what is said after reads was so before them
pub agreement_then : (x y : RackView) (d : ℕ) (flag : Bool) → OnlyReads x y → d < x.disks → IsAgreement y d flag → IsAgreement x d flag
agreement_then x y d flag reads inside says told contents agrees =
    subst (λ (n : ℕ). (flag ≡ true) ↔ CopiesAgree n contents) (reads.stays.sectors d)
    (says (reads.stays.told d told) contents (agrees_then {x = x} {y = y} d contents reads inside told agrees))

-- one place more is compared
pub compared_more : (x : RackView) (seats : Seats) (before after : List Bool) (place : ℕ) (flag : Bool)
    → ((p : ℕ) → flag_by after p ≡ (if p == place then flag else flag_by before p))
    → ((p d : ℕ) → p < place → seats p ≡ Some d → IsAgreement x d (flag_by before p))
    → ((d : ℕ) → seats place ≡ Some d → IsAgreement x d flag)
    → (p d : ℕ) → p < place + 1 → seats p ≡ Some d → IsAgreement x d (flag_by after p)
compared_more x seats before after place flag put old here p d below seat =
    elim (cases_eq p place) [
      | inl same ↦
          subst (IsAgreement x d) (sym (put p ∙ ap (λ (b : Bool). if b then flag else flag_by before p) (eq-eqb p place same)))
          (here d (ap seats (sym same) ∙ seat))
      | inr other ↦
          subst (IsAgreement x d) (sym (put p ∙ ap (λ (b : Bool). if b then flag else flag_by before p) (differs p place other)))
          (old p d (omega (arith, below, other)) seat)
    ]
