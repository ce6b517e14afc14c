-- Books that changes lead over, of which an array has the sectors that it had: it may get longer.
use Rattle.std.proofs.Common.{◌≡◌, ℕ, ◌^◌, ◌<◌, ◌==◌, Bool, true, false, if◌then◌else◌, List, ◌∷◌, ◌++◌, refl, ◌∙◌, inl, inr, eqb-true, []}
use Rattle.std.proofs.lemmas.Bool.{and_parts, and_from}
use Rattle.array_model.specs.View.{View}
use Rattle.array_core.specs.Seats.{ready}
use Rattle.raid_laws.specs.Raid.{Raid}
use Rattle.transition_laws.specs.Changes.{Along, by, Change, changed, closed, enlists, failed, makes, readied, steps, wrote}
use Rattle.transition_laws.specs.Holds.{has_sector}
use Rattle.transition_laws.specs.Losses.{AreLosses, is_loss}
use Rattle.transition_laws.proofs.SettledMakes.{settled_sectors}

-- Array n of a book u has the sectors that v's had, and isn't young.
pub record HasOldSectors (v : Raid) (n : ℕ) (u : Raid) : Type 0 where
  pub made : n < u.state.made
  pub small : (u.arrays n).truth.size < 2 ^ 48
  pub young : (u.arrays n).young ≡ false
  pub sectors : (y : ℕ) → has_sector (v.arrays n) y ≡ true → has_sector (u.arrays n) y ≡ true

-- a change leads from such a book to such a one
abbrev pub KeepsOld : Raid → ℕ → Change → Type 0
KeepsOld v n x = (u : Raid) → HasOldSectors v n u → HasOldSectors v n (changed x u)

abbrev pub AllKeepOld : Raid → ℕ → List Change → Type 0
AllKeepOld v n [] = Unit {0}
AllKeepOld v n (x ∷ xs) = KeepsOld v n x × AllKeepOld v n xs

pub old_joined : (v : Raid) (n : ℕ) (xs ys : List Change) → AllKeepOld v n xs → AllKeepOld v n ys → AllKeepOld v n (xs ++ ys)
old_joined v n [] ys one two = two
old_joined v n (x ∷ xs) ys one two = (one.0, old_joined v n xs ys one.1 two)

-- so each of the books is
pub along_old : (v : Raid) (n : ℕ) (xs : List Change) (u : Raid) (P : Raid → Type 0) → AllKeepOld v n xs → HasOldSectors v n u → Along xs u P → (d : Raid) × HasOldSectors v n d × P d
along_old v n [] u P keep old at = (u, old, at)
along_old v n (x ∷ xs) u P keep old (inl here) = (u, old, here)
along_old v n (x ∷ xs) u P keep old (inr later) = along_old v n xs (changed x u) P keep.1 (keep.0 u old) later

pub last_old : (v : Raid) (n : ℕ) (xs : List Change) (u : Raid) → AllKeepOld v n xs → HasOldSectors v n u → HasOldSectors v n (by xs u)
last_old v n [] u keep old = old
last_old v n (x ∷ xs) u keep old = last_old v n xs (changed x u) keep.1 (keep.0 u old)

-- ---- losses

loss_keeps : (v : Raid) (n : ℕ) (x : Change) → is_loss x → KeepsOld v n x
loss_keeps v n (steps m next) is u old = absurd is
loss_keeps v n (makes next) is u old = absurd is
loss_keeps v n readied is u old = absurd is
loss_keeps v n closed is u old = absurd is
loss_keeps v n (enlists place units plan joining) is u old = absurd is
loss_keeps v n (failed lost events) is u old = record {
  made = old.made;
  small = old.small;
  young = old.young;
  sectors = λ y has. settled_sectors (u.arrays n) old.small y ∙ old.sectors y has;
}
loss_keeps v n (wrote m) is u old = absurd is

pub losses_keep : (v : Raid) (n : ℕ) (xs : List Change) → AreLosses xs → AllKeepOld v n xs
losses_keep v n [] are = tt
losses_keep v n (x ∷ xs) are = (loss_keeps v n x are.0, losses_keep v n xs are.1)

-- ---- a change of one array

pub step_keeps : (v : Raid) (n m : ℕ) (next : View) → (n ≡ m → next.truth.size < 2 ^ 48) → (n ≡ m → next.young ≡ false)
    → (n ≡ m → (y : ℕ) → has_sector (v.arrays n) y ≡ true → has_sector next y ≡ true) → KeepsOld v n (steps m next)
step_keeps v n m next small young longer u old = record {
  made = old.made;
  small = of_view (λ w. w.truth.size < 2 ^ 48) small old.small;
  young = of_view (λ w. w.young ≡ false) young old.young;
  sectors = λ y has. of_view (λ w. has_sector w y ≡ true) (λ same. longer same y has) (old.sectors y has);
}
  where
    of_view : (P : View → Type 0) → (n ≡ m → P next) → P (u.arrays n) → P (if n == m then next else u.arrays n)
    of_view P own other = pick (n == m) refl
      where
        pick : (t : Bool) → (n == m) ≡ t → P (if t then next else u.arrays n)
        pick true is = own (eqb-true n m is)
        pick false is = other

-- the young array becomes the volume's
pub ready_keeps : (v : Raid) (n : ℕ) → KeepsOld v n readied
ready_keeps v n u old = record {
  made = old.made;
  small = of_view (n == u.state.joined) (λ w. w.truth.size < 2 ^ 48) old.small old.small;
  young = of_view (n == u.state.joined) (λ w. w.young ≡ false) refl old.young;
  sectors = λ y has. of_view (n == u.state.joined) (λ w. has_sector w y ≡ true) (grown y (u.arrays n).young (old.sectors y has)) (old.sectors y has);
}
  where
    of_view : (t : Bool) (P : View → Type 0) → P (ready (u.arrays n)) → P (u.arrays n) → P (if t then ready (u.arrays n) else u.arrays n)
    of_view true P one two = one
    of_view false P one two = two

    grown : (y : ℕ) (young : Bool) → has_sector (record (u.arrays n) { young = young }) y ≡ true → has_sector (ready (u.arrays n)) y ≡ true
    grown y young has = and_from _ true (and_parts _ _ has).0 refl

-- the plan ends
pub close_keeps : (v : Raid) (n : ℕ) → KeepsOld v n closed
close_keeps v n u old = record { made = old.made; small = old.small; young = old.young; sectors = old.sectors }
