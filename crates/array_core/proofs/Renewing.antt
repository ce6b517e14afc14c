-- Superblocks that are written one after the other.
use Rattle.std.proofs.Common.{◌≡◌, ◌≢◌, ◌⊎◌, ℕ, ◌+◌, ◌<◌, Bool, true, false, ◌==◌, eq-eqb, if◌then◌else◌, List, slice_get, Option, Some, None, option_map, unwrap_or, Ok, Err, refl, sym, ap, subst, ◌∙◌, inl, inr, arith}
use Rattle.std.proofs.lemmas.Bool.{cases_lt}
use Rattle.rack.specs.declared.Gone.{Gone}
use Rattle.rack.specs.Values.{MayLeave}
use Rattle.rack.specs.Seen.{RackView, IsLive}
use Rattle.rack.specs.Joins.{live_first, live_second}
use Rattle.rack.specs.Sequences.{WritesDurably}
use Rattle.rack.proofs.Writing.{only_none, only_weaker, only_then}
use Rattle.rack.proofs.Durably.{durable_only}
use Rattle.md_super.specs.declared.superblock.Super.{Super}
use Rattle.array_image.specs.Places.{member_slice, super_sector}
use Rattle.array_image.specs.Arrays.{place_with}
use Rattle.array_model.specs.declared.Seat.{Seat}
use Rattle.array_model.specs.declared.Seat.TheVariants.{Missing}
use Rattle.array_model.specs.View.{View, IsArray, LosesPlaces, place_at, seat_unless}
use Rattle.array_model.specs.Members.{slice_on, IsSameButSeats}
use Rattle.array_model.proofs.Views.{notes_none, notes_then}
use Rattle.array_model.proofs.Reading.{notes_one, slice_same, missing_before}
use Rattle.array_model.proofs.RowWrites.{places_apart}
use Rattle.array_core.specs.Superblocks.{IsSectorOf, member_super}
use Rattle.array_core.specs.Settling.{IsOwnSector, IsNewSuper, WritesSuper, WritesSupers}

-- ---- the same superblock, before a loss of others

seat_before : (u v : View) (n : ℕ) (lost : ℕ → Bool) (seat : Seat) → LosesPlaces u v lost → slice_get v.seats n ≢ Some Missing → slice_get v.seats n ≡ Some seat → slice_get u.seats n ≡ Some seat
seat_before u v n lost seat loses there is =
    by (slice_get u.seats n) (lost (place_at u n)) (sym (loses.seats n) ∙ is) (λ gone. there (loses.seats n ∙ gone))
  where
    by : (o : Option Seat) (l : Bool) → option_map (λ s. if l then Missing else s) o ≡ Some seat → (option_map (λ s. if l then Missing else s) o ≢ Some Missing) → o ≡ Some seat
    by None l at other = absurd (cc)
    by (Some s) true at other = absurd (other refl)
    by (Some s) false at other = at

pub own_before : (u v : View) (n : ℕ) (x : List ℕ) (lost : ℕ → Bool) → IsSameButSeats u v → LosesPlaces u v lost → slice_get v.seats n ≢ Some Missing → IsOwnSector v n x → IsOwnSector u n x
own_before u v n x lost same loses there own =
    record {
      slot = own.slot;
      is = record {
        place = own.is.place ∙ ap (λ (t : Super). unwrap_or (place_with t.roles.items n) 16) same.truth;
        few = own.is.few;
        seat = seat_before u v n lost own.slot.seat loses there own.is.seat;
        device = ap (λ ds. slice_get ds n) (sym same.devices) ∙ own.is.device;
      };
      bytes = subst (λ (t : Super). IsSectorOf (member_super t own.slot) x) same.truth own.bytes;
    }

pub new_before : (u v : View) (d t : ℕ) (x : List ℕ) (lost : ℕ → Bool) → IsSameButSeats u v → LosesPlaces u v lost → IsNewSuper v d t x → IsNewSuper u d t x
new_before u v d t x lost same loses new =
    record {
      position = new.position;
      inside = subst (λ (s : Super). new.position < s.raid_disks) same.truth new.inside;
      there = missing_before u v new.position lost loses new.there;
      disk = new.disk ∙ slice_same u v new.position same;
      sector = new.sector;
      own = own_before u v new.position x lost same loses new.there new.own;
    }

-- ---- one

pub super_none : (v : View) (a : RackView) (n : ℕ) → a.fit → slice_get v.seats n ≡ Some Missing → WritesSuper v v a a n
super_none v a n fit gone = record {
  notes = notes_none v a a;
  only = only_none a (λ d t x. (d ≡ slice_on v n) × IsNewSuper v d t x) fit;
  durable = λ there live x may. absurd (there gone);
}

is_new : (v : View) (n d t : ℕ) (x y : List ℕ) → n < v.truth.raid_disks → slice_get v.seats n ≢ Some Missing → IsOwnSector v n x
    → (d ≡ slice_on v n) × (t ≡ super_sector) × (y ≡ x) → (d ≡ slice_on v n) × IsNewSuper v d t y
is_new v n d t x y low there own at =
    (at.0, record { position = n; inside = low; there = there; disk = at.0; sector = at.1; own = subst (IsOwnSector v n) (sym at.2) own })

pub super_written : (v : View) (a b : RackView) (n : ℕ) (x : List ℕ) → n < v.truth.raid_disks → slice_get v.seats n ≢ Some Missing → IsOwnSector v n x
    → WritesDurably a b (slice_on v n) super_sector x {X = Unit {0}} (Ok tt) → WritesSuper v v a b n
super_written v a b n x low there own writes = record {
  notes = notes_none v a b;
  only =
      only_weaker (λ d t y. (d ≡ slice_on v n) × (t ≡ super_sector) × (y ≡ x)) (λ d t y. (d ≡ slice_on v n) × IsNewSuper v d t y)
      (λ d t y at. is_new v n d t x y low there own at) (durable_only (Ok tt) writes);
  durable = λ still live y may. subst (IsOwnSector v n) (sym (writes.durable live y may)) own;
}

pub super_refused : (v w : View) (a b : RackView) (n place slice : ℕ) (x : List ℕ) (gone : Gone) → v.number < 16 → n < v.truth.raid_disks → slice_get v.seats n ≢ Some Missing
    → place ≡ place_at v n → slice ≡ slice_on v n → IsOwnSector v n x → IsSameButSeats v w → LosesPlaces v w (λ p. p == place)
    → WritesDurably a b slice super_sector x {X = Unit {0}} (Err gone) → WritesSuper v w a b n
super_refused v w a b n place slice x gone few low there place_is slice_is own same loses writes =
    let here : WritesDurably a b (slice_on v n) super_sector x {X = Unit {0}} (Err gone) = subst (λ d. WritesDurably a b d super_sector x {X = Unit {0}} (Err gone)) slice_is writes in
    let lost : LosesPlaces v w (λ p. p == place_at v n) = subst (λ (q : ℕ). LosesPlaces v w (λ p. p == q)) place_is loses in
    record {
      notes = notes_one v w a b n few same lost here.gone.1;
      only =
          only_weaker (λ d t y. (d ≡ slice_on v n) × (t ≡ super_sector) × (y ≡ x)) (λ d t y. (d ≡ slice_on v n) × IsNewSuper v d t y)
          (λ d t y at. is_new v n d t x y low there own at) (durable_only (Err gone) here);
      durable = λ still live y may.
          absurd
          (still (lost.seats n ∙ ap (option_map (seat_unless (λ p. p == place_at v n) (place_at v n))) own.is.seat
          ∙ ap (λ (l : Bool). Some (if l then Missing else own.slot.seat)) (eq-eqb (place_at v n) (place_at v n) refl)));
    }

-- ---- and the next

pub supers_none : (v : View) (a : RackView) → a.fit → WritesSupers v v a a 0
supers_none v a fit = record {
  notes = notes_none v a a;
  only = only_none a (IsNewSuper v) fit;
  durable = λ n low there live x may. absurd (omega (arith, low));
}

pub supers_next : (u v w : View) (a b c : RackView) (k : ℕ) → IsArray u → k < u.truth.raid_disks → WritesSupers u v a b k → WritesSuper v w b c k → WritesSupers u w a c (k + 1)
supers_next u v w a b c k is_array low so_far one =
    let first = so_far.only.stays in
    let second = one.only.stays in
    let notes = so_far.notes in
    let same = notes.same in
    let slice : (n : ℕ) → slice_on v n ≡ slice_on u n = λ n. slice_same u v n same in
    record {
      notes = notes_then u v w a b c first second notes one.notes;
      only =
          only_then (IsNewSuper u) so_far.only
          (only_weaker (λ d t x. (d ≡ slice_on v k) × IsNewSuper v d t x) (IsNewSuper u) (λ d t x new. new_before u v d t x notes.lost same notes.loses new.1) one.only);
      durable = λ n below there live x may.
          elim (lower_or n k below) [
            | inl less ↦
                let keeps =
                one.only.others (slice_on u n) super_sector (live_second first live)
                (λ y new. apart n (omega (arith, less, low)) (λ is. omega (arith, less, is)) (new.0 ∙ slice k)) in
                so_far.durable n less (missing_before v w n one.notes.lost one.notes.loses there) (live_first second live) x (keeps.within x may)
            | inr is ↦
                let At : ℕ → Type 0 = λ d. IsLive b c d super_sector → MayLeave (c.held d super_sector) x → IsOwnSector v k x in
                let there_k : slice_get w.seats k ≢ Some Missing = subst (λ j. slice_get w.seats j ≢ Some Missing) is there in
                let own : IsOwnSector v k x =
                subst At (slice k) (λ alive left. one.durable there_k alive x left)
                (subst (λ j. IsLive b c (slice_on u j) super_sector) is (live_second first live))
                (subst (λ j. MayLeave (c.held (slice_on u j) super_sector) x) is may) in
                subst (λ j. IsOwnSector u j x) (sym is) (own_before u v k x notes.lost same notes.loses (missing_before v w k one.notes.lost one.notes.loses there_k) own)
          ];
    }
  where
    lower_or : (n k : ℕ) → n < k + 1 → (n < k) ⊎ (n ≡ k)
    lower_or n k low = elim (cases_lt n k) [ inl less ↦ inl less | inr more ↦ inr (omega (arith, low, more)) ]

    apart : (n : ℕ) → n < u.truth.raid_disks → n ≢ k → slice_on u n ≡ slice_on u k → ⊥
    apart n inside other same = other (places_apart u n k is_array inside low (place_of_slice (place_at u n) (place_at u k) same))
      where
        place_of_slice : (p q : ℕ) → member_slice p u.number ≡ member_slice q u.number → p ≡ q
        place_of_slice p q is = omega (arith, is)
