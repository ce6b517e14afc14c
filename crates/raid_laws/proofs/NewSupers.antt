-- Slices of which those of one place alone differ, where its new ones are told: those of superblocks are, with the members that are new there.
use Rattle.std.proofs.Common.{◌≡◌, ◌≢◌, ℕ, ◌+◌, ◌||◌, Bool, true, false, if◌then◌else◌, [], ◌∷◌, Some, option_map, slice_get, sym, ap, ◌∙◌, inl, inr, arith}
use Rattle.std.proofs.lemmas.Bool.{cases_eq, ne_eqb}
use Rattle.rack.specs.Seen.{RackView}
use Rattle.shr_base.specs.declared.Id.{Id}
use Rattle.slice_rack.specs.Slices.{place_of}
use Rattle.array_image.specs.Places.{super_sector}
use Rattle.array_model.specs.declared.Seat.{Seat}
use Rattle.array_model.specs.declared.Seat.TheVariants.{Missing, Rebuilding}
use Rattle.array_model.specs.Members.{slice_on}
use Rattle.array_model.specs.View.{IsArray, View, place_at}
use Rattle.array_core.specs.Seats.{names, renewed}
use Rattle.array_core.specs.Slots.{place_by}
use Rattle.array_core.specs.TruthHeld.{TellSupers}
use Rattle.raid_laws.specs.Truths.{TellsThere}
use Rattle.raid_laws.specs.Vacated.{DiffersAt}
use Rattle.raid_laws.proofs.Seated.{zip_seats}

module _ (place : ℕ) (x y : RackView) (differs : DiffersAt place x y) where
  -- a member that was there before the new one
  seat_before : (q : View) (drive : Id) (k : ℕ) → IsArray q → place_at q k ≢ place → slice_get (renewed place drive q).seats k ≢ Some Missing → slice_get q.seats k ≢ Some Missing
  seat_before q drive k is_array away there gone =
      let change : ℕ → Seat → Seat = λ p seat. if names (place ∷ []) p then Rebuilding 0 else seat in
      there
      (zip_seats change (place_by q.truth) 0 q.truth.raid_disks q.seats q.devices k is_array.seats is_array.devices
      ∙ ap (option_map (change (place_by q.truth (0 + k)))) gone
      ∙ ap (λ (b : Bool). Some (if b then Rebuilding 0 else Missing))
      (ap (λ (p : ℕ). names (place ∷ []) (place_by q.truth p)) (let e : 0 + k ≡ k = omega arith in e) ∙ other_named (place_at q k) away))
    where
      other_named : (p : ℕ) → p ≢ place → names (place ∷ []) p ≡ false
      other_named p away = ap (λ (b : Bool). b || false) (ne_eqb place p (λ same. away (sym same)))

  -- those of the members that were there are told, and those of the new ones
  pub tells_now : (q : View) (drive : Id) (b : Bool) → IsArray q → TellSupers q x → TellsThere (if b then renewed place drive q else q) y
  tells_now q drive false is_array tells k inside there within =
      elim (cases_eq (place_of (slice_on q k)) place) [
        | inl same ↦ differs.own (slice_on q k) super_sector same within
        | inr away ↦ differs.live (slice_on q k) super_sector away (tells k inside there)
      ]
  tells_now q drive true is_array tells k inside there within =
      let few = is_array.few in
      let on : place_of (slice_on q k) ≡ place_at q k = omega (arith, few) in
      elim (cases_eq (place_of (slice_on q k)) place) [
        | inl same ↦ differs.own (slice_on q k) super_sector same within
        | inr away ↦ differs.live (slice_on q k) super_sector away (tells k inside (seat_before q drive k is_array (λ same. away (on ∙ same)) there))
      ]
