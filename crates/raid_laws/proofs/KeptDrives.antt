-- The book's changes keep the drives of places that don't join.
use Rattle.std.proofs.Common.{◌≡◌, ◌≢◌, ℕ, false, List, Option, Some, None, option_map, slice_get, refl, sym, ap, ◌∙◌, inl, inr}
use Rattle.std.proofs.lemmas.Bool.{both_ways}
use Rattle.pool_state.specs.declared.contents.Drive.{Drive}
use Rattle.pool_state.specs.declared.contents.Plan.{Plan}
use Rattle.pool_state.specs.declared.contents.State.{State}
use Rattle.array_image.specs.States.{is_current, id_of}
use Rattle.log_laws.specs.Saying.{KeepsDrives, PlaceJoins}
use Rattle.log_laws.specs.View.{names}
use Rattle.raid_laws.specs.Book.{OnlyMarksSince, drive_of}
use Rattle.raid_laws.specs.Enlisting.{enlisted, next_drive}
use Rattle.raid_laws.proofs.Each.{get_set_other}
use Rattle.raid_laws.proofs.Seated.{map_get}

first_id : (o : Option Drive) → option_map (λ (d : Drive). d.id.0) o ≡ option_map (λ (x : List ℕ × ℕ). x.0) (option_map drive_of o)
first_id None = refl
first_id (Some d) = refl

-- marks, and a plan that ends
pub after_id : (s t : State) (p : ℕ) → OnlyMarksSince s t → id_of t p ≡ id_of s p
after_id s t p after =
    let first : Option (List ℕ × ℕ) → Option (List ℕ) = option_map (λ (x : List ℕ × ℕ). x.0) in
    first_id (slice_get t.drives.items p)
    ∙ ap first (sym (map_get drive_of t.drives.items p) ∙ ap (λ xs. slice_get xs p) after.same.drives ∙ map_get drive_of s.drives.items p)
    ∙ sym (first_id (slice_get s.drives.items p))

pub after_drives : (s t : State) (on : List ℕ) → OnlyMarksSince s t → KeepsDrives s t on
after_drives s t on after = record { pool = after.same.pool; ids = λ p named. after_id s t p after }

-- by which no place joins
pub after_joins : (s t : State) (p : ℕ) → OnlyMarksSince s t → PlaceJoins s t p → ⊥
after_joins s t p after joins = elim joins.new [
  | inl former ↦ both_ways (is_current s p) former (after.current p joins.now)
  | inr other ↦ other (after_id s t p after)
]

-- and a new drive of another place
pub enlisted_id : (place units : ℕ) (plan : Plan) (s : State) (p : ℕ) → p ≢ place → id_of (enlisted place units plan s) p ≡ id_of s p
enlisted_id place units plan s p other =
    let new : Drive = record { id = next_drive s; units = units; missing = false } in
    ap (option_map (λ (d : Drive). d.id.0)) (get_set_other s.drives.items place p new other)

pub enlisted_drives : (place units : ℕ) (plan : Plan) (s : State) (on : List ℕ) → names on place ≡ false → KeepsDrives s (enlisted place units plan s) on
enlisted_drives place units plan s on out = record {
  pool = refl;
  ids = λ p named. enlisted_id place units plan s p (λ same. both_ways (names on place) out (ap (names on) (sym same) ∙ named));
}
