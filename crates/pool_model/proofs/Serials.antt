-- A new drive's id is none that a drive has, where the ids of serials differ.
use Rattle.std.proofs.Common.{◌≡◌, ◌≢◌, ℕ, ◌+◌, ◌<◌, ◌==◌, if◌then◌else◌, Bool, List, length, slice_get, Option, Some, None, option_map, refl, sym, ap, subst, ◌∙◌, inl, inr, eq-eqb, arith}
use Rattle.std.proofs.lemmas.Bool.{cases_eq, ne_eqb}
use Rattle.shr_base.specs.declared.Id.{Id}
use Rattle.array_image.specs.States.{id_of}
use Rattle.pool_state.specs.declared.contents.Drive.{Drive}
use Rattle.pool_state.specs.declared.contents.Plan.{Plan}
use Rattle.pool_state.specs.declared.contents.State.{State}
use Rattle.array_image.specs.Places.{drive_id}
use Rattle.array_core.proofs.Stripped.{some_same}
use Rattle.pool_image.specs.Drives.{Found}
use Rattle.pool_image.specs.Sound.{IsSoundList}
use Rattle.raid_laws.specs.Book.{OnlyMarksSince}
use Rattle.raid_laws.specs.Enlisting.{enlisted, next_drive}
use Rattle.pool_model.specs.Taken.{AreDistinct, AreSerial}
use Rattle.pool_model.proofs.Joined.{id_here, id_other}
use Rattle.pool_model.proofs.Named.{id_same}

-- in a sound pool they are of serials
pub serial_found : (f : Found) → IsSoundList f → AreSerial f.state
serial_found f list = record { serial = list.serial; ids = λ p id is. by p id (slice_get f.state.drives.items p) refl is }
  where
    by : (p : ℕ) (id : List ℕ) (o : Option Drive) → slice_get f.state.drives.items p ≡ o → option_map (λ (d : Drive). d.id.0) o ≡ Some id
        → (list.serial p < f.state.serial) × (id ≡ drive_id f.state.pool.0 (list.serial p))
    by p id None at is = absurd (let no : None ≡ Some id = is in cc)
    by p id (Some drive) at is = (let one = list.ids p drive at in (one.0, sym (some_same drive.id.0 id is) ∙ one.1))

-- marks change none
pub serial_after : (s t : State) → OnlyMarksSince s t → AreSerial s → AreSerial t
serial_after s t after serials = record {
  serial = serials.serial;
  ids = λ p id is.
      let one = serials.ids p id (sym (id_same s t after.same p) ∙ is) in (
        subst (λ k. serials.serial p < k) (sym after.same.serial) one.0,
        one.1 ∙ ap (λ (pool : Id). drive_id pool.0 (serials.serial p)) (sym after.same.pool),
      );
}

module _ (place units : ℕ) (plan : Plan) (s : State) (listed : place < length s.drives.items) (serials : AreSerial s) where
  abbrev next : State
  next = enlisted place units plan s

  abbrev given : ℕ → ℕ
  given = λ p. if p == place then s.serial else serials.serial p

  pub serial_enlisted : AreSerial next
  serial_enlisted = record {
    serial = given;
    ids = λ p id is. elim (cases_eq p place) [
      | inl same ↦
          (let at : given p ≡ s.serial = ap (λ (b : Bool). if b then s.serial else serials.serial p) (eq-eqb p place same) in
          let here : id ≡ drive_id s.pool.0 s.serial = some_same id (next_drive s).0 (sym is ∙ ap (id_of next) same ∙ id_here place units plan s listed) in (
            (let e : given p < s.serial + 1 = omega (arith, at) in e),
            here ∙ ap (drive_id s.pool.0) (sym at),
          ))
      | inr other ↦
          (let at : given p ≡ serials.serial p = ap (λ (b : Bool). if b then s.serial else serials.serial p) (ne_eqb p place other) in
          let one = serials.ids p id (sym (id_other place units plan s listed p other) ∙ is) in
          let low = one.0 in (
            (let e : given p < s.serial + 1 = omega (arith, at, low) in e),
            one.1 ∙ ap (drive_id s.pool.0) (sym at),
          ))
    ];
  }

-- so the next drive's id is none of theirs
pub serial_fresh : (s : State) → AreSerial s → AreDistinct s.pool.0 s.serial → (p : ℕ) → id_of s p ≢ Some (next_drive s).0
serial_fresh s serials apart p is =
    let one = serials.ids p (next_drive s).0 is in
    let low = one.0 in
    let same = apart s.serial (serials.serial p) (omega arith) (omega (arith, low)) one.1 in
    omega (arith, low, same)
