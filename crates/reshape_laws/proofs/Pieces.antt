-- Sectors of members' data that are added to the targets of a log, one after the other.
use Rattle.std.proofs.Common.{◌≡◌, ◌⊎◌, ℕ, ◌+◌, ◌<◌, ◌≤◌, List, [], ◌∷◌, ◌++◌, length, refl, sym, ap, subst, ◌∙◌, inl, inr, append_assoc, append-nil, arith}
use Rattle.std.proofs.lemmas.List.{length-append}
use Rattle.rack.specs.Targets.{Target, target}
use Rattle.rack.specs.Sequences.{IsPayload}
use Rattle.array_image.specs.Places.{data_sector}
use Rattle.array_model.specs.View.{View, IsArray}
use Rattle.array_model.specs.Members.{IsSameButSeats, slice_on}
use Rattle.array_model.proofs.Parts.{at_is, is_at_own}
use Rattle.array_model.proofs.Reading.{slice_same}
use Rattle.md_super.specs.declared.superblock.Super.{Super}
use Rattle.array_core.proofs.RowLists.{payload_or, payload_left, payload_right}
use Rattle.sync_laws.proofs.Copying.{apart_joined, slices_differ}
use Rattle.reshape_laws.specs.Rows.{AddsPieces, IsPiece}

-- none
pub no_pieces : (v : View) (within : ℕ → ℕ → Type 0) (bytes : ℕ → ℕ → List ℕ → Type 0) (many : ℕ) (xs : List Target) → ((t j : ℕ) → within t j → ⊥)
    → AddsPieces v within bytes many xs xs
no_pieces v within bytes many xs none = record {
  targets = [];
  appended = sym (append-nil xs);
  few = omega arith;
  pieces = record { on = λ d s u is. absurd is; has = λ t j is. absurd (none t j is); apart = refl };
}

-- one
pub one_piece : (v : View) (within : ℕ → ℕ → Type 0) (bytes : ℕ → ℕ → List ℕ → Type 0) (sector k : ℕ) (from : List ℕ) (xs ys : List Target) → k < v.truth.raid_disks → length from ≡ 512
    → within sector k → ((t j : ℕ) → within t j → (t ≡ sector) × (j ≡ k)) → bytes sector k from
    → ys ≡ xs ++ target (slice_on v k) (data_sector + sector) from ∷ []
    → AddsPieces v within bytes 1 xs ys
one_piece v within bytes sector k from xs ys low long inside only has added = record {
  targets = target (slice_on v k) (data_sector + sector) from ∷ [];
  appended = added;
  few = omega arith;
  pieces = record {
    on = λ d s u is. on d s u is;
    has = λ t j is. let at = only t j is in (
      from,
      subst (λ i. IsPayload (target (slice_on v k) (data_sector + sector) from ∷ []) (slice_on v i) (data_sector + t) from) (sym at.1)
          (subst (λ i. IsPayload (target (slice_on v k) (data_sector + sector) from ∷ []) (slice_on v k) (data_sector + i) from) (sym at.0) (inl (is_at_own (target (slice_on v k) (data_sector + sector) from), refl))),
      subst (λ i. bytes t i from) (sym at.1) (subst (λ i. bytes i k from) (sym at.0) has),
    );
    apart = refl;
  };
}
  where
    on : (d s : ℕ) (u : List ℕ) → IsPayload (target (slice_on v k) (data_sector + sector) from ∷ []) d s u → IsPiece v within bytes d s u
    on d s u (inl here) =
        let at = at_is d s (target (slice_on v k) (data_sector + sector) from) here.0 in
        record { sector = sector; position = k; low = low; disk = at.0; at = at.1; inside = inside; bytes = subst (bytes sector k) (sym here.1) has; long = ap length here.1 ∙ long }
    on d s u (inr none) = absurd none

-- some and then others
pub pieces_then : (v : View) (one two all : ℕ → ℕ → Type 0) (bytes : ℕ → ℕ → List ℕ → Type 0) (m n : ℕ) (xs ys zs : List Target) → IsArray v
    → ((t j : ℕ) → one t j → all t j) → ((t j : ℕ) → two t j → all t j) → ((t j : ℕ) → all t j → one t j ⊎ two t j)
    → ((t j : ℕ) → one t j → two t j → ⊥)
    → AddsPieces v one bytes m xs ys → AddsPieces v two bytes n ys zs → AddsPieces v all bytes (m + n) xs zs
pieces_then v one two all bytes m n xs ys zs is_array first second either differ before after =
    let ps = before.targets in
    let qs = after.targets in
    let few = before.few in
    let more = after.few in
    let sum = length-append ps qs in
    record {
      targets = ps ++ qs;
      appended = after.appended ∙ ap (λ ws. ws ++ qs) before.appended ∙ append_assoc xs ps qs;
      few = omega (arith, few, more, sum);
      pieces = record {
        on = λ d s u is. elim (payload_or ps qs d s u is) [
          | inl old ↦ (let at = before.pieces.on d s u old in
              record { sector = at.sector; position = at.position; low = at.low; disk = at.disk; at = at.at; inside = first at.sector at.position at.inside; bytes = at.bytes; long = at.long })
          | inr new ↦ (let at = after.pieces.on d s u new in
              record { sector = at.sector; position = at.position; low = at.low; disk = at.disk; at = at.at; inside = second at.sector at.position at.inside; bytes = at.bytes; long = at.long })
        ];
        has = λ t j is. elim (either t j is) [
          | inl old ↦ (let at = before.pieces.has t j old in (at.0, payload_left ps qs (slice_on v j) (data_sector + t) at.0 at.1, at.2))
          | inr new ↦ (let at = after.pieces.has t j new in (at.0, payload_right ps qs (slice_on v j) (data_sector + t) at.0 at.1, at.2))
        ];
        apart =
            apart_joined ps qs before.pieces.apart after.pieces.apart
            (λ d s u w old new.
            let p = before.pieces.on d s u old in
            let q = after.pieces.on d s w new in
            let t : p.sector ≡ q.sector = (let at_p = p.at in let at_q = q.at in omega (arith, at_p, at_q)) in
            let j : p.position ≡ q.position = slices_differ v p.position q.position is_array p.low q.low (sym p.disk ∙ q.disk) in
            differ q.sector q.position (subst (λ i. one i q.position) t (subst (λ i. one p.sector i) j p.inside)) q.inside);
      };
    }

-- by another view of the same members, and for more bytes
pub pieces_by : (v u : View) (one two : ℕ → ℕ → Type 0) (here there : ℕ → ℕ → List ℕ → Type 0) (m n : ℕ) (xs ys : List Target) → IsSameButSeats v u → m ≤ n
    → ((t j : ℕ) → one t j → two t j) → ((t j : ℕ) → two t j → one t j) → ((t j : ℕ) (w : List ℕ) → one t j → here t j w → there t j w)
    → AddsPieces u one here m xs ys → AddsPieces v two there n xs ys
pieces_by v u one two here there m n xs ys same more to back bytes adds =
    let few = adds.few in
    let disks : u.truth.raid_disks ≡ v.truth.raid_disks = ap (λ (t : Super). t.raid_disks) same.truth in
    record {
      targets = adds.targets;
      appended = adds.appended;
      few = omega (arith, few, more);
      pieces = record {
        on = λ d s w is.
            let at = adds.pieces.on d s w is in
            let low = at.low in
            record {
              sector = at.sector;
              position = at.position;
              low = omega (arith, low, disks);
              disk = at.disk ∙ slice_same v u at.position same;
              at = at.at;
              inside = to at.sector at.position at.inside;
              bytes = bytes at.sector at.position w at.inside at.bytes;
              long = at.long;
            };
        has = λ t j is.
            let inside = back t j is in
            let at = adds.pieces.has t j inside in
            (at.0, subst (λ d. IsPayload adds.targets d (data_sector + t) at.0) (slice_same v u j same) at.1, bytes t j at.0 inside at.2);
        apart = adds.pieces.apart;
      };
    }

-- how many there are
pub pieces_length : (v : View) (within : ℕ → ℕ → Type 0) (bytes : ℕ → ℕ → List ℕ → Type 0) (many : ℕ) (xs ys : List Target) → AddsPieces v within bytes many xs ys
    → length ys ≤ length xs + many
pieces_length v within bytes many xs ys adds =
    let few = adds.few in
    let sum : length ys ≡ length xs + length adds.targets = ap length adds.appended ∙ length-append xs adds.targets in
    omega (arith, few, sum)
