-- A header that was written is read again.
use Rattle.std.proofs.Common.{◌≡◌, ℕ, zero, suc, ◌<◌, ◌≤◌, ◌^◌, rules, true, eqb, List, [], ◌∷◌, ◌++◌, length, drop, replicate, Some, Ok, refl, sym, ap, ◌∙◌, append_assoc, arith}
use Rattle.std.specs.List.{AllByRecursion, flat_map}
use Rattle.std.proofs.lemmas.Bool.{eq-eqb, ne_eqb}
use Rattle.byteorder.specs.Endian.{little_bytes}
use Rattle.shr_base.specs.Crc.{lvm_crc_of}
use Rattle.lvm_label.specs.Fields.{AreBytes, number_at, padded}
use Rattle.lvm_label.specs.declared.header.Location.{Location}
use Rattle.lvm_label.specs.declared.header.Header.{Header}
use Rattle.lvm_label.specs.Header.{are_header_fields, header_of, header_body, header_bytes, header_magic, location_at, locations_at, location_bytes, before, IsLocation, IsHeader}
use Rattle.lvm_label.proofs.Locations.{locations_at-end, locations_at-more}
use Rattle.lvm_label.proofs.RoundTrip.{little_8, little_4, little_zeros, AreBytes-append, AreBytes-little_8, AreBytes-little_4, AreBytes-padded, lvm_crc-below}

location_at-bytes : (location : Location) (rest : List ℕ) → IsLocation location → location_at (location_bytes location ++ rest) ≡ location
unfolding location_bytes
location_at-bytes location rest h = rw (little_8 location.offset h.offset, little_8 location.size h.size, little_4 location.crc h.crc, little_4 location.flags h.flags) refl

offset-bytes : (location : Location) (rest : List ℕ) → IsLocation location → number_at 8 0 (location_bytes location ++ rest) ≡ location.offset
unfolding location_bytes
offset-bytes location rest h = little_8 location.offset h.offset

drop-bytes : (location : Location) (rest : List ℕ) → drop 24 (location_bytes location ++ rest) ≡ rest
unfolding location_bytes
drop-bytes location rest = refl

locations_at-bytes : (locations : List Location) (room k : ℕ) → length locations ≤ room → AllByRecursion IsLocation locations → locations_at room (flat_map location_bytes locations ++ replicate k 0) ≡ Some locations
locations_at-bytes [] room k few each = locations_at-end room (replicate k 0) (eq-eqb (number_at 8 0 (replicate k 0)) 0 (little_zeros k))
locations_at-bytes (location ∷ locations) zero k few each = absurd (omega arith)
locations_at-bytes (location ∷ locations) (suc room) k few each =
    let rest : List ℕ = flat_map location_bytes locations ++ replicate k 0 in
    let offset : number_at 8 0 (location_bytes location ++ rest) ≡ location.offset = offset-bytes location rest each.0 in
    ap (locations_at (suc room)) (append_assoc (location_bytes location) (flat_map location_bytes locations) (replicate k 0))
    ∙ locations_at-more room (location_bytes location ++ rest) (ne_eqb (number_at 8 0 (location_bytes location ++ rest)) 0 (λ e. each.0.real (sym offset ∙ e)))
    ∙ ap (λ (l : Location). before l (locations_at room (drop 24 (location_bytes location ++ rest)))) (location_at-bytes location rest each.0)
    ∙ ap (λ (bytes : List ℕ). before location (locations_at room bytes)) (drop-bytes location rest)
    ∙ ap (before location) (locations_at-bytes locations room k (omega arith) each.1)

AreBytes-location : (location : Location) → AreBytes (location_bytes location)
unfolding location_bytes
AreBytes-location location =
    AreBytes-append (little_bytes 8 location.offset ++ little_bytes 8 location.size ++ little_bytes 4 location.crc) (little_bytes 4 location.flags)
    (AreBytes-append (little_bytes 8 location.offset ++ little_bytes 8 location.size) (little_bytes 4 location.crc)
    (AreBytes-append (little_bytes 8 location.offset) (little_bytes 8 location.size) (AreBytes-little_8 location.offset) (AreBytes-little_8 location.size))
    (AreBytes-little_4 location.crc))
    (AreBytes-little_4 location.flags)

AreBytes-locations : (locations : List Location) → AreBytes (flat_map location_bytes locations)
AreBytes-locations [] = tt
AreBytes-locations (location ∷ locations) = AreBytes-append (location_bytes location) (flat_map location_bytes locations) (AreBytes-location location) (AreBytes-locations locations)

AreBytes-fixed : AreBytes (header_magic ++ little_bytes 4 1)
AreBytes-fixed = search rules

AreBytes-header_body : (header : Header) → AreBytes (header_body header)
unfolding header_body
AreBytes-header_body header =
    let one : AreBytes (header_magic ++ little_bytes 4 1 ++ little_bytes 8 header.start) = AreBytes-append (header_magic ++ little_bytes 4 1) (little_bytes 8 header.start) AreBytes-fixed (AreBytes-little_8 header.start) in
    let two : AreBytes (header_magic ++ little_bytes 4 1 ++ little_bytes 8 header.start ++ little_bytes 8 header.size) = AreBytes-append (header_magic ++ little_bytes 4 1 ++ little_bytes 8 header.start) (little_bytes 8 header.size) one (AreBytes-little_8 header.size) in
    AreBytes-padded 508 (header_magic ++ little_bytes 4 1 ++ little_bytes 8 header.start ++ little_bytes 8 header.size ++ flat_map location_bytes header.locations.items)
    (AreBytes-append (header_magic ++ little_bytes 4 1 ++ little_bytes 8 header.start ++ little_bytes 8 header.size) (flat_map location_bytes header.locations.items) two (AreBytes-locations header.locations.items))

-- the sector, field by field
number_at-crc : (header : Header) → number_at 4 0 (header_bytes header) ≡ lvm_crc_of (header_body header)
unfolding header_bytes
number_at-crc header = little_4 (lvm_crc_of (header_body header)) (lvm_crc-below (header_body header) (AreBytes-header_body header))

drop-crc : (header : Header) → drop 4 (header_bytes header) ≡ header_body header
unfolding header_bytes
drop-crc header = refl

body_fields : (header : Header) → are_header_fields (header_bytes header) ≡ true
unfolding header_bytes header_body padded
body_fields header = refl

number_at-start : (header : Header) → header.start < 2 ^ 64 → number_at 8 24 (header_bytes header) ≡ header.start
unfolding header_bytes header_body padded
number_at-start header h = little_8 header.start h

number_at-size : (header : Header) → header.size < 2 ^ 64 → number_at 8 32 (header_bytes header) ≡ header.size
unfolding header_bytes header_body padded
number_at-size header h = little_8 header.size h

drop-fields : (header : Header) → (k : ℕ) × (drop 40 (header_bytes header) ≡ flat_map location_bytes header.locations.items ++ replicate k 0)
unfolding header_bytes header_body padded
drop-fields header = (_, refl)

pub headers_decode : (header : Header) → IsHeader header → header_of (header_bytes header) ≡ Ok header
unfolding header_of
headers_decode header h =
    let rest = drop-fields header in
    let locations : locations_at 4 (drop 40 (header_bytes header)) ≡ Some header.locations.items = ap (locations_at 4) rest.1 ∙ locations_at-bytes header.locations.items 4 rest.0 h.few h.each in
    let sum : eqb (number_at 4 0 (header_bytes header)) (lvm_crc_of (drop 4 (header_bytes header))) ≡ true =
    eq-eqb _ _ (number_at-crc header ∙ ap lvm_crc_of (sym (drop-crc header))) in
    rw (sum, body_fields header, locations, number_at-start header h.start, number_at-size header h.size) refl
