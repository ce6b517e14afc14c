-- What the writer puts one behind the other, as the definitions have it.
use Rattle.std.proofs.Common.{◌≡◌, ℕ, ◌-◌, ◌++◌, ◌∙◌, List, length, replicate, ap, refl, arith}
use Rattle.std.proofs.lemmas.List.{append-nil, length-append}
use Rattle.byteorder.specs.Endian.{little_bytes}
use Rattle.shr_base.specs.Crc.{lvm_crc_of}
use Rattle.lvm_label.specs.Fields.{padded}
use Rattle.lvm_label.specs.declared.label.Area.{Area}
use Rattle.lvm_label.specs.declared.label.Label.{Label}
use Rattle.std.specs.List.{flat_map}
use Rattle.lvm_label.specs.declared.header.Location.{Location}
use Rattle.lvm_label.specs.declared.header.Header.{Header}
use Rattle.lvm_label.specs.Header.{header_body, header_bytes, header_magic, location_bytes}
use Rattle.lvm_label.specs.Label.{body_bytes, area_list_bytes, label_bytes, label_type, label_word}

pub body_bytes-parts : (label : Label) (offset size : List ℕ) (areas metadata : List Area) → offset ≡ little_bytes 4 32 → size ≡ little_bytes 8 label.device_size → areas ≡ label.areas.items → metadata ≡ label.metadata.items
    → padded 492 (offset ++ label_type ++ label.pv_id ++ size ++ area_list_bytes areas ++ area_list_bytes metadata) ≡ body_bytes label
unfolding body_bytes
body_bytes-parts label offset size areas metadata eo es ea em = rw (eo, es, ea, em) refl

-- a text as long as the buffer leaves no room for zeros
padded-full : (size : ℕ) (text : List ℕ) → length text ≡ size → padded size text ≡ text
unfolding padded
padded-full size text long =
    let none : size - length text ≡ 0 = omega arith in
    ap (λ (n : ℕ). text ++ replicate n 0) none ∙ append-nil text

pub label_bytes-parts : (label : Label) (number crc body : List ℕ) (sum : ℕ) → number ≡ little_bytes 8 1 → crc ≡ little_bytes 4 sum → body ≡ body_bytes label → sum ≡ lvm_crc_of body → length body ≡ 492
    → padded 512 (label_word ++ number ++ crc ++ body) ≡ label_bytes label
unfolding label_bytes
label_bytes-parts label number crc body sum en ec eb es wide =
    let long : length (label_word ++ number ++ crc ++ body) ≡ 512 =
    omega (arith, length-append label_word number, length-append (label_word ++ number) crc, length-append (label_word ++ number ++ crc) body, ap length en, ap length ec) in
    padded-full 512 (label_word ++ number ++ crc ++ body) long
    ∙ ap (λ (t : List ℕ). label_word ++ t ++ crc ++ body) en
    ∙ ap (λ (t : List ℕ). label_word ++ little_bytes 8 1 ++ t ++ body) (ec ∙ ap (little_bytes 4) (es ∙ ap lvm_crc_of eb))
    ∙ ap (λ (t : List ℕ). label_word ++ little_bytes 8 1 ++ little_bytes 4 (lvm_crc_of (body_bytes label)) ++ t) eb

pub header_body-parts : (header : Header) (version start size : List ℕ) (locations : List Location) → version ≡ little_bytes 4 1 → start ≡ little_bytes 8 header.start → size ≡ little_bytes 8 header.size → locations ≡ header.locations.items
    → padded 508 (header_magic ++ version ++ start ++ size ++ flat_map location_bytes locations) ≡ header_body header
unfolding header_body
header_body-parts header version start size locations ev et es el = rw (ev, et, es, el) refl

pub header_bytes-parts : (header : Header) (crc body : List ℕ) (sum : ℕ) → crc ≡ little_bytes 4 sum → body ≡ header_body header → sum ≡ lvm_crc_of body → length body ≡ 508
    → padded 512 (crc ++ body) ≡ header_bytes header
unfolding header_bytes
header_bytes-parts header crc body sum ec eb es wide =
    let long : length (crc ++ body) ≡ 512 = omega (arith, length-append crc body, ap length ec) in
    padded-full 512 (crc ++ body) long
    ∙ ap (λ (t : List ℕ). t ++ body) (ec ∙ ap (little_bytes 4) (es ∙ ap lvm_crc_of eb))
    ∙ ap (λ (t : List ℕ). little_bytes 4 (lvm_crc_of (header_body header)) ++ t) eb
