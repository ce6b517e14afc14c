-- Ids made from names, and the other orders in which an id's sixteen bytes are written.
use Rattle.std.specs.Prelude.{ℕ, List, ◌∷◌, ◌++◌, take, drop, reverse}
use Rattle.byteorder.specs.Endian.{little_bytes}
use Rattle.sha1.specs.Sha1.{sha1}
use Rattle.uuid.specs.Parts.{with_variant, with_version}
use Rattle.uuid.specs.declared.Variant.TheVariants.{RFC4122}
use Rattle.uuid.specs.declared.Version.TheVariants.{Sha1}

-- the version 5 UUID of a name in a namespace (RFC 4122, section 4.3)
abbrev pub name_based : List ℕ → List ℕ → List ℕ
name_based namespace name = with_version (with_variant (take 16 (sha1 (namespace ++ name))) RFC4122) Sha1

-- the nine bytes that name a child: its kind, and two numbers of 32 bits, the lowest byte first
abbrev pub child_name : ℕ → ℕ → ℕ → List ℕ
child_name kind a b = kind ∷ (little_bytes 4 a ++ little_bytes 4 b)

-- the stored order of a GUID (UEFI, appendix A): the first three groups, of 4, 2 and 2 bytes, have
-- their lowest byte first. Twice this order is the first order again.
abbrev pub guid_order : List ℕ → List ℕ
guid_order bytes =
    reverse (take 4 bytes) ++ reverse (take 2 (drop 4 bytes)) ++ reverse (take 2 (drop 6 bytes)) ++ drop 8 bytes
