-- What a private step of writing does.
use Rattle.std.specs.Prelude.{List, [], ◌∷◌}
use Rattle.std.specs.Int.{w32, cast_unsigned}
use Rattle.byteorder.specs.Endian.{little_bytes}
use Rattle.shr_base.specs.Blocks.{Write}
use Rattle.md_super.specs.declared.superblock.Super.{Super}

-- the fields that have a sign
abbrev pub signed_fields : Super → List Write
signed_fields s =
    record { offset = 72; width = 4; bytes = little_bytes 4 (cast_unsigned w32 s.level) }
    ∷ record { offset = 100; width = 4; bytes = little_bytes 4 (cast_unsigned w32 s.new_level) }
    ∷ record { offset = 112; width = 4; bytes = little_bytes 4 (cast_unsigned w32 s.delta_disks) }
    ∷ []
