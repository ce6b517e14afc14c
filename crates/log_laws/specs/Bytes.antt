-- A record as the bytes of its sectors, in a row.
use Rattle.std.specs.Prelude.{◌≡◌, ℕ, ◌+◌, ◌*◌, ◌≤◌, List, map, codes, replicate, take, length, Bool, ◌&&◌, ◌==◌, bytes_eq}
use Rattle.std.specs.List.{range_with_len, list_all}
use Rattle.byteorder.specs.Endian.{little_bytes}
use Rattle.shr_base.specs.Blocks.{bytes_at, number_at, put_at}
use Rattle.shr_base.specs.Crc.{crc32_of}
use Rattle.rack.specs.Targets.{Target}
use Rattle.array_image.specs.Record.{is_target, are_apart}

-- the sectors of a record's head, and the most of all
abbrev pub head_sectors : ℕ
head_sectors = 96

abbrev pub record_sectors : ℕ
record_sectors = 4092

abbrev pub record_bytes : ℕ
record_bytes = 2095104

-- a sector of it
abbrev pub sector_in : List ℕ → ℕ → List ℕ
sector_in bytes k = bytes_at (512 * k) 512 bytes

-- the target of a number, with its payload
abbrev pub target_in : List ℕ → ℕ → Target
target_in bytes k = record {
  disk = number_at (64 + 12 * k) 4 bytes;
  sector = number_at (68 + 12 * k) 8 bytes;
  bytes = sector_in bytes (96 + k);
}

-- the first targets
unfoldable pub targets_in : List ℕ → ℕ → List Target
targets_in bytes count = map (target_in bytes) (range_with_len 0 count)

-- the head says that this is the record of a number with so many targets
pub record IsSealed (number count : ℕ) (bytes : List ℕ) : Type 0 where
  pub long : length bytes ≡ record_bytes
  pub word : bytes_at 0 8 bytes ≡ codes "SHRBODY1"
  pub numbered : number_at 16 8 bytes ≡ number
  pub counted : number_at 12 4 bytes ≡ count
  pub some : 1 ≤ count
  pub few : count ≤ 3996
  pub summed : number_at 8 4 bytes ≡ crc32_of (put_at 8 4 (replicate 4 0) (take (512 * (96 + count)) bytes))

-- a sector begins as a gate and has its sum
abbrev pub is_gate : List ℕ → Bool
is_gate block = bytes_eq (bytes_at 0 8 block) (codes "SHRGATE1") && (number_at 8 4 block == crc32_of (put_at 8 4 (replicate 4 0) block))

-- the bytes pass the tests of a record of this number, with so many targets
abbrev pub passes : ℕ → ℕ → List ℕ → Bool
passes number count bytes =
    bytes_eq (bytes_at 0 8 bytes) (codes "SHRBODY1")
    && (number_at 16 8 bytes == number)
    && (number_at 8 4 bytes == crc32_of (put_at 8 4 (replicate 4 0) (take (512 * (96 + count)) bytes)))
    && list_all is_target (targets_in bytes count)
    && are_apart (targets_in bytes count)

-- a gate's word alone
abbrev pub gate_word : List ℕ
gate_word = put_at 0 8 (codes "SHRGATE1") (replicate 512 0)

-- the gate of a new log, closed with number 0: the word, the sum, and zeros
abbrev pub first_gate : List ℕ
first_gate = put_at 8 4 (little_bytes 4 (crc32_of gate_word)) gate_word
