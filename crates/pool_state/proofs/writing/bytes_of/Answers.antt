-- Three fields, one right behind the other.
use Rattle.std.proofs.Common.{◌≡◌, ◌++◌, ℕ, List, [], length, replicate, refl, ap, ◌∙◌, arith, append_assoc, append-nil, length-append, rules}
use Rattle.byteorder.specs.Endian.{little_bytes}
use Rattle.shr_base.specs.Blocks.{put_at}
use Rattle.pool_state.specs.Written.{flags_of}
use Rattle.pool_state.proofs.DriveTable.{put_at-zeros}
use Rattle.pool_state.proofs.writing.bytes_of.Goals as goal

pub returns-clause-value : goal.returns-clause-value
returns-clause-value c =
    let d = c.args.drive.now in
    let id : List ℕ = d.id.0 in
    let units : List ℕ = little_bytes 8 d.units in
    let flags : List ℕ = little_bytes 4 (flags_of d.missing) in
    let first : c.put_bytes.new.block ≡ id ++ replicate 12 0
    = c.put_bytes.ensures.written ∙ put_at-zeros [] id 0 16 28 12 refl c.put_bytes.ensures.fits refl in
    let second : c.put_u64.new.block ≡ (id ++ units) ++ replicate 4 0
    = c.put_u64.ensures.written ∙ ap (put_at 16 8 units) first ∙ put_at-zeros id units 16 8 12 4 c.put_bytes.ensures.fits refl refl in
    let long : length (id ++ units) ≡ 24 = omega (arith, length-append id units, c.put_bytes.ensures.fits) in
    let bit : c.from.result ≡ flags_of d.missing = search rules in
    c.put_u32.ensures.written ∙ ap (λ (n : ℕ). put_at 24 4 (little_bytes 4 n) c.put_u64.new.block) bit
    ∙ ap (put_at 24 4 flags) second ∙ put_at-zeros (id ++ units) flags 24 4 4 0 long refl refl
    ∙ append-nil ((id ++ units) ++ flags) ∙ append_assoc id units flags
