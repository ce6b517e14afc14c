-- Each part is written once, and the sum last.
use Rattle.std.proofs.Common.{◌≡◌, ◌%◌, ℕ, List, ap, subst, ◌∙◌, arith}
use Rattle.byteorder.specs.Endian.{little_bytes}
use Rattle.shr_base.specs.Blocks.{put_at}
use Rattle.shr_base.specs.Crc.{crc32_of}
use Rattle.pool_state.specs.Sector.{decoded}
use Rattle.pool_state.specs.Written.{table_of, HaveIds}
use Rattle.pool_state.proofs.RoundTrip.{Fits, unsummed, summed, decoded-summed}
use Rattle.pool_state.proofs.writing.encode_state.Goals as goal

pub returns : goal.returns
returns c = λ valid.
    let s = c.args.state.now in
    let own = c.args.own in
    let sum = c.crc32-sum.result in
    let fits : Fits s = record {
      pool = c.put_bytes-2.ensures.fits;
      epoch = c.put_u64.ensures.fits;
      extent = c.put_u32-2.ensures.fits;
      serial = c.put_u32-3.ensures.fits;
      ids = subst HaveIds c.as_slice.ensures.value c.drive_table.ensures.ids;
      few = omega (arith, c.len.ensures.value, c.len.ensures.fits);
    } in
    -- the sector after each step is that of the parts up to there
    let name = c.put_bytes.ensures.written in
    let version = c.put_u32.ensures.written ∙ ap (put_at _ _ _) name in
    let pool = c.put_bytes-2.ensures.written ∙ ap (put_at _ _ _) version in
    let epoch = c.put_u64.ensures.written ∙ ap (put_at _ _ _) pool in
    let extent = c.put_u32-2.ensures.written ∙ ap (put_at _ _ _) epoch in
    let byte : ℕ → ℕ → List ℕ → List ℕ = λ offset n block. put_at offset 1 (little_bytes 1 n) block in
    let count = c.put_u8.ensures.written ∙ (λ i. byte 44 (c.len.ensures.value i) (extent i)) in
    let place = c.put_u8-2.ensures.written ∙ (λ i. byte 45 (c.low_byte.ensures i) (count i)) in
    let kind = c.put_u8-3.ensures.written ∙ (λ i. byte 46 (c.plan_kind.ensures i) (place i)) in
    let planned = c.low_byte-2.ensures ∙ ap (λ (n : ℕ). n % 256) c.plan_place.ensures in
    let plan_place = c.put_u8-4.ensures.written ∙ (λ i. byte 47 (planned i) (kind i)) in
    let made = c.put_u8-5.ensures.written ∙ (λ i. byte 48 (c.low_byte-3.ensures i) (plan_place i)) in
    let joined = c.put_u8-6.ensures.written ∙ (λ i. byte 49 (c.low_byte-4.ensures i) (made i)) in
    let serial = c.put_u32-3.ensures.written ∙ ap (put_at _ _ _) joined in
    let table = c.drive_table.ensures.value ∙ ap table_of c.as_slice.ensures.value in
    let before_sum : c.put_bytes-3.new.block ≡ unsummed s own
    = c.put_bytes-3.ensures.written ∙ (λ i. put_at 64 448 (table i) (serial i)) in
    let after_sum : c.put_u32-4.new.block ≡ summed s own sum = c.put_u32-4.ensures.written ∙ ap (put_at 12 4 (little_bytes 4 sum)) before_sum in
    let is_sum = c.crc32-sum.ensures ∙ ap crc32_of before_sum in
    ap decoded after_sum ∙ decoded-summed s own sum fits valid c.put_u32-4.ensures.fits is_sum
