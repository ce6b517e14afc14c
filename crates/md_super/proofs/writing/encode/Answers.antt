-- Each field is written once, and the sum last.
use Rattle.std.proofs.Common.{◌≡◌, ◌++◌, ◌*◌, ◌^◌, ◌<◌, ℕ, List, get_or, length, replicate, sym, ap, subst, ◌∙◌}
use Rattle.std.specs.List.{flat_map}
use Rattle.byteorder.specs.Endian.{little_bytes}
use Rattle.shr_base.specs.Blocks.{put_at, put_all}
use Rattle.shr_base.specs.Sum.{md_sum_of}
use Rattle.md_super.specs.Layout.{decoded, LeavesZeros}
use Rattle.md_super.specs.Written.{signed_fields}
use Rattle.md_super.proofs.RoundTrip.{Fits, unsummed, summed, decoded-summed, LeavesZeros-summed}
use Rattle.md_super.proofs.writing.encode.Goals as goal

pub returns : goal.returns
returns c =
    let s = c.args.seen.now in
    let sum = c.md_sum-sum.result in
    let fits : Fits s = record {
      feature_map = c.put_u32-3.ensures.fits;
      set_id = c.put_bytes.ensures.fits;
      set_name = c.put_bytes-2.ensures.fits;
      ctime = c.put_u64.ensures.fits;
      layout = c.put_u32-4.ensures.fits;
      size = c.put_u64-2.ensures.fits;
      chunk = c.put_u32-5.ensures.fits;
      raid_disks = c.put_u32-6.ensures.fits;
      reshape_position = c.put_u64-3.ensures.fits;
      new_layout = c.put_u32-7.ensures.fits;
      new_chunk = c.put_u32-8.ensures.fits;
      data_offset = c.put_u64-4.ensures.fits;
      data_size = c.put_u64-5.ensures.fits;
      super_offset = c.put_u64-6.ensures.fits;
      recovery_offset = c.put_u64-7.ensures.fits;
      dev_number = c.put_u32-9.ensures.fits;
      device_id = c.put_bytes-3.ensures.fits;
      utime = c.put_u64-8.ensures.fits;
      events = c.put_u64-9.ensures.fits;
      resync_offset = c.put_u64-10.ensures.fits;
      level = c.put_signed.ensures.level;
      new_level = c.put_signed.ensures.new_level;
      delta_disks = c.put_signed.ensures.delta_disks;
      roles = λ k. subst (λ (xs : List ℕ). get_or xs k 0 < 2 ^ 16) c.as_slice.ensures.value (c.put_numbers.ensures.fits k);
      count = c.requires;
    } in
    -- the block after each step is that of the fields up to there
    let magic = c.put_u32.ensures.written in
    let major_version = c.put_u32-2.ensures.written ∙ ap (put_at _ _ _) magic in
    let feature_map = c.put_u32-3.ensures.written ∙ ap (put_at _ _ _) major_version in
    let set_id = c.put_bytes.ensures.written ∙ ap (put_at _ _ _) feature_map in
    let set_name = c.put_bytes-2.ensures.written ∙ ap (put_at _ _ _) set_id in
    let ctime = c.put_u64.ensures.written ∙ ap (put_at _ _ _) set_name in
    let layout = c.put_u32-4.ensures.written ∙ ap (put_at _ _ _) ctime in
    let size = c.put_u64-2.ensures.written ∙ ap (put_at _ _ _) layout in
    let chunk = c.put_u32-5.ensures.written ∙ ap (put_at _ _ _) size in
    let raid_disks = c.put_u32-6.ensures.written ∙ ap (put_at _ _ _) chunk in
    let reshape_position = c.put_u64-3.ensures.written ∙ ap (put_at _ _ _) raid_disks in
    let signed = c.put_signed.ensures.written ∙ ap (put_all (signed_fields s)) reshape_position in
    let new_layout = c.put_u32-7.ensures.written ∙ ap (put_at _ _ _) signed in
    let new_chunk = c.put_u32-8.ensures.written ∙ ap (put_at _ _ _) new_layout in
    let data_offset = c.put_u64-4.ensures.written ∙ ap (put_at _ _ _) new_chunk in
    let data_size = c.put_u64-5.ensures.written ∙ ap (put_at _ _ _) data_offset in
    let super_offset = c.put_u64-6.ensures.written ∙ ap (put_at _ _ _) data_size in
    let recovery_offset = c.put_u64-7.ensures.written ∙ ap (put_at _ _ _) super_offset in
    let dev_number = c.put_u32-9.ensures.written ∙ ap (put_at _ _ _) recovery_offset in
    let device_id = c.put_bytes-3.ensures.written ∙ ap (put_at _ _ _) dev_number in
    let utime = c.put_u64-8.ensures.written ∙ ap (put_at _ _ _) device_id in
    let events = c.put_u64-9.ensures.written ∙ ap (put_at _ _ _) utime in
    let resync_offset = c.put_u64-10.ensures.written ∙ ap (put_at _ _ _) events in
    let max_dev = c.put_u32-10.ensures.written ∙ ap (put_at _ _ _) resync_offset in
    let before = c.put_u32-10.new.block in
    let before_sum : c.put_numbers.new.block ≡ unsummed s =
    c.put_numbers.ensures.written
    ∙ ap (λ (xs : List ℕ). put_at 256 (2 * length xs) (flat_map (little_bytes 2) xs) before) c.as_slice.ensures.value
    ∙ ap (λ (n : ℕ). put_at 256 (2 * n) (flat_map (little_bytes 2) s.roles.items) before) c.requires
    ∙ ap (put_at 256 256 (flat_map (little_bytes 2) s.roles.items)) max_dev in
    let after_sum : c.put_u32-11.new.block ≡ summed s sum = c.put_u32-11.ensures.written ∙ ap (put_at 216 4 (little_bytes 4 sum)) before_sum in
    let is_sum = c.md_sum-sum.ensures ∙ ap md_sum_of before_sum in
    record {
      read_back =
          ap (λ (xs : List ℕ). decoded (xs ++ replicate 512 0)) after_sum
          ∙ decoded-summed s sum fits c.put_u32-11.ensures.fits is_sum;
      elsewhere = subst LeavesZeros (sym after_sum) (LeavesZeros-summed s sum fits c.put_u32-11.ensures.fits);
    }
