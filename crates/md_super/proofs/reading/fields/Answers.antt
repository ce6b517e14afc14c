-- Each field is what the table says.
use Rattle.std.proofs.Common.{ℕ, ap, ◌∙◌, rules}
use Rattle.std.specs.Int.{w32}
use Rattle.std.proofs.lemmas.Int.{to_z-of_z}
use Rattle.shr_base.specs.Blocks.{bytes_at, numbers_at}
use Rattle.md_super.specs.Layout.{fields_of}
use Rattle.md_super.proofs.reading.fields.Goals as goal

pub returns : goal.returns
unfolding fields_of bytes_at
returns c =
    let counted = c.roles.ensures ∙ ap (λ (n : ℕ). numbers_at 256 2 n c.args.bytes.now) c.requires.is_count in
    let level = to_z-of_z w32 c.i32_at.result (search rules) ∙ c.i32_at.ensures in
    let new_level = to_z-of_z w32 c.i32_at-2.result (search rules) ∙ c.i32_at-2.ensures in
    let delta_disks = to_z-of_z w32 c.i32_at-3.result (search rules) ∙ c.i32_at-3.ensures in
    λ i. record {
      feature_map = c.u32_at.ensures i;
      set_id = record { 0 = c.id_at.ensures i };
      set_name = c.copy_from_slice.ensures.after i;
      ctime = c.u64_at.ensures i;
      level = level i;
      layout = c.u32_at-2.ensures i;
      size = c.u64_at-2.ensures i;
      chunk = c.u32_at-3.ensures i;
      raid_disks = c.u32_at-4.ensures i;
      new_level = new_level i;
      reshape_position = c.u64_at-3.ensures i;
      delta_disks = delta_disks i;
      new_layout = c.u32_at-5.ensures i;
      new_chunk = c.u32_at-6.ensures i;
      data_offset = c.u64_at-4.ensures i;
      data_size = c.u64_at-5.ensures i;
      super_offset = c.u64_at-6.ensures i;
      recovery_offset = c.u64_at-7.ensures i;
      dev_number = c.u32_at-7.ensures i;
      device_id = record { 0 = c.id_at-2.ensures i };
      utime = c.u64_at-8.ensures i;
      events = c.u64_at-9.ensures i;
      resync_offset = c.u64_at-10.ensures i;
      roles = record { items = counted i };
    }
