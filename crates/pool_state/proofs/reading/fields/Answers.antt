-- Each part is what the table says.
use Rattle.std.proofs.Common.{ℕ, ap, map, ◌∙◌}
use Rattle.std.specs.List.{range_with_len}
use Rattle.pool_state.specs.Sector.{copied_of, drive_at, plan_of}
use Rattle.pool_state.proofs.reading.fields.Goals as goal

pub returns : goal.returns
unfolding copied_of
returns c =
    let block = c.args.bytes.now in
    let counted = c.drives.ensures ∙ ap (λ (n : ℕ). map (λ place. drive_at place block) (range_with_len 0 n)) c.u8_at-count.ensures in
    let planned = c.plan.ensures ∙ (λ i. plan_of (c.u8_at.ensures i) (c.u8_at-2.ensures i)) in
    let made = c.from.ensures ∙ c.u8_at-3.ensures in
    let joined = c.from-2.ensures ∙ c.u8_at-4.ensures in
    let own = c.from-3.ensures ∙ c.u8_at-5.ensures in
    λ i. record {
      state = record {
        pool = record { 0 = c.id_at.ensures i };
        epoch = c.u64_at.ensures i;
        extent = c.u32_at.ensures i;
        drives = record { items = counted i };
        plan = planned i;
        made = made i;
        joined = joined i;
        serial = c.u32_at-2.ensures i;
      };
      own = own i;
    }
