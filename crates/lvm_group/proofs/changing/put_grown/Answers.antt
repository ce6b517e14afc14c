use Rattle.std.proofs.Common.{◌≡◌, ◌^◌, ◌<◌, ◌≤◌, ◌++◌, ℕ, List, Ok, ap, subst, ◌∙◌, length}
use Rattle.std.specs.Prelude.{slice_index}
use Rattle.std.specs.List.{range_with_len}
use Rattle.lvm_text.specs.declared.group.Group.{Group}
use Rattle.lvm_text.specs.Printed.{printed}
use Rattle.lvm_text.specs.Group.{group_of}
use Rattle.lvm_label.specs.Header.{IsLocation}
use Rattle.lvm_group.specs.Changing.{Changes}
use Rattle.lvm_group.specs.Writing.{own_location}
use Rattle.lvm_group.specs.Own.{own_group}
use Rattle.lvm_group.proofs.OwnText.{length_map}
use Rattle.lvm_group.proofs.Written.{range_long}
use Rattle.lvm_group.proofs.NewVolume.{group_is, holds_metadata}
use Rattle.lvm_group.proofs.changing.put_grown.Goals as goal

pub print_own-requires-clause-same : goal.print_own-requires-clause-same
print_own-requires-clause-same g c =
    ap length (c.as_slice.ensures.value ∙ c.sizes-sectors.ensures) ∙ length_map (g.R.Rack.seen c.args.rack.now).sectors (range_with_len 0 (length c.args.numbers.now)) ∙ range_long 0 (length c.args.numbers.now)

pub put_change-requires-clause-sectors : goal.put_change-requires-clause-sectors
put_change-requires-clause-sectors g c = holds_metadata c.args.extent (g.R.Rack.seen c.args.rack.now).sectors c.args.numbers.now c.requires.holds

pub returns-clause-changes : goal.returns-clause-changes
returns-clause-changes g c =
    let same = group_is c.args.pool.now.0 c.args.extent (g.R.Rack.seen c.args.rack.now).sectors c.args.seqno c.args.numbers.now c.as_slice.result.now c.args.runs.now (c.as_slice.ensures.value ∙ c.sizes-sectors.ensures) in
    let text = c.as_slice-printed.ensures ∙ c.print_own.ensures.text
    ∙ ap (λ (before : List ℕ). before ++ printed (own_group c.args.pool.now.0 c.args.extent (slice_index c.as_slice.result.now) c.args.seqno c.args.numbers.now c.args.runs.now)) c.clear.ensures.empty ∙ ap printed same in
    subst (λ (t : List ℕ). Changes c.args.pool.now.0 t (length c.args.numbers.now) (g.R.Rack.seen c.args.rack.now) (g.R.Rack.seen c.put_change.new.rack) c.put_change.result) text c.put_change.ensures.changes

pub returns-clause-read_back : goal.returns-clause-read_back
returns-clause-read_back g c =
    let same = group_is c.args.pool.now.0 c.args.extent (g.R.Rack.seen c.args.rack.now).sectors c.args.seqno c.args.numbers.now c.as_slice.result.now c.args.runs.now (c.as_slice.ensures.value ∙ c.sizes-sectors.ensures) in
    let text = c.as_slice-printed.ensures ∙ c.print_own.ensures.text
    ∙ ap (λ (before : List ℕ). before ++ printed (own_group c.args.pool.now.0 c.args.extent (slice_index c.as_slice.result.now) c.args.seqno c.args.numbers.now c.args.runs.now)) c.clear.ensures.empty ∙ ap printed same in
    record {
      labels = c.encoded_labels_decode.ensures;
      headers = c.encoded_headers_decode.ensures;
      label = c.own_labels_fit.ensures;
      location = subst (λ (t : List ℕ). (offset : ℕ) → 0 < offset → offset < 2 ^ 64 → IsLocation (own_location offset t)) text c.own_locations_fit.ensures;
      short = subst (λ (group : Group). length (printed group) ≤ 262144) same c.print_own.ensures.most;
      read = subst (λ (group : Group). group_of (printed group) ≡ Ok group) same c.print_own.ensures.read_back;
    }
