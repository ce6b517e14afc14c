use Rattle.std.proofs.Common.{◌≡◌, ◌<◌, ◌≤◌, ◌*◌, ℕ, List, [], Ok, ap, subst, ◌∙◌, length}
use Rattle.std.specs.Prelude.{OnOk}
use Rattle.std.specs.List.{range_with_len}
use Rattle.lvm_text.specs.declared.group.Group.{Group}
use Rattle.lvm_text.specs.Group.{group_of}
use Rattle.lvm_text.specs.Printed.{printed}
use Rattle.lvm_label.specs.Header.{IsLocation}
use Rattle.lvm_group.specs.Growth.{grown}
use Rattle.lvm_group.specs.Made.{new_group}
use Rattle.lvm_group.specs.Writing.{Puts, new_targets, own_location, start_at}
use Rattle.lvm_group.proofs.OwnText.{length_map}
use Rattle.lvm_group.proofs.Written.{range_long}
use Rattle.lvm_group.proofs.NewVolume.{group_is, holds_metadata, makes_by, fresh_starts}
use Rattle.lvm_group.proofs.making.make.Goals as goal

pub lay_out-requires-clause-same : goal.lay_out-requires-clause-same
lay_out-requires-clause-same g c =
    ap length (c.as_slice.ensures.value ∙ c.sizes-sectors.ensures) ∙ length_map (g.R.Rack.seen c.args.rack.now).sectors (range_with_len 0 (length c.args.numbers.now)) ∙ range_long 0 (length c.args.numbers.now)

pub put_new-requires-clause-sectors : goal.put_new-requires-clause-sectors
put_new-requires-clause-sectors g c = holds_metadata c.args.extent (g.R.Rack.seen c.args.rack.now).sectors c.args.numbers.now c.requires.holds

pub returns-clause-puts : goal.returns-clause-puts
returns-clause-puts g c =
    let same = group_is c.args.pool.now.0 c.args.extent (g.R.Rack.seen c.args.rack.now).sectors 1 c.args.numbers.now c.as_slice.result.now (grown [] c.args.numbers.now) (c.as_slice.ensures.value ∙ c.sizes-sectors.ensures) in
    let text = c.as_slice-2.ensures ∙ c.lay_out.ensures.text ∙ ap printed same in
    subst (λ (t : List ℕ). Puts (g.R.Rack.seen c.args.rack.now) (g.R.Rack.seen c.put_new.new.rack) (new_targets c.args.pool.now.0 (g.R.Rack.seen c.args.rack.now).sectors [] t (length c.args.numbers.now)) c.put_new.result) text
    c.put_new.ensures.puts

pub returns-clause-makes : goal.returns-clause-makes
returns-clause-makes g c =
    let sectors = (g.R.Rack.seen c.args.rack.now).sectors in
    let same = group_is c.args.pool.now.0 c.args.extent sectors 1 c.args.numbers.now c.as_slice.result.now (grown [] c.args.numbers.now) (c.as_slice.ensures.value ∙ c.sizes-sectors.ensures) in
    let printed_is = c.lay_out.ensures.text ∙ ap printed same in
    let text = c.as_slice-2.ensures ∙ printed_is in
    makes_by (g.R.Rack.seen c.args.rack.now) (g.R.Rack.seen c.put_new.new.rack) c.args.pool.now.0 c.args.extent c.args.numbers.now
    (printed (new_group c.args.pool.now.0 c.args.extent sectors c.args.numbers.now)) c.put_new.result c.encoded_labels_decode.ensures c.encoded_headers_decode.ensures c.requires.some c.requires.few
    c.requires.holds (subst (λ (t : List ℕ). length t ≤ 262144) printed_is c.lay_out.ensures.most)
    (subst (λ (t : List ℕ). group_of t ≡ Ok (new_group c.args.pool.now.0 c.args.extent sectors c.args.numbers.now)) printed_is
    (subst (λ (group : Group). group_of c.lay_out.new.room.text.bytes ≡ Ok group) same c.lay_out.ensures.read_back)) (returns-clause-puts g c) c.put_new.ensures.single c.put_new.ensures.labels
    (subst (λ (t : List ℕ). OnOk c.put_new.result ((array : ℕ) → array < length c.args.numbers.now → IsLocation (own_location (512 * (start_at [] array).sector) t))) text c.put_new.ensures.locations)

pub put_new-requires-clause-starts : goal.put_new-requires-clause-starts
put_new-requires-clause-starts g c = fresh_starts
