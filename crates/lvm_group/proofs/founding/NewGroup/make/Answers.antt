use Rattle.std.proofs.Common.{◌≡◌, ◌<◌, ◌≤◌, ◌^◌, [], List, ℕ, Ok, ap, sym, subst, ◌∙◌, length, slice_index, arith}
use Rattle.lvm_label.specs.Header.{IsLocation}
use Rattle.lvm_label.specs.Label.{IsLabel}
use Rattle.lvm_text.specs.declared.group.Group.{Group}
use Rattle.lvm_text.specs.Group.{group_of}
use Rattle.lvm_text.specs.Printed.{printed}
use Rattle.lvm_group.specs.declared.runs.Run.{Run}
use Rattle.lvm_group.specs.Growth.{grown}
use Rattle.lvm_group.specs.Own.{HoldAll}
use Rattle.lvm_group.specs.Made.{new_group}
use Rattle.lvm_group.specs.Runs.{extents_of}
use Rattle.lvm_group.specs.Writing.{own_label, own_location}
use Rattle.lvm_group.proofs.NewMeaning.{read_again}
use Rattle.lvm_group.proofs.NewVolume.{new_extents}
use Rattle.lvm_group.proofs.founding.NewGroup.make.Goals as goal

pub invariant_of-result : goal.invariant_of-result
invariant_of-result c =
    let bytes : List ℕ = c.lay_out.new.room.text.bytes in
    let pool : List ℕ = c.args.pool.now.0 in
    let runs = c.lay_out.ensures.runs_are ∙ ap (grown []) c.as_slice-2.ensures.value in
    let numbers = subst (λ (ns : List ℕ). bytes ≡ printed (new_group pool c.from.result (slice_index c.as_slice.result.now) ns)) c.as_slice-2.ensures.value c.lay_out.ensures.text in
    let sectors = subst (λ (ns : List ℕ). bytes ≡ printed (new_group pool c.from.result (slice_index ns) c.args.numbers.items)) c.as_slice.ensures.value numbers in
    record {
      sized = subst (λ n. 0 < n) (sym c.from-2.ensures) c.requires.sized;
      same = c.requires.same;
      counted = subst (λ (rs : List Run). extents_of rs < 2 ^ 52) (sym runs) (new_extents c.args.numbers.items (let fits = c.as_slice-2.ensures.fits in let many = ap length c.as_slice-2.ensures.value in omega (arith, fits, many)) c.requires.below);
      holds = subst (λ n. HoldAll n (slice_index c.args.sectors.items) 0 c.args.numbers.items) (sym c.from-2.ensures) c.requires.holds;
      small = c.requires.small;
      runs_are = runs;
      text_is = subst (λ n. bytes ≡ printed (new_group pool n (slice_index c.args.sectors.items) c.args.numbers.items)) (c.from.ensures ∙ sym c.from-2.ensures) sectors;
      short = c.lay_out.ensures.most;
      runs_room = c.lay_out.ensures.runs_room;
      spare_room = let room = c.lay_out.ensures.spare_room in let before = c.in_ok-room.ensures.spare in omega (arith, room, before);
      text_room = c.lay_out.ensures.text_room;
    }

pub returns-clause-read_again : goal.returns-clause-read_again
returns-clause-read_again c =
    let bytes : List ℕ = c.lay_out.new.room.text.bytes in
    let pool : List ℕ = c.args.pool.now.0 in
    let sizes : List ℕ = c.args.sectors.items in
    let numbers : List ℕ = c.args.numbers.items in
    let group : ℕ → List ℕ → List ℕ → Group = λ extent ns ms. new_group pool extent (slice_index ns) ms in
    let said : group c.from.result c.as_slice.result.now c.as_slice-2.result.now ≡ group c.args.extent sizes numbers =
    ap (λ n. group n c.as_slice.result.now c.as_slice-2.result.now) c.from.ensures
    ∙ ap (λ ns. group c.args.extent ns c.as_slice-2.result.now) c.as_slice.ensures.value
    ∙ ap (group c.args.extent sizes) c.as_slice-2.ensures.value in
    let text : bytes ≡ printed (group c.args.extent sizes numbers) = c.lay_out.ensures.text ∙ ap printed said in
    read_again pool c.args.extent sizes numbers
    (record {
      labels = c.encoded_labels_decode.ensures;
      headers = c.encoded_headers_decode.ensures;
      few = let fits = c.as_slice-2.ensures.fits in let many = ap length c.as_slice-2.ensures.value in omega (arith, fits, many);
      holds = c.requires.holds;
      label = λ array low.
          subst (λ (ns : List ℕ). IsLabel (own_label pool array (slice_index ns array))) c.as_slice-3.ensures.value
          (c.labels_fit.ensures array (let many = ap length c.as_slice-3.ensures.value in let same = c.requires.same in omega (arith, low, many, same)));
      location = subst (λ (t : List ℕ). IsLocation (own_location 512 t)) (c.as_slice-4.ensures ∙ text) (c.own_locations_fit.ensures 512 (omega arith) (omega arith));
      short = subst (λ (t : List ℕ). length t ≤ 262144) text c.lay_out.ensures.most;
      read = subst (λ (t : List ℕ). group_of t ≡ Ok (group c.args.extent sizes numbers)) text (c.lay_out.ensures.read_back ∙ ap Ok said);
    })
