use Rattle.std.proofs.Common.{◌≡◌, ◌*◌, ◌≤◌, true, List, ap, sym, subst, ◌∙◌, arith, length}
use Rattle.lvm_group.specs.declared.runs.Run.{Run}
use Rattle.lvm_group.specs.Runs.{IsOrderly, Linear, extents_of}
use Rattle.lvm_group.specs.Group.{all_apart}
use Rattle.lvm_group.specs.Own.{in_row}
use Rattle.lvm_group.specs.Shown.{IsInside}
use Rattle.lvm_group.specs.Brought.{BringsUp}
use Rattle.lvm_group.specs.Opening.{Opens}
use Rattle.rack.specs.Joins.{stays_then}
use Rattle.lvm_group.proofs.Calls.{several_join}
use Rattle.lvm_group.proofs.Brought.{brought, rewrites_stays}
use Rattle.lvm_group.proofs.Below.{inside_still}
use Rattle.lvm_group.proofs.Answered.{opened_apart, opened_few, opened_inside, opened_numbered, opened_orderly, opened_row, opened_small}
use Rattle.lvm_group.proofs.volume.Volume.open.Goals as goal

pub copy-requires : goal.copy-requires
copy-requires g c =
    let few = opened_few c.args.pool.now.0 c.args.extent c.args.joined (record { extent = c.args.extent; arrays = c.args.joined; runs = c.in-Ok-find_runs.opened.runs.items }) c.in-Ok-find_runs.opened.seqno
    c.in-Ok-find_runs.ensures.opens.opens in
    let same = ap length c.as_slice-in-Ok-find_runs.ensures.value in
    let room = c.in-Ok.ensures.runs in
    record { room = omega arith }

pub extents_in-count-requires : goal.extents_in-count-requires
extents_in-count-requires g c =
    let small = opened_small c.args.pool.now.0 c.args.extent c.args.joined (record { extent = c.args.extent; arrays = c.args.joined; runs = c.in-Ok-find_runs.opened.runs.items }) c.in-Ok-find_runs.opened.seqno
    c.requires.sized c.requires.arrays c.requires.small c.in-Ok-find_runs.ensures.opens.opens in
    let same = ap extents_of c.as_slice-in-Ok-find_runs-2.ensures.value in
    omega arith

pub invariant_of-result : goal.invariant_of-result
invariant_of-result g c =
    let l : Linear = record { extent = c.args.extent; arrays = c.args.joined; runs = c.in-Ok-find_runs.opened.runs.items } in
    let opens = c.in-Ok-find_runs.ensures.opens.opens in
    let seqno = c.in-Ok-find_runs.opened.seqno in
    let runs_are : c.copy.new.into.items ≡ c.in-Ok-find_runs.opened.runs.items = c.copy.ensures.items ∙ c.as_slice-in-Ok-find_runs.ensures.value in
    record {
      orderly = subst (λ (runs : List Run). IsOrderly (record { extent = c.from.result; arrays = c.args.joined; runs = runs })) (sym runs_are)
          (subst (λ n. IsOrderly (record { extent = n; arrays = c.args.joined; runs = c.in-Ok-find_runs.opened.runs.items })) (sym c.from.ensures) (opened_orderly c.args.pool.now.0 c.args.extent c.args.joined l seqno c.requires.sized opens));
      row = subst (λ (runs : List Run). in_row 0 runs ≡ true) (sym runs_are) (opened_row c.args.pool.now.0 c.args.extent c.args.joined l seqno opens);
      apart = subst (λ (runs : List Run). all_apart runs ≡ true) (sym runs_are) (opened_apart c.args.pool.now.0 c.args.extent c.args.joined l seqno opens);
      counted = c.extents_in-count.ensures ∙ ap extents_of (c.as_slice-in-Ok-find_runs-2.ensures.value ∙ sym runs_are);
      few = subst (λ (runs : List Run). length runs ≤ 1024) (sym runs_are) (opened_few c.args.pool.now.0 c.args.extent c.args.joined l seqno opens);
      numbered = opened_numbered c.args.pool.now.0 c.args.extent c.args.joined l seqno opens;
      runs_room = let room = c.copy.ensures.room in let before = c.in-Ok.ensures.runs in omega arith;
      spare_room = c.in-Ok.ensures.spare;
      text_room = let room = c.in-Ok-find_runs.ensures.room in let before = c.in-Ok.ensures.text in omega arith;
    }

pub returns-in-Ok-find_runs-clause-fit : goal.returns-in-Ok-find_runs-clause-fit
returns-in-Ok-find_runs-clause-fit g c =
    let runs_are : c.copy.new.into.items ≡ c.in-Ok-find_runs.opened.runs.items = c.copy.ensures.items ∙ c.as_slice-in-Ok-find_runs.ensures.value in
    let later = rewrites_stays c.args.pool.now.0 c.as_slice.result.now c.args.joined c.in-Ok-find_runs.opened.even c.bring_up.ensures.rewrites in (
      later.fit,
      subst (λ (runs : List Run). IsInside (record { extent = c.from.result; arrays = c.args.joined; runs = runs }) (g.R.Rack.seen c.bring_up.new.rack)) (sym runs_are)
          (subst (λ n. IsInside (record { extent = n; arrays = c.args.joined; runs = c.in-Ok-find_runs.opened.runs.items }) (g.R.Rack.seen c.bring_up.new.rack)) (sym c.from.ensures)
          (inside_still (stays_then c.in-Ok-find_runs.ensures.looks.stays later)
          (opened_inside c.args.pool.now.0 c.args.extent c.args.joined (record { extent = c.args.extent; arrays = c.args.joined; runs = c.in-Ok-find_runs.opened.runs.items }) c.in-Ok-find_runs.opened.seqno c.requires.arrays
          c.requires.small c.in-Ok-find_runs.ensures.opens.opens))),
    )

pub returns-in-Ok-find_runs-clause-opens : goal.returns-in-Ok-find_runs-clause-opens
returns-in-Ok-find_runs-clause-opens g c =
    let runs_are : c.copy.new.into.items ≡ c.in-Ok-find_runs.opened.runs.items = c.copy.ensures.items ∙ c.as_slice-in-Ok-find_runs.ensures.value in
    let extent_is : c.from.result ≡ c.args.extent = c.from.ensures in
    let a = g.R.Rack.seen c.args.rack in
    let b = g.R.Rack.seen c.bring_up.new.rack in
    let l : Linear = record { extent = c.args.extent; arrays = c.args.joined; runs = c.in-Ok-find_runs.opened.runs.items } in
    let next : Linear = record { extent = c.from.result; arrays = c.args.joined; runs = c.copy.new.into.items } in
    let same : l ≡ next = λ j. record { extent = sym extent_is j; arrays = c.args.joined; runs = sym runs_are j } in
    let seqno = c.in-Ok-find_runs.opened.seqno in
    let later = rewrites_stays c.args.pool.now.0 c.as_slice.result.now c.args.joined c.in-Ok-find_runs.opened.even c.bring_up.ensures.rewrites in
    subst (λ (l : Linear). (opens : Opens c.args.pool.now.0 c.args.extent c.args.joined a b l seqno) × BringsUp c.args.pool.now.0 c.args.joined l seqno opens.runs.group a b) same
    (brought c.args.pool.now.0 c.as_slice.result.now c.find_runs.new.kept.bytes c.args.extent c.args.joined l seqno c.in-Ok-find_runs.opened.even c.encoded_labels_decode.ensures c.encoded_headers_decode.ensures
    c.in-Ok-find_runs.ensures.looks later c.as_slice.ensures c.in-Ok-find_runs.ensures.opens c.bring_up.ensures.rewrites)

pub returns-in-Ok-find_runs-clause-several : goal.returns-in-Ok-find_runs-clause-several
returns-in-Ok-find_runs-clause-several g c =
    several_join g.R.Rack.once (521 * c.args.joined) (518 * c.args.joined) (1039 * c.args.joined) _ _ _ (omega arith) c.in-Ok-find_runs.ensures.several c.bring_up.ensures.several
