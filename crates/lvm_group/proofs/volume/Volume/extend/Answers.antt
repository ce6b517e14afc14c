use Rattle.std.proofs.Common.{◌≡◌, ◌<◌, ◌≤◌, max, true, List, Ok, ap, sym, subst, ◌∙◌, arith, length, Vec, Global}
use Rattle.std.specs.Prelude.{vec_capacity}
use Rattle.std.specs.List.{AllByRecursion}
use Rattle.lvm_group.specs.declared.runs.Run.{Run}
use Rattle.lvm_group.specs.Runs.{IsOrderly, Linear, extents_of}
use Rattle.lvm_group.specs.Group.{all_apart}
use Rattle.lvm_group.specs.Growth.{grown}
use Rattle.lvm_group.specs.Own.{in_row, own_group}
use Rattle.lvm_group.specs.Shown.{IsInside}
use Rattle.lvm_group.proofs.Below.{inside_still}
use Rattle.lvm_group.specs.Extending.{KeepsPlaces}
use Rattle.lvm_group.proofs.KeptPlaces.{extended_keeps}
use Rattle.lvm_group.proofs.Extended.{fits_parts, next_inside, next_orderly, next_writable, small_extents}
use Rattle.lvm_group.proofs.GrownRuns.{grown_within}
use Rattle.lvm_group.proofs.NewVolume.{arrays_small}
use Rattle.lvm_group.proofs.Renewed.{extended_end, extended_images, next_is_group}
use Rattle.lvm_group.proofs.volume.Volume.extend.Goals as goal

pub grow-requires-clause-bounded : goal.grow-requires-clause-bounded
grow-requires-clause-bounded g c =
    let l : Linear = record { extent = c.args.self.now.extent; arrays = c.args.self.now.arrays; runs = c.args.self.now.runs.items } in
    let small = small_extents l (g.R.Rack.seen c.args.self.now.rack) c.args.self.now.orderly c.requires.fit.1 in
    let counted = c.args.self.now.counted in
    omega arith

pub put_grown-requires-clause-runs : goal.put_grown-requires-clause-runs
put_grown-requires-clause-runs g c =
    subst (λ (runs : List Run). AllByRecursion (λ (run : Run). run.array < 16) runs) (sym (c.as_slice-2.ensures.value ∙ c.grow.ensures.items ∙ ap (λ (runs : List Run). grown runs c.args.extents.now) c.as_slice.ensures.value))
    (arrays_small c.args.extents.now (grown c.args.self.now.runs.items c.args.extents.now) c.requires.few
    (grown_within c.args.self.now.runs.items c.args.extents.now (fits_parts c.args.self.now.runs.items c.args.extents.now c.requires.fits).0))

pub put_grown-requires-clause-short : goal.put_grown-requires-clause-short
put_grown-requires-clause-short g c =
    subst (λ (runs : List Run). length runs ≤ 1024) (sym (c.as_slice-2.ensures.value ∙ c.grow.ensures.items ∙ ap (λ (runs : List Run). grown runs c.args.extents.now) c.as_slice.ensures.value))
    (fits_parts c.args.self.now.runs.items c.args.extents.now c.requires.fits).1

pub extents_in-self-requires : goal.extents_in-self-requires
extents_in-self-requires g c =
    let v = c.args.self.now in
    let a = g.R.Rack.seen v.rack in
    let n = length c.args.extents.now in
    let joined = max v.arrays n in
    let arrays = c.requires.arrays in
    let inside = c.requires.fit.1 in
    let old = inside.arrays in
    let is = next_writable v.extent joined a.sectors 1 c.args.extents.now v.runs.items c.requires.few (omega arith) c.requires.holds (omega arith) v.row v.apart c.requires.fits in
    let small = small_extents (record { extent = v.extent; arrays = joined; runs = grown v.runs.items c.args.extents.now }) a
    (next_orderly v.pool.0 v.extent joined a.sectors 1 c.args.extents.now v.runs.items v.orderly.sized c.requires.few c.requires.fits is)
    (next_inside v.pool.0 v.extent joined a 1 c.args.extents.now v.runs.items c.requires.few (omega arith) inside.small c.requires.fits is) in
    let same = ap extents_of (c.as_slice-3.ensures.value ∙ ap (λ (runs : Vec Run Global). runs.items) c.swap.ensures.x_after ∙ c.grow.ensures.items ∙ ap (λ (runs : List Run). grown runs c.args.extents.now) c.as_slice.ensures.value) in
    omega arith

pub invariant_of-self-2 : goal.invariant_of-self-2
invariant_of-self-2 g c =
    let v = c.args.self.now in
    let a = g.R.Rack.seen v.rack in
    let n = length c.args.extents.now in
    let joined = c.max-self.result in
    let most = c.max-self.ensures in
    let is = next_writable v.extent joined a.sectors 1 c.args.extents.now v.runs.items c.requires.few (omega arith) c.requires.holds (omega arith) v.row v.apart c.requires.fits in
    let runs_are = ap (λ (runs : Vec Run Global). runs.items) c.swap.ensures.x_after ∙ c.grow.ensures.items ∙ ap (λ (runs : List Run). grown runs c.args.extents.now) c.as_slice.ensures.value in
    record {
      orderly = subst (λ (runs : List Run). IsOrderly (record { extent = v.extent; arrays = joined; runs = runs })) (sym runs_are)
          (next_orderly v.pool.0 v.extent joined a.sectors 1 c.args.extents.now v.runs.items v.orderly.sized c.requires.few c.requires.fits is);
      row = subst (λ (runs : List Run). in_row 0 runs ≡ true) (sym runs_are) is.row;
      apart = subst (λ (runs : List Run). all_apart runs ≡ true) (sym runs_are) is.apart;
      counted = c.extents_in-self.ensures ∙ ap extents_of c.as_slice-3.ensures.value;
      few = subst (λ (runs : List Run). length runs ≤ 1024) (sym runs_are) is.short;
      numbered = let number = c.next_seqno-seqno.ensures in omega arith;
      runs_room = let room = c.grow.ensures.room in let before = v.spare_room in subst (λ (runs : Vec Run Global). 1024 ≤ vec_capacity runs) (sym c.swap.ensures.x_after) (omega arith);
      spare_room = subst (λ (runs : Vec Run Global). 1024 ≤ vec_capacity runs) (sym c.swap.ensures.y_after) v.runs_room;
      text_room = let room = c.in_ok-put_grown.ensures.room in let before = v.text_room in omega arith;
    }

pub returns-clause-fit : goal.returns-clause-fit
returns-clause-fit g c =
    let v = c.args.self.now in
    let a = g.R.Rack.seen v.rack in
    let n = length c.args.extents.now in
    let joined = c.max-self.result in
    let most = c.max-self.ensures in
    let arrays = c.requires.arrays in
    let inside = c.requires.fit.1 in
    let old = inside.arrays in
    let is = next_writable v.extent joined a.sectors 1 c.args.extents.now v.runs.items c.requires.few (omega arith) c.requires.holds (omega arith) v.row v.apart c.requires.fits in
    let runs_are = ap (λ (runs : Vec Run Global). runs.items) c.swap.ensures.x_after ∙ c.grow.ensures.items ∙ ap (λ (runs : List Run). grown runs c.args.extents.now) c.as_slice.ensures.value in
    let stays = c.in_ok-put_grown.ensures.changes.puts.only.stays in (
      stays.fit,
      inside_still stays
          (subst (λ (runs : List Run). IsInside (record { extent = v.extent; arrays = joined; runs = runs }) a) (sym runs_are)
          (next_inside v.pool.0 v.extent joined a 1 c.args.extents.now v.runs.items c.requires.few (omega arith) inside.small c.requires.fits is)),
    )

pub returns-clause-images : goal.returns-clause-images
returns-clause-images g c =
    let v = c.args.self.now in
    let a = g.R.Rack.seen v.rack in
    let l : Linear = record { extent = v.extent; arrays = v.arrays; runs = v.runs.items } in
    let runs_are = c.as_slice-2.ensures.value ∙ c.grow.ensures.items ∙ ap (λ (runs : List Run). grown runs c.args.extents.now) c.as_slice.ensures.value in
    extended_images v.pool.0 l v.seqno c.args.extents.now (Ok tt) (own_group v.pool.0 v.extent a.sectors c.next_seqno-seqno.result c.args.extents.now c.as_slice-2.result.now)
    (record { some = c.requires.some; few = c.requires.few; holds = c.requires.holds; numbered = v.numbered; row = v.row; apart = v.apart; fitting = c.requires.fits })
    (record {
      is = next_is_group v.pool.0 l a.sectors v.seqno c.next_seqno-seqno.result c.args.extents.now c.as_slice-2.result.now c.next_seqno-seqno.ensures runs_are;
      back = c.in_ok-put_grown.ensures.read_back;
      changes = c.in_ok-put_grown.ensures.changes;
    })

pub returns-in_err-put_grown-clause-images : goal.returns-in_err-put_grown-clause-images
returns-in_err-put_grown-clause-images g c =
    let v = c.args.self.now in
    let a = g.R.Rack.seen v.rack in
    let l : Linear = record { extent = v.extent; arrays = v.arrays; runs = v.runs.items } in
    let runs_are = c.as_slice-2.ensures.value ∙ c.grow.ensures.items ∙ ap (λ (runs : List Run). grown runs c.args.extents.now) c.as_slice.ensures.value in
    extended_images v.pool.0 l v.seqno c.args.extents.now c.put_grown.result (own_group v.pool.0 v.extent a.sectors c.next_seqno-seqno.result c.args.extents.now c.as_slice-2.result.now)
    (record { some = c.requires.some; few = c.requires.few; holds = c.requires.holds; numbered = v.numbered; row = v.row; apart = v.apart; fitting = c.requires.fits })
    (record {
      is = next_is_group v.pool.0 l a.sectors v.seqno c.next_seqno-seqno.result c.args.extents.now c.as_slice-2.result.now c.next_seqno-seqno.ensures runs_are;
      back = c.put_grown.ensures.read_back;
      changes = c.put_grown.ensures.changes;
    })

pub returns-clause-renewed : goal.returns-clause-renewed
returns-clause-renewed g c =
    let v = c.args.self.now in
    let a = g.R.Rack.seen v.rack in
    let l : Linear = record { extent = v.extent; arrays = v.arrays; runs = v.runs.items } in
    let runs_are = c.as_slice-2.ensures.value ∙ c.grow.ensures.items ∙ ap (λ (runs : List Run). grown runs c.args.extents.now) c.as_slice.ensures.value in
    extended_end v.pool.0 l v.seqno c.args.extents.now (Ok tt) (own_group v.pool.0 v.extent a.sectors c.next_seqno-seqno.result c.args.extents.now c.as_slice-2.result.now)
    (record { some = c.requires.some; few = c.requires.few; holds = c.requires.holds; numbered = v.numbered; row = v.row; apart = v.apart; fitting = c.requires.fits })
    (record {
      is = next_is_group v.pool.0 l a.sectors v.seqno c.next_seqno-seqno.result c.args.extents.now c.as_slice-2.result.now c.next_seqno-seqno.ensures runs_are;
      back = c.in_ok-put_grown.ensures.read_back;
      changes = c.in_ok-put_grown.ensures.changes;
    })

pub returns-clause-keeps : goal.returns-clause-keeps
returns-clause-keeps g c =
    let v = c.args.self.now in
    let l : Linear = record { extent = v.extent; arrays = v.arrays; runs = v.runs.items } in
    let runs_are = ap (λ (runs : Vec Run Global). runs.items) c.swap.ensures.x_after ∙ c.grow.ensures.items ∙ ap (λ (runs : List Run). grown runs c.args.extents.now) c.as_slice.ensures.value in
    subst (λ (runs : List Run). KeepsPlaces l (record { extent = v.extent; arrays = c.max-self.result; runs = runs })) (sym runs_are) (extended_keeps l c.args.extents.now v.orderly v.row)
