use Rattle.std.proofs.Common.{◌≡◌, ◌≤◌, ◌==◌, Bool, if◌then◌else◌, None, Some, sym, ap, subst, ◌∙◌, arith}
use Rattle.std.proofs.lemmas.Bool.{ne_eqb}
use Rattle.md_super.specs.declared.superblock.Super.{Super}
use Rattle.raid_map.specs.LeftSymmetric.{StandsAt, parity_at}
use Rattle.parity.specs.Xor.{xor, zeros}
use Rattle.array_model.proofs.Views.{notes_none}
use Rattle.reshape_laws.specs.Rows.{IsOld, OfOne, OfOneData}
use Rattle.reshape_laws.proofs.Pieces.{pieces_by}
use Rattle.reshape_laws.proofs.RowCall.{no_piece, stands_left, stands_on}
use Rattle.array_reshape.proofs.new_rows.stage_piece.Goals as goal

pub returns-in_default-clause-notes : goal.returns-in_default-clause-notes
returns-in_default-clause-notes g c = notes_none c.args.array.now _ _

pub returns-in_default-clause-added : goal.returns-in_default-clause-added
returns-in_default-clause-added g c = λ is.
    no_piece c.args.array.now (g.R.Rack.seen c.args.rack.now) c.args.sector c.args.position c.args.absent c.args.sum.now c.args.log.now.added c.told-sum
    (subst (λ (t : Super). c.args.position ≡ parity_at t.raid_disks c.args.sector) c.truth.ensures (c.unplace.ensures.parity.0 c.in_default.is))

pub old_sector-requires-clause-left : goal.old_sector-requires-clause-left
old_sector-requires-clause-left g c =
    stands_left c.args.array.now c.in-Some.x c.args.position c.args.sector c.rules.ensures c.requires.reshaping c.requires.row
    (subst (λ (t : Super). StandsAt t.raid_disks c.in-Some.x c.args.position c.args.sector) c.truth.ensures ((c.unplace.ensures.data c.in-Some.x).0 c.in-Some.is))

pub returns-clause-added : goal.returns-clause-added
returns-clause-added g c = λ is.
    let v = c.args.array.now in
    let u = c.old_sector.new.array in
    let a = g.R.Rack.seen c.args.rack.now in
    let x = c.in-Some.x in
    let bytes = c.old_sector.new.into in
    let stands : StandsAt v.truth.raid_disks x c.args.position c.args.sector =
    subst (λ (t : Super). StandsAt t.raid_disks x c.args.position c.args.sector) c.truth.ensures ((c.unplace.ensures.data x).0 c.in-Some.is) in
    let apart : c.args.position ≡ parity_at v.truth.raid_disks c.args.sector → ⊥ =
    λ at.
    let none : None ≡ Some x = sym (c.unplace.ensures.parity.1 (subst (λ (t : Super). c.args.position ≡ parity_at t.raid_disks c.args.sector) (sym c.truth.ensures) at)) ∙ c.in-Some.is in
    cc in
    record {
      bytes = bytes;
      old = λ other. subst (λ y. IsOld v a y bytes) (stands_on v.truth.raid_disks x c.args.position c.args.sector c.rules.ensures.least c.requires.position stands) (c.old_sector.ensures.old c.if-not-old_sector.false);
      sum_is = c.xor_into.ensures ∙ sym (ap (λ (b : Bool). xor c.args.sum.now (if b then zeros 512 else bytes)) (ne_eqb c.args.position (parity_at v.truth.raid_disks c.args.sector) apart));
      adds =
          pieces_by v u (OfOne c.args.sector c.args.position c.args.absent) (OfOneData v.truth.raid_disks c.args.sector c.args.position c.args.absent) (λ t j w. w ≡ bytes) (λ t j w. w ≡ bytes)
          1 (if c.args.position == parity_at v.truth.raid_disks c.args.sector then 0 else 1)
          c.args.log.now.added c.stage_if.new.log.added c.old_sector.ensures.notes.same
          (subst (λ (b : Bool). 1 ≤ (if b then 0 else 1)) (sym (ne_eqb c.args.position (parity_at v.truth.raid_disks c.args.sector) apart)) (omega arith))
          (λ t j is. (is.0, is.1, is.2, λ at. apart (sym is.1 ∙ at ∙ ap (parity_at v.truth.raid_disks) is.0)))
          (λ t j is. (is.0, is.1, is.2))
          (λ t j w is same. same) c.stage_if.ensures.added;
    }
