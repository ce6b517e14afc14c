use Rattle.std.proofs.Common.{ap, ◌≡◌, ◌+◌, ◌-◌, ◌*◌, ◌++◌, ◌∷◌, [], ℕ, List, ◌∙◌, refl, sym, subst, arith}
use Rattle.rack.specs.Targets.{Target, target}
use Rattle.array_image.specs.Places.{data_sector}
use Rattle.log_laws.specs.View.{LogView}
use Rattle.sync_laws.specs.Rows.{AddsCopies, AreZeros, OfMember}
use Rattle.sync_laws.proofs.Copying.{added_length, no_copies}
use Rattle.sync_laws.proofs.Zeroed.{zeros_next}
use Rattle.array_sync.proofs.zeros.stage_member.Goals as goal

pub loop-sector-init : goal.loop-sector-init
loop-sector-init c = (
  no_copies c.args.array.now _ _ (c.args.row * 128 - c.args.row * 128) c.args.log.now.added (λ t j is. let least = is.0 in let most = is.1 in omega (arith, least, most)),
  refl,
)

pub add-requires : goal.add-requires
add-requires c =
    let room = c.requires.room in
    let low = c.loop-sector-test.true in
    let least = c.loop-sector.auto.sector in
    let long = added_length c.args.array.now _ _ (c.loop-sector.sector - c.args.row * 128) c.args.log.now.added c.loop-sector.log.added c.loop-sector.invariant.0 in
    omega (arith, room, long, low, least)

pub loop-sector-preserved : goal.loop-sector-preserved
loop-sector-preserved c =
    let least = c.loop-sector.auto.sector in (
      zeros_next c.args.array.now c.args.position (c.args.row * 128) c.loop-sector.sector c.zero_sector-blank.result c.args.log.now.added c.loop-sector.log.added c.add.new.self.added
          c.rules.ensures c.requires.position c.zero_sector-blank.ensures (omega (arith, least)) c.loop-sector.invariant.0
          (ap (λ (l : LogView). l.added) c.add.ensures ∙ ap (λ (d : ℕ). c.loop-sector.log.added ++ target d (data_sector + c.loop-sector.sector) c.zero_sector-blank.result ∷ []) c.slice_at.ensures),
      c.add.ensures ∙ ap (λ (l : LogView). record l { added = c.loop-sector.log.added ++ target c.slice_at.result (data_sector + c.loop-sector.sector) c.zero_sector-blank.result ∷ [] }) c.loop-sector.invariant.1
          ∙ ap (λ (xs : List Target). record c.args.log.now { added = xs }) (sym (ap (λ (l : LogView). l.added) c.add.ensures)),
    )

pub returns-clause-added : goal.returns-clause-added
returns-clause-added c =
    let end = c.loop-sector-test.false in
    let last = c.loop-sector.auto.sector-end in
    let at : c.loop-sector.sector - c.args.row * 128 ≡ 128 = omega (arith, end, last) in
    subst (λ (n : ℕ). AddsCopies c.args.array.now (OfMember c.args.position (c.args.row * 128) n) AreZeros n c.args.log.now.added c.loop-sector.log.added) at c.loop-sector.invariant.0
