use Rattle.std.proofs.Common.{◌≡◌, Bool, true, false, if◌then◌else◌, ◌∷◌, [], ℕ, List, ap, subst, sym, ◌∙◌}
use Rattle.shr_base.specs.declared.Id.{Id}
use Rattle.array_image.specs.Places.{member_id}
use Rattle.array_model.specs.declared.Seat.TheVariants.{Whole, Missing}
use Rattle.array_core.specs.declared.Change.{Change}
use Rattle.array_core.specs.Seats.{losing, names}
use Rattle.array_core.specs.Superblocks.{adopted, raised}
use Rattle.reshape_laws.specs.Ahead.{begun}
use Rattle.reshape_laws.proofs.Beginning.{no_mirror_now}
use Rattle.reshape_laws.proofs.Joining.{adopts_member, loses_member}
use Rattle.array_reshape.proofs.members.join.Goals as goal

pub returns-else-not-contains : goal.returns-else-not-contains
returns-else-not-contains c =
    let v = c.args.array.now in
    let place = c.args.place in
    let device : Id = record { 0 = member_id c.args.drive.now.0 c.args.array.now.number } in
    let there : names c.args.on.now.items c.args.place ≡ true =
    subst (λ (xs : List ℕ). names xs c.args.place ≡ true) c.deref.ensures.0 (sym c.contains.ensures.value ∙ c.if-not-contains.false) in
    c.adopt.ensures
    ∙ ap (λ (d : Change). adopted d v) c.begun-change.ensures.change
    ∙ adopts_member v (raised v.truth.events) place device c.rules.ensures c.requires.raid5 (no_mirror_now v c.requires.raid5) c.requires.still c.truth_rules.ensures c.requires.place c.requires.joins
    ∙ sym (ap (λ (b : Bool). begun v (raised v.truth.events) place (if b then Whole else Missing) device) there)

pub returns-then-not-contains : goal.returns-then-not-contains
returns-then-not-contains c =
    let v = c.args.array.now in
    let place = c.args.place in
    let device : Id = record { 0 = member_id c.args.drive.now.0 c.args.array.now.number } in
    let none : names c.args.on.now.items c.args.place ≡ false =
    subst (λ (xs : List ℕ). names xs c.args.place ≡ false) c.deref.ensures.0 (sym c.contains.ensures.value ∙ c.if-not-contains.true) in
    c.lose.ensures
    ∙ ap (losing (place ∷ []))
    (c.adopt.ensures
    ∙ ap (λ (d : Change). adopted d v) c.begun-change.ensures.change
    ∙ adopts_member v (raised v.truth.events) place device c.rules.ensures c.requires.raid5 (no_mirror_now v c.requires.raid5) c.requires.still c.truth_rules.ensures c.requires.place c.requires.joins)
    ∙ loses_member v (raised v.truth.events) place device c.rules.ensures c.requires.raid5 (no_mirror_now v c.requires.raid5) c.requires.still c.truth_rules.ensures c.requires.place c.requires.joins
    ∙ sym (ap (λ (b : Bool). begun v (raised v.truth.events) place (if b then Whole else Missing) device) none)
