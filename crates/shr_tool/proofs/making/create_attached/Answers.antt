-- The pool holds the bay's reference, and gives the bay back as it was made.
use Rattle.std.proofs.Common.{◌≡◌, ◌∙◌, ap, sym, subst, inl, inr}
use Rattle.pool.specs.View.{arrays_of, bay_in}
use Rattle.raid_rack.specs.RaidRack.{arrays_in}
use Rattle.shr_tool.specs.declared.status.Status.TheVariants.{Done}
use Rattle.shr_tool.specs.Made.{MadeOn, NotMade, created_line}
use Rattle.shr_tool.specs.Saying.{Says}
use Rattle.shr_tool.proofs.Through.{fault_through, moment_in}
use Rattle.shr_tool.proofs.making.create_attached.Goals as goal

pub returns-in-Ok-clause-outcome : goal.returns-in-Ok-clause-outcome
returns-in-Ok-clause-outcome g c =
    let seen = g.B.Rack.seen in
    let runs = g.B.Rack.runs in
    let taken = g.O.Sink.taken in
    let pool = c.in-Ok.pool in
    let makes = c.in-Ok.ensures in
    let inner = c.into_inner-bay.ensures in
    let back : c.bay-1.given.0 ≡ (bay_in pool).now =
    c.bay-1.given.1 (sym (ap (λ b. b.ghost_name) inner ∙ makes.runs.0)) ∙ ap (λ b. b.now) inner in
    λ sink.
    inr
    (subst
    (λ b. MadeOn seen runs c.args.bay.now b c.args.extent c.args.birth.now (taken c.args.out.now) (taken c.say_number.new.out) c.say_number.result)
    (sym back)
    (record {
      kept = makes.runs.1;
      arrays = arrays_in (arrays_of pool);
      volume = (moment_in seen g.B.Bay.shelf pool (λ r. r.now)).linear;
      is_made = makes.made;
      says =
          subst (λ n. Says Done (created_line n) (taken c.args.out.now) (taken c.say_number.new.out) c.say_number.result)
          c.size-sectors.ensures.size (c.say_number.ensures.says sink);
    }))

pub returns-in-Err-clause-outcome : goal.returns-in-Err-clause-outcome
returns-in-Err-clause-outcome g c =
    let seen = g.B.Rack.seen in
    let runs = g.B.Rack.runs in
    let taken = g.O.Sink.taken in
    let back = c.in-Err.back in
    let refuses = c.in-Err.ensures in
    let same : c.bay-in-Err-1.given.0 ≡ back.rack.now =
    c.bay-in-Err-1.given.1 (sym refuses.returned.0) in
    λ sink.
    inl
    (subst
    (λ b. NotMade seen runs c.args.bay.now b c.args.extent c.args.birth.now (taken c.args.out.now) (taken c.refuse_create.new.out) c.refuse_create.result)
    (sym same)
    (record {
      why = back.why;
      says = c.refuse_create.ensures.says sink;
      kept = refuses.returned.1;
      cause = fault_through seen (λ r. r.now) _ back.rack c.args.extent c.args.birth.now back.why refuses.layout refuses.unchanged refuses.gone refuses.some;
    }))
