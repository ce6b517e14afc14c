-- What was read of the words is what the clauses say of them.
use Rattle.std.proofs.Common.{◌∙◌, Some, refl, sym, ap, subst, map, drop, string_bytes}
use Rattle.shr_tool.specs.Run.{PoolOutcome, CreateOutcome}
use Rattle.shr_tool.specs.Examining.{ExamineOutcome}
use Rattle.shr_tool.proofs.FormLemmas.{create_same, trial_same}
use Rattle.shr_words.specs.declared.forms.Form.TheVariants.{Layout, Create, Serve, Import, Export, Status, Examine, Trial}
use Rattle.shr_words.specs.Forms.{before_names}
use Rattle.shr_tool.specs.declared.opening.Task.TheVariants as tasks
use Rattle.shr_tool.proofs.Completed.{Clause, create_done, examine_done, for_form, layout_done, memory_done, memory_only, no_sink, serve_limit, task_carried}
use Rattle.shr_tool.proofs.program.run.Goals as goal

pub returns-in-Err-Memory-clause-serve : goal.returns-in-Err-Memory-clause-serve
returns-in-Err-Memory-clause-serve g c = λ form input out. (c.refuse.result, c.code-in-Err-Memory.ensures, PoolOutcome.no_memory refl (c.refuse.ensures.says out))

pub returns-in-Err-Memory-clause-import : goal.returns-in-Err-Memory-clause-import
returns-in-Err-Memory-clause-import g c = λ form input out. (c.refuse.result, c.code-in-Err-Memory.ensures, PoolOutcome.no_memory refl (c.refuse.ensures.says out))

pub returns-in-Err-Memory-clause-export : goal.returns-in-Err-Memory-clause-export
returns-in-Err-Memory-clause-export g c = λ form out. (c.refuse.result, c.code-in-Err-Memory.ensures, PoolOutcome.no_memory refl (c.refuse.ensures.says out))

pub returns-in-Err-Memory-clause-status : goal.returns-in-Err-Memory-clause-status
returns-in-Err-Memory-clause-status g c = λ form out. (c.refuse.result, c.code-in-Err-Memory.ensures, PoolOutcome.no_memory refl (c.refuse.ensures.says out))

pub returns-in-Err-Memory-clause-create : goal.returns-in-Err-Memory-clause-create
returns-in-Err-Memory-clause-create g c = λ extent form out. (c.refuse.result, c.code-in-Err-Memory.ensures, CreateOutcome.no_memory refl (c.refuse.ensures.says out))

pub returns-in-Err-Memory-clause-examine : goal.returns-in-Err-Memory-clause-examine
returns-in-Err-Memory-clause-examine g c = λ form out. (c.refuse.result, c.code-in-Err-Memory.ensures, ExamineOutcome.no_memory (c.refuse.ensures.says out))

pub returns-in-Create-clause-create : goal.returns-in-Create-clause-create
returns-in-Create-clause-create g c =
    λ extent form out.
    let seen = g.B.Rack.seen in
    let shelf = g.B.Bay.shelf in
    let runs = g.B.Rack.runs in
    let taken = g.O.Sink.taken in
    let same = create_same c.in-Create.extent extent (sym (c.in-Ok.ensures.form ∙ ap Some c.in-Create.is) ∙ form) in
    let names = ap (map string_bytes) c.behind.ensures in (
      c.create.result,
      c.code-in-Create.ensures,
      subst
          (λ e. CreateOutcome seen shelf runs c.args.bay.now c.create.new.bay (map string_bytes (drop 2 c.args.words.now)) e c.args.birth.now (taken c.args.out.now) (taken c.create.new.out) c.create.result)
          same
          (subst
          (λ ns. CreateOutcome seen shelf runs c.args.bay.now c.create.new.bay ns c.in-Create.extent c.args.birth.now (taken c.args.out.now) (taken c.create.new.out) c.create.result)
          names
          (c.create.ensures.outcome out)),
    )

pub returns-in-Err-Memory-clause-trial : goal.returns-in-Err-Memory-clause-trial
returns-in-Err-Memory-clause-trial g c = λ seed form out. (c.refuse.result, c.code-in-Err-Memory.ensures, PoolOutcome.no_memory refl (c.refuse.ensures.says out))

pub returns-in-Trial-clause-trial : goal.returns-in-Trial-clause-trial
returns-in-Trial-clause-trial g c =
    λ seed form out.
    let left = g.I.Source.left in
    let taken = g.O.Sink.taken in
    let run = c.open_for-in-Trial in
    let same = trial_same c.in-Trial.seed seed (sym (c.in-Ok.ensures.form ∙ ap Some c.in-Trial.is) ∙ form) in
    let names = ap (map string_bytes) c.behind-in-Trial.ensures in
    let came = PoolOutcome g.B.Rack.seen g.B.Bay.shelf g.B.Rack.runs c.args.bay.now run.new.bay in (
      run.result,
      c.code-in-Trial.ensures,
      subst
          (λ s. came (tasks.Trial s) (map string_bytes (drop 2 c.args.words.now)) (left c.args.input.now) (left run.new.input) (taken c.args.out.now) (taken run.new.out) run.result)
          same
          (subst
          (λ ns. came (tasks.Trial c.in-Trial.seed) ns (left c.args.input.now) (left run.new.input) (taken c.args.out.now) (taken run.new.out) run.result)
          names
          (run.ensures.outcome tt out)),
    )

pub returns-in-Err-Memory-clause-complete : goal.returns-in-Err-Memory-clause-complete
returns-in-Err-Memory-clause-complete g c = λ form at out reads calm. (
  c.refuse.result,
  c.code-in-Err-Memory.ensures,
  memory_done g.B.Rack.seen g.B.Bay.shelf g.B.Rack.runs c.args.bay.now c.args.bay.now form (map string_bytes (drop (before_names form) c.args.words.now))
      (g.I.Source.left c.args.input.now) (g.I.Source.left c.args.input.now) (g.O.Sink.taken c.args.out.now) (g.O.Sink.taken c.refuse.new.out) c.refuse.result
      (memory_only c.refuse.result _ _ _ _ _ _ _ c.refuse.ensures.cause calm.putting (c.refuse.ensures.says out)),
)

pub returns-in-Layout-clause-complete : goal.returns-in-Layout-clause-complete
returns-in-Layout-clause-complete g c =
    λ form at out.
    for_form
    (Clause g.B.Rack.seen g.B.Bay.shelf g.B.Rack.runs c.args.bay.now c.args.bay.now (g.I.Source.told c.args.input.now) (λ n. map string_bytes (drop n c.args.words.now))
    (g.I.Source.left c.args.input.now) (g.I.Source.left c.args.input.now) (g.O.Sink.taken c.args.out.now) (g.O.Sink.taken c.print_layout.new.out)
    (g.I.Source.faults c.args.input.now) (g.I.Source.faults c.args.input.now) (g.O.Sink.faults c.args.out.now) (g.O.Sink.faults c.print_layout.new.out) c.code-in-Layout.result)
    _ (Layout c.in-Layout.request) form (c.in-Ok.ensures.form ∙ ap Some c.in-Layout.is) at
    (λ reads calm. (
      c.print_layout.result,
      c.code-in-Layout.ensures,
      layout_done _ _ _ _ _ (no_sink _ _ _ _ _ c.print_layout.ensures.cause calm.putting) c.print_layout.ensures.prints,
    ))

pub returns-in-Create-clause-complete : goal.returns-in-Create-clause-complete
returns-in-Create-clause-complete g c =
    λ form at out.
    for_form
    (Clause g.B.Rack.seen g.B.Bay.shelf g.B.Rack.runs c.args.bay.now c.create.new.bay (g.I.Source.told c.args.input.now) (λ n. map string_bytes (drop n c.args.words.now))
    (g.I.Source.left c.args.input.now) (g.I.Source.left c.args.input.now) (g.O.Sink.taken c.args.out.now) (g.O.Sink.taken c.create.new.out)
    (g.I.Source.faults c.args.input.now) (g.I.Source.faults c.args.input.now) (g.O.Sink.faults c.args.out.now) (g.O.Sink.faults c.create.new.out) c.code-in-Create.result)
    _ (Create c.in-Create.extent) form (c.in-Ok.ensures.form ∙ ap Some c.in-Create.is) at
    (λ reads calm. (
      c.create.result,
      c.code-in-Create.ensures,
      λ plan still.
          create_done g.B.Rack.seen g.B.Bay.shelf g.B.Rack.runs c.args.bay.now c.create.new.bay (map string_bytes (drop 2 c.args.words.now)) c.in-Create.extent c.args.birth.now
          (g.O.Sink.taken c.args.out.now) (g.O.Sink.taken c.create.new.out) c.create.result
          (no_sink _ _ _ _ _ c.create.ensures.cause calm.putting) (calm.differ refl) calm.attaching plan still
          (subst
          (λ ns. CreateOutcome g.B.Rack.seen g.B.Bay.shelf g.B.Rack.runs c.args.bay.now c.create.new.bay ns c.in-Create.extent c.args.birth.now (g.O.Sink.taken c.args.out.now) (g.O.Sink.taken c.create.new.out) c.create.result)
          (ap (map string_bytes) c.behind.ensures) (c.create.ensures.outcome out)),
    ))

pub returns-in-Examine-clause-complete : goal.returns-in-Examine-clause-complete
returns-in-Examine-clause-complete g c =
    λ form at out.
    let after = c.examine_image.new.bay in
    for_form
    (Clause g.B.Rack.seen g.B.Bay.shelf g.B.Rack.runs c.args.bay.now after (g.I.Source.told c.args.input.now) (λ n. map string_bytes (drop n c.args.words.now))
    (g.I.Source.left c.args.input.now) (g.I.Source.left c.args.input.now) (g.O.Sink.taken c.args.out.now) (g.O.Sink.taken c.examine_image.new.out)
    (g.I.Source.faults c.args.input.now) (g.I.Source.faults c.args.input.now) (g.O.Sink.faults c.args.out.now) (g.O.Sink.faults c.examine_image.new.out) c.code-in-Examine.result)
    _ Examine form (c.in-Ok.ensures.form ∙ ap Some c.in-Examine.is) at
    (λ reads calm. (
      c.examine_image.result,
      c.code-in-Examine.ensures,
      examine_done (g.B.Rack.seen c.args.bay.now) (g.B.Bay.shelf c.args.bay.now) (g.B.Rack.seen after) (g.B.Bay.shelf after) (map string_bytes (drop 1 c.args.words.now))
          (g.O.Sink.taken c.args.out.now) (g.O.Sink.taken c.examine_image.new.out) c.examine_image.result
          (no_sink _ _ _ _ _ c.examine_image.ensures.cause calm.putting) (calm.differ refl) calm.attaching
          (subst
          (λ ns. ExamineOutcome (g.B.Rack.seen c.args.bay.now) (g.B.Bay.shelf c.args.bay.now) (g.B.Rack.seen after) (g.B.Bay.shelf after) ns (g.O.Sink.taken c.args.out.now) (g.O.Sink.taken c.examine_image.new.out) c.examine_image.result)
          (ap (map string_bytes) c.behind-names.ensures) (c.examine_image.ensures.outcome out)),
    ))

pub returns-in-Serve-clause-complete : goal.returns-in-Serve-clause-complete
returns-in-Serve-clause-complete g c =
    λ form at out.
    let run = c.open_for in
    for_form
    (Clause g.B.Rack.seen g.B.Bay.shelf g.B.Rack.runs c.args.bay.now run.new.bay (g.I.Source.told c.args.input.now) (λ n. map string_bytes (drop n c.args.words.now))
    (g.I.Source.left c.args.input.now) (g.I.Source.left run.new.input) (g.O.Sink.taken c.args.out.now) (g.O.Sink.taken run.new.out)
    (g.I.Source.faults c.args.input.now) (g.I.Source.faults run.new.input) (g.O.Sink.faults c.args.out.now) (g.O.Sink.faults run.new.out) c.code-in-Serve.result)
    _ Serve form (c.in-Ok.ensures.form ∙ ap Some c.in-Serve.is) at
    (λ reads calm. (
      run.result,
      c.code-in-Serve.ensures,
      task_carried g.B.Rack.seen g.B.Bay.shelf g.B.Rack.runs g.met.B.Bay.lasting g.met.B.Bay.unspent g.met.B.Bay.runs_shelf c.args.bay.now run.new.bay tasks.Serve
          (map string_bytes (drop 1 c.args.words.now)) (map string_bytes c.behind-names.result.now) _ _ _ _ _ _ _ _ run.result Serve refl run.ensures.cause
          (serve_limit run.result _ _ (run.ensures.limit refl (reads refl))) calm (ap (map string_bytes) c.behind-names.ensures) (run.ensures.outcome (reads refl) out),
    ))

pub returns-in-Import-clause-complete : goal.returns-in-Import-clause-complete
returns-in-Import-clause-complete g c =
    λ form at out.
    let run = c.open_for-in-Import in
    for_form
    (Clause g.B.Rack.seen g.B.Bay.shelf g.B.Rack.runs c.args.bay.now run.new.bay (g.I.Source.told c.args.input.now) (λ n. map string_bytes (drop n c.args.words.now))
    (g.I.Source.left c.args.input.now) (g.I.Source.left run.new.input) (g.O.Sink.taken c.args.out.now) (g.O.Sink.taken run.new.out)
    (g.I.Source.faults c.args.input.now) (g.I.Source.faults run.new.input) (g.O.Sink.faults c.args.out.now) (g.O.Sink.faults run.new.out) c.code-in-Import.result)
    _ Import form (c.in-Ok.ensures.form ∙ ap Some c.in-Import.is) at
    (λ reads calm. (
      run.result,
      c.code-in-Import.ensures,
      task_carried g.B.Rack.seen g.B.Bay.shelf g.B.Rack.runs g.met.B.Bay.lasting g.met.B.Bay.unspent g.met.B.Bay.runs_shelf c.args.bay.now run.new.bay tasks.Import
          (map string_bytes (drop 1 c.args.words.now)) (map string_bytes c.behind-names.result.now) _ _ _ _ _ _ _ _ run.result Import refl run.ensures.cause
          (λ size whole. run.ensures.other (λ e. cc e)) calm (ap (map string_bytes) c.behind-names.ensures) (run.ensures.outcome (reads refl) out),
    ))

pub returns-in-Export-clause-complete : goal.returns-in-Export-clause-complete
returns-in-Export-clause-complete g c =
    λ form at out.
    let run = c.open_for-in-Export in
    for_form
    (Clause g.B.Rack.seen g.B.Bay.shelf g.B.Rack.runs c.args.bay.now run.new.bay (g.I.Source.told c.args.input.now) (λ n. map string_bytes (drop n c.args.words.now))
    (g.I.Source.left c.args.input.now) (g.I.Source.left run.new.input) (g.O.Sink.taken c.args.out.now) (g.O.Sink.taken run.new.out)
    (g.I.Source.faults c.args.input.now) (g.I.Source.faults run.new.input) (g.O.Sink.faults c.args.out.now) (g.O.Sink.faults run.new.out) c.code-in-Export.result)
    _ Export form (c.in-Ok.ensures.form ∙ ap Some c.in-Export.is) at
    (λ reads calm. (
      run.result,
      c.code-in-Export.ensures,
      task_carried g.B.Rack.seen g.B.Bay.shelf g.B.Rack.runs g.met.B.Bay.lasting g.met.B.Bay.unspent g.met.B.Bay.runs_shelf c.args.bay.now run.new.bay tasks.Export
          (map string_bytes (drop 1 c.args.words.now)) (map string_bytes c.behind-names.result.now) _ _ _ _ _ _ _ _ run.result Export refl run.ensures.cause
          (λ size whole. run.ensures.other (λ e. cc e)) calm (ap (map string_bytes) c.behind-names.ensures) (run.ensures.outcome tt out),
    ))

pub returns-in-Status-clause-complete : goal.returns-in-Status-clause-complete
returns-in-Status-clause-complete g c =
    λ form at out.
    let run = c.open_for-in-Status in
    for_form
    (Clause g.B.Rack.seen g.B.Bay.shelf g.B.Rack.runs c.args.bay.now run.new.bay (g.I.Source.told c.args.input.now) (λ n. map string_bytes (drop n c.args.words.now))
    (g.I.Source.left c.args.input.now) (g.I.Source.left run.new.input) (g.O.Sink.taken c.args.out.now) (g.O.Sink.taken run.new.out)
    (g.I.Source.faults c.args.input.now) (g.I.Source.faults run.new.input) (g.O.Sink.faults c.args.out.now) (g.O.Sink.faults run.new.out) c.code-in-Status.result)
    _ Status form (c.in-Ok.ensures.form ∙ ap Some c.in-Status.is) at
    (λ reads calm. (
      run.result,
      c.code-in-Status.ensures,
      task_carried g.B.Rack.seen g.B.Bay.shelf g.B.Rack.runs g.met.B.Bay.lasting g.met.B.Bay.unspent g.met.B.Bay.runs_shelf c.args.bay.now run.new.bay tasks.Show
          (map string_bytes (drop 1 c.args.words.now)) (map string_bytes c.behind-names.result.now) _ _ _ _ _ _ _ _ run.result Status refl run.ensures.cause
          (λ size whole. run.ensures.other (λ e. cc e)) calm (ap (map string_bytes) c.behind-names.ensures) (run.ensures.outcome tt out),
    ))

pub returns-in-Trial-clause-complete : goal.returns-in-Trial-clause-complete
returns-in-Trial-clause-complete g c =
    λ form at out.
    let run = c.open_for-in-Trial in
    for_form
    (Clause g.B.Rack.seen g.B.Bay.shelf g.B.Rack.runs c.args.bay.now run.new.bay (g.I.Source.told c.args.input.now) (λ n. map string_bytes (drop n c.args.words.now))
    (g.I.Source.left c.args.input.now) (g.I.Source.left run.new.input) (g.O.Sink.taken c.args.out.now) (g.O.Sink.taken run.new.out)
    (g.I.Source.faults c.args.input.now) (g.I.Source.faults run.new.input) (g.O.Sink.faults c.args.out.now) (g.O.Sink.faults run.new.out) c.code-in-Trial.result)
    _ (Trial c.in-Trial.seed) form (c.in-Ok.ensures.form ∙ ap Some c.in-Trial.is) at
    (λ reads calm. (
      run.result,
      c.code-in-Trial.ensures,
      task_carried g.B.Rack.seen g.B.Bay.shelf g.B.Rack.runs g.met.B.Bay.lasting g.met.B.Bay.unspent g.met.B.Bay.runs_shelf c.args.bay.now run.new.bay (tasks.Trial c.in-Trial.seed)
          (map string_bytes (drop 2 c.args.words.now)) (map string_bytes c.behind-in-Trial.result.now) _ _ _ _ _ _ _ _ run.result (Trial c.in-Trial.seed) refl run.ensures.cause
          (λ size whole. run.ensures.other (λ e. cc e)) calm (ap (map string_bytes) c.behind-in-Trial.ensures) (run.ensures.outcome tt out),
    ))
