use Rattle.std.proofs.Common.{◌≡◌, ◌+◌, ◌++◌, List, ℕ, length, take, drop, ap, sym, ◌∙◌, arith}
use Rattle.std.proofs.lemmas.List.{take_at}
use Rattle.log_laws.specs.Bytes.{targets_in, passes}
use Rattle.log_laws.proofs.Loads.{loaded, not_loaded}
use Rattle.commit_log.proofs.Amid.{half_most}
use Rattle.commit_log.proofs.record.Record.load.Goals as goal

pub returns-in-Ok-Some-clause-ok : goal.returns-in-Ok-Some-clause-ok
returns-in-Ok-Some-clause-ok g c =
    let old : List ℕ = c.args.self.now.bytes.items in
    let new : List ℕ = c.read_record.new.bytes in
    let back : take c.args.self.now.bytes.len (new ++ drop (length new) old) ≡ new =
    take_at new (drop (length new) old) c.args.self.now.bytes.len (c.read_record.auto.bytes ∙ c.as_mut_slice.ensures.len) in
    let all = rw c.in-Ok-Some.field-0-is at c.in-Ok-Some.ensures.all in
    let count : ℕ = c.in-Ok-Some.count in
    λ told slice agrees.
    loaded c.args.number count c.half.result slice new c.check.result
    (targets_in c.check.new.self.bytes.items c.check.new.self.count) c.half.ensures all.0 all.1 all.2
    (λ k below. all.3 told k below ∙ sym (agrees (c.half.result + k) (omega (arith, all.2, below, c.half.ensures, half_most c.args.number, c.requires.slice)) (all.4 k below)))
    (c.check.ensures.passes ∙ ap (λ (xs : List ℕ). passes c.args.number count xs) back)
    (λ is. c.check.ensures.kept is ∙ ap (λ (xs : List ℕ). targets_in xs count) back)

pub returns-in-Ok-None-clause-ok : goal.returns-in-Ok-None-clause-ok
returns-in-Ok-None-clause-ok g c =
    λ told slice agrees.
    not_loaded c.args.number c.half.result slice c.read_record.new.bytes
    c.half.ensures (rw c.in-Ok-None.field-0-is at c.in-Ok-None.ensures.all)
    (λ k below.
    c.in-Ok-None.ensures.head told k below
    ∙ sym (agrees (c.half.result + k) (omega (arith, below, c.half.ensures, half_most c.args.number, c.requires.slice)) (c.in-Ok-None.ensures.unspent k below)))
