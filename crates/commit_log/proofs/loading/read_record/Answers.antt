use Rattle.std.proofs.Common.{◌+◌, ℕ, sym, ◌∙◌, inr, inl, arith}
use Rattle.std.proofs.lemmas.Bool.{cases_lt}
use Rattle.rack.proofs.Reading.{same_after}
use Rattle.log_laws.proofs.Loads.{count_kept}
use Rattle.commit_log.proofs.loading.read_record.Goals as goal

pub returns-in-Ok-clause-all : goal.returns-in-Ok-clause-all
returns-in-Ok-clause-all g c =
    let n : ℕ = c.u32_at-count.result in
    let disk : ℕ = c.args.disk in
    let first : ℕ = c.args.first in (
      c.u32_at-count.ensures ∙ sym (count_kept c.read_sectors-2.new.bytes c.read_sectors.new.bytes (c.in-Ok.ensures.kept 0 (omega arith))),
      omega (arith, c.if-count-eq0.false),
      omega (arith, c.if-count-gt-MOST.false),
      λ told k below.
          elim (cases_lt k 96) [
            | inl head ↦ c.in-Ok.ensures.kept k head ∙ c.in_default.ensures.read told k (omega arith) head
            | inr rest ↦
                c.in-Ok.ensures.read (c.in_default.ensures.reads.stays.told disk told) k rest below
                ∙ same_after disk (first + k) c.in_default.ensures.reads c.requires.disk (omega (arith, c.requires.half, below, c.if-count-gt-MOST.false)) told (c.in-Ok.ensures.unspent k rest below)
          ],
      λ k below.
          elim (cases_lt k 96) [
            | inl head ↦ c.in_default.ensures.unspent k (omega arith) head
            | inr rest ↦ c.in_default.ensures.reads.stays.spent disk (first + k) (c.in-Ok.ensures.unspent k rest below)
          ],
    )
