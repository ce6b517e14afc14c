use Rattle.std.proofs.Common.{◌≡◌, ◌+◌, ◌<◌, ◌++◌, ◌∷◌, [], inl, inr, ℕ, true, false, length, length-append, ap, sym, subst, ◌∙◌, arith}
use Rattle.std.proofs.lemmas.Bool.{cases_eq}
use Rattle.rack.specs.Seen.{Rose}
use Rattle.rack.specs.Joins.{rose_before, rose_since}
use Rattle.rack.proofs.Reading.{only_reads_join}
use Rattle.online_bay.specs.Online.{Answered, is_offline}
use Rattle.online_bay.proofs.Attached.{flag_after, flag_before, flag_last}
use Rattle.online_bay.proofs.OnlineBay.probe.Goals as goal

pub loop-disk-preserved : goal.loop-disk-preserved
loop-disk-preserved g c =
    let seen = g.B.Rack.seen in
    let runs = g.B.Rack.runs in
    let old = c.loop-disk.invariant in
    let asks = c.refuses-gone.ensures in
    let flags = c.loop-disk.offline.items in
    let items : c.push.new.self.items ≡ flags ++ c.refuses-gone.result ∷ [] = c.in-Ok.ensures.items in
    let Answers : ℕ → Type 0 = λ d. Answered seen runs c.args.bay c.refuses-gone.new.rack d c.args.sector in
    record {
      reads = only_reads_join old.reads asks.reads;
      runs = g.met.B.Rack.runs_then _ _ _ old.runs asks.runs;
      count = ap length items ∙ length-append flags _ ∙ ap (λ n. n + 1) old.count;
      refused = λ d is.
          elim (flag_after flags c.refuses-gone.result d (subst (λ flags. is_offline flags d ≡ true) items is)) [
            | inl before ↦ rose_before (asks.reads.stays.faults d) (old.refused d before)
            | inr last ↦
                rose_since (old.reads.stays.faults d)
                (subst (λ e. Rose ((seen c.loop-disk.bay).faults e) ((seen c.refuses-gone.new.rack).faults e)) (sym (last.0 ∙ old.count)) (asks.refused last.1))
          ];
      answered = λ d below has is.
          let flag : is_offline (flags ++ c.refuses-gone.result ∷ []) d ≡ false = subst (λ flags. is_offline flags d ≡ false) items is in
          elim (cases_eq d (length flags)) [
            | inl last ↦
                let here : d ≡ c.loop-disk.disk = last ∙ old.count in
                let online : c.refuses-gone.result ≡ false = sym (flag_last flags c.refuses-gone.result) ∙ ap (is_offline (flags ++ c.refuses-gone.result ∷ [])) (sym last) ∙ flag in
                let read = asks.answered online (subst (λ n. c.args.sector < n) (sym (old.reads.stays.sectors c.loop-disk.disk)) (subst (λ e. c.args.sector < (seen c.args.bay).sectors e) here has)) in
                subst Answers (sym here)
                (record { before = c.loop-disk.bay; after = c.refuses-gone.new.rack; kept = (old.runs, g.met.B.Rack.runs_same _); into = read.0; read = read.1 })
            | inr other ↦
                let within : d < length flags = omega (arith, below, old.count, other) in
                let before = old.answered d (subst (λ n. d < n) old.count within) has (sym (flag_before flags c.refuses-gone.result d within) ∙ flag) in
                record {
                  before = before.before;
                  after = before.after;
                  kept = (before.kept.0, g.met.B.Rack.runs_then _ _ _ before.kept.1 asks.runs);
                  into = before.into;
                  read = before.read;
                }
          ];
    }
