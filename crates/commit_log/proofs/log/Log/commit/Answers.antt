use Rattle.std.proofs.Common.{◌≡◌, ◌+◌, ℕ, true, List, filter, length, sym, ap, subst, ◌∙◌}
use Rattle.std.specs.List.{range_with_len, list_all}
use Rattle.rack.specs.Targets.{Target}
use Rattle.rack.specs.Sequences.{IsPayload}
use Rattle.array_image.specs.Record.{is_target, are_apart}
use Rattle.log_laws.specs.View.{LogView, names, in_order, next_number}
use Rattle.log_laws.specs.Bytes.{targets_in}
use Rattle.log_laws.specs.Phases.{Settles, IsLogOf, IsOfRecord, IsTargeted, IsWanted, went}
use Rattle.log_laws.specs.Commits.{CommitCall}
use Rattle.log_laws.proofs.Naming.{names_listed, listed_in_order}
use Rattle.commit_log.proofs.Story.{logs_named, valid_apart}
use Rattle.commit_log.proofs.Committing.{Done, commit_call}
use Rattle.commit_log.proofs.log.Log.commit.Goals as goal

pub returns-clause-commits : goal.returns-clause-commits
returns-clause-commits g c =
    let a = g.R.Rack.seen c.args.rack.now in
    let r = g.R.Rack.seen c.settle_record.new.rack in
    let u = g.R.Rack.seen c.settle_each.new.rack in
    let t = g.R.Rack.seen c.settle_targets.new.rack in
    let b = g.R.Rack.seen c.close_gates.new.rack in
    let w0 = went c.none-lost.result.places in
    let w1 = went c.settle_record.new.lost.places in
    let w2 = went c.settle_each.new.lost.places in
    let w3 = went c.settle_targets.new.lost.places in
    let w4 = went c.close_gates.new.lost.places in
    let l : LogView = c.args.self.now in
    let bytes : List ℕ = c.seal.new.self.bytes.items in
    let count : ℕ = c.seal.new.self.count in
    let on : List ℕ = c.as_slice-on.result.now in
    let items : on ≡ c.args.on.now.items = c.as_slice-on.ensures.value in
    let added : l.added ≡ targets_in bytes count = ap (λ (m : LogView). m.added) (sym c.self.view_is) ∙ sym c.seal.ensures.targets in
    let listed : c.list.result.items ≡ filter w4 (range_with_len 0 16) = c.list.ensures.listed in
    let done : Done l on c.list.result.items c.next-number.result c.encode.result c.encode-2.result bytes count a r u t b w0 w1 w2 w3 w4 =
    record {
      story = record {
        writes_record =
            subst
            (λ (first : ℕ). Settles a r (IsLogOf on (length on)) (IsOfRecord on first bytes (96 + count)) (IsOfRecord on first bytes (96 + count)) w0 w1)
            c.half.ensures c.settle_record.ensures.settles;
        opens = c.settle_each.ensures.settles;
        writes_targets =
            subst (λ (xs : List Target). Settles u t (IsTargeted xs) (IsPayload xs) (IsWanted u xs) w2 w3) (sym added) c.settle_targets.ensures.settles;
        closes = c.close_gates.ensures.settles;
      };
      parts = record {
        added = added;
        sealed = c.seal.ensures.sealed;
        valid = ap (λ (xs : List Target). list_all is_target xs) (sym added) ∙ c.requires.valid;
        apart = ap are_apart (sym added) ∙ c.requires.apart;
        targets = λ d s v is. (c.requires.had d s v is, valid_apart l.added d s v c.requires.valid is);
      };
      number_is = c.next-number.ensures ∙ ap (λ (m : LogView). next_number m.number) c.self.view_is;
      opened_is = c.encode.ensures.gate;
      closed_is = c.encode-2.ensures.gate;
      logs = λ p named. logs_named a.sectors c.args.on.now.items p c.requires.logs (subst (λ (xs : List ℕ). names xs p ≡ true) items named);
      lost_are = λ p. ap (λ (xs : List ℕ). names xs p) listed ∙ names_listed w4 c.list.ensures.beyond p;
      ordered = listed ∙ listed_in_order w4 c.list.ensures.beyond ∙ ap in_order (sym listed);
      none_before = c.none-lost.ensures;
    } in
    subst (λ (xs : List ℕ). CommitCall l xs c.list.result.items a b) items
    (commit_call l on c.list.result.items c.next-number.result c.encode.result c.encode-2.result bytes count a r u t b w0 w1 w2 w3 w4 done)
