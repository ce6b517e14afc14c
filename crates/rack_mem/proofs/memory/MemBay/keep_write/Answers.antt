use Rattle.std.proofs.Common.{rules, ◌≡◌, ℕ, ◌==◌, ◌&&◌, if◌then◌else◌, Some, length, subst, sym}
use Rattle.rack_mem.specs.declared.calls.Call.TheVariants.{Write}
use Rattle.rack_mem.specs.Table.{value_at}
use Rattle.rack_mem.specs.History.{IsIndex, AreOn}
use Rattle.rack_mem.proofs.Histories.{IsIndex-write, AreOn-push, write_is_on}
use Rattle.rack_mem.proofs.memory.MemBay.keep_write.Goals as goal

pub invariant_of-self-clause-indexed : goal.invariant_of-self-clause-indexed
invariant_of-self-clause-indexed c =
    let number : c.len-number.result ≡ length c.args.self.now.calls.items = search rules in
    subst (λ calls. IsIndex calls (value_at c.set.new.self)) (sym c.push_within.ensures.items)
    (IsIndex-write c.args.self.now.calls.items (value_at c.args.self.now.written) (value_at c.set.new.self) c.args.disk c.args.sector c.args.value (subst (λ n. (d s : ℕ) → value_at c.set.new.self d s ≡ (if (d == c.args.disk) && (s == c.args.sector) then Some n else value_at c.args.self.now.written d s)) number c.set.ensures.set) c.args.self.now.indexed)

pub invariant_of-self-clause-attached_first : goal.invariant_of-self-clause-attached_first
invariant_of-self-clause-attached_first c =
    subst (λ calls. AreOn calls (length c.args.self.now.attached.items)) (sym c.push_within.ensures.items)
    (AreOn-push c.args.self.now.calls.items (Write c.args.disk c.args.sector c.args.value) _ c.args.self.now.attached_first (write_is_on c.args.disk c.args.sector c.args.value _ c.requires.disk))
