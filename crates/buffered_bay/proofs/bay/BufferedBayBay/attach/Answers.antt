use Rattle.std.proofs.Common.{◌++◌, ◌∷◌, [], sym, subst, ap, ◌∙◌}
use Rattle.buffered_bay.specs.Buffered.{AreWindows}
use Rattle.buffered_bay.proofs.Attached.{windows_push, windows_unattached}
use Rattle.buffered_bay.proofs.bay.BufferedBayBay.attach.Goals as goal

pub invariant_of-self-in-Ok : goal.invariant_of-self-in-Ok
invariant_of-self-in-Ok g c =
    let ws = c.args.self.now.windows.items in
    let new = windows_push ws c.new.result (g.met.F.FileStore.plain c.attach.new.self) c.args.self.now.buffered
    c.new.ensures.first c.new.ensures.count c.new.ensures.unsynced c.in-Ok.ensures in
    record {
      buffered =
          subst (AreWindows g.F.FileStore.tells (g.F.FileStore.view c.attach.new.self))
          (sym (c.push_within.ensures ∙ ap (λ xs. xs ++ c.new.result ∷ []) c.reserve.ensures.items)) new;
    }

pub invariant_of-self-in-Err-1 : goal.invariant_of-self-in-Err-1
invariant_of-self-in-Err-1 g c =
    record {
      buffered =
          subst (AreWindows g.F.FileStore.tells (g.F.FileStore.view c.attach.new.self)) (sym c.reserve.ensures.items)
          (windows_unattached c.args.self.now.windows.items c.args.self.now.buffered c.in-Err.ensures);
    }
