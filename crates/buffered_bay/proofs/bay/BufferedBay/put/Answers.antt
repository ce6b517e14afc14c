-- A value that was put is dirty; a refused one changed nothing.
use Rattle.std.proofs.Common.{◌≡◌, ◌<◌, Some, slice_get, length, refl, sym, subst, arith}
use Rattle.std.proofs.lemmas.Option.{slice_get_read}
use Rattle.buffered_bay.specs.Buffered.{Takes}
use Rattle.buffered_bay.specs.declared.windows.Window.{Window}
use Rattle.buffered_bay.proofs.WindowsKept.{windows_set, windows_kept, window_kept}
use Rattle.buffered_bay.proofs.WindowCalls.{put_others, put_done, put_refused}
use Rattle.buffered_bay.proofs.bay.BufferedBay.put.Goals as goal

pub invariant_of-self : goal.invariant_of-self
invariant_of-self g c =
    let ws = c.args.self.now.windows.items in
    let w : Window = c.index.result.now in
    let before = g.met.F.FileStore.plain c.args.self.now.files in
    let after = g.met.F.FileStore.plain c.put.new.self in
    let windows = c.args.self.now.buffered in
    let inside : c.args.disk < length ws = subst (λ n. c.args.disk < n) (sym windows.count) c.requires.disk in
    let at : slice_get ws c.args.disk ≡ Some w = slice_get_read ws _ c.args.disk w refl inside c.index.ensures in
    let takes : Takes w c.args.sector = c.requires.takes w at in
    record {
      buffered =
          windows_set ws c.args.disk c.mark.new.self windows c.in-Ok.ensures.puts.writes.stays.disks
          (put_others before after c.in-Ok.ensures.puts)
          (put_done w c.mark.new.self before after c.requires.disk c.requires.sector (omega (arith, takes.above)) c.mark.ensures
          c.in-Ok.ensures.puts (windows.each _ w at));
    }

pub invariant_of-self-in-Err-1 : goal.invariant_of-self-in-Err-1
invariant_of-self-in-Err-1 g c =
    let ws = c.args.self.now.windows.items in
    let w : Window = c.index.result.now in
    let before = g.met.F.FileStore.plain c.args.self.now.files in
    let after = g.met.F.FileStore.plain c.put.new.self in
    let windows = c.args.self.now.buffered in
    let inside : c.args.disk < length ws = subst (λ n. c.args.disk < n) (sym windows.count) c.requires.disk in
    let at : slice_get ws c.args.disk ≡ Some w = slice_get_read ws _ c.args.disk w refl inside c.index.ensures in
    let kept = put_refused before after c.in-Err.ensures.puts in
    record {
      buffered =
          windows_kept ws c.args.disk w at windows c.in-Err.ensures.puts.writes.stays.disks
          (λ d has other. kept d has)
          (window_kept _ w (kept _ c.requires.disk) (windows.each _ w at));
    }
