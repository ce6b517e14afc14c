use Rattle.std.proofs.Common.{take, sym}
use Rattle.std.proofs.lemmas.List.{drop-drop}
use Rattle.shr_script.proofs.reader.LineReader.skip.Goals as goal

pub returns-clause-pending : goal.returns-clause-pending
returns-clause-pending c = sym (drop-drop 1 c.args.self.now.start (take c.args.self.now.end c.args.self.now.piece))
