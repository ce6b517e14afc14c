use Rattle.std.proofs.Common.{ℕ, ◌+◌, ◌<◌}
use Rattle.rack.specs.Seen.{IsLive}
use Rattle.rack.specs.Sequences.{WritesOnly}
use Rattle.gpt_table.specs.Disk.{now_on}
use Rattle.pool_format.specs.Data.{IsMemberData, group_sector}
use Rattle.pool_format.specs.Writing.{InRows}
use Rattle.pool_format.proofs.members.write_rows.Given as goal

-- sectors of the data alone were written so far, those up to here
abbrev pub invariant-loop-sector : goal.invariant-loop-sector
invariant-loop-sector g l = record {
  only : WritesOnly (g.R.Rack.seen l.initial.rack) (g.R.Rack.seen l.rack) (InRows l.member.place l.member.first l.size);
  stand : (s : ℕ) → s < l.sector → IsLive (g.R.Rack.seen l.initial.rack) (g.R.Rack.seen l.rack) l.member.place (l.member.first + s)
      → IsMemberData l.member.members (group_sector l.group l.member.number) l.member.position s (now_on (g.R.Rack.seen l.rack) l.member.place (l.member.first + s));
  runs : g.R.Rack.runs l.initial.rack l.rack;
}
