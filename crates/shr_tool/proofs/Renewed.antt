-- What an event does to the arrays of a book.
use Rattle.raid_laws.specs.Raid.{Raid}
use Rattle.pool.specs.Keeping.{KeepsBook}
use Rattle.pool.proofs.Enlisted.{book_but}
use Rattle.shr_tool.specs.Events.{Event}
use Rattle.shr_tool.specs.Events.Event.{answered, spent, lost, last, replaced, declined, stepped, stuck, shown}
use Rattle.shr_tool.specs.Timeline.{KeepsBookIn}

-- a book that keeps all members does so in each event
pub keeps_in : (event : Event) (v w : Raid) → KeepsBook v w → KeepsBookIn event v w
keeps_in (answered line) v w keeps = keeps
keeps_in (spent line sector) v w keeps = keeps
keeps_in (lost place) v w keeps = keeps
keeps_in (last place) v w keeps = keeps
keeps_in (replaced place name) v w keeps = book_but place v w keeps
keeps_in (declined place name fault) v w keeps = keeps
keeps_in (stepped count left) v w keeps = keeps
keeps_in (stuck count array) v w keeps = keeps
keeps_in (shown text) v w keeps = keeps
