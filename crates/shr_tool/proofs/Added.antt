-- A line that adds a drive, or does works of a growth.
use Rattle.std.proofs.Common.{◌≡◌, ℕ, true, List, slice_get, Result, Ok, Err, codes, refl, ◌∙◌, ap, subst, inl, inr, arith}
use Rattle.rack.specs.Seen.{RackView}
use Rattle.lvm_group.specs.Runs.{Linear}
use Rattle.pool_state.specs.declared.contents.Work.{Work}
use Rattle.pool_state.specs.declared.contents.Work.TheVariants.{Make}
use Rattle.raid_laws.specs.Raid.{Raid}
use Rattle.raid_rack.specs.declared.works.Stuck.{Stuck}
use Rattle.raid_rack.specs.Growing.{CannotEnter, CannotMake}
use Rattle.shr_script.specs.declared.Command.TheVariants.{Add, Step}
use Rattle.shr_script.specs.Line.{Line}
use Rattle.shr_script.specs.Reply.{as_line, left_line, refused_line}
use Rattle.pool.specs.declared.replacing.GrowFault.{GrowFault}
use Rattle.pool.specs.Adding.{AddsDrive}
use Rattle.pool.specs.Calls.{Marks}
use Rattle.pool.specs.Growing.{GrowsBy, IsRefused, IsRefusedGrowth, KeepsGrowing, StopsGrowing}
use Rattle.pool.specs.Moment.{Moment, moment_of}
use Rattle.pool.specs.Proceeding.{Proceeds, has_growth}
use Rattle.pool.specs.View.{View, book}
use Rattle.shr_tool.specs.declared.perform.Answer.{Answer}
use Rattle.shr_tool.specs.declared.perform.Answer.TheVariants.{Given, Spent}
use Rattle.shr_tool.specs.Events.{answer_by, grow_word, stuck_line}
use Rattle.shr_tool.specs.Growing.{GrowsOn, IsAgainst, IsGrownBy, KeepsBay, MarksWent, Stops, bay_at, taking_answer, taking_text}

-- ---- `add NAME`

-- drives are marked by their own faults
marks_went : (x y : View) (line : Line) → Marks x y → MarksWent (IsAgainst line) (moment_of x) (moment_of y)
marks_went x y line marks k was now = elim (marks k was now) [ inl rose ↦ inl rose | inr never ↦ absurd never ]

-- the disk of a name is added, or it isn't
add_by :
    (x y : View) (name text : List ℕ) (answer : Answer) (r : Result (Unit {0}) GrowFault)
    → answer ≡ taking_answer r
    → text ≡ taking_text r
    → AddsDrive x y name r
    → GrowsOn x y (Ok (Add name)) answer text
add_by x y name text answer r answer_is text_is adds = record {
  proceeds = adds.continues.proceeds;
  marks = marks_went x y (Ok (Add name)) adds.marks;
  raises = adds.raises;
  answered = inr (tt, (r, answer_is, text_is, adds.continues.linear, adds.adds));
}

pub add_done :
    (x y : View) (name said text : List ℕ) (r : Result (Unit {0}) GrowFault)
    → said ≡ name
    → r ≡ Ok tt
    → text ≡ as_line (codes "ok")
    → AddsDrive x y said r
    → GrowsOn x y (Ok (Add name)) Given text
add_done x y name said text r same done is adds =
    add_by x y name text Given (Ok tt) refl is (subst (AddsDrive x y name) done (subst (λ n. AddsDrive x y n r) same adds))

pub add_declined :
    (x y : View) (name said text : List ℕ) (answer : Answer) (r : Result (Unit {0}) GrowFault) (fault : GrowFault)
    → said ≡ name
    → r ≡ Err fault
    → answer ≡ answer_by fault
    → text ≡ refused_line (grow_word fault)
    → AddsDrive x y said r
    → GrowsOn x y (Ok (Add name)) answer text
add_declined x y name said text answer r fault same refused answer_is is adds =
    add_by x y name text answer (Err fault) answer_is is (subst (AddsDrive x y name) refused (subst (λ n. AddsDrive x y n r) same adds))

-- ---- `step N`

-- works of a growth keep the bay's disks
proceeds_grown : (count : ℕ) (x y : View) → KeepsGrowing count x y → Proceeds x y
proceeds_grown count x y keeps =
    let bay = keeps.goes.stays in
    record {
      fit = keeps.fit;
      disks = record {
        disks = let same = bay.disks in omega (arith, same);
        sectors = λ d low. bay.sectors d;
        faults = λ d low. bay.faults d;
        names = λ d name is. ap (λ names. slice_get names d) keeps.shelf.names ∙ is;
        waits = λ name. inl (keeps.shelf.ready name);
      };
      told = keeps.shelf.told;
      traced = λ told traced. bay.traced traced;
      later = λ told traced. (keeps.goes.leaves traced).later;
      past = λ told traced k i until stopped. (keeps.goes.leaves traced).past k i until stopped;
    }

bay_kept : (count : ℕ) (x y : View) → KeepsGrowing count x y → KeepsBay (moment_of x) (moment_of y)
bay_kept count x y keeps = (keeps.goes.stays.disks, keeps.goes.stays.sectors, keeps.shelf.names, keeps.shelf.ready)

growth_by :
    (x y : View) (count : ℕ) (answer : Answer) (text : List ℕ)
    → has_growth x.linear (book x) ≡ true
    → KeepsGrowing count x y
    → IsGrownBy (moment_of x) (moment_of y) (Ok (Step count)) answer text
    → GrowsOn x y (Ok (Step count)) answer text
growth_by x y count answer text left keeps grown = record {
  proceeds = proceeds_grown count x y keeps;
  marks = marks_went x y (Ok (Step count)) keeps.marks;
  raises = keeps.raises;
  answered = inr (left, grown);
}

pub growth_done :
    (x y : View) (runs : x.bays.one → x.bays.one → Type 0) (count left : ℕ) (text : List ℕ) (r : Result ℕ Stuck)
    → has_growth x.linear (book x) ≡ true
    → r ≡ Ok left
    → text ≡ left_line left
    → GrowsBy count x y runs r
    → GrowsOn x y (Ok (Step count)) Given text
growth_done x y runs count left text r some is_ok is grows_r =
    let grows : GrowsBy count x y runs (Ok left) = subst (GrowsBy count x y runs) is_ok grows_r in
    growth_by x y count Given text some grows.keeps
    (bay_kept count x y grows.keeps, grows.keeps.seats, grows.keeps.longer, inl (refl, is ∙ ap left_line grows.left, grows.done))

-- ---- `step N`, where a work can't be done

module _ (x y : View) (runs : x.bays.one → x.bays.one → Type 0) (count array : ℕ) (stops : StopsGrowing count x y runs array) where
  abbrev seen : RackView
  seen = x.bays.seen stops.bay

  -- how the bay stood then
  abbrev at : Moment
  at = record (moment_of x) { clock = seen.clock; disks = seen.disks; sectors = seen.sectors; held = seen.held; faults = seen.faults }

  -- a slice of a new array's member can't be entered
  entered : (place first sectors : ℕ) → CannotEnter x.bays.seen runs stops.slices stops.bay place first sectors → CannotEnter bay_at KeepsBay stops.slices at place first sectors
  entered place first sectors (inl none) = inl none
  entered place first sectors (inr (inl unread)) = inr (inl (unread.0, unread.1, (at, (refl, λ d. refl, refl, λ name. refl), λ never. absurd never)))
  entered place first sectors (inr (inr past)) = inr (inr past)

  -- one can't be made
  made : (v : Raid) (height : ℕ) → CannotMake x.bays.seen runs stops.slices stops.bay v height → CannotMake bay_at KeepsBay stops.slices at v height
  made v height cannot = record {
    place = cannot.place;
    among = cannot.among;
    current = cannot.current;
    cause = elim cannot.cause [ inl enter ↦ inl (entered cannot.place _ _ enter) | inr lay ↦ inr lay ];
  }

  make_refused : (n height : ℕ) (v w : Raid)
      → IsRefusedGrowth x.bays.seen runs stops.slices stops.bay (Make n height) v w
      → IsRefusedGrowth bay_at KeepsBay stops.slices at (Make n height) v w
  make_refused n height v w (inl idle) = inl idle
  make_refused n height v w (inr tried) =
      let turns = tried.1 in
      inr (
        tried.0,
        record {
          mid = turns.mid;
          before = turns.before;
          is_done = turns.is_done;
          answer = turns.answer;
          after = turns.after;
          refused = λ no. elim (turns.refused no) [ inl lacks ↦ inl lacks | inr cannot ↦ inr (made turns.mid height cannot) ];
        },
      )

  -- the reason needs the sectors of the bay's disks alone
  refused_by : (l : Linear) (work : Work) (v w : Raid) (n : ℕ)
      → IsRefused x.bays.seen runs stops.slices stops.bay l work v w n → IsRefused bay_at KeepsBay stops.slices at l work v w n
  refused_by l (Make n height) v w k refused = (refused.0, make_refused n height v w refused.1)
  refused_by l work v w k refused = refused

  stops_of : Stops count (moment_of x) (moment_of y) array
  stops_of = record {
    works = stops.works;
    few = stops.few;
    mid = stops.mid;
    done = stops.done;
    work = stops.work;
    first = stops.first;
    slices = stops.slices;
    seats = stops.seats;
    bay = at;
    between = (stops.between.0.stays.disks, stops.between.0.stays.sectors, refl, λ name. refl);
    stuck = refused_by y.linear stops.work stops.mid (book y) array stops.stuck;
  }

pub growth_stuck :
    (x y : View) (runs : x.bays.one → x.bays.one → Type 0) (count : ℕ) (at : Stuck) (text : List ℕ) (answer : Answer) (r : Result ℕ Stuck)
    → has_growth x.linear (book x) ≡ true
    → r ≡ Err at
    → answer ≡ Spent
    → text ≡ stuck_line at.array
    → GrowsBy count x y runs r
    → GrowsOn x y (Ok (Step count)) answer text
growth_stuck x y runs count at text answer r some refused spent is grows_r =
    let grows : GrowsBy count x y runs (Err at) = subst (GrowsBy count x y runs) refused grows_r in
    growth_by x y count answer text some grows.keeps
    (bay_kept count x y grows.keeps, grows.keeps.seats, grows.keeps.longer, inr (at.array, spent, is, stops_of x y runs count at.array grows.stuck))
