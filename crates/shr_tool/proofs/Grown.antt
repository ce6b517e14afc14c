-- A run in which a line grew the pool, one line more at a time.
use Rattle.std.proofs.Common.{◌≡◌, ℕ, ◌+◌, ◌≤◌, List, [], ◌∷◌, ◌++◌, append_assoc, length, length-append, take, refl, sym, ◌∙◌, ap, subst, arith}
use Rattle.std.proofs.Math.Seq.{take-append-add}
use Rattle.rack.specs.Seen.{Image}
use Rattle.assembler.specs.Sound.{TargetsLand}
use Rattle.io_ends.specs.Sink.{AddsPrefix}
use Rattle.pool_model.specs.Grouped.{HaveOwnAreas}
use Rattle.pool_model.specs.Taken.{AreSerial}
use Rattle.shr_script.specs.Line.{Line}
use Rattle.pool.proofs.Continuing.{proceeds_then}
use Rattle.pool.specs.Moment.{Moment, moment_of}
use Rattle.pool.specs.View.{View}
use Rattle.pool.specs.Volume.{VolumeIs}
use Rattle.shr_tool.specs.Between.{HoldsEach}
use Rattle.shr_tool.specs.declared.perform.Answer.{Answer}
use Rattle.shr_tool.specs.declared.perform.Answer.TheVariants.{Given}
use Rattle.shr_tool.specs.Events.{Event, calls_in, lines_of, texts, worse, worst_of}
use Rattle.shr_tool.specs.Growing.{GrowsOn, IsAgainst, IsGrowing}
use Rattle.shr_tool.specs.Serving.{Answered, Grew, HasGone, Ran}
use Rattle.shr_tool.proofs.Between.{each_kept}
use Rattle.shr_tool.proofs.Growing.{along_more, proceeds_to}
use Rattle.shr_tool.proofs.Timelines.{steps_kept, timeline_kept, worse_assoc}

-- ---- the events before it

-- a run of events
gone_of : (x y : View) (events : List Event) → Ran x y events → HasGone x y.bay.stops events (moment_of y)
gone_of x y events ran = record { timeline = ran.timeline; steps = ran.steps; steps_are = ran.steps_are; between = ran.between }

-- what stops left up to its last moment stays as it is
pub gone_kept :
    (x : View) (old new : ℕ → Image → Type 0) (events : List Event) (last : Moment)
    → (x.shelf.told → x.bay.traced → (k : ℕ) (i : Image) → k ≤ last.clock → new k i → old k i)
    → HasGone x old events last
    → HasGone x new events last
gone_kept x old new events last past gone = record {
  timeline = λ a.
      timeline_kept (x.bay.traced × VolumeIs x a) old new last.clock (λ told. past told.1.shelf told.0) (moment_of x) a events last (omega arith) (gone.timeline a);
  steps = gone.steps;
  steps_are = λ a.
      steps_kept (x.bay.traced × VolumeIs x a) old new last.clock (λ told. past told.1.shelf told.0) (moment_of x) a events last (omega arith) (gone.timeline a)
      ∙ gone.steps_are a;
  between = λ a serving traced f begins goes.
      subst (HoldsEach new (AreSerial f.state) (TargetsLand f) (HaveOwnAreas f) [] f (moment_of x) events last) (gone.steps_are a)
      (each_kept (x.bay.traced × VolumeIs x a) old new (AreSerial f.state) (TargetsLand f) (HaveOwnAreas f) last.clock (traced, serving.0) (past serving.0.shelf traced)
      [] f (moment_of x) a events last (omega arith) (gone.timeline a)
      (subst (HoldsEach old (AreSerial f.state) (TargetsLand f) (HaveOwnAreas f) [] f (moment_of x) events last) (sym (gone.steps_are a))
      (gone.between a serving traced f begins goes)));
}

-- ---- lines

-- the first line that grows the pool
pub grew_first :
    (x y z : View) (events : List Event) (line : Line) (answer : Answer) (text out out' : List ℕ) (Put : List ℕ → Type 0)
    → Answered x y events out out'
    → IsGrowing (moment_of y) (moment_of z) line
    → GrowsOn y z line answer text
    → ((all : List ℕ) → out' ≡ out ++ all → Put (all ++ text))
    → Grew x z (lines_of events ++ line ∷ []) (worse (worst_of events) answer) Put
grew_first x y z events line answer text out out' Put answered growing grows puts =
    let ran = answered.ran in
    let told : x.shelf.told → x.bay.traced → y.shelf.told × y.bay.traced = λ told traced. (ran.continues.proceeds.told told, ran.continues.proceeds.traced told traced) in
    record {
      events = events;
      first = line;
      more = [];
      lines_are = refl;
      proceeds = proceeds_then x y z ran.continues.proceeds grows.proceeds;
      last = moment_of y;
      gone =
          gone_kept x y.bay.stops z.bay.stops events (moment_of y)
          (λ named traced. grows.proceeds.past (told named traced).0 (told named traced).1)
          (gone_of x y events ran);
      growing = growing;
      later = λ named traced. grows.proceeds.later (told named traced).0 (told named traced).1;
      said = text;
      answer = answer;
      worst_is = refl;
      grown =
          along_more (x.shelf.told × x.bay.traced) (moment_of y) [] [] Given (moment_of y) (moment_of z) line answer text (refl, refl, refl)
          (proceeds_to y z (x.shelf.told × x.bay.traced) (IsAgainst line) (calls_in line) (λ is. told is.0 is.1) grows.proceeds grows.marks grows.raises)
          grows.answered;
      put = λ a holds. puts (texts a events) (answered.put a holds);
    }

-- and each one after it
pub grew_more :
    (x y z : View) (lines : List Line) (worst : Answer) (line : Line) (answer : Answer) (text out out' : List ℕ) (Put : List ℕ → Type 0)
    → Grew x y lines worst (λ all. out' ≡ out ++ all)
    → GrowsOn y z line answer text
    → ((all : List ℕ) → out' ≡ out ++ all → Put (all ++ text))
    → Grew x z (lines ++ line ∷ []) (worse worst answer) Put
grew_more x y z lines worst line answer text out out' Put grew grows puts =
    let told : x.shelf.told → x.bay.traced → y.shelf.told × y.bay.traced =
    λ told traced. (grew.proceeds.told told, grew.proceeds.traced told traced) in
    record {
      events = grew.events;
      first = grew.first;
      more = grew.more ++ line ∷ [];
      lines_are = ap (λ ls. ls ++ line ∷ []) grew.lines_are ∙ append_assoc (lines_of grew.events) (grew.first ∷ grew.more) (line ∷ []);
      proceeds = proceeds_then x y z grew.proceeds grows.proceeds;
      last = grew.last;
      gone =
          gone_kept x y.bay.stops z.bay.stops grew.events grew.last
          (λ named traced k i until stopped.
          let before = grew.later named traced in
          grows.proceeds.past (told named traced).0 (told named traced).1 k i (omega (arith, before, until)) stopped)
          grew.gone;
      growing = grew.growing;
      later = λ named traced.
          let before = grew.later named traced in
          let now = grows.proceeds.later (told named traced).0 (told named traced).1 in
          omega (arith, before, now);
      said = grew.said ++ text;
      answer = worse grew.answer answer;
      worst_is = worse_assoc (worst_of grew.events) grew.answer answer ∙ ap (λ b. worse b answer) grew.worst_is;
      grown =
          along_more (x.shelf.told × x.bay.traced) grew.last (grew.first ∷ grew.more) grew.said grew.answer (moment_of y) (moment_of z) line answer text grew.grown
          (proceeds_to y z (x.shelf.told × x.bay.traced) (IsAgainst line) (calls_in line) (λ is. told is.0 is.1) grows.proceeds grows.marks grows.raises)
          grows.answered;
      put = λ a holds.
          subst Put (append_assoc (texts a grew.events) grew.said text) (puts (texts a grew.events ++ grew.said) (grew.put a holds));
    }

-- the replies that were put, as they are told
pub grew_put :
    (x y : View) (lines : List Line) (worst : Answer) (P Q : List ℕ → Type 0) → ((all : List ℕ) → P all → Q all) → Grew x y lines worst P → Grew x y lines worst Q
grew_put x y lines worst P Q for grew = record {
  events = grew.events;
  first = grew.first;
  more = grew.more;
  lines_are = grew.lines_are;
  proceeds = grew.proceeds;
  last = grew.last;
  gone = grew.gone;
  growing = grew.growing;
  later = grew.later;
  said = grew.said;
  answer = grew.answer;
  worst_is = grew.worst_is;
  grown = grew.grown;
  put = λ a holds. for (texts a grew.events ++ grew.said) (grew.put a holds);
}

-- ---- what is put

-- a reply after others
pub put_more : (out out' out'' text all : List ℕ) → out'' ≡ out' ++ text → out' ≡ out ++ all → out'' ≡ out ++ (all ++ text)
put_more out out' out'' text all put before = put ∙ (ap (λ bytes. bytes ++ text) before ∙ append_assoc out all text)

-- a prefix of one after others
pub prefix_more : (out out' out'' text all : List ℕ) → AddsPrefix out' out'' text → out' ≡ out ++ all → AddsPrefix out out'' (all ++ text)
prefix_more out out' out'' text all prefix before = record {
  count = length all + prefix.count;
  within = (let within = prefix.within in rw length-append (omega (arith, within)));
  bytes =
      prefix.bytes
      ∙ (ap (λ bytes. bytes ++ take prefix.count text) before
      ∙ (append_assoc out all (take prefix.count text) ∙ ap (λ bytes. out ++ bytes) (sym (take-append-add all text prefix.count))));
}
