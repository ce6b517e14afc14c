-- Parts of a call in a row.
use Rattle.std.proofs.Common.{◌≡◌, ℕ, ◌<◌, ◌≤◌, Bool, true, false, refl, sym, subst, ◌∙◌, inl, inr, arith}
use Rattle.std.proofs.lemmas.Bool.{cases_Bool, both_ways}
use Rattle.rack.specs.Values.{Values}
use Rattle.rack.specs.Seen.{Image, RackView, SameRack}
use Rattle.rack.specs.Moments.{Leaves}
use Rattle.rack.specs.Joins.{stays_same, stays_then, leaves_same, leaves_then, leaves_weaker, keeps_same, keeps_then, live_first, live_second, rose_later, rose_early}
use Rattle.pool_state.specs.declared.contents.State.{State}
use Rattle.array_image.specs.Arrays.{Shape, replayed}
use Rattle.array_image.specs.Places.{place_of}
use Rattle.array_image.specs.States.{is_current}
use Rattle.array_image.specs.Left.{IsInside}
use Rattle.array_model.specs.View.{HasFault}
use Rattle.raid_laws.specs.Book.{OnlyMarksSince, after_same, after_then}
use Rattle.raid_laws.specs.Raid.{Raid, is_left}
use Rattle.array_model.specs.ArrayCalls.{IncludesSpent}
use Rattle.raid_laws.specs.Frames.{frame_of}
use Rattle.raid_laws.specs.Logs.{KeepsLogs}
use Rattle.raid_laws.specs.Marking.{SaysBetween, TiedBetween}
use Rattle.raid_laws.specs.Reach.{KeepsReach, reach_same, reach_then}
use Rattle.raid_laws.proofs.Frames.{frame_still, frame_then}
use Rattle.raid_laws.proofs.Logs.{logs_still, logs_then}
use Rattle.raid_laws.proofs.Rows.{clear_same, rows_still}
use Rattle.raid_laws.proofs.LackingRows.{lacking_still}
use Rattle.raid_laws.specs.Rows.{lacking_then, rows_then}
use Rattle.raid_laws.specs.Losing.{arrays_then, only_same}
use Rattle.raid_laws.specs.Moves.{IsSet, IsTrackedInCall, KeepsMarked, SubCall, AreCaused, ChangesData, ChangesNoData}

-- ---- one array

-- where nothing is called, an array that stands after it is all that is owed
pub part_still : (v w : Raid) (x : RackView) (n : ℕ) (vals : ℕ → Values) (spent : ℕ → Bool)
    → w.state ≡ v.state → frame_of (w.arrays n).truth ≡ frame_of (v.arrays n).truth → (holds : IsTrackedInCall v x n vals spent → IsTrackedInCall w x n vals spent)
    → ((amid : IsTrackedInCall v x n vals spent) → (holds amid).durable ≡ amid.durable) → SubCall v w x x n vals vals spent
part_still v w x n vals spent same framed holds still =
    record {
      holds = holds;
      leaves = λ traced.
          leaves_same x
          (λ c. IsInside x.sectors c → (amid : IsTrackedInCall v x n vals spent) → TiedBetween v.state w.state amid.durable (holds amid).durable n vals spent (replayed x.sectors c));
      reach = λ amid. subst (λ (shape : Shape). KeepsReach w.state amid.durable shape) (sym (still amid)) (reach_same (is_current w.state) amid.durable);
      logs = λ copies amid. subst (λ (s : State). KeepsLogs v.state s x x) (sym same) (logs_still v.state x copies);
      frame = λ g before amid. frame_still g n (w.arrays n) x (framed ∙ before);
    }

-- contents that say an array by a state between two, say it by one between more
tied_sooner : (s t u : State) (first mid last : Shape) (n : ℕ) (vals : ℕ → Values) (spent : ℕ → Bool) (r : Image) → OnlyMarksSince t u → KeepsReach u mid last
    → TiedBetween s t first mid n vals spent r → TiedBetween s u first last n vals spent r
tied_sooner s t u first mid last n vals spent r after reach at =
    let by = at.says in
    record {
      says = record { state = by.state; is_state = by.is_state; later = by.later; sooner = after_then by.state t u by.sooner after; shape = by.shape; says = by.says };
      from = at.from;
      to = reach_then (is_current t) (is_current u) by.shape mid last after.current at.to reach;
    }

tied_later : (s t u : State) (first mid last : Shape) (n : ℕ) (vals : ℕ → Values) (spent : ℕ → Bool) (r : Image) → OnlyMarksSince s t → KeepsReach t first mid
    → TiedBetween t u mid last n vals spent r → TiedBetween s u first last n vals spent r
tied_later s t u first mid last n vals spent r after reach at =
    let by = at.says in
    record {
      says = record { state = by.state; is_state = by.is_state; later = after_then s t by.state after by.later; sooner = by.sooner; shape = by.shape; says = by.says };
      from = reach_then (is_current t) (is_current by.state) first mid by.shape by.later.current reach at.from;
      to = at.to;
    }

-- a second part that depends on what stood before the first
pub parts_within : (v w z : Raid) (a b c : RackView) (n : ℕ) (vals now : ℕ → Values) (spent : ℕ → Bool)
    → SameRack a b → OnlyMarksSince v.state w.state → OnlyMarksSince w.state z.state → (b.traced → Leaves b c (λ i. Unit {0}))
    → SubCall v w a b n vals now spent → (IsTrackedInCall v a n vals spent → SubCall w z b c n now now spent) → SubCall v z a c n vals now spent
parts_within v w z a b c n vals now spent stays first second leaves one two =
    record {
      holds = λ amid. (two amid).holds (one.holds amid);
      leaves = λ traced.
          let all = leaves (stays.traced traced) in
          let Said : Image → Type 0 = λ i. IsInside a.sectors i → (amid : IsTrackedInCall v a n vals spent)
          → TiedBetween v.state z.state amid.durable ((two amid).holds (one.holds amid)).durable n now spent (replayed a.sectors i) in
          leaves_then Said
          (leaves_weaker
          (λ i. IsInside a.sectors i → (amid : IsTrackedInCall v a n vals spent) → TiedBetween v.state w.state amid.durable (one.holds amid).durable n now spent (replayed a.sectors i))
          Said
          (λ i says inside amid.
          tied_sooner v.state w.state z.state amid.durable (one.holds amid).durable ((two amid).holds (one.holds amid)).durable n now spent (replayed a.sectors i) second
          ((two amid).reach (one.holds amid)) (says inside amid))
          (one.leaves traced))
          (record {
            later = all.later;
            kept = all.kept;
            past = all.past;
            new = λ k i after until stopped inside amid.
                let mid = one.holds amid in
                let last = ((two amid).holds mid).durable in
                tied_later v.state w.state z.state amid.durable mid.durable last n now spent (replayed a.sectors i) first (one.reach amid)
                (subst (λ (sectors : ℕ → ℕ). TiedBetween w.state z.state mid.durable last n now spent (replayed sectors i)) (λ j d. stays.sectors d j)
                (((two amid).leaves (stays.traced traced)).new k i after until stopped
                (λ d t out. inside d t (subst (λ j. j ≤ t) (stays.sectors d) out)) mid));
          });
      reach = λ amid.
          let mid = one.holds amid in
          reach_then (is_current w.state) (is_current z.state) amid.durable mid.durable ((two amid).holds mid).durable second.current (one.reach amid) ((two amid).reach mid);
      logs = λ copies amid.
          let early = one.logs copies amid in
          logs_then v.state w.state z.state a b c first second stays early ((two amid).logs early.holds (one.holds amid));
      frame = λ g before amid.
          let early = one.frame g before amid in
          frame_then g n (w.arrays n) (z.arrays n) a b c stays early ((two amid).frame g early.after (one.holds amid));
    }

-- contents say it, whatever the shapes
pub part_says : (v w : Raid) (a b : RackView) (n : ℕ) (vals now : ℕ → Values) (spent : ℕ → Bool) → SubCall v w a b n vals now spent → a.traced
    → Leaves a b (λ c. IsInside a.sectors c → IsTrackedInCall v a n vals spent → SaysBetween v.state w.state n now spent (replayed a.sectors c))
part_says v w a b n vals now spent part traced =
    leaves_weaker
    (λ c. IsInside a.sectors c → (amid : IsTrackedInCall v a n vals spent) → TiedBetween v.state w.state amid.durable (part.holds amid).durable n now spent (replayed a.sectors c))
    (λ c. IsInside a.sectors c → IsTrackedInCall v a n vals spent → SaysBetween v.state w.state n now spent (replayed a.sectors c))
    (λ c tied inside amid. (tied inside amid).says)
    (part.leaves traced)

-- ---- all of them

-- a mark stays
pub marked_later : (s t : State) (p : ℕ) → OnlyMarksSince s t → is_current s p ≡ false → is_current t p ≡ false
marked_later s t p after gone =
    elim (cases_Bool (is_current t p)) [
      | inl is ↦ absurd (both_ways (is_current s p) gone (after.current p is))
      | inr not ↦ not
    ]

unwritten_then : (v w : Raid) (a b c : RackView) → OnlyMarksSince v.state w.state → SameRack a b → SameRack b c → KeepsMarked v a b → KeepsMarked w b c → KeepsMarked v a c
unwritten_then v w a b c book first second one two d t live gone =
    keeps_then (a.held d t) (b.held d t) (c.held d t) (one d t (live_first second live) gone)
    (two d t (live_second first live) (marked_later v.state w.state (place_of d) book gone))

pub moves_same : (v : Raid) (x : RackView) → IsSet v x → ChangesNoData v v x x
moves_same v x set =
    record {
      stays = stays_same x set.fit;
      set = set;
      book = after_same v.state;
      leaves = λ traced. leaves_same x (λ c. Unit {0});
      number = omega arith;
      events = λ n low. omega arith;
      arrays = λ n low. only_same (v.arrays n) (v.arrays n) refl;
      plan = refl;
      sectors = λ n. refl;
      left = λ place is. is;
      cause = λ place was now. absurd (both_ways (is_left v place) now was);
      still = λ n made over. over;
      spent = λ n y made alive. alive;
      counted = λ n m sector made among counts. among;
      unwritten = λ d t live gone. keeps_same (x.held d t);
      kept = λ d t live apart other. keeps_same (x.held d t);
      parts = λ n vals spent joined made goes covers. part_still v v x n vals spent refl refl (λ amid. amid) (λ amid. refl);
      rows = λ n vals spent joined made goes covers amid rows. rows_still v v x n (clear_same (v.arrays n) (v.arrays n) refl) rows;
      lacking = λ n vals spent joined made goes covers amid leaves. lacking_still v v x n (clear_same (v.arrays n) (v.arrays n) refl) leaves;
    }

pub moves_then : (v w z : Raid) (a b c : RackView) → ChangesNoData v w a b → ChangesNoData w z b c → ChangesNoData v z a c
moves_then v w z a b c one two =
    record {
      stays = stays_then one.stays two.stays;
      set = two.set;
      book = after_then v.state w.state z.state one.book two.book;
      leaves = λ traced. leaves_then (λ c. Unit {0}) (one.leaves traced) (two.leaves (one.stays.traced traced));
      number = (let first = one.number in let second = two.number in omega (arith, first, second));
      events = λ n low. (let first = one.events n low in let second = two.events n (still_made n low) in omega (arith, first, second));
      arrays = arrays_then v w z one.book.same.made one.arrays two.arrays;
      plan = two.plan ∙ one.plan;
      sectors = λ n. two.sectors n ∙ one.sectors n;
      left = λ place is. one.left place (two.left place is);
      cause = λ place was now. caused place was now;
      still = λ n made over. one.still n made (two.still n (still_made n made) over);
      spent = λ n y made alive. one.spent n y made (two.spent n y (still_made n made) alive);
      counted = λ n m sector made among counts.
          one.counted n m sector made (two.counted n m sector (still_made n made) among counts) counts;
      unwritten = unwritten_then v w a b c one.book one.stays two.stays one.unwritten two.unwritten;
      kept = λ d t live apart other.
          keeps_then (a.held d t) (b.held d t) (c.held d t) (one.kept d t (live_first two.stays live) apart other) (two.kept d t (live_second one.stays live) apart other);
      parts = λ n vals spent joined made goes covers.
          parts_within v w z a b c n vals vals spent one.stays one.book two.book two.leaves
          (one.parts n vals spent joined made (two.still n (still_made n made) goes) (λ y alive. two.spent n y (still_made n made) (covers y alive)))
          (λ amid. two.parts n vals spent (subst (λ k. n < k) (sym one.book.same.joined) joined) (still_made n made) goes covers);
      rows = λ n vals spent joined made goes covers amid rows.
          let goes_w = two.still n (still_made n made) goes in
          let covered : IncludesSpent (w.arrays n) spent = λ y alive. two.spent n y (still_made n made) (covers y alive) in
          let first = one.rows n vals spent joined made goes_w covered amid rows in
          rows_then v w z a b c n one.stays.sectors one.stays.traced first
          (two.rows n vals spent (subst (λ k. n < k) (sym one.book.same.joined) joined) (still_made n made) goes covers
          ((one.parts n vals spent joined made goes_w covered).holds amid) first.after);
      lacking = λ n vals spent joined made goes covers amid leaves.
          let goes_w = two.still n (still_made n made) goes in
          let covered : IncludesSpent (w.arrays n) spent = λ y alive. two.spent n y (still_made n made) (covers y alive) in
          let first = one.lacking n vals spent joined made goes_w covered amid leaves in
          lacking_then v w z a b c n one.stays.sectors one.stays.traced first
          (two.lacking n vals spent (subst (λ k. n < k) (sym one.book.same.joined) joined) (still_made n made) goes covers
          ((one.parts n vals spent joined made goes_w covered).holds amid) first.after);
    }
  where
    still_made : (n : ℕ) → n < v.state.made → n < w.state.made
    still_made n made = subst (λ k. n < k) (sym one.book.same.made) made

    caused : (place : ℕ) → is_left v place ≡ true → is_left z place ≡ false → HasFault a c place
    caused place was now =
        elim (cases_Bool (is_left w place)) [
          | inl mid ↦
              let fault = two.cause place mid now in
              (fault.0, fault.1, rose_later a b c fault.0 one.stays fault.2)
          | inr gone ↦
              let fault = one.cause place was gone in
              (fault.0, fault.1, rose_early a b c fault.0 two.stays fault.2)
        ]

-- ---- parts that write

-- a part that moves no value brings none
pub moves_bring : (v w : Raid) (a b : RackView) → ChangesNoData v w a b → ChangesData v w a b (λ n vals. vals)
moves_bring v w a b moves =
    record {
      stays = moves.stays;
      set = moves.set;
      book = moves.book;
      leaves = moves.leaves;
      number = moves.number;
      events = moves.events;
      sectors = moves.sectors;
      unwritten = moves.unwritten;
      still = moves.still;
      spent = moves.spent;
      parts = moves.parts;
      rows = λ n vals spent unwritten joined made goes covers amid rows. moves.rows n vals spent joined made goes covers amid rows;
      lacking = moves.lacking;
    }

-- a write, and what moves no value after it
pub brings_then : (v w z : Raid) (a b c : RackView) (now : ℕ → (ℕ → Values) → ℕ → Values) → ChangesData v w a b now → ChangesNoData w z b c → ChangesData v z a c now
brings_then v w z a b c now one two =
    record {
      stays = stays_then one.stays two.stays;
      set = two.set;
      book = after_then v.state w.state z.state one.book two.book;
      leaves = λ traced. leaves_then (λ i. Unit {0}) (one.leaves traced) (two.leaves (one.stays.traced traced));
      number = (let first = one.number in let second = two.number in omega (arith, first, second));
      events = λ n low. (let first = one.events n low in let second = two.events n (still_made n low) in omega (arith, first, second));
      sectors = λ n. two.sectors n ∙ one.sectors n;
      unwritten = unwritten_then v w a b c one.book one.stays two.stays one.unwritten two.unwritten;
      still = λ n made over. one.still n made (two.still n (still_made n made) over);
      spent = λ n y made alive. one.spent n y made (two.spent n y (still_made n made) alive);
      parts = λ n vals spent joined made goes covers.
          parts_within v w z a b c n vals (now n vals) spent one.stays one.book two.book two.leaves
          (one.parts n vals spent joined made (two.still n (still_made n made) goes) (λ y alive. two.spent n y (still_made n made) (covers y alive)))
          (λ amid. two.parts n (now n vals) spent (subst (λ k. n < k) (sym one.book.same.joined) joined) (still_made n made) goes covers);
      rows = λ n vals spent unwritten joined made goes covers amid rows.
          let goes_w = two.still n (still_made n made) goes in
          let covered : IncludesSpent (w.arrays n) spent = λ y alive. two.spent n y (still_made n made) (covers y alive) in
          let first = one.rows n vals spent unwritten joined made goes_w covered amid rows in
          rows_then v w z a b c n one.stays.sectors one.stays.traced first
          (two.rows n (now n vals) spent (subst (λ k. n < k) (sym one.book.same.joined) joined) (still_made n made) goes covers
          ((one.parts n vals spent joined made goes_w covered).holds amid) first.after);
      lacking = λ n vals spent joined made goes covers amid leaves.
          let goes_w = two.still n (still_made n made) goes in
          let covered : IncludesSpent (w.arrays n) spent = λ y alive. two.spent n y (still_made n made) (covers y alive) in
          let first = one.lacking n vals spent joined made goes_w covered amid leaves in
          lacking_then v w z a b c n one.stays.sectors one.stays.traced first
          (two.lacking n (now n vals) spent (subst (λ k. n < k) (sym one.book.same.joined) joined) (still_made n made) goes covers
          ((one.parts n vals spent joined made goes_w covered).holds amid) first.after);
    }
  where
    still_made : (n : ℕ) → n < v.state.made → n < w.state.made
    still_made n made = subst (λ k. n < k) (sym one.book.same.made) made

-- causes of two parts in a row
pub caused_then : (v w z : Raid) (a b c : RackView) → SameRack a b → SameRack b c → AreCaused v w a b → AreCaused w z b c → AreCaused v z a c
caused_then v w z a b c first second one two =
    record {
      left = λ place is. one.left place (two.left place is);
      cause = λ place was gone.
          elim (cases_Bool (is_left w place)) [
            | inl mid ↦ let fault = two.cause place mid gone in (fault.0, fault.1, rose_later a b c fault.0 first fault.2)
            | inr early ↦ let fault = one.cause place was early in (fault.0, fault.1, rose_early a b c fault.0 second fault.2)
          ];
    }
