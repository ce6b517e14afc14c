-- The commit that marks losses, or nobody, and writes all superblocks makes that change of the book.
use Rattle.std.proofs.Common.{◌≡◌, ℕ, ◌<◌, true, List, [], ◌∷◌, refl, ◌∙◌, inr, arith}
use Rattle.rack.specs.Values.{Values}
use Rattle.rack.specs.Joins.{stays_then}
use Rattle.rack.specs.Seen.{RackView}
use Rattle.rack.specs.Targets.{Target}
use Rattle.log_laws.specs.View.{LogView, next_number}
use Rattle.array_model.specs.View.{View}
use Rattle.transition_laws.specs.Changes.{Change, failed}
use Rattle.transition_laws.specs.Holds.{IsPromised, Promise, Stands}
use Rattle.transition_laws.specs.Makes.{Makes, stops_then, Suits}
use Rattle.transition_laws.specs.Stages.{Stages}
use Rattle.raid_laws.specs.Raid.{Raid}
use Rattle.raid_laws.specs.Settling.{state_after}
use Rattle.raid_laws.proofs.Adding.{all_live, current_is, no_data, on_current, supers_calm, supers_inside, was_current}
use Rattle.raid_laws.proofs.Brought.{copies_bring, copies_own}
use Rattle.raid_laws.proofs.Committed.{after_marked, gone_current, IsCommit, raid_after, raised_more, raised_range}
use Rattle.transition_laws.proofs.CommitMakes.{after, stops}
use Rattle.transition_laws.proofs.Committing.{book_with, commits, IsCommitting}
use Rattle.raid_laws.proofs.KeptDrives.{after_drives}
use Rattle.transition_laws.proofs.Rewritten.{IsRestated, stages_failed}

module _ (v : Raid) (book_number : ℕ) (g : ℕ → View) (events : ℕ → ℕ) (lost on gone : List ℕ) (l : LogView) (xs : List Target) (f : ℕ → View) (b c : RackView) (commit : IsCommit v lost on gone l xs f b c) where
  marking_committing : IsCommitting (failed lost events) v book_number g on gone l f b c
  marking_committing =
      let marking = commit.marking in
      let t = state_after v lost in
      record {
        due = tt;
        set = marking.set;
        call = commit.call;
        number = marking.number;
        arrays = commit.arrays;
        fresh = λ n low. marking.fresh n gone low;
        current = current_is v lost on l xs b marking;
        on_is = on_current v lost on l xs b marking;
        called = λ q is. gone_current v lost on gone l xs f b c commit q is;
        made = omega arith;
        new = λ n high low. absurd (omega (arith, high, low));
        slices = λ live. live;
        few = λ few. few;
        epoch = (raised_range v.state.epoch).0;
        later = λ room. raised_more v.state.epoch room;
        last = λ room. let up = (raised_range v.state.epoch).0 in omega (arith, room, up);
        drives = after_drives v.state t on (after_marked lost v.state);
        brings = λ room.
            copies_bring t v.state on xs l.added marking.copies (raised_more v.state.epoch room) (λ p is. was_current v lost on l xs b marking p is)
            (on_current v lost on l xs b marking) (λ p is. on_current v lost on l xs b marking p ∙ supers_inside v lost on l xs b marking p is) (supers_calm v lost on l xs b marking);
        own = copies_own t on xs l.added marking.copies (supers_calm v lost on l xs b marking);
        none = no_data v lost on l xs b marking;
        live = λ slices logs. all_live v lost on l xs b marking slices logs;
      }

  abbrev book : Raid
  book = book_with v book_number g

  abbrev after_it : Raid
  after_it = raid_after v lost (next_number l.number) f

  -- The arrays are settled by calls that make no change of the book, and the commit has their superblocks.
  pub mark_makes : (u : Raid) (vals : ℕ → ℕ → Values) (a : RackView) → Makes [] (book_with v book_number g) u v vals vals a b
      → ((p : Promise) → IsPromised p (raid_after v lost (next_number l.number) f) → IsPromised p v → Stands (book_with v book_number g) u p vals a → Stands (book_with v book_number g) v p vals b
      → (n : ℕ) → p.live n ≡ true → n < v.state.made → IsRestated lost events (book_with v book_number g) v n l.added b)
      → Makes (failed lost events ∷ []) (book_with v book_number g) u (raid_after v lost (next_number l.number) f) vals vals a c
  mark_makes u vals a early are =
      let x : Change = failed lost events in
      let commits_it = commits (failed lost events) v book_number g on gone l f b c marking_committing in
      let nothing : (p : Promise) → Suits p [] book = λ p. record { free = λ n kept. refl; owned = tt; growing = inr tt } in
      let mid : (p : Promise) → Suits p (failed lost events ∷ []) book → IsPromised p after_it → IsPromised p v = commits_it.back in
      let staged : (p : Promise) → Suits p (failed lost events ∷ []) book → IsPromised p after_it → Stands book u p vals a → Stages (failed lost events) book v after_it p vals l.added b c =
      λ p suits promised stands.
      stages_failed lost events book v after_it vals l.added b c (no_data v lost on l xs b commit.marking) p (λ is stood. are p is (mid p suits is) stands stood) in
      record {
        due = (tt, tt);
        stays = stays_then early.stays commit.call.stays;
        back = λ p suits promised. early.back p (nothing p) (mid p suits promised);
        grows = λ n y u may. may;
        stops = λ p suits promised stands traced.
            let before = mid p suits promised in
            stops_then [] (failed lost events ∷ []) book p vals vals a b c early.stays (λ n y u may. may) (early.stops p (nothing p) before stands traced)
            (stops x book v after_it vals l on gone b c commits_it p (staged p suits promised stands) promised suits.owned.0 (early.after p (nothing p) before stands) (early.stays.traced traced));
        after = λ p suits promised stands.
            after x book v after_it vals l on gone b c commits_it p (staged p suits promised stands) promised suits.owned.0
            (early.after p (nothing p) (mid p suits promised) stands);
      }
