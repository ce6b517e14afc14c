-- A record that gives one place another drive brings a state by which this place joins.
use Rattle.std.proofs.Common.{◌≡◌, ℕ, true, length, ap, ◌∙◌, inl, inr}
use Rattle.std.specs.List.{range_with_len}
use Rattle.std.proofs.lemmas.Bool.{both_ways, cases_Bool, cases_eq}
use Rattle.rack.specs.Seen.{Image}
use Rattle.pool_state.specs.declared.contents.State.{State}
use Rattle.array_image.specs.Record.{gate_in}
use Rattle.array_image.specs.States.{current_places, is_current}
use Rattle.log_laws.specs.Saying.{PendingInstalls, IsReplaced, SaysReplaced, RecoversTo}
use Rattle.log_laws.specs.View.{names}
use Rattle.commit_log.proofs.Fewer.{names_filter}
use Rattle.commit_log.proofs.Replayable.{pending_named}

listed : (s : State) (p : ℕ) → names (current_places s) p ≡ true → is_current s p ≡ true
unfolding current_places
listed s p among = (names_filter (is_current s) (range_with_len 0 (length s.drives.items)) p among).0

pub replaced_brings : (place : ℕ) (s t : State) (c : Image) → IsReplaced place s t c → PendingInstalls s t c
replaced_brings place s t c is = record {
  later = is.later;
  pool = is.pool;
  source = λ g at.
      let has = is.source g at in
      let was = listed s g.place (pending_named (current_places s) c g at).0 in
      (record { was = was; now = has.1; drive = is.ids g.place has.0 was has.1 }, has.2);
  joining = λ g p at joins. elim (cases_eq p place) [
    | inl same ↦ let gate = is.gate g at in (gate.0, ap (gate_in c) same ∙ gate.1, gate.2)
    | inr away ↦ elim (cases_Bool (is_current s p)) [
      | inr former ↦ is.joining g p at former joins.now
      | inl was ↦ absurd (elim joins.new [ inl former ↦ both_ways (is_current s p) former was | inr other ↦ other (is.ids p away was joins.now) ])
    ]
  ];
  copy = let one = is.copy in (one.0, record { was = one.2; now = one.3; drive = is.ids one.0 one.1 one.2 one.3 }, one.4);
}

-- so contents say the state that it brings
pub replaced_says : (place : ℕ) (s t : State) (sectors : ℕ → ℕ) (c : Image) → SaysReplaced place s t sectors c → RecoversTo t sectors c
replaced_says place s t sectors c says = record {
  whole = says.whole;
  is_state = says.is_state;
  copies = says.copies;
  stood = s;
  stood_is = says.stood_is;
  latest = says.latest;
  next = inr (replaced_brings place s t c says.next);
  brings = says.brings;
  inside = says.inside;
}
