-- A drive that its owner loses: it is noted in all arrays, and then mended.
use Rattle.std.proofs.Common.{◌≡◌, ℕ, ◌≤◌, Bool, true, if◌then◌else◌, List, length, get_or, slice_get, option_map, sym, ap, ◌∙◌, inl, inr, lt-ltb, le-ltb, arith}
use Rattle.std.proofs.lemmas.List.{get_or_past}
use Rattle.array_image.specs.States.{is_current}
use Rattle.std.proofs.lemmas.Bool.{cases_lt}
use Rattle.arrayvec.specs.ArrayVec.{ArrayVec}
use Rattle.rack.specs.Seen.{RackView}
use Rattle.array_model.specs.View.{View}
use Rattle.array_core.specs.Seats.{names, gone}
use Rattle.raid_rack.specs.declared.arrays.Arrays.{Arrays}
use Rattle.raid_laws.specs.Moves.{noted_at}
use Rattle.raid_rack.specs.RaidRack.{IsRunning, raid_by, no_array}
use Rattle.raid_laws.proofs.Noted.{IsNoting, current_few, noted_before, noted_seated, noted_whole}
use Rattle.raid_rack.proofs.Mended.{each_get}

-- the arrays that the code notes are those
noted_arrays : (a : Arrays) (all : ArrayVec View) (places : List ℕ) → length a.all.items ≡ a.state.made
    → ((n : ℕ) → slice_get all.items n ≡ option_map (gone places) (slice_get a.all.items n)) → length all.items ≡ length a.all.items
    → (n : ℕ) → get_or all.items n no_array ≡ (noted_at places (raid_by a)).arrays n
noted_arrays a all places count each same n =
    elim (cases_lt n a.state.made) [
      | inl low ↦
          each_get (gone places) a.all.items all.items n each (omega (arith, low, count))
          ∙ sym (ap (λ (b : Bool). if b then gone places (get_or a.all.items n no_array) else get_or a.all.items n no_array) (lt-ltb n a.state.made low))
      | inr past ↦
          none all.items n (omega (arith, past, count, same))
          ∙ sym (none a.all.items n (omega (arith, past, count)))
          ∙ sym (ap (λ (b : Bool). if b then gone places (get_or a.all.items n no_array) else get_or a.all.items n no_array) (le-ltb n a.state.made past))
    ]
  where
    none : (xs : List View) (k : ℕ) → length xs ≤ k → get_or xs k no_array ≡ no_array
    none xs k past = get_or_past xs k no_array past

-- they are noted, a current one among them
dropped_noting : (a : Arrays) (all : ArrayVec View) (places : List ℕ) (one : ℕ) (x : RackView) → IsRunning a x
    → ((n : ℕ) → slice_get all.items n ≡ option_map (gone places) (slice_get a.all.items n)) → names places one ≡ true → is_current a.state one ≡ true
    → IsNoting places (raid_by a) (λ n. get_or all.items n no_array)
dropped_noting a all places one x running each named current =
    record {
      arrays = λ n low. each_get (gone places) a.all.items all.items n each (let count = running.count in omega (arith, low, count));
      one = one;
      named = named;
      current = current;
      few = current_few a.state one running.set.few current;
    }

-- they are those of a pool still
pub dropped_running : (a : Arrays) (all : ArrayVec View) (places : List ℕ) (one : ℕ) (x : RackView) → IsRunning a x
    → ((n : ℕ) → slice_get all.items n ≡ option_map (gone places) (slice_get a.all.items n)) → length all.items ≡ length a.all.items
    → names places one ≡ true → is_current a.state one ≡ true
    → IsRunning (record a { all = all }) x
dropped_running a all places one x running each same named current =
    let set = running.set in
    let f : ℕ → View = λ n. get_or all.items n no_array in
    let noting = dropped_noting a all places one x running each named current in
    record {
      count = same ∙ running.count;
      set = record {
        fit = set.fit;
        lasting = set.lasting;
        disks = set.disks;
        few = set.few;
        most = set.most;
        valid = set.valid;
        logs = λ p left. set.logs p (noted_before places (raid_by a) f noting p left);
        arrays = noted_seated places (raid_by a) f x noting set;
        marked = noted_whole places (raid_by a) f noting;
      };
    }

pub dropped_raid : (a : Arrays) (all : ArrayVec View) (places : List ℕ) → length a.all.items ≡ a.state.made
    → ((n : ℕ) → slice_get all.items n ≡ option_map (gone places) (slice_get a.all.items n)) → length all.items ≡ length a.all.items
    → raid_by (record a { all = all }) ≡ noted_at places (raid_by a)
dropped_raid a all places count each same = λ i. record {
  state = a.state;
  arrays = λ n. noted_arrays a all places count each same n i;
  number = a.log.number;
}
