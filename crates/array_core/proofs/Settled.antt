-- An array whose members were synced holds what it held by its settled truth.
use Rattle.std.proofs.Common.{◌≡◌, ℕ, ◌+◌, ◌≤◌, ◌^◌, ◌-◌, Bool, true, false, nat_lt, if◌then◌else◌, refl, sym, subst, ◌∙◌, arith}
use Rattle.std.proofs.lemmas.Bool.{both_ways}
use Rattle.rack.specs.Values.{Values}
use Rattle.rack.specs.Seen.{RackView}
use Rattle.md_super.specs.declared.superblock.Super.{Super}
use Rattle.pool_state.specs.declared.contents.State.{State}
use Rattle.array_image.specs.Arrays.{Shape}
use Rattle.array_image.specs.Held.{IsSynced}
use Rattle.array_model.specs.View.{View, shape_of, spent_in}
use Rattle.array_model.specs.Says.{ArrayInvariant, IsEarlier}
use Rattle.array_model.specs.ArrayCalls.{IncludesSpent, SyncsArray}
use Rattle.array_core.specs.Superblocks.{settled, settled_truth, raised}

pub settled_shape : (u : View) → shape_of (settled u) ≡ shape_of u
unfolding shape_of
settled_shape u = refl

raised_more : (n : ℕ) → n ≤ raised n
raised_more n = by (nat_lt n (2 ^ 63 - 1))
  where
    by : (b : Bool) → n ≤ (if b then n + 1 else n)
    by true = omega arith
    by false = omega arith

settled_later : (t : Super) (u : View) → IsEarlier t u.truth → IsEarlier t (settled_truth u)
settled_later t u earlier = record {
  fields = earlier.fields;
  events = let more = raised_more u.truth.events in let low = earlier.events in omega (arith, more, low);
}

pub settled_holds : (s : State) (durable : Shape) (u : View) (vals : ℕ → Values) (spent : ℕ → Bool) (x : RackView)
    → IsSynced (shape_of u) u.number x.held → ArrayInvariant s durable u vals spent x → ArrayInvariant s durable (settled u) vals spent x
unfolding shape_of
settled_holds s durable u vals spent x single holds =
    let h = holds.shape in
    record {
      shape = record {
        open_slices = h.open_slices;
        open_left = h.open_left;
        says = h.says;
        still = h.still;
        within = h.within;
        current = h.current;
        sized = h.sized;
        even = h.even;
        settled = λ steady. single;
      };
      mark = λ marked. absurd (both_ways false refl marked);
      alone = holds.alone;
      closed = holds.closed;
      truth = λ r left t is. settled_later t u (holds.truth r left t is);
    }

pub spent_same : (u : View) (x : ℕ) → spent_in (settled u) x ≡ spent_in u x
unfolding shape_of
spent_same u x = refl

-- the clause of a settling, by that of the sync in it
pub settles_array : (a b : RackView) (v u : View)
    → ((s : State) (durable : Shape) (vals : ℕ → Values) (spent : ℕ → Bool) → IncludesSpent u spent → SyncsArray s v u spent a b durable vals)
    → (s : State) (durable : Shape) (vals : ℕ → Values) (spent : ℕ → Bool) → IncludesSpent (settled u) spent → SyncsArray s v (settled u) spent a b durable vals
settles_array a b v u syncs s durable vals spent covers =
    let sync = syncs s durable vals spent (λ y alive. sym (spent_same u y) ∙ covers y alive) in
    let acts = sync.acts in
    record {
      acts = record {
        stays = acts.stays;
        noted = record {
          same = record {
            number = acts.noted.same.number;
            geometry = record {
              set = acts.noted.same.geometry.set;
              level = acts.noted.same.geometry.level;
              size = acts.noted.same.geometry.size;
              disks = acts.noted.same.geometry.disks;
              roles = acts.noted.same.geometry.roles;
              features = acts.noted.same.geometry.features;
              position = acts.noted.same.geometry.position;
            };
            devices = acts.noted.same.devices;
            resync = acts.noted.same.resync;
            young = acts.noted.same.young;
          };
          lost = acts.noted.lost;
          loses = record { seats = acts.noted.loses.seats; went = acts.noted.loses.went };
          cause = acts.noted.cause;
        };
        leaves = acts.leaves;
        holds = λ holds. settled_holds s durable u vals spent b (sync.settled holds) (acts.holds holds);
        apart = acts.apart;
        calm = acts.calm;
        bounded = acts.bounded;
      };
      keeps = sync.keeps;
      settled = λ holds. subst (λ (f : Shape). IsSynced f u.number b.held) (sym (settled_shape u)) (sync.settled holds);
    }
