-- What holds of one file at any moment.
use Rattle.std.proofs.Common.{ℕ, ◌^◌, ◌<◌, List, Option, refl, inl, inr}
use Rattle.rack.specs.Values.{MayLeave}
use Rattle.buffered_bay.specs.View.{IsPlain}
use Rattle.buffer_tests.specs.OneFile.{Contents, at, held_of, seen_of}

pub is_plain : (name : Option (List ℕ)) (sectors : ℕ) (c : Contents) (faults : ℕ) → sectors < 2 ^ 48 → IsPlain (Unit {0}) (seen_of name sectors c faults)
is_plain name sectors c faults bounded =
    record {
      fit = tt;
      told = λ d tells. tt;
      tells_all = λ d told. tt;
      unspent = λ d s. refl;
      lasting = tt;
      bounded = λ d inside. bounded;
    }

-- a stop may leave what the file has
pub left_stored : (c : Contents) (s : ℕ) → MayLeave (held_of c s) (at c.stored s)
left_stored c s = inr (inr (inl refl))
