-- What holds of a bay in memory at any moment.
use Rattle.std.specs.Prelude.{length, refl}
use Rattle.std.proofs.Common.{inl}
use Rattle.rack.specs.Moments.{IsSound}
use Rattle.rack_mem.specs.Memory.{Memory, seen_of, values_of}

-- a stop now leaves a value of each sector, and may leave the contents as they read
pub is_sound : (m : Memory) → IsSound (seen_of m)
is_sound m = record {
  only_held = λ c left d s live. left d s live.disk live.sector;
  now = (λ d s. (values_of m d s (length m.calls)).current, (λ d s disk sector. inl refl), λ d s live. refl);
}
