-- Three disks without the second one.
use Rattle.std.specs.Prelude.{◌≡◌, ℕ, ◌+◌, ◌*◌, refl}
use Rattle.rack.specs.Seen.{Image}
use Rattle.pool_image.specs.Disks.{Disks}
use Rattle.pool_image.specs.Sound.{disks_without, image_without}

abbrev three : Disks
three = record { count = 3; sectors = λ d. 10 + d * 10 }

two_left : (disks_without 1 three).count ≡ 2
two_left = refl

first_stays : (disks_without 1 three).sectors 0 ≡ 10
first_stays = refl

third_moves : (disks_without 1 three).sectors 1 ≡ 30
third_moves = refl

first_contents : (c : Image) (s : ℕ) → image_without 1 c 0 s ≡ c 0 s
first_contents c s = refl

third_contents : (c : Image) (s : ℕ) → image_without 1 c 1 s ≡ c 2 s
third_contents c s = refl
