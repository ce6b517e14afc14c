-- What refuses a pool after its record was replayed, by the meaning of what the disks held and hold.
use Rattle.std.proofs.Common.{◌≡◌, ◌≢◌, ◌⊎◌, false, if◌then◌else◌, Some, None, option_map, refl, sym, ap, ◌∙◌, inl, inr}
use Rattle.std.specs.Option.{option_map_or, option_and_then}
use Rattle.rack.specs.Seen.{Image, RackView, SameRack}
use Rattle.rack.specs.Joins.{stays_then}
use Rattle.rack.specs.Sequences.{OnlyReads}
use Rattle.pool_state.specs.declared.contents.State.{State}
use Rattle.pool_image.specs.Disks.{Disks, disks_of, identities_of, newest, seat_of}
use Rattle.pool_image.specs.Replay.{Standing, standing, standing_by, written}
use Rattle.pool_image.specs.Drives.{found_by, found}
use Rattle.pool_image.specs.Meaning.{no_pool, two_pools, has_other_pool, refused_by, refused_at, refusal_of}
use Rattle.pool_image.specs.Alike.{IsSameButGates}
use Rattle.pool_image.proofs.Identities.{newest_same, same_but_gates}
use Rattle.pool_scan.specs.Scanning.{AllTold, IsUnfaulted, now_in}
use Rattle.pool_scan.proofs.Meant.{newest_meant}
use Rattle.pool_rest.specs.declared.standing.FindFault.{FindFault}
use Rattle.pool_rest.specs.declared.standing.FindFault.TheVariants.{NoPool, TwoPools, Memory}
use Rattle.pool_rest.specs.Standing.{IsCause, IsMeant, since}
use Rattle.pool_rest.specs.Resting.{Rests}
use Rattle.pool_rest.proofs.Agreeing.{disks_same, told_later}
use Rattle.pool_rest.proofs.Meant.{cause_meant}

-- where no disk has a state once the record is written, the meaning has no pool
none_meant : (disks : Disks) (c e : Image) (before : Standing) → standing disks c ≡ Some before → has_other_pool disks before ≡ false
    → IsSameButGates disks e (written disks before c) → newest disks (identities_of disks e) ≡ None → refusal_of disks c ≡ Some no_pool
unfolding refusal_of found
none_meant disks c e before stands one same none =
    ap (λ o. option_map_or (refused_at disks c) o (Some no_pool)) stands
    ∙ ap (λ b. if b then Some two_pools else option_map_or refused_by (found disks c) (Some no_pool)) one
    ∙ ap (λ o. option_map_or refused_by (option_and_then (λ x. found_by disks x (written disks x c)) o) (Some no_pool)) stands
    ∙ ap (λ o. option_map_or refused_by (option_map (λ (s : State). record { disks = disks; before = before; contents = written disks before c; identities = identities_of disks (written disks before c); state = s; seats = seat_of s disks (identities_of disks (written disks before c)) }) o) (Some no_pool))
    (sym (newest_same disks (identities_of disks e) (identities_of disks (written disks before c)) same.identities) ∙ none)

pub meant_after : (a x b : RackView) (st : State) → OnlyReads a x → SameRack x b → AllTold a → IsUnfaulted a b
    → standing (disks_of a) (now_in a) ≡ Some (standing_by (disks_of a) (now_in a) st)
    → has_other_pool (disks_of a) (standing_by (disks_of a) (now_in a) st) ≡ false
    → Rests a b (standing_by (disks_of a) (now_in a) st)
    → (why : FindFault) → why ≢ Memory → IsCause (since a b) b why → IsMeant a why ⊎ ((why ≡ TwoPools) × IsMeant b why)
meant_after a x b st reads stays told free stands one rests NoPool found cause =
    inl (none_meant (disks_of a) (now_in a) (now_in b) (standing_by (disks_of a) (now_in a) st) stands one
    (same_but_gates (disks_of a) (now_in b) (written (disks_of a) (standing_by (disks_of a) (now_in a) st) (now_in a)) rests.contents
    (λ d there sector. elim (rests.gates d there sector) [
      | inl kept ↦ inl (kept ∙ sym (rests.no_gate d there sector))
      | inr shut ↦ inr shut.room
    ]))
    (ap (λ (dk : Disks). newest dk (identities_of dk (now_in b))) (sym (disks_same a b (stays_then reads.stays stays)))
    ∙ sym (newest_meant (since a b) b cause.0 cause.1 (told_later a b (stays_then reads.stays stays) told) free)
    ∙ cause.2 (told_later a b (stays_then reads.stays stays) told)))
meant_after a x b st reads stays told free stands one rests TwoPools found cause =
    inr (refl, cause_meant (since a b) b TwoPools cause (told_later a b (stays_then reads.stays stays) told) free)
meant_after a x b st reads stays told free stands one rests Memory found cause = absurd (found refl)
