-- What a disk holds, and that it opens as it did.
use Rattle.std.proofs.Common.{◌≡◌, ◌⊎◌, inl, inr, ℕ, List, Some, Ok, ap, subst, ◌∙◌}
use Rattle.outside.specs.Disk.{Shown, IsImage}
use Rattle.outside.proofs.Parts.{image_only}
use Rattle.target_disk.specs.Tables.{opened}
use Rattle.target_disk.specs.Reads.{Keeps}
use Rattle.target_disk.specs.Open.{Reopens}
use Rattle.target_state.specs.State.{TargetState}
use Rattle.target_disk.specs.Store.{following}
use Rattle.target_state.specs.Image.{state_text}
use Rattle.target_state.specs.Opening.{state_in, reopened}
use Rattle.target_node.specs.Node.{saved}
use Rattle.target_node.specs.Opening.{held, held_of}

-- where nothing has changed, it opens as it did
pub keeps_reopens : (old new : Shown) → Keeps old new → Reopens old new
keeps_reopens old new k = record {
  stays = k.stays;
  later = k.later;
  same = λ honest clean image here. ap opened (image_only old.content image (subst (λ l. IsImage l image) (k.settled honest ∙ clean) here));
}

-- ---- what was committed

pub state_held : (image : List ℕ) (g : ℕ) (s : TargetState) → opened image ≡ Some (saved g s) → state_in s.targets s.index (state_text s) ≡ Ok (reopened s) → held s.targets s.index image ≡ Some (Ok (reopened s))
state_held image g s found back = ap (held_of s.targets s.index) found ∙ ap Some back

pub either_held : (image : List ℕ) (g : ℕ) (old new : TargetState) → (opened image ≡ Some (saved g old)) ⊎ (opened image ≡ Some (saved (following g) new))
    → state_in old.targets old.index (state_text old) ≡ Ok (reopened old) → state_in new.targets new.index (state_text new) ≡ Ok (reopened new)
    → (held old.targets old.index image ≡ Some (Ok (reopened old))) ⊎ (held new.targets new.index image ≡ Some (Ok (reopened new)))
either_held image g old new (inl found) a b = inl (state_held image g old found a)
either_held image g old new (inr found) a b = inr (state_held image (following g) new found b)
