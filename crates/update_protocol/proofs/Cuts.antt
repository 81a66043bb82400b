-- Cuts, and dependence between items by the objects that they look at and write.
use Rattle.fid_space.specs.declared.fid.Fid.{Fid}
use Rattle.std.specs.Prelude.{List, length, true, ℕ, ◌<◌, ◌≡◌, ◌⊎◌}
use Rattle.update_protocol.specs.Lists.{IsIn}
use Rattle.update_protocol.specs.World.{Pairs, World, at, is_on, saw_of, wrote_of}

-- a cut names, besides what is committed, a front of what each target executed
pub record Cut (w : World) : Type 0 where
  pub taken : ℕ → List ℕ
  pub from_done : (t n : ℕ) → IsIn n (taken t) → (n < length w.since) × (is_on (at w.since n) t ≡ true)
  pub committed : (t n : ℕ) → IsIn n (w.disk t) → IsIn n (taken t)
  pub front : Pairs (λ n m a b. (t : ℕ) → IsIn m (taken t) → is_on a t ≡ true → IsIn n (taken t)) w.since

abbrev pub InCut : (w : World) → Cut w → ℕ → Type 0
InCut w c n = (t : ℕ) × IsIn n (c.taken t)

-- m looked at, or wrote, an object that n wrote; or there are such items between
pub data Leads (w : World) : ℕ → ℕ → Type 0 where
  Once : {n m : ℕ} → n < m → m < length w.since → (f : Fid) → wrote_of (at w.since n) f ≡ true → (saw_of (at w.since m) f ≡ true) ⊎ (wrote_of (at w.since m) f ≡ true) → Leads w n m
  Then : {n g m : ℕ} → Leads w n g → Leads w g m → Leads w n m
