-- What a message implies, it implies for good.
use Rattle.out_update.specs.declared.result.UpdateResult.{UpdateResult}
use Rattle.out_update.specs.declared.update.Update.{Update}
use Rattle.std.proofs.Common.{List, Option, Some, le_trans, ℕ, ◌≡◌, ◌≤◌}
use Rattle.update_protocol.proofs.Invariant.{Says, Told}
use Rattle.update_protocol.proofs.Setting.{Setting}
use Rattle.update_protocol.specs.Lists.{IsIn}
use Rattle.update_protocol.specs.World.{Accepted, Attempt, Cancel, Execute, Held, History, Hold, Message, Release, Stable, Sync, Synced}

module _ (σ : Setting) where
  pub told_more : (base : History) (since : List Accepted) (disk disk' : ℕ → List ℕ) (t : ℕ) (q : List Update) (k : Option ℕ) (c : ℕ) (f : List UpdateResult)
      → ((s n : ℕ) → IsIn n (disk s) → IsIn n (disk' s)) → Told σ.targets base since disk t q k c f → Told σ.targets base since disk' t q k c f
  told_more base since disk disk' t q k c f more told = record {
    still = told.still;
    clocks = told.clocks;
    nobody_else = λ e g asks n l h q. more t n (told.nobody_else e g asks n l h q);
    last = told.last;
  }

  -- how the fields that messages speak of may change while since stays
  pub record Goes (disk disk' : ℕ → List ℕ) (holder holder' trying trying' : ℕ → Option Attempt) (turns turns' batches batches' kept kept' : ℕ → ℕ) : Type 0 where
    pub disks : (t n : ℕ) → IsIn n (disk t) → IsIn n (disk' t)
    pub turn : (m : ℕ) → turns m ≤ turns' m
    pub batch : (m : ℕ) → batches m ≤ batches' m
    pub marks : (m : ℕ) → kept m ≤ kept' m
    pub back : (a : Attempt) → a.turn ≤ turns a.who.master → trying' a.who.master ≡ Some a → trying a.who.master ≡ Some a
    pub holds : (a : Attempt) (t : ℕ) → a.turn ≤ turns a.who.master → trying' a.who.master ≡ Some a → holder t ≡ Some a → holder' t ≡ Some a

  pub says_more : (base : History) (since : List Accepted) (disk disk' : ℕ → List ℕ) (holder holder' trying trying' : ℕ → Option Attempt) (turns turns' batches batches' kept kept' : ℕ → ℕ)
      → Goes disk disk' holder holder' trying trying' turns turns' batches batches' kept kept'
      → (p : Message) → Says σ.targets base since disk holder trying turns batches kept p → Says σ.targets base since disk' holder' trying' turns' batches' kept' p
  says_more base since disk disk' holder holder' trying trying' turns turns' batches batches' kept kept' g (Hold a t q) s = (le_trans s.0 (g.turn a.who.master), s.1)
  says_more base since disk disk' holder holder' trying trying' turns turns' batches batches' kept kept' g (Held a t q k c f) s =
      (le_trans s.0 (g.turn a.who.master), s.1, λ is. let old = s.2 (g.back a s.0 is) in (g.holds a t s.0 is old.0, told_more base since disk disk' t q k c f g.disks old.1))
  says_more base since disk disk' holder holder' trying trying' turns turns' batches batches' kept kept' g (Sync a t k) s = le_trans s (g.turn a.who.master)
  says_more base since disk disk' holder holder' trying trying' turns turns' batches batches' kept kept' g (Synced a t) s =
      (le_trans s.0 (g.turn a.who.master), λ is. let old = s.1 (g.back a s.0 is) in (g.holds a t s.0 is old.0, λ n l h. g.disks t n (old.1 n l h)))
  says_more base since disk disk' holder holder' trying trying' turns turns' batches batches' kept kept' g (Execute n t) s = s
  says_more base since disk disk' holder holder' trying trying' turns turns' batches batches' kept kept' g (Release a t) s =
      (le_trans s.0 (g.turn a.who.master), (λ is. s.1 (g.back a s.0 is)), s.2)
  says_more base since disk disk' holder holder' trying trying' turns turns' batches batches' kept kept' g (Stable t m b) s =
      (le_trans s.0 (g.batch m), λ n l e o h. g.disks t n (s.1 n l e o h))
  says_more base since disk disk' holder holder' trying trying' turns turns' batches batches' kept kept' g (Cancel m b) s = le_trans s (g.marks m)
