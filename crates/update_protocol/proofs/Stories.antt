-- What holds after each recovery.
use Rattle.std.proofs.Common.{Bool, List, [], add-zero, append-nil, length, subst, sym, true, ℕ, ◌++◌, ◌<◌, ◌∷◌, ◌≡◌}
use Rattle.update_protocol.proofs.Invariant.{Grounded, Invariant}
use Rattle.update_protocol.proofs.Redone.{complete, gathered, redone_all, redone_gathered}
use Rattle.update_protocol.proofs.Runs.{always, base_kept, begins}
use Rattle.update_protocol.proofs.Seating.{ops_after, ordered_after}
use Rattle.update_protocol.proofs.Setting.{Setting}
use Rattle.update_protocol.specs.Epochs.{Begin, Epoch, Next, Redos, Story, kept_of}
use Rattle.update_protocol.specs.Events.{fresh}
use Rattle.update_protocol.specs.Lists.{IsIn, put}
use Rattle.update_protocol.specs.Recovery.{Depends, Gathered}
use Rattle.update_protocol.specs.Rows.{FitsTarget}
use Rattle.tree_shares.specs.Seats.{share_of}
use Rattle.update_protocol.specs.World.{Accepted, Follows, History, World, after_items, at, is_on, made}

module _ (σ : Setting) where
  all_redos : (w : World) (kept : ℕ → Bool) (rs : List (ℕ × List ℕ)) (disk last : ℕ → List ℕ) → Gathered σ.targets w.base w.since disk w.kept_mark w.kept_gone kept
      → Redos w disk rs last → Gathered σ.targets w.base w.since last w.kept_mark w.kept_gone kept
  all_redos w kept [] disk last g r = subst (λ d. Gathered σ.targets w.base w.since d w.kept_mark w.kept_gone kept) (sym r) g
  all_redos w kept (q ∷ rs) disk last g r =
      all_redos w kept rs (put disk q.0 (disk q.0 ++ q.1)) last (redone_gathered σ w.base w.since disk w.kept_mark w.kept_gone kept g q.0 q.1 r.0) r.1

  module _ (base : History) (ground : Grounded σ.targets base) (e : Epoch σ.targets base) where
    pub inv : Invariant σ.targets e.world
    inv = always σ e.events (fresh e.start base) e.world (begins σ e.start base ground) e.run

    pub same : e.world.base ≡ base
    same = base_kept σ e.events (fresh e.start base) e.world e.run

    last : Gathered σ.targets e.world.base e.world.since e.disks e.world.kept_mark e.world.kept_gone e.kept
    last = all_redos e.world e.kept e.redos e.world.disk e.disks (gathered σ e.world inv e.kept e.named) e.redone

    -- every kept item is committed on each of its targets, and no other is on any
    pub whole : (t n : ℕ) → n < length e.world.since → e.kept n ≡ true → is_on (at e.world.since n) t ≡ true → IsIn n (e.disks t)
    whole t n l k on = subst (λ xs. IsIn n xs) (append-nil (e.disks t))
        (redone_all σ e.world.base e.world.since e.disks e.world.kept_mark e.world.kept_gone e.kept last t [] (e.nothing_left t) n l k on)

    pub absent : (t n : ℕ) → IsIn n (e.disks t) → e.kept n ≡ true
    absent t n h = (last.named n (last.known t n h).0).1 (t, h)

    results : Follows σ.targets e.world.base (kept_of σ.targets base e) × ((t : ℕ) → t < σ.targets → made σ.targets e.world.since t (e.disks t) (share_of σ.targets e.world.base t) ≡ share_of σ.targets (after_items e.world.base (kept_of σ.targets base e)) t)
    results = complete σ e.world.base e.world.since e.disks e.world.kept_mark e.world.kept_gone e.kept last whole inv.follows

    pub legal : Follows σ.targets base (kept_of σ.targets base e)
    legal = subst (λ b. Follows σ.targets b (kept_of σ.targets base e)) same results.0

    pub shares : (t : ℕ) → t < σ.targets → made σ.targets e.world.since t (e.disks t) (share_of σ.targets base t) ≡ share_of σ.targets (after_items base (kept_of σ.targets base e)) t
    shares t lt = subst (λ b. made σ.targets e.world.since t (e.disks t) (share_of σ.targets b t) ≡ share_of σ.targets (after_items b (kept_of σ.targets base e)) t) same (results.1 t lt)

    -- a target whose log was emptied fits too: what is named is everywhere
    pub renewed : (t : ℕ) → FitsTarget e.world.since e.disks t (length (e.disks t)) []
    renewed t = record {
      distinct = tt;
      known = λ n h. absurd h;
      each = λ n h part. absurd (part (λ s on. whole s n (last.known t n h).0 (absent t n h) on));
      count = sym (add-zero (length (e.disks t)));
    }

    pub closed_kept : (n m : ℕ) → Depends σ.targets base e.world.since n m → e.kept m ≡ true → e.kept n ≡ true
    closed_kept = subst (λ b. (n m : ℕ) → Depends σ.targets b e.world.since n m → e.kept m ≡ true → e.kept n ≡ true) same last.closed

    pub whole_history : Follows σ.targets base e.world.since
    whole_history = subst (λ b. Follows σ.targets b e.world.since) same inv.follows

    pub ground_after : Grounded σ.targets (after_items base (kept_of σ.targets base e))
    ground_after = record { each = ops_after σ.targets base (kept_of σ.targets base e) ground.each legal; ordered = ordered_after σ.targets base (kept_of σ.targets base e) ground.ordered legal }

  -- each history of a story was accepted item by item
  pub data Grew : History → Type 0 where
    From_nothing : Grew []
    By_kept : {h : History} → Grew h → (xs : List Accepted) → Follows σ.targets h xs → Grew (after_items h xs)

  pub story_grounded : (h : History) → Story σ.targets h → Grounded σ.targets h
  story_grounded h Begin = record { each = tt; ordered = tt }
  story_grounded h (Next {h = g} s e) = ground_after g (story_grounded g s) e
