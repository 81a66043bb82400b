-- What a message must bring along for what is known of syncs.
use Rattle.out_update.specs.declared.result.UpdateResult.{UpdateResult}
use Rattle.out_update.specs.declared.update.Update.{Update}
use Rattle.std.proofs.Common.{Bool, List, Option, Some, false, inl, inr, le_trans, refl, subst, sym, true, ℕ, ⊎_elim, ◌∷◌, ◌≡◌, ◌≢◌, ◌≤◌, ◌⊎◌}
use Rattle.update_protocol.proofs.Invariant.{Syncing}
use Rattle.update_protocol.proofs.Setting.{Setting}
use Rattle.update_protocol.specs.Events.{Backed}
use Rattle.update_protocol.specs.Lists.{IsIn}
use Rattle.update_protocol.specs.World.{Accepted, Attempt, Cancel, Execute, Held, Hold, Message, Release, Stable, Sync, Synced}

module _ (σ : Setting) where
  pub backed_more : (since : List Accepted) (pool : List Message) (p : Message) (a : Attempt) (t k : ℕ) → Backed σ.targets since pool a t k → Backed σ.targets since (p ∷ pool) a t k
  backed_more since pool p a t k b = record {
    is_op = b.is_op;
    answers = b.answers;
    heard = λ c h. inr (b.heard c h);
    placed = b.placed;
    batch = b.batch;
    decision = b.decision;
    decided = b.decided;
    answer = b.answer;
    answered = b.answered;
    at_t = b.at_t;
    writer = b.writer;
    object = b.object;
    asks = b.asks;
    inside = b.inside;
    lacks = b.lacks;
    takes_part = b.takes_part;
    uncovered = b.uncovered;
  }

  -- of a new message
  abbrev pub Brings : List Accepted → List Message → (ℕ → List ℕ) → (ℕ → List ℕ) → (ℕ → Option Attempt) → (ℕ → Option Attempt) → Message → Type 0
  Brings since pool done disk trying holder (Hold a t q) = Unit
  Brings since pool done disk trying holder (Held a t q k c f) = (j : ℕ) → k ≡ Some j → IsIn j (disk t) → ⊥
  Brings since pool done disk trying holder (Sync a t k) = (trying a.who.master ≡ Some a) × Backed σ.targets since pool a t k
  Brings since pool done disk trying holder (Synced a t) = (holder t ≡ Some a) × ((n : ℕ) → IsIn n (done t) → IsIn n (disk t))
  Brings since pool done disk trying holder (Execute n t) = Unit
  Brings since pool done disk trying holder (Release a t) = Unit
  Brings since pool done disk trying holder (Stable t m b) = Unit
  Brings since pool done disk trying holder (Cancel m b) = Unit

  pub syncing_push : (since : List Accepted) (pool : List Message) (up : ℕ → Bool) (done disk : ℕ → List ℕ) (trying holder : ℕ → Option Attempt) (ended : ℕ → ℕ → ℕ) (serving : Bool) (p : Message)
      → Syncing σ.targets since pool up done disk trying holder ended serving → Brings since pool done disk trying holder p → Syncing σ.targets since (p ∷ pool) up done disk trying holder ended serving
  syncing_push since pool up done disk trying holder ended serving p s new = record {
    backed = λ a t k m. backed_more since pool p a t k (⊎_elim (λ (e : Sync a t k ≡ p). (subst (Brings since pool done disk trying holder) (sym e) new).1) (λ (h : IsIn (Sync a t k) pool). s.backed a t k h) m);
    awaited = λ a t k m on. ⊎_elim (λ (e : Sync a t k ≡ p). inl (subst (Brings since pool done disk trying holder) (sym e) new).0)
        (λ (h : IsIn (Sync a t k) pool). ⊎_elim (λ (c : trying a.who.master ≡ Some a). inl c) (λ (d : (up t ≡ false) ⊎ IsIn (Synced a t) pool). inr (⊎_elim (λ u. inl u) (λ g. inr (inr g)) d)) (s.awaited a t k h on)) m;
    synced = λ a t m u. ⊎_elim (λ (e : Synced a t ≡ p). inl (subst (Brings since pool done disk trying holder) (sym e) new)) (λ (h : IsIn (Synced a t) pool). s.synced a t h u) m;
    whole = λ a t q k c f m is u h. ⊎_elim (λ (e : Held a t q (Some k) c f ≡ p). absurd ((subst (Brings since pool done disk trying holder) (sym e) new) k refl h)) (λ (g : IsIn (Held a t q (Some k) c f) pool). s.whole a t q k c f g is u h) m;
  }

  -- the other fields change so that what is known stays
  pub record Keeps (up up' : ℕ → Bool) (done done' disk disk' : ℕ → List ℕ) (trying trying' holder holder' : ℕ → Option Attempt) (ended ended' : ℕ → ℕ → ℕ) (serving serving' : Bool) (pool : List Message) : Type 0 where
    pub downs : (t : ℕ) → up t ≡ false → up' t ≡ false
    pub ups : (t : ℕ) → up' t ≡ true → up t ≡ true
    pub serves : serving' ≡ true → serving ≡ true
    pub goes : (a : Attempt) (t k : ℕ) → IsIn (Sync a t k) pool → serving' ≡ true → trying a.who.master ≡ Some a → (trying' a.who.master ≡ Some a) ⊎ ((up' t ≡ false) ⊎ IsIn (Synced a t) pool)
    pub holds : (a : Attempt) (t : ℕ) → up' t ≡ true → holder t ≡ Some a → ((n : ℕ) → IsIn n (done t) → IsIn n (disk t)) → ((holder' t ≡ Some a) × ((n : ℕ) → IsIn n (done' t) → IsIn n (disk' t))) ⊎ ((holder' t ≢ Some a) × (a.turn ≤ ended' t a.who.master))
    pub never : (a : Attempt) (t : ℕ) → IsIn (Synced a t) pool → up' t ≡ true → holder t ≢ Some a → a.turn ≤ ended t a.who.master → holder' t ≢ Some a
    pub ends : (t m : ℕ) → ended t m ≤ ended' t m
    pub stays : (a : Attempt) (t : ℕ) (q : List Update) (k c : ℕ) (f : List UpdateResult) → IsIn (Held a t q (Some k) c f) pool → trying' a.who.master ≡ Some a → up' t ≡ true → IsIn k (disk' t)
        → (IsIn k (disk t) → (n : ℕ) → IsIn n (done t) → IsIn n (disk t)) → (n : ℕ) → IsIn n (done' t) → IsIn n (disk' t)
    pub back : (a : Attempt) (t : ℕ) (q : List Update) (k c : ℕ) (f : List UpdateResult) → IsIn (Held a t q (Some k) c f) pool → trying' a.who.master ≡ Some a → trying a.who.master ≡ Some a

  pub syncing_more : (since : List Accepted) (pool : List Message) (up up' : ℕ → Bool) (done done' disk disk' : ℕ → List ℕ) (trying trying' holder holder' : ℕ → Option Attempt) (ended ended' : ℕ → ℕ → ℕ) (serving serving' : Bool)
      → Keeps up up' done done' disk disk' trying trying' holder holder' ended ended' serving serving' pool
      → Syncing σ.targets since pool up done disk trying holder ended serving → Syncing σ.targets since pool up' done' disk' trying' holder' ended' serving'
  syncing_more since pool up up' done done' disk disk' trying trying' holder holder' ended ended' serving serving' g s = record {
    backed = s.backed;
    awaited = λ a t k m on. ⊎_elim (λ (c : trying a.who.master ≡ Some a). g.goes a t k m on c)
        (λ (d : (up t ≡ false) ⊎ IsIn (Synced a t) pool). inr (⊎_elim (λ u. inl (g.downs t u)) (λ h. inr h) d)) (s.awaited a t k m (g.serves on));
    synced = λ a t m u. ⊎_elim (λ (h : (holder t ≡ Some a) × ((n : ℕ) → IsIn n (done t) → IsIn n (disk t))). g.holds a t u h.0 h.1) (λ (e : (holder t ≢ Some a) × (a.turn ≤ ended t a.who.master)). inr (g.never a t m u e.0 e.1, le_trans e.1 (g.ends t a.who.master))) (s.synced a t m (g.ups t u));
    whole = λ a t q k c f m is u h. g.stays a t q k c f m is u h (λ old. s.whole a t q k c f m (g.back a t q k c f m is) (g.ups t u) old);
  }
