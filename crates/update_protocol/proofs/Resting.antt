-- What an accepted operation rests on is safe.
use Rattle.fid_space.specs.declared.fid.Fid.{Fid}
use Rattle.std.proofs.Common.{[], arith, false, inl, length, subst, sym, true, true≢false, ℕ, ⊎_elim, ◌++◌, ◌<◌, ◌∙◌, ◌∷◌, ◌≡◌, ◌⊎◌}
use Rattle.update_protocol.specs.Epochs.{Reached}
use Rattle.update_protocol.specs.Events.{Accept, May, happens}
use Rattle.update_protocol.specs.World.{Accepted, Covers, History, Named, World, at, is_on, saw_of, wrote_of}
use Rattle.update_protocol.proofs.Basics.{at-new, at-old, length-push}
use Rattle.update_protocol.proofs.Invariant.{Invariant, Safe}
use Rattle.update_protocol.proofs.Runs.{keeps}
use Rattle.update_protocol.proofs.Saying.{inv}
use Rattle.update_protocol.proofs.Setting.{Setting}

module _ (σ : Setting) (h : History) (w : World) (r : Reached σ.targets h w) (m : ℕ) (x : Accepted) (may : May σ.targets w (Accept m x)) (n : ℕ) (l : n < length w.since) (f : Fid) (wrote : wrote_of (at w.since n) f ≡ true) where
  after : Invariant σ.targets (happens w (Accept m x))
  after = keeps σ w (inv σ h w r) (Accept m x) may

  pub rests_safe : (saw_of x f ≡ true) ⊎ (wrote_of x f ≡ true) → Safe w.disk n (at w.since n) x
  rests_safe =
      let inside : length w.since < length (w.since ++ x ∷ []) = let e = length-push w.since x in omega (arith, e) in
      subst (λ (y : Accepted). wrote_of y f ≡ true → (saw_of x f ≡ true) ⊎ (wrote_of x f ≡ true) → Safe w.disk n y x) (at-old w.since x n l)
      (subst (λ (b : Accepted). wrote_of (at (w.since ++ x ∷ []) n) f ≡ true → (saw_of b f ≡ true) ⊎ (wrote_of b f ≡ true) → Safe w.disk n (at (w.since ++ x ∷ []) n) b) (at-new w.since x)
      (after.durable.shared n (length w.since) l inside f)) wrote

  -- so it isn't accepted where the writer is nowhere committed and lacks one of its targets
  pub waits : saw_of x f ≡ true → (Named w.disk n → ⊥) → (lacks : ℕ) → is_on x lacks ≡ true → is_on (at w.since n) lacks ≡ false → ⊥
  waits saw unnamed lacks on off = ⊎_elim (λ (named : Named w.disk n). unnamed named) (λ (covers : Covers (at w.since n) x). true≢false (sym (covers lacks on) ∙ off)) (rests_safe (inl saw))
