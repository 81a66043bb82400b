-- Safety goes along chains, and every cut is closed.
use Rattle.std.proofs.Common.{arith, inl, inr, length, ℕ, ⊎_elim, ◌<◌}
use Rattle.update_protocol.proofs.Cuts.{Cut, InCut, Leads, Once, Then}
use Rattle.update_protocol.proofs.Invariant.{Durable, Safe}
use Rattle.update_protocol.proofs.Setting.{Setting}
use Rattle.update_protocol.specs.World.{Accepted, Covers, Named, World, at}

module _ (σ : Setting) where
  -- n is safe for g, and g for m
  pub chain : (w : World) (d : Durable σ.targets w.since w.disk w.batches w.kept_mark w.kept_gone) (n g : ℕ) (x : Accepted) → n < g → g < length w.since
      → Safe w.disk n (at w.since n) (at w.since g) → Safe w.disk g (at w.since g) x → Safe w.disk n (at w.since n) x
  chain w d n g x o l (inl named) q = inl named
  chain w d n g x o l (inr covers) (inr more) = inr (λ t h. covers t (more t h))
  chain w d n g x o l (inr covers) (inl named) = inl (named.0, d.prefix n g o l named.0 named.1 (covers named.0 (d.known named.0 g named.1).1))

  leads_before : (w : World) (n m : ℕ) → Leads w n m → (n < m) × (m < length w.since)
  leads_before w n m (Once b l f x y) = (b, l)
  leads_before w n m (Then {g = g} p q) = let a = leads_before w n g p in let b = leads_before w g m q in (omega (arith, a.0, b.0), b.1)

  pub leads_safe : (w : World) (d : Durable σ.targets w.since w.disk w.batches w.kept_mark w.kept_gone) (n m : ℕ) → Leads w n m → Safe w.disk n (at w.since n) (at w.since m)
  leads_safe w d n m (Once b l f x y) = d.shared n m b l f x y
  leads_safe w d n m (Then {g = g} p q) =
      let a = leads_before w n g p in
      chain w d n g (at w.since m) a.0 a.1 (leads_safe w d n g p) (leads_safe w d g m q)

  pub closed : (w : World) (d : Durable σ.targets w.since w.disk w.batches w.kept_mark w.kept_gone) (c : Cut w) (n m : ℕ) → Leads w n m → InCut w c m → InCut w c n
  closed w d c n m leads cut =
      let before = leads_before w n m leads in
      ⊎_elim (λ (named : Named w.disk n). (named.0, c.committed named.0 n named.1))
      (λ (covers : Covers (at w.since n) (at w.since m)). (cut.0, c.front n m before.0 before.1 cut.0 cut.1 (covers cut.0 (c.from_done cut.0 m cut.1).1)))
      (leads_safe w d n m leads)
