-- A front of what is pending at each target is a cut.
use Rattle.std.proofs.Common.{List, [], arith, false, inl, inr, subst, suc, sym, true, zero, ℕ, ⊎_elim, ◌++◌, ◌<◌, ◌∷◌, ◌≡◌}
use Rattle.std.specs.Prelude.{take}
use Rattle.update_protocol.proofs.Basics.{by_bool}
use Rattle.update_protocol.proofs.Cuts.{Cut}
use Rattle.update_protocol.proofs.Invariant.{Invariant}
use Rattle.update_protocol.proofs.Redone.{mem_append, mem_back, mem_front}
use Rattle.update_protocol.proofs.Setting.{Setting}
use Rattle.update_protocol.proofs.Showing.{pends_behind}
use Rattle.update_protocol.specs.Lists.{IsIn, Rising}
use Rattle.update_protocol.specs.Rows.{cut_at, pending}
use Rattle.update_protocol.specs.World.{World}

pub in_take : (k : ℕ) (xs : List ℕ) (n : ℕ) → IsIn n (take k xs) → IsIn n xs
in_take zero xs n h = absurd h
in_take (suc k) [] n h = absurd h
in_take (suc k) (x ∷ xs) n (inl e) = inl e
in_take (suc k) (x ∷ xs) n (inr h) = inr (in_take k xs n h)

-- of a rising list a front has what stands before one of its members
pub take_below : (k : ℕ) (xs : List ℕ) → Rising xs → (n m : ℕ) → IsIn m (take k xs) → IsIn n xs → n < m → IsIn n (take k xs)
take_below zero xs r n m h g lt = absurd h
take_below (suc k) [] r n m h g lt = absurd h
take_below (suc k) (x ∷ xs) r n m h (inl e) lt = inl e
take_below (suc k) (x ∷ xs) r n m (inl e) (inr g) lt = absurd (let a = r.0 n g in omega (arith, a, e, lt))
take_below (suc k) (x ∷ xs) r n m (inr h) (inr g) lt = inr (take_below k xs r.1 n m h g lt)

pub rising_back : (xs ys : List ℕ) → Rising (xs ++ ys) → Rising ys
rising_back [] ys r = r
rising_back (x ∷ xs) ys r = rising_back xs ys r.1

module _ (σ : Setting) where
  unfoldable pub cut_of : (w : World) → Invariant σ.targets w → (ℕ → ℕ) → Cut w
  cut_of w i cut = record {
    taken = cut_at w cut;
    from_done = λ t n h. i.executed.known_done t n (in_done t n h);
    committed = λ t n h. mem_front (w.disk t) (take (cut t) (pending w t)) n h;
    front = λ n m o l t h on. ⊎_elim
        (λ (g : IsIn m (w.disk t)). mem_front (w.disk t) (take (cut t) (pending w t)) n (i.durable.prefix n m o l t g on))
        (λ (g : IsIn m (take (cut t) (pending w t))).
        let here : IsIn m (w.done t) = in_done t m h in
        let both : IsIn n (w.disk t ++ pending w t) = subst (λ l. IsIn n l) (pends_behind σ w i t) (⊎_elim
        (λ (u : w.up t ≡ true). i.executed.one_waits n m o l t u on (i.executed.known_done t m here).1)
        (λ (d : w.up t ≡ false). i.executed.has t n (i.durable.prefix n m o l t (i.executed.down_done t m d here) on)) (by_bool (w.up t))) in
        ⊎_elim (λ (a : IsIn n (w.disk t)). mem_front (w.disk t) (take (cut t) (pending w t)) n a)
        (λ (b : IsIn n (pending w t)). mem_back (w.disk t) (take (cut t) (pending w t)) n (take_below (cut t) (pending w t) (rising_back (w.disk t) (pending w t) (subst Rising (pends_behind σ w i t) (i.executed.in_order t))) n m g b o))
        (mem_append (w.disk t) (pending w t) n both))
        (mem_append (w.disk t) (take (cut t) (pending w t)) m h);
  }
    where
      in_done : (t n : ℕ) → IsIn n (cut_at w cut t) → IsIn n (w.done t)
      in_done t n h = subst (λ l. IsIn n l) (sym (pends_behind σ w i t)) (⊎_elim (λ (a : IsIn n (w.disk t)). mem_front (w.disk t) (pending w t) n a)
          (λ (b : IsIn n (take (cut t) (pending w t))). mem_back (w.disk t) (pending w t) n (in_take (cut t) (pending w t) n b)) (mem_append (w.disk t) (take (cut t) (pending w t)) n h))
