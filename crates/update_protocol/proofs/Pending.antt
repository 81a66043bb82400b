-- What an event makes of what is pending.
use Rattle.std.proofs.Common.{◌≡◌, ℕ, List, [], ◌∷◌, ◌++◌, length, if◌then◌else◌, refl, sym, ap, ◌∙◌, subst, inl, inr}
use Rattle.std.proofs.lemmas.Bool.Decides.{eqb_tells}
use Rattle.std.specs.Prelude.{drop}
use Rattle.update_protocol.specs.Lists.{put}
use Rattle.update_protocol.specs.World.{Accepted, World}
use Rattle.update_protocol.specs.Events.{Accept, Execute_comes, Commit, Stop, Tear, Adopt, happens}
use Rattle.update_protocol.specs.Rows.{pending}

-- two functions that are changed at one point
both : {A B : Type 0} (P : A → B → Type 0) (f : ℕ → A) (g : ℕ → B) (t : ℕ) (v : A) (u : B) (s : ℕ) → (s ≡ t → P v u) → P (f s) (g s) → P (put f t v s) (put g t u s)
both P f g t v u s here there =
    elim (eqb_tells s t) [ inl w ↦ subst (λ b. P (if b then v else f s) (if b then u else g s)) (sym w.0) (here w.1) | inr w ↦ subst (λ b. P (if b then v else f s) (if b then u else g s)) (sym w.0) there ]

drop_all : (xs : List ℕ) → drop (length xs) xs ≡ []
drop_all [] = refl
drop_all (x ∷ xs) = drop_all xs

drop_front : (xs ys : List ℕ) → drop (length xs) (xs ++ ys) ≡ ys
drop_front [] ys = refl
drop_front (x ∷ xs) ys = drop_front xs ys

joined : (xs ys : List ℕ) (n : ℕ) → (xs ++ ys) ++ n ∷ [] ≡ xs ++ (ys ++ n ∷ [])
joined [] ys n = refl
joined (x ∷ xs) ys n = ap (λ l. x ∷ l) (joined xs ys n)

module _ (w : World) where
  pub commit_pending : (t s : ℕ) → pending (happens w (Commit t)) s ≡ put (pending w) t [] s
  commit_pending t s =
      both (λ (disk rest : List ℕ). drop (length disk) (w.done s) ≡ rest) w.disk (pending w) t (w.done t) [] s
      (λ e. subst (λ u. drop (length (w.done u)) (w.done s) ≡ []) e (drop_all (w.done s))) refl

  -- where a target executes one more, behind what it has
  more_pending : (t n s : ℕ) → w.done t ≡ w.disk t ++ pending w t → drop (length (w.disk s)) (put w.done t (w.done t ++ n ∷ []) s) ≡ put (pending w) t (pending w t ++ n ∷ []) s
  more_pending t n s behind =
      both (λ (done rest : List ℕ). drop (length (w.disk s)) done ≡ rest) w.done (pending w) t (w.done t ++ n ∷ []) (pending w t ++ n ∷ []) s
      (λ e. subst (λ u. drop (length (w.disk u)) (w.done t ++ n ∷ []) ≡ pending w t ++ n ∷ []) (sym e)
      (ap (λ l. drop (length (w.disk t)) (l ++ n ∷ [])) behind ∙ ap (drop (length (w.disk t))) (joined (w.disk t) (pending w t) n) ∙ drop_front (w.disk t) (pending w t ++ n ∷ []))) refl

  pub execute_pending : (n t s : ℕ) → w.done t ≡ w.disk t ++ pending w t → pending (happens w (Execute_comes n t)) s ≡ put (pending w) t (pending w t ++ n ∷ []) s
  execute_pending n t s behind = more_pending t n s behind

  pub accept_pending : (m : ℕ) (x : Accepted) (s : ℕ) → w.done m ≡ w.disk m ++ pending w m
      → pending (happens w (Accept m x)) s ≡ put (pending w) m (pending w m ++ length w.since ∷ []) s
  accept_pending m x s behind = more_pending m (length w.since) s behind

  stopped_pending : (t s : ℕ) → drop (length (w.disk s)) (put w.done t (w.disk t) s) ≡ put (pending w) t [] s
  stopped_pending t s =
      both (λ (done rest : List ℕ). drop (length (w.disk s)) done ≡ rest) w.done (pending w) t (w.disk t) [] s
      (λ e. subst (λ u. drop (length (w.disk u)) (w.disk t) ≡ []) (sym e) (drop_all (w.disk t))) refl

  pub stop_pending : (t s : ℕ) → pending (happens w (Stop t)) s ≡ put (pending w) t [] s
  stop_pending t s = stopped_pending t s

  pub tear_pending : (t s : ℕ) → pending (happens w (Tear t)) s ≡ put (pending w) t [] s
  tear_pending t s = stopped_pending t s

  pub adopt_pending : (t s : ℕ) → pending (happens w (Adopt t)) s ≡ put (pending w) t [] s
  adopt_pending t s =
      elim (eqb_tells s t) [
        | inl q ↦ subst (λ b. drop (length (if b then w.torn t else w.disk s)) (if b then w.torn t else w.done s) ≡ (if b then [] else pending w s)) (sym q.0) (drop_all (w.torn t))
        | inr q ↦ subst (λ b. drop (length (if b then w.torn t else w.disk s)) (if b then w.torn t else w.done s) ≡ (if b then [] else pending w s)) (sym q.0) refl
      ]
