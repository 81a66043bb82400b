-- What an attempt heard is true of the history as it is now, as long as it is current.
use Rattle.object_store.specs.Reads.{reads}
use Rattle.out_update.specs.declared.result.UpdateResult.{UpdateResult}
use Rattle.out_update.specs.declared.update.Update.{Update}
use Rattle.std.proofs.Common.{List, Some, [], ap, inl, inr, refl, subst, sym, ℕ, ⊎_elim, ◌++◌, ◌∙◌, ◌∷◌, ◌≡◌, ◌⊎◌}
use Rattle.std.specs.Prelude.{map, zip}
use Rattle.tree_shares.specs.Shares.{share}
use Rattle.update_protocol.proofs.Invariant.{Invariant, Told}
use Rattle.update_protocol.proofs.Setting.{Setting}
use Rattle.update_protocol.specs.Events.{AreHeard}
use Rattle.update_protocol.specs.Facts.{AreTrue, Fact, laid, place}
use Rattle.update_protocol.specs.Lists.{IsIn}
use Rattle.update_protocol.specs.World.{Answer, Attempt, Held, World, after_items, facts_of}

pub mem_join : {A : Type 0} (xs ys : List A) (x : A) → IsIn x (xs ++ ys) → IsIn x xs ⊎ IsIn x ys
mem_join [] ys x h = inr h
mem_join (z ∷ xs) ys x (inl e) = inl (inl e)
mem_join (z ∷ xs) ys x (inr h) = ⊎_elim (λ a. inl (inr a)) (λ b. inr b) (mem_join xs ys x h)

pub mem_zip : (q : List Update) (rs : List UpdateResult) (u : Update) (r : UpdateResult) → IsIn (u, r) (zip q rs) → IsIn u q
mem_zip [] rs u r h = absurd h
mem_zip (v ∷ q) [] u r h = absurd h
mem_zip (v ∷ q) (s ∷ rs) u r (inl e) = inl (ap (λ (p : Fact). p.0) e)
mem_zip (v ∷ q) (s ∷ rs) u r (inr h) = inr (mem_zip q rs u r h)

pub zip_true : (f : Update → UpdateResult) (q : List Update) (u : Update) (r : UpdateResult) → IsIn (u, r) (zip q (map f q)) → r ≡ f u
zip_true f [] u r h = absurd h
zip_true f (v ∷ q) u r (inl e) = ap (λ (p : Fact). p.1) e ∙ ap f (sym (ap (λ (p : Fact). p.0) e))
zip_true f (v ∷ q) u r (inr h) = zip_true f q u r h

module _ (σ : Setting) (w : World) (i : Invariant σ.targets w) (m : ℕ) (x : Attempt) (current : w.trying m ≡ Some x) (answers : List Answer) (heard : AreHeard σ.targets w.pool x answers) where
  told : (a : Answer) → IsIn a answers → Told σ.targets w.base w.since w.disk a.at a.question a.writer a.clock a.results
  told a h = ((i.messages (Held x a.at a.question a.writer a.clock a.results) (heard.came a h)).2 (subst (λ k. w.trying k ≡ Some x) (sym (i.holding.current m x current).is_home) current)).1

  true_fact : (a : Answer) → IsIn a answers → (u : Update) (r : UpdateResult) → IsIn (u, r) (zip a.question a.results) → r ≡ reads (share σ.targets (laid σ.targets (after_items w.base w.since)) (place σ.targets u.fid)) u
  true_fact a h u r g =
      subst (λ t. r ≡ reads (share σ.targets (laid σ.targets (after_items w.base w.since)) t) u) (heard.placed a h u (mem_zip a.question a.results u r g))
      (zip_true (reads (share σ.targets (laid σ.targets (after_items w.base w.since)) a.at)) a.question u r (subst (λ rs. IsIn (u, r) (zip a.question rs)) (told a h).still g))

  facts_true : (some : List Answer) → ((a : Answer) → IsIn a some → IsIn a answers) → AreTrue σ.targets (laid σ.targets (after_items w.base w.since)) (facts_of some)
  facts_true [] sub u r h = absurd h
  facts_true (a ∷ more) sub u r h = ⊎_elim
      (λ (g : IsIn (u, r) (zip a.question a.results)). true_fact a (sub a (inl refl)) u r g)
      (λ (g : IsIn (u, r) (facts_of more)). facts_true more (λ b k. sub b (inr k)) u r g)
      (mem_join (zip a.question a.results) (facts_of more) (u, r) h)

  pub all_true : AreTrue σ.targets (laid σ.targets (after_items w.base w.since)) (facts_of answers)
  all_true = facts_true answers (λ a h. h)
