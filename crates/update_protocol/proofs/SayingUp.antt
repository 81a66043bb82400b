-- What a restart says: of two images that the disk may have, the one that it has.
use Rattle.std.proofs.Common.{◌≡◌, inl, ⊎_elim, ℕ, true, false, ◌||◌, ◌++◌, ◌+◌, List, [], ◌∷◌, length, refl, sym, ap, ◌∙◌, subst}
use Rattle.tree_model.specs.declared.op.Request.{Request}
use Rattle.update_protocol.specs.Epochs.{Reached}
use Rattle.update_protocol.specs.Events.{Adopt, happens}
use Rattle.update_protocol.specs.Lists.{IsIn, Rising, put}
use Rattle.update_protocol.specs.Machine.{Line, Opened, Says, Up}
use Rattle.update_protocol.specs.Parts.{IsSent, entries_of}
use Rattle.update_protocol.specs.Rows.{has, live, pending}
use Rattle.update_protocol.specs.States.{Spoken, numbers_at, state_of, state_with}
use Rattle.update_protocol.specs.World.{History, World}
use Rattle.update_protocol.proofs.Basics.{by_bool}
use Rattle.update_protocol.proofs.Fitting.{either_way, left_or, put_self, right_or, same_tests, up_says}
use Rattle.update_protocol.proofs.Pending.{adopt_pending}
use Rattle.update_protocol.proofs.Redone.{mem_back}
use Rattle.update_protocol.proofs.Saying.{SetsOfParts, far, inv}
use Rattle.update_protocol.proofs.Setting.{Setting}
use Rattle.update_protocol.proofs.Showing.{cancelled_full, has_mem, has_not, in_live, live_in, mem_has, new_fits, old_fits, pends_behind, rest_apart}

-- what is live of an image is in it
pub old_names : (disk gone : List ℕ) (n : ℕ) → (has n disk || has n (live disk gone)) ≡ has n disk
old_names disk gone n = same_tests (has n disk || has n (live disk gone)) (has n disk)
    (λ e. ⊎_elim (λ here. here) (λ alive. mem_has n disk (live_in disk gone n (has_mem n (live disk gone) alive))) (either_way (has n disk) (has n (live disk gone)) e))
    (λ e. left_or (has n disk) (has n (live disk gone)) e)

-- and where what is cancelled was named, both together are the image
pub new_names : (disk image gone : List ℕ) → ((n : ℕ) → IsIn n disk → IsIn n image) → ((n : ℕ) → IsIn n image → IsIn n gone → IsIn n disk) → (n : ℕ) → (has n disk || has n (live image gone)) ≡ has n image
new_names disk image gone more full n = same_tests (has n disk || has n (live image gone)) (has n image)
    (λ e. ⊎_elim (λ here. mem_has n image (more n (has_mem n disk here))) (λ alive. mem_has n image (live_in image gone n (has_mem n (live image gone) alive))) (either_way (has n disk) (has n (live image gone)) e))
    (λ e. ⊎_elim
    (λ (out : has n gone ≡ true). left_or (has n disk) (has n (live image gone)) (mem_has n disk (full n (has_mem n image e) (has_mem n gone out))))
    (λ (stays : has n gone ≡ false). right_or (has n disk) (has n (live image gone)) (mem_has n (live image gone) (in_live image gone n (has_mem n image e) (has_not n gone stays))))
    (by_bool (has n gone)))

pub nothing_in : (xs : List ℕ) → ((n : ℕ) → IsIn n xs → ⊥) → xs ≡ []
nothing_in [] none = refl
nothing_in (x ∷ xs) none = absurd (none x (inl refl))

module _ (σ : Setting) (h : History) (w : World) (r : Reached σ.targets h w) (sent : ℕ → Request) (known : IsSent sent (h ++ entries_of w.since)) (o : Spoken) (sets : SetsOfParts) (t : ℕ) (others : List Line) where
  abbrev opened : Spoken
  opened = record o { standing = put o.standing t Opened }

  -- what is down has nothing that it hasn't committed
  none_pends : w.up t ≡ false → pending w t ≡ []
  none_pends down = nothing_in (pending w t) (λ n m.
      let i = inv σ h w r in
      let behind : w.done t ≡ w.disk t ++ pending w t = pends_behind σ w i t in
      rest_apart (w.disk t) (pending w t) (subst Rising behind (i.executed.in_order t)) n m
      (i.executed.down_done t n down (subst (λ l. IsIn n l) (sym behind) (mem_back (w.disk t) (pending w t) n m))))

  pub kept_image : Says (state_of σ.targets o w) (Up t (o.start t + length (w.disk t)) (numbers_at w.since (live (w.disk t) (w.kept_gone t)))) others (state_of σ.targets opened w)
  kept_image =
      let says = up_says σ.targets sets o w.base w.since (far σ h w r sent known) w.disk (pending w) t (length (w.disk t)) (live (w.disk t) (w.kept_gone t)) (old_fits σ w (inv σ h w r) t)
      (w.disk t) refl (λ n l. old_names (w.disk t) (w.kept_gone t) n) others in
      (says.0, sym (ap (λ (disk : ℕ → List ℕ). state_with σ.targets opened w.base w.since disk (pending w)) (λ i s. put_self w.disk t s i)) ∙ says.1)

  pub new_image : w.up t ≡ false
      → Says (state_of σ.targets o w) (Up t (o.start t + length (w.torn t)) (numbers_at w.since (live (w.torn t) (w.torn_gone t)))) others (state_of σ.targets opened (happens w (Adopt t)))
  new_image down =
      let i = inv σ h w r in
      let says = up_says σ.targets sets o w.base w.since (far σ h w r sent known) w.disk (pending w) t (length (w.torn t)) (live (w.torn t) (w.torn_gone t)) (new_fits σ w i t)
      (w.torn t) refl (λ n l. new_names (w.disk t) (w.torn t) (w.torn_gone t) (i.tearing.torn_has t) (λ n m g. cancelled_full σ w i t n g t (i.tearing.torn_known t n m).1) n) others in
      (says.0, ap (λ (pend : ℕ → List ℕ). state_with σ.targets opened w.base w.since (put w.disk t (w.torn t)) pend) (λ j s. adopted s j) ∙ says.1)
    where
      adopted : (s : ℕ) → pending (happens w (Adopt t)) s ≡ pending w s
      adopted s = adopt_pending w t s ∙ ap (λ v. put (pending w) t v s) (sym (none_pends down)) ∙ put_self (pending w) t s
