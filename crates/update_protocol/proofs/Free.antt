-- A target that nothing holds has its share of what was accepted.
use Rattle.std.proofs.Common.{◌≡◌, ◌<◌, ⊎_elim, ℕ, true, ◌++◌, Some, None, sym, ap, ◌∙◌, append-nil}
use Rattle.tree_shares.specs.Seats.{share_of}
use Rattle.update_protocol.specs.Epochs.{Reached}
use Rattle.update_protocol.specs.Events.{fresh, has_now}
use Rattle.update_protocol.specs.Lists.{IsIn}
use Rattle.update_protocol.specs.Parts.{entries_of}
use Rattle.update_protocol.specs.World.{History, World, at, made}
use Rattle.update_protocol.proofs.LetsGo.{none_some}
use Rattle.update_protocol.proofs.Runs.{base_kept}
use Rattle.update_protocol.proofs.Saying.{inv}
use Rattle.update_protocol.proofs.SayingAccept.{grown_is}
use Rattle.update_protocol.proofs.SayingRecovery.{none_pends}
use Rattle.update_protocol.proofs.Setting.{Setting}
use Rattle.update_protocol.proofs.Shares.{share_made}
use Rattle.update_protocol.proofs.Showing.{pends_behind}

module _ (σ : Setting) (h : History) (w : World) (r : Reached σ.targets h w) (t : ℕ) (lt : t < σ.targets) (up : w.up t ≡ true) (free : w.holder t ≡ None) where
  pub free_memory : has_now σ.targets w t ≡ share_of σ.targets (h ++ entries_of w.since) t
  free_memory =
      share_made σ w (inv σ h w r) t lt (λ n l on. ⊎_elim (λ (here : IsIn n (w.done t)). here) (λ (e : w.holder t ≡ Some (at w.since n).attempt). absurd (none_some _ (sym free ∙ e))) ((inv σ h w r).holding.waits n l t up on))
      ∙ ap (λ g. share_of σ.targets g t) (grown_is σ h w r)

  pub free_disk : ((n : ℕ) → IsIn n (w.done t) → IsIn n (w.disk t)) → made σ.targets w.since t (w.disk t) (share_of σ.targets h t) ≡ share_of σ.targets (h ++ entries_of w.since) t
  free_disk all =
      let done_is : w.done t ≡ w.disk t = pends_behind σ w (inv σ h w r) t ∙ ap (λ l. w.disk t ++ l) (none_pends σ h w r t all) ∙ append-nil (w.disk t) in
      ap (λ b. made σ.targets w.since t (w.disk t) (share_of σ.targets b t)) (sym (base_kept σ r.events (fresh r.start h) w r.run))
      ∙ ap (λ l. made σ.targets w.since t l (share_of σ.targets w.base t)) (sym done_is)
      ∙ free_memory
