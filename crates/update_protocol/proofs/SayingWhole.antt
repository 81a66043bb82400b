-- What a recovery says that nothing stops: what it redoes at one target after another, and its end.
use Rattle.std.proofs.Common.{◌≡◌, ℕ, Bool, true, ◌++◌, List, [], ◌∷◌, refl, subst, sym}
use Rattle.tree_model.specs.History.{IsLegal}
use Rattle.tree_model.specs.declared.op.Request.{Request}
use Rattle.update_protocol.specs.Epochs.{Epoch, Reached, Redos, Story}
use Rattle.update_protocol.specs.Events.{Forget, fresh, happens}
use Rattle.update_protocol.specs.Lists.{IsIn, put}
use Rattle.update_protocol.specs.Machine.{Line, SaysAll, State}
use Rattle.update_protocol.specs.Parts.{IsSent, entries_of}
use Rattle.update_protocol.specs.Recovery.{Gathered}
use Rattle.update_protocol.specs.States.{Spoken, committed_all, gathered_state, redone_lines, stable_lines, state_of}
use Rattle.update_protocol.specs.World.{Follows, History, World}
use Rattle.update_protocol.proofs.Redone.{gathered, redone_gathered}
use Rattle.update_protocol.proofs.Saying.{SetsOfParts}
use Rattle.update_protocol.proofs.SayingRecovery.{gathered_is, redone_says}
use Rattle.update_protocol.proofs.Lives.{run_on}
use Rattle.update_protocol.proofs.SayingCommits.{commits_say}
use Rattle.update_protocol.proofs.Setting.{Setting}
use Rattle.update_protocol.proofs.Stories.{inv, same, story_grounded, whole_history}
use Rattle.update_protocol.proofs.Whole.{run_legal}

module _ (σ : Setting) (sets : SetsOfParts) (h : History) (w : World) (follows : Follows σ.targets h w.since) (legal : IsLegal σ.targets (h ++ entries_of w.since)) (kept : ℕ → Bool) (o : Spoken)
    (disks : ℕ → List ℕ) (ends : List Line) (next : State) (says : SaysAll (gathered_state σ.targets o h w.since disks) ends next) where
  redos_say : (rs : List (ℕ × List ℕ)) (disk : ℕ → List ℕ) → Gathered σ.targets h w.since disk w.kept_mark w.kept_gone kept → Redos w disk rs disks
      → SaysAll (gathered_state σ.targets o h w.since disk) (redone_lines w.since rs ++ ends) next
  redos_say [] disk g r = subst (λ d. SaysAll (gathered_state σ.targets o h w.since d) ends next) r says
  redos_say (q ∷ rs) disk g r = (
    gathered_state σ.targets o h w.since (put disk q.0 (disk q.0 ++ q.1)),
    redone_says σ sets h w.since disk w.kept_mark w.kept_gone kept g follows legal o q.0 q.1 r.0 (redone_lines w.since rs ++ ends),
    redos_say rs (put disk q.0 (disk q.0 ++ q.1)) (redone_gathered σ h w.since disk w.kept_mark w.kept_gone kept g q.0 q.1 r.0) r.1,
  )

pub whole_says : (σ : Setting) (sets : SetsOfParts) (h : History) (story : Story σ.targets h) (e : Epoch σ.targets h) (sent : ℕ → Request) → IsSent sent (h ++ entries_of e.world.since) → (o : Spoken)
    → (ends : List Line) (next : State) → SaysAll (gathered_state σ.targets o h e.world.since e.disks) ends next
    → SaysAll (gathered_state σ.targets o h e.world.since e.world.disk) (redone_lines e.world.since e.redos ++ ends) next
whole_says σ sets h story e sent known o ends next says =
    redos_say σ sets h e.world (whole_history σ h (story_grounded σ h story) e) (run_legal σ h story e.start e.events e.world e.run sent known) e.kept o e.disks ends next says e.redos e.world.disk
    (subst (λ b. Gathered σ.targets b e.world.since e.world.disk e.world.kept_mark e.world.kept_gone e.kept) (same σ h (story_grounded σ h story) e) (gathered σ e.world (inv σ h (story_grounded σ h story) e) e.kept e.named)) e.redone

-- with what targets commit as it begins
pub command_says : (σ : Setting) (sets : SetsOfParts) (h : History) (story : Story σ.targets h) (e : Epoch σ.targets h) (sent : ℕ → Request) → IsSent sent (h ++ entries_of e.world.since) → (o : Spoken)
    → (w : World) → Reached σ.targets h w → IsSent sent (h ++ entries_of w.since) → (ts : List ℕ) → ((t : ℕ) → IsIn t ts → w.up t ≡ true) → e.world ≡ committed_all (happens w Forget) ts
    → (ends : List Line) (next : State) → SaysAll (gathered_state σ.targets o h e.world.since e.world.disk) ends next → SaysAll (state_of σ.targets o w) (stable_lines (happens w Forget) ts ++ ends) next
command_says σ sets h story e sent known o w r known_then ts ups is ends next says =
    let begun : Reached σ.targets h (happens w Forget) = record { story = r.story; start = r.start; events = r.events ++ Forget ∷ []; run = run_on σ.targets r.events (Forget ∷ []) (fresh r.start h) w (happens w Forget) r.run (tt, refl) } in
    let gathered_now : SaysAll (state_of σ.targets o e.world) ends next =
    subst (λ s. SaysAll s ends next) (sym (gathered_is σ h e.world (record { story = story; start = e.start; events = e.events; run = e.run }) o e.committed))
    (subst (λ b. SaysAll (gathered_state σ.targets o b e.world.since e.world.disk) ends next) (sym (same σ h (story_grounded σ h story) e)) says) in
    commits_say σ h sent o ends next ts (happens w Forget) begun known_then ups (subst (λ v. SaysAll (state_of σ.targets o v) ends next) is gathered_now)
