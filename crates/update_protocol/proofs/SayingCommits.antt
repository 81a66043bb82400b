-- What targets say that commit one after another, and the end.
use Rattle.std.proofs.Common.{◌≡◌, ◌<◌, ◌⊎◌, inl, inr, ⊎_elim, ℕ, Bool, true, if◌then◌else◌, ◌++◌, Option, None, List, [], ◌∷◌, refl, sym, ap, ◌∙◌, subst}
use Rattle.std.proofs.lemmas.Bool.Decides.{eqb_tells}
use Rattle.tree_model.specs.declared.op.Request.{Request}
use Rattle.tree_shares.specs.Seats.{share_of}
use Rattle.update_protocol.specs.Epochs.{Reached}
use Rattle.update_protocol.specs.Events.{Commit, fresh, happens}
use Rattle.update_protocol.specs.Lists.{IsIn}
use Rattle.update_protocol.specs.Machine.{AllServe, End_clean, Line, SaysAll, State}
use Rattle.update_protocol.specs.Parts.{IsSent, entries_of}
use Rattle.update_protocol.specs.States.{Spoken, committed_all, stable_lines, state_of}
use Rattle.update_protocol.specs.World.{Accepted, Attempt, History, World, made}
use Rattle.update_protocol.proofs.Free.{free_disk}
use Rattle.update_protocol.proofs.Lives.{run_on}
use Rattle.update_protocol.proofs.Saying.{committed}
use Rattle.update_protocol.proofs.Setting.{Setting}

-- commits leave all but the disks
since_kept : (ts : List ℕ) (w : World) → (committed_all w ts).since ≡ w.since
since_kept [] w = refl
since_kept (t ∷ ts) w = since_kept ts (happens w (Commit t))

up_kept : (ts : List ℕ) (w : World) → (committed_all w ts).up ≡ w.up
up_kept [] w = refl
up_kept (t ∷ ts) w = up_kept ts (happens w (Commit t))

holder_kept : (ts : List ℕ) (w : World) → (committed_all w ts).holder ≡ w.holder
holder_kept [] w = refl
holder_kept (t ∷ ts) w = holder_kept ts (happens w (Commit t))

done_kept : (ts : List ℕ) (w : World) → (committed_all w ts).done ≡ w.done
done_kept [] w = refl
done_kept (t ∷ ts) w = done_kept ts (happens w (Commit t))

-- and a target that committed has on its disk what it has
disk_all : (ts : List ℕ) (w : World) (t : ℕ) → (w.disk t ≡ w.done t) ⊎ IsIn t ts → (committed_all w ts).disk t ≡ w.done t
disk_all [] w t h = ⊎_elim (λ e. e) (λ none. absurd none) h
disk_all (u ∷ ts) w t h = disk_all ts (happens w (Commit u)) t next
  where
    next : ((happens w (Commit u)).disk t ≡ w.done t) ⊎ IsIn t ts
    next = elim (eqb_tells t u) [
      | inl q ↦ inl (ap (λ b. if b then w.done u else w.disk t) q.0 ∙ ap w.done (sym q.1))
      | inr q ↦ ⊎_elim (λ (e : w.disk t ≡ w.done t). inl (ap (λ b. if b then w.done u else w.disk t) q.0 ∙ e)) (λ m. inr (⊎_elim (λ (s : t ≡ u). absurd (q.1 s)) (λ n. n) m)) h
    ]

module _ (σ : Setting) (h : History) where
  one_more : (w : World) → Reached σ.targets h w → (t : ℕ) → w.up t ≡ true → Reached σ.targets h (happens w (Commit t))
  one_more w r t up = record { story = r.story; start = r.start; events = r.events ++ Commit t ∷ []; run = run_on σ.targets r.events (Commit t ∷ []) (fresh r.start h) w (happens w (Commit t)) r.run (up, refl) }

  pub reached_all : (ts : List ℕ) (w : World) → Reached σ.targets h w → ((t : ℕ) → IsIn t ts → w.up t ≡ true) → Reached σ.targets h (committed_all w ts)
  reached_all [] w r ups = r
  reached_all (t ∷ ts) w r ups = reached_all ts (happens w (Commit t)) (one_more w r t (ups t (inl refl))) (λ u m. ups u (inr m))

  module _ (sent : ℕ → Request) (o : Spoken) (ends : List Line) (next : State) where
    pub commits_say : (ts : List ℕ) (w : World) → Reached σ.targets h w → IsSent sent (h ++ entries_of w.since) → ((t : ℕ) → IsIn t ts → w.up t ≡ true)
        → SaysAll (state_of σ.targets o (committed_all w ts)) ends next → SaysAll (state_of σ.targets o w) (stable_lines w ts ++ ends) next
    commits_say [] w r known ups says = says
    commits_say (t ∷ ts) w r known ups says = (
      state_of σ.targets o (happens w (Commit t)),
      committed σ h w r sent known o t (stable_lines (happens w (Commit t)) ts ++ ends),
      commits_say ts (happens w (Commit t)) (one_more w r t (ups t (inl refl))) known (λ u m. ups u (inr m)) says,
    )

  module _ (w : World) (r : Reached σ.targets h w) (ts : List ℕ) (ups : (t : ℕ) → IsIn t ts → w.up t ≡ true) where
    pub end_says : (sent : ℕ → Request) → IsSent sent (h ++ entries_of w.since) → (o : Spoken) → AllServe (state_of σ.targets o w)
        → SaysAll (state_of σ.targets o w) (stable_lines w ts ++ End_clean ∷ []) (state_of σ.targets o (committed_all w ts))
    end_says sent known o serves = commits_say sent o (End_clean ∷ []) (state_of σ.targets o (committed_all w ts)) ts w r known ups (state_of σ.targets o (committed_all w ts), (serves, refl), refl)

    pub end_shares : (t : ℕ) → t < σ.targets → IsIn t ts → w.holder t ≡ None → made σ.targets w.since t ((committed_all w ts).disk t) (share_of σ.targets h t) ≡ share_of σ.targets (h ++ entries_of w.since) t
    end_shares t lt m free =
        let here : (committed_all w ts).disk t ≡ w.done t = disk_all ts w t (inr m) in
        subst (λ (since : List Accepted). made σ.targets since t ((committed_all w ts).disk t) (share_of σ.targets h t) ≡ share_of σ.targets (h ++ entries_of since) t) (since_kept ts w)
        (free_disk σ h (committed_all w ts) (reached_all ts w r ups) t lt (ap (λ (f : ℕ → Bool). f t) (up_kept ts w) ∙ ups t m) (ap (λ (f : ℕ → Option Attempt). f t) (holder_kept ts w) ∙ free)
        (λ n d. subst (λ l. IsIn n l) (sym here) (subst (λ (f : ℕ → List ℕ). IsIn n (f t)) (done_kept ts w) d)))
