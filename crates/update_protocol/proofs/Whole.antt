-- The laws, from the empty history on.
use Rattle.std.proofs.Common.{Bool, List, Some, [], ap, arith, false, inl, inr, length, refl, subst, suc, sym, true, zero, ℕ, ◌++◌, ◌<◌, ◌∙◌, ◌∷◌, ◌≡◌}
use Rattle.std.specs.Prelude.{take}
use Rattle.tree_model.specs.History.{IsLegal, Item}
use Rattle.tree_model.specs.Kept.{HasNumber, IsKept, laid_of}
use Rattle.tree_model.specs.Striped.{on}
use Rattle.tree_model.specs.Tree.{base as base_tree}
use Rattle.tree_model.specs.declared.op.Request.{Request}
use Rattle.update_protocol.proofs.Causes.{cause}
use Rattle.update_protocol.proofs.Fronts.{cut_of}
use Rattle.update_protocol.proofs.Invariant.{Invariant}
use Rattle.update_protocol.proofs.Keys.{depends_leads}
use Rattle.update_protocol.proofs.Legal.{Replies, after_joined, is_kept, legal_from, replies_after}
use Rattle.update_protocol.proofs.Runs.{always, base_kept, begins}
use Rattle.update_protocol.proofs.Seating.{all_mem, ordered_after}
use Rattle.update_protocol.proofs.Setting.{Setting}
use Rattle.update_protocol.proofs.Sharing.{closed}
use Rattle.update_protocol.proofs.Showing.{executed_once, log_fits, new_fits, old_fits, pends_behind}
use Rattle.update_protocol.proofs.Stories.{closed_kept, legal, shares, story_grounded, whole_history}
use Rattle.update_protocol.specs.Epochs.{Begin, Epoch, Next, Story, kept_of}
use Rattle.update_protocol.specs.Events.{Accept, Event, Execute_comes, May, Run, Start, fresh}
use Rattle.update_protocol.specs.Laws.{Laws}
use Rattle.update_protocol.specs.Lists.{IsIn}
use Rattle.update_protocol.specs.Near.{Cause}
use Rattle.update_protocol.specs.Parts.{IsSent, all_of, entries_of, numbers_of, passing}
use Rattle.update_protocol.specs.Recovery.{Depends, before_item, kept_items, put_if}
use Rattle.update_protocol.specs.Rows.{FitsLog, FitsTarget, cut_at, has, live, pending}
use Rattle.tree_shares.specs.Seats.{Ordered, SameSeat, share_of}
use Rattle.update_protocol.specs.Seats.{Newest}
use Rattle.update_protocol.specs.World.{Accepted, Attempt, Each, Follows, History, Sync, World, after_items, at, count_home, grown, is_on, made, master, request_of}
use Rattle.update_record.specs.Spelling.{targets_from}

has_known : (sent : ℕ → Request) (h : History) (r : Request) → IsSent sent h → r ≡ sent r.number → HasNumber r.number h → (i : Item) × IsIn i h × (i.request ≡ r)
has_known sent [] r known is has = absurd has
has_known sent (i ∷ h) r known is (inl e) = (i, inl refl, known.0 ∙ ap sent e ∙ sym is)
has_known sent (i ∷ h) r known is (inr g) = let k = has_known sent h r known.1 is g in (k.0, inr k.1, k.2)

sent_front : (sent : ℕ → Request) (h k : History) → IsSent sent (h ++ k) → IsSent sent h
sent_front sent [] k s = tt
sent_front sent (i ∷ h) k s = (s.0, sent_front sent h k s.1)

sent_back : (sent : ℕ → Request) (h k : History) → IsSent sent (h ++ k) → IsSent sent k
sent_back sent [] k s = s
sent_back sent (i ∷ h) k s = sent_back sent h k s.1

sent_join : (sent : ℕ → Request) (h k : History) → IsSent sent h → IsSent sent k → IsSent sent (h ++ k)
sent_join sent [] k a b = b
sent_join sent (i ∷ h) k a b = (a.0, sent_join sent h k a.1 b)

sent_if : (sent : ℕ → Request) (b : Bool) (x : Accepted) (xs : List Accepted) → (request_of x ≡ sent (request_of x).number) → IsSent sent (entries_of xs) → IsSent sent (entries_of (put_if b x xs))
sent_if sent true x xs e s = (e, s)
sent_if sent false x xs e s = s

sent_kept : (sent : ℕ → Request) (kept : ℕ → Bool) (xs : List Accepted) (k : ℕ) → IsSent sent (entries_of xs) → IsSent sent (entries_of (kept_items kept k xs))
sent_kept sent kept [] k s = tt
sent_kept sent kept (x ∷ xs) k s = sent_if sent (kept k) x (kept_items kept (suc k) xs) s.0 (sent_kept sent kept xs (suc k) s.1)

on_each : (o : ℕ) (laws : Laws o) (h : History) (xs : List Accepted) → Follows o h xs → Each (λ n x. targets_from 0 x.parts ≡ on o (laid_of o (before_item h xs n)) (request_of x).op) xs
unfolding at
on_each o laws h [] f n l = absurd (omega (arith, l))
on_each o laws h (x ∷ xs) f zero l = ap (λ ps. targets_from 0 ps) f.0.parts ∙ laws.on_is h x.batch (request_of x).op f.0.fits f.0.is_op
on_each o laws h (x ∷ xs) f (suc n) l = on_each o laws (grown h x) xs f.1 n (omega (arith, l))

module _ (σ : Setting) where
  pub story_replies : (h : History) → Story σ.targets h → Replies σ.targets base_tree h
  story_replies h Begin = tt
  story_replies h (Next {h = g} s e) = subst (λ h. Replies σ.targets base_tree h) (sym (after_joined g (kept_of σ.targets g e)))
      (replies_after σ.targets σ.laws g (kept_of σ.targets g e) (story_replies g s) (legal σ g (story_grounded σ g s) e))

  pub story_legal : (h : History) → Story σ.targets h → (sent : ℕ → Request) → IsSent sent h → IsLegal σ.targets h
  story_legal h s sent known = legal_from σ.targets σ.laws sent base_tree h known (story_grounded σ h s).ordered (story_replies h s)

  -- with some items kept, and with all of them
  known_kept : (h : History) (since : List Accepted) (kept : ℕ → Bool) (sent : ℕ → Request) → IsSent sent (h ++ entries_of since) → IsSent sent (h ++ entries_of (kept_items kept 0 since))
  known_kept h since kept sent known = sent_join sent h (entries_of (kept_items kept 0 since)) (sent_front sent h (entries_of since) known) (sent_kept sent kept since 0 (sent_back sent h (entries_of since) known))

  module _ (h : History) (story : Story σ.targets h) (s : Start) (events : List (Event)) (w : World) (run : Run σ.targets (fresh s h) events w) where
    inv : Invariant σ.targets w
    inv = always σ events (fresh s h) w (begins σ s h (story_grounded σ h story)) run

    pub run_follows : Follows σ.targets h w.since
    run_follows = subst (λ b. Follows σ.targets b w.since) (base_kept σ events (fresh s h) w run) inv.follows

    pub run_legal : (sent : ℕ → Request) → IsSent sent (h ++ entries_of w.since) → IsLegal σ.targets (h ++ entries_of w.since)
    run_legal sent known = legal_from σ.targets σ.laws sent base_tree (h ++ entries_of w.since) known
        (subst (Ordered σ.targets) (after_joined h w.since) (ordered_after σ.targets h w.since (story_grounded σ h story).ordered run_follows)) (replies_after σ.targets σ.laws h w.since (story_replies h story) run_follows)

    pub cut_kept : (sent : ℕ → Request) → IsSent sent (h ++ entries_of w.since) → (cut : ℕ → ℕ) (kept : ℕ → Bool)
        → ((n : ℕ) → n < length w.since → (kept n ≡ true → (t : ℕ) × IsIn n (cut_at w cut t)) × (((t : ℕ) × IsIn n (cut_at w cut t)) → kept n ≡ true))
        → IsKept σ.targets (h ++ entries_of w.since) (numbers_of (h ++ entries_of (kept_items kept 0 w.since))) (all_of h ++ passing kept 0 w.since)
    unfolding cut_of
    cut_kept sent known cut kept is = is_kept σ.targets σ.laws kept h w.since
        (λ n m d k. let bound : n < length w.since = let a = d.before in let b = d.inside in omega (arith, a, b) in
        let here = (is m d.inside).0 k in
        (is n bound).1 (closed σ w inv.durable (cut_of σ w inv cut) n m (depends_leads σ w inv.follows n m (subst (λ b. Depends σ.targets b w.since n m) (sym (base_kept σ events (fresh s h) w run)) d)) (here.0, here.1)))
        sent (known_kept h w.since kept sent known) (story_grounded σ h story).ordered (story_replies h story) run_follows

    pub new_newest : (m : ℕ) (x : Accepted) → May σ.targets w (Accept m x) → Newest σ.targets (h ++ entries_of w.since) (request_of x)
    new_newest m x may = subst (λ g. Newest σ.targets g (request_of x)) (ap (λ b. after_items b w.since) (base_kept σ events (fresh s h) w run) ∙ after_joined h w.since) ((inv.holding.current m x.attempt may.is_current).newest may.changes)

    pub new_once : (m : ℕ) (x : Accepted) → May σ.targets w (Accept m x) → (sent : ℕ → Request) → IsSent sent (h ++ entries_of w.since) → request_of x ≡ sent (request_of x).number
        → HasNumber (request_of x).number (h ++ entries_of w.since) → ⊥
    new_once m x may sent known is has =
        let k = has_known sent (h ++ entries_of w.since) (request_of x) known is has in
        let lt : k.0.request.number < (request_of x).number = all_mem (λ i. SameSeat σ.targets i.request (request_of x) → i.request.number < (request_of x).number) (h ++ entries_of w.since) k.0 (new_newest m x may) k.1 (subst (λ r. SameSeat σ.targets k.0.request r) k.2 (refl, refl)) in
        let same : k.0.request.number ≡ (request_of x).number = ap (λ (r : Request). r.number) k.2 in omega (arith, lt, same)

    pub run_on : Each (λ n x. targets_from 0 x.parts ≡ on σ.targets (laid_of σ.targets (before_item h w.since n)) (request_of x).op) w.since
    run_on n l = on_each σ.targets σ.laws h w.since run_follows n l

    pub run_cause : length (h ++ entries_of w.since) < 0x0ffffffe → (a : Attempt) (t k : ℕ) → IsIn (Sync a t k) w.pool → w.serving ≡ true → w.up t ≡ true → w.holder t ≡ Some a
        → (n : ℕ) → IsIn n (pending w t) → Cause σ.targets w t k a.who.request
    run_cause few a t k sent on up holder n pends =
        let same : after_items w.base w.since ≡ h ++ entries_of w.since = ap (λ b. after_items b w.since) (base_kept σ events (fresh s h) w run) ∙ after_joined h w.since in
        cause σ w inv (subst (λ g. length g < 0x0ffffffe) (sym same) few) a t k sent up n pends on holder

    pub run_pends : (t : ℕ) → w.done t ≡ w.disk t ++ pending w t
    run_pends t = pends_behind σ w inv t

    pub run_old : (t : ℕ) → FitsTarget w.since w.disk t (length (w.disk t)) (live (w.disk t) (w.kept_gone t))
    run_old t = old_fits σ w inv t

    pub run_new : (t : ℕ) → FitsTarget w.since w.disk t (length (w.torn t)) (live (w.torn t) (w.torn_gone t))
    run_new t = new_fits σ w inv t

    pub run_log : (t : ℕ) → FitsLog w t (live (w.done t) (w.gone t))
    run_log t = log_fits σ w inv t

    pub run_position : Each (λ n a. a.batch ≡ suc (count_home (master a) (take n w.since))) w.since
    run_position = inv.numbered.position

    pub run_once : (n t : ℕ) → May σ.targets w (Execute_comes n t) → (n < length w.since) × (is_on (at w.since n) t ≡ true) × (IsIn n (w.done t) → ⊥) × (t ≡ master (at w.since n) → ⊥)
    run_once n t may = executed_once σ w inv n t may

  module _ (h : History) (story : Story σ.targets h) (e : Epoch σ.targets h) where
    pub epoch_kept : (sent : ℕ → Request) → IsSent sent (h ++ entries_of e.world.since)
        → IsKept σ.targets (h ++ entries_of e.world.since) (numbers_of (h ++ entries_of (kept_of σ.targets h e))) (all_of h ++ passing e.kept 0 e.world.since)
    epoch_kept sent known = is_kept σ.targets σ.laws e.kept h e.world.since (closed_kept σ h (story_grounded σ h story) e) sent (known_kept h e.world.since e.kept sent known)
        (story_grounded σ h story).ordered (story_replies h story) (whole_history σ h (story_grounded σ h story) e)

    pub epoch_shares : (t : ℕ) → t < σ.targets → made σ.targets e.world.since t (e.disks t) (share_of σ.targets h t) ≡ share_of σ.targets (h ++ entries_of (kept_of σ.targets h e)) t
    epoch_shares t lt = shares σ h (story_grounded σ h story) e t lt ∙ ap (λ g. share_of σ.targets g t) (after_joined h (kept_of σ.targets h e))
