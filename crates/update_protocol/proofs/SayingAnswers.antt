-- What a home answers behind an accept, and what it answers a read.
use Rattle.std.proofs.Common.{◌≡◌, ◌<◌, ◌≤◌, refl, sym, ap, ◌∙◌, subst, le_of_lt, le_refl, ℕ, true, true≢false, ◌++◌, Some, List, [], ◌∷◌, length}
use Rattle.std.specs.List.{AllByRecursion}
use Rattle.tree_model.specs.History.{tree_of}
use Rattle.tree_model.specs.Keys.{Laid}
use Rattle.tree_model.specs.OpText.{IsOp}
use Rattle.tree_model.specs.Step.{step}
use Rattle.tree_model.specs.declared.op.Request.{Request}
use Rattle.tree_model.specs.declared.reply.Reply.{Reply}
use Rattle.tree_shares.specs.Seats.{SameSeat}
use Rattle.update_protocol.specs.Epochs.{Reached}
use Rattle.update_protocol.specs.Events.{Accept, AreHeard, May, happens}
use Rattle.update_protocol.specs.Facts.{AreTrue, Fits, Imply, laid}
use Rattle.update_protocol.specs.Lists.{IsIn}
use Rattle.update_protocol.specs.Machine.{Answers, Serving, State, history_of}
use Rattle.update_protocol.specs.Parts.{IsSent, entries_of}
use Rattle.update_protocol.specs.Seats.{is_read}
use Rattle.update_protocol.specs.States.{Spoken, state_of}
use Rattle.update_protocol.specs.World.{Accepted, Answer, Attempt, History, World, after_items, entry, facts_of, request_of}
use Rattle.update_protocol.proofs.Basics.{mem_last}
use Rattle.update_protocol.proofs.Hearing.{all_true}
use Rattle.update_protocol.proofs.Legal.{after_joined}
use Rattle.update_protocol.proofs.Saying.{inv}
use Rattle.update_protocol.proofs.SayingAccept.{grown_is, home, items_are, matches, whole_is}
use Rattle.update_protocol.proofs.SayingReply.{all_of_them}
use Rattle.update_protocol.proofs.Seating.{all_push, ops_after}
use Rattle.update_protocol.proofs.Setting.{Setting}
use Rattle.update_protocol.proofs.Shares.{tree_push}

module _ (σ : Setting) (h : History) (w : World) (r : Reached σ.targets h w) where
  pub fits_now : length (h ++ entries_of w.since) < 0x0ffffffe → Fits σ.targets (h ++ entries_of w.since)
  fits_now few = record { each = subst (λ g. AllByRecursion (λ i. IsOp σ.targets i.request.op) g) (grown_is σ h w r) (ops_after σ.targets w.base w.since (inv σ h w r).grounded.each (inv σ h w r).follows); few = few }

  pub told_now : (m : ℕ) (a : Attempt) → w.trying m ≡ Some a → (answers : List Answer) → AreHeard σ.targets w.pool a answers → AreTrue σ.targets (laid σ.targets (h ++ entries_of w.since)) (facts_of answers)
  told_now m a current answers heard = subst (λ g. AreTrue σ.targets (laid σ.targets g) (facts_of answers)) (grown_is σ h w r) (all_true σ w (inv σ h w r) m a current answers heard)

  pub implied : (m : ℕ) (a : Attempt) → w.trying m ≡ Some a → (answers : List Answer) → AreHeard σ.targets w.pool a answers → length (h ++ entries_of w.since) < 0x0ffffffe
      → (P : Laid → Type 0) → Imply σ.targets (facts_of answers) P → P (laid σ.targets (h ++ entries_of w.since))
  implied m a current answers heard few P implies = implies (h ++ entries_of w.since) (fits_now few) (told_now m a current answers heard)

  module _ (sent : ℕ → Request) (known : IsSent sent (h ++ entries_of w.since)) (o : Spoken) where
    abbrev now : State
    now = state_of σ.targets o w

    -- the reply that comes next to an accept
    module _ (m : ℕ) (x : Accepted) (may : May σ.targets w (Accept m x)) where
      abbrev next : State
      next = state_of σ.targets o (happens w (Accept m x))

      next_is : history_of next ≡ after_items w.base w.since ++ entry x ∷ []
      next_is = ap (λ l. w.base ++ l) (items_are w.disk 0 (w.since ++ x ∷ [])) ∙ sym (after_joined w.base (w.since ++ x ∷ [])) ∙ tree_push w.since w.base x

      pub answered : IsIn (request_of x) o.sent → o.standing m ≡ Serving → Answers next (request_of x).number x.reply
      answered was_sent serves = record {
        comes = record { request = request_of x; was_sent = was_sent; numbered = refl; home = m; at_home = home σ h w r sent known o m x may; serves = serves };
        read = λ e. absurd (true≢false (sym e ∙ may.changes));
        kept = λ e. (
          subst (λ g. IsIn (entry x) g) (sym next_is) (mem_last (after_items w.base w.since) (entry x)),
          subst (λ g. AllByRecursion (λ i. SameSeat σ.targets i.request (request_of x) → i.request.number ≤ (request_of x).number) g) (sym next_is)
              (all_push (λ i. SameSeat σ.targets i.request (request_of x) → i.request.number ≤ (request_of x).number) (after_items w.base w.since) (entry x)
              (all_of_them (λ i. SameSeat σ.targets i.request (request_of x) → i.request.number < (request_of x).number) (λ i. SameSeat σ.targets i.request (request_of x) → i.request.number ≤ (request_of x).number)
              (λ i below s. le_of_lt (below s)) (after_items w.base w.since) (matches σ h w r sent known o m x may).newest)
              (λ s. le_refl _)),
        );
      }

    pub read_says : (m : ℕ) (a : Attempt) → w.trying m ≡ Some a → IsIn a.who.request o.sent → is_read a.who.request.op ≡ true → o.standing m ≡ Serving → length (h ++ entries_of w.since) < 0x0ffffffe
        → (answers : List Answer) → AreHeard σ.targets w.pool a answers → (reply : Reply) → Imply σ.targets (facts_of answers) (λ l. reply ≡ (step σ.targets l.tree a.who.request.op).1) → Answers now a.who.request.number reply
    read_says m a current was_sent read serves few answers heard reply settles = record {
      comes = record { request = a.who.request; was_sent = was_sent; numbered = refl; home = m; at_home = ((inv σ h w r).holding.current m a current).at_home; serves = serves };
      read = λ e.
          implied m a current answers heard few (λ l. reply ≡ (step σ.targets l.tree a.who.request.op).1) settles
          ∙ ap (λ t. (step σ.targets t a.who.request.op).1) (σ.laws.beside_tree σ.targets (h ++ entries_of w.since))
          ∙ ap (λ g. (step σ.targets (tree_of σ.targets g) a.who.request.op).1) (sym (grown_is σ h w r) ∙ whole_is σ h w r sent known o);
      kept = λ e. absurd (true≢false (sym read ∙ e));
    }
