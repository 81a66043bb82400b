-- A target that is asked to be held answers under the number of the ask.
use Rattle.std.proofs.Common.{◌≡◌, inr, length, ℕ, true, false, true≢false, List, [], ◌∷◌, refl, sym, ap, ◌∙◌, subst, arith, ⊎_elim}
use Rattle.out_update.specs.declared.update.Update.{Update}
use Rattle.update_record.specs.declared.message.Message.{Message as Mail}
use Rattle.update_record.specs.declared.message.MessageKind.TheVariants as kind
use Rattle.cluster_mail.specs.Answering.{attempt_of, busy_message, held_message}
use Rattle.cluster_mail.specs.Mail.{Sent}
use Rattle.target_state.specs.Image.{state_text}
use Rattle.target_state.specs.Rules.{after_hold, answer_as, held_as, taken}
use Rattle.target_state.specs.declared.answers.HoldAnswer.{HoldAnswer}
use Rattle.target_state.specs.declared.answers.HoldAnswer.TheVariants as hold
use Rattle.target_state.specs.declared.holding.Taking.{Taking}
use Rattle.target_state.specs.declared.holding.Taking.TheVariants.{Busy, Comes, Ended, Stays, TakesOver}
use Rattle.target_turns.specs.Helping as helping
use Rattle.target_turns.specs.Helping.{on_hold}
use Rattle.target_turns.specs.Target.{Target, sends, serves}
use Rattle.update_protocol.specs.Lists.{IsIn}
use Rattle.turn_laws.specs.Values.{Cluster, target_at}
use Rattle.home_laws.specs.Asking.{AreNumbered, GivesNumbers, GoesOnFrom, IsNumbered, IsOrder, NotesBegun, is_ask, is_order}
use Rattle.home_laws.proofs.Noting.{hold_notes}

module _ (c : Cluster) (to : ℕ) (numbered : AreNumbered c) (up : serves (target_at c.targets to) ≡ true)
    (m : Sent) (kept : IsIn m c.sent) (is_hold : m.message.kind ≡ kind.Hold) (now : m.message.epoch ≡ (target_at c.targets to).node.epoch) (k : ℕ) where
  abbrev was : Target
  was = target_at c.targets to

  abbrev there : Target
  there = record was { node = after_hold was.node (attempt_of m.message) }

  epoch_by : (t : Taking) → (held_as was.node (attempt_of m.message) t).epoch ≡ was.node.epoch
  epoch_by Comes = refl
  epoch_by Stays = refl
  epoch_by (TakesOver o) = refl
  epoch_by (Busy n) = refl
  epoch_by Ended = refl

  stays : GoesOnFrom was there
  stays = inr (refl, omega arith, λ h e. (h, e, refl))

  kept_notes : NotesBegun to was.home.attempts there.node
  kept_notes = hold_notes to was.home.attempts was.node (attempt_of m.message) (numbered.notes to up) (λ e. numbered.begun to up m kept now e (ap is_order is_hold))

  -- it answers under the number of the order
  answers : (x : Mail) → is_ask x.kind ≡ false → is_order x.kind ≡ false → IsOrder m.message x → GivesNumbers c to (sends there (x ∷ []))
  answers x a o is = record {
    same = λ s. epoch_by (taken was.node (attempt_of m.message));
    next = λ s. stays;
    notes = λ s. kept_notes;
    sent = λ y h. ⊎_elim
        (λ (e : y ≡ x). subst (IsNumbered c to there) (sym e) (record { own = λ z. absurd (true≢false (sym z ∙ a)); told = λ z. (m, kept, is); begun = λ z. absurd (true≢false (sym z ∙ o)) }))
        (λ z. absurd z) h;
  }

  by_answer : (a : HoldAnswer) → GivesNumbers c to (helping.held_as k was m.message a)
  by_answer (hold.Held f) = answers (held_message was.node.epoch was.index m.message f) refl refl (record { asks = ap is_ask is_hold; epoch = now; home = refl; attempt = refl; ask = refl; number = refl })
  by_answer (hold.Busy h) = answers (busy_message was.node.epoch was.index m.message h) refl refl (record { asks = ap is_ask is_hold; epoch = now; home = refl; attempt = refl; ask = refl; number = refl })
  by_answer hold.Ended = record { same = λ s. epoch_by (taken was.node (attempt_of m.message)); next = λ s. stays; notes = λ s. kept_notes; sent = λ x h. absurd h }

  pub holds_give : (q : List Update) → GivesNumbers c to (on_hold k was m.message q)
  holds_give q = by_answer (answer_as was.node (length (state_text was.node)) q (taken was.node (attempt_of m.message)))
