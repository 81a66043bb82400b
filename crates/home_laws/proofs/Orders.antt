-- The turns of a target that orders come to, or a commit by a command, give no numbers.
use Rattle.std.proofs.Common.{◌≡◌, ◌≤◌, ◌==◌, ◌&&◌, inl, inr, ⊎_elim, length, nat_lt, ℕ, Bool, true, false, not, true≢false, if◌then◌else◌, List, [], ◌∷◌, refl, sym, ap, ◌∙◌, subst, arith}
use Rattle.fid_space.specs.Targets.{is_member}
use Rattle.update_record.specs.declared.message.Attempt.{Attempt as Name}
use Rattle.update_record.specs.declared.message.Message.{Message as Mail}
use Rattle.update_record.specs.declared.message.MessageKind.TheVariants as kind
use Rattle.update_record.specs.declared.operation.Record.{Record}
use Rattle.scenario_text.specs.declared.line.Line.{Line}
use Rattle.scenario_text.specs.declared.line.Line.TheVariants as lines
use Rattle.cluster_mail.specs.Answering.{attempt_of, cancel_message, executed_message, released_message, stable_message, synced_message}
use Rattle.cluster_mail.specs.Mail.{Sent}
use Rattle.target_state.specs.Commit.{committed, is_empty}
use Rattle.target_state.specs.Marking.{cancelled, marked}
use Rattle.target_state.specs.Rules.{after_execute, executed, is_held_by}
use Rattle.target_state.specs.State.{TargetState}
use Rattle.update_coordinator.specs.Marks.{between_from, noted}
use Rattle.update_coordinator.specs.Rules.{all_targets}
use Rattle.target_turns.specs.Helping.{ignores, on_execute, on_release, on_sync, synced_from}
use Rattle.target_turns.specs.Marks.{cancel_to, cancels, commits, committing, note, risen_cancels, stable_to, stables, stops, syncing, with_mark}
use Rattle.target_turns.specs.Target.{Fate, Target, Turned, joins, quiet, says, sends, serves}
use Rattle.update_protocol.specs.Lists.{IsIn}
use Rattle.turn_laws.specs.Values.{Cluster, target_at}
use Rattle.turn_laws.proofs.Commits.{in_flat}
use Rattle.turn_laws.proofs.Points.{mem_append}
use Rattle.home_laws.specs.Asking.{AreNumbered, GivesNumbers, GoesOnFrom, IsNumbered, NotesBegun, is_ask, is_order, is_told}
use Rattle.home_laws.proofs.Given.{release_epoch}
use Rattle.home_laws.proofs.Noting.{execute_notes, release_notes}

-- neither an order nor the answer to an ask
abbrev pub IsOther : Mail → Type 0
IsOther x = (is_ask x.kind ≡ false) × (is_told x.kind ≡ false) × (is_order x.kind ≡ false)

pub stable_other : (epoch index : ℕ) (ms : List (ℕ × ℕ)) (x : Mail) → IsIn x (stables epoch index ms) → IsOther x
unfolding stables
stable_other epoch index ms x h = let r = in_flat (stable_to epoch index) ms x h in by_test (r.0.0 == index) r.0 r.2
  where
    by_test : (b : Bool) (p : ℕ × ℕ) → IsIn x (if b then [] else stable_message epoch index p.0 p.1 ∷ []) → IsOther x
    by_test true p z = absurd z
    by_test false p (inl e) = subst IsOther (sym e) (refl, refl, refl)
    by_test false p (inr z) = absurd z

pub cancel_other : (t : Target) (mark on : ℕ) (x : Mail) → IsIn x (cancels t mark on) → IsOther x
unfolding cancels
cancel_other t mark on x h = let r = in_flat (cancel_to t mark on) all_targets x h in by_test (nat_lt r.0 t.targets && (is_member on r.0 && not (r.0 == t.index))) r.0 r.2
  where
    by_test : (b : Bool) (to : ℕ) → IsIn x (if b then cancel_message t.node.epoch t.index to mark ∷ [] else []) → IsOther x
    by_test true to (inl e) = subst IsOther (sym e) (refl, refl, refl)
    by_test true to (inr z) = absurd z
    by_test false to z = absurd z

pub risen_other : (t : Target) (x : Mail) → IsIn x (risen_cancels t) → IsOther x
risen_other t x h = by_test (nat_lt t.sent_mark t.node.mark) h
  where
    by_test : (b : Bool) → IsIn x (if b then cancels t t.node.mark (between_from t.home.batches 0 t.sent_mark t.node.mark 0) else []) → IsOther x
    by_test true z = cancel_other t t.node.mark (between_from t.home.batches 0 t.sent_mark t.node.mark 0) x z
    by_test false z = absurd z

pub mark_epoch : (s : TargetState) (mark : ℕ) → (with_mark s mark).epoch ≡ s.epoch
mark_epoch s mark = by_test (nat_lt s.mark mark)
  where
    by_test : (b : Bool) → (if b then marked s mark else s).epoch ≡ s.epoch
    by_test true = refl
    by_test false = refl

pub mark_notes : (t n : ℕ) (s : TargetState) (mark : ℕ) → NotesBegun t n s → NotesBegun t n (with_mark s mark)
mark_notes t n s mark k = by_test (nat_lt s.mark mark)
  where
    by_test : (b : Bool) → NotesBegun t n (if b then marked s mark else s)
    by_test true = record { held = k.held; ended = k.ended }
    by_test false = k

pub execute_epoch : (s : TargetState) (by : Name) (r : Record) → (after_execute s by r).epoch ≡ s.epoch
execute_epoch s by r = by_test (is_held_by s.holder by)
  where
    by_test : (b : Bool) → (if b then executed s by r else s).epoch ≡ s.epoch
    by_test true = refl
    by_test false = refl

-- the home goes on as it is
pub same_home : (t v : Target) → v.home.attempts ≡ t.home.attempts → v.home.asks ≡ t.home.asks → v.home.current ≡ t.home.current → GoesOnFrom t v
same_home t v a b d = inr (sym a, omega (arith, b), λ h e. (h, sym d ∙ e, refl))

module _ (c : Cluster) (to : ℕ) where
  pub other_numbered : (v : Target) (x : Mail) → IsOther x → IsNumbered c to v x
  other_numbered v x o = record { own = λ k. absurd (true≢false (sym k ∙ o.0)); told = λ k. absurd (true≢false (sym k ∙ o.1)); begun = λ k. absurd (true≢false (sym k ∙ o.2)) }

module _ (c : Cluster) (to : ℕ) (numbered : AreNumbered c) (up : serves (target_at c.targets to) ≡ true) where
  abbrev there : Target
  there = target_at c.targets to

  notes : NotesBegun to there.home.attempts there.node
  notes = numbered.notes to up

  -- what a commit tells
  pub commits_give : (f : Fate) → GivesNumbers c to (commits there f)
  commits_give f = record {
    same = λ s. mark_epoch _ _;
    next = λ s. same_home there (commits there f).target refl refl refl;
    notes = λ s. mark_notes to there.home.attempts (committed there.node) (noted there.home there.index (length there.home.batches)).mark (record { held = notes.held; ended = notes.ended });
    sent = λ x h. other_numbered c to (commits there f).target x (⊎_elim (stable_other _ _ _ x) (risen_other _ x) (mem_append (stables _ _ _) (risen_cancels _) x h));
  }

  pub stops_give : (f : Fate) → GivesNumbers c to (stops there f)
  stops_give f = record { same = λ s. absurd (true≢false (sym s)); next = λ s. absurd (true≢false (sym s)); notes = λ s. absurd (true≢false (sym s)); sent = λ x h. absurd h }

  pub note_gives : (from batch : ℕ) → GivesNumbers c to (quiet (note there from batch))
  note_gives from batch = record { same = λ s. mark_epoch there.node (noted there.home from batch).mark; next = λ s. same_home there (note there from batch) refl refl refl; notes = λ s. mark_notes to there.home.attempts there.node (noted there.home from batch).mark notes; sent = λ x h. absurd h }

  pub cancel_gives : (of mark : ℕ) → GivesNumbers c to (quiet (record there { node = cancelled there.node of mark }))
  cancel_gives of mark = record { same = λ s. refl; next = λ s. same_home there (record there { node = cancelled there.node of mark }) refl refl refl; notes = λ s. record { held = notes.held; ended = notes.ended }; sent = λ x h. absurd h }

  pub execute_gives : (k : ℕ) (m : Mail) (r : Record) → (m.from ≡ to → m.attempt ≤ there.home.attempts) → GivesNumbers c to (on_execute k there m r)
  execute_gives k m r own = record {
    same = λ s. execute_epoch there.node (attempt_of m) r;
    next = λ s. same_home there (on_execute k there m r).target refl refl refl;
    notes = λ s. execute_notes to there.home.attempts there.node (attempt_of m) notes own r;
    sent = λ x h. ⊎_elim (λ (e : x ≡ executed_message there.node.epoch there.index m). other_numbered c to (on_execute k there m r).target x (subst IsOther (sym e) (refl, refl, refl))) (λ z. absurd z) h;
  }

  pub release_gives : (k : ℕ) (m : Mail) → (m.from ≡ to → m.attempt ≤ there.home.attempts) → GivesNumbers c to (on_release k there m)
  release_gives k m own = record {
    same = λ s. release_epoch there.node (attempt_of m);
    next = λ s. same_home there (on_release k there m).target refl refl refl;
    notes = λ s. release_notes to there.home.attempts there.node (attempt_of m) notes own;
    sent = λ x h. ⊎_elim (λ (e : x ≡ released_message there.node.epoch there.index m). other_numbered c to (on_release k there m).target x (subst IsOther (sym e) (refl, refl, refl))) (λ z. absurd z) h;
  }

  -- more is said
  pub says_too : (ls : List Line) (u : Turned) → GivesNumbers c to u → GivesNumbers c to (joins (says there ls) u)
  says_too ls u g = record { same = g.same; next = g.next; notes = g.notes; sent = g.sent }

  -- a target is asked to commit, and answers under the number of the order
  module _ (m : Sent) (kept : IsIn m c.sent) (is_sync : m.message.kind ≡ kind.Sync) (now : m.message.epoch ≡ there.node.epoch) where
    answers : (u : Turned) → GivesNumbers c to u → GivesNumbers c to (synced_from m.message u)
    answers u g = by_test (serves u.target) refl
      where
        by_test : (b : Bool) → serves u.target ≡ b → GivesNumbers c to (if b then joins u (sends u.target (synced_message u.target.node.epoch u.target.index m.message ∷ [])) else u)
        by_test false e = g
        by_test true e = record {
          same = g.same;
          next = g.next;
          notes = g.notes;
          sent = λ x h. ⊎_elim (g.sent x)
              (λ n. ⊎_elim (λ (is : x ≡ synced_message u.target.node.epoch u.target.index m.message). subst (IsNumbered c to u.target) (sym is) (record {
                own = λ z. absurd (true≢false (sym z));
                told = λ z. (m, kept, record { asks = ap is_ask is_sync; epoch = now ∙ sym (g.same e); home = refl; attempt = refl; ask = refl; number = refl });
                begun = λ z. absurd (true≢false (sym z));
              })) (λ z. absurd z) n)
              (mem_append u.sent (synced_message u.target.node.epoch u.target.index m.message ∷ []) x h);
        }

    pub syncing_gives : (number writer : ℕ) (f : Fate) → GivesNumbers c to (syncing number writer there f)
    syncing_gives number writer f = by_waiting (is_empty there.node.waiting)
      where
        by_fate : (b : Bool) → GivesNumbers c to (joins (says there (lines.Shared there.index number writer ∷ [])) (if b then commits there f else stops there f))
        by_fate true = says_too (lines.Shared there.index number writer ∷ []) (commits there f) (commits_give f)
        by_fate false = says_too (lines.Shared there.index number writer ∷ []) (stops there f) (stops_give f)

        by_waiting : (b : Bool) → GivesNumbers c to (if b then quiet there else joins (says there (lines.Shared there.index number writer ∷ [])) (committing there f))
        by_waiting true = record { same = λ s. refl; next = λ s. same_home there there refl refl refl; notes = λ s. notes; sent = λ x h. absurd h }
        by_waiting false = by_fate f.up

    pub sync_gives : (k : ℕ) (f : Fate) → GivesNumbers c to (on_sync k there m.message f)
    sync_gives k f = by_held (is_held_by there.node.holder (attempt_of m.message))
      where
        by_held : (b : Bool) → GivesNumbers c to (if b then synced_from m.message (syncing m.message.number m.message.value there f) else ignores k there)
        by_held true = answers (syncing m.message.number m.message.value there f) (syncing_gives m.message.number m.message.value f)
        by_held false = record { same = λ s. refl; next = λ s. same_home there there refl refl refl; notes = λ s. notes; sent = λ x h. absurd h }
