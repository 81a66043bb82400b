-- An Execute comes.
use Rattle.std.proofs.Common.{◌≡◌, ◌≢◌, ◌≤◌, ◌<◌, ◌||◌, inl, inr, ⊎_elim, max, zero, suc, length, ℕ, Bool, true, false, true≢false, if◌then◌else◌, List, [], ◌∷◌, ◌++◌, Some, None, refl, sym, ap, ◌∙◌, subst, arith}
use Rattle.std.proofs.lemmas.Bool.Decides.{eqb_tells}
use Rattle.std.proofs.lemmas.List.{length-append}
use Rattle.tree_model.specs.Participants.{home_of}
use Rattle.update_record.specs.declared.message.Attempt.{Attempt as Name}
use Rattle.update_record.specs.declared.message.Message.{Message as Mail}
use Rattle.update_record.specs.declared.operation.Record.{Record}
use Rattle.scenario_text.specs.declared.line.Line.TheVariants as lines
use Rattle.cluster_mail.specs.Answering.{attempt_of, executed_message}
use Rattle.cluster_mail.specs.declared.content.Content.TheVariants as content
use Rattle.target_state.specs.Rules.{executed, is_held_by}
use Rattle.target_state.specs.declared.answers.ExecuteAnswer.TheVariants as execute
use Rattle.target_turns.specs.Target.{Target, Turned, serves}
use Rattle.target_turns.specs.Helping.{executed_line, on_execute}
use Rattle.update_protocol.specs.Events.{Execute_comes, May, happens}
use Rattle.update_protocol.specs.Lists.{IsIn, put}
use Rattle.update_protocol.specs.Rows.{has, pending}
use Rattle.update_protocol.specs.World.{Accepted, Execute, Follows, History, World, at, grown, master, request_of}
use Rattle.update_protocol.proofs.Invariant.{Invariant}
use Rattle.update_protocol.proofs.Basics.{by_bool}
use Rattle.update_protocol.proofs.Runs.{gone_full}
use Rattle.update_protocol.proofs.Setting.{Setting}
use Rattle.update_protocol.proofs.Showing.{executed_once, pends_behind}
use Rattle.turn_laws.specs.Values.{Cluster, after_turn, slice, target_at}
use Rattle.turn_laws.specs.Agrees.{Agrees, Carried, Keeps, KeepsNode, TiedExecute}
use Rattle.turn_laws.specs.Runs.{IsRun}
use Rattle.turn_laws.proofs.Points.{eqb_self, held_is, holder_tells, home_moves, settles}
use Rattle.turn_laws.proofs.Executes.{done_slice, node_executes}

pub record HasHome (targets : ℕ) (x : Accepted) : Type 0 where
  pub home : home_of targets (request_of x).op ≡ Some (master x)

pub has_mem : (n : ℕ) (xs : List ℕ) → has n xs ≡ true → IsIn n xs
has_mem n [] e = absurd (true≢false (sym e))
has_mem n (x ∷ xs) e = elim (eqb_tells n x) [
  | inl q ↦ inl q.1
  | inr q ↦ inr (has_mem n xs (sym (ap (λ b. b || has n xs) q.0) ∙ e))
]

pub not_has : (n : ℕ) (xs : List ℕ) → (IsIn n xs → ⊥) → has n xs ≡ false
not_has n xs out = ⊎_elim (λ (e : has n xs ≡ true). absurd (out (has_mem n xs e))) (λ (e : has n xs ≡ false). e) (by_bool (has n xs))

pub matches_at : (targets : ℕ) (h : History) (xs : List Accepted) → Follows targets h xs → (n : ℕ) → n < length xs → HasHome targets (at xs n)
unfolding at
matches_at targets h [] f n l = absurd (omega (arith, l))
matches_at targets h (x ∷ xs) f zero l = record { home = f.0.home }
matches_at targets h (x ∷ xs) f (suc n) l = matches_at targets (grown h x) xs f.1 n (omega (arith, l))

others_execute : (w : World) (n t s : ℕ) → s ≢ t → slice (happens w (Execute_comes n t)) s ≡ slice w s
others_execute w n t s ne = elim (eqb_tells s t) [
  | inl q ↦ absurd (ne q.1)
  | inr q ↦ ap (λ b. record (slice w s) {
    done = if b then w.done t ++ n ∷ [] else w.done s;
    holder = if b then None else w.holder s;
    ended = if b then put (w.ended t) (master (at w.since n)) (max (w.ended t (master (at w.since n))) (at w.since n).attempt.turn) else w.ended s;
    clock = if b then (at w.since n).stamp else w.clock s;
  }) q.0
]

here_execute : (w : World) (n t : ℕ) → slice (happens w (Execute_comes n t)) t ≡ done_slice (slice w t) n (at w.since n) (w.trying t) (w.batches t)
here_execute w n t = ap (λ b. record (slice w t) {
  done = if b then w.done t ++ n ∷ [] else w.done t;
  holder = if b then None else w.holder t;
  ended = if b then put (w.ended t) (master (at w.since n)) (max (w.ended t (master (at w.since n))) (at w.since n).attempt.turn) else w.ended t;
  clock = if b then (at w.since n).stamp else w.clock t;
}) (eqb_self t)

module _ (σ : Setting) (c : Cluster) (w : World) (i : Invariant σ.targets w) (g : Agrees σ.targets c w) (k : ℕ)
    (to : ℕ) (inside : to < length c.targets) (up : serves (target_at c.targets to) ≡ true)
    (m : Mail) (is_to : m.to ≡ to) (r : Record)
    (tied : TiedExecute σ.targets g.epoch g.sent g.asked w.since w.pool m (content.Carries r)) where
  abbrev n : ℕ
  n = tied.0

  abbrev x : Accepted
  x = at w.since n

  abbrev was : Target
  was = target_at c.targets to

  keeps : Keeps σ.targets g.epoch g.sent (g.start to) w.base w.since to (slice w to) was
  keeps = g.keeps to up

  came : IsIn (Execute n to) w.pool
  came = subst (λ t. IsIn (Execute n t) w.pool) is_to tied.4

  holder_is : is_held_by was.node.holder (attempt_of m) ≡ true → w.holder to ≡ Some x.attempt
  holder_is e = holder_tells σ.targets g.sent g.unique g.epoch (w.holder to) x.attempt keeps.node.genuine (g.items n tied.1).genuine
      (sym keeps.node.holder ∙ held_is was.node.holder (attempt_of m) e ∙ ap (λ (y : Name). Some y) tied.2)

  may : is_held_by was.node.holder (attempt_of m) ≡ true → May σ.targets w (Execute_comes n to)
  may e = (came, g.ups to inside ∙ up, holder_is e)

  not_gone : is_held_by was.node.holder (attempt_of m) ≡ true → has n (w.gone to) ≡ false
  not_gone e = not_has n (w.gone to) (λ h. (i.holding.once n tied.1 to (may e).1 (i.executed.has to n (gone_full σ w i to n h to (i.messages (Execute n to) came).1))).0 (holder_is e))

  behind : length (w.disk to) ≤ length (w.done to)
  behind = let a = ap length (pends_behind σ w i to) in let b = length-append (w.disk to) (pending w to) in omega (arith, a, b)

  home : home_of σ.targets (request_of x).op ≡ Some (master x)
  home = (matches_at σ.targets w.base w.since i.follows n tied.1).home

  abbrev turn : Bool → Turned
  turn b = record {
    target = record was { node = if b then executed was.node (attempt_of m) r else was.node };
    lines = executed_line k was.index m.number (if b then execute.Done else execute.Ended) ∷ [];
    sent = executed_message was.node.epoch was.index m ∷ [];
  }

  after : is_held_by was.node.holder (attempt_of m) ≡ true → Keeps σ.targets g.epoch g.sent (g.start to) w.base w.since to (slice (happens w (Execute_comes n to)) to) (turn true).target
  after e = subst (λ s. Keeps σ.targets g.epoch g.sent (g.start to) w.base w.since to s (turn true).target) (sym (here_execute w n to)) (record {
    cluster = keeps.cluster;
    index = keeps.index;
    node = subst (λ (y : Name × Record). KeepsNode σ.targets g.epoch g.sent (g.start to) w.base w.since to (done_slice (slice w to) n (at w.since n) (w.trying to) (w.batches to)) (executed was.node y.0 y.1)) (λ j. (sym tied.2 j, sym tied.3 j))
        (node_executes σ.targets g.epoch g.sent (g.start to) w.base w.since to (slice w to) was.node n (w.trying to) (w.batches to) keeps.node (not_gone e) behind home (λ q. absurd ((executed_once σ w i n to (may e)).3 (sym q))));
    home = home_moves σ.targets g.epoch g.sent w.since to (slice w to) was.home (w.done to ++ n ∷ []) (w.disk to) (w.gone to) None (put (w.ended to) (master x) (max (w.ended to (master x)) x.attempt.turn)) x.stamp keeps.home;
  })

  only_executed : (a : Mail) → IsIn a (executed_message was.node.epoch was.index m ∷ []) → Carried σ.targets g.epoch g.sent g.asked w.since w.pool a
  only_executed a (inl q) = subst (λ (a : Mail). Carried σ.targets g.epoch g.sent g.asked w.since w.pool a) (sym q) (content.Nothing, refl, tt)
  only_executed a (inr h) = absurd h

  -- the line's number and place are the machine's
  named_so : m.number ≡ (request_of x).number
  named_so = ap (λ (y : Name). y.number) tied.2

  by_holder : (b : Bool) → is_held_by was.node.holder (attempt_of m) ≡ b → IsRun σ.targets w (turn b).lines (after_turn c to (turn b))
  by_holder true e = record {
    events = Execute_comes n to ∷ [];
    world = happens w (Execute_comes n to);
    run = (may e, refl);
    lines = ap (λ (y : ℕ × ℕ). lines.Done y.0 y.1 ∷ []) (λ j. (named_so j, keeps.index j));
    agrees = settles σ.targets c w (happens w (Execute_comes n to)) g g.sent g.unique g.asked to inside (turn true) refl g.items (g.ups to inside) (λ j ne. refl)
        (λ j ne u. subst (λ s. Keeps σ.targets g.epoch g.sent (g.start j) w.base w.since j s (target_at c.targets j)) (sym (others_execute w n to j ne)) (g.keeps j u))
        (λ u. after e)
        (λ a h. h)
        (λ a h epoch. only_executed a h);
  }
  by_holder false e = record {
    events = [];
    world = w;
    run = refl;
    lines = refl;
    agrees = settles σ.targets c w w g g.sent g.unique g.asked to inside (turn false) refl g.items (g.ups to inside) (λ j ne. refl) (λ j ne u. g.keeps j u) (λ u. keeps) (λ a h. h) (λ a h epoch. only_executed a h);
  }

  pub executes : IsRun σ.targets w (on_execute k was m r).lines (after_turn c to (on_execute k was m r))
  executes = by_holder (is_held_by was.node.holder (attempt_of m)) refl
