-- What a home gives in its own turn, whatever its attempt does.
use Rattle.std.proofs.Common.{◌≡◌, ◌<◌, ◌≤◌, ◌==◌, ◌&&◌, inl, inr, ⊎_elim, length, ℕ, Bool, true, false, not, true≢false, if◌then◌else◌, [], ◌∷◌, Option, Some, None, refl, sym, ap, ◌∙◌, subst, arith}
use Rattle.fid_space.specs.Targets.{is_member}
use Rattle.tree_model.specs.declared.op.Request.{Request}
use Rattle.update_record.specs.Spelling.{targets_from}
use Rattle.update_record.specs.declared.message.Attempt.{Attempt as Name}
use Rattle.update_record.specs.declared.message.Message.{Message as Mail}
use Rattle.update_record.specs.declared.operation.Record.{Record}
use Rattle.scenario_text.specs.declared.line.Line.{Line}
use Rattle.scenario_text.specs.declared.line.Line.TheVariants as lines
use Rattle.cluster_mail.specs.Asking.{execute_message, hold_message, release_message, sync_message}
use Rattle.target_state.specs.Commit.{committed, is_empty}
use Rattle.update_coordinator.specs.Coordinating.{Coordinating}
use Rattle.update_coordinator.specs.Marks.{noted}
use Rattle.update_coordinator.specs.Rules.{all_targets, heard}
use Rattle.update_coordinator.specs.declared.words.Action.{Action}
use Rattle.update_coordinator.specs.declared.words.Action.TheVariants as actions
use Rattle.update_coordinator.specs.declared.words.Event.{Event}
use Rattle.update_coordinator.specs.declared.words.Event.TheVariants as events
use Rattle.update_coordinator.specs.declared.words.Going.{Going}
use Rattle.target_turns.specs.Home.{commits_or_finishes, ends_with, execute_to, executes, finishes, finishes_walk, goes_on, goes_on_synced, hears, hears_awaited, most_steps, own_attempt, release_to, releases, walks, writer_at}
use Rattle.target_turns.specs.Marks.{commits, committing, risen_cancels, stables, stops, syncing}
use Rattle.target_turns.specs.Target.{Fate, Target, Turned, joins, quiet, says, sends, serves}
use Rattle.update_protocol.specs.Lists.{IsIn}
use Rattle.turn_laws.specs.Values.{Cluster, after_turn, target_at}
use Rattle.turn_laws.proofs.Commits.{in_flat}
use Rattle.turn_laws.proofs.Points.{mem_append}
use Rattle.home_laws.specs.Asking.{AreNumbered, GivesNumbers, GoesOnFrom, IsNumbered, NotesBegun, is_ask, is_of_attempt, is_told}
use Rattle.home_laws.proofs.Given.{gives_more, release_epoch}
use Rattle.home_laws.proofs.Moves.{Moves, Walks, goes_for, heard_moves, same_attempts, walk_moves}
use Rattle.home_laws.proofs.Noting.{execute_notes, release_notes}
use Rattle.home_laws.proofs.Orders.{IsOther, execute_epoch, mark_epoch, mark_notes, other_numbered, risen_other, stable_other}

pub releases_are : (by : Name) (on : ℕ) (x : Mail) → IsIn x (releases by on) → (s : ℕ) × (x ≡ release_message by s)
unfolding releases
releases_are by on x h = let s = in_flat (release_to by on) all_targets x h in (s.0, by_test s.0 (is_member on s.0) s.2)
  where
    by_test : (s : ℕ) (b : Bool) → IsIn x (if b then release_message by s ∷ [] else []) → x ≡ release_message by s
    by_test s true (inl q) = q
    by_test s true (inr z) = absurd z
    by_test s false z = absurd z

pub executes_are : (by : Name) (index : ℕ) (r : Record) (x : Mail) → IsIn x (executes by index r) → (s : ℕ) × (x ≡ execute_message by s r)
unfolding executes
executes_are by index r x h = let s = in_flat (execute_to by index r) all_targets x h in (s.0, by_test s.0 (is_member (targets_from 0 r.parts) s.0 && not (s.0 == index)) s.2)
  where
    by_test : (s : ℕ) (b : Bool) → IsIn x (if b then execute_message by s r ∷ [] else []) → x ≡ execute_message by s r
    by_test s true (inl q) = q
    by_test s true (inr z) = absurd z
    by_test s false z = absurd z

module _ (c : Cluster) (to : ℕ) (r : Request) (going : Going) (current : (target_at c.targets to).home.current ≡ Some going) (of : going.course.request ≡ r)
    (index : (target_at c.targets to).index ≡ to) (at_home : (target_at c.targets to).home.master ≡ (target_at c.targets to).index)
    (notes : NotesBegun to (target_at c.targets to).home.attempts (target_at c.targets to).node) (f : Fate) where
  abbrev was : Target
  was = target_at c.targets to

  abbrev by : Name
  by = own_attempt was r.number

  -- where a turn of the home has come to
  record Stands (v : Target) : Type 0 where
    epoch : v.node.epoch ≡ was.node.epoch
    index_is : v.index ≡ was.index
    home_is : v.home.master ≡ was.home.master
    attempts : v.home.attempts ≡ was.home.attempts
    asks : was.home.asks ≤ v.home.asks
    goes_for : (h : Going) → v.home.current ≡ Some h → h.course.request ≡ r
    notes_are : NotesBegun to was.home.attempts v.node

  goes : (v : Target) → Stands v → GoesOnFrom was v
  goes v s = inr (sym s.attempts, s.asks, λ h e. (going, current, ap (λ (y : Request). y.number) (s.goes_for h e ∙ sym of)))

  -- an order of the attempt that gives no number
  ordered : (v : Target) → v.home.attempts ≡ was.home.attempts → (x : Mail) → x.from ≡ by.master → x.attempt ≡ by.attempt → is_ask x.kind ≡ false → is_told x.kind ≡ false → IsNumbered c to v x
  ordered v same x from attempt a t = record {
    own = λ k. absurd (true≢false (sym k ∙ a));
    told = λ k. absurd (true≢false (sym k ∙ t));
    begun = λ k. (from ∙ index, omega (arith, attempt, same));
  }

  -- the message that asks
  asking : (v : Target) → Stands v → (x : Mail) → x.from ≡ by.master → x.attempt ≡ by.attempt → x.number ≡ by.number → x.ask ≡ v.home.asks → is_told x.kind ≡ false → GivesNumbers c to (sends v (x ∷ []))
  asking v s x from attempt number ask t = record {
    same = λ _. s.epoch;
    next = λ _. goes v s;
    notes = λ _. subst (λ n. NotesBegun to n v.node) (sym s.attempts) s.notes_are;
    sent = λ y h. ⊎_elim
        (λ (e : y ≡ x). subst (IsNumbered c to v) (sym e) (record {
          own = λ k. (from ∙ index, inr (attempt ∙ sym s.attempts, omega (arith, ask), λ h is. number ∙ ap (λ (y : Request). y.number) (sym (s.goes_for h is))));
          told = λ k. absurd (true≢false (sym k ∙ t));
          begun = λ k. (from ∙ index, (let same = s.attempts in omega (arith, attempt, same)));
        })) (λ z. absurd z) h;
  }

  own : by.master ≡ to → by.attempt ≤ was.home.attempts
  own e = omega arith

  over : (v : Target) → Stands v → (line : Line) → GivesNumbers c to (ends_with by v line)
  over v s line = record {
    same = λ _. release_epoch v.node by ∙ s.epoch;
    next = λ _. goes v s;
    notes = λ _. subst (λ n. NotesBegun to n (ends_with by v line).target.node) (sym s.attempts) (release_notes to was.home.attempts v.node by s.notes_are own);
    sent = λ x h. let q = releases_are by v.home.released x h in subst (IsNumbered c to (ends_with by v line).target) (sym q.1) (ordered (ends_with by v line).target s.attempts (release_message by q.0) refl refl refl refl);
  }

  finish_gives : (v : Target) → Stands v → (a : Action) → GivesNumbers c to (finishes by v a)
  finish_gives v s (actions.Ask n) = asking v s (hold_message by n.target v.home.asks (n.ask ∷ [])) refl refl refl refl refl
  finish_gives v s (actions.HoldOnly at) = asking v s (hold_message by at v.home.asks []) refl refl refl refl refl
  finish_gives v s (actions.Sync at writer) = asking v s (sync_message by at v.home.asks writer) refl refl refl refl refl
  finish_gives v s (actions.Accept x) = record {
    same = λ _. execute_epoch v.node by x ∙ s.epoch;
    next = λ _. goes v s;
    notes = λ _. subst (λ n. NotesBegun to n (finishes by v (actions.Accept x)).target.node) (sym s.attempts) (execute_notes to was.home.attempts v.node by s.notes_are own x);
    sent = λ y h. ⊎_elim
        (λ (z : IsIn y (executes by v.index x)). let q = executes_are by v.index x y z in subst (IsNumbered c to (finishes by v (actions.Accept x)).target) (sym q.1) (ordered (finishes by v (actions.Accept x)).target s.attempts (execute_message by q.0 x) refl refl refl refl))
        (λ (z : IsIn y (releases by v.home.released)). let q = releases_are by v.home.released y z in subst (IsNumbered c to (finishes by v (actions.Accept x)).target) (sym q.1) (ordered (finishes by v (actions.Accept x)).target s.attempts (release_message by q.0) refl refl refl refl))
        (mem_append (executes by v.index x) (releases by v.home.released) y h);
  }
  finish_gives v s (actions.Answer w) = over v s (lines.Reply by.number w)
  finish_gives v s (actions.Busy k) = over v s (lines.Busy by.number k)
  finish_gives v s (actions.Full at load need) = over v s (lines.Full by.number at load need)
  finish_gives v s (actions.Recovering at) = over v s (lines.Recovering by.number at)
  finish_gives v s actions.Nothing = record { same = λ _. s.epoch; next = λ _. goes v s; notes = λ _. subst (λ n. NotesBegun to n v.node) (sym s.attempts) s.notes_are; sent = λ x h. absurd h }

  -- its coordinator has moved
  moved : (v : Target) → Stands v → (h : Coordinating) (a : Action) → Moves v.home r h a → Stands (record v { home = h })
  moved v s h a m = let q = goes_for v.home r h a m in record {
    epoch = s.epoch;
    index_is = s.index_is;
    home_is = q.0 ∙ s.home_is;
    attempts = same_attempts v.home r h a m ∙ s.attempts;
    asks = (let x = s.asks in let y = q.1 in omega (arith, x, y));
    goes_for = q.2;
    notes_are = s.notes_are;
  }

  walks_give : (v : Target) → Stands v → (h : Coordinating) (a : Action) → Moves v.home r h a → GivesNumbers c to (finishes_walk by (walks (record v { home = h }) a))
  walks_give v s h a m =
      let x : Walks v r (walks (record v { home = h }) a) = walk_moves v r (s.home_is ∙ at_home ∙ sym s.index_is) most_steps h a m in
      subst (λ (t : Target). GivesNumbers c to (finishes by t (walks (record v { home = h }) a).action)) (sym x.there)
      (finish_gives (record v { home = x.home }) (moved v s x.home (walks (record v { home = h }) a).action x.moves) (walks (record v { home = h }) a).action)

  joined : (u x : Turned) → ((y : Mail) → IsIn y u.sent → IsOther y) → GivesNumbers c to x → GivesNumbers c to (joins u x)
  joined u x others g = record { same = g.same; next = g.next; notes = g.notes; sent = λ y h. ⊎_elim (λ (z : IsIn y u.sent). other_numbered c to x.target y (others y z)) (g.sent y) (mem_append u.sent x.sent y h) }

  abbrev after : Turned → Turned
  after u = finishes_walk by (walks (hears u.target events.Synced).target (hears u.target events.Synced).action)

  -- what it hears once it has committed
  synced_gives : (u : Turned) → ((y : Mail) → IsIn y u.sent → IsOther y) → ((s : serves u.target ≡ true) → Stands u.target × (g : Going) × (u.target.home.current ≡ Some g)) → GivesNumbers c to (goes_on_synced by u)
  synced_gives u others stands = by_test (serves u.target) refl
    where
      goes_then : Stands u.target → (g : Going) → u.target.home.current ≡ Some g → GivesNumbers c to (after u)
      goes_then s g e = walks_give u.target s (heard u.target.home events.Synced).after (heard u.target.home events.Synced).action
          (subst (λ q. Moves u.target.home q (heard u.target.home events.Synced).after (heard u.target.home events.Synced).action) (s.goes_for g e) (heard_moves u.target.home events.Synced g e refl))

      by_test : (b : Bool) → serves u.target ≡ b → GivesNumbers c to (if b then joins u (after u) else u)
      by_test true e = let q = stands e in joined u (after u) others (goes_then q.0 q.1 q.2)
      by_test false e = record { same = λ s. absurd (true≢false (sym s ∙ e)); next = λ s. absurd (true≢false (sym s ∙ e)); notes = λ s. absurd (true≢false (sym s ∙ e)); sent = λ y h. other_numbered c to u.target y (others y h) }

  commit_gives : (v : Target) → Stands v → (g : Going) → v.home.current ≡ Some g → (writer : ℕ) → GivesNumbers c to (goes_on_synced by (syncing by.number writer v f))
  commit_gives v s g e writer = by_waiting (is_empty v.node.waiting)
    where
      by_fate : (b : Bool) → GivesNumbers c to (goes_on_synced by (joins (says v (lines.Shared v.index by.number writer ∷ [])) (if b then commits v f else stops v f)))
      by_fate true = synced_gives (joins (says v (lines.Shared v.index by.number writer ∷ [])) (commits v f)) (λ y h. ⊎_elim (stable_other _ _ _ y) (risen_other _ y) (mem_append (stables _ _ _) (risen_cancels _) y h))
          (λ _. (record { epoch = mark_epoch (committed v.node) (noted v.home v.index (length v.home.batches)).mark ∙ s.epoch; index_is = s.index_is; home_is = s.home_is; attempts = s.attempts; asks = s.asks; goes_for = s.goes_for; notes_are = mark_notes to was.home.attempts (committed v.node) (noted v.home v.index (length v.home.batches)).mark (record { held = s.notes_are.held; ended = s.notes_are.ended }) }, g, e))
      by_fate false = synced_gives (joins (says v (lines.Shared v.index by.number writer ∷ [])) (stops v f)) (λ y h. absurd h) (λ up. absurd (true≢false (sym up)))

      by_waiting : (b : Bool) → GivesNumbers c to (goes_on_synced by (if b then quiet v else joins (says v (lines.Shared v.index by.number writer ∷ [])) (committing v f)))
      by_waiting true = synced_gives (quiet v) (λ y h. absurd h) (λ _. (s, g, e))
      by_waiting false = by_fate f.up

  begins_here : Stands was
  begins_here = record { epoch = refl; index_is = refl; home_is = refl; attempts = refl; asks = omega arith; goes_for = λ h e. ap (λ (y : Going). y.course.request) (sym (some_going going h (sym current ∙ e))) ∙ of; notes_are = notes }
    where
      some_going : (g h : Going) → ◌≡◌ {A = Option Going} (Some g) (Some h) → g ≡ h
      some_going g h e = cc

  by_action : (h : Coordinating) (a : Action) → Moves was.home r h a → GivesNumbers c to (commits_or_finishes by (record { target = record was { home = h }; action = a }) f (writer_at was.index a))
  by_action h (actions.Sync at writer) m = by_home (at == was.index)
    where
      by_home : (b : Bool) → GivesNumbers c to (commits_or_finishes by (record { target = record was { home = h }; action = actions.Sync at writer }) f (if b then Some writer else None))
      by_home true = commit_gives (record was { home = h }) (moved was begins_here h (actions.Sync at writer) m) m.0 (ap (λ (y : Coordinating). y.current) m.2) writer
      by_home false = finish_gives (record was { home = h }) (moved was begins_here h (actions.Sync at writer) m) (actions.Sync at writer)
  by_action h (actions.Ask n) m = finish_gives (record was { home = h }) (moved was begins_here h (actions.Ask n) m) (actions.Ask n)
  by_action h (actions.HoldOnly at) m = finish_gives (record was { home = h }) (moved was begins_here h (actions.HoldOnly at) m) (actions.HoldOnly at)
  by_action h (actions.Accept x) m = finish_gives (record was { home = h }) (moved was begins_here h (actions.Accept x) m) (actions.Accept x)
  by_action h (actions.Answer w) m = finish_gives (record was { home = h }) (moved was begins_here h (actions.Answer w) m) (actions.Answer w)
  by_action h (actions.Busy k) m = finish_gives (record was { home = h }) (moved was begins_here h (actions.Busy k) m) (actions.Busy k)
  by_action h (actions.Full at load need) m = finish_gives (record was { home = h }) (moved was begins_here h (actions.Full at load need) m) (actions.Full at load need)
  by_action h (actions.Recovering at) m = finish_gives (record was { home = h }) (moved was begins_here h (actions.Recovering at) m) (actions.Recovering at)
  by_action h actions.Nothing m = finish_gives (record was { home = h }) (moved was begins_here h actions.Nothing m) actions.Nothing

  -- from a step of its coordinator
  pub goes_gives : (h : Coordinating) (a : Action) → Moves was.home r h a → GivesNumbers c to (goes_on by (record { target = record was { home = h }; action = a }) f)
  goes_gives h a m =
      let x : Walks was r (walks (record was { home = h }) a) = walk_moves was r at_home most_steps h a m in
      subst (λ (t : Target). GivesNumbers c to (commits_or_finishes by (record { target = t; action = (walks (record was { home = h }) a).action }) f (writer_at was.index (walks (record was { home = h }) a).action))) (sym x.there)
      (by_action x.home (walks (record was { home = h }) a).action x.moves)

-- whatever an attempt does, numbers stay given
module _ (c : Cluster) (numbered : AreNumbered c) (to : ℕ) (inside : to < length c.targets) (up : serves (target_at c.targets to) ≡ true)
    (index : (target_at c.targets to).index ≡ to) (at_home : (target_at c.targets to).home.master ≡ to) (going : Going) (current : (target_at c.targets to).home.current ≡ Some going) (f : Fate) where
  abbrev here : Target
  here = target_at c.targets to

  abbrev r : Request
  r = going.course.request

  pub goes_numbers : (h : Coordinating) (a : Action) → Moves here.home r h a → AreNumbered (after_turn c to (goes_on (own_attempt here r.number) (record { target = record here { home = h }; action = a }) f))
  goes_numbers h a m = gives_more c numbered to inside up (goes_on (own_attempt here r.number) (record { target = record here { home = h }; action = a }) f)
      (goes_gives c to r going current refl index (at_home ∙ sym index) (numbered.notes to up) f h a m)

  pub hears_numbers : (e : Event) → is_of_attempt e ≡ true → AreNumbered (after_turn c to (hears_awaited here r.number e f))
  hears_numbers e of = goes_numbers (heard here.home e).after (heard here.home e).action (heard_moves here.home e going current of)
