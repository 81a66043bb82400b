-- A Sync comes.
use Rattle.std.proofs.Common.{◌≡◌, ◌<◌, length, ℕ, Bool, true, false, true≢false, if◌then◌else◌, List, [], ◌∷◌, ◌++◌, map, Some, refl, sym, ap, ◌∙◌, subst, append-nil}
use Rattle.std.proofs.lemmas.List.{get_or-set_same, length-set}
use Rattle.update_record.specs.declared.message.Attempt.{Attempt as Name}
use Rattle.update_record.specs.declared.message.Message.{Message as Mail}
use Rattle.scenario_text.specs.declared.line.Line.{Line}
use Rattle.scenario_text.specs.declared.line.Line.TheVariants as lines
use Rattle.cluster_mail.specs.Answering.{attempt_of, synced_message}
use Rattle.target_state.specs.Commit.{is_empty}
use Rattle.target_state.specs.Rules.{is_held_by, waiting_of}
use Rattle.target_turns.specs.Target.{Fate, Target, Turned, joins, quiet, says, sends, serves}
use Rattle.target_turns.specs.Marks.{commits, committing, stops, syncing}
use Rattle.target_turns.specs.Helping.{ignores, on_sync, synced_from}
use Rattle.update_protocol.specs.Events.{Event, Run}
use Rattle.update_protocol.specs.Lists.{IsIn}
use Rattle.update_protocol.specs.Rows.{pending}
use Rattle.update_protocol.specs.World.{Accepted, Attempt, Sync, World}
use Rattle.update_protocol.proofs.Invariant.{Invariant}
use Rattle.update_protocol.proofs.Setting.{Setting}
use Rattle.update_protocol.proofs.Showing.{pends_behind}
use Rattle.turn_laws.specs.Values.{Cluster, after_turn, no_target, records, slice, target_at}
use Rattle.turn_laws.specs.Agrees.{Agrees, Keeps, TiedSync}
use Rattle.turn_laws.specs.Runs.{IsRun}
use Rattle.turn_laws.proofs.Points.{held_is, holder_tells, settles}
use Rattle.turn_laws.proofs.Then.{run_then}
use Rattle.turn_laws.proofs.Stops.{tears_so}
use Rattle.turn_laws.proofs.Committing.{Committed, whole}
use Rattle.turn_laws.proofs.Synced.{answers_so}

none_pend : (e : ℕ) (since : List Accepted) (ns : List ℕ) → is_empty (map waiting_of (records e since ns)) ≡ true → ns ≡ []
none_pend e since [] q = refl
none_pend e since (n ∷ ns) q = absurd (true≢false (sym q))

module _ (σ : Setting) (c : Cluster) (w : World) (i : Invariant σ.targets w) (g : Agrees σ.targets c w) (k : ℕ) (to : ℕ) (inside : to < length c.targets) (low : to < 16) (up : serves (target_at c.targets to) ≡ true)
    (always : (es : List Event) (w v : World) → Invariant σ.targets w → Run σ.targets w es v → Invariant σ.targets v)
    (m : Mail) (is_to : m.to ≡ to) (tied : TiedSync σ.targets g.epoch g.sent g.asked w.since w.pool m) (f : Fate) where
  abbrev was : Target
  was = target_at c.targets to

  abbrev by : Name
  by = attempt_of m

  abbrev a : Attempt
  a = tied.0

  keeps : Keeps σ.targets g.epoch g.sent (g.start to) w.base w.since to (slice w to) was
  keeps = g.keeps to up

  came : IsIn (Sync a to tied.3) w.pool
  came = subst (λ t. IsIn (Sync a t tied.3) w.pool) is_to tied.6

  abbrev Result : Turned → Type 0
  Result u = IsRun σ.targets w u.lines (after_turn c to u)

  holds : is_held_by was.node.holder by ≡ true → w.holder to ≡ Some a
  holds h = holder_tells σ.targets g.sent g.unique g.epoch (w.holder to) a keeps.node.genuine tied.2 (sym keeps.node.holder ∙ held_is was.node.holder by h ∙ ap (λ (y : Name). Some y) tied.1)

  ignored : Result (ignores k was)
  ignored = record {
    events = [];
    world = w;
    run = refl;
    lines = refl;
    agrees = settles σ.targets c w w g g.sent g.unique g.asked to inside (ignores k was) refl g.items (g.ups to inside) (λ j ne. refl) (λ j ne u. g.keeps j u) (λ u. keeps) (λ x h. h) (λ x h epoch. absurd h);
  }

  -- nothing waits
  rests : is_held_by was.node.holder by ≡ true → is_empty was.node.waiting ≡ true → Result (synced_from m (quiet was))
  rests h none = subst (λ b. Result (if b then joins (quiet was) (sends was (synced_message was.node.epoch was.index m ∷ [])) else quiet was)) (sym up)
      (answers_so σ.targets c w g to inside up a (holds h) tied.3 came all m g.epoch tied.1)
    where
      all : (n : ℕ) → IsIn n (w.done to) → IsIn n (w.disk to)
      all n d = subst (λ l. IsIn n l) (pends_behind σ w i to ∙ ap (λ l. w.disk to ++ l) (none_pend g.epoch w.since (pending w to) (ap is_empty (sym keeps.node.waiting) ∙ none)) ∙ append-nil (w.disk to)) d

  abbrev shared : Line
  shared = lines.Shared was.index m.number m.value

  -- it commits, and answers
  abbrev done : Turned
  done = record { target = (commits was f).target; lines = shared ∷ (commits was f).lines; sent = (commits was f).sent }

  one : Committed σ.targets w to (commits was f).lines (after_turn c to (commits was f))
  one = whole σ c w i g to inside low up always f

  first : Result done
  first = record { events = one.run.events; world = one.run.world; run = one.run.run; lines = one.run.lines; agrees = one.run.agrees }

  abbrev c1 : Cluster
  c1 = after_turn c to done

  here_now : target_at c1.targets to ≡ done.target
  here_now = get_or-set_same c.targets to done.target no_target inside

  inside1 : to < length c1.targets
  inside1 = subst (λ n. to < n) (sym (length-set c.targets to done.target)) inside

  second : is_held_by was.node.holder by ≡ true → IsRun σ.targets one.run.world [] (after_turn c1 to (sends done.target (synced_message done.target.node.epoch done.target.index m ∷ [])))
  second h = subst (λ (x : Target). IsRun σ.targets one.run.world [] (after_turn c1 to (sends x (synced_message x.node.epoch x.index m ∷ [])))) here_now
      (answers_so σ.targets c1 one.run.world one.run.agrees to inside1 (ap serves here_now ∙ up) a (one.holder ∙ holds h) tied.3 (one.more _ came) one.all m g.epoch tied.1)

  commits_so : is_held_by was.node.holder by ≡ true → Result (synced_from m done)
  unfolding first one
  commits_so h = subst (λ b. Result (if b then joins done (sends done.target (synced_message done.target.node.epoch done.target.index m ∷ [])) else done)) (sym up)
      (run_then σ.targets w c to done (sends done.target (synced_message done.target.node.epoch done.target.index m ∷ [])) first (second h))

  -- its disk fails
  abbrev failed : Turned
  failed = record { target = (stops was f).target; lines = shared ∷ (stops was f).lines; sent = [] }

  fails : Result failed
  fails = tears_so σ.targets c w g to inside failed refl (ap (λ t. lines.Down t ∷ []) keeps.index) refl (g.ups to inside ∙ up)

  by_fate : is_held_by was.node.holder by ≡ true → (b : Bool) → Result (synced_from m (joins (says was (shared ∷ [])) (if b then commits was f else stops was f)))
  by_fate h true = commits_so h
  by_fate h false = fails

  by_waiting : is_held_by was.node.holder by ≡ true → (b : Bool) → is_empty was.node.waiting ≡ b → Result (synced_from m (if b then quiet was else joins (says was (shared ∷ [])) (committing was f)))
  by_waiting h true none = rests h none
  by_waiting h false some = by_fate h f.up

  by_holder : (b : Bool) → is_held_by was.node.holder by ≡ b → Result (if b then synced_from m (syncing m.number m.value was f) else ignores k was)
  by_holder false h = ignored
  by_holder true h = by_waiting h (is_empty was.node.waiting) refl

  pub syncs : Result (on_sync k was m f)
  syncs = by_holder (is_held_by was.node.holder by) refl
