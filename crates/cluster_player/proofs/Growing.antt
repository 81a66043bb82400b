-- No command takes a message back: there are never fewer of them.
use Rattle.std.proofs.Common.{◌≡◌, inl, inr, ◌≤◌, ◌+◌, ◌-◌, ℕ, Bool, true, false, List, [], ◌∷◌, ◌++◌, Option, Some, None, length, map, sym, subst, arith, length-append}
use Rattle.std.specs.List.{flat_map}
use Rattle.std.proofs.lemmas.List.{length-set}
use Rattle.update_record.specs.declared.message.Message.{Message}
use Rattle.cluster_mail.specs.Mail.{Sent, fresh, sent_at}
use Rattle.scenario_text.specs.declared.line.Line.{Line}
use Rattle.scenario_text.specs.declared.command.Command.{Command}
use Rattle.scenario_text.specs.declared.command.Command.TheVariants as commands
use Rattle.target_turns.specs.Target.{Target, Turned, Fate}
use Rattle.target_turns.specs.Disks.{Calls}
use Rattle.target_turns.specs.Commanded.{resends}
use Rattle.target_turns.specs.Founding.{crashes}
use Rattle.cluster_core.specs.Cluster.{Cluster, Turns, after_turn, fate_at, target_at}
use Rattle.cluster_core.specs.Commands.{crashed, drops, resends_all, with_target}
use Rattle.cluster_core.specs.Delivery.{DeliversBy, AreSteps, Step, marked}
use Rattle.cluster_core.specs.Ends.{Commit, AreCommits, EndsBy}
use Rattle.cluster_player.specs.Commanded.{Orders}

-- as many messages, or more
unfoldable pub Grows : Cluster → Cluster → Type 0
Grows old new = length old.sent ≤ length new.sent

grows_self : (c : Cluster) → Grows c c
unfolding Grows
grows_self c = omega arith

grows_next : (a b c : Cluster) → Grows a b → Grows b c → Grows a c
unfolding Grows
grows_next a b c p q = omega (arith, p, q)

grows_is : (a b c : Cluster) → Grows a b → c ≡ b → Grows a c
grows_is a b c p e = subst (λ (x : Cluster). Grows a x) (sym e) p

longer : (c : Cluster) (more : List Sent) → Grows c (record c { sent = c.sent ++ more })
unfolding Grows
longer c more = (let l = length-append c.sent more in omega (arith, l))

grows_marked : (c : Cluster) (k : ℕ) → Grows c (marked c k)
unfolding Grows
grows_marked c k = (let l = length-set c.sent (k - 1) (record (sent_at c.sent k) { delivered = true }) in omega (arith, l))

grows_dropped : (c : Cluster) (k : ℕ) → Grows c (drops c k)
unfolding Grows
grows_dropped c k = (let l = length-set c.sent (k - 1) (record (sent_at c.sent k) { dropped = true }) in omega (arith, l))

grows_turn : (c : Cluster) (i : ℕ) (u : Turned) → Grows c (after_turn c i u)
unfolding Grows
grows_turn c i u = (let l = length-append c.sent (map fresh u.sent) in omega (arith, l))

grows_by : (c : Cluster) (i : ℕ) (turn : Fate → Turned) (new : Cluster) → Turns c i turn new → Grows c new
grows_by c i turn new t = grows_is c (after_turn c i (turn (fate_at new i))) new (grows_turn c i (turn (fate_at new i))) t.after

grows_with : (c : Cluster) (i : ℕ) (t : Target) → Grows c (with_target c i t)
unfolding Grows
grows_with c i t = omega arith

-- deliveries
grows_delivered : (b : Bool) (c : Cluster) (k : ℕ) (m : Message) (new : Cluster) (ls : List Line) → DeliversBy b c k m new ls → Grows c new
grows_delivered true c k m new ls d = grows_next c (marked c k) new (grows_marked c k) (grows_by (marked c k) _ _ new d.turn)
grows_delivered false c k m new ls (inl d) = grows_next c (marked c k) new (grows_marked c k) (grows_by (marked c k) _ _ new d.turn)
grows_delivered false c k m new ls (inr d) = grows_is c (marked c k) new (grows_marked c k) d.after

grows_steps : (c : Cluster) (ss : List Step) (new : Cluster) → AreSteps c ss new → Grows c new
grows_steps c [] new e = grows_is c c new (grows_self c) e
grows_steps c (s ∷ ss) new h = grows_next c s.after new (grows_delivered _ c s.number _ s.after s.said h.1) (grows_steps s.after ss new h.2)

-- commits
grows_commits : (i : ℕ) (c : Cluster) (ss : List Commit) (new : Cluster) → AreCommits i c ss new → Grows c new
grows_commits i c [] new e = grows_is c c new (grows_self c) e
grows_commits i c (s ∷ ss) new h = grows_next c s.after new (grows_by c i _ s.after h.0.turn) (grows_commits (i + 1) s.after ss new h.2)

grows_ended : (resting flight : Option ℕ) (c new : Cluster) (ls : List Line) → EndsBy resting flight c new ls → Grows c new
grows_ended (Some t) flight c new ls e = grows_is c c new (grows_self c) e.0
grows_ended None (Some n) c new ls e = grows_is c c new (grows_self c) e.0
grows_ended None None c new ls (inl e) = grows_commits 0 c e.commits new e.are
grows_ended None None c new ls (inr e) = grows_next c e.before new (grows_commits 0 c e.commits e.before e.are) (grows_by e.before _ _ new e.breaks.turn)

pub grows : (calls : Calls) (c : Cluster) (command : Command) (new : Cluster) (ls : List Line) → Orders calls c command new ls → Grows c new
grows calls c (commands.Cluster n) new ls o = absurd o
grows calls c (commands.Send r) new ls o = absurd o
grows calls c (commands.Again n) new ls o = absurd o
grows calls c (commands.Deliver k) new ls o = grows_delivered _ c k _ new ls o
grows calls c (commands.Drop k) new ls o = grows_is c (drops c k) new (grows_dropped c k) o.0
grows calls c commands.Settle new ls o = grows_steps c o.steps new o.are
grows calls c commands.Resend new ls o = grows_is c (resends_all c) new (longer c (map fresh (flat_map resends c.targets))) o.0
grows calls c commands.List new ls o = grows_is c c new (grows_self c) o.0
grows calls c (commands.Log t) new ls o = grows_is c c new (grows_self c) o.0
grows calls c commands.Tree new ls o = grows_is c c new (grows_self c) o.0
grows calls c commands.End new ls o = grows_ended _ _ c new ls o
grows calls c (commands.Commit t) new ls o = grows_by c t _ new o.turn
grows calls c (commands.Crash t) new ls o = grows_is c (crashed c t) new (grows_turn c t (crashes (target_at c.targets t))) o.0
grows calls c (commands.Restart t) new ls o = grows_is c (with_target c t (target_at new.targets t)) new (grows_with c t (target_at new.targets t)) o.after
grows calls c (commands.Fuse t after choice) new ls o = grows_is c c new (grows_self c) o.1
