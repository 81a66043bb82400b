-- As an epoch begins the cluster agrees with a fresh world.
use Rattle.std.proofs.Common.{◌≡◌, ◌≢◌, ◌<◌, length, ℕ, true, List, [], Option, Some, None, refl, sym, ap, ◌∙◌, subst, arith}
use Rattle.tree_model.specs.declared.op.Request.{Request}
use Rattle.cluster_mail.specs.Mail.{Sent}
use Rattle.target_turns.specs.Target.{serves}
use Rattle.update_coordinator.specs.declared.words.Going.{Going}
use Rattle.update_protocol.specs.Events.{fresh}
use Rattle.update_protocol.specs.Lists.{IsIn}
use Rattle.update_protocol.specs.World.{Attempt, History}
use Rattle.turn_laws.specs.Values.{Cluster, Unique, slice, target_at}
use Rattle.turn_laws.specs.Agrees.{Agrees, KeepsHome, KeepsNode}
use Rattle.turn_laws.specs.Begins.{IsNew, IsNewHome, IsNewNode, start_of}

none_some : (a : Attempt) → ◌≡◌ {A = Option Attempt} None (Some a) → ⊥
none_some a q = cc

none_going : (g : Going) → ◌≡◌ {A = Option Going} None (Some g) → ⊥
none_going g q = cc

none_low : (n : ℕ) → n < 0 → ⊥
none_low n l = omega (arith, l)

module _ (targets e : ℕ) (h : History) (c : Cluster) (sent : List Request) (unique : Unique sent) (few : length c.targets ≡ targets)
    (new : (t : ℕ) → t < targets → IsNew targets e h t (target_at c.targets t)) (beyond : (t : ℕ) → serves (target_at c.targets t) ≡ true → t < targets)
    (old : (m : Sent) → IsIn m c.sent → m.message.epoch ≢ e) where
  new_node : (t : ℕ) → IsNewNode targets e h t (target_at c.targets t).node → KeepsNode targets e sent (target_at c.targets t).node.transno h [] t (slice (fresh (start_of c) h) t) (target_at c.targets t).node
  new_node t n = record {
    cluster = n.cluster;
    index = n.index;
    epoch = n.epoch;
    transno = omega arith;
    clock = refl;
    mark = n.mark;
    seats = n.seats;
    objects = n.objects;
    log = n.log;
    waiting = n.waiting;
    writers = n.writers;
    holder = n.holder;
    genuine = λ a q. absurd (none_some a q);
    wide = n.wide;
    ended = λ m l. refl;
  }

  new_home : (t : ℕ) → IsNewHome targets e t (target_at c.targets t).home → KeepsHome targets e sent [] t (slice (fresh (start_of c) h) t) (target_at c.targets t).home
  new_home t n = record {
    cluster = n.cluster;
    at_home = n.master;
    epoch = n.epoch;
    attempts = refl;
    batches = ap length n.batches;
    sets = λ k l. absurd (none_low k l);
    wide = n.wide;
    stable = n.stable;
    mark = n.mark;
    under = λ k l. absurd (none_low k l);
    idle = λ q. refl;
    going = λ g q. absurd (none_going g (sym n.current ∙ q));
  }

  pub begins_so : Agrees targets c (fresh (start_of c) h)
  begins_so = record {
    epoch = e;
    sent = sent;
    unique = unique;
    asked = λ n. [];
    start = λ t. (target_at c.targets t).node.transno;
    serving = refl;
    items = λ n l. absurd (none_low n l);
    few = few;
    ups = λ t l. sym (new t (subst (λ n. t < n) few l)).up;
    keeps = λ t up. let n = new t (beyond t up) in record { cluster = n.cluster; index = n.index; node = new_node t n.node; home = new_home t n.home };
    carried = λ m g q. absurd (old m g q);
  }
