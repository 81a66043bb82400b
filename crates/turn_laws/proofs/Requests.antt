-- What agrees, agrees where more requests were sent.
use Rattle.std.proofs.Common.{ℕ, List}
use Rattle.tree_model.specs.declared.op.Request.{Request}
use Rattle.update_record.specs.declared.message.Message.{Message as Mail}
use Rattle.update_record.specs.declared.message.MessageKind.{MessageKind}
use Rattle.update_record.specs.declared.message.MessageKind.TheVariants as kind
use Rattle.cluster_mail.specs.declared.content.Content.{Content}
use Rattle.cluster_mail.specs.declared.content.Content.TheVariants as content
use Rattle.target_state.specs.State.{TargetState}
use Rattle.update_coordinator.specs.Coordinating.{Coordinating}
use Rattle.target_turns.specs.Target.{Target}
use Rattle.update_protocol.specs.Lists.{IsIn}
use Rattle.update_protocol.specs.World.{Accepted, Attempt, History, Message}
use Rattle.turn_laws.specs.Values.{Genuine, Questions, Slice}
use Rattle.turn_laws.specs.Agrees.{Carried, IsItem, Keeps, KeepsHome, KeepsNode, Tied, TiedHeld, TiedHold}

module _ (targets e : ℕ) (sent later : List Request) (more : (q : Request) → IsIn q sent → IsIn q later) where
  pub still_genuine : (a : Attempt) → Genuine targets sent a → Genuine targets later a
  still_genuine a h = (more a.who.request h.0, h.1)

  pub still_item : (x : Accepted) → IsItem targets e sent x → IsItem targets e later x
  still_item x h = record { genuine = still_genuine x.attempt h.genuine; fits = h.fits }

  pub still_node : (start : ℕ) (base : History) (since : List Accepted) (t : ℕ) (s : Slice) (n : TargetState) → KeepsNode targets e sent start base since t s n → KeepsNode targets e later start base since t s n
  still_node start base since t s n k = record {
    cluster = k.cluster;
    index = k.index;
    epoch = k.epoch;
    transno = k.transno;
    clock = k.clock;
    mark = k.mark;
    seats = k.seats;
    objects = k.objects;
    log = k.log;
    waiting = k.waiting;
    writers = k.writers;
    holder = k.holder;
    genuine = λ a h. still_genuine a (k.genuine a h);
    wide = k.wide;
    ended = k.ended;
  }

  pub still_home : (since : List Accepted) (t : ℕ) (s : Slice) (c : Coordinating) → KeepsHome targets e sent since t s c → KeepsHome targets e later since t s c
  still_home since t s c k = record {
    cluster = k.cluster;
    at_home = k.at_home;
    epoch = k.epoch;
    attempts = k.attempts;
    batches = k.batches;
    sets = k.sets;
    wide = k.wide;
    stable = k.stable;
    mark = k.mark;
    under = k.under;
    idle = k.idle;
    going = λ g is. let o = k.going g is in record { attempt = o.attempt; current = o.current; request = o.request; genuine = still_genuine o.attempt o.genuine };
  }

  pub still_keeps : (start : ℕ) (base : History) (since : List Accepted) (t : ℕ) (s : Slice) (x : Target) → Keeps targets e sent start base since t s x → Keeps targets e later start base since t s x
  still_keeps start base since t s x k = record { cluster = k.cluster; index = k.index; node = still_node start base since t s x.node k.node; home = still_home since t s x.home k.home }

  module _ (asked : Questions) (since : List Accepted) (pool : List Message) where
    still_hold : (m : Mail) (c : Content) → TiedHold targets e sent asked since pool m c → TiedHold targets e later asked since pool m c
    still_hold m (content.Questions q) h = (h.0, h.1, still_genuine h.0 h.2, h.3, h.4)
    still_hold m (content.Asks op) h = absurd h
    still_hold m (content.Tells f) h = absurd h
    still_hold m (content.Carries r) h = absurd h
    still_hold m content.Nothing h = absurd h

    still_held : (m : Mail) (c : Content) → TiedHeld targets e sent asked since pool m c → TiedHeld targets e later asked since pool m c
    still_held m (content.Tells f) h = (h.0, h.1, still_genuine h.0 h.2, h.3, h.4, h.5, h.6, h.7)
    still_held m (content.Asks op) h = absurd h
    still_held m (content.Questions q) h = absurd h
    still_held m (content.Carries r) h = absurd h
    still_held m content.Nothing h = absurd h

    still_tied : (k : MessageKind) (m : Mail) (c : Content) → Tied targets e sent asked since pool k m c → Tied targets e later asked since pool k m c
    still_tied kind.Hold m c h = still_hold m c h
    still_tied kind.Held m c h = still_held m c h
    still_tied kind.Sync m c h = (h.0, h.1, still_genuine h.0 h.2, h.3, h.4, h.5, h.6)
    still_tied kind.Synced m c h = (h.0, h.1, still_genuine h.0 h.2, h.3)
    still_tied kind.Execute m c h = h
    still_tied kind.Release m c h = (h.0, h.1, still_genuine h.0 h.2, h.3)
    still_tied kind.Stable m c h = h
    still_tied kind.Cancel m c h = h
    still_tied kind.Request m c h = tt
    still_tied kind.HoldBusy m c h = tt
    still_tied kind.Executed m c h = tt
    still_tied kind.Released m c h = tt

    pub still_carried : (m : Mail) → Carried targets e sent asked since pool m → Carried targets e later asked since pool m
    still_carried m h = (h.0, h.1, still_tied m.kind m h.0 h.2)
