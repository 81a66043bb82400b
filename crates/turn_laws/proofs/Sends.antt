-- Messages that are sent one after another.
use Rattle.std.proofs.Common.{◌≡◌, ◌⊎◌, inl, inr, ⊎_elim, ℕ, List, [], ◌∷◌, ◌++◌, refl, subst}
use Rattle.update_protocol.specs.Events.{Event, MaySend, Run, Send, happens}
use Rattle.update_protocol.specs.Lists.{IsIn}
use Rattle.update_protocol.specs.World.{Cancel, Execute, Held, Hold, Message, Release, Stable, Sync, Synced, World}
use Rattle.turn_laws.specs.Runs.{said}

abbrev pub pushed : List Message → List Message → List Message
pushed [] pool = pool
pushed (p ∷ ps) pool = pushed ps (p ∷ pool)

pub more_pushed : (ps pool : List Message) (p : Message) → IsIn p pool → IsIn p (pushed ps pool)
more_pushed [] pool p m = m
more_pushed (q ∷ ps) pool p m = more_pushed ps (q ∷ pool) p (inr m)

pub in_pushed : (ps pool : List Message) (p : Message) → IsIn p ps → IsIn p (pushed ps pool)
in_pushed [] pool p m = absurd m
in_pushed (q ∷ ps) pool p (inl e) = more_pushed ps (q ∷ pool) p (inl e)
in_pushed (q ∷ ps) pool p (inr m) = in_pushed ps (q ∷ pool) p m

pub from_pushed : (ps pool : List Message) (p : Message) → IsIn p (pushed ps pool) → IsIn p pool ⊎ IsIn p ps
from_pushed [] pool p m = inl m
from_pushed (q ∷ ps) pool p m = elim (from_pushed ps (q ∷ pool) p m) [
  | inl h ↦ ⊎_elim (λ (e : p ≡ q). inr (inl e)) (λ (h : IsIn p pool). inl h) h
  | inr h ↦ inr (inr h)
]

abbrev pub sends : World → List Message → World
sends w ps = record w { pool = pushed ps w.pool }

abbrev pub all_sends : List Message → List Event
all_sends [] = []
all_sends (p ∷ ps) = Send p ∷ all_sends ps

module _ (targets : ℕ) where
  may_more : (w : World) (p q : Message) → MaySend targets w q → MaySend targets (record w { pool = p ∷ w.pool }) q
  may_more w p (Hold a t u) m = m
  may_more w p (Held a t u k c f) m = m
  may_more w p (Sync a t k) m = (
    m.0,
    record {
      is_op = m.1.is_op;
      answers = m.1.answers;
      heard = λ b h. inr (m.1.heard b h);
      placed = m.1.placed;
      batch = m.1.batch;
      decision = m.1.decision;
      decided = m.1.decided;
      answer = m.1.answer;
      answered = m.1.answered;
      at_t = m.1.at_t;
      writer = m.1.writer;
      object = m.1.object;
      asks = m.1.asks;
      inside = m.1.inside;
      lacks = m.1.lacks;
      takes_part = m.1.takes_part;
      uncovered = m.1.uncovered;
    },
  )
  may_more w p (Synced a t) m = m
  may_more w p (Execute n t) m = m
  may_more w p (Release a t) m = m
  may_more w p (Stable t m' b) m = m
  may_more w p (Cancel m' b) m = m

  pub run_sends : (ps : List Message) (w : World) → ((p : Message) → IsIn p ps → MaySend targets w p) → Run targets w (all_sends ps) (sends w ps)
  run_sends [] w may = refl
  run_sends (p ∷ ps) w may = (may p (inl refl), run_sends ps (record w { pool = p ∷ w.pool }) (λ q m. may_more w p q (may q (inr m))))

  pub run_append : (es fs : List Event) (w u v : World) → Run targets w es u → Run targets u fs v → Run targets w (es ++ fs) v
  run_append [] fs w u v r q = subst (λ x. Run targets x fs v) r q
  run_append (e ∷ es) fs w u v r q = (r.0, run_append es fs (happens w e) u v r.1 q)

pub said_sends : (ps : List Message) (w : World) → said w (all_sends ps) ≡ []
said_sends [] w = refl
said_sends (p ∷ ps) w = said_sends ps (record w { pool = p ∷ w.pool })
