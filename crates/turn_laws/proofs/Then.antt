-- Pieces of a turn, one after another.
use Rattle.std.proofs.Common.{◌≡◌, map, set, ℕ, Bool, true, false, if◌then◌else◌, List, [], ◌∷◌, ◌++◌, refl, sym, ap, ◌∙◌, subst, append_assoc}
use Rattle.std.proofs.lemmas.List.{set-set, map-append}
use Rattle.scenario_text.specs.declared.line.Line.{Line}
use Rattle.cluster_mail.specs.Mail.{fresh}
use Rattle.target_turns.specs.Target.{Turned, joins}
use Rattle.update_protocol.specs.Events.{Event, Run, happens}
use Rattle.update_protocol.specs.World.{World}
use Rattle.turn_laws.specs.Values.{Cluster, after_turn}
use Rattle.turn_laws.specs.Agrees.{Agrees}
use Rattle.turn_laws.specs.Runs.{IsRun, is_loud, loud, said, said_by}
use Rattle.turn_laws.proofs.Sends.{run_append}

pub after_both : (c : Cluster) (i : ℕ) (t u : Turned) → after_turn (after_turn c i t) i u ≡ after_turn c i (joins t u)
after_both c i t u = ap (λ ts. record { targets = ts; sent = (c.sent ++ map fresh t.sent) ++ map fresh u.sent }) (set-set c.targets i t.target u.target)
    ∙ ap (λ ms. record { targets = set c.targets i u.target; sent = ms }) (append_assoc c.sent (map fresh t.sent) (map fresh u.sent) ∙ ap (λ l. c.sent ++ l) (sym (map-append fresh t.sent u.sent)))

pub loud_append : (xs ys : List Line) → loud (xs ++ ys) ≡ loud xs ++ loud ys
loud_append [] ys = refl
loud_append (l ∷ ls) ys = by_test (is_loud l) (loud_append ls ys)
  where
    by_test : (b : Bool) → loud (ls ++ ys) ≡ loud ls ++ loud ys → (if b then l ∷ loud (ls ++ ys) else loud (ls ++ ys)) ≡ (if b then l ∷ loud ls else loud ls) ++ loud ys
    by_test true q = ap (λ m. l ∷ m) q
    by_test false q = q

pub said_append : (targets : ℕ) (es fs : List Event) (w u : World) → Run targets w es u → said w (es ++ fs) ≡ said w es ++ said u fs
said_append targets [] fs w u r = ap (λ v. said v fs) (sym r)
said_append targets (e ∷ es) fs w u r = ap (λ l. said_by w e ++ l) (said_append targets es fs (happens w e) u r.1) ∙ sym (append_assoc (said_by w e) (said (happens w e) es) (said u fs))

module _ (targets : ℕ) where
  -- two pieces of a turn at the same target are one
  pub run_then : (w : World) (c : Cluster) (i : ℕ) (t u : Turned) → (r : IsRun targets w t.lines (after_turn c i t)) → IsRun targets r.world u.lines (after_turn (after_turn c i t) i u) → IsRun targets w (joins t u).lines (after_turn c i (joins t u))
  run_then w c i t u r q = record {
    events = r.events ++ q.events;
    world = q.world;
    run = run_append targets r.events q.events w r.world q.world r.run q.run;
    lines = loud_append t.lines u.lines ∙ ap (λ l. l ++ loud u.lines) r.lines ∙ ap (λ l. said w r.events ++ l) q.lines ∙ sym (said_append targets r.events q.events w r.world r.run);
    agrees = subst (λ c. Agrees targets c q.world) (after_both c i t u) q.agrees;
  }
