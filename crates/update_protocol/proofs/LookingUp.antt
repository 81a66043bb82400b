-- A read is answered: a name is looked up that isn't there.
use Rattle.std.proofs.Common.{◌≡◌, inl, ⊎_elim, true, if◌then◌else◌, Option, Some, None, List, [], ◌∷◌, length, refl, sym, ap, ◌∙◌, subst, arith}
use Rattle.std.specs.FinMap.{get}
use Rattle.fid_space.specs.declared.fid.Fid.{Fid}
use Rattle.tree_model.specs.declared.errno.Errno.TheVariants.{ENOENT, ENOTDIR}
use Rattle.tree_model.specs.declared.node.Node.{Node}
use Rattle.tree_model.specs.declared.op.Op.{Op}
use Rattle.tree_model.specs.declared.op.Op.TheVariants as ops
use Rattle.tree_model.specs.declared.reply.Reply.TheVariants as replies
use Rattle.tree_model.specs.Keys.{Laid, NodeKey}
use Rattle.tree_model.specs.Looks.{AskName, Decide, Plan, check, plan}
use Rattle.tree_model.specs.Step.{absent_fault, fid_reply, parent_fault, step}
use Rattle.tree_model.specs.Tree.{named, root_fid}
use Rattle.out_update.specs.declared.update.Update.{Update}
use Rattle.out_update.specs.declared.result.UpdateResult.{UpdateResult}
use Rattle.object_store.specs.Reads.{child_get}
use Rattle.tree_sound.specs.Sound.{IsSound}
use Rattle.update_protocol.specs.Facts.{Imply, laid, place}
use Rattle.update_protocol.specs.Lists.{IsIn}
use Rattle.update_protocol.specs.World.{Answer, Attempt, Held, Hold, World}
use Rattle.update_protocol.specs.Events.{AreHeard, Ask, Event, Hold_comes, Run, Send, fresh}
use Rattle.update_protocol.specs.Epochs.{Begin, Reached}
use Rattle.update_protocol.proofs.Told.{Said, ask_name, ask_node, bare, name_told, no_name, root_there, said, with_key}
use Rattle.update_protocol.proofs.Making.{Below, asks_name, few}
use Rattle.update_protocol.proofs.Lives.{at_home, name_d, name_free, name_result, no_seat, start}
use Rattle.update_protocol.proofs.Cancels.{go}

abbrev pub finds : Op
finds = ops.Lookup root_fid name_d

abbrev finds_next : Option Fid → Plan
finds_next there = check (absent_fault there) (Decide (fid_reply there) [])

find_said : (l : Laid) (n : Node) → get l.tree.nodes root_fid ≡ Some n → n.dir ≡ true → named l.tree root_fid name_d ≡ None → (said (plan 3 finds) l.tree).0.0 ≡ replies.Err ENOENT
find_said l n is dir free =
    ap (λ (s : Said). s.0.0)
    (ask_node root_fid (λ (o : Option Node). check (parent_fault o) (AskName root_fid name_d finds_next)) l.tree (Some n) is
    ∙ ap (λ b. with_key (NodeKey root_fid) (said (check (if b then None else Some ENOTDIR) (AskName root_fid name_d finds_next)) l.tree)) dir
    ∙ ap (with_key (NodeKey root_fid)) (ask_name root_fid name_d finds_next l.tree None free))

-- an answer that says that the name isn't there decides
not_there : Below → (r : UpdateResult) → r.code ≡ 2 → Imply 3 ((asks_name name_d, r) ∷ []) (λ l. replies.Err ENOENT ≡ (step 3 l.tree finds).1)
not_there b r e h fits truth =
    let l : Laid = laid 3 h in
    let sound : IsSound 3 (length h) l = b.sounds 3 h fits.each in
    let root = root_there 3 (length h) l sound in
    let by_name : r ≡ child_get (named l.tree root_fid name_d) = truth (asks_name name_d) r (inl refl)
    ∙ name_told 3 (length h) l sound b.names few root_fid root.0 name_d 0 root.1 root.2 (bare 3 (length h) l sound root_fid root.0 root.1 refl) refl in
    let free : named l.tree root_fid name_d ≡ None = no_name (named l.tree root_fid name_d) (sym (ap (λ (q : UpdateResult). q.code) by_name) ∙ e) in
    sym (ap (λ p. p.1) (b.laws.decided 3 l.tree finds) ∙ find_said l root.0 root.1 root.2 free)

-- ---- the run

abbrev pub attempt : Attempt
attempt = record { who = record { master = 0; request = record { number = 1; client = 0; op = finds } }; turn = 1 }

abbrev asks : List Event
asks = Ask attempt.who ∷ Send (Hold attempt 0 at_home.question) ∷ Hold_comes attempt 0 at_home.question None at_home.results ∷ []

abbrev pub asked : World
asked = go (fresh start []) asks

asks_run : Run 3 (fresh start []) asks asked
asks_run = ((refl, refl, refl, omega arith, λ r. no_seat 0 1), (refl, ((inl refl, refl, inl refl, (λ f asks n m. absurd m), refl, omega arith), refl)))

pub reached : Reached 3 [] asked
reached = record { story = Begin; start = start; events = asks; run = asks_run }

pub heard : AreHeard 3 asked.pool attempt (at_home ∷ [])
heard = record {
  came = λ a m. ⊎_elim (λ e. subst (λ (a : Answer). IsIn (Held attempt a.at a.question a.writer a.clock a.results) asked.pool) (sym e) (inl refl)) (λ none. absurd none) m;
  placed = λ a m. ⊎_elim (λ e. subst (λ (a : Answer). (u : Update) → IsIn u a.question → a.at ≡ place 3 u.fid) (sym e)
      (λ u m. ⊎_elim (λ e. ap (λ (v : Update). place 3 v.fid) (sym e)) (λ none. absurd none) m)) (λ none. absurd none) m;
}

pub decided : Below → Imply 3 ((asks_name name_d, name_result) ∷ []) (λ l. replies.Err ENOENT ≡ (step 3 l.tree finds).1)
decided b = not_there b name_result (name_free b)
