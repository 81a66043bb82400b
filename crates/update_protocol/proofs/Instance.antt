-- A life of the cluster of one target: the attributes of the root are set, committed, and kept by a recovery.
use Rattle.std.proofs.Common.{◌≡◌, ◌<◌, inl, inr, ⊎_elim, ℕ, zero, suc, Bool, true, false, true≢false, if◌then◌else◌, ◌||◌, Option, Some, None, List, [], ◌∷◌, length, refl, sym, ap, ◌∙◌, subst, arith}
use Rattle.std.specs.FinMap.{get, get-empty}
use Rattle.std.specs.Ordering.{nat_cmp}
use Rattle.fid_space.specs.declared.fid.Fid.{Fid}
use Rattle.tree_model.specs.declared.node.Node.{Node}
use Rattle.tree_model.specs.declared.op.Op.{Op}
use Rattle.tree_model.specs.declared.op.Op.TheVariants as ops
use Rattle.tree_model.specs.declared.reply.Reply.{Reply}
use Rattle.tree_model.specs.declared.reply.Reply.TheVariants as replies
use Rattle.tree_model.specs.Tree.{same_fid, root_fid}
use Rattle.tree_model.specs.Changes.{PutNode, changed_all}
use Rattle.tree_model.specs.Keys.{NodeKey, Laid}
use Rattle.tree_model.specs.Looks.{Decide, asked, changes, check, decided, looks}
use Rattle.tree_model.specs.Laws.{Among}
use Rattle.tree_model.specs.Step.{step, is_dir, checked, absent_fault, op_changes, changed_node}
use Rattle.tree_model.specs.Participants.{home_of, with_place}
use Rattle.tree_model.specs.Striped.{with_changes}
use Rattle.std.specs.List.{flat_map}
use Rattle.tree_model.proofs.Fids.{fid_ties, told_same}
use Rattle.out_update.specs.declared.update.Update.{Update}
use Rattle.out_update.specs.declared.update.Kind.TheVariants as kind
use Rattle.out_update.specs.declared.result.UpdateResult.{UpdateResult}
use Rattle.tree_sound.specs.Sound.{IsSound}
use Rattle.tree_sound.specs.SoundLaws.{HistoriesAreSound}
use Rattle.tree_shares.specs.Parts.{parts, parts_from}
use Rattle.tree_shares.specs.Updates.{update, attributes_bytes, op_updates, placed, unless_none}
use Rattle.op_laws.specs.Objects.{is_among, saw, stands, owner}
use Rattle.update_protocol.specs.Lists.{IsIn}
use Rattle.update_protocol.specs.Facts.{Decides, Decision, Fact, Settles, laid, place}
use Rattle.std.proofs.lemmas.Bool.Decides.{eqb_tells}
use Rattle.std.specs.Prelude.{◌==◌}
use Rattle.tree_model.specs.OpText.{IsOp}
use Rattle.tree_model.specs.declared.op.Request.{Request}
use Rattle.object_store.specs.Reads.{reads}
use Rattle.tree_shares.specs.Seats.{share_of}
use Rattle.update_protocol.specs.World.{Accepted, after_items, Answer, History, Attempt, Each, Held, Hold, Named, Sync, World, at, is_on}
use Rattle.update_protocol.specs.Events.{Accept, Ask, Commit, Event, Hold_comes, MayAccept, Run, Send, Settled, Start, Stop, fresh, happens, has_now}
use Rattle.update_protocol.specs.Seats.{IsBelow}
use Rattle.update_protocol.specs.Recovery.{LiveAt}
use Rattle.update_protocol.specs.Epochs.{Epoch, kept_of}

abbrev pub sets : Op
sets = ops.SetAttr root_fid 0 0 0

abbrev pub asks_root : Update
asks_root = update kind.AttrGet 0 root_fid []

abbrev pub decision : Decision
decision = record { reply = replies.Ok; parts = (0, update kind.AttrSet 1 root_fid (attributes_bytes 0 0 0 ∷ []) ∷ []) ∷ []; saw = root_fid ∷ [] }

there : (o : Option Node) → is_dir o ≡ true → (n : Node) × (o ≡ Some n)
there None h = absurd (true≢false (sym h))
there (Some n) h = (n, refl)

only_root : (f : Fid) → is_among (root_fid ∷ []) f ≡ true → root_fid ≡ f
only_root f h = one (same_fid root_fid f) h (λ e. told_same root_fid f (sym (fid_ties root_fid f) ∙ e))
  where
    one : (b : Bool) → (b || false) ≡ true → (b ≡ true → root_fid ≡ f) → root_fid ≡ f
    one true h k = k refl
    one false h k = absurd (true≢false (sym h))

module _ (l : Laid) (n : Node) (e : get l.tree.nodes root_fid ≡ Some n) where
  replied : (step 1 l.tree sets).1 ≡ replies.Ok
  replied = ap (λ (o : Option Node). (checked (absent_fault o) l.tree (changed_all l.tree (op_changes l.tree sets), replies.Ok)).1) e

  changed : changes 1 l.tree sets ≡ PutNode root_fid (record n { mode = 0; uid = 0; gid = 0 }) ∷ []
  changed = ap (λ (o : Option Node). (decided (check (absent_fault o) (Decide replies.Ok (changed_node root_fid o (λ n. record n { mode = 0; uid = 0; gid = 0 })))) l.tree).1) e

  placed_there : parts 1 1 l sets ≡ decision.parts
  unfolding parts
  placed_there = ap (λ cs. parts_from 1 0 (with_changes 1 l (with_place 0 (home_of 1 sets)) cs) (placed 1 (unless_none cs (op_updates 1 1 l sets)))) changed

  looked : looks 1 l.tree sets ≡ NodeKey root_fid ∷ []
  looked = ap (λ (o : Option Node). NodeKey root_fid ∷ asked (check (absent_fault o) (Decide replies.Ok (changed_node root_fid o (λ n. record n { mode = 0; uid = 0; gid = 0 })))) l.tree) e

  told : saw 1 l sets ≡ root_fid ∷ []
  told = ap (λ ks. flat_map (stands 1 l) ks) looked

  decides : (facts : List Fact) (r : UpdateResult) → facts ≡ (asks_root, r) ∷ [] → Decides 1 l facts 1 sets decision
  decides facts r is = record {
    reply = sym replied;
    parts = sym placed_there;
    saw = sym told;
    asked_near = λ u s m t. (NodeKey root_fid, subst (λ ks. Among ks (NodeKey root_fid)) (sym looked) (inl refl), near u s (subst (λ fs. IsIn {A = Fact} (u, s) fs) is m));
    asked = λ f h. (asks_root, r, subst (λ fs. IsIn {A = Fact} (asks_root, r) fs) (sym is) (inl refl), only_root f h, refl);
  }
    where
      near : (u : Update) (s : UpdateResult) → IsIn {A = Fact} (u, s) ((asks_root, r) ∷ []) → root_fid ≡ owner 1 u.fid
      near u s m = ⊎_elim (λ (q : (u, s) ≡ (asks_root, r)). ap (λ (p : Fact). owner 1 p.0.fid) (sym q)) (λ none. absurd none) m

-- so the answer of one question decides, whatever it is
pub settles : HistoriesAreSound → (r : UpdateResult) → Settles 1 ((asks_root, r) ∷ []) 1 sets decision
settles sounds r h fits true' =
    let s : IsSound 1 (length h) (laid 1 h) = sounds 1 h fits.each in
    let node = there (get (laid 1 h).tree.nodes root_fid) s.root in
    decides (laid 1 h) node.0 node.1 ((asks_root, r) ∷ []) r refl

-- ---- the run

abbrev pub request : Request
request = record { number = 1; client = 0; op = sets }

abbrev pub attempt : Attempt
attempt = record { who = record { master = 0; request = request }; turn = 1 }

abbrev pub start : Start
start = record { clock = λ _. 0; turns = λ _. 0; ended = λ _ _. 0 }

abbrev pub result : UpdateResult
result = reads (share_of 1 [] 0).objects asks_root

abbrev pub accepted : Accepted
accepted = record { attempt = attempt; reply = decision.reply; batch = 1; stamp = 1; parts = decision.parts; saw = decision.saw }

abbrev pub answer : Answer
answer = record { at = 0; question = asks_root ∷ []; writer = None; clock = 0; results = result ∷ [] }

abbrev pub begun : World
begun = happens (happens (happens (fresh start []) (Ask attempt.who)) (Send (Hold attempt 0 (asks_root ∷ [])))) (Hold_comes attempt 0 (asks_root ∷ []) None (result ∷ []))

abbrev pub stopped : World
stopped = happens (happens (happens begun (Accept 0 accepted)) (Commit 0)) (Stop 0)

abbrev pub events : List Event
events = Ask attempt.who ∷ Send (Hold attempt 0 (asks_root ∷ [])) ∷ Hold_comes attempt 0 (asks_root ∷ []) None (result ∷ []) ∷ Accept 0 accepted ∷ Commit 0 ∷ Stop 0 ∷ []

one_below : 0 < 1
one_below = omega arith

no_sync : (t k : ℕ) → IsIn (Sync attempt t k) begun.pool → ⊥
no_sync t k m = ⊎_elim (λ e. cc) (λ n. ⊎_elim (λ e. cc) (λ none. none) n) m

only_answer : (P : Answer → Type 0) → P answer → (b : Answer) → IsIn b (answer ∷ []) → P b
only_answer P h b m = ⊎_elim (λ e. subst P (sym e) h) (λ none. absurd none) m

at_zero : (t : ℕ) → is_on accepted t ≡ true → 0 ≡ t
at_zero t h = elim (eqb_tells 0 t) [ inl w ↦ w.1 | inr w ↦ absurd (true≢false (sym h ∙ ap (λ b. b || false) w.0)) ]

may_accept : HistoriesAreSound → IsOp 1 sets → MayAccept 1 begun 0 accepted
may_accept sounds is_op = record {
  is_current = refl;
  is_up = refl;
  all_synced = λ t k m. absurd (no_sync t k m);
  next_batch = refl;
  is_op = is_op;
  changes = refl;
  few = omega arith;
  answers = answer ∷ [];
  heard = only_answer (λ a. IsIn (Held attempt a.at a.question a.writer a.clock a.results) begun.pool) (inl refl);
  placed = only_answer (λ a. (u : Update) → IsIn u a.question → a.at ≡ place 1 u.fid) (λ u m. ⊎_elim (λ e. ap (λ (v : Update). place 1 v.fid) (sym e)) (λ none. absurd none) m);
  settled = only_answer (λ a. Settled begun a.at attempt a.writer accepted) tt;
  above = only_answer (λ a. a.clock < 1) one_below;
  certified = λ t on. (answer, inl refl, at_zero t on);
  decided = settles sounds result;
}

no_seat : IsBelow (get (has_now 1 (fresh start []) 0).seats 0) 1
no_seat = subst (λ (s : Option (ℕ × Reply)). IsBelow s 1) (sym (get-empty {X = ℕ × Reply} nat_cmp 0)) tt

pub runs : HistoriesAreSound → IsOp 1 sets → Run 1 (fresh start []) events stopped
runs sounds is_op =
    ((refl, refl, refl, one_below, λ r. no_seat), (refl, ((inl refl, refl, inl refl, (λ f asks n m. absurd m), refl, one_below), (may_accept sounds is_op, (refl, (tt, refl))))))

-- ---- the recovery

on_disk : (b : Bool) (n : ℕ) → IsIn n (if b then 0 ∷ [] else (if b then 0 ∷ [] else [])) → IsIn n (if b then 0 ∷ [] else [])
on_disk true n h = h
on_disk false n h = h

named_each : Each (λ n a. (true ≡ true → Named stopped.disk n) × (Named stopped.disk n → true ≡ true)) stopped.since
named_each zero l = ((λ _. (0, inl refl)), λ _. refl)
named_each (suc n) l = absurd (omega (arith, l))

live_there : (n : ℕ) → n < length stopped.since → (t : ℕ) → is_on (at stopped.since n) t ≡ true → LiveAt stopped.disk stopped.kept_gone t n
unfolding at
live_there zero l t on = subst (λ t. LiveAt stopped.disk stopped.kept_gone t 0) (at_zero t on) (inl refl, λ g. g)
live_there (suc n) l t on = absurd (omega (arith, l))

pub epoch : HistoriesAreSound → IsOp 1 sets → Epoch 1 []
epoch sounds is_op = record {
  start = start;
  events = events;
  world = stopped;
  run = runs sounds is_op;
  committed = λ t n m. on_disk (t == 0) n m;
  kept = λ n. true;
  named = named_each;
  redos = [];
  disks = stopped.disk;
  redone = refl;
  nothing_left = λ t. record { only = λ n m. absurd m; all = λ n l u on lacks. lacks (live_there n l t on); order = tt };
}

pub is_op : IsOp 1 sets
is_op = (((omega arith, omega arith, omega arith), refl), omega arith, omega arith, omega arith)

abbrev pub kept_history : HistoriesAreSound → History
kept_history sounds = after_items [] (kept_of 1 [] (epoch sounds is_op))

pub kept_one : (sounds : HistoriesAreSound) → length (kept_history sounds) ≡ 1
unfolding epoch
kept_one sounds = refl
