-- Lives of a cluster of three targets: a directory is made on two of them, and then either one of them stops before it
-- has committed, or the record is cancelled.
use Rattle.std.proofs.Common.{◌≡◌, ◌≤◌, ◌<◌, ◌⊎◌, inl, inr, ⊎_elim, ℕ, zero, suc, Bool, true, false, true≢false, if◌then◌else◌, ◌||◌, ◌++◌, Option, Some, None, List, [], ◌∷◌, length, refl, sym, ap, ◌∙◌, subst, arith}
use Rattle.std.specs.Prelude.{◌==◌, cond}
use Rattle.std.specs.FinMap.{empty, get, get-empty, get-insert}
use Rattle.std.specs.Option.{option_map, unwrap_or}
use Rattle.std.specs.Ordering.{eq_by_cmp, nat_cmp}
use Rattle.std.proofs.lemmas.Bool.Decides.{eqb_tells}
use Rattle.fid_space.specs.declared.fid.Fid.{Fid}
use Rattle.tree_model.specs.declared.op.Request.{Request}
use Rattle.tree_model.specs.declared.reply.Reply.{Reply}
use Rattle.tree_model.specs.Names.{IsName}
use Rattle.tree_model.specs.OpText.{IsOp}
use Rattle.tree_model.specs.declared.node.Node.{Node}
use Rattle.tree_model.specs.Fids.{fid_cmp, name_cmp}
use Rattle.tree_model.specs.Keys.{layout_at}
use Rattle.tree_model.specs.Tree.{Names, named, names_of, root_fid, root_node}
use Rattle.tree_model.proofs.Maps.{fids_total}
use Rattle.tree_shares.specs.Shares.{node_object, share}
use Rattle.out_update.specs.declared.update.Update.{Update}
use Rattle.out_update.specs.declared.result.UpdateResult.{UpdateResult}
use Rattle.object_store.specs.Reads.{attr_get, child_get, reads}
use Rattle.tree_shares.specs.Seats.{share_of}
use Rattle.update_protocol.specs.Lists.{IsIn, put}
use Rattle.update_protocol.specs.Facts.{AreTrue, Decides, Fact, Settles, laid, place}
use Rattle.tree_model.specs.Looks.{changes}
use Rattle.update_protocol.specs.Seats.{IsBelow}
use Rattle.update_protocol.specs.World.{Accepted, Answer, Attempt, Each, Execute, Held, History, Hold, Matches, Named, Sync, World, after_items, at, is_on}
use Rattle.update_protocol.specs.Events.{Accept, Ask, Commit, Event, Execute_comes, Hold_comes, MayAccept, Run, Send, Settled, Start, Stop, fresh, happens}
use Rattle.update_protocol.specs.Recovery.{InUnion, LiveAt, Redo}
use Rattle.update_protocol.specs.Epochs.{Epoch, kept_of}
use Rattle.update_protocol.proofs.Told.{bare, name_told, node_told, root_there}
use Rattle.update_protocol.proofs.Making.{Below, asks_name, asks_node, few, made, made_change, made_changes, made_parts, made_saw, made_settles, makes}

-- ---- small things

pub run_on : (targets : ℕ) (es fs : List Event) (w v u : World) → Run targets w es v → Run targets v fs u → Run targets w (es ++ fs) u
run_on targets [] fs w v u run next = subst (λ x. Run targets x fs u) run next
run_on targets (e ∷ es) fs w v u run next = (run.0, run_on targets es fs (happens w e) v u run.1 next)

pub both : (P : Answer → Type 0) (a b : Answer) → P a → P b → (c : Answer) → IsIn c (a ∷ b ∷ []) → P c
both P a b x y c m = ⊎_elim (λ e. subst P (sym e) x) (λ n. ⊎_elim (λ e. subst P (sym e) y) (λ none. absurd none) n) m

pub one_of : (t m n : ℕ) → ((m == t) || ((n == t) || false)) ≡ true → (m ≡ t) ⊎ (n ≡ t)
one_of t m n h = elim (eqb_tells m t) [
  | inl w ↦ inl w.1
  | inr w ↦ elim (eqb_tells n t) [ inl v ↦ inr v.1 | inr v ↦ absurd (true≢false (sym h ∙ ap (λ b. b || ((n == t) || false)) w.0 ∙ ap (λ b. b || false) v.0)) ]
]

pub no_seat : (client number : ℕ) → IsBelow (get (share_of 3 [] 0).seats client) number
no_seat client number = subst (λ (s : Option (ℕ × Reply)). IsBelow s number) (sym (get-empty {X = ℕ × Reply} nat_cmp client)) tt

-- ---- a directory is made on two targets

abbrev pub dir : Fid
dir = record { seq = 0x200100400; oid = 1; ver = 0 }

abbrev pub name_d : List ℕ
name_d = 0x64 ∷ []

abbrev pub request : Request
request = record { number = 1; client = 0; op = makes dir name_d }

abbrev pub attempt : Attempt
attempt = record { who = record { master = 0; request = request }; turn = 1 }

abbrev pub start : Start
start = record { clock = λ _. 0; turns = λ _. 0; ended = λ _ _. 0 }

abbrev pub name_result : UpdateResult
name_result = reads (share_of 3 [] 0).objects (asks_name name_d)

abbrev pub node_result : UpdateResult
node_result = reads (share_of 3 [] 1).objects (asks_node dir)

abbrev pub item : Accepted
item = record { attempt = attempt; reply = (made dir name_d 1).reply; batch = 1; stamp = 1; parts = made_parts dir name_d 1; saw = made_saw dir }

abbrev pub at_home : Answer
at_home = record { at = 0; question = asks_name name_d ∷ []; writer = None; clock = 0; results = name_result ∷ [] }

abbrev pub at_node : Answer
at_node = record { at = 1; question = asks_node dir ∷ []; writer = None; clock = 0; results = node_result ∷ [] }

abbrev pub asked_home : World
asked_home = happens (happens (happens (fresh start []) (Ask attempt.who)) (Send (Hold attempt 0 at_home.question))) (Hold_comes attempt 0 at_home.question None at_home.results)

abbrev pub asked_both : World
asked_both = happens (happens asked_home (Send (Hold attempt 1 at_node.question))) (Hold_comes attempt 1 at_node.question None at_node.results)

abbrev pub executed : World
executed = happens (happens (happens asked_both (Accept 0 item)) (Send (Execute 0 1))) (Execute_comes 0 1)

abbrev pub events : List Event
events =
    Ask attempt.who ∷ Send (Hold attempt 0 at_home.question) ∷ Hold_comes attempt 0 at_home.question None at_home.results ∷ Send (Hold attempt 1 at_node.question)
    ∷ Hold_comes attempt 1 at_node.question None at_node.results ∷ Accept 0 item ∷ Send (Execute 0 1) ∷ Execute_comes 0 1 ∷ []

one_below : 0 < 1
one_below = omega arith

no_sync : (t k : ℕ) → IsIn (Sync attempt t k) asked_both.pool → ⊥
no_sync t k m = ⊎_elim (λ e. cc) (λ n. ⊎_elim (λ e. cc) (λ n. ⊎_elim (λ e. cc) (λ n. ⊎_elim (λ e. cc) (λ none. none) n) n) n) m

pub item_on : (t : ℕ) → is_on item t ≡ true → (0 ≡ t) ⊎ (1 ≡ t)
item_on t h = one_of t 0 1 h

pub no_names : (x : List ℕ) → named (laid 3 []).tree root_fid x ≡ None
no_names x = ap (λ o. get (unwrap_or o empty) x) (get-empty {X = Names} fid_cmp root_fid) ∙ get-empty {X = Fid} name_cmp x

pub no_nodes : (f : Fid) → eq_by_cmp fid_cmp f root_fid ≡ false → get (laid 3 []).tree.nodes f ≡ None
no_nodes f other = get-insert fids_total empty root_fid root_node f ∙ ap (λ b. cond b (Some root_node) (get {R = fid_cmp} (empty {R = fid_cmp}) f)) other ∙ get-empty {X = Node} fid_cmp f

module _ (b : Below) where
  pub name_free : name_result.code ≡ 2
  name_free =
      let sound = b.sounds 3 [] tt in
      let root = root_there 3 0 (laid 3 []) sound in
      ap (λ (r : UpdateResult). r.code) (name_told 3 0 (laid 3 []) sound b.names few root_fid root.0 name_d 0 root.1 root.2 (bare 3 0 (laid 3 []) sound root_fid root.0 root.1 refl) refl)
      ∙ ap (λ o. (child_get o).code) (no_names name_d)

  node_free : node_result.code ≡ 2
  node_free =
      let sound = b.sounds 3 [] tt in
      ap (λ (r : UpdateResult). r.code) (node_told 3 0 (laid 3 []) sound b.nodes few dir 1 refl)
      ∙ ap (λ o. (attr_get (option_map (λ n. node_object n (layout_at (laid 3 []) dir) (names_of (laid 3 []).tree dir)) o)).code) (no_nodes dir refl)

  settled : Settles 3 ((asks_name name_d, name_result) ∷ (asks_node dir, node_result) ∷ []) 1 (makes dir name_d) (made dir name_d 1)
  settled = made_settles b dir 1 name_d refl refl refl refl name_result node_result 1 name_free node_free

  truth : AreTrue 3 (laid 3 []) ((asks_name name_d, name_result) ∷ (asks_node dir, node_result) ∷ [])
  truth u r m = ⊎_elim
      (λ (e : (u, r) ≡ (asks_name name_d, name_result)). subst (λ (p : Fact). p.1 ≡ reads (share 3 (laid 3 []) (place 3 p.0.fid)) p.0) (sym e) refl)
      (λ m. ⊎_elim (λ (e : (u, r) ≡ (asks_node dir, node_result)). subst (λ (p : Fact). p.1 ≡ reads (share 3 (laid 3 []) (place 3 p.0.fid)) p.0) (sym e) refl) (λ none. absurd none) m) m

  decides : Decides 3 (laid 3 []) ((asks_name name_d, name_result) ∷ (asks_node dir, node_result) ∷ []) 1 (makes dir name_d) (made dir name_d 1)
  decides = settled [] (record { each = tt; few = omega arith }) truth

  -- the item is what its operation is at the start
  pub item_is : IsOp 3 (makes dir name_d) → Matches 3 [] item
  item_is is_op = record {
    fits = record { each = tt; few = omega arith };
    is_op = is_op;
    changes = refl;
    home = refl;
    newest = tt;
    reply = decides.reply;
    parts = decides.parts;
    saw = decides.saw;
  }

  pub item_changes : changes 3 (laid 3 []).tree (makes dir name_d) ≡ made_changes dir name_d
  item_changes =
      let sound = b.sounds 3 [] tt in
      let root = root_there 3 0 (laid 3 []) sound in
      made_change dir name_d (laid 3 []) root.0 root.1 root.2 (bare 3 0 (laid 3 []) sound root_fid root.0 root.1 refl) (no_names name_d) refl refl refl (no_nodes dir refl)

  may_accept : IsOp 3 (makes dir name_d) → MayAccept 3 asked_both 0 item
  may_accept is_op = record {
    is_current = refl;
    is_up = refl;
    all_synced = λ t k m. absurd (no_sync t k m);
    next_batch = refl;
    is_op = is_op;
    changes = refl;
    few = omega arith;
    answers = at_home ∷ at_node ∷ [];
    heard = both (λ a. IsIn (Held attempt a.at a.question a.writer a.clock a.results) asked_both.pool) at_home at_node (inr (inr (inl refl))) (inl refl);
    placed = both (λ a. (u : Update) → IsIn u a.question → a.at ≡ place 3 u.fid) at_home at_node
        (λ u m. ⊎_elim (λ e. ap (λ (v : Update). place 3 v.fid) (sym e)) (λ none. absurd none) m) (λ u m. ⊎_elim (λ e. ap (λ (v : Update). place 3 v.fid) (sym e)) (λ none. absurd none) m);
    settled = both (λ a. Settled asked_both a.at attempt a.writer item) at_home at_node tt tt;
    above = both (λ a. a.clock < 1) at_home at_node one_below one_below;
    certified = λ t on. ⊎_elim (λ e. (at_home, inl refl, e)) (λ e. (at_node, inr (inl refl), e)) (item_on t on);
    decided = settled;
  }

  pub runs : IsOp 3 (makes dir name_d) → Run 3 (fresh start []) events executed
  unfolding at
  runs is_op = (
    (refl, refl, refl, omega arith, λ r. no_seat 0 1),
    (
      refl,
      (
        (inl refl, refl, inl refl, (λ f asks n m. absurd m), refl, omega arith),
        (
          refl,
          (
            (inl refl, refl, inr (refl, one_below), (λ f asks n m. absurd m), refl, omega arith),
            (may_accept is_op, ((one_below, refl), ((inl refl, refl, refl), refl))),
          ),
        ),
      ),
    ),
  )

-- ---- one target stops

abbrev pub stopped : World
stopped = happens (happens executed (Commit 0)) (Stop 1)

stops : Run 3 executed (Commit 0 ∷ Stop 1 ∷ []) stopped
stops = (refl, (tt, refl))

on_disk : (one home : Bool) (n : ℕ) → IsIn n (if one then [] else (if one then 0 ∷ [] else (if home then 0 ∷ [] else []))) → IsIn n (if home then 0 ∷ [] else [])
on_disk true home n h = absurd h
on_disk false true n h = h
on_disk false false n h = h

named_each : Each (λ n a. (true ≡ true → Named stopped.disk n) × (Named stopped.disk n → true ≡ true)) stopped.since
named_each zero l = ((λ _. (0, inl refl)), λ _. refl)
named_each (suc n) l = absurd (omega (arith, l))

abbrev pub redone : ℕ → List ℕ
redone = put stopped.disk 1 (stopped.disk 1 ++ 0 ∷ [])

live_there : (n : ℕ) → n < length stopped.since → (t : ℕ) → is_on (at stopped.since n) t ≡ true → LiveAt redone stopped.kept_gone t n
unfolding at
live_there zero l t on = ⊎_elim (λ (e : 0 ≡ t). subst (λ t. LiveAt redone stopped.kept_gone t 0) e (inl refl, λ g. g)) (λ (e : 1 ≡ t). subst (λ t. LiveAt redone stopped.kept_gone t 0) e (inl refl, λ g. g)) (item_on t on)
live_there (suc n) l t on = absurd (omega (arith, l))

only_first : (n : ℕ) → n < 1 → IsIn n (0 ∷ [])
only_first zero l = inl refl
only_first (suc n) l = absurd (omega (arith, l))

redoes : Redo stopped.since stopped.disk stopped.kept_mark stopped.kept_gone 1 (0 ∷ [])
unfolding at
redoes = record {
  only = λ n m. ⊎_elim (λ e. subst (λ n. InUnion stopped.since stopped.disk stopped.kept_mark stopped.kept_gone n × (is_on (at stopped.since n) 1 ≡ true) × (LiveAt stopped.disk stopped.kept_gone 1 n → ⊥)) (sym e) (((0, (inl refl, λ g. g)), one_below), refl, λ live. live.0)) (λ none. absurd none) m;
  all = λ n l u on lacks. only_first n l;
  order = ((λ m h. absurd h), (λ m h. absurd h), tt);
}

pub epoch : Below → IsOp 3 (makes dir name_d) → Epoch 3 []
epoch b is_op = record {
  start = start;
  events = events ++ (Commit 0 ∷ Stop 1 ∷ []);
  world = stopped;
  run = run_on 3 events (Commit 0 ∷ Stop 1 ∷ []) (fresh start []) executed stopped (runs b is_op) stops;
  committed = λ t n m. on_disk (t == 1) (t == 0) n m;
  kept = λ n. true;
  named = named_each;
  redos = (1, 0 ∷ []) ∷ [];
  disks = redone;
  redone = (redoes, refl);
  nothing_left = λ t. record { only = λ n m. absurd m; all = λ n l u on lacks. lacks (live_there n l t on); order = tt };
}

head : List ℕ → ℕ
head [] = 0
head (n ∷ ns) = n

pub letter : (n : ℕ) → 0x30 ≤ n → n < 256 → IsName (n ∷ [])
unfolding head
letter n low high = (
  omega arith,
  omega arith,
  (high, tt),
  ((λ e. absurd (omega (arith, low, e)), λ e. absurd (omega (arith, low, e))), tt),
  λ e. (let d : n ≡ 0x2e = ap head e in absurd (omega (arith, low, d))),
  λ e. (let d : n ≡ 0x2e = ap head e in absurd (omega (arith, low, d))),
)

pub is_op : IsOp 3 (makes dir name_d)
is_op = (((omega arith, omega arith, omega arith), refl), letter 0x64 (omega arith) (omega arith), ((omega arith, omega arith, omega arith), refl), tt)

abbrev pub kept_history : Below → History
kept_history b = after_items [] (kept_of 3 [] (epoch b is_op))

pub kept_one : (b : Below) → length (kept_history b) ≡ 1
unfolding epoch
kept_one b = refl

pub shows : (b : Below) → (length (epoch b is_op).world.since ≡ 1) × (is_on (at (epoch b is_op).world.since 0) 0 ≡ true) × (is_on (at (epoch b is_op).world.since 0) 1 ≡ true)
    × ((epoch b is_op).world.disk 0 ≡ 0 ∷ []) × ((epoch b is_op).world.disk 1 ≡ []) × ((epoch b is_op).redos ≡ (1, 0 ∷ []) ∷ []) × ((epoch b is_op).disks 1 ≡ 0 ∷ [])
unfolding at epoch
shows b = (refl, refl, refl, refl, refl, refl, refl)
