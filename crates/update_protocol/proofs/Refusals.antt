-- An operation is refused by what another one wrote that isn't committed yet, on a target where the refusal takes no part.
use Rattle.std.proofs.Common.{◌≡◌, ◌≤◌, ◌<◌, ⊎_elim, ℕ, Bool, true, false, true≢false, Option, Some, None, List, [], ◌∷◌, inl, inr, ◌++◌, length, refl, sym, ap, ◌∙◌, subst, arith}
use Rattle.std.specs.Prelude.{if◌then◌else◌, ◌==◌, ◌||◌}
use Rattle.std.proofs.lemmas.Bool.Decides.{eqb_tells}
use Rattle.tree_model.specs.declared.errno.Errno.TheVariants.{EEXIST}
use Rattle.std.specs.FinMap.{empty, get, get-empty, get-insert, insert}
use Rattle.std.specs.Cmp.{nat_cmp_total}
use Rattle.std.specs.List.{flat_map}
use Rattle.std.specs.Option.{option_map}
use Rattle.std.specs.Ordering.{nat_cmp}
use Rattle.fid_space.specs.declared.fid.Fid.{Fid}
use Rattle.tree_model.specs.declared.node.Node.{Node}
use Rattle.tree_model.specs.declared.op.Op.{Op}
use Rattle.tree_model.specs.declared.op.Op.TheVariants as ops
use Rattle.tree_model.specs.declared.op.Request.{Request}
use Rattle.tree_model.specs.declared.reply.Reply.{Reply}
use Rattle.tree_model.specs.declared.reply.Reply.TheVariants as replies
use Rattle.tree_model.specs.Changes.{PutNode}
use Rattle.tree_model.specs.Keys.{Key, Laid, NameKey, NodeKey, NameValue, AllValue, NodeValue, Value, keys_of_all, laid_after_all, layout_at}
use Rattle.tree_model.specs.Kept.{Misses}
use Rattle.tree_model.specs.Laws.{Among}
use Rattle.tree_model.specs.Looks.{Decide, changes, check, looks, plan}
use Rattle.tree_model.specs.OpText.{IsOp}
use Rattle.tree_model.specs.Participants.{home_of, with_place}
use Rattle.tree_model.specs.Step.{absent_fault, changed_node}
use Rattle.tree_model.specs.Striped.{with_changes}
use Rattle.tree_model.specs.Tree.{directory_in, named, names_of, root_fid, same_fid}
use Rattle.tree_model.proofs.Maps.{fids_total}
use Rattle.out_update.specs.declared.update.Update.{Update}
use Rattle.out_update.specs.declared.update.Kind.TheVariants as kind
use Rattle.out_update.specs.declared.result.UpdateResult.{UpdateResult}
use Rattle.object_store.specs.Reads.{attr_get, child_get, reads}
use Rattle.tree_sound.specs.Sound.{IsSound}
use Rattle.tree_shares.specs.Parts.{parts, parts_from}
use Rattle.tree_shares.specs.Seats.{Share, share_of}
use Rattle.tree_shares.specs.Shares.{node_object, share}
use Rattle.tree_shares.specs.Updates.{attributes_bytes, op_updates, placed, unless_none, update}
use Rattle.op_laws.specs.Near.{key_fid}
use Rattle.op_laws.specs.Objects.{is_among, owner, stands}
use Rattle.update_protocol.specs.Lists.{IsIn}
use Rattle.update_protocol.specs.Rows.{pending}
use Rattle.update_protocol.specs.Facts.{AreTrue, Asks, Decides, Decision, Fact, Settles, laid, place}
use Rattle.update_protocol.specs.Seats.{IsBelow}
use Rattle.update_protocol.specs.World.{Accepted, Answer, Attempt, Held, History, Hold, Matches, Message, Named, Sync, Synced, World, applied, at, entry, is_on, saw_of, wrote_of}
use Rattle.update_protocol.specs.Events.{Accept, Ask, Backed, Commit, Event, Hold_comes, MayAccept, Run, Send, Settled, Sync_comes, fresh, happens, has_now}
use Rattle.update_protocol.specs.Epochs.{Begin, Reached}
use Rattle.update_protocol.proofs.Shares.{share_grown}
use Rattle.update_protocol.proofs.Told.{Said, ask_node, bare, name_told, node_told, root_there, said, some_node}
use Rattle.update_protocol.proofs.Making.{Below, asks_name, asks_node, either, few, makes, refused, same, taken_settles}
use Rattle.update_protocol.proofs.Lives.{both, dir, events, executed, is_op, item, item_changes, item_is, letter, name_d, no_names, no_seat, run_on, runs, start}
use Rattle.update_protocol.proofs.Cancels.{go}

-- ---- attributes are set

abbrev pub sets : Op
sets = ops.SetAttr dir 0 0 0

abbrev set_node : Node → Node
set_node n = record n { mode = 0; uid = 0; gid = 0 }

abbrev pub set : Decision
set = record { reply = replies.Ok; parts = (1, update kind.AttrSet 1 dir (attributes_bytes 0 0 0 ∷ []) ∷ []) ∷ []; saw = dir ∷ [] }

module _ (l : Laid) (n : Node) (is : get l.tree.nodes dir ≡ Some n) where
  set_said : said (plan 3 sets) l.tree ≡ ((replies.Ok, PutNode dir (set_node n) ∷ []), NodeKey dir ∷ [])
  set_said = ask_node dir (λ (o : Option Node). check (absent_fault o) (Decide replies.Ok (changed_node dir o set_node))) l.tree (Some n) is

  pub set_change : changes 3 l.tree sets ≡ PutNode dir (set_node n) ∷ []
  set_change = ap (λ (s : Said). s.0.1) set_said

  set_there : parts 3 1 l sets ≡ set.parts
  unfolding parts
  set_there = ap (λ cs. parts_from 3 0 (with_changes 3 l (with_place 0 (home_of 3 sets)) cs) (placed 3 (unless_none cs (op_updates 3 1 l sets)))) set_change

  set_looks : looks 3 l.tree sets ≡ NodeKey dir ∷ []
  set_looks = ap (λ (s : Said). s.1) set_said

only_dir : (f : Fid) → is_among (dir ∷ []) f ≡ true → dir ≡ f
only_dir f h = ⊎_elim (λ e. same dir f e) (λ none. absurd (true≢false (sym none))) (either (same_fid dir f) false h)

near : (owned : Fid → Fid) → dir ≡ owned dir → (ks : List Key) → Among ks (NodeKey dir) → (r : UpdateResult) (u : Update) (q : UpdateResult)
    → IsIn {A = Fact} (u, q) ((asks_node dir, r) ∷ []) → (k : Key) × Among ks k × (key_fid k ≡ owned u.fid)
near owned own ks here r u q m = ⊎_elim (λ (e : (u, q) ≡ (asks_node dir, r)). (NodeKey dir, here, own ∙ ap (λ (p : Fact). owned p.0.fid) (sym e))) (λ none. absurd none) m

pub set_settles : Below → (r : UpdateResult) → r.code ≡ 0 → Settles 3 ((asks_node dir, r) ∷ []) 1 sets set
set_settles b r er h fits truth =
    let l : Laid = laid 3 h in
    let sound : IsSound 3 (length h) l = b.sounds 3 h fits.each in
    let by_node : r ≡ attr_get (option_map (λ n. node_object n (layout_at l dir) (names_of l.tree dir)) (get l.tree.nodes dir)) = truth (asks_node dir) r (inl refl) ∙ node_told 3 (length h) l sound b.nodes few dir 1 refl in
    let n = some_node (λ n. node_object n (layout_at l dir) (names_of l.tree dir)) (get l.tree.nodes dir) (sym (ap (λ (q : UpdateResult). q.code) by_node) ∙ er) in
    record {
      reply = sym (ap (λ p. p.1) (b.laws.decided 3 l.tree sets) ∙ ap (λ (s : Said). s.0.0) (set_said l n.0 n.1));
      parts = sym (set_there l n.0 n.1);
      saw = sym (ap (λ ks. flat_map (stands 3 l) ks) (set_looks l n.0 n.1));
      asked_near = λ u q m t. near (owner 3) refl (looks 3 l.tree sets) (subst (λ ks. Among ks (NodeKey dir)) (sym (set_looks l n.0 n.1)) (inl refl)) r u q m;
      asked = λ f h. (asks_node dir, r, inl refl, only_dir f h, refl);
    }

-- ---- the run

abbrev pub commits : List Event
commits = Commit 0 ∷ Commit 1 ∷ []

abbrev pub committed : World
committed = go executed commits

abbrev pub second : Request
second = record { number = 2; client = 1; op = sets }

abbrev pub sets_attempt : Attempt
sets_attempt = record { who = record { master = 1; request = second }; turn = 1 }

abbrev pub found : UpdateResult
found = reads (has_now 3 committed 1).objects (asks_node dir)

abbrev pub at_dir : Answer
at_dir = record { at = 1; question = asks_node dir ∷ []; writer = None; clock = 1; results = found ∷ [] }

abbrev pub set_item : Accepted
set_item = record { attempt = sets_attempt; reply = set.reply; batch = 1; stamp = 2; parts = set.parts; saw = set.saw }

abbrev pub set_asks : List Event
set_asks = Ask sets_attempt.who ∷ Send (Hold sets_attempt 1 at_dir.question) ∷ Hold_comes sets_attempt 1 at_dir.question None at_dir.results ∷ []

abbrev pub set_asked : World
set_asked = go committed set_asks

abbrev pub written : World
written = happens set_asked (Accept 1 set_item)

-- what is refused
abbrev pub name_g : List ℕ
name_g = 0x67 ∷ []

abbrev pub third : Request
third = record { number = 3; client = 1; op = makes dir name_g }

abbrev pub attempt : Attempt
attempt = record { who = record { master = 0; request = third }; turn = 2 }

abbrev pub free_result : UpdateResult
free_result = reads (has_now 3 written 0).objects (asks_name name_g)

abbrev pub there_result : UpdateResult
there_result = reads (has_now 3 written 1).objects (asks_node dir)

abbrev pub at_home : Answer
at_home = record { at = 0; question = asks_name name_g ∷ []; writer = None; clock = 1; results = free_result ∷ [] }

abbrev pub at_node : Answer
at_node = record { at = 1; question = asks_node dir ∷ []; writer = Some 1; clock = 2; results = there_result ∷ [] }

abbrev pub refusal : Accepted
refusal = record { attempt = attempt; reply = (refused dir).reply; batch = 2; stamp = 3; parts = (refused dir).parts; saw = (refused dir).saw }

abbrev pub asks : List Event
asks =
    Ask attempt.who ∷ Send (Hold attempt 0 at_home.question) ∷ Hold_comes attempt 0 at_home.question None at_home.results
    ∷ Send (Hold attempt 1 at_node.question) ∷ Hold_comes attempt 1 at_node.question (Some 1) at_node.results ∷ []

abbrev pub asked : World
asked = go written asks

abbrev pub syncs : List Event
syncs = Send (Sync attempt 1 1) ∷ Commit 1 ∷ Sync_comes attempt 1 1 ∷ []

abbrev pub synced : World
synced = go asked syncs

-- ---- the syncs of a pool

abbrev pub is_sync : Message → Bool
is_sync (Sync a t k) = true
is_sync _ = false

abbrev pub put_sync : Bool → Message → List Message → List Message
put_sync true p ps = p ∷ ps
put_sync false p ps = ps

abbrev pub syncs_in : List Message → List Message
syncs_in [] = []
syncs_in (p ∷ ps) = put_sync (is_sync p) p (syncs_in ps)

kept : (b : Bool) (p q : Message) (ps : List Message) → IsIn p ps → IsIn p (put_sync b q ps)
kept true p q ps m = inr m
kept false p q ps m = m

pub sync_among : (p : Message) (ps : List Message) → is_sync p ≡ true → IsIn p ps → IsIn p (syncs_in ps)
sync_among p [] s m = m
sync_among p (q ∷ ps) s m = ⊎_elim
    (λ (e : p ≡ q). subst (λ b. IsIn p (put_sync b q (syncs_in ps))) (sym (subst (λ q. is_sync q ≡ true) e s)) (inl e))
    (λ m. kept (is_sync q) p q (syncs_in ps) (sync_among p ps s m)) m

abbrev sync_target : Message → ℕ
sync_target (Sync a t k) = t
sync_target _ = 0

-- ---- histories

abbrev pub h1 : History
h1 = entry item ∷ []

abbrev h2 : History
h2 = entry item ∷ entry set_item ∷ []

name_in : Value → Option Fid
name_in (NameValue f) = f
name_in (NodeValue n l) = None
name_in (AllValue names) = None

sets_is_op : IsOp 3 sets
sets_is_op = (((omega arith, omega arith, omega arith), refl), omega arith, omega arith, omega arith)

refused_is_op : IsOp 3 (makes dir name_g)
refused_is_op = (((omega arith, omega arith, omega arith), refl), letter 0x67 (omega arith) (omega arith), ((omega arith, omega arith, omega arith), refl), tt)

placed_both : (a : Answer) → IsIn a (at_home ∷ at_node ∷ []) → (u : Update) → IsIn u a.question → a.at ≡ place 3 u.fid
unfolding at
placed_both = both (λ a. (u : Update) → IsIn u a.question → a.at ≡ place 3 u.fid) at_home at_node
    (λ u m. ⊎_elim (λ e. ap (λ (v : Update). place 3 v.fid) (sym e)) (λ none. absurd none) m) (λ u m. ⊎_elim (λ e. ap (λ (v : Update). place 3 v.fid) (sym e)) (λ none. absurd none) m)

module _ (b : Below) where
  pub one : Matches 3 [] item
  one = item_is b is_op

  pub node_made : get (laid 3 h1).tree.nodes dir ≡ Some (directory_in root_fid)
  node_made =
      ap (λ cs. get (laid_after_all (laid 3 []) cs).tree.nodes dir) (item_changes b)
      ∙ get-insert fids_total (laid 3 []).tree.nodes dir (directory_in root_fid) dir

  g_free : named (laid 3 h1).tree root_fid name_g ≡ None
  unfolding name_in
  g_free =
      ap name_in (b.laws.only_written 3 (laid 3 []) (makes dir name_d) (NameKey root_fid name_g)
      (subst (λ cs. Misses (keys_of_all cs) (NameKey root_fid name_g)) (sym (item_changes b)) (refl, (refl, (refl, tt)))))
      ∙ no_names name_g

  pub sound_one : IsSound 3 1 (laid 3 h1)
  sound_one = b.sounds 3 h1 (is_op, tt)

  pub share_one : (t : ℕ) → t < 3 → share_of 3 h1 t ≡ applied 3 t item (share_of 3 [] t)
  share_one t lt = share_grown 3 b.laws [] item t one lt

  found_there : found.code ≡ 0
  unfolding at
  found_there =
      ap (λ (s : Share). (reads s.objects (asks_node dir)).code) (sym (share_one 1 (omega arith)))
      ∙ ap (λ (r : UpdateResult). r.code) (node_told 3 1 (laid 3 h1) sound_one b.nodes few dir 1 refl)
      ∙ ap (λ o. (attr_get (option_map (λ n. node_object n (layout_at (laid 3 h1) dir) (names_of (laid 3 h1).tree dir)) o)).code) node_made

  set_truth : AreTrue 3 (laid 3 h1) ((asks_node dir, found) ∷ [])
  unfolding at
  set_truth u r m = ⊎_elim
      (λ (e : (u, r) ≡ (asks_node dir, found)). subst (λ (p : Fact). p.1 ≡ reads (share 3 (laid 3 h1) (place 3 p.0.fid)) p.0) (sym e)
      (ap (λ (s : Share). reads s.objects (asks_node dir)) (sym (share_one 1 (omega arith))))) (λ none. absurd none) m

  set_decides : Decides 3 (laid 3 h1) ((asks_node dir, found) ∷ []) 1 sets set
  set_decides = set_settles b found found_there h1 (record { each = (is_op, tt); few = omega arith }) set_truth

  two : Matches 3 h1 set_item
  two = record {
    fits = record { each = (is_op, tt); few = omega arith };
    is_op = sets_is_op;
    changes = refl;
    home = refl;
    newest = ((λ same. omega arith), tt);
    reply = set_decides.reply;
    parts = set_decides.parts;
    saw = set_decides.saw;
  }

  share_two : share_of 3 h2 1 ≡ applied 3 1 set_item (applied 3 1 item (share_of 3 [] 1))
  share_two = share_grown 3 b.laws h1 set_item 1 two (omega arith) ∙ ap (applied 3 1 set_item) (share_one 1 (omega arith))

  node_set : get (laid 3 h2).tree.nodes dir ≡ Some (set_node (directory_in root_fid))
  node_set =
      ap (λ cs. get (laid_after_all (laid 3 h1) cs).tree.nodes dir) (set_change (laid 3 h1) (directory_in root_fid) node_made)
      ∙ get-insert fids_total (laid 3 h1).tree.nodes dir (set_node (directory_in root_fid)) dir

  sound_two : IsSound 3 2 (laid 3 h2)
  sound_two = b.sounds 3 h2 (is_op, (sets_is_op, tt))

  name_free : free_result.code ≡ 2
  unfolding at
  name_free =
      let root = root_there 3 1 (laid 3 h1) sound_one in
      ap (λ (s : Share). (reads s.objects (asks_name name_g)).code) (sym (share_one 0 (omega arith)))
      ∙ ap (λ (r : UpdateResult). r.code) (name_told 3 1 (laid 3 h1) sound_one b.names few root_fid root.0 name_g 0 root.1 root.2 (bare 3 1 (laid 3 h1) sound_one root_fid root.0 root.1 refl) refl)
      ∙ ap (λ o. (child_get o).code) g_free

  node_there : there_result.code ≡ 0
  unfolding at
  node_there =
      ap (λ (s : Share). (reads s.objects (asks_node dir)).code) (sym share_two)
      ∙ ap (λ (r : UpdateResult). r.code) (node_told 3 2 (laid 3 h2) sound_two b.nodes few dir 1 refl)
      ∙ ap (λ o. (attr_get (option_map (λ n. node_object n (layout_at (laid 3 h2) dir) (names_of (laid 3 h2).tree dir)) o)).code) node_set

  settled : Settles 3 ((asks_name name_g, free_result) ∷ (asks_node dir, there_result) ∷ []) 2 (makes dir name_g) (refused dir)
  settled = taken_settles b dir 1 name_g refl refl refl refl free_result there_result 2 name_free node_there

  -- ---- events

  set_may : MayAccept 3 set_asked 1 set_item
  unfolding at
  set_may = record {
    is_current = refl;
    is_up = refl;
    all_synced = λ t k m. absurd (none_sent t k m);
    next_batch = refl;
    is_op = sets_is_op;
    changes = refl;
    few = omega arith;
    answers = at_dir ∷ [];
    heard = λ a m. ⊎_elim (λ e. subst (λ (a : Answer). IsIn (Held sets_attempt a.at a.question a.writer a.clock a.results) set_asked.pool) (sym e) (inl refl)) (λ none. absurd none) m;
    placed = λ a m. ⊎_elim (λ e. subst (λ (a : Answer). (u : Update) → IsIn u a.question → a.at ≡ place 3 u.fid) (sym e) (λ u m. ⊎_elim (λ e. ap (λ (v : Update). place 3 v.fid) (sym e)) (λ none. absurd none) m)) (λ none. absurd none) m;
    settled = λ a m. ⊎_elim (λ e. subst (λ (a : Answer). Settled set_asked a.at sets_attempt a.writer set_item) (sym e) tt) (λ none. absurd none) m;
    above = λ a m. ⊎_elim (λ e. subst (λ (a : Answer). a.clock < 2) (sym e) (omega arith)) (λ none. absurd none) m;
    certified = λ t on. (at_dir, inl refl, on_one t on);
    decided = set_settles b found found_there;
  }
    where
      none_sent : (t k : ℕ) → IsIn (Sync sets_attempt t k) set_asked.pool → ⊥
      none_sent t k m = sync_among (Sync sets_attempt t k) set_asked.pool refl m

      on_one : (t : ℕ) → is_on set_item t ≡ true → 1 ≡ t
      on_one t h = elim (eqb_tells 1 t) [ inl w ↦ w.1 | inr w ↦ absurd (true≢false (sym h ∙ ap (λ b. b || false) w.0)) ]

  set_run : Run 3 committed (set_asks ++ (Accept 1 set_item ∷ [])) written
  unfolding at
  set_run = ((refl, refl, refl, omega arith, λ r. no_seat 1 2), (refl, ((inl refl, refl, inl refl, (λ f asks n m w. m), refl, omega arith), (set_may, refl))))

  seat : IsBelow (get (insert {R = nat_cmp} empty 0 (1, replies.Ok)) 1) 3
  seat = subst (λ (s : Option (ℕ × Reply)). IsBelow s 3) (sym (get-insert nat_cmp_total empty 0 (1, replies.Ok) 1 ∙ get-empty {X = ℕ × Reply} nat_cmp 1)) tt

  to_one : (n : ℕ) → IsIn n (0 ∷ 1 ∷ []) → n ≤ 1
  to_one n m = ⊎_elim (λ (e : n ≡ 0). omega (arith, e)) (λ m. ⊎_elim (λ (e : n ≡ 1). omega (arith, e)) (λ none. absurd none) m) m

  writer : (f : Fid) → Asks 3 (asks_node dir ∷ []) f → (wrote_of set_item f ≡ true) × ((n : ℕ) → IsIn n (0 ∷ 1 ∷ []) → wrote_of (at written.since n) f ≡ true → n ≤ 1)
  writer f asks = ⊎_elim (λ a. (subst (λ f. wrote_of set_item f ≡ true) a.0 refl, λ n m w. to_one n m)) (λ none. absurd none) asks

  not_first : IsIn {A = ℕ} 1 (0 ∷ []) → ⊥
  not_first m = ⊎_elim (λ (e : 1 ≡ 0). omega (arith, e)) (λ none. none) m

  asks_run : Run 3 written asks asked
  unfolding at
  asks_run = (
    (refl, refl, refl, omega arith, λ r. seat),
    (
      refl,
      (
        (inl refl, refl, inl refl, (λ f asks n m w. m), refl, omega arith),
        (refl, ((inl refl, refl, inr (refl, omega arith), (inr (inl refl), writer, not_first), refl, omega arith), refl)),
      ),
    ),
  )

  backed : Backed 3 asked.since asked.pool attempt 1 1
  unfolding at
  backed = record {
    is_op = refused_is_op;
    answers = at_home ∷ at_node ∷ [];
    heard = both (λ a. IsIn (Held attempt a.at a.question a.writer a.clock a.results) asked.pool) at_home at_node (inr (inr (inl refl))) (inl refl);
    placed = placed_both;
    batch = 2;
    decision = refused dir;
    decided = settled;
    answer = at_node;
    answered = inr (inl refl);
    at_t = refl;
    writer = refl;
    object = dir;
    asks = inl (refl, refl);
    inside = omega arith;
    lacks = 0;
    takes_part = refl;
    uncovered = refl;
  }

  pub may_accept : MayAccept 3 synced 0 refusal
  unfolding at
  may_accept = record {
    is_current = refl;
    is_up = refl;
    all_synced = λ t k m. ⊎_elim (λ (e : Sync attempt t k ≡ Sync attempt 1 1). inr (subst (λ t. IsIn (Synced attempt t) synced.pool) (sym (ap sync_target e)) (inl refl))) (λ none. absurd none) (sync_among (Sync attempt t k) synced.pool refl m);
    next_batch = refl;
    is_op = refused_is_op;
    changes = refl;
    few = omega arith;
    answers = at_home ∷ at_node ∷ [];
    heard = both (λ a. IsIn (Held attempt a.at a.question a.writer a.clock a.results) synced.pool) at_home at_node (inr (inr (inr (inr (inl refl))))) (inr (inr (inl refl)));
    placed = placed_both;
    settled = both (λ a. Settled synced a.at attempt a.writer refusal) at_home at_node tt (inr (inl refl));
    above = both (λ a. a.clock < 3) at_home at_node (omega arith) (omega arith);
    certified = λ t on. (at_home, inl refl, elim (eqb_tells 0 t) [ inl w ↦ w.1 | inr w ↦ absurd (true≢false (sym on ∙ ap (λ b. b || false) w.0)) ]);
    decided = settled;
  }

  pub syncs_run : Run 3 asked syncs synced
  unfolding at
  syncs_run = ((refl, backed), (refl, ((inl refl, refl, refl, λ n m. m), refl)))

  abbrev front : List Event
  front = ((events ++ commits) ++ (set_asks ++ (Accept 1 set_item ∷ []))) ++ asks

  front_run : Run 3 (fresh start []) front asked
  front_run =
      run_on 3 ((events ++ commits) ++ (set_asks ++ (Accept 1 set_item ∷ []))) asks (fresh start []) written asked
      (run_on 3 (events ++ commits) (set_asks ++ (Accept 1 set_item ∷ [])) (fresh start []) committed written
      (run_on 3 events commits (fresh start []) executed committed (runs b is_op) (refl, (refl, refl))) set_run) asks_run

  pub reached_before : Reached 3 [] asked
  reached_before = record { story = Begin; start = start; events = front; run = front_run }

  pub reached : Reached 3 [] synced
  reached = record { story = Begin; start = start; events = front ++ syncs; run = run_on 3 front syncs (fresh start []) asked synced front_run syncs_run }

first_alone : IsIn {A = ℕ} 1 (0 ∷ []) → ⊥
first_alone m = ⊎_elim (λ (e : 1 ≡ 0). omega (arith, e)) (λ none. none) m

-- before the sync no target has committed the writer
unnamed_at : (one home : Bool) → IsIn {A = ℕ} 1 (if one then 0 ∷ [] else (if home then 0 ∷ [] else [])) → ⊥
unnamed_at true home m = first_alone m
unnamed_at false true m = first_alone m
unnamed_at false false m = m

pub unnamed : Named asked.disk 1 → ⊥
unnamed n = unnamed_at (n.0 == 1) (n.0 == 0) n.1

pub rests : (1 < length asked.since) × (wrote_of (at asked.since 1) dir ≡ true) × (saw_of refusal dir ≡ true) × (is_on refusal 0 ≡ true) × (is_on (at asked.since 1) 0 ≡ false)
unfolding at
rests = (omega arith, refl, refl, refl, refl)

pub shows : (refusal.reply ≡ replies.Err EEXIST) × (is_on refusal 0 ≡ true) × (is_on refusal 1 ≡ false) × (is_on (at asked.since 1) 0 ≡ false) × IsIn {A = ℕ} 1 (pending asked 1)
unfolding at
shows = (refl, refl, refl, refl, inl refl)
