-- A life in which a directory is moved over three targets.
use Rattle.std.proofs.Common.{◌≡◌, ◌<◌, ◌⊎◌, inl, inr, ⊎_elim, ℕ, true, false, ◌++◌, Option, Some, None, List, [], ◌∷◌, length, refl, sym, ap, ◌∙◌, subst, arith}
use Rattle.std.specs.Prelude.{drop, take, ◌==◌, ◌||◌}
use Rattle.std.proofs.lemmas.Bool.Decides.{eqb_tells}
use Rattle.std.specs.FinMap.{empty, get, get-empty, get-insert, insert, len}
use Rattle.std.specs.Cmp.{nat_cmp_total}
use Rattle.std.specs.Int.{w32}
use Rattle.std.specs.Option.{option_map, unwrap_or}
use Rattle.std.specs.Ordering.{nat_cmp}
use Rattle.byte_grammar.specs.Numbers.{word}
use Rattle.fid_space.specs.declared.fid.Fid.{Fid}
use Rattle.tree_model.specs.declared.node.Node.{Node}
use Rattle.tree_model.specs.declared.op.Request.{Request}
use Rattle.tree_model.specs.declared.reply.Reply.{Reply}
use Rattle.tree_model.specs.declared.reply.Reply.TheVariants as replies
use Rattle.tree_model.specs.Changes.{NewLayout, PutName, PutNode, changed}
use Rattle.tree_model.specs.Fids.{fid_cmp, name_cmp}
use Rattle.tree_model.specs.Keys.{AllValue, Laid, NameKey, NameValue, NodeKey, NodeValue, Value, keys_of_all, laid_after, laid_after_all, layout_at}
use Rattle.tree_model.specs.Kept.{Misses}
use Rattle.tree_model.specs.Looks.{changes}
use Rattle.tree_model.specs.OpText.{IsOp}
use Rattle.tree_model.specs.Tree.{Names, directory_in, named, names_of, root_fid}
use Rattle.tree_model.proofs.Maps.{fids_total}
use Rattle.tree_model.proofs.Writing.{layouts_after_is, name_after_is}
use Rattle.out_update.specs.declared.update.Update.{Update}
use Rattle.out_update.specs.declared.result.UpdateResult.{UpdateResult}
use Rattle.object_store.specs.Bodies.{body_bytes}
use Rattle.object_store.specs.Objects.{Object}
use Rattle.object_store.specs.Reads.{attr_get, child_get, reads}
use Rattle.tree_sound.specs.Sound.{IsSound}
use Rattle.tree_sound.specs.SoundLaws.{NamesLeadToNodes, ParentsAreFids}
use Rattle.tree_shares.specs.Seats.{Share, share_of}
use Rattle.tree_shares.specs.Shares.{node_object}
use Rattle.update_protocol.specs.Lists.{IsIn}
use Rattle.update_protocol.specs.Facts.{Decides, Settles, laid, place}
use Rattle.update_protocol.specs.Seats.{IsBelow}
use Rattle.update_protocol.specs.World.{Accepted, Answer, Attempt, Execute, Held, History, Hold, Matches, Sync, World, applied, at, entry, is_on}
use Rattle.update_protocol.specs.Events.{Accept, Ask, Commit, Event, Execute_comes, Hold_comes, MayAccept, Run, Send, Settled, fresh, has_now}
use Rattle.update_protocol.specs.Epochs.{Begin, Reached}
use Rattle.update_protocol.proofs.Shares.{share_grown, share_still}
use Rattle.update_protocol.proofs.Told.{bare, name_told, node_told, root_there}
use Rattle.update_protocol.proofs.Making.{Below, asks_name, asks_node, few, made, made_change, made_changes, made_decides, made_parts, made_saw, made_settles, makes}
use Rattle.update_protocol.proofs.Lives.{both, dir, events, executed, is_op, item, item_changes, letter, name_d, no_names, no_nodes, one_of, run_on, runs, start}
use Rattle.update_protocol.proofs.Cancels.{go}
use Rattle.update_protocol.proofs.Refusals.{commits, committed, h1, node_made, one, share_one, sound_one, sync_among}
use Rattle.update_protocol.proofs.Renaming.{Tells, asks_new, body_told, byte, count_told, moved, name_m, name_x, parent_told, rename_done, rename_settles, renames}

-- ---- another directory is made, with its node on the third target

abbrev pub second : Request
second = record { number = 2; client = 1; op = makes moved name_m }

abbrev pub makes_again : Attempt
makes_again = record { who = record { master = 0; request = second }; turn = 2 }

abbrev pub m_name : UpdateResult
m_name = reads (has_now 3 committed 0).objects (asks_name name_m)

abbrev pub m_node : UpdateResult
m_node = reads (has_now 3 committed 2).objects (asks_node moved)

abbrev pub m_home : Answer
m_home = record { at = 0; question = asks_name name_m ∷ []; writer = None; clock = 1; results = m_name ∷ [] }

abbrev pub m_there : Answer
m_there = record { at = 2; question = asks_node moved ∷ []; writer = None; clock = 0; results = m_node ∷ [] }

abbrev pub m_item : Accepted
m_item = record { attempt = makes_again; reply = (made moved name_m 2).reply; batch = 2; stamp = 2; parts = made_parts moved name_m 2; saw = made_saw moved }

abbrev pub m_asks : List Event
m_asks =
    Ask makes_again.who ∷ Send (Hold makes_again 0 m_home.question) ∷ Hold_comes makes_again 0 m_home.question None m_home.results
    ∷ Send (Hold makes_again 2 m_there.question) ∷ Hold_comes makes_again 2 m_there.question None m_there.results ∷ []

abbrev pub m_asked : World
m_asked = go committed m_asks

abbrev pub m_ends : List Event
m_ends = Accept 0 m_item ∷ Send (Execute 1 2) ∷ Execute_comes 1 2 ∷ Commit 0 ∷ Commit 2 ∷ []

abbrev pub m_done : World
m_done = go m_asked m_ends

-- ---- it is moved

abbrev pub third : Request
third = record { number = 3; client = 1; op = renames }

abbrev pub attempt : Attempt
attempt = record { who = record { master = 0; request = third }; turn = 3 }

abbrev pub r_name : UpdateResult
r_name = reads (has_now 3 m_done 0).objects (asks_name name_m)

abbrev pub r_dir : UpdateResult
r_dir = reads (has_now 3 m_done 1).objects (asks_node dir)

abbrev pub r_new : UpdateResult
r_new = reads (has_now 3 m_done 1).objects asks_new

abbrev pub r_node : UpdateResult
r_node = reads (has_now 3 m_done 2).objects (asks_node moved)

abbrev pub a0 : Answer
a0 = record { at = 0; question = asks_name name_m ∷ []; writer = None; clock = 2; results = r_name ∷ [] }

abbrev pub a1 : Answer
a1 = record { at = 1; question = asks_node dir ∷ []; writer = None; clock = 1; results = r_dir ∷ [] }

abbrev pub a2 : Answer
a2 = record { at = 1; question = asks_new ∷ []; writer = None; clock = 1; results = r_new ∷ [] }

abbrev pub a3 : Answer
a3 = record { at = 2; question = asks_node moved ∷ []; writer = None; clock = 2; results = r_node ∷ [] }

abbrev pub answers : List Answer
answers = a0 ∷ a1 ∷ a2 ∷ a3 ∷ []

abbrev pub r_item : Accepted
r_item = record { attempt = attempt; reply = (rename_done 3).reply; batch = 3; stamp = 3; parts = (rename_done 3).parts; saw = (rename_done 3).saw }

abbrev pub r_asks : List Event
r_asks =
    Ask attempt.who ∷ Send (Hold attempt 0 (asks_name name_m ∷ [])) ∷ Hold_comes attempt 0 (asks_name name_m ∷ []) None (r_name ∷ [])
    ∷ Send (Hold attempt 1 (asks_node dir ∷ [])) ∷ Hold_comes attempt 1 (asks_node dir ∷ []) None (r_dir ∷ [])
    ∷ Send (Hold attempt 1 (asks_new ∷ [])) ∷ Hold_comes attempt 1 (asks_new ∷ []) None (r_new ∷ [])
    ∷ Send (Hold attempt 2 (asks_node moved ∷ [])) ∷ Hold_comes attempt 2 (asks_node moved ∷ []) None (r_node ∷ []) ∷ []

abbrev pub r_asked : World
r_asked = go m_done r_asks

abbrev pub r_ends : List Event
r_ends = Accept 0 r_item ∷ Send (Execute 2 1) ∷ Execute_comes 2 1 ∷ Send (Execute 2 2) ∷ Execute_comes 2 2 ∷ []

abbrev pub renamed : World
renamed = go r_asked r_ends

-- ---- small things

abbrev h2 : History
h2 = entry item ∷ entry m_item ∷ []

abbrev name_in : Value → Option Fid
name_in (NameValue f) = f
name_in (NodeValue n l) = None
name_in (AllValue names) = None

abbrev node_in : Value → Option Node
node_in (NodeValue n l) = n
node_in (NameValue f) = None
node_in (AllValue names) = None

no_names_in : (d : Fid) (x : List ℕ) → named (laid 3 []).tree d x ≡ None
no_names_in d x = ap (λ o. get (unwrap_or o empty) x) (get-empty {X = Names} fid_cmp d) ∙ get-empty {X = Fid} name_cmp x

m_is_op : IsOp 3 (makes moved name_m)
m_is_op = (((omega arith, omega arith, omega arith), refl), letter 0x6d (omega arith) (omega arith), ((omega arith, omega arith, omega arith), refl), tt)

r_is_op : IsOp 3 renames
r_is_op = (((omega arith, omega arith, omega arith), refl), letter 0x6d (omega arith) (omega arith), ((omega arith, omega arith, omega arith), refl), letter 0x78 (omega arith) (omega arith))

four : (P : Answer → Type 0) (a b c d : Answer) → P a → P b → P c → P d → (x : Answer) → IsIn x (a ∷ b ∷ c ∷ d ∷ []) → P x
four P a b c d p q r s x m = ⊎_elim (λ e. subst P (sym e) p) (λ m. ⊎_elim (λ e. subst P (sym e) q) (λ m. ⊎_elim (λ e. subst P (sym e) r) (λ m. ⊎_elim (λ e. subst P (sym e) s) (λ none. absurd none) m) m) m) m

one_of_three : (t : ℕ) → is_on r_item t ≡ true → (0 ≡ t) ⊎ ((1 ≡ t) ⊎ (2 ≡ t))
one_of_three t h = elim (eqb_tells 0 t) [ inl w ↦ inl w.1 | inr w ↦ inr (one_of t 1 2 (sym (ap (λ b. b || ((1 == t) || ((2 == t) || false))) w.0) ∙ h)) ]

one_asked : (place_is : ℕ) (u v : Update) → place_is ≡ place 3 v.fid → IsIn u (v ∷ []) → place_is ≡ place 3 u.fid
one_asked t u v e m = e ∙ ⊎_elim (λ q. ap (λ (w : Update). place 3 w.fid) (sym q)) (λ none. absurd none) m

abbrev new_dir : Node
new_dir = directory_in root_fid

abbrev object_in : Laid → Fid → Node → Object
object_in l f n = node_object n (layout_at l f) (names_of l.tree f)

abbrev tail_of : Laid → Fid → List ℕ
tail_of l f = word w32 (len (object_in l f new_dir).attributes) ++ word w32 0

-- the first byte of a directory's body
kind_is : (l : Laid) (f : Fid) → byte 0 (body_bytes (object_in l f new_dir).body ++ tail_of l f) ≡ 2
unfolding body_bytes word
kind_is l f = refl

module _ (b : Below) where
  -- what a target of a tree with a new directory answers
  code_there : (l : Laid) (f : Fid) (r : UpdateResult) → r ≡ attr_get (option_map (object_in l f) (get l.tree.nodes f)) → get l.tree.nodes f ≡ Some new_dir → r.code ≡ 0
  code_there l f r e is = ap (λ (q : UpdateResult). q.code) e ∙ ap (λ o. (attr_get (option_map (object_in l f) o)).code) is

  body_there : (l : Laid) (f : Fid) (r : UpdateResult) → r ≡ attr_get (option_map (object_in l f) (get l.tree.nodes f)) → get l.tree.nodes f ≡ Some new_dir → r.body ≡ body_bytes (object_in l f new_dir).body ++ tail_of l f
  body_there l f r e is = ap (λ (q : UpdateResult). q.body) e ∙ body_told (object_in l f) (get l.tree.nodes f) new_dir is

  root : (h : History) (sound : IsSound 3 (length h) (laid 3 h)) → (n : Node) × (get (laid 3 h).tree.nodes root_fid ≡ Some n) × (n.dir ≡ true)
  root h sound = root_there 3 (length h) (laid 3 h) sound

  plain : (h : History) (sound : IsSound 3 (length h) (laid 3 h)) → (layout_at (laid 3 h) root_fid).count ≡ 0
  plain h sound = bare 3 (length h) (laid 3 h) sound root_fid (root h sound).0 (root h sound).1 refl

  -- ---- after the first directory

  m_free : named (laid 3 h1).tree root_fid name_m ≡ None
  m_free =
      ap name_in (b.laws.only_written 3 (laid 3 []) (makes dir name_d) (NameKey root_fid name_m)
      (subst (λ cs. Misses (keys_of_all cs) (NameKey root_fid name_m)) (sym (item_changes b)) (refl, (refl, (refl, tt)))))
      ∙ no_names name_m

  m_new : get (laid 3 h1).tree.nodes moved ≡ None
  m_new =
      ap node_in (b.laws.only_written 3 (laid 3 []) (makes dir name_d) (NodeKey moved)
      (subst (λ cs. Misses (keys_of_all cs) (NodeKey moved)) (sym (item_changes b)) (refl, (refl, (refl, tt)))))
      ∙ no_nodes moved refl

  x_free : named (laid 3 h1).tree dir name_x ≡ None
  x_free =
      ap name_in (b.laws.only_written 3 (laid 3 []) (makes dir name_d) (NameKey dir name_x)
      (subst (λ cs. Misses (keys_of_all cs) (NameKey dir name_x)) (sym (item_changes b)) (refl, (refl, (refl, tt)))))
      ∙ no_names_in dir name_x

  dir_plain : (layout_at (laid 3 h1) dir).count ≡ 0
  dir_plain =
      ap (λ cs. (layout_at (laid_after_all (laid 3 []) cs) dir).count) (item_changes b)
      ∙ ap (λ l. l.count) (layouts_after_is (laid_after (laid_after (laid 3 []) (PutNode dir new_dir)) (PutName root_fid name_d dir)) (NewLayout dir 0 0) dir)

  m_name_code : m_name.code ≡ 2
  unfolding at
  m_name_code =
      ap (λ (s : Share). (reads s.objects (asks_name name_m)).code) (sym (share_one b 0 (omega arith)))
      ∙ ap (λ (r : UpdateResult). r.code) (name_told 3 1 (laid 3 h1) (sound_one b) b.names few root_fid (root h1 (sound_one b)).0 name_m 0 (root h1 (sound_one b)).1 (root h1 (sound_one b)).2 (plain h1 (sound_one b)) refl)
      ∙ ap (λ o. (child_get o).code) m_free

  m_node_code : m_node.code ≡ 2
  m_node_code =
      ap (λ (r : UpdateResult). r.code) (node_told 3 0 (laid 3 []) (b.sounds 3 [] tt) b.nodes few moved 2 refl)
      ∙ ap (λ o. (attr_get (option_map (object_in (laid 3 []) moved) o)).code) (no_nodes moved refl)

  m_settled : Settles 3 ((asks_name name_m, m_name) ∷ (asks_node moved, m_node) ∷ []) 2 (makes moved name_m) (made moved name_m 2)
  m_settled = made_settles b moved 2 name_m refl refl refl refl m_name m_node 2 m_name_code m_node_code

  m_decides : Decides 3 (laid 3 h1) ((asks_name name_m, m_name) ∷ (asks_node moved, m_node) ∷ []) 2 (makes moved name_m) (made moved name_m 2)
  m_decides = made_decides moved name_m (laid 3 h1) (root h1 (sound_one b)).0 (root h1 (sound_one b)).1 (root h1 (sound_one b)).2 (plain h1 (sound_one b)) m_free refl refl refl m_new b.laws.decided 2 m_name m_node

  m_changes : changes 3 (laid 3 h1).tree (makes moved name_m) ≡ made_changes moved name_m
  m_changes = made_change moved name_m (laid 3 h1) (root h1 (sound_one b)).0 (root h1 (sound_one b)).1 (root h1 (sound_one b)).2 (plain h1 (sound_one b)) m_free refl refl refl m_new

  two : Matches 3 h1 m_item
  two = record {
    fits = record { each = (is_op, tt); few = omega arith };
    is_op = m_is_op;
    changes = refl;
    home = refl;
    newest = ((λ same. omega arith), tt);
    reply = m_decides.reply;
    parts = m_decides.parts;
    saw = m_decides.saw;
  }

  -- ---- after the second

  sound_two : IsSound 3 2 (laid 3 h2)
  sound_two = b.sounds 3 h2 (is_op, (m_is_op, tt))

  home_share : share_of 3 h2 0 ≡ applied 3 0 m_item (applied 3 0 item (share_of 3 [] 0))
  home_share = share_grown 3 b.laws h1 m_item 0 two (omega arith) ∙ ap (applied 3 0 m_item) (share_one b 0 (omega arith))

  moved_share : share_of 3 h2 2 ≡ applied 3 2 m_item (share_of 3 [] 2)
  moved_share = share_grown 3 b.laws h1 m_item 2 two (omega arith) ∙ ap (applied 3 2 m_item) (share_still 3 b.laws [] item 2 (one b) (omega arith) refl)

  m_named : named (laid 3 h2).tree root_fid name_m ≡ Some moved
  m_named =
      ap (λ cs. named (laid_after_all (laid 3 h1) cs).tree root_fid name_m) m_changes
      ∙ name_after_is (changed (laid 3 h1).tree (PutNode moved new_dir)) (PutName root_fid name_m moved) root_fid name_m

  m_made : get (laid 3 h2).tree.nodes moved ≡ Some new_dir
  m_made = ap (λ cs. get (laid_after_all (laid 3 h1) cs).tree.nodes moved) m_changes ∙ get-insert fids_total (laid 3 h1).tree.nodes moved new_dir moved

  name_answer : r_name ≡ child_get (Some moved)
  unfolding at
  name_answer =
      ap (λ (s : Share). reads s.objects (asks_name name_m)) (sym home_share)
      ∙ name_told 3 2 (laid 3 h2) sound_two b.names few root_fid (root h2 sound_two).0 name_m 0 (root h2 sound_two).1 (root h2 sound_two).2 (plain h2 sound_two) refl
      ∙ ap child_get m_named

  dir_answer : r_dir ≡ attr_get (option_map (object_in (laid 3 h1) dir) (get (laid 3 h1).tree.nodes dir))
  unfolding at
  dir_answer = ap (λ (s : Share). reads s.objects (asks_node dir)) (sym (share_one b 1 (omega arith))) ∙ node_told 3 1 (laid 3 h1) (sound_one b) b.nodes few dir 1 refl

  new_answer : r_new ≡ child_get None
  unfolding at
  new_answer =
      ap (λ (s : Share). reads s.objects asks_new) (sym (share_one b 1 (omega arith)))
      ∙ name_told 3 1 (laid 3 h1) (sound_one b) b.names few dir new_dir name_x 1 (node_made b) refl dir_plain refl ∙ ap child_get x_free

  node_answer : r_node ≡ attr_get (option_map (object_in (laid 3 h2) moved) (get (laid 3 h2).tree.nodes moved))
  unfolding at
  node_answer = ap (λ (s : Share). reads s.objects (asks_node moved)) (sym moved_share) ∙ node_told 3 2 (laid 3 h2) sound_two b.nodes few moved 2 refl

  tells : Tells r_name r_dir r_new r_node
  tells = record {
    there = ap (λ (r : UpdateResult). r.code) name_answer;
    is_moved = ap (λ (r : UpdateResult). r.body) name_answer;
    under = code_there (laid 3 h1) dir r_dir dir_answer (node_made b);
    is_dir = ap (byte 0) (body_there (laid 3 h1) dir r_dir dir_answer (node_made b)) ∙ kind_is (laid 3 h1) dir;
    is_plain = ap (byte 20) (body_there (laid 3 h1) dir r_dir dir_answer (node_made b)) ∙ count_told (object_in (laid 3 h1) dir new_dir).body (tail_of (laid 3 h1) dir) ∙ dir_plain;
    in_root = ap (λ bs. take 16 (drop 28 bs)) (body_there (laid 3 h1) dir r_dir dir_answer (node_made b)) ∙ parent_told (object_in (laid 3 h1) dir new_dir).body (tail_of (laid 3 h1) dir);
    free = ap (λ (r : UpdateResult). r.code) new_answer;
    node = code_there (laid 3 h2) moved r_node node_answer m_made;
    moves_dir = ap (byte 0) (body_there (laid 3 h2) moved r_node node_answer m_made) ∙ kind_is (laid 3 h2) moved;
  }

  -- ---- events

  m_may : MayAccept 3 m_asked 0 m_item
  unfolding at
  m_may = record {
    is_current = refl;
    is_up = refl;
    all_synced = λ t k m. absurd (sync_among (Sync makes_again t k) m_asked.pool refl m);
    next_batch = refl;
    is_op = m_is_op;
    changes = refl;
    few = omega arith;
    answers = m_home ∷ m_there ∷ [];
    heard = both (λ a. IsIn (Held makes_again a.at a.question a.writer a.clock a.results) m_asked.pool) m_home m_there (inr (inr (inl refl))) (inl refl);
    placed = both (λ a. (u : Update) → IsIn u a.question → a.at ≡ place 3 u.fid) m_home m_there (λ u m. one_asked 0 u (asks_name name_m) refl m) (λ u m. one_asked 2 u (asks_node moved) refl m);
    settled = both (λ a. Settled m_asked a.at makes_again a.writer m_item) m_home m_there tt tt;
    above = both (λ a. a.clock < 2) m_home m_there (omega arith) (omega arith);
    certified = λ t on. ⊎_elim (λ e. (m_home, inl refl, e)) (λ e. (m_there, inr (inl refl), e)) (one_of t 0 2 on);
    decided = m_settled;
  }

  client_none : (number : ℕ) → IsBelow (get (insert {R = nat_cmp} empty 0 (1, replies.Ok)) 1) number
  client_none number = subst (λ (s : Option (ℕ × Reply)). IsBelow s number) (sym (get-insert nat_cmp_total empty 0 (1, replies.Ok) 1 ∙ get-empty {X = ℕ × Reply} nat_cmp 1)) tt

  m_run : Run 3 committed m_asks m_asked
  unfolding at
  m_run = (
    (refl, refl, refl, omega arith, λ r. client_none 2),
    (
      refl,
      (
        (inl refl, refl, inl refl, (λ f asks n m w. m), refl, omega arith),
        (refl, ((inl refl, refl, inr (refl, omega arith), (λ f asks n m w. m), refl, omega arith), refl)),
      ),
    ),
  )

  m_end : Run 3 m_asked m_ends m_done
  unfolding at
  m_end = (m_may, ((omega arith, refl), ((inl refl, refl, refl), (refl, (refl, refl)))))

  client_two : IsBelow (get (insert {R = nat_cmp} (insert {R = nat_cmp} empty 0 (1, replies.Ok)) 1 (2, replies.Ok)) 1) 3
  client_two = subst (λ (s : Option (ℕ × Reply)). IsBelow s 3) (sym (get-insert nat_cmp_total (insert {R = nat_cmp} empty 0 (1, replies.Ok)) 1 (2, replies.Ok) 1)) (omega arith)

  r_run : Run 3 m_done r_asks r_asked
  unfolding at
  r_run = (
    (refl, refl, refl, omega arith, λ r. client_two),
    (
      refl,
      (
        (inl refl, refl, inl refl, (λ f asks n m w. m), refl, omega arith),
        (
          refl,
          (
            (inl refl, refl, inr (refl, omega arith), (λ f asks n m w. m), refl, omega arith),
            (
              refl,
              (
                (inl refl, refl, inl refl, (λ f asks n m w. m), refl, omega arith),
                (refl, ((inl refl, refl, inr (refl, omega arith), (λ f asks n m w. m), refl, omega arith), refl)),
              ),
            ),
          ),
        ),
      ),
    ),
  )

  module _ (lead : NamesLeadToNodes) (fids : ParentsAreFids) where
    r_may : MayAccept 3 r_asked 0 r_item
    unfolding at
    r_may = record {
      is_current = refl;
      is_up = refl;
      all_synced = λ t k m. absurd (sync_among (Sync attempt t k) r_asked.pool refl m);
      next_batch = refl;
      is_op = r_is_op;
      changes = refl;
      few = omega arith;
      answers = answers;
      heard = four (λ a. IsIn (Held attempt a.at a.question a.writer a.clock a.results) r_asked.pool) a0 a1 a2 a3 (inr (inr (inr (inr (inr (inr (inl refl))))))) (inr (inr (inr (inr (inl refl))))) (inr (inr (inl refl))) (inl refl);
      placed = four (λ a. (u : Update) → IsIn u a.question → a.at ≡ place 3 u.fid) a0 a1 a2 a3 (λ u m. one_asked 0 u (asks_name name_m) refl m) (λ u m. one_asked 1 u (asks_node dir) refl m) (λ u m. one_asked 1 u asks_new refl m) (λ u m. one_asked 2 u (asks_node moved) refl m);
      settled = four (λ a. Settled r_asked a.at attempt a.writer r_item) a0 a1 a2 a3 tt tt tt tt;
      above = four (λ a. a.clock < 3) a0 a1 a2 a3 (omega arith) (omega arith) (omega arith) (omega arith);
      certified = λ t on. ⊎_elim (λ e. (a0, inl refl, e)) (λ r. ⊎_elim (λ e. (a1, inr (inl refl), e)) (λ e. (a3, inr (inr (inr (inl refl))), e)) r) (one_of_three t on);
      decided = rename_settles b lead fids r_name r_dir r_new r_node tells 3;
    }

    r_end : Run 3 r_asked r_ends renamed
    unfolding at
    r_end = (r_may, ((omega arith, refl), ((inl refl, refl, refl), ((omega arith, refl), ((inl refl, refl, refl), refl)))))

    pub reached : Reached 3 [] renamed
    reached = record {
      story = Begin;
      start = start;
      events = ((((events ++ commits) ++ m_asks) ++ m_ends) ++ r_asks) ++ r_ends;
      run = run_on 3 ((((events ++ commits) ++ m_asks) ++ m_ends) ++ r_asks) r_ends (fresh start []) r_asked renamed
          (run_on 3 (((events ++ commits) ++ m_asks) ++ m_ends) r_asks (fresh start []) m_done r_asked
          (run_on 3 ((events ++ commits) ++ m_asks) m_ends (fresh start []) m_asked m_done
          (run_on 3 (events ++ commits) m_asks (fresh start []) committed m_asked
          (run_on 3 events commits (fresh start []) executed committed (runs b is_op) (refl, (refl, refl))) m_run) m_end) r_run) r_end;
    }

pub shows : (length renamed.since ≡ 3) × (is_on (at renamed.since 2) 0 ≡ true) × (is_on (at renamed.since 2) 1 ≡ true) × (is_on (at renamed.since 2) 2 ≡ true)
    × IsIn {A = ℕ} 2 (renamed.done 0) × IsIn {A = ℕ} 2 (renamed.done 1) × IsIn {A = ℕ} 2 (renamed.done 2)
unfolding at
shows = (refl, refl, refl, refl, inr (inr (inl refl)), inr (inl refl), inr (inl refl))
