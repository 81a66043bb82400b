-- A directory of the root is moved into another one, over three targets: what four answers decide.
use Rattle.std.proofs.Common.{◌≡◌, inl, inr, ⊎_elim, ℕ, zero, suc, Bool, true, false, true≢false, if◌then◌else◌, ◌||◌, ◌++◌, Option, Some, None, List, [], ◌∷◌, length, refl, sym, ap, ◌∙◌, subst, arith}
use Rattle.std.specs.Prelude.{drop, take, ◌&&◌}
use Rattle.std.specs.FinMap.{get, len}
use Rattle.std.specs.Int.{from_le_bytes, w32, w64}
use Rattle.std.specs.List.{flat_map}
use Rattle.std.specs.Option.{option_map}
use Rattle.std.proofs.lemmas.Nat.{from_le_bytes-to_le_bytes_4, from_le_bytes-to_le_bytes_8}
use Rattle.byte_grammar.specs.Numbers.{word}
use Rattle.fid_space.specs.declared.fid.Fid.{Fid}
use Rattle.fid_space.specs.FidText.{IsFid}
use Rattle.fid_space.specs.Places.{place_of}
use Rattle.tree_model.specs.declared.node.Node.{Node}
use Rattle.tree_model.specs.declared.op.Op.{Op}
use Rattle.tree_model.specs.declared.op.Op.TheVariants as ops
use Rattle.tree_model.specs.declared.reply.Reply.TheVariants as replies
use Rattle.tree_model.specs.declared.errno.Errno.TheVariants.{EINVAL, ENOTDIR}
use Rattle.tree_model.specs.Changes.{Change, DropName, PutName, PutNode}
use Rattle.tree_model.specs.History.{Item}
use Rattle.tree_model.specs.Keys.{Key, Laid, Layout, NameKey, NodeKey, layout_at, plain_layout}
use Rattle.tree_model.specs.Laws.{Among}
use Rattle.tree_model.specs.Looks.{AskName, AskNode, Decide, Plan, changes, check, found, looks, move_plan, on_directory, plan, refuse, replace_plan, walk, whole_walk}
use Rattle.tree_model.specs.Participants.{home_of, with_place}
use Rattle.tree_model.specs.Step.{parent_fault, parent_of, same_place}
use Rattle.tree_model.specs.Striped.{entry_place, with_changes}
use Rattle.tree_model.specs.Tree.{Tree, named, names_of, root_fid, same_fid}
use Rattle.out_update.specs.Spelling.{fid_bytes}
use Rattle.out_update.specs.declared.update.Update.{Update}
use Rattle.out_update.specs.declared.update.Kind.TheVariants as kind
use Rattle.out_update.specs.declared.result.UpdateResult.{UpdateResult}
use Rattle.object_store.specs.Bodies.{body_bytes}
use Rattle.object_store.specs.Objects.{Object}
use Rattle.object_store.specs.Reads.{attr_get, child_get}
use Rattle.object_store.specs.declared.body.Body.{Body}
use Rattle.tree_sound.specs.Sound.{IsSound, IsSoundAt}
use Rattle.tree_sound.specs.SoundLaws.{NamesLeadToNodes, ParentsAreFids}
use Rattle.tree_shares.specs.Parts.{parts, parts_from}
use Rattle.tree_shares.specs.Shares.{body_of, directory_body, file_body, node_object}
use Rattle.tree_shares.specs.Updates.{deleted, gone, inserted, op_updates, parent_updates, part_named, placed, rename_updates, unless_none, update}
use Rattle.op_laws.specs.Near.{key_fid}
use Rattle.op_laws.specs.Objects.{is_among, owner, saw, stands}
use Rattle.update_protocol.specs.Facts.{AreTrue, Decides, Decision, Fact, Fits, Parts, Settles, is_told, laid}
use Rattle.update_protocol.specs.Lists.{IsIn}
use Rattle.update_protocol.proofs.Told.{Said, ask_name, ask_node, bare, name_told, no_name, node_told, root_there, said, some_node, with_key}
use Rattle.update_protocol.proofs.Making.{Below, asks_name, asks_node, either, few, same}
use Rattle.update_protocol.proofs.Lives.{dir}

abbrev pub moved : Fid
moved = record { seq = 0x200200400; oid = 1; ver = 0 }

abbrev pub name_m : List ℕ
name_m = 0x6d ∷ []

abbrev pub name_x : List ℕ
name_x = 0x78 ∷ []

abbrev pub renames : Op
renames = ops.Rename root_fid name_m dir name_x

abbrev pub asks_new : Update
asks_new = update kind.Lookup 0 dir (name_x ∷ [])

abbrev pub rename_keys : List Key
rename_keys = NodeKey root_fid ∷ NameKey root_fid name_m ∷ NodeKey dir ∷ NodeKey moved ∷ NodeKey dir ∷ NameKey dir name_x ∷ []

abbrev put_under : Node → Node
put_under n = record n { parent = dir }

abbrev pub rename_changes : Node → List Change
rename_changes n = DropName root_fid name_m ∷ PutName dir name_x moved ∷ PutNode moved (put_under n) ∷ []

-- the parts over the layouts of both directories
abbrev parts_over : ℕ → Layout → Layout → List Update → List Update → Parts
parts_over batch root d over turn =
    parts_from 3 0 (with_place (with_place (with_place (with_place 0 (place_of 3 root_fid)) (entry_place 3 root_fid root name_m)) (entry_place 3 dir d name_x)) (place_of 3 moved))
    (placed 3 (deleted 3 batch root_fid root name_m ∷ (over ++ (inserted 3 batch dir d name_x moved ∷ turn))))

abbrev pub turned : ℕ → List Update
turned batch = update kind.ParentSet batch moved (fid_bytes dir ∷ []) ∷ []

abbrev pub rename_saw : List Fid
rename_saw = root_fid ∷ root_fid ∷ dir ∷ moved ∷ dir ∷ dir ∷ []

abbrev pub rename_done : ℕ → Decision
rename_done batch = record { reply = replies.Ok; parts = parts_over batch plain_layout plain_layout [] (turned batch); saw = rename_saw }

abbrev pub rename_facts : UpdateResult → UpdateResult → UpdateResult → UpdateResult → List Fact
rename_facts a b c d = (asks_name name_m, a) ∷ (asks_node dir, b) ∷ (asks_new, c) ∷ (asks_node moved, d) ∷ []

-- ---- the plan

walked : (left : ℕ) (m a : Fid) (next : Plan) (t : Tree) (n : Node) → same_fid a root_fid ≡ false → same_fid a m ≡ false → get t.nodes a ≡ Some n → n.parent ≡ root_fid
    → said (walk (suc (suc left)) m a next) t ≡ with_key (NodeKey a) (said next t)
walked left m a next t n e f is p =
    ap (λ b. said (if b then next else (if same_fid a m then refuse EINVAL else AskNode a (λ node. walk (suc left) m (parent_of node) next))) t) e
    ∙ ap (λ b. said (if b then refuse EINVAL else AskNode a (λ node. walk (suc left) m (parent_of node) next)) t) f
    ∙ ask_node a (λ (node : Option Node). walk (suc left) m (parent_of node) next) t (Some n) is
    ∙ ap (λ q. with_key (NodeKey a) (said (walk (suc left) m q next) t)) p

near : (owned : Fid → Fid) → root_fid ≡ owned root_fid → dir ≡ owned dir → moved ≡ owned moved → (ks : List Key) → Among ks (NodeKey root_fid) → Among ks (NodeKey dir) → Among ks (NodeKey moved)
    → (a b c d : UpdateResult) (u : Update) (q : UpdateResult) → IsIn {A = Fact} (u, q) (rename_facts a b c d) → (k : Key) × Among ks k × (key_fid k ≡ owned u.fid)
near owned r s v ks kr kd km a b c d u q m = ⊎_elim
    (λ (e : (u, q) ≡ (asks_name name_m, a)). (NodeKey root_fid, kr, r ∙ ap (λ (p : Fact). owned p.0.fid) (sym e)))
    (λ m. ⊎_elim (λ (e : (u, q) ≡ (asks_node dir, b)). (NodeKey dir, kd, s ∙ ap (λ (p : Fact). owned p.0.fid) (sym e)))
    (λ m. ⊎_elim (λ (e : (u, q) ≡ (asks_new, c)). (NodeKey dir, kd, s ∙ ap (λ (p : Fact). owned p.0.fid) (sym e)))
    (λ m. ⊎_elim (λ (e : (u, q) ≡ (asks_node moved, d)). (NodeKey moved, km, v ∙ ap (λ (p : Fact). owned p.0.fid) (sym e))) (λ none. absurd none) m) m) m) m

abbrev Answered : UpdateResult → UpdateResult → UpdateResult → UpdateResult → Fid → Type 0
Answered a b c d g = (u : Update) × (q : UpdateResult) × IsIn {A = Fact} (u, q) (rename_facts a b c d) × (u.fid ≡ g) × (is_told 3 u ≡ true)

asked_for : (a b c d : UpdateResult) (g : Fid) → is_among rename_saw g ≡ true → Answered a b c d g
asked_for a b c d g h = ⊎_elim at_root (λ h. ⊎_elim at_root (λ h. ⊎_elim at_dir (λ h. ⊎_elim at_moved (λ h. ⊎_elim at_dir (λ h. ⊎_elim at_dir (λ none. absurd (true≢false (sym none)))
    (either (same_fid dir g) false h)) (either (same_fid dir g) (same_fid dir g || false) h)) (either (same_fid moved g) (same_fid dir g || (same_fid dir g || false)) h))
    (either (same_fid dir g) (same_fid moved g || (same_fid dir g || (same_fid dir g || false))) h)) (either (same_fid root_fid g) (same_fid dir g || (same_fid moved g || (same_fid dir g || (same_fid dir g || false)))) h))
    (either (same_fid root_fid g) (same_fid root_fid g || (same_fid dir g || (same_fid moved g || (same_fid dir g || (same_fid dir g || false))))) h)
  where
    at_root : same_fid root_fid g ≡ true → Answered a b c d g
    at_root e = (asks_name name_m, a, inl refl, same root_fid g e, refl)

    at_dir : same_fid dir g ≡ true → Answered a b c d g
    at_dir e = (asks_node dir, b, inr (inl refl), same dir g e, refl)

    at_moved : same_fid moved g ≡ true → Answered a b c d g
    at_moved e = (asks_node moved, d, inr (inr (inr (inl refl))), same moved g e, refl)

module _ (l : Laid) (n : Node) (is : get l.tree.nodes root_fid ≡ Some n) (n_dir : n.dir ≡ true) (plain_root : (layout_at l root_fid).count ≡ 0) (there : named l.tree root_fid name_m ≡ Some moved)
    (k : Node) (is_k : get l.tree.nodes dir ≡ Some k) (k_dir : k.dir ≡ true) (plain_dir : (layout_at l dir).count ≡ 0) (under_root : k.parent ≡ root_fid) (free : named l.tree dir name_x ≡ None)
    (m : Node) (is_m : get l.tree.nodes moved ≡ Some m) (m_dir : m.dir ≡ true) where
  abbrev named_next : Option Fid → Plan
  named_next o = found o (λ f. on_directory dir (if same_place root_fid name_m dir name_x then Decide replies.Ok [] else AskNode f (move_plan root_fid name_m dir name_x f)))

  abbrev into : Plan
  into = AskNode moved (move_plan root_fid name_m dir name_x moved)

  abbrev last : Plan
  last = AskName dir name_x (replace_plan root_fid name_m dir name_x moved (Some m))

  abbrev turn_if : Bool → Said
  turn_if b = ((replies.Ok, DropName root_fid name_m ∷ PutName dir name_x moved ∷ (if b && true then PutNode moved (put_under m) ∷ [] else [])), [])

  rename_said : said (plan 3 renames) l.tree ≡ ((replies.Ok, rename_changes m), rename_keys)
  unfolding whole_walk
  rename_said =
      ask_node root_fid (λ (o : Option Node). check (parent_fault o) (AskName root_fid name_m named_next)) l.tree (Some n) is
      ∙ ap (λ b. with_key (NodeKey root_fid) (said (check (if b then None else Some ENOTDIR) (AskName root_fid name_m named_next)) l.tree)) n_dir
      ∙ ap (with_key (NodeKey root_fid)) (ask_name root_fid name_m named_next l.tree (Some moved) there
      ∙ ap (with_key (NameKey root_fid name_m)) (ask_node dir (λ (o : Option Node). check (parent_fault o) into) l.tree (Some k) is_k
      ∙ ap (with_key (NodeKey dir)) (ap (λ b. said (check (if b then None else Some ENOTDIR) into) l.tree) k_dir
      ∙ ask_node moved (move_plan root_fid name_m dir name_x moved) l.tree (Some m) is_m
      ∙ ap (with_key (NodeKey moved)) (ap (λ b. said (if b && true then whole_walk moved dir last else last) l.tree) m_dir
      ∙ walked 1021 moved dir last l.tree k refl refl is_k under_root
      ∙ ap (with_key (NodeKey dir)) (ask_name dir name_x (replace_plan root_fid name_m dir name_x moved (Some m)) l.tree None free
      ∙ ap (with_key (NameKey dir name_x)) (ap turn_if m_dir))))))

  pub rename_change : changes 3 l.tree renames ≡ rename_changes m
  rename_change = ap (λ (s : Said). s.0.1) rename_said

  rename_looks : looks 3 l.tree renames ≡ rename_keys
  rename_looks = ap (λ (s : Said). s.1) rename_said

  abbrev at_root : ℕ → Layout
  at_root c = record { count = c; start = (layout_at l root_fid).start; generation = (layout_at l root_fid).generation }

  abbrev at_dir : ℕ → Layout
  at_dir c = record { count = c; start = (layout_at l dir).start; generation = (layout_at l dir).generation }

  abbrev over : ℕ → List Update → List Update → Parts
  over batch g t = parts_over batch (layout_at l root_fid) (layout_at l dir) g t

  rename_parts : (batch : ℕ) → parts 3 batch l renames ≡ (rename_done batch).parts
  unfolding parts
  rename_parts batch =
      ap (λ cs. parts_from 3 0 (with_changes 3 l (with_place 0 (home_of 3 renames)) cs) (placed 3 (unless_none cs (op_updates 3 batch l renames)))) rename_change
      ∙ ap (λ o. parts_from 3 0 (with_changes 3 l (with_place 0 (home_of 3 renames)) (rename_changes m)) (placed 3 (rename_updates 3 batch l root_fid name_m dir name_x o))) there
      ∙ ap (λ o. over batch (gone 3 batch l o) (parent_updates batch root_fid dir moved (get l.tree.nodes moved))) free
      ∙ ap (λ o. over batch [] (parent_updates batch root_fid dir moved o)) is_m
      ∙ ap (λ b. over batch [] (if b && true then turned batch else [])) m_dir
      ∙ ap (λ c. parts_over batch (at_root c) (layout_at l dir) [] (turned batch)) plain_root
      ∙ ap (λ c. parts_over batch (at_root 0) (at_dir c) [] (turned batch)) plain_dir

  rename_told : saw 3 l renames ≡ rename_saw
  rename_told =
      ap (λ ks. flat_map (stands 3 l) ks) rename_looks
      ∙ ap (λ c. root_fid ∷ part_named 3 root_fid (at_root c) name_m ∷ dir ∷ moved ∷ dir ∷ part_named 3 dir (layout_at l dir) name_x ∷ []) plain_root
      ∙ ap (λ c. root_fid ∷ root_fid ∷ dir ∷ moved ∷ dir ∷ part_named 3 dir (at_dir c) name_x ∷ []) plain_dir

  pub rename_decides : Below → (batch : ℕ) (a b c d : UpdateResult) → Decides 3 l (rename_facts a b c d) batch renames (rename_done batch)
  rename_decides below batch a b c d = record {
    reply = sym (ap (λ p. p.1) (below.laws.decided 3 l.tree renames) ∙ ap (λ (s : Said). s.0.0) rename_said);
    parts = sym (rename_parts batch);
    saw = sym rename_told;
    asked_near = λ u q i t. near (owner 3) refl refl refl (looks 3 l.tree renames) (subst (λ ks. Among ks (NodeKey root_fid)) (sym rename_looks) (inl refl))
        (subst (λ ks. Among ks (NodeKey dir)) (sym rename_looks) (inr (inr (inl refl)))) (subst (λ ks. Among ks (NodeKey moved)) (sym rename_looks) (inr (inr (inr (inl refl))))) a b c d u q i;
    asked = asked_for a b c d;
  }

-- ---- bytes

abbrev pub byte : ℕ → List ℕ → ℕ
byte n [] = 0
byte zero (x ∷ xs) = x
byte (suc n) (x ∷ xs) = byte n xs

pub count_told : (b : Body) (rest : List ℕ) → byte 20 (body_bytes b ++ rest) ≡ b.layout.count
unfolding body_bytes word
count_told b rest = refl

pub parent_told : (b : Body) (rest : List ℕ) → take 16 (drop 28 (body_bytes b ++ rest)) ≡ fid_bytes b.fid
unfolding body_bytes word
parent_told b rest = refl

pub kind_told : (n : Node) (l : Layout) (rest : List ℕ) → byte 0 (body_bytes (body_of n l) ++ rest) ≡ 2 → n.dir ≡ true
unfolding body_bytes word
kind_told n l rest e = by_kind n.dir e
  where
    by_kind : (b : Bool) → byte 0 (body_bytes (if b then directory_body n l else file_body n) ++ rest) ≡ 2 → b ≡ true
    by_kind true e = refl
    by_kind false e = absurd (omega (arith, e))

pub fid_same : (f g : Fid) → IsFid f → IsFid g → fid_bytes f ≡ fid_bytes g → f ≡ g
unfolding word
fid_same f g a b e = λ i. record { seq = seqs i; oid = oids i; ver = vers i }
  where
    seqs : f.seq ≡ g.seq
    seqs = sym (from_le_bytes-to_le_bytes_8 f.seq a.0) ∙ ap (λ bs. from_le_bytes w64 (take 8 bs)) e ∙ from_le_bytes-to_le_bytes_8 g.seq b.0

    oids : f.oid ≡ g.oid
    oids = sym (from_le_bytes-to_le_bytes_4 f.oid a.1) ∙ ap (λ bs. from_le_bytes w32 (take 4 (drop 8 bs))) e ∙ from_le_bytes-to_le_bytes_4 g.oid b.1

    vers : f.ver ≡ g.ver
    vers = sym (from_le_bytes-to_le_bytes_4 f.ver a.2) ∙ ap (λ bs. from_le_bytes w32 (take 4 (drop 12 bs))) e ∙ from_le_bytes-to_le_bytes_4 g.ver b.2

-- ---- what answers decide

some_name : (o : Option Fid) → (child_get o).code ≡ 0 → (f : Fid) × (o ≡ Some f)
some_name None e = absurd (omega (arith, e))
some_name (Some f) e = (f, refl)

-- the body that an answer has
pub body_told : (g : Node → Object) (o : Option Node) (n : Node) → o ≡ Some n → (attr_get (option_map g o)).body ≡ body_bytes (g n).body ++ (word w32 (len (g n).attributes) ++ word w32 0)
body_told g o n e = ap (λ o. (attr_get (option_map g o)).body) e

-- what the tree of a history has, as answers tell
pub record Found (l : Laid) : Type 0 where
  pub root : Node
  pub root_is : get l.tree.nodes root_fid ≡ Some root
  pub root_dir : root.dir ≡ true
  pub root_plain : (layout_at l root_fid).count ≡ 0
  pub there : named l.tree root_fid name_m ≡ Some moved
  pub under : Node
  pub under_is : get l.tree.nodes dir ≡ Some under
  pub under_dir : under.dir ≡ true
  pub under_plain : (layout_at l dir).count ≡ 0
  pub under_root : under.parent ≡ root_fid
  pub free : named l.tree dir name_x ≡ None
  pub node : Node
  pub node_is : get l.tree.nodes moved ≡ Some node
  pub node_dir : node.dir ≡ true

pub found_decides : Below → (l : Laid) → Found l → (batch : ℕ) (a b c d : UpdateResult) → Decides 3 l (rename_facts a b c d) batch renames (rename_done batch)
found_decides below l f batch a b c d = rename_decides l f.root f.root_is f.root_dir f.root_plain f.there f.under f.under_is f.under_dir f.under_plain f.under_root f.free f.node f.node_is f.node_dir below batch a b c d

-- what four answers must tell
pub record Tells (a b c d : UpdateResult) : Type 0 where
  pub there : a.code ≡ 0
  pub is_moved : a.body ≡ fid_bytes moved
  pub under : b.code ≡ 0
  pub is_dir : byte 0 b.body ≡ 2
  pub is_plain : byte 20 b.body ≡ 0
  pub in_root : take 16 (drop 28 b.body) ≡ fid_bytes root_fid
  pub free : c.code ≡ 2
  pub node : d.code ≡ 0
  pub moves_dir : byte 0 d.body ≡ 2

module _ (below : Below) (lead : NamesLeadToNodes) (fids : ParentsAreFids) (a b c d : UpdateResult) (tells : Tells a b c d) (h : List Item) (fits : Fits 3 h) (truth : AreTrue 3 (laid 3 h) (rename_facts a b c d)) where
  abbrev tree : Laid
  tree = laid 3 h

  sound : IsSound 3 (length h) tree
  sound = below.sounds 3 h fits.each

  abbrev node_of : Fid → Node → Object
  node_of f n = node_object n (layout_at tree f) (names_of tree.tree f)

  root : (n : Node) × (get tree.tree.nodes root_fid ≡ Some n) × (n.dir ≡ true)
  root = root_there 3 (length h) tree sound

  root_plain : (layout_at tree root_fid).count ≡ 0
  root_plain = bare 3 (length h) tree sound root_fid root.0 root.1 refl

  by_name : a ≡ child_get (named tree.tree root_fid name_m)
  by_name = truth (asks_name name_m) a (inl refl) ∙ name_told 3 (length h) tree sound below.names few root_fid root.0 name_m 0 root.1 root.2 root_plain refl

  name_is : (f : Fid) × (named tree.tree root_fid name_m ≡ Some f)
  name_is = some_name (named tree.tree root_fid name_m) (sym (ap (λ (r : UpdateResult). r.code) by_name) ∙ tells.there)

  is_fid : (f : Fid) (n : Node) → get tree.tree.nodes f ≡ Some n → IsFid f
  is_fid f n e = (subst (λ o. IsSoundAt 3 (length h) f o (layout_at tree f) (names_of tree.tree f)) e (sound.each f)).fid

  name_same : name_is.0 ≡ moved
  name_same =
      let node = (lead 3 (length h) tree root_fid name_m name_is.0 sound name_is.1).0 in
      fid_same name_is.0 moved (is_fid name_is.0 node.0 node.1) (omega arith, omega arith, omega arith)
      (sym (ap (λ (r : UpdateResult). r.body) by_name ∙ ap (λ o. (child_get o).body) name_is.1) ∙ tells.is_moved)

  by_dir : b ≡ attr_get (option_map (node_of dir) (get tree.tree.nodes dir))
  by_dir = truth (asks_node dir) b (inr (inl refl)) ∙ node_told 3 (length h) tree sound below.nodes few dir 1 refl

  under : (n : Node) × (get tree.tree.nodes dir ≡ Some n)
  under = some_node (node_of dir) (get tree.tree.nodes dir) (sym (ap (λ (r : UpdateResult). r.code) by_dir) ∙ tells.under)

  under_body : b.body ≡ body_bytes (node_of dir under.0).body ++ (word w32 (len (node_of dir under.0).attributes) ++ word w32 0)
  under_body = ap (λ (r : UpdateResult). r.body) by_dir ∙ body_told (node_of dir) (get tree.tree.nodes dir) under.0 under.1

  under_dir : under.0.dir ≡ true
  under_dir = kind_told under.0 (layout_at tree dir) (word w32 (len (node_of dir under.0).attributes) ++ word w32 0) (ap (byte 0) (sym under_body) ∙ tells.is_dir)

  -- of a directory the body has its layout and its parent
  as_directory : (node_of dir under.0).body ≡ directory_body under.0 (layout_at tree dir)
  as_directory = ap (λ q. if q then directory_body under.0 (layout_at tree dir) else file_body under.0) under_dir

  under_plain : (layout_at tree dir).count ≡ 0
  under_plain =
      sym (ap (λ (q : Body). q.layout.count) as_directory) ∙ sym (count_told (node_of dir under.0).body (word w32 (len (node_of dir under.0).attributes) ++ word w32 0))
      ∙ ap (byte 20) (sym under_body) ∙ tells.is_plain

  under_root : under.0.parent ≡ root_fid
  under_root = fid_same under.0.parent root_fid (fids 3 (length h) tree dir under.0 sound under.1) (omega arith, omega arith, omega arith)
      (ap (λ (q : Body). fid_bytes q.fid) (sym as_directory) ∙ sym (parent_told (node_of dir under.0).body (word w32 (len (node_of dir under.0).attributes) ++ word w32 0))
      ∙ ap (λ bs. take 16 (drop 28 bs)) (sym under_body) ∙ tells.in_root)

  by_free : c ≡ child_get (named tree.tree dir name_x)
  by_free = truth asks_new c (inr (inr (inl refl))) ∙ name_told 3 (length h) tree sound below.names few dir under.0 name_x 1 under.1 under_dir under_plain refl

  by_node : d ≡ attr_get (option_map (node_of moved) (get tree.tree.nodes moved))
  by_node = truth (asks_node moved) d (inr (inr (inr (inl refl)))) ∙ node_told 3 (length h) tree sound below.nodes few moved 2 refl

  node : (n : Node) × (get tree.tree.nodes moved ≡ Some n)
  node = some_node (node_of moved) (get tree.tree.nodes moved) (sym (ap (λ (r : UpdateResult). r.code) by_node) ∙ tells.node)

  node_dir : node.0.dir ≡ true
  node_dir = kind_told node.0 (layout_at tree moved) (word w32 (len (node_of moved node.0).attributes) ++ word w32 0)
      (ap (byte 0) (sym (ap (λ (r : UpdateResult). r.body) by_node ∙ body_told (node_of moved) (get tree.tree.nodes moved) node.0 node.1)) ∙ tells.moves_dir)

  tree_found : Found tree
  tree_found = record {
    root = root.0;
    root_is = root.1;
    root_dir = root.2;
    root_plain = root_plain;
    there = subst (λ f. named tree.tree root_fid name_m ≡ Some f) name_same name_is.1;
    under = under.0;
    under_is = under.1;
    under_dir = under_dir;
    under_plain = under_plain;
    under_root = under_root;
    free = no_name (named tree.tree dir name_x) (sym (ap (λ (r : UpdateResult). r.code) by_free) ∙ tells.free);
    node = node.0;
    node_is = node.1;
    node_dir = node_dir;
  }

  pub rename_told_settles : (batch : ℕ) → Decides 3 tree (rename_facts a b c d) batch renames (rename_done batch)
  rename_told_settles batch = found_decides below tree tree_found batch a b c d

pub rename_settles : Below → NamesLeadToNodes → ParentsAreFids → (a b c d : UpdateResult) → Tells a b c d → (batch : ℕ) → Settles 3 (rename_facts a b c d) batch renames (rename_done batch)
rename_settles below lead fids a b c d tells batch h fits truth = rename_told_settles below lead fids a b c d tells h fits truth batch
