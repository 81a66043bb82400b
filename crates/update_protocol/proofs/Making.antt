-- A directory is made in the root, in a cluster of three targets: what two answers decide.
use Rattle.std.proofs.Common.{◌≡◌, ◌≤◌, ◌⊎◌, inl, inr, ⊎_elim, ℕ, Bool, true, false, true≢false, if◌then◌else◌, ◌||◌, Option, Some, None, List, [], ◌∷◌, length, refl, sym, ap, ◌∙◌, subst, arith}
use Rattle.std.specs.FinMap.{get}
use Rattle.std.specs.List.{flat_map}
use Rattle.fid_space.specs.declared.fid.Fid.{Fid}
use Rattle.fid_space.specs.Places.{place_of, is_client, is_stripe}
use Rattle.tree_model.specs.declared.node.Node.{Node}
use Rattle.tree_model.specs.declared.op.Op.{Op}
use Rattle.tree_model.specs.declared.op.Op.TheVariants as ops
use Rattle.tree_model.specs.declared.reply.Reply.TheVariants as replies
use Rattle.tree_model.specs.declared.errno.Errno.TheVariants.{EEXIST, EINVAL, ENOTDIR}
use Rattle.tree_model.specs.Changes.{Change, PutNode, PutName, NewLayout}
use Rattle.tree_model.specs.Keys.{Key, NodeKey, NameKey, Laid, Layout, layout_at, layout_with, plain_layout}
use Rattle.tree_model.specs.Laws.{Among, StepIsDecided}
use Rattle.tree_model.specs.Looks.{AskName, AskNode, Decide, Plan, changes, check, looks, on_directory, plan}
use Rattle.tree_model.specs.Participants.{home_of, with_place}
use Rattle.tree_model.specs.Step.{parent_fault, step, taken_fault}
use Rattle.tree_model.specs.Striped.{entry_place, with_changes}
use Rattle.tree_model.specs.Tree.{directory_in, named, names_of, root_fid}
use Rattle.tree_model.proofs.Fids.{fid_ties, told_same}
use Rattle.tree_model.specs.Tree.{same_fid}
use Rattle.out_update.specs.declared.update.Update.{Update}
use Rattle.out_update.specs.declared.update.Kind.TheVariants as kind
use Rattle.out_update.specs.declared.result.UpdateResult.{UpdateResult}
use Rattle.object_store.specs.Reads.{attr_get, child_get, reads}
use Rattle.tree_sound.specs.Sound.{IsSound}
use Rattle.tree_sound.specs.SoundLaws.{HistoriesAreSound}
use Rattle.tree_shares.specs.Parts.{parts, parts_from}
use Rattle.tree_shares.specs.Shares.{node_object, share}
use Rattle.tree_shares.specs.Telling.{NamesAreTold, NodesAreTold}
use Rattle.tree_shares.specs.Updates.{created_node, inserted, op_updates, part_named, placed, unless_none, update}
use Rattle.op_laws.specs.Near.{key_fid}
use Rattle.op_laws.specs.Objects.{is_among, saw, stands, owner}
use Rattle.std.specs.Option.{option_map, unwrap_or}
use Rattle.std.specs.Prelude.{not, ◌&&◌, ◌++◌}
use Rattle.tree_model.specs.History.{Item}
use Rattle.update_protocol.specs.Facts.{AreTrue, Decides, Decision, Fact, Fits, Parts, Settles, is_told, laid}
use Rattle.update_protocol.specs.Laws.{Laws}
use Rattle.update_protocol.specs.Lists.{IsIn}
use Rattle.update_protocol.proofs.Told.{Said, ask_name, ask_node, bare, name_told, no_name, no_node, node_told, root_there, said, some_node, with_key}

abbrev pub asks_name : List ℕ → Update
asks_name x = update kind.Lookup 0 root_fid (x ∷ [])

abbrev pub asks_node : Fid → Update
asks_node f = update kind.AttrGet 0 f []

abbrev pub makes : Fid → List ℕ → Op
makes f x = ops.Mkdir root_fid x f None

abbrev pub made_changes : Fid → List ℕ → List Change
made_changes f x = PutNode f (directory_in root_fid) ∷ PutName root_fid x f ∷ NewLayout f 0 0 ∷ []

-- the parts, over a layout of the root
abbrev parts_over : Fid → List ℕ → ℕ → Layout → Parts
parts_over f x batch root =
    parts_from 3 0 (with_place (with_place (with_place 0 (place_of 3 root_fid)) (place_of 3 f)) (entry_place 3 root_fid root x))
    (placed 3 (created_node batch f (directory_in root_fid) (layout_with 0 0 0) ∷ inserted 3 batch root_fid root x f ∷ []))

abbrev pub made_parts : Fid → List ℕ → ℕ → Parts
made_parts f x batch = parts_over f x batch plain_layout

abbrev pub made_saw : Fid → List Fid
made_saw f = root_fid ∷ root_fid ∷ f ∷ []

abbrev pub made : Fid → List ℕ → ℕ → Decision
made f x batch = record { reply = replies.Ok; parts = made_parts f x batch; saw = made_saw f }

-- where the node is there
abbrev pub refused : Fid → Decision
refused f = record { reply = replies.Err EEXIST; parts = (0, []) ∷ []; saw = made_saw f }

pub either : (b c : Bool) → (b || c) ≡ true → (b ≡ true) ⊎ (c ≡ true)
either true c e = inl refl
either false c e = inr e

pub same : (f g : Fid) → same_fid f g ≡ true → f ≡ g
same f g e = told_same f g (sym (fid_ties f g) ∙ e)

-- what is asked is near a key of the list
near : (f : Fid) (x : List ℕ) (owned : Fid → Fid) → root_fid ≡ owned root_fid → f ≡ owned f → (ks : List Key) → Among ks (NodeKey root_fid) → Among ks (NodeKey f) → (r s : UpdateResult) (u : Update) (q : UpdateResult)
    → IsIn {A = Fact} (u, q) ((asks_name x, r) ∷ (asks_node f, s) ∷ []) → (k : Key) × Among ks k × (key_fid k ≡ owned u.fid)
near f x owned own_root own ks root new r s u q m = ⊎_elim
    (λ (e : (u, q) ≡ (asks_name x, r)). (NodeKey root_fid, root, own_root ∙ ap (λ (p : Fact). owned p.0.fid) (sym e)))
    (λ m. ⊎_elim
    (λ (e : (u, q) ≡ (asks_node f, s)). (NodeKey f, new, own ∙ ap (λ (p : Fact). owned p.0.fid) (sym e)))
    (λ none. absurd none) m) m

asked_for : (f : Fid) (x : List ℕ) → is_stripe 3 f ≡ false → (r s : UpdateResult) (g : Fid) → is_among (made_saw f) g ≡ true
    → (u : Update) × (q : UpdateResult) × IsIn {A = Fact} (u, q) ((asks_name x, r) ∷ (asks_node f, s) ∷ []) × (u.fid ≡ g) × (is_told 3 u ≡ true)
asked_for f x no_stripe r s g h = ⊎_elim (λ a. (asks_name x, r, inl refl, same root_fid g a, refl))
    (λ rest. ⊎_elim (λ a. (asks_name x, r, inl refl, same root_fid g a, refl))
    (λ more. ⊎_elim (λ a. (asks_node f, s, inr (inl refl), same f g a, ap (λ b. not (true && b)) no_stripe)) (λ none. absurd (true≢false (sym none)))
    (either (same_fid f g) false more)) (either (same_fid root_fid g) (same_fid f g || false) rest))
    (either (same_fid root_fid g) (same_fid root_fid g || (same_fid f g || false)) h)

module _ (f : Fid) (x : List ℕ) (l : Laid) (n : Node) (is : get l.tree.nodes root_fid ≡ Some n) (dir : n.dir ≡ true) (bare : (layout_at l root_fid).count ≡ 0)
    (free : named l.tree root_fid x ≡ None) (client : is_client 3 f ≡ true) (no_stripe : is_stripe 3 f ≡ false) (own : f ≡ owner 3 f) where
  abbrev named_next : Option Fid → Plan
  named_next there = check (taken_fault there) (AskNode f (λ node. check (taken_fault node) (Decide replies.Ok (made_changes f x))))

  abbrev node_next : Option Node → Plan
  node_next node = check (taken_fault node) (Decide replies.Ok (made_changes f x))

  -- the name is free; then the node decides
  said_to : (o : Option Node) → get l.tree.nodes f ≡ o → said (plan 3 (makes f x)) l.tree ≡ with_key (NodeKey root_fid) (with_key (NameKey root_fid x) (with_key (NodeKey f) (said (node_next o) l.tree)))
  said_to o new =
      ap (λ b. said (check (if b then None else Some EINVAL) (on_directory root_fid (AskName root_fid x named_next))) l.tree) client
      ∙ ask_node root_fid (λ (o : Option Node). check (parent_fault o) (AskName root_fid x named_next)) l.tree (Some n) is
      ∙ ap (λ b. with_key (NodeKey root_fid) (said (check (if b then None else Some ENOTDIR) (AskName root_fid x named_next)) l.tree)) dir
      ∙ ap (with_key (NodeKey root_fid)) (ask_name root_fid x named_next l.tree None free ∙ ap (with_key (NameKey root_fid x)) (ask_node f node_next l.tree o new))

  abbrev with_count : ℕ → Layout
  with_count c = record { count = c; start = (layout_at l root_fid).start; generation = (layout_at l root_fid).generation }

  told_all : looks 3 l.tree (makes f x) ≡ NodeKey root_fid ∷ NameKey root_fid x ∷ NodeKey f ∷ [] → saw 3 l (makes f x) ≡ made_saw f
  told_all looked =
      ap (λ ks. flat_map (stands 3 l) ks) looked
      ∙ ap (λ c. root_fid ∷ part_named 3 root_fid (with_count c) x ∷ ((if is_stripe 3 f then [] else f ∷ []) ++ [])) bare
      ∙ ap (λ b. root_fid ∷ root_fid ∷ ((if b then [] else f ∷ []) ++ [])) no_stripe

  near_looks : looks 3 l.tree (makes f x) ≡ NodeKey root_fid ∷ NameKey root_fid x ∷ NodeKey f ∷ [] → (r s : UpdateResult) (u : Update) (q : UpdateResult) → IsIn {A = Fact} (u, q) ((asks_name x, r) ∷ (asks_node f, s) ∷ [])
      → (k : Key) × Among (looks 3 l.tree (makes f x)) k × (key_fid k ≡ owner 3 u.fid)
  near_looks looked r s u q m = near f x (owner 3) refl own (looks 3 l.tree (makes f x)) (subst (λ ks. Among ks (NodeKey root_fid)) (sym looked) (inl refl)) (subst (λ ks. Among ks (NodeKey f)) (sym looked) (inr (inr (inl refl)))) r s u q m

  module _ (new : get l.tree.nodes f ≡ None) where
    made_said : said (plan 3 (makes f x)) l.tree ≡ ((replies.Ok, made_changes f x), NodeKey root_fid ∷ NameKey root_fid x ∷ NodeKey f ∷ [])
    made_said = said_to None new

    made_reply : StepIsDecided → (step 3 l.tree (makes f x)).1 ≡ replies.Ok
    made_reply decided = ap (λ p. p.1) (decided 3 l.tree (makes f x)) ∙ ap (λ (s : Said). s.0.0) made_said

    pub made_change : changes 3 l.tree (makes f x) ≡ made_changes f x
    made_change = ap (λ (s : Said). s.0.1) made_said

    made_looks : looks 3 l.tree (makes f x) ≡ NodeKey root_fid ∷ NameKey root_fid x ∷ NodeKey f ∷ []
    made_looks = ap (λ (s : Said). s.1) made_said

    made_there : (batch : ℕ) → parts 3 batch l (makes f x) ≡ made_parts f x batch
    unfolding parts
    made_there batch =
        ap (λ cs. parts_from 3 0 (with_changes 3 l (with_place 0 (home_of 3 (makes f x))) cs) (placed 3 (unless_none cs (op_updates 3 batch l (makes f x))))) made_change
        ∙ ap (λ c. parts_over f x batch (with_count c)) bare

    pub made_decides : StepIsDecided → (batch : ℕ) (r s : UpdateResult) → Decides 3 l ((asks_name x, r) ∷ (asks_node f, s) ∷ []) batch (makes f x) (made f x batch)
    made_decides decided batch r s = record {
      reply = sym (made_reply decided);
      parts = sym (made_there batch);
      saw = sym (told_all made_looks);
      asked_near = λ u q m t. near_looks made_looks r s u q m;
      asked = asked_for f x no_stripe r s;
    }

  module _ (k : Node) (taken : get l.tree.nodes f ≡ Some k) where
    taken_said : said (plan 3 (makes f x)) l.tree ≡ ((replies.Err EEXIST, []), NodeKey root_fid ∷ NameKey root_fid x ∷ NodeKey f ∷ [])
    taken_said = said_to (Some k) taken

    taken_looks : looks 3 l.tree (makes f x) ≡ NodeKey root_fid ∷ NameKey root_fid x ∷ NodeKey f ∷ []
    taken_looks = ap (λ (s : Said). s.1) taken_said

    taken_there : (batch : ℕ) → parts 3 batch l (makes f x) ≡ (refused f).parts
    unfolding parts
    taken_there batch = ap (λ cs. parts_from 3 0 (with_changes 3 l (with_place 0 (home_of 3 (makes f x))) cs) (placed 3 (unless_none cs (op_updates 3 batch l (makes f x))))) (ap (λ (s : Said). s.0.1) taken_said)

    pub taken_decides : StepIsDecided → (batch : ℕ) (r s : UpdateResult) → Decides 3 l ((asks_name x, r) ∷ (asks_node f, s) ∷ []) batch (makes f x) (refused f)
    taken_decides decided batch r s = record {
      reply = sym (ap (λ p. p.1) (decided 3 l.tree (makes f x)) ∙ ap (λ (s : Said). s.0.0) taken_said);
      parts = sym (taken_there batch);
      saw = sym (told_all taken_looks);
      asked_near = λ u q m t. near_looks taken_looks r s u q m;
      asked = asked_for f x no_stripe r s;
    }

-- what of the crates below settles operations
pub record Below : Type 0 where
  pub laws : Laws 3
  pub sounds : HistoriesAreSound
  pub nodes : NodesAreTold
  pub names : NamesAreTold

pub few : 3 ≤ 16
few = omega arith

module _ (b : Below) (f : Fid) (t : ℕ) (x : List ℕ) (client : is_client 3 f ≡ true) (no_stripe : is_stripe 3 f ≡ false) (own : f ≡ owner 3 f) (at : place_of 3 f ≡ Some t) (r s : UpdateResult) where
  abbrev facts : List Fact
  facts = (asks_name x, r) ∷ (asks_node f, s) ∷ []

  module _ (h : List Item) (fits : Fits 3 h) (truth : AreTrue 3 (laid 3 h) facts) where
    sound : IsSound 3 (length h) (laid 3 h)
    sound = b.sounds 3 h fits.each

    root : (n : Node) × (get (laid 3 h).tree.nodes root_fid ≡ Some n) × (n.dir ≡ true)
    root = root_there 3 (length h) (laid 3 h) sound

    plain : (layout_at (laid 3 h) root_fid).count ≡ 0
    plain = bare 3 (length h) (laid 3 h) sound root_fid root.0 root.1 refl

    by_name : r ≡ child_get (named (laid 3 h).tree root_fid x)
    by_name = truth (asks_name x) r (inl refl) ∙ name_told 3 (length h) (laid 3 h) sound b.names few root_fid root.0 x 0 root.1 root.2 plain refl

    by_node : s ≡ attr_get (option_map (λ n. node_object n (layout_at (laid 3 h) f) (names_of (laid 3 h).tree f)) (get (laid 3 h).tree.nodes f))
    by_node = truth (asks_node f) s (inr (inl refl)) ∙ ap (λ o. reads (share 3 (laid 3 h) (unwrap_or o 0)) (asks_node f)) at ∙ node_told 3 (length h) (laid 3 h) sound b.nodes few f t at

    free : r.code ≡ 2 → named (laid 3 h).tree root_fid x ≡ None
    free e = no_name (named (laid 3 h).tree root_fid x) (sym (ap (λ (q : UpdateResult). q.code) by_name) ∙ e)

    new : s.code ≡ 2 → get (laid 3 h).tree.nodes f ≡ None
    new e = no_node (λ n. node_object n (layout_at (laid 3 h) f) (names_of (laid 3 h).tree f)) (get (laid 3 h).tree.nodes f) (sym (ap (λ (q : UpdateResult). q.code) by_node) ∙ e)

    taken : s.code ≡ 0 → (k : Node) × (get (laid 3 h).tree.nodes f ≡ Some k)
    taken e = some_node (λ n. node_object n (layout_at (laid 3 h) f) (names_of (laid 3 h).tree f)) (get (laid 3 h).tree.nodes f) (sym (ap (λ (q : UpdateResult). q.code) by_node) ∙ e)

  -- two answers that say that neither the name nor the node is there
  pub made_settles : (batch : ℕ) → r.code ≡ 2 → s.code ≡ 2 → Settles 3 facts batch (makes f x) (made f x batch)
  made_settles batch er es h fits truth =
      made_decides f x (laid 3 h) (root h fits truth).0 (root h fits truth).1 (root h fits truth).2 (plain h fits truth) (free h fits truth er) client no_stripe own (new h fits truth es) b.laws.decided batch r s

  -- that the name isn't there, and the node is
  pub taken_settles : (batch : ℕ) → r.code ≡ 2 → s.code ≡ 0 → Settles 3 facts batch (makes f x) (refused f)
  taken_settles batch er es h fits truth =
      let k = taken h fits truth es in
      taken_decides f x (laid 3 h) (root h fits truth).0 (root h fits truth).1 (root h fits truth).2 (plain h fits truth) (free h fits truth er) client no_stripe own k.0 k.1 b.laws.decided batch r s
