-- What the answers of targets tell of a tree, and what a plan decides by it.
use Rattle.std.proofs.Common.{◌≡◌, ◌≢◌, ◌≤◌, ℕ, zero, suc, true, false, true≢false, if◌then◌else◌, Option, Some, None, List, [], ◌∷◌, refl, sym, ap, ◌∙◌, subst, arith}
use Rattle.std.specs.Prelude.{◌==◌}
use Rattle.std.specs.Option.{option_map}
use Rattle.std.specs.FinMap.{get}
use Rattle.fid_space.specs.declared.fid.Fid.{Fid}
use Rattle.fid_space.specs.Places.{place_of, is_client}
use Rattle.tree_model.specs.declared.node.Node.{Node}
use Rattle.tree_model.specs.declared.reply.Reply.{Reply}
use Rattle.tree_model.specs.Changes.{Change}
use Rattle.tree_model.specs.Keys.{Key, NodeKey, NameKey, Laid, layout_at}
use Rattle.tree_model.specs.Looks.{Plan, AskNode, AskName, asked, decided}
use Rattle.tree_model.specs.Step.{is_dir}
use Rattle.tree_model.specs.Tree.{Tree, named, names_of, root_fid}
use Rattle.out_update.specs.declared.update.Kind.TheVariants as kind
use Rattle.object_store.specs.Objects.{Object}
use Rattle.object_store.specs.Reads.{attr_get, child_get, holder, lookup, reads}
use Rattle.striped_dir.specs.Parts.{part_of_name}
use Rattle.tree_sound.specs.Sound.{IsSound, IsSoundAt, IsSoundNode}
use Rattle.tree_shares.specs.Shares.{node_object, share, stripe_fid_of}
use Rattle.tree_shares.specs.Telling.{NamesAreTold, NodesAreTold}
use Rattle.tree_shares.specs.Updates.{part_named, update}

-- ---- answers

pub none_none : {A : Type 0} (o : Option A) → (o ≡ None) → (a : A) → o ≡ Some a → ⊥
none_none o e a f = absurd (grind arith)

pub no_name : (o : Option Fid) → (child_get o).code ≡ 2 → o ≡ None
no_name None e = refl
no_name (Some f) e = absurd (omega (arith, e))

pub no_node : (g : Node → Object) (o : Option Node) → (attr_get (option_map g o)).code ≡ 2 → o ≡ None
no_node g None e = refl
no_node g (Some n) e = absurd (omega (arith, e))

pub some_node : (g : Node → Object) (o : Option Node) → (attr_get (option_map g o)).code ≡ 0 → (n : Node) × (o ≡ Some n)
some_node g None e = absurd (omega (arith, e))
some_node g (Some n) e = (n, refl)

not_other : (c : ℕ) → (c ≢ 0 → ⊥) → c ≡ 0
not_other zero h = refl
not_other (suc c) h = absurd (h (λ e. omega (arith, e)))

some_directory : (o : Option Node) → is_dir o ≡ true → (n : Node) × (o ≡ Some n) × (n.dir ≡ true)
some_directory None e = absurd (true≢false (sym e))
some_directory (Some n) e = (n, refl, e)

module _ (targets most : ℕ) (l : Laid) (sound : IsSound targets most l) where
  pub root_there : (n : Node) × (get l.tree.nodes root_fid ≡ Some n) × (n.dir ≡ true)
  root_there = some_directory (get l.tree.nodes root_fid) sound.root

  -- who no client names has no stripes
  pub bare : (f : Fid) (n : Node) → get l.tree.nodes f ≡ Some n → is_client targets f ≡ false → (layout_at l f).count ≡ 0
  bare f n e other =
      let s : IsSoundNode targets most f n (layout_at l f) (names_of l.tree f) = subst (λ o. IsSoundAt targets most f o (layout_at l f) (names_of l.tree f)) e (sound.each f) in
      not_other (layout_at l f).count (λ some. true≢false (sym (s.layout.client some) ∙ other))

  pub node_told : NodesAreTold → targets ≤ 16 → (f : Fid) (t : ℕ) → place_of targets f ≡ Some t
      → reads (share targets l t) (update kind.AttrGet 0 f []) ≡ attr_get (option_map (λ n. node_object n (layout_at l f) (names_of l.tree f)) (get l.tree.nodes f))
  unfolding reads
  node_told nodes few f t e = ap attr_get (nodes targets most l f t few sound e)

  pub name_told : NamesAreTold → targets ≤ 16 → (d : Fid) (n : Node) (x : List ℕ) (t : ℕ) → get l.tree.nodes d ≡ Some n → n.dir ≡ true → (layout_at l d).count ≡ 0 → place_of targets d ≡ Some t
      → reads (share targets l t) (update kind.Lookup 0 d (x ∷ [])) ≡ child_get (named l.tree d x)
  unfolding reads
  name_told names few d n x t is dir plain e =
      let p : part_named targets d (layout_at l d) x ≡ d = ap (λ c. if c == 0 then d else stripe_fid_of targets d (layout_at l d) (part_of_name (layout_at l d) x)) plain in
      subst (λ o. lookup (holder (get (share targets l t) o)) x ≡ child_get (named l.tree d x)) p (names targets most l d n x t few sound is dir (ap (place_of targets) p ∙ e))

-- ---- plans

abbrev pub Said : Type 0
Said = (Reply × List Change) × List Key

-- what a plan decides, and what it asks for
abbrev pub said : Plan → Tree → Said
said p t = (decided p t, asked p t)

abbrev pub with_key : Key → Said → Said
with_key k s = (s.0, k ∷ s.1)

pub ask_node : (f : Fid) (next : Option Node → Plan) (t : Tree) (o : Option Node) → get t.nodes f ≡ o → said (AskNode f next) t ≡ with_key (NodeKey f) (said (next o) t)
ask_node f next t o e = ap (λ o. with_key (NodeKey f) (said (next o) t)) e

pub ask_name : (d : Fid) (x : List ℕ) (next : Option Fid → Plan) (t : Tree) (o : Option Fid) → named t d x ≡ o → said (AskName d x next) t ≡ with_key (NameKey d x) (said (next o) t)
ask_name d x next t o e = ap (λ o. with_key (NameKey d x) (said (next o) t)) e
