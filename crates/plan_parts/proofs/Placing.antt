-- The updates of a plan, each beside the place of its object.
use Rattle.std.proofs.Common.{◌≡◌, ◌≢◌, ◌≤◌, ◌+◌, ℕ, zero, suc, Bool, true, if◌then◌else◌, Option, Some, None, List, [], ◌∷◌, ◌++◌, map, refl, sym, ap, ◌∙◌, arith}
use Rattle.std.proofs.Math.Nat.{mod-lt}
use Rattle.std.proofs.Math.Dec.{eqb-suc-zero}
use Rattle.std.specs.List.{range_with_len}
use Rattle.std.specs.Option.{unwrap_or}
use Rattle.std.specs.FinMap.{get}
use Rattle.fid_space.specs.declared.fid.Fid.{Fid}
use Rattle.fid_space.specs.Places.{place_of, is_client}
use Rattle.tree_model.specs.declared.node.Node.{Node}
use Rattle.tree_model.specs.Tree.{named}
use Rattle.tree_model.specs.Step.{is_dir}
use Rattle.tree_model.specs.Keys.{Layout, Laid, layout_at, layout_with}
use Rattle.tree_model.specs.Striped.{stripe_target}
use Rattle.striped_dir.specs.declared.layout.Layout.{Layout as Kept}
use Rattle.striped_dir.specs.Parts.{FitsDirectory, part_of_name, made_stripes, removed_stripes, create_of, destroy_of}
use Rattle.out_update.specs.declared.update.Update.{Update}
use Rattle.tree_sound.specs.Sound.{IsSound}
use Rattle.tree_sound.proofs.Keeping.{sound_node}
use Rattle.tree_sound.proofs.Story.{there_named, directories_fit}
use Rattle.tree_shares.specs.Shares.{stripe_fid_of}
use Rattle.tree_shares.specs.Shares.{kept as kept_of}
use Rattle.tree_shares.specs.Updates.{part_named, placed_one, placed, created_stripes, destroyed_stripes, layout_of_stripes}
use Rattle.op_laws.proofs.Names.{node_placed, stripe_placed}
use Rattle.plan_base.specs.Places.{node_place, entry_at, stripes_made, stripes_gone}
use Rattle.plan_base.specs.Planning.{first_layout}
use Rattle.plan_base.specs.Updates.{Placed}
use Rattle.plan_shares.proofs.Sharing.{may, entry_is, name_part}
use Rattle.plan_shares.proofs.Sharing.{placed as part_placed}
use Rattle.plan_parts.proofs.Parts.{ones}

-- one update more
pub put : (targets t : ℕ) (u : Update) (ps : List Placed) (us : List Update) → place_of targets u.fid ≡ Some t → ps ≡ ones (placed targets us) → ((t, u ∷ []) ∷ ps) ≡ ones (placed targets (u ∷ us))
put targets t u ps us e h = ap (λ qs. (t, u ∷ []) ∷ qs) h ∙ sym (ap (λ o. ones (placed_one o u (placed targets us))) e)

-- and many more
pub put_all : (targets : ℕ) (target : ℕ → ℕ) (u : ℕ → Update) (is : List ℕ) (ps : List Placed) (us : List Update) → ((i : ℕ) → place_of targets (u i).fid ≡ Some (target i)) → ps ≡ ones (placed targets us)
    → (map (λ i. (target i, u i ∷ [])) is ++ ps) ≡ ones (placed targets (map u is ++ us))
put_all targets target u [] ps us e h = h
put_all targets target u (i ∷ is) ps us e h = put targets (target i) (u i) (map (λ i. (target i, u i ∷ [])) is ++ ps) (map u is ++ us) (e i) (put_all targets target u is ps us e h)

module _ (targets : ℕ) (some : 1 ≤ targets) (few : targets ≤ 16) where
  stripe_place : (d : Fid) (lay : Layout) (i : ℕ) → is_client targets d ≡ true → place_of targets (stripe_fid_of targets d lay i) ≡ Some (stripe_target targets lay i)
  stripe_place d lay i client = stripe_placed targets d (stripe_target targets lay i) i lay.generation few (mod-lt (lay.start + i) (let one = some in omega (arith, one))) client

  pub made_all : (batch : ℕ) (d : Fid) (lay : Layout) (ps : List Placed) (us : List Update) → is_client targets d ≡ true → ps ≡ ones (placed targets us)
      → (made_stripes targets d lay batch ++ ps) ≡ ones (placed targets (created_stripes targets batch d lay ++ us))
  unfolding made_stripes
  made_all batch d lay ps us client h =
      put_all targets (λ i. stripe_target targets lay i) (λ i. create_of batch d i (stripe_fid_of targets d lay i)) (range_with_len 0 lay.count) ps us (λ i. stripe_place d lay i client) h

  removed_all : (batch : ℕ) (d : Fid) (lay : Layout) (ps : List Placed) (us : List Update) → is_client targets d ≡ true → ps ≡ ones (placed targets us)
      → (removed_stripes targets d lay batch ++ ps) ≡ ones (placed targets (destroyed_stripes targets batch d lay ++ us))
  unfolding removed_stripes
  removed_all batch d lay ps us client h =
      put_all targets (λ i. stripe_target targets lay i) (λ i. destroy_of batch (stripe_fid_of targets d lay i)) (range_with_len 0 lay.count) ps us (λ i. stripe_place d lay i client) h

  removed_each : (batch : ℕ) (d : Fid) (c s g : ℕ) (ps : List Placed) (us : List Update) → (c ≢ 0 → is_client targets d ≡ true) → ps ≡ ones (placed targets us)
      → (removed_stripes targets d (record { count = c; start = s; generation = g }) batch ++ ps)
      ≡ ones (placed targets (destroyed_stripes targets batch d (record { count = c; start = s; generation = g }) ++ us))
  unfolding removed_stripes
  removed_each batch d zero s g ps us client h = h
  removed_each batch d (suc c) s g ps us client h = removed_all batch d (record { count = suc c; start = s; generation = g }) ps us (client (λ (e : suc c ≡ 0). absurd (omega (arith, e)))) h

  -- the part of a name, and its place
  pub record EntryAt (d : Fid) (lay : Layout) (x : List ℕ) : Type 0 where
    pub object : (entry_at targets d lay x).1 ≡ part_named targets d lay x
    pub place : place_of targets (part_named targets d lay x) ≡ Some (entry_at targets d lay x).0

  pub fitting_entry : (d : Fid) (c s g : ℕ) (x : List ℕ) → FitsDirectory targets d (record { count = c; start = s; generation = g }) → EntryAt d (record { count = c; start = s; generation = g }) x
  fitting_entry d c s g x fit =
      let lay : Layout = record { count = c; start = s; generation = g } in
      let p = part_placed targets d c s g (part_of_name lay x) some few fit in
      let part = name_part targets d c s g x in
      let e = entry_is targets d lay x fit p in
      record { object = ap (λ a. a.1) e ∙ sym part; place = ap (λ f. place_of targets f) part ∙ p.place ∙ sym (ap (λ a. Some a.0) e) }

  -- the stripes of a new layout
  pub fitting_made : (batch : ℕ) (d : Fid) (c s g : ℕ) (ps : List Placed) (us : List Update) → FitsDirectory targets d (record { count = c; start = s; generation = g }) → is_client targets d ≡ true → ps ≡ ones (placed targets us)
      → (stripes_made targets d (record { count = c; start = s; generation = g }) batch ++ ps) ≡ ones (placed targets (created_stripes targets batch d (record { count = c; start = s; generation = g }) ++ us))
  unfolding stripes_made
  fitting_made batch d c s g ps us fit client h =
      let lay : Layout = record { count = c; start = s; generation = g } in
      ap (λ b. (if b then made_stripes targets d lay batch else []) ++ ps) (may targets d c s g fit) ∙ made_all batch d lay ps us client h

  module _ (most : ℕ) (l : Laid) (sound : IsSound targets most l) (bound : most ≤ 0x0ffffffe) where
    -- the place of a node
    pub placed_node : (f : Fid) (n : Node) → get l.tree.nodes f ≡ Some n → place_of targets f ≡ Some (node_place targets f)
    placed_node f n e = let p = node_placed targets f (sound_node targets most l sound.each f n e).called in p.1 ∙ sym (ap (λ o. Some (unwrap_or o 0)) p.1)

    pub placed_named : (d : Fid) (x : List ℕ) (f : Fid) → named l.tree d x ≡ Some f → place_of targets f ≡ Some (node_place targets f)
    placed_named d x f e = let n = there_named targets most l sound d x f e in placed_node f n.0 n.1

    pub placed_entry : (d : Fid) (x : List ℕ) → is_dir (get l.tree.nodes d) ≡ true → EntryAt d (layout_at l d) x
    placed_entry d x dir = fitting_entry d (layout_at l d).count (layout_at l d).start (layout_at l d).generation x (directories_fit targets most l d few bound sound dir)

    -- the stripes of a directory that goes
    pub gone_all : (batch : ℕ) (d : Fid) (n : Node) (ps : List Placed) (us : List Update) → get l.tree.nodes d ≡ Some n → n.dir ≡ true → ps ≡ ones (placed targets us)
        → (stripes_gone targets d (layout_at l d) batch ++ ps) ≡ ones (placed targets (destroyed_stripes targets batch d (layout_at l d) ++ us))
    unfolding stripes_gone
    gone_all batch d n ps us e dir h =
        let lay = layout_at l d in
        let fit = directories_fit targets most l d few bound sound (ap is_dir e ∙ dir) in
        ap (λ b. (if b then removed_stripes targets d lay batch else []) ++ ps) (may targets d lay.count lay.start lay.generation fit)
        ∙ removed_each batch d lay.count lay.start lay.generation ps us fit.named h

-- the layout of a new directory
pub first_is : (s : Option (ℕ × ℕ)) → first_layout s ≡ kept_of (layout_of_stripes s)
first_is None = refl
first_is (Some s) = by_count s.0 s.1
  where
    by_count : (c i : ℕ) → first_layout (Some (c, i)) ≡ kept_of (layout_with c i 0)
    by_count zero i = refl
    by_count (suc c) i = ap (λ (b : Bool). first b) (eqb-suc-zero c)
      where
        first : Bool → Kept
        first b = if b then record { count = 0; start = 0; generation = 0 } else record { count = suc c; start = i; generation = 0 }
