-- What is so of the changes of an operation, of what it looks at, and of the layouts afterwards.
use Rattle.std.proofs.Common.{◌≡◌, ◌<◌, ◌≤◌, ◌⊎◌, inl, inr, ⊎_elim, ℕ, suc, true, false, cond, Option, Some, None, List, [], ◌∷◌, refl, sym, ap, ◌∙◌}
use Rattle.std.specs.List.{AllByRecursion}
use Rattle.std.specs.Ordering.{eq_by_cmp}
use Rattle.std.specs.Cmp.{eq_by_cmp_equiv}
use Rattle.std.specs.Option.{unwrap_or}
use Rattle.std.specs.FinMap.{FinMap, get, insert, remove, get-insert, get-remove}
use Rattle.fid_space.specs.declared.fid.Fid.{Fid}
use Rattle.fid_space.specs.Places.{is_client}
use Rattle.tree_model.specs.declared.node.Node.{Node}
use Rattle.tree_model.specs.Tree.{fid_cmp}
use Rattle.tree_model.specs.Changes.{Change, PutNode, DropNode, PutName, DropName, NewLayout, NextLayout, MoveNames}
use Rattle.tree_model.specs.Keys.{Key, NodeKey, NameKey, AllKey, Layout, Laid, layout_at, layout_with, plain_layout, laid_after, laid_after_all}
use Rattle.tree_model.specs.Step.{is_dir}
use Rattle.tree_model.specs.Laws.{Among}
use Rattle.tree_model.proofs.Maps.{fids_total}
use Rattle.tree_model.proofs.Fids.{told_same}
use Rattle.tree_sound.specs.Sound.{IsNodeFid}
use Rattle.op_laws.proofs.Lists.{each_in}
use Rattle.tree_sound.proofs.Basics.{In, which}

-- ---- layouts after a change

pub put_layout : (m : FinMap fid_cmp Layout) (r : Fid) (lay : Layout) (d : Fid) → ((d ≡ r) × (get (insert m r lay) r ≡ Some lay)) ⊎ (get (insert m r lay) d ≡ get m d)
put_layout m r lay d = ⊎_elim
    (λ (e : eq_by_cmp fid_cmp d r ≡ true). inl (told_same d r e, get-insert fids_total m r lay r ∙ ap (λ b. cond b (Some lay) (get m r)) ((eq_by_cmp_equiv fids_total).refl r)))
    (λ (e : eq_by_cmp fid_cmp d r ≡ false). inr (get-insert fids_total m r lay d ∙ ap (λ b. cond b (Some lay) (get m d)) e))
    (which (eq_by_cmp fid_cmp d r))

pub own_layout : (m : FinMap fid_cmp Layout) (r : Fid) (lay : Layout) → get (insert m r lay) r ≡ Some lay
own_layout m r lay = get-insert fids_total m r lay r ∙ ap (λ b. cond b (Some lay) (get m r)) ((eq_by_cmp_equiv fids_total).refl r)

pub drop_layout : (m : FinMap fid_cmp Layout) (r d : Fid) → ((d ≡ r) × (get (remove m r) r ≡ None)) ⊎ (get (remove m r) d ≡ get m d)
drop_layout m r d = ⊎_elim
    (λ (e : eq_by_cmp fid_cmp d r ≡ true). inl (told_same d r e, get-remove fids_total m r r ∙ ap (λ b. cond b None (get m r)) ((eq_by_cmp_equiv fids_total).refl r)))
    (λ (e : eq_by_cmp fid_cmp d r ≡ false). inr (get-remove fids_total m r d ∙ ap (λ b. cond b None (get m d)) e))
    (which (eq_by_cmp fid_cmp d r))

-- a change that gives no directory a layout
abbrev pub GivesNone : Change → Type 0
GivesNone (PutNode f n) = Unit {0}
GivesNone (DropNode f) = Unit {0}
GivesNone (PutName d x f) = Unit {0}
GivesNone (DropName d x) = Unit {0}
GivesNone (NewLayout d c i) = ⊥
GivesNone (NextLayout d c i) = ⊥
GivesNone (MoveNames d) = ⊥

-- then a layout stays, or its directory is gone
pub stays_or_goes : (m : Laid) (cs : List Change) (d : Fid) → AllByRecursion GivesNone cs → (get (laid_after_all m cs).layouts d ≡ get m.layouts d) ⊎ (In cs (DropNode d) × (get (laid_after_all m cs).layouts d ≡ None))
stays_or_goes m [] d h = inl refl
stays_or_goes m (PutNode f n ∷ cs) d h = ⊎_elim (λ e. inl e) (λ g. inr (inr g.0, g.1)) (stays_or_goes (laid_after m (PutNode f n)) cs d h.1)
stays_or_goes m (PutName e x f ∷ cs) d h = ⊎_elim (λ e. inl e) (λ g. inr (inr g.0, g.1)) (stays_or_goes (laid_after m (PutName e x f)) cs d h.1)
stays_or_goes m (DropName e x ∷ cs) d h = ⊎_elim (λ e. inl e) (λ g. inr (inr g.0, g.1)) (stays_or_goes (laid_after m (DropName e x)) cs d h.1)
stays_or_goes m (DropNode f ∷ cs) d h = ⊎_elim
    (λ e. ⊎_elim (λ same. inr (inl (ap DropNode (sym same.0)), e ∙ ap (λ g. get (remove m.layouts f) g) same.0 ∙ same.1)) (λ other. inl (e ∙ other)) (drop_layout m.layouts f d))
    (λ g. inr (inr g.0, g.1)) (stays_or_goes (laid_after m (DropNode f)) cs d h.1)
stays_or_goes m (NewLayout e c i ∷ cs) d h = absurd h.0
stays_or_goes m (NextLayout e c i ∷ cs) d h = absurd h.0
stays_or_goes m (MoveNames e ∷ cs) d h = absurd h.0

-- what is kept of a layout says which it is
pub as_layout : {a b : Option Layout} → a ≡ b → unwrap_or a plain_layout ≡ unwrap_or b plain_layout
as_layout e = ap (λ o. unwrap_or o plain_layout) e

-- a name and a directory that are looked at stand where their directory's node says
abbrev pub Keyed : List Key → Key → Type 0
Keyed looked (NodeKey f) = Unit {0}
Keyed looked (NameKey d x) = Among looked (NodeKey d)
Keyed looked (AllKey d) = Among looked (NodeKey d)

-- ---- what an operation with these looks may change

module _ (targets : ℕ) (l : Laid) (looked : List Key) where
  -- the layout that a migrate gives
  abbrev pub next_of : Fid → ℕ → ℕ → Layout
  next_of d c i = layout_with c i (suc (layout_at l d).generation)

  -- of a change among others: that it was looked at, and where it stands
  abbrev pub Licensed : List Change → Change → Type 0
  Licensed cs (PutNode f n) = Among looked (NodeKey f) × IsNodeFid targets f
  Licensed cs (DropNode f) = Among looked (NodeKey f) × IsNodeFid targets f × ((layout_at l f ≡ plain_layout) ⊎ Among looked (AllKey f))
  Licensed cs (PutName d x f) = Among looked (NameKey d x) × IsNodeFid targets d × (is_dir (get l.tree.nodes d) ≡ true)
  Licensed cs (DropName d x) = Among looked (NameKey d x) × IsNodeFid targets d × (is_dir (get l.tree.nodes d) ≡ true)
  Licensed cs (NewLayout d c i) = Among looked (NodeKey d) × (is_client targets d ≡ true) × (get l.tree.nodes d ≡ None) × (c ≤ targets) × (i < targets) × ((n : Node) × In cs (PutNode d n))
  Licensed cs (NextLayout d c i) = Among looked (NodeKey d) × Among looked (AllKey d) × (is_client targets d ≡ true) × (is_dir (get l.tree.nodes d) ≡ true) × (c ≤ targets) × (i < targets)
  Licensed cs (MoveNames d) = (c : ℕ) × (i : ℕ) × In cs (NextLayout d c i) × (layout_at (laid_after_all l cs) d ≡ next_of d c i)

  -- what becomes of the layout of a directory
  pub data Lays (cs : List Change) (d : Fid) : Type 0 where
    Same : (e : layout_at (laid_after_all l cs) d ≡ layout_at l d) → Lays cs d
    Gone : (m : In cs (DropNode d)) (a : Among looked (AllKey d)) (e : layout_at (laid_after_all l cs) d ≡ plain_layout) → Lays cs d
    New : (c i : ℕ) (m : In cs (NewLayout d c i)) (e : layout_at (laid_after_all l cs) d ≡ layout_with c i 0) → Lays cs d
    Next : (c i : ℕ) (m : In cs (NextLayout d c i)) (e : layout_at (laid_after_all l cs) d ≡ next_of d c i) → Lays cs d

  pub record Good (cs : List Change) : Type 0 where
    pub each : AllByRecursion (Licensed cs) cs
    pub lays : (d : Fid) → Lays cs d

  -- changes that give no layout
  abbrev pub Easy : Change → Type 0
  Easy c = Licensed [] c × GivesNone c

  easy_licensed : (cs : List Change) (c : Change) → Easy c → Licensed cs c
  easy_licensed cs (PutNode f n) h = h.0
  easy_licensed cs (DropNode f) h = h.0
  easy_licensed cs (PutName d x f) h = h.0
  easy_licensed cs (DropName d x) h = h.0
  easy_licensed cs (NewLayout d c i) h = absurd h.1
  easy_licensed cs (NextLayout d c i) h = absurd h.1
  easy_licensed cs (MoveNames d) h = absurd h.1

  all_map : {A : Type 0} (P Q : A → Type 0) (xs : List A) → ((x : A) → P x → Q x) → AllByRecursion P xs → AllByRecursion Q xs
  all_map P Q [] f h = tt
  all_map P Q (x ∷ xs) f h = (f x h.0, all_map P Q xs f h.1)

  pub easy : (cs : List Change) → AllByRecursion Easy cs → Good cs
  easy cs h = record {
    each = all_map Easy (Licensed cs) cs (easy_licensed cs) h;
    lays = λ d. ⊎_elim (λ e. Same (as_layout e))
        (λ (g : In cs (DropNode d) × (get (laid_after_all l cs).layouts d ≡ None)).
        ⊎_elim (λ none. Same (as_layout g.1 ∙ sym none)) (λ a. Gone g.0 a (as_layout g.1)) (each_in Easy cs (DropNode d) h g.0).0.2)
        (stays_or_goes l cs d (all_map Easy GivesNone cs (λ c e. e.1) h));
  }

  pub nothing : Good []
  nothing = easy [] tt
