-- What the laws of objects need of a sound tree.
use Rattle.std.proofs.Common.{◌≡◌, ◌≢◌, ◌≤◌, ⊎_elim, is_some, ℕ, true, false, List, Option, Some, None, refl, sym, ap, ◌∙◌, subst, true≢false}
use Rattle.std.specs.FinMap.{get}
use Rattle.fid_space.specs.declared.fid.Fid.{Fid}
use Rattle.fid_space.specs.Places.{is_client}
use Rattle.tree_model.specs.declared.node.Node.{Node}
use Rattle.tree_model.specs.Tree.{named, root_fid}
use Rattle.tree_model.specs.Keys.{Laid, layout_at, plain_layout}
use Rattle.tree_model.specs.Step.{is_dir}
use Rattle.tree_sound.specs.Sound.{IsSound, IsNodeFid}
use Rattle.tree_sound.proofs.Basics.{at_fid}
use Rattle.tree_sound.proofs.Keeping.{sound_node, sound_none}
use Rattle.tree_sound.proofs.Story.{there_named, in_directory, once_named}

pub record Ground (targets : ℕ) (l : Laid) : Type 0 where
  pub called : (f : Fid) → is_some (get l.tree.nodes f) ≡ true → IsNodeFid targets f
  -- what is no directory has no stripes, and what has some is a client's
  pub unlaid : (f : Fid) → is_dir (get l.tree.nodes f) ≡ false → layout_at l f ≡ plain_layout
  pub striped : (d : Fid) → (layout_at l d).count ≢ 0 → (is_client targets d ≡ true) × ((layout_at l d).count ≤ targets)
  pub there : (d : Fid) (x : List ℕ) (f : Fid) → named l.tree d x ≡ Some f → is_some (get l.tree.nodes f) ≡ true
  pub parent : (d : Fid) (n : Node) → get l.tree.nodes d ≡ Some n → n.dir ≡ true → is_dir (get l.tree.nodes n.parent) ≡ true

module _ (targets most : ℕ) (l : Laid) (sound : IsSound targets most l) where
  called_at : (f : Fid) (o : Option Node) → get l.tree.nodes f ≡ o → is_some o ≡ true → IsNodeFid targets f
  called_at f None e h = absurd (true≢false (sym h))
  called_at f (Some n) e h = (sound_node targets most l sound.each f n e).called

  unlaid_at : (f : Fid) (o : Option Node) → get l.tree.nodes f ≡ o → is_dir o ≡ false → layout_at l f ≡ plain_layout
  unlaid_at f None e h = (sound_none targets most l sound.each f e).0
  unlaid_at f (Some n) e h = ((sound_node targets most l sound.each f n e).bare h).0

  striped_at : (d : Fid) (o : Option Node) → get l.tree.nodes d ≡ o → (layout_at l d).count ≢ 0 → (is_client targets d ≡ true) × ((layout_at l d).count ≤ targets)
  striped_at d None e h = absurd (h (ap (λ k. k.count) (sound_none targets most l sound.each d e).0))
  striped_at d (Some n) e h = let lay = (sound_node targets most l sound.each d n e).layout in (lay.client h, lay.few)

  parent_at : (d : Fid) (n : Node) → get l.tree.nodes d ≡ Some n → n.dir ≡ true → is_dir (get l.tree.nodes n.parent) ≡ true
  parent_at d n e dir = ⊎_elim
      (λ (r : d ≡ root_fid).
      let up = sound.above n (ap (λ g. get l.tree.nodes g) (sym r) ∙ e) in
      subst (λ f. is_dir (get l.tree.nodes f) ≡ true) (sym up) sound.root)
      (λ r. let once = once_named targets most l sound d n e dir r in in_directory targets most l sound n.parent once.0 d once.1)
      (at_fid d root_fid)

  pub ground : Ground targets l
  ground = record {
    called = λ f h. called_at f (get l.tree.nodes f) refl h;
    unlaid = λ f h. unlaid_at f (get l.tree.nodes f) refl h;
    striped = λ d h. striped_at d (get l.tree.nodes d) refl h;
    there = λ d x f e. ap is_some (there_named targets most l sound d x f e).1;
    parent = parent_at;
  }
