-- A closed part of a legal history is legal, and its items are the same steps in it.
use Rattle.std.proofs.Common.{◌≡◌, ◌≢◌, ℕ, Bool, true, false, List, [], ◌∷◌, refl, sym, ap, ◌∙◌, subst}
use Rattle.std.specs.List.{AllByRecursion}
use Rattle.tree_model.specs.declared.op.Op.{Op}
use Rattle.tree_model.specs.declared.reply.Reply.{Reply}
use Rattle.tree_model.specs.Tree.{Tree}
use Rattle.tree_model.specs.Changes.{Change}
use Rattle.tree_model.specs.Step.{step}
use Rattle.tree_model.specs.Keys.{Key, Laid, at, laid_after_all}
use Rattle.tree_model.specs.Looks.{looks, changes, writes, decided, plan}
use Rattle.tree_model.specs.History.{Item, IsLegalFrom, tree_from}
use Rattle.tree_model.specs.Kept.{laid_step, laid_from, Misses, chosen, AreFree, IsClosedFrom, AreSameFrom}
use Rattle.tree_model.proofs.Deciding.{same_plan, step_decided}
use Rattle.tree_model.proofs.Placing.{same_on}
use Rattle.tree_model.proofs.Writing.{same_after, unmet_after, tree_after}

pub same_looks : (targets : ℕ) (l m : Laid) (op : Op) → AllByRecursion (λ k. at l k ≡ at m k) (looks targets l.tree op)
    → (decided (plan targets op) l.tree ≡ decided (plan targets op) m.tree) × (looks targets l.tree op ≡ looks targets m.tree op)
same_looks targets l m op h = same_plan (plan targets op) l m h

pub same_change : (targets : ℕ) (l m : Laid) (op : Op) → AllByRecursion (λ k. at l k ≡ at m k) (looks targets l.tree op) → (k : Key) → at l k ≡ at m k
    → at (laid_step targets l op) k ≡ at (laid_step targets m op) k
same_change targets l m op agree k h =
    same_after l m (changes targets l.tree op) k h ∙ ap (λ (o : Reply × List Change). at (laid_after_all m o.1) k) (same_looks targets l m op agree).0

pub only_written : (targets : ℕ) (l : Laid) (op : Op) (k : Key) → Misses (writes targets l.tree op) k → at (laid_step targets l op) k ≡ at l k
only_written targets l op k h = unmet_after l (changes targets l.tree op) k h

-- the tree after an operation, with layouts and without
pub tree_is : (targets : ℕ) (l : Laid) (op : Op) → (laid_step targets l op).tree ≡ (step targets l.tree op).0
tree_is targets l op = tree_after l (changes targets l.tree op) ∙ ap (λ (p : Tree × Reply). p.0) (sym (step_decided targets l.tree op))

pub laid_beside : (targets : ℕ) (l : Laid) (h : List Item) → (laid_from targets l h).tree ≡ tree_from targets l.tree h
laid_beside targets l [] = refl
laid_beside targets l (i ∷ is) = laid_beside targets (laid_step targets l i.request.op) is ∙ ap (λ t. tree_from targets t is) (tree_is targets l i.request.op)

pub same_reply : (targets : ℕ) (l m : Laid) (op : Op) → decided (plan targets op) l.tree ≡ decided (plan targets op) m.tree → (step targets l.tree op).1 ≡ (step targets m.tree op).1
same_reply targets l m op e =
    ap (λ (p : Tree × Reply). p.1) (step_decided targets l.tree op) ∙ ap (λ (o : Reply × List Change). o.0) e ∙ ap (λ (p : Tree × Reply). p.1) (sym (step_decided targets m.tree op))

all_with : {A : Type 0} (P Q : A → Type 0) → ((x : A) → P x → Q x) → (xs : List A) → AllByRecursion P xs → AllByRecursion Q xs
all_with P Q f [] h = tt
all_with P Q f (x ∷ xs) h = (f x h.0, all_with P Q f xs h.1)

all_both : {A : Type 0} (P Q : A → Type 0) (xs : List A) → AllByRecursion P xs → AllByRecursion Q xs → AllByRecursion (λ x. P x × Q x) xs
all_both P Q [] h k = tt
all_both P Q (x ∷ xs) h k = ((h.0, k.0), all_both P Q xs h.1 k.1)

all_chosen : (P : Item → Type 0) (bs : List Bool) (is : List Item) → AllByRecursion P is → AllByRecursion P (chosen bs is)
all_chosen P [] is h = tt
all_chosen P (b ∷ bs) [] h = tt
all_chosen P (true ∷ bs) (i ∷ is) h = (h.0, all_chosen P bs is h.1)
all_chosen P (false ∷ bs) (i ∷ is) h = all_chosen P bs is h.1

-- items of the part look at clean keys alone; a key stays clean that no item that is left out meets
unfoldable pub AreClean : ℕ → (Key → Type 0) → Laid → List Bool → List Item → Type 0
AreClean targets clean l [] is = Unit {0}
AreClean targets clean l (b ∷ bs) [] = Unit {0}
AreClean targets clean l (b ∷ bs) (i ∷ is) = (b ≡ true → AllByRecursion clean (looks targets l.tree i.request.op)) × AreClean targets clean (laid_step targets l i.request.op) bs is

still_clean : (targets : ℕ) (clean : Key → Type 0) (t : Tree) (op : Op) (l : Laid) (bs : List Bool) (is : List Item) → AreClean targets clean l bs is → AreFree targets t op l bs is
    → AreClean targets (λ k. clean k × Misses (writes targets t op) k) l bs is
unfolding AreClean
still_clean targets clean t op l [] is c f = tt
still_clean targets clean t op l (b ∷ bs) [] c f = tt
still_clean targets clean t op l (b ∷ bs) (i ∷ is) c f = (
  λ kept. all_both clean (λ k. Misses (writes targets t op) k) (looks targets l.tree i.request.op) (c.0 kept) (f.0 kept),
  still_clean targets clean t op (laid_step targets l i.request.op) bs is c.1 f.1,
)

pub agree : (targets : ℕ) (bs : List Bool) (is : List Item) (l m : Laid) (clean : Key → Type 0) → ((k : Key) → clean k → at l k ≡ at m k) → AreClean targets clean l bs is
    → IsClosedFrom targets l bs is → IsLegalFrom targets l.tree is → IsLegalFrom targets m.tree (chosen bs is) × AreSameFrom targets l m bs is
unfolding AreClean
agree targets [] is l m clean same c closed legal = (tt, tt)
agree targets (b ∷ bs) [] l m clean same c closed legal = (tt, tt)
agree targets (true ∷ bs) (i ∷ is) l m clean same c closed legal =
    let op = i.request.op in
    let alike : AllByRecursion (λ k. at l k ≡ at m k) (looks targets l.tree op) = all_with clean (λ k. at l k ≡ at m k) same (looks targets l.tree op) (c.0 refl) in
    let one = same_looks targets l m op alike in
    let reply = same_reply targets l m op one.0 in
    let next : IsLegalFrom targets (laid_step targets l op).tree is = subst (λ t. IsLegalFrom targets t is) (sym (tree_is targets l op)) legal.2 in
    let rest = agree targets bs is (laid_step targets l op) (laid_step targets m op) clean (λ k h. same_change targets l m op alike k (same k h)) c.1 closed.1 next in (
      (legal.0 ∙ reply, all_chosen (λ later. later.request.number ≢ i.request.number) bs is legal.1, subst (λ t. IsLegalFrom targets t (chosen bs is)) (tree_is targets m op) rest.0),
      (record { looked = one.1; reply = reply; change = ap (λ (o : Reply × List Change). o.1) one.0; same_on = same_on targets l m op alike }, rest.1),
    )
agree targets (false ∷ bs) (i ∷ is) l m clean same c closed legal =
    let op = i.request.op in
    let next : IsLegalFrom targets (laid_step targets l op).tree is = subst (λ t. IsLegalFrom targets t is) (sym (tree_is targets l op)) legal.2 in
    agree targets bs is (laid_step targets l op) m (λ k. clean k × Misses (writes targets l.tree op) k) (λ k h. only_written targets l op k h.1 ∙ same k h.0)
    (still_clean targets clean l.tree op (laid_step targets l op) bs is c.1 (closed.0 refl)) closed.1 next

pub all_clean : (targets : ℕ) (l : Laid) (bs : List Bool) (is : List Item) → AreClean targets (λ k. Unit {0}) l bs is
unfolding AreClean
all_clean targets l [] is = tt
all_clean targets l (b ∷ bs) [] = tt
all_clean targets l (b ∷ bs) (i ∷ is) = ((λ _. units (looks targets l.tree i.request.op)), all_clean targets (laid_step targets l i.request.op) bs is)
  where
    units : (ks : List Key) → AllByRecursion (λ (k : Key). Unit {0}) ks
    units [] = tt
    units (k ∷ ks) = (tt, units ks)
