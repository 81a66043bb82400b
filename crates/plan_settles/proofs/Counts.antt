-- How many entries a directory of a history has.
use Rattle.std.proofs.Common.{◌≡◌, ◌≤◌, ◌+◌, ◌-◌, cond, ℕ, suc, Bool, true, false, if◌then◌else◌, Option, Some, None, List, [], ◌∷◌, ◌++◌, length, refl, sym, ap, ◌∙◌, subst, arith}
use Rattle.std.specs.Ordering.{eq_by_cmp}
use Rattle.std.specs.FinMap.{get, len, insert, remove, contains_key, empty, get-empty, len-empty, len-insert, len-remove}
use Rattle.std.specs.Option.{unwrap_or}
use Rattle.fid_space.specs.declared.fid.Fid.{Fid}
use Rattle.tree_model.specs.declared.node.Node.{Node}
use Rattle.tree_model.specs.declared.errno.Errno.{Errno}
use Rattle.tree_model.specs.declared.op.Op.{Op}
use Rattle.tree_model.specs.declared.op.Op.TheVariants as ops
use Rattle.tree_model.specs.Tree.{Tree, Names, fid_cmp, name_cmp, names_of, named}
use Rattle.tree_model.specs.Changes.{Change, PutNode, DropNode, PutName, DropName, NewLayout, NextLayout, MoveNames}
use Rattle.tree_model.specs.Keys.{Laid, laid_after, laid_after_all, laid_base}
use Rattle.tree_model.specs.History.{Item}
use Rattle.tree_model.specs.Kept.{laid_step, laid_from}
use Rattle.tree_model.specs.Step.{op_fault, op_changes, changed_node, moved_node, released, replaced, unlinked, renamed}
use Rattle.tree_model.proofs.Fids.{told_same}
use Rattle.tree_model.proofs.Maps.{names_total}
use Rattle.tree_model.proofs.Writing.{names_with}
use Rattle.tree_sound.proofs.Faults.{decides}
use Rattle.plan_settles.specs.Settling.{EntriesAreFew}

-- how many names a change brings
puts : Change → ℕ
puts (PutName d x f) = 1
puts _ = 0

puts_all : List Change → ℕ
puts_all [] = 0
puts_all (c ∷ cs) = puts c + puts_all cs

abbrev entries_at : Tree → Fid → ℕ
entries_at t d = len (names_of t d)

-- ---- one change

put_adds : (m : Names) (x : List ℕ) (f : Fid) → len (insert m x f) ≤ len m + 1
put_adds m x f = subst (λ n. n ≤ len m + 1) (sym (len-insert names_total m x f)) (by_test (contains_key m x))
  where
    by_test : (b : Bool) → cond b (len m) (len m + 1) ≤ len m + 1
    by_test true = omega arith
    by_test false = omega arith

drop_adds : (m : Names) (x : List ℕ) → len (remove m x) ≤ len m
drop_adds m x = subst (λ n. n ≤ len m) (sym (len-remove names_total m x)) (by_test (contains_key m x))
  where
    by_test : (b : Bool) → cond b (len m - 1) (len m) ≤ len m
    by_test true = omega arith
    by_test false = omega arith

-- other entries of one directory
with_adds : (t : Tree) (d e : Fid) (more : ℕ) (m : Names) → len m ≤ entries_at t d + more → (b : Bool) → eq_by_cmp fid_cmp e d ≡ b → len (cond b m (names_of t e)) ≤ entries_at t e + more
with_adds t d e more m h true same = subst (λ g. len m ≤ entries_at t g + more) (sym (told_same e d same)) h
with_adds t d e more m h false same = omega arith

change_adds : (l : Laid) (c : Change) (e : Fid) → entries_at (laid_after l c).tree e ≤ entries_at l.tree e + puts c
unfolding puts
change_adds l (PutNode f n) e = omega arith
change_adds l (DropNode f) e = omega arith
change_adds l (PutName d x f) e =
    subst (λ (m : Names). len m ≤ entries_at l.tree e + 1) (sym (names_with l.tree d (insert (names_of l.tree d) x f) e))
    (with_adds l.tree d e 1 (insert (names_of l.tree d) x f) (put_adds (names_of l.tree d) x f) (eq_by_cmp fid_cmp e d) refl)
change_adds l (DropName d x) e =
    subst (λ (m : Names). len m ≤ entries_at l.tree e + 0) (sym (names_with l.tree d (remove (names_of l.tree d) x) e))
    (with_adds l.tree d e 0 (remove (names_of l.tree d) x) (let h = drop_adds (names_of l.tree d) x in omega (arith, h)) (eq_by_cmp fid_cmp e d) refl)
change_adds l (NewLayout d c i) e = omega arith
change_adds l (NextLayout d c i) e = omega arith
change_adds l (MoveNames d) e = omega arith

changes_add : (l : Laid) (cs : List Change) (e : Fid) → entries_at (laid_after_all l cs).tree e ≤ entries_at l.tree e + puts_all cs
unfolding puts_all
changes_add l [] e = omega arith
changes_add l (c ∷ cs) e =
    let a = change_adds l c e in
    let b = changes_add (laid_after l c) cs e in
    omega (arith, a, b)

-- ---- the changes of an operation

puts_append : (cs ds : List Change) → puts_all (cs ++ ds) ≡ puts_all cs + puts_all ds
unfolding puts_all
puts_append [] ds = omega arith
puts_append (c ∷ cs) ds = let h = puts_append cs ds in omega (arith, h)

node_puts : (f : Fid) (o : Option Node) (change : Node → Node) → puts_all (changed_node f o change) ≡ 0
unfolding puts_all puts
node_puts f None change = refl
node_puts f (Some n) change = refl

released_puts : (f : Fid) (o : Option Node) → puts_all (released f o) ≡ 0
unfolding puts_all puts
released_puts f None = refl
released_puts f (Some n) = by_test _
  where
    by_test : (b : Bool) → puts_all (if b then DropNode f ∷ [] else PutNode f (record n { links = n.links - 1 }) ∷ []) ≡ 0
    by_test true = refl
    by_test false = refl

moved_puts : (p q f : Fid) (o : Option Node) → puts_all (moved_node p q f o) ≡ 0
unfolding puts_all
moved_puts p q f o = by_test _
  where
    by_test : (b : Bool) → puts_all (if b then changed_node f o (λ n. record n { parent = q }) else []) ≡ 0
    by_test true = node_puts f o (λ n. record n { parent = q })
    by_test false = refl

replaced_puts : (t : Tree) (o : Option Fid) → puts_all (replaced t o) ≡ 0
unfolding puts_all
replaced_puts t None = refl
replaced_puts t (Some old) = released_puts old (get t.nodes old)

unlinked_puts : (t : Tree) (p : Fid) (x : List ℕ) (o : Option Fid) → puts_all (unlinked t p x o) ≤ 1
unfolding puts_all puts
unlinked_puts t p x None = omega arith
unlinked_puts t p x (Some c) = let h = released_puts c (get t.nodes c) in omega (arith, h)

renamed_puts : (t : Tree) (p : Fid) (x : List ℕ) (q : Fid) (y : List ℕ) (o : Option Fid) → puts_all (renamed t p x q y o) ≤ 1
unfolding puts_all puts
renamed_puts t p x q y None = omega arith
renamed_puts t p x q y (Some m) = by_test _
  where
    by_test : (b : Bool) → puts_all (if b then [] else DropName p x ∷ (replaced t (named t q y) ++ (PutName q y m ∷ moved_node p q m (get t.nodes m)))) ≤ 1
    by_test true = omega arith
    by_test false =
        let a = puts_append (replaced t (named t q y)) (PutName q y m ∷ moved_node p q m (get t.nodes m)) in
        let b = replaced_puts t (named t q y) in
        let c = moved_puts p q m (get t.nodes m) in
        omega (arith, a, b, c)

op_puts : (t : Tree) (op : Op) → puts_all (op_changes t op) ≤ 1
unfolding puts_all puts
op_puts t (ops.Create p x f) = omega arith
op_puts t (ops.Mkdir p x f None) = omega arith
op_puts t (ops.Mkdir p x f (Some s)) = omega arith
op_puts t (ops.Link p x f) = let h = node_puts f (get t.nodes f) (λ n. record n { links = n.links + 1 }) in omega (arith, h)
op_puts t (ops.Unlink p x) = unlinked_puts t p x (named t p x)
op_puts t (ops.Rmdir p x) = unlinked_puts t p x (named t p x)
op_puts t (ops.Rename p x q y) = renamed_puts t p x q y (named t p x)
op_puts t (ops.SetAttr f m u g) = let h = node_puts f (get t.nodes f) (λ n. record n { mode = m; uid = u; gid = g }) in omega (arith, h)
op_puts t (ops.SetXattr f x v) = let h = node_puts f (get t.nodes f) (λ n. record n { xattrs = insert n.xattrs x v }) in omega (arith, h)
op_puts t (ops.DelXattr f x) = let h = node_puts f (get t.nodes f) (λ n. record n { xattrs = remove n.xattrs x }) in omega (arith, h)
op_puts t (ops.Migrate d c i) = omega arith
op_puts t (ops.Lookup p x) = omega arith
op_puts t (ops.GetAttr f) = omega arith
op_puts t (ops.GetXattr f x) = omega arith

step_adds : (targets : ℕ) (l : Laid) (op : Op) (e : Fid) → entries_at (laid_step targets l op).tree e ≤ suc (entries_at l.tree e)
unfolding puts_all
step_adds targets l op e = by_fault (op_fault targets l.tree op) refl
  where
    by_fault : (f : Option Errno) → op_fault targets l.tree op ≡ f → entries_at (laid_step targets l op).tree e ≤ suc (entries_at l.tree e)
    by_fault None h =
        let a = changes_add l (op_changes l.tree op) e in
        let b = op_puts l.tree op in
        subst (λ (cs : List Change). entries_at (laid_after_all l cs).tree e ≤ suc (entries_at l.tree e)) (sym (decides targets l.tree op None h)) (omega (arith, a, b))
    by_fault (Some x) h = subst (λ (cs : List Change). entries_at (laid_after_all l cs).tree e ≤ suc (entries_at l.tree e)) (sym (decides targets l.tree op (Some x) h)) (omega arith)

-- ---- a history

from_adds : (targets : ℕ) (l : Laid) (h : List Item) (e : Fid) → entries_at (laid_from targets l h).tree e ≤ entries_at l.tree e + length h
from_adds targets l [] e = omega arith
from_adds targets l (i ∷ is) e =
    let a = step_adds targets l i.request.op e in
    let b = from_adds targets (laid_step targets l i.request.op) is e in
    omega (arith, a, b)

base_bare : (e : Fid) → entries_at laid_base.tree e ≡ 0
base_bare e = ap (λ (o : Option Names). len (unwrap_or o empty)) (get-empty {X = Names} fid_cmp e) ∙ len-empty name_cmp Fid

pub entries_are_few : EntriesAreFew
entries_are_few targets history e =
    let a = from_adds targets laid_base history e in
    let b = base_bare e in
    omega (arith, a, b)
