-- What holds where no check fails.
use Rattle.std.proofs.Common.{◌≡◌, ◌≤◌, ◌<◌, ◌==◌, ◌&&◌, nat_le, nat_lt, if◌then◌else◌, ℕ, Bool, true, false, List, Option, Some, None, inl, inr, refl, sym, ap, ◌∙◌, arith}
use Rattle.std.proofs.lemmas.Bool.Decides.{nat_tests, eqb_tells}
use Rattle.std.specs.FinMap.{empty, get, len, get-empty, empty_of_len}
use Rattle.fid_space.specs.declared.fid.Fid.{Fid}
use Rattle.fid_space.specs.Places.{is_client}
use Rattle.tree_model.specs.declared.node.Node.{Node}
use Rattle.tree_model.specs.declared.errno.Errno.{Errno}
use Rattle.tree_model.specs.declared.errno.Errno.TheVariants.{EPERM, ENOENT, EEXIST, ENOTDIR, EISDIR, EINVAL, EMLINK, ENOTEMPTY}
use Rattle.tree_model.specs.declared.op.Op.{Op}
use Rattle.tree_model.specs.Tree.{Tree, Names, names_of, named, same_fid}
use Rattle.tree_model.specs.Step.{first_fault, parent_fault, taken_fault, absent_fault, client_fault, stripes_fault, link_fault, found_fault, file_fault, kind_fault, empty_fault, there_fault, over_fault, setxattr_fault, xattr_fault, is_dir, same_node, op_fault, op_changes}
use Rattle.tree_model.specs.Keys.{Laid}
use Rattle.tree_model.specs.Looks.{changes}
use Rattle.tree_model.specs.Fids.{name_cmp}
use Rattle.tree_model.proofs.Fids.{fid_ties, told_same}
use Rattle.tree_model.proofs.Deciding.{changes_decided}
use Rattle.tree_model.specs.Laws.{unless}
use Rattle.tree_sound.proofs.Basics.{same, by_bool, not_both, some_none}
use Rattle.tree_sound.proofs.Steps.{IsNotOld}

pub first_none : (a b : Option Errno) → first_fault a b ≡ None → (a ≡ None) × (b ≡ None)
first_none None b h = (refl, h)
first_none (Some e) b h = let no : Some e ≡ None = h in absurd (cc)

pub parent_none : (o : Option Node) → parent_fault o ≡ None → (n : Node) × (o ≡ Some n) × (n.dir ≡ true)
parent_none None h = let no : Some ENOENT ≡ None = h in absurd (cc)
parent_none (Some n) h = (n, refl, by_dir n.dir h)
  where
    by_dir : (b : Bool) → ◌≡◌ {A = Option Errno} (if b then None else Some ENOTDIR) None → b ≡ true
    by_dir true e = refl
    by_dir false e = let no : Some ENOTDIR ≡ None = e in absurd (cc)

pub taken_none : {A : Type 0} (o : Option A) → taken_fault o ≡ None → o ≡ None
taken_none None h = refl
taken_none (Some a) h = let no : Some EEXIST ≡ None = h in absurd (cc)

pub absent_none : {A : Type 0} (o : Option A) → absent_fault o ≡ None → (a : A) × (o ≡ Some a)
absent_none None h = let no : Some ENOENT ≡ None = h in absurd (cc)
absent_none (Some a) h = (a, refl)

pub passed : (b : Bool) (e : Errno) → ◌≡◌ {A = Option Errno} (if b then None else Some e) None → b ≡ true
passed true e h = refl
passed false e h = let no : Some e ≡ None = h in absurd (cc)

pub unmet : (b : Bool) (e : Errno) (o : Option Errno) → ◌≡◌ {A = Option Errno} (if b then Some e else o) None → (b ≡ false) × (o ≡ None)
unmet true e o h = let no : Some e ≡ None = h in absurd (cc)
unmet false e o h = (refl, h)

pub client_none : (targets : ℕ) (f : Fid) → client_fault targets f ≡ None → is_client targets f ≡ true
client_none targets f h = passed (is_client targets f) EINVAL h

pub stripes_none : (targets c i : ℕ) → stripes_fault targets c i ≡ None → (c ≤ targets) × (i < targets)
stripes_none targets c i h = numbers (passed (nat_le c targets && nat_lt i targets) EINVAL h)
  where
    numbers : (nat_le c targets && nat_lt i targets) ≡ true → (c ≤ targets) × (i < targets)
    numbers e = (grind (arith, nat_tests), grind (arith, nat_tests))

pub link_none : (o : Option Node) → link_fault o ≡ None → (n : Node) × (o ≡ Some n) × (n.dir ≡ false) × (n.links < 65000)
link_none None h = let no : Some ENOENT ≡ None = h in absurd (cc)
link_none (Some n) h =
    let a = unmet n.dir EPERM (if nat_le 65000 n.links then Some EMLINK else None) h in
    let b = unmet (nat_le 65000 n.links) EMLINK None a.1 in
    (n, refl, a.0, below b.0)
  where
    below : nat_le 65000 n.links ≡ false → n.links < 65000
    below e = grind (arith, nat_tests)

pub found_none : (o : Option Fid) (fault : Fid → Option Errno) → found_fault o fault ≡ None → (c : Fid) × (o ≡ Some c) × (fault c ≡ None)
found_none None fault h = let no : Some ENOENT ≡ None = h in absurd (cc)
found_none (Some c) fault h = (c, refl, h)

-- a file where a directory was checked for, and the other way round
pub file_only : (o : Option Node) → file_fault o ≡ None → is_dir o ≡ false
file_only o h = (unmet (is_dir o) EISDIR None h).0

apart_of : (a b : Fid) → same_fid a b ≡ false → same a b ≡ false
apart_of a b h = sym (fid_ties a b) ∙ h

pub setxattr_there : (o : Option Node) (x : List ℕ) → setxattr_fault o x ≡ None → (n : Node) × (o ≡ Some n)
setxattr_there None x h = some_none (setxattr_fault None x) _ refl h
setxattr_there (Some n) x h = (n, refl)

pub xattr_there : (o : Option Node) (x : List ℕ) → xattr_fault o x ≡ None → (n : Node) × (o ≡ Some n)
xattr_there None x h = some_none (xattr_fault None x) _ refl h
xattr_there (Some n) x h = (n, refl)

pub no_len : (n : Names) → empty_fault n ≡ None → n ≡ empty
no_len n h = elim (eqb_tells (len n) 0) [
  | inl e ↦ empty_of_len n e.1
  | inr e ↦ not_both (len n == 0) (passed (len n == 0) ENOTEMPTY h) e.0
]

-- what a rename replaces isn't the directory that it stands in
module _ (l : Laid) (q : Fid) (y : List ℕ) (m : Fid) (k : Node) (h : get l.tree.nodes q ≡ Some k) (dir : k.dir ≡ true) where
  pub not_old_at : (old : Option Fid) → named l.tree q y ≡ old → there_fault old (over_fault l.tree m) ≡ None → same_node m old ≡ false → IsNotOld q old × IsNotOld m old
  not_old_at None is fault other = (tt, tt)
  not_old_at (Some o) is fault other =
      let inner : first_fault (kind_fault (is_dir (get l.tree.nodes m)) (is_dir (get l.tree.nodes o))) (if is_dir (get l.tree.nodes o) then empty_fault (names_of l.tree o) else None) ≡ None =
      sym (ap (λ b. if b then None else first_fault (kind_fault (is_dir (get l.tree.nodes m)) (is_dir (get l.tree.nodes o))) (if is_dir (get l.tree.nodes o) then empty_fault (names_of l.tree o) else None)) other) ∙ fault in
      let bare = (first_none (kind_fault (is_dir (get l.tree.nodes m)) (is_dir (get l.tree.nodes o))) (if is_dir (get l.tree.nodes o) then empty_fault (names_of l.tree o) else None) inner).1 in
      let not_q : same q o ≡ false =
      by_bool (same q o)
      (λ s.
      let one : q ≡ o = told_same q o s in
      let is_directory : is_dir (get l.tree.nodes o) ≡ true = ap (λ f. is_dir (get l.tree.nodes f)) (sym one) ∙ ap is_dir h ∙ dir in
      let none : names_of l.tree o ≡ empty = no_len (names_of l.tree o) (sym (ap (λ b. if b then empty_fault (names_of l.tree o) else None) is_directory) ∙ bare) in
      some_none (named l.tree q y) o is (ap (λ f. named l.tree f y) one ∙ ap (λ (ns : Names). get ns y) none ∙ get-empty {X = Fid} name_cmp y))
      (λ s. s) in
      (not_q, apart_of m o other)

-- the changes of an operation whose first fault is known
pub decides : (targets : ℕ) (t : Tree) (op : Op) (f : Option Errno) → op_fault targets t op ≡ f → changes targets t op ≡ unless f (op_changes t op)
decides targets t op f e = changes_decided targets t op ∙ ap (λ f. unless f (op_changes t op)) e
