-- Nodes that may stand, and what they become.
use Rattle.std.proofs.Common.{◌≡◌, ◌≤◌, ◌<◌, ◌^◌, ◌+◌, ◌-◌, is_some, nat_le, if◌then◌else◌, ℕ, Bool, true, false, true≢false, cond, List, Option, Some, None, refl, sym, ◌∙◌, subst, arith}
use Rattle.std.proofs.lemmas.Bool.Decides.{nat_tests}
use Rattle.std.specs.Ordering.{eq_by_cmp}
use Rattle.std.specs.FinMap.{get, insert, remove, len, empty, get-empty, get-insert, get-remove, len-insert, len-remove, len-empty}
use Rattle.fid_space.specs.declared.fid.Fid.{Fid}
use Rattle.tree_model.specs.declared.node.Node.{Node}
use Rattle.tree_model.specs.declared.errno.Errno.{Errno}
use Rattle.tree_model.specs.declared.errno.Errno.TheVariants.{ENOSPC}
use Rattle.tree_model.specs.Names.{IsName}
use Rattle.tree_model.specs.OpText.{IsXattrValue}
use Rattle.tree_model.specs.Tree.{name_cmp, directory_in, file_node}
use Rattle.tree_model.specs.Step.{setxattr_fault}
use Rattle.tree_model.proofs.Maps.{names_total}
use Rattle.tree_model.proofs.Fids.{name_same}
use Rattle.tree_sound.specs.Sound.{FitsNode}
use Rattle.tree_sound.proofs.Basics.{some_is, none_is}

no_attribute : {A : Type 0} (x v : List ℕ) → ◌≡◌ {A = Option (List ℕ)} (get (empty {K = List ℕ} {X = List ℕ} {R = name_cmp}) x) (Some v) → A
no_attribute x v e = absurd (none_is (sym (get-empty {X = List ℕ} name_cmp x) ∙ e))

few_at_first : len (empty {K = List ℕ} {X = List ℕ} {R = name_cmp}) ≤ 16
few_at_first = let e = len-empty name_cmp (List ℕ) in omega (arith, e)

pub file_fits : FitsNode file_node
file_fits = record {
  directory = λ h. absurd (true≢false (sym h));
  file = λ _. (omega arith, omega arith, refl);
  mode = omega arith;
  uid = omega arith;
  gid = omega arith;
  few = few_at_first;
  each = λ x v e. no_attribute x v e;
}

pub directory_fits : (p : Fid) → FitsNode (directory_in p)
directory_fits p = record {
  directory = λ _. refl;
  file = λ h. absurd (true≢false h);
  mode = omega arith;
  uid = omega arith;
  gid = omega arith;
  few = few_at_first;
  each = λ x v e. no_attribute x v e;
}

-- another count of links of a file
pub links_fit : (n : Node) (links : ℕ) → n.dir ≡ false → 1 ≤ links → links ≤ 65000 → FitsNode n → FitsNode (record n { links = links })
links_fit n links file low high h = record {
  directory = λ d. absurd (true≢false (sym d ∙ file));
  file = λ d. (low, high, (h.file d).2);
  mode = h.mode;
  uid = h.uid;
  gid = h.gid;
  few = h.few;
  each = h.each;
}

-- another parent of a directory
pub parent_fits : (n : Node) (p : Fid) → n.dir ≡ true → FitsNode n → FitsNode (record n { parent = p })
parent_fits n p dir h = record {
  directory = h.directory;
  file = λ f. absurd (true≢false (sym dir ∙ f));
  mode = h.mode;
  uid = h.uid;
  gid = h.gid;
  few = h.few;
  each = h.each;
}

pub attributes_fit : (n : Node) (mode uid gid : ℕ) → mode ≤ 4095 → uid < 2 ^ 32 → gid < 2 ^ 32 → FitsNode n → FitsNode (record n { mode = mode; uid = uid; gid = gid })
attributes_fit n mode uid gid m u g h = record { directory = h.directory; file = h.file; mode = m; uid = u; gid = g; few = h.few; each = h.each }

-- one attribute more, or another value
pub xattr_set_fits : (n : Node) (x v : List ℕ) → IsName x → IsXattrValue v → setxattr_fault (Some n) x ≡ None → FitsNode n → FitsNode (record n { xattrs = insert n.xattrs x v })
xattr_set_fits n x v name value ok h = record {
  directory = h.directory;
  file = h.file;
  mode = h.mode;
  uid = h.uid;
  gid = h.gid;
  few = subst (λ k. k ≤ 16) (sym (len-insert names_total n.xattrs x v)) (room (is_some (get n.xattrs x)) ok);
  each = λ y w e. by_test y w (eq_by_cmp name_cmp y x) refl (sym (get-insert names_total n.xattrs x v y) ∙ e);
}
  where
    room : (b : Bool) → (if b then None else (if nat_le 16 (len n.xattrs) then Some ENOSPC else None)) ≡ None → cond b (len n.xattrs) (len n.xattrs + 1) ≤ 16
    room true e = h.few
    room false e = below (nat_le 16 (len n.xattrs)) refl e
      where
        below : (b : Bool) → nat_le 16 (len n.xattrs) ≡ b → ◌≡◌ {A = Option Errno} (if b then Some ENOSPC else None) None → len n.xattrs + 1 ≤ 16
        below true s t = cc
        below false s t = grind (arith, nat_tests)

    by_test : (y w : List ℕ) (b : Bool) → eq_by_cmp name_cmp y x ≡ b → cond b (Some v) (get n.xattrs y) ≡ Some w → IsName y × IsXattrValue w
    by_test y w true s e = (subst IsName (sym (name_same y x s)) name, subst IsXattrValue (some_is e) value)
    by_test y w false s e = h.each y w e

pub xattr_del_fits : (n : Node) (x : List ℕ) → FitsNode n → FitsNode (record n { xattrs = remove n.xattrs x })
xattr_del_fits n x h = record {
  directory = h.directory;
  file = h.file;
  mode = h.mode;
  uid = h.uid;
  gid = h.gid;
  few = subst (λ k. k ≤ 16) (sym (len-remove names_total n.xattrs x)) (less (is_some (get n.xattrs x)));
  each = λ y w e. by_test y w (eq_by_cmp name_cmp y x) refl (sym (get-remove names_total n.xattrs x y) ∙ e);
}
  where
    less : (b : Bool) → cond b (len n.xattrs - 1) (len n.xattrs) ≤ 16
    less true = let a = h.few in omega (arith, a)
    less false = h.few

    by_test : (y w : List ℕ) (b : Bool) → eq_by_cmp name_cmp y x ≡ b → cond b None (get n.xattrs y) ≡ Some w → IsName y × IsXattrValue w
    by_test y w true s e = absurd (none_is e)
    by_test y w false s e = h.each y w e
