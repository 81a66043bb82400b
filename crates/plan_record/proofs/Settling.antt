-- What each operation settles has a spelling, and is short.
use Rattle.std.proofs.Common.{◌≡◌, ◌≤◌, ◌<◌, ◌^◌, ◌==◌, ◌&&◌, not, nat_le, nat_lt, if◌then◌else◌, ℕ, Bool, true, false, Option, Some, None, is_some, List, [], length, refl, sym, ap, subst, ◌∙◌, arith}
use Rattle.std.proofs.lemmas.Bool.Decides.{nat_tests}
use Rattle.fid_space.specs.declared.fid.Fid.{Fid}
use Rattle.fid_space.specs.FidText.{IsFid}
use Rattle.fid_space.specs.Places.{is_client}
use Rattle.out_update.specs.declared.update.Kind.TheVariants as kind
use Rattle.tree_model.specs.declared.errno.Errno.{Errno}
use Rattle.tree_model.specs.declared.errno.Errno.TheVariants.{EISDIR, EINVAL, ENODATA}
use Rattle.tree_model.specs.declared.op.Op.{Op}
use Rattle.tree_model.specs.declared.op.Op.TheVariants as ops
use Rattle.tree_model.specs.declared.reply.Reply.TheVariants as replies
use Rattle.tree_model.specs.Names.{IsName}
use Rattle.tree_model.specs.Step.{client_fault, layout_fault, stripes_fault, taken_fault, absent_fault}
use Rattle.striped_dir.specs.Layouts.{laid}
use Rattle.striped_dir.specs.Parts.{destroy_of}
use Rattle.plan_base.specs.declared.seen.Seen.{Seen}
use Rattle.plan_base.specs.declared.outcome.Outcome.{Outcome}
use Rattle.plan_base.specs.Asks.{Asks}
use Rattle.plan_base.specs.Places.{node_place}
use Rattle.plan_base.specs.Planning.{empty_fault, space_fault, link_fault, is_dir_seen, first_layout, found_value, attr_reply, settled, entry_in, new_asks, asks}
use Rattle.plan_base.specs.Updates.{Placed, create_update, insert_update, delete_update, xattr_set_update, ref_del_update, ref_add_update, xattr_del_update, attr_set_update, file_body, directory_body}
use Rattle.plan_record.specs.Recorded.{reads}
use Rattle.plan_record.proofs.Outcomes.{Each, each_directory, each_node, each_value, each_entry, each_empty, each_settle, each_check, each_found, each_there, each_as}
use Rattle.plan_record.proofs.Params.{Lay, p_none, p_name, p_entry, p_value, p_attributes, p_file, p_directory}
use Rattle.plan_record.proofs.Fitting.{Fits, Spells, spell, fits_none, fits_one, fits_most, fits_join}
use Rattle.plan_record.proofs.Placing.{entry_fid, made_fit, gone_fit}

-- ---- what checks leave

none_of : (b : Bool) (e : Errno) → ◌≡◌ {A = Option Errno} (if b then None else Some e) None → b ≡ true
none_of true e h = refl
none_of false e h = let no : Some e ≡ None = h in absurd (cc)

client_of : (targets : ℕ) (f : Fid) → client_fault targets f ≡ None → is_client targets f ≡ true
client_of targets f h = none_of (is_client targets f) EINVAL h

stripes_of : (targets c i : ℕ) → stripes_fault targets c i ≡ None → (c ≤ targets) × (i < targets)
stripes_of targets c i h = numbers (none_of (nat_le c targets && nat_lt i targets) EINVAL h)
  where
    numbers : (nat_le c targets && nat_lt i targets) ≡ true → (c ≤ targets) × (i < targets)
    numbers e = (grind (arith, nat_tests), grind (arith, nat_tests))

lay_of : (c i : ℕ) → c ≤ 16 → i < 16 → Lay (first_layout (Some (c, i)))
lay_of c i most low = by_test (c == 0) refl
  where
    low_start : nat_le i 15 ≡ true
    low_start = grind (arith, nat_tests)

    by_test : (b : Bool) → (c == 0) ≡ b → Lay (if b then record { count = 0; start = 0; generation = 0 } else record { count = c; start = i; generation = 0 })
    by_test true e = record { few = omega arith; start = refl; low = omega arith; wide = omega arith }
    by_test false e = record { few = most; start = ap (λ b. if b then i == 0 else nat_le i 15) e ∙ low_start; low = omega (arith, low); wide = omega arith }

first_lay : (targets : ℕ) (stripes : Option (ℕ × ℕ)) → targets ≤ 16 → layout_fault targets stripes ≡ None → Lay (first_layout stripes)
first_lay targets None few h = record { few = omega arith; start = refl; low = omega arith; wide = omega arith }
first_lay targets (Some z) few h =
    let s = stripes_of targets z.0 z.1 h in
    let count = s.0 in
    let index = s.1 in
    lay_of z.0 z.1 (omega (arith, count, few)) (omega (arith, index, few))

-- ---- an outcome with few and short updates; a read has none

pub record Small (batch : ℕ) (done : Bool) (o : Outcome) : Type 0 where
  pub fits : Fits batch 128 21680 o.placed
  pub reply : done ≡ true → o.reply ≡ replies.Ok

module _ (targets batch : ℕ) (one : 1 ≤ targets) (few : targets ≤ 16) (small : batch < 2 ^ 64) where
  abbrev pub Ends : Op → Asks → Type 0
  Ends op a = Each (Small batch (not (reads op))) a

  pub done : (b : Bool) (n k : ℕ) (placed : List Placed) → n ≤ 128 → k ≤ 21680 → Fits batch n k placed → Small batch b (settled replies.Ok placed)
  done b n k placed low short fits = record { fits = fits_most n 128 k 21680 placed low short fits; reply = λ _. refl }

  -- ---- updates

  pub deletes : (d : Fid) (seen : Seen) (x : List ℕ) → IsFid d → IsName x → Spells batch (delete_update batch (entry_in targets d seen x).1 x)
  deletes d seen x is name = spell batch kind.Delete (entry_in targets d seen x).1 _ small refl (entry_fid targets one few d (laid seen.body.layout) x is) (p_name x name)

  pub inserts : (d : Fid) (seen : Seen) (x : List ℕ) (c : Fid) → IsFid d → IsName x → Spells batch (insert_update batch (entry_in targets d seen x).1 x c)
  inserts d seen x c is name = spell batch kind.Insert (entry_in targets d seen x).1 _ small refl (entry_fid targets one few d (laid seen.body.layout) x is) (p_entry x c name)

  pub destroys : (f : Fid) → IsFid f → Spells batch (destroy_of batch f)
  destroys f is = spell batch kind.Destroy f [] small refl is p_none

  -- ---- operations

  new_ends : (b : Bool) (p : Fid) (x : List ℕ) (f : Fid) (outcome : Seen → Outcome) → ((s : Seen) → Small batch b (outcome s)) → Each (Small batch b) (new_asks p x f outcome)
  new_ends b p x f outcome h =
      each_directory p _ (λ s. each_entry p _ x _ (λ c _. each_check (taken_fault c) _ (λ _. each_node f _ (λ n. each_check (taken_fault n) _ (λ _. each_settle _ (h s))))))

  pub create_ends : (p : Fid) (x : List ℕ) (f : Fid) → IsFid p → IsName x → IsFid f → Ends (ops.Create p x f) (asks targets batch (ops.Create p x f))
  create_ends p x f is name fid =
      each_check (client_fault targets f) _ (λ _. new_ends true p x f _ (λ s. done true 2 408 _ (omega arith) (omega arith)
      (fits_one (node_place targets f) (create_update batch f file_body) 1 320 _ (spell batch kind.Create f _ small refl fid p_file)
      (fits_one (entry_in targets p s x).0 (insert_update batch (entry_in targets p s x).1 x f) 0 0 [] (inserts p s x f is name) fits_none))))

  pub mkdir_ends : (p : Fid) (x : List ℕ) (f : Fid) (z : Option (ℕ × ℕ)) → IsFid p → IsName x → IsFid f → Ends (ops.Mkdir p x f z) (asks targets batch (ops.Mkdir p x f z))
  mkdir_ends p x f z is name fid =
      each_check (client_fault targets f) _ (λ client. each_check (layout_fault targets z) _ (λ right. let lay = first_lay targets z few right in
      new_ends true p x f _ (λ s. done true 18 1816 _ (omega arith) (omega arith)
      (fits_one (node_place targets f) (create_update batch f (directory_body p (first_layout z))) 17 1728 _ (spell batch kind.Create f _ small refl fid (p_directory p (first_layout z) is lay))
      (fits_join 16 1 1408 320 _ _ (made_fit targets one few batch small f (laid (first_layout z)) fid (client_of targets f client) lay.few lay.wide)
      (fits_one (entry_in targets p s x).0 (insert_update batch (entry_in targets p s x).1 x f) 0 0 [] (inserts p s x f is name) fits_none))))))

  pub link_ends : (p : Fid) (x : List ℕ) (f : Fid) → IsFid p → IsName x → IsFid f → Ends (ops.Link p x f) (asks targets batch (ops.Link p x f))
  link_ends p x f is name fid =
      each_directory p _ (λ s. each_entry p _ x _ (λ c _. each_check (taken_fault c) _ (λ _. each_node f _ (λ n. each_check (link_fault n) _ (λ _. each_settle _ (done true 2 352 _ (omega arith) (omega arith)
      (fits_one (node_place targets f) (ref_add_update batch f) 1 320 _ (spell batch kind.RefAdd f [] small refl fid p_none)
      (fits_one (entry_in targets p s x).0 (insert_update batch (entry_in targets p s x).1 x f) 0 0 [] (inserts p s x f is name) fits_none))))))))

  pub unlink_ends : (p : Fid) (x : List ℕ) → IsFid p → IsName x → Ends (ops.Unlink p x) (asks targets batch (ops.Unlink p x))
  unlink_ends p x is name =
      each_directory p _ (λ s. each_entry p _ x _ (λ c told. each_found c _ told (λ f fid. each_node f _ (λ n. each_check (if is_dir_seen n then Some EISDIR else None) _ (λ _. each_settle _ (done true 2 328 _ (omega arith) (omega arith)
      (fits_one (entry_in targets p s x).0 (delete_update batch (entry_in targets p s x).1 x) 1 32 _ (deletes p s x is name)
      (fits_one (node_place targets f) (ref_del_update batch f) 0 0 [] (spell batch kind.RefDel f [] small refl fid p_none) fits_none))))))))

  pub rmdir_ends : (p : Fid) (x : List ℕ) → IsFid p → IsName x → Ends (ops.Rmdir p x) (asks targets batch (ops.Rmdir p x))
  rmdir_ends p x is name =
      each_directory p _ (λ s. each_entry p _ x _ (λ c told. each_found c _ told (λ f fid. each_node f _ (λ n. each_as n _ (λ old. each_empty f _ _ (λ b. each_check (empty_fault b) _ (λ _. each_settle _ (done true 18 840 _ (omega arith) (omega arith)
      (fits_one (entry_in targets p s x).0 (delete_update batch (entry_in targets p s x).1 x) 17 544 _ (deletes p s x is name)
      (fits_join 16 1 512 32 _ _ (gone_fit targets one few batch small f (laid old.body.layout) fid)
      (fits_one (node_place targets f) (destroy_of batch f) 0 0 [] (destroys f fid) fits_none)))))))))))

  pub setattr_ends : (f : Fid) (m u g : ℕ) → IsFid f → Ends (ops.SetAttr f m u g) (asks targets batch (ops.SetAttr f m u g))
  setattr_ends f m u g is =
      each_node f _ (λ n. each_check (absent_fault n) _ (λ _. each_settle _ (done true 1 56 _ (omega arith) (omega arith)
      (fits_one (node_place targets f) (attr_set_update batch f m u g) 0 0 [] (spell batch kind.AttrSet f _ small refl is (p_attributes m u g)) fits_none))))

  pub setxattr_ends : (f : Fid) (x v : List ℕ) → IsFid f → IsName x → length v ≤ 4096 → Ends (ops.SetXattr f x v) (asks targets batch (ops.SetXattr f x v))
  setxattr_ends f x v is name short =
      each_node f _ (λ n. each_there n _ (λ s. each_value f x _ (λ old. each_check (space_fault s old) _ (λ _. each_settle _ (done true 1 4400 _ (omega arith) (omega arith)
      (fits_one (node_place targets f) (xattr_set_update batch f x v) 0 0 [] (spell batch kind.XattrSet f _ small refl is (p_value x v name short)) fits_none))))))

  pub delxattr_ends : (f : Fid) (x : List ℕ) → IsFid f → IsName x → Ends (ops.DelXattr f x) (asks targets batch (ops.DelXattr f x))
  delxattr_ends f x is name =
      each_node f _ (λ n. each_there n _ (λ s. each_value f x _ (λ old. each_check (if is_some old then None else Some ENODATA) _ (λ _. each_settle _ (done true 1 296 _ (omega arith) (omega arith)
      (fits_one (node_place targets f) (xattr_del_update batch f x) 0 0 [] (spell batch kind.XattrDel f _ small refl is (p_name x name)) fits_none))))))

  -- ---- a read changes nothing

  read_small : (o : Outcome) → o.placed ≡ [] → Small batch false o
  read_small o e = record { fits = subst (λ placed. Fits batch 128 21680 placed) (sym e) (fits_most 0 128 0 21680 [] (omega arith) (omega arith) fits_none); reply = λ h. absurd (cc) }

  pub lookup_ends : (p : Fid) (x : List ℕ) → Ends (ops.Lookup p x) (asks targets batch (ops.Lookup p x))
  lookup_ends p x = each_directory p _ (λ s. each_entry p _ x _ (λ c told. each_found c _ told (λ f _. each_settle _ (read_small (settled (replies.Fid f) []) refl))))

  pub getattr_ends : (f : Fid) → Ends (ops.GetAttr f) (asks targets batch (ops.GetAttr f))
  getattr_ends f = each_node f _ (λ n. each_there n _ (λ s. each_settle _ (read_small (settled (attr_reply s) []) refl)))

  pub getxattr_ends : (f : Fid) (x : List ℕ) → Ends (ops.GetXattr f x) (asks targets batch (ops.GetXattr f x))
  getxattr_ends f x = each_node f _ (λ n. each_there n _ (λ s. each_value f x _ by_value))
    where
      by_value : (v : Option (List ℕ)) → Each (Small batch false) (found_value v)
      by_value None = record { all = tt }
      by_value (Some v) = each_settle _ (read_small (settled (replies.Value v) []) refl)
