-- Worked scenarios, by what stands after each change.
use Rattle.std.proofs.Common.{◌≡◌, inl, ⊎_elim, ℕ, suc, true, false, cond, if◌then◌else◌, nat_lt, Option, Some, None, List, [], ◌∷◌, codes, refl, sym, ap, ◌∙◌, subst}
use Rattle.std.specs.Ordering.{eq_by_cmp}
use Rattle.std.specs.Option.{unwrap_or}
use Rattle.std.specs.FinMap.{get, insert, len, empty, get-empty, get-insert, len-empty}
use Rattle.fid_space.specs.declared.fid.Fid.{Fid}
use Rattle.fid_space.specs.Places.{place_of}
use Rattle.tree_model.specs.declared.node.Node.{Node}
use Rattle.tree_model.specs.declared.op.Op.{Op}
use Rattle.tree_model.specs.declared.op.Op.TheVariants as ops
use Rattle.tree_model.specs.declared.reply.Reply.TheVariants as replies
use Rattle.tree_model.specs.declared.errno.Errno.{Errno}
use Rattle.tree_model.specs.declared.errno.Errno.TheVariants.{ENOTDIR, EINVAL, EFBIG}
use Rattle.tree_model.specs.Tree.{Tree, Names, base, fid_cmp, name_cmp, same_fid, names_of, named, root_fid, root_node, file_node, directory_in}
use Rattle.tree_model.specs.Changes.{Change, PutNode, PutName, NewLayout, NextLayout, MoveNames, changed_all}
use Rattle.tree_model.specs.Step.{checked, op_fault, op_changes, first_fault, client_fault, layout_fault, parent_fault, taken_fault, absent_fault, stripes_fault, create_fault, migrate_fault, changed_node}
use Rattle.tree_model.specs.Keys.{NodeKey, NameKey, Layout, Laid, plain_layout, layout_at, layout_with, laid_base, laid_after, laid_after_all, keys_of_all}
use Rattle.tree_model.specs.Looks.{AskNode, AskName, Decide, check, asked, looks, changes, writes}
use Rattle.tree_model.specs.Participants.{home_of, with_place}
use Rattle.tree_model.specs.Striped.{fnv1a_64, entry_place, with_stripes, with_changes, on}
use Rattle.tree_model.specs.Kept.{laid_step, laid_of, IsFree, Misses, MissesAll, IsKept}
use Rattle.tree_model.specs.Laws.{unless}
use Rattle.tree_model.specs.Effects.{node_after, names_after, layout_after}
use Rattle.tree_model.specs.Worked.{these, file_fid, other_fid, directory_fid, striped_fid, mkdir_elsewhere, striped_mkdir, create_in_stripe, first_migrate, second_migrate, striped, migrated, migrated_twice, two_files, file_behind_setattr, never_done}
use Rattle.tree_model.proofs.Maps.{fids_total, names_total}
use Rattle.tree_model.proofs.Deciding.{changes_decided}
use Rattle.tree_model.proofs.Writing.{nodes_after_is, names_after_is, layouts_after_is}

-- WHAT STANDS AFTER MANY CHANGES

abbrev nodes_through : List Change → Fid → Option Node → Option Node
nodes_through [] f o = o
nodes_through (c ∷ cs) f o = nodes_through cs f (node_after c f o)

abbrev names_through : List Change → Fid → Names → Names
names_through [] d m = m
names_through (c ∷ cs) d m = names_through cs d (names_after c d m)

abbrev layouts_through : List Change → Fid → Layout → Layout
layouts_through [] f lay = lay
layouts_through (c ∷ cs) f lay = layouts_through cs f (layout_after c f lay)

node_at : (l : Laid) (cs : List Change) (f : Fid) → get (laid_after_all l cs).tree.nodes f ≡ nodes_through cs f (get l.tree.nodes f)
node_at l [] f = refl
node_at l (c ∷ cs) f = node_at (laid_after l c) cs f ∙ ap (nodes_through cs f) (nodes_after_is l.tree c f)

names_at : (l : Laid) (cs : List Change) (d : Fid) → names_of (laid_after_all l cs).tree d ≡ names_through cs d (names_of l.tree d)
names_at l [] d = refl
names_at l (c ∷ cs) d = names_at (laid_after l c) cs d ∙ ap (names_through cs d) (names_after_is l.tree c d)

lay_at : (l : Laid) (cs : List Change) (f : Fid) → layout_at (laid_after_all l cs) f ≡ layouts_through cs f (layout_at l f)
lay_at l [] f = refl
lay_at l (c ∷ cs) f = lay_at (laid_after l c) cs f ∙ ap (layouts_through cs f) (layouts_after_is l c f)

-- WHAT STANDS IN THE FIRST TREE

base_node : (f : Fid) → get base.nodes f ≡ cond (eq_by_cmp fid_cmp f root_fid) (Some root_node) None
base_node f = get-insert fids_total empty root_fid root_node f ∙ ap (cond (eq_by_cmp fid_cmp f root_fid) (Some root_node)) (get-empty fid_cmp f)

base_names : (d : Fid) → names_of base d ≡ empty
base_names d = ap (λ o. unwrap_or o empty) (get-empty {X = Names} fid_cmp d)

base_name : (d : Fid) (x : List ℕ) → named base d x ≡ None
base_name d x = ap (λ (m : Names). get m x) (base_names d) ∙ get-empty {X = Fid} name_cmp x

base_layout : (f : Fid) → layout_at laid_base f ≡ plain_layout
base_layout f = ap (λ o. unwrap_or o plain_layout) (get-empty {X = Layout} fid_cmp f)

-- ACCEPTED OPERATIONS

accepted : (t : Tree) (op : Op) → op_fault 8 t op ≡ None → changes 8 t op ≡ op_changes t op
accepted t op none = changes_decided 8 t op ∙ ap (λ f. unless f (op_changes t op)) none

-- a node is made where nothing is in the way
free : (t : Tree) (p : Fid) (x : List ℕ) (f : Fid) (s : Option (ℕ × ℕ)) (n : Node) → client_fault 8 f ≡ None → layout_fault 8 s ≡ None → get t.nodes p ≡ Some n → n.dir ≡ true
    → named t p x ≡ None → get t.nodes f ≡ None → create_fault 8 t p x f s ≡ None
free t p x f s n client laid parent dir absent new =
    let is_directory : parent_fault (get t.nodes p) ≡ None = ap parent_fault parent ∙ ap (λ b. if b then None else Some ENOTDIR) dir in
    λ i. first_fault (client i) (first_fault (laid i) (first_fault (is_directory i) (first_fault (taken_fault (absent i)) (taken_fault (new i)))))

-- a directory without names is migrated
empty_moves : (t : Tree) (d : Fid) (count index : ℕ) → get t.nodes d ≡ Some (directory_in root_fid) → names_of t d ≡ empty → same_fid d root_fid ≡ false → stripes_fault 8 count index ≡ None
    → migrate_fault 8 t d count index ≡ None
empty_moves t d count index there none other fits =
    let few : (if nat_lt 32 (len (names_of t d)) then Some EFBIG else None) ≡ None = ap (λ (m : Names). if nat_lt 32 (len m) then Some EFBIG else None) none ∙ ap (λ n. if nat_lt 32 n then Some EFBIG else None) (len-empty name_cmp Fid) in
    let away : (if same_fid d root_fid then Some EINVAL else stripes_fault 8 count index) ≡ None = ap (λ b. if b then Some EINVAL else stripes_fault 8 count index) other ∙ fits in
    λ i. first_fault (parent_fault (there i)) (first_fault (away i) (few i))

-- THE DIRECTORIES

made_free : (x : List ℕ) (f : Fid) (s : Option (ℕ × ℕ)) → client_fault 8 f ≡ None → layout_fault 8 s ≡ None → get base.nodes f ≡ None → create_fault 8 base root_fid x f s ≡ None
made_free x f s client laid new = free base root_fid x f s root_node client laid (base_node root_fid) refl (base_name root_fid x) new

-- the targets of a node that is made with its name, and of stripes that are changed
made_on : (l : Laid) (p : Fid) (x : List ℕ) (f : Fid) (n : Node) (rest : List Change) (set : ℕ) (lay : Layout) → layout_at l p ≡ lay
    → with_changes 8 l set (PutNode f n ∷ PutName p x f ∷ rest) ≡ with_changes 8 l (with_place (with_place set (place_of 8 f)) (entry_place 8 p lay x)) rest
made_on l p x f n rest set lay is = ap (λ (k : Layout). with_changes 8 l (with_place (with_place set (place_of 8 f)) (entry_place 8 p k x)) rest) is

moved_on : (l : Laid) (d : Fid) (count index set : ℕ) (lay : Layout) → layout_at l d ≡ lay
    → with_changes 8 l set (NextLayout d count index ∷ MoveNames d ∷ []) ≡ with_stripes 8 (with_stripes 8 (with_place set (place_of 8 d)) lay lay.count) (layout_with count index 0) count
moved_on l d count index set lay is = ap (λ (k : Layout). with_stripes 8 (with_stripes 8 (with_place set (place_of 8 d)) k k.count) (layout_with count index 0) count) is

home : Op → ℕ
home op = with_place 0 (home_of 8 op)

pub on_elsewhere : on 8 laid_base mkdir_elsewhere ≡ these (0 ∷ 3 ∷ [])
unfolding home
on_elsewhere =
    ap (with_changes 8 laid_base (home mkdir_elsewhere)) (accepted base mkdir_elsewhere (made_free (codes "d") directory_fid None refl refl (base_node directory_fid)))
    ∙ made_on laid_base root_fid (codes "d") directory_fid (directory_in root_fid) (NewLayout directory_fid 0 0 ∷ []) (home mkdir_elsewhere) plain_layout (base_layout root_fid)

first_change : changes 8 base striped_mkdir ≡ op_changes base striped_mkdir
first_change = accepted base striped_mkdir (made_free (codes "s") striped_fid (Some (2, 4)) refl refl (base_node striped_fid))

pub on_striped : on 8 laid_base striped_mkdir ≡ these (0 ∷ 1 ∷ 4 ∷ 5 ∷ [])
unfolding home
on_striped =
    ap (with_changes 8 laid_base (home striped_mkdir)) first_change
    ∙ made_on laid_base root_fid (codes "s") striped_fid (directory_in root_fid) (NewLayout striped_fid 2 4 ∷ []) (home striped_mkdir) plain_layout (base_layout root_fid)

-- with the striped directory
abbrev one : Laid
one = laid_after_all laid_base (op_changes base striped_mkdir)

one_is : laid_of 8 striped ≡ one
one_is = ap (laid_after_all laid_base) first_change

one_root : get one.tree.nodes root_fid ≡ Some root_node
one_root = node_at laid_base (op_changes base striped_mkdir) root_fid ∙ base_node root_fid

one_node : get one.tree.nodes striped_fid ≡ Some (directory_in root_fid)
one_node = node_at laid_base (op_changes base striped_mkdir) striped_fid

one_file : get one.tree.nodes file_fid ≡ None
one_file = node_at laid_base (op_changes base striped_mkdir) file_fid ∙ base_node file_fid

one_names : names_of one.tree striped_fid ≡ empty
one_names = names_at laid_base (op_changes base striped_mkdir) striped_fid ∙ base_names striped_fid

one_layout : layout_at one striped_fid ≡ record { count = 2; start = 4; generation = 0 }
one_layout = lay_at laid_base (op_changes base striped_mkdir) striped_fid

in_one : create_fault 8 one.tree striped_fid (codes "x") file_fid None ≡ None
in_one =
    let absent : named one.tree striped_fid (codes "x") ≡ None = ap (λ (m : Names). get m (codes "x")) one_names ∙ get-empty {X = Fid} name_cmp (codes "x") in
    free one.tree striped_fid (codes "x") file_fid None (directory_in root_fid) refl refl one_node refl absent one_file

pub on_create : on 8 (laid_of 8 striped) create_in_stripe ≡ these (1 ∷ 2 ∷ 5 ∷ [])
unfolding home fnv1a_64
on_create =
    ap (λ l. on 8 l create_in_stripe) one_is
    ∙ ap (with_changes 8 one (home create_in_stripe)) (accepted one.tree create_in_stripe in_one)
    ∙ made_on one striped_fid (codes "x") file_fid file_node [] (home create_in_stripe) (record { count = 2; start = 4; generation = 0 }) one_layout

second_change : changes 8 one.tree first_migrate ≡ NextLayout striped_fid 1 7 ∷ MoveNames striped_fid ∷ []
second_change = accepted one.tree first_migrate (empty_moves one.tree striped_fid 1 7 one_node one_names refl refl)

pub on_migrate : on 8 (laid_of 8 striped) first_migrate ≡ these (1 ∷ 4 ∷ 5 ∷ 7 ∷ [])
unfolding home
on_migrate =
    ap (λ l. on 8 l first_migrate) one_is
    ∙ ap (with_changes 8 one (home first_migrate)) second_change
    ∙ moved_on one striped_fid 1 7 (home first_migrate) (record { count = 2; start = 4; generation = 0 }) one_layout

-- LAYOUTS

abbrev two : Laid
two = laid_after_all one (NextLayout striped_fid 1 7 ∷ MoveNames striped_fid ∷ [])

two_is : laid_of 8 migrated ≡ two
two_is = ap (λ l. laid_step 8 l first_migrate) one_is ∙ ap (laid_after_all one) second_change

two_layout : layout_at two striped_fid ≡ record { count = 1; start = 7; generation = 1 }
two_layout = lay_at one (NextLayout striped_fid 1 7 ∷ MoveNames striped_fid ∷ []) striped_fid ∙ ap (λ (lay : Layout). layout_with 1 7 (suc lay.generation)) one_layout

third_change : changes 8 two.tree second_migrate ≡ NextLayout striped_fid 0 0 ∷ MoveNames striped_fid ∷ []
third_change = accepted two.tree second_migrate (empty_moves two.tree striped_fid 0 0 one_node one_names refl refl)

abbrev three : Laid
three = laid_after_all two (NextLayout striped_fid 0 0 ∷ MoveNames striped_fid ∷ [])

three_is : laid_of 8 migrated_twice ≡ three
three_is = ap (λ l. laid_step 8 l second_migrate) two_is ∙ ap (laid_after_all two) third_change

pub laid_striped : layout_at (laid_of 8 striped) striped_fid ≡ record { count = 2; start = 4; generation = 0 }
laid_striped = ap (λ l. layout_at l striped_fid) one_is ∙ one_layout

pub laid_once : layout_at (laid_of 8 migrated) striped_fid ≡ record { count = 1; start = 7; generation = 1 }
laid_once = ap (λ l. layout_at l striped_fid) two_is ∙ two_layout

pub laid_twice : layout_at (laid_of 8 migrated_twice) striped_fid ≡ record { count = 0; start = 0; generation = 2 }
laid_twice =
    ap (λ l. layout_at l striped_fid) three_is
    ∙ lay_at two (NextLayout striped_fid 0 0 ∷ MoveNames striped_fid ∷ []) striped_fid ∙ ap (λ (lay : Layout). layout_with 0 0 (suc lay.generation)) two_layout

-- PARTS OF HISTORIES

-- a file that is made in the root
abbrev create : List ℕ → Fid → Op
create x f = ops.Create root_fid x f

file_free : create_fault 8 base root_fid (codes "f") file_fid None ≡ None
file_free = made_free (codes "f") file_fid None refl refl (base_node file_fid)

other_free : create_fault 8 base root_fid (codes "g") other_fid None ≡ None
other_free = made_free (codes "g") other_fid None refl refl (base_node other_fid)

file_made : changes 8 base (create (codes "f") file_fid) ≡ PutNode file_fid file_node ∷ PutName root_fid (codes "f") file_fid ∷ []
file_made = accepted base (create (codes "f") file_fid) file_free

abbrev with_file : Laid
with_file = laid_after_all laid_base (PutNode file_fid file_node ∷ PutName root_fid (codes "f") file_fid ∷ [])

-- what the second file's operation looks at behind the first one's
other_looks : looks 8 with_file.tree (create (codes "g") other_fid) ≡ NodeKey root_fid ∷ NameKey root_fid (codes "g") ∷ NodeKey other_fid ∷ []
other_looks =
    let node : get with_file.tree.nodes root_fid ≡ Some root_node = node_at laid_base (PutNode file_fid file_node ∷ PutName root_fid (codes "f") file_fid ∷ []) root_fid ∙ base_node root_fid in
    let names : names_of with_file.tree root_fid ≡ insert empty (codes "f") file_fid =
    names_at laid_base (PutNode file_fid file_node ∷ PutName root_fid (codes "f") file_fid ∷ []) root_fid ∙ ap (λ (m : Names). insert m (codes "f") file_fid) (base_names root_fid) in
    let name : named with_file.tree root_fid (codes "g") ≡ None =
    ap (λ (m : Names). get m (codes "g")) names ∙ get-insert names_total empty (codes "f") file_fid (codes "g") ∙ get-empty {X = Fid} name_cmp (codes "g") in
    ap (λ o. NodeKey root_fid ∷ asked (check (parent_fault o) (AskName root_fid (codes "g") (λ there. check (taken_fault there) (AskNode other_fid (λ n. check (taken_fault n) (Decide replies.Ok (PutNode other_fid file_node ∷ PutName root_fid (codes "g") other_fid ∷ []))))))) with_file.tree) node
    ∙ ap (λ o. NodeKey root_fid ∷ NameKey root_fid (codes "g") ∷ asked (check (taken_fault o) (AskNode other_fid (λ n. check (taken_fault n) (Decide replies.Ok (PutNode other_fid file_node ∷ PutName root_fid (codes "g") other_fid ∷ []))))) with_file.tree) name
    ∙ last_asked (taken_fault (get with_file.tree.nodes other_fid))
  where
    last_asked : (fault : Option Errno)
        → NodeKey root_fid ∷ NameKey root_fid (codes "g") ∷ NodeKey other_fid ∷ asked (check fault (Decide replies.Ok (PutNode other_fid file_node ∷ PutName root_fid (codes "g") other_fid ∷ []))) with_file.tree
        ≡ NodeKey root_fid ∷ NameKey root_fid (codes "g") ∷ NodeKey other_fid ∷ []
    last_asked None = refl
    last_asked (Some e) = refl

apart : IsFree 8 base (create (codes "f") file_fid) (laid_step 8 laid_base (create (codes "f") file_fid)).tree (create (codes "g") other_fid)
apart =
    let computed : MissesAll (NodeKey file_fid ∷ NameKey root_fid (codes "f") ∷ []) (NodeKey root_fid ∷ NameKey root_fid (codes "g") ∷ NodeKey other_fid ∷ []) = ((refl, (refl, tt)), ((refl, (refl, tt)), ((refl, (refl, tt)), tt))) in
    let looked = subst (λ ks. MissesAll (NodeKey file_fid ∷ NameKey root_fid (codes "f") ∷ []) ks) (sym other_looks) computed in
    subst (λ cs. MissesAll (keys_of_all cs) (looks 8 (laid_after_all laid_base cs).tree (create (codes "g") other_fid))) (sym file_made) looked

pub kept : IsKept 8 two_files (2 ∷ []) (false ∷ true ∷ [])
kept = record {
  legal = (ap (λ f. (checked f base (changed_all base (op_changes base (create (codes "g") other_fid)), replies.Ok)).1) (sym other_free), tt, tt);
  holds = (inl refl, tt);
  closed = ((λ e. (λ f. apart, tt)), ((λ (e : true ≡ false). absurd cc), tt));
}

pub lost : IsKept 8 two_files (2 ∷ []) (true ∷ false ∷ []) → ⊥
lost k = ⊎_elim (λ (e : 1 ≡ 2). cc) (λ none. none) k.holds.0

set_made : writes 8 base (ops.SetAttr root_fid 0o700 0 0) ≡ NodeKey root_fid ∷ []
set_made =
    let there = base_node root_fid in
    let change : Node → Node = λ n. record n { mode = 0o700; uid = 0; gid = 0 } in
    ap keys_of_all (accepted base (ops.SetAttr root_fid 0o700 0 0) (ap absent_fault there)) ∙ ap (λ o. keys_of_all (changed_node root_fid o change)) there

pub dependent : IsKept 8 file_behind_setattr (2 ∷ []) (false ∷ true ∷ []) → ⊥
dependent k =
    let free_of = k.closed.0 refl in
    let met : Misses (NodeKey root_fid ∷ []) (NodeKey root_fid) = subst (λ ws. Misses ws (NodeKey root_fid)) set_made (free_of.0 refl).0 in
    let no : true ≡ false = met.0 in
    absurd cc

pub illegal : IsKept 8 never_done (1 ∷ []) (true ∷ []) → ⊥
illegal k =
    let no : replies.Ok ≡ replies.Err EINVAL = k.legal.0 in
    absurd cc
