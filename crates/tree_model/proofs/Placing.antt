-- An operation looks at each node whose layout says where its changes stand.
use Rattle.std.proofs.Common.{◌≡◌, ◌||◌, ◌&&◌, ◌+◌, ◌-◌, ◌⊎◌, inl, inr, ⊎_elim, ℕ, zero, suc, Bool, true, false, not, nat_le, nat_lt, if◌then◌else◌, Option, Some, None, List, [], ◌∷◌, ◌++◌, refl, ap, ◌∙◌, subst}
use Rattle.std.specs.List.{AllByRecursion}
use Rattle.std.specs.FinMap.{get, insert, remove, len}
use Rattle.fid_space.specs.declared.fid.Fid.{Fid}
use Rattle.tree_model.specs.declared.node.Node.{Node}
use Rattle.tree_model.specs.declared.op.Op.{Op}
use Rattle.tree_model.specs.declared.op.Op.TheVariants as ops
use Rattle.tree_model.specs.declared.reply.Reply.{Reply}
use Rattle.tree_model.specs.declared.reply.Reply.TheVariants as replies
use Rattle.tree_model.specs.declared.errno.Errno.{Errno}
use Rattle.tree_model.specs.Tree.{Tree, Names, names_of, named, same_fid, root_fid, directory_in, file_node}
use Rattle.tree_model.specs.Changes.{Change, PutNode, DropNode, PutName, DropName, NewLayout, NextLayout, MoveNames}
use Rattle.tree_model.specs.Keys.{Key, NodeKey, NameKey, AllKey, Value, NodeValue, NameValue, AllValue, Layout, Laid, at, layout_at, layout_with, plain_layout}
use Rattle.tree_model.specs.Looks.{Plan, AskNode, AskName, AskAll, Decide, decided, asked, check, found, on_directory, walk, whole_walk, rename_to, replace_plan, move_plan, create_plan, plan, looks, changes}
use Rattle.tree_model.specs.Step.{client_fault, layout_fault, taken_fault, absent_fault, link_fault, file_fault, directory_fault, setxattr_fault, xattr_fault, stripes_fault, attr_reply, xattr_reply, parent_fault, is_dir, kind_fault, empty_fault, same_place, parent_of, released, changed_node, moved_node, new_layout}
use Rattle.tree_model.specs.declared.errno.Errno.TheVariants.{EINVAL, EFBIG}
use Rattle.fid_space.specs.Places.{place_of}
use Rattle.tree_model.specs.Participants.{home_of, with_place}
use Rattle.tree_model.specs.Striped.{layout_keys, layout_keys_all, entry_place, with_stripes, with_change, with_changes, on}
use Rattle.tree_model.proofs.Deciding.{same_plan}
use Rattle.tree_model.specs.Laws.{Among}
use Rattle.tree_model.proofs.Writing.{all_left, all_right}

-- each node whose layout says where a change stands was asked for before, or is by the plan
Covered : List Key → Plan → Tree → Type 0
Covered seen p t = AllByRecursion (λ k. Among seen k ⊎ Among (asked p t) k) (layout_keys_all (decided p t).1)

all_map : {A : Type 0} (P Q : A → Type 0) (xs : List A) → ((x : A) → P x → Q x) → AllByRecursion P xs → AllByRecursion Q xs
all_map P Q [] f h = tt
all_map P Q (x ∷ xs) f h = (f x h.0, all_map P Q xs f h.1)

moved_on : (seen : List Key) (j : Key) (more : List Key) (k : Key) → Among (j ∷ seen) k ⊎ Among more k → Among seen k ⊎ Among (j ∷ more) k
moved_on seen j more k h = ⊎_elim (λ a. ⊎_elim (λ e. inr (inl e)) (λ s. inl s) a) (λ m. inr (inr m)) h

ask_node : (seen : List Key) (f : Fid) (next : Option Node → Plan) (t : Tree) → Covered (NodeKey f ∷ seen) (next (get t.nodes f)) t → Covered seen (AskNode f next) t
unfolding Covered
ask_node seen f next t h = all_map (λ k. Among (NodeKey f ∷ seen) k ⊎ Among (asked (next (get t.nodes f)) t) k) (λ k. Among seen k ⊎ Among (NodeKey f ∷ asked (next (get t.nodes f)) t) k) (layout_keys_all (decided (next (get t.nodes f)) t).1) (moved_on seen (NodeKey f) (asked (next (get t.nodes f)) t)) h

ask_name : (seen : List Key) (d : Fid) (x : List ℕ) (next : Option Fid → Plan) (t : Tree) → Covered (NameKey d x ∷ seen) (next (named t d x)) t → Covered seen (AskName d x next) t
unfolding Covered
ask_name seen d x next t h = all_map (λ k. Among (NameKey d x ∷ seen) k ⊎ Among (asked (next (named t d x)) t) k) (λ k. Among seen k ⊎ Among (NameKey d x ∷ asked (next (named t d x)) t) k) (layout_keys_all (decided (next (named t d x)) t).1) (moved_on seen (NameKey d x) (asked (next (named t d x)) t)) h

ask_all : (seen : List Key) (d : Fid) (next : Names → Plan) (t : Tree) → Covered (AllKey d ∷ seen) (next (names_of t d)) t → Covered seen (AskAll d next) t
unfolding Covered
ask_all seen d next t h = all_map (λ k. Among (AllKey d ∷ seen) k ⊎ Among (asked (next (names_of t d)) t) k) (λ k. Among seen k ⊎ Among (AllKey d ∷ asked (next (names_of t d)) t) k) (layout_keys_all (decided (next (names_of t d)) t).1) (moved_on seen (AllKey d) (asked (next (names_of t d)) t)) h

checked_on : (seen : List Key) (f : Option Errno) (next : Plan) (t : Tree) → Covered seen next t → Covered seen (check f next) t
unfolding Covered
checked_on seen None next t h = h
checked_on seen (Some e) next t h = tt

decide : (seen : List Key) (r : Reply) (cs : List Change) (t : Tree) → AllByRecursion (λ k. Among seen k) (layout_keys_all cs) → Covered seen (Decide r cs) t
unfolding Covered
decide seen r cs t h = all_map (λ k. Among seen k) (λ k. Among seen k ⊎ ⊥) (layout_keys_all cs) (λ k a. inl a) h

seen_more : (seen : List Key) (j : Key) (p : Plan) (t : Tree) → Covered seen p t → Covered (j ∷ seen) p t
unfolding Covered
seen_more seen j p t h = all_map (λ k. Among seen k ⊎ Among (asked p t) k) (λ k. Among (j ∷ seen) k ⊎ Among (asked p t) k) (layout_keys_all (decided p t).1) (λ k a. ⊎_elim (λ s. inl (inr s)) (λ m. inr m) a) h

nothing : (seen : List Key) (r : Reply) (t : Tree) → Covered seen (Decide r []) t
unfolding Covered
nothing seen r t = tt

either : (seen : List Key) (b : Bool) (p q : Plan) (t : Tree) → Covered seen p t → Covered seen q t → Covered seen (if b then p else q) t
either seen true p q t h k = h
either seen false p q t h k = k

walked : (seen : List Key) (n : ℕ) (m f : Fid) (next : Plan) (t : Tree) → Covered seen next t → Covered seen (walk n m f next) t
walked seen zero m f next t h = either seen (same_fid f root_fid) next _ t h (either seen (same_fid f m) _ _ t (nothing seen _ t) (nothing seen _ t))
walked seen (suc n) m f next t h =
    either seen (same_fid f root_fid) next _ t h (either seen (same_fid f m) _ _ t (nothing seen _ t)
    (ask_node seen f _ t (walked (NodeKey f ∷ seen) n m (parent_of (get t.nodes f)) next t (seen_more seen (NodeKey f) next t h))))

whole : (seen : List Key) (m f : Fid) (next : Plan) (t : Tree) → Covered seen next t → Covered seen (whole_walk m f next) t
unfolding whole_walk
whole seen m f next t h = walked seen 1023 m f next t h

-- KEYS OF CHANGES

all_append : {A : Type 0} (P : A → Type 0) (xs ys : List A) → AllByRecursion P xs → AllByRecursion P ys → AllByRecursion P (xs ++ ys)
all_append P [] ys h k = k
all_append P (x ∷ xs) ys h k = (h.0, all_append P xs ys h.1 k)

written_append : (seen : List Key) (xs ys : List Change) → AllByRecursion (λ k. Among seen k) (layout_keys_all xs) → AllByRecursion (λ k. Among seen k) (layout_keys_all ys)
    → AllByRecursion (λ k. Among seen k) (layout_keys_all (xs ++ ys))
written_append seen [] ys h k = k
written_append seen (x ∷ xs) ys h k =
    all_append (λ k. Among seen k) (layout_keys x) (layout_keys_all (xs ++ ys)) (all_left (λ k. Among seen k) (layout_keys x) (layout_keys_all xs) h)
    (written_append seen xs ys (all_right (λ k. Among seen k) (layout_keys x) (layout_keys_all xs) h) k)

one_or_other : (seen : List Key) (b : Bool) (cs ds : List Change) → AllByRecursion (λ k. Among seen k) (layout_keys_all cs) → AllByRecursion (λ k. Among seen k) (layout_keys_all ds)
    → AllByRecursion (λ k. Among seen k) (layout_keys_all (if b then cs else ds))
one_or_other seen true cs ds h k = h
one_or_other seen false cs ds h k = k

released_written : (seen : List Key) (f : Fid) (node : Option Node) → Among seen (NodeKey f) → AllByRecursion (λ k. Among seen k) (layout_keys_all (released f node))
released_written seen f None a = tt
released_written seen f (Some node) a =
    one_or_other seen (node.dir || nat_le node.links 1) (DropNode f ∷ []) (PutNode f (record node { links = node.links - 1 }) ∷ []) (a, tt) tt

changed_written : (seen : List Key) (f : Fid) (node : Option Node) (change : Node → Node) → Among seen (NodeKey f) → AllByRecursion (λ k. Among seen k) (layout_keys_all (changed_node f node change))
changed_written seen f None change a = tt
changed_written seen f (Some node) change a = tt

moved_written : (seen : List Key) (p q f : Fid) (node : Option Node) → Among seen (NodeKey f) → AllByRecursion (λ k. Among seen k) (layout_keys_all (moved_node p q f node))
moved_written seen p q f node a =
    one_or_other seen (is_dir node && not (same_fid p q)) (changed_node f node (λ n. record n { parent = q })) [] (changed_written seen f node (λ n. record n { parent = q }) a) tt

layout_written : (seen : List Key) (f : Fid) (s : Option (ℕ × ℕ)) → Among seen (NodeKey f) → AllByRecursion (λ k. Among seen k) (layout_keys_all (new_layout f s))
layout_written seen f None a = tt
layout_written seen f (Some s) a = tt

-- OPERATIONS

create_covered : (targets : ℕ) (t : Tree) (p : Fid) (x : List ℕ) (f : Fid) (s : Option (ℕ × ℕ)) (cs : List Change)
    → AllByRecursion (λ k. Among (NodeKey f ∷ NameKey p x ∷ NodeKey p ∷ []) k) (layout_keys_all cs) → Covered [] (create_plan targets p x f s cs) t
create_covered targets t p x f s cs h =
    checked_on [] (client_fault targets f) _ t (checked_on [] (layout_fault targets s) _ t (ask_node [] p _ t (checked_on (NodeKey p ∷ []) (parent_fault (get t.nodes p)) _ t
    (ask_name (NodeKey p ∷ []) p x _ t (checked_on (NameKey p x ∷ NodeKey p ∷ []) (taken_fault (named t p x)) _ t (ask_node (NameKey p x ∷ NodeKey p ∷ []) f _ t
    (checked_on (NodeKey f ∷ NameKey p x ∷ NodeKey p ∷ []) (taken_fault (get t.nodes f)) _ t (decide (NodeKey f ∷ NameKey p x ∷ NodeKey p ∷ []) replies.Ok cs t h))))))))

unlink_covered : (seen : List Key) (t : Tree) (p : Fid) (x : List ℕ) (o : Option Fid) → Among seen (NodeKey p)
    → Covered seen (found o (λ child. AskNode child (λ node. check (file_fault node) (Decide replies.Ok (DropName p x ∷ released child node))))) t
unlink_covered seen t p x None a = nothing seen _ t
unlink_covered seen t p x (Some child) a =
    ask_node seen child _ t (checked_on (NodeKey child ∷ seen) (file_fault (get t.nodes child)) _ t
    (decide (NodeKey child ∷ seen) replies.Ok (DropName p x ∷ released child (get t.nodes child)) t (inr a, released_written (NodeKey child ∷ seen) child (get t.nodes child) (inl refl))))

rmdir_covered : (seen : List Key) (t : Tree) (p : Fid) (x : List ℕ) (o : Option Fid) → Among seen (NodeKey p)
    → Covered seen (found o (λ child. AskNode child (λ node. check (directory_fault node) (AskAll child (λ names. check (empty_fault names) (Decide replies.Ok (DropName p x ∷ released child node))))))) t
rmdir_covered seen t p x None a = nothing seen _ t
rmdir_covered seen t p x (Some child) a =
    ask_node seen child _ t (checked_on (NodeKey child ∷ seen) (directory_fault (get t.nodes child)) _ t (ask_all (NodeKey child ∷ seen) child _ t
    (checked_on (AllKey child ∷ NodeKey child ∷ seen) (empty_fault (names_of t child)) _ t
    (decide (AllKey child ∷ NodeKey child ∷ seen) replies.Ok (DropName p x ∷ released child (get t.nodes child)) t
    (inr (inr a), released_written (AllKey child ∷ NodeKey child ∷ seen) child (get t.nodes child) (inr (inl refl)))))))

rename_covered : (seen : List Key) (t : Tree) (p : Fid) (x : List ℕ) (q : Fid) (y : List ℕ) (m : Fid) (node : Option Node) (gone : List Change)
    → Among seen (NodeKey p) → Among seen (NodeKey q) → Among seen (NodeKey m) → AllByRecursion (λ k. Among seen k) (layout_keys_all gone) → Covered seen (rename_to p x q y m node gone) t
rename_covered seen t p x q y m node gone a b c h =
    decide seen replies.Ok (DropName p x ∷ (gone ++ (PutName q y m ∷ moved_node p q m node))) t
    (a, written_append seen gone (PutName q y m ∷ moved_node p q m node) h (b, moved_written seen p q m node c))

replace_covered : (seen : List Key) (t : Tree) (p : Fid) (x : List ℕ) (q : Fid) (y : List ℕ) (m : Fid) (node : Option Node) (o : Option Fid)
    → Among seen (NodeKey p) → Among seen (NodeKey q) → Among seen (NodeKey m) → Covered seen (replace_plan p x q y m node o) t
replace_covered seen t p x q y m node None a b c = rename_covered seen t p x q y m node [] a b c tt
replace_covered seen t p x q y m node (Some old) a b c =
    let other = get t.nodes old in
    let one : List Key = NodeKey old ∷ seen in
    let two : List Key = AllKey old ∷ NodeKey old ∷ seen in
    either seen (same_fid m old) _ _ t (nothing seen _ t)
    (ask_node seen old _ t (checked_on one (kind_fault (is_dir node) (is_dir other)) _ t (either one (is_dir other) _ _ t
    (ask_all one old _ t (checked_on two (empty_fault (names_of t old)) _ t
    (rename_covered two t p x q y m node (released old other) (inr (inr a)) (inr (inr b)) (inr (inr c)) (released_written two old other (inr (inl refl))))))
    (rename_covered one t p x q y m node (released old other) (inr a) (inr b) (inr c) (released_written one old other (inl refl))))))

renames_covered : (seen : List Key) (t : Tree) (p : Fid) (x : List ℕ) (q : Fid) (y : List ℕ) (o : Option Fid) → Among seen (NodeKey p)
    → Covered seen (found o (λ m. on_directory q (if same_place p x q y then Decide replies.Ok [] else AskNode m (move_plan p x q y m)))) t
renames_covered seen t p x q y None a = nothing seen _ t
renames_covered seen t p x q y (Some m) a =
    let node = get t.nodes m in
    let one : List Key = NodeKey q ∷ seen in
    let two : List Key = NodeKey m ∷ NodeKey q ∷ seen in
    let last : Covered two (AskName q y (replace_plan p x q y m node)) t =
    ask_name two q y _ t (replace_covered (NameKey q y ∷ two) t p x q y m node (named t q y) (inr (inr (inr a))) (inr (inr (inl refl))) (inr (inl refl))) in
    ask_node seen q _ t (checked_on one (parent_fault (get t.nodes q)) _ t (either one (same_place p x q y) _ _ t (nothing one _ t)
    (ask_node one m _ t (either two (is_dir node && not (same_fid p q)) _ _ t (whole two m q _ t last) last))))

-- each operation whose first look is a node, and whose change is of that node
node_covered : (t : Tree) (f : Fid) (fault : Option Node → Option Errno) (change : Node → Node)
    → Covered [] (AskNode f (λ node. check (fault node) (Decide replies.Ok (changed_node f node change)))) t
node_covered t f fault change =
    ask_node [] f _ t (checked_on (NodeKey f ∷ []) (fault (get t.nodes f)) _ t
    (decide (NodeKey f ∷ []) replies.Ok (changed_node f (get t.nodes f) change) t (changed_written (NodeKey f ∷ []) f (get t.nodes f) change (inl refl))))

read_covered : (t : Tree) (f : Fid) (fault : Option Node → Option Errno) (reply : Option Node → Reply) → Covered [] (AskNode f (λ node. check (fault node) (Decide (reply node) []))) t
read_covered t f fault reply = ask_node [] f _ t (checked_on (NodeKey f ∷ []) (fault (get t.nodes f)) _ t (nothing (NodeKey f ∷ []) _ t))

-- a name of a directory is asked for
named_covered : (t : Tree) (p : Fid) (x : List ℕ) (next : Option Fid → Plan) → Covered (NameKey p x ∷ NodeKey p ∷ []) (next (named t p x)) t → Covered [] (on_directory p (AskName p x next)) t
named_covered t p x next h = ask_node [] p _ t (checked_on (NodeKey p ∷ []) (parent_fault (get t.nodes p)) _ t (ask_name (NodeKey p ∷ []) p x next t h))

op_covered : (targets : ℕ) (t : Tree) (op : Op) → Covered [] (plan targets op) t
op_covered targets t (ops.Create p x f) = create_covered targets t p x f None (PutNode f file_node ∷ PutName p x f ∷ []) (inr (inr (inl refl)), tt)
op_covered targets t (ops.Mkdir p x f s) =
    create_covered targets t p x f s (PutNode f (directory_in p) ∷ PutName p x f ∷ new_layout f s) (inr (inr (inl refl)), layout_written (NodeKey f ∷ NameKey p x ∷ NodeKey p ∷ []) f s (inl refl))
op_covered targets t (ops.Link p x f) =
    let seen : List Key = NodeKey f ∷ NameKey p x ∷ NodeKey p ∷ [] in
    let change : Node → Node = λ n. record n { links = n.links + 1 } in
    named_covered t p x _ (checked_on (NameKey p x ∷ NodeKey p ∷ []) (taken_fault (named t p x)) _ t (ask_node (NameKey p x ∷ NodeKey p ∷ []) f _ t
    (checked_on seen (link_fault (get t.nodes f)) _ t (decide seen replies.Ok (PutName p x f ∷ changed_node f (get t.nodes f) change) t (inr (inr (inl refl)), changed_written seen f (get t.nodes f) change (inl refl))))))
op_covered targets t (ops.Unlink p x) = named_covered t p x _ (unlink_covered (NameKey p x ∷ NodeKey p ∷ []) t p x (named t p x) (inr (inl refl)))
op_covered targets t (ops.Rmdir p x) = named_covered t p x _ (rmdir_covered (NameKey p x ∷ NodeKey p ∷ []) t p x (named t p x) (inr (inl refl)))
op_covered targets t (ops.Rename p x q y) = named_covered t p x _ (renames_covered (NameKey p x ∷ NodeKey p ∷ []) t p x q y (named t p x) (inr (inl refl)))
op_covered targets t (ops.SetAttr f m u g) = node_covered t f (λ node. absent_fault node) (λ n. record n { mode = m; uid = u; gid = g })
op_covered targets t (ops.SetXattr f x v) = node_covered t f (λ node. setxattr_fault node x) (λ n. record n { xattrs = insert n.xattrs x v })
op_covered targets t (ops.DelXattr f x) = node_covered t f (λ node. xattr_fault node x) (λ n. record n { xattrs = remove n.xattrs x })
op_covered targets t (ops.Migrate d c i) =
    let seen : List Key = AllKey d ∷ NodeKey d ∷ [] in
    ask_node [] d _ t (checked_on (NodeKey d ∷ []) (parent_fault (get t.nodes d)) _ t (checked_on (NodeKey d ∷ []) (if same_fid d root_fid then Some EINVAL else stripes_fault targets c i) _ t
    (ask_all (NodeKey d ∷ []) d _ t (checked_on seen (if nat_lt 32 (len (names_of t d)) then Some EFBIG else None) _ t
    (decide seen replies.Ok (NextLayout d c i ∷ MoveNames d ∷ []) t (inr (inl refl), tt))))))
op_covered targets t (ops.Lookup p x) =
    named_covered t p x _ (checked_on (NameKey p x ∷ NodeKey p ∷ []) (absent_fault (named t p x)) _ t (nothing (NameKey p x ∷ NodeKey p ∷ []) _ t))
op_covered targets t (ops.GetAttr f) = read_covered t f (λ node. absent_fault node) attr_reply
op_covered targets t (ops.GetXattr f x) = read_covered t f (λ node. xattr_fault node x) (λ node. xattr_reply node x)

pub placed_looked : (targets : ℕ) (t : Tree) (op : Op) → AllByRecursion (λ k. Among (looks targets t op) k) (layout_keys_all (changes targets t op))
unfolding Covered
placed_looked targets t op =
    all_map (λ k. Among [] k ⊎ Among (looks targets t op) k) (λ k. Among (looks targets t op) k) (layout_keys_all (changes targets t op)) (λ k h. ⊎_elim (λ none. absurd none) (λ a. a) h) (op_covered targets t op)

layout_of : Value → Layout
layout_of (NodeValue node layout) = layout
layout_of (NameValue fid) = plain_layout
layout_of (AllValue names) = plain_layout

same_change_targets : (targets : ℕ) (l m : Laid) (set : ℕ) (c : Change) → AllByRecursion (λ k. at l k ≡ at m k) (layout_keys c) → with_change targets l set c ≡ with_change targets m set c
unfolding layout_of
same_change_targets targets l m set (PutNode f n) h = refl
same_change_targets targets l m set (DropNode f) h =
    let e : layout_at l f ≡ layout_at m f = ap layout_of h.0 in
    ap (λ lay. with_stripes targets (with_place set (place_of targets f)) lay lay.count) e
same_change_targets targets l m set (PutName d x f) h =
    let e : layout_at l d ≡ layout_at m d = ap layout_of h.0 in
    ap (λ lay. with_place set (entry_place targets d lay x)) e
same_change_targets targets l m set (DropName d x) h =
    let e : layout_at l d ≡ layout_at m d = ap layout_of h.0 in
    ap (λ lay. with_place set (entry_place targets d lay x)) e
same_change_targets targets l m set (NewLayout d c i) h = refl
same_change_targets targets l m set (NextLayout d c i) h =
    let e : layout_at l d ≡ layout_at m d = ap layout_of h.0 in
    ap (λ lay. with_stripes targets (with_stripes targets (with_place set (place_of targets d)) lay lay.count) (layout_with c i 0) c) e
same_change_targets targets l m set (MoveNames d) h = refl

same_targets : (targets : ℕ) (l m : Laid) (set : ℕ) (cs : List Change) → AllByRecursion (λ k. at l k ≡ at m k) (layout_keys_all cs) → with_changes targets l set cs ≡ with_changes targets m set cs
same_targets targets l m set [] h = refl
same_targets targets l m set (c ∷ cs) h =
    ap (λ s. with_changes targets l s cs) (same_change_targets targets l m set c (all_left (λ k. at l k ≡ at m k) (layout_keys c) (layout_keys_all cs) h))
    ∙ same_targets targets l m (with_change targets m set c) cs (all_right (λ k. at l k ≡ at m k) (layout_keys c) (layout_keys_all cs) h)

-- what holds of all keys of a list holds of each among them
held : (P : Key → Type 0) (ks : List Key) (k : Key) → AllByRecursion P ks → Among ks k → P k
held P [] k h a = absurd a
held P (j ∷ ks) k h a = ⊎_elim (λ e. subst P e h.0) (λ b. held P ks k h.1 b) a

pub same_on : (targets : ℕ) (l m : Laid) (op : Op) → AllByRecursion (λ k. at l k ≡ at m k) (looks targets l.tree op) → on targets l op ≡ on targets m op
same_on targets l m op agree =
    let first = with_place 0 (home_of targets op) in
    let there = all_map (λ k. Among (looks targets l.tree op) k) (λ k. at l k ≡ at m k) (layout_keys_all (changes targets l.tree op))
    (λ k a. held (λ k. at l k ≡ at m k) (looks targets l.tree op) k agree a) (placed_looked targets l.tree op) in
    same_targets targets l m first (changes targets l.tree op) there
    ∙ ap (λ (o : Reply × List Change). with_changes targets m first o.1) (same_plan (plan targets op) l m agree).0
