-- Two scenarios through the definitions, down to the bytes.
use Rattle.std.proofs.Common.{◌≡◌, ◌==◌, ℕ, if◌then◌else◌, cond, true, false, Some, None, List, [], ◌∷◌, ◌++◌, length, codes, inl, inr, Bool, ◌||◌, ◌+◌, IsSome, refl, sym, ap, ◌∙◌, subst, arith}
use Rattle.std.specs.declared.cmp.Ordering.{Ordering}
use Rattle.std.specs.Ordering.{eq_by_cmp}
use Rattle.std.specs.List.{flat_map}
use Rattle.std.specs.Fmt.{digits}
use Rattle.std.specs.Option.{unwrap_or}
use Rattle.std.specs.FinMap.{entries, empty, get, len, insert, remove, put, get-empty, get-insert, entries-insert, len-entries, len-empty}
use Rattle.fid_space.specs.declared.fid.Fid.{Fid}
use Rattle.tree_model.specs.declared.node.Node.{Node}
use Rattle.tree_model.specs.declared.op.Op.{Op}
use Rattle.tree_model.specs.declared.op.Op.TheVariants.{Create}
use Rattle.tree_model.specs.declared.op.Request.{Request}
use Rattle.tree_model.specs.declared.reply.Reply.{Reply}
use Rattle.tree_model.specs.declared.reply.Reply.TheVariants as replies
use Rattle.tree_model.specs.Fids.{fid_cmp, name_cmp}
use Rattle.tree_model.specs.Tree.{Tree, Names, base, names_of, named, root_fid, root_node, file_node}
use Rattle.tree_model.specs.Changes.{changed_all, with_names}
use Rattle.tree_model.specs.Step.{step, first_fault, client_fault, layout_fault, parent_fault, taken_fault, create_fault, checked, op_changes}
use Rattle.tree_model.specs.History.{Item, tree_of}
use Rattle.tree_model.specs.Keys.{laid_base}
use Rattle.tree_model.specs.Striped.{on}
use Rattle.tree_model.proofs.OneTarget.{on_one}
use Rattle.tree_model.specs.OpText.{IsPlaced}
use Rattle.tree_model.specs.Names.{IsName}
use Rattle.tree_model.specs.TreeText.{tree_text, tree_head, entry_count, node_text, entry_text, names_text, xattr_text, xattrs_text}
use Rattle.tree_model.proofs.Maps.{fids_total, names_total}
use Rattle.scenario_text.specs.declared.command.Command.TheVariants as commands
use Rattle.scenario_text.specs.declared.line.Line.TheVariants as lines
use Rattle.scenario_text.specs.LineText.{members}
use Rattle.scenario_text.specs.declared.line.Standing.TheVariants.{Serving}
use Rattle.scenario_text.specs.Spelling.{Order}
use Rattle.scenario_text.specs.Machine.{State, Group, Turn, Run, TreeLines, EndLines, is_formatted, serves, start, targets_of, entries_of, scenario, transcript}
use Rattle.scenario_text.specs.Worked.{IsTranscript}

none_of_length : {A : Type 0} (es : List A) → length es ≡ 0 → es ≡ []
none_of_length [] e = refl
none_of_length (x ∷ es) e = absurd (omega arith)

entries_empty : {K X : Type 0} (R : K → K → Ordering) → entries (empty {X = X} {R = R}) ≡ []
entries_empty {X = X} R = none_of_length _ (sym (len-entries (empty {X = X} {R = R})) ∙ len-empty R X)

-- the text of a tree with these entries
text_of : (t : Tree) (nodes : List (Fid × Node)) (names : List (Fid × Names)) → entries t.nodes ≡ nodes → entries t.entries ≡ names
    → tree_text t ≡ tree_head (length nodes) (entry_count names) ++ (flat_map node_text nodes ++ (flat_map names_text names ++ flat_map xattrs_text nodes))
unfolding tree_text
text_of t nodes names e f =
    let m : len t.nodes ≡ length nodes = len-entries t.nodes ∙ ap length e in
    λ i. tree_head (m i) (entry_count (f i)) ++ (flat_map node_text (e i) ++ (flat_map names_text (f i) ++ flat_map xattrs_text (e i)))

base_nodes : entries base.nodes ≡ (root_fid, root_node) ∷ []
base_nodes = entries-insert fids_total empty root_fid root_node ∙ ap (put fid_cmp root_fid root_node) (entries_empty fid_cmp)

-- no node has an extended attribute
none_of : (f : Fid) → flat_map (xattr_text f) (entries (empty {X = List ℕ} {R = name_cmp})) ≡ []
none_of f = ap (flat_map (xattr_text f)) (entries_empty name_cmp)

base_text : tree_text base ≡ codes "tree 1 0\nnode [0x200000007:0x1:0x0] dir 0755 0 0 2\n"
unfolding digits
base_text =
    text_of base ((root_fid, root_node) ∷ []) [] base_nodes (entries_empty fid_cmp)
    ∙ ap (λ l. tree_head 1 0 ++ (flat_map node_text ((root_fid, root_node) ∷ []) ++ (l ++ []))) (none_of root_fid)

abbrev file_fid : Fid
file_fid = record { seq = 0x200000400; oid = 1; ver = 0 }

abbrev name : List ℕ
name = codes "a"

abbrev create : Op
create = Create root_fid name file_fid

abbrev grown : Tree
grown = changed_all base (op_changes base create)

node_at : (q : Fid) → get base.nodes q ≡ cond (eq_by_cmp fid_cmp q root_fid) (Some root_node) None
node_at q = get-insert fids_total empty root_fid root_node q ∙ ap (cond (eq_by_cmp fid_cmp q root_fid) (Some root_node)) (get-empty fid_cmp q)

no_names : names_of base root_fid ≡ empty
no_names = ap (λ o. unwrap_or o empty) (get-empty {X = Names} fid_cmp root_fid)

no_fault : create_fault 1 base root_fid name file_fid None ≡ None
no_fault =
    let parent = node_at root_fid in
    let file = node_at file_fid in
    let entry : named base root_fid name ≡ None = ap (λ (m : Names). get m name) no_names ∙ get-empty {X = Fid} name_cmp name in
    λ i. first_fault (client_fault 1 file_fid) (first_fault (layout_fault 1 None) (first_fault (parent_fault (parent i)) (first_fault (taken_fault (entry i)) (taken_fault (file i)))))

file_step : step 1 base create ≡ (grown, replies.Ok)
file_step = ap (λ fault. checked fault base (grown, replies.Ok)) no_fault

-- the names of the root afterwards
abbrev one : Names
one = insert empty name file_fid

one_entry : entries one ≡ (name, file_fid) ∷ []
one_entry = entries-insert names_total empty name file_fid ∙ ap (put name_cmp name file_fid) (entries_empty name_cmp)

one_len : len one ≡ 1
one_len = len-entries one ∙ ap length one_entry

grown_entries : entries grown.entries ≡ (root_fid, one) ∷ []
grown_entries =
    ap (λ (m : Names). entries (with_names base root_fid (insert m name file_fid))) no_names
    ∙ ap (λ n. entries (if n == 0 then remove base.entries root_fid else insert base.entries root_fid one)) one_len
    ∙ entries-insert fids_total base.entries root_fid one ∙ ap (put fid_cmp root_fid one) (entries_empty fid_cmp)

grown_nodes : entries grown.nodes ≡ (root_fid, root_node) ∷ (file_fid, file_node) ∷ []
grown_nodes = entries-insert fids_total base.nodes file_fid file_node ∙ ap (put fid_cmp file_fid file_node) base_nodes

grown_text : tree_text grown ≡ codes "tree 2 1\nnode [0x200000007:0x1:0x0] dir 0755 0 0 2\nnode [0x200000400:0x1:0x0] file 0644 0 0 1\nentry [0x200000007:0x1:0x0] a [0x200000400:0x1:0x0]\n"
unfolding digits
grown_text =
    let nodes = flat_map node_text ((root_fid, root_node) ∷ (file_fid, file_node) ∷ []) in
    text_of grown ((root_fid, root_node) ∷ (file_fid, file_node) ∷ []) ((root_fid, one) ∷ []) grown_nodes grown_entries
    ∙ (λ i. tree_head 2 (one_len i + 0) ++ (nodes ++ ((flat_map (entry_text root_fid) (one_entry i) ++ []) ++ (none_of root_fid i ++ (none_of file_fid i ++ [])))))

abbrev request : Request
request = record { number = 1; client = 0; op = create }

abbrev item : Item
item = record { request = request; reply = replies.Ok }

-- THE RUNS

abbrev made : State
made = record (start true) { asked = record { cluster = Some 1; ended = false; sent = [] }; standing = Serving }

abbrev sent : State
sent = record made { asked = record { cluster = Some 1; ended = false; sent = request ∷ [] }; formatted = true }

abbrev settled : State
settled = record sent { history = item ∷ []; pend = 1 ∷ [] }

abbrev cluster_group : Group
cluster_group = record { entry = Order (commands.Cluster 1); lines = [] }

abbrev send_group : Group
send_group = record { entry = Order (commands.Send request); lines = [] }

abbrev settle_group : Group
settle_group = record { entry = Order commands.Settle; lines = lines.Accept 1 replies.Ok 1 ∷ lines.Reply 1 replies.Ok ∷ [] }

abbrev shown : State → State
shown s = record s { formatted = true }

abbrev tree_group : State → Group
tree_group s = record { entry = Order commands.Tree; lines = lines.Tree (record { targets = targets_of s; tree = tree_of (targets_of s) s.history }) ∷ [] }

abbrev end_group : State → Group
end_group s = record { entry = Order commands.End; lines = lines.Stable 0 s.pend ∷ lines.EndClean ∷ [] }

abbrev end_of : State → State
end_of s = record s { asked = record s.asked { ended = true }; formatted = true; pend = []; last = s.last + length s.pend; clean = true }

abbrev stable_of : State → State
stable_of s = record s { asked = record s.asked { ended = true }; formatted = true; pend = []; last = s.last + length s.pend }

root_placed : IsPlaced 1 root_fid
root_placed = ((omega arith, omega arith, omega arith), refl)

file_placed : IsPlaced 1 file_fid
file_placed = ((omega arith, omega arith, omega arith), refl)

name_fits : IsName (codes "a")
name_fits = (omega arith, omega arith, (omega arith, tt), (((λ e. cc), (λ e. cc)), tt), (λ e. cc), (λ e. cc))

on_home : 1 ≡ on 1 laid_base create
on_home = sym (on_one laid_base create (root_placed, name_fits, file_placed))

cluster_turn : Turn (start true) cluster_group made
cluster_turn = (((omega arith, omega arith), refl, refl), inl refl, refl)

send_turn : Turn made send_group sent
send_turn = (((omega arith, omega arith, omega arith, (root_placed, name_fits, file_placed)), ((refl, refl), refl), refl), refl, refl)

settle_turn : Turn sent settle_group settled
settle_turn = (
  (tt, (refl, refl), tt),
  (tt, (tt, tt)),
  (
    settled,
    record { request = request; sent = inl refl; numbered = refl; serving = refl; fresh = tt; replied = ap (λ (p : Tree × Reply). p.1) (sym file_step); placed = on_home; next = refl; after = refl },
    (settled, record { item = item; numbered = refl; replied = refl; serving = refl; latest = (inl refl, (λ _. omega arith, tt)); after = refl }, refl),
  ),
)

tree_lines : (s : State) → s.standing ≡ Serving → TreeLines s.standing (tree_group s).lines
tree_lines s is = subst (λ x. TreeLines x (tree_group s).lines) (sym is) (_, refl)

end_lines : (s : State) → s.standing ≡ Serving → EndLines s.standing (end_group s).lines
end_lines s is = subst (λ x. EndLines x (end_group s).lines) (sym is) (inl (s.pend, refl))

now_formatted : (s : State) → s.standing ≡ Serving → is_formatted s ≡ true
now_formatted s is = ap (λ x. s.formatted || serves x) is ∙ or_true s.formatted
  where
    or_true : (b : Bool) → b || true ≡ true
    or_true true = refl
    or_true false = refl

tree_turn : (s : State) → IsSome s.asked.cluster → s.asked.ended ≡ false → s.standing ≡ Serving → Turn s (tree_group s) (shown s)
tree_turn s some going is = ((tt, (some, going), tt), tree_lines s is, (shown s, (refl, sym (λ i. record s { formatted = now_formatted s is i })), refl))

end_turn : (s : State) → IsSome s.asked.cluster → s.asked.ended ≡ false → s.standing ≡ Serving → Turn s (end_group s) (end_of s)
end_turn s some going is =
    ((tt, (some, going), tt), end_lines s is, (stable_of s, (is, refl, (λ i. record (stable_of s) { formatted = sym (now_formatted s is) i })), (end_of s, (is, refl), refl)))

abbrev first_groups : List Group
first_groups = cluster_group ∷ send_group ∷ settle_group ∷ tree_group settled ∷ end_group settled ∷ []

first_run : Run (start true) first_groups (end_of settled)
first_run = (made, cluster_turn, (sent, send_turn, (settled, settle_turn, (settled, tree_turn settled refl refl refl, (end_of settled, end_turn settled refl refl refl, refl)))))

first_text : transcript first_groups ≡ codes "accept 1 OK on 0\nreply 1 OK\ntree 2 1\nnode [0x200000007:0x1:0x0] dir 0755 0 0 2\nnode [0x200000400:0x1:0x0] file 0644 0 0 1\nentry [0x200000007:0x1:0x0] a [0x200000400:0x1:0x0]\nstable 0 1\nend clean\n"
unfolding digits members
first_text = ap (λ t. codes "accept 1 OK on 0\nreply 1 OK\n" ++ (t ++ codes "stable 0 1\nend clean\n")) (ap (λ (p : Tree × Reply). tree_text p.0) file_step ∙ grown_text)

first_scenario : scenario (entries_of first_groups) ≡ codes "cluster 1\nsend 1 0 create [0x200000007:0x1:0x0] a [0x200000400:0x1:0x0]\nsettle\ntree\nend\n"
unfolding digits
first_scenario = refl

pub first : IsTranscript
    (codes "cluster 1\nsend 1 0 create [0x200000007:0x1:0x0] a [0x200000400:0x1:0x0]\nsettle\ntree\nend\n")
    (codes "accept 1 OK on 0\nreply 1 OK\ntree 2 1\nnode [0x200000007:0x1:0x0] dir 0755 0 0 2\nnode [0x200000400:0x1:0x0] file 0644 0 0 1\nentry [0x200000007:0x1:0x0] a [0x200000400:0x1:0x0]\nstable 0 1\nend clean\n")
first = (first_groups, end_of settled, first_run, ((λ e. cc), ((λ e. cc), ((λ _. (inr (inl refl), tt)), ((λ e. cc), ((λ e. cc), tt))))), refl, sym first_scenario, sym first_text)

abbrev empty_groups : List Group
empty_groups = cluster_group ∷ tree_group made ∷ end_group (shown made) ∷ []

empty_run : Run (start true) empty_groups (end_of (shown made))
empty_run = (made, cluster_turn, (shown made, tree_turn made refl refl refl, (end_of (shown made), end_turn (shown made) refl refl refl, refl)))

empty_text : transcript empty_groups ≡ codes "tree 1 0\nnode [0x200000007:0x1:0x0] dir 0755 0 0 2\nstable 0 -\nend clean\n"
unfolding digits
empty_text = ap (λ t. t ++ codes "stable 0 -\nend clean\n") base_text

empty_scenario : scenario (entries_of empty_groups) ≡ codes "cluster 1\ntree\nend\n"
unfolding digits
empty_scenario = refl

pub empty_tree : IsTranscript (codes "cluster 1\ntree\nend\n") (codes "tree 1 0\nnode [0x200000007:0x1:0x0] dir 0755 0 0 2\nstable 0 -\nend clean\n")
empty_tree = (empty_groups, end_of (shown made), empty_run, ((λ e. cc), ((λ e. cc), ((λ e. cc), tt))), refl, sym empty_scenario, sym empty_text)
