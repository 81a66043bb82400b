-- What is told of a node is what stands in its body.
use Rattle.std.proofs.Common.{◌≡◌, ℕ, List, [], ◌++◌, length, Some, None, refl, sym, ap, ◌∙◌, append_assoc, append-nil}
use Rattle.std.specs.Int.{Width, byte_len, w32, w64}
use Rattle.std.specs.Option.{option_map, unwrap_or}
use Rattle.std.specs.FinMap.{get, len}
use Rattle.byte_grammar.specs.Numbers.{word, worth}
use Rattle.byte_grammar.specs.Values.{◌>>=◌, number_at}
use Rattle.byte_grammar.proofs.Bytes.{IsWide, wide32, wide64}
use Rattle.byte_grammar.proofs.Again.{part_again}
use Rattle.fid_space.specs.declared.fid.Fid.{Fid}
use Rattle.tree_model.specs.declared.reply.Reply.{Reply}
use Rattle.tree_model.specs.Tree.{no_fid}
use Rattle.out_update.specs.Spelling.{fid_bytes}
use Rattle.out_update.specs.Values.{fid_value}
use Rattle.striped_dir.specs.Layouts.{laid, layout_text}
use Rattle.object_store.specs.declared.body.Body.{Body}
use Rattle.object_store.specs.declared.body.ObjectKind.{ObjectKind}
use Rattle.object_store.specs.declared.body.ObjectKind.TheVariants.{File, Directory, Stripe}
use Rattle.object_store.specs.Bodies.{number_of, body_bytes}
use Rattle.object_store.specs.Objects.{Object, ObjectMap}
use Rattle.object_store.specs.Following.{attr_of}
use Rattle.object_store.specs.Reads.{node, attr_get, reads}
use Rattle.tree_sound.proofs.Basics.{some_is, none_is}
use Rattle.share_tree.specs.Told.{told_fid, directory_node, node_in, fid_in, parent_in, node_from}

-- ---- the FID in the bytes of a body

-- a number as its bytes tell it, whatever follows
number_front : (w : Width) (wide : IsWide w) (n : ℕ) (rest : List ℕ) → number_at w (word w n ++ rest) ≡ Some (worth w (word w n), rest)
unfolding number_at
number_front w wide n rest = ap (λ o. o >>= λ part. Some (worth w part.0, part.1)) (part_again (byte_len w) (word w n) rest (wide.len n))

abbrev again : Fid → Fid
again f = record { seq = worth w64 (word w64 f.seq); oid = worth w32 (word w32 f.oid); ver = worth w32 (word w32 f.ver) }

fid_front : (f : Fid) (rest : List ℕ) → fid_value (fid_bytes f ++ rest) ≡ Some (again f, rest)
unfolding fid_value
fid_front f rest =
    let e : fid_bytes f ++ rest ≡ word w64 f.seq ++ (word w32 f.oid ++ (word w32 f.ver ++ rest)) =
    append_assoc (word w64 f.seq) (word w32 f.oid ++ word w32 f.ver) rest ∙ ap (λ xs. word w64 f.seq ++ xs) (append_assoc (word w32 f.oid) (word w32 f.ver) rest) in
    ap fid_value e ∙ rw (number_front w64 wide64 f.seq (word w32 f.oid ++ (word w32 f.ver ++ rest)), number_front w32 wide32 f.oid (word w32 f.ver ++ rest), number_front w32 wide32 f.ver rest) refl

told_again : (f : Fid) → told_fid f ≡ again f
told_again f = ap (λ bytes. unwrap_or (option_map (λ v. v.0) (fid_value bytes)) no_fid) (sym (append-nil (fid_bytes f))) ∙ ap (λ o. unwrap_or (option_map (λ v. v.0) o) no_fid) (fid_front f [])

abbrev before_fid : Body → List ℕ
before_fid b = word w32 (number_of b.kind) ++ (word w32 b.mode ++ (word w32 b.uid ++ (word w32 b.gid ++ (word w32 b.links ++ layout_text (laid b.layout)))))

before_length : (b : Body) → length (before_fid b) ≡ 28
unfolding word
before_length b = refl

body_parts : (b : Body) (rest : List ℕ) → body_bytes b ++ rest ≡ before_fid b ++ (fid_bytes b.fid ++ (word w32 b.index ++ rest))
unfolding body_bytes word
body_parts b rest = refl

fid_of_body : (b : Body) (rest : List ℕ) → fid_in (body_bytes b ++ rest) ≡ Some (told_fid b.fid)
unfolding fid_in
fid_of_body b rest =
    ap fid_in (body_parts b rest)
    ∙ ap (λ o. o >>= (λ other. fid_value other.1 >>= (λ fid. Some fid.0))) (part_again 28 (before_fid b) (fid_bytes b.fid ++ (word w32 b.index ++ rest)) (before_length b))
    ∙ ap (λ o. o >>= (λ (fid : Fid × List ℕ). Some fid.0)) (fid_front b.fid (word w32 b.index ++ rest))
    ∙ ap (λ f. Some f) (sym (told_again b.fid))

-- ---- the parent of a directory

abbrev of_kind : Body → ObjectKind → Body
of_kind b k = record b { kind = k }

abbrev parent_of : Object → ObjectKind → Fid
parent_of o k = unwrap_or (fid_in (attr_get (node (Some (record o { body = of_kind o.body k })))).body) no_fid

parent_is : (m : ObjectMap) (f : Fid) (o : Object) → get m f ≡ Some o → o.body.kind ≡ Directory → parent_in m f ≡ told_fid o.body.fid
unfolding reads
parent_is m f o there is =
    ap (λ x. unwrap_or (fid_in (attr_get (node x)).body) no_fid) there
    ∙ ap (λ k. parent_of o k) is
    ∙ ap (λ x. unwrap_or x no_fid) (fid_of_body (of_kind o.body Directory) (word w32 (len o.attributes) ++ word w32 0))

-- ---- a node

node_by_kind : (b : Body) (k : ObjectKind) (r : Reply) (parent : Fid) → (k ≡ Directory → parent ≡ told_fid b.fid) → attr_of (of_kind b k) ≡ Some r → node_from r parent ≡ node_in (of_kind b k)
node_by_kind b File r parent p h = ap (λ x. node_from x parent) (sym (some_is h))
node_by_kind b Directory r parent p h = ap (λ x. node_from x parent) (sym (some_is h)) ∙ ap (λ x. Some (directory_node b.mode b.uid b.gid b.links x)) (p refl)
node_by_kind b Stripe r parent p h = absurd (none_is h)

pub node_is_told : (m : ObjectMap) (f : Fid) (o : Object) (r : Reply) → get m f ≡ Some o → attr_of o.body ≡ Some r → node_from r (parent_in m f) ≡ node_in o.body
node_is_told m f o r there h = node_by_kind o.body o.body.kind r (parent_in m f) (λ is. parent_is m f o there is) h

none_by_kind : (b : Body) (k : ObjectKind) → attr_of (of_kind b k) ≡ None → node_in (of_kind b k) ≡ None
none_by_kind b File h = absurd (none_is (sym h))
none_by_kind b Directory h = absurd (none_is (sym h))
none_by_kind b Stripe h = refl

pub no_node : (b : Body) → attr_of b ≡ None → node_in b ≡ None
no_node b h = none_by_kind b b.kind h
