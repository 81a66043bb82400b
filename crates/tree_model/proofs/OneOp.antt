-- No two operations have one text.
use Rattle.std.proofs.Common.{◌≡◌, ◌==◌, ℕ, Some, None, List, [], ◌∷◌, true, sym, ap, ◌∙◌, arith, subst}
use Rattle.std.specs.List.{slice_split}
use Rattle.std.specs.Fmt.{decimal}
use Rattle.std.proofs.lemmas.Fmt.{decimal_injective}
use Rattle.std.proofs.lemmas.Bool.{false≢true}
use Rattle.fid_space.specs.FidText.{fid_text}
use Rattle.fid_space.proofs.FidTexts.{one_fid}
use Rattle.tree_model.specs.Names.{name_word}
use Rattle.fid_space.specs.HexText.{hex_text}
use Rattle.tree_model.specs.OpText.{IsOp, op_words, op_text}
use Rattle.tree_model.specs.declared.op.Op.{Op}
use Rattle.tree_model.specs.declared.op.Op.TheVariants as ops
use Rattle.std.specs.Cmp.Lexicographic.{pointwise}
use Rattle.tree_model.proofs.Spellings.{all_same, one_name, one_hex}
use Rattle.tree_model.proofs.OpTexts.{cut_op}

abbrev head : List (List ℕ) → List ℕ
head [] = []
head (w ∷ ws) = w

abbrev firsts_same : List (List ℕ) → List (List ℕ) → Type 0
firsts_same vs ws = pointwise ◌==◌ (head vs) (head ws) ≡ true

-- the first words of equal lists pass the test, which two words of operations don't
first_same : (vs ws : List (List ℕ)) → vs ≡ ws → firsts_same vs ws
first_same vs ws e = subst (λ l. firsts_same vs l) e (all_same (head vs))

pub op_injective : (m n : ℕ) (o p : Op) → IsOp m o → IsOp n p → op_words o ≡ op_words p → o ≡ p
op_injective m n (ops.Create p1 x1 f1) (ops.Create p2 x2 f2) h k e =
    let w0 : fid_text p1 ≡ fid_text p2 = cc in
    let w1 : name_word x1 ≡ name_word x2 = cc in
    let w2 : fid_text f1 ≡ fid_text f2 = cc in
    let e0 = one_fid p1 p2 h.0.0 k.0.0 w0 in
    let e1 = one_name x1 x2 h.1.2 k.1.2 w1 in
    let e2 = one_fid f1 f2 h.2.0 k.2.0 w2 in
    λ i. ops.Create (e0 i) (e1 i) (e2 i)
op_injective m n (ops.Link p1 x1 f1) (ops.Link p2 x2 f2) h k e =
    let w0 : fid_text p1 ≡ fid_text p2 = cc in
    let w1 : name_word x1 ≡ name_word x2 = cc in
    let w2 : fid_text f1 ≡ fid_text f2 = cc in
    let e0 = one_fid p1 p2 h.0.0 k.0.0 w0 in
    let e1 = one_name x1 x2 h.1.2 k.1.2 w1 in
    let e2 = one_fid f1 f2 h.2.0 k.2.0 w2 in
    λ i. ops.Link (e0 i) (e1 i) (e2 i)
op_injective m n (ops.Unlink p1 x1) (ops.Unlink p2 x2) h k e =
    let w0 : fid_text p1 ≡ fid_text p2 = cc in
    let w1 : name_word x1 ≡ name_word x2 = cc in
    let e0 = one_fid p1 p2 h.0.0 k.0.0 w0 in
    let e1 = one_name x1 x2 h.1.2 k.1.2 w1 in
    λ i. ops.Unlink (e0 i) (e1 i)
op_injective m n (ops.Rmdir p1 x1) (ops.Rmdir p2 x2) h k e =
    let w0 : fid_text p1 ≡ fid_text p2 = cc in
    let w1 : name_word x1 ≡ name_word x2 = cc in
    let e0 = one_fid p1 p2 h.0.0 k.0.0 w0 in
    let e1 = one_name x1 x2 h.1.2 k.1.2 w1 in
    λ i. ops.Rmdir (e0 i) (e1 i)
op_injective m n (ops.Rename p1 x1 q1 y1) (ops.Rename p2 x2 q2 y2) h k e =
    let w0 : fid_text p1 ≡ fid_text p2 = cc in
    let w1 : name_word x1 ≡ name_word x2 = cc in
    let w2 : fid_text q1 ≡ fid_text q2 = cc in
    let w3 : name_word y1 ≡ name_word y2 = cc in
    let e0 = one_fid p1 p2 h.0.0 k.0.0 w0 in
    let e1 = one_name x1 x2 h.1.2 k.1.2 w1 in
    let e2 = one_fid q1 q2 h.2.0 k.2.0 w2 in
    let e3 = one_name y1 y2 h.3.2 k.3.2 w3 in
    λ i. ops.Rename (e0 i) (e1 i) (e2 i) (e3 i)
op_injective m n (ops.SetAttr f1 m1 u1 g1) (ops.SetAttr f2 m2 u2 g2) h k e =
    let w0 : fid_text f1 ≡ fid_text f2 = cc in
    let w1 : decimal m1 ≡ decimal m2 = cc in
    let w2 : decimal u1 ≡ decimal u2 = cc in
    let w3 : decimal g1 ≡ decimal g2 = cc in
    let e0 = one_fid f1 f2 h.0.0 k.0.0 w0 in
    let e1 = decimal_injective m1 m2 (omega (arith, h.1)) (omega (arith, k.1)) w1 in
    let e2 = decimal_injective u1 u2 (omega (arith, h.2)) (omega (arith, k.2)) w2 in
    let e3 = decimal_injective g1 g2 (omega (arith, h.3)) (omega (arith, k.3)) w3 in
    λ i. ops.SetAttr (e0 i) (e1 i) (e2 i) (e3 i)
op_injective m n (ops.SetXattr f1 x1 v1) (ops.SetXattr f2 x2 v2) h k e =
    let w0 : fid_text f1 ≡ fid_text f2 = cc in
    let w1 : name_word x1 ≡ name_word x2 = cc in
    let w2 : hex_text v1 ≡ hex_text v2 = cc in
    let e0 = one_fid f1 f2 h.0.0 k.0.0 w0 in
    let e1 = one_name x1 x2 h.1.2 k.1.2 w1 in
    let e2 = one_hex v1 v2 h.2.0 k.2.0 w2 in
    λ i. ops.SetXattr (e0 i) (e1 i) (e2 i)
op_injective m n (ops.DelXattr f1 x1) (ops.DelXattr f2 x2) h k e =
    let w0 : fid_text f1 ≡ fid_text f2 = cc in
    let w1 : name_word x1 ≡ name_word x2 = cc in
    let e0 = one_fid f1 f2 h.0.0 k.0.0 w0 in
    let e1 = one_name x1 x2 h.1.2 k.1.2 w1 in
    λ i. ops.DelXattr (e0 i) (e1 i)
op_injective m n (ops.Migrate d1 c1 i1) (ops.Migrate d2 c2 i2) h k e =
    let w0 : fid_text d1 ≡ fid_text d2 = cc in
    let w1 : decimal c1 ≡ decimal c2 = cc in
    let w2 : decimal i1 ≡ decimal i2 = cc in
    let e0 = one_fid d1 d2 h.0.0 k.0.0 w0 in
    let e1 = decimal_injective c1 c2 (omega (arith, h.1)) (omega (arith, k.1)) w1 in
    let e2 = decimal_injective i1 i2 (omega (arith, h.2)) (omega (arith, k.2)) w2 in
    λ i. ops.Migrate (e0 i) (e1 i) (e2 i)
op_injective m n (ops.Lookup p1 x1) (ops.Lookup p2 x2) h k e =
    let w0 : fid_text p1 ≡ fid_text p2 = cc in
    let w1 : name_word x1 ≡ name_word x2 = cc in
    let e0 = one_fid p1 p2 h.0.0 k.0.0 w0 in
    let e1 = one_name x1 x2 h.1.2 k.1.2 w1 in
    λ i. ops.Lookup (e0 i) (e1 i)
op_injective m n (ops.GetAttr f1) (ops.GetAttr f2) h k e =
    let w0 : fid_text f1 ≡ fid_text f2 = cc in
    let e0 = one_fid f1 f2 h.0 k.0 w0 in
    λ i. ops.GetAttr (e0 i)
op_injective m n (ops.GetXattr f1 x1) (ops.GetXattr f2 x2) h k e =
    let w0 : fid_text f1 ≡ fid_text f2 = cc in
    let w1 : name_word x1 ≡ name_word x2 = cc in
    let e0 = one_fid f1 f2 h.0.0 k.0.0 w0 in
    let e1 = one_name x1 x2 h.1.2 k.1.2 w1 in
    λ i. ops.GetXattr (e0 i) (e1 i)
op_injective m n (ops.Mkdir p1 x1 f1 None) (ops.Mkdir p2 x2 f2 None) h k e =
    let w0 : fid_text p1 ≡ fid_text p2 = cc in
    let w1 : name_word x1 ≡ name_word x2 = cc in
    let w2 : fid_text f1 ≡ fid_text f2 = cc in
    let e0 = one_fid p1 p2 h.0.0 k.0.0 w0 in
    let e1 = one_name x1 x2 h.1.2 k.1.2 w1 in
    let e2 = one_fid f1 f2 h.2.0 k.2.0 w2 in
    λ i. ops.Mkdir (e0 i) (e1 i) (e2 i) None
op_injective m n (ops.Mkdir p1 x1 f1 (Some s1)) (ops.Mkdir p2 x2 f2 (Some s2)) h k e =
    let w0 : fid_text p1 ≡ fid_text p2 = cc in
    let w1 : name_word x1 ≡ name_word x2 = cc in
    let w2 : fid_text f1 ≡ fid_text f2 = cc in
    let w3 : decimal s1.0 ≡ decimal s2.0 = cc in
    let w4 : decimal s1.1 ≡ decimal s2.1 = cc in
    let e0 = one_fid p1 p2 h.0.0 k.0.0 w0 in
    let e1 = one_name x1 x2 h.1.2 k.1.2 w1 in
    let e2 = one_fid f1 f2 h.2.0 k.2.0 w2 in
    let e3 = decimal_injective s1.0 s2.0 (omega (arith, h.3)) (omega (arith, k.3)) w3 in
    let e4 = decimal_injective s1.1 s2.1 (omega (arith, h.3)) (omega (arith, k.3)) w4 in
    λ i. ops.Mkdir (e0 i) (e1 i) (e2 i) (Some (e3 i, e4 i))
op_injective m n (ops.Mkdir p1 x1 f1 None) (ops.Mkdir p2 x2 f2 (Some s2)) h k e = cc
op_injective m n (ops.Mkdir p1 x1 f1 (Some s1)) (ops.Mkdir p2 x2 f2 None) h k e = cc
op_injective m n o p h k e = absurd (false≢true (first_same (op_words o) (op_words p) e))

pub one_op : (m n : ℕ) (o p : Op) → IsOp m o → IsOp n p → op_text o ≡ op_text p → o ≡ p
one_op m n o p h k e = op_injective m n o p h k (sym (cut_op m o h) ∙ ap (slice_split (λ x. x == 32)) e ∙ cut_op n p k)
