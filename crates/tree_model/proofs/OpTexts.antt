-- No two operations have one text.
use Rattle.std.proofs.Common.{◌≡◌, ◌≢◌, ◌==◌, ◌<◌, ◌^◌, ℕ, Some, None, List, [], ◌∷◌, codes, Result, Ok, Err, IfOk, refl, sym, ap, ◌∙◌, arith}
use Rattle.std.specs.List.{slice_split, join_with_byte, AllByRecursion}
use Rattle.std.specs.Fmt.{decimal}
use Rattle.std.proofs.lemmas.List.Splits.{join_with_byte-slice_split}
use Rattle.std.proofs.lemmas.Fmt.{decimal_is_IsNumeral}
use Rattle.fid_space.proofs.Splitting.{Lacks, lacks_by_test, lacks_digits, split_join}
use Rattle.fid_space.proofs.FidTexts.{no_space}
use Rattle.tree_model.specs.OpText.{IsOp, op_words, op_text}
use Rattle.tree_model.specs.declared.op.Op.{Op}
use Rattle.tree_model.specs.declared.op.Op.TheVariants as ops
use Rattle.tree_model.specs.declared.op.OpFault.{OpFault}
use Rattle.tree_model.proofs.Spellings.{name_lacks, hex_lacks}

number_lacks : (n : ℕ) → n < 2 ^ 64 → Lacks 32 (decimal n)
number_lacks n low = lacks_digits 10 32 (omega arith) (decimal n) (decimal_is_IsNumeral n low).0.1

-- no word of an operation has a space
pub op_lacks : (n : ℕ) (o : Op) → IsOp n o → AllByRecursion (λ w. Lacks 32 w) (op_words o)
op_lacks n (ops.Create p x f) h = (lacks_by_test 32 (codes "create") refl, (no_space p h.0.0, (name_lacks 32 x (omega arith), (no_space f h.2.0, tt))))
op_lacks n (ops.Mkdir p x f None) h = (lacks_by_test 32 (codes "mkdir") refl, (no_space p h.0.0, (name_lacks 32 x (omega arith), (no_space f h.2.0, tt))))
op_lacks n (ops.Mkdir p x f (Some s)) h =
    (lacks_by_test 32 (codes "mkdir") refl, (no_space p h.0.0, (name_lacks 32 x (omega arith), (no_space f h.2.0, (number_lacks s.0 (omega (arith, h.3)), (number_lacks s.1 (omega (arith, h.3)), tt))))))
op_lacks n (ops.Link p x f) h = (lacks_by_test 32 (codes "link") refl, (no_space p h.0.0, (name_lacks 32 x (omega arith), (no_space f h.2.0, tt))))
op_lacks n (ops.Unlink p x) h = (lacks_by_test 32 (codes "unlink") refl, (no_space p h.0.0, (name_lacks 32 x (omega arith), tt)))
op_lacks n (ops.Rmdir p x) h = (lacks_by_test 32 (codes "rmdir") refl, (no_space p h.0.0, (name_lacks 32 x (omega arith), tt)))
op_lacks n (ops.Rename p x q y) h = (lacks_by_test 32 (codes "rename") refl, (no_space p h.0.0, (name_lacks 32 x (omega arith), (no_space q h.2.0, (name_lacks 32 y (omega arith), tt)))))
op_lacks n (ops.SetAttr f m u g) h =
    (lacks_by_test 32 (codes "setattr") refl, (no_space f h.0.0, (number_lacks m (omega (arith, h.1)), (number_lacks u (omega (arith, h.2)), (number_lacks g (omega (arith, h.3)), tt)))))
op_lacks n (ops.SetXattr f x v) h = (lacks_by_test 32 (codes "setxattr") refl, (no_space f h.0.0, (name_lacks 32 x (omega arith), (hex_lacks 32 v (omega arith), tt))))
op_lacks n (ops.DelXattr f x) h = (lacks_by_test 32 (codes "delxattr") refl, (no_space f h.0.0, (name_lacks 32 x (omega arith), tt)))
op_lacks n (ops.Migrate d c i) h = (lacks_by_test 32 (codes "migrate") refl, (no_space d h.0.0, (number_lacks c (omega (arith, h.1)), (number_lacks i (omega (arith, h.2)), tt))))
op_lacks n (ops.Lookup p x) h = (lacks_by_test 32 (codes "lookup") refl, (no_space p h.0.0, (name_lacks 32 x (omega arith), tt)))
op_lacks n (ops.GetAttr f) h = (lacks_by_test 32 (codes "getattr") refl, (no_space f h.0, tt))
op_lacks n (ops.GetXattr f x) h = (lacks_by_test 32 (codes "getxattr") refl, (no_space f h.0.0, (name_lacks 32 x (omega arith), tt)))

cut_words : (ws : List (List ℕ)) → ws ≢ [] → AllByRecursion (λ w. Lacks 32 w) ws → slice_split (λ x. x == 32) (join_with_byte 32 ws) ≡ ws
cut_words [] some h = absurd (some refl)
cut_words (w ∷ ws) some h = split_join 32 w ws h

has_words : (o : Op) → op_words o ≢ []
has_words (ops.Create p x f) e = cc
has_words (ops.Mkdir p x f s) e = cc
has_words (ops.Link p x f) e = cc
has_words (ops.Unlink p x) e = cc
has_words (ops.Rmdir p x) e = cc
has_words (ops.Rename p x q y) e = cc
has_words (ops.SetAttr f m u g) e = cc
has_words (ops.SetXattr f x v) e = cc
has_words (ops.DelXattr f x) e = cc
has_words (ops.Migrate d c i) e = cc
has_words (ops.Lookup p x) e = cc
has_words (ops.GetAttr f) e = cc
has_words (ops.GetXattr f x) e = cc

-- the words of a text are the operation's
pub cut_op : (n : ℕ) (o : Op) → IsOp n o → slice_split (λ x. x == 32) (op_text o) ≡ op_words o
cut_op n o h = cut_words (op_words o) (has_words o) (op_lacks n o h)

-- a text is read as its words are
pub parsed : (n : ℕ) (r : Result Op OpFault) (text : List ℕ) (ws : List (List ℕ)) → ws ≡ slice_split (λ b. b == 32) text → IfOk r (λ o. IsOp n o × (ws ≡ op_words o)) → IfOk r (λ o. IsOp n o × (text ≡ op_text o))
parsed n (Ok o) text ws e h = (h.0, sym (join_with_byte-slice_split 32 text) ∙ ap (join_with_byte 32) (sym e ∙ h.1))
parsed n (Err d) text ws e h = tt

pub refused : (n : ℕ) (text : List ℕ) (ws : List (List ℕ)) → ws ≡ slice_split (λ b. b == 32) text → ((o : Op) → IsOp n o → ws ≢ op_words o) → (o : Op) → IsOp n o → text ≢ op_text o
refused n text ws e h o fits = λ s. h o fits (e ∙ ap (slice_split (λ b. b == 32)) s ∙ cut_op n o fits)
