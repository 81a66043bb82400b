-- A command's spelling is one line: it has no line feed, and it isn't empty.
use Rattle.std.proofs.Common.{◌≡◌, ◌≢◌, ◌==◌, ◌<◌, ◌^◌, ℕ, Option, Some, None, List, [], ◌∷◌, codes, inl, inr, refl, sym, ap, ◌∙◌, subst, arith}
use Rattle.std.specs.List.{slice_split, join_with_byte, AllByRecursion}
use Rattle.std.specs.Fmt.{decimal}
use Rattle.std.proofs.lemmas.Fmt.{decimal_is_IsNumeral}
use Rattle.fid_space.specs.declared.fid.Fid.{Fid}
use Rattle.fid_space.specs.FidText.{fid_text, hex, IsFid}
use Rattle.fid_space.proofs.Splitting.{Lacks, lacks_by_test, lacks_append, lacks_digits}
use Rattle.fid_space.proofs.FidTexts.{lacks_hex}
use Rattle.tree_model.specs.OpText.{IsOp, op_words}
use Rattle.tree_model.specs.declared.op.Op.{Op}
use Rattle.tree_model.specs.declared.op.Op.TheVariants as ops
use Rattle.tree_model.proofs.Spellings.{name_lacks, hex_lacks}
use Rattle.scenario_text.specs.Spelling.{Entry, Skip, Order, IsCommand, IsEntry, IsSkipped, line_of, spelling, words_of}
use Rattle.scenario_text.specs.declared.command.Command.{Command}
use Rattle.scenario_text.specs.declared.command.Command.TheVariants as commands
use Rattle.scenario_text.proofs.OneSpelling.{limits, low_target, cut_words, one_command}

fid_lacks : (f : Fid) → IsFid f → Lacks 10 (fid_text f)
fid_lacks f h =
    lacks_append 10 (codes "[0x") _ (lacks_by_test 10 (codes "[0x") refl) (lacks_append 10 (hex f.seq) _ (lacks_hex 10 f.seq h.0 (omega arith))
    (lacks_append 10 (codes ":0x") _ (lacks_by_test 10 (codes ":0x") refl) (lacks_append 10 (hex f.oid) _ (lacks_hex 10 f.oid (omega (arith, h.1)) (omega arith))
    (lacks_append 10 (codes ":0x") _ (lacks_by_test 10 (codes ":0x") refl) (lacks_append 10 (hex f.ver) _ (lacks_hex 10 f.ver (omega (arith, h.2)) (omega arith)) (lacks_by_test 10 (codes "]") refl))))))

digits_lack : (n : ℕ) → n < 2 ^ 64 → Lacks 10 (decimal n)
digits_lack n low = lacks_digits 10 10 (omega arith) (decimal n) (decimal_is_IsNumeral n low).0.1

op_lacks : (n : ℕ) (o : Op) → IsOp n o → AllByRecursion (λ w. Lacks 10 w) (op_words o)
op_lacks n (ops.Create p x f) h = (lacks_by_test 10 (codes "create") refl, (fid_lacks p h.0.0, (name_lacks 10 x (omega arith), (fid_lacks f h.2.0, tt))))
op_lacks n (ops.Mkdir p x f None) h = (lacks_by_test 10 (codes "mkdir") refl, (fid_lacks p h.0.0, (name_lacks 10 x (omega arith), (fid_lacks f h.2.0, tt))))
op_lacks n (ops.Mkdir p x f (Some s)) h =
    (lacks_by_test 10 (codes "mkdir") refl, (fid_lacks p h.0.0, (name_lacks 10 x (omega arith), (fid_lacks f h.2.0, (digits_lack s.0 (omega (arith, h.3)), (digits_lack s.1 (omega (arith, h.3)), tt))))))
op_lacks n (ops.Link p x f) h = (lacks_by_test 10 (codes "link") refl, (fid_lacks p h.0.0, (name_lacks 10 x (omega arith), (fid_lacks f h.2.0, tt))))
op_lacks n (ops.Unlink p x) h = (lacks_by_test 10 (codes "unlink") refl, (fid_lacks p h.0.0, (name_lacks 10 x (omega arith), tt)))
op_lacks n (ops.Rmdir p x) h = (lacks_by_test 10 (codes "rmdir") refl, (fid_lacks p h.0.0, (name_lacks 10 x (omega arith), tt)))
op_lacks n (ops.Rename p x q y) h = (lacks_by_test 10 (codes "rename") refl, (fid_lacks p h.0.0, (name_lacks 10 x (omega arith), (fid_lacks q h.2.0, (name_lacks 10 y (omega arith), tt)))))
op_lacks n (ops.SetAttr f m u g) h =
    (lacks_by_test 10 (codes "setattr") refl, (fid_lacks f h.0.0, (digits_lack m (omega (arith, h.1)), (digits_lack u (omega (arith, h.2)), (digits_lack g (omega (arith, h.3)), tt)))))
op_lacks n (ops.SetXattr f x v) h = (lacks_by_test 10 (codes "setxattr") refl, (fid_lacks f h.0.0, (name_lacks 10 x (omega arith), (hex_lacks 10 v (omega arith), tt))))
op_lacks n (ops.DelXattr f x) h = (lacks_by_test 10 (codes "delxattr") refl, (fid_lacks f h.0.0, (name_lacks 10 x (omega arith), tt)))
op_lacks n (ops.Migrate d c i) h = (lacks_by_test 10 (codes "migrate") refl, (fid_lacks d h.0.0, (digits_lack c (omega (arith, h.1)), (digits_lack i (omega (arith, h.2)), tt))))
op_lacks n (ops.Lookup p x) h = (lacks_by_test 10 (codes "lookup") refl, (fid_lacks p h.0.0, (name_lacks 10 x (omega arith), tt)))
op_lacks n (ops.GetAttr f) h = (lacks_by_test 10 (codes "getattr") refl, (fid_lacks f h.0, tt))
op_lacks n (ops.GetXattr f x) h = (lacks_by_test 10 (codes "getxattr") refl, (fid_lacks f h.0.0, (name_lacks 10 x (omega arith), tt)))

words_lack : (a : Option ℕ) (c : Command) → IsCommand a c → AllByRecursion (λ w. Lacks 10 w) (words_of c)
words_lack a (commands.Cluster n) h = (lacks_by_test 10 (codes "cluster") refl, (digits_lack n (omega (arith, h.1)), tt))
words_lack a (commands.Send r) h =
    let l = limits a r h in
    (lacks_by_test 10 (codes "send") refl, (digits_lack r.number (omega (arith, l.2)), (digits_lack r.client (omega (arith, l.3)), op_lacks l.0 r.op l.4)))
words_lack a (commands.Again n) h = (lacks_by_test 10 (codes "again") refl, (digits_lack n (omega (arith, h.1)), tt))
words_lack a (commands.Deliver k) h = (lacks_by_test 10 (codes "deliver") refl, (digits_lack k (omega (arith, h)), tt))
words_lack a (commands.Drop k) h = (lacks_by_test 10 (codes "drop") refl, (digits_lack k (omega (arith, h)), tt))
words_lack a commands.Settle h = (lacks_by_test 10 (codes "settle") refl, tt)
words_lack a commands.Resend h = (lacks_by_test 10 (codes "resend") refl, tt)
words_lack a commands.List h = (lacks_by_test 10 (codes "list") refl, tt)
words_lack a (commands.Log t) h = (lacks_by_test 10 (codes "log") refl, (digits_lack t (low_target a t h), tt))
words_lack a commands.Tree h = (lacks_by_test 10 (codes "tree") refl, tt)
words_lack a commands.End h = (lacks_by_test 10 (codes "end") refl, tt)
words_lack a (commands.Commit t) h = (lacks_by_test 10 (codes "commit") refl, (digits_lack t (low_target a t h), tt))
words_lack a (commands.Crash t) h = (lacks_by_test 10 (codes "crash") refl, (digits_lack t (low_target a t h), tt))
words_lack a (commands.Restart t) h = (lacks_by_test 10 (codes "restart") refl, (digits_lack t (low_target a t h), tt))
words_lack a (commands.Fuse t after choice) h =
    (lacks_by_test 10 (codes "fuse") refl, (digits_lack t (low_target a t h.0), (digits_lack after (omega (arith, h.1)), (digits_lack choice (omega (arith, h.2)), tt))))

joined_lacks : (b c : ℕ) → c ≢ b → (ws : List (List ℕ)) → AllByRecursion (λ w. Lacks b w) ws → Lacks b (join_with_byte c ws)
joined_lacks b c other [] h = tt
joined_lacks b c other (w ∷ []) h = h.0
joined_lacks b c other (w ∷ v ∷ ws) h = lacks_append b w (c ∷ join_with_byte c (v ∷ ws)) h.0 (other, joined_lacks b c other (v ∷ ws) h.1)

pub one_line : (a : Option ℕ) (c : Command) → IsCommand a c → Lacks 10 (spelling c)
one_line a c h = joined_lacks 10 32 (λ e. absurd (omega (arith, e))) (words_of c) (words_lack a c h)

no_words : (c : Command) → [] ∷ [] ≡ words_of c → ⊥
no_words (commands.Cluster n) e = cc
no_words (commands.Send r) e = cc
no_words (commands.Again n) e = cc
no_words (commands.Deliver k) e = cc
no_words (commands.Drop k) e = cc
no_words commands.Settle e = cc
no_words commands.Resend e = cc
no_words commands.List e = cc
no_words (commands.Log t) e = cc
no_words commands.Tree e = cc
no_words commands.End e = cc
no_words (commands.Commit t) e = cc
no_words (commands.Crash t) e = cc
no_words (commands.Restart t) e = cc
no_words (commands.Fuse t after choice) e = cc

pub not_empty : (a : Option ℕ) (c : Command) → IsCommand a c → spelling c ≢ []
not_empty a c h = λ e. no_words c (sym (ap (slice_split (λ x. x == 32)) e) ∙ cut_words a c h)

-- no command's spelling begins with `#`
abbrev first_of : List ℕ → ℕ
first_of [] = 0
first_of (b ∷ rest) = b

no_comment : (c : Command) (rest : List ℕ) → spelling c ≡ 0x23 ∷ rest → ⊥
no_comment (commands.Cluster n) rest e = let b = ap first_of e in absurd (omega (arith, b))
no_comment (commands.Send r) rest e = let b = ap first_of e in absurd (omega (arith, b))
no_comment (commands.Again n) rest e = let b = ap first_of e in absurd (omega (arith, b))
no_comment (commands.Deliver k) rest e = let b = ap first_of e in absurd (omega (arith, b))
no_comment (commands.Drop k) rest e = let b = ap first_of e in absurd (omega (arith, b))
no_comment commands.Settle rest e = let b = ap first_of e in absurd (omega (arith, b))
no_comment commands.Resend rest e = let b = ap first_of e in absurd (omega (arith, b))
no_comment commands.List rest e = let b = ap first_of e in absurd (omega (arith, b))
no_comment (commands.Log t) rest e = let b = ap first_of e in absurd (omega (arith, b))
no_comment commands.Tree rest e = let b = ap first_of e in absurd (omega (arith, b))
no_comment commands.End rest e = let b = ap first_of e in absurd (omega (arith, b))
no_comment (commands.Commit t) rest e = let b = ap first_of e in absurd (omega (arith, b))
no_comment (commands.Crash t) rest e = let b = ap first_of e in absurd (omega (arith, b))
no_comment (commands.Restart t) rest e = let b = ap first_of e in absurd (omega (arith, b))
no_comment (commands.Fuse t after choice) rest e = let b = ap first_of e in absurd (omega (arith, b))

pub not_skipped : (a : Option ℕ) (c : Command) → IsCommand a c → IsSkipped (spelling c) → ⊥
not_skipped a c h (inl none) = not_empty a c h none
not_skipped a c h (inr comment) = no_comment c comment.0 comment.1

-- what stands on a line has no line feed
pub entry_line : (a : Option ℕ) (e : Entry) → IsEntry a e → Lacks 10 (line_of e)
entry_line a (Skip line) h = h.1
entry_line a (Order c) h = one_line a c h

-- a line is one entry
pub one_entry : (a b : Option ℕ) (e f : Entry) → IsEntry a e → IsEntry b f → line_of e ≡ line_of f → e ≡ f
one_entry a b (Skip x) (Skip y) h k e = ap Skip e
one_entry a b (Skip x) (Order c) h k e = absurd (not_skipped b c k (subst IsSkipped e h.0))
one_entry a b (Order c) (Skip y) h k e = absurd (not_skipped a c h (subst IsSkipped (sym e) k.0))
one_entry a b (Order c) (Order d) h k e = ap Order (one_command a b c d h k e)
