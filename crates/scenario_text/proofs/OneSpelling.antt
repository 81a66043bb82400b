-- No two commands have one spelling.
use Rattle.std.proofs.Common.{◌≡◌, ◌==◌, ◌<◌, ◌≤◌, ◌^◌, ◌+◌, ◌*◌, ℕ, Option, Some, None, List, [], ◌∷◌, length, codes, refl, sym, ap, ◌∙◌, arith}
use Rattle.std.specs.List.{slice_split, AllByRecursion}
use Rattle.std.specs.Fmt.{decimal}
use Rattle.std.proofs.lemmas.Fmt.{decimal_is_IsNumeral, decimal_injective}
use Rattle.fid_space.proofs.Splitting.{Lacks, lacks_by_test, lacks_digits, split_join}
use Rattle.tree_model.specs.OpText.{op_words, IsOp}
use Rattle.tree_model.specs.declared.op.Request.{Request}
use Rattle.tree_model.proofs.OpTexts.{op_lacks}
use Rattle.tree_model.proofs.OneOp.{op_injective}
use Rattle.scenario_text.specs.Spelling.{IsCommand, IsRequest, IsTarget, spelling, words_of}
use Rattle.scenario_text.specs.declared.command.Command.{Command}
use Rattle.scenario_text.specs.declared.command.Command.TheVariants as commands

-- the request's limits, in whichever cluster it is read
pub limits : (cluster : Option ℕ) (r : Request) → IsRequest cluster r → (n : ℕ) × (1 ≤ r.number) × (r.number ≤ 65536) × (r.client < 64) × IsOp n r.op
limits None r h = absurd h
limits (Some n) r h = (n, h.0, h.1, h.2, h.3)

digits_lack : (n : ℕ) → n < 2 ^ 64 → Lacks 32 (decimal n)
digits_lack n low = lacks_digits 10 32 (omega arith) (decimal n) (decimal_is_IsNumeral n low).0.1

-- a target's number is small
pub low_target : (a : Option ℕ) (t : ℕ) → IsTarget a t → t < 2 ^ 64
low_target None t h = absurd h
low_target (Some n) t h = omega (arith, h.1)

words_lack : (a : Option ℕ) (c : Command) → IsCommand a c → AllByRecursion (λ w. Lacks 32 w) (words_of c)
words_lack a (commands.Cluster n) h = (lacks_by_test 32 (codes "cluster") refl, (digits_lack n (omega (arith, h.1)), tt))
words_lack a (commands.Send r) h =
    let l = limits a r h in
    (lacks_by_test 32 (codes "send") refl, (digits_lack r.number (omega (arith, l.2)), (digits_lack r.client (omega (arith, l.3)), op_lacks l.0 r.op l.4)))
words_lack a (commands.Again n) h = (lacks_by_test 32 (codes "again") refl, (digits_lack n (omega (arith, h.1)), tt))
words_lack a (commands.Deliver k) h = (lacks_by_test 32 (codes "deliver") refl, (digits_lack k (omega (arith, h)), tt))
words_lack a (commands.Drop k) h = (lacks_by_test 32 (codes "drop") refl, (digits_lack k (omega (arith, h)), tt))
words_lack a commands.Settle h = (lacks_by_test 32 (codes "settle") refl, tt)
words_lack a commands.Resend h = (lacks_by_test 32 (codes "resend") refl, tt)
words_lack a commands.List h = (lacks_by_test 32 (codes "list") refl, tt)
words_lack a (commands.Log t) h = (lacks_by_test 32 (codes "log") refl, (digits_lack t (low_target a t h), tt))
words_lack a commands.Tree h = (lacks_by_test 32 (codes "tree") refl, tt)
words_lack a commands.End h = (lacks_by_test 32 (codes "end") refl, tt)
words_lack a (commands.Commit t) h = (lacks_by_test 32 (codes "commit") refl, (digits_lack t (low_target a t h), tt))
words_lack a (commands.Crash t) h = (lacks_by_test 32 (codes "crash") refl, (digits_lack t (low_target a t h), tt))
words_lack a (commands.Restart t) h = (lacks_by_test 32 (codes "restart") refl, (digits_lack t (low_target a t h), tt))
words_lack a (commands.Fuse t after choice) h =
    (lacks_by_test 32 (codes "fuse") refl, (digits_lack t (low_target a t h.0), (digits_lack after (omega (arith, h.1)), (digits_lack choice (omega (arith, h.2)), tt))))

-- the words of a spelling are the command's
pub cut_words : (a : Option ℕ) (c : Command) → IsCommand a c → slice_split (λ x. x == 32) (spelling c) ≡ words_of c
cut_words a (commands.Cluster n) h = split_join 32 (codes "cluster") (decimal n ∷ []) (words_lack a (commands.Cluster n) h)
cut_words a (commands.Send r) h = split_join 32 (codes "send") (decimal r.number ∷ decimal r.client ∷ op_words r.op) (words_lack a (commands.Send r) h)
cut_words a (commands.Again n) h = split_join 32 (codes "again") (decimal n ∷ []) (words_lack a (commands.Again n) h)
cut_words a (commands.Deliver k) h = split_join 32 (codes "deliver") (decimal k ∷ []) (words_lack a (commands.Deliver k) h)
cut_words a (commands.Drop k) h = split_join 32 (codes "drop") (decimal k ∷ []) (words_lack a (commands.Drop k) h)
cut_words a commands.Settle h = split_join 32 (codes "settle") [] (words_lack a commands.Settle h)
cut_words a commands.Resend h = split_join 32 (codes "resend") [] (words_lack a commands.Resend h)
cut_words a commands.List h = split_join 32 (codes "list") [] (words_lack a commands.List h)
cut_words a (commands.Log t) h = split_join 32 (codes "log") (decimal t ∷ []) (words_lack a (commands.Log t) h)
cut_words a commands.Tree h = split_join 32 (codes "tree") [] (words_lack a commands.Tree h)
cut_words a commands.End h = split_join 32 (codes "end") [] (words_lack a commands.End h)
cut_words a (commands.Commit t) h = split_join 32 (codes "commit") (decimal t ∷ []) (words_lack a (commands.Commit t) h)
cut_words a (commands.Crash t) h = split_join 32 (codes "crash") (decimal t ∷ []) (words_lack a (commands.Crash t) h)
cut_words a (commands.Restart t) h = split_join 32 (codes "restart") (decimal t ∷ []) (words_lack a (commands.Restart t) h)
cut_words a (commands.Fuse t after choice) h = split_join 32 (codes "fuse") (decimal t ∷ decimal after ∷ decimal choice ∷ []) (words_lack a (commands.Fuse t after choice) h)

-- two targets that one word spells are one
same_target : (a b : Option ℕ) (s t : ℕ) → IsTarget a s → IsTarget b t → decimal s ≡ decimal t → s ≡ t
same_target a b s t h k e = decimal_injective s t (low_target a s h) (low_target b t k) e

-- the first word's length and first byte tell the command's kind
abbrev pub word_tag : List (List ℕ) → ℕ
word_tag [] = 0
word_tag ([] ∷ ws) = 0
word_tag ((b ∷ w) ∷ ws) = b + 256 * length w

words_injective : (a b : Option ℕ) (c d : Command) → IsCommand a c → IsCommand b d → words_of c ≡ words_of d → c ≡ d
words_injective a b (commands.Send r) (commands.Send s) h k e =
    let numbers : decimal r.number ≡ decimal s.number = cc in
    let clients : decimal r.client ≡ decimal s.client = cc in
    let ops : op_words r.op ≡ op_words s.op = cc in
    let l = limits a r h in
    let m = limits b s k in
    let number = decimal_injective r.number s.number (omega (arith, l.2)) (omega (arith, m.2)) numbers in
    let client = decimal_injective r.client s.client (omega (arith, l.3)) (omega (arith, m.3)) clients in
    let op = op_injective l.0 m.0 r.op s.op l.4 m.4 ops in
    λ i. commands.Send (record { number = number i; client = client i; op = op i })
words_injective a b (commands.Cluster m) (commands.Cluster n) h k e = (
    let word : decimal m ≡ decimal n = cc in
    ap commands.Cluster (decimal_injective m n (omega (arith, h.1)) (omega (arith, k.1)) word))
words_injective a b (commands.Again m) (commands.Again n) h k e = (
    let word : decimal m ≡ decimal n = cc in
    ap commands.Again (decimal_injective m n (omega (arith, h.1)) (omega (arith, k.1)) word))
words_injective a b (commands.Deliver m) (commands.Deliver n) h k e = (
    let word : decimal m ≡ decimal n = cc in
    ap commands.Deliver (decimal_injective m n (omega (arith, h)) (omega (arith, k)) word))
words_injective a b (commands.Drop m) (commands.Drop n) h k e = (
    let word : decimal m ≡ decimal n = cc in
    ap commands.Drop (decimal_injective m n (omega (arith, h)) (omega (arith, k)) word))
words_injective a b commands.Settle commands.Settle h k e = refl
words_injective a b commands.Resend commands.Resend h k e = refl
words_injective a b commands.List commands.List h k e = refl
words_injective a b (commands.Log s) (commands.Log t) h k e = let word : decimal s ≡ decimal t = cc in ap commands.Log (same_target a b s t h k word)
words_injective a b commands.Tree commands.Tree h k e = refl
words_injective a b commands.End commands.End h k e = refl
words_injective a b (commands.Commit s) (commands.Commit t) h k e = let word : decimal s ≡ decimal t = cc in ap commands.Commit (same_target a b s t h k word)
words_injective a b (commands.Crash s) (commands.Crash t) h k e = let word : decimal s ≡ decimal t = cc in ap commands.Crash (same_target a b s t h k word)
words_injective a b (commands.Restart s) (commands.Restart t) h k e = let word : decimal s ≡ decimal t = cc in ap commands.Restart (same_target a b s t h k word)
words_injective a b (commands.Fuse s m x) (commands.Fuse t n y) h k e =
    let target : decimal s ≡ decimal t = cc in
    let after : decimal m ≡ decimal n = cc in
    let choice : decimal x ≡ decimal y = cc in
    let one = same_target a b s t h.0 k.0 target in
    let two = decimal_injective m n (omega (arith, h.1)) (omega (arith, k.1)) after in
    let three = decimal_injective x y (omega (arith, h.2)) (omega (arith, k.2)) choice in
    λ i. commands.Fuse (one i) (two i) (three i)
words_injective a b c d h k e = (let tag = ap word_tag e in absurd (omega (arith, tag)))

pub one_command : (a b : Option ℕ) (c d : Command) → IsCommand a c → IsCommand b d → spelling c ≡ spelling d → c ≡ d
one_command a b c d p q e = words_injective a b c d p q (sym (cut_words a c p) ∙ ap (slice_split (λ x. x == 32)) e ∙ cut_words b d q)
