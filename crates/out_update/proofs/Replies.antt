-- What is spelled is read to its end, what is read to its end is spelled, and the value is that which was spelled.
use Rattle.std.proofs.Common.{◌≡◌, ℕ, zero, suc, ◌+◌, ◌≤◌, List, [], ◌∷◌, ◌++◌, length, Some, refl, sym, ap, subst, ◌∙◌, arith, lit<, ◌==◌, append_assoc, length-append}
use Rattle.std.specs.Prelude.{nat_le}
use Rattle.std.specs.List.{AllByRecursion}
use Rattle.std.specs.Int.{w16, w32}
use Rattle.std.proofs.lemmas.Bool.{eqb-true, leb-true, le-leb}
use Rattle.std.proofs.lemmas.List.Concat.{flat_map-cons}
use Rattle.byte_grammar.specs.declared.verdict.Reason.TheVariants.{BadMagic, BadCount, BadLength, BadValue}
use Rattle.byte_grammar.specs.declared.verdict.Verdict.TheVariants.{Done}
use Rattle.byte_grammar.specs.Grammar.{Grammar, judge}
use Rattle.byte_grammar.specs.Grammar.Grammar.{Ends, Field}
use Rattle.byte_grammar.specs.Numbers.{word, IsBytes, zeros, padding}
use Rattle.byte_grammar.specs.Fields.{nothing}
use Rattle.byte_grammar.specs.Values.{many}
use Rattle.byte_grammar.proofs.Bytes.{wide16, wide32, length-zeros}
use Rattle.byte_grammar.proofs.Parts.{Leads, leads_then, field_leads, number_leads, nothing_leads, Takes, joined, field_takes, number_takes, nothing_takes}
use Rattle.byte_grammar.proofs.Judging.{done_place}
use Rattle.byte_grammar.proofs.Again.{part_again, number_back}
use Rattle.out_update.specs.declared.result.UpdateResult.{UpdateResult}
use Rattle.out_update.specs.Replies.{reply_magic, is_code, result_text, results_text, reply_text, FitsResult, FitsReply, at_length, at_result, at_results, at_reply_count, reply_then, reply}
use Rattle.out_update.specs.Values.{result_value, reply_at, reply_value, front}

length-result : (r : UpdateResult) → length (result_text r) ≡ 8 + length r.body + padding (length r.body)
length-result r = simp (length-append, length-zeros, wide32.len) (omega arith)

result_leads : (l : ℕ) (r : UpdateResult) (next : Grammar) (p : ℕ) → FitsResult r → p + length (result_text r) ≤ l → Leads l (at_result next) next p (result_text r)
unfolding at_result at_length
result_leads l r next p h fits =
    let n = length r.body in
    let len = length-result r in
    let g3 = nothing (padding n) next in
    let g2 = Field n (λ place bytes. g3) in
    let p1 = p + length (word w32 r.code) in
    let p2 = p1 + length (word w32 n) in
    let p3 = p2 + n in
    let f1 = wide32.len r.code in
    let f2 = wide32.len n in
    let a = number_leads l w32 wide32 BadValue is_code (λ _. at_length next) p r.code h.code h.code_known (omega arith) in
    let b = number_leads l w32 wide32 BadLength (λ m. nat_le m 16384) (λ m. Field m (λ place bytes. nothing (padding m) next)) p1 n (omega (arith, h.size)) (le-leb n 16384 h.size) (omega arith) in
    let c = field_leads l n (λ place bytes. g3) p2 r.body refl (omega arith) in
    let d = nothing_leads l (padding n) next p3 (omega arith) in
    let cd = leads_then l g2 g3 next p2 r.body (zeros (padding n)) c d in
    let bd = leads_then l (at_length next) g2 next p1 (word w32 n) _ b cd in
    leads_then l (at_result next) (at_length next) next p (word w32 r.code) _ a bd

same_result : (n : ℕ) (r : UpdateResult) → n ≡ length r.body → word w32 r.code ++ (word w32 n ++ (r.body ++ zeros (padding n))) ≡ result_text r
same_result n r e = ap (λ (m : ℕ). word w32 r.code ++ (word w32 m ++ (r.body ++ zeros (padding m)))) e

result_takes : (l : ℕ) (next : Grammar) (p : ℕ) (xs : List ℕ) (e : ℕ) → IsBytes xs → judge l (at_result next) p xs ≡ Done e → (r : UpdateResult) × FitsResult r × Takes l next p xs e (result_text r)
unfolding at_result at_length
result_takes l next p xs e h d =
    let a = number_takes l w32 wide32 BadValue is_code (λ _. at_length next) p xs e h d in
    let p1 = p + length (word w32 a.0) in
    let b = number_takes l w32 wide32 BadLength (λ m. nat_le m 16384) (λ m. Field m (λ place bytes. nothing (padding m) next)) p1 a.3.rest e a.3.fits a.3.goes_on in
    let n = b.0 in
    let g3 = nothing (padding n) next in
    let p2 = p1 + length (word w32 n) in
    let c = field_takes l n (λ place bytes. g3) p2 b.3.rest e b.3.fits b.3.goes_on in
    let z = nothing_takes l (padding n) next (p2 + length c.0) c.3.rest e c.3.fits c.3.goes_on in
    let r : UpdateResult = record { code = a.0; body = c.0 } in
    let cz = joined l g3 next p2 b.3.rest e c.0 (zeros (padding n)) c.3 z in
    let bz = joined l _ next p1 a.3.rest e (word w32 n) _ b.3 cz in
    let az = joined l (at_length next) next p xs e (word w32 a.0) _ a.3 bz in
    (r, record { code = a.1; code_known = a.2; size = omega (arith, leb-true n 16384 b.2, c.1) }, subst (Takes l next p xs e) (same_result n r (sym c.1)) az)

results_lead : (l : ℕ) (rs : List UpdateResult) (after : Grammar) (p : ℕ) → AllByRecursion FitsResult rs → p + length (results_text rs) ≤ l → Leads l (at_results (length rs) after) after p (results_text rs)
unfolding at_results results_text
results_lead l [] after p h fits = λ rest. let e : p ≡ p + 0 = omega arith in ap (λ (q : ℕ). judge l after q rest) e
results_lead l (r ∷ rs) after p h fits =
    let next = at_results (length rs) after in
    let cut : results_text (r ∷ rs) ≡ result_text r ++ results_text rs = flat_map-cons result_text r rs in
    let len = ap length cut ∙ length-append (result_text r) (results_text rs) in
    let a = result_leads l r next p h.0 (omega arith) in
    let b = results_lead l rs after (p + length (result_text r)) h.1 (omega arith) in
    subst (Leads l (at_result next) after p) (sym cut) (leads_then l (at_result next) next after p (result_text r) (results_text rs) a b)

results_take : (l n : ℕ) (after : Grammar) (p : ℕ) (xs : List ℕ) (e : ℕ) → IsBytes xs → judge l (at_results n after) p xs ≡ Done e → (rs : List UpdateResult) × (length rs ≡ n) × AllByRecursion FitsResult rs × Takes l after p xs e (results_text rs)
unfolding at_results results_text
results_take l zero after p xs e h d = ([], refl, tt, record { rest = xs; parts = refl; fits = h; goes_on = let q : p + 0 ≡ p = omega arith in ap (λ (q : ℕ). judge l after q xs) q ∙ d })
results_take l (suc n) after p xs e h d =
    let r = result_takes l (at_results n after) p xs e h d in
    let rs = results_take l n after (p + length (result_text r.0)) r.2.rest e r.2.fits r.2.goes_on in
    let both = joined l (at_results n after) after p xs e (result_text r.0) (results_text rs.0) r.2 rs.3 in
    (r.0 ∷ rs.0, ap (λ (m : ℕ). suc m) rs.1, (r.1, rs.2), subst (Takes l after p xs e) (sym (flat_map-cons result_text r.0 rs.0)) both)

length-reply : (rs : List UpdateResult) → length (reply_text rs) ≡ 8 + length (results_text rs)
length-reply rs = simp (length-append, length-zeros, wide16.len, wide32.len) (omega arith)

-- a reply at any place, whatever follows it
pub reply_inner_leads : (l : ℕ) (rs : List UpdateResult) (after : Grammar) (p : ℕ) → length rs ≤ 128 → AllByRecursion FitsResult rs → p + length (reply_text rs) ≤ l → Leads l (reply_then after) after p (reply_text rs)
unfolding reply_then at_reply_count
reply_inner_leads l rs after p few each fits =
    let n = length rs in
    let len = length-reply rs in
    let g3 = at_results n after in
    let g2 = nothing 2 g3 in
    let p1 = p + length (word w32 reply_magic) in
    let p2 = p1 + length (word w16 n) in
    let four = wide32.len reply_magic in
    let two = wide16.len n in
    let z2 = length-zeros 2 in
    let a = number_leads l w32 wide32 BadMagic (λ n. n == reply_magic) (λ _. at_reply_count after) p reply_magic (lit< tt) refl (omega arith) in
    let b = number_leads l w16 wide16 BadCount (λ n. nat_le n 128) (λ n. nothing 2 (at_results n after)) p1 n (omega (arith, few)) (le-leb n 128 few) (omega arith) in
    let c = nothing_leads l 2 g3 p2 (omega arith) in
    let d = results_lead l rs after (p2 + length (zeros 2)) each (omega arith) in
    let cd = leads_then l g2 g3 after p2 (zeros 2) (results_text rs) c d in
    let bd = leads_then l (at_reply_count after) g2 after p1 (word w16 n) _ b cd in
    leads_then l (reply_then after) (at_reply_count after) after p (word w32 reply_magic) _ a bd

same_reply : (m n : ℕ) (rs : List UpdateResult) → m ≡ reply_magic → n ≡ length rs → word w32 m ++ (word w16 n ++ (zeros 2 ++ results_text rs)) ≡ reply_text rs
same_reply m n rs a b = ap (λ (x : ℕ). word w32 x ++ (word w16 n ++ (zeros 2 ++ results_text rs))) a ∙ ap (λ (x : ℕ). word w32 reply_magic ++ (word w16 x ++ (zeros 2 ++ results_text rs))) b

pub reply_inner_takes : (l : ℕ) (after : Grammar) (p : ℕ) (xs : List ℕ) (e : ℕ) → IsBytes xs → judge l (reply_then after) p xs ≡ Done e → (rs : List UpdateResult) × (length rs ≤ 128) × AllByRecursion FitsResult rs × Takes l after p xs e (reply_text rs)
unfolding reply_then at_reply_count
reply_inner_takes l after p xs e h d =
    let a = number_takes l w32 wide32 BadMagic (λ n. n == reply_magic) (λ _. at_reply_count after) p xs e h d in
    let p1 = p + length (word w32 a.0) in
    let b = number_takes l w16 wide16 BadCount (λ n. nat_le n 128) (λ n. nothing 2 (at_results n after)) p1 a.3.rest e a.3.fits a.3.goes_on in
    let n = b.0 in
    let p2 = p1 + length (word w16 n) in
    let c = nothing_takes l 2 (at_results n after) p2 b.3.rest e b.3.fits b.3.goes_on in
    let rs = results_take l n after (p2 + length (zeros 2)) c.rest e c.fits c.goes_on in
    let ce = joined l (at_results n after) after p2 b.3.rest e (zeros 2) (results_text rs.0) c rs.3 in
    let be = joined l (nothing 2 (at_results n after)) after p1 a.3.rest e (word w16 n) _ b.3 ce in
    let ae = joined l (at_reply_count after) after p xs e (word w32 a.0) _ a.3 be in
    (rs.0, subst (λ m. m ≤ 128) (sym rs.1) (leb-true n 128 b.2), rs.2, subst (Takes l after p xs e) (same_reply a.0 n rs.0 (eqb-true a.0 reply_magic a.2) (sym rs.1)) ae)

-- ---- a reply alone

pub reply_again : (rs : List UpdateResult) (rest : List ℕ) → FitsReply rs → judge 24576 reply 0 (reply_text rs ++ rest) ≡ Done (length (reply_text rs))
unfolding judge reply
reply_again rs rest h =
    let size = h.size in
    let e : 0 + length (reply_text rs) ≡ length (reply_text rs) = omega arith in
    reply_inner_leads 24576 rs Ends 0 h.count h.each (omega arith) rest ∙ ap (λ (q : ℕ). Done q) e

place_of : {p k : ℕ} → Done p ≡ Done k → p ≡ k
place_of e = cc

pub reply_takes : (xs : List ℕ) (e : ℕ) → IsBytes xs → judge 24576 reply 0 xs ≡ Done e → (rs : List UpdateResult) × FitsReply rs × (rest : List ℕ) × (xs ≡ reply_text rs ++ rest) × (e ≡ length (reply_text rs))
unfolding judge reply
reply_takes xs e h d =
    let t = reply_inner_takes 24576 Ends 0 xs e h d in
    let place : 0 + length (reply_text t.0) ≡ e = place_of t.3.goes_on in
    let bound = done_place 24576 reply 0 xs e d in
    (t.0, record { count = t.1; each = t.2; size = omega arith }, t.3.rest, t.3.parts, omega arith)

-- ---- the value

result_back : (r : UpdateResult) (rest : List ℕ) → FitsResult r → result_value (result_text r ++ rest) ≡ Some (r, rest)
unfolding result_value
result_back r rest h =
    let n = length r.body in
    let r3 = zeros (padding n) ++ rest in
    let r2 = r.body ++ r3 in
    let r1 = word w32 n ++ r2 in
    let e : result_text r ++ rest ≡ word w32 r.code ++ r1 = simp append_assoc in
    ap result_value e ∙ rw (number_back w32 wide32 r.code r1 h.code, number_back w32 wide32 n r2 (omega (arith, h.size)), part_again n r.body r3 refl, part_again (padding n) (zeros (padding n)) rest (length-zeros (padding n))) refl

results_back : (rs : List UpdateResult) (rest : List ℕ) → AllByRecursion FitsResult rs → many result_value (length rs) (results_text rs ++ rest) ≡ Some (rs, rest)
unfolding many results_text
results_back [] rest h = refl
results_back (r ∷ rs) rest h =
    let e : results_text (r ∷ rs) ++ rest ≡ result_text r ++ (results_text rs ++ rest) = ap (λ (t : List ℕ). t ++ rest) (flat_map-cons result_text r rs) ∙ append_assoc (result_text r) (results_text rs) rest in
    ap (many result_value (suc (length rs))) e ∙ rw (result_back r (results_text rs ++ rest) h.0, results_back rs rest h.1) refl

pub reply_found : (rs : List UpdateResult) (rest : List ℕ) → length rs ≤ 128 → AllByRecursion FitsResult rs → reply_at (reply_text rs ++ rest) ≡ Some (rs, rest)
unfolding reply_at
reply_found rs rest count each =
    let n = length rs in
    let r3 = results_text rs ++ rest in
    let r2 = zeros 2 ++ r3 in
    let r1 = word w16 n ++ r2 in
    let e : reply_text rs ++ rest ≡ word w32 reply_magic ++ r1 = simp append_assoc in
    ap reply_at e
    ∙ rw (part_again 4 (word w32 reply_magic) r1 (wide32.len reply_magic), number_back w16 wide16 n r2 (omega (arith, count)), part_again 2 (zeros 2) r3 (length-zeros 2), results_back rs rest each) refl

pub reply_back : (rs : List UpdateResult) (rest : List ℕ) → FitsReply rs → reply_value (reply_text rs ++ rest) ≡ Some rs
reply_back rs rest h = ap front (reply_found rs rest h.count h.each)
