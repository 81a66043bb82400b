-- Requests of one question or none, and facts: what is spelled is read, and what is read is spelled.
use Rattle.std.proofs.Common.{◌≡◌, ℕ, zero, suc, ◌+◌, ◌≤◌, Bool, true, false, ◌==◌, if◌then◌else◌, List, [], ◌∷◌, ◌++◌, length, Option, Some, None, refl, sym, ap, subst, ◌∙◌, arith, lit<, length-append}
use Rattle.std.specs.Prelude.{nat_le}
use Rattle.std.specs.List.{AllByRecursion}
use Rattle.std.specs.Int.{w16, w32}
use Rattle.std.proofs.lemmas.Bool.{eqb-true, leb-true, le-leb}
use Rattle.std.proofs.lemmas.List.{append-nil}
use Rattle.std.proofs.lemmas.List.Concat.{flat_map-cons}
use Rattle.byte_grammar.specs.declared.verdict.Reason.TheVariants.{BadMagic, BadCount, BadValue}
use Rattle.byte_grammar.specs.declared.verdict.Verdict.TheVariants.{Done}
use Rattle.byte_grammar.specs.Grammar.{Grammar, judge}
use Rattle.byte_grammar.specs.Grammar.Grammar.{Ends}
use Rattle.byte_grammar.specs.Numbers.{word, worth, IsBytes, zeros}
use Rattle.byte_grammar.specs.Fields.{refuse, nothing}
use Rattle.byte_grammar.proofs.Bytes.{wide16, wide32, length-zeros}
use Rattle.byte_grammar.proofs.Parts.{Leads, leads_then, field_leads, number_leads, nothing_leads, Takes, joined, field_takes, number_takes, nothing_takes, passed}
use Rattle.byte_grammar.proofs.Judging.{done_place}
use Rattle.out_update.specs.declared.update.Update.{Update}
use Rattle.out_update.specs.declared.update.Kind.{Kind}
use Rattle.out_update.specs.Types.{code_of, kind_at, is_read}
use Rattle.out_update.specs.Spelling.{update_text, updates_text, request_text, request_magic, FitsUpdate, FitsRequest}
use Rattle.out_update.specs.Reading.{at_head}
use Rattle.out_update.proofs.Requests.{code_fits, kind_again, kind_is, rest_text, head_leads, head_takes}
use Rattle.update_record.specs.Messages.{AsksOne}
use Rattle.update_record.specs.MessageReading.{by_question, at_question, at_questions, at_question_count, whole_question}

length-request : (us : List Update) → length (request_text us) ≡ 8 + length (updates_text us)
length-request us = simp (length-append, length-zeros, wide16.len, wide32.len) (omega arith)

-- ---- what is written is read

one_update : (u : Update) → updates_text (u ∷ []) ≡ update_text u
unfolding updates_text
one_update u = flat_map-cons update_text u [] ∙ append-nil (update_text u)

question_leads : (u : Update) (p : ℕ) → is_read u.kind ≡ true → FitsUpdate u → p + length (update_text u) ≤ 24576 → Leads 24576 at_question Ends p (update_text u)
unfolding at_question
question_leads u p asks h fits =
    let l : ℕ = 24576 in
    let code = code_of u.kind in
    let two = wide16.len code in
    let all = length-append (word w16 code) (rest_text u) in
    let known : by_question (kind_at (worth w16 (word w16 code))) p ≡ at_head None u.kind Ends = ap (λ (m : ℕ). by_question (kind_at m) p) (wide16.again code (code_fits u.kind)) ∙ ap (λ (o : Option Kind). by_question o p) (kind_again u.kind) ∙ ap (λ (b : Bool). if b then at_head None u.kind Ends else refuse p BadValue) asks in
    let a = subst (λ (g : Grammar). Leads l at_question g p (word w16 code)) known (field_leads l 2 (λ place bytes. by_question (kind_at (worth w16 bytes)) place) p (word w16 code) two (omega arith)) in
    let b = head_leads None l u Ends (p + length (word w16 code)) h (omega arith) in
    leads_then l at_question (at_head None u.kind Ends) Ends p (word w16 code) (rest_text u) a b

none_lead : (p : ℕ) → Leads 24576 Ends Ends p (updates_text [])
unfolding updates_text
none_lead p = λ rest. let e : p ≡ p + 0 = omega arith in ap (λ (q : ℕ). judge 24576 Ends q rest) e

questions_lead : (us : List Update) (p : ℕ) → AsksOne us → AllByRecursion FitsUpdate us → p + length (updates_text us) ≤ 24576 → Leads 24576 (at_questions (length us)) Ends p (updates_text us)
questions_lead [] p asks h fits = none_lead p
questions_lead (u ∷ []) p asks h fits =
    let text = one_update u in
    subst (Leads 24576 at_question Ends p) (sym text) (question_leads u p asks.1.0 h.0 (omega (arith, ap length text)))
questions_lead (u ∷ v ∷ us) p asks h fits = let few = asks.0 in absurd (omega arith)

pub question_again : (us : List Update) (rest : List ℕ) → FitsRequest us × AsksOne us → judge 24576 whole_question 0 (request_text us ++ rest) ≡ Done (length (request_text us))
unfolding judge whole_question at_question_count
question_again us rest h =
    let l : ℕ = 24576 in
    let n = length us in
    let asks = h.1 in
    let few = asks.0 in
    let size = h.0.size in
    let len = length-request us in
    let l0 = wide32.len request_magic in
    let l1 = wide16.len n in
    let l2 = length-zeros 2 in
    let p1 = 0 + length (word w32 request_magic) in
    let p2 = p1 + length (word w16 n) in
    let p3 = p2 + length (zeros 2) in
    let x3 = questions_lead us p3 asks h.0.each (omega arith) in
    let x2 = nothing_leads l 2 (at_questions n) p2 (omega arith) in
    let t2 = leads_then l (nothing 2 (at_questions n)) (at_questions n) Ends p2 (zeros 2) (updates_text us) x2 x3 in
    let x1 = number_leads l w16 wide16 BadCount (λ k. nat_le k 1) (λ k. nothing 2 (at_questions k)) p1 n (omega arith) (le-leb n 1 few) (omega arith) in
    let t1 = leads_then l at_question_count (nothing 2 (at_questions n)) Ends p1 (word w16 n) _ x1 t2 in
    let x0 = number_leads l w32 wide32 BadMagic (λ k. k == request_magic) (λ _. at_question_count) 0 request_magic (lit< tt) refl (omega arith) in
    let all = leads_then l whole_question at_question_count Ends 0 (word w32 request_magic) _ x0 t1 in
    let e : 0 + length (request_text us) ≡ length (request_text us) = omega arith in
    all rest ∙ ap (λ (q : ℕ). Done q) e

-- ---- what is read was written

kind_taken : (l : ℕ) (o : Option Kind) (p q : ℕ) (xs : List ℕ) (e : ℕ) → judge l (by_question o p) q xs ≡ Done e → (k : Kind) × (o ≡ Some k) × (is_read k ≡ true) × (judge l (at_head None k Ends) q xs ≡ Done e)
unfolding judge
kind_taken l None p q xs e d = absurd cc
kind_taken l (Some k) p q xs e d = let g = passed l (is_read k) (at_head None k Ends) p q BadValue xs e d in (k, refl, g.0, g.1)

question_takes_one : (p : ℕ) (xs : List ℕ) (e : ℕ) → IsBytes xs → judge 24576 at_question p xs ≡ Done e → (u : Update) × FitsUpdate u × (is_read u.kind ≡ true) × Takes 24576 Ends p xs e (update_text u)
unfolding at_question
question_takes_one p xs e h d =
    let l : ℕ = 24576 in
    let f = field_takes l 2 (λ place bytes. by_question (kind_at (worth w16 bytes)) place) p xs e h d in
    let k = kind_taken l (kind_at (worth w16 f.0)) p (p + length f.0) f.3.rest e f.3.goes_on in
    let u = head_takes None l k.0 Ends (p + length f.0) f.3.rest e f.3.fits refl k.3 in
    let code : f.0 ≡ word w16 (code_of u.0.kind) = sym (wide16.back f.0 f.1 f.2) ∙ ap (word w16) (sym (kind_is (worth w16 f.0) k.0 k.1) ∙ ap code_of (sym u.1)) in
    let both = joined l (at_head None k.0 Ends) Ends p xs e f.0 (rest_text u.0) (record { rest = f.3.rest; parts = f.3.parts; fits = f.3.fits; goes_on = k.3 }) u.3 in
    (u.0, u.2, ap is_read u.1 ∙ k.2, subst (λ (t : List ℕ). Takes l Ends p xs e (t ++ rest_text u.0)) code both)

record TakesQuestions (n p : ℕ) (xs : List ℕ) (e : ℕ) : Type 0 where
  us : List Update
  count : length us ≡ n
  each : AllByRecursion FitsUpdate us
  asks : AllByRecursion (λ u. is_read u.kind ≡ true) us
  text : Takes 24576 Ends p xs e (updates_text us)

nothing_taken : (p : ℕ) (xs : List ℕ) (e : ℕ) → IsBytes xs → judge 24576 Ends p xs ≡ Done e → Takes 24576 Ends p xs e (updates_text [])
unfolding updates_text
nothing_taken p xs e h d = record { rest = xs; parts = refl; fits = h; goes_on = let q : p + 0 ≡ p = omega arith in ap (λ (q : ℕ). judge 24576 Ends q xs) q ∙ d }

questions_by : (b : Bool) (n p : ℕ) (xs : List ℕ) (e : ℕ) → IsBytes xs → (n == 0) ≡ b → n ≤ 1 → judge 24576 (if b then Ends else at_question) p xs ≡ Done e → TakesQuestions n p xs e
questions_by true n p xs e h is le d = record { us = []; count = sym (eqb-true n 0 is); each = tt; asks = tt; text = nothing_taken p xs e h d }
questions_by false zero p xs e h is le d = absurd cc
questions_by false (suc n) p xs e h is le d =
    let u = question_takes_one p xs e h d in
    record {
      us = u.0 ∷ [];
      count = let one : 1 ≡ suc n = omega arith in one;
      each = (u.1, tt);
      asks = (u.2, tt);
      text = subst (Takes 24576 Ends p xs e) (sym (one_update u.0)) u.3;
    }

same_request : (m n : ℕ) (us : List Update) → m ≡ request_magic → n ≡ length us → word w32 m ++ (word w16 n ++ (zeros 2 ++ updates_text us)) ≡ request_text us
same_request m n us a b = ap (λ (x : ℕ). word w32 x ++ (word w16 n ++ (zeros 2 ++ updates_text us))) a ∙ ap (λ (x : ℕ). word w32 request_magic ++ (word w16 x ++ (zeros 2 ++ updates_text us))) b

place_of : {p k : ℕ} → Done p ≡ Done k → p ≡ k
place_of e = cc

pub question_takes : (xs : List ℕ) (e : ℕ) → IsBytes xs → judge 24576 whole_question 0 xs ≡ Done e → (us : List Update) × (FitsRequest us × AsksOne us) × (rest : List ℕ) × (xs ≡ request_text us ++ rest) × (e ≡ length (request_text us))
unfolding judge whole_question at_question_count
question_takes xs e h d =
    let l : ℕ = 24576 in
    let a0 = number_takes l w32 wide32 BadMagic (λ k. k == request_magic) (λ _. at_question_count) 0 xs e h d in
    let p1 = 0 + length (word w32 a0.0) in
    let a1 = number_takes l w16 wide16 BadCount (λ k. nat_le k 1) (λ k. nothing 2 (at_questions k)) p1 a0.3.rest e a0.3.fits a0.3.goes_on in
    let n = a1.0 in
    let few = leb-true n 1 a1.2 in
    let p2 = p1 + length (word w16 n) in
    let a2 = nothing_takes l 2 (at_questions n) p2 a1.3.rest e a1.3.fits a1.3.goes_on in
    let q = questions_by (n == 0) n (p2 + length (zeros 2)) a2.rest e a2.fits refl few a2.goes_on in
    let t2 = joined l (at_questions n) Ends p2 a1.3.rest e (zeros 2) (updates_text q.us) a2 q.text in
    let t1 = joined l (nothing 2 (at_questions n)) Ends p1 a0.3.rest e (word w16 n) _ a1.3 t2 in
    let t0 = joined l at_question_count Ends 0 xs e (word w32 a0.0) _ a0.3 t1 in
    let all : Takes l Ends 0 xs e (request_text q.us) = subst (Takes l Ends 0 xs e) (same_request a0.0 n q.us (eqb-true a0.0 request_magic a0.2) (sym q.count)) t0 in
    let place : 0 + length (request_text q.us) ≡ e = place_of all.goes_on in
    let bound = done_place l whole_question 0 xs e d in
    let count = q.count in
    (q.us, (record { count = omega arith; each = q.each; size = omega arith }, (omega arith, q.asks)), all.rest, all.parts, omega arith)
