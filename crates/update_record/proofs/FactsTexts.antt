-- Facts: what is spelled is read, and what is read is spelled.
use Rattle.std.proofs.Common.{◌≡◌, ℕ, zero, suc, ◌+◌, ◌^◌, ◌≤◌, ◌<◌, Bool, true, false, ◌==◌, if◌then◌else◌, List, ◌++◌, length, Option, Some, None, refl, sym, ap, subst, ◌∙◌, arith, lit<, length-append}
use Rattle.std.specs.Prelude.{nat_lt}
use Rattle.std.specs.Int.{w32, w64}
use Rattle.std.proofs.lemmas.Bool.{eqb-true, lt-ltb, ltb-true}
use Rattle.byte_grammar.specs.declared.verdict.Reason.TheVariants.{BadValue}
use Rattle.byte_grammar.specs.declared.verdict.Verdict.TheVariants.{Done}
use Rattle.byte_grammar.specs.Grammar.{judge}
use Rattle.byte_grammar.specs.Grammar.Grammar.{Ends}
use Rattle.byte_grammar.specs.Numbers.{word, IsBytes}
use Rattle.byte_grammar.proofs.Bytes.{wide32, wide64}
use Rattle.byte_grammar.proofs.Parts.{leads_then, number_leads, Takes, joined, number_takes}
use Rattle.byte_grammar.proofs.Judging.{done_place}
use Rattle.out_update.specs.Replies.{reply_text, reply_then}
use Rattle.out_update.proofs.Replies.{reply_inner_leads, reply_inner_takes}
use Rattle.update_record.specs.declared.message.Facts.{Facts}
use Rattle.update_record.specs.Messages.{writer_number, writer_targets, FitsWriter, facts_text, FitsFacts}
use Rattle.update_record.specs.MessageReading.{is_target_set, at_targets, at_writer, at_clock, whole_facts}

pub number_small : (w : Option (ℕ × ℕ)) → FitsWriter w → writer_number w < 2 ^ 32
number_small None h = lit< tt
number_small (Some w) h = h.1

targets_small : (w : Option (ℕ × ℕ)) → FitsWriter w → writer_targets w < 2 ^ 32
targets_small None h = lit< tt
targets_small (Some w) h = let x = h.2 in omega (arith, x)

positive : (n : ℕ) → (n == 0) ≡ false → 1 ≤ n
positive zero h = absurd cc
positive (suc n) h = omega arith

set_by : (b : Bool) (n s : ℕ) → (n == 0) ≡ b → 1 ≤ n → s < 65536 → (if b then s == 0 else nat_lt s 65536) ≡ true
set_by true n s is a b = let z = eqb-true n 0 is in absurd (omega arith)
set_by false n s is a b = lt-ltb s 65536 b

set_fits : (w : Option (ℕ × ℕ)) → FitsWriter w → is_target_set (writer_number w) (writer_targets w) ≡ true
set_fits None h = refl
set_fits (Some w) h = set_by (w.0 == 0) w.0 w.1 refl h.0 h.2

length-facts : (f : Facts) → length (facts_text f) ≡ 24 + length (reply_text f.reply)
length-facts f = simp (length-append, wide32.len, wide64.len) (omega arith)

pub facts_again : (f : Facts) (rest : List ℕ) → FitsFacts f → judge 24600 whole_facts 0 (facts_text f ++ rest) ≡ Done (length (facts_text f))
unfolding judge whole_facts at_clock at_writer at_targets
facts_again f rest h =
    let l : ℕ = 24600 in
    let n = writer_number f.writer in
    let s = writer_targets f.writer in
    let size = h.reply.size in
    let len = length-facts f in
    let l0 = wide64.len f.load in
    let l1 = wide64.len f.clock in
    let l2 = wide32.len n in
    let l3 = wide32.len s in
    let p1 = 0 + length (word w64 f.load) in
    let p2 = p1 + length (word w64 f.clock) in
    let p3 = p2 + length (word w32 n) in
    let p4 = p3 + length (word w32 s) in
    let x4 = reply_inner_leads l f.reply Ends p4 h.reply.count h.reply.each (omega arith) in
    let x3 = number_leads l w32 wide32 BadValue (is_target_set n) (λ _. reply_then Ends) p3 s (targets_small f.writer h.writer) (set_fits f.writer h.writer) (omega arith) in
    let t3 = leads_then l (at_targets n) (reply_then Ends) Ends p3 (word w32 s) (reply_text f.reply) x3 x4 in
    let x2 = number_leads l w32 wide32 BadValue (λ _. true) (λ k. at_targets k) p2 n (number_small f.writer h.writer) refl (omega arith) in
    let t2 = leads_then l at_writer (at_targets n) Ends p2 (word w32 n) _ x2 t3 in
    let x1 = number_leads l w64 wide64 BadValue (λ _. true) (λ _. at_writer) p1 f.clock h.clock refl (omega arith) in
    let t1 = leads_then l at_clock at_writer Ends p1 (word w64 f.clock) _ x1 t2 in
    let x0 = number_leads l w64 wide64 BadValue (λ _. true) (λ _. at_clock) 0 f.load h.load refl (omega arith) in
    let all = leads_then l whole_facts at_clock Ends 0 (word w64 f.load) _ x0 t1 in
    let e : 0 + length (facts_text f) ≡ length (facts_text f) = omega arith in
    all rest ∙ ap (λ (q : ℕ). Done q) e

writer_by : (b : Bool) (n s : ℕ) → (n == 0) ≡ b → n < 2 ^ 32 → (if b then s == 0 else nat_lt s 65536) ≡ true → (w : Option (ℕ × ℕ)) × FitsWriter w × (writer_number w ≡ n) × (writer_targets w ≡ s)
writer_by true n s is lt h = (None, tt, sym (eqb-true n 0 is), sym (eqb-true s 0 h))
writer_by false n s is lt h = (Some (n, s), (positive n is, lt, ltb-true s 65536 h), refl, refl)

writer_of : (n s : ℕ) → n < 2 ^ 32 → is_target_set n s ≡ true → (w : Option (ℕ × ℕ)) × FitsWriter w × (writer_number w ≡ n) × (writer_targets w ≡ s)
writer_of n s lt h = writer_by (n == 0) n s refl lt h

same_facts : (n s : ℕ) (f : Facts) → writer_number f.writer ≡ n → writer_targets f.writer ≡ s → word w64 f.load ++ (word w64 f.clock ++ (word w32 n ++ (word w32 s ++ reply_text f.reply))) ≡ facts_text f
same_facts n s f a b = rw (sym a, sym b) refl

place_of : {p k : ℕ} → Done p ≡ Done k → p ≡ k
place_of e = cc

pub facts_takes : (xs : List ℕ) (e : ℕ) → IsBytes xs → judge 24600 whole_facts 0 xs ≡ Done e → (f : Facts) × FitsFacts f × (rest : List ℕ) × (xs ≡ facts_text f ++ rest) × (e ≡ length (facts_text f))
unfolding judge whole_facts at_clock at_writer at_targets
facts_takes xs e h d =
    let l : ℕ = 24600 in
    let a0 = number_takes l w64 wide64 BadValue (λ _. true) (λ _. at_clock) 0 xs e h d in
    let p1 = 0 + length (word w64 a0.0) in
    let a1 = number_takes l w64 wide64 BadValue (λ _. true) (λ _. at_writer) p1 a0.3.rest e a0.3.fits a0.3.goes_on in
    let p2 = p1 + length (word w64 a1.0) in
    let a2 = number_takes l w32 wide32 BadValue (λ _. true) (λ k. at_targets k) p2 a1.3.rest e a1.3.fits a1.3.goes_on in
    let n = a2.0 in
    let p3 = p2 + length (word w32 n) in
    let a3 = number_takes l w32 wide32 BadValue (is_target_set n) (λ _. reply_then Ends) p3 a2.3.rest e a2.3.fits a2.3.goes_on in
    let p4 = p3 + length (word w32 a3.0) in
    let r = reply_inner_takes l Ends p4 a3.3.rest e a3.3.fits a3.3.goes_on in
    let w = writer_of n a3.0 a2.1 a3.2 in
    let f : Facts = record { load = a0.0; clock = a1.0; writer = w.0; reply = r.0 } in
    let t3 = joined l (reply_then Ends) Ends p3 a2.3.rest e (word w32 a3.0) (reply_text r.0) a3.3 r.3 in
    let t2 = joined l (at_targets n) Ends p2 a1.3.rest e (word w32 n) _ a2.3 t3 in
    let t1 = joined l at_writer Ends p1 a0.3.rest e (word w64 a1.0) _ a1.3 t2 in
    let t0 = joined l at_clock Ends 0 xs e (word w64 a0.0) _ a0.3 t1 in
    let all : Takes l Ends 0 xs e (facts_text f) = subst (Takes l Ends 0 xs e) (same_facts n a3.0 f w.2 w.3) t0 in
    let place : 0 + length (facts_text f) ≡ e = place_of all.goes_on in
    let bound = done_place l whole_facts 0 xs e d in
    let len = length-facts f in
    (f, record { load = a0.1; clock = a1.1; writer = w.1; reply = record { count = r.1; each = r.2; size = omega arith } }, all.rest, all.parts, omega arith)
