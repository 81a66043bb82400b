-- What is spelled is read to its end, and what is read to its end is spelled.
use Rattle.std.proofs.Common.{◌≡◌, ℕ, zero, suc, ◌+◌, ◌^◌, ◌≤◌, ◌<◌, Bool, true, false, ◌==◌, ◌||◌, ◌&&◌, ◌⊎◌, if◌then◌else◌, List, [], ◌∷◌, ◌++◌, length, Some, refl, sym, ap, subst, ◌∙◌, arith, lit<, append_assoc, length-append, inl, inr}
use Rattle.std.specs.Prelude.{nat_le}
use Rattle.std.specs.List.{AllByRecursion}
use Rattle.std.specs.Int.{w32, w64}
use Rattle.std.proofs.lemmas.Bool.{eqb-true, eq-eqb, leb-true, le-leb}
use Rattle.std.proofs.lemmas.List.{nil_from_length, append-nil}
use Rattle.std.proofs.lemmas.List.Concat.{flat_map-cons}
use Rattle.tree_model.specs.declared.errno.Errno.{Errno}
use Rattle.tree_model.specs.Errnos.{errno_code}
use Rattle.tree_model.specs.declared.errno.Errno.TheVariants.{EPERM}
use Rattle.tree_model.specs.declared.reply.Reply.{Reply}
use Rattle.tree_model.specs.declared.reply.Reply.TheVariants as replies
use Rattle.byte_grammar.specs.declared.verdict.Reason.TheVariants.{BadMagic, BadCount, BadLength, BadValue}
use Rattle.byte_grammar.specs.declared.verdict.Verdict.TheVariants.{Done}
use Rattle.byte_grammar.specs.Grammar.{Grammar, judge}
use Rattle.byte_grammar.specs.Grammar.Grammar.{Ends}
use Rattle.byte_grammar.specs.Numbers.{word, worth, IsBytes, zeros}
use Rattle.byte_grammar.specs.Fields.{number, refuse, nothing}
use Rattle.byte_grammar.proofs.Bytes.{wide32, wide64, length-zeros}
use Rattle.byte_grammar.proofs.Parts.{Leads, leads_then, field_leads, number_leads, nothing_leads, Takes, joined, field_takes, number_takes, nothing_takes, goes_as, passed}
use Rattle.byte_grammar.proofs.Judging.{done_place}
use Rattle.out_update.specs.declared.update.Update.{Update}
use Rattle.out_update.specs.Spelling.{request_text, FitsUpdateOf}
use Rattle.out_update.specs.Reading.{request_then}
use Rattle.out_update.specs.Replies.{is_code, one_of}
use Rattle.out_update.proofs.Requests.{inner_leads, inner_takes}
use Rattle.update_record.specs.declared.operation.Record.{Record}
use Rattle.update_record.specs.Spelling.{reply_code, is_answer, part_text, parts_text, record_magic, record_text, has_target, FitsPart, FitsParts, FitsRecord}
use Rattle.update_record.specs.Reading.{at_end, length_was, at_length, at_parts, at_count, at_code, at_client, at_stamp, at_batch, at_number, at_master, at_epoch, whole_record}
use Rattle.update_record.specs.Values.{answers}

-- ---- two tests

both : (a b : Bool) → a ≡ true → b ≡ true → (a && b) ≡ true
both true b h k = k
both false b h k = absurd cc

both_are : (a b : Bool) → (a && b) ≡ true → (a ≡ true) × (b ≡ true)
both_are true b h = (refl, h)
both_are false b h = absurd cc

pub or_cases : (a b : Bool) → (a || b) ≡ true → (a ≡ true) ⊎ (b ≡ true)
or_cases true b h = inl refl
or_cases false b h = inr h

or_assoc : (a b c : Bool) → ((a || b) || c) ≡ (a || (b || c))
or_assoc true b c = refl
or_assoc false b c = refl

within : (low high n : ℕ) → low ≤ n → n ≤ high → (nat_le low n && nat_le n high) ≡ true
within low high n a b = both (nat_le low n) (nat_le n high) (le-leb low n a) (le-leb n high b)

pub within_is : (low high n : ℕ) → (nat_le low n && nat_le n high) ≡ true → (low ≤ n) × (n ≤ high)
within_is low high n h = let t = both_are (nat_le low n) (nat_le n high) h in (leb-true low n t.0, leb-true n high t.1)

-- ---- answers

errno_known : (e : Errno) → is_code (errno_code e) ≡ true
errno_known EPERM = refl
errno_known _ = refl

errno_small : (e : Errno) → errno_code e < 2 ^ 32
errno_small EPERM = lit< tt
errno_small _ = lit< tt

answer_code : (r : Reply) → is_answer r ≡ true → is_code (reply_code r) ≡ true
answer_code replies.Ok h = refl
answer_code (replies.Err e) h = errno_known e
answer_code _ h = absurd cc

pub answer_small : (r : Reply) → reply_code r < 2 ^ 32
answer_small (replies.Err e) = errno_small e
answer_small _ = lit< tt

abbrev codes_of : List Reply → List ℕ
codes_of [] = []
codes_of (r ∷ rs) = reply_code r ∷ codes_of rs

known_in : (c : ℕ) (rs : List Reply) → AllByRecursion (λ r. is_answer r ≡ true) rs → one_of (codes_of rs) c ≡ true → (r : Reply) × (is_answer r ≡ true) × (reply_code r ≡ c)
known_in c [] a h = absurd cc
known_in c (r ∷ rs) a h =
    elim (or_cases (c == reply_code r) (one_of (codes_of rs) c) h) [
      | inl e ↦ (r, a.0, sym (eqb-true c (reply_code r) e))
      | inr e ↦ known_in c rs a.1 e
    ]

answer_known : (c : ℕ) → is_code c ≡ true → (r : Reply) × (is_answer r ≡ true) × (reply_code r ≡ c)
answer_known c h = known_in c answers (refl, (refl, (refl, (refl, (refl, (refl, (refl, (refl, (refl, (refl, (refl, (refl, (refl, tt))))))))))))) h

-- ---- the request of a part

check_leads : (l field len : ℕ) (next : Grammar) (p : ℕ) → p ≡ field + 4 + len → p ≤ l → Leads l (length_was field len next) next p []
unfolding length_was
check_leads l field len next p e le =
    let fits : p + 0 ≤ l = omega arith in
    subst (λ (b : Bool). Leads l (length_was field len next) (if b then next else refuse field BadLength) p []) (eq-eqb p (field + 4 + len) e)
    (field_leads l 0 (λ place bytes. if place == field + 4 + len then next else refuse field BadLength) p [] refl fits)

check_takes : (l field len : ℕ) (next : Grammar) (p : ℕ) (xs : List ℕ) (e : ℕ) → IsBytes xs → judge l (length_was field len next) p xs ≡ Done e → (p ≡ field + 4 + len) × Takes l next p xs e []
unfolding length_was
check_takes l field len next p xs e h d =
    let f = field_takes l 0 (λ place bytes. if place == field + 4 + len then next else refuse field BadLength) p xs e h d in
    let g = passed l (p == field + 4 + len) next field (p + length f.0) BadLength f.3.rest e f.3.goes_on in
    (eqb-true p (field + 4 + len) g.0, goes_as l _ next p xs e f.0 [] f.3 (nil_from_length f.0 f.1) g.1)

abbrev measured_text : List Update → List ℕ
measured_text us = word w32 (length (request_text us)) ++ request_text us

measured_leads : (l batch : ℕ) (us : List Update) (next : Grammar) (p : ℕ) → length us ≤ 128 → AllByRecursion (FitsUpdateOf (Some batch)) us → length (request_text us) < 2 ^ 32 → p + length (measured_text us) ≤ l
    → Leads l (at_length batch next) next p (measured_text us)
unfolding at_length
measured_leads l batch us next p few each small fits =
    let len = length (request_text us) in
    let four = wide32.len len in
    let all = length-append (word w32 len) (request_text us) in
    let p1 = p + length (word w32 len) in
    let check = length_was p len next in
    let a = subst (λ (m : ℕ). Leads l (at_length batch next) (request_then (Some batch) (length_was p m next)) p (word w32 len)) (wide32.again len small) (field_leads l 4 (λ field bytes. request_then (Some batch) (length_was field (worth w32 bytes) next)) p (word w32 len) four (omega arith)) in
    let b = inner_leads (Some batch) l us check p1 few each (omega arith) in
    let c = check_leads l p len next (p1 + len) (omega arith) (omega arith) in
    let bc = leads_then l (request_then (Some batch) check) check next p1 (request_text us) [] b c in
    let bc2 = subst (Leads l (request_then (Some batch) check) next p1) (append-nil (request_text us)) bc in
    leads_then l (at_length batch next) (request_then (Some batch) check) next p (word w32 len) (request_text us) a bc2

measured_takes : (l batch : ℕ) (next : Grammar) (p : ℕ) (xs : List ℕ) (e : ℕ) → IsBytes xs → judge l (at_length batch next) p xs ≡ Done e
    → (us : List Update) × (length us ≤ 128) × AllByRecursion (FitsUpdateOf (Some batch)) us × Takes l next p xs e (measured_text us)
unfolding at_length
measured_takes l batch next p xs e h d =
    let f = field_takes l 4 (λ field bytes. request_then (Some batch) (length_was field (worth w32 bytes) next)) p xs e h d in
    let n = worth w32 f.0 in
    let check = length_was p n next in
    let p1 = p + length f.0 in
    let t = inner_takes (Some batch) l check p1 f.3.rest e f.3.fits f.3.goes_on in
    let c = check_takes l p n next (p1 + length (request_text t.0)) t.3.rest e t.3.fits t.3.goes_on in
    let tc = joined l check next p1 f.3.rest e (request_text t.0) [] t.3 c.1 in
    let all = joined l _ next p xs e f.0 (request_text t.0 ++ []) f.3 tc in
    let n-is : length (request_text t.0) ≡ n = omega (arith, c.0, f.1) in
    let same : f.0 ++ (request_text t.0 ++ []) ≡ measured_text t.0 =
    ap (λ (x : List ℕ). f.0 ++ x) (append-nil (request_text t.0)) ∙ ap (λ (x : List ℕ). x ++ request_text t.0) (sym (wide32.back f.0 f.1 f.2) ∙ ap (word w32) (sym n-is)) in
    (t.0, t.1, t.2, subst (Takes l next p xs e) same all)

-- ---- the parts

-- whether the master was there, behind the parts
abbrev pub found_in : ℕ → Bool → List (ℕ × List Update) → Bool
found_in m found [] = found
found_in m found (part ∷ parts) = found_in m (found || (part.0 == m)) parts

found_is : (m : ℕ) (found : Bool) (parts : List (ℕ × List Update)) → found_in m found parts ≡ (found || has_target m parts)
found_is m true [] = refl
found_is m false [] = refl
found_is m found (part ∷ parts) = found_is m (found || (part.0 == m)) parts ∙ or_assoc found (part.0 == m) (has_target m parts)

part_leads : (l m b n least : ℕ) (found : Bool) (part : ℕ × List Update) (p : ℕ) → FitsPart b least part → l < 2 ^ 32 → p + length (part_text part) ≤ l
    → Leads l (at_parts m b (suc n) least found) (at_parts m b n (part.0 + 1) (found || (part.0 == m))) p (part_text part)
unfolding at_parts
part_leads l m b n least found part p h low fits =
    let t = part.0 in
    let us = part.1 in
    let next = at_parts m b n (t + 1) (found || (t == m)) in
    let four = wide32.len t in
    let four2 = wide32.len (length (request_text us)) in
    let all = length-append (word w32 t) (measured_text us) in
    let inner = length-append (word w32 (length (request_text us))) (request_text us) in
    let top = h.target in
    let a = number_leads l w32 wide32 BadValue (λ n. nat_le least n && nat_le n 15) (λ k. at_length b (at_parts m b n (k + 1) (found || (k == m)))) p t (omega arith) (within least 15 t h.rises h.target) (omega arith) in
    let c = measured_leads l b us next (p + length (word w32 t)) h.count h.each (omega arith) (omega arith) in
    leads_then l _ (at_length b next) next p (word w32 t) (measured_text us) a c

parts_lead : (l m b least : ℕ) (found : Bool) (parts : List (ℕ × List Update)) (p : ℕ) → FitsParts b least parts → l < 2 ^ 32 → p + length (parts_text parts) ≤ l
    → Leads l (at_parts m b (length parts) least found) (at_end (found_in m found parts)) p (parts_text parts)
unfolding FitsParts parts_text at_parts
parts_lead l m b least found [] p h low fits = λ rest. let e : p ≡ p + 0 = omega arith in ap (λ (q : ℕ). judge l (at_end found) q rest) e
parts_lead l m b least found (part ∷ parts) p h low fits =
    let seen = found || (part.0 == m) in
    let next = at_parts m b (length parts) (part.0 + 1) seen in
    let cut : parts_text (part ∷ parts) ≡ part_text part ++ parts_text parts = flat_map-cons part_text part parts in
    let len : length (parts_text (part ∷ parts)) ≡ length (part_text part) + length (parts_text parts) = ap length cut ∙ length-append (part_text part) (parts_text parts) in
    let a = part_leads l m b (length parts) least found part p h.0 low (omega arith) in
    let c = parts_lead l m b (part.0 + 1) seen parts (p + length (part_text part)) h.1 low (omega arith) in
    subst (Leads l (at_parts m b (suc (length parts)) least found) (at_end (found_in m seen parts)) p) (sym cut) (leads_then l _ next _ p (part_text part) (parts_text parts) a c)

parts_take : (l m b n least : ℕ) (found : Bool) (p : ℕ) (xs : List ℕ) (e : ℕ) → IsBytes xs → judge l (at_parts m b n least found) p xs ≡ Done e
    → (parts : List (ℕ × List Update)) × (length parts ≡ n) × FitsParts b least parts × Takes l (at_end (found_in m found parts)) p xs e (parts_text parts)
unfolding FitsParts parts_text at_parts
parts_take l m b zero least found p xs e h d = ([], refl, tt, record { rest = xs; parts = refl; fits = h; goes_on = let q : p + 0 ≡ p = omega arith in ap (λ (q : ℕ). judge l (at_end found) q xs) q ∙ d })
parts_take l m b (suc n) least found p xs e h d =
    let a = number_takes l w32 wide32 BadValue (λ t. nat_le least t && nat_le t 15) (λ t. at_length b (at_parts m b n (t + 1) (found || (t == m)))) p xs e h d in
    let t = a.0 in
    let bounds = within_is least 15 t a.2 in
    let seen = found || (t == m) in
    let next = at_parts m b n (t + 1) seen in
    let us = measured_takes l b next (p + length (word w32 t)) a.3.rest e a.3.fits a.3.goes_on in
    let part : ℕ × List Update = (t, us.0) in
    let first : Takes l next p xs e (part_text part) = joined l _ next p xs e (word w32 t) (measured_text us.0) a.3 us.3 in
    let ps = parts_take l m b n (t + 1) seen (p + length (part_text part)) first.rest e first.fits first.goes_on in
    let both = joined l next (at_end (found_in m seen ps.0)) p xs e (part_text part) (parts_text ps.0) first ps.3 in
    (part ∷ ps.0, ap (λ (k : ℕ). suc k) ps.1, (record { rises = bounds.0; target = bounds.1; count = us.1; each = us.2 }, ps.2), subst (Takes l (at_end (found_in m seen ps.0)) p xs e) (sym (flat_map-cons part_text part ps.0)) both)

end_leads : (l : ℕ) (found : Bool) (p : ℕ) → found ≡ true → p ≤ l → Leads l (at_end found) Ends p []
unfolding at_end
end_leads l found p h le =
    let fits : p + 0 ≤ l = omega arith in
    subst (λ (b : Bool). Leads l (at_end found) (if b then Ends else refuse 8 BadValue) p []) h (field_leads l 0 (λ place bytes. if found then Ends else refuse 8 BadValue) p [] refl fits)

end_takes : (l : ℕ) (found : Bool) (p : ℕ) (xs : List ℕ) (e : ℕ) → IsBytes xs → judge l (at_end found) p xs ≡ Done e → (found ≡ true) × Takes l Ends p xs e []
unfolding at_end
end_takes l found p xs e h d =
    let f = field_takes l 0 (λ place bytes. if found then Ends else refuse 8 BadValue) p xs e h d in
    let g = passed l found Ends 8 (p + length f.0) BadValue f.3.rest e f.3.goes_on in
    (g.0, goes_as l _ Ends p xs e f.0 [] f.3 (nil_from_length f.0 f.1) g.1)

-- ---- a record

-- its fields one after another
abbrev pub fields_text : Record → List ℕ
fields_text r =
    word w32 record_magic ++ (word w32 r.id.epoch ++ (word w32 r.id.master ++ (word w32 r.number ++ (word w64 r.id.batch ++ (word w64 r.stamp ++ (word w32 r.client
    ++ (word w32 (reply_code r.reply) ++ (word w32 (length r.parts) ++ (zeros 4 ++ parts_text r.parts)))))))))

pub in_fields : (r : Record) → record_text r ≡ fields_text r
in_fields r = simp append_assoc

pub length-record : (r : Record) → length (record_text r) ≡ 48 + length (parts_text r.parts)
length-record r = simp (length-append, length-zeros, wide32.len, wide64.len) (omega arith)

record_leads : (r : Record) → FitsRecord r → Leads 24576 whole_record Ends 0 (fields_text r)
unfolding whole_record at_epoch at_master at_number at_batch at_stamp at_client at_code at_count
record_leads r h =
    let l : ℕ = 24576 in
    let e = r.id.epoch in
    let m = r.id.master in
    let b = r.id.batch in
    let c = reply_code r.reply in
    let n = length r.parts in
    let size = h.size in
    let len = length-record r in
    let l0 = wide32.len record_magic in
    let l1 = wide32.len e in
    let l2 = wide32.len m in
    let l3 = wide32.len r.number in
    let l4 = wide64.len b in
    let l5 = wide64.len r.stamp in
    let l6 = wide32.len r.client in
    let l7 = wide32.len c in
    let l8 = wide32.len n in
    let l9 = length-zeros 4 in
    let p1 = 0 + length (word w32 record_magic) in
    let p2 = p1 + length (word w32 e) in
    let p3 = p2 + length (word w32 m) in
    let p4 = p3 + length (word w32 r.number) in
    let p5 = p4 + length (word w64 b) in
    let p6 = p5 + length (word w64 r.stamp) in
    let p7 = p6 + length (word w32 r.client) in
    let p8 = p7 + length (word w32 c) in
    let p9 = p8 + length (word w32 n) in
    let p10 = p9 + length (zeros 4) in
    let text = parts_text r.parts in
    let found = found_in m false r.parts in
    let gparts = at_parts m b n 0 false in
    let gzero = nothing 4 gparts in
    let there : found ≡ true = found_is m false r.parts ∙ h.master_in in
    let y = parts_lead l m b 0 false r.parts p10 h.each (lit< tt) (omega arith) in
    let z = end_leads l found (p10 + length text) there (omega arith) in
    let yz = subst (Leads l gparts Ends p10) (append-nil text) (leads_then l gparts (at_end found) Ends p10 text [] y z) in
    let x9 = nothing_leads l 4 gparts p9 (omega arith) in
    let t9 = leads_then l gzero gparts Ends p9 (zeros 4) text x9 yz in
    let x8 = number_leads l w32 wide32 BadCount (λ k. nat_le 1 k && nat_le k 16) (λ k. nothing 4 (at_parts m b k 0 false)) p8 n (omega (arith, h.few_parts)) (within 1 16 n h.some_part h.few_parts) (omega arith) in
    let t8 = leads_then l (at_count m b) gzero Ends p8 (word w32 n) _ x8 t9 in
    let x7 = number_leads l w32 wide32 BadValue is_code (λ _. at_count m b) p7 c (answer_small r.reply) (answer_code r.reply h.answer) (omega arith) in
    let t7 = leads_then l (at_code m b) (at_count m b) Ends p7 (word w32 c) _ x7 t8 in
    let x6 = number_leads l w32 wide32 BadValue (λ k. nat_le k 63) (λ _. at_code m b) p6 r.client (omega (arith, h.client)) (le-leb r.client 63 h.client) (omega arith) in
    let t6 = leads_then l (at_client m b) (at_code m b) Ends p6 (word w32 r.client) _ x6 t7 in
    let x5 = number_leads l w64 wide64 BadValue (λ k. nat_le 1 k) (λ _. at_client m b) p5 r.stamp h.stamp (le-leb 1 r.stamp h.stamp_set) (omega arith) in
    let t5 = leads_then l (at_stamp m b) (at_client m b) Ends p5 (word w64 r.stamp) _ x5 t6 in
    let x4 = number_leads l w64 wide64 BadValue (λ k. nat_le 1 k) (λ k. at_stamp m k) p4 b h.batch (le-leb 1 b h.batch_set) (omega arith) in
    let t4 = leads_then l (at_batch m) (at_stamp m b) Ends p4 (word w64 b) _ x4 t5 in
    let x3 = number_leads l w32 wide32 BadValue (λ k. nat_le 1 k && nat_le k 65536) (λ _. at_batch m) p3 r.number (omega (arith, h.number)) (within 1 65536 r.number h.number_set h.number) (omega arith) in
    let t3 = leads_then l (at_number m) (at_batch m) Ends p3 (word w32 r.number) _ x3 t4 in
    let x2 = number_leads l w32 wide32 BadValue (λ k. nat_le k 15) (λ k. at_number k) p2 m (omega (arith, h.master)) (le-leb m 15 h.master) (omega arith) in
    let t2 = leads_then l at_master (at_number m) Ends p2 (word w32 m) _ x2 t3 in
    let x1 = number_leads l w32 wide32 BadValue (λ k. nat_le 1 k) (λ _. at_master) p1 e h.epoch (le-leb 1 e h.epoch_set) (omega arith) in
    let t1 = leads_then l at_epoch at_master Ends p1 (word w32 e) _ x1 t2 in
    let x0 = number_leads l w32 wide32 BadMagic (λ k. k == record_magic) (λ _. at_epoch) 0 record_magic (lit< tt) refl (omega arith) in
    leads_then l whole_record at_epoch Ends 0 (word w32 record_magic) _ x0 t1

pub record_again : (r : Record) (rest : List ℕ) → FitsRecord r → judge 24576 whole_record 0 (record_text r ++ rest) ≡ Done (length (record_text r))
unfolding judge
record_again r rest h =
    let all = subst (Leads 24576 whole_record Ends 0) (sym (in_fields r)) (record_leads r h) in
    let e : 0 + length (record_text r) ≡ length (record_text r) = omega arith in
    all rest ∙ ap (λ (q : ℕ). Done q) e

place_of : {p k : ℕ} → Done p ≡ Done k → p ≡ k
place_of e = cc

-- what stands behind the batch
abbrev behind_text : ℕ → ℕ → Reply → List (ℕ × List Update) → List ℕ
behind_text stamp client reply parts = word w64 stamp ++ (word w32 client ++ (word w32 (reply_code reply) ++ (word w32 (length parts) ++ (zeros 4 ++ parts_text parts))))

record TakesBehind (m b p : ℕ) (xs : List ℕ) (e : ℕ) : Type 0 where
  stamp : ℕ
  client : ℕ
  reply : Reply
  parts : List (ℕ × List Update)
  stamp_set : 1 ≤ stamp
  stamp_fits : stamp < 2 ^ 64
  client_fits : client ≤ 63
  answer : is_answer reply ≡ true
  some_part : 1 ≤ length parts
  few_parts : length parts ≤ 16
  each : FitsParts b 0 parts
  master_in : has_target m parts ≡ true
  text : Takes 24576 Ends p xs e (behind_text stamp client reply parts)

record TakesParts (m b p : ℕ) (xs : List ℕ) (e : ℕ) : Type 0 where
  parts : List (ℕ × List Update)
  some_part : 1 ≤ length parts
  few_parts : length parts ≤ 16
  each : FitsParts b 0 parts
  master_in : has_target m parts ≡ true
  text : Takes 24576 Ends p xs e (word w32 (length parts) ++ (zeros 4 ++ parts_text parts))

same_count : (n : ℕ) (parts : List (ℕ × List Update)) → n ≡ length parts → word w32 n ++ (zeros 4 ++ parts_text parts) ≡ word w32 (length parts) ++ (zeros 4 ++ parts_text parts)
same_count n parts h = ap (λ (k : ℕ). word w32 k ++ (zeros 4 ++ parts_text parts)) h

count_takes : (m b p : ℕ) (xs : List ℕ) (e : ℕ) → IsBytes xs → judge 24576 (at_count m b) p xs ≡ Done e → TakesParts m b p xs e
unfolding at_count
count_takes m b p xs e h d =
    let l : ℕ = 24576 in
    let a8 = number_takes l w32 wide32 BadCount (λ k. nat_le 1 k && nat_le k 16) (λ k. nothing 4 (at_parts m b k 0 false)) p xs e h d in
    let n = a8.0 in
    let p9 = p + length (word w32 n) in
    let gparts = at_parts m b n 0 false in
    let a9 = nothing_takes l 4 gparts p9 a8.3.rest e a8.3.fits a8.3.goes_on in
    let p10 = p9 + length (zeros 4) in
    let ps = parts_take l m b n 0 false p10 a9.rest e a9.fits a9.goes_on in
    let text = parts_text ps.0 in
    let found = found_in m false ps.0 in
    let z = end_takes l found (p10 + length text) ps.3.rest e ps.3.fits ps.3.goes_on in
    let tp = joined l (at_end found) Ends p10 a9.rest e text [] ps.3 z.1 in
    let tp2 = subst (Takes l Ends p10 a9.rest e) (append-nil text) tp in
    let t9 = joined l gparts Ends p9 a8.3.rest e (zeros 4) text a9 tp2 in
    let t8 = joined l (nothing 4 gparts) Ends p xs e (word w32 n) _ a8.3 t9 in
    let bounds = within_is 1 16 n a8.2 in
    let many : length ps.0 ≡ n = ps.1 in
    record {
      parts = ps.0;
      some_part = omega (arith, bounds.0);
      few_parts = omega (arith, bounds.1);
      each = ps.2;
      master_in = sym (found_is m false ps.0) ∙ z.0;
      text = subst (Takes l Ends p xs e) (same_count n ps.0 (sym ps.1)) t8;
    }

behind_takes : (m b p : ℕ) (xs : List ℕ) (e : ℕ) → IsBytes xs → judge 24576 (at_stamp m b) p xs ≡ Done e → TakesBehind m b p xs e
unfolding at_stamp at_client at_code
behind_takes m b p xs e h d =
    let l : ℕ = 24576 in
    let a5 = number_takes l w64 wide64 BadValue (λ k. nat_le 1 k) (λ _. at_client m b) p xs e h d in
    let p6 = p + length (word w64 a5.0) in
    let a6 = number_takes l w32 wide32 BadValue (λ k. nat_le k 63) (λ _. at_code m b) p6 a5.3.rest e a5.3.fits a5.3.goes_on in
    let p7 = p6 + length (word w32 a6.0) in
    let a7 = number_takes l w32 wide32 BadValue is_code (λ _. at_count m b) p7 a6.3.rest e a6.3.fits a6.3.goes_on in
    let p8 = p7 + length (word w32 a7.0) in
    let ps = count_takes m b p8 a7.3.rest e a7.3.fits a7.3.goes_on in
    let back = word w32 (length ps.parts) ++ (zeros 4 ++ parts_text ps.parts) in
    let t7 = joined l (at_count m b) Ends p7 a6.3.rest e (word w32 a7.0) back a7.3 ps.text in
    let reply = answer_known a7.0 a7.2 in
    let c7 = subst (λ (c : ℕ). Takes l Ends p7 a6.3.rest e (word w32 c ++ back)) (sym reply.2) t7 in
    let t6 = joined l (at_code m b) Ends p6 a5.3.rest e (word w32 a6.0) (word w32 (reply_code reply.0) ++ back) a6.3 c7 in
    let t5 = joined l (at_client m b) Ends p xs e (word w64 a5.0) (word w32 a6.0 ++ (word w32 (reply_code reply.0) ++ back)) a5.3 t6 in
    record {
      stamp = a5.0;
      client = a6.0;
      reply = reply.0;
      parts = ps.parts;
      stamp_set = leb-true 1 a5.0 a5.2;
      stamp_fits = a5.1;
      client_fits = leb-true a6.0 63 a6.2;
      answer = reply.1;
      some_part = ps.some_part;
      few_parts = ps.few_parts;
      each = ps.each;
      master_in = ps.master_in;
      text = t5;
    }

same_magic : (n : ℕ) (r : Record) → n ≡ record_magic
    → word w32 n ++ (word w32 r.id.epoch ++ (word w32 r.id.master ++ (word w32 r.number ++ (word w64 r.id.batch ++ behind_text r.stamp r.client r.reply r.parts)))) ≡ record_text r
same_magic n r h = sym (in_fields r ∙ ap (λ (k : ℕ). word w32 k ++ (word w32 r.id.epoch ++ (word w32 r.id.master ++ (word w32 r.number ++ (word w64 r.id.batch ++ behind_text r.stamp r.client r.reply r.parts))))) (sym h))

pub record_takes : (xs : List ℕ) (e : ℕ) → IsBytes xs → judge 24576 whole_record 0 xs ≡ Done e → (r : Record) × FitsRecord r × (rest : List ℕ) × (xs ≡ record_text r ++ rest) × (e ≡ length (record_text r))
unfolding judge whole_record at_epoch at_master at_number at_batch
record_takes xs e h d =
    let l : ℕ = 24576 in
    let a0 = number_takes l w32 wide32 BadMagic (λ k. k == record_magic) (λ _. at_epoch) 0 xs e h d in
    let p1 = 0 + length (word w32 a0.0) in
    let a1 = number_takes l w32 wide32 BadValue (λ k. nat_le 1 k) (λ _. at_master) p1 a0.3.rest e a0.3.fits a0.3.goes_on in
    let p2 = p1 + length (word w32 a1.0) in
    let a2 = number_takes l w32 wide32 BadValue (λ k. nat_le k 15) (λ k. at_number k) p2 a1.3.rest e a1.3.fits a1.3.goes_on in
    let m = a2.0 in
    let p3 = p2 + length (word w32 m) in
    let a3 = number_takes l w32 wide32 BadValue (λ k. nat_le 1 k && nat_le k 65536) (λ _. at_batch m) p3 a2.3.rest e a2.3.fits a2.3.goes_on in
    let p4 = p3 + length (word w32 a3.0) in
    let a4 = number_takes l w64 wide64 BadValue (λ k. nat_le 1 k) (λ k. at_stamp m k) p4 a3.3.rest e a3.3.fits a3.3.goes_on in
    let b = a4.0 in
    let p5 = p4 + length (word w64 b) in
    let t = behind_takes m b p5 a4.3.rest e a4.3.fits a4.3.goes_on in
    let back = behind_text t.stamp t.client t.reply t.parts in
    let t4 = joined l (at_stamp m b) Ends p4 a3.3.rest e (word w64 b) back a4.3 t.text in
    let t3 = joined l (at_batch m) Ends p3 a2.3.rest e (word w32 a3.0) _ a3.3 t4 in
    let t2 = joined l (at_number m) Ends p2 a1.3.rest e (word w32 m) _ a2.3 t3 in
    let t1 = joined l at_master Ends p1 a0.3.rest e (word w32 a1.0) _ a1.3 t2 in
    let t0 = joined l at_epoch Ends 0 xs e (word w32 a0.0) _ a0.3 t1 in
    let r : Record = record { id = record { epoch = a1.0; master = m; batch = b }; stamp = t.stamp; number = a3.0; client = t.client; reply = t.reply; parts = t.parts } in
    let all : Takes l Ends 0 xs e (record_text r) = subst (Takes l Ends 0 xs e) (same_magic a0.0 r (eqb-true a0.0 record_magic a0.2)) t0 in
    let place : 0 + length (record_text r) ≡ e = place_of all.goes_on in
    let bound = done_place l whole_record 0 xs e d in
    let bounds = within_is 1 65536 a3.0 a3.2 in (
      r,
      record {
        epoch_set = leb-true 1 a1.0 a1.2;
        epoch = a1.1;
        master = leb-true m 15 a2.2;
        number_set = bounds.0;
        number = bounds.1;
        batch_set = leb-true 1 b a4.2;
        batch = a4.1;
        stamp_set = t.stamp_set;
        stamp = t.stamp_fits;
        client = t.client_fits;
        answer = t.answer;
        some_part = t.some_part;
        few_parts = t.few_parts;
        each = t.each;
        master_in = t.master_in;
        size = omega arith;
      },
      all.rest,
      all.parts,
      omega arith,
    )
